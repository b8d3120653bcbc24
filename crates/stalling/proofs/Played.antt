-- One draw more.
use Rattle.std.proofs.Common.{◌≡◌, ℕ, ◌+◌, ◌-◌, ◌<◌, ◌≤◌, cond, eqb, List, [], ◌∷◌, ◌++◌, length, sym, refl, ap, ◌∙◌, subst, arith}
use Rattle.std.proofs.lemmas.List.{length_push}
use Rattle.std.proofs.lemmas.List.Sums.{count_by-le-length, sum_by-cons, sum_by_push}
use Rattle.stalling.specs.declared.draw.Draw.{Draw}
use Rattle.stalling.specs.Draws.{done_by, idle_of}
use Rattle.stalling.specs.Plays.{Plays}

-- what is known after some draws of an item: where the server is, how many there were, how many did nothing, what is left
pub record Sofar {S : Type 0} (draws : S → ℕ → ℕ → S → Type 0) (s : S) (cost : ℕ) (xs : List Draw) (t : S) (number idle left : ℕ) : Type 0 where
  pub plays : Plays draws s 0 cost xs t
  pub count : length xs ≡ number
  pub idled : idle ≡ idle_of xs
  pub few : idle ≤ number
  pub rest : left + done_by xs ≡ cost

module _ {S : Type 0} (draws : S → ℕ → ℕ → S → Type 0) where
  plays_more : (s : S) (k left : ℕ) (xs : List Draw) (t : S) (x : Draw) (u : S) → Plays draws s k left xs t → 0 < left - done_by xs → x.number ≡ k + length xs → x.wanted ≡ left - done_by xs → draws t x.wanted x.done u → Plays draws s k left (xs ++ x ∷ []) u
  plays_more s k left [] t x u p some number wanted d =
      let all : x.wanted ≡ left = omega arith in
      let from : draws t left x.done u = subst (λ n. draws t n x.done u) all d in
      (omega arith, omega arith, all, (u, subst (λ v. draws v left x.done u) (sym p) from, refl))
  plays_more s k left (y ∷ xs) t x u p some number wanted d =
      let rest = p.3 in
      let less : done_by (y ∷ xs) ≡ y.done + done_by xs = sum_by-cons (λ x. x.done) y xs in
      (p.0, p.1, p.2, (rest.0, rest.1, plays_more rest.0 (k + 1) (left - y.done) xs t x u rest.2 (omega arith) (omega arith) (omega arith) d))

  pub sofar_more : (s : S) (cost : ℕ) (xs : List Draw) (t : S) (number idle left : ℕ) → Sofar draws s cost xs t number idle left → 0 < left → (d : ℕ) (u : S) → d ≤ left → draws t left d u → (more : ℕ) → more ≡ idle + cond (eqb d 0) 1 0 → (ys : List Draw) → ys ≡ xs ++ record { number = number; wanted = left; done = d } ∷ [] → Sofar draws s cost ys u (number + 1) more (left - d)
  sofar_more s cost xs t number idle left h some d u within drew more idled ys e =
      let x : Draw = record { number = number; wanted = left; done = d } in
      let rest = h.rest in
      let to_do : left ≡ cost - done_by xs = omega arith in
      let count : length ys ≡ number + 1 = rw e (length_push xs x ∙ ap (λ n. n + 1) h.count) in
      let idles : more ≡ idle_of ys = rw e (idled ∙ ap (λ n. n + cond (eqb d 0) 1 0) h.idled ∙ sym (sum_by_push (λ y. cond (eqb y.done 0) 1 0) xs x)) in
      record {
        plays = rw e (plays_more s 0 cost xs t x u h.plays (omega arith) (omega (arith, h.count)) to_do drew);
        count = count;
        idled = idles;
        few = omega (arith, count_by-le-length (λ y. eqb y.done 0) ys);
        rest = rw e (omega (arith, sum_by_push (λ y. y.done) xs x));
      }
