-- What every history keeps of the counts, the lanes and the open turn. Assumes nothing.
use Rattle.std.proofs.Common.{◌≡◌, ℕ, ◌+◌, ◌-◌, ◌<◌, ◌≤◌, true, false, cond, eqb, List, [], ◌∷◌, length, Some, None, Option, sym, refl, ap, ◌∙◌, subst, subst₂, inl, inr, arith}
use Rattle.std.proofs.lemmas.List.{length_push}
use Rattle.std.proofs.lemmas.Bool.{cases_eq, both_ways, cond_both}
use Rattle.std.proofs.lemmas.Bool.Decides.{nat_tests}
use Rattle.rules.specs.Shape.{Shape, Sound, under, leaf}
use Rattle.rules.specs.Kind.{Kind}
use Rattle.rules.specs.State.{Opening, Valid, Turn, State, put, backlogged_by, backlogged, open_turn}
use Rattle.rules.specs.Rules.{Call, submit, dispatch, pulse, end_turn, give_up, closed, head_cost, may_stop, settled, answer, effect}
use Rattle.rules.specs.Ready.{Ready}
use Rattle.rules.specs.History.{Entry, entry, Run, Service, turn_after, serves_by, done_more, turns_given, charge}
use Rattle.rules.proofs.Tests.{put_both, not_some, some_same}
use Rattle.rules.proofs.Tree.{under_below, below_under}
use Rattle.rules.proofs.Backlog.{busy_more, busy_from}
use Rattle.rules.proofs.Picks.{picks}
use Rattle.rules.proofs.Calls.{by_calls}

-- the open turn as a history tells it
abbrev pub told : {I : Type 0} → State I → Option Turn → Option Service
told s None = None
told s (Some u) = Some (record { grant = record { house = s.house; turn = s.turns }; leaf = u.leaf; done = u.done })

-- the counts after a closing: changed at leaf c alone, and grown nowhere
pub record Closes (c : ℕ) (q queued : ℕ → ℕ) : Type 0 where
  pub off : (l : ℕ) → (l ≡ c → ⊥) → queued l ≡ q l
  pub le : (l : ℕ) → queued l ≤ q l

-- a giving up changes no count
pub given_up_closes : (q : ℕ → ℕ) (c : ℕ) → Closes c q q
given_up_closes q c = record { off = λ _ _. refl; le = λ _. omega arith }

-- an ending takes at most the head
pub ended_closes : (q : ℕ → ℕ) (u : Turn) → Closes u.leaf q (put q u.leaf (cond (eqb u.done u.cost) (q u.leaf - 1) (q u.leaf)))
ended_closes q u =
    let n = cond (eqb u.done u.cost) (q u.leaf - 1) (q u.leaf) in
    record {
      off = λ l ne. put_both q u.leaf n l (λ i. i ≡ q l) (λ e. absurd (ne e)) (λ _. refl);
      le = λ l. put_both q u.leaf n l (λ i. i ≤ q l) (λ e. rw e (cond_both (eqb u.done u.cost) (q u.leaf - 1) (q u.leaf) (λ i. i ≤ q u.leaf) (λ _. omega arith) (λ _. omega arith))) (λ _. omega arith);
    }

module _ {t : Shape} (ok : Sound t) (c : ℕ) (q queued : ℕ → ℕ) (x : Closes c q queued) where
  -- what is backlogged after a closing was so before
  pub busy_before : (k : ℕ) → backlogged_by t queued k ≡ true → backlogged_by t q k ≡ true
  busy_before k = busy_more ok q queued k (λ l _ _. x.le l)

  -- away from the leaf what was backlogged still is
  pub busy_after : (k : ℕ) → under t k c ≡ false → backlogged_by t q k ≡ true → backlogged_by t queued k ≡ true
  busy_after k away = busy_more ok queued q k (λ l lt b. elim (cases_eq l c) [
    | inl same ↦ absurd (both_ways _ away (subst (λ i. under t k i ≡ true) same (below_under ok lt b)))
    | inr other ↦ omega (arith, x.off l other)
  ])

module _ {I : Type 0} (K : Kind I) where
  -- an ended turn takes the head from its lane when all its cost is done
  settled_length : (xs : List I) (d c q : ℕ) → head_cost K xs ≡ c → may_stop K xs d ≡ true → length xs ≡ q → length (settled K xs d) ≡ cond (eqb d c) (q - 1) q
  settled_length [] d c q e m l = absurd (both_ways _ refl m)
  settled_length (x ∷ xs) d c q e m l = grind (arith, nat_tests)

  module _ (o : Opening) where
    -- tree and shelf stay as they were opened; only leaves of the tree hold items, as many as are counted; phase and turn number are what the history tells
    pub record Consistent (h : List (Entry I)) (s : State I) : Type 0 where
      pub frame : (s.house ≡ o.house) × (s.shape ≡ o.shape) × (s.weight ≡ o.weight) × (s.places ≡ o.places)
      pub leaves : (l : ℕ) → 0 < s.queued l → leaf s.shape l ≡ true
      pub known : (l : ℕ) → 0 < s.queued l → l < s.shape.count
      pub full : (l : ℕ) → length (s.lane l) ≡ s.queued l
      pub turn : turn_after h ≡ told s s.phase
      pub turns : s.turns ≡ turns_given h

    -- each accepted call keeps this
    consistent_after : (h : List (Entry I)) (s : State I) (c : Call I) (d : ℕ) → Ready K s c → Consistent h s → Consistent (entry c (answer K s c d) ∷ h) (effect K s c d)
    consistent_after h s (submit c x) d r k = record {
      frame = k.frame;
      leaves = λ l. put_both s.queued c (s.queued c + 1) l (λ n. 0 < n → leaf s.shape l ≡ true) (λ e _. rw e r.ends) (λ _. k.leaves l);
      known = λ l. put_both s.queued c (s.queued c + 1) l (λ n. 0 < n → l < s.shape.count) (λ e _. omega (arith, r.known)) (λ _. k.known l);
      full = λ l. let w = k.full l in let v = k.full c in let p = length_push (s.lane c) x in grind (arith, nat_tests);
      turn = k.turn;
      turns = omega (arith, k.turns);
    }
    consistent_after h s dispatch d r k = record { frame = k.frame; leaves = k.leaves; known = k.known; full = k.full; turn = refl; turns = omega (arith, k.turns) }
    consistent_after h s (pulse x) d r k = record { frame = k.frame; leaves = k.leaves; known = k.known; full = k.full; turn = ap (done_more d) (k.turn ∙ ap (told s) r.opened); turns = omega (arith, k.turns) }
    consistent_after h s (end_turn x) d (n, r) k =
        let u = open_turn s in
        let fewer = (ended_closes s.queued u).le in
        record {
          frame = k.frame;
          leaves = λ l z. k.leaves l (omega (arith, fewer l));
          known = λ l z. k.known l (omega (arith, fewer l));
          full = λ l. let w = k.full l in let p = settled_length (s.lane u.leaf) u.done u.cost (s.queued u.leaf) r.cost r.stops r.full in grind (arith, nat_tests);
          turn = refl;
          turns = omega (arith, k.turns);
        }
    consistent_after h s (give_up x) d r k = record { frame = k.frame; leaves = k.leaves; known = k.known; full = k.full; turn = refl; turns = omega (arith, k.turns) }

    -- every history keeps it
    pub consistent : {h : List (Entry I)} {s : State I} → Run K o h s → Consistent h s
    consistent = by_calls K o Consistent
        (record { frame = (refl, refl, refl, refl); leaves = λ l z. absurd (omega arith); known = λ l z. omega arith; full = λ l. refl; turn = refl; turns = refl })
        (λ h s c n _ k. record { frame = k.frame; leaves = k.leaves; known = k.known; full = k.full; turn = k.turn; turns = omega (arith, k.turns) })
        (λ h s c d _ r _ k. consistent_after h s c d r k)

    module _ {h : List (Entry I)} {s : State I} (k : Consistent h s) (opened : s.phase ≡ Some (open_turn s)) where
      -- the history tells the open turn
      pub told_turn : turn_after h ≡ Some (record { grant = record { house = s.house; turn = s.turns }; leaf = (open_turn s).leaf; done = (open_turn s).done })
      told_turn = k.turn ∙ ap (told s) opened

      -- its closing charges d to each class above its leaf
      pub charge_on : (c : Call I) (i d : ℕ) → under s.shape i (open_turn s).leaf ≡ true → charge s.shape i (entry c (closed d)) h ≡ d
      charge_on c i d on = ap (λ x. cond (serves_by s.shape i x) d 0) told_turn ∙ ap (λ b. cond b d 0) on

      -- and nothing to any other class
      pub charge_off : (c : Call I) (i d : ℕ) → under s.shape i (open_turn s).leaf ≡ false → charge s.shape i (entry c (closed d)) h ≡ 0
      charge_off c i d off = ap (λ x. cond (serves_by s.shape i x) d 0) told_turn ∙ ap (λ b. cond b d 0) off

    module _ (ok : Valid o) where
      -- the tree is sound
      pub sound : {h : List (Entry I)} {s : State I} → Consistent h s → Sound s.shape
      sound k = subst Sound (sym k.frame.1) ok.sound

      -- its weights are 1 to 16
      pub weighed : {h : List (Entry I)} {s : State I} → Consistent h s → (k : ℕ) → k < s.shape.count → (1 ≤ s.weight k) × (s.weight k ≤ 16)
      weighed k = subst₂ (λ t w. (i : ℕ) → i < t.count → (1 ≤ w i) × (w i ≤ 16)) (sym k.frame.1) (sym k.frame.2) ok.weights

      -- the open turn serves a leaf whose lane holds an item
      abbrev Serving : List (Entry I) → State I → Type 0
      Serving h s = (u : Turn) → s.phase ≡ Some u → 0 < s.queued u.leaf

      -- each accepted call keeps this
      serving_after : (h : List (Entry I)) (s : State I) (c : Call I) (d : ℕ) → Run K o h s → Ready K s c → Serving h s → Serving (entry c (answer K s c d) ∷ h) (effect K s c d)
      serving_after h s (submit c x) d r q k u e = let z = k u e in put_both s.queued c (s.queued c + 1) u.leaf (λ n. 0 < n) (λ _. omega arith) (λ _. z)
      serving_after h s dispatch d r q k u e = subst (λ v. 0 < s.queued v.leaf) (some_same e) (picks s (sound (consistent r)) (consistent r).leaves q.busy).1
      serving_after h s (pulse x) d r q k u e = subst (λ v. 0 < s.queued v.leaf) (some_same e) (k (open_turn s) q.opened)
      serving_after h s (end_turn x) d r q k u e = absurd (not_some e)
      serving_after h s (give_up x) d r q k u e = absurd (not_some e)

      -- every history keeps it
      pub serving : {h : List (Entry I)} {s : State I} → Run K o h s → Serving h s
      serving = by_calls K o Serving (λ u e. absurd (not_some e)) (λ h s c n _ k. k) (λ h s c d r q _ k. serving_after h s c d r q k)

      -- so that leaf is a class of the tree
      pub open_known : {h : List (Entry I)} {s : State I} → Run K o h s → (u : Turn) → s.phase ≡ Some u → u.leaf < s.shape.count
      open_known r u e = (consistent r).known u.leaf (serving r u e)

      -- every class above that leaf is backlogged
      pub open_busy : {h : List (Entry I)} {s : State I} → Run K o h s → (u : Turn) → s.phase ≡ Some u → (k : ℕ) → under s.shape k u.leaf ≡ true → backlogged s k ≡ true
      open_busy {s = s} r u e k on = busy_from (sound (consistent r)) s.queued k (record { lane = u.leaf; known = open_known r u e; below = under_below (sound (consistent r)) on; some = serving r u e })
