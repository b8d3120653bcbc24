-- The virtual times on a path are set one after another, from the leaf up.
use Rattle.std.proofs.Common.{◌≡◌, ℕ, ◌<◌, ◌≤◌, true, false, cond, not, ◌&&◌, ◌||◌, eqb, List, length, set, Some, None, sym, refl, ap, ◌∙◌, subst, inl, inr, arith}
use Rattle.std.proofs.lemmas.Bool.{both_ways, cases_eq, eq-eqb, ne_eqb}
use Rattle.rules.specs.Shape.{Shape, Sound, under}
use Rattle.rules.proofs.Tree.{under_le, under_parent}
use Rattle.base.specs.declared.units.Parts.{Parts}
use Rattle.tree.specs.Loads.{load}
use Rattle.tree.specs.Walks.{Advanced}
use Rattle.tree.specs.declared.load.Load.{Load}
use Rattle.tree.proofs.Paths.{above, above_none, above_some, path_known, under_self, under_step, under_zero}
use Rattle.tree.proofs.Writes.{written}

-- the nodes above the classes of the path that come before c have their virtual times
pub record Advancing (t : Shape) (leaf : ℕ) (ls ms : List Load) (c : ℕ) : Type 0 where
  pub path : under t c leaf ≡ true
  pub same : (k : ℕ) → ((load ms k).backlog ≡ (load ls k).backlog) × ((load ms k).start ≡ (load ls k).start) × ((load ms k).finish ≡ (load ls k).finish)
  pub on : (k : ℕ) → 0 < k → under t k leaf ≡ true → under t k c ≡ false → (c ≤ t.parent k) × ((load ms (t.parent k)).vtime ≡ (load ls k).start)
  pub off : (k : ℕ) → (under t k leaf && not (eqb k leaf)) ≡ false → (load ms k).vtime ≡ (load ls k).vtime

-- the load l with another virtual time
abbrev timed : Load → Parts → Load
timed l v = record { backlog = l.backlog; start = l.start; finish = l.finish; vtime = v }

module _ {t : Shape} (ok : Sound t) (leaf : ℕ) (known : leaf < t.count) (ls : List Load) where
  pub advancing_none : Advancing t leaf ls ls leaf
  advancing_none = record {
    path = under_self ok known;
    same = λ k. (refl, refl, refl);
    on = λ k pos u n. absurd (both_ways (under t k leaf) n u);
    off = λ k e. refl;
  }

  module _ (ms : List Load) (c : ℕ) (was : Advancing t leaf ls ms c) where
    pub advancing_known : c < t.count
    advancing_known = path_known ok leaf known was.path

    -- at the root all are set
    pub advancing_all : None ≡ above t c → Advanced t leaf ls ms
    advancing_all e = let z = above_none t c e advancing_known in record {
      same = was.same;
      on = λ k pos u. (was.on k pos u (ap (under t k) z ∙ under_zero ok k ∙ ne_eqb k 0 (omega arith))).1;
      off = was.off;
    }

    -- the node above c takes the start tag of c
    module _ (pos : 0 < c) (x : Load) (low : t.parent c < length ms) (made : x ≡ timed (load ms (t.parent c)) (load ms c).start) where
      wrote : (k : ℕ) → load (set ms (t.parent c) x) k ≡ timed (load ms k) (cond (eqb (t.parent c) k) (load ms c).start (load ms k).vtime)
      wrote k = written ms (t.parent c) x low k ∙ elim (cases_eq (t.parent c) k) [
        | inl e ↦ rw (eq-eqb (t.parent c) k e) (made ∙ ap (λ j. timed (load ms j) (load ms c).start) e)
        | inr e ↦ rw (ne_eqb (t.parent c) k e) refl
      ]

      more : Advancing t leaf ls (set ms (t.parent c) x) (t.parent c)
      more =
          let less = ok.earlier c pos in
          record {
            path = under_parent ok c leaf known was.path;
            same = λ k. let (b, s, f) = was.same k in (ap (λ l. l.backlog) (wrote k) ∙ b, ap (λ l. l.start) (wrote k) ∙ s, ap (λ l. l.finish) (wrote k) ∙ f);
            on = λ k some u n. elim (cases_eq k c) [
              | inl e ↦ (
                omega (arith, ap t.parent e),
                ap (λ l. l.vtime) (wrote (t.parent k))
                    ∙ ap (λ b. cond b (load ms c).start (load ms (t.parent k)).vtime) (eq-eqb (t.parent c) (t.parent k) (ap t.parent (sym e)))
                    ∙ (was.same c).1 ∙ ap (λ j. (load ls j).start) (sym e),
              )
              | inr e ↦
                  let off : under t k c ≡ false = under_step ok k pos advancing_known ∙ ap (λ b. b || under t k (t.parent c)) (ne_eqb k c e) ∙ n in
                  let (high, time) = was.on k some u off in (
                    omega arith,
                    ap (λ l. l.vtime) (wrote (t.parent k))
                        ∙ ap (λ b. cond b (load ms c).start (load ms (t.parent k)).vtime) (ne_eqb (t.parent c) (t.parent k) (λ z. omega arith))
                        ∙ time,
                  )
            ];
            off = λ k e. elim (cases_eq (t.parent c) k) [
              | inl z ↦
                  let above : under t k leaf ≡ true = sym (ap (λ j. under t j leaf) z) ∙ under_parent ok c leaf known was.path in
                  let le = under_le ok c leaf was.path in
                  let apart : (under t k leaf && not (eqb k leaf)) ≡ true = rw (above, ne_eqb k leaf (λ y. omega arith)) refl in
                  absurd (both_ways (under t k leaf && not (eqb k leaf)) e apart)
              | inr z ↦ ap (λ l. l.vtime) (wrote k) ∙ ap (λ b. cond b (load ms c).start (load ms k).vtime) (ne_eqb (t.parent c) k z) ∙ was.off k e
            ];
          }

    pub advancing_more : (node : ℕ) (x : Load) → Some node ≡ above t c → node < length ms → x ≡ timed (load ms node) (load ms c).start → Advancing t leaf ls (set ms node x) node
    advancing_more node x e =
        let (pos, lt, is) = above_some t c node e in
        let P : ℕ → Type 0 = λ n. n < length ms → x ≡ timed (load ms n) (load ms c).start → Advancing t leaf ls (set ms n x) n in
        subst P is (more pos x)
