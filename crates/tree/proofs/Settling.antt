-- Settling one class after another settles them all.
use Rattle.std.proofs.Common.{◌≡◌, ℕ, ◌+◌, ◌-◌, ◌<◌, max, Bool, true, false, cond, not, ◌&&◌, ◌||◌, eqb, ltb, List, Some, Option, sym, refl, ap, ◌∙◌, inl, inr}
use mathlib.Core.Bool.{and-false, or-false}
use Rattle.std.proofs.lemmas.Bool.{cases_eq, ne_eqb}
use Rattle.base.specs.Charge.{charged}
use Rattle.rules.specs.Shape.{Shape, Sound}
use Rattle.tree.specs.Loads.{load}
use Rattle.tree.specs.Walks.{rests, settled}
use Rattle.tree.specs.declared.load.Load.{Load}
use Rattle.tree.proofs.Marks.{unmarked}
use Rattle.tree.proofs.Paths.{above, came, Walked, walk_none, walk_more, next_new}

-- the loads ms are what the loads ls are once the marked classes are settled
abbrev pub Settled : Shape → (ℕ → ℕ) → ℕ → Bool → List Load → List Load → (ℕ → Bool) → Type 0
Settled t w d gone ls ms on = (k : ℕ) → load ms k ≡ settled t w ls on d gone k

-- the load l of a class that is marked where `o`
abbrev pub less : Bool → Bool → Load → ℕ
less o gone l = cond (o && gone) (l.backlog - 1) l.backlog

abbrev pub idle : Bool → Bool → Load → Bool
idle o gone l = o && not (ltb 0 (less o gone l))

abbrev pub reach : Bool → Bool → Load → ℕ → ℕ
reach pos o l charge = cond (pos && o) (l.start.0 + charge) l.finish.0

abbrev pub restart : Bool → Bool → Bool → Load → ℕ → ℕ → ℕ
restart pos o gone l charge v = cond (pos && o && ltb 0 (less o gone l)) (max v (reach pos o l charge)) l.start.0

-- it is not the root where `pos`, its node has the virtual time v, and rests where `r`
abbrev settle : Bool → Bool → Bool → Load → ℕ → ℕ → Bool → Load
settle pos o gone l charge v r = record {
  backlog = less o gone l;
  start = record { 0 = restart pos o gone l charge v };
  finish = record { 0 = cond (pos && r) 0 (reach pos o l charge) };
  vtime = record { 0 = cond (idle o gone l) 0 l.vtime.0 };
}

-- what is 0 twice is 0
twice : (pos r r' : Bool) (x : ℕ) → cond (pos && r') 0 (cond (pos && r) 0 x) ≡ cond (pos && (r || r')) 0 x
twice false r r' x = refl
twice true false r' x = refl
twice true true false x = refl
twice true true true x = refl

-- a class that is not marked stays as it is where its node does not rest
settle_off : (pos gone : Bool) (l : Load) (charge v : ℕ) → settle pos false gone l charge v false ≡ l
settle_off pos gone l charge v = λ i. record {
  backlog = l.backlog;
  start = record { 0 = cond (unmarked pos (ltb 0 l.backlog) i) (max v (reach pos false l charge)) l.start.0 };
  finish = record { 0 = cond (and-false pos i) 0 (cond (and-false pos i) (l.start.0 + charge) l.finish.0) };
  vtime = record { 0 = l.vtime.0 };
}

-- a class that was settled, not marked again
settle_again : (pos o gone : Bool) (l : Load) (charge v v' : ℕ) (r r' : Bool) → settle pos false gone (settle pos o gone l charge v r) charge v' r' ≡ settle pos o gone l charge v (r || r')
settle_again pos o gone l charge v v' r r' =
    let m : Load = settle pos o gone l charge v r in
    (λ i. record {
      backlog = m.backlog;
      start = record { 0 = cond (unmarked pos (ltb 0 m.backlog) i) (max v' (reach pos false m charge)) m.start.0 };
      finish = record { 0 = cond (pos && r') 0 (cond (and-false pos i) (m.start.0 + charge) m.finish.0) };
      vtime = m.vtime;
    }) ∙ (λ i. record { backlog = m.backlog; start = m.start; finish = record { 0 = twice pos r r' (reach pos o l charge) i }; vtime = m.vtime })

module _ (t : Shape) (w : ℕ → ℕ) (d : ℕ) (gone : Bool) where
  -- a class that is not marked, and whose node is not, stays as it is
  pub settled_off : (ls : List Load) (on : ℕ → Bool) (k : ℕ) → on k ≡ false → on (t.parent k) ≡ false → settled t w ls on d gone k ≡ load ls k
  settled_off ls on k off off' =
      (λ i. settle (ltb 0 k) (off i) gone (load ls k) (charged d (w k)) (load ls (t.parent k)).vtime.0 (idle (off' i) gone (load ls (t.parent k))))
      ∙ settle_off (ltb 0 k) gone (load ls k) (charged d (w k)) (load ls (t.parent k)).vtime.0

  -- after the marked classes one more is settled, before the node above it
  module _ (ls ms : List Load) (on : ℕ → Bool) (was : (k : ℕ) → load ms k ≡ settled t w ls on d gone k) (c : ℕ) (new : on c ≡ false) (new' : on (t.parent c) ≡ false) where
    marked : (k : ℕ) → (c ≡ k → ⊥) → (on k || eqb c k) ≡ on k
    marked k n = ap (λ b. on k || b) (ne_eqb c k n) ∙ or-false (on k)

    added : (k : ℕ) → on k ≡ false → (on k || eqb c k) ≡ eqb c k
    added k off = ap (λ b. b || eqb c k) off

    -- a class that was not marked counts what it did
    unmoved : (k : ℕ) → on k ≡ false → (load ms k).backlog ≡ (load ls k).backlog
    unmoved k off = ap (λ l. l.backlog) (was k) ∙ ap (λ o. less o gone (load ls k)) off

    -- the nodes that rest now
    rests_more : (p : ℕ) → rests t w ls (λ j. on j || eqb c j) d gone p ≡ (rests t w ls on d gone p || rests t w ms (eqb c) d gone p)
    rests_more p = elim (cases_eq c p) [
      | inl e ↦
          let off : on p ≡ false = sym (ap on e) ∙ new in
          (λ i. added p off i && not (ltb 0 (cond (added p off i && gone) (sym (unmoved p off) i - 1) (sym (unmoved p off) i))))
          ∙ sym (ap (λ o. idle o gone (load ls p) || rests t w ms (eqb c) d gone p) off)
      | inr n ↦
          ap (λ o. idle o gone (load ls p)) (marked p n)
          ∙ sym (or-false (rests t w ls on d gone p))
          ∙ ap (λ o. rests t w ls on d gone p || o) (sym (ap (λ o. idle o gone (load ms p)) (ne_eqb c p n)))
    ]

    settled_more : (k : ℕ) → settled t w ms (eqb c) d gone k ≡ settled t w ls (λ j. on j || eqb c j) d gone k
    settled_more k = elim (cases_eq c k) [
      | inl e ↦
          let off : on k ≡ false = sym (ap on e) ∙ new in
          let off' : on (t.parent k) ≡ false = sym (ap (λ j. on (t.parent j)) e) ∙ new' in
          let here : load ms k ≡ load ls k = was k ∙ settled_off ls on k off off' in
          let node : (load ms (t.parent k)).vtime.0 ≡ (load ls (t.parent k)).vtime.0 = ap (λ l. l.vtime.0) (was (t.parent k)) ∙ ap (λ o. cond (idle o gone (load ls (t.parent k))) 0 (load ls (t.parent k)).vtime.0) off' in
          let rest : rests t w ms (eqb c) d gone (t.parent k) ≡ rests t w ls (λ j. on j || eqb c j) d gone (t.parent k) =
          ap (λ o. idle o gone (load ls (t.parent k)) || rests t w ms (eqb c) d gone (t.parent k)) (sym off') ∙ sym (rests_more (t.parent k)) in
          (λ i. settle (ltb 0 k) (sym (added k off) i) gone (here i) (charged d (w k)) (node i) (rest i))
      | inr n ↦
          (λ i. settle (ltb 0 k) (ne_eqb c k n i) gone (was k i) (charged d (w k)) (load ms (t.parent k)).vtime.0 (rests t w ms (eqb c) d gone (t.parent k)))
          ∙ settle_again (ltb 0 k) (on k) gone (load ls k) (charged d (w k)) (load ls (t.parent k)).vtime.0 (load ms (t.parent k)).vtime.0 (rests t w ls on d gone (t.parent k)) (rests t w ms (eqb c) d gone (t.parent k))
          ∙ (λ i. settle (ltb 0 k) (sym (marked k n) i) gone (load ls k) (charged d (w k)) (load ls (t.parent k)).vtime.0 (sym (rests_more (t.parent k)) i))
    ]

  -- along a path
  module _ (ok : Sound t) (leaf : ℕ) (known : leaf < t.count) (ls : List Load) where
    abbrev pub Settling : List Load → Option ℕ → Type 0
    Settling ms next = Walked t leaf (Settled t w d gone ls ms) next

    pub settling_none : Settling ls (Some leaf)
    settling_none = walk_none ok leaf known (Settled t w d gone ls ls) (λ k. sym (settled_off ls (λ _. false) k refl refl))

    module _ (ms : List Load) (next : Option ℕ) (c : ℕ) (is : next ≡ Some c) (was : Settling ms next) where
      next_off : (came t leaf next c ≡ false) × (came t leaf next (t.parent c) ≡ false)
      next_off = next_new ok leaf known next c is was.0

      -- the next class is as it was
      pub settling_here : load ms c ≡ load ls c
      settling_here = was.1 c ∙ settled_off ls (came t leaf next) c next_off.0 next_off.1

      pub settling_more : (ns : List Load) (next' : Option ℕ) → next' ≡ above t c → Settled t w d gone ms ns (eqb c) → Settling ns next'
      settling_more ns next' e more =
          walk_more ok leaf known next c is was.0 (Settled t w d gone ls ns) next' e (λ k. more k ∙ settled_more ls ms (came t leaf next) was.1 c next_off.0 next_off.1 k)
