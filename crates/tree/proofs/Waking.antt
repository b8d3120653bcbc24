-- Waking one class after another wakes them all.
use Rattle.std.proofs.Common.{◌≡◌, ℕ, ◌+◌, ◌<◌, max, Bool, false, cond, ◌&&◌, ◌||◌, eqb, ltb, List, Some, Option, sym, refl, ap, ◌∙◌, inl, inr}
use mathlib.Core.Bool.{or-false}
use Rattle.std.proofs.lemmas.Bool.{cases_eq, ne_eqb}
use Rattle.rules.specs.Shape.{Shape, Sound}
use Rattle.tree.specs.Loads.{load}
use Rattle.tree.specs.Walks.{woken}
use Rattle.tree.specs.declared.load.Load.{Load}
use Rattle.tree.proofs.Marks.{unmarked}
use Rattle.tree.proofs.Paths.{above, came, Walked, walk_none, walk_more, next_new}

-- the loads ms are what the loads ls are once the marked classes are awake
abbrev pub Woke : Shape → List Load → List Load → (ℕ → Bool) → Type 0
Woke t ls ms on = (k : ℕ) → load ms k ≡ woken t ls on k

-- the load l, in a class that is not the root where `pos`, below a node with the virtual time v, where `o` marks it
abbrev woke : Bool → Bool → Load → ℕ → Load
woke pos o l v = record {
  backlog = cond o (l.backlog + 1) l.backlog;
  start = record { 0 = cond (pos && o && eqb l.backlog 0) (max v l.finish.0) l.start.0 };
  finish = l.finish;
  vtime = l.vtime;
}

module _ (t : Shape) where
  -- a class that is not marked stays as it is
  pub woken_off : (ls : List Load) (on : ℕ → Bool) (k : ℕ) → on k ≡ false → woken t ls on k ≡ load ls k
  woken_off ls on k off =
      ap (λ o. woke (ltb 0 k) o (load ls k) (load ls (t.parent k)).vtime.0) off
      ∙ (λ i. record { backlog = (load ls k).backlog; start = record { 0 = cond (unmarked (ltb 0 k) (eqb (load ls k).backlog 0) i) (max (load ls (t.parent k)).vtime.0 (load ls k).finish.0) (load ls k).start.0 }; finish = (load ls k).finish; vtime = (load ls k).vtime })

  -- only the mark of the class itself counts
  pub woken_alike : (ls : List Load) (on off : ℕ → Bool) (k : ℕ) → on k ≡ off k → woken t ls on k ≡ woken t ls off k
  woken_alike ls on off k e = ap (λ o. woke (ltb 0 k) o (load ls k) (load ls (t.parent k)).vtime.0) e

  -- after the marked classes one more wakes
  module _ (ls ms : List Load) (on : ℕ → Bool) (was : (k : ℕ) → load ms k ≡ woken t ls on k) (c : ℕ) (new : on c ≡ false) where
    marked : (k : ℕ) → (c ≡ k → ⊥) → on k ≡ (on k || eqb c k)
    marked k n = sym (ap (λ b. on k || b) (ne_eqb c k n) ∙ or-false (on k))

    added : (k : ℕ) → c ≡ k → eqb c k ≡ (on k || eqb c k)
    added k e = sym (ap (λ b. b || eqb c k) (sym (ap on e) ∙ new))

    here : (k : ℕ) → c ≡ k → load ms k ≡ load ls k
    here k e = was k ∙ woken_off ls on k (sym (ap on e) ∙ new)

    woken_more : (k : ℕ) → woken t ms (eqb c) k ≡ woken t ls (λ j. on j || eqb c j) k
    woken_more k = elim (cases_eq c k) [
      | inl e ↦ (λ i. woke (ltb 0 k) (added k e i) (here k e i) (was (t.parent k) i).vtime.0)
      | inr n ↦ woken_off ms (eqb c) k (ne_eqb c k n) ∙ was k ∙ woken_alike ls on (λ j. on j || eqb c j) k (marked k n)
    ]

  -- along a path
  module _ (ok : Sound t) (leaf : ℕ) (known : leaf < t.count) (ls : List Load) where
    abbrev pub Waking : List Load → Option ℕ → Type 0
    Waking ms next = Walked t leaf (Woke t ls ms) next

    pub waking_none : Waking ls (Some leaf)
    waking_none = walk_none ok leaf known (Woke t ls ls) (λ k. sym (woken_off ls (λ _. false) k refl))

    module _ (ms : List Load) (next : Option ℕ) (c : ℕ) (is : next ≡ Some c) (was : Waking ms next) where
      new : came t leaf next c ≡ false
      new = (next_new ok leaf known next c is was.0).0

      -- the next class is as it was
      pub waking_here : load ms c ≡ load ls c
      waking_here = was.1 c ∙ woken_off ls (came t leaf next) c new

      pub waking_more : (ns : List Load) (next' : Option ℕ) → next' ≡ above t c → Woke t ms ns (eqb c) → Waking ns next'
      waking_more ns next' e more = walk_more ok leaf known next c is was.0 (Woke t ls ns) next' e (λ k. more k ∙ woken_more ls ms (came t leaf next) was.1 c new k)
