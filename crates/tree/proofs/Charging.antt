-- A class is settled by its charge, and by a rest where it is no longer backlogged.
use Rattle.std.proofs.Common.{◌≡◌, ℕ, ◌+◌, ◌-◌, ◌<◌, max, Bool, true, false, cond, not, ◌&&◌, eqb, ltb, List, length, set, sym, refl, ap, ◌∙◌, subst, inl, inr}
use mathlib.Core.Bool.{and-true, and-false}
use Rattle.std.proofs.lemmas.Bool.{and_left, cases_eq, eq-eqb, ne_eqb, lt-ltb, not_from_true}
use Rattle.base.specs.Charge.{charged}
use Rattle.base.specs.declared.units.Parts.{Parts}
use Rattle.rules.specs.Shape.{Shape}
use Rattle.tree.specs.Loads.{load}
use Rattle.tree.specs.Walks.{rests, charged_load, settled, rested}
use Rattle.tree.specs.declared.load.Load.{Load}
use Rattle.tree.proofs.Writes.{written}
use Rattle.tree.proofs.Marks.{eqb_sym, unmarked}
use Rattle.tree.proofs.Settling.{less, idle, reach, restart}

-- the load l of a class that is charged x where `o`; it is not the root where `pos`, and its node has the virtual time v
abbrev charge : Bool → Bool → Bool → Load → ℕ → ℕ → Load
charge pos o gone l x v = record { backlog = less o gone l; start = record { 0 = restart pos o gone l x v }; finish = record { 0 = reach pos o l x }; vtime = l.vtime }

charge_off : (pos gone : Bool) (l : Load) (x v : ℕ) → charge pos false gone l x v ≡ l
charge_off pos gone l x v = λ i. record {
  backlog = l.backlog;
  start = record { 0 = cond (unmarked pos (ltb 0 l.backlog) i) (max v (reach pos false l x)) l.start.0 };
  finish = record { 0 = cond (and-false pos i) (l.start.0 + x) l.finish.0 };
  vtime = l.vtime;
}

module _ (t : Shape) (w : ℕ → ℕ) (d : ℕ) (gone : Bool) (ls : List Load) (c : ℕ) where
  -- the other classes stay as they are
  pub charged_off : (k : ℕ) → (c ≡ k → ⊥) → charged_load t w ls (eqb c) d gone k ≡ load ls k
  charged_off k n =
      ap (λ o. charge (ltb 0 k) o gone (load ls k) (charged d (w k)) (load ls (t.parent k)).vtime.0) (ne_eqb c k n)
      ∙ charge_off (ltb 0 k) gone (load ls k) (charged d (w k)) (load ls (t.parent k)).vtime.0

  module _ (known : c < length ls) (b : ℕ) (left : b ≡ cond gone ((load ls c).backlog - 1) (load ls c).backlog) where
    charging : (x : Load) → x ≡ charged_load t w ls (eqb c) d gone c → (k : ℕ) → load (set ls c x) k ≡ charged_load t w ls (eqb c) d gone k
    charging x made k = written ls c x known k ∙ elim (cases_eq c k) [
      | inl e ↦ ap (λ y. cond y x (load ls k)) (eq-eqb c k e) ∙ made ∙ ap (charged_load t w ls (eqb c) d gone) e
      | inr n ↦ ap (λ y. cond y x (load ls k)) (ne_eqb c k n) ∙ sym (charged_off k n)
    ]

    -- a class but the root that is still backlogged
    pub charging_loads : (node : ℕ) (s f : Parts) → (0 < c) × (t.parent c ≡ node) → 0 < b → f.0 ≡ (load ls c).start.0 + charged d (w c) → s.0 ≡ max (load ls node).vtime.0 f.0 →
        (k : ℕ) → load (set ls c (record { backlog = b; start = s; finish = f; vtime = (load ls c).vtime })) k ≡ charged_load t w ls (eqb c) d gone k
    charging_loads node s f up some finish start =
        let pos : ltb 0 c ≡ true = lt-ltb 0 c up.0 in
        let start' : s.0 ≡ restart true true gone (load ls c) (charged d (w c)) (load ls (t.parent c)).vtime.0 =
        start ∙ ap (λ n. max (load ls n).vtime.0 f.0) (sym up.1) ∙ ap (λ y. max (load ls (t.parent c)).vtime.0 y) finish
        ∙ sym (ap (λ y. cond y (max (load ls (t.parent c)).vtime.0 ((load ls c).start.0 + charged d (w c))) (load ls c).start.0) (ap (ltb 0) (sym left) ∙ lt-ltb 0 b some)) in
        charging _ (
        (λ i. record { backlog = left i; start = record { 0 = start' i }; finish = record { 0 = finish i }; vtime = (load ls c).vtime })
        ∙ (λ i. charge (sym pos i) (sym (eq-eqb c c refl) i) gone (load ls c) (charged d (w c)) (load ls (t.parent c)).vtime.0))

  -- the class is charged: it is settled if it is backlogged, and else once it rests
  module _ (ms : List Load) (was : (k : ℕ) → load ms k ≡ charged_load t w ls (eqb c) d gone k) where
    abbrev cleared : Bool → Bool → Load → Load
    cleared f v l = record { backlog = l.backlog; start = l.start; finish = record { 0 = cond f 0 l.finish.0 }; vtime = record { 0 = cond v 0 l.vtime.0 } }

    rests_is : (idle : Bool) → not (ltb 0 (load ms c).backlog) ≡ idle → (k : ℕ) → rests t w ls (eqb c) d gone k ≡ (eqb c k && idle)
    rests_is idle e k = elim (cases_eq c k) [
      | inl z ↦ subst (λ k. rests t w ls (eqb c) d gone k ≡ (eqb c k && idle)) z (ap (λ n. eqb c c && not (ltb 0 n)) (sym (ap (λ l. l.backlog) (was c))) ∙ ap (λ y. eqb c c && y) e)
      | inr n ↦ and_left (eqb c k) _ (ne_eqb c k n) ∙ sym (and_left (eqb c k) idle (ne_eqb c k n))
    ]

    settled_is : (idle : Bool) → not (ltb 0 (load ms c).backlog) ≡ idle → (k : ℕ) → settled t w ls (eqb c) d gone k ≡ cleared (ltb 0 k && (eqb c (t.parent k) && idle)) (eqb c k && idle) (load ms k)
    settled_is idle e k = λ i. cleared (ltb 0 k && rests_is idle e (t.parent k) i) (rests_is idle e k i) (sym (was k) i)

    pub settled_busy : 0 < (load ms c).backlog → (k : ℕ) → load ms k ≡ settled t w ls (eqb c) d gone k
    settled_busy some k = sym (
        settled_is false (not_from_true (ltb 0 (load ms c).backlog) (lt-ltb 0 (load ms c).backlog some)) k
        ∙ (λ i. cleared (ltb 0 k && and-false (eqb c (t.parent k)) i) (and-false (eqb c k) i) (load ms k))
        ∙ (λ i. cleared (and-false (ltb 0 k) i) false (load ms k)))

    module _ (ns : List Load) (none : (load ms c).backlog ≡ 0) (rest : (k : ℕ) → load ns k ≡ rested t ms c k) where
      pub settled_idle : (k : ℕ) → load ns k ≡ settled t w ls (eqb c) d gone k
      settled_idle k =
          let same : eqb (t.parent k) c ≡ (eqb c (t.parent k) && true) = eqb_sym (t.parent k) c ∙ sym (and-true (eqb c (t.parent k))) in
          rest k
          ∙ (λ i. cleared (ltb 0 k && same i) (sym (and-true (eqb c k)) i) (load ms k))
          ∙ sym (settled_is true (ap (λ n. not (ltb 0 n)) none) k)
