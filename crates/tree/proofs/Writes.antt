-- A write to the loads as a function of the class number.
use Rattle.std.proofs.Common.{◌≡◌, ℕ, ◌<◌, ◌≤◌, cond, eqb, List, length, set, sym, ap, ◌∙◌, inl, inr, arith}
use Rattle.std.proofs.lemmas.List.{get_or-set_same, get_or-set_other}
use Rattle.std.proofs.lemmas.Bool.{cases_eq, eq-eqb, ne_eqb}
use Rattle.tree.specs.Loads.{load, no_load}
use Rattle.tree.specs.declared.load.Load.{Load}

pub written : (ls : List Load) (c : ℕ) (x : Load) → c < length ls → (k : ℕ) → load (set ls c x) k ≡ cond (eqb c k) x (load ls k)
written ls c x l k = elim (cases_eq c k) [
  | inl e ↦ rw (eq-eqb c k e, sym e) (get_or-set_same ls c x no_load l)
  | inr n ↦ rw (ne_eqb c k n) (get_or-set_other ls c k x no_load (λ e. n (sym e)))
]

-- a write to one of the first n classes charges no number past them
pub unused_set : (ls : List Load) (c n : ℕ) (x : Load) → c < n → ((k : ℕ) → n ≤ k → (load ls k).finish.0 ≡ 0) → (k : ℕ) → n ≤ k → (load (set ls c x) k).finish.0 ≡ 0
unused_set ls c n x l unused k past = ap (λ l. l.finish.0) (get_or-set_other ls c k x no_load (λ e. omega arith)) ∙ unused k past
