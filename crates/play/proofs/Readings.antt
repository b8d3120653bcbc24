-- What is read off a tree for a call or a line.
use Rattle.std.proofs.Common.{◌≡◌, ℕ, ◌<◌, cond, eqb, ltb, List, Some, None, Option, unwrap_or, sym, ap, ◌∙◌, inl, inr}
use Rattle.std.specs.Option.{option_map}
use Rattle.std.proofs.lemmas.Bool.{cases_eq, eq-eqb, ne_eqb, lt-ltb}
use Rattle.base.specs.declared.units.Parts.{Parts}
use Rattle.classes.specs.declared.name.Name.{Name}
use Rattle.classes.specs.declared.table.ClassTable.{ClassTable}
use Rattle.classes.specs.Names.{text_of}
use Rattle.classes.specs.Tables.{class_count, named, name_of, name_by}
use Rattle.rules.specs.Rules.{submit}
use Rattle.rules.proofs.Tests.{not_some, some_same}
use Rattle.trace.specs.Makings.{numbered}

-- the call of a submission, by what its name was found to be
pub submits : {I : Type 0} (table t : ClassTable) (x : Option ℕ) (bytes name : List ℕ) (item new : I) → named table bytes ≡ x → bytes ≡ name → table ≡ t → item ≡ new →
    submit (numbered x) item ≡ submit (numbered (named t name)) new
submits table t x bytes name item new b d e i =
    ap (λ k. submit (numbered k) item) (sym b ∙ ap (named table) d ∙ ap (λ z. named z name) e) ∙ ap (submit (numbered (named t name))) i

-- the name of a class
pub name_is : (t : ClassTable) (k : ℕ) (r : Option Name) (name or : Name) → option_map text_of r ≡ name_by t k → name ≡ unwrap_or r or → k < (class_count t) → text_of name ≡ name_of t k
name_is t k None name or by is lt = absurd (not_some (by ∙ ap (λ b. cond b (Some (name_of t k)) None) (lt-ltb k (class_count t) lt)))
name_is t k (Some x) name or by is lt = ap text_of is ∙ some_same (by ∙ ap (λ b. cond b (Some (name_of t k)) None) (lt-ltb k (class_count t) lt))

-- its start tag
pub start_is : (k len : ℕ) (x zero or start : Parts) (r : Option Parts) → r ≡ cond (ltb k len) (Some x) None → (k ≡ 0 → r ≡ Some zero) → zero.0 ≡ 0 → start ≡ unwrap_or r or → k < len → cond (eqb k 0) 0 x.0 ≡ start.0
start_is k len x zero or start r value root none is lt = elim (cases_eq k 0) [
  | inl z ↦ ap (λ b. cond b 0 x.0) (eq-eqb k 0 z) ∙ sym (ap (λ s. s.0) (is ∙ ap (λ o. unwrap_or o or) (root z)) ∙ none)
  | inr z ↦ ap (λ b. cond b 0 x.0) (ne_eqb k 0 z) ∙ sym (ap (λ s. s.0) (is ∙ ap (λ o. unwrap_or o or) (value ∙ ap (λ b. cond b (Some x) None) (lt-ltb k len lt))))
]
