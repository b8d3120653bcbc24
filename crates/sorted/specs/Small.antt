-- Classes and groups that stand are below 64. Assumes nothing.
use Rattle.std.specs.Prelude.{List, [], ◌∷◌, None}
use Rattle.std.proofs.Common.{refl, inl, inr, arith}
use Rattle.std.proofs.lemmas.Bool.{cases_eq, eq-eqb, ne_eqb}
use Rattle.tags.specs.Held.{Small}
use Rattle.tags.proofs.Uses.{none_some, some_group}
use Rattle.sorted.specs.declared.entry.Entry.{Entry}
use Rattle.sorted.specs.Rows.{held_in}

pub held_small : (es : List Entry) → Small (held_in es)
held_small [] k g t h = absurd (none_some None g t refl h)
held_small (e ∷ es) k g t h =
    elim (cases_eq e.class.value k) [
      | inl here ↦
          let f = some_group _ e.group.value g e.tag t refl (rw (eq-eqb e.class.value k here) at h) in
          let c = e.class.small in
          let s = e.group.small in
          (omega arith, omega arith)
      | inr other ↦ held_small es k g t (rw (ne_eqb e.class.value k other) at h)
    ]
