use Rattle.std.proofs.Common.{◌≡◌, ◌≢◌, ◌≤◌, length, Some, None, sym, refl, ap, ◌∙◌, arith}
use Rattle.std.proofs.lemmas.Bool.Decides.{nat_tests}
use Rattle.tags.specs.Held.{Least, Looks}
use Rattle.tags.proofs.Uses.{looks_least}
use Rattle.sorted.specs.declared.entry.Entry.{Entry}
use Rattle.sorted.specs.Rows.{held_in}
use Rattle.sorted.specs.Small.{held_small}
use Rattle.sorted.proofs.Sorts.{group_none, group_least}
use Rattle.sorted.proofs.store.SortedStoreTagStore.least.Goals as goal

pub returns-in_err-group : goal.returns-in_err-group
returns-in_err-group c =
    let es = c.args.self.now.entries.items in
    let large : 64 ≤ c.args.group = c.in_err-group.ensures in
    let none : Looks (held_in es) c.args.group 64 None = λ k u l h. let small = held_small es k c.args.group u h in absurd (omega arith) in
    rw c.from_residual.ensures (record { value = looks_least _ _ None none; looks = none })

pub returns-in_err-entry : goal.returns-in_err-entry
returns-in_err-entry c =
    let s = c.args.self.now in
    let es = s.entries.items in
    let lowest : Entry = record { group = c.in_ok-group.group; tag = record { 0 = 0 }; class = c.default.result } in
    let past : length es ≤ c.place.result = rw c.deref.ensures.0 at c.in_err-entry.ensures.lookup.3 in
    let none = group_none es s.once s.sorted c.place.result lowest c.args.group c.place.ensures.parted c.in_ok-group.ensures refl c.default.ensures lowest (λ l same. omega arith) in
    rw c.from_residual-in_err-entry.ensures (record { value = looks_least _ _ None none; looks = none })

pub returns-then-ne : goal.returns-then-ne
returns-then-ne c =
    let s = c.args.self.now in
    let es = s.entries.items in
    let e = c.in_ok-entry.entry.now in
    let lowest : Entry = record { group = c.in_ok-group.group; tag = record { 0 = 0 }; class = c.default.result } in
    let at = rw c.deref.ensures.0 at c.in_ok-entry.ensures.lookup.3 in
    let other : e.group.value ≢ c.in_ok-group.group.value = grind (arith, nat_tests) in
    let none = group_none es s.once s.sorted c.place.result lowest c.args.group c.place.ensures.parted c.in_ok-group.ensures refl c.default.ensures e (λ l same. other (ap (λ a. a.group.value) (at.1 e) ∙ same ∙ sym c.in_ok-group.ensures)) in
    record { value = looks_least _ _ None none; looks = none }

pub returns : goal.returns
returns c =
    let s = c.args.self.now in
    let es = s.entries.items in
    let e = c.in_ok-entry.entry.now in
    let lowest : Entry = record { group = c.in_ok-group.group; tag = record { 0 = 0 }; class = c.default.result } in
    let at = rw c.deref.ensures.0 at c.in_ok-entry.ensures.lookup.3 in
    let same : e.group.value ≡ c.in_ok-group.group.value = grind (arith, nat_tests) in
    let least = group_least es s.once s.sorted c.place.result lowest c.args.group c.place.ensures.parted c.in_ok-group.ensures refl c.default.ensures e at.0 (at.1 e) (same ∙ c.in_ok-group.ensures) in
    let found : Least (held_in es) c.args.group c.get-2.result e.tag 64 = rw c.get-2.ensures.value least in
    record { value = looks_least _ _ (Some (c.get-2.result, e.tag)) found; looks = found }
