-- The order of entries. Assumes nothing.
use Rattle.std.proofs.Common.{◌≡◌, ◌<◌, ◌≤◌, true, false, List, get_or, arith, inl, inr}
use Rattle.std.proofs.lemmas.Bool.{cases_eq}
use Rattle.std.proofs.lemmas.Bool.Decides.{nat_tests}
use Rattle.std.specs.List.Sorted.{IsPartitionedBy}
use Rattle.tags.specs.Order.{rank}
use Rattle.sorted.specs.declared.entry.Entry.{Entry}
use Rattle.sorted.specs.Rows.{precedes, differ, InOrder}

module _ (a b : Entry) where
  pub precedes_group : precedes a b ≡ true → a.group.value ≤ b.group.value
  precedes_group h = grind (arith, nat_tests)

  pub precedes_rank : precedes a b ≡ true → a.group.value ≡ b.group.value → rank a.tag a.class.value < rank b.tag b.class.value
  precedes_rank h g = let k = a.class.small in let l = b.class.small in grind (arith, nat_tests)

  pub precedes_back : precedes a b ≡ false → differ a b ≡ true → precedes b a ≡ true
  precedes_back h n = grind (arith, nat_tests)

  -- against the lowest entry of a group
  pub precedes_first : b.tag.0 ≡ 0 → b.class.value ≡ 0 → precedes a b ≡ true → a.group.value < b.group.value
  precedes_first t k h = grind (arith, nat_tests)

  pub follows_first : precedes a b ≡ false → b.group.value ≤ a.group.value
  follows_first h = grind (arith, nat_tests)

precedes_trans : (a b c : Entry) → precedes a b ≡ true → precedes b c ≡ true → precedes a c ≡ true
precedes_trans a b c h k = grind (arith, nat_tests)

-- the entries that come before e are the first ones
pub before_first : (es : List Entry) → InOrder es → (e : Entry) → IsPartitionedBy (λ a. precedes a e) es
before_first es sorted e i j d l m before = elim (cases_eq i j) [
  | inl same ↦ rw same before
  | inr other ↦ precedes_trans (get_or es i d) (get_or es j d) e (sorted i j d (omega (arith, other)) m) before
]
