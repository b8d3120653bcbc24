-- The places of lanes and the free places. Assumes nothing.
use Rattle.std.proofs.Common.{◌≡◌, ℕ, ◌+◌, ◌<◌, ◌≤◌, cond, ltb, List, [], ◌∷◌, length, get_or, Option, Some, None, sym, refl, ap, ◌∙◌, subst, ⊎_elim, arith}
use Rattle.std.specs.Option.{MatchOption, IfSome}
use Rattle.std.proofs.lemmas.Option.{MatchOption-at_some}
use Rattle.std.proofs.lemmas.List.{length_push}
use Rattle.std.proofs.lemmas.Bool.{cases_lt, lt-ltb, le-ltb, cond-true, cond-false}
use Rattle.std.proofs.lemmas.Bool.Decides.{nat_tests}
use Rattle.shelf.specs.Chains.{row, chain, first}
use Rattle.shelf.specs.Tables.{line, spare, Passed, Claimed, Released}
use Rattle.shelf.specs.declared.table.LinkTable.{LinkTable}
use Rattle.shelf.proofs.Walks.{length_walk, walk_first, first_is}

abbrev chain_of : LinkTable → ℕ → List ℕ
chain_of t k = chain t.next t.chains k

pub line_in : (t : LinkTable) (k : ℕ) → k < 64 → line t k ≡ chain_of t k
line_in t k l = cond-true (ltb k 64) (chain_of t k) [] (lt-ltb k 64 l)

pub line_out : (t : LinkTable) (k : ℕ) → 64 ≤ k → line t k ≡ []
line_out t k l = cond-false (ltb k 64) (chain_of t k) [] (le-ltb k 64 l)

pub no_first : (ps : List ℕ) → None ≡ first ps → length ps ≡ 0
no_first [] e = refl
no_first (q ∷ ps) e = absurd (cc)

pub first_within : (t : LinkTable) (k : ℕ) → 0 < (row t.chains k).len → (row t.chains k).head < t.size
first_within t k l = subst (λ p. p < t.size) (walk_first t.next _ _ l) (t.inside k 0 l)

pub chain_within : (t : LinkTable) (k : ℕ) (r : Option ℕ) → r ≡ first (chain_of t k) → IfSome r (λ p. p < t.size)
chain_within t k None e = tt
chain_within t k (Some p) e = let at = first_is t.next _ _ p (sym e) in subst (λ q. q < t.size) at.1 (first_within t k at.0)

-- every place of a chain is inside
within : (t : LinkTable) (k i : ℕ) → i < length (chain_of t k) → get_or (chain_of t k) i 0 < t.size
within t k i l = t.inside k i (subst (λ n. i < n) (length_walk t.next _ _) l)

-- the first place of a chain stands nowhere else
alone : (t : LinkTable) (k p : ℕ) → first (chain_of t k) ≡ Some p → (j i : ℕ) → i < length (chain_of t j) → get_or (chain_of t j) i 0 ≡ p → (j ≡ k) × (i ≡ 0)
alone t k p f j i l e =
    let at = first_is t.next _ _ p f in
    t.apart (j, i, k, 0) (subst (λ n. i < n) (length_walk t.next _ _) l, at.0, e ∙ sym at.1 ∙ sym (walk_first t.next _ _ at.0))

none : (t : LinkTable) (j i : ℕ) → 64 ≤ j → i < length (line t j) → ⊥
none t j i h l = omega (arith, ap length (line_out t j h))

-- the first free place stands in no lane
pub free_alone : (t : LinkTable) (p : ℕ) → first (spare t) ≡ Some p → (j i : ℕ) → i < length (line t j) → get_or (line t j) i 0 ≡ p → ⊥
free_alone t p f j i l e = ⊎_elim
    (λ h. let z = alone t 64 p f j i (subst (λ c. i < length c) (line_in t j h) l) (ap (λ c. get_or c i 0) (sym (line_in t j h)) ∙ e) in omega (arith, z.0))
    (λ h. none t j i h l)
    (cases_lt j 64)

-- the first place of a lane stands in no other, and nowhere else in it
pub head_alone : (t : LinkTable) (k p : ℕ) → first (line t k) ≡ Some p → (j i : ℕ) → i < length (line t j) → get_or (line t j) i 0 ≡ p → (j ≡ k) × (i ≡ 0)
head_alone t k p f j i l e = ⊎_elim
    (λ h. ⊎_elim
    (λ m. alone t k p (ap first (sym (line_in t k m)) ∙ f) j i (subst (λ c. i < length c) (line_in t j h) l) (ap (λ c. get_or c i 0) (sym (line_in t j h)) ∙ e))
    (λ m. let e = ap first (sym (line_out t k m)) ∙ f in absurd (cc))
    (cases_lt k 64))
    (λ h. absurd (none t j i h l))
    (cases_lt j 64)

-- every place of a lane is inside
pub line_within : (t : LinkTable) (j i : ℕ) → i < length (line t j) → get_or (line t j) i 0 < t.size
line_within t j i l = ⊎_elim
    (λ h. subst (λ c. get_or c i 0 < t.size) (sym (line_in t j h)) (within t j i (subst (λ c. i < length c) (line_in t j h) l)))
    (λ h. absurd (none t j i h l))
    (cases_lt j 64)

-- the first place of a lane became the last free one
pub released : (t t' : LinkTable) (k : ℕ) (r : Option ℕ) → k < 64 → r ≡ first (chain_of t k) → MatchOption r (t' ≡ t) (λ p. Passed t t' k 64 p) → MatchOption r (t' ≡ t) (λ p. Released t t' k p)
released t t' k None l e h = h
released t t' k (Some p) l e h = record {
  was = ap first (line_in t k l) ∙ sym e;
  within = h.within;
  same = h.same;
  lines = λ j. grind (arith, nat_tests, h.chains j);
  spares = h.chains 64;
}

-- what is claimed is the first free place
pub claimed_first : (t t' : LinkTable) (k p : ℕ) (r : Option ℕ) → k < 64 → first (spare t) ≡ Some p → r ≡ cond (ltb k 64) (first (spare t)) None → MatchOption r (t' ≡ t) (λ q. Claimed t t' k q) → Claimed t t' k p
claimed_first t t' k p r l f e h = MatchOption-at_some _ _ p (e ∙ cond-true _ _ _ (lt-ltb k 64 l) ∙ f) h

-- how many are free once one more is
pub released_free : (t t' : LinkTable) (k p : ℕ) → Released t t' k p → length (spare t') ≡ length (spare t) + 1
released_free t t' k p h = ap length h.spares ∙ length_push (spare t) p
