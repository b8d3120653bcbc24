-- The heaps list each class that stands once, and nothing else: this outlasts an exchange, one more class at the end, and one less. Assumes nothing.
use Rattle.std.proofs.Common.{◌≡◌, ℕ, ◌+◌, ◌<◌, arith}
use Rattle.std.proofs.lemmas.List.Edits.{Swapped}
use Rattle.heap.specs.Index.{Index}

-- f' is f with v at i
pub record Sets (f f' : ℕ → ℕ) (i v : ℕ) : Type 0 where
  pub here : f' i ≡ v
  pub else : (k : ℕ) → (k ≡ i → ⊥) → f' k ≡ f k

module _ {grp spot len : ℕ → ℕ} {cell : ℕ → ℕ → ℕ} (x : Index grp spot len cell) where
  -- two places of one class are one
  pub one_place : (g h i j : ℕ) → i < len g → j < len h → cell g i ≡ cell h j → (g ≡ h) × (i ≡ j)
  one_place g h i j li lj e = grind (arith, x.placed)

  -- the classes at places i and j of the heap of group g are exchanged, and told their places
  pub exchange_kept : {grp' spot₁ spot' len' : ℕ → ℕ} {cell' : ℕ → ℕ → ℕ} (g i j : ℕ) → i < len g → j < len g → ((k : ℕ) → grp' k ≡ grp k) → ((h : ℕ) → len' h ≡ len h) → Swapped (cell g) (cell' g) i j → ((h k : ℕ) → (h ≡ g → ⊥) → cell' h k ≡ cell h k) → Sets spot spot₁ (cell' g i) i → Sets spot₁ spot' (cell' g j) j → Index grp' spot' len' cell'
  exchange_kept g i j il jl grps lens at away one two = record {
    placed = λ h k l. grind (arith, x.placed, grps, lens, at, away, one.here, one.else, two.here, two.else, one_place);
    found = λ k l. grind (arith, x.placed, x.found, grps, lens, at, away, one.here, one.else, two.here, two.else, one_place);
  }

  -- class k, which stood nowhere, at the end of the heap of group g
  pub append_kept : {grp' spot' len' : ℕ → ℕ} {cell' : ℕ → ℕ → ℕ} (g k : ℕ) → ((h i : ℕ) → i < len h → h < 64) → grp k ≡ 64 → cell' g (len g) ≡ k → ((h i : ℕ) → i < len h → cell' h i ≡ cell h i) → Sets grp grp' k g → Sets spot spot' k (len g) → Sets len len' g (len g + 1) → Index grp' spot' len' cell'
  append_kept g k known fresh top low p s n = record {
    placed = λ h i l. grind (arith, x.placed h i, known h i, fresh, top, low h i, p.here, p.else (cell h i), s.here, s.else (cell h i), n.here, n.else h);
    found = λ j l. grind (arith, x.placed, x.found, known, fresh, top, low, p.here, p.else, s.here, s.else, n.here, n.else);
  }

  -- the class at place i of the heap of group g stands no more, and the last of the heap, at place n, is there
  pub remove_kept : {grp' spot' len' : ℕ → ℕ} {cell' : ℕ → ℕ → ℕ} (g i n : ℕ) → len g ≡ n + 1 → i < len g → Sets grp grp' (cell g i) 64 → Sets len len' g n → ((h k : ℕ) → (h ≡ g → ⊥) → cell' h k ≡ cell h k) → (i < n → cell' g i ≡ cell g n) → ((k : ℕ) → k < n → (k ≡ i → ⊥) → cell' g k ≡ cell g k) → (i < n → spot' (cell g n) ≡ i) → ((k : ℕ) → (k ≡ cell g i → ⊥) → (k ≡ cell g n → ⊥) → spot' k ≡ spot k) → Index grp' spot' len' cell'
  remove_kept g i n full il p m away here rest told spots = record {
    placed = λ h k l. grind (arith, x.placed, p.else, m.here, m.else, away, here, rest, told, spots, one_place);
    found = λ k l. grind (arith, x.placed, x.found, p.here, p.else, m.here, m.else, away, here, rest, told, spots, one_place);
  }
