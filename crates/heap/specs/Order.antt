-- A heap: the key at each place is at least the key at its parent.
use Rattle.std.specs.Prelude.{◌≡◌, ℕ, ◌-◌, ◌/◌, ◌<◌, ◌≤◌, Some, None, Option, ◌≢◌}

-- the parent of place i; the root is its own
abbrev pub up : ℕ → ℕ
up i = (i - 1) / 2

-- the keys at the places below n are a heap
abbrev pub Ordered : (ℕ → ℕ) → ℕ → Type 0
Ordered key n = (i : ℕ) → 0 < i → i < n → key (up i) ≤ key i

-- a heap but for place h against its parent; the children of h are at least that parent
abbrev pub ButParent : (ℕ → ℕ) → ℕ → ℕ → Type 0
ButParent key n h = ((i : ℕ) → 0 < i → i < n → (i ≢ h) → key (up i) ≤ key i) × ((i : ℕ) → 0 < i → i < n → up i ≡ h → 0 < h → key (up h) ≤ key i)

-- a heap but for place h against its children; they are at least the parent of h
abbrev pub ButChildren : (ℕ → ℕ) → ℕ → ℕ → Type 0
ButChildren key n h = ((i : ℕ) → 0 < i → i < n → (up i ≢ h) → key (up i) ≤ key i) × ((i : ℕ) → 0 < i → i < n → up i ≡ h → 0 < h → key (up h) ≤ key i)

-- a heap but for place h; its children are at least its parent
abbrev pub ButPlace : (ℕ → ℕ) → ℕ → ℕ → Type 0
ButPlace key n h = ((i : ℕ) → 0 < i → i < n → (i ≢ h) → (up i ≢ h) → key (up i) ≤ key i) × ((i : ℕ) → 0 < i → i < n → up i ≡ h → 0 < h → key (up h) ≤ key i)

-- the parent that has to go below place h: none where it is not greater, else the parent, which is greater than h
abbrev pub Later : (ℕ → ℕ) → ℕ → Option ℕ → Type 0
Later key h None = key (up h) ≤ key h
Later key h (Some p) = (p ≡ up h) × (key h < key p)

-- the child that has to go above place h: none where no child is less, else the least child, which is less than h
abbrev pub Sooner : (ℕ → ℕ) → ℕ → ℕ → Option ℕ → Type 0
Sooner key n h None = (i : ℕ) → 0 < i → i < n → up i ≡ h → key h ≤ key i
Sooner key n h (Some c) = (h < c) × (c < n) × (up c ≡ h) × (key c < key h) × ((i : ℕ) → 0 < i → i < n → up i ≡ h → key c ≤ key i)
