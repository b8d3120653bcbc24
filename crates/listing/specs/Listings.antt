-- A listing that is being written.
use Rattle.std.specs.Prelude.{◌≡◌, ℕ, List, ◌++◌, string_bytes, IfOk}
use Rattle.listing.specs.declared.listing.Listing.{Listing}

-- where no memory was wanting, the bytes are written
abbrev pub Holds : Listing → List ℕ → Type 0
Holds l bs = IfOk l.text (λ text. string_bytes text ≡ bs)

-- the bytes come behind what was written
abbrev pub Gains : Listing → List ℕ → Listing → Type 0
Gains l more m = (bs : List ℕ) → Holds l bs → Holds m (bs ++ more)
