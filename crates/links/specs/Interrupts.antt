-- What an interrupted link is after an outage is added, and what it does at a draw.
use Rattle.std.specs.Prelude.{◌≡◌, ℕ, ◌+◌, min, Bool, cond, ◌||◌, [], ◌∷◌, ◌++◌, ◌==◌}
use Rattle.links.specs.Listed.{listed}
use Rattle.links.specs.Outages.{covered}
use Rattle.links.specs.declared.interrupted.Interrupted.{Interrupted}
use Rattle.links.specs.declared.outage.Outage.{Outage}

module _ {S : Type 0} where
  -- t has the outage behind those of s, and is s otherwise
  abbrev pub Added : Interrupted S → Outage → Interrupted S → Type 0
  Added s o t = (listed t.outages ≡ listed s.outages ++ o ∷ []) × (t.count ≡ s.count) × (t.below ≡ s.below)

  -- a draw of n units does not reach the server below: nothing is wanted, or the count falls into an outage
  abbrev pub held : Interrupted S → ℕ → Bool
  held s n = n == 0 || covered (listed s.outages) s.count

  -- the count after a draw of n units: draws of 0 are not counted, and the count stands still at its largest value
  abbrev pub next_count : Interrupted S → ℕ → ℕ
  next_count s n = cond (n == 0) s.count (min (s.count + 1) 4294967295)

  -- asked for n units, s may do d and is t afterwards, over that relation of the server below
  abbrev pub Interrupts : (S → ℕ → ℕ → S → Type 0) → Interrupted S → ℕ → ℕ → Interrupted S → Type 0
  Interrupts draws s n d t =
      (t.outages ≡ s.outages) ×
      (t.count ≡ next_count s n) ×
      cond (held s n) ((d ≡ 0) × (t.below ≡ s.below)) (draws s.below n d t.below)
