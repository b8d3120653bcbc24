-- What a pulse does to its server.
use Rattle.std.specs.Prelude.{◌≡◌, ℕ, ◌-◌, Ok, Err, MatchBool, Result, ◌==◌}
use Rattle.base.specs.declared.refusal.Refusal.{Refusal}
use Rattle.base.specs.declared.units.Units.{Units}
use Rattle.tree.specs.declared.phase.Phase.{Phase}
use Rattle.tree.specs.declared.phase.Phase.TheVariants.{Free, Open}

-- a pulse draws what is still to do; with nothing left to do, or refused, it leaves the server as it was
abbrev pub Drew : {S : Type 0} → (S → ℕ → ℕ → S → Type 0) → Phase → Result Units Refusal → S → S → Type 0
Drew draws p (Err e) s s' = s' ≡ s
Drew draws Free (Ok d) s s' = ⊥
Drew draws (Open leaf cost done) (Ok d) s s' = MatchBool (done == cost) ((d.0 ≡ 0) × (s' ≡ s)) (draws s (cost - done) d.0 s')
