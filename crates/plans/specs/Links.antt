-- The link that an input sets up.
use Rattle.std.specs.Prelude.{◌≡◌}
use Rattle.links.specs.declared.fixed.FixedLink.{FixedLink}
use Rattle.links.specs.declared.interrupted.Interrupted.{Interrupted}

-- no draw was made on the link
abbrev pub New : Interrupted FixedLink → Type 0
New l = (l.count ≡ 0) × (l.below.done.0 ≡ 0)
