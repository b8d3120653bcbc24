-- What was served so far.
use Rattle.std.proofs.Common.{◌≡◌, ◌+◌}
use Rattle.sharing.specs.Shares.{turns, charged}
use Rattle.sharing.proofs.film.play.Given as goal

abbrev pub invariant-loop-number : goal.invariant-loop-number
invariant-loop-number g l = (turns l.shares ≡ l.number) × (g.S.Server.work l.server ≡ g.S.Server.work l.initial.server + charged l.shares)
