-- The outages that a table holds.
use Rattle.std.specs.Prelude.{List}
use Rattle.links.specs.declared.outage.Outage.{Outage}
use Rattle.links.specs.declared.outages.Outages.{Outages}

-- the earliest first
abbrev pub listed : Outages → List Outage
listed s = s.list.items
