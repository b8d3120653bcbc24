-- What a stage stands for.
use Rattle.links.specs.Listed.{listed}
use Rattle.links.specs.declared.fixed.FixedLink.{FixedLink}
use Rattle.links.specs.declared.interrupted.Interrupted.{Interrupted}
use Rattle.plans.specs.Readings.{Reading, start, linked, complete}
use Rattle.plans.specs.declared.stage.Stage.{Stage}
use Rattle.plans.specs.declared.stage.Stage.TheVariants.{Start, Linked, Complete}

abbrev pub standing : Interrupted FixedLink → Reading
standing l = linked l.below.rate (listed l.outages)

abbrev pub reading : Stage → Reading
reading Start = start
reading (Linked l) = standing l.link
reading (Complete l c) = complete l.link.below.rate (listed l.link.outages) c
