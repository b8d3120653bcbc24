-- What the lines of an input set up.
use Rattle.std.specs.Prelude.{ℕ, Bool, cond, ◌&&◌, List, [], ◌∷◌, ◌++◌, Ok, Err, Result, nat_le}
use Rattle.base.specs.declared.refusal.Refusal.{Refusal}
use Rattle.base.specs.declared.refusal.Refusal.TheVariants.{BadCost, BadOutage, BadRate, OutOfPlace}
use Rattle.links.specs.Outages.{fits, outage}
use Rattle.links.specs.declared.outage.Outage as outages
use Rattle.plans.specs.declared.line.Line.{Line}
use Rattle.plans.specs.declared.line.Line.TheVariants.{Link, Outage, Item}

-- nothing yet; a link of a rate with outages; such a link and an item of a cost
pub data Reading : Type 0 where
  start : Reading
  linked : ℕ → List outages.Outage → Reading
  complete : ℕ → List outages.Outage → ℕ → Reading

-- rates and costs lie from 1 to 65,535
abbrev pub in_range : ℕ → Bool
in_range n = nat_le 1 n && nat_le n 65535

-- what a line makes of what stands, or why it is refused: the rate comes first, then outages, then the item, which is the last
abbrev pub taken : Reading → Line → Result Reading Refusal
taken start (Link r) = cond (in_range r) (Ok (linked r [])) (Err BadRate)
taken start (Outage o n) = Err OutOfPlace
taken start (Item c) = Err OutOfPlace
taken (linked r os) (Link q) = Err OutOfPlace
taken (linked r os) (Outage o n) = cond (fits os (outage o n)) (Ok (linked r (os ++ outage o n ∷ []))) (Err BadOutage)
taken (linked r os) (Item c) = cond (in_range c) (Ok (complete r os c)) (Err BadCost)
taken (complete r os c) (Link q) = Err OutOfPlace
taken (complete r os c) (Outage o n) = Err OutOfPlace
taken (complete r os c) (Item d) = Err OutOfPlace
