-- The numbers of the refusals, and what a person reads.
use Rattle.std.specs.Prelude.{ℕ, List, codes}
use Rattle.base.specs.declared.refusal.Refusal.{Refusal}
use Rattle.base.specs.declared.refusal.Refusal.TheVariants.{UnknownClass, NotALeaf, BadCost, LaneMismatch, ShelfFull, TurnOpen, NothingBacklogged, LimitReached, WrongGrant, NoStoppingPoint, TreeFull, UnknownParent, BadWeight, BadName, NameTaken, TooDeep, BadOutage, BadRate, TraceTooLong, BadFirstLine, BadLine, OutOfPlace}

abbrev pub number : Refusal → ℕ
number UnknownClass = 1
number NotALeaf = 2
number BadCost = 3
number LaneMismatch = 4
number ShelfFull = 5
number TurnOpen = 6
number NothingBacklogged = 7
number LimitReached = 8
number WrongGrant = 9
number NoStoppingPoint = 10
number TreeFull = 11
number UnknownParent = 12
number BadWeight = 13
number BadName = 14
number NameTaken = 15
number TooDeep = 16
number BadOutage = 17
number BadRate = 18
number TraceTooLong = 19
number BadFirstLine = 20
number BadLine = 21
number OutOfPlace = 22

abbrev pub message : Refusal → List ℕ
message UnknownClass = codes "no such class"
message NotALeaf = codes "the class has children, so it takes no items"
message BadCost = codes "the cost is not from 1 to 65535"
message LaneMismatch = codes "the shelf does not hold what the tree counts"
message ShelfFull = codes "all places of the shelf hold items"
message TurnOpen = codes "a turn is open"
message NothingBacklogged = codes "no item waits"
message LimitReached = codes "the meter or the turns are used up"
message WrongGrant = codes "the grant is not the open turn's"
message NoStoppingPoint = codes "the item may not stop here"
message TreeFull = codes "64 classes stand already"
message UnknownParent = codes "no such parent"
message BadWeight = codes "the weight is not from 1 to 16"
message BadName = codes "the name is not 1 to 8 of a to z and 0 to 9"
message NameTaken = codes "the name is taken"
message TooDeep = codes "the parent is at depth 7 already"
message BadOutage = codes "the outage is empty, early, too late or the 17th"
message BadRate = codes "the rate is not from 1 to 65535"
message TraceTooLong = codes "the trace has more than 32768 bytes"
message BadFirstLine = codes "the first line is not a trace's"
message BadLine = codes "the line has a wrong form"
message OutOfPlace = codes "the line is out of its part"
