-- The lines of a listing, and how each is written.
use Rattle.std.specs.Prelude.{ℕ, List, [], ◌∷◌, ◌++◌, codes, decimal, Ok, Err, Result}
use Rattle.std.proofs.Math.Utf8.{encode}
use Rattle.base.specs.Numbers.{number}
use Rattle.base.specs.declared.refusal.Refusal.{Refusal}
use Rattle.classes.specs.Names.{text_of}
use Rattle.listing.specs.declared.line.Line.{Line}
use Rattle.listing.specs.declared.line.Line.TheVariants.{Event, Class}
use Rattle.listing.specs.declared.line.Outcome.{Outcome}
use Rattle.listing.specs.declared.line.Outcome.TheVariants.{Accepted, Granted, Charged}

-- what stands behind the letter of an event that is not refused: 0 and what the call answers
abbrev pub answer : Outcome → List ℕ
answer Accepted = codes " 0"
answer (Granted n cost start) = codes " 0 " ++ (text_of n ++ (codes " " ++ (decimal cost ++ (codes " " ++ decimal start.0))))
answer (Charged d) = codes " 0 " ++ decimal d.0

-- what stands behind the letter of an event: a refusal's number, or 0 and what the call answers
abbrev pub outcome : Result Outcome Refusal → List ℕ
outcome (Ok o) = answer o
outcome (Err e) = codes " " ++ decimal (number e)

-- the bytes of a line, without its line end
abbrev pub shown : Line → List ℕ
shown (Event letter o) = encode letter ++ outcome o
shown (Class n charges) = codes "s " ++ (text_of n ++ (codes " " ++ decimal charges.0))

-- .. and with it
abbrev pub ended : Line → List ℕ
ended l = shown l ++ 10 ∷ []
