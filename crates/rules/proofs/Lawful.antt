-- The laws of every history, and the same at one call. Assumes nothing.
use Rattle.rules.specs.Kind.{Kind, KindLaws}
use Rattle.rules.specs.State.{picked}
use Rattle.rules.specs.History.{made}
use Rattle.rules.specs.Picks.{Picks}
use Rattle.rules.specs.Laws.{Lawful, Onward}
use Rattle.rules.proofs.Picks.{picks, chosen_only}
use Rattle.rules.proofs.Consistent.{consistent, sound}
use Rattle.rules.proofs.Fairness.{fair}
use Rattle.rules.proofs.Isolation.{isolated}
use Rattle.rules.proofs.Conservation.{conserved}
use Rattle.rules.proofs.Meter.{metered}
use Rattle.rules.proofs.Grants.{keyed, foreign}

-- the leaf that a dispatch serves is the one that is chosen
pub picked_chosen : {I : Type 0} (K : Kind I) → Picks K
picked_chosen K o ok h s r b =
    let tree = sound K o ok (consistent K o r) in
    let is = (picks s tree (consistent K o r).leaves b).0 in
    (is, λ c x. chosen_only s tree c (picked s) x is)

module _ {I : Type 0} {K : Kind I} (laws : KindLaws K) where
  -- every history keeps the laws
  pub lawful : Lawful K
  lawful = record {
    kept = λ o ok h s r. record { fair = fair K laws o ok r; isolated = λ g known. isolated K o ok g known r; conserved = conserved K laws o ok r; metered = metered K o ok laws r; keyed = keyed o K r };
    foreign = foreign K;
  }

  -- so a call that is a step leads from any history to one that keeps them
  pub onward : Onward K
  onward s c a s' st o ok h r = (made r st, lawful.kept o ok _ s' (made r st))
