-- No tag passes 720,720 times the meter. Assumes nothing.
use Rattle.std.proofs.Common.{◌≡◌, ℕ, ◌+◌, ◌*◌, ◌<◌, ◌≤◌, List, Some, inl, inr, mul-le-mul_right, mul_comm, arith}
use Rattle.std.proofs.lemmas.Bool.Decides.{nat_tests}
use Rattle.std.proofs.lemmas.Bool.{cases_Bool}
use Rattle.base.specs.Charge.{charged}
use Rattle.rules.specs.Shape.{under}
use Rattle.rules.specs.Kind.{Kind, KindLaws}
use Rattle.rules.specs.State.{Opening, Valid, State, next, open_turn}
use Rattle.rules.specs.Rules.{Call, submit, dispatch, pulse, end_turn, give_up, reached, after_charge, effect}
use Rattle.rules.specs.Ready.{Ready}
use Rattle.rules.specs.History.{Entry, Run}
use Rattle.rules.specs.Laws.{Within, Metered}
use Rattle.rules.proofs.Tree.{under_le}
use Rattle.rules.proofs.Calls.{by_calls}
use Rattle.rules.proofs.Consistent.{consistent, sound, weighed, open_known}
use Rattle.rules.proofs.Shares.{parts_exact}
use Rattle.rules.proofs.Conservation.{balanced}

module _ {I : Type 0} (K : Kind I) (o : Opening) (ok : Valid o) where
  module _ {h : List (Entry I)} {s : State I} (r : Run K o h s) (q : Within s.tags (720720 * s.meter)) where
    -- d units are no more than d * 720,720 parts
    parts_le : (d k : ℕ) → k < s.shape.count → charged d (s.weight k) ≤ 720720 * d
    parts_le d k lt =
        let w = weighed K o ok (consistent K o r) k lt in
        omega (arith, parts_exact (s.weight k) w.0 w.1 d, mul-le-mul_right (charged d (s.weight k)) w.0, mul_comm (s.weight k) (charged d (s.weight k)))

    -- so a closing lifts no finish tag higher than the meter
    reached_le : (c d k : ℕ) → c < s.shape.count → reached s c d k ≤ 720720 * (s.meter + d)
    reached_le c d k lt = let (start, finish, _) = q k in elim (cases_Bool (under s.shape k c)) [
      | inl on ↦ let p = parts_le d k (omega (arith, under_le (sound K o ok (consistent K o r)) k c on)) in grind (arith, nat_tests)
      | inr off ↦ grind (arith, nat_tests)
    ]

    -- nor any other tag
    closing_within : s.phase ≡ Some (open_turn s) → (queued : ℕ → ℕ) → Within (after_charge s (open_turn s).leaf (open_turn s).done queued) (720720 * (s.meter + (open_turn s).done))
    closing_within opened queued k =
        let (start, finish, virtual) = q k in
        let top = q (s.shape.parent k) in
        let p = reached_le (open_turn s).leaf (open_turn s).done k (open_known K o ok r (open_turn s) opened) in
        (grind (arith, nat_tests), grind (arith, nat_tests), grind (arith, nat_tests))

    -- each accepted call keeps the tags within the meter
    within_after : (c : Call I) (d : ℕ) → Ready K s c → Within (effect K s c d).tags (720720 * (effect K s c d).meter)
    within_after (submit c x) d p k = let (start, finish, virtual) = q k in let (_, _, top) = q (s.shape.parent k) in (grind (arith, nat_tests), finish, virtual)
    within_after dispatch d p k = let (start, finish, virtual) = q k in let (child, _, _) = q (next s k) in (start, finish, grind (arith, nat_tests))
    within_after (pulse x) d p k = q k
    within_after (end_turn x) d p k = closing_within p.0.opened _ k
    within_after (give_up x) d p k = closing_within p.0.opened s.queued k

  -- every history does
  within : {h : List (Entry I)} {s : State I} → Run K o h s → Within s.tags (720720 * s.meter)
  within = by_calls K o (λ h s. Within s.tags (720720 * s.meter)) (λ k. (omega arith, omega arith, omega arith)) (λ h s c n _ q. q) (λ h s c d r p _ q. within_after r q c d p)

  -- every history keeps its tags within its meter, which counts all charges
  pub metered : KindLaws K → {h : List (Entry I)} {s : State I} → Run K o h s → Metered o h s
  metered laws r = record { tags = within r; meter = rw (consistent K o r).frame.1 at (balanced K laws o ok r).meter }
