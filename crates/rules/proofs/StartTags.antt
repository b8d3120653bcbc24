-- How one call moves the tags of siblings while their parent has work. Assumes nothing.
use Rattle.std.proofs.Common.{◌≡◌, ℕ, ◌+◌, ◌*◌, ◌/◌, ◌<◌, ◌≤◌, max, true, false, cond, List, Some, inl, inr, arith}
use Rattle.std.proofs.lemmas.Bool.{both_ways, cases_Bool, cond-true, cond-false}
use Rattle.rules.specs.Shape.{Sound, under}
use Rattle.rules.specs.Kind.{Kind}
use Rattle.rules.specs.State.{Opening, Valid, State, put, backlogged_by, backlogged, open_turn}
use Rattle.rules.specs.Rules.{Call, submit, dispatch, pulse, end_turn, give_up, closed, settle, answer, effect, Step}
use Rattle.rules.specs.Ready.{Ready}
use Rattle.rules.specs.History.{Entry, entry, Run, charge}
use Rattle.rules.proofs.Tests.{put_both}
use Rattle.rules.proofs.Backlog.{busy_more}
use Rattle.rules.proofs.Calls.{by_step}
use Rattle.rules.proofs.Consistent.{Closes, ended_closes, given_up_closes, busy_before, busy_after, consistent, sound, weighed, open_busy, charge_on, charge_off}
use Rattle.rules.proofs.Shares.{parts_is}
use Rattle.rules.proofs.Tags
use Rattle.rules.proofs.VirtualTime.{slack, near_virtual}

-- where class k stands: its start tag while backlogged, else where it would wake
abbrev pub wake_or_start : {I : Type 0} → State I → ℕ → ℕ
wake_or_start s k = cond (backlogged s k) (s.tags.start k) (max (s.tags.virtual (s.shape.parent k)) (s.tags.finish k))

-- while backlogged
pub start_busy : {I : Type 0} (s : State I) (k : ℕ) → backlogged s k ≡ true → wake_or_start s k ≡ s.tags.start k
start_busy s k b = cond-true _ _ _ b

-- at rest
start_rest : {I : Type 0} (s : State I) (k : ℕ) → backlogged s k ≡ false → wake_or_start s k ≡ max (s.tags.virtual (s.shape.parent k)) (s.tags.finish k)
start_rest s k b = cond-false _ _ _ b

-- what a call does to class k, which is charged d, while its parent has work: a backlogged class moves on by its share, any class by no less
pub record Shifts {I : Type 0} (s s' : State I) (k d : ℕ) : Type 0 where
  pub exact : backlogged s k ≡ true → backlogged s' k ≡ true → s'.tags.start k ≡ s.tags.start k + d * (720720 / s.weight k)
  pub onward : wake_or_start s k + d * (720720 / s.weight k) ≤ wake_or_start s' k

module _ {I : Type 0} (K : Kind I) (o : Opening) (ok : Valid o) {h : List (Entry I)} {s : State I} (r : Run K o h s) (k : ℕ) (z : 0 < k) (known : k < s.shape.count) where
  -- the tree is sound
  tree : Sound s.shape
  tree = sound K o ok (consistent K o r)

  -- a class stands at or after its parent's virtual time, by no more than its largest charge
  pub start_near : (s.tags.virtual (s.shape.parent k) ≤ wake_or_start s k) × (wake_or_start s k ≤ s.tags.virtual (s.shape.parent k) + slack h s k)
  start_near = let q = near_virtual K o ok r in elim (cases_Bool (backlogged s k)) [
    | inl b ↦ (omega (arith, start_busy s k b, q.start_low k z b), omega (arith, start_busy s k b, q.start_high k z b))
    | inr b ↦ (omega (arith, start_rest s k b), omega (arith, start_rest s k b, q.finish_high k z known))
  ]

  module _ (opened : s.phase ≡ Some (open_turn s)) (c : Call I) (lane : ℕ → List I) (queued : ℕ → ℕ) (x : Closes (open_turn s).leaf s.queued queued) (busy : backlogged_by s.shape queued (s.shape.parent k) ≡ true) where
    -- a closing
    closing_shifts : Shifts s (settle s lane queued) k (charge s.shape k (entry c (closed (open_turn s).done)) h)
    closing_shifts =
        let l = (open_turn s).leaf in
        let d = (open_turn s).done in
        let s' = settle s lane queued in
        let tag = (near_virtual K o ok r).path (open_turn s) opened k z in
        let w = weighed K o ok (consistent K o r) k known in
        let part = parts_is (s.weight k) w.0 w.1 d in
        elim (cases_Bool (under s.shape k l)) [
          | inl on ↦ rw (charge_on K o (consistent K o r) opened c k d on) (record {
            exact = λ _ b. omega (arith, part, Tags.start_on s l d queued k z on b (tag on));
            onward =
                let g = start_busy s k (open_busy K o ok r (open_turn s) opened k on) in
                elim (cases_Bool (backlogged_by s.shape queued k)) [
                  | inl b ↦ omega (arith, g, part, start_busy s' k b, Tags.start_on s l d queued k z on b (tag on))
                  | inr b ↦ omega (arith, g, part, start_rest s' k b, Tags.finish_on s l d queued k z on busy)
                ];
          })
          | inr away ↦ rw (charge_off K o (consistent K o r) opened c k d away) (record {
            exact = λ _ b. omega (arith, Tags.start_off s l d queued k away);
            onward = elim (cases_Bool (backlogged s k)) [
              | inl b ↦ omega (arith, start_busy s k b, start_busy s' k (busy_after tree l s.queued queued x k away b), Tags.start_off s l d queued k away)
              | inr b ↦ elim (cases_Bool (backlogged_by s.shape queued k)) [
                | inl now ↦ absurd (both_ways _ b (busy_before tree l s.queued queued x k now))
                | inr still ↦ omega (arith, start_rest s k b, start_rest s' k still, Tags.virtual_stays s l d queued (s.shape.parent k) busy, Tags.finish_off s l d queued k away busy)
              ]
            ];
          })
        ]

  -- each accepted call
  shifts_after : (c : Call I) (d : ℕ) → Ready K s c → backlogged (effect K s c d) (s.shape.parent k) ≡ true → Shifts s (effect K s c d) k (charge s.shape k (entry c (answer K s c d)) h)
  shifts_after (submit c x) d p busy =
      let s' = effect K s (submit c x) d in
      record {
        exact = λ b _. omega (arith, Tags.awake_keeps s c k b);
        onward = elim (cases_Bool (backlogged s k)) [
          | inl b ↦ omega (arith, start_busy s k b, start_busy s' k (more b), Tags.awake_keeps s c k b)
          | inr b ↦ elim (cases_Bool (backlogged s' k)) [
            | inl now ↦ omega (arith, start_rest s k b, start_busy s' k now, Tags.wakes s tree c (s.queued c + 1) k z b now)
            | inr still ↦ omega (arith, start_rest s k b, start_rest s' k still)
          ]
        ];
      }
    where
      more : backlogged s k ≡ true → backlogged_by s.shape (put s.queued c (s.queued c + 1)) k ≡ true
      more = busy_more tree (put s.queued c (s.queued c + 1)) s.queued k (λ i _ _. put_both s.queued c (s.queued c + 1) i (λ j. s.queued i ≤ j) (λ e. rw e (omega arith)) (λ _. omega arith))
  shifts_after dispatch d p busy =
      let s' = effect K s dispatch d in
      let grows = Tags.virtual_grows s tree (consistent K o r).leaves p.busy (near_virtual K o ok r).start_low (s.shape.parent k) in
      record {
        exact = λ _ _. omega arith;
        onward = elim (cases_Bool (backlogged s k)) [
          | inl b ↦ omega (arith, start_busy s k b, start_busy s' k b)
          | inr b ↦ omega (arith, start_rest s k b, start_rest s' k b, grows)
        ];
      }
  shifts_after (pulse x) d p busy = record { exact = λ _ _. omega arith; onward = omega arith }
  shifts_after (end_turn x) d p busy = closing_shifts p.0.opened (end_turn x) _ _ (ended_closes s.queued (open_turn s)) busy
  shifts_after (give_up x) d p busy = closing_shifts p.0.opened (give_up x) s.lane s.queued (given_up_closes s.queued (open_turn s).leaf) busy

  -- each call
  pub shifts : (e : Entry I) (s' : State I) → Step K s e.call e.answer s' → backlogged s' (s.shape.parent k) ≡ true → Shifts s s' k (charge s.shape k e h)
  shifts e = by_step K s (λ c a s'. backlogged s' (s.shape.parent k) ≡ true → Shifts s s' k (charge s.shape k (entry c a) h))
      (λ c n _. record { exact = λ _ _. omega arith; onward = omega arith }) (λ c d p _. shifts_after c d p) e.call e.answer
