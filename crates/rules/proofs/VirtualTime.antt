-- What every history keeps of the tags: each start and finish tag lies near the virtual time of the parent. Assumes nothing.
use Rattle.std.proofs.Common.{◌≡◌, ℕ, ◌+◌, ◌<◌, ◌≤◌, true, false, List, ◌∷◌, Some, sym, ◌∙◌, subst, inl, inr, arith}
use Rattle.std.proofs.lemmas.Bool.{both_ways, cases_Bool}
use Rattle.base.specs.Charge.{charged}
use Rattle.rules.specs.Shape.{Sound, under}
use Rattle.rules.specs.Kind.{Kind}
use Rattle.rules.specs.State.{Opening, Valid, Turn, State, put, backlogged_by, backlogged, open_turn}
use Rattle.rules.specs.Rules.{Call, submit, dispatch, pulse, end_turn, give_up, refused, accepted, worked, closed, after_charge, settle, answer, effect}
use Rattle.rules.specs.Ready.{Ready}
use Rattle.rules.specs.History.{Entry, entry, Run, largest}
use Rattle.rules.proofs.Tests.{no_test, not_some, some_same}
use Rattle.rules.proofs.Tree.{under_parent, under_le}
use Rattle.rules.proofs.Backlog.{busy_parent, busy_known}
use Rattle.rules.proofs.Calls.{by_calls}
use Rattle.rules.proofs.Consistent.{Closes, ended_closes, given_up_closes, busy_before, consistent, sound, weighed, open_known, open_busy, charge_on}
use Rattle.rules.proofs.Shares.{parts_mono}
use Rattle.rules.proofs.Tags

-- the largest charge so far of class k, in parts
abbrev pub slack : {I : Type 0} → List (Entry I) → State I → ℕ → ℕ
slack h s k = charged (largest s.shape k h) (s.weight k)

-- on the open turn's path each start tag is the parent's virtual time; start tags of backlogged classes lie at or after it; no tag lies after it by more than the largest charge
pub record Near {I : Type 0} (h : List (Entry I)) (s : State I) : Type 0 where
  pub path : (u : Turn) → s.phase ≡ Some u → (k : ℕ) → 0 < k → under s.shape k u.leaf ≡ true → s.tags.start k ≡ s.tags.virtual (s.shape.parent k)
  pub start_low : (k : ℕ) → 0 < k → backlogged s k ≡ true → s.tags.virtual (s.shape.parent k) ≤ s.tags.start k
  pub start_high : (k : ℕ) → 0 < k → backlogged s k ≡ true → s.tags.start k ≤ s.tags.virtual (s.shape.parent k) + slack h s k
  pub finish_high : (k : ℕ) → 0 < k → k < s.shape.count → s.tags.finish k ≤ s.tags.virtual (s.shape.parent k) + slack h s k

module _ {I : Type 0} (K : Kind I) (o : Opening) (ok : Valid o) where
  module _ {h : List (Entry I)} {s : State I} (r : Run K o h s) (q : Near h s) where
    -- the tree is sound
    tree : Sound s.shape
    tree = sound K o ok (consistent K o r)

    -- a backlogged class is one of the tree
    busy_class : (k : ℕ) → backlogged s k ≡ true → k < s.shape.count
    busy_class = busy_known tree s.queued

    -- the largest charge does not fall
    slack_grows : (e : Entry I) (k : ℕ) → k < s.shape.count → slack h s k ≤ slack (e ∷ h) s k
    slack_grows e k lt = let w = weighed K o ok (consistent K o r) k lt in parts_mono (s.weight k) w.0 w.1 (largest s.shape k h) (largest s.shape k (e ∷ h)) (omega arith)

    -- so what lies near the virtual time still does where no tag moves
    same_start_high : (e : Entry I) (k : ℕ) → 0 < k → backlogged s k ≡ true → s.tags.start k ≤ s.tags.virtual (s.shape.parent k) + slack (e ∷ h) s k
    same_start_high e k z b = omega (arith, q.start_high k z b, slack_grows e k (busy_class k b))

    -- the same of finish tags
    same_finish_high : (e : Entry I) (k : ℕ) → 0 < k → k < s.shape.count → s.tags.finish k ≤ s.tags.virtual (s.shape.parent k) + slack (e ∷ h) s k
    same_finish_high e k z lt = omega (arith, q.finish_high k z lt, slack_grows e k lt)

    module _ (opened : s.phase ≡ Some (open_turn s)) (c : Call I) (lane : ℕ → List I) (queued : ℕ → ℕ) (x : Closes (open_turn s).leaf s.queued queued) where
      -- the leaf served, the work done, and the closing as the history has it
      abbrev l : ℕ
      l = (open_turn s).leaf

      abbrev d : ℕ
      d = (open_turn s).done

      abbrev e : Entry I
      e = entry c (closed d)

      -- a closing keeps this
      closing_near : Near (e ∷ h) (settle s lane queued)
      closing_near = record {
        path = λ v is. absurd (not_some is);
        start_low = λ k z b. elim (cases_Bool (under s.shape k l)) [
          | inl on ↦ omega (arith, Tags.start_on s l d queued k z on b (tag k z on), Tags.virtual_falls s l d queued (s.shape.parent k), tag k z on)
          | inr away ↦ omega (arith, Tags.start_off s l d queued k away, Tags.virtual_falls s l d queued (s.shape.parent k), q.start_low k z (before k b))
        ];
        start_high = λ k z b. elim (cases_Bool (under s.shape k l)) [
          | inl on ↦ omega (arith, Tags.start_on s l d queued k z on b (tag k z on), parent_stays k b, tag k z on, charged_slack k on)
          | inr away ↦ omega (arith, Tags.start_off s l d queued k away, parent_stays k b, same_start_high e k z (before k b))
        ];
        finish_high = λ k z lt. elim (cases_Bool (backlogged_by s.shape queued (s.shape.parent k))) [
          | inl busy ↦ elim (cases_Bool (under s.shape k l)) [
            | inl on ↦ omega (arith, Tags.finish_on s l d queued k z on busy, Tags.virtual_stays s l d queued (s.shape.parent k) busy, tag k z on, charged_slack k on)
            | inr away ↦ omega (arith, Tags.finish_off s l d queued k away busy, Tags.virtual_stays s l d queued (s.shape.parent k) busy, same_finish_high e k z lt)
          ]
          | inr rest ↦ elim (cases_Bool (under s.shape (s.shape.parent k) l)) [
            | inl above ↦ omega (arith, Tags.finish_rest s l d queued k z above rest)
            | inr apart ↦ omega (arith, Tags.finish_away s l d queued k (not_on k apart) apart, Tags.virtual_off s l d queued (s.shape.parent k) apart, same_finish_high e k z lt)
          ]
        ];
      }
        where
          known : l < s.shape.count
          known = open_known K o ok r (open_turn s) opened

          tag : (k : ℕ) → 0 < k → under s.shape k l ≡ true → s.tags.start k ≡ s.tags.virtual (s.shape.parent k)
          tag = q.path (open_turn s) opened

          before : (k : ℕ) → backlogged_by s.shape queued k ≡ true → backlogged s k ≡ true
          before = busy_before tree l s.queued queued x

          parent_stays : (k : ℕ) → backlogged_by s.shape queued k ≡ true → (after_charge s l d queued).virtual (s.shape.parent k) ≡ s.tags.virtual (s.shape.parent k)
          parent_stays k b = Tags.virtual_stays s l d queued (s.shape.parent k) (busy_parent tree queued k b)

          charged_slack : (k : ℕ) → under s.shape k l ≡ true → charged d (s.weight k) ≤ slack (e ∷ h) s k
          charged_slack k on =
              let w = weighed K o ok (consistent K o r) k (omega (arith, under_le tree k l on, known)) in
              parts_mono (s.weight k) w.0 w.1 d (largest s.shape k (e ∷ h)) (omega (arith, charge_on K o (consistent K o r) opened c k d on))

          not_on : (k : ℕ) → under s.shape (s.shape.parent k) l ≡ false → under s.shape k l ≡ false
          not_on k apart = no_test _ (λ on. both_ways _ apart (under_parent tree k l known on))

    -- so does each other call
    near_after : (c : Call I) (d : ℕ) → Ready K s c → Near (entry c (answer K s c d) ∷ h) (effect K s c d)
    near_after (submit c x) d p = record {
      path = λ u is k z on. Tags.awake_keeps s c k (open_busy K o ok r u is k on) ∙ q.path u is k z on;
      start_low = λ k z b. elim (cases_Bool (backlogged s k)) [
        | inl was ↦ omega (arith, Tags.awake_keeps s c k was, q.start_low k z was)
        | inr slept ↦ omega (arith, Tags.wakes s tree c (s.queued c + 1) k z slept b)
      ];
      start_high = λ k z b. elim (cases_Bool (backlogged s k)) [
        | inl was ↦ omega (arith, Tags.awake_keeps s c k was, same_start_high (entry (submit c x) accepted) k z was)
        | inr slept ↦ omega (arith, Tags.wakes s tree c (s.queued c + 1) k z slept b, same_finish_high (entry (submit c x) accepted) k z (busy_known tree (put s.queued c (s.queued c + 1)) k b))
      ];
      finish_high = same_finish_high (entry (submit c x) accepted);
    }
    near_after dispatch d p =
        let leaves = (consistent K o r).leaves in
        let grows = Tags.virtual_grows s tree leaves p.busy q.start_low in
        record {
          path = λ u is k z on. Tags.virtual_path s tree leaves p.busy k z (subst (λ (v : Turn). under s.shape k v.leaf ≡ true) (sym (some_same is)) on);
          start_low = Tags.virtual_low s tree leaves p.busy q.start_low;
          start_high = λ k z b. omega (arith, same_start_high (entry dispatch (answer K s dispatch d)) k z b, grows (s.shape.parent k));
          finish_high = λ k z lt. omega (arith, same_finish_high (entry dispatch (answer K s dispatch d)) k z lt, grows (s.shape.parent k));
        }
    near_after (pulse x) d p = record {
      path = λ u is k z on. q.path (open_turn s) p.opened k z (subst (λ (v : Turn). under s.shape k v.leaf ≡ true) (sym (some_same is)) on);
      start_low = q.start_low;
      start_high = same_start_high (entry (pulse x) (worked d));
      finish_high = same_finish_high (entry (pulse x) (worked d));
    }
    near_after (end_turn x) d p = closing_near p.0.opened (end_turn x) _ _ (ended_closes s.queued (open_turn s))
    near_after (give_up x) d p = closing_near p.0.opened (give_up x) s.lane s.queued (given_up_closes s.queued (open_turn s).leaf)

  -- every history keeps this
  pub near_virtual : {h : List (Entry I)} {s : State I} → Run K o h s → Near h s
  near_virtual = by_calls K o Near
      (record { path = λ u is. absurd (not_some is); start_low = λ k z b. omega arith; start_high = λ k z b. omega arith; finish_high = λ k z lt. omega arith })
      (λ h s c n r q. record { path = q.path; start_low = q.start_low; start_high = same_start_high r q (entry c (refused n)); finish_high = same_finish_high r q (entry c (refused n)) })
      (λ h s c d r p _ q. near_after r q c d p)
