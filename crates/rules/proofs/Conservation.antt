-- No work is lost or invented, and each lane holds what its history leaves waiting. Assumes nothing.
use Rattle.std.proofs.Common.{◌≡◌, ℕ, ◌+◌, ◌<◌, ◌≤◌, Bool, true, false, cond, eqb, ◌⊎◌, List, [], ◌∷◌, ◌++◌, map, Some, sym, refl, ap, ◌∙◌, subst, inl, inr, arith}
use Rattle.std.specs.List.{AllByRecursion}
use Rattle.std.proofs.ByRecursion.{All-push}
use Rattle.std.proofs.lemmas.List.{map_push}
use Rattle.std.proofs.lemmas.Bool.{both_ways, cond_both, cases_eq, cases_lt, eqb-true, eq-eqb, ne_eqb}
use Rattle.std.proofs.lemmas.Bool.Decides.{nat_tests}
use Rattle.rules.specs.Kind.{Kind, KindLaws}
use Rattle.rules.specs.State.{Opening, Valid, State, open_turn}
use Rattle.rules.specs.Rules.{Call, submit, dispatch, pulse, end_turn, give_up, closed, may_stop, settled, answer, effect}
use Rattle.rules.specs.Ready.{Ready}
use Rattle.rules.specs.History.{Entry, entry, Run, work_of, done_more, open_work, charge, charges, Waiting, waiting, after_ending, ended_in}
use Rattle.rules.specs.Laws.{Unfinished, Conserved}
use Rattle.rules.proofs.Tree.{under_root}
use Rattle.rules.proofs.Calls.{by_calls}
use Rattle.rules.proofs.Consistent.{told, told_turn, consistent, sound, open_known, charge_on}

-- what is done with the rest of an item's cost makes up the cost it came with
eqb_shift : (c e k d : ℕ) → c + e ≡ k → eqb (e + d) k ≡ eqb d c
eqb_shift c e k d s = grind (arith, nat_tests)

module _ {I : Type 0} (K : Kind I) (laws : KindLaws K) where
  -- an ended turn does the same to the lane and to what waits
  settled_ending : (ws : List (Waiting I)) (d : ℕ) → AllByRecursion (Unfinished K) ws → settled K (map (λ w. w.item) ws) d ≡ map (λ w. w.item) (after_ending K ws d)
  settled_ending [] d a = refl
  settled_ending (w ∷ ws) d a = rw (eqb_shift (K.costs w.item) w.ended w.cost d a.0.0) (go (eqb d (K.costs w.item)))
    where
      go : (b : Bool) → cond b (map (λ v. v.item) ws) (K.left w.item d ∷ map (λ v. v.item) ws) ≡ map (λ v. v.item) (cond b ws (record { item = K.left w.item d; cost = w.cost; ended = w.ended + d } ∷ ws))
      go true = refl
      go false = refl

  -- an ended turn leaves only unfinished items
  ending_unfinished : (ws : List (Waiting I)) (d : ℕ) → may_stop K (map (λ w. w.item) ws) d ≡ true → AllByRecursion (Unfinished K) ws → AllByRecursion (Unfinished K) (after_ending K ws d)
  ending_unfinished [] d m a = a
  ending_unfinished (w ∷ ws) d m a = elim (cases_eq (w.ended + d) w.cost) [
    | inl last ↦ rw (eq-eqb _ _ last) a.1
    | inr more ↦ rw (ne_eqb _ _ more) (left more, a.1)
  ]
    where
      within : (d < K.costs w.item) ⊎ (K.costs w.item ≤ d) → (w.ended + d ≡ w.cost → ⊥) → d < K.costs w.item
      within (inl less) more = less
      within (inr over) more = elim (cases_eq d (K.costs w.item)) [
        | inl same ↦ absurd (more (omega (arith, a.0.0)))
        | inr other ↦ absurd (both_ways _ (laws.never_above w.item d (omega arith)) m)
      ]

      left : (w.ended + d ≡ w.cost → ⊥) → Unfinished K (record { item = K.left w.item d; cost = w.cost; ended = w.ended + d })
      left more = let l = within (cases_lt d (K.costs w.item)) more in (omega (arith, laws.left_costs w.item d l m, a.0.0), omega (arith, a.0.0))

  module _ (o : Opening) (ok : Valid o) where
    pub record Balanced (h : List (Entry I)) (s : State I) : Type 0 where
      pub work : s.work ≡ o.work + charges s.shape 0 h + open_work h
      pub meter : s.meter ≡ charges s.shape 0 h
      pub lanes : (l : ℕ) → s.lane l ≡ map (λ w. w.item) (waiting K l h)
      pub unfinished : (l : ℕ) → AllByRecursion (Unfinished K) (waiting K l h)

    module _ (h : List (Entry I)) (s : State I) (r : Run K o h s) (k : Balanced h s) where
      -- a closing charges the root with the work of the open turn
      root_charge : (c : Call I) → s.phase ≡ Some (open_turn s) → (charge s.shape 0 (entry c (closed (open_turn s).done)) h ≡ (open_turn s).done) × (open_work h ≡ (open_turn s).done)
      root_charge c opened = (
        charge_on K o (consistent K o r) opened c 0 (open_turn s).done (under_root (sound K o ok (consistent K o r)) (open_known K o ok r (open_turn s) opened)),
        ap work_of (told_turn K o (consistent K o r) opened),
      )

      -- each accepted call keeps the balance
      balanced_after : (c : Call I) (d : ℕ) → Ready K s c → Balanced (entry c (answer K s c d) ∷ h) (effect K s c d)
      balanced_after (submit i x) d p =
          let new : Waiting I = record { item = x; cost = K.costs x; ended = 0 } in
          record {
            work = omega (arith, k.work);
            meter = omega (arith, k.meter);
            lanes = λ l. elim (cases_eq l i) [
              | inl same ↦ rw (eq-eqb _ _ same, eq-eqb _ _ (sym same)) (ap (λ y. y ++ x ∷ []) (ap s.lane (sym same) ∙ k.lanes l) ∙ sym (map_push (λ w. w.item) (waiting K l h) new))
              | inr other ↦ rw (ne_eqb _ _ other, ne_eqb _ _ (λ e. other (sym e))) (k.lanes l)
            ];
            unfinished = λ l. cond_both (eqb i l) (waiting K l h ++ new ∷ []) (waiting K l h) (AllByRecursion (Unfinished K)) (λ _. All-push (Unfinished K) (waiting K l h) new (k.unfinished l) (omega arith, omega (arith, p.low))) (λ _. k.unfinished l);
          }
      balanced_after dispatch d p = record { work = omega (arith, k.work, ap work_of ((consistent K o r).turn ∙ ap (told s) p.free)); meter = omega (arith, k.meter); lanes = k.lanes; unfinished = k.unfinished }
      balanced_after (pulse x) d p =
          let t = told_turn K o (consistent K o r) p.opened in
          record { work = omega (arith, k.work, ap work_of t, ap (λ u. work_of (done_more d u)) t); meter = omega (arith, k.meter); lanes = k.lanes; unfinished = k.unfinished }
      balanced_after (end_turn x) d (n, p) =
          let u = open_turn s in
          let (c, w) = root_charge (end_turn x) n.opened in
          record {
            work = omega (arith, k.work, c, w);
            meter = omega (arith, k.meter, c);
            lanes = λ l. (elim (cases_eq l u.leaf) [
              | inl same ↦ rw (eq-eqb _ _ same, eq-eqb _ _ (sym same)) (ap (λ y. settled K y u.done) (ap s.lane (sym same) ∙ k.lanes l) ∙ settled_ending (waiting K l h) u.done (k.unfinished l))
              | inr other ↦ rw (ne_eqb _ _ other, ne_eqb _ _ (λ e. other (sym e))) (k.lanes l)
            ]) ∙ ap (map (λ w. w.item)) (sym (left l));
            unfinished = λ l. subst (AllByRecursion (Unfinished K)) (sym (left l)) (cond_both (eqb u.leaf l) (after_ending K (waiting K l h) u.done) (waiting K l h) (AllByRecursion (Unfinished K))
                (λ e. ending_unfinished (waiting K l h) u.done (subst (λ y. may_stop K y u.done ≡ true) (ap s.lane (eqb-true _ _ e) ∙ k.lanes l) p.stops) (k.unfinished l))
                (λ _. k.unfinished l));
          }
        where
          -- the history tells which leaf the ended turn served
          left : (l : ℕ) → waiting K l (entry (end_turn x) (closed (open_turn s).done) ∷ h) ≡ cond (eqb (open_turn s).leaf l) (after_ending K (waiting K l h) (open_turn s).done) (waiting K l h)
          left l = ap (λ u. ended_in K l u (open_turn s).done (waiting K l h)) (told_turn K o (consistent K o r) n.opened)
      balanced_after (give_up x) d (n, p) =
          let (c, w) = root_charge (give_up x) n.opened in
          record { work = omega (arith, k.work, c, w); meter = omega (arith, k.meter, c); lanes = k.lanes; unfinished = k.unfinished }

    -- every history keeps it
    pub balanced : {h : List (Entry I)} {s : State I} → Run K o h s → Balanced h s
    balanced = by_calls K o Balanced
        (record { work = omega arith; meter = refl; lanes = λ l. refl; unfinished = λ l. tt })
        (λ h s c n _ k. record { work = omega (arith, k.work); meter = omega (arith, k.meter); lanes = k.lanes; unfinished = k.unfinished })
        (λ h s c d r p _ k. balanced_after h s r k c d p)

    -- every history conserves work and items
    pub conserved : {h : List (Entry I)} {s : State I} → Run K o h s → Conserved K o h s
    conserved r = record { work = rw (consistent K o r).frame.1 at (balanced r).work; lanes = (balanced r).lanes; unfinished = (balanced r).unfinished }
