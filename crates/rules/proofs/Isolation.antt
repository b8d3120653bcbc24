-- The own calls of each class, played alone, are accepted again with the same answers. Assumes nothing.
use Rattle.std.proofs.Common.{◌≡◌, ℕ, ◌+◌, ◌-◌, ◌<◌, ◌≤◌, true, false, cond, eqb, List, [], ◌∷◌, ◌++◌, Some, None, Option, sym, refl, ap, ◌∙◌, subst, ap₂, subst₂, inl, inr, arith}
use Rattle.std.proofs.lemmas.Bool.{cases_Bool, cond-true, cond-false}
use Rattle.rules.specs.Shape.{under}
use Rattle.rules.specs.Kind.{Kind}
use Rattle.rules.specs.State.{Opening, Valid, fresh, Turn, State, put, turn_of, picked, open_turn, to_do}
use Rattle.rules.specs.Rules.{Grant, Call, submit, dispatch, pulse, end_turn, give_up, Answer, refused, accepted, granted, worked, closed, after_charge, settle, head_cost, may_stop, settled, answer, effect, Step}
use Rattle.rules.specs.Ready.{Names, Ready}
use Rattle.rules.specs.History.{Entry, entry, Run, opened, made, serves_by, serves}
use Rattle.rules.specs.Alone.{rank, alone, owns, call_alone, answer_alone, last_grant, next_grant, head, item_of, turn_item, Inside, Agrees, Beside, both_opened, own_call, other_call}
use Rattle.rules.specs.Laws.{Isolated}
use Rattle.rules.proofs.Calls.{accept, by_step}
use Rattle.rules.proofs.Consistent.{told_turn, consistent, open_known}
use Rattle.rules.proofs.Subtree.{Part, subtree_part, member_rank, rank_known, leaf_part, put_part, put_other}
use Rattle.rules.proofs.Restriction.{num, Tagged, own_phase, Restricts, Restriction, stored_part, picked_known, alone_busy, picked_part, advanced_own, advanced_other, woken_own, woken_other, closed_own, closed_other}

module _ {I : Type 0} (K : Kind I) {g : ℕ} {s a : State I} (w : Restriction g s a) where
  -- the tree alone is the whole, restricted to g's part
  abbrev m : Restricts g s a
  m = w.restricts

  -- the tree alone accepts the call c with the answer x, and is then the restriction of s'
  record Follows (c : Call I) (x : Answer) (s' : State I) : Type 0 where
    amount : ℕ
    within : amount ≤ to_do a
    ready : Ready K a c
    says : answer K a c amount ≡ x
    restricts : Restricts g s' (effect K a c amount)

  module _ (c : ℕ) (x : I) (d : ℕ) (p : Ready K s (submit c x)) where
    -- a submission at or below g
    submit_own : under s.shape g c ≡ true → Follows (submit (num s g c) x) accepted (effect K s (submit c x) d)
    submit_own on = let j : Inside s.shape g c = (p.known, on) in record {
      amount = 0;
      within = omega arith;
      says = refl;
      ready = record {
        known = rank_known w.part c j;
        ends = leaf_part w.part c j ∙ p.ends;
        low = p.low;
        high = p.high;
        full = w.full_alone (num s g c);
        room = omega (arith, stored_part w, p.room, w.places);
      };
      restricts = record {
        tags = woken_own w c j;
        lane = put_part w.part s.lane a.lane m.lane c j (ap (λ l. l ++ x ∷ []) (m.lane c j));
        queued = put_part w.part s.queued a.queued m.queued c j (ap (λ n. n + 1) (m.queued c j));
        phase = m.phase;
        meter = m.meter;
        turns = m.turns;
      };
    }

    -- a submission elsewhere
    submit_other : under s.shape g c ≡ false → Restricts g (effect K s (submit c x) d) a
    submit_other off = record {
      tags = woken_other w c p.known off;
      lane = λ k i. m.lane k i ∙ sym (put_other w.part s.lane c (s.lane c ++ x ∷ []) off k i);
      queued = λ k i. m.queued k i ∙ sym (put_other w.part s.queued c (s.queued c + 1) off k i);
      phase = m.phase;
      meter = m.meter;
      turns = m.turns;
    }

  module _ (d : ℕ) (p : Ready K s dispatch) where
    -- no turn is open in the tree alone
    alone_free : a.phase ≡ None
    alone_free = m.phase ∙ ap (own_phase s.shape g) p.free

    -- a dispatch that serves a leaf at or below g
    dispatch_own : under s.shape g (picked s) ≡ true → Follows dispatch (granted (next_grant a) (num s g (picked s)) (head_cost K (s.lane (picked s)))) (effect K s dispatch d)
    dispatch_own on =
        let pick = picked_part w p.busy on in
        let cost = ap (head_cost K) (ap a.lane pick ∙ m.lane (picked s) (picked_known w p.busy, on)) in
        record {
          amount = 0;
          within = omega arith;
          says = ap₂ (granted (next_grant a)) pick cost;
          ready = record {
            free = alone_free;
            busy = alone_busy w p.busy on;
            full = w.full_alone (picked a);
            meter = omega (arith, cost, m.meter, p.meter);
            turns = omega (arith, m.turns, p.turns);
          };
          restricts = record {
            tags = advanced_own w p.busy on;
            lane = m.lane;
            queued = m.queued;
            phase = ap₂ (λ l c. Some (record { leaf = l; cost = c; done = 0 })) pick cost ∙ sym (cond-true _ _ _ on);
            meter = m.meter;
            turns = omega (arith, m.turns);
          };
        }

    -- a dispatch that serves another leaf
    dispatch_other : under s.shape g (picked s) ≡ false → Restricts g (effect K s dispatch d) a
    dispatch_other off = record {
      tags = advanced_other w p.busy off;
      lane = m.lane;
      queued = m.queued;
      phase = alone_free ∙ sym (cond-false _ _ _ off);
      meter = m.meter;
      turns = omega (arith, m.turns);
    }

  -- the calls that name the open turn
  module _ (known : (open_turn s).leaf < s.shape.count) (open_now : s.phase ≡ Some (open_turn s)) where
    -- the turn after d more units, as the tree alone has it if it is below g
    abbrev own_turn : ℕ → Turn
    own_turn d = record { leaf = num s g (open_turn s).leaf; cost = (open_turn s).cost; done = d }

    -- the phase of the tree alone, by where the turn is
    alone_phase : a.phase ≡ cond (under s.shape g (open_turn s).leaf) (Some (own_turn (open_turn s).done)) None
    alone_phase = m.phase ∙ ap (own_phase s.shape g) open_now

    module _ (off : under s.shape g (open_turn s).leaf ≡ false) where
      -- a turn elsewhere is not open in the tree alone
      alone_rests : a.phase ≡ None
      alone_rests = alone_phase ∙ cond-false _ _ _ off

      -- a pulse of a turn elsewhere
      pulse_other : (v : Grant) (d : ℕ) → Restricts g (effect K s (pulse v) d) a
      pulse_other v d = record {
        tags = m.tags;
        lane = m.lane;
        queued = m.queued;
        phase = alone_rests ∙ sym (cond-false _ _ _ off);
        meter = m.meter;
        turns = m.turns;
      }

      -- a closing elsewhere
      settle_other : (lane : ℕ → List I) (queued : ℕ → ℕ) → ((k : ℕ) → Inside s.shape g k → lane k ≡ s.lane k) → ((k : ℕ) → Inside s.shape g k → queued k ≡ s.queued k) → Restricts g (settle s lane queued) a
      settle_other lane queued lanes counts = record {
        tags = closed_other w (open_turn s).leaf (open_turn s).done queued known off;
        lane = λ k i. m.lane k i ∙ sym (lanes k i);
        queued = λ k i. m.queued k i ∙ sym (counts k i);
        phase = alone_rests;
        meter = omega (arith, m.meter);
        turns = m.turns;
      }

      -- an ending elsewhere
      end_other : (v : Grant) (d : ℕ) → Restricts g (effect K s (end_turn v) d) a
      end_other v d = settle_other _ _ (put_other w.part s.lane (open_turn s).leaf _ off) (put_other w.part s.queued (open_turn s).leaf _ off)

    module _ (on : under s.shape g (open_turn s).leaf ≡ true) where
      -- the leaf served is inside
      inside : Inside s.shape g (open_turn s).leaf
      inside = (known, on)

      -- the tree alone has the same turn open
      alone_open : a.phase ≡ Some (own_turn (open_turn s).done)
      alone_open = alone_phase ∙ cond-true _ _ _ on

      -- it is the same turn, with the leaf by rank
      same_turn : open_turn a ≡ own_turn (open_turn s).done
      same_turn = ap turn_of alone_open

      -- with the same lane
      same_lane : a.lane (open_turn a).leaf ≡ s.lane (open_turn s).leaf
      same_lane = ap (λ (t : Turn). a.lane t.leaf) same_turn ∙ m.lane (open_turn s).leaf inside

      -- and the same work
      same_done : (open_turn a).done ≡ (open_turn s).done
      same_done = ap (λ (t : Turn). t.done) same_turn

      -- its own grant names it
      names : Names K a (last_grant a)
      names = record { opened = alone_open ∙ ap {B = Option Turn} Some (sym same_turn); house = refl; turn = refl }

      -- a pulse of a turn at or below g
      pulse_own : (v : Grant) (d : ℕ) → d ≤ to_do s → Follows (pulse (last_grant a)) (worked d) (effect K s (pulse v) d)
      pulse_own v d le = record {
        amount = d;
        within = omega (arith, ap (λ (t : Turn). t.cost - t.done) same_turn);
        says = refl;
        ready = names;
        restricts = record {
          tags = m.tags;
          lane = m.lane;
          queued = m.queued;
          phase = ap (λ (t : Turn). Some (record { leaf = t.leaf; cost = t.cost; done = t.done + d })) same_turn ∙ sym (cond-true _ _ _ on);
          meter = m.meter;
          turns = m.turns;
        };
      }

      -- a closing at or below g
      settle_own : (lane lane' : ℕ → List I) (queued queued' : ℕ → ℕ) → ((k : ℕ) → Inside s.shape g k → lane' (num s g k) ≡ lane k) → ((k : ℕ) → Inside s.shape g k → queued' (num s g k) ≡ queued k) → Restricts g (settle s lane queued) (settle a lane' queued')
      settle_own lane lane' queued queued' lanes counts = record {
        tags = subst (λ (t : Turn). Tagged s.shape g (after_charge s (open_turn s).leaf (open_turn s).done queued) (after_charge a t.leaf t.done queued')) (sym same_turn) (closed_own w (open_turn s).leaf (open_turn s).done queued queued' counts inside);
        lane = lanes;
        queued = counts;
        phase = refl;
        meter = omega (arith, m.meter, same_done);
        turns = m.turns;
      }

      -- an ending at or below g
      end_own : (v : Grant) (d : ℕ) → Ready K s (end_turn v) → Follows (end_turn (last_grant a)) (closed (open_turn s).done) (effect K s (end_turn v) d)
      end_own v d (_, p) =
          let l = (open_turn s).leaf in
          record {
            amount = 0;
            within = omega arith;
            says = ap closed same_done;
            ready = (
              names,
              record {
                full = w.full_alone (open_turn a).leaf;
                cost = ap (head_cost K) same_lane ∙ p.cost ∙ sym (ap (λ (t : Turn). t.cost) same_turn);
                stops = ap₂ (may_stop K) same_lane same_done ∙ p.stops;
              },
            );
            restricts = settle_own _ _ _ _
                (λ k i. ap (λ (t : Turn). put a.lane t.leaf (settled K (a.lane t.leaf) t.done) (num s g k)) same_turn
                ∙ put_part w.part s.lane a.lane m.lane l inside (ap (λ xs. settled K xs (open_turn s).done) (m.lane l inside)) k i)
                (λ k i. ap (λ (t : Turn). put a.queued t.leaf (cond (eqb t.done t.cost) (a.queued t.leaf - 1) (a.queued t.leaf)) (num s g k)) same_turn
                ∙ put_part w.part s.queued a.queued m.queued l inside (ap (λ n. cond (eqb (open_turn s).done (open_turn s).cost) (n - 1) n) (m.queued l inside)) k i);
          }

      -- a giving up at or below g
      give_up_own : (v : Grant) (d : ℕ) → Follows (give_up (last_grant a)) (closed (open_turn s).done) (effect K s (give_up v) d)
      give_up_own v d = record { amount = 0; within = omega arith; says = ap closed same_done; ready = (names, w.full_alone (open_turn a).leaf); restricts = settle_own s.lane a.lane s.queued a.queued m.lane m.queued }

module _ {I : Type 0} (K : Kind I) (o : Opening) (ok : Valid o) (g : ℕ) (known : g < o.shape.count) (house work : ℕ) where
  -- the tree alone
  abbrev new : Opening
  new = alone o g house work

  -- the history h has led to s, and its own calls of g, played alone, to its restriction
  record Alike (h : List (Entry I)) (s : State I) : Type 0 where
    state : State I
    calls : List (Entry I)
    run : Run K new calls state
    restricts : Restricts g s state
    beside : Beside K o g new h s state

  -- the restriction agrees with the whole
  agree : {h : List (Entry I)} {s a : State I} → Run K o h s → Restricts g s a → Agrees o.shape g s a
  agree {s = s} {a = a} r m = subst (λ t. Agrees t g s a) (consistent K o r).frame.1 (record { start = m.tags.start; finish = m.tags.finish; virtual = m.tags.virtual; lane = m.lane; item = item s.phase refl })
    where
      item : (p : Option Turn) → s.phase ≡ p → under s.shape g (turn_of p).leaf ≡ true → turn_item a ≡ item_of s.lane p
      item None e on = ap (item_of a.lane) (m.phase ∙ ap (own_phase s.shape g) e)
      item (Some u) e on = ap (item_of a.lane) (m.phase ∙ ap (own_phase s.shape g) e ∙ cond-true _ _ _ on) ∙ ap head (m.lane u.leaf (open_known K o ok r u e, on))

  module _ {h : List (Entry I)} {s : State I} (r : Run K o h s) (x : Alike h s) where
    -- so far the one is the other's restriction
    restriction : Restriction g s x.state
    restriction =
        let k = consistent K o r in
        let j = consistent K new x.run in
        record {
          part = subst₂ (λ t u. Part t g u) (sym k.frame.1) (sym j.frame.1) (subtree_part ok.sound known);
          places = j.frame.3 ∙ sym k.frame.3;
          weight = subst₂ (λ t v. (i : ℕ) → Inside t g i → x.state.weight (rank t g i) ≡ v i) (sym k.frame.1) (sym k.frame.2)
              (λ i z. ap (λ v. v (rank o.shape g i)) j.frame.2 ∙ ap o.weight (member_rank o.shape g i o.shape.count z.1 z.0));
          leaves = k.leaves;
          leaves_alone = j.leaves;
          known_alone = j.known;
          full_alone = j.full;
          restricts = x.restricts;
        }

    -- the history says whether the open turn is below g
    served : (open_now : s.phase ≡ Some (open_turn s)) → serves s.shape g h ≡ under s.shape g (open_turn s).leaf
    served open_now = ap (serves_by s.shape g) (told_turn K o (consistent K o r) open_now)

    -- the leaf served is a class of the tree
    leaf_known : s.phase ≡ Some (open_turn s) → (open_turn s).leaf < s.shape.count
    leaf_known = open_known K o ok r (open_turn s)

    -- an own call is followed
    own_after : (c : Call I) (d : ℕ) → Ready K s c → d ≤ to_do s → owns s.shape g (entry c (answer K s c d)) h ≡ true →
        Follows K restriction (call_alone s.shape g (last_grant x.state) c) (answer_alone s.shape g (next_grant x.state) (answer K s c d)) (effect K s c d)
    own_after (submit c y) d p le i = submit_own K restriction c y d p i
    own_after dispatch d p le i = dispatch_own K restriction d p i
    own_after (pulse v) d p le i = pulse_own K restriction (leaf_known p.opened) p.opened (sym (served p.opened) ∙ i) v d le
    own_after (end_turn v) d p le i = end_own K restriction (leaf_known p.0.opened) p.0.opened (sym (served p.0.opened) ∙ i) v d p
    own_after (give_up v) d p le i = give_up_own K restriction (leaf_known p.0.opened) p.0.opened (sym (served p.0.opened) ∙ i) v d

    -- any other call leaves g's part as it is
    other_after : (c : Call I) (d : ℕ) → Ready K s c → owns s.shape g (entry c (answer K s c d)) h ≡ false → Restricts g (effect K s c d) x.state
    other_after (submit c y) d p i = submit_other K restriction c y d p i
    other_after dispatch d p i = dispatch_other K restriction d p i
    other_after (pulse v) d p i = pulse_other K restriction (leaf_known p.opened) p.opened (sym (served p.opened) ∙ i) v d
    other_after (end_turn v) d p i = end_other K restriction (leaf_known p.0.opened) p.0.opened (sym (served p.0.opened) ∙ i) v d
    other_after (give_up v) d p i = settle_other K restriction (leaf_known p.0.opened) p.0.opened (sym (served p.0.opened) ∙ i) s.lane s.queued (λ _ _. refl) (λ _ _. refl)

    -- a call that is not own leaves the tree alone as it is
    passed_by : (e : Entry I) (s' : State I) → Step K s e.call e.answer s' → owns o.shape g e h ≡ false → Restricts g s' x.state → Alike (e ∷ h) s'
    passed_by e s' st i m = record { state = x.state; calls = x.calls; run = x.run; restricts = m; beside = other_call x.beside st i (agree (made r st) m) }

    -- each accepted call keeps the two alike
    alike_after : (c : Call I) (d : ℕ) → Ready K s c → d ≤ to_do s → Step K s c (answer K s c d) (effect K s c d) → Alike (entry c (answer K s c d) ∷ h) (effect K s c d)
    alike_after c d p le st =
        let shape = (consistent K o r).frame.1 in
        let e = entry c (answer K s c d) in
        elim (cases_Bool (owns o.shape g e h)) [
          | inl i ↦
              let a = x.state in
              let c' = call_alone o.shape g (last_grant a) c in
              let x' = answer_alone o.shape g (next_grant a) (answer K s c d) in
              let f = subst (λ t. Follows K restriction (call_alone t g (last_grant a) c) (answer_alone t g (next_grant a) (answer K s c d)) (effect K s c d)) shape (own_after c d p le (subst (λ t. owns t g e h ≡ true) (sym shape) i)) in
              let st' = subst (λ y. Step K a c' y (effect K a c' f.amount)) f.says (accept K a c' f.amount f.ready f.within) in
              record { state = effect K a c' f.amount; calls = entry c' x' ∷ x.calls; run = made x.run st'; restricts = f.restricts; beside = own_call x.beside st i st' (agree (made r st) f.restricts) }
          | inr i ↦ passed_by e (effect K s c d) st i (other_after c d p (subst (λ t. owns t g e h ≡ false) (sym shape) i))
        ]

  -- at the opening both trees are new, and a refused call is no own call
  alike : {h : List (Entry I)} {s : State I} → Run K o h s → Alike h s
  alike opened = record {
    state = fresh new;
    calls = [];
    run = opened;
    restricts = record { tags = record { start = λ k i apart. refl; finish = λ k i apart. refl; virtual = λ k i. refl }; lane = λ k i. refl; queued = λ k i. refl; phase = refl; meter = omega arith; turns = omega arith };
    beside = both_opened;
  }
  alike (made {h = h} {s = s} {s' = s'} {e = e} r st) =
      let x = alike r in
      by_step K s (λ c y s'. Step K s c y s' → Alike (entry c y ∷ h) s')
      (λ c n now. passed_by r x (entry c (refused n)) s now refl x.restricts)
      (λ c d p le now. alike_after r x c d p le now) e.call e.answer s' st st

-- the own calls of each class, played alone
pub isolated : {I : Type 0} (K : Kind I) (o : Opening) → Valid o → (g : ℕ) → g < o.shape.count → {h : List (Entry I)} {s : State I} → Run K o h s → Isolated K o h s g
isolated K o ok g known r house work = let x = alike K o ok g known house work r in (x.state, x.beside)
