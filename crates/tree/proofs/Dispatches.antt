-- A turn begins: what the walk makes of the loads is what the rules say of a dispatch. Assumes nothing.
use Rattle.std.proofs.Common.{◌≡◌, ℕ, ◌+◌, ◌<◌, ◌≤◌, true, false, cond, not, ◌&&◌, eqb, ltb, ◌⊎◌, List, length, Some, None, Option, sym, refl, ap, ◌∙◌, subst, inl, inr, ⊎_elim, arith}
use mathlib.Core.Bool.{and-false}
use mathlib.Core.Path.{fun_ext}
use Rattle.std.proofs.lemmas.Bool.{cases_Bool, cond-true, cond-false, and_left, and_from, and_parts, or_left, or_right, not_from_true, not_from_false, not-true, lt-ltb, le-leb, eq-eqb, eqb-false, both_ways}
use Rattle.base.specs.declared.refusal.Refusal.TheVariants.{NothingBacklogged, LaneMismatch, LimitReached}
use Rattle.classes.specs.Tables.{shape_of, weight_of}
use Rattle.classes.proofs.Tables.{shape_sound}
use Rattle.rules.specs.Kind.{Kind}
use Rattle.rules.specs.Shape.{Shape, Sound, under, leaf}
use Rattle.rules.specs.State.{State, sum, is_open, backlogged, next, picked, mismatch}
use Rattle.rules.specs.Rules.{dispatch, refused, granted, head_cost, effect, Step}
use Rattle.rules.specs.Laws.{Within}
use Rattle.rules.specs.Picks.{Chosen}
use Rattle.rules.proofs.Calls.{accept, refuse}
use Rattle.rules.proofs.Tests.{not_some, some_same}
use Rattle.rules.proofs.Tree.{under_below, below_under, on_the_way, child_decides, leaf_alone}
use Rattle.rules.proofs.Picks.{picks, path_next}
use Rattle.shelf.specs.Chains.{first}
use Rattle.shelf.specs.Lanes.{lanes, room}
use Rattle.shelf.specs.declared.shelf.Shelf.{Shelf}
use Rattle.tags.specs.Held.{Held}
use Rattle.tags.specs.declared.TagStore.{Ghosts as TagStore}
use Rattle.tree.specs.Counts.{queued, Counted}
use Rattle.tree.specs.Loads.{load, Stocked}
use Rattle.tree.specs.Walks.{pick, Advanced}
use Rattle.tree.specs.Turns.{turn}
use Rattle.tree.specs.States.{tags, state}
use Rattle.tree.specs.Trees.{state_of}
use Rattle.tree.specs.declared.load.Load.{Load}
use Rattle.tree.specs.declared.phase.Phase.{Phase}
use Rattle.tree.specs.declared.phase.Phase.TheVariants.{Free, Open}
use Rattle.tree.specs.declared.queue.Queue.{Queue}
use Rattle.tree.specs.declared.tree.Tree.{Tree}
use Rattle.tree.proofs.Counts.{leaves, busy_backlog}
use Rattle.tree.proofs.Picks.{pair_of, pick_is}
use Rattle.tree.proofs.Shelves.{unread, head_full, head_read}

module _ (t : Shape) (ls ms : List Load) (c : ℕ) (moved : Advanced t c ls ms) where
  -- the counts stay
  pub advanced_queued : (k : ℕ) → queued t ms k ≡ queued t ls k
  advanced_queued k = ap (λ b. cond (leaf t k) b 0) (moved.same k).0

  pub advanced_counted : Counted t ls → Counted t ms
  advanced_counted counted k = (moved.same k).0 ∙ counted k ∙ ap (λ q. sum (λ l. cond (under t k l) (q l) 0) t.count) (sym (fun_ext {f = queued t ms} {g = queued t ls} advanced_queued))

  module _ (ok : Sound t) (lt : c < t.count) where
    -- a node of the path above c takes the start tag of its child on the path
    passed : (k : ℕ) → under t k c ≡ true → (c ≡ k → ⊥) → (d : ℕ) × (0 < d) × (t.parent d ≡ k) × (under t d c ≡ true) × ((load ms k).vtime ≡ (load ls d).start)
    passed k u apart =
        let (d, kid, x) = on_the_way ok apart (under_below ok u) in
        let (pos, is) = (child_decides t k d).0 kid in
        let v = below_under ok lt x in
        (d, pos, is, v, subst (λ k. (load ms k).vtime ≡ (load ls d).start) is (moved.on d pos v))

    -- no tag passes the limit
    pub advanced_within : (m : ℕ) → Within (tags ls) m → Within (tags ms) m
    advanced_within m was k = (
      subst (λ x. x.0 ≤ m) (sym (moved.same k).1) (was k).0,
      subst (λ x. x.0 ≤ m) (sym (moved.same k).2) (was k).1,
      elim (cases_Bool (under t k c && not (eqb k c))) [
        | inl on ↦
            let (u, other) = and_parts _ _ on in
            let (d, _, _, _, is) = passed k u (λ e. eqb-false k c (not-true _ other) (sym e)) in
            subst (λ x. x.0 ≤ m) (sym is) (was d).0
        | inr off ↦ subst (λ x. x.0 ≤ m) (sym (moved.off k off)) (was k).2
      ],
    )

-- a state in which the rules pick c
module _ {I : Type 0} (house : ℕ) (t : Shape) (w : ℕ → ℕ) (ls : List Load) (phase : Phase) (meter turns places : ℕ) (lane : ℕ → List I) (work : ℕ)
    (ok : Sound t) (counted : Counted t ls) where
  abbrev s : State I
  s = state house t w ls phase meter turns places lane work

  -- a store that is in step with the loads is in step with the state
  pub stocked_stands : (h : Held) → Stocked t h ls → (k : ℕ) → h k ≡ pair_of s k
  stocked_stands h was k = was k ∙ ap (λ b. cond (ltb 0 k && b) (Some (t.parent k, (load ls k).start)) None) (sym (busy_backlog t ls counted k))

  module _ (b : backlogged s 0 ≡ true) (ms : List Load) (moved : Advanced t (picked s) ls ms) where
    virtual_is : (k : ℕ) → (load ms k).vtime.0 ≡ cond (under t k (picked s) && not (leaf t k)) (load ls (next s k)).start.0 (load ls k).vtime.0
    virtual_is k =
        let chosen = (picks s ok (leaves t ls) b).0 in
        let new : ℕ = (load ls (next s k)).start.0 in
        let old : ℕ = (load ls k).vtime.0 in
        elim (cases_Bool (under t k (picked s))) [
          | inr off ↦ ap (λ v. v.0) (moved.off k (and_left _ _ off)) ∙ sym (cond-false (under t k (picked s) && not (leaf t k)) new old (and_left _ _ off))
          | inl on ↦ elim (cases_Bool (leaf t k)) [
            | inl end ↦
                let is : k ≡ picked s = sym (leaf_alone ok chosen.known end (under_below ok on)) in
                let stays : (under t k (picked s) && not (eqb k (picked s))) ≡ false = rw (eq-eqb k (picked s) is) (and-false (under t k (picked s))) in
                let rests : (under t k (picked s) && not (leaf t k)) ≡ false = rw end (and-false (under t k (picked s))) in
                ap (λ v. v.0) (moved.off k stays) ∙ sym (cond-false (under t k (picked s) && not (leaf t k)) new old rests)
            | inr inner ↦
                let (d, pos, is, below, takes) = passed t ls ms (picked s) moved ok chosen.known k on (λ e. both_ways _ inner (subst (λ l. leaf t l ≡ true) e chosen.ends)) in
                let to : next s k ≡ d = ap (next s) (sym is) ∙ path_next s ok (leaves t ls) b d pos below in
                ap (λ v. v.0) takes ∙ ap (λ d. (load ls d).start.0) (sym to)
                ∙ sym (cond-true (under t k (picked s) && not (leaf t k)) new old (and_from _ _ on (not_from_false _ inner)))
          ]
        ]

    -- the state is the one that the rules leave
    pub dispatch_leaves : (K : Kind I) → state house t w ms (Open (picked s) (head_cost K (lane (picked s))) 0) meter (turns + 1) places lane work ≡ effect K s dispatch 0
    dispatch_leaves K = λ i. record {
      house = house;
      shape = t;
      weight = w;
      places = places;
      queued = fun_ext {f = queued t ms} {g = queued t ls} (advanced_queued t ls ms (picked s) moved) i;
      lane = lane;
      meter = meter;
      work = work;
      tags = record {
        start = fun_ext {f = λ k. (load ms k).start.0} {g = λ k. (load ls k).start.0} (λ k. ap (λ v. v.0) (moved.same k).1) i;
        finish = fun_ext {f = λ k. (load ms k).finish.0} {g = λ k. (load ls k).finish.0} (λ k. ap (λ v. v.0) (moved.same k).2) i;
        virtual = fun_ext {f = λ k. (load ms k).vtime.0} {g = λ k. cond (under t k (picked s) && not (leaf t k)) (load ls (next s k)).start.0 (load ls k).vtime.0} virtual_is i;
      };
      turns = turns + 1;
      phase = turn (Open (picked s) (head_cost K (lane (picked s))) 0);
    }

-- a dispatch of a tree with a shelf
module _ {T I : Type 0} {H : TagStore T} (K : Kind I) (t : Tree T I H) (sh : Shelf I K) where
  abbrev shape : Shape
  shape = shape_of t.queue.table

  abbrev ls : List Load
  ls = t.queue.loads

  abbrev now : ℕ → State I
  now w = state_of t sh w

  module _ (free : t.phase ≡ Free) where
    abbrev choice : Option ℕ
    choice = pick (H.held t.queue.store) (leaf shape 0) (load ls 0).backlog

    is_free : (w : ℕ) → is_open (now w).phase ≡ false
    is_free w = ap (λ p. is_open (turn p)) free

    choice_is : (w : ℕ) → choice ≡ cond (backlogged (now w) 0) (Some (picked (now w))) None
    choice_is w = pick_is (now w) (shape_sound t.queue.table) (leaves shape ls) (H.held t.queue.store)
        (stocked_stands t.house shape (weight_of t.queue.table) ls t.phase t.meter.0 t.turns (room sh) (lanes sh) w (shape_sound t.queue.table) t.counted (H.held t.queue.store) t.queue.in_step)
        (load ls 0).backlog (sym (busy_backlog shape ls t.counted 0))

    -- nothing is backlogged
    pub none_waits : None ≡ choice → (w : ℕ) → Step K (now w) dispatch (refused NothingBacklogged) (now w)
    none_waits none w = elim (cases_Bool (backlogged (now w) 0)) [
      | inl busy ↦ absurd (not_some (none ∙ choice_is w ∙ cond-true (backlogged (now w) 0) (Some (picked (now w))) None busy))
      | inr idle ↦ refuse K (now w) dispatch 1 NothingBacklogged (is_free w, (not_from_false _ idle, refl))
    ]

    module _ (r : ℕ) (to : Some r ≡ choice) where
      -- the leaf is the one that the rules pick
      comes : (w : ℕ) → (backlogged (now w) 0 ≡ true) × (r ≡ picked (now w))
      comes w = elim (cases_Bool (backlogged (now w) 0)) [
        | inl busy ↦ (busy, some_same (to ∙ choice_is w ∙ cond-true (backlogged (now w) 0) (Some (picked (now w))) None busy))
        | inr idle ↦ absurd (not_some (sym (to ∙ choice_is w ∙ cond-false (backlogged (now w) 0) (Some (picked (now w))) None idle)))
      ]

      -- each class on the path to it is the best of its parent's children
      pub chooses : (w : ℕ) → Chosen (now w) r
      chooses w = let (busy, is) = comes w in subst (Chosen (now w)) (sym is) (picks (now w) (shape_sound t.queue.table) (leaves shape ls) busy).0

      some_items : (w : ℕ) → 0 < queued shape ls r
      some_items w = let (busy, is) = comes w in subst (λ r. 0 < queued shape ls r) (sym is) (picks (now w) (shape_sound t.queue.table) (leaves shape ls) busy).1

      -- its lane is not as long as counted
      pub unmatched : None ≡ cond (eqb (length (lanes sh r)) (queued shape ls r)) (first (lanes sh r)) None → (w : ℕ) → Step K (now w) dispatch (refused LaneMismatch) (now w)
      unmatched none w =
          let (busy, is) = comes w in
          refuse K (now w) dispatch 2 LaneMismatch (is_free w, (not_from_true _ busy, (ap (mismatch (now w)) (sym is) ∙ not_from_false _ (unread (lanes sh r) (queued shape ls r) (some_items w) none), refl)))

      module _ (x : I) (head : Some x ≡ cond (eqb (length (lanes sh r)) (queued shape ls r)) (first (lanes sh r)) None) where
        full : length (lanes sh r) ≡ queued shape ls r
        full = (head_full (lanes sh r) (queued shape ls r) x head).0

        price : (w : ℕ) → K.costs x ≡ head_cost K (lanes sh (picked (now w)))
        price w = sym (head_read K x (lanes sh r) (head_full (lanes sh r) (queued shape ls r) x head).1).0 ∙ ap (λ r. head_cost K (lanes sh r)) (comes w).1

        -- the meter or the turns are used up
        pub used_up : (1000000000000 < t.meter.0 + K.costs x) ⊎ (1000000000000 < t.turns + 1) → (w : ℕ) → Step K (now w) dispatch (refused LimitReached) (now w)
        used_up past w =
            let (busy, is) = comes w in
            let matched = ap (mismatch (now w)) (sym is) ∙ not_from_true _ (eq-eqb _ _ full) in
            let over = ⊎_elim
            (λ l. or_left _ _ (lt-ltb _ _ (subst (λ c. 1000000000000 < t.meter.0 + c) (price w) l)))
            (λ l. or_right (ltb 1000000000000 (t.meter.0 + head_cost K (lanes sh (picked (now w))))) _ (le-leb _ _ (omega arith))) past in
            refuse K (now w) dispatch 3 LimitReached (is_free w, (not_from_true _ busy, (matched, (over, refl))))

        -- the turn begins
        pub goes : t.meter.0 + K.costs x ≤ 1000000000000 → t.turns < 1000000000000 → (q : Queue T H) → q.table ≡ t.queue.table → Advanced shape r ls q.loads → (w : ℕ) →
            Step K (now w) dispatch (granted (record { house = t.house; turn = t.turns + 1 }) r (K.costs x)) (state t.house (shape_of q.table) (weight_of q.table) q.loads (Open r (K.costs x) 0) t.meter.0 (t.turns + 1) (room sh) (lanes sh) w)
        goes low few q table moved w =
            let (busy, is) = comes w in
            let Goes : ℕ → ℕ → Type 0 = λ r c. Step K (now w) dispatch (granted (record { house = t.house; turn = t.turns + 1 }) r c) (state t.house (shape_of q.table) (weight_of q.table) q.loads (Open r c 0) t.meter.0 (t.turns + 1) (room sh) (lanes sh) w) in
            let made = accept K (now w) dispatch 0 (record { free = ap turn free; busy = busy; full = subst (λ r. length (lanes sh r) ≡ queued shape ls r) is full; meter = subst (λ c. t.meter.0 + c ≤ 1000000000000) (price w) low; turns = few }) (omega arith) in
            let left = (λ i. state t.house (shape_of (table i)) (weight_of (table i)) q.loads (Open (picked (now w)) (head_cost K (lanes sh (picked (now w)))) 0) t.meter.0 (t.turns + 1) (room sh) (lanes sh) w)
            ∙ dispatch_leaves t.house shape (weight_of t.queue.table) ls t.phase t.meter.0 t.turns (room sh) (lanes sh) w (shape_sound t.queue.table) t.counted busy q.loads (subst (λ r. Advanced shape r ls q.loads) is moved) K in
            subst (λ r. Goes r (K.costs x)) (sym is) (subst (Goes (picked (now w))) (sym (price w))
            (subst (Step K (now w) dispatch (granted (record { house = t.house; turn = t.turns + 1 }) (picked (now w)) (head_cost K (lanes sh (picked (now w)))))) (sym left) made))
