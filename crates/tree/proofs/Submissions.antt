-- An item more in the lane of a leaf: what the walk makes of the loads is what the rules say of a submission. Assumes nothing.
use Rattle.std.proofs.Common.{◌≡◌, ℕ, ◌+◌, ◌<◌, ◌≤◌, max, Bool, true, false, cond, not, ◌&&◌, eqb, ltb, leb, List, [], ◌∷◌, ◌++◌, length, sym, refl, ap, ◌∙◌, subst, arith}
use mathlib.Core.Path.{fun_ext}
use Rattle.std.proofs.lemmas.Bool.{cond_both, eqb-true, lt-ltb, le-leb, and_from, not_from_true}
use Rattle.std.proofs.lemmas.Bool.Decides.{nat_tests}
use Rattle.base.specs.declared.refusal.Refusal.TheVariants.{ShelfFull}
use Rattle.classes.specs.Tables.{class_count, shape_of, weight_of}
use Rattle.classes.proofs.Tables.{shape_sound}
use Rattle.rules.specs.Kind.{Kind}
use Rattle.rules.specs.Shape.{Shape, Sound, under, leaf}
use Rattle.rules.specs.State.{State, put, stored, backlogged_by}
use Rattle.rules.specs.Rules.{submit, refused, accepted, effect, Step}
use Rattle.rules.specs.Laws.{Within}
use Rattle.rules.proofs.Calls.{accept, refuse}
use Rattle.shelf.specs.Lanes.{lanes, room}
use Rattle.shelf.specs.Lanes as shelf
use Rattle.shelf.specs.declared.shelf.Shelf.{Shelf}
use Rattle.tags.specs.declared.TagStore.{Ghosts as TagStore}
use Rattle.tree.specs.Counts.{queued, Counted}
use Rattle.tree.specs.Loads.{load}
use Rattle.tree.specs.Walks.{wakes, woken}
use Rattle.tree.specs.Turns.{turn}
use Rattle.tree.specs.States.{tags, state}
use Rattle.tree.specs.Trees.{state_of}
use Rattle.tree.specs.declared.load.Load.{Load}
use Rattle.tree.specs.declared.phase.Phase.{Phase}
use Rattle.tree.specs.declared.queue.Queue.{Queue}
use Rattle.tree.specs.declared.tree.Tree.{Tree}
use Rattle.tree.proofs.Counts.{busy_backlog, queued_put, counted_put, few_put}
use Rattle.tree.proofs.Shelves.{stored_room, lane_low, lane_put}

-- no item is counted
none_counted : (n : ℕ) → eqb n 0 ≡ not (ltb 0 n)
none_counted n = grind (arith, nat_tests)

-- one more on the path
one_more : (u : Bool) (b q : ℕ) → cond u (b + 1) b + cond u q 0 ≡ b + cond u (q + 1) 0
one_more true b q = omega arith
one_more false b q = refl

module _ (t : Shape) (ls ms : List Load) (c : ℕ) (loads : (k : ℕ) → load ms k ≡ woken t ls (λ j. under t j c) k) where
  abbrev on : ℕ → Bool
  on j = under t j c

  -- no tag passes the limit
  pub woken_within : (m : ℕ) → Within (tags ls) m → Within (tags ms) m
  woken_within m was k = subst (λ l. (l.start.0 ≤ m) × (l.finish.0 ≤ m) × (l.vtime.0 ≤ m)) (sym (loads k)) (
    cond_both (wakes t ls on k) (max (load ls (t.parent k)).vtime.0 (load ls k).finish.0) (load ls k).start.0 (λ x. x ≤ m) (λ _. omega (arith, (was k).1, (was (t.parent k)).2)) (λ _. (was k).0),
    (was k).1,
    (was k).2,
  )

  module _ (ok : Sound t) (counted : Counted t ls) (lt : c < t.count) (end : leaf t c ≡ true) where
    change : (k : ℕ) → (load ms k).backlog + cond (on k) (queued t ls c) 0 ≡ (load ls k).backlog + cond (on k) (queued t ls c + 1) 0
    change k = ap (λ l. l.backlog + cond (on k) (queued t ls c) 0) (loads k) ∙ one_more (on k) (load ls k).backlog (queued t ls c)

    -- the lane counts one more
    pub woken_queued : (k : ℕ) → queued t ms k ≡ put (queued t ls) c (queued t ls c + 1) k
    woken_queued = queued_put t ok ls ms c (queued t ls c + 1) lt end change

    pub woken_counted : Counted t ms
    woken_counted = counted_put t ok ls ms c (queued t ls c + 1) lt end change counted

    pub woken_few : queued t ls c < 256 → ((k : ℕ) → queued t ls k ≤ 256) → (k : ℕ) → queued t ms k ≤ 256
    woken_few low = few_put t ok ls ms c (queued t ls c + 1) lt end change (omega arith)

    -- a lane that has items keeps them
    pub woken_some : (l : ℕ) → 0 < queued t ls l → 0 < queued t ms l
    woken_some l some = subst (λ x. 0 < x) (sym (woken_queued l)) (cond_both (eqb l c) (queued t ls c + 1) (queued t ls l) (λ x. 0 < x) (λ _. omega arith) (λ _. some))

    -- the state is the one that the rules leave
    pub submit_leaves : {I : Type 0} (K : Kind I) (x : I) (house : ℕ) (w : ℕ → ℕ) (phase : Phase) (meter turns places : ℕ) (lane lane' : ℕ → List I) (work : ℕ) → lane' ≡ put lane c (lane c ++ x ∷ []) →
        state house t w ms phase meter turns places lane' work ≡ effect K (state house t w ls phase meter turns places lane work) (submit c x) 0
    submit_leaves K x house w phase meter turns places lane lane' work lanes = λ i. record {
      house = house;
      shape = t;
      weight = w;
      places = places;
      phase = turn phase;
      meter = meter;
      turns = turns;
      work = work;
      tags = record {
        start = fun_ext {f = λ k. (load ms k).start.0} {g = λ k. cond (ltb 0 k && on k && not (backlogged_by t (queued t ls) k)) (max (load ls (t.parent k)).vtime.0 (load ls k).finish.0) (load ls k).start.0}
            (λ k. ap (λ l. l.start.0) (loads k) ∙ ap (λ b. cond (ltb 0 k && on k && b) (max (load ls (t.parent k)).vtime.0 (load ls k).finish.0) (load ls k).start.0) (idle k)) i;
        finish = fun_ext {f = λ k. (load ms k).finish.0} {g = λ k. (load ls k).finish.0} (λ k. ap (λ l. l.finish.0) (loads k)) i;
        virtual = fun_ext {f = λ k. (load ms k).vtime.0} {g = λ k. (load ls k).vtime.0} (λ k. ap (λ l. l.vtime.0) (loads k)) i;
      };
      queued = fun_ext {f = queued t ms} {g = put (queued t ls) c (queued t ls c + 1)} woken_queued i;
      lane = lanes i;
    }
      where
        idle : (k : ℕ) → eqb (load ls k).backlog 0 ≡ not (backlogged_by t (queued t ls) k)
        idle k = none_counted (load ls k).backlog ∙ ap not (sym (busy_backlog t ls counted k))

-- a submission to a tree with a shelf
module _ {T I : Type 0} {H : TagStore T} (K : Kind I) (t : Tree T I H) (sh : Shelf I K) (c : ℕ) (x : I) where
  abbrev shape : Shape
  shape = shape_of t.queue.table

  abbrev s : ℕ → State I
  s w = state_of t sh w

  module _ (known : c < class_count t.queue.table) where
    in_tree : not (ltb c (class_count t.queue.table)) ≡ false
    in_tree = not_from_true _ (lt-ltb c (class_count t.queue.table) known)

    module _ (end : leaf shape c ≡ true) where
      module _ (low : 1 ≤ K.costs x) (high : K.costs x ≤ 65535) where
        costs_right : not (leb 1 (K.costs x) && leb (K.costs x) 65535) ≡ false
        costs_right = not_from_true _ (and_from _ _ (le-leb 1 (K.costs x) low) (le-leb (K.costs x) 65535 high))

        module _ (full : true ≡ eqb (length (lanes sh c)) (queued shape t.queue.loads c)) where
          -- no place is free
          pub no_place : shelf.free sh ≡ 0 → (w : ℕ) → Step K (s w) (submit c x) (refused ShelfFull) (s w)
          no_place none w = refuse K (s w) (submit c x) 4 ShelfFull (in_tree, (not_from_true _ end, (costs_right, (not_from_true _ (sym full), (le-leb (room sh) (stored (s w)) (omega (arith, none, stored_room sh (s w) refl)), refl)))))

          module _ (some : 0 < shelf.free sh) where
            -- the lane has room for one more
            pub lane_room : queued shape t.queue.loads c < 256
            lane_room = subst (λ n. n < 256) (eqb-true _ _ (sym full)) (lane_low sh c (omega (arith, known, t.queue.table.few)) some)

            -- the item is in its lane, and the path is awake
            pub enters : (sh' : Shelf I K) (q : Queue T H) → q.table ≡ t.queue.table → room sh' ≡ room sh → ((j : ℕ) → lanes sh' j ≡ cond (eqb j c) (lanes sh j ++ x ∷ []) (lanes sh j)) →
                ((k : ℕ) → load q.loads k ≡ woken shape t.queue.loads (λ j. under shape j c) k) → (w : ℕ) →
                Step K (s w) (submit c x) accepted (state t.house (shape_of q.table) (weight_of q.table) q.loads t.phase t.meter.0 t.turns (room sh') (lanes sh') w)
            enters sh' q table rooms lane loads w = subst (Step K (s w) (submit c x) accepted)
                (sym ((λ i. state t.house (shape_of (table i)) (weight_of (table i)) q.loads t.phase t.meter.0 t.turns (rooms i) (lanes sh') w)
                ∙ submit_leaves shape t.queue.loads q.loads c loads (shape_sound t.queue.table) t.counted known end K x t.house (weight_of t.queue.table) t.phase t.meter.0 t.turns (room sh) (lanes sh) (lanes sh') w (lane_put (λ l. l ++ x ∷ []) (lanes sh) (lanes sh') c lane)))
                (accept K (s w) (submit c x) 0 (record { known = known; ends = end; low = low; high = high; full = eqb-true _ _ (sym full); room = omega (arith, stored_room sh (s w) refl) }) (omega arith))
