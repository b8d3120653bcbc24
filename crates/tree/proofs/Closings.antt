-- A turn is closed: what the walk makes of the loads is what the rules say of a closing. Assumes nothing.
use Rattle.std.proofs.Common.{◌≡◌, ℕ, ◌+◌, ◌-◌, ◌*◌, ◌<◌, ◌≤◌, max, Bool, true, false, cond, not, ◌&&◌, eqb, ltb, ◌⊎◌, List, length, None, sym, refl, ap, ◌∙◌, subst, inl, inr, ⊎_elim, div-le_self, arith}
use mathlib.Core.Bool.{and_assoc}
use mathlib.Core.Path.{fun_ext}
use Rattle.std.proofs.lemmas.Bool.{cases_eq, cond_both, cond-true, cond-false, eq-eqb, ne_eqb, not_from_true, not_from_false, or_left, or_right, or_from}
use Rattle.base.specs.Charge.{charged}
use Rattle.base.specs.declared.refusal.Refusal.TheVariants.{LaneMismatch, NoStoppingPoint}
use Rattle.classes.specs.Tables.{shape_of, weight_of}
use Rattle.classes.proofs.Tables.{shape_sound}
use Rattle.rules.specs.Kind.{Kind}
use Rattle.rules.specs.Shape.{Shape, Sound, under, leaf}
use Rattle.rules.specs.State.{State, put, is_open, backlogged_by}
use Rattle.rules.specs.Rules.{Grant, end_turn, give_up, refused, closed, head_cost, may_stop, settle, Step}
use Rattle.rules.specs.Rules as rules
use Rattle.rules.specs.Laws.{Within}
use Rattle.rules.proofs.Calls.{accept, refuse}
use Rattle.shelf.specs.Lanes.{lanes, room}
use Rattle.shelf.specs.declared.shelf.Shelf.{Shelf}
use Rattle.tags.specs.declared.TagStore.{Ghosts as TagStore}
use Rattle.tree.specs.Closings.{Closes}
use Rattle.tree.specs.Counts.{queued, Counted}
use Rattle.tree.specs.Loads.{load}
use Rattle.tree.specs.Turns.{turn, serving}
use Rattle.tree.specs.Walks.{fewer, rests, reached, settled}
use Rattle.tree.specs.States.{tags, state}
use Rattle.tree.specs.Trees.{state_of}
use Rattle.tree.specs.declared.load.Load.{Load}
use Rattle.tree.specs.declared.phase.Phase.TheVariants.{Free, Open}
use Rattle.tree.specs.declared.tree.Tree.{Tree}
use Rattle.tree.proofs.Counts.{leaves, queue_known, busy_backlog, queued_low, queued_put, counted_put, few_put}
use Rattle.tree.proofs.Grants.{own, at, names}

-- one less on the path
one_less : (u gone : Bool) (b q : ℕ) → (u ≡ true → gone ≡ true → (0 < q) × (q ≤ b)) → cond (u && gone) (b - 1) b + cond u q 0 ≡ b + cond u (cond gone (q - 1) q) 0
one_less true true b q some = let (p, l) = some refl refl in omega arith
one_less true false b q some = refl
one_less false gone b q some = refl

module _ (t : Shape) (w : ℕ → ℕ) (ls ms : List Load) (c d : ℕ) (gone : Bool) (loads : (k : ℕ) → load ms k ≡ settled t w ls (λ j. under t j c) d gone k) where
  abbrev on : ℕ → Bool
  on j = under t j c

  reached_low : (m k : ℕ) → Within (tags ls) (720720 * m) → reached t w ls on d gone k ≤ 720720 * (m + d)
  reached_low m k was = cond_both (ltb 0 k && on k) ((load ls k).start.0 + charged d (w k)) (load ls k).finish.0 (λ x. x ≤ 720720 * (m + d))
      (λ _. omega (arith, (was k).0, div-le_self (d * 720720) (w k)))
      (λ _. omega (arith, (was k).1))

  -- no tag passes the limit, which the charge raises
  pub settled_within : (m : ℕ) → Within (tags ls) (720720 * m) → Within (tags ms) (720720 * (m + d))
  settled_within m was k =
      let low : reached t w ls on d gone k ≤ 720720 * (m + d) = reached_low m k was in
      let wide : ℕ → Type 0 = λ x. x ≤ 720720 * (m + d) in
      subst (λ l. (l.start.0 ≤ 720720 * (m + d)) × (l.finish.0 ≤ 720720 * (m + d)) × (l.vtime.0 ≤ 720720 * (m + d))) (sym (loads k)) (
        cond_both (ltb 0 k && on k && ltb 0 (fewer t w ls on d gone k)) (max (load ls (t.parent k)).vtime.0 (reached t w ls on d gone k)) (load ls k).start.0 wide
            (λ _. omega (arith, low, (was (t.parent k)).2)) (λ _. omega (arith, (was k).0)),
        cond_both (ltb 0 k && rests t w ls on d gone (t.parent k)) 0 (reached t w ls on d gone k) wide (λ _. omega arith) (λ _. low),
        cond_both (rests t w ls on d gone k) 0 (load ls k).vtime.0 wide (λ _. omega arith) (λ _. omega (arith, (was k).2)),
      )

  -- the root's start tag does not move
  pub settled_root : (load ms 0).start ≡ (load ls 0).start
  settled_root = ap (λ l. l.start) (loads 0)

  module _ (ok : Sound t) (counted : Counted t ls) (lt : c < t.count) (end : leaf t c ≡ true) (some : gone ≡ true → 0 < queued t ls c) where
    -- what the lane counts then
    abbrev left : ℕ
    left = cond gone (queued t ls c - 1) (queued t ls c)

    change : (k : ℕ) → (load ms k).backlog + cond (on k) (queued t ls c) 0 ≡ (load ls k).backlog + cond (on k) left 0
    change k =
        ap (λ l. l.backlog + cond (on k) (queued t ls c) 0) (loads k)
        ∙ one_less (on k) gone (load ls k).backlog (queued t ls c) (λ u g. (some g, queued_low t ls counted k c lt u))

    pub settled_queued : (k : ℕ) → queued t ms k ≡ put (queued t ls) c left k
    settled_queued = queued_put t ok ls ms c left lt end change

    pub settled_counted : Counted t ms
    settled_counted = counted_put t ok ls ms c left lt end change counted

    pub settled_few : ((k : ℕ) → queued t ls k ≤ 256) → (k : ℕ) → queued t ms k ≤ 256
    settled_few few = few_put t ok ls ms c left lt end change (cond_both gone (queued t ls c - 1) (queued t ls c) (λ x. x ≤ 256) (λ _. omega (arith, few c)) (λ _. few c)) few

    module _ (q : ℕ → ℕ) (queues : (k : ℕ) → put (queued t ls) c left k ≡ q k) where
      -- a class is still backlogged exactly if it still counts an item
      still : (k : ℕ) → ltb 0 (fewer t w ls on d gone k) ≡ backlogged_by t q k
      still k =
          ap (λ l. ltb 0 l.backlog) (sym (loads k)) ∙ sym (busy_backlog t ms settled_counted k)
          ∙ ap (λ f. backlogged_by t f k) (fun_ext {f = queued t ms} {g = q} (λ j. settled_queued j ∙ queues j))

      -- the state is the one that the rules leave
      pub closing_leaves : {I : Type 0} (house cost meter turns places : ℕ) (lane lane' : ℕ → List I) (work : ℕ) →
          state house t w ms Free (meter + d) turns places lane' work ≡ settle (state house t w ls (Open c cost d) meter turns places lane work) lane' q
      closing_leaves house cost meter turns places lane lane' work = λ i. record {
        house = house;
        shape = t;
        weight = w;
        places = places;
        turns = turns;
        work = work;
        tags = record {
          start = fun_ext {f = λ k. (load ms k).start.0} {g = λ k. cond (ltb 0 k && on k && backlogged_by t q k) (max (load ls (t.parent k)).vtime.0 (reached t w ls on d gone k)) (load ls k).start.0}
              (λ k. ap (λ l. l.start.0) (loads k) ∙ ap (λ b. cond (ltb 0 k && on k && b) (max (load ls (t.parent k)).vtime.0 (reached t w ls on d gone k)) (load ls k).start.0) (still k)) i;
          finish = fun_ext {f = λ k. (load ms k).finish.0} {g = λ k. cond (ltb 0 k && on (t.parent k) && not (backlogged_by t q (t.parent k))) 0 (reached t w ls on d gone k)}
              (λ k. ap (λ l. l.finish.0) (loads k) ∙ ap (λ b. cond b 0 (reached t w ls on d gone k)) (sym (and_assoc (ltb 0 k) (on (t.parent k)) (not (ltb 0 (fewer t w ls on d gone (t.parent k)))))) ∙ ap (λ b. cond (ltb 0 k && on (t.parent k) && not b) 0 (reached t w ls on d gone k)) (still (t.parent k))) i;
          virtual = fun_ext {f = λ k. (load ms k).vtime.0} {g = λ k. cond (on k && not (backlogged_by t q k)) 0 (load ls k).vtime.0}
              (λ k. ap (λ l. l.vtime.0) (loads k) ∙ ap (λ b. cond (on k && not b) 0 (load ls k).vtime.0) (still k)) i;
        };
        queued = fun_ext {f = queued t ms} {g = q} (λ j. settled_queued j ∙ queues j) i;
        lane = lane';
        phase = None;
        meter = meter + d;
      }

-- u is t after the closing
module _ {T I : Type 0} {H : TagStore T} (t u : Tree T I H) (leaf done : ℕ) (gone : Bool) (c : Closes t leaf done gone u) where
  abbrev shape : Shape
  shape = shape_of t.queue.table

  -- the state is the one that the rules leave
  pub closes_to : {K : Kind I} → 0 < queued shape t.queue.loads leaf → (sh sh' : Shelf I K) (cost w : ℕ) (q : ℕ → ℕ) → ((k : ℕ) → put (queued shape t.queue.loads) leaf (cond gone (queued shape t.queue.loads leaf - 1) (queued shape t.queue.loads leaf)) k ≡ q k) →
      room sh' ≡ room sh → (lane' : ℕ → List I) → lanes sh' ≡ lane' →
      state_of u sh' w ≡ settle (state t.house shape (weight_of t.queue.table) t.queue.loads (Open leaf cost done) t.meter.0 t.turns (room sh) (lanes sh) w) lane' q
  closes_to some sh sh' cost w q queues rooms lane' lane =
      (λ i. state (c.house i) (shape_of (c.table i)) (weight_of (c.table i)) u.queue.loads (c.free i) (c.charged i) (c.turns i) (rooms i) (lane i) w)
      ∙ closing_leaves shape (weight_of t.queue.table) t.queue.loads u.queue.loads leaf done gone c.loads (shape_sound t.queue.table) t.counted
      (queue_known shape t.queue.loads t.counted (shape_sound t.queue.table) leaf some) (leaves shape t.queue.loads leaf some) (λ _. some) q queues
      t.house cost t.meter.0 t.turns (room sh) (lanes sh) lane' w

put_same : (q : ℕ → ℕ) (c k : ℕ) → put q c (q c) k ≡ q k
put_same q c k = elim (cases_eq k c) [
  | inl e ↦ cond-true (eqb k c) (q c) (q k) (eq-eqb k c e) ∙ ap q (sym e)
  | inr e ↦ cond-false (eqb k c) (q c) (q k) (ne_eqb k c e)
]

-- the calls that close the turn of the leaf
module _ {T I : Type 0} {H : TagStore T} (K : Kind I) (t : Tree T I H) (g : Grant) (leaf cost done : ℕ) (opened : t.phase ≡ Open leaf cost done) (is-own : true ≡ own K t g) (sh : Shelf I K) where
  abbrev counts : ℕ
  counts = queued (shape_of t.queue.table) t.queue.loads leaf

  abbrev now : ℕ → State I
  now w = at K t g sh w (Open leaf cost done)

  -- the lane has an item
  pub some : 0 < counts
  some = subst (λ p. is_open (turn p) ≡ true → 0 < queued (shape_of t.queue.table) t.queue.loads (serving p).leaf) opened t.served refl

  right : (w : ℕ) → rules.wrong_grant (now w) g ≡ false
  right w = let n = names K t g leaf cost done opened is-own sh w in or_from _ _ (not_from_true _ (eq-eqb _ _ n.house)) (not_from_true _ (eq-eqb _ _ n.turn))

  -- the lane is not as long as counted, or its head costs otherwise
  pub end_mismatch : (eqb (length (lanes sh leaf)) counts ≡ false) ⊎ (head_cost K (lanes sh leaf) ≡ cost → ⊥) → (w : ℕ) → Step K (state_of t sh w) (end_turn g) (refused LaneMismatch) (state_of t sh w)
  end_mismatch off w = subst (λ p. Step K (at K t g sh w p) (end_turn g) (refused LaneMismatch) (at K t g sh w p)) (sym opened)
      (refuse K (now w) (end_turn g) 1 LaneMismatch (right w, (⊎_elim (λ e. or_left _ _ (not_from_false _ e)) (λ e. or_right (not (eqb (length (lanes sh leaf)) counts)) _ (not_from_false _ (ne_eqb _ _ e))) off, refl)))

  module _ (full : length (lanes sh leaf) ≡ counts) where
    -- the turn is given up: the item stays
    pub gives_up : (u : Tree T I H) → Closes t leaf done false u → (w : ℕ) → Step K (state_of t sh w) (give_up g) (closed done) (state_of u sh w)
    gives_up u c w = subst (λ p. Step K (at K t g sh w p) (give_up g) (closed done) (state_of u sh w)) (sym opened)
        (subst (Step K (now w) (give_up g) (closed done)) (sym (closes_to t u leaf done false c some sh sh cost w (queued (shape_of t.queue.table) t.queue.loads) (put_same (queued (shape_of t.queue.table) t.queue.loads) leaf) refl (lanes sh) refl))
        (accept K (now w) (give_up g) 0 (names K t g leaf cost done opened is-own sh w, full) (omega arith)))

    module _ (costs : head_cost K (lanes sh leaf) ≡ cost) where
      -- the item may not stop there
      pub no_stop : may_stop K (lanes sh leaf) done ≡ false → (w : ℕ) → Step K (state_of t sh w) (end_turn g) (refused NoStoppingPoint) (state_of t sh w)
      no_stop off w = subst (λ p. Step K (at K t g sh w p) (end_turn g) (refused NoStoppingPoint) (at K t g sh w p)) (sym opened)
          (refuse K (now w) (end_turn g) 2 NoStoppingPoint (right w, (or_from _ _ (not_from_true _ (eq-eqb _ _ full)) (not_from_true _ (eq-eqb _ _ costs)), (not_from_false _ off, refl))))

      -- the turn is ended: the item leaves, or what is left takes its place
      pub ends : may_stop K (lanes sh leaf) done ≡ true → (u : Tree T I H) → Closes t leaf done (eqb done cost) u → (sh' : Shelf I K) → room sh' ≡ room sh → lanes sh' ≡ put (lanes sh) leaf (rules.settled K (lanes sh leaf) done) → (w : ℕ) →
          Step K (state_of t sh w) (end_turn g) (closed done) (state_of u sh' w)
      ends stops u c sh' rooms lane w = subst (λ p. Step K (at K t g sh w p) (end_turn g) (closed done) (state_of u sh' w)) (sym opened)
          (subst (Step K (now w) (end_turn g) (closed done)) (sym (closes_to t u leaf done (eqb done cost) c some sh sh' cost w (put (queued (shape_of t.queue.table) t.queue.loads) leaf (cond (eqb done cost) (counts - 1) counts)) (λ _. refl) rooms _ lane))
          (accept K (now w) (end_turn g) 0 (names K t g leaf cost done opened is-own sh w, record { full = full; cost = costs; stops = stops }) (omega arith)))
