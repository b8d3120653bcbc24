-- A call is refused and changes nothing, or it passes every check of the table and has its answer and its effect. Assumes nothing.
use Rattle.std.proofs.Common.{◌≡◌, ℕ, zero, suc, ◌+◌, ◌≤◌, Bool, true, false, cond, not, List, [], ◌∷◌, length, Some, None, Decides, Option, sym, refl, ap, ◌∙◌, subst, subst₂}
use Rattle.std.proofs.lemmas.Bool.{eqb-true, eq-eqb, ltb-true, ltb-false, lt-ltb, le-ltb, leb-true, leb-false, le-leb, lt-leb, and_parts, and_from, or_parts, or_from, not-false, not_from_true, both_ways}
use Rattle.base.specs.declared.refusal.Refusal.{Refusal}
use Rattle.rules.specs.Kind.{Kind}
use Rattle.rules.specs.State.{Opening, fresh, Turn, State, is_open, turn_of, picked, stored, mismatch, open_turn, to_do}
use Rattle.rules.specs.Rules.{Grant, Call, submit, dispatch, pulse, end_turn, give_up, Answer, refused, first, head_cost, wrong_grant, table, refusal, answer, effect, Says, Step}
use Rattle.rules.specs.Ready.{Names, Ready, is_accepted, Accepts}
use Rattle.rules.specs.History.{Entry, entry, Run, opened, made}
use Rattle.rules.proofs.Tests.{not_some}

-- the checks of a call that is not refused fail one and all
abbrev Passed : List (Bool × Refusal) → Type 0
Passed [] = Unit {0}
Passed (c ∷ cs) = (c.0 ≡ false) × Passed cs

-- no refusal, so no check passed
passed : (cs : List (Bool × Refusal)) → first cs ≡ None → Passed cs
passed [] e = tt
passed (c ∷ cs) e = by c.0 refl e (passed cs)
  where
    by : (b : Bool) → c.0 ≡ b → cond b (Some c.1) (first cs) ≡ None → (first cs ≡ None → Passed cs) → (c.0 ≡ false) × Passed cs
    by true h e rest = absurd (not_some (sym e))
    by false h e rest = (h, rest e)

-- and the other way round
none_of : (cs : List (Bool × Refusal)) → Passed cs → first cs ≡ None
none_of [] p = refl
none_of (c ∷ cs) p = ap (λ x. cond x (Some c.1) (first cs)) p.0 ∙ none_of cs p.1

-- check number i is the first that passes, and e stands beside it
abbrev pub Refuses : List (Bool × Refusal) → ℕ → Refusal → Type 0
Refuses [] i e = ⊥
Refuses (c ∷ cs) zero e = (c.0 ≡ true) × (c.1 ≡ e)
Refuses (c ∷ cs) (suc i) e = (c.0 ≡ false) × Refuses cs i e

-- then e is the refusal
first_is : (cs : List (Bool × Refusal)) (i : ℕ) (e : Refusal) → Refuses cs i e → first cs ≡ Some e
first_is [] i e r = absurd r
first_is (c ∷ cs) zero e r = ap (λ b. cond b (Some c.1) (first cs)) r.0 ∙ ap Some r.1
first_is (c ∷ cs) (suc i) e r = ap (λ b. cond b (Some c.1) (first cs)) r.0 ∙ first_is cs i e r.1

-- a phase with no open turn is free
free_now : (p : Option Turn) → is_open p ≡ false → p ≡ None
free_now None e = refl
free_now (Some u) e = absurd (both_ways true e refl)

-- an open turn is the phase's turn
open_now : (p : Option Turn) → is_open p ≡ true → p ≡ Some (turn_of p)
open_now None e = absurd (both_ways false refl e)
open_now (Some u) e = refl

module _ {I : Type 0} (K : Kind I) where
  -- a lane as long as its count
  matched : (s : State I) (l : ℕ) → mismatch s l ≡ false → length (s.lane l) ≡ s.queued l
  matched s l e = eqb-true _ _ (not-false _ e)

  -- and the other way round
  unmatched : (s : State I) (l : ℕ) → length (s.lane l) ≡ s.queued l → mismatch s l ≡ false
  unmatched s l e = not_from_true _ (eq-eqb _ _ e)

  -- a call that is not refused by 9 names the open turn
  names : (s : State I) (g : Grant) → wrong_grant s g ≡ false → Names K s g
  names s g e =
      let (p, turn) = or_parts _ _ e in
      let (is, house) = or_parts _ _ p in
      record { opened = open_now s.phase (not-false _ is); house = eqb-true g.house s.house (not-false _ house); turn = eqb-true g.turn s.turns (not-false _ turn) }

  -- and the other way round
  named : (s : State I) (g : Grant) → Names K s g → wrong_grant s g ≡ false
  named s g n =
      or_from _ _ (or_from _ _ (ap (λ p. not (is_open p)) n.opened) (not_from_true _ (eq-eqb g.house s.house n.house))) (not_from_true _ (eq-eqb g.turn s.turns n.turn))

  -- a call that no check refuses is ready
  ready : (s : State I) (c : Call I) → refusal K s c ≡ None → Ready K s c
  ready s (submit c x) e =
      let p = passed (table K s (submit c x)) e in
      let (low, high) = and_parts _ _ (not-false _ p.1.1.0) in
      record {
        known = ltb-true c s.shape.count (not-false _ p.0);
        ends = not-false _ p.1.0;
        low = leb-true 1 (K.costs x) low;
        high = leb-true (K.costs x) 65535 high;
        full = matched s c p.1.1.1.0;
        room = leb-false s.places (stored s) p.1.1.1.1.0;
      }
  ready s dispatch e =
      let p = passed (table K s dispatch) e in
      let (meter, turns) = or_parts _ _ p.1.1.1.0 in
      record {
        free = free_now s.phase p.0;
        busy = not-false _ p.1.0;
        full = matched s (picked s) p.1.1.0;
        meter = ltb-false 1000000000000 (s.meter + head_cost K (s.lane (picked s))) meter;
        turns = leb-false 1000000000000 s.turns turns;
      }
  ready s (pulse g) e = names s g (passed (table K s (pulse g)) e).0
  ready s (end_turn g) e =
      let p = passed (table K s (end_turn g)) e in
      let u = open_turn s in
      let (full, cost) = or_parts _ _ p.1.0 in
      (names s g p.0, record { full = matched s u.leaf full; cost = eqb-true (head_cost K (s.lane u.leaf)) u.cost (not-false _ cost); stops = not-false _ p.1.1.0 })
  ready s (give_up g) e = let p = passed (table K s (give_up g)) e in (names s g p.0, matched s (open_turn s).leaf p.1.0)

  -- and the other way round
  passes : (s : State I) (c : Call I) → Ready K s c → refusal K s c ≡ None
  passes s (submit c x) r =
      let known = not_from_true _ (lt-ltb c s.shape.count r.known) in
      let cost = not_from_true _ (and_from _ _ (le-leb 1 (K.costs x) r.low) (le-leb (K.costs x) 65535 r.high)) in
      none_of (table K s (submit c x)) (known, (ap not r.ends, (cost, (unmatched s c r.full, (lt-leb s.places (stored s) r.room, tt)))))
  passes s dispatch r =
      let more = or_from _ _ (le-ltb 1000000000000 (s.meter + head_cost K (s.lane (picked s))) r.meter) (lt-leb 1000000000000 s.turns r.turns) in
      none_of (table K s dispatch) (ap is_open r.free, (ap not r.busy, (unmatched s (picked s) r.full, (more, tt))))
  passes s (pulse g) r = none_of (table K s (pulse g)) (named s g r, tt)
  passes s (end_turn g) (n, r) =
      let u = open_turn s in
      let cost = not_from_true _ (eq-eqb (head_cost K (s.lane u.leaf)) u.cost r.cost) in
      none_of (table K s (end_turn g)) (named s g n, (or_from _ _ (unmatched s u.leaf r.full) cost, (ap not r.stops, tt)))
  passes s (give_up g) (n, full) = none_of (table K s (give_up g)) (named s g n, (unmatched s (open_turn s).leaf full, tt))

  -- a ready call is a step
  pub accept : (s : State I) (c : Call I) (d : ℕ) → Ready K s c → d ≤ to_do s → Step K s c (answer K s c d) (effect K s c d)
  accept s c d r le = rw (passes s c r) (d, le, refl, refl)

  -- so is a refused one
  pub refuse : (s : State I) (c : Call I) (i : ℕ) (e : Refusal) → Refuses (table K s c) i e → Step K s c (refused e) s
  refuse s c i e r = rw (first_is (table K s c) i e r) (refl, refl)

  -- what holds of each refusal and of each ready call holds of each step
  pub by_step : (s : State I) (P : Call I → Answer → State I → Type 0) → ((c : Call I) (e : Refusal) → P c (refused e) s) → ((c : Call I) (d : ℕ) → Ready K s c → d ≤ to_do s → P c (answer K s c d) (effect K s c d)) →
      (c : Call I) (a : Answer) (s' : State I) → Step K s c a s' → P c a s'
  by_step s P stays moves c a s' = by (refusal K s c) refl
    where
      by : (r : Option Refusal) → refusal K s c ≡ r → Says K r s c a s' → P c a s'
      by (Some n) e q = subst₂ (P c) (sym q.0) (sym q.1) (stays c n)
      by None e q = subst₂ (P c) (sym q.2) (sym q.3) (moves c q.0 (ready s c e) q.1)

  -- the answer of an accepted call is no refusal
  answered : (s : State I) (c : Call I) (d : ℕ) → is_accepted (answer K s c d) ≡ true
  answered s (submit c x) d = refl
  answered s dispatch d = refl
  answered s (pulse g) d = refl
  answered s (end_turn g) d = refl
  answered s (give_up g) d = refl

  -- so a call is accepted exactly when it is ready
  pub accepts : Accepts K
  accepts s c a s' st = by_step s (λ c a s'. Step K s c a s' → Decides (is_accepted a) (Ready K s c))
      (λ c e now. (
        λ yes. absurd (both_ways _ refl yes),
        λ r. let (d, _, says, _) = subst (λ o. Says K o s c (refused e) s) (passes s c r) now in ap is_accepted says ∙ answered s c d,
      ))
      (λ c d r _ _. (λ _. r, λ _. answered s c d)) c a s' st st

  -- what holds at the opening, and is kept by each refusal and by each ready call, holds after every history
  pub by_calls : (o : Opening) (P : List (Entry I) → State I → Type 0) → P [] (fresh o) →
      ((h : List (Entry I)) (s : State I) (c : Call I) (e : Refusal) → Run K o h s → P h s → P (entry c (refused e) ∷ h) s) →
      ((h : List (Entry I)) (s : State I) (c : Call I) (d : ℕ) → Run K o h s → Ready K s c → d ≤ to_do s → P h s → P (entry c (answer K s c d) ∷ h) (effect K s c d)) →
      {h : List (Entry I)} {s : State I} → Run K o h s → P h s
  by_calls o P start stays moves opened = start
  by_calls o P start stays moves (made {h = h} {s = s} {s' = s'} {e = e} r st) =
      let p = by_calls o P start stays moves r in
      by_step s (λ c a s'. P (entry c a ∷ h) s') (λ c n. stays h s c n r p) (λ c d ok le. moves h s c d r ok le p) e.call e.answer s' st
