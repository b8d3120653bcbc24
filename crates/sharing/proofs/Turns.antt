-- Turns are begun, pulsed and closed. Assumes nothing.
use Rattle.std.proofs.Common.{◌≡◌, ℕ, ◌+◌, ◌≤◌, true, sym, refl, ap, ◌∙◌, subst, add-zero, arith}
use Rattle.std.proofs.lemmas.Bool.{both_ways}
use Rattle.base.specs.declared.refusal.Refusal.{Refusal}
use Rattle.rules.specs.Kind.{Kind}
use Rattle.rules.specs.Ready.{Ready, is_accepted}
use Rattle.rules.specs.Rules as rules
use Rattle.rules.specs.Rules.{Call, submit, dispatch, pulse, end_turn, give_up, Answer, refused, granted, worked, closed, answer, effect, Step}
use Rattle.rules.specs.State.{State, to_do, open_turn}
use Rattle.rules.proofs.Calls.{by_step, accepts}
use Rattle.shelf.specs.declared.shelf.Shelf.{Shelf}
use Rattle.tags.specs.declared.TagStore.{Ghosts as TagStore}
use Rattle.tree.specs.Trees.{state_of}
use Rattle.tree.specs.declared.tree.Tree.{Tree}
use Rattle.sharing.specs.Turns.{Serves, Closed, Served}

-- the work of a charge that an answer tells
abbrev told : Answer → ℕ
told (refused e) = 0
told rules.accepted = 0
told (granted g l n) = 0
told (worked d) = d
told (closed d) = d

module _ {I : Type 0} (K : Kind I) where
  -- an accepted call was ready, and has its answer and its effect
  took : (s : State I) (c : Call I) (a : Answer) (s' : State I) → Step K s c a s' → is_accepted a ≡ true → (d : ℕ) × (d ≤ to_do s) × (a ≡ answer K s c d) × (s' ≡ effect K s c d) × Ready K s c
  took s c a s' st = by_step K s (λ c a s'. is_accepted a ≡ true → (d : ℕ) × (d ≤ to_do s) × (a ≡ answer K s c d) × (s' ≡ effect K s c d) × Ready K s c)
      (λ c e yes. absurd (both_ways _ refl yes)) (λ c d r le _. (d, le, refl, refl, r)) c a s' st

  -- what giving up needs, at the same tree and shelf beside any server
  pub again : {T : Type 0} {H : TagStore T} (t : Tree T I H) (sh : Shelf I K) (g : rules.Grant) (w w' : ℕ) → Ready K (state_of t sh w) (give_up g) → Ready K (state_of t sh w') (give_up g)
  again t sh g w w' (n, full) = (record { opened = n.opened; house = n.house; turn = n.turn }, full)

  -- a dispatch begins a turn that its grant closes
  pub begins : (s s' : State I) (g : rules.Grant) (l n : ℕ) → Step K s dispatch (granted g l n) s' → g ≡ record { house = s.house; turn = s.turns + 1 } → Ready K s' (give_up g) × Serves s s'
  begins s s' g l n st is =
      let (d, le, says, after, r) = took s dispatch _ s' st refl in
      subst (λ x. Ready K x (give_up g) × Serves s x) (sym after) ((record { opened = refl; house = ap (λ x. x.house) is; turn = ap (λ x. x.turn) is }, r.full), record { meter = refl; turns = refl; work = sym (add-zero _) })

  -- the grant of an open turn closes it after a pulse too, and the server's work since the dispatch stays the turn's
  pub keeps : (s : State I) (g h : rules.Grant) → Ready K s (give_up h) → (a : Answer) (s' : State I) → Step K s (pulse g) a s' → Ready K s' (give_up h) × ((b : State I) → Serves b s → Serves b s')
  keeps s g h r a s' st = by_step K s (λ c a s'. Pulses c → Ready K s' (give_up h) × ((b : State I) → Serves b s → Serves b s')) (λ c e _. (r, λ b v. v)) moves (pulse g) a s' st tt
    where
      Pulses : Call I → Type 0
      Pulses (submit c x) = ⊥
      Pulses dispatch = ⊥
      Pulses (pulse g) = Unit {0}
      Pulses (end_turn g) = ⊥
      Pulses (give_up g) = ⊥

      moves : (c : Call I) (d : ℕ) → Ready K s c → d ≤ to_do s → Pulses c → Ready K (effect K s c d) (give_up h) × ((b : State I) → Serves b s → Serves b (effect K s c d))
      moves (submit c x) d _ _ p = absurd p
      moves dispatch d _ _ p = absurd p
      moves (pulse g') d _ _ p = let (n, full) = r in ((record { opened = refl; house = n.house; turn = n.turn }, full), λ b v. record { meter = v.meter; turns = v.turns; work = omega (arith, v.work) })
      moves (end_turn g) d _ _ p = absurd p
      moves (give_up g) d _ _ p = absurd p

  -- a turn that can be given up is not refused
  pub never_refused : (s s' : State I) (g : rules.Grant) (e : Refusal) → Ready K s (give_up g) → Step K s (give_up g) (refused e) s' → ⊥
  never_refused s s' g e r st = both_ways _ refl ((accepts K s (give_up g) _ s' st).1 r)

  -- giving up closes the turn
  pub gives_up : (s s' : State I) (g : rules.Grant) (d : ℕ) → Step K s (give_up g) (closed d) s' → Closed s d s'
  gives_up s s' g d st =
      let (x, le, says, after, r) = took s (give_up g) _ s' st refl in
      let is : d ≡ (open_turn s).done = ap told says in
      subst (λ y. Closed s d y) (sym after) (record { free = refl; charged = is; meter = ap (λ n. s.meter + n) (sym is); turns = refl })

  -- so does ending
  pub ends : (s s' : State I) (g : rules.Grant) (d : ℕ) → Step K s (end_turn g) (closed d) s' → Closed s d s'
  ends s s' g d st =
      let (x, le, says, after, r) = took s (end_turn g) _ s' st refl in
      let is : d ≡ (open_turn s).done = ap told says in
      subst (λ y. Closed s d y) (sym after) (record { free = refl; charged = is; meter = ap (λ n. s.meter + n) (sym is); turns = refl })

-- a turn that is open since b is served once it is closed
pub whole : {I : Type 0} (b s s' : State I) (d : ℕ) → Serves b s → Closed s d s' → s'.work ≡ s.work → Served b d s'
whole b s s' d v c same = record { free = c.free; turns = c.turns ∙ v.turns; meter = c.meter ∙ ap (λ n. n + d) v.meter; work = same ∙ v.work ∙ ap (λ n. b.work + n) (sym c.charged) }
