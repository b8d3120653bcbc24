-- What every history that is played keeps.
use Rattle.std.proofs.Common.{◌≡◌, ℕ, ◌<◌, ◌≤◌, true, cond, List, Some, None, Option, sym, refl, ap, ◌∙◌, subst, arith}
use Rattle.std.proofs.lemmas.Bool.{both_ways, cond_both}
use Rattle.classes.specs.declared.table.ClassTable.{ClassTable}
use Rattle.links.specs.declared.server.Server.{Ghosts as Server}
use Rattle.rules.specs.Kind.{Kind}
use Rattle.rules.specs.Shape.{Shape}
use Rattle.rules.specs.State.{Turn, State, Opening, Valid, turn_of, open_turn}
use Rattle.rules.specs.Rules.{Call, Answer, refused, accepted, granted, worked, closed, give_up, Step}
use Rattle.rules.specs.Ready.{Names, is_accepted}
use Rattle.rules.specs.History.{Entry, entry, Run, opened, made, Service, turn_after, serves, serves_by, charge, charges}
use Rattle.rules.proofs.Calls.{accepts}
use Rattle.rules.proofs.Consistent.{told, consistent, open_known}
use Rattle.rules.proofs.Tests.{not_some}
use Rattle.rules.proofs.Tree.{under_root}
use Rattle.text.specs.declared.line.Event.{Event}
use Rattle.play.specs.Plays.{Plays, begun, played}

-- the calls are a history of the rules
pub runs : {I S : Type 0} (K : Kind I) (V : Server S) (new : ℕ → I) (t : ClassTable) (o : Opening) (first : S) {es : List Event} {h : List (Entry I)} {s : State I} {x : S} {bs : List ℕ} → Plays K V new t o first es h s x bs → Run K o h s
runs K V new t o first begun = opened
runs K V new t o first (played e a s' x' p step _ _) = made (runs K V new t o first p) step

module _ {I : Type 0} (K : Kind I) (o : Opening) {h : List (Entry I)} {s : State I} (r : Run K o h s) where
  -- no turn is open where the history tells none
  pub none_open : turn_after h ≡ None → s.phase ≡ None
  none_open e = by s.phase (sym e ∙ (consistent K o r).turn)
    where
      by : (p : Option Turn) → None ≡ told s p → p ≡ None
      by None z = refl
      by (Some u) z = absurd (not_some z)

  -- and otherwise the one that it tells
  pub some_open : (v : Service) → turn_after h ≡ Some v → (u : Turn) × (s.phase ≡ Some u) × (v ≡ record { grant = record { house = s.house; turn = s.turns }; leaf = u.leaf; done = u.done })
  some_open v e = by s.phase refl (sym e ∙ (consistent K o r).turn)
    where
      by : (p : Option Turn) → s.phase ≡ p → Some v ≡ told s p → (u : Turn) × (s.phase ≡ Some u) × (v ≡ record { grant = record { house = s.house; turn = s.turns }; leaf = u.leaf; done = u.done })
      by None is z = absurd (not_some (sym z))
      by (Some u) is z = (u, is, cc)

  -- its grant is taken, so it can be given up
  pub accepted_up : (v : Service) → turn_after h ≡ Some v → (a : Answer) (s' : State I) → Step K s (give_up v.grant) a s' → is_accepted a ≡ true
  accepted_up v e a s' st =
      let (u, is, alike) = some_open v e in
      let names : Names K s v.grant = record { opened = is ∙ ap (λ p. Some (turn_of p)) (sym is); house = ap (λ w. w.grant.house) alike; turn = ap (λ w. w.grant.turn) alike } in
      (accepts K s (give_up v.grant) a s' st).1 (names, (consistent K o r).full (open_turn s).leaf)

  -- it serves a class of the tree
  pub turn_known : Valid o → (v : Service) → turn_after h ≡ Some v → v.leaf < o.shape.count
  turn_known ok v e =
      let (u, is, alike) = some_open v e in
      subst (λ t. v.leaf < t.count) (consistent K o r).frame.1 (subst (λ w. w.leaf < s.shape.count) (sym alike) (open_known K o ok r u is))

-- a call charges a class no more than the root, if a turn that serves the class serves the root
charge_le : {I : Type 0} (t : Shape) (k : ℕ) (c : Call I) (a : Answer) (h : List (Entry I)) → (serves t k h ≡ true → serves t 0 h ≡ true) → charge t k (entry c a) h ≤ charge t 0 (entry c a) h
charge_le t k c (refused e) h f = omega arith
charge_le t k c accepted h f = omega arith
charge_le t k c (granted g l n) h f = omega arith
charge_le t k c (worked d) h f = omega arith
charge_le t k c (closed d) h f = cond_both (serves t k h) d 0 (λ z. z ≤ cond (serves t 0 h) d 0) (λ y. subst (λ b. d ≤ cond b d 0) (sym (f y)) (omega arith)) (λ _. omega arith)

module _ {I : Type 0} (K : Kind I) (o : Opening) (ok : Valid o) where
  serves_root : {h : List (Entry I)} {s : State I} → Run K o h s → (k : ℕ) → serves o.shape k h ≡ true → serves o.shape 0 h ≡ true
  serves_root {h} {s} r k = by (turn_after h) refl
    where
      by : (x : Option Service) → turn_after h ≡ x → serves_by o.shape k x ≡ true → serves_by o.shape 0 (turn_after h) ≡ true
      by None e y = absurd (both_ways _ refl y)
      by (Some v) e y = ap (serves_by o.shape 0) e ∙ under_root ok.sound (turn_known K o r ok v e)

  -- no class is charged more than the root
  pub root_most : {h : List (Entry I)} {s : State I} → Run K o h s → (k : ℕ) → charges o.shape k h ≤ charges o.shape 0 h
  root_most opened k = omega arith
  root_most (made {h = h} {e = e} r st) k = omega (arith, charge_le o.shape k e.call e.answer h (serves_root r k), root_most r k)
