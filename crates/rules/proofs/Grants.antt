-- A turn is closed only through its own grant, and no grant is given twice. Assumes nothing.
use Rattle.std.proofs.Common.{◌≡◌, ℕ, ◌+◌, ◌≤◌, List, [], ◌∷◌, Some, None, Option, sym, refl, ap, ◌∙◌, ap₂, inl, inr, arith}
use Rattle.rules.specs.Kind.{Kind}
use Rattle.rules.specs.State.{Opening, State}
use Rattle.rules.specs.Rules.{Grant, Call, submit, dispatch, pulse, end_turn, give_up, refused, answer}
use Rattle.rules.specs.Ready.{Names, Ready}
use Rattle.rules.specs.History.{Entry, entry, Run, grant_of, grant_after, given, counted, turns_given, taken, Always, Sometime}
use Rattle.rules.specs.Laws.{Keyed, Foreign}
use Rattle.rules.proofs.Tests.{not_some, some_same}
use Rattle.rules.proofs.Calls.{by_calls}
use Rattle.rules.proofs.Consistent.{told_turn, consistent}

-- what holds of each call holds of some call that also has another property
pub sometime : {I : Type 0} {P Q : Entry I → List (Entry I) → Type 0} {R : Type 0} (h : List (Entry I)) → ((e : Entry I) (before : List (Entry I)) → P e before → Q e before → R) → Always P h → Sometime Q h → R
sometime [] f a s = absurd s
sometime (e ∷ h) f a (inl q) = f e h a.0 q
sometime (e ∷ h) f a (inr q) = sometime h f a.1 q

module _ {I : Type 0} (o : Opening) where
  -- a grant given after a history has the next number
  abbrev Numbered : Entry I → List (Entry I) → Type 0
  Numbered e before = (g : Grant) → given e ≡ Some g → g ≡ record { house = o.house; turn = turns_given before + 1 }

  -- a grant given in a history has a number that was counted
  given_counted : (h : List (Entry I)) → Always Numbered h → (g : Grant) → Sometime (λ e _. given e ≡ Some g) h → g.turn ≤ turns_given h
  given_counted [] a g s = absurd s
  given_counted (e ∷ h) a g (inl is) = omega (arith, ap (λ (p : Grant). p.turn) (a.0 g is), ap counted is)
  given_counted (e ∷ h) a g (inr s) = omega (arith, given_counted h a.1 g s)

  -- so it is not given again
  once : (h : List (Entry I)) → Always Numbered h → Always (λ e before. (g : Grant) → given e ≡ Some g → Sometime (λ e' _. given e' ≡ Some g) before → ⊥) h
  once [] a = tt
  once (e ∷ h) a = (λ g is s. omega (arith, ap (λ (p : Grant). p.turn) (a.0 g is), given_counted h a.1 g s), once h a.1)

  module _ (K : Kind I) where
    -- what each call shows of grants
    record Keys (h : List (Entry I)) : Type 0 where
      named : Always (λ e before. (g : Grant) → taken e ≡ Some g → (grant_after before ≡ Some g) × (g.house ≡ o.house)) h
      numbered : Always Numbered h

    -- a call that neither takes nor answers a grant
    keyless : (e : Entry I) (h : List (Entry I)) → taken e ≡ None → given e ≡ None → Keys h → Keys (e ∷ h)
    keyless e h no-taken no-given k = record { named = (λ g is. absurd (not_some (sym no-taken ∙ is)), k.named); numbered = (λ g is. absurd (not_some (sym no-given ∙ is)), k.numbered) }

    module _ (h : List (Entry I)) (s : State I) (r : Run K o h s) (k : Keys h) where
      -- a call that names the open turn's grant, and answers none
      names_grant : (e : Entry I) (x : Grant) → Names K s x → taken e ≡ Some x → given e ≡ None → Keys (e ∷ h)
      names_grant e x n took no-given = record {
        named = (
          λ g is. let same : g ≡ x = some_same (sym is ∙ took) in (
            ap grant_of (told_turn K o (consistent K o r) n.opened) ∙ ap₂ {C = Option Grant} (λ a b. Some (record { house = a; turn = b })) (sym n.house) (sym n.turn) ∙ ap Some (sym same),
            ap (λ (y : Grant). y.house) same ∙ n.house ∙ (consistent K o r).frame.0,
          ),
          k.named,
        );
        numbered = (λ g is. absurd (not_some (sym no-given ∙ is)), k.numbered);
      }

      -- each accepted call keeps to its grants
      keys_after : (c : Call I) (d : ℕ) → Ready K s c → Keys (entry c (answer K s c d) ∷ h)
      keys_after (submit c x) d p = keyless _ h refl refl k
      keys_after dispatch d p = record {
        named = (λ g is. absurd (not_some is), k.named);
        numbered = (λ g is. sym (some_same is) ∙ ap₂ {C = Grant} (λ a b. record { house = a; turn = b + 1 }) (consistent K o r).frame.0 (consistent K o r).turns, k.numbered);
      }
      keys_after (pulse x) d p = names_grant (entry (pulse x) (answer K s (pulse x) d)) x p refl refl
      keys_after (end_turn x) d (p, _) = names_grant (entry (end_turn x) (answer K s (end_turn x) d)) x p refl refl
      keys_after (give_up x) d (p, _) = names_grant (entry (give_up x) (answer K s (give_up x) d)) x p refl refl

    -- every history does
    keys : {h : List (Entry I)} {s : State I} → Run K o h s → Keys h
    keys = by_calls K o (λ h s. Keys h) (record { named = tt; numbered = tt }) (λ h s c e _ k. keyless (entry c (refused e)) h refl refl k) (λ h s c d r p _ k. keys_after h s r k c d p)

    -- every history keeps to its grants
    pub keyed : {h : List (Entry I)} {s : State I} → Run K o h s → Keyed o h
    keyed {h} r = let k = keys r in record { named = k.named; numbered = k.numbered; once = once h k.numbered }

-- a grant of one house opens nothing in another
pub foreign : {I : Type 0} (K : Kind I) → Foreign K
foreign K o o' apart h h' s s' r r' g was is =
    let one : g.house ≡ o.house = sometime h (λ e before p q. ap (λ (x : Grant). x.house) (p g q)) (keyed o K r).numbered was in
    let other : g.house ≡ o'.house = sometime h' (λ e before p q. (p g q).1) (keyed o' K r').named is in
    apart (sym one ∙ other)
