-- What a call's exits say: a step lasts, and a `?` returns the refusal that it was given. Assumes nothing.
use Rattle.std.proofs.Common.{◌≡◌, Option, Result, None, Err, ap, ◌∙◌}
use Rattle.std.specs.Option.{ok_or}
use Rattle.std.specs.Result.{IsErrAnd}
use Rattle.std.proofs.lemmas.Result.{err_from_is_err_and}
use Rattle.base.specs.declared.refusal.Refusal.{Refusal}
use Rattle.rules.specs.Kind.{Kind, KindLaws}
use Rattle.rules.specs.Laws.{Lasts}
use Rattle.rules.specs.Rules.{Answer, Call, Step}
use Rattle.rules.specs.State.{State}
use Rattle.rules.proofs.Lawful.{onward}

-- what is a step in each of some states lasts in each
pub lasting : {I W : Type 0} {K : Kind I} (s s' : W → State I) {c : Call I} {a : Answer} → KindLaws K → ((w : W) → Step K (s w) c a (s' w)) → (w : W) → Lasts K (s w) c a (s' w)
lasting s s' laws steps w = onward laws _ _ _ _ (steps w)

module _ {X : Type 0} (r : Result X Refusal) (f : Refusal) (by : IsErrAnd r (λ y. y ≡ f)) where
  -- the refusal that it was given
  pub refused_by : r ≡ Err f
  refused_by = let (_, is, same) = err_from_is_err_and r by in is ∙ ap Err same

  -- the refusal e, where a value was wanted and there is none
  module _ {Y : Type 0} (o : Option Y) (e : Refusal) where
    same : ◌≡◌ {A = Result Y Refusal} (Err f) (Err e) → f ≡ e
    same e = cc

    pub refused_none : o ≡ None → Err f ≡ ok_or o e → r ≡ Err e
    refused_none none is = refused_by ∙ ap Err (same (is ∙ ap (λ o. ok_or o e) none))
