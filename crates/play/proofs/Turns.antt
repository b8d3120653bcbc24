-- The turn that a player holds and the one that is open.
use Rattle.std.proofs.Common.{◌≡◌, ℕ, ◌-◌, true, false, eqb, is_some, Some, None, Ok, MatchBool, Option, sym, refl, ap, ◌∙◌}
use Rattle.std.proofs.lemmas.Bool.{both_ways}
use Rattle.base.specs.declared.units.Units.{Units}
use Rattle.rules.specs.History.{Service, done_more}
use Rattle.rules.proofs.Tests.{not_some, some_same}
use Rattle.tree.specs.Answers.{grant_of}
use Rattle.tree.specs.Draws.{Drew}
use Rattle.tree.specs.Turns.{serving}
use Rattle.tree.specs.declared.phase.Phase.{Phase}
use Rattle.tree.specs.declared.phase.Phase.TheVariants.{Free, Open}
use Rattle.play.specs.declared.player.Turn.{Turn}
use Rattle.play.specs.Players.{HeldTurn}

-- none is held, so none is open
pub unheld : (x : Option Service) (y : Option Turn) → HeldTurn x y → y ≡ None → x ≡ None
unheld None y t e = refl
unheld (Some v) None t e = absurd t
unheld (Some v) (Some u) t e = absurd (not_some (sym e))

-- the one that is held is open
pub held_open : (x : Option Service) (y : Option Turn) (u : Turn) → HeldTurn x y → y ≡ Some u → (v : Service) × (x ≡ Some v) × (v.grant ≡ grant_of u.grant) × (v.leaf ≡ u.class)
held_open None None u t e = absurd (not_some e)
held_open None (Some w) u t e = absurd t
held_open (Some v) None u t e = absurd t
held_open (Some v) (Some w) u t e = (v, refl, t.0 ∙ ap (λ z. grant_of z.grant) (some_same e), t.1 ∙ ap (λ z. z.class) (some_same e))

-- none is open, so none is held
pub none_held : (x : Option Service) (y : Option Turn) → HeldTurn x y → x ≡ None → y ≡ None
none_held x None t e = refl
none_held None (Some u) t e = absurd t
none_held (Some v) (Some u) t e = absurd (not_some (sym e))

-- work does not change which turn it is
pub held_more : (d : ℕ) (x : Option Service) (y : Option Turn) → HeldTurn x y → HeldTurn (done_more d x) y
held_more d None y t = t
held_more d (Some v) None t = t
held_more d (Some v) (Some u) t = t

-- what a test says of the turn that is held
pub is_held : (y : Option Turn) → is_some y ≡ true → (u : Turn) × (y ≡ Some u)
is_held None e = absurd (both_ways _ refl e)
is_held (Some u) e = (u, refl)

pub is_not_held : (y : Option Turn) → is_some y ≡ false → y ≡ None
is_not_held None e = refl
is_not_held (Some u) e = absurd (both_ways _ e refl)

-- what a pulse does to its server, by the phase of the tree
pub drawn : {S : Type 0} (draws : S → ℕ → ℕ → S → Type 0) (phase : Phase) (d : Units) (x x' : S) → Drew draws phase (Ok d) x x' → MatchBool (eqb (serving phase).done (serving phase).cost) ((d.0 ≡ 0) × (x' ≡ x)) (draws x ((serving phase).cost - (serving phase).done) d.0 x')
drawn draws Free d x x' w = absurd w
drawn draws (Open leaf cost done) d x x' w = w
