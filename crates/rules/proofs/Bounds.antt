-- The laws that an item type meets under its bound, as the rules take them. Assumes nothing.
use types.Logic.{Logic}
use contract.Running.{Running}
use denote.RattleType.{RattleType}
use seplogic.Ra.Ura.{Ura}
use mir.Syntax.{Dict}
use prog.Model.{Model}
use prog.Routine.{Env}
use Rattle.std.specs.declared.clone.Clone.{Ghosts as Copies}
use Rattle.items.specs.contracts.Item.TheBound.{Met}
use Rattle.rules.specs.Kind.{Kind, KindLaws}

-- `g.met.I.Item` of an answer gives them
pub laws_met : {M : Type 1} {𝓤 : Ura M} {𝓛 : Logic 𝓤} {𝓜 : Model 𝓤 𝓛.H} {𝓡 : Running 𝓤 𝓛.H 𝓜} {γ : Env} {T : RattleType} {K : Kind T.Denot} {d : Dict} {C : Copies T.Denot} {e : Dict} → Met 𝓛 𝓜 𝓡 γ T K d C e → KindLaws K
laws_met m = record { at_cost = m.at_cost; never_above = m.never_above; left_costs = m.left_costs; left_whole = m.left_whole }
