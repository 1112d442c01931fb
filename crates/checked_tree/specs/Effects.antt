-- What an event does to an inequality of a function, as a test that computes: it gives it, takes it, or leaves it as it was.
use Rattle.std.specs.Prelude.{Bool, true, false, List, [], ◌∷◌, Option, Some, None}
use Rattle.dep_expr.specs.Inequality.{implies}
use Rattle.dep_expr.specs.declared.inequality.Ineq.{Ineq}
use Rattle.checked_tree.specs.declared.units.CheckedFn.{CheckedFn}
use Rattle.checked_tree.specs.Flow.{Event}
use Rattle.checked_tree.specs.Redundant.{event_inequality, assigns_any, slots_of}

pub data Effect : Type 0 where
  Gives : Effect
  Takes : Effect
  Keeps : Effect

-- whether a walk has met a fact, behind an event with this effect on it
abbrev pub met_after : Effect → Bool → Bool
met_after Gives met = true
met_after Takes met = false
met_after Keeps met = met

-- whether a walk has met a fact, from whether it had at its start
abbrev pub met_by : (Event → Effect) → Bool → List Event → Bool
met_by does met [] = met
met_by does met (e ∷ es) = met_by does (met_after (does e) met) es

-- whether an event gives an inequality
abbrev pub gives : Option Ineq → Ineq → Bool
gives None i = false
gives (Some strong) i = implies strong i

-- the effect of an event that gives it, or that assigns a slot of it
abbrev pub effect : Bool → Bool → Effect
effect true b = Gives
effect false true = Takes
effect false false = Keeps

-- what an event does to an inequality
unfoldable pub effect_of : CheckedFn → Ineq → Event → Effect
effect_of f i e = effect (gives (event_inequality f e) i) (assigns_any (slots_of f i) e)
