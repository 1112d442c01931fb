-- Every simple statement and condition of a short text asks for light checks alone.
use Rattle.std.proofs.Common.{◌≡◌, List, [], Option, Some, None, All}
use Rattle.std.proofs.lemmas.List.Elements.{All-nil, All-weaker}
use Rattle.c_tree.specs.declared.expressions.Expr.{Expr}
use Rattle.c_tree.specs.declared.statements.Action.{Action}
use Rattle.c_tree.specs.declared.statements.Action.TheVariants as action
use Rattle.c_tree.specs.Short.{IsShortExpr}
use Rattle.c_tree.specs.Spelling.{spelled}
use Rattle.light_checks.specs.ShortActions.{HasShortParts}
use Rattle.checked_tree.specs.declared.shapes.Shape.{Shape}
use Rattle.deputy_rules.specs.declared.asked.Asked.{Asked}
use Rattle.deputy_rules.specs.declared.derived.Derived.{Derived}
use Rattle.deputy_rules.specs.declared.derived.Derived.TheVariants as derived
use Rattle.deputy_rules.specs.declared.signature.Returned.{Returned}
use Rattle.deputy_rules.specs.declared.signature.Returned.TheVariants as returned
use Rattle.deputy_rules.specs.Calls.{pass}
use Rattle.deputy_rules.specs.Context.{Context}
use Rattle.deputy_rules.specs.Deriving.{Deriving}
use Rattle.deputy_rules.specs.Expressions.{expression, form_of}
use Rattle.deputy_types.specs.Options.{and_then}
use Rattle.deputy_rules.specs.Statements.{Home, zero_of, zero, return_value, return_from, act, test_form, controlling}
use Rattle.deputy_types.specs.Table.{union_shape}
use Rattle.deputy_rules.specs.Values.{value_of, of_slots}
use Rattle.light_checks.specs.Lightness.{IsLightCheck}
use Rattle.light_checks.specs.Weights.{IsDerived}
use Rattle.light_checks.specs.Within.{IsShape, IsContext, IsResult, IsHome}
use Rattle.light_checks.specs.Words.{IsReadable}
use Rattle.light_checks.proofs.Ensuring.{Ensures, Any, then_ensures, pure_ensures, none_ensures, lift_ensures}
use Rattle.light_checks.proofs.Annotating.{slot_names}
use Rattle.light_checks.proofs.AssignmentRules.{derive_short, assign_is}
use Rattle.light_checks.proofs.CallRules.{IsPassed, pass_is, value_coerced, call_is, kalloc_is, kfree_is}
use Rattle.light_checks.proofs.ShortWords.{short_readable}

module _ (ctx : Context) (is : IsContext ctx) where
  -- ---- expressions by themselves, and conditions
  pub expression_is : (e : Expr) → IsShortExpr e → Ensures (expression ctx e) Any
  unfolding expression
  expression_is e s =
      then_ensures _ _ (IsDerived 1000) Any (derive_short ctx is e (short_readable e s))
      (λ d k. then_ensures _ _ Any Any (lift_ensures (value_of ctx d) Any (λ v found. tt)) (λ v any. lift_ensures (form_of v) Any (λ x found. tt)))

  pub controlling_is : (e : Expr) → IsShortExpr e → Ensures (controlling ctx e) Any
  unfolding controlling
  controlling_is e s =
      then_ensures _ _ (IsDerived 1000) Any (derive_short ctx is e (short_readable e s))
      (λ d k. lift_ensures (and_then (value_of ctx d) test_form) Any (λ x found. tt))

  -- ---- simple statements
  zero_of_is : (d : Derived) → Ensures (zero_of ctx d) Any
  unfolding zero_of
  zero_of_is (derived.Union p) = then_ensures _ _ Any Any (lift_ensures (union_shape ctx.table p.structure p.part) Any (λ u found. tt)) (λ u any. pure_ensures _ Any tt)
  zero_of_is (derived.Local slot) = none_ensures Any
  zero_of_is (derived.Place p) = none_ensures Any
  zero_of_is (derived.Value v) = none_ensures Any
  zero_of_is (derived.Array a) = none_ensures Any

  zero_is : (l : Expr) → IsShortExpr l → Ensures (zero ctx l) Any
  unfolding zero
  zero_is l s = then_ensures _ _ (IsDerived 1000) Any (derive_short ctx is l (short_readable l s)) (λ d k. zero_of_is d)

  return_value_is : (s : Shape) (e : Expr) → IsShape [] (Some s) → IsShortExpr e → Ensures (return_value ctx s e) Any
  unfolding return_value
  return_value_is s e bound short =
      then_ensures _ _ (IsDerived 1000) Any (derive_short ctx is e (short_readable e short))
      (λ x k. then_ensures _ _ (IsPassed (Some s)) Any (lift_ensures (pass ctx s x) (IsPassed (Some s)) (λ a found. pass_is ctx is s x a k found))
      (λ a l. then_ensures _ _ Any Any (value_coerced ctx is [] of_slots s a (slot_names ctx 1000 []) bound l) (λ ids any. pure_ensures _ Any tt)))

  abbrev HasShortValue : Option Expr → Type 0
  HasShortValue None = Unit {0}
  HasShortValue (Some e) = IsShortExpr e

  return_is : (r : Returned) (e : Option Expr) → IsResult r → HasShortValue e → Ensures (return_from ctx r e) Any
  unfolding return_from
  return_is returned.Nothing None bound s = pure_ensures _ Any tt
  return_is returned.Nothing (Some e) bound s = none_ensures Any
  return_is (returned.Value k) None bound s = none_ensures Any
  return_is (returned.Value k) (Some e) bound s = return_value_is k e bound s

  pub act_is : (home : Home) (a : Action) → IsHome home → HasShortParts a → Ensures (act ctx home a) Any
  unfolding act
  act_is home (action.Assign l e) at s = assign_is ctx is l e (short_readable l s.0) (short_readable e s.1)
  act_is home (action.Call x name es) at s = call_is ctx is home.functions x name es at.functions (All-weaker IsShortExpr (λ e. IsReadable (spelled e)) short_readable es s)
  act_is home (action.Kalloc x t e) at s = kalloc_is ctx is x t e (short_readable e s)
  act_is home (action.Kfree e) at s = kfree_is ctx is e (short_readable e s)
  act_is home (action.Zero l) at s = zero_is l s
  act_is home (action.Return None) at s = return_is home.result None at.result tt
  act_is home (action.Return (Some e)) at s = return_is home.result (Some e) at.result s
  act_is home action.Empty at s = pure_ensures _ Any tt

-- the checks of what asks for light ones alone
pub all_light : {A : Type 0} (p : Deriving A) (Q : A → Type 0) (a : A) (asked : List Asked) → Ensures p Q → p [] ≡ Some (a, asked) → All IsLightCheck asked
all_light p Q a asked e h = (e.run [] a asked (All-nil IsLightCheck) h).1
