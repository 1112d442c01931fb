-- `return` gives back what the result takes.
use Rattle.std.proofs.Common.{◌≡◌, ℕ, IsTrue, List, [], ℤ, Option, Some, None, refl, sym, ap, subst}
use Rattle.sd_base.specs.Blocks.{Block}
use Rattle.c_tree.specs.declared.expressions.Expr.{Expr}
use Rattle.checked_tree.specs.declared.shapes.Bounds.TheVariants as bounds
use Rattle.checked_tree.specs.declared.shapes.Shape.{Shape}
use Rattle.checked_tree.specs.declared.shapes.Shape.TheVariants as shape
use Rattle.checked_tree.specs.declared.statements.CheckedStmt.{CheckedStmt, out-CheckedStmt}
use Rattle.checked_tree.specs.declared.statements.CheckedStmt.TheVariants as statement
use Rattle.checked_tree.specs.declared.units.CheckedFn.{CheckedFn}
use Rattle.checked_tree.specs.Act.{act, Returns}
use Rattle.checked_tree.specs.Conditions.{State}
use Rattle.checked_tree.specs.Eval.{tests}
use Rattle.checked_tree.specs.Operands.{argument, optional_argument}
use Rattle.checked_tree.specs.Outcome.{Safe}
use Rattle.checked_tree.proofs.Outcomes.{safe_bind}
use Rattle.deputy_rules.specs.declared.handed.Passed.{Passed}
use Rattle.deputy_rules.specs.declared.signature.Returned.{Returned}
use Rattle.deputy_rules.specs.declared.signature.Returned.TheVariants as returned
use Rattle.deputy_rules.specs.Calls.{pass, passed_argument}
use Rattle.deputy_rules.specs.Context.{Context}
use Rattle.deputy_rules.specs.NameValues.{local_at}
use Rattle.deputy_rules.specs.Statements.{return_from, return_value}
use Rattle.deputy_rules.specs.Values.{of_slots}
use Rattle.driver_safety.specs.CallLaw.{GivesBack, IsDeclaredResult, HasWords, EachReturnIsSound}
use Rattle.driver_safety.specs.Derivations.{IsDerived}
use Rattle.driver_safety.specs.Goodness.{IsGood}
use Rattle.driver_safety.specs.Handing.{Takes}
use Rattle.driver_safety.specs.Passing.{AreTested}
use Rattle.driver_safety.specs.TypeFacts.{HasTypes, HasSlots, IsDeclared}
use Rattle.driver_safety.specs.WrittenNumbers.{has_words}
use Rattle.driver_safety.proofs.assignments.SlotChanges.{slots_have}
use Rattle.driver_safety.proofs.calls.Given.{IsGivenValue, Given, AreNamedBy, pass_sound, coerce_value_sound}
use Rattle.driver_safety.proofs.checks.Evaluations.{safe_same, Pass}
use Rattle.driver_safety.proofs.checks.Sounding.{Sound, then_sound, pure_sound, lift_sound, none_sound}
use Rattle.driver_safety.proofs.checks.TestedChecks.{numbered_tested}
use Rattle.driver_safety.proofs.expressions.Expressions.{derive_sound}

module _ (f : CheckedFn) (ctx : Context) (blocks : List Block) (st : State) (good : IsGood ctx blocks st) (types : HasTypes ctx.table)
    (slots : HasSlots ctx) where
  abbrev Gives : Returned → CheckedStmt → Type 0
  Gives result c = Safe (act [] f st (out-CheckedStmt c)) (λ a. (a.state ≡ st) × (v : Option ℤ) × (a.turn ≡ Returns v)
      × GivesBack ctx.table blocks (local_at st) result v)

  slots_named : (s : Shape) → AreNamedBy f ctx blocks st good types slots of_slots (local_at st) s
  slots_named (shape.Int s) = tt
  slots_named (shape.Pointer elem bounds.Hidden) = tt
  slots_named (shape.Pointer elem bounds.Nullterm) = tt
  slots_named (shape.Pointer elem (bounds.Within lo hi)) =
      (slots_have f ctx blocks st good types slots lo, slots_have f ctx blocks st good types slots hi)
  slots_named (shape.Struct s) = tt
  slots_named shape.Address = tt

  gives_back : (s : Shape) (a : Passed) (ids : List ℕ) → Given f ctx blocks st good types slots s a
      → ((v : ℤ) → IsGivenValue f ctx blocks st good types slots s a v → Pass f st ids (Takes ctx.table blocks (local_at st) s v))
      → Gives (returned.Value s) (statement.Return ctx.line (Some (passed_argument a)) ids)
  unfolding act optional_argument
  gives_back s a ids g k = safe_same _ _ _ (ap (act [] f st) (statement.outs-Return ctx.line (Some (passed_argument a)) ids))
      (safe_bind (optional_argument [] f st (Some (passed_argument a))) _
      (λ o. (v : ℤ) × (o ≡ Some v) × IsGivenValue f ctx blocks st good types slots s a v) _
      (safe_bind (argument [] f st (passed_argument a)) _ _ _ g (λ v given. (v, refl, given)))
      (λ o there. safe_bind (tests [] f st ids) _ _ _ (k there.0 there.2) (λ u takes.
      (refl, o, refl, subst (λ (o : Option ℤ). GivesBack ctx.table blocks (local_at st) (returned.Value s) o) (sym there.1) takes))))

  nothing_back : Gives returned.Nothing (statement.Return ctx.line None [])
  unfolding act optional_argument tests
  nothing_back = safe_same _ _ _ (ap (act [] f st) (statement.outs-Return ctx.line None [])) (refl, None, refl, tt)

  return_value_sound : (s : Shape) (e : Expr) → IsTrue (has_words e) → IsDeclared ctx.table s
      → Sound f st ctx.first (return_value ctx s e) (Gives (returned.Value s))
  unfolding return_value
  return_value_sound s e w i =
      then_sound f st ctx.first _ _ (IsDerived f ctx blocks st) _ (derive_sound f ctx blocks st good types slots e w) (λ x.
      then_sound f st ctx.first _ _ (λ a. pass ctx s x ≡ Some a) _ (lift_sound f st ctx.first (pass ctx s x) _ (λ a e. e)) (λ a.
      then_sound f st ctx.first _ _ _ _ (coerce_value_sound f ctx blocks st good types slots of_slots s a) (λ ids.
      pure_sound f st ctx.first (statement.Return ctx.line (Some (passed_argument a)) ids) _ (λ fits e d.
      gives_back s a ids (pass_sound f ctx blocks st good types slots s x a e i d)
      (λ v given. fits (local_at st) v i given (slots_named s))))))

  pub return_from_sound : (result : Returned) (e : Option Expr) → HasWords e → IsDeclaredResult ctx.table result
      → Sound f st ctx.first (return_from ctx result e) (Gives result)
  unfolding return_from
  return_from_sound returned.Nothing None w i = pure_sound f st ctx.first (statement.Return ctx.line None []) _ nothing_back
  return_from_sound returned.Nothing (Some e) w i = none_sound f st ctx.first _
  return_from_sound (returned.Value s) None w i = none_sound f st ctx.first _
  return_from_sound (returned.Value s) (Some e) w i = return_value_sound s e w i

pub each_return : EachReturnIsSound
each_return f ctx result e c is blocks st good =
    let n = is.checks in
    let tested = subst (λ (k : ℕ). AreTested f st k is.asked) (sym n.first)
    ((numbered_tested f st is.asked n.before n.after n.numbers).tested n.stand.atoms n.stand.checks) in
    let one = (return_from_sound f ctx blocks st good is.types is.slots result e is.words is.declared).run [] c is.asked is.derived in
    one.1 tested
