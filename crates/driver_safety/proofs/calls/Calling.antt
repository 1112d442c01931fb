-- A call hands over what the function's parameters take.
use Rattle.std.proofs.Common.{◌≡◌, ℕ, List, [], map, ℤ, pos, Option, Some, slice_index_or, refl, sym, ap, subst}
use Rattle.sd_base.specs.Blocks.{Block}
use Rattle.c_tree.specs.declared.expressions.Expr.{Expr}
use Rattle.checked_tree.specs.declared.statements.CheckedStmt.{CheckedStmt, out-CheckedStmt}
use Rattle.checked_tree.specs.declared.statements.CheckedStmt.TheVariants as statement
use Rattle.checked_tree.specs.declared.statements.Target.{Target}
use Rattle.checked_tree.specs.declared.units.CheckedFn.{CheckedFn}
use Rattle.checked_tree.specs.Act.{act, Calls}
use Rattle.checked_tree.specs.Conditions.{State}
use Rattle.checked_tree.specs.Eval.{tests}
use Rattle.checked_tree.specs.Operands.{arguments}
use Rattle.checked_tree.specs.Outcome.{Safe}
use Rattle.checked_tree.specs.Step.{target_of}
use Rattle.checked_tree.proofs.Outcomes.{safe_bind}
use Rattle.deputy_rules.specs.declared.handed.Passed.{Passed}
use Rattle.deputy_rules.specs.declared.signature.Signature.{Signature}
use Rattle.deputy_rules.specs.Calls.{call_function, call_target, passed_argument, of_arguments}
use Rattle.deputy_rules.specs.Context.{Context}
use Rattle.driver_safety.specs.CallLaw.{EachCallIsSound}
use Rattle.driver_safety.specs.Goodness.{IsGood}
use Rattle.driver_safety.specs.Handing.{TakeEach, HasParameters, HaveWords}
use Rattle.driver_safety.specs.Passing.{AreTested}
use Rattle.driver_safety.specs.TypeFacts.{HasTypes, HasSlots}
use Rattle.driver_safety.proofs.calls.Arguments.{GivenEach, ValueEach, TakenEach, declared_each, pass_each_sound, arguments_sound}
use Rattle.driver_safety.proofs.calls.Arguments.{names_have, named_each, coerce_each_sound}
use Rattle.driver_safety.proofs.checks.Evaluations.{safe_same}
use Rattle.driver_safety.proofs.checks.Sounding.{Sound, then_sound, pure_sound, lift_sound}
use Rattle.driver_safety.proofs.checks.TestedChecks.{numbered_tested}

module _ (f : CheckedFn) (ctx : Context) (blocks : List Block) (st : State) (good : IsGood ctx blocks st) (types : HasTypes ctx.table)
    (slots : HasSlots ctx) (number : ℕ) (g : Signature) (parameters : HasParameters ctx.table g.params) where
  abbrev names : List ℤ → ℕ → ℤ
  names vs k = slice_index_or vs k (pos 0)

  abbrev Hands : CheckedStmt → Type 0
  Hands c = Safe (act [] f st (out-CheckedStmt c)) (λ a. (a.state ≡ st) × (vs : List ℤ) × (a.turn ≡ Calls number vs)
      × TakeEach ctx.table blocks (names vs) g.params vs)

  called : (t : Option Target) (args : List Passed) (ids : List ℕ) → GivenEach f ctx blocks st good types slots g.params args
      → TakenEach f ctx blocks st good types slots (of_arguments args) g.params args ids
      → Hands (statement.Call ctx.line t number (map passed_argument args) ids)
  unfolding act
  called t args ids given taken = safe_same _ _ _ (ap (act [] f st) (statement.outs-Call ctx.line t number (map passed_argument args) ids))
      (safe_bind (arguments [] f st (map passed_argument args)) _ (ValueEach f ctx blocks st good types slots g.params args) _
      (arguments_sound f ctx blocks st good types slots g.params args given) (λ vs values.
      safe_bind (tests [] f st ids) _ (λ _. TakeEach ctx.table blocks (names vs) g.params vs) _
      (taken (names vs) vs (declared_each f ctx blocks st good types slots g.params parameters.declared) values
      (named_each f ctx blocks st good types slots (of_arguments args) (names vs) g.params (λ k elem lo hi e.
      let counts = parameters.counts k elem lo hi e in (
        names_have f ctx blocks st good types slots g.params args vs values lo counts.0,
        names_have f ctx blocks st good types slots g.params args vs values hi counts.1,
      ))))
      (λ u takes. (refl, vs, refl, takes))))

  pub call_function_sound : (x : Option (List ℕ)) (es : List Expr) → HaveWords es
      → Sound f st ctx.first (call_function ctx number g x es) Hands
  unfolding call_function
  call_function_sound x es w =
      then_sound f st ctx.first _ _ (λ t. Unit {0}) _ (lift_sound f st ctx.first (call_target ctx g.result x) _ (λ t e. tt)) (λ t.
      then_sound f st ctx.first _ _ _ _ (pass_each_sound f ctx blocks st good types slots g.params es [] w
      (declared_each f ctx blocks st good types slots g.params parameters.declared)) (λ args.
      then_sound f st ctx.first _ _ _ _ (coerce_each_sound f ctx blocks st good types slots (of_arguments args) g.params args []) (λ ids.
      pure_sound f st ctx.first (statement.Call ctx.line t number (map passed_argument args) ids) _ (λ taken given u.
      called t args ids
      (subst (λ (xs : List Passed). GivenEach f ctx blocks st good types slots g.params xs) (sym given.1) given.2)
      (subst (λ (new : List ℕ). TakenEach f ctx blocks st good types slots (of_arguments args) g.params args new) (sym taken.1) taken.2)))))

  -- its target is the one that the rules find
  pub call_target_kept : (x : Option (List ℕ)) (es : List Expr) → HaveWords es → Sound f st ctx.first (call_function ctx number g x es)
      (λ c. (t : Option Target) × (call_target ctx g.result x ≡ Some t) × (target_of (out-CheckedStmt c) ≡ t))
  unfolding call_function
  call_target_kept x es w =
      then_sound f st ctx.first _ _ (λ t. call_target ctx g.result x ≡ Some t) _ (lift_sound f st ctx.first (call_target ctx g.result x) _
      (λ t e. e)) (λ t.
      then_sound f st ctx.first _ _ _ _ (pass_each_sound f ctx blocks st good types slots g.params es [] w
      (declared_each f ctx blocks st good types slots g.params parameters.declared)) (λ args.
      then_sound f st ctx.first _ _ _ _ (coerce_each_sound f ctx blocks st good types slots (of_arguments args) g.params args []) (λ ids.
      pure_sound f st ctx.first (statement.Call ctx.line t number (map passed_argument args) ids) _ (λ taken given is.
      (t, is, ap target_of (statement.outs-Call ctx.line t number (map passed_argument args) ids))))))

pub each_call : EachCallIsSound
each_call f ctx number g x es c is blocks st good =
    let n = is.checks in
    let tested = subst (λ (k : ℕ). AreTested f st k is.asked) (sym n.first)
    ((numbered_tested f st is.asked n.before n.after n.numbers).tested n.stand.atoms n.stand.checks) in
    let call = call_function_sound f ctx blocks st good is.types is.slots number g is.parameters x es is.words in
    let one = call.run [] c is.asked is.derived in
    one.1 tested
