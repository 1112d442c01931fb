use Rattle.std.proofs.Common.{rules, ◌≡◌, ℤ, List, ◌∷◌, [], ◌++◌, None, Some, slice_get, get_or, pos, refl, sym, subst, All, IsTrue}
use Rattle.std.proofs.lemmas.List.Elements.{All-push}
use Rattle.checked_tree.specs.Numbers.{converted, is_value}
use Rattle.checked_tree.specs.Step.{parameter_type}
use Rattle.driver_machine.proofs.Converting.{converted_end, converted_next}
use Rattle.driver_machine.proofs.parameters.converted_arguments.Goals as goal

pub returns-in_default-clause-values : goal.returns-in_default-clause-values
returns-in_default-clause-values c =
    let none : slice_get c.args.slots.now c.loop-argument.argument-index ≡ None = search rules in
    converted_end c.args.arguments.now c.args.slots.now c.loop-argument.argument-index c.loop-argument.values.items _ c.loop-argument.invariant.same none

pub loop-argument-preserved : goal.loop-argument-preserved
loop-argument-preserved c =
    let there : slice_get c.args.slots.now c.loop-argument.argument-index ≡ Some c.in-Some.parameter.now = search rules in
    let value : c.converted.result ≡ converted (parameter_type c.in-Some.parameter.now) (get_or c.args.arguments.now c.loop-argument.argument-index (pos 0)) = search rules in
    let pushed : c.push.new.self.items ≡ c.loop-argument.values.items ++ c.converted.result ∷ [] = search rules in
    record {
      same =
          converted_next c.args.arguments.now c.args.slots.now c.loop-argument.argument-index c.loop-argument.values.items _ c.push.new.self.items
          c.in-Some.parameter.now (get_or c.args.arguments.now c.loop-argument.argument-index (pos 0)) c.converted.result (pos 0)
          c.loop-argument.invariant.same c.loop-argument-test.true refl there value pushed;
      long = search rules;
      words = subst (λ (items : List ℤ). All (λ (z : ℤ). IsTrue (is_value z)) items) (sym pushed)
          (All-push (λ (z : ℤ). IsTrue (is_value z)) c.loop-argument.values.items c.converted.result c.loop-argument.invariant.words c.converted.ensures.range);
    }
