use Rattle.std.proofs.Common.{sym, subst, rules}
use Rattle.rules_stmt.specs.Units.{IsChecked}
use Rattle.rules_stmt.proofs.FunctionSteps.{function_over, function_within}
use Rattle.rules_stmt.proofs.ShortItems.{few_parameters}
use Rattle.rules_stmt.proofs.unit.check_function.Goals as goal

pub returns-then-len-gt-LOCALS : goal.returns-then-len-gt-LOCALS
returns-then-len-gt-LOCALS c =
    let above = c.if-len-gt-LOCALS.true in
    let len = c.len.ensures in
    λ _. function_over c.args.text.now c.args.k c.args.f.now c.in_ok-slots.slots (search rules) (search rules) (search rules)

pub check_result-requires-clause-few : goal.check_result-requires-clause-few
check_result-requires-clause-few c = few_parameters c.args.f.now c.requires.short

pub returns : goal.returns
returns c = subst (λ o. IsChecked o c.check_result.result)
    (sym (function_within c.args.text.now c.args.k c.args.f.now c.in_ok-slots.slots (search rules) (search rules) (search rules))) c.check_result.ensures
