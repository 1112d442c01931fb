use Rattle.std.proofs.Common.{◌≤◌, arith}
use Rattle.c_tree.specs.Numbers.{decimal_end}
use Rattle.c_token.proofs.NumberLaws.{decimal_great}
use Rattle.c_token.proofs.numbers.decimal.Goals as goal

pub returns-else-from-decimal_end-clause-none : goal.returns-else-from-decimal_end-clause-none
returns-else-from-decimal_end-clause-none c =
    let great : decimal_end c.in-Some.suffix ≤ c.in-Some.value = omega (arith, c.decimal_end.ensures, c.from.ensures, c.if-from-decimal_end.false) in
    λ _ n x h small. decimal_great c.in-Some.ensures.found great h small
