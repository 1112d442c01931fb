use Rattle.std.proofs.Common.{sym}
use Rattle.c_token.proofs.NumberLaws.{hexadecimal_found, hexadecimal_none, octal_found, octal_none, decimal_found, decimal_none}
use Rattle.c_token.proofs.numbers.number.Goals as goal

pub returns-in-Some-clause-found : goal.returns-in-Some-clause-found
returns-in-Some-clause-found c =
    hexadecimal_found c.valued-hexadecimal.result c.args.text.now c.in-Some.rest.now c.in-Some.ensures c.valued-hexadecimal.ensures.found c.valued-hexadecimal.ensures.small

pub returns-in-Some-clause-none : goal.returns-in-Some-clause-none
returns-in-Some-clause-none c =
    λ e n x h. hexadecimal_none c.args.text.now c.in-Some.rest.now n x c.in-Some.ensures (c.valued-hexadecimal.ensures.none e) h

pub returns-then-begins_with_zero-clause-found : goal.returns-then-begins_with_zero-clause-found
returns-then-begins_with_zero-clause-found c =
    octal_found c.valued-octal.result c.args.text.now (sym c.if-begins_with_zero.ensures) c.valued-octal.ensures.found c.valued-octal.ensures.small

pub returns-then-begins_with_zero-clause-none : goal.returns-then-begins_with_zero-clause-none
returns-then-begins_with_zero-clause-none c =
    λ e n x h. octal_none c.args.text.now n x c.in_default.ensures (sym c.if-begins_with_zero.ensures) (c.valued-octal.ensures.none e) h

pub returns-then-begins_with_nonzero-clause-found :
    goal.returns-then-begins_with_nonzero-clause-found
returns-then-begins_with_nonzero-clause-found c =
    decimal_found c.decimal-decimal.result c.args.text.now (sym c.if-begins_with_nonzero.ensures) c.decimal-decimal.ensures.found c.decimal-decimal.ensures.small

pub returns-then-begins_with_nonzero-clause-none :
    goal.returns-then-begins_with_nonzero-clause-none
returns-then-begins_with_nonzero-clause-none c =
    λ e n x h. decimal_none c.args.text.now n x (sym c.if-begins_with_zero.ensures) (c.decimal-decimal.ensures.none e) h
