-- Digits that already make too much make no number.
use Rattle.std.proofs.Common.{◌+◌, ◌-◌, ◌*◌, ◌<◌, drop, get_or, sym, ap, ◌∙◌, arith}
use Rattle.std.proofs.lemmas.List.{drop_more}
use Rattle.scenario.proofs.Digits.{number_behind, behind_digit, behind_too_much, number_within_none}
use Rattle.scenario.proofs.numbers.read_number.Goals as goal

pub returns-then-value-from : goal.returns-then-value-from
returns-then-value-from c =
    let word = c.args.word.now in
    let i = c.loop-byte.byte-index in
    let n = 10 * c.loop-byte.value + (get_or word i 0 - 48) in
    let over : c.args.most < n = omega (arith, c.if-value-from.true, c.from.ensures, c.from-in-loop-byte.ensures) in
    let step = ap (number_behind c.args.most c.loop-byte.value) (drop_more word i 0 c.loop-byte-test.true) ∙ behind_digit c.args.most c.loop-byte.value (get_or word i 0) (drop (i + 1) word) (sym c.if-not-is_ascii_digit.ensures.value) in
    sym (number_within_none c.args.least c.args.most word (sym c.loop-byte.invariant.same ∙ step ∙ behind_too_much c.args.most n (drop (i + 1) word) over))
