use Rattle.std.proofs.Common.{◌≡◌, true, false, eqb, sym, ap, ◌∙◌, arith}
use Rattle.std.proofs.lemmas.Bool.Decides.{nat_tests}
use Rattle.byte_memory.specs.Tested.{is_inside}
use Rattle.wrappers.proofs.Told.{going_first, going_next, going_outside, going_end, going_past}
use Rattle.wrappers.proofs.printing.text_at.Goals as goal

pub loop-i-init : goal.loop-i-init
loop-i-init c = going_first c.args.memory.now c.args.from

pub loop-i-preserved : goal.loop-i-preserved
loop-i-preserved c =
    let inside : is_inside c.args.memory.now c.loop-i.at 1 ≡ true = sym c.inside.ensures.test ∙ c.if-not-inside.false in
    going_next c.args.memory.now c.args.from c.loop-i._i c.loop-i.at c.byte_at-byte.result c.loop-i.told c.with_byte-told.result c.loop-i.invariant c.loop-i-test.true inside c.byte_at-byte.ensures
    (grind (arith, nat_tests, c.if-byte-eq0.false)) c.with_byte-told.ensures

pub returns-then-not-inside : goal.returns-then-not-inside
returns-then-not-inside c =
    let outside : is_inside c.args.memory.now c.loop-i.at 1 ≡ false = sym c.inside.ensures.test ∙ c.if-not-inside.true in
    going_outside c.args.memory.now c.args.from c.loop-i._i c.loop-i.at c.loop-i.told c.loop-i.invariant c.loop-i-test.true outside

pub returns-then-byte-eq0 : goal.returns-then-byte-eq0
returns-then-byte-eq0 c =
    let inside : is_inside c.args.memory.now c.loop-i.at 1 ≡ true = sym c.inside.ensures.test ∙ c.if-not-inside.false in
    going_end c.args.memory.now c.args.from c.loop-i._i c.loop-i.at c.byte_at-byte.result c.loop-i.told c.loop-i.invariant c.loop-i-test.true inside c.byte_at-byte.ensures
    (grind (arith, nat_tests, c.if-byte-eq0.true))

pub returns : goal.returns
returns c = going_past c.args.memory.now c.args.from c.loop-i._i c.loop-i.at c.loop-i.told c.loop-i.invariant c.loop-i-test.false
