use Rattle.std.proofs.Common.{◌/◌, inl, inr, refl, ◌∙◌, arith}
use Rattle.std.proofs.lemmas.List.{length-set}
use Rattle.check_elim.specs.Bits.{has}
use Rattle.check_elim.proofs.Clearing.{word_cleared, bit_cleared, none_cleared, all_cleared}
use Rattle.check_elim.proofs.runs.clear_run.Goals as goal

pub loop-number-init : goal.loop-number-init
loop-number-init c = (omega arith, refl, inl refl, none_cleared c.args.from (has c.args.words.now))

pub loop-number-preserved-then-to-number-ge64 : goal.loop-number-preserved-then-to-number-ge64
loop-number-preserved-then-to-number-ge64 c = (
  omega (arith, c.loop-number.invariant.0),
  length-set c.loop-number.words (c.loop-number.number / 64) 0 ∙ c.loop-number.invariant.1,
  inr (omega (arith, c.if-to-number-ge64.true, c.loop-number-test.true)),
  word_cleared c.loop-number.words (has c.args.words.now) c.args.from c.loop-number.number c.loop-number.invariant.0 (omega (arith, c.if-number-eq0.true))
      (omega (arith, c.if-to-number-ge64.true, c.requires, c.loop-number.invariant.1, c.loop-number-test.true)) c.loop-number.invariant.3,
)

pub loop-number-preserved : goal.loop-number-preserved
loop-number-preserved c = (
  omega (arith, c.loop-number.invariant.0),
  c.remove.ensures.length ∙ c.loop-number.invariant.1,
  inr (omega (arith, c.loop-number-test.true)),
  bit_cleared (has c.remove.new.words) (has c.args.words.now) (has c.loop-number.words) c.args.from c.loop-number.number c.loop-number.invariant.0 c.loop-number.invariant.3 c.remove.ensures.members,
)

pub returns-clause-members : goal.returns-clause-members
returns-clause-members c = all_cleared c.args.from c.args.to c.loop-number.number (has c.loop-number.words) (has c.args.words.now) c.loop-number.invariant.2 (omega (arith, c.loop-number-test.false)) c.loop-number.invariant.3
