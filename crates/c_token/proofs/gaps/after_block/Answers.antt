use Rattle.std.proofs.Common.{◌∙◌}
use Rattle.c_token.proofs.GapLaws.{after_block-short}
use Rattle.c_token.proofs.gaps.after_block.Goals as goal

pub returns-clause-place : goal.returns-clause-place
returns-clause-place c =
    after_block-short c.loop-rest.line c.loop-rest.fresh c.loop-rest.rest.now c.in_default.len_below ∙ c.loop-rest.invariant.same
