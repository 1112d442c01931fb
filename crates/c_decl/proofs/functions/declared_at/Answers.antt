use Rattle.c_decl.proofs.LongestStart.{declared_none, declared_unnamed, declared_some}
use Rattle.c_decl.proofs.functions.declared_at.Goals as goal

pub returns-in_default-clause-best : goal.returns-in_default-clause-best
returns-in_default-clause-best c = declared_none c.args.is_static _ c.in_default.ensures.best

pub returns-in_default-name_at-clause-best : goal.returns-in_default-name_at-clause-best
returns-in_default-name_at-clause-best c = declared_unnamed c.args.is_static _ c.in-Some.after_result.now c.in_ok-stars.after_stars.now c.in-Some.base c.in_ok-stars.stars c.in-Some.ensures.best c.in_ok-stars.ensures.best c.in_default-name_at.ensures.word

pub returns-clause-best : goal.returns-clause-best
returns-clause-best c = declared_some c.args.is_static _ c.in-Some.after_result.now c.in_ok-stars.after_stars.now c.in-Some-name_at.named.1.now c.in-Some.base c.in_ok-stars.stars c.in-Some-name_at.named.0 c.in-Some.ensures.best c.in_ok-stars.ensures.best
    c.in-Some-name_at.ensures.word
