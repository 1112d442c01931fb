use Rattle.c_decl.proofs.LongestDeclaration.{size_is, value_is}
use Rattle.c_decl.proofs.LongestItem.{global_void, global_typed, valued_open, valued_some}
use Rattle.c_decl.proofs.items.global_after.Goals as goal

pub returns-in_default-clause-best : goal.returns-in_default-clause-best
returns-in_default-clause-best c = global_void c.args.line c.args.start _ c.in_default.is

pub returns-in_default-after_sign-clause-best : goal.returns-in_default-after_sign-clause-best
returns-in_default-after_sign-clause-best c = global_typed c.args.line c.args.start c.in-Base.base _ _ c.in-Base.is
    (valued_open c.args.line c.args.start c.in-Base.base _ c.size_at-size.result.1.now c.value_at-value.result.1.now c.size_at-size.result.0 c.value_at-value.result.0
    (size_is _ c.size_at-size.result.1.now c.size_at-size.result.0 c.size_at-size.ensures.exact) (value_is _ c.value_at-value.result.1.now c.value_at-value.result.0 c.value_at-value.ensures.exact)
    c.in_default-after_sign.ensures.word)

pub returns-clause-best : goal.returns-clause-best
returns-clause-best c = global_typed c.args.line c.args.start c.in-Base.base _ _ c.in-Base.is
    (valued_some c.args.line c.args.start c.in-Base.base _ c.size_at-size.result.1.now c.value_at-value.result.1.now c.in-Some.rest.now c.size_at-size.result.0 c.value_at-value.result.0
    (size_is _ c.size_at-size.result.1.now c.size_at-size.result.0 c.size_at-size.ensures.exact) (value_is _ c.value_at-value.result.1.now c.value_at-value.result.0 c.value_at-value.ensures.exact)
    c.in-Some.ensures.word)
