use Rattle.std.proofs.Common.{Some, None}
use Rattle.c_expr.proofs.LongestBase.{base_is}
use Rattle.c_expr.proofs.LongestType.{type_none, type_on}
use Rattle.c_expr.proofs.type_names.type_name_at.Goals as goal

pub returns-in_default-clause-best : goal.returns-in_default-clause-best
returns-in_default-clause-best c = type_none _ (base_is _ None c.in_default.ensures.exact)

pub returns-clause-best : goal.returns-clause-best
returns-clause-best c =
    type_on _ c.in-Some.after_base.now c.in-Some.base (c.in_ok-stars.stars, c.in_ok-stars.rest.now) c.in_ok-stars.ensures.shorter
    (base_is _ (Some (c.in-Some.base, c.in-Some.after_base.now)) c.in-Some.ensures.exact) c.in_ok-stars.ensures.best
