use Rattle.std.proofs.Common.{Some, None}
use Rattle.c_expr.proofs.LongestTerm.{addr_is}
use Rattle.c_expr.proofs.LongestType.{ends_alone, ends_half, ends_both}
use Rattle.c_expr.proofs.type_names.ends_at.Goals as goal

pub returns-in_default-after_sign-clause-best : goal.returns-in_default-after_sign-clause-best
returns-in_default-after_sign-clause-best c =
    ends_alone _ c.in-Some.after_low.now c.in-Some.low (addr_is _ (Some (c.in-Some.low, c.in-Some.after_low.now)) c.in-Some.ensures.exact) c.in_default-after_sign.ensures.word

pub returns-in_default-addr_at-clause-best : goal.returns-in_default-addr_at-clause-best
returns-in_default-addr_at-clause-best c =
    ends_half _ c.in-Some.after_low.now c.in-Some-after_sign.second.now c.in-Some.low (addr_is _ (Some (c.in-Some.low, c.in-Some.after_low.now)) c.in-Some.ensures.exact)
    c.in-Some-after_sign.ensures.word (addr_is _ None c.in_default-addr_at.ensures.exact)

pub returns-clause-best : goal.returns-clause-best
returns-clause-best c =
    ends_both _ c.in-Some.after_low.now c.in-Some-after_sign.second.now c.in-Some-addr_at.rest.now c.in-Some.low c.in-Some-addr_at.high
    (addr_is _ (Some (c.in-Some.low, c.in-Some.after_low.now)) c.in-Some.ensures.exact) c.in-Some-after_sign.ensures.word
    (addr_is _ (Some (c.in-Some-addr_at.high, c.in-Some-addr_at.rest.now)) c.in-Some-addr_at.ensures.exact)
