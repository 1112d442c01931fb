use Rattle.std.proofs.Common.{◌≡◌, drop}
use Rattle.check_elim.specs.Sets.{marking}
use Rattle.check_elim.specs.Following.{Follows, flows_of_all}
use Rattle.check_elim.proofs.following.+following.Given as goal

abbrev pub invariant-follow_all-loop-statement : goal.invariant-follow_all-loop-statement
invariant-follow_all-loop-statement l =
    Follows l.f (flows_of_all l.f (Rattle.std.proofs.Common.take l.statement-index l.statements)) (marking l.fn.kept) (marking l.kept)
