use Rattle.std.proofs.Common.{arith}
use Rattle.std.proofs.lemmas.Nat.Gcd.{IsGcd-from_zero, IsGcd-from_mod}
use Rattle.dep_expr.proofs.Dividing.{gcd_is}
use Rattle.dep_expr.proofs.divide.gcd.Goals as goal

pub loop-smaller-preserved : goal.loop-smaller-preserved
loop-smaller-preserved c = λ g h. c.loop-smaller.invariant g (IsGcd-from_mod c.loop-smaller.larger c.loop-smaller.smaller g h)

pub returns : goal.returns
returns c = gcd_is c.args.a c.args.b c.loop-smaller.larger (c.loop-smaller.invariant c.loop-smaller.larger (IsGcd-from_zero c.loop-smaller.larger c.loop-smaller.smaller (omega arith)))
