-- A turn writes one line. The second loop begins where all lines of the first are written.
use Rattle.std.proofs.Common.{◌≡◌, ◌+◌, ◌-◌, arith}
use Rattle.gen_driver.specs.Generator.{function_line, call_line}
use Rattle.gen_driver.proofs.Lines.{lines_more, lines_all}
use Rattle.gen_driver.proofs.gen_text.Goals as goal

pub loop-k-preserved : goal.loop-k-preserved
loop-k-preserved c =
    rw c.in_ok-push_function.ensures (lines_more function_line _ _ c.loop-k.k c.args.n (omega arith) c.loop-k.invariant)

pub loop-k-2-init : goal.loop-k-2-init
loop-k-2-init c =
    let functions = lines_all function_line _ _ c.loop-k.k c.args.n (omega arith) c.loop-k.invariant in
    let all : c.args.n + 1 - 1 ≡ c.args.n = omega arith in
    rw (all, c.in_ok-push_str.ensures.bytes, functions)

pub loop-k-2-preserved : goal.loop-k-2-preserved
loop-k-2-preserved c =
    rw c.in_ok-push_call.ensures (lines_more call_line _ _ c.loop-k-2.k c.args.n (omega arith) c.loop-k-2.invariant)
