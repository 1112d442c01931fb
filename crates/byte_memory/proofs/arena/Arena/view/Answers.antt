use Rattle.std.proofs.Common.{◌≡◌, ◌+◌, ◌-◌, arith}
use Rattle.byte_memory.specs.Bytes.{bytes_at}
use Rattle.byte_memory.proofs.arena.Arena.view.Goals as goal

pub returns : goal.returns
unfolding bytes_at
returns c =
    let count : c.args.at + c.args.n - c.args.at ≡ c.args.n = omega arith in
    rw (count, c.deref.ensures.value, c.self.view_is)
