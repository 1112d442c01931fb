use Rattle.std.proofs.Common.{sym}
use Rattle.byte_memory.proofs.arena.Arena.load8.Goals as goal
use Rattle.byte_memory.proofs.Words.{load_1}

pub returns : goal.returns
returns c =
    rw (c.from.ensures, c.read_byte.ensures, c.as_slice.ensures.value, c.self.view_is) (sym (load_1 c.args.self.now c.args.at c.requires))
