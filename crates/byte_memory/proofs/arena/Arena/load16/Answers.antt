use Rattle.std.proofs.Common.{sym}
use Rattle.byte_memory.proofs.arena.Arena.load16.Goals as goal
use Rattle.byte_memory.proofs.Words.{load_2}

pub returns : goal.returns
returns c =
    rw (c.from.ensures, c.from_le_bytes.ensures, c.read_byte.ensures, c.read_byte-2.ensures, c.as_slice-bytes.ensures.value, c.self.view_is) (sym (load_2 c.args.self.now c.args.at c.requires))
