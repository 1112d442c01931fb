use Rattle.std.proofs.Common.{sym}
use Rattle.byte_memory.proofs.arena.Arena.load32.Goals as goal
use Rattle.byte_memory.proofs.Words.{load_4}

pub returns : goal.returns
returns c =
    rw (c.from_le_bytes.ensures, c.read_byte.ensures, c.read_byte-2.ensures, c.read_byte-3.ensures, c.read_byte-4.ensures, c.as_slice-bytes.ensures.value, c.self.view_is) (sym (load_4 c.args.self.now c.args.at c.requires))
