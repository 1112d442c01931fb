use Rattle.std.proofs.Common.{sym, ◌∙◌}
use Rattle.std.proofs.lemmas.List.{with_items_is}
use Rattle.byte_memory.proofs.arena.Arena.store32.Goals as goal
use Rattle.byte_memory.proofs.Words.{store_4}

pub returns-clause-after : goal.returns-clause-after
returns-clause-after c =
    with_items_is c.self.inside.bytes c.write_byte-4.new.bytes (c.write_byte-4.auto.bytes ∙ c.write_byte-3.auto.bytes ∙ c.write_byte-2.auto.bytes ∙ c.write_byte.auto.bytes ∙ c.as_mut_slice-bytes.ensures.len)
    ∙ rw (c.write_byte-4.ensures, c.write_byte-3.ensures, c.write_byte-2.ensures, c.write_byte.ensures, c.as_mut_slice-bytes.ensures.value, c.to_le_bytes-all.ensures, c.self.view_is) (sym (store_4 c.args.self.now c.args.at c.args.v c.requires))
