use Rattle.std.proofs.Common.{◌≡◌, length, refl, sym, ap, ◌∙◌}
use Rattle.byte_memory.proofs.arena.Arena.copy_in.Goals as goal
use Rattle.byte_memory.proofs.Words.{part_kept}

pub returns-clause-after : goal.returns-clause-after
returns-clause-after c =
    let size : length c.args.self.now ≡ c.self.inside.bytes.len = ap length (sym c.self.view_is) ∙ (ap length (sym c.deref_mut.ensures.value) ∙ c.deref_mut.ensures.len) in
    rw (c.copy_from_slice.ensures.after, c.deref_mut.ensures.value, c.self.view_is) (part_kept c.args.self.now c.args.bytes.now c.args.at (length c.args.bytes.now) _ refl c.requires size)
