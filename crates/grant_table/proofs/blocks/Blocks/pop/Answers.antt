use Rattle.std.proofs.Common.{◌-◌, vec_len, sym, subst, arith}
use Rattle.grant_table.specs.BlockRows.{IsArena}
use Rattle.grant_table.proofs.Arena.{arena_take}
use Rattle.grant_table.proofs.blocks.Blocks.pop.Goals as goal

pub invariant_of-self : goal.invariant_of-self
invariant_of-self c = (
  omega arith,
  omega arith,
  subst (IsArena 16) (sym c.pop.ensures.rest) (arena_take 16 (vec_len c.self.inside.rows - 1) c.self.inside.rows.items c.self.invariant.2),
)
