use Rattle.std.proofs.Common.{sym, subst}
use Rattle.std.specs.Prelude.{IsTrue}
use Rattle.byte_memory.specs.Tested.{Memory, is_inside}
use Rattle.byte_memory.proofs.Grants.{inside_within}
use Rattle.byte_memory.proofs.tested.Tested.fill.Goals as goal

pub fill-requires : goal.fill-requires
fill-requires c =
    let inside = subst (λ (m : Memory). IsTrue (is_inside m c.args.at c.args.n)) (sym c.self.view_is) c.requires.inside in
    inside_within _ _ _ _ c.args.at c.args.n c.self.invariant inside
