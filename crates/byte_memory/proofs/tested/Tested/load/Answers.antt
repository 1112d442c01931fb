use Rattle.std.proofs.Common.{◌+◌, ◌≤◌, ℕ, length, sym, subst}
use Rattle.std.specs.Prelude.{IsTrue}
use Rattle.byte_memory.specs.Tested.{Memory, is_inside}
use Rattle.byte_memory.proofs.Grants.{inside_within}
use Rattle.byte_memory.proofs.tested.Tested.load.Goals as goal

pub load8-requires : goal.load8-requires
load8-requires c =
    let inside = subst (λ (m : Memory). IsTrue (is_inside m c.args.at c.args.n)) (sym c.self.view_is) c.requires.inside in
    subst (λ (n : ℕ). c.args.at + n ≤ length c.self.inside.arena) c.in-1.is (inside_within _ _ _ _ c.args.at c.args.n c.self.invariant inside)

pub load16-requires : goal.load16-requires
load16-requires c =
    let inside = subst (λ (m : Memory). IsTrue (is_inside m c.args.at c.args.n)) (sym c.self.view_is) c.requires.inside in
    subst (λ (n : ℕ). c.args.at + n ≤ length c.self.inside.arena) c.in-2.is (inside_within _ _ _ _ c.args.at c.args.n c.self.invariant inside)

pub load32-requires : goal.load32-requires
load32-requires c =
    let inside = subst (λ (m : Memory). IsTrue (is_inside m c.args.at c.args.n)) (sym c.self.view_is) c.requires.inside in
    subst (λ (n : ℕ). c.args.at + n ≤ length c.self.inside.arena) c.in-4.is (inside_within _ _ _ _ c.args.at c.args.n c.self.invariant inside)
