use Rattle.std.proofs.Common.{◌+◌, ◌≤◌, ℕ, length, sym, subst}
use Rattle.std.specs.Prelude.{IsTrue}
use Rattle.byte_memory.specs.Tested.{Memory, is_inside}
use Rattle.byte_memory.proofs.Grants.{inside_within}
use Rattle.byte_memory.proofs.tested.Tested.store.Goals as goal

pub store8-requires : goal.store8-requires
store8-requires c =
    let inside = subst (λ (m : Memory). IsTrue (is_inside m c.args.at c.args.n)) (sym c.self.view_is) c.requires.inside in
    subst (λ (n : ℕ). c.args.at + n ≤ length c.self.inside.arena) c.in-1.is (inside_within _ _ _ _ c.args.at c.args.n c.self.invariant inside)

pub store16-requires : goal.store16-requires
store16-requires c =
    let inside = subst (λ (m : Memory). IsTrue (is_inside m c.args.at c.args.n)) (sym c.self.view_is) c.requires.inside in
    subst (λ (n : ℕ). c.args.at + n ≤ length c.self.inside.arena) c.in-2.is (inside_within _ _ _ _ c.args.at c.args.n c.self.invariant inside)

pub store32-requires : goal.store32-requires
store32-requires c =
    let inside = subst (λ (m : Memory). IsTrue (is_inside m c.args.at c.args.n)) (sym c.self.view_is) c.requires.inside in
    subst (λ (n : ℕ). c.args.at + n ≤ length c.self.inside.arena) c.in-4.is (inside_within _ _ _ _ c.args.at c.args.n c.self.invariant inside)
