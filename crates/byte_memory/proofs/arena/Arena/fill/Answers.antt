use Rattle.std.proofs.Common.{◌≡◌, ◌+◌, ◌-◌, length, take, drop, replicate, sym, ap, ◌∙◌, arith, length-take, length-drop}
use Rattle.std.proofs.lemmas.List.{length-replicate}
use Rattle.byte_memory.specs.Bytes.{zeros}
use Rattle.byte_memory.proofs.arena.Arena.fill.Goals as goal
use Rattle.byte_memory.proofs.Words.{part_kept}

pub returns-clause-after : goal.returns-clause-after
unfolding zeros
returns-clause-after c =
    let size : length c.args.self.now ≡ c.self.inside.bytes.len = ap length (sym c.self.view_is) ∙ (ap length (sym c.deref_mut.ensures.value) ∙ c.deref_mut.ensures.len) in
    let zeros = c.fill.ensures.after (λ y same. same) in
    let count : length (take (c.args.at + c.args.n - c.args.at) (drop c.args.at c.deref_mut.result.now)) ≡ c.args.n =
    omega (arith, length-take (c.args.at + c.args.n - c.args.at) (drop c.args.at c.deref_mut.result.now), length-drop c.args.at c.deref_mut.result.now, ap length c.deref_mut.ensures.value, ap length c.self.view_is) in
    rw (zeros, count, c.deref_mut.ensures.value, c.self.view_is) (part_kept c.args.self.now (replicate c.args.n 0) c.args.at c.args.n _ (length-replicate c.args.n 0) c.requires size)
