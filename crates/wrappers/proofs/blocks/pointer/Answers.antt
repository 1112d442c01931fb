use Rattle.std.proofs.Common.{◌≡◌, ℕ, ◌+◌, ◌*◌, ◌<◌, sym, subst, ◌∙◌}
use Rattle.std.proofs.lemmas.Int.{to_z-of_z}
use mir.Syntax.{w64}
use Rattle.update_tracker.specs.declared.undo.Reply.TheVariants.{Base}
use Rattle.wrappers.specs.Rows as row
use Rattle.wrappers.proofs.blocks.pointer.Goals as goal

pub returns-in-Base : goal.returns-in-Base
returns-in-Base c = λ base count reply number few ends.
    let equal : Base c.in-Base.base ≡ Base base = sym c.in-Base.is ∙ reply in
    let same : c.in-Base.base ≡ base = cc in
    subst (λ b. c.block.result ≡ row.block b c.args.size count) same
    (c.block.ensures count (to_z-of_z w64 c.args.n c.ranges.n ∙ number) few (subst (λ b. b + c.args.size * count < 4294967296) (sym same) ends))

pub returns-in-Done : goal.returns-in-Done
returns-in-Done c = λ base count reply. cc
