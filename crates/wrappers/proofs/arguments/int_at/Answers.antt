use Rattle.std.proofs.Common.{ap, ◌∙◌}
use Rattle.std.proofs.lemmas.Int.{to_z-of_z}
use mir.Syntax.{w32, w64}
use Rattle.checked_tree.specs.declared.shapes.Scalar.TheVariants.{I32}
use Rattle.checked_tree.specs.Numbers.{converted}
use Rattle.wrappers.proofs.arguments.int_at.Goals as goal

pub returns : goal.returns
returns c =
    to_z-of_z w32 c.int_of.result (record { sfits = c.int_of.type_inv }) ∙ c.int_of.ensures
    ∙ ap (λ z. converted I32 z) (to_z-of_z w64 c.number_at.result (record { sfits = c.number_at.type_inv }) ∙ c.number_at.ensures)
