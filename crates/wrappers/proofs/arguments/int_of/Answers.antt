-- What is converted to `int` fits 32 bits.
use Rattle.std.proofs.Common.{◌≡◌, FitsSigned, w32, ap, sym, subst, ◌∙◌}
use Rattle.std.proofs.lemmas.Int.{to_z-of_z}
use mir.Syntax.{w64, w128}
use Rattle.checked_tree.specs.declared.shapes.Scalar.TheVariants.{I32}
use Rattle.checked_tree.specs.Numbers.{converted}
use Rattle.wrappers.proofs.IntsFit.{converted_fits}
use Rattle.wrappers.proofs.arguments.int_of.Goals as goal

pub overflow_cast-result : goal.overflow_cast-result
overflow_cast-result c =
    let is : c.converted.result ≡ converted I32 c.args.z =
    c.converted.ensures.value ∙ ap (converted I32) (to_z-of_z w128 c.from.result (record { sfits = c.from.type_inv }) ∙ c.from.ensures ∙ to_z-of_z w64 c.args.z c.ranges.z) in
    subst (FitsSigned w32) (sym (to_z-of_z w64 c.converted.result (record { sfits = c.converted.type_inv }) ∙ is)) (converted_fits c.args.z)

pub returns : goal.returns
returns c =
    let is : c.converted.result ≡ converted I32 c.args.z =
    c.converted.ensures.value ∙ ap (converted I32) (to_z-of_z w128 c.from.result (record { sfits = c.from.type_inv }) ∙ c.from.ensures ∙ to_z-of_z w64 c.args.z c.ranges.z) in
    let whole = to_z-of_z w64 c.converted.result (record { sfits = c.converted.type_inv }) ∙ is in
    to_z-of_z w32 _ (subst (FitsSigned w32) (sym whole) (converted_fits c.args.z)) ∙ whole
