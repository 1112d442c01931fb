-- A converted number fits its type.
use Rattle.std.proofs.Common.{◌≡◌, IsTrue, ℤ, pos, negsuc, w32, FitsSigned, arith}
use Rattle.std.proofs.lemmas.Int.{ints}
use Rattle.checked_tree.specs.declared.shapes.Scalar.TheVariants.{I32}
use Rattle.checked_tree.specs.Numbers.{converted, is_of}
use Rattle.checked_tree.proofs.NumberRanges.{converted_of}

pub int_fits : (z : ℤ) → IsTrue (is_of I32 z) → FitsSigned w32 z
unfolding is_of
int_fits z h = grind (arith, ints)

pub converted_fits : (z : ℤ) → FitsSigned w32 (converted I32 z)
converted_fits z = int_fits (converted I32 z) (converted_of I32 z (λ same. cc same))
