-- Locals in range: each integer in the range of its type, each pointer and each hidden bound an address.
use Rattle.std.specs.Prelude.{Bool, true, false, ◌&&◌, List, [], ◌∷◌, ℤ}
use Rattle.checked_tree.specs.declared.shapes.Shape.{Shape}
use Rattle.checked_tree.specs.declared.shapes.Shape.TheVariants as shape
use Rattle.checked_tree.specs.Numbers.{is_word, is_of}

-- a value that a slot of this shape can hold
abbrev pub is_held : Shape → ℤ → Bool
is_held (shape.Int scalar) z = is_of scalar z
is_held (shape.Pointer elem bounds) z = is_word z
is_held (shape.Struct number) z = false
is_held shape.Address z = is_word z

-- each slot has a value that it can hold, and there are no further values
unfoldable pub are_in_range : List Shape → List ℤ → Bool
are_in_range [] [] = true
are_in_range [] (z ∷ zs) = false
are_in_range (s ∷ ss) [] = false
are_in_range (s ∷ ss) (z ∷ zs) = is_held s z && are_in_range ss zs
