-- What calls see of two functions: of one whose second parameter has the name of the first they see no shapes, and of one with two names they see both.
use Rattle.std.proofs.Common.{◌≡◌, ℕ, List, [], ◌∷◌, codes, false, Some, None, refl}
use Rattle.c_tree.specs.declared.items.Head.{Head}
use Rattle.c_tree.specs.declared.items.Param.{Param}
use Rattle.c_tree.specs.declared.items.ResultBase.TheVariants as result
use Rattle.c_tree.specs.declared.types.Base.TheVariants as base
use Rattle.checked_tree.specs.declared.shapes.Scalar.TheVariants.{I32}
use Rattle.checked_tree.specs.declared.shapes.Shape.TheVariants as shape
use Rattle.deputy_rules.specs.Heads.{head_parameter_stands, wrong_in_head, seen_shapes}

-- `int NAME` on this line
abbrev int_named : ℕ → List ℕ → Param
int_named line name = record { line = line; type_name = record { base = base.Int; stars = [] }; name = name }

-- `int f(int a,` and on the next line `int NAME)`
abbrev with_second : List ℕ → Head
with_second name = record {
  line = 4;
  is_static = false;
  result = result.Base base.Int;
  stars = [];
  name = codes "f";
  written_void = false;
  params = int_named 4 (codes "a") ∷ int_named 5 name ∷ [];
}

-- `int f(int a,` / `int a)`: a call of it on any line is derived by no rule, and the later parameter stands against the rules
a_doubled_name : seen_shapes (Some (shape.Int I32) ∷ Some (shape.Int I32) ∷ []) (with_second (codes "a")) ≡ None ∷ None ∷ []
unfolding seen_shapes wrong_in_head head_parameter_stands
a_doubled_name = refl

the_doubled_line : wrong_in_head (Some (shape.Int I32) ∷ Some (shape.Int I32) ∷ []) (with_second (codes "a")) ≡ Some 5
unfolding wrong_in_head head_parameter_stands
the_doubled_line = refl

two_names : seen_shapes (Some (shape.Int I32) ∷ Some (shape.Int I32) ∷ []) (with_second (codes "b")) ≡ Some (shape.Int I32) ∷ Some (shape.Int I32) ∷ []
unfolding seen_shapes wrong_in_head head_parameter_stands
two_names = refl
