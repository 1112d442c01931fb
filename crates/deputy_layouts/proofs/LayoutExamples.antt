-- Structs at worked examples, laid out as `gcc -m32` lays them out, and those that are refused, with the line.
use Rattle.std.proofs.Common.{◌≡◌, ℕ, true, false, List, [], ◌∷◌, pos, Option, Some, None, Result, Ok, Err, refl}
use Rattle.c_tree.specs.declared.items.Arm.{Arm}
use Rattle.c_tree.specs.declared.items.Const.TheVariants as const
use Rattle.c_tree.specs.declared.items.Field.{Field}
use Rattle.c_tree.specs.declared.items.Field.TheVariants as field
use Rattle.c_tree.specs.declared.limits.LimitKind.TheVariants as limit
use Rattle.c_tree.specs.declared.types.Annotation.{Annotation}
use Rattle.c_tree.specs.declared.types.Annotation.TheVariants as annotation
use Rattle.c_tree.specs.declared.types.Base.{Base}
use Rattle.c_tree.specs.declared.types.Base.TheVariants as base
use Rattle.c_tree.specs.declared.types.Number.{Number}
use Rattle.c_tree.specs.declared.types.Term.TheVariants as term
use Rattle.c_tree.specs.declared.types.TypeName.{TypeName}
use Rattle.c_tree.specs.declared.words.Suffix.TheVariants as suffix
use Rattle.checked_tree.specs.Numbers.{is_of}
use Rattle.checked_tree.specs.declared.shapes.Bounds.TheVariants as bounds
use Rattle.checked_tree.specs.declared.shapes.Edge.{Edge}
use Rattle.checked_tree.specs.declared.shapes.Scalar.TheVariants as scalar
use Rattle.checked_tree.specs.declared.shapes.Shape.TheVariants as shape
use Rattle.deputy_types.specs.declared.element.Element.TheVariants as key
use Rattle.deputy_types.specs.declared.laying.Laid.{Laid}
use Rattle.deputy_types.specs.declared.refusal.TypeRefusal.{TypeRefusal}
use Rattle.deputy_types.specs.declared.refusal.TypeRefusal.TheVariants as refusal
use Rattle.deputy_types.specs.Declarations.{with_number, with_term, integer_number, pointer_number, edge_term, bound_end, both_ends, annotated_bounds, pointer_shape, typed_shape, declared_role}
use Rattle.deputy_types.specs.Extents.{type_extent, arm_extent}
use Rattle.deputy_types.specs.Found.{with_name}
use Rattle.deputy_types.specs.Siblings.{is_new_member, with_member, with_sibling}
use Rattle.deputy_types.specs.StructLayout.{struct_siblings, is_first, element_count, field_shape, within_limits, placed, is_new_field, field_declared, with_plain, tag_number, is_own_tag, tag_holds, arm_tag, arm_shape, with_arm, is_new_union, with_union_of, with_union_arms, with_union_at, with_union, laid_out, head_of_struct, struct_laid}
use Rattle.deputy_types.specs.Types.{base_key, term_constant, next_sum, pointer_key, star_key, type_key, pointed_key}

-- ---- how declarations are written
abbrev number : ℕ → Number
number n = record { value = n; suffix = suffix.Plain }

abbrev plain : Base → TypeName
plain b = record { base = b; stars = [] }

abbrev pointer : Base → Annotation → TypeName
pointer b note = record { base = b; stars = record { annotation = Some note } ∷ [] }

abbrev declared : ℕ → TypeName → ℕ → Option Number → Field
declared line t name size = field.Plain line (record { type_name = t; name = name ∷ []; size = size })

abbrev arm : ℕ → TypeName → ℕ → ℕ → ℕ → Arm
arm line t name tag value = record { line = line; type_name = t; name = name ∷ []; tag = tag ∷ []; value = const.Number (number value) }

abbrev counted_by : ℕ → Annotation
counted_by name = annotation.Count (record { terms = record { negative = false; term = term.Name (name ∷ []) } ∷ [] })

-- the struct `s` with these fields, the first of the text
abbrev laid : List Field → Result Laid TypeRefusal
laid fields = struct_laid (record { structs = (115 ∷ []) ∷ []; elements = key.Int scalar.U8 ∷ key.Int scalar.I32 ∷ [] }) [] 0
    (record { line = 1; name = 115 ∷ []; fields = fields })

abbrev own : Edge
own = record { base = None; terms = []; bytes = pos 0 }

-- `struct s { char k; int *count(n) p; int n; short a[3]; union { int i when (k == 0); char *nullterm t when (k == 1); } u; };`
abbrev the_fields : List Field
the_fields = declared 2 (plain base.Char) 107 None ∷ declared 3 (pointer base.Int (counted_by 110)) 112 None ∷ declared 4 (plain base.Int) 110 None
    ∷ declared 5 (plain base.Short) 97 (Some (number 3))
    ∷ field.Union 6 (arm 7 (plain base.Int) 105 107 0 ∷ arm 8 (pointer base.Char annotation.Nullterm) 116 107 1 ∷ []) (117 ∷ []) ∷ []

pub a_struct : laid the_fields ≡ Ok (record {
  shape = record {
    size = 24;
    members = record { offset = 0; count = 1; shape = shape.Int scalar.U8; arm = None }
        ∷ record { offset = 4; count = 1; shape = shape.Pointer 1 (bounds.Within own (record { base = None; terms = (pos 4, 2) ∷ []; bytes = pos 0 })); arm = None }
        ∷ record { offset = 8; count = 1; shape = shape.Int scalar.I32; arm = None }
        ∷ record { offset = 12; count = 3; shape = shape.Int scalar.I16; arm = None }
        ∷ record { offset = 20; count = 1; shape = shape.Int scalar.I32; arm = Some (0, pos 0) }
        ∷ record { offset = 20; count = 1; shape = shape.Pointer 0 bounds.Nullterm; arm = Some (0, pos 1) } ∷ [];
    unions = record { offset = 20; size = 4; tag = 0 } ∷ [];
  };
  extent = record { bytes = 24; align = 4 };
  names = record {
    members = record { part = None; name = 107 ∷ [] } ∷ record { part = None; name = 112 ∷ [] } ∷ record { part = None; name = 110 ∷ [] } ∷ record { part = None; name = 97 ∷ [] }
        ∷ record { part = Some 0; name = 105 ∷ [] } ∷ record { part = Some 0; name = 116 ∷ [] } ∷ [];
    unions = (117 ∷ []) ∷ [];
    arrays = false ∷ false ∷ false ∷ true ∷ false ∷ false ∷ [];
    keys = Some (key.Int scalar.U8) ∷ None ∷ Some (key.Int scalar.I32) ∷ Some (key.Int scalar.I16) ∷ Some (key.Int scalar.I32) ∷ Some (key.Nullterm 0) ∷ [];
  };
})
unfolding struct_laid head_of_struct struct_siblings laid_out with_plain field_declared is_new_field field_shape element_count placed within_limits is_first with_union with_union_at with_union_arms with_union_of is_new_union with_arm arm_shape arm_tag tag_holds tag_number is_own_tag is_of typed_shape pointer_shape annotated_bounds both_ends bound_end edge_term with_number with_term integer_number pointer_number declared_role type_extent arm_extent base_key term_constant next_sum pointer_key star_key type_key pointed_key with_name with_sibling with_member is_new_member
a_struct = refl

-- a name that is taken: `char k; int k;`
a_name_twice : laid (declared 2 (plain base.Char) 107 None ∷ declared 3 (plain base.Int) 107 None ∷ []) ≡ Err (refusal.NoDecl 3)
unfolding struct_laid head_of_struct struct_siblings with_plain field_declared is_new_field field_shape element_count placed within_limits is_first typed_shape declared_role type_extent arm_extent base_key pointed_key with_sibling with_member is_new_member
a_name_twice = refl

-- text of integers: `int *nullterm p;`
text_of_integers : laid (declared 2 (pointer base.Int annotation.Nullterm) 112 None ∷ []) ≡ Err (refusal.NoDecl 2)
unfolding struct_laid head_of_struct struct_siblings with_plain field_declared is_new_field field_shape element_count is_first typed_shape pointer_shape annotated_bounds declared_role base_key pointed_key with_sibling with_member is_new_member
text_of_integers = refl

-- a pointer that is its own bound: `int *bound(p, p) p;`
its_own_bound : laid (declared 2 (pointer base.Int (annotation.Bound (record { pointer = 112 ∷ []; offset = None }) (record { pointer = 112 ∷ []; offset = None }))) 112 None ∷ []) ≡ Err (refusal.NoDecl 2)
unfolding struct_laid head_of_struct struct_siblings with_plain field_declared is_new_field field_shape element_count is_first typed_shape pointer_shape annotated_bounds both_ends bound_end pointer_number declared_role base_key pointed_key with_sibling with_member is_new_member
its_own_bound = refl

-- an array of more than 65,536 bytes: `int a[16385];`
too_many_bytes : laid (declared 2 (plain base.Int) 97 (Some (number 16385)) ∷ []) ≡ Err (refusal.Limit 2 limit.Size)
unfolding struct_laid head_of_struct struct_siblings with_plain field_declared is_new_field field_shape element_count placed within_limits is_first typed_shape declared_role type_extent arm_extent base_key pointed_key with_sibling with_member is_new_member
too_many_bytes = refl

-- a struct in itself: `struct s s;`
in_itself : laid (declared 2 (plain (base.Struct (115 ∷ []))) 115 None ∷ []) ≡ Err (refusal.NoDecl 2)
unfolding struct_laid head_of_struct struct_siblings with_plain field_declared is_new_field field_shape element_count is_first typed_shape declared_role base_key pointed_key with_sibling with_member is_new_member
in_itself = refl
