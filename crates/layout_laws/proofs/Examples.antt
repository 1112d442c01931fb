-- A text whose structs stand, with the table that is made of it: a pointer that counts elements of a later struct, and a union, laid out as `gcc -m32` lays them
-- out. The blocks of globals with and without a value. And what the definitions of the laws say of it, and do not say of what is wrong.
use Rattle.std.proofs.Common.{◌≡◌, ℕ, ◌+◌, ◌≤◌, true, false, List, [], ◌∷◌, replicate, pos, Some, None, Ok, IsOkAnd, refl, arith}
use Rattle.c_tree.specs.declared.items.Arm.{Arm}
use Rattle.c_tree.specs.declared.items.Const.TheVariants as const
use Rattle.c_tree.specs.declared.items.Field.{Field}
use Rattle.c_tree.specs.declared.items.Field.TheVariants as field_form
use Rattle.c_tree.specs.declared.items.Item.{Item}
use Rattle.c_tree.specs.declared.items.Item.TheVariants as item
use Rattle.c_tree.specs.declared.items.Unit.{Unit as TextUnit}
use Rattle.c_tree.specs.declared.types.Annotation.{Annotation}
use Rattle.c_tree.specs.declared.types.Annotation.TheVariants as annotation
use Rattle.c_tree.specs.declared.types.Base.{Base}
use Rattle.c_tree.specs.declared.types.Base.TheVariants as base
use Rattle.c_tree.specs.declared.types.Number.{Number}
use Rattle.c_tree.specs.declared.types.Term.TheVariants as term
use Rattle.c_tree.specs.declared.types.TypeName.{TypeName}
use Rattle.c_tree.specs.declared.words.Suffix.TheVariants as suffix
use Rattle.byte_memory.specs.Bytes.{little_endian, low_bytes, bytes_at, zeros}
use Rattle.checked_tree.specs.declared.shapes.Bounds.TheVariants as bounds
use Rattle.checked_tree.specs.declared.shapes.Edge.{Edge}
use Rattle.checked_tree.specs.declared.shapes.Scalar.TheVariants as scalar
use Rattle.checked_tree.specs.declared.shapes.Shape.TheVariants as shape
use Rattle.checked_tree.specs.declared.shapes.StructShape.{StructShape}
use Rattle.checked_tree.specs.declared.units.ImageBlock.{ImageBlock}
use Rattle.checked_tree.specs.Numbers.{is_of, converted}
use Rattle.deputy_types.specs.declared.global.GlobalShape.{GlobalShape}
use Rattle.deputy_types.specs.Declarations.{with_number, with_term, integer_number, pointer_number, edge_term, bound_end, both_ends, annotated_bounds, pointer_shape, typed_shape, declared_role}
use Rattle.deputy_types.specs.Extents.{type_extent, arm_extent}
use Rattle.deputy_types.specs.Fitting.{place_value}
use Rattle.deputy_types.specs.Found.{with_name, with_element, with_types, with_field, found_item}
use Rattle.deputy_types.specs.Siblings.{is_new_member, with_member, with_sibling}
use Rattle.deputy_types.specs.StructLayout.{struct_siblings, is_first, element_count, field_shape, within_limits, placed, is_new_field, field_declared, with_plain, tag_number, is_own_tag, tag_holds, arm_tag, arm_shape, with_arm, is_new_union, with_union_of, with_union_arms, with_union_at, with_union, laid_out, head_of_struct, struct_laid}
use Rattle.deputy_types.specs.Table.{Table}
use Rattle.deputy_types.specs.Types.{base_key, term_constant, next_sum, pointer_key, star_key, type_key, pointed_key}
use Rattle.deputy_types.specs.UnitLayout.{with_struct, with_item, image_end, first_bytes, with_global_block, with_global_blocks, empty_image, image_of, elem_shape, table_of, table_behind, table_with, layout}
use Rattle.layout_laws.specs.LoadImage.{AreInTurn, AreApart, IsWithinImage}
use Rattle.layout_laws.specs.MemberLookups.{member_names, union_names}

-- ---- how declarations are written
abbrev number : ℕ → Number
number n = record { value = n; suffix = suffix.Plain }

abbrev plain : Base → TypeName
plain b = record { base = b; stars = [] }

abbrev pointer : Base → Annotation → TypeName
pointer b note = record { base = b; stars = record { annotation = Some note } ∷ [] }

abbrev declared : ℕ → TypeName → ℕ → Field
declared line t name = field_form.Plain line (record { type_name = t; name = name ∷ []; size = None })

abbrev arm_of : ℕ → TypeName → ℕ → ℕ → ℕ → Arm
arm_of line t name tag value = record { line = line; type_name = t; name = name ∷ []; tag = tag ∷ []; value = const.Number (number value) }

abbrev structure_of : ℕ → ℕ → List Field → Item
structure_of line name fields = item.Struct (record { line = line; name = name ∷ []; fields = fields })

abbrev two : Annotation
two = annotation.Count (record { terms = record { negative = false; term = term.Number (number 2) } ∷ [] })

-- ---- the text
-- `struct a { struct b *count(2) p; char k; union { int i when (k == 0); char *nullterm t when (k == 1); } u; };`
abbrev a_fields : List Field
a_fields = declared 2 (pointer (base.Struct (98 ∷ [])) two) 112 ∷ declared 3 (plain base.Char) 107
    ∷ field_form.Union 4 (arm_of 5 (plain base.Int) 105 107 0 ∷ arm_of 6 (pointer base.Char annotation.Nullterm) 116 107 1 ∷ []) (117 ∷ []) ∷ []

-- it and `struct b { int x; int y; };`
abbrev the_text : TextUnit
the_text = record { items = structure_of 1 97 a_fields ∷ structure_of 8 98 (declared 9 (plain base.Int) 120 ∷ declared 10 (plain base.Int) 121 ∷ []) ∷ [] }

abbrev own : Edge
own = record { base = None; terms = []; bytes = pos 0 }

-- its structs: the pointer of the first counts two elements of 8 bytes of the second
abbrev the_structs : List StructShape
the_structs = record {
  size = 12;
  members = record { offset = 0; count = 1; shape = shape.Pointer 1 (bounds.Within own (record { base = None; terms = []; bytes = pos 16 })); arm = None }
      ∷ record { offset = 4; count = 1; shape = shape.Int scalar.U8; arm = None }
      ∷ record { offset = 8; count = 1; shape = shape.Int scalar.I32; arm = Some (0, pos 0) }
      ∷ record { offset = 8; count = 1; shape = shape.Pointer 0 bounds.Nullterm; arm = Some (0, pos 1) } ∷ [];
  unions = record { offset = 8; size = 4; tag = 1 } ∷ [];
} ∷ record {
  size = 8;
  members = record { offset = 0; count = 1; shape = shape.Int scalar.I32; arm = None } ∷ record { offset = 4; count = 1; shape = shape.Int scalar.I32; arm = None } ∷ [];
  unions = [];
} ∷ []

record IsItsTable (t : Table) : Type 0 where
  structs : t.structs ≡ the_structs
  image : t.image ≡ []

it_stands : IsOkAnd (layout the_text) IsItsTable
unfolding layout table_with table_behind image_of with_item with_struct struct_laid head_of_struct struct_siblings laid_out with_plain field_declared is_new_field field_shape element_count placed within_limits is_first with_union with_union_at with_union_arms with_union_of is_new_union with_arm arm_shape arm_tag tag_holds tag_number is_own_tag is_of typed_shape pointer_shape annotated_bounds both_ends bound_end edge_term with_number with_term integer_number pointer_number declared_role type_extent arm_extent base_key term_constant next_sum pointer_key star_key type_key pointed_key with_name with_sibling with_member is_new_member found_item with_types with_element with_field elem_shape table_of
it_stands = record { structs = refl; image = refl }

-- ---- globals
-- `int g; struct a v[3]; char c = 300;`, where the elements are `char`, `struct b`, `int` and `struct a`
abbrev the_globals : List GlobalShape
the_globals = record { line = 12; elem = 2; count = 1; size = 4; array = false; value = pos 0 } ∷ record { line = 13; elem = 3; count = 3; size = 12; array = true; value = pos 0 }
    ∷ record { line = 14; elem = 0; count = 1; size = 1; array = false; value = pos 300 } ∷ []

-- 4 bytes from 16 on, 36 from 32 on, and one from 80 on, which holds 300 as a `char`
abbrev the_blocks : List ImageBlock
the_blocks = record { base = 16; size = 4; elem = 2; count = 1; nullterm = false; bytes = replicate 4 0 }
    ∷ record { base = 32; size = 36; elem = 3; count = 3; nullterm = false; bytes = replicate 36 0 }
    ∷ record { base = 80; size = 1; elem = 0; count = 1; nullterm = false; bytes = 44 ∷ [] } ∷ []

their_blocks : with_global_blocks empty_image the_globals ≡ Ok (record { blocks = the_blocks; end = 81 })
unfolding with_global_block image_end first_bytes low_bytes zeros
their_blocks = refl

-- ---- what the definitions say of them
its_members : member_names 0 a_fields ≡ record { part = None; name = 112 ∷ [] } ∷ record { part = None; name = 107 ∷ [] } ∷ record { part = Some 0; name = 105 ∷ [] } ∷ record { part = Some 0; name = 116 ∷ [] } ∷ []
its_members = refl

its_unions : union_names a_fields ≡ (117 ∷ []) ∷ []
its_unions = refl

their_turn : AreInTurn 16 the_blocks
their_turn = (refl, (refl, (refl, tt)))

-- 300 in a `char` is 44
its_char : place_value (44 ∷ []) 0 (shape.Int scalar.U8) ≡ converted scalar.U8 (pos 300)
unfolding converted little_endian bytes_at
its_char = refl

-- ---- and not of what is wrong
abbrev block_at : ℕ → ℕ → ImageBlock
block_at at size = record { base = at; size = size; elem = 0; count = size; nullterm = false; bytes = replicate size 0 }

-- a block at the end of the one before, which is no multiple of 16
not_in_turn : AreInTurn 16 (block_at 16 4 ∷ block_at 20 4 ∷ []) → ⊥
not_in_turn h = absurd (apart 20 32 h.1.0 refl refl)
  where
    apart : (a b : ℕ) → a ≡ b → a ≡ 20 → b ≡ 32 → ⊥
    apart a b e f g = omega arith

-- two blocks that share a byte
not_apart : AreApart (block_at 16 20 ∷ block_at 32 4 ∷ []) → ⊥
not_apart h = let e : 16 + 20 ≤ 32 = h.0 0 (block_at 0 0) (omega arith) in absurd (omega arith)

-- a block in the first 16 bytes, which are never granted
not_within : IsWithinImage (block_at 0 4) → ⊥
not_within h = let e : 16 ≤ 0 = h.from in absurd (omega arith)

-- a pointer with a byte that is not 0 is not null
not_null : place_value (0 ∷ 1 ∷ 0 ∷ 0 ∷ []) 0 (shape.Pointer 0 bounds.Nullterm) ≡ pos 256
unfolding little_endian bytes_at
not_null = refl
