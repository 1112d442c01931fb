-- The rules of expressions at worked examples, row by row: what each derives and the checks that it asks for, or that there is no rule.
-- The function has `int *count(n) p; int n; unsigned u; int *q; char *nullterm t;` and the text has the string at 48 and the arrays
-- `int a[3]` at 16. The statement stands on line 7, and its function has no checks before it.
use Rattle.std.proofs.Common.{◌≡◌, ℕ, true, false, List, [], ◌∷◌, ℤ, pos, neg_ℤ, Option, Some, None, refl, option_map}
use Rattle.sd_base.specs.declared.kinds.CheckKind.{CheckKind}
use Rattle.sd_base.specs.declared.kinds.CheckKind.TheVariants as kind
use Rattle.c_tree.specs.Slots.{slot_named, hidden_slot}
use Rattle.c_tree.specs.declared.expressions.Binary.TheVariants as binary_op
use Rattle.c_tree.specs.declared.expressions.Unary.TheVariants as unary_op
use Rattle.c_tree.specs.declared.words.Suffix.TheVariants as suffix
use Rattle.checked_tree.specs.declared.expressions.Arithmetic.TheVariants as arithmetic_op
use Rattle.checked_tree.specs.declared.expressions.CheckedExpr.{CheckedExpr}
use Rattle.checked_tree.specs.declared.expressions.CheckedExpr.TheVariants as form
use Rattle.checked_tree.specs.declared.shapes.Bounds.TheVariants as bounds
use Rattle.checked_tree.specs.declared.shapes.Edge.{Edge}
use Rattle.checked_tree.specs.declared.shapes.Scalar.TheVariants as scalar
use Rattle.checked_tree.specs.declared.shapes.Shape.TheVariants as shape
use Rattle.checked_tree.specs.declared.sums.Part.{Part}
use Rattle.checked_tree.specs.declared.sums.Part.TheVariants.{Constant, Atom}
use Rattle.checked_tree.specs.declared.sums.Sum.{Sum}
use Rattle.checked_tree.specs.Numbers.{converted}
use Rattle.checked_tree.specs.Bare.{bare}
use Rattle.checked_tree.proofs.Equations.{at_forms}
use Rattle.deputy_rules.specs.declared.asked.Asked.{Asked}
use Rattle.deputy_rules.specs.declared.asked.AskedCond.{AskedCond}
use Rattle.deputy_rules.specs.declared.asked.AskedCond.TheVariants as cond
use Rattle.deputy_rules.specs.declared.derived.Derived.{Derived}
use Rattle.deputy_rules.specs.declared.derived.Derived.TheVariants as derived
use Rattle.deputy_rules.specs.declared.derived.Value.{Value}
use Rattle.deputy_rules.specs.declared.derived.Value.TheVariants as value
use Rattle.deputy_rules.specs.declared.derived.Written.TheVariants as written
use Rattle.deputy_types.specs.declared.element.Element.TheVariants as key
use Rattle.deputy_rules.specs.Context.{Context}
use Rattle.deputy_rules.specs.Deriving.{bind}
use Rattle.deputy_rules.specs.Expressions.{subscript, arrow}
use Rattle.deputy_rules.specs.Operators.{number, character, size_constant, unary, binary, negative, divided, family_of, on_integers, on_pointer_and_integer, on_integer_and_pointer, on_pointers, pointer_and_null, null_and_pointer, cast, integer_type, base_scalar}
use Rattle.deputy_rules.specs.Places.{named, global_place, not_null, through, through_text, followed, indexed, dotted, part_of, member_place, struct_of, arm_place, found_arm}
use Rattle.deputy_rules.specs.Pointers.{string, addressed, addressed_member, address_of, address_of_place, moved, text_moved, text_sum, text_indexed, indexed_by}
use Rattle.deputy_rules.specs.Sums.{scaled, side}
use Rattle.deputy_types.specs.Table.{Table, element_at}
use Rattle.deputy_types.specs.Types.{base_key}
use Rattle.deputy_rules.specs.Values.{named_sum, name_sum, edge_sum, low_sum, high_sum, bounded_pointer, hidden_pointer, local_value, counted_pointer, text_pointer, element_value, container, member_value, source_value, array_value, value_of, integer_of, pointer_of}

-- the table, the slots and the statement
abbrev the_table : Table
the_table = record {
  types = record { structs = []; elements = key.Int scalar.U8 ∷ key.Int scalar.I32 ∷ [] };
  extents = [];
  elems = [];
  structs = [];
  names = [];
  image = record { base = 16; size = 12; elem = 1; count = 3; nullterm = false; bytes = [] } ∷ record { base = 48; size = 3; elem = 0; count = 3; nullterm = true; bytes = [] } ∷ [];
  globals = (97 ∷ []) ∷ [];
  arrays = true ∷ [];
  literals = 1;
}

abbrev own : Edge
own = record { base = None; terms = []; bytes = pos 0 }

abbrev ctx : Context
ctx = record {
  table = the_table;
  locals = record { names = (112 ∷ []) ∷ (110 ∷ []) ∷ (117 ∷ []) ∷ (113 ∷ []) ∷ (116 ∷ []) ∷ []; hidden = None ∷ None ∷ None ∷ Some 5 ∷ None ∷ [] };
  slots = Some (shape.Pointer 1 (bounds.Within own (record { base = None; terms = (pos 4, 1) ∷ []; bytes = pos 0 }))) ∷ Some (shape.Int scalar.I32) ∷ Some (shape.Int scalar.U32)
      ∷ Some (shape.Pointer 1 bounds.Hidden) ∷ Some (shape.Pointer 0 bounds.Nullterm) ∷ Some shape.Address ∷ Some shape.Address ∷ [];
  line = 7;
  first = 0;
}

-- the names as they are derived
abbrev p : Derived
p = derived.Local 0

abbrev n : Derived
n = derived.Local 1

abbrev u : Derived
u = derived.Local 2

abbrev q : Derived
q = derived.Local 3

abbrev t : Derived
t = derived.Local 4

-- the numbers 0, 1 and 2
abbrev the_number : ℕ → Derived
the_number k = number (record { value = k; suffix = suffix.Plain })

-- the checks that are asked for, and the form of what is derived
abbrev asks : Option (Derived × List Asked) → Option (List Asked)
asks r = option_map (λ x. x.1) r

abbrev value_form : Value → CheckedExpr
value_form (value.Int w) = w.form
value_form (value.Pointer a) = a.form
value_form value.Null = form.Null

abbrev derived_form : Derived → CheckedExpr
derived_form (derived.Value v) = value_form v
derived_form (derived.Local slot) = form.Local slot
derived_form (derived.Place a) = a.form
derived_form (derived.Array a) = a.form
derived_form (derived.Union a) = a.container

abbrev forms : Option (Derived × List Asked) → Option CheckedExpr
forms r = option_map (λ x. derived_form x.0) r

abbrev check : CheckKind → AskedCond → Asked
check k c = record { line = 7; kind = k; cond = c }

abbrev sum : List Part → Sum
sum ps = record { parts = ps }

abbrev times : ℤ → ℕ → Part
times k slot = Atom k (form.Local slot)

abbrev one : Sum
one = sum (Constant (pos 1) (pos 1) ∷ [])

-- `*p`: Null, Bound `v + s <= hi`
through_a_pointer : asks (unary ctx unary_op.Dereference p []) ≡ Some (check kind.Null (cond.Le one (sum (times (pos 1) 0 ∷ []))) ∷ check kind.Bound (cond.Le (sum (times (pos 1) 0 ∷ Constant (pos 1) (pos 4) ∷ [])) (sum (times (pos 1) 0 ∷ Constant (pos 1) (pos 0) ∷ times (pos 4) 1 ∷ []))) ∷ [])
unfolding bind named global_place not_null through through_text followed indexed dotted part_of member_place struct_of arm_place found_arm string addressed addressed_member address_of address_of_place moved text_moved text_sum text_indexed indexed_by scaled side element_at named_sum name_sum edge_sum low_sum high_sum bounded_pointer hidden_pointer local_value counted_pointer text_pointer element_value container member_value source_value array_value value_of integer_of pointer_of number character size_constant unary binary negative divided family_of on_integers on_pointer_and_integer on_integer_and_pointer on_pointers pointer_and_null null_and_pointer cast integer_type base_scalar base_key converted subscript arrow slot_named hidden_slot bare
through_a_pointer = simp at_forms refl

-- `p[n]`, n an `int`: Null, both Bounds
indexed_by_int : asks (subscript ctx p n []) ≡ Some (check kind.Null (cond.Le one (sum (times (pos 1) 0 ∷ []))) ∷ check kind.Bound (cond.Le (sum (times (pos 1) 0 ∷ Constant (pos 1) (pos 0) ∷ [])) (sum (times (pos 1) 0 ∷ times (pos 4) 1 ∷ []))) ∷ check kind.Bound (cond.Le (sum (times (pos 1) 0 ∷ times (pos 4) 1 ∷ Constant (pos 1) (pos 4) ∷ [])) (sum (times (pos 1) 0 ∷ Constant (pos 1) (pos 0) ∷ times (pos 4) 1 ∷ []))) ∷ [])
unfolding bind named global_place not_null through through_text followed indexed dotted part_of member_place struct_of arm_place found_arm string addressed addressed_member address_of address_of_place moved text_moved text_sum text_indexed indexed_by scaled side element_at named_sum name_sum edge_sum low_sum high_sum bounded_pointer hidden_pointer local_value counted_pointer text_pointer element_value container member_value source_value array_value value_of integer_of pointer_of number character size_constant unary binary negative divided family_of on_integers on_pointer_and_integer on_integer_and_pointer on_pointers pointer_and_null null_and_pointer cast integer_type base_scalar base_key converted subscript arrow slot_named hidden_slot bare
indexed_by_int = simp at_forms refl

-- `p[u]`, u `unsigned`: no lower Bound
indexed_by_unsigned : asks (subscript ctx p u []) ≡ Some (check kind.Null (cond.Le one (sum (times (pos 1) 0 ∷ []))) ∷ check kind.Bound (cond.Le (sum (times (pos 1) 0 ∷ times (pos 4) 2 ∷ Constant (pos 1) (pos 4) ∷ [])) (sum (times (pos 1) 0 ∷ Constant (pos 1) (pos 0) ∷ times (pos 4) 1 ∷ []))) ∷ [])
unfolding bind named global_place not_null through through_text followed indexed dotted part_of member_place struct_of arm_place found_arm string addressed addressed_member address_of address_of_place moved text_moved text_sum text_indexed indexed_by scaled side element_at named_sum name_sum edge_sum low_sum high_sum bounded_pointer hidden_pointer local_value counted_pointer text_pointer element_value container member_value source_value array_value value_of integer_of pointer_of number character size_constant unary binary negative divided family_of on_integers on_pointer_and_integer on_integer_and_pointer on_pointers pointer_and_null null_and_pointer cast integer_type base_scalar base_key converted subscript arrow slot_named hidden_slot bare
indexed_by_unsigned = simp at_forms refl

-- `*t`, t nullterm: Null
through_text_pointer : asks (unary ctx unary_op.Dereference t []) ≡ Some (check kind.Null (cond.Le one (sum (times (pos 1) 4 ∷ []))) ∷ [])
unfolding bind named global_place not_null through through_text followed indexed dotted part_of member_place struct_of arm_place found_arm string addressed addressed_member address_of address_of_place moved text_moved text_sum text_indexed indexed_by scaled side element_at named_sum name_sum edge_sum low_sum high_sum bounded_pointer hidden_pointer local_value counted_pointer text_pointer element_value container member_value source_value array_value value_of integer_of pointer_of number character size_constant unary binary negative divided family_of on_integers on_pointer_and_integer on_integer_and_pointer on_pointers pointer_and_null null_and_pointer cast integer_type base_scalar base_key converted subscript arrow slot_named hidden_slot bare
through_text_pointer = simp at_forms refl

-- `t[0]` as `*t`
first_of_text : subscript ctx t (the_number 0) [] ≡ unary ctx unary_op.Dereference t []
unfolding bind named global_place not_null through through_text followed indexed dotted part_of member_place struct_of arm_place found_arm string addressed addressed_member address_of address_of_place moved text_moved text_sum text_indexed indexed_by scaled side element_at named_sum name_sum edge_sum low_sum high_sum bounded_pointer hidden_pointer local_value counted_pointer text_pointer element_value container member_value source_value array_value value_of integer_of pointer_of number character size_constant unary binary negative divided family_of on_integers on_pointer_and_integer on_integer_and_pointer on_pointers pointer_and_null null_and_pointer cast integer_type base_scalar base_key converted subscript arrow slot_named hidden_slot bare
first_of_text = simp at_forms refl

-- `t[1]` as `*(t + 1)`: Null, Term
second_of_text : asks (subscript ctx t (the_number 1) []) ≡ Some (check kind.Null (cond.Le one (sum (times (pos 1) 4 ∷ []))) ∷ check kind.Term (cond.Term (sum (times (pos 1) 4 ∷ [])) None) ∷ [])
unfolding bind named global_place not_null through through_text followed indexed dotted part_of member_place struct_of arm_place found_arm string addressed addressed_member address_of address_of_place moved text_moved text_sum text_indexed indexed_by scaled side element_at named_sum name_sum edge_sum low_sum high_sum bounded_pointer hidden_pointer local_value counted_pointer text_pointer element_value container member_value source_value array_value value_of integer_of pointer_of number character size_constant unary binary negative divided family_of on_integers on_pointer_and_integer on_integer_and_pointer on_pointers pointer_and_null null_and_pointer cast integer_type base_scalar base_key converted subscript arrow slot_named hidden_slot bare
second_of_text = simp at_forms refl

-- the bounds of an automatic pointer are its hidden slots
automatic_bounds : value_of ctx q ≡ Some (value.Pointer (record { form = form.Local 3; elem = key.Int scalar.I32; nullterm = false; sure = false; at = sum (times (pos 1) 3 ∷ []); low = sum (times (pos 1) 5 ∷ []); high = sum (times (pos 1) 6 ∷ []) }))
unfolding bind named global_place not_null through through_text followed indexed dotted part_of member_place struct_of arm_place found_arm string addressed addressed_member address_of address_of_place moved text_moved text_sum text_indexed indexed_by scaled side element_at named_sum name_sum edge_sum low_sum high_sum bounded_pointer hidden_pointer local_value counted_pointer text_pointer element_value container member_value source_value array_value value_of integer_of pointer_of number character size_constant unary binary negative divided family_of on_integers on_pointer_and_integer on_integer_and_pointer on_pointers pointer_and_null null_and_pointer cast integer_type base_scalar base_key converted subscript arrow slot_named hidden_slot bare
automatic_bounds = simp at_forms refl

-- an array: its address is a constant, and it is never null
array_element : asks (binary ctx binary_op.Add (derived.Array (record { form = form.Block 16; at = sum (Constant (pos 1) (pos 16) ∷ []); elem = key.Int scalar.I32; count = 3 })) u []) ≡ Some (check kind.Bound (cond.Le (sum (Constant (pos 1) (pos 16) ∷ times (pos 4) 2 ∷ [])) (sum (Constant (pos 1) (pos 16) ∷ Constant (pos 3) (pos 4) ∷ []))) ∷ [])
unfolding bind named global_place not_null through through_text followed indexed dotted part_of member_place struct_of arm_place found_arm string addressed addressed_member address_of address_of_place moved text_moved text_sum text_indexed indexed_by scaled side element_at named_sum name_sum edge_sum low_sum high_sum bounded_pointer hidden_pointer local_value counted_pointer text_pointer element_value container member_value source_value array_value value_of integer_of pointer_of number character size_constant unary binary negative divided family_of on_integers on_pointer_and_integer on_integer_and_pointer on_pointers pointer_and_null null_and_pointer cast integer_type base_scalar base_key converted subscript arrow slot_named hidden_slot bare
array_element = simp at_forms refl

-- `p + n`: Null, both Bounds at the new value
pointer_plus_int : asks (binary ctx binary_op.Add p n []) ≡ Some (check kind.Null (cond.Le one (sum (times (pos 1) 0 ∷ []))) ∷ check kind.Bound (cond.Le (sum (times (pos 1) 0 ∷ Constant (pos 1) (pos 0) ∷ [])) (sum (times (pos 1) 0 ∷ times (pos 4) 1 ∷ []))) ∷ check kind.Bound (cond.Le (sum (times (pos 1) 0 ∷ times (pos 4) 1 ∷ [])) (sum (times (pos 1) 0 ∷ Constant (pos 1) (pos 0) ∷ times (pos 4) 1 ∷ []))) ∷ [])
unfolding bind named global_place not_null through through_text followed indexed dotted part_of member_place struct_of arm_place found_arm string addressed addressed_member address_of address_of_place moved text_moved text_sum text_indexed indexed_by scaled side element_at named_sum name_sum edge_sum low_sum high_sum bounded_pointer hidden_pointer local_value counted_pointer text_pointer element_value container member_value source_value array_value value_of integer_of pointer_of number character size_constant unary binary negative divided family_of on_integers on_pointer_and_integer on_integer_and_pointer on_pointers pointer_and_null null_and_pointer cast integer_type base_scalar base_key converted subscript arrow slot_named hidden_slot bare
pointer_plus_int = simp at_forms refl

-- `u + p`: no lower Bound
unsigned_plus_pointer : asks (binary ctx binary_op.Add u p []) ≡ Some (check kind.Null (cond.Le one (sum (times (pos 1) 0 ∷ []))) ∷ check kind.Bound (cond.Le (sum (times (pos 1) 0 ∷ times (pos 4) 2 ∷ [])) (sum (times (pos 1) 0 ∷ Constant (pos 1) (pos 0) ∷ times (pos 4) 1 ∷ []))) ∷ [])
unfolding bind named global_place not_null through through_text followed indexed dotted part_of member_place struct_of arm_place found_arm string addressed addressed_member address_of address_of_place moved text_moved text_sum text_indexed indexed_by scaled side element_at named_sum name_sum edge_sum low_sum high_sum bounded_pointer hidden_pointer local_value counted_pointer text_pointer element_value container member_value source_value array_value value_of integer_of pointer_of number character size_constant unary binary negative divided family_of on_integers on_pointer_and_integer on_integer_and_pointer on_pointers pointer_and_null null_and_pointer cast integer_type base_scalar base_key converted subscript arrow slot_named hidden_slot bare
unsigned_plus_pointer = simp at_forms refl

-- `p - u`: no upper Bound
pointer_minus_unsigned : asks (binary ctx binary_op.Subtract p u []) ≡ Some (check kind.Null (cond.Le one (sum (times (pos 1) 0 ∷ []))) ∷ check kind.Bound (cond.Le (sum (times (pos 1) 0 ∷ Constant (pos 1) (pos 0) ∷ [])) (sum (times (pos 1) 0 ∷ times (neg_ℤ (pos 4)) 2 ∷ []))) ∷ [])
unfolding bind named global_place not_null through through_text followed indexed dotted part_of member_place struct_of arm_place found_arm string addressed addressed_member address_of address_of_place moved text_moved text_sum text_indexed indexed_by scaled side element_at named_sum name_sum edge_sum low_sum high_sum bounded_pointer hidden_pointer local_value counted_pointer text_pointer element_value container member_value source_value array_value value_of integer_of pointer_of number character size_constant unary binary negative divided family_of on_integers on_pointer_and_integer on_integer_and_pointer on_pointers pointer_and_null null_and_pointer cast integer_type base_scalar base_key converted subscript arrow slot_named hidden_slot bare
pointer_minus_unsigned = simp at_forms refl

-- `t + 0`: Null alone
text_plus_nothing : asks (binary ctx binary_op.Add t (the_number 0) []) ≡ Some (check kind.Null (cond.Le one (sum (times (pos 1) 4 ∷ []))) ∷ [])
unfolding bind named global_place not_null through through_text followed indexed dotted part_of member_place struct_of arm_place found_arm string addressed addressed_member address_of address_of_place moved text_moved text_sum text_indexed indexed_by scaled side element_at named_sum name_sum edge_sum low_sum high_sum bounded_pointer hidden_pointer local_value counted_pointer text_pointer element_value container member_value source_value array_value value_of integer_of pointer_of number character size_constant unary binary negative divided family_of on_integers on_pointer_and_integer on_integer_and_pointer on_pointers pointer_and_null null_and_pointer cast integer_type base_scalar base_key converted subscript arrow slot_named hidden_slot bare
text_plus_nothing = simp at_forms refl

-- `n / u`: Div, in the common type
division : binary ctx binary_op.Divide n u [] ≡ Some (derived.Value (value.Int (record { form = form.Binary arithmetic_op.Divide scalar.U32 (form.Local 1) (form.Local 2) (1 ∷ []); scalar = scalar.U32; written = written.Other })), check kind.Div (cond.NonZero (times (pos 1) 2)) ∷ [])
unfolding bind named global_place not_null through through_text followed indexed dotted part_of member_place struct_of arm_place found_arm string addressed addressed_member address_of address_of_place moved text_moved text_sum text_indexed indexed_by scaled side element_at named_sum name_sum edge_sum low_sum high_sum bounded_pointer hidden_pointer local_value counted_pointer text_pointer element_value container member_value source_value array_value value_of integer_of pointer_of number character size_constant unary binary negative divided family_of on_integers on_pointer_and_integer on_integer_and_pointer on_pointers pointer_and_null null_and_pointer cast integer_type base_scalar base_key converted subscript arrow slot_named hidden_slot bare
division = simp at_forms refl
