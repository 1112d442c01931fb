-- The sides of comparisons as the code has them.
use Rattle.std.specs.Prelude.{ℕ, ℤ, pos, ◌+ℤ◌, int_le, Bool, true, false, Option, Some, None}
use Rattle.dep_expr.specs.Linear.{LinearForm, number_form, term_form}
use Rattle.checked_tree.specs.Flow as flow
use Rattle.check_elim.specs.declared.edges.Side.{Side}
use Rattle.check_elim.specs.declared.edges.Side.TheVariants as side
use Rattle.check_elim.specs.declared.edges.IntSide.{IntSide}

abbrev pub side_of_code : Side → flow.Side
side_of_code (side.Slot slot) = flow.OfSlot slot
side_of_code (side.Number value scalar) = flow.OfNumber value scalar
side_of_code side.Null = flow.OfNull
side_of_code side.Other = flow.OfOther

abbrev pub form_of : Option ℕ → ℤ → LinearForm
form_of (Some slot) number = term_form (pos 1, slot)
form_of None number = number_form number

abbrev pub is_slot : Option ℕ → Bool
is_slot (Some slot) = true
is_slot None = false

abbrev pub is_natural : Option ℕ → ℤ → Bool
is_natural (Some slot) number = false
is_natural None number = int_le (pos 0) number

abbrev pub side_record : IntSide → flow.IntSide
side_record s = record { form = form_of s.slot s.number; is_unsigned = s.is_unsigned; is_local = is_slot s.slot; is_natural = is_natural s.slot s.number }

abbrev pub int_of_code : Option IntSide → Option flow.IntSide
int_of_code None = None
int_of_code (Some s) = Some (side_record s)

-- at most 0 where the first form is at most the second, or less
abbrev pub difference_of : Bool → LinearForm → LinearForm → LinearForm
difference_of true a b = flow.less a b
difference_of false a b = flow.at_most a b

abbrev pub strict_constant : Bool → ℤ → ℤ
strict_constant true z = z +ℤ pos 1
strict_constant false z = z
