-- Each condition of a check, computed.
use Rattle.std.specs.Prelude.{◌≡◌, Bool, false, true, [], ◌∷◌, ℤ, pos, negsuc, Ok, Err, Some, None, refl}
use Rattle.dep_expr.specs.Linear.{LinearForm}
use Rattle.checked_tree.specs.declared.stops.Stop.TheVariants.{Wild}
use Rattle.checked_tree.specs.declared.checks.Cond.{Cond}
use Rattle.checked_tree.specs.declared.checks.Cond.TheVariants as cond
use Rattle.checked_tree.specs.Outcome.{Outcome}
use Rattle.checked_tree.specs.Numbers.{converted}
use Rattle.byte_memory.specs.Bytes.{little_endian, bytes_at}
use Rattle.checked_tree.specs.Memory.{reached, read, load, is_clear}
use Rattle.checked_tree.specs.Conditions.{peek, form_value, condition}
use Rattle.checked_tree.proofs.Equations.{at_forms}
use Rattle.checked_tree.proofs.Sample.{state, atoms, form}

-- whether a condition holds where the integer is n and the pointer p
abbrev holds_at : ℤ → ℤ → Cond → Outcome Bool
holds_at n p c = condition atoms (state n p) c

-- the pointer, and the integer, as forms
abbrev pointer : LinearForm
pointer = form ((pos 1, 1) ∷ []) (pos 0)

abbrev integer : LinearForm
integer = form ((pos 1, 0) ∷ []) (pos 0)

-- n - 3 <= 0
within : holds_at (pos 3) (pos 0) (cond.Le (record { left = form ((pos 1, 0) ∷ []) (negsuc 2); guard = None })) ≡ Ok true
unfolding condition form_value peek load reached read is_clear bytes_at little_endian converted
within = simp at_forms

-- fails at 4
not_within : holds_at (pos 4) (pos 0) (cond.Le (record { left = form ((pos 1, 0) ∷ []) (negsuc 2); guard = None })) ≡ Ok false
unfolding condition form_value peek load reached read is_clear bytes_at little_endian converted
not_within = simp at_forms

-- unless its guard is 0
guarded : holds_at (pos 4) (pos 0) (cond.Le (record { left = form ((pos 1, 0) ∷ []) (negsuc 2); guard = Some pointer })) ≡ Ok true
unfolding condition form_value peek load reached read is_clear bytes_at little_endian converted
guarded = simp at_forms

-- a guard that is not 0 excuses nothing
guard_not_zero : holds_at (pos 4) (pos 16) (cond.Le (record { left = form ((pos 1, 0) ∷ []) (negsuc 2); guard = Some pointer })) ≡ Ok false
unfolding condition form_value peek load reached read is_clear bytes_at little_endian converted
guard_not_zero = simp at_forms

-- an atom that is not there has no meaning
missing_atom : holds_at (pos 4) (pos 16) (cond.Le (record { left = form ((pos 1, 9) ∷ []) (pos 0); guard = None })) ≡ Err Wild
unfolding condition form_value peek load reached read is_clear bytes_at little_endian converted
missing_atom = refl

-- a gap of 8 is a multiple of 4
aligned : holds_at (pos 0) (pos 24) (cond.Aligned (form ((pos 1, 1) ∷ (negsuc 0, 2) ∷ []) (pos 0)) 4 pointer) ≡ Ok true
unfolding condition form_value peek load reached read is_clear bytes_at little_endian converted
aligned = simp at_forms

-- a gap of 6 is not
not_aligned : holds_at (pos 0) (pos 22) (cond.Aligned (form ((pos 1, 1) ∷ (negsuc 0, 2) ∷ []) (pos 0)) 4 pointer) ≡ Ok false
unfolding condition form_value peek load reached read is_clear bytes_at little_endian converted
not_aligned = simp at_forms

-- a null pointer passes
null_is_aligned : holds_at (pos 0) (pos 0) (cond.Aligned (form ((pos 1, 1) ∷ (negsuc 0, 2) ∷ []) (pos 1)) 4 pointer) ≡ Ok true
unfolding condition form_value peek load reached read is_clear bytes_at little_endian converted
null_is_aligned = simp at_forms

-- a divisor
non_zero : holds_at (negsuc 4) (pos 0) (cond.NonZero integer) ≡ Ok true
unfolding condition form_value peek load reached read is_clear bytes_at little_endian converted
non_zero = simp at_forms

-- a divisor of 0
zero : holds_at (pos 0) (pos 0) (cond.NonZero integer) ≡ Ok false
unfolding condition form_value peek load reached read is_clear bytes_at little_endian converted
zero = simp at_forms

-- a tag that is -1
the_tag : holds_at (negsuc 0) (pos 0) (cond.Equal integer (negsuc 0)) ≡ Ok true
unfolding condition form_value peek load reached read is_clear bytes_at little_endian converted
the_tag = simp at_forms

-- a tag that is not
another_tag : holds_at (pos 1) (pos 0) (cond.Equal integer (negsuc 0)) ≡ Ok false
unfolding condition form_value peek load reached read is_clear bytes_at little_endian converted
another_tag = simp at_forms

-- a byte that is not 0 is not the end of a string
not_the_end : holds_at (pos 0) (pos 16) (cond.Term pointer None) ≡ Ok true
unfolding condition form_value peek load reached read is_clear bytes_at little_endian converted
not_the_end = simp at_forms

-- a byte that is 0 is
the_end : holds_at (pos 0) (pos 17) (cond.Term pointer None) ≡ Ok false
unfolding condition form_value peek load reached read is_clear bytes_at little_endian converted
the_end = simp at_forms

-- a 0 may be written over it
the_end_stays : holds_at (pos 0) (pos 17) (cond.Term pointer (Some integer)) ≡ Ok true
unfolding condition form_value peek load reached read is_clear bytes_at little_endian converted
the_end_stays = simp at_forms

-- and nothing else
the_end_is_overwritten : holds_at (pos 65) (pos 17) (cond.Term pointer (Some integer)) ≡ Ok false
unfolding condition form_value peek load reached read is_clear bytes_at little_endian converted
the_end_is_overwritten = simp at_forms

-- the byte has to be inside
no_string : holds_at (pos 0) (pos 28) (cond.Term pointer None) ≡ Err Wild
unfolding condition form_value peek load reached read is_clear bytes_at little_endian converted
no_string = simp at_forms

-- a tag may keep its value over any bytes
tag_stays : holds_at (pos 1) (pos 16) (cond.Kept (form [] (pos 1)) integer pointer 4) ≡ Ok true
unfolding condition form_value peek load reached read is_clear bytes_at little_endian converted
tag_stays = simp at_forms

-- a tag may change where the union's bytes are 0
tag_changes_over_zeros : holds_at (pos 2) (pos 24) (cond.Kept (form [] (pos 1)) integer pointer 4) ≡ Ok true
unfolding condition form_value peek load reached read is_clear bytes_at little_endian converted
tag_changes_over_zeros = simp at_forms

-- and not where one is not
tag_changes_over_bytes : holds_at (pos 2) (pos 16) (cond.Kept (form [] (pos 1)) integer pointer 4) ≡ Ok false
unfolding condition form_value peek load reached read is_clear bytes_at little_endian converted
tag_changes_over_bytes = simp at_forms

-- the bytes are read where the tags differ alone
tag_changes_outside : holds_at (pos 2) (pos 26) (cond.Kept (form [] (pos 1)) integer pointer 4) ≡ Err Wild
unfolding condition form_value peek load reached read is_clear bytes_at little_endian converted
tag_changes_outside = simp at_forms

-- so a tag that stays reads none
tag_stays_outside : holds_at (pos 1) (pos 26) (cond.Kept (form [] (pos 1)) integer pointer 4) ≡ Ok true
unfolding condition form_value peek load reached read is_clear bytes_at little_endian converted
tag_stays_outside = simp at_forms
