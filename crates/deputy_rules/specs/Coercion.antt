-- Conversions and coercions: what a type makes of the expression that it is handed, and the checks that a pointer's bounds need then.
use Rattle.std.specs.Prelude.{ℕ, nat_lt, Bool, true, false, ◌&&◌, if◌then◌else◌, List, [], ◌∷◌, ℤ, pos, Option, Some, None}
use Rattle.sd_base.specs.declared.kinds.CheckKind.{CheckKind}
use Rattle.sd_base.specs.declared.kinds.CheckKind.TheVariants as kind
use Rattle.checked_tree.specs.declared.expressions.CheckedExpr.{CheckedExpr}
use Rattle.checked_tree.specs.declared.expressions.CheckedExpr.TheVariants as form
use Rattle.checked_tree.specs.declared.expressions.Unary.TheVariants.{Cast}
use Rattle.checked_tree.specs.declared.shapes.Bounds.{Bounds}
use Rattle.checked_tree.specs.declared.shapes.Bounds.TheVariants as bounds
use Rattle.checked_tree.specs.declared.shapes.Scalar.{Scalar}
use Rattle.checked_tree.specs.declared.sums.Part.{Part}
use Rattle.checked_tree.specs.declared.sums.Part.TheVariants.{Constant}
use Rattle.checked_tree.specs.declared.sums.Sum.{Sum}
use Rattle.checked_tree.specs.Numbers.{converted, has_all}
use Rattle.deputy_rules.specs.declared.asked.AskedCond.TheVariants.{Guarded, Aligned}
use Rattle.deputy_rules.specs.declared.derived.Derived.{Derived}
use Rattle.deputy_rules.specs.declared.derived.Pointed.{Pointed}
use Rattle.deputy_rules.specs.declared.derived.Value.{Value}
use Rattle.deputy_rules.specs.declared.derived.Value.TheVariants as value
use Rattle.deputy_rules.specs.declared.derived.Whole.{Whole}
use Rattle.deputy_types.specs.declared.element.Element.{Element}
use Rattle.deputy_rules.specs.declared.handed.Handed.{Handed}
use Rattle.deputy_rules.specs.declared.naming.Naming.{Naming}
use Rattle.deputy_rules.specs.Context.{Context}
use Rattle.deputy_rules.specs.Deriving.{Deriving, ◌>>=◌, pure, ask}
use Rattle.deputy_rules.specs.Operators.{same_truth}
use Rattle.deputy_types.specs.Options.{and_then}
use Rattle.deputy_rules.specs.Pointers.{is_written}
use Rattle.deputy_rules.specs.Sums.{constant, constant_of, constant_part, atom_part, with_part}
use Rattle.deputy_types.specs.Types.{same_element}
use Rattle.deputy_rules.specs.Values.{value_of, size_of, low_sum, high_sum}

-- the cast of an expression in a check
abbrev pub cast_part : Scalar → CheckedExpr → Part
cast_part s e = atom_part (form.Unary Cast s e)

-- an integer expression in a check after its conversion to a type: the converted constant, the same expression where the type has each of
-- its values, or else its cast
abbrev pub side_by : Option ℤ → Scalar → Whole → Part
side_by (Some z) s w = constant_part (converted s z)
side_by None s w = if has_all s w.scalar then atom_part w.form else cast_part s w.form

unfoldable pub converted_side : Scalar → Whole → Part
converted_side s w = side_by (constant_of w.written) s w

-- the null constant, where a pointer is wanted
abbrev pub null : Handed
null = record { form = form.Null; null = true; at = constant (pos 0); low = constant (pos 0); high = constant (pos 0) }

-- a pointer expression, where a pointer is wanted
abbrev pub handed_over : Pointed → Handed
handed_over p = record { form = p.form; null = false; at = p.at; low = p.low; high = p.high }

-- a value where a pointer to this element is wanted, nullterm or not. The number 0 without suffix is the null constant then
unfoldable pub handed_value : Element → Bool → Value → Option Handed
handed_value key nullterm value.Null = Some null
handed_value key nullterm (value.Int w) = if is_written 0 w.written then Some null else None
handed_value key nullterm (value.Pointer p) =
    if same_element p.elem key && same_truth p.nullterm nullterm then Some (handed_over p) else None

-- what was derived, where such a pointer is wanted
abbrev pub handed : Context → Element → Bool → Derived → Option Handed
handed ctx key nullterm d = and_then (value_of ctx d) (λ v. handed_value key nullterm v)

-- a pointer stands at a whole number of elements past its low bound, which an element of one byte always does
unfoldable pub ask_aligned : Context → CheckKind → Sum → Sum → ℕ → Deriving (List ℕ)
ask_aligned ctx k at low size = if nat_lt 1 size then (ask ctx k (Aligned at low size at) >>= λ id. pure (id ∷ [])) else pure []

-- the five checks of a coercion, each of which passes where the pointer is null. The pointer has the value `at` and the bounds `low` and
-- `high`, its new type the bounds `lower` and `higher`. The first four have the one kind, the fifth the other
unfoldable pub coerce : Context → CheckKind → CheckKind → Sum → Sum → Sum → Sum → Sum → ℕ → Deriving (List ℕ)
coerce ctx k align at low high lower higher size =
    ask ctx k (Guarded low lower at) >>= λ a. ask ctx k (Guarded lower at at) >>= λ b. ask ctx k (Guarded at higher at) >>= λ c.
    ask ctx k (Guarded higher high at) >>= λ d. ask_aligned ctx align at lower size >>= λ e. pure (a ∷ b ∷ c ∷ d ∷ e)

-- the coercion of what is handed over to a pointer type with these bounds
unfoldable pub coerce_within : Context → Handed → Sum → Sum → ℕ → Deriving (List ℕ)
coerce_within ctx h lower higher size = if h.null then pure [] else coerce ctx kind.Bound kind.Align h.at h.low h.high lower higher size

-- the coercion to a pointer type with this element and annotation. A nullterm pointer, and one that takes its bounds with it, needs no
-- check
unfoldable pub coerce_to : Context → Naming → Element → Bounds → Handed → Deriving (List ℕ)
coerce_to ctx n key bounds.Hidden h = pure []
coerce_to ctx n key bounds.Nullterm h = pure []
coerce_to ctx n key (bounds.Within lo hi) h =
    coerce_within ctx h (low_sum ctx n h.at (bounds.Within lo hi)) (high_sum ctx n h.at (bounds.Within lo hi)) (size_of ctx key)

-- the coercion to a pointer type with a constant annotation that lets it reach so many elements
unfoldable pub coerce_counted : Context → Element → ℤ → Handed → Deriving (List ℕ)
coerce_counted ctx key count h = coerce_within ctx h h.at (with_part h.at (Constant count (pos (size_of ctx key)))) (size_of ctx key)
