-- Reading: the value of a local or of a place, with the bounds that its annotation gives, the names read in the same struct or function.
use Rattle.std.specs.Prelude.{ℕ, ◌+◌, Bool, true, false, ◌==◌, if◌then◌else◌, List, [], ◌∷◌, ℤ, pos, Option, Some, None, option_map}
use Rattle.std.specs.Prelude.{slice_get, unwrap_or}
use Rattle.c_tree.specs.Slots.{hidden_slot}
use Rattle.checked_tree.specs.declared.expressions.CheckedExpr.{CheckedExpr, out-CheckedExpr}
use Rattle.checked_tree.specs.declared.expressions.CheckedExpr.TheOpen as E
use Rattle.checked_tree.specs.declared.expressions.CheckedExpr.TheVariants as form
use Rattle.checked_tree.specs.declared.shapes.Bounds.{Bounds}
use Rattle.checked_tree.specs.declared.shapes.Bounds.TheVariants as bounds
use Rattle.checked_tree.specs.declared.shapes.Edge.{Edge}
use Rattle.checked_tree.specs.declared.shapes.Member.{Member}
use Rattle.checked_tree.specs.declared.shapes.Scalar.{Scalar}
use Rattle.checked_tree.specs.declared.shapes.Scalar.TheVariants as scalar
use Rattle.checked_tree.specs.declared.shapes.Shape.{Shape}
use Rattle.checked_tree.specs.declared.shapes.Shape.TheVariants as shape
use Rattle.checked_tree.specs.declared.sums.Part.{Part}
use Rattle.checked_tree.specs.declared.sums.Part.TheVariants.{Constant, Atom}
use Rattle.checked_tree.specs.declared.sums.Sum.{Sum}
use Rattle.checked_tree.specs.Bare.{bare}
use Rattle.deputy_rules.specs.declared.derived.ArrayPlace.{ArrayPlace}
use Rattle.deputy_rules.specs.declared.derived.Derived.{Derived}
use Rattle.deputy_rules.specs.declared.derived.Derived.TheVariants as derived
use Rattle.deputy_rules.specs.declared.derived.Pointed.{Pointed}
use Rattle.deputy_rules.specs.declared.derived.Source.{Source}
use Rattle.deputy_rules.specs.declared.derived.Source.TheVariants as source
use Rattle.deputy_rules.specs.declared.derived.Value.{Value}
use Rattle.deputy_rules.specs.declared.derived.Value.TheVariants as value
use Rattle.deputy_rules.specs.declared.derived.Whole.{Whole}
use Rattle.deputy_rules.specs.declared.derived.Written.TheVariants as written
use Rattle.deputy_types.specs.declared.element.Element.{Element}
use Rattle.deputy_types.specs.declared.element.Element.TheVariants as element
use Rattle.deputy_rules.specs.declared.naming.Change.{Change}
use Rattle.deputy_rules.specs.declared.naming.Names.{Names}
use Rattle.deputy_rules.specs.declared.naming.Names.TheVariants as names
use Rattle.deputy_rules.specs.declared.naming.Naming.{Naming}
use Rattle.deputy_rules.specs.Context.{Context, slot_shape}
use Rattle.deputy_types.specs.Extents.{key_extent}
use Rattle.deputy_types.specs.Options.{and_then}
use Rattle.deputy_rules.specs.Sums.{atom, plus, with_part, beyond, scaled, sum_of}
use Rattle.deputy_types.specs.Table.{element_at, member}

-- the bytes of a type
abbrev pub size_of : Context → Element → ℕ
size_of ctx key = (key_extent ctx.table.extents key).bytes

-- a pointer, as it is loaded
abbrev pub address : Scalar
address = scalar.Pointer 0

-- as what a place of this shape is loaded
abbrev pub loaded_as : Shape → Scalar
loaded_as (shape.Int s) = s
loaded_as (shape.Pointer elem b) = address
loaded_as (shape.Struct s) = address
loaded_as shape.Address = address

-- what stands for nothing
abbrev pub nothing : Sum
nothing = record { parts = [] }

-- the value of a slot
abbrev pub slot_sum : ℕ → Sum
slot_sum k = sum_of (Atom (pos 1) (form.Local k))

-- the value of what lies at an offset of a struct place; the form is bare
abbrev pub member_part : CheckedExpr → Scalar → ℕ → Part
member_part container s offset = Atom (pos 1) (form.Load s (form.Field (bare container) offset []))

-- the value of a member of a struct place
abbrev pub member_sum : CheckedExpr → Option Member → Sum
member_sum container None = nothing
member_sum container (Some m) = sum_of (member_part container (loaded_as m.shape) m.offset)

-- the value that the name with this number has: a slot's, a member's, or an argument's
unfoldable pub named_sum : Context → Names → ℕ → Sum
named_sum ctx names.OfSlots k = slot_sum k
named_sum ctx (names.OfStruct container s) k = member_sum container (member ctx.table s k)
named_sum ctx (names.OfArguments sums) k = unwrap_or (slice_get sums k) nothing

-- the same, where one name may have a new value
abbrev pub changed_sum : Context → Names → ℕ → Option Change → Sum
changed_sum ctx names k None = named_sum ctx names k
changed_sum ctx names k (Some c) = if c.name == k then c.value else named_sum ctx names k

unfoldable pub name_sum : Context → Naming → ℕ → Sum
name_sum ctx n k = changed_sum ctx n.names k n.change

-- a sum with the terms of an annotation: each name's value times its number
abbrev pub with_terms : Context → Naming → List (ℤ × ℕ) → Sum → Sum
with_terms ctx n [] sum = sum
with_terms ctx n (t ∷ ts) sum = with_terms ctx n ts (plus sum (scaled t.0 (name_sum ctx n t.1)))

-- where a side begins: at the pointer itself, or at a sibling
abbrev pub base_sum : Context → Naming → Sum → Option ℕ → Sum
base_sum ctx n at None = at
base_sum ctx n at (Some k) = name_sum ctx n k

-- a side of the bounds of a pointer with this value
unfoldable pub edge_sum : Context → Naming → Sum → Edge → Sum
edge_sum ctx n at e = with_terms ctx n e.terms (beyond (base_sum ctx n at e.base) e.bytes)

-- the bounds of a pointer with this value. Hidden ones lie in slots, and a nullterm pointer has none but its value
unfoldable pub low_sum : Context → Naming → Sum → Bounds → Sum
low_sum ctx n at bounds.Hidden = at
low_sum ctx n at bounds.Nullterm = at
low_sum ctx n at (bounds.Within lo hi) = edge_sum ctx n at lo

unfoldable pub high_sum : Context → Naming → Sum → Bounds → Sum
high_sum ctx n at bounds.Hidden = at
high_sum ctx n at bounds.Nullterm = at
high_sum ctx n at (bounds.Within lo hi) = edge_sum ctx n at hi

abbrev pub is_nullterm : Bounds → Bool
is_nullterm bounds.Nullterm = true
is_nullterm bounds.Hidden = false
is_nullterm (bounds.Within lo hi) = false

-- an integer that is read: its type is the declared one
abbrev pub integer : CheckedExpr → Scalar → Value
integer e s = value.Int (record { form = e; scalar = s; written = written.Other })

-- a pointer that is read, with these bounds beside its value
abbrev pub pointer_to : CheckedExpr → Element → Bool → Sum → Sum → Value
pointer_to e key nullterm low high =
    value.Pointer (record { form = e; elem = key; nullterm = nullterm; sure = false; at = atom e; low = low; high = high })

-- a pointer with the bounds of its annotation
unfoldable pub bounded_pointer : Context → Naming → CheckedExpr → ℕ → Bounds → Option Value
bounded_pointer ctx n e elem b =
    option_map (λ key. pointer_to e key (is_nullterm b) (low_sum ctx n (atom e) b) (high_sum ctx n (atom e) b)) (element_at ctx.table elem)

-- a local pointer whose bounds lie in two hidden slots
unfoldable pub hidden_pointer : Context → ℕ → ℕ → Option Value
hidden_pointer ctx slot elem =
    and_then (hidden_slot ctx.locals slot) (λ h. option_map
    (λ key. pointer_to (form.Local slot) key false (slot_sum h) (slot_sum (h + 1))) (element_at ctx.table elem))

-- names that are read in the function, and in a struct place, as they are
abbrev pub of_slots : Naming
of_slots = record { names = names.OfSlots; change = None }

abbrev pub of_struct : CheckedExpr → ℕ → Naming
of_struct container s = record { names = names.OfStruct container s; change = None }

-- the value of a local pointer with these bounds
abbrev pub local_pointer : Context → ℕ → ℕ → Bounds → Option Value
local_pointer ctx slot elem bounds.Hidden = hidden_pointer ctx slot elem
local_pointer ctx slot elem bounds.Nullterm = bounded_pointer ctx of_slots (form.Local slot) elem bounds.Nullterm
local_pointer ctx slot elem (bounds.Within lo hi) = bounded_pointer ctx of_slots (form.Local slot) elem (bounds.Within lo hi)

-- the value of a local of this shape
abbrev pub slot_value : Context → ℕ → Shape → Option Value
slot_value ctx slot (shape.Int s) = Some (integer (form.Local slot) s)
slot_value ctx slot (shape.Pointer elem b) = local_pointer ctx slot elem b
slot_value ctx slot (shape.Struct s) = None
slot_value ctx slot shape.Address = None

-- the value of a local
unfoldable pub local_value : Context → ℕ → Option Value
local_value ctx slot = and_then (slot_shape ctx slot) (λ x. slot_value ctx slot x)

-- a pointer with a constant annotation that lets it reach so many elements
unfoldable pub counted_pointer : Context → CheckedExpr → ℕ → ℤ → Option Value
counted_pointer ctx e n count =
    option_map (λ key. pointer_to e key false (atom e) (with_part (atom e) (Constant count (pos (size_of ctx key)))))
    (element_at ctx.table n)

-- a pointer to text
unfoldable pub text_pointer : Context → CheckedExpr → ℕ → Option Value
text_pointer ctx e n = option_map (λ key. pointer_to e key true (atom e) (atom e)) (element_at ctx.table n)

-- the value of a place of this type
unfoldable pub element_value : Context → CheckedExpr → Element → Option Value
element_value ctx place (element.Int s) = Some (integer (form.Load s place) s)
element_value ctx place (element.Struct s) = None
element_value ctx place (element.Sentinel n) = counted_pointer ctx (form.Load address place) n (pos 0)
element_value ctx place (element.Nullterm n) = text_pointer ctx (form.Load address place) n
element_value ctx place (element.Count n count) = counted_pointer ctx (form.Load address place) n count

-- the struct place in which a member lies
abbrev pub container_or : CheckedExpr → E.CheckedExpr-F CheckedExpr → CheckedExpr
container_or e (E.Field place offset checks) = place
container_or e _ = e

unfoldable pub container : CheckedExpr → CheckedExpr
container e = container_or e (out-CheckedExpr e)

-- the value of a member of this shape
unfoldable pub member_value : Context → CheckedExpr → ℕ → Shape → Option Value
member_value ctx place s (shape.Int scalar) = Some (integer (form.Load scalar place) scalar)
member_value ctx place s (shape.Pointer elem b) = bounded_pointer ctx (of_struct (container place) s) (form.Load address place) elem b
member_value ctx place s (shape.Struct k) = None
member_value ctx place s shape.Address = None

-- the value of a place whose type is declared there
unfoldable pub source_value : Context → CheckedExpr → Source → Option Value
source_value ctx place (source.Element key) = element_value ctx place key
source_value ctx place source.Text = Some (integer (form.Load scalar.U8 place) scalar.U8)
source_value ctx place (source.Member s m) = and_then (member ctx.table s m) (λ x. member_value ctx place s x.shape)

-- an array as a pointer to its first element: it is never null, and its bounds are those of the array
unfoldable pub array_value : Context → ArrayPlace → Value
array_value ctx a =
    value.Pointer (record {
      form = form.AddressOf a.form;
      elem = a.elem;
      nullterm = false;
      sure = true;
      at = a.at;
      low = a.at;
      high = with_part a.at (Constant (pos a.count) (pos (size_of ctx a.elem)));
    })

-- the value of what was derived: a place or a local is read, and a struct or a union has none
unfoldable pub value_of : Context → Derived → Option Value
value_of ctx (derived.Value v) = Some v
value_of ctx (derived.Local slot) = local_value ctx slot
value_of ctx (derived.Place p) = source_value ctx p.form p.source
value_of ctx (derived.Array a) = Some (array_value ctx a)
value_of ctx (derived.Union u) = None

-- a value as an integer, and as a pointer
abbrev pub whole : Value → Option Whole
whole (value.Int w) = Some w
whole (value.Pointer p) = None
whole value.Null = None

abbrev pub pointed : Value → Option Pointed
pointed (value.Int w) = None
pointed (value.Pointer p) = Some p
pointed value.Null = None

-- the value of what was derived, as an integer, and as a pointer
unfoldable pub integer_of : Context → Derived → Option Whole
integer_of ctx d = and_then (value_of ctx d) whole

unfoldable pub pointer_of : Context → Derived → Option Pointed
pointer_of ctx d = and_then (value_of ctx d) pointed
