-- Heads, parameters and locals: what a function is declared to take, to hold and to return, and which of these declarations stand.
use Rattle.std.specs.Prelude.{ℕ, ◌+◌, nat_lt, Bool, true, false, ◌&&◌, if◌then◌else◌, List, [], ◌∷◌, ◌++◌, map, length, Option, Some, None}
use Rattle.std.specs.Prelude.{is_none, is_some, option_map, position, bytes_eq, slice_get}
use Rattle.std.specs.Option.{option_flatten}
use Rattle.c_tree.specs.declared.items.Function.{Function}
use Rattle.c_tree.specs.declared.items.Head.{Head}
use Rattle.c_tree.specs.declared.items.Item.{Item}
use Rattle.c_tree.specs.declared.items.Item.TheVariants as item
use Rattle.c_tree.specs.declared.items.Local.{Local}
use Rattle.c_tree.specs.declared.items.Param.{Param}
use Rattle.c_tree.specs.declared.items.ResultBase.{ResultBase}
use Rattle.c_tree.specs.declared.items.ResultBase.TheVariants as result
use Rattle.c_tree.specs.declared.types.Base.{Base}
use Rattle.c_tree.specs.declared.types.Star.{Star}
use Rattle.c_tree.specs.declared.types.TypeName.{TypeName}
use Rattle.c_tree.specs.Slots.{Locals, is_automatic, slots, slot_named}
use Rattle.checked_tree.specs.declared.shapes.Shape.{Shape}
use Rattle.checked_tree.specs.declared.shapes.Shape.TheVariants as shape
use Rattle.deputy_types.specs.declared.sibling.Unannotated.{Unannotated}
use Rattle.deputy_types.specs.declared.sibling.Unannotated.TheVariants.{Safe, Hidden}
use Rattle.deputy_rules.specs.declared.signature.Returned.{Returned}
use Rattle.deputy_rules.specs.declared.signature.Returned.TheVariants as returned
use Rattle.deputy_rules.specs.declared.signature.Signature.{Signature}
use Rattle.deputy_rules.specs.Agreement.{agree, parameter_place, same_place}
use Rattle.deputy_rules.specs.Calls.{function_number}
use Rattle.deputy_types.specs.Declarations.{declared_shape, declared_role}
use Rattle.checked_tree.specs.KernelTable.{kernel_named}
use Rattle.deputy_types.specs.Options.{and_then}
use Rattle.deputy_types.specs.declared.siblings.Siblings.{Siblings}
use Rattle.deputy_types.specs.Siblings.{no_siblings, sibling_number, with_sibling}
use Rattle.deputy_types.specs.Table.{Table, global}
use Rattle.deputy_types.specs.declared.types.Types.{Types}

-- what annotations of parameters can name: the parameters
abbrev pub with_parameters : Types → List Param → Siblings → Siblings
with_parameters types [] siblings = siblings
with_parameters types (p ∷ ps) siblings =
    with_parameters types ps (with_sibling siblings (record { part = None; name = p.name }) (declared_role types false false p.type_name))

unfoldable pub parameter_siblings : Types → List Param → Siblings
parameter_siblings types ps = with_parameters types ps no_siblings

-- what annotations of locals can name: parameters and locals
abbrev pub with_locals : Types → List Local → Siblings → Siblings
with_locals types [] siblings = siblings
with_locals types (l ∷ ls) siblings =
    with_locals types ls (with_sibling siblings (record { part = None; name = l.name }) (declared_role types false false l.type_name))

unfoldable pub local_siblings : Types → Function → Siblings
local_siblings types f = with_locals types f.locals (parameter_siblings types f.head.params)

-- integers and pointers are what a slot can hold
unfoldable pub value_shape : Shape → Option Shape
value_shape (shape.Int s) = Some (shape.Int s)
value_shape (shape.Pointer elem b) = Some (shape.Pointer elem b)
value_shape (shape.Struct k) = None
value_shape shape.Address = None

-- the shape that a type name declares for the sibling with this name, if it is that of an integer or a pointer
unfoldable pub named_shape : Table → Unannotated → Siblings → List ℕ → TypeName → Option Shape
named_shape t plain siblings name type_name =
    and_then (sibling_number siblings name) (λ place. and_then (declared_shape t plain siblings place type_name) value_shape)

-- the shape of a parameter, and of a local
abbrev pub parameter_shape : Table → Siblings → Param → Option Shape
parameter_shape t siblings p = named_shape t Safe siblings p.name p.type_name

abbrev pub local_shape : Table → Siblings → Local → Option Shape
local_shape t siblings l = named_shape t Hidden siblings l.name l.type_name

unfoldable pub parameter_shapes : Table → List Param → List (Option Shape)
parameter_shapes t ps = map (parameter_shape t (parameter_siblings t.types ps)) ps

-- two addresses more for each automatic pointer
abbrev pub with_hidden : List Local → List (Option Shape) → List (Option Shape)
with_hidden [] shapes = shapes
with_hidden (l ∷ ls) shapes = with_hidden ls (if is_automatic l then shapes ++ (Some shape.Address ∷ Some shape.Address ∷ []) else shapes)

-- the shapes of a function's slots: parameters, locals, then the hidden bounds of the locals
unfoldable pub slot_shapes : Table → Function → List (Option Shape)
slot_shapes t f =
    with_hidden f.locals (parameter_shapes t f.head.params ++ map (local_shape t (local_siblings t.types f)) f.locals)

-- what a result of this shape is
abbrev pub value_result : Option Shape → Option Returned
value_result s = option_map returned.Value (and_then s value_shape)

-- an integer or a pointer with a constant annotation
abbrev pub base_result : Table → Base → List Star → Option Returned
base_result t b stars = value_result (declared_shape t Safe no_siblings 0 (record { base = b; stars = stars }))

-- a result: `void`, or an integer or a pointer with a constant annotation
abbrev pub result_by : Table → ResultBase → List Star → Option Returned
result_by t result.Void [] = Some returned.Nothing
result_by t result.Void (s ∷ ss) = None
result_by t (result.Base b) stars = base_result t b stars

unfoldable pub result_of : Table → Head → Option Returned
result_of t h = result_by t h.result h.stars

-- the i-th shape is there
abbrev pub is_declared : List (Option Shape) → ℕ → Bool
is_declared shapes i = is_some (option_flatten (slice_get shapes i))

-- the i-th parameter of a head stands: it is the first that has its name, and its shape is derived
unfoldable pub head_parameter_stands : List Param → List (Option Shape) → ℕ → List ℕ → Bool
head_parameter_stands params shapes i name = same_place (parameter_place params name) (Some i) && is_declared shapes i

-- the line of the first parameter of a head, from the i-th on, that does not stand
abbrev pub wrong_head_parameter : List Param → List (Option Shape) → ℕ → List Param → Option ℕ
wrong_head_parameter params shapes i [] = None
wrong_head_parameter params shapes i (p ∷ ps) =
    if head_parameter_stands params shapes i p.name then wrong_head_parameter params shapes (i + 1) ps else Some p.line

unfoldable pub wrong_in_head : List (Option Shape) → Head → Option ℕ
wrong_in_head shapes h = wrong_head_parameter h.params shapes 0 h.params

-- none of these shapes
abbrev pub no_shapes : List (Option Shape) → List (Option Shape)
no_shapes [] = []
no_shapes (s ∷ shapes) = None ∷ no_shapes shapes

-- what calls see of the parameters: their shapes where each stands. Where one does not, they see none, so that no call is derived
unfoldable pub seen_shapes : List (Option Shape) → Head → List (Option Shape)
seen_shapes shapes h = if is_none (wrong_in_head shapes h) then shapes else no_shapes shapes

-- what calls see of a function
unfoldable pub signature_of : Table → Function → Signature
signature_of t f =
    record { name = f.head.name; params = seen_shapes (parameter_shapes t f.head.params) f.head; result = result_of t f.head }

-- a text, as its functions see it: its types, its items, and its functions with bodies
pub record SeenText : Type 0 where
  pub table : Table
  pub items : List Item
  pub functions : List Signature

-- the head that an item has
abbrev pub head_in : Item → Option Head
head_in (item.Struct s) = None
head_in (item.Global g) = None
head_in (item.Function f) = Some f.head
head_in (item.Prototype h) = Some h

abbrev pub is_named_head : List ℕ → Option Head → Bool
is_named_head name None = false
is_named_head name (Some h) = bytes_eq name h.name

-- an item with a head of this name
abbrev pub heads_name : List ℕ → Item → Bool
heads_name name i = is_named_head name (head_in i)

-- the first head with this name
unfoldable pub first_head : List Item → List ℕ → Option Head
first_head items name = and_then (position (heads_name name) items) (λ k. and_then (slice_get items k) head_in)

-- a head agrees with the first head of its name
abbrev pub agrees_with : List (List ℕ) → Option Head → Head → Bool
agrees_with structs None h = true
agrees_with structs (Some g) h = agree structs g h

-- a head stands: no kernel call and no global has its name, it agrees, and its result is derived
unfoldable pub head_stands : SeenText → Head → Bool
head_stands text h = is_none (kernel_named h.name) && (is_none (global text.table h.name)
    && (agrees_with text.table.types.structs (first_head text.items h.name) h && is_some (result_of text.table h)))

-- the head of the k-th function with a body stands: none before it has its name
unfoldable pub function_stands : SeenText → ℕ → Head → Bool
function_stands text k h = head_stands text h && same_place (function_number text.functions h.name) (Some k)

-- a function has at most 128 slots
unfoldable pub is_over : Function → Bool
is_over f = nat_lt 128 (length (slots f))

-- the i-th parameter or local stands: it is the first that has its name, and its shape is derived
unfoldable pub declaration_stands : Locals → List (Option Shape) → ℕ → List ℕ → Bool
declaration_stands locals shapes i name = same_place (slot_named locals name) (Some i) && is_declared shapes i

-- the line of the first parameter, from the i-th on, that does not stand
abbrev pub wrong_parameter : Locals → List (Option Shape) → ℕ → List Param → Option ℕ
wrong_parameter locals shapes i [] = None
wrong_parameter locals shapes i (p ∷ ps) =
    if declaration_stands locals shapes i p.name then wrong_parameter locals shapes (i + 1) ps else Some p.line

-- and of the first local
abbrev pub wrong_local : Locals → List (Option Shape) → ℕ → List Local → Option ℕ
wrong_local locals shapes i [] = None
wrong_local locals shapes i (l ∷ ls) =
    if declaration_stands locals shapes i l.name then wrong_local locals shapes (i + 1) ls else Some l.line

-- the one, or else the other
abbrev pub or_else : Option ℕ → Option ℕ → Option ℕ
or_else (Some n) other = Some n
or_else None other = other

-- the line of the first parameter or local of a function that does not stand
unfoldable pub wrong_declaration : Locals → List (Option Shape) → Function → Option ℕ
wrong_declaration locals shapes f =
    or_else (wrong_parameter locals shapes 0 f.head.params) (wrong_local locals shapes (length f.head.params) f.locals)
