-- The declarations of a whole text in turn, its load image and its table of types, or the first refusal.
use Rattle.std.specs.Prelude.{◌≡◌, ℕ, ◌≤◌, ◌+◌, ◌-◌, ◌*◌, nat_lt, nat_le, Bool, true, false, not, ◌||◌, if◌then◌else◌, List, [], ◌∷◌, ◌++◌, length, map, replicate, ℤ, pos, Option, Some, None, is_some, option_map, unwrap_or, slice_get, bytes_eq, Result, Ok, Err}
use Rattle.std.specs.List.{list_any}
use Rattle.std.specs.Ordering.{int_eq}
use Rattle.c_tree.specs.declared.items.Const.{Const}
use Rattle.c_tree.specs.declared.items.Function.{Function}
use Rattle.c_tree.specs.declared.items.GlobalItem.{GlobalItem}
use Rattle.c_tree.specs.declared.items.Item.{Item}
use Rattle.c_tree.specs.declared.items.Item.TheVariants as item
use Rattle.c_tree.specs.declared.items.StructItem.{StructItem}
use Rattle.c_tree.specs.declared.items.Unit.{Unit as TextUnit}
use Rattle.c_tree.specs.declared.limits.LimitKind.TheVariants as limit
use Rattle.c_tree.specs.declared.types.Number.{Number}
use Rattle.checked_tree.specs.declared.shapes.Bounds.TheVariants as bounds
use Rattle.checked_tree.specs.declared.shapes.Shape.{Shape}
use Rattle.checked_tree.specs.declared.shapes.Shape.TheVariants as shape
use Rattle.checked_tree.specs.declared.units.ImageBlock.{ImageBlock}
use Rattle.checked_tree.specs.Numbers.{low_bits}
use Rattle.byte_memory.specs.Bytes.{low_bytes, zeros}
use Rattle.deputy_types.specs.declared.element.Element.{Element}
use Rattle.deputy_types.specs.declared.element.Element.TheVariants as element
use Rattle.deputy_types.specs.declared.extent.Extent.{Extent}
use Rattle.deputy_types.specs.declared.global.GlobalShape.{GlobalShape}
use Rattle.deputy_types.specs.declared.load_image.Image.{Image}
use Rattle.deputy_types.specs.declared.laying.Laid.{Laid}
use Rattle.deputy_types.specs.declared.refusal.TypeRefusal.{TypeRefusal}
use Rattle.deputy_types.specs.declared.refusal.TypeRefusal.TheVariants as refusal
use Rattle.deputy_types.specs.Declarations.{up_to}
use Rattle.deputy_types.specs.Extents.{key_extent, round_up_to, AreExtents}
use Rattle.deputy_types.specs.declared.found.Found.{Found}
use Rattle.deputy_types.specs.Found.{first_found, found_items, struct_names, with_name}
use Rattle.checked_tree.specs.KernelTable.{kernel_named}
use Rattle.deputy_types.specs.Options.{and_then}
use Rattle.deputy_types.specs.StructLayout.{and_ok, or_no_decl, element_count, const_value, struct_laid}
use Rattle.deputy_types.specs.Table.{Table, elem_size}
use Rattle.deputy_types.specs.declared.types.Types.{Types}
use Rattle.deputy_types.specs.declared.unit_items.Declared.{Declared}
use Rattle.deputy_types.specs.declared.unit_layout.Structs.{Structs}
use Rattle.deputy_types.specs.Types.{element_number, type_key}

-- what holds of the declarations so far: within the limits, each number has room
pub record IsDeclared (d : Declared) : Type 0 where
  pub extents : AreExtents d.extents
  pub structs : length d.extents ≤ 256
  pub names : length d.names ≤ length d.globals
  pub blocks : length d.globals + length d.lines ≤ 1024

abbrev pub nothing_declared : Declared
nothing_declared = record { extents = []; taken = []; names = []; globals = []; bodies = 0; lines = [] }

-- a name that no global, no function and no prototype before has, and no kernel call
unfoldable pub is_new_global : Declared → List ℕ → Bool
is_new_global d name = not (list_any (bytes_eq name) d.taken || is_some (kernel_named name))

-- what a global may begin with: nothing, or, where it is one integer, a number
unfoldable pub first_value : Element → Option Number → Option Const → Option ℤ
first_value key size None = Some (pos 0)
first_value (element.Int scalar) None (Some c) = Some (const_value c)
first_value key size (Some c) = None

-- a type of which there can be a global behind so many structs
abbrev pub if_declared : ℕ → Element → Option Element
if_declared structs (element.Int scalar) = Some (element.Int scalar)
if_declared structs (element.Struct s) = if nat_lt s structs then Some (element.Struct s) else None
if_declared structs (element.Sentinel n) = Some (element.Sentinel n)
if_declared structs (element.Nullterm n) = Some (element.Nullterm n)
if_declared structs (element.Count n k) = Some (element.Count n k)

-- a global of a type
abbrev pub global_of : Types → Declared → GlobalItem → Element → Option GlobalShape
global_of types d g key = and_then (element_number types.elements key) (λ elem. and_then (element_count g.declaration.size)
    (λ count. option_map (λ value. record { line = g.line; elem = elem; count = count; size = (key_extent d.extents key).bytes; array = is_some g.declaration.size; value = value })
    (first_value key g.declaration.size g.value)))

-- a global, where it meets the rules
unfoldable pub global_declared : Types → Declared → GlobalItem → Option GlobalShape
global_declared types d g = if is_new_global d g.declaration.name
    then and_then (and_then (type_key types g.declaration.type_name) (if_declared (length d.extents))) (global_of types d g) else None

-- with a global
unfoldable pub with_global_shape : Declared → List ℕ → GlobalShape → Declared
with_global_shape d name g = record { extents = d.extents; taken = with_name d.taken name; names = with_name d.names name; globals = d.globals ++ g ∷ []; bodies = d.bodies; lines = d.lines }

-- the same within the limit on globals and strings together
unfoldable pub with_global : Types → Declared → GlobalItem → Result Declared TypeRefusal
with_global types d g = and_ok (or_no_decl g.line (global_declared types d g))
    (λ x. if nat_le 1024 (length d.globals + length d.lines) then Err (refusal.Limit g.line limit.Globals) else Ok (with_global_shape d g.declaration.name x))

-- with a struct
unfoldable pub with_struct : Types → Declared → StructItem → Result Declared TypeRefusal
with_struct types d s = and_ok (struct_laid types d.extents (length d.extents) s)
    (λ laid. Ok (record { extents = d.extents ++ laid.extent ∷ []; taken = d.taken; names = d.names; globals = d.globals; bodies = d.bodies; lines = d.lines }))

-- a function's name is taken
abbrev pub with_taken : Declared → List ℕ → Declared
with_taken d name = record { extents = d.extents; taken = with_name d.taken name; names = d.names; globals = d.globals; bodies = d.bodies; lines = d.lines }

-- with a body on this line, behind which this many strings stand
abbrev pub with_body : Declared → List ℕ → ℕ → ℕ → Declared
with_body d name line strings = record {
  extents = d.extents;
  taken = with_name d.taken name;
  names = d.names;
  globals = d.globals;
  bodies = d.bodies + 1;
  lines = d.lines ++ replicate (strings - length d.lines) line;
}

-- the functions with bodies, in text order
abbrev pub functions_of : List Item → List Function
functions_of [] = []
functions_of (item.Struct s ∷ items) = functions_of items
functions_of (item.Global g ∷ items) = functions_of items
functions_of (item.Function f ∷ items) = f ∷ functions_of items
functions_of (item.Prototype h ∷ items) = functions_of items

-- with a function, behind which this many strings stand: the limits on bodies, and on globals and strings
unfoldable pub with_function : Declared → List ℕ → ℕ → ℕ → Result Declared TypeRefusal
with_function d name line strings = if nat_le 4096 d.bodies then Err (refusal.Limit line limit.Functions) else
    if nat_lt 1024 (length d.globals + strings) then Err (refusal.Limit line limit.Globals) else Ok (with_body d name line strings)

-- how many strings stand before the end of the next function
abbrev pub strings_behind : List ℕ → Declared → ℕ
strings_behind ends d = unwrap_or (slice_get ends d.bodies) 0

-- with an item
unfoldable pub with_item : Types → List ℕ → Declared → Item → Result Declared TypeRefusal
with_item types ends d (item.Struct s) = with_struct types d s
with_item types ends d (item.Global g) = with_global types d g
with_item types ends d (item.Function f) = with_function d f.head.name f.head.line (strings_behind ends d)
with_item types ends d (item.Prototype h) = Ok (with_taken d h.name)

-- with items, up to the first that is refused
abbrev pub with_items : Types → List ℕ → Declared → List Item → Result Declared TypeRefusal
with_items types ends d [] = Ok d
with_items types ends d (x ∷ xs) = and_ok (with_item types ends d x) (λ next. with_items types ends next xs)

-- a block that ends within the limit
unfoldable pub image_end : ℕ → ℕ → ℕ → Result ℕ TypeRefusal
image_end line base bytes = if nat_lt 524288 (base + bytes) then Err (refusal.Limit line limit.Image) else Ok (base + bytes)

-- what a global holds at first: its number in little endian, converted to its type, or zeros
unfoldable pub first_bytes : GlobalShape → List ℕ
first_bytes g = if int_eq g.value (pos 0) then zeros (g.count * g.size) else low_bytes g.size (low_bits 32 g.value)

-- the end of the last block of the load image so far is within the limit
pub record IsImage (image : Image) : Type 0 where
  pub end : image.end ≤ 524288

-- the base of the next block
abbrev pub next_base : Image → ℕ
next_base image = round_up_to 16 image.end

-- with a block, which ends there
abbrev pub with_block : Image → ImageBlock → ℕ → Image
with_block image block end = record { blocks = image.blocks ++ block ∷ []; end = end }

-- the block of a global at this base
abbrev pub global_block : GlobalShape → ℕ → ImageBlock
global_block g base = record { base = base; size = g.count * g.size; elem = g.elem; count = g.count; nullterm = false; bytes = first_bytes g }

-- with the block of a global
unfoldable pub with_global_block : Image → GlobalShape → Result Image TypeRefusal
with_global_block image g = and_ok (image_end g.line (next_base image) (g.count * g.size)) (λ end. Ok (with_block image (global_block g (next_base image)) end))

abbrev pub with_global_blocks : Image → List GlobalShape → Result Image TypeRefusal
with_global_blocks image [] = Ok image
with_global_blocks image (g ∷ gs) = and_ok (with_global_block image g) (λ next. with_global_blocks next gs)

-- the block of a string at this base: its bytes and a 0, of the element `char`
abbrev pub string_block : List ℕ → ℕ → ImageBlock
string_block text base = record { base = base; size = length text + 1; elem = 0; count = length text + 1; nullterm = true; bytes = text ++ 0 ∷ [] }

-- with the block of a string in a function on this line
unfoldable pub with_string_block : Image → ℕ → List ℕ → Result Image TypeRefusal
with_string_block image line text = and_ok (image_end line (next_base image) (length text + 1)) (λ end. Ok (with_block image (string_block text (next_base image)) end))

abbrev pub with_string_blocks : Image → List ℕ → List (List ℕ) → Result Image TypeRefusal
with_string_blocks image [] texts = Ok image
with_string_blocks image (line ∷ lines) [] = Ok image
with_string_blocks image (line ∷ lines) (text ∷ texts) = and_ok (with_string_block image line text) (λ next. with_string_blocks next lines texts)

-- no blocks; the bytes 0 to 15 are never granted
abbrev pub empty_image : Image
empty_image = record { blocks = []; end = 16 }

-- the load image of a text
unfoldable pub image_of : Declared → List (List ℕ) → Result Image TypeRefusal
image_of d strings = and_ok (with_global_blocks empty_image d.globals) (λ image. with_string_blocks image d.lines strings)

-- the structs, laid out again when the extents of all are known: a bound may count elements of a later struct
abbrev pub with_laid : Structs → Laid → Structs
with_laid structs laid = record { shapes = structs.shapes ++ laid.shape ∷ []; names = structs.names ++ laid.names ∷ [] }

abbrev pub no_structs : Structs
no_structs = record { shapes = []; names = [] }

-- with the struct that is declared next
abbrev pub with_next_struct : Types → List Extent → Structs → StructItem → Result Structs TypeRefusal
with_next_struct types extents structs s = and_ok (struct_laid types extents (length structs.shapes) s) (λ laid. Ok (with_laid structs laid))

-- with an item
abbrev pub with_item_struct : Types → List Extent → Structs → Item → Result Structs TypeRefusal
with_item_struct types extents structs (item.Struct s) = with_next_struct types extents structs s
with_item_struct types extents structs (item.Global g) = Ok structs
with_item_struct types extents structs (item.Function f) = Ok structs
with_item_struct types extents structs (item.Prototype h) = Ok structs

abbrev pub structs_of : Types → List Extent → Structs → List Item → Result Structs TypeRefusal
structs_of types extents structs [] = Ok structs
structs_of types extents structs (x ∷ items) = and_ok (with_item_struct types extents structs x) (λ next. structs_of types extents next items)

-- the shape of an element
unfoldable pub elem_shape : List Element → List Extent → Element → Shape
elem_shape elements extents (element.Int scalar) = shape.Int scalar
elem_shape elements extents (element.Struct s) = shape.Struct s
elem_shape elements extents (element.Sentinel n) = shape.Pointer n (up_to 0 (pos 0))
elem_shape elements extents (element.Nullterm n) = shape.Pointer n bounds.Nullterm
elem_shape elements extents (element.Count n k) = shape.Pointer n (up_to (unwrap_or (elem_size elements extents n) 0) k)

-- the types of a text
unfoldable pub types_of : List Item → Types
types_of items = record { structs = struct_names items []; elements = (found_items (struct_names items []) items first_found).elements }

-- the table of declarations, image and structs, of these shapes of elements, with whether each global is an array
abbrev pub table_of_parts : Types → Declared → Image → Structs → List Shape → List Bool → Table
table_of_parts types d image structs elems arrays = record {
  types = types;
  extents = d.extents;
  elems = elems;
  structs = structs.shapes;
  names = structs.names;
  image = image.blocks;
  globals = d.names;
  arrays = arrays;
  literals = length d.lines;
}

-- the table of declarations, image and structs
unfoldable pub table_of : Types → Declared → Image → Structs → Table
table_of types d image structs =
    table_of_parts types d image structs (map (elem_shape types.elements d.extents) types.elements) (map (λ g. g.array) d.globals)

-- the structs, the image and the table behind the declarations
unfoldable pub table_behind : Types → List (List ℕ) → List Item → Declared → Result Table TypeRefusal
table_behind types strings items d = and_ok (image_of d strings)
    (λ image. and_ok (structs_of types d.extents no_structs items) (λ structs. Ok (table_of types d image structs)))

-- the table of items, with what was found in them
unfoldable pub table_with : List (List ℕ) → Found → List Item → Result Table TypeRefusal
table_with structs f items = and_ok (with_items (record { structs = structs; elements = f.elements }) f.ends nothing_declared items)
    (table_behind (record { structs = structs; elements = f.elements }) f.strings items)

-- the table of a text, or its first refusal
unfoldable pub layout : TextUnit → Result Table TypeRefusal
layout u = table_with (struct_names u.items []) (found_items (struct_names u.items []) u.items first_found) u.items

-- what a call that answers a table of types ensures, want of memory aside
abbrev pub IsAnswer : {A : Type 0} → Result A TypeRefusal → Result A TypeRefusal → Type 0
IsAnswer outcome (Ok a) = outcome ≡ Ok a
IsAnswer outcome (Err e) = (e ≡ refusal.Memory → ⊥) → outcome ≡ Err e
