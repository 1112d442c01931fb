-- What stands behind a table: the steps that were taken one after another, none of which was refused.
use Rattle.std.proofs.Common.{◌≡◌, Bool, true, false, [], Result, Ok, Err, if◌then◌else◌, refl}
use Rattle.c_tree.specs.declared.items.Unit.{Unit as TextUnit}
use Rattle.deputy_types.specs.declared.found.Found.{Found}
use Rattle.deputy_types.specs.declared.refusal.TypeRefusal.{TypeRefusal}
use Rattle.deputy_types.specs.declared.types.Types.{Types}
use Rattle.deputy_types.specs.Found.{first_found, found_items, struct_names}
use Rattle.deputy_types.specs.StructLayout.{and_ok}
use Rattle.deputy_types.specs.Table.{Table}
use Rattle.deputy_types.specs.UnitLayout.{nothing_declared, with_items, image_of, no_structs, structs_of, table_of, table_behind, table_with, layout}
use Rattle.deputy_types.proofs.Inversions.{ok_then}
use Rattle.deputy_types.specs.declared.load_image.Image.{Image}
use Rattle.deputy_types.specs.declared.unit_items.Declared.{Declared}
use Rattle.deputy_types.specs.declared.unit_layout.Structs.{Structs}

-- what a test refuses was not so
pub record Passed {A : Type 0} (b : Bool) (r : Result A TypeRefusal) (a : A) : Type 0 where
  pub test : b ≡ false
  pub rest : r ≡ Ok a

pub else_ok : {A : Type 0} (t : Bool) (r : Result A TypeRefusal) (e : TypeRefusal) (a : A) → (if t then Err e else r) ≡ Ok a → Passed t r a
else_ok true r e a h = absurd cc
else_ok false r e a h = record { test = refl; rest = h }

-- the types of elements and the strings of a text, and its types
abbrev pub found_in : TextUnit → Found
found_in u = found_items (struct_names u.items []) u.items first_found

abbrev pub types_in : TextUnit → Types
types_in u = record { structs = struct_names u.items []; elements = (found_in u).elements }

-- the declarations, the load image and the structs of a table
pub record HasSteps (u : TextUnit) (t : Table) : Type 0 where
  pub declared : Declared
  pub first : with_items (types_in u) (found_in u).ends nothing_declared u.items ≡ Ok declared
  pub image : Image
  pub image_is : image_of declared (found_in u).strings ≡ Ok image
  pub structs : Structs
  pub second : structs_of (types_in u) declared.extents no_structs u.items ≡ Ok structs
  pub is : table_of (types_in u) declared image structs ≡ t

pub steps : (u : TextUnit) (t : Table) → layout u ≡ Ok t → HasSteps u t
unfolding layout table_with table_behind
steps u t h =
    let types : Types = types_in u in
    let f : Found = found_in u in
    let a = ok_then (with_items types f.ends nothing_declared u.items) (table_behind types f.strings u.items) t h in
    let b = ok_then (image_of a.0 f.strings) (λ image. and_ok (structs_of types a.0.extents no_structs u.items) (λ structs. Ok (table_of types a.0 image structs))) t a.2 in
    let c = ok_then (structs_of types a.0.extents no_structs u.items) (λ structs. Ok (table_of types a.0 b.0 structs)) t b.2 in
    record { declared = a.0; first = a.1; image = b.0; image_is = b.1; structs = c.0; second = c.1; is = cc }
