-- What is looked up by a name is what was declared with it, and nothing else has the name.
use Rattle.std.specs.Prelude.{◌≡◌, ℕ, ◌+◌, ◌-◌, ◌^◌, ◌<◌, List, length, Some, slice_get, is_some, Ok}
use Rattle.c_tree.specs.declared.items.GlobalItem.{GlobalItem}
use Rattle.c_tree.specs.declared.items.StructItem.{StructItem}
use Rattle.c_tree.specs.declared.items.Unit.{Unit as TextUnit}
use Rattle.deputy_types.specs.declared.table.GlobalPlace.{GlobalPlace}
use Rattle.deputy_types.specs.Table.{Table, structure, global, literal}
use Rattle.deputy_types.specs.UnitLayout.{layout}
use Rattle.layout_laws.specs.LoadImage.{global_items, text_strings}
use Rattle.layout_laws.specs.StructTable.{struct_items}

-- a declaration with this place among others, and this name
pub record IsDeclaredAt {X : Type 0} (declared : List X) (name_of : X → List ℕ) (k : ℕ) (name : List ℕ) : Type 0 where
  pub item : X
  pub at : slice_get declared k ≡ Some item
  pub named : name_of item ≡ name

-- the number of a struct's name is its place among the structs of the text, and no other struct has the name
pub record FindsStructs (t : Table) (structs : List StructItem) : Type 0 where
  pub found : (k : ℕ) (s : StructItem) → slice_get structs k ≡ Some s → structure t s.name ≡ Some k
  pub only : (name : List ℕ) (k : ℕ) → structure t name ≡ Some k → IsDeclaredAt structs (λ s. s.name) k name

abbrev pub EachStructIsFound : Type 0
EachStructIsFound = (u : TextUnit) (t : Table) → layout u ≡ Ok t → FindsStructs t (struct_items u.items)

-- the block of a global's name is its place among the globals of the text, it is an array where it was declared as one, and no other global
-- has the name
pub record FindsGlobals (t : Table) (globals : List GlobalItem) : Type 0 where
  pub names : length t.globals ≡ length globals
  pub found : (k : ℕ) (g : GlobalItem) → slice_get globals k ≡ Some g
      → global t g.declaration.name ≡ Some (record { block = k; array = is_some g.declaration.size })
  pub only : (name : List ℕ) (p : GlobalPlace) → global t name ≡ Some p → IsDeclaredAt globals (λ g. g.declaration.name) p.block name

-- a unit of less than 2^32 - 1 items: a text, whose bytes are fewer, has no other
abbrev pub EachGlobalIsFound : Type 0
EachGlobalIsFound = (u : TextUnit) (t : Table) → length u.items < 2 ^ 32 - 1 → layout u ≡ Ok t → FindsGlobals t (global_items u.items)

-- the k-th string has the block behind those of the globals and of the k strings before it, and there are no other strings
pub record FindsStrings (t : Table) (globals : List GlobalItem) (strings : List (List ℕ)) : Type 0 where
  pub found : (k : ℕ) → k < length strings → literal t k ≡ Some (length globals + k)
  pub only : (k n : ℕ) → literal t k ≡ Some n → (k < length strings) × (n ≡ length globals + k)

abbrev pub EachStringIsFound : Type 0
EachStringIsFound =
    (u : TextUnit) (t : Table) → length u.items < 2 ^ 32 - 1 → layout u ≡ Ok t → FindsStrings t (global_items u.items) (text_strings u)
