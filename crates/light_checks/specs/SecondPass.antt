-- Structs are laid out twice, with the extents of those before them and with those of all. In a short unit the second time refuses none
-- that the first laid out.
use Rattle.std.specs.Prelude.{ℕ, List, IfOk, IsOkAnd}
use Rattle.c_tree.specs.declared.items.Unit.{Unit as TextUnit}
use Rattle.c_tree.specs.ShortUnit.{IsShortUnit}
use Rattle.deputy_types.specs.declared.types.Types.{Types}
use Rattle.deputy_types.specs.UnitLayout.{nothing_declared, with_items, no_structs, structs_of}

abbrev pub StructsAreLaidOutAgain : Type 0
StructsAreLaidOutAgain =
    (u : TextUnit) (types : Types) (ends : List ℕ) → IsShortUnit u
    → IfOk (with_items types ends nothing_declared u.items) (λ d. IsOkAnd (structs_of types d.extents no_structs u.items) (λ all. Unit {0}))
