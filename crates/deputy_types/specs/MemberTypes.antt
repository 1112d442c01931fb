-- What the rules of expressions look up of a struct's members beside their shapes: which are arrays, and their types.
use Rattle.std.specs.Prelude.{Bool, false, List, [], ◌∷◌, ◌++◌, is_some, Option}
use Rattle.c_tree.specs.declared.items.Arm.{Arm}
use Rattle.c_tree.specs.declared.items.Field.{Field}
use Rattle.c_tree.specs.declared.items.Field.TheVariants as field
use Rattle.deputy_types.specs.declared.element.Element.{Element}
use Rattle.deputy_types.specs.declared.types.Types.{Types}
use Rattle.deputy_types.specs.Types.{type_key}

-- of the arms of a union: none is an array
abbrev pub arm_arrays : List Arm → List Bool
arm_arrays [] = []
arm_arrays (a ∷ arms) = false ∷ arm_arrays arms

-- of a field's members: whether each is an array
abbrev pub arrays_of : Field → List Bool
arrays_of (field.Plain line d) = is_some d.size ∷ []
arrays_of (field.Union line arms name) = arm_arrays arms

-- by member, in text order
abbrev pub member_arrays : List Field → List Bool
member_arrays [] = []
member_arrays (f ∷ fs) = arrays_of f ++ member_arrays fs

-- of the arms of a union: the type of each, where its annotation is constant
abbrev pub arm_keys : Types → List Arm → List (Option Element)
arm_keys types [] = []
arm_keys types (a ∷ arms) = type_key types a.type_name ∷ arm_keys types arms

-- of a field's members: the type of each, of an array that of an element, where its annotation is constant
abbrev pub keys_of : Types → Field → List (Option Element)
keys_of types (field.Plain line d) = type_key types d.type_name ∷ []
keys_of types (field.Union line arms name) = arm_keys types arms

-- by member, in text order
abbrev pub member_keys : Types → List Field → List (Option Element)
member_keys types [] = []
member_keys types (f ∷ fs) = keys_of types f ++ member_keys types fs
