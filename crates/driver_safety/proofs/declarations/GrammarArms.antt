-- Each union of a text has an arm, since the grammar asks for one.
use Rattle.std.proofs.Common.{◌<◌, List, ◌∷◌, length, arith}
use Rattle.c_tree.specs.ItemGrammar.{FieldAt, plain, union, StructAt, struct, ItemAt, struct_item, global_item, function_item, prototype}
use Rattle.c_tree.specs.Reading.{Each, each_end, each_more}
use Rattle.c_tree.specs.declared.items.Field.{Field}
use Rattle.c_tree.specs.declared.items.Item.{Item}
use Rattle.c_tree.specs.declared.items.StructItem.{StructItem}
use Rattle.c_tree.specs.declared.words.Token.{Token}
use Rattle.driver_safety.specs.UnionArms.{HasArms, HaveArms, ItemHasArms, ItemsHaveArms, EachReadUnitHasArms}

some_arms : {A : Type 0} (x : A) (xs : List A) → 0 < length (x ∷ xs)
some_arms x xs = omega arith

field_has : {w v : List Token} {x : Field} → FieldAt w v x → HasArms x
field_has (plain d e) = tt
field_has (union {x = x} {xs = xs} a b c d e f g) = some_arms x xs

fields_have : {w v : List Token} {xs : List Field} → Each FieldAt w v xs → HaveArms xs
fields_have each_end = tt
fields_have (each_more f fs) = (field_has f, fields_have fs)

struct_has : {w v : List Token} {s : StructItem} → StructAt w v s → HaveArms s.fields
struct_has (struct a b c f fs d e) = (field_has f, fields_have fs)

item_has : {w v : List Token} {x : Item} → ItemAt w v x → ItemHasArms x
item_has (struct_item s) = struct_has s
item_has (global_item g) = tt
item_has (function_item f) = tt
item_has (prototype h e) = tt

items_have : {w v : List Token} {xs : List Item} → Each ItemAt w v xs → ItemsHaveArms xs
items_have each_end = tt
items_have (each_more i is) = (item_has i, items_have is)

pub each_unit_has : EachReadUnitHasArms
each_unit_has words u is = items_have is
