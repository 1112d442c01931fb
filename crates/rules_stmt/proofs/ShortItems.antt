-- Each function of a short unit is short, and a function whose slots are few has few parameters.
use Rattle.std.proofs.Common.{◌<◌, ◌^◌, length, All, Contains, arith}
use Rattle.std.proofs.lemmas.List.Elements.{All-contains_itself}
use Rattle.c_tree.specs.declared.items.Function.{Function}
use Rattle.c_tree.specs.declared.items.Item.{Item}
use Rattle.c_tree.specs.declared.items.Item.TheVariants as item
use Rattle.c_tree.specs.declared.items.Unit.{Unit as TextUnit}
use Rattle.c_tree.specs.ShortUnit.{IsShortFunction, IsShortUnit}
use Rattle.c_tree.proofs.ShortParts.{function_short}
use Rattle.dep_infer.proofs.Counts.{short_slots}
use Rattle.rules_stmt.specs.Units.{IsShortItem}

item_short : (u : TextUnit) (i : Item) → IsShortUnit u → Contains u.items i → IsShortItem i
item_short u (item.Struct x) s c = tt
item_short u (item.Global x) s c = tt
item_short u (item.Function f) s c = function_short u f s c
item_short u (item.Prototype x) s c = tt

pub items_short : (u : TextUnit) → IsShortUnit u → All IsShortItem u.items
items_short u s i d lt = item_short u _ s (All-contains_itself u.items i d lt)

pub few_parameters : (f : Function) → IsShortFunction f → length f.head.params < 2 ^ 32
few_parameters f h = let few = short_slots f h in omega (arith, few)
