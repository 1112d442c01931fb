-- The slots of `int f(int *a, int n, int *n) { int *b; char c; int *safe d; int *safe *e; }`, worked out.
use Rattle.std.proofs.Common.{ℕ, ◌≡◌, true, false, List, [], ◌∷◌, Option, Some, None, codes, map, refl}
use Rattle.c_tree.specs.declared.items.Function.{Function}
use Rattle.c_tree.specs.declared.items.Local.{Local}
use Rattle.c_tree.specs.declared.items.Param.{Param}
use Rattle.c_tree.specs.declared.items.ResultBase.TheVariants as result
use Rattle.c_tree.specs.declared.types.Annotation.{Annotation}
use Rattle.c_tree.specs.declared.types.Annotation.TheVariants as annotation
use Rattle.c_tree.specs.declared.types.Base.{Base}
use Rattle.c_tree.specs.declared.types.Base.TheVariants as base
use Rattle.c_tree.specs.declared.types.Star.{Star}
use Rattle.c_tree.specs.declared.types.TypeName.{TypeName}
use Rattle.c_tree.specs.Slots.{Slot, parameter, local, low_bound, high_bound, is_automatic, slots, locals_of, slot_named, hidden_slot}

abbrev star : Star
star = record { annotation = None }

abbrev safe : Star
safe = record { annotation = Some annotation.Safe }

abbrev typed : Base → List Star → TypeName
typed b ss = record { base = b; stars = ss }

abbrev a : Param
a = record { line = 1; type_name = typed base.Int (star ∷ []); name = codes "a" }

abbrev n : Param
n = record { line = 1; type_name = typed base.Int []; name = codes "n" }

abbrev n_again : Param
n_again = record { line = 1; type_name = typed base.Int (star ∷ []); name = codes "n" }

abbrev b : Local
b = record { line = 2; type_name = typed base.Int (star ∷ []); name = codes "b" }

abbrev c : Local
c = record { line = 3; type_name = typed base.Char []; name = codes "c" }

abbrev d : Local
d = record { line = 4; type_name = typed base.Int (safe ∷ []); name = codes "d" }

abbrev e : Local
e = record { line = 5; type_name = typed base.Int (safe ∷ star ∷ []); name = codes "e" }

abbrev f : Function
f = record {
  head = record { line = 1; is_static = false; result = result.Base base.Int; stars = []; name = codes "f"; written_void = false; params = a ∷ n ∷ n_again ∷ [] };
  locals = b ∷ c ∷ d ∷ e ∷ [];
  body = [];
  end = 6;
}

-- the last star counts, and of a local alone
automatic_locals : map is_automatic f.locals ≡ true ∷ false ∷ false ∷ true ∷ []
automatic_locals = refl

its_slots : slots f ≡ parameter a ∷ parameter n ∷ parameter n_again ∷ local b ∷ local c ∷ local d ∷ local e ∷ low_bound b ∷ high_bound b ∷ low_bound e ∷ high_bound e ∷ []
its_slots = refl

slot_of_a_local : slot_named (locals_of f) (codes "d") ≡ Some 5
unfolding slot_named
slot_of_a_local = refl

first_of_two : slot_named (locals_of f) (codes "n") ≡ Some 1
unfolding slot_named
first_of_two = refl

no_such_name : slot_named (locals_of f) (codes "x") ≡ None
unfolding slot_named
no_such_name = refl

hidden_of_each : map (hidden_slot (locals_of f)) (0 ∷ 1 ∷ 2 ∷ 3 ∷ 4 ∷ 5 ∷ 6 ∷ 7 ∷ 8 ∷ []) ≡ None ∷ None ∷ None ∷ Some 7 ∷ None ∷ None ∷ Some 9 ∷ None ∷ None ∷ []
unfolding hidden_slot
hidden_of_each = refl
