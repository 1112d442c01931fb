-- What stands before a result: steps that were taken one after another, none of which was refused.
use Rattle.std.proofs.Common.{◌≡◌, ℕ, nat_le, nat_lt, Bool, true, false, Option, Some, None, Result, Ok, Err, option_map, if◌then◌else◌, refl}
use Rattle.c_tree.specs.declared.limits.LimitKind.TheVariants as limit
use Rattle.deputy_types.specs.declared.refusal.TypeRefusal.{TypeRefusal}
use Rattle.deputy_types.specs.declared.refusal.TypeRefusal.TheVariants as refusal
use Rattle.deputy_types.specs.Options.{and_then}
use Rattle.deputy_types.specs.StructLayout.{and_ok, or_no_decl, unless, within_limits}

pub some_then : {A B : Type 0} (o : Option A) (f : A → Option B) (b : B) → and_then o f ≡ Some b → (a : A) × (o ≡ Some a) × (f a ≡ Some b)
some_then None f b h = absurd cc
some_then (Some a) f b h = (a, refl, h)

pub some_map : {A B : Type 0} (o : Option A) (f : A → B) (b : B) → option_map f o ≡ Some b → (a : A) × (o ≡ Some a) × (f a ≡ b)
some_map None f b h = absurd cc
some_map (Some a) f b h = (a, refl, cc)

pub if_some : {A : Type 0} (t : Bool) (x : Option A) (a : A) → (if t then x else None) ≡ Some a → x ≡ Some a
if_some true x a h = h
if_some false x a h = absurd cc

pub ok_then : {A B : Type 0} (r : Result A TypeRefusal) (f : A → Result B TypeRefusal) (b : B) → and_ok r f ≡ Ok b → (a : A) × (r ≡ Ok a) × (f a ≡ Ok b)
ok_then (Ok a) f b h = (a, refl, h)
ok_then (Err e) f b h = absurd cc

pub ok_declared : {A : Type 0} (line : ℕ) (o : Option A) (a : A) → or_no_decl line o ≡ Ok a → o ≡ Some a
ok_declared line None a h = absurd cc
ok_declared line (Some x) a h = cc

pub if_ok : {A : Type 0} (t : Bool) (r : Result A TypeRefusal) (e : TypeRefusal) (a : A) → (if t then r else Err e) ≡ Ok a → r ≡ Ok a
if_ok true r e a h = h
if_ok false r e a h = absurd cc

pub unless_ok : {A : Type 0} (o : Option TypeRefusal) (r : Result A TypeRefusal) (a : A) → unless o r ≡ Ok a → r ≡ Ok a
unless_ok None r a h = h
unless_ok (Some e) r a h = absurd cc

two_tests : (a b : Bool) (p q : TypeRefusal) (n out : ℕ) → (if a then Err p else (if b then Err q else Ok n)) ≡ Ok out → n ≡ out
two_tests true b p q n out h = absurd cc
two_tests false true p q n out h = absurd cc
two_tests false false p q n out h = cc

pub within_is : (line fields end out : ℕ) → within_limits line fields end ≡ Ok out → end ≡ out
unfolding within_limits
within_is line fields end out h = two_tests (nat_le 64 fields) (nat_lt 65536 end) (refusal.Limit line limit.Fields) (refusal.Limit line limit.Size) end out h
