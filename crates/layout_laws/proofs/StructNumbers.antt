-- The number of a struct's name is its place among the structs of its text.
use Rattle.std.proofs.Common.{◌≡◌, ℕ, ◌+◌, ◌≤◌, Bool, true, false, List, [], ◌∷◌, length, Option, Some, None, slice_get, nat_le, if◌then◌else◌, Result, Ok, refl, sym, ◌∙◌, ap, subst, arith}
use Rattle.std.proofs.lemmas.Bool.{eqb-true}
use Rattle.c_tree.specs.declared.items.Item.{Item}
use Rattle.c_tree.specs.declared.items.Item.TheVariants as item
use Rattle.c_tree.specs.declared.items.StructItem.{StructItem}
use Rattle.deputy_types.specs.declared.extent.Extent.{Extent}
use Rattle.deputy_types.specs.declared.refusal.TypeRefusal.{TypeRefusal}
use Rattle.deputy_types.specs.declared.types.Types.{Types}
use Rattle.deputy_types.specs.Found.{with_name, struct_names}
use Rattle.deputy_types.specs.StructLayout.{is_number, head_of_struct, unless, laid_with, struct_siblings, struct_laid}
use Rattle.deputy_types.specs.Table.{structure}
use Rattle.deputy_types.specs.Types.{struct_number}
use Rattle.layout_laws.specs.Lookups.{EachStructIsFound}
use Rattle.layout_laws.specs.StructTable.{struct_items}
use Rattle.deputy_types.specs.declared.laying.Laid.{Laid}
use Rattle.deputy_types.proofs.DeclaredFacts.{with_name_length}
use Rattle.layout_laws.proofs.Places.{named_at, element_at}
use Rattle.layout_laws.proofs.Steps.{types_in}
use Rattle.layout_laws.proofs.StructsDeclared.{laid_at, layouts_of}

unless_none : {A : Type 0} (o : Option TypeRefusal) (r : Result A TypeRefusal) (a : A) → unless o r ≡ Ok a → o ≡ None
unless_none None r a h = refl
unless_none (Some e) r a h = absurd cc

pub number_found : (m : ℕ) (o : Option ℕ) → is_number m o ≡ true → o ≡ Some m
number_found m None h = absurd cc
number_found m (Some k) h = ap (λ (n : ℕ). Some n) (eqb-true k m h)

tested : (a b : Bool) (e f : TypeRefusal) → (if a then (if b then Some e else None) else Some f) ≡ None → a ≡ true
tested true b e f h = refl
tested false b e f h = absurd cc

-- a struct that was laid out with a number has it by its name
pub struct_has_number : (types : Types) (extents : List Extent) (number : ℕ) (s : StructItem) (laid : Laid) → struct_laid types extents number s ≡ Ok laid → struct_number types.structs s.name ≡ Some number
unfolding struct_laid head_of_struct
struct_has_number types extents number s laid h =
    let none = unless_none (head_of_struct types number s) (laid_with types extents number s.fields (struct_siblings types s.fields)) laid h in
    let known = tested (is_number number (struct_number types.structs s.name)) (nat_le 256 number) _ _ none in
    number_found number (struct_number types.structs s.name) known

-- there are no more names than structs
names_few : (items : List Item) (names : List (List ℕ)) → length (struct_names items names) ≤ length names + length (struct_items items)
names_few [] names = omega arith
names_few (item.Struct s ∷ xs) names =
    let rest = names_few xs (with_name names s.name) in
    let one = with_name_length names s.name in
    omega (arith, rest, one)
names_few (item.Global g ∷ xs) names = names_few xs names
names_few (item.Function f ∷ xs) names = names_few xs names
names_few (item.Prototype h ∷ xs) names = names_few xs names

pub structs_found : EachStructIsFound
structs_found u t h =
    let all = layouts_of u t h in
    let names : t.types.structs ≡ struct_names u.items [] = ap (λ (x : Types). x.structs) all.types in
    let few : length t.types.structs ≤ length (struct_items u.items) =
    subst (λ (l : List (List ℕ)). length l ≤ length (struct_items u.items)) (sym names) (let f = names_few u.items [] in omega (arith, f)) in
    let found : (k : ℕ) (s : StructItem) → slice_get (struct_items u.items) k ≡ Some s → structure t s.name ≡ Some k = λ k s at.
    let one = laid_at (types_in u) t.extents 0 k (struct_items u.items) all.laid s all.are at in
    let zeroth : 0 + k ≡ k = omega arith in
    ap (λ (l : List (List ℕ)). struct_number l s.name) names ∙ (struct_has_number (types_in u) t.extents (0 + k) s one.one one.is ∙ ap (λ (n : ℕ). Some n) zeroth) in
    record {
      found = found;
      only = λ name k is.
          let here = named_at t.types.structs name k is in
          let s = element_at (struct_items u.items) k (omega (arith, here.below, few)) in
          let there = named_at t.types.structs s.0.name k (found k s.0 s.1) in
          record { item = s.0; at = s.1; named = there.is ∙ sym here.is };
    }
