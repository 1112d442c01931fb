-- The structs of a table are those that its text declares, and lie within one another.
use Rattle.std.proofs.Common.{◌≡◌, ℕ, zero, suc, ◌+◌, List, [], ◌∷◌, length, map, Option, Some, option_map, unwrap_or, slice_get, Result, Ok, IsOkAnd, refl, sym, ◌∙◌, ap, subst, arith}
use Rattle.std.proofs.lemmas.List.{length-map}
use Rattle.std.proofs.lemmas.Option.{slice_get-map}
use Rattle.c_tree.specs.declared.items.StructItem.{StructItem}
use Rattle.c_tree.specs.declared.items.Unit.{Unit as TextUnit}
use Rattle.checked_tree.specs.declared.shapes.StructShape.{StructShape}
use Rattle.deputy_types.specs.declared.extent.Extent.{Extent}
use Rattle.deputy_types.specs.declared.refusal.TypeRefusal.{TypeRefusal}
use Rattle.deputy_types.specs.declared.struct_names.StructNames.{StructNames}
use Rattle.deputy_types.specs.declared.types.Types.{Types}
use Rattle.deputy_types.specs.Extents.{AreExtents, no_extent}
use Rattle.deputy_types.specs.StructLaws.{IsLaidOut, IsStruct}
use Rattle.deputy_types.specs.StructLayout.{struct_laid}
use Rattle.deputy_types.specs.Table.{Table}
use Rattle.deputy_types.specs.UnitLayout.{IsDeclared, nothing_declared, no_structs, elem_shape, table_of, layout}
use Rattle.deputy_types.proofs.MembersLie.{laid_out-lies}
use Rattle.layout_laws.proofs.Nested.{nested}
use Rattle.deputy_types.specs.declared.laying.Laid.{Laid}
use Rattle.layout_laws.specs.StructTable.{struct_items, HasStruct, EachStructIsDeclared, StructsAreNested}
use Rattle.layout_laws.proofs.Declarations.{items_within}
use Rattle.layout_laws.proofs.Passes.{AreLaid, extents_of, shapes_of, names_of, passes}
use Rattle.layout_laws.proofs.Steps.{types_in, found_in, steps}
use Rattle.deputy_types.proofs.TypeExtents.{no_extent_is}

-- ---- one by one
pub laid_length : (types : Types) (extents : List Extent) (n : ℕ) (items : List StructItem) (laid : List Laid) → AreLaid types extents n items laid → length laid ≡ length items
laid_length types extents n [] [] h = refl
laid_length types extents n [] (l ∷ ls) h = absurd h
laid_length types extents n (s ∷ ss) [] h = absurd h
laid_length types extents n (s ∷ ss) (l ∷ ls) h = ap suc (laid_length types extents (n + 1) ss ls h.1)

-- the layout of a declaration, among those of all
pub record IsAmong (types : Types) (extents : List Extent) (number : ℕ) (s : StructItem) (laid : List Laid) (k : ℕ) : Type 0 where
  pub one : Laid
  pub at : slice_get laid k ≡ Some one
  pub is : struct_laid types extents number s ≡ Ok one

pub laid_at : (types : Types) (extents : List Extent) (n k : ℕ) (items : List StructItem) (laid : List Laid) (s : StructItem) → AreLaid types extents n items laid
    → slice_get items k ≡ Some s → IsAmong types extents (n + k) s laid k
laid_at types extents n k [] laid s h e = absurd cc
laid_at types extents n k (x ∷ xs) [] s h e = absurd h
laid_at types extents n zero (x ∷ xs) (l ∷ ls) s h e =
    let same : x ≡ s = cc in
    let zeroth : n ≡ n + 0 = omega arith in
    record { one = l; at = refl; is = subst (λ (m : ℕ). struct_laid types extents m s ≡ Ok l) zeroth (subst (λ (y : StructItem). struct_laid types extents n y ≡ Ok l) same h.0) }
laid_at types extents n (suc k) (x ∷ xs) (l ∷ ls) s h e =
    let r = laid_at types extents (n + 1) k xs ls s h.1 e in
    let next : n + 1 + k ≡ n + suc k = omega arith in
    record { one = r.one; at = r.at; is = subst (λ (m : ℕ). struct_laid types extents m s ≡ Ok r.one) next r.is }

-- a declaration has a layout where there is one with its number
pub item_at : (types : Types) (extents : List Extent) (n k : ℕ) (items : List StructItem) (laid : List Laid) (l : Laid) → AreLaid types extents n items laid
    → slice_get laid k ≡ Some l → (s : StructItem) × (slice_get items k ≡ Some s)
item_at types extents n k items [] l h e = absurd cc
item_at types extents n k [] (x ∷ xs) l h e = absurd h
item_at types extents n zero (s ∷ ss) (x ∷ xs) l h e = (s, refl)
item_at types extents n (suc k) (s ∷ ss) (x ∷ xs) l h e = item_at types extents (n + 1) k ss xs l h.1 e

-- ---- the structs of a table
-- the layouts of a text's structs, of which its table is made
pub record HasLayouts (u : TextUnit) (t : Table) : Type 0 where
  pub laid : List Laid
  pub types : t.types ≡ types_in u
  pub are : AreLaid (types_in u) t.extents 0 (struct_items u.items) laid
  pub within : AreExtents t.extents
  pub extents : t.extents ≡ extents_of laid
  pub shapes : t.structs ≡ shapes_of laid
  pub names : t.names ≡ names_of laid
  pub elems : t.elems ≡ map (elem_shape t.types.elements t.extents) t.types.elements

pub nothing_is_declared : IsDeclared nothing_declared
nothing_is_declared = record { extents = record { each = λ s. no_extent_is }; structs = omega arith; names = omega arith; blocks = omega arith }

pub layouts_of : (u : TextUnit) (t : Table) → layout u ≡ Ok t → HasLayouts u t
unfolding table_of
layouts_of u t h =
    let all = steps u t h in
    let both = passes (types_in u) (found_in u).ends nothing_declared all.declared no_structs all.structs u.items refl all.first all.second in
    let within = items_within (types_in u) (found_in u).ends nothing_declared u.items all.declared nothing_is_declared all.first in
    let now : Table = table_of (types_in u) all.declared all.image all.structs in
    let has : HasLayouts u now = record {
      laid = both.laid;
      types = refl;
      are = both.are;
      within = within.extents;
      extents = both.extents;
      shapes = both.shapes;
      names = both.names;
      elems = refl;
    } in
    subst (λ (x : Table). HasLayouts u x) all.is has

-- an element of a list that was made one by one
pub mapped : {X Y : Type 0} (f : X → Y) (ys : List Y) (xs : List X) (k : ℕ) (x : X) → ys ≡ map f xs → slice_get xs k ≡ Some x → slice_get ys k ≡ Some (f x)
mapped f ys xs k x e at = ap (λ l. slice_get l k) e ∙ (slice_get-map f xs k ∙ ap (option_map f) at)

-- and back
pub from_mapped : {X Y : Type 0} (f : X → Y) (xs : List X) (k : ℕ) (y : Y) → slice_get (map f xs) k ≡ Some y → (x : X) × (slice_get xs k ≡ Some x) × (f x ≡ y)
from_mapped f [] k y e = absurd cc
from_mapped f (x ∷ xs) zero y e = (x, refl, cc)
from_mapped f (x ∷ xs) (suc k) y e = from_mapped f xs k y e

ok_and : {A : Type 0} (r : Result A TypeRefusal) (P : A → Type 0) (a : A) → r ≡ Ok a → P a → IsOkAnd r P
ok_and {A = A} r P a e p = subst (λ (x : Result A TypeRefusal). IsOkAnd x P) (sym e) p

pub structs_declared : EachStructIsDeclared
structs_declared u t h =
    let all = layouts_of u t h in
    let count = laid_length (types_in u) t.extents 0 (struct_items u.items) all.laid all.are in
    record {
      structs = ap (λ (l : List StructShape). length l) all.shapes ∙ (length-map all.laid (λ (l : Laid). l.shape) ∙ count);
      names = ap (λ (l : List StructNames). length l) all.names ∙ (length-map all.laid (λ (l : Laid). l.names) ∙ count);
      extents = ap (λ (l : List Extent). length l) all.extents ∙ (length-map all.laid (λ (l : Laid). l.extent) ∙ count);
      each = λ number s at.
          let one = laid_at (types_in u) t.extents 0 number (struct_items u.items) all.laid s all.are at in
          let zeroth : 0 + number ≡ number = omega arith in
          let is : struct_laid (types_in u) t.extents number s ≡ Ok one.one = subst (λ (m : ℕ). struct_laid (types_in u) t.extents m s ≡ Ok one.one) zeroth one.is in
          let now : struct_laid t.types t.extents number s ≡ Ok one.one = subst (λ (x : Types). struct_laid x t.extents number s ≡ Ok one.one) (sym all.types) is in
          let there : HasStruct t number one.one.shape one.one.names one.one.extent = record {
            shape = mapped (λ (l : Laid). l.shape) t.structs all.laid number one.one all.shapes one.at;
            names = mapped (λ (l : Laid). l.names) t.names all.laid number one.one all.names one.at;
            extent = mapped (λ (l : Laid). l.extent) t.extents all.laid number one.one all.extents one.at;
          } in
          ok_and (struct_laid t.types t.extents number s) (λ (l : Laid). HasStruct t number l.shape l.names l.extent × IsLaidOut t.extents l) one.one now
          (there, laid_out-lies (types_in u) t.extents number s one.one all.within is);
    }

-- each struct of a table was laid out with the extents of all
pub is_struct : (u : TextUnit) (t : Table) (h : HasLayouts u t) (s : ℕ) (x : StructShape) → slice_get t.structs s ≡ Some x → IsStruct t.extents s x
is_struct u t h s x at =
    let listed : slice_get (shapes_of h.laid) s ≡ Some x = ap (λ (l : List StructShape). slice_get l s) (sym h.shapes) ∙ at in
    let one = from_mapped (λ (l : Laid). l.shape) h.laid s x listed in
    let declared = item_at (types_in u) t.extents 0 s (struct_items u.items) h.laid one.0 h.are one.1 in
    let again = laid_at (types_in u) t.extents 0 s (struct_items u.items) h.laid declared.0 h.are declared.1 in
    let same : again.one ≡ one.0 = let e : Some again.one ≡ Some one.0 = sym again.at ∙ one.1 in cc in
    let extent : slice_get t.extents s ≡ Some again.one.extent = mapped (λ (l : Laid). l.extent) t.extents h.laid s again.one h.extents again.at in
    record {
      laid = again.one;
      shape = ap (λ (l : Laid). l.shape) same ∙ one.2;
      extent = ap (λ (o : Option Extent). unwrap_or o no_extent) extent;
      lies = laid_out-lies (types_in u) t.extents (0 + s) declared.0 again.one h.within again.is;
    }

pub structs_nested : StructsAreNested
structs_nested u t h = nested t.extents t.structs (is_struct u t (layouts_of u t h))
