-- The second pass over the structs of a short unit refuses none.
use Rattle.std.proofs.Common.{◌≡◌, ℕ, ◌+◌, ◌≤◌, List, [], ◌∷◌, ◌++◌, length, Result, Ok, Err, IfOk, IsOkAnd, refl, sym, ap, ◌∙◌, subst, append_assoc}
use Rattle.std.proofs.lemmas.List.{append-nil, length_push}
use Rattle.c_tree.specs.declared.items.Item.{Item}
use Rattle.c_tree.specs.declared.items.Item.TheVariants as item
use Rattle.deputy_types.specs.declared.element.Element.{Element}
use Rattle.deputy_types.specs.declared.extent.Extent.{Extent}
use Rattle.deputy_types.specs.declared.laying.Laid.{Laid}
use Rattle.deputy_types.specs.declared.refusal.TypeRefusal.{TypeRefusal}
use Rattle.deputy_types.specs.declared.types.Types.{Types}
use Rattle.deputy_types.specs.declared.unit_items.Declared.{Declared}
use Rattle.deputy_types.specs.declared.unit_layout.Structs.{Structs}
use Rattle.deputy_types.specs.Extents.{key_extent}
use Rattle.deputy_types.specs.StructLayout.{and_ok, struct_laid}
use Rattle.deputy_types.specs.UnitLayout.{nothing_declared, strings_behind, with_global_shape, with_taken, with_item, with_items, with_laid, no_structs, structs_of}
use Rattle.deputy_types.proofs.Inversions.{ok_then}
use Rattle.deputy_types.proofs.TypeExtents.{key_is_extent}
use Rattle.layout_laws.proofs.Declarations.{adds_struct, adds_global, adds_body}
use Rattle.layout_laws.proofs.Passes.{agree}
use Rattle.light_checks.specs.SecondPass.{StructsAreLaidOutAgain}
use Rattle.light_checks.proofs.DeclaredUnits.{nothing_fine, AreReadableItems, items_fine}
use Rattle.light_checks.proofs.SecondLayouts.{struct_again}
use Rattle.light_checks.proofs.ShortUnits.{unit_readable}

-- what is declared adds extents at the end
abbrev Extends : Declared → Declared → Type 0
Extends d out = (more : List Extent) × (out.extents ≡ d.extents ++ more)

same_extents : (d next out : Declared) → next.extents ≡ d.extents → Extends next out → Extends d out
same_extents d next out e x = (x.0, x.1 ∙ ap (λ (l : List Extent). l ++ x.0) e)

global_keeps : (d next : Declared) (name : List ℕ) (g : _) → with_global_shape d name g ≡ next → next.extents ≡ d.extents
unfolding with_global_shape
global_keeps d next name g e = ap (λ (x : Declared). x.extents) (sym e)

items_extend : (types : Types) (ends : List ℕ) (d out : Declared) (items : List Item) → with_items types ends d items ≡ Ok out → Extends d out
unfolding with_item
items_extend types ends d out [] h = let e : d ≡ out = cc in ([], ap (λ (x : Declared). x.extents) (sym e) ∙ sym (append-nil d.extents))
items_extend types ends d out (item.Struct s ∷ xs) h =
    let a = ok_then (with_item types ends d (item.Struct s)) (λ next. with_items types ends next xs) out h in
    let one = adds_struct types d s a.0 a.1 in
    let rest = items_extend types ends a.0 out xs a.2 in
    let first : a.0.extents ≡ d.extents ++ one.laid.extent ∷ [] = ap (λ (x : Declared). x.extents) (sym one.next) in
    (one.laid.extent ∷ rest.0, rest.1 ∙ (ap (λ (l : List Extent). l ++ rest.0) first ∙ append_assoc d.extents (one.laid.extent ∷ []) rest.0))
items_extend types ends d out (item.Global g ∷ xs) h =
    let a = ok_then (with_item types ends d (item.Global g)) (λ next. with_items types ends next xs) out h in
    let one = adds_global types d g a.0 a.1 in
    same_extents d a.0 out (global_keeps d a.0 g.declaration.name one.shape one.next) (items_extend types ends a.0 out xs a.2)
items_extend types ends d out (item.Function f ∷ xs) h =
    let a = ok_then (with_item types ends d (item.Function f)) (λ next. with_items types ends next xs) out h in
    let one = adds_body d f.head.name f.head.line (strings_behind ends d) a.0 a.1 in
    same_extents d a.0 out (ap (λ (x : Declared). x.extents) (sym one.next)) (items_extend types ends a.0 out xs a.2)
items_extend types ends d out (item.Prototype p ∷ xs) h = same_extents d (with_taken d p.name) out refl (items_extend types ends (with_taken d p.name) out xs h)

module _ (types : Types) (ends : List ℕ) (out : Declared) (sizes : (key : Element) → (key_extent out.extents key).bytes ≤ 65536) where
  abbrev Again : Structs → List Item → Type 0
  Again structs items = (done : Structs) × (structs_of types out.extents structs items ≡ Ok done)

  items_again : (d : Declared) (structs : Structs) (items : List Item) → length d.extents ≡ length structs.shapes → AreReadableItems items → with_items types ends d items ≡ Ok out → Again structs items
  unfolding with_item
  items_again d structs [] same r h = (structs, refl)
  items_again d structs (item.Struct s ∷ xs) same r h =
      let a = ok_then (with_item types ends d (item.Struct s)) (λ next. with_items types ends next xs) out h in
      let one = adds_struct types d s a.0 a.1 in
      let rest = items_extend types ends a.0 out xs a.2 in
      let first : a.0.extents ≡ d.extents ++ one.laid.extent ∷ [] = ap (λ (x : Declared). x.extents) (sym one.next) in
      let all : out.extents ≡ d.extents ++ (one.laid.extent ∷ rest.0) = rest.1 ∙ (ap (λ (l : List Extent). l ++ rest.0) first ∙ append_assoc d.extents (one.laid.extent ∷ []) rest.0) in
      let again = struct_again types d.extents out.extents (length d.extents) s one.laid (agree d.extents out.extents (one.laid.extent ∷ rest.0) all) sizes r.0.0 one.is in
      let laid : struct_laid types out.extents (length structs.shapes) s ≡ Ok again.0 = subst (λ (n : ℕ). struct_laid types out.extents n s ≡ Ok again.0) same again.1 in
      let next : Structs = with_laid structs again.0 in
      let longs : length a.0.extents ≡ length next.shapes =
      ap (λ (l : List Extent). length l) first ∙ (length_push d.extents one.laid.extent ∙ (ap (λ (n : ℕ). n + 1) same ∙ sym (length_push structs.shapes again.0.shape))) in
      let more = items_again a.0 next xs longs r.1 a.2 in
      (more.0, ap (λ (q : Result Laid TypeRefusal). and_ok (and_ok q (λ laid. Ok (with_laid structs laid))) (λ next. structs_of types out.extents next xs)) laid ∙ more.1)
  items_again d structs (item.Global g ∷ xs) same r h =
      let a = ok_then (with_item types ends d (item.Global g)) (λ next. with_items types ends next xs) out h in
      let one = adds_global types d g a.0 a.1 in
      items_again a.0 structs xs (ap (λ (l : List Extent). length l) (global_keeps d a.0 g.declaration.name one.shape one.next) ∙ same) r.1 a.2
  items_again d structs (item.Function f ∷ xs) same r h =
      let a = ok_then (with_item types ends d (item.Function f)) (λ next. with_items types ends next xs) out h in
      let one = adds_body d f.head.name f.head.line (strings_behind ends d) a.0 a.1 in
      items_again a.0 structs xs (ap (λ (x : Declared). length x.extents) (sym one.next) ∙ same) r.1 a.2
  items_again d structs (item.Prototype p ∷ xs) same r h = items_again (with_taken d p.name) structs xs same r.1 h

pub laid_out_again : StructsAreLaidOutAgain
laid_out_again u types ends short = by (with_items types ends nothing_declared u.items) refl
  where
    is_ok : {A : Type 0} (r : Result A TypeRefusal) (a : A) → r ≡ Ok a → IsOkAnd r (λ x. Unit {0})
    is_ok r a h = subst (λ q. IsOkAnd q (λ x. Unit {0})) (sym h) tt

    by : (r : Result Declared TypeRefusal) → with_items types ends nothing_declared u.items ≡ r → IfOk r (λ d. IsOkAnd (structs_of types d.extents no_structs u.items) (λ all. Unit {0}))
    by (Err e) h = tt
    by (Ok d) h =
        let readable = unit_readable u short in
        let fine = items_fine types ends nothing_declared d u.items nothing_fine readable h in
        let again = items_again types ends d (λ key. (key_is_extent d.extents key fine.extents).bytes) nothing_declared no_structs u.items refl readable h in
        is_ok (structs_of types d.extents no_structs u.items) again.0 again.1
