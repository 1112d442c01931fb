-- The two passes over a text's structs agree: each is laid out first with the extents of those before it, and again with those of all, and has the same
-- extent both times.
use Rattle.std.proofs.Common.{◌≡◌, ℕ, ◌+◌, ◌<◌, List, [], ◌∷◌, ◌++◌, length, map, Ok, refl, sym, ◌∙◌, ap, subst, append_assoc}
use Rattle.std.proofs.lemmas.List.{append-nil, get_or_append_left, length_push}
use Rattle.std.proofs.lemmas.Option.{unwrap_or-slice_get}
use Rattle.c_tree.specs.declared.items.Item.{Item}
use Rattle.c_tree.specs.declared.items.Item.TheVariants as item
use Rattle.c_tree.specs.declared.items.StructItem.{StructItem}
use Rattle.checked_tree.specs.declared.shapes.StructShape.{StructShape}
use Rattle.deputy_types.specs.declared.extent.Extent.{Extent}
use Rattle.deputy_types.specs.declared.struct_names.StructNames.{StructNames}
use Rattle.deputy_types.specs.declared.types.Types.{Types}
use Rattle.deputy_types.specs.Extents.{no_extent, struct_extent}
use Rattle.deputy_types.specs.StructLaws.{AgreeBelow}
use Rattle.deputy_types.specs.StructLayout.{struct_laid}
use Rattle.deputy_types.specs.UnitLayout.{strings_behind, with_global_shape, with_taken, with_item, with_items, with_laid, with_next_struct, structs_of}
use Rattle.deputy_types.proofs.Inversions.{ok_then}
use Rattle.layout_laws.proofs.SameExtent.{same_extent}
use Rattle.deputy_types.specs.declared.laying.Laid.{Laid}
use Rattle.deputy_types.specs.declared.unit_items.Declared.{Declared}
use Rattle.deputy_types.specs.declared.unit_layout.Structs.{Structs}
use Rattle.layout_laws.specs.StructTable.{struct_items}
use Rattle.layout_laws.proofs.Declarations.{adds_struct, adds_global, adds_body}

-- structs, the first of which has the number n, are the layouts of these declarations, one by one
abbrev pub AreLaid : Types → List Extent → ℕ → List StructItem → List Laid → Type 0
AreLaid types extents n [] [] = Unit {0}
AreLaid types extents n [] (laid ∷ more) = ⊥
AreLaid types extents n (s ∷ ss) [] = ⊥
AreLaid types extents n (s ∷ ss) (laid ∷ more) = (struct_laid types extents n s ≡ Ok laid) × AreLaid types extents (n + 1) ss more

abbrev pub extents_of : List Laid → List Extent
extents_of laid = map (λ (l : Laid). l.extent) laid

abbrev pub shapes_of : List Laid → List StructShape
shapes_of laid = map (λ (l : Laid). l.shape) laid

abbrev pub names_of : List Laid → List StructNames
names_of laid = map (λ (l : Laid). l.names) laid

-- what both passes make of these structs, behind the declarations d and the structs so far
pub record BothPass (types : Types) (d out : Declared) (structs done : Structs) (items : List StructItem) : Type 0 where
  pub laid : List Laid
  pub are : AreLaid types out.extents (length structs.shapes) items laid
  pub extents : out.extents ≡ d.extents ++ extents_of laid
  pub shapes : done.shapes ≡ structs.shapes ++ shapes_of laid
  pub names : done.names ≡ structs.names ++ names_of laid

-- an item that is no struct
skipped : (types : Types) (d next out : Declared) (structs more done : Structs) (items : List StructItem) → next.extents ≡ d.extents → structs ≡ more
    → BothPass types next out more done items → BothPass types d out structs done items
skipped types d next out structs more done items e f p =
    subst (λ (s : Structs). BothPass types d out s done items) (sym f)
    (record { laid = p.laid; are = p.are; extents = p.extents ∙ ap (λ (x : List Extent). x ++ extents_of p.laid) e; shapes = p.shapes; names = p.names })

global_keeps : (d next : Declared) → (name : List ℕ) → (g : _) → with_global_shape d name g ≡ next → next.extents ≡ d.extents
unfolding with_global_shape
global_keeps d next name g e = ap (λ (x : Declared). x.extents) (sym e)

-- ---- an extent keeps its number
extent_front : (xs ys : List Extent) (s : ℕ) → s < length xs → struct_extent xs s ≡ struct_extent (xs ++ ys) s
extent_front xs ys s l = unwrap_or-slice_get xs s no_extent ∙ (sym (get_or_append_left xs ys no_extent s l) ∙ sym (unwrap_or-slice_get (xs ++ ys) s no_extent))

pub agree : (before now ys : List Extent) → now ≡ before ++ ys → AgreeBelow (length before) before now
agree before now ys e = record { same = λ s l. extent_front before ys s l ∙ ap (λ (x : List Extent). struct_extent x s) (sym e) }

-- one more struct, behind others
joined : {X Y : Type 0} (f : X → Y) (all before next : List Y) (x : X) (xs : List X) → all ≡ next ++ map f xs → next ≡ before ++ f x ∷ [] → all ≡ before ++ (f x ∷ map f xs)
joined f all before next x xs e g = e ∙ (ap (λ l. l ++ map f xs) g ∙ append_assoc before (f x ∷ []) (map f xs))

pub passes : (types : Types) (ends : List ℕ) (d out : Declared) (structs done : Structs) (items : List Item) → length d.extents ≡ length structs.shapes
    → with_items types ends d items ≡ Ok out → structs_of types out.extents structs items ≡ Ok done → BothPass types d out structs done (struct_items items)
unfolding with_item
passes types ends d out structs done [] same h k =
    let e : d ≡ out = cc in
    let f : structs ≡ done = cc in
    record {
      laid = [];
      are = tt;
      extents = ap (λ (x : Declared). x.extents) (sym e) ∙ sym (append-nil d.extents);
      shapes = ap (λ (x : Structs). x.shapes) (sym f) ∙ sym (append-nil structs.shapes);
      names = ap (λ (x : Structs). x.names) (sym f) ∙ sym (append-nil structs.names);
    }
passes types ends d out structs done (item.Struct s ∷ xs) same h k =
    let a = ok_then (with_item types ends d (item.Struct s)) (λ next. with_items types ends next xs) out h in
    let b = ok_then (with_next_struct types out.extents structs s) (λ next. structs_of types out.extents next xs) done k in
    let one = adds_struct types d s a.0 a.1 in
    let two = ok_then (struct_laid types out.extents (length structs.shapes) s) (λ laid. Ok (with_laid structs laid)) b.0 b.1 in
    let second : with_laid structs two.0 ≡ b.0 = cc in
    let more_extents : a.0.extents ≡ d.extents ++ one.laid.extent ∷ [] = ap (λ (x : Declared). x.extents) (sym one.next) in
    let more_shapes : b.0.shapes ≡ structs.shapes ++ two.0.shape ∷ [] = ap (λ (x : Structs). x.shapes) (sym second) in
    let more_names : b.0.names ≡ structs.names ++ two.0.names ∷ [] = ap (λ (x : Structs). x.names) (sym second) in
    let counted : length b.0.shapes ≡ length structs.shapes + 1 = ap (λ (l : List StructShape). length l) more_shapes ∙ length_push structs.shapes two.0.shape in
    let next : length a.0.extents ≡ length b.0.shapes =
    ap (λ (l : List Extent). length l) more_extents ∙ (length_push d.extents one.laid.extent ∙ (ap (λ (n : ℕ). n + 1) same ∙ sym counted)) in
    let more = passes types ends a.0 out b.0 done xs next a.2 b.2 in
    let all : out.extents ≡ d.extents ++ (one.laid.extent ∷ extents_of more.laid) =
    more.extents ∙ (ap (λ (l : List Extent). l ++ extents_of more.laid) more_extents ∙ append_assoc d.extents (one.laid.extent ∷ []) (extents_of more.laid)) in
    let again : struct_laid types out.extents (length d.extents) s ≡ Ok two.0 = subst (λ (n : ℕ). struct_laid types out.extents n s ≡ Ok two.0) (sym same) two.1 in
    let extent : one.laid.extent ≡ two.0.extent =
    same_extent types d.extents out.extents (length d.extents) s one.laid two.0 (agree d.extents out.extents (one.laid.extent ∷ extents_of more.laid) all) one.is again in
    record {
      laid = two.0 ∷ more.laid;
      are = (two.1, subst (λ (n : ℕ). AreLaid types out.extents n (struct_items xs) more.laid) counted more.are);
      extents = all ∙ ap (λ (x : Extent). d.extents ++ (x ∷ extents_of more.laid)) extent;
      shapes = joined (λ (l : Laid). l.shape) done.shapes structs.shapes b.0.shapes two.0 more.laid more.shapes more_shapes;
      names = joined (λ (l : Laid). l.names) done.names structs.names b.0.names two.0 more.laid more.names more_names;
    }
passes types ends d out structs done (item.Global g ∷ xs) same h k =
    let a = ok_then (with_item types ends d (item.Global g)) (λ next. with_items types ends next xs) out h in
    let one = adds_global types d g a.0 a.1 in
    let kept = global_keeps d a.0 g.declaration.name one.shape one.next in
    skipped types d a.0 out structs structs done (struct_items xs) kept refl (passes types ends a.0 out structs done xs (ap (λ (l : List Extent). length l) kept ∙ same) a.2 k)
passes types ends d out structs done (item.Function f ∷ xs) same h k =
    let a = ok_then (with_item types ends d (item.Function f)) (λ next. with_items types ends next xs) out h in
    let one = adds_body d f.head.name f.head.line (strings_behind ends d) a.0 a.1 in
    let kept : a.0.extents ≡ d.extents = ap (λ (x : Declared). x.extents) (sym one.next) in
    skipped types d a.0 out structs structs done (struct_items xs) kept refl (passes types ends a.0 out structs done xs (ap (λ (l : List Extent). length l) kept ∙ same) a.2 k)
passes types ends d out structs done (item.Prototype p ∷ xs) same h k =
    skipped types d (with_taken d p.name) out structs structs done (struct_items xs) refl refl (passes types ends (with_taken d p.name) out structs done xs same h k)
