-- The table of each text is what the laws take it for.
use Rattle.std.proofs.Common.{◌≡◌, ◌≢◌, ◌⊎◌, inl, inr, ℕ, zero, suc, ◌+◌, ◌-◌, ◌*◌, ◌^◌, ◌≤◌, ◌<◌, nat_lt, Bool, true, false, List}
use Rattle.std.proofs.Common.{[], ◌∷◌, length, ℤ, Option, Some, None, Ok, slice_get, if◌then◌else◌, All, refl, sym, ap, ◌∙◌, subst}
use Rattle.std.proofs.Common.{arith}
use Rattle.std.proofs.lemmas.Bool.{eqb-true, ltb-true, ltb-false}
use Rattle.std.proofs.lemmas.List.Elements.{All-head, All-tail}
use Rattle.c_tree.specs.declared.items.Unit.{Unit as TextUnit}
use Rattle.c_tree.specs.declared.types.TypeName.{TypeName}
use Rattle.checked_tree.specs.declared.shapes.Member.{Member}
use Rattle.checked_tree.specs.declared.shapes.StructShape.{StructShape}
use Rattle.checked_tree.specs.declared.units.ImageBlock.{ImageBlock}
use Rattle.deputy_types.specs.declared.element.Element.{Element}
use Rattle.deputy_types.specs.declared.extent.Extent.{Extent}
use Rattle.deputy_types.specs.declared.table.GlobalPlace.{GlobalPlace}
use Rattle.deputy_types.specs.Extents.{key_extent, stars_extent}
use Rattle.deputy_types.specs.StructLaws.{shape_extent, are_of_one_union, IsBefore, AreInOrder}
use Rattle.deputy_types.specs.Table.{Table, element_at, size, global, literal}
use Rattle.deputy_types.specs.Types.{base_key, are_constant, is_char}
use Rattle.deputy_types.specs.UnitLayout.{layout}
use Rattle.deputy_types.proofs.Inversions.{some_then}
use Rattle.deputy_types.proofs.TypeExtents.{key_is_extent, stars_is_extent}
use Rattle.layout_laws.specs.LoadImage.{text_strings}
use Rattle.layout_laws.proofs.ElementLaws.{strings_found}
use Rattle.layout_laws.proofs.ElementSizes.{type_bytes, elem_at}
use Rattle.layout_laws.proofs.GlobalNumbers.{globals_found}
use Rattle.layout_laws.proofs.ImageLaws.{has_image}
use Rattle.layout_laws.proofs.StructsDeclared.{layouts_of, structs_nested}
use Rattle.driver_safety.specs.StructPlaces.{room_of, SameUnion, Beside, before, behind, arms, IsLeaf}
use Rattle.driver_safety.specs.TypeFacts.{key_shape, IsType, IsGlobal, IsString, HasTypes}
use Rattle.driver_safety.specs.UnionArms.{ItemsHaveArms}
use Rattle.driver_safety.proofs.declarations.DeclaredShapes.{some_same, if_both}
use Rattle.driver_safety.proofs.declarations.FoundTypes.{found_types}
use Rattle.driver_safety.proofs.declarations.StructFacts.{some_count, struct_of, struct_is, plain_arm, member_is, key_type, size_is}

-- ---- members in order
in_order : (extents : List Extent) (ms : List Member) (j k : ℕ) (a b : Member) → AreInOrder extents ms → j < k → slice_get ms j ≡ Some a
    → slice_get ms k ≡ Some b → IsBefore extents a b
in_order extents [] j k a b o l g h = absurd cc
in_order extents (m ∷ ms) j zero a b o l g h = absurd (omega (arith, l))
in_order extents (m ∷ ms) zero (suc k) a b o l g h = subst (λ (x : Member). IsBefore extents x b) (some_same m a g) (at ms k o.0 h)
  where
    at : (ms : List Member) (k : ℕ) → All (IsBefore extents m) ms → slice_get ms k ≡ Some b → IsBefore extents m b
    at [] k all h = absurd cc
    at (x ∷ ms) zero all h = subst (IsBefore extents m) (some_same x b h) (All-head (IsBefore extents m) x ms all)
    at (x ∷ ms) (suc k) all h = at ms k (All-tail (IsBefore extents m) x ms all) h
in_order extents (m ∷ ms) (suc j) (suc k) a b o l g h = in_order extents ms j k a b o.1 (omega (arith, l)) g h

same_union : (a b : Member) → are_of_one_union a.arm b.arm ≡ true → SameUnion a b
same_union a b h = by a.arm b.arm refl refl h
  where
    by : (o q : Option (ℕ × ℤ)) → a.arm ≡ o → b.arm ≡ q → are_of_one_union o q ≡ true → SameUnion a b
    by o None e f h = absurd cc
    by None (Some y) e f h = absurd cc
    by (Some x) (Some y) e f h =
        let same : x.0 ≡ y.0 = eqb-true x.0 y.0 h in
        (y.0, x.1, y.1, e ∙ ap (λ (n : ℕ). Some (n, x.1)) same, f)

module _ (u : TextUnit) (t : Table) (h : layout u ≡ Ok t) (some : ItemsHaveArms u.items) where
  room_is : (s : ℕ) (x : StructShape) → slice_get t.structs s ≡ Some x → (k : ℕ) (m : Member) → slice_get x.members k ≡ Some m
      → room_of t.structs m ≡ m.count * (shape_extent t.extents m.shape).bytes
  room_is s x is k m g =
      let d = struct_of u t h some s x is in
      ap (λ (n : ℕ). m.count * n) (size_is u t h some s x d.0 d.1 m.shape (member_is u t h some s x d.0 d.1 k m g).declared)

  beside : (s : ℕ) (x : StructShape) (j k : ℕ) (a b : Member) → slice_get t.structs s ≡ Some x → slice_get x.members j ≡ Some a
      → slice_get x.members k ≡ Some b → j ≢ k
      → Beside t.structs a b
  beside s x j k a b is g f n = by (nat_lt j k) refl
    where
      first : (a b : Member) → room_of t.structs a ≡ a.count * (shape_extent t.extents a.shape).bytes → IsBefore t.extents a b
          → (a.offset + room_of t.structs a ≤ b.offset) ⊎ SameUnion a b
      first a b e (inl l) = inl (omega (arith, e, l))
      first a b e (inr l) = inr (same_union a b l)

      turned : SameUnion b a → SameUnion a b
      turned w = (w.0, w.2, w.1, w.4, w.3)

      pick : (a.offset + room_of t.structs a ≤ b.offset) ⊎ SameUnion a b → Beside t.structs a b
      pick (inl l) = before l
      pick (inr w) = arms w

      other : (b.offset + room_of t.structs b ≤ a.offset) ⊎ SameUnion b a → Beside t.structs a b
      other (inl l) = behind l
      other (inr w) = arms (turned w)

      by : (c : Bool) → nat_lt j k ≡ c → Beside t.structs a b
      by true e =
          pick (first a b (room_is s x is j a g)
          (in_order t.extents x.members j k a b (struct_of u t h some s x is).1.order (ltb-true j k e) g f))
      by false e =
          let l = ltb-false j k e in
          other (first b a (room_is s x is k b f)
          (in_order t.extents x.members k j b a (struct_of u t h some s x is).1.order (omega (arith, l, n)) f g))

  plain : (s : ℕ) (x : StructShape) (k : ℕ) (a : Member) (v : ℕ) (z : ℤ) → slice_get t.structs s ≡ Some x → slice_get x.members k ≡ Some a
      → a.arm ≡ Some (v, z) → IsLeaf a.shape
  plain s x k a v z is g e = let d = struct_of u t h some s x is in plain_arm u t h some s x d.0 d.1 k a v z g e

  elements_are : (n : ℕ) (key : Element) → element_at t n ≡ Some key → (slice_get t.elems n ≡ Some (key_shape t key)) × IsType t key
  unfolding element_at
  elements_are n key e = (elem_at u t (layouts_of u t h) n key e, key_type t key (found_types u t h n key e))

  small : (name : TypeName) (n : ℕ) → size t name ≡ Some n → n ≤ 65536
  unfolding size
  small name n e =
      let b = some_then (base_key t.types.structs name.base)
      (λ key. if are_constant (is_char key) name.stars then Some (stars_extent (key_extent t.extents key) name.stars).bytes
      else None) n e in
      let c = if_both (are_constant (is_char b.0) name.stars) (Some (stars_extent (key_extent t.extents b.0) name.stars).bytes) n b.2 in
      subst (λ k. k ≤ 65536) (some_same (stars_extent (key_extent t.extents b.0) name.stars).bytes n c.1)
      (stars_is_extent (key_extent t.extents b.0) name.stars (key_is_extent t.extents b.0 (layouts_of u t h).within)).bytes

  module _ (few : length u.items < 2 ^ 32 - 1) where
    globals_are : (name : List ℕ) (g : GlobalPlace) (b : ImageBlock) → global t name ≡ Some g → slice_get t.image g.block ≡ Some b
        → IsGlobal b
    globals_are name g b e at =
        let d = (globals_found u t few h).only name g e in
        let x = (has_image u t h).global g.block d.item d.at in
        let same : x.0 ≡ b = some_same x.0 b (sym x.1 ∙ at) in
        subst (λ (y : ImageBlock). IsGlobal y) same (record {
          no_text = x.2.no_text;
          some = some_count d.item.declaration.size x.0.count x.2.count;
        })

    strings_are : (k n : ℕ) (b : ImageBlock) → literal t k ≡ Some n → slice_get t.image n ≡ Some b → IsString b
    strings_are k n b e at =
        let d = (strings_found u t few h).only k n e in
        let text = text_there (text_strings u) k d.0 in
        let x = (has_image u t h).string k text.0 text.1 in
        let same : x.0 ≡ b = some_same x.0 b (sym x.1 ∙ (ap (λ i. slice_get t.image i) (sym d.1) ∙ at)) in
        let count = x.2.count in
        subst (λ (y : ImageBlock). IsString y) same (record { text = x.2.is_text; some = omega (arith, count) })
      where
        text_there : (xs : List (List ℕ)) (k : ℕ) → k < length xs → (x : List ℕ) × (slice_get xs k ≡ Some x)
        text_there [] k l = absurd (omega (arith, l))
        text_there (x ∷ xs) zero l = (x, refl)
        text_there (x ∷ xs) (suc k) l = text_there xs k (omega (arith, l))

    pub table_is : HasTypes t
    table_is = record {
      tidy = record { nested = structs_nested u t h; beside = beside; plain = plain };
      structs = λ s x is. let d = struct_of u t h some s x is in struct_is u t h some s x d.0 d.1;
      elements = elements_are;
      bytes = type_bytes u t (layouts_of u t h);
      small = small;
      globals = globals_are;
      strings = strings_are;
    }
