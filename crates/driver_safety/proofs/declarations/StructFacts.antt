-- Each struct of a table is what the laws take it for.
use Rattle.std.proofs.Common.{◌≡◌, ◌≢◌, ℕ, zero, suc, ◌≤◌, ◌<◌, ◌==◌, nat_le, Bool, true, false, not, ◌&&◌}
use Rattle.std.proofs.Common.{◌||◌, is_some, is_none, List, [], ◌∷◌, map, length, ℤ, Option, Some, None, option_map, unwrap_or}
use Rattle.std.proofs.Common.{Result, Ok, Err, IsOkAnd, bytes_eq, slice_get, All, refl, sym, ap, ◌∙◌, subst, arith}
use Rattle.std.specs.List.{list_any}
use Rattle.std.specs.Option.{option_flatten}
use Rattle.std.proofs.lemmas.Bool.{and_parts, eqb-true, leb-true}
use Rattle.std.proofs.lemmas.List.Elements.{All-head, All-tail, All-weaker}
use Rattle.std.proofs.lemmas.Option.{slice_get-map}
use Rattle.c_tree.specs.declared.items.Arm.{Arm}
use Rattle.c_tree.specs.declared.items.Declaration.{Declaration}
use Rattle.c_tree.specs.declared.items.Item.{Item}
use Rattle.c_tree.specs.declared.items.Item.TheVariants as item
use Rattle.c_tree.specs.declared.items.StructItem.{StructItem}
use Rattle.c_tree.specs.declared.items.Unit.{Unit as TextUnit}
use Rattle.c_tree.specs.declared.types.Number.{Number}
use Rattle.c_tree.specs.declared.types.TypeName.{TypeName}
use Rattle.checked_tree.specs.declared.shapes.Bounds.TheVariants as bounds
use Rattle.checked_tree.specs.declared.shapes.Edge.{Edge}
use Rattle.checked_tree.specs.declared.shapes.Member.{Member}
use Rattle.checked_tree.specs.declared.shapes.Scalar.{Scalar}
use Rattle.checked_tree.specs.declared.shapes.Scalar.TheVariants as scalar
use Rattle.checked_tree.specs.declared.shapes.Shape.{Shape}
use Rattle.checked_tree.specs.declared.shapes.Shape.TheVariants as shape
use Rattle.checked_tree.specs.declared.shapes.StructShape.{StructShape}
use Rattle.checked_tree.specs.declared.shapes.UnionShape.{UnionShape}
use Rattle.deputy_types.specs.declared.element.Element.{Element}
use Rattle.deputy_types.specs.declared.element.Element.TheVariants as element
use Rattle.deputy_types.specs.declared.laying.Laid.{Laid}
use Rattle.deputy_types.specs.declared.laying.Laying.{Laying}
use Rattle.deputy_types.specs.declared.refusal.TypeRefusal.{TypeRefusal}
use Rattle.deputy_types.specs.declared.sibling.MemberName.{MemberName}
use Rattle.deputy_types.specs.declared.sibling.Role.{Role}
use Rattle.deputy_types.specs.declared.sibling.Role.TheVariants as role
use Rattle.deputy_types.specs.declared.sibling.Unannotated.TheVariants as unannotated
use Rattle.deputy_types.specs.declared.siblings.Siblings.{Siblings}
use Rattle.deputy_types.specs.declared.struct_names.StructNames.{StructNames}
use Rattle.deputy_types.specs.Declarations.{declared_role}
use Rattle.deputy_types.specs.Extents.{AreExtents, round_up_to}
use Rattle.deputy_types.specs.Fitting.{is_open, shape_size}
use Rattle.deputy_types.specs.Options.{and_then}
use Rattle.deputy_types.specs.Siblings.{role_of, no_siblings}
use Rattle.deputy_types.specs.StructLaws.{shape_extent, AreInOrder, IsLaidOut}
use Rattle.deputy_types.specs.StructLayout.{Surroundings, siblings_of, element_count, const_value, if_number, tags_of}
use Rattle.deputy_types.specs.StructLayout.{struct_siblings, empty_struct, laid_out, struct_laid}
use Rattle.deputy_types.specs.Table.{Table, element_at, field, arm, member_key, is_array, has_names, shape_names, edge_names}
use Rattle.deputy_types.specs.Table.{is_base, edge_has_names}
use Rattle.deputy_types.specs.Types.{type_key, base_key, stars_key}
use Rattle.deputy_types.specs.UnitLayout.{layout}
use Rattle.deputy_types.proofs.Inversions.{some_then}
use Rattle.deputy_rules.specs.NameValues.{IsNumber}
use Rattle.layout_laws.specs.StructTable.{struct_items, HasStruct}
use Rattle.layout_laws.specs.MemberLookups.{member_names}
use Rattle.layout_laws.proofs.ElementSizes.{scalar_same, struct_bytes}
use Rattle.layout_laws.proofs.LimitLaws.{keeps_limits}
use Rattle.layout_laws.proofs.MemberNumbers.{members_found}
use Rattle.layout_laws.proofs.StructExtents.{laying_of, struct_laying}
use Rattle.layout_laws.proofs.StructsDeclared.{layouts_of, structs_declared}
use Rattle.driver_safety.specs.StructPlaces.{IsLeaf}
use Rattle.driver_safety.specs.TypeFacts.{key_shape, IsType, IsDeclared, IsSibling, IsBaseOf}
use Rattle.driver_safety.specs.TypeFacts.{IsIntegerMember, NamesSiblings, ShapeNamesSiblings}
use Rattle.driver_safety.specs.TypeFacts.{ShapeNamesOthers, IsOpenStruct, IsArmIn, IsMemberOf, IsTag, IsFilled, IsStructOf}
use Rattle.driver_safety.specs.UnionArms.{HaveArms, ItemsHaveArms}
use Rattle.driver_safety.proofs.declarations.ConstantTypes.{typed_key}
use Rattle.driver_safety.proofs.declarations.DeclaredShapes.{some_same, if_both, IsKeyOf, IsShapeOf, IsSide, StandsOn}
use Rattle.driver_safety.proofs.declarations.DeclaredShapes.{CountsIntegers, base_is, stars_are, typed_is}
use Rattle.driver_safety.proofs.declarations.FunctionSlots.{whole_number}
use Rattle.driver_safety.proofs.declarations.SlotNames.{FitsRole, role_fits}
use Rattle.driver_safety.proofs.declarations.StructMembers.{Piece, plain, arm as an_arm, pieces, name_of, role_for}
use Rattle.driver_safety.proofs.declarations.StructMembers.{is_array_piece, key_for, arrays_are, keys_are, names_are, within_list}
use Rattle.driver_safety.proofs.declarations.StructMembers.{member_there, arm_typed, IsField, IsArm, IsMade, IsUnion}
use Rattle.driver_safety.proofs.declarations.StructMembers.{SoFar, siblings_few, fields_made, rounded_above, no_members}

none_some : {A : Type 0} (a : A) → ◌≡◌ {A = Option A} None (Some a) → ⊥
none_some a h = absurd cc

false_any : {X : Type 0} (p : X → Bool) (xs : List X) → ((k : ℕ) (x : X) → slice_get xs k ≡ Some x → p x ≡ false) → list_any p xs ≡ false
false_any p [] f = refl
false_any p (x ∷ xs) f = ap (λ (b : Bool). b || list_any p xs) (f 0 x refl) ∙ false_any p xs (λ k y g. f (suc k) y g)

not_true : (b : Bool) → (b ≡ true → ⊥) → b ≡ false
not_true true h = absurd (h refl)
not_true false h = refl

-- ---- the names of an annotation among none
module _ (siblings : Siblings) where
  nowhere : (k : ℕ) (e : Edge) → IsSide no_siblings k e → IsSide siblings k e
  nowhere k e side = record {
    base = by e.base side.base;
    terms = All-weaker (CountsIntegers no_siblings) (CountsIntegers siblings) (λ x h. absurd (none x.1 h)) e.terms side.terms;
  }
    where
      none : (j : ℕ) → role_of no_siblings j ≡ Some role.Integer → ⊥
      none j h = absurd cc

      by : (o : Option ℕ) → StandsOn no_siblings k o → StandsOn siblings k o
      by None h = tt
      by (Some j) h = absurd (missing h.1)
        where
          missing : role_of no_siblings j ≡ Some (role.Pointer h.0) → ⊥
          missing e = absurd cc

  nowhere_shape : (elements : List Element) (place k : ℕ) (x : Shape) → IsShapeOf elements unannotated.Safe no_siblings place x
      → IsShapeOf elements unannotated.Safe siblings k x
  nowhere_shape elements place k (shape.Int s) is = is
  nowhere_shape elements place k (shape.Struct n) is = tt
  nowhere_shape elements place k shape.Address is = is
  nowhere_shape elements place k (shape.Pointer elem bounds.Hidden) is = is
  nowhere_shape elements place k (shape.Pointer elem bounds.Nullterm) is = is
  nowhere_shape elements place k (shape.Pointer elem (bounds.Within lo hi)) is = (moved lo is.0, moved hi is.1)
    where
      missing : (e : Edge) (j : ℕ) → IsSide no_siblings place e → e.base ≡ Some j → ⊥
      missing e j side b = by (subst (StandsOn no_siblings place) b side.base)
        where
          by : StandsOn no_siblings place (Some j) → ⊥
          by h = none_some (role.Pointer h.0) h.1

      moved : (e : Edge) → IsSide no_siblings place e → IsSide siblings k e
      moved e side = record { base = by e.base refl; terms = (nowhere place e side).terms }
        where
          by : (o : Option ℕ) → e.base ≡ o → StandsOn siblings k o
          by None b = tt
          by (Some j) b = absurd (missing e j side b)

nameless_edge : (place : ℕ) (e : Edge) → IsSide no_siblings place e → edge_has_names e ≡ false
nameless_edge place e side = by e.base e.terms side.base side.terms
  where
    by : (o : Option ℕ) (ts : List (ℤ × ℕ)) → StandsOn no_siblings place o → All (CountsIntegers no_siblings) ts
        → edge_has_names (record { base = o; terms = ts; bytes = e.bytes }) ≡ false
    by None [] b t = refl
    by (Some j) ts b t = absurd (none_some (role.Pointer b.0) b.1)
    by None (x ∷ ts) b t = absurd (none_some role.Integer (All-head (CountsIntegers no_siblings) x ts t))

struct_nameless : (n : ℕ) → has_names (shape.Struct n) ≡ false
unfolding has_names
struct_nameless n = refl

nameless : (elements : List Element) (place : ℕ) (x : Shape) → IsShapeOf elements unannotated.Safe no_siblings place x → has_names x ≡ false
unfolding has_names
nameless elements place (shape.Int s) is = refl
nameless elements place (shape.Struct n) is = refl
nameless elements place shape.Address is = refl
nameless elements place (shape.Pointer elem bounds.Hidden) is = refl
nameless elements place (shape.Pointer elem bounds.Nullterm) is = refl
nameless elements place (shape.Pointer elem (bounds.Within lo hi)) is =
    ap (λ (b : Bool). b || edge_has_names hi) (nameless_edge place lo is.0) ∙ nameless_edge place hi is.1

-- what no annotation can name is named by none
module _ (siblings : Siblings) (k : ℕ) (other : role_of siblings k ≡ Some role.Other) where
  other_not : (r : Role) (j : ℕ) → role_of siblings j ≡ Some r → (role.Other ≡ r → ⊥) → (j == k) ≡ false
  other_not r j h n = not_true (j == k) (λ e. n (some_same role.Other r (sym other ∙ (ap (role_of siblings) (sym (eqb-true j k e)) ∙ h))))

  unnamed_edge : (place : ℕ) (e : Edge) → IsSide siblings place e → edge_names k e ≡ false
  unnamed_edge place e side = ap (λ (b : Bool). b || list_any
      (λ (x : ℤ × ℕ). x.1 == k) e.terms) (based e.base side.base) ∙ counted e.terms side.terms
    where
      based : (o : Option ℕ) → StandsOn siblings place o → is_base k o ≡ false
      based None h = refl
      based (Some j) h = other_not (role.Pointer h.0) j h.1 (λ e. absurd cc)

      counted : (ts : List (ℤ × ℕ)) → All (CountsIntegers siblings) ts → list_any (λ (x : ℤ × ℕ). x.1 == k) ts ≡ false
      counted [] all = refl
      counted (t ∷ ts) all =
          ap (λ (b : Bool). b || list_any
          (λ (x : ℤ × ℕ). x.1 == k) ts) (other_not role.Integer t.1 (All-head (CountsIntegers siblings) t ts all) (λ e. absurd cc))
          ∙ counted ts (All-tail (CountsIntegers siblings) t ts all)

  unnamed : (elements : List Element) (place : ℕ) (x : Shape) → IsShapeOf elements unannotated.Safe siblings place x
      → shape_names k x ≡ false
  unfolding shape_names
  unnamed elements place (shape.Int s) is = refl
  unnamed elements place (shape.Struct n) is = refl
  unnamed elements place shape.Address is = refl
  unnamed elements place (shape.Pointer elem bounds.Hidden) is = refl
  unnamed elements place (shape.Pointer elem bounds.Nullterm) is = refl
  unnamed elements place (shape.Pointer elem (bounds.Within lo hi)) is =
      ap (λ (b : Bool). b || edge_names k hi) (unnamed_edge place lo is.0) ∙ unnamed_edge place hi is.1

pub key_type : (t : Table) (key : Element) → IsKeyOf t.types.elements key → IsType t key
unfolding element_at
key_type t (element.Int z) i = i
key_type t (element.Struct n) i = tt
key_type t (element.Sentinel n) i = tt
key_type t (element.Nullterm n) i = λ key e. some_same key (element.Int scalar.U8) (sym e ∙ i)
key_type t (element.Count n c) i = tt

pub some_count : (o : Option Number) (n : ℕ) → element_count o ≡ Some n → 0 < n
unfolding element_count
some_count None n h = subst (λ k. 0 < k) (some_same 1 n h) (omega arith)
some_count (Some x) n h =
    let b = if_both (nat_le 1 x.value && nat_le x.value 65536) (Some x.value) n h in
    subst (λ k. 0 < k) (some_same x.value n b.1) (leb-true 1 x.value (and_parts (nat_le 1 x.value) (nat_le x.value 65536) b.0).0)

one_count : (o : Option Number) (n : ℕ) → is_some o ≡ false → element_count o ≡ Some n → n ≡ 1
unfolding element_count
one_count None n e h = sym (some_same 1 n h)
one_count (Some x) n e h = absurd cc

-- ---- a struct of a table
module _ (u : TextUnit) (t : Table) (h : layout u ≡ Ok t) (arms : ItemsHaveArms u.items) where
  abbrev siblings_for : StructItem → Siblings
  siblings_for d = struct_siblings t.types d.fields

  abbrev around : ℕ → StructItem → Surroundings
  around s d = record { types = t.types; extents = t.extents; number = s; siblings = siblings_for d }

  pub extents_are : AreExtents t.extents
  extents_are = (layouts_of u t h).within

  arms_at : (items : List Item) (s : ℕ) (d : StructItem) → ItemsHaveArms items → slice_get (struct_items items) s ≡ Some d
      → HaveArms d.fields
  arms_at [] s d a g = absurd cc
  arms_at (item.Struct x ∷ items) zero d a g = subst (λ (y : StructItem). HaveArms y.fields) (some_same x d g) a.0
  arms_at (item.Struct x ∷ items) (suc s) d a g = arms_at items s d a.1 g
  arms_at (item.Global x ∷ items) s d a g = arms_at items s d a.1 g
  arms_at (item.Function x ∷ items) s d a g = arms_at items s d a.1 g
  arms_at (item.Prototype x ∷ items) s d a g = arms_at items s d a.1 g

  -- its declaration and its layout
  pub record IsOf (s : ℕ) (x : StructShape) (d : StructItem) : Type 0 where
    pub declared : slice_get (struct_items u.items) s ≡ Some d
    pub laying : Laying
    pub far : SoFar (around s d) (tags_of [] d.fields) (siblings_few t.types d.fields) extents_are (siblings_for d)
        (pieces 0 d.fields) laying
    pub members : laying.members ≡ x.members
    pub unions : laying.unions ≡ x.unions
    pub size : laying.end ≤ x.size
    pub arrays : (n : StructNames) → slice_get t.names s ≡ Some n → n.arrays ≡ map is_array_piece (pieces 0 d.fields)
    pub keys : (n : StructNames) → slice_get t.names s ≡ Some n → n.keys ≡ map (key_for t.types) (pieces 0 d.fields)
    pub order : AreInOrder t.extents x.members
    pub names : StructNames
    pub names_at : slice_get t.names s ≡ Some names

  is_of_laid : (s : ℕ) (x : StructShape) (d : StructItem) → slice_get (struct_items u.items) s ≡ Some d → slice_get t.structs s ≡ Some x
      → (r : Result Laid TypeRefusal)
      → struct_laid t.types t.extents s d ≡ r
      → IsOkAnd r (λ laid. HasStruct t s laid.shape laid.names laid.extent × IsLaidOut t.extents laid) → IsOf s x d
  unfolding laid_out struct_siblings
  is_of_laid s x d at is (Err e) r there = absurd there
  is_of_laid s x d at is (Ok laid) r there =
      let l = laying_of t.types t.extents s d laid r in
      let room = struct_laying t.types t.extents s d laid extents_are l in
      let few = (keeps_limits u t h).fields s d at in
      let same : laid.shape ≡ x = some_same laid.shape x (sym there.0.shape ∙ is) in
      let made = fields_made (around s d) (tags_of [] d.fields)
      (siblings_few t.types d.fields) extents_are no_siblings [] empty_struct d.fields l.laying
      (no_members (around s d) (tags_of [] d.fields) (siblings_few t.types d.fields) extents_are) refl
      (arms_at u.items s d arms at) (omega (arith, few)) l.read in
      let shape_is : laid.shape ≡ record {
        size = round_up_to l.laying.align l.laying.end;
        members = l.laying.members;
        unions = l.laying.unions;
      } = ap (λ (y : Laid). y.shape) (sym l.is) in
      let above = rounded_above l.laying.align l.laying.end room.least in
      let size : x.size ≡ round_up_to l.laying.align l.laying.end = ap (λ (y : StructShape). y.size) (sym same ∙ shape_is) in
      record {
        declared = at;
        laying = l.laying;
        far = made;
        members = ap (λ (y : StructShape). y.members) (sym shape_is ∙ same);
        unions = ap (λ (y : StructShape). y.unions) (sym shape_is ∙ same);
        size = omega (arith, above, size);
        arrays = λ n g. ap (λ (y : StructNames). y.arrays) (some_same n laid.names (sym g ∙ there.0.names)) ∙ (ap
            (λ (y : Laid). y.names.arrays) (sym l.is) ∙ arrays_are 0 d.fields);
        keys = λ n g. ap (λ (y : StructNames). y.keys) (some_same n laid.names (sym g ∙ there.0.names)) ∙ (ap
            (λ (y : Laid). y.names.keys) (sym l.is) ∙ keys_are t.types 0 d.fields);
        order = ap_order same there.1.order;
        names = laid.names;
        names_at = there.0.names;
      }
    where
      ap_order : {y : StructShape} → y ≡ x → AreInOrder t.extents y.members → AreInOrder t.extents x.members
      ap_order e o = subst (λ (z : StructShape). AreInOrder t.extents z.members) e o

  pub struct_of : (s : ℕ) (x : StructShape) → slice_get t.structs s ≡ Some x → (d : StructItem) × IsOf s x d
  struct_of s x is =
      let all = structs_declared u t h in
      let below = within_list t.structs s x is in
      let many = all.structs in
      let d = item_there (struct_items u.items) s (omega (arith, below, many)) in
      (d.0, is_of_laid s x d.0 d.1 is (struct_laid t.types t.extents s d.0) refl (all.each s d.0 d.1))
    where
      item_there : (xs : List StructItem) (k : ℕ) → k < length xs → (d : StructItem) × (slice_get xs k ≡ Some d)
      item_there [] k l = absurd (omega (arith, l))
      item_there (y ∷ xs) zero l = (y, refl)
      item_there (y ∷ xs) (suc k) l = item_there xs k (omega (arith, l))

  -- ---- its members
  module _ (s : ℕ) (x : StructShape) (d : StructItem) (is : IsOf s x d) where
    abbrev sib : Siblings
    sib = siblings_for d

    abbrev tags : List (List ℕ)
    tags = tags_of [] d.fields

    abbrev Made : ℕ → Piece → Member → Type 0
    Made = IsMade (around s d) tags (siblings_few t.types d.fields) extents_are

    abbrev FieldMade : ℕ → Declaration → Member → Type 0
    FieldMade = IsField (around s d) tags (siblings_few t.types d.fields) extents_are

    abbrev ArmOf : ℕ → ℕ → Arm → Member → Type 0
    ArmOf = IsArm (around s d) tags (siblings_few t.types d.fields) extents_are

    in_laying : (k : ℕ) (m : Member) → slice_get x.members k ≡ Some m → slice_get is.laying.members k ≡ Some m
    in_laying k m g = ap (λ (l : List Member). slice_get l k) is.members ∙ g

    piece_for : (k : ℕ) (m : Member) → slice_get x.members k ≡ Some m
        → (p : Piece) × (slice_get (pieces 0 d.fields) k ≡ Some p) × Made k p m
    piece_for k m g =
        let below = within_list is.laying.members k m (in_laying k m g) in
        let many = is.far.are.many in
        let p = piece_there (pieces 0 d.fields) k (omega (arith, below, many)) in
        (p.0, p.1, is.far.are.made k p.0 m p.1 (in_laying k m g))
      where
        piece_there : (xs : List Piece) (k : ℕ) → k < length xs → (p : Piece) × (slice_get xs k ≡ Some p)
        piece_there [] k l = absurd (omega (arith, l))
        piece_there (y ∷ xs) zero l = (y, refl)
        piece_there (y ∷ xs) (suc k) l = piece_there xs k (omega (arith, l))

    role_at : (k : ℕ) (p : Piece) → slice_get (pieces 0 d.fields) k ≡ Some p → role_of sib k ≡ Some (role_for t.types tags p)
    role_at k p g =
        ap (λ (l : List Role). slice_get l k) is.far.are.roles ∙ (slice_get-map (role_for t.types tags) (pieces 0 d.fields) k ∙ ap
        (λ (o : Option Piece). option_map (role_for t.types tags) o) g)

    -- the shape of a member, by the names of its struct
    shape_of_made : (k : ℕ) (p : Piece) (m : Member) → Made k p m → IsShapeOf t.types.elements unannotated.Safe sib k m.shape
    shape_of_made k (plain y) m f = by y.size
        (typed_is t.types t.extents unannotated.Safe (siblings_of sib y.size) k y.type_name m.shape f.typed)
      where
        by : (o : Option Number) → IsShapeOf t.types.elements unannotated.Safe (siblings_of sib o) k m.shape
            → IsShapeOf t.types.elements unannotated.Safe sib k m.shape
        by None i = i
        by (Some n) i = nowhere_shape sib t.types.elements k k m.shape i
    shape_of_made k (an_arm part a) m f =
        nowhere_shape sib t.types.elements 0 k m.shape
        (typed_is t.types t.extents unannotated.Safe no_siblings 0 a.type_name m.shape (arm_typed (around s d) a m.shape f.shape_is).0)

    role_fits_made : (k : ℕ) (p : Piece) (m : Member) → Made k p m → FitsRole (role_for t.types tags p) m.shape
    role_fits_made k (plain y) m f = role_fits t.types t.extents unannotated.Safe (siblings_of sib y.size) k (is_some y.size)
        (list_any (bytes_eq y.name) tags) y.type_name m.shape f.typed
    role_fits_made k (an_arm part a) m f = tt

    -- a member whose role is not to be another: it is alone, and no arm
    alone : (k : ℕ) (p : Piece) (m : Member) → Made k p m → (role.Other ≡ role_for t.types tags p → ⊥) → (m.count ≡ 1) × (m.arm ≡ None)
    unfolding declared_role
    alone k (an_arm part a) m f n = absurd (n refl)
    alone k (plain y) m f n = (by y.size refl f.count, f.no_arm)
      where
        by : (o : Option Number) → y.size ≡ o → element_count o ≡ Some m.count → m.count ≡ 1
        by None e c = one_count None m.count refl c
        by (Some z) e c = absurd (n (ap
            (λ (o : Option Number). declared_role t.types (is_some o) (list_any (bytes_eq y.name) tags) y.type_name) (sym e)))

    -- the member with a role
    pub record HasRole (k : ℕ) (r : Role) : Type 0 where
      pub member : Member
      pub found : slice_get x.members k ≡ Some member
      pub one : member.count ≡ 1
      pub no_arm : member.arm ≡ None
      pub fits : FitsRole r member.shape
      pub shape_is : IsShapeOf t.types.elements unannotated.Safe sib k member.shape

    with_role : (k : ℕ) (r : Role) → role_of sib k ≡ Some r → (role.Other ≡ r → ⊥) → HasRole k r
    with_role k r e n =
        let roles : slice_get (map (role_for t.types tags) (pieces 0 d.fields)) k
        ≡ Some r = ap (λ (l : List Role). slice_get l k) (sym is.far.are.roles) ∙ e in
        let p = mapped_at (role_for t.types tags) (pieces 0 d.fields) k r roles in
        let below = within_list (pieces 0 d.fields) k p.0 p.1 in
        let many = is.far.are.many in
        let m = member_there is.laying.members k (omega (arith, below, many)) in
        let made = is.far.are.made k p.0 m.0 p.1 m.1 in
        let single = alone k p.0 m.0 made (λ f. n (f ∙ p.2)) in
        record {
          member = m.0;
          found = ap (λ (l : List Member). slice_get l k) (sym is.members) ∙ m.1;
          one = single.0;
          no_arm = single.1;
          fits = subst (λ (q : Role). FitsRole q m.0.shape) p.2 (role_fits_made k p.0 m.0 made);
          shape_is = shape_of_made k p.0 m.0 made;
        }
      where
        mapped_at : {X Y : Type 0} (f : X → Y) (xs : List X) (k : ℕ) (y : Y) → slice_get (map f xs) k ≡ Some y
            → (x : X) × (slice_get xs k ≡ Some x) × (f x ≡ y)
        mapped_at f [] k y g = absurd cc
        mapped_at f (z ∷ xs) zero y g = (z, refl, some_same (f z) y g)
        mapped_at f (z ∷ xs) (suc k) y g = mapped_at f xs k y g

    -- ---- what a side names
    number_of : (k : ℕ) (r : Role) (m : Member) → FitsRole r m.shape → (role.Other ≡ r → ⊥)
        → IsShapeOf t.types.elements unannotated.Safe sib k m.shape → IsNumber m.shape
    number_of k r m fits n i = by r m.shape fits n i
      where
        by : (r : Role) (y : Shape) → FitsRole r y → (role.Other ≡ r → ⊥) → IsShapeOf t.types.elements unannotated.Safe sib k y → IsNumber y
        by r (shape.Int z) fits n i = whole_number z i
        by r (shape.Pointer elem b) fits n i = tt
        by role.Integer (shape.Struct z) fits n i = absurd fits
        by role.Tag (shape.Struct z) fits n i = absurd fits
        by (role.Pointer w) (shape.Struct z) fits n i = absurd fits
        by role.Other (shape.Struct z) fits n i = absurd (n refl)
        by r shape.Address fits n i = absurd i

    sibling : (k : ℕ) (r : Role) → role_of sib k ≡ Some r → (role.Other ≡ r → ⊥) → IsSibling x k
    sibling k r e n =
        let m = with_role k r e n in
        record { member = m.member; found = m.found; number = number_of k r m.member m.fits n m.shape_is; one = m.one; no_arm = m.no_arm }

    whole : (y : Shape) → FitsRole role.Integer y → (z : Scalar) × (y ≡ shape.Int z)
    whole (shape.Int z) f = (z, refl)
    whole (shape.Pointer elem b) f = absurd f
    whole (shape.Struct n) f = absurd f
    whole shape.Address f = absurd f

    whole_tag : (y : Shape) → FitsRole role.Tag y → (z : Scalar) × (y ≡ shape.Int z)
    whole_tag (shape.Int z) f = (z, refl)
    whole_tag (shape.Pointer elem b) f = absurd f
    whole_tag (shape.Struct n) f = absurd f
    whole_tag shape.Address f = absurd f

    integer_member : (k : ℕ) → role_of sib k ≡ Some role.Integer → IsIntegerMember x k
    integer_member k e =
        let m = with_role k role.Integer e (λ f. absurd cc) in
        let z = whole m.member.shape m.fits in
        (m.member, m.found, z.0, z.1)

    side_names : (k : ℕ) (e : Edge) → IsSide sib k e → NamesSiblings x e × (e.base ≢ Some k)
    side_names k e side = (
      record {
        base = base e.base side.base;
        terms = All-weaker (CountsIntegers sib) (λ (y : ℤ × ℕ). IsSibling x y.1) (λ y g. sibling y.1 role.Integer g
            (λ f. absurd cc)) e.terms side.terms;
        integers = All-weaker (CountsIntegers sib) (λ (y : ℤ × ℕ). IsIntegerMember x y.1) (λ y g. integer_member y.1 g) e.terms side.terms;
      },
      others e.base side.base,
    )
      where
        base : (o : Option ℕ) → StandsOn sib k o → IsBaseOf x o
        base None g = tt
        base (Some j) g = sibling j (role.Pointer g.0) g.1 (λ f. absurd cc)

        others : (o : Option ℕ) → StandsOn sib k o → o ≢ Some k
        others None g e = none_some k e
        others (Some j) g e = g.2 (some_same j k e)

    shape_names_siblings : (k : ℕ) (y : Shape) → IsShapeOf t.types.elements unannotated.Safe sib k y
        → ShapeNamesSiblings x y × ShapeNamesOthers k y
    shape_names_siblings k (shape.Int z) i = (tt, tt)
    shape_names_siblings k (shape.Struct n) i = (tt, tt)
    shape_names_siblings k shape.Address i = (tt, tt)
    shape_names_siblings k (shape.Pointer elem bounds.Hidden) i = (tt, tt)
    shape_names_siblings k (shape.Pointer elem bounds.Nullterm) i = (tt, tt)
    shape_names_siblings k (shape.Pointer elem (bounds.Within lo hi)) i =
        let l = side_names k lo i.0 in
        let g = side_names k hi i.1 in ((l.0, g.0), (l.1, g.1))

    shape_declared : (k : ℕ) (y : Shape) → IsShapeOf t.types.elements unannotated.Safe sib k y → IsDeclared t y
    unfolding element_at
    shape_declared k (shape.Int z) i = i
    shape_declared k (shape.Struct n) i = tt
    shape_declared k shape.Address i = i
    shape_declared k (shape.Pointer elem bounds.Hidden) i = absurd cc
    shape_declared k (shape.Pointer elem bounds.Nullterm) i = λ key e. some_same key (element.Int scalar.U8) (sym e ∙ i)
    shape_declared k (shape.Pointer elem (bounds.Within lo hi)) i = tt

    -- ---- what is open
    not_tag : (k : ℕ) → role_of sib k ≡ Some role.Other → list_any (λ (y : UnionShape). y.tag == k) x.unions ≡ false
    not_tag k other = false_any (λ (y : UnionShape). y.tag == k) x.unions
        (λ v y g. other_not sib k other role.Tag y.tag (is.far.unions v y (in_unions v y g)).tag_role (λ f. absurd cc))
      where
        in_unions : (v : ℕ) (y : UnionShape) → slice_get x.unions v ≡ Some y → slice_get is.laying.unions v ≡ Some y
        in_unions v y g = ap (λ (l : List UnionShape). slice_get l v) is.unions ∙ g

    not_named : (k : ℕ) → role_of sib k ≡ Some role.Other → list_any (λ (y : Member). shape_names k y.shape) x.members ≡ false
    not_named k other = false_any (λ (y : Member). shape_names k y.shape) x.members (λ j y g.
        let p = piece_for j y g in unnamed sib k other t.types.elements j y.shape (shape_of_made j p.0 y p.2))

    open_is : (k : ℕ) (m : Member) → role_of sib k ≡ Some role.Other → m.arm ≡ None → has_names m.shape ≡ false → is_open x k m ≡ true
    open_is k m other none names =
        ap (λ (o : Option (ℕ × ℤ)). is_none o && (not (list_any
        (λ (y : UnionShape). y.tag == k) x.unions) && (not (has_names m.shape)
        && not (list_any (λ (y : Member). shape_names k y.shape) x.members)))) none
        ∙ (ap (λ (b : Bool). not b && (not (has_names m.shape) && not (list_any
        (λ (y : Member). shape_names k y.shape) x.members))) (not_tag k other)
        ∙ (ap (λ (b : Bool). not b && not (list_any (λ (y : Member). shape_names k y.shape) x.members)) names
        ∙ ap (λ (b : Bool). not b) (not_named k other)))

    open_struct : (k : ℕ) (p : Piece) (m : Member) → slice_get (pieces 0 d.fields) k ≡ Some p → Made k p m → IsOpenStruct x k m m.shape
    open_struct k p m g made = by m.shape refl
      where
        other : (n : ℕ) (p : Piece) → Made k p m → m.shape ≡ shape.Struct n → (role_for t.types tags p ≡ role.Other) × (m.arm ≡ None)
        other n (an_arm part a) f e = absurd (no_struct (arm_typed (around s d) a m.shape f.shape_is).1)
          where
            no_struct : if_number m.shape ≡ Some m.shape → ⊥
            no_struct i = absurd (none_some m.shape (sym (ap if_number e) ∙ i))
        other n (plain y) f e = (
          by_role (declared_role t.types (is_some y.size) (list_any (bytes_eq y.name) tags) y.type_name)
              (subst (FitsRole (declared_role t.types (is_some y.size) (list_any (bytes_eq y.name) tags) y.type_name)) e
              (role_fits_made k (plain y) m f)),
          f.no_arm,
        )
          where
            by_role : (r : Role) → FitsRole r (shape.Struct n) → r ≡ role.Other
            by_role role.Integer f = absurd f
            by_role role.Tag f = absurd f
            by_role (role.Pointer w) f = absurd f
            by_role role.Other f = refl

        by : (y : Shape) → m.shape ≡ y → IsOpenStruct x k m y
        by (shape.Int z) e = tt
        by (shape.Pointer elem b) e = tt
        by shape.Address e = tt
        by (shape.Struct n) e =
            let o = other n p made e in
            open_is k m (role_at k p g ∙ ap (λ (r : Role). Some r) o.0) o.1 (ap has_names e ∙ struct_nameless n)

    -- ---- a member
    array_is : (k : ℕ) (p : Piece) → slice_get (pieces 0 d.fields) k ≡ Some p → is_array t s k ≡ is_array_piece p
    unfolding is_array
    array_is k p g =
        ap (λ (o : Option StructNames). unwrap_or (and_then o (λ n. slice_get n.arrays k)) false) is.names_at
        ∙ (ap (λ (l : List Bool). unwrap_or (slice_get l k) false) (is.arrays is.names is.names_at)
        ∙ (ap (λ (o : Option Bool). unwrap_or o false) (slice_get-map is_array_piece (pieces 0 d.fields) k)
        ∙ ap (λ (o : Option Piece). unwrap_or (option_map is_array_piece o) false) g))

    key_is : (k : ℕ) (p : Piece) → slice_get (pieces 0 d.fields) k ≡ Some p → member_key t s k ≡ key_for t.types p
    unfolding member_key
    key_is k p g =
        ap (λ (o : Option StructNames). and_then o (λ n. option_flatten (slice_get n.keys k))) is.names_at
        ∙ (ap (λ (l : List (Option Element)). option_flatten (slice_get l k)) (is.keys is.names is.names_at)
        ∙ (ap (λ (o : Option (Option Element)). option_flatten o) (slice_get-map (key_for t.types) (pieces 0 d.fields) k)
        ∙ ap (λ (o : Option Piece). option_flatten (option_map (key_for t.types) o)) g))

    named_key : (name : TypeName) (key : Element) → type_key t.types name ≡ Some key → IsKeyOf t.types.elements key
    unfolding type_key
    named_key name key e =
        let b = some_then (base_key t.types.structs name.base) (λ k. stars_key t.types.elements k name.stars) key e in
        stars_are t.types.elements b.0 key name.stars (base_is t.types.elements t.types.structs name.base b.0 b.1) b.2

    typed_made : (k : ℕ) (p : Piece) (m : Member) → Made k p m → (key : Element) → key_for t.types p ≡ Some key
        → (m.shape ≡ key_shape t key) × IsType t key
    typed_made k (plain y) m f key e = (
      typed_key t.types t.extents (siblings_of sib y.size) k y.type_name key m.shape e f.typed,
      key_type t key (named_key y.type_name key e),
    )
    typed_made k (an_arm part a) m f key e = (
      typed_key t.types t.extents no_siblings 0 a.type_name key m.shape e (arm_typed (around s d) a m.shape f.shape_is).0,
      key_type t key (named_key a.type_name key e),
    )

    some_made : (k : ℕ) (p : Piece) (m : Member) → Made k p m → 0 < m.count
    some_made k (plain y) m f = some_count y.size m.count f.count
    some_made k (an_arm part a) m f = let one = f.one in omega (arith, one)

    single_made : (k : ℕ) (p : Piece) (m : Member) → Made k p m → is_array_piece p ≡ false → m.count ≡ 1
    single_made k (plain y) m f e = one_count y.size m.count e f.count
    single_made k (an_arm part a) m f e = f.one

    array_made : (k : ℕ) (p : Piece) (m : Member) → slice_get (pieces 0 d.fields) k ≡ Some p → Made k p m → is_array_piece p ≡ true
        → is_open x k m ≡ true
    unfolding declared_role
    array_made k (an_arm part a) m g f e = absurd cc
    array_made k (plain y) m g f e =
        open_is k m (role_at k (plain y) g ∙ ap
        (λ (b : Bool). Some (declared_role t.types b (list_any (bytes_eq y.name) tags) y.type_name)) e) f.no_arm
        (by y.size e (typed_is t.types t.extents unannotated.Safe (siblings_of sib y.size) k y.type_name m.shape f.typed))
      where
        by : (o : Option Number) → is_some o ≡ true → IsShapeOf t.types.elements unannotated.Safe (siblings_of sib o) k m.shape
            → has_names m.shape ≡ false
        by None e i = absurd cc
        by (Some n) e i = nameless t.types.elements k m.shape i

    union_there : (part : ℕ) → part < length x.unions → (y : UnionShape) × (slice_get x.unions part ≡ Some y)
    union_there part l = at x.unions part l
      where
        at : (xs : List UnionShape) (k : ℕ) → k < length xs → (y : UnionShape) × (slice_get xs k ≡ Some y)
        at [] k l = absurd (omega (arith, l))
        at (y ∷ xs) zero l = (y, refl)
        at (y ∷ xs) (suc k) l = at xs k (omega (arith, l))

    union_is : (v : ℕ) (y : UnionShape) → slice_get x.unions v ≡ Some y
        → IsUnion (around s d) tags (siblings_few t.types d.fields) extents_are is.laying.members is.laying.end v y
    union_is v y g = is.far.unions v y (ap (λ (l : List UnionShape). slice_get l v) is.unions ∙ g)

    -- the bytes of a shape
    pub size_is : (y : Shape) → IsDeclared t y → shape_size t.structs y ≡ (shape_extent t.extents y).bytes
    size_is (shape.Int z) i = scalar_same z
    size_is (shape.Pointer elem b) i = refl
    size_is (shape.Struct n) i = struct_bytes u t (layouts_of u t h) n
    size_is shape.Address i = refl

    nameless_arm : (k : ℕ) (p : Piece) (m : Member) (part : ℕ) (z : ℤ) → Made k p m → m.arm ≡ Some (part, z) → has_names m.shape ≡ false
    nameless_arm k (plain y) m part z f e = absurd (none_some (part, z) (sym f.no_arm ∙ e))
    nameless_arm k (an_arm v a) m part z f e =
        nameless t.types.elements 0 m.shape
        (typed_is t.types t.extents unannotated.Safe no_siblings 0 a.type_name m.shape (arm_typed (around s d) a m.shape f.shape_is).0)

    one_arm : (k : ℕ) (p : Piece) (m : Member) (part : ℕ) (z : ℤ) → Made k p m → m.arm ≡ Some (part, z) → m.count ≡ 1
    one_arm k (plain y) m part z f e = absurd (none_some (part, z) (sym f.no_arm ∙ e))
    one_arm k (an_arm v a) m part z f e = f.one

    arm_in : (k : ℕ) (p : Piece) (m : Member) → slice_get x.members k ≡ Some m → Made k p m → (part : ℕ) (z : ℤ) → m.arm ≡ Some (part, z)
        → IsArmIn t x part m
    arm_in k p m g made part z e =
        let below = is.far.within k m part z (in_laying k m g) e in
        let y = union_there part (subst (λ (l : List UnionShape). part < length l) is.unions below) in
        let room = (union_is part y.0 y.1).arms k m z (in_laying k m g) e in
        let bytes = room.1 in
        let size = size_is m.shape (shape_declared k m.shape (shape_of_made k p m made)) in
        record {
          union = y.0;
          union_is = y.1;
          one = one_arm k p m part z made e;
          from = room.0;
          to = omega (arith, bytes, size);
          nameless = nameless_arm k p m part z made e;
        }

    pub member_is : (k : ℕ) (m : Member) → slice_get x.members k ≡ Some m → IsMemberOf t s x k m
    member_is k m g =
        let p = piece_for k m g in
        let shape_is = shape_of_made k p.0 m p.2 in
        let names = shape_names_siblings k m.shape shape_is in
        record {
          some = some_made k p.0 m p.2;
          declared = shape_declared k m.shape shape_is;
          single = λ e. single_made k p.0 m p.2 (sym (array_is k p.0 p.1) ∙ e);
          array = λ e. array_made k p.0 m p.1 p.2 (sym (array_is k p.0 p.1) ∙ e);
          structure = open_struct k p.0 m p.1 p.2;
          names = names.0;
          own = names.1;
          arm = arm_in k p.0 m g p.2;
          typed = λ key e. typed_made k p.0 m p.2 key (sym (key_is k p.0 p.1) ∙ e);
        }

    -- ---- names and unions
    piece_name : (k : ℕ) (p : Piece) → slice_get (pieces 0 d.fields) k ≡ Some p → slice_get (member_names 0 d.fields) k ≡ Some (name_of p)
    piece_name k p g =
        ap (λ (l : List MemberName). slice_get l k) (names_are 0 d.fields)
        ∙ (slice_get-map name_of (pieces 0 d.fields) k ∙ ap (λ (o : Option Piece). option_map name_of o) g)

    no_field_arm : (k : ℕ) (p : Piece) (m : Member) → Made k p m → (name_of p).part ≡ None → m.arm ≡ None
    no_field_arm k (plain y) m f e = f.no_arm
    no_field_arm k (an_arm part a) m f e = absurd (none_some part (sym e))

    arm_of_union : (k : ℕ) (p : Piece) (m : Member) (v : ℕ) → Made k p m → (name_of p).part ≡ Some v
        → (z : ℤ) × (m.arm ≡ Some (v, z)) × (m.count ≡ 1)
    arm_of_union k (plain y) m v f e = absurd (none_some v e)
    arm_of_union k (an_arm part a) m v f e =
        (const_value a.value, f.arm_is ∙ ap (λ (i : ℕ). Some (i, const_value a.value)) (some_same part v e), f.one)

    fields_are : (name : List ℕ) (k : ℕ) (m : Member) → field t s name ≡ Some k → slice_get x.members k ≡ Some m → m.arm ≡ None
    fields_are name k m e g =
        let p = piece_for k m g in
        let found = (members_found u t s d h is.declared).only None name k e in
        no_field_arm k p.0 m p.2 (ap (λ (y : MemberName). y.part) (some_same (name_of p.0) (record {
          part = None;
          name = name;
        }) (sym (piece_name k p.0 p.1) ∙ found)))

    arms_are : (v : ℕ) (name : List ℕ) (k : ℕ) (m : Member) → arm t s v name ≡ Some k → slice_get x.members k ≡ Some m
        → (z : ℤ) × (m.arm ≡ Some (v, z)) × (m.count ≡ 1)
    arms_are v name k m e g =
        let p = piece_for k m g in
        let found = (members_found u t s d h is.declared).only (Some v) name k e in
        arm_of_union k p.0 m v p.2 (ap (λ (y : MemberName). y.part) (some_same (name_of p.0) (record {
          part = Some v;
          name = name;
        }) (sym (piece_name k p.0 p.1) ∙ found)))

    tags_are : (v : ℕ) (y : UnionShape) → slice_get x.unions v ≡ Some y → IsTag x y.tag
    tags_are v y g =
        let one = union_is v y g in
        let m = with_role y.tag role.Tag one.tag_role (λ f. absurd cc) in
        let z = whole_tag m.member.shape m.fits in
        record {
          member = m.member;
          found = m.found;
          scalar = z.0;
          shape_is = z.1;
          integer = subst (IsShapeOf t.types.elements unannotated.Safe sib y.tag) z.1 m.shape_is;
          one = m.one;
          no_arm = m.no_arm;
        }

    filled_is : (v : ℕ) (y : UnionShape) → slice_get x.unions v ≡ Some y → IsFilled t x v y
    filled_is v y g =
        let f = (union_is v y g).filled in
        let at : slice_get x.members f.number ≡ Some f.member = ap (λ (l : List Member). slice_get l f.number) (sym is.members) ∙ f.found in
        let p = piece_for f.number f.member at in
        record {
          number = f.number;
          member = f.member;
          found = at;
          constant = f.constant;
          arm_is = f.arm_is;
          size = size_is f.member.shape (shape_declared f.number f.member.shape (shape_of_made f.number p.0 f.member p.2)) ∙ f.bytes;
        }

    pub struct_is : IsStructOf t s x
    struct_is = record {
      members = member_is;
      fields = fields_are;
      arms = arms_are;
      tags = tags_are;
      filled = filled_is;
      unions = λ v y g. let e = (union_is v y g).ends in let l = is.size in omega (arith, e, l);
      own_tag = λ v w y z g f e. is.far.own v w y z (ap (λ (l : List UnionShape). slice_get l v) is.unions ∙ g) (ap
          (λ (l : List UnionShape). slice_get l w) is.unions ∙ f) e;
      distinct = λ j k a b g f n v y z p q. distinct j k a b g f n v y z p q;
    }
      where
        distinct : (j k : ℕ) (a b : Member) → slice_get x.members j ≡ Some a → slice_get x.members k ≡ Some b → j ≢ k → (v : ℕ) (y z : ℤ)
            → a.arm ≡ Some (v, y) → b.arm ≡ Some (v, z) → y ≢ z
        distinct j k a b g f n v y z p q =
            let below = is.far.within j a v y (in_laying j a g) p in
            let w = union_there v (subst (λ (l : List UnionShape). v < length l) is.unions below) in
            (union_is v w.0 w.1).distinct j k a b (in_laying j a g) (in_laying k b f) n y z p q

    -- an arm is a number or a pointer
    pub plain_arm : (k : ℕ) (m : Member) (v : ℕ) (z : ℤ) → slice_get x.members k ≡ Some m → m.arm ≡ Some (v, z) → IsLeaf m.shape
    plain_arm k m v z g e = let p = piece_for k m g in by p.0 p.2
      where
        leaf : (y : Shape) → if_number y ≡ Some y → IsLeaf y
        leaf (shape.Int w) i = tt
        leaf (shape.Pointer elem b) i = tt
        leaf (shape.Struct n) i = none_some (shape.Struct n) i
        leaf shape.Address i = tt

        by : (p : Piece) → Made k p m → IsLeaf m.shape
        by (plain y) f = absurd (none_some (v, z) (sym f.no_arm ∙ e))
        by (an_arm part a) f = leaf m.shape (arm_typed (around s d) a m.shape f.shape_is).1
