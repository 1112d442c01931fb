-- A struct that is laid out with the extents of those before it is laid out again with the extents of all.
use Rattle.std.proofs.Common.{◌≡◌, ℕ, ◌+◌, ◌*◌, ◌≤◌, max, Bool, true, false, not, ◌&&◌, ◌||◌, List, [], ◌∷◌, ◌++◌, map, length, Option, Some, None, Result, Ok, Err, option_map, unwrap_or, ℤ, slice_get, bytes_eq, if◌then◌else◌, refl, sym, ap, ◌∙◌, subst}
use Rattle.std.specs.List.{list_any}
use Rattle.std.specs.Ordering.{int_eq}
use Rattle.std.proofs.lemmas.Option.{slice_get-map}
use Rattle.c_tree.specs.declared.items.Arm.{Arm}
use Rattle.c_tree.specs.declared.items.Declaration.{Declaration}
use Rattle.c_tree.specs.declared.items.Field.{Field}
use Rattle.c_tree.specs.declared.items.Field.TheVariants as field
use Rattle.c_tree.specs.declared.items.StructItem.{StructItem}
use Rattle.c_tree.specs.Spelling.{type_words}
use Rattle.checked_tree.specs.declared.shapes.Member.{Member}
use Rattle.checked_tree.specs.declared.shapes.Shape.{Shape}
use Rattle.checked_tree.specs.declared.shapes.Shape.TheVariants as shape
use Rattle.checked_tree.specs.declared.shapes.UnionShape.{UnionShape}
use Rattle.deputy_types.specs.declared.element.Element.{Element}
use Rattle.deputy_types.specs.declared.extent.Extent.{Extent}
use Rattle.deputy_types.specs.declared.laying.Arms.{Arms}
use Rattle.deputy_types.specs.declared.laying.Laid.{Laid}
use Rattle.deputy_types.specs.declared.laying.Laying.{Laying}
use Rattle.deputy_types.specs.declared.refusal.TypeRefusal.{TypeRefusal}
use Rattle.deputy_types.specs.declared.refusal.TypeRefusal.TheVariants as refusal
use Rattle.deputy_types.specs.declared.sibling.Unannotated.TheVariants as unannotated
use Rattle.deputy_types.specs.declared.siblings.Siblings.{Siblings}
use Rattle.deputy_types.specs.declared.types.Types.{Types}
use Rattle.deputy_types.specs.Declarations.{typed_shape}
use Rattle.deputy_types.specs.Extents.{key_extent, type_extent, round_up_to}
use Rattle.deputy_types.specs.Options.{and_then}
use Rattle.deputy_types.specs.Siblings.{no_siblings, member_number}
use Rattle.deputy_types.specs.StructLaws.{AgreeBelow}
use Rattle.deputy_types.specs.StructLayout.{Surroundings, and_ok, or_no_decl, is_first, is_before, is_new_field, field_shape, field_declared, is_complete, if_complete, siblings_of, counted, element_count, within_limits, placed, with_plain, union_extent, const_value, is_own_tag, shape_holds, tag_holds, tag_number, arm_tag, if_number, arm_shape, with_arm_of, with_tagged_arm, with_arm, with_next_arm, with_arms_in_turn, is_new_union, with_union_of, with_union_arms, with_union_at, with_union, with_any_field, empty_struct, with_fields_in_turn, laid_out, head_of_struct, struct_siblings, unless, laid_with, struct_laid}
use Rattle.deputy_types.proofs.Inversions.{some_then, some_map, if_some, ok_then, ok_declared, if_ok, unless_ok}
use Rattle.layout_laws.proofs.SameExtent.{declares, later}
use Rattle.light_checks.specs.Words.{IsReadable}
use Rattle.light_checks.proofs.DeclaredSlots.{map_length}
use Rattle.light_checks.proofs.DeclaredStructs.{AreReadableArms, IsReadableField, AreReadableFields, if_true}
use Rattle.light_checks.proofs.SecondShapes.{kind, ShapeAgain, typed_again}

-- members but for the bounds of their shapes
abbrev pub kinds : List Member → List Shape
kinds ms = map (λ (m : Member). kind m.shape) ms

kinds_length : (xs ys : List Member) → kinds xs ≡ kinds ys → length xs ≡ length ys
kinds_length xs ys e = sym (map_length (λ (m : Member). kind m.shape) xs) ∙ (ap (λ (l : List Shape). length l) e ∙ map_length (λ (m : Member). kind m.shape) ys)

kinds_push : (xs ys : List Member) (m n : Member) → kinds xs ≡ kinds ys → kind m.shape ≡ kind n.shape → kinds (xs ++ m ∷ []) ≡ kinds (ys ++ n ∷ [])
kinds_push xs ys m n e f = pushed xs m ∙ (both e f ∙ sym (pushed ys n))
  where
    pushed : (xs : List Member) (m : Member) → kinds (xs ++ m ∷ []) ≡ kinds xs ++ kind m.shape ∷ []
    pushed [] m = refl
    pushed (x ∷ xs) m = ap (λ l. kind x.shape ∷ l) (pushed xs m)

    both : {a b : List Shape} {c d : Shape} → a ≡ b → c ≡ d → a ++ c ∷ [] ≡ b ++ d ∷ []
    both p q = cc

holds_by_kind : (v : ℤ) (x : Shape) → shape_holds v x ≡ shape_holds v (kind x)
holds_by_kind v (shape.Int s) = refl
holds_by_kind v (shape.Pointer elem b) = refl
holds_by_kind v (shape.Struct s) = refl
holds_by_kind v shape.Address = refl

by_kinds : (v : ℤ) (o : Option Member) → option_map (λ (m : Member). shape_holds v m.shape) o ≡ option_map (shape_holds v) (option_map (λ (m : Member). kind m.shape) o)
by_kinds v None = refl
by_kinds v (Some m) = ap (λ b. Some b) (holds_by_kind v m.shape)

tag_again : (xs ys : List Member) (k : ℕ) (v : ℤ) → kinds xs ≡ kinds ys → tag_holds xs k v ≡ tag_holds ys k v
unfolding tag_holds
tag_again xs ys k v e = ap (λ (o : Option Bool). unwrap_or o false) (here xs ∙ (ap (λ (l : List Shape). option_map (shape_holds v) (slice_get l k)) e ∙ sym (here ys)))
  where
    here : (zs : List Member) → option_map (λ (m : Member). shape_holds v m.shape) (slice_get zs k) ≡ option_map (shape_holds v) (slice_get (kinds zs) k)
    here zs = by_kinds v (slice_get zs k) ∙ ap (option_map (shape_holds v)) (sym (slice_get-map (λ (m : Member). kind m.shape) zs k))

-- the same struct so far, with other members
abbrev with_members : Laying → List Member → Laying
with_members x ms = record { members = ms; unions = x.unions; names = x.names; end = x.end; align = x.align; fields = x.fields }

-- what was laid out is laid out again, with members of the same kinds
abbrev LaidAgain : Laying → Result Laying TypeRefusal → Type 0
LaidAgain out r = (ms : List Member) × (r ≡ Ok (with_members out ms)) × (kinds out.members ≡ kinds ms)

module _ (at : Surroundings) (now : List Extent) (agree : AgreeBelow at.number at.extents now) (sizes : (key : Element) → (key_extent now key).bytes ≤ 65536) where
  abbrev again : Surroundings
  again = later at now

  -- ---- a field
  complete_kind : (x y : Shape) → kind x ≡ kind y → is_complete at.number x ≡ is_complete at.number y
  complete_kind x y e = by x ∙ (ap (is_complete at.number) e ∙ sym (by y))
    where
      by : (z : Shape) → is_complete at.number z ≡ is_complete at.number (kind z)
      by (shape.Int s) = refl
      by (shape.Pointer elem b) = refl
      by (shape.Struct s) = refl
      by shape.Address = refl

  shape_again : (m : ℕ) (d : Declaration) (x : Shape) → IsReadable (type_words d.type_name) → field_shape at m d ≡ Some x → ShapeAgain x (field_shape again m d)
  unfolding field_shape
  shape_again m d x r h =
      let siblings = siblings_of at.siblings d.size in
      let t = some_then (typed_shape at.types at.extents unannotated.Safe siblings m d.type_name) (if_complete at.number) x h in
      let whole : is_complete at.number t.0 ≡ true = if_true (is_complete at.number t.0) (Some t.0) x t.2 in
      let same : Some t.0 ≡ Some x = if_some (is_complete at.number t.0) (Some t.0) x t.2 in
      let e : t.0 ≡ x = cc in
      let s = typed_again at.types at.extents now unannotated.Safe siblings m d.type_name t.0 sizes r t.1 in
      let whole_again : is_complete at.number s.0 ≡ true = sym (complete_kind t.0 s.0 s.2) ∙ whole in
      (s.0, ap (λ (o : Option Shape). and_then o (if_complete at.number)) s.1 ∙ ap (λ (b : Bool). if b then Some s.0 else None) whole_again, ap kind (sym e) ∙ s.2)

  plain_again : (x out : Laying) (ms : List Member) (line : ℕ) (d : Declaration) → kinds x.members ≡ kinds ms → IsReadable (type_words d.type_name) → with_plain at x line d ≡ Ok out
      → LaidAgain out (with_plain again (with_members x ms) line d)
  unfolding with_plain field_declared is_new_field placed
  plain_again x out ms line d alike r h =
      let m : ℕ = length x.members in
      let extent : Extent = type_extent at.types at.extents d.type_name in
      let a = ok_then (or_no_decl line (field_declared at x d)) (λ z. placed x line z.0 z.1 extent) out h in
      let there = ok_declared line (field_declared at x d) a.0 a.1 in
      let new : is_new_field at x d.name ≡ true = if_true (is_new_field at x d.name) (counted (field_shape at m d) (element_count d.size)) a.0 there in
      let c : counted (field_shape at m d) (element_count d.size) ≡ Some a.0 = if_some (is_new_field at x d.name) (counted (field_shape at m d) (element_count d.size)) a.0 there in
      let s = some_then (field_shape at m d) (λ z. option_map (λ (n : ℕ). (z, n)) (element_count d.size)) a.0 c in
      let n = some_map (element_count d.size) (λ (n : ℕ). (s.0, n)) a.0 s.2 in
      let z = shape_again m d s.0 r s.1 in
      let longs : m ≡ length ms = kinds_length x.members ms alike in
      let same_extent : extent ≡ type_extent at.types now d.type_name = (declares at now x d a.0 agree there).extent in
      let offset : ℕ = round_up_to extent.align x.end in
      let counts : n.0 ≡ a.0.1 = ap (λ (p : Shape × ℕ). p.1) n.2 in
      let shapes : s.0 ≡ a.0.0 = ap (λ (p : Shape × ℕ). p.0) n.2 in
      let p = ok_then (within_limits line x.fields (offset + a.0.1 * extent.bytes)) _ out a.2 in
      let member : Member = record { offset = offset; count = a.0.1; shape = a.0.0; arm = None } in
      let other : Member = record { offset = offset; count = a.0.1; shape = z.0; arm = None } in
      let next : Laying = record { members = x.members ++ member ∷ []; unions = x.unions; names = x.names; end = p.0; align = max x.align extent.align; fields = x.fields + 1 } in
      let is : next ≡ out = cc in
      let found : or_no_decl line (field_declared again (with_members x ms) d) ≡ Ok (z.0, a.0.1) =
      ap (λ (k : ℕ). or_no_decl line (if is_first at.siblings k None d.name && not (list_any (bytes_eq d.name) x.names) then counted (field_shape again k d) (element_count d.size) else None)) (sym longs)
      ∙ (ap (λ (b : Bool). or_no_decl line (if b then counted (field_shape again m d) (element_count d.size) else None)) new
      ∙ (ap (λ (o : Option Shape). or_no_decl line (counted o (element_count d.size))) z.1
      ∙ (ap (λ (o : Option ℕ). or_no_decl line (option_map (λ (n : ℕ). (z.0, n)) o)) n.1 ∙ ap (λ (k : ℕ). Ok (z.0, k)) counts))) in
      let put : placed (with_members x ms) line z.0 a.0.1 extent ≡ Ok (with_members next (ms ++ other ∷ [])) =
      ap (λ (q : Result ℕ TypeRefusal). and_ok q (λ end. Ok (record { members = ms ++ other ∷ []; unions = x.unions; names = x.names; end = end; align = max x.align extent.align; fields = x.fields + 1 }))) p.1 in
      let whole : with_plain again (with_members x ms) line d ≡ Ok (with_members next (ms ++ other ∷ [])) =
      ap (λ (q : Result (Shape × ℕ) TypeRefusal). and_ok q (λ y. placed (with_members x ms) line y.0 y.1 (type_extent at.types now d.type_name))) found
      ∙ (ap (λ (e : Extent). placed (with_members x ms) line z.0 a.0.1 e) (sym same_extent) ∙ put) in
      let alike_next : kinds next.members ≡ kinds (ms ++ other ∷ []) = kinds_push x.members ms member other alike (ap kind (sym shapes) ∙ z.2) in
      subst (λ (o : Laying). LaidAgain o (with_plain again (with_members x ms) line d)) is (ms ++ other ∷ [], whole, alike_next)

  -- ---- the arms of a union
  abbrev with_arm_members : Arms → List Member → Arms
  with_arm_members x ms = record { members = ms; tag = x.tag; values = x.values }

  arm_shape_again : (a : Arm) (x : Shape) → IsReadable (type_words a.type_name) → arm_shape at a ≡ Some x → ShapeAgain x (arm_shape again a)
  unfolding arm_shape
  arm_shape_again a x r h =
      let t = some_then (typed_shape at.types at.extents unannotated.Safe no_siblings 0 a.type_name) if_number x h in
      let s = typed_again at.types at.extents now unannotated.Safe no_siblings 0 a.type_name t.0 sizes r t.1 in
      let n = number_again t.0 s.0 x s.2 t.2 in
      (s.0, ap (λ (o : Option Shape). and_then o if_number) s.1 ∙ n.0, n.1)
    where
      number_again : (x y z : Shape) → kind x ≡ kind y → if_number x ≡ Some z → (if_number y ≡ Some y) × (kind z ≡ kind y)
      number_again (shape.Int s) (shape.Int t) z e h = let f : shape.Int s ≡ z = cc in (refl, ap kind (sym f) ∙ e)
      number_again (shape.Pointer n b) (shape.Pointer m c) z e h = let f : shape.Pointer n b ≡ z = cc in (refl, ap kind (sym f) ∙ e)
      number_again (shape.Int s) (shape.Pointer m c) z e h = absurd cc
      number_again (shape.Int s) (shape.Struct m) z e h = absurd cc
      number_again (shape.Int s) shape.Address z e h = absurd cc
      number_again (shape.Pointer n b) (shape.Int t) z e h = absurd cc
      number_again (shape.Pointer n b) (shape.Struct m) z e h = absurd cc
      number_again (shape.Pointer n b) shape.Address z e h = absurd cc
      number_again (shape.Struct s) y z e h = absurd cc
      number_again shape.Address y z e h = absurd cc

  abbrev ArmsAgain : Arms → Result Arms TypeRefusal → Type 0
  ArmsAgain out r = (ms : List Member) × (r ≡ Ok (with_arm_members out ms)) × (kinds out.members ≡ kinds ms)

  arm_again : (unions : List UnionShape) (part start offset : ℕ) (x out : Arms) (ms : List Member) (a : Arm) → kinds x.members ≡ kinds ms → IsReadable (type_words a.type_name)
      → with_arm at unions part start offset x a ≡ Some out → (ns : List Member) × (with_arm again unions part start offset (with_arm_members x ms) a ≡ Some (with_arm_members out ns)) × (kinds out.members ≡ kinds ns)
  unfolding with_arm arm_tag tag_number
  arm_again unions part start offset x out ms a alike r h =
      let value : ℤ = const_value a.value in
      let m : ℕ = length x.members in
      let rest = and_then (arm_tag at unions start x a.tag value) (with_tagged_arm at part offset x a) in
      let first : is_first at.siblings m (Some part) a.name ≡ true = if_true (is_first at.siblings m (Some part) a.name) rest out h in
      let c = if_some (is_first at.siblings m (Some part) a.name) rest out h in
      let k = some_then (arm_tag at unions start x a.tag value) (with_tagged_arm at part offset x a) out c in
      let s = some_map (arm_shape at a) (with_arm_of part offset x value k.0) out k.2 in
      let z = arm_shape_again a s.0 r s.1 in
      let longs : m ≡ length ms = kinds_length x.members ms alike in
      let member : Member = record { offset = offset; count = 1; shape = s.0; arm = Some (part, value) } in
      let other : Member = record { offset = offset; count = 1; shape = z.0; arm = Some (part, value) } in
      let y : Arms = with_arm_members x ms in
      let tagged : arm_tag again unions start y a.tag value ≡ Some k.0 =
      ap (λ (f : ℕ → Bool). and_then (tag_number at start a.tag) (λ k. if is_own_tag unions x.tag k && (f k && not (list_any (int_eq value) x.values)) then Some k else None))
      (sym (fun_ext (λ k. tag_holds x.members k value) (λ k. tag_holds ms k value) (λ k. tag_again x.members ms k value alike))) ∙ k.1 in
      let whole : with_arm again unions part start offset y a ≡ Some (with_arm_of part offset y value k.0 z.0) =
      ap (λ (n : ℕ). if is_first at.siblings n (Some part) a.name then and_then (arm_tag again unions start y a.tag value) (with_tagged_arm again part offset y a) else None) (sym longs)
      ∙ (ap (λ (b : Bool). if b then and_then (arm_tag again unions start y a.tag value) (with_tagged_arm again part offset y a) else None) first
      ∙ (ap (λ (o : Option ℕ). and_then o (with_tagged_arm again part offset y a)) tagged ∙ ap (option_map (with_arm_of part offset y value k.0)) z.1)) in
      let alike_next : kinds (x.members ++ member ∷ []) ≡ kinds (ms ++ other ∷ []) = kinds_push x.members ms member other alike z.2 in
      subst (λ (o : Arms). (ns : List Member) × (with_arm again unions part start offset y a ≡ Some (with_arm_members o ns)) × (kinds o.members ≡ kinds ns)) s.2 (ms ++ other ∷ [], whole, alike_next)
    where
      fun_ext : {A B : Type 0} (f g : A → B) → ((a : A) → f a ≡ g a) → f ≡ g
      fun_ext f g h = λ i a. h a i

  arms_again : (unions : List UnionShape) (part start offset : ℕ) (x out : Arms) (ms : List Member) (more : List Arm) → kinds x.members ≡ kinds ms → AreReadableArms more
      → with_arms_in_turn at unions part start offset x more ≡ Ok out → ArmsAgain out (with_arms_in_turn again unions part start offset (with_arm_members x ms) more)
  arms_again unions part start offset x out ms [] alike r h =
      let e : x ≡ out = cc in
      subst (λ (o : Arms). ArmsAgain o (Ok (with_arm_members x ms))) e (ms, refl, alike)
  arms_again unions part start offset x out ms (a ∷ more) alike r h =
      let n = ok_then (with_next_arm at unions part start offset x a) (λ next. with_arms_in_turn at unions part start offset next more) out h in
      let w = ok_declared a.line (with_arm at unions part start offset x a) n.0 n.1 in
      let one = arm_again unions part start offset x n.0 ms a alike r.0 w in
      let rest = arms_again unions part start offset n.0 out one.0 more one.2 r.1 n.2 in (
        rest.0,
        ap (λ (o : Option Arms). and_ok (or_no_decl a.line o) (λ next. with_arms_in_turn again unions part start offset next more)) one.1 ∙ rest.1,
        rest.2,
      )

  -- ---- a union
  union_again : (x out : Laying) (ms : List Member) (line : ℕ) (arms : List Arm) (name : List ℕ) → kinds x.members ≡ kinds ms → AreReadableArms arms → with_union at x line arms name ≡ Ok out
      → LaidAgain out (with_union again (with_members x ms) line arms name)
  unfolding with_union with_union_at with_union_arms with_union_of is_new_union
  union_again x out ms line arms name alike r h =
      let extent : Extent = union_extent at.types arms in
      let offset : ℕ = round_up_to extent.align x.end in
      let part : ℕ = length x.unions in
      let m : ℕ = length x.members in
      let u = if_ok (is_new_union at x name) (with_union_at at x line arms name extent) (refusal.NoDecl line) out h in
      let new = new_is (is_new_union at x name) (with_union_at at x line arms name extent) (refusal.NoDecl line) out h in
      let a = ok_then (within_limits line x.fields (offset + extent.bytes)) (with_union_arms at x arms name offset extent) out u in
      let none : Arms = record { members = x.members; tag = None; values = [] } in
      let q = ok_then (with_arms_in_turn at x.unions part m offset none arms) (λ read. Ok (with_union_of x name offset extent a.0 read)) out a.2 in
      let longs : m ≡ length ms = kinds_length x.members ms alike in
      let read = arms_again x.unions part m offset none q.0 ms arms alike r q.1 in
      let y : Laying = with_members x ms in
      let next : Laying = with_union_of x name offset extent a.0 q.0 in
      let is : next ≡ out = cc in
      let whole : with_union again y line arms name ≡ Ok (with_members next read.0) =
      ap (λ (k : ℕ). if not (list_any (bytes_eq name) x.names || is_before k (member_number at.siblings.names None name)) then with_union_at again y line arms name extent else Err (refusal.NoDecl line)) (sym longs)
      ∙ (ap (λ (b : Bool). if b then with_union_at again y line arms name extent else Err (refusal.NoDecl line)) new
      ∙ (ap (λ (w : Result ℕ TypeRefusal). and_ok w (with_union_arms again y arms name offset extent)) a.1
      ∙ (ap (λ (k : ℕ). and_ok (with_arms_in_turn again x.unions part k offset (record { members = ms; tag = None; values = [] }) arms) (λ read. Ok (with_union_of y name offset extent a.0 read))) (sym longs)
      ∙ ap (λ (w : Result Arms TypeRefusal). and_ok w (λ read. Ok (with_union_of y name offset extent a.0 read))) read.1))) in
      subst (λ (o : Laying). LaidAgain o (with_union again y line arms name)) is (read.0, whole, read.2)
    where
      new_is : {A : Type 0} (b : Bool) (r : Result A TypeRefusal) (e : TypeRefusal) (o : A) → (if b then r else Err e) ≡ Ok o → b ≡ true
      new_is true r e o h = refl
      new_is false r e o h = absurd cc

  -- ---- all fields
  any_again : (x out : Laying) (ms : List Member) (f : Field) → kinds x.members ≡ kinds ms → IsReadableField f → with_any_field at x f ≡ Ok out → LaidAgain out (with_any_field again (with_members x ms) f)
  any_again x out ms (field.Plain line d) alike r h = plain_again x out ms line d alike r h
  any_again x out ms (field.Union line arms name) alike r h = union_again x out ms line arms name alike r h

  pub fields_again : (x out : Laying) (ms : List Member) (fields : List Field) → kinds x.members ≡ kinds ms → AreReadableFields fields → with_fields_in_turn at x fields ≡ Ok out
      → LaidAgain out (with_fields_in_turn again (with_members x ms) fields)
  fields_again x out ms [] alike r h =
      let e : x ≡ out = cc in
      subst (λ (o : Laying). LaidAgain o (Ok (with_members x ms))) e (ms, refl, alike)
  fields_again x out ms (f ∷ fields) alike r h =
      let n = ok_then (with_any_field at x f) (λ next. with_fields_in_turn at next fields) out h in
      let one = any_again x n.0 ms f alike r.0 n.1 in
      let rest = fields_again n.0 out one.0 fields one.2 r.1 n.2 in
      (rest.0, ap (λ (q : Result Laying TypeRefusal). and_ok q (λ next. with_fields_in_turn again next fields)) one.1 ∙ rest.1, rest.2)

-- ---- a struct
pub struct_again : (types : Types) (before now : List Extent) (number : ℕ) (s : StructItem) (laid : Laid) → AgreeBelow number before now → ((key : Element) → (key_extent now key).bytes ≤ 65536)
    → AreReadableFields s.fields → struct_laid types before number s ≡ Ok laid → (again : Laid) × (struct_laid types now number s ≡ Ok again)
unfolding struct_laid
struct_again types before now number s laid agree sizes r h =
    let siblings : Siblings = struct_siblings types s.fields in
    let at : Surroundings = record { types = types; extents = before; number = number; siblings = siblings } in
    let head = head_none (head_of_struct types number s) (laid_with types before number s.fields siblings) laid h in
    let u = unless_ok (head_of_struct types number s) (laid_with types before number s.fields siblings) laid h in
    let n = ok_then (with_fields_in_turn at empty_struct s.fields) (λ laying. Ok (laid_out types s.fields siblings laying)) laid u in
    let all = fields_again at now agree sizes empty_struct n.0 [] s.fields refl r n.1 in (
      laid_out types s.fields siblings (with_members n.0 all.0),
      ap (λ (o : Option TypeRefusal). unless o (laid_with types now number s.fields siblings)) head
          ∙ ap (λ (q : Result Laying TypeRefusal). and_ok q (λ laying. Ok (laid_out types s.fields siblings laying))) all.1,
    )
  where
    head_none : {A : Type 0} (o : Option TypeRefusal) (r : Result A TypeRefusal) (a : A) → unless o r ≡ Ok a → o ≡ None
    head_none None r a h = refl
    head_none (Some e) r a h = absurd cc
