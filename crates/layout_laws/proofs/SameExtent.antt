-- A struct has the same extent whatever structs are declared behind it: it is laid out again when the extents of all are known.
use Rattle.std.proofs.Common.{◌≡◌, ℕ, ◌+◌, ◌*◌, ◌<◌, max, Bool, true, false, List, [], ◌∷◌, ◌++◌, length, Option, Some, None, Ok, option_map, unwrap_or, if◌then◌else◌, refl, sym, ◌∙◌, ap, subst, arith}
use Rattle.std.proofs.lemmas.Bool.{ltb-true}
use Rattle.c_tree.specs.declared.items.Arm.{Arm}
use Rattle.c_tree.specs.declared.items.Declaration.{Declaration}
use Rattle.c_tree.specs.declared.items.Field.{Field}
use Rattle.c_tree.specs.declared.items.Field.TheVariants as field
use Rattle.c_tree.specs.declared.items.StructItem.{StructItem}
use Rattle.c_tree.specs.declared.types.Star.{Star}
use Rattle.c_tree.specs.declared.types.TypeName.{TypeName}
use Rattle.checked_tree.specs.declared.shapes.Shape.{Shape}
use Rattle.checked_tree.specs.declared.shapes.Shape.TheVariants as shape
use Rattle.deputy_types.specs.declared.element.Element.{Element}
use Rattle.deputy_types.specs.declared.element.Element.TheVariants as element
use Rattle.deputy_types.specs.declared.extent.Extent.{Extent}
use Rattle.deputy_types.specs.declared.laying.Arms.{Arms}
use Rattle.deputy_types.specs.declared.laying.Laid.{Laid}
use Rattle.deputy_types.specs.declared.laying.Laying.{Laying}
use Rattle.deputy_types.specs.declared.refusal.TypeRefusal.TheVariants as refusal
use Rattle.deputy_types.specs.declared.sibling.Unannotated.{Unannotated}
use Rattle.deputy_types.specs.declared.sibling.Unannotated.TheVariants as unannotated
use Rattle.deputy_types.specs.declared.siblings.Siblings.{Siblings}
use Rattle.deputy_types.specs.declared.types.Types.{Types}
use Rattle.deputy_types.specs.Declarations.{plain_shape, shape_behind, typed_shape}
use Rattle.deputy_types.specs.Extents.{no_extent, struct_extent, key_extent, stars_extent, type_extent, round_up_to}
use Rattle.deputy_types.specs.Options.{and_then}
use Rattle.deputy_types.specs.StructLayout.{Surroundings, is_new_field, field_shape, field_declared, is_complete, if_complete, siblings_of, counted, element_count, within_limits, or_no_decl, placed, with_plain, union_extent, with_arms_in_turn, is_new_union, with_union_of, with_union_arms, with_union_at, with_union, with_any_field, empty_struct, with_fields_in_turn, laid_out, head_of_struct, struct_siblings, laid_with, struct_laid}
use Rattle.deputy_types.specs.StructLaws.{AgreeBelow}
use Rattle.deputy_types.proofs.Inversions.{some_then, some_map, if_some, ok_then, ok_declared, if_ok, unless_ok, within_is}
use Rattle.deputy_types.specs.Types.{base_key, stars_key, front_stars, last_star, pointed_key}

-- a type has the same extent, where its struct, if it is one, has
same_type : (types : Types) (before now : List Extent) (plain : Unannotated) (siblings : Siblings) (place : ℕ) (t : TypeName) (x : Shape)
    → typed_shape types before plain siblings place t ≡ Some x → ((s : ℕ) → shape.Struct s ≡ x → struct_extent before s ≡ struct_extent now s)
    → type_extent types before t ≡ type_extent types now t
unfolding typed_shape pointed_key type_extent
same_type types before now plain siblings place t x h agree = by_stars (base_key types.structs t.base) t.stars h
  where
    by_key : (key : Element) → plain_shape key ≡ Some x → key_extent before key ≡ key_extent now key
    by_key (element.Int s) h = refl
    by_key (element.Struct s) h = agree s cc
    by_key (element.Sentinel n) h = refl
    by_key (element.Nullterm n) h = refl
    by_key (element.Count n k) h = refl

    by_stars : (base : Option Element) (stars : List Star)
        → and_then (and_then base (λ key. stars_key types.elements key (front_stars stars))) (λ key. shape_behind types.elements before plain siblings place key (last_star stars)) ≡ Some x
        → stars_extent (unwrap_or (option_map (key_extent before) base) no_extent) stars ≡ stars_extent (unwrap_or (option_map (key_extent now) base) no_extent) stars
    by_stars None stars h = absurd cc
    by_stars (Some key) [] h = by_key key h
    by_stars (Some key) (s ∷ ss) h = refl

-- ---- a field
record Same (a b : Laying) : Type 0 where
  end : a.end ≡ b.end
  align : a.align ≡ b.align

struct_complete : (number s : ℕ) (x : Shape) → is_complete number x ≡ true → shape.Struct s ≡ x → s < number
struct_complete number s x h e = ltb-true s number (subst (λ (y : Shape). is_complete number y ≡ true) (sym e) h)

if_true : {A : Type 0} (t : Bool) (x : A) (a : A) → (if t then Some x else None) ≡ Some a → t ≡ true
if_true true x a h = refl
if_true false x a h = absurd cc

-- what a field that stands has: its count, and an extent that later structs do not change
pub record Declares (at : Surroundings) (now : List Extent) (d : Declaration) (x : Shape × ℕ) : Type 0 where
  pub extent : type_extent at.types at.extents d.type_name ≡ type_extent at.types now d.type_name
  pub count : element_count d.size ≡ Some x.1

pub declares : (at : Surroundings) (now : List Extent) (laying : Laying) (d : Declaration) (x : Shape × ℕ)
    → AgreeBelow at.number at.extents now → field_declared at laying d ≡ Some x → Declares at now d x
unfolding field_declared field_shape
declares at now laying d x agree h =
    let m : ℕ = length laying.members in
    let c : counted (field_shape at m d) (element_count d.size) ≡ Some x = if_some (is_new_field at laying d.name) (counted (field_shape at m d) (element_count d.size)) x h in
    let a = some_then (field_shape at m d) (λ y. option_map (λ (n : ℕ). (y, n)) (element_count d.size)) x c in
    let b = some_map (element_count d.size) (λ (n : ℕ). (a.0, n)) x a.2 in
    let t = some_then (typed_shape at.types at.extents unannotated.Safe (siblings_of at.siblings d.size) m d.type_name) (if_complete at.number) a.0 a.1 in
    let whole : is_complete at.number t.0 ≡ true = if_true (is_complete at.number t.0) t.0 a.0 t.2 in
    record {
      extent = same_type at.types at.extents now unannotated.Safe (siblings_of at.siblings d.size) m d.type_name t.0 t.1
          (λ s e. agree.same s (struct_complete at.number s t.0 whole e));
      count = b.1 ∙ ap (λ (y : Shape × ℕ). Some y.1) b.2;
    }

-- where a field was placed
record IsPlaced (laying : Laying) (count : ℕ) (extent : Extent) (out : Laying) : Type 0 where
  end : out.end ≡ round_up_to extent.align laying.end + count * extent.bytes
  align : out.align ≡ max laying.align extent.align

is_placed : (laying : Laying) (line : ℕ) (x : Shape) (count : ℕ) (extent : Extent) (out : Laying) → placed laying line x count extent ≡ Ok out → IsPlaced laying count extent out
unfolding placed
is_placed laying line x count extent out h =
    let at : ℕ = round_up_to extent.align laying.end in
    let a = ok_then (within_limits line laying.fields (at + count * extent.bytes)) _ out h in
    let e : at + count * extent.bytes ≡ a.0 = within_is line laying.fields (at + count * extent.bytes) a.0 a.1 in
    let next : Laying = record {
      members = laying.members ++ (record { offset = at; count = count; shape = x; arm = None }) ∷ [];
      unions = laying.unions;
      names = laying.names;
      end = a.0;
      align = max laying.align extent.align;
      fields = laying.fields + 1;
    } in
    let is : IsPlaced laying count extent next = record { end = sym e; align = refl } in
    let same : next ≡ out = cc in subst (λ (o : Laying). IsPlaced laying count extent o) same is

-- the same struct, when the extents of later structs are known
abbrev pub later : Surroundings → List Extent → Surroundings
later at now = record { types = at.types; extents = now; number = at.number; siblings = at.siblings }

same_place : (x y : Laying) (c d : ℕ) (e f : Extent) (o p : Laying) → Same x y → c ≡ d → e ≡ f → IsPlaced x c e o → IsPlaced y d f p → Same o p
same_place x y c d e f o p same counts extents h k =
    let aligns = ap (λ (z : Extent). z.align) extents in
    let sizes = ap (λ (z : Extent). z.bytes) extents in
    let end : round_up_to e.align x.end + c * e.bytes ≡ round_up_to f.align y.end + d * f.bytes = same_end e.align f.align x.end y.end c d e.bytes f.bytes aligns same.end counts sizes in
    let align : max x.align e.align ≡ max y.align f.align = same_max x.align y.align e.align f.align same.align aligns in
    record { end = h.end ∙ (end ∙ sym k.end); align = h.align ∙ (align ∙ sym k.align) }
  where
    same_end : (a b m n c d u v : ℕ) → a ≡ b → m ≡ n → c ≡ d → u ≡ v → round_up_to a m + c * u ≡ round_up_to b n + d * v
    same_end a b m n c d u v p q r s = cc

    same_max : (a b m n : ℕ) → a ≡ b → m ≡ n → max a m ≡ max b n
    same_max a b m n p q = cc

plain_same : (at : Surroundings) (now : List Extent) (x y : Laying) (line : ℕ) (d : Declaration) (o p : Laying) → AgreeBelow at.number at.extents now
    → Same x y → with_plain at x line d ≡ Ok o → with_plain (later at now) y line d ≡ Ok p → Same o p
unfolding with_plain
plain_same at now x y line d o p agree same h k =
    let e : Extent = type_extent at.types at.extents d.type_name in
    let f : Extent = type_extent at.types now d.type_name in
    let a = ok_then (or_no_decl line (field_declared at x d)) (λ z. placed x line z.0 z.1 e) o h in
    let b = ok_then (or_no_decl line (field_declared (later at now) y d)) (λ z. placed y line z.0 z.1 f) p k in
    let first = declares at now x d a.0 agree (ok_declared line (field_declared at x d) a.0 a.1) in
    let second = declares (later at now) now y d b.0 (record { same = λ s l. refl }) (ok_declared line (field_declared (later at now) y d) b.0 b.1) in
    let counts : a.0.1 ≡ b.0.1 = some_same (sym first.count ∙ second.count) in
    same_place x y a.0.1 b.0.1 e f o p same counts first.extent (is_placed x line a.0.0 a.0.1 e o a.2) (is_placed y line b.0.0 b.0.1 f p b.2)
  where
    some_same : {m n : ℕ} → Some m ≡ Some n → m ≡ n
    some_same h = cc

-- ---- a union
is_joined : (at : Surroundings) (laying : Laying) (line : ℕ) (arms : List Arm) (name : List ℕ) (out : Laying) → with_union at laying line arms name ≡ Ok out → IsPlaced laying 1 (union_extent at.types arms) out
unfolding with_union with_union_at with_union_arms with_union_of
is_joined at laying line arms name out h =
    let extent : Extent = union_extent at.types arms in
    let offset : ℕ = round_up_to extent.align laying.end in
    let u = if_ok (is_new_union at laying name) (with_union_at at laying line arms name extent) (refusal.NoDecl line) out h in
    let a = ok_then (within_limits line laying.fields (offset + extent.bytes)) (with_union_arms at laying arms name offset extent) out u in
    let e : offset + extent.bytes ≡ a.0 = within_is line laying.fields (offset + extent.bytes) a.0 a.1 in
    let none : Arms = record { members = laying.members; tag = None; values = [] } in
    let r = ok_then (with_arms_in_turn at laying.unions (length laying.unions) (length laying.members) offset none arms) (λ read. Ok (with_union_of laying name offset extent a.0 read)) out a.2 in
    let next : Laying = with_union_of laying name offset extent a.0 r.0 in
    let is : IsPlaced laying 1 extent next = record { end = omega (arith, e); align = refl } in
    let same : next ≡ out = cc in subst (λ (o : Laying). IsPlaced laying 1 extent o) same is

-- ---- a struct
any_same : (at : Surroundings) (now : List Extent) (x y : Laying) (z : Field) (o p : Laying) → AgreeBelow at.number at.extents now
    → Same x y → with_any_field at x z ≡ Ok o → with_any_field (later at now) y z ≡ Ok p → Same o p
any_same at now x y (field.Plain line d) o p agree same h k = plain_same at now x y line d o p agree same h k
any_same at now x y (field.Union line arms name) o p agree same h k =
    let extent : Extent = union_extent at.types arms in
    same_place x y 1 1 extent extent o p same refl refl (is_joined at x line arms name o h) (is_joined (later at now) y line arms name p k)

fields_same : (at : Surroundings) (now : List Extent) (x y : Laying) (fields : List Field) (o p : Laying) → AgreeBelow at.number at.extents now
    → Same x y → with_fields_in_turn at x fields ≡ Ok o → with_fields_in_turn (later at now) y fields ≡ Ok p → Same o p
fields_same at now x y [] o p agree same h k =
    let e : x ≡ o = cc in let f : y ≡ p = cc in
    record { end = ap (λ (l : Laying). l.end) (sym e) ∙ (same.end ∙ ap (λ (l : Laying). l.end) f); align = ap (λ (l : Laying). l.align) (sym e) ∙ (same.align ∙ ap (λ (l : Laying). l.align) f) }
fields_same at now x y (z ∷ zs) o p agree same h k =
    let a = ok_then (with_any_field at x z) (λ next. with_fields_in_turn at next zs) o h in
    let b = ok_then (with_any_field (later at now) y z) (λ next. with_fields_in_turn (later at now) next zs) p k in
    fields_same at now a.0 b.0 zs o p agree (any_same at now x y z a.0 b.0 agree same a.1 b.1) a.2 b.2

abbrev extent_of : ℕ → ℕ → Extent
extent_of align end = record { bytes = round_up_to align end; align = align }

pub same_extent : (types : Types) (before now : List Extent) (number : ℕ) (s : StructItem) (a b : Laid) → AgreeBelow number before now
    → struct_laid types before number s ≡ Ok a → struct_laid types now number s ≡ Ok b → a.extent ≡ b.extent
unfolding struct_laid laid_out
same_extent types before now number s a b agree h k =
    let siblings : Siblings = struct_siblings types s.fields in
    let at : Surroundings = record { types = types; extents = before; number = number; siblings = siblings } in
    let u = unless_ok (head_of_struct types number s) (laid_with types before number s.fields siblings) a h in
    let v = unless_ok (head_of_struct types number s) (laid_with types now number s.fields siblings) b k in
    let m = ok_then (with_fields_in_turn at empty_struct s.fields) (λ laying. Ok (laid_out types s.fields siblings laying)) a u in
    let n = ok_then (with_fields_in_turn (later at now) empty_struct s.fields) (λ laying. Ok (laid_out types s.fields siblings laying)) b v in
    let same = fields_same at now empty_struct empty_struct s.fields m.0 n.0 agree (record { end = refl; align = refl }) m.1 n.1 in
    let first : laid_out types s.fields siblings m.0 ≡ a = cc in
    let second : laid_out types s.fields siblings n.0 ≡ b = cc in
    ap (λ (l : Laid). l.extent) (sym first) ∙ (of_end m.0.end n.0.end m.0.align n.0.align same.end same.align ∙ ap (λ (l : Laid). l.extent) second)
  where
    of_end : (m n c d : ℕ) → m ≡ n → c ≡ d → extent_of c m ≡ extent_of d n
    of_end m n c d p q = cc
