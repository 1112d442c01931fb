-- Each member of a struct that was laid out lies at a multiple of its alignment, behind those before it and within the struct.
use Rattle.std.proofs.Common.{◌≡◌, ◌≢◌, ◌⊎◌, inl, inr, ℕ, zero, suc, ◌+◌, ◌-◌, ◌*◌, ◌/◌, ◌≤◌, max, true, List, [], ◌∷◌, ◌++◌, length, ℤ, Option, Some, None, Result, Ok, Err, IfOk, option_map, unwrap_or, All, refl, sym, ◌∙◌, ap, subst, arith}
use Rattle.std.proofs.lemmas.List.Elements.{All-nil, All-push, All-tail, All-weaker}
use Rattle.std.proofs.lemmas.Bool.{eq-eqb}
use Rattle.std.proofs.lemmas.Option.{slice_get-get_or}
use Rattle.c_tree.specs.declared.items.Arm.{Arm}
use Rattle.c_tree.specs.declared.items.Declaration.{Declaration}
use Rattle.c_tree.specs.declared.items.Field.{Field}
use Rattle.c_tree.specs.declared.items.Field.TheVariants as field
use Rattle.c_tree.specs.declared.items.StructItem.{StructItem}
use Rattle.c_tree.specs.declared.types.Star.{Star}
use Rattle.c_tree.specs.declared.types.TypeName.{TypeName}
use Rattle.checked_tree.specs.declared.shapes.Member.{Member}
use Rattle.checked_tree.specs.declared.shapes.Scalar.TheVariants as scalar
use Rattle.checked_tree.specs.declared.shapes.Shape.{Shape}
use Rattle.checked_tree.specs.declared.shapes.Shape.TheVariants as shape
use Rattle.checked_tree.specs.declared.shapes.UnionShape.{UnionShape}
use Rattle.deputy_types.specs.declared.element.Element.{Element}
use Rattle.deputy_types.specs.declared.element.Element.TheVariants as element
use Rattle.deputy_types.specs.declared.extent.Extent.{Extent}
use Rattle.deputy_types.specs.declared.laying.Arms.{Arms}
use Rattle.deputy_types.specs.declared.laying.Laid.{Laid}
use Rattle.deputy_types.specs.declared.laying.Laying.{Laying}
use Rattle.deputy_types.specs.declared.refusal.TypeRefusal.{TypeRefusal}
use Rattle.deputy_types.specs.declared.refusal.TypeRefusal.TheVariants as refusal
use Rattle.deputy_types.specs.declared.sibling.Unannotated.{Unannotated}
use Rattle.deputy_types.specs.declared.sibling.Unannotated.TheVariants as unannotated
use Rattle.deputy_types.specs.declared.siblings.Siblings.{Siblings}
use Rattle.deputy_types.specs.declared.types.Types.{Types}
use Rattle.deputy_types.specs.Declarations.{plain_shape, pointer_shape, shape_behind, star_bounds, typed_shape}
use Rattle.deputy_types.specs.Extents.{IsExtent, AreExtents, natural, no_extent, key_extent, own_extent, stars_extent, type_extent, arm_extent, round_up_to, greater}
use Rattle.deputy_types.specs.Options.{and_then}
use Rattle.deputy_types.specs.Siblings.{no_siblings}
use Rattle.deputy_types.specs.StructLayout.{Surroundings, or_no_decl, is_first, is_new_field, field_shape, field_declared, is_complete, if_complete, siblings_of, counted, element_count, within_limits, placed, with_plain, arms_extent, union_extent, const_value, arm_tag, if_number, arm_shape, with_arm_of, with_tagged_arm, with_arm, with_next_arm, with_arms_in_turn, is_new_union, with_union_of, with_union_arms, with_union_at, with_union, with_any_field, empty_struct, with_fields_in_turn, laid_out, head_of_struct, struct_siblings, laid_with, struct_laid}
use Rattle.deputy_types.proofs.Inversions.{some_then, some_map, if_some, ok_then, ok_declared, if_ok, unless_ok, within_is}
use Rattle.deputy_types.proofs.TypeExtents.{type_is_extent, greater_is_extent, arm_is_extent, arms_is_extent, one_byte_is, union_is_extent}
use Rattle.deputy_types.specs.StructLaws.{IsMultiple, shape_extent, LiesWithin, is_arm_of, IsBefore, AreInOrder, IsLaidOut}
use Rattle.deputy_types.specs.UnitLayout.{IsAnswer}
use Rattle.deputy_types.specs.Types.{base_key, element_number, stars_key, front_stars, last_star, pointed_key}

-- ---- the extent of a type is that of its shape
plain_extent : (extents : List Extent) (key : Element) (x : Shape) → plain_shape key ≡ Some x → key_extent extents key ≡ shape_extent extents x
plain_extent extents (element.Int s) x h = let e : shape.Int s ≡ x = cc in ap (shape_extent extents) e
plain_extent extents (element.Struct n) x h = let e : shape.Struct n ≡ x = cc in ap (shape_extent extents) e
plain_extent extents (element.Sentinel n) x h = absurd cc
plain_extent extents (element.Nullterm n) x h = absurd cc
plain_extent extents (element.Count n k) x h = absurd cc

pointer_extent : (elements : List Element) (extents : List Extent) (plain : Unannotated) (siblings : Siblings) (place : ℕ) (key : Element) (star : Star) (x : Shape)
    → pointer_shape elements extents plain siblings place key star ≡ Some x → natural 4 ≡ shape_extent extents x
unfolding pointer_shape
pointer_extent elements extents plain siblings place key star x h =
    let a = some_then (element_number elements key) _ x h in
    let b = some_map (star_bounds (key_extent extents key).bytes plain siblings place a.0 key star.annotation) (λ b. shape.Pointer a.0 b) x a.2 in
    ap (shape_extent extents) b.2

behind_extent : (elements : List Element) (extents : List Extent) (plain : Unannotated) (siblings : Siblings) (place : ℕ) (key : Element) (o : Option Star) (x : Shape)
    → (o ≡ None → ⊥) → shape_behind elements extents plain siblings place key o ≡ Some x → natural 4 ≡ shape_extent extents x
behind_extent elements extents plain siblings place key None x there h = absurd (there refl)
behind_extent elements extents plain siblings place key (Some star) x there h = pointer_extent elements extents plain siblings place key star x h

last_there : (s : Star) (ss : List Star) → last_star (s ∷ ss) ≡ None → ⊥
last_there s ss h = let e = slice_get-get_or (s ∷ ss) (length (s ∷ ss) - 1) s (omega arith) in cc

by_stars : (elements : List Element) (extents : List Extent) (plain : Unannotated) (siblings : Siblings) (place : ℕ) (base : Option Element) (stars : List Star) (x : Shape)
    → and_then (and_then base (λ key. stars_key elements key (front_stars stars))) (λ key. shape_behind elements extents plain siblings place key (last_star stars)) ≡ Some x
    → stars_extent (unwrap_or (option_map (key_extent extents) base) no_extent) stars ≡ shape_extent extents x
by_stars elements extents plain siblings place None stars x h = absurd cc
by_stars elements extents plain siblings place (Some key) [] x h = plain_extent extents key x h
by_stars elements extents plain siblings place (Some key) (s ∷ ss) x h =
    let a = some_then (stars_key elements key (front_stars (s ∷ ss))) (λ k. shape_behind elements extents plain siblings place k (last_star (s ∷ ss))) x h in
    behind_extent elements extents plain siblings place a.0 (last_star (s ∷ ss)) x (last_there s ss) a.2

typed_extent : (types : Types) (extents : List Extent) (plain : Unannotated) (siblings : Siblings) (place : ℕ) (t : TypeName) (x : Shape)
    → typed_shape types extents plain siblings place t ≡ Some x → type_extent types extents t ≡ shape_extent extents x
unfolding typed_shape pointed_key type_extent
typed_extent types extents plain siblings place t x h = by_stars types.elements extents plain siblings place (base_key types.structs t.base) t.stars x h

-- ---- a field
record Lie (extents : List Extent) (laying : Laying) : Type 0 where
  members : All (LiesWithin extents laying.end) laying.members
  order : AreInOrder extents laying.members
  least : 1 ≤ laying.align

in_order_push : (extents : List Extent) (ms : List Member) (x : Member) → AreInOrder extents ms → All (λ m. IsBefore extents m x) ms → AreInOrder extents (ms ++ x ∷ [])
in_order_push extents [] x order all = (All-nil (IsBefore extents x), tt)
in_order_push extents (m ∷ ms) x order all =
    (All-push (IsBefore extents m) ms x order.0 (all 0 m (omega arith)), in_order_push extents ms x order.1 (All-tail (λ k. IsBefore extents k x) m ms all))

-- what ends before a place is before what begins there
ended_before : (extents : List Extent) (end : ℕ) (m n : Member) → end ≤ n.offset → LiesWithin extents end m → IsBefore extents m n
ended_before extents end m n h l = inl (omega (arith, l.within))

farther : (extents : List Extent) (n m : ℕ) (x : Member) → n ≤ m → LiesWithin extents n x → LiesWithin extents m x
farther extents n m x h l = record { aligned = l.aligned; within = omega (arith, l.within) }

rounded : (align n : ℕ) → IsMultiple align (round_up_to align n)
rounded align n = ((n + (align - 1)) / align, refl)

rounded_above : (align n : ℕ) → 1 ≤ align → n ≤ round_up_to align n
rounded_above align n h = grind arith

placed_lies : (extents : List Extent) (laying : Laying) (line : ℕ) (x : Shape) (count : ℕ) (extent : Extent) (out : Laying)
    → extent ≡ shape_extent extents x → 1 ≤ extent.align → Lie extents laying → placed laying line x count extent ≡ Ok out → Lie extents out
unfolding placed
placed_lies extents laying line x count extent out same least lie h =
    let at : ℕ = round_up_to extent.align laying.end in
    let a = ok_then (within_limits line laying.fields (at + count * extent.bytes)) _ out h in
    let e : at + count * extent.bytes ≡ a.0 = within_is line laying.fields (at + count * extent.bytes) a.0 a.1 in
    let above = rounded_above extent.align laying.end least in
    let new : Member = record { offset = at; count = count; shape = x; arm = None } in
    let here : LiesWithin extents a.0 new = record {
      aligned = subst (λ (y : Extent). IsMultiple y.align at) same (rounded extent.align laying.end);
      within = subst (λ (y : Extent). at + count * y.bytes ≤ a.0) same (omega arith);
    } in
    let next : Laying = record {
      members = laying.members ++ new ∷ [];
      unions = laying.unions;
      names = laying.names;
      end = a.0;
      align = max laying.align extent.align;
      fields = laying.fields + 1;
    } in
    let all : Lie extents next = record {
      members = All-push (LiesWithin extents a.0) laying.members new (All-weaker (LiesWithin extents laying.end) (LiesWithin extents a.0) (λ m. farther extents laying.end a.0 m (omega arith)) laying.members lie.members) here;
      order = in_order_push extents laying.members new lie.order
          (All-weaker (LiesWithin extents laying.end) (λ m. IsBefore extents m new) (λ m. ended_before extents laying.end m new above) laying.members lie.members);
      least = omega (arith, lie.least);
    } in
    let e : next ≡ out = cc in subst (λ (o : Laying). Lie extents o) e all

field_extent : (at : Surroundings) (laying : Laying) (d : Declaration) (x : Shape × ℕ)
    → field_declared at laying d ≡ Some x → type_extent at.types at.extents d.type_name ≡ shape_extent at.extents x.0
unfolding field_declared field_shape
field_extent at laying d x h =
    let m : ℕ = length laying.members in
    let c : counted (field_shape at m d) (element_count d.size) ≡ Some x = if_some (is_new_field at laying d.name) (counted (field_shape at m d) (element_count d.size)) x h in
    let a = some_then (field_shape at m d) (λ y. option_map (λ (n : ℕ). (y, n)) (element_count d.size)) x c in
    let b = some_map (element_count d.size) (λ (n : ℕ). (a.0, n)) x a.2 in
    let t = some_then (typed_shape at.types at.extents unannotated.Safe (siblings_of at.siblings d.size) m d.type_name) (if_complete at.number) a.0 a.1 in
    let e : Some t.0 ≡ Some a.0 = if_some (is_complete at.number t.0) (Some t.0) a.0 t.2 in
    let f : t.0 ≡ a.0 = cc in
    typed_extent at.types at.extents unannotated.Safe (siblings_of at.siblings d.size) m d.type_name t.0 t.1
    ∙ (ap (shape_extent at.extents) f ∙ ap (λ (y : Shape × ℕ). shape_extent at.extents y.0) b.2)

plain_lies : (at : Surroundings) (laying : Laying) (line : ℕ) (d : Declaration) (out : Laying)
    → AreExtents at.extents → Lie at.extents laying → with_plain at laying line d ≡ Ok out → Lie at.extents out
unfolding with_plain
plain_lies at laying line d out extents lie h =
    let extent : Extent = type_extent at.types at.extents d.type_name in
    let a = ok_then (or_no_decl line (field_declared at laying d)) (λ x. placed laying line x.0 x.1 extent) out h in
    let there = field_extent at laying d a.0 (ok_declared line (field_declared at laying d) a.0 a.1) in
    let is = type_is_extent at.types at.extents d.type_name extents in
    placed_lies at.extents laying line a.0.0 a.0.1 extent out there is.least lie a.2

-- ---- the arms of a union
-- a type for which there is room at an offset, before an end
record Fits (offset end : ℕ) (x : Extent) : Type 0 where
  aligned : IsMultiple x.align offset
  within : offset + x.bytes ≤ end

same_number : (y x : Shape) → if_number y ≡ Some x → y ≡ x
same_number (shape.Int s) x h = cc
same_number (shape.Pointer elem bounds) x h = cc
same_number (shape.Struct s) x h = absurd cc
same_number shape.Address x h = absurd cc

-- a number or a pointer has its own extent
own_plain : (extents : List Extent) (key : Element) (y x : Shape) → plain_shape key ≡ Some y → if_number y ≡ Some x → own_extent key ≡ shape_extent extents x
own_plain extents (element.Int s) y x h k = let e : shape.Int s ≡ y = cc in ap (shape_extent extents) (e ∙ same_number y x k)
own_plain extents (element.Struct n) y x h k =
    let e : shape.Struct n ≡ y = cc in
    let f : if_number (shape.Struct n) ≡ Some x = subst (λ (z : Shape). if_number z ≡ Some x) (sym e) k in absurd cc
own_plain extents (element.Sentinel n) y x h k = absurd cc
own_plain extents (element.Nullterm n) y x h k = absurd cc
own_plain extents (element.Count n j) y x h k = absurd cc

own_by_stars : (elements : List Element) (extents : List Extent) (base : Option Element) (stars : List Star) (y x : Shape)
    → and_then (and_then base (λ key. stars_key elements key (front_stars stars)))
    (λ key. shape_behind elements extents unannotated.Safe no_siblings 0 key (last_star stars)) ≡ Some y → if_number y ≡ Some x
    → stars_extent (unwrap_or (option_map own_extent base) no_extent) stars ≡ shape_extent extents x
own_by_stars elements extents None stars y x h k = absurd cc
own_by_stars elements extents (Some key) [] y x h k = own_plain extents key y x h k
own_by_stars elements extents (Some key) (s ∷ ss) y x h k =
    let a = some_then (stars_key elements key (front_stars (s ∷ ss))) (λ j. shape_behind elements extents unannotated.Safe no_siblings 0 j (last_star (s ∷ ss))) y h in
    behind_extent elements extents unannotated.Safe no_siblings 0 a.0 (last_star (s ∷ ss)) y (last_there s ss) a.2 ∙ ap (shape_extent extents) (same_number y x k)

arm_has_extent : (at : Surroundings) (a : Arm) (x : Shape) → arm_shape at a ≡ Some x → arm_extent at.types a.type_name ≡ shape_extent at.extents x
unfolding arm_shape typed_shape pointed_key arm_extent
arm_has_extent at a x h =
    let t = some_then (typed_shape at.types at.extents unannotated.Safe no_siblings 0 a.type_name) if_number x h in
    own_by_stars at.types.elements at.extents (base_key at.types.structs a.type_name.base) a.type_name.stars t.0 x t.1 t.2

-- a member that ends before an offset, or is an arm of this union
abbrev IsReady : List Extent → ℕ → ℕ → Member → Type 0
IsReady extents part offset m = (m.offset + m.count * (shape_extent extents m.shape).bytes ≤ offset) ⊎ (is_arm_of part m.arm ≡ true)

-- the members of a struct up to an arm of the union with this number, at this offset, that ends at this end
record ArmsLie (extents : List Extent) (part offset end : ℕ) (arms : Arms) : Type 0 where
  members : All (LiesWithin extents end) arms.members
  order : AreInOrder extents arms.members
  ready : All (IsReady extents part offset) arms.members

ended : (extents : List Extent) (end offset part : ℕ) (m : Member) → end ≤ offset → LiesWithin extents end m → IsReady extents part offset m
ended extents end offset part m h l = inl (omega (arith, l.within))

arm_lies : (at : Surroundings) (unions : List UnionShape) (part start offset end : ℕ) (arms : Arms) (a : Arm) (out : Arms)
    → Fits offset end (arm_extent at.types a.type_name) → ArmsLie at.extents part offset end arms
    → with_arm at unions part start offset arms a ≡ Some out → ArmsLie at.extents part offset end out
unfolding with_arm
arm_lies at unions part start offset end arms a out fits lie h =
    let value : ℤ = const_value a.value in
    let c = if_some (is_first at.siblings (length arms.members) (Some part) a.name) (and_then (arm_tag at unions start arms a.tag value) (with_tagged_arm at part offset arms a)) out h in
    let k = some_then (arm_tag at unions start arms a.tag value) (with_tagged_arm at part offset arms a) out c in
    let x = some_map (arm_shape at a) (with_arm_of part offset arms value k.0) out k.2 in
    let same : arm_extent at.types a.type_name ≡ shape_extent at.extents x.0 = arm_has_extent at a x.0 x.1 in
    let new : Member = record { offset = offset; count = 1; shape = x.0; arm = Some (part, value) } in
    let here : LiesWithin at.extents end new = record {
      aligned = subst (λ (y : Extent). IsMultiple y.align offset) same fits.aligned;
      within = subst (λ (y : Extent). offset + 1 * y.bytes ≤ end) same (omega (arith, fits.within));
    } in
    let next : Arms = with_arm_of part offset arms value k.0 x.0 in
    let all : ArmsLie at.extents part offset end next = record {
      members = All-push (LiesWithin at.extents end) arms.members new lie.members here;
      order = in_order_push at.extents arms.members new lie.order lie.ready;
      ready = All-push (IsReady at.extents part offset) arms.members new lie.ready (inr (eq-eqb part part refl));
    } in
    subst (λ (o : Arms). ArmsLie at.extents part offset end o) x.2 all

abbrev AllFit : Types → ℕ → ℕ → List Arm → Type 0
AllFit types offset end [] = Unit {0}
AllFit types offset end (a ∷ arms) = Fits offset end (arm_extent types a.type_name) × AllFit types offset end arms

arms_lie : (at : Surroundings) (unions : List UnionShape) (part start offset end : ℕ) (arms : Arms) (more : List Arm) (out : Arms)
    → AllFit at.types offset end more → ArmsLie at.extents part offset end arms
    → with_arms_in_turn at unions part start offset arms more ≡ Ok out → ArmsLie at.extents part offset end out
arms_lie at unions part start offset end arms [] out fit lie h = let e : arms ≡ out = cc in subst (λ (o : Arms). ArmsLie at.extents part offset end o) e lie
arms_lie at unions part start offset end arms (a ∷ more) out fit lie h =
    let n = ok_then (with_next_arm at unions part start offset arms a) (λ next. with_arms_in_turn at unions part start offset next more) out h in
    let w = ok_declared a.line (with_arm at unions part start offset arms a) n.0 n.1 in
    arms_lie at unions part start offset end n.0 more out fit.1 (arm_lies at unions part start offset end arms a n.0 fit.0 lie w) n.2

-- ---- a union has room for each of its arms
is_power : (a : ℕ) → 1 ≤ a → a ≤ 4 → a ≢ 3 → (a ≡ 1) ⊎ ((a ≡ 2) ⊎ (a ≡ 4))
is_power zero l g o = absurd (omega arith)
is_power (suc zero) l g o = inl refl
is_power (suc (suc zero)) l g o = inr (inl refl)
is_power (suc (suc (suc zero))) l g o = absurd (o refl)
is_power (suc (suc (suc (suc zero)))) l g o = inr (inr refl)
is_power (suc (suc (suc (suc (suc n))))) l g o = absurd (omega arith)

multiple_of_less : (a g n : ℕ) → (a ≡ 1) ⊎ ((a ≡ 2) ⊎ (a ≡ 4)) → (g ≡ 1) ⊎ ((g ≡ 2) ⊎ (g ≡ 4)) → a ≤ g → IsMultiple g n → IsMultiple a n
multiple_of_less a g n (inl e) q l m = subst (λ (b : ℕ). IsMultiple b n) (sym e) (n, omega arith)
multiple_of_less a g n (inr (inl e)) (inl f) l m = absurd (omega arith)
multiple_of_less a g n (inr (inl e)) (inr (inl f)) l m = subst (λ (b : ℕ). IsMultiple b n) (f ∙ sym e) m
multiple_of_less a g n (inr (inl e)) (inr (inr f)) l m =
    let four = subst (λ (b : ℕ). IsMultiple b n) f m in subst (λ (b : ℕ). IsMultiple b n) (sym e) (four.0 * 2, omega (arith, four.1))
multiple_of_less a g n (inr (inr e)) (inl f) l m = absurd (omega arith)
multiple_of_less a g n (inr (inr e)) (inr (inl f)) l m = absurd (omega arith)
multiple_of_less a g n (inr (inr e)) (inr (inr f)) l m = subst (λ (b : ℕ). IsMultiple b n) (f ∙ sym e) m

record IsLess (x y : Extent) : Type 0 where
  bytes : x.bytes ≤ y.bytes
  align : x.align ≤ y.align

fits_less : (offset end : ℕ) (x y : Extent) → IsExtent x → IsExtent y → IsLess x y → Fits offset end y → Fits offset end x
fits_less offset end x y p q l f = record {
  aligned = multiple_of_less x.align y.align offset (is_power x.align p.least p.greatest p.other) (is_power y.align q.least q.greatest q.other) l.align f.aligned;
  within = omega (arith, l.bytes, f.within);
}

less_of_both : (x t y : Extent) → IsLess (greater x t) y → IsLess x y × IsLess t y
less_of_both x t y l = (record { bytes = omega (arith, l.bytes); align = omega (arith, l.align) }, record { bytes = omega (arith, l.bytes); align = omega (arith, l.align) })

arms_grow : (types : Types) (x : Extent) (arms : List Arm) → IsLess x (arms_extent types x arms)
arms_grow types x [] = record { bytes = omega arith; align = omega arith }
arms_grow types x (a ∷ arms) = (less_of_both x (arm_extent types a.type_name) _ (arms_grow types (greater x (arm_extent types a.type_name)) arms)).0

all_fit : (types : Types) (offset end : ℕ) (x : Extent) (arms : List Arm) → IsExtent x → Fits offset end (arms_extent types x arms) → AllFit types offset end arms
all_fit types offset end x [] p f = tt
all_fit types offset end x (a ∷ arms) p f =
    let t : Extent = arm_extent types a.type_name in
    let is = arm_is_extent types a.type_name in
    let both = greater_is_extent x t p is in
    let all = arms_is_extent types (greater x t) arms both in (
      fits_less offset end t (arms_extent types (greater x t) arms) is all (less_of_both x t _ (arms_grow types (greater x t) arms)).1 f,
      all_fit types offset end (greater x t) arms both f,
    )

union_lies : (at : Surroundings) (laying : Laying) (line : ℕ) (arms : List Arm) (name : List ℕ) (out : Laying)
    → AreExtents at.extents → Lie at.extents laying → with_union at laying line arms name ≡ Ok out → Lie at.extents out
unfolding with_union with_union_at with_union_arms with_union_of
union_lies at laying line arms name out extents lie h =
    let extent : Extent = union_extent at.types arms in
    let is : IsExtent extent = union_is_extent at.types arms in
    let offset : ℕ = round_up_to extent.align laying.end in
    let above = rounded_above extent.align laying.end is.least in
    let u = if_ok (is_new_union at laying name) (with_union_at at laying line arms name extent) (refusal.NoDecl line) out h in
    let a = ok_then (within_limits line laying.fields (offset + extent.bytes)) (with_union_arms at laying arms name offset extent) out u in
    let e : offset + extent.bytes ≡ a.0 = within_is line laying.fields (offset + extent.bytes) a.0 a.1 in
    let none : Arms = record { members = laying.members; tag = None; values = [] } in
    let r = ok_then (with_arms_in_turn at laying.unions (length laying.unions) (length laying.members) offset none arms) (λ read. Ok (with_union_of laying name offset extent a.0 read)) out a.2 in
    let room : Fits offset a.0 extent = record { aligned = rounded extent.align laying.end; within = omega arith } in
    let before : ArmsLie at.extents (length laying.unions) offset a.0 none = record {
      members = All-weaker (LiesWithin at.extents laying.end) (LiesWithin at.extents a.0) (λ m. farther at.extents laying.end a.0 m (omega arith)) laying.members lie.members;
      order = lie.order;
      ready = All-weaker (LiesWithin at.extents laying.end) (IsReady at.extents (length laying.unions) offset) (λ m. ended at.extents laying.end offset (length laying.unions) m above) laying.members lie.members;
    } in
    let all = arms_lie at laying.unions (length laying.unions) (length laying.members) offset a.0 none arms r.0 (all_fit at.types offset a.0 (natural 1) arms one_byte_is room) before r.1 in
    let next : Laying = with_union_of laying name offset extent a.0 r.0 in
    let lies : Lie at.extents next = record { members = all.members; order = all.order; least = omega (arith, lie.least) } in
    let same : next ≡ out = cc in subst (λ (o : Laying). Lie at.extents o) same lies

-- ---- a struct
any_lies : (at : Surroundings) (laying : Laying) (x : Field) (out : Laying)
    → AreExtents at.extents → Lie at.extents laying → with_any_field at laying x ≡ Ok out → Lie at.extents out
any_lies at laying (field.Plain line d) out extents lie h = plain_lies at laying line d out extents lie h
any_lies at laying (field.Union line arms name) out extents lie h = union_lies at laying line arms name out extents lie h

fields_lie : (at : Surroundings) (laying : Laying) (fields : List Field) (out : Laying)
    → AreExtents at.extents → Lie at.extents laying → with_fields_in_turn at laying fields ≡ Ok out → Lie at.extents out
fields_lie at laying [] out extents lie h = let e : laying ≡ out = cc in subst (λ (o : Laying). Lie at.extents o) e lie
fields_lie at laying (x ∷ fields) out extents lie h =
    let n = ok_then (with_any_field at laying x) (λ next. with_fields_in_turn at next fields) out h in
    fields_lie at n.0 fields out extents (any_lies at laying x n.0 extents lie n.1) n.2

pub laid_out-lies : (types : Types) (extents : List Extent) (number : ℕ) (s : StructItem) (laid : Laid)
    → AreExtents extents → struct_laid types extents number s ≡ Ok laid → IsLaidOut extents laid
unfolding struct_laid laid_out
laid_out-lies types extents number s laid are h =
    let siblings : Siblings = struct_siblings types s.fields in
    let at : Surroundings = record { types = types; extents = extents; number = number; siblings = siblings } in
    let u = unless_ok (head_of_struct types number s) (laid_with types extents number s.fields siblings) laid h in
    let n = ok_then (with_fields_in_turn at empty_struct s.fields) (λ laying. Ok (laid_out types s.fields siblings laying)) laid u in
    let lie = fields_lie at empty_struct s.fields n.0 are (record { members = All-nil (LiesWithin extents 0); order = tt; least = omega arith }) n.1 in
    let above = rounded_above n.0.align n.0.end lie.least in
    let next : Laid = laid_out types s.fields siblings n.0 in
    let is : IsLaidOut extents next = record {
      members = All-weaker (LiesWithin extents n.0.end) (LiesWithin extents next.shape.size) (λ m. farther extents n.0.end next.shape.size m above) n.0.members lie.members;
      order = lie.order;
      size = rounded n.0.align n.0.end;
      bytes = refl;
    } in
    let same : next ≡ laid = cc in subst (λ (o : Laid). IsLaidOut extents o) same is

pub answer_lies : (types : Types) (extents : List Extent) (number : ℕ) (s : StructItem) (result : Result Laid TypeRefusal)
    → AreExtents extents → IsAnswer (struct_laid types extents number s) result → IfOk result (λ laid. IsLaidOut extents laid)
answer_lies types extents number s (Ok laid) are h = laid_out-lies types extents number s laid are h
answer_lies types extents number s (Err e) are h = tt
