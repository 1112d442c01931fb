-- What a function whose declarations stand takes and gives back: each parameter is declared, its annotation counts integer parameters, and
-- the annotation of its result is constant. So the first frame of a call is good.
use Rattle.std.proofs.Common.{◌≡◌, ◌⊎◌, inl, inr, ℕ, zero, suc, ◌+◌, ◌-◌, ◌<◌, nat_lt, Bool, true, false, cond, not}
use Rattle.std.proofs.Common.{◌&&◌, is_none, is_some, position, bytes_eq, List, [], ◌∷◌, ◌++◌, map, length, ℤ, pos}
use Rattle.std.proofs.Common.{Option, Some, None, option_map, slice_get, if◌then◌else◌, All, refl, sym, ap, ◌∙◌, subst}
use Rattle.std.proofs.Common.{arith}
use Rattle.std.specs.List.{position_or_len}
use Rattle.std.specs.Option.{option_flatten}
use Rattle.std.proofs.lemmas.Bool.{eq-eqb}
use Rattle.std.proofs.lemmas.Option.{slice_get-map, slice_get_within}
use Rattle.std.proofs.lemmas.List.Elements.{All-head, All-weaker}
use Rattle.c_tree.specs.declared.items.Function.{Function}
use Rattle.c_tree.specs.declared.items.Head.{Head}
use Rattle.c_tree.specs.declared.items.Local.{Local}
use Rattle.c_tree.specs.declared.items.Param.{Param}
use Rattle.c_tree.specs.declared.items.ResultBase.{ResultBase}
use Rattle.c_tree.specs.declared.items.ResultBase.TheVariants as result
use Rattle.c_tree.specs.declared.types.Annotation.{Annotation}
use Rattle.c_tree.specs.declared.types.Annotation.TheVariants as annotation
use Rattle.c_tree.specs.declared.types.Base.{Base}
use Rattle.c_tree.specs.declared.types.Star.{Star}
use Rattle.c_tree.specs.declared.types.TypeName.{TypeName}
use Rattle.c_tree.specs.Slots.{ends_bare, locals_of, hidden_slot, slot_names}
use Rattle.checked_tree.specs.declared.shapes.Bounds.{Bounds}
use Rattle.checked_tree.specs.declared.shapes.Bounds.TheVariants as bounds
use Rattle.checked_tree.specs.declared.shapes.Edge.{Edge}
use Rattle.checked_tree.specs.declared.shapes.Scalar.TheVariants as scalar
use Rattle.checked_tree.specs.declared.shapes.Shape.{Shape}
use Rattle.checked_tree.specs.declared.shapes.Shape.TheVariants as shape
use Rattle.checked_tree.specs.declared.units.CheckedFn.{CheckedFn}
use Rattle.deputy_types.specs.declared.element.Element.{Element}
use Rattle.deputy_types.specs.declared.element.Element.TheVariants as element
use Rattle.deputy_types.specs.declared.extent.Extent.{Extent}
use Rattle.deputy_types.specs.declared.sibling.Role.TheVariants as role
use Rattle.deputy_types.specs.declared.sibling.Unannotated.{Unannotated}
use Rattle.deputy_types.specs.declared.sibling.Unannotated.TheVariants as unannotated
use Rattle.deputy_types.specs.declared.siblings.Siblings.{Siblings}
use Rattle.deputy_types.specs.declared.types.Types.{Types}
use Rattle.deputy_types.specs.Declarations.{typed_shape, declared_shape, shape_behind, pointer_shape, pointer_to, star_bounds}
use Rattle.deputy_types.specs.Declarations.{annotated_bounds, both_ends, bound_end, pointer_at, pointer_number, edge_offset, edge_terms}
use Rattle.deputy_types.specs.Declarations.{own, in_bytes, with_bytes, up_to, plain_shape}
use Rattle.deputy_types.specs.Extents.{key_extent}
use Rattle.deputy_types.specs.Options.{and_then}
use Rattle.deputy_types.specs.Siblings.{sibling_number, role_of, no_siblings}
use Rattle.deputy_types.specs.Table.{Table, element_at}
use Rattle.deputy_types.specs.Types.{element_number, pointed_key, last_star, is_char}
use Rattle.deputy_types.proofs.Inversions.{some_then, some_map}
use Rattle.deputy_rules.specs.declared.signature.Returned.{Returned}
use Rattle.deputy_rules.specs.declared.signature.Returned.TheVariants as returned
use Rattle.deputy_rules.specs.Agreement.{parameter_place, same_place}
use Rattle.deputy_rules.specs.Context.{Context, slot_shape}
use Rattle.deputy_rules.specs.Functions.{shapes_of}
use Rattle.deputy_rules.specs.Heads.{value_shape, named_shape, parameter_shapes, slot_shapes, local_shape, is_declared}
use Rattle.deputy_rules.specs.Heads.{head_parameter_stands, wrong_head_parameter, wrong_in_head, no_shapes, seen_shapes, signature_of}
use Rattle.deputy_rules.specs.Heads.{base_result, result_by, result_of}
use Rattle.deputy_rules.proofs.SlotNumbers.{slots_listed}
use Rattle.layout_laws.proofs.Lists.{slice_front}
use Rattle.light_checks.specs.Standing.{Stands}
use Rattle.light_checks.proofs.DeclaredSlots.{Decl, parameter_decl, map_length}
use Rattle.driver_safety.specs.CallLaw.{IsDeclaredResult}
use Rattle.driver_safety.specs.EntryLaw.{IsEnteredIn}
use Rattle.driver_safety.specs.Handing.{IsIntegerParameter, HasParameters}
use Rattle.driver_safety.specs.ResultLaw.{NamesNothing, ShapeIsConstant, ResultIsConstant}
use Rattle.driver_safety.specs.TypeFacts.{IsDeclared}
use Rattle.driver_safety.proofs.declarations.DeclaredShapes.{some_same, if_both, IsShapeOf, IsSide, StandsOn, CountsIntegers}
use Rattle.driver_safety.proofs.declarations.DeclaredShapes.{typed_is}
use Rattle.driver_safety.proofs.declarations.FunctionSlots.{standing, slots_stand}
use Rattle.driver_safety.proofs.declarations.SlotNames.{FitsRole, role_fits, IsLocal, IsDeclaredAs, decls, pd, param_siblings}
use Rattle.driver_safety.proofs.declarations.SlotNames.{all_siblings, shown, shown_decl, slot_is, param_scope}
use Rattle.driver_safety.proofs.declarations.SlotNames.{param_at, params_length, param_roles, all_first, all_stand, declared_at, there_is}
use Rattle.driver_safety.proofs.declarations.SlotNames.{from_zero, named_typed, value_same, hidden_at, hidden_or, position_front, first_is}

none_some : {A : Type 0} (a : A) → ◌≡◌ {A = Option A} None (Some a) → ⊥
none_some a h = absurd cc

-- ---- pointers without annotation
bare_at : (stars : List Star) (star : Star) → last_star stars ≡ Some star → star.annotation ≡ None → ends_bare stars ≡ true
bare_at [] star h e = absurd cc
bare_at (s ∷ []) star h e = ap (λ (x : Star). is_none x.annotation) (some_same s star h) ∙ ap is_none e
bare_at (s ∷ t ∷ ss) star h e = bare_at (t ∷ ss) star (sym (ap (λ (m : ℕ). slice_get (s ∷ t ∷ ss) m) (one_less s t ss)) ∙ h) e
  where
    one_less : (s t : Star) (ss : List Star) → length (s ∷ t ∷ ss) - 1 ≡ suc (length (t ∷ ss) - 1)
    one_less s t ss = omega arith

not_within : (lo hi : Edge) → bounds.Within lo hi ≡ bounds.Hidden → ⊥
not_within lo hi e = absurd cc

annotated_not : (size : ℕ) (siblings : Siblings) (place elem : ℕ) (key : Element) (a : Annotation)
    → annotated_bounds size siblings place elem key a ≡ Some bounds.Hidden → ⊥
unfolding annotated_bounds both_ends
annotated_not size siblings place elem key annotation.Safe h = absurd cc
annotated_not size siblings place elem key annotation.Sentinel h = absurd cc
annotated_not size siblings place elem key annotation.Nullterm h = by (is_char key) h
  where
    by : (b : Bool) → (if b then Some bounds.Nullterm else None) ≡ Some bounds.Hidden → ⊥
    by true h = absurd cc
    by false h = absurd cc
annotated_not size siblings place elem key (annotation.Count sum) h =
    let m = some_map (edge_terms size siblings own sum.terms) (λ hi. bounds.Within own hi) bounds.Hidden h in not_within own m.0 m.2
annotated_not size siblings place elem key (annotation.Bound lo hi) h =
    let l = some_then (bound_end size siblings place elem lo) (λ low. option_map
    (λ high. bounds.Within low high) (bound_end size siblings place elem hi)) bounds.Hidden h in
    let g = some_map (bound_end size siblings place elem hi) (λ high. bounds.Within l.0 high) bounds.Hidden l.2 in not_within l.0 g.0 g.2

hidden_bare : (types : Types) (extents : List Extent) (plain : Unannotated) (siblings : Siblings) (place : ℕ) (t : TypeName) (elem : ℕ)
    → typed_shape types extents plain siblings place t ≡ Some (shape.Pointer elem bounds.Hidden) → ends_bare t.stars ≡ true
unfolding typed_shape pointer_shape
hidden_bare types extents plain siblings place t elem h =
    let a = some_then (pointed_key types t)
    (λ key. shape_behind types.elements extents plain siblings place key (last_star t.stars)) (shape.Pointer elem bounds.Hidden) h in
    by (last_star t.stars) refl a.0 a.2
  where
    no_plain : (key : Element) → plain_shape key ≡ Some (shape.Pointer elem bounds.Hidden) → ⊥
    no_plain (element.Int s) h = absurd cc
    no_plain (element.Struct n) h = absurd cc
    no_plain (element.Sentinel n) h = absurd cc
    no_plain (element.Nullterm n) h = absurd cc
    no_plain (element.Count n k) h = absurd cc

    hidden_same : (n : ℕ) (b : Bounds) → shape.Pointer n b ≡ shape.Pointer elem bounds.Hidden → b ≡ bounds.Hidden
    hidden_same n b e = cc

    noted : (size n : ℕ) (key : Element) (o : Option Annotation) → star_bounds size plain siblings place n key o ≡ Some bounds.Hidden
        → o ≡ None
    noted size n key None h = refl
    noted size n key (Some x) h = absurd (annotated_not size siblings place n key x h)

    by : (o : Option Star) → last_star t.stars ≡ o → (key : Element)
        → shape_behind types.elements extents plain siblings place key o ≡ Some (shape.Pointer elem bounds.Hidden)
        → ends_bare t.stars ≡ true
    by None e key h = absurd (no_plain key h)
    by (Some star) e key h =
        let n = some_then (element_number types.elements key)
        (λ elem. pointer_to (key_extent extents key).bytes plain siblings place elem key star) (shape.Pointer elem bounds.Hidden) h in
        let b = some_map (star_bounds (key_extent extents key).bytes plain siblings place n.0 key star.annotation)
        (λ b. shape.Pointer n.0 b) (shape.Pointer elem bounds.Hidden) n.2 in
        bare_at t.stars star e (noted (key_extent extents key).bytes n.0 key star.annotation (b.1 ∙ ap
        (λ (x : Bounds). Some x) (hidden_same n.0 b.0 b.2)))

-- ---- results
within_low : (lo hi x y : Edge) → bounds.Within lo hi ≡ bounds.Within x y → lo ≡ x
within_low lo hi x y e = cc

constant_side : (place : ℕ) (e : Edge) → IsSide no_siblings place e → NamesNothing e
constant_side place e side = (based e.base side.base, counted e.terms side.terms)
  where
    based : (o : Option ℕ) → StandsOn no_siblings place o → o ≡ None
    based None h = refl
    based (Some j) h = absurd (none_some (role.Pointer h.0) h.1)

    counted : (ts : List (ℤ × ℕ)) → All (CountsIntegers no_siblings) ts → ts ≡ []
    counted [] all = refl
    counted (x ∷ ts) all = absurd (none_some role.Integer (All-head (CountsIntegers no_siblings) x ts all))

-- the low bound of a constant annotation is the pointer itself
bare_own : (size place elem : ℕ) (key : Element) (a : Annotation) (lo hi : Edge)
    → annotated_bounds size no_siblings place elem key a ≡ Some (bounds.Within lo hi) → lo ≡ own
unfolding annotated_bounds both_ends bound_end pointer_number
bare_own size place elem key annotation.Safe lo hi h =
    sym (within_low own (with_bytes own (in_bytes size (pos 1))) lo hi (some_same (up_to size (pos 1)) (bounds.Within lo hi) h))
bare_own size place elem key annotation.Sentinel lo hi h =
    sym (within_low own (with_bytes own (in_bytes size (pos 0))) lo hi (some_same (up_to size (pos 0)) (bounds.Within lo hi) h))
bare_own size place elem key annotation.Nullterm lo hi h =
    absurd (no_within (if_both (is_char key) (Some bounds.Nullterm) (bounds.Within lo hi) h).1)
  where
    no_within : ◌≡◌ {A = Option Bounds} (Some bounds.Nullterm) (Some (bounds.Within lo hi)) → ⊥
    no_within e = absurd cc
bare_own size place elem key (annotation.Count sum) lo hi h =
    let m = some_map (edge_terms size no_siblings own sum.terms)
    (λ hi. bounds.Within own hi) (bounds.Within lo hi) h in sym (within_low own m.0 lo hi m.2)
bare_own size place elem key (annotation.Bound x y) lo hi h =
    let l = some_then (bound_end size no_siblings place elem x) (λ low. option_map
    (λ high. bounds.Within low high) (bound_end size no_siblings place elem y)) (bounds.Within lo hi) h in
    let k = some_then (pointer_number no_siblings place elem x.pointer) (λ k. edge_offset size no_siblings (record {
      base = Some k;
      terms = [];
      bytes = pos 0;
    }) x.offset) l.0 l.1 in
    let b = some_then (sibling_number no_siblings x.pointer) (λ k. and_then (role_of no_siblings k)
    (λ r. pointer_at place elem k r)) k.0 k.1 in
    let c = some_then (role_of no_siblings b.0) (λ r. pointer_at place elem b.0 r) k.0 b.2 in
    absurd (none_some c.0 c.1)

own_low : (types : Types) (extents : List Extent) (place : ℕ) (t : TypeName) (elem : ℕ) (lo hi : Edge)
    → typed_shape types extents unannotated.Safe no_siblings place t ≡ Some (shape.Pointer elem (bounds.Within lo hi)) → lo ≡ own
unfolding typed_shape pointer_shape
own_low types extents place t elem lo hi h =
    let a = some_then (pointed_key types t)
    (λ key. shape_behind types.elements extents unannotated.Safe no_siblings place key (last_star t.stars))
    (shape.Pointer elem (bounds.Within lo hi)) h in
    by (last_star t.stars) a.0 a.2
  where
    no_plain : (key : Element) → plain_shape key ≡ Some (shape.Pointer elem (bounds.Within lo hi)) → ⊥
    no_plain (element.Int s) h = absurd cc
    no_plain (element.Struct n) h = absurd cc
    no_plain (element.Sentinel n) h = absurd cc
    no_plain (element.Nullterm n) h = absurd cc
    no_plain (element.Count n k) h = absurd cc

    same_bounds : (n : ℕ) (b : Bounds) → shape.Pointer n b ≡ shape.Pointer elem (bounds.Within lo hi) → b ≡ bounds.Within lo hi
    same_bounds n b e = cc

    noted : (size n : ℕ) (key : Element) (o : Option Annotation)
        → star_bounds size unannotated.Safe no_siblings place n key o ≡ Some (bounds.Within lo hi) → lo ≡ own
    noted size n key None h = sym
        (within_low own (with_bytes own (in_bytes size (pos 1))) lo hi (some_same (up_to size (pos 1)) (bounds.Within lo hi) h))
    noted size n key (Some x) h = bare_own size place n key x lo hi h

    by : (o : Option Star) (key : Element)
        → shape_behind types.elements extents unannotated.Safe no_siblings place key o ≡ Some (shape.Pointer elem (bounds.Within lo hi))
        → lo ≡ own
    by None key h = absurd (no_plain key h)
    by (Some star) key h =
        let n = some_then (element_number types.elements key)
        (λ elem. pointer_to (key_extent extents key).bytes unannotated.Safe no_siblings place elem key star)
        (shape.Pointer elem (bounds.Within lo hi)) h in
        let b = some_map (star_bounds (key_extent extents key).bytes unannotated.Safe no_siblings place n.0 key star.annotation)
        (λ b. shape.Pointer n.0 b) (shape.Pointer elem (bounds.Within lo hi)) n.2 in
        noted (key_extent extents key).bytes n.0 key star.annotation (b.1 ∙ ap (λ (x : Bounds). Some x) (same_bounds n.0 b.0 b.2))

-- a result that is declared
declared_shape_of : (t : Table) (siblings : Siblings) (k : ℕ) (y : Shape) → IsShapeOf t.types.elements unannotated.Safe siblings k y
    → IsDeclared t y
unfolding element_at
declared_shape_of t siblings k (shape.Int z) i = i
declared_shape_of t siblings k (shape.Struct n) i = tt
declared_shape_of t siblings k shape.Address i = i
declared_shape_of t siblings k (shape.Pointer elem bounds.Hidden) i = absurd cc
declared_shape_of t siblings k (shape.Pointer elem bounds.Nullterm) i = λ key e. some_same key (element.Int scalar.U8) (sym e ∙ i)
declared_shape_of t siblings k (shape.Pointer elem (bounds.Within lo hi)) i = tt

base_declared : (t : Table) (b : Base) (stars : List Star) (r : Returned) → base_result t b stars ≡ Some r
    → IsDeclaredResult t r × ResultIsConstant r
base_declared t b stars r h =
    let v = some_map (and_then (declared_shape t unannotated.Safe no_siblings 0 (record {
      base = b;
      stars = stars;
    })) value_shape) returned.Value r h in
    let s = some_then (declared_shape t unannotated.Safe no_siblings 0 (record { base = b; stars = stars })) value_shape v.0 v.1 in
    let same = value_same s.0 v.0 s.2 in
    let typed : typed_shape t.types t.extents unannotated.Safe no_siblings 0 (record {
      base = b;
      stars = stars;
    }) ≡ Some v.0 = s.1 ∙ ap (λ (y : Shape). Some y) same in
    let is = typed_is t.types t.extents unannotated.Safe no_siblings 0 (record { base = b; stars = stars }) v.0 typed in
    subst (λ (x : Returned). IsDeclaredResult t x × ResultIsConstant x) v.2 (declared_shape_of t no_siblings 0 v.0 is, by v.0 is typed)
  where
    by : (y : Shape) → IsShapeOf t.types.elements unannotated.Safe no_siblings 0 y
        → typed_shape t.types t.extents unannotated.Safe no_siblings 0 (record { base = b; stars = stars }) ≡ Some y → ShapeIsConstant y
    by (shape.Int z) i e = tt
    by (shape.Struct n) i e = tt
    by shape.Address i e = tt
    by (shape.Pointer elem bounds.Hidden) i e = absurd cc
    by (shape.Pointer elem bounds.Nullterm) i e = tt
    by (shape.Pointer elem (bounds.Within lo hi)) i e = (
      constant_side 0 lo i.0,
      constant_side 0 hi i.1,
      ap (λ (x : Edge). x.bytes) (own_low t.types t.extents 0 (record {
        base = b;
        stars = stars;
      }) elem lo hi e),
    )

pub result_declared : (t : Table) (h : Head) (r : Returned) → result_of t h ≡ Some r → IsDeclaredResult t r × ResultIsConstant r
unfolding result_of
result_declared t h r e = by h.result h.stars e
  where
    by : (b : ResultBase) (stars : List Star) → result_by t b stars ≡ Some r → IsDeclaredResult t r × ResultIsConstant r
    by result.Void [] e = subst (λ (x : Returned). IsDeclaredResult t x × ResultIsConstant x) (some_same returned.Nothing r e) (tt, tt)
    by result.Void (s ∷ ss) e = absurd cc
    by (result.Base b) stars e = base_declared t b stars r e

-- ---- the shapes that are there
there_count : (ss : List (Option Shape)) → ((k : ℕ) → k < length ss → is_declared ss k ≡ true) → length ss ≡ length (shapes_of ss)
there_count [] all = refl
there_count (None ∷ ss) all = absurd (missing (all 0 (omega arith)))
  where
    missing : false ≡ true → ⊥
    missing e = absurd cc
there_count (Some s ∷ ss) all = ap suc (there_count ss (λ k l. all (suc k) (omega (arith, l))))

module _ (t : Table) (f : Function) (is : Stands t f) (line numbered : ℕ) where
  abbrev ctx : Context
  ctx = standing t f is line numbered

  abbrev params : List (Option Shape)
  params = parameter_shapes t f.head.params

  abbrev scope : Siblings
  scope = param_siblings t f is

  -- a parameter
  param_typed : (k : ℕ) (d : Decl) (x : Shape) → slice_get (pd t f is) k ≡ Some d → slice_get params k ≡ Some (Some x)
      → typed_shape t.types t.extents unannotated.Safe scope k d.1 ≡ Some x
  param_typed k d x at found =
      (named_typed t unannotated.Safe scope k d x (param_scope t f is k d at).number
      (some_same (named_shape t unannotated.Safe scope d.0 d.1) (Some x) (sym (param_at t f is k d at) ∙ found))).0

  decl_at : (k : ℕ) (s : Option Shape) → slice_get params k ≡ Some s → (d : Decl) × (slice_get (pd t f is) k ≡ Some d)
  decl_at k s g = at (pd t f is) k (subst (λ n. k < n) (params_length t f is) (within params k s g))
    where
      within : {X : Type 0} (xs : List X) (k : ℕ) (x : X) → slice_get xs k ≡ Some x → k < length xs
      within [] k x g = absurd cc
      within (y ∷ xs) zero x g = omega arith
      within (y ∷ xs) (suc k) x g = let more = within xs k x g in omega (arith, more)

      at : (xs : List Decl) (k : ℕ) → k < length xs → (d : Decl) × (slice_get xs k ≡ Some d)
      at [] k l = absurd (omega (arith, l))
      at (x ∷ xs) zero l = (x, refl)
      at (x ∷ xs) (suc k) l = at xs k (omega (arith, l))

  param_in : (k : ℕ) (s : Option Shape) → slice_get params k ≡ Some s → slice_get ctx.slots k ≡ Some s
  unfolding slot_shapes
  param_in k s g = hidden_at f.locals (shown t f is) k s (slice_front params (map (local_shape t (all_siblings t f is)) f.locals) k s g)

  -- each is there
  param_there : (k : ℕ) (d : Decl) → slice_get (pd t f is) k ≡ Some d → (x : Shape) × (slice_get params k ≡ Some (Some x))
  param_there k d at =
      let there = there_is (slot_shape ctx k) (subst (λ n. is_declared ctx.slots n ≡ true) (from_zero k)
      (declared_at (locals_of f) ctx.slots 0 (decls t f is) k d (all_stand t f is) (slice_front (pd t f is) (map
      (λ (l : Local). (l.name, l.type_name)) f.locals) k d at))) in
      let here = param_at t f is k d at in
      let same : named_shape t unannotated.Safe scope d.0 d.1
      ≡ Some there.0 = sym (ap option_flatten (param_in k (named_shape t unannotated.Safe scope d.0 d.1) here)) ∙ there.1 in
      (there.0, here ∙ ap (λ (o : Option Shape). Some o) same)

  -- an integer parameter
  integer_param : (k : ℕ) → role_of scope k ≡ Some role.Integer → IsIntegerParameter params k
  integer_param k r =
      let d = param_roles t f is k role.Integer r in
      let x = param_there k d.0 d.1 in
      let fits : FitsRole role.Integer x.0 =
      subst (λ q. FitsRole q x.0) d.2
      (role_fits t.types t.extents unannotated.Safe scope k false false d.0.1 x.0 (param_typed k d.0 x.0 d.1 x.1)) in
      by x.0 x.1 fits
    where
      by : (y : Shape) → slice_get params k ≡ Some (Some y) → FitsRole role.Integer y → IsIntegerParameter params k
      by (shape.Int z) g f = (z, g)
      by (shape.Pointer elem b) g f = absurd f
      by (shape.Struct n) g f = absurd f
      by shape.Address g f = absurd f

  param_shape : (k : ℕ) (x : Shape) → slice_get params k ≡ Some (Some x) → IsShapeOf t.types.elements unannotated.Safe scope k x
  param_shape k x g = let d = decl_at k (Some x) g in typed_is t.types t.extents unannotated.Safe scope k d.0.1 x
      (param_typed k d.0 x d.1 g)

  pub has_parameters : HasParameters t params
  has_parameters = record {
    declared = λ k s g. declared_shape_of t scope k s (param_shape k s g);
    counts = λ k elem lo hi g.
        let i : IsSide scope k lo × IsSide scope k hi = param_shape k (shape.Pointer elem (bounds.Within lo hi)) g in (
          All-weaker (CountsIntegers scope) (λ (x : ℤ × ℕ). IsIntegerParameter params x.1) (λ x r. integer_param x.1 r) lo.terms i.0.terms,
          All-weaker (CountsIntegers scope) (λ (x : ℤ × ℕ). IsIntegerParameter params x.1) (λ x r. integer_param x.1 r) hi.terms i.1.terms,
        );
  }

  -- ---- entry
  automatic : (k elem : ℕ) → slot_shape ctx k ≡ Some (shape.Pointer elem bounds.Hidden) → (h : ℕ) × (hidden_slot ctx.locals k ≡ Some h)
  automatic k elem e = by (slot_is t f is k (shape.Pointer elem bounds.Hidden) e)
    where
      of_local : (d : IsDeclaredAs t f is k (shape.Pointer elem bounds.Hidden)) → IsLocal t f is k d.decl
          → (h : ℕ) × (hidden_slot ctx.locals k ≡ Some h)
      of_local d l =
          let bare = hidden_bare t.types t.extents d.plain d.siblings k d.decl.1 elem d.typed in
          let h = (slots_listed f).automatic l.place l.local l.at (ap (λ (n : TypeName). ends_bare n.stars) l.type_is ∙ bare) in
          (h.first, ap (hidden_slot (locals_of f)) l.slot ∙ h.looked_up)

      by : IsDeclaredAs t f is k (shape.Pointer elem bounds.Hidden) ⊎ (shape.Pointer elem bounds.Hidden ≡ shape.Address)
          → (h : ℕ) × (hidden_slot ctx.locals k ≡ Some h)
      by (inr e) = absurd cc
      by (inl d) = of_local d (d.home (typed_is t.types t.extents d.plain d.siblings k d.decl.1 (shape.Pointer elem bounds.Hidden) d.typed))

  slots_there : (k : ℕ) → k < length ctx.slots → is_declared ctx.slots k ≡ true
  unfolding slot_shapes
  slots_there k l = at (slice_get ctx.slots k) refl
    where
      some : (s : Option Shape) → (slice_get (shown t f is) k ≡ Some s) ⊎ (s ≡ Some shape.Address) → slice_get ctx.slots k ≡ Some s
          → is_declared ctx.slots k ≡ true
      some s (inr e) g = ap (λ (o : Option (Option Shape)). is_some (option_flatten o)) (g ∙ ap (λ (o : Option Shape). Some o) e)
      some s (inl e) g =
          let d = shown_decl t f is k s e in
          subst (λ n. is_declared ctx.slots n ≡ true) (from_zero k)
          (declared_at (locals_of f) ctx.slots 0 (decls t f is) k d.0 (all_stand t f is) d.1)

      at : (o : Option (Option Shape)) → slice_get ctx.slots k ≡ o → is_declared ctx.slots k ≡ true
      at None e = absurd (beyond ctx.slots k l e)
        where
          beyond : (xs : List (Option Shape)) (k : ℕ) → k < length xs → slice_get xs k ≡ None → ⊥
          beyond [] k l e = absurd (omega (arith, l))
          beyond (x ∷ xs) zero l e = absurd cc
          beyond (x ∷ xs) (suc k) l e = beyond xs k (omega (arith, l)) e
      at (Some s) e = some s (hidden_or f.locals (shown t f is) k s e) e

  pub entered : (g : CheckedFn) → g.slots ≡ shapes_of (slot_shapes t f) → IsEnteredIn ctx params g
  entered g e = record {
    slots = slots_stand t f is line numbered;
    parameters = param_in;
    automatic = automatic;
    many = there_count ctx.slots slots_there ∙ ap length (sym e);
  }

  -- what calls see of the parameters
  place_is : (name : List ℕ) (ps : List Param) → parameter_place ps name ≡ position (bytes_eq name) (map (λ (p : Param). p.name) ps)
  place_is name ps =
      let l = map_length (λ (p : Param). p.name) ps in
      ap (λ (n : ℕ). if nat_lt n (length ps) then Some n else None) (by ps)
      ∙ ap (λ (m : ℕ). if nat_lt (position_or_len (bytes_eq name) (map (λ (p : Param). p.name) ps)) m
      then Some (position_or_len (bytes_eq name) (map (λ (p : Param). p.name) ps)) else None) (sym l)
    where
      by : (ps : List Param) → position_or_len (λ (p : Param). bytes_eq name p.name) ps
          ≡ position_or_len (bytes_eq name) (map (λ (p : Param). p.name) ps)
      by [] = refl
      by (p ∷ ps) = ap (λ (n : ℕ). cond (not (bytes_eq name p.name)) (1 + n) 0) (by ps)

  param_stands : (k : ℕ) (p : Param) → slice_get f.head.params k ≡ Some p → head_parameter_stands f.head.params params k p.name ≡ true
  unfolding head_parameter_stands
  param_stands k p at =
      let d : slice_get (pd t f is) k
      ≡ Some (parameter_decl p) = slice_get-map parameter_decl f.head.params k ∙ ap
      (λ (o : Option Param). option_map parameter_decl o) at in
      let there = param_there k (parameter_decl p) d in
      let all = slice_front (pd t f is) (map (λ (l : Local). (l.name, l.type_name)) f.locals) k (parameter_decl p) d in
      let found : position (bytes_eq p.name) (map (λ (q : Param). q.name) f.head.params ++ map (λ (l : Local). l.name) f.locals) ≡ Some k =
      first_is (slot_names f) 0 (decls t f is) k (parameter_decl p) (all_first t f is) all ∙ ap (λ (n : ℕ). Some n) (from_zero k) in
      let below : k < length (map (λ (q : Param). q.name) f.head.params) = subst (λ n. k < n) (sym (map_length
      (λ (q : Param). q.name) f.head.params)) (slice_get_within f.head.params k p at) in
      let place = place_is p.name f.head.params
      ∙ position_front (bytes_eq p.name) (map (λ (q : Param). q.name) f.head.params) (map (λ (l : Local). l.name) f.locals) k found below in
      ap (λ (o : Option ℕ). same_place o (Some k) && is_declared params k) place
      ∙ (ap (λ (b : Bool). b && is_declared params k) (eq-eqb k k refl) ∙ ap
      (λ (o : Option (Option Shape)). is_some (option_flatten o)) there.1)

  none_wrong : (ps : List Param) (i : ℕ)
      → ((k : ℕ) (p : Param) → slice_get ps k ≡ Some p → head_parameter_stands f.head.params params (i + k) p.name ≡ true)
      → wrong_head_parameter f.head.params params i ps ≡ None
  none_wrong [] i all = refl
  none_wrong (p ∷ ps) i all =
      ap (λ (b : Bool). if b then wrong_head_parameter f.head.params params (i + 1) ps else Some p.line)
      (subst (λ n. head_parameter_stands f.head.params params n p.name ≡ true) (more i) (all 0 p refl))
      ∙ none_wrong ps (i + 1) (λ k q g. subst
      (λ n. head_parameter_stands f.head.params params n q.name ≡ true) (farther i k) (all (suc k) q g))
    where
      more : (i : ℕ) → i + 0 ≡ i
      more i = omega arith

      farther : (i k : ℕ) → i + suc k ≡ i + 1 + k
      farther i k = omega arith

  pub seen : (signature_of t f).params ≡ params
  unfolding signature_of seen_shapes wrong_in_head
  seen =
      ap (λ (o : Option ℕ). if is_none o then params else no_shapes params)
      (none_wrong f.head.params 0 (λ k p g. subst
      (λ n. head_parameter_stands f.head.params params n p.name ≡ true) (sym (from_zero k)) (param_stands k p g)))
