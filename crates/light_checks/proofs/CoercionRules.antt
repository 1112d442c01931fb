-- Conversions, coercions, and what an assignment changes for its siblings: their checks are light.
use Rattle.std.proofs.Common.{◌≡◌, ℕ, ◌+◌, ◌≤◌, ◌^◌, Bool, true, false, ◌&&◌, ◌==◌, nat_lt, List, [], ◌∷◌, ◌++◌, map, Option, Some, None, find, ℤ, pos, negsuc, ◌*ℤ◌, unsigned_abs, cond, if◌then◌else◌, All, refl, sym, subst, arith}
use Rattle.std.proofs.lemmas.Bool.{eqb-true}
use Rattle.std.proofs.lemmas.Int.{unsigned_abs-mul}
use Rattle.std.proofs.lemmas.Nat.{mul-le}
use Rattle.std.proofs.lemmas.List.Elements.{All-head, All-tail}
use Rattle.sd_base.specs.declared.kinds.CheckKind.{CheckKind}
use Rattle.sd_base.specs.declared.kinds.CheckKind.TheVariants as kind
use Rattle.checked_tree.specs.declared.shapes.Bounds.{Bounds}
use Rattle.checked_tree.specs.declared.shapes.Bounds.TheVariants as bounds
use Rattle.checked_tree.specs.declared.shapes.Scalar.{Scalar}
use Rattle.checked_tree.specs.declared.shapes.Shape.{Shape}
use Rattle.checked_tree.specs.declared.shapes.Shape.TheVariants as shape
use Rattle.checked_tree.specs.declared.shapes.UnionShape.{UnionShape}
use Rattle.checked_tree.specs.declared.sums.Part.{Part}
use Rattle.checked_tree.specs.declared.sums.Part.TheVariants.{Constant}
use Rattle.checked_tree.specs.declared.sums.Sum.{Sum}
use Rattle.deputy_rules.specs.declared.asked.AskedCond.TheVariants.{Guarded, Aligned, Kept}
use Rattle.deputy_rules.specs.declared.derived.Derived.{Derived}
use Rattle.deputy_rules.specs.declared.derived.Place.{Place}
use Rattle.deputy_rules.specs.declared.derived.Pointed.{Pointed}
use Rattle.deputy_rules.specs.declared.derived.Value.{Value}
use Rattle.deputy_rules.specs.declared.derived.Value.TheVariants as value
use Rattle.deputy_rules.specs.declared.derived.Whole.{Whole}
use Rattle.deputy_types.specs.declared.element.Element.{Element}
use Rattle.deputy_rules.specs.declared.handed.Handed.{Handed}
use Rattle.deputy_rules.specs.declared.naming.Names.{Names}
use Rattle.deputy_rules.specs.declared.naming.Names.TheVariants as names
use Rattle.deputy_rules.specs.declared.naming.Naming.{Naming}
use Rattle.deputy_rules.specs.Changes.{present, changed, pointer_change, sibling_change, optional_change, sibling_changes, slot_changes, shape_of, struct_names, member_changes, unions_of, tagged, union_address, loaded, ask_kept, optional_kept, tag_change}
use Rattle.checked_tree.specs.Numbers.{has_all}
use Rattle.deputy_rules.specs.Coercion.{cast_part, side_by, converted_side, null, handed_over, handed_value, handed, ask_aligned, coerce, coerce_within, coerce_to, coerce_counted}
use Rattle.deputy_rules.specs.Context.{Context, slot_shape}
use Rattle.deputy_rules.specs.Operators.{same_truth}
use Rattle.deputy_rules.specs.Pointers.{is_written}
use Rattle.deputy_rules.specs.Sums.{constant, constant_of, atom_part, with_part, beyond}
use Rattle.deputy_types.specs.Table.{bounds_name, element_at, members_of}
use Rattle.deputy_types.specs.Types.{same_element}
use Rattle.deputy_rules.specs.Values.{value_of, size_of, low_sum, high_sum, name_sum, named_sum, container}
use Rattle.deputy_types.proofs.Inversions.{some_then}
use Rattle.light_checks.specs.Lightness.{IsLight}
use Rattle.light_checks.specs.Weights.{IsAddress, IsBound, IsSmallPart, IsSingle, IsWhole, IsPointed, IsValue, IsDerived, IsHanded}
use Rattle.light_checks.specs.Within.{is_integer, shape_at, IsBounds, IsShape, IsContext}
use Rattle.light_checks.proofs.Ensuring.{Ensures, Any, given, then_ensures, pure_ensures, lift_ensures, ask_ensures, if_ensures}
use Rattle.light_checks.proofs.Weighing.{address_light, bound_light, address_bound, with_part_address, with_part_bound, beyond_address, constant_address, small_light}
use Rattle.light_checks.proofs.Annotating.{AreNames, single_names, slot_single, member_single, low_bound, high_bound}
use Rattle.light_checks.proofs.OperatorRules.{converted_small}
use Rattle.light_checks.proofs.Reading.{value_is}

-- ---- conversions
pub converted_side_small : (s : Scalar) (w : Whole) → IsWhole w → IsSmallPart (converted_side s w)
unfolding converted_side
converted_side_small s w is = by (constant_of w.written) is.small
  where
    either : (b : Bool) → IsSmallPart (if b then atom_part w.form else cast_part s w.form)
    either true = omega arith
    either false = omega arith

    by : (o : Option ℤ) → ((z : ℤ) → o ≡ Some z → unsigned_abs z ≤ 2 ^ 32) → IsSmallPart (side_by o s w)
    by (Some z) h = (omega arith, converted_small s z (h z refl))
    by None h = either (has_all s w.scalar)

-- ---- what is handed over
pub null_handed : (n : ℕ) → IsHanded n null
null_handed n =
    let zero = constant_address 0 n (omega arith) in
    record { at = zero; low = address_bound n (constant (pos 0)) zero; high = address_bound n (constant (pos 0)) zero }

pub null_or_none : (n : ℕ) (b : Bool) (h : Handed) → (if b then Some null else None) ≡ Some h → IsHanded n h
null_or_none n true h found = given (IsHanded n) null h found (null_handed n)
null_or_none n false h found = absurd cc

pub over_or_none : (n : ℕ) (b : Bool) (p : Pointed) (h : Handed) → IsPointed n p → (if b then Some (handed_over p) else None) ≡ Some h → IsHanded n h
over_or_none n true p h k found = given (IsHanded n) (handed_over p) h found (record { at = k.at; low = k.low; high = k.high })
over_or_none n false p h k found = absurd cc

value_handed : (n : ℕ) (key : Element) (nullterm : Bool) (v : Value) (h : Handed) → IsValue n v → handed_value key nullterm v ≡ Some h → IsHanded n h
unfolding handed_value
value_handed n key nullterm value.Null h k found = given (IsHanded n) null h found (null_handed n)
value_handed n key nullterm (value.Int w) h k found = null_or_none n (is_written 0 w.written) h found
value_handed n key nullterm (value.Pointer p) h k found = over_or_none n (same_element p.elem key && same_truth p.nullterm nullterm) p h k found

-- the first of two that is there
first_or : {X : Type 0} (P : X → Type 0) (b : Bool) (y : X) (o : Option X) (x : X) → P y → (o ≡ Some x → P x) → cond b (Some y) o ≡ Some x → P x
first_or P true y o x p q found = given P y x found p
first_or P false y o x p q found = q found

module _ (ctx : Context) (is : IsContext ctx) (n : ℕ) (few : n + 2 ≤ 2 ^ 30) where
  pub handed_is : (key : Element) (nullterm : Bool) (d : Derived) (h : Handed) → IsDerived n d → handed ctx key nullterm d ≡ Some h → IsHanded n h
  handed_is key nullterm d h k found =
      let r = some_then (value_of ctx d) (λ v. handed_value key nullterm v) h found in
      value_handed n key nullterm r.0 h (value_is ctx is n d r.0 k r.1) r.2

  -- ---- coercions
  aligned_is : (k : CheckKind) (at low : Sum) (size : ℕ) → IsLight at → IsLight low → Ensures (ask_aligned ctx k at low size) Any
  unfolding ask_aligned
  aligned_is k at low size a l =
      if_ensures (nat_lt 1 size) _ _ Any
      (λ e. then_ensures _ _ Any Any (ask_ensures ctx k (Aligned at low size at) (a, l, a)) (λ id any. pure_ensures _ Any tt)) (λ e. pure_ensures _ Any tt)

  coerce_is : (k align : CheckKind) (at low high lower higher : Sum) (size : ℕ) → IsLight at → IsLight low → IsLight high → IsLight lower → IsLight higher
      → Ensures (coerce ctx k align at low high lower higher size) Any
  unfolding coerce
  coerce_is k align at low high lower higher size a l h m g =
      then_ensures _ _ Any Any (ask_ensures ctx k (Guarded low lower at) (l, m, a))
      (λ x any. then_ensures _ _ Any Any (ask_ensures ctx k (Guarded lower at at) (m, a, a))
      (λ y any. then_ensures _ _ Any Any (ask_ensures ctx k (Guarded at higher at) (a, g, a))
      (λ z any. then_ensures _ _ Any Any (ask_ensures ctx k (Guarded higher high at) (g, h, a))
      (λ u any. then_ensures _ _ Any Any (aligned_is align at lower size a m) (λ v any. pure_ensures _ Any tt)))))

  within_is : (h : Handed) (lower higher : Sum) (size : ℕ) → IsHanded n h → IsBound n lower → IsBound n higher → Ensures (coerce_within ctx h lower higher size) Any
  unfolding coerce_within
  within_is h lower higher size k l g =
      if_ensures h.null _ _ Any (λ e. pure_ensures _ Any tt)
      (λ e. coerce_is kind.Bound kind.Align h.at h.low h.high lower higher size (address_light n h.at (omega arith) k.at) (bound_light n h.low (omega arith) k.low)
      (bound_light n h.high (omega arith) k.high) (bound_light n lower (omega arith) l) (bound_light n higher (omega arith) g))

  pub coerce_to_is : (shapes : List (Option Shape)) (naming : Naming) (key : Element) (b : Bounds) (h : Handed) → AreNames ctx n shapes naming → IsBounds shapes b → IsHanded n h
      → Ensures (coerce_to ctx naming key b h) Any
  unfolding coerce_to
  coerce_to_is shapes naming key bounds.Hidden h are bound k = pure_ensures _ Any tt
  coerce_to_is shapes naming key bounds.Nullterm h are bound k = pure_ensures _ Any tt
  coerce_to_is shapes naming key (bounds.Within lo hi) h are bound k =
      within_is h (low_sum ctx naming h.at (bounds.Within lo hi)) (high_sum ctx naming h.at (bounds.Within lo hi)) (size_of ctx key) k
      (low_bound ctx n shapes naming are h.at (bounds.Within lo hi) k.at bound) (high_bound ctx n shapes naming are h.at (bounds.Within lo hi) k.at bound)

  pub coerce_counted_is : (key : Element) (count : ℤ) (h : Handed) → unsigned_abs count ≤ 2 ^ 42 → IsHanded n h → Ensures (coerce_counted ctx key count h) Any
  unfolding coerce_counted
  coerce_counted_is key count h small k =
      within_is h h.at (with_part h.at (Constant count (pos (size_of ctx key)))) (size_of ctx key) k (address_bound n h.at k.at)
      (with_part_bound n h.at (Constant count (pos (size_of ctx key))) k.at (omega arith) (product count (size_of ctx key) small (is.table.sizes key)))
    where
      product : (count : ℤ) (size : ℕ) → unsigned_abs count ≤ 2 ^ 42 → size ≤ 65536 → unsigned_abs (count *ℤ pos size) ≤ 2 ^ 60
      product count size h k = omega (arith, unsigned_abs-mul count (pos size), mul-le (unsigned_abs count) size (2 ^ 42) 65536 h k)

  -- ---- siblings
  -- names that each stand for one part but one, which has a new value
  changed_names : (shapes : List (Option Shape)) (of : Names) (k : ℕ) (new : Sum) → ((j : ℕ) → IsSingle (named_sum ctx of j)) → IsAddress n new
      → (is_integer (shape_at shapes k) ≡ true → IsSingle new) → AreNames ctx n shapes (changed of k new)
  unfolding name_sum
  changed_names shapes of k new one a single = record { each = λ j. here j; integers = λ j h. there j h }
    where
      both : (P : Sum → Type 0) (b : Bool) (x y : Sum) → (b ≡ true → P x) → P y → P (if b then x else y)
      both P true x y f q = f refl
      both P false x y f q = q

      here : (j : ℕ) → IsAddress n (if k == j then new else named_sum ctx of j)
      here j = both (IsAddress n) (k == j) new (named_sum ctx of j) (λ e. a) ((single_names ctx n shapes (present of) one).each j)

      there : (j : ℕ) → is_integer (shape_at shapes j) ≡ true → IsSingle (if k == j then new else named_sum ctx of j)
      there j h = both IsSingle (k == j) new (named_sum ctx of j) (λ e. single (subst (λ i. is_integer (shape_at shapes i) ≡ true) (sym (eqb-true k j e)) h)) (one j)

  module _ (shapes : List (Option Shape)) (old new : Naming) (k : ℕ) (olds : AreNames ctx n shapes old) (news : AreNames ctx n shapes new) where
    pointer_change_is : (i : ℕ) (b : Bounds) (key : Element) → IsBounds shapes b → Ensures (pointer_change ctx old new i b key) Any
    unfolding pointer_change
    pointer_change_is i b key bound =
        let at = name_sum ctx old i in
        let a = olds.each i in
        coerce_is kind.Change kind.Change at (low_sum ctx old at b) (high_sum ctx old at b) (low_sum ctx new at b) (high_sum ctx new at b) (size_of ctx key)
        (address_light n at (omega arith) a)
        (bound_light n (low_sum ctx old at b) (omega arith) (low_bound ctx n shapes old olds at b a bound)) (bound_light n (high_sum ctx old at b) (omega arith) (high_bound ctx n shapes old olds at b a bound))
        (bound_light n (low_sum ctx new at b) (omega arith) (low_bound ctx n shapes new news at b a bound)) (bound_light n (high_sum ctx new at b) (omega arith) (high_bound ctx n shapes new news at b a bound))

    sibling_is : (i : ℕ) (s : Shape) → IsShape shapes (Some s) → Ensures (sibling_change ctx old new k i s) Any
    unfolding sibling_change
    sibling_is i (shape.Int s) bound = pure_ensures _ Any tt
    sibling_is i (shape.Pointer elem b) bound =
        if_ensures (bounds_name k b) _ _ Any
        (λ e. then_ensures _ _ Any Any (lift_ensures (element_at ctx.table elem) Any (λ key found. tt)) (λ key any. pointer_change_is i b key bound)) (λ e. pure_ensures _ Any tt)
    sibling_is i (shape.Struct m) bound = pure_ensures _ Any tt
    sibling_is i shape.Address bound = pure_ensures _ Any tt

    optional_is : (i : ℕ) (o : Option Shape) → IsShape shapes o → Ensures (optional_change ctx old new k i o) Any
    optional_is i None bound = pure_ensures _ Any tt
    optional_is i (Some s) bound = sibling_is i s bound

    siblings_are : (i : ℕ) (ss : List (Option Shape)) (ids : List ℕ) → All (IsShape shapes) ss → Ensures (sibling_changes ctx old new k i ss ids) Any
    siblings_are i [] ids all = pure_ensures _ Any tt
    siblings_are i (s ∷ ss) ids all =
        then_ensures _ _ Any Any (optional_is i s (All-head (IsShape shapes) s ss all)) (λ more any. siblings_are (i + 1) ss (ids ++ more) (All-tail (IsShape shapes) s ss all))

  pub slot_changes_are : (slot : ℕ) (new : Sum) → IsAddress n new → (is_integer (slot_shape ctx slot) ≡ true → IsSingle new) → Ensures (slot_changes ctx slot new) Any
  unfolding slot_changes name_sum
  slot_changes_are slot new a single =
      siblings_are ctx.slots (present names.OfSlots) (changed names.OfSlots slot new) slot
      (single_names ctx n ctx.slots (present names.OfSlots) (slot_single ctx))
      (changed_names ctx.slots names.OfSlots slot new (slot_single ctx) a single) 0 ctx.slots [] is.slots

  pub member_changes_are : (p : Place) (s m : ℕ) (new : Sum) → IsAddress n new → (is_integer (shape_at (map shape_of (members_of ctx.table s)) m) ≡ true → IsSingle new)
      → Ensures (member_changes ctx p s m new) Any
  unfolding member_changes name_sum
  member_changes_are p s m new a single =
      let shapes = map shape_of (members_of ctx.table s) in
      let one = member_single ctx (container p.form) s in
      siblings_are shapes (present (struct_names p s)) (changed (struct_names p s) m new) m
      (single_names ctx n shapes (present (struct_names p s)) one) (changed_names shapes (struct_names p s) m new one a single) 0 shapes [] (is.table.structs s)

  -- ---- tags
  found_in_all : {X : Type 0} (P : X → Type 0) (test : X → Bool) (xs : List X) (x : X) → All P xs → find test xs ≡ Some x → P x
  found_in_all P test [] x all found = absurd cc
  found_in_all P test (y ∷ ys) x all found = first_or P (test y) y (find test ys) x (All-head P y ys all) (found_in_all P test ys x (All-tail P y ys all)) found

  union_address_is : (at : Sum) (tag part : ℕ) → IsAddress n at → tag ≤ 65536 → part ≤ 65536 → IsAddress (n + 1 + 1) (union_address at tag part)
  unfolding union_address
  union_address_is at tag part a h k =
      with_part_address (n + 1) (beyond at (pos part)) (Constant (negsuc 0) (pos tag)) (beyond_address n at (pos part) a k) (omega arith) (omega (arith, unsigned_abs-mul (negsuc 0) (pos tag)))

  kept_is : (p : Place) (offset : ℕ) (scalar : Scalar) (new : Part) (u : UnionShape) → IsAddress n p.at → offset ≤ 65536 → u.offset ≤ 65536 → IsSmallPart new
      → Ensures (ask_kept ctx p offset scalar new u) Any
  unfolding ask_kept
  kept_is p offset scalar new u a h k small =
      then_ensures _ _ Any Any
      (ask_ensures ctx kind.Change (Kept (loaded scalar p) new (union_address p.at offset u.offset) u.size)
      (record { factors = omega arith; constants = omega arith }, small_light new small, address_light (n + 1 + 1) (union_address p.at offset u.offset) (omega arith) (union_address_is p.at offset u.offset a h k)))
      (λ id any. pure_ensures _ Any tt)

  pub tag_change_is : (p : Place) (s m offset : ℕ) (scalar : Scalar) (new : Part) → IsAddress n p.at → offset ≤ 65536 → IsSmallPart new → Ensures (tag_change ctx p s m offset scalar new) Any
  unfolding tag_change
  tag_change_is p s m offset scalar new a h small = by (tagged (unions_of ctx.table s) m) refl
    where
      by : (o : Option UnionShape) → tagged (unions_of ctx.table s) m ≡ o → Ensures (optional_kept ctx p offset scalar new o) Any
      by None e = pure_ensures _ Any tt
      by (Some u) e =
          kept_is p offset scalar new u a h
          (found_in_all (λ (x : UnionShape). x.offset ≤ 65536) (λ (x : UnionShape). x.tag == m) (unions_of ctx.table s) u (is.table.unions s) e) small
