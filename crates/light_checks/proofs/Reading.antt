-- The value of what was derived weighs no more than that.
use Rattle.std.proofs.Common.{◌≡◌, ℕ, zero, suc, ◌+◌, ◌≤◌, ◌^◌, Bool, true, false, List, map, Option, Some, None, option_map, ℤ, pos, negsuc, neg_ℤ, ◌*ℤ◌, int_le, unsigned_abs, slice_get, ap, ◌∙◌, subst, arith}
use Rattle.std.specs.Option.{option_flatten}
use Rattle.std.proofs.lemmas.Bool.{and_parts}
use Rattle.std.proofs.lemmas.Int.{ints, unsigned_abs-mul}
use Rattle.std.proofs.lemmas.Nat.{mul-le}
use Rattle.std.proofs.lemmas.Option.{slice_get-map}
use Rattle.checked_tree.specs.declared.expressions.CheckedExpr.{CheckedExpr}
use Rattle.checked_tree.specs.declared.expressions.CheckedExpr.TheVariants as form
use Rattle.checked_tree.specs.declared.shapes.Bounds.{Bounds}
use Rattle.checked_tree.specs.declared.shapes.Bounds.TheVariants as bounds
use Rattle.checked_tree.specs.declared.shapes.Member.{Member}
use Rattle.checked_tree.specs.declared.shapes.Scalar.{Scalar}
use Rattle.checked_tree.specs.declared.shapes.Scalar.TheVariants as scalar
use Rattle.checked_tree.specs.declared.shapes.Shape.{Shape}
use Rattle.checked_tree.specs.declared.shapes.Shape.TheVariants as shape
use Rattle.checked_tree.specs.declared.sums.Part.TheVariants.{Constant}
use Rattle.checked_tree.specs.declared.sums.Sum.{Sum}
use Rattle.checked_tree.specs.Numbers.{is_between}
use Rattle.c_tree.specs.Slots.{hidden_slot}
use Rattle.deputy_rules.specs.declared.derived.Derived.{Derived}
use Rattle.deputy_rules.specs.declared.derived.Derived.TheVariants as derived
use Rattle.deputy_rules.specs.declared.derived.Pointed.{Pointed}
use Rattle.deputy_rules.specs.declared.derived.Source.{Source}
use Rattle.deputy_rules.specs.declared.derived.Source.TheVariants as source
use Rattle.deputy_rules.specs.declared.derived.Value.{Value}
use Rattle.deputy_rules.specs.declared.derived.Value.TheVariants as value
use Rattle.deputy_rules.specs.declared.derived.Whole.{Whole}
use Rattle.deputy_types.specs.declared.element.Element.{Element}
use Rattle.deputy_types.specs.declared.element.Element.TheVariants as element
use Rattle.deputy_rules.specs.declared.naming.Naming.{Naming}
use Rattle.deputy_rules.specs.Changes.{shape_of}
use Rattle.deputy_rules.specs.Context.{Context, slot_shape}
use Rattle.deputy_types.specs.Keys.{IsKey}
use Rattle.deputy_rules.specs.Sums.{atom, with_part}
use Rattle.deputy_types.specs.Table.{element_at, member, members_of}
use Rattle.deputy_rules.specs.Values.{size_of, slot_sum, integer, pointer_to, bounded_pointer, hidden_pointer, of_slots, of_struct, local_pointer, slot_value, local_value, counted_pointer, text_pointer, element_value, container, member_value, source_value, array_value, value_of, whole, pointed, integer_of, pointer_of, is_nullterm, low_sum, high_sum, address}
use Rattle.deputy_types.proofs.Inversions.{some_then, some_map}
use Rattle.light_checks.specs.Weights.{IsBound, IsWhole, IsPointed, IsValue, IsSource, IsDerived}
use Rattle.light_checks.specs.Within.{IsBounds, IsShape, AreShapes, shape_at, IsContext}
use Rattle.light_checks.proofs.Weighing.{atom_address, address_bound, with_part_bound}
use Rattle.light_checks.proofs.Ensuring.{given}
use Rattle.light_checks.proofs.Annotating.{looked_up, AreNames, slot_names, member_names, low_bound, high_bound}

-- a number between a negative and a positive one
pub between_size : (b : ℕ) (z : ℤ) → is_between (neg_ℤ (pos b)) (pos b) z ≡ true → unsigned_abs z ≤ b
between_size b (pos n) h = let e = (and_parts (int_le (neg_ℤ (pos b)) (pos n)) (int_le (pos n) (pos b)) h).1 in grind (arith, ints)
between_size zero (negsuc n) h = let e = (and_parts (int_le (pos 0) (negsuc n)) (int_le (negsuc n) (pos 0)) h).0 in absurd (grind (arith, ints))
between_size (suc b) (negsuc n) h = let e = (and_parts (int_le (negsuc b) (negsuc n)) (int_le (negsuc n) (pos (suc b))) h).0 in grind (arith, ints)

flattened : {A : Type 0} (o : Option (Option A)) (a : A) → option_flatten o ≡ Some a → o ≡ Some (Some a)
flattened None a h = absurd cc
flattened (Some None) a h = absurd cc
flattened (Some (Some b)) a h = cc

-- the declaration of a sibling
pub shape_is : (shapes : List (Option Shape)) (k : ℕ) (x : Shape) → AreShapes shapes → shape_at shapes k ≡ Some x → IsShape shapes (Some x)
shape_is shapes k x are h = looked_up (IsShape shapes) shapes k (Some x) are (flattened (slice_get shapes k) x h)

pub integer_whole : (e : CheckedExpr) (s : Scalar) (n : ℕ) → IsValue n (integer e s)
integer_whole e s n = record { small = λ z h. absurd cc }

pub member_shape_is : (ctx : Context) → IsContext ctx → (s m : ℕ) (x : Member) → member ctx.table s m ≡ Some x → IsShape (map shape_of (members_of ctx.table s)) (Some x.shape)
member_shape_is ctx is s m x h =
    let shapes = map shape_of (members_of ctx.table s) in
    looked_up (IsShape shapes) shapes m (Some x.shape) (is.table.structs s) (slice_get-map shape_of (members_of ctx.table s) m ∙ ap (option_map shape_of) h)

module _ (ctx : Context) (is : IsContext ctx) (n : ℕ) where
  -- a pointer that is read, with bounds
  with_bounds : (e : CheckedExpr) (elem : ℕ) (nullterm : Bool) (low high : Sum) (v : Value) → IsBound n low → IsBound n high
      → option_map (λ key. pointer_to e key nullterm low high) (element_at ctx.table elem) ≡ Some v → IsValue n v
  with_bounds e elem nullterm low high v l h found =
      let r = some_map (element_at ctx.table elem) (λ key. pointer_to e key nullterm low high) v found in
      subst (IsValue n) r.2 (record { at = atom_address e n; low = l; high = h; elem = is.table.elements elem r.0 r.1 })

  bounded_is : (shapes : List (Option Shape)) (naming : Naming) (e : CheckedExpr) (elem : ℕ) (b : Bounds) (v : Value) → AreNames ctx n shapes naming → IsBounds shapes b
      → bounded_pointer ctx naming e elem b ≡ Some v → IsValue n v
  unfolding bounded_pointer
  bounded_is shapes naming e elem b v are bound found =
      with_bounds e elem (is_nullterm b) (low_sum ctx naming (atom e) b) (high_sum ctx naming (atom e) b) v
      (low_bound ctx n shapes naming are (atom e) b (atom_address e n) bound)
      (high_bound ctx n shapes naming are (atom e) b (atom_address e n) bound) found

  hidden_is : (slot elem : ℕ) (v : Value) → hidden_pointer ctx slot elem ≡ Some v → IsValue n v
  unfolding hidden_pointer
  hidden_is slot elem v found =
      let r = some_then (hidden_slot ctx.locals slot) (λ h. option_map (λ key. pointer_to (form.Local slot) key false (slot_sum h) (slot_sum (h + 1))) (element_at ctx.table elem)) v found in
      with_bounds (form.Local slot) elem false (slot_sum r.0) (slot_sum (r.0 + 1)) v (slot_bound r.0) (slot_bound (r.0 + 1)) r.2
    where
      slot_bound : (k : ℕ) → IsBound n (slot_sum k)
      slot_bound k = record { factors = omega arith; constants = omega arith }

  local_pointer_is : (slot elem : ℕ) (b : Bounds) (v : Value) → IsBounds ctx.slots b → local_pointer ctx slot elem b ≡ Some v → IsValue n v
  local_pointer_is slot elem bounds.Hidden v bound found = hidden_is slot elem v found
  local_pointer_is slot elem bounds.Nullterm v bound found = bounded_is ctx.slots of_slots (form.Local slot) elem bounds.Nullterm v (slot_names ctx n ctx.slots) bound found
  local_pointer_is slot elem (bounds.Within lo hi) v bound found = bounded_is ctx.slots of_slots (form.Local slot) elem (bounds.Within lo hi) v (slot_names ctx n ctx.slots) bound found

  slot_value_is : (slot : ℕ) (s : Shape) (v : Value) → IsShape ctx.slots (Some s) → slot_value ctx slot s ≡ Some v → IsValue n v
  slot_value_is slot (shape.Int s) v bound found = given (IsValue n) (integer (form.Local slot) s) v found (integer_whole (form.Local slot) s n)
  slot_value_is slot (shape.Pointer elem b) v bound found = local_pointer_is slot elem b v bound found
  slot_value_is slot (shape.Struct s) v bound found = absurd cc
  slot_value_is slot shape.Address v bound found = absurd cc

  local_is : (slot : ℕ) (v : Value) → local_value ctx slot ≡ Some v → IsValue n v
  unfolding local_value
  local_is slot v found =
      let r = some_then (slot_shape ctx slot) (λ x. slot_value ctx slot x) v found in
      slot_value_is slot r.0 v (shape_is ctx.slots slot r.0 is.slots r.1) r.2

  counted_is : (e : CheckedExpr) (elem : ℕ) (count : ℤ) (v : Value) → unsigned_abs count ≤ 2 ^ 42 → counted_pointer ctx e elem count ≡ Some v → IsValue n v
  unfolding counted_pointer
  counted_is e elem count v small found =
      let r = some_map (element_at ctx.table elem) (λ key. pointer_to e key false (atom e) (with_part (atom e) (Constant count (pos (size_of ctx key))))) v found in
      subst (IsValue n) r.2 (record {
        at = atom_address e n;
        low = address_bound n (atom e) (atom_address e n);
        high = with_part_bound n (atom e) (Constant count (pos (size_of ctx r.0))) (atom_address e n) (omega arith) (product count (size_of ctx r.0) small (is.table.sizes r.0));
        elem = is.table.elements elem r.0 r.1;
      })
    where
      product : (count : ℤ) (size : ℕ) → unsigned_abs count ≤ 2 ^ 42 → size ≤ 65536 → unsigned_abs (count *ℤ pos size) ≤ 2 ^ 60
      product count size h k = omega (arith, unsigned_abs-mul count (pos size), mul-le (unsigned_abs count) size (2 ^ 42) 65536 h k)

  text_is : (e : CheckedExpr) (elem : ℕ) (v : Value) → text_pointer ctx e elem ≡ Some v → IsValue n v
  unfolding text_pointer
  text_is e elem v found = with_bounds e elem true (atom e) (atom e) v (address_bound n (atom e) (atom_address e n)) (address_bound n (atom e) (atom_address e n)) found

  element_is : (place : CheckedExpr) (key : Element) (v : Value) → IsKey key → element_value ctx place key ≡ Some v → IsValue n v
  unfolding element_value
  element_is place (element.Int s) v k found = given (IsValue n) (integer (form.Load s place) s) v found (integer_whole (form.Load s place) s n)
  element_is place (element.Struct s) v k found = absurd cc
  element_is place (element.Sentinel m) v k found = counted_is (form.Load address place) m (pos 0) v (omega arith) found
  element_is place (element.Nullterm m) v k found = text_is (form.Load address place) m v found
  element_is place (element.Count m count) v k found = counted_is (form.Load address place) m count v (between_size (2 ^ 42) count k) found

  member_value_is : (place : CheckedExpr) (s : ℕ) (x : Shape) (v : Value) → IsShape (map shape_of (members_of ctx.table s)) (Some x) → member_value ctx place s x ≡ Some v → IsValue n v
  unfolding member_value
  member_value_is place s (shape.Int k) v bound found = given (IsValue n) (integer (form.Load k place) k) v found (integer_whole (form.Load k place) k n)
  member_value_is place s (shape.Pointer elem b) v bound found =
      bounded_is (map shape_of (members_of ctx.table s)) (of_struct (container place) s) (form.Load address place) elem b v
      (member_names ctx n (map shape_of (members_of ctx.table s)) (container place) s) bound found
  member_value_is place s (shape.Struct k) v bound found = absurd cc
  member_value_is place s shape.Address v bound found = absurd cc

  source_is : (place : CheckedExpr) (x : Source) (v : Value) → IsSource x → source_value ctx place x ≡ Some v → IsValue n v
  unfolding source_value
  source_is place (source.Element key) v k found = element_is place key v k found
  source_is place source.Text v k found = given (IsValue n) (integer (form.Load scalar.U8 place) scalar.U8) v found (integer_whole (form.Load scalar.U8 place) scalar.U8 n)
  source_is place (source.Member s m) v k found =
      let r = some_then (member ctx.table s m) (λ x. member_value ctx place s x.shape) v found in
      member_value_is place s r.0.shape v (member_shape_is ctx is s m r.0 r.1) r.2

  -- the value of what was derived
  pub value_is : (d : Derived) (v : Value) → IsDerived n d → value_of ctx d ≡ Some v → IsValue n v
  unfolding value_of array_value
  value_is (derived.Value w) v k found = given (IsValue n) w v found k
  value_is (derived.Local slot) v k found = local_is slot v found
  value_is (derived.Place p) v k found = source_is p.form p.source v k.source found
  value_is (derived.Array a) v k found = given (IsValue n) (array_value ctx a) v found (record {
    at = k.at;
    low = address_bound n a.at k.at;
    high = with_part_bound n a.at (Constant (pos a.count) (pos (size_of ctx a.elem))) k.at (omega arith) (product a.count (size_of ctx a.elem) k.count (is.table.sizes a.elem));
    elem = k.elem;
  })
    where
      product : (count size : ℕ) → count ≤ 1048576 → size ≤ 65536 → unsigned_abs (pos count *ℤ pos size) ≤ 2 ^ 60
      product count size h k = omega (arith, unsigned_abs-mul (pos count) (pos size), mul-le count size 1048576 65536 h k)
  value_is (derived.Union u) v k found = absurd cc

  pub integer_is : (d : Derived) (w : Whole) → IsDerived n d → integer_of ctx d ≡ Some w → IsWhole w
  unfolding integer_of
  integer_is d w k found = let r = some_then (value_of ctx d) whole w found in by r.0 (value_is d r.0 k r.1) r.2
    where
      by : (v : Value) → IsValue n v → whole v ≡ Some w → IsWhole w
      by (value.Int x) k found = given IsWhole x w found k
      by (value.Pointer p) k found = absurd cc
      by value.Null k found = absurd cc

  pub pointer_is : (d : Derived) (p : Pointed) → IsDerived n d → pointer_of ctx d ≡ Some p → IsPointed n p
  unfolding pointer_of
  pointer_is d p k found = let r = some_then (value_of ctx d) pointed p found in by r.0 (value_is d r.0 k r.1) r.2
    where
      by : (v : Value) → IsValue n v → pointed v ≡ Some p → IsPointed n p
      by (value.Int x) k found = absurd cc
      by (value.Pointer q) k found = given (IsPointed n) q p found k
      by value.Null k found = absurd cc
