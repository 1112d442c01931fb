-- The rules of places and pointers: what each derives weighs at most one word more, and its checks are light.
use Rattle.std.proofs.Common.{◌≡◌, ℕ, ◌+◌, ◌≤◌, ◌^◌, Bool, true, false, not, List, Option, Some, None, option_map, pos, unsigned_abs, slice_get, if◌then◌else◌, subst, arith}
use Rattle.std.proofs.lemmas.Int.{ints}
use Rattle.sd_base.specs.declared.kinds.CheckKind.TheVariants as kind
use Rattle.checked_tree.specs.declared.expressions.PointerSum.{PointerSum}
use Rattle.checked_tree.specs.declared.expressions.PointerSum.TheVariants as pointer_sum
use Rattle.checked_tree.specs.declared.shapes.Member.{Member}
use Rattle.checked_tree.specs.declared.sums.Sum.{Sum}
use Rattle.checked_tree.specs.declared.units.ImageBlock.{ImageBlock}
use Rattle.c_tree.specs.Slots.{slot_named}
use Rattle.deputy_rules.specs.declared.asked.AskedCond.TheVariants as cond
use Rattle.deputy_rules.specs.declared.derived.Derived.{Derived}
use Rattle.deputy_rules.specs.declared.derived.Derived.TheVariants as derived
use Rattle.deputy_rules.specs.declared.derived.FoundArm.{FoundArm}
use Rattle.deputy_rules.specs.declared.derived.Place.{Place}
use Rattle.deputy_rules.specs.declared.derived.Pointed.{Pointed}
use Rattle.deputy_rules.specs.declared.derived.Source.{Source}
use Rattle.deputy_rules.specs.declared.derived.Source.TheVariants as source
use Rattle.deputy_rules.specs.declared.derived.UnionPlace.{UnionPlace}
use Rattle.deputy_rules.specs.declared.derived.Value.TheVariants as value
use Rattle.deputy_rules.specs.declared.derived.Whole.{Whole}
use Rattle.deputy_types.specs.declared.element.Element.{Element}
use Rattle.deputy_types.specs.declared.table.GlobalPlace.{GlobalPlace}
use Rattle.deputy_rules.specs.Context.{Context, slot_shape}
use Rattle.deputy_types.specs.Keys.{IsKey}
use Rattle.deputy_types.specs.Options.{and_then}
use Rattle.deputy_rules.specs.Places.{block_place, global_place, named_by, named, not_null_by, not_null, through, through_text, followed, is_unsigned, not_below, not_above, moved_sum, index_checks, indexed, struct_of, plain_member, array_member, member_at, member_place, union_place, part_by, part_of, found_with, found_in, found_member, found_arm, arm_at, arm_place, dotted}
use Rattle.deputy_rules.specs.Pointers.{string_at, string, addressed_member, addressed, address_at, address_of_place, address_of, has_address, step_size, may_fall, may_rise, move_checks, moved, is_written, not_ended, text_checks, text_moved, text_stepped, text_sum, text_second, text_indexed, indexed_by}
use Rattle.deputy_rules.specs.Sums.{constant, beyond}
use Rattle.deputy_types.specs.Table.{element_at, field, union_of, arm, global, literal, member, member_key, union_shape, is_array}
use Rattle.deputy_rules.specs.Values.{size_of, member_part}
use Rattle.deputy_types.proofs.Inversions.{some_then, some_map, if_some}
use Rattle.light_checks.specs.Lightness.{IsLight}
use Rattle.light_checks.specs.Weights.{IsAddress, IsWhole, IsPointed, IsSource, IsPlace, IsDerived}
use Rattle.light_checks.specs.Within.{IsContext}
use Rattle.light_checks.proofs.Ensuring.{Ensures, Any, given, then_ensures, pure_ensures, none_ensures, lift_ensures, ask_ensures, if_ensures, weaker}
use Rattle.light_checks.proofs.Weighing.{address_light, bound_light, address_bound, address_more, bound_more, beyond_address, beyond_bound, constant_address, moved_address}

module _ (ctx : Context) (is : IsContext ctx) where
  -- a name
  block_is : (array : Bool) (b : ImageBlock) (k : Element) (n : ℕ) → b.base ≤ 1048576 → b.count ≤ 1048576 → IsKey k → IsDerived n (block_place array b k)
  block_is true b k n h c key = record { at = constant_address b.base n (omega arith); elem = key; count = c }
  block_is false b k n h c key = record { at = constant_address b.base n (omega arith); source = key }

  global_is : (g : GlobalPlace) (n : ℕ) (d : Derived) → global_place ctx g ≡ Some d → IsDerived n d
  unfolding global_place
  global_is g n d found =
      let r = some_then (slice_get ctx.table.image g.block) (λ b. option_map (λ key. block_place g.array b key) (element_at ctx.table b.elem)) d found in
      let m = some_map (element_at ctx.table r.0.elem) (λ key. block_place g.array r.0 key) d r.2 in
      let i = is.table.image g.block r.0 r.1 in
      subst (IsDerived n) m.2 (block_is g.array r.0 m.0 n i.0 i.1 (is.table.elements r.0.elem m.0 m.1))

  named_by_is : (x : List ℕ) (o : Option ℕ) (n : ℕ) (d : Derived) → named_by ctx x o ≡ Some d → IsDerived n d
  named_by_is x (Some slot) n d found = let r = some_map (slot_shape ctx slot) (λ y. derived.Local slot) d found in subst (IsDerived n) r.2 tt
  named_by_is x None n d found = let r = some_then (global ctx.table x) (λ g. global_place ctx g) d found in global_is r.0 n d r.2

  pub named_is : (x : List ℕ) (n : ℕ) (d : Derived) → named ctx x ≡ Some d → IsDerived n d
  unfolding named
  named_is x n d found = named_by_is x (slot_named ctx.locals x) n d found

  string_at_is : (b : ImageBlock) (n : ℕ) → b.base ≤ 1048576 → IsDerived n (string_at b)
  string_at_is b n h =
      let a = constant_address b.base n (omega arith) in
      record { at = a; low = address_bound n (constant (pos b.base)) a; high = address_bound n (constant (pos b.base)) a; elem = tt }

  pub string_is : (k n : ℕ) (d : Derived) → string ctx k ≡ Some d → IsDerived n d
  unfolding string
  string_is k n d found =
      let r = some_then (literal ctx.table k) (λ m. option_map string_at (slice_get ctx.table.image m)) d found in
      let m = some_map (slice_get ctx.table.image r.0) string_at d r.2 in
      subst (IsDerived n) m.2 (string_at_is m.0 n (is.table.image r.0 m.0 m.1).0)

  -- a field
  plain_is : (p : Place) (s m offset n : ℕ) → IsAddress n p.at → offset ≤ 65536 → IsDerived (n + 1) (plain_member p s m offset)
  plain_is p s m offset n a h = record { at = beyond_address n p.at (pos offset) a h; source = tt }

  array_is : (p : Place) (offset count n : ℕ) (k : Element) → IsAddress n p.at → offset ≤ 65536 → count ≤ 65536 → IsKey k → IsDerived (n + 1) (array_member p offset count k)
  array_is p offset count n k a h c key = record { at = beyond_address n p.at (pos offset) a h; elem = key; count = omega arith }

  member_at_is : (p : Place) (s m n : ℕ) (x : Member) (d : Derived) → IsAddress n p.at → x.offset ≤ 65536 → x.count ≤ 65536 → member_at ctx p s m x ≡ Some d → IsDerived (n + 1) d
  member_at_is p s m n x d a h c found = by (is_array ctx.table s m) found
    where
      by : (b : Bool) → (if b then option_map (λ k. array_member p x.offset x.count k) (member_key ctx.table s m) else Some (plain_member p s m x.offset)) ≡ Some d → IsDerived (n + 1) d
      by true found =
          let r = some_map (member_key ctx.table s m) (λ k. array_member p x.offset x.count k) d found in
          subst (IsDerived (n + 1)) r.2 (array_is p x.offset x.count n r.0 a h c (is.table.keys s m r.0 r.1))
      by false found = given (IsDerived (n + 1)) (plain_member p s m x.offset) d found (plain_is p s m x.offset n a h)

  member_is : (p : Place) (s m n : ℕ) (d : Derived) → IsAddress n p.at → member_place ctx p s m ≡ Some d → IsDerived (n + 1) d
  unfolding member_place
  member_is p s m n d a found =
      let r = some_then (member ctx.table s m) (λ x. member_at ctx p s m x) d found in
      let i = is.table.members s m r.0 r.1 in
      member_at_is p s m n r.0 d a i.0 i.1 r.2

  part_by_is : (p : Place) (s n : ℕ) (f : List ℕ) (o : Option ℕ) (d : Derived) → IsAddress n p.at → part_by ctx p s f o ≡ Some d → IsDerived (n + 1) d
  part_by_is p s n f (Some m) d a found = member_is p s m n d a found
  part_by_is p s n f None d a found =
      let r = some_map (union_of ctx.table s f) (λ u. union_place p s u) d found in
      let more : IsAddress (n + 1) p.at = address_more n (n + 1) p.at (omega arith) a in
      subst (IsDerived (n + 1)) r.2 more

  part_is : (p : Place) (n : ℕ) (f : List ℕ) (d : Derived) → IsAddress n p.at → part_of ctx p f ≡ Some d → IsDerived (n + 1) d
  unfolding part_of
  part_is p n f d a found = let r = some_then (struct_of ctx p.source) (λ s. part_by ctx p s f (field ctx.table s f)) d found in part_by_is p r.0 n f (field ctx.table r.0 f) d a r.2

  found_offset : (s u : ℕ) (a : List ℕ) (x : FoundArm) → found_arm ctx s u a ≡ Some x → x.offset ≤ 65536
  unfolding found_arm
  found_offset s u a x found =
      let r = some_then (arm ctx.table s u a) (λ m. found_member ctx s u m) x found in
      let q = some_then (member ctx.table s r.0) (λ y. and_then (union_shape ctx.table s u) (λ shape. found_in ctx s r.0 y shape)) x r.2 in
      let t = some_then (union_shape ctx.table s u) (λ shape. found_in ctx s r.0 q.0 shape) x q.2 in
      let v = some_then (member ctx.table s t.0.tag) (λ tag. option_map (λ case. found_with r.0 q.0 tag case) q.0.arm) x t.2 in
      let w = some_map q.0.arm (λ case. found_with r.0 q.0 v.0 case) x v.2 in
      subst (λ (y : FoundArm). y.offset ≤ 65536) w.2 (is.table.members s r.0 q.0 q.1).0

  arm_at_is : (u : UnionPlace) (x : FoundArm) (n : ℕ) → IsAddress n u.at → x.offset ≤ 65536 → Ensures (arm_at ctx u x) (IsDerived (n + 1))
  arm_at_is u x n a h =
      then_ensures _ _ Any (IsDerived (n + 1))
      (ask_ensures ctx kind.Tag (cond.Equal (member_part u.container x.tag_scalar x.tag_offset) x.constant) (record { factors = omega arith; constants = omega arith }))
      (λ id any. pure_ensures _ (IsDerived (n + 1)) (record { at = beyond_address n u.at (pos x.offset) a h; source = tt }))

  arm_is : (u : UnionPlace) (f : List ℕ) (n : ℕ) → IsAddress n u.at → Ensures (arm_place ctx u f) (IsDerived (n + 1))
  unfolding arm_place
  arm_is u f n a =
      then_ensures _ _ (λ (x : FoundArm). x.offset ≤ 65536) (IsDerived (n + 1)) (lift_ensures (found_arm ctx u.structure u.part f) _ (λ x found. found_offset u.structure u.part f x found))
      (λ x h. arm_at_is u x n a h)

  pub dotted_is : (d : Derived) (f : List ℕ) (n : ℕ) → IsDerived n d → Ensures (dotted ctx d f) (IsDerived (n + 1))
  unfolding dotted
  dotted_is (derived.Place p) f n d = lift_ensures (part_of ctx p f) (IsDerived (n + 1)) (λ x found. part_is p n f x d.at found)
  dotted_is (derived.Union u) f n d = arm_is u f n d
  dotted_is (derived.Value v) f n d = none_ensures (IsDerived (n + 1))
  dotted_is (derived.Local slot) f n d = none_ensures (IsDerived (n + 1))
  dotted_is (derived.Array a) f n d = none_ensures (IsDerived (n + 1))

  -- what a pointer points to
  module _ (n : ℕ) (few : n + 2 ≤ 2 ^ 30) where
    not_null_by_is : (sure : Bool) (s : Sum) → IsAddress n s → Ensures (not_null_by ctx sure s) Any
    not_null_by_is true s a = pure_ensures _ Any tt
    not_null_by_is false s a =
        then_ensures _ _ Any Any
        (ask_ensures ctx kind.Null (cond.Le (constant (pos 1)) s) (address_light n (constant (pos 1)) (omega arith) (constant_address 1 n (omega arith)), address_light n s (omega arith) a))
        (λ id any. pure_ensures _ Any tt)

    not_null_is : (p : Pointed) → IsPointed n p → Ensures (not_null ctx p) Any
    unfolding not_null
    not_null_is p k = not_null_by_is p.sure p.at k.at

    through_is : (p : Pointed) → IsPointed n p → Ensures (through ctx p) (IsDerived n)
    unfolding through
    through_is p k =
        then_ensures _ _ Any (IsDerived n) (not_null_is p k)
        (λ a any. then_ensures _ _ Any (IsDerived n)
        (ask_ensures ctx kind.Bound (cond.Le (beyond p.at (pos (size_of ctx p.elem))) p.high)
        (address_light (n + 1) (beyond p.at (pos (size_of ctx p.elem))) (omega arith) (beyond_address n p.at (pos (size_of ctx p.elem)) k.at (is.table.sizes p.elem)), bound_light n p.high (omega arith) k.high))
        (λ b any. pure_ensures _ (IsDerived n) (record { at = k.at; source = k.elem })))

    pub through_text_is : (p : Pointed) → IsPointed n p → Ensures (through_text ctx p) (IsDerived n)
    unfolding through_text
    through_text_is p k = then_ensures _ _ Any (IsDerived n) (not_null_is p k) (λ a any. pure_ensures _ (IsDerived n) (record { at = k.at; source = tt }))

    pub followed_is : (p : Pointed) → IsPointed n p → Ensures (followed ctx p) (IsDerived n)
    unfolding followed
    followed_is p k = if_ensures p.nullterm (through_text ctx p) (through ctx p) (IsDerived n) (λ e. through_text_is p k) (λ e. through_is p k)

    not_below_is : (wanted : Bool) (low at : Sum) → IsLight low → IsLight at → Ensures (not_below ctx wanted low at) Any
    not_below_is false low at l a = pure_ensures _ Any tt
    not_below_is true low at l a = then_ensures _ _ Any Any (ask_ensures ctx kind.Bound (cond.Le low at) (l, a)) (λ id any. pure_ensures _ Any tt)

    not_above_is : (wanted : Bool) (at high : Sum) → IsLight at → IsLight high → Ensures (not_above ctx wanted at high) Any
    not_above_is false at high a l = pure_ensures _ Any tt
    not_above_is true at high a l = then_ensures _ _ Any Any (ask_ensures ctx kind.Bound (cond.Le at high) (a, l)) (λ id any. pure_ensures _ Any tt)

    -- `e[i]`
    index_checks_is : (p : Pointed) (i : Whole) (size : ℕ) (at : Sum) → IsPointed n p → size ≤ 65536 → IsAddress (n + 1) at → Ensures (index_checks ctx p i size at) Any
    index_checks_is p i size at k h a =
        let here = address_light (n + 1) at (omega arith) a in
        then_ensures _ _ Any Any (not_null_is p k)
        (λ x any. then_ensures _ _ Any Any (not_below_is (not (is_unsigned i.scalar)) p.low at (bound_light n p.low (omega arith) k.low) here)
        (λ y any. then_ensures _ _ Any Any
        (ask_ensures ctx kind.Bound (cond.Le (beyond at (pos size)) p.high) (address_light (n + 1 + 1) (beyond at (pos size)) (omega arith) (beyond_address (n + 1) at (pos size) a h), bound_light n p.high (omega arith) k.high))
        (λ z any. pure_ensures _ Any tt)))

    indexed_is : (p : Pointed) (i : Whole) → IsPointed n p → IsWhole i → Ensures (indexed ctx p i) (IsDerived (n + 1))
    unfolding indexed
    indexed_is p i k w =
        let size = size_of ctx p.elem in
        let a = moved_address n p.at i (pos size) k.at w (is.table.sizes p.elem) in
        then_ensures _ _ Any (IsDerived (n + 1)) (index_checks_is p i size (moved_sum p.at i (pos size)) k (is.table.sizes p.elem) a)
        (λ ids any. pure_ensures _ (IsDerived (n + 1)) (record { at = a; source = k.elem }))

    -- a pointer that is moved
    step_small : (how : PointerSum) (size : ℕ) → size ≤ 65536 → unsigned_abs (step_size how size) ≤ 65536
    step_small pointer_sum.PointerPlus size h = h
    step_small pointer_sum.PlusPointer size h = h
    step_small pointer_sum.PointerMinus size h = grind (arith, ints)

    move_checks_are : (how : PointerSum) (p : Pointed) (i : Whole) (at : Sum) → IsPointed n p → IsAddress (n + 1) at → Ensures (move_checks ctx how p i at) Any
    move_checks_are how p i at k a =
        let here = address_light (n + 1) at (omega arith) a in
        then_ensures _ _ Any Any (not_null_is p k)
        (λ x any. then_ensures _ _ Any Any (not_below_is (may_fall how (is_unsigned i.scalar)) p.low at (bound_light n p.low (omega arith) k.low) here)
        (λ y any. then_ensures _ _ Any Any (not_above_is (may_rise how (is_unsigned i.scalar)) at p.high here (bound_light n p.high (omega arith) k.high))
        (λ z any. pure_ensures _ Any tt)))

    pub moved_is : (how : PointerSum) (p : Pointed) (i : Whole) → IsPointed n p → IsWhole i → Ensures (moved ctx how p i) (IsDerived (n + 1))
    unfolding moved
    moved_is how p i k w =
        let size = size_of ctx p.elem in
        let at = moved_sum p.at i (step_size how size) in
        let a = moved_address n p.at i (step_size how size) k.at w (step_small how size (is.table.sizes p.elem)) in
        then_ensures _ _ Any (IsDerived (n + 1)) (move_checks_are how p i at k a)
        (λ ids any. pure_ensures _ (IsDerived (n + 1)) (record { at = a; low = bound_more n (n + 1) p.low (omega arith) k.low; high = bound_more n (n + 1) p.high (omega arith) k.high; elem = k.elem }))

    -- text
    not_ended_is : (wanted : Bool) (s : Sum) → IsAddress n s → Ensures (not_ended ctx wanted s) Any
    not_ended_is false s a = pure_ensures _ Any tt
    not_ended_is true s a = then_ensures _ _ Any Any (ask_ensures ctx kind.Term (cond.Term s None) (address_light n s (omega arith) a, tt)) (λ id any. pure_ensures _ Any tt)

    text_checks_are : (p : Pointed) (i : Whole) → IsPointed n p → Ensures (text_checks ctx p i) Any
    text_checks_are p i k =
        then_ensures _ _ Any Any (not_null_is p k)
        (λ x any. then_ensures _ _ Any Any (not_ended_is (is_written 1 i.written) p.at k.at) (λ y any. pure_ensures _ Any tt))

    text_moved_is : (p : Pointed) (i : Whole) → IsPointed n p → IsWhole i → Ensures (text_moved ctx p i) (IsPointed (n + 1))
    unfolding text_moved
    text_moved_is p i k w =
        let size = size_of ctx p.elem in
        let at = moved_sum p.at i (pos size) in
        let a = moved_address n p.at i (pos size) k.at w (is.table.sizes p.elem) in
        then_ensures _ _ Any (IsPointed (n + 1)) (text_checks_are p i k)
        (λ ids any. pure_ensures _ (IsPointed (n + 1)) (record { at = a; low = address_bound (n + 1) at a; high = address_bound (n + 1) at a; elem = k.elem }))

    text_stepped_is : (p : Pointed) (i : Whole) → IsPointed n p → IsWhole i → Ensures (text_stepped ctx p i) (IsDerived (n + 1))
    text_stepped_is p i k w = then_ensures _ _ (IsPointed (n + 1)) (IsDerived (n + 1)) (text_moved_is p i k w) (λ q l. pure_ensures _ (IsDerived (n + 1)) l)

    pub text_sum_is : (p : Pointed) (i : Whole) → IsPointed n p → IsWhole i → Ensures (text_sum ctx p i) (IsDerived (n + 1))
    unfolding text_sum
    text_sum_is p i k w =
        if_ensures (is_written 0 i.written) _ _ (IsDerived (n + 1)) (λ e. text_stepped_is p i k w)
        (λ e. if_ensures (is_written 1 i.written) _ _ (IsDerived (n + 1)) (λ e. text_stepped_is p i k w) (λ e. none_ensures (IsDerived (n + 1))))

-- `e[i]`
module _ (ctx : Context) (is : IsContext ctx) (n : ℕ) (few : n + 3 ≤ 2 ^ 30) where
  pub derived_more : (m : ℕ) (d : Derived) → n ≤ m → IsDerived n d → IsDerived m d
  derived_more m (derived.Value (value.Int w)) h k = k
  derived_more m (derived.Value (value.Pointer p)) h k = record { at = address_more n m p.at h k.at; low = bound_more n m p.low h k.low; high = bound_more n m p.high h k.high; elem = k.elem }
  derived_more m (derived.Value value.Null) h k = tt
  derived_more m (derived.Local slot) h k = tt
  derived_more m (derived.Place p) h k = record { at = address_more n m p.at h k.at; source = k.source }
  derived_more m (derived.Array a) h k = record { at = address_more n m a.at h k.at; elem = k.elem; count = k.count }
  derived_more m (derived.Union u) h k = address_more n m u.at h k

  text_second_is : (p : Pointed) (i : Whole) → IsPointed n p → IsWhole i → Ensures (text_second ctx p i) (IsDerived (n + 1))
  text_second_is p i k w = then_ensures _ _ (IsPointed (n + 1)) (IsDerived (n + 1)) (text_moved_is ctx is n (omega arith) p i k w) (λ q l. through_text_is ctx is (n + 1) (omega arith) q l)

  text_indexed_is : (p : Pointed) (i : Whole) → IsPointed n p → IsWhole i → Ensures (text_indexed ctx p i) (IsDerived (n + 1))
  unfolding text_indexed
  text_indexed_is p i k w =
      if_ensures (is_written 0 i.written) _ _ (IsDerived (n + 1))
      (λ e. weaker _ (IsDerived n) (IsDerived (n + 1)) (λ d l. derived_more (n + 1) d (omega arith) l) (through_text_is ctx is n (omega arith) p k))
      (λ e. if_ensures (is_written 1 i.written) _ _ (IsDerived (n + 1)) (λ e. text_second_is p i k w) (λ e. none_ensures (IsDerived (n + 1))))

  pub indexed_by_is : (p : Pointed) (i : Whole) → IsPointed n p → IsWhole i → Ensures (indexed_by ctx p i) (IsDerived (n + 1))
  unfolding indexed_by
  indexed_by_is p i k w = if_ensures p.nullterm _ _ (IsDerived (n + 1)) (λ e. text_indexed_is p i k w) (λ e. indexed_is ctx is n (omega arith) p i k w)

-- `&l`
module _ (ctx : Context) (is : IsContext ctx) (n : ℕ) where
  addressed_is : (s : Source) (k : Element) → IsSource s → addressed ctx s ≡ Some k → IsKey k
  unfolding addressed addressed_member
  addressed_is (source.Element j) k key found = given IsKey j k found key
  addressed_is source.Text k key found = absurd cc
  addressed_is (source.Member s m) k key found =
      let r = some_then (member ctx.table s m) (λ x. if has_address ctx s m x then member_key ctx.table s m else None) k found in
      is.table.keys s m k (if_some (has_address ctx s m r.0) (member_key ctx.table s m) k r.2)

  place_address_is : (p : Place) (d : Derived) → IsPlace n p → address_of_place ctx p ≡ Some d → IsDerived n d
  unfolding address_of_place
  place_address_is p d k found =
      let r = some_map (addressed ctx p.source) (λ j. address_at ctx p j) d found in
      subst (IsDerived n) r.2 (record {
        at = k.at;
        low = address_bound n p.at k.at;
        high = beyond_bound n p.at (pos (size_of ctx r.0)) k.at (let s = is.table.sizes r.0 in omega arith);
        elem = addressed_is p.source r.0 k.source r.1;
      })

  pub address_is : (x d : Derived) → IsDerived n x → address_of ctx x ≡ Some d → IsDerived n d
  unfolding address_of
  address_is (derived.Place p) d k found = place_address_is p d k found
  address_is (derived.Value v) d k found = absurd cc
  address_is (derived.Local slot) d k found = absurd cc
  address_is (derived.Array a) d k found = absurd cc
  address_is (derived.Union u) d k found = absurd cc
