-- Places: what a pointer points to, its elements, members of structs and arms of unions.
use Rattle.std.proofs.Common.{◌≡◌, ◌≢◌, ℕ, zero, suc, ◌+◌, ◌-◌, ◌*◌, ◌^◌, ◌<◌, ◌≤◌, IsTrue, Bool, true, false, not, List, [], ◌∷◌, ◌++◌}
use Rattle.std.proofs.Common.{ℤ, pos, negsuc, ◌+ℤ◌, ◌*ℤ◌, int_le, Option, Some, None, option_map, unwrap_or, Ok, slice_get}
use Rattle.std.proofs.Common.{if◌then◌else◌, refl, sym, ap, ◌∙◌, subst, arith}
use Rattle.std.specs.Ordering.{int_eq}
use Rattle.std.proofs.Math.IntN.{*ℤ_comm}
use Rattle.std.proofs.lemmas.Bool.Decides.{Decides-int_eq}
use Rattle.std.proofs.lemmas.Int.{ints}
use Rattle.std.proofs.lemmas.Option.{slice_get_within, get_or_from_slice_get}
use Rattle.sd_base.specs.Blocks.{Block, block_end}
use Rattle.sd_base.specs.declared.kinds.CheckKind.TheVariants as kind
use Rattle.checked_tree.specs.declared.expressions.CheckedExpr.{CheckedExpr}
use Rattle.checked_tree.specs.declared.expressions.CheckedExpr.TheVariants as form
use Rattle.checked_tree.specs.declared.shapes.Member.{Member}
use Rattle.checked_tree.specs.declared.shapes.Scalar.{Scalar}
use Rattle.checked_tree.specs.declared.shapes.Shape.{Shape}
use Rattle.checked_tree.specs.declared.shapes.Shape.TheVariants as shape
use Rattle.checked_tree.specs.declared.shapes.StructShape.{StructShape}
use Rattle.checked_tree.specs.declared.shapes.UnionShape.{UnionShape}
use Rattle.checked_tree.specs.declared.sums.Part.TheVariants.{Atom}
use Rattle.checked_tree.specs.declared.sums.Sum.{Sum}
use Rattle.checked_tree.specs.declared.units.CheckedFn.{CheckedFn}
use Rattle.checked_tree.specs.declared.units.ImageBlock.{ImageBlock}
use Rattle.checked_tree.specs.Bare.{bare}
use Rattle.checked_tree.specs.Conditions.{State, peek, eval_level}
use Rattle.checked_tree.specs.Eval.{eval, tests, test, check_of}
use Rattle.checked_tree.specs.Memory.{load, value_from}
use Rattle.byte_memory.specs.Bytes.{little_endian, bytes_at}
use Rattle.checked_tree.specs.Numbers.{address, is_of, is_value, scalar_size, converted}
use Rattle.checked_tree.specs.Outcome.{Outcome, Got, ◌>>=◌, Safe}
use Rattle.checked_tree.proofs.Equations.{at-Load, at-Field}
use Rattle.checked_tree.proofs.NumberRanges.{of_value, converted_of}
use Rattle.checked_tree.proofs.Outcomes.{safe_bind}
use Rattle.checked_tree.proofs.Peeking.{eval_peek}
use Rattle.c_tree.specs.Slots.{slot_named}
use Rattle.deputy_types.specs.declared.element.Element.{Element}
use Rattle.deputy_types.specs.declared.element.Element.TheVariants as element
use Rattle.deputy_types.specs.declared.table.GlobalPlace.{GlobalPlace}
use Rattle.deputy_types.specs.Fitting.{IsInText, whole, is_open, is_used, shape_size, place_value}
use Rattle.deputy_types.specs.Fitting.{member_value}
use Rattle.deputy_types.specs.StructLaws.{IsMultiple}
use Rattle.deputy_types.specs.Table.{element_at, member, member_key, member_shape, is_array, field, arm, global, union_of}
use Rattle.deputy_types.specs.Table.{union_shape}
use Rattle.deputy_types.specs.UnitLayout.{elem_shape}
use Rattle.deputy_types.proofs.Inversions.{some_then, some_map}
use Rattle.deputy_rules.specs.declared.asked.AskedCond.TheVariants as cond
use Rattle.deputy_rules.specs.declared.derived.Derived.{Derived}
use Rattle.deputy_rules.specs.declared.derived.Derived.TheVariants as derived
use Rattle.deputy_rules.specs.declared.derived.FoundArm.{FoundArm}
use Rattle.deputy_rules.specs.declared.derived.Place.{Place}
use Rattle.deputy_rules.specs.declared.derived.Pointed.{Pointed}
use Rattle.deputy_rules.specs.declared.derived.Source.{Source}
use Rattle.deputy_rules.specs.declared.derived.Source.TheVariants as source
use Rattle.deputy_rules.specs.declared.derived.UnionPlace.{UnionPlace}
use Rattle.deputy_rules.specs.declared.derived.Value.TheVariants as value
use Rattle.deputy_rules.specs.declared.derived.Whole.{Whole}
use Rattle.deputy_rules.specs.Context.{Context, slot_shape}
use Rattle.deputy_rules.specs.Deriving.{ask}
use Rattle.deputy_rules.specs.Places.{not_null_by, not_null, through, through_text, followed, is_unsigned, not_below, not_above, moved_sum}
use Rattle.deputy_rules.specs.Places.{index_checks, indexed, struct_of, struct_key, struct_by, plain_member, array_member}
use Rattle.deputy_rules.specs.Places.{member_at, member_place, part_by, part_of, found_with, found_arm, arm_at}
use Rattle.deputy_rules.specs.Places.{arm_place, dotted, block_place, global_place, named_by, named}
use Rattle.deputy_rules.specs.Sums.{constant, beyond, times, side, side_by, constant_of}
use Rattle.deputy_rules.specs.SumValues.{got_or_zero, part_at, PartHasValue, HasValue}
use Rattle.deputy_rules.specs.Values.{container, container_or, member_part, loaded_as, size_of}
use Rattle.deputy_rules.proofs.BareValues.{peek_bare}
use Rattle.deputy_rules.proofs.SumsHave.{has_beyond, has_constant, has_with_part, compared_is}
use Rattle.driver_safety.specs.Derivations.{IsWhole, IsPointer, IsPlace, IsElementAt, IsStructAt, IsMemberAt, LiesAt}
use Rattle.driver_safety.specs.Derivations.{IsValue, IsDerived}
use Rattle.driver_safety.specs.Goodness.{IsGood, IsBlock, IsGranted}
use Rattle.driver_safety.specs.Reaching.{IsOpenAt, IsBetween, Reaches, nowhere, into_text, between}
use Rattle.driver_safety.specs.TypeFacts.{HasTypes, IsMemberOf, IsOpenStruct, IsTag, IsGlobal, key_shape}
use Rattle.driver_safety.proofs.checks.Evaluations.{safe_weaker, safe_same, Pass, pass_none, pass_one, pass_then, eval-Block, eval-Through}
use Rattle.driver_safety.proofs.checks.Evaluations.{eval-Element, eval-Field}
use Rattle.driver_safety.proofs.checks.Sounding.{Sound, then_sound, pure_sound, lift_sound, if_sound, none_sound, ask_sound, weaker}
use Rattle.driver_safety.proofs.expressions.ReadRules.{member_found, loaded, struct_block, no_void}
use Rattle.driver_safety.proofs.expressions.Steps.{le_pos, pos_le, unsigned_natural, address_is}
use Rattle.driver_safety.proofs.expressions.Steps.{Step, forward, step_of, lands, open_there}
use Rattle.driver_safety.proofs.memory.Lying.{IsWithin, open_within, below_block, member_within, member_open, used_none}

some_same : {A : Type 0} (a b : A) → ◌≡◌ {A = Option A} (Some a) (Some b) → a ≡ b
some_same a b h = cc

below_not_zero : (v : ℤ) → IsTrue (int_le (pos 1) v) → v ≢ pos 0
below_not_zero (pos zero) h e = absurd cc
below_not_zero (pos (suc n)) h e = absurd cc
below_not_zero (negsuc n) h e = absurd cc

-- a step of an evaluation, with what it came to
pub safe_step : {A B : Type 0} (r : Outcome A) (g : A → Outcome B) (P : A → Type 0) (Q : B → Type 0) → Safe r P → ((a : A) → r ≡ Ok a → P a
    → Safe (g a) Q) → Safe (r >>= g) Q
safe_step r g P Q s h = safe_bind r g (λ a. (r ≡ Ok a) × P a) Q (safe_weaker r P _ s (λ a e p. (e, p))) (λ a k. h a k.0 k.1)

module _ (f : CheckedFn) (ctx : Context) (blocks : List Block) (st : State) where
  -- ---- Null
  not_null_by_sound : (sure : Bool) (at : Sum) → Sound f st ctx.first (not_null_by ctx sure at)
      (λ ids. (v : ℤ) → HasValue st at v → (sure ≡ true → v ≢ pos 0) → Pass f st ids (v ≢ pos 0))
  not_null_by_sound true at = pure_sound f st ctx.first [] _ (λ v h s. pass_none f st (v ≢ pos 0) (s refl))
  not_null_by_sound false at =
      then_sound f st ctx.first _ _ _ _ (ask_sound f st ctx kind.Null (cond.Le (constant (pos 1)) at)) (λ id. pure_sound f st ctx.first
      (id ∷ []) _
      (λ tested v h s. pass_one f st id (v ≢ pos 0) (safe_weaker (test f st (check_of f id)) _ (λ _. v ≢ pos 0)
      (tested.tested ((has_constant st (pos 1)).read, h.read))
      (λ u e l. below_not_zero v (compared_is st (constant (pos 1)) at (pos 1) v (has_constant st (pos 1)) h l)))))

  pub not_null_sound : (p : Pointed) → Sound f st ctx.first (not_null ctx p) (λ ids. (v : ℤ) → IsPointer ctx blocks st p v
      → Pass f st ids (v ≢ pos 0))
  unfolding not_null
  not_null_sound p = weaker f st ctx.first _ _ _ (λ ids q v is. q v is.at is.sure) (not_null_by_sound p.sure p.at)

  -- ---- Bound, where it is wanted
  le_sound : (a b : Sum) → Sound f st ctx.first (ask ctx kind.Bound (cond.Le a b)) (λ id. (x y : ℤ) → HasValue st a x → HasValue st b y
      → Pass f st (id ∷ []) (IsTrue (int_le x y)))
  le_sound a b = weaker f st ctx.first _ _ _ (λ id tested x y h k. pass_one f st id _ (safe_weaker (test f st (check_of f id)) _ _
      (tested.tested (h.read, k.read))
      (λ u e l. compared_is st a b x y h k l))) (ask_sound f st ctx kind.Bound (cond.Le a b))

  pub below_sound : (wanted : Bool) (low at : Sum) → Sound f st ctx.first (not_below ctx wanted low at)
      (λ ids. (x y : ℤ) → HasValue st low x → HasValue st at y → Pass f st ids (wanted ≡ true → IsTrue (int_le x y)))
  below_sound false low at = pure_sound f st ctx.first [] _ (λ x y h k. pass_none f st _ (λ e. absurd cc))
  below_sound true low at = then_sound f st ctx.first _ _ _ _ (le_sound low at) (λ id. pure_sound f st ctx.first (id ∷ []) _ (λ q x y h k.
      safe_weaker (tests [] f st (id ∷ [])) _ _ (q x y h k) (λ u e l w. l)))

  pub above_sound : (wanted : Bool) (at high : Sum) → Sound f st ctx.first (not_above ctx wanted at high)
      (λ ids. (x y : ℤ) → HasValue st at x → HasValue st high y → Pass f st ids (wanted ≡ true → IsTrue (int_le x y)))
  above_sound false at high = pure_sound f st ctx.first [] _ (λ x y h k. pass_none f st _ (λ e. absurd cc))
  above_sound true at high = then_sound f st ctx.first _ _ _ _ (le_sound at high) (λ id. pure_sound f st ctx.first (id ∷ []) _ (λ q x y h k.
      safe_weaker (tests [] f st (id ∷ [])) _ _ (q x y h k) (λ u e l w. l)))

  -- ---- an address that is moved by so many elements
  side_times : (m : ℤ) (o : Option ℤ) (e : CheckedExpr) (n : ℤ) → PartHasValue st (side_by o e) → part_at st (side_by o e) ≡ n
      → PartHasValue st (times m (side_by o e)) × (part_at st (times m (side_by o e)) ≡ m *ℤ n)
  side_times m (Some z) e n h is = (tt, ap (λ (y : ℤ). m *ℤ y) (omega (arith, ints, *ℤ_comm (pos 1) z, is)))
  side_times m None e n h is = (h, ap (λ (y : ℤ). m *ℤ y) (one _ ∙ is))
    where
      one : (y : ℤ) → y ≡ pos 1 *ℤ y
      one y = omega (arith, ints, *ℤ_comm (pos 1) y)

  pub moved_has : (at : Sum) (v : ℤ) (i : Whole) (n m : ℤ) → HasValue st at v → IsWhole st i n → HasValue st (moved_sum at i m)
      (v +ℤ (m *ℤ n))
  unfolding side
  moved_has at v i n m h is =
      let t = side_times m (constant_of i.written) i.form n is.read is.is in
      has_with_part st at (times m (side i)) v (m *ℤ n) h t.0 t.1

  module _ (good : IsGood ctx blocks st) (types : HasTypes ctx.table) where
    -- what a pointer that is not null lies between
    pub record IsInBlock (own : Shape) (lo hi v : ℤ) : Type 0 where
      pub bounded : IsBetween blocks ctx.table.elems ctx.table.structs own lo hi v
      pub block : IsBlock ctx.table blocks st.memory bounded.block

    pub in_block : (own : Shape) (lo hi v : ℤ) → Reaches blocks ctx.table.elems ctx.table.structs own false lo hi v → v ≢ pos 0
        → IsInBlock own lo hi v
    in_block own lo hi v (nowhere e) n = absurd (n e)
    in_block own lo hi v (into_text e t) n = absurd cc
    in_block own lo hi v (between e b) n = record { bounded = b; block = good.memory.each b.block b.granted }

    plainly : (p : Pointed) (v : ℤ) (is : IsPointer ctx blocks st p v) → p.nullterm ≡ false
        → Reaches blocks ctx.table.elems ctx.table.structs (key_shape ctx.table p.elem) false is.lo is.hi v
    plainly p v is plain = subst (λ (b : Bool). Reaches blocks ctx.table.elems ctx.table.structs (key_shape ctx.table p.elem) b is.lo is.hi
        v) plain is.fits

    -- an element that lies a step from a pointer
    pub record IsThere (p : Pointed) (w : ℤ) : Type 0 where
      pub at : ℕ
      pub is : w ≡ pos at
      pub small : at < 2 ^ 32
      pub lies : IsElementAt ctx blocks p.elem at

    pub there : (p : Pointed) (v d : ℤ) (is : IsPointer ctx blocks st p v) → p.nullterm ≡ false → v ≢ pos 0 → Step (size_of ctx p.elem) d
        → IsTrue (int_le is.lo (v +ℤ d))
        → IsTrue (int_le ((v +ℤ d) +ℤ pos (size_of ctx p.elem)) is.hi) → IsThere p (v +ℤ d)
    there p v d is plain n step low high =
        let own : Shape = key_shape ctx.table p.elem in
        let size : ℕ = size_of ctx p.elem in
        let bytes : shape_size ctx.table.structs own ≡ size = types.bytes p.elem in
        let i = in_block own is.lo is.hi v (plainly p v is plain) n in
        let b : IsBetween blocks ctx.table.elems ctx.table.structs own is.lo is.hi v = i.bounded in
        let l = lands size b.from b.at v d step b.at_is b.above (subst (λ (k : ℕ). IsMultiple k (b.at - b.from)) bytes b.whole)
        (subst (λ (y : ℤ). IsTrue (int_le y (v +ℤ d))) b.from_is low) in
        let ends : l.at + size ≤ b.to = le_pos (l.at + size) b.to
        (subst (λ (y : ℤ). IsTrue (int_le y (pos b.to))) (ap (λ (y : ℤ). y +ℤ pos size) l.is)
        (subst (λ (y : ℤ). IsTrue (int_le ((v +ℤ d) +ℤ pos size) y)) b.to_is high)) in
        let end = b.to_in in
        let most = i.block.to in
        record {
          at = l.at;
          is = l.is;
          small = omega (arith, ends, end, most);
          lies = record {
            block = b.block;
            granted = b.granted;
            no_text = b.no_text;
            type_is = is.type_is;
            place = open_there blocks ctx.table.elems ctx.table.structs own is.lo is.hi v b l.at l.above
                (subst (λ (k : ℕ). IsMultiple k (l.at - b.from)) (sym bytes) l.whole)
                (subst (λ (k : ℕ). l.at + k ≤ b.to) (sym bytes) ends);
          };
        }

    -- ---- `*e`
    none_more : (v : ℤ) → v +ℤ pos 0 ≡ v
    none_more v = omega (arith, ints)

    lowest : (p : Pointed) (v : ℤ) (is : IsPointer ctx blocks st p v) → p.nullterm ≡ false → v ≢ pos 0 → IsTrue (int_le is.lo v)
    lowest p v is plain n =
        let i = in_block (key_shape ctx.table p.elem) is.lo is.hi v (plainly p v is plain) n in
        let b = i.bounded in
        subst (λ (y : ℤ). IsTrue (int_le y v)) (sym b.from_is) (subst (λ (y : ℤ). IsTrue (int_le (pos b.from) y)) (sym b.at_is)
        (pos_le b.from b.at b.above))

    here : (p : Pointed) (v : ℤ) (checks : List ℕ) (is : IsPointer ctx blocks st p v) → p.nullterm ≡ false → v ≢ pos 0
        → IsTrue (int_le (v +ℤ pos (size_of ctx p.elem)) is.hi)
        → IsPlace ctx blocks st (record { form = form.Through p.form checks; at = p.at; source = source.Element p.elem }) v
    here p v checks is plain n high =
        let size : ℕ = size_of ctx p.elem in
        let t = there p v (pos 0) is plain n (forward 0 (ap (λ (m : ℕ). pos m) (zero_times size)))
        (subst (λ (y : ℤ). IsTrue (int_le is.lo y)) (sym (none_more v)) (lowest p v is plain n))
        (subst (λ (y : ℤ). IsTrue (int_le (y +ℤ pos size) is.hi)) (sym (none_more v)) high) in
        record { address = t.at; is = sym (none_more v) ∙ t.is; at = is.at; lies = t.lies }
      where
        zero_times : (size : ℕ) → 0 ≡ 0 * size
        zero_times size = omega arith

    pub through_sound : (p : Pointed) → p.nullterm ≡ false → Sound f st ctx.first (through ctx p) (λ d. IsValue f ctx blocks st
        (value.Pointer p) → IsDerived f ctx blocks st d)
    unfolding through
    through_sound p plain =
        then_sound f st ctx.first _ _ _ _ (not_null_sound p) (λ a.
        then_sound f st ctx.first _ _ _ _ (le_sound (beyond p.at (pos (size_of ctx p.elem))) p.high) (λ b.
        pure_sound f st ctx.first _ _ (λ less safe known.
        safe_same _ _ _ (eval-Through f st p.form (a ++ b ∷ []))
        (safe_bind (eval [] f st p.form) _ _ _ known (λ v is.
        safe_bind (tests [] f st (a ++ b ∷ [])) _ _ _
        (pass_then f st a (b ∷ []) (v ≢ pos 0) (IsTrue (int_le (v +ℤ pos (size_of ctx p.elem)) is.hi)) (safe v is)
        (λ n. less (v +ℤ pos (size_of ctx p.elem)) is.hi (has_beyond st p.at v (pos (size_of ctx p.elem)) is.at) is.high))
        (λ u l. here p v (a ++ b ∷ []) is plain l.0 l.1))))))

    -- text that a pointer that is not null points to
    pub text_there : (own : Shape) (lo hi v : ℤ) → Reaches blocks ctx.table.elems ctx.table.structs own true lo hi v → v ≢ pos 0
        → IsInText blocks v
    text_there own lo hi v (nowhere e) n = absurd (n e)
    text_there own lo hi v (into_text e t) n = t
    text_there own lo hi v (between e b) n = absurd cc

    pub text_place : (v : ℤ) (e : CheckedExpr) (at : Sum) → HasValue st at v → IsInText blocks v
        → IsPlace ctx blocks st (record { form = e; at = at; source = source.Text }) v
    text_place v e at h t = record { address = t.at; is = t.is; at = h; lies = subst (IsInText blocks) t.is t }

    pub through_text_sound : (p : Pointed) → Sound f st ctx.first (through_text ctx p)
        (λ d. p.nullterm ≡ true → IsValue f ctx blocks st (value.Pointer p) → IsDerived f ctx blocks st d)
    unfolding through_text
    through_text_sound p =
        then_sound f st ctx.first _ _ _ _ (not_null_sound p) (λ a. pure_sound f st ctx.first _ _ (λ safe text known.
        safe_same _ _ _ (eval-Through f st p.form a) (safe_bind (eval [] f st p.form) _ _ _ known (λ v is.
        safe_bind (tests [] f st a) _ _ _ (safe v is) (λ u n. text_place v (form.Through p.form a) p.at is.at
        (text_there (key_shape ctx.table p.elem) is.lo is.hi v
        (subst (λ (b : Bool). Reaches blocks ctx.table.elems ctx.table.structs (key_shape ctx.table p.elem) b is.lo is.hi v) text is.fits)
        n))))))

    pub followed_sound : (p : Pointed) → Sound f st ctx.first (followed ctx p) (λ d. IsValue f ctx blocks st (value.Pointer p)
        → IsDerived f ctx blocks st d)
    unfolding followed
    followed_sound p = if_sound f st ctx.first p.nullterm _ _ _ (λ e. weaker f st ctx.first _ _ _ (λ d q. q e) (through_text_sound p))
        (λ e. through_sound p e)

    -- ---- `e[i]`
    -- an `unsigned` does not step back
    unsigned_low : (p : Pointed) (v : ℤ) (is : IsPointer ctx blocks st p v) (s : Scalar) (n : ℤ) → p.nullterm ≡ false → v ≢ pos 0
        → is_unsigned s ≡ true
        → IsTrue (is_of s n) → IsTrue (int_le is.lo (v +ℤ (pos (size_of ctx p.elem) *ℤ n)))
    unsigned_low p v is s n plain some unsigned range =
        let size : ℕ = size_of ctx p.elem in
        let m = unsigned_natural s n unsigned range in
        let i = in_block (key_shape ctx.table p.elem) is.lo is.hi v (plainly p v is plain) some in
        let b = i.bounded in
        let sum : v +ℤ (pos size *ℤ n) ≡ pos (b.at + size * m.number) = ap (λ (y : ℤ). y +ℤ (pos size *ℤ n)) b.at_is
        ∙ ap (λ (y : ℤ). pos b.at +ℤ (pos size *ℤ y)) m.is in
        let above = b.above in
        subst (λ (y : ℤ). IsTrue (int_le y (v +ℤ (pos size *ℤ n)))) (sym b.from_is)
        (subst (λ (y : ℤ). IsTrue (int_le (pos b.from) y)) (sym sum) (pos_le b.from (b.at + size * m.number) (omega (arith, above))))

    low_or : (b : Bool) (P : Type 0) → (b ≡ true → P) → (not b ≡ true → P) → P
    low_or true P h k = h refl
    low_or false P h k = k refl

    abbrev Indexes : Pointed → Whole → ℕ → List ℕ → Type 0
    Indexes p i size ids = (v n : ℤ) (is : IsPointer ctx blocks st p v) → IsWhole st i n
        → Pass f st ids ((v ≢ pos 0) × (not (is_unsigned i.scalar) ≡ true → IsTrue (int_le is.lo (v +ℤ (pos size *ℤ n))))
        × IsTrue (int_le ((v +ℤ (pos size *ℤ n)) +ℤ pos size) is.hi))

    flat : {A B C : Type 0} → (A × B) × C → A × B × C
    flat p = (p.0.0, p.0.1, p.1)

    index_checks_sound : (p : Pointed) (i : Whole) (size : ℕ) → Sound f st ctx.first (index_checks ctx p i size
        (moved_sum p.at i (pos size))) (Indexes p i size)
    index_checks_sound p i size =
        let at : Sum = moved_sum p.at i (pos size) in
        then_sound f st ctx.first _ _ _ _ (not_null_sound p) (λ a.
        then_sound f st ctx.first _ _ _ _ (below_sound (not (is_unsigned i.scalar)) p.low at) (λ b.
        then_sound f st ctx.first _ _ _ _ (le_sound (beyond at (pos size)) p.high) (λ c.
        pure_sound f st ctx.first ((a ++ b) ++ c ∷ []) _ (λ above below null v n is whole.
        let w : ℤ = v +ℤ (pos size *ℤ n) in
        let h = moved_has p.at v i n (pos size) is.at whole in
        safe_weaker (tests [] f st ((a ++ b) ++ c ∷ [])) _ _
        (pass_then f st (a ++ b) (c ∷ []) ((v ≢ pos 0) × (not (is_unsigned i.scalar) ≡ true → IsTrue (int_le is.lo w)))
        (IsTrue (int_le (w +ℤ pos size) is.hi))
        (pass_then f st a b (v ≢ pos 0) (not (is_unsigned i.scalar) ≡ true → IsTrue (int_le is.lo w)) (null v is)
        (λ some. below is.lo w is.low h))
        (λ both. above (w +ℤ pos size) is.hi (has_beyond st at w (pos size) h) is.high))
        (λ u e l. flat l)))))

    pub indexed_sound : (p : Pointed) (i : Whole) → p.nullterm ≡ false
        → Sound f st ctx.first (indexed ctx p i) (λ d. IsValue f ctx blocks st (value.Pointer p) → IsValue f ctx blocks st (value.Int i)
        → IsDerived f ctx blocks st d)
    unfolding indexed
    indexed_sound p i plain =
        let size : ℕ = size_of ctx p.elem in
        let at : Sum = moved_sum p.at i (pos size) in
        then_sound f st ctx.first _ _ _ _ (index_checks_sound p i size) (λ ids. pure_sound f st ctx.first _ _ (λ passes known whole.
        safe_same _ _ _ (eval-Element f st p.form i.form size ids)
        (safe_bind (eval [] f st p.form) _ _ _ known (λ v is. safe_bind (eval [] f st i.form) _ _ _ whole.1 (λ n in'.
        safe_bind (tests [] f st ids) _ _ _ (passes v n is in') (λ u l.
        let low = low_or (is_unsigned i.scalar) (IsTrue (int_le is.lo (v +ℤ (pos size *ℤ n)))) (λ e. unsigned_low p v is i.scalar n plain
        l.0 e in'.range) l.1 in
        let t = there p v (pos size *ℤ n) is plain l.0 (step_of size n) low l.2 in
        safe_same _ _ _ (address_is (v +ℤ (pos size *ℤ n)) t.at t.is t.small)
        (record {
          address = t.at;
          is = refl;
          at = subst (HasValue st at) t.is (moved_has p.at v i n (pos size) is.at in');
          lies = t.lies;
        })))))))

    -- ---- the struct in which a field lies
    struct_shape : (s : ℕ) → key_shape ctx.table (element.Struct s) ≡ shape.Struct s
    unfolding elem_shape
    struct_shape s = refl

    by_key : (key : Element) (s a : ℕ) → struct_key key ≡ Some s → IsElementAt ctx blocks key a → IsStructAt ctx blocks s a
    by_key (element.Struct k) s a h l = record {
      block = l.block;
      granted = l.granted;
      no_text = l.no_text;
      place = subst (λ (x : Shape). IsOpenAt ctx.table.elems ctx.table.structs l.block x a) (struct_shape k
          ∙ ap (λ (n : ℕ). shape.Struct n) (some_same k s h)) l.place;
    }
    by_key (element.Int i) s a h l = absurd cc
    by_key (element.Sentinel n) s a h l = absurd cc
    by_key (element.Nullterm n) s a h l = absurd cc
    by_key (element.Count n k) s a h l = absurd cc

    struct_by_is : (x : Shape) (s : ℕ) → struct_by (Some x) ≡ Some s → x ≡ shape.Struct s
    struct_by_is (shape.Struct k) s h = ap (λ (n : ℕ). shape.Struct n) (some_same k s h)
    struct_by_is (shape.Int i) s h = absurd cc
    struct_by_is (shape.Pointer n b) s h = absurd cc
    struct_by_is shape.Address s h = absurd cc

    by_member : (e : CheckedExpr) (s' m s a : ℕ) → struct_by (member_shape ctx.table s' m) ≡ Some s → IsMemberAt ctx blocks st e s' m a
        → IsStructAt ctx blocks s a
    by_member e s' m s a h at = by (member ctx.table s' m) refl h
      where
        by : (o : Option Member) → member ctx.table s' m ≡ o → struct_by (option_map (λ (x : Member). x.shape) o) ≡ Some s
            → IsStructAt ctx blocks s a
        by None e h = absurd cc
        by (Some x) e h =
            let k = member_found ctx.table s' m x e in
            let u : at.structure ≡ k.0 = some_same at.structure k.0 (sym at.structure_is ∙ k.1) in
            let w : at.member ≡ x = some_same at.member x (sym at.member_is ∙ ap (λ (t : StructShape). slice_get t.members m) u ∙ k.2) in
            let is : at.member.shape ≡ shape.Struct s = ap (λ (y : Member). y.shape) w ∙ struct_by_is x.shape s h in
            let facts : IsMemberOf ctx.table s' at.structure m at.member = (types.structs s' at.structure at.structure_is).members m
            at.member at.member_is in
            let free : is_open at.structure m at.member ≡ true = subst (IsOpenStruct at.structure m at.member) is facts.structure in
            let some = facts.some in
            let o = member_open ctx.table types blocks st.memory at.lies.block (struct_block f ctx blocks st good types s' at.struct_at
            at.lies) s' at.struct_at at.lies.place
            at.structure at.structure_is m at.member at.member_is free 0 some in
            let first : at.struct_at + at.member.offset + 0 * shape_size ctx.table.structs at.member.shape ≡ a = first_is
            (shape_size ctx.table.structs at.member.shape) at.at in
            record {
              block = at.lies.block;
              granted = at.lies.granted;
              no_text = at.lies.no_text;
              place = subst (λ (n : ℕ). IsOpenAt ctx.table.elems ctx.table.structs at.lies.block (shape.Struct s) n) first
                  (subst (λ (y : Shape). IsOpenAt ctx.table.elems ctx.table.structs at.lies.block y (at.struct_at + at.member.offset + 0 *
                  shape_size ctx.table.structs at.member.shape)) is o);
            }
          where
            first_is : (size : ℕ) → a ≡ at.struct_at + at.member.offset → at.struct_at + at.member.offset + 0 * size ≡ a
            first_is size e = omega (arith, e)

    struct_place : (e : CheckedExpr) (x : Source) (s a : ℕ) → struct_of ctx x ≡ Some s → LiesAt ctx blocks st e x a → IsStructAt ctx blocks
        s a
    unfolding struct_of
    struct_place e (source.Element key) s a h l = by_key key s a h l
    struct_place e source.Text s a h l = absurd cc
    struct_place e (source.Member s' m) s a h l = by_member e s' m s a h l

    -- ---- `l.f`
    container_is : (e : CheckedExpr) (offset : ℕ) (ids : List ℕ) → container (form.Field e offset ids) ≡ e
    unfolding container
    container_is e offset ids = ap (container_or (form.Field e offset ids)) (form.outs-Field e offset ids)

    -- a struct place with an address
    record IsStruct (p : Place) (s : ℕ) (z : ℤ) : Type 0 where
      address : ℕ
      is : z ≡ pos address
      at : HasValue st p.at z
      lies : IsStructAt ctx blocks s address

    struct_is : (p : Place) (s : ℕ) → struct_of ctx p.source ≡ Some s → Safe (eval [] f st p.form) (IsPlace ctx blocks st p)
        → Safe (eval [] f st p.form) (IsStruct p s)
    struct_is p s h d = safe_weaker (eval [] f st p.form) _ _ d (λ z e is. record {
      address = is.address;
      is = is.is;
      at = is.at;
      lies =
          struct_place p.form p.source s is.address h is.lies;
    })

    member_end : (s a : ℕ) (at : IsStructAt ctx blocks s a) (t : StructShape) (m : ℕ) (w : Member) → slice_get ctx.table.structs s ≡ Some t
        → slice_get t.members m ≡ Some w
        → a + w.offset + w.count * shape_size ctx.table.structs w.shape ≤ block_end at.block
    member_end s a at t m w is mem =
        let lies = open_within ctx.table types blocks st.memory at.block (struct_block f ctx blocks st good types s a at) (shape.Struct s)
        a at.place in
        let size : shape_size ctx.table.structs (shape.Struct s) ≡ t.size = ap (λ (o : Option StructShape). unwrap_or
        (option_map (λ (t : StructShape). t.size) o) 0) is in
        let within : w.offset + w.count * shape_size ctx.table.structs w.shape ≤ t.size =
        subst (λ (x : Member). x.offset + x.count * shape_size ctx.table.structs x.shape ≤ t.size) (get_or_from_slice_get t.members m w w
        mem)
        (types.tidy.nested s t is m w (slice_get_within t.members m w mem)) in
        let to = lies.to in
        omega (arith, to, size, within)

    plain_is : (p : Place) (s m : ℕ) (x : Member) → member ctx.table s m ≡ Some x → is_array ctx.table s m ≡ false → x.arm ≡ None
        → Safe (eval [] f st p.form) (IsStruct p s)
        → IsDerived f ctx blocks st (plain_member p s m x.offset)
    unfolding tests
    plain_is p s m x found alone free d =
        let k = member_found ctx.table s m x found in
        let facts : IsMemberOf ctx.table s k.0 m x = (types.structs s k.0 k.1).members m x k.2 in
        let e : CheckedExpr = form.Field p.form x.offset [] in
        safe_same _ _ _ (eval-Field f st p.form x.offset []) (safe_step (eval [] f st p.form) _ _ _ d (λ z seen is.
        let a : ℕ = is.address in
        let block = struct_block f ctx blocks st good types s a is.lies in
        let within = member_within ctx.table types blocks st.memory is.lies.block block s a is.lies.place k.0 k.1 m x k.2 facts.some in
        let below = below_block ctx.table types blocks st.memory is.lies.block block (a + x.offset) (shape_size ctx.table.structs x.shape)
        within in
        let sum : z +ℤ pos x.offset ≡ pos (a + x.offset) = ap (λ (y : ℤ). y +ℤ pos x.offset) is.is in
        safe_same _ _ _ (address_is (z +ℤ pos x.offset) (a + x.offset) sum (omega (arith, below)))
        (record {
          address = a + x.offset;
          is = refl;
          at = subst (HasValue st (beyond p.at (pos x.offset))) sum (has_beyond st p.at z (pos x.offset) is.at);
          lies = record {
            struct_at = a;
            struct_is = ap (peek st) (container_is p.form x.offset []) ∙ eval_peek [] f st p.form z seen ∙ ap (λ (y : ℤ). Ok y) is.is;
            lies = is.lies;
            structure = k.0;
            structure_is = k.1;
            member = x;
            member_is = k.2;
            one = facts.single alone;
            used = used_none st.memory.bytes a k.0 x.arm free;
            at = refl;
          };
        })))

    array_is : (p : Place) (s m : ℕ) (x : Member) (key : Element) → member ctx.table s m ≡ Some x → is_array ctx.table s m ≡ true
        → member_key ctx.table s m ≡ Some key
        → Safe (eval [] f st p.form) (IsStruct p s) → IsDerived f ctx blocks st (array_member p x.offset x.count key)
    unfolding tests
    array_is p s m x key found many typed d =
        let k = member_found ctx.table s m x found in
        let facts : IsMemberOf ctx.table s k.0 m x = (types.structs s k.0 k.1).members m x k.2 in
        let type = facts.typed key typed in
        let size : shape_size ctx.table.structs x.shape ≡ size_of ctx key = ap (shape_size ctx.table.structs) type.0 ∙ types.bytes key in (
          facts.some,
          safe_same _ _ _ (eval-Field f st p.form x.offset []) (safe_bind (eval [] f st p.form) _ _ _ d (λ z is.
              let a : ℕ = is.address in
              let block = struct_block f ctx blocks st good types s a is.lies in
              let end = member_end s a is.lies k.0 m x k.1 k.2 in
              let to = block.to in
              let within = open_within ctx.table types blocks st.memory is.lies.block block (shape.Struct s) a is.lies.place in
              let from = within.from in
              let sum : z +ℤ pos x.offset ≡ pos (a + x.offset) = ap (λ (y : ℤ). y +ℤ pos x.offset) is.is in
              safe_same _ _ _ (address_is (z +ℤ pos x.offset) (a + x.offset) sum (omega (arith, end, to)))
              (record {
                address = a + x.offset;
                is = refl;
                at = subst (HasValue st (beyond p.at (pos x.offset))) sum (has_beyond st p.at z (pos x.offset) is.at);
                block = is.lies.block;
                granted = is.lies.granted;
                no_text = is.lies.no_text;
                type_is = type.1;
                from = omega (arith, from);
                to = subst (λ (n : ℕ). a + x.offset + x.count * n ≤ block_end is.lies.block) size end;
                elements = λ i l.
                    subst (λ (n : ℕ). IsOpenAt ctx.table.elems ctx.table.structs is.lies.block (key_shape ctx.table key)
                    (a + x.offset + i * n)) size
                    (subst (λ (y : Shape). IsOpenAt ctx.table.elems ctx.table.structs is.lies.block y (a + x.offset + i * shape_size
                    ctx.table.structs x.shape)) type.0
                    (member_open ctx.table types blocks st.memory is.lies.block block s a is.lies.place k.0 k.1 m x k.2 (facts.array many)
                    i l));
              }))),
        )

    by_array : (b : Bool) (p : Place) (s m : ℕ) (x : Member) (d : Derived) → is_array ctx.table s m ≡ b → member ctx.table s m ≡ Some x
        → x.arm ≡ None
        → (if b then option_map (λ k. array_member p x.offset x.count k) (member_key ctx.table s m) else Some
        (plain_member p s m x.offset)) ≡ Some d
        → Safe (eval [] f st p.form) (IsStruct p s) → IsDerived f ctx blocks st d
    by_array true p s m x d e found free h is =
        let r = some_map (member_key ctx.table s m) (λ k. array_member p x.offset x.count k) d h in
        subst (IsDerived f ctx blocks st) r.2 (array_is p s m x r.0 found e r.1 is)
    by_array false p s m x d e found free h is = subst (IsDerived f ctx blocks st) (some_same _ _ h) (plain_is p s m x found e free is)

    field_is : (p : Place) (s : ℕ) (name : List ℕ) (o : Option ℕ) (d : Derived) → field ctx.table s name ≡ o → part_by ctx p s name o ≡
        Some d → Safe (eval [] f st p.form) (IsStruct p s)
        → IsDerived f ctx blocks st d
    unfolding member_place
    field_is p s name (Some m) d e h is =
        let r = some_then (member ctx.table s m) (λ x. member_at ctx p s m x) d h in
        let k = member_found ctx.table s m r.0 r.1 in
        by_array (is_array ctx.table s m) p s m r.0 d refl r.1 ((types.structs s k.0 k.1).fields name m r.0 e k.2) r.2 is
    field_is p s name None d e h is =
        let r = some_map (union_of ctx.table s name) _ d h in
        subst (IsDerived f ctx blocks st) r.2 (safe_weaker (eval [] f st p.form) _ _ is
        (λ z seen l. record { address = l.address; is = l.is; at = l.at; lies = l.lies }))

    part_is : (p : Place) (name : List ℕ) (d : Derived) → part_of ctx p name ≡ Some d → Safe (eval [] f st p.form)
        (IsPlace ctx blocks st p) → IsDerived f ctx blocks st d
    unfolding part_of
    part_is p name d h is =
        let r = some_then (struct_of ctx p.source) _ d h in
        field_is p r.0 name (field ctx.table r.0 name) d refl r.2 (struct_is p r.0 r.1 is)

    -- ---- `l.u.a`
    -- an arm that was found, with its tag
    record IsArm (s u : ℕ) (x : FoundArm) : Type 0 where
      structure : StructShape
      structure_is : slice_get ctx.table.structs s ≡ Some structure
      union : UnionShape
      union_is : slice_get structure.unions u ≡ Some union
      member : Member
      member_is : slice_get structure.members x.number ≡ Some member
      arm_is : member.arm ≡ Some (u, x.constant)
      one : member.count ≡ 1
      offset_is : x.offset ≡ member.offset
      tag : IsTag structure union.tag
      tag_offset_is : x.tag_offset ≡ tag.member.offset
      tag_scalar_is : x.tag_scalar ≡ tag.scalar

    found_is : (s u : ℕ) (name : List ℕ) (x : FoundArm) → found_arm ctx s u name ≡ Some x → IsArm s u x
    unfolding found_arm
    found_is s u name x h =
        let a = some_then (arm ctx.table s u name) _ x h in
        let b = some_then (member ctx.table s a.0) _ x a.2 in
        let c = some_then (union_shape ctx.table s u) _ x b.2 in
        let d = some_then (member ctx.table s c.0.tag) _ x c.2 in
        let e = some_map b.0.arm _ x d.2 in
        let k = member_found ctx.table s a.0 b.0 b.1 in
        let r = some_then (slice_get ctx.table.structs s) (λ (x : StructShape). slice_get x.unions u) c.0 c.1 in
        let same : r.0 ≡ k.0 = some_same r.0 k.0 (sym r.1 ∙ k.1) in
        let of = types.structs s k.0 k.1 in
        let union : slice_get k.0.unions u ≡ Some c.0 = subst (λ (t : StructShape). slice_get t.unions u ≡ Some c.0) same r.2 in
        let arms = of.arms u name a.0 b.0 a.1 k.2 in
        let tag = of.tags u c.0 union in
        let kt = member_found ctx.table s c.0.tag d.0 d.1 in
        let same_tag : kt.0 ≡ k.0 = some_same kt.0 k.0 (sym kt.1 ∙ k.1) in
        let tag_member : tag.member ≡ d.0 = some_same tag.member d.0 (sym tag.found ∙ subst (λ (t : StructShape). slice_get t.members
        c.0.tag ≡ Some d.0) same_tag kt.2) in
        let case : (u, arms.0) ≡ e.0 = some_same (u, arms.0) e.0 (sym arms.1 ∙ e.1) in
        let fields : found_with a.0 b.0 d.0 e.0 ≡ x = e.2 in
        record {
          structure = k.0;
          structure_is = k.1;
          union = c.0;
          union_is = union;
          member = b.0;
          member_is = subst (λ (n : ℕ). slice_get k.0.members n ≡ Some b.0) (ap (λ (x : FoundArm). x.number) fields) k.2;
          arm_is = arms.1 ∙ ap (λ (z : ℤ). Some (u, z)) (ap (λ (y : ℕ × ℤ). y.1) case ∙ ap (λ (x : FoundArm). x.constant) fields);
          one = arms.2;
          offset_is = sym (ap (λ (x : FoundArm). x.offset) fields);
          tag = tag;
          tag_offset_is = sym (ap (λ (x : FoundArm). x.tag_offset) fields) ∙ ap (λ (y : Member). y.offset) (sym tag_member);
          tag_scalar_is = sym (ap (λ (x : FoundArm). x.tag_scalar) fields) ∙ ap (λ (y : Member). loaded_as y.shape) (sym tag_member)
              ∙ ap loaded_as tag.shape_is;
        }

    tag_value : (a : ℕ) (t : StructShape) (k : ℕ) (tag : IsTag t k)
        → member_value st.memory.bytes a t k ≡ value_from tag.scalar (bytes_at st.memory.bytes (a + tag.member.offset)
        (scalar_size tag.scalar))
    tag_value a t k tag =
        ap (λ (o : Option Member). unwrap_or (option_map (λ m. place_value st.memory.bytes (a + m.offset) m.shape) o) (pos 0)) tag.found
        ∙ ap (place_value st.memory.bytes (a + tag.member.offset)) tag.shape_is

    tag_peeks : (c : CheckedExpr) (z : ℤ) (s a : ℕ) (at : IsStructAt ctx blocks s a) (t : StructShape) → slice_get ctx.table.structs s ≡
        Some t → (k : ℕ) (tag : IsTag t k)
        → eval [] f st c ≡ Ok z → z ≡ pos a → peek st (form.Load tag.scalar (form.Field (bare c) tag.member.offset [])) ≡ Ok
        (member_value st.memory.bytes a t k)
    unfolding peek
    tag_peeks c z s a at t is k tag seen e =
        let off : ℕ = tag.member.offset in
        let block = struct_block f ctx blocks st good types s a at in
        let one = tag.one in
        let within = subst (λ (x : Shape). IsWithin at.block (a + off) (shape_size ctx.table.structs x)) tag.shape_is
        (member_within ctx.table types blocks st.memory at.block block s a at.place t is k tag.member tag.found (omega (arith, one))) in
        let below = below_block ctx.table types blocks st.memory at.block block (a + off) (scalar_size tag.scalar) within in
        at-Load Got (eval_level (λ _. Ok tt) st) tag.scalar (form.Field (bare c) off [])
        ∙ ap (λ (g : Got). g >>= λ n. load st.memory tag.scalar n) (at-Field Got (eval_level (λ _. Ok tt) st) (bare c) off []
        ∙ ap (λ (g : Got). g >>= λ n. address (n +ℤ pos off)) (peek_bare st c ∙ eval_peek [] f st c z seen ∙ ap (λ (y : ℤ). Ok y) e)
        ∙ address_is (pos a +ℤ pos off) (a + off) refl (omega (arith, below)))
        ∙ loaded f ctx blocks st good types at.block block tag.scalar (a + off) within
        ∙ ap (λ (y : ℤ). Ok y) (sym (tag_value a t k tag))

    tag_word : (a : ℕ) (t : StructShape) (k : ℕ) (tag : IsTag t k) → IsTrue (is_value (member_value st.memory.bytes a t k))
    tag_word a t k tag =
        let n : ℕ = little_endian (bytes_at st.memory.bytes (a + tag.member.offset) (scalar_size tag.scalar)) in
        subst (λ (z : ℤ). IsTrue (is_value z)) (sym (tag_value a t k tag)) (of_value tag.scalar (converted tag.scalar (pos n))
        (converted_of tag.scalar (pos n) (no_void tag.scalar tag.integer)))

    one_times : (z : ℤ) → pos 1 *ℤ z ≡ z
    one_times z = omega (arith, ints, *ℤ_comm (pos 1) z)

    selected : (a : ℕ) (t : StructShape) (u : ℕ) (x : UnionShape) (z : ℤ) → slice_get t.unions u ≡ Some x → member_value st.memory.bytes a
        t x.tag ≡ z
        → is_used st.memory.bytes a t (Some (u, z)) ≡ true
    selected a t u x z is e = subst (λ (k : ℕ). int_eq (member_value st.memory.bytes a t k) z ≡ true)
        (sym (ap (λ (o : Option UnionShape). unwrap_or (option_map (λ u. u.tag) o) 0) is))
        ((Decides-int_eq (member_value st.memory.bytes a t x.tag) z).1 e)

    arm_at_sound : (u : UnionPlace) (x : FoundArm) → Sound f st ctx.first (arm_at ctx u x)
        (λ d. IsArm u.structure u.part x → IsDerived f ctx blocks st (derived.Union u) → IsDerived f ctx blocks st d)
    arm_at_sound u x =
        then_sound f st ctx.first _ _ _ _ (ask_sound f st ctx kind.Tag (cond.Equal (member_part u.container x.tag_scalar x.tag_offset)
        x.constant)) (λ c. pure_sound f st ctx.first _ _ (λ tested found known.
        let t : StructShape = found.structure in
        let off : ℕ = found.member.offset in
        let e : CheckedExpr = form.Field u.container x.offset (c ∷ []) in
        safe_same _ _ _ (eval-Field f st u.container x.offset (c ∷ [])) (safe_step (eval [] f st u.container) _ _ _ known (λ z seen is.
        let a : ℕ = is.address in
        let tag_part : member_part u.container x.tag_scalar x.tag_offset ≡ Atom (pos 1) (form.Load found.tag.scalar
        (form.Field (bare u.container) found.tag.member.offset [])) =
        ap (λ (n : ℕ). member_part u.container x.tag_scalar n) found.tag_offset_is ∙ ap (λ (s : Scalar). member_part u.container s
        found.tag.member.offset) found.tag_scalar_is in
        let peeks = tag_peeks u.container z u.structure a is.lies t found.structure_is found.union.tag found.tag seen is.is in
        let tag : ℤ = member_value st.memory.bytes a t found.union.tag in
        let read : PartHasValue st (member_part u.container x.tag_scalar x.tag_offset) = subst (PartHasValue st) (sym tag_part)
        (tag, peeks, tag_word a t found.union.tag found.tag) in
        let value : part_at st (member_part u.container x.tag_scalar x.tag_offset) ≡ tag = ap (part_at st) tag_part
        ∙ ap (λ (g : Got). pos 1 *ℤ got_or_zero g) peeks ∙ one_times tag in
        safe_bind (tests [] f st (c ∷ [])) _ _ _
        (pass_one f st c (tag ≡ x.constant) (safe_weaker (test f st (check_of f c)) _ _ (tested.tested read) (λ w g passed. sym value
        ∙ passed)))
        (λ w same.
        let block = struct_block f ctx blocks st good types u.structure a is.lies in
        let one = found.one in
        let within = member_within ctx.table types blocks st.memory is.lies.block block u.structure a is.lies.place t found.structure_is
        x.number found.member found.member_is (omega (arith, one)) in
        let below = below_block ctx.table types blocks st.memory is.lies.block block (a + off) (shape_size ctx.table.structs
        found.member.shape) within in
        let moved = found.offset_is in
        let sum : z +ℤ pos x.offset ≡ pos (a + x.offset) = ap (λ (y : ℤ). y +ℤ pos x.offset) is.is in
        safe_same _ _ _ (address_is (z +ℤ pos x.offset) (a + x.offset) sum (omega (arith, below, moved)))
        (record {
          address = a + x.offset;
          is = refl;
          at = subst (HasValue st (beyond u.at (pos x.offset))) sum (has_beyond st u.at z (pos x.offset) is.at);
          lies = record {
            struct_at = a;
            struct_is = ap (peek st) (container_is u.container x.offset (c ∷ [])) ∙ eval_peek [] f st u.container z seen
                ∙ ap (λ (y : ℤ). Ok y) is.is;
            lies = is.lies;
            structure = t;
            structure_is = found.structure_is;
            member = found.member;
            member_is = found.member_is;
            one = found.one;
            used = subst (λ (o : Option (ℕ × ℤ)). is_used st.memory.bytes a t o ≡ true) (sym found.arm_is) (selected a t u.part found.union
                x.constant found.union_is same);
            at = omega (arith, moved);
          };
        }))))))

    arm_sound : (u : UnionPlace) (name : List ℕ) → Sound f st ctx.first (arm_place ctx u name) (λ d. IsDerived f ctx blocks st
        (derived.Union u) → IsDerived f ctx blocks st d)
    unfolding arm_place
    arm_sound u name = then_sound f st ctx.first _ _ (λ x. IsArm u.structure u.part x) _
        (lift_sound f st ctx.first (found_arm ctx u.structure u.part name) _ (λ x h. found_is u.structure u.part name x h))
        (λ x. weaker f st ctx.first _ _ _ (λ d q arm known. q arm known) (arm_at_sound u x))

    pub dotted_sound : (x : Derived) (name : List ℕ) → Sound f st ctx.first (dotted ctx x name) (λ d. IsDerived f ctx blocks st x
        → IsDerived f ctx blocks st d)
    unfolding dotted
    dotted_sound (derived.Place p) name = lift_sound f st ctx.first (part_of ctx p name) _ (λ d h is. part_is p name d h is)
    dotted_sound (derived.Union u) name = arm_sound u name
    dotted_sound (derived.Value v) name = none_sound f st ctx.first _
    dotted_sound (derived.Local slot) name = none_sound f st ctx.first _
    dotted_sound (derived.Array a) name = none_sound f st ctx.first _

    -- ---- names
    -- an element of a block of the load image
    element_in : (b : ImageBlock) (key : Element) (g : IsGranted blocks b) → element_at ctx.table b.elem ≡ Some key → (i : ℕ) → i < b.count
        → IsOpenAt ctx.table.elems ctx.table.structs g.block (key_shape ctx.table key) (b.base + i * size_of ctx key)
    element_in b key g is i l =
        let known = types.elements b.elem key is in
        let here : slice_get ctx.table.elems g.block.layout.elem ≡ Some (key_shape ctx.table key) = subst
        (λ (n : ℕ). slice_get ctx.table.elems n ≡ Some (key_shape ctx.table key)) (sym g.elem) known.0 in
        let block = good.memory.each g.block g.granted in
        let size : g.block.layout.size ≡ size_of ctx key =
        block.size ∙ ap (λ (o : Option Shape). unwrap_or (option_map (shape_size ctx.table.structs) o) 0) here ∙ types.bytes key in
        let count = g.count in
        let base = g.base in
        record {
          element = key_shape ctx.table key;
          element_is = here;
          place = i;
          within = omega (arith, l, count);
          part = whole (ap (λ (n : ℕ). n + i * size_of ctx key) (sym base) ∙ ap (λ (n : ℕ). g.block.base + i * n) (sym size)) refl;
        }

    block_size_is : (b : ImageBlock) (key : Element) (g : IsGranted blocks b) → element_at ctx.table b.elem ≡ Some key
        → b.base + b.count * size_of ctx key ≡ block_end g.block
    block_size_is b key g is =
        let known = types.elements b.elem key is in
        let here : slice_get ctx.table.elems g.block.layout.elem ≡ Some (key_shape ctx.table key) = subst
        (λ (n : ℕ). slice_get ctx.table.elems n ≡ Some (key_shape ctx.table key)) (sym g.elem) known.0 in
        let block = good.memory.each g.block g.granted in
        let size : g.block.layout.size ≡ size_of ctx key =
        block.size ∙ ap (λ (o : Option Shape). unwrap_or (option_map (shape_size ctx.table.structs) o) 0) here ∙ types.bytes key in
        ap (λ (n : ℕ). n + b.count * size_of ctx key) (sym g.base) ∙ ap (λ (n : ℕ). g.block.base + n * size_of ctx key) (sym g.count)
        ∙ ap (λ (n : ℕ). g.block.base + g.block.count * n) (sym size) ∙ ap (λ (n : ℕ). g.block.base + n)
        (swap g.block.count g.block.layout.size)
      where
        swap : (m n : ℕ) → m * n ≡ n * m
        swap m n = grind arith

    block_is : (array : Bool) (b : ImageBlock) (key : Element) → IsGlobal b → element_at ctx.table b.elem ≡ Some key → IsGranted blocks b
        → IsDerived f ctx blocks st (block_place array b key)
    block_is true b key is k g =
        let base = g.base in
        let end = block_size_is b key g k in (
          is.some,
          safe_same _ _ _ (eval-Block f st b.base) (record {
            address = b.base;
            is = refl;
            at = has_constant st (pos b.base);
            block = g.block;
            granted = g.granted;
            no_text = g.nullterm ∙ is.no_text;
            type_is = (types.elements b.elem key k).1;
            from = omega (arith, base);
            to = omega (arith, end);
            elements = λ i l. element_in b key g k i l;
          }),
        )
    block_is false b key is k g = safe_same _ _ _ (eval-Block f st b.base) (record {
      address = b.base;
      is = refl;
      at = has_constant st (pos b.base);
      lies = record {
        block = g.block;
        granted = g.granted;
        no_text = g.nullterm ∙ is.no_text;
        type_is = (types.elements b.elem key k).1;
        place = subst (λ (n : ℕ). IsOpenAt ctx.table.elems ctx.table.structs g.block (key_shape ctx.table key) n) (none (size_of ctx key))
            (element_in b key g k 0 is.some);
      };
    })
      where
        none : (size : ℕ) → b.base + 0 * size ≡ b.base
        none size = omega arith

    global_is : (name : List ℕ) (g : GlobalPlace) (d : Derived) → global ctx.table name ≡ Some g → global_place ctx g ≡ Some d
        → IsDerived f ctx blocks st d
    unfolding global_place
    global_is name g d found h =
        let b = some_then (slice_get ctx.table.image g.block) _ d h in
        let k = some_map (element_at ctx.table b.0.elem) _ d b.2 in
        subst (IsDerived f ctx blocks st) k.2 (block_is g.array b.0 k.0 (types.globals name g b.0 found b.1) k.1 (good.memory.image g.block
        b.0 b.1))

    pub named_sound : (x : List ℕ) (d : Derived) → named ctx x ≡ Some d → IsDerived f ctx blocks st d
    unfolding named
    named_sound x d h = by (slot_named ctx.locals x) h
      where
        by : (o : Option ℕ) → named_by ctx x o ≡ Some d → IsDerived f ctx blocks st d
        by (Some slot) h = let r = some_map (slot_shape ctx slot) _ d h in subst (IsDerived f ctx blocks st) r.2 tt
        by None h = let r = some_then (global ctx.table x) (λ g. global_place ctx g) d h in global_is x r.0 d r.1 r.2
