-- Pointers: addresses, strings, and sums of a pointer and an integer.
use Rattle.std.proofs.Common.{◌≡◌, ◌≢◌, ℕ, zero, suc, ◌+◌, ◌*◌, ◌^◌, ◌<◌, ◌≤◌, ◌==◌, IsTrue, Bool, true, false, not, ◌&&◌}
use Rattle.std.proofs.Common.{List, [], ◌++◌, ℤ, pos, ◌+ℤ◌, ◌-ℤ◌, ◌*ℤ◌, neg_ℤ, int_le, Option, Some, None, is_none}
use Rattle.std.proofs.Common.{option_map, unwrap_or, slice_get, if◌then◌else◌, refl, sym, ap, ◌∙◌, subst, arith}
use Rattle.std.specs.List.{list_any}
use Rattle.std.proofs.lemmas.Int.{ints}
use Rattle.dep_expr.proofs.Integers.{neg-mul}
use Rattle.sd_base.specs.Blocks.{Block, block_end}
use Rattle.checked_tree.specs.declared.expressions.CheckedExpr.{CheckedExpr}
use Rattle.checked_tree.specs.declared.expressions.CheckedExpr.TheVariants as form
use Rattle.checked_tree.specs.declared.expressions.PointerSum.{PointerSum}
use Rattle.checked_tree.specs.declared.expressions.PointerSum.TheVariants as pointer_sum
use Rattle.checked_tree.specs.declared.shapes.Member.{Member}
use Rattle.checked_tree.specs.declared.shapes.Scalar.{Scalar}
use Rattle.checked_tree.specs.declared.shapes.Shape.{Shape}
use Rattle.checked_tree.specs.declared.shapes.StructShape.{StructShape}
use Rattle.checked_tree.specs.declared.sums.Sum.{Sum}
use Rattle.checked_tree.specs.declared.units.CheckedFn.{CheckedFn}
use Rattle.checked_tree.specs.declared.units.ImageBlock.{ImageBlock}
use Rattle.checked_tree.specs.Conditions.{State, parts, moved as moved_by}
use Rattle.checked_tree.specs.Eval.{eval, tests}
use Rattle.checked_tree.specs.Numbers.{address, is_of}
use Rattle.checked_tree.specs.Outcome.{Got, Safe}
use Rattle.checked_tree.proofs.Outcomes.{safe_bind}
use Rattle.deputy_types.specs.declared.element.Element.{Element}
use Rattle.deputy_types.specs.Fitting.{is_open, shape_size}
use Rattle.deputy_types.specs.Table.{member, member_key, is_tag, is_named, has_names, literal, shape_names}
use Rattle.deputy_types.proofs.Inversions.{some_then, some_map, if_some}
use Rattle.deputy_rules.specs.declared.derived.Derived.{Derived}
use Rattle.deputy_rules.specs.declared.derived.Derived.TheVariants as derived
use Rattle.deputy_rules.specs.declared.derived.Place.{Place}
use Rattle.deputy_rules.specs.declared.derived.Pointed.{Pointed}
use Rattle.deputy_rules.specs.declared.derived.Source.{Source}
use Rattle.deputy_rules.specs.declared.derived.Source.TheVariants as source
use Rattle.deputy_rules.specs.declared.derived.Value.TheVariants as value
use Rattle.deputy_rules.specs.declared.derived.Whole.{Whole}
use Rattle.deputy_rules.specs.Context.{Context}
use Rattle.deputy_rules.specs.Places.{is_unsigned, moved_sum}
use Rattle.deputy_rules.specs.Pointers.{string_at, string, has_address, addressed_member, addressed, address_at, address_of_place}
use Rattle.deputy_rules.specs.Pointers.{address_of, step_size, may_fall, may_rise, move_checks, moved}
use Rattle.deputy_rules.specs.SumValues.{HasValue}
use Rattle.deputy_rules.specs.Values.{size_of}
use Rattle.deputy_rules.proofs.SumsHave.{has_beyond, has_constant}
use Rattle.driver_safety.specs.Derivations.{IsWhole, IsPointer, IsElementAt, IsMemberAt, LiesAt, IsValue, IsDerived}
use Rattle.driver_safety.specs.Goodness.{IsGood, IsBlock, IsGranted}
use Rattle.driver_safety.specs.Reaching.{IsOpenAt, IsBetween, Reaches, into_text, between}
use Rattle.driver_safety.specs.TypeFacts.{HasTypes, IsMemberOf, IsString, key_shape}
use Rattle.driver_safety.proofs.checks.Evaluations.{safe_weaker, safe_same, Pass, pass_then, eval-Block}
use Rattle.driver_safety.proofs.checks.Evaluations.{eval-AddressOf, eval-Moved}
use Rattle.driver_safety.proofs.checks.Sounding.{Sound, then_sound, pure_sound}
use Rattle.driver_safety.proofs.expressions.PlaceRules.{not_null_sound, below_sound, above_sound, moved_has, in_block}
use Rattle.driver_safety.proofs.expressions.ReadRules.{member_found, struct_block}
use Rattle.driver_safety.proofs.expressions.Steps.{le_pos, pos_le, pos_same, IsNatural, unsigned_natural, address_is, word_at}
use Rattle.driver_safety.proofs.expressions.Steps.{Step, step_of, back, lands}
use Rattle.driver_safety.proofs.memory.Lying.{open_within, member_open}

some_same : {A : Type 0} (a b : A) → ◌≡◌ {A = Option A} (Some a) (Some b) → a ≡ b
some_same a b h = cc

zero_not : (a : ℕ) → 0 < a → pos a ≡ pos 0 → ⊥
zero_not a l e = let same : a ≡ 0 = pos_same a 0 e in absurd (omega (arith, l, same))

if_holds : {A : Type 0} (t : Bool) (x : Option A) (a : A) → (if t then x else None) ≡ Some a → t ≡ true
if_holds true x a h = refl
if_holds false x a h = absurd cc

module _ (f : CheckedFn) (ctx : Context) (blocks : List Block) (st : State) (good : IsGood ctx blocks st) (types : HasTypes ctx.table) where
  -- ---- `&l`
  -- an element by itself, as what a pointer reaches
  alone : (key : Element) (a : ℕ) (l : IsElementAt ctx blocks key a)
      → IsBetween blocks ctx.table.elems ctx.table.structs (key_shape ctx.table key) (pos a) (pos (a + size_of ctx key)) (pos a)
  alone key a l =
      let own = key_shape ctx.table key in
      let size : ℕ = size_of ctx key in
      let bytes : shape_size ctx.table.structs own ≡ size = types.bytes key in
      let block : IsBlock ctx.table blocks st.memory l.block = good.memory.each l.block l.granted in
      let w = open_within ctx.table types blocks st.memory l.block block own a l.place in
      let from = w.from in
      let to = w.to in
      record {
        block = l.block;
        granted = l.granted;
        no_text = l.no_text;
        from = a;
        from_is = refl;
        to = a + size;
        to_is = refl;
        at = a;
        at_is = refl;
        above = omega arith;
        below = omega arith;
        whole = (0, omega arith);
        from_in = from;
        to_in = omega (arith, to, bytes);
        elements = λ i e. subst (λ (n : ℕ). IsOpenAt ctx.table.elems ctx.table.structs l.block own n)
            (only i (shape_size ctx.table.structs own) a (omega (arith, e, bytes))) l.place;
      }
    where
      only : (i size a : ℕ) → a + (i + 1) * size ≤ a + size → a ≡ a + i * size
      only zero size a l = omega arith
      only (suc i) size a l = let more : (suc i + 1) * size ≡ suc i * size + size = grind arith in omega (arith, more, l)

  address_is_sound : (p : Place) (key : Element) → Safe (eval [] f st p.form) (λ z. (a : ℕ) × (z ≡ pos a) × HasValue st p.at z
      × IsElementAt ctx blocks key a)
      → IsDerived f ctx blocks st (address_at ctx p key)
  address_is_sound p key d = safe_same _ _ _ (eval-AddressOf f st p.form) (safe_weaker (eval [] f st p.form) _ _ d (λ z e is.
      let a : ℕ = is.0 in
      let l : IsElementAt ctx blocks key a = is.3 in
      let size : ℕ = size_of ctx key in
      let block : IsBlock ctx.table blocks st.memory l.block = good.memory.each l.block l.granted in
      let b = alone key a l in
      let w = open_within ctx.table types blocks st.memory l.block block (key_shape ctx.table key) a l.place in
      let from = w.from in
      let to = w.to in
      let end = block.to in
      let first = block.from in
      record {
        type_is = l.type_is;
        text = λ g. absurd cc;
        word = word_at z a is.1 (omega (arith, to, end));
        at = is.2;
        lo = z;
        low = is.2;
        hi = z +ℤ pos size;
        high = has_beyond st p.at z (pos size) is.2;
        fits = subst (λ (y : ℤ). Reaches blocks ctx.table.elems ctx.table.structs (key_shape ctx.table key) false y (y +ℤ pos size) y)
            (sym is.1) (between refl b);
        sure = λ g n. zero_not a (omega (arith, from, first)) (sym is.1 ∙ n);
        ends = λ g. absurd cc;
      }))

  -- a member that has an address is open, and is an element of its type
  by_member : (e : CheckedExpr) (s m : ℕ) (key : Element) (a : ℕ) → addressed_member ctx s m ≡ Some key → IsMemberAt ctx blocks st e s m a
      → IsElementAt ctx blocks key a
  unfolding addressed_member is_tag is_named
  by_member e s m key a h at =
      let x = some_then (member ctx.table s m) _ key h in
      let k = member_found ctx.table s m x.0 x.1 in
      let u : at.structure ≡ k.0 = some_same at.structure k.0 (sym at.structure_is ∙ k.1) in
      let w : at.member ≡ x.0 = some_same at.member x.0 (sym at.member_is ∙ ap (λ (t : StructShape). slice_get t.members m) u ∙ k.2) in
      let free' : has_address ctx s m x.0 ≡ true = if_holds (has_address ctx s m x.0) (member_key ctx.table s m) key x.2 in
      let typed : member_key ctx.table s m ≡ Some key = if_some (has_address ctx s m x.0) (member_key ctx.table s m) key x.2 in
      let facts : IsMemberOf ctx.table s at.structure m at.member = (types.structs s at.structure at.structure_is).members m at.member
      at.member_is in
      let type = facts.typed key typed in
      let free : is_open at.structure m at.member ≡ true = open_of s m at.structure at.structure_is at.member
      (subst (λ (y : Member). has_address ctx s m y ≡ true) (sym w) free') in
      let some = facts.some in
      let o = member_open ctx.table types blocks st.memory at.lies.block (struct_block f ctx blocks st good types s at.struct_at at.lies) s
      at.struct_at at.lies.place
      at.structure at.structure_is m at.member at.member_is free 0 some in
      record {
        block = at.lies.block;
        granted = at.lies.granted;
        no_text = at.lies.no_text;
        type_is = type.1;
        place = subst (λ (n : ℕ). IsOpenAt ctx.table.elems ctx.table.structs at.lies.block (key_shape ctx.table key) n)
            (first (shape_size ctx.table.structs at.member.shape) at.struct_at at.member.offset at.at)
            (subst (λ (y : Shape). IsOpenAt ctx.table.elems ctx.table.structs at.lies.block y (at.struct_at + at.member.offset + 0 *
            shape_size ctx.table.structs at.member.shape)) type.0 o);
      }
    where
      first : (size s o : ℕ) → a ≡ s + o → s + o + 0 * size ≡ a
      first size s o e = omega (arith, e)

      open_of : (s m : ℕ) (t : StructShape) → slice_get ctx.table.structs s ≡ Some t → (y : Member) → has_address ctx s m y ≡ true
          → is_open t m y ≡ true
      open_of s m t is y h =
          subst (λ (o : Option StructShape).
          (is_none y.arm && (not (list_any (λ u. u.tag == m) (unwrap_or (option_map (λ (x : StructShape). x.unions) o) [])) &&
          (not (has_names y.shape)
          && not (list_any (λ x. shape_names m x.shape) (unwrap_or (option_map (λ (x : StructShape). x.members) o) []))))) ≡ true) is h

  address_place : (e : CheckedExpr) (x : Source) (key : Element) (a : ℕ) → addressed ctx x ≡ Some key → LiesAt ctx blocks st e x a
      → IsElementAt ctx blocks key a
  unfolding addressed
  address_place e (source.Element k) key a h l = subst (λ (k : Element). IsElementAt ctx blocks k a) (some_same k key h) l
  address_place e source.Text key a h l = absurd cc
  address_place e (source.Member s m) key a h l = by_member e s m key a h l

  pub address_sound : (x d : Derived) → address_of ctx x ≡ Some d → IsDerived f ctx blocks st x → IsDerived f ctx blocks st d
  unfolding address_of address_of_place
  address_sound (derived.Place p) d h is =
      let r = some_map (addressed ctx p.source) _ d h in
      subst (IsDerived f ctx blocks st) r.2 (address_is_sound p r.0 (safe_weaker (eval [] f st p.form) _ _ is
      (λ z e l. (l.address, l.is, l.at, address_place p.form p.source r.0 l.address r.1 l.lies))))
  address_sound (derived.Value v) d h is = absurd cc
  address_sound (derived.Local slot) d h is = absurd cc
  address_sound (derived.Array a) d h is = absurd cc
  address_sound (derived.Union u) d h is = absurd cc

  -- ---- strings
  string_is : (b : ImageBlock) → IsString b → IsGranted blocks b → IsDerived f ctx blocks st (string_at b)
  string_is b is g =
      let block : IsBlock ctx.table blocks st.memory g.block = good.memory.each g.block g.granted in
      let text : g.block.layout.nullterm ≡ true = g.nullterm ∙ is.text in
      let size = (block.text text).0 in
      let base = g.base in
      let count = g.count in
      let some = is.some in
      let first = block.from in
      let end = block.to in
      let ends : g.block.base + 1 * g.block.count ≡ block_end g.block = ap (λ (n : ℕ). g.block.base + n * g.block.count) (sym size) in
      safe_same _ _ _ (eval-AddressOf f st (form.Block b.base) ∙ eval-Block f st b.base) (record {
        type_is = tt;
        text = λ e. refl;
        word = word_at (pos b.base) b.base refl (omega (arith, base, ends, end));
        at = has_constant st (pos b.base);
        lo = pos b.base;
        low = has_constant st (pos b.base);
        hi = pos b.base;
        high = has_constant st (pos b.base);
        fits = into_text refl (record {
          block = g.block;
          granted = g.granted;
          text = text;
          at = b.base;
          is = refl;
          from = omega
              (arith, base);
          below = omega (arith, base, ends, count, some);
        });
        sure = λ e. zero_not b.base (omega (arith, base, first));
        ends = λ e. (refl, refl);
      })

  pub string_sound : (k : ℕ) (d : Derived) → string ctx k ≡ Some d → IsDerived f ctx blocks st d
  unfolding string
  string_sound k d h =
      let n = some_then (literal ctx.table k) _ d h in
      let b = some_map (slice_get ctx.table.image n.0) string_at d n.2 in
      subst (IsDerived f ctx blocks st) b.2 (string_is b.0 (types.strings k n.0 b.0 n.1 b.1) (good.memory.image n.0 b.0 b.1))

  -- ---- `e + i`, `i + e`, `e - i`
  -- by how much a pointer is moved
  abbrev offset_of : PointerSum → ℕ → ℤ → ℤ
  offset_of pointer_sum.PointerPlus size n = pos size *ℤ n
  offset_of pointer_sum.PlusPointer size n = pos size *ℤ n
  offset_of pointer_sum.PointerMinus size n = neg_ℤ (pos size *ℤ n)

  moved_is : (how : PointerSum) (size : ℕ) (v n : ℤ) → moved_by how size v n ≡ v +ℤ offset_of how size n
  moved_is pointer_sum.PointerPlus size v n = refl
  moved_is pointer_sum.PlusPointer size v n = refl
  moved_is pointer_sum.PointerMinus size v n = minus v (pos size *ℤ n)
    where
      minus : (a b : ℤ) → a -ℤ b ≡ a +ℤ neg_ℤ b
      minus a b = omega (arith, ints)

  step_is : (how : PointerSum) (size : ℕ) (n : ℤ) → Step size (offset_of how size n)
  step_is pointer_sum.PointerPlus size n = step_of size n
  step_is pointer_sum.PlusPointer size n = step_of size n
  step_is pointer_sum.PointerMinus size n = back size (pos size *ℤ n) (step_of size n)

  times_is : (how : PointerSum) (size : ℕ) (n : ℤ) → step_size how size *ℤ n ≡ offset_of how size n
  times_is pointer_sum.PointerPlus size n = refl
  times_is pointer_sum.PlusPointer size n = refl
  times_is pointer_sum.PointerMinus size n = neg-mul (pos size) n

  -- an `unsigned` moves a pointer to one side alone
  natural_offset : (size : ℕ) (n : ℤ) → IsNatural n → IsNatural (pos size *ℤ n)
  natural_offset size n m = record { number = size * m.number; is = ap (λ (y : ℤ). pos size *ℤ y) m.is }

  up_at_least : (lo v d : ℤ) → IsTrue (int_le lo v) → IsNatural d → IsTrue (int_le lo (v +ℤ d))
  up_at_least lo v d h m = subst (λ (y : ℤ). IsTrue (int_le lo (v +ℤ y))) (sym m.is) (more lo v m.number h)
    where
      more : (lo v : ℤ) (k : ℕ) → IsTrue (int_le lo v) → IsTrue (int_le lo (v +ℤ pos k))
      more lo v k h = grind (arith, ints)

  down_at_most : (hi v d : ℤ) → IsTrue (int_le v hi) → IsNatural d → IsTrue (int_le (v +ℤ neg_ℤ d) hi)
  down_at_most hi v d h m = subst (λ (y : ℤ). IsTrue (int_le (v +ℤ neg_ℤ y) hi)) (sym m.is) (less hi v m.number h)
    where
      less : (hi v : ℤ) (k : ℕ) → IsTrue (int_le v hi) → IsTrue (int_le (v +ℤ neg_ℤ (pos k)) hi)
      less hi v k h = grind (arith, ints)

  not_unsigned : (b : Bool) (P : Type 0) → (b ≡ true → P) → (not b ≡ true → P) → P
  not_unsigned true P h k = h refl
  not_unsigned false P h k = k refl

  stays_low : (how : PointerSum) (s : Scalar) (size : ℕ) (lo v n : ℤ) → IsTrue (is_of s n) → IsTrue (int_le lo v)
      → (may_fall how (is_unsigned s) ≡ true → IsTrue (int_le lo (v +ℤ offset_of how size n)))
      → IsTrue (int_le lo (v +ℤ offset_of how size n))
  stays_low pointer_sum.PointerPlus s size lo v n range h k =
      not_unsigned (is_unsigned s) _ (λ e. up_at_least lo v (pos size *ℤ n) h (natural_offset size n (unsigned_natural s n e range))) k
  stays_low pointer_sum.PlusPointer s size lo v n range h k =
      not_unsigned (is_unsigned s) _ (λ e. up_at_least lo v (pos size *ℤ n) h (natural_offset size n (unsigned_natural s n e range))) k
  stays_low pointer_sum.PointerMinus s size lo v n range h k = k refl

  stays_high : (how : PointerSum) (s : Scalar) (size : ℕ) (hi v n : ℤ) → IsTrue (is_of s n) → IsTrue (int_le v hi)
      → (may_rise how (is_unsigned s) ≡ true → IsTrue (int_le (v +ℤ offset_of how size n) hi))
      → IsTrue (int_le (v +ℤ offset_of how size n) hi)
  stays_high pointer_sum.PointerPlus s size hi v n range h k = k refl
  stays_high pointer_sum.PlusPointer s size hi v n range h k = k refl
  stays_high pointer_sum.PointerMinus s size hi v n range h k =
      not_unsigned (is_unsigned s) _ (λ e. down_at_most hi v (pos size *ℤ n) h (natural_offset size n (unsigned_natural s n e range))) k

  -- where it is moved to
  pub record IsMoved (own : Shape) (lo hi w : ℤ) : Type 0 where
    pub at : ℕ
    pub is : w ≡ pos at
    pub small : at < 2 ^ 32
    pub some : 0 < at
    pub fits : Reaches blocks ctx.table.elems ctx.table.structs own false lo hi w

  moves : (own : Shape) (lo hi v d : ℤ) → Reaches blocks ctx.table.elems ctx.table.structs own false lo hi v → v ≢ pos 0
      → Step (shape_size ctx.table.structs own) d
      → IsTrue (int_le lo (v +ℤ d)) → IsTrue (int_le (v +ℤ d) hi) → IsMoved own lo hi (v +ℤ d)
  moves own lo hi v d fits n step low high =
      let i = in_block f ctx blocks st good types own lo hi v fits n in
      let b : IsBetween blocks ctx.table.elems ctx.table.structs own lo hi v = i.bounded in
      let l = lands (shape_size ctx.table.structs own) b.from b.at v d step b.at_is b.above b.whole
      (subst (λ (y : ℤ). IsTrue (int_le y (v +ℤ d))) b.from_is low) in
      let below : l.at ≤ b.to = le_pos l.at b.to (subst (λ (y : ℤ). IsTrue (int_le y (pos b.to))) l.is
      (subst (λ (y : ℤ). IsTrue (int_le (v +ℤ d) y)) b.to_is high)) in
      let end = b.to_in in
      let most = i.block.to in
      let first = i.block.from in
      let from = b.from_in in
      let above = l.above in
      record {
        at = l.at;
        is = l.is;
        small = omega (arith, below, end, most);
        some = omega (arith, above, from, first);
        fits = between refl (record {
          block = b.block;
          granted = b.granted;
          no_text = b.no_text;
          from = b.from;
          from_is = b.from_is;
          to = b.to;
          to_is = b.to_is;
          at = l.at;
          at_is = l.is;
          above = l.above;
          below = below;
          whole = l.whole;
          from_in = b.from_in;
          to_in = b.to_in;
          elements = b.elements;
        });
      }

  lowest : (own : Shape) (lo hi v : ℤ) → Reaches blocks ctx.table.elems ctx.table.structs own false lo hi v → v ≢ pos 0
      → IsTrue (int_le lo v)
  lowest own lo hi v fits n =
      let b = (in_block f ctx blocks st good types own lo hi v fits n).bounded in
      subst (λ (y : ℤ). IsTrue (int_le y v)) (sym b.from_is) (subst (λ (y : ℤ). IsTrue (int_le (pos b.from) y)) (sym b.at_is)
      (pos_le b.from b.at b.above))

  highest : (own : Shape) (lo hi v : ℤ) → Reaches blocks ctx.table.elems ctx.table.structs own false lo hi v → v ≢ pos 0
      → IsTrue (int_le v hi)
  highest own lo hi v fits n =
      let b = (in_block f ctx blocks st good types own lo hi v fits n).bounded in
      subst (λ (y : ℤ). IsTrue (int_le v y)) (sym b.to_is) (subst (λ (y : ℤ). IsTrue (int_le y (pos b.to))) (sym b.at_is)
      (pos_le b.at b.to b.below))

  abbrev Moves : PointerSum → Pointed → Whole → ℕ → List ℕ → Type 0
  Moves how p i size ids = (v n : ℤ) (is : IsPointer ctx blocks st p v) → IsWhole st i n
      → Pass f st ids ((v ≢ pos 0) × (may_fall how (is_unsigned i.scalar) ≡ true → IsTrue (int_le is.lo (v +ℤ offset_of how size n)))
      × (may_rise how (is_unsigned i.scalar) ≡ true → IsTrue (int_le (v +ℤ offset_of how size n) is.hi)))

  flat : {A B C : Type 0} → (A × B) × C → A × B × C
  flat p = (p.0.0, p.0.1, p.1)

  sum_has : (how : PointerSum) (p : Pointed) (i : Whole) (size : ℕ) (v n : ℤ) → IsPointer ctx blocks st p v → IsWhole st i n
      → HasValue st (moved_sum p.at i (step_size how size)) (v +ℤ offset_of how size n)
  sum_has how p i size v n is whole = subst (λ (d : ℤ). HasValue st (moved_sum p.at i (step_size how size)) (v +ℤ d)) (times_is how size n)
      (moved_has f ctx blocks st p.at v i n (step_size how size) is.at whole)

  move_checks_sound : (how : PointerSum) (p : Pointed) (i : Whole) (size : ℕ)
      → Sound f st ctx.first (move_checks ctx how p i (moved_sum p.at i (step_size how size))) (Moves how p i size)
  move_checks_sound how p i size =
      let at : Sum = moved_sum p.at i (step_size how size) in
      then_sound f st ctx.first _ _ _ _ (not_null_sound f ctx blocks st p) (λ a.
      then_sound f st ctx.first _ _ _ _ (below_sound f ctx blocks st (may_fall how (is_unsigned i.scalar)) p.low at) (λ b.
      then_sound f st ctx.first _ _ _ _ (above_sound f ctx blocks st (may_rise how (is_unsigned i.scalar)) at p.high) (λ c.
      pure_sound f st ctx.first ((a ++ b) ++ c) _ (λ above below null v n is whole.
      let w : ℤ = v +ℤ offset_of how size n in
      let h = sum_has how p i size v n is whole in
      safe_weaker (tests [] f st ((a ++ b) ++ c)) _ _
      (pass_then f st (a ++ b) c ((v ≢ pos 0) × (may_fall how (is_unsigned i.scalar) ≡ true → IsTrue (int_le is.lo w)))
      (may_rise how (is_unsigned i.scalar) ≡ true → IsTrue (int_le w is.hi))
      (pass_then f st a b (v ≢ pos 0) (may_fall how (is_unsigned i.scalar) ≡ true → IsTrue (int_le is.lo w)) (null v is)
      (λ some. below is.lo w is.low h))
      (λ both. above w is.hi h is.high))
      (λ u e l. flat l)))))

  -- both parts, left to right
  parts_safe : (how : PointerSum) (r t : Got) (P Q : ℤ → Type 0) → Safe r P → Safe t Q → Safe (parts how r t) (λ x. P x.0 × Q x.1)
  parts_safe pointer_sum.PointerPlus r t P Q p q = safe_bind r _ P _ p (λ v is. safe_bind t _ Q _ q (λ n in'. (is, in')))
  parts_safe pointer_sum.PlusPointer r t P Q p q = safe_bind t _ Q _ q (λ n in'. safe_bind r _ P _ p (λ v is. (is, in')))
  parts_safe pointer_sum.PointerMinus r t P Q p q = safe_bind r _ P _ p (λ v is. safe_bind t _ Q _ q (λ n in'. (is, in')))

  pub moved_sound : (how : PointerSum) (p : Pointed) (i : Whole) → p.nullterm ≡ false
      → Sound f st ctx.first (moved ctx how p i) (λ d. IsValue f ctx blocks st (value.Pointer p) → IsValue f ctx blocks st (value.Int i)
      → IsDerived f ctx blocks st d)
  unfolding moved
  moved_sound how p i plain =
      let size : ℕ = size_of ctx p.elem in
      let own : Shape = key_shape ctx.table p.elem in
      let at : Sum = moved_sum p.at i (step_size how size) in
      then_sound f st ctx.first _ _ _ _ (move_checks_sound how p i size) (λ ids. pure_sound f st ctx.first _ _ (λ passes known whole.
      safe_same _ _ _ (eval-Moved f st how p.form i.form size ids)
      (safe_bind (parts how (eval [] f st p.form) (eval [] f st i.form)) _ _ _ (parts_safe how (eval [] f st p.form) (eval [] f st i.form)
      _ _ known whole.1) (λ x is.
      let v : ℤ = x.0 in
      let n : ℤ = x.1 in
      let here : IsPointer ctx blocks st p v = is.0 in
      let fits = subst (λ (b : Bool). Reaches blocks ctx.table.elems ctx.table.structs own b here.lo here.hi v) plain here.fits in
      safe_bind (tests [] f st ids) _ _ _ (passes v n is.0 is.1) (λ u l.
      let w : ℤ = v +ℤ offset_of how size n in
      let low = stays_low how i.scalar size here.lo v n is.1.range (lowest own here.lo here.hi v fits l.0) l.1 in
      let high = stays_high how i.scalar size here.hi v n is.1.range (highest own here.lo here.hi v fits l.0) l.2 in
      let m = moves own here.lo here.hi v (offset_of how size n) fits l.0 (subst (λ (k : ℕ). Step k (offset_of how size n))
      (sym (types.bytes p.elem)) (step_is how size n)) low high in
      safe_same _ _ _ (ap address (moved_is how size v n) ∙ address_is w m.at m.is m.small)
      (record {
        type_is = here.type_is;
        text = λ g. absurd cc;
        word = word_at (pos m.at) m.at refl m.small;
        at = subst (HasValue st at) m.is (sum_has how p i size v n is.0 is.1);
        lo = here.lo;
        low = here.low;
        hi = here.hi;
        high = here.high;
        fits = subst (λ (y : ℤ). Reaches blocks ctx.table.elems ctx.table.structs own false here.lo here.hi y) m.is m.fits;
        sure = λ g. zero_not m.at m.some;
        ends = λ g. absurd cc;
      }))))))
