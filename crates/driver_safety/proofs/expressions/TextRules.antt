-- Pointers to text: the next byte, where this one is not 0.
use Rattle.std.proofs.Common.{◌≡◌, ◌≢◌, ℕ, ◌+◌, ◌-◌, ◌*◌, ◌^◌, ◌<◌, ◌≤◌, ◌==◌, nat_lt, IsTrue, Bool, true, false, not, ◌&&◌}
use Rattle.std.proofs.Common.{◌||◌, List, [], ◌∷◌, ◌++◌, take, drop, get_or, ℤ, pos, ◌+ℤ◌, ◌*ℤ◌, None, Ok, slice_index_or}
use Rattle.std.proofs.Common.{refl, sym, ap, ◌∙◌, subst, true≢false, arith}
use Rattle.std.specs.List.{list_all}
use Rattle.std.proofs.Math.IntN.{*ℤ_comm}
use Rattle.std.proofs.lemmas.Bool.Decides.{Decides-eqb}
use Rattle.std.proofs.lemmas.Int.{ints}
use Rattle.std.proofs.lemmas.List.{get_or-drop}
use Rattle.sd_base.specs.Blocks.{Block, block_end}
use Rattle.sd_base.specs.declared.kinds.CheckKind.TheVariants as kind
use Rattle.byte_memory.specs.Bytes.{bytes_at}
use Rattle.checked_tree.specs.declared.expressions.CheckedExpr.TheVariants as form
use Rattle.checked_tree.specs.declared.expressions.PointerSum.TheVariants as pointer_sum
use Rattle.checked_tree.specs.declared.shapes.Scalar.TheVariants.{U8}
use Rattle.checked_tree.specs.declared.sums.Sum.{Sum}
use Rattle.checked_tree.specs.declared.units.CheckedFn.{CheckedFn}
use Rattle.checked_tree.specs.Conditions.{State}
use Rattle.checked_tree.specs.Eval.{eval, tests, test, check_of}
use Rattle.checked_tree.specs.Outcome.{◌>>=◌}
use Rattle.checked_tree.proofs.Outcomes.{safe_bind}
use Rattle.deputy_types.specs.declared.element.Element.{Element}
use Rattle.deputy_types.specs.declared.element.Element.TheVariants as element
use Rattle.deputy_types.specs.Fitting.{IsInText}
use Rattle.deputy_rules.specs.declared.asked.AskedCond.TheVariants as cond
use Rattle.deputy_rules.specs.declared.derived.Derived.{Derived}
use Rattle.deputy_rules.specs.declared.derived.Pointed.{Pointed}
use Rattle.deputy_rules.specs.declared.derived.Value.TheVariants as value
use Rattle.deputy_rules.specs.declared.derived.Whole.{Whole}
use Rattle.deputy_rules.specs.declared.derived.Written.{Written}
use Rattle.deputy_rules.specs.declared.derived.Written.TheVariants as written
use Rattle.deputy_rules.specs.Context.{Context}
use Rattle.deputy_rules.specs.Places.{moved_sum}
use Rattle.deputy_rules.specs.Pointers.{is_written, not_ended, text_checks, text_moved, text_stepped, text_sum, text_second}
use Rattle.deputy_rules.specs.Pointers.{text_indexed, indexed_by}
use Rattle.deputy_rules.specs.Sums.{side, side_by, constant_of}
use Rattle.deputy_rules.specs.SumValues.{part_at, HasValue}
use Rattle.deputy_rules.specs.Values.{size_of}
use Rattle.driver_safety.specs.Derivations.{IsWhole, IsPointer, IsValue, IsDerived}
use Rattle.driver_safety.specs.Goodness.{IsGood, IsBlock}
use Rattle.driver_safety.specs.Passing.{IsInside, clear_at}
use Rattle.driver_safety.specs.Reaching.{Reaches, into_text}
use Rattle.driver_safety.specs.TypeFacts.{HasTypes, key_shape}
use Rattle.driver_safety.proofs.checks.Evaluations.{safe_weaker, safe_same, Pass, pass_none, pass_one, pass_then, eval-Moved}
use Rattle.driver_safety.proofs.checks.Sounding.{Sound, then_sound, pure_sound, if_sound, none_sound, ask_sound, weaker}
use Rattle.driver_safety.proofs.expressions.PlaceRules.{not_null_sound, moved_has, text_there, through_text_sound, indexed_sound}
use Rattle.driver_safety.proofs.expressions.Steps.{address_is, word_at, pos_same}

-- one byte that is 0
pub one_clear : (bytes : List ℕ) (a : ℕ) → slice_index_or bytes a 0 ≡ 0 → list_all (λ b. b == 0) (bytes_at bytes a 1) ≡ true
unfolding bytes_at
one_clear bytes a h = by (drop a bytes) refl
  where
    here : a ≡ a + 0
    here = omega arith

    by : (l : List ℕ) → drop a bytes ≡ l → list_all (λ b. b == 0) (take 1 l) ≡ true
    by [] e = refl
    by (x ∷ xs) e =
        let z : x ≡ 0 = sym (ap (λ (l : List ℕ). get_or l 0 0) e) ∙ get_or-drop a bytes 0 0
        ∙ subst (λ (n : ℕ). slice_index_or bytes n 0 ≡ 0) here h in
        ap (λ (n : ℕ). (n == 0) && true) z

zero_not : (a : ℕ) → 0 < a → pos a ≡ pos 0 → ⊥
zero_not a l e = let same : a ≡ 0 = pos_same a 0 e in absurd (omega (arith, l, same))

module _ (f : CheckedFn) (ctx : Context) (blocks : List Block) (st : State) (good : IsGood ctx blocks st) (types : HasTypes ctx.table) where
  -- a byte of text is inside
  pub text_inside : (v : ℤ) → IsInText blocks v → IsInside st v 1
  text_inside v t =
      let block : IsBlock ctx.table blocks st.memory t.block = good.memory.each t.block t.granted in
      let from = t.from in
      let below = t.below in
      let end = block.to in
      subst (λ (z : ℤ). IsInside st z 1) (sym t.is)
      (record { is = refl; small = omega (arith, below, end); inside = block.inside t.at 1 t.from (omega (arith, below)) })

  -- behind a byte that is not 0 another one follows
  pub next_text : (v : ℤ) → IsInText blocks v → clear_at st v 1 ≡ false → IsInText blocks (v +ℤ pos 1)
  next_text v t some = by (nat_lt (t.at + 1) (block_end t.block)) refl
    where
      block : IsBlock ctx.table blocks st.memory t.block
      block = good.memory.each t.block t.granted

      by : (b : Bool) → nat_lt (t.at + 1) (block_end t.block) ≡ b → IsInText blocks (v +ℤ pos 1)
      by true e =
          let from = t.from in
          record {
            block = t.block;
            granted = t.granted;
            text = t.text;
            at = t.at + 1;
            is = ap (λ (z : ℤ). z +ℤ pos 1) t.is;
            from = omega (arith, from);
            below = grind arith;
          }
      by false e =
          let below = t.below in
          let last : block_end t.block ≤ t.at + 1 = grind arith in
          let here : block_end t.block - 1 ≡ t.at = omega (arith, below, last) in
          let zero' : slice_index_or st.memory.bytes t.at 0 ≡ 0 = subst (λ (n : ℕ). slice_index_or st.memory.bytes n 0 ≡ 0) here
          (block.ends t.text) in
          let clear : clear_at st v 1 ≡ true = ap (λ (z : ℤ). clear_at st z 1) t.is ∙ one_clear st.memory.bytes t.at zero' in
          absurd (true≢false (sym clear ∙ some))

  -- an integer that is written as this number
  pub written_is : (n : ℕ) (i : Whole) (z : ℤ) → is_written n i.written ≡ true → IsWhole st i z → z ≡ pos n
  unfolding side
  written_is n i z h is = by i.written refl h
    where
      both_second : (a b : Bool) → (a && b) ≡ true → b ≡ true
      both_second true b h = h
      both_second false b h = absurd cc

      by : (w : Written) → i.written ≡ w → is_written n w ≡ true → z ≡ pos n
      by (written.Number m plain) e h =
          let same : m ≡ n = (Decides-eqb m n).0 (both_second plain (m == n) h) in
          let value : pos 1 *ℤ pos m ≡ z = subst (λ (w : Written). part_at st (side_by (constant_of w) i.form) ≡ z) e is.is in
          sym value ∙ *ℤ_comm (pos 1) (pos m) ∙ one m ∙ ap (λ (k : ℕ). pos k) same
        where
          one : (m : ℕ) → pos m *ℤ pos 1 ≡ pos m
          one m = ap (λ (k : ℕ). pos k) (times_one m)
            where
              times_one : (m : ℕ) → m * 1 ≡ m
              times_one m = omega arith
      by (written.Constant c) e h = absurd cc
      by written.Other e h = absurd cc

  -- ---- Term
  ended_sound : (wanted : Bool) (at : Sum) → Sound f st ctx.first (not_ended ctx wanted at)
      (λ ids. (v : ℤ) → HasValue st at v → IsInText blocks v → Pass f st ids (wanted ≡ true → clear_at st v 1 ≡ false))
  ended_sound false at = pure_sound f st ctx.first [] _ (λ v h t. pass_none f st _ (λ e. absurd cc))
  ended_sound true at = then_sound f st ctx.first _ _ _ _ (ask_sound f st ctx kind.Term (cond.Term at None))
      (λ id. pure_sound f st ctx.first (id ∷ []) _ (λ tested v h t.
      pass_one f st id _ (safe_weaker (test f st (check_of f id)) _ _
      (tested.tested (h.read, tt, subst (λ (z : ℤ). IsInside st z 1) (sym h.is) (text_inside v t)))
      (λ u e passed w. not_clear (clear_at st v 1) (subst (λ (z : ℤ). IsTrue (not (clear_at st z 1) || false)) h.is passed)))))
    where
      not_clear : (b : Bool) → IsTrue (not b || false) → b ≡ false
      not_clear false h = refl
      not_clear true h = absurd cc

  in_text : (p : Pointed) (v : ℤ) (is : IsPointer ctx blocks st p v) → p.nullterm ≡ true → v ≢ pos 0 → IsInText blocks v
  in_text p v is text n = text_there f ctx blocks st good types (key_shape ctx.table p.elem) is.lo is.hi v
      (subst (λ (b : Bool). Reaches blocks ctx.table.elems ctx.table.structs (key_shape ctx.table p.elem) b is.lo is.hi v) text is.fits) n

  abbrev Checked : Pointed → Whole → List ℕ → Type 0
  Checked p i ids = (v : ℤ) → IsPointer ctx blocks st p v → p.nullterm ≡ true → Pass f st ids ((v ≢ pos 0) × (is_written 1 i.written ≡ true
      → clear_at st v 1 ≡ false))

  text_checks_sound : (p : Pointed) (i : Whole) → Sound f st ctx.first (text_checks ctx p i) (Checked p i)
  text_checks_sound p i =
      then_sound f st ctx.first _ _ _ _ (not_null_sound f ctx blocks st p) (λ a. then_sound f st ctx.first _ _ _ _
      (ended_sound (is_written 1 i.written) p.at) (λ b.
      pure_sound f st ctx.first (a ++ b) _ (λ ended null v is text.
      pass_then f st a b (v ≢ pos 0) (is_written 1 i.written ≡ true → clear_at st v 1 ≡ false) (null v is)
      (λ n. ended v is.at (in_text p v is text n)))))

  -- a number of bytes that is 0 or 1
  abbrev IsBit : Whole → Type 0
  IsBit i = (b : Bool) × (is_written 0 i.written ≡ b) × (b ≡ false → is_written 1 i.written ≡ true)

  byte_size : (key : Element) → key ≡ element.Int U8 → size_of ctx key ≡ 1
  byte_size key e = ap (size_of ctx) e

  moved_text : (p : Pointed) (i : Whole) (v n : ℤ) (is : IsPointer ctx blocks st p v) → p.nullterm ≡ true → IsWhole st i n → IsBit i
      → v ≢ pos 0
      → (is_written 1 i.written ≡ true → clear_at st v 1 ≡ false) → IsInText blocks (v +ℤ (pos (size_of ctx p.elem) *ℤ n))
  moved_text p i v n is text whole (true, e, h) some ended =
      let none : n ≡ pos 0 = written_is 0 i n e whole in
      subst (IsInText blocks) (sym (ap (λ (y : ℤ). v +ℤ (pos (size_of ctx p.elem) *ℤ y)) none ∙ same v (size_of ctx p.elem)))
      (in_text p v is text some)
    where
      same : (v : ℤ) (size : ℕ) → v +ℤ (pos size *ℤ pos 0) ≡ v
      same v size = ap (λ (m : ℕ). v +ℤ pos m) (times_zero size) ∙ plus v
        where
          times_zero : (size : ℕ) → size * 0 ≡ 0
          times_zero size = omega arith

          plus : (v : ℤ) → v +ℤ pos 0 ≡ v
          plus v = omega (arith, ints)
  moved_text p i v n is text whole (false, e, h) some ended =
      let one : n ≡ pos 1 = written_is 1 i n (h refl) whole in
      let size : size_of ctx p.elem ≡ 1 = byte_size p.elem (is.text text) in
      subst (IsInText blocks) (sym (ap (λ (y : ℤ). v +ℤ (pos (size_of ctx p.elem) *ℤ y)) one ∙ ap (λ (m : ℕ). v +ℤ (pos m *ℤ pos 1)) size))
      (next_text v (in_text p v is text some) (ended (h refl)))

  text_to_sound : (p : Pointed) (i : Whole) → Sound f st ctx.first (text_moved ctx p i)
      (λ q. p.nullterm ≡ true → IsBit i → IsValue f ctx blocks st (value.Pointer p) → IsValue f ctx blocks st (value.Int i)
      → (q.nullterm ≡ true) × IsValue f ctx blocks st (value.Pointer q))
  unfolding text_moved
  text_to_sound p i =
      let size : ℕ = size_of ctx p.elem in
      let at : Sum = moved_sum p.at i (pos size) in
      then_sound f st ctx.first _ _ _ _ (text_checks_sound p i) (λ ids. pure_sound f st ctx.first _ _ (λ passes text bit known whole. (
        refl,
        safe_same _ _ _ (eval-Moved f st pointer_sum.PointerPlus p.form i.form size ids)
            (safe_bind (eval [] f st p.form >>= λ v. eval [] f st i.form >>= λ n. Ok (v, n)) _ (λ x. IsPointer ctx blocks st p x.0
            × IsWhole st i x.1) _
            (safe_bind (eval [] f st p.form) _ _ _ known (λ v is. safe_bind (eval [] f st i.form) _ _ _ whole.1 (λ n in'. (is, in'))))
            (λ x is. safe_bind (tests [] f st ids) _ _ _ (passes x.0 is.0 text) (λ u l.
            let w : ℤ = x.0 +ℤ (pos size *ℤ x.1) in
            let t : IsInText blocks w = moved_text p i x.0 x.1 is.0 text is.1 bit l.0 l.1 in
            let block : IsBlock ctx.table blocks st.memory t.block = good.memory.each t.block t.granted in
            let below = t.below in
            let end = block.to in
            let first = block.from in
            let from = t.from in
            let small : t.at < 2 ^ 32 = omega (arith, below, end) in
            let has : HasValue st at w = moved_has f ctx blocks st p.at x.0 i x.1 (pos size) is.0.at is.1 in
            safe_same _ _ _ (address_is w t.at t.is small)
            (subst (IsPointer ctx blocks st (record {
              form = form.Moved pointer_sum.PointerPlus p.form i.form size ids;
              elem = p.elem;
              nullterm = true;
              sure = true;
              at = at;
              low = at;
              high = at;
            })) t.is
            (record {
              type_is = is.0.type_is;
              text = λ e. is.0.text text;
              word = word_at w t.at t.is small;
              at = has;
              lo = w;
              low = has;
              hi = w;
              high = has;
              fits = into_text refl t;
              sure = λ e n. zero_not t.at (omega (arith, first, from)) (sym t.is ∙ n);
              ends = λ e. (refl, refl);
            }))))),
      )))

  zero_bit : (i : Whole) → is_written 0 i.written ≡ true → IsBit i
  zero_bit i e = (true, e, λ g. absurd cc)

  one_bit : (i : Whole) → is_written 0 i.written ≡ false → is_written 1 i.written ≡ true → IsBit i
  one_bit i e g = (false, e, λ h. g)

  abbrev IsSum : Pointed → Whole → Derived → Type 0
  IsSum p i d = IsValue f ctx blocks st (value.Pointer p) → IsValue f ctx blocks st (value.Int i) → IsDerived f ctx blocks st d

  stepped_sound : (p : Pointed) (i : Whole) → p.nullterm ≡ true → IsBit i → Sound f st ctx.first (text_stepped ctx p i) (IsSum p i)
  stepped_sound p i text bit = then_sound f st ctx.first _ _ _ _ (text_to_sound p i) (λ q. pure_sound f st ctx.first _ _
      (λ is known whole. (is text bit known whole).1))

  pub text_sum_sound : (p : Pointed) (i : Whole) → p.nullterm ≡ true → Sound f st ctx.first (text_sum ctx p i) (IsSum p i)
  unfolding text_sum
  text_sum_sound p i text = if_sound f st ctx.first (is_written 0 i.written) _ _ _ (λ e. stepped_sound p i text (zero_bit i e))
      (λ e. if_sound f st ctx.first (is_written 1 i.written) _ _ _ (λ g. stepped_sound p i text (one_bit i e g))
      (λ g. none_sound f st ctx.first _))

  second_sound : (p : Pointed) (i : Whole) → p.nullterm ≡ true → IsBit i → Sound f st ctx.first (text_second ctx p i) (IsSum p i)
  second_sound p i text bit = then_sound f st ctx.first _ _ _ _ (text_to_sound p i) (λ q. weaker f st ctx.first _ _ _
      (λ d through is known whole. let r = is text bit known whole in through r.0 r.1) (through_text_sound f ctx blocks st good types q))

  text_indexed_sound : (p : Pointed) (i : Whole) → p.nullterm ≡ true → Sound f st ctx.first (text_indexed ctx p i) (IsSum p i)
  unfolding text_indexed
  text_indexed_sound p i text = if_sound f st ctx.first (is_written 0 i.written) _ _ _
      (λ e. weaker f st ctx.first _ _ _ (λ d through known whole. through text known) (through_text_sound f ctx blocks st good types p))
      (λ e. if_sound f st ctx.first (is_written 1 i.written) _ _ _ (λ g. second_sound p i text (one_bit i e g))
      (λ g. none_sound f st ctx.first _))

  pub indexed_by_sound : (p : Pointed) (i : Whole) → Sound f st ctx.first (indexed_by ctx p i) (IsSum p i)
  unfolding indexed_by
  indexed_by_sound p i = if_sound f st ctx.first p.nullterm _ _ _ (λ e. text_indexed_sound p i e) (λ e. indexed_sound f ctx blocks st good
      types p i e)
