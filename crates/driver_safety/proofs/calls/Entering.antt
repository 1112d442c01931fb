-- The first frame of a function is good: its parameters fit by their own names, and all other slots are 0.
use Rattle.std.proofs.Common.{◌≡◌, ℕ, zero, suc, ◌-◌, ◌<◌, IsTrue, true, false, List, [], ◌∷◌, ◌++◌, length, replicate, ℤ, pos, ◌+ℤ◌}
use Rattle.std.proofs.Common.{◌*ℤ◌, Option, Some, None, slice_get, slice_index_or, refl, sym, ap, ◌∙◌, subst, arith, length-append}
use Rattle.std.proofs.lemmas.List.{length-replicate}
use Rattle.std.proofs.lemmas.Option.{slice_get_within}
use Rattle.std.specs.Option.{option_flatten}
use Rattle.sd_base.specs.Blocks.{Block}
use Rattle.byte_memory.specs.Tested.{Memory}
use Rattle.checked_tree.specs.declared.shapes.Bounds.{Bounds}
use Rattle.checked_tree.specs.declared.shapes.Bounds.TheVariants as bounds
use Rattle.checked_tree.specs.declared.shapes.Edge.{Edge}
use Rattle.checked_tree.specs.declared.shapes.Scalar.{Scalar}
use Rattle.checked_tree.specs.declared.shapes.Scalar.TheVariants.{Void, U8, I8, U16, I16, U32, I32, Pointer}
use Rattle.checked_tree.specs.declared.shapes.Shape.{Shape}
use Rattle.checked_tree.specs.declared.shapes.Shape.TheVariants as shape
use Rattle.checked_tree.specs.declared.units.CheckedFn.{CheckedFn}
use Rattle.checked_tree.specs.Conditions.{State}
use Rattle.checked_tree.specs.Edges.{edge_value, edge_from, edge_base}
use Rattle.checked_tree.specs.Numbers.{is_of, is_value, is_word}
use Rattle.checked_tree.specs.Step.{first_locals}
use Rattle.checked_tree.proofs.NumberRanges.{of_value, word_value}
use Rattle.deputy_types.specs.Fitting.{Fits, null}
use Rattle.deputy_types.specs.Table.{Table}
use Rattle.deputy_rules.specs.Context.{Context, slot_shape}
use Rattle.deputy_rules.specs.NameValues.{local_at}
use Rattle.driver_safety.specs.EntryLaw.{IsEnteredIn, EachFirstFrameIsGood}
use Rattle.driver_safety.specs.Goodness.{IsFrame, SlotHolds, SlotFits, FitsHidden}
use Rattle.driver_safety.specs.Handing.{Takes, TakesOne, TakeEach}
use Rattle.driver_safety.specs.TypeFacts.{IsInteger, IsSlotShape}

some_same : {A : Type 0} (a b : A) → ◌≡◌ {A = Option A} (Some a) (Some b) → a ≡ b
some_same a b h = cc

-- ---- the values of slots
zeros_at : (n k : ℕ) → slice_index_or (replicate n (pos 0)) k (pos 0) ≡ pos 0
zeros_at zero k = refl
zeros_at (suc n) zero = refl
zeros_at (suc n) (suc k) = zeros_at n k

same_at : (vs : List ℤ) (n k : ℕ) → slice_index_or (vs ++ replicate n (pos 0)) k (pos 0) ≡ slice_index_or vs k (pos 0)
same_at [] n k = zeros_at n k
same_at (v ∷ vs) n zero = refl
same_at (v ∷ vs) n (suc k) = same_at vs n k

-- ---- an annotation by the values of its names
module _ (a b : ℕ → ℤ) (same : (k : ℕ) → a k ≡ b k) where
  base_same : (v : ℤ) (o : Option ℕ) → edge_base a v o ≡ edge_base b v o
  base_same v None = refl
  base_same v (Some k) = same k

  terms_same : (ts : List (ℤ × ℕ)) (sum : ℤ) → edge_from a ts sum ≡ edge_from b ts sum
  terms_same [] sum = refl
  terms_same (t ∷ ts) sum = ap (λ (v : ℤ). edge_from a ts (sum +ℤ (t.0 *ℤ v))) (same t.1) ∙ terms_same ts (sum +ℤ (t.0 *ℤ b t.1))

  edge_same : (v : ℤ) (e : Edge) → edge_value a v e ≡ edge_value b v e
  unfolding edge_value
  edge_same v e = ap (λ (y : ℤ). edge_from a e.terms (y +ℤ e.bytes)) (base_same v e.base) ∙ terms_same e.terms
      (edge_base b v e.base +ℤ e.bytes)

-- ---- the parameters
module _ (t : Table) (blocks : List Block) (names : ℕ → ℤ) where
  taken_at : (ss : List (Option Shape)) (vs : List ℤ) (k : ℕ) (s : Option Shape) → TakeEach t blocks names ss vs → slice_get ss k ≡ Some s
      → TakesOne t blocks names s (slice_index_or vs k (pos 0))
  taken_at [] vs k s g e = absurd cc
  taken_at (x ∷ ss) [] k s g e = absurd g
  taken_at (x ∷ ss) (v ∷ vs) zero s g e = subst (λ (o : Option Shape). TakesOne t blocks names o v) (some_same x s e) g.0
  taken_at (x ∷ ss) (v ∷ vs) (suc k) s g e = taken_at ss vs k s g.1 e

  behind_at : (ss : List (Option Shape)) (vs : List ℤ) (k : ℕ) → TakeEach t blocks names ss vs → slice_get ss k ≡ None
      → slice_index_or vs k (pos 0) ≡ pos 0
  behind_at [] [] k g e = refl
  behind_at [] (v ∷ vs) k g e = absurd g
  behind_at (x ∷ ss) [] k g e = absurd g
  behind_at (x ∷ ss) (v ∷ vs) zero g e = absurd cc
  behind_at (x ∷ ss) (v ∷ vs) (suc k) g e = behind_at ss vs k g.1 e

  taken_value : (s : Option Shape) (v : ℤ) → TakesOne t blocks names s v → IsTrue (is_value v)
  taken_value None v g = absurd g
  taken_value (Some (shape.Int s)) v g = of_value s v g
  taken_value (Some (shape.Pointer elem b)) v g = word_value v g.0
  taken_value (Some (shape.Struct m)) v g = absurd g
  taken_value (Some shape.Address) v g = absurd g

zero_is : (s : Scalar) → IsInteger s → IsTrue (is_of s (pos 0))
unfolding is_of
zero_is Void i = absurd i
zero_is (Pointer n) i = absurd i
zero_is U8 i = refl
zero_is I8 i = refl
zero_is U16 i = refl
zero_is I16 i = refl
zero_is U32 i = refl
zero_is I32 i = refl

-- ---- the frame
module _ (ctx : Context) (params : List (Option Shape)) (f : CheckedFn) (is : IsEnteredIn ctx params f) (blocks : List Block) (m : Memory)
    (vs : List ℤ)
    (takes : TakeEach ctx.table blocks (λ k. slice_index_or vs k (pos 0)) params vs) where
  abbrev names : ℕ → ℤ
  names k = slice_index_or vs k (pos 0)

  abbrev st : State
  st = record { locals = first_locals f vs; memory = m }

  as_named : (k : ℕ) → names k ≡ local_at st k
  as_named k = sym (same_at vs (length f.slots - length vs) k)

  -- a parameter
  parameter_holds : (k : ℕ) (s : Shape) → Takes ctx.table blocks names s (names k) → SlotHolds ctx blocks st k s
  parameter_holds k (shape.Int s) g = subst (λ (v : ℤ). IsTrue (is_of s v)) (as_named k) g
  parameter_holds k (shape.Pointer elem bounds.Hidden) g = absurd g.1
  parameter_holds k (shape.Pointer elem bounds.Nullterm) g = (
    subst (λ (v : ℤ). IsTrue (is_word v)) (as_named k) g.0,
    subst (λ (v : ℤ). Fits blocks ctx.table.elems ctx.table.structs elem true (pos 0) (pos 0) v) (as_named k) g.1,
  )
  parameter_holds k (shape.Pointer elem (bounds.Within lo hi)) g = (
    subst (λ (v : ℤ). IsTrue (is_word v)) (as_named k) g.0,
    subst (λ (v : ℤ). Fits blocks ctx.table.elems ctx.table.structs elem false (edge_value (local_at st) v lo)
        (edge_value (local_at st) v hi) v) (as_named k)
        (subst (λ (y : ℤ). Fits blocks ctx.table.elems ctx.table.structs elem false y (edge_value (local_at st) (names k) hi) (names k))
        (edge_same names (local_at st) as_named (names k) lo)
        (subst (λ (y : ℤ). Fits blocks ctx.table.elems ctx.table.structs elem false (edge_value names (names k) lo) y (names k))
        (edge_same names (local_at st) as_named (names k) hi) g.1)),
  )
  parameter_holds k (shape.Struct n) g = absurd g
  parameter_holds k shape.Address g = absurd g

  -- a slot that is 0
  null_fits : (k elem : ℕ) (b : Bounds) → slot_shape ctx k ≡ Some (shape.Pointer elem b) → local_at st k ≡ pos 0
      → SlotFits ctx blocks st k elem b
  null_fits k elem bounds.Hidden h e = let a = is.automatic k elem h in subst
      (λ (o : Option ℕ). FitsHidden ctx blocks st k elem o) (sym a.1) (null e)
  null_fits k elem bounds.Nullterm h e = null e
  null_fits k elem (bounds.Within lo hi) h e = null e

  zero_holds : (k : ℕ) (s : Shape) → slot_shape ctx k ≡ Some s → IsSlotShape ctx.table s → local_at st k ≡ pos 0
      → SlotHolds ctx blocks st k s
  zero_holds k (shape.Int s) h i e = subst (λ (v : ℤ). IsTrue (is_of s v)) (sym e) (zero_is s i)
  zero_holds k (shape.Pointer elem b) h i e = (subst (λ (v : ℤ). IsTrue (is_word v)) (sym e) refl, null_fits k elem b h e)
  zero_holds k (shape.Struct n) h i e = absurd i
  zero_holds k shape.Address h i e = subst (λ (v : ℤ). IsTrue (is_word v)) (sym e) refl

  zero_at : (k : ℕ) → slice_get params k ≡ None → local_at st k ≡ pos 0
  zero_at k e = sym (as_named k) ∙ behind_at ctx.table blocks names params vs k takes e

  holds_by : (k : ℕ) (s : Shape) → slot_shape ctx k ≡ Some s → (o : Option (Option Shape)) → slice_get params k ≡ o
      → SlotHolds ctx blocks st k s
  holds_by k s h None e = zero_holds k s h (is.slots.shapes k s h) (zero_at k e)
  holds_by k s h (Some x) e =
      let same : x ≡ Some s = sym (ap option_flatten (is.parameters k x e)) ∙ h in
      parameter_holds k s (subst
      (λ (o : Option Shape). TakesOne ctx.table blocks names o (names k)) same (taken_at ctx.table blocks names params vs k x takes e))

  value_by : (k : ℕ) (o : Option (Option Shape)) → slice_get params k ≡ o → IsTrue (is_value (local_at st k))
  value_by k None e = subst (λ (v : ℤ). IsTrue (is_value v)) (sym (zero_at k e)) refl
  value_by k (Some x) e = subst (λ (v : ℤ). IsTrue (is_value v)) (as_named k)
      (taken_value ctx.table blocks names x (names k) (taken_at ctx.table blocks names params vs k x takes e))

  within : (k : ℕ) (s : Shape) → slot_shape ctx k ≡ Some s → k < length ctx.slots
  within k s h = by (slice_get ctx.slots k) refl
    where
      by : (o : Option (Option Shape)) → slice_get ctx.slots k ≡ o → k < length ctx.slots
      by None e = absurd (none (sym (ap option_flatten e) ∙ h))
        where
          none : ◌≡◌ {A = Option Shape} None (Some s) → ⊥
          none e = absurd cc
      by (Some x) e = slice_get_within ctx.slots k x e

  first_frame : IsFrame ctx blocks st
  first_frame = record {
    values = λ k. value_by k (slice_get params k) refl;
    long = λ k s h.
        let there = within k s h in
        let many = is.many in
        let all = length-append vs (replicate (length f.slots - length vs) (pos 0)) in
        let rest = length-replicate (length f.slots - length vs) (pos 0) in
        omega (arith, there, many, all, rest);
    holds = λ k s h. holds_by k s h (slice_get params k) refl;
  }

pub each_first_frame : EachFirstFrameIsGood
each_first_frame ctx params f is blocks m vs takes = first_frame ctx params f is blocks m vs takes
