-- A local that no annotation names takes the kernel's answer, and its frame stays good.
use Rattle.std.proofs.Common.{◌≡◌, ◌⊎◌, inl, inr, ℕ, zero, suc, ◌+◌, ◌*◌, ◌≤◌, ◌<◌, false, List, pos}
use Rattle.std.proofs.Common.{Option, Some, None, option_map, slice_get, if◌then◌else◌, refl, sym, ap, ◌∙◌, subst, arith}
use Rattle.std.proofs.lemmas.Bool.{eqb-true}
use Rattle.sd_base.specs.Blocks.{Block, block_end}
use Rattle.sd_base.specs.declared.actors.Fat.{Fat}
use Rattle.c_tree.specs.Slots.{slot_named, hidden_slot}
use Rattle.checked_tree.specs.declared.kernel.Answer.{Answer}
use Rattle.checked_tree.specs.declared.kernel.Answer.TheVariants as answer
use Rattle.checked_tree.specs.declared.kernel_table.KernelResult.{KernelResult}
use Rattle.checked_tree.specs.declared.kernel_table.KernelResult.TheVariants as result
use Rattle.checked_tree.specs.declared.shapes.Bounds.TheVariants as bounds
use Rattle.checked_tree.specs.declared.shapes.Scalar.{Scalar}
use Rattle.checked_tree.specs.declared.shapes.Scalar.TheVariants.{I32}
use Rattle.checked_tree.specs.declared.shapes.Shape.TheVariants as shape
use Rattle.checked_tree.specs.declared.statements.Target.{Target}
use Rattle.checked_tree.specs.declared.statements.Target.TheVariants as target
use Rattle.checked_tree.specs.declared.units.CheckedFn.{CheckedFn}
use Rattle.checked_tree.specs.Conditions.{State}
use Rattle.checked_tree.specs.Operands.{null}
use Rattle.checked_tree.specs.Step.{answer_set}
use Rattle.deputy_types.specs.Fitting.{null as nowhere, in_bounds, IsOpenPlace, elem_bytes, whole}
use Rattle.deputy_types.proofs.Inversions.{some_then}
use Rattle.deputy_rules.specs.Calls.{is_named_slot, free_slot, is_automatic_to, automatic_target, shape_target}
use Rattle.deputy_rules.specs.Calls.{value_target, call_target, kernel_result, kalloc_target}
use Rattle.deputy_rules.specs.Context.{Context, slot_shape}
use Rattle.driver_safety.specs.Goodness.{IsGood, IsBlock}
use Rattle.driver_safety.specs.KernelLaw.{IsNew, Answers, IsAnswerTarget, EachAnswerIsTaken}
use Rattle.driver_safety.specs.TypeFacts.{HasTypes, HasSlots}
use Rattle.driver_safety.proofs.calls.Receiving.{no_target, some_same, mapped, if_some, unless_some, automatic_shape, integer_shape}
use Rattle.driver_safety.proofs.calls.Receiving.{IsReceived, integer_received, pointer_received}

-- ---- the local that a rule finds
free_is : (ctx : Context) (x : List ℕ) (k : ℕ) → free_slot ctx x ≡ Some k → is_named_slot ctx k ≡ false
unfolding free_slot
free_is ctx x k h =
    let n = some_then (slot_named ctx.locals x) (λ k. if is_named_slot ctx k then None else Some k) k h in
    let free = unless_some (is_named_slot ctx n.0) n.0 k n.2 in
    subst (λ (i : ℕ). is_named_slot ctx i ≡ false) free.1 free.0

integer_target_is : (ctx : Context) (s : Scalar) (x : List ℕ) (t : Option Target) → value_target ctx (shape.Int s) x ≡ Some t
    → IsAnswerTarget ctx 0 t
unfolding shape_target
integer_target_is ctx s x t h =
    let k = some_then (free_slot ctx x) (λ slot. option_map (λ y. Some y) (shape_target ctx slot (shape.Int s))) t h in
    let y = mapped (shape_target ctx k.0 (shape.Int s)) (λ y. Some y) t k.2 in
    let i = integer_shape k.0 (slot_shape ctx k.0) y.0 y.1 in
    subst (IsAnswerTarget ctx 0) y.2 (subst (λ (z : Target). IsAnswerTarget ctx 0 (Some z)) i.2 (i.1, free_is ctx x k.0 k.1))

-- of a call by name
pub named_target_is : (ctx : Context) (r : KernelResult) (x : Option (List ℕ)) (t : Option Target)
    → call_target ctx (kernel_result r) x ≡ Some t → IsAnswerTarget ctx 0 t
unfolding call_target
named_target_is ctx r None t h = subst (IsAnswerTarget ctx 0) (some_same no_target t h) tt
named_target_is ctx result.Nothing (Some x) t h = absurd cc
named_target_is ctx result.Number (Some x) t h = integer_target_is ctx I32 x t h
named_target_is ctx result.Block (Some x) t h = absurd cc

-- of `kalloc`
pub new_target_is : (ctx : Context) (x : List ℕ) (n : ℕ) (t : Target) → kalloc_target ctx x n ≡ Some t → IsAnswerTarget ctx n (Some t)
unfolding automatic_target
new_target_is ctx x n t h =
    let k = some_then (free_slot ctx x) (automatic_target ctx n) t h in
    let i = if_some (is_automatic_to n (slot_shape ctx k.0)) (option_map
    (λ j. target.Automatic k.0 j) (hidden_slot ctx.locals k.0)) t k.2 in
    let a = automatic_shape n (slot_shape ctx k.0) i.0 in
    let j = mapped (hidden_slot ctx.locals k.0) (λ j. target.Automatic k.0 j) t i.1 in
    let same : a.0 ≡ n = eqb-true a.0 n a.2 in
    subst (λ (z : Target). IsAnswerTarget ctx n (Some z)) j.2
    (a.1 ∙ ap (λ (m : ℕ). Some (shape.Pointer m bounds.Hidden)) same, j.1, free_is ctx x k.0 k.1)

-- ---- places among equal ones
zeroth : (base : ℕ) → base + 0 ≡ base
zeroth base = omega arith

-- the number of an element that ends in time, or of the first where elements have no bytes
place_for : (base i size count : ℕ) → 0 < count → base + (i + 1) * size ≤ base + size * count
    → (k : ℕ) × (k < count) × (base + i * size ≡ base + k * size)
place_for base i zero count some l = (0, some, omega arith)
place_for base i (suc size) count some l = (i, less i size count l, refl)
  where
    less : (i size count : ℕ) → base + (i + 1) * suc size ≤ base + suc size * count → i < count
    less i size count l = grind arith

module _ (f : CheckedFn) (ctx : Context) (blocks : List Block) (st : State) (good : IsGood ctx blocks st) (types : HasTypes ctx.table)
    (slots : HasSlots ctx) where
  module _ (slot : ℕ) (free : is_named_slot ctx slot ≡ false) where
    -- the pointer to new elements reaches all of them
    new_fits : (elem : ℕ) (p : Fat) (n : IsNew blocks elem p) → IsReceived f ctx blocks st good types slots slot free elem p
    new_fits elem p n =
        let block : IsBlock ctx.table blocks st.memory n.block = good.memory.each n.block n.granted in
        let end = block.to in
        let from : n.block.base ≤ block_end n.block = omega arith in
        let v = n.value in
        let l = n.low in
        let h = n.high in
        let size_is : n.block.layout.size ≡ elem_bytes ctx.table.elems ctx.table.structs elem =
        block.size ∙ ap (elem_bytes ctx.table.elems ctx.table.structs) n.elem_is in
        record {
          word = omega (arith, v, end, from);
          low = omega (arith, l, end, from);
          high = omega (arith, h, end);
          fits = in_bounds refl (record {
            block = n.block;
            granted = n.granted;
            no_text = n.no_text;
            from = n.block.base;
            from_is = ap pos n.low;
            to = block_end n.block;
            to_is = ap pos n.high;
            at = n.block.base;
            at_is = ap pos n.value;
            above = omega arith;
            below = from;
            whole = (0, omega arith);
            from_in = omega arith;
            to_in = omega arith;
            elements = λ i e. element block i (subst (λ (s : ℕ). n.block.base + (i + 1) * s ≤ block_end n.block) (sym size_is) e) size_is;
          });
        }
      where
        element : IsBlock ctx.table blocks st.memory n.block → (i : ℕ) → n.block.base + (i + 1) * n.block.layout.size ≤ block_end n.block
            → n.block.layout.size ≡ elem_bytes ctx.table.elems ctx.table.structs elem
            → IsOpenPlace ctx.table.elems ctx.table.structs n.block elem
            (n.block.base + i * elem_bytes ctx.table.elems ctx.table.structs elem)
        element block i e size_is =
            let k = place_for n.block.base i n.block.layout.size n.block.count n.some e in
            record {
              shape = block.shape;
              is = ap (slice_get ctx.table.elems) (sym n.elem_is) ∙ block.shape_is;
              element = block.shape;
              element_is = block.shape_is;
              place = k.0;
              within = k.1;
              part = whole (ap (λ (s : ℕ). n.block.base + i * s) (sym size_is) ∙ k.2) refl;
            }

    null_fits : (elem : ℕ) (p : Fat) → p ≡ null → IsReceived f ctx blocks st good types slots slot free elem p
    null_fits elem p e = subst (λ (q : Fat). IsReceived f ctx blocks st good types slots slot free elem q) (sym e)
        (record { word = omega arith; low = omega arith; high = omega arith; fits = nowhere refl })

    answer_fits : (elem : ℕ) (p : Fat) → (p ≡ null) ⊎ IsNew blocks elem p → IsReceived f ctx blocks st good types slots slot free elem p
    answer_fits elem p (inl e) = null_fits elem p e
    answer_fits elem p (inr n) = new_fits elem p n

  pub answer_taken : (elem : ℕ) (t : Option Target) → IsAnswerTarget ctx elem t → (r : Answer) → Answers blocks elem r
      → IsGood ctx blocks (record { locals = answer_set st.locals t r; memory = st.memory })
  answer_taken elem None is (answer.Number v) a = good
  answer_taken elem None is (answer.Pointer p) a = good
  answer_taken elem (Some (target.Int slot s)) is (answer.Number v) a = integer_received f ctx blocks st good types slots slot is.1 s v is.0
  answer_taken elem (Some (target.Int slot s)) is (answer.Pointer p) a = good
  answer_taken elem (Some (target.Automatic slot hidden)) is (answer.Number v) a = good
  answer_taken elem (Some (target.Automatic slot hidden)) is (answer.Pointer p) a =
      pointer_received f ctx blocks st good types slots slot is.2 elem hidden p is.0 is.1 (answer_fits slot is.2 elem p a)
  answer_taken elem (Some (target.Nullterm slot)) is r a = absurd is

pub each_answer_is_taken : EachAnswerIsTaken
each_answer_is_taken f ctx elem t types slots is blocks st good r a = answer_taken f ctx blocks st good types slots elem t is r a
