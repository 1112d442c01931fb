-- `zero(l)` is not wild, and leaves a good memory: each arm that a tag may select holds 0 then.
use Rattle.std.proofs.Common.{◌≡◌, ℕ, zero, suc, ◌+◌, ◌*◌, ◌^◌, ◌≤◌, ◌<◌, true, List, [], All, length, ℤ}
use Rattle.std.proofs.Common.{pos, ◌+ℤ◌, Option, Some, Ok, Err, slice_get, option_map, unwrap_or, refl, sym, ap, ◌∙◌, subst, true≢false}
use Rattle.std.proofs.Common.{arith}
use Rattle.std.proofs.lemmas.List.Elements.{All-nil, All-cons}
use Rattle.sd_base.specs.Blocks.{Block, block_end}
use Rattle.byte_memory.specs.Bytes.{overwritten, zeros}
use Rattle.byte_memory.specs.Tested.{Memory, is_inside}
use Rattle.byte_memory.proofs.Words.{length-zeros}
use Rattle.checked_tree.specs.declared.expressions.CheckedExpr.TheVariants as form
use Rattle.checked_tree.specs.declared.shapes.Shape.{Shape}
use Rattle.checked_tree.specs.declared.shapes.Shape.TheVariants as shape
use Rattle.checked_tree.specs.declared.shapes.StructShape.{StructShape}
use Rattle.checked_tree.specs.declared.shapes.UnionShape.{UnionShape}
use Rattle.checked_tree.specs.declared.statements.CheckedStmt.TheVariants as statement
use Rattle.checked_tree.specs.declared.stops.Stop.TheVariants.{Failed, Wild}
use Rattle.checked_tree.specs.declared.units.CheckedFn.{CheckedFn}
use Rattle.checked_tree.specs.Act.{act, remembers, On}
use Rattle.checked_tree.specs.Conditions.{State}
use Rattle.checked_tree.specs.Eval.{eval, tests}
use Rattle.checked_tree.specs.Memory.{written, cleared}
use Rattle.checked_tree.specs.Numbers.{address}
use Rattle.checked_tree.specs.Outcome.{Outcome, ◌>>=◌, Safe}
use Rattle.deputy_types.specs.Fitting.{BytesFit, Part as Lies, is_any, elem_bytes, shape_size}
use Rattle.deputy_types.specs.Table.{union_shape}
use Rattle.deputy_types.proofs.Inversions.{some_then}
use Rattle.layout_laws.proofs.ZeroFits.{lies_in}
use Rattle.deputy_rules.specs.declared.derived.Derived.{Derived}
use Rattle.deputy_rules.specs.declared.derived.Derived.TheVariants as derived
use Rattle.deputy_rules.specs.declared.derived.UnionPlace.{UnionPlace}
use Rattle.deputy_rules.specs.Context.{Context}
use Rattle.deputy_rules.specs.Statements.{clear, zero_of}
use Rattle.driver_safety.specs.Derivations.{IsStructAt, IsDerived}
use Rattle.driver_safety.specs.Goodness.{IsGood, IsBlock, IsMemory}
use Rattle.driver_safety.specs.Reaching.{IsOpenAt}
use Rattle.driver_safety.specs.TypeFacts.{HasTypes, HasSlots, IsFilled, IsMemberOf}
use Rattle.driver_safety.proofs.assignments.ElementStores.{with_memory}
use Rattle.driver_safety.proofs.assignments.SlotAssign.{Leaves}
use Rattle.driver_safety.proofs.checks.Evaluations.{safe_same, eval-Field}
use Rattle.driver_safety.proofs.checks.Reached.{reached_is}
use Rattle.driver_safety.proofs.checks.Sounding.{Sound, then_sound, pure_sound, lift_sound, none_sound}
use Rattle.driver_safety.proofs.expressions.ReadRules.{struct_block}
use Rattle.driver_safety.proofs.expressions.Steps.{address_is}
use Rattle.driver_safety.proofs.memory.Lying.{any_part, IsWithin, inside_block, below_block, member_within}
use Rattle.driver_safety.proofs.memory.Writes.{element_from, one_element, memory_next}
use Rattle.driver_safety.proofs.memory.ZeroWrites.{full_at, full_end, union_cleared}

some_same : {A : Type 0} (a b : A) → ◌≡◌ {A = Option A} (Some a) (Some b) → a ≡ b
some_same a b h = cc

-- zeros are bytes
zeros_small : (n : ℕ) → All (λ b. b < 256) (zeros n)
unfolding zeros
zeros_small zero = All-nil (λ b. b < 256)
zeros_small (suc n) = All-cons (λ b. b < 256) 0 (zeros n) (omega arith) (zeros_small n)

cleared_is : (m : Memory) (a n : ℕ) → a < 2 ^ 32 → is_inside m a n ≡ true
    → cleared m (pos a) n ≡ Ok (record m { bytes = overwritten m.bytes a (zeros n) })
unfolding cleared written
cleared_is m a n l i = ap (λ (r : Outcome ℕ). r >>= λ b. Ok (record m { bytes = overwritten m.bytes b (zeros n) })) (reached_is m a n l i)

module _ (f : CheckedFn) (ctx : Context) (blocks : List Block) (st : State) (good : IsGood ctx blocks st) (types : HasTypes ctx.table)
    (slots : HasSlots ctx) where
  module _ (s part : ℕ) (u : StructShape) (y : UnionShape) (known : slice_get ctx.table.structs s ≡ Some u) (there : slice_get u.unions
      part ≡ Some y)
      (a : ℕ) (lies : IsStructAt ctx blocks s a) where
    abbrev block : IsBlock ctx.table blocks st.memory lies.block
    block = struct_block f ctx blocks st good types s a lies

    abbrev open_place : IsOpenAt ctx.table.elems ctx.table.structs lies.block (shape.Struct s) a
    open_place = lies.place

    abbrev at : ℕ
    at = element_from lies.block open_place.place

    abbrev full : IsFilled ctx.table u part y
    full = (types.structs s u known).filled part y there

    abbrev own : IsMemberOf ctx.table s u full.number full.member
    own = (types.structs s u known).members full.number full.member full.found

    same_shape : block.shape ≡ open_place.element
    same_shape = some_same block.shape open_place.element (sym block.shape_is ∙ open_place.element_is)

    struct_part : Lies ctx.table.structs is_any at block.shape a (shape.Struct s)
    struct_part = subst (λ (x : Shape). Lies ctx.table.structs is_any at x a (shape.Struct s)) (sym same_shape)
        (any_part ctx.table.structs at open_place.element a (shape.Struct s) open_place.part)

    inside : at + shape_size ctx.table.structs block.shape ≤ length st.memory.bytes
    inside =
        let bytes : elem_bytes ctx.table.elems ctx.table.structs lies.block.layout.elem ≡ shape_size ctx.table.structs block.shape =
        ap (λ (o : Option Shape). unwrap_or (option_map (shape_size ctx.table.structs) o) 0) block.shape_is in
        let width = block.size in
        let there = block.there in
        let l = open_place.within in
        let more : (open_place.place + 1) * lies.block.layout.size ≤ lies.block.layout.size * lies.block.count = grind arith in
        let next : (open_place.place + 1) * lies.block.layout.size ≡ open_place.place * lies.block.layout.size + lies.block.layout.size =
        grind arith in
        omega (arith, bytes, width, more, next, there)

    abbrev fit : BytesFit blocks ctx.table.elems ctx.table.structs st.memory.bytes at block.shape
    fit = block.fit open_place.place lies.no_text open_place.within

    fits : BytesFit blocks ctx.table.elems ctx.table.structs (overwritten st.memory.bytes (a + y.offset) (zeros y.size)) at block.shape
    fits = union_cleared ctx.table types blocks st.memory.bytes at block.shape inside fit a s part u y struct_part known there

    offset : full.member.offset ≡ y.offset
    offset = full_at ctx.table types blocks st.memory.bytes at block.shape inside fit a s part u y struct_part known there

    within : IsWithin lies.block (a + full.member.offset) (shape_size ctx.table.structs full.member.shape)
    within = member_within ctx.table types blocks st.memory lies.block block s a open_place u known full.number full.member full.found
        own.some

    union_within : IsWithin lies.block (a + y.offset) y.size
    union_within =
        let w = within in
        let from = w.from in
        let to = w.to in
        let e = offset in
        let size = full.size in
        record { from = omega (arith, from, e); to = omega (arith, to, e, size) }

    abbrev next_memory : Memory
    next_memory = record st.memory { bytes = overwritten st.memory.bytes (a + y.offset) (zeros y.size) }

    memory_after : IsMemory ctx.table blocks next_memory
    memory_after =
        let low = (lies_in ctx.table.structs at block.shape a (shape.Struct s) types.tidy.nested struct_part).from in
        let high = full_end ctx.table types blocks st.memory.bytes at block.shape inside fit a s part u y struct_part known there in
        let from = union_within.from in
        let to = union_within.to in
        let long = length-zeros y.size in
        let to_in : a + y.offset + length (zeros y.size) ≤ block_end lies.block = omega (arith, to, long) in
        memory_next ctx.table types blocks st.memory good.memory lies.block lies.granted (a + y.offset) (zeros y.size) (zeros_small y.size)
        from to_in
        (record {
          fit = one_element ctx.table types blocks st.memory good.memory lies.block lies.granted (a + y.offset) (zeros y.size)
              (zeros_small y.size) from
              to_in open_place.place open_place.within (omega (arith, low)) (omega (arith, high, long)) fits;
          ends = λ text. absurd (true≢false (sym text ∙ lies.no_text));
        })

    union_zeroed : Safe (cleared st.memory (pos (a + y.offset)) y.size >>= remembers st) (λ x. IsGood ctx blocks x.state × (x.turn ≡ On))
    union_zeroed =
        let below = below_block ctx.table types blocks st.memory lies.block block (a + y.offset) y.size union_within in
        let is = cleared_is st.memory (a + y.offset) y.size (omega (arith, below))
        (inside_block ctx.table types blocks st.memory lies.block block (a + y.offset) y.size union_within) in
        safe_same (remembers st next_memory) (cleared st.memory (pos (a + y.offset)) y.size >>= remembers st)
        (λ x. IsGood ctx blocks x.state × (x.turn ≡ On))
        (ap (λ (r : Outcome Memory). r >>= remembers st) is)
        (with_memory f ctx blocks st good types slots next_memory memory_after, refl)

  zeroed : (p : UnionPlace) (y : UnionShape) → union_shape ctx.table p.structure p.part ≡ Some y → IsDerived f ctx blocks st
      (derived.Union p)
      → Leaves f ctx blocks st good types slots (clear ctx p y.offset y.size)
  unfolding act tests
  zeroed p y found d =
      let x = some_then (slice_get ctx.table.structs p.structure) (λ x. slice_get x.unions p.part) y found in
      safe_same _ _ _ (ap (act [] f st) (statement.outs-Zero ctx.line (form.Field p.container y.offset []) y.size))
      (safe_same _ _ _ (ap (λ (r : Outcome ℤ). r >>= λ a. cleared st.memory a y.size >>= remembers st) (eval-Field f st p.container
      y.offset []))
      (nested (eval [] f st p.container) (λ a. address (a +ℤ pos y.offset)) (λ a. cleared st.memory a y.size >>= remembers st) _ _ d
      (λ z is.
      let a : ℕ = is.address in
      let below = below_block ctx.table types blocks st.memory is.lies.block (struct_block f ctx blocks st good types p.structure a is.lies)
      (a + y.offset) y.size (union_within p.structure p.part x.0 y x.1 x.2 a is.lies) in
      let sum : z +ℤ pos y.offset ≡ pos (a + y.offset) = ap (λ (y' : ℤ). y' +ℤ pos y.offset) is.is in
      safe_same _ _ _ (ap (λ (r : Outcome ℤ). r >>= λ a. cleared st.memory a y.size >>= remembers st) (address_is (z +ℤ pos y.offset)
      (a + y.offset) sum (omega (arith, below))))
      (union_zeroed p.structure p.part x.0 y x.1 x.2 a is.lies))))
    where
      nested : {A B C : Type 0} (r : Outcome A) (g : A → Outcome B) (k : B → Outcome C) (P : A → Type 0) (Q : C → Type 0) → Safe r P
          → ((a : A) → P a → Safe (g a >>= k) Q) → Safe ((r >>= g) >>= k) Q
      nested (Ok a) g k P Q s h = h a s
      nested (Err (Failed line kind)) g k P Q s h = tt
      nested (Err Wild) g k P Q s h = s

  pub zero_of_sound : (d : Derived) → Sound f st ctx.first (zero_of ctx d) (λ c. IsDerived f ctx blocks st d → Leaves f ctx blocks st good
      types slots c)
  unfolding zero_of
  zero_of_sound (derived.Union p) =
      then_sound f st ctx.first _ _ (λ y. union_shape ctx.table p.structure p.part ≡ Some y) _ (lift_sound f st ctx.first
      (union_shape ctx.table p.structure p.part) _ (λ y e. e)) (λ y.
      pure_sound f st ctx.first (clear ctx p y.offset y.size) _ (λ found d. zeroed p y found d))
  zero_of_sound (derived.Local slot) = none_sound f st ctx.first _
  zero_of_sound (derived.Place p) = none_sound f st ctx.first _
  zero_of_sound (derived.Value v) = none_sound f st ctx.first _
  zero_of_sound (derived.Array a) = none_sound f st ctx.first _
