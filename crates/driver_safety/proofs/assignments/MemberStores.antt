-- Stores to members of structs, arms of unions among them, leave a good memory.
use Rattle.std.proofs.Common.{◌≡◌, ◌≢◌, ℕ, ◌+◌, ◌*◌, ◌≤◌, IsTrue}
use Rattle.std.proofs.Common.{true, List, length, ℤ, pos}
use Rattle.std.proofs.Common.{Option, Some, None, option_map, unwrap_or, Ok, slice_get}
use Rattle.std.proofs.Common.{refl, sym, ap, ◌∙◌, subst, true≢false, arith}
use Rattle.std.proofs.lemmas.Option.{slice_get_within, get_or_from_slice_get}
use Rattle.driver_safety.proofs.checks.Evaluations.{safe_same}
use Rattle.sd_base.specs.Blocks.{Block, block_end}
use Rattle.byte_memory.specs.Bytes.{overwritten}
use Rattle.byte_memory.specs.Tested.{Memory, is_inside}
use Rattle.byte_memory.proofs.Addresses.{length-low_bytes}
use Rattle.checked_tree.specs.declared.expressions.CheckedExpr.{CheckedExpr}
use Rattle.checked_tree.specs.declared.shapes.Member.{Member}
use Rattle.checked_tree.specs.declared.shapes.Scalar.{Scalar}
use Rattle.checked_tree.specs.declared.shapes.Shape.{Shape}
use Rattle.checked_tree.specs.declared.shapes.Shape.TheVariants as shape
use Rattle.checked_tree.specs.declared.shapes.StructShape.{StructShape}
use Rattle.checked_tree.specs.declared.units.CheckedFn.{CheckedFn}
use Rattle.checked_tree.specs.Act.{remembers, On}
use Rattle.checked_tree.specs.Conditions.{State, peek}
use Rattle.checked_tree.specs.Memory.{store}
use Rattle.checked_tree.specs.Numbers.{low_bits, scalar_size}
use Rattle.checked_tree.specs.Outcome.{Outcome, Got, ◌>>=◌, Safe}
use Rattle.layout_laws.proofs.ZeroFits.{lies_in}
use Rattle.deputy_types.specs.Fitting.{BytesFit, Part as Lies, is_any, is_used, elem_bytes}
use Rattle.deputy_types.specs.Fitting.{shape_size, member_value}
use Rattle.deputy_types.specs.Table.{member}
use Rattle.deputy_rules.specs.Context.{Context}
use Rattle.deputy_rules.specs.SumValues.{got_or_zero}
use Rattle.deputy_rules.specs.Values.{container}
use Rattle.driver_safety.specs.Derivations.{IsStructAt, IsMemberAt}
use Rattle.driver_safety.specs.Goodness.{IsGood, IsBlock, IsMemory}
use Rattle.driver_safety.specs.Passing.{place_of}
use Rattle.driver_safety.specs.Reaching.{IsOpenAt}
use Rattle.driver_safety.specs.StructPlaces.{IsLeaf}
use Rattle.driver_safety.specs.TypeFacts.{HasTypes, HasSlots}
use Rattle.driver_safety.proofs.assignments.ElementStores.{bytes_for, store_is, with_memory}
use Rattle.driver_safety.proofs.expressions.ReadRules.{member_found, struct_block}
use Rattle.driver_safety.proofs.memory.Lying.{any_part, IsWithin, inside_block, below_block, member_within}
use Rattle.driver_safety.proofs.memory.MemberWrites.{KeepsStruct, stays_plain, member_written}
use Rattle.driver_safety.proofs.memory.Writes.{low_small, element_from, one_element, memory_next}

some_same : {A : Type 0} (a b : A) → ◌≡◌ {A = Option A} (Some a) (Some b) → a ≡ b
some_same a b h = cc

module _ (f : CheckedFn) (ctx : Context) (blocks : List Block) (st : State) (good : IsGood ctx blocks st) (types : HasTypes ctx.table)
    (slots : HasSlots ctx)
    (place : CheckedExpr) (s k : ℕ) (w : Member) (found : member ctx.table s k ≡ Some w) where
  -- the struct of the member, as the table has it
  abbrev pub structure : (u : StructShape) × (slice_get ctx.table.structs s ≡ Some u) × (slice_get u.members k ≡ Some w)
  structure = member_found ctx.table s k w found

  abbrev pub known : StructShape
  known = structure.0

  -- where the struct place lies
  abbrev pub base : ℕ
  base = place_of (got_or_zero (peek st (container place)))

  -- the member at an address, with what the table says of it
  pub record IsHere (a : ℕ) : Type 0 where
    pub struct_is : peek st (container place) ≡ Ok (pos base)
    pub lies : IsStructAt ctx blocks s base
    pub one : w.count ≡ 1
    pub used : is_used st.memory.bytes base known w.arm ≡ true
    pub at : a ≡ base + w.offset

  pub is_here : (a : ℕ) → IsMemberAt ctx blocks st place s k a → IsHere a
  is_here a at =
      let at_base : at.struct_at ≡ base = sym (ap (λ (g : Got). place_of (got_or_zero g)) at.struct_is) in
      let same_struct : at.structure ≡ known = some_same at.structure known (sym at.structure_is ∙ structure.1) in
      let same_member : at.member ≡ w = some_same at.member w (sym at.member_is ∙ ap (λ (u : StructShape). slice_get u.members k)
      same_struct ∙ structure.2) in
      record {
        struct_is = at.struct_is ∙ ap (λ (n : ℕ). Ok (pos n)) at_base;
        lies = subst (λ (n : ℕ). IsStructAt ctx blocks s n) at_base at.lies;
        one = subst (λ (m : Member). m.count ≡ 1) same_member at.one;
        used = subst (λ (m : Member). is_used st.memory.bytes base known m.arm ≡ true) same_member
            (subst (λ (u : StructShape). is_used st.memory.bytes base u at.member.arm ≡ true) same_struct
            (subst (λ (n : ℕ). is_used st.memory.bytes n at.structure at.member.arm ≡ true) at_base at.used));
        at = at.at ∙ ap (λ (n : ℕ). n + at.member.offset) at_base ∙ ap (λ (m : Member). base + m.offset) same_member;
      }

  module _ (a : ℕ) (here : IsHere a) (scalar : Scalar) (leaf : IsLeaf w.shape) (size : scalar_size scalar ≡ shape_size ctx.table.structs
      w.shape) (v : ℤ) where
    abbrev pub block : IsBlock ctx.table blocks st.memory here.lies.block
    block = struct_block f ctx blocks st good types s base here.lies

    abbrev pub open_place : IsOpenAt ctx.table.elems ctx.table.structs here.lies.block (shape.Struct s) base
    open_place = here.lies.place

    abbrev pub at : ℕ
    at = element_from here.lies.block open_place.place

    abbrev pub new : List ℕ
    new = bytes_for scalar v

    pub fills : length new ≡ shape_size ctx.table.structs w.shape
    fills = length-low_bytes (scalar_size scalar) (low_bits 32 v) ∙ size

    pub same_shape : block.shape ≡ open_place.element
    same_shape = some_same block.shape open_place.element (sym block.shape_is ∙ open_place.element_is)

    pub part : Lies ctx.table.structs is_any at block.shape base (shape.Struct s)
    part = subst (λ (x : Shape). Lies ctx.table.structs is_any at x base (shape.Struct s)) (sym same_shape)
        (any_part ctx.table.structs at open_place.element base (shape.Struct s) open_place.part)

    pub inside : at + shape_size ctx.table.structs block.shape ≤ length st.memory.bytes
    inside =
        let bytes : elem_bytes ctx.table.elems ctx.table.structs here.lies.block.layout.elem ≡ shape_size ctx.table.structs block.shape =
        ap (λ (o : Option Shape). unwrap_or (option_map (shape_size ctx.table.structs) o) 0) block.shape_is in
        let width = block.size in
        let there = block.there in
        let l = open_place.within in
        let more : (open_place.place + 1) * here.lies.block.layout.size ≤ here.lies.block.layout.size * here.lies.block.count = grind arith
        in
        let next : (open_place.place + 1) * here.lies.block.layout.size ≡ open_place.place * here.lies.block.layout.size +
        here.lies.block.layout.size = grind arith in
        omega (arith, bytes, width, more, next, there)

    abbrev pub fit : BytesFit blocks ctx.table.elems ctx.table.structs st.memory.bytes at block.shape
    fit = block.fit open_place.place here.lies.no_text open_place.within

    -- the memory behind the store
    abbrev pub after : List ℕ
    after = overwritten st.memory.bytes (base + w.offset + 0 * shape_size ctx.table.structs w.shape) new

    abbrev pub Keeps : Type 0
    Keeps = KeepsStruct ctx.table types blocks st.memory.bytes new at block.shape inside fit base s k known w part structure.1 structure.2
        here.one here.used leaf fills

    pub member_stays : (i : ℕ) (m : Member) → slice_get known.members i ≡ Some m → m.arm ≡ None → i ≢ k → member_value after base known i ≡
        member_value st.memory.bytes base known i
    member_stays i m is free n = stays_plain ctx.table types blocks st.memory.bytes new at block.shape inside fit base s k known w part
        structure.1 structure.2 here.one here.used leaf fills i m is free n

    within : IsWithin here.lies.block (base + w.offset) (shape_size ctx.table.structs w.shape)
    within = let one = here.one in member_within ctx.table types blocks st.memory here.lies.block block s base open_place known structure.1
        k w structure.2 (omega (arith, one))

    first : base + w.offset + 0 * shape_size ctx.table.structs w.shape ≡ base + w.offset
    first = plus_zero (base + w.offset) (shape_size ctx.table.structs w.shape)
      where
        plus_zero : (i size : ℕ) → i + 0 * size ≡ i
        plus_zero i size = omega arith

    abbrev next_memory : Memory
    next_memory = record st.memory { bytes = overwritten st.memory.bytes (base + w.offset) new }

    memory_after : Keeps → IsMemory ctx.table blocks next_memory
    memory_after keeps =
        let lies = lies_in ctx.table.structs at block.shape base (shape.Struct s) types.tidy.nested part in
        let fits' = member_written ctx.table types blocks st.memory.bytes new at block.shape inside fit base s k known w part structure.1
        structure.2 here.one here.used leaf fills keeps in
        let fits = subst (λ (n : ℕ). BytesFit blocks ctx.table.elems ctx.table.structs (overwritten st.memory.bytes n new) at block.shape)
        first fits' in
        let from = within.from in
        let to = within.to in
        let few = low_small (scalar_size scalar) (low_bits 32 v) in
        let in_struct = member_end in
        let low = lies.from in
        let high = lies.to in
        let to_in : base + w.offset + length new ≤ block_end here.lies.block = omega (arith, to, fills) in
        memory_next ctx.table types blocks st.memory good.memory here.lies.block here.lies.granted (base + w.offset) new few from to_in
        (record {
          fit = one_element ctx.table types blocks st.memory good.memory here.lies.block here.lies.granted (base + w.offset) new few from
              to_in open_place.place open_place.within
              (omega (arith, low)) (omega (arith, high, in_struct, fills)) fits;
          ends = λ text. absurd (true≢false (sym text ∙ here.lies.no_text));
        })
      where
        known_size : shape_size ctx.table.structs (shape.Struct s) ≡ known.size
        known_size = ap (λ (o : Option StructShape). unwrap_or (option_map (λ (t : StructShape). t.size) o) 0) structure.1

        member_end : w.offset + shape_size ctx.table.structs w.shape ≤ shape_size ctx.table.structs (shape.Struct s)
        member_end =
            let one = here.one in
            let room : w.offset + w.count * shape_size ctx.table.structs w.shape ≤ known.size =
            subst (λ (x : Member). x.offset + x.count * shape_size ctx.table.structs x.shape ≤ known.size)
            (get_or_from_slice_get known.members k w w structure.2)
            (types.tidy.nested s known structure.1 k w (slice_get_within known.members k w structure.2)) in
            let count : w.count * shape_size ctx.table.structs w.shape ≡ 1 * shape_size ctx.table.structs w.shape = ap
            (λ (n : ℕ). n * shape_size ctx.table.structs w.shape) here.one in
            omega (arith, room, count, known_size)

    -- the store, behind the checks
    pub member_stored : Keeps → Safe (store st.memory scalar (pos a) v >>= remembers st) (λ x. IsGood ctx blocks x.state × (x.turn ≡ On))
    member_stored keeps =
        let below = below_block ctx.table types blocks st.memory here.lies.block block (base + w.offset) (shape_size ctx.table.structs
        w.shape) within in
        let is = store_is st.memory scalar (base + w.offset) v (omega (arith, below))
        (subst (λ (n : ℕ). IsTrue (is_inside st.memory (base + w.offset) n)) (sym size)
        (inside_block ctx.table types blocks st.memory here.lies.block block (base + w.offset) (shape_size ctx.table.structs w.shape)
        within)) in
        safe_same (remembers st next_memory) (store st.memory scalar (pos a) v >>= remembers st) (λ x. IsGood ctx blocks x.state
        × (x.turn ≡ On))
        (ap (λ (n : ℕ). store st.memory scalar (pos n) v >>= remembers st) here.at ∙ ap (λ (r : Outcome Memory). r >>= remembers st) is)
        (with_memory f ctx blocks st good types slots next_memory (memory_after keeps), refl)
