-- Stores to elements and to bytes of text leave a good memory.
use Rattle.std.proofs.Common.{◌≡◌, ◌≢◌, ◌⊎◌, inl, inr, ℕ, ◌+◌, ◌-◌, ◌*◌, ◌%◌, ◌^◌, ◌≤◌, ◌<◌, ◌==◌, IsTrue, Bool, true, false}
use Rattle.std.proofs.Common.{List, [], ◌∷◌, length, ℤ, pos, negsuc, ◌+ℤ◌, ◌*ℤ◌, Option, Some, None, option_map, unwrap_or, Ok}
use Rattle.std.proofs.Common.{slice_index_or, refl, sym, ap, ◌∙◌, subst, true≢false, arith}
use Rattle.std.proofs.lemmas.Bool.Decides.{Decides-eqb}
use Rattle.std.proofs.lemmas.Int.{ints}
use Rattle.sd_base.specs.Blocks.{Block, block_end}
use Rattle.sd_base.specs.declared.kinds.CheckKind.TheVariants as kind
use Rattle.byte_memory.specs.Bytes.{low_bytes, overwritten}
use Rattle.byte_memory.specs.Tested.{Memory, is_inside}
use Rattle.byte_memory.proofs.Addresses.{length-low_bytes, load_after_store}
use Rattle.byte_memory.proofs.Words.{load_1, length-overwritten}
use Rattle.c_tree.specs.Slots.{hidden_slot}
use Rattle.checked_tree.specs.declared.shapes.Bounds.{Bounds}
use Rattle.checked_tree.specs.declared.shapes.Bounds.TheVariants as bounds
use Rattle.checked_tree.specs.declared.shapes.Scalar.{Scalar}
use Rattle.checked_tree.specs.declared.shapes.Scalar.TheVariants.{U8, Pointer}
use Rattle.checked_tree.specs.declared.shapes.Shape.{Shape}
use Rattle.checked_tree.specs.declared.shapes.Shape.TheVariants as shape
use Rattle.checked_tree.specs.declared.statements.CheckedStmt.TheVariants as statement
use Rattle.checked_tree.specs.declared.sums.Part.{Part}
use Rattle.checked_tree.specs.declared.sums.Part.TheVariants.{Constant}
use Rattle.checked_tree.specs.declared.units.CheckedFn.{CheckedFn}
use Rattle.checked_tree.specs.Act.{act, remembers, On}
use Rattle.checked_tree.specs.Conditions.{State}
use Rattle.checked_tree.specs.Edges.{edge_value}
use Rattle.checked_tree.specs.Eval.{eval, tests}
use Rattle.checked_tree.specs.Memory.{written, store}
use Rattle.checked_tree.specs.Numbers.{converted, is_word, low_bits, scalar_size}
use Rattle.checked_tree.specs.Operands.{taken}
use Rattle.checked_tree.specs.Outcome.{Outcome, Got, ◌>>=◌, Safe}
use Rattle.checked_tree.proofs.Outcomes.{safe_bind}
use Rattle.layout_laws.proofs.ZeroFits.{lies_in}
use Rattle.deputy_types.specs.declared.element.Element.{Element}
use Rattle.deputy_types.specs.declared.element.Element.TheVariants as element
use Rattle.deputy_types.specs.Declarations.{own as own_edge, up_to, with_bytes}
use Rattle.deputy_types.specs.Fitting.{Fits, null, in_text, in_bounds, IsInText, Part as Lies, is_open, elem_bytes}
use Rattle.deputy_types.specs.Fitting.{shape_size, place_value}
use Rattle.deputy_types.specs.Table.{element_at, elem_size}
use Rattle.deputy_types.specs.UnitLayout.{elem_shape}
use Rattle.deputy_rules.specs.declared.derived.Derived.{Derived}
use Rattle.deputy_rules.specs.declared.derived.Derived.TheVariants as derived
use Rattle.deputy_rules.specs.declared.derived.Place.{Place}
use Rattle.deputy_rules.specs.declared.derived.Source.{Source}
use Rattle.deputy_rules.specs.declared.derived.Source.TheVariants as source
use Rattle.deputy_rules.specs.declared.derived.Value.TheVariants as value
use Rattle.deputy_rules.specs.declared.derived.Whole.{Whole}
use Rattle.deputy_rules.specs.declared.handed.Handed.{Handed}
use Rattle.deputy_rules.specs.Assignment.{store_counted, store_text, store_integer, store_element, store_byte}
use Rattle.deputy_rules.specs.Coercion.{handed, coerce_within, coerce_counted, converted_side}
use Rattle.deputy_rules.specs.Context.{Context}
use Rattle.deputy_rules.specs.Sums.{sum_of, with_part}
use Rattle.deputy_rules.specs.SumValues.{part_at, parts_at, PartHasValue, HasValue}
use Rattle.deputy_rules.specs.Values.{integer_of, size_of}
use Rattle.deputy_rules.proofs.SumsHave.{has_with_part}
use Rattle.driver_safety.specs.Derivations.{IsPlace, IsElementAt, LiesAt, IsValue, IsDerived}
use Rattle.driver_safety.specs.Goodness.{IsGood, IsBlock, IsMemory, SlotHolds, SlotFits, FitsHidden}
use Rattle.driver_safety.specs.Passing.{IsInside, clear_at}
use Rattle.driver_safety.specs.StructPlaces.{IsLeaf}
use Rattle.driver_safety.specs.TypeFacts.{HasTypes, HasSlots, key_shape}
use Rattle.driver_safety.proofs.assignments.Coercions.{coerce_sound, narrow}
use Rattle.driver_safety.proofs.assignments.Conversions.{converted_has}
use Rattle.driver_safety.proofs.assignments.ElementSizes.{element_size}
use Rattle.driver_safety.proofs.assignments.HandedRules.{IsHanded}
use Rattle.driver_safety.proofs.assignments.Handing.{handed_sound}
use Rattle.driver_safety.proofs.assignments.KeptRules.{term_sound}
use Rattle.driver_safety.proofs.assignments.SlotAssign.{Leaves, taken_is, word_taken}
use Rattle.driver_safety.proofs.checks.Evaluations.{safe_same, safe_weaker, Pass, pass_none}
use Rattle.driver_safety.proofs.checks.Reached.{reached_is}
use Rattle.driver_safety.proofs.checks.Sounding.{Sound, then_sound, pure_sound, lift_sound, if_sound, none_sound, weaker}
use Rattle.driver_safety.proofs.expressions.OperatorRules.{integer_sound}
use Rattle.driver_safety.proofs.expressions.PlaceRules.{safe_step}
use Rattle.driver_safety.proofs.expressions.TextRules.{one_clear, text_inside}
use Rattle.driver_safety.proofs.memory.Lying.{any_part, IsWithin, open_within, inside_block, below_block}
use Rattle.driver_safety.proofs.memory.OpenWrites.{HoldsAny, open_keeps}
use Rattle.driver_safety.proofs.memory.Outside.{other_byte}
use Rattle.driver_safety.proofs.memory.Writes.{low_small, element_from, one_element, memory_next}

some_same : {A : Type 0} (a b : A) → ◌≡◌ {A = Option A} (Some a) (Some b) → a ≡ b
some_same a b h = cc

-- the bytes of a number that is stored
abbrev pub bytes_for : Scalar → ℤ → List ℕ
bytes_for s w = low_bytes (scalar_size s) (low_bits 32 w)

pub store_is : (m : Memory) (s : Scalar) (a : ℕ) (w : ℤ) → a < 2 ^ 32 → is_inside m a (scalar_size s) ≡ true
    → store m s (pos a) w ≡ Ok (record m { bytes = overwritten m.bytes a (bytes_for s w) })
unfolding store written
store_is m s a w l i = ap (λ (r : Outcome ℕ). r >>= λ b. Ok (record m { bytes = overwritten m.bytes b (bytes_for s w) }))
    (reached_is m a (scalar_size s) l i)

word_back : (n : ℕ) → n < 2 ^ 32 → n % 4294967296 % 4294967296 ≡ n
word_back n l = let a : n % 4294967296 ≡ n = grind arith in ap (λ (x : ℕ). x % 4294967296) a ∙ a

-- a word that is stored is read there again
pub word_stored : (bytes : List ℕ) (a n : ℕ) (elem : ℕ) (b : Bounds) → a + 4 ≤ length bytes → n < 2 ^ 32
    → place_value (overwritten bytes a (low_bytes 4 (low_bits 32 (pos n)))) a (shape.Pointer elem b) ≡ pos n
word_stored bytes a n elem b l w = ap (λ (k : ℕ). pos k) (load_after_store bytes a 4 (low_bits 32 (pos n)) l ∙ word_back n w)

module _ (f : CheckedFn) (ctx : Context) (blocks : List Block) (st : State) (good : IsGood ctx blocks st) (types : HasTypes ctx.table)
    (slots : HasSlots ctx) where
  -- ---- the frame does not read the memory
  hidden_again : (m : Memory) (k elem : ℕ) (o : Option ℕ) → FitsHidden ctx blocks st k elem o → FitsHidden ctx blocks
      (record st { memory = m }) k elem o
  hidden_again m k elem None h = h
  hidden_again m k elem (Some s) h = h

  fits_again : (m : Memory) (k elem : ℕ) (b : Bounds) → SlotFits ctx blocks st k elem b → SlotFits ctx blocks (record st { memory = m }) k
      elem b
  fits_again m k elem bounds.Hidden h = hidden_again m k elem (hidden_slot ctx.locals k) h
  fits_again m k elem bounds.Nullterm h = h
  fits_again m k elem (bounds.Within lo hi) h = h

  slot_again : (m : Memory) (k : ℕ) (x : Shape) → SlotHolds ctx blocks st k x → SlotHolds ctx blocks (record st { memory = m }) k x
  slot_again m k (shape.Int s) h = h
  slot_again m k (shape.Pointer elem b) h = (h.0, fits_again m k elem b h.1)
  slot_again m k (shape.Struct s) h = h
  slot_again m k shape.Address h = h

  pub with_memory : (m : Memory) → IsMemory ctx.table blocks m → IsGood ctx blocks (record st { memory = m })
  with_memory m is = record {
    frame = record { values = good.frame.values; long = good.frame.long; holds = λ k x h. slot_again m k x (good.frame.holds k x h) };
    memory = is;
  }

  -- ---- a store to an element
  module _ (key : Element) (a : ℕ) (at : IsElementAt ctx blocks key a) (s : Scalar) (w : ℤ) (leaf : IsLeaf (key_shape ctx.table key))
      (size : scalar_size s ≡ shape_size ctx.table.structs (key_shape ctx.table key)) where
    abbrev block : IsBlock ctx.table blocks st.memory at.block
    block = good.memory.each at.block at.granted

    abbrev here : IsWithin at.block a (shape_size ctx.table.structs (key_shape ctx.table key))
    here = open_within ctx.table types blocks st.memory at.block block (key_shape ctx.table key) a at.place

    stores : store st.memory s (pos a) w ≡ Ok (record st.memory { bytes = overwritten st.memory.bytes a (bytes_for s w) })
    stores =
        let below = below_block ctx.table types blocks st.memory at.block block a (shape_size ctx.table.structs (key_shape ctx.table key))
        here in
        store_is st.memory s a w (omega (arith, below)) (subst (λ (n : ℕ). IsTrue (is_inside st.memory a n)) (sym size)
        (inside_block ctx.table types blocks st.memory at.block block a (shape_size ctx.table.structs (key_shape ctx.table key)) here))

    element_next : HoldsAny blocks ctx.table.elems ctx.table.structs (key_shape ctx.table key)
        (place_value (overwritten st.memory.bytes a (bytes_for s w)) a (key_shape ctx.table key))
        → IsMemory ctx.table blocks (record st.memory { bytes = overwritten st.memory.bytes a (bytes_for s w) })
    element_next any =
        let o = at.place in
        let new : List ℕ = bytes_for s w in
        let long : length new ≡ scalar_size s = length-low_bytes (scalar_size s) (low_bits 32 w) in
        let same : block.shape ≡ o.element = some_same block.shape o.element (sym block.shape_is ∙ o.element_is) in
        let part = subst (λ (x : Shape). Lies ctx.table.structs is_open (element_from at.block o.place) x a (key_shape ctx.table key))
        (sym same) o.part in
        let lies = lies_in ctx.table.structs (element_from at.block o.place) block.shape a (key_shape ctx.table key) types.tidy.nested
        (any_part ctx.table.structs (element_from at.block o.place) block.shape a (key_shape ctx.table key) part) in
        let from = here.from in
        let to = here.to in
        let there = block.there in
        let low = lies.from in
        let high = lies.to in
        let bytes : elem_bytes ctx.table.elems ctx.table.structs at.block.layout.elem ≡ shape_size ctx.table.structs block.shape =
        ap (λ (o : Option Shape). unwrap_or (option_map (shape_size ctx.table.structs) o) 0) block.shape_is in
        let width = block.size in
        let l = o.within in
        let more : (o.place + 1) * at.block.layout.size ≤ at.block.layout.size * at.block.count = grind arith in
        let next : (o.place + 1) * at.block.layout.size ≡ o.place * at.block.layout.size + at.block.layout.size = grind arith in
        let inside : element_from at.block o.place + shape_size ctx.table.structs block.shape ≤ length st.memory.bytes = omega
        (arith, bytes, width, more, next, there) in
        let fits = open_keeps ctx.table types blocks st.memory.bytes new (element_from at.block o.place) block.shape inside
        (block.fit o.place at.no_text o.within) a (key_shape ctx.table key) part leaf
        (long ∙ size) any in
        let few = low_small (scalar_size s) (low_bits 32 w) in
        let to_in : a + length new ≤ block_end at.block = omega (arith, to, long, size) in
        memory_next ctx.table types blocks st.memory good.memory at.block at.granted a new few from to_in (record {
          fit = one_element ctx.table types blocks st.memory good.memory at.block at.granted a new few from to_in o.place o.within low
              (omega (arith, high, long, size)) fits;
          ends = λ text. absurd (true≢false (sym text ∙ at.no_text));
        })

    pub element_stored : HoldsAny blocks ctx.table.elems ctx.table.structs (key_shape ctx.table key)
        (place_value (overwritten st.memory.bytes a (bytes_for s w)) a (key_shape ctx.table key))
        → Safe (store st.memory s (pos a) w >>= remembers st) (λ x. IsGood ctx blocks x.state × (x.turn ≡ On))
    element_stored any = safe_same (remembers st (record st.memory { bytes = overwritten st.memory.bytes a (bytes_for s w) }))
        (store st.memory s (pos a) w >>= remembers st) (λ x. IsGood ctx blocks x.state × (x.turn ≡ On))
        (ap (λ (r : Outcome Memory). r >>= remembers st) stores)
        (with_memory (record st.memory { bytes = overwritten st.memory.bytes a (bytes_for s w) }) (element_next any), refl)

  -- ---- `l = e` where l is an element
  -- an integer
  int_shape : (s : Scalar) → key_shape ctx.table (element.Int s) ≡ shape.Int s
  unfolding elem_shape
  int_shape s = refl

  store_integer_sound : (p : Place) (x : Derived) (s : Scalar) → p.source ≡ source.Element (element.Int s)
      → Sound f st ctx.first (store_integer ctx p x s) (λ c. IsDerived f ctx blocks st x → IsDerived f ctx blocks st (derived.Place p)
      → Leaves f ctx blocks st good types slots c)
  unfolding store_integer act tests
  store_integer_sound p x s from =
      then_sound f st ctx.first _ _ (λ w. integer_of ctx x ≡ Some w) _ (lift_sound f st ctx.first (integer_of ctx x) _ (λ w e. e)) (λ w.
      pure_sound f st ctx.first (statement.Store ctx.line s p.form w.form []) _ (λ e dx dp.
      safe_same _ _ _ (ap (act [] f st) (statement.outs-Store ctx.line s p.form w.form []))
      (safe_bind (eval [] f st w.form) _ _ _ (integer_sound f ctx blocks st good types slots x w e dx).1 (λ v valued.
      safe_bind (eval [] f st p.form) _ _ _ dp (λ z place.
      let at : IsElementAt ctx blocks (element.Int s) place.address = here p s from z place in
      let shape_is = int_shape s in
      safe_same (store st.memory s z (converted s v) >>= remembers st) (taken s v >>= λ w. store st.memory s z w >>= remembers st)
      (λ a. IsGood ctx blocks a.state × (a.turn ≡ On))
      (ap (λ (g : Got). g >>= λ w. store st.memory s z w >>= remembers st) (taken_is s v at.type_is))
      (subst (λ (y : ℤ). Safe (store st.memory s y (converted s v) >>= remembers st) (λ a. IsGood ctx blocks a.state × (a.turn ≡ On)))
      (sym place.is)
      (element_stored (element.Int s) place.address at s (converted s v) (subst IsLeaf (sym shape_is) tt)
      (ap (shape_size ctx.table.structs) (sym shape_is))
      (any s (place_value (overwritten st.memory.bytes place.address (bytes_for s (converted s v))) place.address
      (key_shape ctx.table (element.Int s)))))))))))
    where
      here : (p : Place) (s : Scalar) → p.source ≡ source.Element (element.Int s) → (z : ℤ) (place : IsPlace ctx blocks st p z)
          → IsElementAt ctx blocks (element.Int s) place.address
      here p s e z place = subst (λ (x : Source). LiesAt ctx blocks st p.form x place.address) e place.lies

      any : (s : Scalar) (v : ℤ) → HoldsAny blocks ctx.table.elems ctx.table.structs (key_shape ctx.table (element.Int s)) v
      any s v = subst (λ (y : Shape). HoldsAny blocks ctx.table.elems ctx.table.structs y v) (sym (int_shape s)) tt

  -- a pointer that reaches so many elements
  counted_sound : (key : Element) (elem : ℕ) (count : ℤ) (h : Handed) → Sound f st ctx.first (coerce_counted ctx key count h)
      (λ ids. element_at ctx.table elem ≡ Some key → (v : ℤ) → IsHanded f ctx blocks st types h elem false v
      → Pass f st ids (Fits blocks ctx.table.elems ctx.table.structs elem false v (v +ℤ (count *ℤ pos (size_of ctx key))) v))
  unfolding coerce_counted coerce_within
  counted_sound key elem count h = if_sound f st ctx.first h.null _ _ _
      (λ e. pure_sound f st ctx.first [] _ (λ known v here. pass_none f st _ (null (here.none e))))
      (λ e. weaker f st ctx.first _ _ _ (λ ids q known v here.
      let size : ℕ = size_of ctx key in
      let high = has_with_part st h.at (Constant count (pos size)) v (count *ℤ pos size) here.at tt refl in
      safe_weaker (tests [] f st ids) _ _ (q v here.lo here.hi v (v +ℤ (count *ℤ pos size)) here.at here.low here.high here.at high)
      (λ u g x. narrow blocks ctx.table.elems ctx.table.structs elem size here.lo here.hi v (v +ℤ (count *ℤ pos size)) v
      (element_size ctx.table types elem key known) here.fits x))
      (coerce_sound f ctx st kind.Bound kind.Align h.at h.low h.high h.at (with_part h.at (Constant count (pos (size_of ctx key))))
      (size_of ctx key)))

  natural : (v : ℤ) → IsTrue (is_word v) → (n : ℕ) × (v ≡ pos n) × (n < 2 ^ 32)
  natural (pos n) h = (n, refl, grind arith)
  natural (negsuc n) h = absurd cc

  -- a pointer that is stored in a place of its type
  pointer_stored : (own : Element) (n : ℕ) (b : Bounds) (a : ℕ) (at : IsElementAt ctx blocks own a) → key_shape ctx.table own ≡
      shape.Pointer n b → (v : ℤ) → IsTrue (is_word v)
      → HoldsAny blocks ctx.table.elems ctx.table.structs (shape.Pointer n b) v → Safe (store st.memory (Pointer 0) (pos a) v >>= remembers
      st) (λ x. IsGood ctx blocks x.state × (x.turn ≡ On))
  pointer_stored own n b a at is v word any =
      let w = natural v word in
      let shape_is : shape.Pointer n b ≡ key_shape ctx.table own = sym is in
      let block' : IsBlock ctx.table blocks st.memory at.block = good.memory.each at.block at.granted in
      let here = open_within ctx.table types blocks st.memory at.block block' (key_shape ctx.table own) a at.place in
      let there = block'.there in
      let to = here.to in
      let four : shape_size ctx.table.structs (key_shape ctx.table own) ≡ 4 = ap (shape_size ctx.table.structs) is in
      let stored : place_value (overwritten st.memory.bytes a (bytes_for (Pointer 0) v)) a (shape.Pointer n b) ≡ v =
      ap (λ (y : ℤ). place_value (overwritten st.memory.bytes a (bytes_for (Pointer 0) y)) a (shape.Pointer n b)) w.1
      ∙ word_stored st.memory.bytes a w.0 n b (omega (arith, to, there, four)) w.2 ∙ sym w.1 in
      element_stored own a at (Pointer 0) v (subst IsLeaf shape_is tt) (sym four)
      (subst (λ (y : Shape). HoldsAny blocks ctx.table.elems ctx.table.structs y
      (place_value (overwritten st.memory.bytes a (bytes_for (Pointer 0) v)) a y)) shape_is
      (subst (λ (y : ℤ). HoldsAny blocks ctx.table.elems ctx.table.structs (shape.Pointer n b) y) (sym stored) any))

  size_here : (n : ℕ) (key : Element) → element_at ctx.table n ≡ Some key → unwrap_or (elem_size ctx.table.types.elements ctx.table.extents
      n) 0 ≡ size_of ctx key
  unfolding elem_size element_at
  size_here n key h = ap (λ (o : Option Element). unwrap_or (option_map (λ key. size_of ctx key) o) 0) h

  -- so many elements from the pointer on are what such bounds say, whatever names stand for
  counted_any : (n : ℕ) (count : ℤ) (key : Element) (v : ℤ) → element_at ctx.table n ≡ Some key
      → Fits blocks ctx.table.elems ctx.table.structs n false v (v +ℤ (count *ℤ pos (size_of ctx key))) v
      → HoldsAny blocks ctx.table.elems ctx.table.structs
      (shape.Pointer n (up_to (unwrap_or (elem_size ctx.table.types.elements ctx.table.extents n) 0) count)) v
  unfolding edge_value
  counted_any n count key v known fits sibling =
      let size : ℕ = unwrap_or (elem_size ctx.table.types.elements ctx.table.extents n) 0 in
      let low : v ≡ v +ℤ pos 0 = omega (arith, ints) in
      let high : v +ℤ (count *ℤ pos (size_of ctx key)) ≡ v +ℤ (count *ℤ pos size) = ap (λ (m : ℕ). v +ℤ (count *ℤ pos m))
      (sym (size_here n key known)) in
      subst (λ (l : ℤ). Fits blocks ctx.table.elems ctx.table.structs n false l (v +ℤ (count *ℤ pos size)) v) low
      (subst (λ (u : ℤ). Fits blocks ctx.table.elems ctx.table.structs n false v u v) high fits)

  store_counted_sound : (p : Place) (x : Derived) (own : Element) (n : ℕ) (count : ℤ) → p.source ≡ source.Element own
      → key_shape ctx.table own ≡ shape.Pointer n (up_to (unwrap_or (elem_size ctx.table.types.elements ctx.table.extents n) 0) count)
      → Sound f st ctx.first (store_counted ctx p x n count) (λ c. IsDerived f ctx blocks st x → IsDerived f ctx blocks st
      (derived.Place p) → Leaves f ctx blocks st good types slots c)
  unfolding store_counted act
  store_counted_sound p x own n count from is =
      then_sound f st ctx.first _ _ (λ key. element_at ctx.table n ≡ Some key) _ (lift_sound f st ctx.first (element_at ctx.table n) _
      (λ key e. e)) (λ key.
      then_sound f st ctx.first _ _ (λ h. handed ctx key false x ≡ Some h) _ (lift_sound f st ctx.first (handed ctx key false x) _
      (λ h e. e)) (λ h.
      then_sound f st ctx.first _ _ _ _ (counted_sound key n count h) (λ ids. pure_sound f st ctx.first (statement.Store ctx.line
      (Pointer 0) p.form h.form ids) _ (λ passes e known dx dp.
      safe_same _ _ _ (ap (act [] f st) (statement.outs-Store ctx.line (Pointer 0) p.form h.form ids))
      (safe_bind (eval [] f st h.form) _ _ _ (handed_sound f ctx blocks st good types slots key n false x h known e dx) (λ v here.
      safe_bind (eval [] f st p.form) _ _ _ dp (λ z place.
      safe_bind (tests [] f st ids) _ _ _ (passes known v here) (λ u fits.
      let at : IsElementAt ctx blocks own place.address = subst (λ (x : Source). LiesAt ctx blocks st p.form x place.address) from
      place.lies in
      safe_same (store st.memory (Pointer 0) z v >>= remembers st) (taken (Pointer 0) v >>= λ w. store st.memory (Pointer 0) z w >>=
      remembers st) (λ a. IsGood ctx blocks a.state × (a.turn ≡ On))
      (ap (λ (g : Got). g >>= λ w. store st.memory (Pointer 0) z w >>= remembers st) (word_taken v here.word))
      (subst (λ (y : ℤ). Safe (store st.memory (Pointer 0) y v >>= remembers st) (λ a. IsGood ctx blocks a.state × (a.turn ≡ On)))
      (sym place.is)
      (pointer_stored own n (up_to (unwrap_or (elem_size ctx.table.types.elements ctx.table.extents n) 0) count) place.address at is v
      here.word (counted_any n count key v known fits)))))))))))

  text_bounds : (elem : ℕ) (lo hi v : ℤ) → Fits blocks ctx.table.elems ctx.table.structs elem true lo hi v → Fits blocks ctx.table.elems
      ctx.table.structs elem true (pos 0) (pos 0) v
  text_bounds elem lo hi v (null e) = null e
  text_bounds elem lo hi v (in_text n t) = in_text n t
  text_bounds elem lo hi v (in_bounds n t) = absurd cc

  text_shape : (n : ℕ) → key_shape ctx.table (element.Nullterm n) ≡ shape.Pointer n bounds.Nullterm
  unfolding elem_shape
  text_shape n = refl

  -- a pointer to text
  store_text_sound : (p : Place) (x : Derived) (n : ℕ) → p.source ≡ source.Element (element.Nullterm n)
      → Sound f st ctx.first (store_text ctx p x n) (λ c. IsDerived f ctx blocks st x → IsDerived f ctx blocks st (derived.Place p)
      → Leaves f ctx blocks st good types slots c)
  unfolding store_text act tests
  store_text_sound p x n from =
      then_sound f st ctx.first _ _ (λ key. element_at ctx.table n ≡ Some key) _ (lift_sound f st ctx.first (element_at ctx.table n) _
      (λ key e. e)) (λ key.
      then_sound f st ctx.first _ _ (λ h. handed ctx key true x ≡ Some h) _ (lift_sound f st ctx.first (handed ctx key true x) _
      (λ h e. e)) (λ h.
      pure_sound f st ctx.first (statement.Store ctx.line (Pointer 0) p.form h.form []) _ (λ e known dx dp.
      safe_same _ _ _ (ap (act [] f st) (statement.outs-Store ctx.line (Pointer 0) p.form h.form []))
      (safe_bind (eval [] f st h.form) _ _ _ (handed_sound f ctx blocks st good types slots key n true x h known e dx) (λ v here.
      safe_bind (eval [] f st p.form) _ _ _ dp (λ z place.
      let at : IsElementAt ctx blocks (element.Nullterm n) place.address = subst (λ (x : Source). LiesAt ctx blocks st p.form x
      place.address) from place.lies in
      safe_same (store st.memory (Pointer 0) z v >>= remembers st) (taken (Pointer 0) v >>= λ w. store st.memory (Pointer 0) z w >>=
      remembers st) (λ a. IsGood ctx blocks a.state × (a.turn ≡ On))
      (ap (λ (g : Got). g >>= λ w. store st.memory (Pointer 0) z w >>= remembers st) (word_taken v here.word))
      (subst (λ (y : ℤ). Safe (store st.memory (Pointer 0) y v >>= remembers st) (λ a. IsGood ctx blocks a.state × (a.turn ≡ On)))
      (sym place.is)
      (pointer_stored (element.Nullterm n) n bounds.Nullterm place.address at (text_shape n) v here.word (λ sibling. text_bounds n here.lo
      here.hi v here.fits)))))))))

  count_shape : (n : ℕ) (k : ℤ) → key_shape ctx.table (element.Count n k) ≡ shape.Pointer n
      (up_to (unwrap_or (elem_size ctx.table.types.elements ctx.table.extents n) 0) k)
  unfolding elem_shape
  count_shape n k = refl

  sentinel_shape : (n : ℕ) → key_shape ctx.table (element.Sentinel n) ≡ shape.Pointer n
      (up_to (unwrap_or (elem_size ctx.table.types.elements ctx.table.extents n) 0) (pos 0))
  unfolding elem_shape
  sentinel_shape n = ap (λ (m : ℕ). shape.Pointer n (bounds.Within own_edge (with_bytes own_edge (pos m))))
      (none (unwrap_or (elem_size ctx.table.types.elements ctx.table.extents n) 0))
    where
      none : (size : ℕ) → 0 ≡ 0 * size
      none size = omega arith

  pub store_element_sound : (p : Place) (x : Derived) (key : Element) → p.source ≡ source.Element key
      → Sound f st ctx.first (store_element ctx p x key) (λ c. IsDerived f ctx blocks st x → IsDerived f ctx blocks st (derived.Place p)
      → Leaves f ctx blocks st good types slots c)
  unfolding store_element
  store_element_sound p x (element.Int s) from = store_integer_sound p x s from
  store_element_sound p x (element.Struct k) from = none_sound f st ctx.first _
  store_element_sound p x (element.Sentinel n) from = store_counted_sound p x (element.Sentinel n) n (pos 0) from (sentinel_shape n)
  store_element_sound p x (element.Nullterm n) from = store_text_sound p x n from
  store_element_sound p x (element.Count n k) from = store_counted_sound p x (element.Count n k) n k from (count_shape n k)

  -- ---- a byte of text
  single_value : (p : Part) (z : ℤ) → HasValue st (sum_of p) z → PartHasValue st p × (part_at st p ≡ z)
  unfolding parts_at
  single_value p z h = (h.read.0, plus (part_at st p) ∙ h.is)
    where
      plus : (y : ℤ) → y ≡ y +ℤ pos 0
      plus y = omega (arith, ints)

  module _ (a : ℕ) (t : IsInText blocks (pos a)) (w : ℤ) (stays : (clear_at st (pos a) 1 ≡ false) ⊎ (w ≡ pos 0)) where
    abbrev text : IsBlock ctx.table blocks st.memory t.block
    text = good.memory.each t.block t.granted

    same_at : a ≡ t.at
    same_at = pos_same a t.at t.is
      where
        pos_same : (m n : ℕ) → pos m ≡ pos n → m ≡ n
        pos_same m n h = cc

    byte_long : length (bytes_for U8 w) ≡ 1
    byte_long = length-low_bytes 1 (low_bits 32 w)

    ends : t.block.layout.nullterm ≡ true → slice_index_or (overwritten st.memory.bytes a (bytes_for U8 w)) (block_end t.block - 1) 0 ≡ 0
    ends is = by (a == block_end t.block - 1) refl
      where
        below : t.at < block_end t.block
        below = t.below

        there : block_end t.block ≤ length st.memory.bytes
        there = text.there

        last : (w ≡ pos 0) → (a ≡ block_end t.block - 1) → slice_index_or (overwritten st.memory.bytes a (bytes_for U8 w))
            (block_end t.block - 1) 0 ≡ 0
        last z e =
            let inside : a + 1 ≤ length st.memory.bytes = omega (arith, same_at, below, there) in
            let long = length-overwritten st.memory.bytes (bytes_for U8 w) a (omega (arith, byte_long, inside)) in
            let stored = load_after_store st.memory.bytes a 1 (low_bits 32 w) inside in
            let zero' : low_bits 32 w % 256 ^ 1 ≡ 0 = ap (λ (y : ℤ). low_bits 32 y % 256 ^ 1) z in
            subst (λ (n : ℕ). slice_index_or (overwritten st.memory.bytes a (bytes_for U8 w)) n 0 ≡ 0) e
            (sym (load_1 (overwritten st.memory.bytes a (bytes_for U8 w)) a (omega (arith, inside, long))) ∙ stored ∙ zero')

        by : (x : Bool) → (a == block_end t.block - 1) ≡ x → slice_index_or (overwritten st.memory.bytes a (bytes_for U8 w))
            (block_end t.block - 1) 0 ≡ 0
        by true e = either stays
          where
            at_end : a ≡ block_end t.block - 1
            at_end = (Decides-eqb a (block_end t.block - 1)).0 e

            either : (clear_at st (pos a) 1 ≡ false) ⊎ (w ≡ pos 0) → slice_index_or (overwritten st.memory.bytes a (bytes_for U8 w))
                (block_end t.block - 1) 0 ≡ 0
            either (inr z) = last z at_end
            either (inl some) =
                let zero' : slice_index_or st.memory.bytes a 0 ≡ 0 = subst (λ (n : ℕ). slice_index_or st.memory.bytes n 0 ≡ 0) (sym at_end)
                (text.ends is) in
                absurd (true≢false (sym (one_clear st.memory.bytes a zero') ∙ some))
        by false e =
            let other : a ≢ block_end t.block - 1 = λ g. true≢false (sym ((Decides-eqb a (block_end t.block - 1)).1 g) ∙ e) in
            other_byte st.memory.bytes (bytes_for U8 w) a (block_end t.block - 1) (omega (arith, byte_long, same_at, below, there))
            (omega (arith, below, there))
            (inr (before other)) ∙ text.ends is
          where
            before : a ≢ block_end t.block - 1 → a + length (bytes_for U8 w) ≤ block_end t.block - 1
            before n = omega (arith, byte_long, same_at, below, n)

    byte_stored : Safe (store st.memory U8 (pos a) w >>= remembers st) (λ x. IsGood ctx blocks x.state × (x.turn ≡ On))
    byte_stored =
        let inside = text_inside f ctx blocks st good types (pos a) t in
        let from = t.from in
        let below = t.below in
        let few = low_small 1 (low_bits 32 w) in
        let m : Memory = record st.memory { bytes = overwritten st.memory.bytes a (bytes_for U8 w) } in
        safe_same (remembers st m) (store st.memory U8 (pos a) w >>= remembers st) (λ x. IsGood ctx blocks x.state × (x.turn ≡ On))
        (ap (λ (r : Outcome Memory). r >>= remembers st) (store_is st.memory U8 a w inside.small inside.inside)) (
          with_memory m (memory_next ctx.table types blocks st.memory good.memory t.block t.granted a (bytes_for U8 w) few
              (omega (arith, same_at, from)) (omega (arith, byte_long, same_at, below))
              (record { fit = λ i plain l. absurd (true≢false (sym t.text ∙ plain)); ends = ends })),
          refl,
        )

  pub store_byte_sound : (p : Place) (w : Whole) → p.source ≡ source.Text
      → Sound f st ctx.first (store_byte ctx p w) (λ c. IsValue f ctx blocks st (value.Int w) → IsDerived f ctx blocks st (derived.Place p)
      → Leaves f ctx blocks st good types slots c)
  unfolding store_byte act
  store_byte_sound p w from =
      then_sound f st ctx.first _ _ _ _ (term_sound f ctx st p.at (converted_side U8 w)) (λ id. pure_sound f st ctx.first
      (statement.Store ctx.line U8 p.form w.form (id ∷ [])) _ (λ passes dw dp.
      safe_same _ _ _ (ap (act [] f st) (statement.outs-Store ctx.line U8 p.form w.form (id ∷ [])))
      (safe_step (eval [] f st w.form) _ _ _ dw.1 (λ v seen whole.
      safe_bind (eval [] f st p.form) _ _ _ dp (λ z place.
      let t : IsInText blocks (pos place.address) = subst (λ (x : Source). LiesAt ctx blocks st p.form x place.address) from place.lies in
      let side = single_value (converted_side U8 w) (converted U8 v) (converted_has f st U8 w v (λ e. absurd cc) seen whole) in
      safe_bind (tests [] f st (id ∷ [])) _ _ _
      (passes z (converted U8 v) place.at side.0 side.1 (subst (λ (y : ℤ). IsInside st y 1) (sym place.is) (text_inside f ctx blocks st
      good types (pos place.address) t))) (λ u stays.
      safe_same (store st.memory U8 z (converted U8 v) >>= remembers st) (taken U8 v >>= λ w. store st.memory U8 z w >>= remembers st)
      (λ a. IsGood ctx blocks a.state × (a.turn ≡ On))
      (ap (λ (g : Got). g >>= λ w. store st.memory U8 z w >>= remembers st) (taken_is U8 v tt))
      (subst (λ (y : ℤ). Safe (store st.memory U8 y (converted U8 v) >>= remembers st) (λ a. IsGood ctx blocks a.state × (a.turn ≡ On)))
      (sym place.is)
      (byte_stored place.address t (converted U8 v) (subst (λ (y : ℤ). (clear_at st y 1 ≡ false) ⊎ (converted U8 v ≡ pos 0)) place.is
      stays)))))))))
