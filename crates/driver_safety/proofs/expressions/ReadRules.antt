-- Reading: the value of a local, of a place and of an array.
use Rattle.std.proofs.Common.{◌≡◌, ◌≢◌, ℕ, zero, suc, ◌+◌, ◌*◌, ◌^◌, ◌<◌, ◌≤◌, nat_lt, IsTrue, Bool, true, false, List, [], ◌∷◌}
use Rattle.std.proofs.Common.{All, ℤ, pos, ◌+ℤ◌, ◌*ℤ◌, Option, Some, None, option_map, unwrap_or, Ok, slice_get, refl, sym, ap, ◌∙◌, subst}
use Rattle.std.proofs.Common.{arith}
use Rattle.std.proofs.lemmas.Bool.{lt-ltb}
use Rattle.std.proofs.lemmas.Int.{ints}
use Rattle.std.proofs.lemmas.Nat.{mul-le}
use Rattle.std.proofs.lemmas.List.Elements.{All-nil, All-cons, All-head, All-tail}
use Rattle.sd_base.specs.Blocks.{Block}
use Rattle.byte_memory.specs.Bytes.{little_endian, bytes_at}
use Rattle.byte_memory.specs.Tested.{is_inside}
use Rattle.c_tree.specs.Slots.{hidden_slot}
use Rattle.checked_tree.specs.declared.expressions.CheckedExpr.{CheckedExpr}
use Rattle.checked_tree.specs.declared.expressions.CheckedExpr.TheVariants as form
use Rattle.checked_tree.specs.declared.shapes.Bounds.{Bounds}
use Rattle.checked_tree.specs.declared.shapes.Bounds.TheVariants as bounds
use Rattle.checked_tree.specs.declared.shapes.Edge.{Edge}
use Rattle.checked_tree.specs.declared.shapes.Member.{Member}
use Rattle.checked_tree.specs.declared.shapes.Scalar.{Scalar}
use Rattle.checked_tree.specs.declared.shapes.Scalar.TheVariants.{Void, U8, Pointer}
use Rattle.checked_tree.specs.declared.shapes.Shape.{Shape}
use Rattle.checked_tree.specs.declared.shapes.Shape.TheVariants as shape
use Rattle.checked_tree.specs.declared.shapes.StructShape.{StructShape}
use Rattle.checked_tree.specs.declared.sums.Part.TheVariants.{Constant}
use Rattle.checked_tree.specs.declared.sums.Sum.{Sum}
use Rattle.checked_tree.specs.declared.units.CheckedFn.{CheckedFn}
use Rattle.checked_tree.specs.Conditions.{State}
use Rattle.checked_tree.specs.Edges.{edge_value}
use Rattle.checked_tree.specs.Eval.{eval}
use Rattle.checked_tree.specs.Memory.{load, value_from}
use Rattle.checked_tree.specs.Numbers.{is_of, is_word, scalar_size, converted}
use Rattle.checked_tree.specs.Outcome.{Safe}
use Rattle.checked_tree.proofs.Conversions.{converted_same}
use Rattle.checked_tree.proofs.NumberRanges.{of_value, converted_of, word_value}
use Rattle.checked_tree.proofs.Outcomes.{safe_bind}
use Rattle.checked_tree.proofs.Peeking.{eval_peek}
use Rattle.deputy_types.specs.declared.element.Element.{Element}
use Rattle.deputy_types.specs.declared.element.Element.TheVariants as element
use Rattle.deputy_types.specs.Declarations.{own as own_edge, up_to, with_bytes}
use Rattle.deputy_types.specs.Fitting.{FitsBounds, HoldsFitting, IsInText, member_value, shape_size}
use Rattle.deputy_types.specs.Table.{Table, element_at, elem_size, member as table_member}
use Rattle.deputy_types.specs.UnitLayout.{elem_shape}
use Rattle.deputy_types.proofs.Inversions.{some_then, some_map}
use Rattle.deputy_rules.specs.declared.derived.ArrayPlace.{ArrayPlace}
use Rattle.deputy_rules.specs.declared.derived.Derived.{Derived}
use Rattle.deputy_rules.specs.declared.derived.Derived.TheVariants as derived
use Rattle.deputy_rules.specs.declared.derived.Pointed.{Pointed}
use Rattle.deputy_rules.specs.declared.derived.Source.{Source}
use Rattle.deputy_rules.specs.declared.derived.Source.TheVariants as source
use Rattle.deputy_rules.specs.declared.derived.Value.{Value}
use Rattle.deputy_rules.specs.declared.derived.Written.TheVariants as written
use Rattle.deputy_rules.specs.Context.{Context, slot_shape}
use Rattle.deputy_rules.specs.NameValues.{local_at, IsNumber, IsNamed, IsNamedBase, AreNamed, IsStructPlace}
use Rattle.deputy_rules.specs.Sums.{atom, side, with_part}
use Rattle.deputy_rules.specs.SumValues.{HasValue}
use Rattle.deputy_rules.specs.Values.{address, integer, bounded_pointer, hidden_pointer, local_pointer, low_sum, high_sum}
use Rattle.deputy_rules.specs.Values.{edge_sum, slot_sum, local_value, slot_value, source_value, element_value, counted_pointer}
use Rattle.deputy_rules.specs.Values.{text_pointer, member_value as value_of_member, array_value, value_of, of_struct, of_slots, container}
use Rattle.deputy_rules.specs.Values.{loaded_as, size_of}
use Rattle.deputy_rules.proofs.NamesHave.{slot_edge, member_edge, load_is, word_below}
use Rattle.deputy_rules.proofs.SumsHave.{has_atom, has_bare, has_with_part, atom_is, atom_reads}
use Rattle.driver_safety.specs.Derivations.{IsWhole, IsPointer, IsArray, IsElementAt, IsStructAt, IsMemberAt, LiesAt, IsValue}
use Rattle.driver_safety.specs.Derivations.{IsDerived}
use Rattle.driver_safety.specs.Goodness.{IsGood, IsBlock, SlotHolds, FitsHidden}
use Rattle.driver_safety.specs.Reaching.{IsOpenAt, Reaches, between}
use Rattle.driver_safety.specs.TypeFacts.{HasTypes, HasSlots, IsInteger, IsType, IsTextPointer, IsSlotShape, IsDeclared}
use Rattle.driver_safety.specs.TypeFacts.{IsAnnotated, IsMemberOf, IsSibling, NamesSiblings, ShapeNamesSiblings, IsBaseOf, key_shape}
use Rattle.driver_safety.proofs.checks.Evaluations.{safe_same, safe_weaker, eval-Local, eval-Load, eval-AddressOf}
use Rattle.driver_safety.proofs.expressions.FitsAndReaches.{reaches, other_bounds}
use Rattle.driver_safety.proofs.memory.Lying.{IsWithin, open_within, inside_block, below_block, open_fits, member_within, member_fits}

some_same : {A : Type 0} (a b : A) → ◌≡◌ {A = Option A} (Some a) (Some b) → a ≡ b
some_same a b h = cc

pub no_void : (s : Scalar) → IsInteger s → s ≢ Void
no_void s i e = subst IsInteger e i

-- the pointer that an expression is, with these bounds
abbrev pub pointed_as : CheckedExpr → Element → Bool → Sum → Sum → Pointed
pointed_as e key nullterm low high = record { form = e; elem = key; nullterm = nullterm; sure = false; at = atom e; low = low; high = high }

-- a word that is loaded
pub loaded_word : (size n : ℕ) → n < 2 ^ 32 → converted (Pointer size) (pos n) ≡ pos n
unfolding is_of
loaded_word size n l = converted_same (Pointer size) (pos n) (lt-ltb n (2 ^ 32) l)

-- a member that is looked up by its number
pub member_found : (t : Table) (s m : ℕ) (x : Member) → table_member t s m ≡ Some x
    → (u : StructShape) × (slice_get t.structs s ≡ Some u) × (slice_get u.members m ≡ Some x)
member_found t s m x h = by (slice_get t.structs s) refl h
  where
    by : (o : Option StructShape) → slice_get t.structs s ≡ o → slice_get (unwrap_or (option_map (λ (x : StructShape). x.members) o) []) m
        ≡ Some x
        → (u : StructShape) × (slice_get t.structs s ≡ Some u) × (slice_get u.members m ≡ Some x)
    by None e h = absurd cc
    by (Some u) e h = (u, e, h)

module _ (f : CheckedFn) (ctx : Context) (blocks : List Block) (st : State) where
  -- any evaluated integer expression that is no constant
  pub integer_is : (e : CheckedExpr) (s : Scalar) (z : ℤ) → eval [] f st e ≡ Ok z → IsTrue (is_of s z) → IsValue f ctx blocks st
      (integer e s)
  unfolding side
  integer_is e s z h range =
      let seen = eval_peek [] f st e z h in
      (tt, safe_same _ _ _ h (record { range = range; read = atom_reads st e z seen (of_value s z range); is = atom_is st e z seen }))

  -- whatever evaluates to a number in the range of its type
  pub integer_safe : (e : CheckedExpr) (s : Scalar) → Safe (eval [] f st e) (λ z. IsTrue (is_of s z)) → IsValue f ctx blocks st
      (integer e s)
  unfolding side
  integer_safe e s h = (
    tt,
    safe_weaker (eval [] f st e) (λ z. IsTrue (is_of s z)) (IsWhole st (record { form = e; scalar = s; written = written.Other })) h
        (λ z is range. let seen = eval_peek [] f st e z is in record {
          range = range;
          read = atom_reads st e z seen (of_value s z range);
          is = atom_is st e z seen;
        }),
  )

  -- an evaluated pointer expression
  pub pointer_has : (e : CheckedExpr) (key : Element) (nullterm : Bool) (low high : Sum) (v lo hi : ℤ) → eval [] f st e ≡ Ok v
      → IsTrue (is_word v) → IsType ctx.table key
      → (nullterm ≡ true → key ≡ element.Int U8) → (nullterm ≡ true → (lo ≡ v) × (hi ≡ v)) → HasValue st low lo → HasValue st high hi
      → Reaches blocks ctx.table.elems ctx.table.structs (key_shape ctx.table key) nullterm lo hi v → IsPointer ctx blocks st
      (pointed_as e key nullterm low high) v
  pointer_has e key nullterm low high v lo hi h word type text ends l u fits = record {
    type_is = type;
    text = text;
    word = word;
    at = has_atom st e v (eval_peek [] f st e v h) (word_value v word);
    lo = lo;
    low = l;
    hi = hi;
    high = u;
    fits = fits;
    sure = λ e. absurd cc;
    ends = ends;
  }

  module _ (good : IsGood ctx blocks st) (types : HasTypes ctx.table) where
    -- ---- locals
    pub slot_has : (k : ℕ) → HasValue st (slot_sum k) (local_at st k)
    slot_has k = has_bare st (form.Local k) (local_at st k) (eval_peek [] f st (form.Local k) (local_at st k) (eval-Local f st k))
        (good.frame.values k)

    own : (slot : ℕ) → HasValue st (atom (form.Local slot)) (local_at st slot)
    own slot = has_atom st (form.Local slot) (local_at st slot) (eval_peek [] f st (form.Local slot) (local_at st slot)
        (eval-Local f st slot)) (good.frame.values slot)

    local_pointer_is : (slot elem : ℕ) (b : Bounds) (v : Value) → SlotHolds ctx blocks st slot (shape.Pointer elem b)
        → IsTextPointer ctx.table elem b
        → local_pointer ctx slot elem b ≡ Some v → IsValue f ctx blocks st v
    unfolding bounded_pointer hidden_pointer low_sum high_sum
    local_pointer_is slot elem (bounds.Within lo hi) v holds text h =
        let r = some_map (element_at ctx.table elem) _ v h in
        let known = types.elements elem r.0 r.1 in
        let x : ℤ = local_at st slot in
        subst (IsValue f ctx blocks st) r.2 (safe_same _ _ _ (eval-Local f st slot)
        (pointer_has (form.Local slot) r.0 false (edge_sum ctx of_slots (atom (form.Local slot)) lo)
        (edge_sum ctx of_slots (atom (form.Local slot)) hi) x
        (edge_value (local_at st) x lo) (edge_value (local_at st) x hi) (eval-Local f st slot) holds.0 known.1 (λ e. absurd cc)
        (λ e. absurd cc)
        (slot_edge st good.frame.values ctx (atom (form.Local slot)) x lo (own slot)) (slot_edge st good.frame.values ctx
        (atom (form.Local slot)) x hi (own slot))
        (reaches blocks ctx.table.elems ctx.table.structs elem (key_shape ctx.table r.0) known.0 false (edge_value (local_at st) x lo)
        (edge_value (local_at st) x hi) x holds.1)))
    local_pointer_is slot elem bounds.Hidden v holds text h =
        let o = some_then (hidden_slot ctx.locals slot) _ v h in
        let r = some_map (element_at ctx.table elem) _ v o.2 in
        let known = types.elements elem r.0 r.1 in
        let x : ℤ = local_at st slot in
        let fits = subst (FitsHidden ctx blocks st slot elem) o.1 holds.1 in
        subst (IsValue f ctx blocks st) r.2 (safe_same _ _ _ (eval-Local f st slot)
        (pointer_has (form.Local slot) r.0 false (slot_sum o.0) (slot_sum (o.0 + 1)) x (local_at st o.0) (local_at st (o.0 + 1))
        (eval-Local f st slot) holds.0 known.1 (λ e. absurd cc) (λ e. absurd cc)
        (slot_has o.0) (slot_has (o.0 + 1))
        (reaches blocks ctx.table.elems ctx.table.structs elem (key_shape ctx.table r.0) known.0 false (local_at st o.0)
        (local_at st (o.0 + 1)) x fits)))
    local_pointer_is slot elem bounds.Nullterm v holds text h =
        let r = some_map (element_at ctx.table elem) _ v h in
        let known = types.elements elem r.0 r.1 in
        let x : ℤ = local_at st slot in
        subst (IsValue f ctx blocks st) r.2 (safe_same _ _ _ (eval-Local f st slot)
        (pointer_has (form.Local slot) r.0 true (atom (form.Local slot)) (atom (form.Local slot)) x x x (eval-Local f st slot) holds.0
        known.1 (λ e. text r.0 r.1) (λ e. (refl, refl)) (own slot) (own slot)
        (other_bounds blocks ctx.table.elems ctx.table.structs (key_shape ctx.table r.0) (pos 0) (pos 0) x x x
        (reaches blocks ctx.table.elems ctx.table.structs elem (key_shape ctx.table r.0) known.0 true (pos 0) (pos 0) x holds.1))))

    slot_is : (slot : ℕ) (x : Shape) (v : Value) → IsSlotShape ctx.table x → SlotHolds ctx blocks st slot x → slot_value ctx slot x ≡ Some
        v → IsValue f ctx blocks st v
    slot_is slot (shape.Int s) v known holds h = subst (IsValue f ctx blocks st) (some_same _ _ h) (integer_is (form.Local slot) s
        (local_at st slot) (eval-Local f st slot) holds)
    slot_is slot (shape.Pointer elem b) v known holds h = local_pointer_is slot elem b v holds known h
    slot_is slot (shape.Struct k) v known holds h = absurd cc
    slot_is slot shape.Address v known holds h = absurd cc

    pub local_sound : HasSlots ctx → (slot : ℕ) (v : Value) → local_value ctx slot ≡ Some v → IsValue f ctx blocks st v
    unfolding local_value
    local_sound slots slot v h =
        let r = some_then (slot_shape ctx slot) (λ x. slot_value ctx slot x) v h in
        slot_is slot r.0 v (slots.shapes slot r.0 r.1) (good.frame.holds slot r.0 r.1) r.2

    -- ---- places
    -- what lies in a granted block is loaded
    pub loaded : (b : Block) → IsBlock ctx.table blocks st.memory b → (s : Scalar) (a : ℕ) → IsWithin b a (scalar_size s)
        → load st.memory s (pos a) ≡ Ok (value_from s (bytes_at st.memory.bytes a (scalar_size s)))
    loaded b is s a w =
        let below = below_block ctx.table types blocks st.memory b is a (scalar_size s) w in
        load_is st.memory s a (omega (arith, below)) (inside_block ctx.table types blocks st.memory b is a (scalar_size s) w)

    -- a word that lies in a granted block
    word_loaded : (b : Block) → IsBlock ctx.table blocks st.memory b → (a : ℕ) → IsWithin b a 4 → load st.memory address (pos a) ≡ Ok
        (pos (little_endian (bytes_at st.memory.bytes a 4)))
    word_loaded b is a w = loaded b is address a w ∙ ap (λ (z : ℤ). Ok z) (loaded_word 0 (little_endian (bytes_at st.memory.bytes a 4))
        (word_below st.memory.bytes a good.memory.bytes))

    word_is : (a : ℕ) → IsTrue (is_word (pos (little_endian (bytes_at st.memory.bytes a 4))))
    word_is a = lt-ltb (little_endian (bytes_at st.memory.bytes a 4)) (2 ^ 32) (word_below st.memory.bytes a good.memory.bytes)

    -- an integer of this type is loaded
    integer_loaded : (e : CheckedExpr) (s : Scalar) (P : ℤ → Type 0) → Safe (eval [] f st e) P
        → ((z : ℤ) → P z → (n : ℕ) × (load st.memory s z ≡ Ok (converted s (pos n))) × (s ≢ Void)) → IsValue f ctx blocks st
        (integer (form.Load s e) s)
    integer_loaded e s P d l = integer_safe (form.Load s e) s (safe_same _ _ _ (eval-Load f st s e)
        (safe_bind (eval [] f st e) _ _ _ d (λ z is. let r = l z is in safe_same _ _ _ r.1 (converted_of s (pos r.0) r.2))))

    -- what is loaded from a place, where a fact holds of every word that may lie there
    pointer_loaded : (e : CheckedExpr) (P R : ℤ → Type 0) (Q : ℤ → Type 0) → Safe (eval [] f st e) P
        → ((z : ℤ) → P z → (v : ℤ) × (load st.memory address z ≡ Ok v) × R v) → ((v : ℤ) → eval [] f st (form.Load address e) ≡ Ok v → R v
        → Q v)
        → Safe (eval [] f st (form.Load address e)) Q
    pointer_loaded e P R Q d l q = safe_weaker (eval [] f st (form.Load address e)) R Q
        (safe_same _ _ _ (eval-Load f st address e) (safe_bind (eval [] f st e) _ _ _ d (λ z is. let r = l z is in safe_same _ _ _ r.1
        r.2))) q

    -- ---- an element
    module _ (place : CheckedExpr) where
      int_shape : (s : Scalar) → key_shape ctx.table (element.Int s) ≡ shape.Int s
      unfolding elem_shape
      int_shape s = refl

      text_shape : (n : ℕ) → key_shape ctx.table (element.Nullterm n) ≡ shape.Pointer n bounds.Nullterm
      unfolding elem_shape
      text_shape n = refl

      -- a pointer that reaches so many elements
      record IsCounted (n : ℕ) (k : ℤ) (key : Element) : Type 0 where
        shape_is : key_shape ctx.table key ≡ shape.Pointer n (up_to (unwrap_or (elem_size ctx.table.types.elements ctx.table.extents n) 0)
            k)

      counted_shape : (n : ℕ) (k : ℤ) → IsCounted n k (element.Count n k)
      unfolding elem_shape
      counted_shape n k = record { shape_is = refl }

      sentinel_shape : (n : ℕ) → IsCounted n (pos 0) (element.Sentinel n)
      unfolding elem_shape
      sentinel_shape n = record {
        shape_is = ap (λ (m : ℕ). shape.Pointer n (bounds.Within own_edge (with_bytes own_edge (pos m))))
            (none (unwrap_or (elem_size ctx.table.types.elements ctx.table.extents n) 0));
      }
        where
          none : (size : ℕ) → 0 ≡ 0 * size
          none size = omega arith

      abbrev IsHere : Element → ℤ → Type 0
      IsHere key z = (a : ℕ) × (z ≡ pos a) × IsElementAt ctx blocks key a

      size_here : (n : ℕ) (key : Element) → element_at ctx.table n ≡ Some key → unwrap_or (elem_size ctx.table.types.elements
          ctx.table.extents n) 0 ≡ size_of ctx key
      unfolding elem_size element_at
      size_here n key h = ap (λ (o : Option Element). unwrap_or (option_map (λ key. size_of ctx key) o) 0) h

      abbrev Counts : Element → ℤ → ℤ → Type 0
      Counts key k v = IsTrue (is_word v) × Reaches blocks ctx.table.elems ctx.table.structs (key_shape ctx.table key) false v
          (v +ℤ (k *ℤ pos (size_of ctx key))) v

      -- at an open place of such a pointer
      counts : (own key : Element) (n : ℕ) (k z : ℤ) → IsCounted n k own → element_at ctx.table n ≡ Some key → IsHere own z
          → (v : ℤ) × (load st.memory address z ≡ Ok v) × Counts key k v
      unfolding edge_value
      counts own key n k z is h here =
          let at : IsElementAt ctx blocks own here.0 = here.2 in
          let block : IsBlock ctx.table blocks st.memory at.block = good.memory.each at.block at.granted in
          let size : ℕ = unwrap_or (elem_size ctx.table.types.elements ctx.table.extents n) 0 in
          let opened = subst (λ (x : Shape). IsOpenAt ctx.table.elems ctx.table.structs at.block x here.0) is.shape_is at.place in
          let within = open_within ctx.table types blocks st.memory at.block block (shape.Pointer n (up_to size k)) here.0 opened in
          let fits = open_fits ctx.table types blocks st.memory at.block block n (up_to size k) here.0 at.no_text opened in
          let v : ℤ = pos (little_endian (bytes_at st.memory.bytes here.0 4)) in
          let known = types.elements n key h in
          let low : v +ℤ pos 0 ≡ v = omega (arith, ints) in
          let high : v +ℤ (k *ℤ pos size) ≡ v +ℤ (k *ℤ pos (size_of ctx key)) = ap (λ (m : ℕ). v +ℤ (k *ℤ pos m)) (size_here n key h) in (
            v,
            ap (load st.memory address) here.1 ∙ word_loaded at.block block here.0 within,
            (
              word_is here.0,
              subst (λ (l : ℤ). Reaches blocks ctx.table.elems ctx.table.structs (key_shape ctx.table key) false l
                  (v +ℤ (k *ℤ pos (size_of ctx key))) v) low
                  (subst (λ (u : ℤ). Reaches blocks ctx.table.elems ctx.table.structs (key_shape ctx.table key) false (v +ℤ pos 0) u v) high
                  (reaches blocks ctx.table.elems ctx.table.structs n (key_shape ctx.table key) known.0 false (v +ℤ pos 0)
                  (v +ℤ (k *ℤ pos size)) v fits.1)),
            ),
          )

      counted_is : (own : Element) (n : ℕ) (k : ℤ) (v : Value) → IsCounted n k own → Safe (eval [] f st place) (IsHere own)
          → counted_pointer ctx (form.Load address place) n k ≡ Some v
          → IsValue f ctx blocks st v
      unfolding counted_pointer
      counted_is own n k v is d h =
          let r = some_map (element_at ctx.table n) _ v h in
          let known = types.elements n r.0 r.1 in
          let e : CheckedExpr = form.Load address place in
          let high : Sum = with_part (atom e) (Constant k (pos (size_of ctx r.0))) in
          subst (IsValue f ctx blocks st) r.2
          (pointer_loaded place (IsHere own) (Counts r.0 k) (IsPointer ctx blocks st (pointed_as e r.0 false (atom e) high)) d
          (λ z here. counts own r.0 n k z is r.1 here)
          (λ x seen c.
          let at : HasValue st (atom e) x = has_atom st e x (eval_peek [] f st e x seen) (word_value x c.0) in
          pointer_has e r.0 false (atom e) high x x (x +ℤ (k *ℤ pos (size_of ctx r.0))) seen c.0 known.1 (λ g. absurd cc)
          (λ g. absurd cc) at
          (has_with_part st (atom e) (Constant k (pos (size_of ctx r.0))) x (k *ℤ pos (size_of ctx r.0)) at tt refl) c.1))

      -- text
      abbrev IsTextAt : Element → ℤ → Type 0
      IsTextAt key v = IsTrue (is_word v) × Reaches blocks ctx.table.elems ctx.table.structs (key_shape ctx.table key) true v v v
          × (key ≡ element.Int U8)

      texts : (key : Element) (n : ℕ) (z : ℤ) → element_at ctx.table n ≡ Some key → IsHere (element.Nullterm n) z → (v : ℤ)
          × (load st.memory address z ≡ Ok v) × IsTextAt key v
      texts key n z h here =
          let at : IsElementAt ctx blocks (element.Nullterm n) here.0 = here.2 in
          let block : IsBlock ctx.table blocks st.memory at.block = good.memory.each at.block at.granted in
          let opened = subst (λ (x : Shape). IsOpenAt ctx.table.elems ctx.table.structs at.block x here.0) (text_shape n) at.place in
          let within = open_within ctx.table types blocks st.memory at.block block (shape.Pointer n bounds.Nullterm) here.0 opened in
          let fits = open_fits ctx.table types blocks st.memory at.block block n bounds.Nullterm here.0 at.no_text opened in
          let v : ℤ = pos (little_endian (bytes_at st.memory.bytes here.0 4)) in
          let known = types.elements n key h in (
            v,
            ap (load st.memory address) here.1 ∙ word_loaded at.block block here.0 within,
            (
              word_is here.0,
              other_bounds blocks ctx.table.elems ctx.table.structs (key_shape ctx.table key) (pos 0) (pos 0) v v v
                  (reaches blocks ctx.table.elems ctx.table.structs n (key_shape ctx.table key) known.0 true (pos 0) (pos 0) v fits.1),
              at.type_is key h,
            ),
          )

      text_is : (n : ℕ) (v : Value) → Safe (eval [] f st place) (IsHere (element.Nullterm n)) → text_pointer ctx (form.Load address place)
          n ≡ Some v
          → IsValue f ctx blocks st v
      unfolding text_pointer
      text_is n v d h =
          let r = some_map (element_at ctx.table n) _ v h in
          let known = types.elements n r.0 r.1 in
          let e : CheckedExpr = form.Load address place in
          subst (IsValue f ctx blocks st) r.2
          (pointer_loaded place (IsHere (element.Nullterm n)) (IsTextAt r.0) (IsPointer ctx blocks st (pointed_as e r.0 true (atom e)
          (atom e))) d
          (λ z here. texts r.0 n z r.1 here)
          (λ x seen c.
          let at : HasValue st (atom e) x = has_atom st e x (eval_peek [] f st e x seen) (word_value x c.0) in
          pointer_has e r.0 true (atom e) (atom e) x x x seen c.0 known.1 (λ g. c.2) (λ g. (refl, refl)) at at c.1))

      integer_here : (s : Scalar) (z : ℤ) → IsHere (element.Int s) z → (n : ℕ) × (load st.memory s z ≡ Ok (converted s (pos n)))
          × (s ≢ Void)
      integer_here s z here =
          let at : IsElementAt ctx blocks (element.Int s) here.0 = here.2 in
          let block : IsBlock ctx.table blocks st.memory at.block = good.memory.each at.block at.granted in
          let opened = subst (λ (x : Shape). IsOpenAt ctx.table.elems ctx.table.structs at.block x here.0) (int_shape s) at.place in
          let within = open_within ctx.table types blocks st.memory at.block block (shape.Int s) here.0 opened in (
            little_endian (bytes_at st.memory.bytes here.0 (scalar_size s)),
            ap (load st.memory s) here.1 ∙ loaded at.block block s here.0
                within,
            no_void s at.type_is,
          )

      element_is : (key : Element) (v : Value) → Safe (eval [] f st place) (IsHere key) → element_value ctx place key ≡ Some v
          → IsValue f ctx blocks st v
      unfolding element_value
      element_is (element.Int s) v d h =
          subst (IsValue f ctx blocks st) (some_same _ _ h) (integer_loaded place s (IsHere (element.Int s)) d (integer_here s))
      element_is (element.Struct s) v d h = absurd cc
      element_is (element.Sentinel n) v d h = counted_is (element.Sentinel n) n (pos 0) v (sentinel_shape n) d h
      element_is (element.Nullterm n) v d h = text_is n v d h
      element_is (element.Count n k) v d h = counted_is (element.Count n k) n k v (counted_shape n k) d h

    -- ---- a byte of text
    text_byte : (place : CheckedExpr) → Safe (eval [] f st place) (λ z. (a : ℕ) × (z ≡ pos a) × IsInText blocks (pos a))
        → IsValue f ctx blocks st (integer (form.Load U8 place) U8)
    text_byte place d = integer_loaded place U8 _ d (λ z here.
        let t : IsInText blocks (pos here.0) = here.2 in
        let block : IsBlock ctx.table blocks st.memory t.block = good.memory.each t.block t.granted in
        let same : here.0 ≡ t.at = pos_same here.0 t.at t.is in
        let from = t.from in
        let below = t.below in (
          little_endian (bytes_at st.memory.bytes here.0 1),
          ap (load st.memory U8) here.1
              ∙ loaded t.block block U8 here.0 (record { from = omega (arith, same, from); to = omega (arith, same, below) }),
          λ e. absurd cc,
        ))
      where
        pos_same : (m n : ℕ) → pos m ≡ pos n → m ≡ n
        pos_same m n h = cc

    -- ---- a struct place
    abbrev pub struct_block : (s a : ℕ) (at : IsStructAt ctx blocks s a) → IsBlock ctx.table blocks st.memory at.block
    struct_block s a at = good.memory.each at.block at.granted

    -- the names of an annotation, read in the struct place
    module _ (s a : ℕ) (at : IsStructAt ctx blocks s a) (t : StructShape) (known : slice_get ctx.table.structs s ≡ Some t) where
      number_size : (x : Shape) → IsNumber x → shape_size ctx.table.structs x ≡ scalar_size (loaded_as x)
      number_size (shape.Int s) n = refl
      number_size (shape.Pointer elem b) n = refl
      number_size (shape.Struct s) n = absurd n
      number_size shape.Address n = absurd n

      pub named : (k : ℕ) → IsSibling t k → IsNamed st a t k
      named k is =
          let w : Member = is.member in
          let one = is.one in
          let within = member_within ctx.table types blocks st.memory at.block (struct_block s a at) s a at.place t known k w is.found
          (omega (arith, one)) in
          let below = below_block ctx.table types blocks st.memory at.block (struct_block s a at) (a + w.offset)
          (shape_size ctx.table.structs w.shape) within in
          record {
            member = w;
            found = is.found;
            number = is.number;
            below = omega (arith, below);
            inside = subst (λ (n : ℕ). IsTrue (is_inside st.memory (a + w.offset) n)) (number_size w.shape is.number)
                (inside_block ctx.table types blocks st.memory at.block (struct_block s a at) (a + w.offset) (shape_size ctx.table.structs
                w.shape) within);
          }

      named_base : (b : Option ℕ) → IsBaseOf t b → IsNamedBase st a t b
      named_base None is = tt
      named_base (Some k) is = named k is

      named_terms : (ts : List (ℤ × ℕ)) → All (λ x. IsSibling t x.1) ts → All (λ x. IsNamed st a t x.1) ts
      named_terms [] all = All-nil (λ x. IsNamed st a t x.1)
      named_terms (x ∷ ts) all =
          All-cons (λ x. IsNamed st a t x.1) x ts (named x.1 (All-head (λ x. IsSibling t x.1) x ts all))
          (named_terms ts (All-tail (λ x. IsSibling t x.1) x ts all))

      pub edge_named : (e : Edge) → NamesSiblings t e → AreNamed st a t e
      edge_named e is = record { base = named_base e.base is.base; terms = named_terms e.terms is.terms }

    -- ---- a member
    module _ (place : CheckedExpr) (s m : ℕ) (x : Member) (found : table_member ctx.table s m ≡ Some x) where
      known : (u : StructShape) × (slice_get ctx.table.structs s ≡ Some u) × (slice_get u.members m ≡ Some x)
      known = member_found ctx.table s m x found

      facts : IsMemberOf ctx.table s known.0 m x
      facts = (types.structs s known.0 known.1).members m x known.2

      abbrev IsMember : ℤ → Type 0
      IsMember z = (a : ℕ) × (z ≡ pos a) × IsMemberAt ctx blocks st place s m a

      same_struct : (a : ℕ) (at : IsMemberAt ctx blocks st place s m a) → at.structure ≡ known.0
      same_struct a at = some_same at.structure known.0 (sym at.structure_is ∙ known.1)

      same_member : (a : ℕ) (at : IsMemberAt ctx blocks st place s m a) → at.member ≡ x
      same_member a at = some_same at.member x (sym at.member_is ∙ ap (λ (u : StructShape). slice_get u.members m) (same_struct a at)
          ∙ known.2)

      inside_at : (a : ℕ) (at : IsMemberAt ctx blocks st place s m a) → IsWithin at.lies.block a (shape_size ctx.table.structs x.shape)
      inside_at a at =
          let one = at.one in
          subst (λ (w : Member). IsWithin at.lies.block a (shape_size ctx.table.structs w.shape)) (same_member a at)
          (subst (λ (n : ℕ). IsWithin at.lies.block n (shape_size ctx.table.structs at.member.shape)) (sym at.at)
          (member_within ctx.table types blocks st.memory at.lies.block (struct_block s at.struct_at at.lies) s at.struct_at at.lies.place
          at.structure at.structure_is m
          at.member at.member_is (omega (arith, one))))

      fits_at : (a : ℕ) (at : IsMemberAt ctx blocks st place s m a)
          → HoldsFitting blocks ctx.table.elems ctx.table.structs (member_value st.memory.bytes at.struct_at at.structure) st.memory.bytes
          a x.shape
      fits_at a at =
          let one = at.one in
          subst (λ (w : Member). HoldsFitting blocks ctx.table.elems ctx.table.structs (member_value st.memory.bytes at.struct_at
          at.structure) st.memory.bytes a w.shape) (same_member a at)
          (subst (λ (n : ℕ). HoldsFitting blocks ctx.table.elems ctx.table.structs (member_value st.memory.bytes at.struct_at at.structure)
          st.memory.bytes n at.member.shape) (sym at.at)
          (member_fits ctx.table types blocks st.memory at.lies.block (struct_block s at.struct_at at.lies) s at.struct_at at.lies.place
          at.structure at.structure_is m
          at.member at.member_is at.lies.no_text (omega (arith, one)) at.used))

      integer_at : (scalar : Scalar) → x.shape ≡ shape.Int scalar → (z : ℤ) → IsMember z → (n : ℕ)
          × (load st.memory scalar z ≡ Ok (converted scalar (pos n))) × (scalar ≢ Void)
      integer_at scalar e z here =
          let at : IsMemberAt ctx blocks st place s m here.0 = here.2 in
          let within = subst (λ (y : Shape). IsWithin at.lies.block here.0 (shape_size ctx.table.structs y)) e (inside_at here.0 at) in (
            little_endian (bytes_at st.memory.bytes here.0 (scalar_size scalar)),
            ap (load st.memory scalar) here.1 ∙ loaded at.lies.block (struct_block s at.struct_at at.lies) scalar here.0 within,
            no_void scalar (subst (IsDeclared ctx.table) e facts.declared),
          )

      abbrev HoldsAs : ℕ → Bounds → ℤ → Type 0
      HoldsAs elem b v = (a : ℕ) × (at : IsMemberAt ctx blocks st place s m a) × IsTrue (is_word v)
          × FitsBounds blocks ctx.table.elems ctx.table.structs (member_value st.memory.bytes at.struct_at at.structure) elem b v

      pointer_at : (elem : ℕ) (b : Bounds) → x.shape ≡ shape.Pointer elem b → (z : ℤ) → IsMember z → (v : ℤ)
          × (load st.memory address z ≡ Ok v) × HoldsAs elem b v
      pointer_at elem b e z here =
          let at : IsMemberAt ctx blocks st place s m here.0 = here.2 in
          let within = subst (λ (y : Shape). IsWithin at.lies.block here.0 (shape_size ctx.table.structs y)) e (inside_at here.0 at) in
          let fits = subst (λ (y : Shape). HoldsFitting blocks ctx.table.elems ctx.table.structs (member_value st.memory.bytes at.struct_at
          at.structure) st.memory.bytes here.0 y) e (fits_at here.0 at) in (
            pos (little_endian (bytes_at st.memory.bytes here.0 4)),
            ap (load st.memory address) here.1 ∙ word_loaded at.lies.block (struct_block s at.struct_at at.lies) here.0 within,
            (here.0, at, word_is here.0, fits),
          )

      bounds_is : (elem : ℕ) (b : Bounds) (v : Value) → x.shape ≡ shape.Pointer elem b → IsAnnotated ctx.table elem b
          → Safe (eval [] f st place) IsMember
          → bounded_pointer ctx (of_struct (container place) s) (form.Load address place) elem b ≡ Some v → IsValue f ctx blocks st v
      unfolding bounded_pointer low_sum high_sum
      bounds_is elem bounds.Hidden v e n d h = absurd n
      bounds_is elem bounds.Nullterm v e n d h =
          let r = some_map (element_at ctx.table elem) _ v h in
          let known = types.elements elem r.0 r.1 in
          let l : CheckedExpr = form.Load address place in
          subst (IsValue f ctx blocks st) r.2
          (pointer_loaded place IsMember (HoldsAs elem bounds.Nullterm) (IsPointer ctx blocks st (pointed_as l r.0 true (atom l) (atom l)))
          d (pointer_at elem bounds.Nullterm e)
          (λ y seen c.
          let at : HasValue st (atom l) y = has_atom st l y (eval_peek [] f st l y seen) (word_value y c.2) in
          pointer_has l r.0 true (atom l) (atom l) y y y seen c.2 known.1 (λ g. n r.0 r.1) (λ g. (refl, refl)) at at
          (other_bounds blocks ctx.table.elems ctx.table.structs (key_shape ctx.table r.0) (pos 0) (pos 0) y y y
          (reaches blocks ctx.table.elems ctx.table.structs elem (key_shape ctx.table r.0) known.0 true (pos 0) (pos 0) y c.3))))
      bounds_is elem (bounds.Within lo hi) v e n d h =
          let r = some_map (element_at ctx.table elem) _ v h in
          let known' = types.elements elem r.0 r.1 in
          let l : CheckedExpr = form.Load address place in
          let low : Sum = edge_sum ctx (of_struct (container place) s) (atom l) lo in
          let high : Sum = edge_sum ctx (of_struct (container place) s) (atom l) hi in
          let names = subst (ShapeNamesSiblings known.0) e facts.names in
          subst (IsValue f ctx blocks st) r.2
          (pointer_loaded place IsMember (HoldsAs elem (bounds.Within lo hi)) (IsPointer ctx blocks st (pointed_as l r.0 false low high)) d
          (pointer_at elem (bounds.Within lo hi) e)
          (λ y seen c.
          let at : IsMemberAt ctx blocks st place s m c.0 = c.1 in
          let own : HasValue st (atom l) y = has_atom st l y (eval_peek [] f st l y seen) (word_value y c.2) in
          let sibling : ℕ → ℤ = member_value st.memory.bytes at.struct_at at.structure in
          let struct : IsStructPlace st ctx.table (container place) at.struct_at s at.structure = record {
            address = at.struct_is;
            struct_is = at.structure_is;
            bytes = good.memory.bytes;
          } in
          let siblings = subst (λ (u : StructShape). NamesSiblings u lo × NamesSiblings u hi) (sym (same_struct c.0 at)) names in
          pointer_has l r.0 false low high y (edge_value sibling y lo) (edge_value sibling y hi) seen c.2 known'.1 (λ g. absurd cc)
          (λ g. absurd cc)
          (member_edge st ctx (container place) at.struct_at s at.structure struct (atom l) y lo (edge_named s at.struct_at at.lies
          at.structure at.structure_is lo siblings.0) own)
          (member_edge st ctx (container place) at.struct_at s at.structure struct (atom l) y hi (edge_named s at.struct_at at.lies
          at.structure at.structure_is hi siblings.1) own)
          (reaches blocks ctx.table.elems ctx.table.structs elem (key_shape ctx.table r.0) known'.0 false (edge_value sibling y lo)
          (edge_value sibling y hi) y c.3)))

      shape_value : (y : Shape) (v : Value) → x.shape ≡ y → Safe (eval [] f st place) IsMember → value_of_member ctx place s y ≡ Some v
          → IsValue f ctx blocks st v
      unfolding value_of_member
      shape_value (shape.Int scalar) v e d h = subst (IsValue f ctx blocks st) (some_same _ _ h) (integer_loaded place scalar IsMember d
          (integer_at scalar e))
      shape_value (shape.Pointer elem b) v e d h = bounds_is elem b v e (subst (IsDeclared ctx.table) e facts.declared) d h
      shape_value (shape.Struct k) v e d h = absurd cc
      shape_value shape.Address v e d h = absurd cc

      pub member_is : (v : Value) → Safe (eval [] f st place) IsMember → value_of_member ctx place s x.shape ≡ Some v
          → IsValue f ctx blocks st v
      member_is v d h = shape_value x.shape v refl d h

    -- ---- what was derived
    source_is : (e : CheckedExpr) (x : Source) (v : Value) → Safe (eval [] f st e) (λ z. (a : ℕ) × (z ≡ pos a) × LiesAt ctx blocks st e x
        a) → source_value ctx e x ≡ Some v → IsValue f ctx blocks st v
    unfolding source_value
    source_is e (source.Element key) v d h = element_is e key v d h
    source_is e source.Text v d h = subst (IsValue f ctx blocks st) (some_same _ _ h) (text_byte e d)
    source_is e (source.Member s m) v d h =
        let r = some_then (table_member ctx.table s m) _ v h in
        member_is e s m r.0 r.1 v d r.2

    times_pos : (m n : ℕ) → pos m *ℤ pos n ≡ pos (m * n)
    times_pos m n = refl

    -- whole elements within so many
    among : (i count size : ℕ) → 0 < count → (i + 1) * size ≤ count * size → (j : ℕ) × (j < count) × (j * size ≡ i * size)
    among i count size some l = by size refl (nat_lt i count) refl
      where
        by : (n : ℕ) → n ≡ size → (b : Bool) → nat_lt i count ≡ b → (j : ℕ) × (j < count) × (j * size ≡ i * size)
        by zero e b g = (0, some, zero_times size i (sym e))
          where
            zero_times : (size i : ℕ) → size ≡ 0 → 0 * size ≡ i * size
            zero_times size i e = subst (λ (n : ℕ). 0 * n ≡ i * n) (sym e) (omega arith)
        by (suc n) e true g = (i, grind arith, refl)
        by (suc n) e false g =
            let most : count ≤ i = grind arith in
            let less : count * size ≤ i * size = mul-le count size i size most (omega arith) in
            let next : (i + 1) * size ≡ i * size + size = grind arith in
            absurd (omega (arith, less, next, l, e))

    array_is : (a : ArrayPlace) → 0 < a.count → Safe (eval [] f st a.form) (IsArray ctx blocks st a) → IsValue f ctx blocks st
        (array_value ctx a)
    unfolding array_value
    array_is a some d = safe_same _ _ _ (eval-AddressOf f st a.form) (safe_weaker (eval [] f st a.form) _ _ d (λ z e is.
        let size : ℕ = size_of ctx a.elem in
        let own : Shape = key_shape ctx.table a.elem in
        let bytes : shape_size ctx.table.structs own ≡ size = types.bytes a.elem in
        let block : IsBlock ctx.table blocks st.memory is.block = good.memory.each is.block is.granted in
        let from = is.from in
        let to = is.to in
        let end = block.to in
        let first = block.from in
        record {
          type_is = is.type_is;
          text = λ g. absurd cc;
          word = subst (λ (y : ℤ). IsTrue (is_word y)) (sym is.is) (lt-ltb is.address (2 ^ 32) (omega (arith, to, end)));
          at = is.at;
          lo = z;
          low = is.at;
          hi = z +ℤ (pos a.count *ℤ pos size);
          high = has_with_part st a.at (Constant (pos a.count) (pos size)) z (pos a.count *ℤ pos size) is.at tt refl;
          fits = between refl (record {
            block = is.block;
            granted = is.granted;
            no_text = is.no_text;
            from = is.address;
            from_is = is.is;
            to = is.address + a.count * size;
            to_is = ap (λ (y : ℤ). y +ℤ (pos a.count *ℤ pos size)) is.is ∙ ap (λ (y : ℤ). pos is.address +ℤ y) (times_pos a.count size);
            at = is.address;
            at_is = is.is;
            above = omega arith;
            below = omega arith;
            whole = (0, omega arith);
            from_in = from;
            to_in = to;
            elements = λ i l.
                let r = among i a.count size some (omega (
                  arith,
                  subst (λ (n : ℕ). is.address + (i + 1) * n ≤ is.address + a.count * size)
                      bytes l,
                )) in
                subst (λ (n : ℕ). IsOpenAt ctx.table.elems ctx.table.structs is.block own (is.address + n)) (r.2 ∙ ap (λ (n : ℕ). i * n)
                (sym bytes)) (is.elements r.0 r.1);
          });
          sure = λ g n. zero_not is.address (omega (arith, first, from)) (sym is.is ∙ n);
          ends = λ g. absurd cc;
        }))
      where
        zero_not : (a : ℕ) → 0 < a → pos a ≡ pos 0 → ⊥
        zero_not a l e = let same : a ≡ 0 = cc in absurd (omega (arith, l, same))

    pub value_sound : HasSlots ctx → (d : Derived) (v : Value) → value_of ctx d ≡ Some v → IsDerived f ctx blocks st d
        → IsValue f ctx blocks st v
    unfolding value_of
    value_sound slots (derived.Value w) v h is = subst (IsValue f ctx blocks st) (some_same w v h) is
    value_sound slots (derived.Local slot) v h is = local_sound slots slot v h
    value_sound slots (derived.Place p) v h is = source_is p.form p.source v (safe_weaker (eval [] f st p.form) _ _ is
        (λ z e l. (l.address, l.is, l.lies))) h
    value_sound slots (derived.Array a) v h is = subst (IsValue f ctx blocks st) (some_same _ _ h) (array_is a is.0 is.1)
    value_sound slots (derived.Union u) v h is = absurd cc
