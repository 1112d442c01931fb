-- A local that no annotation names takes a result, and its frame stays good.
use Rattle.std.proofs.Common.{◌≡◌, ◌≢◌, ℕ, ◌+◌, ◌^◌, ◌≤◌, ◌<◌, ◌==◌, ◌||◌, IsTrue, Bool, true, false, List, [], ◌∷◌, ℤ, pos, negsuc}
use Rattle.std.proofs.Common.{◌+ℤ◌, nat_lt, Option, Some, None, option_map, Ok, if◌then◌else◌, refl, sym, ap, ◌∙◌, subst}
use Rattle.std.proofs.Common.{arith}
use Rattle.std.specs.List.{list_any}
use Rattle.std.specs.Ordering.{int_eq}
use Rattle.std.proofs.lemmas.Bool.{eqb-true, ltb-false}
use Rattle.std.proofs.lemmas.Bool.Decides.{Decides-int_eq}
use Rattle.sd_base.specs.Blocks.{Block}
use Rattle.sd_base.specs.declared.actors.Fat.{Fat}
use Rattle.c_tree.specs.Slots.{slot_named, hidden_slot}
use Rattle.checked_tree.specs.declared.shapes.Bounds.TheVariants as bounds
use Rattle.checked_tree.specs.declared.shapes.Edge.{Edge}
use Rattle.checked_tree.specs.declared.shapes.Scalar.{Scalar}
use Rattle.checked_tree.specs.declared.shapes.Scalar.TheVariants.{Pointer}
use Rattle.checked_tree.specs.declared.shapes.Shape.{Shape}
use Rattle.checked_tree.specs.declared.shapes.Shape.TheVariants as shape
use Rattle.checked_tree.specs.declared.statements.Target.{Target}
use Rattle.checked_tree.specs.declared.statements.Target.TheVariants as target
use Rattle.checked_tree.specs.declared.units.CheckedFn.{CheckedFn}
use Rattle.checked_tree.specs.Act.{with_local, with_pointer}
use Rattle.checked_tree.specs.Conditions.{State}
use Rattle.checked_tree.specs.Edges.{edge_value, edge_from, edge_base}
use Rattle.checked_tree.specs.Numbers.{converted, is_of, is_value, is_word}
use Rattle.checked_tree.specs.Operands.{null, bounded}
use Rattle.checked_tree.specs.Outcome.{Outcome, ◌>>=◌, Safe}
use Rattle.checked_tree.specs.Step.{with_returned, returned_pointer}
use Rattle.checked_tree.proofs.NumberRanges.{of_value, word_value, converted_of}
use Rattle.deputy_types.specs.Fitting.{Fits, null as nowhere, in_text, in_bounds}
use Rattle.deputy_types.specs.Table.{edge_names, shape_names}
use Rattle.deputy_types.proofs.Inversions.{some_then}
use Rattle.deputy_rules.specs.declared.naming.Names.TheVariants as names
use Rattle.deputy_rules.specs.declared.naming.Naming.{Naming}
use Rattle.deputy_rules.specs.declared.signature.Returned.{Returned}
use Rattle.deputy_rules.specs.declared.signature.Returned.TheVariants as returned
use Rattle.deputy_rules.specs.Calls.{names_slot, is_named_slot, free_slot, integer_target, is_automatic_to, automatic_target}
use Rattle.deputy_rules.specs.Calls.{is_nullterm_shape, shape_target, call_target}
use Rattle.deputy_rules.specs.Changes.{changed}
use Rattle.deputy_rules.specs.Context.{Context, slot_shape}
use Rattle.deputy_rules.specs.Functions.{reach_of, result_scalar}
use Rattle.deputy_rules.specs.NameValues.{local_at}
use Rattle.deputy_rules.specs.Sums.{constant}
use Rattle.deputy_rules.specs.Values.{of_slots}
use Rattle.deputy_rules.proofs.SumsHave.{has_constant}
use Rattle.driver_safety.specs.CallLaw.{GivesBack}
use Rattle.driver_safety.specs.Goodness.{IsGood, IsBlock}
use Rattle.driver_safety.specs.Handing.{Takes}
use Rattle.driver_safety.specs.ResultLaw.{NamesNothing, ShapeIsConstant, ResultIsConstant, EachResultIsTaken}
use Rattle.driver_safety.specs.TypeFacts.{HasTypes, HasSlots, IsInteger}
use Rattle.driver_safety.proofs.assignments.AutomaticAssign.{bounded_is, pointer_next}
use Rattle.driver_safety.proofs.assignments.SiblingRules.{same_edge, ShapeFits, ShapeRenames, OthersKeep, AllRenamed}
use Rattle.driver_safety.proofs.assignments.SlotAssign.{same_slot, simple_next}
use Rattle.driver_safety.proofs.assignments.SlotChanges.{IsNext, all_renamed, frame_next}
use Rattle.driver_safety.proofs.checks.Evaluations.{safe_same}
use Rattle.driver_safety.proofs.expressions.ReadRules.{no_void}

pub some_same : {A : Type 0} (a b : A) → ◌≡◌ {A = Option A} (Some a) (Some b) → a ≡ b
some_same a b h = cc

none_some : {A : Type 0} (a : A) → ◌≡◌ {A = Option A} None (Some a) → ⊥
none_some a h = absurd cc

pub mapped : {A B : Type 0} (o : Option A) (g : A → B) (b : B) → option_map g o ≡ Some b → (a : A) × (o ≡ Some a) × (g a ≡ b)
mapped (Some a) g b h = (a, refl, some_same (g a) b h)
mapped None g b h = absurd cc

or_false : (a b : Bool) → (a || b) ≡ false → (a ≡ false) × (b ≡ false)
or_false true b h = absurd cc
or_false false b h = (refl, h)

-- the first of two, where the test holds
pub if_some : {A : Type 0} (b : Bool) (o : Option A) (a : A) → (if b then o else None) ≡ Some a → (b ≡ true) × (o ≡ Some a)
if_some true o a h = (refl, h)
if_some false o a h = absurd cc

pub unless_some : {A : Type 0} (b : Bool) (x a : A) → (if b then None else Some x) ≡ Some a → (b ≡ false) × (x ≡ a)
unless_some true x a h = absurd cc
unless_some false x a h = (refl, some_same x a h)

-- ---- shapes of targets
pub automatic_shape : (n : ℕ) (o : Option Shape) → is_automatic_to n o ≡ true
    → (m : ℕ) × (o ≡ Some (shape.Pointer m bounds.Hidden)) × ((m == n) ≡ true)
automatic_shape n None h = absurd cc
automatic_shape n (Some (shape.Int s)) h = absurd cc
automatic_shape n (Some (shape.Struct k)) h = absurd cc
automatic_shape n (Some shape.Address) h = absurd cc
automatic_shape n (Some (shape.Pointer m bounds.Hidden)) h = (m, refl, h)
automatic_shape n (Some (shape.Pointer m bounds.Nullterm)) h = absurd cc
automatic_shape n (Some (shape.Pointer m (bounds.Within lo hi))) h = absurd cc

text_shape : (o : Option Shape) → is_nullterm_shape o ≡ true → (m : ℕ) × (o ≡ Some (shape.Pointer m bounds.Nullterm))
text_shape None h = absurd cc
text_shape (Some (shape.Int s)) h = absurd cc
text_shape (Some (shape.Struct k)) h = absurd cc
text_shape (Some shape.Address) h = absurd cc
text_shape (Some (shape.Pointer m bounds.Hidden)) h = absurd cc
text_shape (Some (shape.Pointer m bounds.Nullterm)) h = (m, refl)
text_shape (Some (shape.Pointer m (bounds.Within lo hi))) h = absurd cc

pub integer_shape : (slot : ℕ) (o : Option Shape) (t : Target) → integer_target slot o ≡ Some t
    → (s : Scalar) × (o ≡ Some (shape.Int s)) × (target.Int slot s ≡ t)
integer_shape slot None t h = absurd cc
integer_shape slot (Some (shape.Int s)) t h = (s, refl, some_same (target.Int slot s) t h)
integer_shape slot (Some (shape.Pointer m b)) t h = absurd cc
integer_shape slot (Some (shape.Struct k)) t h = absurd cc
integer_shape slot (Some shape.Address) t h = absurd cc

abbrev pub no_target : Option Target
no_target = None

-- ---- whole numbers
below : (at to n : ℕ) → pos at +ℤ negsuc n ≡ pos to → at ≤ to → ⊥
below at to n e l = grind arith

far : (at to n : ℕ) → 2 ^ 32 ≤ n → pos at +ℤ pos n ≡ pos to → to ≤ 1048576 → ⊥
far at to n l e m = grind arith

plus_none : (v : ℤ) → v +ℤ pos 0 ≡ v
plus_none v = grind arith

-- the value of a side that names nothing
constant_value : (names : ℕ → ℤ) (v : ℤ) (e : Edge) → NamesNothing e → edge_value names v e ≡ v +ℤ e.bytes
unfolding edge_value
constant_value names v e c =
    ap (λ (o : Option ℕ). edge_from names e.terms (edge_base names v o +ℤ e.bytes)) c.0 ∙ ap
    (λ (ts : List (ℤ × ℕ)). edge_from names ts (v +ℤ e.bytes)) c.1

module _ (f : CheckedFn) (ctx : Context) (blocks : List Block) (st : State) (good : IsGood ctx blocks st) (types : HasTypes ctx.table)
    (slots : HasSlots ctx) where
  -- ---- a slot that no annotation names
  module _ (slot : ℕ) (free : is_named_slot ctx slot ≡ false) where
    one_free : (changes : Naming) (before after : ℕ → ℤ) (i : ℕ) (s : Option Shape) → names_slot slot s ≡ false
        → ShapeRenames f ctx blocks st types of_slots changes slot before after i s
        → i ≢ slot → ShapeFits f ctx blocks st types of_slots changes slot before i s
        → ShapeFits f ctx blocks st types of_slots changes slot after i s
    unfolding shape_names
    one_free changes before after i None e r n fits = tt
    one_free changes before after i (Some (shape.Int t)) e r n fits = tt
    one_free changes before after i (Some (shape.Struct m)) e r n fits = tt
    one_free changes before after i (Some shape.Address) e r n fits = tt
    one_free changes before after i (Some (shape.Pointer elem bounds.Hidden)) e r n fits = tt
    one_free changes before after i (Some (shape.Pointer elem bounds.Nullterm)) e r n fits = tt
    one_free changes before after i (Some (shape.Pointer elem (bounds.Within lo hi))) e r n fits =
        let both = or_false (edge_names slot lo) (edge_names slot hi) e in
        subst (λ (v : ℤ). Fits blocks ctx.table.elems ctx.table.structs elem false (edge_value after v lo) (edge_value after v hi) v)
        (sym (r.2 n))
        (subst (λ (z : ℤ). Fits blocks ctx.table.elems ctx.table.structs elem false z (edge_value after (before i) hi) (before i))
        (sym (same_edge slot before after (before i) lo r.0.low_same both.0))
        (subst (λ (z : ℤ). Fits blocks ctx.table.elems ctx.table.structs elem false (edge_value before (before i) lo) z (before i))
        (sym (same_edge slot before after (before i) hi r.0.high_same both.1)) fits))

    others_free : (changes : Naming) (before after : ℕ → ℤ) (i : ℕ) (ss : List (Option Shape)) → list_any (names_slot slot) ss ≡ false
        → AllRenamed f ctx blocks st types of_slots changes slot before after i ss
        → OthersKeep f ctx blocks st types of_slots changes slot before after i ss
    others_free changes before after i [] e r = tt
    others_free changes before after i (s ∷ ss) e r =
        let both = or_false (names_slot slot s) (list_any (names_slot slot) ss) e in
        (one_free changes before after i s both.0 r.0, others_free changes before after (i + 1) ss both.1 r.1)

    none_named : list_any (names_slot slot) ctx.slots ≡ false
    unfolding is_named_slot
    none_named = free

    received : (x : Shape) (z : ℤ) (next : State) → slot_shape ctx slot ≡ Some x → IsNext f ctx blocks st good types slots slot x z next
        → IsGood ctx blocks next
    received x z next is there =
        frame_next f ctx blocks st good types slots slot next z (constant z)
        (λ t e. (refl, tt)) (has_constant st z) there.same there.stays x is there
        (others_free (changed names.OfSlots slot (constant z)) (local_at st) (local_at next) 0 ctx.slots none_named
        (all_renamed f ctx blocks st good types slots slot next z (constant z)
        (λ t e. (refl, tt)) (has_constant st z) there.same there.stays))

    -- an integer
    pub integer_received : (s : Scalar) (v : ℤ) → slot_shape ctx slot ≡ Some (shape.Int s)
        → IsGood ctx blocks (with_local st slot (converted s v))
    integer_received s v is =
        let integer : IsInteger s = slots.shapes slot (shape.Int s) is in
        let range : IsTrue (is_of s (converted s v)) = converted_of s v (no_void s integer) in
        let value : IsTrue (is_value (converted s v)) = of_value s (converted s v) range in
        received (shape.Int s) (converted s v) (with_local st slot (converted s v)) is
        (simple_next f ctx blocks st good types slots slot (shape.Int s) is (λ e. absurd cc) (converted s v) value
        (subst (λ (z : ℤ). IsTrue (is_of s z)) (sym (kept s v is value)) range))
      where
        kept : (s : Scalar) (v : ℤ) → slot_shape ctx slot ≡ Some (shape.Int s) → IsTrue (is_value (converted s v))
            → local_at (with_local st slot (converted s v)) slot ≡ converted s v
        kept s v is value = same_slot f ctx blocks st good types slots slot (shape.Int s) is (λ e. absurd cc) (converted s v) value

    -- text
    text_received : (m n : ℕ) (v : ℤ) → slot_shape ctx slot ≡ Some (shape.Pointer m bounds.Nullterm) → IsTrue (is_word v)
        → Fits blocks ctx.table.elems ctx.table.structs n true (pos 0) (pos 0) v → IsGood ctx blocks (with_local st slot v)
    text_received m n v is word fits =
        let x : Shape = shape.Pointer m bounds.Nullterm in
        let kept = same_slot f ctx blocks st good types slots slot x is (λ e. absurd cc) v (word_value v word) in
        received x v (with_local st slot v) is
        (simple_next f ctx blocks st good types slots slot x is (λ e. absurd cc) v (word_value v word) (
          subst (λ (z : ℤ). IsTrue (is_word z)) (sym kept) word,
          subst
              (λ (z : ℤ). Fits blocks ctx.table.elems ctx.table.structs m true (pos 0) (pos 0) z) (sym kept) (as_text v fits),
        ))
      where
        as_text : (v : ℤ) → Fits blocks ctx.table.elems ctx.table.structs n true (pos 0) (pos 0) v
            → Fits blocks ctx.table.elems ctx.table.structs m true (pos 0) (pos 0) v
        as_text v (nowhere e) = nowhere e
        as_text v (in_text g t) = in_text g t
        as_text v (in_bounds g b) = absurd cc

    -- a pointer with bounds
    pub record IsReceived (elem : ℕ) (p : Fat) : Type 0 where
      pub word : p.value < 2 ^ 32
      pub low : p.lo < 2 ^ 32
      pub high : p.hi < 2 ^ 32
      pub fits : Fits blocks ctx.table.elems ctx.table.structs elem false (pos p.lo) (pos p.hi) (pos p.value)

    pub pointer_received : (elem hidden : ℕ) (p : Fat) → slot_shape ctx slot ≡ Some (shape.Pointer elem bounds.Hidden)
        → hidden_slot ctx.locals slot ≡ Some hidden → IsReceived elem p → IsGood ctx blocks (with_pointer st slot hidden p)
    pointer_received elem hidden p is hides r =
        received (shape.Pointer elem bounds.Hidden) (pos p.value) (with_pointer st slot hidden p) is
        (pointer_next f ctx blocks st good types slots slot elem hidden is hides p r.word r.low r.high r.fits)

    -- a pointer that a function gave back, with a constant annotation
    null_fat : (elem size : ℕ) (v : ℤ) → v ≡ pos 0 → (p : Fat) × (returned_pointer (Pointer size) v ≡ Ok p) × IsReceived elem p
    null_fat elem size v e = (
      null,
      ap (λ (b : Bool). if b then Ok null else bounded v v (v +ℤ pos size)) ((Decides-int_eq v (pos 0)).1 e),
      record { word = omega arith; low = omega arith; high = omega arith; fits = nowhere refl },
    )

    fat_of : (elem size : ℕ) (v : ℤ) → Fits blocks ctx.table.elems ctx.table.structs elem false v (v +ℤ pos size) v
        → (p : Fat) × (returned_pointer (Pointer size) v ≡ Ok p) × IsReceived elem p
    fat_of elem size v fits = by fits (int_eq v (pos 0)) refl
      where
        by : Fits blocks ctx.table.elems ctx.table.structs elem false v (v +ℤ pos size) v → (b : Bool) → int_eq v (pos 0) ≡ b
            → (p : Fat) × (returned_pointer (Pointer size) v ≡ Ok p) × IsReceived elem p
        by x true e = null_fat elem size v ((Decides-int_eq v (pos 0)).0 e)
        by (nowhere z) false e = null_fat elem size v z
        by (in_text n t) false e = absurd cc
        by (in_bounds n b) false e =
            let block : IsBlock ctx.table blocks st.memory b.block = good.memory.each b.block b.granted in
            let to = b.to_in in
            let end = block.to in
            let above = b.above in
            let below = b.below in
            let a : b.at < 2 ^ 32 = omega (arith, below, to, end) in
            let l : b.from < 2 ^ 32 = omega (arith, above, below, to, end) in
            let u : b.to < 2 ^ 32 = omega (arith, to, end) in (
              record { value = b.at; lo = b.from; hi = b.to },
              ap (λ (c : Bool). if c then Ok null else bounded v v (v +ℤ pos size)) e
                  ∙ bounded_is v v (v +ℤ pos size) b.at b.from b.to b.at_is b.from_is b.to_is a l u,
              record {
                word = a;
                low = l;
                high = u;
                fits = subst (λ (y : ℤ). Fits blocks ctx.table.elems ctx.table.structs elem false y (pos b.to) (pos b.at)) b.from_is
                    (subst (λ (y : ℤ). Fits blocks ctx.table.elems ctx.table.structs elem false v y (pos b.at)) b.to_is
                    (subst (λ (y : ℤ). Fits blocks ctx.table.elems ctx.table.structs elem false v (v +ℤ pos size) y) b.at_is
                    (in_bounds n b)));
              },
            )

    -- a bound that is below the pointer, or has no place in memory, is that of a null pointer
    outside_null : (elem : ℕ) (bytes v : ℤ) → ((at to : ℕ) → pos at +ℤ bytes ≡ pos to → at ≤ to → to ≤ 1048576 → ⊥)
        → Fits blocks ctx.table.elems ctx.table.structs elem false v (v +ℤ bytes) v → v ≡ pos 0
    outside_null elem bytes v none (nowhere z) = z
    outside_null elem bytes v none (in_text n t) = absurd cc
    outside_null elem bytes v none (in_bounds n b) =
        let block : IsBlock ctx.table blocks st.memory b.block = good.memory.each b.block b.granted in
        let end = block.to in
        let to = b.to_in in
        absurd (none b.at b.to (ap (λ (y : ℤ). y +ℤ bytes) (sym b.at_is) ∙ b.to_is) b.below (omega (arith, to, end)))

    fat_at : (elem : ℕ) (bytes v : ℤ) → Fits blocks ctx.table.elems ctx.table.structs elem false v (v +ℤ bytes) v
        → (p : Fat) × (returned_pointer (Pointer (reach_of bytes)) v ≡ Ok p) × IsReceived elem p
    fat_at elem (negsuc n) v fits = null_fat elem 0 v (outside_null elem (negsuc n) v (λ at to e l m. below at to n e l) fits)
    fat_at elem (pos n) v fits = by (nat_lt n (2 ^ 32)) refl
      where
        by : (b : Bool) → nat_lt n (2 ^ 32) ≡ b → (p : Fat) × (returned_pointer (Pointer (if b then n else 0)) v ≡ Ok p) × IsReceived elem p
        by true e = fat_of elem n v fits
        by false e = let large = ltb-false n (2 ^ 32) e in null_fat elem 0 v (outside_null elem (pos n) v
            (λ at to f l m. far at to n large f m) fits)

    -- the result of a function, by its shape
    given_back : (s : Shape) → ShapeIsConstant s → (t : Target) → shape_target ctx slot s ≡ Some t → (names : ℕ → ℤ) (v : ℤ)
        → Takes ctx.table blocks names s v
        → Safe (with_returned (result_scalar (returned.Value s)) st (Some t) (Some v)) (IsGood ctx blocks)
    unfolding shape_target automatic_target result_scalar
    given_back (shape.Int s) c t h names v g =
        let i = integer_shape slot (slot_shape ctx slot) t h in
        subst (λ (y : Target). Safe (with_returned s st (Some y) (Some v)) (IsGood ctx blocks)) i.2 (integer_received i.0 v i.1)
    given_back (shape.Struct n) c t h names v g = absurd g
    given_back shape.Address c t h names v g = absurd g
    given_back (shape.Pointer n bounds.Hidden) c t h names v g = absurd g.1
    given_back (shape.Pointer n bounds.Nullterm) c t h names v g =
        let i = if_some (is_nullterm_shape (slot_shape ctx slot)) (Some (target.Nullterm slot)) t h in
        let m = text_shape (slot_shape ctx slot) i.0 in
        subst (λ (y : Target). Safe (with_returned (Pointer 0) st (Some y) (Some v)) (IsGood ctx blocks))
        (some_same (target.Nullterm slot) t i.1)
        (text_received m.0 n v m.1 g.0 g.1)
    given_back (shape.Pointer n (bounds.Within lo hi)) c t h names v g =
        let i = if_some (is_automatic_to n (slot_shape ctx slot)) (option_map
        (λ k. target.Automatic slot k) (hidden_slot ctx.locals slot)) t h in
        let a = automatic_shape n (slot_shape ctx slot) i.0 in
        let k = mapped (hidden_slot ctx.locals slot) (λ k. target.Automatic slot k) t i.1 in
        let same : a.0 ≡ n = eqb-true a.0 n a.2 in
        let is : slot_shape ctx slot
        ≡ Some (shape.Pointer n bounds.Hidden) = a.1 ∙ ap (λ (m : ℕ). Some (shape.Pointer m bounds.Hidden)) same in
        let low : edge_value names v lo ≡ v = constant_value names v lo c.0 ∙ (ap (λ (y : ℤ). v +ℤ y) c.2 ∙ plus_none v) in
        let high : edge_value names v hi ≡ v +ℤ hi.bytes = constant_value names v hi c.1 in
        let fits : Fits blocks ctx.table.elems ctx.table.structs n false v (v +ℤ hi.bytes) v =
        subst (λ (y : ℤ). Fits blocks ctx.table.elems ctx.table.structs n false v y v) high
        (subst (λ (y : ℤ). Fits blocks ctx.table.elems ctx.table.structs n false y (edge_value names v hi) v) low g.1) in
        let p = fat_at n hi.bytes v fits in
        subst (λ (y : Target). Safe (with_returned (Pointer (reach_of hi.bytes)) st (Some y) (Some v)) (IsGood ctx blocks)) k.2
        (safe_same (Ok (with_pointer st slot k.0 p.0)) (returned_pointer (Pointer (reach_of hi.bytes)) v >>= λ q.
        Ok (with_pointer st slot k.0 q)) (IsGood ctx blocks)
        (ap (λ (o : Outcome Fat). o >>= λ q. Ok (with_pointer st slot k.0 q)) p.1) (pointer_received n k.0 p.0 is k.1 p.2))

  -- the target of a call
  taken_by : (result : Returned) → ResultIsConstant result → (x : Option (List ℕ)) (t : Option Target)
      → call_target ctx (Some result) x ≡ Some t
      → (names : ℕ → ℤ) (v : Option ℤ) → GivesBack ctx.table blocks names result v
      → Safe (with_returned (result_scalar result) st t v) (IsGood ctx blocks)
  unfolding call_target free_slot
  taken_by result c None t h names v g =
      subst (λ (y : Option Target). Safe (with_returned (result_scalar result) st y v) (IsGood ctx blocks)) (some_same no_target t h) good
  taken_by returned.Nothing c (Some x) t h names v g = absurd cc
  taken_by (returned.Value s) c (Some x) t h names None g = absurd g
  taken_by (returned.Value s) c (Some x) t h names (Some v) g =
      let k = some_then (free_slot ctx x) (λ slot. option_map (λ y. Some y) (shape_target ctx slot s)) t h in
      let n = some_then (slot_named ctx.locals x) (λ k. if is_named_slot ctx k then None else Some k) k.0 k.1 in
      let free = unless_some (is_named_slot ctx n.0) n.0 k.0 n.2 in
      let y = mapped (shape_target ctx k.0 s) (λ y. Some y) t k.2 in
      subst (λ (y : Option Target). Safe (with_returned (result_scalar (returned.Value s)) st y (Some v)) (IsGood ctx blocks)) y.2
      (given_back k.0 (subst (λ (i : ℕ). is_named_slot ctx i ≡ false) free.1 free.0) s c y.0 y.1 names v g)

pub each_result_is_taken : EachResultIsTaken
each_result_is_taken f ctx result x t is blocks st good names v g =
    taken_by f ctx blocks st good is.types is.slots result is.constant x t is.derived names v g
