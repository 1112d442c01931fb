-- An assignment to a field or an arm is not wild, and leaves a good memory: what is assigned fits the member's type, each pointer whose
-- annotation names the member fits
-- with the new value, and a tag keeps its value or its union is clear.
use Rattle.std.proofs.Common.{◌≡◌, ◌≢◌, ◌⊎◌, inl, inr, ℕ, ◌+◌, ◌*◌, ◌^◌, ◌≤◌, ◌<◌, ◌==◌, IsTrue, Bool, true, false, List}
use Rattle.std.proofs.Common.{[], ◌∷◌, ◌++◌, All, length, map, ℤ, pos, negsuc, ◌+ℤ◌, ◌*ℤ◌, neg_ℤ, Option, Some, None, find, option_map}
use Rattle.std.proofs.Common.{unwrap_or, Ok, slice_get, refl, sym, ap, ◌∙◌, subst, arith}
use Rattle.std.proofs.lemmas.Bool.Decides.{Decides-eqb}
use Rattle.std.proofs.lemmas.Int.{ints}
use Rattle.std.proofs.lemmas.List.Elements.{All-head, All-tail}
use Rattle.sd_base.specs.Blocks.{Block}
use Rattle.byte_memory.specs.Bytes.{little_endian, bytes_at, overwritten}
use Rattle.byte_memory.specs.Tested.{is_inside}
use Rattle.checked_tree.specs.declared.expressions.CheckedExpr.TheVariants as form
use Rattle.checked_tree.specs.declared.shapes.Bounds.{Bounds}
use Rattle.checked_tree.specs.declared.shapes.Bounds.TheVariants as bounds
use Rattle.checked_tree.specs.declared.shapes.Edge.{Edge}
use Rattle.checked_tree.specs.declared.shapes.Member.{Member}
use Rattle.checked_tree.specs.declared.shapes.Scalar.{Scalar}
use Rattle.checked_tree.specs.declared.shapes.Scalar.TheVariants.{Pointer}
use Rattle.checked_tree.specs.declared.shapes.Shape.{Shape}
use Rattle.checked_tree.specs.declared.shapes.Shape.TheVariants as shape
use Rattle.checked_tree.specs.declared.shapes.StructShape.{StructShape}
use Rattle.checked_tree.specs.declared.shapes.UnionShape.{UnionShape}
use Rattle.checked_tree.specs.declared.statements.CheckedStmt.TheVariants as statement
use Rattle.checked_tree.specs.declared.sums.Part.{Part}
use Rattle.checked_tree.specs.declared.sums.Sum.{Sum}
use Rattle.checked_tree.specs.declared.units.CheckedFn.{CheckedFn}
use Rattle.checked_tree.specs.Act.{act, remembers, On}
use Rattle.checked_tree.specs.Conditions.{State, peek}
use Rattle.checked_tree.specs.Edges.{edge_value, edge_from, edge_base}
use Rattle.checked_tree.specs.Eval.{eval, tests}
use Rattle.checked_tree.specs.Memory.{load, store, value_from}
use Rattle.checked_tree.specs.Numbers.{converted, is_of, is_value, is_word, scalar_size}
use Rattle.checked_tree.specs.Operands.{taken}
use Rattle.checked_tree.specs.Outcome.{Got, ◌>>=◌, Safe}
use Rattle.checked_tree.proofs.NumberRanges.{of_value, converted_of}
use Rattle.checked_tree.proofs.Outcomes.{safe_bind}
use Rattle.checked_tree.proofs.Peeking.{eval_peek}
use Rattle.deputy_types.specs.declared.element.Element.{Element}
use Rattle.deputy_types.specs.Fitting.{Fits, null, in_text, in_bounds, HoldsFitting, AreZero, shape_size, place_value, member_value}
use Rattle.deputy_types.specs.Table.{member, members_of, element_at}
use Rattle.deputy_rules.specs.declared.derived.Derived.{Derived}
use Rattle.deputy_rules.specs.declared.derived.Derived.TheVariants as derived
use Rattle.deputy_rules.specs.declared.derived.Place.{Place}
use Rattle.deputy_rules.specs.declared.derived.Source.{Source}
use Rattle.deputy_rules.specs.declared.derived.Source.TheVariants as source
use Rattle.deputy_rules.specs.declared.derived.Value.TheVariants as value
use Rattle.deputy_rules.specs.declared.derived.Whole.{Whole}
use Rattle.deputy_rules.specs.declared.handed.Handed.{Handed}
use Rattle.deputy_rules.specs.declared.naming.Names.TheVariants as names
use Rattle.deputy_rules.specs.declared.naming.Naming.{Naming}
use Rattle.deputy_rules.specs.Assignment.{store_number, store_pointer, store_member}
use Rattle.deputy_rules.specs.Changes.{changed, shape_of, member_changes, loaded as loaded_part, tagged, unions_of}
use Rattle.deputy_rules.specs.Coercion.{converted_side, handed, coerce_to}
use Rattle.deputy_rules.specs.Context.{Context}
use Rattle.deputy_rules.specs.NameValues.{AreOnce, IsNamed, IsNumber, IsStructPlace}
use Rattle.deputy_rules.specs.Sums.{sum_of}
use Rattle.deputy_rules.specs.SumValues.{got_or_zero, part_at, parts_at, PartHasValue, HasValue}
use Rattle.deputy_rules.specs.Values.{container, integer_of, loaded_as, of_struct}
use Rattle.deputy_rules.proofs.SumsHave.{atom_is, atom_reads}
use Rattle.driver_safety.specs.Derivations.{IsPlace, LiesAt, IsValue, IsDerived}
use Rattle.driver_safety.specs.Goodness.{IsGood, IsBlock}
use Rattle.driver_safety.specs.Passing.{IsInside, clear_at}
use Rattle.driver_safety.specs.StructPlaces.{IsLeaf}
use Rattle.driver_safety.specs.TypeFacts.{HasTypes, HasSlots, IsInteger, IsDeclared, IsMemberOf, IsSibling, IsIntegerMember, IsBaseOf}
use Rattle.driver_safety.specs.TypeFacts.{NamesSiblings, ShapeNamesSiblings, ShapeNamesOthers}
use Rattle.driver_safety.proofs.assignments.Conversions.{converted_has, converted_once}
use Rattle.driver_safety.proofs.assignments.ElementStores.{bytes_for, word_stored}
use Rattle.driver_safety.proofs.assignments.HandedRules.{IsHanded, coerce_to_sound}
use Rattle.driver_safety.proofs.assignments.Handing.{Hands, handed_sound}
use Rattle.driver_safety.proofs.assignments.KeptRules.{KeepsTag}
use Rattle.driver_safety.proofs.assignments.MemberNames.{renamed, all_renamed, others_hold}
use Rattle.driver_safety.proofs.assignments.MemberStores.{structure, known, base, IsHere, is_here, Keeps, member_stays}
use Rattle.driver_safety.proofs.assignments.MemberStores.{member_stored}
use Rattle.driver_safety.proofs.assignments.SiblingRules.{OthersKeep, AllRenamed, siblings_kept}
use Rattle.driver_safety.proofs.assignments.SlotAssign.{Leaves, taken_is, word_taken}
use Rattle.driver_safety.proofs.assignments.StructNames.{old_names}
use Rattle.driver_safety.proofs.assignments.TagRules.{clear_zero, found_first, find_there, any_tag_sound}
use Rattle.driver_safety.proofs.checks.Evaluations.{safe_same, safe_weaker, Pass, pass_none, pass_then, eval-Load}
use Rattle.driver_safety.proofs.checks.Sounding.{Sound, then_sound, pure_sound, lift_sound, none_sound, weaker}
use Rattle.driver_safety.proofs.expressions.OperatorRules.{integer_sound}
use Rattle.driver_safety.proofs.expressions.PlaceRules.{safe_step}
use Rattle.driver_safety.proofs.expressions.ReadRules.{loaded, no_void, struct_block}
use Rattle.driver_safety.proofs.memory.Lying.{IsWithin, open_within, inside_block, below_block, member_within}
use Rattle.driver_safety.proofs.memory.StoredValues.{stored_value}

some_same : {A : Type 0} (a b : A) → ◌≡◌ {A = Option A} (Some a) (Some b) → a ≡ b
some_same a b h = cc

number_bytes : (structs : List StructShape) (x : Shape) → IsNumber x → shape_size structs x ≡ scalar_size (loaded_as x)
number_bytes structs (shape.Int s) n = refl
number_bytes structs (shape.Pointer elem b) n = refl
number_bytes structs (shape.Struct s) n = absurd n
number_bytes structs shape.Address n = absurd n

module _ (f : CheckedFn) (ctx : Context) (blocks : List Block) (st : State) (good : IsGood ctx blocks st) (types : HasTypes ctx.table)
    (slots : HasSlots ctx)
    (p : Place) (s m : ℕ) (x : Member) (found : member ctx.table s m ≡ Some x) where
  abbrev u : StructShape
  u = known f ctx blocks st good types slots p.form s m x found

  abbrev at_base : ℕ
  at_base = base f ctx blocks st good types slots p.form s m x found

  abbrev Here : ℕ → Type 0
  Here a = IsHere f ctx blocks st good types slots p.form s m x found a

  table_is : slice_get ctx.table.structs s ≡ Some u
  table_is = (structure f ctx blocks st good types slots p.form s m x found).1

  member_is : slice_get u.members m ≡ Some x
  member_is = (structure f ctx blocks st good types slots p.form s m x found).2

  facts : (i : ℕ) (y : Member) → slice_get u.members i ≡ Some y → IsMemberOf ctx.table s u i y
  facts i y h = (types.structs s u table_is).members i y h

  members_are : members_of ctx.table s ≡ u.members
  members_are = ap (λ (o : Option StructShape). unwrap_or (option_map (λ (x : StructShape). x.members) o) []) table_is

  unions_are : unions_of ctx.table s ≡ u.unions
  unions_are = ap (λ (o : Option StructShape). unwrap_or (option_map (λ (x : StructShape). x.unions) o) []) table_is

  -- the names of the struct place
  struct_here : (a : ℕ) → Here a → IsStructPlace st ctx.table (container p.form) at_base s u
  struct_here a here = record { address = here.struct_is; struct_is = table_is; bytes = good.memory.bytes }

  named_here : (a : ℕ) → Here a → (i : ℕ) (y : Member) → slice_get u.members i ≡ Some y → IsNumber y.shape → IsNamed st at_base u i
  named_here a here i y h n =
      let block : IsBlock ctx.table blocks st.memory here.lies.block = struct_block f ctx blocks st good types s at_base here.lies in
      let within = member_within ctx.table types blocks st.memory here.lies.block block s at_base here.lies.place u table_is i y h
      (facts i y h).some in
      let below = below_block ctx.table types blocks st.memory here.lies.block block (at_base + y.offset) (shape_size ctx.table.structs
      y.shape) within in
      record {
        member = y;
        found = h;
        number = n;
        below = omega (arith, below);
        inside = subst (λ (n : ℕ). IsTrue (is_inside st.memory (at_base + y.offset) n)) (number_bytes ctx.table.structs y.shape n)
            (inside_block ctx.table types blocks st.memory here.lies.block block (at_base + y.offset) (shape_size ctx.table.structs
            y.shape) within);
      }

  -- ---- a value of this type, which is stored
  module _ (scalar : Scalar) (leaf : IsLeaf x.shape) (size : scalar_size scalar ≡ shape_size ctx.table.structs x.shape) (v : ℤ) (new : Sum)
      (once : (y : Member) (t : Scalar) → slice_get u.members m ≡ Some y → y.shape ≡ shape.Int t → AreOnce new.parts) where
    abbrev place_written : ℕ
    place_written = at_base + x.offset + 0 * shape_size ctx.table.structs x.shape

    abbrev stored_bytes : List ℕ
    stored_bytes = overwritten st.memory.bytes place_written (bytes_for scalar v)

    abbrev now : ℕ → ℤ
    now = member_value stored_bytes at_base u

    abbrev before : ℕ → ℤ
    before = member_value st.memory.bytes at_base u

    abbrev later : ℕ → ℤ
    later = renamed u before now

    abbrev Others : Type 0
    Others = OthersKeep f ctx blocks st types (of_struct (container p.form) s) (changed (names.OfStruct (container p.form) s) m new) m
        before later 0 (map shape_of u.members)

    first : place_written ≡ at_base + x.offset
    first = plus_zero (at_base + x.offset) (shape_size ctx.table.structs x.shape)
      where
        plus_zero : (i size : ℕ) → i + 0 * size ≡ i
        plus_zero i size = omega arith

    abbrev Stored : Type 0
    Stored = place_value stored_bytes place_written x.shape ≡ v

    now_is : Stored → now m ≡ v
    now_is e = ap (λ (o : Option Member). unwrap_or (option_map (λ y. place_value stored_bytes (at_base + y.offset) y.shape) o) (pos 0))
        member_is
        ∙ subst (λ (n : ℕ). place_value stored_bytes n x.shape ≡ v) first e

    stays_here : (a : ℕ) (here : Here a) (i : ℕ) (y : Member) → slice_get u.members i ≡ Some y → y.arm ≡ None → i ≢ m → now i ≡ before i
    stays_here a here i y h free n = member_stays f ctx blocks st good types slots p.form s m x found a here scalar leaf size v i y h free n

    renamed_here : (a : ℕ) (here : Here a) → HasValue st new v → Stored
        → AllRenamed f ctx blocks st types (of_struct (container p.form) s) (changed (names.OfStruct (container p.form) s) m new) m before
        later 0 (map shape_of u.members)
    renamed_here a here has e = all_renamed f ctx blocks st types (container p.form) at_base s u (struct_here a here) (named_here a here)
        facts m now new once
        (λ n. subst (HasValue st new) (sym (now_is e)) has) (stays_here a here)

    abbrev Tag : Type 0
    Tag = (a : ℕ) (y : UnionShape) → slice_get u.unions a ≡ Some y → y.tag ≡ m → (now m ≡ before m) ⊎ AreZero st.memory.bytes
        (at_base + y.offset) y.size

    keeps_here : (a : ℕ) (here : Here a) → HasValue st new v → Stored → HoldsFitting blocks ctx.table.elems ctx.table.structs now
        stored_bytes place_written x.shape → Others → Tag
        → Keeps f ctx blocks st good types slots p.form s m x found a here scalar leaf size v
    keeps_here a here has e own others tag = record {
      own = own;
      others = λ i y h n free alone held. others_hold f ctx blocks st types (container p.form) at_base s u (struct_here a here)
          (named_here a here) facts m now new once
          (λ n. subst (HasValue st new) (sym (now_is e)) has) (stays_here a here) stored_bytes refl others i y h n free held;
      tag = tag;
    }

    -- the store behind its checks
    stored_here : (a : ℕ) (here : Here a) → HasValue st new v → Stored → HoldsFitting blocks ctx.table.elems ctx.table.structs now
        stored_bytes place_written x.shape → Others → Tag
        → Safe (store st.memory scalar (pos a) v >>= remembers st) (λ x. IsGood ctx blocks x.state × (x.turn ≡ On))
    stored_here a here has e own others tag = member_stored f ctx blocks st good types slots p.form s m x found a here scalar leaf size v
        (keeps_here a here has e own others tag)

    -- what the checks of the siblings leave
    changes_sound : Sound f st ctx.first (member_changes ctx p s m new) (λ ids. (a : ℕ) (here : Here a) → HasValue st new v → Stored
        → Pass f st ids Others)
    unfolding member_changes
    changes_sound = weaker f st ctx.first _ _ _ (λ ids kept a here has e.
        let old : Naming = of_struct (container p.form) s in
        let changes : Naming = changed (names.OfStruct (container p.form) s) m new in
        safe_weaker (tests [] f st ids) _ _
        (kept (subst (λ (ms : List Member). AllRenamed f ctx blocks st types old changes m before later 0 (map shape_of ms))
        (sym members_are) (renamed_here a here has e)) (pass_none f st (Unit {0}) tt))
        (λ w g both. subst (λ (ms : List Member). OthersKeep f ctx blocks st types old changes m before later 0 (map shape_of ms))
        members_are both.1))
        (siblings_kept f ctx blocks st types (of_struct (container p.form) s) (changed (names.OfStruct (container p.form) s) m new) m
        (Unit {0}) before later 0 (map shape_of (members_of ctx.table s)) [])

  lies_here : (z : ℤ) → p.source ≡ source.Member s m → (l : IsPlace ctx blocks st p z) → Here l.address
  lies_here z from l = is_here f ctx blocks st good types slots p.form s m x found l.address
      (subst (λ (y : Source). LiesAt ctx blocks st p.form y l.address) from l.lies)

  room : (a : ℕ) (here : Here a) → at_base + x.offset + shape_size ctx.table.structs x.shape ≤ length st.memory.bytes
  room a here =
      let block : IsBlock ctx.table blocks st.memory here.lies.block = struct_block f ctx blocks st good types s at_base here.lies in
      let within = member_within ctx.table types blocks st.memory here.lies.block block s at_base here.lies.place u table_is m x member_is
      (facts m x member_is).some in
      let to = within.to in
      let there = block.there in
      omega (arith, to, there)

  -- ---- an integer
  module _ (scalar : Scalar) (is : x.shape ≡ shape.Int scalar) (w : Whole) where
    abbrev number : ℤ
    number = converted scalar (got_or_zero (eval [] f st w.form))

    integer : IsInteger scalar
    integer = subst (IsDeclared ctx.table) is (facts m x member_is).declared

    leaf_is : IsLeaf x.shape
    leaf_is = subst IsLeaf (sym is) tt

    size_is : scalar_size scalar ≡ shape_size ctx.table.structs x.shape
    size_is = ap (shape_size ctx.table.structs) (sym is)

    abbrev new_sum : Sum
    new_sum = sum_of (converted_side scalar w)

    once_is : (y : Member) (t : Scalar) → slice_get u.members m ≡ Some y → y.shape ≡ shape.Int t → AreOnce new_sum.parts
    once_is y t h e = converted_once f st scalar w

    range : IsTrue (is_of scalar number)
    range = converted_of scalar (got_or_zero (eval [] f st w.form)) (no_void scalar integer)

    plus_zero : (i size : ℕ) → i + 0 * size ≡ i
    plus_zero i size = omega arith

    value_stored : (a : ℕ) (here : Here a) → place_value (overwritten st.memory.bytes (at_base + x.offset + 0 * shape_size
        ctx.table.structs x.shape) (bytes_for scalar number))
        (at_base + x.offset + 0 * shape_size ctx.table.structs x.shape) x.shape ≡ number
    value_stored a here =
        let q : ℕ = at_base + x.offset + 0 * shape_size ctx.table.structs x.shape in
        let zero' = plus_zero (at_base + x.offset) (shape_size ctx.table.structs x.shape) in
        let all = room a here in
        ap (place_value (overwritten st.memory.bytes q (bytes_for scalar number)) q) is ∙ stored_value st.memory.bytes q scalar number
        (omega (arith, all, size_is, zero')) range

    own_int : (sibling : ℕ → ℤ) (bytes : List ℕ) (q : ℕ) → HoldsFitting blocks ctx.table.elems ctx.table.structs sibling bytes q x.shape
    own_int sibling bytes q = subst (λ (y : Shape). HoldsFitting blocks ctx.table.elems ctx.table.structs sibling bytes q y) (sym is) tt

    -- the tag's value, as it is
    old_value : (a : ℕ) (here : Here a) (z : ℤ) → eval [] f st p.form ≡ Ok z → z ≡ pos a → peek st (form.Load scalar p.form) ≡ Ok
        (member_value st.memory.bytes at_base u m)
    old_value a here z seen e =
        let block : IsBlock ctx.table blocks st.memory here.lies.block = struct_block f ctx blocks st good types s at_base here.lies in
        let within = subst (λ (y : Shape). IsWithin here.lies.block (at_base + x.offset) (shape_size ctx.table.structs y)) is
        (member_within ctx.table types blocks st.memory here.lies.block block s at_base here.lies.place u table_is m x member_is
        (facts m x member_is).some) in
        let value_is : member_value st.memory.bytes at_base u m ≡ value_from scalar (bytes_at st.memory.bytes (at_base + x.offset)
        (scalar_size scalar)) =
        ap (λ (o : Option Member). unwrap_or (option_map (λ y. place_value st.memory.bytes (at_base + y.offset) y.shape) o) (pos 0))
        member_is ∙ ap (place_value st.memory.bytes (at_base + x.offset)) is in
        eval_peek [] f st (form.Load scalar p.form) (member_value st.memory.bytes at_base u m)
        (eval-Load f st scalar p.form ∙ ap (λ (g : Got). g >>= λ y. load st.memory scalar y) (seen ∙ ap (λ (y : ℤ). Ok y)
        (e ∙ ap (λ (n : ℕ). pos n) here.at))
        ∙ loaded f ctx blocks st good types here.lies.block block scalar (at_base + x.offset) within ∙ ap (λ (y : ℤ). Ok y) (sym value_is))

    old_word : IsTrue (is_value (member_value st.memory.bytes at_base u m))
    old_word =
        let n : ℕ = little_endian (bytes_at st.memory.bytes (at_base + x.offset) (scalar_size scalar)) in
        let value_is : member_value st.memory.bytes at_base u m ≡ converted scalar (pos n) =
        ap (λ (o : Option Member). unwrap_or (option_map (λ y. place_value st.memory.bytes (at_base + y.offset) y.shape) o) (pos 0))
        member_is ∙ ap (place_value st.memory.bytes (at_base + x.offset)) is in
        subst (λ (y : ℤ). IsTrue (is_value y)) (sym value_is) (of_value scalar (converted scalar (pos n)) (converted_of scalar (pos n)
        (no_void scalar integer)))

    -- the bytes of a union are inside
    union_inside : (a : ℕ) (here : Here a) (y : UnionShape) (b : ℕ) → slice_get u.unions b ≡ Some y
        → IsInside st ((pos a +ℤ pos y.offset) +ℤ neg_ℤ (pos x.offset)) y.size
    union_inside a here y b h =
        let block : IsBlock ctx.table blocks st.memory here.lies.block = struct_block f ctx blocks st good types s at_base here.lies in
        let struct_in = open_within ctx.table types blocks st.memory here.lies.block block (shape.Struct s) at_base here.lies.place in
        let size : shape_size ctx.table.structs (shape.Struct s) ≡ u.size = ap (λ (o : Option StructShape). unwrap_or
        (option_map (λ (t : StructShape). t.size) o) 0) table_is in
        let in' = (types.structs s u table_is).unions b y h in
        let from = struct_in.from in
        let to = struct_in.to in
        let end = block.to in
        subst (λ (z : ℤ). IsInside st z y.size) (sym (address_is a y here.at))
        (record {
          is = refl;
          small = omega (arith, to, end, size, in');
          inside = block.inside (at_base + y.offset) y.size
              (omega (arith, from)) (omega (arith, to, size, in'));
        })
      where
        address_is : (a : ℕ) (y : UnionShape) → a ≡ at_base + x.offset → (pos a +ℤ pos y.offset) +ℤ neg_ℤ (pos x.offset) ≡ pos
            (at_base + y.offset)
        address_is a y e = omega (arith, ints, e)

    abbrev TagIs : Type 0
    TagIs = (a : ℕ) (y : UnionShape) → slice_get u.unions a ≡ Some y → y.tag ≡ m → (number ≡ member_value st.memory.bytes at_base u m) ⊎
        AreZero st.memory.bytes (at_base + y.offset) y.size

    -- a member that is no tag
    no_tag : tagged (unions_of ctx.table s) m ≡ None → TagIs
    no_tag none a y h e =
        let r = found_first (λ (u : UnionShape). u.tag == m) u.unions a y h ((Decides-eqb y.tag m).1 e) in
        absurd (not_none r.1 (sym none ∙ ap (λ (us : List UnionShape). find (λ (u : UnionShape). u.tag == m) us) unions_are ∙ r.2))
      where
        not_none : (x : UnionShape) → ◌≡◌ {A = Option UnionShape} None (Some x) → ⊥
        not_none x h = absurd cc

    -- a tag, by what its check says
    own_union : (y : UnionShape) → tagged (unions_of ctx.table s) m ≡ Some y → (a : ℕ) (x : UnionShape) → slice_get u.unions a ≡ Some x
        → x.tag ≡ m → x ≡ y
    own_union y is a x h e =
        let r = found_first (λ (u : UnionShape). u.tag == m) u.unions a x h ((Decides-eqb x.tag m).1 e) in
        let same : y ≡ r.1 = some_same y r.1 (sym is ∙ ap (λ (us : List UnionShape). find (λ (u : UnionShape). u.tag == m) us) unions_are
        ∙ r.2) in
        (types.structs s u table_is).own_tag a r.0 x r.1 h r.3 (e ∙ sym ((Decides-eqb r.1.tag m).0 r.4)) ∙ sym same

    single_value : (q : Part) (z : ℤ) → HasValue st (sum_of q) z → PartHasValue st q × (part_at st q ≡ z)
    unfolding parts_at
    single_value q z h = (h.read.0, plus (part_at st q) ∙ h.is)
      where
        plus : (y : ℤ) → y ≡ y +ℤ pos 0
        plus y = omega (arith, ints)

    -- what the check of the tag leaves
    tag_passes : (more : List ℕ) → (tagged (unions_of ctx.table s) m ≡ None → Pass f st more (Unit {0}))
        × ((y : UnionShape) → tagged (unions_of ctx.table s) m ≡ Some y → KeepsTag f ctx st p x.offset scalar (converted_side scalar w) y
        more)
        → (a : ℕ) (here : Here a) (z : ℤ) → eval [] f st p.form ≡ Ok z → z ≡ pos a → HasValue st p.at z → HasValue st new_sum number
        → Pass f st more TagIs
    tag_passes more pass a here z seen e at has = by (tagged (unions_of ctx.table s) m) refl
      where
        by : (o : Option UnionShape) → tagged (unions_of ctx.table s) m ≡ o → Pass f st more TagIs
        by None none = safe_weaker (tests [] f st more) _ _ (pass.0 none) (λ v g k. no_tag none)
        by (Some y) is_tag =
            let there = find_there (λ (u : UnionShape). u.tag == m) u.unions y
            (sym (ap (λ (us : List UnionShape). find (λ (u : UnionShape). u.tag == m) us) unions_are) ∙ is_tag) in
            let peeks = old_value a here z seen e in
            let old : ℤ = member_value st.memory.bytes at_base u m in
            let side = single_value (converted_side scalar w) number has in
            let zz : ℤ = (pos a +ℤ pos y.offset) +ℤ neg_ℤ (pos x.offset) in
            safe_weaker (tests [] f st more) _ _
            (pass.1 y is_tag (pos a) (subst (HasValue st p.at) e at) (atom_reads st (form.Load scalar p.form) old peeks old_word) side.0
            (union_inside a here y there.0 there.1))
            (λ v g k. tag_says y is_tag (zero_or y (atom_is st (form.Load scalar p.form) old peeks) side.1 k))
          where
            address_is : (a : ℕ) (y : UnionShape) → a ≡ at_base + x.offset → (pos a +ℤ pos y.offset) +ℤ neg_ℤ (pos x.offset) ≡ pos
                (at_base + y.offset)
            address_is a y e = omega (arith, ints, e)

            zero_or : (y : UnionShape) → part_at st (loaded_part scalar p) ≡ member_value st.memory.bytes at_base u m
                → part_at st (converted_side scalar w) ≡ number
                → (part_at st (loaded_part scalar p) ≡ part_at st (converted_side scalar w)) ⊎ IsTrue
                (clear_at st ((pos a +ℤ pos y.offset) +ℤ neg_ℤ (pos x.offset)) y.size)
                → (number ≡ member_value st.memory.bytes at_base u m) ⊎ AreZero st.memory.bytes (at_base + y.offset) y.size
            zero_or y old fresh (inl same) = inl (sym fresh ∙ sym same ∙ old)
            zero_or y old fresh (inr clear) = inr (clear_zero st.memory.bytes (at_base + y.offset) y.size
                (subst (λ (z : ℤ). IsTrue (clear_at st z y.size)) (address_is a y here.at) clear))

            tag_says : (y : UnionShape) → tagged (unions_of ctx.table s) m ≡ Some y → (number ≡ member_value st.memory.bytes at_base u m) ⊎
                AreZero st.memory.bytes (at_base + y.offset) y.size → TagIs
            tag_says y is_tag fact b x' h t =
                subst (λ (q : UnionShape). (number ≡ member_value st.memory.bytes at_base u m) ⊎ AreZero st.memory.bytes
                (at_base + q.offset) q.size) (sym (own_union y is_tag b x' h t)) fact

    abbrev written_value : ℕ → ℤ
    written_value = member_value (overwritten st.memory.bytes (at_base + x.offset + 0 * shape_size ctx.table.structs x.shape)
        (bytes_for scalar number)) at_base u

    tag_now : (written_value m ≡ number) → TagIs → Tag scalar leaf_is size_is number new_sum once_is
    tag_now e tag a y h t = either (tag a y h t)
      where
        either : (number ≡ member_value st.memory.bytes at_base u m) ⊎ AreZero st.memory.bytes (at_base + y.offset) y.size
            → (written_value m ≡ member_value st.memory.bytes at_base u m) ⊎ AreZero st.memory.bytes (at_base + y.offset) y.size
        either (inl same) = inl (e ∙ same)
        either (inr zero') = inr zero'

    pub store_number_sound : p.source ≡ source.Member s m → Sound f st ctx.first (store_number ctx p s m x.offset scalar w)
        (λ c. IsValue f ctx blocks st (value.Int w) → IsDerived f ctx blocks st (derived.Place p) → Leaves f ctx blocks st good types slots
        c)
    unfolding store_number act
    store_number_sound from =
        then_sound f st ctx.first _ _ _ _ (changes_sound scalar leaf_is size_is number new_sum once_is) (λ ids.
        then_sound f st ctx.first _ _ _ _ (any_tag_sound f ctx st p s m x.offset scalar (converted_side scalar w)) (λ more.
        pure_sound f st ctx.first (statement.Store ctx.line scalar p.form w.form (ids ++ more)) _ (λ tag kept dw dp.
        safe_same _ _ _ (ap (act [] f st) (statement.outs-Store ctx.line scalar p.form w.form (ids ++ more)))
        (safe_step (eval [] f st w.form) _ _ _ dw.1 (λ v0 seen whole.
        safe_step (eval [] f st p.form) _ _ _ dp (λ z seen_place l.
        let here = lies_here z from l in
        let same : converted scalar v0 ≡ number = ap (λ (g : Got). converted scalar (got_or_zero g)) (sym seen) in
        let has : HasValue st new_sum number = subst (λ (y : ℤ). HasValue st new_sum y) same (converted_has f st scalar w v0
        (no_void scalar integer) seen whole) in
        let e = value_stored l.address here in
        safe_bind (tests [] f st (ids ++ more)) _ _ _
        (pass_then f st ids more (Others scalar leaf_is size_is number new_sum once_is) TagIs (kept l.address here has e)
        (λ others. tag_passes more tag l.address here z seen_place l.is l.at has))
        (λ g both.
        safe_same (store st.memory scalar z number >>= remembers st) (taken scalar v0 >>= λ w. store st.memory scalar z w >>= remembers st)
        (λ a. IsGood ctx blocks a.state × (a.turn ≡ On))
        (ap (λ (g : Got). g >>= λ w. store st.memory scalar z w >>= remembers st) (taken_is scalar v0 integer ∙ ap (λ (y : ℤ). Ok y) same))
        (subst (λ (y : ℤ). Safe (store st.memory scalar y number >>= remembers st) (λ a. IsGood ctx blocks a.state × (a.turn ≡ On)))
        (sym l.is)
        (stored_here scalar leaf_is size_is number new_sum once_is l.address here has e (own_int _ _ _) both.0
        (tag_now (now_is scalar leaf_is size_is number new_sum once_is e) both.1))))))))))

  -- ---- a pointer
  module _ (elem : ℕ) (b : Bounds) (is : x.shape ≡ shape.Pointer elem b) (h : Handed) where
    abbrev pointer_value : ℤ
    pointer_value = got_or_zero (eval [] f st h.form)

    leaf_pointer : IsLeaf x.shape
    leaf_pointer = subst IsLeaf (sym is) tt

    size_pointer : scalar_size (Pointer 0) ≡ shape_size ctx.table.structs x.shape
    size_pointer = ap (shape_size ctx.table.structs) (sym is)

    once_pointer : (y : Member) (t : Scalar) → slice_get u.members m ≡ Some y → y.shape ≡ shape.Int t → AreOnce h.at.parts
    once_pointer y t found' e =
        let same : x ≡ y = some_same x y (sym member_is ∙ found') in
        absurd (no_int t (sym is ∙ ap (λ (z : Member). z.shape) same ∙ e))
      where
        no_int : (t : Scalar) → shape.Pointer elem b ≡ shape.Int t → ⊥
        no_int t e = absurd cc

    no_tag_pointer : (a : ℕ) (y : UnionShape) → slice_get u.unions a ≡ Some y → y.tag ≡ m → ⊥
    no_tag_pointer a y h e =
        let t = (types.structs s u table_is).tags a y h in
        let same : t.member ≡ x = some_same t.member x (sym t.found ∙ ap (λ (n : ℕ). slice_get u.members n) e ∙ member_is) in
        no_int t.scalar (sym t.shape_is ∙ ap (λ (z : Member). z.shape) same ∙ is)
      where
        no_int : (t : Scalar) → shape.Int t ≡ shape.Pointer elem b → ⊥
        no_int t e = absurd cc

    abbrev q : ℕ
    q = at_base + x.offset + 0 * shape_size ctx.table.structs x.shape

    abbrev pointer_bytes : List ℕ
    pointer_bytes = overwritten st.memory.bytes q (bytes_for (Pointer 0) pointer_value)

    abbrev pointer_now : ℕ → ℤ
    pointer_now = member_value pointer_bytes at_base u

    natural : (v : ℤ) → IsTrue (is_word v) → (n : ℕ) × (v ≡ pos n) × (n < 2 ^ 32)
    natural (pos n) h = (n, refl, grind arith)
    natural (negsuc n) h = absurd cc

    pointer_there : (a : ℕ) (here : Here a) → IsTrue (is_word pointer_value) → place_value pointer_bytes q x.shape ≡ pointer_value
    pointer_there a here word =
        let n = natural pointer_value word in
        let all = room a here in
        let zero' = plus_zero (at_base + x.offset) (shape_size ctx.table.structs x.shape) in
        ap (place_value pointer_bytes q) is ∙ ap (λ (y : ℤ). place_value (overwritten st.memory.bytes q (bytes_for (Pointer 0) y)) q
        (shape.Pointer elem b)) n.1
        ∙ word_stored st.memory.bytes q n.0 elem b (omega (arith, all, size_pointer, zero')) n.2 ∙ sym n.1
      where
        plus_zero : (i size : ℕ) → i + 0 * size ≡ i
        plus_zero i size = omega arith

    -- the member fits with the pointer in it; the checks of the coercion are `ids`
    abbrev Fitted : List ℕ → Bool → Type 0
    Fitted ids nullterm = (v a : ℤ) (n : ℕ) (here : Here n) → eval [] f st h.form ≡ Ok v → IsHanded f ctx blocks st types h elem nullterm v
        → Pass f st ids (HoldsFitting blocks ctx.table.elems ctx.table.structs pointer_now pointer_bytes q x.shape)

    store_fitted_sound : (key : Element) (nullterm : Bool) (K : Type 0) → p.source ≡ source.Member s m → Sound f st ctx.first
        (coerce_to ctx (of_struct (container p.form) s) key b h) (λ ids. K → Fitted ids nullterm)
        → Sound f st ctx.first (store_pointer ctx p s m key b h) (λ c. K → Hands f ctx blocks st good types slots h elem nullterm
        → IsDerived f ctx blocks st (derived.Place p) → Leaves f ctx blocks st good types slots c)
    unfolding store_pointer act
    store_fitted_sound key nullterm K from coerced =
        then_sound f st ctx.first _ _ _ _ coerced (λ ids.
        then_sound f st ctx.first _ _ _ _ (changes_sound (Pointer 0) leaf_pointer size_pointer pointer_value h.at once_pointer) (λ more.
        pure_sound f st ctx.first (statement.Store ctx.line (Pointer 0) p.form h.form (ids ++ more)) _ (λ kept fitted k dh dp.
        safe_same _ _ _ (ap (act [] f st) (statement.outs-Store ctx.line (Pointer 0) p.form h.form (ids ++ more)))
        (safe_step (eval [] f st h.form) _ _ _ dh (λ v seen handed'.
        safe_bind (eval [] f st p.form) _ _ _ dp (λ z l.
        let here = lies_here z from l in
        let same : v ≡ pointer_value = ap got_or_zero (sym seen) in
        let word : IsTrue (is_word pointer_value) = subst (λ (y : ℤ). IsTrue (is_word y)) same handed'.word in
        let has : HasValue st h.at pointer_value = subst (HasValue st h.at) same handed'.at in
        let e = pointer_there l.address here word in
        safe_bind (tests [] f st (ids ++ more)) _ _ _
        (pass_then f st ids more (HoldsFitting blocks ctx.table.elems ctx.table.structs pointer_now pointer_bytes q x.shape)
        (Others (Pointer 0) leaf_pointer size_pointer pointer_value h.at once_pointer)
        (fitted k v z l.address here seen handed') (λ own. kept l.address here has e))
        (λ g both.
        safe_same (store st.memory (Pointer 0) z pointer_value >>= remembers st) (taken (Pointer 0) v >>= λ w. store st.memory (Pointer 0)
        z w >>= remembers st) (λ a. IsGood ctx blocks a.state × (a.turn ≡ On))
        (ap (λ (g : Got). g >>= λ w. store st.memory (Pointer 0) z w >>= remembers st) (word_taken v handed'.word ∙ ap (λ (y : ℤ). Ok y)
        same))
        (subst (λ (y : ℤ). Safe (store st.memory (Pointer 0) y pointer_value >>= remembers st) (λ a. IsGood ctx blocks a.state
        × (a.turn ≡ On))) (sym l.is)
        (stored_here (Pointer 0) leaf_pointer size_pointer pointer_value h.at once_pointer l.address here has e both.0 both.1
        (λ a y h t. absurd (no_tag_pointer a y h t)))))))))))

  text_bounds : (elem : ℕ) (lo hi v : ℤ) → Fits blocks ctx.table.elems ctx.table.structs elem true lo hi v → Fits blocks ctx.table.elems
      ctx.table.structs elem true (pos 0) (pos 0) v
  text_bounds elem lo hi v (null e) = null e
  text_bounds elem lo hi v (in_text n t) = in_text n t
  text_bounds elem lo hi v (in_bounds n t) = absurd cc

  -- a side of the member's own annotation, which does not name the member
  module _ (bytes : List ℕ) (no_int : (t : Scalar) → x.shape ≡ shape.Int t → ⊥)
      (same : (i : ℕ) (y : Member) → slice_get u.members i ≡ Some y → y.arm ≡ None → i ≢ m → member_value bytes at_base u i ≡ member_value
      st.memory.bytes at_base u i) where
    own_base : (v : ℤ) (b : Option ℕ) → IsBaseOf u b → b ≢ Some m → edge_base (member_value bytes at_base u) v b ≡ edge_base
        (member_value st.memory.bytes at_base u) v b
    own_base v None n d = refl
    own_base v (Some i) n d = same i n.member n.found n.no_arm (λ e. d (ap (λ (i : ℕ). Some i) e))

    own_terms : (ts : List (ℤ × ℕ)) (sum : ℤ) → All (λ x. IsSibling u x.1) ts → All (λ x. IsIntegerMember u x.1) ts
        → edge_from (member_value bytes at_base u) ts sum ≡ edge_from (member_value st.memory.bytes at_base u) ts sum
    own_terms [] sum all whole = refl
    own_terms (t ∷ ts) sum all whole =
        let n = All-head (λ x. IsSibling u x.1) t ts all in
        let i = All-head (λ x. IsIntegerMember u x.1) t ts whole in
        let other : t.1 ≢ m = λ e. no_int i.2 (ap (λ (y : Member). y.shape) (some_same x i.0 (sym member_is
        ∙ ap (λ (k : ℕ). slice_get u.members k) (sym e) ∙ i.1)) ∙ i.3) in
        ap (λ (z : ℤ). edge_from (member_value bytes at_base u) ts (sum +ℤ (t.0 *ℤ z))) (same t.1 n.member n.found n.no_arm other)
        ∙ own_terms ts (sum +ℤ (t.0 *ℤ member_value st.memory.bytes at_base u t.1)) (All-tail (λ x. IsSibling u x.1) t ts all)
        (All-tail (λ x. IsIntegerMember u x.1) t ts whole)

    own_edge : (v : ℤ) (e : Edge) → NamesSiblings u e → e.base ≢ Some m → edge_value (member_value bytes at_base u) v e ≡ edge_value
        (member_value st.memory.bytes at_base u) v e
    unfolding edge_value
    own_edge v e n d = ap (λ (z : ℤ). edge_from (member_value bytes at_base u) e.terms (z +ℤ e.bytes)) (own_base v e.base n.base d)
        ∙ own_terms e.terms (edge_base (member_value st.memory.bytes at_base u) v e.base +ℤ e.bytes) n.terms n.integers

  store_bounded_sound : (elem : ℕ) (lo hi : Edge) (is : x.shape ≡ shape.Pointer elem (bounds.Within lo hi)) (key : Element) (h : Handed)
      → p.source ≡ source.Member s m
      → Sound f st ctx.first (store_pointer ctx p s m key (bounds.Within lo hi) h)
      (λ c. element_at ctx.table elem ≡ Some key → Hands f ctx blocks st good types slots h elem false → IsDerived f ctx blocks st
      (derived.Place p) → Leaves f ctx blocks st good types slots c)
  store_bounded_sound elem lo hi is key h from =
      let names = subst (ShapeNamesSiblings u) is (facts m x member_is).names in
      let own = subst (ShapeNamesOthers m) is (facts m x member_is).own in
      let v0 : ℤ = got_or_zero (eval [] f st h.form) in
      let q0 : ℕ = at_base + x.offset + 0 * shape_size ctx.table.structs x.shape in
      let bytes : List ℕ = overwritten st.memory.bytes q0 (bytes_for (Pointer 0) v0) in
      let now' : ℕ → ℤ = member_value bytes at_base u in
      store_fitted_sound elem (bounds.Within lo hi) is h key false (element_at ctx.table elem ≡ Some key) from (weaker f st ctx.first _ _ _
      (λ ids passes known v a n here seen handed'.
      let same : v ≡ v0 = ap got_or_zero (sym seen) in
      let word : IsTrue (is_word v0) = subst (λ (y : ℤ). IsTrue (is_word y)) same handed'.word in
      let there = pointer_there elem (bounds.Within lo hi) is h n here word in
      let stays' : (i : ℕ) (y : Member) → slice_get u.members i ≡ Some y → y.arm ≡ None → i ≢ m → now' i ≡ member_value st.memory.bytes
      at_base u i = λ i y f' free d.
      member_stays f ctx blocks st good types slots p.form s m x found n here (Pointer 0) (leaf_pointer elem (bounds.Within lo hi) is h)
      (size_pointer elem (bounds.Within lo hi) is h) v0 i y f' free d in
      let no_int : (t : Scalar) → x.shape ≡ shape.Int t → ⊥ = λ t e. pointer_no_int t elem (bounds.Within lo hi) (sym is ∙ e) in
      let value : place_value bytes q0 (shape.Pointer elem (bounds.Within lo hi)) ≡ v0 = sym (ap (place_value bytes q0) is) ∙ there in
      let low = own_edge bytes no_int stays' v0 lo names.0 own.0 in
      let high = own_edge bytes no_int stays' v0 hi names.1 own.1 in
      safe_weaker (tests [] f st ids) _ _
      (passes known (member_value st.memory.bytes at_base u) v handed' (old_names st ctx (container p.form) at_base s u
      (struct_here n here) (λ j w. named_here n here j w.member w.found w.number) lo names.0)
      (old_names st ctx (container p.form) at_base s u (struct_here n here) (λ j w. named_here n here j w.member w.found w.number) hi
      names.1))
      (λ g e fits. subst (λ (y : Shape). HoldsFitting blocks ctx.table.elems ctx.table.structs now' bytes q0 y) (sym is)
      (subst (λ (z : ℤ). Fits blocks ctx.table.elems ctx.table.structs elem false (edge_value now' z lo) (edge_value now' z hi) z)
      (sym value)
      (subst (λ (z : ℤ). Fits blocks ctx.table.elems ctx.table.structs elem false z (edge_value now' v0 hi) v0) (sym low)
      (subst (λ (z : ℤ). Fits blocks ctx.table.elems ctx.table.structs elem false (edge_value (member_value st.memory.bytes at_base u) v0
      lo) z v0) (sym high)
      (subst (λ (z : ℤ). Fits blocks ctx.table.elems ctx.table.structs elem false (edge_value (member_value st.memory.bytes at_base u) z
      lo) (edge_value (member_value st.memory.bytes at_base u) z hi) z) same fits))))))
      (coerce_to_sound f ctx blocks st types (of_struct (container p.form) s) key elem lo hi h))
    where
      pointer_no_int : (t : Scalar) (elem : ℕ) (b : Bounds) → shape.Pointer elem b ≡ shape.Int t → ⊥
      pointer_no_int t elem b e = absurd cc

  store_nullterm_sound : (elem : ℕ) (is : x.shape ≡ shape.Pointer elem bounds.Nullterm) (key : Element) (h : Handed)
      → p.source ≡ source.Member s m
      → Sound f st ctx.first (store_pointer ctx p s m key bounds.Nullterm h)
      (λ c. Hands f ctx blocks st good types slots h elem true → IsDerived f ctx blocks st (derived.Place p) → Leaves f ctx blocks st good
      types slots c)
  unfolding coerce_to
  store_nullterm_sound elem is key h from =
      let v0 : ℤ = got_or_zero (eval [] f st h.form) in
      let q0 : ℕ = at_base + x.offset + 0 * shape_size ctx.table.structs x.shape in
      let bytes : List ℕ = overwritten st.memory.bytes q0 (bytes_for (Pointer 0) v0) in
      let now' : ℕ → ℤ = member_value bytes at_base u in
      weaker f st ctx.first _ _ _ (λ c r d dp. r tt d dp) (store_fitted_sound elem bounds.Nullterm is h key true (Unit {0}) from
      (pure_sound f st ctx.first [] _ (λ k v a n here seen handed'.
      let same : v ≡ v0 = ap got_or_zero (sym seen) in
      let word : IsTrue (is_word v0) = subst (λ (y : ℤ). IsTrue (is_word y)) same handed'.word in
      let value : place_value bytes q0 (shape.Pointer elem bounds.Nullterm) ≡ v0 = sym (ap (place_value bytes q0) is)
      ∙ pointer_there elem bounds.Nullterm is h n here word in
      pass_none f st _ (subst (λ (y : Shape). HoldsFitting blocks ctx.table.elems ctx.table.structs now' bytes q0 y) (sym is)
      (subst (λ (z : ℤ). Fits blocks ctx.table.elems ctx.table.structs elem true (pos 0) (pos 0) z) (sym value)
      (subst (λ (z : ℤ). Fits blocks ctx.table.elems ctx.table.structs elem true (pos 0) (pos 0) z) same (text_bounds elem handed'.lo
      handed'.hi v handed'.fits)))))))

  -- ---- each assignment to a member
  store_shape_sound : (y : Derived) (t : Shape) → x.shape ≡ t → p.source ≡ source.Member s m
      → Sound f st ctx.first (store_member ctx p y s m x.offset t) (λ c. IsDerived f ctx blocks st y → IsDerived f ctx blocks st
      (derived.Place p) → Leaves f ctx blocks st good types slots c)
  unfolding store_member
  store_shape_sound y (shape.Int scalar) is from =
      then_sound f st ctx.first _ _ (λ w. integer_of ctx y ≡ Some w) _ (lift_sound f st ctx.first (integer_of ctx y) _ (λ w e. e)) (λ w.
      weaker f st ctx.first _ _ _ (λ c r e dy dp. r (integer_sound f ctx blocks st good types slots y w e dy) dp)
      (store_number_sound scalar is w from))
  store_shape_sound y (shape.Pointer elem bounds.Hidden) is from =
      then_sound f st ctx.first _ _ (λ key. Unit {0}) _ (lift_sound f st ctx.first (element_at ctx.table elem) _ (λ key e. tt)) (λ key.
      then_sound f st ctx.first _ _ (λ h. Unit {0}) _ (lift_sound f st ctx.first (handed ctx key false y) _ (λ h e. tt)) (λ h.
      hidden_none key h))
    where
      none' : ⊥
      none' = subst (IsDeclared ctx.table) is (facts m x member_is).declared

      hidden_none : (key : Element) (h : Handed) → Sound f st ctx.first (store_pointer ctx p s m key bounds.Hidden h)
          (λ c. Unit {0} → Unit {0} → IsDerived f ctx blocks st y → IsDerived f ctx blocks st (derived.Place p) → Leaves f ctx blocks st
          good types slots c)
      hidden_none key h = absurd none'
  store_shape_sound y (shape.Pointer elem bounds.Nullterm) is from =
      then_sound f st ctx.first _ _ (λ key. element_at ctx.table elem ≡ Some key) _ (lift_sound f st ctx.first (element_at ctx.table elem)
      _ (λ key e. e)) (λ key.
      then_sound f st ctx.first _ _ (λ h. handed ctx key true y ≡ Some h) _ (lift_sound f st ctx.first (handed ctx key true y) _
      (λ h e. e)) (λ h.
      weaker f st ctx.first _ _ _ (λ c r e k dy dp. r (handed_sound f ctx blocks st good types slots key elem true y h k e dy) dp)
      (store_nullterm_sound elem is key h from)))
  store_shape_sound y (shape.Pointer elem (bounds.Within lo hi)) is from =
      then_sound f st ctx.first _ _ (λ key. element_at ctx.table elem ≡ Some key) _ (lift_sound f st ctx.first (element_at ctx.table elem)
      _ (λ key e. e)) (λ key.
      then_sound f st ctx.first _ _ (λ h. handed ctx key false y ≡ Some h) _ (lift_sound f st ctx.first (handed ctx key false y) _
      (λ h e. e)) (λ h.
      weaker f st ctx.first _ _ _ (λ c r e k dy dp. r k (handed_sound f ctx blocks st good types slots key elem false y h k e dy) dp)
      (store_bounded_sound elem lo hi is key h from)))
  store_shape_sound y (shape.Struct k) is from = none_sound f st ctx.first _
  store_shape_sound y shape.Address is from = none_sound f st ctx.first _

  pub store_member_sound : (y : Derived) → p.source ≡ source.Member s m
      → Sound f st ctx.first (store_member ctx p y s m x.offset x.shape) (λ c. IsDerived f ctx blocks st y → IsDerived f ctx blocks st
      (derived.Place p) → Leaves f ctx blocks st good types slots c)
  store_member_sound y from = store_shape_sound y x.shape refl from
