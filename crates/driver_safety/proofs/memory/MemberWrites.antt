-- A write to a member of a struct place keeps what its element holds: where the member fits then, each sibling whose annotation names it
-- fits with its new value, and
-- a tag keeps its value or its union is clear.
use Rattle.std.proofs.Common.{◌≡◌, ◌≢◌, ◌⊎◌, inl, inr, ℕ, ◌+◌, ◌*◌, ◌≤◌, ◌<◌, ◌==◌, Bool, true, false, ◌||◌, List, [], ◌∷◌}
use Rattle.std.proofs.Common.{length, ℤ, pos, ◌+ℤ◌, Option, Some, None, is_some, option_map, unwrap_or, slice_get, refl, sym, ap, ◌∙◌}
use Rattle.std.proofs.Common.{subst, true≢false, arith}
use Rattle.std.specs.Ordering.{int_eq}
use Rattle.std.proofs.lemmas.Bool.Decides.{Decides-eqb, Decides-int_eq}
use Rattle.sd_base.specs.Blocks.{Block}
use Rattle.byte_memory.specs.Bytes.{overwritten}
use Rattle.checked_tree.specs.declared.shapes.Bounds.TheVariants as bounds
use Rattle.checked_tree.specs.declared.shapes.Edge.{Edge}
use Rattle.checked_tree.specs.declared.shapes.Member.{Member}
use Rattle.checked_tree.specs.declared.shapes.Shape.{Shape}
use Rattle.checked_tree.specs.declared.shapes.Shape.TheVariants as shape
use Rattle.checked_tree.specs.declared.shapes.StructShape.{StructShape}
use Rattle.checked_tree.specs.declared.shapes.UnionShape.{UnionShape}
use Rattle.checked_tree.specs.Edges.{edge_value, edge_from, edge_base}
use Rattle.layout_laws.proofs.ZeroFits.{LiesIn, zero_part}
use Rattle.layout_laws.proofs.ZeroValues.{zero_place}
use Rattle.deputy_types.specs.Fitting.{Fits, null, HoldsFitting, BytesFit, AreZero, Part, is_any, is_used, place_value}
use Rattle.deputy_types.specs.Fitting.{member_value, shape_size}
use Rattle.deputy_types.specs.Table.{Table, has_names, edge_has_names, has_terms, is_array}
use Rattle.driver_safety.specs.StructPlaces.{IsLeaf, SameUnion}
use Rattle.driver_safety.specs.TypeFacts.{HasTypes, IsMemberOf, IsArmIn, IsSibling, IsTag}
use Rattle.driver_safety.proofs.memory.Apart.{Below, below, IsElement, address_of, bytes_of, Related, same, first, second, union}
use Rattle.driver_safety.proofs.memory.Apart.{of_siblings, within}
use Rattle.driver_safety.proofs.memory.OpenWrites.{free_is}
use Rattle.driver_safety.proofs.memory.Stores.{StructFits, unreached, write_keeps}
use Rattle.driver_safety.proofs.memory.Writes.{all_some}

some_same : {A : Type 0} (a b : A) → ◌≡◌ {A = Option A} (Some a) (Some b) → a ≡ b
some_same a b h = cc

or_false : (a b : Bool) → (a || b) ≡ false → (a ≡ false) × (b ≡ false)
or_false true b h = absurd cc
or_false false b h = (refl, h)

-- ---- shapes without names
module _ (before after : ℕ → ℤ) where
  base_free : (v : ℤ) (b : Option ℕ) → is_some b ≡ false → edge_base after v b ≡ edge_base before v b
  base_free v None h = refl
  base_free v (Some k) h = absurd cc

  terms_free : (ts : List (ℤ × ℕ)) (sum : ℤ) → has_terms ts ≡ false → edge_from after ts sum ≡ edge_from before ts sum
  terms_free [] sum h = refl
  terms_free (t ∷ ts) sum h = absurd cc

  edge_free : (v : ℤ) (e : Edge) → edge_has_names e ≡ false → edge_value after v e ≡ edge_value before v e
  unfolding edge_value
  edge_free v e h =
      let both = or_false (is_some e.base) (has_terms e.terms) h in
      ap (λ (y : ℤ). edge_from after e.terms (y +ℤ e.bytes)) (base_free v e.base both.0) ∙ terms_free e.terms (edge_base before v e.base +ℤ
      e.bytes) both.1

  pub nameless_keeps : (blocks : List Block) (elems : List Shape) (structs : List StructShape) (bytes bytes' : List ℕ) (a : ℕ) (y : Shape)
      → has_names y ≡ false
      → place_value bytes' a y ≡ place_value bytes a y → HoldsFitting blocks elems structs before bytes a y → HoldsFitting blocks elems
      structs after bytes' a y
  unfolding has_names
  nameless_keeps blocks elems structs bytes bytes' a (shape.Int s) h e fits = tt
  nameless_keeps blocks elems structs bytes bytes' a (shape.Struct s) h e fits = tt
  nameless_keeps blocks elems structs bytes bytes' a shape.Address h e fits = tt
  nameless_keeps blocks elems structs bytes bytes' a (shape.Pointer elem bounds.Hidden) h e fits = tt
  nameless_keeps blocks elems structs bytes bytes' a (shape.Pointer elem bounds.Nullterm) h e fits = subst (λ (v : ℤ). Fits blocks elems
      structs elem true (pos 0) (pos 0) v) (sym e) fits
  nameless_keeps blocks elems structs bytes bytes' a (shape.Pointer elem (bounds.Within lo hi)) h e fits =
      let both = or_false (edge_has_names lo) (edge_has_names hi) h in
      let v : ℤ = place_value bytes a (shape.Pointer elem (bounds.Within lo hi)) in
      subst (λ (v : ℤ). Fits blocks elems structs elem false (edge_value after v lo) (edge_value after v hi) v) (sym e)
      (subst (λ (z : ℤ). Fits blocks elems structs elem false z (edge_value after v hi) v) (sym (edge_free v lo both.0))
      (subst (λ (z : ℤ). Fits blocks elems structs elem false (edge_value before v lo) z v) (sym (edge_free v hi both.1)) fits))

-- null fits whatever names stand for
pub null_holds : (blocks : List Block) (elems : List Shape) (structs : List StructShape) (sibling : ℕ → ℤ) (bytes : List ℕ) (a : ℕ)
    (y : Shape) → place_value bytes a y ≡ pos 0
    → HoldsFitting blocks elems structs sibling bytes a y
null_holds blocks elems structs sibling bytes a (shape.Int s) e = tt
null_holds blocks elems structs sibling bytes a (shape.Struct s) e = tt
null_holds blocks elems structs sibling bytes a shape.Address e = tt
null_holds blocks elems structs sibling bytes a (shape.Pointer elem bounds.Hidden) e = tt
null_holds blocks elems structs sibling bytes a (shape.Pointer elem bounds.Nullterm) e = null e
null_holds blocks elems structs sibling bytes a (shape.Pointer elem (bounds.Within lo hi)) e = null e

module _ (table : Table) (types : HasTypes table) (blocks : List Block) (bytes new : List ℕ) (at : ℕ) (x : Shape) (inside : at + shape_size
    table.structs x ≤ length bytes)
    (fit : BytesFit blocks table.elems table.structs bytes at x)
    (c s k : ℕ) (u : StructShape) (w : Member) (p : Part table.structs is_any at x c (shape.Struct s)) (known : slice_get table.structs s ≡
    Some u) (mem : slice_get u.members k ≡ Some w)
    (one : w.count ≡ 1) (used : is_used bytes c u w.arm ≡ true) (leaf : IsLeaf w.shape) (fills : length new ≡ shape_size table.structs
    w.shape) where
  abbrev elems : List Shape
  elems = table.elems

  abbrev structs : List StructShape
  structs = table.structs

  some : 0 < w.count
  some = omega (arith, one)

  abbrev e0 : IsElement structs s k 0
  e0 = record { structure = u; structure_is = known; member = w; member_is = mem; there = some }

  abbrev pub to : ℕ
  to = c + w.offset + 0 * shape_size structs w.shape

  abbrev pub after : List ℕ
  after = overwritten bytes to new

  abbrev here : Below structs c (shape.Struct s) at x
  here = below structs at x c (shape.Struct s) p

  member_facts : (i : ℕ) (m : Member) → slice_get u.members i ≡ Some m → IsMemberOf table s u i m
  member_facts i m is = (types.structs s u known).members i m is

  abbrev element_of : (i n : ℕ) (m : Member) → slice_get u.members i ≡ Some m → n < m.count → IsElement structs s i n
  element_of i n m is lt = record { structure = u; structure_is = known; member = m; member_is = is; there = lt }

  written_in : LiesIn at (shape_size structs x) to (shape_size structs w.shape)
  written_in = within structs types.tidy c s k 0 e0 at x here

  -- what is not written, and is no arm of the same union, keeps its value
  by_relation : (i n : ℕ) (m : Member) (is : slice_get u.members i ≡ Some m) (lt : n < m.count) → (SameUnion w m → ⊥) → (k ≡ i → 0 ≡ n → ⊥)
      → LiesIn at (shape_size structs x) (address_of c (element_of i n m is lt)) (bytes_of (element_of i n m is lt)) → Related structs c s
      k 0 e0 c s i n (element_of i n m is lt)
      → place_value after (c + m.offset + n * shape_size structs m.shape) m.shape ≡ place_value bytes (c + m.offset + n * shape_size
      structs m.shape) m.shape
  by_relation i n m is lt apart other lies (same p q r t) = absurd (other r t)
  by_relation i n m is lt apart other lies (union p q v) = absurd (apart v)
  by_relation i n m is lt apart other lies (first f) =
      let w_to = written_in.to in
      let to' = lies.to in
      unreached bytes new to (c + m.offset + n * shape_size structs m.shape) m.shape structs (omega (arith, w_to, inside, fills))
      (omega (arith, to', inside)) (inr (omega (arith, f, fills)))
  by_relation i n m is lt apart other lies (second f) =
      let w_to = written_in.to in
      let to' = lies.to in
      unreached bytes new to (c + m.offset + n * shape_size structs m.shape) m.shape structs (omega (arith, w_to, inside, fills))
      (omega (arith, to', inside)) (inl f)

  value_kept : (i n : ℕ) (m : Member) (is : slice_get u.members i ≡ Some m) (lt : n < m.count) → (SameUnion w m → ⊥) → (k ≡ i → 0 ≡ n → ⊥)
      → place_value after (c + m.offset + n * shape_size structs m.shape) m.shape ≡ place_value bytes (c + m.offset + n * shape_size
      structs m.shape) m.shape
  value_kept i n m is lt apart other =
      by_relation i n m is lt apart other (within structs types.tidy c s i n (element_of i n m is lt) at x here)
      (of_siblings structs types.tidy c s k 0 i n e0 (element_of i n m is lt))

  no_arm : (a : ℕ × ℤ) (o : Option (ℕ × ℤ)) → o ≡ None → o ≡ Some a → ⊥
  no_arm a o e h = none (sym e ∙ h)
    where
      none : ◌≡◌ {A = Option (ℕ × ℤ)} None (Some a) → ⊥
      none h = absurd cc

  plus_zero : (i size : ℕ) → i + 0 * size ≡ i
  plus_zero i size = omega arith

  -- the value of a member that is no arm
  pub stays_plain : (i : ℕ) (m : Member) → slice_get u.members i ≡ Some m → m.arm ≡ None → i ≢ k → member_value after c u i ≡ member_value
      bytes c u i
  stays_plain i m is free n =
      let first : c + m.offset + 0 * shape_size structs m.shape ≡ c + m.offset = plus_zero (c + m.offset) (shape_size structs m.shape) in
      let value = value_kept i 0 m is (member_facts i m is).some (λ v. no_arm (v.0, v.2) m.arm free v.4) (λ e g. n (sym e)) in
      ap (λ (o : Option Member). unwrap_or (option_map (λ m. place_value after (c + m.offset) m.shape) o) (pos 0)) is
      ∙ subst (λ (a : ℕ). place_value after a m.shape ≡ place_value bytes a m.shape) first value
      ∙ sym (ap (λ (o : Option Member). unwrap_or (option_map (λ m. place_value bytes (c + m.offset) m.shape) o) (pos 0)) is)

  pub stays : (i : ℕ) → IsSibling u i → i ≢ k → member_value after c u i ≡ member_value bytes c u i
  stays i is n = stays_plain i is.member is.found is.no_arm n

  -- what is expected of the write
  pub record KeepsStruct : Type 0 where
    pub own : HoldsFitting blocks elems structs (member_value after c u) after to w.shape
    pub others : (i : ℕ) (m : Member) → slice_get u.members i ≡ Some m → i ≢ k → m.arm ≡ None → m.count ≡ 1
        → HoldsFitting blocks elems structs (member_value bytes c u) bytes (c + m.offset) m.shape → HoldsFitting blocks elems structs
        (member_value after c u) after (c + m.offset) m.shape
    pub tag : (a : ℕ) (y : UnionShape) → slice_get u.unions a ≡ Some y → y.tag ≡ k
        → (member_value after c u k ≡ member_value bytes c u k) ⊎ AreZero bytes (c + y.offset) y.size

  module _ (keeps : KeepsStruct) where
    abbrev Holds : ℕ → ℕ → Member → Type 0
    Holds i n m = HoldsFitting blocks elems structs (member_value after c u) after (c + m.offset + n * shape_size structs m.shape) m.shape

    -- the number of an arm's tag
    tag_number : (a : ℕ) (y : UnionShape) → slice_get u.unions a ≡ Some y → unwrap_or (option_map (λ (u : UnionShape). u.tag)
        (slice_get u.unions a)) 0 ≡ y.tag
    tag_number a y is = ap (λ (o : Option UnionShape). unwrap_or (option_map (λ (u : UnionShape). u.tag) o) 0) is

    -- an arm that the tag selected before
    old_arm : (i : ℕ) (m : Member) (is : slice_get u.members i ≡ Some m) (lt : 0 < m.count) (a : ℕ) (z : ℤ) → m.arm ≡ Some (a, z)
        → (in' : IsArmIn table u a m) → i ≢ k
        → (SameUnion w m → ⊥) → member_value after c u in'.union.tag ≡ member_value bytes c u in'.union.tag → is_used after c u m.arm ≡
        true → Holds i 0 m
    old_arm i m is lt a z e in' n apart value chosen =
        let number = tag_number a in'.union in'.union_is in
        let same_tag : member_value after c u (unwrap_or (option_map (λ (u : UnionShape). u.tag) (slice_get u.unions a)) 0) ≡ member_value
        bytes c u (unwrap_or (option_map (λ (u : UnionShape). u.tag) (slice_get u.unions a)) 0) =
        ap (member_value after c u) number ∙ value ∙ ap (member_value bytes c u) (sym number) in
        let before : is_used bytes c u (Some (a, z)) ≡ true = subst (λ (y : ℤ). int_eq y z ≡ true) same_tag
        (subst (λ (o : Option (ℕ × ℤ)). is_used after c u o ≡ true) e chosen) in
        nameless_keeps (member_value bytes c u) (member_value after c u) blocks elems structs bytes after (c + m.offset + 0 * shape_size
        structs m.shape) m.shape in'.nameless
        (value_kept i 0 m is lt apart (λ g h. n (sym g)))
        (fit.members c s i 0 u m p known is (subst (λ (o : Option (ℕ × ℤ)). is_used bytes c u o ≡ true) (sym e) before) lt)

    -- the constant that a used arm has
    constant_is : (b : List ℕ) (a : ℕ) (y : UnionShape) (z : ℤ) (o : Option (ℕ × ℤ)) → o ≡ Some (a, z) → slice_get u.unions a ≡ Some y
        → is_used b c u o ≡ true → member_value b c u y.tag ≡ z
    constant_is b a y z o e is h =
        let chosen : is_used b c u (Some (a, z)) ≡ true = subst (λ (o : Option (ℕ × ℤ)). is_used b c u o ≡ true) e h in
        (Decides-int_eq (member_value b c u y.tag) z).0 (subst (λ (n : ℕ). int_eq (member_value b c u n) z ≡ true) (tag_number a y is)
        chosen)

    -- of two arms of one union one alone is used, where their tag is not written
    not_both : (i : ℕ) (m : Member) (is : slice_get u.members i ≡ Some m) (a : ℕ) (z : ℤ) → m.arm ≡ Some (a, z)
        → (in' : IsArmIn table u a m) → i ≢ k → is_used after c u m.arm ≡ true
        → member_value after c u in'.union.tag ≡ member_value bytes c u in'.union.tag → SameUnion w m → ⊥
    not_both i m is a z e in' n chosen value v =
        let pair : (v.0, v.2) ≡ (a, z) = some_same (v.0, v.2) (a, z) (sym v.4 ∙ e) in
        let part : v.0 ≡ a = ap (λ (y : ℕ × ℤ). y.0) pair in
        let w_arm : w.arm ≡ Some (a, v.1) = v.3 ∙ ap (λ (y : ℕ). Some (y, v.1)) part in
        let old = constant_is bytes a in'.union v.1 w.arm w_arm in'.union_is used in
        let now = constant_is after a in'.union z m.arm e in'.union_is chosen in
        (types.structs s u known).distinct k i w m mem is (λ g. n (sym g)) a v.1 z w_arm e (sym old ∙ sym value ∙ now)

    -- what the tag of a union with zero bytes selects is null
    zero_arm : (i : ℕ) (m : Member) (is : slice_get u.members i ≡ Some m) (lt : 0 < m.count) (a : ℕ) → (in' : IsArmIn table u a m) → i ≢ k
        → (SameUnion w m → ⊥)
        → AreZero bytes (c + in'.union.offset) in'.union.size → Holds i 0 m
    zero_arm i m is lt a in' n apart zero' =
        null_holds blocks elems structs (member_value after c u) after (c + m.offset + 0 * shape_size structs m.shape) m.shape
        (value_kept i 0 m is lt apart (λ g h. n (sym g))
        ∙ ap (λ (q : ℕ). place_value bytes q m.shape) (plus_zero (c + m.offset) (shape_size structs m.shape))
        ∙ zero_place structs bytes (c + m.offset) m.shape
        (zero_part bytes (c + in'.union.offset) in'.union.size (c + m.offset) (shape_size structs m.shape)
        (inside_union (shape_size structs m.shape) in'.from in'.to) zero'))
      where
        inside_union : (size : ℕ) → m.offset ≡ in'.union.offset → size ≤ in'.union.size → LiesIn (c + in'.union.offset) in'.union.size
            (c + m.offset) size
        inside_union size e l = record { from = omega (arith, e); to = omega (arith, e, l) }

    -- an arm that is not written
    other_arm : (i : ℕ) (m : Member) (is : slice_get u.members i ≡ Some m) (lt : 0 < m.count) (a : ℕ) (z : ℤ) → m.arm ≡ Some (a, z) → i ≢ k
        → is_used after c u m.arm ≡ true → Holds i 0 m
    other_arm i m is lt a z e n chosen = by (in'.union.tag == k) refl
      where
        in' : IsArmIn table u a m
        in' = (member_facts i m is).arm a z e

        tag_is : IsTag u in'.union.tag
        tag_is = (types.structs s u known).tags a in'.union in'.union_is

        by : (b : Bool) → (in'.union.tag == k) ≡ b → Holds i 0 m
        by false g =
            let other : in'.union.tag ≢ k = λ h. true≢false (sym ((Decides-eqb in'.union.tag k).1 h) ∙ g) in
            let value = stays_plain in'.union.tag tag_is.member tag_is.found tag_is.no_arm other in
            old_arm i m is lt a z e in' n (not_both i m is a z e in' n chosen value) value chosen
        by true g =
            let here' : in'.union.tag ≡ k = (Decides-eqb in'.union.tag k).0 g in
            let same_member : tag_is.member ≡ w = some_same tag_is.member w (sym tag_is.found ∙ ap (λ (n : ℕ). slice_get u.members n) here'
            ∙ mem) in
            let free : w.arm ≡ None = subst (λ (y : Member). y.arm ≡ None) same_member tag_is.no_arm in
            let apart : SameUnion w m → ⊥ = λ v. no_arm (v.0, v.1) w.arm free v.3 in
            either here' apart (keeps.tag a in'.union in'.union_is here')
          where
            either : in'.union.tag ≡ k → (SameUnion w m → ⊥) → (member_value after c u k ≡ member_value bytes c u k) ⊎ AreZero bytes
                (c + in'.union.offset) in'.union.size → Holds i 0 m
            either h apart (inl value) =
                old_arm i m is lt a z e in' n apart (ap (member_value after c u) h ∙ value ∙ ap (member_value bytes c u) (sym h)) chosen
            either h apart (inr zero') = zero_arm i m is lt a in' n apart zero'

    -- a member that is alone, and no arm
    single : (i n : ℕ) (m : Member) (is : slice_get u.members i ≡ Some m) (lt : n < m.count) → m.arm ≡ None → m.count ≡ 1
        → is_used after c u m.arm ≡ true → Holds i n m
    single i n m is lt free alone chosen = by (i == k) refl
      where
        first : 0 ≡ n
        first = omega (arith, lt, alone)

        by : (b : Bool) → (i == k) ≡ b → Holds i n m
        by true g =
            let here' : i ≡ k = (Decides-eqb i k).0 g in
            let same_member : w ≡ m = some_same w m (sym mem ∙ ap (λ (n : ℕ). slice_get u.members n) (sym here') ∙ is) in
            subst (λ (q : ℕ). HoldsFitting blocks elems structs (member_value after c u) after (c + m.offset + q * shape_size structs
            m.shape) m.shape) first
            (subst (λ (y : Member). HoldsFitting blocks elems structs (member_value after c u) after (c + y.offset + 0 * shape_size structs
            y.shape) y.shape) same_member keeps.own)
        by false g =
            let other : i ≢ k = λ h. true≢false (sym ((Decides-eqb i k).1 h) ∙ g) in
            let old : is_used bytes c u m.arm ≡ true = subst (λ (o : Option (ℕ × ℤ)). is_used bytes c u o ≡ true) (sym free) refl in
            let before = fit.members c s i 0 u m p known is old (omega (arith, alone)) in
            let at_first = plus_zero (c + m.offset) (shape_size structs m.shape) in
            subst (λ (q : ℕ). HoldsFitting blocks elems structs (member_value after c u) after (c + m.offset + q * shape_size structs
            m.shape) m.shape) first
            (subst (λ (q : ℕ). HoldsFitting blocks elems structs (member_value after c u) after q m.shape) (sym at_first)
            (keeps.others i m is other free alone (subst (λ (q : ℕ). HoldsFitting blocks elems structs (member_value bytes c u) bytes q
            m.shape) at_first before)))

    -- an array is open, and names nothing
    many : (i n : ℕ) (m : Member) (is : slice_get u.members i ≡ Some m) (lt : n < m.count) → is_array table s i ≡ true
        → (k ≡ i → 0 ≡ n → ⊥) → Holds i n m
    many i n m is lt array other =
        let open' = (member_facts i m is).array array in
        let free = free_is u i m open' in
        let old : is_used bytes c u m.arm ≡ true = subst (λ (o : Option (ℕ × ℤ)). is_used bytes c u o ≡ true) (sym free.arm) refl in
        nameless_keeps (member_value bytes c u) (member_value after c u) blocks elems structs bytes after (c + m.offset + n * shape_size
        structs m.shape) m.shape free.nameless
        (value_kept i n m is lt (λ v. no_arm (v.0, v.2) m.arm free.arm v.4) other) (fit.members c s i n u m p known is old lt)

    each_fits : (i n : ℕ) (m : Member) (is : slice_get u.members i ≡ Some m) → is_used after c u m.arm ≡ true → (lt : n < m.count)
        → Holds i n m
    each_fits i n m is chosen lt = by m.arm refl
      where
        first : (a : ℕ) (z : ℤ) → m.arm ≡ Some (a, z) → 0 ≡ n
        first a z e = let one' = ((member_facts i m is).arm a z e).one in omega (arith, lt, one')

        by_array : m.arm ≡ None → (b : Bool) → is_array table s i ≡ b → Holds i n m
        by_array e false g = single i n m is lt e ((member_facts i m is).single g) chosen
        by_array e true g = by_number (k == i) (0 == n) refl refl
          where
            own' : k ≡ i → 0 ≡ n → Holds i n m
            own' h q =
                let same_member : w ≡ m = some_same w m (sym mem ∙ ap (λ (n : ℕ). slice_get u.members n) h ∙ is) in
                subst (λ (q : ℕ). HoldsFitting blocks elems structs (member_value after c u) after (c + m.offset + q * shape_size structs
                m.shape) m.shape) q
                (subst (λ (y : Member). HoldsFitting blocks elems structs (member_value after c u) after (c + y.offset + 0 * shape_size
                structs y.shape) y.shape) same_member keeps.own)

            by_number : (x y : Bool) → (k == i) ≡ x → (0 == n) ≡ y → Holds i n m
            by_number true true h q = own' ((Decides-eqb k i).0 h) ((Decides-eqb 0 n).0 q)
            by_number false y h q = many i n m is lt g (λ a b. true≢false (sym ((Decides-eqb k i).1 a) ∙ h))
            by_number true false h q = many i n m is lt g (λ a b. true≢false (sym ((Decides-eqb 0 n).1 b) ∙ q))

        by_arm : (a : ℕ) (z : ℤ) → m.arm ≡ Some (a, z) → (b : Bool) → (i == k) ≡ b → Holds i n m
        by_arm a z e false g =
            subst (λ (q : ℕ). HoldsFitting blocks elems structs (member_value after c u) after (c + m.offset + q * shape_size structs
            m.shape) m.shape) (first a z e)
            (other_arm i m is (member_facts i m is).some a z e (λ h. true≢false (sym ((Decides-eqb i k).1 h) ∙ g)) chosen)
        by_arm a z e true g =
            let here' : i ≡ k = (Decides-eqb i k).0 g in
            let same_member : w ≡ m = some_same w m (sym mem ∙ ap (λ (n : ℕ). slice_get u.members n) (sym here') ∙ is) in
            subst (λ (q : ℕ). HoldsFitting blocks elems structs (member_value after c u) after (c + m.offset + q * shape_size structs
            m.shape) m.shape) (first a z e)
            (subst (λ (y : Member). HoldsFitting blocks elems structs (member_value after c u) after (c + y.offset + 0 * shape_size structs
            y.shape) y.shape) same_member keeps.own)

        by : (o : Option (ℕ × ℤ)) → m.arm ≡ o → Holds i n m
        by None e = by_array e (is_array table s i) refl
        by (Some arm) e = by_arm arm.0 arm.1 e (i == k) refl

    struct_fits : StructFits blocks elems structs after c s
    struct_fits = record {
      each = λ i n t m known' is chosen lt.
          let same_struct : u ≡ t = some_same u t (sym known ∙ known') in
          subst (λ (t : StructShape). slice_get t.members i ≡ Some m → is_used after c t m.arm ≡ true
          → HoldsFitting blocks elems structs (member_value after c t) after (c + m.offset + n * shape_size structs m.shape) m.shape)
          same_struct
          (λ is chosen. each_fits i n m is chosen lt) is chosen;
    }

    pub member_written : BytesFit blocks elems structs after at x
    member_written = write_keeps blocks elems structs types.tidy (all_some table types) bytes new at x inside c s k 0 e0 leaf here fills
        fit struct_fits
