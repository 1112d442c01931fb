-- A union whose bytes become 0: each arm that a tag may select holds 0 then, and all other members keep what they hold.
use Rattle.std.proofs.Common.{◌≡◌, ◌≢◌, inl, inr, ℕ, zero, suc, ◌+◌, ◌*◌, ◌≤◌, ◌<◌, ◌==◌, IsTrue, Bool, true, false, List}
use Rattle.std.proofs.Common.{length, replicate, ℤ, pos, Option, Some, None, option_map, unwrap_or, slice_get, refl, sym, ap, ◌∙◌, subst}
use Rattle.std.proofs.Common.{true≢false, arith}
use Rattle.std.specs.List.{list_all}
use Rattle.std.specs.Ordering.{int_eq}
use Rattle.std.proofs.lemmas.Bool.Decides.{Decides-eqb}
use Rattle.sd_base.specs.Blocks.{Block}
use Rattle.byte_memory.specs.Bytes.{overwritten, zeros}
use Rattle.byte_memory.proofs.Addresses.{bytes_at-overwritten}
use Rattle.byte_memory.proofs.Words.{length-zeros}
use Rattle.checked_tree.specs.declared.shapes.Bounds.TheVariants as bounds
use Rattle.checked_tree.specs.declared.shapes.Member.{Member}
use Rattle.checked_tree.specs.declared.shapes.Shape.{Shape}
use Rattle.checked_tree.specs.declared.shapes.Shape.TheVariants as shape
use Rattle.checked_tree.specs.declared.shapes.StructShape.{StructShape}
use Rattle.checked_tree.specs.declared.shapes.UnionShape.{UnionShape}
use Rattle.checked_tree.specs.Edges.{edge_value}
use Rattle.layout_laws.proofs.ZeroFits.{LiesIn, zero_part}
use Rattle.layout_laws.proofs.ZeroValues.{zero_place}
use Rattle.deputy_types.specs.Fitting.{Fits, HoldsFitting, BytesFit, AreZero, Part, is_any, is_used, place_value, member_value, shape_size}
use Rattle.deputy_types.specs.Table.{Table}
use Rattle.driver_safety.specs.StructPlaces.{IsLeaf}
use Rattle.driver_safety.specs.TypeFacts.{HasTypes, IsFilled, IsMemberOf, IsArmIn, IsSibling, IsTag, ShapeNamesSiblings}
use Rattle.driver_safety.proofs.assignments.MemberNames.{names_same}
use Rattle.driver_safety.proofs.assignments.TagRules.{clear_zero}
use Rattle.driver_safety.proofs.memory.Apart.{Below, below, IsElement, address_of, bytes_of, Related, same, first, second, union}
use Rattle.driver_safety.proofs.memory.Apart.{of_siblings, within}
use Rattle.driver_safety.proofs.memory.MemberWrites.{nameless_keeps, null_holds}
use Rattle.driver_safety.proofs.memory.Stores.{StructFits, unreached, write_keeps}
use Rattle.driver_safety.proofs.memory.Writes.{all_some}

some_same : {A : Type 0} (a b : A) → ◌≡◌ {A = Option A} (Some a) (Some b) → a ≡ b
some_same a b h = cc

all_zero : (n : ℕ) → IsTrue (list_all (λ b. b == 0) (replicate n 0))
all_zero zero = refl
all_zero (suc n) = all_zero n

zeros_zero : (n : ℕ) → IsTrue (list_all (λ b. b == 0) (zeros n))
unfolding zeros
zeros_zero n = all_zero n

pub zeros_there : (bytes : List ℕ) (a n : ℕ) → a + n ≤ length bytes → AreZero (overwritten bytes a (zeros n)) a n
zeros_there bytes a n l = clear_zero (overwritten bytes a (zeros n)) a n
    (subst (λ (bs : List ℕ). IsTrue (list_all (λ b. b == 0) bs)) (sym (bytes_at-overwritten bytes (zeros n) a n (length-zeros n) l))
    (zeros_zero n))

module _ (table : Table) (types : HasTypes table) (blocks : List Block) (bytes : List ℕ) (at : ℕ) (x : Shape) (inside : at + shape_size
    table.structs x ≤ length bytes)
    (fit : BytesFit blocks table.elems table.structs bytes at x)
    (c s part : ℕ) (u : StructShape) (y : UnionShape) (p : Part table.structs is_any at x c (shape.Struct s))
    (known : slice_get table.structs s ≡ Some u) (there : slice_get u.unions part ≡ Some y) where
  abbrev elems : List Shape
  elems = table.elems

  abbrev structs : List StructShape
  structs = table.structs

  -- an arm of this union
  same_union : (m : Member) (own : IsArmIn table u part m) → own.union ≡ y
  same_union m own = some_same own.union y (sym own.union_is ∙ there)

  from_union : (m : Member) → IsArmIn table u part m → m.offset ≡ y.offset
  from_union m own = own.from ∙ ap (λ (w : UnionShape). w.offset) (same_union m own)

  to_union : (m : Member) → IsArmIn table u part m → shape_size structs m.shape ≤ y.size
  to_union m own = subst (λ (w : UnionShape). shape_size structs m.shape ≤ w.size) (same_union m own) own.to

  abbrev full : IsFilled table u part y
  full = (types.structs s u known).filled part y there

  facts : (i : ℕ) (m : Member) → slice_get u.members i ≡ Some m → IsMemberOf table s u i m
  facts i m is = (types.structs s u known).members i m is

  arm_facts : (i : ℕ) (m : Member) → slice_get u.members i ≡ Some m → (z : ℤ) → m.arm ≡ Some (part, z) → IsArmIn table u part m
  arm_facts i m is z e = (facts i m is).arm part z e

  some : 0 < full.member.count
  some = (facts full.number full.member full.found).some

  leaf : IsLeaf full.member.shape
  leaf = types.tidy.plain s u full.number full.member part full.constant known full.found full.arm_is

  abbrev e0 : IsElement structs s full.number 0
  e0 = record { structure = u; structure_is = known; member = full.member; member_is = full.found; there = some }

  abbrev new : List ℕ
  new = zeros y.size

  abbrev to : ℕ
  to = c + full.member.offset + 0 * shape_size structs full.member.shape

  abbrev after : List ℕ
  after = overwritten bytes to new

  fills : length new ≡ shape_size structs full.member.shape
  fills = length-zeros y.size ∙ sym full.size

  abbrev here : Below structs c (shape.Struct s) at x
  here = below structs at x c (shape.Struct s) p

  abbrev element_of : (i n : ℕ) (m : Member) → slice_get u.members i ≡ Some m → n < m.count → IsElement structs s i n
  element_of i n m is lt = record { structure = u; structure_is = known; member = m; member_is = is; there = lt }

  written_in : LiesIn at (shape_size structs x) to (shape_size structs full.member.shape)
  written_in = within structs types.tidy c s full.number 0 e0 at x here

  zero_region : AreZero after to y.size
  zero_region = let end = written_in.to in let size = full.size in zeros_there bytes to y.size (omega (arith, end, inside, size))

  -- what is no arm of the union keeps its value
  by_relation : (i n : ℕ) (m : Member) (is : slice_get u.members i ≡ Some m) (lt : n < m.count) → ((z : ℤ) → m.arm ≡ Some (part, z) → ⊥)
      → LiesIn at (shape_size structs x) (address_of c (element_of i n m is lt)) (bytes_of (element_of i n m is lt)) → Related structs c s
      full.number 0 e0 c s i n (element_of i n m is lt)
      → place_value after (c + m.offset + n * shape_size structs m.shape) m.shape ≡ place_value bytes (c + m.offset + n * shape_size
      structs m.shape) m.shape
  by_relation i n m is lt other lies (same p q r t) =
      absurd (other full.constant (subst (λ (w : Member). w.arm ≡ Some (part, full.constant)) (some_same full.member m (sym full.found
      ∙ ap (λ (n : ℕ). slice_get u.members n) r ∙ is)) full.arm_is))
  by_relation i n m is lt other lies (union p q v) =
      let pair : (v.0, v.1) ≡ (part, full.constant) = some_same (v.0, v.1) (part, full.constant) (sym v.3 ∙ full.arm_is) in
      absurd (other v.2 (v.4 ∙ ap (λ (b : ℕ). Some (b, v.2)) (ap (λ (q : ℕ × ℤ). q.0) pair)))
  by_relation i n m is lt other lies (first f) =
      let w_to = written_in.to in
      let to' = lies.to in
      unreached bytes new to (c + m.offset + n * shape_size structs m.shape) m.shape structs (omega (arith, w_to, inside, fills))
      (omega (arith, to', inside)) (inr (omega (arith, f, fills)))
  by_relation i n m is lt other lies (second f) =
      let w_to = written_in.to in
      let to' = lies.to in
      unreached bytes new to (c + m.offset + n * shape_size structs m.shape) m.shape structs (omega (arith, w_to, inside, fills))
      (omega (arith, to', inside)) (inl f)

  value_kept : (i n : ℕ) (m : Member) (is : slice_get u.members i ≡ Some m) (lt : n < m.count) → ((z : ℤ) → m.arm ≡ Some (part, z) → ⊥)
      → place_value after (c + m.offset + n * shape_size structs m.shape) m.shape ≡ place_value bytes (c + m.offset + n * shape_size
      structs m.shape) m.shape
  value_kept i n m is lt other =
      by_relation i n m is lt other (within structs types.tidy c s i n (element_of i n m is lt) at x here) (of_siblings structs types.tidy
      c s full.number 0 i n e0 (element_of i n m is lt))

  no_arm : (o : Option (ℕ × ℤ)) (a : ℕ × ℤ) → o ≡ None → o ≡ Some a → ⊥
  no_arm o a e h = none (sym e ∙ h)
    where
      none : ◌≡◌ {A = Option (ℕ × ℤ)} None (Some a) → ⊥
      none h = absurd cc

  stays : (i : ℕ) (m : Member) → slice_get u.members i ≡ Some m → m.arm ≡ None → member_value after c u i ≡ member_value bytes c u i
  stays i m is free =
      let value = value_kept i 0 m is (facts i m is).some (λ z e. no_arm m.arm (part, z) free e) in
      ap (λ (o : Option Member). unwrap_or (option_map (λ m. place_value after (c + m.offset) m.shape) o) (pos 0)) is
      ∙ subst (λ (a : ℕ). place_value after a m.shape ≡ place_value bytes a m.shape) (plus_zero (c + m.offset)
      (shape_size structs m.shape)) value
      ∙ sym (ap (λ (o : Option Member). unwrap_or (option_map (λ m. place_value bytes (c + m.offset) m.shape) o) (pos 0)) is)
    where
      plus_zero : (i size : ℕ) → i + 0 * size ≡ i
      plus_zero i size = omega arith

  agree : (j : ℕ) → IsSibling u j → member_value after c u j ≡ member_value bytes c u j
  agree j n = stays j n.member n.found n.no_arm

  -- bounds whose names keep their values
  shape_keeps : (a : ℕ) (z : Shape) → ShapeNamesSiblings u z → place_value after a z ≡ place_value bytes a z → HoldsFitting blocks elems
      structs (member_value bytes c u) bytes a z
      → HoldsFitting blocks elems structs (member_value after c u) after a z
  shape_keeps a (shape.Int t) n e h = tt
  shape_keeps a (shape.Struct t) n e h = tt
  shape_keeps a shape.Address n e h = tt
  shape_keeps a (shape.Pointer elem bounds.Hidden) n e h = tt
  shape_keeps a (shape.Pointer elem bounds.Nullterm) n e h = subst (λ (v : ℤ). Fits blocks elems structs elem true (pos 0) (pos 0) v)
      (sym e) h
  shape_keeps a (shape.Pointer elem (bounds.Within lo hi)) n e h =
      let v : ℤ = place_value bytes a (shape.Pointer elem (bounds.Within lo hi)) in
      subst (λ (v : ℤ). Fits blocks elems structs elem false (edge_value (member_value after c u) v lo)
      (edge_value (member_value after c u) v hi) v) (sym e)
      (subst (λ (q : ℤ). Fits blocks elems structs elem false q (edge_value (member_value after c u) v hi) v)
      (sym (names_same u (member_value after c u) (member_value bytes c u) agree v lo n.0))
      (subst (λ (q : ℤ). Fits blocks elems structs elem false (edge_value (member_value bytes c u) v lo) q v)
      (sym (names_same u (member_value after c u) (member_value bytes c u) agree v hi n.1)) h))

  abbrev Holds : ℕ → Member → Type 0
  Holds n m = HoldsFitting blocks elems structs (member_value after c u) after (c + m.offset + n * shape_size structs m.shape) m.shape

  -- an arm of the union
  arm_null : (i n : ℕ) (m : Member) (is : slice_get u.members i ≡ Some m) → n < m.count → (z : ℤ) → m.arm ≡ Some (part, z) → Holds n m
  arm_null i n m is lt z e =
      let own = arm_facts i m is z e in
      let all = arm_facts full.number full.member full.found full.constant full.arm_is in
      let one = own.one in
      let from = from_union m own in
      let from' = from_union full.member all in
      null_holds blocks elems structs (member_value after c u) after (c + m.offset + n * shape_size structs m.shape) m.shape
      (zero_place structs after (c + m.offset + n * shape_size structs m.shape) m.shape
      (zero_part after to y.size (c + m.offset + n * shape_size structs m.shape) (shape_size structs m.shape)
      (inside_union n (shape_size structs m.shape) (shape_size structs full.member.shape) (omega (arith, lt, one)) (from ∙ sym from')
      (to_union m own)) zero_region))
    where
      inside_union : (n size size' : ℕ) → n ≡ 0 → m.offset ≡ full.member.offset → size ≤ y.size
          → LiesIn (c + full.member.offset + 0 * size') y.size (c + m.offset + n * size) size
      inside_union n size size' e f l = subst (λ (k : ℕ). LiesIn (c + full.member.offset + 0 * size') y.size (c + m.offset + k * size)
          size) (sym e)
          (record { from = omega (arith, f); to = omega (arith, f, l) })

  -- an arm of another union, which its tag selects as before
  other_arm : (i n : ℕ) (m : Member) (is : slice_get u.members i ≡ Some m) → n < m.count → (a : ℕ) (z : ℤ) → m.arm ≡ Some (a, z) → a ≢ part
      → is_used after c u m.arm ≡ true → Holds n m
  other_arm i n m is lt a z e d chosen =
      let in' : IsArmIn table u a m = (facts i m is).arm a z e in
      let tag_is : IsTag u in'.union.tag = (types.structs s u known).tags a in'.union in'.union_is in
      let value = stays in'.union.tag tag_is.member tag_is.found tag_is.no_arm in
      let number : unwrap_or (option_map (λ (u : UnionShape). u.tag) (slice_get u.unions a)) 0 ≡ in'.union.tag =
      ap (λ (o : Option UnionShape). unwrap_or (option_map (λ (u : UnionShape). u.tag) o) 0) in'.union_is in
      let same_tag : member_value after c u (unwrap_or (option_map (λ (u : UnionShape). u.tag) (slice_get u.unions a)) 0) ≡ member_value
      bytes c u (unwrap_or (option_map (λ (u : UnionShape). u.tag) (slice_get u.unions a)) 0) =
      ap (member_value after c u) number ∙ value ∙ ap (member_value bytes c u) (sym number) in
      let before : is_used bytes c u (Some (a, z)) ≡ true = subst (λ (q : ℤ). int_eq q z ≡ true) same_tag
      (subst (λ (o : Option (ℕ × ℤ)). is_used after c u o ≡ true) e chosen) in
      nameless_keeps (member_value bytes c u) (member_value after c u) blocks elems structs bytes after (c + m.offset + n * shape_size
      structs m.shape) m.shape in'.nameless
      (value_kept i n m is lt (λ w h. d (ap (λ (q : ℕ × ℤ). q.0) (some_same (a, z) (part, w) (sym e ∙ h)))))
      (fit.members c s i n u m p known is (subst (λ (o : Option (ℕ × ℤ)). is_used bytes c u o ≡ true) (sym e) before) lt)

  each_fits : (i n : ℕ) (m : Member) (is : slice_get u.members i ≡ Some m) → is_used after c u m.arm ≡ true → (lt : n < m.count) → Holds n m
  each_fits i n m is chosen lt = by m.arm refl
    where
      by_number : (a : ℕ) (z : ℤ) → m.arm ≡ Some (a, z) → (b : Bool) → (a == part) ≡ b → Holds n m
      by_number a z e true g = arm_null i n m is lt z (e ∙ ap (λ (q : ℕ). Some (q, z)) ((Decides-eqb a part).0 g))
      by_number a z e false g = other_arm i n m is lt a z e (λ h. true≢false (sym ((Decides-eqb a part).1 h) ∙ g)) chosen

      by : (o : Option (ℕ × ℤ)) → m.arm ≡ o → Holds n m
      by None e = shape_keeps (c + m.offset + n * shape_size structs m.shape) m.shape (facts i m is).names
          (value_kept i n m is lt (λ z h. no_arm m.arm (part, z) e h))
          (fit.members c s i n u m p known is (subst (λ (o : Option (ℕ × ℤ)). is_used bytes c u o ≡ true) (sym e) refl) lt)
      by (Some arm) e = by_number arm.0 arm.1 e (arm.0 == part) refl

  struct_fits : StructFits blocks elems structs after c s
  struct_fits = record {
    each = λ i n t m known' is chosen lt.
        let same_struct : u ≡ t = some_same u t (sym known ∙ known') in
        subst (λ (t : StructShape). slice_get t.members i ≡ Some m → is_used after c t m.arm ≡ true
        → HoldsFitting blocks elems structs (member_value after c t) after (c + m.offset + n * shape_size structs m.shape) m.shape)
        same_struct
        (λ is chosen. each_fits i n m is chosen lt) is chosen;
  }

  pub full_at : full.member.offset ≡ y.offset
  full_at = from_union full.member (arm_facts full.number full.member full.found full.constant full.arm_is)

  pub full_end : c + y.offset + y.size ≤ at + shape_size structs x
  full_end = let end = written_in.to in let e = full_at in let size = full.size in by (shape_size structs full.member.shape) end e size
    where
      by : (n : ℕ) → c + full.member.offset + 0 * n + n ≤ at + shape_size structs x → full.member.offset ≡ y.offset → n ≡ y.size
          → c + y.offset + y.size ≤ at + shape_size structs x
      by n l e f = omega (arith, l, e, f)

  pub union_cleared : BytesFit blocks elems structs (overwritten bytes (c + y.offset) (zeros y.size)) at x
  union_cleared = subst (λ (q : ℕ). BytesFit blocks elems structs (overwritten bytes q (zeros y.size)) at x)
      (at_union (shape_size structs full.member.shape) (from_union full.member (arm_facts full.number full.member full.found full.constant
      full.arm_is)))
      (write_keeps blocks elems structs types.tidy (all_some table types) bytes new at x inside c s full.number 0 e0 leaf here fills fit
      struct_fits)
    where
      at_union : (size : ℕ) → full.member.offset ≡ y.offset → c + full.member.offset + 0 * size ≡ c + y.offset
      at_union size e = omega (arith, e)
