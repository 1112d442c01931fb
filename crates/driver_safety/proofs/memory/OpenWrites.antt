-- A write to an open place keeps what its element holds: no annotation, no tag and no union speaks of it.
use Rattle.std.proofs.Common.{◌≡◌, ◌≢◌, inl, inr, ℕ, zero, suc, ◌+◌, ◌*◌, ◌≤◌, ◌<◌, ◌==◌, Bool, true, false, not, ◌&&◌, ◌||◌, List, []}
use Rattle.std.proofs.Common.{◌∷◌, length, ℤ, pos, Option, Some, None, is_none, option_map, unwrap_or, slice_get, refl, sym, ap, ◌∙◌, subst}
use Rattle.std.proofs.Common.{true≢false, arith}
use Rattle.std.specs.List.{list_any}
use Rattle.std.specs.Ordering.{int_eq}
use Rattle.std.proofs.lemmas.Bool.Decides.{Decides-eqb}
use Rattle.sd_base.specs.Blocks.{Block}
use Rattle.byte_memory.specs.Bytes.{overwritten}
use Rattle.checked_tree.specs.declared.shapes.Bounds.{Bounds}
use Rattle.checked_tree.specs.declared.shapes.Bounds.TheVariants as bounds
use Rattle.checked_tree.specs.declared.shapes.Member.{Member}
use Rattle.checked_tree.specs.declared.shapes.Shape.{Shape}
use Rattle.checked_tree.specs.declared.shapes.Shape.TheVariants as shape
use Rattle.checked_tree.specs.declared.shapes.StructShape.{StructShape}
use Rattle.checked_tree.specs.declared.shapes.UnionShape.{UnionShape}
use Rattle.checked_tree.specs.Edges.{edge_value}
use Rattle.layout_laws.proofs.ZeroFits.{LiesIn}
use Rattle.deputy_types.specs.Fitting.{Fits, FitsBounds, HoldsFitting, BytesFit, Part, whole, member, is_any, is_open, is_used, place_value}
use Rattle.deputy_types.specs.Fitting.{member_value, shape_size}
use Rattle.deputy_types.specs.Table.{Table, bounds_name, edge_names, has_names, shape_names}
use Rattle.driver_safety.specs.StructPlaces.{IsLeaf}
use Rattle.driver_safety.specs.TypeFacts.{HasTypes, IsMemberOf}
use Rattle.driver_safety.proofs.assignments.SiblingRules.{TermsAgree, BaseAgrees, same_edge}
use Rattle.driver_safety.proofs.memory.Apart.{Below, below, IsElement, address_of, bytes_of, Related, same, first, second, union}
use Rattle.driver_safety.proofs.memory.Apart.{of_siblings, within, holder}
use Rattle.driver_safety.proofs.memory.Lying.{any_part}
use Rattle.driver_safety.proofs.memory.Stores.{StructFits, unreached, write_keeps, own_stays}
use Rattle.driver_safety.proofs.memory.Writes.{all_some}

some_same : {A : Type 0} (a b : A) → ◌≡◌ {A = Option A} (Some a) (Some b) → a ≡ b
some_same a b h = cc

both_first : (a b : Bool) → (a && b) ≡ true → a ≡ true
both_first true b h = refl
both_first false b h = absurd cc

both_second : (a b : Bool) → (a && b) ≡ true → b ≡ true
both_second true b h = h
both_second false b h = absurd cc

not_true : (a : Bool) → not a ≡ true → a ≡ false
not_true false h = refl
not_true true h = absurd cc

or_false : (a b : Bool) → (a || b) ≡ false → (a ≡ false) × (b ≡ false)
or_false true b h = absurd cc
or_false false b h = (refl, h)

none_is : (o : Option (ℕ × ℤ)) → is_none o ≡ true → o ≡ None
none_is None h = refl
none_is (Some x) h = absurd cc

pub none_of : {A : Type 0} (p : A → Bool) (xs : List A) → list_any p xs ≡ false → (k : ℕ) (x : A) → slice_get xs k ≡ Some x → p x ≡ false
none_of p [] h k x e = absurd cc
none_of p (y ∷ ys) h zero x e = ap p (sym (some_same y x e)) ∙ (or_false (p y) (list_any p ys) h).0
none_of p (y ∷ ys) h (suc k) x e = none_of p ys (or_false (p y) (list_any p ys) h).1 k x e

-- what an open member is not
pub record IsFree (t : StructShape) (k : ℕ) (m : Member) : Type 0 where
  pub arm : m.arm ≡ None
  pub tags : list_any (λ (u : UnionShape). u.tag == k) t.unions ≡ false
  pub names : list_any (λ (x : Member). shape_names k x.shape) t.members ≡ false
  pub nameless : has_names m.shape ≡ false

pub free_is : (t : StructShape) (k : ℕ) (m : Member) → is_open t k m ≡ true → IsFree t k m
free_is t k m h =
    let a = both_first (is_none m.arm) _ h in
    let rest = both_second (is_none m.arm) (not (list_any (λ (u : UnionShape). u.tag == k) t.unions) && (not (has_names m.shape) && not
    (list_any (λ (x : Member). shape_names k x.shape) t.members))) h in
    let tags = both_first (not (list_any (λ (u : UnionShape). u.tag == k) t.unions)) _ rest in
    let last = both_second (not (list_any (λ (u : UnionShape). u.tag == k) t.unions)) (not (has_names m.shape) && not
    (list_any (λ (x : Member). shape_names k x.shape) t.members)) rest in
    let names = both_second (not (has_names m.shape)) (not (list_any (λ (x : Member). shape_names k x.shape) t.members)) last in
    record {
      arm = none_is m.arm a;
      tags = not_true (list_any (λ (u : UnionShape). u.tag == k) t.unions) tags;
      names = not_true (list_any (λ (x : Member). shape_names k x.shape) t.members) names;
      nameless = not_true (has_names m.shape) (both_first (not (has_names m.shape)) _ last);
    }

-- ---- bounds that do not name what changes
module _ (blocks : List Block) (elems : List Shape) (structs : List StructShape) (k : ℕ) (before after : ℕ → ℤ) (agree : (j : ℕ) → j ≢ k
    → after j ≡ before j) where
  terms_agree : (ts : List (ℤ × ℕ)) → TermsAgree k before after ts
  terms_agree [] = tt
  terms_agree (t ∷ ts) = (agree t.1, terms_agree ts)

  base_agrees : (b : Option ℕ) → BaseAgrees k before after b
  base_agrees None = tt
  base_agrees (Some j) = agree j

  pub bounds_keep : (elem : ℕ) (b : Bounds) (v : ℤ) → bounds_name k b ≡ false → FitsBounds blocks elems structs before elem b v
      → FitsBounds blocks elems structs after elem b v
  bounds_keep elem bounds.Hidden v h fits = tt
  bounds_keep elem bounds.Nullterm v h fits = fits
  bounds_keep elem (bounds.Within lo hi) v h fits =
      let both = or_false (edge_names k lo) (edge_names k hi) h in
      subst (λ (z : ℤ). Fits blocks elems structs elem false z (edge_value after v hi) v)
      (sym (same_edge k before after v lo (base_agrees lo.base, terms_agree lo.terms) both.0))
      (subst (λ (z : ℤ). Fits blocks elems structs elem false (edge_value before v lo) z v)
      (sym (same_edge k before after v hi (base_agrees hi.base, terms_agree hi.terms) both.1)) fits)

  pub holds_keep : (bytes bytes' : List ℕ) (a : ℕ) (y : Shape) → shape_names k y ≡ false → place_value bytes' a y ≡ place_value bytes a y
      → HoldsFitting blocks elems structs before bytes a y → HoldsFitting blocks elems structs after bytes' a y
  unfolding shape_names
  holds_keep bytes bytes' a (shape.Pointer elem b) h e fits = subst (λ (v : ℤ). FitsBounds blocks elems structs after elem b v) (sym e)
      (bounds_keep elem b _ h fits)
  holds_keep bytes bytes' a (shape.Int s) h e fits = tt
  holds_keep bytes bytes' a (shape.Struct s) h e fits = tt
  holds_keep bytes bytes' a shape.Address h e fits = tt

-- a value that fits a place of this shape, whatever names stand for
abbrev pub HoldsAny : List Block → List Shape → List StructShape → Shape → ℤ → Type 0
HoldsAny blocks elems structs (shape.Pointer elem b) v = (sibling : ℕ → ℤ) → FitsBounds blocks elems structs sibling elem b v
HoldsAny blocks elems structs (shape.Int s) v = Unit {0}
HoldsAny blocks elems structs (shape.Struct s) v = Unit {0}
HoldsAny blocks elems structs shape.Address v = Unit {0}

pub holds_any : (blocks : List Block) (elems : List Shape) (structs : List StructShape) (sibling : ℕ → ℤ) (bytes : List ℕ) (a : ℕ)
    (y : Shape)
    → HoldsAny blocks elems structs y (place_value bytes a y) → HoldsFitting blocks elems structs sibling bytes a y
holds_any blocks elems structs sibling bytes a (shape.Pointer elem b) h = h sibling
holds_any blocks elems structs sibling bytes a (shape.Int s) h = tt
holds_any blocks elems structs sibling bytes a (shape.Struct s) h = tt
holds_any blocks elems structs sibling bytes a shape.Address h = tt

module _ (table : Table) (types : HasTypes table) (blocks : List Block) (bytes new : List ℕ) (at : ℕ) (x : Shape) (inside : at + shape_size
    table.structs x ≤ length bytes)
    (fit : BytesFit blocks table.elems table.structs bytes at x) where
  abbrev elems : List Shape
  elems = table.elems

  abbrev structs : List StructShape
  structs = table.structs

  module _ (c s k j : ℕ) (u : StructShape) (w : Member) (p : Part structs is_any at x c (shape.Struct s)) (known : slice_get structs s ≡
      Some u) (mem : slice_get u.members k ≡ Some w)
      (l : j < w.count) (free : IsFree u k w) (leaf : IsLeaf w.shape) (fills : length new ≡ shape_size structs w.shape) where
    abbrev e0 : IsElement structs s k j
    e0 = record { structure = u; structure_is = known; member = w; member_is = mem; there = l }

    abbrev to : ℕ
    to = c + w.offset + j * shape_size structs w.shape

    abbrev after : List ℕ
    after = overwritten bytes to new

    abbrev here : Below structs c (shape.Struct s) at x
    here = below structs at x c (shape.Struct s) p

    stays : (i : ℕ) → i ≢ k → member_value after c u i ≡ member_value bytes c u i
    stays i n = own_stays blocks elems structs types.tidy (all_some table types) bytes new at x inside c s k j e0 leaf here fills i
        free.arm (λ e. n (sym e))

    eqb_not : (m n : ℕ) → (m == n) ≡ false → m ≢ n
    eqb_not m n h e = true≢false (sym ((Decides-eqb m n).1 e) ∙ h)

    -- an arm that is used then was used before: its tag is not written
    used_before : (i : ℕ) (m : Member) → slice_get u.members i ≡ Some m → is_used after c u m.arm ≡ true → is_used bytes c u m.arm ≡ true
    used_before i m is used = by m.arm refl used
      where
        facts : IsMemberOf table s u i m
        facts = (types.structs s u known).members i m is

        by : (o : Option (ℕ × ℤ)) → m.arm ≡ o → is_used after c u o ≡ true → is_used bytes c u o ≡ true
        by None e h = h
        by (Some arm) e h =
            let in' = facts.arm arm.0 arm.1 e in
            let r : (x : UnionShape) × (slice_get u.unions arm.0 ≡ Some x) = (in'.union, in'.union_is) in
            let other : r.0.tag ≢ k = eqb_not r.0.tag k (none_of (λ (u : UnionShape). u.tag == k) u.unions free.tags arm.0 r.0 r.1) in
            let number : unwrap_or (option_map (λ (u : UnionShape). u.tag) (slice_get u.unions arm.0)) 0 ≡ r.0.tag = ap
            (λ (o : Option UnionShape). unwrap_or (option_map (λ (u : UnionShape). u.tag) o) 0) r.1 in
            let value : member_value after c u (unwrap_or (option_map (λ (u : UnionShape). u.tag) (slice_get u.unions arm.0)) 0) ≡
            member_value bytes c u (unwrap_or (option_map (λ (u : UnionShape). u.tag) (slice_get u.unions arm.0)) 0) =
            ap (member_value after c u) number ∙ stays r.0.tag other ∙ ap (member_value bytes c u) (sym number) in
            subst (λ (z : ℤ). int_eq z arm.1 ≡ true) value h

    -- another element of the struct place
    other : (i n : ℕ) (m : Member) (is : slice_get u.members i ≡ Some m) (lt : n < m.count) → is_used after c u m.arm ≡ true
        → place_value after (c + m.offset + n * shape_size structs m.shape) m.shape ≡ place_value bytes (c + m.offset + n * shape_size
        structs m.shape) m.shape
        → HoldsFitting blocks elems structs (member_value after c u) after (c + m.offset + n * shape_size structs m.shape) m.shape
    other i n m is lt used e = holds_keep blocks elems structs k (member_value bytes c u) (member_value after c u) stays bytes after
        (c + m.offset + n * shape_size structs m.shape) m.shape
        (none_of (λ (x : Member). shape_names k x.shape) u.members free.names i m is) e (fit.members c s i n u m p known is
        (used_before i m is used) lt)

    abbrev element_of : (i n : ℕ) (m : Member) → slice_get u.members i ≡ Some m → n < m.count → IsElement structs s i n
    element_of i n m is lt = record { structure = u; structure_is = known; member = m; member_is = is; there = lt }

    written_in : LiesIn at (shape_size structs x) to (shape_size structs w.shape)
    written_in = within structs types.tidy c s k j e0 at x here

    no_arm : (a : ℕ × ℤ) → ◌≡◌ {A = Option (ℕ × ℤ)} None (Some a) → ⊥
    no_arm a h = absurd cc

    module _ (any : HoldsAny blocks elems structs w.shape (place_value after to w.shape)) where
      own_element : (i n : ℕ) (m : Member) → slice_get u.members i ≡ Some m → k ≡ i → j ≡ n
          → HoldsFitting blocks elems structs (member_value after c u) after (c + m.offset + n * shape_size structs m.shape) m.shape
      own_element i n m is e g =
          let same_member : w ≡ m = some_same w m (sym mem ∙ ap (λ (i : ℕ). slice_get u.members i) e ∙ is) in
          subst (λ (y : Member). HoldsFitting blocks elems structs (member_value after c u) after (c + y.offset + n * shape_size structs
          y.shape) y.shape) same_member
          (subst (λ (q : ℕ). HoldsFitting blocks elems structs (member_value after c u) after (c + w.offset + q * shape_size structs
          w.shape) w.shape) g
          (holds_any blocks elems structs (member_value after c u) after to w.shape any))

      by_relation : (i n : ℕ) (m : Member) (is : slice_get u.members i ≡ Some m) (lt : n < m.count) → is_used after c u m.arm ≡ true
          → LiesIn at (shape_size structs x) (address_of c (element_of i n m is lt)) (bytes_of (element_of i n m is lt))
          → Related structs c s k j e0 c s i n (element_of i n m is lt)
          → HoldsFitting blocks elems structs (member_value after c u) after (c + m.offset + n * shape_size structs m.shape) m.shape
      by_relation i n m is lt used lies (same p q r t) = own_element i n m is r t
      by_relation i n m is lt used lies (union p q v) = absurd (no_arm (v.0, v.1) (sym free.arm ∙ v.3))
      by_relation i n m is lt used lies (first f) =
          let w_to = written_in.to in
          let to' = lies.to in
          other i n m is lt used (unreached bytes new to (c + m.offset + n * shape_size structs m.shape) m.shape structs
          (omega (arith, w_to, inside, fills)) (omega (arith, to', inside)) (inr (omega (arith, f, fills))))
      by_relation i n m is lt used lies (second f) =
          let w_to = written_in.to in
          let to' = lies.to in
          other i n m is lt used (unreached bytes new to (c + m.offset + n * shape_size structs m.shape) m.shape structs
          (omega (arith, w_to, inside, fills)) (omega (arith, to', inside)) (inl f))

      each_fits : (i n : ℕ) (m : Member) → slice_get u.members i ≡ Some m → is_used after c u m.arm ≡ true → n < m.count
          → HoldsFitting blocks elems structs (member_value after c u) after (c + m.offset + n * shape_size structs m.shape) m.shape
      each_fits i n m is used lt =
          by_relation i n m is lt used (within structs types.tidy c s i n (element_of i n m is lt) at x here)
          (of_siblings structs types.tidy c s k j i n e0 (element_of i n m is lt))

      struct_fits : StructFits blocks elems structs after c s
      struct_fits = record {
        each = λ i n t m known' is used lt.
            let same_struct : u ≡ t = some_same u t (sym known ∙ known') in
            subst (λ (t : StructShape). slice_get t.members i ≡ Some m → is_used after c t m.arm ≡ true
            → HoldsFitting blocks elems structs (member_value after c t) after (c + m.offset + n * shape_size structs m.shape) m.shape)
            same_struct
            (λ is used. each_fits i n m is used lt) is used;
      }

      pub member_keeps : BytesFit blocks elems structs after at x
      member_keeps = write_keeps blocks elems structs types.tidy (all_some table types) bytes new at x inside c s k j e0 leaf here fills
          fit struct_fits

  -- ---- an element that is no struct
  module _ (leaf : IsLeaf x) (any : HoldsAny blocks table.elems table.structs x (place_value (overwritten bytes at new) at x)) where
    whole_keeps : BytesFit blocks table.elems table.structs (overwritten bytes at new) at x
    whole_keeps = record {
      whole = holds_any blocks table.elems table.structs (λ k. pos 0) (overwritten bytes at new) at x any;
      members = λ b s k j t m p is mem used l. absurd (holder table.structs types.tidy b s at x (below table.structs at x b
          (shape.Struct s) p) leaf);
    }

  -- ---- an open place
  pub open_keeps : (a : ℕ) (own : Shape) → Part table.structs is_open at x a own → IsLeaf own → length new ≡ shape_size table.structs own
      → HoldsAny blocks table.elems table.structs own (place_value (overwritten bytes a new) a own) → BytesFit blocks table.elems
      table.structs (overwritten bytes a new) at x
  open_keeps a own (whole e g) leaf fills any =
      subst (λ (n : ℕ). BytesFit blocks table.elems table.structs (overwritten bytes n new) at x) (sym e)
      (whole_keeps (subst IsLeaf g leaf)
      (subst (λ (y : Shape). HoldsAny blocks table.elems table.structs y (place_value (overwritten bytes at new) at y)) g
      (subst (λ (n : ℕ). HoldsAny blocks table.elems table.structs own (place_value (overwritten bytes n new) n own)) e any)))
  open_keeps a own (member c s k j u w p known mem passes l e g) leaf fills any =
      let place : ℕ = c + w.offset + j * shape_size table.structs w.shape in
      subst (λ (n : ℕ). BytesFit blocks table.elems table.structs (overwritten bytes n new) at x) (sym e)
      (member_keeps c s k j u w (any_part table.structs at x c (shape.Struct s) p) known mem l (free_is u k w passes) (subst IsLeaf g leaf)
      (fills ∙ ap (shape_size table.structs) g)
      (subst (λ (y : Shape). HoldsAny blocks table.elems table.structs y (place_value (overwritten bytes place new) place y)) g
      (subst (λ (n : ℕ). HoldsAny blocks table.elems table.structs own (place_value (overwritten bytes n new) n own)) e any)))
