-- The slots of a function whose declarations stand: an integer or a pointer for each parameter and local, with the annotation that its
-- declaration gives, and two hidden ones behind for each automatic pointer.
use Rattle.std.proofs.Common.{◌≡◌, ◌≢◌, ◌⊎◌, inl, inr, ℕ, zero, suc, ◌+◌, ◌≤◌, ◌<◌, nat_lt, Bool, true, false, List, [], ◌∷◌}
use Rattle.std.proofs.Common.{◌++◌, map, length, replicate, ℤ, Option, Some, None, slice_get, if◌then◌else◌, refl, sym, ap, ◌∙◌, subst}
use Rattle.std.proofs.Common.{length-append, arith}
use Rattle.std.specs.Option.{option_flatten}
use Rattle.std.proofs.lemmas.Bool.{ltb-true, ltb-false}
use Rattle.std.proofs.lemmas.List.{length-replicate}
use Rattle.std.proofs.lemmas.List.Elements.{All-weaker}
use Rattle.c_tree.specs.declared.items.Function.{Function}
use Rattle.c_tree.specs.declared.items.Local.{Local}
use Rattle.c_tree.specs.Slots.{is_automatic, hidden_from, hidden_firsts, locals_of, hidden_slot}
use Rattle.checked_tree.specs.declared.shapes.Bounds.TheVariants as bounds
use Rattle.checked_tree.specs.declared.shapes.Edge.{Edge}
use Rattle.checked_tree.specs.declared.shapes.Scalar.{Scalar}
use Rattle.checked_tree.specs.declared.shapes.Scalar.TheVariants as scalar
use Rattle.checked_tree.specs.declared.shapes.Shape.{Shape}
use Rattle.checked_tree.specs.declared.shapes.Shape.TheVariants as shape
use Rattle.deputy_types.specs.declared.element.Element.TheVariants as element
use Rattle.deputy_types.specs.declared.sibling.Role.{Role}
use Rattle.deputy_types.specs.declared.sibling.Role.TheVariants as role
use Rattle.deputy_types.specs.declared.sibling.Unannotated.{Unannotated}
use Rattle.deputy_types.specs.declared.siblings.Siblings.{Siblings}
use Rattle.deputy_types.specs.Declarations.{declared_role}
use Rattle.deputy_types.specs.Siblings.{role_of}
use Rattle.deputy_types.specs.Table.{Table, element_at}
use Rattle.deputy_rules.specs.Context.{Context, slot_shape}
use Rattle.deputy_rules.specs.Heads.{local_shape, parameter_shapes, with_hidden, slot_shapes, value_shape}
use Rattle.deputy_rules.specs.NameValues.{IsNumber}
use Rattle.layout_laws.proofs.Lists.{slice_front, slice_behind}
use Rattle.light_checks.specs.Standing.{Stands}
use Rattle.light_checks.proofs.DeclaredSlots.{Decl, append_at}
use Rattle.driver_safety.specs.TypeFacts.{IsInteger, IsSlotShape, IsNamedSlot, IsBaseSlot, IsIntegerSlot, NamesSlots}
use Rattle.driver_safety.specs.TypeFacts.{HasSlots}
use Rattle.driver_safety.proofs.declarations.DeclaredShapes.{some_same, IsShapeOf, IsSide, StandsOn, CountsIntegers, typed_is}
use Rattle.driver_safety.proofs.declarations.SlotNames.{FitsRole, role_fits, IsScope, IsDeclaredAs, slot_is, decl_slot, all_siblings}
use Rattle.driver_safety.proofs.declarations.SlotNames.{shown_length}

pub whole_number : (s : Scalar) → IsInteger s → IsNumber (shape.Int s)
whole_number scalar.Void i = absurd i
whole_number (scalar.Pointer n) i = absurd i
whole_number scalar.U8 i = tt
whole_number scalar.I8 i = tt
whole_number scalar.U16 i = tt
whole_number scalar.I16 i = tt
whole_number scalar.I32 i = tt
whole_number scalar.U32 i = tt

apart_or : (i l : ℕ) → i ≢ l → (i < l) ⊎ (l < i)
apart_or i l n = by (nat_lt i l) refl
  where
    by : (b : Bool) → nat_lt i l ≡ b → (i < l) ⊎ (l < i)
    by true e = inl (ltb-true i l e)
    by false e = let above = ltb-false i l e in inr (omega (arith, above, n))

none_some : {A : Type 0} (a : A) → ◌≡◌ {A = Option A} None (Some a) → ⊥
none_some a h = absurd cc

-- ---- hidden slots
abbrev two : List (Option Shape)
two = Some shape.Address ∷ Some shape.Address ∷ []

kept : (ls : List Local) (shapes : List (Option Shape)) (k : ℕ) (x : Option Shape) → slice_get shapes k ≡ Some x
    → slice_get (with_hidden ls shapes) k ≡ Some x
kept [] shapes k x h = h
kept (l ∷ ls) shapes k x h = kept ls (if is_automatic l then shapes ++ two else shapes) k x (by (is_automatic l))
  where
    by : (b : Bool) → slice_get (if b then shapes ++ two else shapes) k ≡ Some x
    by true = slice_front shapes two k x h
    by false = h

-- the first of two hidden slots, as the look-up has it
abbrev first_of : ℕ → List Local → ℕ → Option ℕ
first_of at ls j = option_flatten (slice_get (hidden_from at ls) j)

above : (at : ℕ) (ls : List Local) (j h : ℕ) → first_of at ls j ≡ Some h → at ≤ h
above at [] j h e = absurd cc
above at (l ∷ ls) j h e = by (is_automatic l) j e (λ a i e. above a ls i h e)
  where
    by : (b : Bool) (j : ℕ) → option_flatten (slice_get (if b then Some at ∷ hidden_from (at + 2) ls
        else None ∷ hidden_from at ls) j) ≡ Some h
        → ((a i : ℕ) → first_of a ls i ≡ Some h → a ≤ h) → at ≤ h
    by true zero e f = let same : at ≡ h = some_same at h e in omega (arith, same)
    by true (suc j) e f = let more = f (at + 2) j e in omega (arith, more)
    by false zero e f = absurd cc
    by false (suc j) e f = f at j e

-- two locals' hidden slots lie in their order
in_order : (at : ℕ) (ls : List Local) (j i h g : ℕ) → j < i → first_of at ls j ≡ Some h → first_of at ls i ≡ Some g → h + 1 < g
in_order at [] j i h g l e f = absurd cc
in_order at (x ∷ ls) j zero h g l e f = absurd (omega (arith, l))
in_order at (x ∷ ls) j (suc i) h g l e f = by (is_automatic x) j l e f (λ a j l e f. in_order a ls j i h g l e f)
  where
    by : (b : Bool) (j : ℕ) → j < suc i → option_flatten (slice_get (if b then Some at ∷ hidden_from (at + 2) ls
        else None ∷ hidden_from at ls) j) ≡ Some h
        → option_flatten (slice_get (if b then Some at ∷ hidden_from (at + 2) ls else None ∷ hidden_from at ls) (suc i)) ≡ Some g
        → ((a j : ℕ) → j < i → first_of a ls j ≡ Some h → first_of a ls i ≡ Some g → h + 1 < g) → h + 1 < g
    by true zero l e f r = let same : at ≡ h = some_same at h e in let more = above (at + 2) ls i g f in omega (arith, same, more)
    by true (suc j) l e f r = r (at + 2) j (omega (arith, l)) e f
    by false zero l e f r = absurd cc
    by false (suc j) l e f r = r at j (omega (arith, l)) e f

-- and are addresses
hidden_there : (ls : List Local) (shapes : List (Option Shape)) (j h : ℕ) → first_of (length shapes) ls j ≡ Some h
    → (slice_get (with_hidden ls shapes) h ≡ Some (Some shape.Address)) ×
    (slice_get (with_hidden ls shapes) (h + 1) ≡ Some (Some shape.Address))
hidden_there [] shapes j h e = absurd cc
hidden_there (l ∷ ls) shapes j h e = by (is_automatic l) j e (λ s j e. hidden_there ls s j h e)
  where
    longer : length (shapes ++ two) ≡ length shapes + 2
    longer = length-append shapes two

    by : (b : Bool) (j : ℕ) → option_flatten (slice_get (if b then Some (length shapes) ∷ hidden_from (length shapes + 2) ls
        else None ∷ hidden_from (length shapes) ls) j) ≡ Some h
        → ((s : List (Option Shape)) (j : ℕ) → first_of (length s) ls j ≡ Some h
        → (slice_get (with_hidden ls s) h ≡ Some (Some shape.Address)) × (slice_get (with_hidden ls s) (h + 1) ≡ Some (Some shape.Address)))
        → (slice_get (with_hidden ls (if b then shapes ++ two else shapes)) h ≡ Some (Some shape.Address))
        × (slice_get (with_hidden ls (if b then shapes ++ two else shapes)) (h + 1) ≡ Some (Some shape.Address))
    by true zero e r =
        let same : length shapes ≡ h = some_same (length shapes) h e in
        let first : length shapes + 0 ≡ h = omega (arith, same) in
        let second : length shapes + 1 ≡ h + 1 = omega (arith, same) in (
          kept ls (shapes ++ two) h (Some shape.Address) (subst (λ n. slice_get (shapes ++ two) n ≡ Some (Some shape.Address)) first
              (slice_behind shapes two 0 (length shapes) (Some shape.Address) refl refl)),
          kept ls (shapes ++ two) (h + 1) (Some shape.Address) (subst (λ n. slice_get (shapes ++ two) n ≡ Some (Some shape.Address)) second
              (slice_behind shapes two 1 (length shapes) (Some shape.Address) refl refl)),
        )
    by true (suc j) e r = r (shapes ++ two) j (subst (λ n. first_of n ls j ≡ Some h) (sym longer) e)
    by false zero e r = absurd cc
    by false (suc j) e r = r shapes j e

nothing_at : (n k : ℕ) (o : Option ℕ) → slice_get (replicate n None) k ≡ Some o → o ≡ None
nothing_at zero k o h = absurd cc
nothing_at (suc n) zero o h = sym (some_same None o h)
nothing_at (suc n) (suc k) o h = nothing_at n k o h

-- ---- the slots of a function
module _ (t : Table) (f : Function) (is : Stands t f) (line first : ℕ) where
  abbrev pub standing : Context
  standing = record { table = t; locals = locals_of f; slots = slot_shapes t f; line = line; first = first }

  abbrev many : ℕ
  many = length f.head.params + length f.locals

  abbrev nones : List (Option ℕ)
  nones = replicate (length f.head.params) None

  abbrev none : Option ℕ
  none = None

  -- a hidden slot is that of a local
  hidden_is : (k h : ℕ) → hidden_slot (locals_of f) k ≡ Some h
      → (j : ℕ) × (k ≡ length f.head.params + j) × (first_of many f.locals j ≡ Some h)
  unfolding hidden_slot
  hidden_is k h e = by (slice_get (hidden_firsts f) k) refl e
    where
      found : (o : Option ℕ) → o ≡ Some h → (slice_get nones k ≡ Some o)
          ⊎ ((j : ℕ) × (k ≡ length nones + j) × (slice_get (hidden_from many f.locals) j ≡ Some o))
          → (j : ℕ) × (k ≡ length f.head.params + j) × (first_of many f.locals j ≡ Some h)
      found o s (inl a) = absurd (none_some h (sym (nothing_at (length f.head.params) k o a) ∙ s))
      found o s (inr (j, a, b)) = (j, a ∙ ap (λ (n : ℕ). n + j) (length-replicate (length f.head.params) none), ap option_flatten b ∙ s)

      by : (o : Option (Option ℕ)) → slice_get (hidden_firsts f) k ≡ o → option_flatten o ≡ Some h
          → (j : ℕ) × (k ≡ length f.head.params + j) × (first_of many f.locals j ≡ Some h)
      by None e s = absurd cc
      by (Some o) e s = found o s (append_at nones (hidden_from many f.locals) k o e)

  hidden_slots_are : (k h : ℕ) → hidden_slot (locals_of f) k ≡ Some h
      → (slot_shape standing h ≡ Some shape.Address) × (slot_shape standing (h + 1) ≡ Some shape.Address)
  unfolding slot_shapes
  hidden_slots_are k h e =
      let a = hidden_is k h e in
      let there = hidden_there f.locals (parameter_shapes t f.head.params ++ map (local_shape t (all_siblings t f is)) f.locals) a.0 h
      (subst (λ n. first_of n f.locals a.0 ≡ Some h) (sym (shown_length t f is)) a.2) in
      (ap option_flatten there.0, ap option_flatten there.1)

  hidden_apart : (j h k g : ℕ) → hidden_slot (locals_of f) j ≡ Some h → hidden_slot (locals_of f) k ≡ Some g → j ≢ k
      → (h + 1 < g) ⊎ (g + 1 < h)
  hidden_apart j h k g e d n =
      let a = hidden_is j h e in
      let b = hidden_is k g d in
      by a.0 b.0 (differ a.0 b.0 a.1 b.1) a.2 b.2
    where
      differ : (i l : ℕ) → j ≡ length f.head.params + i → k ≡ length f.head.params + l → (i < l) ⊎ (l < i)
      differ i l a b = apart_or i l (λ e. n (a ∙ (ap (λ (m : ℕ). length f.head.params + m) e ∙ sym b)))

      by : (i l : ℕ) → (i < l) ⊎ (l < i) → first_of many f.locals i ≡ Some h → first_of many f.locals l ≡ Some g → (h + 1 < g) ⊎ (g + 1 < h)
      by i l (inl s) e d = inl (in_order many f.locals i l h g s e d)
      by i l (inr s) e d = inr (in_order many f.locals l i g h s d e)

  -- ---- shapes and names
  slot_shape_is : (k : ℕ) (x : Shape) → IsDeclaredAs t f is k x ⊎ (x ≡ shape.Address) → IsSlotShape t x
  unfolding element_at value_shape
  slot_shape_is k x (inr e) = subst (IsSlotShape t) (sym e) tt
  slot_shape_is k x (inl d) = by x d.value (typed_is t.types t.extents d.plain d.siblings k d.decl.1 x d.typed)
    where
      by : (x : Shape) → value_shape x ≡ Some x → IsShapeOf t.types.elements d.plain d.siblings k x → IsSlotShape t x
      by (shape.Int s) v is = is
      by (shape.Struct n) v is = absurd (none_some (shape.Struct n) v)
      by shape.Address v is = tt
      by (shape.Pointer elem bounds.Hidden) v is = tt
      by (shape.Pointer elem (bounds.Within lo hi)) v is = tt
      by (shape.Pointer elem bounds.Nullterm) v is = λ key e. some_same key (element.Int scalar.U8) (sym e ∙ is)

  -- the slot that has a role
  role_slot : (plain : Unannotated) (s : Siblings) (k : ℕ) (d : Decl) → IsScope t f is plain s k d → (i : ℕ) (r : Role)
      → role_of s i ≡ Some r
      → (x : Shape) × (slot_shape standing i ≡ Some x) × FitsRole r x × IsSlotShape t x
  role_slot plain s k d scope i r h =
      let e = scope.roles i r h in
      let x = decl_slot t f is i e.0 e.1 in
      let p = x.2 in
      let same : p.decl ≡ e.0 = x.3 in (
        x.0,
        x.1,
        subst (λ (q : Role). FitsRole q x.0) (ap (λ (q : Decl). declared_role t.types false false q.1) same ∙ e.2)
            (role_fits t.types t.extents p.plain p.siblings i false false p.decl.1 x.0 p.typed),
        slot_shape_is i x.0 (inl p),
      )

  integer_slot : (x : Shape) → FitsRole role.Integer x → (s : Scalar) × (x ≡ shape.Int s)
  integer_slot (shape.Int s) h = (s, refl)
  integer_slot (shape.Pointer elem b) h = absurd h
  integer_slot (shape.Struct n) h = absurd h
  integer_slot shape.Address h = absurd h

  pointer_number : (n : ℕ) (x : Shape) → FitsRole (role.Pointer n) x → IsNumber x
  pointer_number n (shape.Pointer elem b) h = tt
  pointer_number n (shape.Int s) h = absurd h
  pointer_number n (shape.Struct m) h = absurd h
  pointer_number n shape.Address h = absurd h

  side_names : (plain : Unannotated) (s : Siblings) (k : ℕ) (d : Decl) → IsScope t f is plain s k d → (e : Edge) → IsSide s k e
      → NamesSlots standing e × (e.base ≢ Some k)
  side_names plain s k d scope e side = (
    record {
      base = base e.base side.base;
      terms = All-weaker (CountsIntegers s) (λ (x : ℤ × ℕ). IsNamedSlot standing x.1) (λ x h. named x.1 h) e.terms side.terms;
      integers = All-weaker (CountsIntegers s) (λ (x : ℤ × ℕ). IsIntegerSlot standing x.1) (λ x h. integer x.1 h) e.terms side.terms;
    },
    others e.base side.base,
  )
    where
      base : (o : Option ℕ) → StandsOn s k o → IsBaseSlot standing o
      base None h = tt
      base (Some j) h = let r = role_slot plain s k d scope j (role.Pointer h.0) h.1 in (r.0, r.1, pointer_number h.0 r.0 r.2)

      others : (o : Option ℕ) → StandsOn s k o → o ≢ Some k
      others None h e = none_some k e
      others (Some j) h e = h.2 (some_same j k e)

      integer : (j : ℕ) → role_of s j ≡ Some role.Integer → IsIntegerSlot standing j
      integer j h =
          let r = role_slot plain s k d scope j role.Integer h in
          let i = integer_slot r.0 r.2 in (i.0, r.1 ∙ ap (λ (y : Shape). Some y) i.1)

      named : (j : ℕ) → role_of s j ≡ Some role.Integer → IsNamedSlot standing j
      named j h =
          let r = role_slot plain s k d scope j role.Integer h in
          let i = integer_slot r.0 r.2 in
          (shape.Int i.0, r.1 ∙ ap (λ (y : Shape). Some y) i.1, whole_number i.0 (subst (IsSlotShape t) i.1 r.3))

  bounds_name : (k elem : ℕ) (lo hi : Edge) → slot_shape standing k ≡ Some (shape.Pointer elem (bounds.Within lo hi))
      → (NamesSlots standing lo × (lo.base ≢ Some k)) × (NamesSlots standing hi × (hi.base ≢ Some k))
  bounds_name k elem lo hi h = by (slot_is t f is k (shape.Pointer elem (bounds.Within lo hi)) h)
    where
      by : IsDeclaredAs t f is k (shape.Pointer elem (bounds.Within lo hi)) ⊎ (shape.Pointer elem (bounds.Within lo hi) ≡ shape.Address)
          → (NamesSlots standing lo × (lo.base ≢ Some k)) × (NamesSlots standing hi × (hi.base ≢ Some k))
      by (inr e) = absurd cc
      by (inl d) =
          let is : IsSide d.siblings k lo × IsSide d.siblings k hi = typed_is t.types t.extents d.plain d.siblings k d.decl.1
          (shape.Pointer elem (bounds.Within lo hi)) d.typed in
          (side_names d.plain d.siblings k d.decl d.scope lo is.0, side_names d.plain d.siblings k d.decl d.scope hi is.1)

  pub slots_stand : HasSlots standing
  slots_stand = record {
    shapes = λ k x h. slot_shape_is k x (slot_is t f is k x h);
    names = λ k elem lo hi h. let b = bounds_name k elem lo hi h in (b.0.0, b.1.0);
    own = λ k elem lo hi h. let b = bounds_name k elem lo hi h in (b.0.1, b.1.1);
    hidden = hidden_slots_are;
    apart = hidden_apart;
  }
