-- What calls see of a function is within the bounds: where each of its parameters stands, what annotations name as a number of elements is an integer.
use Rattle.std.proofs.Common.{◌≡◌, ℕ, zero, suc, ◌+◌, ◌≤◌, true, cond, not, nat_lt, is_none, List, [], ◌∷◌, map, length, Option, Some, None, position, bytes_eq, slice_get, if◌then◌else◌, All, refl, sym, ap, ◌∙◌, subst, append-nil, arith}
use Rattle.std.specs.List.{position_or_len}
use Rattle.std.proofs.lemmas.Bool.{and_parts}
use Rattle.std.proofs.lemmas.List.Elements.{All-nil, All-cons, All-map, All-weaker}
use Rattle.c_tree.specs.declared.items.Head.{Head}
use Rattle.c_tree.specs.declared.items.Param.{Param}
use Rattle.c_tree.specs.Spelling.{type_words}
use Rattle.checked_tree.specs.declared.shapes.Shape.{Shape}
use Rattle.deputy_types.specs.declared.element.Element.{Element}
use Rattle.deputy_types.specs.declared.sibling.Role.TheVariants as role
use Rattle.deputy_types.specs.declared.sibling.Unannotated.TheVariants.{Safe}
use Rattle.deputy_types.specs.declared.siblings.Siblings.{Siblings}
use Rattle.deputy_types.specs.Extents.{key_extent}
use Rattle.deputy_types.specs.Siblings.{role_of, no_siblings}
use Rattle.deputy_types.specs.Table.{Table}
use Rattle.deputy_rules.specs.Agreement.{parameter_place, same_place}
use Rattle.deputy_rules.specs.Heads.{parameter_siblings, named_shape, parameter_shape, parameter_shapes, is_declared, head_parameter_stands, wrong_head_parameter, wrong_in_head, no_shapes, seen_shapes}
use Rattle.light_checks.specs.Within.{is_integer, shape_at, IsShape, AreShapes}
use Rattle.light_checks.specs.Words.{IsReadable}
use Rattle.light_checks.proofs.DeclaredSlots.{Decl, first, parameter_decl, with_parameters_is, Aligned, AreFirst, aligned_all, if_none, same_is, map_length, mapped_named, integer_at_role, named_is}

abbrev HasReadableType : Param → Type 0
HasReadableType p = IsReadable (type_words p.type_name)

-- the place of a parameter is that of its name among the names
place_or_length : (x : List ℕ) (ps : List Param) → position_or_len (λ (p : Param). bytes_eq x p.name) ps ≡ position_or_len (bytes_eq x) (map first (map parameter_decl ps))
place_or_length x [] = refl
place_or_length x (p ∷ ps) = ap (λ n. cond (not (bytes_eq x p.name)) (1 + n) 0) (place_or_length x ps)

named_length : (ps : List Param) → length ps ≡ length (map first (map parameter_decl ps))
named_length [] = refl
named_length (p ∷ ps) = ap (λ n. suc n) (named_length ps)

if_below : (m n i j : ℕ) → m ≡ n → i ≡ j → ◌≡◌ {A = Option ℕ} (if nat_lt m i then Some m else None) (if nat_lt n j then Some n else None)
if_below m n i j p q = cc

place_named : (x : List ℕ) (ps : List Param) → parameter_place ps x ≡ position (bytes_eq x) (map first (map parameter_decl ps))
place_named x ps =
    if_below (position_or_len (λ (p : Param). bytes_eq x p.name) ps) (position_or_len (bytes_eq x) (map first (map parameter_decl ps))) (length ps) (length (map first (map parameter_decl ps)))
    (place_or_length x ps) (named_length ps)

-- parameters that stand, from the i-th on
abbrev AllStand : List Param → List (Option Shape) → ℕ → List Param → Type 0
AllStand params shapes i [] = Unit {0}
AllStand params shapes i (p ∷ ps) = (head_parameter_stands params shapes i p.name ≡ true) × AllStand params shapes (i + 1) ps

all_stand : (params : List Param) (shapes : List (Option Shape)) (i : ℕ) (ps : List Param) → wrong_head_parameter params shapes i ps ≡ None → AllStand params shapes i ps
all_stand params shapes i [] h = tt
all_stand params shapes i (p ∷ ps) h =
    let b = if_none (head_parameter_stands params shapes i p.name) (wrong_head_parameter params shapes (i + 1) ps) p.line h in (b.0, all_stand params shapes (i + 1) ps b.1)

are_first : (params : List Param) (shapes : List (Option Shape)) (i : ℕ) (ps : List Param) → AllStand params shapes i ps
    → AreFirst (map first (map parameter_decl params)) i (map parameter_decl ps)
unfolding head_parameter_stands
are_first params shapes i [] s = tt
are_first params shapes i (p ∷ ps) s =
    let here = (and_parts (same_place (parameter_place params p.name) (Some i)) (is_declared shapes i) s.0).0 in
    (sym (place_named p.name params) ∙ same_is (parameter_place params p.name) i here, are_first params shapes (i + 1) ps s.1)

are_declared : (params : List Param) (shapes : List (Option Shape)) (i : ℕ) (ps : List Param) (k : ℕ) (d : Decl) → AllStand params shapes i ps
    → slice_get (map parameter_decl ps) k ≡ Some d → is_declared shapes (i + k) ≡ true
unfolding head_parameter_stands
are_declared params shapes i [] k d s h = absurd cc
are_declared params shapes i (p ∷ ps) zero d s h =
    subst (λ n. is_declared shapes n ≡ true) (omega arith) (and_parts (same_place (parameter_place params p.name) (Some i)) (is_declared shapes i) s.0).1
are_declared params shapes i (p ∷ ps) (suc k) d s h = subst (λ n. is_declared shapes n ≡ true) (omega arith) (are_declared params shapes (i + 1) ps k d s.1 h)

module _ (t : Table) (sizes : (key : Element) → (key_extent t.extents key).bytes ≤ 65536) (h : Head) (words : All HasReadableType h.params) (few : length h.params ≤ 1000) where
  abbrev ps : List Param
  ps = h.params

  abbrev pd : List Decl
  pd = map parameter_decl ps

  abbrev siblings : Siblings
  siblings = parameter_siblings t.types ps

  abbrev shapes : List (Option Shape)
  shapes = parameter_shapes t ps

  no_decls : Aligned t.types [] no_siblings
  no_decls = record { names = refl; roles = refl }

  param_at : (k : ℕ) (d : Decl) → slice_get pd k ≡ Some d → slice_get shapes k ≡ Some (named_shape t Safe siblings d.0 d.1)
  unfolding parameter_shapes
  param_at k d e = mapped_named t Safe siblings parameter_decl ps k d e

  aligned : AllStand ps shapes 0 ps → Aligned t.types pd siblings
  unfolding parameter_siblings
  aligned stand =
      let size = map_length parameter_decl ps in
      subst (Aligned t.types pd) (sym (with_parameters_is t.types ps no_siblings))
      (aligned_all t.types (map first pd) [] pd [] no_siblings no_decls (sym (append-nil (map first pd))) (are_first ps shapes 0 ps stand) (omega arith))

  integers : AllStand ps shapes 0 ps → (k : ℕ) → role_of siblings k ≡ Some role.Integer → is_integer (shape_at shapes k) ≡ true
  integers stand =
      integer_at_role t pd siblings shapes (aligned stand) (λ k d e. (Safe, siblings, param_at k d e))
      (λ k d e. subst (λ n. is_declared shapes n ≡ true) (omega arith) (are_declared ps shapes 0 ps k d stand e))

  stands_are : wrong_in_head shapes h ≡ None → AreShapes shapes
  unfolding parameter_shapes wrong_in_head
  stands_are none =
      let stand = all_stand ps shapes 0 ps none in
      All-map (IsShape shapes) (parameter_shape t siblings) ps
      (All-weaker HasReadableType (λ p. IsShape shapes (parameter_shape t siblings p))
      (λ p r. named_is t sizes Safe siblings shapes p.name p.type_name (integers stand) r) ps words)

  all_none : (around ss : List (Option Shape)) → All (IsShape around) (no_shapes ss)
  all_none around [] = All-nil (IsShape around)
  all_none around (s ∷ ss) = All-cons (IsShape around) None (no_shapes ss) tt (all_none around ss)

  -- the parameters, as calls see them
  pub seen_are : AreShapes (seen_shapes shapes h)
  unfolding seen_shapes
  seen_are = by (wrong_in_head shapes h) refl
    where
      by : (o : Option ℕ) → wrong_in_head shapes h ≡ o → AreShapes (if is_none o then shapes else no_shapes shapes)
      by None e = stands_are e
      by (Some n) e = all_none (no_shapes shapes) shapes
