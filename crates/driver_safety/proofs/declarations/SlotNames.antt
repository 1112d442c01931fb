-- The parameters and locals of a function whose declarations stand, by number: each has the slot with its number, and what an annotation
-- names is the slot with the number that the name has.
use Rattle.std.proofs.Common.{◌≡◌, ◌⊎◌, inl, inr, ℕ, zero, suc, ◌+◌, ◌≤◌, ◌<◌, Bool, true, false, cond, not, nat_lt, is_some}
use Rattle.std.proofs.Common.{List, [], ◌∷◌, ◌++◌, map, length, Option, Some, None, option_map, position, bytes_eq, slice_get}
use Rattle.std.proofs.Common.{if◌then◌else◌, refl, sym, ap, ◌∙◌, subst, append-nil, arith}
use Rattle.std.specs.List.{position_or_len}
use Rattle.std.specs.Option.{option_flatten}
use Rattle.std.proofs.lemmas.Bool.{and_parts, ltb-false, lt-ltb}
use Rattle.std.proofs.lemmas.List.{length-append}
use Rattle.std.proofs.lemmas.Option.{slice_get-map, slice_get_within}
use Rattle.c_tree.specs.declared.items.Function.{Function}
use Rattle.c_tree.specs.declared.items.Local.{Local}
use Rattle.c_tree.specs.declared.items.Param.{Param}
use Rattle.c_tree.specs.declared.types.Star.{Star}
use Rattle.c_tree.specs.declared.types.TypeName.{TypeName}
use Rattle.c_tree.specs.Slots.{Locals, is_automatic, parameter, local, hidden_slots, slots, slot_named, locals_of, slot_names}
use Rattle.checked_tree.specs.declared.shapes.Shape.{Shape}
use Rattle.checked_tree.specs.declared.shapes.Shape.TheVariants as shape
use Rattle.deputy_types.specs.declared.element.Element.{Element}
use Rattle.deputy_types.specs.declared.element.Element.TheVariants as element
use Rattle.deputy_types.specs.declared.extent.Extent.{Extent}
use Rattle.deputy_types.specs.declared.sibling.Role.{Role}
use Rattle.deputy_types.specs.declared.sibling.Role.TheVariants as role
use Rattle.deputy_types.specs.declared.sibling.Unannotated.{Unannotated}
use Rattle.deputy_types.specs.declared.sibling.Unannotated.TheVariants.{Safe, Hidden}
use Rattle.deputy_types.specs.declared.siblings.Siblings.{Siblings}
use Rattle.deputy_types.specs.declared.types.Types.{Types}
use Rattle.deputy_types.specs.Declarations.{plain_shape, pointer_to, pointer_shape, shape_behind, star_bounds, typed_shape, plain_role}
use Rattle.deputy_types.specs.Declarations.{is_text, numbered_role, role_behind, role_by, declared_role}
use Rattle.deputy_types.specs.Extents.{key_extent}
use Rattle.deputy_rules.specs.Heads.{with_parameters, parameter_siblings, with_locals, local_siblings, value_shape, named_shape}
use Rattle.deputy_rules.specs.Heads.{parameter_shape, local_shape, parameter_shapes, with_hidden, slot_shapes, is_over, is_declared}
use Rattle.deputy_rules.specs.Heads.{declaration_stands, wrong_parameter, wrong_local, or_else, wrong_declaration}
use Rattle.deputy_rules.specs.Agreement.{same_place}
use Rattle.deputy_types.specs.Options.{and_then}
use Rattle.deputy_types.specs.Siblings.{is_member, sibling_number, role_of, with_sibling, no_siblings}
use Rattle.deputy_types.specs.Table.{Table}
use Rattle.deputy_types.specs.Types.{element_number, pointed_key, last_star}
use Rattle.deputy_types.proofs.Inversions.{some_then, some_map}
use Rattle.layout_laws.proofs.Lists.{slice_front, slice_behind}
use Rattle.light_checks.specs.Standing.{Stands}
use Rattle.light_checks.proofs.DeclaredSlots.{Decl, first, member_of, decl_role, parameter_decl, Aligned, AreFirst}
use Rattle.light_checks.proofs.DeclaredSlots.{aligned_all, map_length, mapped_named, append_at, if_none, same_is, position_is}
use Rattle.driver_safety.proofs.declarations.DeclaredShapes.{some_same, given}

-- ---- what a role says of a shape
abbrev pub FitsRole : Role → Shape → Type 0
FitsRole role.Integer (shape.Int s) = Unit {0}
FitsRole role.Integer _ = ⊥
FitsRole role.Tag (shape.Int s) = Unit {0}
FitsRole role.Tag _ = ⊥
FitsRole (role.Pointer n) (shape.Pointer elem b) = Unit {0}
FitsRole (role.Pointer n) _ = ⊥
FitsRole role.Other x = Unit {0}

any_fits : (n : Option ℕ) (elem : ℕ) (b : _) → FitsRole (numbered_role n) (shape.Pointer elem b)
any_fits None elem b = tt
any_fits (Some n) elem b = tt

text_fits : (text : Bool) (n : Option ℕ) (elem : ℕ) (b : _) → FitsRole (if text then role.Other else numbered_role n) (shape.Pointer elem b)
text_fits true n elem b = tt
text_fits false n elem b = any_fits n elem b

plain_fits : (tag : Bool) (key : Element) (x : Shape) → plain_shape key ≡ Some x → FitsRole (plain_role tag key) x
plain_fits true (element.Int s) x h = given (FitsRole role.Tag) (shape.Int s) x h tt
plain_fits false (element.Int s) x h = given (FitsRole role.Integer) (shape.Int s) x h tt
plain_fits tag (element.Struct n) x h = tt
plain_fits tag (element.Sentinel n) x h = absurd cc
plain_fits tag (element.Nullterm n) x h = absurd cc
plain_fits tag (element.Count n k) x h = absurd cc

behind_fits : (types : Types) (extents : List Extent) (plain : Unannotated) (siblings : Siblings) (place : ℕ) (tag : Bool) (key : Element)
    (o : Option Star) (x : Shape)
    → shape_behind types.elements extents plain siblings place key o ≡ Some x → FitsRole (role_behind types.elements tag key o) x
unfolding pointer_shape
behind_fits types extents plain siblings place tag key None x h = plain_fits tag key x h
behind_fits types extents plain siblings place tag key (Some star) x h =
    let n = some_then (element_number types.elements key)
    (λ elem. pointer_to (key_extent extents key).bytes plain siblings place elem key star) x h in
    let b = some_map (star_bounds (key_extent extents key).bytes plain siblings place n.0 key star.annotation)
    (λ b. shape.Pointer n.0 b) x n.2 in
    subst (FitsRole (role_behind types.elements tag key (Some star))) b.2
    (text_fits (is_text star.annotation) (element_number types.elements key) n.0 b.0)

pub role_fits : (types : Types) (extents : List Extent) (plain : Unannotated) (siblings : Siblings) (place : ℕ) (array tag : Bool)
    (t : TypeName) (x : Shape)
    → typed_shape types extents plain siblings place t ≡ Some x → FitsRole (declared_role types array tag t) x
unfolding declared_role typed_shape
role_fits types extents plain siblings place true tag t x h = tt
role_fits types extents plain siblings place false tag t x h =
    let a = some_then (pointed_key types t) (λ key. shape_behind types.elements extents plain siblings place key (last_star t.stars)) x h in
    subst (λ (o : Option Element). FitsRole (role_by types tag t o) x) (sym a.1)
    (behind_fits types extents plain siblings place tag a.0 (last_star t.stars) x a.2)

-- ---- positions
one_more : (k : ℕ) → 1 + k ≡ suc k
one_more k = omega arith

front_or_len : {X : Type 0} (p : X → Bool) (xs ys : List X) (k : ℕ) → position_or_len p (xs ++ ys) ≡ k → k < length xs
    → position_or_len p xs ≡ k
front_or_len p [] ys k h l = absurd (omega (arith, l))
front_or_len p (x ∷ xs) ys k h l = by (p x) k refl h l (λ j. front_or_len p xs ys j)
  where
    by : (b : Bool) (k : ℕ) → p x ≡ b → cond (not b) (1 + position_or_len p (xs ++ ys)) 0 ≡ k → k < suc (length xs)
        → ((j : ℕ) → position_or_len p (xs ++ ys) ≡ j → j < length xs → position_or_len p xs ≡ j)
        → cond (not b) (1 + position_or_len p xs) 0 ≡ k
    by true k e h l f = h
    by false zero e h l f = absurd (omega (arith, h))
    by false (suc k) e h l f = ap (λ (n : ℕ). 1 + n) (f k (omega (arith, h)) (omega (arith, l))) ∙ one_more k

pub position_front : {X : Type 0} (p : X → Bool) (xs ys : List X) (k : ℕ) → position p (xs ++ ys) ≡ Some k → k < length xs
    → position p xs ≡ Some k
position_front p xs ys k h l =
    let e = front_or_len p xs ys k (position_is p (xs ++ ys) k h) l in
    ap (λ (n : ℕ). if nat_lt n (length xs) then Some n else None) e ∙ ap (λ (b : Bool). if b then Some k else None) (lt-ltb k (length xs) l)

named_or_len : (name : List ℕ) (ds : List Decl)
    → position_or_len (is_member None name) (map member_of ds) ≡ position_or_len (bytes_eq name) (map first ds)
named_or_len name [] = refl
named_or_len name (d ∷ ds) = ap (λ (n : ℕ). cond (not (bytes_eq name d.0)) (1 + n) 0) (named_or_len name ds)

named_same : (name : List ℕ) (ds : List Decl) → position (is_member None name) (map member_of ds) ≡ position (bytes_eq name) (map first ds)
named_same name ds =
    let l : length (map member_of ds) ≡ length (map first ds) = map_length member_of ds ∙ sym (map_length first ds) in
    ap (λ (n : ℕ). if nat_lt n (length (map member_of ds)) then Some n else None) (named_or_len name ds)
    ∙ ap (λ (m : ℕ). if nat_lt (position_or_len (bytes_eq name) (map first ds)) m then Some (position_or_len (bytes_eq name) (map first ds))
    else None) l

pub from_zero : (k : ℕ) → 0 + k ≡ k
from_zero k = omega arith

behind : (i : ℕ) → i ≡ i + 0
behind i = omega arith

farther : (i k : ℕ) → i + 1 + k ≡ i + suc k
farther i k = omega arith

pub first_is : (names : List (List ℕ)) (i : ℕ) (ds : List Decl) (k : ℕ) (d : Decl) → AreFirst names i ds → slice_get ds k ≡ Some d
    → position (bytes_eq d.0) names ≡ Some (i + k)
first_is names i [] k d a h = absurd cc
first_is names i (e ∷ ds) zero d a h =
    let same : e ≡ d = some_same e d h in
    subst (λ (x : Decl). position (bytes_eq x.0) names ≡ Some (i + 0)) same (a.0 ∙ ap (λ (n : ℕ). Some n) (behind i))
first_is names i (e ∷ ds) (suc k) d a h = first_is names (i + 1) ds k d a.1 h ∙ ap (λ (n : ℕ). Some n) (farther i k)

-- the number of a name among siblings that are the first of these declarations
pub number_is : (types : Types) (names rest : List (List ℕ)) (all ds : List Decl) (s : Siblings) (k : ℕ) (d : Decl) → Aligned types ds s
    → names ≡ map first ds ++ rest
    → AreFirst names 0 all → slice_get all k ≡ Some d → slice_get ds k ≡ Some d → sibling_number s d.0 ≡ Some k
number_is types names rest all ds s k d a e are at here =
    let found : position (bytes_eq d.0) (map first ds ++ rest)
    ≡ Some k = ap (position (bytes_eq d.0)) (sym e) ∙ (first_is names 0 all k d are at ∙ ap (λ (n : ℕ). Some n) (from_zero k)) in
    let below : k < length (map first ds) = subst (λ n. k < n) (sym (map_length first ds)) (slice_get_within ds k d here) in
    ap (position (is_member None d.0)) a.names ∙ (named_same d.0 ds ∙ position_front (bytes_eq d.0) (map first ds) rest k found below)

-- ---- declarations that stand
abbrev pub Stand : Locals → List (Option Shape) → ℕ → List Decl → Type 0
Stand locals shapes i [] = Unit {0}
Stand locals shapes i (d ∷ ds) = (declaration_stands locals shapes i d.0 ≡ true) × Stand locals shapes (i + 1) ds

abbrev pub local_decl : Local → Decl
local_decl l = (l.name, l.type_name)

pub parameters_stand : (locals : Locals) (shapes : List (Option Shape)) (i : ℕ) (ps : List Param)
    → wrong_parameter locals shapes i ps ≡ None → Stand locals shapes i (map parameter_decl ps)
parameters_stand locals shapes i [] h = tt
parameters_stand locals shapes i (p ∷ ps) h =
    let b = if_none (declaration_stands locals shapes i p.name) (wrong_parameter locals shapes (i + 1) ps) p.line h in
    (b.0, parameters_stand locals shapes (i + 1) ps b.1)

pub locals_stand : (locals : Locals) (shapes : List (Option Shape)) (i : ℕ) (ls : List Local) → wrong_local locals shapes i ls ≡ None
    → Stand locals shapes i (map local_decl ls)
locals_stand locals shapes i [] h = tt
locals_stand locals shapes i (l ∷ ls) h =
    let b = if_none (declaration_stands locals shapes i l.name) (wrong_local locals shapes (i + 1) ls) l.line h in
    (b.0, locals_stand locals shapes (i + 1) ls b.1)

both_none : (o q : Option ℕ) → or_else o q ≡ None → (o ≡ None) × (q ≡ None)
both_none None q h = (refl, h)
both_none (Some n) q h = absurd cc

are_first : (f : Function) (shapes : List (Option Shape)) (i : ℕ) (ds : List Decl) → Stand (locals_of f) shapes i ds
    → AreFirst (slot_names f) i ds
unfolding declaration_stands slot_named
are_first f shapes i [] s = tt
are_first f shapes i (d ∷ ds) s = (
  same_is (position (bytes_eq d.0) (slot_names f)) i
      (and_parts (same_place (position (bytes_eq d.0) (slot_names f)) (Some i)) (is_declared shapes i) s.0).0,
  are_first f shapes
      (i + 1) ds s.1,
)

pub declared_at : (locals : Locals) (shapes : List (Option Shape)) (i : ℕ) (ds : List Decl) (k : ℕ) (d : Decl) → Stand locals shapes i ds
    → slice_get ds k ≡ Some d → is_declared shapes (i + k) ≡ true
unfolding declaration_stands
declared_at locals shapes i [] k d s h = absurd cc
declared_at locals shapes i (e ∷ ds) zero d s h =
    subst (λ n. is_declared shapes n ≡ true) (omega arith)
    (and_parts (same_place (slot_named locals e.0) (Some i)) (is_declared shapes i) s.0).1
declared_at locals shapes i (e ∷ ds) (suc k) d s h =
    subst (λ n. is_declared shapes n ≡ true) (omega arith) (declared_at locals shapes (i + 1) ds k d s.1 h)

stand_both : (locals : Locals) (shapes : List (Option Shape)) (i : ℕ) (ds es : List Decl) → Stand locals shapes i ds
    → Stand locals shapes (i + length ds) es → Stand locals shapes i (ds ++ es)
stand_both locals shapes i [] es s r = subst (λ n. Stand locals shapes n es) (omega arith) r
stand_both locals shapes i (d ∷ ds) es s r =
    (s.0, stand_both locals shapes (i + 1) ds es s.1 (subst (λ n. Stand locals shapes n es) (more i (length ds)) r))
  where
    more : (i n : ℕ) → i + suc n ≡ i + 1 + n
    more i n = omega arith

-- ---- the shapes of slots
pub hidden_at : (ls : List Local) (shapes : List (Option Shape)) (k : ℕ) (x : Option Shape) → slice_get shapes k ≡ Some x
    → slice_get (with_hidden ls shapes) k ≡ Some x
hidden_at [] shapes k x h = h
hidden_at (l ∷ ls) shapes k x h =
    hidden_at ls (if is_automatic l then shapes ++ (Some shape.Address ∷ Some shape.Address ∷ []) else shapes) k x (by (is_automatic l))
  where
    by : (b : Bool) → slice_get (if b then shapes ++ (Some shape.Address ∷ Some shape.Address ∷ []) else shapes) k ≡ Some x
    by true = slice_front shapes (Some shape.Address ∷ Some shape.Address ∷ []) k x h
    by false = h

two_at : (k : ℕ) (x : Option Shape) → slice_get (Some shape.Address ∷ Some shape.Address ∷ []) k ≡ Some x → x ≡ Some shape.Address
two_at zero x h = sym (some_same (Some shape.Address) x h)
two_at (suc zero) x h = sym (some_same (Some shape.Address) x h)
two_at (suc (suc k)) x h = absurd cc

-- a slot is that of a declaration, or a hidden one
pub hidden_or : (ls : List Local) (shapes : List (Option Shape)) (k : ℕ) (x : Option Shape) → slice_get (with_hidden ls shapes) k ≡ Some x
    → (slice_get shapes k ≡ Some x) ⊎ (x ≡ Some shape.Address)
hidden_or [] shapes k x h = inl h
hidden_or (l ∷ ls) shapes k x h =
    by (is_automatic l) (hidden_or ls (if is_automatic l then shapes ++ (Some shape.Address ∷ Some shape.Address ∷ []) else shapes) k x h)
  where
    at : (slice_get shapes k ≡ Some x) ⊎
        ((j : ℕ) × (k ≡ length shapes + j) × (slice_get (Some shape.Address ∷ Some shape.Address ∷ []) j ≡ Some x))
        → (slice_get shapes k ≡ Some x) ⊎ (x ≡ Some shape.Address)
    at (inl e) = inl e
    at (inr (j, e, g)) = inr (two_at j x g)

    by : (b : Bool) → (slice_get (if b then shapes ++ (Some shape.Address ∷ Some shape.Address ∷ [])
        else shapes) k ≡ Some x) ⊎ (x ≡ Some shape.Address)
        → (slice_get shapes k ≡ Some x) ⊎ (x ≡ Some shape.Address)
    by b (inr e) = inr e
    by false (inl e) = inl e
    by true (inl e) = at (append_at shapes (Some shape.Address ∷ Some shape.Address ∷ []) k x e)

-- ---- the shape of a declaration that stands
pub value_same : (y x : Shape) → value_shape y ≡ Some x → y ≡ x
unfolding value_shape
value_same (shape.Int s) x h = some_same (shape.Int s) x h
value_same (shape.Pointer elem b) x h = some_same (shape.Pointer elem b) x h
value_same (shape.Struct s) x h = absurd cc
value_same shape.Address x h = absurd cc

-- a type name's shape is that of the sibling with its number
pub named_typed : (t : Table) (plain : Unannotated) (siblings : Siblings) (k : ℕ) (d : Decl) (x : Shape)
    → sibling_number siblings d.0 ≡ Some k
    → named_shape t plain siblings d.0 d.1 ≡ Some x
    → (typed_shape t.types t.extents plain siblings k d.1 ≡ Some x) × (value_shape x ≡ Some x)
unfolding named_shape
named_typed t plain siblings k d x n h =
    let a = some_then (sibling_number siblings d.0)
    (λ place. and_then (typed_shape t.types t.extents plain siblings place d.1) value_shape) x h in
    let b = some_then (typed_shape t.types t.extents plain siblings a.0 d.1) value_shape x a.2 in
    let same : a.0 ≡ k = some_same a.0 k (sym a.1 ∙ n) in
    let value : b.0 ≡ x = value_same b.0 x b.2 in (
      subst (λ (i : ℕ). typed_shape t.types t.extents plain siblings i d.1 ≡ Some x) same (b.1 ∙ ap (λ (y : Shape). Some y) value),
      sym (ap value_shape value) ∙ b.2,
    )

pub there_is : (o : Option Shape) → is_some o ≡ true → (x : Shape) × (o ≡ Some x)
there_is None h = absurd cc
there_is (Some x) h = (x, refl)

parameter_names : (ps : List Param) → map (λ (p : Param). p.name) ps ≡ map first (map parameter_decl ps)
parameter_names [] = refl
parameter_names (p ∷ ps) = ap (λ l. p.name ∷ l) (parameter_names ps)

local_names : (ls : List Local) → map (λ (l : Local). l.name) ls ≡ map first (map local_decl ls)
local_names [] = refl
local_names (l ∷ ls) = ap (λ m. l.name ∷ m) (local_names ls)

abbrev with_decls : Types → List Decl → Siblings → Siblings
with_decls types [] s = s
with_decls types (d ∷ ds) s = with_decls types ds (with_sibling s (member_of d) (decl_role types d))

with_locals_are : (types : Types) (ls : List Local) (s : Siblings) → with_locals types ls s ≡ with_decls types (map local_decl ls) s
with_locals_are types [] s = refl
with_locals_are types (l ∷ ls) s = with_locals_are types ls (with_sibling s (member_of (local_decl l)) (decl_role types (local_decl l)))

with_parameters_are : (types : Types) (ps : List Param) (s : Siblings)
    → with_parameters types ps s ≡ with_decls types (map parameter_decl ps) s
with_parameters_are types [] s = refl
with_parameters_are types (p ∷ ps) s =
    with_parameters_are types ps (with_sibling s (member_of (parameter_decl p)) (decl_role types (parameter_decl p)))

module _ (t : Table) (f : Function) (is : Stands t f) where
  abbrev pub ps : List Param
  ps = f.head.params

  abbrev pub ls : List Local
  ls = f.locals

  abbrev pub pd : List Decl
  pd = map parameter_decl ps

  abbrev ld : List Decl
  ld = map local_decl ls

  -- the declarations in the order of their slots
  abbrev pub decls : List Decl
  decls = pd ++ ld

  abbrev pub param_siblings : Siblings
  param_siblings = parameter_siblings t.types ps

  abbrev pub all_siblings : Siblings
  all_siblings = local_siblings t.types f

  abbrev final : List (Option Shape)
  final = slot_shapes t f

  pub few_slots : length ps + length ls ≤ 128
  unfolding is_over
  few_slots =
      let all : length (slots f) ≤ 128 = ltb-false 128 (length (slots f)) is.few in
      let a = length-append (map parameter f.head.params) (map local f.locals ++ hidden_slots f.locals) in
      let b = length-append (map local f.locals) (hidden_slots f.locals) in
      let c = map_length parameter f.head.params in
      let d = map_length local f.locals in
      omega arith

  names_are : slot_names f ≡ map first [] ++ (map first pd ++ map (λ (l : Local). l.name) ls)
  names_are = ap (λ l. l ++ map (λ (l : Local). l.name) ls) (parameter_names ps)

  pub params_stand : Stand (locals_of f) final 0 pd
  unfolding wrong_declaration
  params_stand = parameters_stand (locals_of f) final 0 ps
      (both_none (wrong_parameter (locals_of f) final 0 ps) (wrong_local (locals_of f) final (length ps) ls) is.stands).0

  others_stand : Stand (locals_of f) final (length pd) ld
  unfolding wrong_declaration
  others_stand =
      subst (λ n. Stand (locals_of f) final n ld) (sym (map_length parameter_decl ps))
      (locals_stand (locals_of f) final (length ps) ls
      (both_none (wrong_parameter (locals_of f) final 0 ps) (wrong_local (locals_of f) final (length ps) ls) is.stands).1)

  pub all_stand : Stand (locals_of f) final 0 decls
  all_stand = stand_both (locals_of f) final 0 pd ld params_stand (subst (λ n. Stand (locals_of f) final n ld) (omega arith) others_stand)

  pub all_first : AreFirst (slot_names f) 0 decls
  all_first = are_first f final 0 decls all_stand

  no_decls : Aligned t.types [] no_siblings
  no_decls = record { names = refl; roles = refl }

  params_aligned : Aligned t.types pd param_siblings
  unfolding parameter_siblings
  params_aligned =
      let size = map_length parameter_decl ps in
      let few = few_slots in
      subst (Aligned t.types pd) (sym (with_parameters_are t.types ps no_siblings))
      (aligned_all t.types (slot_names f) (map
      (λ (l : Local). l.name) ls) pd [] no_siblings no_decls names_are (are_first f final 0 pd params_stand) (omega arith))

  all_aligned : Aligned t.types decls all_siblings
  unfolding local_siblings
  all_aligned =
      let size = map_length parameter_decl ps in
      let more = map_length local_decl ls in
      let few = few_slots in
      let names : slot_names f ≡ map first pd ++ (map first ld ++ []) = names_are ∙ ap
      (λ l. map first pd ++ l) (local_names ls ∙ sym (append-nil (map first ld))) in
      subst (Aligned t.types decls) (sym (with_locals_are t.types ls param_siblings))
      (aligned_all t.types (slot_names f) [] ld pd param_siblings params_aligned names (are_first f final (length pd) ld others_stand)
      (omega arith))

  names_split : map first decls ≡ map first pd ++ map first ld
  names_split = by pd
    where
      by : (xs : List Decl) → map first (xs ++ ld) ≡ map first xs ++ map first ld
      by [] = refl
      by (x ∷ xs) = ap (λ l. x.0 ∷ l) (by xs)

  -- where an annotation stands: among the parameters, or among all
  pub record IsScope (plain : Unannotated) (s : Siblings) (k : ℕ) (d : Decl) : Type 0 where
    pub number : sibling_number s d.0 ≡ Some k
    pub roles : (i : ℕ) (r : Role) → role_of s i ≡ Some r → (e : Decl) × (slice_get decls i ≡ Some e) × (decl_role t.types e ≡ r)

  roles_in : (ds more : List Decl) (s : Siblings) → Aligned t.types ds s → decls ≡ ds ++ more → (i : ℕ) (r : Role) → role_of s i ≡ Some r
      → (e : Decl) × (slice_get decls i ≡ Some e) × (decl_role t.types e ≡ r)
  roles_in ds more s a all i r h =
      let e : option_map (decl_role t.types) (slice_get ds i)
      ≡ Some r = sym (slice_get-map (decl_role t.types) ds i) ∙ (ap (λ rs. slice_get rs i) (sym a.roles) ∙ h) in
      let m = some_map (slice_get ds i) (decl_role t.types) r e in
      (m.0, ap (λ (l : List Decl). slice_get l i) all ∙ slice_front ds more i m.0 m.1, m.2)

  pub param_scope : (k : ℕ) (d : Decl) → slice_get pd k ≡ Some d → IsScope Safe param_siblings k d
  param_scope k d h = record {
    number = number_is t.types (slot_names f) (map
        (λ (l : Local). l.name) ls) decls pd param_siblings k d params_aligned names_are all_first (slice_front pd ld k d h) h;
    roles = roles_in pd ld param_siblings params_aligned refl;
  }

  all_scope : (k : ℕ) (d : Decl) → slice_get decls k ≡ Some d → IsScope Hidden all_siblings k d
  all_scope k d h =
      let names : slot_names f ≡ map first decls ++ [] =
      names_are ∙ (ap (λ l. map first pd ++ l) (local_names ls) ∙ (sym names_split ∙ sym (append-nil (map first decls)))) in
      record {
        number = number_is t.types (slot_names f) [] decls decls all_siblings k d all_aligned names all_first h h;
        roles = roles_in decls [] all_siblings all_aligned (sym (append-nil decls));
      }

  -- a local
  pub record IsLocal (k : ℕ) (d : Decl) : Type 0 where
    pub place : ℕ
    pub local : Local
    pub at : slice_get f.locals place ≡ Some local
    pub slot : k ≡ length f.head.params + place
    pub type_is : local.type_name ≡ d.1

  -- the declaration of a slot
  pub record IsDeclaredAs (k : ℕ) (x : Shape) : Type 0 where
    pub plain : Unannotated
    pub siblings : Siblings
    pub decl : Decl
    pub at : slice_get decls k ≡ Some decl
    pub scope : IsScope plain siblings k decl
    pub typed : typed_shape t.types t.extents plain siblings k decl.1 ≡ Some x
    pub value : value_shape x ≡ Some x
    pub home : plain ≡ Hidden → IsLocal k decl

  pub param_at : (k : ℕ) (d : Decl) → slice_get pd k ≡ Some d
      → slice_get (parameter_shapes t ps) k ≡ Some (named_shape t Safe param_siblings d.0 d.1)
  unfolding parameter_shapes
  param_at k d h = mapped_named t Safe param_siblings parameter_decl ps k d h

  pub params_length : length (parameter_shapes t ps) ≡ length pd
  unfolding parameter_shapes
  params_length = map_length (parameter_shape t param_siblings) ps ∙ sym (map_length parameter_decl ps)

  abbrev pub shown : List (Option Shape)
  shown = parameter_shapes t ps ++ map (local_shape t all_siblings) ls

  pub shown_length : length shown ≡ length ps + length ls
  shown_length =
      let a = length-append (parameter_shapes t ps) (map (local_shape t all_siblings) ls) in
      let b = params_length in
      let c = map_length parameter_decl ps in
      let d = map_length (local_shape t all_siblings) ls in
      omega (arith, a, b, c, d)

  -- a declaration's slot
  shown_by : (k : ℕ) (d : Decl) → slice_get decls k ≡ Some d → (plain : Unannotated) × (s : Siblings) × IsScope plain s k d
      × (slice_get shown k ≡ Some (named_shape t plain s d.0 d.1)) × (plain ≡ Hidden → IsLocal k d)
  shown_by k d h = by (append_at pd ld k d h)
    where
      local_at : (j : ℕ) → k ≡ length pd + j → slice_get ld j ≡ Some d → IsLocal k d
      local_at j e g =
          let l = some_map (slice_get ls j) local_decl d (sym (slice_get-map local_decl ls j) ∙ g) in
          record {
            place = j;
            local = l.0;
            at = l.1;
            slot = e ∙ ap (λ (n : ℕ). n + j) (map_length parameter_decl ps);
            type_is = ap (λ (x : Decl). x.1) l.2;
          }

      by : (slice_get pd k ≡ Some d) ⊎ ((j : ℕ) × (k ≡ length pd + j) × (slice_get ld j ≡ Some d))
          → (plain : Unannotated) × (s : Siblings) × IsScope plain s k d × (slice_get shown k ≡ Some (named_shape t plain s d.0 d.1)) ×
          (plain ≡ Hidden → IsLocal k d)
      by (inl e) = (
        Safe,
        param_siblings,
        param_scope k d e,
        slice_front (parameter_shapes t ps) (map (local_shape t all_siblings) ls) k (named_shape t Safe param_siblings d.0 d.1)
            (param_at k d e),
        λ i. absurd cc,
      )
      by (inr (j, e, g)) =
          let o = named_shape t Hidden all_siblings d.0 d.1 in (
            Hidden,
            all_siblings,
            all_scope k d h,
            subst (λ n. slice_get shown n ≡ Some o) (ap (λ n. n + j) params_length ∙ sym e)
                (slice_behind (parameter_shapes t ps) (map (local_shape t all_siblings) ls) j (length (parameter_shapes t ps)) o refl
                (mapped_named t Hidden all_siblings local_decl ls j d g)),
            λ i. local_at j e g,
          )

  pub param_roles : (i : ℕ) (r : Role) → role_of param_siblings i ≡ Some r
      → (e : Decl) × (slice_get pd i ≡ Some e) × (decl_role t.types e ≡ r)
  param_roles i r h = some_map (slice_get pd i) (decl_role t.types) r (sym (slice_get-map (decl_role t.types) pd i) ∙ (ap
      (λ rs. slice_get rs i) (sym params_aligned.roles) ∙ h))

  decl_for : (k : ℕ) → k < length ps + length ls → (d : Decl) × (slice_get decls k ≡ Some d)
  decl_for k l = at decls k (subst (λ n. k < n) (sym long) l)
    where
      long : length decls ≡ length ps + length ls
      long =
          let a = length-append pd ld in
          let b = map_length parameter_decl ps in
          let c = map_length local_decl ls in
          omega (arith, a, b, c)

      at : (xs : List Decl) (k : ℕ) → k < length xs → (d : Decl) × (slice_get xs k ≡ Some d)
      at [] k l = absurd (omega (arith, l))
      at (x ∷ xs) zero l = (x, refl)
      at (x ∷ xs) (suc k) l = at xs k (omega (arith, l))

  -- the declaration of a slot that is no hidden one
  pub shown_decl : (k : ℕ) (s : Option Shape) → slice_get shown k ≡ Some s → (d : Decl) × (slice_get decls k ≡ Some d)
  shown_decl k s g = decl_for k (subst (λ n. k < n) shown_length (slice_get_within shown k s g))

  -- each slot is that of a declaration, or a hidden one
  pub slot_is : (k : ℕ) (x : Shape) → option_flatten (slice_get final k) ≡ Some x → IsDeclaredAs k x ⊎ (x ≡ shape.Address)
  unfolding slot_shapes
  slot_is k x h = by (slice_get final k) refl h
    where
      of_decl : slice_get shown k ≡ Some (Some x) → IsDeclaredAs k x ⊎ (x ≡ shape.Address)
      of_decl e =
          let d = decl_for k (subst (λ n. k < n) shown_length (slice_get_within shown k (Some x) e)) in
          let s = shown_by k d.0 d.1 in
          let named : named_shape t s.0 s.1 d.0.0 d.0.1 ≡ Some x = some_same _ (Some x) (sym s.3 ∙ e) in
          let n = named_typed t s.0 s.1 k d.0 x (s.2).number named in
          inl (record { plain = s.0; siblings = s.1; decl = d.0; at = d.1; scope = s.2; typed = n.0; value = n.1; home = s.4 })

      found : (slice_get shown k ≡ Some (Some x)) ⊎ (◌≡◌ {A = Option Shape} (Some x) (Some shape.Address))
          → IsDeclaredAs k x ⊎ (x ≡ shape.Address)
      found (inl e) = of_decl e
      found (inr e) = inr (some_same x shape.Address e)

      by : (o : Option (Option Shape)) → slice_get final k ≡ o → option_flatten o ≡ Some x → IsDeclaredAs k x ⊎ (x ≡ shape.Address)
      by None e h = absurd cc
      by (Some o) e h = found (hidden_or ls shown k (Some x) (e ∙ ap (λ (p : Option Shape). Some p) h))

  -- each declaration has its slot
  pub decl_slot : (k : ℕ) (d : Decl) → slice_get decls k ≡ Some d
      → (x : Shape) × (option_flatten (slice_get final k) ≡ Some x) × (p : IsDeclaredAs k x) × (p.decl ≡ d)
  unfolding slot_shapes
  decl_slot k d h =
      let there = there_is (option_flatten (slice_get final k)) (subst
      (λ n. is_declared final n ≡ true) (from_zero k) (declared_at (locals_of f) final 0 decls k d all_stand h)) in
      let s = shown_by k d h in
      let at = hidden_at ls shown k (named_shape t s.0 s.1 d.0 d.1) s.3 in
      let named : named_shape t s.0 s.1 d.0 d.1 ≡ Some there.0 = sym (ap option_flatten at) ∙ there.1 in
      let n = named_typed t s.0 s.1 k d there.0 (s.2).number named in (
        there.0,
        there.1,
        record { plain = s.0; siblings = s.1; decl = d; at = h; scope = s.2; typed = n.0; value = n.1; home = s.4 },
        refl,
      )
