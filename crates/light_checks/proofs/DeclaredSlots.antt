-- The slots of a function whose declarations stand: what its annotations name as a number of elements is an integer.
use Rattle.std.proofs.Common.{◌≡◌, ◌⊎◌, inl, inr, ℕ, zero, suc, ◌+◌, ◌-◌, ◌≤◌, ◌<◌, ◌^◌, Bool, true, false, cond, not, nat_lt, is_some, List, [], ◌∷◌, ◌++◌, map, length, Option, Some, None, option_map, position, ◌||◌, bytes_eq, slice_get, if◌then◌else◌, All, refl, sym, ap, ◌∙◌, subst, append-nil, append_assoc, arith}
use Rattle.std.specs.List.{list_any, position_or_len}
use Rattle.std.specs.Option.{option_flatten}
use Rattle.std.proofs.lemmas.Bool.{and_parts, eqb-true, ltb-false, lt-ltb, true≢false}
use Rattle.std.proofs.lemmas.List.{length-append}
use Rattle.std.proofs.lemmas.List.Elements.{All-nil, All-cons, All-append, All-map, All-weaker}
use Rattle.std.proofs.lemmas.Option.{slice_get-map}
use Rattle.c_tree.specs.declared.items.Function.{Function}
use Rattle.c_tree.specs.declared.items.Local.{Local}
use Rattle.c_tree.specs.declared.items.Param.{Param}
use Rattle.c_tree.specs.declared.types.Star.{Star}
use Rattle.c_tree.specs.declared.types.TypeName.{TypeName}
use Rattle.c_tree.specs.Slots.{Locals, is_automatic, parameter, local, hidden_slots, slots, slot_named, locals_of, slot_names}
use Rattle.c_tree.specs.Spelling.{type_words}
use Rattle.checked_tree.specs.declared.shapes.Bounds.{Bounds}
use Rattle.checked_tree.specs.declared.shapes.Bounds.TheVariants as bounds
use Rattle.checked_tree.specs.declared.shapes.Edge.{Edge}
use Rattle.checked_tree.specs.declared.shapes.Shape.{Shape}
use Rattle.checked_tree.specs.declared.shapes.Shape.TheVariants as shape
use Rattle.deputy_types.specs.declared.element.Element.{Element}
use Rattle.deputy_types.specs.declared.element.Element.TheVariants as element
use Rattle.deputy_types.specs.declared.extent.Extent.{Extent}
use Rattle.deputy_types.specs.declared.sibling.MemberName.{MemberName}
use Rattle.deputy_types.specs.declared.sibling.Role.{Role}
use Rattle.deputy_types.specs.declared.sibling.Role.TheVariants as role
use Rattle.deputy_types.specs.declared.sibling.Unannotated.{Unannotated}
use Rattle.deputy_types.specs.declared.sibling.Unannotated.TheVariants.{Safe, Hidden}
use Rattle.deputy_types.specs.declared.siblings.Siblings.{Siblings}
use Rattle.deputy_types.specs.declared.types.Types.{Types}
use Rattle.deputy_types.specs.Declarations.{shape_behind, typed_shape, is_text, numbered_role, role_behind, role_by, declared_role}
use Rattle.deputy_types.specs.Extents.{key_extent}
use Rattle.deputy_rules.specs.Heads.{with_parameters, parameter_siblings, with_locals, local_siblings, value_shape, named_shape, parameter_shape, local_shape, parameter_shapes, with_hidden, slot_shapes, is_over, is_declared, declaration_stands, wrong_parameter, wrong_local, or_else, wrong_declaration}
use Rattle.deputy_rules.specs.Agreement.{same_place}
use Rattle.deputy_types.specs.Options.{and_then}
use Rattle.deputy_types.specs.Siblings.{is_member, sibling_number, role_of, is_new_member, with_member, with_sibling, no_siblings}
use Rattle.deputy_types.specs.Table.{Table}
use Rattle.deputy_types.specs.Types.{element_number, pointed_key, last_star}
use Rattle.deputy_types.proofs.Inversions.{some_then, some_map}
use Rattle.layout_laws.proofs.Lists.{slice_front, slice_behind}
use Rattle.light_checks.specs.Standing.{Stands}
use Rattle.light_checks.specs.Within.{is_integer, shape_at, IsEdge, IsBounds, IsShape, AreShapes}
use Rattle.light_checks.specs.Words.{IsReadable}
use Rattle.light_checks.proofs.DeclaredSides.{IsCounted, IsRoled, AreRoled, IsRoledShape, shape_roled}
use Rattle.light_checks.proofs.Ensuring.{some_same, given}

-- ---- what counts elements is an integer
numbered_other : {P : Type 0} (o : Option ℕ) → numbered_role o ≡ role.Integer → P
numbered_other None h = absurd cc
numbered_other (Some n) h = absurd cc

pointer_other : {P : Type 0} (text : Bool) (o : Option ℕ) → (if text then role.Other else numbered_role o) ≡ role.Integer → P
pointer_other true o h = absurd cc
pointer_other false o h = numbered_other o h

integer_shape : (types : Types) (extents : List Extent) (plain : Unannotated) (siblings : Siblings) (place : ℕ) (tag : Bool) (key : Element) (o : Option Star) (x : Shape)
    → role_behind types.elements tag key o ≡ role.Integer → shape_behind types.elements extents plain siblings place key o ≡ Some x → is_integer (Some x) ≡ true
integer_shape types extents plain siblings place tag (element.Int s) None x r h = given (λ y. is_integer (Some y) ≡ true) (shape.Int s) x h refl
integer_shape types extents plain siblings place tag (element.Struct s) None x r h = absurd cc
integer_shape types extents plain siblings place tag (element.Sentinel n) None x r h = absurd cc
integer_shape types extents plain siblings place tag (element.Nullterm n) None x r h = absurd cc
integer_shape types extents plain siblings place tag (element.Count n k) None x r h = absurd cc
integer_shape types extents plain siblings place tag key (Some star) x r h = pointer_other (is_text star.annotation) (element_number types.elements key) r

pub role_integer : (types : Types) (extents : List Extent) (plain : Unannotated) (siblings : Siblings) (place : ℕ) (array tag : Bool) (t : TypeName) (x : Shape)
    → declared_role types array tag t ≡ role.Integer → typed_shape types extents plain siblings place t ≡ Some x → is_integer (Some x) ≡ true
unfolding declared_role typed_shape
role_integer types extents plain siblings place true tag t x r h = absurd cc
role_integer types extents plain siblings place false tag t x r h =
    let a = some_then (pointed_key types t) (λ key. shape_behind types.elements extents plain siblings place key (last_star t.stars)) x h in
    integer_shape types extents plain siblings place tag a.0 (last_star t.stars) x (sym (ap (role_by types tag t) a.1) ∙ r) a.2

-- ---- positions
found_at : (b : Bool) (n i : ℕ) → (if b then Some n else None) ≡ Some i → n ≡ i
found_at true n i h = some_same n i h
found_at false n i h = absurd cc

pub position_is : {X : Type 0} (p : X → Bool) (xs : List X) (i : ℕ) → position p xs ≡ Some i → position_or_len p xs ≡ i
position_is p xs i h = found_at (nat_lt (position_or_len p xs) (length xs)) (position_or_len p xs) i h

none_before : {X : Type 0} (p : X → Bool) (xs ys : List X) → position_or_len p (xs ++ ys) ≡ length xs → list_any p xs ≡ false
none_before p [] ys h = refl
none_before p (x ∷ xs) ys h = by (p x) refl h (λ k. none_before p xs ys k)
  where
    by : (b : Bool) → p x ≡ b → cond (not b) (1 + position_or_len p (xs ++ ys)) 0 ≡ suc (length xs) → (position_or_len p (xs ++ ys) ≡ length xs → list_any p xs ≡ false) → (b || list_any p xs) ≡ false
    by true e k f = absurd (omega arith)
    by false e k f = f (omega arith)

-- what is found behind so many is not among them
pub not_before : {X : Type 0} (p : X → Bool) (xs ys : List X) → position p (xs ++ ys) ≡ Some (length xs) → list_any p xs ≡ false
not_before p xs ys h = none_before p xs ys (position_is p (xs ++ ys) (length xs) h)

-- ---- declarations by name
abbrev pub Decl : Type 0
Decl = List ℕ × TypeName

abbrev pub first : Decl → List ℕ
first d = d.0

abbrev pub member_of : Decl → MemberName
member_of d = record { part = None; name = d.0 }

abbrev pub decl_role : Types → Decl → Role
decl_role types d = declared_role types false false d.1

abbrev pub parameter_decl : Param → Decl
parameter_decl p = (p.name, p.type_name)

abbrev local_decl : Local → Decl
local_decl l = (l.name, l.type_name)

abbrev with_decls : Types → List Decl → Siblings → Siblings
with_decls types [] s = s
with_decls types (d ∷ ds) s = with_decls types ds (with_sibling s (member_of d) (decl_role types d))

pub with_parameters_is : (types : Types) (ps : List Param) (s : Siblings) → with_parameters types ps s ≡ with_decls types (map parameter_decl ps) s
with_parameters_is types [] s = refl
with_parameters_is types (p ∷ ps) s = with_parameters_is types ps (with_sibling s (member_of (parameter_decl p)) (decl_role types (parameter_decl p)))

with_locals_is : (types : Types) (ls : List Local) (s : Siblings) → with_locals types ls s ≡ with_decls types (map local_decl ls) s
with_locals_is types [] s = refl
with_locals_is types (l ∷ ls) s = with_locals_is types ls (with_sibling s (member_of (local_decl l)) (decl_role types (local_decl l)))

with_both : (types : Types) (ds es : List Decl) (s : Siblings) → with_decls types es (with_decls types ds s) ≡ with_decls types (ds ++ es) s
with_both types [] es s = refl
with_both types (d ∷ ds) es s = with_both types ds es (with_sibling s (member_of d) (decl_role types d))

-- siblings that are these declarations, one by one
pub record Aligned (types : Types) (ds : List Decl) (s : Siblings) : Type 0 where
  pub names : s.names ≡ map member_of ds
  pub roles : s.roles ≡ map (decl_role types) ds

pub joined : (s : Siblings) (m : MemberName) (r : Role) → is_new_member s.names m ≡ true → with_sibling s m r ≡ record { names = s.names ++ m ∷ []; roles = s.roles ++ r ∷ [] }
unfolding with_sibling with_member
joined s m r h = by (is_new_member s.names m) h
  where
    by : (b : Bool) → b ≡ true → ◌≡◌ {A = Siblings} (if b then record { names = if b then s.names ++ m ∷ [] else s.names; roles = s.roles ++ r ∷ [] }
        else record { names = if b then s.names ++ m ∷ [] else s.names; roles = s.roles }) (record { names = s.names ++ m ∷ []; roles = s.roles ++ r ∷ [] })
    by true h = refl
    by false h = absurd cc

any_member : (name : List ℕ) (ds : List Decl) → list_any (is_member None name) (map member_of ds) ≡ list_any (bytes_eq name) (map first ds)
any_member name [] = refl
any_member name (d ∷ ds) = ap (λ b. bytes_eq name d.0 || b) (any_member name ds)

pub map_length : {X Y : Type 0} (f : X → Y) (xs : List X) → length (map f xs) ≡ length xs
map_length f [] = refl
map_length f (x ∷ xs) = ap (λ n. suc n) (map_length f xs)

pub map_push : {X Y : Type 0} (f : X → Y) (xs : List X) (x : X) → map f (xs ++ x ∷ []) ≡ map f xs ++ f x ∷ []
map_push f [] x = refl
map_push f (y ∷ xs) x = ap (λ l. f y ∷ l) (map_push f xs x)

pushed : (before : List Decl) (d : Decl) (rest : List (List ℕ)) → map first (before ++ d ∷ []) ++ rest ≡ map first before ++ d.0 ∷ rest
pushed [] d rest = refl
pushed (b ∷ before) d rest = ap (λ l. b.0 ∷ l) (pushed before d rest)

pub is_new : (names : List MemberName) (m : MemberName) → list_any (is_member m.part m.name) names ≡ false → length names < 2 ^ 32 - 1 → is_new_member names m ≡ true
unfolding is_new_member
is_new names m h k = by (list_any (is_member m.part m.name) names) h
  where
    by : (b : Bool) → b ≡ false → (if b then false else nat_lt (length names) (2 ^ 32 - 1)) ≡ true
    by true h = absurd cc
    by false h = lt-ltb (length names) (2 ^ 32 - 1) k

aligned_push : (types : Types) (ds : List Decl) (d : Decl) (s : Siblings) → Aligned types ds s → list_any (bytes_eq d.0) (map first ds) ≡ false → length ds ≤ 1000
    → Aligned types (ds ++ d ∷ []) (with_sibling s (member_of d) (decl_role types d))
aligned_push types ds d s a h few =
    let m = member_of d in
    let r = decl_role types d in
    let size : length s.names ≡ length ds = ap length a.names ∙ map_length member_of ds in
    let none : list_any (is_member None d.0) s.names ≡ false = ap (list_any (is_member None d.0)) a.names ∙ (any_member d.0 ds ∙ h) in
    let both : Aligned types (ds ++ d ∷ []) (record { names = s.names ++ m ∷ []; roles = s.roles ++ r ∷ [] }) = record {
      names = ap (λ ns. ns ++ m ∷ []) a.names ∙ sym (map_push member_of ds d);
      roles = ap (λ rs. rs ++ r ∷ []) a.roles ∙ sym (map_push (decl_role types) ds d);
    } in
    subst (Aligned types (ds ++ d ∷ [])) (sym (joined s m r (is_new s.names m none (omega arith)))) both

-- each name is the first that is spelled so
abbrev pub AreFirst : List (List ℕ) → ℕ → List Decl → Type 0
AreFirst names i [] = Unit {0}
AreFirst names i (d ∷ ds) = (position (bytes_eq d.0) names ≡ Some i) × AreFirst names (i + 1) ds

pub aligned_all : (types : Types) (names extra : List (List ℕ)) (ds before : List Decl) (s : Siblings) → Aligned types before s → names ≡ map first before ++ (map first ds ++ extra)
    → AreFirst names (length before) ds → length before + length ds ≤ 1000 → Aligned types (before ++ ds) (with_decls types ds s)
aligned_all types names extra [] before s a e are few = subst (λ l. Aligned types l s) (sym (append-nil before)) a
aligned_all types names extra (d ∷ ds) before s a e are few =
    let size : length (map first before) ≡ length before = map_length first before in
    let here : position (bytes_eq d.0) (map first before ++ (d.0 ∷ (map first ds ++ extra))) ≡ Some (length (map first before)) =
    ap (position (bytes_eq d.0)) (sym e) ∙ (are.0 ∙ ap (λ n. Some n) (sym size)) in
    let next = aligned_push types before d s a (not_before (bytes_eq d.0) (map first before) (d.0 ∷ (map first ds ++ extra)) here) (omega arith) in
    let more : length (before ++ d ∷ []) ≡ length before + 1 = length-append before (d ∷ []) in
    subst (λ l. Aligned types l (with_decls types ds (with_sibling s (member_of d) (decl_role types d)))) (append_assoc before (d ∷ []) ds)
    (aligned_all types names extra ds (before ++ d ∷ []) (with_sibling s (member_of d) (decl_role types d)) next (e ∙ sym (pushed before d (map first ds ++ extra)))
    (subst (λ n. AreFirst names n ds) (sym more) are.1) (omega arith))

-- ---- declarations that stand
abbrev Stand : Locals → List (Option Shape) → ℕ → List Decl → Type 0
Stand locals shapes i [] = Unit {0}
Stand locals shapes i (d ∷ ds) = (declaration_stands locals shapes i d.0 ≡ true) × Stand locals shapes (i + 1) ds

pub if_none : (b : Bool) (o : Option ℕ) (line : ℕ) → (if b then o else Some line) ≡ None → (b ≡ true) × (o ≡ None)
if_none true o line h = (refl, h)
if_none false o line h = absurd cc

parameters_stand : (locals : Locals) (shapes : List (Option Shape)) (i : ℕ) (ps : List Param) → wrong_parameter locals shapes i ps ≡ None → Stand locals shapes i (map parameter_decl ps)
parameters_stand locals shapes i [] h = tt
parameters_stand locals shapes i (p ∷ ps) h =
    let b = if_none (declaration_stands locals shapes i p.name) (wrong_parameter locals shapes (i + 1) ps) p.line h in (b.0, parameters_stand locals shapes (i + 1) ps b.1)

locals_stand : (locals : Locals) (shapes : List (Option Shape)) (i : ℕ) (ls : List Local) → wrong_local locals shapes i ls ≡ None → Stand locals shapes i (map local_decl ls)
locals_stand locals shapes i [] h = tt
locals_stand locals shapes i (l ∷ ls) h =
    let b = if_none (declaration_stands locals shapes i l.name) (wrong_local locals shapes (i + 1) ls) l.line h in (b.0, locals_stand locals shapes (i + 1) ls b.1)

both_none : (o q : Option ℕ) → or_else o q ≡ None → (o ≡ None) × (q ≡ None)
both_none None q h = (refl, h)
both_none (Some n) q h = absurd cc

pub same_is : (o : Option ℕ) (i : ℕ) → same_place o (Some i) ≡ true → o ≡ Some i
same_is None i h = absurd cc
same_is (Some j) i h = ap (λ n. Some n) (eqb-true j i h)

are_first : (f : Function) (shapes : List (Option Shape)) (i : ℕ) (ds : List Decl) → Stand (locals_of f) shapes i ds → AreFirst (slot_names f) i ds
unfolding declaration_stands slot_named
are_first f shapes i [] s = tt
are_first f shapes i (d ∷ ds) s =
    (same_is (position (bytes_eq d.0) (slot_names f)) i (and_parts (same_place (position (bytes_eq d.0) (slot_names f)) (Some i)) (is_declared shapes i) s.0).0, are_first f shapes (i + 1) ds s.1)

declared_at : (locals : Locals) (shapes : List (Option Shape)) (i : ℕ) (ds : List Decl) (k : ℕ) (d : Decl) → Stand locals shapes i ds → slice_get ds k ≡ Some d → is_declared shapes (i + k) ≡ true
unfolding declaration_stands
declared_at locals shapes i [] k d s h = absurd cc
declared_at locals shapes i (e ∷ ds) zero d s h =
    subst (λ n. is_declared shapes n ≡ true) (omega arith) (and_parts (same_place (slot_named locals e.0) (Some i)) (is_declared shapes i) s.0).1
declared_at locals shapes i (e ∷ ds) (suc k) d s h = subst (λ n. is_declared shapes n ≡ true) (omega arith) (declared_at locals shapes (i + 1) ds k d s.1 h)

-- ---- the shapes of slots
hidden_at : (ls : List Local) (shapes : List (Option Shape)) (k : ℕ) (x : Option Shape) → slice_get shapes k ≡ Some x → slice_get (with_hidden ls shapes) k ≡ Some x
hidden_at [] shapes k x h = h
hidden_at (l ∷ ls) shapes k x h = hidden_at ls (if is_automatic l then shapes ++ (Some shape.Address ∷ Some shape.Address ∷ []) else shapes) k x (by (is_automatic l))
  where
    by : (b : Bool) → slice_get (if b then shapes ++ (Some shape.Address ∷ Some shape.Address ∷ []) else shapes) k ≡ Some x
    by true = slice_front shapes (Some shape.Address ∷ Some shape.Address ∷ []) k x h
    by false = h

all_hidden : (P : Option Shape → Type 0) (ls : List Local) (shapes : List (Option Shape)) → P (Some shape.Address) → All P shapes → All P (with_hidden ls shapes)
all_hidden P [] shapes p all = all
all_hidden P (l ∷ ls) shapes p all = all_hidden P ls (if is_automatic l then shapes ++ (Some shape.Address ∷ Some shape.Address ∷ []) else shapes) p (by (is_automatic l))
  where
    by : (b : Bool) → All P (if b then shapes ++ (Some shape.Address ∷ Some shape.Address ∷ []) else shapes)
    by true = All-append P shapes (Some shape.Address ∷ Some shape.Address ∷ []) all (All-cons P (Some shape.Address) (Some shape.Address ∷ []) p (All-cons P (Some shape.Address) [] p (All-nil P)))
    by false = all

-- what is declared, where a number of elements is declared, is an integer
value_integer : (y x : Shape) → value_shape y ≡ Some x → is_integer (Some y) ≡ true → is_integer (Some x) ≡ true
unfolding value_shape
value_integer (shape.Int s) x h t = given (λ z. is_integer (Some z) ≡ true) (shape.Int s) x h refl
value_integer (shape.Pointer elem b) x h t = absurd (true≢false (sym t))
value_integer (shape.Struct s) x h t = absurd (true≢false (sym t))
value_integer shape.Address x h t = absurd (true≢false (sym t))

named_integer : (t : Table) (plain : Unannotated) (siblings : Siblings) (d : Decl) (x : Shape) → named_shape t plain siblings d.0 d.1 ≡ Some x → decl_role t.types d ≡ role.Integer → is_integer (Some x) ≡ true
unfolding named_shape
named_integer t plain siblings d x h r =
    let a = some_then (sibling_number siblings d.0) (λ place. and_then (typed_shape t.types t.extents plain siblings place d.1) value_shape) x h in
    let b = some_then (typed_shape t.types t.extents plain siblings a.0 d.1) value_shape x a.2 in
    value_integer b.0 x b.2 (role_integer t.types t.extents plain siblings a.0 false false d.1 b.0 r b.1)

there_is : (o : Option Shape) → is_some o ≡ true → (x : Shape) × (o ≡ Some x)
there_is None h = absurd cc
there_is (Some x) h = (x, refl)

-- the shape of a declaration that stands, in a list of shapes where each is that of its declaration
abbrev pub AreNamed : Table → List Decl → List (Option Shape) → Type 0
AreNamed t ds shapes = (k : ℕ) (d : Decl) → slice_get ds k ≡ Some d → (plain : Unannotated) × (siblings : Siblings) × (slice_get shapes k ≡ Some (named_shape t plain siblings d.0 d.1))

pub integer_at_role : (t : Table) (ds : List Decl) (s : Siblings) (shapes : List (Option Shape)) → Aligned t.types ds s → AreNamed t ds shapes
    → ((k : ℕ) (d : Decl) → slice_get ds k ≡ Some d → is_declared shapes k ≡ true) → (k : ℕ) → role_of s k ≡ Some role.Integer → is_integer (shape_at shapes k) ≡ true
integer_at_role t ds s shapes a named there k h =
    let e : option_map (decl_role t.types) (slice_get ds k) ≡ Some role.Integer = sym (slice_get-map (decl_role t.types) ds k) ∙ (ap (λ rs. slice_get rs k) (sym a.roles) ∙ h) in
    let m = some_map (slice_get ds k) (decl_role t.types) role.Integer e in
    let n = named k m.0 m.1 in
    let flat : option_flatten (slice_get shapes k) ≡ named_shape t n.0 n.1 m.0.0 m.0.1 = ap option_flatten n.2 in
    let x = there_is (shape_at shapes k) (there k m.0 m.1) in
    ap is_integer x.1 ∙ named_integer t n.0 n.1 m.0 x.0 (sym flat ∙ x.1) m.2

-- ---- shapes by the roles of their siblings
module _ (siblings : Siblings) (shapes : List (Option Shape)) (integers : (k : ℕ) → role_of siblings k ≡ Some role.Integer → is_integer (shape_at shapes k) ≡ true) where
  edge_is : (e : Edge) → IsRoled siblings e → IsEdge shapes e
  edge_is e r = record {
    bytes = r.bytes;
    weight = r.weight;
    integers = All-weaker (IsCounted siblings) (λ t. is_integer (shape_at shapes t.1) ≡ true) (λ t h. integers t.1 h) e.terms r.roles;
  }

  bounds_are : (b : Bounds) → AreRoled siblings b → IsBounds shapes b
  bounds_are bounds.Hidden r = tt
  bounds_are bounds.Nullterm r = tt
  bounds_are (bounds.Within lo hi) r = (edge_is lo r.0, edge_is hi r.1)

  pub roled_shape_is : (x : Shape) → IsRoledShape siblings x → IsShape shapes (Some x)
  roled_shape_is (shape.Int s) r = tt
  roled_shape_is (shape.Pointer elem b) r = bounds_are b r
  roled_shape_is (shape.Struct s) r = tt
  roled_shape_is shape.Address r = tt

pub value_roled : (siblings : Siblings) (y x : Shape) → value_shape y ≡ Some x → IsRoledShape siblings y → IsRoledShape siblings x
unfolding value_shape
value_roled siblings (shape.Int s) x h r = given (IsRoledShape siblings) (shape.Int s) x h r
value_roled siblings (shape.Pointer elem b) x h r = given (IsRoledShape siblings) (shape.Pointer elem b) x h r
value_roled siblings (shape.Struct s) x h r = absurd cc
value_roled siblings shape.Address x h r = absurd cc

module _ (t : Table) (sizes : (key : Element) → (key_extent t.extents key).bytes ≤ 65536) where
  named_roled : (plain : Unannotated) (siblings : Siblings) (name : List ℕ) (type_name : TypeName) (x : Shape) → IsReadable (type_words type_name)
      → named_shape t plain siblings name type_name ≡ Some x → IsRoledShape siblings x
  unfolding named_shape
  named_roled plain siblings name type_name x r h =
      let a = some_then (sibling_number siblings name) (λ place. and_then (typed_shape t.types t.extents plain siblings place type_name) value_shape) x h in
      let b = some_then (typed_shape t.types t.extents plain siblings a.0 type_name) value_shape x a.2 in
      value_roled siblings b.0 x b.2 (shape_roled t.types t.extents plain siblings a.0 type_name b.0 sizes r b.1)

  pub named_is : (plain : Unannotated) (siblings : Siblings) (shapes : List (Option Shape)) (name : List ℕ) (type_name : TypeName)
      → ((k : ℕ) → role_of siblings k ≡ Some role.Integer → is_integer (shape_at shapes k) ≡ true) → IsReadable (type_words type_name)
      → IsShape shapes (named_shape t plain siblings name type_name)
  named_is plain siblings shapes name type_name integers r = by (named_shape t plain siblings name type_name) refl
    where
      by : (o : Option Shape) → named_shape t plain siblings name type_name ≡ o → IsShape shapes o
      by None h = tt
      by (Some x) h = roled_shape_is siblings shapes integers x (named_roled plain siblings name type_name x r h)

-- ---- the slots of a function
pub mapped_named : {X : Type 0} (t : Table) (plain : Unannotated) (siblings : Siblings) (decl : X → Decl) (xs : List X) (k : ℕ) (d : Decl) → slice_get (map decl xs) k ≡ Some d
    → slice_get (map (λ x. named_shape t plain siblings (decl x).0 (decl x).1) xs) k ≡ Some (named_shape t plain siblings d.0 d.1)
mapped_named t plain siblings decl xs k d h =
    let m = some_map (slice_get xs k) decl d (sym (slice_get-map decl xs k) ∙ h) in
    subst (λ (e : Decl). slice_get (map (λ x. named_shape t plain siblings (decl x).0 (decl x).1) xs) k ≡ Some (named_shape t plain siblings e.0 e.1)) m.2
    (slice_get-map (λ x. named_shape t plain siblings (decl x).0 (decl x).1) xs k ∙ ap (option_map (λ x. named_shape t plain siblings (decl x).0 (decl x).1)) m.1)

pub append_at : {X : Type 0} (xs ys : List X) (k : ℕ) (x : X) → slice_get (xs ++ ys) k ≡ Some x → (slice_get xs k ≡ Some x) ⊎ ((j : ℕ) × (k ≡ length xs + j) × (slice_get ys j ≡ Some x))
append_at [] ys k x h = inr (k, omega arith, h)
append_at (y ∷ xs) ys zero x h = inl h
append_at (y ∷ xs) ys (suc k) x h = by (append_at xs ys k x h)
  where
    by : (slice_get xs k ≡ Some x) ⊎ ((j : ℕ) × (k ≡ length xs + j) × (slice_get ys j ≡ Some x))
        → (slice_get xs k ≡ Some x) ⊎ ((j : ℕ) × (suc k ≡ suc (length xs) + j) × (slice_get ys j ≡ Some x))
    by (inl e) = inl e
    by (inr (j, e, f)) = inr (j, omega arith, f)

stand_both : (locals : Locals) (shapes : List (Option Shape)) (i : ℕ) (ds es : List Decl) → Stand locals shapes i ds → Stand locals shapes (i + length ds) es → Stand locals shapes i (ds ++ es)
stand_both locals shapes i [] es s r = subst (λ n. Stand locals shapes n es) (omega arith) r
stand_both locals shapes i (d ∷ ds) es s r = (s.0, stand_both locals shapes (i + 1) ds es s.1 (subst (λ n. Stand locals shapes n es) (more i (length ds)) r))
  where
    more : (i n : ℕ) → i + suc n ≡ i + 1 + n
    more i n = omega arith

parameter_names : (ps : List Param) → map (λ (p : Param). p.name) ps ≡ map first (map parameter_decl ps)
parameter_names [] = refl
parameter_names (p ∷ ps) = ap (λ l. p.name ∷ l) (parameter_names ps)

local_names : (ls : List Local) → map (λ (l : Local). l.name) ls ≡ map first (map local_decl ls)
local_names [] = refl
local_names (l ∷ ls) = ap (λ m. l.name ∷ m) (local_names ls)

-- a function whose types are readable
pub record HasReadable (f : Function) : Type 0 where
  pub params : All (λ (p : Param). IsReadable (type_words p.type_name)) f.head.params
  pub locals : All (λ (l : Local). IsReadable (type_words l.type_name)) f.locals

module _ (t : Table) (sizes : (key : Element) → (key_extent t.extents key).bytes ≤ 65536) (f : Function) (is : Stands t f) (words : HasReadable f) where
  abbrev ps : List Param
  ps = f.head.params

  abbrev ls : List Local
  ls = f.locals

  abbrev pd : List Decl
  pd = map parameter_decl ps

  abbrev ld : List Decl
  ld = map local_decl ls

  abbrev param_siblings : Siblings
  param_siblings = parameter_siblings t.types ps

  abbrev all_siblings : Siblings
  all_siblings = local_siblings t.types f

  abbrev final : List (Option Shape)
  final = slot_shapes t f

  few_slots : length ps + length ls ≤ 128
  unfolding is_over
  few_slots =
      let all : length (slots f) ≤ 128 = ltb-false 128 (length (slots f)) is.few in
      let a = length-append (map parameter f.head.params) (map local f.locals ++ hidden_slots f.locals) in
      let b = length-append (map local f.locals) (hidden_slots f.locals) in
      let c = map_length parameter f.head.params in
      let d = map_length local f.locals in
      omega arith

  names_are : slot_names f ≡ map first [] ++ (map first pd ++ map (λ (l : Local). l.name) ls)
  names_are = ap (λ l. l ++ map (λ (l : Local). l.name) ls) (parameter_names ps)

  params_stand : Stand (locals_of f) final 0 pd
  unfolding wrong_declaration
  params_stand = parameters_stand (locals_of f) final 0 ps (both_none (wrong_parameter (locals_of f) final 0 ps) (wrong_local (locals_of f) final (length ps) ls) is.stands).0

  others_stand : Stand (locals_of f) final (length pd) ld
  unfolding wrong_declaration
  others_stand =
      subst (λ n. Stand (locals_of f) final n ld) (sym (map_length parameter_decl ps))
      (locals_stand (locals_of f) final (length ps) ls (both_none (wrong_parameter (locals_of f) final 0 ps) (wrong_local (locals_of f) final (length ps) ls) is.stands).1)

  no_decls : Aligned t.types [] no_siblings
  no_decls = record { names = refl; roles = refl }

  params_aligned : Aligned t.types pd param_siblings
  unfolding parameter_siblings
  params_aligned =
      let size = map_length parameter_decl ps in
      let few = few_slots in
      subst (Aligned t.types pd) (sym (with_parameters_is t.types ps no_siblings))
      (aligned_all t.types (slot_names f) (map (λ (l : Local). l.name) ls) pd [] no_siblings no_decls names_are (are_first f final 0 pd params_stand) (omega arith))

  all_aligned : Aligned t.types (pd ++ ld) all_siblings
  unfolding local_siblings
  all_aligned =
      let size = map_length parameter_decl ps in
      let more = map_length local_decl ls in
      let few = few_slots in
      let names : slot_names f ≡ map first pd ++ (map first ld ++ []) = names_are ∙ ap (λ l. map first pd ++ l) (local_names ls ∙ sym (append-nil (map first ld))) in
      subst (Aligned t.types (pd ++ ld)) (sym (with_locals_is t.types ls param_siblings))
      (aligned_all t.types (slot_names f) [] ld pd param_siblings params_aligned names (are_first f final (length pd) ld others_stand) (omega arith))

  param_at : (k : ℕ) (d : Decl) → slice_get pd k ≡ Some d → slice_get (parameter_shapes t ps) k ≡ Some (named_shape t Safe param_siblings d.0 d.1)
  unfolding parameter_shapes
  param_at k d h = mapped_named t Safe param_siblings parameter_decl ps k d h

  param_in : (k : ℕ) (d : Decl) → slice_get pd k ≡ Some d → slice_get final k ≡ Some (named_shape t Safe param_siblings d.0 d.1)
  unfolding slot_shapes
  param_in k d h =
      hidden_at ls (parameter_shapes t ps ++ map (local_shape t all_siblings) ls) k (named_shape t Safe param_siblings d.0 d.1)
      (slice_front (parameter_shapes t ps) (map (local_shape t all_siblings) ls) k (named_shape t Safe param_siblings d.0 d.1) (param_at k d h))

  params_length : length (parameter_shapes t ps) ≡ length pd
  unfolding parameter_shapes
  params_length = map_length (parameter_shape t param_siblings) ps ∙ sym (map_length parameter_decl ps)

  all_named : AreNamed t (pd ++ ld) final
  unfolding slot_shapes
  all_named k d h = by (append_at pd ld k d h)
    where
      by : (slice_get pd k ≡ Some d) ⊎ ((j : ℕ) × (k ≡ length pd + j) × (slice_get ld j ≡ Some d))
          → (plain : Unannotated) × (siblings : Siblings) × (slice_get (with_hidden ls (parameter_shapes t ps ++ map (local_shape t all_siblings) ls)) k ≡ Some (named_shape t plain siblings d.0 d.1))
      by (inl e) = (Safe, param_siblings, param_in k d e)
      by (inr (j, e, g)) =
          let o = named_shape t Hidden all_siblings d.0 d.1 in (
            Hidden,
            all_siblings,
            hidden_at ls (parameter_shapes t ps ++ map (local_shape t all_siblings) ls) k o
                (subst (λ n. slice_get (parameter_shapes t ps ++ map (local_shape t all_siblings) ls) n ≡ Some o) (ap (λ n. n + j) params_length ∙ sym e)
                (slice_behind (parameter_shapes t ps) (map (local_shape t all_siblings) ls) j (length (parameter_shapes t ps)) o refl (mapped_named t Hidden all_siblings local_decl ls j d g))),
          )

  all_there : (k : ℕ) (d : Decl) → slice_get (pd ++ ld) k ≡ Some d → is_declared final k ≡ true
  all_there k d h = subst (λ n. is_declared final n ≡ true) (omega arith) (declared_at (locals_of f) final 0 (pd ++ ld) k d (stand_both (locals_of f) final 0 pd ld params_stand (subst (λ n. Stand (locals_of f) final n ld) (omega arith) others_stand)) h)

  all_integers : (k : ℕ) → role_of all_siblings k ≡ Some role.Integer → is_integer (shape_at final k) ≡ true
  all_integers = integer_at_role t (pd ++ ld) all_siblings final all_aligned all_named all_there

  param_integers : (k : ℕ) → role_of param_siblings k ≡ Some role.Integer → is_integer (shape_at final k) ≡ true
  param_integers =
      integer_at_role t pd param_siblings final params_aligned (λ k d h. (Safe, param_siblings, param_in k d h)) (λ k d h. all_there k d (slice_front pd ld k d h))

  -- the slots
  pub slots_are : AreShapes final
  unfolding slot_shapes parameter_shapes
  slots_are =
      all_hidden (IsShape final) ls (parameter_shapes t ps ++ map (local_shape t all_siblings) ls) tt
      (All-append (IsShape final) (parameter_shapes t ps) (map (local_shape t all_siblings) ls)
      (All-map (IsShape final) (parameter_shape t param_siblings) ps
      (All-weaker (λ (p : Param). IsReadable (type_words p.type_name)) (λ p. IsShape final (parameter_shape t param_siblings p))
      (λ p r. named_is t sizes Safe param_siblings final p.name p.type_name param_integers r) ps words.params))
      (All-map (IsShape final) (local_shape t all_siblings) ls
      (All-weaker (λ (l : Local). IsReadable (type_words l.type_name)) (λ l. IsShape final (local_shape t all_siblings l))
      (λ l r. named_is t sizes Hidden all_siblings final l.name l.type_name all_integers r) ls words.locals)))
