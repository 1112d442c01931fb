-- The table of a short unit: the types, the structs and the load image.
use Rattle.std.proofs.Common.{◌≡◌, ℕ, ◌+◌, ◌*◌, ◌≤◌, Bool, true, false, nat_lt, nat_le, is_some, List, [], ◌∷◌, ◌++◌, map, length, Option, Some, None, IfSome, option_map, unwrap_or, Result, Ok, Err, ℤ, slice_get, if◌then◌else◌, All, refl, subst, arith}
use Rattle.std.specs.Option.{option_flatten}
use Rattle.std.proofs.lemmas.Bool.{ltb-false}
use Rattle.std.proofs.lemmas.List.Elements.{All-nil, All-cons, All-head, All-tail, All-push, All-append}
use Rattle.c_tree.specs.declared.items.Arm.{Arm}
use Rattle.c_tree.specs.declared.items.Field.{Field}
use Rattle.c_tree.specs.declared.items.Field.TheVariants as field
use Rattle.c_tree.specs.declared.items.GlobalItem.{GlobalItem}
use Rattle.c_tree.specs.declared.items.Item.{Item}
use Rattle.c_tree.specs.declared.items.Item.TheVariants as item
use Rattle.c_tree.specs.declared.items.StructItem.{StructItem}
use Rattle.c_tree.specs.declared.limits.LimitKind.TheVariants as limit
use Rattle.c_tree.specs.declared.types.Star.{Star}
use Rattle.c_tree.specs.declared.types.TypeName.{TypeName}
use Rattle.checked_tree.specs.declared.shapes.Member.{Member}
use Rattle.checked_tree.specs.declared.shapes.StructShape.{StructShape}
use Rattle.checked_tree.specs.declared.shapes.UnionShape.{UnionShape}
use Rattle.checked_tree.specs.declared.units.ImageBlock.{ImageBlock}
use Rattle.deputy_types.specs.declared.element.Element.{Element}
use Rattle.deputy_types.specs.declared.extent.Extent.{Extent}
use Rattle.deputy_types.specs.declared.global.GlobalShape.{GlobalShape}
use Rattle.deputy_types.specs.declared.refusal.TypeRefusal.{TypeRefusal}
use Rattle.deputy_types.specs.declared.refusal.TypeRefusal.TheVariants as refusal
use Rattle.deputy_types.specs.declared.struct_names.StructNames.{StructNames}
use Rattle.deputy_types.specs.declared.types.Types.{Types}
use Rattle.deputy_rules.specs.Changes.{shape_of}
use Rattle.deputy_types.specs.Extents.{IsExtent, AreExtents, struct_extent, key_extent}
use Rattle.deputy_types.specs.Keys.{IsKey}
use Rattle.deputy_types.specs.MemberTypes.{arm_keys, keys_of, member_keys}
use Rattle.deputy_types.specs.Options.{and_then}
use Rattle.deputy_types.specs.StructLayout.{or_no_decl, element_count, empty_struct, with_fields_in_turn, laid_out, head_of_struct, struct_siblings, laid_with, struct_laid}
use Rattle.deputy_types.specs.Table.{element_at, member_key}
use Rattle.deputy_types.specs.Types.{base_key, star_key, stars_key, type_key, element_number}
use Rattle.deputy_types.specs.UnitLayout.{nothing_declared, is_new_global, first_value, if_declared, global_of, global_declared, with_global_shape, with_global, with_struct, with_taken, with_body, with_function, strings_behind, with_item, with_items, image_end, next_base, with_block, global_block, with_global_block, with_global_blocks, string_block, with_string_block, with_string_blocks, empty_image, image_of, with_laid, no_structs, with_next_struct, with_item_struct, structs_of, table_of}
use Rattle.deputy_types.proofs.DeclaredFacts.{extents-push}
use Rattle.deputy_types.proofs.TypeExtents.{key_is_extent}
use Rattle.deputy_types.proofs.Inversions.{some_then, some_map, if_some, ok_then, ok_declared, unless_ok}
use Rattle.deputy_types.proofs.KeyCounts.{star_keys, base_keys}
use Rattle.light_checks.specs.Within.{AreShapes, IsTable}
use Rattle.light_checks.proofs.Annotating.{looked_up}
use Rattle.light_checks.proofs.DeclaredStructs.{count_small, AreReadableFields, count_members, struct_within}
use Rattle.light_checks.proofs.Ensuring.{given}
use Rattle.deputy_types.specs.declared.laying.Laid.{Laid}
use Rattle.deputy_types.specs.declared.unit_items.Declared.{Declared}
use Rattle.deputy_types.specs.declared.load_image.Image.{Image}
use Rattle.deputy_types.specs.declared.unit_layout.Structs.{Structs}

pub ok_same : {A : Type 0} (a b : A) → ◌≡◌ {A = Result A TypeRefusal} (Ok a) (Ok b) → a ≡ b
ok_same a b h = cc

-- ---- keys of members
is_there : {A : Type 0} (P : A → Type 0) (o : Option A) (a : A) → IfSome o P → o ≡ Some a → P a
is_there P None a p h = absurd cc
is_there P (Some b) a p h = given P b a h p

stars_are_keys : (elements : List Element) (key : Element) (stars : List Star) → IsKey key → (k : Element) → stars_key elements key stars ≡ Some k → IsKey k
stars_are_keys elements key [] is k h = given IsKey key k h is
stars_are_keys elements key (s ∷ ss) is k h =
    let r = some_then (star_key elements key s) (λ j. stars_key elements j ss) k h in
    stars_are_keys elements r.0 ss (is_there IsKey (star_key elements key s) r.0 (star_keys elements key s) r.1) k r.2

type_is_key : (types : Types) (t : TypeName) (k : Element) → type_key types t ≡ Some k → IsKey k
unfolding type_key
type_is_key types t k h =
    let r = some_then (base_key types.structs t.base) (λ key. stars_key types.elements key t.stars) k h in
    stars_are_keys types.elements r.0 t.stars (is_there IsKey (base_key types.structs t.base) r.0 (base_keys types.structs t.base) r.1) k r.2

abbrev pub HasKey : Option Element → Type 0
HasKey o = (k : Element) → o ≡ Some k → IsKey k

arms_have_keys : (types : Types) (arms : List Arm) → All HasKey (arm_keys types arms)
arms_have_keys types [] = All-nil HasKey
arms_have_keys types (a ∷ arms) = All-cons HasKey (type_key types a.type_name) (arm_keys types arms) (type_is_key types a.type_name) (arms_have_keys types arms)

field_has_keys : (types : Types) (f : Field) → All HasKey (keys_of types f)
field_has_keys types (field.Plain n d) = All-cons HasKey (type_key types d.type_name) [] (type_is_key types d.type_name) (All-nil HasKey)
field_has_keys types (field.Union n arms name) = arms_have_keys types arms

fields_have_keys : (types : Types) (fields : List Field) → All HasKey (member_keys types fields)
fields_have_keys types [] = All-nil HasKey
fields_have_keys types (f ∷ fs) = All-append HasKey (keys_of types f) (member_keys types fs) (field_has_keys types f) (fields_have_keys types fs)

-- ---- the declarations in turn
-- the fields of structs are readable
abbrev pub IsReadableItem : Item → Type 0
IsReadableItem (item.Struct s) = AreReadableFields s.fields × (count_members s.fields ≤ 200000)
IsReadableItem (item.Global g) = Unit {0}
IsReadableItem (item.Function f) = Unit {0}
IsReadableItem (item.Prototype h) = Unit {0}

abbrev pub AreReadableItems : List Item → Type 0
AreReadableItems [] = Unit {0}
AreReadableItems (x ∷ xs) = IsReadableItem x × AreReadableItems xs

abbrev pub IsSmallGlobal : GlobalShape → Type 0
IsSmallGlobal g = g.count ≤ 65536

pub record IsFine (d : Declared) : Type 0 where
  pub extents : AreExtents d.extents
  pub globals : All IsSmallGlobal d.globals

pub nothing_fine : IsFine nothing_declared
nothing_fine = record { extents = record { each = λ s. none_at s }; globals = All-nil IsSmallGlobal }
  where
    none_at : (s : ℕ) → IsExtent (struct_extent [] s)
    none_at s = record { bytes = omega arith; least = omega arith; greatest = omega arith; other = omega arith }

struct_fine : (types : Types) (d out : Declared) (s : StructItem) → IsFine d → AreReadableFields s.fields → count_members s.fields ≤ 200000 → with_struct types d s ≡ Ok out → IsFine out
unfolding with_struct
struct_fine types d out s fine r few h =
    let n = ok_then (struct_laid types d.extents (length d.extents) s)
    (λ laid. Ok (record { extents = d.extents ++ laid.extent ∷ []; taken = d.taken; names = d.names; globals = d.globals; bodies = d.bodies; lines = d.lines })) out h in
    let laid = struct_within types d.extents (length d.extents) s n.0 fine.extents r few n.1 in
    let next : Declared = record { extents = d.extents ++ n.0.extent ∷ []; taken = d.taken; names = d.names; globals = d.globals; bodies = d.bodies; lines = d.lines } in
    let is : IsFine next = record { extents = extents-push d.extents n.0.extent fine.extents laid.extent; globals = fine.globals } in
    subst (λ (o : Declared). IsFine o) (ok_same next out n.2) is

global_small : (types : Types) (d : Declared) (g : GlobalItem) (x : GlobalShape) → global_declared types d g ≡ Some x → x.count ≤ 65536
unfolding global_declared
global_small types d g x h =
    let c = if_some (is_new_global d g.declaration.name) (and_then (and_then (type_key types g.declaration.type_name) (if_declared (length d.extents))) (global_of types d g)) x h in
    let k = some_then (and_then (type_key types g.declaration.type_name) (if_declared (length d.extents))) (global_of types d g) x c in
    let shape : ℕ → ℕ → ℤ → GlobalShape = λ elem count value. record { line = g.line; elem = elem; count = count; size = (key_extent d.extents k.0).bytes; array = is_some g.declaration.size; value = value } in
    let e = some_then (element_number types.elements k.0)
    (λ elem. and_then (element_count g.declaration.size) (λ count. option_map (shape elem count) (first_value k.0 g.declaration.size g.value))) x k.2 in
    let n = some_then (element_count g.declaration.size) (λ count. option_map (shape e.0 count) (first_value k.0 g.declaration.size g.value)) x e.2 in
    let v = some_map (first_value k.0 g.declaration.size g.value) (shape e.0 n.0) x n.2 in
    subst (λ (y : GlobalShape). y.count ≤ 65536) v.2 (count_small g.declaration.size n.0 n.1)

global_fine : (types : Types) (d out : Declared) (g : GlobalItem) → IsFine d → with_global types d g ≡ Ok out → IsFine out
unfolding with_global with_global_shape
global_fine types d out g fine h =
    let a = ok_then (or_no_decl g.line (global_declared types d g))
    (λ x. if nat_le 1024 (length d.globals + length d.lines) then Err (refusal.Limit g.line limit.Globals) else Ok (with_global_shape d g.declaration.name x)) out h in
    let small = global_small types d g a.0 (ok_declared g.line (global_declared types d g) a.0 a.1) in
    let is : IsFine (with_global_shape d g.declaration.name a.0) = record { extents = fine.extents; globals = All-push IsSmallGlobal d.globals a.0 fine.globals small } in
    by (nat_le 1024 (length d.globals + length d.lines)) (with_global_shape d g.declaration.name a.0) is a.2
  where
    by : (b : Bool) (x : Declared) → IsFine x → (if b then Err (refusal.Limit g.line limit.Globals) else Ok x) ≡ Ok out → IsFine out
    by true x is h = absurd cc
    by false x is h = subst (λ (o : Declared). IsFine o) (ok_same x out h) is

function_fine : (d out : Declared) (name : List ℕ) (line strings : ℕ) → IsFine d → with_function d name line strings ≡ Ok out → IsFine out
unfolding with_function
function_fine d out name line strings fine h = by (nat_le 4096 d.bodies) (nat_lt 1024 (length d.globals + strings)) h
  where
    is : IsFine (with_body d name line strings)
    is = record { extents = fine.extents; globals = fine.globals }

    by : (a b : Bool) → (if a then Err (refusal.Limit line limit.Functions) else (if b then Err (refusal.Limit line limit.Globals) else Ok (with_body d name line strings))) ≡ Ok out → IsFine out
    by true b h = absurd cc
    by false true h = absurd cc
    by false false h = subst (λ (o : Declared). IsFine o) (ok_same (with_body d name line strings) out h) is

item_fine : (types : Types) (ends : List ℕ) (d out : Declared) (x : Item) → IsFine d → IsReadableItem x → with_item types ends d x ≡ Ok out → IsFine out
unfolding with_item
item_fine types ends d out (item.Struct s) fine r h = struct_fine types d out s fine r.0 r.1 h
item_fine types ends d out (item.Global g) fine r h = global_fine types d out g fine h
item_fine types ends d out (item.Function f) fine r h = function_fine d out f.head.name f.head.line (strings_behind ends d) fine h
item_fine types ends d out (item.Prototype f) fine r h =
    let is : IsFine (with_taken d f.name) = record { extents = fine.extents; globals = fine.globals } in subst (λ (o : Declared). IsFine o) (ok_same (with_taken d f.name) out h) is

pub items_fine : (types : Types) (ends : List ℕ) (d out : Declared) (xs : List Item) → IsFine d → AreReadableItems xs → with_items types ends d xs ≡ Ok out → IsFine out
items_fine types ends d out [] fine r h = subst (λ (o : Declared). IsFine o) (ok_same d out h) fine
items_fine types ends d out (x ∷ xs) fine r h =
    let n = ok_then (with_item types ends d x) (λ next. with_items types ends next xs) out h in
    items_fine types ends n.0 out xs (item_fine types ends d n.0 x fine r.0 n.1) r.1 n.2

-- ---- the load image
abbrev pub IsBlock : ImageBlock → Type 0
IsBlock b = (b.base ≤ 1048576) × (b.count ≤ 1048576)

end_holds : (line base bytes out : ℕ) → image_end line base bytes ≡ Ok out → base + bytes ≤ 524288
unfolding image_end
end_holds line base bytes out h = by (nat_lt 524288 (base + bytes)) refl h
  where
    by : (b : Bool) → nat_lt 524288 (base + bytes) ≡ b → (if b then Err (refusal.Limit line limit.Image) else Ok (base + bytes)) ≡ Ok out → base + bytes ≤ 524288
    by true e h = absurd cc
    by false e h = ltb-false 524288 (base + bytes) e

global_blocks : (image out : Image) (gs : List GlobalShape) → All IsSmallGlobal gs → All IsBlock image.blocks → with_global_blocks image gs ≡ Ok out → All IsBlock out.blocks
unfolding with_global_block
global_blocks image out [] small all h = subst (λ (o : Image). All IsBlock o.blocks) (ok_same image out h) all
global_blocks image out (g ∷ gs) small all h =
    let base : ℕ = next_base image in
    let n = ok_then (with_global_block image g) (λ next. with_global_blocks next gs) out h in
    let e = ok_then (image_end g.line base (g.count * g.size)) (λ end. Ok (with_block image (global_block g base) end)) n.0 n.1 in
    let within = end_holds g.line base (g.count * g.size) e.0 e.1 in
    let first : g.count ≤ 65536 = All-head IsSmallGlobal g gs small in
    let is : IsBlock (global_block g base) = (omega arith, omega arith) in
    let next : All IsBlock (with_block image (global_block g base) e.0).blocks = All-push IsBlock image.blocks (global_block g base) all is in
    global_blocks n.0 out gs (All-tail IsSmallGlobal g gs small) (subst (λ (o : Image). All IsBlock o.blocks) (ok_same (with_block image (global_block g base) e.0) n.0 e.2) next) n.2

string_blocks : (image out : Image) (lines : List ℕ) (texts : List (List ℕ)) → All IsBlock image.blocks → with_string_blocks image lines texts ≡ Ok out → All IsBlock out.blocks
unfolding with_string_block
string_blocks image out [] texts all h = subst (λ (o : Image). All IsBlock o.blocks) (ok_same image out h) all
string_blocks image out (line ∷ lines) [] all h = subst (λ (o : Image). All IsBlock o.blocks) (ok_same image out h) all
string_blocks image out (line ∷ lines) (text ∷ texts) all h =
    let base : ℕ = next_base image in
    let n = ok_then (with_string_block image line text) (λ next. with_string_blocks next lines texts) out h in
    let e = ok_then (image_end line base (length text + 1)) (λ end. Ok (with_block image (string_block text base) end)) n.0 n.1 in
    let within = end_holds line base (length text + 1) e.0 e.1 in
    let is : IsBlock (string_block text base) = (omega arith, omega arith) in
    let next : All IsBlock (with_block image (string_block text base) e.0).blocks = All-push IsBlock image.blocks (string_block text base) all is in
    string_blocks n.0 out lines texts (subst (λ (o : Image). All IsBlock o.blocks) (ok_same (with_block image (string_block text base) e.0) n.0 e.2) next) n.2

pub image_within : (d : Declared) (strings : List (List ℕ)) (image : Image) → IsFine d → image_of d strings ≡ Ok image → All IsBlock image.blocks
unfolding image_of
image_within d strings image fine h =
    let n = ok_then (with_global_blocks empty_image d.globals) (λ i. with_string_blocks i d.lines strings) image h in
    string_blocks n.0 image d.lines strings (global_blocks empty_image n.0 d.globals fine.globals (All-nil IsBlock) n.1) n.2

-- ---- the structs
pub record IsFineStruct (x : StructShape) : Type 0 where
  pub members : All (λ (m : Member). (m.offset ≤ 65536) × (m.count ≤ 65536)) x.members
  pub unions : All (λ (u : UnionShape). u.offset ≤ 65536) x.unions
  pub shapes : AreShapes (map shape_of x.members)

abbrev pub HasKeys : StructNames → Type 0
HasKeys n = All HasKey n.keys

pub record AreFine (structs : Structs) : Type 0 where
  pub shapes : All IsFineStruct structs.shapes
  pub names : All HasKeys structs.names

pub no_structs_fine : AreFine no_structs
no_structs_fine = record { shapes = All-nil IsFineStruct; names = All-nil HasKeys }

laid_keys : (types : Types) (extents : List Extent) (number : ℕ) (s : StructItem) (laid : Laid) → struct_laid types extents number s ≡ Ok laid → HasKeys laid.names
unfolding struct_laid laid_out
laid_keys types extents number s laid h =
    let u = unless_ok (head_of_struct types number s) (laid_with types extents number s.fields (struct_siblings types s.fields)) laid h in
    let n = ok_then (with_fields_in_turn (record { types = types; extents = extents; number = number; siblings = struct_siblings types s.fields }) empty_struct s.fields)
    (λ laying. Ok (laid_out types s.fields (struct_siblings types s.fields) laying)) laid u in
    subst (λ (l : Laid). HasKeys l.names) (ok_same (laid_out types s.fields (struct_siblings types s.fields) n.0) laid n.2) (fields_have_keys types s.fields)

next_fine : (types : Types) (extents : List Extent) (structs out : Structs) (s : StructItem) → AreExtents extents → AreReadableFields s.fields → count_members s.fields ≤ 200000 → AreFine structs
    → with_next_struct types extents structs s ≡ Ok out → AreFine out
next_fine types extents structs out s are r few fine h =
    let n = ok_then (struct_laid types extents (length structs.shapes) s) (λ laid. Ok (with_laid structs laid)) out h in
    let w = struct_within types extents (length structs.shapes) s n.0 are r few n.1 in
    let is : AreFine (with_laid structs n.0) = record {
      shapes = All-push IsFineStruct structs.shapes n.0.shape fine.shapes (record { members = w.members; unions = w.unions; shapes = w.shapes });
      names = All-push HasKeys structs.names n.0.names fine.names (laid_keys types extents (length structs.shapes) s n.0 n.1);
    } in
    subst (λ (o : Structs). AreFine o) (ok_same (with_laid structs n.0) out n.2) is

item_structs : (types : Types) (extents : List Extent) (structs out : Structs) (x : Item) → AreExtents extents → IsReadableItem x → AreFine structs
    → with_item_struct types extents structs x ≡ Ok out → AreFine out
item_structs types extents structs out (item.Struct s) are r fine h = next_fine types extents structs out s are r.0 r.1 fine h
item_structs types extents structs out (item.Global g) are r fine h = subst (λ (o : Structs). AreFine o) (ok_same structs out h) fine
item_structs types extents structs out (item.Function f) are r fine h = subst (λ (o : Structs). AreFine o) (ok_same structs out h) fine
item_structs types extents structs out (item.Prototype f) are r fine h = subst (λ (o : Structs). AreFine o) (ok_same structs out h) fine

pub structs_fine : (types : Types) (extents : List Extent) (structs out : Structs) (xs : List Item) → AreExtents extents → AreReadableItems xs → AreFine structs
    → structs_of types extents structs xs ≡ Ok out → AreFine out
structs_fine types extents structs out [] are r fine h = subst (λ (o : Structs). AreFine o) (ok_same structs out h) fine
structs_fine types extents structs out (x ∷ xs) are r fine h =
    let n = ok_then (with_item_struct types extents structs x) (λ next. structs_of types extents next xs) out h in
    structs_fine types extents n.0 out xs are r.1 (item_structs types extents structs n.0 x are r.0 fine n.1) n.2

-- ---- the table
fine_or : {A : Type 0} (P : List A → Type 0) (f : StructShape → List A) (xs : List StructShape) (s : ℕ) → ((x : StructShape) → IsFineStruct x → P (f x)) → P [] → All IsFineStruct xs
    → P (unwrap_or (option_map f (slice_get xs s)) [])
fine_or P f xs s each empty all = by (slice_get xs s) refl
  where
    by : (o : Option StructShape) → slice_get xs s ≡ o → P (unwrap_or (option_map f o) [])
    by None e = empty
    by (Some x) e = each x (looked_up IsFineStruct xs s x all e)

flat_key : (o : Option (Option Element)) (k : Element) → option_flatten o ≡ Some k → o ≡ Some (Some k)
flat_key None k h = absurd cc
flat_key (Some None) k h = absurd cc
flat_key (Some (Some j)) k h = cc

pub table_is : (types : Types) (d : Declared) (image : Image) (structs : Structs) → All IsKey types.elements → IsFine d → All IsBlock image.blocks → AreFine structs → IsTable (table_of types d image structs)
unfolding table_of element_at member_key
table_is types d image structs keys fine blocks are = record {
  sizes = λ key. (key_is_extent d.extents key fine.extents).bytes;
  elements = λ n key h. looked_up IsKey types.elements n key keys h;
  keys = λ s m key h.
      let r = some_then (slice_get structs.names s) (λ n. option_flatten (slice_get n.keys m)) key h in
      looked_up HasKey r.0.keys m (Some key) (looked_up HasKeys structs.names s r.0 are.names r.1) (flat_key (slice_get r.0.keys m) key r.2) key refl;
  members = λ s m x h.
      looked_up (λ (m : Member). (m.offset ≤ 65536) × (m.count ≤ 65536)) _ m x
      (fine_or (All (λ (m : Member). (m.offset ≤ 65536) × (m.count ≤ 65536))) (λ x. x.members) structs.shapes s (λ x f. f.members) (All-nil (λ (m : Member). (m.offset ≤ 65536) × (m.count ≤ 65536))) are.shapes) h;
  unions = λ s. fine_or (All (λ (u : UnionShape). u.offset ≤ 65536)) (λ x. x.unions) structs.shapes s (λ x f. f.unions) (All-nil (λ (u : UnionShape). u.offset ≤ 65536)) are.shapes;
  structs = λ s. fine_or (λ ms. AreShapes (map shape_of ms)) (λ x. x.members) structs.shapes s (λ x f. f.shapes) (All-nil _) are.shapes;
  image = λ k b h. looked_up IsBlock image.blocks k b blocks h;
}
