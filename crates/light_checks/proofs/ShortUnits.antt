-- A short unit: its types are readable, its table is within the bounds, and so is each function whose declarations stand.
use Rattle.std.proofs.Common.{◌≡◌, ℕ, ◌+◌, ◌≤◌, true, List, [], ◌∷◌, ◌++◌, length, flat_map, Option, Some, Ok, slice_index_or, suc, All, Contains, refl, sym, subst, append_assoc, arith}
use Rattle.std.proofs.lemmas.List.{length-append}
use Rattle.std.proofs.lemmas.List.Elements.{All-nil, All-cons, All-head, All-tail, All-map, All-weaker}
use Rattle.c_tree.specs.declared.items.Arm.{Arm}
use Rattle.c_tree.specs.declared.items.Field.{Field}
use Rattle.c_tree.specs.declared.items.Field.TheVariants as field
use Rattle.c_tree.specs.declared.items.Function.{Function}
use Rattle.c_tree.specs.declared.items.Head.{Head}
use Rattle.c_tree.specs.declared.items.Item.{Item}
use Rattle.c_tree.specs.declared.items.Item.TheVariants as item
use Rattle.c_tree.specs.declared.items.Local.{Local}
use Rattle.c_tree.specs.declared.items.Param.{Param}
use Rattle.c_tree.specs.declared.items.ResultBase.{ResultBase}
use Rattle.c_tree.specs.declared.items.ResultBase.TheVariants as result
use Rattle.c_tree.specs.declared.items.StructItem.{StructItem}
use Rattle.c_tree.specs.declared.items.Unit.{Unit as TextUnit}
use Rattle.c_tree.specs.declared.keywords.Keyword.TheVariants as keyword
use Rattle.c_tree.specs.declared.signs.Sign.TheVariants as sign
use Rattle.c_tree.specs.declared.types.Star.{Star}
use Rattle.c_tree.specs.declared.words.Word.{Word}
use Rattle.c_tree.specs.Short.{IsWritten}
use Rattle.c_tree.specs.ShortUnit.{IsShort, IsShortFunction, IsShortUnit}
use Rattle.c_tree.specs.Spelling.{a_sign, a_keyword, a_name, in_parentheses, stars_words, type_words}
use Rattle.c_tree.specs.StatementSpelling.{statement_words, statement_pieces}
use Rattle.c_tree.specs.UnitSpelling.{const_words, size_words, declaration_words, arm_words, field_words, struct_words, static_words, result_words, param_words, more_params_words, params_words, written_void_words, head_words, local_words, written_statements, item_words, field_pieces, item_pieces}
use Rattle.c_tree.proofs.ShortParts.{short_both, short_front, short_back, short_each, short_piece, function_short}
use Rattle.checked_tree.specs.declared.shapes.Shape.{Shape}
use Rattle.deputy_types.specs.declared.element.Element.{Element}
use Rattle.deputy_types.specs.declared.found.Found.{Found}
use Rattle.deputy_types.specs.declared.sibling.Role.TheVariants as role
use Rattle.deputy_types.specs.declared.sibling.Unannotated.TheVariants.{Safe}
use Rattle.deputy_rules.specs.declared.signature.Returned.{Returned}
use Rattle.deputy_rules.specs.declared.signature.Returned.TheVariants as returned
use Rattle.deputy_rules.specs.declared.signature.Signature.{Signature}
use Rattle.deputy_types.specs.declared.types.Types.{Types}
use Rattle.deputy_types.specs.Declarations.{typed_shape}
use Rattle.deputy_types.specs.Extents.{key_extent}
use Rattle.deputy_types.specs.Found.{first_found, found_items, struct_names}
use Rattle.deputy_rules.specs.Functions.{text_of, context_of}
use Rattle.deputy_types.specs.UnitLayout.{functions_of}
use Rattle.deputy_rules.specs.Heads.{signature_of, parameter_shapes, seen_shapes, value_shape, value_result, result_by, result_of}
use Rattle.deputy_types.specs.Options.{and_then}
use Rattle.deputy_types.specs.Siblings.{no_siblings, role_of}
use Rattle.deputy_types.specs.Table.{Table}
use Rattle.deputy_types.specs.StructLayout.{and_ok}
use Rattle.deputy_types.specs.UnitLayout.{nothing_declared, with_items, no_structs, image_of, structs_of, table_of, table_behind, table_with, layout}
use Rattle.deputy_types.proofs.Inversions.{some_then, some_map, ok_then}
use Rattle.light_checks.specs.Within.{is_integer, shape_at, AreShapes, IsTable, IsContext, IsResult, IsHome}
use Rattle.light_checks.specs.Words.{IsSmallWord, IsReadable}
use Rattle.light_checks.proofs.DeclaredSides.{IsRoledShape, shape_roled}
use Rattle.light_checks.proofs.DeclaredSlots.{HasReadable, slots_are, roled_shape_is, value_roled}
use Rattle.light_checks.proofs.DeclaredHeads.{seen_are}
use Rattle.light_checks.proofs.DeclaredStructs.{AreReadableArms, IsReadableField, AreReadableFields, members_in, count_members}
use Rattle.light_checks.proofs.DeclaredUnits.{ok_same, nothing_fine, no_structs_fine, IsReadableItem, AreReadableItems, items_fine, image_within, structs_fine, table_is}
use Rattle.light_checks.proofs.Ensuring.{given}
use Rattle.light_checks.proofs.ExpressionRules.{both_readable}
use Rattle.light_checks.proofs.FoundKeys.{found_keys}
use Rattle.light_checks.proofs.ShortWords.{written_small}
use Rattle.light_checks.specs.Standing.{Stands}

-- the words of one piece
readable : (ks : List Word) (ps : List (List Word)) → IsShort ks (ks ∷ ps) → IsReadable ks
readable ks ps s = let p = short_piece ks ps s in record { words = p.words; small = All-weaker IsWritten IsSmallWord written_small ks p.written }

-- ---- structs
arm_readable : (a : Arm) → IsShort (arm_words a) (arm_words a ∷ []) → IsReadable (type_words a.type_name)
arm_readable a s =
    (both_readable (type_words a.type_name) (a_name a.name ++ (a_keyword keyword.When ++ (in_parentheses (a_name a.tag ++ (a_sign sign.Equal ++ const_words a.value)) ++ a_sign sign.Semicolon))) (readable (arm_words a) [] s)).0

arms_readable : (arms : List Arm) → All (λ a. IsShort (arm_words a) (arm_words a ∷ [])) arms → AreReadableArms arms
arms_readable [] all = tt
arms_readable (a ∷ arms) all =
    (arm_readable a (All-head (λ a. IsShort (arm_words a) (arm_words a ∷ [])) a arms all), arms_readable arms (All-tail (λ a. IsShort (arm_words a) (arm_words a ∷ [])) a arms all))

field_readable : (f : Field) → IsShort (field_words f) (field_pieces f) → IsReadableField f
field_readable (field.Plain n d) s =
    (both_readable (type_words d.type_name) (a_name d.name ++ size_words d.size) (both_readable (declaration_words d) (a_sign sign.Semicolon) (readable (field_words (field.Plain n d)) [] s)).0).0
field_readable (field.Union n arms name) s =
    let pieces = flat_map (λ a. arm_words a ∷ []) arms in
    let behind = a_sign sign.BraceClose ++ (a_name name ++ a_sign sign.Semicolon) in
    let a = (short_front (a_keyword keyword.Union) (a_sign sign.BraceOpen ++ (flat_map arm_words arms ++ behind)) pieces s).1 in
    let b = (short_front (a_sign sign.BraceOpen) (flat_map arm_words arms ++ behind) pieces a).1 in
    arms_readable arms (short_each arm_words (λ a. arm_words a ∷ []) arms (short_back (flat_map arm_words arms) behind pieces b).0)

fields_readable : (fs : List Field) → All (λ f. IsShort (field_words f) (field_pieces f)) fs → AreReadableFields fs
fields_readable [] all = tt
fields_readable (f ∷ fs) all =
    (field_readable f (All-head (λ f. IsShort (field_words f) (field_pieces f)) f fs all), fields_readable fs (All-tail (λ f. IsShort (field_words f) (field_pieces f)) f fs all))

-- each member takes a word
arms_few : (arms : List Arm) → length arms ≤ length (flat_map arm_words arms)
arms_few [] = omega arith
arms_few (a ∷ arms) =
    let behind = a_keyword keyword.When ++ (in_parentheses (a_name a.tag ++ (a_sign sign.Equal ++ const_words a.value)) ++ a_sign sign.Semicolon) in
    omega (arith, length-append (arm_words a) (flat_map arm_words arms), length-append (type_words a.type_name) (a_name a.name ++ behind), arms_few arms)

field_few : (f : Field) → members_in f ≤ length (field_words f)
field_few (field.Plain n d) = omega (arith, length-append (declaration_words d) (a_sign sign.Semicolon))
field_few (field.Union n arms name) = omega (arith, length-append (flat_map arm_words arms) (a_sign sign.BraceClose ++ (a_name name ++ a_sign sign.Semicolon)), arms_few arms)

fields_few : (fs : List Field) → count_members fs ≤ length (flat_map field_words fs)
fields_few [] = omega arith
fields_few (f ∷ fs) = omega (arith, length-append (field_words f) (flat_map field_words fs), field_few f, fields_few fs)

struct_readable : (s : StructItem) → IsShort (struct_words s) (flat_map field_pieces s.fields) → AreReadableFields s.fields × (count_members s.fields ≤ 200000)
struct_readable s short =
    let fields = flat_map field_words s.fields in
    let pieces = flat_map field_pieces s.fields in
    let behind = a_sign sign.BraceClose ++ a_sign sign.Semicolon in
    let a = (short_front (a_keyword keyword.Struct) (a_name s.name ++ (a_sign sign.BraceOpen ++ (fields ++ behind))) pieces short).1 in
    let b = (short_front (a_name s.name) (a_sign sign.BraceOpen ++ (fields ++ behind)) pieces a).1 in
    let c = (short_front (a_sign sign.BraceOpen) (fields ++ behind) pieces b).1 in
    let d = (short_back fields behind pieces c).0 in
    (fields_readable s.fields (short_each field_words field_pieces s.fields d), let few = d.words in omega (arith, fields_few s.fields))

item_readable : (x : Item) → IsShort (item_words x) (item_pieces x) → IsReadableItem x
item_readable (item.Struct s) short = struct_readable s short
item_readable (item.Global g) short = tt
item_readable (item.Function f) short = tt
item_readable (item.Prototype h) short = tt

items_readable : (xs : List Item) → All (λ x. IsShort (item_words x) (item_pieces x)) xs → AreReadableItems xs
items_readable [] all = tt
items_readable (x ∷ xs) all =
    (item_readable x (All-head (λ x. IsShort (item_words x) (item_pieces x)) x xs all), items_readable xs (All-tail (λ x. IsShort (item_words x) (item_pieces x)) x xs all))

pub unit_readable : (u : TextUnit) → IsShortUnit u → AreReadableItems u.items
unit_readable u short = items_readable u.items (short_each item_words item_pieces u.items short.within)

-- ---- the table
-- the table of a short unit is within the bounds
pub table_within : (u : TextUnit) (t : Table) → IsShortUnit u → layout u ≡ Ok t → IsTable t
unfolding layout table_with table_behind
table_within u t short h =
    let names = struct_names u.items [] in
    let f : Found = found_items names u.items first_found in
    let types : Types = record { structs = names; elements = f.elements } in
    let readable = unit_readable u short in
    let d = ok_then (with_items types f.ends nothing_declared u.items) (table_behind types f.strings u.items) t h in
    let i = ok_then (image_of d.0 f.strings) (λ image. and_ok (structs_of types d.0.extents no_structs u.items) (λ structs. Ok (table_of types d.0 image structs))) t d.2 in
    let s = ok_then (structs_of types d.0.extents no_structs u.items) (λ structs. Ok (table_of types d.0 i.0 structs)) t i.2 in
    let fine = items_fine types f.ends nothing_declared d.0 u.items nothing_fine readable d.1 in
    let blocks = image_within d.0 f.strings i.0 fine i.1 in
    let structs = structs_fine types d.0.extents no_structs s.0 u.items fine.extents readable no_structs_fine s.1 in
    subst IsTable (ok_same (table_of types d.0 i.0 s.0) t s.2) (table_is types d.0 i.0 s.0 (found_keys names u.items) fine blocks structs)

-- ---- functions
param_readable : (p : Param) → IsReadable (param_words p) → IsReadable (type_words p.type_name)
param_readable p r = (both_readable (type_words p.type_name) (a_name p.name) r).0

abbrev HasReadableType : Param → Type 0
HasReadableType p = IsReadable (type_words p.type_name)

more_params_readable : (ps : List Param) → IsReadable (more_params_words ps) → All HasReadableType ps
more_params_readable [] r = All-nil HasReadableType
more_params_readable (p ∷ ps) r =
    let b = both_readable (a_sign sign.Comma ++ param_words p) (more_params_words ps) r in
    All-cons HasReadableType p ps (param_readable p (both_readable (a_sign sign.Comma) (param_words p) b.0).1) (more_params_readable ps b.1)

params_readable : (ps : List Param) → IsReadable (params_words ps) → All HasReadableType ps
params_readable [] r = All-nil HasReadableType
params_readable (p ∷ ps) r = let b = both_readable (param_words p) (more_params_words ps) r in All-cons HasReadableType p ps (param_readable p b.0) (more_params_readable ps b.1)

head_params : (h : Head) → IsReadable (head_words h) → All HasReadableType h.params
head_params h r =
    let inner = written_void_words h.written_void ++ params_words h.params in
    let a = (both_readable (result_words h.result) (stars_words h.stars ++ (a_name h.name ++ in_parentheses inner)) r).1 in
    let b = (both_readable (stars_words h.stars) (a_name h.name ++ in_parentheses inner) a).1 in
    let c = (both_readable (a_name h.name) (in_parentheses inner) b).1 in
    let d = (both_readable inner (a_sign sign.ParenClose) (both_readable (a_sign sign.ParenOpen) (inner ++ a_sign sign.ParenClose) c).1).0 in
    params_readable h.params (both_readable (written_void_words h.written_void) (params_words h.params) d).1

head_result : (h : Head) → IsReadable (head_words h) → IsReadable (result_words h.result ++ stars_words h.stars)
head_result h r =
    let rest = a_name h.name ++ in_parentheses (written_void_words h.written_void ++ params_words h.params) in
    (both_readable (result_words h.result ++ stars_words h.stars) rest (subst IsReadable (sym (append_assoc (result_words h.result) (stars_words h.stars) rest)) r)).0

-- the head of a short function, and its locals
head_readable : (f : Function) → IsShortFunction f → IsReadable (head_words f.head)
head_readable f s =
    let body = a_sign sign.BraceOpen ++ (flat_map local_words f.locals ++ (flat_map statement_words (written_statements f.body) ++ a_sign sign.BraceClose)) in
    let lp = flat_map (λ l. local_words l ∷ []) f.locals in
    let sp = flat_map statement_pieces (written_statements f.body) in
    let start = (short_both (static_words f.head.is_static ++ head_words f.head) body (head_words f.head ∷ []) (lp ++ sp) s.within).0 in
    readable (head_words f.head) [] (short_front (static_words f.head.is_static) (head_words f.head) (head_words f.head ∷ []) start).1

abbrev HasReadableLocal : Local → Type 0
HasReadableLocal l = IsReadable (type_words l.type_name)

local_readable : (l : Local) → IsShort (local_words l) (local_words l ∷ []) → HasReadableLocal l
local_readable l s = (both_readable (type_words l.type_name) (a_name l.name ++ a_sign sign.Semicolon) (readable (local_words l) [] s)).0

locals_readable : (f : Function) → IsShortFunction f → All HasReadableLocal f.locals
locals_readable f s =
    let ls = flat_map local_words f.locals in
    let ss = flat_map statement_words (written_statements f.body) in
    let lp = flat_map (λ l. local_words l ∷ []) f.locals in
    let sp = flat_map statement_pieces (written_statements f.body) in
    let block = (short_both (static_words f.head.is_static ++ head_words f.head) (a_sign sign.BraceOpen ++ (ls ++ (ss ++ a_sign sign.BraceClose))) (head_words f.head ∷ []) (lp ++ sp) s.within).1 in
    let inside = (short_front (a_sign sign.BraceOpen) (ls ++ (ss ++ a_sign sign.BraceClose)) (lp ++ sp) block).1 in
    let front = (short_both ls (ss ++ a_sign sign.BraceClose) lp sp inside).0 in
    All-weaker (λ l. IsShort (local_words l) (local_words l ∷ [])) HasReadableLocal local_readable f.locals (short_each local_words (λ l. local_words l ∷ []) f.locals front)

-- each parameter takes a word
more_params_few : (ps : List Param) → length ps ≤ length (more_params_words ps)
more_params_few [] = omega arith
more_params_few (p ∷ ps) = omega (arith, length-append (a_sign sign.Comma ++ param_words p) (more_params_words ps), length-append (a_sign sign.Comma) (param_words p), more_params_few ps)

params_few : (ps : List Param) → length ps ≤ length (params_words ps)
params_few [] = omega arith
params_few (p ∷ ps) = omega (arith, length-append (param_words p) (more_params_words ps), length-append (type_words p.type_name) (a_name p.name), more_params_few ps)

head_few : (h : Head) → IsReadable (head_words h) → length h.params ≤ 1000
head_few h r =
    let inner = written_void_words h.written_void ++ params_words h.params in
    let behind = a_name h.name ++ in_parentheses inner in
    omega (
      arith,
      r.words,
      length-append (result_words h.result) (stars_words h.stars ++ behind),
      length-append (stars_words h.stars) behind,
      length-append (a_name h.name) (in_parentheses inner),
      length-append (a_sign sign.ParenOpen) (inner ++ a_sign sign.ParenClose),
      length-append inner (a_sign sign.ParenClose),
      length-append (written_void_words h.written_void) (params_words h.params),
      params_few h.params,
    )

function_readable : (f : Function) → IsShortFunction f → HasReadable f
function_readable f s = record { params = head_params f.head (head_readable f s); locals = locals_readable f s }

-- where the statements of a function stand
pub context_within : (u : TextUnit) (t : Table) (f : Function) → IsShortUnit u → layout u ≡ Ok t → Contains u.items (item.Function f) → Stands t f → IsContext (context_of t f)
context_within u t f short h in' stands =
    let table = table_within u t short h in
    record { table = table; slots = slots_are t table.sizes f stands (function_readable f (function_short u f short in')) }

-- a result
no_integers : (k : ℕ) → role_of no_siblings k ≡ Some role.Integer → is_integer (shape_at [] k) ≡ true
no_integers k h = absurd cc

value_result_is : (o : Option Shape) (r : Returned) → ((x : Shape) → o ≡ Some x → IsRoledShape no_siblings x) → value_result o ≡ Some r → IsResult r
value_result_is o r roled h =
    let v = some_map (and_then o value_shape) returned.Value r h in
    let x = some_then o value_shape v.0 v.1 in
    subst IsResult v.2 (roled_shape_is no_siblings [] no_integers v.0 (value_roled no_siblings x.0 v.0 x.2 (roled x.0 x.1)))

result_by_is : (t : Table) (b : ResultBase) (stars : List Star) (r : Returned) → ((key : Element) → (key_extent t.extents key).bytes ≤ 65536) → IsReadable (result_words b ++ stars_words stars)
    → result_by t b stars ≡ Some r → IsResult r
result_by_is t result.Void [] r sizes words h = given IsResult returned.Nothing r h tt
result_by_is t result.Void (s ∷ ss) r sizes words h = absurd cc
result_by_is t (result.Base b) stars r sizes words h =
    value_result_is (typed_shape t.types t.extents Safe no_siblings 0 (record { base = b; stars = stars })) r
    (λ x e. shape_roled t.types t.extents Safe no_siblings 0 (record { base = b; stars = stars }) x sizes words e) h

-- the functions of a text
pub behind : (x y : Item) (xs : List Item) → Contains xs x → Contains (y ∷ xs) x
behind x y xs c = (c.0 + 1, (let e = c.1 in omega arith), later c.0 c.2)
  where
    later : (k : ℕ) → slice_index_or xs k x ≡ x → slice_index_or (y ∷ xs) (k + 1) x ≡ x
    later k e = subst (λ n. slice_index_or (y ∷ xs) n x ≡ x) (more k) e
      where
        more : (k : ℕ) → suc k ≡ k + 1
        more k = omega arith

functions_all : (P : Function → Type 0) (xs : List Item) → ((g : Function) → Contains xs (item.Function g) → P g) → All P (functions_of xs)
functions_all P [] each = All-nil P
functions_all P (item.Struct s ∷ xs) each = functions_all P xs (λ g c. each g (behind (item.Function g) (item.Struct s) xs c))
functions_all P (item.Global x ∷ xs) each = functions_all P xs (λ g c. each g (behind (item.Function g) (item.Global x) xs c))
functions_all P (item.Function f ∷ xs) each =
    All-cons P f (functions_of xs) (each f (0, omega arith, refl)) (functions_all P xs (λ g c. each g (behind (item.Function g) (item.Function f) xs c)))
functions_all P (item.Prototype h ∷ xs) each = functions_all P xs (λ g c. each g (behind (item.Function g) (item.Prototype h) xs c))

-- where the bodies of a text stand
pub home_within : (u : TextUnit) (t : Table) (f : Function) (r : Returned) → IsShortUnit u → layout u ≡ Ok t → Contains u.items (item.Function f) → result_of t f.head ≡ Some r → IsHome (record { functions = (text_of t u.items).functions; result = r })
unfolding text_of signature_of result_of
home_within u t f r short h in' found =
    let table = table_within u t short h in
    record {
      functions = All-map (λ (s : Signature). AreShapes s.params) (signature_of t) (functions_of u.items)
          (functions_all (λ (g : Function). AreShapes (seen_shapes (parameter_shapes t g.head.params) g.head)) u.items
          (λ g c. let r = head_readable g (function_short u g short c) in seen_are t table.sizes g.head (head_params g.head r) (head_few g.head r)));
      result = result_by_is t f.head.result f.head.stars r table.sizes (head_result f.head (head_readable f (function_short u f short in'))) found;
    }
