-- Each list of words begins with an item or with none. So words, all of them, are a unit, or there is a place at which no item begins.
use Rattle.std.proofs.Common.{◌≡◌, ℕ, ◌<◌, ◌≤◌, ◌⊎◌, Bool, true, false, List, [], ◌∷◌, ◌++◌, length, Option, None, Some, refl, ap, sym, inl, inr, le_refl, zero, suc, arith}
use Rattle.c_tree.specs.declared.items.Arm.{Arm}
use Rattle.c_tree.specs.declared.items.Const.{Const}
use Rattle.c_tree.specs.declared.items.Declaration.{Declaration}
use Rattle.c_tree.specs.declared.items.Field.{Field}
use Rattle.c_tree.specs.declared.items.Field.TheVariants as field
use Rattle.c_tree.specs.declared.items.Head.{Head}
use Rattle.c_tree.specs.declared.items.Item.{Item}
use Rattle.c_tree.specs.declared.items.Item.TheVariants as item
use Rattle.c_tree.specs.declared.items.Local.{Local}
use Rattle.c_tree.specs.declared.items.Param.{Param}
use Rattle.c_tree.specs.declared.items.ResultBase.{ResultBase}
use Rattle.c_tree.specs.declared.items.ResultBase.TheVariants as result
use Rattle.c_tree.specs.declared.items.Unit.{Unit as TextUnit}
use Rattle.c_tree.specs.declared.keywords.Keyword.TheVariants as keyword
use Rattle.c_tree.specs.declared.signs.Sign.TheVariants as sign
use Rattle.c_tree.specs.declared.statements.Stmt.{Stmt}
use Rattle.c_tree.specs.declared.types.Base.{Base}
use Rattle.c_tree.specs.declared.types.Number.{Number}
use Rattle.c_tree.specs.declared.types.Star.{Star}
use Rattle.c_tree.specs.declared.types.TypeName.{TypeName}
use Rattle.c_tree.specs.declared.words.Token.{Token}
use Rattle.c_tree.specs.declared.words.Word.TheVariants as word
use Rattle.c_tree.specs.ItemGrammar.{SizeAt, no_array, array, ConstAt, number, negative, character, ValueAt, no_value, value, DeclarationAt, ArmAt, FieldAt, LocalAt, ParamAt, MoreParamAt, ResultAt, ItemAt, added_return}
use Rattle.c_tree.specs.Reading.{Front, front_of, Begins, Best, Never, Each, each_end, each_more, line_at}
use Rattle.c_tree.specs.Reading.Front.{front}
use Rattle.c_tree.specs.StatementGrammar.{StmtsAt}
use Rattle.c_tree.specs.TypeGrammar.{TypeNameAt, StarAt}
use Rattle.c_tree.specs.Units.{IsUnit, HasNoItem}
use Rattle.c_expr.specs.Classes.{At, is_base, is_after_unsigned, is_in_types}
use Rattle.c_expr.specs.Looking.{Lacks}
use Rattle.c_expr.specs.TypeReading.{base_of}
use Rattle.c_expr.proofs.Begins.{begins_shrinks}
use Rattle.c_expr.proofs.LongestBase.{base_is}
use Rattle.c_expr.proofs.Looks.{Sees, sees_open, sees_close, sees_comma}
use Rattle.c_expr.proofs.Spans.{span_shrinks, base_span}
use Rattle.c_expr.proofs.TypeExistence.{stars_exist}
use Rattle.c_decl.specs.declared.constants.Case.{Case}
use Rattle.c_decl.specs.declared.declarations.Typed.{Typed}
use Rattle.c_decl.specs.declared.functions.Start.{Start}
use Rattle.c_decl.specs.declared.params.Params.{Params}
use Rattle.c_decl.specs.Classes.{is_bracket, is_assign, is_comma, is_field, is_in_statements}
use Rattle.c_decl.specs.Constants.{size_of, value_of, case_of}
use Rattle.c_decl.specs.Items.{static_front, static_of, struct_brace, struct_name, struct_front, struct_opened_of, StructAfter, DeclaredAt, StartAt, head_with, ValuedAfter, GlobalAfter, BodyAfter, FunctionAfter}
use Rattle.c_decl.specs.Parts.{NameAt, TypedAt, CaseAt, case, PlainAt, NamedEnd, ArmsAt, UnionAt, FieldsAt, ListAt, ParamsEnd}
use Rattle.c_decl.specs.Sequences.{Then, Before, Ended, Given, Many}
use Rattle.c_decl.proofs.ActionExistence.{type_found}
use Rattle.c_decl.proofs.Apart.{bracket_end, base_close, field_close}
use Rattle.c_decl.proofs.Existence.{Behind, Found, Held, SeesName, fewer_more, then_found, before_found, ended_found, given_found, chain_found, many_found, sees_end, sees_brace, sees_brace_close, sees_union, sees_void, sees_name}
use Rattle.c_decl.proofs.LongestDeclaration.{size_is, value_is, typed_none, typed_unnamed, typed_some, declaration_none, declaration_some, local_none, local_open, local_some, case_is, arm_none, arm_open, arm_some}
use Rattle.c_decl.proofs.LongestItem.{body_open, body_some, function_prototype, function_open, function_body, valued_open, valued_some, global_void, global_typed, item_struct, item_none, item_function, item_global}
use Rattle.c_decl.proofs.LongestParam.{param_none, param_some, more_none, more_is, more_first, list_none, list_on, params_nothing, params_void_open, params_void, params_none, params_open, params_some}
use Rattle.c_decl.proofs.LongestStart.{result_void, result_none, result_base, declared_none, declared_unnamed, declared_some, start_best}
use Rattle.c_decl.proofs.LongestStruct.{arm_shrinks, field_shrinks, field_first, field_union, field_none, field_some}
use Rattle.c_decl.proofs.OneDeclaration.{arm_first, local_first}
use Rattle.c_decl.proofs.Sequences.{then_none, word_apart, end_apart, name_none, name_is}
use Rattle.c_decl.proofs.StatementExistence.{statements_found}

-- ---- types with names
named_by : (w u : List Token) (t : TypeName) → Best (TypeNameAt w) (At is_in_types) (Some (t, u)) → length u < suc (length w) → SeesName u → Found TypedAt Never w
named_by w u t best h (inl (n, r, b)) = let one = begins_shrinks u b in (Some (record { type_name = t; name = n }, r), typed_some w u r t n best b, omega arith)
named_by w u t best h (inr lacks) = (None, typed_unnamed w u t best lacks, tt)

typed_by : (w : List Token) → Behind TypeNameAt (At is_in_types) w (suc (length w)) → Found TypedAt Never w
typed_by w (None, best, f) = (None, typed_none w best, tt)
typed_by w (Some a, best, f) = named_by w a.1 a.0 best f (sees_name a.1)

typed_found : (w : List Token) → Found TypedAt Never w
typed_found w = typed_by w (type_found w)

-- ---- declarations
size_shrinks : {w v : List Token} {n : Option Number} → SizeAt w v n → length v ≤ length w
size_shrinks {w} no_array = le_refl (length w)
size_shrinks {w} (array {u = u} {r = r} b c d) = let one = begins_shrinks w b in let two = begins_shrinks u c in let three = begins_shrinks r d in omega arith

value_shrinks : {w v : List Token} {c : Option Const} → ValueAt w v c → length v ≤ length w
value_shrinks {w} no_value = le_refl (length w)
value_shrinks {w} (value {u = u} b (number c)) = let one = begins_shrinks w b in let two = begins_shrinks u c in omega arith
value_shrinks {w} (value {u = u} b (negative {u = r} c d)) = let one = begins_shrinks w b in let two = begins_shrinks u c in let three = begins_shrinks r d in omega arith
value_shrinks {w} (value {u = u} b (character c)) = let one = begins_shrinks w b in let two = begins_shrinks u c in omega arith

size_best : (w : List Token) → Best {X = Option Number} (SizeAt w) (At is_bracket) (Some ((size_of w).0, (size_of w).1))
size_best w = size_is w (size_of w).1 (size_of w).0 refl

value_best : (w : List Token) → Best {X = Option Const} (ValueAt w) (At is_assign) (Some ((value_of w).0, (value_of w).1))
value_best w = value_is w (value_of w).1 (value_of w).0 refl

declared_by : (w : List Token) → Found TypedAt Never w → Found {X = Declaration} DeclarationAt (At is_bracket) w
declared_by w (None, best, f) = (None, declaration_none w best, tt)
declared_by w (Some a, best, f) =
    let size = size_best a.1 in
    let rest = size_shrinks size.sound in
    (Some (record { type_name = a.0.type_name; name = a.0.name; size = (size_of a.1).0 }, (size_of a.1).1), declaration_some w a.1 (size_of a.1).1 a.0 (size_of a.1).0 best size, omega (arith, f))

plain_found : (w : List Token) → Found PlainAt Never w
plain_found w =
    then_found DeclarationAt (λ d. Ended (word.Sign sign.Semicolon) d) (At is_bracket) Never w (length w) (length w) (end_apart _ bracket_end) (declared_by w (typed_found w))
    (λ d u h. ended_found (word.Sign sign.Semicolon) d u (length w) (omega arith) (sees_end u))

-- ---- locals
local_end : (w u : List Token) (t : Typed) → Best (TypedAt w) Never (Some (t, u)) → length u < length w → Sees u (word.Sign sign.Semicolon) → Found {X = Local} LocalAt Never w
local_end w u t best h (inl (r, b)) = let one = begins_shrinks u b in (Some (record { line = line_at w; type_name = t.type_name; name = t.name }, r), local_some w u r t best b, omega arith)
local_end w u t best h (inr lacks) = (None, local_open w u t best lacks, tt)

local_by : (w : List Token) → Found TypedAt Never w → Found {X = Local} LocalAt Never w
local_by w (None, best, f) = (None, local_none w best, tt)
local_by w (Some a, best, f) = local_end w a.1 a.0 best f (sees_end a.1)

locals_found : (w : List Token) → Held {X = List Local} (Each LocalAt) (At is_base) w
locals_found w = chain_found LocalAt (At is_base) local_first (λ u. local_by u (typed_found u)) w

-- ---- arms and fields
const_shrinks : {w v : List Token} {c : Const} → ConstAt w v c → length v < length w
const_shrinks {w} (number b) = begins_shrinks w b
const_shrinks {w} (negative {u = u} b c) = let one = begins_shrinks w b in let two = begins_shrinks u c in omega arith
const_shrinks {w} (character b) = begins_shrinks w b

case_shrinks : {w v : List Token} {x : Case} → CaseAt w v x → length v < length w
case_shrinks {w} (case {c = c} {d = d} {e = e} {f = f} {g = g} {h = h} b1 b2 b3 b4 k b5 b6) =
    let one = begins_shrinks w b1 in
    let two = begins_shrinks c b2 in
    let three = begins_shrinks d b3 in
    let four = begins_shrinks e b4 in
    let five = const_shrinks k in
    let six = begins_shrinks g b5 in
    let seven = begins_shrinks h b6 in
    omega arith

arm_case : (w u : List Token) (t : Typed) → Best (TypedAt w) Never (Some (t, u)) → length u < length w → (o : Option (Case × List Token)) → o ≡ case_of u → Found {X = Arm} ArmAt Never w
arm_case w u t best h None e = (None, arm_open w u t best (case_is u None e), tt)
arm_case w u t best h (Some a) e =
    let c = case_is u (Some a) e in
    let fewer = case_shrinks c.sound in
    (Some (record { line = line_at w; type_name = t.type_name; name = t.name; tag = a.0.tag; value = a.0.value }, a.1), arm_some w u a.1 t a.0 best c, omega arith)

arm_by : (w : List Token) → Found TypedAt Never w → Found {X = Arm} ArmAt Never w
arm_by w (None, best, f) = (None, arm_none w best, tt)
arm_by w (Some a, best, f) = arm_case w a.1 a.0 best f (case_of a.1) refl

arms_found : (w : List Token) → Found {X = List Arm} ArmsAt Never w
arms_found w =
    then_found {X = List Arm} (Many ArmAt) (λ xs. Ended (word.Sign sign.BraceClose) xs) (At is_base) Never w (suc (length w)) (length w) (end_apart _ base_close)
    (many_found ArmAt (At is_base) arm_shrinks w (chain_found ArmAt (At is_base) arm_first (λ u. arm_by u (typed_found u)) w))
    (λ xs u h. ended_found (word.Sign sign.BraceClose) xs u (length w) (omega arith) (sees_brace_close u))

name_by : (w : List Token) → SeesName w → Found {X = List ℕ} NameAt Never w
name_by w (inl (n, u, b)) = (Some (n, u), name_is w u n b, begins_shrinks w b)
name_by w (inr lacks) = (None, name_none w lacks, tt)

named_end : (w : List Token) → Found {X = List ℕ} NamedEnd Never w
named_end w =
    then_found {X = List ℕ} NameAt (λ n. Ended (word.Sign sign.Semicolon) n) Never Never w (length w) (length w) (λ y q v z n b. n) (name_by w (sees_name w))
    (λ n u h. ended_found (word.Sign sign.Semicolon) n u (length w) (omega arith) (sees_end u))

union_found : (line : ℕ) (w : List Token) → Found (UnionAt line) Never w
union_found line w =
    before_found (Then ArmsAt (λ xs. Then NamedEnd (λ n. Given (field.Union line xs n)))) (word.Sign sign.BraceOpen) Never w (length w) (sees_brace w)
    (λ u h. then_found {X = List Arm} ArmsAt (λ xs. Then NamedEnd (λ n. Given (field.Union line xs n))) Never Never u (length u) (length w) (λ y q v z n b. n) (arms_found u)
    (λ xs r k. then_found {X = List ℕ} NamedEnd (λ n. Given (field.Union line xs n)) Never Never r (length r) (length w) (λ y q v z n b. n) (named_end r)
    (λ n v l. given_found (field.Union line xs n) v (length w) (omega arith))))

field_plain : (w : List Token) → Lacks w (word.Keyword keyword.Union) → Found PlainAt Never w → Found FieldAt Never w
field_plain w lacks (None, best, f) = (None, field_none w lacks best, tt)
field_plain w lacks (Some a, best, f) = (Some (field.Plain (line_at w) a.0, a.1), field_some w a.1 (line_at w) a.0 refl lacks best, f)

field_of_union : (w u : List Token) → Begins w (word.Keyword keyword.Union) u → Found (UnionAt (line_at w)) Never u → Found FieldAt Never w
field_of_union w u b (o, best, f) = (o, field_union w u (line_at w) o refl b best, fewer_more (length u) (length w) o (let one = begins_shrinks w b in omega arith) f)

field_by : (w : List Token) → Sees w (word.Keyword keyword.Union) → Found FieldAt Never w
field_by w (inl (u, b)) = field_of_union w u b (union_found (line_at w) u)
field_by w (inr lacks) = field_plain w lacks (plain_found w)

fields_found : (w : List Token) → Found {X = List Field} FieldsAt Never w
fields_found w =
    then_found {X = List Field} (Many FieldAt) (λ xs. Before (word.Sign sign.BraceClose) (Ended (word.Sign sign.Semicolon) xs)) (At is_field) Never w (suc (length w)) (length w) (word_apart _ field_close)
    (many_found FieldAt (At is_field) field_shrinks w (chain_found FieldAt (At is_field) field_first (λ u. field_by u (sees_union u)) w))
    (λ xs u h. before_found (Ended (word.Sign sign.Semicolon) xs) (word.Sign sign.BraceClose) Never u (length w) (sees_brace_close u)
    (λ r k. ended_found (word.Sign sign.Semicolon) xs r (length w) (omega arith) (sees_end r)))

struct_found : (line : ℕ) (n : List ℕ) (w : List Token) → Found (StructAfter line n) Never w
struct_found line n w =
    then_found {X = List Field} FieldsAt (λ xs. Given (item.Struct (record { line = line; name = n; fields = xs }))) Never Never w (length w) (length w) (λ y q v z m b. m) (fields_found w)
    (λ xs u h. given_found (item.Struct (record { line = line; name = n; fields = xs })) u (length w) h)

-- ---- the start of a global or a function
result_typed : (w : List Token) → Lacks w (word.Keyword keyword.Void) → (o : Option (Base × List Token)) → o ≡ base_of w → Behind ResultAt (At is_after_unsigned) w (suc (length w))
result_typed w lacks None e = (None, result_none w lacks (base_is w None e), tt)
result_typed w lacks (Some a) e =
    let best = base_is w (Some a) e in
    let size = span_shrinks (base_span best.sound) in
    (Some (result.Base a.0, a.1), result_base w a.1 a.0 lacks best, omega arith)

result_by : (w : List Token) → Sees w (word.Keyword keyword.Void) → Behind ResultAt (At is_after_unsigned) w (suc (length w))
result_by w (inl (u, b)) = let one = begins_shrinks w b in (Some (result.Void, u), result_void w u b, omega arith)
result_by w (inr lacks) = result_typed w lacks (base_of w) refl

start_named : (s : Bool) (w u q : List Token) (r : ResultBase) (ss : List Star) → Best (ResultAt w) (At is_after_unsigned) (Some (r, u)) → length u < suc (length w)
    → Best {X = List Star} (Each StarAt u) (At is_in_types) (Some (ss, q)) → length q ≤ length u → SeesName q → Found {X = Start} (DeclaredAt s) Never w
start_named s w u q r ss best h stars k (inl (n, v, b)) =
    let one = begins_shrinks q b in (Some (record { is_static = s; result = r; stars = ss; name = n }, v), declared_some s w u q v r ss n best stars b, omega arith)
start_named s w u q r ss best h stars k (inr lacks) = (None, declared_unnamed s w u q r ss best stars lacks, tt)

start_typed : (s : Bool) (w : List Token) → Behind ResultAt (At is_after_unsigned) w (suc (length w)) → Found {X = Start} (DeclaredAt s) Never w
start_typed s w (None, best, f) = (None, declared_none s w best, tt)
start_typed s w (Some a, best, f) =
    let stars = stars_exist (suc (length a.1)) a.1 (omega arith) in
    start_named s w a.1 stars.0.1 a.0 stars.0.0 best f stars.1 stars.2 (sees_name stars.0.1)

static_fits : (w : List Token) (f : Front) → front_of w ≡ f → length (static_front w f).1 ≤ length w
static_fits w (front (word.Keyword keyword.Static) u) h = let one = begins_shrinks w h in omega arith
static_fits w _ h = le_refl (length w)

start_by : (w u : List Token) (s : Bool) → ◌≡◌ {A = Bool × List Token} (s, u) (static_of w) → length u ≤ length w → Found {X = Start} (DeclaredAt s) Never u → Found {X = Start} StartAt Never w
start_by w u s e h (o, best, f) = (o, start_best w u s o e best, fewer_more (length u) (length w) o h f)

start_found : (w : List Token) → Found {X = Start} StartAt Never w
start_found w = let p = static_of w in start_by w p.1 p.0 refl (static_fits w (front_of w) refl) (start_typed p.0 p.1 (result_by p.1 (sees_void p.1)))

-- ---- parameters
param_by : (w : List Token) → Found TypedAt Never w → Found {X = Param} ParamAt Never w
param_by w (None, best, f) = (None, param_none w best, tt)
param_by w (Some a, best, f) = (Some (record { line = line_at w; type_name = a.0.type_name; name = a.0.name }, a.1), param_some w a.1 a.0 best, f)

more_after : (w u : List Token) → Begins w (word.Sign sign.Comma) u → Found {X = Param} ParamAt Never u → Found {X = Param} MoreParamAt Never w
more_after w u b (o, best, f) = (o, more_is w u o b best, fewer_more (length u) (length w) o (let one = begins_shrinks w b in omega arith) f)

more_by : (w : List Token) → Sees w (word.Sign sign.Comma) → Found {X = Param} MoreParamAt Never w
more_by w (inl (u, b)) = more_after w u b (param_by u (typed_found u))
more_by w (inr lacks) = (None, more_none w lacks, tt)

list_by : (w : List Token) → Found {X = Param} ParamAt Never w → Found {X = List Param} ListAt (At is_comma) w
list_by w (None, best, f) = (None, list_none w best, tt)
list_by w (Some a, best, f) =
    let more = chain_found MoreParamAt (At is_comma) more_first (λ u. more_by u (sees_comma u)) a.1 in
    let size = more.2 in
    (Some (a.0 ∷ more.0.0, more.0.1), list_on w a.1 a.0 more.0 best more.1, omega (arith, f))

list_end : (w u : List Token) (xs : List Param) → Lacks w (word.Sign sign.ParenClose) → Lacks w (word.Keyword keyword.Void) → Best {X = List Param} (ListAt w) (At is_comma) (Some (xs, u)) → length u < length w
    → Sees u (word.Sign sign.ParenClose) → Found {X = Params} ParamsEnd Never w
list_end w u xs none void best h (inl (r, b)) = let one = begins_shrinks u b in (Some (record { written_void = false; params = xs }, r), params_some w u r xs none void best b, omega arith)
list_end w u xs none void best h (inr lacks) = (None, params_open w u xs none void best lacks, tt)

params_listed : (w : List Token) → Lacks w (word.Sign sign.ParenClose) → Lacks w (word.Keyword keyword.Void) → Found {X = List Param} ListAt (At is_comma) w → Found {X = Params} ParamsEnd Never w
params_listed w none void (None, best, f) = (None, params_none w none void best, tt)
params_listed w none void (Some a, best, f) = list_end w a.1 a.0 none void best f (sees_close a.1)

void_end : (w u : List Token) → Begins w (word.Keyword keyword.Void) u → Sees u (word.Sign sign.ParenClose) → Found {X = Params} ParamsEnd Never w
void_end w u b (inl (r, c)) = let one = begins_shrinks w b in let two = begins_shrinks u c in (Some (record { written_void = true; params = [] }, r), params_void w u r b c, omega arith)
void_end w u b (inr lacks) = (None, params_void_open w u b lacks, tt)

params_void_or : (w : List Token) → Lacks w (word.Sign sign.ParenClose) → Sees w (word.Keyword keyword.Void) → Found {X = Params} ParamsEnd Never w
params_void_or w none (inl (u, b)) = void_end w u b (sees_close u)
params_void_or w none (inr void) = params_listed w none void (list_by w (param_by w (typed_found w)))

params_by : (w : List Token) → Sees w (word.Sign sign.ParenClose) → Found {X = Params} ParamsEnd Never w
params_by w (inl (u, b)) = (Some (record { written_void = false; params = [] }, u), params_nothing w u b, begins_shrinks w b)
params_by w (inr none) = params_void_or w none (sees_void w)

-- ---- functions
body_end : (h : Head) (w c d : List Token) (ls : List Local) (ss : List Stmt) → Best {X = List Local} (Each LocalAt w) (At is_base) (Some (ls, c)) → length c ≤ length w
    → Best {X = List Stmt} (StmtsAt c) (At is_in_statements) (Some (ss, d)) → length d ≤ length c → Sees d (word.Sign sign.BraceClose) → Found (BodyAfter h) Never w
body_end h w c d ls ss locals k statements l (inl (v, b)) =
    let one = begins_shrinks d b in
    (Some (item.Function (record { head = h; locals = ls; body = ss ++ added_return h (line_at d) ∷ []; end = line_at d }), v), body_some h w c d v ls ss locals statements b, omega arith)
body_end h w c d ls ss locals k statements l (inr lacks) = (None, body_open h w c d ls ss locals statements lacks, tt)

body_found : (h : Head) (w : List Token) → Found (BodyAfter h) Never w
body_found h w =
    let locals = locals_found w in
    let statements = statements_found locals.0.1 in
    body_end h w locals.0.1 statements.0.1 locals.0.0 statements.0.0 locals.1 locals.2 statements.1 statements.2 (sees_brace_close statements.0.1)

function_of_body : (line : ℕ) (s : Start) (w u r : List Token) (p : Params) → Best (ParamsEnd w) Never (Some (p, u)) → length u < length w → Begins u (word.Sign sign.BraceOpen) r
    → Found (BodyAfter (head_with line s p)) Never r → Found (FunctionAfter line s) Never w
function_of_body line s w u r p best h b (o, inner, f) =
    (o, function_body line s w u r p (head_with line s p) o refl best b inner, fewer_more (length r) (length w) o (let one = begins_shrinks u b in omega arith) f)

function_braced : (line : ℕ) (s : Start) (w u : List Token) (p : Params) → Best (ParamsEnd w) Never (Some (p, u)) → length u < length w → Lacks u (word.Sign sign.Semicolon)
    → Sees u (word.Sign sign.BraceOpen) → Found (FunctionAfter line s) Never w
function_braced line s w u p best h none (inl (r, b)) = function_of_body line s w u r p best h b (body_found (head_with line s p) r)
function_braced line s w u p best h none (inr lacks) = (None, function_open line s w u p best none lacks, tt)

function_ended : (line : ℕ) (s : Start) (w u : List Token) (p : Params) → Best (ParamsEnd w) Never (Some (p, u)) → length u < length w → Sees u (word.Sign sign.Semicolon)
    → Found (FunctionAfter line s) Never w
function_ended line s w u p best h (inl (r, b)) =
    let one = begins_shrinks u b in
    (Some (item.Prototype (head_with line s p), r), function_prototype line s w u r p (head_with line s p) refl best b, omega arith)
function_ended line s w u p best h (inr lacks) = function_braced line s w u p best h lacks (sees_brace u)

function_by : (line : ℕ) (s : Start) (w : List Token) → Found {X = Params} ParamsEnd Never w → Found (FunctionAfter line s) Never w
function_by line s w (None, best, f) = (None, then_none best, tt)
function_by line s w (Some a, best, f) = function_ended line s w a.1 a.0 best f (sees_end a.1)

-- ---- globals
valued_end : (line : ℕ) (s : Start) (b : Base) (w u q : List Token) (n : Option Number) (i : Option Const) → Best {X = Option Number} (SizeAt w) (At is_bracket) (Some (n, u)) → length u ≤ length w
    → Best {X = Option Const} (ValueAt u) (At is_assign) (Some (i, q)) → length q ≤ length u → Sees q (word.Sign sign.Semicolon) → Found (ValuedAfter line s b) Never w
valued_end line s b w u q n i size k held l (inl (v, c)) =
    let one = begins_shrinks q c in (
      Some (item.Global (record { line = line; is_static = s.is_static; declaration = record { type_name = record { base = b; stars = s.stars }; name = s.name; size = n }; value = i }), v),
      valued_some line s b w u q v n i size held c,
      omega arith,
    )
valued_end line s b w u q n i size k held l (inr lacks) = (None, valued_open line s b w u q n i size held lacks, tt)

valued_found : (line : ℕ) (s : Start) (b : Base) (w : List Token) → Found (ValuedAfter line s b) Never w
valued_found line s b w =
    let size = size_best w in
    let u = (size_of w).1 in
    let held = value_best u in
    valued_end line s b w u (value_of u).1 (size_of w).0 (value_of u).0 size (size_shrinks size.sound) held (value_shrinks held.sound) (sees_end (value_of u).1)

global_of_base : (line : ℕ) (s : Start) (b : Base) (w : List Token) → s.result ≡ result.Base b → Found (ValuedAfter line s b) Never w → Found (GlobalAfter line s) Never w
global_of_base line s b w e (o, best, f) = (o, global_typed line s b w o e best, f)

global_by : (line : ℕ) (s : Start) (w : List Token) (r : ResultBase) → s.result ≡ r → Found (GlobalAfter line s) Never w
global_by line s w result.Void e = (None, global_void line s w e, tt)
global_by line s w (result.Base b) e = global_of_base line s b w e (valued_found line s b w)

-- ---- items
struct_brace_fits : (n m : List ℕ) (c u : List Token) (f : Front) → front_of u ≡ f → ◌≡◌ {A = Option (List ℕ × List Token)} (struct_brace n f) (Some (m, c)) → length c < length u
struct_brace_fits n m c u (front (word.Sign sign.BraceOpen) r) h e = let pair : ◌≡◌ {A = List ℕ × List Token} (n, r) (m, c) = cc in let same = ap (λ (q : List ℕ × List Token). length q.1) pair in let one = begins_shrinks u h in omega (arith, same)
struct_brace_fits n m c u _ h e = cc

struct_name_fits : (m : List ℕ) (c u : List Token) (f : Front) → front_of u ≡ f → ◌≡◌ {A = Option (List ℕ × List Token)} (struct_name f) (Some (m, c)) → length c < length u
struct_name_fits m c u (front (word.Name n) r) h e = let one = begins_shrinks u h in let two = struct_brace_fits n m c r (front_of r) refl e in omega arith
struct_name_fits m c u _ h e = cc

struct_fits : (m : List ℕ) (c w : List Token) (f : Front) → front_of w ≡ f → ◌≡◌ {A = Option (List ℕ × List Token)} (struct_front f) (Some (m, c)) → length c < length w
struct_fits m c w (front (word.Keyword keyword.Struct) r) h e = let one = begins_shrinks w h in let two = struct_name_fits m c r (front_of r) refl e in omega arith
struct_fits m c w _ h e = cc

item_of_struct : (w c : List Token) (n : List ℕ) → ◌≡◌ {A = Option (List ℕ × List Token)} (Some (n, c)) (struct_opened_of w) → Found (StructAfter (line_at w) n) Never c → Found ItemAt Never w
item_of_struct w c n e (o, best, f) =
    (o, item_struct w c (line_at w) n o refl e best, fewer_more (length c) (length w) o (let fewer = struct_fits n c w (front_of w) refl (sym e) in omega arith) f)

item_of_function : (w u q : List Token) (s : Start) → ◌≡◌ {A = Option (List ℕ × List Token)} None (struct_opened_of w) → Best (StartAt w) Never (Some (s, u)) → length u < length w
    → Begins u (word.Sign sign.ParenOpen) q → Found (FunctionAfter (line_at w) s) Never q → Found ItemAt Never w
item_of_function w u q s e start h b (o, best, f) =
    (o, item_function w u q (line_at w) s o refl e start b best, fewer_more (length q) (length w) o (let one = begins_shrinks u b in omega arith) f)

item_of_global : (w u : List Token) (s : Start) → ◌≡◌ {A = Option (List ℕ × List Token)} None (struct_opened_of w) → Best (StartAt w) Never (Some (s, u)) → length u < length w
    → Lacks u (word.Sign sign.ParenOpen) → Found (GlobalAfter (line_at w) s) Never u → Found ItemAt Never w
item_of_global w u s e start h lacks (o, best, f) = (o, item_global w u (line_at w) s o refl e start lacks best, fewer_more (length u) (length w) o (omega arith) f)

item_opened : (w u : List Token) (s : Start) → ◌≡◌ {A = Option (List ℕ × List Token)} None (struct_opened_of w) → Best (StartAt w) Never (Some (s, u)) → length u < length w
    → Sees u (word.Sign sign.ParenOpen) → Found ItemAt Never w
item_opened w u s e start h (inl (q, b)) = item_of_function w u q s e start h b (function_by (line_at w) s q (params_by q (sees_close q)))
item_opened w u s e start h (inr lacks) = item_of_global w u s e start h lacks (global_by (line_at w) s u s.result refl)

item_started : (w : List Token) → ◌≡◌ {A = Option (List ℕ × List Token)} None (struct_opened_of w) → Found {X = Start} StartAt Never w → Found ItemAt Never w
item_started w e (None, best, f) = (None, item_none w e best, tt)
item_started w e (Some a, best, f) = item_opened w a.1 a.0 e best f (sees_open a.1)

item_by : (w : List Token) (o : Option (List ℕ × List Token)) → ◌≡◌ {A = Option (List ℕ × List Token)} o (struct_opened_of w) → Found ItemAt Never w
item_by w (Some a) e = item_of_struct w a.1 a.0 e (struct_found (line_at w) a.0 a.1)
item_by w None e = item_started w e (start_found w)

item_found : (w : List Token) → Found ItemAt Never w
item_found w = item_by w (struct_opened_of w) refl

-- ---- whole texts
abbrev pub UnitEnd : List Token → Type 0
UnitEnd w = ((u : TextUnit) × IsUnit w u) ⊎ ((line : ℕ) × HasNoItem w line)

with_item : (w u : List Token) (x : Item) → ItemAt w u x → UnitEnd u → UnitEnd w
with_item w u x first (inl (unit, read)) = inl (record { items = x ∷ unit.items }, each_more first read)
with_item w u x first (inr (line, stop)) =
    inr (line, record { before = x ∷ stop.before; rest = stop.rest; reads = each_more first stop.reads; some = stop.some; no_item = stop.no_item; line = stop.line })

unit_step : (t : Token) (w : List Token) → ((u : List Token) → length u < length (t ∷ w) → UnitEnd u) → Found ItemAt Never (t ∷ w) → UnitEnd (t ∷ w)
unit_step t w again (None, best, f) = inr (line_at (t ∷ w), record { before = []; rest = t ∷ w; reads = each_end; some = some; no_item = best.covers; line = refl })
  where
    some : t ∷ w ≡ [] → ⊥
    some e = cc
unit_step t w again (Some a, best, f) = with_item (t ∷ w) a.1 a.0 best.sound (again a.1 f)

unit_by : (n : ℕ) (w : List Token) → length w < n → UnitEnd w
unit_by zero w h = absurd (omega arith)
unit_by (suc n) [] h = inl (record { items = [] }, each_end)
unit_by (suc n) (t ∷ w) h = unit_step t w (λ u fewer. unit_by n u (omega arith)) (item_found (t ∷ w))

pub unit_end : (w : List Token) → UnitEnd w
unit_end w = unit_by (suc (length w)) w (omega arith)
