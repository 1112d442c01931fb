-- The words and the pieces of items are those of their trees.
use Rattle.std.proofs.Common.{List, [], ◌∷◌, ◌++◌, flat_map, Option, Bool, refl, ap, sym}
use Rattle.c_tree.specs.declared.items.Arm.{Arm}
use Rattle.c_tree.specs.declared.items.Const.{Const}
use Rattle.c_tree.specs.declared.items.Declaration.{Declaration}
use Rattle.c_tree.specs.declared.items.Field.{Field}
use Rattle.c_tree.specs.declared.items.Function.{Function}
use Rattle.c_tree.specs.declared.items.GlobalItem.{GlobalItem}
use Rattle.c_tree.specs.declared.items.Head.{Head}
use Rattle.c_tree.specs.declared.items.Item.{Item}
use Rattle.c_tree.specs.declared.items.Local.{Local}
use Rattle.c_tree.specs.declared.items.Param.{Param}
use Rattle.c_tree.specs.declared.items.ResultBase.{ResultBase}
use Rattle.c_tree.specs.declared.items.StructItem.{StructItem}
use Rattle.c_tree.specs.declared.signs.Sign.TheVariants as sign
use Rattle.c_tree.specs.declared.statements.Stmt.{Stmt}
use Rattle.c_tree.specs.declared.types.Number.{Number}
use Rattle.c_tree.specs.declared.types.Star.{Star}
use Rattle.c_tree.specs.declared.words.Token.{Token}
use Rattle.c_tree.specs.declared.words.Word.{Word}
use Rattle.c_tree.specs.ItemGrammar.{SizeAt, no_array, array, ConstAt, number, negative, character, DeclarationAt, declaration, ArmAt, arm, FieldAt, plain, union, StructAt, struct, StaticAt, shared, static, ValueAt, no_value, value, GlobalAt, global, ResultAt, void, typed, ParamAt, param, MoreParamAt, more_param, ParamsAt, no_param, written_void, params, HeadAt, head, LocalAt, local, FunctionAt, function, ItemAt, struct_item, global_item, function_item, prototype, added_return}
use Rattle.c_tree.specs.Reading.{Each, each_end, each_more, line_at}
use Rattle.c_tree.specs.Spelling.{a_sign, stars_words}
use Rattle.c_tree.specs.StatementSpelling.{statement_words, statement_pieces}
use Rattle.c_tree.specs.TypeGrammar.{StarAt}
use Rattle.c_tree.specs.UnitSpelling.{const_words, size_words, declaration_words, arm_words, field_words, struct_words, static_words, initial_words, global_words, result_words, param_words, more_params_words, params_words, written_void_words, head_words, local_words, function_words, item_words, field_pieces, function_pieces, item_pieces}
use Rattle.c_tree.proofs.ShortFunctions.{written_of}
use Rattle.c_expr.proofs.Spans.{base_span, star_span, each_span}
use Rattle.c_expr.proofs.Spelled.{base_written, stars_written}
use Rattle.c_decl.proofs.StatementWalks.{statements_walk}
use Rattle.c_decl.proofs.Walks.{both, word_there, Calm, calm_word, calm_none, calm_both, calm, calm_type, Piece, ended, led, whole, Walk, piece_walk, before, after, joined, walked_as, each_walk}

const_calm : {w v : List Token} {c : Const} → ConstAt w v c → Calm w v (const_words c)
const_calm (number b) = calm_word b refl
const_calm (negative b c) = calm_both (calm_word b refl) (calm_word c refl)
const_calm (character b) = calm_word b refl

size_calm : {w v : List Token} {s : Option Number} → SizeAt w v s → Calm w v (size_words s)
size_calm no_array = calm_none
size_calm (array b c d) = calm_both (calm_word b refl) (calm_both (calm_word c refl) (calm_word d refl))

declaration_calm : {w v : List Token} {d : Declaration} → DeclarationAt w v d → Calm w v (declaration_words d)
declaration_calm (declaration d b e) = calm_both (calm_type d) (calm_both (calm_word b refl) (size_calm e))

-- ---- structs
pub arm_piece : {w v : List Token} {a : Arm} → ArmAt w v a → Piece w v (arm_words a)
arm_piece (arm d b c e f g h i j) =
    led (calm_type d) (led (calm_word b refl) (led (calm_word c refl) (led (calm_both (calm_word e refl) (calm_both (calm_both (calm_word f refl) (calm_both (calm_word g refl) (const_calm h))) (calm_word i refl))) (ended j))))

pub field_walk : {w v : List Token} {x : Field} → FieldAt w v x → Walk w v (field_words x) (field_pieces x)
field_walk (plain d b) = piece_walk (led (declaration_calm d) (ended b))
field_walk (union b c d e f g h) =
    before (word_there b) (before (word_there c) (after (each_walk ArmAt arm_words (λ a. arm_words a ∷ []) (λ w v x p. piece_walk (arm_piece p)) (each_more d e)) (both (word_there f) (both (word_there g) (word_there h)))))

struct_walk : {w v : List Token} {s : StructItem} → StructAt w v s → Walk w v (struct_words s) (flat_map field_pieces s.fields)
struct_walk (struct b c d e f g h) =
    before (word_there b) (before (word_there c) (before (word_there d) (after (each_walk FieldAt field_words field_pieces (λ w v x p. field_walk p) (each_more e f)) (both (word_there g) (word_there h)))))

-- ---- globals
static_calm : {w v : List Token} {s : Bool} → StaticAt w v s → Calm w v (static_words s)
static_calm shared = calm_none
static_calm (static b) = calm_word b refl

initial_calm : {w v : List Token} {i : Option Const} → ValueAt w v i → Calm w v (initial_words i)
initial_calm no_value = calm_none
initial_calm (value b d) = calm_both (calm_word b refl) (const_calm d)

global_piece : {w v : List Token} {g : GlobalItem} → GlobalAt w v g → Piece w v (global_words g)
global_piece (global s d i b) = led (static_calm s) (led (declaration_calm d) (led (initial_calm i) (ended b)))

-- ---- heads
result_calm : {w v : List Token} {r : ResultBase} → ResultAt w v r → Calm w v (result_words r)
result_calm (void b) = calm_word b refl
result_calm (typed d) = calm (base_written d) (base_span d)

stars_calm : {w v : List Token} {ss : List Star} → Each StarAt w v ss → Calm w v (stars_words ss)
stars_calm d = calm (stars_written d) (each_span StarAt (λ w v x p. star_span p) d)

param_calm : {w v : List Token} {p : Param} → ParamAt w v p → Calm w v (param_words p)
param_calm (param d b) = calm_both (calm_type d) (calm_word b refl)

more_params_calm : {w v : List Token} {ps : List Param} → Each MoreParamAt w v ps → Calm w v (more_params_words ps)
more_params_calm each_end = calm_none
more_params_calm (each_more (more_param b d) e) = calm_both (calm_both (calm_word b refl) (param_calm d)) (more_params_calm e)

params_calm : {w v : List Token} {b : Bool} {ps : List Param} → ParamsAt w v b ps → Calm w v (written_void_words b ++ params_words ps)
params_calm no_param = calm_none
params_calm (written_void b) = calm_both (calm_word b refl) calm_none
params_calm (params d e) = calm_both (param_calm d) (more_params_calm e)

head_walk : {w v : List Token} {h : Head} → HeadAt w v h → Walk w v (static_words h.is_static ++ head_words h) (head_words h ∷ [])
head_walk (head s r d n b p c) = before (static_calm s).passage
    (piece_walk (whole (calm_both (result_calm r) (calm_both (stars_calm d) (calm_both (calm_word n refl) (calm_both (calm_word b refl) (calm_both (params_calm p) (calm_word c refl))))))))

-- ---- functions
local_piece : {w v : List Token} {l : Local} → LocalAt w v l → Piece w v (local_words l)
local_piece (local d b c) = led (calm_type d) (led (calm_word b refl) (ended c))

body_words_of : Head → List Local → List Stmt → List Word
body_words_of h ls ss = (static_words h.is_static ++ head_words h) ++ (a_sign sign.BraceOpen ++ (flat_map local_words ls ++ (flat_map statement_words ss ++ a_sign sign.BraceClose)))

body_pieces_of : Head → List Local → List Stmt → List (List Word)
body_pieces_of h ls ss = head_words h ∷ flat_map (λ l. local_words l ∷ []) ls ++ flat_map statement_pieces ss

function_walk : {w v : List Token} {f : Function} → FunctionAt w v f → Walk w v (function_words f) (function_pieces f)
unfolding body_words_of body_pieces_of
function_walk (function {d = d} {h = h} {ls = ls} {ss = ss} p b l s c) =
    let written = sym (written_of ss (added_return h (line_at d))) in
    walked_as (ap (body_words_of h ls) written) (ap (body_pieces_of h ls) written)
    (joined (head_walk p) (before (word_there b) (joined (each_walk LocalAt local_words (λ z. local_words z ∷ []) (λ w v x q. piece_walk (local_piece q)) l) (after (statements_walk s) (word_there c)))))

-- ---- items
pub item_walk : (w v : List Token) (x : Item) → ItemAt w v x → Walk w v (item_words x) (item_pieces x)
item_walk w v x (struct_item d) = struct_walk d
item_walk w v x (global_item d) = piece_walk (global_piece d)
item_walk w v x (function_item d) = function_walk d
item_walk w v x (prototype d b) = after (head_walk d) (word_there b)
