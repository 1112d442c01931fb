-- A phrase is one whatever words are put behind all of them.
use Rattle.std.proofs.Common.{◌≡◌, ℕ, List, [], ◌∷◌, ◌++◌, Option, Some, None, Bool, refl, ap, sym, ◌∙◌, subst, append_assoc}
use Rattle.c_tree.specs.declared.expressions.Expr.{Expr}
use Rattle.c_tree.specs.declared.items.Arm.{Arm}
use Rattle.c_tree.specs.declared.items.Const.{Const}
use Rattle.c_tree.specs.declared.items.Declaration.{Declaration}
use Rattle.c_tree.specs.declared.items.Field.{Field}
use Rattle.c_tree.specs.declared.items.Field.TheVariants as field
use Rattle.c_tree.specs.declared.items.Function.{Function}
use Rattle.c_tree.specs.declared.items.GlobalItem.{GlobalItem}
use Rattle.c_tree.specs.declared.items.Head.{Head}
use Rattle.c_tree.specs.declared.items.Item.{Item}
use Rattle.c_tree.specs.declared.items.Local.{Local}
use Rattle.c_tree.specs.declared.items.Param.{Param}
use Rattle.c_tree.specs.declared.items.ResultBase.{ResultBase}
use Rattle.c_tree.specs.declared.items.StructItem.{StructItem}
use Rattle.c_tree.specs.declared.signs.Sign.{Sign}
use Rattle.c_tree.specs.declared.statements.Action.{Action}
use Rattle.c_tree.specs.declared.statements.Body.{Body}
use Rattle.c_tree.specs.declared.statements.Simple.{Simple}
use Rattle.c_tree.specs.declared.statements.Stmt.{Stmt}
use Rattle.c_tree.specs.declared.statements.Stmt.TheVariants as statement
use Rattle.c_tree.specs.declared.types.Base.{Base}
use Rattle.c_tree.specs.declared.types.Number.{Number}
use Rattle.c_tree.specs.declared.types.Star.{Star}
use Rattle.c_tree.specs.declared.types.TypeName.{TypeName}
use Rattle.c_tree.specs.declared.words.Token.{Token}
use Rattle.c_tree.specs.declared.words.Word.{Word}
use Rattle.c_tree.specs.ExpressionGrammar.{UnaryExpr, Closed}
use Rattle.c_tree.specs.ItemGrammar as items
use Rattle.c_tree.specs.ItemGrammar.{SizeAt, no_array, array, ConstAt, number, negative, character, DeclarationAt, declaration, ArmAt, arm, FieldAt, union, StructAt, struct, StaticAt, shared, static, ValueAt, no_value, value, GlobalAt, global, ResultAt, void, typed, ParamAt, param, MoreParamAt, more_param, ParamsAt, no_param, written_void, params, HeadAt, head, LocalAt, local, FunctionAt, function, ItemAt, struct_item, global_item, function_item, prototype, added_return}
use Rattle.c_tree.specs.Reading.{Begins, Each, each_end, each_more, Enclosed, enclosed, line_at}
use Rattle.c_tree.specs.Reading.Front.{front}
use Rattle.c_tree.specs.StatementGrammar.{ArgumentsAt, no_argument, arguments, MoreArgumentsAt, last_argument, argument, CallAt, call_at, TargetAt, target_at, ActionAt, assign, call, call_to, kalloc, kfree, zero, return_value, return_alone, empty, SimpleAt, simple, TestAt, test_at, StmtAt, plain, if_alone, if_else, while, BodyAt, block, single, StmtsAt, no_statement, statements}
use Rattle.c_tree.specs.TypeGrammar.{BaseAt, StarAt, TypeNameAt}
use Rattle.c_expr.specs.Classes.{At, is_base}
use Rattle.c_expr.proofs.Firsts.{base_first, type_first}
use Rattle.c_expr.proofs.Spans.{Span, unary_span, closed_span, type_span, base_span, star_span, each_span}
use Rattle.c_decl.specs.Classes.{is_action}
use Rattle.c_decl.proofs.OneStatement.{action_first}

-- ---- words and lines
pub word_more : (w : List Token) {v : List Token} {k : Word} (r : List Token) → Begins w k v → Begins (w ++ r) k (v ++ r)
word_more [] r b = cc
word_more (t ∷ w) {v = v} {k = k} r b = let is : t.word ≡ k = cc in let rest : w ≡ v = cc in ap (λ z. front z (w ++ r)) is ∙ ap (λ z. front k (z ++ r)) rest

line_more : (w u r : List Token) (k : Word) → Begins w k u → line_at (w ++ r) ≡ line_at w
line_more [] u r k b = cc
line_more (t ∷ w) u r k b = refl

line_of_class : (class : Word → Bool) (w r : List Token) → At class w → line_at (w ++ r) ≡ line_at w
line_of_class class [] r g = cc
line_of_class class (t ∷ w) r g = refl

-- a phrase that takes its words whatever stands after them
span_more : {P : List Token → List Token → Type 0} {w v : List Token} (r : List Token) → Span P w v → P (w ++ r) (v ++ r)
span_more {P} {w} {v} r s = subst (λ z. P z (v ++ r)) (sym (append_assoc s.words v r) ∙ ap (λ z. z ++ r) (sym s.parts)) (s.anywhere (v ++ r))

unary_more : {w v : List Token} {x : Expr} (r : List Token) → UnaryExpr w v x → UnaryExpr (w ++ r) (v ++ r) x
unary_more r d = span_more r (unary_span d)

closed_more : {s : Sign} {w v : List Token} {x : Expr} (r : List Token) → Closed s w v x → Closed s (w ++ r) (v ++ r) x
closed_more r d = span_more r (closed_span d)

type_more : {w v : List Token} {t : TypeName} (r : List Token) → TypeNameAt w v t → TypeNameAt (w ++ r) (v ++ r) t
type_more r d = span_more r (type_span d)

base_more : {w v : List Token} {b : Base} (r : List Token) → BaseAt w v b → BaseAt (w ++ r) (v ++ r) b
base_more r d = span_more r (base_span d)

stars_more : {w v : List Token} {ss : List Star} (r : List Token) → Each StarAt w v ss → Each StarAt (w ++ r) (v ++ r) ss
stars_more r d = span_more r (each_span StarAt (λ w v x p. star_span p) d)

module _ {X : Type 0} (R : List Token → List Token → X → Type 0) (r : List Token) (more : (w v : List Token) (x : X) → R w v x → R (w ++ r) (v ++ r) x) where
  each_further : {w v : List Token} {xs : List X} → Each R w v xs → Each R (w ++ r) (v ++ r) xs
  each_further each_end = each_end
  each_further (each_more {w = w} {u = u} {x = x} d e) = each_more (more w u x d) (each_further e)

-- ---- simple statements
more_arguments_more : {w v : List Token} {xs : List Expr} (r : List Token) → MoreArgumentsAt w v xs → MoreArgumentsAt (w ++ r) (v ++ r) xs
more_arguments_more r (last_argument d) = last_argument (closed_more r d)
more_arguments_more r (argument d e) = argument (closed_more r d) (more_arguments_more r e)

arguments_more : {w v : List Token} {xs : List Expr} (r : List Token) → ArgumentsAt w v xs → ArgumentsAt (w ++ r) (v ++ r) xs
arguments_more r (no_argument b) = no_argument (word_more _ r b)
arguments_more r (arguments d) = arguments (more_arguments_more r d)

call_more : {w v : List Token} {n : List ℕ} (r : List Token) → CallAt w v n → CallAt (w ++ r) (v ++ r) n
call_more r (call_at b c) = call_at (word_more _ r b) (word_more _ r c)

target_more : {w v : List Token} {n : List ℕ} (r : List Token) → TargetAt w v n → TargetAt (w ++ r) (v ++ r) n
target_more r (target_at b c) = target_at (word_more _ r b) (word_more _ r c)

place_more : {w v : List Token} {x : Expr} (r : List Token) → Enclosed UnaryExpr w v x → Enclosed UnaryExpr (w ++ r) (v ++ r) x
place_more r (enclosed b d c) = enclosed (word_more _ r b) (unary_more r d) (word_more _ r c)

action_more : {w v : List Token} {a : Action} (r : List Token) → ActionAt w v a → ActionAt (w ++ r) (v ++ r) a
action_more r (assign d b e) = assign (unary_more r d) (word_more _ r b) (closed_more r e)
action_more r (call c d e) = call (call_more r c) (arguments_more r d) (word_more _ r e)
action_more r (call_to t c d e) = call_to (target_more r t) (call_more r c) (arguments_more r d) (word_more _ r e)
action_more r (kalloc t b c d e f g) = kalloc (target_more r t) (word_more _ r b) (word_more _ r c) (type_more r d) (word_more _ r e) (closed_more r f) (word_more _ r g)
action_more r (kfree b c d e) = kfree (word_more _ r b) (word_more _ r c) (closed_more r d) (word_more _ r e)
action_more r (zero b d e) = zero (word_more _ r b) (place_more r d) (word_more _ r e)
action_more r (return_value b d) = return_value (word_more _ r b) (closed_more r d)
action_more r (return_alone b c) = return_alone (word_more _ r b) (word_more _ r c)
action_more r (empty b) = empty (word_more _ r b)

simple_more : {w v : List Token} {s : Simple} (r : List Token) → SimpleAt w v s → SimpleAt (w ++ r) (v ++ r) s
simple_more r (simple {w = w} {v = v} {a = a} d) =
    subst (λ n. SimpleAt (w ++ r) (v ++ r) (record { line = n; action = a })) (line_of_class is_action w r (action_first w v a d)) (simple (action_more r d))

-- ---- statements and bodies
test_more : {k : Word} {w v : List Token} {x : Expr} (r : List Token) → TestAt k w v x → TestAt k (w ++ r) (v ++ r) x
test_more r (test_at b c d) = test_at (word_more _ r b) (word_more _ r c) (closed_more r d)

test_line : {k : Word} {w v : List Token} {x : Expr} (r : List Token) → TestAt k w v x → line_at (w ++ r) ≡ line_at w
test_line {k} r (test_at {w = w} {u = u} b c d) = line_more w u r k b

mutual
  statement_more : {w v : List Token} {s : Stmt} (r : List Token) → StmtAt w v s → StmtAt (w ++ r) (v ++ r) s
  statement_more r (plain d) = plain (simple_more r d)
  statement_more r (if_alone {w = w} {v = v} {x = x} {y = y} t d) = subst (λ n. StmtAt (w ++ r) (v ++ r) (statement.If n x y None)) (test_line r t) (if_alone (test_more r t) (body_more r d))
  statement_more r (if_else {w = w} {v = v} {x = x} {y = y} {z = z} t d b e) =
      subst (λ n. StmtAt (w ++ r) (v ++ r) (statement.If n x y (Some z))) (test_line r t) (if_else (test_more r t) (body_more r d) (word_more _ r b) (body_more r e))
  statement_more r (while {w = w} {v = v} {x = x} {y = y} t d) = subst (λ n. StmtAt (w ++ r) (v ++ r) (statement.While n x y)) (test_line r t) (while (test_more r t) (body_more r d))

  body_more : {w v : List Token} {b : Body} (r : List Token) → BodyAt w v b → BodyAt (w ++ r) (v ++ r) b
  body_more r (block b d c) = block (word_more _ r b) (statements_more r d) (word_more _ r c)
  body_more r (single d) = single (simple_more r d)

  statements_more : {w v : List Token} {ss : List Stmt} (r : List Token) → StmtsAt w v ss → StmtsAt (w ++ r) (v ++ r) ss
  statements_more r no_statement = no_statement
  statements_more r (statements d e) = statements (statement_more r d) (statements_more r e)

-- ---- structs
const_more : {w v : List Token} {c : Const} (r : List Token) → ConstAt w v c → ConstAt (w ++ r) (v ++ r) c
const_more r (number b) = number (word_more _ r b)
const_more r (negative b c) = negative (word_more _ r b) (word_more _ r c)
const_more r (character b) = character (word_more _ r b)

size_more : {w v : List Token} {s : Option Number} (r : List Token) → SizeAt w v s → SizeAt (w ++ r) (v ++ r) s
size_more r no_array = no_array
size_more r (array b c d) = array (word_more _ r b) (word_more _ r c) (word_more _ r d)

declaration_more : {w v : List Token} {d : Declaration} (r : List Token) → DeclarationAt w v d → DeclarationAt (w ++ r) (v ++ r) d
declaration_more r (declaration d b e) = declaration (type_more r d) (word_more _ r b) (size_more r e)

arm_more : (r w v : List Token) (x : Arm) → ArmAt w v x → ArmAt (w ++ r) (v ++ r) x
arm_more r w v x (arm {a = a} {t = t} {n = n} {m = m} {k = k} d b c e f g h i j) =
    subst (λ l. ArmAt (w ++ r) (v ++ r) (record { line = l; type_name = t; name = n; tag = m; value = k })) (line_of_class is_base w r (type_first w a t d))
    (arm (type_more r d) (word_more _ r b) (word_more _ r c) (word_more _ r e) (word_more _ r f) (word_more _ r g) (const_more r h) (word_more _ r i) (word_more _ r j))

field_more : (r w v : List Token) (x : Field) → FieldAt w v x → FieldAt (w ++ r) (v ++ r) x
field_more r w v x (items.plain {d = z} (declaration {u = u} {t = t} d b e) c) =
    subst (λ l. FieldAt (w ++ r) (v ++ r) (field.Plain l z)) (line_of_class is_base w r (type_first w u t d)) (items.plain (declaration (type_more r d) (word_more _ r b) (size_more r e)) (word_more _ r c))
field_more r w v x (union {a = a} {x = y} {xs = ys} {n = n} b c d e f g h) =
    subst (λ l. FieldAt (w ++ r) (v ++ r) (field.Union l (y ∷ ys) n)) (line_more w a r _ b)
    (union (word_more _ r b) (word_more _ r c) (arm_more r _ _ y d) (each_further ArmAt r (arm_more r) e) (word_more _ r f) (word_more _ r g) (word_more _ r h))

struct_more : {w v : List Token} {s : StructItem} (r : List Token) → StructAt w v s → StructAt (w ++ r) (v ++ r) s
struct_more r (struct {w = w} {a = a} {v = v} {n = n} {x = x} {xs = xs} b c d e f g h) =
    subst (λ l. StructAt (w ++ r) (v ++ r) (record { line = l; name = n; fields = x ∷ xs })) (line_more w a r _ b)
    (struct (word_more _ r b) (word_more _ r c) (word_more _ r d) (field_more r _ _ x e) (each_further FieldAt r (field_more r) f) (word_more _ r g) (word_more _ r h))

-- ---- globals
static_more : {w v : List Token} {s : Bool} (r : List Token) → StaticAt w v s → StaticAt (w ++ r) (v ++ r) s
static_more r shared = shared
static_more r (static b) = static (word_more _ r b)

value_more : {w v : List Token} {c : Option Const} (r : List Token) → ValueAt w v c → ValueAt (w ++ r) (v ++ r) c
value_more r no_value = no_value
value_more r (value b d) = value (word_more _ r b) (const_more r d)

declared_line : (w a b r : List Token) (s : Bool) (d : Declaration) → StaticAt w a s → DeclarationAt a b d → line_at (w ++ r) ≡ line_at w
declared_line w a b r s d shared (declaration {u = u} {t = t} e f g) = line_of_class is_base w r (type_first w u t e)
declared_line w a b r s d (static p) e = line_more w a r _ p

global_more : {w v : List Token} {g : GlobalItem} (r : List Token) → GlobalAt w v g → GlobalAt (w ++ r) (v ++ r) g
global_more r (global {w = w} {a = a} {b = b} {v = v} {s = s} {d = d} {i = i} p q z c) =
    subst (λ l. GlobalAt (w ++ r) (v ++ r) (record { line = l; is_static = s; declaration = d; value = i })) (declared_line w a b r s d p q)
    (global (static_more r p) (declaration_more r q) (value_more r z) (word_more _ r c))

-- ---- heads
result_more : {w v : List Token} {x : ResultBase} (r : List Token) → ResultAt w v x → ResultAt (w ++ r) (v ++ r) x
result_more r (void b) = void (word_more _ r b)
result_more r (typed d) = typed (base_more r d)

result_line : (w v r : List Token) (x : ResultBase) → ResultAt w v x → line_at (w ++ r) ≡ line_at w
result_line w v r x (void b) = line_more w v r _ b
result_line w v r x (typed {b = b} d) = line_of_class is_base w r (base_first w v b d)

started_line : (w a b r : List Token) (s : Bool) (x : ResultBase) → StaticAt w a s → ResultAt a b x → line_at (w ++ r) ≡ line_at w
started_line w a b r s x shared d = result_line w b r x d
started_line w a b r s x (static p) d = line_more w a r _ p

param_more : (r w v : List Token) (p : Param) → ParamAt w v p → ParamAt (w ++ r) (v ++ r) p
param_more r w v p (param {u = u} {t = t} {n = n} d b) =
    subst (λ l. ParamAt (w ++ r) (v ++ r) (record { line = l; type_name = t; name = n })) (line_of_class is_base w r (type_first w u t d)) (param (type_more r d) (word_more _ r b))

further_param_more : (r w v : List Token) (p : Param) → MoreParamAt w v p → MoreParamAt (w ++ r) (v ++ r) p
further_param_more r w v p (more_param b d) = more_param (word_more _ r b) (param_more r _ v p d)

params_more : {w v : List Token} {s : Bool} {ps : List Param} (r : List Token) → ParamsAt w v s ps → ParamsAt (w ++ r) (v ++ r) s ps
params_more r no_param = no_param
params_more r (written_void b) = written_void (word_more _ r b)
params_more r (params {p = p} d e) = params (param_more r _ _ p d) (each_further MoreParamAt r (further_param_more r) e)

head_more : {w v : List Token} {h : Head} (r : List Token) → HeadAt w v h → HeadAt (w ++ r) (v ++ r) h
head_more r (head {w = w} {a = a} {b = b} {v = v} {s = s} {b' = z} {r = x} {ss = ss} {n = n} {ps = ps} p d e f g q c) =
    subst (λ l. HeadAt (w ++ r) (v ++ r) (record { line = l; is_static = s; result = x; stars = ss; name = n; written_void = z; params = ps })) (started_line w a b r s x p d)
    (head (static_more r p) (result_more r d) (stars_more r e) (word_more _ r f) (word_more _ r g) (params_more r q) (word_more _ r c))

-- ---- functions and items
local_more : (r w v : List Token) (x : Local) → LocalAt w v x → LocalAt (w ++ r) (v ++ r) x
local_more r w v x (local {u = u} {t = t} {n = n} d b c) =
    subst (λ l. LocalAt (w ++ r) (v ++ r) (record { line = l; type_name = t; name = n })) (line_of_class is_base w r (type_first w u t d)) (local (type_more r d) (word_more _ r b) (word_more _ r c))

function_more : {w v : List Token} {f : Function} (r : List Token) → FunctionAt w v f → FunctionAt (w ++ r) (v ++ r) f
function_more r (function {w = w} {d = d} {v = v} {h = h} {ls = ls} {ss = ss} p b l s c) =
    subst (λ n. FunctionAt (w ++ r) (v ++ r) (record { head = h; locals = ls; body = ss ++ added_return h n ∷ []; end = n })) (line_more d v r _ c)
    (function (head_more r p) (word_more _ r b) (each_further LocalAt r (local_more r) l) (statements_more r s) (word_more _ r c))

pub item_more : {w v : List Token} {x : Item} (r : List Token) → ItemAt w v x → ItemAt (w ++ r) (v ++ r) x
item_more r (struct_item d) = struct_item (struct_more r d)
item_more r (global_item d) = global_item (global_more r d)
item_more r (function_item d) = function_item (function_more r d)
item_more r (prototype d b) = prototype (head_more r d) (word_more _ r b)
