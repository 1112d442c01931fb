-- The grammar of statements, items and whole texts, worked on small lists of words.
use Rattle.std.proofs.Common.{◌≡◌, ℕ, ◌+◌, true, false, List, [], ◌∷◌, Some, None, map, codes, refl, zero, suc, arith}
use Rattle.c_tree.specs.declared.expressions.Expr.{Expr}
use Rattle.c_tree.specs.declared.expressions.Expr.TheVariants as expr
use Rattle.c_tree.specs.declared.items.Const.TheVariants as const
use Rattle.c_tree.specs.declared.items.Field.TheVariants as field
use Rattle.c_tree.specs.declared.items.Function.{Function}
use Rattle.c_tree.specs.declared.items.GlobalItem.{GlobalItem}
use Rattle.c_tree.specs.declared.items.Item.TheVariants as item
use Rattle.c_tree.specs.declared.items.ResultBase.TheVariants as result
use Rattle.c_tree.specs.declared.items.StructItem.{StructItem}
use Rattle.c_tree.specs.declared.keywords.Keyword.TheVariants as keyword
use Rattle.c_tree.specs.declared.signs.Sign.TheVariants as sign
use Rattle.c_tree.specs.declared.statements.Action.TheVariants as action
use Rattle.c_tree.specs.declared.statements.Body.TheVariants as body
use Rattle.c_tree.specs.declared.statements.Stmt.{Stmt}
use Rattle.c_tree.specs.declared.statements.Stmt.TheVariants as statement
use Rattle.c_tree.specs.declared.types.Base.TheVariants as base
use Rattle.c_tree.specs.declared.words.Suffix.TheVariants as suffix
use Rattle.c_tree.specs.declared.words.Token.{Token}
use Rattle.c_tree.specs.declared.words.Word.TheVariants as word
use Rattle.c_tree.specs.Division.{token}
use Rattle.c_tree.specs.ExpressionGrammar as expressions
use Rattle.c_tree.specs.ExpressionGrammar.{Row, row, last_row, row_end, UnaryExpr, closed, postfix, postfix_end, single}
use Rattle.c_tree.specs.ItemGrammar as items
use Rattle.c_tree.specs.ItemGrammar.{GlobalAt, StructAt, FunctionAt, added_return}
use Rattle.c_tree.specs.Operators.{rows}
use Rattle.c_tree.specs.Reading.{each_end, each_more}
use Rattle.c_tree.specs.StatementGrammar as statements
use Rattle.c_tree.specs.StatementGrammar.{StmtAt}
use Rattle.c_tree.specs.TypeGrammar as types
use Rattle.c_tree.specs.UnitSpelling.{global_words, struct_words}
use Rattle.c_tree.specs.Units.{IsUnit}

-- `static int a[2] = -1;`, the first word alone on line 3
abbrev global_tokens : List Token
global_tokens = token (word.Keyword keyword.Static) 3 ∷ token (word.Keyword keyword.Int) 4 ∷ token (word.Name (codes "a")) 4 ∷ token (word.Sign sign.BracketOpen) 4 ∷ token (word.Number 2 suffix.Plain) 4
    ∷ token (word.Sign sign.BracketClose) 4 ∷ token (word.Sign sign.Assign) 4 ∷ token (word.Sign sign.Minus) 4 ∷ token (word.Number 1 suffix.Plain) 4 ∷ token (word.Sign sign.Semicolon) 4 ∷ []

abbrev global_tree : GlobalItem
global_tree = record {
  line = 3;
  is_static = true;
  declaration = record { type_name = record { base = base.Int; stars = [] }; name = codes "a"; size = Some (record { value = 2; suffix = suffix.Plain }) };
  value = Some (const.Negative (record { value = 1; suffix = suffix.Plain }));
}

global_is_read : GlobalAt global_tokens [] global_tree
global_is_read = items.global (items.static refl) (items.declaration (types.type_name (types.int refl) each_end) refl (items.array refl refl refl)) (items.value refl (items.negative refl refl)) refl

-- `int f(void) {` on line 1, `;` on line 2, `}` on line 3: the return that is added stands on line 3
abbrev function_tokens : List Token
function_tokens = token (word.Keyword keyword.Int) 1 ∷ token (word.Name (codes "f")) 1 ∷ token (word.Sign sign.ParenOpen) 1 ∷ token (word.Keyword keyword.Void) 1 ∷ token (word.Sign sign.ParenClose) 1
    ∷ token (word.Sign sign.BraceOpen) 1 ∷ token (word.Sign sign.Semicolon) 2 ∷ token (word.Sign sign.BraceClose) 3 ∷ []

abbrev function_tree : Function
function_tree = record {
  head = record { line = 1; is_static = false; result = result.Base base.Int; stars = []; name = codes "f"; written_void = true; params = [] };
  locals = [];
  body = statement.Simple (record { line = 2; action = action.Empty })
      ∷ statement.Simple (record { line = 3; action = action.Return (Some (expr.Number (record { value = 0; suffix = suffix.Plain }))) }) ∷ [];
  end = 3;
}

function_is_read : FunctionAt function_tokens [] function_tree
function_is_read = items.function (items.head items.shared (items.typed (types.int refl)) each_end refl refl (items.written_void refl) refl) refl each_end
    (statements.statements (statements.plain (statements.simple (statements.empty refl))) statements.no_statement) refl

unit_is_read : IsUnit function_tokens (record { items = item.Function function_tree ∷ [] })
unit_is_read = each_more (items.function_item function_is_read) each_end

-- the added return of a function without result gives nothing, and of one that gives a pointer to nothing the number 0
returns_nothing : added_return (record { line = 1; is_static = false; result = result.Void; stars = []; name = codes "f"; written_void = true; params = [] }) 9
    ≡ statement.Simple (record { line = 9; action = action.Return None })
returns_nothing = refl

returns_null : added_return (record { line = 1; is_static = false; result = result.Void; stars = record { annotation = None } ∷ []; name = codes "f"; written_void = true; params = [] }) 9
    ≡ statement.Simple (record { line = 9; action = action.Return (Some (expr.Number (record { value = 0; suffix = suffix.Plain }))) })
returns_null = refl

-- `if (a) ; else ;` with its words on lines 1 to 7
abbrev if_tokens : List Token
if_tokens = token (word.Keyword keyword.If) 1 ∷ token (word.Sign sign.ParenOpen) 2 ∷ token (word.Name (codes "a")) 3 ∷ token (word.Sign sign.ParenClose) 4 ∷ token (word.Sign sign.Semicolon) 5
    ∷ token (word.Keyword keyword.Else) 6 ∷ token (word.Sign sign.Semicolon) 7 ∷ []

if_tree : Stmt
if_tree = statement.If 1 (expr.Name (codes "a")) (body.Single (record { line = 5; action = action.Empty })) (Some (body.Single (record { line = 7; action = action.Empty })))

up : (k l : ℕ) {w v : List Token} {x : Expr} → l + k ≡ rows → UnaryExpr w v x → Row l w v x
up zero l e d = last_row (omega arith) d
up (suc k) l e d = row (omega arith) (up k (l + 1) (omega arith) d) row_end

if_is_read : StmtAt if_tokens [] if_tree
unfolding if_tree
if_is_read = statements.if_else (statements.test_at refl refl (closed (up rows 0 refl (expressions.plain (postfix (single (record { word = word.Name (codes "a"); begins = refl; means = refl })) postfix_end))) refl))
    (statements.single (statements.simple (statements.empty refl))) refl (statements.single (statements.simple (statements.empty refl)))

-- a union of one arm: `struct s { int t; union { int x when (t == 1); } u; };`, from line 1, and the fields from line 2 on
abbrev struct_tokens : List Token
struct_tokens = token (word.Keyword keyword.Struct) 1 ∷ token (word.Name (codes "s")) 1 ∷ token (word.Sign sign.BraceOpen) 1
    ∷ token (word.Keyword keyword.Int) 2 ∷ token (word.Name (codes "t")) 2 ∷ token (word.Sign sign.Semicolon) 2
    ∷ token (word.Keyword keyword.Union) 3 ∷ token (word.Sign sign.BraceOpen) 3
    ∷ token (word.Keyword keyword.Int) 4 ∷ token (word.Name (codes "x")) 4 ∷ token (word.Keyword keyword.When) 4 ∷ token (word.Sign sign.ParenOpen) 4 ∷ token (word.Name (codes "t")) 4
    ∷ token (word.Sign sign.Equal) 4 ∷ token (word.Number 1 suffix.Plain) 4 ∷ token (word.Sign sign.ParenClose) 4 ∷ token (word.Sign sign.Semicolon) 4
    ∷ token (word.Sign sign.BraceClose) 5 ∷ token (word.Name (codes "u")) 5 ∷ token (word.Sign sign.Semicolon) 5 ∷ token (word.Sign sign.BraceClose) 6 ∷ token (word.Sign sign.Semicolon) 6 ∷ []

abbrev struct_tree : StructItem
struct_tree = record {
  line = 1;
  name = codes "s";
  fields = field.Plain 2 (record { type_name = record { base = base.Int; stars = [] }; name = codes "t"; size = None })
      ∷ field.Union 3 (record { line = 4; type_name = record { base = base.Int; stars = [] }; name = codes "x"; tag = codes "t"; value = const.Number (record { value = 1; suffix = suffix.Plain }) } ∷ []) (codes "u") ∷ [];
}

struct_is_read : StructAt struct_tokens [] struct_tree
struct_is_read = items.struct refl refl refl (items.plain (items.declaration (types.type_name (types.int refl) each_end) refl items.no_array) refl)
    (each_more (items.union refl refl (items.arm (types.type_name (types.int refl) each_end) refl refl refl refl refl (items.number refl) refl refl) each_end refl refl refl) each_end) refl refl

-- the words of a tree are those that it was read from
global_is_spelled : global_words global_tree ≡ map (λ t. t.word) global_tokens
global_is_spelled = refl

struct_is_spelled : struct_words struct_tree ≡ map (λ t. t.word) struct_tokens
struct_is_spelled = refl
