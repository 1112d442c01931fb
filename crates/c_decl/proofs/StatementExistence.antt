-- Each list of words has its longest statement and its body, or none, and the statements that it begins with.
use Rattle.std.proofs.Common.{ℕ, ◌<◌, ◌≤◌, List, [], ◌∷◌, length, Option, None, Some, refl, inl, inr, le_refl, zero, suc, arith}
use Rattle.c_tree.specs.declared.expressions.Expr.{Expr}
use Rattle.c_tree.specs.declared.keywords.Keyword.TheVariants as keyword
use Rattle.c_tree.specs.declared.signs.Sign.TheVariants as sign
use Rattle.c_tree.specs.declared.statements.Body.{Body}
use Rattle.c_tree.specs.declared.statements.Body.TheVariants as body
use Rattle.c_tree.specs.declared.statements.Simple.{Simple}
use Rattle.c_tree.specs.declared.statements.Stmt.{Stmt}
use Rattle.c_tree.specs.declared.statements.Stmt.TheVariants as statement
use Rattle.c_tree.specs.declared.words.Token.{Token}
use Rattle.c_tree.specs.declared.words.Word.TheVariants as word
use Rattle.c_tree.specs.ExpressionGrammar.{Closed}
use Rattle.c_tree.specs.Reading.{Begins, Best, Never, line_at}
use Rattle.c_tree.specs.StatementGrammar.{SimpleAt, BodyAt, StmtAt, StmtsAt}
use Rattle.c_expr.specs.Classes.{At}
use Rattle.c_expr.specs.Looking.{Lacks}
use Rattle.c_expr.proofs.Begins.{begins_shrinks}
use Rattle.c_expr.proofs.Looks.{Sees, sees_open, sees_close}
use Rattle.c_decl.specs.Classes.{is_else, is_in_statements}
use Rattle.c_decl.specs.Parts.{TestAfter, ElseAt, IfAfter, WhileAfter}
use Rattle.c_decl.specs.Sequences.{Then, Given}
use Rattle.c_decl.proofs.ActionExistence.{closed_found, simple_found}
use Rattle.c_decl.proofs.Existence.{Found, Held, fewer_more, behind_more, then_found, before_found, given_found, sees_brace, sees_brace_close, sees_if, sees_else, sees_while}
use Rattle.c_decl.proofs.LongestStatement.{else_none, else_stuck, else_some, if_untested, if_empty, if_some, statement_of_if, statement_of_while, statement_none, statement_simple, body_none, body_single, body_open, body_block, statements_none, statements_on}

test_found : (w : List Token) → Found TestAfter Never w
test_found w =
    before_found (Closed sign.ParenClose) (word.Sign sign.ParenOpen) Never w (length w) (sees_open w)
    (λ u h. behind_more (Closed sign.ParenClose) Never u (length u) (length w) (omega arith) (closed_found sign.ParenClose u refl sees_close))

-- ---- bodies
closed_body : (w u : List Token) → Begins w (word.Sign sign.BraceOpen) u → (a : List Stmt × List Token) → Best {X = List Stmt} (StmtsAt u) (At is_in_statements) (Some a) → length a.1 ≤ length u
    → Sees a.1 (word.Sign sign.BraceClose) → Found BodyAt Never w
closed_body w u b a best h (inl (v, c)) =
    let one = begins_shrinks w b in
    let two = begins_shrinks a.1 c in
    (Some (body.Block a.0, v), body_block w u a.1 v a.0 b best c, omega arith)
closed_body w u b a best h (inr lacks) = (None, body_open w u a.1 a.0 b best lacks, tt)

block_by : (w u : List Token) → Begins w (word.Sign sign.BraceOpen) u → Held {X = List Stmt} StmtsAt (At is_in_statements) u → Found BodyAt Never w
block_by w u b (a, best, h) = closed_body w u b a best h (sees_brace_close a.1)

single_by : (w : List Token) → Lacks w (word.Sign sign.BraceOpen) → Found {X = Simple} SimpleAt Never w → Found BodyAt Never w
single_by w lacks (None, best, f) = (None, body_none w lacks best, tt)
single_by w lacks (Some a, best, f) = (Some (body.Single a.0, a.1), body_single w a.1 a.0 lacks best, f)

body_by : (w : List Token) → ((u : List Token) → length u < length w → Held {X = List Stmt} StmtsAt (At is_in_statements) u) → Sees w (word.Sign sign.BraceOpen) → Found BodyAt Never w
body_by w inside (inl (u, b)) = block_by w u b (inside u (begins_shrinks w b))
body_by w inside (inr lacks) = single_by w lacks (simple_found w)

-- ---- `else`
other_by : (w u : List Token) → Begins w (word.Keyword keyword.Else) u → Found BodyAt Never u → Held {X = Option Body} ElseAt (At is_else) w
other_by w u b (None, best, f) = ((None, w), else_stuck w u b best, le_refl (length w))
other_by w u b (Some a, best, f) =
    let one = begins_shrinks w b in
    let fewer : length a.1 < length w = omega (arith, f) in
    ((Some a.0, a.1), else_some w u a.1 a.0 b fewer best, omega arith)

else_by : (w : List Token) → ((u : List Token) → length u < length w → Found BodyAt Never u) → Sees w (word.Keyword keyword.Else) → Held {X = Option Body} ElseAt (At is_else) w
else_by w inside (inl (u, b)) = other_by w u b (inside u (begins_shrinks w b))
else_by w inside (inr lacks) = ((None, w), else_none w lacks, le_refl (length w))

-- ---- `if` and `while`, behind the word
chosen_by : (line : ℕ) (w u : List Token) (x : Expr) → Best (TestAfter w) Never (Some (x, u)) → length u < length w → ((v : List Token) → length v < length w → Held {X = Option Body} ElseAt (At is_else) v)
    → Found BodyAt Never u → Found (IfAfter line) (At is_else) w
chosen_by line w u x test h other (None, best, f) = (None, if_empty line w u x test best, tt)
chosen_by line w u x test h other (Some a, best, f) =
    let z = other a.1 (omega (arith, f)) in
    let size = z.2 in
    (Some (statement.If line x a.0 z.0.0, z.0.1), if_some line w u a.1 z.0.1 x a.0 z.0.0 test best z.1, omega (arith, f))

tested_by : (line : ℕ) (w : List Token) → ((u : List Token) → length u < length w → Found BodyAt Never u) → ((v : List Token) → length v < length w → Held {X = Option Body} ElseAt (At is_else) v)
    → Found TestAfter Never w → Found (IfAfter line) (At is_else) w
tested_by line w inside other (None, best, f) = (None, if_untested line w best, tt)
tested_by line w inside other (Some a, best, f) = chosen_by line w a.1 a.0 best f other (inside a.1 f)

while_by : (line : ℕ) (w : List Token) → ((u : List Token) → length u < length w → Found BodyAt Never u) → Found (WhileAfter line) Never w
while_by line w inside =
    then_found TestAfter (λ x. Then BodyAt (λ y. Given (statement.While line x y))) Never Never w (length w) (length w) (λ y q v z n b. n) (test_found w)
    (λ x u h. then_found BodyAt (λ y. Given (statement.While line x y)) Never Never u (length u) (length w) (λ y q v z n b. n) (inside u h)
    (λ y v k. given_found (statement.While line x y) v (length w) (omega arith)))

-- ---- statements
plain_by : (w : List Token) → Lacks w (word.Keyword keyword.If) → Lacks w (word.Keyword keyword.While) → Found {X = Simple} SimpleAt Never w → Found StmtAt (At is_else) w
plain_by w no_if no_while (None, best, f) = (None, statement_none w no_if no_while best, tt)
plain_by w no_if no_while (Some a, best, f) = (Some (statement.Simple a.0, a.1), statement_simple w a.1 a.0 no_if no_while best, f)

after_while : (w u : List Token) → Begins w (word.Keyword keyword.While) u → Found (WhileAfter (line_at w)) Never u → Found StmtAt (At is_else) w
after_while w u b (o, best, f) = (o, statement_of_while w u (line_at w) o refl b best, fewer_more (length u) (length w) o (let one = begins_shrinks w b in omega arith) f)

after_if : (w u : List Token) → Begins w (word.Keyword keyword.If) u → Found (IfAfter (line_at w)) (At is_else) u → Found StmtAt (At is_else) w
after_if w u b (o, best, f) = (o, statement_of_if w u (line_at w) o refl b best, fewer_more (length u) (length w) o (let one = begins_shrinks w b in omega arith) f)

repeated_by : (w : List Token) → ((u : List Token) → length u < length w → Found BodyAt Never u) → Lacks w (word.Keyword keyword.If) → Sees w (word.Keyword keyword.While) → Found StmtAt (At is_else) w
repeated_by w inside no_if (inl (u, b)) = let one = begins_shrinks w b in after_while w u b (while_by (line_at w) u (λ v h. inside v (omega arith)))
repeated_by w inside no_if (inr lacks) = plain_by w no_if lacks (simple_found w)

statement_by : (w : List Token) → ((u : List Token) → length u < length w → Found BodyAt Never u) → ((v : List Token) → length v < length w → Held {X = Option Body} ElseAt (At is_else) v)
    → Sees w (word.Keyword keyword.If) → Found StmtAt (At is_else) w
statement_by w inside other (inl (u, b)) =
    let one = begins_shrinks w b in
    after_if w u b (tested_by (line_at w) u (λ v h. inside v (omega arith)) (λ v h. other v (omega arith)) (test_found u))
statement_by w inside other (inr lacks) = repeated_by w inside lacks (sees_while w)

statements_by : (w : List Token) → ((u : List Token) → length u < length w → Held {X = List Stmt} StmtsAt (At is_in_statements) u) → Found StmtAt (At is_else) w
    → Held {X = List Stmt} StmtsAt (At is_in_statements) w
statements_by w again (None, best, f) = (([], w), statements_none w best, le_refl (length w))
statements_by w again (Some a, best, f) =
    let more = again a.1 f in
    let size = more.2 in
    ((a.0 ∷ more.0.0, more.0.1), statements_on w a.1 a.0 more.0 f more.2 best more.1, omega (arith, f))

-- ---- all of them, by the number of words
record Statements (w : List Token) : Type 0 where
  body : Found BodyAt Never w
  other : Held {X = Option Body} ElseAt (At is_else) w
  statements : Held {X = List Stmt} StmtsAt (At is_in_statements) w

here : (w : List Token) → ((u : List Token) → length u < length w → Statements u) → Statements w
here w below =
    let one : Found BodyAt Never w = body_by w (λ u h. (below u h).statements) (sees_brace w) in
    let first : Found StmtAt (At is_else) w = statement_by w (λ u h. (below u h).body) (λ u h. (below u h).other) (sees_if w) in
    record {
      body = one;
      other = else_by w (λ u h. (below u h).body) (sees_else w);
      statements = statements_by w (λ u h. (below u h).statements) first;
    }

by_length : (n : ℕ) (w : List Token) → length w < n → Statements w
by_length zero w h = absurd (omega arith)
by_length (suc n) w h = here w (λ u fewer. by_length n u (omega arith))

pub statements_found : (w : List Token) → Held {X = List Stmt} StmtsAt (At is_in_statements) w
statements_found w = (by_length (suc (length w)) w (omega arith)).statements
