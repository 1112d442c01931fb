-- The words and the pieces of each form of statement and of body, from those of its parts.
use Rattle.std.proofs.Common.{◌≡◌, ℕ, List, [], ◌∷◌, ◌++◌, flat_map, map, Some, None, refl, ap, sym, ◌∙◌}
use Rattle.c_tree.specs.declared.expressions.Expr.{Expr}
use Rattle.c_tree.specs.declared.keywords.Keyword.TheVariants as keyword
use Rattle.c_tree.specs.declared.signs.Sign.TheVariants as sign
use Rattle.c_tree.specs.declared.statements.Body.{Body}
use Rattle.c_tree.specs.declared.statements.Body.TheOpen.{Body-F, Stmt-F}
use Rattle.c_tree.specs.declared.statements.Body.TheFolds.{fold-roll-Body, fold-roll-Stmt}
use Rattle.c_tree.specs.declared.statements.Body.TheVariants as body
use Rattle.c_tree.specs.declared.statements.Simple.{Simple}
use Rattle.c_tree.specs.declared.statements.Stmt.{Stmt}
use Rattle.c_tree.specs.declared.statements.Stmt.TheVariants as statement
use Rattle.c_tree.specs.declared.words.Word.{Word}
use Rattle.c_tree.specs.Spelling.{spelled, a_keyword, a_sign, in_parentheses}
use Rattle.c_tree.specs.StatementSpelling.{action_words, body_form_words, statement_form_words, body_form_pieces, statement_form_pieces, body_words, statement_words, body_pieces, statement_pieces}

-- ---- the words of each form
pub simple_words : (s : Simple) → statement_words (statement.Simple s) ≡ action_words s.action
simple_words s = ap statement_words (sym (statement.rolls-Simple s)) ∙ fold-roll-Stmt (List Word) (List Word) body_form_words statement_form_words (Stmt-F.Simple s)

pub if_words : (n : ℕ) (x : Expr) (b : Body) → statement_words (statement.If n x b None) ≡ a_keyword keyword.If ++ (in_parentheses (spelled x) ++ (body_words b ++ []))
if_words n x b = ap statement_words (sym (statement.rolls-If n x b None)) ∙ fold-roll-Stmt (List Word) (List Word) body_form_words statement_form_words (Stmt-F.If n x b None)

pub else_words : (n : ℕ) (x : Expr) (b c : Body) → statement_words (statement.If n x b (Some c)) ≡ a_keyword keyword.If ++ (in_parentheses (spelled x) ++ (body_words b ++ (a_keyword keyword.Else ++ body_words c)))
else_words n x b c = ap statement_words (sym (statement.rolls-If n x b (Some c))) ∙ fold-roll-Stmt (List Word) (List Word) body_form_words statement_form_words (Stmt-F.If n x b (Some c))

pub while_words : (n : ℕ) (x : Expr) (b : Body) → statement_words (statement.While n x b) ≡ a_keyword keyword.While ++ (in_parentheses (spelled x) ++ body_words b)
while_words n x b = ap statement_words (sym (statement.rolls-While n x b)) ∙ fold-roll-Stmt (List Word) (List Word) body_form_words statement_form_words (Stmt-F.While n x b)

all_mapped : {X Y : Type 0} (f : X → List Y) (xs : List X) → flat_map (λ s. s) (map f xs) ≡ flat_map f xs
all_mapped f [] = refl
all_mapped f (x ∷ xs) = ap (λ z. f x ++ z) (all_mapped f xs)

pub block_words : (ss : List Stmt) → body_words (body.Block ss) ≡ a_sign sign.BraceOpen ++ (flat_map statement_words ss ++ a_sign sign.BraceClose)
block_words ss = ap body_words (sym (body.rolls-Block ss)) ∙ fold-roll-Body (List Word) (List Word) body_form_words statement_form_words (Body-F.Block ss)
    ∙ ap (λ z. a_sign sign.BraceOpen ++ (z ++ a_sign sign.BraceClose)) (all_mapped statement_words ss)

pub single_words : (s : Simple) → body_words (body.Single s) ≡ action_words s.action
single_words s = ap body_words (sym (body.rolls-Single s)) ∙ fold-roll-Body (List Word) (List Word) body_form_words statement_form_words (Body-F.Single s)

-- ---- the pieces of each form
pub simple_pieces : (s : Simple) → statement_pieces (statement.Simple s) ≡ action_words s.action ∷ []
simple_pieces s = ap statement_pieces (sym (statement.rolls-Simple s)) ∙ fold-roll-Stmt (List (List Word)) (List (List Word)) body_form_pieces statement_form_pieces (Stmt-F.Simple s)

pub if_pieces : (n : ℕ) (x : Expr) (b : Body) → statement_pieces (statement.If n x b None) ≡ spelled x ∷ body_pieces b ++ []
if_pieces n x b = ap statement_pieces (sym (statement.rolls-If n x b None)) ∙ fold-roll-Stmt (List (List Word)) (List (List Word)) body_form_pieces statement_form_pieces (Stmt-F.If n x b None)

pub else_pieces : (n : ℕ) (x : Expr) (b c : Body) → statement_pieces (statement.If n x b (Some c)) ≡ spelled x ∷ body_pieces b ++ body_pieces c
else_pieces n x b c = ap statement_pieces (sym (statement.rolls-If n x b (Some c))) ∙ fold-roll-Stmt (List (List Word)) (List (List Word)) body_form_pieces statement_form_pieces (Stmt-F.If n x b (Some c))

pub while_pieces : (n : ℕ) (x : Expr) (b : Body) → statement_pieces (statement.While n x b) ≡ spelled x ∷ body_pieces b
while_pieces n x b = ap statement_pieces (sym (statement.rolls-While n x b)) ∙ fold-roll-Stmt (List (List Word)) (List (List Word)) body_form_pieces statement_form_pieces (Stmt-F.While n x b)

pub block_pieces : (ss : List Stmt) → body_pieces (body.Block ss) ≡ flat_map statement_pieces ss
block_pieces ss = ap body_pieces (sym (body.rolls-Block ss)) ∙ fold-roll-Body (List (List Word)) (List (List Word)) body_form_pieces statement_form_pieces (Body-F.Block ss) ∙ all_mapped statement_pieces ss

pub single_pieces : (s : Simple) → body_pieces (body.Single s) ≡ action_words s.action ∷ []
single_pieces s = ap body_pieces (sym (body.rolls-Single s)) ∙ fold-roll-Body (List (List Word)) (List (List Word)) body_form_pieces statement_form_pieces (Body-F.Single s)
