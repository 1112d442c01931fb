-- The words of statements and bodies, in order, and the pieces of them that the limits speak of.
use Rattle.std.specs.Prelude.{ℕ, List, [], ◌∷◌, ◌++◌, Option, None, Some, flat_map}
use Rattle.c_tree.specs.declared.expressions.Expr.{Expr}
use Rattle.c_tree.specs.declared.keywords.Keyword.TheVariants as keyword
use Rattle.c_tree.specs.declared.signs.Sign.TheVariants as sign
use Rattle.c_tree.specs.declared.statements.Action.{Action}
use Rattle.c_tree.specs.declared.statements.Action.TheVariants as action
use Rattle.c_tree.specs.declared.statements.Body.{Body}
use Rattle.c_tree.specs.declared.statements.Body.TheOpen.{Body-F, Stmt-F}
use Rattle.c_tree.specs.declared.statements.Body.TheFolds.{fold-Body, fold-Stmt}
use Rattle.c_tree.specs.declared.statements.Stmt.{Stmt}
use Rattle.c_tree.specs.declared.words.Word.{Word}
use Rattle.c_tree.specs.Spelling.{a_sign, a_keyword, a_name, in_parentheses, type_words, spelled}

-- The words of expressions that stand behind a first one, each with the comma before it.
abbrev pub more_arguments_words : List Expr → List Word
more_arguments_words [] = []
more_arguments_words (x ∷ xs) = a_sign sign.Comma ++ (spelled x ++ more_arguments_words xs)

-- The words of arguments.
abbrev pub arguments_words : List Expr → List Word
arguments_words [] = []
arguments_words (x ∷ xs) = spelled x ++ more_arguments_words xs

-- A name and `=`, where there is a name.
abbrev pub target_words : Option (List ℕ) → List Word
target_words None = []
target_words (Some n) = a_name n ++ a_sign sign.Assign

-- The words of the value of a `return`, where there is one.
abbrev pub value_words : Option Expr → List Word
value_words None = []
value_words (Some x) = spelled x

-- The words of a simple statement, with the `;` that ends it.
abbrev pub action_words : Action → List Word
action_words (action.Assign x y) = spelled x ++ (a_sign sign.Assign ++ (spelled y ++ a_sign sign.Semicolon))
action_words (action.Call t f xs) = target_words t ++ (a_name f ++ (in_parentheses (arguments_words xs) ++ a_sign sign.Semicolon))
action_words (action.Kalloc n t x) = target_words (Some n) ++ (a_keyword keyword.Kalloc ++ (in_parentheses (type_words t ++ (a_sign sign.Comma ++ spelled x)) ++ a_sign sign.Semicolon))
action_words (action.Kfree x) = a_keyword keyword.Kfree ++ (in_parentheses (spelled x) ++ a_sign sign.Semicolon)
action_words (action.Zero x) = a_keyword keyword.Zero ++ (in_parentheses (spelled x) ++ a_sign sign.Semicolon)
action_words (action.Return x) = a_keyword keyword.Return ++ (value_words x ++ a_sign sign.Semicolon)
action_words action.Empty = a_sign sign.Semicolon

-- The words of `else` with its body, where there is one.
abbrev pub otherwise_words : Option (List Word) → List Word
otherwise_words None = []
otherwise_words (Some b) = a_keyword keyword.Else ++ b

-- The words of a body and of a statement, from those of their parts.
abbrev pub body_form_words : Body-F (List Word) (List Word) → List Word
body_form_words (Body-F.Block ss) = a_sign sign.BraceOpen ++ (flat_map (λ s. s) ss ++ a_sign sign.BraceClose)
body_form_words (Body-F.Single s) = action_words s.action

abbrev pub statement_form_words : Stmt-F (List Word) (List Word) → List Word
statement_form_words (Stmt-F.Simple s) = action_words s.action
statement_form_words (Stmt-F.If n x b o) = a_keyword keyword.If ++ (in_parentheses (spelled x) ++ (b ++ otherwise_words o))
statement_form_words (Stmt-F.While n x b) = a_keyword keyword.While ++ (in_parentheses (spelled x) ++ b)

-- The words of a body.
abbrev pub body_words : Body → List Word
body_words = fold-Body (List Word) (List Word) body_form_words statement_form_words

-- The words of a statement.
abbrev pub statement_words : Stmt → List Word
statement_words = fold-Stmt (List Word) (List Word) body_form_words statement_form_words

-- The pieces of the body behind `else`, where there is one.
abbrev pub otherwise_pieces : Option (List (List Word)) → List (List Word)
otherwise_pieces None = []
otherwise_pieces (Some b) = b

-- The simple statements and the conditions of a body and of a statement, from those of their parts.
abbrev pub body_form_pieces : Body-F (List (List Word)) (List (List Word)) → List (List Word)
body_form_pieces (Body-F.Block ss) = flat_map (λ s. s) ss
body_form_pieces (Body-F.Single s) = action_words s.action ∷ []

abbrev pub statement_form_pieces : Stmt-F (List (List Word)) (List (List Word)) → List (List Word)
statement_form_pieces (Stmt-F.Simple s) = action_words s.action ∷ []
statement_form_pieces (Stmt-F.If n x b o) = spelled x ∷ b ++ otherwise_pieces o
statement_form_pieces (Stmt-F.While n x b) = spelled x ∷ b

-- The simple statements and the conditions of a body, each by its words.
abbrev pub body_pieces : Body → List (List Word)
body_pieces = fold-Body (List (List Word)) (List (List Word)) body_form_pieces statement_form_pieces

-- The simple statements and the conditions of a statement, each by its words.
abbrev pub statement_pieces : Stmt → List (List Word)
statement_pieces = fold-Stmt (List (List Word)) (List (List Word)) body_form_pieces statement_form_pieces
