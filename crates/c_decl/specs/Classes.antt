-- Classes of words by what they begin in declarations and statements.
use Rattle.std.specs.Prelude.{Bool, true, false}
use Rattle.c_tree.specs.declared.keywords.Keyword.TheVariants as keyword
use Rattle.c_tree.specs.declared.signs.Sign.TheVariants as sign
use Rattle.c_tree.specs.declared.words.Word.{Word}
use Rattle.c_tree.specs.declared.words.Word.TheVariants as word
use Rattle.c_expr.specs.Classes.{is_base, is_expression}

-- `[`, after the name of an array.
abbrev pub is_bracket : Word → Bool
is_bracket (word.Sign sign.BracketOpen) = true
is_bracket _ = false

-- `=`, after the name of a global.
abbrev pub is_assign : Word → Bool
is_assign (word.Sign sign.Assign) = true
is_assign _ = false

-- `,`, after a parameter.
abbrev pub is_comma : Word → Bool
is_comma (word.Sign sign.Comma) = true
is_comma _ = false

-- `static`.
abbrev pub is_static : Word → Bool
is_static (word.Keyword keyword.Static) = true
is_static _ = false

-- `else`.
abbrev pub is_else : Word → Bool
is_else (word.Keyword keyword.Else) = true
is_else _ = false

-- The words that a field begins with: those of types, and `union`.
abbrev pub is_field : Word → Bool
is_field (word.Keyword keyword.Union) = true
is_field k = is_base k

-- The words that a simple statement begins with.
abbrev pub is_action : Word → Bool
is_action (word.Sign sign.Semicolon) = true
is_action (word.Keyword keyword.Return) = true
is_action (word.Keyword keyword.Kfree) = true
is_action (word.Keyword keyword.Zero) = true
is_action k = is_expression k

-- The words that a statement begins with.
abbrev pub is_statement : Word → Bool
is_statement (word.Keyword keyword.If) = true
is_statement (word.Keyword keyword.While) = true
is_statement k = is_action k

-- The words at which statements may go on: those that a statement begins with, and `else`.
abbrev pub is_in_statements : Word → Bool
is_in_statements (word.Keyword keyword.Else) = true
is_in_statements k = is_statement k
