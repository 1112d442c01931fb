-- The grammar of statements and bodies (C99, 6.8), one constructor for each alternative. Each relation says that the words
-- w begin with a phrase of that meaning, and that v is what stands after it.
use Rattle.std.specs.Prelude.{ℕ, List, [], ◌∷◌, None, Some}
use Rattle.c_tree.specs.declared.expressions.Expr.{Expr}
use Rattle.c_tree.specs.declared.keywords.Keyword.TheVariants as keyword
use Rattle.c_tree.specs.declared.signs.Sign.TheVariants as sign
use Rattle.c_tree.specs.declared.statements.Action.{Action}
use Rattle.c_tree.specs.declared.statements.Action.TheVariants as action
use Rattle.c_tree.specs.declared.statements.Body.{Body}
use Rattle.c_tree.specs.declared.statements.Body.TheVariants as body
use Rattle.c_tree.specs.declared.statements.Simple.{Simple}
use Rattle.c_tree.specs.declared.statements.Stmt.{Stmt}
use Rattle.c_tree.specs.declared.statements.Stmt.TheVariants as statement
use Rattle.c_tree.specs.declared.types.TypeName.{TypeName}
use Rattle.c_tree.specs.declared.words.Token.{Token}
use Rattle.c_tree.specs.declared.words.Word.{Word}
use Rattle.c_tree.specs.declared.words.Word.TheVariants as word
use Rattle.c_tree.specs.ExpressionGrammar.{UnaryExpr, Closed}
use Rattle.c_tree.specs.Reading.{Begins, Enclosed, line_at}
use Rattle.c_tree.specs.TypeGrammar.{TypeNameAt}

-- Arguments with the parenthesis that closes them: [Expr (',' Expr)*] ')'.
mutual
  pub data ArgumentsAt : List Token → List Token → List Expr → Type 0 where
    no_argument : {w v : List Token} → Begins w (word.Sign sign.ParenClose) v → ArgumentsAt w v []
    arguments : {w v : List Token} {xs : List Expr} → MoreArgumentsAt w v xs → ArgumentsAt w v xs

  pub data MoreArgumentsAt : List Token → List Token → List Expr → Type 0 where
    last_argument : {w v : List Token} {x : Expr} → Closed sign.ParenClose w v x → MoreArgumentsAt w v (x ∷ [])
    argument : {w u v : List Token} {x : Expr} {xs : List Expr} → Closed sign.Comma w u x → MoreArgumentsAt u v xs → MoreArgumentsAt w v (x ∷ xs)

-- NAME '('.
pub data CallAt : List Token → List Token → List ℕ → Type 0 where
  call_at : {w u v : List Token} {n : List ℕ} → Begins w (word.Name n) u → Begins u (word.Sign sign.ParenOpen) v → CallAt w v n

-- NAME '='.
pub data TargetAt : List Token → List Token → List ℕ → Type 0 where
  target_at : {w u v : List Token} {n : List ℕ} → Begins w (word.Name n) u → Begins u (word.Sign sign.Assign) v → TargetAt w v n

-- ';'.
abbrev pub Ends : List Token → List Token → Type 0
Ends w v = Begins w (word.Sign sign.Semicolon) v

-- What a simple statement does, with the ';' that ends it.
pub data ActionAt : List Token → List Token → Action → Type 0 where
  assign : {w u r v : List Token} {x y : Expr} → UnaryExpr w u x → Begins u (word.Sign sign.Assign) r → Closed sign.Semicolon r v y → ActionAt w v (action.Assign x y)
  call : {w u r v : List Token} {f : List ℕ} {xs : List Expr} → CallAt w u f → ArgumentsAt u r xs → Ends r v → ActionAt w v (action.Call None f xs)
  call_to : {w t u r v : List Token} {x f : List ℕ} {xs : List Expr} → TargetAt w t x → CallAt t u f → ArgumentsAt u r xs → Ends r v
      → ActionAt w v (action.Call (Some x) f xs)
  kalloc : {w t u o r c d v : List Token} {x : List ℕ} {e : TypeName} {y : Expr} → TargetAt w t x → Begins t (word.Keyword keyword.Kalloc) u → Begins u (word.Sign sign.ParenOpen) o
      → TypeNameAt o r e → Begins r (word.Sign sign.Comma) c → Closed sign.ParenClose c d y → Ends d v → ActionAt w v (action.Kalloc x e y)
  kfree : {w u o r v : List Token} {x : Expr} → Begins w (word.Keyword keyword.Kfree) u → Begins u (word.Sign sign.ParenOpen) o → Closed sign.ParenClose o r x → Ends r v
      → ActionAt w v (action.Kfree x)
  zero : {w u r v : List Token} {x : Expr} → Begins w (word.Keyword keyword.Zero) u → Enclosed UnaryExpr u r x → Ends r v → ActionAt w v (action.Zero x)
  return_value : {w u v : List Token} {x : Expr} → Begins w (word.Keyword keyword.Return) u → Closed sign.Semicolon u v x → ActionAt w v (action.Return (Some x))
  return_alone : {w u v : List Token} → Begins w (word.Keyword keyword.Return) u → Ends u v → ActionAt w v (action.Return None)
  empty : {w v : List Token} → Ends w v → ActionAt w v action.Empty

-- A simple statement carries the line of its first word.
pub data SimpleAt : List Token → List Token → Simple → Type 0 where
  simple : {w v : List Token} {a : Action} → ActionAt w v a → SimpleAt w v (record { line = line_at w; action = a })

-- A word and an expression in parentheses, as `if (x)`.
pub data TestAt : Word → List Token → List Token → Expr → Type 0 where
  test_at : {k : Word} {w u o v : List Token} {x : Expr} → Begins w k u → Begins u (word.Sign sign.ParenOpen) o → Closed sign.ParenClose o v x → TestAt k w v x

mutual
  -- Stmt: a simple statement, 'if' with 'else' or without, or 'while', with the line of its first word.
  pub data StmtAt : List Token → List Token → Stmt → Type 0 where
    plain : {w v : List Token} {s : Simple} → SimpleAt w v s → StmtAt w v (statement.Simple s)
    if_alone : {w u v : List Token} {x : Expr} {y : Body} → TestAt (word.Keyword keyword.If) w u x → BodyAt u v y → StmtAt w v (statement.If (line_at w) x y None)
    if_else : {w u r k v : List Token} {x : Expr} {y z : Body} → TestAt (word.Keyword keyword.If) w u x → BodyAt u r y → Begins r (word.Keyword keyword.Else) k → BodyAt k v z
        → StmtAt w v (statement.If (line_at w) x y (Some z))
    while : {w u v : List Token} {x : Expr} {y : Body} → TestAt (word.Keyword keyword.While) w u x → BodyAt u v y → StmtAt w v (statement.While (line_at w) x y)

  -- Body: statements in braces, or a simple statement.
  pub data BodyAt : List Token → List Token → Body → Type 0 where
    block : {w u r v : List Token} {ss : List Stmt} → Begins w (word.Sign sign.BraceOpen) u → StmtsAt u r ss → Begins r (word.Sign sign.BraceClose) v → BodyAt w v (body.Block ss)
    single : {w v : List Token} {s : Simple} → SimpleAt w v s → BodyAt w v (body.Single s)

  -- Any number of statements.
  pub data StmtsAt : List Token → List Token → List Stmt → Type 0 where
    no_statement : {w : List Token} → StmtsAt w w []
    statements : {w u v : List Token} {t : Stmt} {ss : List Stmt} → StmtAt w u t → StmtsAt u v ss → StmtsAt w v (t ∷ ss)
