-- What no rule derives in a body: a simple statement or a condition in it, behind some checks of its function, and the line on which it
-- stands.
use Rattle.std.specs.Prelude.{◌≡◌, ℕ, List, [], ◌∷◌, Option, Some, None}
use Rattle.c_tree.specs.declared.expressions.Expr.{Expr}
use Rattle.c_tree.specs.declared.statements.Body.{Body}
use Rattle.c_tree.specs.declared.statements.Body.TheVariants as body
use Rattle.c_tree.specs.declared.statements.Simple.{Simple}
use Rattle.c_tree.specs.declared.statements.Stmt.{Stmt}
use Rattle.c_tree.specs.declared.statements.Stmt.TheVariants as statement
use Rattle.deputy_rules.specs.Checking.{Fault, NoRule}
use Rattle.deputy_rules.specs.Context.{Context}
use Rattle.deputy_rules.specs.Numbering.{Numbered}
use Rattle.deputy_rules.specs.Statements.{Home, act, controlling, statement_context}

mutual
  -- in a statement
  pub data Unruled (ctx : Context) (home : Home) : Stmt → ℕ → Type 0 where
    simple : {s : Simple} {line : ℕ} (before : Numbered) → line ≡ s.line → act (statement_context ctx s.line before) home s.action [] ≡ None
        → Unruled ctx home (statement.Simple s) line
    if_condition : {line : ℕ} {e : Expr} {a : Body} (o : Option Body) (before : Numbered)
        → controlling (statement_context ctx line before) e [] ≡ None
        → Unruled ctx home (statement.If line e a o) line
    if_holds : {n line : ℕ} {e : Expr} {a : Body} (o : Option Body) → UnruledBody ctx home a line
        → Unruled ctx home (statement.If n e a o) line
    if_fails : {n line : ℕ} {e : Expr} {a : Body} (c : Body) → UnruledBody ctx home c line
        → Unruled ctx home (statement.If n e a (Some c)) line
    while_condition : {line : ℕ} {e : Expr} {a : Body} (before : Numbered) → controlling (statement_context ctx line before) e [] ≡ None
        → Unruled ctx home (statement.While line e a) line
    while_body : {n line : ℕ} {e : Expr} {a : Body} → UnruledBody ctx home a line → Unruled ctx home (statement.While n e a) line

  -- in a body
  pub data UnruledBody (ctx : Context) (home : Home) : Body → ℕ → Type 0 where
    block : {ss : List Stmt} {line : ℕ} → UnruledIn ctx home ss line → UnruledBody ctx home (body.Block ss) line
    single : {s : Simple} {line : ℕ} (before : Numbered) → line ≡ s.line → act (statement_context ctx s.line before) home s.action [] ≡ None
        → UnruledBody ctx home (body.Single s) line

  -- in one of these statements
  pub data UnruledIn (ctx : Context) (home : Home) : List Stmt → ℕ → Type 0 where
    first : {s : Stmt} {ss : List Stmt} {line : ℕ} → Unruled ctx home s line → UnruledIn ctx home (s ∷ ss) line
    later : {s : Stmt} {ss : List Stmt} {line : ℕ} → UnruledIn ctx home ss line → UnruledIn ctx home (s ∷ ss) line

-- a fault that tells the line of what no rule derives
abbrev pub Tells : (ℕ → Type 0) → Fault → Type 0
Tells R e = (line : ℕ) × (e ≡ NoRule line) × R line
