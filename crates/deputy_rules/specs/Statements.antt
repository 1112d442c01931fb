-- Statements and bodies: each with its checks, which are numbered when the statement ends; and the line of the first that no rule derives.
use Rattle.std.specs.Prelude.{ℕ, List, [], ◌∷◌, length, Option, Some, None, Ok, Err, Result, option_map}
use Rattle.c_tree.specs.declared.expressions.Expr.{Expr}
use Rattle.c_tree.specs.declared.statements.Action.{Action}
use Rattle.c_tree.specs.declared.statements.Action.TheVariants as action
use Rattle.c_tree.specs.declared.statements.Body.{Body}
use Rattle.c_tree.specs.declared.statements.Body.TheOpen.{Body-F, Stmt-F}
use Rattle.c_tree.specs.declared.statements.Body.TheFolds.{fold-Body, fold-Stmt}
use Rattle.c_tree.specs.declared.statements.Simple.{Simple}
use Rattle.c_tree.specs.declared.statements.Stmt.{Stmt}
use Rattle.checked_tree.specs.declared.expressions.CheckedExpr.{CheckedExpr}
use Rattle.checked_tree.specs.declared.expressions.CheckedExpr.TheVariants as form
use Rattle.checked_tree.specs.declared.shapes.Shape.{Shape}
use Rattle.checked_tree.specs.declared.statements.CheckedStmt.{CheckedStmt}
use Rattle.checked_tree.specs.declared.statements.CheckedStmt.TheVariants as statement
use Rattle.deputy_rules.specs.declared.asked.Asked.{Asked}
use Rattle.deputy_rules.specs.declared.derived.Derived.{Derived}
use Rattle.deputy_rules.specs.declared.derived.Derived.TheVariants as derived
use Rattle.deputy_rules.specs.declared.derived.UnionPlace.{UnionPlace}
use Rattle.deputy_rules.specs.declared.derived.Value.{Value}
use Rattle.deputy_rules.specs.declared.derived.Value.TheVariants as value
use Rattle.deputy_rules.specs.declared.signature.Returned.{Returned}
use Rattle.deputy_rules.specs.declared.signature.Returned.TheVariants as returned
use Rattle.deputy_rules.specs.declared.signature.Signature.{Signature}
use Rattle.deputy_rules.specs.Assignment.{assign}
use Rattle.deputy_rules.specs.Calls.{pass, passed_argument, coerce_value, call, kalloc, kfree}
use Rattle.deputy_rules.specs.Checking.{Fault, NoRule, Checking, ◌>>>◌, done, in_turn}
use Rattle.deputy_rules.specs.Context.{Context}
use Rattle.deputy_rules.specs.Expressions.{derive, expression}
use Rattle.deputy_rules.specs.Deriving.{Deriving, ◌>>=◌, pure, none, lift}
use Rattle.deputy_rules.specs.Numbering.{Numbered, numbered}
use Rattle.deputy_types.specs.Options.{and_then}
use Rattle.deputy_types.specs.Table.{union_shape}
use Rattle.deputy_rules.specs.Values.{value_of, of_slots}

-- where a body stands: the functions of the text, and the result of its own
pub record Home : Type 0 where
  pub functions : List Signature
  pub result : Returned

-- `zero(l)`: all bytes of a union place become 0
abbrev pub clear : Context → UnionPlace → ℕ → ℕ → CheckedStmt
clear ctx p offset size = statement.Zero ctx.line (form.Field p.container offset []) size

unfoldable pub zero_of : Context → Derived → Deriving CheckedStmt
zero_of ctx (derived.Union p) = lift (union_shape ctx.table p.structure p.part) >>= λ u. pure (clear ctx p u.offset u.size)
zero_of ctx (derived.Local slot) = none
zero_of ctx (derived.Place p) = none
zero_of ctx (derived.Value v) = none
zero_of ctx (derived.Array a) = none

-- `zero(l)`
unfoldable pub zero : Context → Expr → Deriving CheckedStmt
zero ctx l = derive ctx l >>= zero_of ctx

-- the value of a `return`, with the conversion or coercion to the result's type
unfoldable pub return_value : Context → Shape → Expr → Deriving CheckedStmt
return_value ctx s e = derive ctx e >>= λ x. lift (pass ctx s x) >>= λ a. coerce_value ctx of_slots s a >>= λ ids.
    pure (statement.Return ctx.line (Some (passed_argument a)) ids)

-- `return` alone stands in a `void` function, and with a value in any other
unfoldable pub return_from : Context → Returned → Option Expr → Deriving CheckedStmt
return_from ctx returned.Nothing None = pure (statement.Return ctx.line None [])
return_from ctx returned.Nothing (Some e) = none
return_from ctx (returned.Value s) None = none
return_from ctx (returned.Value s) (Some e) = return_value ctx s e

-- a simple statement
unfoldable pub act : Context → Home → Action → Deriving CheckedStmt
act ctx home (action.Assign l e) = assign ctx l e
act ctx home (action.Call x name es) = call ctx home.functions x name es
act ctx home (action.Kalloc x t e) = kalloc ctx x t e
act ctx home (action.Kfree e) = kfree ctx e
act ctx home (action.Zero l) = zero ctx l
act ctx home (action.Return e) = return_from ctx home.result e
act ctx home action.Empty = pure (statement.Empty ctx.line)

-- the controlling expression of an `if` or `while` (C99 6.8.4): an integer or pointer expression
abbrev pub test_form : Value → Option CheckedExpr
test_form (value.Int w) = Some w.form
test_form (value.Pointer p) = Some p.form
test_form value.Null = None

unfoldable pub controlling : Context → Expr → Deriving CheckedExpr
controlling ctx e = derive ctx e >>= λ d. lift (and_then (value_of ctx d) test_form)

-- what is derived at a line, and then the numbers of its checks and atoms
abbrev pub with_numbers : {A : Type 0} → ℕ → A → Option Numbered → Result (A × Numbered) Fault
with_numbers line a None = Err (NoRule line)
with_numbers line a (Some n) = Ok (a, n)

abbrev pub numbered_at : {A : Type 0} → ℕ → Numbered → Option (A × List Asked) → Result (A × Numbered) Fault
numbered_at line b None = Err (NoRule line)
numbered_at line b (Some r) = with_numbers line r.0 (numbered r.1 b)

-- the context of a statement: its line, and the number of checks before it
abbrev pub statement_context : Context → ℕ → Numbered → Context
statement_context ctx line b = record ctx { line = line; first = length b.checks }

abbrev pub at_line : {A : Type 0} → Context → ℕ → (Context → Deriving A) → Checking Numbered A
at_line ctx line p = λ b. numbered_at line b (p (statement_context ctx line b) [])

-- an expression by itself, at the line of its context
unfoldable pub expression_alone : Context → Expr → Checking Numbered CheckedExpr
expression_alone ctx e = at_line ctx ctx.line (λ c. expression c e)

unfoldable pub simple : Context → Home → Simple → Checking Numbered CheckedStmt
simple ctx home s = at_line ctx s.line (λ c. act c home s.action)

unfoldable pub condition : Context → ℕ → Expr → Checking Numbered CheckedExpr
condition ctx line e = at_line ctx line (λ c. controlling c e)

-- a body that may be missing
abbrev pub otherwise : Option (Checking Numbered (List CheckedStmt)) → Checking Numbered (List CheckedStmt)
otherwise None = done []
otherwise (Some p) = p

-- an `if`, and a `while`, with the derivations of their bodies
abbrev pub if_level : Context → ℕ → Expr → Checking Numbered (List CheckedStmt) → Checking Numbered (List CheckedStmt)
    → Checking Numbered CheckedStmt
if_level ctx line e a b = condition ctx line e >>> λ x. a >>> λ holds. b >>> λ fails. done (statement.If line x holds fails)

abbrev pub while_level : Context → ℕ → Expr → Checking Numbered (List CheckedStmt) → Checking Numbered CheckedStmt
while_level ctx line e a = condition ctx line e >>> λ x. a >>> λ body. done (statement.While line x body)

-- a body that is one simple statement
unfoldable pub single : Context → Home → Simple → Checking Numbered (List CheckedStmt)
single ctx home s = simple ctx home s >>> λ x. done (x ∷ [])

-- one level of a body and of a statement
abbrev pub body_level : Context → Home → Body-F (Checking Numbered (List CheckedStmt)) (Checking Numbered CheckedStmt)
    → Checking Numbered (List CheckedStmt)
body_level ctx home (Body-F.Block ss) = in_turn ss []
body_level ctx home (Body-F.Single s) = single ctx home s

abbrev pub statement_level : Context → Home → Stmt-F (Checking Numbered (List CheckedStmt)) (Checking Numbered CheckedStmt)
    → Checking Numbered CheckedStmt
statement_level ctx home (Stmt-F.Simple s) = simple ctx home s
statement_level ctx home (Stmt-F.If line e a b) = if_level ctx line e a (otherwise b)
statement_level ctx home (Stmt-F.While line e a) = while_level ctx line e a

-- a statement, and a body
unfoldable pub check_statement : Context → Home → Stmt → Checking Numbered CheckedStmt
check_statement ctx home =
    fold-Stmt (Checking Numbered (List CheckedStmt)) (Checking Numbered CheckedStmt) (body_level ctx home) (statement_level ctx home)

unfoldable pub check_body : Context → Home → Body → Checking Numbered (List CheckedStmt)
check_body ctx home =
    fold-Body (Checking Numbered (List CheckedStmt)) (Checking Numbered CheckedStmt) (body_level ctx home) (statement_level ctx home)

-- the body behind an `else`, if there is one
abbrev pub check_otherwise : Context → Home → Option Body → Checking Numbered (List CheckedStmt)
check_otherwise ctx home b = otherwise (option_map (check_body ctx home) b)

-- an `if`, and a `while`
abbrev pub check_if : Context → Home → ℕ → Expr → Body → Option Body → Checking Numbered CheckedStmt
check_if ctx home line e a b = if_level ctx line e (check_body ctx home a) (check_otherwise ctx home b)

abbrev pub check_while : Context → Home → ℕ → Expr → Body → Checking Numbered CheckedStmt
check_while ctx home line e a = while_level ctx line e (check_body ctx home a)
