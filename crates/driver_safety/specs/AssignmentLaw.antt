-- The law of assignments: what is assigned fits the type of its place, each pointer whose annotation names the place still fits, with the
-- new value, a tag keeps its value or
-- its union is clear, and a text keeps its end.
use Rattle.std.specs.Prelude.{◌≡◌, IsTrue, List, [], Some, length}
use Rattle.sd_base.specs.Blocks.{Block}
use Rattle.checked_tree.specs.declared.statements.CheckedStmt.{CheckedStmt, out-CheckedStmt}
use Rattle.checked_tree.specs.declared.units.CheckedFn.{CheckedFn}
use Rattle.checked_tree.specs.Act.{act, On}
use Rattle.checked_tree.specs.Conditions.{State}
use Rattle.checked_tree.specs.Outcome.{Safe}
use Rattle.c_tree.specs.declared.expressions.Expr.{Expr}
use Rattle.deputy_rules.specs.declared.asked.Asked.{Asked}
use Rattle.deputy_rules.specs.declared.derived.Derived.{Derived}
use Rattle.deputy_rules.specs.Assignment.{assign}
use Rattle.deputy_rules.specs.Context.{Context}
use Rattle.deputy_rules.specs.Expressions.{derive}
use Rattle.deputy_rules.specs.Numbering.{Numbered, numbered}
use Rattle.driver_safety.specs.Goodness.{IsGood}
use Rattle.driver_safety.specs.LightHandling.{HandsLightly}
use Rattle.driver_safety.specs.Passing.{StandIn}
use Rattle.driver_safety.specs.TypeFacts.{HasTypes, HasSlots}
use Rattle.driver_safety.specs.WrittenNumbers.{has_words}

-- `l = e` is derived where it stands, its checks have numbers behind those before, and the function has them
pub record IsAssignedIn (f : CheckedFn) (ctx : Context) (l e : Expr) (c : CheckedStmt) : Type 0 where
  pub types : HasTypes ctx.table
  pub slots : HasSlots ctx
  pub left : IsTrue (has_words l)
  pub right : IsTrue (has_words e)
  pub light : (d : Derived) (asked : List Asked) → derive ctx e [] ≡ Some (d, asked) → HandsLightly ctx d
  pub asked : List Asked
  pub derived : assign ctx l e [] ≡ Some (c, asked)
  pub before : Numbered
  pub first : ctx.first ≡ length before.checks
  pub after : Numbered
  pub numbers : numbered asked before ≡ Some after
  pub stand : StandIn f after

-- then in each good state the statement is not wild: it fails a check, or leaves a good state and goes on behind itself
abbrev pub EachAssignmentIsSound : Type 0
EachAssignmentIsSound = (f : CheckedFn) (ctx : Context) (l e : Expr) (c : CheckedStmt) → IsAssignedIn f ctx l e c
    → (blocks : List Block) (st : State) → IsGood ctx blocks st → Safe (act [] f st (out-CheckedStmt c)) (λ a. IsGood ctx blocks a.state
    × (a.turn ≡ On))
