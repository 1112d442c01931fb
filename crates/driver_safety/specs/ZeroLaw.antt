-- The law of `zero(l)`, which sets all bytes of a union to 0: each arm that a tag may select holds 0 then, and a pointer that is 0 fits.
use Rattle.std.specs.Prelude.{◌≡◌, IsTrue, List, [], Some, length}
use Rattle.sd_base.specs.Blocks.{Block}
use Rattle.checked_tree.specs.declared.statements.CheckedStmt.{CheckedStmt, out-CheckedStmt}
use Rattle.checked_tree.specs.declared.units.CheckedFn.{CheckedFn}
use Rattle.checked_tree.specs.Act.{act, On}
use Rattle.checked_tree.specs.Conditions.{State}
use Rattle.checked_tree.specs.Outcome.{Safe}
use Rattle.c_tree.specs.declared.expressions.Expr.{Expr}
use Rattle.deputy_rules.specs.declared.asked.Asked.{Asked}
use Rattle.deputy_rules.specs.Context.{Context}
use Rattle.deputy_rules.specs.Numbering.{Numbered, numbered}
use Rattle.deputy_rules.specs.Statements.{zero}
use Rattle.driver_safety.specs.Goodness.{IsGood}
use Rattle.driver_safety.specs.Passing.{StandIn}
use Rattle.driver_safety.specs.TypeFacts.{HasTypes, HasSlots}
use Rattle.driver_safety.specs.WrittenNumbers.{has_words}

-- `zero(l)` is derived where it stands, its checks have numbers behind those before, and the function has them
pub record IsZeroedIn (f : CheckedFn) (ctx : Context) (l : Expr) (c : CheckedStmt) : Type 0 where
  pub types : HasTypes ctx.table
  pub slots : HasSlots ctx
  pub words : IsTrue (has_words l)
  pub asked : List Asked
  pub derived : zero ctx l [] ≡ Some (c, asked)
  pub before : Numbered
  pub first : ctx.first ≡ length before.checks
  pub after : Numbered
  pub numbers : numbered asked before ≡ Some after
  pub stand : StandIn f after

-- then in each good state the statement is not wild: it fails a check, or leaves a good state and goes on behind itself
abbrev pub EachZeroIsSound : Type 0
EachZeroIsSound = (f : CheckedFn) (ctx : Context) (l : Expr) (c : CheckedStmt) → IsZeroedIn f ctx l c
    → (blocks : List Block) (st : State) → IsGood ctx blocks st → Safe (act [] f st (out-CheckedStmt c)) (λ a. IsGood ctx blocks a.state
    × (a.turn ≡ On))
