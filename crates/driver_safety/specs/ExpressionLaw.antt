-- The law of expressions: what the rules derive of an expression is, in a good state, what they take it for.
use Rattle.std.specs.Prelude.{◌≡◌, IsTrue, List, [], Some, length}
use Rattle.sd_base.specs.Blocks.{Block}
use Rattle.c_tree.specs.declared.expressions.Expr.{Expr}
use Rattle.checked_tree.specs.declared.units.CheckedFn.{CheckedFn}
use Rattle.checked_tree.specs.Conditions.{State}
use Rattle.deputy_rules.specs.declared.asked.Asked.{Asked}
use Rattle.deputy_rules.specs.declared.derived.Derived.{Derived}
use Rattle.deputy_rules.specs.declared.derived.Value.{Value}
use Rattle.deputy_rules.specs.Context.{Context}
use Rattle.deputy_rules.specs.Expressions.{derive}
use Rattle.deputy_rules.specs.Numbering.{Numbered, numbered}
use Rattle.deputy_rules.specs.Values.{value_of}
use Rattle.driver_safety.specs.Derivations.{IsDerived, IsValue}
use Rattle.driver_safety.specs.Goodness.{IsGood}
use Rattle.driver_safety.specs.Passing.{StandIn}
use Rattle.driver_safety.specs.TypeFacts.{HasTypes, HasSlots}
use Rattle.driver_safety.specs.WrittenNumbers.{has_words}

-- an expression is derived where it stands, its checks have numbers behind those before, and the function has them
pub record IsDerivedIn (f : CheckedFn) (ctx : Context) (e : Expr) (d : Derived) : Type 0 where
  pub types : HasTypes ctx.table
  pub slots : HasSlots ctx
  pub words : IsTrue (has_words e)
  pub asked : List Asked
  pub derived : derive ctx e [] ≡ Some (d, asked)
  pub before : Numbered
  pub first : ctx.first ≡ length before.checks
  pub after : Numbered
  pub numbers : numbered asked before ≡ Some after
  pub stand : StandIn f after

-- then in each good state its place, and its value where it has one, evaluates to what the rules take it for, or fails a check. It is not
-- wild
abbrev pub EachPlaceIsSound : Type 0
EachPlaceIsSound = (f : CheckedFn) (ctx : Context) (e : Expr) (d : Derived) → IsDerivedIn f ctx e d
    → (blocks : List Block) (st : State) → IsGood ctx blocks st → IsDerived f ctx blocks st d

abbrev pub EachValueIsSound : Type 0
EachValueIsSound = (f : CheckedFn) (ctx : Context) (e : Expr) (d : Derived) (v : Value) → IsDerivedIn f ctx e d → value_of ctx d ≡ Some v
    → (blocks : List Block) (st : State) → IsGood ctx blocks st → IsValue f ctx blocks st v
