-- The law of calls and returns: what a function is called with fits its parameters, by the names that the arguments stand for, and what a
-- function gives back fits its result. The state stays.
use Rattle.std.specs.Prelude.{◌≡◌, IsTrue, ℕ, List, [], ℤ, pos, Option, Some, None, length, slice_index_or}
use Rattle.sd_base.specs.Blocks.{Block}
use Rattle.c_tree.specs.declared.expressions.Expr.{Expr}
use Rattle.checked_tree.specs.declared.statements.CheckedStmt.{CheckedStmt, out-CheckedStmt}
use Rattle.checked_tree.specs.declared.units.CheckedFn.{CheckedFn}
use Rattle.checked_tree.specs.Act.{act, Calls, Returns}
use Rattle.checked_tree.specs.Conditions.{State}
use Rattle.checked_tree.specs.Outcome.{Safe}
use Rattle.deputy_rules.specs.declared.asked.Asked.{Asked}
use Rattle.deputy_rules.specs.declared.signature.Returned.{Returned}
use Rattle.deputy_rules.specs.declared.signature.Returned.TheVariants as returned
use Rattle.deputy_rules.specs.declared.signature.Signature.{Signature}
use Rattle.deputy_rules.specs.Calls.{call_function}
use Rattle.deputy_rules.specs.Context.{Context}
use Rattle.deputy_rules.specs.NameValues.{local_at}
use Rattle.deputy_rules.specs.Numbering.{Numbered, numbered}
use Rattle.deputy_rules.specs.Statements.{return_from}
use Rattle.deputy_types.specs.Table.{Table}
use Rattle.driver_safety.specs.Goodness.{IsGood}
use Rattle.driver_safety.specs.Handing.{Takes, TakeEach, HasParameters, HaveWords}
use Rattle.driver_safety.specs.Passing.{StandIn}
use Rattle.driver_safety.specs.TypeFacts.{HasTypes, HasSlots, IsDeclared}
use Rattle.driver_safety.specs.WrittenNumbers.{has_words}

-- checks that were asked for have numbers behind those before, and the function has them
pub record AreNumberedIn (f : CheckedFn) (ctx : Context) (asked : List Asked) : Type 0 where
  pub before : Numbered
  pub first : ctx.first ≡ length before.checks
  pub after : Numbered
  pub numbers : numbered asked before ≡ Some after
  pub stand : StandIn f after

-- a call of the function with this number and signature is derived where it stands
pub record IsCalledIn (f : CheckedFn) (ctx : Context) (number : ℕ) (g : Signature) (x : Option (List ℕ)) (es : List Expr)
    (c : CheckedStmt) : Type 0 where
  pub types : HasTypes ctx.table
  pub slots : HasSlots ctx
  pub parameters : HasParameters ctx.table g.params
  pub words : HaveWords es
  pub asked : List Asked
  pub derived : call_function ctx number g x es [] ≡ Some (c, asked)
  pub checks : AreNumberedIn f ctx asked

-- then in each good state it fails a check, or calls that function with what its parameters take; the state stays
abbrev pub EachCallIsSound : Type 0
EachCallIsSound =
    (f : CheckedFn) (ctx : Context) (number : ℕ) (g : Signature) (x : Option (List ℕ)) (es : List Expr) (c : CheckedStmt)
    → IsCalledIn f ctx number g x es c
    → (blocks : List Block) (st : State) → IsGood ctx blocks st
    → Safe (act [] f st (out-CheckedStmt c)) (λ a. (a.state ≡ st) × (vs : List ℤ) × (a.turn ≡ Calls number vs) × TakeEach ctx.table blocks
    (λ k. slice_index_or vs k (pos 0)) g.params vs)

-- what a function gives back, by the names of its slots
abbrev pub GivesBack : Table → List Block → (ℕ → ℤ) → Returned → Option ℤ → Type 0
GivesBack t blocks names returned.Nothing None = Unit {0}
GivesBack t blocks names returned.Nothing (Some v) = ⊥
GivesBack t blocks names (returned.Value s) None = ⊥
GivesBack t blocks names (returned.Value s) (Some v) = Takes t blocks names s v

abbrev pub IsDeclaredResult : Table → Returned → Type 0
IsDeclaredResult t returned.Nothing = Unit {0}
IsDeclaredResult t (returned.Value s) = IsDeclared t s

abbrev pub HasWords : Option Expr → Type 0
HasWords None = Unit {0}
HasWords (Some e) = IsTrue (has_words e)

-- `return` is derived where it stands
pub record IsReturnedIn (f : CheckedFn) (ctx : Context) (result : Returned) (e : Option Expr) (c : CheckedStmt) : Type 0 where
  pub types : HasTypes ctx.table
  pub slots : HasSlots ctx
  pub declared : IsDeclaredResult ctx.table result
  pub words : HasWords e
  pub asked : List Asked
  pub derived : return_from ctx result e [] ≡ Some (c, asked)
  pub checks : AreNumberedIn f ctx asked

-- then in each good state it fails a check, or gives back what the result takes; the state stays
abbrev pub EachReturnIsSound : Type 0
EachReturnIsSound = (f : CheckedFn) (ctx : Context) (result : Returned) (e : Option Expr) (c : CheckedStmt) → IsReturnedIn f ctx result e c
    → (blocks : List Block) (st : State) → IsGood ctx blocks st
    → Safe (act [] f st (out-CheckedStmt c))
    (λ a. (a.state ≡ st) × (v : Option ℤ) × (a.turn ≡ Returns v) × GivesBack ctx.table blocks (local_at st) result v)
