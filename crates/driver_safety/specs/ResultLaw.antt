-- The law of results: a local that takes what a function gives back keeps its frame good, since no annotation names it.
use Rattle.std.specs.Prelude.{◌≡◌, ℕ, List, [], ℤ, pos, Option, Some, None}
use Rattle.sd_base.specs.Blocks.{Block}
use Rattle.checked_tree.specs.declared.shapes.Bounds.{Bounds}
use Rattle.checked_tree.specs.declared.shapes.Bounds.TheVariants as bounds
use Rattle.checked_tree.specs.declared.shapes.Edge.{Edge}
use Rattle.checked_tree.specs.declared.shapes.Shape.{Shape}
use Rattle.checked_tree.specs.declared.shapes.Shape.TheVariants as shape
use Rattle.checked_tree.specs.declared.statements.Target.{Target}
use Rattle.checked_tree.specs.declared.units.CheckedFn.{CheckedFn}
use Rattle.checked_tree.specs.Conditions.{State}
use Rattle.checked_tree.specs.Outcome.{Safe}
use Rattle.checked_tree.specs.Step.{with_returned}
use Rattle.deputy_rules.specs.declared.signature.Returned.{Returned}
use Rattle.deputy_rules.specs.declared.signature.Returned.TheVariants as returned
use Rattle.deputy_rules.specs.Calls.{call_target}
use Rattle.deputy_rules.specs.Context.{Context}
use Rattle.deputy_rules.specs.Functions.{result_scalar}
use Rattle.driver_safety.specs.CallLaw.{GivesBack}
use Rattle.driver_safety.specs.Goodness.{IsGood}
use Rattle.driver_safety.specs.TypeFacts.{HasTypes, HasSlots}

-- one side of an annotation without names
abbrev pub NamesNothing : Edge → Type 0
NamesNothing e = (e.base ≡ None) × (e.terms ≡ [])

-- a result's annotation is constant, and its low bound is the pointer itself
abbrev pub BoundsAreConstant : Bounds → Type 0
BoundsAreConstant bounds.Hidden = ⊥
BoundsAreConstant bounds.Nullterm = Unit {0}
BoundsAreConstant (bounds.Within lo hi) = NamesNothing lo × NamesNothing hi × (lo.bytes ≡ pos 0)

abbrev pub ShapeIsConstant : Shape → Type 0
ShapeIsConstant (shape.Int s) = Unit {0}
ShapeIsConstant (shape.Pointer elem b) = BoundsAreConstant b
ShapeIsConstant (shape.Struct n) = Unit {0}
ShapeIsConstant shape.Address = Unit {0}

abbrev pub ResultIsConstant : Returned → Type 0
ResultIsConstant returned.Nothing = Unit {0}
ResultIsConstant (returned.Value s) = ShapeIsConstant s

-- the target of a call with this result is derived
pub record IsTargetIn (ctx : Context) (result : Returned) (x : Option (List ℕ)) (t : Option Target) : Type 0 where
  pub types : HasTypes ctx.table
  pub slots : HasSlots ctx
  pub constant : ResultIsConstant result
  pub derived : call_target ctx (Some result) x ≡ Some t

-- then what the function gives back is taken, and the caller's state is good. The scalar of a result says how many bytes its pointer
-- reaches
abbrev pub EachResultIsTaken : Type 0
EachResultIsTaken =
    (f : CheckedFn) (ctx : Context) (result : Returned) (x : Option (List ℕ)) (t : Option Target) → IsTargetIn ctx result x t
    → (blocks : List Block) (st : State) → IsGood ctx blocks st → (names : ℕ → ℤ) (v : Option ℤ) → GivesBack ctx.table blocks names result v
    → Safe (with_returned (result_scalar result) st t v) (IsGood ctx blocks)
