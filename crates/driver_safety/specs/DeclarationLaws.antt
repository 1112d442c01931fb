-- What the laws take of a text's types and of a function's slots is so: of each text whose types are laid out and whose unions have arms,
-- and of each function whose declarations stand.
use Rattle.std.specs.Prelude.{◌≡◌, ℕ, ◌-◌, ◌^◌, ◌<◌, length, Some, Ok}
use Rattle.c_tree.specs.declared.items.Function.{Function}
use Rattle.c_tree.specs.declared.items.Unit.{Unit as TextUnit}
use Rattle.c_tree.specs.Slots.{locals_of}
use Rattle.checked_tree.specs.declared.units.CheckedFn.{CheckedFn}
use Rattle.deputy_types.specs.Table.{Table}
use Rattle.deputy_types.specs.UnitLayout.{layout}
use Rattle.deputy_rules.specs.declared.signature.Returned.{Returned}
use Rattle.deputy_rules.specs.Context.{Context}
use Rattle.deputy_rules.specs.Functions.{shapes_of}
use Rattle.deputy_rules.specs.Heads.{parameter_shapes, result_of, signature_of, slot_shapes}
use Rattle.light_checks.specs.Standing.{Stands}
use Rattle.driver_safety.specs.CallLaw.{IsDeclaredResult}
use Rattle.driver_safety.specs.EntryLaw.{IsEnteredIn}
use Rattle.driver_safety.specs.Handing.{HasParameters}
use Rattle.driver_safety.specs.ResultLaw.{ResultIsConstant}
use Rattle.driver_safety.specs.TypeFacts.{HasTypes, HasSlots}
use Rattle.driver_safety.specs.UnionArms.{ItemsHaveArms}

-- the table of a text: of one with less than 2^32 - 1 items, which no text has
abbrev pub EachTableHasTypes : Type 0
EachTableHasTypes = (u : TextUnit) (t : Table) → length u.items < 2 ^ 32 - 1 → ItemsHaveArms u.items → layout u ≡ Ok t → HasTypes t

-- where a statement of a function stands: on this line, behind so many checks
abbrev pub place_in : Table → Function → ℕ → ℕ → Context
place_in t f line first = record { table = t; locals = locals_of f; slots = slot_shapes t f; line = line; first = first }

-- its slots
abbrev pub EachFunctionHasSlots : Type 0
EachFunctionHasSlots = (t : Table) (f : Function) → Stands t f → (line first : ℕ) → HasSlots (place_in t f line first)

-- what calls see of it, and where a call enters it
pub record HasHead (t : Table) (f : Function) : Type 0 where
  pub seen : (signature_of t f).params ≡ parameter_shapes t f.head.params
  pub parameters : HasParameters t (parameter_shapes t f.head.params)
  pub entered : (line first : ℕ) (g : CheckedFn) → g.slots ≡ shapes_of (slot_shapes t f)
      → IsEnteredIn (place_in t f line first) (parameter_shapes t f.head.params) g
  pub result : (r : Returned) → result_of t f.head ≡ Some r → IsDeclaredResult t r × ResultIsConstant r

abbrev pub EachFunctionHasHead : Type 0
EachFunctionHasHead = (t : Table) (f : Function) → Stands t f → HasHead t f
