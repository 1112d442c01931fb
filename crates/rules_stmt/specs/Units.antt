-- What checking a text ensures, and the steps over its items.
use Rattle.std.specs.Prelude.{◌≡◌, ◌≢◌, List, ◌∷◌, Result, Ok, Err}
use Rattle.c_tree.specs.declared.items.Item.{Item}
use Rattle.c_tree.specs.declared.items.Item.TheVariants as item
use Rattle.c_tree.specs.ShortUnit.{IsShortFunction}
use Rattle.checked_tree.specs.declared.units.CheckedFn.{CheckedFn}
use Rattle.deputy_rules.specs.Checking.{Fault}
use Rattle.deputy_rules.specs.Functions.{check_items}
use Rattle.deputy_rules.specs.Heads.{SeenText}
use Rattle.check_numbering.specs.declared.refusal.RuleRefusal.{RuleRefusal}
use Rattle.check_numbering.specs.declared.refusal.RuleRefusal.TheVariants as rule
use Rattle.check_numbering.specs.Outcome.{fault_in}

-- an item is short, where it is a function
abbrev pub IsShortItem : Item → Type 0
IsShortItem (item.Function f) = IsShortFunction f
IsShortItem _ = Unit {0}

-- A value, as the definition has it; or the fault, unless memory is wanting.
abbrev pub IsChecked : {A : Type 0} → Result A Fault → Result A RuleRefusal → Type 0
IsChecked outcome (Ok a) = outcome ≡ Ok a
IsChecked outcome (Err e) = e ≢ rule.Memory → outcome ≡ Err (fault_in e)

-- One item is checked, behind the functions that are done: what is left then, or the fault of the whole.
abbrev pub StepsOver : SeenText → Item → List CheckedFn → Result (List CheckedFn) RuleRefusal → Type 0
StepsOver text i done (Ok more) = (rest : List Item) → check_items text (i ∷ rest) done ≡ check_items text rest more
StepsOver text i done (Err e) = (rest : List Item) → e ≢ rule.Memory → check_items text (i ∷ rest) done ≡ Err (fault_in e)
