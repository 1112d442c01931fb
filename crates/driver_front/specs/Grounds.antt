-- On which grounds a text is refused. No check is among them: a text is never refused, and no line of it charged, for how heavy a check is.
use Rattle.std.specs.Prelude.{◌≡◌, Ok, Err}
use Rattle.c_tree.specs.declared.items.Unit.{Unit as TextUnit}
use Rattle.c_tree.specs.Bytes.{Text}
use Rattle.c_tree.specs.Units.{Reads}
use Rattle.deputy_types.specs.declared.refusal.TypeRefusal.{TypeRefusal}
use Rattle.deputy_rules.specs.Checking.{Fault}
use Rattle.deputy_types.specs.Table.{Table}
use Rattle.deputy_types.specs.UnitLayout.{layout}
use Rattle.light_checks.specs.Faults.{IsRuleFault}
use Rattle.driver_front.specs.declared.refusal.DriverRefusal.{DriverRefusal}
use Rattle.driver_front.specs.Parts.{type_refusal}
use Rattle.driver_front.specs.Verdict.{IsUnread, fault_refusal}

-- The text is not read; or a declaration is refused; or, of what is laid out, a head, a parameter, a local, a prototype, or a simple statement
-- or a condition that no rule derives, on its own line, or the slots of a function.
pub data HasGround (t : Text) : DriverRefusal → Type 0 where
  not_read : {r : DriverRefusal} → IsUnread t r → HasGround t r
  declaration : {u : TextUnit} {e : TypeRefusal} → Reads t u → layout u ≡ Err e → HasGround t (type_refusal e)
  rule : {u : TextUnit} {table : Table} {e : Fault} → Reads t u → layout u ≡ Ok table → IsRuleFault u table e → HasGround t (fault_refusal e)
