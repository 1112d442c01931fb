-- Why the rules refuse a text whose types are laid out: a head, a parameter or a local that does not stand, a prototype, too many slots, or
-- what no rule derives in a body. No check is among the reasons.
use Rattle.std.specs.Prelude.{◌≡◌, ℕ, true, false, Some, None, Contains}
use Rattle.c_tree.specs.declared.items.Function.{Function}
use Rattle.c_tree.specs.declared.items.Head.{Head}
use Rattle.c_tree.specs.declared.items.Item.TheVariants as item
use Rattle.c_tree.specs.declared.items.Unit.{Unit as TextUnit}
use Rattle.c_tree.specs.declared.limits.LimitKind.TheVariants.{Locals}
use Rattle.c_tree.specs.Slots.{locals_of}
use Rattle.deputy_rules.specs.declared.signature.Returned.{Returned}
use Rattle.deputy_rules.specs.Checking.{Fault, NoRule, Limit}
use Rattle.deputy_rules.specs.Functions.{context_of, text_of, wrong_prototype}
use Rattle.deputy_rules.specs.Heads.{function_stands, is_over, result_of, slot_shapes, wrong_declaration}
use Rattle.deputy_types.specs.Table.{Table}
use Rattle.light_checks.specs.ShortUnits.{home_of}
use Rattle.light_checks.specs.Unruled.{Tells, UnruledIn}

-- the fault of the unit with this table is that of a function's head, slots, result, parameter or local, of a prototype, or of the line of
-- what no rule derives
pub data IsRuleFault (u : TextUnit) (t : Table) (e : Fault) : Type 0 where
  head : (f : Function) (k : ℕ) → Contains u.items (item.Function f) → function_stands (text_of t u.items) k f.head ≡ false
      → e ≡ NoRule f.head.line → IsRuleFault u t e
  many_slots : (f : Function) → Contains u.items (item.Function f) → is_over f ≡ true → e ≡ Limit f.head.line Locals → IsRuleFault u t e
  no_result : (f : Function) → Contains u.items (item.Function f) → result_of t f.head ≡ None → e ≡ NoRule f.head.line → IsRuleFault u t e
  declaration : (f : Function) (line : ℕ) → Contains u.items (item.Function f)
      → wrong_declaration (locals_of f) (slot_shapes t f) f ≡ Some line → e ≡ NoRule line
      → IsRuleFault u t e
  prototype : (h : Head) (line : ℕ) → Contains u.items (item.Prototype h) → wrong_prototype (text_of t u.items) h ≡ Some line
      → e ≡ NoRule line → IsRuleFault u t e
  unruled : (f : Function) (r : Returned) → Contains u.items (item.Function f) → result_of t f.head ≡ Some r
      → Tells (UnruledIn (context_of t f) (home_of u t r) f.body) e
      → IsRuleFault u t e
