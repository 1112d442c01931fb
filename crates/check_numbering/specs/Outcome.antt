-- What a function that checks what stands in a text ensures: the outcome of the definition, unless memory is wanting.
use Rattle.std.specs.Prelude.{◌≡◌, ◌≢◌, ℕ, Result, Ok, Err}
use Rattle.deputy_rules.specs.declared.derived.DerivingRefusal.{DerivingRefusal}
use Rattle.deputy_rules.specs.declared.derived.DerivingRefusal.TheVariants as inner
use Rattle.deputy_rules.specs.Checking.{Fault, NoRule, Limit}
use Rattle.check_numbering.specs.declared.refusal.RuleRefusal.{RuleRefusal}
use Rattle.check_numbering.specs.declared.refusal.RuleRefusal.TheVariants as rule

-- the fault that a refusal tells; want of memory tells none, and is asked for none
abbrev pub fault_in : RuleRefusal → Fault
fault_in (rule.NoRule line) = NoRule line
fault_in (rule.Limit line kind) = Limit line kind
fault_in rule.Memory = NoRule 0

-- the refusal of what stands on a line
abbrev pub refused_at : ℕ → DerivingRefusal → RuleRefusal
refused_at line inner.NoRule = rule.NoRule line
refused_at line inner.Memory = rule.Memory

-- the outcome, with the state that is left
abbrev pub Checks : {S A : Type 0} → Result (A × S) Fault → Result A RuleRefusal → S → Type 0
Checks outcome (Ok a) new = outcome ≡ Ok (a, new)
Checks outcome (Err e) new = e ≢ rule.Memory → outcome ≡ Err (fault_in e)
