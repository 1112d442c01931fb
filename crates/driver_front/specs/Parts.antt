-- Refusals of the parts as those of a text.
use Rattle.c_token.specs.declared.refusal.WordRefusal.{WordRefusal}
use Rattle.c_token.specs.declared.refusal.WordRefusal.TheVariants as words
use Rattle.c_decl.specs.declared.refusal.UnitRefusal.{UnitRefusal}
use Rattle.c_decl.specs.declared.refusal.UnitRefusal.TheVariants as items
use Rattle.check_numbering.specs.declared.refusal.RuleRefusal.{RuleRefusal}
use Rattle.check_numbering.specs.declared.refusal.RuleRefusal.TheVariants as rule
use Rattle.deputy_types.specs.declared.refusal.TypeRefusal.{TypeRefusal}
use Rattle.deputy_types.specs.declared.refusal.TypeRefusal.TheVariants as type
use Rattle.driver_front.specs.declared.refusal.DriverRefusal.{DriverRefusal}
use Rattle.driver_front.specs.declared.refusal.DriverRefusal.TheVariants as refusal

-- of the words
abbrev pub word_refusal : WordRefusal → DriverRefusal
word_refusal (words.NotAWord n) = refusal.NotAWord n
word_refusal (words.Limit n kind) = refusal.Limit n kind
word_refusal words.Memory = refusal.Memory

-- of the items
abbrev pub unit_refusal : UnitRefusal → DriverRefusal
unit_refusal (items.NoItem n) = refusal.NoItem n
unit_refusal items.Memory = refusal.Memory

-- of the declarations
abbrev pub type_refusal : TypeRefusal → DriverRefusal
type_refusal (type.NoDecl n) = refusal.NoDecl n
type_refusal (type.Limit n kind) = refusal.Limit n kind
type_refusal type.Memory = refusal.Memory

-- of the rules
abbrev pub rule_refusal : RuleRefusal → DriverRefusal
rule_refusal (rule.NoRule n) = refusal.NoRule n
rule_refusal (rule.Limit n kind) = refusal.Limit n kind
rule_refusal rule.Memory = refusal.Memory
