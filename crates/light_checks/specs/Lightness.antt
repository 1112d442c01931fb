-- Light checks: how far the parts of a sum weigh, and below which weights a check is numbered.
use Rattle.std.specs.Prelude.{ℕ, ◌+◌, ◌<◌, ◌^◌, List, [], ◌∷◌, Option, Some, None, ◌*ℤ◌, unsigned_abs}
use Rattle.checked_tree.specs.declared.sums.Part.{Part}
use Rattle.checked_tree.specs.declared.sums.Part.TheVariants.{Constant, Atom}
use Rattle.checked_tree.specs.declared.sums.Sum.{Sum}
use Rattle.deputy_rules.specs.declared.asked.Asked.{Asked}
use Rattle.deputy_rules.specs.declared.asked.AskedCond.{AskedCond}
use Rattle.deputy_rules.specs.declared.asked.AskedCond.TheVariants as asked

-- the size of the factor of an expression, and of a constant times its factor
abbrev pub part_factor : Part → ℕ
part_factor (Constant k z) = 0
part_factor (Atom k e) = unsigned_abs k

abbrev pub part_constant : Part → ℕ
part_constant (Constant k z) = unsigned_abs (k *ℤ z)
part_constant (Atom k e) = 0

-- the sizes of the factors of a sum's expressions together, and of its constants together
abbrev pub factors : List Part → ℕ
factors [] = 0
factors (p ∷ ps) = part_factor p + factors ps

abbrev pub constants : List Part → ℕ
constants [] = 0
constants (p ∷ ps) = part_constant p + constants ps

-- parts that weigh less than half of what a linear form may weigh
pub record AreLight (ps : List Part) : Type 0 where
  pub factors : factors ps < 2 ^ 61
  pub constants : constants ps < 2 ^ 99

abbrev pub IsLight : Sum → Type 0
IsLight s = AreLight s.parts

abbrev pub IsLightPart : Part → Type 0
IsLightPart p = AreLight (p ∷ [])

abbrev pub IsLightNew : Option Part → Type 0
IsLightNew None = Unit {0}
IsLightNew (Some p) = IsLightPart p

-- a check, each of whose sums is light
abbrev pub IsLightCond : AskedCond → Type 0
IsLightCond (asked.Le left right) = IsLight left × IsLight right
IsLightCond (asked.Guarded left right guard) = IsLight left × IsLight right × IsLight guard
IsLightCond (asked.Aligned value low size guard) = IsLight value × IsLight low × IsLight guard
IsLightCond (asked.NonZero p) = IsLightPart p
IsLightCond (asked.Equal p z) = IsLightPart p
IsLightCond (asked.Term at new) = IsLight at × IsLightNew new
IsLightCond (asked.Kept old new at size) = IsLightPart old × IsLightPart new × IsLight at

abbrev pub IsLightCheck : Asked → Type 0
IsLightCheck q = IsLightCond q.cond
