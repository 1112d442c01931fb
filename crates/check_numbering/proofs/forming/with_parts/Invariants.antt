use Rattle.std.proofs.Common.{◌≡◌, drop}
use Rattle.deputy_rules.specs.Numbering as spec
use Rattle.check_numbering.proofs.forming.with_parts.Given as goal

abbrev pub invariant-loop-part : goal.invariant-loop-part
invariant-loop-part l = spec.with_parts l.fn.right (drop l.part-index l.parts) l.form l.atoms ≡ spec.with_parts l.fn.right l.fn.parts l.fn.form l.fn.atoms
