use Rattle.std.proofs.Common.{rules, ◌≡◌, ◌<◌, ◌≤◌, length, subst, sym, arith}
use Rattle.std.proofs.lemmas.List.{length-append}
use Rattle.deputy_types.specs.declared.laying.Laid.{Laid}
use Rattle.deputy_types.specs.declared.unit_layout.Structs.{Structs}
use Rattle.deputy_types.specs.UnitLayout.{with_laid}
use Rattle.deputy_types.proofs.DeclaredFacts.{laid_number}
use Rattle.deputy_layouts.proofs.unit_layout.with_next_struct.Goals as goal

one_more : (structs s : Structs) (laid : Laid) → s ≡ with_laid structs laid → length structs.shapes < 256 → length s.shapes ≤ 256
one_more structs s laid is few = subst (λ (t : Structs). length t.shapes ≤ 256) (sym is) (rw length-append (omega arith))

pub returns-clause-few : goal.returns-clause-few
returns-clause-few c = one_more c.args.structs c.in_ok-with_laid.field-0 c.in_ok-laid.laid c.in_ok-with_laid.ensures (search (rules, laid_number _ _ _ _ _ c.in_ok-laid.ensures.value))
