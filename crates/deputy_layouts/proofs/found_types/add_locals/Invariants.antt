use Rattle.std.proofs.Common.{◌≡◌, drop}
use Rattle.deputy_types.specs.Found.{with_locals}
use Rattle.deputy_layouts.proofs.found_types.add_locals.Given as goal

abbrev pub invariant-loop-local : goal.invariant-loop-local
invariant-loop-local l = with_locals l.structs l.elements (drop l.local-index l.locals) ≡ with_locals l.fn.structs l.fn.elements l.fn.locals
