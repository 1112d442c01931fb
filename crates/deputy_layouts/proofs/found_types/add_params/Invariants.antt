use Rattle.std.proofs.Common.{◌≡◌, drop}
use Rattle.deputy_types.specs.Found.{with_params}
use Rattle.deputy_layouts.proofs.found_types.add_params.Given as goal

abbrev pub invariant-loop-param : goal.invariant-loop-param
invariant-loop-param l = with_params l.structs l.elements (drop l.param-index l.params) ≡ with_params l.fn.structs l.fn.elements l.fn.params
