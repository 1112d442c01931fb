use Rattle.std.proofs.Common.{◌≡◌, map, take}
use Rattle.deputy_layouts.proofs.unit_layout.global_arrays.Given as goal

abbrev pub invariant-loop-global : goal.invariant-loop-global
invariant-loop-global l = l.arrays ≡ map (λ g. g.array) (take l.global-index l.globals)
