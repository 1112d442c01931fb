use Rattle.std.proofs.Common.{◌≡◌, map, take}
use Rattle.deputy_types.specs.UnitLayout.{elem_shape}
use Rattle.deputy_layouts.proofs.elem_shapes.elem_shapes.Given as goal

abbrev pub invariant-loop-key : goal.invariant-loop-key
invariant-loop-key l = l.shapes ≡ map (elem_shape l.elements l.extents) (take l.key-index l.elements)
