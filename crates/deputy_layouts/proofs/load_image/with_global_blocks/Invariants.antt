use Rattle.std.proofs.Common.{◌≡◌, drop}
use Rattle.deputy_types.specs.UnitLayout.{IsImage, with_global_blocks}
use Rattle.deputy_layouts.proofs.load_image.with_global_blocks.Given as goal

abbrev pub invariant-loop-global : goal.invariant-loop-global
invariant-loop-global l = record {
  outcome : with_global_blocks l.image (drop l.global-index l.globals) ≡ with_global_blocks l.fn.image l.fn.globals;
  within : IsImage l.image;
}
