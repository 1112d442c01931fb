use Rattle.std.proofs.Common.{◌≡◌, drop}
use Rattle.deputy_types.specs.UnitLayout.{IsImage, with_string_blocks}
use Rattle.deputy_layouts.proofs.load_image.with_string_blocks.Given as goal

abbrev pub invariant-loop-line : goal.invariant-loop-line
invariant-loop-line l = record {
  outcome : with_string_blocks l.image (drop l.line-index l.lines) l.texts ≡ with_string_blocks l.fn.image l.fn.lines l.fn.texts;
  within : IsImage l.image;
}
