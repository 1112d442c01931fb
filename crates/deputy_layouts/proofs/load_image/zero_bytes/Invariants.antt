use Rattle.std.proofs.Common.{◌≡◌, replicate}
use Rattle.deputy_layouts.proofs.load_image.zero_bytes.Given as goal

abbrev pub invariant-loop : goal.invariant-loop
invariant-loop l = l.bytes ≡ replicate l.counter 0
