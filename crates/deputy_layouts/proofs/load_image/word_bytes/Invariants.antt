use Rattle.std.proofs.Common.{◌≡◌, ◌++◌, ◌-◌}
use Rattle.byte_memory.specs.Bytes.{low_bytes}
use Rattle.deputy_layouts.proofs.load_image.word_bytes.Given as goal

abbrev pub invariant-loop : goal.invariant-loop
invariant-loop l = l.bytes ++ low_bytes (l.count - l.counter) l.rest ≡ low_bytes l.fn.count l.fn.word
