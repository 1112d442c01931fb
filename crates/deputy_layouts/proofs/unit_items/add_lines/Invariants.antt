use Rattle.std.proofs.Common.{◌≡◌, ◌++◌, replicate}
use Rattle.deputy_layouts.proofs.unit_items.add_lines.Given as goal

abbrev pub invariant-loop : goal.invariant-loop
invariant-loop l = l.lines ≡ l.fn.lines ++ replicate l.counter l.line
