use Rattle.std.proofs.Common.{◌≡◌, drop}
use Rattle.checked_tree.specs.KernelTable.{kernel_among}
use Rattle.checked_tree.proofs.kernel_table.kernel_among.Given as goal

abbrev pub invariant-loop-call : goal.invariant-loop-call
invariant-loop-call l = kernel_among (drop l.call-index l.calls) l.name ≡ kernel_among l.fn.calls l.fn.name
