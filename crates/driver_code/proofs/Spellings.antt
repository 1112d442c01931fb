-- The spelling of a kernel call is short.
use Rattle.std.proofs.Common.{◌≤◌, length, arith}
use Rattle.checked_tree.specs.declared.kernel.KernelName.{KernelName}
use Rattle.checked_tree.specs.declared.kernel.KernelName.TheVariants as kernel
use Rattle.checked_tree.specs.KernelTable.{kernel_row}

pub short_spelling : (name : KernelName) → length (kernel_row name).spelling ≤ 20
unfolding kernel_row
short_spelling kernel.Printd = omega arith
short_spelling kernel.Prints = omega arith
short_spelling kernel.Kalloc = omega arith
short_spelling kernel.Kfree = omega arith
short_spelling kernel.RequestLine = omega arith
short_spelling kernel.FreeLine = omega arith
short_spelling kernel.RequestPorts = omega arith
short_spelling kernel.ReleasePorts = omega arith
short_spelling kernel.PortIn = omega arith
short_spelling kernel.PortOut = omega arith
short_spelling kernel.AddDevice = omega arith
short_spelling kernel.DelDevice = omega arith
short_spelling kernel.SetParam = omega arith
short_spelling kernel.ClearParam = omega arith
short_spelling kernel.GetParam = omega arith
short_spelling kernel.SetTimer = omega arith
short_spelling kernel.DelTimer = omega arith
short_spelling kernel.Now = omega arith
short_spelling kernel.Lock = omega arith
short_spelling kernel.Unlock = omega arith
short_spelling kernel.Mask = omega arith
short_spelling kernel.Unmask = omega arith
short_spelling kernel.Hold = omega arith
short_spelling kernel.DropHold = omega arith
short_spelling kernel.QueueWork = omega arith
