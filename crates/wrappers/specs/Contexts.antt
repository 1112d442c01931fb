-- From where a call may be made.
use Rattle.std.specs.Prelude.{ℕ, Bool, true, cond, eqb}
use Rattle.checked_tree.specs.declared.kernel.KernelName.{KernelName}
use Rattle.checked_tree.specs.declared.kernel_table.Callers.{Callers}
use Rattle.checked_tree.specs.declared.kernel_table.Callers.TheVariants as callers
use Rattle.checked_tree.specs.KernelTable.{kernel_row, is_for_handlers}

-- the set of contexts of these callers, as bits: 1 for tasks, 2 for handlers
abbrev pub context_bits : Callers → ℕ
context_bits callers.All = 3
context_bits callers.Tasks = 1

-- the context of a task, whose number 0 stands for handlers
abbrev pub context_bit : ℕ → ℕ
context_bit task = cond (eqb task 0) 2 1

-- a task may make every call, a handler those whose row of the table of kernel calls says so
abbrev pub may_call : KernelName → ℕ → Bool
may_call name task = cond (eqb task 0) (is_for_handlers (kernel_row name).callers) true
