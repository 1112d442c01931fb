-- The table of kernel calls: how each is spelled, what its parameters are, what it gives back, and from where it may be called. The rules,
-- the machine and the kernel's wrappers cite it; a new call is one more row here.
use Rattle.std.specs.Prelude.{ℕ, Bool, true, false, ◌&&◌, cond, List, [], ◌∷◌, Option, Some, None, bytes_eq, codes}
use Rattle.std.specs.List.{list_all}
use Rattle.checked_tree.specs.declared.kernel.KernelName.{KernelName}
use Rattle.checked_tree.specs.declared.kernel.KernelName.TheVariants as kernel
use Rattle.checked_tree.specs.declared.kernel_table.ParameterKind.{ParameterKind}
use Rattle.checked_tree.specs.declared.kernel_table.ParameterKind.TheVariants as parameter
use Rattle.checked_tree.specs.declared.kernel_table.KernelResult.{KernelResult}
use Rattle.checked_tree.specs.declared.kernel_table.KernelResult.TheVariants as result
use Rattle.checked_tree.specs.declared.kernel_table.Callers.{Callers}
use Rattle.checked_tree.specs.declared.kernel_table.Callers.TheVariants as callers

-- a row of the table
pub record KernelRow : Type 0 where
  pub spelling : List ℕ
  pub parameters : List ParameterKind
  pub result : KernelResult
  pub callers : Callers

abbrev pub row : List ℕ → List ParameterKind → KernelResult → Callers → KernelRow
row spelling parameters result callers = record { spelling = spelling; parameters = parameters; result = result; callers = callers }

-- the table
unfoldable pub kernel_row : KernelName → KernelRow
kernel_row kernel.Printd = row (codes "printd") (parameter.Number ∷ []) result.Nothing callers.All
kernel_row kernel.Prints = row (codes "prints") (parameter.Text ∷ []) result.Nothing callers.All
kernel_row kernel.Kalloc = row (codes "kalloc") (parameter.Element ∷ parameter.Number ∷ []) result.Block callers.All
kernel_row kernel.Kfree = row (codes "kfree") (parameter.Block ∷ []) result.Nothing callers.All
kernel_row kernel.RequestLine = row (codes "request_line") (parameter.Number ∷ parameter.Handler ∷ []) result.Number callers.All
kernel_row kernel.FreeLine = row (codes "free_line") (parameter.Number ∷ []) result.Number callers.All
kernel_row kernel.RequestPorts = row (codes "request_ports") (parameter.Number ∷ parameter.Number ∷ []) result.Number callers.All
kernel_row kernel.ReleasePorts = row (codes "release_ports") (parameter.Number ∷ parameter.Number ∷ []) result.Number callers.All
kernel_row kernel.PortIn = row (codes "port_in") (parameter.Number ∷ []) result.Number callers.All
kernel_row kernel.PortOut = row (codes "port_out") (parameter.Number ∷ parameter.Number ∷ []) result.Nothing callers.All
kernel_row kernel.AddDevice = row (codes "add_device") (parameter.Number ∷ []) result.Number callers.All
kernel_row kernel.DelDevice = row (codes "del_device") (parameter.Number ∷ []) result.Number callers.All
kernel_row kernel.SetParam = row (codes "set_param") (parameter.Number ∷ parameter.Number ∷ []) result.Number callers.All
kernel_row kernel.ClearParam = row (codes "clear_param") (parameter.Number ∷ []) result.Number callers.All
kernel_row kernel.GetParam = row (codes "get_param") (parameter.Number ∷ []) result.Number callers.All
kernel_row kernel.SetTimer = row (codes "set_timer") (parameter.Number ∷ parameter.Number ∷ parameter.Handler ∷ parameter.Number ∷ []) result.Number callers.All
kernel_row kernel.DelTimer = row (codes "del_timer") (parameter.Number ∷ []) result.Number callers.All
kernel_row kernel.Now = row (codes "now") [] result.Number callers.All
kernel_row kernel.Lock = row (codes "lock") (parameter.Number ∷ []) result.Nothing callers.Tasks
kernel_row kernel.Unlock = row (codes "unlock") (parameter.Number ∷ []) result.Nothing callers.Tasks
kernel_row kernel.Mask = row (codes "mask") [] result.Nothing callers.Tasks
kernel_row kernel.Unmask = row (codes "unmask") [] result.Nothing callers.Tasks
kernel_row kernel.Hold = row (codes "hold") (parameter.Number ∷ []) result.Number callers.All
kernel_row kernel.DropHold = row (codes "drop_hold") (parameter.Number ∷ []) result.Number callers.All
kernel_row kernel.QueueWork = row (codes "queue_work") (parameter.Handler ∷ parameter.Number ∷ []) result.Number callers.All

-- the calls, in the order of the table
abbrev pub kernel_calls : List KernelName
kernel_calls =
    kernel.Printd ∷ kernel.Prints ∷ kernel.Kalloc ∷ kernel.Kfree ∷ kernel.RequestLine
    ∷ kernel.FreeLine ∷ kernel.RequestPorts ∷ kernel.ReleasePorts ∷ kernel.PortIn ∷ kernel.PortOut
    ∷ kernel.AddDevice ∷ kernel.DelDevice ∷ kernel.SetParam ∷ kernel.ClearParam ∷ kernel.GetParam
    ∷ kernel.SetTimer ∷ kernel.DelTimer ∷ kernel.Now ∷ kernel.Lock ∷ kernel.Unlock
    ∷ kernel.Mask ∷ kernel.Unmask ∷ kernel.Hold ∷ kernel.DropHold ∷ kernel.QueueWork ∷ []

-- a parameter that a call by name can have: the type of new elements and the block to give back are those of `kalloc` and `kfree`
abbrev pub is_plain : ParameterKind → Bool
is_plain parameter.Number = true
is_plain parameter.Text = true
is_plain parameter.Handler = true
is_plain parameter.Element = false
is_plain parameter.Block = false

-- a call that is written as a name with arguments: `kalloc` and `kfree` are statements of their own
unfoldable pub is_by_name : KernelName → Bool
is_by_name k = list_all is_plain (kernel_row k).parameters

-- which of these calls is written by this name, if one is
abbrev pub kernel_among : List KernelName → List ℕ → Option KernelName
kernel_among [] name = None
kernel_among (k ∷ ks) name = cond (is_by_name k && bytes_eq (kernel_row k).spelling name) (Some k) (kernel_among ks name)

-- the call that is written by this name, if there is one
unfoldable pub kernel_named : List ℕ → Option KernelName
kernel_named name = kernel_among kernel_calls name

-- whether a call gives back a number
abbrev pub is_number : KernelResult → Bool
is_number result.Nothing = false
is_number result.Number = true
is_number result.Block = false

-- whether a handler may make a call
abbrev pub is_for_handlers : Callers → Bool
is_for_handlers callers.All = true
is_for_handlers callers.Tasks = false
