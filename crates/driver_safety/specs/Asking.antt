-- What is asked of the kernel: a text to print is one, a handler is a function that can be one, and new elements are of a type of the text.
use Rattle.std.specs.Prelude.{◌≡◌, ◌⊎◌, ℕ, true, List, [], ◌∷◌, pos, Some, slice_get}
use Rattle.sd_base.specs.Blocks.{Block}
use Rattle.checked_tree.specs.declared.kernel.KernelCall.{KernelCall}
use Rattle.checked_tree.specs.declared.kernel.KernelName.{KernelName}
use Rattle.checked_tree.specs.declared.kernel.KernelName.TheVariants as kernel
use Rattle.checked_tree.specs.declared.kernel_table.ParameterKind.{ParameterKind}
use Rattle.checked_tree.specs.declared.kernel_table.ParameterKind.TheVariants as parameter
use Rattle.checked_tree.specs.declared.shapes.Shape.{Shape}
use Rattle.checked_tree.specs.KernelTable.{kernel_row}
use Rattle.deputy_types.specs.Fitting.{IsInText, elem_bytes}
use Rattle.deputy_types.specs.Table.{Table}
use Rattle.deputy_rules.specs.declared.signature.Signature.{Signature}
use Rattle.deputy_rules.specs.Calls.{is_handler}

-- null, or the address of a byte of text
abbrev pub IsTextAddress : List Block → ℕ → Type 0
IsTextAddress blocks a = (a ≡ 0) ⊎ IsInText blocks (pos a)

-- `prints` is given text
abbrev pub PrintsText : List Block → KernelName → ℕ → Type 0
PrintsText blocks kernel.Prints a = IsTextAddress blocks a
PrintsText blocks _ a = Unit {0}

-- the function with this number can be a handler: it has one parameter `int`, and no result
pub record IsHandlerAt (functions : List Signature) (k : ℕ) : Type 0 where
  pub signature : Signature
  pub found : slice_get functions k ≡ Some signature
  pub handles : is_handler signature ≡ true

-- where one of these parameters is a handler, it is this function
abbrev pub TakesHandler : List ParameterKind → List Signature → ℕ → Type 0
TakesHandler [] functions k = Unit {0}
TakesHandler (parameter.Handler ∷ ps) functions k = IsHandlerAt functions k
TakesHandler (parameter.Number ∷ ps) functions k = TakesHandler ps functions k
TakesHandler (parameter.Text ∷ ps) functions k = TakesHandler ps functions k
TakesHandler (parameter.Element ∷ ps) functions k = TakesHandler ps functions k
TakesHandler (parameter.Block ∷ ps) functions k = TakesHandler ps functions k

-- elements of a type of the text, with its size
pub record IsElementOf (t : Table) (elem size : ℕ) : Type 0 where
  pub shape : Shape
  pub shape_is : slice_get t.elems elem ≡ Some shape
  pub size_is : size ≡ elem_bytes t.elems t.structs elem

-- `kalloc` is asked for such
abbrev pub AsksElements : Table → KernelName → ℕ → ℕ → Type 0
AsksElements t kernel.Kalloc elem size = IsElementOf t elem size
AsksElements t _ elem size = Unit {0}

pub record IsLawfulCall (t : Table) (blocks : List Block) (functions : List Signature) (call : KernelCall) : Type 0 where
  pub text : PrintsText blocks call.name call.pointer.value
  pub handler : TakesHandler (kernel_row call.name).parameters functions call.function
  pub elements : AsksElements t call.name call.elem call.size
