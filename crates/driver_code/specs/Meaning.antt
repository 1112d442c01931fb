-- What an instruction does, over a stack of whole numbers, the locals and the memory.
use Rattle.std.specs.Prelude.{ℕ, ◌+◌, ◌^◌, Bool, true, false, not, ◌||◌, ◌&&◌, List, [], ◌∷◌, ℤ, pos, ◌+ℤ◌, ◌-ℤ◌, ◌*ℤ◌, neg_ℤ, int_lt, int_le, int_div, int_rem, unsigned_abs, Option, Some, None, Ok, Err, slice_get, slice_set, slice_index_or, if◌then◌else◌, bit_and, bit_or, bit_xor}
use Rattle.std.specs.Ordering.{int_eq}
use Rattle.checked_tree.specs.declared.stops.Stop.TheVariants.{Failed, Wild}
use Rattle.checked_tree.specs.declared.kernel.KernelName.{KernelName}
use Rattle.checked_tree.specs.declared.kernel.KernelCall.{KernelCall}
use Rattle.driver_code.specs.declared.instr.Awaited.{Awaited}
use Rattle.driver_code.specs.declared.instr.Instr.{Instr}
use Rattle.driver_code.specs.declared.instr.Instr.TheVariants as i
use Rattle.byte_memory.specs.Tested.{Memory}
use Rattle.checked_tree.specs.Outcome.{Outcome, Got}
use Rattle.checked_tree.specs.Numbers.{converted, low_bits, shifted_right, truth}
use Rattle.checked_tree.specs.Memory.{load, store, cleared, is_clear}
use Rattle.checked_tree.specs.Conditions.{State, is_multiple}
use Rattle.checked_tree.specs.Operands.{null}
use Rattle.checked_tree.specs.Act.{kernel_call}

-- where a run stands: its place, its numbers (topmost first), and the state
pub record At : Type 0 where
  pub pc : ℕ
  pub stack : List ℤ
  pub state : State

-- what an instruction comes to
pub data Came : Type 0 where
  Stands : At → Came
  Fails : ℕ → Came  -- the check with this number
  Calls : ℕ → List ℤ → Awaited → At → Came  -- a function with these arguments, what is awaited of it, and the place behind
  Asks : KernelCall → Awaited → At → Came  -- the kernel, likewise
  Returns : Option ℤ → State → Came
  Outside : Came  -- an access that is not inside, a division by 0
  Leaves128 : Came  -- a number that 128 bits do not hold
  Stuck : Came  -- a missing operand, no instruction

abbrev pub at : ℕ → List ℤ → State → At
at pc stack s = record { pc = pc; stack = stack; state = s }

abbrev pub on : ℕ → List ℤ → State → Came
on pc stack s = Stands (at pc stack s)

-- 128 bits hold it
abbrev pub fits_128 : ℤ → Bool
fits_128 z = int_le (neg_ℤ (pos (2 ^ 127))) z && int_lt z (pos (2 ^ 127))

-- the result of an operator on whole numbers
unfoldable pub result : ℤ → ℕ → List ℤ → State → Came
result z pc rest s = if fits_128 z then on (pc + 1) (z ∷ rest) s else Leaves128

-- what wants a value
abbrev pub with_got : Got → (ℤ → Came) → Came
with_got (Ok v) k = k v
with_got (Err (Failed line kind)) k = Outside
with_got (Err Wild) k = Outside

abbrev pub with_memory : Outcome Memory → (Memory → Came) → Came
with_memory (Ok m) k = k m
with_memory (Err (Failed line kind)) k = Outside
with_memory (Err Wild) k = Outside

abbrev pub with_bool : Outcome Bool → (Bool → Came) → Came
with_bool (Ok b) k = k b
with_bool (Err (Failed line kind)) k = Outside
with_bool (Err Wild) k = Outside

abbrev pub on_one : List ℤ → (ℤ → List ℤ → Came) → Came
on_one (x ∷ rest) k = k x rest
on_one _ k = Stuck

-- the lower one first
abbrev pub on_two : List ℤ → (ℤ → ℤ → List ℤ → Came) → Came
on_two (y ∷ (x ∷ rest)) k = k x y rest
on_two _ k = Stuck

abbrev pub on_three : List ℤ → (ℤ → ℤ → ℤ → List ℤ → Came) → Came
on_three (z ∷ (y ∷ (x ∷ rest))) k = k x y z rest
on_three _ k = Stuck

-- a check goes on or fails
abbrev pub checks : Bool → ℕ → ℕ → List ℤ → State → Came
checks true id pc rest s = on (pc + 1) rest s
checks false id pc rest s = Fails id

abbrev pub divided : (ℤ → ℤ → ℤ) → ℤ → ℤ → ℕ → List ℤ → State → Came
divided by x y pc rest s = if int_eq y (pos 0) then Outside else result (by x y) pc rest s

-- an operator on 32 bits
abbrev pub on_bits : (ℕ → ℕ → ℕ) → ℤ → ℤ → ℤ
on_bits by x y = pos (by (low_bits 32 x) (low_bits 32 y))

-- the numbers of a stack in the order in which they were put, before others
unfoldable pub unstacked : List ℤ → List ℤ → List ℤ
unstacked [] values = values
unstacked (v ∷ stack) values = unstacked stack (v ∷ values)

-- a call takes the whole stack: its arguments
abbrev pub asked : KernelName → Bool → ℕ → ℕ → ℕ → Awaited → List ℤ → At → Came
asked name false function elem size awaited stack behind = Asks (kernel_call name function elem size (unstacked stack []) null) awaited behind
asked name true function elem size awaited (hi ∷ (lo ∷ (v ∷ stack))) behind =
    Asks (kernel_call name function elem size (unstacked stack []) (record { value = unsigned_abs v; lo = unsigned_abs lo; hi = unsigned_abs hi })) awaited behind
asked name true function elem size awaited _ behind = Stuck

abbrev pub act : Option Instr → ℕ → List ℤ → State → Came
act None pc stack s = Stuck
act (Some (i.Const n)) pc stack s = on (pc + 1) (n ∷ stack) s
act (Some (i.Get slot)) pc stack s = on (pc + 1) (slice_index_or s.locals slot (pos 0) ∷ stack) s
act (Some (i.Set slot)) pc stack s = on_one stack (λ v rest. on (pc + 1) rest (record s { locals = slice_set s.locals slot v }))
act (Some (i.Load scalar)) pc stack s = on_one stack (λ a rest. with_got (load s.memory scalar a) (λ v. on (pc + 1) (v ∷ rest) s))
act (Some (i.Store scalar)) pc stack s = on_two stack (λ a v rest. with_memory (store s.memory scalar a v) (λ m. on (pc + 1) rest (record s { memory = m })))
act (Some (i.Fill size)) pc stack s = on_one stack (λ a rest. with_memory (cleared s.memory a size) (λ m. on (pc + 1) rest (record s { memory = m })))
act (Some i.Add) pc stack s = on_two stack (λ x y rest. result (x +ℤ y) pc rest s)
act (Some i.Sub) pc stack s = on_two stack (λ x y rest. result (x -ℤ y) pc rest s)
act (Some i.Mul) pc stack s = on_two stack (λ x y rest. result (x *ℤ y) pc rest s)
act (Some i.Div) pc stack s = on_two stack (λ x y rest. divided int_div x y pc rest s)
act (Some i.Rem) pc stack s = on_two stack (λ x y rest. divided int_rem x y pc rest s)
act (Some i.Neg) pc stack s = on_one stack (λ x rest. result (neg_ℤ x) pc rest s)
act (Some i.And) pc stack s = on_two stack (λ x y rest. on (pc + 1) (on_bits bit_and x y ∷ rest) s)
act (Some i.Or) pc stack s = on_two stack (λ x y rest. on (pc + 1) (on_bits bit_or x y ∷ rest) s)
act (Some i.Xor) pc stack s = on_two stack (λ x y rest. on (pc + 1) (on_bits bit_xor x y ∷ rest) s)
act (Some i.Shl) pc stack s = on_two stack (λ x y rest. result (x *ℤ pos (2 ^ (low_bits 5 y))) pc rest s)
act (Some i.Shr) pc stack s = on_two stack (λ x y rest. on (pc + 1) (shifted_right x (low_bits 5 y) ∷ rest) s)
act (Some (i.Ext scalar)) pc stack s = on_one stack (λ x rest. on (pc + 1) (converted scalar x ∷ rest) s)
act (Some i.Lt) pc stack s = on_two stack (λ x y rest. on (pc + 1) (truth (int_lt x y) ∷ rest) s)
act (Some i.Le) pc stack s = on_two stack (λ x y rest. on (pc + 1) (truth (int_le x y) ∷ rest) s)
act (Some i.Eq) pc stack s = on_two stack (λ x y rest. on (pc + 1) (truth (int_eq x y) ∷ rest) s)
act (Some i.Not) pc stack s = on_one stack (λ x rest. on (pc + 1) (truth (int_eq x (pos 0)) ∷ rest) s)
act (Some (i.Jump to)) pc stack s = on to stack s
act (Some (i.JumpZero to)) pc stack s = on_one stack (λ x rest. if int_eq x (pos 0) then on to rest s else on (pc + 1) rest s)
act (Some (i.Call f awaited)) pc stack s = Calls f (unstacked stack []) awaited (at (pc + 1) [] s)
act (Some (i.Kernel name pointer function elem size awaited)) pc stack s = asked name pointer function elem size awaited stack (at (pc + 1) [] s)
act (Some i.Ret) pc stack s = Returns None s
act (Some i.RetValue) pc stack s = on_one stack (λ x rest. Returns (Some x) s)
act (Some i.Pop) pc stack s = on_one stack (λ x rest. on (pc + 1) rest s)
act (Some i.Dup) pc stack s = on_one stack (λ x rest. on (pc + 1) (x ∷ (x ∷ rest)) s)
act (Some (i.CheckLe id)) pc stack s = on_two stack (λ x y rest. checks (int_le x y) id pc rest s)
act (Some (i.CheckOr id)) pc stack s = on_three stack (λ g x y rest. checks (int_eq g (pos 0) || int_le x y) id pc rest s)
act (Some (i.CheckMod id size)) pc stack s = on_two stack (λ g x rest. checks (int_eq g (pos 0) || is_multiple x size) id pc rest s)
act (Some (i.CheckNonZero id)) pc stack s = on_one stack (λ x rest. checks (not (int_eq x (pos 0))) id pc rest s)
act (Some (i.CheckEqual id)) pc stack s = on_two stack (λ x y rest. checks (int_eq x y) id pc rest s)
act (Some (i.CheckTerm id)) pc stack s = on_two stack (λ x y rest. checks (not (int_eq x (pos 0)) || int_eq y (pos 0)) id pc rest s)
act (Some (i.CheckKept id size)) pc stack s = on_three stack (λ x y a rest. if int_eq x y then on (pc + 1) rest s else with_bool (is_clear s.memory a size) (λ b. checks b id pc rest s))

-- one instruction of a code
unfoldable pub one : List Instr → At → Came
one code c = act (slice_get code c.pc) c.pc c.stack c.state

-- the number of a check instruction
abbrev pub number_of : Option Instr → List ℕ
number_of (Some (i.CheckLe id)) = id ∷ []
number_of (Some (i.CheckOr id)) = id ∷ []
number_of (Some (i.CheckMod id size)) = id ∷ []
number_of (Some (i.CheckNonZero id)) = id ∷ []
number_of (Some (i.CheckEqual id)) = id ∷ []
number_of (Some (i.CheckTerm id)) = id ∷ []
number_of (Some (i.CheckKept id size)) = id ∷ []
number_of _ = []
