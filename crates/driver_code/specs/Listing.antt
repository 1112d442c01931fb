-- The line of an instruction in a listing.
-- Here: word, operands, instr_text; IsSplit, line_before; listed, IsListed
use Rattle.std.specs.Prelude.{◌≡◌, ◌≤◌, ◌<◌, ℕ, suc, zero, List, [], ◌++◌, Option, Some, None, slice_get, codes}
use Rattle.std.specs.Fmt.{decimal, signed_decimal}
use Rattle.checked_tree.specs.declared.shapes.Scalar.{Scalar}
use Rattle.checked_tree.specs.declared.shapes.Scalar.TheVariants.{Void, U8, I8, U16, I16, I32, U32, Pointer}
use Rattle.checked_tree.specs.KernelTable.{kernel_row}
use Rattle.driver_code.specs.declared.instr.Instr.{Instr}
use Rattle.driver_code.specs.declared.instr.Instr.TheVariants as i

-- how many bits are read, `s` where the number has a sign; a pointer has 32 bits, a place of `void` has none
abbrev pub load_word : Scalar → List ℕ
load_word Void = codes "load0"
load_word U8 = codes "load8"
load_word I8 = codes "load8s"
load_word U16 = codes "load16"
load_word I16 = codes "load16s"
load_word I32 = codes "load32s"
load_word U32 = codes "load32"
load_word (Pointer size) = codes "load32"

-- how many bits are stored
abbrev pub store_word : Scalar → List ℕ
store_word Void = codes "store0"
store_word U8 = codes "store8"
store_word I8 = codes "store8"
store_word U16 = codes "store16"
store_word I16 = codes "store16"
store_word I32 = codes "store32"
store_word U32 = codes "store32"
store_word (Pointer size) = codes "store32"

-- the type to which a number is converted
abbrev pub ext_word : Scalar → List ℕ
ext_word Void = codes "ext0"
ext_word U8 = codes "ext8"
ext_word I8 = codes "ext8s"
ext_word U16 = codes "ext16"
ext_word I16 = codes "ext16s"
ext_word I32 = codes "ext32s"
ext_word U32 = codes "ext32"
ext_word (Pointer size) = codes "ext32"

-- the word of an instruction
abbrev pub word : Instr → List ℕ
word (i.Const n) = codes "const"
word (i.Get slot) = codes "get"
word (i.Set slot) = codes "set"
word (i.Load scalar) = load_word scalar
word (i.Store scalar) = store_word scalar
word (i.Fill size) = codes "fill"
word i.Add = codes "add"
word i.Sub = codes "sub"
word i.Mul = codes "mul"
word i.Div = codes "div"
word i.Rem = codes "rem"
word i.Neg = codes "neg"
word i.And = codes "and"
word i.Or = codes "or"
word i.Xor = codes "xor"
word i.Shl = codes "shl"
word i.Shr = codes "shr"
word (i.Ext scalar) = ext_word scalar
word i.Lt = codes "lt"
word i.Le = codes "le"
word i.Eq = codes "eq"
word i.Not = codes "not"
word (i.Jump to) = codes "jump"
word (i.JumpZero to) = codes "jzero"
word (i.Call function awaited) = codes "call"
word (i.Kernel name pointer function elem size awaited) = codes "kernel"
word i.Ret = codes "ret"
word i.RetValue = codes "retv"
word i.Pop = codes "pop"
word i.Dup = codes "dup"
word (i.CheckLe id) = codes "check_le"
word (i.CheckOr id) = codes "check_or"
word (i.CheckMod id size) = codes "check_mod"
word (i.CheckNonZero id) = codes "check_nz"
word (i.CheckEqual id) = codes "check_eq"
word (i.CheckTerm id) = codes "check_term"
word (i.CheckKept id size) = codes "check_kept"

-- a blank before a text
abbrev pub behind : List ℕ → List ℕ
behind text = codes " " ++ text

-- what stands behind the word. What else a call and a kernel call carry is not shown
abbrev pub operands : Instr → List ℕ
operands (i.Const n) = behind (signed_decimal n)
operands (i.Get slot) = behind (decimal slot)
operands (i.Set slot) = behind (decimal slot)
operands (i.Fill size) = behind (decimal size)
operands (i.Jump to) = behind (decimal to)
operands (i.JumpZero to) = behind (decimal to)
operands (i.Call function awaited) = behind (decimal function)
operands (i.Kernel name pointer function elem size awaited) = behind (kernel_row name).spelling
operands (i.CheckLe id) = behind (decimal id)
operands (i.CheckOr id) = behind (decimal id)
operands (i.CheckMod id size) = behind (decimal id) ++ behind (decimal size)
operands (i.CheckNonZero id) = behind (decimal id)
operands (i.CheckEqual id) = behind (decimal id)
operands (i.CheckTerm id) = behind (decimal id)
operands (i.CheckKept id size) = behind (decimal id) ++ behind (decimal size)
operands _ = []

unfoldable pub instr_text : Instr → List ℕ
instr_text x = word x ++ operands x

-- a segment begins at this place or before
abbrev pub BeginsBy : ℕ → Option (ℕ × ℕ) → Type 0
BeginsBy pc (Some s) = s.0 ≤ pc
BeginsBy pc None = ⊥

-- a segment, if there is one, begins behind this place
abbrev pub BeginsBehind : ℕ → Option (ℕ × ℕ) → Type 0
BeginsBehind pc (Some s) = pc < s.0
BeginsBehind pc None = Unit {0}

-- the last of so many segments begins at this place or before, the next one behind it
pub record IsSplit (segments : List (ℕ × ℕ)) (pc count : ℕ) : Type 0 where
  pub last : (k : ℕ) → suc k ≡ count → BeginsBy pc (slice_get segments k)
  pub next : BeginsBehind pc (slice_get segments count)

abbrev pub line_in : Option (ℕ × ℕ) → ℕ
line_in (Some s) = s.1
line_in None = 0

-- the line of the last of so many segments, 0 where there is none
abbrev pub line_before : List (ℕ × ℕ) → ℕ → ℕ
line_before segments zero = 0
line_before segments (suc k) = line_in (slice_get segments k)

abbrev pub shown : Option Instr → List ℕ
shown (Some x) = instr_text x
shown None = []

-- FUNCTION PC LINE INSTR
abbrev pub listed : List ℕ → ℕ → ℕ → Option Instr → List ℕ
listed name pc line x = name ++ behind (decimal pc) ++ behind (decimal line) ++ codes " " ++ shown x

-- the line of the instruction at this place, with the line of the segment in which it stands
pub record IsListed (name : List ℕ) (instrs : List Instr) (segments : List (ℕ × ℕ)) (pc : ℕ) (text : List ℕ) : Type 0 where
  pub count : ℕ
  pub within : IsSplit segments pc count
  pub text_is : text ≡ listed name pc (line_before segments count) (slice_get instrs pc)
