-- What statements evaluate: pointers with their bounds, and numbers that are handed over.
use Rattle.std.specs.Prelude.{List, [], ◌∷◌, ℤ, pos, ◌+ℤ◌, ◌*ℤ◌, Option, Some, None, Ok, if◌then◌else◌}
use Rattle.std.specs.Ordering.{int_eq}
use Rattle.sd_base.specs.declared.actors.Fat.{Fat}
use Rattle.checked_tree.specs.declared.shapes.Scalar.{Scalar}
use Rattle.checked_tree.specs.declared.shapes.Scalar.TheVariants.{Void, U8, I8, U16, I16, I32, U32, Pointer}
use Rattle.checked_tree.specs.declared.sums.Part.{Part}
use Rattle.checked_tree.specs.declared.sums.Part.TheVariants.{Constant, Atom}
use Rattle.checked_tree.specs.declared.sums.Sum.{Sum}
use Rattle.checked_tree.specs.declared.statements.PointerOperand.{PointerOperand}
use Rattle.checked_tree.specs.declared.statements.Argument.{Argument}
use Rattle.checked_tree.specs.declared.units.CheckedFn.{CheckedFn}
use Rattle.checked_tree.specs.Outcome.{Outcome, Got, ◌>>=◌}
use Rattle.checked_tree.specs.Numbers.{word_of, address, converted, limited}
use Rattle.checked_tree.specs.Conditions.{State, peek}
use Rattle.checked_tree.specs.Eval.{Keep, eval}

-- the value of a part; an expression is evaluated without its checks
abbrev pub part_value : State → Part → Got
part_value s (Constant times value) = Ok (times *ℤ value)
part_value s (Atom times atom) = peek s atom >>= λ v. Ok (times *ℤ v)

-- a sum so far, and the parts still to add
abbrev pub parts_from : State → List Part → ℤ → Got
parts_from s [] sum = Ok sum
parts_from s (p ∷ ps) sum = part_value s p >>= λ v. limited (sum +ℤ v) >>= λ next. parts_from s ps next

-- the value of a sum over expressions
unfoldable pub sum_value : State → Sum → Got
sum_value s l = parts_from s l.parts (pos 0)

-- the null pointer, with its bounds
abbrev pub null : Fat
null = record { value = 0; lo = 0; hi = 0 }

-- a pointer with bounds; each is an address, or it has no meaning
unfoldable pub bounded : ℤ → ℤ → ℤ → Outcome Fat
bounded v lo hi = word_of v >>= λ value. word_of lo >>= λ low. word_of hi >>= λ high. Ok (record { value = value; lo = low; hi = high })

-- a pointer with the bounds that its sums give; the null pointer has the bounds 0 and 0
abbrev pub with_bounds : State → Sum → Sum → ℤ → Outcome Fat
with_bounds s low high v = if int_eq v (pos 0) then Ok null else (sum_value s low >>= λ lo. sum_value s high >>= λ hi. bounded v lo hi)

-- a pointer that is handed over or stored, with its bounds
unfoldable pub operand : Keep → CheckedFn → State → PointerOperand → Outcome Fat
operand keep f s p = eval keep f s p.value >>= with_bounds s p.low p.high

-- a number as a type takes it: converted to an integer type; for a pointer an address, or it has no meaning
unfoldable pub taken : Scalar → ℤ → Got
taken (Pointer size) v = address v
taken Void v = Ok (converted Void v)
taken U8 v = Ok (converted U8 v)
taken I8 v = Ok (converted I8 v)
taken U16 v = Ok (converted U16 v)
taken I16 v = Ok (converted I16 v)
taken I32 v = Ok (converted I32 v)
taken U32 v = Ok (converted U32 v)

-- a number that is handed over
unfoldable pub argument : Keep → CheckedFn → State → Argument → Got
argument keep f s a = eval keep f s a.value >>= taken a.scalar

-- numbers that are handed over, left to right
unfoldable pub arguments : Keep → CheckedFn → State → List Argument → Outcome (List ℤ)
arguments keep f s [] = Ok []
arguments keep f s (a ∷ rest) = argument keep f s a >>= λ v. arguments keep f s rest >>= λ vs. Ok (v ∷ vs)

-- the pointer of a kernel call, if it has one
unfoldable pub optional_operand : Keep → CheckedFn → State → Option PointerOperand → Outcome Fat
optional_operand keep f s None = Ok null
optional_operand keep f s (Some p) = operand keep f s p

-- the value of a `return`, if it has one
unfoldable pub optional_argument : Keep → CheckedFn → State → Option Argument → Outcome (Option ℤ)
optional_argument keep f s None = Ok None
optional_argument keep f s (Some a) = argument keep f s a >>= λ v. Ok (Some v)
