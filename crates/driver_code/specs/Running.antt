-- How instructions follow one another, and where a running stops.
use Rattle.std.specs.Prelude.{ℕ, suc, zero, ◌+◌, max, Bool, List, [], ◌++◌, length, slice_get, if◌then◌else◌}
use Rattle.driver_code.specs.declared.instr.Instr.{Instr}
use Rattle.driver_code.specs.Meaning.{At, Came, Stands, one, number_of}

-- a running: what it came to, the numbers of the check instructions that it took, how many instructions it took, and the most numbers that
-- the stack held
pub record Ran : Type 0 where
  pub came : Came
  pub tested : List ℕ
  pub taken : ℕ
  pub highest : ℕ

-- one instruction with these checks, from a stack of so many numbers, before the rest
abbrev pub more : List ℕ → ℕ → Ran → Ran
more ids height r = record { came = r.came; tested = ids ++ r.tested; taken = r.taken + 1; highest = max height r.highest }

-- nothing more
abbrev pub ran : Came → ℕ → Ran
ran o height = record { came = o; tested = []; taken = 0; highest = height }

-- it goes on where an instruction leads to another one
abbrev pub then_ran : Came → (At → Ran) → Ran
then_ran (Stands c) k = k c
then_ran o k = ran o 0

-- one instruction, and on
abbrev pub on_from : List Instr → At → (At → Ran) → Ran
on_from code c k = more (number_of (slice_get code c.pc)) (length c.stack) (then_ran (one code c) k)

-- on until the run stands at a start, for at most n instructions
unfoldable pub goes_on : List Instr → (ℕ → Bool) → ℕ → At → Ran
goes_on code starts zero d = ran (Stands d) (length d.stack)
goes_on code starts (suc m) d = if starts d.pc then ran (Stands d) (length d.stack) else on_from code d (goes_on code starts m)

-- one instruction at least, and on until the run stands at a start; for at most n more
unfoldable pub run : List Instr → (ℕ → Bool) → ℕ → At → Ran
run code starts n c = on_from code c (goes_on code starts n)
