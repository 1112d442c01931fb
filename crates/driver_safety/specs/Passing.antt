-- What a check that a rule asks for says of a state, and a check of a function that tests it.
use Rattle.std.specs.Prelude.{◌≡◌, ◌≢◌, ◌⊎◌, IsTrue, ℕ, ◌+◌, ◌<◌, ◌^◌, ◌==◌, List, ◌++◌, ℤ, pos, negsuc, ◌-ℤ◌, int_le, Bool, not}
use Rattle.std.specs.Prelude.{◌||◌, Option, Some, None, slice_get}
use Rattle.std.specs.List.{list_all}
use Rattle.byte_memory.specs.Bytes.{bytes_at}
use Rattle.byte_memory.specs.Tested.{is_inside}
use Rattle.checked_tree.specs.declared.units.CheckedFn.{CheckedFn}
use Rattle.checked_tree.specs.declared.sums.Part.{Part}
use Rattle.checked_tree.specs.declared.sums.Sum.{Sum}
use Rattle.checked_tree.specs.Outcome.{Safe}
use Rattle.checked_tree.specs.Conditions.{State, is_multiple, is_end}
use Rattle.checked_tree.specs.Eval.{test, check_of}
use Rattle.deputy_rules.specs.declared.asked.Asked.{Asked}
use Rattle.deputy_rules.specs.declared.asked.AskedCond.{AskedCond}
use Rattle.deputy_rules.specs.declared.asked.AskedCond.TheVariants as asked
use Rattle.deputy_rules.specs.Numbering.{Numbered}
use Rattle.deputy_rules.specs.SumValues.{part_at, parts_at, PartHasValue, HaveValues}

abbrev pub sum_at : State → Sum → ℤ
sum_at st s = parts_at st s.parts

abbrev pub SumHasValue : State → Sum → Type 0
SumHasValue st s = HaveValues st s.parts

-- the address that a number is
abbrev pub place_of : ℤ → ℕ
place_of (pos n) = n
place_of (negsuc n) = 0

-- n bytes that are inside
pub record IsInside (st : State) (z : ℤ) (n : ℕ) : Type 0 where
  pub is : z ≡ pos (place_of z)
  pub small : place_of z < 2 ^ 32
  pub inside : IsTrue (is_inside st.memory (place_of z) n)

-- whether they are 0
abbrev pub clear_at : State → ℤ → ℕ → Bool
clear_at st z n = list_all (λ b. b == 0) (bytes_at st.memory.bytes (place_of z) n)

abbrev pub NewHasValue : State → Option Part → Type 0
NewHasValue st None = Unit {0}
NewHasValue st (Some p) = PartHasValue st p

abbrev pub new_at : State → Option Part → Option ℤ
new_at st None = None
new_at st (Some p) = Some (part_at st p)

-- all expressions of a condition have values, and the bytes that it reads are inside
abbrev pub HasSides : State → AskedCond → Type 0
HasSides st (asked.Le left right) = SumHasValue st left × SumHasValue st right
HasSides st (asked.Guarded left right guard) = SumHasValue st left × SumHasValue st right × SumHasValue st guard
HasSides st (asked.Aligned value low size guard) = SumHasValue st value × SumHasValue st low × SumHasValue st guard
HasSides st (asked.NonZero p) = PartHasValue st p
HasSides st (asked.Equal p z) = PartHasValue st p
HasSides st (asked.Term at new) = SumHasValue st at × NewHasValue st new × IsInside st (sum_at st at) 1
HasSides st (asked.Kept old new at size) = PartHasValue st old × PartHasValue st new × SumHasValue st at × IsInside st (sum_at st at) size

-- what it says then
abbrev pub Passes : State → AskedCond → Type 0
Passes st (asked.Le left right) = IsTrue (int_le (sum_at st left) (sum_at st right))
Passes st (asked.Guarded left right guard) = (sum_at st guard ≡ pos 0) ⊎ IsTrue (int_le (sum_at st left) (sum_at st right))
Passes st (asked.Aligned value low size guard) = (sum_at st guard ≡ pos 0) ⊎ IsTrue (is_multiple (sum_at st value -ℤ sum_at st low) size)
Passes st (asked.NonZero p) = part_at st p ≢ pos 0
Passes st (asked.Equal p z) = part_at st p ≡ z
Passes st (asked.Term at new) = IsTrue (not (clear_at st (sum_at st at) 1) || is_end (new_at st new))
Passes st (asked.Kept old new at size) = (part_at st old ≡ part_at st new) ⊎ IsTrue (clear_at st (sum_at st at) size)

-- the function's check with this number tests the condition: where its expressions have values, the test is not wild, and passes only where
-- it holds
pub record IsTested (f : CheckedFn) (st : State) (id : ℕ) (cond : AskedCond) : Type 0 where
  pub tested : HasSides st cond → Safe (test f st (check_of f id)) (λ _. Passes st cond)

-- the checks that were asked for stand in the function, behind its first ones
pub record AreTested (f : CheckedFn) (st : State) (first : ℕ) (all : List Asked) : Type 0 where
  pub each : (k : ℕ) (q : Asked) → slice_get all k ≡ Some q → IsTested f st (first + (k + 1)) q.cond

-- the one list is the front of the other
abbrev pub IsFront : {A : Type 0} → List A → List A → Type 0
IsFront {A = A} s t = (more : List A) × (t ≡ s ++ more)

-- a function in which the atoms and checks stand that were numbered so far
pub record StandIn (f : CheckedFn) (n : Numbered) : Type 0 where
  pub atoms : IsFront n.atoms f.atoms
  pub checks : IsFront n.checks f.checks
