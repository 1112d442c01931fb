-- What contracts see of scripted devices: the answers that wait at each port, and the room for more.
-- Here: Scripted, answers_of, oldest_or_zero; nothing_scripted, with_answer, without_oldest
use Rattle.std.specs.Prelude.{ℕ, ◌-◌, ◌==◌, List, [], ◌∷◌, ◌++◌, if◌then◌else◌, ℤ, pos}

-- The answers that wait, each with its port, in the order in which they were given, and how many more fit.
pub record Scripted : Type 0 where
  pub waiting : List (ℕ × ℤ)
  pub room : ℕ

-- Those of one port, the oldest first.
abbrev pub values_at : ℕ → List (ℕ × ℤ) → List ℤ
values_at port [] = []
values_at port (w ∷ ws) = if w.0 == port then w.1 ∷ values_at port ws else values_at port ws

-- All but the oldest of one port.
abbrev pub but_oldest : ℕ → List (ℕ × ℤ) → List (ℕ × ℤ)
but_oldest port [] = []
but_oldest port (w ∷ ws) = if w.0 == port then ws else w ∷ but_oldest port ws

-- The list of answers of a port, the oldest first.
abbrev pub answers_of : Scripted → ℕ → List ℤ
answers_of devices port = values_at port devices.waiting

-- What a port reads: its oldest answer, or 0 where it has none.
abbrev pub oldest_or_zero : List ℤ → ℤ
oldest_or_zero [] = pos 0
oldest_or_zero (v ∷ vs) = v

-- Devices with room for this many answers and none yet.
abbrev pub nothing_scripted : ℕ → Scripted
nothing_scripted room = record { waiting = []; room = room }

-- After an answer is given to a port.
abbrev pub with_answer : ℕ → ℤ → Scripted → Scripted
with_answer port v devices = record { waiting = devices.waiting ++ (port, v) ∷ []; room = devices.room - 1 }

-- After the oldest answer of a port, if it has any, is taken.
abbrev pub without_oldest : ℕ → Scripted → Scripted
without_oldest port devices = record { waiting = but_oldest port devices.waiting; room = devices.room }
