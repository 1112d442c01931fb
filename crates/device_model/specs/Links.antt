-- How the answers of each port hang together: all answers stand in one list in the order in which they were given,
-- each names the next one of its port, and a queue for each port names its oldest waiting answer and its newest one.
-- Here: waiting_of; port_at, value_at, next_at; IsFirstFrom, IsOldest, IsQueue, IsLinked
use Rattle.std.specs.Prelude.{◌≡◌, ℕ, ◌+◌, ◌<◌, ◌≤◌, List, length, slice_index_or, slice_set, Option, None, Some, IsSome, ℤ}
use Rattle.std.specs.List.{filter_map}
use Rattle.std.specs.Option.{option_map, option_or}
use Rattle.device_model.specs.declared.links.Given.{Given}
use Rattle.device_model.specs.declared.links.Queue.{Queue}

-- an answer that waits, with its port
abbrev pub pair_of : Given → Option (ℕ × ℤ)
pair_of given = option_map (λ v. (given.port, v)) given.value

-- the answers that wait
abbrev pub waiting_of : List Given → List (ℕ × ℤ)
waiting_of answers = filter_map pair_of answers

-- what stands past the end
abbrev pub no_answer : Given
no_answer = record { port = 0; value = None; next = None }

abbrev pub port_at : List Given → ℕ → ℕ
port_at answers m = (slice_index_or answers m no_answer).port

abbrev pub value_at : List Given → ℕ → Option ℤ
value_at answers m = (slice_index_or answers m no_answer).value

abbrev pub next_at : List Given → ℕ → Option ℕ
next_at answers m = (slice_index_or answers m no_answer).next

-- the port stands at k, and at no place from i on before k
pub record FirstAt (answers : List Given) (port i k : ℕ) : Type 0 where
  pub after : i ≤ k
  pub within : k < length answers
  pub here : port_at answers k ≡ port
  pub none_between : (m : ℕ) → i ≤ m → m < k → port_at answers m ≡ port → ⊥

-- the first place from i on at which the port stands, if there is one
abbrev pub IsFirstFrom : List Given → ℕ → ℕ → Option ℕ → Type 0
IsFirstFrom answers port i None = (m : ℕ) → i ≤ m → m < length answers → port_at answers m ≡ port → ⊥
IsFirstFrom answers port i (Some k) = FirstAt answers port i k

-- the answers of the port wait from k on, and are taken before
pub record OldestAt (answers : List Given) (port k : ℕ) : Type 0 where
  pub within : k < length answers
  pub here : port_at answers k ≡ port
  pub taken : (m : ℕ) → m < k → port_at answers m ≡ port → value_at answers m ≡ None
  pub waits : (m : ℕ) → k ≤ m → m < length answers → port_at answers m ≡ port → IsSome (value_at answers m)

-- the oldest answer of the port that waits, if there is one
abbrev pub IsOldest : List Given → ℕ → Option ℕ → Type 0
IsOldest answers port None = (m : ℕ) → m < length answers → port_at answers m ≡ port → value_at answers m ≡ None
IsOldest answers port (Some k) = OldestAt answers port k

-- the queue names the newest answer of the port, and the oldest that waits
pub record QueueOf (answers : List Given) (port : ℕ) (queue : Queue) : Type 0 where
  pub within : queue.newest < length answers
  pub here : port_at answers queue.newest ≡ port
  pub newest : (m : ℕ) → queue.newest < m → m < length answers → port_at answers m ≡ port → ⊥
  pub oldest : IsOldest answers port queue.oldest

-- a port has a queue where it was ever given an answer
abbrev pub IsQueue : List Given → ℕ → Option Queue → Type 0
IsQueue answers port None = (m : ℕ) → m < length answers → port_at answers m ≡ port → ⊥
IsQueue answers port (Some queue) = QueueOf answers port queue

-- each answer names the next one of its port, and each port's queue is right
pub record IsLinked (queue_of : ℕ → Option Queue) (answers : List Given) : Type 0 where
  pub next : (m : ℕ) → m < length answers → IsFirstFrom answers (port_at answers m) (m + 1) (next_at answers m)
  pub queue : (port : ℕ) → IsQueue answers port (queue_of port)

-- the answers after the one at `place` was put behind the newest of its port
abbrev pub linked : List Given → Option Queue → ℕ → List Given
linked answers None place = answers
linked answers (Some queue) place =
    slice_set answers queue.newest (record (slice_index_or answers queue.newest no_answer) { next = Some place })

-- the queue after that
abbrev pub queue_after : Option Queue → ℕ → Queue
queue_after None place = record { oldest = Some place; newest = place }
queue_after (Some queue) place = record { oldest = option_or queue.oldest (Some place); newest = place }

-- the answers after the one at `place` was taken
abbrev pub without_value : List Given → ℕ → List Given
without_value answers place = slice_set answers place (record (slice_index_or answers place no_answer) { value = None })
