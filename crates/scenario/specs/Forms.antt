-- The forms of a scenario's lines: what the words of a line say.
-- Here: Said; load_said, call_said, kernel_said, answers_said; line_said
use Rattle.std.specs.Prelude.{ℕ, Bool, true, false, not, ◌==◌, ◌&&◌, bytes_eq, codes, List, [], ◌∷◌, length, nat_le, Option, Some, None, is_some, unwrap_or, slice_get, if◌then◌else◌, ℤ, pos}
use Rattle.std.specs.List.{filter_map, list_all}
use Rattle.std.specs.Option.{option_map, option_and_then}
use Rattle.scenario.specs.declared.keywords.Keyword.{Keyword}
use Rattle.scenario.specs.declared.keywords.Keyword.TheVariants as keyword
use Rattle.scenario.specs.declared.keywords.KernelWord.{KernelWord}
use Rattle.scenario.specs.declared.keywords.KernelWord.TheVariants as word
use Rattle.scenario.specs.declared.event.Event.{Event}
use Rattle.scenario.specs.declared.event.Event.TheVariants as e
use Rattle.scenario.specs.declared.event.KernelEvent.{KernelEvent}
use Rattle.scenario.specs.declared.event.KernelEvent.TheVariants as k
use Rattle.scenario.specs.Numbers.{number_within, signed_of, is_name, driver_of, task_of}
use Rattle.scenario.specs.Keywords.{keyword_of, kernel_word_of}

-- What a line says: nothing, an event, or the values that a port is given.
pub data Said : Type 0 where
  nothing : Said
  event : Event → Said
  answers : ℕ → List ℤ → Said

infixl 10 ◌>>=◌
abbrev pub ◌>>=◌ : {A B : Type 0} → Option A → (A → Option B) → Option B
o >>= f = option_and_then f o

-- exactly one word
abbrev pub only_of : List (List ℕ) → Option (List ℕ)
only_of [] = None
only_of (word ∷ []) = Some word
only_of (word ∷ next ∷ words) = None

-- exactly two
abbrev pub two_of : List (List ℕ) → Option (List ℕ × List ℕ)
two_of [] = None
two_of (word ∷ []) = None
two_of (word ∷ next ∷ []) = Some (word, next)
two_of (word ∷ next ∷ last ∷ words) = None

-- no word
abbrev pub none_of : List (List ℕ) → Bool
none_of [] = true
none_of (word ∷ words) = false

-- words that all are values, and the values
abbrev pub are_values : List (List ℕ) → Bool
are_values words = list_all (λ word. is_some (signed_of word)) words

abbrev pub values_in : List (List ℕ) → List ℤ
values_in words = filter_map signed_of words

-- the value at a place, and 0 past the last
abbrev pub argument_at : List (List ℕ) → ℕ → ℤ
argument_at words place = unwrap_or (option_and_then signed_of (slice_get words place)) (pos 0)

-- the arguments of a call: the values in their order, and zeros
abbrev pub arguments_in : List (List ℕ) → List ℤ
arguments_in words =
    argument_at words 0 ∷ argument_at words 1 ∷ argument_at words 2 ∷ argument_at words 3
    ∷ argument_at words 4 ∷ argument_at words 5 ∷ argument_at words 6 ∷ argument_at words 7 ∷ []

-- dK T
abbrev pub driver_and_task : ℕ → List (List ℕ) → Option (ℕ × ℕ)
driver_and_task drivers words = two_of words >>= λ two. driver_of drivers two.0 >>= λ driver. task_of two.1 >>= λ task. Some (driver, task)

-- N, a number to `most`
abbrev pub only_number : ℕ → List (List ℕ) → Option ℕ
only_number most words = only_of words >>= λ word. number_within 0 most word

-- V
abbrev pub only_value : List (List ℕ) → Option ℤ
only_value words = only_of words >>= signed_of

-- behind dK T of a load: nothing, which is 0, or in version 2 `restarts N`, N to 100
abbrev pub restarts_said : ℕ → List (List ℕ) → Option ℕ
restarts_said version [] = Some 0
restarts_said version (word ∷ words) = if version == 2 then (two_of (word ∷ words) >>= λ two. if bytes_eq two.0 (codes "restarts") then number_within 0 100 two.1 else None) else None

-- load dK T, and in version 2 load dK T restarts N
abbrev pub load_said : ℕ → ℕ → List (List ℕ) → Option Event
load_said version drivers [] = None
load_said version drivers (driver ∷ []) = None
load_said version drivers (driver ∷ task ∷ words) =
    driver_of drivers driver >>= λ d. task_of task >>= λ t. restarts_said version words >>= λ restarts. Some (e.Load d t restarts)

-- call dK T NAME, and 0 to 8 V
abbrev pub call_said : ℕ → List (List ℕ) → Option Event
call_said drivers [] = None
call_said drivers (driver ∷ []) = None
call_said drivers (driver ∷ task ∷ []) = None
call_said drivers (driver ∷ task ∷ name ∷ words) =
    driver_of drivers driver >>= λ d. task_of task >>= λ t.
    if is_name name && (are_values words && nat_le (length words) 8) then Some (e.Call d t name (arguments_in words) (length words)) else None

-- kernel, one of its words and V, or two V
abbrev pub kernel_arguments : KernelWord → List (List ℕ) → Option KernelEvent
kernel_arguments word.Line words = option_map k.Line (only_value words)
kernel_arguments word.FreeLine words = option_map k.FreeLine (only_value words)
kernel_arguments word.Param words = two_of words >>= λ two. signed_of two.0 >>= λ key. signed_of two.1 >>= λ value. Some (k.Param key value)
kernel_arguments word.ClearParam words = option_map k.ClearParam (only_value words)
kernel_arguments word.Hold words = option_map k.Hold (only_value words)
kernel_arguments word.DropHold words = option_map k.DropHold (only_value words)
kernel_arguments word.Lock words = option_map k.Lock (only_value words)
kernel_arguments word.Unlock words = option_map k.Unlock (only_value words)

abbrev pub kernel_said : List (List ℕ) → Option KernelEvent
kernel_said [] = None
kernel_said (word ∷ words) = kernel_word_of word >>= λ kernel_word. kernel_arguments kernel_word words

-- answer P, and one or more V
abbrev pub answers_said : List (List ℕ) → Option Said
answers_said [] = None
answers_said (port ∷ words) = number_within 0 65535 port >>= λ p. if not (none_of words) && are_values words then Some (answers p (values_in words)) else None

-- version 2, which as the first line with words gives a scenario its version
abbrev pub is_version_two : List (List ℕ) → Bool
is_version_two [] = false
is_version_two (word ∷ []) = false
is_version_two (word ∷ number ∷ []) = bytes_eq word (codes "version") && bytes_eq number (codes "2")
is_version_two (word ∷ number ∷ last ∷ words) = false

-- What a line says that begins with the keyword, in a scenario of the version.
abbrev pub keyword_said : ℕ → ℕ → Keyword → List (List ℕ) → Option Said
keyword_said version drivers keyword.Load words = option_map event (load_said version drivers words)
keyword_said version drivers keyword.Restart words = driver_and_task drivers words >>= λ named. Some (event (e.Restart named.0 named.1))
keyword_said version drivers keyword.Unload words = only_of words >>= λ word. driver_of drivers word >>= λ driver. Some (event (e.Unload driver))
keyword_said version drivers keyword.Call words = option_map event (call_said drivers words)
keyword_said version drivers keyword.Run words = two_of words >>= λ two. task_of two.0 >>= λ task. number_within 0 10000000 two.1 >>= λ n. Some (event (e.Run task n))
keyword_said version drivers keyword.Finish words = only_of words >>= λ word. task_of word >>= λ task. Some (event (e.Finish task))
keyword_said version drivers keyword.Irq words = only_number 63 words >>= λ line. Some (event (e.Irq line))
keyword_said version drivers keyword.Tick words = only_number 1000000 words >>= λ n. Some (event (e.Tick n))
keyword_said version drivers keyword.Work words = only_number 256 words >>= λ n. Some (event (e.Work n))
keyword_said version drivers keyword.Answer words = answers_said words
keyword_said version drivers keyword.Kernel words = kernel_said words >>= λ kernel. Some (event (e.Kernel kernel))
keyword_said version drivers keyword.Show words = if none_of words then Some (event e.Show) else None

-- What the words of a line say in a scenario of the version, of this many drivers; nothing where there are none, and None where they
-- have no reading.
abbrev pub line_said : ℕ → ℕ → List (List ℕ) → Option Said
line_said version drivers [] = Some nothing
line_said version drivers (word ∷ words) = keyword_of word >>= λ keyword. keyword_said version drivers keyword words
