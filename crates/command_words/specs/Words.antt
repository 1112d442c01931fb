-- The words of a command line, told apart: the options `--steps` and `--count`, and all other words. Each definition goes over the words once; `waits` says that the
-- word before is `--steps`, so that this one is its number.
-- Here: are_known; steps_in, counts_in, others_in
use Rattle.std.specs.Prelude.{ℕ, suc, ◌==◌, ◌&&◌, ◌||◌, Bool, true, false, not, List, [], ◌∷◌, drop, codes, bytes_eq, nat_eq, if◌then◌else◌}
use Rattle.std.specs.List.{starts_with}

-- a word, as its bytes
abbrev pub Text : Type 0
Text = List ℕ

-- A word that begins with `-` is an option.
abbrev pub is_option : Text → Bool
is_option [] = false
is_option (b ∷ _) = b == 45

-- A mode, the name of a file or a number: a word that is not empty and does not begin with `-`.
abbrev pub is_plain : Text → Bool
is_plain [] = false
is_plain (b ∷ _) = not (b == 45)

-- The word `--count`.
abbrev pub is_count : Text → Bool
is_count w = bytes_eq w (codes "--count")

-- The word `--steps`, which takes the next word as its number.
abbrev pub is_steps : Text → Bool
is_steps w = bytes_eq w (codes "--steps")

-- A word `--steps=N`, with anything but nothing for N; and that N.
abbrev pub joined : Text → Text
joined w = drop 8 w

abbrev pub is_given : Text → Bool
is_given [] = false
is_given (_ ∷ _) = true

abbrev pub is_joined : Text → Bool
is_joined w = starts_with nat_eq w (codes "--steps=") && is_given (joined w)

-- A word that the command line knows, where no number is waited for.
abbrev pub is_known : Text → Bool
is_known w = is_plain w || (is_count w || (is_steps w || is_joined w))

-- Whether no word is empty, each that begins with `-` is known, and behind each `--steps` stands a word that does not begin with `-`.
abbrev pub are_known : (waits : Bool) → List Text → Bool
are_known waits [] = not waits
are_known true (w ∷ ws) = is_plain w && are_known false ws
are_known false (w ∷ ws) = is_known w && are_known (is_steps w) ws

-- What stands for N in each `--steps N` and `--steps=N`, in their order.
abbrev pub steps_in : (waits : Bool) → List Text → List Text
steps_in waits [] = []
steps_in true (w ∷ ws) = w ∷ steps_in false ws
steps_in false (w ∷ ws) = if is_joined w then joined w ∷ steps_in false ws else steps_in (is_steps w) ws

-- How often `--count` stands there.
abbrev pub counts_in : (waits : Bool) → List Text → ℕ
counts_in waits [] = 0
counts_in true (w ∷ ws) = counts_in false ws
counts_in false (w ∷ ws) = if is_count w then suc (counts_in false ws) else counts_in (is_steps w) ws

-- All other words, in their order: the mode, and what belongs to it.
abbrev pub others_in : (waits : Bool) → List Text → List Text
others_in waits [] = []
others_in true (w ∷ ws) = others_in false ws
others_in false (w ∷ ws) = if is_option w then others_in (is_steps w) ws else w ∷ others_in false ws
