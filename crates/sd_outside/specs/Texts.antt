-- Named texts, each read from its front.
use Rattle.std.specs.Prelude.{◌≡◌, ℕ, Bool, true, ◌&&◌, not, min, if◌then◌else◌, List, [], ◌∷◌, length, drop, map, Option, Some, option_map, find, All, bytes_eq, String, string_bytes, Vec}
use Rattle.std.specs.List.{list_all}

-- a text: its name, and its bytes that are not read yet
pub record Text : Type 0 where
  pub name : List ℕ
  pub bytes : List ℕ

-- a text by what keeps it
abbrev pub text_of : {X Y : Type 0} → String X × Vec ℕ Y → Text
text_of kept = record { name = string_bytes kept.0; bytes = kept.1.items }

-- does the text have this name?
abbrev pub is_named : List ℕ → Text → Bool
is_named name text = bytes_eq text.name name

-- what is left of a name, where there is a text of that name
abbrev pub left_of : List Text → List ℕ → Option (List ℕ)
left_of texts name = option_map (λ t. t.bytes) (find (is_named name) texts)

-- a text without its first n bytes
abbrev pub without_front : ℕ → Text → Text
without_front n text = record { name = text.name; bytes = drop n text.bytes }

-- the texts once n bytes of a name were read
abbrev pub read_on : List Text → List ℕ → ℕ → List Text
read_on [] name n = []
read_on (t ∷ ts) name n = if is_named name t then without_front n t ∷ ts else t ∷ read_on ts name n

-- how many bytes a read moves: all that is left, where the buffer and the most that a read moves allow it
abbrev pub moved : ℕ → ℕ → List ℕ → ℕ
moved most room left = min most (min room (length left))

-- no two names are the same
abbrev pub all_differ : List (List ℕ) → Bool
all_differ [] = true
all_differ (x ∷ xs) = list_all (λ y. not (bytes_eq x y)) xs && all_differ xs

-- no two texts have the same name
abbrev pub names_differ : List Text → Bool
names_differ texts = all_differ (map (λ t. t.name) texts)

-- under the name of each text its own bytes are left
abbrev pub TellsEach : List Text → Type 0
TellsEach texts = All (λ t. left_of texts t.name ≡ Some t.bytes) texts
