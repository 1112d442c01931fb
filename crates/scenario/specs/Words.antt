-- How a scenario's text is cut: into lines at line feeds, and a line before its comment into words at blanks.
-- Here: lines_of, words_of
use Rattle.std.specs.Prelude.{ℕ, Bool, true, false, ◌==◌, ◌||◌, not, List, [], ◌∷◌, filter, if◌then◌else◌}
use Rattle.std.specs.List.{slice_split, before_first}

-- what ends a line: a line feed
abbrev pub ends_line : ℕ → Bool
ends_line b = b == 10

-- blanks are space, tab and carriage return
abbrev pub is_blank : ℕ → Bool
is_blank b = (b == 32 || b == 9) || b == 13

-- what begins a comment: #
abbrev pub begins_comment : ℕ → Bool
begins_comment b = b == 35

-- a piece of no bytes
abbrev pub is_empty : List ℕ → Bool
is_empty [] = true
is_empty (b ∷ bytes) = false

-- An empty last piece is no line.
abbrev pub but_empty_last : List (List ℕ) → List (List ℕ)
but_empty_last [] = []
but_empty_last (piece ∷ []) = if is_empty piece then [] else piece ∷ []
but_empty_last (piece ∷ next ∷ pieces) = piece ∷ but_empty_last (next ∷ pieces)

-- The lines of a text: the pieces between its line feeds.
abbrev pub lines_of : List ℕ → List (List ℕ)
lines_of text = but_empty_last (slice_split ends_line text)

-- The pieces between blanks that are not empty.
abbrev pub pieces_of : List ℕ → List (List ℕ)
pieces_of bytes = filter (λ piece. not (is_empty piece)) (slice_split is_blank bytes)

-- The words of a line: the pieces before its comment.
abbrev pub words_of : List ℕ → List (List ℕ)
words_of line = pieces_of (before_first begins_comment line)
