-- What stands between words: blanks, comments (C99, 6.4.9) and marker lines. Lines are counted by line feeds.
use Rattle.std.specs.Prelude.{ℕ, ◌+◌, Bool, true, false, cond, ◌&&◌, ◌||◌, [], ◌∷◌, ◌==◌, Option, Some, None, codes}
use Rattle.c_tree.specs.Bytes.{Text, is_digit, first_is}

-- Where a text goes on behind a gap: the line, whether only gaps stand before on this line, and what is left.
pub data Gap : Type 0 where
  gap : ℕ → Bool → Text → Gap

-- Space, tab, form feed, carriage return and line feed.
abbrev pub is_blank : ℕ → Bool
is_blank c = c == 32 || (c == 10 || (c == 9 || (c == 13 || c == 12)))

-- The line behind a byte.
abbrev pub line_after : ℕ → ℕ → ℕ
line_after n c = cond (c == 10) (n + 1) n

-- Whether a text begins with these two bytes.
abbrev pub begins_with_two : ℕ → ℕ → Text → Bool
begins_with_two a b [] = false
begins_with_two a b (c ∷ []) = false
begins_with_two a b (c ∷ d ∷ t) = c == a && d == b

-- `/*` opens a comment that runs to the next `*/`, and `//` one that runs to the line's end.
abbrev pub opens_block : Text → Bool
opens_block t = begins_with_two 47 42 t

abbrev pub opens_line : Text → Bool
opens_line t = begins_with_two 47 47 t

-- Behind the next `*/`, if there is one.
abbrev pub after_block : ℕ → Bool → Text → Option Gap
after_block n fresh [] = None
after_block n fresh (c ∷ []) = None
after_block n fresh (c ∷ d ∷ t) = cond (c == 42 && d == 47) (Some (gap n fresh t)) (after_block (line_after n c) (fresh || c == 10) (d ∷ t))

-- From the next line feed on.
abbrev pub after_line : Text → Text
after_line [] = []
after_line (c ∷ t) = cond (c == 10) (c ∷ t) (after_line t)

-- Without the spaces and tabs in front.
abbrev pub after_spaces : Text → Text
after_spaces [] = []
after_spaces (c ∷ t) = cond (c == 32 || c == 9) (after_spaces t) (c ∷ t)

-- Whether a text begins with this one.
abbrev pub begins_with : Text → Text → Bool
begins_with [] t = true
begins_with (a ∷ p) [] = false
begins_with (a ∷ p) (c ∷ t) = c == a && begins_with p t

-- What makes a line that begins with `#` a marker line: a decimal digit or `pragma`, after spaces or tabs.
abbrev pub is_marker : Text → Bool
is_marker t = first_is is_digit (after_spaces t) || begins_with (codes "pragma") (after_spaces t)

-- Behind the comment that a `/` opens, with the `*` first in the text.
abbrev pub after_comment : ℕ → Bool → Text → Option Gap
after_comment n fresh [] = None
after_comment n fresh (c ∷ t) = after_block n fresh t

-- Behind the blank, comment or marker line that begins here, if one does. A marker line begins only
-- where nothing but gaps stands before it on its line.
abbrev pub after_gap : ℕ → Bool → Text → Option Gap
after_gap n fresh [] = None
after_gap n fresh (c ∷ t) =
    cond (is_blank c) (Some (gap (line_after n c) (fresh || c == 10) t))
    (cond (opens_block (c ∷ t)) (after_comment n fresh t)
    (cond (opens_line (c ∷ t) || (fresh && (c == 35 && is_marker t))) (Some (gap n fresh (after_line t))) None))
