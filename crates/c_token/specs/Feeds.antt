-- The line feeds that are left in a text bound the lines to come.
use Rattle.std.specs.Prelude.{ℕ, ◌+◌, cond, [], ◌∷◌, ◌==◌}
use Rattle.c_tree.specs.Bytes.{Text}

-- How many line feeds a text has.
abbrev pub line_feeds : Text → ℕ
line_feeds [] = 0
line_feeds (c ∷ t) = cond (c == 10) (line_feeds t + 1) (line_feeds t)
