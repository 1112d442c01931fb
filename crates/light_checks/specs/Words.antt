-- Words whose numbers are small: those of what is short.
use Rattle.std.specs.Prelude.{◌≤◌, ◌^◌, List, length, All}
use Rattle.c_tree.specs.declared.words.Word.{Word}
use Rattle.c_tree.specs.declared.words.Word.TheVariants as word

-- a number or a character of at most 2^32
abbrev pub IsSmallWord : Word → Type 0
IsSmallWord (word.Number n s) = n ≤ 2 ^ 32
IsSmallWord (word.Character c) = c ≤ 2 ^ 32
IsSmallWord _ = Unit {0}

-- at most 1,000 words, each of which is small
pub record IsReadable (ks : List Word) : Type 0 where
  pub words : length ks ≤ 1000
  pub small : All IsSmallWord ks
