-- The word that a kind and a spelling make.
use Rattle.std.specs.Prelude.{ℕ}
use Rattle.c_tree.specs.declared.words.Word.{Word}
use Rattle.c_tree.specs.declared.words.Word.TheVariants as word
use Rattle.c_tree.specs.Bytes.{Text}
use Rattle.c_tree.specs.Characters.{meaning}
use Rattle.c_tree.specs.Words.{WordAt, Longest}
use Rattle.c_token.specs.declared.lexemes.Kind.{Kind}
use Rattle.c_token.specs.declared.lexemes.Kind.TheVariants as kind

-- A name is its spelling, and a string what its spelling means, with its number.
abbrev pub word_of : ℕ → Kind → Text → Word
word_of i kind.Name b = word.Name b
word_of i (kind.Keyword k) b = word.Keyword k
word_of i (kind.Number n x) b = word.Number n x
word_of i (kind.Character c) b = word.Character c
word_of i kind.String b = word.String (meaning b) i
word_of i (kind.Sign s) b = word.Sign s

-- The longest word at the text t is of this kind with this spelling, and v stands behind it.
pub record IsLongest (t : Text) (a : Kind) (b v : Text) : Type 0 where
  pub longest : (i : ℕ) → Longest i t v (word_of i a b)

-- No word begins at the text.
pub record BeginsNoWord (t : Text) : Type 0 where
  pub none : (i : ℕ) (v : Text) (k : Word) → WordAt i t v k → ⊥
