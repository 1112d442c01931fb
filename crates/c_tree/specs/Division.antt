-- The division of a text into gaps and words, each word the longest that begins at its place, and where it ends.
use Rattle.std.specs.Prelude.{◌≡◌, ℕ, Bool, true, false, List, [], ◌∷◌, ◌++◌, Some, None}
use Rattle.c_tree.specs.declared.limits.LimitKind.{LimitKind}
use Rattle.c_tree.specs.declared.words.Token.{Token}
use Rattle.c_tree.specs.declared.words.Word.{Word}
use Rattle.c_tree.specs.Bytes.{Text}
use Rattle.c_tree.specs.Gaps.{gap, after_gap}
use Rattle.c_tree.specs.Limits.{passed, strings_of}
use Rattle.c_tree.specs.Words.{WordAt, Longest}

-- A place in a text: its line, whether only gaps stand before on this line, the words before, and what is left.
pub data Place : Type 0 where
  place : ℕ → Bool → List Token → Text → Place

-- A word with its line.
abbrev pub token : Word → ℕ → Token
token k n = record { word = k; line = n }

-- From one place to the next: over a gap, or over the longest word, where it passes no limit.
pub data Step : Place → Place → Type 0 where
  takes_gap : {n m : ℕ} {f g : Bool} {ws : List Token} {t v : Text} → after_gap n f t ≡ Some (gap m g v) → Step (place n f ws t) (place m g ws v)
  takes_word : {n : ℕ} {f : Bool} {ws : List Token} {t v : Text} {k : Word} → Longest (strings_of ws) t v k → passed ws k ≡ None → Step (place n f ws t) (place n false (ws ++ token k n ∷ []) v)

-- The places that the division of a text comes to.
pub data Reaches (t : Text) : Place → Type 0 where
  starts : Reaches t (place 1 true [] t)
  goes : {p q : Place} → Reaches t p → Step p q → Reaches t q

-- The text divides into gaps and these words.
abbrev pub IsDivision : Text → List Token → Type 0
IsDivision t ws = (n : ℕ) × (f : Bool) × Reaches t (place n f ws [])

-- No gap and no word begins here, and the text is not at its end.
pub record IsStuck (n : ℕ) (f : Bool) (ws : List Token) (t : Text) : Type 0 where
  pub some : t ≡ [] → ⊥
  pub no_gap : after_gap n f t ≡ None
  pub no_word : (v : Text) (k : Word) → WordAt (strings_of ws) t v k → ⊥

-- The division comes to a byte on line n at which nothing begins.
pub record HasNoWord (t : Text) (n : ℕ) : Type 0 where
  pub fresh : Bool
  pub before : List Token
  pub rest : Text
  pub reaches : Reaches t (place n fresh before rest)
  pub stuck : IsStuck n fresh before rest

-- The division comes to a word on line n that passes a limit, this kind first.
pub record PassesLimit (t : Text) (n : ℕ) (kind : LimitKind) : Type 0 where
  pub fresh : Bool
  pub before : List Token
  pub rest : Text
  pub after : Text
  pub word : Word
  pub reaches : Reaches t (place n fresh before rest)
  pub longest : Longest (strings_of before) rest after word
  pub passes : passed before word ≡ Some kind
