-- How the words of a text begin, and what it is to read the longest phrase: the terms in which the grammar is
-- written and in which the readers of phrases answer.
--
-- A phrase of meaning x is a relation `R w v x`: the words w begin with the phrase, and v is what stands after it.
use Rattle.std.specs.Prelude.{◌≡◌, ℕ, ◌<◌, ◌⊎◌, List, [], ◌∷◌, length, Option, None, Some, IfSome}
use Rattle.c_tree.specs.declared.signs.Sign.TheVariants as sign
use Rattle.c_tree.specs.declared.words.Token.{Token}
use Rattle.c_tree.specs.declared.words.Word.{Word}
use Rattle.c_tree.specs.declared.words.Word.TheVariants as word

-- What a list of words begins with: nothing, or a word and the words after it.
pub data Front : Type 0 where
  nothing : Front
  front : Word → List Token → Front

-- The beginning of a list of words.
abbrev pub front_of : List Token → Front
front_of [] = nothing
front_of (t ∷ w) = front t.word w

-- The words w begin with the word k, and u stands after it.
abbrev pub Begins : List Token → Word → List Token → Type 0
Begins w k u = front_of w ≡ front k u

-- The line of the first word, or 0 where there is none.
abbrev pub line_at : List Token → ℕ
line_at [] = 0
line_at (t ∷ w) = t.line

-- A phrase of meaning x with v after it is the answer, or one that the answer goes beyond, at words at which a
-- phrase may go on.
abbrev pub Within : {X : Type 0} → (List Token → Type 0) → List Token → X → X × List Token → Type 0
Within goes v x a = ((a.0 ≡ x) × (a.1 ≡ v)) ⊎ ((length a.1 < length v) × goes v)

-- The same of an answer that may be missing. No phrase is within a missing answer.
abbrev pub Covered : {X : Type 0} → (List Token → Type 0) → List Token → X → Option (X × List Token) → Type 0
Covered goes v x None = ⊥
Covered goes v x (Some a) = Within goes v x a

-- The answer is the longest phrase of R, and the only one of its length. No answer is given only where no phrase
-- of R begins. A shorter phrase ends at words that `goes` holds of.
pub record Best {X : Type 0} (R : List Token → X → Type 0) (goes : List Token → Type 0) (answer : Option (X × List Token)) : Type 0 where
  pub sound : IfSome answer (λ a. R a.1 a.0)
  pub covers : (v : List Token) (x : X) → R v x → Covered goes v x answer

-- The words at which no phrase goes on: those of phrases that have one end.
abbrev pub Never : List Token → Type 0
Never v = ⊥

-- Any number of phrases of R, one after the other.
pub data Each {X : Type 0} (R : List Token → List Token → X → Type 0) : List Token → List Token → List X → Type 0 where
  each_end : {w : List Token} → Each R w w []
  each_more : {w u v : List Token} {x : X} {xs : List X} → R w u x → Each R u v xs → Each R w v (x ∷ xs)

-- A phrase of R in parentheses.
pub data Enclosed {X : Type 0} (R : List Token → List Token → X → Type 0) : List Token → List Token → X → Type 0 where
  enclosed : {w u r v : List Token} {x : X} → Begins w (word.Sign sign.ParenOpen) u → R u r x → Begins r (word.Sign sign.ParenClose) v → Enclosed R w v x
