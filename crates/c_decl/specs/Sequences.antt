-- Phrases that are made of others, one behind the other. Each is a relation as those of the grammar: the words w begin with
-- a phrase of that meaning, and v is what stands after it.
use Rattle.std.specs.Prelude.{◌≡◌, List, ◌∷◌}
use Rattle.c_tree.specs.declared.words.Token.{Token}
use Rattle.c_tree.specs.declared.words.Word.{Word}
use Rattle.c_tree.specs.Reading.{Begins, Each}

-- A phrase of A, and behind it a phrase that may depend on what the first means and that has the meaning of the whole.
pub data Then {X Z : Type 0} (A : List Token → List Token → X → Type 0) (B : X → List Token → List Token → Z → Type 0) : List Token → List Token → Z → Type 0 where
  then : {w u v : List Token} {x : X} {z : Z} → A w u x → B x u v z → Then A B w v z

-- The word k, and a phrase behind it.
pub data Before {Z : Type 0} (k : Word) (R : List Token → List Token → Z → Type 0) : List Token → List Token → Z → Type 0 where
  before : {w u v : List Token} {z : Z} → Begins w k u → R u v z → Before k R w v z

-- The word k, which ends a phrase of the meaning x.
pub data Ended {Z : Type 0} (k : Word) (x : Z) : List Token → List Token → Z → Type 0 where
  ended : {w v : List Token} {z : Z} → Begins w k v → x ≡ z → Ended k x w v z

-- No word, where a phrase of the meaning x has ended.
pub data Given {Z : Type 0} (x : Z) : List Token → List Token → Z → Type 0 where
  given : {w v : List Token} {z : Z} → w ≡ v → x ≡ z → Given x w v z

-- One phrase of R or more.
pub data Many {X : Type 0} (R : List Token → List Token → X → Type 0) : List Token → List Token → List X → Type 0 where
  many : {w u v : List Token} {x : X} {xs : List X} → R w u x → Each R u v xs → Many R w v (x ∷ xs)
