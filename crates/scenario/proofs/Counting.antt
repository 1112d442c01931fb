-- The values of a line, counted one after another.
-- Here: counted, length-values_in
use Rattle.std.proofs.Common.{◌≡◌, ℕ, suc, ◌+◌, Bool, true, cond, ◌&&◌, List, [], ◌∷◌, length, Option, None, Some, is_some, ℤ, refl, ap}
use Rattle.std.specs.List.{cons_option}
use Rattle.std.proofs.lemmas.Bool.{false≢true}
use Rattle.scenario.specs.Numbers.{signed_of}
use Rattle.scenario.specs.Forms.{are_values, values_in}

-- the words, behind n others, where all are values
abbrev pub counted : ℕ → List (List ℕ) → Option ℕ
counted n words = cond (are_values words) (Some (n + length words)) None

one_value : (v : Option ℤ) (more : Bool) (vs : List ℤ) (n : ℕ) → (is_some v && more) ≡ true → (more ≡ true → length vs ≡ n) → length (cons_option v vs) ≡ suc n
one_value None more vs n e h = absurd (false≢true e)
one_value (Some v) more vs n e h = ap suc (h e)

-- where all words are values there are as many values
pub length-values_in : (words : List (List ℕ)) → are_values words ≡ true → length (values_in words) ≡ length words
length-values_in [] e = refl
length-values_in (word ∷ words) e = one_value (signed_of word) (are_values words) (values_in words) (length words) e (length-values_in words)
