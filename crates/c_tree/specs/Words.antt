-- The words that begin at a place, and the longest of them (C99, 6.4).
use Rattle.std.specs.Prelude.{◌≡◌, ℕ, ◌<◌, true, false, ◌||◌, ◌⊎◌, [], ◌∷◌, ◌++◌, length}
use Rattle.c_tree.specs.declared.signs.Sign.{Sign}
use Rattle.c_tree.specs.declared.words.Suffix.{Suffix}
use Rattle.c_tree.specs.declared.words.Word.{Word}
use Rattle.c_tree.specs.declared.words.Word.TheVariants as word
use Rattle.c_tree.specs.Bytes.{Text, is_name_byte, first_is}
use Rattle.c_tree.specs.Characters.{is_quotable, meaning}
use Rattle.c_tree.specs.Gaps.{opens_block, opens_line}
use Rattle.c_tree.specs.Names.{is_name, reserved, named}
use Rattle.c_tree.specs.Numbers.{IsNumber}
use Rattle.c_tree.specs.Signs.{spelled_sign}

-- The text t begins with the word k, and v stands behind it; i strings stand before it. A number is not followed by
-- what a name goes on with, and a sign does not begin where a comment opens, finished or not.
pub data WordAt (i : ℕ) (t : Text) : Text → Word → Type 0 where
  a_name : {v : Text} {k : Word} (b : Text) → t ≡ b ++ v → is_name b ≡ true → k ≡ named b (reserved b) → WordAt i t v k
  a_number : {v : Text} {n : ℕ} {x : Suffix} (b : Text) → t ≡ b ++ v → IsNumber b n x → first_is is_name_byte v ≡ false → WordAt i t v (word.Number n x)
  a_character : {v : Text} {c : ℕ} (b : Text) → t ≡ 39 ∷ b ++ 39 ∷ v → is_quotable 39 b ≡ true → meaning b ≡ c ∷ [] → WordAt i t v (word.Character c)
  a_string : {v : Text} (b : Text) → t ≡ 34 ∷ b ++ 34 ∷ v → is_quotable 34 b ≡ true → WordAt i t v (word.String (meaning b) i)
  a_sign : {v : Text} (s : Sign) → t ≡ spelled_sign s ++ v → (opens_block t || opens_line t) ≡ false → WordAt i t v (word.Sign s)

-- The longest word that begins there: every other is shorter.
pub record Longest (i : ℕ) (t v : Text) (k : Word) : Type 0 where
  pub is : WordAt i t v k
  pub no_longer : (u : Text) (j : Word) → WordAt i t u j → (length v < length u) ⊎ ((u ≡ v) × (j ≡ k))
