-- The words of a short text are small: a number is below 2^32, and a character is a byte.
use Rattle.std.proofs.Common.{◌≡◌, ℕ, ◌≤◌, ◌<◌, ◌^◌, Bool, true, false, not, cond, ◌&&◌, ◌||◌, ◌==◌, nat_le, [], ◌∷◌, Option, Some, None, refl, sym, subst, arith}
use Rattle.std.proofs.lemmas.Bool.{and_parts, eqb-true, leb-true}
use Rattle.std.proofs.lemmas.List.Elements.{All-weaker}
use Rattle.c_tree.specs.declared.expressions.Expr.{Expr}
use Rattle.c_tree.specs.declared.keywords.Keyword.{Keyword}
use Rattle.c_tree.specs.declared.words.Suffix.{Suffix}
use Rattle.c_tree.specs.declared.words.Suffix.TheVariants as suffix
use Rattle.c_tree.specs.declared.words.Word.{Word}
use Rattle.c_tree.specs.Bytes.{Text, is_digit, first_is}
use Rattle.c_tree.specs.Characters.{is_plain, is_escape, escaped, is_quotable, meaning}
use Rattle.c_tree.specs.Names.{named, reserved}
use Rattle.c_tree.specs.Numbers.{IsNumber, decimal, octal, hexadecimal, decimal_end}
use Rattle.c_tree.specs.Short.{IsWritten, IsShortExpr}
use Rattle.c_tree.specs.Spelling.{spelled}
use Rattle.c_tree.specs.Words.{WordAt, a_name, a_number, a_character, a_string, a_sign}
use Rattle.light_checks.specs.Words.{IsSmallWord, IsReadable}

-- ---- numbers
end_small : (x : Suffix) (n : ℕ) → n < decimal_end x → n ≤ 2 ^ 32
end_small suffix.Plain n h = omega arith
end_small suffix.Long n h = omega arith
end_small suffix.Unsigned n h = omega arith
end_small suffix.UnsignedLong n h = omega arith

number_small : (b : Text) (n : ℕ) (x : Suffix) → IsNumber b n x → n ≤ 2 ^ 32
number_small b n x (decimal first digits below) = end_small x n below
number_small b n x (octal first digits below) = omega arith
number_small b n x (hexadecimal c t parts is digits below) = omega arith

-- ---- characters
either : {P : Type 0} (x y : Bool) → (x ≡ true → P) → (y ≡ true → P) → (x || y) ≡ true → P
either true y f g h = f refl
either false y f g h = g h

byte_of : (c k : ℕ) → k ≤ 116 → (c == k) ≡ true → c ≤ 116
byte_of c k h e = let s = eqb-true c k e in omega arith

escape_byte : (d : ℕ) (t : Text) → is_escape d t ≡ true → d ≤ 116
escape_byte d t h =
    either (d == 110 || (d == 116 || (d == 114 || (d == 92 || (d == 39 || d == 34))))) (d == 48 && not (first_is is_digit t))
    (either (d == 110) _ (byte_of d 110 (omega arith)) (either (d == 116) _ (byte_of d 116 (omega arith)) (either (d == 114) _ (byte_of d 114 (omega arith))
    (either (d == 92) _ (byte_of d 92 (omega arith)) (either (d == 39) (d == 34) (byte_of d 39 (omega arith)) (byte_of d 34 (omega arith)))))))
    (λ e. byte_of d 48 (omega arith) (and_parts (d == 48) (not (first_is is_digit t)) e).0) h

pick : (b : Bool) (x y m : ℕ) → x ≤ m → y ≤ m → cond b x y ≤ m
pick true x y m h k = h
pick false x y m h k = k

escaped_small : (d : ℕ) → d ≤ 116 → escaped d ≤ 2 ^ 32
escaped_small d h =
    pick (d == 110) 10 _ (2 ^ 32) (omega arith) (pick (d == 116) 9 _ (2 ^ 32) (omega arith) (pick (d == 114) 13 _ (2 ^ 32) (omega arith)
    (pick (d == 48) 0 d (2 ^ 32) (omega arith) (omega arith))))

plain_small : (c : ℕ) → is_plain 39 c ≡ true → c ≤ 2 ^ 32
plain_small c h =
    let inside = (and_parts (nat_le 32 c && nat_le c 126) (not (c == 39 || c == 92)) h).0 in
    let less = leb-true c 126 (and_parts (nat_le 32 c) (nat_le c 126) inside).1 in
    omega arith

first_same : (a c : ℕ) (t : Text) → a ∷ t ≡ c ∷ [] → a ≡ c
first_same a c t h = cc

character_small : (b : Text) (c : ℕ) → is_quotable 39 b ≡ true → meaning b ≡ c ∷ [] → c ≤ 2 ^ 32
character_small [] c q m = absurd cc
character_small (x ∷ []) c q m = subst (λ n. n ≤ 2 ^ 32) (first_same x c [] m) (plain_small x q)
character_small (x ∷ d ∷ t) c q m = by (x == 92) q m
  where
    by : (e : Bool) → cond e (is_escape d t && is_quotable 39 t) (is_plain 39 x && is_quotable 39 (d ∷ t)) ≡ true → cond e (escaped d ∷ meaning t) (x ∷ meaning (d ∷ t)) ≡ c ∷ [] → c ≤ 2 ^ 32
    by true q m = subst (λ n. n ≤ 2 ^ 32) (first_same (escaped d) c (meaning t) m) (escaped_small d (escape_byte d t (and_parts (is_escape d t) (is_quotable 39 t) q).0))
    by false q m = subst (λ n. n ≤ 2 ^ 32) (first_same x c (meaning (d ∷ t)) m) (plain_small x (and_parts (is_plain 39 x) (is_quotable 39 (d ∷ t)) q).0)

-- ---- words
name_small : (b : Text) (o : Option Keyword) → IsSmallWord (named b o)
name_small b None = tt
name_small b (Some k) = tt

word_small : {i : ℕ} {t v : Text} {k : Word} → WordAt i t v k → IsSmallWord k
word_small (a_name b parts name is) = subst IsSmallWord (sym is) (name_small b (reserved b))
word_small (a_number b parts number apart) = number_small b _ _ number
word_small (a_character b parts quotable means) = character_small b _ quotable means
word_small (a_string b parts quotable) = tt
word_small (a_sign s parts no_comment) = tt

pub written_small : (k : Word) → IsWritten k → IsSmallWord k
written_small k w = word_small w.3

-- a short expression is readable
pub short_readable : (e : Expr) → IsShortExpr e → IsReadable (spelled e)
short_readable e s = record { words = s.words; small = All-weaker IsWritten IsSmallWord written_small (spelled e) s.written }
