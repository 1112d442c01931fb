-- The definitions of words, worked on small texts.
use Rattle.std.proofs.Common.{◌≡◌, true, false, List, [], ◌∷◌, Some, None, codes, refl}
use Rattle.c_tree.specs.declared.keywords.Keyword.TheVariants as keyword
use Rattle.c_tree.specs.declared.limits.LimitKind.TheVariants as limit
use Rattle.c_tree.specs.declared.signs.Sign.TheVariants as sign
use Rattle.c_tree.specs.declared.words.Suffix.TheVariants as suffix
use Rattle.c_tree.specs.declared.words.Token.{Token}
use Rattle.c_tree.specs.declared.words.Word.TheVariants as word
use Rattle.c_tree.specs.Characters.{is_quotable, meaning}
use Rattle.c_tree.specs.Division.{token}
use Rattle.c_tree.specs.Gaps.{gap, after_gap}
use Rattle.c_tree.specs.Limits.{passed_at, run_of, nesting_of, unary_of, strings_of}
use Rattle.c_tree.specs.Names.{is_name, reserved}
use Rattle.c_tree.specs.Numbers.{suffix_of, value_after}

name_with_digits : is_name (codes "x_1") ≡ true
name_with_digits = refl

digits_first : is_name (codes "1x") ≡ false
digits_first = refl

while_is_reserved : reserved (codes "while") ≡ Some keyword.While
unfolding reserved
while_is_reserved = refl

whilst_is_not : reserved (codes "whilst") ≡ None
unfolding reserved
whilst_is_not = refl

both_suffixes : suffix_of (codes "Lu") ≡ Some suffix.UnsignedLong
both_suffixes = refl

two_of_one_suffix : suffix_of (codes "ll") ≡ None
two_of_one_suffix = refl

hexadecimal_value : value_after 16 0 (codes "1fF") ≡ 511
hexadecimal_value = refl

-- `a'b` in a string, and in a character
quote_in_a_string : is_quotable 34 (codes "a'b") ≡ true
quote_in_a_string = refl

quote_in_a_character : is_quotable 39 (codes "a'b") ≡ false
quote_in_a_character = refl

-- `\0` alone, before a digit, and before a letter
zero_alone : is_quotable 39 (92 ∷ 48 ∷ []) ≡ true
zero_alone = refl

zero_before_a_digit : is_quotable 34 (92 ∷ 48 ∷ 56 ∷ []) ≡ false
zero_before_a_digit = refl

zero_before_a_letter : meaning (92 ∷ 48 ∷ 97 ∷ 92 ∷ 110 ∷ []) ≡ 0 ∷ 97 ∷ 10 ∷ []
zero_before_a_letter = refl

-- a comment over two lines makes the next line fresh, and one that does not end is no gap
comment_over_lines : after_gap 7 false (codes "/*\n*/x") ≡ Some (gap 8 true (codes "x"))
comment_over_lines = refl

comment_that_overlaps : after_gap 7 false (codes "/*/") ≡ None
comment_that_overlaps = refl

line_comment : after_gap 7 false (codes "//a\nb") ≡ Some (gap 7 false (codes "\nb"))
line_comment = refl

-- a marker line, the same behind a word, and a line that is none
marker_line : after_gap 1 true (codes "# \t1 /*\nx") ≡ Some (gap 1 true (codes "\nx"))
marker_line = refl

marker_behind_a_word : after_gap 1 false (codes "# 1\nx") ≡ None
marker_behind_a_word = refl

pragmatic : after_gap 1 true (codes "#pragmatic") ≡ Some (gap 1 true [])
pragmatic = refl

no_marker : after_gap 1 true (codes "#define") ≡ None
no_marker = refl

-- of two limits the first is named
first_limit : passed_at 200000 1000 64 16 (word.Sign sign.ParenOpen) ≡ Some limit.Words
first_limit = refl

last_bracket : passed_at 10 10 63 0 (word.Sign sign.ParenOpen) ≡ None
last_bracket = refl

one_bracket_more : passed_at 10 10 64 0 (word.Sign sign.ParenOpen) ≡ Some limit.Nesting
one_bracket_more = refl

one_unary_more : passed_at 10 999 64 16 (word.Sign sign.Star) ≡ Some limit.Unary
one_unary_more = refl

-- `; ( - *` behind one string: a run of three, one bracket, two unary signs
abbrev some_words : List Token
some_words = token (word.String [] 0) 1 ∷ token (word.Sign sign.Semicolon) 1 ∷ token (word.Sign sign.ParenOpen) 1 ∷ token (word.Sign sign.Minus) 2 ∷ token (word.Sign sign.Star) 2 ∷ []

their_counts : (run_of some_words ≡ 3) × (nesting_of some_words ≡ 1) × (unary_of some_words ≡ 2) × (strings_of some_words ≡ 1)
their_counts = (refl, refl, refl, refl)
