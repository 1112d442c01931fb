-- What a unit takes from the limits of the text that spells it: it is short.
use Rattle.std.proofs.Common.{◌≡◌, ℕ, ◌+◌, ◌<◌, ◌≤◌, List, [], ◌∷◌, ◌++◌, length, fold, Bool, true, false, cond, nat_le, Option, None, Some, All, refl, ap, sym, ◌∙◌, subst, append-nil, suc, arith}
use Rattle.std.proofs.lemmas.List.{length-append}
use Rattle.std.proofs.lemmas.List.Elements.{All-nil, All-cons}
use Rattle.c_tree.specs.declared.items.Item.{Item}
use Rattle.c_tree.specs.declared.items.Unit.{Unit as TextUnit}
use Rattle.c_tree.specs.declared.keywords.Keyword.{Keyword}
use Rattle.c_tree.specs.declared.limits.LimitKind.{LimitKind}
use Rattle.c_tree.specs.declared.limits.LimitKind.TheVariants as limit
use Rattle.c_tree.specs.declared.words.Token.{Token}
use Rattle.c_tree.specs.declared.words.Word.{Word}
use Rattle.c_tree.specs.declared.words.Word.TheVariants as word
use Rattle.c_tree.specs.Bytes.{Text}
use Rattle.c_tree.specs.Division.{Place, place, Step, takes_gap, takes_word, Reaches, starts, goes, IsDivision, token}
use Rattle.c_tree.specs.ItemGrammar.{ItemAt, struct_item, global_item, function_item, function, prototype}
use Rattle.c_tree.specs.Limits.{strings_after, passed}
use Rattle.c_tree.specs.Names.{reserved, named}
use Rattle.c_tree.specs.Reading.{Each, each_end, each_more}
use Rattle.c_tree.specs.Short.{IsWritten}
use Rattle.c_tree.specs.ShortUnit.{ReturnsAtEnd, IsShortUnit}
use Rattle.c_tree.specs.UnitSpelling.{item_words, item_pieces, unit_words}
use Rattle.c_tree.specs.Units.{IsUnit}
use Rattle.c_tree.specs.Words.{WordAt, a_name, a_number, a_character, a_string, a_sign}
use Rattle.c_expr.specs.Tokens.{words_of}
use Rattle.c_expr.proofs.Limited.{Follows, next, division_fits, below, open_fits, all_written}
use Rattle.c_decl.proofs.ItemWalks.{item_walk}
use Rattle.c_decl.proofs.Walks.{each_walk}

-- ---- strings are numbered
-- a string after so many has this number
abbrev IsCounted : ℕ → Word → Type 0
IsCounted n (word.String b i) = i ≡ n
IsCounted n _ = Unit {0}

abbrev AreCounted : ℕ → List Token → Type 0
AreCounted n [] = Unit {0}
AreCounted n (t ∷ s) = IsCounted n t.word × AreCounted (strings_after n t.word) s

counted_more : (n : ℕ) (s : List Token) (t : Token) → AreCounted n s → IsCounted (fold (λ m k. strings_after m k.word) n s) t.word → AreCounted n (s ++ t ∷ [])
counted_more n [] t a c = (c, tt)
counted_more n (k ∷ s) t a c = (a.0, counted_more (strings_after n k.word) s t a.1 c)

name_counted : (n : ℕ) (b : Text) (o : Option Keyword) → IsCounted n (named b o)
name_counted n b None = tt
name_counted n b (Some k) = tt

word_counted : {n : ℕ} {t v : Text} {k : Word} → WordAt n t v k → IsCounted n k
word_counted {n} (a_name b e f g) = subst (IsCounted n) (sym g) (name_counted n b (reserved b))
word_counted (a_number b e f g) = tt
word_counted (a_character b e f g) = tt
word_counted (a_string b e f) = refl
word_counted (a_sign s e f) = tt

abbrev Counts : Place → Type 0
Counts (place n f ws t) = AreCounted 0 ws

step_counts : (p q : Place) → Step p q → Counts p → Counts q
step_counts p q (takes_gap e) c = c
step_counts p q (takes_word {n = n} {ws = ws} {k = k} longest e) c = counted_more 0 ws (token k n) c (word_counted longest.is)

reached_counts : (t : Text) (p : Place) → Reaches t p → Counts p
reached_counts t p starts = tt
reached_counts t p (goes {p = q} r s) = step_counts q p s (reached_counts t q r)

pub division_counts : (t : Text) (ws : List Token) → IsDivision t ws → AreCounted 0 ws
division_counts t ws (n, f, r) = reached_counts t (place n f ws []) r

counted_there : (n : ℕ) (s : List Token) (before after : List Word) (b : List ℕ) (i : ℕ) → AreCounted n s → words_of s ≡ before ++ word.String b i ∷ after → i ≡ fold (λ m k. strings_after m k) n before
counted_there n [] [] after b i a e = cc
counted_there n [] (k ∷ before) after b i a e = cc
counted_there n (t ∷ s) [] after b i a e = let is : t.word ≡ word.String b i = cc in subst (IsCounted n) is a.0
counted_there n (t ∷ s) (k ∷ before) after b i a e =
    let is : t.word ≡ k = cc in
    let rest : words_of s ≡ before ++ word.String b i ∷ after = cc in
    subst (λ j. i ≡ fold (λ m k. strings_after m k) (strings_after n j) before) is (counted_there (strings_after n t.word) s before after b i a.1 rest)

-- ---- how many words
first_fails : (b : Bool) (x : LimitKind) (o : Option LimitKind) → cond b (Some x) o ≡ None → b ≡ false
first_fails true x o e = cc
first_fails false x o e = refl

words_room : (a : List Token) (k : Word) → passed a k ≡ None → length a < 200000
words_room a k e = below 200000 (length a) (first_fails (nat_le 200000 (length a)) limit.Words _ e)

words_count : (a s : List Token) → Follows a s → length a ≤ 200000 → length a + length s ≤ 200000
words_count a [] d h = omega arith
words_count a (k ∷ s) (next p w d) h =
    let room = words_room a k.word p in
    let more = length-append a (k ∷ []) in
    let rest = words_count (a ++ k ∷ []) s d (omega arith) in
    omega arith

length-words_of : (s : List Token) → length (words_of s) ≡ length s
length-words_of [] = refl
length-words_of (t ∷ s) = ap suc (length-words_of s)

-- ---- returns
item_returns : (w v : List Token) (x : Item) → ItemAt w v x → ReturnsAtEnd x
item_returns w v x (struct_item d) = tt
item_returns w v x (global_item d) = tt
item_returns w v x (function_item (function {ss = ss} p b l s c)) = (ss, refl)
item_returns w v x (prototype d b) = tt

items_return : {w v : List Token} {xs : List Item} → Each ItemAt w v xs → All ReturnsAtEnd xs
items_return each_end = All-nil ReturnsAtEnd
items_return (each_more {w = w} {u = u} {x = x} {xs = xs} d e) = All-cons ReturnsAtEnd x xs (item_returns w u x d) (items_return e)

-- ---- the whole unit
-- the words of a unit are those of its tree
pub unit_spelled : (ws : List Token) (u : TextUnit) → IsUnit ws u → words_of ws ≡ unit_words u
unit_spelled ws u d = let p = (each_walk ItemAt item_words item_pieces item_walk d).passage in ap words_of (p.parts ∙ append-nil p.tokens) ∙ p.same

pub unit_short : (t : Text) (ws : List Token) (u : TextUnit) → IsDivision t ws → IsUnit ws u → IsShortUnit u
unit_short t ws u divides d =
    let walk = each_walk ItemAt item_words item_pieces item_walk d in
    let words : words_of ws ≡ unit_words u = unit_spelled ws u d in
    let fits = division_fits t ws divides in
    let all : Follows [] (ws ++ []) = subst (Follows []) (sym (append-nil ws)) fits in
    let count : length (words_of ws) ≡ length (unit_words u) = ap length words in
    let many = words_count [] ws fits (omega arith) in
    let same = length-words_of ws in
    record {
      within = record {
        words = omega arith;
        pieces = walk.short [] fits;
        nesting = λ before after e. open_fits before after [] ws [] 0 all (words ∙ e) (omega arith) (omega arith);
        written = subst (All IsWritten) words (all_written [] ws [] all);
      };
      returns = items_return d;
      numbered = λ before after b i e. counted_there 0 ws before after b i (division_counts t ws divides) (words ∙ e);
    }
