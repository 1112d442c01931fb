-- A text begins with its first line, and a line with its first word.
-- Here: first_line_at, only_line, no_word, first_word_at, first_word_behind
use Rattle.std.proofs.Common.{◌≡◌, ℕ, suc, ◌+◌, ◌-◌, ◌<◌, ◌≤◌, Bool, true, false, cond, not, List, [], ◌∷◌, length, take, drop, filter, Option, None, Some, refl, sym, ap, ◌∙◌, subst, arith, ltb, position, length-drop, length-take}
use Rattle.std.specs.List.{slice_split, onto_first, position_or_len}
use Rattle.std.proofs.Math.Numerals.{one-add}
use Rattle.std.proofs.lemmas.Bool.{ltb-true, ltb-false}
use Rattle.std.proofs.lemmas.List.{take_rest, drop_all}
use Rattle.std.proofs.lemmas.List.Splits.{slice_split_first, length-slice_split}
use Rattle.std.proofs.lemmas.List.Sums.{prefix_len-le-length}
use Rattle.std.proofs.lemmas.Option.{cond_some}
use Rattle.scenario.specs.Words.{ends_line, is_blank, is_empty, but_empty_last, lines_of, pieces_of}

-- a place that `position` finds, and none
found_at : (p : ℕ → Bool) (xs : List ℕ) (k : ℕ) → Some k ≡ position p xs → (position_or_len p xs < length xs) × (position_or_len p xs ≡ k)
found_at p xs k e =
    let both = cond_some (ltb (position_or_len p xs) (length xs)) (position_or_len p xs) k (sym e) in
    (ltb-true _ _ both.0, both.1)

none_there : (b : Bool) (k : ℕ) → ◌≡◌ {A = Option ℕ} None (cond b (Some k) None) → b ≡ false
none_there true k e = cc
none_there false k e = refl

not_found : (p : ℕ → Bool) (xs : List ℕ) → None ≡ position p xs → length xs ≤ position_or_len p xs
not_found p xs e = ltb-false _ _ (none_there _ _ e)

-- pieces with one more in front
one_more : (piece : List ℕ) (pieces : List (List ℕ)) (n : ℕ) → length pieces ≡ n + 1 → but_empty_last (piece ∷ pieces) ≡ piece ∷ but_empty_last pieces
one_more piece [] n e = absurd (omega arith)
one_more piece (next ∷ pieces) n e = refl

-- The first line ends at the first line feed.
pub first_line_at : (text : List ℕ) (end : ℕ) → Some end ≡ position ends_line text → lines_of text ≡ take end text ∷ lines_of (take (length text - (end + 1)) (drop (end + 1) text))
first_line_at text end e =
    let found = found_at ends_line text end e in
    let cut = slice_split_first ends_line text 0 found.0 in
    let lines = ap but_empty_last cut ∙ one_more _ _ _ (length-slice_split ends_line (drop (position_or_len ends_line text + 1) text)) in
    rw (take_rest text (end + 1)) (subst (λ k. lines_of text ≡ take k text ∷ lines_of (drop (k + 1) text)) found.1 lines)

onto_whole : (b : Bool) (x : ℕ) (xs : List ℕ) (pieces : List (List ℕ)) → b ≡ false → pieces ≡ xs ∷ [] → cond b ([] ∷ pieces) (onto_first x pieces) ≡ (x ∷ xs) ∷ []
onto_whole true x xs pieces e h = cc
onto_whole false x xs pieces e h = ap (onto_first x) h

not_first : (b : Bool) (n m : ℕ) → suc m ≤ cond (not b) (1 + n) 0 → (b ≡ false) × (m ≤ n)
not_first true n m h = absurd (omega arith)
not_first false n m h = (refl, omega arith)

whole : (text : List ℕ) → length text ≤ position_or_len ends_line text → slice_split ends_line text ≡ text ∷ []
whole [] h = refl
whole (x ∷ xs) h =
    let first = not_first (ends_line x) (position_or_len ends_line xs) (length xs) h in
    onto_whole (ends_line x) x xs _ first.0 (whole xs first.1)

not_empty : (xs : List ℕ) → 0 < length xs → but_empty_last (xs ∷ []) ≡ xs ∷ []
not_empty [] h = absurd (omega arith)
not_empty (x ∷ xs) h = refl

-- A text without a line feed is one line.
pub only_line : (text : List ℕ) → 0 < length text → None ≡ position ends_line text → lines_of text ≡ text ∷ []
only_line text some e = ap but_empty_last (whole text (not_found ends_line text e)) ∙ not_empty text some

-- the place of the first byte that is no blank
abbrev start_of : List ℕ → ℕ
start_of line = position_or_len (λ b. not (is_blank b)) line

skip_step : (b : Bool) (x : ℕ) (xs : List ℕ) (n : ℕ) → is_blank x ≡ b → pieces_of (drop n xs) ≡ pieces_of xs → pieces_of (drop (cond (not (not b)) (1 + n) 0) (x ∷ xs)) ≡ pieces_of (x ∷ xs)
skip_step true x xs n e h =
    rw one-add (h ∙ sym (ap (λ b. filter (λ piece. not (is_empty piece)) (cond b ([] ∷ slice_split is_blank xs) (onto_first x (slice_split is_blank xs)))) e))
skip_step false x xs n e h = refl

skip : (line : List ℕ) → pieces_of (drop (start_of line) line) ≡ pieces_of line
skip [] = refl
skip (x ∷ xs) = skip_step (is_blank x) x xs (start_of xs) refl (skip xs)

-- A line of blanks alone has no word.
pub no_word : (line : List ℕ) → None ≡ position (λ b. not (is_blank b)) line → pieces_of line ≡ []
no_word line e =
    let all : drop (start_of line) line ≡ [] = drop_all (start_of line) line (not_found (λ b. not (is_blank b)) line e) in
    sym (skip line) ∙ ap pieces_of all

-- the first piece of a line, and those behind it
record Front (line : List ℕ) (n : ℕ) : Type 0 where
  rest : List (List ℕ)
  cut : slice_split is_blank line ≡ take n line ∷ rest
  behind : filter (λ piece. not (is_empty piece)) rest ≡ pieces_of (drop n line)

front_step : (b : Bool) (x : ℕ) (xs : List ℕ) (n : ℕ) → is_blank x ≡ b → Front xs n → Front (x ∷ xs) (cond (not b) (1 + n) 0)
front_step true x xs n e f =
    let here = ap (λ b. cond b ([] ∷ slice_split is_blank xs) (onto_first x (slice_split is_blank xs))) e in
    record {
      rest = slice_split is_blank xs;
      cut = here;
      behind = sym (ap (filter (λ piece. not (is_empty piece))) here);
    }
front_step false x xs n e f =
    let here = ap (λ b. cond b ([] ∷ slice_split is_blank xs) (onto_first x (slice_split is_blank xs))) e in
    record {
      rest = f.rest;
      cut = rw one-add (here ∙ ap (onto_first x) f.cut);
      behind = rw one-add f.behind;
    }

front : (line : List ℕ) → Front line (position_or_len is_blank line)
front [] = record { rest = []; cut = refl; behind = refl }
front (x ∷ xs) = front_step (is_blank x) x xs (position_or_len is_blank xs) refl (front xs)

-- a line that begins with no blank
record Begins (line : List ℕ) : Type 0 where
  byte : ℕ
  more : List ℕ
  is : line ≡ byte ∷ more
  here : is_blank byte ≡ false

begins_step : (b : Bool) (x : ℕ) (xs : List ℕ) (n : ℕ) → is_blank x ≡ b → (n < length xs → Begins (drop n xs)) → cond (not (not b)) (1 + n) 0 < suc (length xs) → Begins (drop (cond (not (not b)) (1 + n) 0) (x ∷ xs))
begins_step true x xs n e h lt = rw one-add (h (omega arith))
begins_step false x xs n e h lt = record { byte = x; more = xs; is = refl; here = e }

begins : (line : List ℕ) → start_of line < length line → Begins (drop (start_of line) line)
begins [] lt = absurd (omega arith)
begins (x ∷ xs) lt = begins_step (is_blank x) x xs (start_of xs) refl (begins xs) lt

some_length : (line : List ℕ) → Begins line → 0 < position_or_len is_blank line
some_length line h = subst (λ s. 0 < position_or_len is_blank s) (sym h.is) (subst (λ b. 0 < cond (not b) (1 + position_or_len is_blank h.more) 0) (sym h.here) (omega arith))

keep_front : (word : List ℕ) (rest : List (List ℕ)) → 0 < length word → filter (λ piece. not (is_empty piece)) (word ∷ rest) ≡ word ∷ filter (λ piece. not (is_empty piece)) rest
keep_front [] rest h = absurd (omega arith)
keep_front (x ∷ xs) rest h = refl

word_of_begun : (line : List ℕ) → Begins line → pieces_of line ≡ take (position_or_len is_blank line) line ∷ pieces_of (drop (position_or_len is_blank line) line)
word_of_begun line h =
    let f = front line in
    let n = position_or_len is_blank line in
    let some = some_length line h in
    let within : 0 < length line = subst (λ s. 0 < length s) (sym h.is) (omega arith) in
    let long : 0 < length (take n line) = simp length-take (omega arith) in
    ap (filter (λ piece. not (is_empty piece))) f.cut ∙ keep_front (take n line) f.rest long ∙ ap (λ pieces. take n line ∷ pieces) f.behind

-- The first word begins at the first byte that is no blank, and ends before the next blank.
pub first_word_at : (line : List ℕ) (start : ℕ) → Some start ≡ position (λ b. not (is_blank b)) line
    → let found = drop start line in let end = position_or_len is_blank found in pieces_of line ≡ take end found ∷ pieces_of (drop end found)
first_word_at line start e =
    let at = found_at (λ b. not (is_blank b)) line start e in
    subst (λ k. let found = drop k line in let end = position_or_len is_blank found in pieces_of line ≡ take end found ∷ pieces_of (drop end found)) at.1
    (sym (skip line) ∙ word_of_begun (drop (start_of line) line) (begins line at.0))

-- What is behind the first word is shorter than the line.
pub first_word_behind : (line : List ℕ) (start : ℕ) → Some start ≡ position (λ b. not (is_blank b)) line
    → length (drop (position_or_len is_blank (drop start line)) (drop start line)) < length line
first_word_behind line start e =
    let at = found_at (λ b. not (is_blank b)) line start e in
    let some : 0 < position_or_len is_blank (drop start line) = subst (λ k. 0 < position_or_len is_blank (drop k line)) at.1 (some_length _ (begins line at.0)) in
    simp (length-drop) (omega (arith, at.0, at.1))

-- The bytes before the first blank: up to its place, or all.
pub length_to : (line : List ℕ) (end : ℕ) → Some end ≡ position is_blank line → end ≡ position_or_len is_blank line
length_to line end e = sym (found_at is_blank line end e).1

pub length_of_all : (line : List ℕ) → None ≡ position is_blank line → length line ≡ position_or_len is_blank line
length_of_all line e = omega (arith, not_found is_blank line e, prefix_len-le-length (λ b. not (is_blank b)) line)

pub place_within : (line : List ℕ) (end : ℕ) → Some end ≡ position is_blank line → end ≤ length line
place_within line end e = let at = found_at is_blank line end e in omega (arith, at.0, at.1)
