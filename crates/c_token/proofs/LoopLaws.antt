-- What one word more changes: the counts, and what is left of the text.
use Rattle.std.proofs.Common.{◌≡◌, ℕ, ◌+◌, ◌-◌, ◌<◌, ◌≤◌, Bool, true, false, cond, ◌&&◌, eqb, leb, ltb, List, [], ◌∷◌, ◌++◌, length, Option, Some, None, refl, sym, ap, ◌∙◌, subst, arith, lit<, length-append, append_assoc, count_by, fold}
use Rattle.std.proofs.lemmas.Bool.Decides.{nat_tests}
use Rattle.std.proofs.lemmas.List.Sums.{fold-append}
use Rattle.c_tree.specs.declared.limits.LimitKind.{LimitKind}
use Rattle.c_tree.specs.declared.limits.LimitKind.TheVariants as limit
use Rattle.c_tree.specs.declared.signs.Sign.{Sign}
use Rattle.c_tree.specs.declared.signs.Sign.TheVariants as sign
use Rattle.c_tree.specs.declared.words.Token.{Token}
use Rattle.c_tree.specs.declared.words.Word.{Word}
use Rattle.c_tree.specs.declared.words.Word.TheVariants as word
use Rattle.c_tree.specs.Bytes.{Text, is_digit, first_is}
use Rattle.c_tree.specs.Division.{place, token, Reaches, goes, takes_word, HasNoWord, PassesLimit}
use Rattle.c_tree.specs.Gaps.{after_gap}
use Rattle.c_tree.specs.Limits.{is_sign, ends_run, is_opening, is_closing, is_unary, run_after, run_of, nesting_after, nesting_of, unary_after, unary_of, strings_after, strings_of, name_length, passed_at, passed}
use Rattle.c_tree.specs.Names.{is_name}
use Rattle.c_tree.specs.Signs.{spelled_sign}
use Rattle.c_tree.specs.Words.{WordAt, a_name, a_number, a_character, a_string, a_sign, Longest}
use Rattle.c_token.specs.declared.lexemes.Kind.{Kind}
use Rattle.c_token.specs.Feeds.{line_feeds}
use Rattle.c_token.specs.Lexemes.{word_of, IsLongest, BeginsNoWord}
use Rattle.c_token.proofs.NumberLaws.{IsNumber-first}

-- the counts behind one more word
pub run_of-push : (ws : List Token) (k : Word) (n : ℕ) → run_of (ws ++ token k n ∷ []) ≡ run_after (run_of ws) k
run_of-push ws k n = fold-append (λ m t. run_after m t.word) 0 ws (token k n ∷ [])

pub nesting_of-push : (ws : List Token) (k : Word) (n : ℕ) → nesting_of (ws ++ token k n ∷ []) ≡ nesting_after (nesting_of ws) k
nesting_of-push ws k n = fold-append (λ m t. nesting_after m t.word) 0 ws (token k n ∷ [])

pub unary_of-push : (ws : List Token) (k : Word) (n : ℕ) → unary_of (ws ++ token k n ∷ []) ≡ unary_after (unary_of ws) k
unary_of-push ws k n = fold-append (λ m t. unary_after m t.word) 0 ws (token k n ∷ [])

pub strings_of-push : (ws : List Token) (k : Word) (n : ℕ) → strings_of (ws ++ token k n ∷ []) ≡ strings_after (strings_of ws) k
strings_of-push ws k n = fold-append (λ m t. strings_after m t.word) 0 ws (token k n ∷ [])

-- a count rises by one at most
pub run_after-small : (n : ℕ) (k : Word) → run_after n k ≤ n + 1
run_after-small n k = elim (is_sign ends_run k) as (λ b. cond b 0 (n + 1) ≤ n + 1) [ true ↦ omega arith | false ↦ omega arith ]

pub nesting_after-small : (n : ℕ) (k : Word) → nesting_after n k ≤ n + 1
nesting_after-small n k =
    elim (is_sign is_opening k) as (λ b. cond b (n + 1) (cond (is_sign is_closing k) (n - 1) n) ≤ n + 1)
    [ true ↦ omega arith | false ↦ elim (is_sign is_closing k) as (λ b. cond b (n - 1) n ≤ n + 1) [ true ↦ omega arith | false ↦ omega arith ] ]

pub unary_after-small : (n : ℕ) (k : Word) → unary_after n k ≤ n + 1
unary_after-small n k = elim (is_sign is_unary k) as (λ b. cond b (n + 1) 0 ≤ n + 1) [ true ↦ omega arith | false ↦ omega arith ]

pub strings_after-small : (n : ℕ) (k : Word) → strings_after n k ≤ n + 1
strings_after-small n (word.Name b) = omega arith
strings_after-small n (word.Keyword k) = omega arith
strings_after-small n (word.Number v x) = omega arith
strings_after-small n (word.Character c) = omega arith
strings_after-small n (word.String b i) = omega arith
strings_after-small n (word.Sign s) = omega arith

-- a word that passes no limit is not the last, and no name of it is long
pub record IsWithin (words : ℕ) (k : Word) : Type 0 where
  pub room : words < 200000
  pub name : name_length k ≤ 63

untaken : (b : Bool) (kind : LimitKind) (other : Option LimitKind) → cond b (Some kind) other ≡ None → (b ≡ false) × (other ≡ None)
untaken true kind other h = cc
untaken false kind other h = (refl, h)

pub passed_at-none : (words run nesting unary : ℕ) (k : Word) → passed_at words run nesting unary k ≡ None → IsWithin words k
passed_at-none words run nesting unary k h =
    let a = untaken (leb 200000 words) limit.Words (cond (leb 1000 run) (Some limit.Run) (cond (is_sign is_opening k && leb 64 nesting) (Some limit.Nesting) (cond (is_sign is_unary k && leb 16 unary) (Some limit.Unary) (cond (ltb 63 (name_length k)) (Some limit.Name) None)))) h in
    let b = untaken (leb 1000 run) limit.Run (cond (is_sign is_opening k && leb 64 nesting) (Some limit.Nesting) (cond (is_sign is_unary k && leb 16 unary) (Some limit.Unary) (cond (ltb 63 (name_length k)) (Some limit.Name) None))) a.1 in
    let d = untaken (is_sign is_opening k && leb 64 nesting) limit.Nesting (cond (is_sign is_unary k && leb 16 unary) (Some limit.Unary) (cond (ltb 63 (name_length k)) (Some limit.Name) None)) b.1 in
    let e = untaken (is_sign is_unary k && leb 16 unary) limit.Unary (cond (ltb 63 (name_length k)) (Some limit.Name) None) d.1 in
    let f = untaken (ltb 63 (name_length k)) limit.Name None e.1 in
    record { room = below words a.0; name = at_most (name_length k) f.0 }
  where
    below : (w : ℕ) → leb 200000 w ≡ false → w < 200000
    below w g = grind (arith, nat_tests)

    at_most : (m : ℕ) → ltb 63 m ≡ false → m ≤ 63
    at_most m g = grind (arith, nat_tests)

-- line feeds of a text in parts
line_feeds-append : (t u : Text) → line_feeds (t ++ u) ≡ line_feeds t + line_feeds u
line_feeds-append [] u = omega arith
line_feeds-append (c ∷ t) u =
    elim (eqb c 10) as (λ b. cond b (line_feeds (t ++ u) + 1) (line_feeds (t ++ u)) ≡ cond b (line_feeds t + 1) (line_feeds t) + line_feeds u)
    [ true ↦ omega (arith, line_feeds-append t u) | false ↦ line_feeds-append t u ]

counted : (t : Text) (n : ℕ) → fold (λ a c. a + cond (eqb c 10) 1 0) n t ≡ n + line_feeds t
counted [] n = omega arith
counted (c ∷ t) n =
    elim (eqb c 10) as (λ b. fold (λ a d. a + cond (eqb d 10) 1 0) (n + cond b 1 0) t ≡ n + cond b (line_feeds t + 1) (line_feeds t))
    [ true ↦ omega (arith, counted t (n + 1)) | false ↦ omega (arith, counted t (n + 0)) ]

pub line_feeds-count : (t : Text) → line_feeds t ≡ count_by (λ c. eqb c 10) t
line_feeds-count t = omega (arith, counted t 0)

-- behind a word there is less
pub record IsShorter (v t : Text) : Type 0 where
  pub length : length v < length t
  pub lines : line_feeds v ≤ line_feeds t

shorter_piece : (b v t : Text) → t ≡ b ++ v → 0 < length b → IsShorter v t
shorter_piece b v t e l = record {
  length = omega (arith, ap length e, length-append b v);
  lines = omega (arith, ap line_feeds e, line_feeds-append b v);
}

shorter_quoted : (q : ℕ) (b v t : Text) → t ≡ q ∷ b ++ q ∷ v → IsShorter v t
shorter_quoted q b v t e = shorter_piece (q ∷ b ++ q ∷ []) v t (e ∙ ap (λ x. q ∷ x) (sym (append_assoc b (q ∷ []) v))) (omega arith)

some_spelling : (s : Sign) → 0 < length (spelled_sign s)
some_spelling sign.BraceOpen = lit< tt
some_spelling _ = lit< tt

some_name : (b : Text) → is_name b ≡ true → 0 < length b
some_name [] h = cc
some_name (c ∷ b) h = omega arith

some_number : (b : Text) → first_is is_digit b ≡ true → 0 < length b
some_number [] h = cc
some_number (c ∷ b) h = omega arith

pub IsShorter-word : {i : ℕ} {t v : Text} {k : Word} → WordAt i t v k → IsShorter v t
IsShorter-word {i} {t} {v} (a_name b e h g) = shorter_piece b v t e (some_name b h)
IsShorter-word {i} {t} {v} (a_number b e h g) = shorter_piece b v t e (some_number b (IsNumber-first h))
IsShorter-word {i} {t} {v} (a_character b e h g) = shorter_quoted 39 b v t e
IsShorter-word {i} {t} {v} (a_string b e h) = shorter_quoted 34 b v t e
IsShorter-word {i} {t} {v} (a_sign s e h) = shorter_piece (spelled_sign s) v t e (some_spelling s)

-- over one more word
pub reaches_word : (t : Text) (n : ℕ) (f : Bool) (ws vs : List Token) (u v : Text) (a : Kind) (b : Text) (i : ℕ) (k : Word)
    → Reaches t (place n f ws u) → IsLongest u a b v → i ≡ strings_of ws → k ≡ word_of i a b → passed ws k ≡ None → vs ≡ ws ++ token k n ∷ [] → Reaches t (place n false vs v)
reaches_word t n f ws vs u v a b i k r l e g p s =
    let h : Longest (strings_of ws) u v k = subst (λ w. Longest (strings_of ws) u v w) (sym (g ∙ ap (λ x. word_of x a b) e)) (l.longest (strings_of ws)) in
    subst (λ x. Reaches t (place n false x v)) (sym s) (goes r (takes_word h p))

-- a count behind one more word
pub count_along : (count : List Token → ℕ) (after : ℕ → Word → ℕ) → ((ws : List Token) (k : Word) (n : ℕ) → count (ws ++ token k n ∷ []) ≡ after (count ws) k)
    → (r q : ℕ) (ws vs : List Token) (k w : Word) (n : ℕ) → q ≡ after r w → r ≡ count ws → k ≡ w → vs ≡ ws ++ token k n ∷ [] → q ≡ count vs
count_along count after push r q ws vs k w n a b e s = a ∙ ap (λ x. after x w) b ∙ ap (after (count ws)) (sym e) ∙ sym (push ws k n) ∙ ap count (sym s)

-- the limits by the counts and by the words
pub passed-along : (ws : List Token) (words run nesting unary : ℕ) (k : Word) → words ≡ length ws → run ≡ run_of ws → nesting ≡ nesting_of ws → unary ≡ unary_of ws
    → passed_at words run nesting unary k ≡ passed ws k
passed-along ws words run nesting unary k a b d e =
    ap (λ x. passed_at x run nesting unary k) a ∙ ap (λ x. passed_at (length ws) x nesting unary k) b
    ∙ ap (λ x. passed_at (length ws) (run_of ws) x unary k) d ∙ ap (λ x. passed_at (length ws) (run_of ws) (nesting_of ws) x k) e

pub passes_limit : (t : Text) (n : ℕ) (f : Bool) (ws : List Token) (u v : Text) (a : Kind) (b : Text) (kind : LimitKind)
    → Reaches t (place n f ws u) → IsLongest u a b v → passed ws (word_of (strings_of ws) a b) ≡ Some kind → PassesLimit t n kind
passes_limit t n f ws u v a b kind r l p = record {
  fresh = f;
  before = ws;
  rest = u;
  after = v;
  word = word_of (strings_of ws) a b;
  reaches = r;
  longest = l.longest (strings_of ws);
  passes = p;
}

pub has_no_word : (t : Text) (n : ℕ) (f : Bool) (ws : List Token) (u : Text) → Reaches t (place n f ws u) → (u ≡ [] → ⊥) → after_gap n f u ≡ None → BeginsNoWord u → HasNoWord t n
has_no_word t n f ws u r some g w = record {
  fresh = f;
  before = ws;
  rest = u;
  reaches = r;
  stuck = record { some = some; no_gap = g; no_word = w.none (strings_of ws) };
}
