-- What an expression takes from the limits of the text that it stands in: it is short.
use Rattle.std.proofs.Common.{◌≡◌, ℕ, ◌+◌, ◌-◌, ◌<◌, ◌≤◌, List, [], ◌∷◌, ◌++◌, length, take, drop, slice_range, fold, Bool, true, false, cond, ◌&&◌, nat_le, nat_lt, Option, None, Some, All, refl, ap, sym, ◌∙◌, subst, append_assoc, append-nil, take-append-drop, suc, arith}
use Rattle.std.proofs.lemmas.Bool.Decides.{nat_tests}
use Rattle.std.proofs.lemmas.List.Sums.{fold-append}
use Rattle.std.proofs.lemmas.List.Elements.{All-nil, All-cons}
use Rattle.c_tree.specs.declared.expressions.Expr.{Expr}
use Rattle.c_tree.specs.declared.limits.LimitKind.{LimitKind}
use Rattle.c_tree.specs.declared.limits.LimitKind.TheVariants as limit
use Rattle.c_tree.specs.declared.words.Token.{Token}
use Rattle.c_tree.specs.declared.words.Word.{Word}
use Rattle.c_tree.specs.Bytes.{Text}
use Rattle.c_tree.specs.Division.{Place, place, Step, takes_gap, takes_word, Reaches, starts, goes, IsDivision, token}
use Rattle.c_tree.specs.ExpressionGrammar.{IsExpr}
use Rattle.c_tree.specs.Limits.{is_sign, is_opening, is_closing, is_unary, run_after, run_of, nesting_after, nesting_of, unary_of, strings_of, name_length, passed}
use Rattle.c_tree.specs.Short.{IsWritten, IsShortExpr}
use Rattle.c_tree.specs.Spelling.{spelled}
use Rattle.c_expr.specs.Tokens.{words_of}
use Rattle.c_expr.proofs.Spelled.{Quiet, row_written, tree_words}

-- behind the words a can stand the words b of a text within its limits
pub data Follows : List Token → List Token → Type 0 where
  done : {a : List Token} → Follows a []
  next : {a b : List Token} {k : Token} → passed a k.word ≡ None → IsWritten k.word → Follows (a ++ k ∷ []) b → Follows a (k ∷ b)

pub one_more : (a b : List Token) (k : Token) → Follows a b → passed (a ++ b) k.word ≡ None → IsWritten k.word → Follows a (b ++ k ∷ [])
one_more a b k done p w = next (subst (λ z. passed z k.word ≡ None) (append-nil a) p) w done
one_more a b k (next {b = r} {k = j} q v d) p w = next q v (one_more (a ++ j ∷ []) r k d (subst (λ z. passed z k.word ≡ None) (sym (append_assoc a (j ∷ []) r)) p) w)

abbrev Fits : Place → Type 0
Fits (place n f ws t) = Follows [] ws

step_fits : (p q : Place) → Step p q → Fits p → Fits q
step_fits p q (takes_gap e) d = d
step_fits p q (takes_word {n = n} {ws = ws} {t = t} {v = v} {k = k} longest e) d = one_more [] ws (token k n) d e (strings_of ws, t, v, longest.is)

reached : (t : Text) (p : Place) → Reaches t p → Fits p
reached t p starts = done
reached t p (goes {p = q} r s) = step_fits q p s (reached t q r)

pub division_fits : (t : Text) (ws : List Token) → IsDivision t ws → Follows [] ws
division_fits t ws (n, f, r) = reached t (place n f ws []) r

-- ---- what a word that passes no limit says
-- of two tests in a row that choose nothing the second fails
second_fails : (b c : Bool) (x y : LimitKind) (o : Option LimitKind) → cond b (Some x) (cond c (Some y) o) ≡ None → c ≡ false
second_fails true c x y o e = cc
second_fails false true x y o e = cc
second_fails false false x y o e = refl

-- the limits behind that of nesting
abbrev later : List Token → Word → Option LimitKind
later a k = cond (is_sign is_unary k && nat_le 16 (unary_of a)) (Some limit.Unary) (cond (nat_lt 63 (name_length k)) (Some limit.Name) None)

pub below : (m n : ℕ) → nat_le m n ≡ false → n < m
below m n e = grind (arith, nat_tests)

pub run_room : (a : List Token) (k : Word) → passed a k ≡ None → run_of a < 1000
run_room a k e = below 1000 (run_of a)
    (second_fails (nat_le 200000 (length a)) (nat_le 1000 (run_of a)) limit.Words limit.Run (cond (is_sign is_opening k && nat_le 64 (nesting_of a)) (Some limit.Nesting) (later a k)) e)

opening_room : (o : Bool) (n : ℕ) → (o && nat_le 64 n) ≡ false → o ≡ true → n < 64
opening_room true n e h = below 64 n e
opening_room false n e h = cc

-- of three tests in a row that choose nothing the third fails
third_fails : (b c d : Bool) (x y z : LimitKind) (o : Option LimitKind) → cond b (Some x) (cond c (Some y) (cond d (Some z) o)) ≡ None → d ≡ false
third_fails true c d x y z o e = cc
third_fails false true d x y z o e = cc
third_fails false false true x y z o e = cc
third_fails false false false x y z o e = refl

pub nesting_room : (a : List Token) (k : Word) → passed a k ≡ None → is_sign is_opening k ≡ true → nesting_of a < 64
nesting_room a k e h = opening_room (is_sign is_opening k) (nesting_of a)
    (third_fails (nat_le 200000 (length a)) (nat_le 1000 (run_of a)) (is_sign is_opening k && nat_le 64 (nesting_of a)) limit.Words limit.Run limit.Nesting (later a k) e) h

-- ---- counts behind one more word
pub run_more : (a : List Token) (k : Token) → run_of (a ++ k ∷ []) ≡ run_after (run_of a) k.word
run_more a k = fold-append (λ n t. run_after n t.word) 0 a (k ∷ [])

pub nesting_more : (a : List Token) (k : Token) → nesting_of (a ++ k ∷ []) ≡ nesting_after (nesting_of a) k.word
nesting_more a k = fold-append (λ n t. nesting_after n t.word) 0 a (k ∷ [])

-- ---- how many words
pub run_length : (a s r : List Token) → Follows a (s ++ r) → Quiet (words_of s) → length s ≤ 1000 - run_of a
run_length a [] r d q = omega arith
run_length a (k ∷ s) r (next e w d) q =
    let room = run_room a k.word e in
    let grows : run_of (a ++ k ∷ []) ≡ run_of a + 1 = run_more a k ∙ ap (λ b. cond b 0 (run_of a + 1)) q.0 in
    let rest = run_length (a ++ k ∷ []) s r d q.1 in
    omega arith

-- ---- how deep brackets nest
pub nesting_mono : (o c : Bool) (n m : ℕ) → n ≤ m → cond o (n + 1) (cond c (n - 1) n) ≤ cond o (m + 1) (cond c (m - 1) m)
nesting_mono true c n m h = omega arith
nesting_mono false true n m h = omega arith
nesting_mono false false n m h = h

nesting_bound : (o c : Bool) (n : ℕ) → n ≤ 64 → (o ≡ true → n < 64) → cond o (n + 1) (cond c (n - 1) n) ≤ 64
nesting_bound true c n h room = let more = room refl in omega arith
nesting_bound false true n h room = omega arith
nesting_bound false false n h room = h

pub nesting_fits : (a : List Token) (k : Token) → passed a k.word ≡ None → nesting_of a ≤ 64 → nesting_of (a ++ k ∷ []) ≤ 64
nesting_fits a k e h = subst (λ n. n ≤ 64) (sym (nesting_more a k)) (nesting_bound (is_sign is_opening k.word) (is_sign is_closing k.word) (nesting_of a) h (nesting_room a k.word e))

pub open_fits : (before after : List Word) (a s r : List Token) (n : ℕ) → Follows a (s ++ r) → words_of s ≡ before ++ after → n ≤ nesting_of a → nesting_of a ≤ 64
    → fold (λ m k. nesting_after m k) n before ≤ 64
open_fits [] after a s r n d e h i = omega arith
open_fits (k ∷ before) after a [] r n d e h i = cc
open_fits (k ∷ before) after a (t ∷ s) r n (next p w d) e h i =
    let is : t.word ≡ k = cc in
    let rest : words_of s ≡ before ++ after = cc in
    let more : nesting_after n t.word ≤ nesting_of (a ++ t ∷ []) =
    subst (λ m. nesting_after n t.word ≤ m) (sym (nesting_more a t)) (nesting_mono (is_sign is_opening t.word) (is_sign is_closing t.word) n (nesting_of a) h) in
    subst (λ j. fold (λ m k. nesting_after m k) (nesting_after n j) before ≤ 64) is
    (open_fits before after (a ++ t ∷ []) s r (nesting_after n t.word) d rest more (nesting_fits a t p i))

-- ---- which words
pub all_written : (a s r : List Token) → Follows a (s ++ r) → All IsWritten (words_of s)
all_written a [] r d = All-nil IsWritten
all_written a (k ∷ s) r (next p w d) = All-cons IsWritten k.word (words_of s) w (all_written (a ++ k ∷ []) s r d)

-- ---- behind some words of the text
pub follows_on : (a b c : List Token) → Follows a (b ++ c) → nesting_of a ≤ 64 → Follows (a ++ b) c × (nesting_of (a ++ b) ≤ 64)
follows_on a [] c d h = (subst (λ z. Follows z c) (sym (append-nil a)) d, subst (λ z. nesting_of z ≤ 64) (sym (append-nil a)) h)
follows_on a (k ∷ b) c (next p w d) h =
    let rest = follows_on (a ++ k ∷ []) b c d (nesting_fits a k p h) in
    (subst (λ z. Follows z c) (append_assoc a (k ∷ []) b) rest.0, subst (λ z. nesting_of z ≤ 64) (append_assoc a (k ∷ []) b) rest.1)

-- an expression among the words of a text is short
short_span : (a s r : List Token) (x : Expr) → Follows a (s ++ r) → nesting_of a ≤ 64 → IsExpr s x → IsShortExpr x
short_span a s r x d h e =
    let words : words_of s ≡ spelled x = tree_words s x e in
    let quiet : Quiet (words_of s) = subst Quiet (sym words) (row_written e).quiet in
    let count : length (words_of s) ≡ length (spelled x) = ap length words in
    let size = run_length a s r d quiet in
    record {
      words = omega (arith, length-map_words s);
      nesting = λ before after f. open_fits before after a s r 0 d (words ∙ f) (omega arith) h;
      written = subst (All IsWritten) words (all_written a s r d);
    }
  where
    length-map_words : (s : List Token) → length (words_of s) ≡ length s
    length-map_words [] = refl
    length-map_words (t ∷ s) = ap suc (length-map_words s)

pub short_there : (t : Text) (ws : List Token) (at n : ℕ) (x : Expr) → IsDivision t ws → IsExpr (slice_range ws at n) x → IsShortExpr x
short_there t ws at n x d e =
    let from = drop at ws in
    let whole : take at ws ++ from ≡ ws = take-append-drop at ws in
    let there = follows_on [] (take at ws) from (subst (Follows []) (sym whole) (division_fits t ws d)) (omega arith) in
    let parts : take (n - at) from ++ drop (n - at) from ≡ from = take-append-drop (n - at) from in
    short_span (take at ws) (take (n - at) from) (drop (n - at) from) x (subst (Follows (take at ws)) (sym parts) there.0) there.1 e
