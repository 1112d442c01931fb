-- Short expressions: their numbers and characters are such as C's words can be, and their pointers have light bounds.
use Rattle.std.proofs.Common.{◌≡◌, inl, inr, ℕ, ◌+◌, ◌*◌, ◌≤◌, ◌<◌, ◌^◌, IsTrue, Bool, true, false, not, cond, ◌&&◌, ◌||◌, ◌==◌}
use Rattle.std.proofs.Common.{nat_le, List, [], ◌∷◌, ◌++◌, All, Option, Some, None, Ok, Contains, refl, sym, ◌∙◌, subst}
use Rattle.std.proofs.Common.{arith}
use Rattle.std.proofs.lemmas.Bool.{and_parts, eqb-true, leb-true, lt-ltb}
use Rattle.std.proofs.lemmas.Int.{unsigned_abs-mul}
use Rattle.std.proofs.lemmas.List.Elements.{All-nil, All-cons, All-head, All-tail, All-weaker}
use Rattle.c_tree.specs.declared.expressions.Expr.{Expr, map-Expr, roll-Expr}
use Rattle.c_tree.specs.declared.expressions.Expr.TheOpen as E
use Rattle.c_tree.specs.declared.expressions.Expr.TheFolds.{fold-roll-Expr, ind-Expr}
use Rattle.c_tree.specs.declared.items.Function.{Function}
use Rattle.c_tree.specs.declared.items.Item.TheVariants as item
use Rattle.c_tree.specs.declared.items.Unit.{Unit as TextUnit}
use Rattle.c_tree.specs.declared.keywords.Keyword.{Keyword}
use Rattle.c_tree.specs.declared.signs.Sign.TheVariants as sign
use Rattle.c_tree.specs.declared.words.Suffix.{Suffix}
use Rattle.c_tree.specs.declared.words.Suffix.TheVariants as suffix
use Rattle.c_tree.specs.declared.words.Word.{Word}
use Rattle.c_tree.specs.declared.words.Word.TheVariants as word
use Rattle.c_tree.specs.Bytes.{Text, is_digit, first_is}
use Rattle.c_tree.specs.Characters.{is_plain, is_escape, escaped, is_quotable, meaning}
use Rattle.c_tree.specs.Names.{named, reserved}
use Rattle.c_tree.specs.Numbers.{IsNumber, decimal, octal, hexadecimal, decimal_end}
use Rattle.c_tree.specs.Short.{IsWritten, IsShortExpr}
use Rattle.c_tree.specs.ShortUnit.{IsShortUnit}
use Rattle.c_tree.specs.Spelling.{a_sign as sign_words, a_name as name_words, in_parentheses, type_words, binary_sign, unary_sign}
use Rattle.c_tree.specs.Spelling.{expression_words, spelled}
use Rattle.c_tree.specs.Words.{WordAt, a_name, a_number, a_character, a_string, a_sign}
use Rattle.checked_tree.specs.declared.sums.Part.{Part}
use Rattle.checked_tree.specs.declared.sums.Part.TheVariants.{Constant, Atom}
use Rattle.checked_tree.specs.declared.sums.Sum.{Sum}
use Rattle.checked_tree.specs.Light.{reach, reach_of}
use Rattle.checked_tree.specs.Numbers.{sum_limit}
use Rattle.deputy_types.specs.Table.{Table}
use Rattle.deputy_types.specs.UnitLayout.{layout}
use Rattle.deputy_rules.specs.declared.handed.Handed.{Handed}
use Rattle.deputy_rules.specs.Context.{Context}
use Rattle.deputy_rules.specs.Functions.{context_of}
use Rattle.deputy_rules.specs.Numbering.{Numbered}
use Rattle.deputy_rules.specs.Statements.{statement_context}
use Rattle.light_checks.specs.Lightness.{part_factor, part_constant, factors, constants}
use Rattle.light_checks.specs.Standing.{Stands}
use Rattle.light_checks.specs.Weights.{IsBound, IsHanded}
use Rattle.light_checks.specs.Within.{IsContext}
use Rattle.light_checks.proofs.PointerBounds.{pointer_is}
use Rattle.light_checks.proofs.Refusals.{at_line_within}
use Rattle.light_checks.proofs.ShortUnits.{context_within}
use Rattle.driver_safety.specs.Handing.{HaveWords}
use Rattle.driver_safety.specs.KernelLaw.{IsLight, AreLight}
use Rattle.driver_safety.specs.LightHandling.{IsLightHanded}
use Rattle.driver_safety.specs.WrittenNumbers.{words_level, has_words}

-- a number of 32 bits, and a character of 8
abbrev IsWord : Word → Type 0
IsWord (word.Number n s) = n < 2 ^ 32
IsWord (word.Character c) = c < 2 ^ 8
IsWord _ = Unit {0}

-- ---- numbers
end_small : (x : Suffix) (n : ℕ) → n < decimal_end x → n < 2 ^ 32
end_small suffix.Plain n h = omega arith
end_small suffix.Long n h = omega arith
end_small suffix.Unsigned n h = omega arith
end_small suffix.UnsignedLong n h = omega arith

number_small : (b : Text) (n : ℕ) (x : Suffix) → IsNumber b n x → n < 2 ^ 32
number_small b n x (decimal first digits below) = end_small x n below
number_small b n x (octal first digits below) = omega arith
number_small b n x (hexadecimal c t parts is digits below) = omega arith

-- ---- characters
either : {P : Type 0} (x y : Bool) → (x ≡ true → P) → (y ≡ true → P) → (x || y) ≡ true → P
either true y f g h = f refl
either false y f g h = g h

byte_of : (c k : ℕ) → k ≤ 116 → (c == k) ≡ true → c ≤ 116
byte_of c k h e = let s = eqb-true c k e in omega arith

escape_byte : (d : ℕ) (t : Text) → is_escape d t ≡ true → d ≤ 116
escape_byte d t h =
    either (d == 110 || (d == 116 || (d == 114 || (d == 92 || (d == 39 || d == 34))))) (d == 48 && not (first_is is_digit t))
    (either (d == 110) _ (byte_of d 110 (omega arith))
    (either (d == 116) _ (byte_of d 116 (omega arith)) (either (d == 114) _ (byte_of d 114 (omega arith))
    (either (d == 92) _ (byte_of d 92 (omega arith))
    (either (d == 39) (d == 34) (byte_of d 39 (omega arith)) (byte_of d 34 (omega arith)))))))
    (λ e. byte_of d 48 (omega arith) (and_parts (d == 48) (not (first_is is_digit t)) e).0) h

pick : (b : Bool) (x y m : ℕ) → x < m → y < m → cond b x y < m
pick true x y m h k = h
pick false x y m h k = k

escaped_small : (d : ℕ) → d ≤ 116 → escaped d < 2 ^ 8
escaped_small d h =
    pick (d == 110) 10 _ (2 ^ 8) (omega arith) (pick (d == 116) 9 _ (2 ^ 8) (omega arith) (pick (d == 114) 13 _ (2 ^ 8) (omega arith)
    (pick (d == 48) 0 d (2 ^ 8) (omega arith) (omega arith))))

plain_small : (c : ℕ) → is_plain 39 c ≡ true → c < 2 ^ 8
plain_small c h =
    let inside = (and_parts (nat_le 32 c && nat_le c 126) (not (c == 39 || c == 92)) h).0 in
    let less = leb-true c 126 (and_parts (nat_le 32 c) (nat_le c 126) inside).1 in
    omega arith

first_same : (a c : ℕ) (t : Text) → a ∷ t ≡ c ∷ [] → a ≡ c
first_same a c t h = cc

character_small : (b : Text) (c : ℕ) → is_quotable 39 b ≡ true → meaning b ≡ c ∷ [] → c < 2 ^ 8
character_small [] c q m = absurd cc
character_small (x ∷ []) c q m = subst (λ n. n < 2 ^ 8) (first_same x c [] m) (plain_small x q)
character_small (x ∷ d ∷ t) c q m = by (x == 92) q m
  where
    by : (e : Bool) → cond e (is_escape d t && is_quotable 39 t) (is_plain 39 x && is_quotable 39 (d ∷ t)) ≡ true
        → cond e (escaped d ∷ meaning t) (x ∷ meaning (d ∷ t)) ≡ c ∷ [] → c < 2 ^ 8
    by true q m = subst (λ n. n < 2 ^ 8) (first_same (escaped d) c (meaning t) m)
        (escaped_small d (escape_byte d t (and_parts (is_escape d t) (is_quotable 39 t) q).0))
    by false q m = subst (λ n. n < 2 ^ 8) (first_same x c (meaning (d ∷ t)) m)
        (plain_small x (and_parts (is_plain 39 x) (is_quotable 39 (d ∷ t)) q).0)

-- ---- words
name_small : (b : Text) (o : Option Keyword) → IsWord (named b o)
name_small b None = tt
name_small b (Some k) = tt

word_small : {i : ℕ} {t v : Text} {k : Word} → WordAt i t v k → IsWord k
word_small (a_name b parts name is) = subst IsWord (sym is) (name_small b (reserved b))
word_small (a_number b parts number apart) = number_small b _ _ number
word_small (a_character b parts quotable means) = character_small b _ quotable means
word_small (a_string b parts quotable) = tt
word_small (a_sign s parts no_comment) = tt

pub written_small : (k : Word) → IsWritten k → IsWord k
written_small k w = word_small w.3

-- ---- expressions
all_both : {X : Type 0} (P : X → Type 0) (xs ys : List X) → All P (xs ++ ys) → All P xs × All P ys
all_both P [] ys a = (All-nil P, a)
all_both P (x ∷ xs) ys a =
    let rest = all_both P xs ys (All-tail P x (xs ++ ys) a) in (All-cons P x xs (All-head P x (xs ++ ys) a) rest.0, rest.1)

abbrev AreWords : List Word → Type 0
AreWords ks = All IsWord ks

abbrev Has : Expr → Type 0
Has e = AreWords (spelled e) → IsTrue (has_words e)

abbrev Known : Type 0
Known = (e : Expr) × Has e

abbrev words : E.Expr-F Known → List Word
words x = expression_words (map-Expr Known (List Word) (λ k. spelled k.0) x)

abbrev haves : E.Expr-F Known → Bool
haves x = words_level (map-Expr Known Bool (λ k. has_words k.0) x)

both_true : (a b : Bool) → IsTrue a → IsTrue b → IsTrue (a && b)
both_true true true h k = refl
both_true true false h k = absurd cc
both_true false b h k = absurd cc

by : (x : E.Expr-F Known) → AreWords (words x) → IsTrue (haves x)
by (E.Number n) r = lt-ltb n.value (2 ^ 32) (All-head IsWord (word.Number n.value n.suffix) [] r)
by (E.Character c) r = lt-ltb c 256 (All-head IsWord (word.Character c) [] r)
by (E.String s k) r = refl
by (E.Name x) r = refl
by (E.Grouped x) r =
    x.1 (all_both IsWord (spelled x.0) (sign_words sign.ParenClose)
    (all_both IsWord (sign_words sign.ParenOpen) (spelled x.0 ++ sign_words sign.ParenClose) r).1).0
by E.Null r = refl
by (E.Unary o x) r = x.1 (all_both IsWord (sign_words (unary_sign o)) (spelled x.0) r).1
by (E.Binary o x y) r =
    let a = all_both IsWord (spelled x.0) (sign_words (binary_sign o) ++ spelled y.0) r in
    let b = all_both IsWord (sign_words (binary_sign o)) (spelled y.0) a.1 in
    both_true (has_words x.0) (has_words y.0) (x.1 a.0) (y.1 b.1)
by (E.Cast t x) r = x.1 (all_both IsWord (in_parentheses (type_words t)) (spelled x.0) r).1
by (E.Sizeof t) r = refl
by (E.Field x f) r = x.1 (all_both IsWord (spelled x.0) (sign_words sign.Dot ++ name_words f) r).0
by (E.Arrow x f) r = x.1 (all_both IsWord (spelled x.0) (sign_words sign.Arrow ++ name_words f) r).0
by (E.Index x y) r =
    let a = all_both IsWord (spelled x.0) (sign_words sign.BracketOpen ++ (spelled y.0 ++ sign_words sign.BracketClose)) r in
    let b = all_both IsWord (sign_words sign.BracketOpen) (spelled y.0 ++ sign_words sign.BracketClose) a.1 in
    both_true (has_words x.0) (has_words y.0) (x.1 a.0) (y.1 (all_both IsWord (spelled y.0) (sign_words sign.BracketClose) b.1).0)

parts : E.Expr-F Known → E.Expr-F Expr
parts x = map-Expr Known Expr (λ k. k.0) x

same_words : (x : E.Expr-F Known) → expression_words (map-Expr Expr (List Word) spelled (parts x)) ≡ words x
unfolding parts
same_words E.Null = refl
same_words _ = refl

same_haves : (x : E.Expr-F Known) → words_level (map-Expr Expr Bool has_words (parts x)) ≡ haves x
unfolding parts
same_haves E.Null = refl
same_haves _ = refl

words_at : (y : E.Expr-F Expr) → spelled (roll-Expr y) ≡ expression_words (map-Expr Expr (List Word) spelled y)
words_at y = fold-roll-Expr (List Word) expression_words y

haves_at : (y : E.Expr-F Expr) → has_words (roll-Expr y) ≡ words_level (map-Expr Expr Bool has_words y)
unfolding has_words
haves_at y = fold-roll-Expr Bool words_level y

all_have : (e : Expr) → Has e
unfolding parts
all_have = ind-Expr Has (λ z x e. subst (λ l. Has (roll-Expr l)) e (here x))
  where
    here : (x : E.Expr-F Known) → Has (roll-Expr (map-Expr Known Expr (λ k. k.0) x))
    here x r = subst IsTrue (sym (haves_at (parts x) ∙ same_haves x)) (by x (subst AreWords (words_at (parts x) ∙ same_words x) r))

pub short_words : (e : Expr) → IsShortExpr e → IsTrue (has_words e)
short_words e s = all_have e (All-weaker IsWritten IsWord written_small (spelled e) s.written)

-- ---- light bounds
part_reach : (p : Part) → reach p ≤ part_constant p + part_factor p * 2 ^ 32
part_reach (Constant k z) = let e = unsigned_abs-mul k z in omega (arith, e)
part_reach (Atom k e) = omega arith

parts_reach : (ps : List Part) → reach_of ps ≤ constants ps + factors ps * 2 ^ 32
parts_reach [] = omega arith
parts_reach (p ∷ ps) = let one = part_reach p in let rest = parts_reach ps in omega (arith, one, rest)

bound_reach : (s : Sum) → IsBound 1000 s → reach_of s.parts < sum_limit
bound_reach s b = let all = parts_reach s.parts in let f = b.factors in let c = b.constants in omega (arith, all, f, c)

light_handed : (h : Handed) → IsHanded 1000 h → IsLightHanded h
light_handed h is = record { low = bound_reach h.low is.low; high = bound_reach h.high is.high }

pub short_light : (ctx : Context) → IsContext ctx → (e : Expr) → IsShortExpr e → IsLight ctx e
short_light ctx is e s = record {
  words = short_words e s;
  hands = λ d asked derived key nullterm h k.
      light_handed h (pointer_is ctx is e h (record {
        short = s;
        found = d;
        asked = asked;
        derives = derived;
        hands = inl (key, nullterm, k);
      }));
  frees = λ d asked derived h k.
      light_handed h (pointer_is ctx is e h (record { short = s; found = d; asked = asked; derives = derived; hands = inr k }));
}

pub short_lights : (ctx : Context) → IsContext ctx → (es : List Expr) → All IsShortExpr es → AreLight ctx es
short_lights ctx is [] all = tt
short_lights ctx is (e ∷ es) all =
    (short_light ctx is e (All-head IsShortExpr e es all), short_lights ctx is es (All-tail IsShortExpr e es all))

pub short_have : (es : List Expr) → All IsShortExpr es → HaveWords es
short_have es all = All-weaker IsShortExpr (λ e. IsTrue (has_words e)) (λ e s. short_words e s) es all

-- where a statement of a short unit's function stands
pub statement_within : (u : TextUnit) (t : Table) (g : Function) (line : ℕ) (n : Numbered) → IsShortUnit u → layout u ≡ Ok t
    → Contains u.items (item.Function g) → Stands t g
    → IsContext (statement_context (context_of t g) line n)
statement_within u t g line n short h there stands = at_line_within (context_of t g) line n (context_within u t g short h there stands)
