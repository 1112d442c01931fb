-- The longest word at a place, by the kind of its first byte.
use Rattle.std.proofs.Common.{◌≡◌, ℕ, ◌+◌, ◌-◌, ◌<◌, Bool, true, false, cond, ◌||◌, eqb, [], ◌∷◌, ◌++◌, length, take, drop, Option, Some, None, ◌⊎◌, inl, inr, ⊎_elim, refl, sym, ap, ◌∙◌, subst, arith, append-nil}
use Rattle.std.specs.List.{list_all}
use Rattle.std.proofs.lemmas.Bool.Decides.{nat_tests}
use Rattle.c_tree.specs.declared.keywords.Keyword.{Keyword}
use Rattle.c_tree.specs.declared.signs.Sign.{Sign}
use Rattle.c_tree.specs.declared.signs.Sign.TheVariants as sign
use Rattle.c_tree.specs.declared.words.Suffix.{Suffix}
use Rattle.c_tree.specs.declared.words.Word.{Word}
use Rattle.c_tree.specs.declared.words.Word.TheVariants as word
use Rattle.c_tree.specs.Bytes.{Text, is_digit, is_letter, is_name_byte, first_is}
use Rattle.c_tree.specs.Characters.{is_quotable, meaning}
use Rattle.c_tree.specs.Gaps.{opens_block, opens_line}
use Rattle.c_tree.specs.Names.{is_name, reserved, named}
use Rattle.c_tree.specs.Numbers.{IsNumber}
use Rattle.c_tree.specs.Signs.{spelled_sign}
use Rattle.c_tree.specs.Words.{WordAt, a_name, a_number, a_character, a_string, a_sign, Longest}
use Rattle.c_token.specs.declared.lexemes.Kind.{Kind}
use Rattle.c_token.specs.declared.lexemes.Kind.TheVariants as kind
use Rattle.c_token.specs.Leads.{Lead, of_name, of_number, of_character, of_string, of_other, lead, first_lead}
use Rattle.c_token.specs.Lexemes.{word_of, IsLongest, BeginsNoWord}
use Rattle.c_token.specs.Order.{sign_order}
use Rattle.c_token.specs.Scans.{front_of, rest_of, front_length, quoted_length, meaning_after, one_meant, found_sign, first_sign}
use Rattle.c_token.proofs.NumberLaws.{IsNumber-unique, IsNumber-first, IsNumber-named}
use Rattle.c_token.proofs.Pieces.{front-rest, all-front, first-rest, front_of-append, rest_of-append, front_length-front, rest_or_all, front_of-piece, rest_of-piece, cut_front, cut_rest, cut_behind}
use Rattle.c_token.proofs.QuoteLaws.{single, double, quoted_length-sound, quoted-unique, quoted_length-none, one_meant-sound, one_meant-complete, meaning_after-false}
use Rattle.c_token.proofs.SignLaws.{first_sign-is, first_sign-finds, sign_order-own}
use Rattle.c_token.proofs.Choices.{both, and_true}

-- what a word begins with
abbrev pub lead_of : Word → Lead
lead_of (word.Name b) = of_name
lead_of (word.Keyword k) = of_name
lead_of (word.Number n x) = of_number
lead_of (word.Character c) = of_character
lead_of (word.String b i) = of_string
lead_of (word.Sign s) = of_other

lead_of-named : (b : Text) (o : Option Keyword) → lead_of (named b o) ≡ of_name
lead_of-named b None = refl
lead_of-named b (Some k) = refl

pub lead-letter : (c : ℕ) → is_letter c ≡ true → lead c ≡ of_name
lead-letter c h = by_tests (is_letter c) (is_digit c) (eqb c 39) (eqb c 34) h
  where
    by_tests : (a b d e : Bool) → a ≡ true → cond a of_name (cond b of_number (cond d of_character (cond e of_string of_other))) ≡ of_name
    by_tests true b d e g = refl
    by_tests false b d e g = cc

pub lead-digit : (c : ℕ) → is_digit c ≡ true → lead c ≡ of_number
lead-digit c h = by_tests (is_letter c) (is_digit c) (eqb c 39) (eqb c 34) (no_letter c h) h
  where
    no_letter : (d : ℕ) → is_digit d ≡ true → is_letter d ≡ false
    no_letter d g = grind (arith, nat_tests)

    by_tests : (a b d e : Bool) → a ≡ false → b ≡ true → cond a of_name (cond b of_number (cond d of_character (cond e of_string of_other))) ≡ of_number
    by_tests true b d e f g = cc
    by_tests false true d e f g = refl
    by_tests false false d e f g = cc

pub lead-other : (c : ℕ) → is_letter c ≡ false → is_digit c ≡ false → eqb c 39 ≡ false → eqb c 34 ≡ false → lead c ≡ of_other
lead-other c = by_tests (is_letter c) (is_digit c) (eqb c 39) (eqb c 34)
  where
    by_tests : (a b d e : Bool) → a ≡ false → b ≡ false → d ≡ false → e ≡ false → cond a of_name (cond b of_number (cond d of_character (cond e of_string of_other))) ≡ of_other
    by_tests true b d e f g h i = cc
    by_tests false true d e f g h i = cc
    by_tests false false true e f g h i = cc
    by_tests false false false true f g h i = cc
    by_tests false false false false f g h i = refl

letter-lead : (c : ℕ) → lead c ≡ of_name → is_letter c ≡ true
letter-lead c = by_tests (is_letter c) (is_digit c) (eqb c 39) (eqb c 34)
  where
    by_tests : (a b d e : Bool) → cond a of_name (cond b of_number (cond d of_character (cond e of_string of_other))) ≡ of_name → a ≡ true
    by_tests true b d e g = refl
    by_tests false true d e g = cc
    by_tests false false true e g = cc
    by_tests false false false true g = cc
    by_tests false false false false g = cc

name_lead : (b v : Text) → is_name b ≡ true → first_lead (b ++ v) ≡ of_name
name_lead [] v h = cc
name_lead (c ∷ b) v h = lead-letter c (both (is_letter c) (list_all is_name_byte b) h).0

digit_lead : (b v : Text) → first_is is_digit b ≡ true → first_lead (b ++ v) ≡ of_number
digit_lead [] v h = cc
digit_lead (c ∷ b) v h = lead-digit c h

sign_lead : (s : Sign) (v : Text) → first_lead (spelled_sign s ++ v) ≡ of_other
sign_lead sign.BraceOpen v = refl
sign_lead _ v = refl

-- a word is of the kind of its first byte
pub first_lead-word : {i : ℕ} {t v : Text} {k : Word} → WordAt i t v k → first_lead t ≡ lead_of k
first_lead-word {v = v} (a_name b e h g) = ap first_lead e ∙ name_lead b v h ∙ sym (ap lead_of g ∙ lead_of-named b (reserved b))
first_lead-word {v = v} (a_number b e h g) = ap first_lead e ∙ digit_lead b v (IsNumber-first h)
first_lead-word (a_character b e h g) = ap first_lead e
first_lead-word (a_string b e h) = ap first_lead e
first_lead-word {v = v} (a_sign s e h) = ap first_lead e ∙ sign_lead s v

-- what is known of a word of each kind
record NamePiece (t v : Text) (k : Word) : Type 0 where
  piece : Text
  parts : t ≡ piece ++ v
  is : is_name piece ≡ true
  word : k ≡ named piece (reserved piece)

name_piece : {i : ℕ} {t v : Text} {k : Word} → WordAt i t v k → lead_of k ≡ of_name → NamePiece t v k
name_piece (a_name b e h g) l = record { piece = b; parts = e; is = h; word = g }
name_piece (a_number b e h g) l = cc
name_piece (a_character b e h g) l = cc
name_piece (a_string b e h) l = cc
name_piece (a_sign s e h) l = cc

record NumberPiece (t v : Text) (k : Word) : Type 0 where
  piece : Text
  value : ℕ
  suffix : Suffix
  parts : t ≡ piece ++ v
  is : IsNumber piece value suffix
  ends : first_is is_name_byte v ≡ false
  word : k ≡ word.Number value suffix

number_piece : {i : ℕ} {t v : Text} {k : Word} → WordAt i t v k → lead_of k ≡ of_number → NumberPiece t v k
number_piece (a_name b e h g) l = let z = lead_of-named b (reserved b) in let y = ap lead_of g in cc
number_piece (a_number {n = n} {x = x} b e h g) l = record { piece = b; value = n; suffix = x; parts = e; is = h; ends = g; word = refl }
number_piece (a_character b e h g) l = cc
number_piece (a_string b e h) l = cc
number_piece (a_sign s e h) l = cc

record CharacterPiece (t v : Text) (k : Word) : Type 0 where
  piece : Text
  byte : ℕ
  parts : t ≡ 39 ∷ piece ++ 39 ∷ v
  is : is_quotable 39 piece ≡ true
  means : meaning piece ≡ byte ∷ []
  word : k ≡ word.Character byte

character_piece : {i : ℕ} {t v : Text} {k : Word} → WordAt i t v k → lead_of k ≡ of_character → CharacterPiece t v k
character_piece (a_name b e h g) l = let z = lead_of-named b (reserved b) in let y = ap lead_of g in cc
character_piece (a_number b e h g) l = cc
character_piece (a_character {c = c} b e h g) l = record { piece = b; byte = c; parts = e; is = h; means = g; word = refl }
character_piece (a_string b e h) l = cc
character_piece (a_sign s e h) l = cc

record StringPiece (i : ℕ) (t v : Text) (k : Word) : Type 0 where
  piece : Text
  parts : t ≡ 34 ∷ piece ++ 34 ∷ v
  is : is_quotable 34 piece ≡ true
  word : k ≡ word.String (meaning piece) i

string_piece : {i : ℕ} {t v : Text} {k : Word} → WordAt i t v k → lead_of k ≡ of_string → StringPiece i t v k
string_piece (a_name b e h g) l = let z = lead_of-named b (reserved b) in let y = ap lead_of g in cc
string_piece (a_number b e h g) l = cc
string_piece (a_character b e h g) l = cc
string_piece (a_string b e h) l = record { piece = b; parts = e; is = h; word = refl }
string_piece (a_sign s e h) l = cc

record SignPiece (t v : Text) (k : Word) : Type 0 where
  sign : Sign
  parts : t ≡ spelled_sign sign ++ v
  apart : (opens_block t || opens_line t) ≡ false
  word : k ≡ word.Sign sign

sign_piece : {i : ℕ} {t v : Text} {k : Word} → WordAt i t v k → lead_of k ≡ of_other → SignPiece t v k
sign_piece (a_name b e h g) l = let z = lead_of-named b (reserved b) in let y = ap lead_of g in cc
sign_piece (a_number b e h g) l = cc
sign_piece (a_character b e h g) l = cc
sign_piece (a_string b e h) l = cc
sign_piece (a_sign s e h) l = record { sign = s; parts = e; apart = h; word = refl }

-- NAMES

is_name-all : (b : Text) → is_name b ≡ true → list_all is_name_byte b ≡ true
is_name-all [] h = refl
is_name-all (c ∷ b) h =
    let p = both (is_letter c) (list_all is_name_byte b) h in
    and_true (is_name_byte c) (list_all is_name_byte b) (let e = p.0 in rw e refl) p.1

is_name-front : (t : Text) → first_lead t ≡ of_name → is_name (front_of is_name_byte t) ≡ true
is_name-front [] h = cc
is_name-front (c ∷ t) h =
    let e = letter-lead c h in
    let f : is_name_byte c ≡ true = either_left (is_letter c) (is_digit c) e in
    subst (λ w. is_name w ≡ true) (sym (front_step c t f)) (and_true (is_letter c) (list_all is_name_byte (front_of is_name_byte t)) e (all-front is_name_byte t))
  where
    either_left : (a b : Bool) → a ≡ true → (a || b) ≡ true
    either_left true b g = refl
    either_left false b g = cc

    front_step : (d : ℕ) (u : Text) → is_name_byte d ≡ true → front_of is_name_byte (d ∷ u) ≡ d ∷ front_of is_name_byte u
    front_step d u g = by_test (is_name_byte d) g
      where
        by_test : (a : Bool) → a ≡ true → cond a (d ∷ front_of is_name_byte u) [] ≡ d ∷ front_of is_name_byte u
        by_test true k = refl
        by_test false k = cc

name_no_longer : {i : ℕ} {t u : Text} {j : Word} → first_lead t ≡ of_name → WordAt i t u j
    → (length (rest_of is_name_byte t) < length u) ⊎ ((u ≡ rest_of is_name_byte t) × (j ≡ named (front_of is_name_byte t) (reserved (front_of is_name_byte t))))
name_no_longer {i} {t} {u} {j} h w =
    let p = name_piece w (sym (first_lead-word w) ∙ h) in
    let a = is_name-all p.piece p.is in
    let f : front_of is_name_byte t ≡ p.piece ++ front_of is_name_byte u = ap (front_of is_name_byte) p.parts ∙ front_of-piece is_name_byte p.piece u a in
    let r : rest_of is_name_byte t ≡ rest_of is_name_byte u = ap (rest_of is_name_byte) p.parts ∙ rest_of-piece is_name_byte p.piece u a in
    ⊎_elim (λ (g : length (rest_of is_name_byte u) < length u). inl (subst (λ x. length x < length u) (sym r) g))
    (λ (g : (u ≡ rest_of is_name_byte u) × (front_of is_name_byte u ≡ [])).
    let q : front_of is_name_byte t ≡ p.piece = f ∙ ap (λ x. p.piece ++ x) g.1 ∙ append-nil p.piece in
    inr (g.0 ∙ sym r, p.word ∙ ap (λ b. named b (reserved b)) (sym q)))
    (rest_or_all is_name_byte u)

name_longest : (t : Text) (i : ℕ) → first_lead t ≡ of_name → Longest i t (rest_of is_name_byte t) (named (front_of is_name_byte t) (reserved (front_of is_name_byte t)))
name_longest t i h = record {
  is = a_name (front_of is_name_byte t) (front-rest is_name_byte t) (is_name-front t h) refl;
  no_longer = λ u j w. name_no_longer h w;
}

-- the kind of a name
abbrev pub kind_named : Option Keyword → Kind
kind_named None = kind.Name
kind_named (Some k) = kind.Keyword k

word_of-named : (i : ℕ) (b : Text) (o : Option Keyword) → word_of i (kind_named o) b ≡ named b o
word_of-named i b None = refl
word_of-named i b (Some k) = refl

front_cut : (t : Text) (n : ℕ) → n ≡ front_length is_name_byte 0 t → take n t ≡ front_of is_name_byte t
front_cut t n e = cut_front n (front_of is_name_byte t) (rest_of is_name_byte t) t (front-rest is_name_byte t) (omega (arith, e, front_length-front is_name_byte 0 t))

rest_cut : (t : Text) (n : ℕ) → n ≡ front_length is_name_byte 0 t → take (length t - n) (drop n t) ≡ rest_of is_name_byte t
rest_cut t n e = cut_rest n (front_of is_name_byte t) (rest_of is_name_byte t) t (front-rest is_name_byte t) (omega (arith, e, front_length-front is_name_byte 0 t))

pub name_found : (t : Text) (n : ℕ) (o : Option Keyword) → first_lead t ≡ of_name → n ≡ front_length is_name_byte 0 t → o ≡ reserved (take n t)
    → IsLongest t (kind_named o) (take n t) (take (length t - n) (drop n t))
name_found t n o h e g =
    let f = front_cut t n e in
    let r = rest_cut t n e in
    let k : o ≡ reserved (front_of is_name_byte t) = g ∙ ap reserved f in
    record {
      longest = λ i.
          subst (λ v. Longest i t v (word_of i (kind_named o) (take n t))) (sym r)
          (subst (λ w. Longest i t (rest_of is_name_byte t) w) (sym (word_of-named i (take n t) o ∙ ap (λ b. named b o) f ∙ ap (named (front_of is_name_byte t)) k)) (name_longest t i h));
    }

-- NUMBERS

number_front : {i : ℕ} {t u : Text} {j : Word} → first_lead t ≡ of_number → WordAt i t u j → (p : NumberPiece t u j) × (front_of is_name_byte t ≡ p.piece) × (rest_of is_name_byte t ≡ u)
number_front {i} {t} {u} {j} h w =
    let p = number_piece w (sym (first_lead-word w) ∙ h) in
    let a = IsNumber-named p.is in
    (p, ap (front_of is_name_byte) p.parts ∙ front_of-append is_name_byte p.piece u a p.ends, ap (rest_of is_name_byte) p.parts ∙ rest_of-append is_name_byte p.piece u a p.ends)

number_longest : (t : Text) (i n : ℕ) (x : Suffix) → first_lead t ≡ of_number → IsNumber (front_of is_name_byte t) n x → Longest i t (rest_of is_name_byte t) (word.Number n x)
number_longest t i n x h g = record {
  is = a_number (front_of is_name_byte t) (front-rest is_name_byte t) g (first-rest is_name_byte t);
  no_longer = λ u j w.
      let q = number_front h w in
      let s = subst (λ b. IsNumber b n x) q.1 g in
      let e = IsNumber-unique q.0.is s in
      inr (sym q.2, q.0.word ∙ ap (λ m. word.Number m q.0.suffix) e.0 ∙ ap (λ y. word.Number n y) e.1);
}

pub number_found : (t : Text) (n v : ℕ) (x : Suffix) → first_lead t ≡ of_number → n ≡ front_length is_name_byte 0 t → IsNumber (take n t) v x
    → IsLongest t (kind.Number v x) (take n t) (take (length t - n) (drop n t))
number_found t n v x h e g =
    let f = front_cut t n e in
    let r = rest_cut t n e in
    record { longest = λ i. subst (λ u. Longest i t u (word.Number v x)) (sym r) (number_longest t i v x h (subst (λ b. IsNumber b v x) f g)) }

pub number_none : (t : Text) (n : ℕ) → first_lead t ≡ of_number → n ≡ front_length is_name_byte 0 t → ((v : ℕ) (x : Suffix) → IsNumber (take n t) v x → ⊥) → BeginsNoWord t
number_none t n h e none =
    record {
      none = λ i u j w.
          let q = number_front h w in
          let f : q.0.piece ≡ take n t = sym q.1 ∙ sym (front_cut t n e) in
          none q.0.value q.0.suffix (subst (λ b. IsNumber b q.0.value q.0.suffix) f q.0.is);
    }

-- CHARACTERS

tails : (x : ℕ) (a b : Text) → x ∷ a ≡ x ∷ b → a ≡ b
tails x a b h = cc

pub character_found : (u : Text) (n c : ℕ) → Some n ≡ quoted_length 39 0 false u → Some c ≡ one_meant (take n u)
    → IsLongest (39 ∷ u) (kind.Character c) (take n u) (take (length u - (n + 1)) (drop (n + 1) u))
character_found u n c h g =
    let q = quoted_length-sound 39 0 u n single (sym h) in
    let l : n ≡ length q.inside = omega (arith, q.count) in
    let f : take n u ≡ q.inside = cut_front n q.inside (39 ∷ q.behind) u q.parts l in
    let r : take (length u - (n + 1)) (drop (n + 1) u) ≡ q.behind = cut_behind n 39 q.inside q.behind u q.parts l in
    let m : meaning q.inside ≡ c ∷ [] = one_meant-sound q.inside c (g ∙ ap one_meant f) in
    record {
      longest = λ i. subst (λ v. Longest i (39 ∷ u) v (word.Character c)) (sym r) record {
        is = a_character q.inside (ap (λ x. 39 ∷ x) q.parts) q.quotable m;
        no_longer = λ v j w.
            let p = character_piece w (sym (first_lead-word w)) in
            let e : p.piece ++ 39 ∷ v ≡ q.inside ++ 39 ∷ q.behind = sym (tails 39 u (p.piece ++ 39 ∷ v) p.parts) ∙ q.parts in
            let s = quoted-unique 39 p.piece q.inside v q.behind single p.is q.quotable e in
            let z : p.byte ∷ [] ≡ c ∷ [] = sym p.means ∙ ap meaning s.0 ∙ m in
            let y : p.byte ≡ c = cc in
            inr (s.1, p.word ∙ ap (λ b. word.Character b) y);
      };
    }

pub character_none : (u : Text) → None ≡ quoted_length 39 0 false u → BeginsNoWord (39 ∷ u)
character_none u h =
    record {
      none = λ i v j w.
          let p = character_piece w (sym (first_lead-word w)) in
          quoted_length-none 39 u p.piece v single h p.is (tails 39 u (p.piece ++ 39 ∷ v) p.parts);
    }

pub character_several : (u : Text) (n : ℕ) → Some n ≡ quoted_length 39 0 false u → None ≡ one_meant (take n u) → BeginsNoWord (39 ∷ u)
character_several u n h g =
    record {
      none = λ i v j w.
          let q = quoted_length-sound 39 0 u n single (sym h) in
          let f : take n u ≡ q.inside = cut_front n q.inside (39 ∷ q.behind) u q.parts (omega (arith, q.count)) in
          let p = character_piece w (sym (first_lead-word w)) in
          let e : p.piece ++ 39 ∷ v ≡ q.inside ++ 39 ∷ q.behind = sym (tails 39 u (p.piece ++ 39 ∷ v) p.parts) ∙ q.parts in
          let s = quoted-unique 39 p.piece q.inside v q.behind single p.is q.quotable e in
          one_meant-complete q.inside p.byte (ap meaning (sym s.0) ∙ p.means) (g ∙ ap one_meant f);
    }

-- STRINGS

pub string_found : (u : Text) (n : ℕ) → Some n ≡ quoted_length 34 0 false u → IsLongest (34 ∷ u) kind.String (take n u) (take (length u - (n + 1)) (drop (n + 1) u))
string_found u n h =
    let q = quoted_length-sound 34 0 u n double (sym h) in
    let l : n ≡ length q.inside = omega (arith, q.count) in
    let f : take n u ≡ q.inside = cut_front n q.inside (34 ∷ q.behind) u q.parts l in
    let r : take (length u - (n + 1)) (drop (n + 1) u) ≡ q.behind = cut_behind n 34 q.inside q.behind u q.parts l in
    record {
      longest = λ i.
          subst (λ v. Longest i (34 ∷ u) v (word.String (meaning (take n u)) i)) (sym r)
          (subst (λ b. Longest i (34 ∷ u) q.behind (word.String (meaning b) i)) (sym f) record {
            is = a_string q.inside (ap (λ x. 34 ∷ x) q.parts) q.quotable;
            no_longer = λ v j w.
                let p = string_piece w (sym (first_lead-word w)) in
                let e : p.piece ++ 34 ∷ v ≡ q.inside ++ 34 ∷ q.behind = sym (tails 34 u (p.piece ++ 34 ∷ v) p.parts) ∙ q.parts in
                let s = quoted-unique 34 p.piece q.inside v q.behind double p.is q.quotable e in
                inr (s.1, p.word ∙ ap (λ b. word.String (meaning b) i) s.0);
          });
    }

pub string_none : (u : Text) → None ≡ quoted_length 34 0 false u → BeginsNoWord (34 ∷ u)
string_none u h =
    record {
      none = λ i v j w.
          let p = string_piece w (sym (first_lead-word w)) in
          quoted_length-none 34 u p.piece v double h p.is (tails 34 u (p.piece ++ 34 ∷ v) p.parts);
    }

-- SIGNS

pub sign_found : (t : Text) (s : Sign) (v : Text) → first_lead t ≡ of_other → false ≡ opens_block t → false ≡ opens_line t → Some (found_sign s v) ≡ first_sign sign_order t
    → IsLongest t (kind.Sign s) [] v
sign_found t s v h x y g =
    record {
      longest = λ i. record {
        is = a_sign s (first_sign-is sign_order t s v (sym g)) (let a = sym x in rw a (sym y));
        no_longer = λ u j w.
            let p = sign_piece w (sym (first_lead-word w) ∙ h) in
            let f = first_sign-finds sign_order p.sign u (sign_order-own p.sign) in
            let e : Some (found_sign s v) ≡ Some (found_sign f.sign f.rest) = g ∙ ap (first_sign sign_order) p.parts ∙ f.found in
            let a : s ≡ f.sign = sign_same s f.sign v f.rest e in
            let b : v ≡ f.rest = rest_same s f.sign v f.rest e in
            ⊎_elim (λ (k : length f.rest < length u). inl (subst (λ z. length z < length u) (sym b) k))
            (λ (k : (u ≡ f.rest) × (p.sign ≡ f.sign)). inr (k.0 ∙ sym b, p.word ∙ ap (λ z. word.Sign z) (k.1 ∙ sym a)))
            f.longest;
      };
    }
  where
    sign_same : (a b : Sign) (c d : Text) → Some (found_sign a c) ≡ Some (found_sign b d) → a ≡ b
    sign_same a b c d e = cc

    rest_same : (a b : Sign) (c d : Text) → Some (found_sign a c) ≡ Some (found_sign b d) → c ≡ d
    rest_same a b c d e = cc

pub sign_none : (t : Text) → first_lead t ≡ of_other → None ≡ first_sign sign_order t → BeginsNoWord t
sign_none t h g =
    record {
      none = λ i u j w.
          let p = sign_piece w (sym (first_lead-word w) ∙ h) in
          let f = first_sign-finds sign_order p.sign u (sign_order-own p.sign) in
          let e = g ∙ ap (first_sign sign_order) p.parts ∙ f.found in cc;
    }

pub sign_comment : (t : Text) → first_lead t ≡ of_other → true ≡ (opens_block t || opens_line t) → BeginsNoWord t
sign_comment t h g =
    record { none = λ i u j w. let p = sign_piece w (sym (first_lead-word w) ∙ h) in let e = g ∙ p.apart in cc }

-- a word begins at another place's text, where that is the same
pub IsLongest-along : (t u : Text) (a : Kind) (b v : Text) → t ≡ u → IsLongest u a b v → IsLongest t a b v
IsLongest-along t u a b v e h = subst (λ w. IsLongest w a b v) (sym e) h

pub BeginsNoWord-along : (t u : Text) → t ≡ u → BeginsNoWord u → BeginsNoWord t
BeginsNoWord-along t u e h = subst BeginsNoWord (sym e) h

-- at the end no word begins
no_spelling : (s : Sign) (v : Text) → [] ≡ spelled_sign s ++ v → ⊥
no_spelling sign.BraceOpen v q = cc
no_spelling _ v q = cc

pub no_word_at_end : {i : ℕ} {v : Text} {k : Word} → WordAt i [] v k → ⊥
no_word_at_end (a_name [] e h g) = cc
no_word_at_end (a_name (c ∷ b) e h g) = cc
no_word_at_end (a_number [] e h g) = let z = IsNumber-first h in cc
no_word_at_end (a_number (c ∷ b) e h g) = cc
no_word_at_end (a_character b e h g) = cc
no_word_at_end (a_string b e h) = cc
no_word_at_end {v = v} (a_sign s e h) = no_spelling s v e

pub end_none : (t : Text) → t ≡ [] → BeginsNoWord t
end_none t e = record { none = λ i v k w. no_word_at_end (subst (λ u. WordAt i u v k) e w) }

-- the word of a string, by the bytes that the scan made
pub word_of-string : (i : ℕ) (a : Kind) (b m : Text) → a ≡ kind.String → m ≡ meaning_after false b → word.String m i ≡ word_of i a b
word_of-string i a b m e g = ap (λ x. word.String x i) (g ∙ meaning_after-false b) ∙ ap (λ x. word_of i x b) (sym e)
