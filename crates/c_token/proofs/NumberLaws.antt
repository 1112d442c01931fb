-- Digits, suffixes and numbers: what the scan gives, and that a text is one number at most.
use Rattle.std.proofs.Common.{◌≡◌, ℕ, ◌+◌, ◌*◌, ◌^◌, ◌<◌, ◌≤◌, Bool, true, false, cond, ◌&&◌, ◌||◌, eqb, ltb, [], ◌∷◌, ◌++◌, length, Option, Some, None, ◌⊎◌, ⊎_elim, refl, sym, ap, ◌∙◌, subst, arith, length-append, mul-le-mul_left, eqb-true}
use Rattle.std.specs.Prelude.{IfSome}
use Rattle.std.specs.List.{list_all}
use Rattle.std.proofs.lemmas.Bool.Decides.{nat_tests}
use Rattle.c_tree.specs.declared.words.Suffix.{Suffix}
use Rattle.c_tree.specs.declared.words.Suffix.TheVariants as suffix
use Rattle.c_tree.specs.Bytes.{Text, is_digit, is_name_byte, first_is}
use Rattle.c_tree.specs.Numbers.{is_hexadecimal, digit_value, is_digit_of, value_after, is_u, is_l, is_x, suffix_of, is_zero, is_nonzero, HasDigits, decimal_end, IsNumber, decimal, octal, hexadecimal}
use Rattle.c_token.specs.Numbers.{IsCapped}
use Rattle.c_token.specs.Scans.{front_of, rest_of, grown, scanned_value, after_prefix}
use Rattle.c_token.proofs.Pieces.{front-rest, all-front, first-rest, rest_of-append, front_of-append}
use Rattle.c_token.proofs.Choices.{chosen, both, and_true}

-- what a suffix begins with is no digit
no_digit : (c : ℕ) → (is_u c || is_l c) ≡ true → is_hexadecimal c ≡ false
no_digit c h = grind (arith, nat_tests)

either_right : (a b : Bool) → b ≡ true → (a || b) ≡ true
either_right true b h = refl
either_right false b h = h

first_of_two : (a b c d : Bool) → ((a && b) || (c && d)) ≡ true → (a || c) ≡ true
first_of_two true b c d h = refl
first_of_two false b true d h = refl
first_of_two false b false d h = h

pub suffix-first : (c : ℕ) (t : Text) (x : Suffix) → suffix_of (c ∷ t) ≡ Some x → (is_u c || is_l c) ≡ true
suffix-first c [] x h =
    ⊎_elim (λ (g : (is_u c ≡ true) × (Some suffix.Unsigned ≡ Some x)). rw g.0 refl)
    (λ (g : (is_u c ≡ false) × (cond (is_l c) (Some suffix.Long) None ≡ Some x)).
    ⊎_elim (λ (k : (is_l c ≡ true) × (Some suffix.Long ≡ Some x)). either_right (is_u c) (is_l c) k.0)
    (λ (k : (is_l c ≡ false) × (◌≡◌ {A = Option Suffix} None (Some x))). let e = k.1 in cc)
    (chosen (is_l c) (Some suffix.Long) None (Some x) g.1))
    (chosen (is_u c) (Some suffix.Unsigned) (cond (is_l c) (Some suffix.Long) None) (Some x) h)
suffix-first c (d ∷ []) x h =
    ⊎_elim (λ (g : (((is_u c && is_l d) || (is_l c && is_u d)) ≡ true) × (Some suffix.UnsignedLong ≡ Some x)). first_of_two (is_u c) (is_l d) (is_l c) (is_u d) g.0)
    (λ (g : (((is_u c && is_l d) || (is_l c && is_u d)) ≡ false) × (◌≡◌ {A = Option Suffix} None (Some x))). let e = g.1 in cc)
    (chosen ((is_u c && is_l d) || (is_l c && is_u d)) (Some suffix.UnsignedLong) None (Some x) h)
suffix-first c (d ∷ e ∷ t) x h = cc

no_digits : (radix : ℕ) (s : Text) (x : Suffix) → suffix_of s ≡ Some x → first_is (is_digit_of radix) s ≡ false
no_digits radix [] x h = refl
no_digits radix (c ∷ t) x h = let e = no_digit c (suffix-first c t x h) in rw e refl

-- the parts of digits and a suffix are determined
pub tail-rest : {radix n : ℕ} {b : Text} {x : Suffix} (h : HasDigits radix b n x) → rest_of (is_digit_of radix) b ≡ h.tail
tail-rest {radix} {n} {b} {x} h = rw h.parts (rest_of-append (is_digit_of radix) h.digits h.tail h.all (no_digits radix h.tail x h.suffix))

pub digits-front : {radix n : ℕ} {b : Text} {x : Suffix} (h : HasDigits radix b n x) → front_of (is_digit_of radix) b ≡ h.digits
digits-front {radix} {n} {b} {x} h = rw h.parts (front_of-append (is_digit_of radix) h.digits h.tail h.all (no_digits radix h.tail x h.suffix))

pub HasDigits-unique : {radix n m : ℕ} {b : Text} {x y : Suffix} → HasDigits radix b n x → HasDigits radix b m y → (n ≡ m) × (x ≡ y)
HasDigits-unique {radix} {n} {m} {b} {x} {y} h g =
    let p : h.digits ≡ g.digits = sym (digits-front h) ∙ digits-front g in
    let q : h.tail ≡ g.tail = sym (tail-rest h) ∙ tail-rest g in
    (h.value ∙ ap (value_after radix 0) p ∙ sym g.value, (let e : Some x ≡ Some y = sym h.suffix ∙ ap suffix_of q ∙ g.suffix in cc))

-- the value that the scan keeps is right below 2^32
grows : (radix v n c : ℕ) → 1 ≤ radix → IsCapped v n → IsCapped (grown radix v c) (n * radix + digit_value c)
grows radix v n c r h =
    ⊎_elim (λ (g : v < 2 ^ 32). let e = h.exact g in let t : ltb v (2 ^ 32) ≡ true = grind (arith, nat_tests) in
    rw t (let f : v * radix + digit_value c ≡ n * radix + digit_value c = ap (λ x. x * radix + digit_value c) e in same_capped _ _ f))
    (λ (g : 2 ^ 32 ≤ v). let e = h.great g in let t : ltb v (2 ^ 32) ≡ false = grind (arith, nat_tests) in
    rw t (let m = mul-le-mul_left n r in great_capped v (n * radix + digit_value c) g (omega (arith, m))))
    (below_or v (2 ^ 32))
  where
    below_or : (w m : ℕ) → (w < m) ⊎ (m ≤ w)
    below_or w m = grind arith

    same_capped : (x y : ℕ) → x ≡ y → IsCapped x y
    same_capped x y e = record { exact = λ _. e; great = λ g. subst (λ q. 2 ^ 32 ≤ q) e g }

    great_capped : (x y : ℕ) → 2 ^ 32 ≤ x → 2 ^ 32 ≤ y → IsCapped x y
    great_capped x y g l = record { exact = λ k. absurd (omega arith); great = λ _. l }

pub scanned_value-append : (radix v n : ℕ) (d s : Text) → 1 ≤ radix → list_all (is_digit_of radix) d ≡ true → first_is (is_digit_of radix) s ≡ false → IsCapped v n
    → IsCapped (scanned_value radix v (d ++ s)) (value_after radix n d)
scanned_value-append radix v n [] [] r h g i = i
scanned_value-append radix v n [] (c ∷ s) r h g i = rw g i
scanned_value-append radix v n (c ∷ d) s r h g i =
    let q = both (is_digit_of radix c) (list_all (is_digit_of radix) d) h in
    rw q.0 (scanned_value-append radix (grown radix v c) (n * radix + digit_value c) d s r q.1 g (grows radix v n c r i))

-- what the scan found
pub capped-scan : {radix n : ℕ} {b : Text} {x : Suffix} → 1 ≤ radix → (h : HasDigits radix b n x) → IsCapped (scanned_value radix 0 b) n
capped-scan {radix} {n} {b} {x} r h =
    rw (h.parts, h.value) (scanned_value-append radix 0 0 h.digits h.tail r h.all (no_digits radix h.tail x h.suffix) record { exact = λ _. refl; great = λ g. g })

pub scanned : (radix : ℕ) (t : Text) (x : Suffix) → 1 ≤ radix → length (rest_of (is_digit_of radix) t) < length t → suffix_of (rest_of (is_digit_of radix) t) ≡ Some x
    → scanned_value radix 0 t < 2 ^ 32 → HasDigits radix t (scanned_value radix 0 t) x
scanned radix t x r l h small =
    let p = is_digit_of radix in
    let parts = front-rest p t in
    let count : length t ≡ length (front_of p t) + length (rest_of p t) = ap length parts ∙ length-append (front_of p t) (rest_of p t) in
    let capped : IsCapped (scanned_value radix 0 t) (value_after radix 0 (front_of p t)) =
    subst (λ w. IsCapped (scanned_value radix 0 w) (value_after radix 0 (front_of p t))) (sym parts)
    (scanned_value-append radix 0 0 (front_of p t) (rest_of p t) r (all-front p t) (first-rest p t) record { exact = λ _. refl; great = λ g. g }) in
    record {
      digits = front_of p t;
      tail = rest_of p t;
      parts = parts;
      some = omega arith;
      all = all-front p t;
      value = capped.exact small;
      suffix = h;
    }

-- a scan that fails
pub no_digits-none : (radix n : ℕ) (t : Text) (x : Suffix) → length (rest_of (is_digit_of radix) t) ≡ length t → HasDigits radix t n x → ⊥
no_digits-none radix n t x l h =
    let some = h.some in
    omega (arith, ap length (tail-rest h), ap length h.parts, length-append h.digits h.tail)

pub no_suffix-none : (radix n : ℕ) (t : Text) (x : Suffix) → suffix_of (rest_of (is_digit_of radix) t) ≡ None → HasDigits radix t n x → ⊥
no_suffix-none radix n t x l h = let e : suffix_of h.tail ≡ None = ap suffix_of (sym (tail-rest h)) ∙ l in let g = h.suffix in cc

pub too_great-none : (radix n : ℕ) (t : Text) (x : Suffix) → 1 ≤ radix → 2 ^ 32 ≤ scanned_value radix 0 t → HasDigits radix t n x → n < 2 ^ 32 → ⊥
too_great-none radix n t x r l h small = let g = (capped-scan r h).great l in omega arith

-- `0x` is no octal number with a suffix
x_not_suffix : (c : ℕ) → is_x c ≡ true → (is_u c || is_l c) ≡ true → ⊥
x_not_suffix c h g = grind (arith, nat_tests)

x_no_octal : (c : ℕ) → is_x c ≡ true → is_digit_of 8 c ≡ false
x_no_octal c h = let e : is_hexadecimal c ≡ false = x_no_digit c h in rw e refl
  where
    x_no_digit : (d : ℕ) → is_x d ≡ true → is_hexadecimal d ≡ false
    x_no_digit d g = grind (arith, nat_tests)

octal-prefix : {b : Text} {n : ℕ} {x : Suffix} (c : ℕ) (t : Text) → b ≡ 48 ∷ c ∷ t → is_x c ≡ true → HasDigits 8 b n x → ⊥
octal-prefix {b} {n} {x} c t e g h =
    let r : rest_of (is_digit_of 8) (48 ∷ c ∷ t) ≡ h.tail = subst (λ w. rest_of (is_digit_of 8) w ≡ h.tail) e (tail-rest h) in
    let o = x_no_octal c g in
    let k : c ∷ t ≡ h.tail = rw o at r in
    x_not_suffix c g (suffix-first c t x (ap suffix_of k ∙ h.suffix))

nonzero_zero : (b : Text) → first_is is_nonzero b ≡ true → first_is is_zero b ≡ true → ⊥
nonzero_zero [] h g = cc
nonzero_zero (c ∷ t) h g = grind (arith, nat_tests)

nonzero-prefix : (b t : Text) (c : ℕ) → first_is is_nonzero b ≡ true → b ≡ 48 ∷ c ∷ t → ⊥
nonzero-prefix b t c h e = let g = subst (λ w. first_is is_nonzero w ≡ true) e h in cc

zero-prefix : (b t : Text) (c : ℕ) → b ≡ 48 ∷ c ∷ t → first_is is_zero b ≡ true
zero-prefix b t c e = rw e refl

-- a text is one number at most
pub IsNumber-unique : {b : Text} {n m : ℕ} {x y : Suffix} → IsNumber b n x → IsNumber b m y → (n ≡ m) × (x ≡ y)
IsNumber-unique (decimal f h l) (decimal g k r) = HasDigits-unique h k
IsNumber-unique (decimal {b = b} f h l) (octal g k r) = absurd (nonzero_zero b f g)
IsNumber-unique (decimal {b = b} f h l) (hexadecimal c t e g k r) = absurd (nonzero-prefix b t c f e)
IsNumber-unique (octal {b = b} f h l) (decimal g k r) = absurd (nonzero_zero b g f)
IsNumber-unique (octal f h l) (octal g k r) = HasDigits-unique h k
IsNumber-unique (octal f h l) (hexadecimal c t e g k r) = absurd (octal-prefix c t e g h)
IsNumber-unique (hexadecimal {b = b} c t e f h l) (decimal g k r) = absurd (nonzero-prefix b t c g e)
IsNumber-unique (hexadecimal c t e f h l) (octal g k r) = absurd (octal-prefix c t e f k)
IsNumber-unique (hexadecimal c t e f h l) (hexadecimal {n = m} {x = y} d u i g k r) =
    let s : 48 ∷ c ∷ t ≡ 48 ∷ d ∷ u = sym e ∙ i in
    let z : t ≡ u = cc in
    HasDigits-unique h (subst (λ w. HasDigits 16 w m y) (sym z) k)

-- a number begins with a digit and is made of what a name goes on with
pub IsNumber-first : {b : Text} {n : ℕ} {x : Suffix} → IsNumber b n x → first_is is_digit b ≡ true
IsNumber-first (decimal {b = b} f h l) = nonzero_digit b f
  where
    digit_of_nonzero : (c : ℕ) → is_nonzero c ≡ true → is_digit c ≡ true
    digit_of_nonzero c g = grind (arith, nat_tests)

    nonzero_digit : (t : Text) → first_is is_nonzero t ≡ true → first_is is_digit t ≡ true
    nonzero_digit [] g = cc
    nonzero_digit (c ∷ t) g = digit_of_nonzero c g
IsNumber-first (octal {b = b} f h l) = zero_digit b f
  where
    digit_of_zero : (c : ℕ) → is_zero c ≡ true → is_digit c ≡ true
    digit_of_zero c g = grind (arith, nat_tests)

    zero_digit : (t : Text) → first_is is_zero t ≡ true → first_is is_digit t ≡ true
    zero_digit [] g = cc
    zero_digit (c ∷ t) g = digit_of_zero c g
IsNumber-first (hexadecimal c t e f h l) = rw e refl

digits_named : (radix : ℕ) (d : Text) → list_all (is_digit_of radix) d ≡ true → list_all is_name_byte d ≡ true
digits_named radix [] h = refl
digits_named radix (c ∷ d) h =
    let p = both (is_digit_of radix c) (list_all (is_digit_of radix) d) h in
    let q = both (is_hexadecimal c) (ltb (digit_value c) radix) p.0 in
    and_true (is_name_byte c) (list_all is_name_byte d) (named_hexadecimal c q.0) (digits_named radix d p.1)
  where
    named_hexadecimal : (c : ℕ) → is_hexadecimal c ≡ true → is_name_byte c ≡ true
    named_hexadecimal c g = grind (arith, nat_tests)

named_suffix : (c : ℕ) → (is_u c || is_l c) ≡ true → is_name_byte c ≡ true
named_suffix c g = grind (arith, nat_tests)

second_of_two : (a b c d : Bool) → ((a && b) || (c && d)) ≡ true → (d || b) ≡ true
second_of_two true true c d h = or_true d
  where
    or_true : (e : Bool) → (e || true) ≡ true
    or_true true = refl
    or_true false = refl
second_of_two true false true true h = refl
second_of_two true false true false h = cc
second_of_two true false false d h = cc
second_of_two false b true true h = refl
second_of_two false b true false h = cc
second_of_two false b false d h = cc

suffix_named : (s : Text) (x : Suffix) → suffix_of s ≡ Some x → list_all is_name_byte s ≡ true
suffix_named [] x h = refl
suffix_named (c ∷ []) x h = and_true (is_name_byte c) true (named_suffix c (suffix-first c [] x h)) refl
suffix_named (c ∷ d ∷ []) x h =
    and_true (is_name_byte c) (is_name_byte d && true) (named_suffix c (suffix-first c (d ∷ []) x h)) (and_true (is_name_byte d) true (named_suffix d second) refl)
  where
    second : (is_u d || is_l d) ≡ true
    second = ⊎_elim (λ (g : (((is_u c && is_l d) || (is_l c && is_u d)) ≡ true) × (Some suffix.UnsignedLong ≡ Some x)). second_of_two (is_u c) (is_l d) (is_l c) (is_u d) g.0)
        (λ (g : (((is_u c && is_l d) || (is_l c && is_u d)) ≡ false) × (◌≡◌ {A = Option Suffix} None (Some x))). let e = g.1 in cc)
        (chosen ((is_u c && is_l d) || (is_l c && is_u d)) (Some suffix.UnsignedLong) None (Some x) h)
suffix_named (c ∷ d ∷ e ∷ s) x h = cc

named_append : (a b : Text) → list_all is_name_byte a ≡ true → list_all is_name_byte b ≡ true → list_all is_name_byte (a ++ b) ≡ true
named_append [] b h g = g
named_append (c ∷ a) b h g =
    let p = both (is_name_byte c) (list_all is_name_byte a) h in
    and_true (is_name_byte c) (list_all is_name_byte (a ++ b)) p.0 (named_append a b p.1 g)

HasDigits-named : {radix n : ℕ} {b : Text} {x : Suffix} → HasDigits radix b n x → list_all is_name_byte b ≡ true
HasDigits-named {radix} {n} {b} {x} h =
    ap (list_all is_name_byte) h.parts ∙ named_append h.digits h.tail (digits_named radix h.digits h.all) (suffix_named h.tail x h.suffix)

pub IsNumber-named : {b : Text} {n : ℕ} {x : Suffix} → IsNumber b n x → list_all is_name_byte b ≡ true
IsNumber-named (decimal f h l) = HasDigits-named h
IsNumber-named (octal f h l) = HasDigits-named h
IsNumber-named (hexadecimal c t e f h l) =
    ap (list_all is_name_byte) e ∙ and_true (is_name_byte c) (list_all is_name_byte t) (named_x c f) (HasDigits-named h)
  where
    named_x : (d : ℕ) → is_x d ≡ true → is_name_byte d ≡ true
    named_x d g = grind (arith, nat_tests)

-- what stands behind `0x`
pub record HasPrefix (t r : Text) : Type 0 where
  pub letter : ℕ
  pub parts : t ≡ 48 ∷ letter ∷ r
  pub is : is_x letter ≡ true

pub after_prefix-is : (t r : Text) → Some r ≡ after_prefix t → HasPrefix t r
after_prefix-is [] r h = cc
after_prefix-is (c ∷ []) r h = cc
after_prefix-is (c ∷ d ∷ t) r h =
    ⊎_elim (λ (g : ((eqb c 48 && is_x d) ≡ true) × (Some t ≡ Some r)).
    let p = both (eqb c 48) (is_x d) g.0 in
    let e = eqb-true c 48 p.0 in
    let f : t ≡ r = some-same t r g.1 in
    record { letter = d; parts = (let z = f in cc); is = p.1 })
    (λ (g : ((eqb c 48 && is_x d) ≡ false) × (◌≡◌ {A = Option Text} None (Some r))). let e = g.1 in cc)
    (chosen (eqb c 48 && is_x d) (Some t) None (Some r) (sym h))
  where
    some-same : (a b : Text) → Some a ≡ Some b → a ≡ b
    some-same a b q = cc

pub no_prefix : (t r : Text) (c : ℕ) → None ≡ after_prefix t → t ≡ 48 ∷ c ∷ r → is_x c ≡ true → ⊥
no_prefix t r c h e x = let g : None ≡ after_prefix (48 ∷ c ∷ r) = h ∙ ap after_prefix e in let f : None ≡ Some r = rw x at g in cc

-- the three kinds of numbers, found or not
pub hexadecimal_found : (o : Option (ℕ × Suffix)) (t r : Text) → Some r ≡ after_prefix t → IfSome o (λ a. HasDigits 16 r a.0 a.1) → IfSome o (λ a. a.0 < 2 ^ 32) → IfSome o (λ a. IsNumber t a.0 a.1)
hexadecimal_found None t r h f s = f
hexadecimal_found (Some a) t r h f s = let p = after_prefix-is t r h in hexadecimal p.letter r p.parts p.is f s

pub hexadecimal_none : (t r : Text) (n : ℕ) (x : Suffix) → Some r ≡ after_prefix t → ((m : ℕ) (y : Suffix) → HasDigits 16 r m y → m < 2 ^ 32 → ⊥) → IsNumber t n x → ⊥
hexadecimal_none t r n x h none (decimal f k l) = let p = after_prefix-is t r h in nonzero-prefix t r p.letter f p.parts
hexadecimal_none t r n x h none (octal f k l) = let p = after_prefix-is t r h in octal-prefix p.letter r p.parts p.is k
hexadecimal_none t r n x h none (hexadecimal c u e f k l) =
    let p = after_prefix-is t r h in
    let s : 48 ∷ c ∷ u ≡ 48 ∷ p.letter ∷ r = sym e ∙ p.parts in
    let z : u ≡ r = cc in
    none n x (subst (λ w. HasDigits 16 w n x) z k) l

pub octal_found : (o : Option (ℕ × Suffix)) (t : Text) → first_is is_zero t ≡ true → IfSome o (λ a. HasDigits 8 t a.0 a.1) → IfSome o (λ a. a.0 < 2 ^ 32) → IfSome o (λ a. IsNumber t a.0 a.1)
octal_found None t h f s = f
octal_found (Some a) t h f s = octal h f s

pub octal_none : (t : Text) (n : ℕ) (x : Suffix) → None ≡ after_prefix t → first_is is_zero t ≡ true → ((m : ℕ) (y : Suffix) → HasDigits 8 t m y → m < 2 ^ 32 → ⊥) → IsNumber t n x → ⊥
octal_none t n x h z none (decimal f k l) = nonzero_zero t f z
octal_none t n x h z none (octal f k l) = none n x k l
octal_none t n x h z none (hexadecimal c u e f k l) = no_prefix t u c h e f

pub decimal_found : (o : Option (ℕ × Suffix)) (t : Text) → first_is is_nonzero t ≡ true → IfSome o (λ a. HasDigits 10 t a.0 a.1) → IfSome o (λ a. a.0 < decimal_end a.1) → IfSome o (λ a. IsNumber t a.0 a.1)
decimal_found None t h f s = f
decimal_found (Some a) t h f s = decimal h f s

pub decimal_none : (t : Text) (n : ℕ) (x : Suffix) → first_is is_zero t ≡ false → ((m : ℕ) (y : Suffix) → HasDigits 10 t m y → m < decimal_end y → ⊥) → IsNumber t n x → ⊥
decimal_none t n x z none (decimal f k l) = none n x k l
decimal_none t n x z none (octal f k l) = cc
decimal_none t n x z none (hexadecimal c u e f k l) = let g = zero-prefix t u c e in cc

pub other_none : (t : Text) (n : ℕ) (x : Suffix) → first_is is_zero t ≡ false → first_is is_nonzero t ≡ false → IsNumber t n x → ⊥
other_none t n x z w (decimal f k l) = cc
other_none t n x z w (octal f k l) = cc
other_none t n x z w (hexadecimal c u e f k l) = let g = zero-prefix t u c e in cc

-- a decimal number that is too great for its suffix
pub decimal_great : {t : Text} {m n : ℕ} {x y : Suffix} → HasDigits 10 t m x → decimal_end x ≤ m → HasDigits 10 t n y → n < decimal_end y → ⊥
decimal_great {t} {m} {n} {x} {y} h l g s =
    let u = HasDigits-unique h g in
    let e : decimal_end x ≡ decimal_end y = ap decimal_end u.1 in
    let f = u.0 in
    omega arith
