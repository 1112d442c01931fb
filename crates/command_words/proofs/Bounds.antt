-- Decimal digits that `parse` does not read make too large a number.
-- Here: no_bound, none_of_digits
use Rattle.std.proofs.Common.{◌≡◌, refl, ap, sym, subst, ◌∙◌, ℕ, ◌<◌, ◌≤◌, ◌^◌, Bool, true, false, cond, ◌&&◌, List, [], ◌∷◌, length, drop, ltb, leb, eqb, ◌==◌, true≢false, arith}
use Rattle.std.specs.Prelude.{⊤, Option, Some, None}
use Rattle.std.specs.List.{list_all}
use Rattle.std.specs.Char.{digit_value, is_ascii_digit}
use Rattle.std.specs.Str.Parse.{AllDigits, IsNumeral, digits_value, without_leading_plus}
use Rattle.std.proofs.lemmas.Bool.Decides.{nat_tests}
use Rattle.command_words.specs.Command.{is_bound}

both : (a b : Bool) → (a && b) ≡ true → (a ≡ true) × (b ≡ true)
both true b e = (refl, e)
both false b e = absurd (true≢false (sym e))

digit_small : (d : ℕ) → is_ascii_digit d ≡ true → digit_value d < 10
digit_small d h = grind (arith, nat_tests)

all_small : (ds : List ℕ) → list_all is_ascii_digit ds ≡ true → AllDigits 10 ds
all_small [] h = tt
all_small (d ∷ ds) h = let parts = both _ _ h in (digit_small d parts.0, all_small ds parts.1)

no_plus : (ds : List ℕ) → list_all is_ascii_digit ds ≡ true → without_leading_plus ds ≡ ds
no_plus [] h = refl
no_plus (d ∷ ds) h =
    let parts = both (is_ascii_digit d) (list_all is_ascii_digit ds) h in
    let other : (d == 43) ≡ false = grind (arith, nat_tests) in
    ap (λ (b : Bool). drop (cond b 1 0) (d ∷ ds)) other

pub no_bound : (w : List ℕ) → list_all is_ascii_digit w ≡ true → 0 < length w
    → (IsNumeral 10 (without_leading_plus w) × (digits_value 10 (without_leading_plus w) < 2 ^ 32) → ⊥) → leb (digits_value 10 w) 10000000 ≡ false
no_bound w digits some refused = go (leb (digits_value 10 w) 10000000) refl
  where
    go : (b : Bool) → leb (digits_value 10 w) 10000000 ≡ b → b ≡ false
    go false e = refl
    go true e =
        let small : digits_value 10 w < 2 ^ 32 = grind (arith, nat_tests) in
        absurd (refused (subst (λ (v : List ℕ). IsNumeral 10 v × (digits_value 10 v < 2 ^ 32)) (sym (no_plus w digits)) ((some, all_small w digits), small)))

none_under : (a b c d : Bool) (n : ℕ) → d ≡ false → None ≡ cond (a && (b && (c && d))) (Some n) None
none_under true true true d n e = rw e refl
none_under true true false d n e = refl
none_under true false c d n e = refl
none_under false b c d n e = refl

pub none_of_digits : (w : List ℕ) → list_all is_ascii_digit w ≡ true → leb (digits_value 10 w) 10000000 ≡ false → None ≡ cond (is_bound w) (Some (digits_value 10 w)) None
none_of_digits w digits over = none_under (leb 1 (length w)) (leb (length w) 8) (list_all is_ascii_digit w) (leb (digits_value 10 w) 10000000) (digits_value 10 w) over
