-- What holds of every command.
use Rattle.std.proofs.Common.{◌≡◌, ℕ, zero, suc, ◌≤◌, Bool, true, false, ◌&&◌, List, [], ◌∷◌, length, Option, None, Some, refl, subst, if◌then◌else◌}
use Rattle.std.specs.Prelude.{bytes_eq, codes, nat_le}
use Rattle.std.proofs.lemmas.Bool.{leb-true, and_parts}
use Rattle.command_words.specs.Words.{Text, are_known, steps_in, counts_in, others_in}
use Rattle.command_words.specs.Command.{CommandWords, run_words, check_words, command_of, run_of, check_of, bound_of, asked, are_drivers, all_differ}
use Rattle.sd_engine.specs.Running.{IsWithin}

-- there are four drivers at most
few : (files : List Text) → are_drivers files ≡ true → length files ≤ 4
few files e = leb-true (length files) 4 (and_parts (nat_le 1 (length files)) (nat_le (length files) 4) e).1

run-within : (bound : Option ℕ) (files : List Text) (c : CommandWords) → run_of bound files ≡ Some c → IsWithin c
run-within None files c e = cc
run-within (Some b) [] c e = cc
run-within (Some b) (scenario ∷ drivers) c e = by (are_drivers drivers) (all_differ (scenario ∷ drivers)) refl refl e
  where
    by : (x y : Bool) → are_drivers drivers ≡ x → all_differ (scenario ∷ drivers) ≡ y
        → (if x && y then Some (run_words scenario drivers b) else None) ≡ Some c → IsWithin c
    by true true some apart is =
        let same : run_words scenario drivers b ≡ c = cc is in
        subst (λ (w : CommandWords). IsWithin w) same (apart, few drivers some)
    by true false some apart is = cc
    by false y some apart is = cc

check-within : (steps files : List Text) (c : CommandWords) → check_of steps files ≡ Some c → IsWithin c
check-within (number ∷ steps) files c e = cc
check-within [] files c e = by (are_drivers files) (all_differ files) refl refl e
  where
    by : (x y : Bool) → are_drivers files ≡ x → all_differ files ≡ y → (if x && y then Some (check_words files) else None) ≡ Some c
        → IsWithin c
    by true true some apart is =
        let same : check_words files ≡ c = cc is in
        subst (λ (w : CommandWords). IsWithin w) same (apart, few files some)
    by true false some apart is = cc
    by false y some apart is = cc

asked-within : (steps : List Text) (counts : ℕ) (others : List Text) (c : CommandWords) → asked steps counts others ≡ Some c → IsWithin c
asked-within steps (suc n) others c e = cc
asked-within steps zero [] c e = cc
asked-within steps zero (mode ∷ files) c e = by (bytes_eq mode (codes "run")) (bytes_eq mode (codes "check")) e
  where
    by : (x y : Bool) → (if x then run_of (bound_of steps) files else (if y then check_of steps files else None)) ≡ Some c → IsWithin c
    by true y is = run-within (bound_of steps) files c is
    by false true is = check-within steps files c is
    by false false is = cc

-- what words ask for is within what a command may ask for
pub command-within : (words : List Text) (c : CommandWords) → command_of words ≡ Some c → IsWithin c
command-within words c e = by (are_known false words) e
  where
    by : (x : Bool) → (if x then asked (steps_in false words) (counts_in false words) (others_in false words) else None) ≡ Some c
        → IsWithin c
    by true is = asked-within (steps_in false words) (counts_in false words) (others_in false words) c is
    by false is = cc
