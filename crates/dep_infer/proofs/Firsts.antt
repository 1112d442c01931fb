-- The first place of a name in a list that grows at its end, and a map that keeps it.
use Rattle.std.proofs.Common.{◌≡◌, ℕ, ◌+◌, ◌≤◌, ◌<◌, List, [], ◌∷◌, ◌++◌, length, Bool, true, false, cond, Option, None, Some, is_some, not, position, bytes_eq, nat_eq, nat_lt, refl, sym, ◌∙◌, ap, subst, true≢false, arith, length-append}
use Rattle.std.proofs.lemmas.Bool.{cond-true, cond-false, lt-ltb, ltb-true, ltb-false, eq-eqb, ne_eqb, false_from_ne_true}
use Rattle.std.proofs.lemmas.List.Folds.{position_or_len_push}
use Rattle.std.proofs.lemmas.List.Sums.{prefix_len-le-length}
use Rattle.std.proofs.lemmas.Slice.Eq.{bytes_eq-Decides}
use Rattle.std.specs.List.{position_or_len}
use Rattle.c_tree.specs.Bytes.{Text}
use Rattle.sd_base.specs.contracts.name.NamePartialEq.TheImpl as name
use Rattle.dep_infer.specs.Found.{found, FindsFirst, first_of, NotesFirst}
use Rattle.dep_infer.proofs.Names.{name_eq}

-- what a place below the length is, and one at the length
abbrev at : ℕ → ℕ → Option ℕ
at n len = cond (nat_lt n len) (Some n) None

pushed : (n len : ℕ) (same : Bool) → n ≤ len → at (cond (nat_eq n len) (len + cond same 0 1) n) (len + 1) ≡ first_of (at n len) same len
pushed n len same h = by (nat_lt n len) refl same
  where
    here : (s : Bool) → at (len + cond s 0 1) (len + 1) ≡ cond s (Some len) None
    here true = grind arith
    here false = grind arith

    by : (b : Bool) → nat_lt n len ≡ b → (s : Bool) → at (cond (nat_eq n len) (len + cond s 0 1) n) (len + 1) ≡ first_of (at n len) s len
    by true e s =
        let below : n < len = ltb-true n len e in
        let apart : nat_eq n len ≡ false = ne_eqb n len (λ same. omega (arith, same, below)) in
        ap (λ m. at m (len + 1)) (cond-false (nat_eq n len) _ _ apart)
        ∙ (cond-true (nat_lt n (len + 1)) (Some n) None (lt-ltb n (len + 1) (omega (arith, below)))
        ∙ sym (ap (λ o. first_of o s len) (cond-true (nat_lt n len) (Some n) None e)))
    by false e s =
        let equal : n ≡ len = let g = ltb-false n len e in omega arith in
        ap (λ m. at m (len + 1)) (cond-true (nat_eq n len) _ _ (eq-eqb n len equal))
        ∙ (here s ∙ sym (ap (λ o. first_of o s len) (cond-false (nat_lt n len) (Some n) None e)))

place_within : {X : Type 0} (p : X → Bool) (xs : List X) → position_or_len p xs ≤ length xs
place_within p xs = prefix_len-le-length (λ x. not (p x)) xs

pub position-push : {X : Type 0} (p : X → Bool) (xs : List X) (y : X) → position p (xs ++ y ∷ []) ≡ first_of (position p xs) (p y) (length xs)
position-push p xs y =
    ap (λ n. at n (length (xs ++ y ∷ []))) (position_or_len_push p xs y)
    ∙ (ap (λ len. at (cond (nat_eq (position_or_len p xs) (length xs)) (length xs + cond (p y) 0 1) (position_or_len p xs)) len) (length-append xs (y ∷ []))
    ∙ pushed (position_or_len p xs) (length xs) (p y) (place_within p xs))

-- no change where the name is another, or has a slot
other : (o : Option ℕ) (slot : ℕ) → first_of o false slot ≡ o
other None slot = refl
other (Some i) slot = refl

had : (o : Option ℕ) (same : Bool) (slot : ℕ) → is_some o ≡ true → first_of o same slot ≡ o
had None same slot h = absurd (true≢false (sym h))
had (Some i) same slot h = refl

had_not : (o : Option ℕ) (slot : ℕ) → is_some o ≡ false → first_of o true slot ≡ Some slot
had_not None slot h = refl
had_not (Some i) slot h = absurd (true≢false h)

module _ (old : List (Text × ℕ)) (k : Text) (slot : ℕ) where
  same_text : (x : Text) → bytes_eq x k ≡ true → x ≡ k
  same_text x e = (bytes_eq-Decides x k).0 e

  -- a name that has a slot keeps it
  pub noted_again : is_some (found old k) ≡ true → NotesFirst old k slot old
  noted_again h x = by (bytes_eq x k) refl
    where
      by : (b : Bool) → bytes_eq x k ≡ b → found old x ≡ first_of (found old x) (bytes_eq x k) slot
      by true e = sym (had (found old x) _ slot (subst (λ y. is_some (found old y) ≡ true) (sym (same_text x e)) h))
      by false e = sym (ap (λ b. first_of (found old x) b slot) e ∙ other (found old x) slot)

  -- a name that has none gets it
  pub noted_new : (new : List (Text × ℕ)) → is_some (found old k) ≡ false → ((x : Text) → found new x ≡ cond (name.ghosts.eq k x) (Some slot) (found old x)) → NotesFirst old k slot new
  noted_new new h now x = by (bytes_eq x k) refl
    where
      flipped : (b : Bool) → bytes_eq x k ≡ b → name.ghosts.eq k x ≡ b
      flipped true e = name_eq k x ∙ (bytes_eq-Decides k x).1 (sym (same_text x e))
      flipped false e = false_from_ne_true _ (λ t. true≢false (sym ((bytes_eq-Decides x k).1 (sym ((bytes_eq-Decides k x).0 (sym (name_eq k x) ∙ t)))) ∙ e))

      by : (b : Bool) → bytes_eq x k ≡ b → found new x ≡ first_of (found old x) (bytes_eq x k) slot
      by true e = now x ∙ (cond-true _ _ _ (flipped true e)
          ∙ sym (ap (λ b. first_of (found old x) b slot) e ∙ had_not (found old x) slot (subst (λ y. is_some (found old y) ≡ false) (sym (same_text x e)) h)))
      by false e = now x ∙ (cond-false _ _ _ (flipped false e) ∙ sym (ap (λ b. first_of (found old x) b slot) e ∙ other (found old x) slot))

-- a map that keeps first places goes on doing so
pub finds_first : (old new : List (Text × ℕ)) (names : List Text) (k : Text) → FindsFirst old names → NotesFirst old k (length names) new → FindsFirst new (names ++ k ∷ [])
finds_first old new names k before noted x = noted x ∙ (ap (λ o. first_of o (bytes_eq x k) (length names)) (before x) ∙ sym (position-push (bytes_eq x) names k))

-- the same, as the code takes its steps
pub noted_at : (names kept after : List Text) (old new : List (Text × ℕ)) (k : Text) (slot : ℕ) → kept ≡ names → slot ≡ length kept → after ≡ kept ++ k ∷ []
    → FindsFirst old names → NotesFirst old k slot new → FindsFirst new after
noted_at names kept after old new k slot same at ends before noted =
    subst (FindsFirst new) (sym (ends ∙ ap (λ l. l ++ k ∷ []) same)) (finds_first old new names k before (subst (λ n. NotesFirst old k n new) (at ∙ ap length same) noted))
