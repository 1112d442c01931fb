-- Named texts: finding one by its name, and reading on in it.
use Rattle.std.proofs.Common.{◌≡◌, ℕ, suc, zero, ◌+◌, ◌<◌, ◌≤◌, Bool, true, false, not, cond, List, [], ◌∷◌, length, get_or, set, drop, map, Option, None, Some, option_map, is_some, position, find, String, Vec, refl, ap, sym, ◌∙◌, arith}
use Rattle.std.specs.List.{position_or_len}
use Rattle.std.proofs.lemmas.Bool.Decides.{nat_tests}
use Rattle.std.specs.Cmp.Lexicographic.{bytes_decides}
use Rattle.sd_outside.specs.Shelf.{LeavesOthers}
use Rattle.sd_outside.specs.Texts.{Text, text_of, is_named, left_of, without_front, read_on}

-- where the first element is that passes
pub position-at : {X : Type 0} (p : X → Bool) (xs : List X) (at : ℕ) → position p xs ≡ Some at → (at ≡ position_or_len p xs) × (at < length xs)
position-at p xs at e = (grind (arith, nat_tests), grind (arith, nat_tests))

-- no element passes
pub position-none : {X : Type 0} (p : X → Bool) (xs : List X) → position p xs ≡ None → length xs ≤ position_or_len p xs
position-none p xs e = grind (arith, nat_tests)

module _ {X Y : Type 0} (name : List ℕ) where
  abbrev named : String X × Vec ℕ Y → Bool
  named kept = is_named name (text_of kept)

  -- the text at the first place of its name
  found : (kept : List (String X × Vec ℕ Y)) (at : ℕ) (t : String X × Vec ℕ Y) → at ≡ position_or_len named kept → at < length kept → t ≡ get_or kept at t → left_of (map text_of kept) name ≡ Some t.1.items
  found [] at t e h is = absurd (omega arith)
  found (x ∷ xs) zero t e h is = by (named x) e
    where
      by : (b : Bool) → zero ≡ cond (not b) (1 + position_or_len named xs) 0 → option_map (λ (u : Text). u.bytes) (cond b (Some (text_of x)) (find (is_named name) (map text_of xs))) ≡ Some t.1.items
      by true k = ap (λ (u : String X × Vec ℕ Y). Some u.1.items) (sym is)
      by false k = absurd (omega arith)
  found (x ∷ xs) (suc at) t e h is = by (named x) e (λ k. found xs at t k (omega arith) is)
    where
      by : (b : Bool) → suc at ≡ cond (not b) (1 + position_or_len named xs) 0 → (at ≡ position_or_len named xs → left_of (map text_of xs) name ≡ Some t.1.items) → option_map (λ (u : Text). u.bytes) (cond b (Some (text_of x)) (find (is_named name) (map text_of xs))) ≡ Some t.1.items
      by true k rest = absurd (omega arith)
      by false k rest = rest (omega arith)

  pub left_of-at : (kept : List (String X × Vec ℕ Y)) (at : ℕ) (t : String X × Vec ℕ Y) → position named kept ≡ Some at → t ≡ get_or kept at t → left_of (map text_of kept) name ≡ Some t.1.items
  left_of-at kept at t e is = let p = position-at named kept at e in found kept at t p.0 p.1 is

  missing : (kept : List (String X × Vec ℕ Y)) → length kept ≤ position_or_len named kept → left_of (map text_of kept) name ≡ None
  missing [] h = refl
  missing (x ∷ xs) h = by (named x) h (λ k. missing xs k)
    where
      by : (b : Bool) → suc (length xs) ≤ cond (not b) (1 + position_or_len named xs) 0 → (length xs ≤ position_or_len named xs → left_of (map text_of xs) name ≡ None) → option_map (λ (u : Text). u.bytes) (cond b (Some (text_of x)) (find (is_named name) (map text_of xs))) ≡ None
      by true k rest = absurd (omega arith)
      by false k rest = rest (omega arith)

  -- no text has the name
  pub left_of-none : (kept : List (String X × Vec ℕ Y)) → position named kept ≡ None → left_of (map text_of kept) name ≡ None
  left_of-none kept e = missing kept (position-none named kept e)

  written : (n : ℕ) (kept : List (String X × Vec ℕ Y)) (at : ℕ) (t w : String X × Vec ℕ Y) → at ≡ position_or_len named kept → at < length kept → t ≡ get_or kept at t → text_of w ≡ without_front n (text_of t)
      → map text_of (set kept at w) ≡ read_on (map text_of kept) name n
  written n [] at t w e h is same = absurd (omega arith)
  written n (x ∷ xs) zero t w e h is same = by (named x) e
    where
      by : (b : Bool) → zero ≡ cond (not b) (1 + position_or_len named xs) 0 → text_of w ∷ map text_of xs ≡ cond b (without_front n (text_of x) ∷ map text_of xs) (text_of x ∷ read_on (map text_of xs) name n)
      by true k = ap (λ (u : Text). u ∷ map text_of xs) (same ∙ ap (λ (u : String X × Vec ℕ Y). without_front n (text_of u)) is)
      by false k = absurd (omega arith)
  written n (x ∷ xs) (suc at) t w e h is same = by (named x) e (λ k. written n xs at t w k (omega arith) is same)
    where
      by : (b : Bool) → suc at ≡ cond (not b) (1 + position_or_len named xs) 0 → (at ≡ position_or_len named xs → map text_of (set xs at w) ≡ read_on (map text_of xs) name n)
          → text_of x ∷ map text_of (set xs at w) ≡ cond b (without_front n (text_of x) ∷ map text_of xs) (text_of x ∷ read_on (map text_of xs) name n)
      by true k rest = absurd (omega arith)
      by false k rest = ap (λ (l : List Text). text_of x ∷ l) (rest (omega arith))

  -- a text written over itself without its front
  pub read_on-at : (n : ℕ) (kept : List (String X × Vec ℕ Y)) (at : ℕ) (t w : String X × Vec ℕ Y) → position named kept ≡ Some at → t ≡ get_or kept at t → text_of w ≡ without_front n (text_of t)
      → map text_of (set kept at w) ≡ read_on (map text_of kept) name n
  read_on-at n kept at t w e is same = let p = position-at named kept at e in written n kept at t w p.0 p.1 is same

-- reading on in a name takes the front off what is left of it
pub left_of-read_on : (texts : List Text) (name : List ℕ) (n : ℕ) → left_of (read_on texts name n) name ≡ option_map (drop n) (left_of texts name)
left_of-read_on [] name n = refl
left_of-read_on (t ∷ ts) name n = by (is_named name t) refl (left_of-read_on ts name n)
  where
    by : (b : Bool) → is_named name t ≡ b → left_of (read_on ts name n) name ≡ option_map (drop n) (left_of ts name)
        → left_of (cond b (without_front n t ∷ ts) (t ∷ read_on ts name n)) name ≡ option_map (drop n) (option_map (λ (u : Text). u.bytes) (cond b (Some t) (find (is_named name) ts)))
    by true e rest = ap (λ c. option_map (λ (u : Text). u.bytes) (cond c (Some (without_front n t)) (find (is_named name) ts))) e
    by false e rest = ap (λ c. option_map (λ (u : Text). u.bytes) (cond c (Some t) (find (is_named name) (read_on ts name n)))) e ∙ rest

-- and leaves what is left of every other name
pub left_of-read_on_other : (texts : List Text) (name other : List ℕ) (n : ℕ) → (other ≡ name → ⊥) → left_of (read_on texts name n) other ≡ left_of texts other
left_of-read_on_other [] name other n differs = refl
left_of-read_on_other (t ∷ ts) name other n differs = by (is_named name t) refl (is_named other t) refl (left_of-read_on_other ts name other n differs)
  where
    by : (b : Bool) → is_named name t ≡ b → (c : Bool) → is_named other t ≡ c → left_of (read_on ts name n) other ≡ left_of ts other
        → left_of (cond b (without_front n t ∷ ts) (t ∷ read_on ts name n)) other ≡ option_map (λ (u : Text). u.bytes) (cond c (Some t) (find (is_named other) ts))
    by true e true o rest = absurd (differs (sym ((bytes_decides t.name other).0 o) ∙ (bytes_decides t.name name).0 e))
    by true e false o rest = ap (λ c. option_map (λ (u : Text). u.bytes) (cond c (Some (without_front n t)) (find (is_named other) ts))) o
    by false e true o rest = ap (λ c. option_map (λ (u : Text). u.bytes) (cond c (Some t) (find (is_named other) (read_on ts name n)))) o
    by false e false o rest = ap (λ c. option_map (λ (u : Text). u.bytes) (cond c (Some t) (find (is_named other) (read_on ts name n)))) o ∙ rest

-- which is all that a read does to what is told
pub LeavesOthers-read_on : (texts : List Text) (name : List ℕ) (n : ℕ) → LeavesOthers name (left_of texts) (left_of (read_on texts name n))
LeavesOthers-read_on texts name n = record {
  told = ap is_some (left_of-read_on texts name n) ∙ still (left_of texts name);
  others = λ other differs. left_of-read_on_other texts name other n differs;
}
  where
    still : (left : Option (List ℕ)) → is_some (option_map (drop n) left) ≡ is_some left
    still None = refl
    still (Some bytes) = refl
