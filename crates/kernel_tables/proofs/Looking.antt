-- What rows have at a place: rows behind each other, the rows of a list, and the step of a loop over numbers.
use Rattle.std.proofs.Common.{◌≡◌, ◌≢◌, ℕ, false, zero, suc, ◌+◌, ◌-◌, ◌<◌, ◌≤◌, List, [], ◌∷◌, ◌++◌, length, get_or, map, Option, Some, None, slice_get, refl, ap, sym, ◌∙◌, arith}
use Rattle.std.proofs.lemmas.Bool.Decides.{nat_tests}
use Rattle.std.specs.List.{range_with_len, flat_map, list_any}
use Rattle.claim_table.specs.declared.claim.Claim.{Claim}
use Rattle.claim_table.specs.ClaimRows.{is_wide}
use Rattle.kernel_tables.specs.declared.row.Found.{Found}
use Rattle.kernel_tables.specs.declared.row.Found.TheVariants.{At, Past}
use Rattle.kernel_tables.specs.declared.row.Row.{Row}
use Rattle.kernel_tables.specs.Places.{look_up, numbers}

-- rows behind each other

pub at_append : (xs ys : List Row) (k : ℕ) (r : Row) → look_up xs k ≡ At r → look_up (xs ++ ys) k ≡ At r
at_append [] ys k r h = cc
at_append (x ∷ xs) ys zero r h = h
at_append (x ∷ xs) ys (suc k) r h = at_append xs ys k r h

pub past_append : (xs ys : List Row) (k j : ℕ) → look_up xs k ≡ Past j → look_up (xs ++ ys) k ≡ look_up ys j
past_append [] ys k j h = (let same : k ≡ j = cc in ap (look_up ys) same)
past_append (x ∷ xs) ys zero j h = cc
past_append (x ∷ xs) ys (suc k) j h = past_append xs ys k j h

-- a place in rows of two kinds: first in those of the first kind, and past them in those of the second

pub found_first : (xs ys : List Row) (k : ℕ) (found : Found) (r : Row) → found ≡ look_up xs k → found ≡ At r → At r ≡ look_up (xs ++ ys) k
found_first xs ys k found r is at = sym (at_append xs ys k r (sym is ∙ at))

pub found_then : (xs ys : List Row) (k j : ℕ) (found then : Found) → found ≡ look_up xs k → found ≡ Past j → then ≡ look_up ys j → then ≡ look_up (xs ++ ys) k
found_then xs ys k j found then is past rest = rest ∙ sym (past_append xs ys k j (sym is ∙ past))

-- the row at a place, if there is one

row_at : (xs ys : List Row) (k : ℕ) (r : Row) → look_up xs k ≡ At r → Some r ≡ slice_get (xs ++ ys) k
row_at [] ys k r h = cc
row_at (x ∷ xs) ys zero r h = (let same : x ≡ r = cc in ap Some (sym same))
row_at (x ∷ xs) ys (suc k) r h = row_at xs ys k r h

row_past : (xs ys : List Row) (k j : ℕ) → look_up xs k ≡ Past j → slice_get (xs ++ ys) k ≡ slice_get ys j
row_past [] ys k j h = (let same : k ≡ j = cc in ap (slice_get ys) same)
row_past (x ∷ xs) ys zero j h = cc
row_past (x ∷ xs) ys (suc k) j h = row_past xs ys k j h

pub row_first : (xs ys : List Row) (k : ℕ) (found : Found) (r : Row) → found ≡ look_up xs k → found ≡ At r → Some r ≡ slice_get (xs ++ ys) k
row_first xs ys k found r is at = row_at xs ys k r (sym is ∙ at)

pub row_then : (xs ys : List Row) (k j : ℕ) (found : Found) (answer : Option Row) → found ≡ look_up xs k → found ≡ Past j → answer ≡ slice_get ys j → answer ≡ slice_get (xs ++ ys) k
row_then xs ys k j found answer is past rest = rest ∙ sym (row_past xs ys k j (sym is ∙ past))

-- one row alone

pub only_row : (r : Row) (k : ℕ) → k ≡ 0 → Some r ≡ slice_get (r ∷ []) k
only_row r zero h = refl
only_row r (suc k) h = absurd (omega arith)

pub no_row : (r : Row) (k : ℕ) → k ≢ 0 → None ≡ slice_get (r ∷ []) k
no_row r zero h = absurd (h refl)
no_row r (suc k) h = refl

-- the rows of a list

module _ {X : Type 0} where
  pub at_place : (row : X → Row) (xs : List X) (k : ℕ) (d : X) → k < length xs → At (row (get_or xs k d)) ≡ look_up (map row xs) k
  at_place row [] k d l = absurd (omega arith)
  at_place row (y ∷ xs) zero d l = refl
  at_place row (y ∷ xs) (suc k) d l = at_place row xs k d (omega arith)

  pub at_row : (row : X → Row) (xs : List X) (k : ℕ) (d : X) (r : Row) → k < length xs → r ≡ row (get_or xs k d) → At r ≡ look_up (map row xs) k
  at_row row xs k d r l is = ap At is ∙ at_place row xs k d l

  pub past_place : (row : X → Row) (xs : List X) (k : ℕ) → length xs ≤ k → Past (k - length xs) ≡ look_up (map row xs) k
  past_place row [] k l = ap Past (omega arith)
  past_place row (y ∷ xs) zero l = absurd (omega arith)
  past_place row (y ∷ xs) (suc k) l = (let less : suc k - length (y ∷ xs) ≡ k - length xs = omega arith in ap Past less ∙ past_place row xs k (omega arith))

  got_row : (row : X → Row) (xs : List X) (k : ℕ) (x : X) → Some x ≡ slice_get xs k → At (row x) ≡ look_up (map row xs) k
  got_row row [] k x is = cc
  got_row row (y ∷ xs) zero x is = (let same : x ≡ y = cc in ap (λ z. At (row z)) same)
  got_row row (y ∷ xs) (suc k) x is = got_row row xs k x is

  pub at_get : (row : X → Row) (xs : List X) (k : ℕ) (x : X) (r : Row) → Some x ≡ slice_get xs k → r ≡ row x → At r ≡ look_up (map row xs) k
  at_get row xs k x r got is = ap At is ∙ got_row row xs k x got

  -- how far a place lies past the last
  pub got_none : (xs : List X) (k : ℕ) → None ≡ slice_get xs k → length xs ≤ k
  got_none [] k is = omega arith
  got_none (y ∷ xs) zero is = cc
  got_none (y ∷ xs) (suc k) is = (let rest : length xs ≤ k = got_none xs k is in omega arith)

  pub past_get : (row : X → Row) (xs : List X) (k n : ℕ) → n ≡ length xs → None ≡ slice_get xs k → Past (k - n) ≡ look_up (map row xs) k
  past_get row xs k n long is = ap (λ m. Past (k - m)) long ∙ past_place row xs k (got_none xs k is)

  -- what is found in a list is found in one that is the same
  pub in_list : (row : X → Row) (xs ys : List X) (k : ℕ) (found : Found) → found ≡ look_up (map row xs) k → xs ≡ ys → found ≡ look_up (map row ys) k
  in_list row xs ys k found is same = is ∙ ap (λ zs. look_up (map row zs) k) same

-- a loop over numbers

numbers_more : (first end : ℕ) → first < end → numbers first end ≡ first ∷ numbers (first + 1) end
unfolding numbers
numbers_more first end l = (let one : end - first ≡ suc (end - (first + 1)) = omega arith in ap (range_with_len first) one)

numbers_none : (first end : ℕ) → end ≤ first → numbers first end ≡ []
unfolding numbers
numbers_none first end l = (let none : end - first ≡ 0 = omega arith in ap (range_with_len first) none)

-- what is left of the rows of numbers has at what is left of the place what all have at the place
pub record IsLeft (rows : ℕ → List Row) (first end left k : ℕ) : Type 0 where
  pub same : look_up (flat_map rows (numbers first end)) left ≡ look_up (flat_map rows (numbers 0 end)) k

rows_more : (rows : ℕ → List Row) (first end : ℕ) → first < end → flat_map rows (numbers first end) ≡ rows first ++ flat_map rows (numbers (first + 1) end)
rows_more rows first end l = ap (flat_map rows) (numbers_more first end l)

pub left_all : (rows : ℕ → List Row) (end k : ℕ) → IsLeft rows 0 end k k
left_all rows end k = record { same = refl }

pub left_at : (rows : ℕ → List Row) (first end left k : ℕ) (r : Row) → first < end → IsLeft rows first end left k → look_up (rows first) left ≡ At r → At r ≡ look_up (flat_map rows (numbers 0 end)) k
left_at rows first end left k r l now is =
    sym (at_append (rows first) (flat_map rows (numbers (first + 1) end)) left r is) ∙ ap (λ rs. look_up rs left) (sym (rows_more rows first end l)) ∙ now.same

pub left_past : (rows : ℕ → List Row) (first end left k j : ℕ) → first < end → IsLeft rows first end left k → look_up (rows first) left ≡ Past j → IsLeft rows (first + 1) end j k
left_past rows first end left k j l now is = record {
  same = sym (past_append (rows first) (flat_map rows (numbers (first + 1) end)) left j is) ∙ ap (λ rs. look_up rs left) (sym (rows_more rows first end l)) ∙ now.same;
}

pub left_none : (rows : ℕ → List Row) (first end left k : ℕ) → end ≤ first → IsLeft rows first end left k → Past left ≡ look_up (flat_map rows (numbers 0 end)) k
left_none rows first end left k l now = ap (λ ns. look_up (flat_map rows ns) left) (sym (numbers_none first end l)) ∙ now.same

-- a range of ports has at most 65,536

pub narrow_at : (claims : List (Claim ℕ)) (k : ℕ) (d : Claim ℕ) → k < length claims → list_any is_wide claims ≡ false → (get_or claims k d).detail ≤ 65536
narrow_at [] k d l none = absurd (omega arith)
narrow_at (c ∷ claims) zero d l none = grind (arith, nat_tests)
narrow_at (c ∷ claims) (suc k) d l none =
    let rest : list_any is_wide claims ≡ false = grind arith in
    narrow_at claims k d (omega arith) rest
