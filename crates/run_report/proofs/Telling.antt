-- What is told in parts is told at once, and rows by their numbers.
-- Here: ended, next, cut_off, cut_behind, on_error; row_at, no_row, rows_past
use Rattle.std.proofs.Common.{◌≡◌, ℕ, zero, suc, ◌+◌, ◌<◌, ◌≤◌, List, [], ◌∷◌, ◌++◌, length, take, drop, map, Option, None, Some, Result, Ok, Err, OnErr, slice_get, sym, ap, ◌∙◌, subst, arith, add-one}
use Rattle.std.proofs.lemmas.List.{drop_all}
use Rattle.std.proofs.lemmas.Option.{same_Some}
use Rattle.sd_outside.specs.Sink.{more, IsCut}
use Rattle.sd_outside.proofs.More.{more-more, more-nothing}
use Rattle.kernel_tables.specs.declared.row.Row.{Row}
use Rattle.run_report.specs.declared.item.Item.{Item}
use Rattle.run_report.specs.Lines.{line_of, print}

-- what is told, where no row is left
pub ended : (now whole : Option (List ℕ)) (f : Row → Item) (left : List Row) → left ≡ [] → more now (print (map f left)) ≡ whole → now ≡ whole
ended now whole f left e h = sym (more-nothing now) ∙ ap (λ rows. more now (print (map f rows))) (sym e) ∙ h

-- the first row that is left is told
pub next : (now new whole : Option (List ℕ)) (f : Row → Item) (item : Item) (r : Row) (left rest : List Row) → left ≡ r ∷ rest → item ≡ f r → new ≡ more now (line_of item)
    → more now (print (map f left)) ≡ whole → more new (print (map f rest)) ≡ whole
next now new whole f item r left rest is named told h =
    ap (λ t. more t (print (map f rest))) (told ∙ ap (λ i. more now (line_of i)) named) ∙ more-more now (line_of (f r)) (print (map f rest)) ∙ ap (λ rows. more now (print (map f rows))) (sym is) ∙ h

-- a front part of what is told so far is one of the whole
pub cut_behind : (now written : Option (List ℕ)) (rest : List ℕ) → IsCut written now → IsCut written (more now rest)
cut_behind now written rest cut = record {
  rest = cut.rest ++ rest;
  is = ap (λ t. more t rest) cut.is ∙ more-more written cut.rest rest;
}

pub cut_off : (now whole written : Option (List ℕ)) (rest : List ℕ) → more now rest ≡ whole → IsCut written now → IsCut written whole
cut_off now whole written rest h cut = subst (IsCut written) h (cut_behind now written rest cut)

pub on_error : {T E : Type 0} {P : Type 0} (r : Result T E) → P → OnErr r P
on_error (Ok x) p = tt
on_error (Err e) p = p

-- the row of a number
pub row_at : {R : Type 0} (m k : ℕ) (rows : List R) (r : R) → k < m → Some r ≡ slice_get rows k → drop k (take m rows) ≡ r ∷ drop (suc k) (take m rows)
row_at zero k rows r h e = absurd (omega arith)
row_at (suc m) k [] r h e = cc
row_at (suc m) zero (x ∷ rows) r h e = ap (λ y. y ∷ take m rows) (sym (same_Some _ _ e))
row_at (suc m) (suc k) (x ∷ rows) r h e = row_at m k rows r (omega arith) e

pub row_next : {R : Type 0} (m k : ℕ) (rows : List R) (r : R) → k < m → Some r ≡ slice_get rows k → drop k (take m rows) ≡ r ∷ drop (k + 1) (take m rows)
row_next m k rows r h e = rw add-one (row_at m k rows r h e)

take_few : {R : Type 0} (m : ℕ) (rows : List R) → length (take m rows) ≤ m
take_few zero rows = omega arith
take_few (suc m) [] = omega arith
take_few (suc m) (x ∷ rows) = omega (arith, take_few m rows)

-- past the last row there is none
get_past : {R : Type 0} (k : ℕ) (rows : List R) → None ≡ slice_get rows k → length rows ≤ k
get_past k [] e = omega arith
get_past zero (x ∷ rows) e = cc
get_past (suc k) (x ∷ rows) e = omega (arith, get_past k rows e)

take_less : {R : Type 0} (m : ℕ) (rows : List R) → length (take m rows) ≤ length rows
take_less zero rows = omega arith
take_less (suc m) [] = omega arith
take_less (suc m) (x ∷ rows) = omega (arith, take_less m rows)

pub no_row : {R : Type 0} (m k : ℕ) (rows : List R) → None ≡ slice_get rows k → drop k (take m rows) ≡ []
no_row m k rows e = let few : length (take m rows) ≤ k = omega (arith, take_less m rows, get_past k rows e) in drop_all k (take m rows) few

-- behind all numbers there is no row
pub rows_past : {R : Type 0} (m k : ℕ) (rows : List R) → m ≤ k → drop k (take m rows) ≡ []
rows_past m k rows h = let few : length (take m rows) ≤ k = omega (arith, take_few m rows) in drop_all k (take m rows) few
