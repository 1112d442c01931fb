-- The order of facts: by their terms, then by their constants, then by their guards. What an inequality without a guard implies is one run of
-- neighbours then.
use Rattle.std.specs.Prelude.{ℕ, ◌≡◌, ◌≤◌, ◌<◌, false, List, length, ℤ, Option, slice_index_or}
use Rattle.std.specs.declared.cmp.Ordering.{Ordering}
use Rattle.std.specs.Ordering.{nat_cmp, int_cmp, ordering_then, is_lt}
use Rattle.std.specs.Option.{option_cmp}
use Rattle.std.specs.Cmp.Lexicographic.{slice_cmp}
use Rattle.dep_expr.specs.Linear.{LinearForm}
use Rattle.dep_expr.specs.declared.inequality.Ineq.{Ineq}

abbrev pub term_cmp : ℤ × ℕ → ℤ × ℕ → Ordering
term_cmp s t = ordering_then (int_cmp s.0 t.0) (nat_cmp s.1 t.1)

abbrev pub terms_cmp : List (ℤ × ℕ) → List (ℤ × ℕ) → Ordering
terms_cmp ss ts = slice_cmp term_cmp ss ts

-- by terms, then by constant
abbrev pub form_cmp : LinearForm → LinearForm → Ordering
form_cmp a b = ordering_then (terms_cmp a.terms b.terms) (int_cmp a.constant b.constant)

-- no guard first
abbrev pub guard_cmp : Option LinearForm → Option LinearForm → Ordering
guard_cmp g h = option_cmp form_cmp g h

unfoldable pub fact_cmp : Ineq → Ineq → Ordering
fact_cmp a b = ordering_then (form_cmp a.left b.left) (guard_cmp a.guard b.guard)

-- no fact is before one that stands earlier, as far as terms and constants go
unfoldable pub IsInOrder : List Ineq → Type 0
IsInOrder list = (i j : ℕ) (d : Ineq) → i ≤ j → j < length list → is_lt (form_cmp (slice_index_or list j d).left (slice_index_or list i d).left) ≡ false
