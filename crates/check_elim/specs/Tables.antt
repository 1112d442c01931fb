-- The parts of a table of inequalities, as the code builds them.
use Rattle.std.specs.Prelude.{ℕ, ◌≡◌, ◌+◌, ◌<◌, ◌≤◌, ◌==◌, ◌&&◌, Bool, false, not, List, [], ◌∷◌, ◌++◌, map, length, All, ℤ, pos, Option, Some, None, slice_get, slice_index_or, if◌then◌else◌}
use Rattle.std.specs.List.{flat_map, list_any, position_or_len}
use Rattle.std.specs.Ordering.{is_lt, int_cmp}
use Rattle.std.specs.Cmp.Lexicographic.{slice_cmp}
use Rattle.std.specs.Global.{Vec}
use Rattle.dep_expr.specs.Linear.{LinearForm, IsSmall}
use Rattle.dep_expr.specs.Merged.{merged}
use Rattle.dep_expr.specs.declared.inequality.Ineq.{Ineq}
use Rattle.checked_tree.specs.declared.checks.Check.{Check}
use Rattle.checked_tree.specs.declared.checks.Cond.{Cond}
use Rattle.checked_tree.specs.declared.checks.Cond.TheVariants.{Le, Aligned, NonZero, Equal, Term, Kept}
use Rattle.checked_tree.specs.declared.units.CheckedFn.{CheckedFn}
use Rattle.checked_tree.specs.Conditions.{is_multiple}
use Rattle.checked_tree.specs.Redundant.{atom_reads_memory, atom_slots, slots_of, is_over_locals, cond_inequality}
use Rattle.check_elim.specs.declared.table.CheckFact.{CheckFact}
use Rattle.check_elim.specs.Order.{fact_cmp}
use Rattle.check_elim.specs.Redundancy.{kind_number}
use Rattle.check_elim.specs.Sets.{IsOwn}

-- ---- how large the forms of checks are
abbrev pub IsSmallGuard : Option LinearForm → Type 0
IsSmallGuard None = Unit {0}
IsSmallGuard (Some g) = IsSmall (merged g)

-- the left side and the guard of an inequality can be brought to the forms in which the rules compare them
abbrev pub IsSmallCond : Cond → Type 0
IsSmallCond (Le i) = IsSmall (merged i.left) × IsSmallGuard i.guard
IsSmallCond (Aligned gap size guard) = Unit {0}
IsSmallCond (NonZero l) = Unit {0}
IsSmallCond (Equal l z) = Unit {0}
IsSmallCond (Term at new) = Unit {0}
IsSmallCond (Kept tag new at size) = Unit {0}

-- so can those of each check of a function, as a function of a derived text has them
unfoldable pub HasSmallChecks : CheckedFn → Type 0
HasSmallChecks f = All (λ (c : Check). IsSmallCond c.cond) f.checks

-- ---- locals
abbrev pub reads_none : CheckedFn → ℤ × ℕ → Bool
reads_none f t = not (atom_reads_memory (slice_get f.atoms t.1))

abbrev pub slots_in : CheckedFn → ℤ × ℕ → List ℕ
slots_in f t = atom_slots (slice_get f.atoms t.1)

-- ---- constants
abbrev pub is_multiple_term : ℕ → ℤ × ℕ → Bool
is_multiple_term size t = is_multiple t.0 size

-- ---- facts
abbrev pub own_list : CheckedFn → Option Ineq → List Ineq
own_list f None = []
own_list f (Some i) = if is_over_locals f i then i ∷ [] else []

abbrev pub fact_list : CheckedFn → Check → List Ineq
fact_list f c = own_list f (cond_inequality c.cond)

-- the inequalities over locals of checks, in their order
abbrev pub found : CheckedFn → List Check → List Ineq
found f cs = flat_map (fact_list f) cs

-- no fact is before one that stands earlier
unfoldable pub AreSorted : List Ineq → Type 0
AreSorted list = (i j : ℕ) (d : Ineq) → i ≤ j → j < length list → is_lt (fact_cmp (slice_index_or list j d) (slice_index_or list i d)) ≡ false

-- what a table says of a check
pub record CheckFactIs (f : CheckedFn) (list : List Ineq) (c : Check) (x : CheckFact) : Type 0 where
  pub inequality : x.inequality ≡ cond_inequality c.cond
  pub own : IsOwn f list (cond_inequality c.cond) x.own

unfoldable pub IsCheckFact : CheckedFn → List Ineq → Check → CheckFact → Type 0
IsCheckFact f list c x = CheckFactIs f list c x

-- ---- masks
abbrev pub paired : ℕ → ℕ → ℕ × ℕ
paired number slot = (slot, number)

-- each slot of a fact, with the fact's number
abbrev pub pairs_from : CheckedFn → ℕ → List Ineq → List (ℕ × ℕ)
pairs_from f n [] = []
pairs_from f n (i ∷ is) = map (paired n) (slots_of f i) ++ pairs_from f (n + 1) is

abbrev pub is_pair : ℕ → ℕ → ℕ × ℕ → Bool
is_pair slot j p = slot == p.0 && p.1 == j

abbrev pub has_pair : ℕ → ℕ → List (ℕ × ℕ) → Bool
has_pair slot j pairs = list_any (is_pair slot j) pairs

-- ---- codes of checks: two checks have the same where they are of the same kind and condition
abbrev pub terms_code : List (ℤ × ℕ) → List ℤ
terms_code [] = pos 0 ∷ []
terms_code (t ∷ ts) = pos 1 ∷ (t.0 ∷ (pos t.1 ∷ terms_code ts))

abbrev pub form_code : LinearForm → List ℤ
form_code l = l.constant ∷ terms_code l.terms

abbrev pub optional_code : Option LinearForm → List ℤ
optional_code None = pos 0 ∷ []
optional_code (Some l) = pos 1 ∷ form_code l

abbrev pub cond_code : Cond → List ℤ
cond_code (Le i) = pos 0 ∷ (form_code i.left ++ optional_code i.guard)
cond_code (Aligned gap size guard) = pos 1 ∷ (pos size ∷ (form_code gap ++ form_code guard))
cond_code (NonZero l) = pos 2 ∷ form_code l
cond_code (Equal l z) = pos 3 ∷ (z ∷ form_code l)
cond_code (Term at new) = pos 4 ∷ (form_code at ++ optional_code new)
cond_code (Kept tag new at size) = pos 5 ∷ (pos size ∷ (form_code tag ++ (form_code new ++ form_code at)))

unfoldable pub check_code : Check → List ℤ
check_code c = pos (kind_number c.kind) ∷ cond_code c.cond

abbrev pub codes_cmp : List ℤ → List ℤ → Rattle.std.specs.declared.cmp.Ordering.Ordering
codes_cmp a b = slice_cmp int_cmp a b

-- the class of a code among codes in order: how many are before it
unfoldable pub class_among : List (Vec ℤ) → List ℤ → ℕ
class_among codes code = position_or_len (λ (v : Vec ℤ). not (is_lt (codes_cmp v.items code))) codes

unfoldable pub AreCodesSorted : List (Vec ℤ) → Type 0
AreCodesSorted codes = (i j : ℕ) (d : Vec ℤ) → i ≤ j → j < length codes → is_lt (codes_cmp (slice_index_or codes j d).items (slice_index_or codes i d).items) ≡ false
