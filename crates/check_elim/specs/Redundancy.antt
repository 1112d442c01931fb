-- Which checks are redundant, as a test that computes.
use Rattle.std.specs.Prelude.{ℕ, ◌==◌, Bool, true, false, not, ◌&&◌, ◌||◌, Option, Some, None}
use Rattle.std.specs.List.{list_all}
use Rattle.std.specs.Ordering.{int_eq}
use Rattle.dep_expr.specs.Linear.{LinearForm}
use Rattle.dep_expr.specs.declared.inequality.Ineq.{Ineq}
use Rattle.sd_base.specs.declared.kinds.CheckKind.{CheckKind}
use Rattle.sd_base.specs.declared.kinds.CheckKind.TheVariants as kind
use Rattle.checked_tree.specs.declared.checks.Check.{Check}
use Rattle.checked_tree.specs.declared.checks.Cond.{Cond}
use Rattle.checked_tree.specs.declared.checks.Cond.TheVariants.{Le, Aligned, NonZero, Equal, Term, Kept}
use Rattle.checked_tree.specs.declared.units.CheckedFn.{CheckedFn}
use Rattle.checked_tree.specs.Eval.{check_of}
use Rattle.checked_tree.specs.Flow.{Event, Tests}
use Rattle.checked_tree.specs.Redundant.{is_constant, flows_of, cond_inequality}
use Rattle.check_elim.specs.Ways.{Lost, comes}
use Rattle.check_elim.specs.Equal.{equal_effect}
use Rattle.check_elim.specs.Facts.{same_form, is_lost, is_met_before}

abbrev pub kind_number : CheckKind → ℕ
kind_number kind.Null = 0
kind_number kind.Bound = 1
kind_number kind.Align = 2
kind_number kind.Term = 3
kind_number kind.Tag = 4
kind_number kind.Change = 5
kind_number kind.Div = 6

abbrev pub same_optional : Option LinearForm → Option LinearForm → Bool
same_optional None None = true
same_optional None (Some m) = false
same_optional (Some l) None = false
same_optional (Some l) (Some m) = same_form l m

abbrev pub same_cond : Cond → Cond → Bool
same_cond (Le i) (Le j) = same_form i.left j.left && same_optional i.guard j.guard
same_cond (Aligned l size guard) (Aligned m other by) = same_form l m && (size == other && same_form guard by)
same_cond (NonZero l) (NonZero m) = same_form l m
same_cond (Equal l z) (Equal m y) = same_form l m && int_eq z y
same_cond (Term at new) (Term m by) = same_form at m && same_optional new by
same_cond (Kept tag new at size) (Kept l by m other) = same_form tag l && (same_form new by && (same_form at m && size == other))
same_cond _ _ = false

-- a check of the same kind and condition
unfoldable pub same_check : Check → Check → Bool
same_check d c = kind_number d.kind == kind_number c.kind && same_cond d.cond c.cond

abbrev pub is_same : Check → Option Check → Bool
is_same c None = false
is_same c (Some d) = same_check d c

abbrev pub equals : CheckedFn → Check → Event → Bool
equals f c (Tests id) = is_same c (check_of f id)
equals f c _ = false

-- second rule: no walk from the start of a statement comes to the check without an equal one before
unfoldable pub follows_equal : CheckedFn → ℕ → Check → Bool
follows_equal f id c = list_all (λ flow. not (is_lost (comes (equal_effect (equals f c)) id flow Lost))) (flows_of f)

-- third rule
abbrev pub follows_inequality : CheckedFn → ℕ → Option Ineq → Bool
follows_inequality f id None = false
follows_inequality f id (Some i) = is_met_before f id i

abbrev pub is_redundant : CheckedFn → ℕ → Check → Bool
is_redundant f id c = is_constant c.cond || (follows_equal f id c || follows_inequality f id (cond_inequality c.cond))

abbrev pub redundant_at : CheckedFn → ℕ → Option Check → Bool
redundant_at f id None = false
redundant_at f id (Some c) = is_redundant f id c

-- whether the check with this number is redundant
unfoldable pub redundant : CheckedFn → ℕ → Bool
redundant f id = redundant_at f id (check_of f id)
