-- Numbering: the checks that rules ask for, with their expressions as the atoms of the function. Atoms are numbered from 0 in the order of
-- their first use, in the checks as the rules write them: check by check, within a check the sides in the order in which the condition is
-- written, a guard behind them, and before the sides are merged. Equal expressions are one atom. Each linear form of a check is merged. A
-- form is light where the sizes of its coefficients are below 2^62 together, and those of its constants below 2^100. There is no number for
-- what is heavier, which no check of a text within the limits is: it adds up a few thousand parts, each below 2^60.
use Rattle.std.specs.Prelude.{◌≡◌, ◌≢◌, ℕ, ◌+◌, ◌^◌, ◌&&◌, Bool, true, false, nat_lt, List, [], ◌∷◌, ◌++◌, length, Option, Some, None}
use Rattle.std.specs.Prelude.{option_map, ℤ, pos, ◌*ℤ◌, neg_ℤ, unsigned_abs, if◌then◌else◌, Result, Ok, Err}
use Rattle.std.specs.List.{position_or_len}
use Rattle.dep_expr.specs.Linear.{LinearForm, number_form, term_form, plus}
use Rattle.dep_expr.specs.Merged.{merged}
use Rattle.checked_tree.specs.declared.checks.Check.{Check}
use Rattle.checked_tree.specs.declared.checks.Cond.{Cond}
use Rattle.checked_tree.specs.declared.checks.Cond.TheVariants as cond
use Rattle.checked_tree.specs.declared.expressions.CheckedExpr.{CheckedExpr}
use Rattle.checked_tree.specs.declared.sums.Part.{Part}
use Rattle.checked_tree.specs.declared.sums.Part.TheVariants.{Constant, Atom}
use Rattle.checked_tree.specs.declared.sums.Sum.{Sum}
use Rattle.checked_tree.specs.Bare.{bare}
use Rattle.checked_tree.specs.Codes.{is_same}
use Rattle.deputy_rules.specs.declared.asked.Asked.{Asked}
use Rattle.deputy_rules.specs.declared.asked.AskedCond.{AskedCond}
use Rattle.deputy_rules.specs.declared.asked.AskedCond.TheVariants as asked
use Rattle.deputy_rules.specs.declared.derived.DerivingRefusal.{DerivingRefusal}
use Rattle.deputy_rules.specs.declared.derived.DerivingRefusal.TheVariants.{Memory}
use Rattle.deputy_types.specs.Options.{and_then}

-- the number of an expression: the place of the first atom that is equal to it, or behind all where none is
unfoldable pub number_of : List CheckedExpr → CheckedExpr → ℕ
number_of atoms e = position_or_len (is_same e) atoms

-- the atoms once the expression is used
unfoldable pub with_atom : List CheckedExpr → CheckedExpr → List CheckedExpr
with_atom atoms e = if nat_lt (number_of atoms e) (length atoms) then atoms else atoms ++ bare e ∷ []

-- a linear form that is being added up, and how far its coefficients and its constants weigh
pub record Forming : Type 0 where
  pub form : LinearForm
  pub coefficients : ℕ
  pub constants : ℕ

-- nothing yet
abbrev pub unformed : Forming
unformed = record { form = number_form (pos 0); coefficients = 0; constants = 0 }

-- a form, where it is light
abbrev pub if_light : Forming → Option Forming
if_light f = if nat_lt f.coefficients (2 ^ 62) && nat_lt f.constants (2 ^ 100) then Some f else None

-- a number more
unfoldable pub with_number : ℤ → Forming → Option Forming
with_number z f =
    if_light (record { form = plus f.form (number_form z); coefficients = f.coefficients; constants = f.constants + unsigned_abs z })

-- so many times an atom more
unfoldable pub with_term : ℤ → ℕ → Forming → Option Forming
with_term k atom f =
    if_light (record { form = plus f.form (term_form (k, atom)); coefficients = f.coefficients + unsigned_abs k; constants = f.constants })

-- a number of the left side, or of the right one, which is taken away
abbrev pub signed : Bool → ℤ → ℤ
signed false z = z
signed true z = neg_ℤ z

-- one part more, of the left side or of the right one
unfoldable pub with_part : Bool → Part → Forming → List CheckedExpr → Option (Forming × List CheckedExpr)
with_part right (Constant k z) f atoms = option_map (λ g. (g, atoms)) (with_number (signed right (k *ℤ z)) f)
with_part right (Atom k e) f atoms = option_map (λ g. (g, with_atom atoms e)) (with_term (signed right k) (number_of atoms e) f)

-- the parts of a side, one after another
abbrev pub with_parts : Bool → List Part → Forming → List CheckedExpr → Option (Forming × List CheckedExpr)
with_parts right [] f atoms = Some (f, atoms)
with_parts right (p ∷ ps) f atoms = and_then (with_part right p f atoms) (λ r. with_parts right ps r.0 r.1)

-- left minus right, in merged form
unfoldable pub difference : Sum → Sum → List CheckedExpr → Option (LinearForm × List CheckedExpr)
difference left right atoms = and_then (with_parts false left.parts unformed atoms)
    (λ l. and_then (with_parts true right.parts l.0 l.1) (λ r. Some (merged r.0.form, r.1)))

-- one sum, in merged form
unfoldable pub whole : Sum → List CheckedExpr → Option (LinearForm × List CheckedExpr)
whole s atoms = and_then (with_parts false s.parts unformed atoms) (λ r. Some (merged r.0.form, r.1))

-- one part, in merged form
unfoldable pub single : Part → List CheckedExpr → Option (LinearForm × List CheckedExpr)
single p atoms = and_then (with_part false p unformed atoms) (λ r. Some (merged r.0.form, r.1))

-- the left sum is at most the right one
unfoldable pub at_most : Sum → Sum → List CheckedExpr → Option (Cond × List CheckedExpr)
at_most left right atoms = and_then (difference left right atoms) (λ d. Some (cond.Le (record { left = d.0; guard = None }), d.1))

-- the same with a guard
unfoldable pub guarded : Sum → Sum → Sum → List CheckedExpr → Option (Cond × List CheckedExpr)
guarded left right guard atoms = and_then (difference left right atoms)
    (λ d. and_then (whole guard d.1) (λ g. Some (cond.Le (record { left = d.0; guard = Some g.0 }), g.1)))

-- the value lies a multiple of the size past the low bound
unfoldable pub aligned : Sum → Sum → ℕ → Sum → List CheckedExpr → Option (Cond × List CheckedExpr)
aligned value low size guard atoms = and_then (difference value low atoms)
    (λ d. and_then (whole guard d.1) (λ g. Some (cond.Aligned d.0 size g.0, g.1)))

-- a number that is not 0, and one that is a constant
unfoldable pub non_zero : Part → List CheckedExpr → Option (Cond × List CheckedExpr)
non_zero p atoms = and_then (single p atoms) (λ f. Some (cond.NonZero f.0, f.1))

unfoldable pub equal : Part → ℤ → List CheckedExpr → Option (Cond × List CheckedExpr)
equal p z atoms = and_then (single p atoms) (λ f. Some (cond.Equal f.0 z, f.1))

-- a byte that is not 0: the address, then the new byte where there is one
unfoldable pub term : Sum → Option Part → List CheckedExpr → Option (Cond × List CheckedExpr)
term at None atoms = and_then (whole at atoms) (λ a. Some (cond.Term a.0 None, a.1))
term at (Some new) atoms = and_then (whole at atoms) (λ a. and_then (single new a.1) (λ n. Some (cond.Term a.0 (Some n.0), n.1)))

-- a tag that keeps its value: the new value, then the old one, then the address
unfoldable pub kept : Part → Part → Sum → ℕ → List CheckedExpr → Option (Cond × List CheckedExpr)
kept old new at size atoms = and_then (single new atoms)
    (λ n. and_then (single old n.1) (λ o. and_then (whole at o.1) (λ a. Some (cond.Kept o.0 n.0 a.0 size, a.1))))

-- what a check tests, over the atoms
unfoldable pub conditioned : AskedCond → List CheckedExpr → Option (Cond × List CheckedExpr)
conditioned (asked.Le left right) = at_most left right
conditioned (asked.Guarded left right guard) = guarded left right guard
conditioned (asked.Aligned value low size guard) = aligned value low size guard
conditioned (asked.NonZero p) = non_zero p
conditioned (asked.Equal p z) = equal p z
conditioned (asked.Term at new) = term at new
conditioned (asked.Kept old new at size) = kept old new at size

-- the atoms and the checks of a function so far
pub record Numbered : Type 0 where
  pub atoms : List CheckedExpr
  pub checks : List Check

-- one check more. Checks are numbered from 1
abbrev pub with_cond : Asked → List Check → Cond × List CheckedExpr → Numbered
with_cond q checks c =
    record { atoms = c.1; checks = checks ++ (record { id = length checks + 1; line = q.line; kind = q.kind; cond = c.0 }) ∷ [] }

unfoldable pub with_check : Numbered → Asked → Option Numbered
with_check n q = option_map (with_cond q n.checks) (conditioned q.cond n.atoms)

-- the checks asked for, one after another
abbrev pub numbered : List Asked → Numbered → Option Numbered
numbered [] n = Some n
numbered (q ∷ qs) n = and_then (with_check n q) (λ more. numbered qs more)

-- what a call that numbers atoms ensures: the outcome, unless memory is wanting
abbrev pub Leaves : {A S : Type 0} → Option (A × S) → Result A DerivingRefusal → S → Type 0
Leaves outcome (Ok a) new = outcome ≡ Some (a, new)
Leaves outcome (Err e) new = e ≢ Memory → outcome ≡ None

-- what a call that numbers checks ensures: the atoms and the checks then, unless memory is wanting
abbrev pub Numbers : {A : Type 0} → Option Numbered → Result A DerivingRefusal → Numbered → Type 0
Numbers outcome (Ok a) new = outcome ≡ Some new
Numbers outcome (Err e) new = e ≢ Memory → outcome ≡ None
