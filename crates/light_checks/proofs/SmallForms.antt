-- The forms of a check that is numbered are small.
use Rattle.std.proofs.Common.{◌≡◌, ℕ, ◌+◌, ◌<◌, ◌≤◌, ◌^◌, Bool, true, false, ◌&&◌, nat_lt, List, [], ◌∷◌, length, Option, Some, None, ℤ, pos, ◌*ℤ◌, unsigned_abs, if◌then◌else◌, All, refl, ap, ◌∙◌, subst, arith}
use Rattle.std.proofs.lemmas.List.Elements.{All-push}
use Rattle.dep_expr.specs.Linear.{LinearForm, plus, number_form, term_form}
use Rattle.dep_expr.specs.Merged.{merged}
use Rattle.dep_expr.specs.Weight.{weight}
use Rattle.dep_expr.proofs.Weights.{abs-add, weight-append, weight-merged}
use Rattle.checked_tree.specs.declared.checks.Check.{Check}
use Rattle.checked_tree.specs.declared.checks.Cond.{Cond}
use Rattle.checked_tree.specs.declared.checks.Cond.TheVariants as cond
use Rattle.checked_tree.specs.declared.expressions.CheckedExpr.{CheckedExpr}
use Rattle.checked_tree.specs.declared.sums.Part.{Part}
use Rattle.checked_tree.specs.declared.sums.Part.TheVariants.{Constant, Atom}
use Rattle.checked_tree.specs.declared.sums.Sum.{Sum}
use Rattle.deputy_types.specs.Options.{and_then}
use Rattle.deputy_types.proofs.Inversions.{some_then, some_map}
use Rattle.deputy_rules.specs.declared.asked.Asked.{Asked}
use Rattle.deputy_rules.specs.declared.asked.AskedCond.{AskedCond}
use Rattle.deputy_rules.specs.declared.asked.AskedCond.TheVariants as asked
use Rattle.deputy_rules.specs.Numbering.{Forming, unformed, if_light, with_number, with_term, with_atom, number_of, signed, with_part, with_parts, difference, whole, single, at_most, guarded, aligned, non_zero, equal, term, kept, conditioned, Numbered, with_cond, with_check, numbered}
use Rattle.light_checks.specs.SumLimits.{IsSmallForm, IsSmallCond, IsSmallCheck}
use Rattle.light_checks.proofs.Ensuring.{some_same}

-- a form that is being added up weighs no more than was counted
record IsWeighed (f : Forming) : Type 0 where
  terms : weight f.form.terms ≤ f.coefficients
  constant : unsigned_abs f.form.constant ≤ f.constants
  coefficients : f.coefficients < 2 ^ 62
  constants : f.constants < 2 ^ 100

light_some : (f g : Forming) → if_light f ≡ Some g → (f ≡ g) × (f.coefficients < 2 ^ 62) × (f.constants < 2 ^ 100)
light_some f g h = by (nat_lt f.coefficients (2 ^ 62)) (nat_lt f.constants (2 ^ 100)) refl refl h
  where
    by : (a b : Bool) → nat_lt f.coefficients (2 ^ 62) ≡ a → nat_lt f.constants (2 ^ 100) ≡ b → (if a && b then Some f else None) ≡ Some g → (f ≡ g) × (f.coefficients < 2 ^ 62) × (f.constants < 2 ^ 100)
    by true true p q e = (some_same f g e, grind arith, grind arith)
    by true false p q e = absurd cc
    by false b p q e = absurd cc

number_weighed : (z : ℤ) (f g : Forming) → with_number z f ≡ Some g → IsWeighed f → IsWeighed g
unfolding with_number
number_weighed z f g h is =
    let more : Forming = record { form = plus f.form (number_form z); coefficients = f.coefficients; constants = f.constants + unsigned_abs z } in
    let l = light_some more g h in
    let w = weight-append f.form.terms [] in
    let a = abs-add f.form.constant z in
    let t = is.terms in
    let c = is.constant in
    subst IsWeighed l.0 (record { terms = omega arith; constant = omega arith; coefficients = l.1; constants = l.2 })

term_weighed : (k : ℤ) (n : ℕ) (f g : Forming) → with_term k n f ≡ Some g → IsWeighed f → IsWeighed g
unfolding with_term
term_weighed k n f g h is =
    let more : Forming = record { form = plus f.form (term_form (k, n)); coefficients = f.coefficients + unsigned_abs k; constants = f.constants } in
    let l = light_some more g h in
    let w = weight-append f.form.terms ((k, n) ∷ []) in
    let a = abs-add f.form.constant (pos 0) in
    let t = is.terms in
    let c = is.constant in
    subst IsWeighed l.0 (record { terms = omega arith; constant = omega arith; coefficients = l.1; constants = l.2 })

part_weighed : (right : Bool) (p : Part) (f g : Forming) (atoms now : List CheckedExpr) → with_part right p f atoms ≡ Some (g, now) → IsWeighed f → IsWeighed g
unfolding with_part
part_weighed right (Constant k z) f g atoms now h is =
    let r = some_map (with_number (signed right (k *ℤ z)) f) (λ x. (x, atoms)) (g, now) h in
    number_weighed (signed right (k *ℤ z)) f g (r.1 ∙ ap (λ (x : Forming × List CheckedExpr). Some x.0) r.2) is
part_weighed right (Atom k e) f g atoms now h is =
    let r = some_map (with_term (signed right k) (number_of atoms e) f) (λ x. (x, with_atom atoms e)) (g, now) h in
    term_weighed (signed right k) (number_of atoms e) f g (r.1 ∙ ap (λ (x : Forming × List CheckedExpr). Some x.0) r.2) is

parts_weighed : (right : Bool) (ps : List Part) (f g : Forming) (atoms now : List CheckedExpr) → with_parts right ps f atoms ≡ Some (g, now) → IsWeighed f → IsWeighed g
parts_weighed right [] f g atoms now h is = subst IsWeighed (ap (λ (x : Forming × List CheckedExpr). x.0) (some_same (f, atoms) (g, now) h)) is
parts_weighed right (p ∷ ps) f g atoms now h is =
    let r = some_then (with_part right p f atoms) (λ r. with_parts right ps r.0 r.1) (g, now) h in
    parts_weighed right ps r.0.0 g r.0.1 now r.2 (part_weighed right p f r.0.0 atoms r.0.1 r.1 is)

nothing_weighed : IsWeighed unformed
nothing_weighed = record { terms = omega arith; constant = omega arith; coefficients = omega arith; constants = omega arith }

merged_small : (f : Forming) → IsWeighed f → IsSmallForm (merged f.form)
merged_small f is =
    let w = weight-merged f.form.terms in
    let t = is.terms in
    let c = is.constant in
    let k = is.coefficients in
    let n = is.constants in
    record { coefficients = omega arith; constant = omega arith }

-- a form that came out, with the atoms then
abbrev Formed : Type 0
Formed = LinearForm × List CheckedExpr

abbrev FormIs : Formed → Type 0
FormIs r = IsSmallForm r.0

difference_small : (left right : Sum) (atoms : List CheckedExpr) (r : Formed) → difference left right atoms ≡ Some r → FormIs r
unfolding difference
difference_small left right atoms r h =
    let a = some_then (with_parts false left.parts unformed atoms) (λ l. and_then (with_parts true right.parts l.0 l.1) (λ x. Some (merged x.0.form, x.1))) r h in
    let b = some_then (with_parts true right.parts a.0.0 a.0.1) (λ x. Some (merged x.0.form, x.1)) r a.2 in
    let one = parts_weighed false left.parts unformed a.0.0 atoms a.0.1 a.1 nothing_weighed in
    let two = parts_weighed true right.parts a.0.0 b.0.0 a.0.1 b.0.1 b.1 one in
    subst FormIs (some_same (merged b.0.0.form, b.0.1) r b.2) (merged_small b.0.0 two)

whole_small : (s : Sum) (atoms : List CheckedExpr) (r : Formed) → whole s atoms ≡ Some r → FormIs r
unfolding whole
whole_small s atoms r h =
    let a = some_then (with_parts false s.parts unformed atoms) (λ x. Some (merged x.0.form, x.1)) r h in
    subst FormIs (some_same (merged a.0.0.form, a.0.1) r a.2) (merged_small a.0.0 (parts_weighed false s.parts unformed a.0.0 atoms a.0.1 a.1 nothing_weighed))

single_small : (p : Part) (atoms : List CheckedExpr) (r : Formed) → single p atoms ≡ Some r → FormIs r
unfolding single
single_small p atoms r h =
    let a = some_then (with_part false p unformed atoms) (λ x. Some (merged x.0.form, x.1)) r h in
    subst FormIs (some_same (merged a.0.0.form, a.0.1) r a.2) (merged_small a.0.0 (part_weighed false p unformed a.0.0 atoms a.0.1 a.1 nothing_weighed))

-- ---- conditions
abbrev Conditioned : Type 0
Conditioned = Cond × List CheckedExpr

abbrev CondIs : Conditioned → Type 0
CondIs c = IsSmallCond c.0

same_cond : (a c : Conditioned) → ◌≡◌ {A = Option Conditioned} (Some a) (Some c) → CondIs a → CondIs c
same_cond a c h is = subst CondIs (some_same a c h) is

term_small : (at : Sum) (new : Option Part) (atoms : List CheckedExpr) (c : Conditioned) → term at new atoms ≡ Some c → CondIs c
unfolding term
term_small at None atoms c h =
    let a = some_then (whole at atoms) (λ a. Some (cond.Term a.0 None, a.1)) c h in
    same_cond (cond.Term a.0.0 None, a.0.1) c a.2 (whole_small at atoms a.0 a.1, tt)
term_small at (Some new) atoms c h =
    let a = some_then (whole at atoms) (λ a. and_then (single new a.1) (λ n. Some (cond.Term a.0 (Some n.0), n.1))) c h in
    let n = some_then (single new a.0.1) (λ n. Some (cond.Term a.0.0 (Some n.0), n.1)) c a.2 in
    same_cond (cond.Term a.0.0 (Some n.0.0), n.0.1) c n.2 (whole_small at atoms a.0 a.1, single_small new a.0.1 n.0 n.1)

cond_small : (q : AskedCond) (atoms : List CheckedExpr) (c : Conditioned) → conditioned q atoms ≡ Some c → CondIs c
unfolding conditioned at_most guarded aligned non_zero equal kept
cond_small (asked.Le left right) atoms c h =
    let d = some_then (difference left right atoms) (λ d. Some (cond.Le (record { left = d.0; guard = None }), d.1)) c h in
    same_cond (cond.Le (record { left = d.0.0; guard = None }), d.0.1) c d.2 (difference_small left right atoms d.0 d.1, tt)
cond_small (asked.Guarded left right guard) atoms c h =
    let d = some_then (difference left right atoms) (λ d. and_then (whole guard d.1) (λ g. Some (cond.Le (record { left = d.0; guard = Some g.0 }), g.1))) c h in
    let g = some_then (whole guard d.0.1) (λ g. Some (cond.Le (record { left = d.0.0; guard = Some g.0 }), g.1)) c d.2 in
    same_cond (cond.Le (record { left = d.0.0; guard = Some g.0.0 }), g.0.1) c g.2 (difference_small left right atoms d.0 d.1, whole_small guard d.0.1 g.0 g.1)
cond_small (asked.Aligned value low size guard) atoms c h =
    let d = some_then (difference value low atoms) (λ d. and_then (whole guard d.1) (λ g. Some (cond.Aligned d.0 size g.0, g.1))) c h in
    let g = some_then (whole guard d.0.1) (λ g. Some (cond.Aligned d.0.0 size g.0, g.1)) c d.2 in
    same_cond (cond.Aligned d.0.0 size g.0.0, g.0.1) c g.2 (difference_small value low atoms d.0 d.1, whole_small guard d.0.1 g.0 g.1)
cond_small (asked.NonZero p) atoms c h =
    let f = some_then (single p atoms) (λ f. Some (cond.NonZero f.0, f.1)) c h in same_cond (cond.NonZero f.0.0, f.0.1) c f.2 (single_small p atoms f.0 f.1)
cond_small (asked.Equal p z) atoms c h =
    let f = some_then (single p atoms) (λ f. Some (cond.Equal f.0 z, f.1)) c h in same_cond (cond.Equal f.0.0 z, f.0.1) c f.2 (single_small p atoms f.0 f.1)
cond_small (asked.Term at new) atoms c h = term_small at new atoms c h
cond_small (asked.Kept old new at size) atoms c h =
    let n = some_then (single new atoms) (λ n. and_then (single old n.1) (λ o. and_then (whole at o.1) (λ a. Some (cond.Kept o.0 n.0 a.0 size, a.1)))) c h in
    let o = some_then (single old n.0.1) (λ o. and_then (whole at o.1) (λ a. Some (cond.Kept o.0 n.0.0 a.0 size, a.1))) c n.2 in
    let a = some_then (whole at o.0.1) (λ a. Some (cond.Kept o.0.0 n.0.0 a.0 size, a.1)) c o.2 in
    same_cond (cond.Kept o.0.0 n.0.0 a.0.0 size, a.0.1) c a.2 (single_small old n.0.1 o.0 o.1, single_small new atoms n.0 n.1, whole_small at o.0.1 a.0 a.1)

-- ---- the checks of a function so far
abbrev pub AreSmall : Numbered → Type 0
AreSmall b = All IsSmallCheck b.checks

check_small : (b n : Numbered) (q : Asked) → with_check b q ≡ Some n → AreSmall b → AreSmall n
unfolding with_check
check_small b n q h is =
    let c = some_map (conditioned q.cond b.atoms) (with_cond q b.checks) n h in
    let new : Check = record { id = length b.checks + 1; line = q.line; kind = q.kind; cond = c.0.0 } in
    subst AreSmall c.2 (All-push IsSmallCheck b.checks new is (cond_small q.cond b.atoms c.0 c.1))

pub numbered_small : (qs : List Asked) (b n : Numbered) → numbered qs b ≡ Some n → AreSmall b → AreSmall n
numbered_small [] b n h is = subst AreSmall (some_same b n h) is
numbered_small (q ∷ qs) b n h is =
    let m = some_then (with_check b q) (λ more. numbered qs more) n h in
    numbered_small qs m.0 n m.2 (check_small b m.0 q m.1 is)
