-- Light checks are numbered, whatever stands before them.
use Rattle.std.proofs.Common.{◌≡◌, ◌≢◌, ℕ, ◌+◌, ◌<◌, ◌^◌, Bool, true, false, ◌&&◌, nat_lt, List, [], ◌∷◌, Option, Some, None, option_map, ℤ, ◌*ℤ◌, unsigned_abs, if◌then◌else◌, All, refl, ap, ◌∙◌, arith}
use Rattle.std.proofs.lemmas.Bool.{lt-ltb}
use Rattle.std.proofs.lemmas.Int.{ints}
use Rattle.std.proofs.lemmas.List.Elements.{All-head, All-tail}
use Rattle.dep_expr.specs.Linear.{plus, number_form, term_form}
use Rattle.dep_expr.specs.Merged.{merged}
use Rattle.checked_tree.specs.declared.expressions.CheckedExpr.{CheckedExpr}
use Rattle.checked_tree.specs.declared.sums.Part.{Part}
use Rattle.checked_tree.specs.declared.sums.Part.TheVariants.{Constant, Atom}
use Rattle.checked_tree.specs.declared.sums.Sum.{Sum}
use Rattle.deputy_rules.specs.declared.asked.Asked.{Asked}
use Rattle.deputy_rules.specs.declared.asked.AskedCond.{AskedCond}
use Rattle.deputy_rules.specs.declared.asked.AskedCond.TheVariants as asked
use Rattle.deputy_rules.specs.Numbering.{Forming, unformed, if_light, with_number, with_term, with_atom, number_of, signed, with_part, with_parts, difference, whole, single, at_most, guarded, aligned, non_zero, equal, term, kept, conditioned, Numbered, with_check, numbered}
use Rattle.deputy_types.specs.Options.{and_then}
use Rattle.light_checks.specs.Lightness.{part_factor, part_constant, factors, constants, IsLight, IsLightPart, IsLightNew, IsLightCond, IsLightCheck}

-- what is there
abbrev Is : {A : Type 0} → Option A → Type 0
Is {A} o = (a : A) × (o ≡ Some a)

then_is : {A B : Type 0} (o : Option A) (f : A → Option B) → Is o → ((a : A) → Is (f a)) → Is (and_then o f)
then_is o f l g = let r = g l.0 in (r.0, ap (λ x. and_then x f) l.1 ∙ r.1)

map_is : {A B : Type 0} (o : Option A) (f : A → B) → Is o → Is (option_map f o)
map_is o f l = (f l.0, ap (option_map f) l.1)

-- a size does not depend on the sign
signed_size : (right : Bool) (z : ℤ) → unsigned_abs (signed right z) ≡ unsigned_abs z
signed_size false z = refl
signed_size true z = grind (arith, ints)

both_light : (f : Forming) (a b : Bool) → a ≡ true → b ≡ true → (if a && b then Some f else None) ≡ Some f
both_light f true true h k = refl
both_light f true false h k = absurd cc
both_light f false b h k = absurd cc

light_is : (f : Forming) → f.coefficients < 2 ^ 62 → f.constants < 2 ^ 100 → if_light f ≡ Some f
light_is f h k = both_light f (nat_lt f.coefficients (2 ^ 62)) (nat_lt f.constants (2 ^ 100)) (lt-ltb f.coefficients (2 ^ 62) h) (lt-ltb f.constants (2 ^ 100) k)

-- a form that was added up, and how far it weighs then
record Formed (o : Option (Forming × List CheckedExpr)) (coefficients constants : ℕ) : Type 0 where
  form : Forming
  atoms : List CheckedExpr
  is : o ≡ Some (form, atoms)
  coefficients_are : form.coefficients ≡ coefficients
  constants_are : form.constants ≡ constants

part_formed : (right : Bool) (p : Part) (f : Forming) (atoms : List CheckedExpr) → f.coefficients + part_factor p < 2 ^ 62 → f.constants + part_constant p < 2 ^ 100
    → Formed (with_part right p f atoms) (f.coefficients + part_factor p) (f.constants + part_constant p)
unfolding with_part with_number with_term
part_formed right (Constant k z) f atoms h i =
    let e = signed_size right (k *ℤ z) in
    let g : Forming = record { form = plus f.form (number_form (signed right (k *ℤ z))); coefficients = f.coefficients; constants = f.constants + unsigned_abs (signed right (k *ℤ z)) } in
    let heavy : g.constants < 2 ^ 100 = omega arith in
    let less : g.coefficients < 2 ^ 62 = omega arith in
    record { form = g; atoms = atoms; is = ap (option_map (λ x. (x, atoms))) (light_is g less heavy); coefficients_are = omega arith; constants_are = omega arith }
part_formed right (Atom k e) f atoms h i =
    let s = signed_size right k in
    let g : Forming = record { form = plus f.form (term_form (signed right k, number_of atoms e)); coefficients = f.coefficients + unsigned_abs (signed right k); constants = f.constants } in
    let heavy : g.constants < 2 ^ 100 = omega arith in
    let less : g.coefficients < 2 ^ 62 = omega arith in
    record { form = g; atoms = with_atom atoms e; is = ap (option_map (λ x. (x, with_atom atoms e))) (light_is g less heavy); coefficients_are = omega arith; constants_are = omega arith }

parts_formed : (right : Bool) (ps : List Part) (f : Forming) (atoms : List CheckedExpr) → f.coefficients + factors ps < 2 ^ 62 → f.constants + constants ps < 2 ^ 100
    → Formed (with_parts right ps f atoms) (f.coefficients + factors ps) (f.constants + constants ps)
parts_formed right [] f atoms h i = record { form = f; atoms = atoms; is = refl; coefficients_are = omega arith; constants_are = omega arith }
parts_formed right (p ∷ ps) f atoms h i =
    let one = part_formed right p f atoms (omega arith) (omega arith) in
    let a = one.coefficients_are in
    let b = one.constants_are in
    let rest = parts_formed right ps one.form one.atoms (omega arith) (omega arith) in
    let c = rest.coefficients_are in
    let d = rest.constants_are in
    record {
      form = rest.form;
      atoms = rest.atoms;
      is = ap (λ o. and_then o (λ r. with_parts right ps r.0 r.1)) one.is ∙ rest.is;
      coefficients_are = omega arith;
      constants_are = omega arith;
    }

difference_is : (left right : Sum) (atoms : List CheckedExpr) → IsLight left → IsLight right → Is (difference left right atoms)
unfolding difference
difference_is left right atoms l r =
    let lf = l.factors in
    let lc = l.constants in
    let rf = r.factors in
    let rc = r.constants in
    let one = parts_formed false left.parts unformed atoms (omega arith) (omega arith) in
    let a = one.coefficients_are in
    let b = one.constants_are in
    let two = parts_formed true right.parts one.form one.atoms (omega arith) (omega arith) in (
      (merged two.form.form, two.atoms),
      ap (λ o. and_then o (λ l. and_then (with_parts true right.parts l.0 l.1) (λ r. Some (merged r.0.form, r.1)))) one.is
          ∙ ap (λ o. and_then o (λ r. Some (merged r.0.form, r.1))) two.is,
    )

whole_is : (s : Sum) (atoms : List CheckedExpr) → IsLight s → Is (whole s atoms)
unfolding whole
whole_is s atoms l =
    let lf = l.factors in
    let lc = l.constants in
    let one = parts_formed false s.parts unformed atoms (omega arith) (omega arith) in
    ((merged one.form.form, one.atoms), ap (λ o. and_then o (λ r. Some (merged r.0.form, r.1))) one.is)

single_is : (p : Part) (atoms : List CheckedExpr) → IsLightPart p → Is (single p atoms)
unfolding single
single_is p atoms l =
    let lf = l.factors in
    let lc = l.constants in
    let one = part_formed false p unformed atoms (omega arith) (omega arith) in
    ((merged one.form.form, one.atoms), ap (λ o. and_then o (λ r. Some (merged r.0.form, r.1))) one.is)

there : {A : Type 0} (a : A) → Is (Some a)
there a = (a, refl)

term_is : (at : Sum) (new : Option Part) (atoms : List CheckedExpr) → IsLight at → IsLightNew new → Is (term at new atoms)
unfolding term
term_is at None atoms l n = then_is (whole at atoms) _ (whole_is at atoms l) (λ a. there _)
term_is at (Some p) atoms l n = then_is (whole at atoms) _ (whole_is at atoms l) (λ a. then_is (single p a.1) _ (single_is p a.1 n) (λ b. there _))

cond_is : (c : AskedCond) (atoms : List CheckedExpr) → IsLightCond c → Is (conditioned c atoms)
unfolding conditioned at_most guarded aligned non_zero equal kept
cond_is (asked.Le left right) atoms l = then_is (difference left right atoms) _ (difference_is left right atoms l.0 l.1) (λ d. there _)
cond_is (asked.Guarded left right guard) atoms l =
    then_is (difference left right atoms) _ (difference_is left right atoms l.0 l.1) (λ d. then_is (whole guard d.1) _ (whole_is guard d.1 l.2) (λ g. there _))
cond_is (asked.Aligned value low size guard) atoms l =
    then_is (difference value low atoms) _ (difference_is value low atoms l.0 l.1) (λ d. then_is (whole guard d.1) _ (whole_is guard d.1 l.2) (λ g. there _))
cond_is (asked.NonZero p) atoms l = then_is (single p atoms) _ (single_is p atoms l) (λ f. there _)
cond_is (asked.Equal p z) atoms l = then_is (single p atoms) _ (single_is p atoms l) (λ f. there _)
cond_is (asked.Term at new) atoms l = term_is at new atoms l.0 l.1
cond_is (asked.Kept old new at size) atoms l =
    then_is (single new atoms) _ (single_is new atoms l.1)
    (λ n. then_is (single old n.1) _ (single_is old n.1 l.0) (λ o. then_is (whole at o.1) _ (whole_is at o.1 l.2) (λ a. there _)))

checks_are : (asked : List Asked) → All IsLightCheck asked → (before : Numbered) → Is (numbered asked before)
unfolding with_check
checks_are [] l before = there before
checks_are (q ∷ qs) l before =
    then_is (with_check before q) _ (map_is (conditioned q.cond before.atoms) _ (cond_is q.cond before.atoms (All-head IsLightCheck q qs l)))
    (λ more. checks_are qs (All-tail IsLightCheck q qs l) more)

-- light checks have numbers
pub numbers_of : (asked : List Asked) → All IsLightCheck asked → (before : Numbered) → numbered asked before ≢ None
numbers_of asked l before none = let r = checks_are asked l before in absurd cc
