-- The value of sums.
use Rattle.std.proofs.Common.{◌≡◌, ℕ, IsTrue, List, [], ◌∷◌, ◌++◌, map, ℤ, pos, ◌+ℤ◌, ◌*ℤ◌, int_le, Ok, refl, sym, ap, ◌∙◌, subst, arith}
use Rattle.std.proofs.Math.IntN.{*ℤ_comm}
use Rattle.std.proofs.lemmas.Int.{ints}
use Rattle.checked_tree.specs.declared.expressions.CheckedExpr.{CheckedExpr}
use Rattle.checked_tree.specs.declared.sums.Part.{Part}
use Rattle.checked_tree.specs.declared.sums.Part.TheVariants.{Constant, Atom}
use Rattle.checked_tree.specs.declared.sums.Sum.{Sum}
use Rattle.checked_tree.specs.Bare.{bare}
use Rattle.checked_tree.specs.Numbers.{is_value}
use Rattle.checked_tree.specs.Outcome.{Got}
use Rattle.checked_tree.specs.Conditions.{State, peek}
use Rattle.deputy_rules.specs.Sums.{constant, atom, atom_part, beyond, with_part, plus}
use Rattle.deputy_rules.specs.SumValues.{got_or_zero, part_at, parts_at, PartHasValue, HaveValues, HasValue}
use Rattle.deputy_rules.proofs.BareValues.{peek_bare}

module _ (st : State) where
  one_times : (z : ℤ) → pos 1 *ℤ z ≡ z
  one_times z = omega (arith, ints, *ℤ_comm (pos 1) z)

  pub have_both : (a b : List Part) → HaveValues st a → HaveValues st b → HaveValues st (a ++ b)
  have_both [] b h k = k
  have_both (p ∷ a) b h k = (h.0, have_both a b h.1 k)

  pub parts_both : (a b : List Part) → parts_at st (a ++ b) ≡ parts_at st a +ℤ parts_at st b
  unfolding parts_at
  parts_both [] b = omega (arith, ints)
  parts_both (p ∷ a) b = omega (arith, ints, parts_both a b)

  parts_one : (p : Part) → parts_at st (p ∷ []) ≡ part_at st p
  unfolding parts_at
  parts_one p = omega (arith, ints)

  pub has_part : (p : Part) (z : ℤ) → PartHasValue st p → part_at st p ≡ z → HasValue st (record { parts = p ∷ [] }) z
  has_part p z h e = record { read = (h, tt); is = parts_one p ∙ e }

  pub has_with_part : (a : Sum) (p : Part) (z w : ℤ) → HasValue st a z → PartHasValue st p → part_at st p ≡ w → HasValue st (with_part a p) (z +ℤ w)
  has_with_part a p z w h k e = record {
    read = have_both a.parts (p ∷ []) h.read (k, tt);
    is = omega (arith, ints, parts_both a.parts (p ∷ []), parts_one p, h.is, e);
  }

  pub has_beyond : (a : Sum) (z n : ℤ) → HasValue st a z → HasValue st (beyond a n) (z +ℤ n)
  has_beyond a z n h = has_with_part a (Constant (pos 1) n) z n h tt (one_times n)

  pub has_constant : (n : ℤ) → HasValue st (constant n) n
  has_constant n = has_part (Constant (pos 1) n) n tt (one_times n)

  -- an expression that has a value
  pub atom_is : (e : CheckedExpr) (v : ℤ) → peek st e ≡ Ok v → part_at st (atom_part e) ≡ v
  atom_is e v h = ap (λ (g : Got). pos 1 *ℤ got_or_zero g) (peek_bare st e ∙ h) ∙ one_times v

  pub atom_reads : (e : CheckedExpr) (v : ℤ) → peek st e ≡ Ok v → IsTrue (is_value v) → PartHasValue st (atom_part e)
  atom_reads e v h w = (v, peek_bare st e ∙ h, w)

  pub has_atom : (e : CheckedExpr) (v : ℤ) → peek st e ≡ Ok v → IsTrue (is_value v) → HasValue st (atom e) v
  has_atom e v h w = has_part (atom_part e) v (atom_reads e v h w) (atom_is e v h)

  -- an expression that is bare already
  pub has_bare : (e : CheckedExpr) (v : ℤ) → peek st e ≡ Ok v → IsTrue (is_value v) → HasValue st (record { parts = Atom (pos 1) e ∷ [] }) v
  has_bare e v h w = has_part (Atom (pos 1) e) v (v, h, w) (ap (λ (g : Got). pos 1 *ℤ got_or_zero g) h ∙ one_times v)

  -- two sums that were compared
  pub compared_is : (a b : Sum) (x y : ℤ) → HasValue st a x → HasValue st b y → IsTrue (int_le (parts_at st a.parts) (parts_at st b.parts)) → IsTrue (int_le x y)
  compared_is a b x y h k l = subst (λ (u : ℤ). IsTrue (int_le u y)) h.is (subst (λ (u : ℤ). IsTrue (int_le (parts_at st a.parts) u)) k.is l)
