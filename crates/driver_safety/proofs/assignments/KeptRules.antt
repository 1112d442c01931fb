-- Tags and terminators: what the checks Change of a tag and Term say.
use Rattle.std.proofs.Common.{◌≡◌, ◌⊎◌, inl, inr, ℕ, IsTrue, Bool, true, false, not, ◌||◌, List, []}
use Rattle.std.proofs.Common.{◌∷◌, ℤ, pos, negsuc, ◌+ℤ◌, ◌*ℤ◌, neg_ℤ, Option, Some, refl, sym, ap, ◌∙◌, subst, arith}
use Rattle.std.specs.Ordering.{int_eq}
use Rattle.std.proofs.Math.IntN.{*ℤ_comm}
use Rattle.std.proofs.lemmas.Bool.Decides.{Decides-int_eq}
use Rattle.std.proofs.lemmas.Int.{ints}
use Rattle.dep_expr.proofs.Integers.{neg-mul}
use Rattle.sd_base.specs.declared.kinds.CheckKind.TheVariants as kind
use Rattle.checked_tree.specs.declared.shapes.Scalar.{Scalar}
use Rattle.checked_tree.specs.declared.shapes.UnionShape.{UnionShape}
use Rattle.checked_tree.specs.declared.sums.Part.{Part}
use Rattle.checked_tree.specs.declared.sums.Part.TheVariants.{Constant}
use Rattle.checked_tree.specs.declared.sums.Sum.{Sum}
use Rattle.checked_tree.specs.declared.units.CheckedFn.{CheckedFn}
use Rattle.checked_tree.specs.Conditions.{State}
use Rattle.checked_tree.specs.Eval.{test, check_of}
use Rattle.deputy_rules.specs.declared.asked.AskedCond.TheVariants as asked
use Rattle.deputy_rules.specs.declared.derived.Place.{Place}
use Rattle.deputy_rules.specs.Changes.{union_address, loaded, ask_kept, optional_kept, tag_change, tagged, unions_of}
use Rattle.deputy_rules.specs.Context.{Context}
use Rattle.deputy_rules.specs.Deriving.{ask}
use Rattle.deputy_rules.specs.Sums.{beyond}
use Rattle.deputy_rules.specs.SumValues.{part_at, PartHasValue, HasValue}
use Rattle.driver_safety.specs.Passing.{sum_at, IsInside, clear_at, IsTested}
use Rattle.driver_safety.proofs.checks.Evaluations.{safe_weaker, Pass, pass_one}
use Rattle.driver_safety.proofs.checks.Sounding.{Sound, then_sound, pure_sound, ask_sound, weaker}
use Rattle.deputy_rules.proofs.SumsHave.{has_beyond, has_with_part}

module _ (f : CheckedFn) (ctx : Context) (st : State) where
  -- the address of a union, from that of its tag
  address_has : (at : Sum) (a : ℤ) (tag part : ℕ) → HasValue st at a → HasValue st (union_address at tag part) ((a +ℤ pos part) +ℤ neg_ℤ
      (pos tag))
  unfolding union_address
  address_has at a tag part h =
      let minus : negsuc 0 *ℤ pos tag ≡ neg_ℤ (pos tag) = neg-mul (pos 1) (pos tag) ∙ ap neg_ℤ (one (pos tag)) in
      has_with_part st (beyond at (pos part)) (Constant (negsuc 0) (pos tag)) (a +ℤ pos part) (neg_ℤ (pos tag))
      (has_beyond st at a (pos part) h) tt minus
    where
      one : (z : ℤ) → pos 1 *ℤ z ≡ z
      one z = omega (arith, ints, *ℤ_comm (pos 1) z)

  -- the tag keeps its value, or its union is clear
  abbrev pub KeepsTag : Place → ℕ → Scalar → Part → UnionShape → List ℕ → Type 0
  KeepsTag p offset scalar new u ids = (a : ℤ) → HasValue st p.at a → PartHasValue st (loaded scalar p) → PartHasValue st new
      → IsInside st ((a +ℤ pos u.offset) +ℤ neg_ℤ (pos offset)) u.size
      → Pass f st ids ((part_at st (loaded scalar p) ≡ part_at st new) ⊎ IsTrue (clear_at st ((a +ℤ pos u.offset) +ℤ neg_ℤ (pos offset))
      u.size))

  kept_sound : (p : Place) (offset : ℕ) (scalar : Scalar) (new : Part) (u : UnionShape) → Sound f st ctx.first
      (ask_kept ctx p offset scalar new u) (KeepsTag p offset scalar new u)
  unfolding ask_kept
  kept_sound p offset scalar new u =
      then_sound f st ctx.first _ _ _ _ (ask_sound f st ctx kind.Change (asked.Kept (loaded scalar p) new (union_address p.at offset
      u.offset) u.size)) (λ id. pure_sound f st ctx.first (id ∷ []) _
      (λ tested a h old fresh inside.
      let at = address_has p.at a offset u.offset h in
      pass_one f st id _ (safe_weaker (test f st (check_of f id)) _ _
      (tested.tested (old, fresh, at.read, subst (λ (z : ℤ). IsInside st z u.size) (sym at.is) inside))
      (λ v e passed. subst (λ (z : ℤ). (part_at st (loaded scalar p) ≡ part_at st new) ⊎ IsTrue (clear_at st z u.size)) at.is passed))))

  pub tag_sound : (p : Place) (s m offset : ℕ) (scalar : Scalar) (new : Part) (u : UnionShape) → tagged (unions_of ctx.table s) m ≡ Some u
      → Sound f st ctx.first (tag_change ctx p s m offset scalar new) (KeepsTag p offset scalar new u)
  unfolding tag_change
  tag_sound p s m offset scalar new u is =
      subst (λ (o : Option UnionShape). Sound f st ctx.first (optional_kept ctx p offset scalar new o) (KeepsTag p offset scalar new u))
      (sym is) (kept_sound p offset scalar new u)

  -- a byte of text is not 0, or the new one is
  pub term_sound : (at : Sum) (new : Part) → Sound f st ctx.first (ask ctx kind.Term (asked.Term at (Some new)))
      (λ id. (a z : ℤ) → HasValue st at a → PartHasValue st new → part_at st new ≡ z → IsInside st a 1 → Pass f st (id ∷ [])
      ((clear_at st a 1 ≡ false) ⊎ (z ≡ pos 0)))
  term_sound at new = weaker' (ask_sound f st ctx kind.Term (asked.Term at (Some new)))
    where
      either : (a z : ℤ) → (not (clear_at st a 1) || int_eq z (pos 0)) ≡ true → (clear_at st a 1 ≡ false) ⊎ (z ≡ pos 0)
      either a z h = by (clear_at st a 1) refl h
        where
          by : (b : Bool) → clear_at st a 1 ≡ b → (not b || int_eq z (pos 0)) ≡ true → (clear_at st a 1 ≡ false) ⊎ (z ≡ pos 0)
          by false e h = inl e
          by true e h = inr ((Decides-int_eq z (pos 0)).0 h)

      weaker' : Sound f st ctx.first (ask ctx kind.Term (asked.Term at (Some new))) (λ id. IsTested f st id (asked.Term at (Some new)))
          → Sound f st ctx.first (ask ctx kind.Term (asked.Term at (Some new))) (λ id. (a z : ℤ) → HasValue st at a → PartHasValue st new
          → part_at st new ≡ z → IsInside st a 1 → Pass f st (id ∷ []) ((clear_at st a 1 ≡ false) ⊎ (z ≡ pos 0)))
      weaker' h = weaker f st ctx.first _ _ _ (λ id tested a z at_is has is inside. pass_one f st id _
          (safe_weaker (test f st (check_of f id)) _ _
          (tested.tested (at_is.read, has, subst (λ (y : ℤ). IsInside st y 1) (sym at_is.is) inside))
          (λ v e passed. either a z (subst (λ (y : ℤ). (not (clear_at st y 1) || int_eq z (pos 0)) ≡ true) at_is.is
          (subst (λ (y : ℤ). (not (clear_at st (sum_at st at) 1) || int_eq y (pos 0)) ≡ true) is passed))))) h
