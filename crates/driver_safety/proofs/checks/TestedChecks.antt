-- Each check that was numbered tests the condition that was asked for.
use Rattle.std.proofs.Common.{◌≡◌, ◌⊎◌, inl, inr, ℕ, zero, suc, ◌+◌, ◌-◌, IsTrue, Bool, true, false, not, ◌||◌, ◌==◌, if◌then◌else◌}
use Rattle.std.proofs.Common.{List, [], ◌∷◌, ◌++◌, length, ℤ, pos, ◌-ℤ◌, int_le, Option, Some, None, option_map, Ok, slice_get}
use Rattle.std.proofs.Common.{refl, sym, ap, ◌∙◌, subst, arith}
use Rattle.std.specs.List.{list_all}
use Rattle.std.specs.Ordering.{int_eq}
use Rattle.byte_memory.specs.Bytes.{bytes_at}
use Rattle.std.proofs.lemmas.Int.{ints}
use Rattle.std.proofs.lemmas.Bool.Decides.{Decides-int_eq, Decides-eqb}
use Rattle.dep_expr.specs.Linear.{LinearForm}
use Rattle.checked_tree.specs.declared.checks.Check.{Check}
use Rattle.checked_tree.specs.declared.checks.Cond.{Cond}
use Rattle.checked_tree.specs.declared.checks.Cond.TheVariants as cond
use Rattle.checked_tree.specs.declared.expressions.CheckedExpr.{CheckedExpr}
use Rattle.checked_tree.specs.declared.sums.Part.{Part}
use Rattle.checked_tree.specs.declared.sums.Sum.{Sum}
use Rattle.checked_tree.specs.declared.units.CheckedFn.{CheckedFn}
use Rattle.checked_tree.specs.Memory.{reached, read, is_clear}
use Rattle.checked_tree.specs.Outcome.{Outcome, Got, ◌>>=◌, Safe}
use Rattle.checked_tree.specs.Conditions.{State, form_value, optional_value, condition, is_excused, is_multiple, is_end}
use Rattle.checked_tree.specs.Eval.{test, check_of, or_fails}
use Rattle.checked_tree.proofs.Outcomes.{safe_bind}
use Rattle.deputy_rules.specs.declared.asked.Asked.{Asked}
use Rattle.deputy_rules.specs.declared.asked.AskedCond.{AskedCond}
use Rattle.deputy_rules.specs.declared.asked.AskedCond.TheVariants as asked
use Rattle.deputy_rules.specs.Numbering.{Numbered, difference, whole, single, at_most, guarded, aligned, non_zero, equal, term, kept}
use Rattle.deputy_rules.specs.Numbering.{conditioned, with_cond, with_check, numbered}
use Rattle.deputy_types.specs.Options.{and_then}
use Rattle.deputy_types.proofs.Inversions.{some_then, some_map}
use Rattle.deputy_rules.specs.SumValues.{part_at, parts_at}
use Rattle.driver_safety.specs.Passing.{IsFront, sum_at, place_of, IsInside, clear_at, new_at, HasSides, Passes, IsTested, AreTested}
use Rattle.driver_safety.proofs.checks.Evaluations.{safe_same}
use Rattle.driver_safety.proofs.checks.Reached.{reached_is}
use Rattle.driver_safety.proofs.checks.NumberedChecks.{difference_value, whole_value, single_value}
use Rattle.driver_safety.proofs.checks.Sounding.{front_same, front_front, get_front, get_last}

some_same : {A : Type 0} (a b : A) → ◌≡◌ {A = Option A} (Some a) (Some b) → a ≡ b
some_same a b h = cc

le_gap : (x y : ℤ) → IsTrue (int_le (x -ℤ y) (pos 0)) → IsTrue (int_le x y)
le_gap x y h = grind (arith, ints)

module _ (st : State) (all : List CheckedExpr) where
  abbrev Means : AskedCond → Cond → Type 0
  Means c d = HasSides st c → Safe (condition all st d) (λ b. b ≡ true → Passes st c)

  either : (g : ℤ) (b : Bool) → (int_eq g (pos 0) || b) ≡ true → (g ≡ pos 0) ⊎ IsTrue b
  either g b h = by (int_eq g (pos 0)) refl h
    where
      by : (x : Bool) → int_eq g (pos 0) ≡ x → (x || b) ≡ true → (g ≡ pos 0) ⊎ IsTrue b
      by true e h = inl ((Decides-int_eq g (pos 0)).0 e)
      by false e h = inr h

  le_means : (left right : Sum) (l : LinearForm) → form_value all st l ≡ Ok (parts_at st left.parts -ℤ parts_at st right.parts)
      → Safe (condition all st (cond.Le (record { left = l; guard = None }))) (λ b. b ≡ true → Passes st (asked.Le left right))
  unfolding condition
  le_means left right l h = safe_same _ _ _ (ap (λ (g : Got). g >>= λ v. Ok (int_le v (pos 0))) h) (λ e. le_gap (parts_at st left.parts)
      (parts_at st right.parts) e)

  guarded_means : (left right guard : Sum) (l g : LinearForm) → form_value all st l ≡ Ok (parts_at st left.parts -ℤ parts_at st
      right.parts) → form_value all st g ≡ Ok (parts_at st guard.parts)
      → Safe (condition all st (cond.Le (record { left = l; guard = Some g }))) (λ b. b ≡ true → Passes st (asked.Guarded left right guard))
  unfolding condition
  guarded_means left right guard l g h k =
      safe_same _ _ _ (ap (λ (x : Got). x >>= λ v. optional_value all st (Some g) >>= λ w. Ok (is_excused w || int_le v (pos 0))) h
      ∙ ap (λ (x : Got). (x >>= λ v. Ok (Some v)) >>= λ w. Ok (is_excused w || int_le (parts_at st left.parts -ℤ parts_at st right.parts)
      (pos 0))) k)
      (λ e. gap (either (parts_at st guard.parts) (int_le (parts_at st left.parts -ℤ parts_at st right.parts) (pos 0)) e))
    where
      gap : (parts_at st guard.parts ≡ pos 0) ⊎ IsTrue (int_le (parts_at st left.parts -ℤ parts_at st right.parts) (pos 0))
          → Passes st (asked.Guarded left right guard)
      gap (inl z) = inl z
      gap (inr l) = inr (le_gap (parts_at st left.parts) (parts_at st right.parts) l)

  aligned_means : (value low : Sum) (size : ℕ) (guard : Sum) (l g : LinearForm) → form_value all st l ≡ Ok (parts_at st value.parts -ℤ
      parts_at st low.parts) → form_value all st g ≡ Ok (parts_at st guard.parts)
      → Safe (condition all st (cond.Aligned l size g)) (λ b. b ≡ true → Passes st (asked.Aligned value low size guard))
  unfolding condition
  aligned_means value low size guard l g h k =
      safe_same _ _ _ (ap (λ (x : Got). x >>= λ v. form_value all st g >>= λ w. Ok (int_eq w (pos 0) || is_multiple v size)) h
      ∙ ap (λ (x : Got). x >>= λ w. Ok (int_eq w (pos 0) || is_multiple (parts_at st value.parts -ℤ parts_at st low.parts) size)) k)
      (λ e. either (parts_at st guard.parts) (is_multiple (parts_at st value.parts -ℤ parts_at st low.parts) size) e)

  zero_means : (p : Part) (l : LinearForm) → form_value all st l ≡ Ok (part_at st p) → Safe (condition all st (cond.NonZero l))
      (λ b. b ≡ true → Passes st (asked.NonZero p))
  unfolding condition
  zero_means p l h = safe_same _ _ _ (ap (λ (x : Got). x >>= λ v. Ok (not (int_eq v (pos 0)))) h)
      (λ e z. by (int_eq (part_at st p) (pos 0)) e ((Decides-int_eq (part_at st p) (pos 0)).1 z))
    where
      by : (b : Bool) → not b ≡ true → b ≡ true → ⊥
      by true h k = absurd cc
      by false h k = absurd cc

  equal_means : (p : Part) (z : ℤ) (l : LinearForm) → form_value all st l ≡ Ok (part_at st p) → Safe (condition all st (cond.Equal l z))
      (λ b. b ≡ true → Passes st (asked.Equal p z))
  unfolding condition
  equal_means p z l h = safe_same _ _ _ (ap (λ (x : Got). x >>= λ v. Ok (int_eq v z)) h) (λ e. (Decides-int_eq (part_at st p) z).0 e)

  clear_is : (z : ℤ) (n : ℕ) → IsInside st z n → is_clear st.memory z n ≡ Ok (clear_at st z n)
  unfolding is_clear read
  clear_is z n i = subst (λ (x : ℤ). ((reached st.memory x n >>= λ a. Ok (bytes_at st.memory.bytes a n)) >>= λ bytes. Ok
      (list_all (λ b. b == 0) bytes)) ≡ Ok (clear_at st z n)) (sym i.is)
      (ap (λ (r : Outcome ℕ). (r >>= λ a. Ok (bytes_at st.memory.bytes a n)) >>= λ bytes. Ok (list_all (λ b. b == 0) bytes))
      (reached_is st.memory (place_of z) n i.small i.inside))

  term_means : (at : Sum) (new : Option Part) (l : LinearForm) (o : Option LinearForm) → form_value all st l ≡ Ok (parts_at st at.parts)
      → optional_value all st o ≡ Ok (new_at st new)
      → IsInside st (sum_at st at) 1 → Safe (condition all st (cond.Term l o)) (λ b. b ≡ true → Passes st (asked.Term at new))
  unfolding condition
  term_means at new l o h k i =
      safe_same _ _ _ (ap (λ (x : Got). x >>= λ a. optional_value all st o >>= λ n. is_clear st.memory a 1 >>= λ clear. Ok
      (not clear || is_end n)) h
      ∙ ap (λ (x : Outcome (Option ℤ)). x >>= λ n. is_clear st.memory (parts_at st at.parts) 1 >>= λ clear. Ok (not clear || is_end n)) k
      ∙ ap (λ (x : Outcome Bool). x >>= λ clear. Ok (not clear || is_end (new_at st new))) (clear_is (sum_at st at) 1 i))
      (λ e. e)

  kept_means : (old new : Part) (at : Sum) (size : ℕ) (l m n : LinearForm) → form_value all st l ≡ Ok (part_at st old)
      → form_value all st m ≡ Ok (part_at st new) → form_value all st n ≡ Ok (parts_at st at.parts)
      → IsInside st (sum_at st at) size → Safe (condition all st (cond.Kept l m n size)) (λ b. b ≡ true
      → Passes st (asked.Kept old new at size))
  unfolding condition
  kept_means old new at size l m n h k j i =
      safe_same _ _ _ (ap (λ (x : Got). x >>= λ t. form_value all st m >>= λ n'. form_value all st n >>= λ a. (if int_eq t n' then Ok true
      else is_clear st.memory a size)) h
      ∙ ap (λ (x : Got). x >>= λ n'. form_value all st n >>= λ a. (if int_eq (part_at st old) n' then Ok true else is_clear st.memory a
      size)) k
      ∙ ap (λ (x : Got). x >>= λ a. (if int_eq (part_at st old) (part_at st new) then Ok true else is_clear st.memory a size)) j
      ∙ ap (λ (x : Outcome Bool). if int_eq (part_at st old) (part_at st new) then Ok true else x) (clear_is (sum_at st at) size i))
      (by (int_eq (part_at st old) (part_at st new)) refl)
    where
      by : (b : Bool) → int_eq (part_at st old) (part_at st new) ≡ b → Safe (if b then Ok true else Ok (clear_at st (sum_at st at) size))
          (λ b. b ≡ true → Passes st (asked.Kept old new at size))
      by true e = λ u. inl ((Decides-int_eq (part_at st old) (part_at st new)).0 e)
      by false e = λ u. inr u

  abbrev Grows : List CheckedExpr → List CheckedExpr → Type 0 → Type 0
  Grows atoms now P = IsFront atoms now × (IsFront now all → P)

  -- what is numbered, with its last part known
  move : (P : Cond → Type 0) (atoms now last : List CheckedExpr) (c d : Cond) → ◌≡◌ {A = Cond × List CheckedExpr} (c, last) (d, now)
      → Grows atoms last (P c) → Grows atoms now (P d)
  move P atoms now last c d same h =
      let e : last ≡ now = ap (λ (x : Cond × List CheckedExpr). x.1) same in (
        subst (λ (x : List CheckedExpr). IsFront atoms x) e h.0,
        λ front. subst P (ap (λ (x : Cond × List CheckedExpr). x.0) same)
            (h.1 (subst (λ (x : List CheckedExpr). IsFront x all) (sym e) front)),
      )

  pub cond_means : (c : AskedCond) (atoms : List CheckedExpr) (d : Cond) (now : List CheckedExpr) → conditioned c atoms ≡ Some (d, now)
      → Grows atoms now (Means c d)
  unfolding conditioned at_most guarded aligned non_zero equal term kept
  cond_means (asked.Le left right) atoms d now h =
      let a = some_then (difference left right atoms) (λ d. Some (cond.Le (record { left = d.0; guard = None }), d.1)) (d, now) h in
      let one = difference_value st all left right atoms a.0.0 a.0.1 a.1 in
      move (λ d. Means (asked.Le left right) d) atoms now a.0.1 (cond.Le (record { left = a.0.0; guard = None })) d (some_same _ _ a.2)
      (one.0, λ front s. le_means left right a.0.0 (one.1 front s.0 s.1))
  cond_means (asked.Guarded left right guard) atoms d now h =
      let a = some_then (difference left right atoms) (λ d. and_then (whole guard d.1)
      (λ g. Some (cond.Le (record { left = d.0; guard = Some g.0 }), g.1))) (d, now) h in
      let b = some_then (whole guard a.0.1) (λ g. Some (cond.Le (record { left = a.0.0; guard = Some g.0 }), g.1)) (d, now) a.2 in
      let one = difference_value st all left right atoms a.0.0 a.0.1 a.1 in
      let two = whole_value st all guard a.0.1 b.0.0 b.0.1 b.1 in
      move (λ d. Means (asked.Guarded left right guard) d) atoms now b.0.1 (cond.Le (record { left = a.0.0; guard = Some b.0.0 })) d
      (some_same _ _ b.2) (
        front_front atoms a.0.1 b.0.1 one.0 two.0,
        λ front s. guarded_means left right guard a.0.0 b.0.0
            (one.1 (front_front a.0.1 b.0.1 all two.0 front) s.0 s.1) (two.1 front s.2),
      )
  cond_means (asked.Aligned value low size guard) atoms d now h =
      let a = some_then (difference value low atoms) (λ d. and_then (whole guard d.1) (λ g. Some (cond.Aligned d.0 size g.0, g.1)))
      (d, now) h in
      let b = some_then (whole guard a.0.1) (λ g. Some (cond.Aligned a.0.0 size g.0, g.1)) (d, now) a.2 in
      let one = difference_value st all value low atoms a.0.0 a.0.1 a.1 in
      let two = whole_value st all guard a.0.1 b.0.0 b.0.1 b.1 in
      move (λ d. Means (asked.Aligned value low size guard) d) atoms now b.0.1 (cond.Aligned a.0.0 size b.0.0) d (some_same _ _ b.2) (
        front_front atoms a.0.1 b.0.1 one.0 two.0,
        λ front s. aligned_means value low size guard a.0.0 b.0.0
            (one.1 (front_front a.0.1 b.0.1 all two.0 front) s.0 s.1) (two.1 front s.2),
      )
  cond_means (asked.NonZero q) atoms d now h =
      let a = some_then (single q atoms) (λ f. Some (cond.NonZero f.0, f.1)) (d, now) h in
      let one = single_value st all q atoms a.0.0 a.0.1 a.1 in
      move (λ d. Means (asked.NonZero q) d) atoms now a.0.1 (cond.NonZero a.0.0) d (some_same _ _ a.2) (
        one.0,
        λ front s. zero_means q
            a.0.0 (one.1 front s),
      )
  cond_means (asked.Equal q z) atoms d now h =
      let a = some_then (single q atoms) (λ f. Some (cond.Equal f.0 z, f.1)) (d, now) h in
      let one = single_value st all q atoms a.0.0 a.0.1 a.1 in
      move (λ d. Means (asked.Equal q z) d) atoms now a.0.1 (cond.Equal a.0.0 z) d (some_same _ _ a.2) (
        one.0,
        λ front s. equal_means q z
            a.0.0 (one.1 front s),
      )
  cond_means (asked.Term at None) atoms d now h =
      let a = some_then (whole at atoms) (λ a. Some (cond.Term a.0 None, a.1)) (d, now) h in
      let one = whole_value st all at atoms a.0.0 a.0.1 a.1 in
      move (λ d. Means (asked.Term at None) d) atoms now a.0.1 (cond.Term a.0.0 None) d (some_same _ _ a.2) (
        one.0,
        λ front s. term_means
            at None a.0.0 None (one.1 front s.0) refl s.2,
      )
  cond_means (asked.Term at (Some p)) atoms d now h =
      let a = some_then (whole at atoms) (λ a. and_then (single p a.1) (λ n. Some (cond.Term a.0 (Some n.0), n.1))) (d, now) h in
      let b = some_then (single p a.0.1) (λ n. Some (cond.Term a.0.0 (Some n.0), n.1)) (d, now) a.2 in
      let one = whole_value st all at atoms a.0.0 a.0.1 a.1 in
      let two = single_value st all p a.0.1 b.0.0 b.0.1 b.1 in
      move (λ d. Means (asked.Term at (Some p)) d) atoms now b.0.1 (cond.Term a.0.0 (Some b.0.0)) d (some_same _ _ b.2) (
        front_front atoms a.0.1 b.0.1 one.0 two.0,
        λ front s.
            term_means at (Some p) a.0.0 (Some b.0.0) (one.1 (front_front a.0.1 b.0.1 all two.0 front) s.0)
            (ap (λ (x : Got). x >>= λ v. Ok (Some v)) (two.1 front s.1)) s.2,
      )
  cond_means (asked.Kept old new at size) atoms d now h =
      let a = some_then (single new atoms) (λ n. and_then (single old n.1) (λ o. and_then (whole at o.1)
      (λ a. Some (cond.Kept o.0 n.0 a.0 size, a.1)))) (d, now) h in
      let b = some_then (single old a.0.1) (λ o. and_then (whole at o.1) (λ x. Some (cond.Kept o.0 a.0.0 x.0 size, x.1))) (d, now) a.2 in
      let c = some_then (whole at b.0.1) (λ x. Some (cond.Kept b.0.0 a.0.0 x.0 size, x.1)) (d, now) b.2 in
      let one = single_value st all new atoms a.0.0 a.0.1 a.1 in
      let two = single_value st all old a.0.1 b.0.0 b.0.1 b.1 in
      let three = whole_value st all at b.0.1 c.0.0 c.0.1 c.1 in
      move (λ d. Means (asked.Kept old new at size) d) atoms now c.0.1 (cond.Kept b.0.0 a.0.0 c.0.0 size) d (some_same _ _ c.2) (
        front_front atoms a.0.1 c.0.1 one.0 (front_front a.0.1 b.0.1 c.0.1 two.0 three.0),
        λ front s.
            let last = front_front b.0.1 c.0.1 all three.0 front in
            kept_means old new at size b.0.0 a.0.0 c.0.0 (two.1 last s.0) (one.1 (front_front a.0.1 b.0.1 all two.0 last) s.1)
            (three.1 front s.2) s.3,
      )

-- ---- checks in a row
module _ (f : CheckedFn) (st : State) where
  pub record AreNumbered (n out : Numbered) (qs : List Asked) : Type 0 where
    pub atoms : IsFront n.atoms out.atoms
    pub checks : IsFront n.checks out.checks
    pub tested : IsFront out.atoms f.atoms → IsFront out.checks f.checks → AreTested f st (length n.checks) qs

  -- checks are numbered from 1
  numbered_at : (checks : List Check) (k : ℕ) (check : Check) → slice_get checks k ≡ Some check
      → (b : Bool) → (k + 1 == 0) ≡ b → (if b then None else slice_get checks (k + 1 - 1)) ≡ Some check
  numbered_at checks k check h true e = let none : k + 1 ≡ 0 = (Decides-eqb (k + 1) 0).0 e in absurd (omega (arith, none))
  numbered_at checks k check h false e = let same : k ≡ k + 1 - 1 = omega arith in subst (λ (i : ℕ). slice_get checks i ≡ Some check) same h

  -- a check that stands in the function, and tests a condition
  stands : (q : Asked) (d : Cond) (k : ℕ) (check : Check) → check.cond ≡ d → slice_get f.checks k ≡ Some check
      → (HasSides st q.cond → Safe (condition f.atoms st d) (λ b. b ≡ true → Passes st q.cond))
      → IsTested f st (k + 1) q.cond
  stands q d k check e h means = record {
    tested = λ s. safe_same _ _ _ (ap (test f st) there)
        (safe_bind (condition f.atoms st check.cond) (or_fails check) (λ b. b ≡ true → Passes st q.cond) (λ _. Passes st q.cond)
        (subst (λ (c : Cond). Safe (condition f.atoms st c) (λ b. b ≡ true → Passes st q.cond)) (sym e) (means s)) by);
  }
    where
      there : check_of f (k + 1) ≡ Some check
      there = numbered_at f.checks k check h (k + 1 == 0) refl

      by : (b : Bool) → (b ≡ true → Passes st q.cond) → Safe (or_fails check b) (λ _. Passes st q.cond)
      by true p = p refl
      by false p = tt

  length_more : (checks : List Check) (c : Check) → length (checks ++ c ∷ []) ≡ length checks + 1
  length_more [] c = refl
  length_more (x ∷ xs) c = let rest = length_more xs c in omega (arith, rest)

  first_is : (q x : Asked) → ◌≡◌ {A = Option Asked} (Some q) (Some x) → q ≡ x
  first_is q x h = cc

  pub numbered_tested : (qs : List Asked) (n out : Numbered) → numbered qs n ≡ Some out → AreNumbered n out qs
  unfolding with_check
  numbered_tested [] n out h =
      let same : n ≡ out = some_same n out h in
      record {
        atoms = front_same n.atoms out.atoms (ap (λ (x : Numbered). x.atoms) same);
        checks = front_same n.checks out.checks (ap (λ (x : Numbered). x.checks) same);
        tested = λ a c. record { each = λ k q e. absurd cc };
      }
  numbered_tested (q ∷ qs) n out h =
      let a = some_then (with_check n q) (λ more. numbered qs more) out h in
      one a.0 (some_map (conditioned q.cond n.atoms) (with_cond q n.checks) a.0 (opened a.0 a.1)) (numbered_tested qs a.0 out a.2)
    where
      opened : (more : Numbered) → with_check n q ≡ Some more → option_map (with_cond q n.checks) (conditioned q.cond n.atoms) ≡ Some more
      opened more e = e

      one : (more : Numbered) → (c : Cond × List CheckedExpr) × (conditioned q.cond n.atoms ≡ Some c) × (with_cond q n.checks c ≡ more)
          → AreNumbered more out qs → AreNumbered n out (q ∷ qs)
      one more c rest =
          let means = cond_means st f.atoms q.cond n.atoms c.0.0 c.0.1 c.1 in
          let check : Check = record { id = length n.checks + 1; line = q.line; kind = q.kind; cond = c.0.0 } in
          let atoms_are : c.0.1 ≡ more.atoms = ap (λ (x : Numbered). x.atoms) c.2 in
          let checks_are : n.checks ++ check ∷ [] ≡ more.checks = ap (λ (x : Numbered). x.checks) c.2 in
          let front : IsFront c.0.1 out.atoms = subst (λ (l : List CheckedExpr). IsFront l out.atoms) (sym atoms_are) rest.atoms in
          let longer : IsFront (n.checks ++ check ∷ []) out.checks = subst (λ (l : List Check). IsFront l out.checks) (sym checks_are)
          rest.checks in
          let count : length n.checks + 1 ≡ length more.checks = sym (length_more n.checks check) ∙ ap (λ (l : List Check). length l)
          checks_are in
          record {
            atoms = front_front n.atoms c.0.1 out.atoms means.0 front;
            checks = front_front n.checks (n.checks ++ check ∷ []) out.checks (check ∷ [], refl) longer;
            tested = λ fa fc.
                let now : IsFront (n.checks ++ check ∷ []) f.checks = front_front (n.checks ++ check ∷ []) out.checks f.checks longer fc in
                let here : slice_get f.checks (length n.checks) ≡ Some check = subst (λ (l : List Check). slice_get l (length n.checks) ≡
                Some check) (sym now.1)
                (get_front (n.checks ++ check ∷ []) now.0 (length n.checks) check (get_last n.checks check)) in
                let own : IsTested f st (length n.checks + 1) q.cond = stands q c.0.0 (length n.checks) check refl here
                (means.1 (front_front c.0.1 out.atoms f.atoms front fa)) in
                let others = rest.tested fa fc in
                record { each = λ k x e. by (length more.checks) count own others k x e };
          }
        where
          by : (m : ℕ) → length n.checks + 1 ≡ m → IsTested f st (length n.checks + 1) q.cond → AreTested f st m qs → (k : ℕ) (x : Asked)
              → slice_get (q ∷ qs) k ≡ Some x → IsTested f st (length n.checks + (k + 1)) x.cond
          by m e own others zero x g = let at : length n.checks + 1 ≡ length n.checks + (0 + 1) = omega arith in
              subst (λ (i : ℕ). IsTested f st i x.cond) at (subst (λ (y : Asked). IsTested f st (length n.checks + 1) y.cond)
              (first_is q x g) own)
          by m e own others (suc k) x g = let at : m + (k + 1) ≡ length n.checks + (suc k + 1) = omega (arith, e) in
              subst (λ (i : ℕ). IsTested f st i x.cond) at (others.each k x g)
