-- Redundant checks of small drivers: by constants alone, and behind an equal check of the same statement.
use Rattle.std.specs.Prelude.{◌≡◌, ℕ, Bool, true, false, List, [], ◌∷◌, map, ℤ, pos, negsuc, Some, None, All, Contains, refl}
use Rattle.std.proofs.Common.{◌⊎◌, inl, inr, subst, sym, ap, ◌∙◌, arith}
use Rattle.std.proofs.lemmas.List.Elements.{All-nil, All-cons, All-contains}
use Rattle.sd_base.specs.declared.kinds.CheckKind.TheVariants as kind
use Rattle.dep_expr.specs.Merged.{merged_terms}
use Rattle.dep_expr.specs.Normed.{gcd}
use Rattle.dep_expr.specs.declared.inequality.Ineq.{Ineq}
use Rattle.checked_tree.specs.declared.checks.Check.{Check}
use Rattle.checked_tree.specs.declared.units.CheckedFn.{CheckedFn}
use Rattle.checked_tree.specs.Eval.{check_of}
use Rattle.checked_tree.specs.Flow.{Event, Tests, Assigns, Flow, Leaves, Ends, Meets, seen}
use Rattle.checked_tree.specs.Redundant.{comparable, is_constant, is_over_locals, reads_memory, flows_of, paths_to, Equals, FollowsEqual, Redundant}
use Rattle.checked_tree.proofs.Equations.{at_forms, at_parts}
use Rattle.checked_tree.proofs.Listings.{form, not_null, get, in_one, in_two, sum, coercion}

-- ---- the first rule: which checks of a function are true of constants alone
abbrev constant_checks : CheckedFn → List Bool
constant_checks f = map (λ c. is_constant c.cond) f.checks

-- `*p` of a pointer to one element: the end of the element is the pointer's own bound, whatever it is
constants_of_get : constant_checks get ≡ false ∷ true ∷ false ∷ true ∷ []
unfolding is_constant
constants_of_get = refl

-- `g.buf[0]`: its beginning is the low bound itself; where it ends is asked of memory
constants_of_buf : constant_checks in_two ≡ false ∷ true ∷ false ∷ false ∷ true ∷ false ∷ []
unfolding is_constant
constants_of_buf = refl

-- the five checks of a coercion to `count(3)`: the second, the third and the fifth
constants_of_coercion : map is_constant coercion ≡ false ∷ true ∷ true ∷ false ∷ true ∷ []
unfolding is_constant
constants_of_coercion = refl

-- no check of a loop over elements is
constants_of_sum : constant_checks sum ≡ false ∷ false ∷ []
unfolding is_constant
constants_of_sum = refl

-- so the second and the fourth check of `get` are redundant
second_of_get : Redundant get 2
unfolding is_constant
second_of_get = inl refl

fourth_of_get : Redundant get 4
unfolding is_constant
fourth_of_get = inl refl

-- no check has the number 0, and so none is redundant by it
no_check : Redundant get 0 → ⊥
no_check h = h

-- ---- the second rule: in one statement the checks of the second `g.buf[0]` stand behind the equal ones of the first
abbrev tests_then : List ℕ → Flow → Flow
tests_then [] k = k
tests_then (id ∷ ids) k = Meets (Tests id) (tests_then ids k)

abbrev assigned : Flow
assigned = Meets (Assigns (0 ∷ [])) (Leaves true)

flows_in_one : flows_of in_one ≡ tests_then (1 ∷ 2 ∷ 3 ∷ 4 ∷ 5 ∷ 6 ∷ []) assigned ∷ Ends ∷ []
unfolding flows_of seen
flows_in_one = simp (at_forms, at_parts)

flows_in_two : flows_of in_two ≡ tests_then (1 ∷ 2 ∷ 3 ∷ []) assigned ∷ tests_then (4 ∷ 5 ∷ 6 ∷ []) assigned ∷ Ends ∷ []
unfolding flows_of seen
flows_in_two = simp (at_forms, at_parts)

abbrev fourth : Check
fourth = record { id = 4; line = 3; kind = kind.Null; cond = not_null 0 }

-- an equal check among these events
abbrev HasEqual : CheckedFn → Check → List Event → Type 0
HasEqual f c events = (e : Event) × Contains events e × Equals f c e

path_in_one : HasEqual in_one fourth (Tests 1 ∷ Tests 2 ∷ Tests 3 ∷ [])
path_in_one = (Tests 1, (0, omega arith, refl), (refl, refl))

follows_in_one : FollowsEqual in_one 4 fourth
unfolding paths_to
follows_in_one =
    subst (λ flows. All (λ flow. All (HasEqual in_one fourth) (paths_to 4 flow)) flows) (sym flows_in_one)
    (All-cons (λ flow. All (HasEqual in_one fourth) (paths_to 4 flow)) (tests_then (1 ∷ 2 ∷ 3 ∷ 4 ∷ 5 ∷ 6 ∷ []) assigned) (Ends ∷ [])
    (All-cons (HasEqual in_one fourth) (Tests 1 ∷ Tests 2 ∷ Tests 3 ∷ []) [] path_in_one (All-nil (HasEqual in_one fourth)))
    (All-cons (λ flow. All (HasEqual in_one fourth) (paths_to 4 flow)) Ends [] (All-nil (HasEqual in_one fourth)) (All-nil (λ flow. All (HasEqual in_one fourth) (paths_to 4 flow)))))

fourth_in_one : Redundant in_one 4
fourth_in_one = inr (inl follows_in_one)

-- ---- and no rule holds of it where it stands in a statement of its own: on the way from its start there is no check before it, and what reads memory is never told
-- by what was met
none_before : HasEqual in_two fourth [] → ⊥
none_before h = absurd (omega (arith, h.1.1))

not_behind_equal : FollowsEqual in_two 4 fourth → ⊥
unfolding paths_to
not_behind_equal h =
    let at : All (λ flow. All (HasEqual in_two fourth) (paths_to 4 flow)) (tests_then (1 ∷ 2 ∷ 3 ∷ []) assigned ∷ tests_then (4 ∷ 5 ∷ 6 ∷ []) assigned ∷ Ends ∷ []) =
    subst (λ flows. All (λ flow. All (HasEqual in_two fourth) (paths_to 4 flow)) flows) flows_in_two h in
    let in_second : All (HasEqual in_two fourth) ([] ∷ []) =
    All-contains (λ flow. All (HasEqual in_two fourth) (paths_to 4 flow)) (tests_then (1 ∷ 2 ∷ 3 ∷ []) assigned ∷ tests_then (4 ∷ 5 ∷ 6 ∷ []) assigned ∷ Ends ∷ []) (tests_then (4 ∷ 5 ∷ 6 ∷ []) assigned) at (1, omega arith, refl) in
    none_before (All-contains (HasEqual in_two fourth) ([] ∷ []) [] in_second (0, omega arith, refl))

reads : is_over_locals in_two (comparable (record { left = form ((negsuc 0, 0) ∷ []) (pos 1); guard = None })) ≡ false
unfolding is_over_locals comparable merged_terms gcd reads_memory
reads = simp at_forms

fourth_in_two : Redundant in_two 4 → ⊥
unfolding is_constant
fourth_in_two (inl constant) = absurd cc
fourth_in_two (inr (inl equal)) = not_behind_equal equal
fourth_in_two (inr (inr met)) = let over : false ≡ true = sym reads ∙ met.0 in absurd cc
