-- A check that is redundant holds where it stands: by constants alone, by an equal check of its statement, or by what every walk to it has met.
use Rattle.std.proofs.Common.{◌≡◌, ◌⊎◌, inl, inr, ℕ, Bool, true, false, not, ◌&&◌, ◌||◌, IsTrue, List, [], ◌∷◌, ℤ, pos, ◌≤ℤ◌, int_le, Option, Some, None, Ok, Contains, All, refl, sym, ap, subst, ◌∙◌, arith}
use Rattle.std.proofs.lemmas.Int.{ints}
use Rattle.std.proofs.lemmas.Bool.Decides.{Decides-int_eq}
use Rattle.std.proofs.lemmas.List.Elements.{All-contains}
use Rattle.std.specs.List.{list_all}
use Rattle.std.specs.Ordering.{int_eq}
use Rattle.dep_expr.specs.Linear.{LinearForm, Assignment, value_of}
use Rattle.dep_expr.specs.Inequality.{Satisfies, IsExcused}
use Rattle.dep_expr.specs.declared.inequality.Ineq.{Ineq}
use Rattle.dep_expr.proofs.Deciding.{order_tells}
use Rattle.checked_tree.specs.declared.checks.Check.{Check}
use Rattle.checked_tree.specs.declared.checks.Cond.{Cond}
use Rattle.checked_tree.specs.declared.checks.Cond.TheVariants.{Le, Aligned, NonZero, Equal, Term, Kept}
use Rattle.checked_tree.specs.declared.expressions.CheckedExpr.{CheckedExpr}
use Rattle.checked_tree.specs.declared.units.CheckedFn.{CheckedFn}
use Rattle.checked_tree.specs.Outcome.{◌>>=◌}
use Rattle.checked_tree.specs.Conditions.{State, form_value, is_multiple, condition}
use Rattle.checked_tree.specs.Eval.{check_of}
use Rattle.checked_tree.specs.Flow.{Event, Tests, Assigns, Finds, Passes, Flow, Node, is_at}
use Rattle.checked_tree.specs.Redundant.{comparable, cond_inequality, check_inequality, has_no_atoms, is_zero_constant, is_constant, IsSameCheck, Equals, FollowsInequality, flows_of, paths_to, IsRedundant, RedundantAt}
use Rattle.checked_tree.specs.Known.{atom_numbers, KnownAt}
use Rattle.checked_tree.specs.KnownLaws.{PassesIn, HaveHeld, ConstantHolds, EqualHolds, MetHolds, RedundantHolds, PassedHolds}
use Rattle.checked_tree.proofs.FormNumbers.{chained, form_value_value, satisfies_condition, condition_satisfies, comparable_solutions}
use Rattle.checked_tree.proofs.Multiples.{multiple_value}

-- ---- first rule
and_true : (a b : Bool) → IsTrue (a && b) → IsTrue a × IsTrue b
and_true true b h = (refl, h)
and_true false b h = absurd cc

or_true : (a b : Bool) → IsTrue (a || b) → IsTrue a ⊎ IsTrue b
or_true true b h = inl refl
or_true false b h = inr h

no_terms : (ts : List (ℤ × ℕ)) (c : ℤ) → IsTrue (has_no_atoms (record { terms = ts; constant = c })) → ts ≡ []
no_terms [] c h = refl
no_terms (t ∷ ts) c h = absurd cc

constant_value : (l : LinearForm) (at : Assignment) → IsTrue (has_no_atoms l) → value_of l at ≡ l.constant
unfolding value_of
constant_value l at h = let e = no_terms l.terms l.constant h in ap (λ ts. value_of (record { terms = ts; constant = l.constant }) at) e ∙ omega (arith, ints)

zero_guard : (g : Option LinearForm) (at : Assignment) → IsTrue (is_zero_constant g) → IsExcused g at
zero_guard None at h = absurd cc
zero_guard (Some g) at h =
    let p = and_true (has_no_atoms g) (int_eq g.constant (pos 0)) h in
    constant_value g at p.0 ∙ (Decides-int_eq g.constant (pos 0)).0 p.1

constant_satisfied : (i : Ineq) (at : Assignment) → IsTrue (is_constant (Le i)) → Satisfies at i
unfolding is_constant
constant_satisfied i at h =
    let p = and_true (has_no_atoms i.left) (int_le i.left.constant (pos 0) || is_zero_constant i.guard) h in
    elim (or_true (int_le i.left.constant (pos 0)) (is_zero_constant i.guard) p.1) [
      | inl below ↦ inr (subst (λ (z : ℤ). z ≤ℤ pos 0) (sym (constant_value i.left at p.0)) ((order_tells i.left.constant (pos 0)).0 below))
      | inr excused ↦ inl (zero_guard i.guard at excused)
    ]

or_right : (a b : Bool) → b ≡ true → (a || b) ≡ true
or_right true b h = refl
or_right false b h = h

differs : (z : ℤ) → IsTrue (not (int_eq z (pos 0))) → (w : ℤ) → w ≡ z → not (int_eq w (pos 0)) ≡ true
differs z h w e = subst (λ (x : ℤ). not (int_eq x (pos 0)) ≡ true) (sym e) h

constant_condition : (atoms : List CheckedExpr) (s : State) (c : Cond) → IsTrue (is_constant c) → (b : Bool) → condition atoms s c ≡ Ok b → b ≡ true
unfolding is_constant condition
constant_condition atoms s (Le i) h b k = satisfies_condition atoms s i b (constant_satisfied i (atom_numbers atoms s) h) k
constant_condition atoms s (Aligned gap size guard) h b k =
    let p = chained (form_value atoms s gap) (λ v. form_value atoms s guard >>= λ g. Ok (int_eq g (pos 0) || is_multiple v size)) b k in
    let q = chained (form_value atoms s guard) (λ g. Ok (int_eq g (pos 0) || is_multiple p.value size)) b p.second in
    let e : (int_eq q.value (pos 0) || is_multiple p.value size) ≡ b = cc in
    let parts = and_true (list_all (λ t. is_multiple t.0 size) gap.terms) (is_multiple gap.constant size) h in
    let whole = multiple_value gap size (atom_numbers atoms s) parts.0 parts.1 in
    sym e ∙ or_right (int_eq q.value (pos 0)) (is_multiple p.value size) (ap (λ z. is_multiple z size) (form_value_value atoms s gap p.value p.first) ∙ whole)
constant_condition atoms s (NonZero l) h b k =
    let p = chained (form_value atoms s l) (λ v. Ok (not (int_eq v (pos 0)))) b k in
    let e : not (int_eq p.value (pos 0)) ≡ b = cc in
    let parts = and_true (has_no_atoms l) (not (int_eq l.constant (pos 0))) h in
    sym e ∙ differs l.constant parts.1 p.value (form_value_value atoms s l p.value p.first ∙ constant_value l (atom_numbers atoms s) parts.0)
constant_condition atoms s (Equal l z) h b k = absurd cc
constant_condition atoms s (Term at new) h b k = absurd cc
constant_condition atoms s (Kept tag new at size) h b k = absurd cc

pub constant_holds : ConstantHolds
constant_holds f s c h b k = constant_condition f.atoms s c.cond h b k

-- ---- second rule
equal_holds_by : (f : CheckedFn) (s : State) (c : Check) (events : List Event) (e : Event) → HaveHeld f s events → Contains events e → Equals f c e → PassesIn f s c
equal_holds_by f s c events (Tests id) held in_them equal = by (check_of f id) refl equal
  where
    by : (o : Option Check) → check_of f id ≡ o → IsSameCheck c o → PassesIn f s c
    by None p h = absurd h
    by (Some d) p h = λ b k.
        let same : condition f.atoms s c.cond ≡ Ok true = ap (λ x. condition f.atoms s x) (sym h.1) ∙ held id d in_them p in cc
equal_holds_by f s c events (Assigns own) held in_them equal = absurd equal
equal_holds_by f s c events (Finds l) held in_them equal = absurd equal
equal_holds_by f s c events Passes held in_them equal = absurd equal

-- an event among these tests an equal check
abbrev HasEqual : CheckedFn → Check → List Event → Type 0
HasEqual f c events = (e : Event) × Contains events e × Equals f c e

pub equal_holds : EqualHolds
equal_holds f id c s flow events in_flows in_paths held follows =
    let of_flow : All (HasEqual f c) (paths_to id flow) = All-contains (λ x. All (HasEqual f c) (paths_to id x)) (flows_of f) flow follows in_flows in
    let equal : HasEqual f c events = All-contains (HasEqual f c) (paths_to id flow) events of_flow in_paths in
    equal_holds_by f s c events equal.0 held equal.1 equal.2

-- ---- third rule
follows_holds : (f : CheckedFn) (id : ℕ) (c : Check) (n : Node) (s : State) (x : Cond) → c.cond ≡ x → check_of f id ≡ Some c → IsTrue (is_at id n) → KnownAt f n s
    → FollowsInequality f id (cond_inequality x) → (b : Bool) → condition f.atoms s x ≡ Ok b → b ≡ true
follows_holds f id c n s (Le i) e p at known met b k =
    let own : check_inequality (check_of f id) ≡ Some (comparable i) = ap check_inequality p ∙ ap cond_inequality e in
    satisfies_condition f.atoms s i b
    ((comparable_solutions f.atoms s i).0 (known id (comparable i) own met.0 (λ es w. met.1 es n w at))) k
follows_holds f id c n s (Aligned gap size guard) e p at known met b k = absurd met
follows_holds f id c n s (NonZero l) e p at known met b k = absurd met
follows_holds f id c n s (Equal l z) e p at known met b k = absurd met
follows_holds f id c n s (Term at new) e p here known met b k = absurd met
follows_holds f id c n s (Kept tag new at size) e p here known met b k = absurd met

pub met_holds : MetHolds
met_holds f id c n s p at known met b k = follows_holds f id c n s c.cond refl p at known met b k

-- ---- all three
redundant_by : (f : CheckedFn) (id : ℕ) (c : Check) (n : Node) (s : State) (flow : Flow) (events : List Event)
    → check_of f id ≡ Some c → IsTrue (is_at id n) → KnownAt f n s → Contains (flows_of f) flow → Contains (paths_to id flow) events → HaveHeld f s events
    → IsRedundant f id c → PassesIn f s c
redundant_by f id c n s flow events p at known in_flows in_paths held (inl constant) = constant_holds f s c constant
redundant_by f id c n s flow events p at known in_flows in_paths held (inr (inl equal)) = equal_holds f id c s flow events in_flows in_paths held equal
redundant_by f id c n s flow events p at known in_flows in_paths held (inr (inr met)) = met_holds f id c n s p at known met

pub redundant_holds : RedundantHolds
redundant_holds f id c n s flow events p at known in_flows in_paths held redundant =
    redundant_by f id c n s flow events p at known in_flows in_paths held (subst (RedundantAt f id) p redundant)

-- behind a check that held
passed_by : (f : CheckedFn) (s : State) (x : Cond) (i : Ineq) → condition f.atoms s x ≡ Ok true → cond_inequality x ≡ Some i → Satisfies (atom_numbers f.atoms s) i
passed_by f s (Le j) i h e =
    let same : comparable j ≡ i = cc in
    subst (λ k. Satisfies (atom_numbers f.atoms s) k) same ((comparable_solutions f.atoms s j).1 (condition_satisfies f.atoms s j h))
passed_by f s (Aligned gap size guard) i h e = absurd cc
passed_by f s (NonZero l) i h e = absurd cc
passed_by f s (Equal l z) i h e = absurd cc
passed_by f s (Term at new) i h e = absurd cc
passed_by f s (Kept tag new at size) i h e = absurd cc

pub passed_holds : PassedHolds
passed_holds f id c s p h i e = passed_by f s c.cond i h (sym (ap check_inequality p) ∙ e)
