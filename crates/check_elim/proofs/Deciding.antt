-- The test of redundancy is the statement over walks.
use Rattle.std.proofs.Common.{◌≡◌, ◌⊎◌, inl, inr, ℕ, ◌==◌, Bool, true, false, not, ◌&&◌, ◌||◌, List, Option, Some, None, All, Contains, Decides, refl, sym, ap, ◌∙◌, subst}
use Rattle.std.specs.List.{list_all, list_any}
use Rattle.std.specs.Ordering.{int_eq}
use Rattle.std.proofs.lemmas.Bool.Decides.{Decides-int_eq, Decides-eqb, Decides-by_and}
use Rattle.std.proofs.lemmas.List.Folds.{Any-from_list_any, list_any-from_Any}
use Rattle.dep_expr.specs.Linear.{LinearForm}
use Rattle.dep_expr.specs.declared.inequality.Ineq.{Ineq}
use Rattle.sd_base.specs.declared.kinds.CheckKind.{CheckKind}
use Rattle.sd_base.specs.declared.kinds.CheckKind.TheVariants as kind
use Rattle.checked_tree.specs.declared.checks.Check.{Check}
use Rattle.checked_tree.specs.declared.checks.Cond.{Cond}
use Rattle.checked_tree.specs.declared.checks.Cond.TheVariants.{Le, Aligned, NonZero, Equal, Term, Kept}
use Rattle.checked_tree.specs.declared.units.CheckedFn.{CheckedFn}
use Rattle.checked_tree.specs.Eval.{check_of}
use Rattle.checked_tree.specs.Flow.{Event, Tests, Assigns, Finds, Passes, Flow}
use Rattle.checked_tree.specs.Redundant.{is_constant, flows_of, paths_to, cond_inequality, IsSameCheck, Equals, FollowsEqual, FollowsInequality, RedundantAt, Redundant}
use Rattle.check_elim.specs.Ways.{Lost, comes, met_by}
use Rattle.check_elim.specs.Equal.{equal_effect}
use Rattle.check_elim.specs.Facts.{same_form, is_lost}
use Rattle.check_elim.specs.Redundancy.{kind_number, same_optional, same_cond, same_check, is_same, equals, follows_equal, follows_inequality, redundant_at, redundant}
use Rattle.check_elim.proofs.Implying.{form_same}
use Rattle.check_elim.proofs.Exactly.{exactly}
use Rattle.check_elim.proofs.Paths.{paths_tell, equal_met}

both : (a b : Bool) → (a && b) ≡ true → (a ≡ true) × (b ≡ true)
both true b h = (refl, h)
both false b h = absurd cc

join : (a b : Bool) → a ≡ true → b ≡ true → (a && b) ≡ true
join a b g h = rw g h

pub kind_is : (a b : CheckKind) → kind_number a ≡ kind_number b → a ≡ b
kind_is kind.Null kind.Null h = refl
kind_is kind.Null _ h = absurd cc
kind_is kind.Bound kind.Bound h = refl
kind_is kind.Bound _ h = absurd cc
kind_is kind.Align kind.Align h = refl
kind_is kind.Align _ h = absurd cc
kind_is kind.Term kind.Term h = refl
kind_is kind.Term _ h = absurd cc
kind_is kind.Tag kind.Tag h = refl
kind_is kind.Tag _ h = absurd cc
kind_is kind.Change kind.Change h = refl
kind_is kind.Change _ h = absurd cc
kind_is kind.Div kind.Div h = refl
kind_is kind.Div _ h = absurd cc

optional_is : (a b : Option LinearForm) → same_optional a b ≡ true → a ≡ b
optional_is None None h = refl
optional_is None (Some m) h = absurd cc
optional_is (Some l) None h = absurd cc
optional_is (Some l) (Some m) h = ap (λ x. Some x) ((form_same l m).0 h)

form_itself : (l : LinearForm) → same_form l l ≡ true
form_itself l = (form_same l l).1 refl

optional_itself : (a : Option LinearForm) → same_optional a a ≡ true
optional_itself None = refl
optional_itself (Some l) = form_itself l

nat_itself : (n : ℕ) → (n == n) ≡ true
nat_itself n = (Decides-eqb n n).1 refl

cond_is : (a b : Cond) → same_cond a b ≡ true → a ≡ b
cond_is (Le i) (Le j) h =
    let p = both (same_form i.left j.left) (same_optional i.guard j.guard) h in
    let x = (form_same i.left j.left).0 p.0 in
    let y = optional_is i.guard j.guard p.1 in
    λ k. Le (record { left = x k; guard = y k })
cond_is (Le i) _ h = absurd cc
cond_is (Aligned l size guard) (Aligned m other by) h =
    let p = both (same_form l m) (size == other && same_form guard by) h in
    let q = both (size == other) (same_form guard by) p.1 in
    let x = (form_same l m).0 p.0 in
    let y = (Decides-eqb size other).0 q.0 in
    let z = (form_same guard by).0 q.1 in
    λ k. Aligned (x k) (y k) (z k)
cond_is (Aligned l size guard) _ h = absurd cc
cond_is (NonZero l) (NonZero m) h = ap (λ x. NonZero x) ((form_same l m).0 h)
cond_is (NonZero l) _ h = absurd cc
cond_is (Equal l z) (Equal m y) h =
    let p = both (same_form l m) (int_eq z y) h in
    let x = (form_same l m).0 p.0 in
    let w = (Decides-int_eq z y).0 p.1 in
    λ k. Equal (x k) (w k)
cond_is (Equal l z) _ h = absurd cc
cond_is (Term at new) (Term m by) h =
    let p = both (same_form at m) (same_optional new by) h in
    let x = (form_same at m).0 p.0 in
    let y = optional_is new by p.1 in
    λ k. Term (x k) (y k)
cond_is (Term at new) _ h = absurd cc
cond_is (Kept tag new at size) (Kept l by m other) h =
    let p = both (same_form tag l) (same_form new by && (same_form at m && size == other)) h in
    let q = both (same_form new by) (same_form at m && size == other) p.1 in
    let r = both (same_form at m) (size == other) q.1 in
    let x = (form_same tag l).0 p.0 in
    let y = (form_same new by).0 q.0 in
    let z = (form_same at m).0 r.0 in
    let w = (Decides-eqb size other).0 r.1 in
    λ k. Kept (x k) (y k) (z k) (w k)
cond_is (Kept tag new at size) _ h = absurd cc

cond_itself : (a : Cond) → same_cond a a ≡ true
cond_itself (Le i) = join (same_form i.left i.left) (same_optional i.guard i.guard) (form_itself i.left) (optional_itself i.guard)
cond_itself (Aligned l size guard) = join (same_form l l) (size == size && same_form guard guard) (form_itself l) (join (size == size) (same_form guard guard) (nat_itself size) (form_itself guard))
cond_itself (NonZero l) = form_itself l
cond_itself (Equal l z) = join (same_form l l) (int_eq z z) (form_itself l) ((Decides-int_eq z z).1 refl)
cond_itself (Term at new) = join (same_form at at) (same_optional new new) (form_itself at) (optional_itself new)
cond_itself (Kept tag new at size) =
    join (same_form tag tag) (same_form new new && (same_form at at && size == size)) (form_itself tag)
    (join (same_form new new) (same_form at at && size == size) (form_itself new) (join (same_form at at) (size == size) (form_itself at) (nat_itself size)))

pub same_tells : (d c : Check) → Decides (same_check d c) ((d.kind ≡ c.kind) × (d.cond ≡ c.cond))
unfolding same_check
same_tells d c = (
  λ h. let p = both (kind_number d.kind == kind_number c.kind) (same_cond d.cond c.cond) h in
      (kind_is d.kind c.kind ((Decides-eqb (kind_number d.kind) (kind_number c.kind)).0 p.0), cond_is d.cond c.cond p.1),
  λ h. join (kind_number d.kind == kind_number c.kind) (same_cond d.cond c.cond)
      ((Decides-eqb (kind_number d.kind) (kind_number c.kind)).1 (ap kind_number h.0)) (subst (λ x. same_cond d.cond x ≡ true) h.1 (cond_itself d.cond)),
)

check_tells : (c : Check) (o : Option Check) → Decides (is_same c o) (IsSameCheck c o)
check_tells c None = (λ h. absurd cc, λ h. absurd h)
check_tells c (Some d) = same_tells d c

equals_tells : (f : CheckedFn) (c : Check) (e : Event) → Decides (equals f c e) (Equals f c e)
equals_tells f c (Tests id) = check_tells c (check_of f id)
equals_tells f c (Assigns slots) = (λ h. absurd cc, λ h. absurd h)
equals_tells f c (Finds fact) = (λ h. absurd cc, λ h. absurd h)
equals_tells f c Passes = (λ h. absurd cc, λ h. absurd h)

-- an equal check stands among the events of a path
path_tells : (f : CheckedFn) (c : Check) (es : List Event) → Decides (list_any (equals f c) es) ((e : Event) × Contains es e × Equals f c e)
path_tells f c es = (
  λ h. let a = Any-from_list_any (equals f c) es h in (a.1, (a.0, a.2, a.3), (equals_tells f c a.1).0 a.4),
  λ h. list_any-from_Any (equals f c) es (h.1.0, h.0, h.1.1, h.1.2, (equals_tells f c h.0).1 h.2),
)

not_not : (a b : Bool) → a ≡ not b → not a ≡ b
not_not true true h = absurd cc
not_not true false h = refl
not_not false true h = refl
not_not false false h = absurd cc

flow_is : (f : CheckedFn) (id : ℕ) (c : Check) (flow : Flow) → not (is_lost (comes (equal_effect (equals f c)) id flow Lost)) ≡ list_all (λ es. list_any (equals f c) es) (paths_to id flow)
flow_is f id c flow =
    not_not (is_lost (comes (equal_effect (equals f c)) id flow Lost)) (list_all (λ es. met_by (equal_effect (equals f c)) false es) (paths_to id flow)) (paths_tell (equal_effect (equals f c)) id flow false)
    ∙ ap (λ (p : List Event → Bool). list_all p (paths_to id flow)) (λ t es. equal_met (equals f c) es t)

flow_tells : (f : CheckedFn) (id : ℕ) (c : Check) (flow : Flow)
    → Decides (not (is_lost (comes (equal_effect (equals f c)) id flow Lost))) (All (λ events. (e : Event) × Contains events e × Equals f c e) (paths_to id flow))
flow_tells f id c flow =
    subst (λ (b : Bool). Decides b (All (λ events. (e : Event) × Contains events e × Equals f c e) (paths_to id flow))) (sym (flow_is f id c flow))
    (Decides-by_and (λ es. list_any (equals f c) es) (λ events. (e : Event) × Contains events e × Equals f c e) (λ l. list_all (λ es. list_any (equals f c) es) l) (path_tells f c) refl (λ _ _. refl) (paths_to id flow))

pub equal_tells : (f : CheckedFn) (id : ℕ) (c : Check) → Decides (follows_equal f id c) (FollowsEqual f id c)
unfolding follows_equal
equal_tells f id c =
    Decides-by_and (λ flow. not (is_lost (comes (equal_effect (equals f c)) id flow Lost))) (λ flow. All (λ events. (e : Event) × Contains events e × Equals f c e) (paths_to id flow))
    (λ l. list_all (λ flow. not (is_lost (comes (equal_effect (equals f c)) id flow Lost))) l) (flow_tells f id c) refl (λ _ _. refl) (flows_of f)

inequality_tells : (f : CheckedFn) (id : ℕ) (o : Option Ineq) → Decides (follows_inequality f id o) (FollowsInequality f id o)
inequality_tells f id None = (λ h. absurd cc, λ h. absurd h)
inequality_tells f id (Some i) = exactly f id i

either_tells : {P Q : Type 0} (a b : Bool) → Decides a P → Decides b Q → Decides (a || b) (P ⊎ Q)
either_tells true b p q = (λ h. inl (p.0 refl), λ h. refl)
either_tells false b p q = (λ h. inr (q.0 h), λ h. elim h [ inl x ↦ absurd (let w : false ≡ true = p.1 x in cc) | inr y ↦ q.1 y ])

-- the whole statement
pub decided : (f : CheckedFn) (id : ℕ) → Decides (redundant f id) (Redundant f id)
unfolding redundant
decided f id = by (check_of f id)
  where
    by : (o : Option Check) → Decides (redundant_at f id o) (RedundantAt f id o)
    by None = (λ h. absurd cc, λ h. absurd h)
    by (Some c) =
        either_tells (is_constant c.cond) (follows_equal f id c || follows_inequality f id (cond_inequality c.cond)) (λ h. h, λ h. h)
        (either_tells (follows_equal f id c) (follows_inequality f id (cond_inequality c.cond)) (equal_tells f id c) (inequality_tells f id (cond_inequality c.cond)))
