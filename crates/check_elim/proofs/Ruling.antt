-- What the marks of both analyses say of a check.
use Rattle.std.proofs.Common.{◌≡◌, ◌≢◌, ◌⊎◌, ℕ, ◌+◌, ◌-◌, ◌*◌, ◌<◌, ◌≤◌, ◌==◌, Bool, true, false, not, ◌&&◌, ◌||◌, nat_eq, if◌then◌else◌, List, [], ◌∷◌, ◌++◌, length, map, Option, Some, None, slice_get, get_or, take, inl, inr, refl, sym, ap, ◌∙◌, subst, arith}
use Rattle.std.specs.Prelude.{replicate, ◌↔◌, Result, Ok, Err, IfOk}
use Rattle.std.specs.Global.{Vec}
use Rattle.std.specs.Option.{is_some}
use Rattle.std.specs.List.{list_any, list_all, flat_map}
use Rattle.std.proofs.lemmas.Bool.Decides.{eqb_tells}
use Rattle.std.proofs.lemmas.List.{get_or-replicate, length-replicate, get_or_append_left, append-nil, take_more, take_all}
use Rattle.std.proofs.lemmas.List.Concat.{flat_map-append}
use Rattle.std.proofs.lemmas.Option.{slice_get_cases, slice_get_within, slice_get_read, get_or_from_slice_get}
use Rattle.dep_expr.specs.declared.inequality.Ineq.{Ineq}
use Rattle.checked_tree.specs.declared.checks.Check.{Check}
use Rattle.checked_tree.specs.declared.expressions.CheckedExpr.{CheckedExpr}
use Rattle.checked_tree.specs.declared.statements.CheckedStmt.{CheckedStmt, out-CheckedStmt, map-CheckedStmt}
use Rattle.checked_tree.specs.declared.statements.CheckedStmt.TheOpen as S
use Rattle.checked_tree.specs.declared.statements.CheckedStmt.TheVariants as V
use Rattle.checked_tree.specs.declared.statements.CheckedStmt.TheFolds.{fold_out-CheckedStmt}
use Rattle.checked_tree.specs.declared.units.CheckedFn.{CheckedFn}
use Rattle.checked_tree.specs.Eval.{check_of}
use Rattle.checked_tree.specs.Flow.{Event, Tests, Assigns, Finds, Passes, Flow, Leaves, as_test, seen, own_flow}
use Rattle.checked_tree.specs.Redundant.{cond_inequality, check_inequality, flows_level, flows_of, is_constant, Redundant}
use Rattle.check_elim.specs.declared.table.Table.{Table}
use Rattle.check_elim.specs.declared.table.Table.TheVariants as table
use Rattle.check_elim.specs.declared.table.Inequalities.{Inequalities}
use Rattle.check_elim.specs.declared.table.Classes.{Classes}
use Rattle.check_elim.specs.Ways.{Effect, Gives, Keeps, Way, Lost, comes, comes_in}
use Rattle.check_elim.specs.Ways as W
use Rattle.check_elim.specs.Equal.{equal_effect}
use Rattle.check_elim.specs.Facts.{effect_of, is_lost, is_met_before}
use Rattle.check_elim.specs.Redundancy.{is_same, equals, follows_equal, follows_inequality, redundant, redundant_at}
use Rattle.check_elim.specs.Direct.{passing, passings, telling, noted, act_of, reading, asked_of}
use Rattle.check_elim.specs.Sets.{Facts, Marking, way_of, does, given, is_number, class_of, effect_in, own_in, own_at, own_fact, IsOwn, ops_of, all_lost, AreInequalities, AreClasses, IsTable, size_in}
use Rattle.check_elim.specs.Following.{Follows, is_plain, IsOfClasses, IsOfInequalities, is_lost_in, flows_in, flows_of_all}
use Rattle.check_elim.specs.Marks.{SayUnmet, SayUnequal}
use Rattle.check_elim.proofs.Lists.{room, marks}
use Rattle.check_elim.proofs.Exact.{marks_exact, statement_exact, test_exact}
use Rattle.check_elim.proofs.FactLists.{any_append, pushed_at}
use Rattle.check_elim.proofs.Deciding.{decided}
use Rattle.check_elim.proofs.Sizes.{statement_size, telling_size, test_size}
use Rattle.check_elim.proofs.Equations.{passing_out}

-- ---- numbers
not_zero : (id : ℕ) → 1 ≤ id → (id == 0) ≡ false
not_zero id h = elim (eqb_tells id 0) [ inl p ↦ absurd (omega (arith, h, p.1)) | inr p ↦ p.0 ]

pub check_at : (f : CheckedFn) (id : ℕ) → 1 ≤ id → check_of f id ≡ slice_get f.checks (id - 1)
check_at f id h = ap (λ (b : Bool). if b then None else slice_get f.checks (id - 1)) (not_zero id h)

pub lost_there : (size j : ℕ) → j < 64 * size → all_lost size j ≡ Lost
unfolding all_lost
lost_there size j low = ap (way_of true) (room j (64 * size) low)

-- ---- third rule
module _ (f : CheckedFn) (t : Inequalities) (is : AreInequalities f t) (id : ℕ) (c : Check) (numbered : 1 ≤ id) (at : check_of f id ≡ Some c) where
  abbrev last : Marking
  last = telling (passings (ops_of f (table.Inequalities t)) f.slots f.body) (all_lost t.size) (marks (replicate (length f.checks) false))

  there : slice_get f.checks (id - 1) ≡ Some c
  there = sym (check_at f id numbered) ∙ at

  own_is : own_in t id ≡ own_at (slice_get t.checks.items (id - 1))
  own_is = ap (λ (b : Bool). if b then None else own_at (slice_get t.checks.items (id - 1))) (not_zero id numbered)

  mine : IsOwn f t.facts.items (cond_inequality c.cond) (own_in t id)
  unfolding AreInequalities
  mine = subst (IsOwn f t.facts.items (cond_inequality c.cond)) (sym own_is) (subst (λ o. IsOwn f t.facts.items (check_inequality o) (own_at (slice_get t.checks.items (id - 1)))) there (is.own (id - 1)))

  abbrev Says : Option Ineq → Option ℕ → Type 0
  Says i own = (is_some own && not (last.at (id - 1))) ≡ follows_inequality f id i

  third_own : (i : Ineq) (j : ℕ) → own_in t id ≡ Some j → j < length t.facts.items → slice_get t.facts.items j ≡ Some i → Says (Some i) (Some j)
  unfolding AreInequalities is_met_before does
  third_own i j own low same =
      let exact = marks_exact f (table.Inequalities t) id j (length f.checks) (effect_of f i) (λ e. ap (λ o. effect_in f o e) same) own numbered (slice_get_within f.checks (id - 1) c there)
      (all_lost t.size) (marks (replicate (length f.checks) false)) (lost_there t.size j (omega (arith, low, is.room))) (length-replicate (length f.checks) false)
      (get_or-replicate (length f.checks) (id - 1) false false (slice_get_within f.checks (id - 1) c there)) in
      ap not exact ∙ ap (λ b. b && not (is_lost (comes_in f (effect_of f i) id))) (sym (is.over j i same))

  pub third : Says (cond_inequality c.cond) (own_in t id)
  unfolding is_met_before
  third = by (cond_inequality c.cond) (own_in t id) refl mine
    where
      by : (i : Option Ineq) (o : Option ℕ) → own_in t id ≡ o → IsOwn f t.facts.items i o → Says i o
      by None None e h = refl
      by (Some i) None e h = ap (λ b. b && not (is_lost (comes_in f (effect_of f i) id))) (sym h)
      by (Some i) (Some j) e h = third_own i j e h.0 h.1
      by None (Some j) e h = elim (slice_get_cases t.facts.items j).1 [ inl p ↦ absurd (let w = sym p.2 ∙ h.1 in cc) | inr q ↦ absurd (omega (arith, q.0, h.0)) ]

-- ---- second rule
module _ (f : CheckedFn) (t : Classes) (are : AreClasses f t) where
  class_at : (id : ℕ) → 1 ≤ id → class_of t id ≡ slice_get t.numbers.items (id - 1)
  class_at id h = ap (λ (b : Bool). if b then None else slice_get t.numbers.items (id - 1)) (not_zero id h)

  has_class : (id : ℕ) (c : Check) → 1 ≤ id → check_of f id ≡ Some c → (j : ℕ) × (class_of t id ≡ Some j) × (j < 64 * t.size) × (slice_get t.numbers.items (id - 1) ≡ Some j)
  unfolding AreClasses
  has_class id c numbered at =
      let low = slice_get_within f.checks (id - 1) c (sym (check_at f id numbered) ∙ at) in
      elim (slice_get_cases t.numbers.items (id - 1)).1 [
        | inl p ↦ (p.0, class_at id numbered ∙ p.2, are.fits (id - 1) p.0 p.2, p.2)
        | inr q ↦ absurd (omega (arith, q.0, low, are.count))
      ]

  meets_same : (id : ℕ) (c : Check) (j : ℕ) → 1 ≤ id → check_of f id ≡ Some c → slice_get t.numbers.items (id - 1) ≡ Some j → (k : ℕ) → is_number j (class_of t k) ≡ is_same c (check_of f k)
  unfolding AreClasses
  meets_same id c j numbered at class k = by (eqb_tells k 0)
    where
      own : slice_get f.checks (id - 1) ≡ Some c
      own = sym (check_at f id numbered) ∙ at

      both : (o : Option ℕ) (q : Option Check) → slice_get t.numbers.items (k - 1) ≡ o → slice_get f.checks (k - 1) ≡ q → is_number j o ≡ is_same c q
      both None None g h = refl
      both (Some l) (Some d) g h = are.same (k - 1) (id - 1) l j d c h own g class
      both None (Some d) g h = elim (slice_get_cases t.numbers.items (k - 1)).1 [
        | inl p ↦ absurd (let w = sym p.2 ∙ g in cc)
        | inr q ↦ absurd (omega (arith, q.0, are.count, slice_get_within f.checks (k - 1) d h))
      ]
      both (Some l) None g h = elim (slice_get_cases f.checks (k - 1)).1 [
        | inl p ↦ absurd (let w = sym p.2 ∙ h in cc)
        | inr q ↦ absurd (omega (arith, q.0, are.count, slice_get_within t.numbers.items (k - 1) l g))
      ]

      by : ((nat_eq k 0 ≡ true) × (k ≡ 0)) ⊎ ((nat_eq k 0 ≡ false) × (k ≢ 0)) → is_number j (class_of t k) ≡ is_same c (check_of f k)
      by (inl p) = rw p.1 refl
      by (inr p) =
          let low : 1 ≤ k = omega (arith, p.1) in
          ap (is_number j) (class_at k low) ∙ (both (slice_get t.numbers.items (k - 1)) (slice_get f.checks (k - 1)) refl refl ∙ ap (is_same c) (sym (check_at f k low)))

  effect_same : (id : ℕ) (c : Check) (j : ℕ) → 1 ≤ id → check_of f id ≡ Some c → slice_get t.numbers.items (id - 1) ≡ Some j → (e : Event) → does f (table.Classes t) j e ≡ equal_effect (equals f c) e
  unfolding does
  effect_same id c j numbered at class (Tests k) = ap given (meets_same id c j numbered at class k)
  effect_same id c j numbered at class (Assigns slots) = refl
  effect_same id c j numbered at class (Finds fact) = refl
  effect_same id c j numbered at class Passes = refl

  abbrev ops : Rattle.check_elim.specs.Direct.Ops Facts Marking
  ops = ops_of f (table.Classes t)

  or_false : (a : Bool) → (a || false) ≡ a
  or_false true = refl
  or_false false = refl

  -- a statement by itself, of which the flow is that one
  abbrev Alone : CheckedStmt → Flow → Type 0
  Alone st flow = (effect : Event → Effect) (id : ℕ) → W.at_of (W.passing f effect id st) Lost ≡ comes effect id flow Lost

  size_kept : (st : CheckedStmt) (m : Marking) → (noted (act_of (passing ops f.slots st)) (all_lost t.size) m).size ≡ m.size
  size_kept st m = statement_size f (table.Classes t) st (all_lost t.size) m

  pub alone_follows : (st : CheckedStmt) (flow : Flow) (m : Marking) → flows_in f st ≡ flow ∷ [] → Alone st flow → Follows f (flows_in f st) m (noted (act_of (passing ops f.slots st)) (all_lost t.size) m)
  unfolding Follows
  alone_follows st flow m flows alone = (
    size_kept st m,
    λ id c numbered low at.
        let k = has_class id c numbered at in
        let q = statement_exact f (table.Classes t) id k.0 m.size (equal_effect (equals f c)) (effect_same id c k.0 numbered at k.3) k.1 numbered low st (all_lost t.size) m (lost_there t.size k.0 k.2) refl in
        q.1 ∙ ap (λ b. m.at (id - 1) || b) (ap is_lost (alone (equal_effect (equals f c)) id)
        ∙ (sym (or_false (is_lost (comes (equal_effect (equals f c)) id flow Lost))) ∙ ap (λ (l : List Flow). is_lost_in f id c l) (sym flows))),
  )

  pub test_follows : (e : CheckedExpr) (m : Marking)
      → Follows f (as_test (seen f.slots e) (Leaves true) (Leaves false) ∷ []) m (asked_of (reading ops f.slots e) (all_lost t.size) m)
  unfolding Follows
  test_follows e m = (
    test_size f (table.Classes t) e (all_lost t.size) m,
    λ id c numbered low at.
        let k = has_class id c numbered at in
        let q = test_exact f (table.Classes t) id k.0 m.size (equal_effect (equals f c)) (effect_same id c k.0 numbered at k.3) k.1 numbered low e (all_lost t.size) m (lost_there t.size k.0 k.2) refl in
        q.1 ∙ ap (λ b. m.at (id - 1) || b) (sym (or_false (is_lost (comes (equal_effect (equals f c)) id (as_test (seen f.slots e) (Leaves true) (Leaves false)) Lost)))),
  )

-- ---- one after another
pub follows_none : (f : CheckedFn) (m : Marking) → Follows f [] m m
unfolding Follows
follows_none f m = (refl, λ id c numbered low at. sym (by (m.at (id - 1))))
  where
    by : (a : Bool) → (a || false) ≡ a
    by true = refl
    by false = refl

pub follows_then : (f : CheckedFn) (xs ys : List Flow) (m n o : Marking) → Follows f xs m n → Follows f ys n o → Follows f (xs ++ ys) m o
unfolding Follows
follows_then f xs ys m n o g h = (
  h.0 ∙ g.0,
  λ id c numbered low at.
      h.1 id c numbered (subst (λ (x : ℕ). id - 1 < x) (sym g.0) low) at
      ∙ (ap (λ b. b || is_lost_in f id c ys) (g.1 id c numbered low at)
      ∙ (or_assoc (m.at (id - 1)) (is_lost_in f id c xs) (is_lost_in f id c ys)
      ∙ ap (λ b. m.at (id - 1) || b) (sym (any_append (λ flow. is_lost (comes (equal_effect (equals f c)) id flow Lost)) xs ys)))),
)
  where
    or_assoc : (a b c : Bool) → ((a || b) || c) ≡ (a || (b || c))
    or_assoc true b c = refl
    or_assoc false b c = refl

-- ---- forms of statements
pub flows_out : (f : CheckedFn) (st : CheckedStmt) → flows_in f st ≡ flows_level f (map-CheckedStmt CheckedStmt (List Flow) (flows_in f) (out-CheckedStmt st))
unfolding flows_in
flows_out f st = fold_out-CheckedStmt (List Flow) (flows_level f) st

-- a statement without parts has one flow, its own
level_alone : (f : CheckedFn) (z : S.CheckedStmt-F CheckedStmt) → is_plain z ≡ true → (effect : Event → Effect) (id : ℕ)
    → W.at_of (W.stmt_level f effect id (map-CheckedStmt CheckedStmt W.Passing (W.passing f effect id) z)) Lost ≡ comes effect id (own_flow f z) Lost
level_alone f (S.Empty line) p effect id = refl
level_alone f (S.Assign line slot scalar value checks) p effect id = refl
level_alone f (S.AssignAutomatic line slot hidden value checks) p effect id = refl
level_alone f (S.Store line scalar place value checks) p effect id = refl
level_alone f (S.Zero line place size) p effect id = refl
level_alone f (S.Call line target function values checks) p effect id = refl
level_alone f (S.Kernel line target name values pointer function elem size) p effect id = refl
level_alone f (S.Return line value checks) p effect id = refl
level_alone f (S.If line e a b) p effect id = absurd (let w = p in cc)
level_alone f (S.While line e a) p effect id = absurd (let w = p in cc)

level_flows : (f : CheckedFn) (z : S.CheckedStmt-F CheckedStmt) → is_plain z ≡ true → flows_level f (map-CheckedStmt CheckedStmt (List Flow) (flows_in f) z) ≡ own_flow f z ∷ []
level_flows f (S.Empty line) p = refl
level_flows f (S.Assign line slot scalar value checks) p = refl
level_flows f (S.AssignAutomatic line slot hidden value checks) p = refl
level_flows f (S.Store line scalar place value checks) p = refl
level_flows f (S.Zero line place size) p = refl
level_flows f (S.Call line target function values checks) p = refl
level_flows f (S.Kernel line target name values pointer function elem size) p = refl
level_flows f (S.Return line value checks) p = refl
level_flows f (S.If line e a b) p = absurd (let w = p in cc)
level_flows f (S.While line e a) p = absurd (let w = p in cc)

pub plain_follows : (f : CheckedFn) (x : Table) (st : CheckedStmt) (z : S.CheckedStmt-F CheckedStmt) (m : Marking) → out-CheckedStmt st ≡ z → is_plain z ≡ true → IsTable f x → IsOfClasses x
    → Follows f (flows_in f st) m (noted (act_of (passing (ops_of f x) f.slots st)) (all_lost (size_in x)) m)
unfolding IsTable IsOfClasses
plain_follows f (table.Inequalities t) st z m is p are of = absurd of
plain_follows f (table.Classes t) st z m is p are of =
    alone_follows f t are st (own_flow f z) m (flows_out f st ∙ (ap (λ y. flows_level f (map-CheckedStmt CheckedStmt (List Flow) (flows_in f) y)) is ∙ level_flows f z p))
    (λ effect id. ap (λ q. W.at_of q Lost) (passing_out f effect id st ∙ ap (λ y. W.stmt_level f effect id (map-CheckedStmt CheckedStmt W.Passing (W.passing f effect id) y)) is) ∙ level_alone f z p effect id)

pub asked_follows : (f : CheckedFn) (x : Table) (e : CheckedExpr) (m : Marking) → IsTable f x → IsOfClasses x
    → Follows f (as_test (seen f.slots e) (Leaves true) (Leaves false) ∷ []) m (asked_of (reading (ops_of f x) f.slots e) (all_lost (size_in x)) m)
unfolding IsTable IsOfClasses
asked_follows f (table.Inequalities t) e m are of = absurd of
asked_follows f (table.Classes t) e m are of = test_follows f t are e m

-- ---- the parts of a statement
lists_flat : (f : CheckedFn) (ss : List CheckedStmt) → flat_map (λ (x : List Flow). x) (map (flows_in f) ss) ≡ flows_of_all f ss
unfolding flows_of_all
lists_flat f [] = refl
lists_flat f (s ∷ ss) = ap (λ l. flows_in f s ++ l) (lists_flat f ss)

pub if_flows : (f : CheckedFn) (line : ℕ) (e : CheckedExpr) (a b : List CheckedStmt)
    → flows_in f (V.If line e a b) ≡ (as_test (seen f.slots e) (Leaves true) (Leaves false) ∷ []) ++ (flows_of_all f a ++ flows_of_all f b)
if_flows f line e a b =
    flows_out f (V.If line e a b)
    ∙ (ap (λ y. flows_level f (map-CheckedStmt CheckedStmt (List Flow) (flows_in f) y)) (V.outs-If line e a b)
    ∙ (λ i. as_test (seen f.slots e) (Leaves true) (Leaves false) ∷ (lists_flat f a i ++ lists_flat f b i)))

pub while_flows : (f : CheckedFn) (line : ℕ) (e : CheckedExpr) (a : List CheckedStmt) → flows_in f (V.While line e a) ≡ (as_test (seen f.slots e) (Leaves true) (Leaves false) ∷ []) ++ flows_of_all f a
while_flows f line e a =
    flows_out f (V.While line e a)
    ∙ (ap (λ y. flows_level f (map-CheckedStmt CheckedStmt (List Flow) (flows_in f) y)) (V.outs-While line e a)
    ∙ ap (λ l. as_test (seen f.slots e) (Leaves true) (Leaves false) ∷ l) (lists_flat f a))

-- the flows of a function are those of its body
pub body_flows : (f : CheckedFn) → flows_of_all f f.body ≡ flows_of f
unfolding flows_of_all flows_of flows_in
body_flows f = refl

-- a mark where none was is that some way is lost
pub second : (f : CheckedFn) (n : Marking) (id : ℕ) (c : Check) → Follows f (flows_of_all f f.body) (marks (replicate (length f.checks) false)) n → 1 ≤ id → check_of f id ≡ Some c → n.at (id - 1) ≡ not (follows_equal f id c)
unfolding Follows follows_equal
second f n id c h numbered at =
    let low : id - 1 < length f.checks = slice_get_within f.checks (id - 1) c (sym (check_at f id numbered) ∙ at) in
    h.1 id c numbered (omega (arith, low, length-replicate (length f.checks) false)) at
    ∙ ((λ i. get_or-replicate (length f.checks) (id - 1) false false low i || is_lost_in f id c (body_flows f i)) ∙ turned (flows_of f))
  where
    lost : Flow → Bool
    lost flow = is_lost (comes (equal_effect (equals f c)) id flow Lost)

    turned : (l : List Flow) → list_any (λ (flow : Flow). is_lost (comes (equal_effect (equals f c)) id flow Lost)) l ≡ not (list_all (λ (flow : Flow). not (is_lost (comes (equal_effect (equals f c)) id flow Lost))) l)
    turned [] = refl
    turned (x ∷ xs) = step (is_lost (comes (equal_effect (equals f c)) id x Lost)) (turned xs)
      where
        step : (a : Bool) → list_any (λ (flow : Flow). is_lost (comes (equal_effect (equals f c)) id flow Lost)) xs ≡ not (list_all (λ (flow : Flow). not (is_lost (comes (equal_effect (equals f c)) id flow Lost))) xs)
            → (a || list_any (λ (flow : Flow). is_lost (comes (equal_effect (equals f c)) id flow Lost)) xs) ≡ not (not a && list_all (λ (flow : Flow). not (is_lost (comes (equal_effect (equals f c)) id flow Lost))) xs)
        step true h = refl
        step false h = h

-- what the marks of a whole function say
pub third_marks : (f : CheckedFn) (x : Table) (w : Facts) (old new : List Bool) → IsTable f x → IsOfInequalities x → w ≡ all_lost (size_in x) → old ≡ replicate (length f.checks) false
    → marks new ≡ telling (passings (ops_of f x) f.slots f.body) w (marks old)
    → (length new ≡ length f.checks) × ((id : ℕ) (c : Check) → 1 ≤ id → check_of f id ≡ Some c → (is_some (own_fact x id) && not (get_or new (id - 1) false)) ≡ follows_inequality f id (cond_inequality c.cond))
unfolding IsTable IsOfInequalities
third_marks f (table.Classes t) w old new is of lost unmarked told = absurd of
third_marks f (table.Inequalities t) w old new is of lost unmarked told =
    let made : marks new ≡ telling (passings (ops_of f (table.Inequalities t)) f.slots f.body) (all_lost t.size) (marks (replicate (length f.checks) false)) =
    told ∙ (λ i. telling (passings (ops_of f (table.Inequalities t)) f.slots f.body) (lost i) (marks (unmarked i))) in (
      ap (λ (m : Marking). m.size) made ∙ (telling_size f (table.Inequalities t) f.body (all_lost t.size) (marks (replicate (length f.checks) false)) ∙ length-replicate (length f.checks) false),
      λ id c numbered at. ap (λ (m : Marking). is_some (own_in t id) && not (m.at (id - 1))) made ∙ third f t is id c numbered at,
    )

pub second_marks : (f : CheckedFn) (old new : List Bool) → old ≡ replicate (length f.checks) false → Follows f (flows_of_all f f.body) (marks old) (marks new)
    → (length new ≡ length f.checks) × ((id : ℕ) (c : Check) → 1 ≤ id → check_of f id ≡ Some c → get_or new (id - 1) false ≡ not (follows_equal f id c))
unfolding Follows
second_marks f old new unmarked told =
    let made : Follows f (flows_of_all f f.body) (marks (replicate (length f.checks) false)) (marks new) = subst (λ (l : List Bool). Follows f (flows_of_all f f.body) (marks l) (marks new)) unmarked told in
    (made.0 ∙ length-replicate (length f.checks) false, λ id c numbered at. second f (marks new) id c made numbered at)

-- ---- all three rules
pub kept_is : (f : CheckedFn) (id : ℕ) (c : Check) (unequal met : Bool) → check_of f id ≡ Some c → unequal ≡ not (follows_equal f id c) → met ≡ follows_inequality f id (cond_inequality c.cond)
    → not (is_constant c.cond || (not unequal || met)) ≡ not (redundant f id)
unfolding redundant
kept_is f id c unequal met at second third =
    (λ i. not (is_constant c.cond || (not (second i) || third i)))
    ∙ (ap (λ b. not (is_constant c.cond || (b || follows_inequality f id (cond_inequality c.cond)))) (twice (follows_equal f id c)) ∙ ap (λ o. not (redundant_at f id o)) (sym at))
  where
    twice : (b : Bool) → not (not b) ≡ b
    twice true = refl
    twice false = refl

numbered_at : (f : CheckedFn) (place : ℕ) (x : Check) → place < length f.checks → x ≡ get_or f.checks place x → check_of f (place + 1) ≡ Some x
numbered_at f place x inside is =
    let back : (place + 1) - 1 ≡ place = omega arith in
    check_at f (place + 1) (omega arith) ∙ (ap (slice_get f.checks) back ∙ slice_get_read f.checks (length f.checks) place x refl inside is)

pub kept_here : (f : CheckedFn) (t : Table) (unmet unequal : List Bool) (place : ℕ) (x : Check) (u m o b : Bool) → place < length f.checks → SayUnmet f t unmet → SayUnequal f unequal
    → x ≡ get_or f.checks place x → u ≡ get_or unequal place false → m ≡ get_or unmet place false → o ≡ is_some (own_fact t (place + 1))
    → b ≡ not (is_constant x.cond || (not u || (o && not m))) → b ≡ not (redundant f (place + 1))
unfolding SayUnmet SayUnequal
kept_here f t unmet unequal place x u m o b inside third second read unequal_is unmet_is own_is is =
    let at = numbered_at f place x inside read in
    let back : (place + 1) - 1 ≡ place = omega arith in
    let e = unequal_is ∙ sym (ap (λ n. get_or unequal n false) back) in
    let d = unmet_is ∙ sym (ap (λ n. get_or unmet n false) back) in
    is
    ∙ kept_is f (place + 1) x u (o && not m) at (e ∙ second (place + 1) x (omega arith) at)
    ((λ i. own_is i && not (d i)) ∙ third (place + 1) x (omega arith) at)

pub kept_more : (f : CheckedFn) (xs : List Bool) (k : ℕ) (b : Bool) → length xs ≡ k → b ≡ not (redundant f (k + 1))
    → ((id : ℕ) → 1 ≤ id → id ≤ k → get_or xs (id - 1) true ≡ not (redundant f id)) → (id : ℕ) → 1 ≤ id → id ≤ k + 1 → get_or (xs ++ b ∷ []) (id - 1) true ≡ not (redundant f id)
kept_more f xs k b count now before id low high = elim (eqb_tells id (k + 1)) [
  | inl p ↦ get_or_from_slice_get (xs ++ b ∷ []) (id - 1) b true (pushed_at xs b (id - 1) (omega (arith, p.1, count))) ∙ (now ∙ ap (λ n. not (redundant f n)) (sym p.1))
  | inr p ↦ older p.1
]
  where
    older : (id ≡ k + 1 → ⊥) → get_or (xs ++ b ∷ []) (id - 1) true ≡ not (redundant f id)
    older apart =
        let inside : id - 1 < length xs = omega (arith, low, high, apart, count) in
        get_or_append_left xs (b ∷ []) true (id - 1) inside ∙ before id low (omega (arith, high, apart))

pub exact_is : (f : CheckedFn) (id : ℕ) (b : Bool) → b ≡ not (redundant f id) → (b ≡ false) ↔ Redundant f id
exact_is f id b is = (λ h. (decided f id).0 (twice (redundant f id) (sym is ∙ h)), λ h. is ∙ ap not ((decided f id).1 h))
  where
    twice : (r : Bool) → not r ≡ false → r ≡ true
    twice true h = refl
    twice false h = absurd cc

pub exact_where : {E : Type 0} (f : CheckedFn) (r : Result (Vec Bool) E) → IfOk r (λ v. (id : ℕ) → 1 ≤ id → id ≤ length f.checks → get_or v.items (id - 1) true ≡ not (redundant f id))
    → IfOk r (λ v. (id : ℕ) → 1 ≤ id → id ≤ length f.checks → (get_or v.items (id - 1) true ≡ false) ↔ Redundant f id)
exact_where f (Ok v) h = λ id low high. exact_is f id (get_or v.items (id - 1) true) (h id low high)
exact_where f (Err e) h = tt

-- ---- as the code has it
pub whole_follows : (f : CheckedFn) (x : Table) (st : CheckedStmt) (w : Facts) (old new : List Bool) → IsTable f x → IsOfClasses x → is_plain (out-CheckedStmt st) ≡ true → w ≡ all_lost (size_in x)
    → marks new ≡ noted (act_of (passing (ops_of f x) f.slots st)) w (marks old) → Follows f (flows_in f st) (marks old) (marks new)
whole_follows f x st w old new is of plain lost told =
    subst (λ (m : Marking). Follows f (flows_in f st) (marks old) m) (sym (told ∙ ap (λ v. noted (act_of (passing (ops_of f x) f.slots st)) v (marks old)) lost)) (plain_follows f x st (out-CheckedStmt st) (marks old) refl plain is of)

pub tested_follows : (f : CheckedFn) (x : Table) (e : CheckedExpr) (w : Facts) (old new : List Bool) → IsTable f x → IsOfClasses x → w ≡ all_lost (size_in x)
    → marks new ≡ asked_of (reading (ops_of f x) f.slots e) w (marks old) → Follows f (as_test (seen f.slots e) (Leaves true) (Leaves false) ∷ []) (marks old) (marks new)
tested_follows f x e w old new is of lost told =
    subst (λ (m : Marking). Follows f (as_test (seen f.slots e) (Leaves true) (Leaves false) ∷ []) (marks old) m) (sym (told ∙ ap (λ v. asked_of (reading (ops_of f x) f.slots e) v (marks old)) lost)) (asked_follows f x e (marks old) is of)

pub if_follows : (f : CheckedFn) (line : ℕ) (e : CheckedExpr) (a b : List CheckedStmt) (m n o p : Marking) → Follows f (as_test (seen f.slots e) (Leaves true) (Leaves false) ∷ []) m n → Follows f (flows_of_all f a) n o → Follows f (flows_of_all f b) o p
    → Follows f (flows_in f (V.If line e a b)) m p
if_follows f line e a b m n o p g h k =
    let t : List Flow = as_test (seen f.slots e) (Leaves true) (Leaves false) ∷ [] in
    subst (λ (l : List Flow). Follows f l m p) (sym (if_flows f line e a b)) (follows_then f t (flows_of_all f a ++ flows_of_all f b) m n p g (follows_then f (flows_of_all f a) (flows_of_all f b) n o p h k))

pub while_follows : (f : CheckedFn) (line : ℕ) (e : CheckedExpr) (a : List CheckedStmt) (m n o : Marking) → Follows f (as_test (seen f.slots e) (Leaves true) (Leaves false) ∷ []) m n → Follows f (flows_of_all f a) n o → Follows f (flows_in f (V.While line e a)) m o
while_follows f line e a m n o g h =
    let t : List Flow = as_test (seen f.slots e) (Leaves true) (Leaves false) ∷ [] in
    subst (λ (l : List Flow). Follows f l m o) (sym (while_flows f line e a)) (follows_then f t (flows_of_all f a) m n o g h)

-- the next of statements
pub next_follows : (f : CheckedFn) (ss : List CheckedStmt) (k : ℕ) (d : CheckedStmt) (m n o : Marking) → k < length ss → Follows f (flows_of_all f (take k ss)) m n → Follows f (flows_in f (get_or ss k d)) n o → Follows f (flows_of_all f (take (k + 1) ss)) m o
unfolding flows_of_all
next_follows f ss k d m n o low g h =
    subst (λ (l : List Flow). Follows f l m o)
    (sym (ap (flat_map (flows_in f)) (take_more ss k d low) ∙ (flat_map-append (flows_in f) (take k ss) (get_or ss k d ∷ []) ∙ ap (λ l. flat_map (flows_in f) (take k ss) ++ l) (append-nil (flows_in f (get_or ss k d))))))
    (follows_then f (flat_map (flows_in f) (take k ss)) (flows_in f (get_or ss k d)) m n o g h)

pub all_followed : (f : CheckedFn) (ss : List CheckedStmt) (k : ℕ) (m n : Marking) → length ss ≤ k → Follows f (flows_of_all f (take k ss)) m n → Follows f (flows_of_all f ss) m n
all_followed f ss k m n high g = subst (λ (l : List CheckedStmt). Follows f (flows_of_all f l) m n) (take_all k ss high) g
