-- What is told is what evaluation gives; without checks nothing is told beside it.
use Rattle.std.proofs.Common.{◌≡◌, ℕ, Bool, true, false, List, [], ◌∷◌, ◌++◌, ℤ, pos, ◌+ℤ◌, ◌*ℤ◌, Option, Some, None, Ok, Err, if◌then◌else◌, refl, sym, ap, subst, ◌∙◌, true≢false}
use Rattle.checked_tree.specs.declared.expressions.CheckedExpr.{CheckedExpr, map-CheckedExpr, roll-CheckedExpr}
use Rattle.checked_tree.specs.declared.expressions.CheckedExpr.TheOpen as E
use Rattle.checked_tree.specs.declared.expressions.CheckedExpr.TheFolds.{fold-CheckedExpr, fold-roll-CheckedExpr, ind-CheckedExpr}
use Rattle.checked_tree.specs.declared.expressions.Logic.{Logic}
use Rattle.checked_tree.specs.declared.expressions.Logic.TheVariants as logic_op
use Rattle.checked_tree.specs.declared.expressions.PointerSum.{PointerSum}
use Rattle.checked_tree.specs.declared.expressions.PointerSum.TheVariants.{PointerPlus, PlusPointer, PointerMinus}
use Rattle.checked_tree.specs.declared.units.CheckedFn.{CheckedFn}
use Rattle.checked_tree.specs.declared.checks.Check.{Check}
use Rattle.checked_tree.specs.Outcome.{Outcome, Got, ◌>>=◌}
use Rattle.checked_tree.specs.Numbers.{truth, holds}
use Rattle.checked_tree.specs.Conditions.{moved, State, Testing, eval_level, parts, logical, peek, condition}
use Rattle.checked_tree.specs.Eval.{Keep, eval, tests, test, is_kept, check_of, or_fails}
use Rattle.checked_tree.proofs.Never.{NeverFails, never_address, never_load, never_arithmetic}
use Rattle.checked_tree.specs.Told.{verdict, Told, Tells, got, tested, behind, ◌>>>◌, quiet, test_told, tests_told, parts_told, logical_told, told_level, told}

-- the same outcome; and nothing is told, where that is asked
pub record Agrees {A : Type 0} (silent : Bool) (t : Told A) (r : Outcome A) : Type 0 where
  pub gives : got t ≡ r
  pub says : silent ≡ true → tested t ≡ []
  pub calm : silent ≡ true → NeverFails r

agrees_behind : {A : Type 0} (q : Bool) (ids : List ℕ) (t : Told A) (r : Outcome A) → (q ≡ true → ids ≡ []) → Agrees q t r → Agrees q (behind ids t) r
agrees_behind q ids (Tells x more) r s h = record { gives = h.gives; says = λ e. ap (λ (l : List ℕ). l ++ more) (s e) ∙ h.says e; calm = h.calm }

pub agrees_then : {A B : Type 0} (q : Bool) (t : Told A) (r : Outcome A) (g : A → Told B) (h : A → Outcome B) → Agrees q t r → ((a : A) → Agrees q (g a) (h a)) → Agrees q (t >>> g) (r >>= h)
agrees_then q (Tells (Ok a) ids) r g h k m = subst (λ x. Agrees q (behind ids (g a)) (x >>= h)) k.gives (agrees_behind q ids (g a) (h a) k.says (m a))
agrees_then {B = B} q (Tells (Err e) ids) r g h k m = subst (λ x. Agrees q (Tells (Err e) ids) (x >>= h)) k.gives (record { gives = refl; says = k.says; calm = λ p. subst NeverFails (sym k.gives) (k.calm p) })

agrees_quiet : {A : Type 0} (q : Bool) (r : Outcome A) → NeverFails r → Agrees q (quiet r) r
agrees_quiet q r n = record { gives = refl; says = λ e. refl; calm = λ e. n }

agrees_picked : {A : Type 0} (q b : Bool) (t u : Told A) (r w : Outcome A) → Agrees q t r → Agrees q u w → Agrees q (if b then t else u) (if b then r else w)
agrees_picked q true t u r w h k = h
agrees_picked q false t u r w h k = k

module _ (q : Bool) (telling : List ℕ → Told (Unit {0})) (testing : Testing) (s : State) (alike : (ids : List ℕ) → Agrees q (telling ids) (testing ids)) where
  abbrev tell : CheckedExpr → Told ℤ
  tell e = fold-CheckedExpr (Told ℤ) (told_level telling s) e

  abbrev give : CheckedExpr → Got
  give e = fold-CheckedExpr Got (eval_level testing s) e

  abbrev IsAlike : CheckedExpr → Type 0
  IsAlike e = Agrees q (tell e) (give e)

  abbrev Both : Type 0
  Both = (e : CheckedExpr) × IsAlike e

  agrees_parts : (sum : PointerSum) (t u : Told ℤ) (r w : Got) → Agrees q t r → Agrees q u w → Agrees q (parts_told sum t u) (parts sum r w)
  agrees_parts PointerPlus t u r w h k = agrees_then q t r _ _ h (λ v. agrees_then q u w _ _ k (λ n. agrees_quiet q _ tt))
  agrees_parts PlusPointer t u r w h k = agrees_then q u w _ _ k (λ n. agrees_then q t r _ _ h (λ v. agrees_quiet q _ tt))
  agrees_parts PointerMinus t u r w h k = agrees_then q t r _ _ h (λ v. agrees_then q u w _ _ k (λ n. agrees_quiet q _ tt))

  agrees_truth : (u : Told ℤ) (w : Got) → Agrees q u w → Agrees q (u >>> λ y. quiet (Ok (truth (holds y)))) (w >>= λ y. Ok (truth (holds y)))
  agrees_truth u w k = agrees_then q u w _ _ k (λ y. agrees_quiet q _ tt)

  agrees_logical : (op : Logic) (x : ℤ) (u : Told ℤ) (w : Got) → Agrees q u w → Agrees q (logical_told op x u) (logical op x w)
  agrees_logical logic_op.And x u w k = agrees_picked q (holds x) _ _ _ _ (agrees_truth u w k) (agrees_quiet q (Ok (pos 0)) tt)
  agrees_logical logic_op.Or x u w k = agrees_picked q (holds x) _ _ _ _ (agrees_quiet q (Ok (pos 1)) tt) (agrees_truth u w k)

  abbrev told_by : E.CheckedExpr-F Both → Told ℤ
  told_by x = told_level telling s (map-CheckedExpr Both (Told ℤ) (λ k. tell k.0) x)

  abbrev given_by : E.CheckedExpr-F Both → Got
  given_by x = eval_level testing s (map-CheckedExpr Both Got (λ k. give k.0) x)

  by_level : (x : E.CheckedExpr-F Both) → Agrees q (told_by x) (given_by x)
  by_level (E.Number value scalar) = agrees_quiet q _ tt
  by_level E.Null = agrees_quiet q _ tt
  by_level (E.Local slot) = agrees_quiet q _ tt
  by_level (E.Block base) = agrees_quiet q _ tt
  by_level (E.Through p ids) = agrees_then q _ _ _ _ p.1 (λ v. agrees_then q _ _ _ _ (alike ids) (λ _. agrees_quiet q _ tt))
  by_level (E.Element p i size ids) = agrees_then q _ _ _ _ p.1 (λ v. agrees_then q _ _ _ _ i.1 (λ n. agrees_then q _ _ _ _ (alike ids) (λ _. agrees_quiet q _ (never_address (v +ℤ (pos size *ℤ n))))))
  by_level (E.Field p offset ids) = agrees_then q _ _ _ _ p.1 (λ v. agrees_then q _ _ _ _ (alike ids) (λ _. agrees_quiet q _ (never_address (v +ℤ pos offset))))
  by_level (E.Load scalar p) = agrees_then q _ _ _ _ p.1 (λ v. agrees_quiet q _ (never_load _ _ _))
  by_level (E.AddressOf p) = p.1
  by_level (E.Moved sum p i size ids) = agrees_then q _ _ _ _ (agrees_parts sum _ _ _ _ p.1 i.1) (λ x. agrees_then q _ _ _ _ (alike ids) (λ _. agrees_quiet q _ (never_address (moved sum size x.0 x.1))))
  by_level (E.Unary op scalar a) = agrees_then q _ _ _ _ a.1 (λ v. agrees_quiet q _ tt)
  by_level (E.Binary op scalar a b ids) = agrees_then q _ _ _ _ a.1 (λ v. agrees_then q _ _ _ _ b.1 (λ w. agrees_then q _ _ _ _ (alike ids) (λ _. agrees_quiet q _ (never_arithmetic op scalar v w))))
  by_level (E.Compare op scalar a b) = agrees_then q _ _ _ _ a.1 (λ v. agrees_then q _ _ _ _ b.1 (λ w. agrees_quiet q _ tt))
  by_level (E.Logical op a b) = agrees_then q _ _ _ _ a.1 (λ v. agrees_logical op v _ _ b.1)

  plain_parts : E.CheckedExpr-F Both → E.CheckedExpr-F CheckedExpr
  plain_parts x = map-CheckedExpr Both CheckedExpr (λ k. k.0) x

  same_told : (x : E.CheckedExpr-F Both) → told_level telling s (map-CheckedExpr CheckedExpr (Told ℤ) tell (plain_parts x)) ≡ told_by x
  unfolding plain_parts
  same_told E.Null = refl
  same_told _ = refl

  same_given : (x : E.CheckedExpr-F Both) → eval_level testing s (map-CheckedExpr CheckedExpr Got give (plain_parts x)) ≡ given_by x
  unfolding plain_parts
  same_given E.Null = refl
  same_given _ = refl

  pub all_agree : (e : CheckedExpr) → IsAlike e
  unfolding plain_parts
  all_agree = ind-CheckedExpr IsAlike (λ z x is. subst (λ l. IsAlike (roll-CheckedExpr l)) is (here x))
    where
      here : (x : E.CheckedExpr-F Both) → IsAlike (roll-CheckedExpr (map-CheckedExpr Both CheckedExpr (λ k. k.0) x))
      here x =
          let a = fold-roll-CheckedExpr (Told ℤ) (told_level telling s) (plain_parts x) ∙ same_told x in
          let b = fold-roll-CheckedExpr Got (eval_level testing s) (plain_parts x) ∙ same_given x in
          subst (λ (t : Told ℤ). Agrees q t (give (roll-CheckedExpr (plain_parts x)))) (sym a) (subst (λ (g : Got). Agrees q (told_by x) g) (sym b) (by_level x))

told_test : (f : CheckedFn) (s : State) (id : ℕ) (c : Option Check) → Agrees false (test_told f s id c) (test f s c)
told_test f s id None = record { gives = refl; says = λ e. refl; calm = λ e. tt }
told_test f s id (Some c) = agrees_then false (quiet (condition f.atoms s c.cond)) (condition f.atoms s c.cond) (verdict c id) (or_fails c) first after
  where
    first : Agrees false (quiet (condition f.atoms s c.cond)) (condition f.atoms s c.cond)
    first = record { gives = refl; says = λ e. refl; calm = λ e. absurd (true≢false (sym e)) }

    after : (b : Bool) → Agrees false (verdict c id b) (or_fails c b)
    after b = record { gives = refl; says = λ e. absurd (true≢false (sym e)); calm = λ e. absurd (true≢false (sym e)) }

told_one : (f : CheckedFn) (s : State) (id : ℕ) (b : Bool) → Agrees false (if b then test_told f s id (check_of f id) else quiet (Ok tt)) (if b then test f s (check_of f id) else Ok tt)
told_one f s id true = told_test f s id (check_of f id)
told_one f s id false = agrees_quiet false (Ok tt) tt

pub tests_agree : (keep : Keep) (f : CheckedFn) (s : State) (ids : List ℕ) → Agrees false (tests_told keep f s ids) (tests keep f s ids)
unfolding tests_told tests
tests_agree keep f s [] = agrees_quiet false (Ok tt) tt
tests_agree keep f s (id ∷ ids) = agrees_then false _ _ _ _ (told_one f s id (is_kept keep id)) (λ _. tests_agree keep f s ids)

-- what is told of an expression is what it evaluates to
pub told_is : (keep : Keep) (f : CheckedFn) (s : State) (e : CheckedExpr) → got (told keep f s e) ≡ eval keep f s e
unfolding told eval
told_is keep f s e = (all_agree false (tests_told keep f s) (tests keep f s) s (tests_agree keep f s) e).gives

as_quiet : {A : Type 0} (t : Told A) (r : Outcome A) → Agrees true t r → t ≡ quiet r
as_quiet (Tells x ids) r h = ap (λ y. Tells y ids) h.gives ∙ ap (λ (l : List ℕ). Tells r l) (h.says refl)

-- without checks nothing is told
pub told_peek : (s : State) (e : CheckedExpr) → fold-CheckedExpr (Told ℤ) (told_level (λ ids. quiet (Ok tt)) s) e ≡ quiet (peek s e)
unfolding peek
told_peek s e = as_quiet _ _ (all_agree true (λ ids. quiet (Ok tt)) (λ ids. Ok tt) s (λ ids. agrees_quiet true (Ok tt) tt) e)

-- an expression without its checks does not fail
pub never_peek : (s : State) (e : CheckedExpr) → NeverFails (peek s e)
unfolding peek
never_peek s e = (all_agree true (λ ids. quiet (Ok tt)) (λ ids. Ok tt) s (λ ids. agrees_quiet true (Ok tt) tt) e).calm refl
