-- What an expression evaluates to with its checks it evaluates to without them, and its bare form too.
use Rattle.std.proofs.Common.{◌≡◌, ℕ, List, ℤ, pos, Ok, Err, Bool, true, false, if◌then◌else◌, refl, sym, ap, subst, ◌∙◌}
use Rattle.checked_tree.specs.declared.expressions.CheckedExpr.{CheckedExpr, map-CheckedExpr, roll-CheckedExpr}
use Rattle.checked_tree.specs.declared.expressions.CheckedExpr.TheOpen as E
use Rattle.checked_tree.specs.declared.expressions.CheckedExpr.TheFolds.{fold-CheckedExpr, fold-roll-CheckedExpr, ind-CheckedExpr}
use Rattle.checked_tree.specs.declared.expressions.Logic.{Logic}
use Rattle.checked_tree.specs.declared.expressions.Logic.TheVariants as logic_op
use Rattle.checked_tree.specs.declared.expressions.PointerSum.{PointerSum}
use Rattle.checked_tree.specs.declared.expressions.PointerSum.TheVariants.{PointerPlus, PlusPointer, PointerMinus}
use Rattle.checked_tree.specs.declared.units.CheckedFn.{CheckedFn}
use Rattle.checked_tree.specs.Outcome.{Outcome, Got, ◌>>=◌}
use Rattle.checked_tree.specs.Numbers.{holds, truth}
use Rattle.checked_tree.specs.Conditions.{State, Testing, eval_level, parts, logical, peek}
use Rattle.checked_tree.specs.Eval.{Keep, eval, tests}
use Rattle.checked_tree.proofs.Outcomes.{Agree, agree_same, agree_bind}

-- a tested form, and the same without tests
two : {A B : Type 0} (f : A → A → B) (a b c d : A) → a ≡ b → c ≡ d → f a c ≡ f b d
two f a b c d p q = ap (λ x. f x c) p ∙ ap (λ y. f b y) q

abbrev passed : Outcome (Unit {0})
passed = Ok tt

agree_tested : {A : Type 0} (r : Outcome (Unit {0})) (t : Outcome A) → Agree (r >>= λ _. t) (passed >>= λ _. t)
agree_tested (Ok u) t = agree_same t
agree_tested (Err e) t = record { agrees = λ a h. absurd cc }

module _ (tested untested : Testing) (free : (ids : List ℕ) → untested ids ≡ Ok tt) (st : State) where
  by_tests : {A : Type 0} (ids : List ℕ) (t : Outcome A) → Agree (tested ids >>= λ _. t) (untested ids >>= λ _. t)
  by_tests ids t = subst (λ (u : Outcome (Unit {0})). Agree (tested ids >>= λ _. t) (u >>= λ _. t)) (sym (free ids)) (agree_tested (tested ids) t)

  agree_picked : (b : Bool) (g h : Got) (z : ℤ) → Agree g h → Agree (if b then (g >>= λ y. Ok (truth (holds y))) else Ok z) (if b then (h >>= λ y. Ok (truth (holds y))) else Ok z)
  agree_picked true g h z a = agree_bind g h _ _ a (λ y. agree_same _)
  agree_picked false g h z a = agree_same _

  agree_left : (b : Bool) (g h : Got) (z : ℤ) → Agree g h → Agree (if b then Ok z else (g >>= λ y. Ok (truth (holds y)))) (if b then Ok z else (h >>= λ y. Ok (truth (holds y))))
  agree_left true g h z a = agree_same _
  agree_left false g h z a = agree_bind g h _ _ a (λ y. agree_same _)

  agree_logical : (op : Logic) (x : ℤ) (g h : Got) → Agree g h → Agree (logical op x g) (logical op x h)
  agree_logical logic_op.And x g h a = agree_picked (holds x) g h (pos 0) a
  agree_logical logic_op.Or x g h a = agree_left (holds x) g h (pos 1) a

  -- an expression that does
  abbrev Peeked : Type 0
  Peeked = (e : CheckedExpr) × Agree (fold-CheckedExpr Got (eval_level tested st) e) (fold-CheckedExpr Got (eval_level untested st) e)

  abbrev with_tests : E.CheckedExpr-F Peeked → Got
  with_tests x = eval_level tested st (map-CheckedExpr Peeked Got (λ k. fold-CheckedExpr Got (eval_level tested st) k.0) x)

  abbrev without_tests : E.CheckedExpr-F Peeked → Got
  without_tests x = eval_level untested st (map-CheckedExpr Peeked Got (λ k. fold-CheckedExpr Got (eval_level untested st) k.0) x)

  agree_parts : (sum : PointerSum) (p i q j : Got) → Agree p q → Agree i j → Agree (parts sum p i) (parts sum q j)
  agree_parts PointerPlus p i q j a b = agree_bind p q _ _ a (λ v. agree_bind i j _ _ b (λ n. agree_same _))
  agree_parts PlusPointer p i q j a b = agree_bind i j _ _ b (λ v. agree_bind p q _ _ a (λ n. agree_same _))
  agree_parts PointerMinus p i q j a b = agree_bind p q _ _ a (λ v. agree_bind i j _ _ b (λ n. agree_same _))

  by_level : (x : E.CheckedExpr-F Peeked) → Agree (with_tests x) (without_tests x)
  by_level (E.Number value scalar) = agree_same _
  by_level E.Null = agree_same _
  by_level (E.Local slot) = agree_same _
  by_level (E.Block base) = agree_same _
  by_level (E.Through p ids) = agree_bind _ _ _ _ p.1 (λ v. by_tests ids _)
  by_level (E.Element p i size ids) = agree_bind _ _ _ _ p.1 (λ v. agree_bind _ _ _ _ i.1 (λ n. by_tests ids _))
  by_level (E.Field p offset ids) = agree_bind _ _ _ _ p.1 (λ v. by_tests ids _)
  by_level (E.Load scalar p) = agree_bind _ _ _ _ p.1 (λ v. agree_same _)
  by_level (E.AddressOf p) = p.1
  by_level (E.Moved sum p i size ids) = agree_bind _ _ _ _ (agree_parts sum _ _ _ _ p.1 i.1) (λ v. by_tests ids _)
  by_level (E.Unary op scalar a) = agree_bind _ _ _ _ a.1 (λ v. agree_same _)
  by_level (E.Binary op scalar a b ids) = agree_bind _ _ _ _ a.1 (λ v. agree_bind _ _ _ _ b.1 (λ w. by_tests ids _))
  by_level (E.Compare op scalar a b) = agree_bind _ _ _ _ a.1 (λ v. agree_bind _ _ _ _ b.1 (λ w. agree_same _))
  by_level (E.Logical op a b) = agree_bind _ _ _ _ a.1 (λ v. agree_logical op v _ _ b.1)

  parts_of : E.CheckedExpr-F Peeked → E.CheckedExpr-F CheckedExpr
  parts_of x = map-CheckedExpr Peeked CheckedExpr (λ k. k.0) x

  abbrev level_at : Testing → E.CheckedExpr-F CheckedExpr → Got
  level_at t y = eval_level t st (map-CheckedExpr CheckedExpr Got (fold-CheckedExpr Got (eval_level t st)) y)

  same_with : (x : E.CheckedExpr-F Peeked) → level_at tested (parts_of x) ≡ with_tests x
  unfolding parts_of
  same_with E.Null = refl
  same_with _ = refl

  same_without : (x : E.CheckedExpr-F Peeked) → level_at untested (parts_of x) ≡ without_tests x
  unfolding parts_of
  same_without E.Null = refl
  same_without _ = refl

  abbrev IsPeeked : CheckedExpr → Type 0
  IsPeeked e = Agree (fold-CheckedExpr Got (eval_level tested st) e) (fold-CheckedExpr Got (eval_level untested st) e)

  all_peeked : (e : CheckedExpr) → IsPeeked e
  unfolding parts_of
  all_peeked = ind-CheckedExpr IsPeeked (λ z x is. subst (λ l. IsPeeked (roll-CheckedExpr l)) is (here x))
    where
      here : (x : E.CheckedExpr-F Peeked) → IsPeeked (roll-CheckedExpr (map-CheckedExpr Peeked CheckedExpr (λ k. k.0) x))
      here x =
          let a = fold-roll-CheckedExpr Got (eval_level tested st) (parts_of x) ∙ same_with x in
          let b = fold-roll-CheckedExpr Got (eval_level untested st) (parts_of x) ∙ same_without x in
          subst (λ (g : Got). Agree g (fold-CheckedExpr Got (eval_level untested st) (roll-CheckedExpr (parts_of x)))) (sym a)
          (subst (λ (g : Got). Agree (with_tests x) g) (sym b) (by_level x))

pub eval_peek : (keep : Keep) (f : CheckedFn) (st : State) (e : CheckedExpr) (v : ℤ) → eval keep f st e ≡ Ok v → peek st e ≡ Ok v
unfolding eval peek
eval_peek keep f st e v h = (all_peeked (tests keep f st) (λ ids. Ok tt) (λ ids. refl) st e).agrees v h
