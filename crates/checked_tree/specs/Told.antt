-- Evaluation that also tells the numbers of the checks that it tests, in order: what is counted, what is printed of them, and what the
-- code of an expression takes. `told_is` of proofs/Telling says that its first part is the evaluation.
use Rattle.std.specs.Prelude.{ℕ, Bool, List, [], ◌∷◌, ◌++◌, length, ℤ, pos, ◌+ℤ◌, ◌*ℤ◌, Option, Some, None, Ok, Err, slice_index_or, if◌then◌else◌}
use Rattle.checked_tree.specs.declared.stops.Stop.TheVariants.{Wild}
use Rattle.checked_tree.specs.declared.checks.Check.{Check}
use Rattle.checked_tree.specs.declared.units.CheckedFn.{CheckedFn}
use Rattle.checked_tree.specs.declared.expressions.CheckedExpr.{CheckedExpr}
use Rattle.checked_tree.specs.declared.expressions.CheckedExpr.TheOpen as E
use Rattle.checked_tree.specs.declared.expressions.CheckedExpr.TheFolds.{fold-CheckedExpr}
use Rattle.checked_tree.specs.declared.expressions.Logic.{Logic}
use Rattle.checked_tree.specs.declared.expressions.Logic.TheVariants as logic_op
use Rattle.checked_tree.specs.declared.expressions.PointerSum.{PointerSum}
use Rattle.checked_tree.specs.declared.expressions.PointerSum.TheVariants.{PointerPlus, PlusPointer, PointerMinus}
use Rattle.checked_tree.specs.Outcome.{Outcome}
use Rattle.checked_tree.specs.Numbers.{converted, address, unary, arithmetic, comparison, truth, holds}
use Rattle.checked_tree.specs.Memory.{load}
use Rattle.checked_tree.specs.Conditions.{State, moved, condition}
use Rattle.checked_tree.specs.Eval.{Keep, is_kept, check_of, or_fails}

-- an outcome, and the numbers of the checks that were tested on the way
pub data Told (A : Type 0) : Type 0 where
  Tells : Outcome A → List ℕ → Told A

abbrev pub got : {A : Type 0} → Told A → Outcome A
got (Tells r ids) = r

abbrev pub tested : {A : Type 0} → Told A → List ℕ
tested (Tells r ids) = ids

-- how many checks were tested, a failing one among them
abbrev pub count_tested : {A : Type 0} → Told A → ℕ
count_tested t = length (tested t)

-- what was told before stands first
abbrev pub behind : {A : Type 0} → List ℕ → Told A → Told A
behind ids (Tells r more) = Tells r (ids ++ more)

-- first the one, then with its value the other; a stop ends both
infixl 10 ◌>>>◌
abbrev pub ◌>>>◌ : {A B : Type 0} → Told A → (A → Told B) → Told B
Tells (Ok a) ids >>> g = behind ids (g a)
Tells (Err stop) ids >>> g = Tells (Err stop) ids

-- an outcome in which no check is tested
abbrev pub quiet : {A : Type 0} → Outcome A → Told A
quiet r = Tells r []

-- a check tells its number once its condition has a value, whether it holds or fails
abbrev pub verdict : Check → ℕ → Bool → Told (Unit {0})
verdict c id b = Tells (or_fails c b) (id ∷ [])

abbrev pub test_told : CheckedFn → State → ℕ → Option Check → Told (Unit {0})
test_told f s id None = quiet (Err Wild)
test_told f s id (Some c) = quiet (condition f.atoms s c.cond) >>> verdict c id

-- one check, if it is kept
abbrev pub test_one : Keep → CheckedFn → State → ℕ → Told (Unit {0})
test_one keep f s id = if is_kept keep id then test_told f s id (check_of f id) else quiet (Ok tt)

-- the kept ones of these checks, in order
unfoldable pub tests_told : Keep → CheckedFn → State → List ℕ → Told (Unit {0})
tests_told keep f s [] = quiet (Ok tt)
tests_told keep f s (id ∷ ids) = test_one keep f s id >>> λ _. tests_told keep f s ids

-- the parts of a pointer sum, left to right
abbrev pub parts_told : PointerSum → Told ℤ → Told ℤ → Told (ℤ × ℤ)
parts_told PointerPlus p i = p >>> λ v. i >>> λ n. quiet (Ok (v, n))
parts_told PlusPointer p i = i >>> λ n. p >>> λ v. quiet (Ok (v, n))
parts_told PointerMinus p i = p >>> λ v. i >>> λ n. quiet (Ok (v, n))

-- `&&` and `||`
abbrev pub logical_told : Logic → ℤ → Told ℤ → Told ℤ
logical_told logic_op.And x right = if holds x then (right >>> λ y. quiet (Ok (truth (holds y)))) else quiet (Ok (pos 0))
logical_told logic_op.Or x right = if holds x then quiet (Ok (pos 1)) else (right >>> λ y. quiet (Ok (truth (holds y))))

-- one level of an expression: its parts left to right, its own checks, its value
abbrev pub told_level : (List ℕ → Told (Unit {0})) → State → E.CheckedExpr-F (Told ℤ) → Told ℤ
told_level tests s (E.Number value scalar) = quiet (Ok (converted scalar value))
told_level tests s E.Null = quiet (Ok (pos 0))
told_level tests s (E.Local slot) = quiet (Ok (slice_index_or s.locals slot (pos 0)))
told_level tests s (E.Block base) = quiet (Ok (pos base))
told_level tests s (E.Through pointer checks) = pointer >>> λ p. tests checks >>> λ _. quiet (Ok p)
told_level tests s (E.Element pointer index size checks) =
    pointer >>> λ p. index >>> λ i. tests checks >>> λ _. quiet (address (p +ℤ (pos size *ℤ i)))
told_level tests s (E.Field place offset checks) = place >>> λ a. tests checks >>> λ _. quiet (address (a +ℤ pos offset))
told_level tests s (E.Load scalar place) = place >>> λ a. quiet (load s.memory scalar a)
told_level tests s (E.AddressOf place) = place
told_level tests s (E.Moved sum pointer by size checks) =
    parts_told sum pointer by >>> λ x. tests checks >>> λ _. quiet (address (moved sum size x.0 x.1))
told_level tests s (E.Unary op scalar of) = of >>> λ x. quiet (Ok (unary op scalar x))
told_level tests s (E.Binary op scalar left right checks) =
    left >>> λ x. right >>> λ y. tests checks >>> λ _. quiet (arithmetic op scalar x y)
told_level tests s (E.Compare op scalar left right) = left >>> λ x. right >>> λ y. quiet (Ok (comparison op scalar x y))
told_level tests s (E.Logical op left right) = left >>> λ x. logical_told op x right

-- the value of an expression, and the checks tested for it
unfoldable pub told : Keep → CheckedFn → State → CheckedExpr → Told ℤ
told keep f s e = fold-CheckedExpr (Told ℤ) (told_level (tests_told keep f s) s) e
