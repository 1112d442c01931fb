-- Evaluation without checks, and what a check tests. The atoms of a check are evaluated so: their own checks were tested before.
use Rattle.std.specs.Prelude.{ℕ, Bool, true, false, not, ◌||◌, List, [], ◌∷◌, ℤ, pos, ◌+ℤ◌, ◌-ℤ◌, ◌*ℤ◌, int_le, int_rem, Option, Some, None, Ok, Err, slice_get, slice_index_or, if◌then◌else◌}
use Rattle.std.specs.Ordering.{int_eq}
use Rattle.dep_expr.specs.Linear.{LinearForm}
use Rattle.checked_tree.specs.declared.stops.Stop.TheVariants.{Wild}
use Rattle.checked_tree.specs.declared.expressions.CheckedExpr.{CheckedExpr}
use Rattle.checked_tree.specs.declared.expressions.CheckedExpr.TheOpen as E
use Rattle.checked_tree.specs.declared.expressions.CheckedExpr.TheFolds.{fold-CheckedExpr}
use Rattle.checked_tree.specs.declared.expressions.Logic.{Logic}
use Rattle.checked_tree.specs.declared.expressions.Logic.TheVariants as logic_op
use Rattle.checked_tree.specs.declared.expressions.PointerSum.{PointerSum}
use Rattle.checked_tree.specs.declared.expressions.PointerSum.TheVariants.{PointerPlus, PlusPointer, PointerMinus}
use Rattle.checked_tree.specs.declared.checks.Cond.{Cond}
use Rattle.checked_tree.specs.declared.checks.Cond.TheVariants.{Le, Aligned, NonZero, Equal, Term, Kept}
use Rattle.checked_tree.specs.Outcome.{Outcome, Got, ◌>>=◌}
use Rattle.checked_tree.specs.Numbers.{converted, address, limited, unary, arithmetic, comparison, truth, holds}
use Rattle.byte_memory.specs.Tested.{Memory}
use Rattle.checked_tree.specs.Memory.{load, is_clear}

-- what evaluation reads: the values of the slots, and the memory
pub record State : Type 0 where
  pub locals : List ℤ
  pub memory : Memory

-- the tests of a form's own checks, by their numbers
abbrev pub Testing : Type 0
Testing = List ℕ → Outcome (Unit {0})

-- a pointer moved by a number of elements
abbrev pub moved : PointerSum → ℕ → ℤ → ℤ → ℤ
moved PointerPlus size p i = p +ℤ (pos size *ℤ i)
moved PlusPointer size p i = p +ℤ (pos size *ℤ i)
moved PointerMinus size p i = p -ℤ (pos size *ℤ i)

-- the parts of a pointer sum, left to right: the pointer and the number
abbrev pub parts : PointerSum → Got → Got → Outcome (ℤ × ℤ)
parts PointerPlus p i = p >>= λ v. i >>= λ n. Ok (v, n)
parts PlusPointer p i = i >>= λ n. p >>= λ v. Ok (v, n)
parts PointerMinus p i = p >>= λ v. i >>= λ n. Ok (v, n)

-- `&&` and `||`: the right side only where the left side leaves it open
abbrev pub logical : Logic → ℤ → Got → Got
logical logic_op.And x right = if holds x then (right >>= λ y. Ok (truth (holds y))) else Ok (pos 0)
logical logic_op.Or x right = if holds x then Ok (pos 1) else (right >>= λ y. Ok (truth (holds y)))

-- one level of an expression: its parts left to right, its own checks, its value
abbrev pub eval_level : Testing → State → E.CheckedExpr-F Got → Got
eval_level tests s (E.Number value scalar) = Ok (converted scalar value)
eval_level tests s E.Null = Ok (pos 0)
eval_level tests s (E.Local slot) = Ok (slice_index_or s.locals slot (pos 0))
eval_level tests s (E.Block base) = Ok (pos base)
eval_level tests s (E.Through pointer checks) = pointer >>= λ p. tests checks >>= λ _. Ok p
eval_level tests s (E.Element pointer index size checks) = pointer >>= λ p. index >>= λ i. tests checks >>= λ _. address (p +ℤ (pos size *ℤ i))
eval_level tests s (E.Field place offset checks) = place >>= λ a. tests checks >>= λ _. address (a +ℤ pos offset)
eval_level tests s (E.Load scalar place) = place >>= λ a. load s.memory scalar a
eval_level tests s (E.AddressOf place) = place
eval_level tests s (E.Moved sum pointer by size checks) = parts sum pointer by >>= λ x. tests checks >>= λ _. address (moved sum size x.0 x.1)
eval_level tests s (E.Unary op scalar of) = of >>= λ x. Ok (unary op scalar x)
eval_level tests s (E.Binary op scalar left right checks) = left >>= λ x. right >>= λ y. tests checks >>= λ _. arithmetic op scalar x y
eval_level tests s (E.Compare op scalar left right) = left >>= λ x. right >>= λ y. Ok (comparison op scalar x y)
eval_level tests s (E.Logical op left right) = left >>= λ x. logical op x right

-- the value of an expression without its checks
unfoldable pub peek : State → CheckedExpr → Got
peek s e = fold-CheckedExpr Got (eval_level (λ _. Ok tt) s) e

-- the value of an atom, by its number
abbrev pub atom_value : State → Option CheckedExpr → Got
atom_value s (Some e) = peek s e
atom_value s None = Err Wild

-- a sum so far, and the terms still to add
abbrev pub sum_from : List CheckedExpr → State → List (ℤ × ℕ) → ℤ → Got
sum_from atoms s [] sum = Ok sum
sum_from atoms s (t ∷ ts) sum = atom_value s (slice_get atoms t.1) >>= λ v. limited (sum +ℤ (t.0 *ℤ v)) >>= λ next. sum_from atoms s ts next

-- the value of a linear form over the atoms
unfoldable pub form_value : List CheckedExpr → State → LinearForm → Got
form_value atoms s l = limited l.constant >>= λ first. sum_from atoms s l.terms first

-- the value of a form, if there is one
abbrev pub optional_value : List CheckedExpr → State → Option LinearForm → Outcome (Option ℤ)
optional_value atoms s None = Ok None
optional_value atoms s (Some l) = form_value atoms s l >>= λ v. Ok (Some v)

-- a guard that is there and 0
abbrev pub is_excused : Option ℤ → Bool
is_excused None = false
is_excused (Some v) = int_eq v (pos 0)

-- a new byte that is there, if any, is 0
abbrev pub is_end : Option ℤ → Bool
is_end None = false
is_end (Some v) = int_eq v (pos 0)

-- a gap that is a multiple of a size
abbrev pub is_multiple : ℤ → ℕ → Bool
is_multiple gap size = int_eq (int_rem gap (pos size)) (pos 0)

-- whether a condition holds
unfoldable pub condition : List CheckedExpr → State → Cond → Outcome Bool
condition atoms s (Le i) = form_value atoms s i.left >>= λ v. optional_value atoms s i.guard >>= λ g. Ok (is_excused g || int_le v (pos 0))
condition atoms s (Aligned gap size guard) = form_value atoms s gap >>= λ v. form_value atoms s guard >>= λ g. Ok (int_eq g (pos 0) || is_multiple v size)
condition atoms s (NonZero l) = form_value atoms s l >>= λ v. Ok (not (int_eq v (pos 0)))
condition atoms s (Equal l z) = form_value atoms s l >>= λ v. Ok (int_eq v z)
condition atoms s (Term at new) = form_value atoms s at >>= λ a. optional_value atoms s new >>= λ n. is_clear s.memory a 1 >>= λ clear. Ok (not clear || is_end n)
condition atoms s (Kept tag new at size) =
    form_value atoms s tag >>= λ t. form_value atoms s new >>= λ n. form_value atoms s at >>= λ a.
    (if int_eq t n then Ok true else is_clear s.memory a size)
