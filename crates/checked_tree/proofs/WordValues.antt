-- An expression without its checks has a value of 32 bits, if it has one, wherever the slots have such values and each block of it is at such an address.
use Rattle.std.proofs.Common.{◌≡◌, ◌≢◌, ℕ, zero, suc, ◌^◌, nat_lt, Bool, true, false, ◌&&◌, IsTrue, List, [], ◌∷◌, ℤ, pos, negsuc, ◌+ℤ◌, ◌*ℤ◌, Ok, Err, slice_index_or, if◌then◌else◌, refl, sym, ap, subst, ◌∙◌, arith}
use Rattle.std.proofs.lemmas.Int.{ints}
use Rattle.std.specs.Ordering.{int_eq}
use Rattle.byte_memory.specs.Tested.{Memory}
use Rattle.checked_tree.specs.declared.stops.Stop.TheVariants.{Wild}
use Rattle.checked_tree.specs.declared.shapes.Scalar.{Scalar}
use Rattle.checked_tree.specs.declared.shapes.Scalar.TheVariants.{Void, U8, I8, U16, I16, I32, U32, Pointer}
use Rattle.checked_tree.specs.declared.expressions.CheckedExpr.{CheckedExpr, map-CheckedExpr, roll-CheckedExpr}
use Rattle.checked_tree.specs.declared.expressions.CheckedExpr.TheOpen as E
use Rattle.checked_tree.specs.declared.expressions.CheckedExpr.TheFolds.{fold-CheckedExpr, fold-roll-CheckedExpr, ind-CheckedExpr}
use Rattle.checked_tree.specs.declared.expressions.Unary.{Unary}
use Rattle.checked_tree.specs.declared.expressions.Unary.TheVariants as unary_op
use Rattle.checked_tree.specs.declared.expressions.Arithmetic.{Arithmetic}
use Rattle.checked_tree.specs.declared.expressions.Arithmetic.TheVariants as arithmetic_op
use Rattle.checked_tree.specs.declared.expressions.Comparison.{Comparison}
use Rattle.checked_tree.specs.declared.expressions.Logic.{Logic}
use Rattle.checked_tree.specs.declared.expressions.Logic.TheVariants as logic_op
use Rattle.checked_tree.specs.declared.expressions.PointerSum.{PointerSum}
use Rattle.checked_tree.specs.Outcome.{Outcome, Got, ◌>>=◌}
use Rattle.checked_tree.specs.Numbers.{converted, word_of, address, is_word, is_value, unary, arithmetic, compared, comparison, truth, holds, scalar_size}
use Rattle.checked_tree.specs.Memory.{read, load, value_from}
use Rattle.checked_tree.specs.declared.shapes.Shape.{Shape}
use Rattle.checked_tree.specs.declared.shapes.Shape.TheVariants as shape
use Rattle.checked_tree.specs.Ranges.{is_held, are_in_range}
use Rattle.checked_tree.specs.Conditions.{State, Testing, moved, parts, logical, eval_level, peek}
use Rattle.checked_tree.specs.Light.{blocks_level, blocks_fit, SlotsHaveWords, PeekedIsWord, InRangeHasWords}
use Rattle.checked_tree.proofs.FormNumbers.{Chained, chained}
use Rattle.checked_tree.proofs.NumberRanges.{converted_of, of_value, word_value}

-- an outcome whose value, if it has one, has 32 bits
abbrev IsWordOut : Got → Type 0
IsWordOut r = (v : ℤ) → r ≡ Ok v → IsTrue (is_value v)

word_ok : (z : ℤ) → IsTrue (is_value z) → IsWordOut (Ok z)
word_ok z h v e = let same : z ≡ v = cc in subst (λ (x : ℤ). IsTrue (is_value x)) same h

word_wild : IsWordOut (Err Wild)
word_wild v e = absurd cc

word_then : {A : Type 0} (r : Outcome A) (g : A → Got) → ((a : A) → IsWordOut (g a)) → IsWordOut (r >>= g)
word_then r g h v e = let c = chained r g v e in h c.value v c.second

converted_value : (s : Scalar) (z : ℤ) → IsTrue (is_value (converted s z))
unfolding converted
converted_value Void z = refl
converted_value U8 z = of_value U8 (converted U8 z) (converted_of U8 z (λ e. absurd cc))
converted_value I8 z = of_value I8 (converted I8 z) (converted_of I8 z (λ e. absurd cc))
converted_value U16 z = of_value U16 (converted U16 z) (converted_of U16 z (λ e. absurd cc))
converted_value I16 z = of_value I16 (converted I16 z) (converted_of I16 z (λ e. absurd cc))
converted_value I32 z = of_value I32 (converted I32 z) (converted_of I32 z (λ e. absurd cc))
converted_value U32 z = of_value U32 (converted U32 z) (converted_of U32 z (λ e. absurd cc))
converted_value (Pointer size) z = of_value (Pointer size) (converted (Pointer size) z) (converted_of (Pointer size) z (λ e. absurd cc))

truth_value : (b : Bool) → IsTrue (is_value (truth b))
truth_value true = refl
truth_value false = refl

small_word : (n : ℕ) → IsTrue (nat_lt n (2 ^ 32)) → IsTrue (is_value (pos n))
small_word n h = word_value (pos n) h

abbrev word_by : Bool → ℕ → Outcome ℕ
word_by b n = if b then Ok n else Err Wild

address_word : (z : ℤ) → IsWordOut (address z)
address_word (pos n) v e = by (nat_lt n (2 ^ 32)) refl e
  where
    by : (b : Bool) → nat_lt n (2 ^ 32) ≡ b → (word_by b n >>= λ a. Ok (pos a)) ≡ Ok v → IsTrue (is_value v)
    by true p e = let same : pos n ≡ v = cc in subst (λ (x : ℤ). IsTrue (is_value x)) same (small_word n p)
    by false p e = absurd cc
address_word (negsuc n) v e = absurd cc

load_word : (m : Memory) (s : Scalar) (a : ℤ) → IsWordOut (load m s a)
unfolding load
load_word m s a = word_then (read m a (scalar_size s)) (λ bytes. Ok (value_from s bytes)) (λ bytes. word_ok _ (converted_value s _))

unary_word : (op : Unary) (s : Scalar) (x : ℤ) → IsTrue (is_value (unary op s x))
unfolding unary
unary_word unary_op.Plus s x = converted_value s x
unary_word unary_op.Negative s x = converted_value s _
unary_word unary_op.Complement s x = converted_value s _
unary_word unary_op.Not s x = truth_value _
unary_word unary_op.Cast s x = converted_value s x

comparison_word : (op : Comparison) (s : Scalar) (x y : ℤ) → IsTrue (is_value (comparison op s x y))
unfolding comparison
comparison_word op s x y = truth_value (compared op (converted s x) (converted s y))

divided_word : (b : Bool) (z : ℤ) → IsTrue (is_value z) → IsWordOut (if b then Err Wild else Ok z)
divided_word true z h = word_wild
divided_word false z h = word_ok z h

arithmetic_word : (op : Arithmetic) (s : Scalar) (x y : ℤ) → IsWordOut (arithmetic op s x y)
unfolding arithmetic
arithmetic_word arithmetic_op.Add s x y = word_ok _ (converted_value s _)
arithmetic_word arithmetic_op.Subtract s x y = word_ok _ (converted_value s _)
arithmetic_word arithmetic_op.Multiply s x y = word_ok _ (converted_value s _)
arithmetic_word arithmetic_op.Divide s x y = divided_word (int_eq (converted s y) (pos 0)) _ (converted_value s _)
arithmetic_word arithmetic_op.Remainder s x y = divided_word (int_eq (converted s y) (pos 0)) _ (converted_value s _)
arithmetic_word arithmetic_op.And s x y = word_ok _ (converted_value s _)
arithmetic_word arithmetic_op.Or s x y = word_ok _ (converted_value s _)
arithmetic_word arithmetic_op.Xor s x y = word_ok _ (converted_value s _)
arithmetic_word arithmetic_op.ShiftLeft s x y = word_ok _ (converted_value s _)
arithmetic_word arithmetic_op.ShiftRight s x y = word_ok _ (converted_value s _)

picked_word : (b : Bool) (g : Got) (z : ℤ) → IsTrue (is_value z) → IsWordOut (if b then (g >>= λ y. Ok (truth (holds y))) else Ok z)
picked_word true g z h = word_then g _ (λ y. word_ok _ (truth_value (holds y)))
picked_word false g z h = word_ok z h

left_word : (b : Bool) (g : Got) (z : ℤ) → IsTrue (is_value z) → IsWordOut (if b then Ok z else (g >>= λ y. Ok (truth (holds y))))
left_word true g z h = word_ok z h
left_word false g z h = word_then g _ (λ y. word_ok _ (truth_value (holds y)))

logical_word : (op : Logic) (x : ℤ) (g : Got) → IsWordOut (logical op x g)
logical_word logic_op.And x g = picked_word (holds x) g (pos 0) refl
logical_word logic_op.Or x g = left_word (holds x) g (pos 1) refl

module _ (s : State) (slots : SlotsHaveWords s) where
  abbrev untested : Testing
  untested ids = Ok tt

  abbrev here : CheckedExpr → Got
  here e = fold-CheckedExpr Got (eval_level untested s) e

  abbrev fits : CheckedExpr → Bool
  fits e = fold-CheckedExpr Bool blocks_level e

  abbrev IsFit : CheckedExpr → Type 0
  IsFit e = IsTrue (fits e) → IsWordOut (here e)

  abbrev Both : Type 0
  Both = (e : CheckedExpr) × IsFit e

  abbrev here_by : E.CheckedExpr-F Both → Got
  here_by x = eval_level untested s (map-CheckedExpr Both Got (λ k. here k.0) x)

  abbrev fits_by : E.CheckedExpr-F Both → Bool
  fits_by x = blocks_level (map-CheckedExpr Both Bool (λ k. fits k.0) x)

  by_level : (x : E.CheckedExpr-F Both) → IsTrue (fits_by x) → IsWordOut (here_by x)
  by_level (E.Number value scalar) h = word_ok _ (converted_value scalar value)
  by_level E.Null h = word_ok (pos 0) refl
  by_level (E.Local slot) h = word_ok _ (slots slot)
  by_level (E.Block base) h = word_ok (pos base) (small_word base h)
  by_level (E.Through p ids) h = λ v e. let c = chained (here p.0) (λ a. Ok a) v e in let same : c.value ≡ v = cc in subst (λ (z : ℤ). IsTrue (is_value z)) same (p.1 h c.value c.first)
  by_level (E.Element p i size ids) h =
      word_then (here p.0) (λ a. here i.0 >>= λ n. address (a +ℤ (pos size *ℤ n))) (λ a.
      word_then (here i.0) (λ n. address (a +ℤ (pos size *ℤ n))) (λ n. address_word (a +ℤ (pos size *ℤ n))))
  by_level (E.Field p offset ids) h = word_then (here p.0) (λ a. address (a +ℤ pos offset)) (λ a. address_word (a +ℤ pos offset))
  by_level (E.Load scalar p) h = word_then (here p.0) (λ a. load s.memory scalar a) (λ a. load_word s.memory scalar a)
  by_level (E.AddressOf p) h = p.1 h
  by_level (E.Moved sum p i size ids) h =
      word_then (parts sum (here p.0) (here i.0)) (λ x. address (moved sum size x.0 x.1)) (λ x. address_word (moved sum size x.0 x.1))
  by_level (E.Unary op scalar a) h = word_then (here a.0) (λ x. Ok (unary op scalar x)) (λ x. word_ok (unary op scalar x) (unary_word op scalar x))
  by_level (E.Binary op scalar a b ids) h =
      word_then (here a.0) (λ x. here b.0 >>= λ y. arithmetic op scalar x y) (λ x.
      word_then (here b.0) (λ y. arithmetic op scalar x y) (λ y. arithmetic_word op scalar x y))
  by_level (E.Compare op scalar a b) h =
      word_then (here a.0) (λ x. here b.0 >>= λ y. Ok (comparison op scalar x y)) (λ x.
      word_then (here b.0) (λ y. Ok (comparison op scalar x y)) (λ y. word_ok (comparison op scalar x y) (comparison_word op scalar x y)))
  by_level (E.Logical op a b) h = word_then (here a.0) (λ x. logical op x (here b.0)) (λ x. logical_word op x (here b.0))

  plain_parts : E.CheckedExpr-F Both → E.CheckedExpr-F CheckedExpr
  plain_parts x = map-CheckedExpr Both CheckedExpr (λ k. k.0) x

  same_here : (x : E.CheckedExpr-F Both) → eval_level untested s (map-CheckedExpr CheckedExpr Got here (plain_parts x)) ≡ here_by x
  unfolding plain_parts
  same_here E.Null = refl
  same_here _ = refl

  same_fits : (x : E.CheckedExpr-F Both) → blocks_level (map-CheckedExpr CheckedExpr Bool fits (plain_parts x)) ≡ fits_by x
  unfolding plain_parts
  same_fits E.Null = refl
  same_fits _ = refl

  all_fit : (e : CheckedExpr) → IsFit e
  unfolding plain_parts
  all_fit = ind-CheckedExpr IsFit (λ z x is. subst (λ l. IsFit (roll-CheckedExpr l)) is (one x))
    where
      one : (x : E.CheckedExpr-F Both) → IsFit (roll-CheckedExpr (map-CheckedExpr Both CheckedExpr (λ k. k.0) x))
      one x h v e =
          let a = fold-roll-CheckedExpr Bool blocks_level (plain_parts x) ∙ same_fits x in
          let b = fold-roll-CheckedExpr Got (eval_level untested s) (plain_parts x) ∙ same_here x in
          by_level x (sym a ∙ h) v (sym b ∙ e)

pub peeked_is_word : PeekedIsWord
unfolding peek blocks_fit
peeked_is_word s e slots fit v h = all_fit s slots e fit v h

-- ---- locals in range
held_word : (shape : Shape) (z : ℤ) → IsTrue (is_held shape z) → IsTrue (is_value z)
held_word (shape.Int scalar) z h = of_value scalar z h
held_word (shape.Pointer elem bounds) z h = word_value z h
held_word (shape.Struct number) z h = absurd cc
held_word shape.Address z h = word_value z h

and_true : (a b : Bool) → IsTrue (a && b) → IsTrue a × IsTrue b
and_true true b h = (refl, h)
and_true false b h = absurd cc

in_range : (shapes : List Shape) (locals : List ℤ) → IsTrue (are_in_range shapes locals) → (k : ℕ) → IsTrue (is_value (slice_index_or locals k (pos 0)))
unfolding are_in_range
in_range [] [] h zero = refl
in_range [] [] h (suc k) = refl
in_range [] (z ∷ zs) h k = absurd cc
in_range (x ∷ xs) [] h k = absurd cc
in_range (x ∷ xs) (z ∷ zs) h zero = held_word x z (and_true (is_held x z) (are_in_range xs zs) h).0
in_range (x ∷ xs) (z ∷ zs) h (suc k) = in_range xs zs (and_true (is_held x z) (are_in_range xs zs) h).1 k

pub in_range_words : InRangeHasWords
in_range_words shapes s h k = in_range shapes s.locals h k
