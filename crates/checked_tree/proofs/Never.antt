-- What is evaluated without checks does not fail: it gives a value, or it is wild.
use Rattle.std.proofs.Common.{◌≡◌, ℕ, ◌^◌, nat_lt, Bool, true, false, List, ℤ, pos, negsuc, Ok, Err, if◌then◌else◌, refl}
use Rattle.std.specs.Ordering.{int_eq}
use Rattle.byte_memory.specs.Tested.{Memory, is_inside}
use Rattle.checked_tree.specs.declared.stops.Stop.TheVariants.{Failed, Wild}
use Rattle.checked_tree.specs.declared.shapes.Scalar.{Scalar}
use Rattle.checked_tree.specs.declared.expressions.Arithmetic.{Arithmetic}
use Rattle.checked_tree.specs.declared.expressions.Arithmetic.TheVariants as arithmetic_op
use Rattle.checked_tree.specs.Outcome.{Outcome, ◌>>=◌}
use Rattle.checked_tree.specs.Numbers.{word_of, address, scalar_size, arithmetic, converted}
use Rattle.checked_tree.specs.Memory.{load, reached, read, is_clear, value_from, written, store, cleared}

-- a load does not fail: it gives a value, or it is wild
abbrev pub NeverFails : {A : Type 0} → Outcome A → Type 0
NeverFails (Ok a) = Unit {0}
NeverFails (Err (Failed line kind)) = ⊥
NeverFails (Err Wild) = Unit {0}

pub never_then : {A B : Type 0} (r : Outcome A) (g : A → Outcome B) → NeverFails r → ((a : A) → NeverFails (g a)) → NeverFails (r >>= g)
never_then (Ok a) g h k = k a
never_then (Err (Failed line kind)) g h k = h
never_then (Err Wild) g h k = tt

pub never_picked : {A : Type 0} (b : Bool) (a : A) → NeverFails (if b then Ok a else Err Wild)
never_picked true a = tt
never_picked false a = tt

pub never_word : (z : ℤ) → NeverFails (word_of z)
never_word (pos n) = never_picked (nat_lt n (2 ^ 32)) n
never_word (negsuc n) = tt

pub never_reached : (m : Memory) (z : ℤ) (n : ℕ) → NeverFails (reached m z n)
unfolding reached
never_reached m z n = never_then (word_of z) _ (never_word z) (λ a. never_picked (is_inside m a n) a)

pub load_reads : (m : Memory) (k : Scalar) (a : ℤ) → load m k a ≡ (read m a (scalar_size k) >>= λ bytes. Ok (value_from k bytes))
unfolding load
load_reads m k a = refl

pub never_load : (m : Memory) (k : Scalar) (z : ℤ) → NeverFails (load m k z)
unfolding load read
never_load m k z = never_then _ _ (never_then _ _ (never_reached m z (scalar_size k)) (λ a. tt)) (λ bytes. tt)

pub never_clear : (m : Memory) (z : ℤ) (n : ℕ) → NeverFails (is_clear m z n)
unfolding is_clear read
never_clear m z n = never_then _ _ (never_then _ _ (never_reached m z n) (λ a. tt)) (λ bytes. tt)

pub never_address : (z : ℤ) → NeverFails (address z)
never_address z = never_then (word_of z) _ (never_word z) (λ a. tt)

never_divided : (b : Bool) (z : ℤ) → NeverFails (if b then Err Wild else Ok z)
never_divided true z = tt
never_divided false z = tt

pub never_arithmetic : (op : Arithmetic) (k : Scalar) (x y : ℤ) → NeverFails (arithmetic op k x y)
unfolding arithmetic
never_arithmetic arithmetic_op.Add k x y = tt
never_arithmetic arithmetic_op.Subtract k x y = tt
never_arithmetic arithmetic_op.Multiply k x y = tt
never_arithmetic arithmetic_op.Divide k x y = never_divided (int_eq (converted k y) (pos 0)) _
never_arithmetic arithmetic_op.Remainder k x y = never_divided (int_eq (converted k y) (pos 0)) _
never_arithmetic arithmetic_op.And k x y = tt
never_arithmetic arithmetic_op.Or k x y = tt
never_arithmetic arithmetic_op.Xor k x y = tt
never_arithmetic arithmetic_op.ShiftLeft k x y = tt
never_arithmetic arithmetic_op.ShiftRight k x y = tt

never_written : (m : Memory) (z : ℤ) (n : ℕ) (new : List ℕ) → NeverFails (written m z n new)
unfolding written
never_written m z n new = never_then _ _ (never_reached m z n) (λ a. tt)

pub never_store : (m : Memory) (k : Scalar) (z v : ℤ) → NeverFails (store m k z v)
unfolding store
never_store m k z v = never_written m z _ _

pub never_cleared : (m : Memory) (z : ℤ) (n : ℕ) → NeverFails (cleared m z n)
unfolding cleared
never_cleared m z n = never_written m z n _
