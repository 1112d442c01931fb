-- A pointer that is moved by whole elements: where it lands, and what lies there.
use Rattle.std.proofs.Common.{◌≡◌, ℕ, suc, ◌+◌, ◌-◌, ◌*◌, ◌^◌, ◌<◌, ◌≤◌, nat_le, IsTrue, Bool, true, false, List, ℤ, pos}
use Rattle.std.proofs.Common.{negsuc, ◌+ℤ◌, ◌*ℤ◌, neg_ℤ, int_le, Ok, Err, if◌then◌else◌, refl, sym, ap, ◌∙◌, subst, arith}
use Rattle.std.proofs.Math.IntN.{*ℤ_comm}
use Rattle.std.proofs.lemmas.Bool.{lt-ltb}
use Rattle.std.proofs.lemmas.Int.{ints}
use Rattle.std.proofs.lemmas.Nat.{mul-le}
use Rattle.dep_expr.proofs.Integers.{neg-mul}
use Rattle.sd_base.specs.Blocks.{Block}
use Rattle.checked_tree.specs.declared.shapes.Scalar.{Scalar}
use Rattle.checked_tree.specs.declared.shapes.Scalar.TheVariants.{Void, U8, I8, U16, I16, I32, U32, Pointer}
use Rattle.checked_tree.specs.declared.shapes.Shape.{Shape}
use Rattle.checked_tree.specs.declared.shapes.StructShape.{StructShape}
use Rattle.checked_tree.specs.declared.stops.Stop.TheVariants.{Wild}
use Rattle.checked_tree.specs.Numbers.{address, is_of, is_word}
use Rattle.checked_tree.specs.Outcome.{◌>>=◌}
use Rattle.deputy_types.specs.Fitting.{shape_size}
use Rattle.deputy_types.specs.StructLaws.{IsMultiple}
use Rattle.deputy_rules.specs.Places.{is_unsigned}
use Rattle.driver_safety.specs.Reaching.{IsOpenAt, IsBetween}

pub times_pos : (m n : ℕ) → pos m *ℤ pos n ≡ pos (m * n)
times_pos m n = refl

pub le_pos : (a b : ℕ) → IsTrue (int_le (pos a) (pos b)) → a ≤ b
le_pos a b h = grind arith

pub pos_le : (a b : ℕ) → a ≤ b → IsTrue (int_le (pos a) (pos b))
pos_le a b h = grind arith

pub pos_same : (m n : ℕ) → pos m ≡ pos n → m ≡ n
pos_same m n h = cc

pub record IsNatural (z : ℤ) : Type 0 where
  pub number : ℕ
  pub is : z ≡ pos number

pub from_natural : (a : ℕ) (z : ℤ) → IsTrue (int_le (pos a) z) → IsNatural z
from_natural a (pos n) h = record { number = n; is = refl }
from_natural a (negsuc n) h = absurd cc

-- an address is an address
pub address_is : (z : ℤ) (a : ℕ) → z ≡ pos a → a < 2 ^ 32 → address z ≡ Ok (pos a)
address_is z a e l = ap address e ∙ ap (λ (b : Bool). (if b then Ok a else Err Wild) >>= λ n. Ok (pos n)) (lt-ltb a (2 ^ 32) l)

pub word_at : (z : ℤ) (a : ℕ) → z ≡ pos a → a < 2 ^ 32 → IsTrue (is_word z)
word_at z a e l = subst (λ (y : ℤ). IsTrue (is_word y)) (sym e) (lt-ltb a (2 ^ 32) l)

-- an `unsigned` is not negative
pub unsigned_natural : (s : Scalar) (z : ℤ) → is_unsigned s ≡ true → IsTrue (is_of s z) → IsNatural z
unfolding is_of
unsigned_natural U32 (pos n) e h = record { number = n; is = refl }
unsigned_natural U32 (negsuc n) e h = absurd cc
unsigned_natural Void z e h = absurd cc
unsigned_natural U8 z e h = absurd cc
unsigned_natural I8 z e h = absurd cc
unsigned_natural U16 z e h = absurd cc
unsigned_natural I16 z e h = absurd cc
unsigned_natural I32 z e h = absurd cc
unsigned_natural (Pointer size) z e h = absurd cc

-- ---- so many elements on or back
pub data Step (size : ℕ) (d : ℤ) : Type 0 where
  forward : (n : ℕ) → d ≡ pos (n * size) → Step size d
  backward : (n : ℕ) → d ≡ neg_ℤ (pos (n * size)) → Step size d

swap : (m n : ℕ) → m * n ≡ n * m
swap m n = grind arith

pub step_of : (size : ℕ) (i : ℤ) → Step size (pos size *ℤ i)
step_of size (pos n) = forward n (ap (λ (m : ℕ). pos m) (swap size n))
step_of size (negsuc n) = backward (suc n) (*ℤ_comm (pos size) (negsuc n) ∙ neg-mul (pos (suc n)) (pos size))

twice : (m : ℕ) → neg_ℤ (neg_ℤ (pos m)) ≡ pos m
twice m = omega (arith, ints)

pub back : (size : ℕ) (d : ℤ) → Step size d → Step size (neg_ℤ d)
back size d (forward n e) = backward n (ap neg_ℤ e)
back size d (backward n e) = forward n (ap neg_ℤ e ∙ twice (n * size))

spread : (a b c : ℕ) → (a + b) * c ≡ a * c + b * c
spread a b c = grind arith

-- where it lands
pub record HasLanded (size from : ℕ) (w : ℤ) : Type 0 where
  pub at : ℕ
  pub is : w ≡ pos at
  pub above : from ≤ at
  pub whole : IsMultiple size (at - from)

fewer : (size from at w k n : ℕ) → from ≤ w → w + n * size ≡ at → at - from ≡ k * size → IsMultiple size (w - from)
fewer size from at w k n l e h = by (nat_le n k) refl
  where
    by : (b : Bool) → nat_le n k ≡ b → IsMultiple size (w - from)
    by true g =
        let less : n ≤ k = grind arith in
        let sum : k ≡ (k - n) + n = omega (arith, less) in
        let split : k * size ≡ (k - n) * size + n * size = ap (λ (x : ℕ). x * size) sum ∙ spread (k - n) n size in
        (k - n, omega (arith, split, h, e, l))
    by false g =
        let less : k ≤ n = grind arith in
        let more : k * size ≤ n * size = mul-le k size n size less (omega arith) in
        (0, omega (arith, more, h, e, l))

pub lands : (size from at : ℕ) (v d : ℤ) → Step size d → v ≡ pos at → from ≤ at → IsMultiple size (at - from)
    → IsTrue (int_le (pos from) (v +ℤ d)) → HasLanded size from (v +ℤ d)
lands size from at v d (forward n e) is above whole low =
    let split : (whole.0 + n) * size ≡ whole.0 * size + n * size = spread whole.0 n size in
    let count : at - from ≡ whole.0 * size = whole.1 in
    record {
      at = at + n * size;
      is = ap (λ (y : ℤ). y +ℤ d) is ∙ ap (λ (y : ℤ). pos at +ℤ y) e;
      above = omega (arith, above);
      whole = (whole.0 + n, omega (arith, split, count, above));
    }
lands size from at v d (backward n e) is above whole low =
    let w : IsNatural (v +ℤ d) = from_natural from (v +ℤ d) low in
    let l : from ≤ w.number = le_pos from w.number (subst (λ (y : ℤ). IsTrue (int_le (pos from) y)) w.is low) in
    let same : pos at +ℤ neg_ℤ (pos (n * size)) ≡ pos w.number = sym (ap (λ (y : ℤ). y +ℤ d) is ∙ ap (λ (y : ℤ). pos at +ℤ y) e) ∙ w.is in
    let sum : w.number + n * size ≡ at = omega (arith, ints, same) in
    record { at = w.number; is = w.is; above = l; whole = fewer size from at w.number whole.0 n l sum whole.1 }

-- what lies there, where a whole element ends within the bounds
pub open_there : (blocks : List Block) (elems : List Shape) (structs : List StructShape) (own : Shape) (lo hi v : ℤ)
    (b : IsBetween blocks elems structs own lo hi v) (at : ℕ)
    → b.from ≤ at → IsMultiple (shape_size structs own) (at - b.from) → at + shape_size structs own ≤ b.to → IsOpenAt elems structs b.block
    own at
open_there blocks elems structs own lo hi v b at above whole ends =
    let n : ℕ = shape_size structs own in
    let count : at - b.from ≡ whole.0 * n = whole.1 in
    let here : b.from + whole.0 * n ≡ at = omega (arith, count, above) in
    let more : (whole.0 + 1) * n ≡ whole.0 * n + n = grind arith in
    subst (λ (a : ℕ). IsOpenAt elems structs b.block own a) here (b.elements whole.0 (omega (arith, more, here, ends)))
