-- What is stored in a place of a type is read there again.
use Rattle.std.proofs.Common.{◌≡◌, ℕ, ◌+◌, ◌-◌, ◌%◌, ◌^◌, ◌<◌, ◌≤◌, IsTrue, List, length, ℤ, pos, negsuc}
use Rattle.std.proofs.Common.{ap, ◌∙◌, arith}
use Rattle.byte_memory.specs.Bytes.{low_bytes, overwritten}
use Rattle.byte_memory.proofs.Addresses.{load_after_store}
use Rattle.checked_tree.specs.declared.shapes.Scalar.{Scalar}
use Rattle.checked_tree.specs.declared.shapes.Scalar.TheVariants.{Void, U8, I8, U16, I16, I32, U32, Pointer}
use Rattle.checked_tree.specs.declared.shapes.Shape.TheVariants as shape
use Rattle.checked_tree.specs.Numbers.{low_bits, signed, converted, is_of, scalar_size}
use Rattle.deputy_types.specs.Fitting.{place_value}
use Rattle.checked_tree.proofs.Conversions.{converted_same, small_pos, small_neg, none_below, word_is, signed_neg}

-- the low bytes of a number that is stored
back_pos : (n m : ℕ) → m < n → n ≤ 4294967296 → m % 4294967296 % n ≡ m
back_pos n m h k = let a : m % 4294967296 ≡ m = grind arith in let b : m % n ≡ m = grind arith in ap (λ (x : ℕ). x % n) a ∙ b

pub stored_same : (s : Scalar) (w : ℤ) → IsTrue (is_of s w) → converted s (pos (low_bits 32 w % 256 ^ scalar_size s)) ≡ w
unfolding is_of converted
stored_same Void w h = absurd cc
stored_same U8 (pos m) h = let l = small_pos 255 m (pos 0) h in let e : m % 4294967296 % 256 ≡ m = back_pos 256 m (omega (arith, l))
    (omega arith) in ap (converted U8) (ap (λ (n : ℕ). pos n) e) ∙ converted_same U8 (pos m) h
stored_same U8 (negsuc m) h = absurd (none_below 255 m h)
stored_same U16 (pos m) h = let l = small_pos 65535 m (pos 0) h in let e : m % 4294967296 % 65536 ≡ m = back_pos 65536 m (omega (arith, l))
    (omega arith) in ap (converted U16) (ap (λ (n : ℕ). pos n) e) ∙ converted_same U16 (pos m) h
stored_same U16 (negsuc m) h = absurd (none_below 65535 m h)
stored_same U32 (pos m) h = let e : m % 4294967296 % 4294967296 ≡ m = back_pos 4294967296 m (word_is m h) (omega arith) in ap
    (converted U32) (ap (λ (n : ℕ). pos n) e) ∙ converted_same U32 (pos m) h
stored_same U32 (negsuc m) h = absurd cc
stored_same (Pointer size) (pos m) h = let e : m % 4294967296 % 4294967296 ≡ m = back_pos 4294967296 m (word_is m h) (omega arith) in ap
    (converted (Pointer size)) (ap (λ (n : ℕ). pos n) e) ∙ converted_same (Pointer size) (pos m) h
stored_same (Pointer size) (negsuc m) h = absurd cc
stored_same I8 (pos m) h = let l = small_pos 127 m (negsuc 127) h in let e : m % 4294967296 % 256 ≡ m = back_pos 256 m (omega (arith, l))
    (omega arith) in ap (converted I8) (ap (λ (n : ℕ). pos n) e) ∙ converted_same I8 (pos m) h
stored_same I8 (negsuc m) h = let l = small_neg 127 m (pos 127) h in let e : (4294967295 - m % 4294967296) % 256 % 256 ≡ 255 - m % 256 =
    grind (arith, l) in ap (signed 8) e ∙ signed_neg 128 m (omega (arith, l))
stored_same I16 (pos m) h = let l = small_pos 32767 m (negsuc 32767) h in let e : m % 4294967296 % 65536 ≡ m = back_pos 65536 m
    (omega (arith, l)) (omega arith) in ap (converted I16) (ap (λ (n : ℕ). pos n) e) ∙ converted_same I16 (pos m) h
stored_same I16 (negsuc m) h = let l = small_neg 32767 m (pos 32767) h in let e : (4294967295 - m % 4294967296) % 65536 % 65536 ≡ 65535 - m
    % 65536 = grind (arith, l) in ap (signed 16) e ∙ signed_neg 32768 m (omega (arith, l))
stored_same I32 (pos m) h = let l = small_pos 2147483647 m (negsuc 2147483647) h in let e : m % 4294967296 % 4294967296 ≡ m = back_pos
    4294967296 m (omega (arith, l)) (omega arith) in ap (converted I32) (ap (λ (n : ℕ). pos n) e) ∙ converted_same I32 (pos m) h
stored_same I32 (negsuc m) h = let l = small_neg 2147483647 m (pos 2147483647) h in let e : (4294967295 - m % 4294967296) % 4294967296 %
    4294967296 ≡ 4294967295 - m % 4294967296 = grind (arith, l) in ap (signed 32) e ∙ signed_neg 2147483648 m (omega (arith, l))

-- the number of the place that was written
pub stored_value : (bytes : List ℕ) (a : ℕ) (s : Scalar) (w : ℤ) → a + scalar_size s ≤ length bytes → IsTrue (is_of s w)
    → place_value (overwritten bytes a (low_bytes (scalar_size s) (low_bits 32 w))) a (shape.Int s) ≡ w
stored_value bytes a s w l h = ap (λ (n : ℕ). converted s (pos n)) (load_after_store bytes a (scalar_size s) (low_bits 32 w) l)
    ∙ stored_same s w h
