-- A text that grows by the line of one number after another.
-- Here: lines_more, lines_all
use Rattle.std.proofs.Common.{◌≡◌, ℕ, ◌+◌, ◌-◌, ◌≤◌, ◌<◌, suc, List, ◌++◌, sym, ap, ◌∙◌, append_assoc, arith}
use Rattle.std.proofs.lemmas.List.{append-nil}
use Rattle.std.specs.List.{flat_map, range_with_len}

-- the line of k is the first of the lines from k to n
lines_from : (f : ℕ → List ℕ) (k n : ℕ) → k ≤ n → flat_map f (range_with_len k (n + 1 - k)) ≡ f k ++ flat_map f (range_with_len (k + 1) (n + 1 - (k + 1)))
lines_from f k n h =
    let e : n + 1 - k ≡ suc (n + 1 - (k + 1)) = omega arith in
    ap (λ m. flat_map f (range_with_len k m)) e

-- After the line of k is written, the lines from k + 1 are still to come.
pub lines_more : (f : ℕ → List ℕ) (text whole : List ℕ) (k n : ℕ) → k ≤ n → text ++ flat_map f (range_with_len k (n + 1 - k)) ≡ whole
    → (text ++ f k) ++ flat_map f (range_with_len (k + 1) (n + 1 - (k + 1))) ≡ whole
lines_more f text whole k n h e =
    append_assoc text (f k) _ ∙ ap (λ rest. text ++ rest) (sym (lines_from f k n h)) ∙ e

-- After the line of n nothing is to come.
pub lines_all : (f : ℕ → List ℕ) (text whole : List ℕ) (k n : ℕ) → n < k → text ++ flat_map f (range_with_len k (n + 1 - k)) ≡ whole → text ≡ whole
lines_all f text whole k n h e =
    let none : n + 1 - k ≡ 0 = omega arith in
    sym (append-nil text) ∙ ap (λ m. text ++ flat_map f (range_with_len k m)) (sym none) ∙ e
