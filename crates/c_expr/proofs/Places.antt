-- From what stands after a phrase to the place where it ends.
use Rattle.std.proofs.Common.{◌≡◌, ℕ, ◌+◌, ◌-◌, ◌<◌, ◌≤◌, ◌⊎◌, List, [], ◌∷◌, ◌++◌, length, take, drop, slice_range, None, Some, refl, ap, sym, ◌∙◌, subst, inl, inr, append-nil, length-append, length-drop, take-append-drop, arith}
use Rattle.c_tree.specs.declared.expressions.Expr.{Expr}
use Rattle.c_tree.specs.declared.words.Token.{Token}
use Rattle.c_tree.specs.Reading.{Best, Within}
use Rattle.c_tree.specs.ExpressionGrammar.{Row, IsExpr}
use Rattle.c_expr.specs.Strength.{Tighter}
use Rattle.c_expr.proofs.Spans.{row_span}

-- the front part of a list
front_part : {A : Type 0} (s v : List A) → take (length s) (s ++ v) ≡ s
front_part [] v = refl
front_part (x ∷ s) v = ap (λ t. x ∷ t) (front_part s v)

-- what an expression takes, where these words stand after it
pub spelled_whole : (w v : List Token) (x : Expr) → Row 0 w v x → IsExpr (take (length w - length v) w) x
spelled_whole w v x d =
    let s = row_span d in
    let sizes : length w ≡ length s.words + length v = ap length s.parts ∙ length-append s.words v in
    let count : length w - length v ≡ length s.words = omega arith in
    let part : take (length w - length v) w ≡ s.words = ap (λ n. take n w) count ∙ ap (λ z. take (length s.words) z) s.parts ∙ front_part s.words v in
    let alone : Row 0 s.words [] x = subst (λ z. Row 0 z [] x) (append-nil s.words) (s.anywhere []) in
    subst (λ z. Row 0 z [] x) (sym part) alone

pub place_found : (ws v : List Token) (at : ℕ) (x : Expr) → at ≤ length ws → Row 0 (drop at ws) v x → IsExpr (slice_range ws at (length ws - length v)) x
place_found ws v at x h d =
    let size = length-drop at ws in
    let count : length (drop at ws) - length v ≡ length ws - length v - at = omega arith in
    subst (λ n. Row 0 (take n (drop at ws)) [] x) count (spelled_whole (drop at ws) v x d)

-- an expression that stands alone stands before any words
pub before_any : (s r : List Token) (x : Expr) → IsExpr s x → Row 0 (s ++ r) r x
before_any s r x d = let p = row_span d in let same : p.words ≡ s = sym (p.parts ∙ append-nil p.words) in subst (λ z. Row 0 (z ++ r) r x) same (p.anywhere r)

pub from_place : (ws : List Token) (at n : ℕ) (x : Expr) → IsExpr (slice_range ws at n) x → Row 0 (drop at ws) (drop (n - at) (drop at ws)) x
from_place ws at n x d =
    let from = drop at ws in
    let whole : take (n - at) from ++ drop (n - at) from ≡ from = take-append-drop (n - at) from in
    subst (λ z. Row 0 z (drop (n - at) from) x) whole (before_any (take (n - at) from) (drop (n - at) from) x d)

pub place_longest : (ws : List Token) (at : ℕ) (a : Expr × List Token) → at ≤ length ws → length a.1 < length (drop at ws) → Best (Row 0 (drop at ws)) (Tighter 0) (Some a)
    → (n : ℕ) (x : Expr) → n ≤ length ws → IsExpr (slice_range ws at n) x → (n < length ws - length a.1) ⊎ ((n ≡ length ws - length a.1) × (x ≡ a.0))
place_longest ws at a h shorter best n x within d = by (best.covers (drop (n - at) (drop at ws)) x (from_place ws at n x d))
  where
    rest : List Token
    rest = drop (n - at) (drop at ws)

    by : Within (Tighter 0) (drop (n - at) (drop at ws)) x a → (n < length ws - length a.1) ⊎ ((n ≡ length ws - length a.1) × (x ≡ a.0))
    by (inr p) = let fewer = p.0 in let size = length-drop at ws in let left = length-drop (n - at) (drop at ws) in inl (omega arith)
    by (inl e) = let same : length a.1 ≡ length (drop (n - at) (drop at ws)) = ap length e.1 in let size = length-drop at ws in let left = length-drop (n - at) (drop at ws) in
        let place : n ≡ length ws - length a.1 = omega arith in inr (place, sym e.0)

pub place_none : (ws : List Token) (at : ℕ) → Best (Row 0 (drop at ws)) (Tighter 0) None → (n : ℕ) (x : Expr) → n ≤ length ws → IsExpr (slice_range ws at n) x → ⊥
place_none ws at best n x within d = best.covers (drop (n - at) (drop at ws)) x (from_place ws at n x d)
