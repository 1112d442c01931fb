-- Comments that do not end.
use Rattle.std.proofs.Common.{◌≡◌, ℕ, ◌<◌, Bool, [], ◌∷◌, length, None, refl, arith}
use Rattle.c_tree.specs.Bytes.{Text}
use Rattle.c_tree.specs.Gaps.{after_block}

-- one byte does not end a comment
pub after_block-short : (n : ℕ) (f : Bool) (t : Text) → length t < 2 → None ≡ after_block n f t
after_block-short n f [] h = refl
after_block-short n f (c ∷ []) h = refl
after_block-short n f (c ∷ d ∷ t) h = absurd (omega arith)
