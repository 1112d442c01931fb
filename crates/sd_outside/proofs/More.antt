-- What is written in parts is what is written at once.
use Rattle.std.proofs.Common.{◌≡◌, ℕ, ◌+◌, ◌-◌, List, [], ◌++◌, length, take, drop, Option, None, Some, refl, ap, append_assoc, take-append-drop, append-nil}
use Rattle.std.proofs.lemmas.List.{take_rest}
use Rattle.std.proofs.Math.Seq.{take-add}
use Rattle.sd_outside.specs.Sink.{more, IsCut}

-- one piece and then another is both together
pub more-more : (w : Option (List ℕ)) (a b : List ℕ) → more (more w a) b ≡ more w (a ++ b)
more-more None a b = refl
more-more (Some told) a b = ap (λ (l : List ℕ). Some l) (append_assoc told a b)

-- nothing more is what there was
pub more-nothing : (w : Option (List ℕ)) → more w [] ≡ w
more-nothing None = refl
more-nothing (Some told) = rw append-nil refl

-- a front part of the rest of a piece, after the front of the piece
pub more-front : (w : Option (List ℕ)) (at n : ℕ) (bytes : List ℕ) → more (more w (take at bytes)) (take n (take (length bytes - at) (drop at bytes))) ≡ more w (take (at + n) bytes)
more-front w at n bytes =
    rw (take_rest bytes at, more-more w (take at bytes) (take n (drop at bytes)), take-add at n bytes) refl

-- the front of a piece is a cut of the whole piece
pub IsCut-front : (w now : Option (List ℕ)) (at : ℕ) (bytes : List ℕ) → now ≡ more w (take at bytes) → IsCut now (more w bytes)
IsCut-front w now at bytes e = record {
  rest = drop at bytes;
  is = rw (e, more-more w (take at bytes) (drop at bytes), take-append-drop at bytes) refl;
}
