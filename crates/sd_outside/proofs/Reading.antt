-- A text that is read in pieces: what was read is the front of what was left.
use Rattle.std.proofs.Common.{◌≡◌, ℕ, ◌+◌, ◌<◌, List, [], ◌++◌, length, take, drop, Option, None, Some, IfSome, option_map, refl, ◌∙◌, arith, append_assoc, append-nil, take-append-drop, length-append}
use Rattle.sd_outside.specs.Shelf.{Gives, LeavesOthers}

-- what was left is the text so far and what is left now
abbrev pub IsFront : List ℕ → Option (List ℕ) → Option (List ℕ) → Type 0
IsFront text before now = before ≡ option_map (λ rest. text ++ rest) now

pub IsFront-start : (l : Option (List ℕ)) → IsFront [] l l
IsFront-start None = refl
IsFront-start (Some rest) = refl

-- one more piece
pub IsFront-piece : (before now after : Option (List ℕ)) (text buffer : List ℕ) (n : ℕ) → IsFront text before now → after ≡ option_map (drop n) now
    → IfSome now (λ bytes. Gives bytes buffer n) → IsFront (text ++ take n buffer) before after
IsFront-piece before None after text buffer n front moved gives = rw (moved) front
IsFront-piece before (Some bytes) after text buffer n front moved gives =
    rw (moved, gives.bytes, append_assoc text (take n bytes) (drop n bytes), take-append-drop n bytes) front

-- at the end the text is all that was left
pub IsFront-end : (before now : Option (List ℕ)) (text buffer : List ℕ) (n : ℕ) → IsFront text before now → n ≡ 0 → 0 < length buffer
    → IfSome now (λ bytes. Gives bytes buffer n) → IfSome before (λ bytes. text ≡ bytes)
IsFront-end before None text buffer n front none room gives = rw front tt
IsFront-end before (Some bytes) text buffer n front none room gives = rw front (rw (gives.«end» none room, append-nil) refl)

-- a piece that takes the text past a limit shows that more than the limit was left
pub IsFront-beyond : (limit : ℕ) (before now : Option (List ℕ)) (text buffer : List ℕ) (n : ℕ) → IsFront text before now → limit < length text + n
    → IfSome now (λ bytes. Gives bytes buffer n) → IfSome before (λ bytes. limit < length bytes)
IsFront-beyond limit before None text buffer n front far gives = rw front tt
IsFront-beyond limit before (Some bytes) text buffer n front far gives = rw front (rw length-append (omega (arith, gives.fits)))

-- nothing read leaves all
pub LeavesOthers-start : (name : List ℕ) (l : List ℕ → Option (List ℕ)) → LeavesOthers name l l
LeavesOthers-start name l = record { told = refl; others = λ other differs. refl }

-- one read after another
pub LeavesOthers-next : (name : List ℕ) (a b c : List ℕ → Option (List ℕ)) → LeavesOthers name a b → LeavesOthers name b c → LeavesOthers name a c
LeavesOthers-next name a b c p q = record {
  told = q.told ∙ p.told;
  others = λ other differs. q.others other differs ∙ p.others other differs;
}
