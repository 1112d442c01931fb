-- A padded array and the list that it keeps determine each other.
use Rattle.std.proofs.Common.{◌≡◌, ℕ, ◌≤◌, List, length, take, arith}
use Rattle.std.proofs.Common.{length-take-le, take-append-drop}
use Rattle.sd_base.specs.Padded.{IsPadded, padded}

-- what an array keeps, padded, is the array, and its length is the array's len
pub padded-take : (size len : ℕ) (array : List ℕ) → IsPadded size len array → (padded size (take len array) ≡ array) × (length (take len array) ≡ len)
padded-take size len array p =
    let bound : len ≤ length array = omega arith in
    let e : length (take len array) ≡ len = length-take-le len array bound in
    (rw e (rw (← p.zeros) (take-append-drop len array)), e)
