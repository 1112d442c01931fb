-- Writing at the end of a padded list leaves it padded.
use Rattle.std.proofs.Common.{◌≡◌, ℕ, ◌+◌, ◌-◌, ◌≤◌, List, ◌++◌, length, take, drop, replicate, arith, length-append, length-drop, length-take, length-take-le, refl}
use Rattle.std.proofs.lemmas.List.{drop-replicate, drop-drop, length-replicate}
use Rattle.std.proofs.lemmas.Slice.{drop-put_mid, drop-append-drop, take-put_mid}
use borrow.Rule.Slice.PartMut.{put_mid}
use Rattle.sd_base.specs.Padded.{IsPadded}

-- zeros from a place on are zeros from a later place on
pub zeros-later : (size a k : ℕ) (xs : List ℕ) → drop a xs ≡ replicate (size - a) 0 → drop (a + k) xs ≡ replicate (size - (a + k)) 0
zeros-later size a k xs z =
    let e : (size - a) - k ≡ size - (a + k) = omega arith in
    rw (← drop-drop k a xs, z, drop-replicate {X = ℕ} k (size - a) 0, e) refl

-- these bytes over the first zeros are padded
pub padded-over-zeros : (size n : ℕ) (s zeros : List ℕ) → length s ≡ n → n ≤ size → zeros ≡ replicate size 0 → IsPadded size n (s ++ drop n zeros)
padded-over-zeros size n s zeros e h z = record {
  fits = h;
  whole = rw (length-append, length-drop, z, length-replicate, e) (omega arith);
  zeros = rw (drop-append-drop n zeros s n (omega arith) e, z) (drop-replicate n size 0);
}

-- these bytes after those that are kept are padded
pub padded-written : (size a k n : ℕ) (xs ys : List ℕ) → IsPadded size a xs → length ys ≡ k → n ≡ a + k → n ≤ size → IsPadded size n (put_mid a k xs ys)
padded-written size a k n xs ys p e m h =
    let fits : a ≤ length xs = omega arith in
    let past : a + k ≤ n = omega arith in
    record {
      fits = h;
      whole = simp (length-append, length-take, length-drop) (omega arith);
      zeros = rw (drop-put_mid a k xs ys n past fits e, m) (zeros-later size a k xs p.zeros);
    }

-- the list that is kept is then the list before and these bytes after it
pub kept-written : (size a k n : ℕ) (xs ys s text : List ℕ) → IsPadded size a xs → take a xs ≡ s → ys ≡ text → n ≡ a + length text → take n (put_mid a k xs ys) ≡ s ++ text
kept-written size a k n xs ys s text p was e m =
    let fits : a ≤ length xs = omega arith in
    let place : n ≡ a + length ys = rw e m in
    rw (take-put_mid a k xs ys n place fits, was, e) refl

-- a padded list is as long as its array says
pub length-kept : (size a : ℕ) (xs s : List ℕ) → IsPadded size a xs → take a xs ≡ s → length s ≡ a
length-kept size a xs s p was =
    let fits : a ≤ length xs = omega arith in
    rw (← was) (length-take-le a xs fits)
