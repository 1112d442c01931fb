-- Counts that stay at their end.
use Rattle.std.proofs.Common.{◌≡◌, ℕ, ◌+◌, ◌<◌, ◌⊎◌, arith}
use Rattle.sd_outside.specs.Counts.{counted, greatest, RoseBeyond}

-- a count that took more than a limit rose by more than it, or stands at its end
pub RoseBeyond-rises : (limit before now : ℕ) → RoseBeyond limit before now → (before + limit < now) ⊎ (now ≡ greatest)
RoseBeyond-rises limit before now r =
    let beyond : limit < r.taken = r.beyond in
    let counts : now ≡ counted before r.taken = r.counts in
    grind arith

-- what a count took before makes it no less
pub RoseBeyond-after : (limit before middle now taken : ℕ) → middle ≡ counted before taken → RoseBeyond limit middle now → RoseBeyond limit before now
RoseBeyond-after limit before middle now taken e r =
    let beyond : limit < r.taken = r.beyond in
    let counts : now ≡ counted middle r.taken = r.counts in
    record { taken = taken + r.taken; beyond = omega arith; counts = counted-after before middle now taken r.taken e counts }
  where
    counted-after : (before middle now a n : ℕ) → middle ≡ counted before a → now ≡ counted middle n → now ≡ counted before (a + n)
    counted-after before middle now a n e f = omega arith

-- a count after a piece, where the count before it is known only up to its end
pub counted-piece : (count now after a n : ℕ) → counted now 0 ≡ counted count a → after ≡ counted now n → after ≡ counted count (a + n)
counted-piece count now after a n before e = omega arith

-- a count is no more than its end
pub counted-settled : (count now after a n : ℕ) → counted now 0 ≡ counted count a → after ≡ counted now n → counted after 0 ≡ counted count (a + n)
counted-settled count now after a n before e = omega arith
