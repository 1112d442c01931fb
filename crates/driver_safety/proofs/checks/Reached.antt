-- Bytes that are inside are reached.
use Rattle.std.proofs.Common.{◌≡◌, ℕ, ◌^◌, ◌<◌, Bool, true, pos, Ok, Err, if◌then◌else◌, ap, ◌∙◌}
use Rattle.std.proofs.lemmas.Bool.{lt-ltb}
use Rattle.byte_memory.specs.Tested.{Memory, is_inside}
use Rattle.checked_tree.specs.declared.stops.Stop.TheVariants.{Wild}
use Rattle.checked_tree.specs.Memory.{reached}
use Rattle.checked_tree.specs.Outcome.{◌>>=◌}

pub reached_is : (m : Memory) (a n : ℕ) → a < 2 ^ 32 → is_inside m a n ≡ true → reached m (pos a) n ≡ Ok a
unfolding reached
reached_is m a n l i =
    ap (λ (b : Bool). (if b then Ok a else Err Wild) >>= λ a. if is_inside m a n then Ok a else Err Wild) (lt-ltb a (2 ^ 32) l)
    ∙ ap (λ (b : Bool). if b then Ok a else Err Wild) i
