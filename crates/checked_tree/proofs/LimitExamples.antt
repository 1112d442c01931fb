-- Addresses and sums at their limits.
use Rattle.std.specs.Prelude.{◌≡◌, ◌-◌, ◌^◌, pos, negsuc, Ok, Err, refl}
use Rattle.checked_tree.specs.declared.stops.Stop.TheVariants.{Wild}
use Rattle.checked_tree.specs.Numbers.{address, limited}
use Rattle.checked_tree.specs.Outcome.{Got}

-- the last address, and what is none
the_last : address (pos (2 ^ 32 - 1)) ≡ Ok (pos 4294967295)
the_last = refl

past_it : ◌≡◌ {A = Got} (address (pos (2 ^ 32))) (Err Wild)
past_it = refl

before_it : ◌≡◌ {A = Got} (address (negsuc 0)) (Err Wild)
before_it = refl

-- the last sum, and what is past the limit
the_last_sum : limited (pos (2 ^ 126 - 1)) ≡ Ok (pos (2 ^ 126 - 1))
the_last_sum = refl

past_the_limit : ◌≡◌ {A = Got} (limited (negsuc (2 ^ 126 - 1))) (Err Wild)
past_the_limit = refl
