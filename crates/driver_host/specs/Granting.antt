-- Updates that grant a block, and the moments to which an update may set the clock.
use Rattle.std.specs.Prelude.{ℕ, ◌≤◌, Bool, true, false}
use Rattle.sd_base.specs.declared.history.Update.{Update}
use Rattle.sd_base.specs.declared.history.Update.TheVariants.{Grant, Clock}

abbrev pub grants_block : Update → Bool
grants_block (Grant layout n image) = true
grants_block _ = false

-- the last moment that the clock may reach
abbrev pub last_moment : ℕ
last_moment = 2000000000

abbrev pub IsTimely : Update → Type 0
IsTimely (Clock now) = now ≤ last_moment
IsTimely _ = Unit {0}
