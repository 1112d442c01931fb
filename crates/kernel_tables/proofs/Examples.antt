-- A history of three owners, with the rows of its tables written out by the rules and computed.
use Rattle.std.proofs.Common.{◌≡◌, ℕ, true, false, [], ◌∷◌, pos, negsuc, refl}
use Rattle.sd_base.specs.declared.history.BlockState.TheVariants.{Image, Live, Freed}
use Rattle.sd_base.specs.declared.history.Layout.{Layout}
use Rattle.sd_base.specs.declared.history.Update.TheVariants as update
use Rattle.sd_base.specs.declared.actors.Who.{Who}
use Rattle.sd_base.specs.History.{History, entry, Without}
use Rattle.kernel_tables.specs.declared.row.Row.TheVariants.{Block, Line, Ports, Device, Param, Timer, Lock, Mask, Hold, Work, Clock}
use Rattle.kernel_tables.specs.Places.{numbers}
use Rattle.kernel_tables.specs.TableRows.{tables_of}

abbrev who : ℕ → ℕ → Who
who owner task = record { owner = owner; task = task }

abbrev bytes : Layout
bytes = record { elem = 0; size = 1; nullterm = false }

abbrev words : Layout
words = record { elem = 1; size = 4; nullterm = false }

no_rows_but_the_clock : tables_of [] ≡ Clock 0 ∷ []
unfolding numbers
no_rows_but_the_clock = refl

-- the newest stands first
abbrev three_owners : History
three_owners =
    entry 0 (update.Clock 17)
    ∷ entry 1 (update.Work 2 (pos 20))
    ∷ entry 2 (update.Work 1 (pos 10))
    ∷ entry 2 (update.DropHold (pos 6))
    ∷ entry 2 (update.Hold (pos 6))
    ∷ entry 1 (update.Hold (pos 4))
    ∷ entry 2 (update.Hold (pos 4))
    ∷ entry 1 (update.Hold (pos 4))
    ∷ entry 1 (update.Mask 8)
    ∷ entry 2 (update.Mask 0)
    ∷ entry 0 (update.Lock (pos 0) 0)
    ∷ entry 2 (update.Lock (pos 63) 4)
    ∷ entry 2 (update.Timer (pos 3) 30 6 (pos 1))
    ∷ entry 1 (update.Timer (pos 200) 5 2 (pos 0))
    ∷ entry 2 (update.Timer (pos 3) 20 6 (negsuc 0))
    ∷ entry 2 (update.Param (pos 1) (pos 0))
    ∷ entry 1 (update.Param (pos 9) (pos 8))
    ∷ entry 2 (update.Param (pos 9) (pos 50))
    ∷ entry 1 (update.Param (pos 9) (negsuc 6))
    ∷ entry 0 (update.Param (pos 9) (pos 100))
    ∷ entry 1 (update.Device (pos 5))
    ∷ entry 2 (update.Device (pos 1000))
    ∷ entry 2 (update.Ports (pos 16) (pos 2))
    ∷ entry 1 (update.Ports (pos 96) (pos 8))
    ∷ entry 1 (update.Line (pos 2) 4)
    ∷ entry 2 (update.Line (pos 7) 3)
    ∷ entry 1 (update.Free 32)
    ∷ entry 1 (update.Grant words (pos 1) false)
    ∷ entry 1 (update.Grant words (pos 3) false)
    ∷ entry 1 (update.Grant bytes (pos 5) true)
    ∷ entry 2 (update.Grant bytes (pos 1) true)
    ∷ []

-- a freed block stays, a replaced value or timer does not, and a domain that was let go is not shown
three_owners'_rows : tables_of three_owners
    ≡ Block 1 16 5 Image
    ∷ Block 1 32 12 Freed
    ∷ Block 1 48 4 Live
    ∷ Block 2 16 1 Image
    ∷ Line (pos 2) 1 4
    ∷ Line (pos 7) 2 3
    ∷ Ports (pos 16) (pos 2) 2
    ∷ Ports (pos 96) (pos 8) 1
    ∷ Device (pos 5) 1
    ∷ Device (pos 1000) 2
    ∷ Param (pos 1) (pos 0) 2
    ∷ Param (pos 9) (pos 8) 1
    ∷ Timer 1 (pos 200) 5 2 (pos 0)
    ∷ Timer 2 (pos 3) 30 6 (pos 1)
    ∷ Lock (pos 0) (who 0 0)
    ∷ Lock (pos 63) (who 2 4)
    ∷ Mask (who 1 8)
    ∷ Mask (who 2 0)
    ∷ Hold (pos 4) 3
    ∷ Work 2 1 (pos 10)
    ∷ Work 1 2 (pos 20)
    ∷ Clock 17
    ∷ []
unfolding numbers
three_owners'_rows = refl

-- without driver 1 the older value of the parameter is the latest
two_owners'_rows : tables_of (Without three_owners 1)
    ≡ Block 2 16 1 Image
    ∷ Line (pos 7) 2 3
    ∷ Ports (pos 16) (pos 2) 2
    ∷ Device (pos 1000) 2
    ∷ Param (pos 1) (pos 0) 2
    ∷ Param (pos 9) (pos 50) 2
    ∷ Timer 2 (pos 3) 30 6 (pos 1)
    ∷ Lock (pos 0) (who 0 0)
    ∷ Lock (pos 63) (who 2 4)
    ∷ Mask (who 2 0)
    ∷ Hold (pos 4) 1
    ∷ Work 2 1 (pos 10)
    ∷ Clock 17
    ∷ []
unfolding numbers
two_owners'_rows = refl
