-- The rows of the tables of a history, in the order in which they are printed.
use Rattle.std.specs.Prelude.{ℕ, ◌+◌, Bool, true, false, cond, eqb, List, [], ◌∷◌, ◌++◌, map, reverse, ℤ, pos, Option, Some, None}
use Rattle.std.specs.List.{list_any, find, filter_map, flat_map, count_by}
use Rattle.sd_base.specs.declared.actors.Who.{Who}
use Rattle.sd_base.specs.History.{Entry, History, hold_key, mask_key, is_of, live_of, clock_of}
use Rattle.sd_base.specs.Blocks.{granted}
use Rattle.sd_base.specs.Allowed.{is_lock}
use Rattle.grant_table.specs.declared.blocks.BlockRow.{BlockRow}
use Rattle.grant_table.specs.GrantPart.{rows_of}
use Rattle.claim_table.specs.declared.claim.Claim.{Claim}
use Rattle.claim_table.specs.Ordered.{in_order, last_of_each}
use Rattle.claim_table.specs.ClaimPart.{line_row as line_claim, ports_row as ports_claim, device_row as device_claim, param_row as param_claim}
use Rattle.timer_table.specs.declared.fired.Fired.{Fired}
use Rattle.timer_table.specs.Order.{timers_of}
use Rattle.share_table.specs.declared.queue.Work.{Work as Item}
use Rattle.share_table.specs.Locks.{holder_of}
use Rattle.share_table.specs.Queue.{work_row as work_item}
use Rattle.kernel_tables.specs.declared.row.Row.{Row}
use Rattle.kernel_tables.specs.declared.row.Row.TheVariants.{Block, Line, Ports, Device, Param, Timer, Lock, Mask, Hold, Work, Clock}
use Rattle.kernel_tables.specs.Places.{numbers}

-- one row

abbrev pub block_row : ℕ → BlockRow → Row
block_row owner b = Block owner b.base b.size b.state

abbrev pub line_row : Claim ℕ → Row
line_row c = Line (pos c.number) c.owner c.detail

abbrev pub ports_row : Claim ℕ → Row
ports_row c = Ports (pos c.number) (pos c.detail) c.owner

abbrev pub device_row : Claim (Unit {0}) → Row
device_row c = Device (pos c.number) c.owner

abbrev pub param_row : Claim ℤ → Row
param_row c = Param (pos c.number) c.detail c.owner

abbrev pub timer_row : Fired → Row
timer_row t = Timer t.owner t.id t.due t.handler t.arg

abbrev pub work_row : Item → Row
work_row w = Work w.owner w.handler w.arg

-- a lock that is held has a row
abbrev pub lock_row : ℕ → Option Who → List Row
lock_row lock None = []
lock_row lock (Some who) = Lock (pos lock) who ∷ []

-- an activity whose mask is held has a row
abbrev pub mask_row : ℕ → ℕ → Bool → List Row
mask_row owner task false = []
mask_row owner task true = Mask (record { owner = owner; task = task }) ∷ []

-- a domain with holds has a row
abbrev pub hold_row : ℕ → ℕ → List Row
hold_row domain n = cond (eqb n 0) [] (Hold (pos domain) n ∷ [])

-- the rows of a kind

-- blocks by owner and base, where these are each owner's by their bases
abbrev pub block_rows : (ℕ → List BlockRow) → List Row
block_rows blocks = flat_map (λ owner. map (block_row owner) (blocks owner)) (numbers 0 5)

-- locks by number, where this is the holder of each
abbrev pub lock_rows : (ℕ → Option Who) → List Row
lock_rows holder = flat_map (λ lock. lock_row lock (holder lock)) (numbers 0 64)

-- the masks of an owner by task, where this says which are held
abbrev pub masks_of_owner : ℕ → (ℕ → Bool) → List Row
masks_of_owner owner held = flat_map (λ task. mask_row owner task (held task)) (numbers 0 9)

-- masks by owner and task, where this says which are held
abbrev pub mask_rows : (ℕ → ℕ → Bool) → List Row
mask_rows held = flat_map (λ owner. masks_of_owner owner (held owner)) (numbers 0 5)

-- domains by number, where these are the holds of all owners on each
abbrev pub hold_rows : (ℕ → ℕ) → List Row
hold_rows holds = flat_map (λ domain. hold_row domain (holds domain)) (numbers 0 64)

-- what is live

-- the activity that holds a lock
abbrev pub holder_in : List Entry → ℕ → Option Who
holder_in live lock = holder_of (find (is_lock (pos lock)) live)

-- the mask of an owner's task is held
abbrev pub masks_in : List Entry → ℕ → ℕ → Bool
masks_in live owner task = list_any (is_of owner (mask_key task)) live

-- an owner's holds on a domain
abbrev pub holds_of : List Entry → ℕ → ℕ → ℕ
holds_of live domain owner = count_by (is_of owner (hold_key (pos domain))) live

-- the holds of all owners on a domain
abbrev pub holds_in : List Entry → ℕ → ℕ
holds_in live domain = holds_of live domain 0 + holds_of live domain 1 + holds_of live domain 2 + holds_of live domain 3 + holds_of live domain 4

-- the rows of all tables where these entries are live and the clock is so: blocks by owner and base, lines, ports and devices by
-- number, of each parameter the value that was set last, timers by owner and id, locks, masks by owner and task, power domains that
-- are held, work from the front of the queue, and the clock
abbrev pub rows_in : List Entry → ℕ → List Row
rows_in live clock =
    block_rows (λ owner. rows_of (granted live owner))
    ++ map line_row (in_order (filter_map line_claim live))
    ++ map ports_row (in_order (filter_map ports_claim live))
    ++ map device_row (in_order (filter_map device_claim live))
    ++ map param_row (last_of_each (in_order (filter_map param_claim live)))
    ++ map timer_row (timers_of live)
    ++ lock_rows (holder_in live)
    ++ mask_rows (masks_in live)
    ++ hold_rows (holds_in live)
    ++ map work_row (reverse (filter_map work_item live))
    ++ Clock clock ∷ []

-- the rows of the tables of a history
abbrev pub tables_of : History → List Row
tables_of h = rows_in (live_of h) (clock_of h)
