-- `irq L`, and the delivery of waiting lines.
--
-- After each step of a task, after the last handler of a line, after each handler of a timer or of work, and at the end of each event:
-- while
-- some line waits and no mask is held, the least waiting line ceases to wait, and its holders are served.
-- Here: delivers, deliver, irq
use Rattle.std.specs.Prelude.{ℕ, Bool, true, false, not, ◌&&◌, List, [], ◌∷◌, get_or, set, ℤ, pos}
use Rattle.std.specs.List.{list_any, position_or_len}
use Rattle.sd_base.specs.History.{History}
use Rattle.claim_table.specs.declared.claims.Holder.{Holder}
use Rattle.claim_table.specs.ClaimPart.{holders_of}
use Rattle.run_report.specs.declared.item.Item.TheVariants as item
use Rattle.world_core.specs.declared.run_state.RunState.{RunState}
use Rattle.world_core.specs.WorldState.{WorldState, is_over, is_masked}
use Rattle.world_core.specs.Script.{Script, nothing, say, on_run, by_run, by_history, given, while_at_most, unless_over, ◌>>◌}
use Rattle.world_core.specs.Handling.{handles}

-- ---- waiting lines

abbrev pub with_waiting : ℕ → Bool → RunState → RunState
with_waiting line waits run = record run { waiting = set run.waiting line waits }

abbrev pub is_waiting : RunState → ℕ → Bool
is_waiting run line = get_or run.waiting line false

abbrev pub some_waits : RunState → Bool
some_waits run = list_any (λ waits. waits) run.waiting

-- the least line that waits
abbrev pub least_waiting : RunState → ℕ
least_waiting run = position_or_len (λ waits. waits) run.waiting

-- ---- one line

-- `irq L O`, then the holder's handler with the line as its argument
unfoldable pub serves : ℕ → Holder → Script
serves line holder = say (item.Irq line holder.owner) >> handles holder.owner holder.handler (pos line)

-- the holders in the order of their requests, up to the bound
abbrev pub serves_each : ℕ → List Holder → Script
serves_each line [] = nothing
serves_each line (holder ∷ holders) = unless_over (serves line holder) >> serves_each line holders

-- `irq L nobody` where there is none
abbrev pub serves_all : ℕ → List Holder → Script
serves_all line [] = say (item.IrqNobody line)
serves_all line (holder ∷ holders) = serves_each line (holder ∷ holders)

-- a line ceases to wait, and its holders of this moment are served
unfoldable pub delivers : ℕ → Script
delivers line = on_run (with_waiting line false) >> by_history (λ h. serves_all line (holders_of h (pos line)))

-- ---- all lines

-- the run goes on, some line waits, and no mask is held
abbrev pub can_deliver : WorldState → Bool
can_deliver s = not (is_over s.run) && (some_waits s.run && not (is_masked s.history))

unfoldable pub delivers_least : Script
delivers_least = by_run (λ run. delivers (least_waiting run))

-- There are 64 lines, each turn takes one, and no handler raises one.
unfoldable pub deliver : Script
deliver = while_at_most 64 can_deliver delivers_least

-- ---- `irq L`

-- the line still waits, and the run goes on
abbrev pub still_waits : ℕ → RunState → Bool
still_waits line run = not (is_over run) && is_waiting run line

-- `irq L`: the line waits; then delivery; where it still waits, `irq L waits` is printed
unfoldable pub irq : ℕ → Script
irq line = on_run (with_waiting line true) >> deliver >> by_run (λ run. given (still_waits line run) (say (item.IrqWaits line)) nothing)
