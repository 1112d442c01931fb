-- A worked history, computed: what a ring driver has live when it fails, and the steps that its undoing may take. The newest stands first.
use Rattle.std.proofs.Common.{◌≡◌, true, false, [], ◌∷◌, map, pos, Option, Some, refl}
use Rattle.sd_base.specs.declared.history.Update.TheVariants.{Grant, Line, Ports, Timer, Fired, Work, Clock}
use Rattle.sd_base.specs.History.{History, entry, net_of}
use Rattle.update_tracker.specs.declared.undo.Undo.{Undo}
use Rattle.update_tracker.specs.declared.undo.Undo.TheVariants as undo
use Rattle.update_tracker.specs.Entries.{items_of}
use Rattle.update_tracker.specs.Undoing.{steps_for}

-- an image block, a buffer, ports, a line, and a timer that fires once and is set again
abbrev ring : History
ring =
    entry 1 (Timer (pos 1) 20 0 (pos 1)) ∷ entry 1 (Fired (pos 1)) ∷ entry 0 (Clock 10) ∷ entry 1 (Timer (pos 1) 10 0 (pos 0))
    ∷ entry 1 (Line (pos 4) 1) ∷ entry 1 (Ports (pos 768) (pos 8))
    ∷ entry 1 (Grant (record { elem = 0; size = 1; nullterm = false }) (pos 4) false)
    ∷ entry 1 (Grant (record { elem = 1; size = 12; nullterm = false }) (pos 1) true) ∷ []

what_the_ring_has : items_of (net_of ring 1) ≡
    map (λ (item : Undo). Some item) (undo.Timer (pos 1) ∷ undo.Line (pos 4) ∷ undo.Ports (pos 768) (pos 8) ∷ undo.Block 32 ∷ undo.Block 16 ∷ [])
what_the_ring_has = refl

the_ring_takes_five_steps : steps_for (net_of ring 1) ≡ 5
the_ring_takes_five_steps = refl

-- each item of work may turn the whole queue
work_takes_more_steps : steps_for (net_of (entry 2 (Work 7 (pos 9)) ∷ entry 1 (Work 7 (pos 8)) ∷ ring) 1) ≡ 262
work_takes_more_steps = refl
