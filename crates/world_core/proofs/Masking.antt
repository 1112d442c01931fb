-- An interrupt is never delivered under a mask: while any activity holds its mask, delivery does nothing at all, and a line that is
-- raised waits.
-- Here: deliver-masked, irq-masked
use Rattle.std.proofs.Common.{◌≡◌, ℕ, ◌<◌, Bool, true, false, not, ◌&&◌, [], ◌∷◌, ◌++◌, length, refl, ap, ◌∙◌}
use Rattle.std.proofs.lemmas.List.{get_or-set_same}
use Rattle.run_report.specs.declared.item.Item.TheVariants as item
use Rattle.world_core.specs.WorldState.{WorldState, is_over, is_masked}
use Rattle.world_core.specs.Script.{nothing, say, does, given}
use Rattle.world_core.specs.Delivering.{delivers_least, deliver, irq, can_deliver, some_waits, with_waiting, still_waits, is_waiting}
use Rattle.world_core.proofs.Leading.{while-ends, given-true}

test-masked : (over waits masked : Bool) → masked ≡ true → not over && (waits && not masked) ≡ false
test-masked true waits masked e = refl
test-masked false true masked e = ap not e
test-masked false false masked e = refl

pub deliver-masked : (s : WorldState) → is_masked s.history ≡ true → does deliver s ≡ s
unfolding deliver
deliver-masked s masked = while-ends 64 can_deliver delivers_least s (test-masked (is_over s.run) (some_waits s.run)
    (is_masked s.history) masked)

waits-still : (over waits : Bool) → over ≡ false → waits ≡ true → not over && waits ≡ true
waits-still over waits e f = ap (λ b. not b && waits) e ∙ f

-- a line that is raised under a mask waits, and no more
pub irq-masked : (line : ℕ) (s : WorldState) → is_masked s.history ≡ true → is_over s.run ≡ false → line < length s.run.waiting →
    does (irq line) s ≡ record s { run = with_waiting line true s.run; said = s.said ++ item.IrqWaits line ∷ [] }
unfolding irq
irq-masked line s masked on within =
    let raised : WorldState = record s { run = with_waiting line true s.run } in
    let waits : is_waiting raised.run line ≡ true = get_or-set_same s.run.waiting line true false within in
    ap (λ (w : WorldState). does (given (still_waits line w.run) (say (item.IrqWaits line)) nothing) w) (deliver-masked raised masked)
    ∙ given-true (say (item.IrqWaits line)) nothing (still_waits line raised.run) raised (waits-still (is_over s.run)
    (is_waiting raised.run line) on waits)
