use Rattle.std.proofs.Common.{◌+◌, ◌≡◌, refl, arith, ltb, true, false}
use Rattle.std.proofs.lemmas.Bool.Decides.{nat_tests}
use Rattle.world.proofs.Turns.{says}
use Rattle.world.proofs.Firing.{tick-declined, ticks}
use Rattle.world.proofs.live.Live.tick.Goals as goal

pub returns-then-moment-gt-LAST_MOMENT : goal.returns-then-moment-gt-LAST_MOMENT
returns-then-moment-gt-LAST_MOMENT g c =
    let far : ltb 2000000000 (c.clock.result + c.args.n) ≡ true = grind (arith, nat_tests, c.from.ensures, c.from-2.ensures, c.if-moment-gt-LAST_MOMENT.true) in
    tick-declined c.args.n c.clock.result c.clock.ensures far (says _ _ _ refl c.say.ensures)

pub returns : goal.returns
returns g c =
    let near : ltb 2000000000 (c.clock.result + c.args.n) ≡ false = grind (arith, nat_tests, c.from.ensures, c.from-2.ensures, c.if-moment-gt-LAST_MOMENT.false) in
    let same : c.from.result + c.from-2.result ≡ c.clock.result + c.args.n = omega (arith, c.from.ensures, c.from-2.ensures) in
    ticks c.args.n c.clock.result (c.from.result + c.from-2.result) c.clock.ensures near same c.tick_to.ensures
