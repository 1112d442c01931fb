use Rattle.std.proofs.Common.{◌≡◌, ◌≢◌, ◌+◌, ◌-◌, Some, false, sym, arith}
use Rattle.std.proofs.lemmas.Bool.Decides.{nat_tests}
use Rattle.std.specs.Prelude.{slice_get}
use Rattle.share_table.specs.Queue.{is_owned}
use Rattle.share_table.proofs.Turns.{not_owned-drop}
use Rattle.share_table.proofs.queue.Queue.newest_of.Goals as goal

pub loop-place-preserved : goal.loop-place-preserved
loop-place-preserved c =
    let at : slice_get c.self.inside.items.items (c.loop-place.place - 1) ≡ Some c.in-Some.work.now = sym c.in-Some.ensures in
    let other : is_owned c.args.owner c.in-Some.work.now ≡ false = (let apart : c.in-Some.work.now.owner ≢ c.args.owner = c.if-work-owner.false in grind (arith, nat_tests)) in
    let next : c.loop-place.place - 1 + 1 ≡ c.loop-place.place = (let some = c.loop-place-test.true in omega arith) in
    record {
      within = (let before = c.loop-place.invariant.within in omega arith);
      later = not_owned-drop c.args.owner c.self.inside.items.items (c.loop-place.place - 1) c.loop-place.place c.in-Some.work.now at other next c.loop-place.invariant.later;
    }
