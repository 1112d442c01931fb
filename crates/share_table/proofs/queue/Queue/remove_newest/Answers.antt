use Rattle.std.proofs.Common.{◌≡◌, ◌<◌, ◌+◌, length, sym, ◌∙◌, ap, subst, add_assoc, arith}
use Rattle.circular_buffer.specs.Buffer.{Buffer}
use Rattle.sd_base.specs.Selection.{without_last}
use Rattle.share_table.specs.declared.queue.Work.{Work}
use Rattle.share_table.specs.Queue.{is_owned, IsQueue}
use Rattle.share_table.proofs.Turns.{without-turned, newest_gone, IsQueue-without_last}
use Rattle.share_table.proofs.queue.Queue.remove_newest.Goals as goal

pub invariant_of-self : goal.invariant_of-self
invariant_of-self g c =
    let all : c.loop-place.place ≡ length c.self.inside.items.items = (let most = c.loop-place.auto.place-end in let least = c.loop-place-test.false in let len = c.len-place-end.ensures.len in omega arith) in
    subst (λ (b : Buffer Work). IsQueue b.items b.capacity)
    (sym (newest_gone c.args.owner c.self.inside.items.items c.args.self.now c.loop-place.self-inside.items c.self.inside.items.capacity c.newest_of-newest.result c.loop-place.place c.self.view_is c.loop-place.invariant.items all
    c.newest_of-newest.ensures.newest c.newest_of-newest.ensures.own))
    (IsQueue-without_last c.args.owner c.self.inside.items.items c.self.inside.items.capacity c.self.invariant)

pub loop-place-preserved : goal.loop-place-preserved
loop-place-preserved g c =
    let within : c.loop-place.place < length c.self.inside.items.items = (let more = c.loop-place-test.true in let len = c.len-place-end.ensures.len in omega arith) in
    record {
      items = without-turned c.loop-place.self-inside.items c.turn.new.items c.self.inside.items.items c.self.inside.items.capacity c.newest_of-newest.result c.loop-place.place c.loop-place.invariant.items within c.turn.ensures;
      steps = c.tick.ensures ∙ ap (λ n. n + 1) c.loop-place.invariant.steps ∙ add_assoc c.args.steps.now c.loop-place.place 1;
    }

pub returns-clause-gone : goal.returns-clause-gone
returns-clause-gone g c =
    let all : c.loop-place.place ≡ length c.self.inside.items.items = (let most = c.loop-place.auto.place-end in let least = c.loop-place-test.false in let len = c.len-place-end.ensures.len in omega arith) in
    ap (λ (b : Buffer Work). b.items) (newest_gone c.args.owner c.self.inside.items.items c.args.self.now c.loop-place.self-inside.items c.self.inside.items.capacity c.newest_of-newest.result c.loop-place.place c.self.view_is c.loop-place.invariant.items all
    c.newest_of-newest.ensures.newest c.newest_of-newest.ensures.own) ∙ ap (without_last (is_owned c.args.owner)) c.self.view_is

pub returns-clause-few : goal.returns-clause-few
returns-clause-few g c =
    let most = c.loop-place.auto.place-end in
    let least = c.loop-place-test.false in
    let within = c.len-place-end.ensures.within in
    let room = c.self.invariant.room in
    omega (arith, c.loop-place.invariant.steps)
