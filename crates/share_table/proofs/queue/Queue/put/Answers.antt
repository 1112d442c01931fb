use Rattle.std.proofs.Common.{◌≡◌, ◌++◌, ◌∷◌, []}
use Rattle.circular_buffer.specs.Buffer.{buffer}
use Rattle.share_table.proofs.Calls.{never_full, put_keeps, is_ok_then}
use Rattle.share_table.proofs.queue.Queue.put.Goals as goal

pub returns-then-is_err-clause-answer : goal.returns-then-is_err-clause-answer
returns-then-is_err-clause-answer c =
    absurd (never_full c.args.work c.self.inside.items.items c.args.self.now c.self.inside.items.capacity c.count_of.result c.try_push_back.result c.self.view_is c.self.invariant c.requires.driver c.requires.owner
    c.count_of.ensures c.if-count_of-ge-WORK_ITEMS.false c.try_push_back.ensures.variant.1 c.if-is_err.ensures.value)

pub invariant_of-self-2 : goal.invariant_of-self-2
invariant_of-self-2 c =
    put_keeps c.args.work c.self.inside.items.items c.args.self.now c.try_push_back.new.self c.self.inside.items.capacity c.count_of.result c.self.view_is c.self.invariant c.requires.driver c.requires.owner
    c.count_of.ensures c.if-count_of-ge-WORK_ITEMS.false
    (is_ok_then c.try_push_back.result (c.try_push_back.new.self ≡ buffer (c.self.inside.items.items ++ c.args.work ∷ []) c.self.inside.items.capacity) c.try_push_back.ensures.ok c.if-is_err.ensures.value)
