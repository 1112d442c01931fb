use Rattle.std.proofs.Common.{arith, ap, length}
use Rattle.dep_infer.proofs.Counts.{short_slots}
use Rattle.dep_infer.proofs.Slots.{after_params_few, left_few, next_few}
use Rattle.dep_infer.proofs.bounds.auto_bounds.Goals as goal

pub declare-requires-clause-room : goal.declare-requires-clause-room
declare-requires-clause-room c =
    let short = short_slots _ c.requires in
    let few = after_params_few _ _ _ c.loop-param.invariant in
    let params = ap length c.as_slice-params.ensures in
    omega (arith, short, few, params)

pub overflow_cast-next : goal.overflow_cast-next
overflow_cast-next c = let short = short_slots _ c.requires in let params = ap length c.as_slice-params.ensures in omega (arith, short, params)

pub overflow_cast-next-2 : goal.overflow_cast-next-2
overflow_cast-next-2 c = let short = short_slots _ c.requires in let locals = ap length c.as_slice-locals.ensures in omega (arith, short, locals)

pub overflow_add-next : goal.overflow_add-next
overflow_add-next c =
    let short = short_slots _ c.requires in
    let params = ap length c.as_slice-params.ensures in
    let locals = ap length c.as_slice-locals.ensures in
    omega (arith, short, params, locals)

pub take_hidden-hidden-requires : goal.take_hidden-hidden-requires
take_hidden-hidden-requires c =
    let short = short_slots _ c.requires in
    let few = next_few _ _ _ _ _ c.loop-local.invariant c.loop-local-test.true in
    omega (arith, short, few)

pub declare-requires-in-loop-local-clause-room : goal.declare-requires-in-loop-local-clause-room
declare-requires-in-loop-local-clause-room c =
    let short = short_slots _ c.requires in
    let few = left_few _ _ _ _ c.loop-local.invariant in
    omega (arith, short, few)
