-- The memory at the driver's place is the driver's, and a block that is answered fits into it.
use Rattle.std.proofs.Common.{◌≡◌, ℕ, ◌-◌, ◌<◌, ◌≤◌, ◌++◌, List, length, slice_set, sym, ap, ◌∙◌, subst, arith}
use Rattle.std.specs.Prelude.{slice_index_or}
use Rattle.std.specs.Vec.{with_items}
use Rattle.std.proofs.lemmas.List.{with_items_is}
use Rattle.byte_memory.specs.Tested.{Memory}
use Rattle.wrappers.specs.declared.call_out.CallOut.TheVariants.{Pointer}
use Rattle.wrappers.specs.InStep.{spanned}
use Rattle.wrappers.specs.Serving.{ServesCall}
use Rattle.driver_host.specs.Hosting.{cleared}
use Rattle.world.proofs.Callers.{at-place, places, place-within, memory-count, memory-long, block-room, block-within}
use Rattle.world.proofs.Serving.{served-host, mems-stay}
use Rattle.world.proofs.asking.call_kernel.Goals as goal

pub bounds-as_slice-place : goal.bounds-as_slice-place
bounds-as_slice-place c = subst (λ ms. c.from-place.result - 1 < length ms) (sym c.as_slice.ensures.value)
    (subst (λ n. n - 1 < length c.args.host.now.memories.items) (sym c.from-place.ensures) (place-within _ _ c.requires.known))

pub serve_call-out-requires-clause-memory : goal.serve_call-out-requires-clause-memory
serve_call-out-requires-clause-memory c =
    let here = at-place c.args.host.now c.args.who.owner _ _ c.index-as_slice-place.result c.requires.known c.from-place.ensures c.as_slice.ensures.value c.index-as_slice-place.is in
    let long : length c.index-as_slice-place.result.bytes ≡ 1048576 = ap (λ m. length m.bytes) here ∙ memory-long _ _ c.requires.known in
    omega (arith, long)

pub grant_spanned-requires-clause-place : goal.grant_spanned-requires-clause-place
grant_spanned-requires-clause-place c = subst (λ ms. c.from-place.result - 1 < length ms) (sym c.as_mut_slice.ensures.value)
    (subst (λ n. n - 1 < length c.args.host.now.memories.items) (sym c.from-place.ensures) (place-within _ _ c.requires.known))

pub grant_spanned-requires-clause-room : goal.grant_spanned-requires-clause-room
grant_spanned-requires-clause-room c =
    let here = at-place c.args.host.now c.args.who.owner _ _ c.index-as_slice-place.result c.requires.known c.from-place.ensures c.as_slice.ensures.value c.index-as_slice-place.is in
    subst (λ ms. c.in-Pointer.pointer.lo < c.in-Pointer.pointer.hi → length (slice_index_or ms (c.from-place.result - 1) cleared).granted < 4096) (sym c.as_mut_slice.ensures.value)
    (subst (λ n. c.in-Pointer.pointer.lo < c.in-Pointer.pointer.hi → length (slice_index_or c.args.host.now.memories.items (n - 1) cleared).granted < 4096) (sym c.from-place.ensures)
    (block-room c.args.host.now c.args.who c.args.call.now c.in-Pointer.pointer c.serve_call-out.new.kernel c.requires.known c.requires.task
    (subst (λ m. ServesCall c.args.host.now.kernel m c.args.host.now.devices c.args.who c.args.call.now (Pointer c.in-Pointer.pointer) c.serve_call-out.new.kernel) here
    (subst (λ o. ServesCall c.args.host.now.kernel c.index-as_slice-place.result c.args.host.now.devices c.args.who c.args.call.now o c.serve_call-out.new.kernel) c.in-Pointer.is
    c.serve_call-out.ensures.serves))))

pub grant_spanned-requires-clause-within : goal.grant_spanned-requires-clause-within
grant_spanned-requires-clause-within c =
    let here = at-place c.args.host.now c.args.who.owner _ _ c.index-as_slice-place.result c.requires.known c.from-place.ensures c.as_slice.ensures.value c.index-as_slice-place.is in
    subst (λ ms. c.in-Pointer.pointer.lo < c.in-Pointer.pointer.hi → c.in-Pointer.pointer.hi ≤ length (slice_index_or ms (c.from-place.result - 1) cleared).bytes) (sym c.as_mut_slice.ensures.value)
    (subst (λ n. c.in-Pointer.pointer.lo < c.in-Pointer.pointer.hi → c.in-Pointer.pointer.hi ≤ length (slice_index_or c.args.host.now.memories.items (n - 1) cleared).bytes) (sym c.from-place.ensures)
    (block-within c.args.host.now c.args.who c.args.call.now c.in-Pointer.pointer c.serve_call-out.new.kernel c.requires.known c.requires.task
    (subst (λ m. ServesCall c.args.host.now.kernel m c.args.host.now.devices c.args.who c.args.call.now (Pointer c.in-Pointer.pointer) c.serve_call-out.new.kernel) here
    (subst (λ o. ServesCall c.args.host.now.kernel c.index-as_slice-place.result c.args.host.now.devices c.args.who c.args.call.now o c.serve_call-out.new.kernel) c.in-Pointer.is
    c.serve_call-out.ensures.serves))))

pub returns-in-Pointer : goal.returns-in-Pointer
returns-in-Pointer c =
    let some = c.requires.known.some in
    let here = at-place c.args.host.now c.args.who.owner _ _ c.index-as_slice-place.result c.requires.known c.from-place.ensures c.as_slice.ensures.value c.index-as_slice-place.is in
    served-host c.args.host.now (record { kernel = c.serve_call-out.new.kernel; memories = with_items c.args.host.now.memories c.grant_spanned.new.memories; devices = c.serve_call-out.new.devices }) c.args.who c.args.call.now (Pointer c.in-Pointer.pointer) (omega (arith, some)) c.requires.known.few c.requires.task
    (subst (λ m. ServesCall c.args.host.now.kernel m c.args.host.now.devices c.args.who c.args.call.now (Pointer c.in-Pointer.pointer) c.serve_call-out.new.kernel) here
    (subst (λ o. ServesCall c.args.host.now.kernel c.index-as_slice-place.result c.args.host.now.devices c.args.who c.args.call.now o c.serve_call-out.new.kernel) c.in-Pointer.is
    c.serve_call-out.ensures.serves))
    c.serve_call-out.ensures.takes tt c.serve_call-out.ensures.share
    (with_items_is c.args.host.now.memories c.grant_spanned.new.memories (c.grant_spanned.auto.memories ∙ c.as_mut_slice.ensures.len) ∙ c.grant_spanned.ensures
    ∙ ap (λ (ms : List Memory). slice_set ms (c.from-place.result - 1) (record (slice_index_or ms (c.from-place.result - 1) cleared) { granted = (slice_index_or ms (c.from-place.result - 1) cleared).granted ++ spanned c.in-Pointer.pointer })) c.as_mut_slice.ensures.value
    ∙ ap (λ (n : ℕ). slice_set c.args.host.now.memories.items (n - 1) (record (slice_index_or c.args.host.now.memories.items (n - 1) cleared) { granted = (slice_index_or c.args.host.now.memories.items (n - 1) cleared).granted ++ spanned c.in-Pointer.pointer })) c.from-place.ensures)
    (λ share h memories devices is. subst (λ n. c.args.who.owner ≤ n) (memory-count share c.args.host.now h memories devices is) (places _ _ c.requires.known))

pub returns-in_default : goal.returns-in_default
returns-in_default c =
    let some = c.requires.known.some in
    let here = at-place c.args.host.now c.args.who.owner _ _ c.index-as_slice-place.result c.requires.known c.from-place.ensures c.as_slice.ensures.value c.index-as_slice-place.is in
    served-host c.args.host.now (record { kernel = c.serve_call-out.new.kernel; memories = c.args.host.now.memories; devices = c.serve_call-out.new.devices }) c.args.who c.args.call.now
    c.serve_call-out.result (omega (arith, some)) c.requires.known.few c.requires.task
    (subst (λ m. ServesCall c.args.host.now.kernel m c.args.host.now.devices c.args.who c.args.call.now c.serve_call-out.result c.serve_call-out.new.kernel) here
    c.serve_call-out.ensures.serves)
    c.serve_call-out.ensures.takes c.serve_call-out.ensures.stopped c.serve_call-out.ensures.share
    (mems-stay c.args.host.now (c.args.who.owner - 1) c.serve_call-out.result c.in_default.not-Pointer)
    (λ share h memories devices is. subst (λ n. c.args.who.owner ≤ n) (memory-count share c.args.host.now h memories devices is) (places _ _ c.requires.known))
