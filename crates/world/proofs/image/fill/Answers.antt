-- The memory at the driver's place is the driver's.
use Rattle.std.proofs.Common.{ℕ, ◌-◌, ◌<◌, List, length, slice_set, refl, sym, ap, ◌∙◌, subst, arith}
use Rattle.std.specs.Prelude.{slice_index_or}
use Rattle.std.specs.Vec.{with_items}
use Rattle.std.proofs.lemmas.List.{with_items_is}
use Rattle.byte_memory.specs.Tested.{Memory}
use Rattle.driver_host.specs.Hosting.{cleared}
use Rattle.world.specs.Images.{TellsDriver, TellsSome, with_image}
use Rattle.world.proofs.Callers.{place-within}
use Rattle.world.proofs.HostLoads.{known-part, each-place, fills-host}
use Rattle.world.proofs.image.fill.Goals as goal

pub place_at-requires-clause-place : goal.place_at-requires-clause-place
place_at-requires-clause-place c = subst (λ ms. c.from-place.result - 1 < length ms) (sym c.as_mut_slice.ensures.value)
    (subst (λ n. n - 1 < length c.args.host.now.memories.items) (sym c.from-place.ensures) (place-within _ _ c.requires.known))

pub place_at-requires-clause-known : goal.place_at-requires-clause-known
place_at-requires-clause-known c =
    subst (λ ms. TellsSome c.args.host.now.kernel (slice_index_or ms (c.from-place.result - 1) cleared) c.args.owner) (sym c.as_mut_slice.ensures.value)
    (subst (λ n. TellsSome c.args.host.now.kernel (slice_index_or c.args.host.now.memories.items (n - 1) cleared) c.args.owner) (sym c.from-place.ensures)
    (known-part c.args.host.now c.args.owner c.requires.known))

pub returns : goal.returns
returns c =
    let some = c.requires.known.some in
    let items = with_items_is c.args.host.now.memories c.place_at.new.memories (c.place_at.auto.memories ∙ c.as_mut_slice.ensures.len) in
    fills-host c.args.host.now (record { kernel = c.place_at.new.kernel; memories = with_items c.args.host.now.memories c.place_at.new.memories; devices = c.args.host.now.devices })
    c.args.owner c.args.image.now (omega (arith, some)) (each-place c.args.host.now c.args.owner c.requires.known)
    (λ share f tells.
    let before : TellsDriver c.args.host.now.kernel (slice_index_or c.as_mut_slice.result.now (c.from-place.result - 1) cleared) share c.args.owner f =
    subst (λ ms. TellsDriver c.args.host.now.kernel (slice_index_or ms (c.from-place.result - 1) cleared) share c.args.owner f) (sym c.as_mut_slice.ensures.value)
    (subst (λ n. TellsDriver c.args.host.now.kernel (slice_index_or c.args.host.now.memories.items (n - 1) cleared) share c.args.owner f) (sym c.from-place.ensures) tells) in
    subst (λ ms. TellsDriver c.place_at.new.kernel (slice_index_or ms (c.args.owner - 1) cleared) share c.args.owner (with_image share c.args.owner c.args.image.now f)) (sym items)
    (subst (λ n. TellsDriver c.place_at.new.kernel (slice_index_or c.place_at.new.memories (n - 1) cleared) share c.args.owner (with_image share c.args.owner c.args.image.now f)) c.from-place.ensures
    (c.place_at.ensures.told share f before)))
    (items ∙ c.place_at.ensures.others
    ∙ ap (λ (ms : List Memory). slice_set ms (c.from-place.result - 1) (slice_index_or c.place_at.new.memories (c.from-place.result - 1) cleared)) c.as_mut_slice.ensures.value
    ∙ ap (λ (n : ℕ). slice_set c.args.host.now.memories.items (n - 1) (slice_index_or c.place_at.new.memories (n - 1) cleared)) c.from-place.ensures
    ∙ ap (λ (ms : List Memory). slice_set c.args.host.now.memories.items (c.args.owner - 1) (slice_index_or ms (c.args.owner - 1) cleared)) (sym items))
    refl
