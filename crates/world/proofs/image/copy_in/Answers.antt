-- The next byte is inside the range, and with it the rest comes to the whole.
use Rattle.std.proofs.Common.{◌<◌, ◌≤◌, ◌+◌, length, drop, sym, ap, ◌∙◌, arith}
use Rattle.byte_memory.specs.Tested.{Memory}
use Rattle.world.specs.Images.{copied}
use Rattle.world.proofs.Placing.{rest-at}
use Rattle.world.proofs.Placing.{inside_next, one_more}
use Rattle.world.proofs.image.copy_in.Goals as goal

pub store-requires-clause-inside : goal.store-requires-clause-inside
store-requires-clause-inside c =
    inside_next c.args.memory.now c.loop-byte.memory c.args.at (length c.args.bytes.now) c.loop-byte.byte-index c.loop-byte.place
    c.loop-byte.invariant.granted c.loop-byte.invariant.place c.loop-byte-test.true c.requires.inside

pub loop-byte-preserved : goal.loop-byte-preserved
loop-byte-preserved c =
    let rest = rest-at c.args.bytes.now c.loop-byte.byte-index 0 c.from.result c.loop-byte-test.true (sym c.from.ensures) in
    let fits = c.type_inv.bytes c.loop-byte.byte-index in
    let byte : c.from.result < 256 = omega (arith, fits, c.from.ensures) in
    let within : c.loop-byte.place + 1 ≤ length c.loop-byte.memory.bytes =
    omega (arith, c.loop-byte.invariant.place, c.loop-byte.invariant.len, c.requires.within, c.loop-byte-test.true) in
    record {
      place = omega (arith, c.loop-byte.invariant.place);
      comes = ap (λ (m : Memory). copied m.bytes (c.loop-byte.place + 1) (drop (c.loop-byte.byte-index + 1) c.args.bytes.now)) c.store.ensures.after
          ∙ one_more c.loop-byte.memory.bytes (drop c.loop-byte.byte-index c.args.bytes.now) (drop (c.loop-byte.byte-index + 1) c.args.bytes.now) c.loop-byte.place c.from.result within byte rest
          ∙ c.loop-byte.invariant.comes;
      granted = ap (λ (m : Memory). m.granted) c.store.ensures.after ∙ c.loop-byte.invariant.granted;
      len = c.store.ensures.len ∙ c.loop-byte.invariant.len;
    }
