-- The blocks that are left come to what all come to, whatever is told.
use Rattle.std.proofs.Common.{◌≡◌, ℕ, drop}
use Rattle.world.specs.Images.{Filled, TellsDriver, TellsSome, with_image}
use Rattle.world.proofs.image.place_image.Given as goal

abbrev pub invariant-loop-block : goal.invariant-loop-block
invariant-loop-block l = record {
  known : TellsSome l.kernel l.memory l.fn.owner;
  each : (share : ℕ) (f : Filled) → TellsDriver l.initial.kernel l.initial.memory share l.fn.owner f
      → (now : Filled) × TellsDriver l.kernel l.memory share l.fn.owner now × (with_image share l.fn.owner (drop l.block-index l.image) now ≡ with_image share l.fn.owner l.image f);
}
