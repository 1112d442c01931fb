-- One block more of the image is in its place.
use Rattle.std.proofs.Common.{◌≡◌, ◌+◌, List, [], drop, sym, ap, ◌∙◌, subst, arith}
use Rattle.std.proofs.lemmas.List.{drop_all}
use Rattle.checked_tree.specs.declared.units.ImageBlock.{ImageBlock}
use Rattle.world.specs.Images.{TellsDriver, with_block, with_image}
use Rattle.world.proofs.Placing.{rest-at, image_next}
use Rattle.world.proofs.image.place_image.Goals as goal

pub loop-block-preserved : goal.loop-block-preserved
loop-block-preserved c =
    let block = c.block-item.result in
    let known = c.loop-block.invariant.known in
    let rest = rest-at c.args.image.now c.loop-block.block-index block block c.loop-block-test.true (sym c.block-item.is) in
    record {
      known = record { share = known.share; filled = with_block known.share c.args.owner block known.filled; tells = c.place_block.ensures known.share known.filled known.tells };
      each = λ share f tells.
          let now = c.loop-block.invariant.each share f tells in (
            with_block share c.args.owner block now.0,
            c.place_block.ensures share now.0 now.1,
            image_next share c.args.owner (drop c.loop-block.block-index c.args.image.now) (drop (c.loop-block.block-index + 1) c.args.image.now) block now.0 f c.args.image.now rest now.2,
          );
    }

pub returns : goal.returns
returns c = λ share f tells.
    let now = c.loop-block.invariant.each share f tells in
    let none : drop c.loop-block.block-index c.args.image.now ≡ [] = drop_all c.loop-block.block-index c.args.image.now (omega (arith, c.loop-block-test.false)) in
    subst (TellsDriver c.loop-block.kernel c.loop-block.memory share c.args.owner)
    (ap (λ (l : List ImageBlock). with_image share c.args.owner l now.0) (sym none) ∙ now.2) now.1
