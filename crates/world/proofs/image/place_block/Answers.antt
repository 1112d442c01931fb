-- A block that the kernel grants is in its place; where it grants none, nothing changes.
use Rattle.std.proofs.Common.{◌≡◌, ◌∙◌, ◌*◌, ap, ℕ, List, pos, to_z, of_z, w64}
use Rattle.std.proofs.lemmas.Int.{to_z-of_z}
use Rattle.world.specs.Images.{placed_in}
use Rattle.world.proofs.Placing.{took, has_few, ends_within, block_told, none_told}
use Rattle.world.proofs.image.place_block.Goals as goal

pub place_bytes-requires-clause-room : goal.place_bytes-requires-clause-room
place_bytes-requires-clause-room c =
    let known = c.requires.known in
    let count : to_z w64 (of_z w64 c.from.result) ≡ pos c.args.block.now.count = to_z-of_z w64 c.from.result (record { sfits = c.from.type_inv }) ∙ c.from.ensures in
    let granted = took c.args.kernel.now c.update.new.self c.args.memory.now known.share c.args.owner c.args.block.now known.filled known.tells c.image_layout-layout.result _ c.image_layout-layout.ensures count c.in-Ok-Base.base c.in-Ok-Base.field-0 c.in-Ok-Base.field-0-is c.in-Ok-Base.ensures.serves in
    has_few c.args.kernel.now c.update.new.self c.args.memory.now known.share c.args.owner c.args.block.now known.filled known.tells c.image_layout-layout.result _ c.image_layout-layout.ensures count c.in-Ok-Base.base granted

pub place_bytes-requires-clause-within : goal.place_bytes-requires-clause-within
place_bytes-requires-clause-within c =
    let known = c.requires.known in
    let count : to_z w64 (of_z w64 c.from.result) ≡ pos c.args.block.now.count = to_z-of_z w64 c.from.result (record { sfits = c.from.type_inv }) ∙ c.from.ensures in
    let granted = took c.args.kernel.now c.update.new.self c.args.memory.now known.share c.args.owner c.args.block.now known.filled known.tells c.image_layout-layout.result _ c.image_layout-layout.ensures count c.in-Ok-Base.base c.in-Ok-Base.field-0 c.in-Ok-Base.field-0-is c.in-Ok-Base.ensures.serves in
    ends_within c.args.kernel.now c.update.new.self c.args.memory.now known.share c.args.owner c.args.block.now known.filled known.tells c.image_layout-layout.result _ c.image_layout-layout.ensures count c.in-Ok-Base.base granted

pub returns-in-Ok-Base : goal.returns-in-Ok-Base
returns-in-Ok-Base c = λ share f tells.
    let count : to_z w64 (of_z w64 c.from.result) ≡ pos c.args.block.now.count = to_z-of_z w64 c.from.result (record { sfits = c.from.type_inv }) ∙ c.from.ensures in
    block_told c.args.kernel.now c.update.new.self c.args.memory.now share c.args.owner c.args.block.now f tells c.image_layout-layout.result _ c.image_layout-layout.ensures count
    c.requires.driver c.requires.few c.if-layout-eq0.false c.in-Ok-Base.base c.in-Ok-Base.field-0 c.place_bytes.new.memory c.in-Ok-Base.field-0-is c.in-Ok-Base.ensures.serves c.in-Ok-Base.ensures.share
    (c.place_bytes.ensures ∙ ap (λ (bs : List ℕ). placed_in c.args.memory.now c.in-Ok-Base.base (c.image_layout-layout.result.size * c.args.block.now.count) bs) c.as_slice.ensures)

pub returns-in-Err : goal.returns-in-Err
returns-in-Err c = λ share f tells.
    let count : to_z w64 (of_z w64 c.from.result) ≡ pos c.args.block.now.count = to_z-of_z w64 c.from.result (record { sfits = c.from.type_inv }) ∙ c.from.ensures in
    none_told c.args.kernel.now c.update.new.self c.args.memory.now share c.args.owner c.args.block.now f tells c.image_layout-layout.result _ c.image_layout-layout.ensures count
    c.in-Err._refusal c.in-Err.ensures.serves c.in-Err.ensures.err
