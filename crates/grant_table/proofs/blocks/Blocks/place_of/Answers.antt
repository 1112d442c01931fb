-- The binary search finds the first block whose base is not smaller; the bases rise, so it is the one or there is none.
use Rattle.std.proofs.Common.{◌≡◌, ◌≢◌, ◌<◌, ◌≤◌, List, false, ltb, length, get_or, sym, ap, ◌∙◌, subst, rules, arith}
use Rattle.std.specs.List.{list_any}
use Rattle.std.specs.List.Sorted.{IsNonDecreasingBy, IsPartitionedBy}
use Rattle.std.proofs.lemmas.List.Sorted.{IsPartitionPoint-from_clause, IsPartitionedBy-ltb}
use Rattle.grant_table.specs.declared.blocks.BlockRow.{BlockRow}
use Rattle.grant_table.specs.BlockRows.{row_has_base, IsFirstPlace}
use Rattle.grant_table.proofs.Arena.{arena_rises}
use Rattle.grant_table.proofs.Places.{none_below, none_at, first_at}
use Rattle.grant_table.proofs.blocks.Blocks.place_of.Goals as goal

pub returns-then-place-len : goal.returns-then-place-len
returns-then-place-len c =
    let rises : IsNonDecreasingBy (λ (b : BlockRow). b.base) c.as_slice.result.now = subst (IsNonDecreasingBy (λ (b : BlockRow). b.base)) (sym c.as_slice.ensures.value) (arena_rises 16 c.self.inside.rows.items c.self.invariant.2) in
    let parted : IsPartitionedBy (λ (y : BlockRow). ltb y.base c.args.base) c.as_slice.result.now = IsPartitionedBy-ltb (λ (y : BlockRow). y.base) c.as_slice.result.now c.args.base rises in
    let point = IsPartitionPoint-from_clause (λ (y : BlockRow). ltb y.base c.args.base) c.as_slice.result.now c.partition_point-place.result c.partition_point-place.ensures.partitioned parted (λ a r q k. search rules) in
    let all : length c.as_slice.result.now ≤ c.partition_point-place.result = omega (arith, ap length c.as_slice.ensures.value) in
    subst (λ rows. list_any (row_has_base c.args.base) rows ≡ false) (c.as_slice.ensures.value ∙ c.self.view_is) (none_below c.as_slice.result.now c.args.base c.partition_point-place.result all point.0)

pub returns-then-index-base : goal.returns-then-index-base
returns-then-index-base c =
    let rises : IsNonDecreasingBy (λ (b : BlockRow). b.base) c.as_slice.result.now = subst (IsNonDecreasingBy (λ (b : BlockRow). b.base)) (sym c.as_slice.ensures.value) (arena_rises 16 c.self.inside.rows.items c.self.invariant.2) in
    let parted : IsPartitionedBy (λ (y : BlockRow). ltb y.base c.args.base) c.as_slice.result.now = IsPartitionedBy-ltb (λ (y : BlockRow). y.base) c.as_slice.result.now c.args.base rises in
    let point = IsPartitionPoint-from_clause (λ (y : BlockRow). ltb y.base c.args.base) c.as_slice.result.now c.partition_point-place.result c.partition_point-place.ensures.partitioned parted (λ a r q k. search rules) in
    let within : c.partition_point-place.result < length c.as_slice.result.now = omega (arith, c.partition_point-place.ensures.bound, ap length c.as_slice.ensures.value) in
    let at : c.index.result.now ≡ get_or c.self.inside.rows.items c.partition_point-place.result c.index.result.now = search rules in
    let here : c.index.result.now ≡ get_or c.as_slice.result.now c.partition_point-place.result c.index.result.now =
    at ∙ ap (λ (rows : List BlockRow). get_or rows c.partition_point-place.result c.index.result.now) (sym c.as_slice.ensures.value) in
    let other : c.index.result.now.base ≢ c.args.base = search rules in
    subst (λ rows. list_any (row_has_base c.args.base) rows ≡ false) (c.as_slice.ensures.value ∙ c.self.view_is)
    (none_at c.as_slice.result.now c.args.base c.partition_point-place.result c.index.result.now rises within here other point.0 point.1)

pub returns : goal.returns
returns c =
    let rises : IsNonDecreasingBy (λ (b : BlockRow). b.base) c.as_slice.result.now = subst (IsNonDecreasingBy (λ (b : BlockRow). b.base)) (sym c.as_slice.ensures.value) (arena_rises 16 c.self.inside.rows.items c.self.invariant.2) in
    let parted : IsPartitionedBy (λ (y : BlockRow). ltb y.base c.args.base) c.as_slice.result.now = IsPartitionedBy-ltb (λ (y : BlockRow). y.base) c.as_slice.result.now c.args.base rises in
    let point = IsPartitionPoint-from_clause (λ (y : BlockRow). ltb y.base c.args.base) c.as_slice.result.now c.partition_point-place.result c.partition_point-place.ensures.partitioned parted (λ a r q k. search rules) in
    let within : c.partition_point-place.result < length c.as_slice.result.now = omega (arith, c.partition_point-place.ensures.bound, ap length c.as_slice.ensures.value) in
    let at : c.index.result.now ≡ get_or c.self.inside.rows.items c.partition_point-place.result c.index.result.now = search rules in
    let here : c.index.result.now ≡ get_or c.as_slice.result.now c.partition_point-place.result c.index.result.now =
    at ∙ ap (λ (rows : List BlockRow). get_or rows c.partition_point-place.result c.index.result.now) (sym c.as_slice.ensures.value) in
    let base : c.index.result.now.base ≡ c.args.base = search rules in
    subst (λ rows. IsFirstPlace (row_has_base c.args.base) rows c.partition_point-place.result) (c.as_slice.ensures.value ∙ c.self.view_is)
    (first_at c.as_slice.result.now c.args.base c.partition_point-place.result c.index.result.now within here base point.0)
