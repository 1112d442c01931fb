use Rattle.std.proofs.Common.{true, false, rules, arith, sym, ◌∙◌}
use Rattle.claim_table.proofs.Latest.{takes_next}
use Rattle.claim_table.proofs.rows.Rows.take_latest.Goals.{then-not-begins_with, else-not-begins_with}
use Rattle.claim_table.proofs.rows.Rows.take_latest.Goals as goal

pub loop-place-preserved : goal.loop-place-preserved
loop-place-preserved g c =
    elim c.if-not-begins_with.branch [
      | then-not-begins_with w ↦ (
        takes_next c.as_slice-claims.result.now c.loop-place.self-inside.claims.items _ c.loop-place.place c.index-claims-place.result false (omega arith) c.index-claims-place.is c.loop-place.invariant.0 (sym w.if-not-begins_with.true ∙ c.begins_with.ensures) (search rules),
        search rules,
      )
      | else-not-begins_with w ↦ (
        takes_next c.as_slice-claims.result.now c.loop-place.self-inside.claims.items _ c.loop-place.place c.index-claims-place.result true (omega arith) c.index-claims-place.is c.loop-place.invariant.0 (sym w.if-not-begins_with.false ∙ c.begins_with.ensures) (search rules),
        search rules,
      )
    ]
