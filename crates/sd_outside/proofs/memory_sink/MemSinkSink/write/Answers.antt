-- A write is refused by its number or for want of room, and what has room is always appended.
use Rattle.std.proofs.Common.{refl, sym, ◌∙◌, inl, inr, arith}
use Rattle.std.proofs.lemmas.Bool.Decides.{nat_tests}
use Rattle.std.proofs.lemmas.Grind.{common_steps}
use Rattle.sd_outside.proofs.memory_sink.MemSinkSink.write.Goals as goal
use Rattle.sd_outside.proofs.memory_sink.MemSinkSink.write.Goals.{then-contains, else-contains+then-left-eq0, else-contains+else-left-eq0, then-is_refused-via-then-is_refused, then-is_refused-via-else-is_refused+then-is_err}

pub returns-then-is_refused-clause-failed : goal.returns-then-is_refused-clause-failed
returns-then-is_refused-clause-failed c = (
  λ _. rw (← c.self.view_is) (elim c.then-is_refused.branch [
    | then-is_refused-via-then-is_refused w ↦
        elim c.if-contains.branch [
          | then-contains v ↦ inl (rw (← c.saturating_add-self-inside.ensures, ← c.deref.ensures.value) (sym c.contains.ensures.value ∙ v.if-contains.true))
          | else-contains+then-left-eq0 v ↦ inr (grind (arith, nat_tests), grind (arith, nat_tests))
          | else-contains+else-left-eq0 v ↦ absurd (grind arith)
        ]
    | then-is_refused-via-else-is_refused+then-is_err w ↦ absurd (grind (arith, common_steps))
  ]),
  λ _. refl,
)
