use Rattle.std.proofs.Common.{Bool, false, if◌then◌else◌, sym, ap, ◌∙◌, refl, arith, slice_get, length}
use Rattle.std.proofs.lemmas.Option.{slice_get_read}
use Rattle.check_elim.specs.Bits.{has}
use Rattle.check_elim.specs.Sets.{AreInequalities, gives_in}
use Rattle.check_elim.specs.Runs.{line_implies}
use Rattle.check_elim.proofs.Clearing.{unguarded, on_line, given_none, given_next, given_all_of}
use Rattle.check_elim.proofs.runs.clear.Goals as goal

pub clear_run-requires : goal.clear_run-requires
unfolding AreInequalities
clear_run-requires c = omega (arith, c.requires.bound, c.requires.table.room, c.requires.size)

pub returns-in-None-clause-members : goal.returns-in-None-clause-members
returns-in-None-clause-members c = λ j.
    c.clear_run.ensures.members j
    ∙ ap (λ (b : Bool). if b then false else has c.args.words.now j) (c.requires.run j ∙ sym (unguarded c.args.strong.now c.in-None.is (slice_get c.args.table.now.facts.items j)))

pub loop-number-init : goal.loop-number-init
loop-number-init c = (
  refl,
  given_none (λ j. gives_in c.args.strong.now (slice_get c.args.table.now.facts.items j)) (λ j. line_implies c.args.strong.now (slice_get c.args.table.now.facts.items j)) c.args.run.from c.args.run.to (has c.args.words.now)
      (λ j. on_line c.args.strong.now (slice_get c.args.table.now.facts.items j)) c.requires.run,
)

pub remove_if-requires : goal.remove_if-requires
unfolding AreInequalities
remove_if-requires c = omega (arith, c.requires.bound, c.requires.table.room, c.requires.size, c.loop-number-test.true, c.loop-number.invariant.0)

pub loop-number-preserved : goal.loop-number-preserved
loop-number-preserved c = (
  c.remove_if.ensures.length ∙ c.loop-number.invariant.0,
  given_next (λ j. gives_in c.args.strong.now (slice_get c.args.table.now.facts.items j)) c.loop-number.number c.is_implied.result (has c.args.words.now) (has c.loop-number.words) (has c.remove_if.new.words)
      (c.is_implied.ensures ∙ ap (gives_in c.args.strong.now) (sym (slice_get_read c.args.table.now.facts.items (length c.args.table.now.facts.items) c.loop-number.number c.index.result.now refl
      (omega (arith, c.loop-number-test.true, c.requires.bound)) c.index.ensures))) c.loop-number.invariant.1 c.remove_if.ensures.members,
)

pub returns-after-loop-number-clause-members : goal.returns-after-loop-number-clause-members
returns-after-loop-number-clause-members c =
    given_all_of (λ j. gives_in c.args.strong.now (slice_get c.args.table.now.facts.items j)) (λ j. line_implies c.args.strong.now (slice_get c.args.table.now.facts.items j)) c.args.run.from c.args.run.to c.loop-number.number
    (has c.args.words.now) (has c.loop-number.words) (λ j. on_line c.args.strong.now (slice_get c.args.table.now.facts.items j)) c.requires.run (omega (arith, c.loop-number-test.false)) c.loop-number.invariant.1
