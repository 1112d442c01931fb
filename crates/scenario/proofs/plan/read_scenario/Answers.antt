-- Each line goes behind what was read, or ends the reading.
use Rattle.std.proofs.Common.{◌≡◌, ℕ, ◌∷◌, List, [], length, Option, Some, Result, Ok, Err, ℤ, false, inr, sym, subst, ap, ◌∙◌, arith, length-append, ◌+◌, OnOk}
use Rattle.std.specs.Result.{is_err}
use Rattle.scenario.specs.declared.event.Event.{Event}
use Rattle.scenario.specs.declared.refusal.ScenarioRefusal.{ScenarioRefusal}
use Rattle.scenario.specs.declared.stages.Stage.{Stage}
use Rattle.scenario.specs.Words.{lines_of, words_of}
use Rattle.scenario.specs.Forms.{Said}
use Rattle.scenario.specs.Fits.{IsVersion}
use Rattle.scenario.specs.Stages.{said_at, stage_after}
use Rattle.scenario.specs.Readings.{said_by}
use Rattle.scenario.specs.Scenarios.{worded, saids_of, given_by, scenario_of}
use Rattle.scenario.proofs.Outcome.{behind, outcome, outcome_is, turn, refused, ended}
use Rattle.scenario.proofs.Staging.{saids_at, saids_behind, saids_ended, version_from, version_behind, version_ended, version_known}
use Rattle.scenario.proofs.Fitting.{IsFitPlan, scenario_fits}
use Rattle.scenario.proofs.plan.read_scenario.Goals as goal

-- a fact of a call that was no error
when_ok : {T E : Type 0} (r : Result T E) (P : Type 0) → is_err r ≡ false → OnOk r P → P
when_ok (Ok x) P fine h = h
when_ok (Err e) P fine h = absurd (cc)

pub returns-in-Err-clause-refusal : goal.returns-in-Err-clause-refusal
returns-in-Err-clause-refusal c =
    let drivers = c.args.drivers in
    let scenario = c.loop-line.scenario in
    let stage = c.loop-line.stage in
    let words = words_of c.in-Some.line.now in
    let total : c.len.result ≡ length scenario.answers.items = c.len.ensures ∙ scenario.answers.ok.0 in
    let why = rw total at c.in-Err.ensures.refusal in
    inr (
    sym (outcome_is (saids_of drivers c.args.text.now)) ∙ c.loop-line.invariant.same
    ∙ refused c.loop-line.number (length scenario.answers.items) scenario.events.items scenario.answers.items (said_at stage drivers words) (saids_at (stage_after stage words) drivers (worded c.in-Some.after.now))
    (saids_at stage drivers (worded c.loop-line.rest.now)) c.in-Err.refusal (saids_behind stage drivers c.in-Some.line.now c.loop-line.rest.now c.in-Some.after.now c.in-Some.ensures.lines) why
    )

pub loop-line-preserved : goal.loop-line-preserved
loop-line-preserved c =
    let drivers = c.args.drivers in
    let scenario = c.loop-line.scenario in
    let stage = c.loop-line.stage in
    let words = words_of c.in-Some.line.now in
    let said : Option Said = Some (said_by c.in-Ok.reading) in
    let total : c.len.result ≡ length scenario.answers.items = c.len.ensures ∙ scenario.answers.ok.0 in
    let fine = rw total at c.in-Ok.ensures.refusal in
    let went_well : is_err c.append.result ≡ false = sym c.is_err.ensures.value ∙ c.if-is_err.false in
    let events = when_ok c.append.result _ went_well c.append.ensures.events in
    let answers = when_ok c.append.result _ went_well c.append.ensures.answers in
    let later = saids_at (stage_after stage words) drivers (worded c.in-Some.after.now) in
    let is = saids_behind stage drivers c.in-Some.line.now c.loop-line.rest.now c.in-Some.after.now c.in-Some.ensures.lines ∙ ap (λ s. s ∷ later) c.in-Ok.ensures.says in
    record {
      version = c.loop-line.invariant.version ∙ version_behind stage c.in-Some.line.now c.loop-line.rest.now c.in-Some.after.now c.in-Some.ensures.lines ∙ ap (λ s. version_from s (worded c.in-Some.after.now)) (sym c.after-stage.ensures);
      lines = c.in-Ok.ensures.within.0;
      values = omega (arith, ap length answers, length-append scenario.answers.items (given_by said), c.in-Ok.ensures.within.1, total);
      same = c.loop-line.invariant.same
          ∙ turn c.loop-line.number scenario.events.items c.append.new.scenario.events.items scenario.answers.items c.append.new.scenario.answers.items said later
          (saids_at stage drivers (worded c.loop-line.rest.now)) is fine events answers
          ∙ ap (λ s. behind c.append.new.scenario.events.items c.append.new.scenario.answers.items (outcome (c.loop-line.number + 1) (length c.append.new.scenario.answers.items) (saids_at s drivers (worded c.in-Some.after.now)))) (sym c.after-stage.ensures);
    }

-- behind the last line the whole text is read
read_whole : (drivers number : ℕ) (stage : Stage) (text rest : List ℕ) (events : List Event) (values : List ℤ)
    → outcome 0 0 (saids_of drivers text) ≡ behind events values (outcome number (length values) (saids_at stage drivers (worded rest))) → lines_of rest ≡ []
    → ◌≡◌ {A = Result (List Event × List ℤ) ScenarioRefusal} (scenario_of drivers text) (Ok (events, values))
read_whole drivers number stage text rest events values same none =
    sym (outcome_is (saids_of drivers text)) ∙ same ∙ ended number (length values) events values (saids_at stage drivers (worded rest)) (saids_ended stage drivers rest none)

pub returns-clause-scenario : goal.returns-clause-scenario
returns-clause-scenario c =
    let scenario = c.loop-line.scenario in
    read_whole c.args.drivers c.loop-line.number c.loop-line.stage c.args.text.now c.loop-line.rest.now scenario.events.items scenario.answers.items c.loop-line.invariant.same c.in_default.ensures.lines

pub returns-clause-version : goal.returns-clause-version
returns-clause-version c =
    c.version-2.ensures ∙ sym (c.loop-line.invariant.version ∙ version_ended c.loop-line.stage c.loop-line.rest.now c.in_default.ensures.lines)

pub returns-clause-known : goal.returns-clause-known
returns-clause-known c =
    let version = c.version-2.ensures ∙ sym (c.loop-line.invariant.version ∙ version_ended c.loop-line.stage c.loop-line.rest.now c.in_default.ensures.lines) in
    subst IsVersion (sym version) (version_known (worded c.args.text.now))

pub returns-clause-fits : goal.returns-clause-fits
returns-clause-fits c =
    let scenario = c.loop-line.scenario in
    let none = c.in_default.ensures.lines in
    let version = c.version-2.ensures ∙ sym (c.loop-line.invariant.version ∙ version_ended c.loop-line.stage c.loop-line.rest.now none) in
    let whole = read_whole c.args.drivers c.loop-line.number c.loop-line.stage c.args.text.now c.loop-line.rest.now scenario.events.items scenario.answers.items c.loop-line.invariant.same none in
    subst (λ v. IsFitPlan v c.args.drivers scenario.events.items (length scenario.answers.items)) (sym version) (scenario_fits c.args.drivers c.args.text.now scenario.events.items scenario.answers.items whole)
