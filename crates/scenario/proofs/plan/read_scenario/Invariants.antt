-- The outcome of the whole text is that of the rest behind what was read.
use Rattle.std.proofs.Common.{◌≡◌, ◌≤◌, length}
use Rattle.scenario.specs.Scenarios.{worded, version_of, saids_of}
use Rattle.scenario.proofs.Staging.{saids_at, version_from}
use Rattle.scenario.proofs.Outcome.{behind, outcome}
use Rattle.scenario.proofs.plan.read_scenario.Given as goal

abbrev pub invariant-loop-line : goal.invariant-loop-line
invariant-loop-line l =
    record {
      version : version_of l.text ≡ version_from l.stage (worded l.rest);
      lines : l.number ≤ 65536;
      values : length l.scenario.answers.items ≤ 262144;
      same : outcome 0 0 (saids_of l.drivers l.text) ≡ behind l.scenario.events.items l.scenario.answers.items (outcome l.number (length l.scenario.answers.items) (saids_at l.stage l.drivers (worded l.rest)));
    }

abbrev pub decreases-loop-line : goal.decreases-loop-line
decreases-loop-line l = length l.rest
