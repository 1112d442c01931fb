-- What the rules say is computed, and what is computed the rules say.
use Rattle.scenario.proofs.Ruling.{said_by_rules, rules_of_said}
use Rattle.scenario.proofs.laws.lines_read_by_their_rules.Goals as goal

pub returns-clause-read : goal.returns-clause-read
returns-clause-read c = λ version drivers words said rule. said_by_rules rule

pub returns-clause-by_rule : goal.returns-clause-by_rule
returns-clause-by_rule c = rules_of_said
