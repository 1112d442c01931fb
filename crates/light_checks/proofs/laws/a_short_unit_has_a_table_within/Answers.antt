use Rattle.light_checks.proofs.ShortUnits.{table_within}
use Rattle.light_checks.proofs.laws.a_short_unit_has_a_table_within.Goals as goal

pub returns : goal.returns
returns c = table_within
