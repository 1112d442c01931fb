-- There are far fewer rows than numbers of 32 bits.
use Rattle.run_report.proofs.RowCounts.{all_told}
use Rattle.run_report.proofs.laws.all_rows_are_told.Goals as goal

pub returns : goal.returns
returns c = all_told
