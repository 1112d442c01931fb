use Rattle.checked_tree.proofs.LightSums.{light_forms, light_sums}
use Rattle.checked_tree.proofs.laws.light_sums_have_values.Goals as goal

pub returns-clause-forms : goal.returns-clause-forms
returns-clause-forms c = light_forms

pub returns-clause-bounds : goal.returns-clause-bounds
returns-clause-bounds c = light_sums
