use Rattle.deputy_types.proofs.MembersLie.{answer_lies}
use Rattle.deputy_layouts.proofs.struct_layout.struct_laid.Goals as goal

pub returns-clause-lies : goal.returns-clause-lies
returns-clause-lies c = answer_lies _ _ _ _ _ c.requires c.laid_or_refused.ensures.value
