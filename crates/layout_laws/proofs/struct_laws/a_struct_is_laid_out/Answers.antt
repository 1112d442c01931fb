use Rattle.deputy_types.proofs.MembersLie.{laid_out-lies}
use Rattle.layout_laws.proofs.struct_laws.a_struct_is_laid_out.Goals as goal

pub returns : goal.returns
returns c = laid_out-lies
