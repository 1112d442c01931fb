use Rattle.std.proofs.Common.{rules, sym}
use Rattle.std.proofs.lemmas.Option.{slice_get_read}
use Rattle.driver_machine.proofs.task.the_function.Goals as goal

pub returns : goal.returns
returns c = sym (search (rules, slice_get_read))
