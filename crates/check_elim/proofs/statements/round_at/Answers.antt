use Rattle.std.proofs.Common.{length, refl}
use Rattle.std.proofs.lemmas.Option.{slice_get_read}
use Rattle.check_elim.proofs.statements.round_at.Goals as goal

pub returns : goal.returns
returns c = slice_get_read c.args.rounds.now (length c.args.rounds.now) c.args.next c.index-rounds-next.result refl c.requires c.index-rounds-next.is
