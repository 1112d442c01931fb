-- The verdict of the text is the one that is told.
use Rattle.std.proofs.Common.{refl}
use Rattle.sd_engine.proofs.TextsTold.{accepted-told, refused-told}
use Rattle.sd_engine.proofs.check.refusal_of.Goals as goal

pub returns-in-Ok : goal.returns-in-Ok
returns-in-Ok c = accepted-told _ _ c.in-Ok.ensures.verdict

pub returns-in-Some : goal.returns-in-Some
returns-in-Some c = (refl, refused-told _ _ _ c.in-Some.ensures c.in-Err.ensures.verdict)
