-- The refusals that the answers about holds and work name.
use Rattle.std.specs.Prelude.{Option, Some, None, Result, Ok, Err}
use Rattle.sd_base.specs.declared.history.Refusal.{Refusal}
use Rattle.sd_base.specs.declared.history.Refusal.TheVariants.{Bad, Full}
use Rattle.share_table.specs.declared.answers.ShareRefusal.{ShareRefusal}
use Rattle.share_table.specs.declared.answers.ShareRefusal.TheVariants as share

abbrev pub refusal_as : ShareRefusal → Refusal
refusal_as share.Bad = Bad
refusal_as share.Full = Full

-- the refusal that an answer names, or None where it accepts
abbrev pub refusal_of_share : Result (Unit {0}) ShareRefusal → Option Refusal
refusal_of_share (Ok done) = None
refusal_of_share (Err refusal) = Some (refusal_as refusal)
