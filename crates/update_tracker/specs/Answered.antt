-- What a history answers to an update, and what it means that the kernel serves one.
use Rattle.std.specs.Prelude.{◌≡◌, ℕ, ◌∷◌, Option, Some, None, Result, Ok, Err, OnOk}
use Rattle.sd_base.specs.declared.history.Refusal.{Refusal}
use Rattle.sd_base.specs.declared.history.Refusal.TheVariants.{NoRoom}
use Rattle.sd_base.specs.declared.history.Update.{Update}
use Rattle.sd_base.specs.declared.history.Update.TheVariants.{Grant}
use Rattle.sd_base.specs.History.{History, entry}
use Rattle.sd_base.specs.Blocks.{next_base, granted}
use Rattle.sd_base.specs.Allowed.{refusal, IsLawful, IsProper}
use Rattle.kernel_tables.specs.declared.kernel.Kernel.{Kernel}
use Rattle.kernel_tables.specs.Standing.{StandsFor}
use Rattle.update_tracker.specs.declared.undo.Reply.{Reply}
use Rattle.update_tracker.specs.declared.undo.Reply.TheVariants.{Done, Base}

abbrev pub Answer : Type 0
Answer = Result Reply Refusal

-- the reply, unless there is a refusal
abbrev pub unless : Option Refusal → Reply → Answer
unless None reply = Ok reply
unless (Some refusal) reply = Err refusal

-- the refusal of an answer, if it is one
abbrev pub refused : Answer → Option Refusal
refused (Ok reply) = None
refused (Err refusal) = Some refusal

-- a block's base, or that there is no room for it
abbrev pub based : Option ℕ → Answer
based None = Err NoRoom
based (Some base) = Ok (Base base)

-- what an accepted update is answered: a grant by the base of the block, every other that it is done
abbrev pub reply_to : History → ℕ → Update → Reply
reply_to h owner (Grant layout n image) = Base (next_base (granted h owner))
reply_to h owner _ = Done

-- what a history answers to an owner's update: the refusal of its rule, or the reply
abbrev pub answered : ℕ → History → ℕ → Update → Answer
answered share h owner update = unless (refusal share h owner update) (reply_to h owner update)

-- For every lawful history for which the kernel stands, an owner's update is answered as the history says, and where it is
-- accepted the kernel then stands for the history with the update.
abbrev pub ServesKernel : Kernel → ℕ → Update → Answer → Kernel → Type 0
ServesKernel old owner update answer new =
    (h : History) → IsLawful old.claims.share h → IsProper h → StandsFor old h →
    (answer ≡ answered old.claims.share h owner update) × OnOk answer (StandsFor new (entry owner update ∷ h))
