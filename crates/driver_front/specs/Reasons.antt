-- How a verdict is told: the line and the cause of a refusal, and the cause as a word.
use Rattle.std.specs.Prelude.{◌≡◌, ℕ, List, codes, Option, Some, None, Ok, Err}
use Rattle.c_tree.specs.Bytes.{Text}
use Rattle.checked_tree.specs.declared.units.CheckedUnit.{CheckedUnit}
use Rattle.driver_front.specs.declared.causes.Cause.{Cause}
use Rattle.driver_front.specs.declared.causes.Cause.TheVariants as cause
use Rattle.driver_front.specs.declared.reason.Reason.{Reason}
use Rattle.driver_front.specs.declared.refusal.DriverRefusal.{DriverRefusal}
use Rattle.driver_front.specs.declared.refusal.DriverRefusal.TheVariants as refusal
use Rattle.driver_front.specs.Verdict.{Verdict, IsUnread}

-- A cause as it is printed.
abbrev pub spelling_of : Cause → List ℕ
spelling_of cause.Word = codes "word"
spelling_of cause.Item = codes "item"
spelling_of cause.Type = codes "type"
spelling_of cause.Rule = codes "rule"
spelling_of cause.Limit = codes "limit"

-- on this line, for this cause
abbrev pub at : ℕ → Cause → Option Reason
at n c = Some (record { line = n; cause = c })

-- the line and the cause of a refusal; want of memory has none
abbrev pub reason_of : DriverRefusal → Option Reason
reason_of (refusal.NotAWord n) = at n cause.Word
reason_of (refusal.NoItem n) = at n cause.Item
reason_of (refusal.NoDecl n) = at n cause.Type
reason_of (refusal.NoRule n) = at n cause.Rule
reason_of (refusal.Limit n kind) = at n cause.Limit
reason_of refusal.Memory = None

-- A text is accepted, as some checked unit.
abbrev pub IsAccepted : Text → Type 0
IsAccepted t = (c : CheckedUnit) × Verdict t (Ok c)

-- A text is refused on this line for this cause.
pub record IsRefusedAt (t : Text) (n : ℕ) (c : Cause) : Type 0 where
  pub refusal : DriverRefusal
  pub verdict : Verdict t (Err refusal)
  pub told : reason_of refusal ≡ at n c

-- A text is not read, on this line for this cause.
pub record IsUnreadAt (t : Text) (n : ℕ) (c : Cause) : Type 0 where
  pub refusal : DriverRefusal
  pub unread : IsUnread t refusal
  pub told : reason_of refusal ≡ at n c
