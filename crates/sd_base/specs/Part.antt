-- What it means that a table holds its part of a history, and what each call of a table does to that part.
--
-- Of every table there is a relation `Holds` between what the table contains and a list of live entries.
use Rattle.std.specs.Prelude.{◌≡◌, ℕ, List, ◌∷◌, Option, None}
use Rattle.sd_base.specs.declared.history.Refusal.{Refusal}
use Rattle.sd_base.specs.declared.history.Update.{Update}
use Rattle.sd_base.specs.Selection.{without_first}
use Rattle.sd_base.specs.History.{Entry, History, Key, entry, is_of, live_of}
use Rattle.sd_base.specs.Allowed.{refusal, IsLawful, IsProper}
use Rattle.sd_base.specs.Sound.{IsSound}

-- The share is how many owners may hold one line: a history that is lawful by one share need not be so by another. For every history
-- that is lawful by this share and of which the table holds its part, an owner's update is answered as the history says, and where it
-- is accepted the table then holds the part of the history with the update.
abbrev pub ServesAt : ℕ → {V : Type 0} → (V → List Entry → Type 0) → V → ℕ → Update → Option Refusal → V → Type 0
ServesAt share Holds old owner update answer new =
    (h : History) → IsLawful share h → IsProper h → Holds old (live_of h) →
    (answer ≡ refusal share h owner update) × (answer ≡ None → Holds new (live_of (entry owner update ∷ h)))

-- the same by every share: the clause of the tables that have no lines
abbrev pub Serves : {V : Type 0} → (V → List Entry → Type 0) → V → ℕ → Update → Option Refusal → V → Type 0
Serves Holds old owner update answer new = (share : ℕ) → ServesAt share Holds old owner update answer new

-- Of whatever sound live entries the table holds its part, it then holds the part of those without the newest one of this owner and
-- key.
abbrev pub Loses : {V : Type 0} → (V → List Entry → Type 0) → V → ℕ → Key → V → Type 0
Loses Holds old owner key new = (live : List Entry) → IsSound live → Holds old live → Holds new (without_first (is_of owner key) live)
