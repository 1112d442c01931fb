-- How net lists go with a history.
use Rattle.std.specs.Prelude.{◌≡◌, ◌≢◌, ℕ, ◌≤◌, List, [], ◌∷◌, map, length}
use Rattle.std.specs.List.{filter}
use Rattle.sd_base.specs.declared.history.Update.{Update}
use Rattle.sd_base.specs.History.{Entry, History, entry, is_owner, after_entry, live_of, net_of, Without}
use Rattle.sd_base.specs.Allowed.{IsLawful, IsProper}

-- an owner's own live entries, the newest first
abbrev pub own_live : History → ℕ → List Entry
own_live h owner = filter (is_owner owner) (live_of h)

-- the updates of entries
abbrev pub updates_of : List Entry → List Update
updates_of live = map (λ e. e.update) live

-- one more entry does to its owner's net list what its role does to the owner's own live entries, and nothing to another's
abbrev pub NetListsAfterEntry : Type 0
NetListsAfterEntry =
    (h : History) (owner : ℕ) (update : Update)
    → (net_of (entry owner update ∷ h) owner ≡ updates_of (after_entry (entry owner update) (own_live h owner)))
    × ((other : ℕ) → other ≢ owner → net_of (entry owner update ∷ h) other ≡ net_of h other)

-- an owner that is left out has an empty net list
abbrev pub NothingLeftOfOwner : Type 0
NothingLeftOfOwner = (h : History) (owner : ℕ) → net_of (Without h owner) owner ≡ []

-- In a lawful history an owner has at most 9,065 entries in its net list: 4,096 blocks and as many releases, 64 lines, 32 ranges
-- of ports, 32 devices, 32 parameters, 64 timers, 64 locks, 8 holds on each of 64 domains, 64 items of work and 9 masks.
abbrev pub NetListsAreShort : Type 0
NetListsAreShort = (share : ℕ) (h : History) (owner : ℕ) → IsLawful share h → IsProper h → length (net_of h owner) ≤ 9065
