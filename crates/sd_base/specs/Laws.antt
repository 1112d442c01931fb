-- The laws of histories that a public function states.
use Rattle.std.specs.Prelude.{◌≡◌, ◌≢◌, ℕ}
use Rattle.sd_base.specs.History.{History, net_of, Without}
use Rattle.sd_base.specs.Allowed.{IsLawful, IsProper}

-- whatever one driver held never decides whether another owner's past updates were allowed
abbrev pub LawfulWithoutOwner : Type 0
LawfulWithoutOwner =
    (share : ℕ) (h : History) (owner : ℕ) → owner ≢ 0 → IsProper h → IsLawful share h → IsLawful share (Without h owner)

-- to leave one owner out takes nothing from another owner's net list
abbrev pub NetListsStay : Type 0
NetListsStay = (h : History) (owner other : ℕ) → other ≢ owner → net_of (Without h owner) other ≡ net_of h other
