-- After a failure the history is the old one without that driver's entries, its memory is all 0, its activities are gone, and the others'
-- are
-- untouched; what is printed is the failure, its net list from the newest entry, and the tables of what is left.
-- Here: failure
use Rattle.std.proofs.Common.{◌≡◌, ◌≢◌, ℕ, zero, suc, ◌≤◌, true, false, eqb, List, [], ◌∷◌, ◌++◌, length, Option, Some, None, refl, ap, arith}
use Rattle.std.proofs.lemmas.List.{get_or-set_same, get_or-set_other}
use Rattle.sd_base.specs.declared.actors.Who.{Who}
use Rattle.sd_base.specs.declared.kinds.FailKind.{FailKind}
use Rattle.sd_base.specs.History.{History, Without}
use Rattle.kernel_tables.specs.TableRows.{tables_of}
use Rattle.run_report.specs.Tables.{table_items}
use Rattle.run_report.specs.declared.item.Item.TheVariants as item
use Rattle.world_core.specs.WorldState.{WorldState, Running, Tasks, bytes_of, empty_arena, activity_of, is_owned, has_activity, unless_owned, without_activities, driver_of, of_owner, with_owner}
use Rattle.world_core.specs.Script.{does, without_driver}
use Rattle.world_core.specs.Showing.{show}
use Rattle.world_core.specs.Laws.{IsTakenBack, IsFailure}
use Rattle.world_core.specs.Failing.{undo_items, takes_back, fails, failed}

-- ---- one thing for each driver

pub of_owner-same : {A : Type 0} (none x : A) (xs : List A) (owner : ℕ) → 1 ≤ owner → owner ≤ length xs →
    of_owner none (with_owner xs owner x) owner ≡ x
of_owner-same none x xs zero from to = absurd (omega arith)
of_owner-same none x xs (suc k) from to = get_or-set_same xs k x none to

pub of_owner-other : {A : Type 0} (none x : A) (xs : List A) (owner other : ℕ) → other ≢ owner →
    of_owner none (with_owner xs owner x) other ≡ of_owner none xs other
of_owner-other none x xs zero other apart = refl
of_owner-other none x xs (suc k) zero apart = refl
of_owner-other none x xs (suc k) (suc j) apart = get_or-set_other xs k j x none (λ same. apart (ap suc same))

-- ---- activities

gone : (owner : ℕ) (a : Option Running) → is_owned owner (unless_owned owner a) ≡ false
gone owner None = refl
gone owner (Some r) =
    elim (eqb r.owner owner) as (λ b. eqb r.owner owner ≡ b →
    is_owned owner (elim b as (λ x. Option Running) [ true ↦ None | false ↦ Some r ]) ≡ false)
    [ true ↦ λ e. refl | false ↦ λ e. e ] refl

-- none of its activities is left
pub none-left : (owner : ℕ) (tasks : Tasks) → has_activity (without_activities owner tasks) owner ≡ false
none-left owner [] = refl
none-left owner (a ∷ tasks) = simp (gone owner a, none-left owner tasks)

other_stays : (owner : ℕ) (a : Option Running) → is_owned owner a ≡ false → unless_owned owner a ≡ a
other_stays owner None other = refl
other_stays owner (Some r) other = ap (λ b. elim b as (λ x. Option Running) [ true ↦ None | false ↦ Some r ]) other

-- an activity of another is as it was
pub others-stay : (owner task : ℕ) (tasks : Tasks) → is_owned owner (activity_of tasks task) ≡ false →
    activity_of (without_activities owner tasks) task ≡ activity_of tasks task
others-stay owner task [] other = refl
others-stay owner zero (a ∷ tasks) other = other_stays owner a other
others-stay owner (suc task) (a ∷ tasks) other = others-stay owner task tasks other

-- ---- the history

left_out : (owner : ℕ) (h : History) → 1 ≤ owner → without_driver owner h ≡ Without h owner
left_out zero h from = absurd (omega arith)
left_out (suc k) h from = refl

-- ---- the failure

pub failure : (who : Who) (kind : FailKind) (line : ℕ) (s : WorldState) → IsFailure who kind line s (does (fails who kind line) s)
unfolding fails takes_back show
failure who kind line s = record {
  taken_back = record {
    history = left_out who.owner s.history;
    activities = none-left who.owner s.tasks;
    other_activities = λ task other. others-stay who.owner task s.tasks other;
    memory = λ from to. of_owner-same [] empty_arena s.memories who.owner from to;
    other_memories = λ other apart. of_owner-other [] empty_arena s.memories who.owner other apart;
    other_drivers = λ other apart. of_owner-other _ _ s.run.drivers who.owner other apart;
    waiting = refl;
    left = refl;
    devices = refl;
    plan = refl;
  };
  driver = λ from to. of_owner-same _ _ s.run.drivers who.owner from to;
  flag = refl;
  said = refl;
}
