-- Each table's own removal, as the undoing of an item.
use Rattle.std.proofs.Common.{◌≡◌, ℕ, List, ℤ, Some, refl, sym, ◌∙◌, subst}
use Rattle.sd_base.specs.declared.actors.Who.{Who}
use Rattle.sd_base.specs.Selection.{without_first}
use Rattle.sd_base.specs.History.{Key, lock_key, is_of}
use Rattle.sd_base.specs.Part.{Loses}
use Rattle.claim_table.specs.ClaimRows.{ClaimRows}
use Rattle.claim_table.specs.ClaimPart.{HoldsClaims}
use Rattle.grant_table.specs.declared.blocks.BlockRow.{BlockRow}
use Rattle.grant_table.specs.GrantPart.{HoldsGrants}
use Rattle.share_table.specs.Rows.{ShareRows}
use Rattle.share_table.specs.Table.{HoldsShares}
use Rattle.share_table.specs.Locks.{lock_at}
use Rattle.timer_table.specs.declared.fired.Fired.{Fired}
use Rattle.timer_table.specs.Table.{HoldsTimers}
use Rattle.kernel_tables.specs.declared.kernel.Kernel.{Kernel}
use Rattle.kernel_tables.specs.Standing.{HoldsTables}
use Rattle.update_tracker.specs.declared.undo.Undo.{Undo}
use Rattle.update_tracker.specs.declared.undo.Undo.TheVariants as undo
use Rattle.update_tracker.specs.Undoing.{undo_key, Undoes, LosesLock}
use Rattle.update_tracker.proofs.Able.{lock_held}
use Rattle.update_tracker.proofs.Without.{NoBlock, NoClaim, NoTimer, NoShare, shares_stand, grants_lose, claims_lose, timers_lose, shares_lose}

-- the key of the item, whichever task's it is
abbrev pub HasKey : Undo → Key → Type 0
HasKey item key = (task : ℕ) → undo_key task item ≡ key

undoes_by : (old new : Kernel) (owner : ℕ) (item : Undo) (key : Key) → HasKey item key → Loses HoldsTables old owner key new → Undoes old owner item new
undoes_by old new owner item key same loses live task sound there holds = subst (λ y. HoldsTables new (without_first (is_of owner y) live)) (sym (same task)) (loses live sound holds)

pub grants_undone : (k : Kernel) (new : List (List BlockRow)) (owner : ℕ) (item : Undo) (key : Key) → HasKey item key → NoClaim key → NoTimer key → NoShare key → Loses HoldsGrants k.grants owner key new →
    Undoes k owner item (record k { grants = new })
grants_undone k new owner item key same c t s loses = undoes_by k (record k { grants = new }) owner item key same (grants_lose k new owner key c t s loses)

pub claims_undone : (k : Kernel) (new : ClaimRows) (owner : ℕ) (item : Undo) (key : Key) → HasKey item key → NoBlock key → NoTimer key → NoShare key → Loses HoldsClaims k.claims owner key new →
    Undoes k owner item (record k { claims = new })
claims_undone k new owner item key same b t s loses = undoes_by k (record k { claims = new }) owner item key same (claims_lose k new owner key b t s loses)

pub timers_undone : (k : Kernel) (new : List Fired) (owner : ℕ) (item : Undo) (key : Key) → HasKey item key → NoBlock key → NoClaim key → NoShare key → Loses HoldsTimers k.timers owner key new →
    Undoes k owner item (record k { timers = new })
timers_undone k new owner item key same b c s loses = undoes_by k (record k { timers = new }) owner item key same (timers_lose k new owner key b c s loses)

pub shares_undone : (k : Kernel) (new : ShareRows) (owner : ℕ) (item : Undo) (key : Key) → HasKey item key → NoBlock key → NoClaim key → NoTimer key → Loses HoldsShares k.shares owner key new →
    Undoes k owner item (record k { shares = new })
shares_undone k new owner item key same b c t loses = undoes_by k (record k { shares = new }) owner item key same (shares_lose k new owner key b c t loses)

-- a lock goes with the task that the table has there
some_who : (a b : Who) → Some a ≡ Some b → a ≡ b
some_who a b h = cc

pub lock_loses : (old new : ShareRows) (owner : ℕ) (lock : ℤ) (who : Who) → Some who ≡ lock_at old.locks lock → Loses HoldsShares old who.owner (lock_key lock who.task) new → LosesLock old owner lock new
lock_loses old new owner lock who is loses live task sound there holds =
    let same : who ≡ record { owner = owner; task = task } = some_who who (record { owner = owner; task = task }) (is ∙ lock_held old.locks live owner task lock sound holds.locks there) in
    subst (λ (w : Who). HoldsShares new (without_first (is_of w.owner (lock_key lock w.task)) live)) same (loses live sound holds)

pub lock_undone : (k : Kernel) (new : ShareRows) (owner : ℕ) (lock : ℤ) → LosesLock k.shares owner lock new → Undoes k owner (undo.Lock lock) (record k { shares = new })
lock_undone k new owner lock loses live task sound there holds =
    let key : Key = lock_key lock task in
    shares_stand k new owner key live (refl, refl) (refl, refl, refl, refl) refl holds (loses live task sound there holds.shares)
