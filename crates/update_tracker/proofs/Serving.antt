-- What each table serves, the kernel serves.
use Rattle.std.proofs.Common.{◌≡◌, ℕ, List, ◌∷◌, ℤ, Bool, Option, Some, None, Ok, OnOk, refl, ap, sym, ◌∙◌, subst}
use Rattle.sd_base.specs.declared.history.Layout.{Layout}
use Rattle.sd_base.specs.declared.history.Refusal.{Refusal}
use Rattle.sd_base.specs.declared.history.Update.{Update}
use Rattle.sd_base.specs.declared.history.Update.TheVariants.{Grant}
use Rattle.sd_base.specs.History.{History, entry, live_of, clock_of}
use Rattle.sd_base.specs.Blocks.{next_base, granted}
use Rattle.sd_base.specs.Allowed.{refusal}
use Rattle.sd_base.specs.Part.{ServesAt, Serves}
use Rattle.claim_table.specs.ClaimRows.{ClaimRows}
use Rattle.claim_table.specs.ClaimPart.{HoldsClaims}
use Rattle.grant_table.specs.declared.blocks.BlockRow.{BlockRow}
use Rattle.grant_table.specs.GrantPart.{HoldsGrants, no_room, OfEachHistory}
use Rattle.share_table.specs.Rows.{ShareRows}
use Rattle.share_table.specs.Table.{HoldsShares}
use Rattle.timer_table.specs.declared.fired.Fired.{Fired}
use Rattle.timer_table.specs.Table.{HoldsTimers}
use Rattle.kernel_tables.specs.declared.kernel.Kernel.{Kernel}
use Rattle.kernel_tables.specs.Standing.{StandsFor}
use Rattle.update_tracker.specs.declared.undo.Reply.{Reply}
use Rattle.update_tracker.specs.declared.undo.Reply.TheVariants.{Done, Base}
use Rattle.update_tracker.specs.Answered.{Answer, unless, based, reply_to, ServesKernel}
use Rattle.update_tracker.proofs.Frames.{LeavesGrants, LeavesClaims, LeavesTimers, LeavesShares, LeavesClock, grants_kept, claims_kept, timers_kept, shares_kept}

pub accepted : (answer : Option Refusal) (reply : Reply) (P : Type 0) → (answer ≡ None → P) → OnOk (unless answer reply) P
accepted None reply P h = h refl
accepted (Some r) reply P h = tt

-- the update is answered that it is done
abbrev pub IsDone : ℕ → Update → Type 0
IsDone owner u = (h : History) → reply_to h owner u ≡ Done

done_as : (share : ℕ) (h : History) (owner : ℕ) (u : Update) (answer : Option Refusal) (result : Answer) → result ≡ unless answer Done → IsDone owner u → answer ≡ refusal share h owner u →
    result ≡ unless (refusal share h owner u) (reply_to h owner u)
done_as share h owner u answer result is done same = is ∙ ap (λ a. unless a Done) same ∙ ap (unless (refusal share h owner u)) (sym (done h))

pub claims_serve : (k : Kernel) (new : ClaimRows) (owner : ℕ) (u : Update) (answer : Option Refusal) (result : Answer) → LeavesGrants u → LeavesTimers u → LeavesShares u → LeavesClock u → IsDone owner u →
    result ≡ unless answer Done → ServesAt k.claims.share HoldsClaims k.claims owner u answer new → ServesKernel k owner u result (record k { claims = new })
claims_serve k new owner u answer result g t s c done is serves h lawful proper stands =
    let served = serves h lawful proper stands.tables.claims in (
      done_as k.claims.share h owner u answer result is done served.0,
      subst (λ r. OnOk r (StandsFor (record k { claims = new }) (entry owner u ∷ h))) (sym is)
          (accepted answer Done (StandsFor (record k { claims = new }) (entry owner u ∷ h)) (λ ok. record {
            tables = record {
              grants = grants_kept k.grants owner u (live_of h) g stands.tables.grants;
              claims = served.1 ok;
              timers = timers_kept k.timers owner u (live_of h) t stands.tables.timers;
              shares = shares_kept k.shares owner u (live_of h) s stands.tables.shares;
            };
            clock = stands.clock ∙ sym (c (clock_of h));
          })),
    )

pub timers_serve : (k : Kernel) (new : List Fired) (owner : ℕ) (u : Update) (answer : Option Refusal) (result : Answer) → LeavesGrants u → LeavesClaims u → LeavesShares u → LeavesClock u → IsDone owner u →
    result ≡ unless answer Done → Serves HoldsTimers k.timers owner u answer new → ServesKernel k owner u result (record k { timers = new })
timers_serve k new owner u answer result g m s c done is serves h lawful proper stands =
    let served = serves k.claims.share h lawful proper stands.tables.timers in (
      done_as k.claims.share h owner u answer result is done served.0,
      subst (λ r. OnOk r (StandsFor (record k { timers = new }) (entry owner u ∷ h))) (sym is)
          (accepted answer Done (StandsFor (record k { timers = new }) (entry owner u ∷ h)) (λ ok. record {
            tables = record {
              grants = grants_kept k.grants owner u (live_of h) g stands.tables.grants;
              claims = claims_kept k.claims owner u (live_of h) m stands.tables.claims;
              timers = served.1 ok;
              shares = shares_kept k.shares owner u (live_of h) s stands.tables.shares;
            };
            clock = stands.clock ∙ sym (c (clock_of h));
          })),
    )

pub shares_serve : (k : Kernel) (new : ShareRows) (owner : ℕ) (u : Update) (answer : Option Refusal) (result : Answer) → LeavesGrants u → LeavesClaims u → LeavesTimers u → LeavesClock u → IsDone owner u →
    result ≡ unless answer Done → Serves HoldsShares k.shares owner u answer new → ServesKernel k owner u result (record k { shares = new })
shares_serve k new owner u answer result g m t c done is serves h lawful proper stands =
    let served = serves k.claims.share h lawful proper stands.tables.shares in (
      done_as k.claims.share h owner u answer result is done served.0,
      subst (λ r. OnOk r (StandsFor (record k { shares = new }) (entry owner u ∷ h))) (sym is)
          (accepted answer Done (StandsFor (record k { shares = new }) (entry owner u ∷ h)) (λ ok. record {
            tables = record {
              grants = grants_kept k.grants owner u (live_of h) g stands.tables.grants;
              claims = claims_kept k.claims owner u (live_of h) m stands.tables.claims;
              timers = timers_kept k.timers owner u (live_of h) t stands.tables.timers;
              shares = served.1 ok;
            };
            clock = stands.clock ∙ sym (c (clock_of h));
          })),
    )

-- a change of the blocks alone, with the reply that it has
grants_stand : (k : Kernel) (new : List (List BlockRow)) (owner : ℕ) (u : Update) (h : History) → LeavesClaims u → LeavesTimers u → LeavesShares u → LeavesClock u → StandsFor k h →
    HoldsGrants new (live_of (entry owner u ∷ h)) → StandsFor (record k { grants = new }) (entry owner u ∷ h)
grants_stand k new owner u h m t s c stands holds = record {
  tables = record {
    grants = holds;
    claims = claims_kept k.claims owner u (live_of h) m stands.tables.claims;
    timers = timers_kept k.timers owner u (live_of h) t stands.tables.timers;
    shares = shares_kept k.shares owner u (live_of h) s stands.tables.shares;
  };
  clock = stands.clock ∙ sym (c (clock_of h));
}

pub release_serves : (k : Kernel) (new : List (List BlockRow)) (owner : ℕ) (u : Update) (answer : Option Refusal) (result : Answer) → LeavesClaims u → LeavesTimers u → LeavesShares u → LeavesClock u → IsDone owner u →
    result ≡ unless answer Done → Serves HoldsGrants k.grants owner u answer new → ServesKernel k owner u result (record k { grants = new })
release_serves k new owner u answer result m t s c done is serves h lawful proper stands =
    let served = serves k.claims.share h lawful proper stands.tables.grants in (
      done_as k.claims.share h owner u answer result is done served.0,
      subst (λ r. OnOk r (StandsFor (record k { grants = new }) (entry owner u ∷ h))) (sym is)
          (accepted answer Done (StandsFor (record k { grants = new }) (entry owner u ∷ h)) (λ ok. grants_stand k new owner u h m t s c stands (served.1 ok))),
    )

based_as : (answer : Option ℕ) (refuses : Option Refusal) (base : ℕ) → no_room answer ≡ refuses → ((b : ℕ) → answer ≡ Some b → b ≡ base) → based answer ≡ unless refuses (Base base)
based_as None refuses base same is = ap (λ r. unless r (Base base)) same
based_as (Some b) refuses base same is = ap (λ n. Ok (Base n)) (is b refl) ∙ ap (λ r. unless r (Base base)) same

granted_ok : (answer : Option ℕ) (P : Type 0) → (no_room answer ≡ None → P) → OnOk (based answer) P
granted_ok None P h = tt
granted_ok (Some base) P h = h refl

pub grant_serves : (k : Kernel) (new : List (List BlockRow)) (owner : ℕ) (layout : Layout) (n : ℤ) (image : Bool) (answer : Option ℕ) (result : Answer) → result ≡ based answer →
    ((base : ℕ) → answer ≡ Some base → OfEachHistory k.grants (λ h. base ≡ next_base (granted h owner))) → Serves HoldsGrants k.grants owner (Grant layout n image) (no_room answer) new →
    ServesKernel k owner (Grant layout n image) result (record k { grants = new })
grant_serves k new owner layout n image answer result is base serves h lawful proper stands =
    let served = serves k.claims.share h lawful proper stands.tables.grants in
    let u : Update = Grant layout n image in
    let none : LeavesClaims u = (refl, refl, refl, refl) in
    let unshared : LeavesShares u = (refl, refl, refl, refl) in (
      is ∙ based_as answer (refusal k.claims.share h owner u) (next_base (granted h owner)) served.0 (λ b some. base b some k.claims.share h lawful proper stands.tables.grants),
      subst (λ r. OnOk r (StandsFor (record k { grants = new }) (entry owner u ∷ h))) (sym is)
          (granted_ok answer (StandsFor (record k { grants = new }) (entry owner u ∷ h)) (λ ok. grants_stand k new owner u h none refl unshared (λ now. refl) stands (served.1 ok))),
    )
