-- From what the tracker answers to an update to what the row of a call says.
use Rattle.std.proofs.Common.{◌≡◌, ℕ, Option, Some, None, Ok, Err, refl, sym, subst}
use Rattle.sd_base.specs.declared.history.Refusal.{Refusal}
use Rattle.sd_base.specs.declared.history.Update.{Update}
use Rattle.sd_base.specs.History.{History}
use Rattle.sd_base.specs.Allowed.{refusal, IsLawful, IsProper}
use Rattle.sd_base.specs.History.{live_of}
use Rattle.kernel_tables.specs.declared.kernel.Kernel.{Kernel}
use Rattle.claim_table.specs.ClaimPart.{HoldsClaims}
use Rattle.claim_table.specs.ClaimPart as claims
use Rattle.share_table.specs.Table.{HoldsShares}
use Rattle.share_table.specs.Table as shares
use Rattle.update_tracker.specs.declared.undo.Reply.{Reply}
use Rattle.update_tracker.specs.Answered.{Answer, unless, reply_to}
use Rattle.update_tracker.specs.Tracking.{TrackedRows, Stands, ServesTracked, OfEachHistory}
use Rattle.wrappers.specs.declared.call_out.CallOut.{CallOut}
use Rattle.wrappers.specs.declared.call_out.CallOut.TheVariants.{Reply as Replied, Pointer, Said, Blocked, Fail, Wild}
use Rattle.wrappers.specs.Served.{Served, gives, with_update}
use Rattle.wrappers.specs.Serving.{IsServed, ServesRow, IsRead, ReadsRow, IsStop}

-- what is known of an update that was accepted, and of one that was refused
pub record IsMade (r : Option Refusal) (reply wanted : Reply) : Type 0 where
  pub allowed : r ≡ None
  pub replied : reply ≡ wanted

accepted : (r : Option Refusal) (reply wanted : Reply) → Ok reply ≡ unless r wanted → IsMade r reply wanted
accepted None reply wanted h = record { allowed = refl; replied = cc }
accepted (Some x) reply wanted h = cc

refused : (r : Option Refusal) (refusal : Refusal) (wanted : Reply) → Err refusal ≡ unless r wanted → r ≡ Some refusal
refused None refusal wanted h = cc
refused (Some x) refusal wanted h = cc

-- where the tracker made the update, so does the row
pub serves_made : (old new : TrackedRows) (owner : ℕ) (u : Update) (reply : Reply) (row : ℕ → History → Served) (out : CallOut) → ServesTracked old owner u (Ok reply) new →
    ((h : History) → IsLawful old.kernel.claims.share h → IsProper h → Stands old h → IsMade (refusal old.kernel.claims.share h owner u) reply (reply_to h owner u) → row old.kernel.claims.share h ≡ record { out = out; update = Some u }) →
    ServesRow old owner row out new
serves_made old new owner u reply row out serves same h lawful proper stands =
    let s = serves h lawful proper stands in
    let is = same h lawful proper stands (accepted (refusal old.kernel.claims.share h owner u) reply (reply_to h owner u) s.0) in
    subst (λ served. IsServed old owner h served out new) (sym is) (record { answer = refl; stands = s.1; kept = λ none. cc })

-- where it refused the update, the row changes nothing
pub serves_refused : (old new : TrackedRows) (owner : ℕ) (u : Update) (r : Refusal) (row : ℕ → History → Served) (out : CallOut) → ServesTracked old owner u (Err r) new → new ≡ old →
    ((h : History) → IsLawful old.kernel.claims.share h → IsProper h → Stands old h → refusal old.kernel.claims.share h owner u ≡ Some r → row old.kernel.claims.share h ≡ gives out) →
    ServesRow old owner row out new
serves_refused old new owner u r row out serves stays same h lawful proper stands =
    let s = serves h lawful proper stands in
    let is = same h lawful proper stands (refused (refusal old.kernel.claims.share h owner u) r (reply_to h owner u) s.0) in
    subst (λ served. IsServed old owner h served out new) (sym is) (record { answer = refl; stands = subst (λ t. Stands t h) (sym stays) stands; kept = λ none. stays })

-- where nothing was asked of it, the row changes nothing
pub serves_nothing : (old : TrackedRows) (owner : ℕ) (row : ℕ → History → Served) (out : CallOut) →
    ((h : History) → IsLawful old.kernel.claims.share h → IsProper h → Stands old h → row old.kernel.claims.share h ≡ gives out) → ServesRow old owner row out old
serves_nothing old owner row out same h lawful proper stands =
    subst (λ served. IsServed old owner h served out old) (sym (same h lawful proper stands)) (record { answer = refl; stands = stands; kept = λ none. refl })

-- the same row in other words
pub serves_as : (old new : TrackedRows) (owner : ℕ) (row other : ℕ → History → Served) (out : CallOut) → ((h : History) → Stands old h → row old.kernel.claims.share h ≡ other old.kernel.claims.share h) → ServesRow old owner row out new → ServesRow old owner other out new
serves_as old new owner row other out same serves h lawful proper stands =
    subst (λ served. IsServed old owner h served out new) (same h stands) (serves h lawful proper stands)

-- what only reads the tables leaves them
pub serves_read : (t : TrackedRows) (owner : ℕ) (row : History → Served) (out : CallOut) → ReadsRow t row out → ServesRow t owner (λ share h. row h) out t
serves_read t owner row out reads h lawful proper stands =
    let read = reads h lawful proper stands in
    record { answer = read.answer; stands = subst (λ u. Stands t (with_update owner u h)) (sym read.quiet) stands; kept = λ none. refl }

-- what one table says of each history of which it holds its part is said of each for which the tracker stands
pub of_shares : (k : Kernel) (t : TrackedRows) (P : History → Type 0) → k ≡ t.kernel → shares.OfEachHistory k.shares P → OfEachHistory t P
of_shares k t P is reads h lawful proper stands =
    reads t.kernel.claims.share h lawful proper (subst (λ (x : Kernel). HoldsShares x.shares (live_of h)) (sym is) stands.kernel.tables.shares)

pub of_claims : (k : Kernel) (t : TrackedRows) (P : History → Type 0) → k ≡ t.kernel → claims.OfEachHistory k.claims P → OfEachHistory t P
of_claims k t P is reads h lawful proper stands =
    reads h (subst (λ (x : Kernel). IsLawful x.claims.share h) (sym is) lawful) proper (subst (λ (x : Kernel). HoldsClaims x.claims (live_of h)) (sym is) stands.kernel.tables.claims)

-- what is said of an answer that stops
pub stops : (out : CallOut) (P : Type 0) → P → IsStop out P
stops (Replied n) P p = tt
stops (Pointer q) P p = tt
stops (Said s) P p = tt
stops (Blocked k) P p = p
stops (Fail kind) P p = p
stops Wild P p = p

pub stops_with : (out : CallOut) (P Q : Type 0) → IsStop out P → Q → IsStop out (P × Q)
stops_with (Replied n) P Q p q = tt
stops_with (Pointer x) P Q p q = tt
stops_with (Said s) P Q p q = tt
stops_with (Blocked k) P Q p q = (p, q)
stops_with (Fail kind) P Q p q = (p, q)
stops_with Wild P Q p q = (p, q)

pub stops_after : (out : CallOut) (P Q : Type 0) → P → IsStop out Q → IsStop out (P × Q)
stops_after (Replied n) P Q p q = tt
stops_after (Pointer x) P Q p q = tt
stops_after (Said s) P Q p q = tt
stops_after (Blocked k) P Q p q = (p, q)
stops_after (Fail kind) P Q p q = (p, q)
stops_after Wild P Q p q = (p, q)
