-- Which line is served next, and by which holders.
-- Here: ready-after, next-over, next-masked, next-line, decides-none, decides-some, few-holders, holders-serve, least-served
use Rattle.std.proofs.Common.{◌≡◌, ℕ, ◌+◌, ◌≤◌, ◌<◌, Bool, true, false, cond, not, ◌&&◌, List, [], ◌∷◌, length, ℤ, pos, Option, None, Some, is_some, refl, sym, ap, ◌∙◌, subst, arith, true≢false}
use Rattle.std.proofs.Common.{MatchOption, count_by}
use Rattle.std.specs.List.{list_any, filter_map, cons_option}
use Rattle.std.specs.Ordering.{int_eq}
use Rattle.std.proofs.lemmas.List.{length-reverse}
use Rattle.std.proofs.lemmas.Bool.Decides.{nat_tests, Decides-int_eq}
use Rattle.sd_base.specs.declared.history.Update.{Update}
use Rattle.sd_base.specs.declared.history.Update.TheVariants.{Line}
use Rattle.sd_base.specs.Selection.{without_first}
use Rattle.sd_base.specs.History.{Entry, History, entry, Role, Begins, Replaces, Ends, EndsOldest, Passes, key_of, role_of, line_key, has_key, is_of, after_role, after_entry, live_of, clock_of}
use Rattle.sd_base.specs.Allowed.{refusal_on, IsLawful}
use Rattle.sd_base.proofs.Counting.{count_by-cons}
use Rattle.sd_base.proofs.Removal.{count_by-without_first, count_by-without_last}
use Rattle.claim_table.specs.declared.claims.Holder.{Holder}
use Rattle.claim_table.specs.ClaimPart.{holder_by, holders_of}
use Rattle.share_table.specs.Masks.{is_mask}
use Rattle.checked_tree.specs.declared.units.CheckedUnit.{CheckedUnit}
use Rattle.driver_host.specs.declared.ground.Ground.{Ground}
use Rattle.driver_host.specs.Hosting.{Reads}
use Rattle.world_core.specs.WorldState.{WorldState, Plan, is_over, is_masked}
use Rattle.world_core.specs.Script.{Script, by_history, does, both}
use Rattle.world_core.specs.Delivering.{can_deliver, some_waits, least_waiting, serves_all, delivers, delivers_least}
use Rattle.world_core.proofs.Lawful.{keeps-plan}
use Rattle.world.specs.declared.delivering.Holders.{Holders}
use Rattle.world.specs.Standing.{Here, IsWorld, Leads}
use Rattle.world.specs.Going.{Decides}
use Rattle.world.specs.Calm.{IsCalm}
use Rattle.world.specs.Ready.{IsReady, NextLine, AreHolders, serves_if, serves_four, served_from, serves_by}
use Rattle.world.proofs.Calm.{Quiets, calm-after}

-- ---- events take place again

-- the share is the plan's, which stays
shared : {units : List CheckedUnit} {a b : Here} {f : Script} → IsCalm units a → Leads units a b f
    → b.live.ground.host.kernel.kernel.claims.share ≡ a.live.ground.host.kernel.kernel.claims.share
shared {f} calm p =
    (p.to calm.first calm.faults calm.state calm.is).ground.host.holders
    ∙ ap (λ (plan : Plan). plan.share) (keeps-plan f calm.state)
    ∙ sym calm.is.ground.host.holders

pub ready-after : {units : List CheckedUnit} {a b : Here} {f : Script} → IsReady units a → Leads units a b f → Quiets f → IsReady units b
ready-after ready p quiets = record {
  calm = calm-after ready.calm p quiets;
  share = subst (λ n. n ≤ 4) (sym (shared ready.calm p)) ready.share;
}

-- ---- the line that is next

none-can : (over waits masked : Bool) → over ≡ true → not over && (waits && not masked) ≡ false
none-can true waits masked e = refl
none-can false waits masked e = absurd (true≢false (sym e))

none-masked : (over waits masked : Bool) → masked ≡ true → not over && (waits && not masked) ≡ false
none-masked true waits masked e = refl
none-masked false true true e = refl
none-masked false true false e = absurd (true≢false (sym e))
none-masked false false masked e = refl

all-can : (over waits masked : Bool) → over ≡ false → waits ≡ true → masked ≡ false → not over && (waits && not masked) ≡ true
all-can true waits masked o w m = absurd (true≢false o)
all-can false false masked o w m = absurd (true≢false (sym w))
all-can false true true o w m = absurd (true≢false m)
all-can false true false o w m = refl

none-waiting : (over waits masked : Bool) → waits ≡ false → not over && (waits && not masked) ≡ false
none-waiting true waits masked e = refl
none-waiting false true masked e = absurd (true≢false e)
none-waiting false false masked e = refl

pub next-over : (ground : Ground) → is_over ground.run ≡ true → NextLine ground None
next-over ground over = record {
  to = λ o first faults s is.
      none-can (is_over s.run) (some_waits s.run) (is_masked s.history) (ap is_over (sym is.run) ∙ over);
}

pub next-masked : (ground : Ground) (m : Bool) → Reads ground.host (λ h. m ≡ list_any is_mask (live_of h)) → m ≡ true → NextLine ground None
next-masked ground m reads masked = record {
  to = λ o first faults s is.
      none-masked (is_over s.run) (some_waits s.run) (is_masked s.history)
      (sym (reads.to s.plan.share s.history s.memories s.devices is.host) ∙ masked);
}

pub next-line : (ground : Ground) (m : Bool) (line : Option ℕ) → is_over ground.run ≡ false
    → Reads ground.host (λ h. m ≡ list_any is_mask (live_of h)) → m ≡ false
    → MatchOption line (some_waits ground.run ≡ false) (λ l. (some_waits ground.run ≡ true) × (l ≡ least_waiting ground.run) × (l < 64))
    → NextLine ground line
next-line ground m None goes reads clear found = record {
  to = λ o first faults s is.
      none-waiting (is_over s.run) (some_waits s.run) (is_masked s.history) (ap some_waits (sym is.run) ∙ found);
}
next-line ground m (Some l) goes reads clear found = record {
  to = λ o first faults s is. (
    all-can (is_over s.run) (some_waits s.run) (is_masked s.history) (ap is_over (sym is.run) ∙ goes) (ap some_waits (sym is.run) ∙ found.0)
        (sym (reads.to s.plan.share s.history s.memories s.devices is.host) ∙ clear),
    found.1 ∙ ap least_waiting is.run,
  );
}

pub no-line : (units : List CheckedUnit) (a : Here) → NextLine a.live.ground None → Decides units a can_deliver false
no-line units a next = record { to = λ first faults s w. next.to a.told first faults s w.ground }

pub a-line : (units : List CheckedUnit) (a : Here) (line : ℕ) → NextLine a.live.ground (Some line) → Decides units a can_deliver true
a-line units a line next = record { to = λ first faults s w. (next.to a.told first faults s w.ground).0 }

-- the line that was found is the least
pub least-served : (units : List CheckedUnit) (a b : Here) (line : ℕ) → NextLine a.live.ground (Some line) → Leads units a b (delivers line)
    → Leads units a b delivers_least
unfolding delivers_least
least-served units a b line next p = record {
  to = λ first faults s w.
      let least : line ≡ least_waiting s.run = (next.to a.told first faults s w.ground).1 in
      subst (λ l. IsWorld units b first faults (does (delivers l) s)) least (p.to first faults s w);
}

-- ---- at most so many hold a line as the share says

no_more : (q : Entry → Bool) (r : Role) (e : Entry) (live : List Entry) → q e ≡ false → count_by q (after_role r e live) ≤ count_by q live
no_more q Begins e live h = grind (arith, count_by-cons q e live)
no_more q Replaces e live h =
    grind (arith, count_by-cons q e (without_first (is_of e.owner (key_of e.update)) live), count_by-without_first (is_of e.owner (key_of e.update)) q live)
no_more q Ends e live h = count_by-without_first (is_of e.owner (key_of e.update)) q live
no_more q EndsOldest e live h = count_by-without_last (is_of e.owner (key_of e.update)) q live
no_more q Passes e live h = omega arith

at_most_one : (b : Bool) → cond b 1 0 ≤ 1
at_most_one true = omega arith
at_most_one false = omega arith

line_is : (owner : ℕ) (held line : ℤ) (handler : ℕ) → has_key (line_key line) (entry owner (Line held handler)) ≡ true → held ≡ line
line_is owner held line handler h = (Decides-int_eq held line).0 (grind arith)

lines_after : (share : ℕ) (live : List Entry) (clock owner : ℕ) (line : ℤ) (u : Update) → refusal_on share live clock owner u ≡ None →
    count_by (has_key (line_key line)) live ≤ share → count_by (has_key (line_key line)) (after_entry (entry owner u) live) ≤ share
lines_after share live clock owner line (Line held handler) ok few =
    let room : count_by (has_key (line_key held)) live < share = grind (arith, nat_tests) in
    elim (has_key (line_key line) (entry owner (Line held handler)))
    as (λ b. has_key (line_key line) (entry owner (Line held handler)) ≡ b → count_by (has_key (line_key line)) (entry owner (Line held handler) ∷ live) ≤ share) [
      | true ↦ λ is.
          let here : count_by (has_key (line_key line)) live < share =
          subst (λ z. count_by (has_key (line_key z)) live < share) (line_is owner held line handler is) room in
          omega (arith, count_by-cons (has_key (line_key line)) (entry owner (Line held handler)) live, at_most_one (has_key (line_key line) (entry owner (Line held handler))))
      | false ↦ λ is. omega (arith, no_more (has_key (line_key line)) Begins (entry owner (Line held handler)) live is)
    ] refl
lines_after share live clock owner line u ok few = omega (arith, no_more (has_key (line_key line)) (role_of u) (entry owner u) live refl)

few_lines : (share : ℕ) (h : History) (line : ℤ) → IsLawful share h → count_by (has_key (line_key line)) (live_of h) ≤ share
few_lines share [] line lawful = omega arith
few_lines share (e ∷ h) line lawful =
    lines_after share (live_of h) (clock_of h) e.owner line e.update lawful.0 (few_lines share h line lawful.1)

-- an entry has a holder exactly where it is live as one of the line
abbrev a_holder : ℕ → ℕ → Holder
a_holder owner handler = record { owner = owner; handler = handler }

one_holder : (line : ℤ) (owner : ℕ) (u : Update) → is_some (holder_by line owner u) ≡ has_key (line_key line) (entry owner u)
one_holder line owner (Line held handler) =
    elim (int_eq held line) as (λ b. is_some (cond b (Some (a_holder owner handler)) None) ≡ b && true) [ true ↦ refl | false ↦ refl ]
one_holder line owner u = refl

count_holders : (line : ℤ) (live : List Entry) → length (filter_map (λ (e : Entry). holder_by line e.owner e.update) live) ≡ count_by (has_key (line_key line)) live
count_holders line [] = refl
count_holders line (e ∷ live) =
    let more = count_holders line live in
    let one = one_holder line e.owner e.update in
    let here = count_by-cons (has_key (line_key line)) e live in
    counted (holder_by line e.owner e.update) (has_key (line_key line) e) one here more
  where
    counted : (o : Option Holder) (b : Bool) → is_some o ≡ b → count_by (has_key (line_key line)) (e ∷ live) ≡ cond b 1 0 + count_by (has_key (line_key line)) live
        → length (filter_map (λ (e : Entry). holder_by line e.owner e.update) live) ≡ count_by (has_key (line_key line)) live
        → length (cons_option o (filter_map (λ (e : Entry). holder_by line e.owner e.update) live))
        ≡ count_by (has_key (line_key line)) (e ∷ live)
    counted None true is here more = absurd (true≢false (sym is))
    counted None false is here more = omega arith
    counted (Some x) false is here more = absurd (true≢false is)
    counted (Some x) true is here more = omega arith

pub few-holders : (share : ℕ) (h : History) (line : ℤ) → IsLawful share h → length (holders_of h line) ≤ share
few-holders share h line lawful =
    let same = count_holders line (live_of h) in
    let turned = length-reverse (filter_map (λ (e : Entry). holder_by line e.owner e.update) (live_of h)) in
    let few = few_lines share h line lawful in
    omega arith

-- ---- four at most serve it

fours : (line : ℕ) (four : Holders) (a b c d : Option Holder) → (four.first ≡ a) × (four.second ≡ b) × (four.third ≡ c) × (four.fourth ≡ d) → (s : WorldState) →
    does (serves_four line four) s ≡ does (both (serves_if line a) (both (serves_if line b) (both (serves_if line c) (serves_if line d)))) s
fours line four a b c d are s =
    ap (λ x. does (both (serves_if line x) (both (serves_if line four.second) (both (serves_if line four.third) (serves_if line four.fourth)))) s) are.0
    ∙ ap (λ x. does (both (serves_if line a) (both (serves_if line x) (both (serves_if line four.third) (serves_if line four.fourth)))) s) are.1
    ∙ ap (λ x. does (both (serves_if line a) (both (serves_if line b) (both (serves_if line x) (serves_if line four.fourth)))) s) are.2
    ∙ ap (λ x. does (both (serves_if line a) (both (serves_if line b) (both (serves_if line c) (serves_if line x)))) s) are.3

four-serve : (line : ℕ) (four : Holders) (hs : List Holder) → length hs ≤ 4 → AreHolders four hs → (s : WorldState) → does (serves_by line four) s ≡ does (serves_all line hs) s
four-serve line four [] few are s = ap (λ x. does (served_from line four x) s) are.0
four-serve line four (a ∷ []) few are s =
    ap (λ x. does (served_from line four x) s) are.0 ∙ fours line four (Some a) None None None are s
four-serve line four (a ∷ b ∷ []) few are s =
    ap (λ x. does (served_from line four x) s) are.0 ∙ fours line four (Some a) (Some b) None None are s
four-serve line four (a ∷ b ∷ c ∷ []) few are s =
    ap (λ x. does (served_from line four x) s) are.0 ∙ fours line four (Some a) (Some b) (Some c) None are s
four-serve line four (a ∷ b ∷ c ∷ d ∷ []) few are s =
    ap (λ x. does (served_from line four x) s) are.0 ∙ fours line four (Some a) (Some b) (Some c) (Some d) are s
four-serve line four (a ∷ b ∷ c ∷ d ∷ e ∷ hs) few are s = absurd (omega arith)

-- the holders of this moment serve the line
pub holders-serve : (units : List CheckedUnit) (a b : Here) (line : ℕ) (four : Holders) → a.live.ground.host.kernel.kernel.claims.share ≤ 4
    → Reads a.live.ground.host (λ h. AreHolders four (holders_of h (pos line))) → Leads units a b (serves_by line four)
    → Leads units a b (by_history (λ h. serves_all line (holders_of h (pos line))))
holders-serve units a b line four share reads p = record {
  to = λ first faults s w.
      let most : s.plan.share ≤ 4 = subst (λ n. n ≤ 4) w.ground.host.holders share in
      let few = few-holders s.plan.share s.history (pos line) w.ground.host.lawful in
      let same = four-serve line four (holders_of s.history (pos line)) (omega arith)
      (reads.to s.plan.share s.history s.memories s.devices w.ground.host) s in
      subst (λ x. IsWorld units b first faults x) same (p.to first faults s w);
}
