-- Delivery is complete: after it no line waits that could be served, unless a mask is held or the run is over. Each turn takes one line,
-- and no
-- handler raises one, so that 64 turns are enough.
-- Here: lines_waiting, delivered-lines, deliver-complete
use Rattle.std.proofs.Common.{◌≡◌, ℕ, zero, suc, ◌+◌, ◌≤◌, Bool, true, false, not, ◌&&◌, List, [], ◌∷◌, length, set, pos, refl, ap, sym, subst, ◌∙◌, true≢false, arith}
use Rattle.std.specs.List.{list_any, position_or_len}
use Rattle.claim_table.specs.ClaimPart.{holders_of}
use Rattle.world_core.specs.WorldState.{WorldState, is_over, is_masked}
use Rattle.world_core.specs.Script.{does, turns}
use Rattle.world_core.specs.Showing.{show}
use Rattle.world_core.specs.Failing.{takes_back, fails, strays}
use Rattle.world_core.specs.Delivering.{with_waiting, delivers, delivers_least, deliver, can_deliver, some_waits, least_waiting}
use Rattle.world_core.proofs.Keeping.{Acting, Stepping, keep-serves_all}
use Rattle.world_core.proofs.Counting.{nothing-waits}

-- how many lines wait
abbrev pub lines_waiting : List Bool → ℕ
lines_waiting [] = 0
lines_waiting (true ∷ lines) = suc (lines_waiting lines)
lines_waiting (false ∷ lines) = lines_waiting lines

fewer : (lines : List Bool) → list_any (λ waits. waits) lines ≡ true →
    suc (lines_waiting (set lines (position_or_len (λ waits. waits) lines) false)) ≡ lines_waiting lines
fewer [] e = absurd (true≢false (sym e))
fewer (true ∷ lines) e = refl
fewer (false ∷ lines) e =
    let place = position_or_len (λ waits. waits) lines in
    let next : suc place ≡ 1 + place = omega arith in
    subst (λ k. suc (lines_waiting (set (false ∷ lines) k false)) ≡ lines_waiting lines) next (fewer lines e)

none-waits : (lines : List Bool) → lines_waiting lines ≤ 0 → list_any (λ waits. waits) lines ≡ false
none-waits [] e = refl
none-waits (true ∷ lines) e = absurd (omega arith)
none-waits (false ∷ lines) e = none-waits lines e

pub few-wait : (lines : List Bool) → lines_waiting lines ≤ length lines
few-wait [] = omega arith
few-wait (true ∷ lines) = let few = few-wait lines in omega arith
few-wait (false ∷ lines) = let few = few-wait lines in omega arith

-- ---- no step raises a line

acting : (lines : List Bool) → Acting (λ s. s.run.waiting ≡ lines)
unfolding fails takes_back show strays
acting lines = record {
  saying = λ x quiet. record { to = λ s a. a };
  listing = λ xs quiet. record { to = λ s a. a };
  updating = λ owner u. record { to = λ s a. a };
  leaving = λ owner. record { to = λ s a. a };
  tasks = λ change same. record { to = λ s a. a };
  memories = λ change same. record { to = λ s a. a };
  devices = λ change. record { to = λ s a. a };
  failing = λ who kind line. record { to = λ s a. a };
  astray = λ who line. record { to = λ s a. a };
  blocked = record { to = λ s a. a };
}

stepping : (lines : List Bool) → Stepping (λ s. s.run.waiting ≡ lines)
stepping lines = record { acting = acting lines; stopping = record { to = λ s a. a }; taking = record { to = λ s a. a } }

-- a line that is served ceases to wait, and no other line changes
pub delivered-lines : (line : ℕ) (s : WorldState) → (does (delivers line) s).run.waiting ≡ set s.run.waiting line false
unfolding delivers
delivered-lines line s =
    let lowered : WorldState = record s { run = with_waiting line false s.run } in
    (keep-serves_all (stepping (set s.run.waiting line false)) line (holders_of s.history (pos line))).to lowered refl

least-lines : (s : WorldState) → (does delivers_least s).run.waiting ≡ set s.run.waiting (least_waiting s.run) false
unfolding delivers_least
least-lines s = delivered-lines (least_waiting s.run) s

-- ---- the loop

waits-of : (over waits masked : Bool) → not over && (waits && not masked) ≡ true → waits ≡ true
waits-of true waits masked e = absurd (true≢false (sym e))
waits-of false true masked e = refl
waits-of false false masked e = absurd (true≢false (sym e))

turns-complete : (n : ℕ) (s : WorldState) → lines_waiting s.run.waiting ≤ n →
    can_deliver (turns n can_deliver (does delivers_least) s) ≡ false
turns-complete zero s few = nothing-waits (is_over s.run) (some_waits s.run) (is_masked s.history) (none-waits s.run.waiting few)
turns-complete (suc n) s few =
    elim (can_deliver s)
    as (λ b. can_deliver s ≡ b →
    can_deliver (elim b as (λ x. WorldState) [
      | true ↦ turns n can_deliver (does delivers_least)
          (does delivers_least s)
      | false ↦ s
    ]) ≡ false) [
      | true ↦ λ e.
          let one = fewer s.run.waiting (waits-of (is_over s.run) (some_waits s.run) (is_masked s.history) e) in
          let same = ap lines_waiting (least-lines s) in
          let less : lines_waiting (does delivers_least s).run.waiting ≤ n = omega arith in
          turns-complete n (does delivers_least s) less
      | false ↦ λ e. e
    ] refl

pub deliver-complete : (s : WorldState) → length s.run.waiting ≡ 64 → can_deliver (does deliver s) ≡ false
unfolding deliver
deliver-complete s lines = turns-complete 64 s (subst (λ n. lines_waiting s.run.waiting ≤ n) lines (few-wait s.run.waiting))
