-- Whatever a script does: nothing that was printed is taken back, the plan stays, and the history stays lawful.
-- Here: keeps-plan, grows, updated-lawful, keeps-lawful, run-lawful
use Rattle.std.proofs.Common.{◌≡◌, ℕ, zero, suc, Bool, true, false, ◌&&◌, List, [], ◌∷◌, ◌++◌, Option, Some, None, is_none, ℤ, refl, sym, ap, ◌∙◌, subst, true≢false, append_assoc, append-nil, arith}
use Rattle.sd_base.specs.declared.history.Refusal.{Refusal}
use Rattle.sd_base.specs.declared.history.Update.{Update}
use Rattle.sd_base.specs.History.{History, entry}
use Rattle.sd_base.specs.Allowed.{refusal, is_proper, IsLawful, IsProper}
use Rattle.sd_base.proofs.WithoutOwner.{IsProper-Without, IsLawful-Without}
use Rattle.checked_tree.specs.declared.units.CheckedUnit.{CheckedUnit}
use Rattle.scenario.specs.declared.event.Event.{Event}
use Rattle.run_report.specs.declared.item.Item.{Item}
use Rattle.world_core.specs.WorldState.{WorldState, Plan, first_world, share_of}
use Rattle.world_core.specs.Script.{Script, nothing, say, says, updates, leaves_out, on_run, on_tasks, on_memories, on_devices, by_plan, by_run, by_history, by_tasks, by_memories, by_devices, given, both, while_at_most, does, is_accepted, updated}
use Rattle.world_core.specs.Events.{whole}
use Rattle.world_core.specs.Laws.{Grows, IsLawfulWorld}
use Rattle.world_core.proofs.Leading.{turns-keep}

-- ---- the plan

pub keeps-plan : (f : Script) (s : WorldState) → (does f s).plan ≡ s.plan
keeps-plan nothing s = refl
keeps-plan (say x) s = refl
keeps-plan (says xs) s = refl
keeps-plan (updates owner u) s = refl
keeps-plan (leaves_out owner) s = refl
keeps-plan (on_run change) s = refl
keeps-plan (on_tasks change) s = refl
keeps-plan (on_memories change) s = refl
keeps-plan (on_devices change) s = refl
keeps-plan (by_plan k) s = keeps-plan (k s.plan) s
keeps-plan (by_run k) s = keeps-plan (k s.run) s
keeps-plan (by_history k) s = keeps-plan (k s.history) s
keeps-plan (by_tasks k) s = keeps-plan (k s.tasks) s
keeps-plan (by_memories k) s = keeps-plan (k s.memories) s
keeps-plan (by_devices k) s = keeps-plan (k s.devices) s
keeps-plan (given true f g) s = keeps-plan f s
keeps-plan (given false f g) s = keeps-plan g s
keeps-plan (both f g) s = keeps-plan g (does f s) ∙ keeps-plan f s
keeps-plan (while_at_most n test f) s = turns-keep {A = λ w. w.plan ≡ s.plan} n test (does f) (λ w a e. keeps-plan f w ∙ a) s refl

-- ---- what is printed

grows-refl : (xs : List Item) → Grows xs xs
grows-refl xs = record { rest = []; is = sym (append-nil xs) }

pub grows-trans : {xs ys zs : List Item} → Grows xs ys → Grows ys zs → Grows xs zs
grows-trans {xs} p q = record { rest = p.rest ++ q.rest; is = q.is ∙ ap (λ ys. ys ++ q.rest) p.is ∙ append_assoc xs p.rest q.rest }

pub grows : (f : Script) (s : WorldState) → Grows s.said (does f s).said
grows nothing s = grows-refl s.said
grows (say x) s = record { rest = x ∷ []; is = refl }
grows (says xs) s = record { rest = xs; is = refl }
grows (updates owner u) s = grows-refl s.said
grows (leaves_out owner) s = grows-refl s.said
grows (on_run change) s = grows-refl s.said
grows (on_tasks change) s = grows-refl s.said
grows (on_memories change) s = grows-refl s.said
grows (on_devices change) s = grows-refl s.said
grows (by_plan k) s = grows (k s.plan) s
grows (by_run k) s = grows (k s.run) s
grows (by_history k) s = grows (k s.history) s
grows (by_tasks k) s = grows (k s.tasks) s
grows (by_memories k) s = grows (k s.memories) s
grows (by_devices k) s = grows (k s.devices) s
grows (given true f g) s = grows f s
grows (given false f g) s = grows g s
grows (both f g) s = grows-trans (grows f s) (grows g (does f s))
grows (while_at_most n test f) s = turns-keep {A =
    λ w. Grows s.said w.said} n test (does f) (λ w a e. grows-trans a (grows f w)) s (grows-refl s.said)

-- ---- the history

both-true : (a b : Bool) → a && b ≡ true → (a ≡ true) × (b ≡ true)
both-true true b e = (refl, e)
both-true false b e = absurd (true≢false (sym e))

none-there : (o : Option Refusal) → is_none o ≡ true → o ≡ None
none-there None e = refl
none-there (Some x) e = absurd (true≢false (sym e))

pub updated-lawful : (share owner : ℕ) (u : Update) (h : History) → IsLawfulWorld share h → IsLawfulWorld share (updated share owner u h)
unfolding updated
updated-lawful share owner u h a =
    elim (is_accepted share h owner u)
    as (λ b. is_accepted share h owner u ≡ b → IsLawfulWorld share (elim b as (λ x. History) [ true ↦ entry owner u ∷ h | false ↦ h ])) [
      | true ↦ λ e. let p = both-true (is_proper owner u) (is_none (refusal share h owner u)) e in
          record { lawful = (none-there (refusal share h owner u) p.1, a.lawful); proper = (p.0, a.proper) }
      | false ↦ λ e. a
    ] refl

left-lawful : (share owner : ℕ) (s : WorldState) → IsLawfulWorld share s.history → IsLawfulWorld share (does (leaves_out owner) s).history
left-lawful share zero s a = a
left-lawful share (suc k) s a = record {
  lawful = IsLawful-Without share s.history (suc k) (λ e. omega arith) a.proper a.lawful;
  proper = IsProper-Without s.history (suc k) a.proper;
}

-- the share is the plan's
pub keeps-lawful : (f : Script) (s : WorldState) → IsLawfulWorld s.plan.share s.history → IsLawfulWorld s.plan.share (does f s).history
keeps-lawful nothing s a = a
keeps-lawful (say x) s a = a
keeps-lawful (says xs) s a = a
keeps-lawful (updates owner u) s a = updated-lawful s.plan.share owner u s.history a
keeps-lawful (leaves_out owner) s a = left-lawful s.plan.share owner s a
keeps-lawful (on_run change) s a = a
keeps-lawful (on_tasks change) s a = a
keeps-lawful (on_memories change) s a = a
keeps-lawful (on_devices change) s a = a
keeps-lawful (by_plan k) s a = keeps-lawful (k s.plan) s a
keeps-lawful (by_run k) s a = keeps-lawful (k s.run) s a
keeps-lawful (by_history k) s a = keeps-lawful (k s.history) s a
keeps-lawful (by_tasks k) s a = keeps-lawful (k s.tasks) s a
keeps-lawful (by_memories k) s a = keeps-lawful (k s.memories) s a
keeps-lawful (by_devices k) s a = keeps-lawful (k s.devices) s a
keeps-lawful (given true f g) s a = keeps-lawful f s a
keeps-lawful (given false f g) s a = keeps-lawful g s a
keeps-lawful (both f g) s a =
    let same : (does f s).plan ≡ s.plan = keeps-plan f s in
    subst (λ (p : Plan). IsLawfulWorld p.share (does g (does f s)).history) same
    (keeps-lawful g (does f s) (subst (λ (p : Plan). IsLawfulWorld p.share (does f s).history) (sym same) (keeps-lawful f s a)))
keeps-lawful (while_at_most n test f) s a =
    let end = turns-keep {A = λ w. (w.plan ≡ s.plan) × IsLawfulWorld s.plan.share w.history} n test (does f)
    (λ w b e. (
      keeps-plan f w ∙ b.0,
      subst (λ (p : Plan). IsLawfulWorld p.share (does f w).history) b.0
          (keeps-lawful f w (subst (λ (p : Plan). IsLawfulWorld p.share w.history) (sym b.0) b.1)),
    ))
    s (refl, a) in
    end.1

-- in every world of a run
pub run-lawful : (drivers : List CheckedUnit) (version : ℕ) (answers : List ℤ) (es : List Event) (bound : ℕ) →
    IsLawfulWorld (share_of version) (does (whole es) (first_world drivers version answers bound)).history
run-lawful drivers version answers es bound = keeps-lawful (whole es) (first_world drivers version answers bound) (record {
  lawful =
      tt;
  proper = tt;
})
