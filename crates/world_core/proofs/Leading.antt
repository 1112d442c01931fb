-- What a script leads to: it brings every world of which the one holds to a world of which the other holds. One rule for each form of
-- script.
--
-- A law of an event is such a walk with the same fact on both sides; that the code does what an event says is one with "the code's world
-- stands
-- for this one", before and after.
-- Here: Leads; leads-then, leads-given, leads-by_run and its kin, leads-while, turns-end
use Rattle.std.proofs.Common.{◌≡◌, ℕ, zero, suc, Bool, true, false, List, refl, ap}
use Rattle.sd_base.specs.History.{History}
use Rattle.device_model.specs.Scripted.{Scripted}
use Rattle.world_core.specs.declared.run_state.RunState.{RunState}
use Rattle.world_core.specs.WorldState.{WorldState, Plan, Tasks}
use Rattle.world_core.specs.Script.{Script, nothing, by_plan, by_run, by_history, by_tasks, by_memories, by_devices, given, both, while_at_most, does, turns}

-- a fact about worlds
abbrev pub Fact : Type 1
Fact = WorldState → Type 0

pub record Leads (before after : WorldState → Type 0) (script : Script) : Type 0 where
  pub to : (s : WorldState) → before s → after (does script s)

pub leads-nothing : {A : WorldState → Type 0} → Leads A A nothing
leads-nothing = record { to = λ s a. a }

pub leads-then : {A B C : WorldState → Type 0} {f g : Script} → Leads A B f → Leads B C g → Leads A C (both f g)
leads-then {f} p q = record { to = λ s a. q.to (does f s) (p.to s a) }

-- what is known more of the world before, and less of the world after
pub leads-from : {A A' B : WorldState → Type 0} {f : Script} → ((s : WorldState) → A' s → A s) → Leads A B f → Leads A' B f
leads-from known p = record { to = λ s a. p.to s (known s a) }

pub leads-into : {A B B' : WorldState → Type 0} {f : Script} → ((s : WorldState) → B s → B' s) → Leads A B f → Leads A B' f
leads-into {f} known p = record { to = λ s a. known (does f s) (p.to s a) }

-- ---- tests and parts

pub leads-given : {A B : WorldState → Type 0} {f g : Script} (test : Bool) → (test ≡ true → Leads A B f) → (test ≡ false → Leads A B g) →
    Leads A B (given test f g)
leads-given true p q = record { to = λ s a. (p refl).to s a }
leads-given false p q = record { to = λ s a. (q refl).to s a }

pub leads-by_plan : {A B : WorldState → Type 0} {k : Plan → Script} → ((x : Plan) → Leads (λ s. A s × (s.plan ≡ x)) B (k x)) →
    Leads A B (by_plan k)
leads-by_plan p = record { to = λ s a. (p s.plan).to s (a, refl) }

pub leads-by_run : {A B : WorldState → Type 0} {k : RunState → Script} → ((x : RunState) → Leads (λ s. A s × (s.run ≡ x)) B (k x)) →
    Leads A B (by_run k)
leads-by_run p = record { to = λ s a. (p s.run).to s (a, refl) }

pub leads-by_history : {A B : WorldState → Type 0} {k : History → Script} → ((x : History) →
    Leads (λ s. A s × (s.history ≡ x)) B (k x)) → Leads A B (by_history k)
leads-by_history p = record { to = λ s a. (p s.history).to s (a, refl) }

pub leads-by_tasks : {A B : WorldState → Type 0} {k : Tasks → Script} → ((x : Tasks) → Leads (λ s. A s × (s.tasks ≡ x)) B (k x)) →
    Leads A B (by_tasks k)
leads-by_tasks p = record { to = λ s a. (p s.tasks).to s (a, refl) }

pub leads-by_memories : {A B : WorldState → Type 0} {k : List (List ℕ) → Script} → ((x : List (List ℕ)) →
    Leads (λ s. A s × (s.memories ≡ x)) B (k x)) → Leads A B (by_memories k)
leads-by_memories p = record { to = λ s a. (p s.memories).to s (a, refl) }

pub leads-by_devices : {A B : WorldState → Type 0} {k : Scripted → Script} → ((x : Scripted) →
    Leads (λ s. A s × (s.devices ≡ x)) B (k x)) → Leads A B (by_devices k)
leads-by_devices p = record { to = λ s a. (p s.devices).to s (a, refl) }

-- ---- loops

-- a fact that each turn keeps
pub turns-keep : {A : WorldState → Type 0} (n : ℕ) (test : WorldState → Bool) (once : WorldState → WorldState)
    → ((s : WorldState) → A s → test s ≡ true → A (once s)) → (s : WorldState) → A s → A (turns n test once s)
turns-keep zero test once keeps s a = a
turns-keep {A} (suc n) test once keeps s a =
    elim (test s) as (λ b. test s ≡ b → A (elim b [ true ↦ turns n test once (once s) | false ↦ s ]))
    [ true ↦ λ e. turns-keep n test once keeps (once s) (keeps s a e) | false ↦ λ e. a ] refl

pub leads-while : {A : WorldState → Type 0} {f : Script} (n : ℕ) (test : WorldState → Bool) → Leads (λ s. A s × (test s ≡ true)) A f →
    Leads A A (while_at_most n test f)
leads-while {f} n test p = record { to = λ s a. turns-keep n test (does f) (λ s a e. p.to s (a, e)) s a }

-- where the test fails nothing is done
pub turns-end : (n : ℕ) (test : WorldState → Bool) (once : WorldState → WorldState) (s : WorldState) → test s ≡ false →
    turns n test once s ≡ s
turns-end zero test once s e = refl
turns-end (suc n) test once s e = ap (λ b. elim b as (λ x. WorldState) [ true ↦ turns n test once (once s) | false ↦ s ]) e

-- where it holds there is one turn, and then the others
pub turns-more : (n : ℕ) (test : WorldState → Bool) (once : WorldState → WorldState) (s : WorldState) → test s ≡ true →
    turns (suc n) test once s ≡ turns n test once (once s)
turns-more n test once s e = ap (λ b. elim b as (λ x. WorldState) [ true ↦ turns n test once (once s) | false ↦ s ]) e

-- a loop whose test fails does nothing
pub while-ends : (n : ℕ) (test : WorldState → Bool) (f : Script) (s : WorldState) → test s ≡ false → does (while_at_most n test f) s ≡ s
while-ends n test f s e = turns-end n test (does f) s e

-- a test that is known
pub given-true : (f g : Script) (test : Bool) (s : WorldState) → test ≡ true → does (given test f g) s ≡ does f s
given-true f g test s e = ap (λ b. does (given b f g) s) e

pub given-false : (f g : Script) (test : Bool) (s : WorldState) → test ≡ false → does (given test f g) s ≡ does g s
given-false f g test s e = ap (λ b. does (given b f g) s) e
