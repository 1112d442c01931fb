-- A whole run of a driver that prints, computed step by step.
use Rattle.std.proofs.Common.{◌≡◌, ℕ, List, [], ◌∷◌, ◌++◌, ℤ, pos, Ok, Some, None, refl, ap, ◌∙◌}
use Rattle.scenario.specs.declared.event.Event.{Event}
use Rattle.scenario.specs.declared.event.Event.TheVariants.{Load, Finish}
use Rattle.run_report.specs.declared.item.Item.TheVariants as item
use Rattle.byte_memory.specs.Tested.{Memory}
use Rattle.checked_tree.specs.declared.kernel.Answer.TheVariants.{Number}
use Rattle.checked_tree.specs.declared.kernel.KernelName.TheVariants as kernel
use Rattle.checked_tree.specs.declared.statements.CheckedStmt.{CheckedStmt}
use Rattle.checked_tree.specs.Step.{Ended}
use Rattle.checked_tree.proofs.Equations.{at_statements}
use Rattle.world_core.specs.WorldState.{WorldState, Running, first_world, memory_of, with_activity}
use Rattle.world_core.specs.Script.{does, turns, say}
use Rattle.world_core.specs.Calling.{with_answer}
use Rattle.world_core.specs.Delivering.{deliver}
use Rattle.world_core.specs.Restarting.{restarts}
use Rattle.world_core.specs.Tasks.{may_go_on, round, not_blocked}
use Rattle.world_core.specs.Events.{event, ends, items_of}
use Rattle.world_core.proofs.Computing.{computing}
use Rattle.world_core.proofs.Units
use Rattle.world_core.proofs.Statements.{frame, call, leaves, seven_todo, prints_seven-first, prints_seven-second}
use Rattle.world_core.proofs.Rounds.{with_frames, taken, next-call, next-round}

abbrev running : List CheckedStmt → Running
running todo = record { owner = 1; frames = frame 0 [] todo ∷ [] }

abbrev first : Running
first = running seven_todo

abbrev second : Running
second = running leaves

-- the world in which `init` stands at its beginning, about to run
abbrev ready : WorldState
ready =
    let loaded = does (event (Load 1 1 0)) (first_world (Units.prints_seven ∷ []) 1 [] 100000) in
    record loaded { run = not_blocked loaded.run }

abbrev printing : WorldState
printing = does (say (item.Print (record { owner = 1; task = 1 }) (pos 7))) (taken ready)

answer : with_answer (Number (pos 0)) first ≡ second
unfolding computing
answer = simp at_statements

abbrev finished : WorldState
finished = record printing {
  run = record printing.run { left = 99998 };
  tasks = with_activity 1 None printing.tasks;
  said = printing.said ++ item.Answered (record { owner = 1; task = 1 }) (pos 0) ∷ [];
}

to-end : turns 100001 (may_go_on 1) (does (round 1)) ready
    ≡ finished
unfolding computing
to-end =
    next-call 1 100000 first second (call kernel.Printd (pos 7) 0) (Number (pos 0)) ready printing refl refl refl
    (prints_seven-first (memory_of ready.history ready.memories 1)) refl refl answer
    ∙ next-round 1 99999 second (Ok (Ended (Some (pos 0)))) (does deliver (with_frames 1 second printing)) refl refl refl
    (prints_seven-second (memory_of ready.history ready.memories 1))

pub a_driver_prints : items_of (Units.prints_seven ∷ []) 1 [] (Load 1 1 0 ∷ Finish 1 ∷ []) 100000
    ≡ item.Loaded 1 ∷ item.Print (record { owner = 1; task = 1 }) (pos 7) ∷ item.Answered (record { owner = 1; task = 1 }) (pos 0) ∷ item.End 2 ∷ []
unfolding computing
a_driver_prints = ap (λ (w : WorldState). (does ends (does restarts (does deliver w))).said) to-end
