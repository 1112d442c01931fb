-- The new answer stands behind those of its port, and the links hold.
use Rattle.std.proofs.Common.{List, ℤ, ◌≡◌, ℕ, ◌+◌, ◌-◌, ◌++◌, ◌∷◌, [], nat_eq, length, ap, ◌∙◌, w32, arith}
use Rattle.std.specs.HashMap.{get}
use Rattle.std.proofs.lemmas.Int.{to_z-of_z}
use Rattle.device_model.specs.Scripted.{Scripted, answers_of, with_answer}
use Rattle.device_model.specs.Links.{waiting_of, linked}
use Rattle.device_model.proofs.Linking.{push_links, length-linked, given}
use Rattle.device_model.proofs.Waiting.{waiting-linked, values_at-push_same, values_at-push_other}
use Rattle.device_model.proofs.Devices.answer.Goals as goal
use Rattle.device_model.proofs.Devices.answer.Goals.{After-unwrap}

had : (c : After-unwrap) → c.copied.result ≡ get nat_eq c.self.inside.queues c.args.port
had c = c.copied.ensures ∙ c.get.ensures.value

place : (c : After-unwrap) → c.len-place.result ≡ length c.self.inside.answers.items
place c = c.len-place.ensures ∙ c.self.inside.answers.ok.0

-- the answers after the call
answers_after : (c : After-unwrap) → c.put_behind-queue.new.answers.items ≡ linked (c.self.inside.answers.items ++ given c.args.port c.args.v ∷ []) (get nat_eq c.self.inside.queues c.args.port) (length c.self.inside.answers.items)
answers_after c =
    let pushed : c.push_reserved.new.self.items ≡ c.self.inside.answers.items ++ given c.args.port c.args.v ∷ [] =
    c.push_reserved.ensures.items ∙ ap (λ v. c.self.inside.answers.items ++ given c.args.port v ∷ []) (to_z-of_z w32 c.args.v c.ranges.v) in
    rw (pushed, had c, place c) at c.put_behind-queue.ensures.links

size_after : (c : After-unwrap) → length c.put_behind-queue.new.answers.items ≡ length c.self.inside.answers.items + 1
size_after c = ap length (answers_after c) ∙ length-linked c.self.inside.answers.items c.args.port c.args.v (get nat_eq c.self.inside.queues c.args.port)

pub invariant_of-self : goal.invariant_of-self
invariant_of-self c =
    let c = (goal.at.invariant_of-self c).After-unwrap in
    let updates = rw c.unwrap.ensures at c.insert-inserted.ensures.updates in
    let queue = rw (had c, place c) at c.put_behind-queue.ensures.queue in (
      rw (answers_after c) (push_links _ _ _ _ _ c.self.invariant.0 (rw queue at updates.0)),
      omega arith,
      omega (arith, size_after c, c.put_behind-queue.ensures.capacity, c.push_reserved.ensures.capacity),
      omega (arith, size_after c),
    )

-- what contracts see after the call
is_given : (c : After-unwrap) → ◌≡◌ {A = Scripted} (record { waiting = waiting_of c.put_behind-queue.new.answers.items; room = c.self.inside.room - 1 }) (with_answer c.args.port c.args.v c.args.self.now)
is_given c =
    let seen : List (ℕ × ℤ) → Scripted = λ waiting. record { waiting = waiting; room = c.self.inside.room - 1 } in
    ap seen (ap waiting_of (answers_after c) ∙ waiting-linked c.self.inside.answers.items (given c.args.port c.args.v) (get nat_eq c.self.inside.queues c.args.port) (length c.self.inside.answers.items))
    ∙ ap (with_answer c.args.port c.args.v) c.self.view_is

pub returns-clause-given : goal.returns-clause-given
returns-clause-given c =
    let after = (goal.at.returns-clause-given c).After-unwrap in
    is_given after

pub returns-clause-gains : goal.returns-clause-gains
returns-clause-gains c =
    let after = (goal.at.returns-clause-gains c).After-unwrap in
    ap (λ s. answers_of s c.args.port) (is_given after) ∙ values_at-push_same c.args.port c.args.v c.args.self.now.waiting

pub returns-clause-others : goal.returns-clause-others
returns-clause-others c =
    let after = (goal.at.returns-clause-others c).After-unwrap in
    λ q ne. ap (λ s. answers_of s q) (is_given after) ∙ values_at-push_other q c.args.port c.args.v c.args.self.now.waiting ne
