-- The answer that the port's queue names is its oldest, and the links hold without it.
use Rattle.std.proofs.Common.{List, ℤ, pos, Some, unwrap_or, ◌≡◌, ℕ, nat_eq, sym, ap, ◌∙◌, subst, w32, rules}
use Rattle.std.specs.HashMap.{get}
use Rattle.std.proofs.lemmas.Int.{to_z-of_z}
use Rattle.device_model.specs.Scripted.{Scripted, answers_of, oldest_or_zero, without_oldest}
use Rattle.device_model.specs.Links.{waiting_of, value_at, QueueOf, IsQueue, OldestAt, IsOldest}
use Rattle.device_model.proofs.Waiting.{TakesOldest, take_waiting, without_queue, with_empty_queue, reads_zero, none_taken, none_lost, value_there, unwrapped, values_at-but_oldest_same, values_at-but_oldest_other}
use Rattle.device_model.proofs.Devices.port_in.Goals as goal
use Rattle.device_model.proofs.Devices.port_in.Goals.{After-unwrap_or}

pub returns-in_default-clause-value : goal.returns-in_default-clause-value
returns-in_default-clause-value c =
    let none = without_queue _ c.args.port _ (c.self.invariant.0.queue c.args.port) (sym c.in_default.ensures.value) in
    reads_zero c.args.port _ c.args.self.now (ap (λ s. s.waiting) c.self.view_is) none

pub returns-in_default-clause-taken : goal.returns-in_default-clause-taken
returns-in_default-clause-taken c =
    let none = without_queue _ c.args.port _ (c.self.invariant.0.queue c.args.port) (sym c.in_default.ensures.value) in
    c.self.view_is ∙ none_taken c.args.port _ c.args.self.now (ap (λ s. s.waiting) c.self.view_is) none

pub returns-in_default-clause-loses : goal.returns-in_default-clause-loses
returns-in_default-clause-loses c =
    let none = without_queue _ c.args.port _ (c.self.invariant.0.queue c.args.port) (sym c.in_default.ensures.value) in
    ap (λ s. answers_of s c.args.port) c.self.view_is ∙ none_lost c.args.port _ c.args.self.now (ap (λ s. s.waiting) c.self.view_is) none

pub returns-in_default-oldest-clause-value : goal.returns-in_default-oldest-clause-value
returns-in_default-oldest-clause-value c =
    let none = with_empty_queue _ c.args.port _ c.in-Some.queue.now (c.self.invariant.0.queue c.args.port) (sym c.in-Some.ensures.value) c.in_default-oldest.is in
    reads_zero c.args.port _ c.args.self.now (ap (λ s. s.waiting) c.self.view_is) none

pub returns-in_default-oldest-clause-taken : goal.returns-in_default-oldest-clause-taken
returns-in_default-oldest-clause-taken c =
    let none = with_empty_queue _ c.args.port _ c.in-Some.queue.now (c.self.invariant.0.queue c.args.port) (sym c.in-Some.ensures.value) c.in_default-oldest.is in
    c.self.view_is ∙ none_taken c.args.port _ c.args.self.now (ap (λ s. s.waiting) c.self.view_is) none

pub returns-in_default-oldest-clause-loses : goal.returns-in_default-oldest-clause-loses
returns-in_default-oldest-clause-loses c =
    let none = with_empty_queue _ c.args.port _ c.in-Some.queue.now (c.self.invariant.0.queue c.args.port) (sym c.in-Some.ensures.value) c.in_default-oldest.is in
    ap (λ s. answers_of s c.args.port) c.self.view_is ∙ none_lost c.args.port _ c.args.self.now (ap (λ s. s.waiting) c.self.view_is) none

had : (c : After-unwrap_or) → get nat_eq c.self.inside.queues c.args.port ≡ Some c.in-Some.queue.now
had c = sym c.in-Some.ensures.value

oldest : (c : After-unwrap_or) → OldestAt c.self.inside.answers.items c.args.port c.in-Some-oldest.place
oldest c =
    let queue : QueueOf c.self.inside.answers.items c.args.port c.in-Some.queue.now = subst (λ o. IsQueue c.self.inside.answers.items c.args.port o) (had c) (c.self.invariant.0.queue c.args.port) in
    subst (λ k. IsOldest c.self.inside.answers.items c.args.port k) c.in-Some-oldest.is queue.oldest

-- the answer that is taken
taken_value : After-unwrap_or → ℤ
taken_value c = unwrap_or (value_at c.self.inside.answers.items c.in-Some-oldest.place) (pos 0)

takes : (c : After-unwrap_or) → TakesOldest c.args.port (taken_value c) (waiting_of c.self.inside.answers.items) (waiting_of c.take_at-answer.new.answers.items)
unfolding taken_value
takes c =
    let items = c.self.inside.answers.items in
    let old = oldest c in
    let there = unwrapped _ (value_there items c.args.port c.in-Some-oldest.place old) in
    rw c.take_at-answer.ensures.taken (take_waiting items c.args.port c.in-Some-oldest.place _ old.within old.here there old.taken)

-- what contracts see after the call
is_taken : (c : After-unwrap_or) → ◌≡◌ {A = Scripted} (record { waiting = waiting_of c.take_at-answer.new.answers.items; room = c.self.inside.room }) (without_oldest c.args.port c.args.self.now)
is_taken c =
    let seen : List (ℕ × ℤ) → Scripted = λ waiting. record { waiting = waiting; room = c.self.inside.room } in
    ap seen (sym (takes c).1) ∙ ap (without_oldest c.args.port) c.self.view_is

pub returns-clause-value : goal.returns-clause-value
unfolding taken_value
returns-clause-value c =
    to_z-of_z w32 c.unwrap_or.result (search rules) ∙ c.unwrap_or.ensures ∙ ap (λ g. unwrap_or g.value (pos 0)) c.take_at-answer.ensures.given
    ∙ sym (takes c).0 ∙ ap (λ s. oldest_or_zero (answers_of s c.args.port)) c.self.view_is

pub returns-clause-taken : goal.returns-clause-taken
returns-clause-taken c = is_taken c

pub returns-clause-loses : goal.returns-clause-loses
returns-clause-loses c = ap (λ s. answers_of s c.args.port) (is_taken c) ∙ values_at-but_oldest_same c.args.port c.args.self.now.waiting

pub returns-clause-others : goal.returns-clause-others
returns-clause-others c = λ q ne. ap (λ s. answers_of s q) (is_taken c) ∙ values_at-but_oldest_other q c.args.port c.args.self.now.waiting ne
