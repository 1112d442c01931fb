-- What was read of a name is gone from its front, and what is left of other names stays.
use Rattle.std.proofs.Common.{refl, sym, ◌∙◌, inl}
use Rattle.sd_outside.proofs.Naming.{left_of-read_on, LeavesOthers-read_on}
use Rattle.sd_outside.proofs.memory_shelf.MemShelfShelf.read.Goals as goal

pub returns-in-Some-clause-moves : goal.returns-in-Some-clause-moves
returns-in-Some-clause-moves c = rw (← c.self.view_is, c.in-Some.ensures.rest) (left_of-read_on c.self.inside.texts c.args.name.now c.in-Some.n)

pub returns-in-Some-clause-others : goal.returns-in-Some-clause-others
returns-in-Some-clause-others c = rw (← c.self.view_is, c.in-Some.ensures.rest) (LeavesOthers-read_on c.self.inside.texts c.args.name.now c.in-Some.n)

pub returns-then-contains-clause-failed : goal.returns-then-contains-clause-failed
returns-then-contains-clause-failed c =
    (λ _. inl (rw (← c.self.view_is, ← c.saturating_add-self-inside.ensures, ← c.deref.ensures.value) (sym c.contains.ensures.value ∙ c.if-contains.true)), λ _. refl)
