use Rattle.c_decl.proofs.Sequences.{ended_lacks, ended_is}
use Rattle.c_decl.proofs.actions.action_after.Goals as goal

pub returns-in_default-clause-best : goal.returns-in_default-clause-best
returns-in_default-clause-best c = rw c.in-Empty.is (ended_lacks c.in_default.ensures.word)

pub returns-in-Some-clause-best : goal.returns-in-Some-clause-best
returns-in-Some-clause-best c = rw c.in-Empty.is (ended_is c.in-Some.ensures.word)

pub returns-in_ok-found-in-Return-clause-best : goal.returns-in_ok-found-in-Return-clause-best
returns-in_ok-found-in-Return-clause-best c = rw c.in-Return.is c.in_ok-found-in-Return.ensures.best

pub returns-in_ok-found-in-Kfree-clause-best : goal.returns-in_ok-found-in-Kfree-clause-best
returns-in_ok-found-in-Kfree-clause-best c = rw c.in-Kfree.is c.in_ok-found-in-Kfree.ensures.best

pub returns-in_ok-found-in-Zero-clause-best : goal.returns-in_ok-found-in-Zero-clause-best
returns-in_ok-found-in-Zero-clause-best c = rw c.in-Zero.is c.in_ok-found-in-Zero.ensures.best

pub returns-in_ok-found-in-Call-clause-best : goal.returns-in_ok-found-in-Call-clause-best
returns-in_ok-found-in-Call-clause-best c = rw c.in-Call.is c.in_ok-found-in-Call.ensures.best

pub returns-in_ok-found-in-CallTo-clause-best : goal.returns-in_ok-found-in-CallTo-clause-best
returns-in_ok-found-in-CallTo-clause-best c = rw c.in-CallTo.is c.in_ok-found-in-CallTo.ensures.best

pub returns-in_ok-found-in-Kalloc-clause-best : goal.returns-in_ok-found-in-Kalloc-clause-best
returns-in_ok-found-in-Kalloc-clause-best c = rw c.in-Kalloc.is c.in_ok-found-in-Kalloc.ensures.best

pub returns-in_ok-found-in-Place-clause-best : goal.returns-in_ok-found-in-Place-clause-best
returns-in_ok-found-in-Place-clause-best c = rw c.in-Place.is c.in_ok-found-in-Place.ensures.best
