use Rattle.c_decl.proofs.Apart.{types_comma}
use Rattle.c_decl.proofs.Sequences.{then_none, then_is, then_once, before_lacks, before_is, given_is, word_apart}
use Rattle.c_decl.proofs.actions.allocated.Goals as goal

pub returns-in_default-clause-best : goal.returns-in_default-clause-best
returns-in_default-clause-best c = then_none (rw c.in_default.is at c.in_ok-element.ensures.best)

pub returns-in_default-after_sign-clause-best : goal.returns-in_default-after_sign-clause-best
returns-in_default-after_sign-clause-best c =
    then_is (word_apart _ types_comma) (rw c.in-Some.is at c.in_ok-element.ensures.best) (before_lacks c.in_default-after_sign.ensures.word)

pub returns-in_default-2-clause-best : goal.returns-in_default-2-clause-best
returns-in_default-2-clause-best c =
    then_is (word_apart _ types_comma) (rw c.in-Some.is at c.in_ok-element.ensures.best)
    (before_is c.in-Some-after_sign.ensures.word (then_none (rw c.in_default-2.is at c.in_ok-count.ensures.best)))

pub returns-clause-best : goal.returns-clause-best
returns-clause-best c =
    then_is (word_apart _ types_comma) (rw c.in-Some.is at c.in_ok-element.ensures.best)
    (before_is c.in-Some-after_sign.ensures.word (then_once (rw c.in-Some-2.is at c.in_ok-count.ensures.best) given_is))
