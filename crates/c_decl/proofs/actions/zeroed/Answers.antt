use Rattle.std.proofs.Common.{refl}
use Rattle.c_tree.specs.declared.signs.Sign.TheVariants as sign
use Rattle.c_tree.specs.Operators.{rows}
use Rattle.c_decl.proofs.Apart.{loose}
use Rattle.c_decl.proofs.Sequences.{then_none, then_is, before_lacks, before_is, ended_lacks, ended_is, word_apart}
use Rattle.c_decl.proofs.actions.zeroed.Goals as goal

pub returns-in_default-clause-best : goal.returns-in_default-clause-best
returns-in_default-clause-best c = then_none (rw c.in_default.is at c.in_ok-place.ensures.best)

pub returns-in_default-after_sign-clause-best : goal.returns-in_default-after_sign-clause-best
returns-in_default-after_sign-clause-best c =
    then_is (word_apart _ (loose sign.ParenClose rows refl)) (rw c.in-Some.is at c.in_ok-place.ensures.best) (before_lacks c.in_default-after_sign.ensures.word)

pub returns-in_default-after_sign-2-clause-best : goal.returns-in_default-after_sign-2-clause-best
returns-in_default-after_sign-2-clause-best c =
    then_is (word_apart _ (loose sign.ParenClose rows refl)) (rw c.in-Some.is at c.in_ok-place.ensures.best)
    (before_is c.in-Some-after_sign.ensures.word (ended_lacks c.in_default-after_sign-2.ensures.word))

pub returns-clause-best : goal.returns-clause-best
returns-clause-best c =
    then_is (word_apart _ (loose sign.ParenClose rows refl)) (rw c.in-Some.is at c.in_ok-place.ensures.best)
    (before_is c.in-Some-after_sign.ensures.word (ended_is c.in-Some-after_sign-2.ensures.word))
