use Rattle.c_token.proofs.DivisionLaws.{IsDivision-unique, IsDivision-no_stop, IsDivision-no_limit, HasNoWord-unique, HasNoWord-no_limit, PassesLimit-unique}
use Rattle.c_token.proofs.tokenizer.one_division.Goals as goal

pub returns-clause-words : goal.returns-clause-words
returns-clause-words c = λ t ws vs a b. IsDivision-unique a b

pub returns-clause-lines : goal.returns-clause-lines
returns-clause-lines c = λ t n m a b. HasNoWord-unique a b

pub returns-clause-limits : goal.returns-clause-limits
returns-clause-limits c = λ t n m k j a b. PassesLimit-unique a b

pub returns-clause-no_stop : goal.returns-clause-no_stop
returns-clause-no_stop c = λ t ws n a b. IsDivision-no_stop a b

pub returns-clause-no_limit : goal.returns-clause-no_limit
returns-clause-no_limit c = λ t ws n k a b. IsDivision-no_limit a b

pub returns-clause-no_both : goal.returns-clause-no_both
returns-clause-no_both c = λ t n m k a b. HasNoWord-no_limit a b
