use Rattle.std.proofs.Common.{arith}
use Rattle.c_token.proofs.AnswerLaws.{divides, divides_or_memory, no_word, limit}
use Rattle.c_token.proofs.LoopLaws.{line_feeds-count}
use Rattle.c_token.proofs.tokenizer.tokens.Goals as goal

pub divide-answer-requires : goal.divide-answer-requires
divide-answer-requires c = omega (arith, line_feeds-count c.args.text.now, c.requires)

pub returns-clause-divides : goal.returns-clause-divides
returns-clause-divides c = λ ws d. divides c.divide-answer.result c.args.text.now ws c.divide-answer.ensures.division d

pub returns-clause-divides_or_memory : goal.returns-clause-divides_or_memory
returns-clause-divides_or_memory c = λ ws d. divides_or_memory c.divide-answer.result c.args.text.now ws c.divide-answer.ensures.refusal d

pub returns-clause-has_no_word : goal.returns-clause-has_no_word
returns-clause-has_no_word c = λ n d. no_word c.divide-answer.result c.args.text.now n c.divide-answer.ensures.division c.divide-answer.ensures.refusal d

pub returns-clause-passes_limit : goal.returns-clause-passes_limit
returns-clause-passes_limit c = λ n kind d. limit c.divide-answer.result c.args.text.now n kind c.divide-answer.ensures.division c.divide-answer.ensures.refusal d
