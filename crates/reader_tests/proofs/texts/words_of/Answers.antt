use Rattle.std.proofs.Common.{eqb, arith}
use Rattle.std.proofs.lemmas.List.Sums.{count_by-le-length}
use Rattle.reader_tests.proofs.texts.words_of.Goals as goal

pub tokens-requires : goal.tokens-requires
tokens-requires c = omega (arith, count_by-le-length (λ b. eqb b 10) c.as_bytes-bytes.result.now)
