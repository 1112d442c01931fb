use Rattle.checked_tree.proofs.WordValues.{peeked_is_word, in_range_words}
use Rattle.checked_tree.proofs.laws.values_have_32_bits.Goals as goal

pub returns-clause-expressions : goal.returns-clause-expressions
returns-clause-expressions c = peeked_is_word

pub returns-clause-slots : goal.returns-clause-slots
returns-clause-slots c = in_range_words
