-- The first blank ends the word, and where there is none the line does.
use Rattle.scenario.proofs.Cutting.{length_to, length_of_all, place_within}
use Rattle.scenario.proofs.words.word_length.Goals as goal

pub returns-in-Some-clause-within : goal.returns-in-Some-clause-within
returns-in-Some-clause-within c = place_within c.args.line.now c.in-Some.end c.in-Some.ensures

pub returns-in-Some-clause-place : goal.returns-in-Some-clause-place
returns-in-Some-clause-place c = length_to c.args.line.now c.in-Some.end c.in-Some.ensures

pub returns-in-None-clause-place : goal.returns-in-None-clause-place
returns-in-None-clause-place c = length_of_all c.args.line.now c.in-None.ensures
