-- What is read so far, and the digits still to come, are the number of the word.
use Rattle.std.proofs.Common.{◌≡◌, ◌≤◌, drop}
use Rattle.scenario.proofs.Digits.{number_behind}
use Rattle.scenario.proofs.numbers.read_number.Given as goal

abbrev pub invariant-loop-byte : goal.invariant-loop-byte
invariant-loop-byte l =
    record {
      small : l.value ≤ l.most;
      same : number_behind l.most l.value (drop l.byte-index l.word) ≡ number_behind l.most 0 l.word;
    }
