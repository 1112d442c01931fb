-- What `clap` answers on the words that it is handed is what all words ask for.
use Rattle.std.proofs.Common.{◌≡◌, false, true, map, string_bytes, rules, sym, subst, ap, ◌∙◌, Option}
use Rattle.clap.specs.Matches.{found_of}
use Rattle.command_words.specs.Words.{are_known}
use Rattle.command_words.specs.Line.{handed}
use Rattle.command_words.specs.Command.{CommandWords}
use Rattle.command_words.specs.Meaning.{IsAnswer}
use Rattle.command_words.proofs.Parts.{fault_answer, parsed}
use Rattle.command_words.proofs.words.read_words.Goals as goal

pub command_by-requires : goal.command_by-requires
command_by-requires c =
    let words = map string_bytes c.args.words.now in
    let known : are_known false words ≡ true = search rules in
    let same : map (λ s. s.now) c.as_slice.result.now ≡ handed words = search rules in
    (parsed words known (found_of c.in-Ok-parse.matches) (map (λ s. s.now) c.as_slice.result.now) same c.in-Ok-parse.ensures.0 c.in-Ok-parse.ensures.1).1

pub returns-in-Ok-parse : goal.returns-in-Ok-parse
returns-in-Ok-parse c =
    let words = map string_bytes c.args.words.now in
    let known : are_known false words ≡ true = search rules in
    let same : map (λ s. s.now) c.as_slice.result.now ≡ handed words = search rules in
    let got = parsed words known (found_of c.in-Ok-parse.matches) (map (λ s. s.now) c.as_slice.result.now) same c.in-Ok-parse.ensures.0 c.in-Ok-parse.ensures.1 in
    subst (λ (o : Option CommandWords). IsAnswer o c.command_by.result) got.0 c.command_by.ensures

pub returns : goal.returns
returns c =
    let words = map string_bytes c.args.words.now in
    let known : are_known false words ≡ true = search rules in
    let same : map (λ s. s.now) c.as_slice.result.now ≡ handed words = search rules in
    fault_answer words known (map (λ s. s.now) c.as_slice.result.now) same c.in-Err.fault c.in-Err.ensures
