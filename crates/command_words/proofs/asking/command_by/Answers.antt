-- What the getters give is what the rows ask by.
use Rattle.std.proofs.Common.{Some, None, Option, List, ◌≡◌, rules, map, option_map, codes, sym, ap, ◌∙◌}
use Rattle.clap.specs.Matches.{first_value, found_of, matched_of, raw_values}
use Rattle.command_words.specs.Words.{Text}
use Rattle.command_words.proofs.Parts.{no_mode_asks, with_parts}
use Rattle.command_words.proofs.asking.command_by.Goals as goal

pub returns-in_default : goal.returns-in_default
returns-in_default c = no_mode_asks (found_of c.args.matches.now) c.in_default.ensures

pub returns-in-Some-get_strs : goal.returns-in-Some-get_strs
returns-in-Some-get_strs c =
    with_parts (found_of c.args.matches.now) c.in-Some.mode.now (option_map (λ s. s.now) c.get_str-steps.result) c.get_flag-counted.result
    (Some (map (λ s. s.now) c.in-Some-get_strs.files.now)) c.in-Some.ensures c.get_str-steps.ensures c.in-Some-get_strs.ensures c.requires
    c.get_flag-counted.ensures.value c.get_flag-counted.ensures.other c.command_with.result c.command_with.ensures

pub returns-in-None : goal.returns-in-None
returns-in-None c =
    with_parts (found_of c.args.matches.now) c.in-Some.mode.now (option_map (λ s. s.now) c.get_str-steps.result) c.get_flag-counted.result None
    c.in-Some.ensures c.get_str-steps.ensures c.in-None.ensures c.requires
    c.get_flag-counted.ensures.value c.get_flag-counted.ensures.other c.command_with-in-None.result c.command_with-in-None.ensures
