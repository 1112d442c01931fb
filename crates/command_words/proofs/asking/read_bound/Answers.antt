-- Digits that are no `u32` are above the greatest bound.
use Rattle.std.proofs.Common.{◌≡◌, ◌<◌, true, length, leb, rules, arith, sym, ◌∙◌, ap}
use Rattle.std.specs.List.{list_all}
use Rattle.std.specs.Char.{is_ascii_digit}
use Rattle.std.specs.Str.Parse.{digits_value}
use Rattle.command_words.proofs.Bounds.{no_bound, none_of_digits}
use Rattle.command_words.proofs.asking.read_bound.Goals as goal

pub returns-in-Err : goal.returns-in-Err
returns-in-Err c =
    let w = c.args.number.now in
    let digits : list_all is_ascii_digit w ≡ true = search rules in
    let some : 0 < length w = search rules in
    none_of_digits w digits (no_bound w digits some c.in-Err.ensures.value.0)
