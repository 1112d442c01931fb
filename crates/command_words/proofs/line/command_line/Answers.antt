-- The command as it is built up is the one that the definition builds.
use Rattle.std.proofs.Common.{rules, ap, ap₂, refl, ◌≡◌, ◌∙◌}
use Rattle.clap.specs.Walk.{rule_of}
use Rattle.clap.specs.Simple.{app_of, with_rule}
use Rattle.command_words.specs.Line.{bare_line, command_line, count_rule, files_rule, mode_rule, steps_rule}
use Rattle.command_words.proofs.line.command_line.Goals as goal

pub returns : goal.returns
returns c =
    let mode_is : rule_of c.required-mode.result ≡ mode_rule = search rules in
    let files_is : rule_of c.action-files.result ≡ files_rule = search rules in
    let steps_is : rule_of c.long-steps.result ≡ steps_rule = search rules in
    let count_is : rule_of c.action-count.result ≡ count_rule = search rules in
    let bare_is : app_of c.disable_version_flag.result ≡ bare_line = search rules in
    c.in_ok-command.ensures.shape (search rules) ∙ ap₂ with_rule (c.in_ok-arg-3.ensures.shape (search rules)
    ∙ ap₂ with_rule (c.in_ok-arg-2.ensures.shape (search rules)
    ∙ ap₂ with_rule (c.in_ok-arg.ensures.shape (search rules) ∙ ap₂ with_rule bare_is mode_is) files_is) steps_is) count_is
