use Rattle.std.proofs.Common.{rules, ◌∙◌, w64}
use Rattle.std.proofs.lemmas.Int.{to_z-of_z}
use Rattle.driver_machine.proofs.FirstFour.{four_read}
use Rattle.driver_machine.proofs.actions.four.Goals as goal

pub returns : goal.returns
returns c =
    four_read c.args.numbers.now _ _ _ _
    (to_z-of_z w64 c.nth.result (search rules) ∙ c.nth.ensures)
    (to_z-of_z w64 c.nth-2.result (search rules) ∙ c.nth-2.ensures)
    (to_z-of_z w64 c.nth-3.result (search rules) ∙ c.nth-3.ensures)
    (to_z-of_z w64 c.nth-4.result (search rules) ∙ c.nth-4.ensures)
