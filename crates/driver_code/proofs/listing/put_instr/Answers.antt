use Rattle.std.proofs.Common.{ℕ, List, ◌++◌, ap, ◌∙◌, append_assoc}
use Rattle.driver_code.specs.Listing.{word, operands, instr_text}
use Rattle.driver_code.proofs.listing.put_instr.Goals as goal

pub returns : goal.returns
unfolding instr_text
returns c =
    c.put_operands.ensures
    ∙ ap (λ (l : List ℕ). l ++ operands c.args.instr) (c.put_text.ensures.line ∙ ap (λ (l : List ℕ). c.args.line.now ++ l) c.word.ensures.word)
    ∙ append_assoc c.args.line.now (word c.args.instr) (operands c.args.instr)
