use Rattle.driver_machine.proofs.Standings.{answers_in}
use Rattle.driver_machine.proofs.frame.Frame.answer.Goals as goal

pub returns-in-Some-clause-answers : goal.returns-in-Some-clause-answers
returns-in-Some-clause-answers c =
    answers_in c.args.unit.now c.in-Some.f.now c.args.self.now c.answer_in.new.self c.in-Some.ensures c.answer_in.ensures.function
    c.args.reply c.answer_in.ensures.answers
