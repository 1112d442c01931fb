use Rattle.driver_machine.proofs.Standings.{resumes_in}
use Rattle.driver_machine.proofs.frame.Frame.resume.Goals as goal

pub returns-in-Some-clause-resumes : goal.returns-in-Some-clause-resumes
returns-in-Some-clause-resumes c =
    resumes_in c.args.unit.now c.in-Some.f.now c.args.self.now c.resume_in.new.self c.in-Some.ensures c.resume_in.ensures.function
    c.args.scalar c.args.value c.resume_in.result c.resume_in.ensures.resumes
