use Rattle.std.proofs.Common.{◌≡◌, rules}
use Rattle.std.specs.Prelude.{replicate, length, false}
use Rattle.check_elim.specs.Direct.{passings, telling}
use Rattle.check_elim.specs.Sets.{facts, marking, all_lost, size_in, ops_of}
use Rattle.check_elim.specs.Marks.{SayUnmet}
use Rattle.check_elim.proofs.Ruling.{third_marks}
use Rattle.check_elim.proofs.removing.unmet.Goals as goal

pub returns-clause-length : goal.returns-clause-length
unfolding marking
returns-clause-length c =
    let lost : facts c.in_ok-lost.lost ≡ all_lost (size_in c.args.table.now) = search rules in
    let unmarked : c.in_ok-marks.marks.items ≡ replicate (length c.args.f.now.checks) false = search rules in
    let told : marking c.pass_all.new.kept ≡ telling (passings (ops_of c.args.f.now c.args.table.now) c.args.f.now.slots c.args.f.now.body) (facts c.in_ok-lost.lost) (marking (record { lost = c.in_ok-marks.marks })) = search rules in
    (third_marks c.args.f.now c.args.table.now (facts c.in_ok-lost.lost) c.in_ok-marks.marks.items c.pass_all.new.kept.lost.items c.requires.table c.requires.inequalities lost unmarked told).0

pub returns-clause-marks : goal.returns-clause-marks
unfolding marking SayUnmet
returns-clause-marks c =
    let lost : facts c.in_ok-lost.lost ≡ all_lost (size_in c.args.table.now) = search rules in
    let unmarked : c.in_ok-marks.marks.items ≡ replicate (length c.args.f.now.checks) false = search rules in
    let told : marking c.pass_all.new.kept ≡ telling (passings (ops_of c.args.f.now c.args.table.now) c.args.f.now.slots c.args.f.now.body) (facts c.in_ok-lost.lost) (marking (record { lost = c.in_ok-marks.marks })) = search rules in
    (third_marks c.args.f.now c.args.table.now (facts c.in_ok-lost.lost) c.in_ok-marks.marks.items c.pass_all.new.kept.lost.items c.requires.table c.requires.inequalities lost unmarked told).1
