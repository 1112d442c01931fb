use Rattle.std.proofs.Common.{◌≡◌, rules}
use Rattle.std.specs.Prelude.{replicate, length, false}
use Rattle.check_elim.specs.Sets.{marking, IsTable}
use Rattle.check_elim.specs.Following.{Follows, IsOfClasses, flows_of_all}
use Rattle.check_elim.specs.Marks.{SayUnequal}
use Rattle.check_elim.proofs.Ruling.{second_marks}
use Rattle.check_elim.proofs.removing.unequal.Goals as goal

pub follow_all-requires-clause-table : goal.follow_all-requires-clause-table
unfolding IsTable
follow_all-requires-clause-table c = c.in_ok-equal.ensures

pub follow_all-requires-clause-classes : goal.follow_all-requires-clause-classes
unfolding IsOfClasses
follow_all-requires-clause-classes c = tt

pub returns-clause-length : goal.returns-clause-length
unfolding marking
returns-clause-length c =
    let unmarked : c.in_ok-marks.marks.items ≡ replicate (length c.args.f.now.checks) false = search rules in
    let told : Follows c.args.f.now (flows_of_all c.args.f.now c.args.f.now.body) (marking (record { lost = c.in_ok-marks.marks })) (marking c.follow_all.new.kept) = search rules in
    (second_marks c.args.f.now c.in_ok-marks.marks.items c.follow_all.new.kept.lost.items unmarked told).0

pub returns-clause-marks : goal.returns-clause-marks
unfolding marking SayUnequal
returns-clause-marks c =
    let unmarked : c.in_ok-marks.marks.items ≡ replicate (length c.args.f.now.checks) false = search rules in
    let told : Follows c.args.f.now (flows_of_all c.args.f.now c.args.f.now.body) (marking (record { lost = c.in_ok-marks.marks })) (marking c.follow_all.new.kept) = search rules in
    (second_marks c.args.f.now c.in_ok-marks.marks.items c.follow_all.new.kept.lost.items unmarked told).1
