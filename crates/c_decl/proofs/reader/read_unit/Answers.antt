use Rattle.std.proofs.Common.{◌∷◌, append_assoc}
use Rattle.c_tree.specs.Reading.{each_more}
use Rattle.c_tree.specs.Units.{HasNoItem}
use Rattle.c_decl.proofs.Ends.{unit_read, unit_alone, unit_stops, stop_there, stop_answer, stop_units, stop_lines}
use Rattle.c_decl.proofs.ShortUnits.{unit_short}
use Rattle.c_decl.proofs.reader.read_unit.Goals as goal

pub loop-rest-init : goal.loop-rest-init
loop-rest-init c = λ v xs d. rw c.new-items.ensures d

pub loop-rest-preserved : goal.loop-rest-preserved
loop-rest-preserved c = λ v xs d.
    let best = rw c.in-Some.is at c.in_ok-item.ensures.best in
    rw (c.in_ok-push.ensures.ok, append_assoc) (c.loop-rest.invariant v (c.in-Some.item ∷ xs) (each_more best.sound d))

pub returns-clause-unit : goal.returns-clause-unit
returns-clause-unit c = unit_read _ c.loop-rest.rest.now c.loop-rest.items _ c.is_empty.ensures c.loop-rest-test.false c.loop-rest.invariant

pub returns-clause-short : goal.returns-clause-short
returns-clause-short c =
    unit_short c.requires.divided.0 c.args.words.now _ c.requires.divided.1
    (unit_read _ c.loop-rest.rest.now c.loop-rest.items _ c.is_empty.ensures c.loop-rest-test.false c.loop-rest.invariant)

pub returns-clause-units : goal.returns-clause-units
returns-clause-units c = λ unit d.
    (unit_alone c.args.words.now _ (unit_read _ c.loop-rest.rest.now c.loop-rest.items _ c.is_empty.ensures c.loop-rest-test.false c.loop-rest.invariant) unit d, tt)

pub returns-clause-stops : goal.returns-clause-stops
returns-clause-stops c =
    unit_stops c.args.words.now _ (unit_read _ c.loop-rest.rest.now c.loop-rest.items _ c.is_empty.ensures c.loop-rest-test.false c.loop-rest.invariant)

pub returns-in_default-clause-no_item : goal.returns-in_default-clause-no_item
returns-in_default-clause-no_item c =
    let stop : HasNoItem c.args.words.now c.line_of.result =
    stop_there _ c.loop-rest.rest.now c.loop-rest.items _ _ c.is_empty.ensures c.loop-rest-test.true c.loop-rest.invariant c.line_of.ensures (rw c.in_default.is at c.in_ok-item.ensures.best) in
    stop_answer c.args.words.now c.line_of.result stop

pub returns-in_default-clause-units : goal.returns-in_default-clause-units
returns-in_default-clause-units c =
    let stop : HasNoItem c.args.words.now c.line_of.result =
    stop_there _ c.loop-rest.rest.now c.loop-rest.items _ _ c.is_empty.ensures c.loop-rest-test.true c.loop-rest.invariant c.line_of.ensures (rw c.in_default.is at c.in_ok-item.ensures.best) in
    stop_units c.args.words.now c.line_of.result stop

pub returns-in_default-clause-stops : goal.returns-in_default-clause-stops
returns-in_default-clause-stops c =
    let stop : HasNoItem c.args.words.now c.line_of.result =
    stop_there _ c.loop-rest.rest.now c.loop-rest.items _ _ c.is_empty.ensures c.loop-rest-test.true c.loop-rest.invariant c.line_of.ensures (rw c.in_default.is at c.in_ok-item.ensures.best) in
    stop_lines c.args.words.now c.line_of.result stop
