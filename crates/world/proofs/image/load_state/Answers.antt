-- A driver that there is has its image; for who is none nothing is loaded.
use Rattle.std.proofs.Common.{ℕ, List, sym, ap, ◌∙◌, subst, arith}
use Rattle.checked_tree.specs.declared.units.CheckedUnit.{CheckedUnit}
use Rattle.checked_tree.specs.declared.units.ImageBlock.{ImageBlock}
use Rattle.safe_code.specs.DerivedUnit.{IsDerivedUnit}
use Rattle.world.specs.Images.{FillsHost, LoadsHost}
use Rattle.world.specs.Standing.{units_of}
use Rattle.world.proofs.Begun.{unit-none, unit-some}
use Rattle.world.proofs.HostLoads.{loads-nobody, loads-far, loads-unknown, loads-known, known-after}
use Rattle.world.proofs.image.load_state.Goals.{then-driver-eq0-via-then-driver-eq0, then-driver-eq0-via-else-driver-eq0+then-driver-gt4}
use Rattle.world.proofs.image.load_state.Goals as goal

pub returns-then-driver-eq0 : goal.returns-then-driver-eq0
returns-then-driver-eq0 c = elim c.then-driver-eq0.branch [
  | then-driver-eq0-via-then-driver-eq0 w ↦
      subst (λ (n : ℕ). LoadsHost (units_of c.args.drivers.now.list.items) c.args.host.now n c.args.host.now) (sym w.if-driver-eq0.true) (loads-nobody _ c.args.host.now)
  | then-driver-eq0-via-else-driver-eq0+then-driver-gt4 w ↦
      loads-far (units_of c.args.drivers.now.list.items) c.args.host.now c.args.driver (omega (arith, w.if-driver-gt4.true)) c.requires.known.few
]

pub fill-requires : goal.fill-requires
fill-requires c =
    let unit = unit-some c.args.drivers.now.list.items c.args.driver c.in-Some.found.now (sym c.in-Some.ensures) in
    record {
      known = known-after (units_of c.args.drivers.now.list.items) c.args.host.now c.take_back.new.self c.args.driver (omega (arith, c.if-driver-eq0.false))
          (omega (arith, c.if-driver-gt4.false)) unit.2 c.requires.known c.take_back.ensures;
    }

pub returns-in-None : goal.returns-in-None
returns-in-None c = loads-unknown (units_of c.args.drivers.now.list.items) c.args.host.now c.take_back.new.self c.args.driver c.take_back.ensures
    (unit-none c.args.drivers.now.list.items c.args.driver (sym c.in-None.ensures))

pub returns-in-Some : goal.returns-in-Some
returns-in-Some c =
    let unit = unit-some c.args.drivers.now.list.items c.args.driver c.in-Some.found.now (sym c.in-Some.ensures) in
    loads-known (units_of c.args.drivers.now.list.items) c.args.host.now c.take_back.new.self c.fill.new.host c.args.driver (omega (arith, c.if-driver-eq0.false))
    (omega (arith, c.if-driver-gt4.false)) c.in-Some.found.now.unit (subst (λ (u : CheckedUnit). IsDerivedUnit u) c.unit.ensures.unit c.unit.ensures.derived) unit.0 unit.2
    c.take_back.ensures
    (subst (λ (bs : List ImageBlock). FillsHost c.take_back.new.self c.args.driver bs c.fill.new.host) (c.as_slice.ensures ∙ ap (λ (u : CheckedUnit). u.image) c.unit.ensures.unit) c.fill.ensures)
