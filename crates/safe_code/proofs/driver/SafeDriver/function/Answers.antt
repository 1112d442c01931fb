use Rattle.std.proofs.Common.{rules, ◌≡◌, Some, arith}
use Rattle.safe_code.specs.Lookup.{place_of}
use Rattle.safe_code.proofs.FewFunctions.{few_functions, place_within}
use Rattle.safe_code.proofs.driver.SafeDriver.function.Goals as goal

pub overflow_cast-result : goal.overflow_cast-result
overflow_cast-result c =
    let found : Some c.in-Some.place ≡ place_of c.self.inside.unit.functions c.args.name.now = search rules in
    let within = place_within c.self.inside.unit.functions c.args.name.now c.in-Some.place found in
    let few = few_functions c.self.invariant.table c.self.invariant.text c.self.inside.unit c.self.invariant.types c.self.invariant.derived
    in
    omega (arith, within, few)
