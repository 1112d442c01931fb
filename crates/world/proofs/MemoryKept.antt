-- A step changes bytes of its memory, and neither how many they are nor which ranges are granted.
-- Here: comes-kept
use Rattle.std.proofs.Common.{sym, refl, subst}
use Rattle.byte_memory.specs.Tested.{Memory}
use Rattle.checked_tree.specs.declared.units.CheckedUnit.{CheckedUnit}
use Rattle.checked_tree.specs.Step.{Activity, Went, step}
use Rattle.driver_machine.specs.declared.step_out.StepOut.{StepOut}
use Rattle.driver_machine.specs.declared.step_out.StepOut.TheVariants as out
use Rattle.driver_machine.specs.Tasks.{ComesTo}
use Rattle.driver_safety.specs.OutsideLaw.{IsThere, StaysOutside}
use Rattle.driver_safety.proofs.steps.StayingInside.{each_step_inside}
use Rattle.world.specs.Kept.{IsKept}

same : (m : Memory) → IsKept m m
same m = record { granted = refl; bytes = refl }

-- whatever a step comes to, its memory has as many bytes and the same ranges
pub comes-kept : (unit : CheckedUnit) (frames after : Activity) (m n : Memory) (answer : StepOut) → IsThere m
    → ComesTo (step unit frames m) frames m answer after n → IsKept m n
comes-kept unit frames after m n out.Went there h =
    let outside : StaysOutside m n = each_step_inside unit frames m (Went after n) there h in
    record { granted = outside.granted; bytes = outside.long }
comes-kept unit frames after m n (out.Wants call) there h = subst (IsKept m) (sym h.2) (same m)
comes-kept unit frames after m n (out.Ended value) there h = subst (IsKept m) (sym h.2) (same m)
comes-kept unit frames after m n (out.Failed at kind) there h = subst (IsKept m) (sym h.2) (same m)
comes-kept unit frames after m n (out.Wild at) there h = subst (IsKept m) (sym h.3) (same m)
