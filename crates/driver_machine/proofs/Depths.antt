-- A path is no longer than statements stand in one another.
use Rattle.std.proofs.Common.{◌≡◌, ℕ, zero, suc, ◌+◌, ◌≤◌, ◌<◌, Bool, true, false, List, [], ◌∷◌, length, Option, Some, None, slice_get, refl, sym, subst, arith}
use Rattle.checked_tree.specs.declared.statements.CheckedStmt.{CheckedStmt, out-CheckedStmt, map-CheckedStmt}
use Rattle.checked_tree.specs.declared.statements.CheckedStmt.TheOpen as S
use Rattle.checked_tree.specs.declared.statements.CheckedStmt.TheFolds.{fold_out-CheckedStmt}
use Rattle.checked_tree.specs.Step.{part_of}
use Rattle.driver_machine.specs.declared.position.Place.{Place}
use Rattle.driver_machine.specs.Paths.{part_at, list_at, IsPath}
use Rattle.safe_code.specs.Runnable.{nest_level, nest, depth}

-- a part with statements lies one deeper than its statement
part_deeper : (y : S.CheckedStmt-F CheckedStmt) (holds : Bool) → 0 < length (part_of y holds) → depth (part_of y holds) + 1 ≤ nest_level (map-CheckedStmt CheckedStmt ℕ nest y)
part_deeper (S.Empty line) holds h = absurd (omega arith)
part_deeper (S.Assign line slot scalar value checks) holds h = absurd (omega arith)
part_deeper (S.AssignAutomatic line slot hidden value checks) holds h = absurd (omega arith)
part_deeper (S.Store line scalar place value checks) holds h = absurd (omega arith)
part_deeper (S.Zero line place size) holds h = absurd (omega arith)
part_deeper (S.Call line target function values checks) holds h = absurd (omega arith)
part_deeper (S.Kernel line target name values pointer function elem size) holds h = absurd (omega arith)
part_deeper (S.Return line value checks) holds h = absurd (omega arith)
part_deeper (S.If line test first second) true h = omega arith
part_deeper (S.If line test first second) false h = omega arith
part_deeper (S.While line test body) true h = omega arith
part_deeper (S.While line test body) false h = absurd (omega arith)

nest_deeper : (st : CheckedStmt) (holds : Bool) → 0 < length (part_of (out-CheckedStmt st) holds) → depth (part_of (out-CheckedStmt st) holds) + 1 ≤ nest st
unfolding nest
nest_deeper st holds h =
    let level = fold_out-CheckedStmt ℕ nest_level st in
    let deeper = part_deeper (out-CheckedStmt st) holds h in
    subst (λ (n : ℕ). depth (part_of (out-CheckedStmt st) holds) + 1 ≤ n) (sym level) deeper

nest_within : (list : List CheckedStmt) (k : ℕ) (st : CheckedStmt) → slice_get list k ≡ Some st → nest st ≤ depth list
nest_within [] k st h = absurd cc
nest_within (x ∷ list) zero st h = let e : x ≡ st = cc in subst (λ (y : CheckedStmt). nest y ≤ depth (x ∷ list)) e (omega arith)
nest_within (x ∷ list) (suc k) st h = let r = nest_within list k st h in omega (arith, r)

-- the part at a place of a list
pub part_depth : (list : List CheckedStmt) (at : ℕ) (holds : Bool) → 0 < length (part_at (slice_get list at) holds) → depth (part_at (slice_get list at) holds) + 1 ≤ depth list
part_depth list at holds h = by (slice_get list at) refl h
  where
    by : (o : Option CheckedStmt) → slice_get list at ≡ o → 0 < length (part_at o holds) → depth (part_at o holds) + 1 ≤ depth list
    by None e h = absurd (omega arith)
    by (Some st) e h = let a = nest_deeper st holds h in let b = nest_within list at st e in omega (arith, a, b)

pub path_depth : (list : List CheckedStmt) (ps : List Place) → IsPath list ps → length ps + depth (list_at list ps) ≤ depth list
path_depth list [] h = omega arith
path_depth list (p ∷ ps) h =
    let one = part_depth list p.at p.holds h.0 in
    let rest = path_depth (part_at (slice_get list p.at) p.holds) ps h.1 in
    omega (arith, one, rest)

-- one more part has room
pub has_room_for : (body : List CheckedStmt) (ps : List Place) (at : ℕ) (holds : Bool) → depth body ≤ 64 → IsPath body ps
    → 0 < length (part_at (slice_get (list_at body ps) at) holds) → length ps < 64
has_room_for body ps at holds few path h =
    let a = path_depth body ps path in
    let b = part_depth (list_at body ps) at holds h in
    omega (arith, a, b, few)
