-- Each statement of a body whose calls have room has room.
use Rattle.std.proofs.Common.{◌≡◌, ℕ, zero, suc, Bool, true, false, List, [], ◌∷◌, map, Option, Some, None, slice_get, refl, sym, ap, ◌∙◌, subst}
use Rattle.std.proofs.lemmas.Bool.{and_parts}
use Rattle.checked_tree.specs.declared.statements.CheckedStmt.{CheckedStmt, out-CheckedStmt, map-CheckedStmt}
use Rattle.checked_tree.specs.declared.statements.CheckedStmt.TheOpen as S
use Rattle.checked_tree.specs.declared.statements.CheckedStmt.TheFolds.{fold_out-CheckedStmt}
use Rattle.checked_tree.specs.Step.{part_of}
use Rattle.driver_machine.specs.declared.position.Place.{Place}
use Rattle.driver_machine.specs.Acts.{has_room}
use Rattle.safe_code.specs.Runnable.{all_true, roomy_level, is_roomy, are_roomy}
use Rattle.driver_machine.specs.Paths.{part_at, list_at, todo_at, IsSettled}
use Rattle.driver_machine.proofs.Turns.{first_stands}

level_is : (st : CheckedStmt) → is_roomy st ≡ true → roomy_level (map-CheckedStmt CheckedStmt Bool is_roomy (out-CheckedStmt st)) ≡ true
unfolding is_roomy
level_is st h = sym (fold_out-CheckedStmt Bool roomy_level st) ∙ h

level_room : (y : S.CheckedStmt-F CheckedStmt) → roomy_level (map-CheckedStmt CheckedStmt Bool is_roomy y) ≡ true → has_room y ≡ true
level_room (S.Empty line) h = refl
level_room (S.Assign line slot scalar value checks) h = refl
level_room (S.AssignAutomatic line slot hidden value checks) h = refl
level_room (S.Store line scalar place value checks) h = refl
level_room (S.Zero line place size) h = refl
level_room (S.Call line target function values checks) h = h
level_room (S.Kernel line target name values pointer function elem size) h = h
level_room (S.Return line value checks) h = refl
level_room (S.If line test first second) h = refl
level_room (S.While line test body) h = refl

level_parts : (y : S.CheckedStmt-F CheckedStmt) (holds : Bool) → roomy_level (map-CheckedStmt CheckedStmt Bool is_roomy y) ≡ true → are_roomy (part_of y holds) ≡ true
level_parts (S.Empty line) holds h = refl
level_parts (S.Assign line slot scalar value checks) holds h = refl
level_parts (S.AssignAutomatic line slot hidden value checks) holds h = refl
level_parts (S.Store line scalar place value checks) holds h = refl
level_parts (S.Zero line place size) holds h = refl
level_parts (S.Call line target function values checks) holds h = refl
level_parts (S.Kernel line target name values pointer function elem size) holds h = refl
level_parts (S.Return line value checks) holds h = refl
level_parts (S.If line test first second) true h = (and_parts (all_true (map is_roomy first)) (all_true (map is_roomy second)) h).0
level_parts (S.If line test first second) false h = (and_parts (all_true (map is_roomy first)) (all_true (map is_roomy second)) h).1
level_parts (S.While line test body) true h = h
level_parts (S.While line test body) false h = refl

member_roomy : (list : List CheckedStmt) (k : ℕ) (st : CheckedStmt) → are_roomy list ≡ true → slice_get list k ≡ Some st → is_roomy st ≡ true
member_roomy [] k st h e = absurd cc
member_roomy (x ∷ list) zero st h e = let same : x ≡ st = cc in subst (λ (y : CheckedStmt). is_roomy y ≡ true) same (and_parts (is_roomy x) (are_roomy list) h).0
member_roomy (x ∷ list) (suc k) st h e = member_roomy list k st (and_parts (is_roomy x) (are_roomy list) h).1 e

part_roomy : (list : List CheckedStmt) (p : Place) → are_roomy list ≡ true → are_roomy (part_at (slice_get list p.at) p.holds) ≡ true
part_roomy list p h = by (slice_get list p.at) refl
  where
    by : (o : Option CheckedStmt) → slice_get list p.at ≡ o → are_roomy (part_at o p.holds) ≡ true
    by None e = refl
    by (Some st) e = level_parts (out-CheckedStmt st) p.holds (level_is st (member_roomy list p.at st h e))

path_roomy : (list : List CheckedStmt) (ps : List Place) → are_roomy list ≡ true → are_roomy (list_at list ps) ≡ true
path_roomy list [] h = h
path_roomy list (p ∷ ps) h = path_roomy (part_at (slice_get list p.at) p.holds) ps (part_roomy list p h)

-- the statement at a place has room
pub statement_roomy : (body : List CheckedStmt) (ps : List Place) (at : ℕ) (st : CheckedStmt) → are_roomy body ≡ true → slice_get (list_at body ps) at ≡ Some st → has_room (out-CheckedStmt st) ≡ true
statement_roomy body ps at st h e = level_room (out-CheckedStmt st) (level_is st (member_roomy (list_at body ps) at st (path_roomy body ps h) e))

-- the first statement that is to do has room
pub first_roomy : (whole body : List CheckedStmt) (ps : List Place) (at : ℕ) (st : CheckedStmt) → body ≡ whole → IsSettled whole ps at → are_roomy whole ≡ true
    → Some st ≡ slice_get (todo_at body ps at) 0 → has_room (out-CheckedStmt st) ≡ true
first_roomy whole body ps at st same settled h e =
    statement_roomy whole ps at st h (first_stands whole ps at settled ∙ sym (e ∙ ap (λ (l : List CheckedStmt). slice_get (todo_at l ps at) 0) same))
