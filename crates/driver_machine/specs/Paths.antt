-- Where a frame stands in its function's body: the parts that it entered, the outermost first, and a place in the list of the innermost. What it has still to do
-- is the rest of that list, and then what stands behind each part, from the innermost out.
use Rattle.std.specs.Prelude.{◌≡◌, ◌⊎◌, ℕ, ◌+◌, ◌≤◌, ◌<◌, Bool, false, List, [], ◌∷◌, ◌++◌, drop, length, Option, Some, None, slice_get, if◌then◌else◌}
use Rattle.checked_tree.specs.declared.statements.CheckedStmt.{CheckedStmt, out-CheckedStmt}
use Rattle.checked_tree.specs.declared.statements.CheckedStmt.TheOpen as S
use Rattle.checked_tree.specs.Step.{part_of, picked}
use Rattle.driver_machine.specs.declared.position.Place.{Place}

-- the part of a statement, if there is one
abbrev pub part_at : Option CheckedStmt → Bool → List CheckedStmt
part_at None holds = []
part_at (Some st) holds = part_of (out-CheckedStmt st) holds

-- the list that a path leads into
abbrev pub list_at : List CheckedStmt → List Place → List CheckedStmt
list_at list [] = list
list_at list (p ∷ ps) = list_at (part_at (slice_get list p.at) p.holds) ps

-- a statement stands again behind its part: a `while` behind its body
abbrev pub repeats : S.CheckedStmt-F CheckedStmt → Bool → Bool
repeats (S.While line test body) holds = holds
repeats _ holds = false

-- the place behind a part of the statement at a place
abbrev pub place_behind : Option CheckedStmt → Bool → ℕ → ℕ
place_behind None holds at = at + 1
place_behind (Some st) holds at = if repeats (out-CheckedStmt st) holds then at else at + 1

-- what is to do behind the parts of a path
abbrev pub after_at : List CheckedStmt → List Place → List CheckedStmt
after_at list [] = []
after_at list (p ∷ ps) = after_at (part_at (slice_get list p.at) p.holds) ps ++ drop (place_behind (slice_get list p.at) p.holds p.at) list

-- what is to do from a place on
unfoldable pub todo_at : List CheckedStmt → List Place → ℕ → List CheckedStmt
todo_at list ps at = drop at (list_at list ps) ++ after_at list ps

-- each part of a path has statements
abbrev pub IsPath : List CheckedStmt → List Place → Type 0
IsPath list [] = Unit {0}
IsPath list (p ∷ ps) = (0 < length (part_at (slice_get list p.at) p.holds)) × IsPath (part_at (slice_get list p.at) p.holds) ps

-- a statement stands at the place
abbrev pub Stands : List CheckedStmt → List Place → ℕ → Type 0
Stands list ps at = at < length (list_at list ps)

-- a statement stands at the place, or all is done
abbrev pub IsSettled : List CheckedStmt → List Place → ℕ → Type 0
IsSettled list ps at = Stands list ps at ⊎ ((ps ≡ []) × (length list ≤ at))

-- ---- where a frame stands
-- a frame that stands so has each part of its path entered, and stands at a statement or is done
abbrev pub IsReady : List CheckedStmt → List Place → ℕ → Type 0
IsReady body ps at = IsPath body ps × IsSettled body ps at

-- what is to do after the test of the first statement came out so
abbrev pub picked_from : List CheckedStmt → Bool → List CheckedStmt
picked_from [] holds = []
picked_from (st ∷ rest) holds = picked st holds rest
