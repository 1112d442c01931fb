-- The statements of a function by their numbers in text order, and those that are still to do.
use Rattle.std.specs.Prelude.{ℕ, suc, ◌+◌, Bool, true, false, List, [], ◌∷◌, ◌++◌, map}
use Rattle.checked_tree.specs.declared.statements.CheckedStmt.{CheckedStmt, out-CheckedStmt}
use Rattle.checked_tree.specs.declared.statements.CheckedStmt.TheOpen as S
use Rattle.checked_tree.specs.declared.statements.CheckedStmt.TheFolds.{fold-CheckedStmt}
use Rattle.checked_tree.specs.declared.units.CheckedFn.{CheckedFn}
use Rattle.checked_tree.specs.Step.{part_of}

abbrev pub total : List ℕ → ℕ
total [] = 0
total (n ∷ ns) = n + total ns

-- how many statements stand in a statement, itself among them
abbrev pub count_level : S.CheckedStmt-F ℕ → ℕ
count_level (S.If line test first second) = suc (total first + total second)
count_level (S.While line test body) = suc (total body)
count_level _ = 1

unfoldable pub count : CheckedStmt → ℕ
count st = fold-CheckedStmt ℕ count_level st

abbrev pub count_all : List CheckedStmt → ℕ
count_all ss = total (map count ss)

-- statements with their numbers
abbrev pub Todo : Type 0
Todo = List (ℕ × CheckedStmt)

-- statements one behind the other, from a number on
unfoldable pub numbered : ℕ → List CheckedStmt → Todo
numbered k [] = []
numbered k (st ∷ rest) = (k, st) ∷ numbered (k + count st) rest

-- the number of the first statement of the part that a test picks
abbrev pub first_picked : ℕ → S.CheckedStmt-F CheckedStmt → Bool → ℕ
first_picked k (S.If line test first second) false = suc k + count_all first
first_picked k _ holds = suc k

-- the statements behind such a part: behind its body a `while` stands again
abbrev pub behind_picked : ℕ → S.CheckedStmt-F CheckedStmt → Bool → CheckedStmt → Todo → Todo
behind_picked k (S.While line test body) true st rest = (k, st) ∷ rest
behind_picked k _ _ st rest = rest

-- what is to do after the test of a statement of this form came out so
abbrev pub picked_todo : ℕ → S.CheckedStmt-F CheckedStmt → Bool → CheckedStmt → Todo → Todo
picked_todo k y holds st rest = numbered (first_picked k y holds) (part_of y holds) ++ behind_picked k y holds st rest

-- what can be to do in a function, whatever its tests come out to
pub data IsTodo (f : CheckedFn) : Todo → Type 0 where
  begins : IsTodo f (numbered 0 f.body)
  goes : {k : ℕ} {st : CheckedStmt} {rest : Todo} → IsTodo f ((k, st) ∷ rest) → IsTodo f rest
  picks : {k : ℕ} {st : CheckedStmt} {rest : Todo} (holds : Bool) → IsTodo f ((k, st) ∷ rest) → IsTodo f (picked_todo k (out-CheckedStmt st) holds st rest)
