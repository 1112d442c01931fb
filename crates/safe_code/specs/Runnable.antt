-- What a machine counts on in a checked function: its statements stand at most 64 deep in one another, each call has at most 128
-- arguments, and it has at most 128 slots.
use Rattle.std.specs.Prelude.{ℕ, ◌+◌, ◌≤◌, max, nat_le, Bool, true, ◌&&◌, IsTrue, List, [], ◌∷◌, map, length}
use Rattle.checked_tree.specs.declared.statements.CheckedStmt.{CheckedStmt}
use Rattle.checked_tree.specs.declared.statements.CheckedStmt.TheOpen as S
use Rattle.checked_tree.specs.declared.statements.CheckedStmt.TheFolds.{fold-CheckedStmt}
use Rattle.checked_tree.specs.declared.units.CheckedFn.{CheckedFn}
use Rattle.safe_code.specs.SourceNesting.{deepest}

-- ---- how deep statements stand in one another
abbrev pub nest_level : S.CheckedStmt-F ℕ → ℕ
nest_level (S.If line test first second) = 1 + max (deepest first) (deepest second)
nest_level (S.While line test body) = 1 + deepest body
nest_level _ = 0

unfoldable pub nest : CheckedStmt → ℕ
nest st = fold-CheckedStmt ℕ nest_level st

abbrev pub depth : List CheckedStmt → ℕ
depth list = deepest (map nest list)

-- ---- statements whose calls have room for their arguments
abbrev pub all_true : List Bool → Bool
all_true [] = true
all_true (b ∷ bs) = b && all_true bs

abbrev pub roomy_level : S.CheckedStmt-F Bool → Bool
roomy_level (S.Call line target function values checks) = nat_le (length values) 128
roomy_level (S.Kernel line target name values pointer function elem size) = nat_le (length values) 128
roomy_level (S.If line test first second) = all_true first && all_true second
roomy_level (S.While line test body) = all_true body
roomy_level _ = true

unfoldable pub is_roomy : CheckedStmt → Bool
is_roomy st = fold-CheckedStmt Bool roomy_level st

abbrev pub are_roomy : List CheckedStmt → Bool
are_roomy list = all_true (map is_roomy list)

-- a function that a machine can run
pub record IsRunnable (f : CheckedFn) : Type 0 where
  pub nesting : depth f.body ≤ 64
  pub room : IsTrue (are_roomy f.body)
  pub slots : length f.slots ≤ 128
