-- How deep statements of a text stand in one another. A body that is one simple statement has no statement in it.
use Rattle.std.specs.Prelude.{ℕ, ◌+◌, max, List, [], ◌∷◌, Option, Some, None}
use Rattle.c_tree.specs.declared.statements.Body.{Body}
use Rattle.c_tree.specs.declared.statements.Body.TheOpen.{Body-F, Stmt-F}
use Rattle.c_tree.specs.declared.statements.Body.TheFolds.{fold-Body, fold-Stmt}
use Rattle.c_tree.specs.declared.statements.Stmt.{Stmt}

abbrev pub deepest : List ℕ → ℕ
deepest [] = 0
deepest (n ∷ ns) = max n (deepest ns)

abbrev pub body_nest_level : Body-F ℕ ℕ → ℕ
body_nest_level (Body-F.Block ss) = deepest ss
body_nest_level (Body-F.Single s) = 0

abbrev pub otherwise_nest : Option ℕ → ℕ
otherwise_nest None = 0
otherwise_nest (Some n) = n

abbrev pub stmt_nest_level : Stmt-F ℕ ℕ → ℕ
stmt_nest_level (Stmt-F.Simple s) = 0
stmt_nest_level (Stmt-F.If line e a b) = 1 + max a (otherwise_nest b)
stmt_nest_level (Stmt-F.While line e a) = 1 + a

unfoldable pub body_nest : Body → ℕ
body_nest b = fold-Body ℕ ℕ body_nest_level stmt_nest_level b

unfoldable pub stmt_nest : Stmt → ℕ
stmt_nest s = fold-Stmt ℕ ℕ body_nest_level stmt_nest_level s
