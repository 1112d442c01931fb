-- Short expressions: those that a driver text within its limits can hold.
use Rattle.std.specs.Prelude.{◌≡◌, ℕ, ◌≤◌, List, ◌++◌, length, fold, All}
use Rattle.c_tree.specs.declared.expressions.Expr.{Expr}
use Rattle.c_tree.specs.declared.words.Word.{Word}
use Rattle.c_tree.specs.Bytes.{Text}
use Rattle.c_tree.specs.Limits.{nesting_after}
use Rattle.c_tree.specs.Spelling.{spelled}
use Rattle.c_tree.specs.Words.{WordAt}

-- A word that can stand in a text.
abbrev pub IsWritten : Word → Type 0
IsWritten k = (i : ℕ) × (t : Text) × (v : Text) × WordAt i t v k

-- The brackets that are open behind these words.
abbrev pub open_behind : List Word → ℕ
open_behind ks = fold (λ n k. nesting_after n k) 0 ks

-- An expression is short where it has at most 1,000 words, its brackets nest to at most 64, and each of its words, its
-- numbers, characters and strings among them, can stand in a text.
pub record IsShortExpr (x : Expr) : Type 0 where
  pub words : length (spelled x) ≤ 1000
  pub nesting : (before after : List Word) → spelled x ≡ before ++ after → open_behind before ≤ 64
  pub written : All IsWritten (spelled x)
