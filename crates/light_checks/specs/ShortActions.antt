-- The expressions of a simple statement are short.
use Rattle.std.specs.Prelude.{All, Some, None}
use Rattle.c_tree.specs.declared.statements.Action.{Action}
use Rattle.c_tree.specs.declared.statements.Action.TheVariants as action
use Rattle.c_tree.specs.Short.{IsShortExpr}

abbrev pub HasShortParts : Action → Type 0
HasShortParts (action.Assign l e) = IsShortExpr l × IsShortExpr e
HasShortParts (action.Call x name es) = All IsShortExpr es
HasShortParts (action.Kalloc x t e) = IsShortExpr e
HasShortParts (action.Kfree e) = IsShortExpr e
HasShortParts (action.Zero l) = IsShortExpr l
HasShortParts (action.Return (Some e)) = IsShortExpr e
HasShortParts (action.Return None) = Unit {0}
HasShortParts action.Empty = Unit {0}
