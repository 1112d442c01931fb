-- What a block derives: its statements in turn.
use Rattle.std.proofs.Common.{◌≡◌, List, [], map, sym, ap, ◌∙◌}
use Rattle.c_tree.specs.declared.statements.Body.TheFolds.{fold-roll-Body}
use Rattle.c_tree.specs.declared.statements.Body.TheOpen as open_body
use Rattle.c_tree.specs.declared.statements.Body.TheVariants as body
use Rattle.c_tree.specs.declared.statements.Stmt.{Stmt}
use Rattle.checked_tree.specs.declared.statements.CheckedStmt.{CheckedStmt}
use Rattle.deputy_rules.specs.Checking.{Checking, in_turn}
use Rattle.deputy_rules.specs.Context.{Context}
use Rattle.deputy_rules.specs.Numbering.{Numbered}
use Rattle.deputy_rules.specs.Statements.{Home, body_level, statement_level, check_statement, check_body}

abbrev Bodies : Type 0
Bodies = Checking Numbered (List CheckedStmt)

abbrev Statements : Type 0
Statements = Checking Numbered CheckedStmt

pub at_block : (ctx : Context) (home : Home) (ss : List Stmt) (b : Numbered) → check_body ctx home (body.Block ss) b ≡ in_turn (map (check_statement ctx home) ss) [] b
unfolding check_statement check_body
at_block ctx home ss b =
    ap (λ (p : Bodies). p b) (ap (check_body ctx home) (sym (body.rolls-Block ss)) ∙ fold-roll-Body Bodies Statements (body_level ctx home) (statement_level ctx home) (open_body.Block ss))
