-- What stands in a block is what stands in its statements in turn.
use Rattle.std.proofs.Common.{◌≡◌, ℕ, List, [], ◌∷◌, map, refl, ap, sym, ◌∙◌}
use Rattle.c_tree.specs.declared.statements.Body.TheFolds.{fold-roll-Body}
use Rattle.c_tree.specs.declared.statements.Body.TheOpen as open_body
use Rattle.c_tree.specs.declared.statements.Body.TheVariants as body
use Rattle.c_tree.specs.declared.statements.Stmt.{Stmt}
use Rattle.deputy_types.specs.declared.found.Found.{Found}
use Rattle.deputy_types.specs.Found.{found_body, found_stmt, found_stmts, found_body_form, found_stmt_form, in_turn}

turns : (structs : List (List ℕ)) (ss : List Stmt) (f : Found) → in_turn (map (found_stmt structs) ss) f ≡ found_stmts structs ss f
turns structs [] f = refl
turns structs (s ∷ ss) f = turns structs ss (found_stmt structs s f)

pub block_found : (structs : List (List ℕ)) (ss : List Stmt) (f : Found) → found_body structs (body.Block ss) f ≡ found_stmts structs ss f
unfolding found_body found_stmt
block_found structs ss f =
    ap (λ (p : Found → Found). p f) (ap (found_body structs) (sym (body.rolls-Block ss))
    ∙ fold-roll-Body (Found → Found) (Found → Found) (found_body_form structs) (found_stmt_form structs) (open_body.Block ss))
    ∙ turns structs ss f
