-- The words and the pieces of statements are those of their trees.
use Rattle.std.proofs.Common.{◌≡◌, ℕ, List, [], ◌∷◌, ◌++◌, flat_map, Some, refl, ap, sym, ◌∙◌, append_assoc, append-nil}
use Rattle.c_tree.specs.declared.expressions.Expr.{Expr}
use Rattle.c_tree.specs.declared.signs.Sign.TheVariants as sign
use Rattle.c_tree.specs.declared.statements.Action.{Action}
use Rattle.c_tree.specs.declared.statements.Body.{Body}
use Rattle.c_tree.specs.declared.statements.Simple.{Simple}
use Rattle.c_tree.specs.declared.statements.Stmt.{Stmt}
use Rattle.c_tree.specs.declared.words.Token.{Token}
use Rattle.c_tree.specs.declared.words.Word.TheVariants as word
use Rattle.c_tree.specs.ExpressionGrammar.{Closed, closed}
use Rattle.c_tree.specs.Reading.{Begins, enclosed, line_at}
use Rattle.c_tree.specs.Spelling.{spelled, a_sign, a_name, in_parentheses}
use Rattle.c_tree.specs.StatementGrammar.{ArgumentsAt, no_argument, arguments, MoreArgumentsAt, last_argument, argument, CallAt, call_at, TargetAt, target_at, Ends, ActionAt, assign, call, call_to, kalloc, kfree, zero, return_value, return_alone, empty, SimpleAt, simple, test_at, StmtAt, plain, if_alone, if_else, while, BodyAt, block, single, StmtsAt, no_statement, statements}
use Rattle.c_tree.specs.StatementSpelling.{more_arguments_words, arguments_words, target_words, action_words, body_words, statement_words, body_pieces, statement_pieces}
use Rattle.c_tree.proofs.StatementForms.{simple_words, if_words, else_words, while_words, block_words, single_words, simple_pieces, if_pieces, else_pieces, while_pieces, block_pieces, single_pieces}
use Rattle.c_decl.proofs.Walks.{no_words, word_there, Calm, calm_word, calm_both, calm_as, calm_row, calm_unary, calm_type, Piece, ended, led, whole, Walk, plain_walk, piece_walk, before, after, joined, walked_as}

-- ---- simple statements
-- arguments that stand behind a comma
comma_words : {w v : List Token} {xs : List Expr} → MoreArgumentsAt w v xs → more_arguments_words xs ≡ a_sign sign.Comma ++ arguments_words xs
comma_words (last_argument d) = refl
comma_words (argument d r) = refl

more_arguments_calm : {w v : List Token} {xs : List Expr} → MoreArgumentsAt w v xs → Calm w v (arguments_words xs ++ a_sign sign.ParenClose)
more_arguments_calm (last_argument {x = x} (closed d b)) = calm_as (ap (λ z. z ++ a_sign sign.ParenClose) (sym (append-nil (spelled x)))) (calm_both (calm_row d) (calm_word b refl))
more_arguments_calm (argument {x = x} {xs = xs} (closed d b) r) =
    calm_as (sym (append_assoc (spelled x) (a_sign sign.Comma ++ arguments_words xs) (a_sign sign.ParenClose)) ∙ ap (λ z. (spelled x ++ z) ++ a_sign sign.ParenClose) (sym (comma_words r)))
    (calm_both (calm_row d) (calm_both (calm_word b refl) (more_arguments_calm r)))

arguments_calm : {w v : List Token} {xs : List Expr} → ArgumentsAt w v xs → Calm w v (arguments_words xs ++ a_sign sign.ParenClose)
arguments_calm (no_argument b) = calm_word b refl
arguments_calm (arguments d) = more_arguments_calm d

target_calm : {w v : List Token} {n : List ℕ} → TargetAt w v n → Calm w v (target_words (Some n))
target_calm (target_at b c) = calm_both (calm_word b refl) (calm_word c refl)

call_piece : {w u r v : List Token} {f : List ℕ} {xs : List Expr} → CallAt w u f → ArgumentsAt u r xs → Ends r v → Piece w v (a_name f ++ (in_parentheses (arguments_words xs) ++ a_sign sign.Semicolon))
call_piece (call_at b c) d e = led (calm_word b refl) (led (calm_both (calm_word c refl) (arguments_calm d)) (ended e))

pub action_piece : {w v : List Token} {a : Action} → ActionAt w v a → Piece w v (action_words a)
action_piece (assign d b (closed e c)) = led (calm_unary d) (led (calm_word b refl) (led (calm_row e) (ended c)))
action_piece (call c d e) = call_piece c d e
action_piece (call_to t c d e) = led (target_calm t) (call_piece c d e)
action_piece (kalloc t b c d e (closed f g) h) =
    led (target_calm t) (led (calm_word b refl) (led (calm_both (calm_word c refl) (calm_both (calm_both (calm_type d) (calm_both (calm_word e refl) (calm_row f))) (calm_word g refl))) (ended h)))
action_piece (kfree b c (closed d e) f) = led (calm_word b refl) (led (calm_both (calm_word c refl) (calm_both (calm_row d) (calm_word e refl))) (ended f))
action_piece (zero b (enclosed c d e) f) = led (calm_word b refl) (led (calm_both (calm_word c refl) (calm_both (calm_unary d) (calm_word e refl))) (ended f))
action_piece (return_value b (closed d c)) = led (calm_word b refl) (led (calm_row d) (ended c))
action_piece (return_alone b c) = led (calm_word b refl) (ended c)
action_piece (empty b) = ended b

simple_walk : {w v : List Token} {s : Simple} → SimpleAt w v s → Walk w v (action_words s.action) (action_words s.action ∷ [])
simple_walk (simple d) = piece_walk (action_piece d)

-- ---- statements and bodies
test_walk : {u o v : List Token} {x : Expr} → Begins u (word.Sign sign.ParenOpen) o → Closed sign.ParenClose o v x → Walk u v (in_parentheses (spelled x)) (spelled x ∷ [])
test_walk b (closed d c) = before (word_there b) (after (piece_walk (whole (calm_row d))) (word_there c))

mutual
  pub statement_walk : {w v : List Token} {s : Stmt} → StmtAt w v s → Walk w v (statement_words s) (statement_pieces s)
  statement_walk (plain {s = s} d) = walked_as (sym (simple_words s)) (sym (simple_pieces s)) (simple_walk d)
  statement_walk (if_alone {w = w} {x = x} {y = y} (test_at b c d) e) =
      walked_as (sym (if_words (line_at w) x y)) (sym (if_pieces (line_at w) x y)) (before (word_there b) (joined (test_walk c d) (joined (body_walk e) (plain_walk no_words))))
  statement_walk (if_else {w = w} {x = x} {y = y} {z = z} (test_at b c d) e f g) =
      walked_as (sym (else_words (line_at w) x y z)) (sym (else_pieces (line_at w) x y z)) (before (word_there b) (joined (test_walk c d) (joined (body_walk e) (before (word_there f) (body_walk g)))))
  statement_walk (while {w = w} {x = x} {y = y} (test_at b c d) e) =
      walked_as (sym (while_words (line_at w) x y)) (sym (while_pieces (line_at w) x y)) (before (word_there b) (joined (test_walk c d) (body_walk e)))

  pub body_walk : {w v : List Token} {b : Body} → BodyAt w v b → Walk w v (body_words b) (body_pieces b)
  body_walk (block {ss = ss} b d c) = walked_as (sym (block_words ss)) (sym (block_pieces ss)) (before (word_there b) (after (statements_walk d) (word_there c)))
  body_walk (single {s = s} d) = walked_as (sym (single_words s)) (sym (single_pieces s)) (simple_walk d)

  pub statements_walk : {w v : List Token} {ss : List Stmt} → StmtsAt w v ss → Walk w v (flat_map statement_words ss) (flat_map statement_pieces ss)
  statements_walk no_statement = plain_walk no_words
  statements_walk (statements d e) = joined (statement_walk d) (statements_walk e)
