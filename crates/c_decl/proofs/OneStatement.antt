-- At most one statement stands at a place where no `else` follows it, and at most one body.
use Rattle.std.proofs.Common.{◌≡◌, List, ◌∷◌, Some, None, IsTrue, true, false, refl, sym, ap, ◌∙◌, subst}
use Rattle.c_tree.specs.declared.expressions.Expr.{Expr}
use Rattle.c_tree.specs.declared.keywords.Keyword.{Keyword}
use Rattle.c_tree.specs.declared.keywords.Keyword.TheVariants as keyword
use Rattle.c_tree.specs.declared.signs.Sign.TheVariants as sign
use Rattle.c_tree.specs.declared.statements.Action.{Action}
use Rattle.c_tree.specs.declared.statements.Body.{Body}
use Rattle.c_tree.specs.declared.statements.Body.TheVariants as body
use Rattle.c_tree.specs.declared.statements.Simple.{Simple}
use Rattle.c_tree.specs.declared.statements.Stmt.{Stmt}
use Rattle.c_tree.specs.declared.statements.Stmt.TheVariants as statement
use Rattle.c_tree.specs.declared.words.Token.{Token}
use Rattle.c_tree.specs.declared.words.Word.{Word}
use Rattle.c_tree.specs.declared.words.Word.TheVariants as word
use Rattle.c_tree.specs.ExpressionGrammar.{Closed}
use Rattle.c_tree.specs.Reading.{Begins, line_at}
use Rattle.c_tree.specs.StatementGrammar.{call_at, target_at, ActionAt, assign, call, call_to, kalloc, kfree, zero, return_value, return_alone, empty, SimpleAt, simple, TestAt, test_at, StmtAt, plain, if_alone, if_else, while, BodyAt, block, single, StmtsAt, no_statement, statements}
use Rattle.c_expr.specs.Classes.{At, is_expression}
use Rattle.c_expr.specs.Looking.{Lacks}
use Rattle.c_expr.proofs.Begins.{in_class}
use Rattle.c_expr.proofs.Classes.{at_weaker}
use Rattle.c_expr.proofs.Firsts.{unary_first}
use Rattle.c_decl.specs.Classes.{is_action, is_statement}
use Rattle.c_decl.proofs.Only.{Only, closed_only}
use Rattle.c_decl.proofs.OneAction.{simple_only}

-- ---- the words that simple statements begin with
expression_in : (k : Word) → IsTrue (is_expression k) → IsTrue (is_action k)
expression_in (word.Keyword keyword.Sizeof) g = refl
expression_in (word.Keyword k) g = cc
expression_in (word.Sign sign.Semicolon) g = cc
expression_in _ g = g

pub action_first : (w v : List Token) (a : Action) → ActionAt w v a → At is_action w
action_first w v a (assign {u = u} {x = x} d c e) = at_weaker is_expression is_action expression_in w (unary_first w u x d)
action_first w v a (call (call_at b c) d e) = rw b refl
action_first w v a (call_to (target_at b c) f d e) = rw b refl
action_first w v a (kalloc (target_at b c) d e f g h i) = rw b refl
action_first w v a (kfree b c d e) = rw b refl
action_first w v a (zero b d e) = rw b refl
action_first w v a (return_value b d) = rw b refl
action_first w v a (return_alone b d) = rw b refl
action_first w v a (empty b) = rw b refl

pub simple_first : (w v : List Token) (s : Simple) → SimpleAt w v s → At is_action w
simple_first w v s (simple {a = a} d) = action_first w v a d

-- no simple statement begins with a word of another class
pub simple_lacks : (w v : List Token) (s : Simple) (k : Word) → SimpleAt w v s → is_action k ≡ false → Lacks w k
simple_lacks w v s k d e u b = let clash : is_action k ≡ true = in_class is_action w b (simple_first w v s d) in cc

-- ---- the words that statements begin with
simple_in : (k : Word) → IsTrue (is_action k) → IsTrue (is_statement k)
simple_in (word.Keyword keyword.If) g = refl
simple_in (word.Keyword keyword.While) g = refl
simple_in _ g = g

pub statement_first : (w v : List Token) (s : Stmt) → StmtAt w v s → At is_statement w
statement_first w v s (plain {s = t} d) = at_weaker is_action is_statement simple_in w (simple_first w v t d)
statement_first w v s (if_alone (test_at b c d) e) = rw b refl
statement_first w v s (if_else (test_at b c d) e f g) = rw b refl
statement_first w v s (while (test_at b c d) e) = rw b refl

pub statement_lacks : (w v : List Token) (s : Stmt) (k : Word) → StmtAt w v s → is_statement k ≡ false → Lacks w k
statement_lacks w v s k d e u b = let clash : is_statement k ≡ true = in_class is_statement w b (statement_first w v s d) in cc

-- ---- tests
-- two tests begin with one word
tests_apart : (k j : Word) (w v v' : List Token) (x x' : Expr) → TestAt k w v x → TestAt j w v' x' → k ≡ j
tests_apart k j w v v' x x' (test_at b c d) (test_at e f g) = cc

-- no simple statement begins with a test
simple_test : (k : Keyword) (w v v' : List Token) (s : Simple) (x : Expr) → Lacks w (word.Keyword k) → TestAt (word.Keyword k) w v' x → ⊥
simple_test k w v v' s x none (test_at {u = u} b c d) = none u b

pub test_only : (k : Word) (w : List Token) → Only (TestAt k) w
test_only k w v v' x x' (test_at {o = o} b c d) (test_at {o = o'} b' c' d') =
    let here : o' ≡ o = cc in closed_only sign.ParenClose refl o v v' x x' d (subst (λ q. Closed sign.ParenClose q v' x') here d')

-- statements before `}` do not begin with `else`
pub statements_no_else : (w v u : List Token) (ss : List Stmt) → StmtsAt w v ss → Begins v (word.Sign sign.BraceClose) u → Lacks w (word.Keyword keyword.Else)
statements_no_else w v u ss no_statement c = λ o b. cc
statements_no_else w v u ss (statements {u = r} {t = t} d e) c = statement_lacks w r t (word.Keyword keyword.Else) d refl

-- ---- at most one
mutual
  pub statement_only : {w v v' : List Token} {s s' : Stmt} → StmtAt w v s → StmtAt w v' s' → Lacks v (word.Keyword keyword.Else) → Lacks v' (word.Keyword keyword.Else) → (s ≡ s') × (v ≡ v')
  statement_only {w} {v} {v'} (plain {s = s} d) (plain {s = s'} e) n m = let same = simple_only w v v' s s' d e in (ap (λ q. statement.Simple q) same.0, same.1)
  statement_only {w} {v} {v'} (plain {s = s} d) (if_alone {u = u} {x = x} t e) n m = absurd (simple_test keyword.If w v u s x (simple_lacks w v s (word.Keyword keyword.If) d refl) t)
  statement_only {w} {v} {v'} (plain {s = s} d) (if_else {u = u} {x = x} t e f g) n m = absurd (simple_test keyword.If w v u s x (simple_lacks w v s (word.Keyword keyword.If) d refl) t)
  statement_only {w} {v} {v'} (plain {s = s} d) (while {u = u} {x = x} t e) n m = absurd (simple_test keyword.While w v u s x (simple_lacks w v s (word.Keyword keyword.While) d refl) t)
  statement_only {w} {v} {v'} (if_alone {u = u} {x = x} t d) (plain {s = s} e) n m = absurd (simple_test keyword.If w v' u s x (simple_lacks w v' s (word.Keyword keyword.If) e refl) t)
  statement_only {w} {v} {v'} (if_alone {u = u} {x = x} {y = y} t d) (if_alone {u = u'} {x = x'} {y = y'} t' e) n m =
      let test = test_only (word.Keyword keyword.If) w u u' x x' t t' in
      let inside = body_only d (subst (λ q. BodyAt q v' y') (sym test.1) e) in
      (ap (λ z. statement.If (line_at w) z y None) test.0 ∙ ap (λ z. statement.If (line_at w) x' z None) inside.0, inside.1)
  statement_only {w} {v} {v'} (if_alone {u = u} {x = x} {y = y} t d) (if_else {u = u'} {r = r} {k = k} {x = x'} {y = y'} t' e f g) n m =
      let test = test_only (word.Keyword keyword.If) w u u' x x' t t' in
      let inside = body_only d (subst (λ q. BodyAt q r y') (sym test.1) e) in
      absurd (n k (subst (λ q. Begins q (word.Keyword keyword.Else) k) (sym inside.1) f))
  statement_only {w} {v} {v'} (if_alone {u = u} {x = x} t d) (while {u = u'} {x = x'} t' e) n m = let clash = tests_apart (word.Keyword keyword.If) (word.Keyword keyword.While) w u u' x x' t t' in cc
  statement_only {w} {v} {v'} (if_else {u = u} {x = x} t d f g) (plain {s = s} e) n m = absurd (simple_test keyword.If w v' u s x (simple_lacks w v' s (word.Keyword keyword.If) e refl) t)
  statement_only {w} {v} {v'} (if_else {u = u} {r = r} {k = k} {x = x} {y = y} t d f g) (if_alone {u = u'} {x = x'} {y = y'} t' e) n m =
      let test = test_only (word.Keyword keyword.If) w u u' x x' t t' in
      let inside = body_only d (subst (λ q. BodyAt q v' y') (sym test.1) e) in
      absurd (m k (subst (λ q. Begins q (word.Keyword keyword.Else) k) inside.1 f))
  statement_only {w} {v} {v'} (if_else {u = u} {r = r} {k = k} {x = x} {y = y} {z = z} t d f g) (if_else {u = u'} {r = r'} {k = k'} {x = x'} {y = y'} {z = z'} t' d' f' g') n m =
      let test = test_only (word.Keyword keyword.If) w u u' x x' t t' in
      let inside = body_only d (subst (λ q. BodyAt q r' y') (sym test.1) d') in
      let middle : r ≡ r' = inside.1 in
      let here : k' ≡ k = cc in
      let other = body_only g (subst (λ q. BodyAt q v' z') here g') in
      (ap (λ q. statement.If (line_at w) q y (Some z)) test.0 ∙ ap (λ q. statement.If (line_at w) x' q (Some z)) inside.0 ∙ ap (λ q. statement.If (line_at w) x' y' (Some q)) other.0, other.1)
  statement_only {w} {v} {v'} (if_else {u = u} {x = x} t d f g) (while {u = u'} {x = x'} t' e) n m = let clash = tests_apart (word.Keyword keyword.If) (word.Keyword keyword.While) w u u' x x' t t' in cc
  statement_only {w} {v} {v'} (while {u = u} {x = x} t d) (plain {s = s} e) n m = absurd (simple_test keyword.While w v' u s x (simple_lacks w v' s (word.Keyword keyword.While) e refl) t)
  statement_only {w} {v} {v'} (while {u = u} {x = x} t d) (if_alone {u = u'} {x = x'} t' e) n m = let clash = tests_apart (word.Keyword keyword.While) (word.Keyword keyword.If) w u u' x x' t t' in cc
  statement_only {w} {v} {v'} (while {u = u} {x = x} t d) (if_else {u = u'} {x = x'} t' e f g) n m = let clash = tests_apart (word.Keyword keyword.While) (word.Keyword keyword.If) w u u' x x' t t' in cc
  statement_only {w} {v} {v'} (while {u = u} {x = x} {y = y} t d) (while {u = u'} {x = x'} {y = y'} t' e) n m =
      let test = test_only (word.Keyword keyword.While) w u u' x x' t t' in
      let inside = body_only d (subst (λ q. BodyAt q v' y') (sym test.1) e) in
      (ap (λ z. statement.While (line_at w) z y) test.0 ∙ ap (λ z. statement.While (line_at w) x' z) inside.0, inside.1)

  pub body_only : {w v v' : List Token} {y y' : Body} → BodyAt w v y → BodyAt w v' y' → (y ≡ y') × (v ≡ v')
  body_only {w} {v} {v'} (block {u = u} {r = r} {ss = ss} b d c) (block {u = u'} {r = r'} {ss = ss'} b' d' c') =
      let here : u' ≡ u = cc in
      let inside = statements_only d (subst (λ q. StmtsAt q r' ss') here d') c c' in
      let there : r ≡ r' = inside.1 in
      (ap (λ q. body.Block q) inside.0, cc)
  body_only {w} {v} {v'} (block {u = u} b d c) (single {s = s} e) = absurd (simple_lacks w v' s (word.Sign sign.BraceOpen) e refl u b)
  body_only {w} {v} {v'} (single {s = s} e) (block {u = u} b d c) = absurd (simple_lacks w v s (word.Sign sign.BraceOpen) e refl u b)
  body_only {w} {v} {v'} (single {s = s} d) (single {s = s'} e) = let same = simple_only w v v' s s' d e in (ap (λ q. body.Single q) same.0, same.1)

  pub statements_only : {w v v' u u' : List Token} {ss ss' : List Stmt} → StmtsAt w v ss → StmtsAt w v' ss' → Begins v (word.Sign sign.BraceClose) u → Begins v' (word.Sign sign.BraceClose) u' → (ss ≡ ss') × (v ≡ v')
  statements_only no_statement no_statement c c' = (refl, refl)
  statements_only no_statement (statements {w = w} {u = r} {t = t} d e) c c' = absurd (statement_lacks w r t (word.Sign sign.BraceClose) d refl _ c)
  statements_only (statements {w = w} {u = r} {t = t} d e) no_statement c c' = absurd (statement_lacks w r t (word.Sign sign.BraceClose) d refl _ c')
  statements_only {u = q} {u' = q'} (statements {w = w} {u = r} {v = v} {t = t} {ss = ss} d e) (statements {u = r'} {v = v'} {t = t'} {ss = ss'} d' e') c c' =
      let first = statement_only d d' (statements_no_else r v q ss e c) (statements_no_else r' v' q' ss' e' c') in
      let rest = statements_only e (subst (λ z. StmtsAt z v' ss') (sym first.1) e') c c' in
      (ap (λ z. z ∷ ss) first.0 ∙ ap (λ z. t' ∷ z) rest.0, rest.1)
