-- The longest statement, body and list of statements, one lemma for each way in which a reader ends.
use Rattle.std.proofs.Common.{◌≡◌, ℕ, ◌<◌, ◌≤◌, List, [], ◌∷◌, length, IsTrue, Option, None, Some, refl, ap, ◌∙◌, subst, inl, inr}
use Rattle.c_tree.specs.declared.expressions.Expr.{Expr}
use Rattle.c_tree.specs.declared.keywords.Keyword.TheVariants as keyword
use Rattle.c_tree.specs.declared.signs.Sign.TheVariants as sign
use Rattle.c_tree.specs.declared.statements.Body.{Body}
use Rattle.c_tree.specs.declared.statements.Body.TheVariants as body
use Rattle.c_tree.specs.declared.statements.Simple.{Simple}
use Rattle.c_tree.specs.declared.statements.Stmt.{Stmt}
use Rattle.c_tree.specs.declared.statements.Stmt.TheVariants as statement
use Rattle.c_tree.specs.declared.words.Token.{Token}
use Rattle.c_tree.specs.declared.words.Word.{Word}
use Rattle.c_tree.specs.declared.words.Word.TheVariants as word
use Rattle.c_tree.specs.Reading.{Begins, Best, Within, Never, Each, each_end, each_more, line_at}
use Rattle.c_tree.specs.StatementGrammar.{SimpleAt, test_at, StmtAt, plain, if_alone, if_else, while, BodyAt, block, single, StmtsAt, no_statement, statements}
use Rattle.c_expr.specs.Classes.{At}
use Rattle.c_expr.specs.Looking.{Lacks}
use Rattle.c_expr.proofs.Begins.{in_class}
use Rattle.c_expr.proofs.Chains.{best_none, best_weaker, each_none, each_on}
use Rattle.c_expr.proofs.Classes.{at_weaker, at_apart}
use Rattle.c_decl.specs.Classes.{is_else, is_statement, is_in_statements}
use Rattle.c_decl.specs.Parts.{TestAfter, ElseAt, no_else, other, IfAfter, if_after, WhileAfter}
use Rattle.c_decl.specs.Sequences.{Then, then, before, Ended, ended, Given, given}
use Rattle.c_decl.proofs.OneStatement.{simple_lacks, statement_first}
use Rattle.c_decl.proofs.Sequences.{then_none, then_is, then_once, ended_lacks, ended_is, end_apart, mapped, best_same}

-- ---- 'else' and its body
no_other : (w : List Token) → Lacks w (word.Keyword keyword.Else) → (v : List Token) (x : Option Body) → ElseAt w v x → Within {X = Option Body} (At is_else) v x (None, w)
no_other w lacks v x no_else = inl (refl, refl)
no_other w lacks v x (other b d) = absurd (lacks _ b)

pub else_none : (w : List Token) → Lacks w (word.Keyword keyword.Else) → Best {X = Option Body} (ElseAt w) (At is_else) (Some (None, w))
else_none w lacks = record { sound = no_else; covers = no_other w lacks }

no_body : (w u : List Token) → Begins w (word.Keyword keyword.Else) u → Best (BodyAt u) Never None → (v : List Token) (x : Option Body) → ElseAt w v x
    → Within {X = Option Body} (At is_else) v x (None, w)
no_body w u b best v x no_else = inl (refl, refl)
no_body w u b best v x (other {u = q} {y = y} c d) = let same : q ≡ u = cc in absurd (best.covers v y (subst (λ p. BodyAt p v y) same d))

pub else_stuck : (w u : List Token) → Begins w (word.Keyword keyword.Else) u → Best (BodyAt u) Never None → Best {X = Option Body} (ElseAt w) (At is_else) (Some (None, w))
else_stuck w u b best = record { sound = no_else; covers = no_body w u b best }

other_covers : (w u r : List Token) (y : Body) → Begins w (word.Keyword keyword.Else) u → length r < length w → Best (BodyAt u) Never (Some (y, r)) → (v : List Token) (x : Option Body) → ElseAt w v x
    → Within {X = Option Body} (At is_else) v x (Some y, r)
other_covers w u r y b shorter best v x no_else = inr (shorter, rw b refl)
other_covers w u r y b shorter best v x (other {u = q} {y = z} c d) = let same : q ≡ u = cc in by (best.covers v z (subst (λ p. BodyAt p v z) same d))
  where
    by : Within Never v z (y, r) → Within {X = Option Body} (At is_else) v (Some z) (Some y, r)
    by (inl e) = inl (ap (λ k. Some k) e.0, e.1)
    by (inr p) = absurd p.1

pub else_some : (w u r : List Token) (y : Body) → Begins w (word.Keyword keyword.Else) u → length r < length w → Best (BodyAt u) Never (Some (y, r))
    → Best {X = Option Body} (ElseAt w) (At is_else) (Some (Some y, r))
else_some w u r y b shorter best = record { sound = other b best.sound; covers = other_covers w u r y b shorter best }

-- ---- what stands after 'if'
abbrev Choice : ℕ → List Token → List Token → Stmt → Type 0
Choice line = Then TestAfter (λ x. Then BodyAt (λ y. Then ElseAt (λ z. Given (statement.If line x y z))))

if_in : (line : ℕ) (w v : List Token) (s : Stmt) → Choice line w v s → IfAfter line w v s
if_in line w v s (then t (then {u = r} d (then {u = q} {x = z} e (given f g)))) = subst (IfAfter line w v) g (if_after t d (subst (λ p. ElseAt r p z) f e))

if_out : (line : ℕ) (w v : List Token) (s : Stmt) → IfAfter line w v s → Choice line w v s
if_out line w v s (if_after t d e) = then t (then d (then e (given refl refl)))

pub if_untested : (line : ℕ) (w : List Token) → Best (TestAfter w) Never None → Best (IfAfter line w) (At is_else) None
if_untested line w best = best_same (if_in line w) (if_out line w) (then_none best)

pub if_empty : (line : ℕ) (w u : List Token) (x : Expr) → Best (TestAfter w) Never (Some (x, u)) → Best (BodyAt u) Never None → Best (IfAfter line w) (At is_else) None
if_empty line w u x test none = best_same (if_in line w) (if_out line w) (then_once test (then_none none))

pub if_some : (line : ℕ) (w u r q : List Token) (x : Expr) (y : Body) (z : Option Body) → Best (TestAfter w) Never (Some (x, u)) → Best (BodyAt u) Never (Some (y, r))
    → Best {X = Option Body} (ElseAt r) (At is_else) (Some (z, q)) → Best (IfAfter line w) (At is_else) (Some (statement.If line x y z, q))
if_some line w u r q x y z test inside rest =
    best_same (if_in line w) (if_out line w) (then_once test (then_once inside (mapped (λ k. statement.If line x y k) rest)))

-- ---- statements by their first word
if_statement : (w u v : List Token) (s : Stmt) → Begins w (word.Keyword keyword.If) u → IfAfter (line_at w) u v s → StmtAt w v s
if_statement w u v s b (if_after (before c d) e no_else) = if_alone (test_at b c d) e
if_statement w u v s b (if_after (before c d) e (other f g)) = if_else (test_at b c d) e f g

statement_if : (w u v : List Token) (s : Stmt) → Begins w (word.Keyword keyword.If) u → StmtAt w v s → IfAfter (line_at w) u v s
statement_if w u v s b (plain {s = t} d) = absurd (simple_lacks w v t (word.Keyword keyword.If) d refl u b)
statement_if w u v s b (if_alone (test_at {u = q} {o = o} c d e) f) = let same : q ≡ u = cc in if_after (before (subst (λ p. Begins p (word.Sign sign.ParenOpen) o) same d) e) f no_else
statement_if w u v s b (if_else (test_at {u = q} {o = o} c d e) f g h) = let same : q ≡ u = cc in if_after (before (subst (λ p. Begins p (word.Sign sign.ParenOpen) o) same d) e) f (other g h)
statement_if w u v s b (while (test_at c d e) f) = cc

pub statement_of_if : (w u : List Token) (line : ℕ) (o : Option (Stmt × List Token)) → line ≡ line_at w → Begins w (word.Keyword keyword.If) u → Best (IfAfter line u) (At is_else) o
    → Best (StmtAt w) (At is_else) o
statement_of_if w u line o e b best =
    best_same (λ v s d. if_statement w u v s b d) (λ v s d. statement_if w u v s b d) (subst (λ n. Best (IfAfter n u) (At is_else) o) e best)

while_statement : (w u v : List Token) (s : Stmt) → Begins w (word.Keyword keyword.While) u → WhileAfter (line_at w) u v s → StmtAt w v s
while_statement w u v s b (then {u = r} (before c d) (then {x = y} e (given f g))) = subst (StmtAt w v) g (while (test_at b c d) (subst (λ p. BodyAt r p y) f e))

statement_while : (w u v : List Token) (s : Stmt) → Begins w (word.Keyword keyword.While) u → StmtAt w v s → WhileAfter (line_at w) u v s
statement_while w u v s b (plain {s = t} d) = absurd (simple_lacks w v t (word.Keyword keyword.While) d refl u b)
statement_while w u v s b (if_alone (test_at c d e) f) = cc
statement_while w u v s b (if_else (test_at c d e) f g h) = cc
statement_while w u v s b (while (test_at {u = q} {o = o} c d e) f) =
    let same : q ≡ u = cc in then (before (subst (λ p. Begins p (word.Sign sign.ParenOpen) o) same d) e) (then f (given refl refl))

never_goes : {X : Type 0} {R : List Token → X → Type 0} {goes : List Token → Type 0} (o : Option (X × List Token)) → Best R Never o → Best R goes o
never_goes {goes = goes} o best = best_weaker (λ v n. absurd n) o best

pub statement_of_while : (w u : List Token) (line : ℕ) (o : Option (Stmt × List Token)) → line ≡ line_at w → Begins w (word.Keyword keyword.While) u → Best (WhileAfter line u) Never o
    → Best (StmtAt w) (At is_else) o
statement_of_while w u line o e b best =
    best_same (λ v s d. while_statement w u v s b d) (λ v s d. statement_while w u v s b d) (never_goes o (subst (λ n. Best (WhileAfter n u) Never o) e best))

-- ---- simple statements
abbrev Alone : List Token → List Token → Stmt → Type 0
Alone = Then SimpleAt (λ s. Given (statement.Simple s))

alone_in : (w v : List Token) (s : Stmt) → Alone w v s → StmtAt w v s
alone_in w v s (then {x = t} d (given f g)) = subst (StmtAt w v) g (plain (subst (λ p. SimpleAt w p t) f d))

alone_out : (w v : List Token) (s : Stmt) → Lacks w (word.Keyword keyword.If) → Lacks w (word.Keyword keyword.While) → StmtAt w v s → Alone w v s
alone_out w v s none nor (plain d) = then d (given refl refl)
alone_out w v s none nor (if_alone (test_at c d e) f) = absurd (none _ c)
alone_out w v s none nor (if_else (test_at c d e) f g h) = absurd (none _ c)
alone_out w v s none nor (while (test_at c d e) f) = absurd (nor _ c)

pub statement_none : (w : List Token) → Lacks w (word.Keyword keyword.If) → Lacks w (word.Keyword keyword.While) → Best (SimpleAt w) Never None → Best (StmtAt w) (At is_else) None
statement_none w none nor best = best_same (alone_in w) (λ v s d. alone_out w v s none nor d) (then_none best)

pub statement_simple : (w u : List Token) (s : Simple) → Lacks w (word.Keyword keyword.If) → Lacks w (word.Keyword keyword.While) → Best (SimpleAt w) Never (Some (s, u))
    → Best (StmtAt w) (At is_else) (Some (statement.Simple s, u))
statement_simple w u s none nor best =
    best_same (alone_in w) (λ v s d. alone_out w v s none nor d) (never_goes (Some (statement.Simple s, u)) (mapped (λ t. statement.Simple t) best))

-- ---- bodies
unbraced : (w v : List Token) (x : Body) → Lacks w (word.Sign sign.BraceOpen) → BodyAt w v x → (s : Simple) × SimpleAt w v s × (body.Single s ≡ x)
unbraced w v x none (block b d c) = absurd (none _ b)
unbraced w v x none (single {s = s} d) = (s, d, refl)

pub body_none : (w : List Token) → Lacks w (word.Sign sign.BraceOpen) → Best (SimpleAt w) Never None → Best (BodyAt w) Never None
body_none w none best = best_none (BodyAt w) Never (λ v x d. let p = unbraced w v x none d in best.covers v p.0 p.1)

single_covers : (w u : List Token) (s : Simple) → Best (SimpleAt w) Never (Some (s, u)) → (v : List Token) (x : Body) (t : Simple) → SimpleAt w v t → body.Single t ≡ x
    → Within Never v x (body.Single s, u)
single_covers w u s best v x t d e = by (best.covers v t d)
  where
    by : Within Never v t (s, u) → Within Never v x (body.Single s, u)
    by (inl p) = inl (ap (λ z. body.Single z) p.0 ∙ e, p.1)
    by (inr p) = absurd p.1

pub body_single : (w u : List Token) (s : Simple) → Lacks w (word.Sign sign.BraceOpen) → Best (SimpleAt w) Never (Some (s, u)) → Best (BodyAt w) Never (Some (body.Single s, u))
body_single w u s none best = record { sound = single best.sound; covers = λ v x d. let p = unbraced w v x none d in single_covers w u s best v x p.0 p.1 p.2 }

pub in_statements_close : (q u : List Token) → Begins q (word.Sign sign.BraceClose) u → At is_in_statements q → ⊥
in_statements_close q u b g = let clash = in_class is_in_statements q b g in cc

abbrev Braced : List Token → List Token → Body → Type 0
Braced = Then StmtsAt (λ ss. Ended (word.Sign sign.BraceClose) (body.Block ss))

braced_in : (w u v : List Token) (x : Body) → Begins w (word.Sign sign.BraceOpen) u → Braced u v x → BodyAt w v x
braced_in w u v x b (then d (ended c e)) = subst (BodyAt w v) e (block b d c)

braced_out : (w u v : List Token) (x : Body) → Begins w (word.Sign sign.BraceOpen) u → BodyAt w v x → Braced u v x
braced_out w u v x b (block {u = q} {r = r} {ss = ss} c d e) = let same : q ≡ u = cc in then (subst (λ p. StmtsAt p r ss) same d) (ended e refl)
braced_out w u v x b (single {s = s} d) = absurd (simple_lacks w v s (word.Sign sign.BraceOpen) d refl u b)

pub body_open : (w u r : List Token) (ss : List Stmt) → Begins w (word.Sign sign.BraceOpen) u → Best {X = List Stmt} (StmtsAt u) (At is_in_statements) (Some (ss, r))
    → Lacks r (word.Sign sign.BraceClose) → Best (BodyAt w) Never None
body_open w u r ss b best lacks =
    best_same (λ v x d. braced_in w u v x b d) (λ v x d. braced_out w u v x b d) (then_is (end_apart _ in_statements_close) best (ended_lacks lacks))

pub body_block : (w u r q : List Token) (ss : List Stmt) → Begins w (word.Sign sign.BraceOpen) u → Best {X = List Stmt} (StmtsAt u) (At is_in_statements) (Some (ss, r))
    → Begins r (word.Sign sign.BraceClose) q → Best (BodyAt w) Never (Some (body.Block ss, q))
body_block w u r q ss b best c =
    best_same (λ v x d. braced_in w u v x b d) (λ v x d. braced_out w u v x b d) (then_is (end_apart _ in_statements_close) best (ended_is c))

-- ---- any number of statements
each_of : {w v : List Token} {ss : List Stmt} → StmtsAt w v ss → Each StmtAt w v ss
each_of no_statement = each_end
each_of (statements d e) = each_more d (each_of e)

of_each : {w v : List Token} {ss : List Stmt} → Each StmtAt w v ss → StmtsAt w v ss
of_each each_end = no_statement
of_each (each_more d e) = statements d (of_each e)

statement_no_else : (k : Word) → IsTrue (is_statement k) → IsTrue (is_else k) → ⊥
statement_no_else (word.Keyword keyword.Else) g h = cc
statement_no_else _ g h = cc

apart : (w : List Token) → At is_statement w → At is_else w → ⊥
apart w g h = at_apart is_statement is_else statement_no_else w g h

statement_in : (k : Word) → IsTrue (is_statement k) → IsTrue (is_in_statements k)
statement_in (word.Keyword keyword.Else) g = refl
statement_in _ g = g

more_starts : (w : List Token) → At is_statement w → At is_in_statements w
more_starts w g = at_weaker is_statement is_in_statements statement_in w g

else_in : (k : Word) → IsTrue (is_else k) → IsTrue (is_in_statements k)
else_in (word.Keyword keyword.Else) g = refl
else_in _ g = cc

more_goes : (w : List Token) → At is_else w → At is_in_statements w
more_goes w g = at_weaker is_else is_in_statements else_in w g

pub statements_none : (w : List Token) → Best (StmtAt w) (At is_else) None → Best {X = List Stmt} (StmtsAt w) (At is_in_statements) (Some ([], w))
statements_none w best = best_same (λ v ss d. of_each d) (λ v ss d. each_of d)
    (each_none StmtAt (At is_statement) (At is_else) (At is_in_statements) statement_first apart more_starts more_goes w best.covers)

pub statements_on : (w u : List Token) (s : Stmt) (a : List Stmt × List Token) → length u < length w → length a.1 ≤ length u → Best (StmtAt w) (At is_else) (Some (s, u))
    → Best {X = List Stmt} (StmtsAt u) (At is_in_statements) (Some a) → Best {X = List Stmt} (StmtsAt w) (At is_in_statements) (Some (s ∷ a.0, a.1))
statements_on w u s a fewer shorter first rest = best_same (λ v ss d. of_each d) (λ v ss d. each_of d)
    (each_on StmtAt (At is_statement) (At is_else) (At is_in_statements) statement_first apart more_starts more_goes w u s a fewer shorter first
    (best_same (λ v ss d. each_of d) (λ v ss d. of_each d) rest))
