-- In a short unit the statements of a function are refused only on the line of a simple statement or a condition that no rule derives.
use Rattle.std.proofs.Common.{◌≡◌, ◌⊎◌, inl, inr, ℕ, List, [], ◌∷◌, ◌++◌, map, Option, Some, None, Result, Ok, Err, All, refl, sym, ap, ◌∙◌, subst}
use Rattle.std.proofs.lemmas.List.Elements.{All-nil, All-cons, All-head, All-tail}
use Rattle.c_tree.specs.declared.expressions.Expr.{Expr}
use Rattle.c_tree.specs.declared.items.Function.{Function}
use Rattle.c_tree.specs.declared.items.Unit.{Unit as TextUnit}
use Rattle.c_tree.specs.declared.statements.Action.{Action}
use Rattle.c_tree.specs.declared.statements.Action.TheVariants as action
use Rattle.c_tree.specs.declared.statements.Body.{Body, map-Body, roll-Body}
use Rattle.c_tree.specs.declared.statements.Body.TheFolds.{fold-roll-Body, fold-roll-Stmt, ind-Stmt}
use Rattle.c_tree.specs.declared.statements.Body.TheOpen.{Body-F, Stmt-F}
use Rattle.c_tree.specs.declared.statements.Body.TheVariants as body
use Rattle.c_tree.specs.declared.statements.Simple.{Simple}
use Rattle.c_tree.specs.declared.statements.Stmt.{Stmt, map-Stmt, roll-Stmt}
use Rattle.c_tree.specs.declared.statements.Stmt.TheVariants as statement
use Rattle.c_tree.proofs.ShortFunctions.{statements_short}
use Rattle.c_tree.proofs.ShortParts.{HasShort, IsShortStatement, IsShortBody, simple_short, single_short, block_short, if_short, else_short, while_short, function_short}
use Rattle.checked_tree.specs.declared.expressions.CheckedExpr.{CheckedExpr}
use Rattle.checked_tree.specs.declared.statements.CheckedStmt.{CheckedStmt}
use Rattle.checked_tree.specs.declared.statements.CheckedStmt.TheVariants as checked_form
use Rattle.c_tree.specs.Short.{IsShortExpr}
use Rattle.deputy_rules.specs.declared.asked.Asked.{Asked}
use Rattle.deputy_rules.specs.declared.signature.Returned.{Returned}
use Rattle.deputy_rules.specs.Checking.{Fault, NoRule, Checking, with_outcome, afterwards, done, in_turn}
use Rattle.deputy_rules.specs.Context.{Context}
use Rattle.deputy_rules.specs.Functions.{text_of, context_of, no_checks, finished, check_statements}
use Rattle.deputy_rules.specs.Numbering.{Numbered, numbered}
use Rattle.deputy_rules.specs.Statements.{Home, numbered_at, with_numbers, simple, condition, single, if_level, while_level, body_level, statement_level, check_statement, check_body, act, controlling, statement_context}
use Rattle.deputy_types.specs.Table.{Table}
use Rattle.light_checks.specs.ShortActions.{HasShortParts}
use Rattle.light_checks.specs.ShortUnits.{IsFunctionOf, home_of}
use Rattle.light_checks.specs.Unruled as unruled
use Rattle.light_checks.specs.Unruled.{Unruled, UnruledBody, UnruledIn, Tells}
use Rattle.light_checks.proofs.Refusals.{statement_refused, condition_refused}

-- the line of a fault
numbers_fault : {A : Type 0} (line : ℕ) (a : A) (n : Option Numbered) (e : Fault) → with_numbers line a n ≡ Err e → e ≡ NoRule line
numbers_fault line a None e h = cc
numbers_fault line a (Some n) e h = absurd cc

pub line_fault : {A : Type 0} (line : ℕ) (b : Numbered) (o : Option (A × List Asked)) (e : Fault) → numbered_at line b o ≡ Err e → e ≡ NoRule line
line_fault line b None e h = cc
line_fault line b (Some r) e h = numbers_fault line r.0 (numbered r.1 b) e h

pub fault_same : {A : Type 0} (d e : Fault) → ◌≡◌ {A = Result A Fault} (Err d) (Err e) → d ≡ e
fault_same d e h = cc

-- one after another: the first is refused, or the second behind it
after_fails : {S A B : Type 0} (p : Checking S A) (f : A → Checking S B) (s : S) (e : Fault) → afterwards p f s ≡ Err e
    → (p s ≡ Err e) ⊎ ((r : A × S) × (f r.0 r.1 ≡ Err e))
unfolding afterwards
after_fails {S} {A} {B} p f s e h = by (p s) refl h
  where
    by : (o : Result (A × S) Fault) → p s ≡ o → with_outcome o f ≡ Err e → (p s ≡ Err e) ⊎ ((r : A × S) × (f r.0 r.1 ≡ Err e))
    by (Ok r) k h = inr (r, h)
    by (Err d) k h = inl (k ∙ ap (λ x. Err x) (fault_same d e h))

-- the parts of an action
parts_short : (a : Action) → HasShort a → HasShortParts a
parts_short (action.Assign l e) s = s
parts_short (action.Call x name es) s = s
parts_short (action.Kalloc x t e) s = s
parts_short (action.Kfree e) s = s
parts_short (action.Zero l) s = s
parts_short (action.Return (Some e)) s = s
parts_short (action.Return None) s = s
parts_short action.Empty s = s

abbrev Bodies : Type 0
Bodies = Checking Numbered (List CheckedStmt)

abbrev Statements : Type 0
Statements = Checking Numbered CheckedStmt

-- ---- statements and bodies by their forms
module _ (ctx : Context) (home : Home) where
  pub at_simple : (s : Simple) (b : Numbered) → check_statement ctx home (statement.Simple s) b ≡ simple ctx home s b
  unfolding check_statement check_body
  at_simple s b = ap (λ (p : Statements). p b) (ap (check_statement ctx home) (sym (statement.rolls-Simple s)) ∙ fold-roll-Stmt Bodies Statements (body_level ctx home) (statement_level ctx home) (Stmt-F.Simple s))

  pub at_if : (n : ℕ) (x : Expr) (a : Body) (b : Numbered) → check_statement ctx home (statement.If n x a None) b ≡ if_level ctx n x (check_body ctx home a) (done []) b
  unfolding check_statement check_body
  at_if n x a b = ap (λ (p : Statements). p b) (ap (check_statement ctx home) (sym (statement.rolls-If n x a None)) ∙ fold-roll-Stmt Bodies Statements (body_level ctx home) (statement_level ctx home) (Stmt-F.If n x a None))

  pub at_else : (n : ℕ) (x : Expr) (a c : Body) (b : Numbered) → check_statement ctx home (statement.If n x a (Some c)) b ≡ if_level ctx n x (check_body ctx home a) (check_body ctx home c) b
  unfolding check_statement check_body
  at_else n x a c b =
      ap (λ (p : Statements). p b) (ap (check_statement ctx home) (sym (statement.rolls-If n x a (Some c))) ∙ fold-roll-Stmt Bodies Statements (body_level ctx home) (statement_level ctx home) (Stmt-F.If n x a (Some c)))

  pub at_while : (n : ℕ) (x : Expr) (a : Body) (b : Numbered) → check_statement ctx home (statement.While n x a) b ≡ while_level ctx n x (check_body ctx home a) b
  unfolding check_statement check_body
  at_while n x a b = ap (λ (p : Statements). p b) (ap (check_statement ctx home) (sym (statement.rolls-While n x a)) ∙ fold-roll-Stmt Bodies Statements (body_level ctx home) (statement_level ctx home) (Stmt-F.While n x a))

  pub at_block : (ss : List Stmt) (b : Numbered) → check_body ctx home (body.Block ss) b ≡ in_turn (map (check_statement ctx home) ss) [] b
  unfolding check_statement check_body
  at_block ss b = ap (λ (p : Bodies). p b) (ap (check_body ctx home) (sym (body.rolls-Block ss)) ∙ fold-roll-Body Bodies Statements (body_level ctx home) (statement_level ctx home) (Body-F.Block ss))

  pub at_single : (s : Simple) (b : Numbered) → check_body ctx home (body.Single s) b ≡ single ctx home s b
  unfolding check_statement check_body
  at_single s b = ap (λ (p : Bodies). p b) (ap (check_body ctx home) (sym (body.rolls-Single s)) ∙ fold-roll-Body Bodies Statements (body_level ctx home) (statement_level ctx home) (Body-F.Single s))

-- what only hands on its outcome is refused where that is
handed_on : {S A B : Type 0} (p : Checking S A) (f : A → B) (s : S) (e : Fault) → afterwards p (λ a. done (f a)) s ≡ Err e → p s ≡ Err e
handed_on {S} {A} {B} p f s e h = by (after_fails p (λ a. done (f a)) s e h)
  where
    by : (p s ≡ Err e) ⊎ ((r : A × S) × (done (f r.0) r.1 ≡ Err e)) → p s ≡ Err e
    by (inl k) = k
    by (inr (r, k)) = absurd cc

module _ (u : TextUnit) (t : Table) (f : Function) (r : Returned) (is : IsFunctionOf u t f r) where
  abbrev here : Context
  here = context_of t f

  abbrev home : Home
  home = home_of u t r

  abbrev StmtTells : Stmt → Type 0
  StmtTells s = IsShortStatement s → (b : Numbered) (e : Fault) → check_statement here home s b ≡ Err e → Tells (Unruled here home s) e

  abbrev BodyTells : Body → Type 0
  BodyTells a = IsShortBody a → (b : Numbered) (e : Fault) → check_body here home a b ≡ Err e → Tells (UnruledBody here home a) e

  simple_line : (s : Simple) (b : Numbered) (e : Fault) → simple here home s b ≡ Err e → e ≡ NoRule s.line
  unfolding simple
  simple_line s b e h = line_fault s.line b (act (statement_context here s.line b) home s.action []) e h

  condition_line : (n : ℕ) (x : Expr) (b : Numbered) (e : Fault) → condition here n x b ≡ Err e → e ≡ NoRule n
  unfolding condition
  condition_line n x b e h = line_fault n b (controlling (statement_context here n b) x []) e h

  simple_tells : (s : Simple) → StmtTells (statement.Simple s)
  simple_tells s short b e h =
      let k = sym (at_simple here home s b) ∙ h in
      (s.line, simple_line s b e k, unruled.simple b refl (statement_refused u t f r is s b e (parts_short s.action (simple_short s short)) k))

  single_tells : (s : Simple) → BodyTells (body.Single s)
  unfolding single
  single_tells s short b e h =
      let k = handed_on (simple here home s) (λ x. x ∷ []) b e (sym (at_single here home s b) ∙ h) in
      (s.line, simple_line s b e k, unruled.single b refl (statement_refused u t f r is s b e (parts_short s.action (single_short s short)) k))

  -- a condition, then what stands behind it
  condition_then : {B : Type 0} (n : ℕ) (x : Expr) (g : CheckedExpr → Checking Numbered B) (b : Numbered) (e : Fault) (R : ℕ → Type 0) → IsShortExpr x
      → ((before : Numbered) → controlling (statement_context here n before) x [] ≡ None → R n) → ((y : CheckedExpr) (s : Numbered) → g y s ≡ Err e → Tells R e)
      → afterwards (condition here n x) g b ≡ Err e → Tells R e
  condition_then n x g b e R short first then' h = by (after_fails (condition here n x) g b e h)
    where
      by : (condition here n x b ≡ Err e) ⊎ ((y : CheckedExpr × Numbered) × (g y.0 y.1 ≡ Err e)) → Tells R e
      by (inl k) = (n, condition_line n x b e k, first b (condition_refused u t f r is n x b e short k))
      by (inr (y, k)) = then' y.0 y.1 k

  -- a body, then what stands behind it
  body_then : {B : Type 0} (a : Body) (g : List CheckedStmt → Checking Numbered B) (b : Numbered) (e : Fault) (R : ℕ → Type 0) → BodyTells a → IsShortBody a
      → ((line : ℕ) → UnruledBody here home a line → R line) → ((y : List CheckedStmt) (s : Numbered) → g y s ≡ Err e → Tells R e)
      → afterwards (check_body here home a) g b ≡ Err e → Tells R e
  body_then a g b e R tells short first then' h = by (after_fails (check_body here home a) g b e h)
    where
      by : (check_body here home a b ≡ Err e) ⊎ ((y : List CheckedStmt × Numbered) × (g y.0 y.1 ≡ Err e)) → Tells R e
      by (inl k) = let l = tells short b e k in (l.0, l.1, first l.0 l.2)
      by (inr (y, k)) = then' y.0 y.1 k

  if_tells : (n : ℕ) (x : Expr) (a : Body) → BodyTells a → StmtTells (statement.If n x a None)
  if_tells n x a tells short b e h =
      let parts = if_short n x a short in
      condition_then n x _ b e (Unruled here home (statement.If n x a None)) parts.0 (λ before k. unruled.if_condition None before k)
      (λ y s k. body_then a _ s e (Unruled here home (statement.If n x a None)) tells parts.1 (λ line l. unruled.if_holds None l)
      (λ z v m. absurd (not_refused n y z v e m)) k) (sym (at_if here home n x a b) ∙ h)
    where
      not_refused : (n : ℕ) (y : CheckedExpr) (z : List CheckedStmt) (v : Numbered) (e : Fault)
          → afterwards (done []) (λ (fails : List CheckedStmt). done (checked_form.If n y z fails)) v ≡ Err e → ⊥
      not_refused n y z v e m = let k = handed_on (done []) (λ (fails : List CheckedStmt). checked_form.If n y z fails) v e m in absurd cc

  else_tells : (n : ℕ) (x : Expr) (a c : Body) → BodyTells a → BodyTells c → StmtTells (statement.If n x a (Some c))
  else_tells n x a c tells others short b e h =
      let parts = else_short n x a c short in
      condition_then n x _ b e (Unruled here home (statement.If n x a (Some c))) parts.0 (λ before k. unruled.if_condition (Some c) before k)
      (λ y s k. body_then a _ s e (Unruled here home (statement.If n x a (Some c))) tells parts.1 (λ line l. unruled.if_holds (Some c) l)
      (λ z v m. let l = others parts.2 v e (handed_on (check_body here home c) (λ fails. checked_form.If n y z fails) v e m) in (l.0, l.1, unruled.if_fails c l.2)) k)
      (sym (at_else here home n x a c b) ∙ h)

  while_tells : (n : ℕ) (x : Expr) (a : Body) → BodyTells a → StmtTells (statement.While n x a)
  while_tells n x a tells short b e h =
      let parts = while_short n x a short in
      condition_then n x _ b e (Unruled here home (statement.While n x a)) parts.0 (λ before k. unruled.while_condition before k)
      (λ y s k. let l = tells parts.1 s e (handed_on (check_body here home a) (λ z. checked_form.While n y z) s e k) in (l.0, l.1, unruled.while_body l.2))
      (sym (at_while here home n x a b) ∙ h)

  -- statements in turn
  in_turn_tells : (ss : List Stmt) → All StmtTells ss → All IsShortStatement ss → (values : List CheckedStmt) (b : Numbered) (e : Fault)
      → in_turn (map (check_statement here home) ss) values b ≡ Err e → Tells (UnruledIn here home ss) e
  in_turn_tells [] tells short values b e h = absurd cc
  in_turn_tells (s ∷ ss) tells short values b e h =
      by (after_fails (check_statement here home s) (λ a. in_turn (map (check_statement here home) ss) (values ++ a ∷ [])) b e h)
      (λ v w k. in_turn_tells ss (All-tail StmtTells s ss tells) (All-tail IsShortStatement s ss short) v w e k)
    where
      by : (check_statement here home s b ≡ Err e) ⊎ ((y : CheckedStmt × Numbered) × (in_turn (map (check_statement here home) ss) (values ++ y.0 ∷ []) y.1 ≡ Err e))
          → ((v : List CheckedStmt) (w : Numbered) → in_turn (map (check_statement here home) ss) v w ≡ Err e → Tells (UnruledIn here home ss) e) → Tells (UnruledIn here home (s ∷ ss)) e
      by (inl k) rest = let l = All-head StmtTells s ss tells (All-head IsShortStatement s ss short) b e k in (l.0, l.1, unruled.first l.2)
      by (inr (y, k)) rest = let l = rest (values ++ y.0 ∷ []) y.1 k in (l.0, l.1, unruled.later l.2)

  block_tells : (ss : List Stmt) → All StmtTells ss → BodyTells (body.Block ss)
  block_tells ss tells short b e h =
      let l = in_turn_tells ss tells (block_short ss short) [] b e (sym (at_block here home ss b) ∙ h) in (l.0, l.1, unruled.block l.2)

  -- ---- every statement
  abbrev TellingBody : Type 0
  TellingBody = (a : Body) × BodyTells a

  abbrev TellingStmt : Type 0
  TellingStmt = (s : Stmt) × StmtTells s

  all_tell : (ks : List TellingStmt) → All StmtTells (map (λ (k : TellingStmt). k.0) ks)
  all_tell [] = All-nil StmtTells
  all_tell (k ∷ ks) = All-cons StmtTells k.0 (map (λ (j : TellingStmt). j.0) ks) k.1 (all_tell ks)

  by_body : (x : Body-F TellingBody TellingStmt) → BodyTells (roll-Body (map-Body TellingBody TellingStmt Body Stmt (λ k. k.0) (λ k. k.0) x))
  by_body (Body-F.Block ks) =
      let ss = map (λ (k : TellingStmt). k.0) ks in subst BodyTells (sym (body.rolls-Block ss)) (block_tells ss (all_tell ks))
  by_body (Body-F.Single s) = subst BodyTells (sym (body.rolls-Single s)) (single_tells s)

  by_stmt : (x : Stmt-F TellingBody TellingStmt) → StmtTells (roll-Stmt (map-Stmt TellingBody TellingStmt Body Stmt (λ k. k.0) (λ k. k.0) x))
  by_stmt (Stmt-F.Simple s) = subst StmtTells (sym (statement.rolls-Simple s)) (simple_tells s)
  by_stmt (Stmt-F.If n x a None) = subst StmtTells (sym (statement.rolls-If n x a.0 None)) (if_tells n x a.0 a.1)
  by_stmt (Stmt-F.If n x a (Some c)) = subst StmtTells (sym (statement.rolls-If n x a.0 (Some c.0))) (else_tells n x a.0 c.0 a.1 c.1)
  by_stmt (Stmt-F.While n x a) = subst StmtTells (sym (statement.rolls-While n x a.0)) (while_tells n x a.0 a.1)

  stmt_tells : (s : Stmt) → StmtTells s
  stmt_tells =
      ind-Stmt BodyTells StmtTells (λ z x e. subst (λ (l : Body-F Body Stmt). BodyTells (roll-Body l)) e (by_body x)) (λ z x e. subst (λ (l : Stmt-F Body Stmt). StmtTells (roll-Stmt l)) e (by_stmt x))

  every_one : (ss : List Stmt) → All StmtTells ss
  every_one [] = All-nil StmtTells
  every_one (s ∷ ss) = All-cons StmtTells s ss (stmt_tells s) (every_one ss)

  -- the statements of the function
  finished_fault : (o : Result (List CheckedStmt × Numbered) Fault) (e : Fault) → finished here f r o ≡ Err e → o ≡ Err e
  finished_fault (Ok b) e h = absurd cc
  finished_fault (Err d) e h = cc

  pub function_tells : (e : Fault) → check_statements (text_of t u.items) f r here ≡ Err e → Tells (UnruledIn here home f.body) e
  unfolding check_statements
  function_tells e h =
      in_turn_tells f.body (every_one f.body) (statements_short f (function_short u f is.short is.function)) [] no_checks e
      (finished_fault (in_turn (map (check_statement here home) f.body) [] no_checks) e h)
