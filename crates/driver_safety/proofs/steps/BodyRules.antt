-- Every short statement that the rules derive runs, where each short simple statement and each short condition does.
use Rattle.std.proofs.Common.{◌≡◌, ℕ, zero, suc, Bool, true, false, List, [], ◌∷◌, map, Option, Some, None, slice_get, All, sym}
use Rattle.std.proofs.Common.{ap, ◌∙◌, subst}
use Rattle.std.proofs.lemmas.List.Elements.{All-head, All-tail}
use Rattle.sd_base.specs.Blocks.{Block}
use Rattle.c_tree.specs.Short.{IsShortExpr}
use Rattle.c_tree.proofs.ShortParts.{HasShort, IsShortStatement, IsShortBody, simple_short, single_short, block_short, if_short, else_short}
use Rattle.c_tree.proofs.ShortParts.{while_short}
use Rattle.c_tree.specs.declared.expressions.Expr.{Expr}
use Rattle.c_tree.specs.declared.statements.Body.{Body, map-Body, roll-Body}
use Rattle.c_tree.specs.declared.statements.Body.TheFolds.{fold-roll-Body, fold-roll-Stmt, ind-Stmt}
use Rattle.c_tree.specs.declared.statements.Body.TheOpen.{Body-F, Stmt-F}
use Rattle.c_tree.specs.declared.statements.Body.TheVariants as body
use Rattle.c_tree.specs.declared.statements.Simple.{Simple}
use Rattle.c_tree.specs.declared.statements.Stmt.{Stmt, map-Stmt, roll-Stmt}
use Rattle.c_tree.specs.declared.statements.Stmt.TheVariants as statement
use Rattle.checked_tree.specs.declared.expressions.CheckedExpr.{CheckedExpr}
use Rattle.checked_tree.specs.declared.statements.CheckedStmt.{CheckedStmt}
use Rattle.checked_tree.specs.declared.statements.CheckedStmt.TheOpen as S
use Rattle.checked_tree.specs.declared.statements.CheckedStmt.TheVariants as form
use Rattle.checked_tree.specs.declared.units.CheckedFn.{CheckedFn}
use Rattle.checked_tree.specs.declared.units.CheckedUnit.{CheckedUnit}
use Rattle.checked_tree.specs.Act.{Into, turns, act}
use Rattle.checked_tree.specs.Numbers.{holds}
use Rattle.checked_tree.specs.Outcome.{Safe}
use Rattle.checked_tree.specs.Conditions.{State}
use Rattle.checked_tree.specs.Eval.{eval}
use Rattle.checked_tree.specs.Step.{part_of}
use Rattle.checked_tree.proofs.Outcomes.{safe_bind}
use Rattle.deputy_rules.specs.Checking.{Checking, done, in_turn}
use Rattle.deputy_rules.specs.Context.{Context}
use Rattle.deputy_rules.specs.Numbering.{Numbered}
use Rattle.deputy_rules.specs.Statements.{Home, simple, condition, single, if_level, while_level, body_level, statement_level}
use Rattle.deputy_rules.specs.Statements.{check_statement, check_body}
use Rattle.driver_safety.proofs.checks.Evaluations.{safe_same}
use Rattle.driver_safety.proofs.checks.LineRules.{SoundAt, done_at, afterwards_at, weaker_at, turn_at}
use Rattle.driver_safety.specs.Activities.{Terms, Runs, runs, LeavesGood, is_return}

abbrev Bodies : Type 0
Bodies = Checking Numbered (List CheckedStmt)

abbrev Statements : Type 0
Statements = Checking Numbered CheckedStmt

-- ---- statements and bodies by their forms
module _ (ctx : Context) (home : Home) where
  pub at_simple : (s : Simple) → check_statement ctx home (statement.Simple s) ≡ simple ctx home s
  unfolding check_statement check_body
  at_simple s = ap (check_statement ctx home) (sym (statement.rolls-Simple s)) ∙ fold-roll-Stmt Bodies Statements (body_level ctx home)
      (statement_level ctx home) (Stmt-F.Simple s)

  at_if : (n : ℕ) (x : Expr) (a : Body) → check_statement ctx home (statement.If n x a None) ≡ if_level ctx n x (check_body ctx home a)
      (done [])
  unfolding check_statement check_body
  at_if n x a = ap (check_statement ctx home) (sym (statement.rolls-If n x a None)) ∙ fold-roll-Stmt Bodies Statements
      (body_level ctx home) (statement_level ctx home) (Stmt-F.If n x a None)

  at_else : (n : ℕ) (x : Expr) (a c : Body) → check_statement ctx home (statement.If n x a (Some c)) ≡ if_level ctx n x
      (check_body ctx home a) (check_body ctx home c)
  unfolding check_statement check_body
  at_else n x a c = ap (check_statement ctx home) (sym (statement.rolls-If n x a (Some c))) ∙ fold-roll-Stmt Bodies Statements
      (body_level ctx home) (statement_level ctx home) (Stmt-F.If n x a (Some c))

  at_while : (n : ℕ) (x : Expr) (a : Body) → check_statement ctx home (statement.While n x a) ≡ while_level ctx n x (check_body ctx home a)
  unfolding check_statement check_body
  at_while n x a = ap (check_statement ctx home) (sym (statement.rolls-While n x a)) ∙ fold-roll-Stmt Bodies Statements
      (body_level ctx home) (statement_level ctx home) (Stmt-F.While n x a)

  at_block : (ss : List Stmt) → check_body ctx home (body.Block ss) ≡ in_turn (map (check_statement ctx home) ss) []
  unfolding check_statement check_body
  at_block ss = ap (check_body ctx home) (sym (body.rolls-Block ss)) ∙ fold-roll-Body Bodies Statements (body_level ctx home)
      (statement_level ctx home) (Body-F.Block ss)

  at_single : (s : Simple) → check_body ctx home (body.Single s) ≡ single ctx home s
  unfolding check_statement check_body
  at_single s = ap (check_body ctx home) (sym (body.rolls-Single s)) ∙ fold-roll-Body Bodies Statements (body_level ctx home)
      (statement_level ctx home) (Body-F.Single s)

module _ (unit : CheckedUnit) (terms : Terms) (k : ℕ) (f : CheckedFn) (ctx : Context) (home : Home) where
  abbrev Good : CheckedStmt → Type 0
  Good s = Runs unit terms k f s

  abbrev AllGood : List CheckedStmt → Type 0
  AllGood ss = (i : ℕ) (x : CheckedStmt) → slice_get ss i ≡ Some x → Good x

  -- a condition is safe in each good state
  abbrev pub IsTest : CheckedExpr → Type 0
  IsTest x = (w : List Block) (st : State) → terms.Slots w k st.locals → terms.Remembers w st.memory → Safe (eval [] f st x) (λ v. Unit {0})

  if_runs : (line : ℕ) (x : CheckedExpr) (first second : List CheckedStmt) → IsTest x → AllGood first → AllGood second
      → Good (form.If line x first second)
  unfolding act
  if_runs line x first second test a b = runs
      (λ w st slots memory. safe_same _ _ _ (ap (act [] f st) (form.outs-If line x first second))
      (safe_bind (eval [] f st x) (λ v. turns st (Into (holds v))) _ (LeavesGood unit terms w k (form.If line x first second))
      (test w st slots memory)
      (λ v u. record { slots = slots; memory = memory; turn = ap is_return' (form.outs-If line x first second) })))
      (λ w st slots memory a c e t i y h. parts c i y (subst
      (λ (l : S.CheckedStmt-F CheckedStmt). slice_get (part_of l c) i ≡ Some y) (form.outs-If line x first
      second) h))
    where
      is_return' : S.CheckedStmt-F CheckedStmt → Bool
      is_return' l = is_return unit terms l

      parts : (c : Bool) (i : ℕ) (y : CheckedStmt) → slice_get (part_of (S.If line x first second) c) i ≡ Some y → Good y
      parts true i y h = a i y h
      parts false i y h = b i y h

  while_runs : (line : ℕ) (x : CheckedExpr) (inner : List CheckedStmt) → IsTest x → AllGood inner → Good (form.While line x inner)
  unfolding act
  while_runs line x inner test a = runs
      (λ w st slots memory. safe_same _ _ _ (ap (act [] f st) (form.outs-While line x inner))
      (safe_bind (eval [] f st x) (λ v. turns st (Into (holds v))) _ (LeavesGood unit terms w k (form.While line x inner))
      (test w st slots memory)
      (λ v u. record { slots = slots; memory = memory; turn = ap is_return' (form.outs-While line x inner) })))
      (λ w st slots memory a c e t i y h. parts c i y (subst (λ (l : S.CheckedStmt-F CheckedStmt). slice_get (part_of l c) i ≡ Some y)
      (form.outs-While line x inner) h))
    where
      is_return' : S.CheckedStmt-F CheckedStmt → Bool
      is_return' l = is_return unit terms l

      parts : (c : Bool) (i : ℕ) (y : CheckedStmt) → slice_get (part_of (S.While line x inner) c) i ≡ Some y → Good y
      parts true i y h = a i y h
      parts false i y h = absurd cc

  module _ (simples : (s : Simple) → HasShort s.action → SoundAt f (simple ctx home s) Good) (conditions : (line : ℕ) (e : Expr)
      → IsShortExpr e
      → SoundAt f (condition ctx line e) IsTest) where
    abbrev StmtIs : Stmt → Type 0
    StmtIs s = IsShortStatement s → SoundAt f (check_statement ctx home s) Good

    abbrev BodyIs : Body → Type 0
    BodyIs a = IsShortBody a → SoundAt f (check_body ctx home a) AllGood

    none_good : AllGood []
    none_good i x h = absurd cc

    one_good : (s : CheckedStmt) → Good s → AllGood (s ∷ [])
    one_good s g zero x h = subst Good (same s x h) g
      where
        same : (a b : CheckedStmt) → ◌≡◌ {A = Option CheckedStmt} (Some a) (Some b) → a ≡ b
        same a b h = cc
    one_good s g (suc i) x h = absurd cc

    level_if : (n : ℕ) (x : Expr) (p q : Bodies) → IsShortExpr x → SoundAt f p AllGood → SoundAt f q AllGood
        → SoundAt f (if_level ctx n x p q) Good
    level_if n x p q short a b =
        afterwards_at f _ _ _ _ (conditions n x short) (λ y. afterwards_at f _ _ _ _ a (λ first. afterwards_at f _ _ _ _ b (λ second.
        done_at f (form.If n y first second) _ (λ h g t. if_runs n y first second t g h))))

    level_while : (n : ℕ) (x : Expr) (p : Bodies) → IsShortExpr x → SoundAt f p AllGood → SoundAt f (while_level ctx n x p) Good
    level_while n x p short a = afterwards_at f _ _ _ _ (conditions n x short) (λ y. afterwards_at f _ _ _ _ a
        (λ inner. done_at f (form.While n y inner) _ (λ g t. while_runs n y inner t g)))

    level_single : (s : Simple) → HasShort s.action → SoundAt f (single ctx home s) AllGood
    unfolding single
    level_single s short = afterwards_at f _ _ _ _ (simples s short) (λ x. done_at f (x ∷ []) _ (λ g. one_good x g))

    abbrev IsBody : Type 0
    IsBody = (a : Body) × BodyIs a

    abbrev IsStmt : Type 0
    IsStmt = (s : Stmt) × StmtIs s

    each_is : (ks : List IsStmt) → All IsShortStatement (map (λ (x : IsStmt). x.0) ks) → (i : ℕ) (p : Statements)
        → slice_get (map (check_statement ctx home) (map (λ (x : IsStmt). x.0) ks)) i ≡ Some p → SoundAt f p Good
    each_is [] short i p h = absurd cc
    each_is (x ∷ ks) short zero p h =
        subst (λ (q : Statements). SoundAt f q Good) (same (check_statement ctx home x.0) p h)
        (x.1 (All-head IsShortStatement x.0 (map (λ (x : IsStmt). x.0) ks) short))
      where
        same : (a b : Statements) → ◌≡◌ {A = Option Statements} (Some a) (Some b) → a ≡ b
        same a b h = cc
    each_is (x ∷ ks) short (suc i) p h = each_is ks (All-tail IsShortStatement x.0 (map (λ (x : IsStmt). x.0) ks) short) i p h

    by_body : (x : Body-F IsBody IsStmt) → BodyIs (roll-Body (map-Body IsBody IsStmt Body Stmt (λ k. k.0) (λ k. k.0) x))
    by_body (Body-F.Block ks) =
        let ss = map (λ (x : IsStmt). x.0) ks in
        subst BodyIs (sym (body.rolls-Block ss)) (λ short. subst (λ (p : Bodies). SoundAt f p AllGood) (sym (at_block ctx home ss))
        (weaker_at f _ _ _ (λ all h. h none_good)
        (turn_at f Good (map (check_statement ctx home) ss) [] (each_is ks (block_short ss short)))))
    by_body (Body-F.Single s) = subst BodyIs (sym (body.rolls-Single s)) (λ short. subst (λ (p : Bodies). SoundAt f p AllGood)
        (sym (at_single ctx home s)) (level_single s (single_short s short)))

    by_stmt : (x : Stmt-F IsBody IsStmt) → StmtIs (roll-Stmt (map-Stmt IsBody IsStmt Body Stmt (λ k. k.0) (λ k. k.0) x))
    by_stmt (Stmt-F.Simple s) = subst StmtIs (sym (statement.rolls-Simple s)) (λ short. subst (λ (p : Statements). SoundAt f p Good)
        (sym (at_simple ctx home s)) (simples s (simple_short s short)))
    by_stmt (Stmt-F.If n x a None) = subst StmtIs (sym (statement.rolls-If n x a.0 None)) (λ short.
        let parts = if_short n x a.0 short in
        subst (λ (p : Statements). SoundAt f p Good) (sym (at_if ctx home n x a.0))
        (level_if n x _ _ parts.0 (a.1 parts.1) (done_at f [] AllGood none_good)))
    by_stmt (Stmt-F.If n x a (Some c)) = subst StmtIs (sym (statement.rolls-If n x a.0 (Some c.0))) (λ short.
        let parts = else_short n x a.0 c.0 short in
        subst (λ (p : Statements). SoundAt f p Good) (sym (at_else ctx home n x a.0 c.0))
        (level_if n x _ _ parts.0 (a.1 parts.1) (c.1 parts.2)))
    by_stmt (Stmt-F.While n x a) = subst StmtIs (sym (statement.rolls-While n x a.0)) (λ short.
        let parts = while_short n x a.0 short in
        subst (λ (p : Statements). SoundAt f p Good) (sym (at_while ctx home n x a.0)) (level_while n x _ parts.0 (a.1 parts.1)))

    -- each statement of a body
    pub statement_runs : (s : Stmt) → StmtIs s
    statement_runs =
        ind-Stmt BodyIs StmtIs (λ z x e. subst (λ (l : Body-F Body Stmt). BodyIs (roll-Body l)) e (by_body x))
        (λ z x e. subst (λ (l : Stmt-F Body Stmt). StmtIs (roll-Stmt l)) e (by_stmt x))
