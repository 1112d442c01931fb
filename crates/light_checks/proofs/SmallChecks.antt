-- Each check of a unit that the rules derive is small.
use Rattle.std.proofs.Common.{◌≡◌, ℕ, Bool, true, false, not, List, [], ◌∷◌, ◌++◌, map, length, Option, Some, None, Result, Ok, Err, if◌then◌else◌, All, refl, sym, ap, ◌∙◌, subst}
use Rattle.std.proofs.lemmas.List.Elements.{All-nil, All-cons, All-head, All-tail, All-push}
use Rattle.c_tree.specs.declared.expressions.Expr.{Expr}
use Rattle.c_tree.specs.declared.items.Function.{Function}
use Rattle.c_tree.specs.declared.items.Item.{Item}
use Rattle.c_tree.specs.declared.items.Item.TheVariants as item
use Rattle.c_tree.specs.declared.items.Unit.{Unit as TextUnit}
use Rattle.c_tree.specs.declared.limits.LimitKind.TheVariants.{Locals}
use Rattle.c_tree.specs.declared.statements.Body.{Body, map-Body, roll-Body}
use Rattle.c_tree.specs.declared.statements.Body.TheFolds.{ind-Stmt}
use Rattle.c_tree.specs.declared.statements.Body.TheOpen.{Body-F, Stmt-F}
use Rattle.c_tree.specs.declared.statements.Body.TheVariants as body
use Rattle.c_tree.specs.declared.statements.Simple.{Simple}
use Rattle.c_tree.specs.declared.statements.Stmt.{Stmt, map-Stmt, roll-Stmt}
use Rattle.c_tree.specs.declared.statements.Stmt.TheVariants as statement
use Rattle.checked_tree.specs.declared.statements.CheckedStmt.{CheckedStmt}
use Rattle.checked_tree.specs.declared.units.CheckedFn.{CheckedFn}
use Rattle.checked_tree.specs.declared.units.CheckedUnit.{CheckedUnit}
use Rattle.deputy_rules.specs.declared.asked.Asked.{Asked}
use Rattle.deputy_rules.specs.declared.signature.Returned.{Returned}
use Rattle.deputy_rules.specs.Checking.{Fault, NoRule, Limit, Checking, with_outcome, afterwards, done, in_turn}
use Rattle.deputy_rules.specs.Context.{Context}
use Rattle.deputy_rules.specs.Functions.{text_of, context_of, no_checks, checked_function, finished, check_statements, check_declared, check_result, check_function, wrong_prototype, behind_prototype, behind_function, check_items, checked_with, checked}
use Rattle.deputy_rules.specs.Heads.{SeenText, function_stands, is_over, result_of, wrong_declaration}
use Rattle.deputy_rules.specs.Numbering.{Numbered, numbered}
use Rattle.deputy_rules.specs.Statements.{Home, numbered_at, with_numbers, simple, condition, single, check_statement, check_body, act, controlling, statement_context}
use Rattle.deputy_types.specs.Table.{Table}
use Rattle.light_checks.specs.SumLimits.{IsSmallCheck}
use Rattle.light_checks.proofs.Bodies.{at_simple, at_if, at_else, at_while, at_block, at_single}
use Rattle.light_checks.proofs.SmallForms.{AreSmall, numbered_small}

-- ---- what is derived keeps the checks small
pub record Keeps {A : Type 0} (p : Checking Numbered A) : Type 0 where
  pub run : (b : Numbered) (a : A) (n : Numbered) → p b ≡ Ok (a, n) → AreSmall b → AreSmall n

ok_pair : {A : Type 0} (a c : A) (b n : Numbered) → ◌≡◌ {A = Result (A × Numbered) Fault} (Ok (a, b)) (Ok (c, n)) → b ≡ n
ok_pair {A} a c b n h = let e : ◌≡◌ {A = A × Numbered} (a, b) (c, n) = cc in ap (λ (x : A × Numbered). x.1) e

done_keeps : {A : Type 0} (a : A) → Keeps (done a)
done_keeps a = record { run = λ b c n h is. subst AreSmall (ok_pair a c b n h) is }

after_keeps : {A B : Type 0} (p : Checking Numbered A) (f : A → Checking Numbered B) → Keeps p → ((a : A) → Keeps (f a)) → Keeps (afterwards p f)
unfolding afterwards
after_keeps {A} {B} p f k g = record { run = λ b c n h is. by b c n (p b) refl h is }
  where
    by : (b : Numbered) (c : B) (n : Numbered) (o : Result (A × Numbered) Fault) → p b ≡ o → with_outcome o f ≡ Ok (c, n) → AreSmall b → AreSmall n
    by b c n (Ok r) e h is = (g r.0).run r.1 c n h (k.run b r.0 r.1 e is)
    by b c n (Err d) e h is = absurd cc

numbers_keep : {A : Type 0} (line : ℕ) (b : Numbered) (o : Option (A × List Asked)) (a : A) (n : Numbered) → numbered_at line b o ≡ Ok (a, n) → AreSmall b → AreSmall n
numbers_keep line b None a n h is = absurd cc
numbers_keep {A} line b (Some r) a n h is = by (numbered r.1 b) refl h
  where
    by : (m : Option Numbered) → numbered r.1 b ≡ m → with_numbers line r.0 m ≡ Ok (a, n) → AreSmall n
    by None e h = absurd cc
    by (Some m) e h = subst AreSmall (ok_pair r.0 a m n h) (numbered_small r.1 b m e is)

turn_keeps : {A : Type 0} (ps : List (Checking Numbered A)) → All Keeps ps → (values : List A) → Keeps (in_turn ps values)
turn_keeps [] all values = done_keeps values
turn_keeps (p ∷ ps) all values =
    after_keeps p (λ a. in_turn ps (values ++ a ∷ [])) (All-head Keeps p ps all) (λ a. turn_keeps ps (All-tail Keeps p ps all) (values ++ a ∷ []))

-- what is the same at each state
same_keeps : {A : Type 0} (p q : Checking Numbered A) → ((b : Numbered) → q b ≡ p b) → Keeps p → Keeps q
same_keeps p q e k = record { run = λ b a n h is. k.run b a n (sym (e b) ∙ h) is }

-- ---- statements and bodies
module _ (ctx : Context) (home : Home) where
  simple_keeps : (s : Simple) → Keeps (simple ctx home s)
  unfolding simple
  simple_keeps s = record { run = λ b a n h is. numbers_keep s.line b (act (statement_context ctx s.line b) home s.action []) a n h is }

  condition_keeps : (line : ℕ) (e : Expr) → Keeps (condition ctx line e)
  unfolding condition
  condition_keeps line e = record { run = λ b a n h is. numbers_keep line b (controlling (statement_context ctx line b) e []) a n h is }

  abbrev StmtKeeps : Stmt → Type 0
  StmtKeeps s = Keeps (check_statement ctx home s)

  abbrev BodyKeeps : Body → Type 0
  BodyKeeps a = Keeps (check_body ctx home a)

  single_keeps : (s : Simple) → BodyKeeps (body.Single s)
  unfolding single
  single_keeps s = same_keeps (single ctx home s) (check_body ctx home (body.Single s)) (at_single ctx home s) (after_keeps (simple ctx home s) _ (simple_keeps s) (λ x. done_keeps (x ∷ [])))

  if_keeps : (n : ℕ) (x : Expr) (a : Body) → BodyKeeps a → StmtKeeps (statement.If n x a None)
  if_keeps n x a k =
      same_keeps _ (check_statement ctx home (statement.If n x a None)) (at_if ctx home n x a)
      (after_keeps (condition ctx n x) _ (condition_keeps n x) (λ y. after_keeps (check_body ctx home a) _ k (λ z. after_keeps (done []) _ (done_keeps []) (λ w. done_keeps _))))

  else_keeps : (n : ℕ) (x : Expr) (a c : Body) → BodyKeeps a → BodyKeeps c → StmtKeeps (statement.If n x a (Some c))
  else_keeps n x a c k l =
      same_keeps _ (check_statement ctx home (statement.If n x a (Some c))) (at_else ctx home n x a c)
      (after_keeps (condition ctx n x) _ (condition_keeps n x) (λ y. after_keeps (check_body ctx home a) _ k (λ z. after_keeps (check_body ctx home c) _ l (λ w. done_keeps _))))

  while_keeps : (n : ℕ) (x : Expr) (a : Body) → BodyKeeps a → StmtKeeps (statement.While n x a)
  while_keeps n x a k =
      same_keeps _ (check_statement ctx home (statement.While n x a)) (at_while ctx home n x a)
      (after_keeps (condition ctx n x) _ (condition_keeps n x) (λ y. after_keeps (check_body ctx home a) _ k (λ z. done_keeps _)))

  each_keeps : (ss : List Stmt) → All StmtKeeps ss → All Keeps (map (check_statement ctx home) ss)
  each_keeps [] all = All-nil Keeps
  each_keeps (s ∷ ss) all = All-cons Keeps (check_statement ctx home s) (map (check_statement ctx home) ss) (All-head StmtKeeps s ss all) (each_keeps ss (All-tail StmtKeeps s ss all))

  block_keeps : (ss : List Stmt) → All StmtKeeps ss → BodyKeeps (body.Block ss)
  block_keeps ss all =
      same_keeps (in_turn (map (check_statement ctx home) ss) []) (check_body ctx home (body.Block ss)) (at_block ctx home ss) (turn_keeps (map (check_statement ctx home) ss) (each_keeps ss all) [])

  abbrev KeepingBody : Type 0
  KeepingBody = (a : Body) × BodyKeeps a

  abbrev KeepingStmt : Type 0
  KeepingStmt = (s : Stmt) × StmtKeeps s

  all_keep : (ks : List KeepingStmt) → All StmtKeeps (map (λ (k : KeepingStmt). k.0) ks)
  all_keep [] = All-nil StmtKeeps
  all_keep (k ∷ ks) = All-cons StmtKeeps k.0 (map (λ (j : KeepingStmt). j.0) ks) k.1 (all_keep ks)

  by_body : (x : Body-F KeepingBody KeepingStmt) → BodyKeeps (roll-Body (map-Body KeepingBody KeepingStmt Body Stmt (λ k. k.0) (λ k. k.0) x))
  by_body (Body-F.Block ks) = let ss = map (λ (k : KeepingStmt). k.0) ks in subst BodyKeeps (sym (body.rolls-Block ss)) (block_keeps ss (all_keep ks))
  by_body (Body-F.Single s) = subst BodyKeeps (sym (body.rolls-Single s)) (single_keeps s)

  by_stmt : (x : Stmt-F KeepingBody KeepingStmt) → StmtKeeps (roll-Stmt (map-Stmt KeepingBody KeepingStmt Body Stmt (λ k. k.0) (λ k. k.0) x))
  by_stmt (Stmt-F.Simple s) =
      subst StmtKeeps (sym (statement.rolls-Simple s)) (same_keeps (simple ctx home s) (check_statement ctx home (statement.Simple s)) (at_simple ctx home s) (simple_keeps s))
  by_stmt (Stmt-F.If n x a None) = subst StmtKeeps (sym (statement.rolls-If n x a.0 None)) (if_keeps n x a.0 a.1)
  by_stmt (Stmt-F.If n x a (Some c)) = subst StmtKeeps (sym (statement.rolls-If n x a.0 (Some c.0))) (else_keeps n x a.0 c.0 a.1 c.1)
  by_stmt (Stmt-F.While n x a) = subst StmtKeeps (sym (statement.rolls-While n x a.0)) (while_keeps n x a.0 a.1)

  stmt_keeps : (s : Stmt) → StmtKeeps s
  stmt_keeps =
      ind-Stmt BodyKeeps StmtKeeps (λ z x e. subst (λ (l : Body-F Body Stmt). BodyKeeps (roll-Body l)) e (by_body x)) (λ z x e. subst (λ (l : Stmt-F Body Stmt). StmtKeeps (roll-Stmt l)) e (by_stmt x))

  every_one : (ss : List Stmt) → All StmtKeeps ss
  every_one [] = All-nil StmtKeeps
  every_one (s ∷ ss) = All-cons StmtKeeps s ss (stmt_keeps s) (every_one ss)

-- ---- functions and whole texts
abbrev pub IsSmallFn : CheckedFn → Type 0
IsSmallFn f = All IsSmallCheck f.checks

same_fn : (a b : CheckedFn) → ◌≡◌ {A = Result CheckedFn Fault} (Ok a) (Ok b) → a ≡ b
same_fn a b h = cc

module _ (text : SeenText) where
  abbrev at_home : Returned → Home
  at_home r = record { functions = text.functions; result = r }

  statements_small : (f : Function) (r : Returned) (ctx : Context) (g : CheckedFn) → check_statements text f r ctx ≡ Ok g → IsSmallFn g
  unfolding check_statements
  statements_small f r ctx g h = by (in_turn (map (check_statement ctx (at_home r)) f.body) [] no_checks) refl h
    where
      kept : Keeps (in_turn (map (check_statement ctx (at_home r)) f.body) [])
      kept = turn_keeps (map (check_statement ctx (at_home r)) f.body) (each_keeps ctx (at_home r) f.body (every_one ctx (at_home r) f.body)) []

      by : (o : Result (List CheckedStmt × Numbered) Fault) → in_turn (map (check_statement ctx (at_home r)) f.body) [] no_checks ≡ o → finished ctx f r o ≡ Ok g → IsSmallFn g
      by (Ok b) e h = subst IsSmallFn (same_fn (checked_function ctx f r b.0 b.1) g h) (kept.run no_checks b.0 b.1 e (All-nil IsSmallCheck))
      by (Err d) e h = absurd cc

  declared_small : (f : Function) (r : Returned) (ctx : Context) (o : Option ℕ) (g : CheckedFn) → check_declared text f r ctx o ≡ Ok g → IsSmallFn g
  declared_small f r ctx (Some line) g h = absurd cc
  declared_small f r ctx None g h = statements_small f r ctx g h

  result_small : (f : Function) (o : Option Returned) (ctx : Context) (g : CheckedFn) → check_result text f o ctx ≡ Ok g → IsSmallFn g
  result_small f None ctx g h = absurd cc
  result_small f (Some r) ctx g h = declared_small f r ctx (wrong_declaration ctx.locals ctx.slots f) g h

  function_small : (k : ℕ) (f : Function) (g : CheckedFn) → check_function text k f ≡ Ok g → IsSmallFn g
  unfolding check_function
  function_small k f g h = by (function_stands text k f.head) (is_over f) h
    where
      by : (a b : Bool) → (if not a then Err (NoRule f.head.line) else (if b then Err (Limit f.head.line Locals) else check_result text f (result_of text.table f.head) (context_of text.table f))) ≡ Ok g
          → IsSmallFn g
      by false b h = absurd cc
      by true true h = absurd cc
      by true false h = result_small f (result_of text.table f.head) (context_of text.table f) g h

  items_small : (xs : List Item) (before out : List CheckedFn) → All IsSmallFn before → check_items text xs before ≡ Ok out → All IsSmallFn out
  items_small [] before out all h = let e : before ≡ out = cc in subst (All IsSmallFn) e all
  items_small (item.Struct s ∷ xs) before out all h = items_small xs before out all h
  items_small (item.Global g ∷ xs) before out all h = items_small xs before out all h
  items_small (item.Function f ∷ xs) before out all h = by (check_function text (length before) f) refl h (λ b more k. items_small xs b out more k)
    where
      by : (o : Result CheckedFn Fault) → check_function text (length before) f ≡ o → behind_function before o (check_items text xs) ≡ Ok out
          → ((b : List CheckedFn) → All IsSmallFn b → check_items text xs b ≡ Ok out → All IsSmallFn out) → All IsSmallFn out
      by (Ok g) e h rest = rest (before ++ g ∷ []) (All-push IsSmallFn before g all (function_small (length before) f g e)) h
      by (Err d) e h rest = absurd cc
  items_small (item.Prototype p ∷ xs) before out all h = by (wrong_prototype text p) h (items_small xs before out all)
    where
      by : (o : Option ℕ) → behind_prototype o (check_items text xs before) ≡ Ok out → (check_items text xs before ≡ Ok out → All IsSmallFn out) → All IsSmallFn out
      by None h rest = rest h
      by (Some line) h rest = absurd cc

pub unit_small : (u : TextUnit) (t : Table) (c : CheckedUnit) → checked t u ≡ Ok c → All IsSmallFn c.functions
unfolding checked
unit_small u t c h = by (check_items (text_of t u.items) u.items []) refl h
  where
    by : (o : Result (List CheckedFn) Fault) → check_items (text_of t u.items) u.items [] ≡ o → checked_with t o ≡ Ok c → All IsSmallFn c.functions
    by (Ok fs) e h =
        let same : record { functions = fs; image = t.image; structs = t.structs; elems = t.elems } ≡ c = cc in
        subst (λ (x : CheckedUnit). All IsSmallFn x.functions) same (items_small (text_of t u.items) u.items [] fs (All-nil IsSmallFn) e)
    by (Err d) e h = absurd cc
