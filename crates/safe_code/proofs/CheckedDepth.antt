-- What the rules derive of a statement is nested no deeper than the statement, and has room for the arguments of its calls.
use Rattle.std.proofs.Common.{◌≡◌, ℕ, ◌+◌, ◌≤◌, Bool, true, false, List, [], ◌∷◌, ◌++◌, map, length, Option, Some, None, Result, Ok, Err, slice_get, All, refl, ap, sym, ◌∙◌, subst, arith}
use Rattle.std.specs.Prelude.{max, ◌&&◌}
use Rattle.std.proofs.Math.Nat.{max-le, le-max_left, le-max_right}
use Rattle.std.proofs.lemmas.List.Elements.{All-nil, All-cons, All-head, All-tail}
use Rattle.c_tree.specs.declared.expressions.Expr.{Expr}
use Rattle.c_tree.specs.declared.statements.Body.{Body, roll-Body}
use Rattle.c_tree.specs.declared.statements.Body.TheOpen.{Body-F, Stmt-F}
use Rattle.c_tree.specs.declared.statements.Body.TheFolds.{map-Body, map-Stmt, fold-roll-Body, fold-roll-Stmt, ind-Stmt}
use Rattle.c_tree.specs.declared.statements.Body.TheVariants as body
use Rattle.c_tree.specs.declared.statements.Simple.{Simple}
use Rattle.c_tree.specs.declared.statements.Stmt.{Stmt, roll-Stmt}
use Rattle.c_tree.specs.declared.statements.Stmt.TheVariants as statement
use Rattle.checked_tree.specs.declared.expressions.CheckedExpr.{CheckedExpr}
use Rattle.checked_tree.specs.declared.statements.CheckedStmt.{CheckedStmt}
use Rattle.checked_tree.specs.declared.statements.CheckedStmt.TheVariants as checked_form
use Rattle.checked_tree.proofs.Equations.{at-If, at-While}
use Rattle.deputy_rules.specs.declared.asked.Asked.{Asked}
use Rattle.deputy_rules.specs.declared.signature.Signature.{Signature}
use Rattle.deputy_rules.specs.Checking.{Fault, Checking, with_outcome, afterwards, done, in_turn}
use Rattle.deputy_rules.specs.Context.{Context}
use Rattle.deputy_rules.specs.Numbering.{Numbered, numbered}
use Rattle.deputy_rules.specs.Statements.{Home, numbered_at, with_numbers, simple, condition, single, if_level, while_level, body_level, statement_level, check_statement, check_body, act, statement_context}
use Rattle.safe_code.specs.SourceNesting.{deepest, body_nest, stmt_nest}
use Rattle.safe_code.specs.Runnable.{nest_level, nest, depth, roomy_level, is_roomy, are_roomy}
use Rattle.safe_code.proofs.SimpleForms.{IsSimple, acted}
use Rattle.safe_code.proofs.SourceDepth.{if_nest, else_nest, while_nest, block_nest}

-- ---- what was derived
ok_same : {A : Type 0} (x y : A) → ◌≡◌ {A = Result A Fault} (Ok x) (Ok y) → x ≡ y
ok_same x y h = cc

pub after_ok : {S A B : Type 0} (p : Checking S A) (f : A → Checking S B) (s : S) (r : B × S) → afterwards p f s ≡ Ok r
    → (y : A × S) × (p s ≡ Ok y) × (f y.0 y.1 ≡ Ok r)
unfolding afterwards
after_ok {S} {A} {B} p f s r h = by (p s) refl h
  where
    by : (o : Result (A × S) Fault) → p s ≡ o → with_outcome o f ≡ Ok r → (y : A × S) × (p s ≡ Ok y) × (f y.0 y.1 ≡ Ok r)
    by (Ok y) k h = (y, k, h)
    by (Err e) k h = absurd cc

done_is : {S A : Type 0} (a b : A) (s t : S) → ◌≡◌ {A = Result (A × S) Fault} (done a s) (Ok (b, t)) → a ≡ b
done_is {S} {A} a b s t h = ap (λ (x : A × S). x.0) (ok_same (a, s) (b, t) h)

numbers_ok : {A : Type 0} (line : ℕ) (a : A) (n : Option Numbered) (r : A × Numbered) → with_numbers line a n ≡ Ok r → a ≡ r.0
numbers_ok line a None r h = absurd cc
numbers_ok {A = A} line a (Some n) r h = ap (λ (x : A × Numbered). x.0) (ok_same (a, n) r h)

line_ok : {A : Type 0} (line : ℕ) (b : Numbered) (o : Option (A × List Asked)) (r : A × Numbered) → numbered_at line b o ≡ Ok r
    → (t : List Asked) × (o ≡ Some (r.0, t))
line_ok line b None r h = absurd cc
line_ok line b (Some q) r h = let same = numbers_ok line q.0 (numbered q.1 b) r h in (q.1, ap (λ z. Some (z, q.1)) same)

abbrev Bodies : Type 0
Bodies = Checking Numbered (List CheckedStmt)

abbrev Statements : Type 0
Statements = Checking Numbered CheckedStmt

most : (a b n : ℕ) → a ≤ n → b ≤ n → max a b ≤ n
most a b n h k = max-le h k

-- ---- the forms that were derived
if_depth : (line : ℕ) (x : CheckedExpr) (first second : List CheckedStmt)
    → nest (checked_form.If line x first second) ≡ 1 + max (depth first) (depth second)
unfolding nest
if_depth line x first second = at-If ℕ nest_level line x first second

while_depth : (line : ℕ) (x : CheckedExpr) (inner : List CheckedStmt) → nest (checked_form.While line x inner) ≡ 1 + depth inner
unfolding nest
while_depth line x inner = at-While ℕ nest_level line x inner

if_roomy : (line : ℕ) (x : CheckedExpr) (first second : List CheckedStmt)
    → is_roomy (checked_form.If line x first second) ≡ (are_roomy first && are_roomy second)
unfolding is_roomy
if_roomy line x first second = at-If Bool roomy_level line x first second

while_roomy : (line : ℕ) (x : CheckedExpr) (inner : List CheckedStmt) → is_roomy (checked_form.While line x inner) ≡ are_roomy inner
unfolding is_roomy
while_roomy line x inner = at-While Bool roomy_level line x inner

pub record Within (c : CheckedStmt) (n : ℕ) : Type 0 where
  pub nest : nest c ≤ n
  pub room : is_roomy c ≡ true

pub record AllWithin (cs : List CheckedStmt) (n : ℕ) : Type 0 where
  pub depth : depth cs ≤ n
  pub room : are_roomy cs ≡ true

both_true : (a b : Bool) → a ≡ true → b ≡ true → (a && b) ≡ true
both_true true true p q = refl
both_true true false p q = q
both_true false b p q = p

if_within : (line : ℕ) (x : CheckedExpr) (first second : List CheckedStmt) (n m : ℕ) → AllWithin first n → AllWithin second m
    → Within (checked_form.If line x first second) (1 + max n m)
if_within line x first second n m a b = record {
  nest =
      let form = if_depth line x first second in
      let left = le-max_left n m in
      let right = le-max_right n m in
      let one = a.depth in
      let other = b.depth in
      let most = most (depth first) (depth second) (max n m) (omega arith) (omega arith) in omega arith;
  room = if_roomy line x first second ∙ both_true (are_roomy first) (are_roomy second) a.room b.room;
}

while_within : (line : ℕ) (x : CheckedExpr) (inner : List CheckedStmt) (n : ℕ) → AllWithin inner n
    → Within (checked_form.While line x inner) (1 + n)
while_within line x inner n a = record {
  nest = let form = while_depth line x inner in let one = a.depth in omega arith;
  room = while_roomy line x inner ∙ a.room;
}

-- statements with one more at their end
pushed : (cs : List CheckedStmt) (c : CheckedStmt) (n : ℕ) → AllWithin cs n → Within c n → AllWithin (cs ++ c ∷ []) n
pushed [] c n a w = record { depth = max-le w.nest (omega arith); room = both_true (is_roomy c) true w.room refl }
pushed (d ∷ cs) c n a w =
    let first = le-max_left (nest d) (depth cs) in
    let others = le-max_right (nest d) (depth cs) in
    let deep = a.depth in
    let rest = pushed cs c n (record { depth = omega arith; room = second_true (is_roomy d) (are_roomy cs) a.room }) w in
    record {
      depth = most (nest d) (depth (cs ++ c ∷ [])) (n) (omega arith) rest.depth;
      room =
          both_true (is_roomy d) (are_roomy (cs ++ c ∷ [])) (first_true (is_roomy d) (are_roomy cs) a.room) rest.room;
    }
  where
    first_true : (a b : Bool) → (a && b) ≡ true → a ≡ true
    first_true true b h = refl
    first_true false b h = h

    second_true : (a b : Bool) → (a && b) ≡ true → b ≡ true
    second_true true b h = h
    second_true false b h = absurd cc

weaker : (c : CheckedStmt) (n m : ℕ) → n ≤ m → Within c n → Within c m
weaker c n m h w = record { nest = let small = w.nest in omega arith; room = w.room }

-- ---- statements and bodies by their forms
module _ (ctx : Context) (home : Home) where
  at_simple : (s : Simple) (b : Numbered) → check_statement ctx home (statement.Simple s) b ≡ simple ctx home s b
  unfolding check_statement check_body
  at_simple s b = ap (λ (p : Statements). p b)
      (ap (check_statement ctx home) (sym (statement.rolls-Simple s))
      ∙ fold-roll-Stmt Bodies Statements (body_level ctx home) (statement_level ctx home) (Stmt-F.Simple s))

  at_if : (n : ℕ) (x : Expr) (a : Body) (b : Numbered)
      → check_statement ctx home (statement.If n x a None) b ≡ if_level ctx n x (check_body ctx home a) (done []) b
  unfolding check_statement check_body
  at_if n x a b = ap (λ (p : Statements). p b)
      (ap (check_statement ctx home) (sym (statement.rolls-If n x a None))
      ∙ fold-roll-Stmt Bodies Statements (body_level ctx home) (statement_level ctx home) (Stmt-F.If n x a None))

  at_else : (n : ℕ) (x : Expr) (a c : Body) (b : Numbered)
      → check_statement ctx home (statement.If n x a (Some c)) b ≡ if_level ctx n x (check_body ctx home a) (check_body ctx home c) b
  unfolding check_statement check_body
  at_else n x a c b =
      ap (λ (p : Statements). p b)
      (ap (check_statement ctx home) (sym (statement.rolls-If n x a (Some c)))
      ∙ fold-roll-Stmt Bodies Statements (body_level ctx home) (statement_level ctx home) (Stmt-F.If n x a (Some c)))

  at_while : (n : ℕ) (x : Expr) (a : Body) (b : Numbered)
      → check_statement ctx home (statement.While n x a) b ≡ while_level ctx n x (check_body ctx home a) b
  unfolding check_statement check_body
  at_while n x a b = ap (λ (p : Statements). p b)
      (ap (check_statement ctx home) (sym (statement.rolls-While n x a))
      ∙ fold-roll-Stmt Bodies Statements (body_level ctx home) (statement_level ctx home) (Stmt-F.While n x a))

  at_block : (ss : List Stmt) (b : Numbered) → check_body ctx home (body.Block ss) b ≡ in_turn (map (check_statement ctx home) ss) [] b
  unfolding check_statement check_body
  at_block ss b = ap (λ (p : Bodies). p b)
      (ap (check_body ctx home) (sym (body.rolls-Block ss))
      ∙ fold-roll-Body Bodies Statements (body_level ctx home) (statement_level ctx home) (Body-F.Block ss))

  at_single : (s : Simple) (b : Numbered) → check_body ctx home (body.Single s) b ≡ single ctx home s b
  unfolding check_statement check_body
  at_single s b = ap (λ (p : Bodies). p b)
      (ap (check_body ctx home) (sym (body.rolls-Single s))
      ∙ fold-roll-Body Bodies Statements (body_level ctx home) (statement_level ctx home) (Body-F.Single s))

  module _ (few : (k : ℕ) (f : Signature) → slice_get home.functions k ≡ Some f → length f.params ≤ 128) where
    abbrev StmtWithin : Stmt → Type 0
    StmtWithin s = (b : Numbered) (r : CheckedStmt × Numbered) → check_statement ctx home s b ≡ Ok r → Within r.0 (stmt_nest s)

    abbrev BodyWithin : Body → Type 0
    BodyWithin a = (b : Numbered) (r : List CheckedStmt × Numbered) → check_body ctx home a b ≡ Ok r → AllWithin r.0 (body_nest a)

    simple_is : (s : Simple) (b : Numbered) (r : CheckedStmt × Numbered) → simple ctx home s b ≡ Ok r → IsSimple r.0
    unfolding simple
    simple_is s b r h =
        let here = statement_context ctx s.line b in
        let found = line_ok s.line b (act here home s.action []) r h in
        (acted here home few s.action).run [] r.0 found.0 found.1

    simple_within : (s : Simple) → StmtWithin (statement.Simple s)
    simple_within s b r h = let one = simple_is s b r (sym (at_simple s b) ∙ h) in let flat = one.nest in
        record { nest = omega arith; room = one.room }

    single_within : (s : Simple) → BodyWithin (body.Single s)
    unfolding single
    single_within s b r h =
        let found = after_ok (simple ctx home s) (λ x. done (x ∷ [])) b r (sym (at_single s b) ∙ h) in
        let one = simple_is s b found.0 found.1 in
        let flat = one.nest in
        subst (λ cs. AllWithin cs (body_nest (body.Single s))) (done_is (found.0.0 ∷ []) r.0 found.0.1 r.1 found.2)
        (record {
          depth = most (nest found.0.0) (0) (body_nest (body.Single s)) (omega arith) (omega arith);
          room =
              both_true (is_roomy found.0.0) true one.room refl;
        })

    abbrev AllDerived : Bodies → ℕ → Type 0
    AllDerived p n = (b : Numbered) (r : List CheckedStmt × Numbered) → p b ≡ Ok r → AllWithin r.0 n

    if_derived : (n : ℕ) (x : Expr) (p q : Bodies) (j k : ℕ) → AllDerived p j → AllDerived q k
        → (b : Numbered) (r : CheckedStmt × Numbered) → if_level ctx n x p q b ≡ Ok r → Within r.0 (1 + max j k)
    if_derived n x p q j k one other b r h =
        let test = after_ok (condition ctx n x)
        (λ y. afterwards p (λ first. afterwards q (λ second. done (checked_form.If n y first second)))) b r h in
        let first = after_ok p (λ first. afterwards q (λ second. done (checked_form.If n test.0.0 first second))) test.0.1 r test.2 in
        let second = after_ok q (λ second. done (checked_form.If n test.0.0 first.0.0 second)) first.0.1 r first.2 in
        subst (λ c. Within c (1 + max j k)) (done_is (checked_form.If n test.0.0 first.0.0 second.0.0) r.0 second.0.1 r.1 second.2)
        (if_within n test.0.0 first.0.0 second.0.0 j k (one test.0.1 first.0 first.1) (other first.0.1 second.0 second.1))

    nothing_derived : AllDerived (done []) 0
    nothing_derived b r h = subst (λ cs. AllWithin cs 0) (done_is [] r.0 b r.1 h) (record { depth = omega arith; room = refl })

    if_source : (n : ℕ) (x : Expr) (a : Body) → BodyWithin a → StmtWithin (statement.If n x a None)
    if_source n x a w b r h =
        subst (λ m. Within r.0 m) (sym (if_nest n x a))
        (if_derived n x (check_body ctx home a) (done []) (body_nest a) 0 w nothing_derived b r (sym (at_if n x a b) ∙ h))

    else_source : (n : ℕ) (x : Expr) (a c : Body) → BodyWithin a → BodyWithin c → StmtWithin (statement.If n x a (Some c))
    else_source n x a c w v b r h =
        subst (λ m. Within r.0 m) (sym (else_nest n x a c))
        (if_derived n x (check_body ctx home a) (check_body ctx home c) (body_nest a) (body_nest c) w v b r
        (sym (at_else n x a c b) ∙ h))

    while_source : (n : ℕ) (x : Expr) (a : Body) → BodyWithin a → StmtWithin (statement.While n x a)
    while_source n x a w b r h =
        let test = after_ok (condition ctx n x) (λ y. afterwards (check_body ctx home a) (λ inner. done (checked_form.While n y inner))) b r
        (sym (at_while n x a b) ∙ h) in
        let inner = after_ok (check_body ctx home a) (λ inner. done (checked_form.While n test.0.0 inner)) test.0.1 r test.2 in
        subst (λ m. Within r.0 m) (sym (while_nest n x a))
        (subst (λ c. Within c (1 + body_nest a)) (done_is (checked_form.While n test.0.0 inner.0.0) r.0 inner.0.1 r.1 inner.2)
        (while_within n test.0.0 inner.0.0 (body_nest a) (w test.0.1 inner.0 inner.1)))

    -- statements in turn
    turns_within : (ss : List Stmt) (n : ℕ) → All StmtWithin ss → deepest (map stmt_nest ss) ≤ n
        → (values : List CheckedStmt) (b : Numbered) (r : List CheckedStmt × Numbered)
        → AllWithin values n → in_turn (map (check_statement ctx home) ss) values b ≡ Ok r → AllWithin r.0 n
    turns_within [] n all few values b r a h = subst (λ cs. AllWithin cs n) (done_is values r.0 b r.1 h) a
    turns_within (s ∷ ss) n all few values b r a h =
        let first = after_ok (check_statement ctx home s) (λ c. in_turn (map (check_statement ctx home) ss) (values ++ c ∷ [])) b r h in
        let left = le-max_left (stmt_nest s) (deepest (map stmt_nest ss)) in
        let right = le-max_right (stmt_nest s) (deepest (map stmt_nest ss)) in
        let one = weaker first.0.0 (stmt_nest s) n (omega arith) (All-head StmtWithin s ss all b first.0 first.1) in
        turns_within ss n (All-tail StmtWithin s ss all) (omega arith) (values ++ first.0.0 ∷ []) first.0.1 r
        (pushed values first.0.0 n a one) first.2

    block_source : (ss : List Stmt) → All StmtWithin ss → BodyWithin (body.Block ss)
    block_source ss all b r h =
        subst (λ m. AllWithin r.0 m) (sym (block_nest ss))
        (turns_within ss (deepest (map stmt_nest ss)) all (omega arith) [] b r (record { depth = omega arith; room = refl })
        (sym (at_block ss b) ∙ h))

    -- ---- every statement
    abbrev WithinBody : Type 0
    WithinBody = (a : Body) × BodyWithin a

    abbrev WithinStmt : Type 0
    WithinStmt = (s : Stmt) × StmtWithin s

    all_are : (ks : List WithinStmt) → All StmtWithin (map (λ (k : WithinStmt). k.0) ks)
    all_are [] = All-nil StmtWithin
    all_are (k ∷ ks) = All-cons StmtWithin k.0 (map (λ (j : WithinStmt). j.0) ks) k.1 (all_are ks)

    by_body : (x : Body-F WithinBody WithinStmt) → BodyWithin (roll-Body (map-Body WithinBody WithinStmt Body Stmt (λ k. k.0) (λ k. k.0) x))
    by_body (Body-F.Block ks) = let ss = map (λ (k : WithinStmt). k.0) ks in
        subst BodyWithin (sym (body.rolls-Block ss)) (block_source ss (all_are ks))
    by_body (Body-F.Single s) = subst BodyWithin (sym (body.rolls-Single s)) (single_within s)

    by_stmt : (x : Stmt-F WithinBody WithinStmt) → StmtWithin (roll-Stmt (map-Stmt WithinBody WithinStmt Body Stmt (λ k. k.0) (λ k. k.0) x))
    by_stmt (Stmt-F.Simple s) = subst StmtWithin (sym (statement.rolls-Simple s)) (simple_within s)
    by_stmt (Stmt-F.If n x a None) = subst StmtWithin (sym (statement.rolls-If n x a.0 None)) (if_source n x a.0 a.1)
    by_stmt (Stmt-F.If n x a (Some c)) = subst StmtWithin (sym (statement.rolls-If n x a.0 (Some c.0))) (else_source n x a.0 c.0 a.1 c.1)
    by_stmt (Stmt-F.While n x a) = subst StmtWithin (sym (statement.rolls-While n x a.0)) (while_source n x a.0 a.1)

    stmt_within : (s : Stmt) → StmtWithin s
    stmt_within =
        ind-Stmt BodyWithin StmtWithin (λ z x e. subst (λ (l : Body-F Body Stmt). BodyWithin (roll-Body l)) e (by_body x))
        (λ z x e. subst (λ (l : Stmt-F Body Stmt). StmtWithin (roll-Stmt l)) e (by_stmt x))

    every_one : (ss : List Stmt) → All StmtWithin ss
    every_one [] = All-nil StmtWithin
    every_one (s ∷ ss) = All-cons StmtWithin s ss (stmt_within s) (every_one ss)

    -- the statements of a function, in turn
    pub statements_within : (ss : List Stmt) (b : Numbered) (r : List CheckedStmt × Numbered)
        → in_turn (map (check_statement ctx home) ss) [] b ≡ Ok r → AllWithin r.0 (deepest (map stmt_nest ss))
    statements_within ss b r h =
        turns_within ss (deepest (map stmt_nest ss)) (every_one ss) (omega arith) [] b r (record { depth = omega arith; room = refl }) h
