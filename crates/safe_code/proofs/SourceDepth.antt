-- In a short function statements stand at most 64 deep in one another, since each that stands in a body with braces has one more
-- bracket open.
use Rattle.std.proofs.Common.{◌≡◌, ◌⊎◌, inl, inr, ℕ, ◌+◌, ◌-◌, ◌≤◌, nat_le, List, [], ◌∷◌, ◌++◌, map, flat_map, Bool, true, false, Some, None, All, refl, ap, sym, ◌∙◌, subst, append_assoc, arith}
use Rattle.std.proofs.Math.Nat.{max-eq_left, max-eq_right}
use Rattle.std.specs.Prelude.{max}
use Rattle.std.proofs.lemmas.Bool.Decides.{nat_tests}
use Rattle.std.proofs.lemmas.List.Elements.{All-nil, All-cons, All-head, All-tail}
use Rattle.c_tree.specs.declared.expressions.Expr.{Expr}
use Rattle.c_tree.specs.declared.items.Function.{Function}
use Rattle.c_tree.specs.declared.items.Head.{Head}
use Rattle.c_tree.specs.declared.keywords.Keyword.TheVariants as keyword
use Rattle.c_tree.specs.declared.signs.Sign.TheVariants as sign
use Rattle.c_tree.specs.declared.statements.Body.{Body, roll-Body}
use Rattle.c_tree.specs.declared.statements.Body.TheOpen.{Body-F, Stmt-F}
use Rattle.c_tree.specs.declared.statements.Body.TheFolds.{map-Body, map-Stmt, fold-roll-Body, fold-roll-Stmt, ind-Stmt}
use Rattle.c_tree.specs.declared.statements.Body.TheVariants as body
use Rattle.c_tree.specs.declared.statements.Simple.{Simple}
use Rattle.c_tree.specs.declared.statements.Stmt.{Stmt, roll-Stmt}
use Rattle.c_tree.specs.declared.statements.Stmt.TheVariants as statement
use Rattle.c_tree.specs.declared.words.Word.{Word}
use Rattle.c_tree.specs.ItemGrammar.{added_return}
use Rattle.c_tree.specs.ShortUnit.{IsShortFunction}
use Rattle.c_tree.specs.Spelling.{a_sign, a_keyword, in_parentheses, spelled}
use Rattle.c_tree.specs.StatementSpelling.{body_words, statement_words}
use Rattle.c_tree.specs.UnitSpelling.{static_words, head_words, local_words, written_statements}
use Rattle.c_tree.proofs.ShortFunctions.{written_of}
use Rattle.c_tree.proofs.StatementForms.{simple_words, if_words, else_words, while_words, block_words, single_words}
use Rattle.safe_code.specs.SourceNesting.{deepest, body_nest_level, stmt_nest_level, body_nest, stmt_nest}
use Rattle.safe_code.proofs.BracketsKept.{opens, opens_both, Keeps, open_append, keeps_nil, keeps_both, keeps_between, keeps_parentheses, keeps_keyword, keeps_expr, keeps_action, keeps_locals}

-- words within which so many more brackets are open somewhere than before them
pub record Rises (ks : List Word) (k : ℕ) : Type 0 where
  pub before : List Word
  pub after : List Word
  pub split : ks ≡ before ++ after
  pub deep : (n : ℕ) → n + k ≤ opens n before

rises_none : (ks : List Word) → Rises ks 0
rises_none ks = record { before = []; after = ks; split = refl; deep = λ n. omega arith }

rises_less : (ks : List Word) (j k : ℕ) → j ≤ k → Rises ks k → Rises ks j
rises_less ks j k h r = record { before = r.before; after = r.after; split = r.split; deep = λ n. let more = r.deep n in omega arith }

rises_behind : (a b : List Word) (k : ℕ) → Keeps a → Rises b k → Rises (a ++ b) k
rises_behind a b k x r = record {
  before = a ++ r.before;
  after = r.after;
  split = ap (λ z. a ++ z) r.split ∙ sym (append_assoc a r.before r.after);
  deep = λ n. let first = x.run n in let second = r.deep (opens n a) in let both : n + k ≤ opens (opens n a) r.before = omega arith in
      subst (λ m. n + k ≤ m) (sym (opens_both n a r.before)) both;
}

rises_front : (a b : List Word) (k : ℕ) → Rises a k → Rises (a ++ b) k
rises_front a b k r = record {
  before = r.before;
  after = r.after ++ b;
  split = ap (λ z. z ++ b) r.split ∙ append_assoc r.before r.after b;
  deep = r.deep;
}

rises_open : (ks : List Word) (k : ℕ) → Rises ks k → Rises (a_sign sign.BraceOpen ++ ks) (k + 1)
rises_open ks k r = record {
  before = a_sign sign.BraceOpen ++ r.before;
  after = r.after;
  split = ap (λ z. a_sign sign.BraceOpen ++ z) r.split;
  deep = λ n. let more = r.deep (n + 1) in omega arith;
}

either_way : (j k : ℕ) → (j ≤ k) ⊎ (k ≤ j)
either_way j k = by (nat_le j k) refl
  where
    by : (b : Bool) → nat_le j k ≡ b → (j ≤ k) ⊎ (k ≤ j)
    by true h = inl (grind (arith, nat_tests))
    by false h = inr (grind (arith, nat_tests))

zero_max : (j : ℕ) → max j 0 ≡ j
zero_max j = max-eq_left (omega arith)

-- the greater of two
rises_max : (ks : List Word) (j k : ℕ) → Rises ks (j - 1) → Rises ks (k - 1) → Rises ks (max j k - 1)
rises_max ks j k p q = by (either_way j k)
  where
    by : (j ≤ k) ⊎ (k ≤ j) → Rises ks (max j k - 1)
    by (inl h) = subst (λ m. Rises ks (m - 1)) (sym (max-eq_right h)) q
    by (inr h) = subst (λ m. Rises ks (m - 1)) (sym (max-eq_left h)) p

rises_max_of : (ks : List Word) (j k : ℕ) → Rises ks j → Rises ks k → Rises ks (max j k)
rises_max_of ks j k p q = by (either_way j k)
  where
    by : (j ≤ k) ⊎ (k ≤ j) → Rises ks (max j k)
    by (inl h) = subst (λ m. Rises ks m) (sym (max-eq_right h)) q
    by (inr h) = subst (λ m. Rises ks m) (sym (max-eq_left h)) p

-- ---- the depth of each form
pub simple_nest : (s : Simple) → stmt_nest (statement.Simple s) ≡ 0
unfolding body_nest stmt_nest
simple_nest s = ap stmt_nest (sym (statement.rolls-Simple s)) ∙ fold-roll-Stmt ℕ ℕ body_nest_level stmt_nest_level (Stmt-F.Simple s)

pub if_nest : (n : ℕ) (x : Expr) (b : Body) → stmt_nest (statement.If n x b None) ≡ 1 + max (body_nest b) 0
unfolding body_nest stmt_nest
if_nest n x b = ap stmt_nest (sym (statement.rolls-If n x b None))
    ∙ fold-roll-Stmt ℕ ℕ body_nest_level stmt_nest_level (Stmt-F.If n x b None)

pub else_nest : (n : ℕ) (x : Expr) (b c : Body) → stmt_nest (statement.If n x b (Some c)) ≡ 1 + max (body_nest b) (body_nest c)
unfolding body_nest stmt_nest
else_nest n x b c = ap stmt_nest (sym (statement.rolls-If n x b (Some c)))
    ∙ fold-roll-Stmt ℕ ℕ body_nest_level stmt_nest_level (Stmt-F.If n x b (Some c))

pub while_nest : (n : ℕ) (x : Expr) (b : Body) → stmt_nest (statement.While n x b) ≡ 1 + body_nest b
unfolding body_nest stmt_nest
while_nest n x b = ap stmt_nest (sym (statement.rolls-While n x b))
    ∙ fold-roll-Stmt ℕ ℕ body_nest_level stmt_nest_level (Stmt-F.While n x b)

pub block_nest : (ss : List Stmt) → body_nest (body.Block ss) ≡ deepest (map stmt_nest ss)
unfolding body_nest stmt_nest
block_nest ss = ap body_nest (sym (body.rolls-Block ss)) ∙ fold-roll-Body ℕ ℕ body_nest_level stmt_nest_level (Body-F.Block ss)

pub single_nest : (s : Simple) → body_nest (body.Single s) ≡ 0
unfolding body_nest stmt_nest
single_nest s = ap body_nest (sym (body.rolls-Single s)) ∙ fold-roll-Body ℕ ℕ body_nest_level stmt_nest_level (Body-F.Single s)

-- ---- statements and bodies
pub record Statement (s : Stmt) : Type 0 where
  pub keeps : Keeps (statement_words s)
  pub rises : Rises (statement_words s) (stmt_nest s - 1)

pub record Inner (b : Body) : Type 0 where
  pub keeps : Keeps (body_words b)
  pub rises : Rises (body_words b) (body_nest b)

simple_is : (s : Simple) → Statement (statement.Simple s)
simple_is s = record {
  keeps = subst Keeps (sym (simple_words s)) (keeps_action s.action);
  rises = rises_less _ (stmt_nest (statement.Simple s) - 1) 0 (let flat = simple_nest s in omega arith) (rises_none _);
}

single_is : (s : Simple) → Inner (body.Single s)
single_is s = record {
  keeps = subst Keeps (sym (single_words s)) (keeps_action s.action);
  rises = rises_less _ (body_nest (body.Single s)) 0 (let flat = single_nest s in omega arith) (rises_none _);
}

-- a word and a condition in parentheses
keeps_test : (x : Expr) (k : List Word) → Keeps k → Keeps (k ++ in_parentheses (spelled x))
keeps_test x k h = keeps_both k (in_parentheses (spelled x)) h (keeps_parentheses (spelled x) (keeps_expr x))

tested_keeps : (x : Expr) (k ks : List Word) → Keeps k → Keeps ks → Keeps (k ++ (in_parentheses (spelled x) ++ ks))
tested_keeps x k ks h r = keeps_both k _ h (keeps_both (in_parentheses (spelled x)) ks (keeps_parentheses (spelled x) (keeps_expr x)) r)

tested_rises : (x : Expr) (k ks : List Word) (n : ℕ) → Keeps k → Rises ks n → Rises (k ++ (in_parentheses (spelled x) ++ ks)) n
tested_rises x k ks n h r =
    rises_behind k _ n h (rises_behind (in_parentheses (spelled x)) ks n (keeps_parentheses (spelled x) (keeps_expr x)) r)

if_is : (n : ℕ) (x : Expr) (b : Body) → Inner b → Statement (statement.If n x b None)
if_is n x b i = record {
  keeps = subst Keeps (sym (if_words n x b))
      (tested_keeps x (a_keyword keyword.If) (body_words b ++ []) (keeps_keyword keyword.If)
      (keeps_both (body_words b) [] i.keeps keeps_nil));
  rises = subst (λ z. Rises z (stmt_nest (statement.If n x b None) - 1)) (sym (if_words n x b))
      (rises_less _ (stmt_nest (statement.If n x b None) - 1) (body_nest b)
      (let deep = if_nest n x b in let same = zero_max (body_nest b) in omega arith)
      (tested_rises x (a_keyword keyword.If) (body_words b ++ []) (body_nest b) (keeps_keyword keyword.If)
      (rises_front (body_words b) [] (body_nest b) i.rises)));
}

else_is : (n : ℕ) (x : Expr) (b c : Body) → Inner b → Inner c → Statement (statement.If n x b (Some c))
else_is n x b c i j =
    let tail = a_keyword keyword.Else ++ body_words c in
    let deep = else_nest n x b c in
    record {
      keeps = subst Keeps (sym (else_words n x b c))
          (tested_keeps x (a_keyword keyword.If) (body_words b ++ tail) (keeps_keyword keyword.If)
          (keeps_both (body_words b) tail i.keeps
          (keeps_both (a_keyword keyword.Else) (body_words c) (keeps_keyword keyword.Else) j.keeps)));
      rises = subst (λ z. Rises z (stmt_nest (statement.If n x b (Some c)) - 1)) (sym (else_words n x b c))
          (rises_less _ (stmt_nest (statement.If n x b (Some c)) - 1) (max (body_nest b) (body_nest c)) (omega arith)
          (tested_rises x (a_keyword keyword.If) (body_words b ++ tail) (max (body_nest b) (body_nest c)) (keeps_keyword keyword.If)
          (rises_max_of (body_words b ++ tail) (body_nest b) (body_nest c) (rises_front (body_words b) tail (body_nest b) i.rises)
          (rises_behind (body_words b) tail (body_nest c) i.keeps
          (rises_behind (a_keyword keyword.Else) (body_words c) (body_nest c) (keeps_keyword keyword.Else) j.rises)))));
    }

while_is : (n : ℕ) (x : Expr) (b : Body) → Inner b → Statement (statement.While n x b)
while_is n x b i = record {
  keeps = subst Keeps (sym (while_words n x b))
      (tested_keeps x (a_keyword keyword.While) (body_words b) (keeps_keyword keyword.While) i.keeps);
  rises = subst (λ z. Rises z (stmt_nest (statement.While n x b) - 1)) (sym (while_words n x b))
      (rises_less _ (stmt_nest (statement.While n x b) - 1) (body_nest b) (let deep = while_nest n x b in omega arith)
      (tested_rises x (a_keyword keyword.While) (body_words b) (body_nest b) (keeps_keyword keyword.While) i.rises));
}

-- statements in a row
pub row_keeps : (ss : List Stmt) → All Statement ss → Keeps (flat_map statement_words ss)
row_keeps [] h = keeps_nil
row_keeps (s ∷ ss) h =
    keeps_both (statement_words s) (flat_map statement_words ss) (All-head Statement s ss h).keeps
    (row_keeps ss (All-tail Statement s ss h))

pub row_rises : (ss : List Stmt) → All Statement ss → Rises (flat_map statement_words ss) (deepest (map stmt_nest ss) - 1)
row_rises [] h = rises_none []
row_rises (s ∷ ss) h =
    let one = All-head Statement s ss h in
    rises_max (statement_words s ++ flat_map statement_words ss) (stmt_nest s) (deepest (map stmt_nest ss))
    (rises_front (statement_words s) (flat_map statement_words ss) (stmt_nest s - 1) one.rises)
    (rises_behind (statement_words s) (flat_map statement_words ss) (deepest (map stmt_nest ss) - 1) one.keeps
    (row_rises ss (All-tail Statement s ss h)))

block_is : (ss : List Stmt) → All Statement ss → Inner (body.Block ss)
block_is ss h =
    let inside = flat_map statement_words ss in
    let end = a_sign sign.BraceClose in
    let deep = block_nest ss in
    record {
      keeps = subst Keeps (sym (block_words ss)) (keeps_between sign.BraceOpen sign.BraceClose refl refl refl inside (row_keeps ss h));
      rises = subst (λ z. Rises z (body_nest (body.Block ss))) (sym (block_words ss))
          (rises_less _ (body_nest (body.Block ss)) (deepest (map stmt_nest ss) - 1 + 1) (omega arith)
          (rises_open (inside ++ end) (deepest (map stmt_nest ss) - 1)
          (rises_front inside end (deepest (map stmt_nest ss) - 1) (row_rises ss h))));
    }

abbrev InnerBody : Type 0
InnerBody = (b : Body) × Inner b

abbrev OneStmt : Type 0
OneStmt = (s : Stmt) × Statement s

all_of : (ks : List OneStmt) → All Statement (map (λ (k : OneStmt). k.0) ks)
all_of [] = All-nil Statement
all_of (k ∷ ks) = All-cons Statement k.0 (map (λ (j : OneStmt). j.0) ks) k.1 (all_of ks)

by_body : (x : Body-F InnerBody OneStmt) → Inner (roll-Body (map-Body InnerBody OneStmt Body Stmt (λ k. k.0) (λ k. k.0) x))
by_body (Body-F.Block ks) = let ss = map (λ (k : OneStmt). k.0) ks in subst Inner (sym (body.rolls-Block ss)) (block_is ss (all_of ks))
by_body (Body-F.Single s) = subst Inner (sym (body.rolls-Single s)) (single_is s)

by_stmt : (x : Stmt-F InnerBody OneStmt) → Statement (roll-Stmt (map-Stmt InnerBody OneStmt Body Stmt (λ k. k.0) (λ k. k.0) x))
by_stmt (Stmt-F.Simple s) = subst Statement (sym (statement.rolls-Simple s)) (simple_is s)
by_stmt (Stmt-F.If n x a None) = subst Statement (sym (statement.rolls-If n x a.0 None)) (if_is n x a.0 a.1)
by_stmt (Stmt-F.If n x a (Some c)) = subst Statement (sym (statement.rolls-If n x a.0 (Some c.0))) (else_is n x a.0 c.0 a.1 c.1)
by_stmt (Stmt-F.While n x a) = subst Statement (sym (statement.rolls-While n x a.0)) (while_is n x a.0 a.1)

pub statement_is : (s : Stmt) → Statement s
statement_is =
    ind-Stmt Inner Statement (λ z x e. subst (λ (l : Body-F Body Stmt). Inner (roll-Body l)) e (by_body x))
    (λ z x e. subst (λ (l : Stmt-F Body Stmt). Statement (roll-Stmt l)) e (by_stmt x))

each_is : (ss : List Stmt) → All Statement ss
each_is [] = All-nil Statement
each_is (s ∷ ss) = All-cons Statement s ss (statement_is s) (each_is ss)

-- ---- the statements of a function
end_flat : (h : Head) (n : ℕ) (ss : List Stmt) → deepest (map stmt_nest (ss ++ added_return h n ∷ [])) ≡ deepest (map stmt_nest ss)
end_flat h n [] = ap (λ k. max k 0) (simple_nest _)
end_flat h n (s ∷ ss) = ap (λ k. max (stmt_nest s) k) (end_flat h n ss)

written_depth : (f : Function) → IsShortFunction f → deepest (map stmt_nest (written_statements f.body)) ≤ 64
written_depth f s =
    let start = static_words f.head.is_static ++ head_words f.head in
    let locals = flat_map local_words f.locals in
    let ss = written_statements f.body in
    let inside = flat_map statement_words ss in
    let k = deepest (map stmt_nest ss) - 1 in
    let rising : Rises (a_sign sign.BraceOpen ++ (locals ++ (inside ++ a_sign sign.BraceClose))) (k + 1) =
    rises_open (locals ++ (inside ++ a_sign sign.BraceClose)) k
    (rises_behind locals (inside ++ a_sign sign.BraceClose) k (keeps_locals f.locals)
    (rises_front inside (a_sign sign.BraceClose) k (row_rises ss (each_is ss)))) in
    let most = s.within.nesting (start ++ rising.before) rising.after
    (ap (λ z. start ++ z) rising.split ∙ sym (append_assoc start rising.before rising.after)) in
    let fewer = open_append start rising.before in
    let deep = rising.deep 0 in
    omega arith

pub source_depth : (f : Function) → IsShortFunction f → deepest (map stmt_nest f.body) ≤ 64
source_depth f s =
    let written = s.returns.0 in
    let whole = s.returns.1 in
    let most = subst (λ z. deepest (map stmt_nest (written_statements z)) ≤ 64) whole (written_depth f s) in
    let same = subst (λ z. deepest (map stmt_nest z) ≤ 64) (written_of written (added_return f.head f.end)) most in
    subst (λ z. deepest (map stmt_nest z) ≤ 64) (sym whole) (subst (λ m. m ≤ 64) (sym (end_flat f.head f.end written)) same)
