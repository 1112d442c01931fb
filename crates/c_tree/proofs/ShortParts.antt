-- The parts of what is short are short: the functions of a unit, the statements of a function, the expressions of a statement.
use Rattle.std.proofs.Common.{◌≡◌, ℕ, ◌+◌, ◌-◌, ◌≤◌, List, [], ◌∷◌, ◌++◌, length, fold, flat_map, Bool, true, false, cond, Some, None, All, Contains, ap, sym, ◌∙◌, subst, append_assoc, append-nil, arith}
use Rattle.std.proofs.lemmas.List.{length-append}
use Rattle.std.proofs.lemmas.List.Elements.{All-nil, All-cons, All-head, All-tail, All-contains}
use Rattle.std.proofs.lemmas.List.Sums.{fold-append}
use Rattle.c_tree.specs.declared.expressions.Expr.{Expr}
use Rattle.c_tree.specs.declared.items.Function.{Function}
use Rattle.c_tree.specs.declared.items.Item.TheVariants as item
use Rattle.c_tree.specs.declared.items.Unit.{Unit as TextUnit}
use Rattle.c_tree.specs.declared.keywords.Keyword.TheVariants as keyword
use Rattle.c_tree.specs.declared.signs.Sign.TheVariants as sign
use Rattle.c_tree.specs.declared.statements.Action.{Action}
use Rattle.c_tree.specs.declared.statements.Action.TheVariants as action
use Rattle.c_tree.specs.declared.statements.Body.{Body}
use Rattle.c_tree.specs.declared.statements.Body.TheVariants as body
use Rattle.c_tree.specs.declared.statements.Simple.{Simple}
use Rattle.c_tree.specs.declared.statements.Stmt.{Stmt}
use Rattle.c_tree.specs.declared.statements.Stmt.TheVariants as statement
use Rattle.c_tree.specs.declared.words.Word.{Word}
use Rattle.c_tree.specs.Limits.{is_sign, is_opening, is_closing, nesting_after}
use Rattle.c_tree.specs.Short.{IsWritten, open_behind, IsShortExpr}
use Rattle.c_tree.specs.ShortUnit.{IsShort, IsShortFunction, ReturnsAtEnd, IsShortUnit}
use Rattle.c_tree.specs.Spelling.{a_sign, a_keyword, a_name, in_parentheses, type_words, spelled}
use Rattle.c_tree.specs.StatementSpelling.{more_arguments_words, arguments_words, target_words, action_words, body_words, statement_words, body_pieces, statement_pieces}
use Rattle.c_tree.specs.UnitSpelling.{item_words, item_pieces}
use Rattle.c_tree.proofs.StatementForms.{simple_words, simple_pieces, if_words, if_pieces, else_words, else_pieces, while_words, while_pieces, block_words, block_pieces, single_words, single_pieces}

-- ---- two parts
all_both : {X : Type 0} (P : X → Type 0) (xs ys : List X) → All P (xs ++ ys) → All P xs × All P ys
all_both P [] ys a = (All-nil P, a)
all_both P (x ∷ xs) ys a = let rest = all_both P xs ys (All-tail P x (xs ++ ys) a) in (All-cons P x xs (All-head P x (xs ++ ys) a) rest.0, rest.1)

-- fewer open brackets before give fewer behind
nesting_mono : (o c : Bool) (n m : ℕ) → n ≤ m → cond o (n + 1) (cond c (n - 1) n) ≤ cond o (m + 1) (cond c (m - 1) m)
nesting_mono true c n m h = omega arith
nesting_mono false true n m h = omega arith
nesting_mono false false n m h = h

open_mono : (n m : ℕ) (ks : List Word) → n ≤ m → fold (λ o k. nesting_after o k) n ks ≤ fold (λ o k. nesting_after o k) m ks
open_mono n m [] h = h
open_mono n m (k ∷ ks) h = open_mono (nesting_after n k) (nesting_after m k) ks (nesting_mono (is_sign is_opening k) (is_sign is_closing k) n m h)

open_append : (a b : List Word) → open_behind b ≤ open_behind (a ++ b)
open_append a b = subst (λ n. open_behind b ≤ n) (sym (fold-append (λ o k. nesting_after o k) 0 a b)) (open_mono 0 (open_behind a) b (omega arith))

abbrev Nests : List Word → Type 0
Nests ks = (before after : List Word) → ks ≡ before ++ after → open_behind before ≤ 64

nests_both : (a b : List Word) → Nests (a ++ b) → Nests a × Nests b
nests_both a b h = (
  λ before after e. h before (after ++ b) (ap (λ z. z ++ b) e ∙ append_assoc before after b),
  λ before after e. let all = h (a ++ before) after (ap (λ z. a ++ z) e ∙ sym (append_assoc a before after)) in let fewer = open_append a before in omega arith,
)

abbrev AreFew : List (List Word) → Type 0
AreFew ps = All (λ piece. length piece ≤ 1000) ps

pub short_both : (a b : List Word) (p q : List (List Word)) → IsShort (a ++ b) (p ++ q) → IsShort a p × IsShort b q
short_both a b p q s =
    let few = all_both (λ piece. length piece ≤ 1000) p q s.pieces in
    let deep = nests_both a b s.nesting in
    let all = all_both IsWritten a b s.written in
    let count = length-append a b in
    let many = s.words in
    (record { words = omega arith; pieces = few.0; nesting = deep.0; written = all.0 }, record { words = omega arith; pieces = few.1; nesting = deep.1; written = all.1 })

-- words without pieces
pub short_front : (a b : List Word) (p : List (List Word)) → IsShort (a ++ b) p → IsShort a [] × IsShort b p
short_front a b p s = short_both a b [] p s

pub short_back : (a b : List Word) (p : List (List Word)) → IsShort (a ++ b) p → IsShort a p × IsShort b []
short_back a b p s = short_both a b p [] (subst (IsShort (a ++ b)) (sym (append-nil p)) s)

pub short_as : {a b : List Word} {p q : List (List Word)} → a ≡ b → p ≡ q → IsShort a p → IsShort b q
short_as {a} {b} {p} {q} e f s = subst (λ z. IsShort z q) e (subst (λ z. IsShort a z) f s)

-- each of many parts
pub short_each : {X : Type 0} (f : X → List Word) (g : X → List (List Word)) (xs : List X) → IsShort (flat_map f xs) (flat_map g xs) → All (λ x. IsShort (f x) (g x)) xs
short_each f g [] s = All-nil (λ x. IsShort (f x) (g x))
short_each f g (x ∷ xs) s =
    let parts = short_both (f x) (flat_map f xs) (g x) (flat_map g xs) s in
    All-cons (λ y. IsShort (f y) (g y)) x xs parts.0 (short_each f g xs parts.1)

-- ---- the functions of a unit
pub function_short : (u : TextUnit) (f : Function) → IsShortUnit u → Contains u.items (item.Function f) → IsShortFunction f
function_short u f s c = record {
  within = All-contains (λ x. IsShort (item_words x) (item_pieces x)) u.items (item.Function f) (short_each item_words item_pieces u.items s.within) c;
  returns = All-contains ReturnsAtEnd u.items (item.Function f) s.returns c;
}

-- ---- the words of one piece
pub record IsShortPiece (ks : List Word) : Type 0 where
  pub words : length ks ≤ 1000
  pub nesting : Nests ks
  pub written : All IsWritten ks

pub piece_both : (a b : List Word) → IsShortPiece (a ++ b) → IsShortPiece a × IsShortPiece b
piece_both a b s =
    let deep = nests_both a b s.nesting in
    let all = all_both IsWritten a b s.written in
    let count = length-append a b in
    let many = s.words in
    (record { words = omega arith; nesting = deep.0; written = all.0 }, record { words = omega arith; nesting = deep.1; written = all.1 })

-- the first piece, where it is all the words
pub short_piece : (ks : List Word) (ps : List (List Word)) → IsShort ks (ks ∷ ps) → IsShortPiece ks
short_piece ks ps s = record { words = All-head (λ piece. length piece ≤ 1000) ks ps s.pieces; nesting = s.nesting; written = s.written }

pub piece_expression : (x : Expr) → IsShortPiece (spelled x) → IsShortExpr x
piece_expression x s = record { words = s.words; nesting = s.nesting; written = s.written }

-- an expression behind some words and before others
inside : (a b : List Word) (x : Expr) → IsShortPiece (a ++ (spelled x ++ b)) → IsShortExpr x
inside a b x s = piece_expression x (piece_both (spelled x) b (piece_both a (spelled x ++ b) s).1).0

-- ---- the expressions of a simple statement
abbrev pub HasShort : Action → Type 0
HasShort (action.Assign x y) = IsShortExpr x × IsShortExpr y
HasShort (action.Call t f xs) = All IsShortExpr xs
HasShort (action.Kalloc n t x) = IsShortExpr x
HasShort (action.Kfree x) = IsShortExpr x
HasShort (action.Zero x) = IsShortExpr x
HasShort (action.Return (Some x)) = IsShortExpr x
HasShort (action.Return None) = Unit {0}
HasShort action.Empty = Unit {0}

more_arguments_short : (xs : List Expr) → IsShortPiece (more_arguments_words xs) → All IsShortExpr xs
more_arguments_short [] s = All-nil IsShortExpr
more_arguments_short (x ∷ xs) s =
    let rest = piece_both (spelled x) (more_arguments_words xs) (piece_both (a_sign sign.Comma) (spelled x ++ more_arguments_words xs) s).1 in
    All-cons IsShortExpr x xs (piece_expression x rest.0) (more_arguments_short xs rest.1)

arguments_short : (xs : List Expr) → IsShortPiece (arguments_words xs) → All IsShortExpr xs
arguments_short [] s = All-nil IsShortExpr
arguments_short (x ∷ xs) s = let parts = piece_both (spelled x) (more_arguments_words xs) s in All-cons IsShortExpr x xs (piece_expression x parts.0) (more_arguments_short xs parts.1)

-- what stands in parentheses behind some words
in_parens : (a ks b : List Word) → IsShortPiece (a ++ (in_parentheses ks ++ b)) → IsShortPiece ks
in_parens a ks b s =
    let here = piece_both (in_parentheses ks) b (piece_both a (in_parentheses ks ++ b) s).1 in
    (piece_both ks (a_sign sign.ParenClose) (piece_both (a_sign sign.ParenOpen) (ks ++ a_sign sign.ParenClose) here.0).1).0

action_pieces : (a : Action) → IsShortPiece (action_words a) → HasShort a
action_pieces (action.Assign x y) s =
    let parts = piece_both (spelled x) (a_sign sign.Assign ++ (spelled y ++ a_sign sign.Semicolon)) s in
    (piece_expression x parts.0, inside (a_sign sign.Assign) (a_sign sign.Semicolon) y parts.1)
action_pieces (action.Call t f xs) s =
    arguments_short xs (in_parens (a_name f) (arguments_words xs) (a_sign sign.Semicolon) (piece_both (target_words t) (a_name f ++ (in_parentheses (arguments_words xs) ++ a_sign sign.Semicolon)) s).1)
action_pieces (action.Kalloc n t x) s =
    let ks = type_words t ++ (a_sign sign.Comma ++ spelled x) in
    let held = in_parens (a_keyword keyword.Kalloc) ks (a_sign sign.Semicolon) (piece_both (target_words (Some n)) (a_keyword keyword.Kalloc ++ (in_parentheses ks ++ a_sign sign.Semicolon)) s).1 in
    piece_expression x (piece_both (a_sign sign.Comma) (spelled x) (piece_both (type_words t) (a_sign sign.Comma ++ spelled x) held).1).1
action_pieces (action.Kfree x) s = piece_expression x (in_parens (a_keyword keyword.Kfree) (spelled x) (a_sign sign.Semicolon) s)
action_pieces (action.Zero x) s = piece_expression x (in_parens (a_keyword keyword.Zero) (spelled x) (a_sign sign.Semicolon) s)
action_pieces (action.Return (Some x)) s = inside (a_keyword keyword.Return) (a_sign sign.Semicolon) x s
action_pieces (action.Return None) s = tt
action_pieces action.Empty s = tt

pub action_short : (a : Action) → IsShort (action_words a) (action_words a ∷ []) → HasShort a
action_short a s = action_pieces a (short_piece (action_words a) [] s)

-- ---- the parts of statements and bodies
abbrev pub IsShortStatement : Stmt → Type 0
IsShortStatement s = IsShort (statement_words s) (statement_pieces s)

abbrev pub IsShortBody : Body → Type 0
IsShortBody b = IsShort (body_words b) (body_pieces b)

pub simple_short : (s : Simple) → IsShortStatement (statement.Simple s) → HasShort s.action
simple_short s h = action_short s.action (short_as (simple_words s) (simple_pieces s) h)

pub single_short : (s : Simple) → IsShortBody (body.Single s) → HasShort s.action
single_short s h = action_short s.action (short_as (single_words s) (single_pieces s) h)

pub block_short : (ss : List Stmt) → IsShortBody (body.Block ss) → All IsShortStatement ss
block_short ss h =
    let form = short_as (block_words ss) (block_pieces ss) h in
    let open' = short_front (a_sign sign.BraceOpen) (flat_map statement_words ss ++ a_sign sign.BraceClose) (flat_map statement_pieces ss) form in
    short_each statement_words statement_pieces ss (short_back (flat_map statement_words ss) (a_sign sign.BraceClose) (flat_map statement_pieces ss) open'.1).0

-- a condition in parentheses with what stands behind it
condition_short : (x : Expr) (rest : List Word) (ps : List (List Word)) → IsShort (in_parentheses (spelled x) ++ rest) (spelled x ∷ ps) → IsShortExpr x × IsShort rest ps
condition_short x rest ps s =
    let parts = short_both (in_parentheses (spelled x)) rest (spelled x ∷ []) ps s in
    let open' = short_front (a_sign sign.ParenOpen) (spelled x ++ a_sign sign.ParenClose) (spelled x ∷ []) parts.0 in
    (piece_expression x (short_piece (spelled x) [] (short_back (spelled x) (a_sign sign.ParenClose) (spelled x ∷ []) open'.1).0), parts.1)

pub if_short : (n : ℕ) (x : Expr) (b : Body) → IsShortStatement (statement.If n x b None) → IsShortExpr x × IsShortBody b
if_short n x b h =
    let form = short_as (if_words n x b) (if_pieces n x b) h in
    let parts = condition_short x (body_words b ++ []) (body_pieces b ++ []) (short_front (a_keyword keyword.If) (in_parentheses (spelled x) ++ (body_words b ++ [])) (spelled x ∷ body_pieces b ++ []) form).1 in
    (parts.0, (short_both (body_words b) [] (body_pieces b) [] parts.1).0)

pub else_short : (n : ℕ) (x : Expr) (b c : Body) → IsShortStatement (statement.If n x b (Some c)) → IsShortExpr x × IsShortBody b × IsShortBody c
else_short n x b c h =
    let form = short_as (else_words n x b c) (else_pieces n x b c) h in
    let rest = body_words b ++ (a_keyword keyword.Else ++ body_words c) in
    let parts = condition_short x rest (body_pieces b ++ body_pieces c) (short_front (a_keyword keyword.If) (in_parentheses (spelled x) ++ rest) (spelled x ∷ body_pieces b ++ body_pieces c) form).1 in
    let bodies = short_both (body_words b) (a_keyword keyword.Else ++ body_words c) (body_pieces b) (body_pieces c) parts.1 in
    (parts.0, bodies.0, (short_front (a_keyword keyword.Else) (body_words c) (body_pieces c) bodies.1).1)

pub while_short : (n : ℕ) (x : Expr) (b : Body) → IsShortStatement (statement.While n x b) → IsShortExpr x × IsShortBody b
while_short n x b h =
    let form = short_as (while_words n x b) (while_pieces n x b) h in
    condition_short x (body_words b) (body_pieces b) (short_front (a_keyword keyword.While) (in_parentheses (spelled x) ++ body_words b) (spelled x ∷ body_pieces b) form).1
