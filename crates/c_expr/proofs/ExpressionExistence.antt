-- Each list of words has its longest expression, or none: what the reader answers where memory is not wanting. So a list
-- of words is at most one expression.
use Rattle.std.proofs.Common.{◌≡◌, ℕ, ◌+◌, ◌-◌, ◌<◌, ◌≤◌, ◌⊎◌, List, [], length, Option, None, Some, Bool, true, false, refl, sym, ◌∙◌, inl, inr, le_refl, zero, suc, arith}
use Rattle.c_tree.specs.declared.expressions.Binary.{Binary}
use Rattle.c_tree.specs.declared.expressions.Expr.{Expr}
use Rattle.c_tree.specs.declared.expressions.Expr.TheVariants as expr
use Rattle.c_tree.specs.declared.expressions.Unary.{Unary}
use Rattle.c_tree.specs.declared.keywords.Keyword.TheVariants as keyword
use Rattle.c_tree.specs.declared.signs.Sign.{Sign}
use Rattle.c_tree.specs.declared.signs.Sign.TheVariants as sign
use Rattle.c_tree.specs.declared.types.TypeName.{TypeName}
use Rattle.c_tree.specs.declared.words.Token.{Token}
use Rattle.c_tree.specs.declared.words.Word.TheVariants as word
use Rattle.c_tree.specs.ExpressionGrammar.{SingleAt, NullAt, Row, RowMore, UnaryExpr, Postfix, PostfixMore, Primary, Closed, IsExpr}
use Rattle.c_tree.specs.Operators.{UnaryAt, BinaryAt, row_of, rows}
use Rattle.c_tree.specs.Reading.{Begins, Best, Covered, Never, enclosed}
use Rattle.c_tree.specs.TypeGrammar.{InParens}
use Rattle.c_expr.specs.declared.members.Member.{Member}
use Rattle.c_expr.specs.declared.members.Member.TheVariants as member
use Rattle.c_expr.specs.ExpressionReading.{opens_type, null_of}
use Rattle.c_expr.specs.Members.{IsMemberAt, selected}
use Rattle.c_expr.specs.Looking.{Lacks}
use Rattle.c_expr.specs.Strength.{sign_strength, Tighter}
use Rattle.c_expr.proofs.Begins.{begins_shrinks}
use Rattle.c_expr.proofs.LongestPostfix.{NoMember, postfix_stays, postfix_stuck, member_on, index_on, postfix_none, postfix_on}
use Rattle.c_expr.proofs.LongestPrimary.{NoSingle, null_there, null_missing, primary_single, primary_null, primary_none, primary_open, primary_grouped, closed_none, closed_open, closed_shut}
use Rattle.c_expr.proofs.LongestRow.{NoRowOperator, more_end, more_stuck, more_on, row_none, row_some, row_last}
use Rattle.c_expr.proofs.LongestUnary.{NoOperator, prefixed_none, prefixed_some, size_none, size_some, cast_untyped, cast_none, cast_some, unary_plain}
use Rattle.c_expr.proofs.Looks.{Sees, sees_open, sees_close, sees_bracket, sees_bracket_close, sees_sizeof, sees_operator, RowOperator, sees_row_operator, sees_single, AMember, sees_member}
use Rattle.c_expr.proofs.Spans.{span_shrinks, type_span, row_span, primary_span, closed_span}
use Rattle.c_expr.proofs.TypeExistence.{Longest, parens_exist}

-- what goes on from a left operand of the row l, and from the operand of a postfix form
abbrev More : ℕ → Expr → List Token → Type 0
More l x w = (a : Expr × List Token) × Best (RowMore l x w) (Tighter l) (Some a) × (length a.1 ≤ length w)

abbrev Postfixes : Expr → List Token → Type 0
Postfixes x w = (a : Expr × List Token) × Best (PostfixMore x w) (Tighter rows) (Some a) × (length a.1 ≤ length w)

-- ---- an expression and the sign that closes it
closed_by : (s : Sign) (w : List Token) (a : Expr × List Token) → sign_strength s ≡ 0 → Best (Row 0 w) (Tighter 0) (Some a) → Sees a.1 (word.Sign s) → Longest (Closed s) Never w
closed_by s w a h best (inl (v, c)) = (Some (a.0, v), closed_shut s w a.1 v a.0 h best c)
closed_by s w a h best (inr lacks) = (None, closed_open s w a.1 a.0 h best lacks)

closed_step : (s : Sign) (w : List Token) → sign_strength s ≡ 0 → ((v : List Token) → Sees v (word.Sign s)) → Longest (Row 0) (Tighter 0) w → Longest (Closed s) Never w
closed_step s w h sees (None, best) = (None, closed_none s w best)
closed_step s w h sees (Some a, best) = closed_by s w a h best (sees a.1)

-- ---- primary expressions
grouped_by : (w u : List Token) → NoSingle w → ((v : List Token) → NullAt w v → ⊥) → Begins w (word.Sign sign.ParenOpen) u → Longest (Closed sign.ParenClose) Never u → Longest Primary Never w
grouped_by w u none void b (None, best) = (None, primary_open w u none void b best)
grouped_by w u none void b (Some a, best) = (Some (expr.Grouped a.0, a.1), primary_grouped w u a.1 a.0 none void b best)

open_by : (w : List Token) → ((u : List Token) → length u < length w → Longest (Closed sign.ParenClose) Never u) → NoSingle w → ((v : List Token) → NullAt w v → ⊥)
    → Sees w (word.Sign sign.ParenOpen) → Longest Primary Never w
open_by w inside none void (inl (u, b)) = grouped_by w u none void b (inside u (begins_shrinks w b))
open_by w inside none void (inr lacks) = (None, primary_none w none void lacks)

null_by : (w : List Token) → ((u : List Token) → length u < length w → Longest (Closed sign.ParenClose) Never u) → NoSingle w → (o : Option (List Token)) → o ≡ null_of w → Longest Primary Never w
null_by w inside none (Some v) e = (Some (expr.Null, v), primary_null w v none (null_there w v e))
null_by w inside none None e = open_by w inside none (null_missing w e) (sees_open w)

primary_by : (w : List Token) → ((u : List Token) → length u < length w → Longest (Closed sign.ParenClose) Never u)
    → ((x : Expr) × (u : List Token) × SingleAt w u x) ⊎ NoSingle w → Longest Primary Never w
primary_by w inside (inl (x, u, s)) = (Some (x, u), primary_single w u x s)
primary_by w inside (inr none) = null_by w inside none (null_of w) refl

-- ---- postfix expressions
index_by : (x : Expr) (w s : List Token) → ((y : Expr) (u : List Token) → length u < length w → Postfixes y u) → Begins w (word.Sign sign.BracketOpen) s
    → Longest (Closed sign.BracketClose) Never s → Postfixes x w
index_by x w s again b (None, best) = ((x, w), postfix_stuck w s x b best, le_refl (length w))
index_by x w s again b (Some a, best) =
    let inside = begins_shrinks w b in
    let rest = span_shrinks (closed_span best.sound) in
    let fewer : length a.1 < length w = omega arith in
    let more = again (expr.Index x a.0) a.1 fewer in
    let size = more.2 in
    (more.0, index_on w s a.1 x a.0 more.0 b best fewer more.2 more.1, omega arith)

bracket_by : (x : Expr) (w : List Token) → ((u : List Token) → length u < length w → Longest (Closed sign.BracketClose) Never u)
    → ((y : Expr) (u : List Token) → length u < length w → Postfixes y u) → NoMember w → Sees w (word.Sign sign.BracketOpen) → Postfixes x w
bracket_by x w inside again none (inl (s, b)) = index_by x w s again b (inside s (begins_shrinks w b))
bracket_by x w inside again none (inr lacks) = ((x, w), postfix_stays w x none lacks, le_refl (length w))

member_shrinks : (w u : List Token) (m : Member) → IsMemberAt w m u → length u < length w
member_shrinks w u (member.Field n) (s, b, c) = let one = begins_shrinks w b in let two = begins_shrinks s c in omega arith
member_shrinks w u (member.Arrow n) (s, b, c) = let one = begins_shrinks w b in let two = begins_shrinks s c in omega arith

postfixes_by : (x : Expr) (w : List Token) → ((u : List Token) → length u < length w → Longest (Closed sign.BracketClose) Never u)
    → ((y : Expr) (u : List Token) → length u < length w → Postfixes y u) → AMember w ⊎ NoMember w → Postfixes x w
postfixes_by x w inside again (inl (m, u, i)) =
    let fewer = member_shrinks w u m i in
    let more = again (selected x m) u fewer in
    let size = more.2 in
    (more.0, member_on w u m x more.0 i fewer more.2 more.1, omega arith)
postfixes_by x w inside again (inr none) = bracket_by x w inside again none (sees_bracket w)

postfix_step : (w : List Token) → Longest Primary Never w → ((x : Expr) (u : List Token) → length u ≤ length w → Postfixes x u) → Longest Postfix (Tighter rows) w
postfix_step w (None, best) rest = (None, postfix_none w best)
postfix_step w (Some a, best) rest = let more = rest a.0 a.1 (span_shrinks (primary_span best.sound)) in (Some more.0, postfix_on w a.1 a.0 more.0 best more.1)

-- ---- unary expressions
prefixed_by : (w u : List Token) (o : Unary) → UnaryAt w o u → Longest UnaryExpr (Tighter rows) u → Longest UnaryExpr (Tighter rows) w
prefixed_by w u o b (None, best) = (None, prefixed_none w u o b best)
prefixed_by w u o b (Some a, best) = (Some (expr.Unary o a.0, a.1), prefixed_some w u a.1 o a.0 b best)

size_by : (w u : List Token) → Begins w (word.Keyword keyword.Sizeof) u → Longest InParens Never u → Longest UnaryExpr (Tighter rows) w
size_by w u b (None, best) = (None, size_none w u b best)
size_by w u b (Some a, best) = (Some (expr.Sizeof a.0, a.1), size_some w u a.1 a.0 b best)

parens_shrink : (w v : List Token) (t : TypeName) → InParens w v t → length v < length w
parens_shrink w v t (enclosed {r = r} b d c) = let one = begins_shrinks w b in let two = span_shrinks (type_span d) in let three = begins_shrinks r c in omega arith

cast_operand : (w r : List Token) (t : TypeName) → opens_type w ≡ true → Best (InParens w) Never (Some (t, r)) → Longest UnaryExpr (Tighter rows) r → Longest UnaryExpr (Tighter rows) w
cast_operand w r t h best (None, inner) = (None, cast_none w r t h best inner)
cast_operand w r t h best (Some a, inner) = (Some (expr.Cast t a.0, a.1), cast_some w r a.1 t a.0 h best inner)

cast_by : (w : List Token) → ((u : List Token) → length u < length w → Longest UnaryExpr (Tighter rows) u) → opens_type w ≡ true → Longest InParens Never w → Longest UnaryExpr (Tighter rows) w
cast_by w again h (None, best) = (None, cast_untyped w h best)
cast_by w again h (Some a, best) = cast_operand w a.1 a.0 h best (again a.1 (parens_shrink w a.1 a.0 best.sound))

plain_by : (w : List Token) → NoOperator w → Lacks w (word.Keyword keyword.Sizeof) → opens_type w ≡ false → Longest Postfix (Tighter rows) w → Longest UnaryExpr (Tighter rows) w
plain_by w none lacks h (a, best) = (a, unary_plain w a none lacks h best)

typed_by : (w : List Token) → ((u : List Token) → length u < length w → Longest UnaryExpr (Tighter rows) u) → Longest Postfix (Tighter rows) w → NoOperator w → Lacks w (word.Keyword keyword.Sizeof)
    → (b : Bool) → opens_type w ≡ b → Longest UnaryExpr (Tighter rows) w
typed_by w again rest none lacks true h = cast_by w again h (parens_exist w)
typed_by w again rest none lacks false h = plain_by w none lacks h rest

sized_by : (w : List Token) → ((u : List Token) → length u < length w → Longest UnaryExpr (Tighter rows) u) → Longest Postfix (Tighter rows) w → NoOperator w → Sees w (word.Keyword keyword.Sizeof)
    → Longest UnaryExpr (Tighter rows) w
sized_by w again rest none (inl (u, b)) = size_by w u b (parens_exist u)
sized_by w again rest none (inr lacks) = typed_by w again rest none lacks (opens_type w) refl

unary_by : (w : List Token) → ((u : List Token) → length u < length w → Longest UnaryExpr (Tighter rows) u) → Longest Postfix (Tighter rows) w
    → ((o : Unary) × (u : List Token) × UnaryAt w o u) ⊎ NoOperator w → Longest UnaryExpr (Tighter rows) w
unary_by w again rest (inl (o, u, b)) = prefixed_by w u o b (again u (begins_shrinks w b.begins))
unary_by w again rest (inr none) = sized_by w again rest none (sees_sizeof w)

-- ---- rows
operand_by : (l : ℕ) (x : Expr) (w s : List Token) (o : Binary) → ((y : Expr) (u : List Token) → length u < length w → More l y u) → BinaryAt w o s → row_of o ≡ l
    → Longest (Row (l + 1)) (Tighter (l + 1)) s → More l x w
operand_by l x w s o again b e (None, best) = ((x, w), more_stuck l w s o x b best, le_refl (length w))
operand_by l x w s o again b e (Some a, best) =
    let inside = begins_shrinks w b.begins in
    let rest = span_shrinks (row_span best.sound) in
    let fewer : length a.1 < length w = omega arith in
    let more = again (expr.Binary o x a.0) a.1 fewer in
    let size = more.2 in
    (more.0, more_on l w s a.1 o x a.0 more.0 b e best fewer more.2 more.1, omega arith)

more_by : (l : ℕ) (x : Expr) (w : List Token) → ((s : List Token) → length s < length w → Longest (Row (l + 1)) (Tighter (l + 1)) s)
    → ((y : Expr) (u : List Token) → length u < length w → More l y u) → RowOperator l w ⊎ NoRowOperator l w → More l x w
more_by l x w right again (inl (o, s, b, e)) = operand_by l x w s o again b e (right s (begins_shrinks w b.begins))
more_by l x w right again (inr none) = ((x, w), more_end l w x none, le_refl (length w))

row_step : (l : ℕ) (w : List Token) → l < rows → Longest (Row (l + 1)) (Tighter (l + 1)) w → ((x : Expr) (u : List Token) → length u ≤ length w → More l x u) → Longest (Row l) (Tighter l) w
row_step l w lt (None, best) rest = (None, row_none l w lt best)
row_step l w lt (Some a, best) rest = let more = rest a.0 a.1 (span_shrinks (row_span best.sound)) in (Some more.0, row_some l w a.1 a.0 more.0 lt best more.2 more.1)

last_by : (l : ℕ) (w : List Token) → l ≡ rows → Longest UnaryExpr (Tighter rows) w → Longest (Row l) (Tighter l) w
last_by l w e (a, best) = (a, row_last l w a e best)

-- ---- all of them, by the number of words
record All (w : List Token) : Type 0 where
  at_row : (l : ℕ) → l ≤ rows → Longest (Row l) (Tighter l) w
  unary : Longest UnaryExpr (Tighter rows) w
  more : (l : ℕ) → l < rows → (x : Expr) → More l x w
  postfixes : (x : Expr) → Postfixes x w

-- what holds of shorter lists holds of those of n words too
module _ (n : ℕ) (below : (u : List Token) → length u < n → All u) where
  more_here : (w : List Token) → length w ≤ n → (l : ℕ) → l < rows → (x : Expr) → More l x w
  more_here w h l lt x = more_by l x w (λ s fewer. (below s (omega arith)).at_row (l + 1) (omega arith)) (λ y u fewer. (below u (omega arith)).more l lt y) (sees_row_operator l w)

  closed_here : (s : Sign) → sign_strength s ≡ 0 → ((v : List Token) → Sees v (word.Sign s)) → (w : List Token) → length w < n → Longest (Closed s) Never w
  closed_here s e sees w h = closed_step s w e sees ((below w h).at_row 0 (omega arith))

  postfixes_here : (w : List Token) → length w ≤ n → (x : Expr) → Postfixes x w
  postfixes_here w h x = postfixes_by x w (λ u fewer. closed_here sign.BracketClose refl sees_bracket_close u (omega arith)) (λ y u fewer. (below u (omega arith)).postfixes y) (sees_member w)

  primary_here : (w : List Token) → length w ≤ n → Longest Primary Never w
  primary_here w h = primary_by w (λ u fewer. closed_here sign.ParenClose refl sees_close u (omega arith)) (sees_single w)

  postfix_here : (w : List Token) → length w ≤ n → Longest Postfix (Tighter rows) w
  postfix_here w h = postfix_step w (primary_here w h) (λ x u fewer. postfixes_here u (omega arith) x)

  unary_here : (w : List Token) → length w ≤ n → Longest UnaryExpr (Tighter rows) w
  unary_here w h = unary_by w (λ u fewer. (below u (omega arith)).unary) (postfix_here w h) (sees_operator w)

  rows_here : (w : List Token) → length w ≤ n → (k l : ℕ) → l + k ≡ rows → Longest (Row l) (Tighter l) w
  rows_here w h zero l e = last_by l w (omega arith) (unary_here w h)
  rows_here w h (suc k) l e = let lt : l < rows = omega arith in row_step l w lt (rows_here w h k (l + 1) (omega arith)) (λ x u fewer. more_here u (omega arith) l lt x)

  all_here : (w : List Token) → length w ≤ n → All w
  all_here w h = record {
    at_row = λ l le. rows_here w h (rows - l) l (omega arith);
    unary = unary_here w h;
    more = more_here w h;
    postfixes = postfixes_here w h;
  }

all_below : (n : ℕ) (w : List Token) → length w < n → All w
all_below zero w h = absurd (omega arith)
all_below (suc n) w h = all_here n (λ u fewer. all_below n u fewer) w (omega arith)

pub unary_exists : (w : List Token) → Longest UnaryExpr (Tighter rows) w
unary_exists w = (all_below (suc (length w)) w (omega arith)).unary

pub row_exists : (l : ℕ) → l ≤ rows → (w : List Token) → Longest (Row l) (Tighter l) w
row_exists l h w = (all_below (suc (length w)) w (omega arith)).at_row l h

pub closed_exists : (s : Sign) (w : List Token) → sign_strength s ≡ 0 → ((v : List Token) → Sees v (word.Sign s)) → Longest (Closed s) Never w
closed_exists s w h sees = closed_step s w h sees (row_exists 0 (omega arith) w)

-- ---- a list of words is at most one expression
same_by : (a : Option (Expr × List Token)) (x y : Expr) → Covered (Tighter 0) [] x a → Covered (Tighter 0) [] y a → x ≡ y
same_by None x y d e = absurd d
same_by (Some a) x y (inl d) (inl e) = sym d.0 ∙ e.0
same_by (Some a) x y (inr p) e = let none = p.1 in absurd (omega arith)
same_by (Some a) x y (inl d) (inr p) = let none = p.1 in absurd (omega arith)

pub one_tree : (w : List Token) (x y : Expr) → IsExpr w x → IsExpr w y → x ≡ y
one_tree w x y d e = let best = row_exists 0 (omega arith) w in same_by best.0 x y (best.1.covers [] x d) (best.1.covers [] y e)
