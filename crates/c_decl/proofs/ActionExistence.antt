-- Each list of words has its simple statement, or none: what the readers answer where memory is not wanting.
use Rattle.std.proofs.Common.{◌≡◌, ℕ, ◌<◌, ◌≤◌, List, [], ◌∷◌, length, Option, None, Some, refl, inl, inr, le_refl, zero, suc, arith}
use Rattle.c_tree.specs.declared.expressions.Expr.{Expr}
use Rattle.c_tree.specs.declared.keywords.Keyword.TheVariants as keyword
use Rattle.c_tree.specs.declared.signs.Sign.{Sign}
use Rattle.c_tree.specs.declared.signs.Sign.TheVariants as sign
use Rattle.c_tree.specs.declared.statements.Action.TheVariants as action
use Rattle.c_tree.specs.declared.statements.Simple.{Simple}
use Rattle.c_tree.specs.declared.words.Token.{Token}
use Rattle.c_tree.specs.declared.words.Word.TheVariants as word
use Rattle.c_tree.specs.ExpressionGrammar.{Row, UnaryExpr, Closed, closed}
use Rattle.c_tree.specs.Operators.{rows}
use Rattle.c_tree.specs.Reading.{Front, front_of, Begins, Best, Never, line_at}
use Rattle.c_tree.specs.Reading.Front.{front}
use Rattle.c_tree.specs.StatementGrammar.{ArgumentsAt, MoreArgumentsAt, SimpleAt}
use Rattle.c_tree.specs.TypeGrammar.{TypeNameAt}
use Rattle.c_expr.specs.Classes.{At, is_in_types}
use Rattle.c_expr.specs.Strength.{sign_strength, Tighter}
use Rattle.c_expr.proofs.Begins.{begins_shrinks}
use Rattle.c_expr.proofs.ExpressionExistence.{row_exists, closed_exists, unary_exists}
use Rattle.c_expr.proofs.Looks.{Sees, sees_close, sees_comma}
use Rattle.c_expr.proofs.Spans.{span_shrinks, row_span, unary_span, type_span}
use Rattle.c_expr.proofs.TypeExistence.{Longest, type_exists}
use Rattle.c_decl.specs.declared.beginnings.Beginning.{Beginning}
use Rattle.c_decl.specs.declared.beginnings.Beginning.TheVariants as beginning
use Rattle.c_decl.specs.Actions.{ClosedEnd, CallAfter, ReturnAfter, ActionAfter}
use Rattle.c_decl.specs.Arguments.{behind}
use Rattle.c_decl.specs.Beginnings.{opened, targeted, named, beginning_front, beginning_of}
use Rattle.c_decl.specs.Sequences.{Then, Before, Ended, Given}
use Rattle.c_decl.proofs.Apart.{loose, types_comma}
use Rattle.c_decl.proofs.BeginningOf.{action_best}
use Rattle.c_decl.proofs.Existence.{Fewer, Behind, Found, fewer_more, then_found, before_found, ended_found, given_found, sees_end, sees_assign}
use Rattle.c_decl.proofs.LongestAction.{return_alone, return_none, return_value, simple_none, simple_some, arguments_none, arguments_some, more_none, more_open, more_last, more_on}
use Rattle.c_decl.proofs.Sequences.{word_apart}

-- ---- expressions, types
closed_shrinks : {s : Sign} {w v : List Token} {x : Expr} → Closed s w v x → length v < length w
closed_shrinks {w = w} (closed {u = u} d b) = let one = span_shrinks (row_span d) in let two = begins_shrinks u b in omega arith

closed_by : (s : Sign) (w : List Token) → Longest (Closed s) Never w → Found (Closed s) Never w
closed_by s w (None, best) = (None, best, tt)
closed_by s w (Some a, best) = (Some a, best, closed_shrinks best.sound)

pub closed_found : (s : Sign) (w : List Token) → sign_strength s ≡ 0 → ((v : List Token) → Sees v (word.Sign s)) → Found (Closed s) Never w
closed_found s w h sees = closed_by s w (closed_exists s w h sees)

unary_by : (w : List Token) → Longest UnaryExpr (Tighter rows) w → Behind UnaryExpr (Tighter rows) w (suc (length w))
unary_by w (None, best) = (None, best, tt)
unary_by w (Some a, best) = let size = span_shrinks (unary_span best.sound) in (Some a, best, omega arith)

unary_found : (w : List Token) → Behind UnaryExpr (Tighter rows) w (suc (length w))
unary_found w = unary_by w (unary_exists w)

type_by : (w : List Token) → Longest TypeNameAt (At is_in_types) w → Behind TypeNameAt (At is_in_types) w (suc (length w))
type_by w (None, best) = (None, best, tt)
type_by w (Some a, best) = let size = span_shrinks (type_span best.sound) in (Some a, best, omega arith)

pub type_found : (w : List Token) → Behind TypeNameAt (At is_in_types) w (suc (length w))
type_found w = type_by w (type_exists w)

-- ---- arguments
fewer_behind : (n : ℕ) (x : Expr) (o : Option (List Expr × List Token)) → Fewer {X = List Expr} n o → Fewer {X = List Expr} n (behind (x ∷ []) o)
fewer_behind n x None f = tt
fewer_behind n x (Some a) f = f

more_next : (w r : List Token) (x : Expr) → Best (Row 0 w) (Tighter 0) (Some (x, r)) → length r ≤ length w → ((u : List Token) → length u < length w → Found {X = List Expr} MoreArgumentsAt Never u)
    → ((u : List Token) → Begins r (word.Sign sign.ParenClose) u → ⊥) → Sees r (word.Sign sign.Comma) → Found {X = List Expr} MoreArgumentsAt Never w
more_next w r x best size again shut (inl (u, c)) =
    let shorter = begins_shrinks r c in
    let fewer : length u < length w = omega arith in
    let rest = again u fewer in
    (behind (x ∷ []) rest.0, more_on w r u x rest.0 best c rest.1, fewer_behind (length w) x rest.0 (fewer_more (length u) (length w) rest.0 (omega arith) rest.2))
more_next w r x best size again shut (inr lacks) = (None, more_open w r x best shut lacks, tt)

more_after : (w r : List Token) (x : Expr) → Best (Row 0 w) (Tighter 0) (Some (x, r)) → ((u : List Token) → length u < length w → Found {X = List Expr} MoreArgumentsAt Never u)
    → Sees r (word.Sign sign.ParenClose) → Found {X = List Expr} MoreArgumentsAt Never w
more_after w r x best again (inl (u, c)) =
    let size = span_shrinks (row_span best.sound) in
    let shorter = begins_shrinks r c in
    (Some (x ∷ [], u), more_last w r u x best c, omega arith)
more_after w r x best again (inr lacks) = more_next w r x best (span_shrinks (row_span best.sound)) again lacks (sees_comma r)

more_step : (w : List Token) → ((u : List Token) → length u < length w → Found {X = List Expr} MoreArgumentsAt Never u) → Longest (Row 0) (Tighter 0) w → Found {X = List Expr} MoreArgumentsAt Never w
more_step w again (None, best) = (None, more_none w best, tt)
more_step w again (Some a, best) = more_after w a.1 a.0 best again (sees_close a.1)

more_by : (n : ℕ) (w : List Token) → length w < n → Found {X = List Expr} MoreArgumentsAt Never w
more_by zero w h = absurd (omega arith)
more_by (suc n) w h = more_step w (λ u fewer. more_by n u (omega arith)) (row_exists 0 (omega arith) w)

arguments_open : (w : List Token) → ((u : List Token) → Begins w (word.Sign sign.ParenClose) u → ⊥) → Found {X = List Expr} MoreArgumentsAt Never w → Found {X = List Expr} ArgumentsAt Never w
arguments_open w lacks (o, best, f) = (o, arguments_some w o lacks best, f)

arguments_by : (w : List Token) → Sees w (word.Sign sign.ParenClose) → Found {X = List Expr} ArgumentsAt Never w
arguments_by w (inl (u, b)) = (Some ([], u), arguments_none w u b, begins_shrinks w b)
arguments_by w (inr lacks) = arguments_open w lacks (more_by (suc (length w)) w (omega arith))

-- ---- what stands behind a beginning
closed_end : (w : List Token) → Found ClosedEnd Never w
closed_end w =
    then_found (Closed sign.ParenClose) (λ x. Ended (word.Sign sign.Semicolon) x) Never Never w (length w) (length w) (λ y q v z n b. n) (closed_found sign.ParenClose w refl sees_close)
    (λ x u h. ended_found (word.Sign sign.Semicolon) x u (length w) (omega arith) (sees_end u))

returned_open : (w : List Token) → ((u : List Token) → Begins w (word.Sign sign.Semicolon) u → ⊥) → Found (Closed sign.Semicolon) Never w → Found ReturnAfter Never w
returned_open w lacks (None, best, f) = (None, return_none w lacks best, tt)
returned_open w lacks (Some a, best, f) = (Some (action.Return (Some a.0), a.1), return_value w a.1 a.0 lacks best, f)

returned_by : (w : List Token) → Sees w (word.Sign sign.Semicolon) → Found ReturnAfter Never w
returned_by w (inl (u, b)) = (Some (action.Return None, u), return_alone w u b, begins_shrinks w b)
returned_by w (inr lacks) = returned_open w lacks (closed_found sign.Semicolon w refl sees_end)

called : (t : Option (List ℕ)) (f : List ℕ) (w : List Token) → Found (CallAfter t f) Never w
called t f w =
    then_found {X = List Expr} ArgumentsAt (λ xs. Ended (word.Sign sign.Semicolon) (action.Call t f xs)) Never Never w (length w) (length w) (λ y q v z n b. n) (arguments_by w (sees_close w))
    (λ xs u h. ended_found (word.Sign sign.Semicolon) (action.Call t f xs) u (length w) (omega arith) (sees_end u))

freed : (w : List Token) → Found (ActionAfter beginning.Kfree) Never w
freed w =
    then_found ClosedEnd (λ x. Given (action.Kfree x)) Never Never w (length w) (length w) (λ y q v z n b. n) (closed_end w)
    (λ x u h. given_found (action.Kfree x) u (length w) h)

zeroed : (w : List Token) → Found (ActionAfter beginning.Zero) Never w
zeroed w =
    then_found UnaryExpr (λ x. Before (word.Sign sign.ParenClose) (Ended (word.Sign sign.Semicolon) (action.Zero x))) (Tighter rows) Never w (suc (length w)) (length w)
    (word_apart _ (loose sign.ParenClose rows refl)) (unary_found w)
    (λ x u h. before_found (Ended (word.Sign sign.Semicolon) (action.Zero x)) (word.Sign sign.ParenClose) Never u (length w) (sees_close u)
    (λ r s. ended_found (word.Sign sign.Semicolon) (action.Zero x) r (length w) (omega arith) (sees_end r)))

allocated : (t : List ℕ) (w : List Token) → Found (ActionAfter (beginning.Kalloc t)) Never w
allocated t w =
    then_found TypeNameAt (λ e. Before (word.Sign sign.Comma) (Then ClosedEnd (λ y. Given (action.Kalloc t e y)))) (At is_in_types) Never w (suc (length w)) (length w)
    (word_apart _ types_comma) (type_found w)
    (λ e u h. before_found (Then ClosedEnd (λ y. Given (action.Kalloc t e y))) (word.Sign sign.Comma) Never u (length w) (sees_comma u)
    (λ r s. then_found ClosedEnd (λ y. Given (action.Kalloc t e y)) Never Never r (length r) (length w) (λ y q v z n b. n) (closed_end r)
    (λ y v k. given_found (action.Kalloc t e y) v (length w) (omega arith))))

assigned : (w : List Token) → Found (ActionAfter beginning.Place) Never w
assigned w =
    then_found UnaryExpr (λ x. Before (word.Sign sign.Assign) (Then (Closed sign.Semicolon) (λ y. Given (action.Assign x y)))) (Tighter rows) Never w (suc (length w)) (length w)
    (word_apart _ (loose sign.Assign rows refl)) (unary_found w)
    (λ x u h. before_found (Then (Closed sign.Semicolon) (λ y. Given (action.Assign x y))) (word.Sign sign.Assign) Never u (length w) (sees_assign u)
    (λ r s. then_found (Closed sign.Semicolon) (λ y. Given (action.Assign x y)) Never Never r (length r) (length w) (λ y q v z n b. n) (closed_found sign.Semicolon r refl sees_end)
    (λ y v k. given_found (action.Assign x y) v (length w) (omega arith))))

after : (b : Beginning) (w : List Token) → Found (ActionAfter b) Never w
after beginning.Empty w = ended_found (word.Sign sign.Semicolon) action.Empty w (length w) (le_refl (length w)) (sees_end w)
after beginning.Return w = returned_by w (sees_end w)
after beginning.Kfree w = freed w
after beginning.Zero w = zeroed w
after (beginning.Call f) w = called None f w
after (beginning.CallTo t f) w = called (Some t) f w
after (beginning.Kalloc t) w = allocated t w
after beginning.Place w = assigned w

-- ---- a beginning takes no words twice
opened_fits : (b : Beginning) (w u : List Token) → length u ≤ length w → (f : Front) → front_of u ≡ f → length (opened b w f).1 ≤ length w
opened_fits b w u h (front (word.Sign sign.ParenOpen) r) e = let fewer = begins_shrinks u e in omega arith
opened_fits b w u h _ e = le_refl (length w)

targeted_fits : (n : List ℕ) (w t : List Token) → length t ≤ length w → (f : Front) → front_of t ≡ f → length (targeted n w f).1 ≤ length w
targeted_fits n w t h (front (word.Name f) u) e = let fewer = begins_shrinks t e in opened_fits (beginning.CallTo n f) w u (omega arith) (front_of u) refl
targeted_fits n w t h (front (word.Keyword keyword.Kalloc) u) e = let fewer = begins_shrinks t e in opened_fits (beginning.Kalloc n) w u (omega arith) (front_of u) refl
targeted_fits n w t h _ e = le_refl (length w)

named_fits : (n : List ℕ) (w u : List Token) → length u ≤ length w → (f : Front) → front_of u ≡ f → length (named n w f).1 ≤ length w
named_fits n w u h (front (word.Sign sign.ParenOpen) r) e = let fewer = begins_shrinks u e in omega arith
named_fits n w u h (front (word.Sign sign.Assign) r) e = let fewer = begins_shrinks u e in targeted_fits n w r (omega arith) (front_of r) refl
named_fits n w u h _ e = le_refl (length w)

beginning_fits : (w : List Token) (f : Front) → front_of w ≡ f → length (beginning_front w f).1 ≤ length w
beginning_fits w (front (word.Sign sign.Semicolon) u) e = le_refl (length w)
beginning_fits w (front (word.Name n) u) e = let fewer = begins_shrinks w e in named_fits n w u (omega arith) (front_of u) refl
beginning_fits w (front (word.Keyword keyword.Return) u) e = let fewer = begins_shrinks w e in omega arith
beginning_fits w (front (word.Keyword keyword.Kfree) u) e = let fewer = begins_shrinks w e in opened_fits beginning.Kfree w u (omega arith) (front_of u) refl
beginning_fits w (front (word.Keyword keyword.Zero) u) e = let fewer = begins_shrinks w e in opened_fits beginning.Zero w u (omega arith) (front_of u) refl
beginning_fits w _ e = le_refl (length w)

-- ---- simple statements
simple_by : (w u : List Token) (b : Beginning) → ◌≡◌ {A = Beginning × List Token} (b, u) (beginning_of w) → length u ≤ length w → Found (ActionAfter b) Never u → Found {X = Simple} SimpleAt Never w
simple_by w u b e h (None, best, f) = (None, simple_none w (action_best w u b None e best), tt)
simple_by w u b e h (Some a, best, f) = (Some (record { line = line_at w; action = a.0 }, a.1), simple_some w a.1 a.0 (action_best w u b (Some a) e best), omega (arith, f))

pub simple_found : (w : List Token) → Found {X = Simple} SimpleAt Never w
simple_found w = let p = beginning_of w in simple_by w p.1 p.0 refl (beginning_fits w (front_of w) refl) (after p.0 p.1)
