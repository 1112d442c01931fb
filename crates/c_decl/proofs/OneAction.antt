-- The forms of simple statements are told apart by their first words, and at most one stands at a place.
use Rattle.std.proofs.Common.{◌≡◌, ℕ, ◌+◌, List, [], ◌∷◌, None, Some, refl, sym, ap, ◌∙◌, subst, zero, suc, ◌⊎◌, inl, inr, arith}
use Rattle.c_tree.specs.declared.expressions.Expr.{Expr}
use Rattle.c_tree.specs.declared.expressions.Expr.TheVariants as expr
use Rattle.c_tree.specs.declared.keywords.Keyword.TheVariants as keyword
use Rattle.c_tree.specs.declared.signs.Sign.{Sign}
use Rattle.c_tree.specs.declared.signs.Sign.TheVariants as sign
use Rattle.c_tree.specs.declared.statements.Action.{Action}
use Rattle.c_tree.specs.declared.statements.Action.TheVariants as action
use Rattle.c_tree.specs.declared.types.TypeName.{TypeName}
use Rattle.c_tree.specs.declared.words.Token.{Token}
use Rattle.c_tree.specs.declared.words.Word.TheVariants as word
use Rattle.c_tree.specs.ExpressionGrammar.{Row, row, last_row, row_end, UnaryExpr, plain, postfix, postfix_end, single, Closed, closed}
use Rattle.c_tree.specs.Operators.{rows}
use Rattle.c_tree.specs.Reading.{Front, front_of, Begins, Enclosed, enclosed, line_at}
use Rattle.c_tree.specs.Reading.Front.{front}
use Rattle.c_tree.specs.StatementGrammar.{ArgumentsAt, no_argument, arguments, MoreArgumentsAt, last_argument, argument, CallAt, call_at, TargetAt, target_at, Ends, ActionAt, assign, call, call_to, kalloc, kfree, return_value, return_alone, empty, SimpleAt, simple}
use Rattle.c_tree.specs.StatementGrammar as statements
use Rattle.c_tree.specs.TypeGrammar.{TypeNameAt}
use Rattle.c_expr.specs.Classes.{At, is_in_types, is_expression}
use Rattle.c_expr.specs.Strength.{sign_strength, Tighter}
use Rattle.c_expr.proofs.Begins.{in_class}
use Rattle.c_expr.proofs.ExpressionExistence.{row_exists}
use Rattle.c_expr.proofs.Firsts.{unary_first, closed_first}
use Rattle.c_expr.proofs.TypeExistence.{type_exists}
use Rattle.c_decl.proofs.Only.{Only, only_ending, closes_row, closed_only, unary_only}

-- ---- the forms
pub data Form : Type 0 where
  assigns : Form
  calls : Form
  calls_to : Form
  allocates : Form
  frees : Form
  zeroes : Form
  returns : Form
  ends : Form

-- behind NAME '=' NAME, behind NAME '=', behind NAME, and from the first word on
abbrev pub form_behind_value : Front → Form
form_behind_value (front (word.Sign sign.ParenOpen) u) = calls_to
form_behind_value _ = assigns

abbrev pub form_behind_sign : Front → Form
form_behind_sign (front (word.Name n) u) = form_behind_value (front_of u)
form_behind_sign (front (word.Keyword keyword.Kalloc) u) = allocates
form_behind_sign _ = assigns

abbrev pub form_behind_name : Front → Form
form_behind_name (front (word.Sign sign.ParenOpen) u) = calls
form_behind_name (front (word.Sign sign.Assign) u) = form_behind_sign (front_of u)
form_behind_name _ = assigns

abbrev pub form_of_front : Front → Form
form_of_front (front (word.Name n) u) = form_behind_name (front_of u)
form_of_front (front (word.Keyword keyword.Kfree) u) = frees
form_of_front (front (word.Keyword keyword.Zero) u) = zeroes
form_of_front (front (word.Keyword keyword.Return) u) = returns
form_of_front (front (word.Sign sign.Semicolon) u) = ends
form_of_front _ = assigns

abbrev pub form_of : List Token → Form
form_of w = form_of_front (front_of w)

-- ---- a name alone is an expression, and the longest one before a sign that binds nothing
pub name_unary : (w u : List Token) (n : List ℕ) → Begins w (word.Name n) u → UnaryExpr w u (expr.Name n)
name_unary w u n b = plain (postfix (single (record { word = word.Name n; begins = b; means = refl })) postfix_end)

rows_up : (k l : ℕ) (w v : List Token) (x : Expr) → l + k ≡ rows → UnaryExpr w v x → Row l w v x
rows_up zero l w v x e d = last_row (omega arith) d
rows_up (suc k) l w v x e d = row (omega arith) (rows_up k (l + 1) w v x (omega arith) d) row_end

pub unary_row : (w v : List Token) (x : Expr) → UnaryExpr w v x → Row 0 w v x
unary_row w v x d = rows_up rows 0 w v x refl d

-- an expression that begins with a name before such a sign ends there
name_ends : (w u r v : List Token) (n : List ℕ) (s : Sign) (x : Expr) → sign_strength s ≡ 0 → Begins w (word.Name n) u → Begins u (word.Sign s) r → Row 0 w v x → (Tighter 0 v → ⊥) → v ≡ u
name_ends w u r v n s x h b c d g = sym (only_ending (Row 0) (Tighter 0) w (row_exists 0 (omega arith) w) u v (expr.Name n) x (unary_row w u (expr.Name n) (name_unary w u n b)) (closes_row 0 s u r h c) d g).1

unary_ends : (w u r v : List Token) (n : List ℕ) (s : Sign) (x : Expr) → sign_strength s ≡ 0 → Begins w (word.Name n) u → Begins u (word.Sign s) r → UnaryExpr w v x → (Tighter 0 v → ⊥) → v ≡ u
unary_ends w u r v n s x h b c d g = name_ends w u r v n s x h b c (unary_row w v x d) g

-- ---- an assignment has that form
value_of_named : (r p v : List Token) (m : List ℕ) (y : Expr) → Begins r (word.Name m) p → Closed sign.Semicolon r v y → (f : Front) → front_of p ≡ f → form_behind_value f ≡ assigns
value_of_named r p v m y b (closed {u = u} d c) (front (word.Sign sign.ParenOpen) q) h =
    let same : u ≡ p = name_ends r p q u m sign.ParenOpen y refl b h d (closes_row 0 sign.Semicolon u v refl c) in cc
value_of_named r p v m y b d _ h = refl

value_form : (r v : List Token) (y : Expr) → Closed sign.Semicolon r v y → (f : Front) → front_of r ≡ f → form_behind_sign f ≡ assigns
value_form r v y d (front (word.Name m) p) h = value_of_named r p v m y h d (front_of p) refl
value_form r v y d (front (word.Keyword keyword.Kalloc) p) h = let clash = in_class is_expression r h (closed_first sign.Semicolon r v y d) in cc
value_form r v y d _ h = refl

name_form : (w o u r v : List Token) (n : List ℕ) (x y : Expr) → Begins w (word.Name n) o → UnaryExpr w u x → Begins u (word.Sign sign.Assign) r → Closed sign.Semicolon r v y → (f : Front) → front_of o ≡ f
    → form_behind_name f ≡ assigns
name_form w o u r v n x y b d c e (front (word.Sign sign.ParenOpen) q) h =
    let same : u ≡ o = unary_ends w o q u n sign.ParenOpen x refl b h d (closes_row 0 sign.Assign u r refl c) in cc
name_form w o u r v n x y b d c e (front (word.Sign sign.Assign) q) h =
    let same : u ≡ o = unary_ends w o q u n sign.Assign x refl b h d (closes_row 0 sign.Assign u r refl c) in
    let here : r ≡ q = cc in
    value_form q v y (subst (λ z. Closed sign.Semicolon z v y) here e) (front_of q) refl
name_form w o u r v n x y b d c e _ h = refl

assign_form : (w u r v : List Token) (x y : Expr) → UnaryExpr w u x → Begins u (word.Sign sign.Assign) r → Closed sign.Semicolon r v y → (f : Front) → front_of w ≡ f → form_of_front f ≡ assigns
assign_form w u r v x y d c e (front (word.Name n) o) h = name_form w o u r v n x y h d c e (front_of o) refl
assign_form w u r v x y d c e (front (word.Keyword keyword.Kfree) o) h = let clash = in_class is_expression w h (unary_first w u x d) in cc
assign_form w u r v x y d c e (front (word.Keyword keyword.Zero) o) h = let clash = in_class is_expression w h (unary_first w u x d) in cc
assign_form w u r v x y d c e (front (word.Keyword keyword.Return) o) h = let clash = in_class is_expression w h (unary_first w u x d) in cc
assign_form w u r v x y d c e (front (word.Sign sign.Semicolon) o) h = let clash = in_class is_expression w h (unary_first w u x d) in cc
assign_form w u r v x y d c e _ h = refl

-- ---- what stands at a place, by the form that its first words have
abbrev pub Shape : Form → List Token → List Token → Action → Type 0
Shape assigns w v a = (u : List Token) × (r : List Token) × (x : Expr) × (y : Expr) × UnaryExpr w u x × Begins u (word.Sign sign.Assign) r × Closed sign.Semicolon r v y × (action.Assign x y ≡ a)
Shape calls w v a = (u : List Token) × (r : List Token) × (f : List ℕ) × (xs : List Expr) × CallAt w u f × ArgumentsAt u r xs × Ends r v × (action.Call None f xs ≡ a)
Shape calls_to w v a = (t : List Token) × (u : List Token) × (r : List Token) × (x : List ℕ) × (f : List ℕ) × (xs : List Expr) × TargetAt w t x × CallAt t u f × ArgumentsAt u r xs × Ends r v
    × (action.Call (Some x) f xs ≡ a)
Shape allocates w v a = (t : List Token) × (u : List Token) × (o : List Token) × (r : List Token) × (c : List Token) × (d : List Token) × (x : List ℕ) × (e : TypeName) × (y : Expr) × TargetAt w t x
    × Begins t (word.Keyword keyword.Kalloc) u × Begins u (word.Sign sign.ParenOpen) o × TypeNameAt o r e × Begins r (word.Sign sign.Comma) c × Closed sign.ParenClose c d y × Ends d v × (action.Kalloc x e y ≡ a)
Shape frees w v a = (u : List Token) × (o : List Token) × (r : List Token) × (x : Expr) × Begins w (word.Keyword keyword.Kfree) u × Begins u (word.Sign sign.ParenOpen) o × Closed sign.ParenClose o r x × Ends r v
    × (action.Kfree x ≡ a)
Shape zeroes w v a = (u : List Token) × (r : List Token) × (x : Expr) × Begins w (word.Keyword keyword.Zero) u × Enclosed UnaryExpr u r x × Ends r v × (action.Zero x ≡ a)
Shape returns w v a = (u : List Token) × Begins w (word.Keyword keyword.Return) u × (((x : Expr) × Closed sign.Semicolon u v x × (action.Return (Some x) ≡ a)) ⊎ (Ends u v × (action.Return None ≡ a)))
Shape ends w v a = Ends w v × (action.Empty ≡ a)

form_frees : (w u : List Token) → Begins w (word.Keyword keyword.Kfree) u → form_of w ≡ frees
form_frees w u b = rw b refl

form_zeroes : (w u : List Token) → Begins w (word.Keyword keyword.Zero) u → form_of w ≡ zeroes
form_zeroes w u b = rw b refl

form_returns : (w u : List Token) → Begins w (word.Keyword keyword.Return) u → form_of w ≡ returns
form_returns w u b = rw b refl

form_ends : (w v : List Token) → Ends w v → form_of w ≡ ends
form_ends w v b = rw b refl

form_calls : (w u : List Token) (f : List ℕ) → CallAt w u f → form_of w ≡ calls
form_calls w u f (call_at b c) = rw b (rw c refl)

form_calls_to : (w t u : List Token) (x f : List ℕ) → TargetAt w t x → CallAt t u f → form_of w ≡ calls_to
form_calls_to w t u x f (target_at b c) (call_at d e) = rw b (rw c (rw d (rw e refl)))

form_allocates : (w t u : List Token) (x : List ℕ) → TargetAt w t x → Begins t (word.Keyword keyword.Kalloc) u → form_of w ≡ allocates
form_allocates w t u x (target_at b c) d = rw b (rw c (rw d refl))

shaped : (w v : List Token) (a : Action) (k : Form) → form_of w ≡ k → Shape k w v a → Shape (form_of w) w v a
shaped w v a k e s = subst (λ j. Shape j w v a) (sym e) s

-- a simple statement has the shape that its first words say
pub shape : (w v : List Token) (a : Action) → ActionAt w v a → Shape (form_of w) w v a
shape w v a (assign {u = u} {r = r} {x = x} {y = y} d c e) = shaped w v a assigns (assign_form w u r v x y d c e (front_of w) refl) (u, r, x, y, d, c, e, refl)
shape w v a (call {u = u} {r = r} {f = f} {xs = xs} c d e) = shaped w v a calls (form_calls w u f c) (u, r, f, xs, c, d, e, refl)
shape w v a (call_to {t = t} {u = u} {r = r} {x = x} {f = f} {xs = xs} b c d e) = shaped w v a calls_to (form_calls_to w t u x f b c) (t, u, r, x, f, xs, b, c, d, e, refl)
shape w v a (kalloc {t = t} {u = u} {o = o} {r = r} {c = q} {d = p} {x = x} {e = e} {y = y} b c d g h i j) =
    shaped w v a allocates (form_allocates w t u x b c) (t, u, o, r, q, p, x, e, y, b, c, d, g, h, i, j, refl)
shape w v a (kfree {u = u} {o = o} {r = r} {x = x} b c d e) = shaped w v a frees (form_frees w u b) (u, o, r, x, b, c, d, e, refl)
shape w v a (statements.zero {u = u} {r = r} {x = x} b d e) = shaped w v a zeroes (form_zeroes w u b) (u, r, x, b, d, e, refl)
shape w v a (return_value {u = u} {x = x} b d) = shaped w v a returns (form_returns w u b) (u, b, inl (x, d, refl))
shape w v a (return_alone {u = u} b d) = shaped w v a returns (form_returns w u b) (u, b, inr (d, refl))
shape w v a (empty b) = shaped w v a ends (form_ends w v b) (b, refl)

-- ---- arguments
closing_word : (s z : Sign) → sign_strength s ≡ 0 → sign_strength z ≡ 0 → (w v v' : List Token) (x x' : Expr) → Closed s w v x → Closed z w v' x' → s ≡ z
closing_word s z h i w v v' x x' (closed {u = u} d b) (closed {u = u'} e c) =
    let same = only_ending (Row 0) (Tighter 0) w (row_exists 0 (omega arith) w) u u' x x' d (closes_row 0 s u v h b) e (closes_row 0 z u' v' i c) in
    let here : u ≡ u' = same.1 in cc

pub more_arguments_only : {w v v' : List Token} {xs xs' : List Expr} → MoreArgumentsAt w v xs → MoreArgumentsAt w v' xs' → (xs ≡ xs') × (v ≡ v')
more_arguments_only {w} {v} {v'} (last_argument {x = x} d) (last_argument {x = x'} e) = let same = closed_only sign.ParenClose refl w v v' x x' d e in (ap (λ y. y ∷ []) same.0, same.1)
more_arguments_only {w} {v} {v'} (last_argument {x = x} d) (argument {u = u'} {x = x'} e s) = let clash = closing_word sign.ParenClose sign.Comma refl refl w v u' x x' d e in cc
more_arguments_only {w} {v} {v'} (argument {u = u} {x = x} d r) (last_argument {x = x'} e) = let clash = closing_word sign.Comma sign.ParenClose refl refl w u v' x x' d e in cc
more_arguments_only {w} {v} {v'} (argument {u = u} {x = x} {xs = xs} d r) (argument {u = u'} {x = x'} {xs = xs'} e s) =
    let first = closed_only sign.Comma refl w u u' x x' d e in
    let rest = more_arguments_only r (subst (λ q. MoreArgumentsAt q v' xs') (sym first.1) s) in
    (ap (λ y. y ∷ xs) first.0 ∙ ap (λ ys. x' ∷ ys) rest.0, rest.1)

argument_first : (w v : List Token) (xs : List Expr) → MoreArgumentsAt w v xs → At is_expression w
argument_first w v xs (last_argument {x = x} d) = closed_first sign.ParenClose w v x d
argument_first w v xs (argument {u = u} {x = x} d r) = closed_first sign.Comma w u x d

pub arguments_only : (w v v' : List Token) (xs xs' : List Expr) → ArgumentsAt w v xs → ArgumentsAt w v' xs' → (xs ≡ xs') × (v ≡ v')
arguments_only w v v' xs xs' (no_argument b) (no_argument c) = (refl, cc)
arguments_only w v v' xs xs' (no_argument b) (arguments e) = let clash = in_class is_expression w b (argument_first w v' xs' e) in cc
arguments_only w v v' xs xs' (arguments d) (no_argument c) = let clash = in_class is_expression w c (argument_first w v xs d) in cc
arguments_only w v v' xs xs' (arguments d) (arguments e) = more_arguments_only d e

-- ---- one shape
-- no type name goes on at a comma
closes_comma : (v u : List Token) → Begins v (word.Sign sign.Comma) u → At is_in_types v → ⊥
closes_comma v u b g = let clash = in_class is_in_types v b g in cc

zero_only : (w v v' : List Token) (x x' : Expr) → Enclosed UnaryExpr w v x → Enclosed UnaryExpr w v' x' → (x ≡ x') × (v ≡ v')
zero_only w v v' x x' (enclosed {u = u} {r = r} b d c) (enclosed {u = u'} {r = r'} e f g) =
    let here : u' ≡ u = cc in
    let same = unary_only sign.ParenClose refl u r r' v v' x x' d c (subst (λ q. UnaryExpr q r' x') here f) g in
    let there : r ≡ r' = same.1 in
    (same.0, cc)

only_shape : (k : Form) (w v v' : List Token) (a a' : Action) → Shape k w v a → Shape k w v' a' → (a ≡ a') × (v ≡ v')
only_shape assigns w v v' a a' (u, r, x, y, d, c, e, i) (u', r', x', y', d', c', e', i') =
    let left = unary_only sign.Assign refl w u u' r r' x x' d c d' c' in
    let here : u ≡ u' = left.1 in
    let there : r' ≡ r = cc in
    let right = closed_only sign.Semicolon refl r v v' y y' e (subst (λ q. Closed sign.Semicolon q v' y') there e') in
    let one : x ≡ x' = left.0 in
    let two : y ≡ y' = right.0 in
    (cc, right.1)
only_shape calls w v v' a a' (u, r, f, xs, call_at b c, d, e, i) (u', r', f', xs', call_at b' c', d', e', i') =
    let here : u' ≡ u = cc in
    let name : f ≡ f' = cc in
    let rest = arguments_only u r r' xs xs' d (subst (λ q. ArgumentsAt q r' xs') here d') in
    let there : r ≡ r' = rest.1 in
    let same : xs ≡ xs' = rest.0 in
    (cc, cc)
only_shape calls_to w v v' a a' (t, u, r, x, f, xs, target_at g h, call_at b c, d, e, i) (t', u', r', x', f', xs', target_at g' h', call_at b' c', d', e', i') =
    let here : u' ≡ u = cc in
    let target : x ≡ x' = cc in
    let name : f ≡ f' = cc in
    let rest = arguments_only u r r' xs xs' d (subst (λ q. ArgumentsAt q r' xs') here d') in
    let there : r ≡ r' = rest.1 in
    let same : xs ≡ xs' = rest.0 in
    (cc, cc)
only_shape allocates w v v' a a' (t, u, o, r, c, d, x, e, y, target_at g h, b, j, k, l, m, n, i) (t', u', o', r', c', d', x', e', y', target_at g' h', b', j', k', l', m', n', i') =
    let here : o' ≡ o = cc in
    let target : x ≡ x' = cc in
    let type = only_ending TypeNameAt (At is_in_types) o (type_exists o) r r' e e' k (closes_comma r c l) (subst (λ q. TypeNameAt q r' e') here k') (closes_comma r' c' l') in
    let element : e ≡ e' = type.0 in
    let comma : r ≡ r' = type.1 in
    let there : c' ≡ c = cc in
    let count = closed_only sign.ParenClose refl c d d' y y' m (subst (λ q. Closed sign.ParenClose q d' y') there m') in
    let number : y ≡ y' = count.0 in
    let behind : d ≡ d' = count.1 in
    (cc, cc)
only_shape frees w v v' a a' (u, o, r, x, b, c, d, e, i) (u', o', r', x', b', c', d', e', i') =
    let here : o' ≡ o = cc in
    let inside = closed_only sign.ParenClose refl o r r' x x' d (subst (λ q. Closed sign.ParenClose q r' x') here d') in
    let same : x ≡ x' = inside.0 in
    let there : r ≡ r' = inside.1 in
    (cc, cc)
only_shape zeroes w v v' a a' (u, r, x, b, d, e, i) (u', r', x', b', d', e', i') =
    let here : u' ≡ u = cc in
    let inside = zero_only u r r' x x' d (subst (λ q. Enclosed UnaryExpr q r' x') here d') in
    let same : x ≡ x' = inside.0 in
    let there : r ≡ r' = inside.1 in
    (cc, cc)
only_shape returns w v v' a a' (u, b, inl (x, d, i)) (u', b', inl (x', d', i')) =
    let here : u' ≡ u = cc in
    let value = closed_only sign.Semicolon refl u v v' x x' d (subst (λ q. Closed sign.Semicolon q v' x') here d') in
    let same : x ≡ x' = value.0 in
    (cc, value.1)
only_shape returns w v v' a a' (u, b, inr (d, i)) (u', b', inr (d', i')) = (cc, cc)
only_shape returns w v v' a a' (u, b, inl (x, d, i)) (u', b', inr (d', i')) = let here : u' ≡ u = cc in let clash = in_class is_expression u (subst (λ q. Ends q v') here d') (closed_first sign.Semicolon u v x d) in cc
only_shape returns w v v' a a' (u, b, inr (d, i)) (u', b', inl (x', d', i')) = let here : u ≡ u' = cc in let clash = in_class is_expression u' (subst (λ q. Ends q v) here d) (closed_first sign.Semicolon u' v' x' d') in cc
only_shape ends w v v' a a' (b, i) (b', i') = (cc, cc)

pub action_only : (w : List Token) → Only ActionAt w
action_only w v v' a a' d e = only_shape (form_of w) w v v' a a' (shape w v a d) (shape w v' a' e)

pub simple_only : (w : List Token) → Only SimpleAt w
simple_only w v v' s s' (simple {a = a} d) (simple {a = a'} e) =
    let same = action_only w v v' a a' d e in (ap (λ b. record { line = line_at w; action = b }) same.0, same.1)
