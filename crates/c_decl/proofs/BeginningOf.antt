-- A simple statement is what stands after its beginning, and the other way round.
use Rattle.std.proofs.Common.{◌≡◌, ℕ, List, Option, None, Some, refl, ap, sym, ◌∙◌, subst}
use Rattle.c_tree.specs.declared.expressions.Expr.{Expr}
use Rattle.c_tree.specs.declared.keywords.Keyword.TheVariants as keyword
use Rattle.c_tree.specs.declared.signs.Sign.TheVariants as sign
use Rattle.c_tree.specs.declared.statements.Action.{Action}
use Rattle.c_tree.specs.declared.statements.Action.TheVariants as action
use Rattle.c_tree.specs.declared.words.Token.{Token}
use Rattle.c_tree.specs.declared.words.Word.TheVariants as word
use Rattle.c_tree.specs.ExpressionGrammar.{UnaryExpr, Closed, closed}
use Rattle.c_tree.specs.Reading.{Front, front_of, Begins, Best, Never, enclosed}
use Rattle.c_tree.specs.Reading.Front.{front}
use Rattle.c_tree.specs.StatementGrammar.{ArgumentsAt, call_at, TargetAt, target_at, Ends, ActionAt, assign, call, call_to, kalloc, kfree, zero, return_value, return_alone, empty}
use Rattle.c_expr.specs.Classes.{is_expression}
use Rattle.c_expr.proofs.Begins.{in_class}
use Rattle.c_expr.proofs.Firsts.{unary_first, closed_first}
use Rattle.c_decl.specs.declared.beginnings.Beginning.{Beginning}
use Rattle.c_decl.specs.declared.beginnings.Beginning.TheVariants as beginning
use Rattle.c_decl.specs.Actions.{CallAfter, ReturnAfter, alone, value, ActionAfter}
use Rattle.c_decl.specs.Beginnings.{opened, targeted, named, beginning_front, beginning_of}
use Rattle.c_decl.specs.Sequences.{then, before, ended, given}
use Rattle.c_decl.proofs.NamesAlone.{unary_alone, row_alone}
use Rattle.c_decl.proofs.Sequences.{best_same}

-- ---- what stands after a beginning makes a statement
empty_sound : (w v : List Token) (a : Action) → ActionAfter beginning.Empty w v a → ActionAt w v a
empty_sound w v a (ended b e) = subst (ActionAt w v) e (empty b)

return_sound : (w u v : List Token) (a : Action) → Begins w (word.Keyword keyword.Return) u → ReturnAfter u v a → ActionAt w v a
return_sound w u v a h (alone (ended b e)) = subst (ActionAt w v) e (return_alone h b)
return_sound w u v a h (value c) = return_value h c

kfree_sound : (w u o v : List Token) (a : Action) → Begins w (word.Keyword keyword.Kfree) u → Begins u (word.Sign sign.ParenOpen) o → ActionAfter beginning.Kfree o v a → ActionAt w v a
kfree_sound w u o v a h i (then {u = q} {x = y} (then {u = r} {x = x} c (ended b e)) (given f g)) =
    subst (ActionAt w v) (ap (λ z. action.Kfree z) e ∙ g) (kfree h i c (subst (λ p. Ends r p) f b))

zero_sound : (w u o v : List Token) (a : Action) → Begins w (word.Keyword keyword.Zero) u → Begins u (word.Sign sign.ParenOpen) o → ActionAfter beginning.Zero o v a → ActionAt w v a
zero_sound w u o v a h i (then c (before d (ended b e))) = subst (ActionAt w v) e (zero h (enclosed i c d) b)

call_sound : (w v u : List Token) (t : Option (List ℕ)) (f : List ℕ) (a : Action) → ((r : List Token) (xs : List Expr) → ArgumentsAt u r xs → Ends r v → ActionAt w v (action.Call t f xs))
    → CallAfter t f u v a → ActionAt w v a
call_sound w v u t f a make (then {u = r} {x = xs} c (ended b e)) = subst (ActionAt w v) e (make r xs c b)

kalloc_sound : (w t u o v : List Token) (x : List ℕ) (a : Action) → TargetAt w t x → Begins t (word.Keyword keyword.Kalloc) u → Begins u (word.Sign sign.ParenOpen) o
    → ActionAfter (beginning.Kalloc x) o v a → ActionAt w v a
kalloc_sound w t u o v x a h i j (then {x = e} k (before c (then {u = q} {x = z} (then {u = r} {x = y} d (ended b m)) (given f g)))) =
    subst (ActionAt w v) (ap (λ p. action.Kalloc x e p) m ∙ g) (kalloc h i j k c d (subst (λ p. Ends r p) f b))

place_sound : (w v : List Token) (a : Action) → ActionAfter beginning.Place w v a → ActionAt w v a
place_sound w v a (then {x = x} c (before {u = r} b (then {u = q} {x = y} d (given f g)))) = subst (ActionAt w v) g (assign c b (subst (λ p. Closed sign.Semicolon r p y) f d))

-- a beginning that wants `(`, where u stands after its words
opened_sound : (b : Beginning) (w u v : List Token) (a : Action) → ((o : List Token) → Begins u (word.Sign sign.ParenOpen) o → ActionAfter b o v a → ActionAt w v a) → (f : Front)
    → front_of u ≡ f → ActionAfter (opened b w f).0 (opened b w f).1 v a → ActionAt w v a
opened_sound b w u v a make (front (word.Sign sign.ParenOpen) o) h d = make o h d
opened_sound b w u v a make _ h d = place_sound w v a d

targeted_sound : (w u t v : List Token) (n : List ℕ) (a : Action) → Begins w (word.Name n) u → Begins u (word.Sign sign.Assign) t → (f : Front) → front_of t ≡ f
    → ActionAfter (targeted n w f).0 (targeted n w f).1 v a → ActionAt w v a
targeted_sound w u t v n a h i (front (word.Name f) q) j d =
    opened_sound (beginning.CallTo n f) w q v a (λ o k. call_sound w v o (Some n) f a (λ r xs. call_to (target_at h i) (call_at j k))) (front_of q) refl d
targeted_sound w u t v n a h i (front (word.Keyword keyword.Kalloc) q) j d =
    opened_sound (beginning.Kalloc n) w q v a (λ o k. kalloc_sound w t q o v n a (target_at h i) j k) (front_of q) refl d
targeted_sound w u t v n a h i _ j d = place_sound w v a d

named_sound : (w u v : List Token) (n : List ℕ) (a : Action) → Begins w (word.Name n) u → (f : Front) → front_of u ≡ f → ActionAfter (named n w f).0 (named n w f).1 v a → ActionAt w v a
named_sound w u v n a h (front (word.Sign sign.ParenOpen) o) i d = call_sound w v o None n a (λ r xs. call (call_at h i)) d
named_sound w u v n a h (front (word.Sign sign.Assign) t) i d = targeted_sound w u t v n a h i (front_of t) refl d
named_sound w u v n a h _ i d = place_sound w v a d

action_sound : (w v : List Token) (a : Action) (f : Front) → front_of w ≡ f → ActionAfter (beginning_front w f).0 (beginning_front w f).1 v a → ActionAt w v a
action_sound w v a (front (word.Sign sign.Semicolon) u) h d = empty_sound w v a d
action_sound w v a (front (word.Name n) u) h d = named_sound w u v n a h (front_of u) refl d
action_sound w v a (front (word.Keyword keyword.Return) u) h d = return_sound w u v a h d
action_sound w v a (front (word.Keyword keyword.Kfree) u) h d = opened_sound beginning.Kfree w u v a (λ o i. kfree_sound w u o v a h i) (front_of u) refl d
action_sound w v a (front (word.Keyword keyword.Zero) u) h d = opened_sound beginning.Zero w u v a (λ o i. zero_sound w u o v a h i) (front_of u) refl d
action_sound w v a _ h d = place_sound w v a d

-- ---- an assignment begins with its place
opened_elsewhere : (b : Beginning) (w q : List Token) → ((o : List Token) → Begins q (word.Sign sign.ParenOpen) o → ⊥) → (f : Front) → front_of q ≡ f
    → ◌≡◌ {A = Beginning × List Token} (opened b w f) (beginning.Place, w)
opened_elsewhere b w q none (front (word.Sign sign.ParenOpen) o) h = absurd (none o h)
opened_elsewhere b w q none _ h = refl

-- no value is a name before `(`
no_call : (t q o v : List Token) (f : List ℕ) (y : Expr) → Begins t (word.Name f) q → Begins q (word.Sign sign.ParenOpen) o → Closed sign.Semicolon t v y → ⊥
no_call t q o v f y h i (closed {u = u} d c) = let same : u ≡ q = row_alone 0 t q u f y h (rw i refl) d in cc

targeted_place : (w t v : List Token) (n : List ℕ) (y : Expr) → Closed sign.Semicolon t v y → (f : Front) → front_of t ≡ f
    → ◌≡◌ {A = Beginning × List Token} (targeted n w f) (beginning.Place, w)
targeted_place w t v n y d (front (word.Name f) q) h = opened_elsewhere (beginning.CallTo n f) w q (λ o i. no_call t q o v f y h i d) (front_of q) refl
targeted_place w t v n y d (front (word.Keyword keyword.Kalloc) q) h = let clash = in_class is_expression t h (closed_first sign.Semicolon t v y d) in cc
targeted_place w t v n y d _ h = refl

named_place : (w u r t v : List Token) (n : List ℕ) (x y : Expr) → Begins w (word.Name n) u → UnaryExpr w r x → Begins r (word.Sign sign.Assign) t → Closed sign.Semicolon t v y
    → (f : Front) → front_of u ≡ f → ◌≡◌ {A = Beginning × List Token} (named n w f) (beginning.Place, w)
named_place w u r t v n x y h d b c (front (word.Sign sign.ParenOpen) o) i = let same : r ≡ u = unary_alone w u r n x h (rw i refl) d in cc
named_place w u r t v n x y h d b c (front (word.Sign sign.Assign) s) i =
    let same : r ≡ u = unary_alone w u r n x h (rw i refl) d in let behind : t ≡ s = cc in
    targeted_place w s v n y (subst (λ p. Closed sign.Semicolon p v y) behind c) (front_of s) refl
named_place w u r t v n x y h d b c _ i = refl

place_front : (w r t v : List Token) (x y : Expr) → UnaryExpr w r x → Begins r (word.Sign sign.Assign) t → Closed sign.Semicolon t v y → (f : Front) → front_of w ≡ f
    → ◌≡◌ {A = Beginning × List Token} (beginning_front w f) (beginning.Place, w)
place_front w r t v x y d b c (front (word.Sign sign.Semicolon) u) h = let clash = in_class is_expression w h (unary_first w r x d) in cc
place_front w r t v x y d b c (front (word.Name n) u) h = named_place w u r t v n x y h d b c (front_of u) refl
place_front w r t v x y d b c (front (word.Keyword keyword.Return) u) h = let clash = in_class is_expression w h (unary_first w r x d) in cc
place_front w r t v x y d b c (front (word.Keyword keyword.Kfree) u) h = let clash = in_class is_expression w h (unary_first w r x d) in cc
place_front w r t v x y d b c (front (word.Keyword keyword.Zero) u) h = let clash = in_class is_expression w h (unary_first w r x d) in cc
place_front w r t v x y d b c _ h = refl

-- ---- a statement is what stands after its beginning
abbrev After : List Token → Action → Beginning × List Token → Type 0
After v a p = ActionAfter p.0 p.1 v a

action_complete : (w v : List Token) (a : Action) → ActionAt w v a → After v a (beginning_of w)
action_complete w v a (assign {u = r} {r = t} {x = x} {y = y} d b c) =
    subst (After v (action.Assign x y)) (sym (place_front w r t v x y d b c (front_of w) refl)) (then d (before b (then c (given refl refl))))
action_complete w v a (call (call_at b c) d e) = rw (b, c) (then d (ended e refl))
action_complete w v a (call_to (target_at b c) (call_at d e) f g) = rw (b, c, d, e) (then f (ended g refl))
action_complete w v a (kalloc (target_at b c) d e f g h i) = rw (b, c, d, e) (then f (before g (then (then h (ended i refl)) (given refl refl))))
action_complete w v a (kfree b c d e) = rw (b, c) (then (then d (ended e refl)) (given refl refl))
action_complete w v a (zero b (enclosed c d e) f) = rw (b, c) (then d (before e (ended f refl)))
action_complete w v a (return_value b d) = rw b (value d)
action_complete w v a (return_alone b c) = rw b (alone (ended c refl))
action_complete w v a (empty b) = rw b (ended b refl)

abbrev BestAfter : Option (Action × List Token) → Beginning × List Token → Type 0
BestAfter o p = Best (ActionAfter p.0 p.1) Never o

pub action_best : (w u : List Token) (b : Beginning) (o : Option (Action × List Token)) → ◌≡◌ {A = Beginning × List Token} (b, u) (beginning_of w) → Best (ActionAfter b u) Never o
    → Best (ActionAt w) Never o
action_best w u b o e best = best_same (λ v a d. action_sound w v a (front_of w) refl d) (action_complete w) (subst (BestAfter o) e best)
