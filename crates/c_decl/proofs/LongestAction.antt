-- The longest simple statement and the longest arguments, one lemma for each way in which a reader ends.
use Rattle.std.proofs.Common.{◌≡◌, List, [], ◌∷◌, ◌++◌, Option, None, Some, IfSome, refl, ap, sym, ◌∙◌, subst, inl, inr, append_assoc}
use Rattle.c_tree.specs.declared.expressions.Expr.{Expr}
use Rattle.c_tree.specs.declared.signs.Sign.TheVariants as sign
use Rattle.c_tree.specs.declared.statements.Action.{Action}
use Rattle.c_tree.specs.declared.statements.Action.TheVariants as action
use Rattle.c_tree.specs.declared.statements.Simple.{Simple}
use Rattle.c_tree.specs.declared.words.Token.{Token}
use Rattle.c_tree.specs.declared.words.Word.TheVariants as word
use Rattle.c_tree.specs.ExpressionGrammar.{Row, Closed}
use Rattle.c_tree.specs.Reading.{Begins, Best, Within, Covered, Never, line_at}
use Rattle.c_tree.specs.StatementGrammar.{ArgumentsAt, no_argument, arguments, MoreArgumentsAt, last_argument, argument, ActionAt, SimpleAt, simple}
use Rattle.c_expr.specs.Classes.{is_expression}
use Rattle.c_expr.specs.Looking.{Lacks}
use Rattle.c_expr.specs.Strength.{Tighter}
use Rattle.c_expr.proofs.Begins.{in_class}
use Rattle.c_expr.proofs.Chains.{best_none}
use Rattle.c_expr.proofs.Firsts.{closed_first}
use Rattle.c_expr.proofs.LongestPrimary.{closed_none, closed_open, closed_shut}
use Rattle.c_decl.specs.Actions.{ReturnAfter, alone, value}
use Rattle.c_decl.specs.Arguments.{behind}
use Rattle.c_decl.specs.Sequences.{ended}
use Rattle.c_decl.proofs.Sequences.{best_same}

-- ---- 'return'
alone_covers : (w u : List Token) → Begins w (word.Sign sign.Semicolon) u → (v : List Token) (a : Action) → ReturnAfter w v a → Within Never v a (action.Return None, u)
alone_covers w u b v a (alone (ended c e)) = let same : u ≡ v = cc in inl (e, same)
alone_covers w u b v a (value {x = x} d) = let clash = in_class is_expression w b (closed_first sign.Semicolon w v x d) in cc

pub return_alone : (w u : List Token) → Begins w (word.Sign sign.Semicolon) u → Best (ReturnAfter w) Never (Some (action.Return None, u))
return_alone w u b = record { sound = alone (ended b refl); covers = alone_covers w u b }

no_return : (w : List Token) → Lacks w (word.Sign sign.Semicolon) → Best (Closed sign.Semicolon w) Never None → (v : List Token) (a : Action) → ReturnAfter w v a → ⊥
no_return w lacks best v a (alone (ended c e)) = lacks _ c
no_return w lacks best v a (value {x = x} d) = best.covers v x d

pub return_none : (w : List Token) → Lacks w (word.Sign sign.Semicolon) → Best (Closed sign.Semicolon w) Never None → Best (ReturnAfter w) Never None
return_none w lacks best = best_none (ReturnAfter w) Never (no_return w lacks best)

value_covers : (w u : List Token) (x : Expr) → Lacks w (word.Sign sign.Semicolon) → Best (Closed sign.Semicolon w) Never (Some (x, u)) → (v : List Token) (a : Action) → ReturnAfter w v a
    → Within Never v a (action.Return (Some x), u)
value_covers w u x lacks best v a (alone (ended c e)) = absurd (lacks _ c)
value_covers w u x lacks best v a (value {x = y} d) = by (best.covers v y d)
  where
    by : Within Never v y (x, u) → Within Never v (action.Return (Some y)) (action.Return (Some x), u)
    by (inl e) = inl (ap (λ z. action.Return (Some z)) e.0, e.1)
    by (inr p) = absurd p.1

pub return_value : (w u : List Token) (x : Expr) → Lacks w (word.Sign sign.Semicolon) → Best (Closed sign.Semicolon w) Never (Some (x, u))
    → Best (ReturnAfter w) Never (Some (action.Return (Some x), u))
return_value w u x lacks best = record { sound = value best.sound; covers = value_covers w u x lacks best }

-- ---- a simple statement with its line
simple_out : (w v : List Token) (s : Simple) → SimpleAt w v s → (a : Action) × ActionAt w v a × (◌≡◌ {A = Simple} (record { line = line_at w; action = a }) s)
simple_out w v s (simple {a = a} d) = (a, d, refl)

pub simple_none : (w : List Token) → Best (ActionAt w) Never None → Best (SimpleAt w) Never None
simple_none w best = best_none (SimpleAt w) Never (λ v s d. let p = simple_out w v s d in best.covers v p.0 p.1)

simple_covers : (w u : List Token) (x : Action) → Best (ActionAt w) Never (Some (x, u)) → (v : List Token) (s : Simple) (a : Action) → ActionAt w v a
    → ◌≡◌ {A = Simple} (record { line = line_at w; action = a }) s → Within {X = Simple} Never v s (record { line = line_at w; action = x }, u)
simple_covers w u x best v s a d e = by (best.covers v a d)
  where
    by : Within Never v a (x, u) → Within {X = Simple} Never v s (record { line = line_at w; action = x }, u)
    by (inl p) = let f : Action → Simple = λ z. record { line = line_at w; action = z } in inl (ap f p.0 ∙ e, p.1)
    by (inr p) = absurd p.1

pub simple_some : (w u : List Token) (x : Action) → Best (ActionAt w) Never (Some (x, u)) → Best {X = Simple} (SimpleAt w) Never (Some (record { line = line_at w; action = x }, u))
simple_some w u x best = record { sound = simple best.sound; covers = λ v s d. let p = simple_out w v s d in simple_covers w u x best v s p.0 p.1 p.2 }

-- ---- arguments
more_first : (w v : List Token) (xs : List Expr) → MoreArgumentsAt w v xs → (u : List Token) → Begins w (word.Sign sign.ParenClose) u → ⊥
more_first w v xs (last_argument {x = x} d) u b = let clash = in_class is_expression w b (closed_first sign.ParenClose w v x d) in cc
more_first w v xs (argument {u = r} {x = x} d m) u b = let clash = in_class is_expression w b (closed_first sign.Comma w r x d) in cc

none_covers : (w u : List Token) → Begins w (word.Sign sign.ParenClose) u → (v : List Token) (xs : List Expr) → ArgumentsAt w v xs → Within {X = List Expr} Never v xs ([], u)
none_covers w u b v xs (no_argument c) = let same : u ≡ v = cc in inl (refl, same)
none_covers w u b v xs (arguments m) = absurd (more_first w v xs m u b)

pub arguments_none : (w u : List Token) → Begins w (word.Sign sign.ParenClose) u → Best {X = List Expr} (ArgumentsAt w) Never (Some ([], u))
arguments_none w u b = record { sound = no_argument b; covers = none_covers w u b }

arguments_out : (w : List Token) → Lacks w (word.Sign sign.ParenClose) → (v : List Token) (xs : List Expr) → ArgumentsAt w v xs → MoreArgumentsAt w v xs
arguments_out w lacks v xs (no_argument c) = absurd (lacks _ c)
arguments_out w lacks v xs (arguments m) = m

pub arguments_some : (w : List Token) (o : Option (List Expr × List Token)) → Lacks w (word.Sign sign.ParenClose) → Best {X = List Expr} (MoreArgumentsAt w) Never o
    → Best {X = List Expr} (ArgumentsAt w) Never o
arguments_some w o lacks best = best_same (λ v xs m. arguments m) (arguments_out w lacks) best

-- one argument or more, where none of both closings has an answer
no_more : (w : List Token) → Best (Closed sign.ParenClose w) Never None → Best (Closed sign.Comma w) Never None → (v : List Token) (xs : List Expr) → MoreArgumentsAt w v xs → ⊥
no_more w close comma v xs (last_argument {x = x} d) = close.covers v x d
no_more w close comma v xs (argument {u = r} {x = x} d m) = comma.covers r x d

pub more_none : (w : List Token) → Best (Row 0 w) (Tighter 0) None → Best {X = List Expr} (MoreArgumentsAt w) Never None
more_none w best = best_none {X = List Expr} (MoreArgumentsAt w) Never (no_more w (closed_none sign.ParenClose w best) (closed_none sign.Comma w best))

pub more_open : (w r : List Token) (x : Expr) → Best (Row 0 w) (Tighter 0) (Some (x, r)) → Lacks r (word.Sign sign.ParenClose) → Lacks r (word.Sign sign.Comma)
    → Best {X = List Expr} (MoreArgumentsAt w) Never None
more_open w r x best close comma =
    best_none {X = List Expr} (MoreArgumentsAt w) Never (no_more w (closed_open sign.ParenClose w r x refl best close) (closed_open sign.Comma w r x refl best comma))

last_covers : (w u : List Token) (x : Expr) → Best (Closed sign.ParenClose w) Never (Some (x, u)) → Best (Closed sign.Comma w) Never None → (v : List Token) (xs : List Expr)
    → MoreArgumentsAt w v xs → Within {X = List Expr} Never v xs (x ∷ [], u)
last_covers w u x close comma v xs (last_argument {x = y} d) = by (close.covers v y d)
  where
    by : Within Never v y (x, u) → Within {X = List Expr} Never v (y ∷ []) (x ∷ [], u)
    by (inl e) = let f : Expr → List Expr = λ z. z ∷ [] in inl (ap f e.0, e.1)
    by (inr p) = absurd p.1
last_covers w u x close comma v xs (argument {u = r} {x = y} d m) = absurd (comma.covers r y d)

pub more_last : (w r u : List Token) (x : Expr) → Best (Row 0 w) (Tighter 0) (Some (x, r)) → Begins r (word.Sign sign.ParenClose) u
    → Best {X = List Expr} (MoreArgumentsAt w) Never (Some (x ∷ [], u))
more_last w r u x best b = let close = closed_shut sign.ParenClose w r u x refl best b in
    record { sound = last_argument close.sound; covers = last_covers w u x close (closed_open sign.Comma w r x refl best (λ q c. cc)) }

on_sound : (w u : List Token) (x : Expr) (o : Option (List Expr × List Token)) → Closed sign.Comma w u x → IfSome o (λ a. MoreArgumentsAt u a.1 a.0)
    → IfSome (behind (x ∷ []) o) (λ a. MoreArgumentsAt w a.1 a.0)
on_sound w u x None d s = tt
on_sound w u x (Some a) d s = argument d s

on_covered : (v : List Token) (x : Expr) (xs : List Expr) (o : Option (List Expr × List Token)) → Covered {X = List Expr} Never v xs o → Covered {X = List Expr} Never v (x ∷ xs) (behind (x ∷ []) o)
on_covered v x xs None c = c
on_covered v x xs (Some a) (inl e) = inl (ap (λ t. x ∷ t) e.0, e.1)
on_covered v x xs (Some a) (inr p) = absurd p.1

on_covers : (w u : List Token) (x : Expr) (o : Option (List Expr × List Token)) → Best (Closed sign.Comma w) Never (Some (x, u)) → Best (Closed sign.ParenClose w) Never None
    → Best {X = List Expr} (MoreArgumentsAt u) Never o → (v : List Token) (xs : List Expr) → MoreArgumentsAt w v xs → Covered {X = List Expr} Never v xs (behind (x ∷ []) o)
on_covers w u x o comma close rest v xs (last_argument {x = y} d) = absurd (close.covers v y d)
on_covers w u x o comma close rest v xs (argument {u = r} {x = y} {xs = ys} d m) = by (comma.covers r y d)
  where
    by : Within Never r y (x, u) → Covered {X = List Expr} Never v (y ∷ ys) (behind (x ∷ []) o)
    by (inl e) = subst (λ z. Covered {X = List Expr} Never v (z ∷ ys) (behind (x ∷ []) o)) e.0 (on_covered v x ys o (rest.covers v ys (subst (λ q. MoreArgumentsAt q v ys) (sym e.1) m)))
    by (inr p) = absurd p.1

pub more_on : (w r u : List Token) (x : Expr) (o : Option (List Expr × List Token)) → Best (Row 0 w) (Tighter 0) (Some (x, r)) → Begins r (word.Sign sign.Comma) u
    → Best {X = List Expr} (MoreArgumentsAt u) Never o → Best {X = List Expr} (MoreArgumentsAt w) Never (behind (x ∷ []) o)
more_on w r u x o best b rest = let comma = closed_shut sign.Comma w r u x refl best b in
    record { sound = on_sound w u x o comma.sound rest.sound; covers = on_covers w u x o comma (closed_open sign.ParenClose w r x refl best (λ q c. cc)) rest }

-- arguments behind others
pub behind-behind : (xs : List Expr) (x : Expr) (o : Option (List Expr × List Token)) → behind (xs ++ x ∷ []) o ≡ behind xs (behind (x ∷ []) o)
behind-behind xs x None = refl
behind-behind xs x (Some a) = let f : List Expr → Option (List Expr × List Token) = λ ys. Some (ys, a.1) in ap f (append_assoc xs (x ∷ []) a.0)

pub behind-none : (o : Option (List Expr × List Token)) → behind [] o ≡ o
behind-none None = refl
behind-none (Some a) = refl
