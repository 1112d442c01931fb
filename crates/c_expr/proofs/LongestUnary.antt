-- The longest unary expression, one lemma for each way in which a reader ends.
use Rattle.std.proofs.Common.{◌≡◌, List, Option, None, Some, IfSome, true, false, refl, ap, sym, ◌∙◌, subst, inl, inr}
use Rattle.c_tree.specs.declared.expressions.Expr.{Expr}
use Rattle.c_tree.specs.declared.expressions.Expr.TheVariants as expr
use Rattle.c_tree.specs.declared.expressions.Unary.{Unary}
use Rattle.c_tree.specs.declared.keywords.Keyword.TheVariants as keyword
use Rattle.c_tree.specs.declared.types.TypeName.{TypeName}
use Rattle.c_tree.specs.declared.words.Token.{Token}
use Rattle.c_tree.specs.declared.words.Word.TheVariants as word
use Rattle.c_tree.specs.Operators.{UnaryAt, rows}
use Rattle.c_tree.specs.Reading.{Begins, Best, Within, Never}
use Rattle.c_tree.specs.TypeGrammar.{InParens}
use Rattle.c_tree.specs.ExpressionGrammar.{UnaryExpr, prefixed, cast, size_of, plain, Postfix}
use Rattle.c_expr.specs.ExpressionReading.{opens_type}
use Rattle.c_expr.specs.Looking.{Lacks}
use Rattle.c_expr.specs.Strength.{Tighter}
use Rattle.c_expr.proofs.Chains.{best_none}
use Rattle.c_expr.proofs.Firsts.{parens_open_type, postfix_no_type, operator_no_type, size_no_type, no_operator_first, no_size_first}

-- a larger tree around the operand
around : (f : Expr → Expr) (v : List Token) (x y : Expr) (u : List Token) → Within (Tighter rows) v y (x, u) → Within (Tighter rows) v (f y) (f x, u)
around f v x y u (inl e) = inl (ap f e.0, e.1)
around f v x y u (inr p) = inr p

-- ---- an operator before an operand
-- what stands after the operator is the operand
operand : (w u v : List Token) (o : Unary) (z : Expr) → UnaryAt w o u → UnaryExpr w v z → (y : Expr) × UnaryExpr u v y × (expr.Unary o y ≡ z)
operand w u v o z b (prefixed {o = o'} {u = u'} {x = y} c d) =
    let p = b.begins in let q = c.begins in let m = b.means in let n = c.means in
    let sign_same : b.sign ≡ c.sign = cc in let same : u' ≡ u = cc in let operator_same : o ≡ o' = cc in
    (y, subst (λ q. UnaryExpr q v y) same d, ap (λ q. expr.Unary q y) operator_same)
operand w u v o z b (cast {t = t} {u = u'} i d) = absurd (operator_no_type w u o b (parens_open_type w u' t i))
operand w u v o z b (size_of c i) = let p = b.begins in cc
operand w u v o z b (plain d) = absurd (no_operator_first w u v o z b d)

pub prefixed_none : (w u : List Token) (o : Unary) → UnaryAt w o u → Best (UnaryExpr u) (Tighter rows) None → Best (UnaryExpr w) (Tighter rows) None
prefixed_none w u o b best = best_none (UnaryExpr w) (Tighter rows) (λ v z d. let found = operand w u v o z b d in best.covers v found.0 found.1)

prefixed_covers : (w u r : List Token) (o : Unary) (x : Expr) → UnaryAt w o u → Best (UnaryExpr u) (Tighter rows) (Some (x, r)) → (v : List Token) (z : Expr) → UnaryExpr w v z
    → Within (Tighter rows) v z (expr.Unary o x, r)
prefixed_covers w u r o x b best v z d = let found = operand w u v o z b d in
    subst (λ q. Within (Tighter rows) v q (expr.Unary o x, r)) found.2 (around (λ q. expr.Unary o q) v x found.0 r (best.covers v found.0 found.1))

pub prefixed_some : (w u r : List Token) (o : Unary) (x : Expr) → UnaryAt w o u → Best (UnaryExpr u) (Tighter rows) (Some (x, r))
    → Best (UnaryExpr w) (Tighter rows) (Some (expr.Unary o x, r))
prefixed_some w u r o x b best = record { sound = prefixed b best.sound; covers = prefixed_covers w u r o x b best }

-- ---- 'sizeof'
-- what stands after `sizeof` is the type
measured : (w u v : List Token) (z : Expr) → Begins w (word.Keyword keyword.Sizeof) u → UnaryExpr w v z → (t : TypeName) × InParens u v t × (expr.Sizeof t ≡ z)
measured w u v z b (prefixed c d) = let p = c.begins in cc
measured w u v z b (cast {t = t} {u = u'} i d) = absurd (size_no_type w u b (parens_open_type w u' t i))
measured w u v z b (size_of {t = t} {u = u'} c i) = let same : u' ≡ u = cc in (t, subst (λ q. InParens q v t) same i, refl)
measured w u v z b (plain d) = absurd (no_size_first w u v z b d)

pub size_none : (w u : List Token) → Begins w (word.Keyword keyword.Sizeof) u → Best (InParens u) Never None → Best (UnaryExpr w) (Tighter rows) None
size_none w u b best = best_none (UnaryExpr w) (Tighter rows) (λ v z d. let found = measured w u v z b d in best.covers v found.0 found.1)

size_covers : (w u r : List Token) (t : TypeName) → Begins w (word.Keyword keyword.Sizeof) u → Best (InParens u) Never (Some (t, r)) → (v : List Token) (z : Expr)
    → (s : TypeName) → InParens u v s → expr.Sizeof s ≡ z → Within (Tighter rows) v z (expr.Sizeof t, r)
size_covers w u r t b best v z s i e = by (best.covers v s i)
  where
    by : Within Never v s (t, r) → Within (Tighter rows) v z (expr.Sizeof t, r)
    by (inl k) = inl (ap (λ q. expr.Sizeof q) k.0 ∙ e, k.1)
    by (inr p) = absurd p.1

pub size_some : (w u r : List Token) (t : TypeName) → Begins w (word.Keyword keyword.Sizeof) u → Best (InParens u) Never (Some (t, r))
    → Best (UnaryExpr w) (Tighter rows) (Some (expr.Sizeof t, r))
size_some w u r t b best = record {
  sound = size_of b best.sound;
  covers = λ v z d. let found = measured w u v z b d in size_covers w u r t b best v z found.0 found.1 found.2;
}

-- ---- casts
-- what stands there is a type in parentheses and an operand
converted : (w v : List Token) (z : Expr) → opens_type w ≡ true → UnaryExpr w v z
    → (t : TypeName) × (u : List Token) × (y : Expr) × InParens w u t × UnaryExpr u v y × (expr.Cast t y ≡ z)
converted w v z h (prefixed {o = o} {u = u} c d) = absurd (operator_no_type w u o c h)
converted w v z h (cast {t = t} {u = u} {x = y} i d) = (t, u, y, i, d, refl)
converted w v z h (size_of {u = u} c i) = absurd (size_no_type w u c h)
converted w v z h (plain d) = absurd (postfix_no_type w v z d h)

pub cast_untyped : (w : List Token) → opens_type w ≡ true → Best (InParens w) Never None → Best (UnaryExpr w) (Tighter rows) None
cast_untyped w h best = best_none (UnaryExpr w) (Tighter rows) (λ v z d. let found = converted w v z h d in best.covers found.1 found.0 found.3)

-- the type is the one that was read
typed : (w u r v : List Token) (t s : TypeName) (y : Expr) → Best (InParens w) Never (Some (t, r)) → InParens w u s → UnaryExpr u v y → (t ≡ s) × UnaryExpr r v y
typed w u r v t s y best i d = by (best.covers u s i)
  where
    by : Within Never u s (t, r) → (t ≡ s) × UnaryExpr r v y
    by (inl e) = (e.0, subst (λ q. UnaryExpr q v y) (sym e.1) d)
    by (inr p) = absurd p.1

pub cast_none : (w r : List Token) (t : TypeName) → opens_type w ≡ true → Best (InParens w) Never (Some (t, r)) → Best (UnaryExpr r) (Tighter rows) None
    → Best (UnaryExpr w) (Tighter rows) None
cast_none w r t h best operand_best = best_none (UnaryExpr w) (Tighter rows)
    (λ v z d. let found = converted w v z h d in operand_best.covers v found.2 (typed w found.1 r v t found.0 found.2 best found.3 found.4).1)

cast_covers : (w r q : List Token) (t : TypeName) (x : Expr) → Best (InParens w) Never (Some (t, r)) → Best (UnaryExpr r) (Tighter rows) (Some (x, q)) → (v : List Token) (z : Expr)
    → (s : TypeName) (u : List Token) (y : Expr) → InParens w u s → UnaryExpr u v y → expr.Cast s y ≡ z → Within (Tighter rows) v z (expr.Cast t x, q)
cast_covers w r q t x best operand_best v z s u y i d e = let found = typed w u r v t s y best i d in
    subst (λ k. Within (Tighter rows) v k (expr.Cast t x, q)) (ap (λ k. expr.Cast k y) found.0 ∙ e) (around (λ k. expr.Cast t k) v x y q (operand_best.covers v y found.1))

pub cast_some : (w r q : List Token) (t : TypeName) (x : Expr) → opens_type w ≡ true → Best (InParens w) Never (Some (t, r)) → Best (UnaryExpr r) (Tighter rows) (Some (x, q))
    → Best (UnaryExpr w) (Tighter rows) (Some (expr.Cast t x, q))
cast_some w r q t x h best operand_best = record {
  sound = cast best.sound operand_best.sound;
  covers = λ v z d. let found = converted w v z h d in cast_covers w r q t x best operand_best v z found.0 found.1 found.2 found.3 found.4 found.5;
}

-- ---- postfix expressions
-- the words begin with no operator before an operand
abbrev pub NoOperator : List Token → Type 0
NoOperator w = (o : Unary) (u : List Token) → UnaryAt w o u → ⊥

unprefixed : (w v : List Token) (z : Expr) → NoOperator w → Lacks w (word.Keyword keyword.Sizeof) → opens_type w ≡ false → UnaryExpr w v z → Postfix w v z
unprefixed w v z none lacks h (prefixed {o = o} {u = u} c d) = absurd (none o u c)
unprefixed w v z none lacks h (cast {t = t} {u = u} i d) = let there = parens_open_type w u t i in cc
unprefixed w v z none lacks h (size_of {u = u} c i) = absurd (lacks u c)
unprefixed w v z none lacks h (plain d) = d

plain_sound : (w : List Token) (a : Option (Expr × List Token)) → Best (Postfix w) (Tighter rows) a → IfSome a (λ b. UnaryExpr w b.1 b.0)
plain_sound w None best = tt
plain_sound w (Some a) best = plain best.sound

pub unary_plain : (w : List Token) (a : Option (Expr × List Token)) → NoOperator w → Lacks w (word.Keyword keyword.Sizeof) → opens_type w ≡ false
    → Best (Postfix w) (Tighter rows) a → Best (UnaryExpr w) (Tighter rows) a
unary_plain w a none lacks h best = record { sound = plain_sound w a best; covers = λ v z d. best.covers v z (unprefixed w v z none lacks h d) }
