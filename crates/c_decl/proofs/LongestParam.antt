-- The longest parameters, one lemma for each way in which a reader ends.
use Rattle.std.proofs.Common.{◌≡◌, ℕ, List, [], ◌∷◌, Bool, true, false, Option, None, Some, refl, ap, sym, ◌∙◌, subst, inl, inr}
use Rattle.c_tree.specs.declared.items.Param.{Param}
use Rattle.c_tree.specs.declared.keywords.Keyword.TheVariants as keyword
use Rattle.c_tree.specs.declared.signs.Sign.TheVariants as sign
use Rattle.c_tree.specs.declared.words.Token.{Token}
use Rattle.c_tree.specs.declared.words.Word.TheVariants as word
use Rattle.c_tree.specs.ItemGrammar.{ParamAt, param, MoreParamAt, more_param, no_param, written_void, params}
use Rattle.c_tree.specs.Reading.{Begins, Best, Within, Never, Each, line_at}
use Rattle.c_expr.specs.Classes.{At, is_base}
use Rattle.c_expr.specs.Looking.{Lacks}
use Rattle.c_expr.proofs.Begins.{in_class}
use Rattle.c_expr.proofs.Chains.{best_none, followed}
use Rattle.c_expr.proofs.Firsts.{type_first}
use Rattle.c_decl.specs.declared.declarations.Typed.{Typed}
use Rattle.c_decl.specs.declared.params.Params.{Params}
use Rattle.c_decl.specs.Classes.{is_comma}
use Rattle.c_decl.specs.Parts.{TypedAt, typed, ListAt, listed, ParamsEnd, params_end}
use Rattle.c_decl.specs.Sequences.{Then, then, Before, before, Given, given}
use Rattle.c_decl.proofs.Apart.{comma_close}
use Rattle.c_decl.proofs.Sequences.{then_none, before_lacks, before_is, mapped, best_same}

-- ---- one parameter
abbrev param_with : ℕ → Typed → Param
param_with line t = record { line = line; type_name = t.type_name; name = t.name }

abbrev Named : ℕ → List Token → List Token → Param → Type 0
Named line = Then TypedAt (λ t. Given (param_with line t))

param_in : (w v : List Token) (x : Param) → Named (line_at w) w v x → ParamAt w v x
param_in w v x (then (typed {u = u} {n = n} c b) (given f g)) = subst (ParamAt w v) g (param c (subst (λ p. Begins u (word.Name n) p) f b))

param_out : (w v : List Token) (x : Param) → ParamAt w v x → Named (line_at w) w v x
param_out w v x (param c b) = then (typed c b) (given refl refl)

pub param_none : (w : List Token) → Best (TypedAt w) Never None → Best (ParamAt w) Never None
param_none w best = best_same (param_in w) (param_out w) (then_none best)

pub param_some : (w u : List Token) (t : Typed) → Best (TypedAt w) Never (Some (t, u))
    → Best {X = Param} (ParamAt w) Never (Some (record { line = line_at w; type_name = t.type_name; name = t.name }, u))
param_some w u t best = best_same (param_in w) (param_out w) (mapped (param_with (line_at w)) best)

-- ---- a parameter behind a comma
abbrev AfterComma : List Token → List Token → Param → Type 0
AfterComma = Before (word.Sign sign.Comma) ParamAt

more_in : (w v : List Token) (x : Param) → AfterComma w v x → MoreParamAt w v x
more_in w v x (before b d) = more_param b d

more_out : (w v : List Token) (x : Param) → MoreParamAt w v x → AfterComma w v x
more_out w v x (more_param b d) = before b d

pub more_none : (w : List Token) → Lacks w (word.Sign sign.Comma) → Best (MoreParamAt w) Never None
more_none w lacks = best_same (more_in w) (more_out w) (before_lacks lacks)

pub more_is : (w u : List Token) (o : Option (Param × List Token)) → Begins w (word.Sign sign.Comma) u → Best (ParamAt u) Never o → Best (MoreParamAt w) Never o
more_is w u o b best = best_same (more_in w) (more_out w) (before_is b best)

pub more_first : (w v : List Token) (x : Param) → MoreParamAt w v x → At is_comma w
more_first w v x (more_param b d) = rw b refl

-- ---- one parameter or more
no_list : (w : List Token) → Best (ParamAt w) Never None → (v : List Token) (xs : List Param) → ListAt w v xs → ⊥
no_list w best v xs (listed {u = u} {p = p} d e) = best.covers u p d

pub list_none : (w : List Token) → Best (ParamAt w) Never None → Best {X = List Param} (ListAt w) (At is_comma) None
list_none w best = best_none {X = List Param} (ListAt w) (At is_comma) (no_list w best)

list_covers : (w u : List Token) (x : Param) (a : List Param × List Token) → Best (ParamAt w) Never (Some (x, u)) → Best {X = List Param} (Each MoreParamAt u) (At is_comma) (Some a)
    → (v : List Token) (xs : List Param) → ListAt w v xs → Within {X = List Param} (At is_comma) v xs (x ∷ a.0, a.1)
list_covers w u x a first rest v xs (listed {u = q} {p = y} {ps = ys} d e) = by (first.covers q y d)
  where
    behind : Within {X = List Param} (At is_comma) v ys a → x ≡ y → Within {X = List Param} (At is_comma) v (y ∷ ys) (x ∷ a.0, a.1)
    behind (inl s) k = inl (ap (λ z. z ∷ a.0) k ∙ ap (λ z. y ∷ z) s.0, s.1)
    behind (inr p) k = inr p

    by : Within Never q y (x, u) → Within {X = List Param} (At is_comma) v (y ∷ ys) (x ∷ a.0, a.1)
    by (inl s) = behind (rest.covers v ys (subst (λ p. Each MoreParamAt p v ys) (sym s.1) e)) s.0
    by (inr p) = absurd p.1

pub list_on : (w u : List Token) (x : Param) (a : List Param × List Token) → Best (ParamAt w) Never (Some (x, u)) → Best {X = List Param} (Each MoreParamAt u) (At is_comma) (Some a)
    → Best {X = List Param} (ListAt w) (At is_comma) (Some (x ∷ a.0, a.1))
list_on w u x a first rest = record { sound = listed first.sound rest.sound; covers = list_covers w u x a first rest }

-- ---- parameters with the parenthesis that closes them
abbrev params_with : Bool → List Param → Params
params_with b ps = record { written_void = b; params = ps }

param_first : (w v : List Token) (x : Param) → ParamAt w v x → At is_base w
param_first w v x (param {u = u} {t = t} d b) = type_first w u t d

nothing_covers : (w u : List Token) → Begins w (word.Sign sign.ParenClose) u → (v : List Token) (x : Params) → ParamsEnd w v x → Within {X = Params} Never v x (record { written_void = false; params = [] }, u)
nothing_covers w u b v x (params_end no_param c) = let same : u ≡ v = cc in inl (refl, same)
nothing_covers w u b v x (params_end (written_void d) c) = cc
nothing_covers w u b v x (params_end (params {u = r} {p = p} d e) c) = let clash = in_class is_base w b (param_first w r p d) in cc

pub params_nothing : (w u : List Token) → Begins w (word.Sign sign.ParenClose) u → Best {X = Params} (ParamsEnd w) Never (Some (record { written_void = false; params = [] }, u))
params_nothing w u b = record { sound = params_end no_param b; covers = nothing_covers w u b }

void_out : (w u v : List Token) (x : Params) → Begins w (word.Keyword keyword.Void) u → ParamsEnd w v x → Begins u (word.Sign sign.ParenClose) v × (◌≡◌ {A = Params} (record { written_void = true; params = [] }) x)
void_out w u v x b (params_end no_param c) = cc
void_out w u v x b (params_end (written_void {v = q} d) c) = let same : q ≡ u = cc in (subst (λ p. Begins p (word.Sign sign.ParenClose) v) same c, refl)
void_out w u v x b (params_end (params {u = r} {p = p} d e) c) = let clash = in_class is_base w b (param_first w r p d) in cc

pub params_void_open : (w u : List Token) → Begins w (word.Keyword keyword.Void) u → Lacks u (word.Sign sign.ParenClose) → Best {X = Params} (ParamsEnd w) Never None
params_void_open w u b lacks = best_none {X = Params} (ParamsEnd w) Never (λ v x d. lacks v (void_out w u v x b d).0)

void_covers : (w u r : List Token) → Begins w (word.Keyword keyword.Void) u → Begins u (word.Sign sign.ParenClose) r → (v : List Token) (x : Params) → ParamsEnd w v x
    → Within {X = Params} Never v x (record { written_void = true; params = [] }, r)
void_covers w u r b c v x d = let p = void_out w u v x b d in let there = p.0 in let same : r ≡ v = cc in inl (p.1, same)

pub params_void : (w u r : List Token) → Begins w (word.Keyword keyword.Void) u → Begins u (word.Sign sign.ParenClose) r
    → Best {X = Params} (ParamsEnd w) Never (Some (record { written_void = true; params = [] }, r))
params_void w u r b c = record { sound = params_end (written_void b) c; covers = void_covers w u r b c }

-- what is neither empty nor `void` is a list
list_out : (w v : List Token) (x : Params) → Lacks w (word.Sign sign.ParenClose) → Lacks w (word.Keyword keyword.Void) → ParamsEnd w v x
    → (u : List Token) × (ps : List Param) × ListAt w u ps × Begins u (word.Sign sign.ParenClose) v × (params_with false ps ≡ x)
list_out w v x none void (params_end no_param c) = absurd (none v c)
list_out w v x none void (params_end (written_void d) c) = absurd (void _ d)
list_out w v x none void (params_end {u = u} (params {p = p} {ps = ps} d e) c) = (u, p ∷ ps, listed d e, c, refl)

pub params_none : (w : List Token) → Lacks w (word.Sign sign.ParenClose) → Lacks w (word.Keyword keyword.Void) → Best {X = List Param} (ListAt w) (At is_comma) None
    → Best {X = Params} (ParamsEnd w) Never None
params_none w none void best = best_none {X = Params} (ParamsEnd w) Never (λ v x d. let p = list_out w v x none void d in best.covers p.0 p.1 p.2)

closing : (w u : List Token) (xs : List Param) → Best {X = List Param} (ListAt w) (At is_comma) (Some (xs, u)) → (v q : List Token) (ps : List Param) → ListAt w q ps → Begins q (word.Sign sign.ParenClose) v
    → (xs ≡ ps) × Begins u (word.Sign sign.ParenClose) v
closing w u xs best v q ps d c = followed {X = List Param} (ListAt w) (At is_comma) (word.Sign sign.ParenClose) comma_close u q v xs ps best d c

pub params_open : (w u : List Token) (xs : List Param) → Lacks w (word.Sign sign.ParenClose) → Lacks w (word.Keyword keyword.Void) → Best {X = List Param} (ListAt w) (At is_comma) (Some (xs, u))
    → Lacks u (word.Sign sign.ParenClose) → Best {X = Params} (ParamsEnd w) Never None
params_open w u xs none void best lacks =
    best_none {X = Params} (ParamsEnd w) Never (λ v x d. let p = list_out w v x none void d in lacks v (closing w u xs best v p.0 p.1 p.2 p.3).1)

list_end : (w v : List Token) (xs : List Param) → (u : List Token) → ListAt w u xs → Begins u (word.Sign sign.ParenClose) v → ParamsEnd w v (params_with false xs)
list_end w v xs u (listed d e) c = params_end (params d e) c

some_covers : (w u r : List Token) (xs : List Param) → Lacks w (word.Sign sign.ParenClose) → Lacks w (word.Keyword keyword.Void) → Best {X = List Param} (ListAt w) (At is_comma) (Some (xs, u))
    → Begins u (word.Sign sign.ParenClose) r → (v : List Token) (x : Params) → ParamsEnd w v x → Within {X = Params} Never v x (record { written_void = false; params = xs }, r)
some_covers w u r xs none void best b v x d =
    let p = list_out w v x none void d in
    let found = closing w u xs best v p.0 p.1 p.2 p.3 in
    let there = found.1 in
    let same : r ≡ v = cc in
    inl (ap (λ ps. params_with false ps) found.0 ∙ p.4, same)

pub params_some : (w u r : List Token) (xs : List Param) → Lacks w (word.Sign sign.ParenClose) → Lacks w (word.Keyword keyword.Void) → Best {X = List Param} (ListAt w) (At is_comma) (Some (xs, u))
    → Begins u (word.Sign sign.ParenClose) r → Best {X = Params} (ParamsEnd w) Never (Some (record { written_void = false; params = xs }, r))
params_some w u r xs none void best b = record { sound = list_end w r xs u best.sound b; covers = some_covers w u r xs none void best b }
