-- At most one declaration of each kind stands at a place: constants, arms, fields, parameters, locals and heads.
use Rattle.std.proofs.Common.{◌≡◌, ℕ, List, ◌∷◌, Option, Some, Bool, true, false, refl, sym, ap, ◌∙◌, subst}
use Rattle.c_tree.specs.declared.items.Arm.{Arm}
use Rattle.c_tree.specs.declared.items.Const.{Const}
use Rattle.c_tree.specs.declared.items.Declaration.{Declaration}
use Rattle.c_tree.specs.declared.items.Field.{Field}
use Rattle.c_tree.specs.declared.items.Field.TheVariants as field
use Rattle.c_tree.specs.declared.items.Head.{Head}
use Rattle.c_tree.specs.declared.items.Local.{Local}
use Rattle.c_tree.specs.declared.items.Param.{Param}
use Rattle.c_tree.specs.declared.items.ResultBase.{ResultBase}
use Rattle.c_tree.specs.declared.items.ResultBase.TheVariants as result
use Rattle.c_tree.specs.declared.items.StructItem.{StructItem}
use Rattle.c_tree.specs.declared.keywords.Keyword.TheVariants as keyword
use Rattle.c_tree.specs.declared.signs.Sign.TheVariants as sign
use Rattle.c_tree.specs.declared.types.Base.TheVariants as base
use Rattle.c_tree.specs.declared.types.Number.{Number}
use Rattle.c_tree.specs.declared.types.Star.{Star}
use Rattle.c_tree.specs.declared.types.TypeName.{TypeName}
use Rattle.c_tree.specs.declared.words.Suffix.{Suffix}
use Rattle.c_tree.specs.declared.words.Token.{Token}
use Rattle.c_tree.specs.declared.words.Word.{Word}
use Rattle.c_tree.specs.declared.words.Word.TheVariants as word
use Rattle.c_tree.specs.Division.{token}
use Rattle.c_tree.specs.ItemGrammar.{SizeAt, no_array, array, ConstAt, number, negative, character, DeclarationAt, declaration, ArmAt, arm, FieldAt, plain, union, StructAt, struct, StaticAt, shared, static, ValueAt, no_value, value, ResultAt, void, typed, ParamAt, param, MoreParamAt, more_param, ParamsAt, no_param, written_void, params, HeadAt, head, LocalAt, local}
use Rattle.c_tree.specs.Reading.{Begins, Each, each_more, line_at}
use Rattle.c_tree.specs.StatementGrammar.{Ends}
use Rattle.c_tree.specs.TypeGrammar.{StarAt, type_name, int}
use Rattle.c_expr.specs.Classes.{At, is_base}
use Rattle.c_expr.proofs.Begins.{in_class}
use Rattle.c_expr.proofs.Firsts.{base_first, type_first}
use Rattle.c_decl.proofs.Only.{Only, type_only, each_only}

-- ---- trees with equal parts are equal
abbrev a_size : ℕ → Suffix → Option Number
a_size n x = Some (record { value = n; suffix = x })

size_same : (n n' : ℕ) (x x' : Suffix) → n ≡ n' → x ≡ x' → a_size n x ≡ a_size n' x'
size_same n n' x x' e f = ap (λ m. a_size m x) e ∙ ap (λ y. a_size n' y) f

abbrev a_declaration : TypeName → List ℕ → Option Number → Declaration
a_declaration t n s = record { type_name = t; name = n; size = s }

declaration_same : (t t' : TypeName) (n n' : List ℕ) (s s' : Option Number) → t ≡ t' → n ≡ n' → s ≡ s' → a_declaration t n s ≡ a_declaration t' n' s'
declaration_same t t' n n' s s' e f g = ap (λ y. a_declaration y n s) e ∙ ap (λ y. a_declaration t' y s) f ∙ ap (λ y. a_declaration t' n' y) g

abbrev an_arm : ℕ → TypeName → List ℕ → List ℕ → Const → Arm
an_arm l t n m k = record { line = l; type_name = t; name = n; tag = m; value = k }

arm_same : (l : ℕ) (t t' : TypeName) (n n' m m' : List ℕ) (k k' : Const) → t ≡ t' → n ≡ n' → m ≡ m' → k ≡ k' → an_arm l t n m k ≡ an_arm l t' n' m' k'
arm_same l t t' n n' m m' k k' e f g h = ap (λ y. an_arm l y n m k) e ∙ ap (λ y. an_arm l t' y m k) f ∙ ap (λ y. an_arm l t' n' y k) g ∙ ap (λ y. an_arm l t' n' m' y) h

union_same : (l : ℕ) (xs xs' : List Arm) (n n' : List ℕ) → xs ≡ xs' → n ≡ n' → field.Union l xs n ≡ field.Union l xs' n'
union_same l xs xs' n n' e f = ap (λ y. field.Union l y n) e ∙ ap (λ y. field.Union l xs' y) f

abbrev a_struct : ℕ → List ℕ → List Field → StructItem
a_struct l n xs = record { line = l; name = n; fields = xs }

struct_same : (l : ℕ) (n n' : List ℕ) (xs xs' : List Field) → n ≡ n' → xs ≡ xs' → a_struct l n xs ≡ a_struct l n' xs'
struct_same l n n' xs xs' e f = ap (λ y. a_struct l y xs) e ∙ ap (λ y. a_struct l n' y) f

abbrev a_param : ℕ → TypeName → List ℕ → Param
a_param l t n = record { line = l; type_name = t; name = n }

param_same : (l : ℕ) (t t' : TypeName) (n n' : List ℕ) → t ≡ t' → n ≡ n' → a_param l t n ≡ a_param l t' n'
param_same l t t' n n' e f = ap (λ y. a_param l y n) e ∙ ap (λ y. a_param l t' y) f

params_same : (p p' : Param) (ps ps' : List Param) → p ≡ p' → ps ≡ ps' → p ∷ ps ≡ p' ∷ ps'
params_same p p' ps ps' e f = ap (λ y. y ∷ ps) e ∙ ap (λ y. p' ∷ y) f

abbrev a_local : ℕ → TypeName → List ℕ → Local
a_local l t n = record { line = l; type_name = t; name = n }

local_same : (l : ℕ) (t t' : TypeName) (n n' : List ℕ) → t ≡ t' → n ≡ n' → a_local l t n ≡ a_local l t' n'
local_same l t t' n n' e f = ap (λ y. a_local l y n) e ∙ ap (λ y. a_local l t' y) f

abbrev a_head : ℕ → Bool → ResultBase → List Star → List ℕ → Bool → List Param → Head
a_head l s r ss n b ps = record { line = l; is_static = s; result = r; stars = ss; name = n; written_void = b; params = ps }

head_same : (l : ℕ) (s s' : Bool) (r r' : ResultBase) (ss ss' : List Star) (n n' : List ℕ) (b b' : Bool) (ps ps' : List Param) → s ≡ s' → r ≡ r' → ss ≡ ss' → n ≡ n' → b ≡ b' → ps ≡ ps'
    → a_head l s r ss n b ps ≡ a_head l s' r' ss' n' b' ps'
head_same l s s' r r' ss ss' n n' b b' ps ps' d e f g h i =
    ap (λ z. a_head l z r ss n b ps) d ∙ ap (λ z. a_head l s' z ss n b ps) e ∙ ap (λ z. a_head l s' r' z n b ps) f ∙ ap (λ z. a_head l s' r' ss' z b ps) g ∙ ap (λ z. a_head l s' r' ss' n' z ps) h
    ∙ ap (λ z. a_head l s' r' ss' n' b' z) i

-- ---- constants
pub const_only : (w : List Token) → Only ConstAt w
const_only w v v' x x' (number b) (number c) = (cc, cc)
const_only w v v' x x' (number b) (negative c d) = cc
const_only w v v' x x' (number b) (character c) = cc
const_only w v v' x x' (negative b d) (number c) = cc
const_only w v v' x x' (negative b d) (negative c e) = (cc, cc)
const_only w v v' x x' (negative b d) (character c) = cc
const_only w v v' x x' (character b) (number c) = cc
const_only w v v' x x' (character b) (negative c d) = cc
const_only w v v' x x' (character b) (character c) = (cc, cc)

-- ---- sizes and values, up to what stands after them
pub size_only : (w v v' u u' : List Token) (k k' : Word) (s s' : Option Number) → SizeAt w v s → Begins v k u → SizeAt w v' s' → Begins v' k' u' → (k ≡ word.Sign sign.BracketOpen → ⊥) → (k' ≡ word.Sign sign.BracketOpen → ⊥)
    → (s ≡ s') × (v ≡ v')
size_only w v v' u u' k k' s s' no_array b no_array c g h = (refl, refl)
size_only w v v' u u' k k' s s' no_array b (array d e f) c g h = let clash : k ≡ word.Sign sign.BracketOpen = cc in absurd (g clash)
size_only w v v' u u' k k' s s' (array d e f) b no_array c g h = let clash : k' ≡ word.Sign sign.BracketOpen = cc in absurd (h clash)
size_only w v v' u u' k k' s s' (array {u = o} {r = r} {n = n} {s = x} d e f) b (array {u = o'} {r = r'} {n = n'} {s = x'} d' e' f') c g h =
    let here : o ≡ o' = cc in
    let digits : n ≡ n' = cc in
    let suffix : x ≡ x' = cc in
    (size_same n n' x x' digits suffix, cc)

pub value_only : (w v v' u u' : List Token) (s s' : Option Const) → ValueAt w v s → Ends v u → ValueAt w v' s' → Ends v' u' → (s ≡ s') × (v ≡ v')
value_only w v v' u u' s s' no_value b no_value c = (refl, refl)
value_only w v v' u u' s s' no_value b (value d e) c = cc
value_only w v v' u u' s s' (value d e) b no_value c = cc
value_only w v v' u u' s s' (value {u = o} {c = x} d e) b (value {u = o'} {c = x'} d' e') c =
    let here : o' ≡ o = cc in
    let same = const_only o v v' x x' e (subst (λ q. ConstAt q v' x') here e') in
    (ap (λ y. Some y) same.0, same.1)

-- ---- declarations before a word that opens no size
pub declaration_only : (w v v' u u' : List Token) (k k' : Word) (x x' : Declaration) → DeclarationAt w v x → Begins v k u → DeclarationAt w v' x' → Begins v' k' u' → (k ≡ word.Sign sign.BracketOpen → ⊥)
    → (k' ≡ word.Sign sign.BracketOpen → ⊥) → (x ≡ x') × (v ≡ v')
declaration_only w v v' u u' k k' x x' (declaration {u = o} {r = r} {t = t} {n = n} {s = s} d e f) b (declaration {u = o'} {r = r'} {t = t'} {n = n'} {s = s'} d' e' f') c g h =
    let type = type_only w o o' r r' t t' n n' d e d' e' in
    let here : o ≡ o' = type.1 in
    let name : n ≡ n' = cc in
    let there : r' ≡ r = cc in
    let size = size_only r v v' u u' k k' s s' f b (subst (λ q. SizeAt q v' s') there f') c g h in
    (declaration_same t t' n n' s s' type.0 name size.0, size.1)

-- ---- arms, fields and structs
pub arm_only : (w : List Token) → Only ArmAt w
arm_only w v v' x x' (arm {a = a} {b = b} {f = f} {g = g} {h = h} {t = t} {n = n} {m = m} {k = k} d1 d2 d3 d4 d5 d6 d7 d8 d9) (arm {a = a'} {b = b'} {f = f'} {g = g'} {h = h'} {t = t'} {n = n'} {m = m'} {k = k'} e1 e2 e3 e4 e5 e6 e7 e8 e9) =
    let type = type_only w a a' b b' t t' n n' d1 d2 e1 e2 in
    let here : a ≡ a' = type.1 in
    let name : n ≡ n' = cc in
    let tag : m ≡ m' = cc in
    let there : f' ≡ f = cc in
    let constant = const_only f g g' k k' d7 (subst (λ q. ConstAt q g' k') there e7) in
    let behind : g ≡ g' = constant.1 in
    (arm_same (line_at w) t t' n n' m m' k k' type.0 name tag constant.0, cc)

declaration_first : (w v : List Token) (x : Declaration) → DeclarationAt w v x → At is_base w
declaration_first w v x (declaration {u = u} {t = t} d e f) = type_first w u t d

pub arm_first : (w v : List Token) (x : Arm) → ArmAt w v x → At is_base w
arm_first w v x (arm {a = a} {t = t} d1 d2 d3 d4 d5 d6 d7 d8 d9) = type_first w a t d1

-- no words of a class begin with a word outside it
outside : (class : Word → Bool) (w u : List Token) (k : Word) → At class w → Begins w k u → class k ≡ false → ⊥
outside class w u k g b e = let clash : class k ≡ true = in_class class w b g in cc

pub field_only : (w : List Token) → Only FieldAt w
field_only w v v' x x' (plain {u = u} {d = d} p c) (plain {u = u'} {d = d'} p' c') =
    let same = declaration_only w u u' v v' (word.Sign sign.Semicolon) (word.Sign sign.Semicolon) d d' p c p' c' (λ e. cc) (λ e. cc) in
    let here : u ≡ u' = same.1 in
    (ap (λ y. field.Plain (line_at w) y) same.0, cc)
field_only w v v' x x' (plain {u = u} {d = d} p c) (union {a = a} e1 e2 e3 e4 e5 e6 e7) = absurd (outside is_base w a (word.Keyword keyword.Union) (declaration_first w u d p) e1 refl)
field_only w v v' x x' (union {a = a} e1 e2 e3 e4 e5 e6 e7) (plain {u = u} {d = d} p c) = absurd (outside is_base w a (word.Keyword keyword.Union) (declaration_first w u d p) e1 refl)
field_only w v v' x x' (union {b = b} {d = d} {x = y} {xs = ys} {n = n} d1 d2 d3 d4 d5 d6 d7) (union {b = b'} {c = c'} {d = d'} {x = y'} {xs = ys'} {n = n'} e1 e2 e3 e4 e5 e6 e7) =
    let here : b' ≡ b = cc in
    let arms = each_only ArmAt arm_only (each_more d3 d4) (subst (λ q. Each ArmAt q d' (y' ∷ ys')) here (each_more e3 e4))
    (λ u z r. outside is_base d _ (word.Sign sign.BraceClose) (arm_first d u z r) d5 refl) (λ u z r. outside is_base d' _ (word.Sign sign.BraceClose) (arm_first d' u z r) e5 refl) in
    let there : d ≡ d' = arms.1 in
    let name : n ≡ n' = cc in
    (union_same (line_at w) (y ∷ ys) (y' ∷ ys') n n' arms.0 name, cc)

pub field_close : (w v u : List Token) (x : Field) → FieldAt w v x → Begins w (word.Sign sign.BraceClose) u → ⊥
field_close w v u x (plain {u = r} {d = d} p c) b = outside is_base w u (word.Sign sign.BraceClose) (declaration_first w r d p) b refl
field_close w v u x (union e1 e2 e3 e4 e5 e6 e7) b = cc

pub struct_only : (w : List Token) → Only StructAt w
struct_only w v v' x x' (struct {c = c} {e = e} {n = n} {x = y} {xs = ys} d1 d2 d3 d4 d5 d6 d7) (struct {c = c'} {e = e'} {n = n'} {x = y'} {xs = ys'} e1 e2 e3 e4 e5 e6 e7) =
    let here : c' ≡ c = cc in
    let fields = each_only FieldAt field_only (each_more d4 d5) (subst (λ q. Each FieldAt q e' (y' ∷ ys')) here (each_more e4 e5)) (λ u z r. field_close e u _ z r d6) (λ u z r. field_close e' u _ z r e6) in
    let there : e ≡ e' = fields.1 in
    let name : n ≡ n' = cc in
    (struct_same (line_at w) n n' (y ∷ ys) (y' ∷ ys') name fields.0, cc)

-- ---- parameters and locals
pub param_only : (w : List Token) → Only ParamAt w
param_only w v v' x x' (param {u = u} {t = t} {n = n} d e) (param {u = u'} {t = t'} {n = n'} d' e') =
    let type = type_only w u u' v v' t t' n n' d e d' e' in
    let here : u ≡ u' = type.1 in
    let name : n ≡ n' = cc in
    (param_same (line_at w) t t' n n' type.0 name, cc)

more_param_only : (w : List Token) → Only MoreParamAt w
more_param_only w v v' x x' (more_param {u = u} b d) (more_param {u = u'} b' d') = let here : u' ≡ u = cc in param_only u v v' x x' d (subst (λ q. ParamAt q v' x') here d')

param_first : (w v : List Token) (x : Param) → ParamAt w v x → At is_base w
param_first w v x (param {u = u} {t = t} d e) = type_first w u t d

more_close : (w v u : List Token) (x : Param) → MoreParamAt w v x → Begins w (word.Sign sign.ParenClose) u → ⊥
more_close w v u x (more_param b d) c = cc

pub params_only : (w v v' u u' : List Token) (s s' : Bool) (ps ps' : List Param) → ParamsAt w v s ps → Begins v (word.Sign sign.ParenClose) u → ParamsAt w v' s' ps' → Begins v' (word.Sign sign.ParenClose) u'
    → (s ≡ s') × (ps ≡ ps') × (v ≡ v')
params_only w v v' u u' s s' ps ps' no_param c no_param c' = (refl, refl, refl)
params_only w v v' u u' s s' ps ps' no_param c (written_void b) c' = cc
params_only w v v' u u' s s' ps ps' no_param c (params {u = r} {p = p} d e) c' = absurd (outside is_base w u (word.Sign sign.ParenClose) (param_first w r p d) c refl)
params_only w v v' u u' s s' ps ps' (written_void b) c no_param c' = cc
params_only w v v' u u' s s' ps ps' (written_void b) c (written_void b') c' = (refl, refl, cc)
params_only w v v' u u' s s' ps ps' (written_void b) c (params {u = r} {p = p} d e) c' = absurd (outside is_base w v (word.Keyword keyword.Void) (param_first w r p d) b refl)
params_only w v v' u u' s s' ps ps' (params {u = r} {p = p} d e) c no_param c' = absurd (outside is_base w u' (word.Sign sign.ParenClose) (param_first w r p d) c' refl)
params_only w v v' u u' s s' ps ps' (params {u = r} {p = p} d e) c (written_void b) c' = absurd (outside is_base w v' (word.Keyword keyword.Void) (param_first w r p d) b refl)
params_only w v v' u u' s s' ps ps' (params {u = r} {p = p} {ps = qs} d e) c (params {u = r'} {p = p'} {ps = qs'} d' e') c' =
    let first = param_only w r r' p p' d d' in
    let rest = each_only MoreParamAt more_param_only e (subst (λ q. Each MoreParamAt q v' qs') (sym first.1) e') (λ o z m. more_close v o u z m c) (λ o z m. more_close v' o u' z m c') in
    (refl, params_same p p' qs qs' first.0 rest.0, rest.1)

pub local_only : (w : List Token) → Only LocalAt w
local_only w v v' x x' (local {u = u} {r = r} {t = t} {n = n} d e f) (local {u = u'} {r = r'} {t = t'} {n = n'} d' e' f') =
    let type = type_only w u u' r r' t t' n n' d e d' e' in
    let here : u ≡ u' = type.1 in
    let name : n ≡ n' = cc in
    (local_same (line_at w) t t' n n' type.0 name, cc)

pub local_first : (w v : List Token) (x : Local) → LocalAt w v x → At is_base w
local_first w v x (local {u = u} {t = t} d e f) = type_first w u t d

-- ---- results with their stars before a name
-- stars alone are those of a type name behind `int`
pub stars_only : (w u u' r r' : List Token) (ss ss' : List Star) (n n' : List ℕ) → Each StarAt w u ss → Begins u (word.Name n) r → Each StarAt w u' ss' → Begins u' (word.Name n') r' → (ss ≡ ss') × (u ≡ u')
stars_only w u u' r r' ss ss' n n' d b e c =
    let type = type_only (token (word.Keyword keyword.Int) 0 ∷ w) u u' r r' (record { base = base.Int; stars = ss }) (record { base = base.Int; stars = ss' }) n n' (type_name (int refl) d) b (type_name (int refl) e) c in
    (ap (λ t. t.stars) type.0, type.1)

pub result_only : (w m m' u u' r r' : List Token) (x x' : ResultBase) (ss ss' : List Star) (n n' : List ℕ) → ResultAt w m x → Each StarAt m u ss → Begins u (word.Name n) r → ResultAt w m' x' → Each StarAt m' u' ss'
    → Begins u' (word.Name n') r' → (x ≡ x') × (ss ≡ ss') × (u ≡ u')
result_only w m m' u u' r r' x x' ss ss' n n' (void b) d c (void b') d' c' =
    let here : m' ≡ m = cc in
    let same = stars_only m u u' r r' ss ss' n n' d c (subst (λ q. Each StarAt q u' ss') here d') c' in
    (refl, same.0, same.1)
result_only w m m' u u' r r' x x' ss ss' n n' (void b) d c (typed {b = t} b') d' c' = absurd (outside is_base w m (word.Keyword keyword.Void) (base_first w m' t b') b refl)
result_only w m m' u u' r r' x x' ss ss' n n' (typed {b = t} b) d c (void b') d' c' = absurd (outside is_base w m' (word.Keyword keyword.Void) (base_first w m t b) b' refl)
result_only w m m' u u' r r' x x' ss ss' n n' (typed {b = t} b) d c (typed {b = t'} b') d' c' =
    let type = type_only w u u' r r' (record { base = t; stars = ss }) (record { base = t'; stars = ss' }) n n' (type_name b d) c (type_name b' d') c' in
    (ap (λ z. result.Base z.base) type.0, ap (λ z. z.stars) type.0, type.1)

-- ---- what globals and heads begin with: ['static'] (Base | 'void') Stars, before a name
pub data LeadAt : List Token → List Token → Bool → ResultBase → List Star → Type 0 where
  lead : {w a b u : List Token} {s : Bool} {x : ResultBase} {ss : List Star} → StaticAt w a s → ResultAt a b x → Each StarAt b u ss → LeadAt w u s x ss

result_static : (w v u : List Token) (x : ResultBase) → ResultAt w v x → Begins w (word.Keyword keyword.Static) u → ⊥
result_static w v u x (void b) c = cc
result_static w v u x (typed {b = t} b) c = outside is_base w u (word.Keyword keyword.Static) (base_first w v t b) c refl

pub lead_only : (w u u' r r' : List Token) (s s' : Bool) (x x' : ResultBase) (ss ss' : List Star) (n n' : List ℕ) → LeadAt w u s x ss → Begins u (word.Name n) r → LeadAt w u' s' x' ss' → Begins u' (word.Name n') r'
    → (s ≡ s') × (x ≡ x') × (ss ≡ ss') × (u ≡ u')
lead_only w u u' r r' s s' x x' ss ss' n n' (lead {b = b} shared d e) c (lead {b = b'} shared d' e') c' =
    let same = result_only w b b' u u' r r' x x' ss ss' n n' d e c d' e' c' in (refl, same.0, same.1, same.2)
lead_only w u u' r r' s s' x x' ss ss' n n' (lead {b = b} shared d e) c (lead {a = a'} (static p) d' e') c' = absurd (result_static w b a' x d p)
lead_only w u u' r r' s s' x x' ss ss' n n' (lead {a = a} (static p) d e) c (lead {b = b'} shared d' e') c' = absurd (result_static w b' a x' d' p)
lead_only w u u' r r' s s' x x' ss ss' n n' (lead {a = a} {b = b} (static p) d e) c (lead {a = a'} {b = b'} (static p') d' e') c' =
    let here : a' ≡ a = cc in
    let same = result_only a b b' u u' r r' x x' ss ss' n n' d e c (subst (λ q. ResultAt q b' x') here d') e' c' in (refl, same.0, same.1, same.2)

-- ---- heads
pub head_only : (w : List Token) → Only HeadAt w
head_only w v v' x x' (head {c = c} {d = d} {e = e} {f = f} {s = s} {b' = q} {r = r} {ss = ss} {n = n} {ps = ps} d1 d2 d3 d4 d5 d6 d7) (head {c = c'} {d = d'} {e = e'} {f = f'} {s = s'} {b' = q'} {r = r'} {ss = ss'} {n = n'} {ps = ps'} e1 e2 e3 e4 e5 e6 e7) =
    let same = lead_only w c c' d d' s s' r r' ss ss' n n' (lead d1 d2 d3) d4 (lead e1 e2 e3) e4 in
    let here : c ≡ c' = same.3 in
    let name : n ≡ n' = cc in
    let there : e' ≡ e = cc in
    let inside = params_only e f f' v v' q q' ps ps' d6 d7 (subst (λ z. ParamsAt z f' q' ps') there e6) e7 in
    let behind : f ≡ f' = inside.2 in
    (head_same (line_at w) s s' r r' ss ss' n n' q q' ps ps' same.0 same.1 same.2 name inside.0 inside.1, cc)
