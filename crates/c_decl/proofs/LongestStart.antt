-- The longest start of a global or a function, one lemma for each way in which a reader ends.
use Rattle.std.proofs.Common.{◌≡◌, ℕ, List, Bool, false, IsTrue, Option, None, Some, refl, sym, subst, inl, inr}
use Rattle.c_tree.specs.declared.items.ResultBase.{ResultBase}
use Rattle.c_tree.specs.declared.items.ResultBase.TheVariants as result
use Rattle.c_tree.specs.declared.keywords.Keyword.TheVariants as keyword
use Rattle.c_tree.specs.declared.types.Base.{Base}
use Rattle.c_tree.specs.declared.types.Star.{Star}
use Rattle.c_tree.specs.declared.words.Token.{Token}
use Rattle.c_tree.specs.declared.words.Word.{Word}
use Rattle.c_tree.specs.declared.words.Word.TheVariants as word
use Rattle.c_tree.specs.ItemGrammar.{StaticAt, shared, static, ResultAt, void, typed}
use Rattle.c_tree.specs.Reading.{Front, front_of, Begins, Best, Within, Never, Each, each_end, each_more}
use Rattle.c_tree.specs.Reading.Front.{front}
use Rattle.c_tree.specs.TypeGrammar.{BaseAt, StarAt, plain, annotated}
use Rattle.c_expr.specs.Classes.{At, is_base, is_after_unsigned, is_in_types}
use Rattle.c_expr.specs.Looking.{Lacks}
use Rattle.c_expr.proofs.Begins.{in_class, begins_shrinks}
use Rattle.c_expr.proofs.Classes.{at_apart}
use Rattle.c_expr.proofs.Firsts.{base_first}
use Rattle.c_decl.specs.declared.functions.Start.{Start}
use Rattle.c_decl.specs.Classes.{is_static}
use Rattle.c_decl.specs.Items.{static_front, static_of, DeclaredAt, StartAt, start}
use Rattle.c_decl.specs.Parts.{NameAt}
use Rattle.c_decl.specs.Sequences.{Then, then, Given, given}
use Rattle.c_decl.proofs.Apart.{types_name}
use Rattle.c_decl.proofs.Sequences.{then_none, then_is, mapped, best_same, name_none, name_is}

-- ---- 'static'
static_sound : (w : List Token) (f : Front) → front_of w ≡ f → StaticAt w (static_front w f).1 (static_front w f).0
static_sound w (front (word.Keyword keyword.Static) u) h = static h
static_sound w _ h = shared

no_static : (w : List Token) (f : Front) → front_of w ≡ f → Within {X = Bool} (At is_static) w false (static_front w f)
no_static w (front (word.Keyword keyword.Static) u) h = inr (begins_shrinks w h, rw h refl)
no_static w _ h = inl (refl, refl)

static_covers : (w v : List Token) (x : Bool) → StaticAt w v x → Within {X = Bool} (At is_static) v x (static_of w)
static_covers w v x shared = no_static w (front_of w) refl
static_covers w v x (static b) = rw b (inl (refl, refl))

static_best : (w : List Token) → Best {X = Bool} (StaticAt w) (At is_static) (Some (static_of w))
static_best w = record { sound = static_sound w (front_of w) refl; covers = static_covers w }

static_is : (w u : List Token) (x : Bool) → ◌≡◌ {A = Bool × List Token} (x, u) (static_of w) → Best {X = Bool} (StaticAt w) (At is_static) (Some (x, u))
static_is w u x e = let P : Bool × List Token → Type 0 = λ p. Best {X = Bool} (StaticAt w) (At is_static) (Some p) in subst P (sym e) (static_best w)

-- ---- results
void_covers : (w u : List Token) → Begins w (word.Keyword keyword.Void) u → (v : List Token) (x : ResultBase) → ResultAt w v x → Within (At is_after_unsigned) v x (result.Void, u)
void_covers w u b v x (void c) = let same : u ≡ v = cc in inl (refl, same)
void_covers w u b v x (typed {b = t} d) = let clash = in_class is_base w b (base_first w v t d) in cc

pub result_void : (w u : List Token) → Begins w (word.Keyword keyword.Void) u → Best (ResultAt w) (At is_after_unsigned) (Some (result.Void, u))
result_void w u b = record { sound = void b; covers = void_covers w u b }

abbrev BaseOnly : List Token → List Token → ResultBase → Type 0
BaseOnly = Then BaseAt (λ b. Given (result.Base b))

base_in : (w v : List Token) (x : ResultBase) → BaseOnly w v x → ResultAt w v x
base_in w v x (then {x = b} d (given f g)) = subst (ResultAt w v) g (typed (subst (λ p. BaseAt w p b) f d))

base_out : (w v : List Token) (x : ResultBase) → Lacks w (word.Keyword keyword.Void) → ResultAt w v x → BaseOnly w v x
base_out w v x lacks (void b) = absurd (lacks _ b)
base_out w v x lacks (typed d) = then d (given refl refl)

pub result_none : (w : List Token) → Lacks w (word.Keyword keyword.Void) → Best (BaseAt w) (At is_after_unsigned) None → Best (ResultAt w) (At is_after_unsigned) None
result_none w lacks best = best_same (base_in w) (λ v x d. base_out w v x lacks d) (then_none best)

pub result_base : (w u : List Token) (b : Base) → Lacks w (word.Keyword keyword.Void) → Best (BaseAt w) (At is_after_unsigned) (Some (b, u))
    → Best (ResultAt w) (At is_after_unsigned) (Some (result.Base b, u))
result_base w u b lacks best = best_same (base_in w) (λ v x d. base_out w v x lacks d) (mapped (λ z. result.Base z) best)

-- ---- where results and stars do not go on
star_unsigned : (q v : List Token) (s : Star) → StarAt q v s → At is_after_unsigned q → ⊥
star_unsigned q v s (plain b) g = let clash = in_class is_after_unsigned q b g in cc
star_unsigned q v s (annotated b d) g = let clash = in_class is_after_unsigned q b g in cc

abbrev Starred : Bool → ResultBase → List Token → List Token → Start → Type 0
Starred s r = Then (Each StarAt) (λ ss. Then NameAt (λ n. Given (record { is_static = s; result = r; stars = ss; name = n })))

result_apart : (s : Bool) (r : ResultBase) (q v : List Token) (z : Start) → At is_after_unsigned q → Starred s r q v z → ⊥
result_apart s r q v z g (then each_end (then b (given e f))) = let clash = in_class is_after_unsigned q b g in cc
result_apart s r q v z g (then (each_more {u = u} {x = x} d e) n) = star_unsigned q u x d g

stars_apart : (s : Bool) (r : ResultBase) (ss : List Star) (q v : List Token) (z : Start) → At is_in_types q
    → Then NameAt (λ n. Given {Z = Start} (record { is_static = s; result = r; stars = ss; name = n })) q v z → ⊥
stars_apart s r ss q v z g (then {u = u} {x = n} b d) = types_name n q u b g

-- ---- a result, its stars and a name
pub declared_none : (s : Bool) (w : List Token) → Best (ResultAt w) (At is_after_unsigned) None → Best (DeclaredAt s w) Never None
declared_none s w best = then_none best

pub declared_unnamed : (s : Bool) (w u q : List Token) (r : ResultBase) (ss : List Star) → Best (ResultAt w) (At is_after_unsigned) (Some (r, u))
    → Best {X = List Star} (Each StarAt u) (At is_in_types) (Some (ss, q)) → ((n : List ℕ) → Lacks q (word.Name n)) → Best (DeclaredAt s w) Never None
declared_unnamed s w u q r ss first stars lacks = then_is (result_apart s) first (then_is (stars_apart s r) stars (then_none (name_none q lacks)))

pub declared_some : (s : Bool) (w u q v : List Token) (r : ResultBase) (ss : List Star) (n : List ℕ) → Best (ResultAt w) (At is_after_unsigned) (Some (r, u))
    → Best {X = List Star} (Each StarAt u) (At is_in_types) (Some (ss, q)) → Begins q (word.Name n) v
    → Best {X = Start} (DeclaredAt s w) Never (Some (record { is_static = s; result = r; stars = ss; name = n }, v))
declared_some s w u q v r ss n first stars b = then_is (result_apart s) first (then_is (stars_apart s r) stars (mapped (λ m. record { is_static = s; result = r; stars = ss; name = m }) (name_is q v n b)))

-- ---- behind 'static' or not
base_no_static : (k : Word) → IsTrue (is_base k) → IsTrue (is_static k) → ⊥
base_no_static (word.Keyword keyword.Static) g h = cc
base_no_static _ g h = cc

static_no_result : (q v : List Token) (r : ResultBase) → At is_static q → ResultAt q v r → ⊥
static_no_result q v r g (void b) = let clash = in_class is_static q b g in cc
static_no_result q v r g (typed {b = t} d) = at_apart is_base is_static base_no_static q (base_first q v t d) g

static_apart : (s : Bool) (q v : List Token) (z : Start) → At is_static q → DeclaredAt s q v z → ⊥
static_apart s q v z g (then {u = u} {x = r} d e) = static_no_result q u r g d

abbrev Behind : List Token → List Token → Start → Type 0
Behind = Then StaticAt (λ s. DeclaredAt s)

start_in : (w v : List Token) (x : Start) → Behind w v x → StartAt w v x
start_in w v x (then st (then r (then {u = c} ss (then {x = n} b (given f g))))) = subst (StartAt w v) g (start st r ss (subst (λ p. Begins c (word.Name n) p) f b))

start_out : (w v : List Token) (x : Start) → StartAt w v x → Behind w v x
start_out w v x (start st r ss b) = then st (then r (then ss (then b (given refl refl))))

pub start_best : (w u : List Token) (s : Bool) (o : Option (Start × List Token)) → ◌≡◌ {A = Bool × List Token} (s, u) (static_of w) → Best (DeclaredAt s u) Never o
    → Best (StartAt w) Never o
start_best w u s o e best = best_same (start_in w) (start_out w) (then_is static_apart (static_is w u s e) best)
