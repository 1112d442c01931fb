-- The longest size, constant, value and case, and the longest declared object, one lemma for each way in which a reader ends.
use Rattle.std.proofs.Common.{◌≡◌, ℕ, List, Option, None, Some, IfSome, length, ◌<◌, refl, ap, sym, ◌∙◌, subst, inl, inr, arith}
use Rattle.c_tree.specs.declared.items.Arm.{Arm}
use Rattle.c_tree.specs.declared.items.Const.{Const}
use Rattle.c_tree.specs.declared.items.Declaration.{Declaration}
use Rattle.c_tree.specs.declared.items.Local.{Local}
use Rattle.c_tree.specs.declared.keywords.Keyword.TheVariants as keyword
use Rattle.c_tree.specs.declared.signs.Sign.TheVariants as sign
use Rattle.c_tree.specs.declared.types.Number.{Number}
use Rattle.c_tree.specs.declared.types.TypeName.{TypeName}
use Rattle.c_tree.specs.declared.words.Suffix.{Suffix}
use Rattle.c_tree.specs.declared.words.Token.{Token}
use Rattle.c_tree.specs.declared.words.Word.TheVariants as word
use Rattle.c_tree.specs.ItemGrammar.{SizeAt, no_array, array, ConstAt, number, negative, character, ValueAt, no_value, value, DeclarationAt, declaration, ArmAt, arm, LocalAt, local}
use Rattle.c_tree.specs.Reading.{Front, front_of, Begins, Best, Within, Never, line_at}
use Rattle.c_tree.specs.Reading.Front.{front}
use Rattle.c_tree.specs.StatementGrammar.{Ends}
use Rattle.c_tree.specs.TypeGrammar.{TypeNameAt}
use Rattle.c_expr.specs.Classes.{At, is_in_types}
use Rattle.c_expr.specs.Looking.{Lacks}
use Rattle.c_expr.proofs.Begins.{begins_shrinks}
use Rattle.c_expr.proofs.Chains.{best_none, followed}
use Rattle.c_decl.specs.declared.constants.Case.{Case}
use Rattle.c_decl.specs.declared.declarations.Typed.{Typed}
use Rattle.c_decl.specs.Classes.{is_bracket, is_assign}
use Rattle.c_decl.specs.Constants.{size_close, size_number, size_front, size_of, negative_of, const_front, const_of, value_with, value_front, value_of, case_end, case_close, case_value, case_equal, case_tag, case_open, case_front, case_of}
use Rattle.c_decl.specs.Parts.{TypedAt, typed, CaseAt, case}
use Rattle.c_decl.specs.Sequences.{Then, then, Ended, ended, Given, given}
use Rattle.c_decl.proofs.Apart.{types_name}
use Rattle.c_decl.proofs.Sequences.{then_none, then_once, ended_lacks, ended_is, given_is, mapped, best_same, computed}

-- ---- sizes
close_sound : (w u r : List Token) (n : ℕ) (s : Suffix) → Begins w (word.Sign sign.BracketOpen) u → Begins u (word.Number n s) r → (f : Front) → front_of r ≡ f
    → SizeAt w (size_close (record { value = n; suffix = s }) w f).1 (size_close (record { value = n; suffix = s }) w f).0
close_sound w u r n s b c (front (word.Sign sign.BracketClose) v) h = array b c h
close_sound w u r n s b c _ h = no_array

number_sound : (w u : List Token) → Begins w (word.Sign sign.BracketOpen) u → (f : Front) → front_of u ≡ f → SizeAt w (size_number w f).1 (size_number w f).0
number_sound w u b (front (word.Number n s) r) h = close_sound w u r n s b h (front_of r) refl
number_sound w u b _ h = no_array

size_sound : (w : List Token) (f : Front) → front_of w ≡ f → SizeAt w (size_front w f).1 (size_front w f).0
size_sound w (front (word.Sign sign.BracketOpen) u) h = number_sound w u h (front_of u) refl
size_sound w _ h = no_array

-- no size, unless one stands there
no_size_close : (w u r : List Token) (n : Number) → Begins w (word.Sign sign.BracketOpen) u → length r < length w → (f : Front) → front_of r ≡ f
    → Within (At is_bracket) w None (size_close n w f)
no_size_close w u r n b h (front (word.Sign sign.BracketClose) v) i = inr (omega (arith, h, begins_shrinks r i), rw b refl)
no_size_close w u r n b h _ i = inl (refl, refl)

no_size_number : (w u : List Token) → Begins w (word.Sign sign.BracketOpen) u → (f : Front) → front_of u ≡ f → Within (At is_bracket) w None (size_number w f)
no_size_number w u b (front (word.Number n s) r) h = no_size_close w u r (record { value = n; suffix = s }) b (omega (arith, begins_shrinks w b, begins_shrinks u h)) (front_of r) refl
no_size_number w u b _ h = inl (refl, refl)

no_size : (w : List Token) (f : Front) → front_of w ≡ f → Within (At is_bracket) w None (size_front w f)
no_size w (front (word.Sign sign.BracketOpen) u) h = no_size_number w u h (front_of u) refl
no_size w _ h = inl (refl, refl)

size_covers : (w v : List Token) (x : Option Number) → SizeAt w v x → Within {X = Option Number} (At is_bracket) v x (size_of w)
size_covers w v x no_array = no_size w (front_of w) refl
size_covers w v x (array b c d) = rw (b, c, d) (inl (refl, refl))

size_best : (w : List Token) → Best {X = Option Number} (SizeAt w) (At is_bracket) (Some (size_of w))
size_best w = record { sound = size_sound w (front_of w) refl; covers = size_covers w }

pub size_is : (w u : List Token) (x : Option Number) → ◌≡◌ {A = Option Number × List Token} (x, u) (size_of w) → Best {X = Option Number} (SizeAt w) (At is_bracket) (Some (x, u))
size_is w u x e = let P : Option Number × List Token → Type 0 = λ p. Best {X = Option Number} (SizeAt w) (At is_bracket) (Some p) in subst P (sym e) (size_best w)

-- ---- constants
negative_sound : (w u : List Token) → Begins w (word.Sign sign.Minus) u → (f : Front) → front_of u ≡ f → IfSome (negative_of f) (λ a. ConstAt w a.1 a.0)
negative_sound w u b (front (word.Number n s) v) h = negative b h
negative_sound w u b _ h = tt

const_sound : (w : List Token) (f : Front) → front_of w ≡ f → IfSome (const_front f) (λ a. ConstAt w a.1 a.0)
const_sound w (front (word.Number n s) v) h = number h
const_sound w (front (word.Sign sign.Minus) u) h = negative_sound w u h (front_of u) refl
const_sound w (front (word.Character c) v) h = character h
const_sound w _ h = tt

const_complete : (w v : List Token) (x : Const) → ConstAt w v x → const_of w ≡ Some (x, v)
const_complete w v x (number b) = rw b refl
const_complete w v x (negative b c) = rw (b, c) refl
const_complete w v x (character b) = rw b refl

pub const_best : (w : List Token) → Best (ConstAt w) Never (const_of w)
const_best w = computed (const_sound w (front_of w) refl) (const_complete w)

-- ---- values of globals
value_some : (w u : List Token) → Begins w (word.Sign sign.Assign) u → (o : Option (Const × List Token)) → IfSome o (λ a. ConstAt u a.1 a.0) → ValueAt w (value_with w o).1 (value_with w o).0
value_some w u b None s = no_value
value_some w u b (Some a) s = value b s

value_sound : (w : List Token) (f : Front) → front_of w ≡ f → ValueAt w (value_front w f).1 (value_front w f).0
value_sound w (front (word.Sign sign.Assign) u) h = value_some w u h (const_of u) (const_best u).sound
value_sound w _ h = no_value

const_shrinks : (w v : List Token) (x : Const) → ConstAt w v x → length v < length w
const_shrinks w v x (number b) = begins_shrinks w b
const_shrinks w v x (negative {u = u} b c) = omega (arith, begins_shrinks w b, begins_shrinks u c)
const_shrinks w v x (character b) = begins_shrinks w b

no_value_with : (w u : List Token) → Begins w (word.Sign sign.Assign) u → (o : Option (Const × List Token)) → IfSome o (λ a. ConstAt u a.1 a.0)
    → Within {X = Option Const} (At is_assign) w None (value_with w o)
no_value_with w u b None s = inl (refl, refl)
no_value_with w u b (Some a) s = inr (omega (arith, begins_shrinks w b, const_shrinks u a.1 a.0 s), rw b refl)

no_value_front : (w : List Token) (f : Front) → front_of w ≡ f → Within {X = Option Const} (At is_assign) w None (value_front w f)
no_value_front w (front (word.Sign sign.Assign) u) h = no_value_with w u h (const_of u) (const_best u).sound
no_value_front w _ h = inl (refl, refl)

value_covers : (w v : List Token) (x : Option Const) → ValueAt w v x → Within {X = Option Const} (At is_assign) v x (value_of w)
value_covers w v x no_value = no_value_front w (front_of w) refl
value_covers w v x (value {u = u} {c = c} b d) = rw (b, const_complete u v c d) (inl (refl, refl))

value_best : (w : List Token) → Best {X = Option Const} (ValueAt w) (At is_assign) (Some (value_of w))
value_best w = record { sound = value_sound w (front_of w) refl; covers = value_covers w }

pub value_is : (w u : List Token) (x : Option Const) → ◌≡◌ {A = Option Const × List Token} (x, u) (value_of w) → Best {X = Option Const} (ValueAt w) (At is_assign) (Some (x, u))
value_is w u x e = let P : Option Const × List Token → Type 0 = λ p. Best {X = Option Const} (ValueAt w) (At is_assign) (Some p) in subst P (sym e) (value_best w)

-- ---- a type and a name
abbrev typed_with : TypeName → List ℕ → Typed
typed_with t n = record { type_name = t; name = n }

no_typed : (w : List Token) → Best (TypeNameAt w) (At is_in_types) None → (v : List Token) (x : Typed) → TypedAt w v x → ⊥
no_typed w best v x (typed {u = u} {t = t} c b) = best.covers u t c

pub typed_none : (w : List Token) → Best (TypeNameAt w) (At is_in_types) None → Best (TypedAt w) Never None
typed_none w best = best_none (TypedAt w) Never (no_typed w best)

unnamed : (w u : List Token) (t : TypeName) → Best (TypeNameAt w) (At is_in_types) (Some (t, u)) → ((n : List ℕ) → Lacks u (word.Name n)) → (v : List Token) (x : Typed) → TypedAt w v x → ⊥
unnamed w u t best lacks v x (typed {u = q} {t = s} {n = n} c b) = lacks n v (followed (TypeNameAt w) (At is_in_types) (word.Name n) (types_name n) u q v t s best c b).1

pub typed_unnamed : (w u : List Token) (t : TypeName) → Best (TypeNameAt w) (At is_in_types) (Some (t, u)) → ((n : List ℕ) → Lacks u (word.Name n)) → Best (TypedAt w) Never None
typed_unnamed w u t best lacks = best_none (TypedAt w) Never (unnamed w u t best lacks)

typed_covers : (w u r : List Token) (t : TypeName) (n : List ℕ) → Best (TypeNameAt w) (At is_in_types) (Some (t, u)) → Begins u (word.Name n) r → (v : List Token) (x : Typed)
    → TypedAt w v x → Within {X = Typed} Never v x (record { type_name = t; name = n }, r)
typed_covers w u r t n best named v x (typed {u = q} {t = s} {n = m} c b) =
    let found = followed (TypeNameAt w) (At is_in_types) (word.Name m) (types_name m) u q v t s best c b in
    let there = found.1 in let name_same : n ≡ m = cc in let same : r ≡ v = cc in
    inl (ap (λ z. typed_with z n) found.0 ∙ ap (λ z. typed_with s z) name_same, same)

pub typed_some : (w u r : List Token) (t : TypeName) (n : List ℕ) → Best (TypeNameAt w) (At is_in_types) (Some (t, u)) → Begins u (word.Name n) r
    → Best {X = Typed} (TypedAt w) Never (Some (record { type_name = t; name = n }, r))
typed_some w u r t n best named = record { sound = typed best.sound named; covers = typed_covers w u r t n best named }

-- ---- declared objects
abbrev declaration_with : Typed → Option Number → Declaration
declaration_with t s = record { type_name = t.type_name; name = t.name; size = s }

abbrev Sized : List Token → List Token → Declaration → Type 0
Sized = Then TypedAt (λ t. Then SizeAt (λ s. Given (declaration_with t s)))

sized_in : (w v : List Token) (x : Declaration) → Sized w v x → DeclarationAt w v x
sized_in w v x (then {u = u} (typed c b) (then {u = r} {x = s} d (given f g))) = subst (DeclarationAt w v) g (declaration c b (subst (λ p. SizeAt u p s) f d))

sized_out : (w v : List Token) (x : Declaration) → DeclarationAt w v x → Sized w v x
sized_out w v x (declaration c b d) = then (typed c b) (then d (given refl refl))

pub declaration_none : (w : List Token) → Best (TypedAt w) Never None → Best (DeclarationAt w) (At is_bracket) None
declaration_none w best = best_same (sized_in w) (sized_out w) (then_none best)

pub declaration_some : (w u r : List Token) (t : Typed) (s : Option Number) → Best (TypedAt w) Never (Some (t, u)) → Best {X = Option Number} (SizeAt u) (At is_bracket) (Some (s, r))
    → Best {X = Declaration} (DeclarationAt w) (At is_bracket) (Some (record { type_name = t.type_name; name = t.name; size = s }, r))
declaration_some w u r t s first rest = best_same (sized_in w) (sized_out w) (then_once first (mapped (declaration_with t) rest))

-- ---- locals
abbrev local_with : ℕ → Typed → Local
local_with line t = record { line = line; type_name = t.type_name; name = t.name }

abbrev Ending : ℕ → List Token → List Token → Local → Type 0
Ending line = Then TypedAt (λ t. Ended (word.Sign sign.Semicolon) (local_with line t))

local_in : (w v : List Token) (x : Local) → Ending (line_at w) w v x → LocalAt w v x
local_in w v x (then (typed c b) (ended e g)) = subst (LocalAt w v) g (local c b e)

local_out : (w v : List Token) (x : Local) → LocalAt w v x → Ending (line_at w) w v x
local_out w v x (local c b e) = then (typed c b) (ended e refl)

pub local_none : (w : List Token) → Best (TypedAt w) Never None → Best (LocalAt w) Never None
local_none w best = best_same (local_in w) (local_out w) (then_none best)

pub local_open : (w u : List Token) (t : Typed) → Best (TypedAt w) Never (Some (t, u)) → Lacks u (word.Sign sign.Semicolon) → Best (LocalAt w) Never None
local_open w u t best lacks = best_same (local_in w) (local_out w) (then_once best (ended_lacks lacks))

pub local_some : (w u r : List Token) (t : Typed) → Best (TypedAt w) Never (Some (t, u)) → Begins u (word.Sign sign.Semicolon) r
    → Best {X = Local} (LocalAt w) Never (Some (record { line = line_at w; type_name = t.type_name; name = t.name }, r))
local_some w u r t best b = best_same (local_in w) (local_out w) (then_once best (ended_is b))

-- ---- cases of arms
end_sound : (b c d e f g h : List Token) (m : List ℕ) (k : Const) → Begins b (word.Keyword keyword.When) c → Begins c (word.Sign sign.ParenOpen) d → Begins d (word.Name m) e
    → Begins e (word.Sign sign.Equal) f → ConstAt f g k → Begins g (word.Sign sign.ParenClose) h → (p : Front) → front_of h ≡ p
    → IfSome (case_end (record { tag = m; value = k }) p) (λ a. CaseAt b a.1 a.0)
end_sound b c d e f g h m k i j l n o q (front (word.Sign sign.Semicolon) v) p = case i j l n o q p
end_sound b c d e f g h m k i j l n o q _ p = tt

shut_sound : (b c d e f g : List Token) (m : List ℕ) (k : Const) → Begins b (word.Keyword keyword.When) c → Begins c (word.Sign sign.ParenOpen) d → Begins d (word.Name m) e
    → Begins e (word.Sign sign.Equal) f → ConstAt f g k → (p : Front) → front_of g ≡ p → IfSome (case_close (record { tag = m; value = k }) p) (λ a. CaseAt b a.1 a.0)
shut_sound b c d e f g m k i j l n o (front (word.Sign sign.ParenClose) h) p = end_sound b c d e f g h m k i j l n o p (front_of h) refl
shut_sound b c d e f g m k i j l n o _ p = tt

given_sound : (b c d e f : List Token) (m : List ℕ) → Begins b (word.Keyword keyword.When) c → Begins c (word.Sign sign.ParenOpen) d → Begins d (word.Name m) e
    → Begins e (word.Sign sign.Equal) f → (o : Option (Const × List Token)) → IfSome o (λ a. ConstAt f a.1 a.0) → IfSome (case_value m o) (λ a. CaseAt b a.1 a.0)
given_sound b c d e f m i j l n None s = tt
given_sound b c d e f m i j l n (Some a) s = shut_sound b c d e f a.1 m a.0 i j l n s (front_of a.1) refl

equal_sound : (b c d e : List Token) (m : List ℕ) → Begins b (word.Keyword keyword.When) c → Begins c (word.Sign sign.ParenOpen) d → Begins d (word.Name m) e
    → (p : Front) → front_of e ≡ p → IfSome (case_equal m p) (λ a. CaseAt b a.1 a.0)
equal_sound b c d e m i j l (front (word.Sign sign.Equal) f) p = given_sound b c d e f m i j l p (const_of f) (const_best f).sound
equal_sound b c d e m i j l _ p = tt

tag_sound : (b c d : List Token) → Begins b (word.Keyword keyword.When) c → Begins c (word.Sign sign.ParenOpen) d → (p : Front) → front_of d ≡ p → IfSome (case_tag p) (λ a. CaseAt b a.1 a.0)
tag_sound b c d i j (front (word.Name m) e) p = equal_sound b c d e m i j p (front_of e) refl
tag_sound b c d i j _ p = tt

open_sound : (b c : List Token) → Begins b (word.Keyword keyword.When) c → (p : Front) → front_of c ≡ p → IfSome (case_open p) (λ a. CaseAt b a.1 a.0)
open_sound b c i (front (word.Sign sign.ParenOpen) d) p = tag_sound b c d i p (front_of d) refl
open_sound b c i _ p = tt

case_sound : (b : List Token) (p : Front) → front_of b ≡ p → IfSome (case_front p) (λ a. CaseAt b a.1 a.0)
case_sound b (front (word.Keyword keyword.When) c) p = open_sound b c p (front_of c) refl
case_sound b _ p = tt

case_complete : (b v : List Token) (x : Case) → CaseAt b v x → case_of b ≡ Some (x, v)
case_complete b v x (case {f = f} {g = g} {k = k} i j l n o p q) = rw (i, j, l, n, const_complete f g k o, p, q) refl

case_best : (w : List Token) → Best (CaseAt w) Never (case_of w)
case_best w = computed (case_sound w (front_of w) refl) (case_complete w)

pub case_is : (w : List Token) (o : Option (Case × List Token)) → o ≡ case_of w → Best (CaseAt w) Never o
case_is w o e = subst (Best (CaseAt w) Never) (sym e) (case_best w)

-- ---- arms
abbrev arm_with : ℕ → Typed → Case → Arm
arm_with line t c = record { line = line; type_name = t.type_name; name = t.name; tag = c.tag; value = c.value }

abbrev Cased : ℕ → List Token → List Token → Arm → Type 0
Cased line = Then TypedAt (λ t. Then CaseAt (λ c. Given (arm_with line t c)))

arm_in : (w v : List Token) (x : Arm) → Cased (line_at w) w v x → ArmAt w v x
arm_in w v x (then (typed c b) (then {u = r} (case {h = h} d e f g i j k) (given l m))) = subst (ArmAt w v) m (arm c b d e f g i j (subst (λ p. Ends h p) l k))

arm_out : (w v : List Token) (x : Arm) → ArmAt w v x → Cased (line_at w) w v x
arm_out w v x (arm c b d e f g i j k) = then (typed c b) (then (case d e f g i j k) (given refl refl))

pub arm_none : (w : List Token) → Best (TypedAt w) Never None → Best (ArmAt w) Never None
arm_none w best = best_same (arm_in w) (arm_out w) (then_none best)

pub arm_open : (w u : List Token) (t : Typed) → Best (TypedAt w) Never (Some (t, u)) → Best (CaseAt u) Never None → Best (ArmAt w) Never None
arm_open w u t best none = best_same (arm_in w) (arm_out w) (then_once best (then_none none))

pub arm_some : (w u r : List Token) (t : Typed) (c : Case) → Best (TypedAt w) Never (Some (t, u)) → Best (CaseAt u) Never (Some (c, r))
    → Best {X = Arm} (ArmAt w) Never (Some (record { line = line_at w; type_name = t.type_name; name = t.name; tag = c.tag; value = c.value }, r))
arm_some w u r t c best case_there = best_same (arm_in w) (arm_out w) (then_once best (then_once case_there given_is))
