-- At most one item stands at a place, whatever stands after it: so a list of words is at most one unit, and the first place
-- at which no item begins is one.
use Rattle.std.proofs.Common.{◌≡◌, ℕ, List, [], ◌∷◌, ◌++◌, Option, Bool, IsTrue, refl, sym, ap, ◌∙◌, subst}
use Rattle.c_tree.specs.declared.items.Const.{Const}
use Rattle.c_tree.specs.declared.items.Declaration.{Declaration}
use Rattle.c_tree.specs.declared.items.Function.{Function}
use Rattle.c_tree.specs.declared.items.GlobalItem.{GlobalItem}
use Rattle.c_tree.specs.declared.items.Head.{Head}
use Rattle.c_tree.specs.declared.items.Item.{Item}
use Rattle.c_tree.specs.declared.items.Item.TheVariants as item
use Rattle.c_tree.specs.declared.items.Local.{Local}
use Rattle.c_tree.specs.declared.items.ResultBase.{ResultBase}
use Rattle.c_tree.specs.declared.items.ResultBase.TheVariants as result
use Rattle.c_tree.specs.declared.items.StructItem.{StructItem}
use Rattle.c_tree.specs.declared.items.Unit.{Unit as TextUnit}
use Rattle.c_tree.specs.declared.keywords.Keyword.TheVariants as keyword
use Rattle.c_tree.specs.declared.signs.Sign.TheVariants as sign
use Rattle.c_tree.specs.declared.statements.Stmt.{Stmt}
use Rattle.c_tree.specs.declared.types.Base.{Base}
use Rattle.c_tree.specs.declared.types.Number.{Number}
use Rattle.c_tree.specs.declared.types.Star.{Star}
use Rattle.c_tree.specs.declared.types.TypeName.{TypeName}
use Rattle.c_tree.specs.declared.words.Token.{Token}
use Rattle.c_tree.specs.declared.words.Word.{Word}
use Rattle.c_tree.specs.declared.words.Word.TheVariants as word
use Rattle.c_tree.specs.Bytes.{Text}
use Rattle.c_tree.specs.ItemGrammar.{SizeAt, no_array, array, DeclarationAt, declaration, StructAt, struct, StaticAt, shared, static, ValueAt, no_value, value, GlobalAt, global, void, typed, HeadAt, head, LocalAt, FunctionAt, function, ItemAt, struct_item, global_item, function_item, prototype, added_return}
use Rattle.c_tree.specs.Reading.{Begins, Each, each_end, each_more, line_at}
use Rattle.c_tree.specs.StatementGrammar.{Ends, StmtsAt, no_statement, statements}
use Rattle.c_tree.specs.TypeGrammar as types
use Rattle.c_tree.specs.TypeGrammar.{BaseAt, char, signed_char, unsigned_char, short, unsigned_short, int, long, unsigned, unsigned_int, unsigned_long, structure, StarAt, annotated, TypeNameAt, type_name}
use Rattle.c_tree.specs.Units.{IsUnit, HasNoItem, Reads}
use Rattle.c_token.proofs.DivisionLaws.{IsDivision-unique}
use Rattle.c_expr.specs.Classes.{At, is_base}
use Rattle.c_expr.proofs.Begins.{in_class}
use Rattle.c_expr.proofs.Classes.{at_apart}
use Rattle.c_expr.proofs.Firsts.{base_first}
use Rattle.c_decl.specs.Classes.{is_statement}
use Rattle.c_decl.proofs.Only.{Only, each_only}
use Rattle.c_decl.proofs.OneDeclaration.{declaration_only, value_only, struct_only, head_only, local_only, local_first, LeadAt, lead, lead_only}
use Rattle.c_decl.proofs.OneStatement.{statement_first, statements_only}

-- ---- functions
no_local : (k : Word) → IsTrue (is_base k) → IsTrue (is_statement k) → ⊥
no_local (word.Keyword keyword.Int) g h = cc
no_local _ g h = cc

-- no local begins where the statements of a body do
local_stops : (w v u r : List Token) (ss : List Stmt) (x : Local) → StmtsAt w v ss → Begins v (word.Sign sign.BraceClose) u → LocalAt w r x → ⊥
local_stops w v u r ss x no_statement c d = let clash = in_class is_base w c (local_first w r x d) in cc
local_stops w v u r ss x (statements {u = q} {t = t} e f) c d = at_apart is_base is_statement no_local w (local_first w r x d) (statement_first w q t e)

-- what stands in the braces of a function
inside_only : (w c c' d d' v v' : List Token) (ls ls' : List Local) (ss ss' : List Stmt) → Each LocalAt w c ls → StmtsAt c d ss → Begins d (word.Sign sign.BraceClose) v → Each LocalAt w c' ls' → StmtsAt c' d' ss'
    → Begins d' (word.Sign sign.BraceClose) v' → (ls ≡ ls') × (ss ≡ ss') × (d ≡ d')
inside_only w c c' d d' v v' ls ls' ss ss' l s b l' s' b' =
    let locals = each_only LocalAt local_only l l' (λ u x p. local_stops c d v u ss x s b p) (λ u x p. local_stops c' d' v' u ss' x s' b' p) in
    let rest = statements_only s (subst (λ q. StmtsAt q d' ss') (sym locals.1) s') b b' in
    (locals.0, rest.0, rest.1)

function_of : Head → List Local → List Stmt → ℕ → Function
function_of h ls ss n = record { head = h; locals = ls; body = ss ++ added_return h n ∷ []; end = n }

function_only : (w : List Token) → Only FunctionAt w
unfolding function_of
function_only w v v' x x' (function {a = a} {b = b} {c = c} {d = d} {h = h} {ls = ls} {ss = ss} d1 d2 d3 d4 d5) (function {a = a'} {b = b'} {c = c'} {d = d'} {h = h'} {ls = ls'} {ss = ss'} e1 e2 e3 e4 e5) =
    let start = head_only w a a' h h' d1 e1 in
    let here : a ≡ a' = start.1 in
    let there : b' ≡ b = cc in
    let inside = inside_only b c c' d d' v v' ls ls' ss ss' d3 d4 d5 (subst (λ q. Each LocalAt q c' ls') there e3) e4 e5 in
    let behind : d ≡ d' = inside.2 in
    (ap (λ z. function_of z ls ss (line_at d)) start.0 ∙ ap (λ z. function_of h' z ss (line_at d)) inside.0 ∙ ap (λ z. function_of h' ls' z (line_at d)) inside.1 ∙ ap (λ z. function_of h' ls' ss' (line_at z)) inside.2, cc)

-- ---- globals
global_lead : (w c v : List Token) (s : Bool) (t : TypeName) → StaticAt w c s → TypeNameAt c v t → LeadAt w v s (result.Base t.base) t.stars
global_lead w c v s t d (type_name b e) = lead d (typed b) e

global_of : ℕ → Bool → Declaration → Option Const → GlobalItem
global_of n s d i = record { line = n; is_static = s; declaration = d; value = i }

type_static : (w v u : List Token) (x : Declaration) → DeclarationAt w v x → Begins w (word.Keyword keyword.Static) u → ⊥
type_static w v u x (declaration (type_name {b = b} d e) f g) c = let clash = in_class is_base w c (base_first w _ b d) in cc

static_only : (w a a' b b' : List Token) (s s' : Bool) (x x' : Declaration) → StaticAt w a s → DeclarationAt a b x → StaticAt w a' s' → DeclarationAt a' b' x' → (s ≡ s') × (a ≡ a')
static_only w a a' b b' s s' x x' shared d shared e = (refl, refl)
static_only w a a' b b' s s' x x' shared d (static c) e = absurd (type_static w b a' x d c)
static_only w a a' b b' s s' x x' (static c) d shared e = absurd (type_static w b' a x' e c)
static_only w a a' b b' s s' x x' (static c) d (static f) e = (refl, cc)

-- what stands behind the declaration of a global opens no size
after_declaration : (b c v : List Token) (i : Option Const) → ValueAt b c i → Ends c v → (k : Word) × (u : List Token) × Begins b k u × (k ≡ word.Sign sign.BracketOpen → ⊥)
after_declaration b c v i no_value e = (word.Sign sign.Semicolon, v, e, λ h. cc)
after_declaration b c v i (value {u = u} d f) e = (word.Sign sign.Assign, u, d, λ h. cc)

global_only : (w : List Token) → Only GlobalAt w
unfolding global_of
global_only w v v' x x' (global {a = a} {b = b} {c = c} {s = s} {d = d} {i = i} d1 d2 d3 d4) (global {a = a'} {b = b'} {c = c'} {s = s'} {d = d'} {i = i'} e1 e2 e3 e4) =
    let first = static_only w a a' b b' s s' d d' d1 d2 e1 e2 in
    let one = after_declaration b c v i d3 d4 in
    let two = after_declaration b' c' v' i' e3 e4 in
    let declared = declaration_only a b b' one.1 two.1 one.0 two.0 d d' d2 one.2 (subst (λ q. DeclarationAt q b' d') (sym first.1) e2) two.2 one.3 two.3 in
    let given = value_only b c c' v v' i i' d3 d4 (subst (λ q. ValueAt q c' i') (sym declared.1) e3) e4 in
    let behind : c ≡ c' = given.1 in
    (ap (λ z. global_of (line_at w) z d i) first.0 ∙ ap (λ z. global_of (line_at w) s' z i) declared.0 ∙ ap (λ z. global_of (line_at w) s' d' z) given.0, cc)

-- ---- the kinds of items are told apart
-- the lead of a head, and that of a global, with the name behind it and the word behind that
record Led (w : List Token) (k : Word) : Type 0 where
  behind : List Token
  is_static : Bool
  result : ResultBase
  stars : List Star
  leads : LeadAt w behind is_static result stars
  name : List ℕ
  after : List Token
  named : Begins behind (word.Name name) after
  last : List Token
  next : Begins after k last

head_led : (w v : List Token) (h : Head) → HeadAt w v h → Led w (word.Sign sign.ParenOpen)
head_led w v h (head {c = c} {d = d} {e = e} {s = s} {r = r} {ss = ss} {n = n} d1 d2 d3 d4 d5 d6 d7) = record {
  behind = c;
  is_static = s;
  result = r;
  stars = ss;
  leads = lead d1 d2 d3;
  name = n;
  after = d;
  named = d4;
  last = e;
  next = d5;
}

after_name : (r b c v : List Token) (s : Option Number) (i : Option Const) → SizeAt r b s → ValueAt b c i → Ends c v → (k : Word) × (u : List Token) × Begins r k u × (k ≡ word.Sign sign.ParenOpen → ⊥)
after_name r b c v s i no_array no_value e = (word.Sign sign.Semicolon, v, e, λ h. cc)
after_name r b c v s i no_array (value {u = u} d f) e = (word.Sign sign.Assign, u, d, λ h. cc)
after_name r b c v s i (array {u = u} d f g) h e = (word.Sign sign.BracketOpen, u, d, λ h. cc)

global_led : (w v : List Token) (g : GlobalItem) → GlobalAt w v g → (k : Word) × Led w k × (k ≡ word.Sign sign.ParenOpen → ⊥)
global_led w v g (global {a = a} {b = b} {c = c} {s = s} {i = i} d1 (declaration {u = u} {r = r} {t = t} {n = n} {s = z} e1 e2 e3) d3 d4) =
    let next = after_name r b c v z i e3 d3 d4 in (
      next.0,
      record {
        behind = u;
        is_static = s;
        result = result.Base t.base;
        stars = t.stars;
        leads = global_lead w a u s t d1 e1;
        name = n;
        after = r;
        named = e2;
        last = next.1;
        next = next.2;
      },
      next.3,
    )

led_same : (w : List Token) (k j : Word) → Led w k → Led w j → k ≡ j
led_same w k j p q =
    let pn = p.named in let qn = q.named in let px = p.next in let qx = q.next in
    let same = lead_only w p.behind q.behind p.after q.after p.is_static q.is_static p.result q.result p.stars q.stars p.name q.name p.leads p.named q.leads q.named in
    let here : p.behind ≡ q.behind = same.3 in
    let there : p.after ≡ q.after = cc in
    cc

-- 'struct' NAME and the stars of a lead are not 'struct' NAME '{'
star_brace : (w u v r : List Token) (n : List ℕ) (ss : List Star) → Each StarAt w u ss → Begins u (word.Name n) v → Begins w (word.Sign sign.BraceOpen) r → ⊥
star_brace w u v r n ss each_end b c = cc
star_brace w u v r n ss (each_more (types.plain d) e) b c = cc
star_brace w u v r n ss (each_more (annotated d f) e) b c = cc

base_brace : (w a u v b c : List Token) (n m : List ℕ) (x : Base) (ss : List Star) → BaseAt w b x → Each StarAt b u ss → Begins u (word.Name n) v → Begins w (word.Keyword keyword.Struct) a → Begins a (word.Name m) c
    → (r : List Token) → Begins c (word.Sign sign.BraceOpen) r → ⊥
base_brace w a u v b c n m x ss (structure {u = q} d e) f g h i r j = let one : q ≡ a = cc in let two : c ≡ b = cc in star_brace b u v r n ss f g (subst (λ z. Begins z (word.Sign sign.BraceOpen) r) two j)
base_brace w a u v b c n m x ss (char d) f g h i r j = cc
base_brace w a u v b c n m x ss (signed_char d e) f g h i r j = cc
base_brace w a u v b c n m x ss (unsigned_char d e) f g h i r j = cc
base_brace w a u v b c n m x ss (short d) f g h i r j = cc
base_brace w a u v b c n m x ss (unsigned_short d e) f g h i r j = cc
base_brace w a u v b c n m x ss (int d) f g h i r j = cc
base_brace w a u v b c n m x ss (long d) f g h i r j = cc
base_brace w a u v b c n m x ss (unsigned d) f g h i r j = cc
base_brace w a u v b c n m x ss (unsigned_int d e) f g h i r j = cc
base_brace w a u v b c n m x ss (unsigned_long d e) f g h i r j = cc

lead_brace : (w a u v c r : List Token) (s : Bool) (x : ResultBase) (ss : List Star) (n m : List ℕ) → LeadAt w u s x ss → Begins u (word.Name n) v → Begins w (word.Keyword keyword.Struct) a → Begins a (word.Name m) c
    → Begins c (word.Sign sign.BraceOpen) r → ⊥
lead_brace w a u v c r s x ss n m (lead (static p) d e) b f g h = cc
lead_brace w a u v c r s x ss n m (lead shared (void d) e) b f g h = cc
lead_brace w a u v c r s x ss n m (lead {b = q} shared (typed {b = y} d) e) b f g h = base_brace w a u v q c n m y ss d e b f g r h

struct_led : (w v : List Token) (x : StructItem) (k : Word) → StructAt w v x → Led w k → ⊥
struct_led w v x k (struct {a = a} {b = b} {c = c} {n = n} d1 d2 d3 d4 d5 d6 d7) p = lead_brace w a p.behind p.after b c p.is_static p.result p.stars p.name n p.leads p.named d1 d2 d3

function_led : (w v : List Token) (f : Function) → FunctionAt w v f → Led w (word.Sign sign.ParenOpen)
function_led w v f (function {a = a} {h = h} d1 d2 d3 d4 d5) = head_led w a h d1

-- a function is no prototype
function_prototype : (w v u u' : List Token) (f : Function) (h : Head) → FunctionAt w v f → HeadAt w u h → Ends u u' → ⊥
function_prototype w v u u' f h (function {a = a} {h = g} d1 d2 d3 d4 d5) e b = let same = head_only w a u g h d1 e in let here : a ≡ u = same.1 in cc

global_head : (w v u : List Token) (g : GlobalItem) → GlobalAt w v g → Led w (word.Sign sign.ParenOpen) → ⊥
global_head w v u g d p = let q = global_led w v g d in q.2 (led_same w q.0 (word.Sign sign.ParenOpen) q.1 p)

-- ---- items
pub item_only : (w : List Token) → Only ItemAt w
item_only w v v' x x' (struct_item {s = s} d) (struct_item {s = s'} e) = let same = struct_only w v v' s s' d e in (ap (λ z. item.Struct z) same.0, same.1)
item_only w v v' x x' (struct_item {s = s} d) (global_item {g = g} e) = let q = global_led w v' g e in absurd (struct_led w v s q.0 d q.1)
item_only w v v' x x' (struct_item {s = s} d) (function_item {f = f} e) = absurd (struct_led w v s (word.Sign sign.ParenOpen) d (function_led w v' f e))
item_only w v v' x x' (struct_item {s = s} d) (prototype {u = u} {h = h} e c) = absurd (struct_led w v s (word.Sign sign.ParenOpen) d (head_led w u h e))
item_only w v v' x x' (global_item {g = g} d) (struct_item {s = s} e) = let q = global_led w v g d in absurd (struct_led w v' s q.0 e q.1)
item_only w v v' x x' (global_item {g = g} d) (global_item {g = g'} e) = let same = global_only w v v' g g' d e in (ap (λ z. item.Global z) same.0, same.1)
item_only w v v' x x' (global_item {g = g} d) (function_item {f = f} e) = absurd (global_head w v v' g d (function_led w v' f e))
item_only w v v' x x' (global_item {g = g} d) (prototype {u = u} {h = h} e c) = absurd (global_head w v v' g d (head_led w u h e))
item_only w v v' x x' (function_item {f = f} d) (struct_item {s = s} e) = absurd (struct_led w v' s (word.Sign sign.ParenOpen) e (function_led w v f d))
item_only w v v' x x' (function_item {f = f} d) (global_item {g = g} e) = absurd (global_head w v' v g e (function_led w v f d))
item_only w v v' x x' (function_item {f = f} d) (function_item {f = f'} e) = let same = function_only w v v' f f' d e in (ap (λ z. item.Function z) same.0, same.1)
item_only w v v' x x' (function_item {f = f} d) (prototype {u = u} {h = h} e c) = absurd (function_prototype w v u v' f h d e c)
item_only w v v' x x' (prototype {u = u} {h = h} d c) (struct_item {s = s} e) = absurd (struct_led w v' s (word.Sign sign.ParenOpen) e (head_led w u h d))
item_only w v v' x x' (prototype {u = u} {h = h} d c) (global_item {g = g} e) = absurd (global_head w v' v g e (head_led w u h d))
item_only w v v' x x' (prototype {u = u} {h = h} d c) (function_item {f = f} e) = absurd (function_prototype w v' u v f h e d c)
item_only w v v' x x' (prototype {u = u} {h = h} d c) (prototype {u = u'} {h = h'} e f) =
    let same = head_only w u u' h h' d e in let here : u ≡ u' = same.1 in (ap (λ z. item.Prototype z) same.0, cc)

-- ---- whole texts
led_some : (w : List Token) (k : Word) → w ≡ [] → Led w k → ⊥
led_some w k e p = lead_some w p.behind p.is_static p.result p.stars e p.leads
  where
    lead_some : (w u : List Token) (s : Bool) (x : ResultBase) (ss : List Star) → w ≡ [] → LeadAt w u s x ss → ⊥
    lead_some w u s x ss e (lead (static p) d f) = cc
    lead_some w u s x ss e (lead shared (void d) f) = cc
    lead_some w u s x ss e (lead {b = b} shared (typed {b = y} d) f) = let clash : At is_base [] = subst (λ q. At is_base q) e (base_first w b y d) in cc

-- no item begins at the end of the words
pub item_some : (v : List Token) (x : Item) → ItemAt [] v x → ⊥
item_some v x (struct_item (struct d1 d2 d3 d4 d5 d6 d7)) = cc
item_some v x (global_item {g = g} d) = let q = global_led [] v g d in led_some [] q.0 refl q.1
item_some v x (function_item {f = f} d) = led_some [] (word.Sign sign.ParenOpen) refl (function_led [] v f d)
item_some v x (prototype {u = u} {h = h} d c) = led_some [] (word.Sign sign.ParenOpen) refl (head_led [] u h d)

-- a list of words is at most one unit
pub unit_only : (w : List Token) (u u' : TextUnit) → IsUnit w u → IsUnit w u' → u ≡ u'
unit_only w u u' d e = ap (λ z. record { items = z }) (each_only ItemAt item_only d e item_some item_some).0

-- what is a unit has no place at which no item begins
pub unit_or_none : (w : List Token) (u : TextUnit) (n : ℕ) → IsUnit w u → HasNoItem w n → ⊥
unit_or_none w u n d h = h.some (sym (each_only ItemAt item_only d h.reads item_some h.no_item).1)

-- there is at most one such place
pub one_line : (w : List Token) (n m : ℕ) → HasNoItem w n → HasNoItem w m → n ≡ m
one_line w n m h k = sym h.line ∙ ap line_at (each_only ItemAt item_only h.reads k.reads h.no_item k.no_item).1 ∙ k.line

-- a text is read as at most one unit
pub text_only : (t : Text) (u u' : TextUnit) → Reads t u → Reads t u' → u ≡ u'
text_only t u u' d e = unit_only e.words u u' (subst (λ ws. IsUnit ws u) (IsDivision-unique d.divides e.divides) d.spells) e.spells
