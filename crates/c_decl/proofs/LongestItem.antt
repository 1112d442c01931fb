-- The longest item, one lemma for each way in which a reader ends.
use Rattle.std.proofs.Common.{◌≡◌, ℕ, List, [], ◌∷◌, ◌++◌, ◌⊎◌, IsTrue, Option, None, Some, IfSome, refl, ap, sym, ◌∙◌, subst, inl, inr}
use Rattle.c_tree.specs.declared.items.Const.{Const}
use Rattle.c_tree.specs.declared.items.Field.{Field}
use Rattle.c_tree.specs.declared.items.Head.{Head}
use Rattle.c_tree.specs.declared.items.Item.{Item}
use Rattle.c_tree.specs.declared.items.Item.TheVariants as item
use Rattle.c_tree.specs.declared.items.Local.{Local}
use Rattle.c_tree.specs.declared.items.ResultBase.{ResultBase}
use Rattle.c_tree.specs.declared.items.ResultBase.TheVariants as result
use Rattle.c_tree.specs.declared.items.StructItem.{StructItem}
use Rattle.c_tree.specs.declared.keywords.Keyword.TheVariants as keyword
use Rattle.c_tree.specs.declared.signs.Sign.TheVariants as sign
use Rattle.c_tree.specs.declared.statements.Stmt.{Stmt}
use Rattle.c_tree.specs.declared.types.Base.{Base}
use Rattle.c_tree.specs.declared.types.Number.{Number}
use Rattle.c_tree.specs.declared.types.Star.{Star}
use Rattle.c_tree.specs.declared.words.Token.{Token}
use Rattle.c_tree.specs.declared.words.Word.{Word}
use Rattle.c_tree.specs.declared.words.Word.TheVariants as word
use Rattle.c_tree.specs.ItemGrammar.{SizeAt, no_array, array, ValueAt, no_value, value, FieldAt, StructAt, struct, shared, static, global, declaration, void, typed, head, LocalAt, function, ItemAt, struct_item, global_item, function_item, prototype, added_return}
use Rattle.c_tree.specs.Reading.{Front, front_of, Begins, Best, Within, Never, Each, each_end, each_more, line_at}
use Rattle.c_tree.specs.Reading.Front.{front}
use Rattle.c_tree.specs.StatementGrammar.{StmtsAt, no_statement, statements}
use Rattle.c_tree.specs.TypeGrammar.{BaseAt, char, signed_char, unsigned_char, short, unsigned_short, int, long, unsigned, unsigned_int, unsigned_long, structure, StarAt, plain, annotated, type_name}
use Rattle.c_expr.specs.Classes.{At, is_base}
use Rattle.c_expr.specs.Looking.{Lacks}
use Rattle.c_expr.proofs.Chains.{best_none}
use Rattle.c_expr.proofs.Classes.{at_apart}
use Rattle.c_decl.specs.declared.functions.Start.{Start}
use Rattle.c_decl.specs.declared.params.Params.{Params}
use Rattle.c_decl.specs.Classes.{is_bracket, is_assign, is_statement, is_in_statements}
use Rattle.c_decl.specs.Items.{struct_brace, struct_name, struct_front, struct_opened_of, StructAfter, StartAt, start, head_with, ValuedAfter, global_after, GlobalAfter, BodyAfter, body_after, HeadAfter, prototype_after, function_after, FunctionAfter}
use Rattle.c_decl.specs.Parts.{ParamsEnd, params_end}
use Rattle.c_decl.specs.Sequences.{Then, then, Before, before, Ended, ended, given, Many, many}
use Rattle.c_decl.proofs.Apart.{base_close, bracket_assign, bracket_end, assign_end}
use Rattle.c_decl.proofs.LongestStatement.{in_statements_close}
use Rattle.c_decl.proofs.OneStatement.{statement_first}
use Rattle.c_decl.proofs.Sequences.{then_none, then_is, then_once, ended_lacks, ended_is, best_same, end_apart}

-- ---- bodies of functions
abbrev made : Head → List Local → List Stmt → ℕ → Item
made h ls ss n = item.Function (record { head = h; locals = ls; body = ss ++ added_return h n ∷ []; end = n })

-- '}', with the line on which it stands
pub data Shut (h : Head) (ls : List Local) (ss : List Stmt) : List Token → List Token → Item → Type 0 where
  shut : {w v : List Token} {x : Item} → Begins w (word.Sign sign.BraceClose) v → made h ls ss (line_at w) ≡ x → Shut h ls ss w v x

shut_lacks : (h : Head) (ls : List Local) (ss : List Stmt) (w : List Token) → Lacks w (word.Sign sign.BraceClose) → (v : List Token) (x : Item) → Shut h ls ss w v x → ⊥
shut_lacks h ls ss w lacks v x (shut b e) = lacks v b

shut_covers : (h : Head) (ls : List Local) (ss : List Stmt) (w u : List Token) → Begins w (word.Sign sign.BraceClose) u → (v : List Token) (x : Item) → Shut h ls ss w v x
    → Within Never v x (made h ls ss (line_at w), u)
shut_covers h ls ss w u b v x (shut c e) = let same : u ≡ v = cc in inl (e, same)

shut_is : (h : Head) (ls : List Local) (ss : List Stmt) (w u : List Token) → Begins w (word.Sign sign.BraceClose) u → Best (Shut h ls ss w) Never (Some (made h ls ss (line_at w), u))
shut_is h ls ss w u b = record { sound = shut b refl; covers = shut_covers h ls ss w u b }

abbrev Inner : Head → List Local → List Token → List Token → Item → Type 0
Inner h ls = Then StmtsAt (λ ss. Shut h ls ss)

abbrev Inside : Head → List Token → List Token → Item → Type 0
Inside h = Then (Each LocalAt) (λ ls. Inner h ls)

inside_in : (h : Head) (w v : List Token) (x : Item) → Inside h w v x → BodyAfter h w v x
inside_in h w v x (then ls (then ss (shut b e))) = subst (BodyAfter h w v) e (body_after ls ss b)

inside_out : (h : Head) (w v : List Token) (x : Item) → BodyAfter h w v x → Inside h w v x
inside_out h w v x (body_after ls ss b) = then ls (then ss (shut b refl))

base_no_statement : (k : Word) → IsTrue (is_base k) → IsTrue (is_statement k) → ⊥
base_no_statement (word.Keyword keyword.If) g h = cc
base_no_statement (word.Keyword keyword.While) g h = cc
base_no_statement (word.Keyword keyword.Return) g h = cc
base_no_statement (word.Keyword keyword.Kfree) g h = cc
base_no_statement (word.Keyword keyword.Zero) g h = cc
base_no_statement (word.Keyword keyword.Sizeof) g h = cc
base_no_statement (word.Keyword k) g h = cc
base_no_statement _ g h = cc

locals_apart : (h : Head) (ls : List Local) (q v : List Token) (z : Item) → At is_base q → Inner h ls q v z → ⊥
locals_apart h ls q v z g (then no_statement (shut {v = u} b e)) = base_close q u b g
locals_apart h ls q v z g (then (statements {u = u} {t = t} d e) s) = at_apart is_base is_statement base_no_statement q g (statement_first q u t d)

shut_apart : (h : Head) (ls : List Local) (ss : List Stmt) (q v : List Token) (z : Item) → At is_in_statements q → Shut h ls ss q v z → ⊥
shut_apart h ls ss q v z g (shut {v = u} b e) = in_statements_close q u b g

pub body_open : (h : Head) (w c d : List Token) (ls : List Local) (ss : List Stmt) → Best {X = List Local} (Each LocalAt w) (At is_base) (Some (ls, c))
    → Best {X = List Stmt} (StmtsAt c) (At is_in_statements) (Some (ss, d)) → Lacks d (word.Sign sign.BraceClose) → Best (BodyAfter h w) Never None
body_open h w c d ls ss locals body lacks = best_same (inside_in h w) (inside_out h w)
    (then_is (locals_apart h) locals (then_is (shut_apart h ls) body (best_none (Shut h ls ss d) Never (shut_lacks h ls ss d lacks))))

pub body_some : (h : Head) (w c d v : List Token) (ls : List Local) (ss : List Stmt) → Best {X = List Local} (Each LocalAt w) (At is_base) (Some (ls, c))
    → Best {X = List Stmt} (StmtsAt c) (At is_in_statements) (Some (ss, d)) → Begins d (word.Sign sign.BraceClose) v
    → Best (BodyAfter h w) Never (Some (item.Function (record { head = h; locals = ls; body = ss ++ added_return h (line_at d) ∷ []; end = line_at d }), v))
body_some h w c d v ls ss locals body b = best_same (inside_in h w) (inside_out h w) (then_is (locals_apart h) locals (then_is (shut_apart h ls) body (shut_is h ls ss d v b)))

-- ---- what stands after a head
head_open : (h : Head) (w : List Token) → Lacks w (word.Sign sign.Semicolon) → Lacks w (word.Sign sign.BraceOpen) → (v : List Token) (x : Item) → HeadAfter h w v x → ⊥
head_open h w none nor v x (prototype_after (ended b e)) = none v b
head_open h w none nor v x (function_after (before b d)) = nor _ b

head_none : (h : Head) (w : List Token) → Lacks w (word.Sign sign.Semicolon) → Lacks w (word.Sign sign.BraceOpen) → Best (HeadAfter h w) Never None
head_none h w none nor = best_none (HeadAfter h w) Never (head_open h w none nor)

prototype_covers : (h : Head) (w u : List Token) → Begins w (word.Sign sign.Semicolon) u → (v : List Token) (x : Item) → HeadAfter h w v x → Within Never v x (item.Prototype h, u)
prototype_covers h w u b v x (prototype_after (ended c e)) = let same : u ≡ v = cc in inl (e, same)
prototype_covers h w u b v x (function_after (before c d)) = cc

head_prototype : (h : Head) (w u : List Token) → Begins w (word.Sign sign.Semicolon) u → Best (HeadAfter h w) Never (Some (item.Prototype h, u))
head_prototype h w u b = record { sound = prototype_after (ended b refl); covers = prototype_covers h w u b }

body_out : (h : Head) (w u v : List Token) (x : Item) → Begins w (word.Sign sign.BraceOpen) u → HeadAfter h w v x → BodyAfter h u v x
body_out h w u v x b (prototype_after (ended c e)) = cc
body_out h w u v x b (function_after (before {u = q} c d)) = let same : q ≡ u = cc in subst (λ p. BodyAfter h p v x) same d

head_body : (h : Head) (w u : List Token) (o : Option (Item × List Token)) → Begins w (word.Sign sign.BraceOpen) u → Best (BodyAfter h u) Never o → Best (HeadAfter h w) Never o
head_body h w u o b best = best_same (λ v x d. function_after (before b d)) (λ v x d. body_out h w u v x b d) best

pub function_prototype : (line : ℕ) (s : Start) (w u r : List Token) (p : Params) (h : Head) → h ≡ head_with line s p → Best (ParamsEnd w) Never (Some (p, u)) → Begins u (word.Sign sign.Semicolon) r
    → Best (FunctionAfter line s w) Never (Some (item.Prototype h, r))
function_prototype line s w u r p h e best b =
    subst (λ z. Best (FunctionAfter line s w) Never (Some (item.Prototype z, r))) (sym e) (then_once best (head_prototype (head_with line s p) u r b))

pub function_open : (line : ℕ) (s : Start) (w u : List Token) (p : Params) → Best (ParamsEnd w) Never (Some (p, u)) → Lacks u (word.Sign sign.Semicolon) → Lacks u (word.Sign sign.BraceOpen)
    → Best (FunctionAfter line s w) Never None
function_open line s w u p best none nor = then_once best (head_none (head_with line s p) u none nor)

pub function_body : (line : ℕ) (s : Start) (w u r : List Token) (p : Params) (h : Head) (o : Option (Item × List Token)) → h ≡ head_with line s p → Best (ParamsEnd w) Never (Some (p, u))
    → Begins u (word.Sign sign.BraceOpen) r → Best (BodyAfter h r) Never o → Best (FunctionAfter line s w) Never o
function_body line s w u r p h o e best b rest = then_once best (head_body (head_with line s p) u r o b (subst (λ z. Best (BodyAfter z r) Never o) e rest))

-- ---- globals
abbrev global_with : ℕ → Start → Base → Option Number → Option Const → Item
global_with line s b n i =
    item.Global (record { line = line; is_static = s.is_static; declaration = record { type_name = record { base = b; stars = s.stars }; name = s.name; size = n }; value = i })

value_end : (line : ℕ) (s : Start) (b : Base) (n : Option Number) (q v : List Token) (z : Item) → At is_bracket q
    → Then ValueAt (λ i. Ended (word.Sign sign.Semicolon) (global_with line s b n i)) q v z → ⊥
value_end line s b n q v z g (then no_value (ended {v = u} c e)) = bracket_end q u c g
value_end line s b n q v z g (then (value {u = u} c d) (ended f e)) = bracket_assign q u c g

pub valued_open : (line : ℕ) (s : Start) (b : Base) (w u q : List Token) (n : Option Number) (i : Option Const) → Best {X = Option Number} (SizeAt w) (At is_bracket) (Some (n, u))
    → Best {X = Option Const} (ValueAt u) (At is_assign) (Some (i, q)) → Lacks q (word.Sign sign.Semicolon) → Best (ValuedAfter line s b w) Never None
valued_open line s b w u q n i size given_value lacks = then_is (value_end line s b) size (then_is (end_apart (global_with line s b n) assign_end) given_value (ended_lacks lacks))

pub valued_some : (line : ℕ) (s : Start) (b : Base) (w u q v : List Token) (n : Option Number) (i : Option Const) → Best {X = Option Number} (SizeAt w) (At is_bracket) (Some (n, u))
    → Best {X = Option Const} (ValueAt u) (At is_assign) (Some (i, q)) → Begins q (word.Sign sign.Semicolon) v
    → Best (ValuedAfter line s b w) Never (Some (item.Global (record { line = line; is_static = s.is_static; declaration = record { type_name = record { base = b; stars = s.stars }; name = s.name; size = n }; value = i }), v))
valued_some line s b w u q v n i size given_value c = then_is (value_end line s b) size (then_is (end_apart (global_with line s b n) assign_end) given_value (ended_is c))

no_void : (line : ℕ) (s : Start) (r : ResultBase) (w : List Token) → r ≡ result.Void → (v : List Token) (x : Item) → global_after line s r w v x → ⊥
no_void line s result.Void w e v x d = d
no_void line s (result.Base b) w e v x d = cc

pub global_void : (line : ℕ) (s : Start) (w : List Token) → s.result ≡ result.Void → Best (GlobalAfter line s w) Never None
global_void line s w e = best_none (GlobalAfter line s w) Never (no_void line s s.result w e)

abbrev BestGlobal : ℕ → Start → List Token → Option (Item × List Token) → ResultBase → Type 0
BestGlobal line s w o r = Best (global_after line s r w) Never o

pub global_typed : (line : ℕ) (s : Start) (b : Base) (w : List Token) (o : Option (Item × List Token)) → s.result ≡ result.Base b → Best (ValuedAfter line s b w) Never o
    → Best (GlobalAfter line s w) Never o
global_typed line s b w o e best = subst (BestGlobal line s w o) (sym e) best

-- no global goes on at '('
no_paren : (line : ℕ) (s : Start) (r : ResultBase) (w u v : List Token) (x : Item) → Begins w (word.Sign sign.ParenOpen) u → global_after line s r w v x → ⊥
no_paren line s result.Void w u v x b d = d
no_paren line s (result.Base t) w u v x b (then no_array (then no_value (ended c e))) = cc
no_paren line s (result.Base t) w u v x b (then no_array (then (value c d) e)) = cc
no_paren line s (result.Base t) w u v x b (then (array c d e) f) = cc

-- ---- items that are no structs
-- what stands after a start
pub data ItemAfter (line : ℕ) (s : Start) : List Token → List Token → Item → Type 0 where
  by_function : {w v : List Token} {x : Item} → Before (word.Sign sign.ParenOpen) (FunctionAfter line s) w v x → ItemAfter line s w v x
  by_global : {w v : List Token} {x : Item} → GlobalAfter line s w v x → ItemAfter line s w v x

abbrev Started : ℕ → List Token → List Token → Item → Type 0
Started line = Then StartAt (λ s. ItemAfter line s)

started_in : (w v : List Token) (x : Item) → Started (line_at w) w v x → ItemAt w v x
started_in w v x (then (start st r ss n) (by_function (before b (then (params_end p c) (prototype_after (ended e g)))))) = subst (ItemAt w v) g (prototype (head st r ss n b p c) e)
started_in w v x (then (start st r ss n) (by_function (before b (then (params_end p c) (function_after (before i (body_after ls s j))))))) = function_item (function (head st r ss n b p c) i ls s j)
started_in w v x (then (start st (void c) ss n) (by_global d)) = absurd d
started_in w v x (then (start st (typed t) ss n) (by_global (then z (then i (ended e g))))) = subst (ItemAt w v) g (global_item (global st (declaration (type_name t ss) n z) i e))

-- an item is a struct, or goes on from its start
split : (w v : List Token) (x : Item) → ItemAt w v x → ((s : StructItem) × StructAt w v s × (item.Struct s ≡ x)) ⊎ Started (line_at w) w v x
split w v x (struct_item {s = s} d) = inl (s, d, refl)
split w v x (global_item (global st (declaration (type_name t ss) n z) i e)) = inr (then (start st (typed t) ss n) (by_global (then z (then i (ended e refl)))))
split w v x (function_item (function (head st r ss n b p c) i ls s j)) =
    inr (then (start st r ss n) (by_function (before b (then (params_end p c) (function_after (before i (body_after ls s j)))))))
split w v x (prototype (head st r ss n b p c) e) = inr (then (start st r ss n) (by_function (before b (then (params_end p c) (prototype_after (ended e refl))))))

-- ---- structs
-- the words w begin with 'struct', this name and '{', and c stands after them
pub data Opens (w : List Token) (n : List ℕ) (c : List Token) : Type 0 where
  opens : {a b : List Token} → Begins w (word.Keyword keyword.Struct) a → Begins a (word.Name n) b → Begins b (word.Sign sign.BraceOpen) c → Opens w n c

brace_sound : (w a b : List Token) (n : List ℕ) → Begins w (word.Keyword keyword.Struct) a → Begins a (word.Name n) b → (f : Front) → front_of b ≡ f
    → IfSome (struct_brace n f) (λ p. Opens w p.0 p.1)
brace_sound w a b n h i (front (word.Sign sign.BraceOpen) c) j = opens h i j
brace_sound w a b n h i _ j = tt

name_sound : (w a : List Token) → Begins w (word.Keyword keyword.Struct) a → (f : Front) → front_of a ≡ f → IfSome (struct_name f) (λ p. Opens w p.0 p.1)
name_sound w a h (front (word.Name n) b) i = brace_sound w a b n h i (front_of b) refl
name_sound w a h _ i = tt

opens_sound : (w : List Token) (f : Front) → front_of w ≡ f → IfSome (struct_front f) (λ p. Opens w p.0 p.1)
opens_sound w (front (word.Keyword keyword.Struct) a) h = name_sound w a h (front_of a) refl
opens_sound w _ h = tt

opens_there : (w c : List Token) (n : List ℕ) → ◌≡◌ {A = Option (List ℕ × List Token)} (Some (n, c)) (struct_opened_of w) → Opens w n c
opens_there w c n e = let P : Option (List ℕ × List Token) → Type 0 = λ o. IfSome o (λ p. Opens w p.0 p.1) in subst P (sym e) (opens_sound w (front_of w) refl)

struct_opens : (w v : List Token) (s : StructItem) → StructAt w v s → ◌≡◌ {A = Option (List ℕ × List Token)} None (struct_opened_of w) → ⊥
struct_opens w v s (struct {c = c} {n = n} b d e f g h i) none = let there : ◌≡◌ {A = Option (List ℕ × List Token)} (struct_opened_of w) (Some (n, c)) = rw (b, d, e) refl in cc

abbrev struct_with : ℕ → List ℕ → List Field → Item
struct_with line n xs = item.Struct (record { line = line; name = n; fields = xs })

struct_in : (w c v : List Token) (n : List ℕ) (x : Item) → Opens w n c → StructAfter (line_at w) n c v x → ItemAt w v x
struct_in w c v n x (opens a b d) (then {u = q} {x = xs} (then (many {x = y} {xs = ys} f g) (before {u = r} h (ended i k))) (given l m)) =
    subst (ItemAt w v) (ap (λ z. struct_with (line_at w) n z) k ∙ m) (struct_item (struct a b d f g h (subst (λ z. Begins r (word.Sign sign.Semicolon) z) l i)))

-- no start begins with 'struct', a name and '{'
no_base : (w a b c u : List Token) (n : List ℕ) (t : Base) → Begins w (word.Keyword keyword.Struct) a → Begins a (word.Name n) b → Begins b (word.Sign sign.BraceOpen) c → BaseAt w u t → u ≡ b
no_base w a b c u n t h i j (char d) = cc
no_base w a b c u n t h i j (signed_char d e) = cc
no_base w a b c u n t h i j (unsigned_char d e) = cc
no_base w a b c u n t h i j (short d) = cc
no_base w a b c u n t h i j (unsigned_short d e) = cc
no_base w a b c u n t h i j (int d) = cc
no_base w a b c u n t h i j (long d) = cc
no_base w a b c u n t h i j (unsigned d) = cc
no_base w a b c u n t h i j (unsigned_int d e) = cc
no_base w a b c u n t h i j (unsigned_long d e) = cc
no_base w a b c u n t h i j (structure {u = q} {n = m} d e) = let same : q ≡ a = cc in cc

no_star : (w v c : List Token) (s : Star) → Begins w (word.Sign sign.BraceOpen) c → StarAt w v s → ⊥
no_star w v c s b (plain d) = cc
no_star w v c s b (annotated d e) = cc

no_stars : (w v r c : List Token) (ss : List Star) (n : List ℕ) → Begins w (word.Sign sign.BraceOpen) c → Each StarAt w v ss → Begins v (word.Name n) r → ⊥
no_stars w v r c ss n b each_end d = cc
no_stars w v r c ss n b (each_more {u = u} {x = x} s e) d = no_star w u c x b s

no_start : (w c u : List Token) (n : List ℕ) (s : Start) → Opens w n c → StartAt w u s → ⊥
no_start w c u n s (opens a b d) (start shared (void e) ss m) = cc
no_start w c u n s (opens {a = p} {b = q} a b d) (start {b = o} {c = k} {ss = xs} {n = l} shared (typed {b = t} e) ss m) =
    let same : o ≡ q = no_base w p q c o n t a b d e in no_stars q k u c xs l d (subst (λ z. Each StarAt z k xs) same ss) m
no_start w c u n s (opens a b d) (start (static e) r ss m) = cc

struct_out : (w c v : List Token) (n : List ℕ) (x : Item) → Opens w n c → ItemAt w v x → StructAfter (line_at w) n c v x
struct_out w c v n x o d = by (split w v x d) o
  where
    of_struct : (s : StructItem) → StructAt w v s → Opens w n c → StructAfter (line_at w) n c v (item.Struct s)
    of_struct s (struct {c = c'} {e = e'} {n = m} {x = y} {xs = ys} b e f g h i j) (opens p q r) =
        let name : m ≡ n = cc in let same : c' ≡ c = cc in
        then (subst (λ z. Then (Many FieldAt) (λ xs. Before (word.Sign sign.BraceClose) (Ended (word.Sign sign.Semicolon) xs)) z v (y ∷ ys)) same (then (many g h) (before i (ended j refl)))) (given refl (ap (λ z. struct_with (line_at w) z (y ∷ ys)) (sym name)))

    by : ((s : StructItem) × StructAt w v s × (item.Struct s ≡ x)) ⊎ Started (line_at w) w v x → Opens w n c → StructAfter (line_at w) n c v x
    by (inl (s, e, f)) o = subst (StructAfter (line_at w) n c v) f (of_struct s e o)
    by (inr (then {u = u} {x = s} e f)) o = absurd (no_start w c u n s o e)

pub item_struct : (w c : List Token) (line : ℕ) (n : List ℕ) (o : Option (Item × List Token)) → line ≡ line_at w → ◌≡◌ {A = Option (List ℕ × List Token)} (Some (n, c)) (struct_opened_of w)
    → Best (StructAfter line n c) Never o → Best (ItemAt w) Never o
item_struct w c line n o e there best =
    let opened = opens_there w c n there in
    best_same (λ v x d. struct_in w c v n x opened d) (λ v x d. struct_out w c v n x opened d) (subst (λ z. Best (StructAfter z n c) Never o) e best)

-- ---- items with a start
started_out : (w v : List Token) (x : Item) → ◌≡◌ {A = Option (List ℕ × List Token)} None (struct_opened_of w) → ItemAt w v x → Started (line_at w) w v x
started_out w v x none d = by (split w v x d)
  where
    by : ((s : StructItem) × StructAt w v s × (item.Struct s ≡ x)) ⊎ Started (line_at w) w v x → Started (line_at w) w v x
    by (inl (s, e, f)) = absurd (struct_opens w v s e none)
    by (inr e) = e

pub item_none : (w : List Token) → ◌≡◌ {A = Option (List ℕ × List Token)} None (struct_opened_of w) → Best (StartAt w) Never None → Best (ItemAt w) Never None
item_none w none best = best_same (started_in w) (λ v x d. started_out w v x none d) (then_none best)

function_out : (line : ℕ) (s : Start) (w u v : List Token) (x : Item) → Begins w (word.Sign sign.ParenOpen) u → ItemAfter line s w v x → FunctionAfter line s u v x
function_out line s w u v x b (by_function (before {u = q} c d)) = let same : q ≡ u = cc in subst (λ z. FunctionAfter line s z v x) same d
function_out line s w u v x b (by_global d) = absurd (no_paren line s s.result w u v x b d)

pub item_function : (w u q : List Token) (line : ℕ) (s : Start) (o : Option (Item × List Token)) → line ≡ line_at w → ◌≡◌ {A = Option (List ℕ × List Token)} None (struct_opened_of w)
    → Best (StartAt w) Never (Some (s, u)) → Begins u (word.Sign sign.ParenOpen) q → Best (FunctionAfter line s q) Never o → Best (ItemAt w) Never o
item_function w u q line s o e none first b best = best_same (started_in w) (λ v x d. started_out w v x none d)
    (then_once first (best_same (λ v x d. by_function (before b d)) (λ v x d. function_out (line_at w) s u q v x b d) (subst (λ z. Best (FunctionAfter z s q) Never o) e best)))

global_out : (line : ℕ) (s : Start) (w v : List Token) (x : Item) → Lacks w (word.Sign sign.ParenOpen) → ItemAfter line s w v x → GlobalAfter line s w v x
global_out line s w v x lacks (by_function (before b d)) = absurd (lacks _ b)
global_out line s w v x lacks (by_global d) = d

pub item_global : (w u : List Token) (line : ℕ) (s : Start) (o : Option (Item × List Token)) → line ≡ line_at w → ◌≡◌ {A = Option (List ℕ × List Token)} None (struct_opened_of w)
    → Best (StartAt w) Never (Some (s, u)) → Lacks u (word.Sign sign.ParenOpen) → Best (GlobalAfter line s u) Never o → Best (ItemAt w) Never o
item_global w u line s o e none first lacks best = best_same (started_in w) (λ v x d. started_out w v x none d)
    (then_once first (best_same (λ v x d. by_global d) (λ v x d. global_out (line_at w) s u v x lacks d) (subst (λ z. Best (GlobalAfter z s u) Never o) e best)))
