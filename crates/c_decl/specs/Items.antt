-- Parts of items, as they are read.
use Rattle.std.specs.Prelude.{ℕ, Bool, true, false, List, [], ◌∷◌, ◌++◌, Option, None, Some}
use Rattle.c_tree.specs.declared.items.Head.{Head}
use Rattle.c_tree.specs.declared.items.Item.{Item}
use Rattle.c_tree.specs.declared.items.Item.TheVariants as item
use Rattle.c_tree.specs.declared.items.Local.{Local}
use Rattle.c_tree.specs.declared.items.ResultBase.{ResultBase}
use Rattle.c_tree.specs.declared.items.ResultBase.TheVariants as result
use Rattle.c_tree.specs.declared.keywords.Keyword.TheVariants as keyword
use Rattle.c_tree.specs.declared.signs.Sign.TheVariants as sign
use Rattle.c_tree.specs.declared.statements.Stmt.{Stmt}
use Rattle.c_tree.specs.declared.types.Base.{Base}
use Rattle.c_tree.specs.declared.types.Star.{Star}
use Rattle.c_tree.specs.declared.words.Token.{Token}
use Rattle.c_tree.specs.declared.words.Word.TheVariants as word
use Rattle.c_tree.specs.ItemGrammar.{SizeAt, StaticAt, ValueAt, ResultAt, LocalAt, added_return}
use Rattle.c_tree.specs.Reading.{Front, front_of, Begins, Each, line_at}
use Rattle.c_tree.specs.Reading.Front.{front}
use Rattle.c_tree.specs.StatementGrammar.{StmtsAt}
use Rattle.c_tree.specs.TypeGrammar.{StarAt}
use Rattle.c_decl.specs.declared.functions.Start.{Start}
use Rattle.c_decl.specs.declared.params.Params.{Params}
use Rattle.c_decl.specs.Parts.{NameAt, FieldsAt, ParamsEnd}
use Rattle.c_decl.specs.Sequences.{Then, Before, Ended, Given}

-- Whether the words w, of this beginning, begin with 'static', and the words after it.
abbrev pub static_front : List Token → Front → Bool × List Token
static_front w (front (word.Keyword keyword.Static) u) = (true, u)
static_front w _ = (false, w)

abbrev pub static_of : List Token → Bool × List Token
static_of w = static_front w (front_of w)

-- After 'struct' and the name n.
abbrev pub struct_brace : List ℕ → Front → Option (List ℕ × List Token)
struct_brace n (front (word.Sign sign.BraceOpen) c) = Some (n, c)
struct_brace n _ = None

-- After 'struct'.
abbrev pub struct_name : Front → Option (List ℕ × List Token)
struct_name (front (word.Name n) b) = struct_brace n (front_of b)
struct_name _ = None

-- The name of the struct that a beginning declares.
abbrev pub struct_front : Front → Option (List ℕ × List Token)
struct_front (front (word.Keyword keyword.Struct) a) = struct_name (front_of a)
struct_front _ = None

-- The name of the struct that is declared where the words begin with 'struct' NAME '{', and the words after the brace.
abbrev pub struct_opened_of : List Token → Option (List ℕ × List Token)
struct_opened_of w = struct_front (front_of w)

-- What stands after 'struct' NAME '{', with this line and name.
abbrev pub StructAfter : ℕ → List ℕ → List Token → List Token → Item → Type 0
StructAfter line n = Then FieldsAt (λ xs. Given (item.Struct (record { line = line; name = n; fields = xs })))

-- (Base | 'void') Stars NAME, behind 'static' or not.
abbrev pub DeclaredAt : Bool → List Token → List Token → Start → Type 0
DeclaredAt s = Then ResultAt (λ r. Then (Each StarAt) (λ ss. Then NameAt (λ n. Given (record { is_static = s; result = r; stars = ss; name = n }))))

-- ['static'] (Base | 'void') Stars NAME.
pub data StartAt : List Token → List Token → Start → Type 0 where
  start : {w a b c v : List Token} {s : Bool} {r : ResultBase} {ss : List Star} {n : List ℕ} → StaticAt w a s → ResultAt a b r → Each StarAt b c ss → Begins c (word.Name n) v
      → StartAt w v (record { is_static = s; result = r; stars = ss; name = n })

-- The head of a function with this start and these parameters.
abbrev pub head_with : ℕ → Start → Params → Head
head_with line s p =
    record { line = line; is_static = s.is_static; result = s.result; stars = s.stars; name = s.name; written_void = p.written_void; params = p.params }

-- What stands after the name of a global of this base: [Size] ['=' Const] ';'.
abbrev pub ValuedAfter : ℕ → Start → Base → List Token → List Token → Item → Type 0
ValuedAfter line s b = Then SizeAt (λ n. Then ValueAt (λ i. Ended (word.Sign sign.Semicolon)
    (item.Global (record { line = line; is_static = s.is_static; declaration = record { type_name = record { base = b; stars = s.stars }; name = s.name; size = n }; value = i }))))

-- What stands after the start of a global, which is not of type 'void'.
abbrev pub global_after : ℕ → Start → ResultBase → List Token → List Token → Item → Type 0
global_after line s result.Void w v x = ⊥
global_after line s (result.Base b) w v x = ValuedAfter line s b w v x

abbrev pub GlobalAfter : ℕ → Start → List Token → List Token → Item → Type 0
GlobalAfter line s = global_after line s s.result

-- What stands after the head of a function and '{': its locals, its statements and '}'.
pub data BodyAfter (h : Head) : List Token → List Token → Item → Type 0 where
  body_after : {w c d v : List Token} {ls : List Local} {ss : List Stmt} → Each LocalAt w c ls → StmtsAt c d ss → Begins d (word.Sign sign.BraceClose) v
      → BodyAfter h w v (item.Function (record { head = h; locals = ls; body = ss ++ added_return h (line_at d) ∷ []; end = line_at d }))

-- What stands after a head: ';', or '{' and a body.
pub data HeadAfter (h : Head) : List Token → List Token → Item → Type 0 where
  prototype_after : {w v : List Token} {x : Item} → Ended (word.Sign sign.Semicolon) (item.Prototype h) w v x → HeadAfter h w v x
  function_after : {w v : List Token} {x : Item} → Before (word.Sign sign.BraceOpen) (BodyAfter h) w v x → HeadAfter h w v x

-- What stands after the start of a function and '('.
abbrev pub FunctionAfter : ℕ → Start → List Token → List Token → Item → Type 0
FunctionAfter line s = Then ParamsEnd (λ p. HeadAfter (head_with line s p))
