-- The grammar of items (C99, 6.7 and 6.9), one constructor for each alternative. Each relation says that the words w begin
-- with a phrase of that meaning, and that v is what stands after it.
use Rattle.std.specs.Prelude.{ℕ, Bool, true, false, List, [], ◌∷◌, ◌++◌, Option, None, Some}
use Rattle.c_tree.specs.declared.expressions.Expr.TheVariants as expr
use Rattle.c_tree.specs.declared.items.Arm.{Arm}
use Rattle.c_tree.specs.declared.items.Const.{Const}
use Rattle.c_tree.specs.declared.items.Const.TheVariants as const
use Rattle.c_tree.specs.declared.items.Declaration.{Declaration}
use Rattle.c_tree.specs.declared.items.Field.{Field}
use Rattle.c_tree.specs.declared.items.Field.TheVariants as field
use Rattle.c_tree.specs.declared.items.Function.{Function}
use Rattle.c_tree.specs.declared.items.GlobalItem.{GlobalItem}
use Rattle.c_tree.specs.declared.items.Head.{Head}
use Rattle.c_tree.specs.declared.items.Item.{Item}
use Rattle.c_tree.specs.declared.items.Item.TheVariants as item
use Rattle.c_tree.specs.declared.items.Local.{Local}
use Rattle.c_tree.specs.declared.items.Param.{Param}
use Rattle.c_tree.specs.declared.items.ResultBase.{ResultBase}
use Rattle.c_tree.specs.declared.items.ResultBase.TheVariants as result
use Rattle.c_tree.specs.declared.items.StructItem.{StructItem}
use Rattle.c_tree.specs.declared.keywords.Keyword.TheVariants as keyword
use Rattle.c_tree.specs.declared.signs.Sign.TheVariants as sign
use Rattle.c_tree.specs.declared.statements.Action.{Action}
use Rattle.c_tree.specs.declared.statements.Action.TheVariants as action
use Rattle.c_tree.specs.declared.statements.Stmt.{Stmt}
use Rattle.c_tree.specs.declared.statements.Stmt.TheVariants as statement
use Rattle.c_tree.specs.declared.types.Base.{Base}
use Rattle.c_tree.specs.declared.types.Number.{Number}
use Rattle.c_tree.specs.declared.types.Star.{Star}
use Rattle.c_tree.specs.declared.types.TypeName.{TypeName}
use Rattle.c_tree.specs.declared.words.Suffix.{Suffix}
use Rattle.c_tree.specs.declared.words.Suffix.TheVariants as suffix
use Rattle.c_tree.specs.declared.words.Token.{Token}
use Rattle.c_tree.specs.declared.words.Word.TheVariants as word
use Rattle.c_tree.specs.Reading.{Begins, Each, line_at}
use Rattle.c_tree.specs.StatementGrammar.{Ends, StmtsAt}
use Rattle.c_tree.specs.TypeGrammar.{BaseAt, StarAt, TypeNameAt}

-- [Size]: the number of an array's elements in brackets, where it is an array.
pub data SizeAt : List Token → List Token → Option Number → Type 0 where
  no_array : {w : List Token} → SizeAt w w None
  array : {w u r v : List Token} {n : ℕ} {s : Suffix} → Begins w (word.Sign sign.BracketOpen) u → Begins u (word.Number n s) r → Begins r (word.Sign sign.BracketClose) v
      → SizeAt w v (Some (record { value = n; suffix = s }))

-- Const: ['-'] NUMBER or CHARACTER.
pub data ConstAt : List Token → List Token → Const → Type 0 where
  number : {w v : List Token} {n : ℕ} {s : Suffix} → Begins w (word.Number n s) v → ConstAt w v (const.Number (record { value = n; suffix = s }))
  negative : {w u v : List Token} {n : ℕ} {s : Suffix} → Begins w (word.Sign sign.Minus) u → Begins u (word.Number n s) v
      → ConstAt w v (const.Negative (record { value = n; suffix = s }))
  character : {w v : List Token} {c : ℕ} → Begins w (word.Character c) v → ConstAt w v (const.Character c)

-- Base Stars NAME [Size].
pub data DeclarationAt : List Token → List Token → Declaration → Type 0 where
  declaration : {w u r v : List Token} {t : TypeName} {n : List ℕ} {s : Option Number} → TypeNameAt w u t → Begins u (word.Name n) r → SizeAt r v s
      → DeclarationAt w v (record { type_name = t; name = n; size = s })

-- Arm: Base Stars NAME 'when' '(' NAME '==' Const ')' ';', with the line of its first word.
pub data ArmAt : List Token → List Token → Arm → Type 0 where
  arm : {w a b c d e f g h v : List Token} {t : TypeName} {n m : List ℕ} {k : Const} → TypeNameAt w a t → Begins a (word.Name n) b → Begins b (word.Keyword keyword.When) c
      → Begins c (word.Sign sign.ParenOpen) d → Begins d (word.Name m) e → Begins e (word.Sign sign.Equal) f → ConstAt f g k → Begins g (word.Sign sign.ParenClose) h → Ends h v
      → ArmAt w v (record { line = line_at w; type_name = t; name = n; tag = m; value = k })

-- Field: a declaration and ';', or 'union' '{' Arm Arm* '}' NAME ';', with the line of its first word.
pub data FieldAt : List Token → List Token → Field → Type 0 where
  plain : {w u v : List Token} {d : Declaration} → DeclarationAt w u d → Ends u v → FieldAt w v (field.Plain (line_at w) d)
  union : {w a b c d e f v : List Token} {x : Arm} {xs : List Arm} {n : List ℕ} → Begins w (word.Keyword keyword.Union) a → Begins a (word.Sign sign.BraceOpen) b → ArmAt b c x
      → Each ArmAt c d xs → Begins d (word.Sign sign.BraceClose) e → Begins e (word.Name n) f → Ends f v → FieldAt w v (field.Union (line_at w) (x ∷ xs) n)

-- 'struct' NAME '{' Field Field* '}' ';'.
pub data StructAt : List Token → List Token → StructItem → Type 0 where
  struct : {w a b c d e f v : List Token} {n : List ℕ} {x : Field} {xs : List Field} → Begins w (word.Keyword keyword.Struct) a → Begins a (word.Name n) b
      → Begins b (word.Sign sign.BraceOpen) c → FieldAt c d x → Each FieldAt d e xs → Begins e (word.Sign sign.BraceClose) f → Ends f v
      → StructAt w v (record { line = line_at w; name = n; fields = x ∷ xs })

-- ['static'].
pub data StaticAt : List Token → List Token → Bool → Type 0 where
  shared : {w : List Token} → StaticAt w w false
  static : {w v : List Token} → Begins w (word.Keyword keyword.Static) v → StaticAt w v true

-- ['=' Const].
pub data ValueAt : List Token → List Token → Option Const → Type 0 where
  no_value : {w : List Token} → ValueAt w w None
  value : {w u v : List Token} {c : Const} → Begins w (word.Sign sign.Assign) u → ConstAt u v c → ValueAt w v (Some c)

-- A global object, with the line of its first word.
pub data GlobalAt : List Token → List Token → GlobalItem → Type 0 where
  global : {w a b c v : List Token} {s : Bool} {d : Declaration} {i : Option Const} → StaticAt w a s → DeclarationAt a b d → ValueAt b c i → Ends c v
      → GlobalAt w v (record { line = line_at w; is_static = s; declaration = d; value = i })

-- Base or 'void'.
pub data ResultAt : List Token → List Token → ResultBase → Type 0 where
  void : {w v : List Token} → Begins w (word.Keyword keyword.Void) v → ResultAt w v result.Void
  typed : {w v : List Token} {b : Base} → BaseAt w v b → ResultAt w v (result.Base b)

-- Param: Base Stars NAME, with the line of its first word.
pub data ParamAt : List Token → List Token → Param → Type 0 where
  param : {w u v : List Token} {t : TypeName} {n : List ℕ} → TypeNameAt w u t → Begins u (word.Name n) v → ParamAt w v (record { line = line_at w; type_name = t; name = n })

-- ',' Param.
pub data MoreParamAt : List Token → List Token → Param → Type 0 where
  more_param : {w u v : List Token} {p : Param} → Begins w (word.Sign sign.Comma) u → ParamAt u v p → MoreParamAt w v p

-- Params: nothing, 'void', or parameters; and whether 'void' is written.
pub data ParamsAt : List Token → List Token → Bool → List Param → Type 0 where
  no_param : {w : List Token} → ParamsAt w w false []
  written_void : {w v : List Token} → Begins w (word.Keyword keyword.Void) v → ParamsAt w v true []
  params : {w u v : List Token} {p : Param} {ps : List Param} → ParamAt w u p → Each MoreParamAt u v ps → ParamsAt w v false (p ∷ ps)

-- ['static'] Head: (Base | 'void') Stars NAME '(' Params ')', with the line of its first word.
pub data HeadAt : List Token → List Token → Head → Type 0 where
  head : {w a b c d e f v : List Token} {s b' : Bool} {r : ResultBase} {ss : List Star} {n : List ℕ} {ps : List Param} → StaticAt w a s → ResultAt a b r → Each StarAt b c ss
      → Begins c (word.Name n) d → Begins d (word.Sign sign.ParenOpen) e → ParamsAt e f b' ps → Begins f (word.Sign sign.ParenClose) v
      → HeadAt w v (record { line = line_at w; is_static = s; result = r; stars = ss; name = n; written_void = b'; params = ps })

-- Local: Base Stars NAME ';', with the line of its first word.
pub data LocalAt : List Token → List Token → Local → Type 0 where
  local : {w u r v : List Token} {t : TypeName} {n : List ℕ} → TypeNameAt w u t → Begins u (word.Name n) r → Ends r v
      → LocalAt w v (record { line = line_at w; type_name = t; name = n })

-- What the return at the end of a body gives: nothing where the result is `void`, else the number 0.
abbrev pub returned : ResultBase → List Star → Action
returned result.Void [] = action.Return None
returned _ _ = action.Return (Some (expr.Number (record { value = 0; suffix = suffix.Plain })))

-- The return that is added at the end of a body, with the line of its closing brace.
abbrev pub added_return : Head → ℕ → Stmt
added_return h n = statement.Simple (record { line = n; action = returned h.result h.stars })

-- A head and '{' Local* Stmt* '}', with the return that is added.
pub data FunctionAt : List Token → List Token → Function → Type 0 where
  function : {w a b c d v : List Token} {h : Head} {ls : List Local} {ss : List Stmt} → HeadAt w a h → Begins a (word.Sign sign.BraceOpen) b → Each LocalAt b c ls → StmtsAt c d ss
      → Begins d (word.Sign sign.BraceClose) v → FunctionAt w v (record { head = h; locals = ls; body = ss ++ added_return h (line_at d) ∷ []; end = line_at d })

-- Item: a struct, a global, a function, or a head and ';'.
pub data ItemAt : List Token → List Token → Item → Type 0 where
  struct_item : {w v : List Token} {s : StructItem} → StructAt w v s → ItemAt w v (item.Struct s)
  global_item : {w v : List Token} {g : GlobalItem} → GlobalAt w v g → ItemAt w v (item.Global g)
  function_item : {w v : List Token} {f : Function} → FunctionAt w v f → ItemAt w v (item.Function f)
  prototype : {w u v : List Token} {h : Head} → HeadAt w u h → Ends u v → ItemAt w v (item.Prototype h)
