-- Parts of declarations and statements, as they are read: phrases of the grammar with what stands before and behind them.
use Rattle.std.specs.Prelude.{ℕ, List, ◌∷◌, Option, None, Some, Bool}
use Rattle.c_tree.specs.declared.expressions.Expr.{Expr}
use Rattle.c_tree.specs.declared.items.Arm.{Arm}
use Rattle.c_tree.specs.declared.items.Const.{Const}
use Rattle.c_tree.specs.declared.items.Declaration.{Declaration}
use Rattle.c_tree.specs.declared.items.Field.{Field}
use Rattle.c_tree.specs.declared.items.Field.TheVariants as field
use Rattle.c_tree.specs.declared.items.Param.{Param}
use Rattle.c_tree.specs.declared.keywords.Keyword.TheVariants as keyword
use Rattle.c_tree.specs.declared.signs.Sign.TheVariants as sign
use Rattle.c_tree.specs.declared.statements.Body.{Body}
use Rattle.c_tree.specs.declared.statements.Stmt.{Stmt}
use Rattle.c_tree.specs.declared.statements.Stmt.TheVariants as statement
use Rattle.c_tree.specs.declared.types.TypeName.{TypeName}
use Rattle.c_tree.specs.declared.words.Token.{Token}
use Rattle.c_tree.specs.declared.words.Word.TheVariants as word
use Rattle.c_tree.specs.ExpressionGrammar.{Closed}
use Rattle.c_tree.specs.ItemGrammar.{ConstAt, ArmAt, DeclarationAt, FieldAt, ParamAt, MoreParamAt, ParamsAt}
use Rattle.c_tree.specs.Reading.{Begins, Each}
use Rattle.c_tree.specs.StatementGrammar.{Ends, BodyAt}
use Rattle.c_tree.specs.TypeGrammar.{TypeNameAt}
use Rattle.c_decl.specs.declared.constants.Case.{Case}
use Rattle.c_decl.specs.declared.declarations.Typed.{Typed}
use Rattle.c_decl.specs.declared.params.Params.{Params}
use Rattle.c_decl.specs.Sequences.{Then, Before, Ended, Given, Many}

-- A name.
abbrev pub NameAt : List Token → List Token → List ℕ → Type 0
NameAt w v n = Begins w (word.Name n) v

-- Base Stars NAME.
pub data TypedAt : List Token → List Token → Typed → Type 0 where
  typed : {w u v : List Token} {t : TypeName} {n : List ℕ} → TypeNameAt w u t → Begins u (word.Name n) v → TypedAt w v (record { type_name = t; name = n })

-- 'when' '(' NAME '==' Const ')' ';'.
pub data CaseAt : List Token → List Token → Case → Type 0 where
  case : {b c d e f g h v : List Token} {m : List ℕ} {k : Const} → Begins b (word.Keyword keyword.When) c → Begins c (word.Sign sign.ParenOpen) d → Begins d (word.Name m) e
      → Begins e (word.Sign sign.Equal) f → ConstAt f g k → Begins g (word.Sign sign.ParenClose) h → Ends h v → CaseAt b v (record { tag = m; value = k })

-- A declared object and ';'.
abbrev pub PlainAt : List Token → List Token → Declaration → Type 0
PlainAt = Then DeclarationAt (λ d. Ended (word.Sign sign.Semicolon) d)

-- NAME ';'.
abbrev pub NamedEnd : List Token → List Token → List ℕ → Type 0
NamedEnd = Then NameAt (λ n. Ended (word.Sign sign.Semicolon) n)

-- Arm Arm* '}'.
abbrev pub ArmsAt : List Token → List Token → List Arm → Type 0
ArmsAt = Then (Many ArmAt) (λ xs. Ended (word.Sign sign.BraceClose) xs)

-- The union on this line that stands after 'union'.
abbrev pub UnionAt : ℕ → List Token → List Token → Field → Type 0
UnionAt line = Before (word.Sign sign.BraceOpen) (Then ArmsAt (λ xs. Then NamedEnd (λ n. Given (field.Union line xs n))))

-- Field Field* '}' ';'.
abbrev pub FieldsAt : List Token → List Token → List Field → Type 0
FieldsAt = Then (Many FieldAt) (λ xs. Before (word.Sign sign.BraceClose) (Ended (word.Sign sign.Semicolon) xs))

-- Param (',' Param)*.
pub data ListAt : List Token → List Token → List Param → Type 0 where
  listed : {w u v : List Token} {p : Param} {ps : List Param} → ParamAt w u p → Each MoreParamAt u v ps → ListAt w v (p ∷ ps)

-- Parameters and the parenthesis that closes them.
pub data ParamsEnd : List Token → List Token → Params → Type 0 where
  params_end : {w u v : List Token} {b : Bool} {ps : List Param} → ParamsAt w u b ps → Begins u (word.Sign sign.ParenClose) v
      → ParamsEnd w v (record { written_void = b; params = ps })

-- '(' Expr ')'.
abbrev pub TestAfter : List Token → List Token → Expr → Type 0
TestAfter = Before (word.Sign sign.ParenOpen) (Closed sign.ParenClose)

-- ['else' Body].
pub data ElseAt : List Token → List Token → Option Body → Type 0 where
  no_else : {w : List Token} → ElseAt w w None
  other : {w u v : List Token} {y : Body} → Begins w (word.Keyword keyword.Else) u → BodyAt u v y → ElseAt w v (Some y)

-- What stands after the 'if' on this line.
pub data IfAfter (line : ℕ) : List Token → List Token → Stmt → Type 0 where
  if_after : {w u r v : List Token} {x : Expr} {y : Body} {z : Option Body} → TestAfter w u x → BodyAt u r y → ElseAt r v z → IfAfter line w v (statement.If line x y z)

-- What stands after the 'while' on this line.
abbrev pub WhileAfter : ℕ → List Token → List Token → Stmt → Type 0
WhileAfter line = Then TestAfter (λ x. Then BodyAt (λ y. Given (statement.While line x y)))
