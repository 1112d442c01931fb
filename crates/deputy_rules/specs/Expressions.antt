-- The derivation of an expression: one line for each form, its parts first, left to right.
use Rattle.std.specs.Prelude.{ℕ, List, Option, Some, None, option_map}
use Rattle.c_tree.specs.declared.expressions.Expr.{Expr}
use Rattle.c_tree.specs.declared.expressions.Expr.TheOpen as E
use Rattle.c_tree.specs.declared.expressions.Expr.TheFolds.{fold-Expr}
use Rattle.c_tree.specs.declared.types.TypeName.{TypeName}
use Rattle.checked_tree.specs.declared.expressions.CheckedExpr.{CheckedExpr}
use Rattle.deputy_rules.specs.declared.derived.Derived.{Derived}
use Rattle.deputy_rules.specs.declared.derived.Derived.TheVariants as derived
use Rattle.deputy_rules.specs.declared.derived.Value.{Value}
use Rattle.deputy_rules.specs.declared.derived.Value.TheVariants as value
use Rattle.deputy_rules.specs.Context.{Context}
use Rattle.deputy_rules.specs.Deriving.{Deriving, ◌>>=◌, pure, lift}
use Rattle.deputy_rules.specs.Operators.{number, character, size_constant, unary, cast, binary}
use Rattle.deputy_rules.specs.Places.{named, followed, dotted}
use Rattle.deputy_rules.specs.Pointers.{string, indexed_by}
use Rattle.deputy_types.specs.Table.{size}
use Rattle.deputy_rules.specs.Values.{value_of, pointer_of, integer_of}

-- `sizeof(T)`
unfoldable pub size_of_type : Context → TypeName → Option Derived
size_of_type ctx t = option_map size_constant (size ctx.table t)

-- `e->f`, as `(*e).f`
unfoldable pub arrow : Context → Derived → List ℕ → Deriving Derived
arrow ctx x f = lift (pointer_of ctx x) >>= λ p. followed ctx p >>= λ l. dotted ctx l f

-- `e[i]`
unfoldable pub subscript : Context → Derived → Derived → Deriving Derived
subscript ctx x y = lift (pointer_of ctx x) >>= λ p. lift (integer_of ctx y) >>= λ i. indexed_by ctx p i

-- one form, of whose parts each derives itself
abbrev pub level : Context → E.Expr-F (Deriving Derived) → Deriving Derived
level ctx (E.Number n) = pure (number n)
level ctx (E.Character c) = pure (character c)
level ctx (E.String bytes k) = lift (string ctx k)
level ctx (E.Name x) = lift (named ctx x)
level ctx (E.Grouped a) = a
level ctx E.Null = pure (derived.Value value.Null)
level ctx (E.Unary op a) = a >>= λ x. unary ctx op x
level ctx (E.Binary op a b) = a >>= λ x. b >>= λ y. binary ctx op x y
level ctx (E.Cast t a) = a >>= λ x. lift (cast ctx t x)
level ctx (E.Sizeof t) = lift (size_of_type ctx t)
level ctx (E.Field a f) = a >>= λ x. dotted ctx x f
level ctx (E.Arrow a f) = a >>= λ x. arrow ctx x f
level ctx (E.Index a b) = a >>= λ x. b >>= λ y. subscript ctx x y

-- what an expression derives, and the checks that it asks for behind those so far; or none
unfoldable pub derive : Context → Expr → Deriving Derived
derive ctx e = fold-Expr (Deriving Derived) (level ctx) e

-- the checked form of a value; `(void *)0` has none until a pointer is wanted
abbrev pub form_of : Value → Option CheckedExpr
form_of (value.Int w) = Some w.form
form_of (value.Pointer p) = Some p.form
form_of value.Null = None

-- an expression by itself: the checked form of its value
unfoldable pub expression : Context → Expr → Deriving CheckedExpr
expression ctx e = derive ctx e >>= λ d. lift (value_of ctx d) >>= λ v. lift (form_of v)
