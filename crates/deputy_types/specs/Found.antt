-- What is found in a text, in its order: the types of elements, each once, and the strings.
use Rattle.std.specs.Prelude.{ℕ, ◌-◌, ◌^◌, nat_lt, if◌then◌else◌, List, [], ◌∷◌, ◌++◌, length, Option, Some, None, bytes_eq}
use Rattle.std.specs.List.{list_any}
use Rattle.c_tree.specs.declared.expressions.Expr.{Expr}
use Rattle.c_tree.specs.declared.expressions.Expr.TheOpen.{Expr-F}
use Rattle.c_tree.specs.declared.expressions.Expr.TheFolds.{fold-Expr}
use Rattle.c_tree.specs.declared.items.Arm.{Arm}
use Rattle.c_tree.specs.declared.items.Field.{Field}
use Rattle.c_tree.specs.declared.items.Field.TheVariants as field
use Rattle.c_tree.specs.declared.items.Function.{Function}
use Rattle.c_tree.specs.declared.items.Head.{Head}
use Rattle.c_tree.specs.declared.items.Item.{Item}
use Rattle.c_tree.specs.declared.items.Item.TheVariants as item
use Rattle.c_tree.specs.declared.items.Local.{Local}
use Rattle.c_tree.specs.declared.items.Param.{Param}
use Rattle.c_tree.specs.declared.items.ResultBase.{ResultBase}
use Rattle.c_tree.specs.declared.items.ResultBase.TheVariants as result
use Rattle.c_tree.specs.declared.statements.Action.{Action}
use Rattle.c_tree.specs.declared.statements.Action.TheVariants as action
use Rattle.c_tree.specs.declared.statements.Body.{Body}
use Rattle.c_tree.specs.declared.statements.Body.TheOpen.{Body-F, Stmt-F}
use Rattle.c_tree.specs.declared.statements.Body.TheFolds.{fold-Body, fold-Stmt}
use Rattle.c_tree.specs.declared.statements.Stmt.{Stmt}
use Rattle.c_tree.specs.declared.types.Star.{Star}
use Rattle.c_tree.specs.declared.types.TypeName.{TypeName}
use Rattle.checked_tree.specs.declared.shapes.Scalar.TheVariants as scalar
use Rattle.deputy_types.specs.declared.element.Element.{Element}
use Rattle.deputy_types.specs.declared.found.Found.{Found}
use Rattle.deputy_types.specs.declared.element.Element.TheVariants as element
use Rattle.deputy_types.specs.Types.{base_key, star_key, same_element}

-- names with one more, if it is new. A list of names has less than 2^32; a text has far fewer
unfoldable pub with_name : List (List ℕ) → List ℕ → List (List ℕ)
with_name names name = if list_any (bytes_eq name) names then names else
    if nat_lt (length names) (2 ^ 32 - 1) then names ++ name ∷ [] else names

-- names with that of a struct
abbrev pub with_struct_name : List (List ℕ) → Item → List (List ℕ)
with_struct_name names (item.Struct s) = with_name names s.name
with_struct_name names (item.Global g) = names
with_struct_name names (item.Function f) = names
with_struct_name names (item.Prototype h) = names

-- the names of the structs of a text, by their numbers
abbrev pub struct_names : List Item → List (List ℕ) → List (List ℕ)
struct_names [] names = names
struct_names (x ∷ items) names = struct_names items (with_struct_name names x)

-- nothing yet: `char` is the first element
abbrev pub first_found : Found
first_found = record { elements = element.Int scalar.U8 ∷ []; strings = []; ends = [] }

-- elements with one more, if it is new. A list of elements has less than 2^32; a text has far fewer
unfoldable pub with_element : List Element → Element → List Element
with_element elements key = if list_any (same_element key) elements then elements else
    if nat_lt (length elements) (2 ^ 32 - 1) then elements ++ key ∷ [] else elements

-- the elements of stars behind the type `key`
abbrev pub with_stars : List Element → Option Element → List Star → List Element
with_stars elements None stars = elements
with_stars elements (Some key) [] = elements
with_stars elements (Some key) (star ∷ stars) = with_stars (with_element elements key) (star_key (with_element elements key) key star) stars

-- the elements of a type name's stars
unfoldable pub with_types : List (List ℕ) → List Element → TypeName → List Element
with_types structs elements t = with_stars elements (base_key structs t.base) t.stars

-- the same, and the type itself as an element: that of a global or of new memory
abbrev pub with_whole_stars : List Element → Option Element → List Star → List Element
with_whole_stars elements None stars = elements
with_whole_stars elements (Some key) [] = with_element elements key
with_whole_stars elements (Some key) (star ∷ stars) = with_whole_stars (with_element elements key) (star_key (with_element elements key) key star) stars

unfoldable pub with_whole_type : List (List ℕ) → List Element → TypeName → List Element
with_whole_type structs elements t = with_whole_stars elements (base_key structs t.base) t.stars

-- with the elements of a type name's stars, and of a type that is itself an element
abbrev pub found_type : List (List ℕ) → TypeName → Found → Found
found_type structs t f = record { elements = with_types structs f.elements t; strings = f.strings; ends = f.ends }

abbrev pub found_whole : List (List ℕ) → TypeName → Found → Found
found_whole structs t f = record { elements = with_whole_type structs f.elements t; strings = f.strings; ends = f.ends }

-- with a string
abbrev pub found_string : List ℕ → Found → Found
found_string bytes f = record { elements = f.elements; strings = f.strings ++ bytes ∷ []; ends = f.ends }

-- what stands in an expression
abbrev pub found_form : List (List ℕ) → Expr-F (Found → Found) → Found → Found
found_form structs (Expr-F.Number n) f = f
found_form structs (Expr-F.Character c) f = f
found_form structs (Expr-F.String bytes k) f = found_string bytes f
found_form structs (Expr-F.Name n) f = f
found_form structs (Expr-F.Grouped x) f = x f
found_form structs Expr-F.Null f = f
found_form structs (Expr-F.Unary o x) f = x f
found_form structs (Expr-F.Binary o x y) f = y (x f)
found_form structs (Expr-F.Cast t x) f = x (found_type structs t f)
found_form structs (Expr-F.Sizeof t) f = found_type structs t f
found_form structs (Expr-F.Field x n) f = x f
found_form structs (Expr-F.Arrow x n) f = x f
found_form structs (Expr-F.Index x y) f = y (x f)

unfoldable pub found_expr : List (List ℕ) → Expr → Found → Found
found_expr structs e = fold-Expr (Found → Found) (found_form structs) e

-- what stands in expressions
abbrev pub found_exprs : List (List ℕ) → List Expr → Found → Found
found_exprs structs [] f = f
found_exprs structs (e ∷ es) f = found_exprs structs es (found_expr structs e f)

-- what stands in the value of a `return`
abbrev pub found_value : List (List ℕ) → Option Expr → Found → Found
found_value structs None f = f
found_value structs (Some e) f = found_expr structs e f

-- what stands in a simple statement
unfoldable pub found_action : List (List ℕ) → Action → Found → Found
found_action structs (action.Assign l e) f = found_expr structs e (found_expr structs l f)
found_action structs (action.Call x name es) f = found_exprs structs es f
found_action structs (action.Kalloc x t e) f = found_expr structs e (found_whole structs t f)
found_action structs (action.Kfree e) f = found_expr structs e f
found_action structs (action.Zero e) f = found_expr structs e f
found_action structs (action.Return e) f = found_value structs e f
found_action structs action.Empty f = f

-- each in turn
abbrev pub in_turn : List (Found → Found) → Found → Found
in_turn [] f = f
in_turn (x ∷ xs) f = in_turn xs (x f)

abbrev pub where_there : Option (Found → Found) → Found → Found
where_there None f = f
where_there (Some x) f = x f

-- what stands in a body and in a statement
abbrev pub found_body_form : List (List ℕ) → Body-F (Found → Found) (Found → Found) → Found → Found
found_body_form structs (Body-F.Block ss) f = in_turn ss f
found_body_form structs (Body-F.Single s) f = found_action structs s.action f

abbrev pub found_stmt_form : List (List ℕ) → Stmt-F (Found → Found) (Found → Found) → Found → Found
found_stmt_form structs (Stmt-F.Simple s) f = found_action structs s.action f
found_stmt_form structs (Stmt-F.If n e b o) f = where_there o (b (found_expr structs e f))
found_stmt_form structs (Stmt-F.While n e b) f = b (found_expr structs e f)

unfoldable pub found_body : List (List ℕ) → Body → Found → Found
found_body structs b = fold-Body (Found → Found) (Found → Found) (found_body_form structs) (found_stmt_form structs) b

unfoldable pub found_stmt : List (List ℕ) → Stmt → Found → Found
found_stmt structs s = fold-Stmt (Found → Found) (Found → Found) (found_body_form structs) (found_stmt_form structs) s

-- what stands in statements
abbrev pub found_stmts : List (List ℕ) → List Stmt → Found → Found
found_stmts structs [] f = f
found_stmts structs (s ∷ ss) f = found_stmts structs ss (found_stmt structs s f)

-- the elements of parameters and of locals
abbrev pub with_params : List (List ℕ) → List Element → List Param → List Element
with_params structs elements [] = elements
with_params structs elements (p ∷ ps) = with_params structs (with_types structs elements p.type_name) ps

abbrev pub with_locals : List (List ℕ) → List Element → List Local → List Element
with_locals structs elements [] = elements
with_locals structs elements (l ∷ ls) = with_locals structs (with_types structs elements l.type_name) ls

-- the type that a result begins with; `void` is no element
abbrev pub result_key : List (List ℕ) → ResultBase → Option Element
result_key structs result.Void = None
result_key structs (result.Base b) = base_key structs b

-- the elements of a head: its result and its parameters
unfoldable pub with_head : List (List ℕ) → List Element → Head → List Element
with_head structs elements h = with_params structs (with_stars elements (result_key structs h.result) h.stars) h.params

-- the elements of arms and of fields
abbrev pub with_arms : List (List ℕ) → List Element → List Arm → List Element
with_arms structs elements [] = elements
with_arms structs elements (a ∷ arms) = with_arms structs (with_types structs elements a.type_name) arms

unfoldable pub with_field : List (List ℕ) → List Element → Field → List Element
with_field structs elements (field.Plain n d) = with_types structs elements d.type_name
with_field structs elements (field.Union n arms name) = with_arms structs elements arms

abbrev pub with_fields : List (List ℕ) → List Element → List Field → List Element
with_fields structs elements [] = elements
with_fields structs elements (x ∷ xs) = with_fields structs (with_field structs elements x) xs

-- with the end of a function
abbrev pub ended : Found → Found
ended f = record { elements = f.elements; strings = f.strings; ends = f.ends ++ length f.strings ∷ [] }

abbrev pub found_elements : List Element → Found → Found
found_elements elements f = record { elements = elements; strings = f.strings; ends = f.ends }

-- what stands in a function
unfoldable pub found_function : List (List ℕ) → Function → Found → Found
found_function structs g f = ended (found_stmts structs g.body (found_elements (with_locals structs (with_head structs f.elements g.head) g.locals) f))

-- what stands in an item
unfoldable pub found_item : List (List ℕ) → Item → Found → Found
found_item structs (item.Struct s) f = found_elements (with_fields structs f.elements s.fields) f
found_item structs (item.Global g) f = found_whole structs g.declaration.type_name f
found_item structs (item.Function g) f = found_function structs g f
found_item structs (item.Prototype h) f = found_elements (with_head structs f.elements h) f

-- what stands in items
abbrev pub found_items : List (List ℕ) → List Item → Found → Found
found_items structs [] f = f
found_items structs (x ∷ xs) f = found_items structs xs (found_item structs x f)
