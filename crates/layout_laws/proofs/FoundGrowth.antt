-- What is found in a text is found behind what was found before it: the types of elements, the strings, and where each function's strings end.
use Rattle.std.proofs.Common.{◌≡◌, ℕ, ◌-◌, ◌^◌, nat_lt, Bool, true, false, List, [], ◌∷◌, ◌++◌, map, length, Option, Some, None, if◌then◌else◌, refl, sym, ◌∙◌, ap, subst, option_map}
use Rattle.std.specs.List.{list_any}
use Rattle.c_tree.specs.declared.expressions.Expr.{Expr, roll-Expr, map-Expr}
use Rattle.c_tree.specs.declared.expressions.Expr.TheOpen.{Expr-F}
use Rattle.c_tree.specs.declared.expressions.Expr.TheFolds.{fold-roll-Expr, ind-Expr}
use Rattle.c_tree.specs.declared.items.Arm.{Arm}
use Rattle.c_tree.specs.declared.items.Field.{Field}
use Rattle.c_tree.specs.declared.items.Field.TheVariants as field
use Rattle.c_tree.specs.declared.items.Function.{Function}
use Rattle.c_tree.specs.declared.items.Head.{Head}
use Rattle.c_tree.specs.declared.items.Item.{Item}
use Rattle.c_tree.specs.declared.items.Item.TheVariants as item
use Rattle.c_tree.specs.declared.items.Local.{Local}
use Rattle.c_tree.specs.declared.items.Param.{Param}
use Rattle.c_tree.specs.declared.statements.Action.{Action}
use Rattle.c_tree.specs.declared.statements.Action.TheVariants as action
use Rattle.c_tree.specs.declared.statements.Body.{Body, roll-Body, map-Body}
use Rattle.c_tree.specs.declared.statements.Body.TheOpen.{Body-F, Stmt-F}
use Rattle.c_tree.specs.declared.statements.Body.TheFolds.{fold-roll-Body, fold-roll-Stmt, ind-Stmt}
use Rattle.c_tree.specs.declared.statements.Stmt.{Stmt, roll-Stmt, map-Stmt}
use Rattle.c_tree.specs.declared.types.Star.{Star}
use Rattle.c_tree.specs.declared.types.TypeName.{TypeName}
use Rattle.deputy_types.specs.declared.element.Element.{Element}
use Rattle.deputy_types.specs.declared.found.Found.{Found}
use Rattle.deputy_types.specs.Found.{with_element, with_stars, with_types, with_whole_stars, with_whole_type, found_type, found_whole, found_string, found_form, found_expr, found_exprs, found_value, found_action, in_turn, where_there, found_body_form, found_stmt_form, found_body, found_stmt, found_stmts, with_params, with_locals, result_key, with_head, with_arms, with_field, with_fields, found_elements, found_function, found_item, found_items}
use Rattle.deputy_types.specs.Types.{base_key, star_key, same_element}
use Rattle.layout_laws.proofs.Lists.{Extends, extends_itself, extends_push, extends_twice}

-- ---- types of elements
element_pushed : (a b : Bool) (xs : List Element) (x : Element) → Extends xs (if a then xs else (if b then xs ++ x ∷ [] else xs))
element_pushed true b xs x = extends_itself xs
element_pushed false true xs x = extends_push xs (xs ++ x ∷ []) x refl
element_pushed false false xs x = extends_itself xs

element_extends : (xs : List Element) (x : Element) → Extends xs (with_element xs x)
unfolding with_element
element_extends xs x = element_pushed (list_any (same_element x) xs) (nat_lt (length xs) (2 ^ 32 - 1)) xs x

stars_extend : (xs : List Element) (key : Option Element) (stars : List Star) → Extends xs (with_stars xs key stars)
stars_extend xs None stars = extends_itself xs
stars_extend xs (Some key) [] = extends_itself xs
stars_extend xs (Some key) (star ∷ stars) =
    let next : List Element = with_element xs key in
    extends_twice xs next (with_stars next (star_key next key star) stars) (element_extends xs key) (stars_extend next (star_key next key star) stars)

whole_stars_extend : (xs : List Element) (key : Option Element) (stars : List Star) → Extends xs (with_whole_stars xs key stars)
whole_stars_extend xs None stars = extends_itself xs
whole_stars_extend xs (Some key) [] = element_extends xs key
whole_stars_extend xs (Some key) (star ∷ stars) =
    let next : List Element = with_element xs key in
    extends_twice xs next (with_whole_stars next (star_key next key star) stars) (element_extends xs key) (whole_stars_extend next (star_key next key star) stars)

types_extend : (structs : List (List ℕ)) (xs : List Element) (t : TypeName) → Extends xs (with_types structs xs t)
unfolding with_types
types_extend structs xs t = stars_extend xs (base_key structs t.base) t.stars

whole_type_extends : (structs : List (List ℕ)) (xs : List Element) (t : TypeName) → Extends xs (with_whole_type structs xs t)
unfolding with_whole_type
whole_type_extends structs xs t = whole_stars_extend xs (base_key structs t.base) t.stars

params_extend : (structs : List (List ℕ)) (xs : List Element) (ps : List Param) → Extends xs (with_params structs xs ps)
params_extend structs xs [] = extends_itself xs
params_extend structs xs (p ∷ ps) =
    let next : List Element = with_types structs xs p.type_name in
    extends_twice xs next (with_params structs next ps) (types_extend structs xs p.type_name) (params_extend structs next ps)

locals_extend : (structs : List (List ℕ)) (xs : List Element) (ls : List Local) → Extends xs (with_locals structs xs ls)
locals_extend structs xs [] = extends_itself xs
locals_extend structs xs (l ∷ ls) =
    let next : List Element = with_types structs xs l.type_name in
    extends_twice xs next (with_locals structs next ls) (types_extend structs xs l.type_name) (locals_extend structs next ls)

head_extends : (structs : List (List ℕ)) (xs : List Element) (h : Head) → Extends xs (with_head structs xs h)
unfolding with_head
head_extends structs xs h =
    let next : List Element = with_stars xs (result_key structs h.result) h.stars in
    extends_twice xs next (with_params structs next h.params) (stars_extend xs (result_key structs h.result) h.stars) (params_extend structs next h.params)

arms_extend : (structs : List (List ℕ)) (xs : List Element) (arms : List Arm) → Extends xs (with_arms structs xs arms)
arms_extend structs xs [] = extends_itself xs
arms_extend structs xs (a ∷ arms) =
    let next : List Element = with_types structs xs a.type_name in
    extends_twice xs next (with_arms structs next arms) (types_extend structs xs a.type_name) (arms_extend structs next arms)

field_extends : (structs : List (List ℕ)) (xs : List Element) (x : Field) → Extends xs (with_field structs xs x)
unfolding with_field
field_extends structs xs (field.Plain n d) = types_extend structs xs d.type_name
field_extends structs xs (field.Union n arms name) = arms_extend structs xs arms

fields_extend : (structs : List (List ℕ)) (xs : List Element) (fs : List Field) → Extends xs (with_fields structs xs fs)
fields_extend structs xs [] = extends_itself xs
fields_extend structs xs (f ∷ fs) =
    let next : List Element = with_field structs xs f in
    extends_twice xs next (with_fields structs next fs) (field_extends structs xs f) (fields_extend structs next fs)

-- ---- what is found
pub record Grows (f g : Found) : Type 0 where
  pub elements : Extends f.elements g.elements
  pub strings : Extends f.strings g.strings
  pub ends : g.ends ≡ f.ends

abbrev IsGrowing : (Found → Found) → Type 0
IsGrowing p = (f : Found) → Grows f (p f)

nothing_grows : (f : Found) → Grows f f
nothing_grows f = record { elements = extends_itself f.elements; strings = extends_itself f.strings; ends = refl }

grows_twice : (f g h : Found) → Grows f g → Grows g h → Grows f h
grows_twice f g h a b = record {
  elements = extends_twice f.elements g.elements h.elements a.elements b.elements;
  strings = extends_twice f.strings g.strings h.strings a.strings b.strings;
  ends = b.ends ∙ a.ends;
}

-- two steps, one after the other
then_grows : (p q : Found → Found) → IsGrowing p → IsGrowing q → IsGrowing (λ f. q (p f))
then_grows p q a b f = grows_twice f (p f) (q (p f)) (a f) (b (p f))

elements_grow : (f : Found) (xs : List Element) → Extends f.elements xs → Grows f (found_elements xs f)
elements_grow f xs e = record { elements = e; strings = extends_itself f.strings; ends = refl }

type_grows : (structs : List (List ℕ)) (t : TypeName) → IsGrowing (found_type structs t)
type_grows structs t f = elements_grow f (with_types structs f.elements t) (types_extend structs f.elements t)

whole_grows : (structs : List (List ℕ)) (t : TypeName) → IsGrowing (found_whole structs t)
whole_grows structs t f = elements_grow f (with_whole_type structs f.elements t) (whole_type_extends structs f.elements t)

string_grows : (bytes : List ℕ) → IsGrowing (found_string bytes)
string_grows bytes f = record { elements = extends_itself f.elements; strings = extends_push f.strings (f.strings ++ bytes ∷ []) bytes refl; ends = refl }

-- ---- expressions
abbrev GrowingExpr : List (List ℕ) → Type 0
GrowingExpr structs = (e : Expr) × IsGrowing (found_expr structs e)

expr_at : (structs : List (List ℕ)) (y : Expr-F Expr) → found_expr structs (roll-Expr y) ≡ found_form structs (map-Expr Expr (Found → Found) (found_expr structs) y)
unfolding found_expr
expr_at structs y = fold-roll-Expr (Found → Found) (found_form structs) y

form_grows : (structs : List (List ℕ)) (x : Expr-F (GrowingExpr structs))
    → IsGrowing (found_form structs (map-Expr Expr (Found → Found) (found_expr structs) (map-Expr (GrowingExpr structs) Expr (λ k. k.0) x)))
form_grows structs (Expr-F.Number n) f = nothing_grows f
form_grows structs (Expr-F.Character c) f = nothing_grows f
form_grows structs (Expr-F.String bytes k) f = string_grows bytes f
form_grows structs (Expr-F.Name n) f = nothing_grows f
form_grows structs (Expr-F.Grouped a) f = a.1 f
form_grows structs Expr-F.Null f = nothing_grows f
form_grows structs (Expr-F.Unary o a) f = a.1 f
form_grows structs (Expr-F.Binary o a b) f = then_grows (found_expr structs a.0) (found_expr structs b.0) a.1 b.1 f
form_grows structs (Expr-F.Cast t a) f = then_grows (found_type structs t) (found_expr structs a.0) (type_grows structs t) a.1 f
form_grows structs (Expr-F.Sizeof t) f = type_grows structs t f
form_grows structs (Expr-F.Field a n) f = a.1 f
form_grows structs (Expr-F.Arrow a n) f = a.1 f
form_grows structs (Expr-F.Index a b) f = then_grows (found_expr structs a.0) (found_expr structs b.0) a.1 b.1 f

expr_grows : (structs : List (List ℕ)) (e : Expr) → IsGrowing (found_expr structs e)
expr_grows structs = ind-Expr (λ e. IsGrowing (found_expr structs e)) (λ z x is. subst (λ (l : Expr-F Expr). IsGrowing (found_expr structs (roll-Expr l))) is (by x))
  where
    by : (x : Expr-F (GrowingExpr structs)) → IsGrowing (found_expr structs (roll-Expr (map-Expr (GrowingExpr structs) Expr (λ k. k.0) x)))
    by x = subst (λ (p : Found → Found). IsGrowing p) (sym (expr_at structs (map-Expr (GrowingExpr structs) Expr (λ k. k.0) x))) (form_grows structs x)

exprs_grow : (structs : List (List ℕ)) (es : List Expr) → IsGrowing (found_exprs structs es)
exprs_grow structs [] f = nothing_grows f
exprs_grow structs (e ∷ es) f = then_grows (found_expr structs e) (found_exprs structs es) (expr_grows structs e) (exprs_grow structs es) f

value_grows : (structs : List (List ℕ)) (o : Option Expr) → IsGrowing (found_value structs o)
value_grows structs None f = nothing_grows f
value_grows structs (Some e) f = expr_grows structs e f

-- ---- statements
action_grows : (structs : List (List ℕ)) (a : Action) → IsGrowing (found_action structs a)
unfolding found_action
action_grows structs (action.Assign l e) f = then_grows (found_expr structs l) (found_expr structs e) (expr_grows structs l) (expr_grows structs e) f
action_grows structs (action.Call x name es) f = exprs_grow structs es f
action_grows structs (action.Kalloc x t e) f = then_grows (found_whole structs t) (found_expr structs e) (whole_grows structs t) (expr_grows structs e) f
action_grows structs (action.Kfree e) f = expr_grows structs e f
action_grows structs (action.Zero e) f = expr_grows structs e f
action_grows structs (action.Return o) f = value_grows structs o f
action_grows structs action.Empty f = nothing_grows f

abbrev BodyGrows : List (List ℕ) → Body → Type 0
BodyGrows structs b = IsGrowing (found_body structs b)

abbrev StmtGrows : List (List ℕ) → Stmt → Type 0
StmtGrows structs s = IsGrowing (found_stmt structs s)

abbrev GrowingBody : List (List ℕ) → Type 0
GrowingBody structs = (b : Body) × BodyGrows structs b

abbrev GrowingStmt : List (List ℕ) → Type 0
GrowingStmt structs = (s : Stmt) × StmtGrows structs s

body_at : (structs : List (List ℕ)) (y : Body-F Body Stmt)
    → found_body structs (roll-Body y) ≡ found_body_form structs (map-Body Body Stmt (Found → Found) (Found → Found) (found_body structs) (found_stmt structs) y)
unfolding found_body found_stmt
body_at structs y = fold-roll-Body (Found → Found) (Found → Found) (found_body_form structs) (found_stmt_form structs) y

stmt_at : (structs : List (List ℕ)) (y : Stmt-F Body Stmt)
    → found_stmt structs (roll-Stmt y) ≡ found_stmt_form structs (map-Stmt Body Stmt (Found → Found) (Found → Found) (found_body structs) (found_stmt structs) y)
unfolding found_body found_stmt
stmt_at structs y = fold-roll-Stmt (Found → Found) (Found → Found) (found_body_form structs) (found_stmt_form structs) y

turns_grow : (structs : List (List ℕ)) (ss : List (GrowingStmt structs)) → IsGrowing (in_turn (map (found_stmt structs) (map (λ (k : GrowingStmt structs). k.0) ss)))
turns_grow structs [] f = nothing_grows f
turns_grow structs (s ∷ ss) f =
    then_grows (found_stmt structs s.0) (in_turn (map (found_stmt structs) (map (λ (k : GrowingStmt structs). k.0) ss))) s.1 (turns_grow structs ss) f

body_form_grows : (structs : List (List ℕ)) (x : Body-F (GrowingBody structs) (GrowingStmt structs))
    → IsGrowing (found_body_form structs (map-Body Body Stmt (Found → Found) (Found → Found) (found_body structs) (found_stmt structs) (map-Body (GrowingBody structs) (GrowingStmt structs) Body Stmt (λ k. k.0) (λ k. k.0) x)))
body_form_grows structs (Body-F.Block ss) f = turns_grow structs ss f
body_form_grows structs (Body-F.Single s) f = action_grows structs s.action f

-- what may be there: the other branch
other_grows : (structs : List (List ℕ)) (o : Option (GrowingBody structs)) → IsGrowing (where_there (option_map (found_body structs) (option_map (λ (k : GrowingBody structs). k.0) o)))
other_grows structs None f = nothing_grows f
other_grows structs (Some b) f = b.1 f

stmt_form_grows : (structs : List (List ℕ)) (x : Stmt-F (GrowingBody structs) (GrowingStmt structs))
    → IsGrowing (found_stmt_form structs (map-Stmt Body Stmt (Found → Found) (Found → Found) (found_body structs) (found_stmt structs) (map-Stmt (GrowingBody structs) (GrowingStmt structs) Body Stmt (λ k. k.0) (λ k. k.0) x)))
stmt_form_grows structs (Stmt-F.Simple s) f = action_grows structs s.action f
stmt_form_grows structs (Stmt-F.If n e b None) f = then_grows (found_expr structs e) (found_body structs b.0) (expr_grows structs e) b.1 f
stmt_form_grows structs (Stmt-F.If n e b (Some o)) f =
    then_grows (λ g. found_body structs b.0 (found_expr structs e g)) (found_body structs o.0) (then_grows (found_expr structs e) (found_body structs b.0) (expr_grows structs e) b.1) o.1 f
stmt_form_grows structs (Stmt-F.While n e b) f = then_grows (found_expr structs e) (found_body structs b.0) (expr_grows structs e) b.1 f

stmt_grows : (structs : List (List ℕ)) (s : Stmt) → StmtGrows structs s
stmt_grows structs = ind-Stmt (BodyGrows structs) (StmtGrows structs)
    (λ z x is. subst (λ (l : Body-F Body Stmt). BodyGrows structs (roll-Body l)) is (by_body x))
    (λ z x is. subst (λ (l : Stmt-F Body Stmt). StmtGrows structs (roll-Stmt l)) is (by_stmt x))
  where
    by_body : (x : Body-F (GrowingBody structs) (GrowingStmt structs)) → BodyGrows structs (roll-Body (map-Body (GrowingBody structs) (GrowingStmt structs) Body Stmt (λ k. k.0) (λ k. k.0) x))
    by_body x = subst (λ (p : Found → Found). IsGrowing p) (sym (body_at structs (map-Body (GrowingBody structs) (GrowingStmt structs) Body Stmt (λ k. k.0) (λ k. k.0) x))) (body_form_grows structs x)

    by_stmt : (x : Stmt-F (GrowingBody structs) (GrowingStmt structs)) → StmtGrows structs (roll-Stmt (map-Stmt (GrowingBody structs) (GrowingStmt structs) Body Stmt (λ k. k.0) (λ k. k.0) x))
    by_stmt x = subst (λ (p : Found → Found). IsGrowing p) (sym (stmt_at structs (map-Stmt (GrowingBody structs) (GrowingStmt structs) Body Stmt (λ k. k.0) (λ k. k.0) x))) (stmt_form_grows structs x)

stmts_grow : (structs : List (List ℕ)) (ss : List Stmt) → IsGrowing (found_stmts structs ss)
stmts_grow structs [] f = nothing_grows f
stmts_grow structs (s ∷ ss) f = then_grows (found_stmt structs s) (found_stmts structs ss) (stmt_grows structs s) (stmts_grow structs ss) f

-- ---- items
-- what was found before the end of a function
pub record FindsFunction (f g : Found) : Type 0 where
  pub elements : Extends f.elements g.elements
  pub strings : Extends f.strings g.strings
  pub ends : g.ends ≡ f.ends ++ length g.strings ∷ []

pub function_found : (structs : List (List ℕ)) (g : Function) (f : Found) → FindsFunction f (found_function structs g f)
unfolding found_function
function_found structs g f =
    let elements : List Element = with_locals structs (with_head structs f.elements g.head) g.locals in
    let declared : Extends f.elements elements =
    extends_twice f.elements (with_head structs f.elements g.head) elements (head_extends structs f.elements g.head) (locals_extend structs (with_head structs f.elements g.head) g.locals) in
    let body = grows_twice f (found_elements elements f) (found_stmts structs g.body (found_elements elements f)) (elements_grow f elements declared) (stmts_grow structs g.body (found_elements elements f)) in
    record { elements = body.elements; strings = body.strings; ends = ap (λ (l : List ℕ). l ++ length (found_stmts structs g.body (found_elements elements f)).strings ∷ []) body.ends }

pub struct_found : (structs : List (List ℕ)) (fs : List Field) (f : Found) → Grows f (found_elements (with_fields structs f.elements fs) f)
struct_found structs fs f = elements_grow f (with_fields structs f.elements fs) (fields_extend structs f.elements fs)

pub global_found : (structs : List (List ℕ)) (t : TypeName) (f : Found) → Grows f (found_whole structs t f)
global_found structs t f = whole_grows structs t f

pub prototype_found : (structs : List (List ℕ)) (h : Head) (f : Found) → Grows f (found_elements (with_head structs f.elements h) f)
prototype_found structs h f = elements_grow f (with_head structs f.elements h) (head_extends structs f.elements h)

-- what is found in all items
pub record FindsMore (f g : Found) : Type 0 where
  pub elements : Extends f.elements g.elements
  pub strings : Extends f.strings g.strings
  pub ends : Extends f.ends g.ends

from_grows : (f g : Found) → Grows f g → FindsMore f g
from_grows f g h = record { elements = h.elements; strings = h.strings; ends = subst (λ (l : List ℕ). Extends f.ends l) (sym h.ends) (extends_itself f.ends) }

item_found : (structs : List (List ℕ)) (x : Item) (f : Found) → FindsMore f (found_item structs x f)
unfolding found_item
item_found structs (item.Struct s) f = from_grows f _ (struct_found structs s.fields f)
item_found structs (item.Global g) f = from_grows f _ (global_found structs g.declaration.type_name f)
item_found structs (item.Function g) f =
    let h = function_found structs g f in
    record { elements = h.elements; strings = h.strings; ends = extends_push f.ends (found_function structs g f).ends (length (found_function structs g f).strings) h.ends }
item_found structs (item.Prototype h) f = from_grows f _ (prototype_found structs h f)

pub items_found : (structs : List (List ℕ)) (xs : List Item) (f : Found) → FindsMore f (found_items structs xs f)
items_found structs [] f = from_grows f f (nothing_grows f)
items_found structs (x ∷ xs) f =
    let a = item_found structs x f in
    let b = items_found structs xs (found_item structs x f) in
    let out : Found = found_items structs xs (found_item structs x f) in
    record {
      elements = extends_twice f.elements (found_item structs x f).elements out.elements a.elements b.elements;
      strings = extends_twice f.strings (found_item structs x f).strings out.strings a.strings b.strings;
      ends = extends_twice f.ends (found_item structs x f).ends out.ends a.ends b.ends;
    }
