-- The types of elements that a text writes: an integer is not `void`, and what is nullterm points to `char`.
use Rattle.std.proofs.Common.{◌≡◌, ◌⊎◌, inl, inr, ℕ, zero, suc, ◌-◌, ◌^◌, Bool, true, false, nat_lt, slice_get, List, [], ◌∷◌, ◌++◌, map}
use Rattle.std.proofs.Common.{length, Option, Some, None, Ok, IfSome, if◌then◌else◌, refl, sym, ap, ◌∙◌, subst}
use Rattle.std.specs.List.{list_any}
use Rattle.c_tree.specs.declared.expressions.Expr.{Expr, map-Expr, roll-Expr}
use Rattle.c_tree.specs.declared.expressions.Expr.TheOpen as E
use Rattle.c_tree.specs.declared.expressions.Expr.TheFolds.{fold-roll-Expr, ind-Expr}
use Rattle.c_tree.specs.declared.items.Arm.{Arm}
use Rattle.c_tree.specs.declared.items.Field.{Field}
use Rattle.c_tree.specs.declared.items.Field.TheVariants as field
use Rattle.c_tree.specs.declared.items.Function.{Function}
use Rattle.c_tree.specs.declared.items.Head.{Head}
use Rattle.c_tree.specs.declared.items.Item.{Item}
use Rattle.c_tree.specs.declared.items.Item.TheVariants as item
use Rattle.c_tree.specs.declared.items.Local.{Local}
use Rattle.c_tree.specs.declared.items.Param.{Param}
use Rattle.c_tree.specs.declared.items.ResultBase.{ResultBase}
use Rattle.c_tree.specs.declared.items.ResultBase.TheVariants as result
use Rattle.c_tree.specs.declared.statements.Action.{Action}
use Rattle.c_tree.specs.declared.statements.Action.TheVariants as action
use Rattle.c_tree.specs.declared.statements.Body.{Body, map-Body, roll-Body}
use Rattle.c_tree.specs.declared.statements.Body.TheOpen.{Body-F, Stmt-F}
use Rattle.c_tree.specs.declared.statements.Body.TheFolds.{fold-roll-Body, fold-roll-Stmt, ind-Stmt}
use Rattle.c_tree.specs.declared.statements.Stmt.{Stmt, map-Stmt, roll-Stmt}
use Rattle.c_tree.specs.declared.items.Unit.{Unit as TextUnit}
use Rattle.c_tree.specs.declared.types.Base.{Base}
use Rattle.c_tree.specs.declared.types.Star.{Star}
use Rattle.c_tree.specs.declared.types.TypeName.{TypeName}
use Rattle.checked_tree.specs.declared.shapes.Scalar.TheVariants as scalar
use Rattle.deputy_types.specs.declared.element.Element.{Element}
use Rattle.deputy_types.specs.declared.element.Element.TheVariants as element
use Rattle.deputy_types.specs.declared.found.Found.{Found}
use Rattle.deputy_types.specs.Found.{with_element, with_stars, with_types, with_whole_stars, with_whole_type, found_type, found_whole}
use Rattle.deputy_types.specs.Found.{found_form, found_expr, found_exprs, found_value, found_action, in_turn, found_body_form}
use Rattle.deputy_types.specs.Found.{found_stmt_form, found_body, found_stmt, found_stmts, with_params, with_locals, result_key, with_head}
use Rattle.deputy_types.specs.Found.{with_arms, with_field, with_fields, found_elements, found_function, found_item, found_items}
use Rattle.deputy_types.specs.Found.{first_found, struct_names}
use Rattle.deputy_types.specs.declared.types.Types.{Types}
use Rattle.deputy_types.specs.Table.{Table}
use Rattle.deputy_types.specs.UnitLayout.{layout}
use Rattle.deputy_types.specs.Types.{base_key, star_key, same_element}
use Rattle.layout_laws.proofs.StructsDeclared.{layouts_of}
use Rattle.driver_safety.proofs.declarations.DeclaredShapes.{some_same, IsKeyOf, base_is, star_is}
use Rattle.driver_safety.proofs.declarations.StructMembers.{pushed_at, before_end}

abbrev pub AreKeys : List Element → Type 0
AreKeys keys = (n : ℕ) (key : Element) → slice_get keys n ≡ Some key → IsKeyOf keys key

-- a type among more types
grown : (keys : List Element) (more key : Element) → IsKeyOf keys key → IsKeyOf (keys ++ more ∷ []) key
grown keys more (element.Int s) is = is
grown keys more (element.Struct n) is = tt
grown keys more (element.Sentinel n) is = tt
grown keys more (element.Nullterm n) is = before_end keys more n (element.Int scalar.U8) is
grown keys more (element.Count n k) is = tt

key_added : (keys : List Element) (key : Element) → AreKeys keys → IsKeyOf keys key → AreKeys (keys ++ key ∷ [])
key_added keys key all is n x h = by (pushed_at keys key n x h)
  where
    by : (slice_get keys n ≡ Some x) ⊎ ((n ≡ length keys) × (key ≡ x)) → IsKeyOf (keys ++ key ∷ []) x
    by (inl e) = grown keys key x (all n x e)
    by (inr e) = grown keys key x (subst (IsKeyOf keys) e.1 is)

element_added : (keys : List Element) (key : Element) → AreKeys keys → IsKeyOf keys key → AreKeys (with_element keys key)
unfolding with_element
element_added keys key all is = by (list_any (same_element key) keys) (nat_lt (length keys) (2 ^ 32 - 1))
  where
    by : (a b : Bool) → AreKeys (if a then keys else (if b then keys ++ key ∷ [] else keys))
    by true b = all
    by false true = key_added keys key all is
    by false false = all

abbrev IsKeyIn : List Element → Element → Type 0
IsKeyIn keys key = IsKeyOf keys key

star_keys : (keys : List Element) (key : Element) (star : Star) → IfSome (star_key keys key star) (IsKeyIn keys)
star_keys keys key star = by (star_key keys key star) refl
  where
    by : (o : Option Element) → star_key keys key star ≡ o → IfSome o (IsKeyIn keys)
    by None e = tt
    by (Some k) e = star_is keys key k star e

base_keys : (keys : List Element) (structs : List (List ℕ)) (b : Base) → IfSome (base_key structs b) (IsKeyIn keys)
base_keys keys structs b = by (base_key structs b) refl
  where
    by : (o : Option Element) → base_key structs b ≡ o → IfSome o (IsKeyIn keys)
    by None e = tt
    by (Some k) e = base_is keys structs b k e

stars_added : (keys : List Element) (o : Option Element) (stars : List Star) → AreKeys keys → IfSome o (IsKeyIn keys)
    → AreKeys (with_stars keys o stars)
stars_added keys None stars all is = all
stars_added keys (Some key) [] all is = all
stars_added keys (Some key) (star ∷ stars) all is =
    stars_added (with_element keys key) (star_key (with_element keys key) key star) stars (element_added keys key all is)
    (star_keys (with_element keys key) key star)

types_added : (structs : List (List ℕ)) (keys : List Element) (t : TypeName) → AreKeys keys → AreKeys (with_types structs keys t)
unfolding with_types
types_added structs keys t all = stars_added keys (base_key structs t.base) t.stars all (base_keys keys structs t.base)

whole_added : (keys : List Element) (o : Option Element) (stars : List Star) → AreKeys keys → IfSome o (IsKeyIn keys)
    → AreKeys (with_whole_stars keys o stars)
whole_added keys None stars all is = all
whole_added keys (Some key) [] all is = element_added keys key all is
whole_added keys (Some key) (star ∷ stars) all is =
    whole_added (with_element keys key) (star_key (with_element keys key) key star) stars (element_added keys key all is)
    (star_keys (with_element keys key) key star)

whole_type_added : (structs : List (List ℕ)) (keys : List Element) (t : TypeName) → AreKeys keys → AreKeys (with_whole_type structs keys t)
unfolding with_whole_type
whole_type_added structs keys t all = whole_added keys (base_key structs t.base) t.stars all (base_keys keys structs t.base)

-- ---- what keeps the types counted
abbrev Keeps : (Found → Found) → Type 0
Keeps g = (f : Found) → AreKeys f.elements → AreKeys (g f).elements

module _ (structs : List (List ℕ)) where
  abbrev Kept : Type 0
  Kept = (e : Expr) × Keeps (found_expr structs e)

  level_keeps : (x : E.Expr-F Kept) → Keeps (found_form structs (map-Expr Kept (Found → Found) (λ k. found_expr structs k.0) x))
  level_keeps (E.Number n) f all = all
  level_keeps (E.Character c) f all = all
  level_keeps (E.String bytes k) f all = all
  level_keeps (E.Name n) f all = all
  level_keeps (E.Grouped x) f all = x.1 f all
  level_keeps E.Null f all = all
  level_keeps (E.Unary o x) f all = x.1 f all
  level_keeps (E.Binary o x y) f all = y.1 (found_expr structs x.0 f) (x.1 f all)
  level_keeps (E.Cast t x) f all = x.1 (found_type structs t f) (types_added structs f.elements t all)
  level_keeps (E.Sizeof t) f all = types_added structs f.elements t all
  level_keeps (E.Field x n) f all = x.1 f all
  level_keeps (E.Arrow x n) f all = x.1 f all
  level_keeps (E.Index x y) f all = y.1 (found_expr structs x.0 f) (x.1 f all)

  parts : E.Expr-F Kept → E.Expr-F Expr
  parts x = map-Expr Kept Expr (λ k. k.0) x

  same_form : (x : E.Expr-F Kept)
      → found_form structs (map-Expr Expr (Found → Found) (found_expr structs) (parts x)) ≡ found_form structs (map-Expr Kept (Found
      → Found) (λ k. found_expr structs k.0) x)
  unfolding parts
  same_form E.Null = refl
  same_form _ = refl

  form_at : (y : E.Expr-F Expr)
      → found_expr structs (roll-Expr y) ≡ found_form structs (map-Expr Expr (Found → Found) (found_expr structs) y)
  unfolding found_expr
  form_at y = fold-roll-Expr (Found → Found) (found_form structs) y

  expr_keeps : (e : Expr) → Keeps (found_expr structs e)
  unfolding parts
  expr_keeps = ind-Expr (λ e. Keeps (found_expr structs e)) (λ z x e. subst (λ l. Keeps (found_expr structs (roll-Expr l))) e (by x))
    where
      by : (x : E.Expr-F Kept) → Keeps (found_expr structs (roll-Expr (map-Expr Kept Expr (λ k. k.0) x)))
      by x = subst Keeps (sym (form_at (parts x) ∙ same_form x)) (level_keeps x)

  exprs_keep : (es : List Expr) → Keeps (found_exprs structs es)
  exprs_keep [] f all = all
  exprs_keep (e ∷ es) f all = exprs_keep es (found_expr structs e f) (expr_keeps e f all)

  value_keeps : (e : Option Expr) → Keeps (found_value structs e)
  value_keeps None f all = all
  value_keeps (Some e) f all = expr_keeps e f all

  action_keeps : (a : Action) → Keeps (found_action structs a)
  unfolding found_action
  action_keeps (action.Assign l e) f all = expr_keeps e (found_expr structs l f) (expr_keeps l f all)
  action_keeps (action.Call x name es) f all = exprs_keep es f all
  action_keeps (action.Kalloc x t e) f all = expr_keeps e (found_whole structs t f) (whole_type_added structs f.elements t all)
  action_keeps (action.Kfree e) f all = expr_keeps e f all
  action_keeps (action.Zero e) f all = expr_keeps e f all
  action_keeps (action.Return e) f all = value_keeps e f all
  action_keeps action.Empty f all = all

  -- ---- statements
  abbrev KeptBody : Type 0
  KeptBody = (b : Body) × Keeps (found_body structs b)

  abbrev KeptStmt : Type 0
  KeptStmt = (s : Stmt) × Keeps (found_stmt structs s)

  body_at : (y : Body-F Body Stmt)
      → found_body structs (roll-Body y) ≡ found_body_form structs (map-Body Body Stmt (Found → Found) (Found
      → Found) (found_body structs) (found_stmt structs) y)
  unfolding found_body found_stmt
  body_at y = fold-roll-Body (Found → Found) (Found → Found) (found_body_form structs) (found_stmt_form structs) y

  stmt_at : (y : Stmt-F Body Stmt)
      → found_stmt structs (roll-Stmt y) ≡ found_stmt_form structs (map-Stmt Body Stmt (Found → Found) (Found
      → Found) (found_body structs) (found_stmt structs) y)
  unfolding found_body found_stmt
  stmt_at y = fold-roll-Stmt (Found → Found) (Found → Found) (found_body_form structs) (found_stmt_form structs) y

  turns_keep : (ss : List KeptStmt) → Keeps (in_turn (map (found_stmt structs) (map (λ (k : KeptStmt). k.0) ss)))
  turns_keep [] f all = all
  turns_keep (s ∷ ss) f all = turns_keep ss (found_stmt structs s.0 f) (s.1 f all)

  body_form_keeps : (x : Body-F KeptBody KeptStmt)
      → Keeps (found_body_form structs (map-Body Body Stmt (Found → Found) (Found
      → Found) (found_body structs) (found_stmt structs) (map-Body KeptBody KeptStmt Body Stmt (λ k. k.0) (λ k. k.0) x)))
  body_form_keeps (Body-F.Block ss) f all = turns_keep ss f all
  body_form_keeps (Body-F.Single s) f all = action_keeps s.action f all

  stmt_form_keeps : (x : Stmt-F KeptBody KeptStmt)
      → Keeps (found_stmt_form structs (map-Stmt Body Stmt (Found → Found) (Found
      → Found) (found_body structs) (found_stmt structs) (map-Stmt KeptBody KeptStmt Body Stmt (λ k. k.0) (λ k. k.0) x)))
  stmt_form_keeps (Stmt-F.Simple s) f all = action_keeps s.action f all
  stmt_form_keeps (Stmt-F.If n e b None) f all = b.1 (found_expr structs e f) (expr_keeps e f all)
  stmt_form_keeps (Stmt-F.If n e b (Some o)) f all = o.1 (found_body structs b.0 (found_expr structs e f))
      (b.1 (found_expr structs e f) (expr_keeps e f all))
  stmt_form_keeps (Stmt-F.While n e b) f all = b.1 (found_expr structs e f) (expr_keeps e f all)

  stmt_keeps : (s : Stmt) → Keeps (found_stmt structs s)
  stmt_keeps = ind-Stmt (λ b. Keeps (found_body structs b)) (λ s. Keeps (found_stmt structs s))
      (λ z x is. subst (λ (l : Body-F Body Stmt). Keeps (found_body structs (roll-Body l))) is (by_body x))
      (λ z x is. subst (λ (l : Stmt-F Body Stmt). Keeps (found_stmt structs (roll-Stmt l))) is (by_stmt x))
    where
      by_body : (x : Body-F KeptBody KeptStmt)
          → Keeps (found_body structs (roll-Body (map-Body KeptBody KeptStmt Body Stmt (λ k. k.0) (λ k. k.0) x)))
      by_body x = subst (λ (p : Found
          → Found). Keeps p) (sym (body_at (map-Body KeptBody KeptStmt Body Stmt (λ k. k.0) (λ k. k.0) x))) (body_form_keeps x)

      by_stmt : (x : Stmt-F KeptBody KeptStmt)
          → Keeps (found_stmt structs (roll-Stmt (map-Stmt KeptBody KeptStmt Body Stmt (λ k. k.0) (λ k. k.0) x)))
      by_stmt x = subst (λ (p : Found
          → Found). Keeps p) (sym (stmt_at (map-Stmt KeptBody KeptStmt Body Stmt (λ k. k.0) (λ k. k.0) x))) (stmt_form_keeps x)

  stmts_keep : (ss : List Stmt) → Keeps (found_stmts structs ss)
  stmts_keep [] f all = all
  stmts_keep (s ∷ ss) f all = stmts_keep ss (found_stmt structs s f) (stmt_keeps s f all)

  -- ---- declarations
  params_added : (keys : List Element) (ps : List Param) → AreKeys keys → AreKeys (with_params structs keys ps)
  params_added keys [] all = all
  params_added keys (p ∷ ps) all = params_added (with_types structs keys p.type_name) ps (types_added structs keys p.type_name all)

  locals_added : (keys : List Element) (ls : List Local) → AreKeys keys → AreKeys (with_locals structs keys ls)
  locals_added keys [] all = all
  locals_added keys (l ∷ ls) all = locals_added (with_types structs keys l.type_name) ls (types_added structs keys l.type_name all)

  result_is_key : (keys : List Element) (r : ResultBase) → IfSome (result_key structs r) (IsKeyIn keys)
  result_is_key keys result.Void = tt
  result_is_key keys (result.Base b) = base_keys keys structs b

  head_added : (keys : List Element) (h : Head) → AreKeys keys → AreKeys (with_head structs keys h)
  unfolding with_head
  head_added keys h all = params_added (with_stars keys (result_key structs h.result) h.stars) h.params
      (stars_added keys (result_key structs h.result) h.stars all (result_is_key keys h.result))

  arms_added : (keys : List Element) (arms : List Arm) → AreKeys keys → AreKeys (with_arms structs keys arms)
  arms_added keys [] all = all
  arms_added keys (a ∷ arms) all = arms_added (with_types structs keys a.type_name) arms (types_added structs keys a.type_name all)

  field_added : (keys : List Element) (x : Field) → AreKeys keys → AreKeys (with_field structs keys x)
  unfolding with_field
  field_added keys (field.Plain n d) all = types_added structs keys d.type_name all
  field_added keys (field.Union n arms name) all = arms_added keys arms all

  fields_added : (keys : List Element) (xs : List Field) → AreKeys keys → AreKeys (with_fields structs keys xs)
  fields_added keys [] all = all
  fields_added keys (x ∷ xs) all = fields_added (with_field structs keys x) xs (field_added keys x all)

  function_keeps : (g : Function) → Keeps (found_function structs g)
  unfolding found_function
  function_keeps g f all =
      let keys = with_locals structs (with_head structs f.elements g.head) g.locals in
      stmts_keep g.body (found_elements keys f)
      (locals_added (with_head structs f.elements g.head) g.locals (head_added f.elements g.head all))

  item_keeps : (x : Item) → Keeps (found_item structs x)
  unfolding found_item
  item_keeps (item.Struct s) f all = fields_added f.elements s.fields all
  item_keeps (item.Global g) f all = whole_type_added structs f.elements g.declaration.type_name all
  item_keeps (item.Function g) f all = function_keeps g f all
  item_keeps (item.Prototype h) f all = head_added f.elements h all

  items_keep : (xs : List Item) → Keeps (found_items structs xs)
  items_keep [] f all = all
  items_keep (x ∷ xs) f all = items_keep xs (found_item structs x f) (item_keeps x f all)

first_keys : AreKeys first_found.elements
first_keys zero key h = subst (IsKeyOf first_found.elements) (some_same (element.Int scalar.U8) key h) tt
first_keys (suc n) key h = absurd cc

-- the types of elements that a text writes
pub found_types : (u : TextUnit) (t : Table) → layout u ≡ Ok t → (n : ℕ) (key : Element) → slice_get t.types.elements n ≡ Some key
    → IsKeyOf t.types.elements key
found_types u t h n key e =
    subst (λ (l : List Element). AreKeys l) (sym (ap (λ (y : Types). y.elements) (layouts_of u t h).types))
    (items_keep (struct_names u.items []) u.items first_found first_keys) n key e
