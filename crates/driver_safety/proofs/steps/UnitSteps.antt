-- The functions of an accepted unit keep what they owe: each statement of each body runs, each body ends with a return, and a fresh frame
-- is good. So no step of a good activity over a good memory is wild, and what it leaves is good.
use Rattle.std.proofs.Common.{◌≡◌, ℕ, zero, suc, ◌+◌, ◌<◌, Bool, true, false, not, List, [], ◌∷◌, ◌++◌, map, length, ℤ}
use Rattle.std.proofs.Common.{Option, Some, None, Result, Ok, Err, All, Contains, slice_get, if◌then◌else◌, refl, sym, ap}
use Rattle.std.proofs.Common.{◌∙◌, subst, append-nil, append_assoc, arith}
use Rattle.std.proofs.lemmas.List.{length-append}
use Rattle.std.proofs.lemmas.List.Elements.{All-head, All-tail}
use Rattle.sd_base.specs.Blocks.{Block}
use Rattle.c_tree.specs.declared.expressions.Expr.{Expr}
use Rattle.c_tree.specs.declared.expressions.Expr.TheVariants as expression
use Rattle.c_tree.specs.declared.items.ResultBase.{ResultBase}
use Rattle.c_tree.specs.declared.items.ResultBase.TheVariants as result
use Rattle.c_tree.specs.declared.types.Star.{Star}
use Rattle.c_tree.specs.declared.words.Suffix.TheVariants as suffix
use Rattle.c_tree.specs.declared.items.Function.{Function}
use Rattle.c_tree.specs.declared.items.Item.{Item}
use Rattle.c_tree.specs.declared.items.Item.TheVariants as item
use Rattle.c_tree.specs.declared.items.Unit.{Unit as TextUnit}
use Rattle.c_tree.specs.declared.limits.LimitKind.TheVariants.{Locals}
use Rattle.c_tree.specs.declared.statements.Action.{Action}
use Rattle.c_tree.specs.declared.statements.Action.TheVariants as action
use Rattle.c_tree.specs.declared.statements.Stmt.{Stmt}
use Rattle.c_tree.specs.ItemGrammar.{added_return, returned as text_returned}
use Rattle.c_tree.specs.ShortUnit.{IsShortUnit}
use Rattle.c_tree.specs.Slots.{locals_of}
use Rattle.c_tree.proofs.ShortFunctions.{statements_short}
use Rattle.c_tree.proofs.ShortParts.{IsShortStatement, function_short}
use Rattle.checked_tree.specs.declared.shapes.Shape.{Shape}
use Rattle.checked_tree.specs.declared.statements.CheckedStmt.{CheckedStmt, out-CheckedStmt}
use Rattle.checked_tree.specs.declared.statements.CheckedStmt.TheVariants as statement
use Rattle.checked_tree.specs.declared.units.CheckedFn.{CheckedFn}
use Rattle.checked_tree.specs.declared.units.CheckedUnit.{CheckedUnit}
use Rattle.checked_tree.specs.Step.{first_locals}
use Rattle.deputy_types.specs.Table.{Table}
use Rattle.deputy_types.specs.UnitLayout.{functions_of, layout}
use Rattle.deputy_types.proofs.Inversions.{some_then}
use Rattle.deputy_rules.specs.declared.asked.Asked.{Asked}
use Rattle.deputy_rules.specs.declared.signature.Returned.{Returned}
use Rattle.deputy_rules.specs.declared.signature.Returned.TheVariants as returned
use Rattle.deputy_rules.specs.Checking.{Fault, NoRule, Limit, Checking, afterwards, with_outcome, in_turn}
use Rattle.deputy_rules.specs.Calls.{pass, passed_argument, coerce_value}
use Rattle.deputy_rules.specs.Context.{Context}
use Rattle.deputy_rules.specs.Deriving.{bind, lift}
use Rattle.deputy_rules.specs.Expressions.{derive}
use Rattle.deputy_rules.specs.Functions.{context_of, text_of, no_checks, checked_function, finished}
use Rattle.deputy_rules.specs.Functions.{check_statements, check_declared, check_result, check_function, wrong_prototype, behind_prototype}
use Rattle.deputy_rules.specs.Functions.{behind_function, check_items, checked_with, checked}
use Rattle.deputy_rules.specs.Heads.{SeenText, parameter_shapes, result_of, slot_shapes, function_stands, is_over}
use Rattle.deputy_rules.specs.Heads.{wrong_declaration}
use Rattle.deputy_rules.specs.Numbering.{Numbered}
use Rattle.deputy_rules.specs.Values.{of_slots}
use Rattle.deputy_rules.specs.Statements.{Home, act, simple, statement_context, numbered_at, with_numbers, return_from}
use Rattle.deputy_rules.specs.Statements.{return_value, check_statement}
use Rattle.light_checks.specs.Standing.{Stands}
use Rattle.light_checks.proofs.ShortUnits.{behind}
use Rattle.driver_safety.specs.Goodness.{IsFrame as IsFrame'}
use Rattle.driver_safety.specs.Activities.{Terms, Runs, AllRun, End, is_return, IsSound}
use Rattle.driver_safety.specs.StepLaw.{HasGoodSlots, HasGoodArguments, terms_of, EachStepIsSafe}
use Rattle.driver_safety.specs.Passing.{StandIn}
use Rattle.driver_safety.specs.TypeFacts.{HasTypes}
use Rattle.driver_safety.proofs.calls.Entering.{each_first_frame}
use Rattle.driver_safety.proofs.calls.Receiving.{some_same}
use Rattle.driver_safety.proofs.checks.LineRules.{SoundAt, turn_at}
use Rattle.driver_safety.proofs.declarations.FunctionHeads.{entered}
use Rattle.driver_safety.proofs.steps.BodyRules.{at_simple, statement_runs}
use Rattle.driver_safety.proofs.steps.SimpleRuns.{terms, home, IsChecked, simple_runs, condition_runs}
use Rattle.driver_safety.proofs.declarations.FewItems.{few_items}
use Rattle.driver_safety.proofs.declarations.TableFacts.{table_is}
use Rattle.driver_safety.proofs.steps.Stepping.{step_safe}

ok_same : {A : Type 0} (a b : A) → ◌≡◌ {A = Result A Fault} (Ok a) (Ok b) → a ≡ b
ok_same a b h = cc

-- ---- the last of statements in turn
then_ok : {S A B : Type 0} (p : Checking S A) (g : A → Checking S B) (s : S) (b : B × S) → afterwards p g s ≡ Ok b
    → (a : A × S) × (p s ≡ Ok a) × (g a.0 a.1 ≡ Ok b)
unfolding afterwards
then_ok {S} {A} {B} p g s b h = by (p s) refl h
  where
    by : (r : Result (A × S) Fault) → p s ≡ r → with_outcome r g ≡ Ok b → (a : A × S) × (p s ≡ Ok a) × (g a.0 a.1 ≡ Ok b)
    by (Ok a) e k = (a, e, k)
    by (Err d) e k = absurd cc

-- what was derived last stands last
last_turn : {S A : Type 0} (ps : List (Checking S A)) (p : Checking S A) (values : List A) (s : S) (out : List A × S)
    → in_turn (ps ++ p ∷ []) values s ≡ Ok out
    → (before : List A) × (a : A) × (s' : S) × (end : S) × (p s' ≡ Ok (a, end)) × (out.0 ≡ before ++ a ∷ [])
last_turn [] p values s out h =
    let r = then_ok p (λ a. in_turn [] (values ++ a ∷ [])) s out h in
    (values, r.0.0, s, r.0.1, r.1, ap (λ x. x.0) (sym (ok_same (values ++ r.0.0 ∷ [], r.0.1) out r.2)))
last_turn (q ∷ ps) p values s out h =
    let r = then_ok q (λ a. in_turn (ps ++ p ∷ []) (values ++ a ∷ [])) s out h in
    last_turn ps p (values ++ r.0.0 ∷ []) r.0.1 out r.2

map_last : {X Y : Type 0} (f : X → Y) (xs : List X) (x : X) → map f (xs ++ x ∷ []) ≡ map f xs ++ f x ∷ []
map_last f [] x = refl
map_last f (y ∷ xs) x = ap (λ l. f y ∷ l) (map_last f xs x)

-- ---- a return is derived as a return
module _ (unit : CheckedUnit) (terms' : Terms) where
  abbrev Back : CheckedStmt → Type 0
  Back s = is_return unit terms' (out-CheckedStmt s) ≡ true

  first_is : (a x : CheckedStmt) (s t : List Asked) → ◌≡◌ {A = Option (CheckedStmt × List Asked)} (Some (a, s)) (Some (x, t)) → a ≡ x
  first_is a x s t h = ap (λ (y : CheckedStmt × List Asked). y.0) (some_same (a, s) (x, t) h)

  value_returns : (ctx : Context) (y : Shape) (e : Expr) (x : CheckedStmt) (t : List Asked) → return_value ctx y e [] ≡ Some (x, t) → Back x
  unfolding return_value bind
  value_returns ctx y e x t h =
      let a = some_then (derive ctx e []) _ (x, t) h in
      let b = some_then (lift (pass ctx y a.0.0) a.0.1) _ (x, t) a.2 in
      let d = some_then (coerce_value ctx of_slots y b.0.0 b.0.1) _ (x, t) b.2 in
      subst Back (first_is (statement.Return ctx.line (Some (passed_argument b.0.0)) d.0.0) x d.0.1 t d.2)
      (ap (λ z. is_return unit terms' z) (statement.outs-Return ctx.line (Some (passed_argument b.0.0)) d.0.0))

  return_returns : (ctx : Context) (r : Returned) (e : Option Expr) (x : CheckedStmt) (t : List Asked)
      → return_from ctx r e [] ≡ Some (x, t)
      → Back x
  unfolding return_from
  return_returns ctx returned.Nothing None x t h =
      subst Back (first_is (statement.Return ctx.line None []) x [] t h) (ap
      (λ z. is_return unit terms' z) (statement.outs-Return ctx.line None []))
  return_returns ctx returned.Nothing (Some e) x t h = absurd cc
  return_returns ctx (returned.Value s) None x t h = absurd cc
  return_returns ctx (returned.Value s) (Some e) x t h = value_returns ctx s e x t h

  simple_returns : (ctx : Context) (h : Home) (line : ℕ) (e : Option Expr) (s : Numbered) (x : CheckedStmt) (end : Numbered)
      → simple ctx h (record { line = line; action = action.Return e }) s ≡ Ok (x, end) → Back x
  unfolding simple act
  simple_returns ctx h line e s x end k = by (return_from (statement_context ctx line s) h.result e []) refl k
    where
      numbers : (y : CheckedStmt) (o : Option Numbered) → with_numbers line y o ≡ Ok (x, end) → y ≡ x
      numbers y None k = absurd cc
      numbers y (Some n) k = ap (λ (z : CheckedStmt × Numbered). z.0) (ok_same (y, n) (x, end) k)

      by : (o : Option (CheckedStmt × List Asked)) → return_from (statement_context ctx line s) h.result e [] ≡ o
          → numbered_at line s o ≡ Ok (x, end) → Back x
      by None q k = absurd cc
      by (Some r) q k = subst Back (numbers r.0 _ k) (return_returns (statement_context ctx line s) h.result e r.0 r.1 q)

  ends_with : (before : List CheckedStmt) (x : CheckedStmt) → Back x → End unit terms' (before ++ x ∷ [])
  ends_with [] x b = b
  ends_with (y ∷ []) x b = b
  ends_with (y ∷ z ∷ before) x b = ends_with (z ∷ before) x b

module _ (u : TextUnit) (t : Table) (c : CheckedUnit) (types : HasTypes t) (short : IsShortUnit u) (laid : layout u ≡ Ok t) where
  abbrev pub Checked : ℕ → Function → CheckedFn → Type 0
  Checked k g f = IsChecked u t c types short laid k g f

  abbrev pub functions : List Function
  functions = functions_of u.items

  abbrev text : SeenText
  text = text_of t u.items

  -- ---- what a function's check says
  pub record IsPassed (k : ℕ) (g : Function) (f : CheckedFn) : Type 0 where
    pub stands : Stands t g
    pub result : Returned
    pub result_is : result_of t g.head ≡ Some result
    pub numbers : Numbered
    pub body : List CheckedStmt
    pub derived : in_turn (map (check_statement (context_of t g) (record {
      functions = text.functions;
      result = result;
    })) g.body) [] no_checks ≡ Ok (body, numbers)
    pub is : checked_function (context_of t g) g result body numbers ≡ f

  statements_passed : (k : ℕ) (g : Function) (f : CheckedFn) (r : Returned) → Stands t g → result_of t g.head ≡ Some r
      → check_statements text g r (context_of t g) ≡ Ok f → IsPassed k g f
  unfolding check_statements
  statements_passed k g f r stands found h = by (in_turn (map (check_statement (context_of t g) (record {
    functions = text.functions;
    result = r;
  })) g.body) [] no_checks) refl h
    where
      by : (o : Result (List CheckedStmt × Numbered) Fault)
          → in_turn (map (check_statement (context_of t g) (record { functions = text.functions; result = r })) g.body) [] no_checks ≡ o
          → finished (context_of t g) g r o ≡ Ok f → IsPassed k g f
      by (Ok b) e h = record {
        stands = stands;
        result = r;
        result_is = found;
        numbers = b.1;
        body = b.0;
        derived = e;
        is = ok_same (checked_function (context_of t g) g r b.0 b.1) f h;
      }
      by (Err d) e h = absurd cc

  function_passed : (k : ℕ) (g : Function) (f : CheckedFn) → check_function text k g ≡ Ok f → IsPassed k g f
  unfolding check_function text_of
  function_passed k g f h = by (function_stands text k g.head) (is_over g) refl h
    where
      declared : (r : Returned) (few : is_over g ≡ false) → result_of t g.head ≡ Some r → (o : Option ℕ)
          → wrong_declaration (locals_of g) (slot_shapes t g) g ≡ o
          → check_declared text g r (context_of t g) o ≡ Ok f → IsPassed k g f
      declared r few found (Some line) e h = absurd cc
      declared r few found None e h = statements_passed k g f r (record { few = few; stands = e }) found h

      found : (few : is_over g ≡ false) (o : Option Returned) → result_of t g.head ≡ o → check_result text g o (context_of t g) ≡ Ok f
          → IsPassed k g f
      found few None e h = absurd cc
      found few (Some r) e h = declared r few e (wrong_declaration (locals_of g) (slot_shapes t g) g) refl h

      by : (a b : Bool) → is_over g ≡ b
          → (if not a then Err (NoRule g.head.line) else (if b then Err (Limit g.head.line Locals)
          else check_result text g (result_of t g.head) (context_of t g))) ≡ Ok f → IsPassed k g f
      by false b e h = absurd cc
      by true true e h = absurd cc
      by true false e h = found e (result_of t g.head) refl h

  -- ---- what a unit's check says
  -- each function of the text has its checked one, and each checked one is that of a function
  pub record AllPassed (items : List Item) (before out : List CheckedFn) : Type 0 where
    pub more : List CheckedFn
    pub is : out ≡ before ++ more
    pub many : length more ≡ length (functions_of items)
    pub each : (j : ℕ) (g : Function) → slice_get (functions_of items) j ≡ Some g
        → (f : CheckedFn) × (slice_get more j ≡ Some f) × IsPassed (length before + j) g f

  none_more : (before out : List CheckedFn) → before ≡ out → AllPassed [] before out
  none_more before out e = record { more = []; is = sym e ∙ sym (append-nil before); many = refl; each = λ j g h. absurd cc }

  items_passed : (xs : List Item) (before out : List CheckedFn) → check_items text xs before ≡ Ok out → AllPassed xs before out
  items_passed [] before out h = none_more before out (ok_same before out h)
  items_passed (item.Struct s ∷ xs) before out h = let r = items_passed xs before out h in record {
    more = r.more;
    is = r.is;
    many = r.many;
    each = r.each;
  }
  items_passed (item.Global g ∷ xs) before out h = let r = items_passed xs before out h in record {
    more = r.more;
    is = r.is;
    many = r.many;
    each = r.each;
  }
  items_passed (item.Prototype p ∷ xs) before out h = by (wrong_prototype text p) h (λ k. items_passed xs before out k)
    where
      by : (o : Option ℕ) → behind_prototype o (check_items text xs before) ≡ Ok out
          → (check_items text xs before ≡ Ok out → AllPassed xs before out)
          → AllPassed (item.Prototype p ∷ xs) before out
      by None h rest = let r = rest h in record { more = r.more; is = r.is; many = r.many; each = r.each }
      by (Some line) h rest = absurd cc
  items_passed (item.Function g ∷ xs) before out h = by (check_function text (length before) g) refl h (λ b k. items_passed xs b out k)
    where
      later : (f : CheckedFn) → check_function text (length before) g ≡ Ok f → (r : AllPassed xs (before ++ f ∷ []) out)
          → (j : ℕ) (y : Function)
          → slice_get (g ∷ functions_of xs) j ≡ Some y
          → (z : CheckedFn) × (slice_get (f ∷ r.more) j ≡ Some z) × IsPassed (length before + j) y z
      later f e r zero y at = (
        f,
        refl,
        subst (λ (x : Function). IsPassed (length before + 0) x f) (some_same g y at) (subst
            (λ n. IsPassed n g f) (nothing (length before)) (function_passed (length before) g f e)),
      )
        where
          nothing : (n : ℕ) → n ≡ n + 0
          nothing n = omega arith
      later f e r (suc j) y at =
          let z = r.each j y at in
          let long = length-append before (f ∷ []) in
          (z.0, z.1, subst (λ n. IsPassed n y z.0) (farther (length before) j (length (before ++ f ∷ [])) long) z.2)
        where
          farther : (n j m : ℕ) → m ≡ n + 1 → m + j ≡ n + suc j
          farther n j m e = omega (arith, e)

      by : (o : Result CheckedFn Fault) → check_function text (length before) g ≡ o
          → behind_function before o (check_items text xs) ≡ Ok out
          → ((b : List CheckedFn) → check_items text xs b ≡ Ok out → AllPassed xs b out) → AllPassed (item.Function g ∷ xs) before out
      by (Ok f) e h rest =
          let r = rest (before ++ f ∷ []) h in
          record { more = f ∷ r.more; is = r.is ∙ append_assoc before (f ∷ []) r.more; many = ap suc r.many; each = later f e r }
      by (Err d) e h rest = absurd cc

  module _ (accepted : checked t u ≡ Ok c) where
    all_passed : AllPassed u.items [] c.functions
    unfolding checked
    all_passed = by (check_items text u.items []) refl accepted
      where
        by : (o : Result (List CheckedFn) Fault) → check_items text u.items [] ≡ o → checked_with t o ≡ Ok c
            → AllPassed u.items [] c.functions
        by (Ok out) e h = subst (λ (x : CheckedUnit). AllPassed u.items [] x.functions) (ok_same (record {
          functions = out;
          image = t.image;
          structs = t.structs;
          elems = t.elems;
        }) c h) (items_passed u.items [] out e)
        by (Err d) e h = absurd cc

    there : (xs : List Item) (k : ℕ) (g : Function) → slice_get (functions_of xs) k ≡ Some g → Contains xs (item.Function g)
    there [] k g h = absurd cc
    there (item.Struct s ∷ xs) k g h = behind (item.Function g) (item.Struct s) xs (there xs k g h)
    there (item.Global s ∷ xs) k g h = behind (item.Function g) (item.Global s) xs (there xs k g h)
    there (item.Prototype s ∷ xs) k g h = behind (item.Function g) (item.Prototype s) xs (there xs k g h)
    there (item.Function f ∷ xs) zero g h = (0, omega arith, ap item.Function (some_same f g h))
    there (item.Function f ∷ xs) (suc k) g h = behind (item.Function g) (item.Function f) xs (there xs k g h)

    -- a function of the text is checked
    pub function_checked : (k : ℕ) (g : Function) → slice_get functions k ≡ Some g → (f : CheckedFn) × Checked k g f
    unfolding text_of
    function_checked k g at =
        let all = all_passed in
        let z = all.each k g at in
        let p = z.2 in (
          z.0,
          record {
            at = at;
            there = there u.items k g at;
            stands = p.stands;
            result = p.result;
            result_is = p.result_is;
            made = ap (λ (l : List CheckedFn). slice_get l k) all.is ∙ z.1;
            scalar = ap (λ (x : CheckedFn). x.result) (sym p.is);
            slots = ap (λ (x : CheckedFn). x.slots) (sym p.is);
            numbers = p.numbers;
            derived = p.derived ∙ ap (λ (x : CheckedFn). Ok (x.body, p.numbers)) p.is;
            stand = subst (λ (x : CheckedFn). StandIn x p.numbers) p.is (record {
              atoms = ([], sym (append-nil p.numbers.atoms));
              checks = ([], sym (append-nil p.numbers.checks));
            });
          },
        )

    -- and each checked function is that of one
    pub function_of : (k : ℕ) (f : CheckedFn) → slice_get c.functions k ≡ Some f → (g : Function) × Checked k g f
    function_of k f at =
        let all = all_passed in
        let here : slice_get all.more k ≡ Some f = ap (λ (l : List CheckedFn). slice_get l k) (sym all.is) ∙ at in
        let below = within all.more k f here in
        let many = all.many in
        let g = some_at functions k (omega (arith, below, many)) in
        let z = function_checked k g.0 g.1 in
        (g.0, subst (Checked k g.0) (some_same z.0 f (sym z.1.made ∙ at)) z.1)
      where
        within : (xs : List CheckedFn) (k : ℕ) (x : CheckedFn) → slice_get xs k ≡ Some x → k < length xs
        within [] k x g = absurd cc
        within (y ∷ xs) zero x g = omega arith
        within (y ∷ xs) (suc k) x g = let more = within xs k x g in omega (arith, more)

        some_at : (xs : List Function) (k : ℕ) → k < length xs → (x : Function) × (slice_get xs k ≡ Some x)
        some_at [] k l = absurd (omega (arith, l))
        some_at (x ∷ xs) zero l = (x, refl)
        some_at (x ∷ xs) (suc k) l = some_at xs k (omega (arith, l))

    -- ---- what the functions owe
    abbrev pub good : Terms
    good = terms u t c types short laid

    each_runs : (k : ℕ) (g : Function) (f : CheckedFn) (is : Checked k g f) (ss : List Stmt) → All IsShortStatement ss
        → (i : ℕ) (p : Checking Numbered CheckedStmt)
        → slice_get (map (check_statement (context_of t g) (home u t c types short laid is.result)) ss) i ≡ Some p
        → SoundAt f p (Runs c good k f)
    each_runs k g f is [] all i p h = absurd cc
    each_runs k g f is (s ∷ ss) all zero p h =
        subst (λ (q : Checking Numbered CheckedStmt). SoundAt f q (Runs c good k f))
        (some_same (check_statement (context_of t g) (home u t c types short laid is.result) s) p h)
        (statement_runs c good k f (context_of t g) (home u t c types short laid is.result)
        (simple_runs u t c types short laid function_checked k g f is)
        (condition_runs u t c types short laid function_checked k g f is) s (All-head IsShortStatement s ss all))
    each_runs k g f is (s ∷ ss) all (suc i) p h = each_runs k g f is ss (All-tail IsShortStatement s ss all) i p h

    body_runs : (k : ℕ) (g : Function) (f : CheckedFn) → Checked k g f → AllRun c good k f f.body
    body_runs k g f is =
        let ctx = context_of t g in
        let each : (i : ℕ) (p : Checking Numbered CheckedStmt)
        → slice_get (map (check_statement ctx (home u t c types short laid is.result)) g.body) i ≡ Some p
        → SoundAt f p (Runs c good k f) =
        each_runs k g f is g.body (statements_short g (function_short u g short is.there)) in
        ((turn_at f (Runs c good k f)
        (map (check_statement ctx (home u t c types short laid is.result)) g.body) [] each).run no_checks f.body is.numbers is.derived).1
        (record { atoms = is.stand.atoms; checks = is.stand.checks }) (λ i x h. absurd cc)

    -- the return at the end of a body
    return_is : (b : ResultBase) (stars : List Star) → (e : Option Expr) × (text_returned b stars ≡ action.Return e)
    return_is result.Void [] = (None, refl)
    return_is result.Void (s ∷ stars) = (Some (expression.Number (record { value = 0; suffix = suffix.Plain })), refl)
    return_is (result.Base b) stars = (Some (expression.Number (record { value = 0; suffix = suffix.Plain })), refl)

    body_ends : (k : ℕ) (g : Function) (f : CheckedFn) → Checked k g f → End c good f.body
    body_ends k g f is =
        let ctx = context_of t g in
        let h = home u t c types short laid is.result in
        let e = (function_short u g short is.there).returns in
        let back = return_is g.head.result g.head.stars in
        let last : Stmt = added_return g.head g.end in
        let body : map (check_statement ctx h) g.body ≡ map (check_statement ctx h) e.0 ++ check_statement ctx h last ∷ [] =
        ap (map (check_statement ctx h)) e.1 ∙ map_last (check_statement ctx h) e.0 last in
        let r = last_turn (map (check_statement ctx h) e.0) (check_statement ctx h last) [] no_checks (f.body, is.numbers)
        (ap (λ ps. in_turn ps [] no_checks) (sym body) ∙ is.derived) in
        let one : simple ctx h (record { line = g.end; action = action.Return back.0 }) r.2 ≡ Ok (r.1, r.3) =
        ap (λ (a : Action). simple ctx h (record { line = g.end; action = a }) r.2) (sym back.1)
        ∙ (ap (λ (p : Checking Numbered CheckedStmt). p r.2) (sym (at_simple ctx h (record {
          line = g.end;
          action = text_returned g.head.result g.head.stars;
        }))) ∙ r.4) in
        subst (End c good) (sym r.5) (ends_with c good r.0 r.1 (simple_returns c good ctx h g.end back.0 r.2 r.1 r.3 one))

    entering : (w : List Block) (k : ℕ) (f : CheckedFn) (vs : List ℤ) → slice_get c.functions k ≡ Some f → HasGoodArguments u t w k vs
        → HasGoodSlots u t w k (first_locals f vs)
    entering w k f vs at takes g found m =
        let z = function_checked k g found in
        let same : z.0 ≡ f = some_same z.0 f (sym z.1.made ∙ at) in
        subst (λ (x : CheckedFn). IsFrame' (context_of t g) w (record { locals = first_locals x vs; memory = m })) same
        (each_first_frame (context_of t g) (parameter_shapes t g.head.params) z.0 (entered t g z.1.stands 0 0 z.0 z.1.slots) w m vs
        (takes g found))

    pub sound : IsSound c good
    sound = record {
      bodies = λ k f at. let z = function_of k f at in (body_runs k z.0 f z.1, body_ends k z.0 f z.1);
      enters = entering;
    }

pub each_step : EachStepIsSafe
each_step u t c is blocks frames m activity memory =
    let types = table_is u t is.laid is.arms (few_items u is.short) in
    step_safe c (terms_of u t) (sound u t c types is.short is.laid is.derived) blocks frames m activity memory
