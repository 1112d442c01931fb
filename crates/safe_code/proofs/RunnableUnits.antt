-- Each function of a unit that the rules derive is runnable: its source statements nest at most 64 deep, and each callee has at most
-- 128 parameters, since it has at most 128 slots.
use Rattle.std.proofs.Common.{◌≡◌, ℕ, ◌≤◌, Bool, true, false, not, List, [], ◌∷◌, ◌++◌, map, length, Option, Some, None, Result, Ok, Err, if◌then◌else◌, is_none, suc, slice_get, All, Contains, refl, ap, sym, ◌∙◌, subst, arith}
use Rattle.std.proofs.lemmas.Bool.Decides.{nat_tests}
use Rattle.std.proofs.lemmas.List.{length-append, length-map}
use Rattle.std.proofs.lemmas.List.Elements.{All-nil, All-cons, All-head, All-tail, All-push, All-contains, All-contains_itself, All-map}
use Rattle.std.proofs.lemmas.Option.{slice_get_within, unwrap_or-slice_get}
use Rattle.std.specs.Prelude.{unwrap_or}
use Rattle.c_tree.specs.declared.items.Function.{Function}
use Rattle.c_tree.specs.declared.items.Item.{Item}
use Rattle.c_tree.specs.declared.items.Item.TheVariants as item
use Rattle.c_tree.specs.declared.items.Unit.{Unit as TextUnit}
use Rattle.c_tree.specs.declared.limits.LimitKind.TheVariants.{Locals}
use Rattle.c_tree.specs.ShortUnit.{IsShortUnit, IsShortFunction}
use Rattle.c_tree.specs.Slots.{slots, parameter, local, hidden_slots}
use Rattle.c_tree.proofs.ShortParts.{function_short}
use Rattle.checked_tree.specs.declared.shapes.Shape.{Shape}
use Rattle.checked_tree.specs.declared.statements.CheckedStmt.{CheckedStmt}
use Rattle.checked_tree.specs.declared.units.CheckedFn.{CheckedFn}
use Rattle.checked_tree.specs.declared.units.CheckedUnit.{CheckedUnit}
use Rattle.deputy_rules.specs.declared.signature.Returned.{Returned}
use Rattle.deputy_rules.specs.declared.signature.Signature.{Signature}
use Rattle.deputy_rules.specs.Checking.{Fault, NoRule, Limit, in_turn}
use Rattle.deputy_rules.specs.Context.{Context}
use Rattle.deputy_rules.specs.Functions.{text_of, context_of, shapes_of, checked_function, no_checks, finished, check_statements, check_declared, check_result, check_function, wrong_prototype, behind_prototype, behind_function, check_items, checked_with, checked, DerivesUnit}
use Rattle.deputy_rules.specs.Heads.{SeenText, signature_of, parameter_shape, parameter_siblings, parameter_shapes, seen_shapes, no_shapes, wrong_in_head, slot_shapes, result_of, function_stands, is_over, wrong_declaration}
use Rattle.deputy_rules.specs.Numbering.{Numbered}
use Rattle.deputy_rules.specs.Statements.{Home, check_statement}
use Rattle.deputy_types.specs.Table.{Table}
use Rattle.deputy_types.specs.UnitLayout.{functions_of}
use Rattle.safe_code.specs.Runnable.{IsRunnable}
use Rattle.safe_code.proofs.SourceDepth.{source_depth}
use Rattle.safe_code.proofs.CheckedDepth.{statements_within}
use Rattle.deputy_rules.proofs.SlotCounts.{slots_counted}

-- ---- a function that is derived
pub ok_is : {A : Type 0} (x y : A) → ◌≡◌ {A = Result A Fault} (Ok x) (Ok y) → x ≡ y
ok_is x y h = cc

if_ok : {A : Type 0} (b : Bool) (e : Fault) (r : Result A Fault) (x : A) → (if b then Err e else r) ≡ Ok x → (b ≡ false) × (r ≡ Ok x)
if_ok true e r x h = absurd cc
if_ok false e r x h = (refl, h)

-- it has few slots, and its statements were derived in turn
pub record FromFunction (text : SeenText) (f : Function) (c : CheckedFn) : Type 0 where
  pub few : is_over f ≡ false
  pub result : Returned
  pub body : List CheckedStmt × Numbered
  pub derived : in_turn (map (check_statement (context_of text.table f) (record { functions = text.functions; result = result })) f.body) []
      no_checks ≡ Ok body
  pub is : c ≡ checked_function (context_of text.table f) f result body.0 body.1

finished_ok : (ctx : Context) (f : Function) (r : Returned) (o : Result (List CheckedStmt × Numbered) Fault) (c : CheckedFn)
    → finished ctx f r o ≡ Ok c
    → (b : List CheckedStmt × Numbered) × (o ≡ Ok b) × (c ≡ checked_function ctx f r b.0 b.1)
finished_ok ctx f r (Ok b) c h = (b, refl, sym (ok_is (checked_function ctx f r b.0 b.1) c h))
finished_ok ctx f r (Err e) c h = absurd cc

declared_ok : (text : SeenText) (f : Function) (r : Returned) (line : Option ℕ) (c : CheckedFn) → is_over f ≡ false
    → check_declared text f r (context_of text.table f) line ≡ Ok c → FromFunction text f c
unfolding check_statements
declared_ok text f r (Some line) c few h = absurd cc
declared_ok text f r None c few h =
    let found = finished_ok (context_of text.table f) f r
    (in_turn (map (check_statement (context_of text.table f) (record { functions = text.functions; result = r })) f.body) [] no_checks)
    c h in
    record { few = few; result = r; body = found.0; derived = found.1; is = found.2 }

result_ok : (text : SeenText) (f : Function) (r : Option Returned) (c : CheckedFn) → is_over f ≡ false
    → check_result text f r (context_of text.table f) ≡ Ok c → FromFunction text f c
result_ok text f None c few h = absurd cc
result_ok text f (Some r) c few h =
    declared_ok text f r (wrong_declaration (context_of text.table f).locals (context_of text.table f).slots f) c few h

pub function_ok : (text : SeenText) (k : ℕ) (f : Function) (c : CheckedFn) → check_function text k f ≡ Ok c → FromFunction text f c
unfolding check_function
function_ok text k f c h =
    let stands = if_ok (not (function_stands text k f.head)) (NoRule f.head.line)
    (if is_over f then Err (Limit f.head.line Locals) else check_result text f (result_of text.table f.head) (context_of text.table f))
    c h in
    let few = if_ok (is_over f) (Limit f.head.line Locals) (check_result text f (result_of text.table f.head) (context_of text.table f)) c
    stands.1 in
    result_ok text f (result_of text.table f.head) c few.0 few.1

-- ---- the items in turn
later : {A : Type 0} (y : A) (xs : List A) (x : A) → Contains xs x → Contains (y ∷ xs) x
later y xs x c = All-contains (Contains (y ∷ xs)) xs x (All-tail (Contains (y ∷ xs)) y xs (All-contains_itself (y ∷ xs))) c

pub function_then : (done : List CheckedFn) (o : Result CheckedFn Fault) (rest : List CheckedFn → Result (List CheckedFn) Fault)
    (out : List CheckedFn) → behind_function done o rest ≡ Ok out
    → (c : CheckedFn) × (o ≡ Ok c) × (rest (done ++ c ∷ []) ≡ Ok out)
function_then done (Ok c) rest out h = (c, refl, h)
function_then done (Err e) rest out h = absurd cc

pub prototype_then : (o : Option ℕ) (rest : Result (List CheckedFn) Fault) (out : List CheckedFn) → behind_prototype o rest ≡ Ok out
    → rest ≡ Ok out
prototype_then None rest out h = h
prototype_then (Some line) rest out h = absurd cc

module _ (text : SeenText) where
  -- each function of these items was derived
  pub all_few : (items : List Item) (done out : List CheckedFn) → check_items text items done ≡ Ok out
      → All (λ f. is_over f ≡ false) (functions_of items)
  all_few [] done out h = All-nil (λ f. is_over f ≡ false)
  all_few (item.Struct s ∷ items) done out h = all_few items done out h
  all_few (item.Global g ∷ items) done out h = all_few items done out h
  all_few (item.Function f ∷ items) done out h =
      let one = function_then done (check_function text (length done) f) (check_items text items) out h in
      All-cons (λ f. is_over f ≡ false) f (functions_of items) (function_ok text (length done) f one.0 one.1).few
      (all_few items (done ++ one.0 ∷ []) out one.2)
  all_few (item.Prototype p ∷ items) done out h =
      all_few items done out (prototype_then (wrong_prototype text p) (check_items text items done) out h)

  pub all_from : (Q : CheckedFn → Type 0) (items : List Item)
      → ((f : Function) (c : CheckedFn) → Contains items (item.Function f) → FromFunction text f c → Q c) → (done out : List CheckedFn)
      → All Q done → check_items text items done ≡ Ok out → All Q out
  all_from Q [] each done out all h = subst (All Q) (ok_is done out h) all
  all_from Q (item.Struct s ∷ items) each done out all h =
      all_from Q items (λ f c in_rest. each f c (later (item.Struct s) items (item.Function f) in_rest)) done out all h
  all_from Q (item.Global g ∷ items) each done out all h =
      all_from Q items (λ f c in_rest. each f c (later (item.Global g) items (item.Function f) in_rest)) done out all h
  all_from Q (item.Function f ∷ items) each done out all h =
      let one = function_then done (check_function text (length done) f) (check_items text items) out h in
      let new = each f one.0 (0, omega arith, refl) (function_ok text (length done) f one.0 one.1) in
      all_from Q items (λ g c in_rest. each g c (later (item.Function f) items (item.Function g) in_rest)) (done ++ one.0 ∷ []) out
      (All-push Q done one.0 all new) one.2
  all_from Q (item.Prototype p ∷ items) each done out all h =
      all_from Q items (λ f c in_rest. each f c (later (item.Prototype p) items (item.Function f) in_rest)) done out all
      (prototype_then (wrong_prototype text p) (check_items text items done) out h)

-- ---- the whole
no_longer : (shapes : List (Option Shape)) → length (no_shapes shapes) ≡ length shapes
no_longer [] = refl
no_longer (s ∷ shapes) = ap suc (no_longer shapes)

seen_long : (b : Bool) (shapes : List (Option Shape)) → length (if b then shapes else no_shapes shapes) ≡ length shapes
seen_long true shapes = refl
seen_long false shapes = no_longer shapes

few_params : (t : Table) (f : Function) → is_over f ≡ false → length (signature_of t f).params ≤ 128
unfolding signature_of seen_shapes parameter_shapes is_over
few_params t f few =
    let few_slots : length (slots f) ≤ 128 = grind (arith, nat_tests) in
    let params = length-map f.head.params parameter in
    let all = length-append (map parameter f.head.params) (map local f.locals ++ hidden_slots f.locals) in
    let seen : length (signature_of t f).params ≡ length (parameter_shapes t f.head.params) =
    seen_long (is_none (wrong_in_head (parameter_shapes t f.head.params) f.head)) (parameter_shapes t f.head.params) in
    let shapes : length (parameter_shapes t f.head.params) ≡ length f.head.params =
    length-map f.head.params (parameter_shape t (parameter_siblings t.types f.head.params)) in
    omega arith

few_shapes : (ss : List (Option Shape)) → length (shapes_of ss) ≤ length ss
few_shapes [] = omega arith
few_shapes (None ∷ ss) = let rest = few_shapes ss in omega arith
few_shapes (Some s ∷ ss) = let rest = few_shapes ss in omega arith

few_slots : (t : Table) (f : Function) → is_over f ≡ false → length (shapes_of (slot_shapes t f)) ≤ 128
unfolding is_over
few_slots t f few =
    let few_slots : length (slots f) ≤ 128 = grind (arith, nat_tests) in
    let counted = slots_counted t f in
    let shapes = few_shapes (slot_shapes t f) in
    omega arith

function_runs : (text : SeenText) (f : Function) (c : CheckedFn) → IsShortFunction f
    → ((k : ℕ) (g : Signature) → slice_get text.functions k ≡ Some g → length g.params ≤ 128)
    → FromFunction text f c → IsRunnable c
function_runs text f c short few from =
    let home : Home = record { functions = text.functions; result = from.result } in
    let within = statements_within (context_of text.table f) home few f.body no_checks from.body from.derived in
    let source = source_depth f short in
    let deep = within.depth in
    subst IsRunnable (sym from.is) (record { nesting = omega arith; room = within.room; slots = few_slots text.table f from.few })

-- a list that is looked up
looked_up : {A : Type 0} (Q : A → Type 0) (xs : List A) → All Q xs → (k : ℕ) (x : A) → slice_get xs k ≡ Some x → Q x
looked_up Q xs all k x h =
    All-contains Q xs x all (k, slice_get_within xs k x h, sym (unwrap_or-slice_get xs k x) ∙ ap (λ o. unwrap_or o x) h)

pub checked_ok : (t : Table) (o : Result (List CheckedFn) Fault) (c : CheckedUnit) → checked_with t o ≡ Ok c
    → (fs : List CheckedFn) × (o ≡ Ok fs) × (c.functions ≡ fs)
checked_ok t (Ok fs) c h = (fs, refl, ap (λ (x : CheckedUnit). x.functions) (sym (ok_is _ c h)))
checked_ok t (Err e) c h = absurd cc

pub each_runs : (t : Table) (u : TextUnit) (c : CheckedUnit) → IsShortUnit u → DerivesUnit t u c → All IsRunnable c.functions
unfolding checked text_of
each_runs t u c short h =
    let text = text_of t u.items in
    let found = checked_ok t (check_items text u.items []) c h in
    let few = all_few text u.items [] found.0 found.1 in
    let params : All (λ (g : Signature). length g.params ≤ 128) (map (signature_of t) (functions_of u.items)) =
    All-map (λ (g : Signature). length g.params ≤ 128) (signature_of t) (functions_of u.items) (few_each (functions_of u.items) few) in
    let runs = all_from text IsRunnable u.items
    (λ f d in_items from. function_runs text f d (function_short u f short in_items)
    (looked_up (λ (g : Signature). length g.params ≤ 128) text.functions params) from)
    [] found.0 (All-nil IsRunnable) found.1 in
    subst (All IsRunnable) (sym found.2) runs
  where
    few_each : (fs : List Function) → All (λ f. is_over f ≡ false) fs → All (λ f. length (signature_of t f).params ≤ 128) fs
    few_each [] all = All-nil (λ f. length (signature_of t f).params ≤ 128)
    few_each (f ∷ fs) all =
        All-cons (λ f. length (signature_of t f).params ≤ 128) f fs (few_params t f (All-head (λ f. is_over f ≡ false) f fs all))
        (few_each fs (All-tail (λ f. is_over f ≡ false) f fs all))
