-- A short unit is refused only for its heads, its declarations, too many slots, its prototypes, or what no rule derives.
use Rattle.std.proofs.Common.{◌≡◌, ℕ, Bool, true, false, not, List, [], ◌∷◌, ◌++◌, length, Option, Some, None, Result, Ok, Err, if◌then◌else◌, Contains, refl, sym, ap, ◌∙◌, arith}
use Rattle.c_tree.specs.declared.items.Function.{Function}
use Rattle.c_tree.specs.declared.items.Item.{Item}
use Rattle.c_tree.specs.declared.items.Item.TheVariants as item
use Rattle.c_tree.specs.declared.items.Unit.{Unit as TextUnit}
use Rattle.c_tree.specs.declared.limits.LimitKind.TheVariants.{Locals}
use Rattle.c_tree.specs.ShortUnit.{IsShortUnit}
use Rattle.c_tree.specs.Slots.{locals_of}
use Rattle.checked_tree.specs.declared.units.CheckedFn.{CheckedFn}
use Rattle.deputy_rules.specs.declared.signature.Returned.{Returned}
use Rattle.deputy_rules.specs.Checking.{Fault, NoRule, Limit}
use Rattle.deputy_rules.specs.Functions.{text_of, context_of, check_declared, check_result, check_function, wrong_prototype, behind_prototype, behind_function, check_items, checked_with, checked}
use Rattle.deputy_rules.specs.Heads.{SeenText, function_stands, is_over, result_of, slot_shapes, wrong_declaration}
use Rattle.deputy_types.specs.Table.{Table}
use Rattle.deputy_types.specs.UnitLayout.{layout}
use Rattle.light_checks.specs.Faults.{IsRuleFault, head, many_slots, no_result, declaration, prototype, unruled}
use Rattle.light_checks.specs.ShortUnits.{IsFunctionOf}
use Rattle.light_checks.proofs.Bodies.{fault_same, function_tells}
use Rattle.light_checks.proofs.ShortUnits.{behind}

front : (x : Item) (xs : List Item) → Contains (x ∷ xs) x
front x xs = (0, omega arith, refl)

module _ (u : TextUnit) (t : Table) (short : IsShortUnit u) (table : layout u ≡ Ok t) where
  abbrev text : SeenText
  text = text_of t u.items

  declared_refused : (f : Function) (r : Returned) (e : Fault) → Contains u.items (item.Function f) → is_over f ≡ false → result_of t f.head ≡ Some r
      → check_declared text f r (context_of t f) (wrong_declaration (locals_of f) (slot_shapes t f) f) ≡ Err e → IsRuleFault u t e
  declared_refused f r e in' few found h = by (wrong_declaration (locals_of f) (slot_shapes t f) f) refl h
    where
      by : (o : Option ℕ) → wrong_declaration (locals_of f) (slot_shapes t f) f ≡ o → check_declared text f r (context_of t f) o ≡ Err e → IsRuleFault u t e
      by None k h =
          let is : IsFunctionOf u t f r = record { short = short; table = table; function = in'; stands = record { few = few; stands = k }; result = found } in
          unruled f r in' found (function_tells u t f r is e h)
      by (Some line) k h = declaration f line in' k (sym (fault_same (NoRule line) e h))

  result_refused : (f : Function) (e : Fault) → Contains u.items (item.Function f) → is_over f ≡ false → check_result text f (result_of t f.head) (context_of t f) ≡ Err e → IsRuleFault u t e
  result_refused f e in' few h = by (result_of t f.head) refl h
    where
      by : (o : Option Returned) → result_of t f.head ≡ o → check_result text f o (context_of t f) ≡ Err e → IsRuleFault u t e
      by None found h = no_result f in' found (sym (fault_same (NoRule f.head.line) e h))
      by (Some r) found h = declared_refused f r e in' few found h

  function_refused : (f : Function) (k : ℕ) (e : Fault) → Contains u.items (item.Function f) → check_function text k f ≡ Err e → IsRuleFault u t e
  unfolding check_function text_of
  function_refused f k e in' h = by (function_stands text k f.head) refl (is_over f) refl h
    where
      by : (a : Bool) → function_stands text k f.head ≡ a → (b : Bool) → is_over f ≡ b
          → (if not a then Err (NoRule f.head.line) else (if b then Err (Limit f.head.line Locals) else check_result text f (result_of t f.head) (context_of t f))) ≡ Err e → IsRuleFault u t e
      by false stands b over h = head f k in' stands (sym (fault_same (NoRule f.head.line) e h))
      by true stands true over h = many_slots f in' over (sym (fault_same (Limit f.head.line Locals) e h))
      by true stands false over h = result_refused f e in' over h

  items_refused : (xs : List Item) (before : List CheckedFn) (e : Fault) → ((x : Item) → Contains xs x → Contains u.items x) → check_items text xs before ≡ Err e → IsRuleFault u t e
  items_refused [] before e in' h = absurd cc
  items_refused (item.Struct s ∷ xs) before e in' h = items_refused xs before e (λ x c. in' x (behind x (item.Struct s) xs c)) h
  items_refused (item.Global g ∷ xs) before e in' h = items_refused xs before e (λ x c. in' x (behind x (item.Global g) xs c)) h
  items_refused (item.Function f ∷ xs) before e in' h =
      by (check_function text (length before) f) refl h (λ b k. items_refused xs b e (λ x c. in' x (behind x (item.Function f) xs c)) k)
    where
      by : (o : Result CheckedFn Fault) → check_function text (length before) f ≡ o → behind_function before o (check_items text xs) ≡ Err e
          → ((b : List CheckedFn) → check_items text xs b ≡ Err e → IsRuleFault u t e) → IsRuleFault u t e
      by (Ok c) k h rest = rest (before ++ c ∷ []) h
      by (Err d) k h rest = function_refused f (length before) e (in' (item.Function f) (front (item.Function f) xs)) (k ∙ ap (λ z. Err z) (fault_same d e h))
  items_refused (item.Prototype p ∷ xs) before e in' h =
      by (wrong_prototype text p) refl h (items_refused xs before e (λ x c. in' x (behind x (item.Prototype p) xs c)))
    where
      by : (o : Option ℕ) → wrong_prototype text p ≡ o → behind_prototype o (check_items text xs before) ≡ Err e → (check_items text xs before ≡ Err e → IsRuleFault u t e) → IsRuleFault u t e
      by None k h rest = rest h
      by (Some line) k h rest = prototype p line (in' (item.Prototype p) (front (item.Prototype p) xs)) k (sym (fault_same (NoRule line) e h))

  with_fault : (o : Result (List CheckedFn) Fault) (e : Fault) → checked_with t o ≡ Err e → o ≡ Err e
  with_fault (Ok fs) e h = absurd cc
  with_fault (Err d) e h = ap (λ z. Err z) (fault_same d e h)

  pub unit_refused : (e : Fault) → checked t u ≡ Err e → IsRuleFault u t e
  unfolding checked
  unit_refused e h = items_refused u.items [] e (λ x c. c) (with_fault (check_items text u.items []) e h)
