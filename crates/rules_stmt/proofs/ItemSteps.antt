-- The steps over the items of a text.
use Rattle.std.proofs.Common.{◌≡◌, ◌≢◌, List, [], ◌∷◌, ◌++◌, length, Result, Ok, Err, ap, sym, ◌∙◌}
use Rattle.c_tree.specs.declared.items.Function.{Function}
use Rattle.c_tree.specs.declared.items.Item.{Item}
use Rattle.c_tree.specs.declared.items.Item.TheVariants as item
use Rattle.checked_tree.specs.declared.units.CheckedFn.{CheckedFn}
use Rattle.deputy_rules.specs.Checking.{Fault}
use Rattle.deputy_rules.specs.Functions.{behind_function, check_function, check_items}
use Rattle.deputy_rules.specs.Heads.{SeenText}
use Rattle.check_numbering.specs.declared.refusal.RuleRefusal.{RuleRefusal}
use Rattle.check_numbering.specs.declared.refusal.RuleRefusal.TheVariants as rule
use Rattle.check_numbering.specs.Outcome.{fault_in}

module _ (text : SeenText) (f : Function) (done : List CheckedFn) where
  at_function : (o : Result CheckedFn Fault) (rest : List Item) → check_function text (length done) f ≡ o
      → check_items text (item.Function f ∷ rest) done ≡ behind_function done o (check_items text rest)
  at_function o rest found = ap (λ r. behind_function done r (check_items text rest)) found

  -- a function that is derived, and one that is not
  pub function_done : (more : List CheckedFn) (g : CheckedFn) → more ≡ done ++ g ∷ [] → check_function text (length done) f ≡ Ok g
      → (rest : List Item) → check_items text (item.Function f ∷ rest) done ≡ check_items text rest more
  function_done more g ends found rest = at_function _ rest found ∙ ap (check_items text rest) (sym ends)

  pub function_refused : (e : RuleRefusal) → (e ≢ rule.Memory → check_function text (length done) f ≡ Err (fault_in e))
      → (rest : List Item) → e ≢ rule.Memory → check_items text (item.Function f ∷ rest) done ≡ Err (fault_in e)
  function_refused e refused rest there = at_function _ rest (refused there)
