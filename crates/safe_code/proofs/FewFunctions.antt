-- A unit that the rules derive has a function for each function of its text, which are few.
use Rattle.std.proofs.Common.{◌≡◌, ℕ, ◌+◌, ◌≤◌, ◌<◌, nat_lt, Bool, true, false, if◌then◌else◌, List, [], ◌∷◌, ◌++◌, length, Some, None, Ok, refl, ap, sym, arith}
use Rattle.std.proofs.lemmas.Bool.Decides.{nat_tests}
use Rattle.std.proofs.lemmas.List.{length-append}
use Rattle.std.specs.List.{position_or_len}
use Rattle.c_tree.specs.declared.items.Item.{Item}
use Rattle.c_tree.specs.declared.items.Item.TheVariants as item
use Rattle.c_tree.specs.declared.items.Unit.{Unit as TextUnit}
use Rattle.checked_tree.specs.declared.units.CheckedFn.{CheckedFn}
use Rattle.checked_tree.specs.declared.units.CheckedUnit.{CheckedUnit}
use Rattle.deputy_rules.specs.Functions.{text_of, check_function, wrong_prototype, check_items, checked, DerivesUnit}
use Rattle.deputy_rules.specs.Heads.{SeenText}
use Rattle.deputy_types.specs.Table.{Table}
use Rattle.deputy_types.specs.UnitLayout.{functions_of, layout}
use Rattle.layout_laws.proofs.LimitLaws.{keeps_limits}
use Rattle.safe_code.specs.Lookup.{is_named, place_of}
use Rattle.safe_code.proofs.RunnableUnits.{ok_is, function_then, prototype_then, checked_ok}

-- the items in turn give a function for each that has a body
as_many : (text : SeenText) (items : List Item) (done out : List CheckedFn) → check_items text items done ≡ Ok out
    → length out ≡ length done + length (functions_of items)
as_many text [] done out h = let same = ap (λ (l : List CheckedFn). length l) (ok_is done out h) in omega (arith, same)
as_many text (item.Struct s ∷ items) done out h = as_many text items done out h
as_many text (item.Global g ∷ items) done out h = as_many text items done out h
as_many text (item.Function f ∷ items) done out h =
    let one = function_then done (check_function text (length done) f) (check_items text items) out h in
    let rest = as_many text items (done ++ one.0 ∷ []) out one.2 in
    let more = length-append done (one.0 ∷ []) in
    omega (arith, rest, more)
as_many text (item.Prototype p ∷ items) done out h =
    as_many text items done out (prototype_then (wrong_prototype text p) (check_items text items done) out h)

pub few_functions : (t : Table) (u : TextUnit) (c : CheckedUnit) → layout u ≡ Ok t → DerivesUnit t u c → length c.functions ≤ 4096
unfolding checked text_of
few_functions t u c types h =
    let text = text_of t u.items in
    let found = checked_ok t (check_items text u.items []) c h in
    let count = as_many text u.items [] found.0 found.1 in
    let same = ap (λ (l : List CheckedFn). length l) found.2 in
    let few = (keeps_limits u t types).functions in
    omega (arith, count, same, few)

-- the place of a function that is found is one of theirs
found_within : (b : Bool) (n i : ℕ) (xs : List CheckedFn) → nat_lt n (length xs) ≡ b → (if b then Some n else None) ≡ Some i → i < length xs
found_within true n i xs less h = let same : n ≡ i = cc in let below : n < length xs = grind (arith, nat_tests) in
    omega (arith, same, below)
found_within false n i xs less h = absurd cc

pub place_within : (xs : List CheckedFn) (name : List ℕ) (i : ℕ) → Some i ≡ place_of xs name → i < length xs
place_within xs name i h =
    found_within (nat_lt (position_or_len (is_named name) xs) (length xs)) (position_or_len (is_named name) xs) i xs refl (sym h)
