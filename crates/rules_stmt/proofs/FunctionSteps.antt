-- The steps of a function: a head that stands, and at most 128 slots.
use Rattle.std.proofs.Common.{◌≡◌, ℕ, ◌≤◌, ◌<◌, nat_lt, Bool, true, false, not, if◌then◌else◌, List, length, Option, Result, Err, refl, ap, sym, ◌∙◌, true≢false, arith}
use Rattle.std.proofs.lemmas.Bool.{lt-ltb, ltb-true}
use Rattle.c_tree.specs.declared.items.Function.{Function}
use Rattle.c_tree.specs.declared.limits.LimitKind.TheVariants.{Locals}
use Rattle.c_tree.specs.Slots.{slots}
use Rattle.checked_tree.specs.declared.shapes.Shape.{Shape}
use Rattle.checked_tree.specs.declared.units.CheckedFn.{CheckedFn}
use Rattle.deputy_rules.specs.Checking.{Fault, NoRule, Limit}
use Rattle.deputy_rules.specs.Functions.{check_function, check_result, context_of}
use Rattle.deputy_rules.specs.Heads.{SeenText, function_stands, is_over, result_of, slot_shapes}
use Rattle.deputy_rules.proofs.SlotCounts.{slots_counted}

chosen : {X : Type 0} (stands over : Bool) (a b c : X) → stands ≡ true → (if not stands then a else if over then b else c) ≡ (if over then b else c)
chosen true over a b c h = refl
chosen false over a b c h = absurd (true≢false (sym h))

first : {X : Type 0} (over : Bool) (b c : X) → over ≡ true → (if over then b else c) ≡ b
first true b c h = refl
first false b c h = absurd (true≢false (sym h))

second : {X : Type 0} (over : Bool) (b c : X) → over ≡ false → (if over then b else c) ≡ c
second true b c h = absurd (true≢false h)
second false b c h = refl

not_below : (n : ℕ) → n ≤ 128 → nat_lt 128 n ≡ false
not_below n h = by (nat_lt 128 n) refl
  where
    by : (b : Bool) → nat_lt 128 n ≡ b → b ≡ false
    by true e = let above = ltb-true 128 n e in absurd (omega (arith, above, h))
    by false e = refl

module _ (text : SeenText) (k : ℕ) (f : Function) (shapes : List (Option Shape)) where
  abbrev over : Bool
  over = nat_lt 128 (length (slots f))

  abbrev wrong : Result CheckedFn Fault
  wrong = Err (NoRule f.head.line)

  abbrev limit : Result CheckedFn Fault
  limit = Err (Limit f.head.line Locals)

  abbrev behind : Result CheckedFn Fault
  behind = check_result text f (result_of text.table f.head) (context_of text.table f)

  pub function_over : shapes ≡ slot_shapes text.table f → function_stands text k f.head ≡ true → 128 < length shapes → check_function text k f ≡ Err (Limit f.head.line Locals)
  unfolding check_function is_over
  function_over same stands past =
      let count = slots_counted text.table f in
      let long : length shapes ≡ length (slot_shapes text.table f) = ap length same in
      chosen (function_stands text k f.head) over wrong limit behind stands ∙ first over limit behind (lt-ltb 128 (length (slots f)) (omega (arith, count, long, past)))

  pub function_within : shapes ≡ slot_shapes text.table f → function_stands text k f.head ≡ true → length shapes ≤ 128
      → check_function text k f ≡ check_result text f (result_of text.table f.head) (context_of text.table f)
  unfolding check_function is_over
  function_within same stands few =
      let count = slots_counted text.table f in
      let long : length shapes ≡ length (slot_shapes text.table f) = ap length same in
      chosen (function_stands text k f.head) over wrong limit behind stands ∙ second over limit behind (not_below (length (slots f)) (omega (arith, count, long, few)))
