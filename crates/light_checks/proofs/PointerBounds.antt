-- The sums that bound a pointer are light, so that none of them reaches the machine's limit.
use Rattle.std.proofs.Common.{◌≡◌, ◌⊎◌, inl, inr, ℕ, Bool, true, false, [], Some, None, if◌then◌else◌, arith}
use Rattle.std.proofs.lemmas.List.Elements.{All-nil}
use Rattle.c_tree.specs.declared.expressions.Expr.{Expr}
use Rattle.c_tree.specs.declared.items.Function.{Function}
use Rattle.c_tree.specs.declared.items.Unit.{Unit as TextUnit}
use Rattle.checked_tree.specs.Conditions.{State}
use Rattle.checked_tree.specs.Operands.{sum_value}
use Rattle.deputy_types.specs.declared.element.Element.{Element}
use Rattle.deputy_types.specs.Options.{and_then}
use Rattle.deputy_types.specs.Table.{Table}
use Rattle.deputy_types.proofs.Inversions.{some_then}
use Rattle.deputy_rules.specs.declared.derived.Value.{Value}
use Rattle.deputy_rules.specs.declared.derived.Value.TheVariants as value
use Rattle.deputy_rules.specs.declared.handed.Handed.{Handed}
use Rattle.deputy_rules.specs.declared.signature.Returned.{Returned}
use Rattle.deputy_rules.specs.Calls.{freed_value}
use Rattle.deputy_rules.specs.Coercion.{handed, handed_over}
use Rattle.deputy_rules.specs.Context.{Context}
use Rattle.deputy_rules.specs.Functions.{context_of}
use Rattle.deputy_rules.specs.Numbering.{Numbered}
use Rattle.deputy_rules.specs.Pointers.{is_written}
use Rattle.deputy_rules.specs.Statements.{statement_context}
use Rattle.deputy_rules.specs.Values.{value_of}
use Rattle.light_checks.specs.Lightness.{IsLightCheck}
use Rattle.light_checks.specs.PointerBounds.{HandsOver}
use Rattle.light_checks.specs.ShortUnits.{IsFunctionOf}
use Rattle.light_checks.specs.SumLimits.{PartsFit, free_sum_value}
use Rattle.light_checks.specs.Weights.{IsDerived, IsHanded, IsValue}
use Rattle.light_checks.specs.Within.{IsContext}
use Rattle.light_checks.proofs.AssignmentRules.{derive_short}
use Rattle.light_checks.proofs.CoercionRules.{handed_is, null_or_none, null_handed}
use Rattle.light_checks.proofs.Ensuring.{given}
use Rattle.light_checks.proofs.Reading.{value_is}
use Rattle.light_checks.proofs.Refusals.{within, at_line_within}
use Rattle.light_checks.proofs.ShortWords.{short_readable}
use Rattle.light_checks.proofs.SumLimits.{sum_free}
use Rattle.light_checks.proofs.Weighing.{bound_light}

-- a pointer that is given back
unless_nullterm : (b : Bool) (h k : Handed) → IsHanded 1000 k → (if b then None else Some k) ≡ Some h → IsHanded 1000 h
unless_nullterm true h k is e = absurd cc
unless_nullterm false h k is e = given (IsHanded 1000) k h e is

freed_is : (v : Value) (h : Handed) → IsValue 1000 v → freed_value v ≡ Some h → IsHanded 1000 h
unfolding freed_value
freed_is value.Null h is e = given (IsHanded 1000) _ h e (null_handed 1000)
freed_is (value.Int w) h is e = null_or_none 1000 (is_written 0 w.written) h e
freed_is (value.Pointer p) h is e = unless_nullterm p.nullterm h (handed_over p) (record { at = is.at; low = is.low; high = is.high }) e

module _ (ctx : Context) (is : IsContext ctx) (e : Expr) (h : Handed) (hands : HandsOver ctx e h) where
  derived_is : IsDerived 1000 hands.found
  derived_is = ((derive_short ctx is e (short_readable e hands.short)).run [] hands.found hands.asked (All-nil IsLightCheck) hands.derives).0

  pub pointer_is : IsHanded 1000 h
  pointer_is = by hands.hands
    where
      by : ((key : Element) × (nullterm : Bool) × (handed ctx key nullterm hands.found ≡ Some h)) ⊎ (and_then (value_of ctx hands.found) freed_value ≡ Some h) → IsHanded 1000 h
      by (inl (key, nullterm, k)) = handed_is ctx is 1000 (omega arith) key nullterm hands.found h derived_is k
      by (inr k) =
          let r = some_then (value_of ctx hands.found) freed_value h k in freed_is r.0 h (value_is ctx is 1000 hands.found r.0 derived_is r.1) r.2

-- in a function
pub bounds_free : (u : TextUnit) (t : Table) (f : Function) (r : Returned) (line : ℕ) (b : Numbered) (e : Expr) (h : Handed) (s : State) → IsFunctionOf u t f r
    → HandsOver (statement_context (context_of t f) line b) e h → PartsFit s h.low.parts → PartsFit s h.high.parts
    → (sum_value s h.low ≡ free_sum_value s h.low) × (sum_value s h.high ≡ free_sum_value s h.high)
bounds_free u t f r line b e h s is hands low high =
    let ctx = statement_context (context_of t f) line b in
    let k = pointer_is ctx (at_line_within (context_of t f) line b (within u t f r is)) e h hands in
    (sum_free s h.low (bound_light 1000 h.low (omega arith) k.low) low, sum_free s h.high (bound_light 1000 h.high (omega arith) k.high) high)
