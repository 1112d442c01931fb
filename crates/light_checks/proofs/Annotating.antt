-- The bounds that an annotation gives weigh no more than a bound may.
use Rattle.std.proofs.Common.{◌≡◌, ℕ, ◌+◌, ◌*◌, ◌≤◌, ◌^◌, true, List, [], ◌∷◌, Option, Some, None, ℤ, pos, slice_get, All, subst, arith}
use Rattle.std.proofs.lemmas.List.Elements.{All-head, All-tail}
use Rattle.std.proofs.lemmas.Int.{unsigned_abs-mul}
use Rattle.std.proofs.lemmas.Option.{slice_get_within, get_or_from_slice_get}
use Rattle.dep_expr.specs.Weight.{weight}
use Rattle.checked_tree.specs.declared.expressions.CheckedExpr.{CheckedExpr}
use Rattle.checked_tree.specs.declared.expressions.CheckedExpr.TheVariants as form
use Rattle.checked_tree.specs.declared.shapes.Bounds.{Bounds}
use Rattle.checked_tree.specs.declared.shapes.Bounds.TheVariants as bounds
use Rattle.checked_tree.specs.declared.shapes.Edge.{Edge}
use Rattle.checked_tree.specs.declared.shapes.Member.{Member}
use Rattle.checked_tree.specs.declared.shapes.Shape.{Shape}
use Rattle.checked_tree.specs.declared.sums.Sum.{Sum}
use Rattle.deputy_rules.specs.declared.naming.Names.TheVariants as names
use Rattle.deputy_rules.specs.declared.naming.Naming.{Naming}
use Rattle.deputy_rules.specs.Context.{Context}
use Rattle.deputy_rules.specs.Sums.{plus, scaled, beyond, constant_part}
use Rattle.deputy_types.specs.Table.{member}
use Rattle.deputy_rules.specs.Values.{member_sum, named_sum, name_sum, with_terms, base_sum, edge_sum, low_sum, high_sum, of_slots, of_struct}
use Rattle.light_checks.specs.Lightness.{factors, constants}
use Rattle.light_checks.specs.Weights.{IsAddress, IsBound, IsSingle}
use Rattle.light_checks.specs.Within.{is_integer, shape_at, IsEdge, IsBounds}
use Rattle.light_checks.proofs.Weighing.{factors-append, constants-append, scaled_factors, scaled_constants, address_bound, single_address, atom_single}

-- an element that was looked up
pub looked_up : {X : Type 0} (P : X → Type 0) (xs : List X) (k : ℕ) (x : X) → All P xs → slice_get xs k ≡ Some x → P x
looked_up P xs k x all h = subst P (get_or_from_slice_get xs k x x h) (all k x (slice_get_within xs k x h))

-- what the names of an annotation stand for: an address each, and one part where an integer is named
pub record AreNames (ctx : Context) (n : ℕ) (shapes : List (Option Shape)) (naming : Naming) : Type 0 where
  pub each : (k : ℕ) → IsAddress n (name_sum ctx naming k)
  pub integers : (k : ℕ) → is_integer (shape_at shapes k) ≡ true → IsSingle (name_sum ctx naming k)

-- names that each stand for one part
pub single_names : (ctx : Context) (n : ℕ) (shapes : List (Option Shape)) (naming : Naming) → ((k : ℕ) → IsSingle (name_sum ctx naming k)) → AreNames ctx n shapes naming
single_names ctx n shapes naming one = record { each = λ k. single_address (name_sum ctx naming k) n (one k); integers = λ k h. one k }

pub slot_single : (ctx : Context) (k : ℕ) → IsSingle (named_sum ctx names.OfSlots k)
unfolding named_sum
slot_single ctx k = atom_single (form.Local k)

pub member_single : (ctx : Context) (place : CheckedExpr) (s k : ℕ) → IsSingle (named_sum ctx (names.OfStruct place s) k)
unfolding named_sum
member_single ctx place s k = by (member ctx.table s k)
  where
    by : (o : Option Member) → IsSingle (member_sum place o)
    by None = tt
    by (Some m) = omega arith

pub slot_names : (ctx : Context) (n : ℕ) (shapes : List (Option Shape)) → AreNames ctx n shapes of_slots
unfolding name_sum
slot_names ctx n shapes = single_names ctx n shapes of_slots (slot_single ctx)

pub member_names : (ctx : Context) (n : ℕ) (shapes : List (Option Shape)) (place : CheckedExpr) (s : ℕ) → AreNames ctx n shapes (of_struct place s)
unfolding name_sum
member_names ctx n shapes place s = single_names ctx n shapes (of_struct place s) (member_single ctx place s)

-- a term before an integer
abbrev IsTerm : List (Option Shape) → ℤ × ℕ → Type 0
IsTerm shapes t = is_integer (shape_at shapes t.1) ≡ true

module _ (ctx : Context) (n : ℕ) (shapes : List (Option Shape)) (naming : Naming) (are : AreNames ctx n shapes naming) where
  terms_factors : (ts : List (ℤ × ℕ)) (s : Sum) → All (IsTerm shapes) ts → factors (with_terms ctx naming ts s).parts ≤ factors s.parts + weight ts
  terms_factors [] s all = omega arith
  terms_factors (t ∷ ts) s all =
      let one = scaled t.0 (name_sum ctx naming t.1) in
      let a = scaled_factors t.0 (name_sum ctx naming t.1) (are.integers t.1 (All-head (IsTerm shapes) t ts all)) in
      omega (arith, terms_factors ts (plus s one) (All-tail (IsTerm shapes) t ts all), factors-append s.parts one.parts, a)

  terms_constants : (ts : List (ℤ × ℕ)) (s : Sum) → All (IsTerm shapes) ts → constants (with_terms ctx naming ts s).parts ≤ constants s.parts + weight ts * 2 ^ 32
  terms_constants [] s all = omega arith
  terms_constants (t ∷ ts) s all =
      let one = scaled t.0 (name_sum ctx naming t.1) in
      let a = scaled_constants t.0 (name_sum ctx naming t.1) (are.integers t.1 (All-head (IsTerm shapes) t ts all)) in
      omega (arith, terms_constants ts (plus s one) (All-tail (IsTerm shapes) t ts all), constants-append s.parts one.parts, a)

  base_address : (at : Sum) (o : Option ℕ) → IsAddress n at → IsAddress n (base_sum ctx naming at o)
  base_address at None a = a
  base_address at (Some k) a = are.each k

  pub edge_bound : (at : Sum) (e : Edge) → IsAddress n at → IsEdge shapes e → IsBound n (edge_sum ctx naming at e)
  unfolding edge_sum
  edge_bound at e a is =
      let base = base_sum ctx naming at e.base in
      let from = base_address at e.base a in
      let f = from.factors in
      let c = from.constants in
      let bytes = is.bytes in
      let less = is.weight in
      let p = constant_part e.bytes in
      let one = unsigned_abs-mul (pos 1) e.bytes in
      record {
        factors = omega (arith, terms_factors e.terms (beyond base e.bytes) is.integers, factors-append base.parts (p ∷ []));
        constants = omega (arith, terms_constants e.terms (beyond base e.bytes) is.integers, constants-append base.parts (p ∷ []));
      }

  pub low_bound : (at : Sum) (b : Bounds) → IsAddress n at → IsBounds shapes b → IsBound n (low_sum ctx naming at b)
  unfolding low_sum
  low_bound at bounds.Hidden a is = address_bound n at a
  low_bound at bounds.Nullterm a is = address_bound n at a
  low_bound at (bounds.Within lo hi) a is = edge_bound at lo a is.0

  pub high_bound : (at : Sum) (b : Bounds) → IsAddress n at → IsBounds shapes b → IsBound n (high_sum ctx naming at b)
  unfolding high_sum
  high_bound at bounds.Hidden a is = address_bound n at a
  high_bound at bounds.Nullterm a is = address_bound n at a
  high_bound at (bounds.Within lo hi) a is = edge_bound at hi a is.1
