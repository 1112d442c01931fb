-- What is handed over where a pointer to an element is wanted: the null constant, or a pointer to that very element.
use Rattle.std.proofs.Common.{◌≡◌, ℕ, Bool, true, false, ◌&&◌, ◌==◌, List, [], ℤ, pos, Option, Some, None, if◌then◌else◌, refl}
use Rattle.std.proofs.Common.{sym, ap, ◌∙◌, subst}
use Rattle.std.specs.Ordering.{int_eq}
use Rattle.std.proofs.lemmas.Bool.Decides.{Decides-eqb, Decides-int_eq}
use Rattle.sd_base.specs.Blocks.{Block}
use Rattle.checked_tree.specs.declared.shapes.Scalar.{Scalar}
use Rattle.checked_tree.specs.declared.shapes.Scalar.TheVariants.{Void, U8, I8, U16, I16, I32, U32, Pointer}
use Rattle.checked_tree.specs.declared.units.CheckedFn.{CheckedFn}
use Rattle.checked_tree.specs.Conditions.{State}
use Rattle.checked_tree.specs.Eval.{eval}
use Rattle.checked_tree.specs.Outcome.{Safe}
use Rattle.deputy_types.specs.declared.element.Element.{Element}
use Rattle.deputy_types.specs.declared.element.Element.TheVariants as element
use Rattle.deputy_types.specs.Fitting.{null}
use Rattle.deputy_types.specs.Table.{element_at}
use Rattle.deputy_types.specs.Types.{same_scalar, same_element}
use Rattle.deputy_types.proofs.Inversions.{some_then}
use Rattle.deputy_rules.specs.declared.derived.Derived.{Derived}
use Rattle.deputy_rules.specs.declared.derived.Pointed.{Pointed}
use Rattle.deputy_rules.specs.declared.derived.Value.{Value}
use Rattle.deputy_rules.specs.declared.derived.Value.TheVariants as value
use Rattle.deputy_rules.specs.declared.handed.Handed.{Handed}
use Rattle.deputy_rules.specs.Coercion.{null as null_handed, handed_over, handed_value, handed}
use Rattle.deputy_rules.specs.Context.{Context}
use Rattle.deputy_rules.specs.Operators.{same_truth}
use Rattle.deputy_rules.specs.Pointers.{is_written}
use Rattle.deputy_rules.specs.Values.{value_of}
use Rattle.deputy_rules.proofs.SumsHave.{has_constant}
use Rattle.driver_safety.specs.Derivations.{IsValue, IsDerived}
use Rattle.driver_safety.specs.Goodness.{IsGood}
use Rattle.driver_safety.specs.Reaching.{Reaches}
use Rattle.driver_safety.specs.TypeFacts.{HasTypes, HasSlots, key_shape}
use Rattle.driver_safety.proofs.assignments.HandedRules.{IsHanded}
use Rattle.driver_safety.proofs.checks.Evaluations.{safe_same, safe_weaker, eval-Null}
use Rattle.driver_safety.proofs.expressions.FitsAndReaches.{fits}
use Rattle.driver_safety.proofs.expressions.ReadRules.{value_sound}

-- ---- what is compared as the same is the same
both_first : (a b : Bool) → (a && b) ≡ true → a ≡ true
both_first true b h = refl
both_first false b h = absurd cc

both_second : (a b : Bool) → (a && b) ≡ true → b ≡ true
both_second true b h = h
both_second false b h = absurd cc

pub truth_is : (a b : Bool) → same_truth a b ≡ true → a ≡ b
truth_is true true h = refl
truth_is true false h = absurd cc
truth_is false true h = absurd cc
truth_is false false h = refl

scalar_is : (a b : Scalar) → same_scalar a b ≡ true → a ≡ b
scalar_is Void Void h = refl
scalar_is U8 U8 h = refl
scalar_is I8 I8 h = refl
scalar_is U16 U16 h = refl
scalar_is I16 I16 h = refl
scalar_is I32 I32 h = refl
scalar_is U32 U32 h = refl
scalar_is (Pointer n) (Pointer m) h = ap Pointer ((Decides-eqb n m).0 h)
scalar_is _ _ h = absurd cc

pub element_is : (a b : Element) → same_element a b ≡ true → a ≡ b
element_is (element.Int a) (element.Int b) h = ap (λ (s : Scalar). element.Int s) (scalar_is a b h)
element_is (element.Struct a) (element.Struct b) h = ap (λ (n : ℕ). element.Struct n) ((Decides-eqb a b).0 h)
element_is (element.Sentinel a) (element.Sentinel b) h = ap (λ (n : ℕ). element.Sentinel n) ((Decides-eqb a b).0 h)
element_is (element.Nullterm a) (element.Nullterm b) h = ap (λ (n : ℕ). element.Nullterm n) ((Decides-eqb a b).0 h)
element_is (element.Count a m) (element.Count b n) h =
    ap (λ (k : ℕ). element.Count k m) ((Decides-eqb a b).0 (both_first (a == b) (int_eq m n) h)) ∙ ap (λ (z : ℤ). element.Count b z)
    ((Decides-int_eq m n).0 (both_second (a == b) (int_eq m n) h))
element_is _ _ h = absurd cc

some_same : {A : Type 0} (a b : A) → ◌≡◌ {A = Option A} (Some a) (Some b) → a ≡ b
some_same a b h = cc

if_is : {A : Type 0} (b : Bool) (x a : A) → (if b then Some x else None) ≡ Some a → (b ≡ true) × (x ≡ a)
if_is true x a h = (refl, some_same x a h)
if_is false x a h = absurd cc

module _ (f : CheckedFn) (ctx : Context) (blocks : List Block) (st : State) (good : IsGood ctx blocks st) (types : HasTypes ctx.table)
    (slots : HasSlots ctx) where
  abbrev pub Hands : Handed → ℕ → Bool → Type 0
  Hands h elem nullterm = Safe (eval [] f st h.form) (IsHanded f ctx blocks st types h elem nullterm)

  null_hands : (elem : ℕ) (nullterm : Bool) → Hands null_handed elem nullterm
  null_hands elem nullterm = safe_same _ _ _ (eval-Null f st) (record {
    word = refl;
    at = has_constant st (pos 0);
    lo = pos 0;
    low = has_constant st (pos 0);
    hi = pos 0;
    high = has_constant st (pos 0);
    none = λ e. refl;
    fits = null refl;
  })

  pointer_hands : (p : Pointed) (key : Element) (elem : ℕ) (nullterm : Bool) → element_at ctx.table elem ≡ Some key → p.elem ≡ key
      → p.nullterm ≡ nullterm
      → IsValue f ctx blocks st (value.Pointer p) → Hands (handed_over p) elem nullterm
  pointer_hands p key elem nullterm is same text d = safe_weaker (eval [] f st p.form) _ _ d (λ v e here. record {
    word = here.word;
    at = here.at;
    lo = here.lo;
    low = here.low;
    hi = here.hi;
    high = here.high;
    none = λ g. absurd cc;
    fits = fits blocks ctx.table.elems ctx.table.structs elem (key_shape ctx.table p.elem)
        ((types.elements elem key is).0 ∙ ap (λ (k : Element). Some (key_shape ctx.table k)) (sym same)) nullterm here.lo here.hi v
        (subst (λ (b : Bool). Reaches blocks ctx.table.elems ctx.table.structs (key_shape ctx.table p.elem) b here.lo here.hi v) text
        here.fits);
  })

  value_hands : (key : Element) (elem : ℕ) (nullterm : Bool) (v : Value) (h : Handed) → element_at ctx.table elem ≡ Some key
      → handed_value key nullterm v ≡ Some h
      → IsValue f ctx blocks st v → Hands h elem nullterm
  unfolding handed_value
  value_hands key elem nullterm value.Null h is e d = subst (λ (x : Handed). Hands x elem nullterm) (some_same null_handed h e)
      (null_hands elem nullterm)
  value_hands key elem nullterm (value.Int w) h is e d =
      subst (λ (x : Handed). Hands x elem nullterm) (if_is (is_written 0 w.written) null_handed h e).1 (null_hands elem nullterm)
  value_hands key elem nullterm (value.Pointer p) h is e d =
      let r = if_is (same_element p.elem key && same_truth p.nullterm nullterm) (handed_over p) h e in
      subst (λ (x : Handed). Hands x elem nullterm) r.1
      (pointer_hands p key elem nullterm is (element_is p.elem key (both_first (same_element p.elem key) (same_truth p.nullterm nullterm)
      r.0))
      (truth_is p.nullterm nullterm (both_second (same_element p.elem key) (same_truth p.nullterm nullterm) r.0)) d)

  pub handed_sound : (key : Element) (elem : ℕ) (nullterm : Bool) (d : Derived) (h : Handed) → element_at ctx.table elem ≡ Some key
      → handed ctx key nullterm d ≡ Some h
      → IsDerived f ctx blocks st d → Hands h elem nullterm
  handed_sound key elem nullterm d h is e known =
      let v = some_then (value_of ctx d) (λ v. handed_value key nullterm v) h e in
      value_hands key elem nullterm v.0 h is v.2 (value_sound f ctx blocks st good types slots d v.0 v.1 known)
