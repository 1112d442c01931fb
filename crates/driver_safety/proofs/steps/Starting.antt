-- What a call from outside starts is good: its numbers are converted to the types of its parameters, which are integers.
use Rattle.std.proofs.Common.{◌≡◌, ℕ, suc, Bool, true, false, List, [], ◌∷◌, ◌++◌, map, ℤ, pos, Option, Some, None, slice_get}
use Rattle.std.proofs.Common.{slice_index_or, if◌then◌else◌, refl, sym, ap, ◌∙◌, subst, append-nil, append_assoc}
use Rattle.sd_base.specs.Blocks.{Block}
use Rattle.c_tree.specs.declared.items.Function.{Function}
use Rattle.c_tree.specs.declared.items.Local.{Local}
use Rattle.c_tree.specs.declared.items.Unit.{Unit as TextUnit}
use Rattle.c_tree.specs.Slots.{is_automatic}
use Rattle.checked_tree.specs.declared.shapes.Shape.{Shape}
use Rattle.checked_tree.specs.declared.shapes.Shape.TheVariants as shape
use Rattle.checked_tree.specs.declared.units.CheckedFn.{CheckedFn}
use Rattle.checked_tree.specs.declared.units.CheckedUnit.{CheckedUnit}
use Rattle.checked_tree.specs.Step.{Activity, converted_arguments, started_frame, started_by, started}
use Rattle.checked_tree.proofs.NumberRanges.{converted_of}
use Rattle.deputy_types.specs.Table.{Table}
use Rattle.deputy_types.specs.UnitLayout.{functions_of}
use Rattle.deputy_rules.specs.Functions.{shapes_of}
use Rattle.deputy_rules.specs.Heads.{parameter_shapes, with_hidden, local_shape, local_siblings, slot_shapes}
use Rattle.driver_safety.specs.Activities.{IsActivity}
use Rattle.driver_safety.specs.Handing.{TakeEach}
use Rattle.driver_safety.specs.StepLaw.{HasGoodArguments, terms_of, IsAccepted, AreIntegers, EachStartIsGood}
use Rattle.driver_safety.specs.TypeFacts.{IsDeclared}
use Rattle.driver_safety.proofs.calls.Receiving.{some_same}
use Rattle.driver_safety.proofs.declarations.FunctionHeads.{has_parameters}
use Rattle.driver_safety.proofs.declarations.FewItems.{few_items}
use Rattle.driver_safety.proofs.declarations.TableFacts.{table_is}
use Rattle.driver_safety.proofs.expressions.ReadRules.{no_void}
use Rattle.driver_safety.proofs.steps.UnitSteps.{function_checked, sound}

-- hidden slots stand behind
hidden_more : (ls : List Local) (shapes : List (Option Shape)) → (more : List (Option Shape)) × (with_hidden ls shapes ≡ shapes ++ more)
hidden_more [] shapes = ([], sym (append-nil shapes))
hidden_more (l ∷ ls) shapes = by (is_automatic l) (λ s. hidden_more ls s)
  where
    two : List (Option Shape)
    two = Some shape.Address ∷ Some shape.Address ∷ []

    by : (b : Bool) → ((s : List (Option Shape)) → (more : List (Option Shape)) × (with_hidden ls s ≡ s ++ more))
        → (more : List (Option Shape)) × (with_hidden ls (if b then shapes ++ (Some shape.Address ∷ Some shape.Address ∷ [])
        else shapes) ≡ shapes ++ more)
    by false f = f shapes
    by true f =
        let r = f (shapes ++ (Some shape.Address ∷ Some shape.Address ∷ [])) in (
          (Some shape.Address ∷ Some shape.Address ∷ []) ++ r.0,
          r.1 ∙ append_assoc shapes
              (Some shape.Address ∷ Some shape.Address ∷ []) r.0,
        )

params_first : (t : Table) (g : Function) → (more : List (Option Shape)) × (slot_shapes t g ≡ parameter_shapes t g.head.params ++ more)
unfolding slot_shapes
params_first t g =
    let ps = parameter_shapes t g.head.params in
    let ls = map (local_shape t (local_siblings t.types g)) g.locals in
    let r = hidden_more g.locals (ps ++ ls) in
    (ls ++ r.0, r.1 ∙ append_assoc ps ls r.0)

-- numbers converted to the types of integer parameters are taken
taken_each : (t : Table) (blocks : List Block) (names : ℕ → ℤ) (ss more : List (Option Shape)) (vs : List ℤ)
    → ((k : ℕ) (s : Shape) → slice_get ss k ≡ Some (Some s) → IsDeclared t s)
    → AreIntegers ss vs → TakeEach t blocks names ss (converted_arguments vs (shapes_of (ss ++ more)))
taken_each t blocks names [] more [] d a = tt
taken_each t blocks names [] more (v ∷ vs) d a = absurd a
taken_each t blocks names (None ∷ ss) more vs d a = absurd a
taken_each t blocks names (Some (shape.Int s) ∷ ss) more [] d a = absurd a
taken_each t blocks names (Some (shape.Int s) ∷ ss) more (v ∷ vs) d a =
    (converted_of s v (no_void s (d 0 (shape.Int s) refl)), taken_each t blocks names ss more vs (λ k x e. d (suc k) x e) a)
taken_each t blocks names (Some (shape.Pointer elem b) ∷ ss) more vs d a = absurd a
taken_each t blocks names (Some (shape.Struct n) ∷ ss) more vs d a = absurd a
taken_each t blocks names (Some shape.Address ∷ ss) more vs d a = absurd a

module _ (u : TextUnit) (t : Table) (c : CheckedUnit) (is : IsAccepted u t c) (k : ℕ) (vs : List ℤ)
    (integers : (g : Function) → slice_get (functions_of u.items) k ≡ Some g
    → AreIntegers (parameter_shapes t g.head.params) vs) (blocks : List Block) where
  frame_good : (f : CheckedFn) → slice_get c.functions k ≡ Some f → IsActivity c (terms_of u t) blocks (started_frame k vs f ∷ [])
  frame_good f at =
      let types = table_is u t is.laid is.arms (few_items u is.short) in
      let all = sound u t c types is.short is.laid is.derived in
      let body = all.bodies k f at in (
        record {
          function = f;
          function_is = at;
          slots = all.enters blocks k f (converted_arguments vs f.slots) at (takes f at);
          runs = body.0;
          ends = body.1;
        },
        tt,
      )
    where
      takes : (f : CheckedFn) → slice_get c.functions k ≡ Some f → HasGoodArguments u t blocks k (converted_arguments vs f.slots)
      takes f at g found =
          let types = table_is u t is.laid is.arms (few_items u is.short) in
          let z = function_checked u t c types is.short is.laid is.derived k g found in
          let same : z.0 ≡ f = some_same z.0 f (sym z.1.made ∙ at) in
          let first = params_first t g in
          let slots : f.slots ≡ shapes_of (parameter_shapes t g.head.params ++ first.0) = ap
          (λ (x : CheckedFn). x.slots) (sym same) ∙ (z.1.slots ∙ ap shapes_of first.1) in
          subst (λ l. TakeEach t blocks
          (λ i. slice_index_or (converted_arguments vs l) i (pos 0)) (parameter_shapes t g.head.params) (converted_arguments vs l))
          (sym slots)
          (taken_each t blocks (λ i. slice_index_or (converted_arguments vs (shapes_of (parameter_shapes t g.head.params ++ first.0))) i
          (pos 0)) (parameter_shapes t g.head.params) first.0 vs
          (has_parameters t g z.1.stands 0 0).declared (integers g found))

  start_good : (o : Option CheckedFn) (frames : Activity) → slice_get c.functions k ≡ o → started_by k vs o ≡ Some frames
      → IsActivity c (terms_of u t) blocks frames
  start_good None frames at e = absurd cc
  start_good (Some f) frames at e = subst
      (λ (a : Activity). IsActivity c (terms_of u t) blocks a) (some_same (started_frame k vs f ∷ []) frames e) (frame_good f at)

pub each_start : EachStartIsGood
unfolding started
each_start u t c is k vs frames e integers blocks = start_good u t c is k vs integers blocks (slice_get c.functions k) frames refl e
