-- What a step asks of the kernel is lawful; a handler may be called with a number; and a text may be read up to its end.
use Rattle.std.proofs.Common.{◌≡◌, IsTrue, ℕ, ◌+◌, ◌-◌, ◌<◌, ◌≤◌, nat_lt, Bool, true, false, List, [], ◌∷◌, ℤ, pos, Option, Some, None}
use Rattle.std.proofs.Common.{option_map, slice_index_or, if◌then◌else◌, refl, sym, ap, ◌∙◌, subst, arith}
use Rattle.std.proofs.lemmas.Bool.Decides.{nat_tests}
use Rattle.std.proofs.lemmas.Option.{slice_get-map}
use Rattle.byte_memory.specs.Tested.{is_inside}
use Rattle.sd_base.specs.Blocks.{Block, block_end}
use Rattle.c_tree.specs.declared.items.Unit.{Unit as TextUnit}
use Rattle.checked_tree.specs.declared.shapes.Scalar.TheVariants.{Void, U8, I8, U16, I16, I32, U32, Pointer}
use Rattle.checked_tree.specs.declared.shapes.Shape.{Shape}
use Rattle.checked_tree.specs.declared.shapes.Shape.TheVariants as shape
use Rattle.checked_tree.specs.declared.units.CheckedUnit.{CheckedUnit}
use Rattle.checked_tree.specs.declared.kernel.KernelCall.{KernelCall}
use Rattle.checked_tree.specs.Step.{Activity, Wants, step}
use Rattle.deputy_types.specs.Table.{Table}
use Rattle.deputy_types.specs.UnitLayout.{functions_of}
use Rattle.deputy_rules.specs.declared.signature.Signature.{Signature}
use Rattle.deputy_rules.specs.Calls.{takes_int, is_void}
use Rattle.deputy_rules.specs.Heads.{parameter_shapes, signature_of}
use Rattle.driver_safety.specs.Activities.{IsAsking, IsNext}
use Rattle.driver_safety.specs.Asking.{IsLawfulCall}
use Rattle.driver_safety.specs.AskLaw.{EachCallIsLawful, EachHandlerTakesANumber, EachTextIsReadable}
use Rattle.driver_safety.specs.Goodness.{IsBlock}
use Rattle.driver_safety.specs.StepLaw.{AreIntegers, signatures_of, terms_of}
use Rattle.driver_safety.proofs.calls.Receiving.{some_same}
use Rattle.driver_safety.proofs.checks.GivenOutcomes.{given}
use Rattle.driver_safety.proofs.declarations.FunctionHeads.{seen}
use Rattle.driver_safety.proofs.declarations.FewItems.{few_items}
use Rattle.driver_safety.proofs.declarations.TableFacts.{table_is}
use Rattle.driver_safety.proofs.steps.UnitSteps.{function_checked, each_step}

lawful : (u : TextUnit) (t : Table) (c : CheckedUnit) (blocks : List Block) (waiting : Activity) (call : KernelCall)
    → IsAsking c (terms_of u t) blocks waiting call → IsLawfulCall t blocks (signatures_of u t) call
lawful u t c blocks [] call h = absurd h
lawful u t c blocks (top ∷ below) call h = h.asked.1

pub each_call : EachCallIsLawful
each_call u t c is blocks frames waiting m call activity memory e =
    let next = given (step c frames m) (IsNext c (terms_of u t) blocks) (Wants waiting call)
    (each_step u t c is blocks frames m activity memory) e in
    lawful u t c blocks waiting call next.1

-- ---- text
pub each_text : EachTextIsReadable
each_text t blocks m good a text n some = by (nat_lt (a + n) (block_end text.block)) refl
  where
    own : IsBlock t blocks m text.block
    own = good.each text.block text.granted

    pos_same : (i j : ℕ) → pos i ≡ pos j → i ≡ j
    pos_same i j e = cc

    here : a ≡ text.at
    here = pos_same a text.at text.is

    by : (b : Bool) → nat_lt (a + n) (block_end text.block) ≡ b → IsTrue (is_inside m (a + n) 1)
    by true e =
        let less : a + n < block_end text.block = grind (arith, nat_tests) in
        let from = text.from in
        own.inside (a + n) 1 (omega (arith, from, here)) (omega (arith, less))
    by false e =
        let past : block_end text.block ≤ a + n = grind (arith, nat_tests) in
        let below = text.below in
        let last : a + (block_end text.block - 1 - a) ≡ block_end text.block - 1 = omega (arith, below, here) in
        let less : block_end text.block - 1 - a < n = omega (arith, past, below, here) in
        absurd (some (block_end text.block - 1 - a) less (ap (λ (k : ℕ). slice_index_or m.bytes k 0) last ∙ own.ends text.text))

-- ---- handlers
one_number : (ss : List (Option Shape)) (v : ℤ) → takes_int ss ≡ true → AreIntegers ss (v ∷ [])
one_number [] v e = absurd cc
one_number (None ∷ ss) v e = absurd cc
one_number (Some (shape.Pointer n b) ∷ ss) v e = absurd cc
one_number (Some (shape.Struct n) ∷ ss) v e = absurd cc
one_number (Some shape.Address ∷ ss) v e = absurd cc
one_number (Some (shape.Int I32) ∷ []) v e = tt
one_number (Some (shape.Int I32) ∷ (s ∷ ss)) v e = absurd cc
one_number (Some (shape.Int U32) ∷ ss) v e = absurd cc
one_number (Some (shape.Int I16) ∷ ss) v e = absurd cc
one_number (Some (shape.Int U16) ∷ ss) v e = absurd cc
one_number (Some (shape.Int I8) ∷ ss) v e = absurd cc
one_number (Some (shape.Int U8) ∷ ss) v e = absurd cc
one_number (Some (shape.Int Void) ∷ ss) v e = absurd cc
one_number (Some (shape.Int (Pointer size)) ∷ ss) v e = absurd cc

pub each_handler : EachHandlerTakesANumber
each_handler u t c is k h v g at = one_number (parameter_shapes t g.head.params) v params
  where
    same : h.signature ≡ signature_of t g
    same = some_same h.signature (signature_of t g)
        (sym h.found ∙ (slice_get-map (signature_of t) (functions_of u.items) k ∙ ap (option_map (signature_of t)) at))

    first : (b d : Bool) → (if b then d else false) ≡ true → b ≡ true
    first true d e = refl
    first false d e = absurd cc

    params : takes_int (parameter_shapes t g.head.params) ≡ true
    params =
        let types = table_is u t is.laid is.arms (few_items u is.short) in
        let z = function_checked u t c types is.short is.laid is.derived k g at in
        subst (λ (ss : List (Option Shape)). takes_int ss ≡ true) (seen t g z.1.stands 0 0)
        (subst (λ (s : Signature). takes_int s.params ≡ true) same
        (first (takes_int h.signature.params) (is_void h.signature.result) h.handles))
