-- The law of the kernel's calls: an accepted driver asks, and its state stays; and the local that takes the answer keeps its frame good.
-- The kernel answers a number, which a local of any integer type takes; or, to `kalloc`, null or a block of new elements, which is granted.
use Rattle.std.specs.Prelude.{◌≡◌, ◌⊎◌, IsTrue, ℕ, ◌<◌, false, List, [], ◌∷◌, Option, Some, None}
use Rattle.std.specs.List.{Contains}
use Rattle.sd_base.specs.Blocks.{Block, block_end}
use Rattle.sd_base.specs.declared.actors.Fat.{Fat}
use Rattle.c_tree.specs.declared.expressions.Expr.{Expr}
use Rattle.c_tree.specs.Slots.{hidden_slot}
use Rattle.checked_tree.specs.declared.kernel.Answer.{Answer}
use Rattle.checked_tree.specs.declared.kernel.Answer.TheVariants as answer
use Rattle.checked_tree.specs.declared.shapes.Bounds.TheVariants as bounds
use Rattle.checked_tree.specs.declared.shapes.Shape.TheVariants as shape
use Rattle.checked_tree.specs.declared.statements.Target.{Target}
use Rattle.checked_tree.specs.declared.statements.Target.TheVariants as target
use Rattle.checked_tree.specs.declared.units.CheckedFn.{CheckedFn}
use Rattle.checked_tree.specs.Conditions.{State}
use Rattle.checked_tree.specs.Operands.{null}
use Rattle.checked_tree.specs.Step.{answer_set}
use Rattle.deputy_rules.specs.Calls.{is_named_slot, freed_value}
use Rattle.deputy_rules.specs.Context.{Context, slot_shape}
use Rattle.deputy_rules.specs.declared.asked.Asked.{Asked}
use Rattle.deputy_rules.specs.declared.derived.Derived.{Derived}
use Rattle.deputy_rules.specs.declared.handed.Handed.{Handed}
use Rattle.deputy_rules.specs.Expressions.{derive}
use Rattle.deputy_rules.specs.Values.{value_of}
use Rattle.deputy_types.specs.Options.{and_then}
use Rattle.driver_safety.specs.Goodness.{IsGood}
use Rattle.driver_safety.specs.LightHandling.{IsLightHanded, HandsLightly}
use Rattle.driver_safety.specs.TypeFacts.{HasTypes, HasSlots}
use Rattle.driver_safety.specs.WrittenNumbers.{has_words}

-- a pointer to the first of the new elements in a granted block, with the block's bounds
pub record IsNew (blocks : List Block) (elem : ℕ) (p : Fat) : Type 0 where
  pub block : Block
  pub granted : Contains blocks block
  pub elem_is : block.layout.elem ≡ elem
  pub no_text : block.layout.nullterm ≡ false
  pub some : 0 < block.count
  pub value : p.value ≡ block.base
  pub low : p.lo ≡ block.base
  pub high : p.hi ≡ block_end block

-- what the kernel may answer where elements with this number are asked for
abbrev pub Answers : List Block → ℕ → Answer → Type 0
Answers blocks elem (answer.Number v) = Unit {0}
Answers blocks elem (answer.Pointer p) = (p ≡ null) ⊎ IsNew blocks elem p

-- the local that takes an answer: an integer, or an automatic pointer to such elements, which no annotation names
abbrev pub IsAnswerTarget : Context → ℕ → Option Target → Type 0
IsAnswerTarget ctx elem None = Unit {0}
IsAnswerTarget ctx elem (Some (target.Int slot s)) = (slot_shape ctx slot ≡ Some (shape.Int s)) × (is_named_slot ctx slot ≡ false)
IsAnswerTarget ctx elem (Some (target.Automatic slot hidden)) =
    (slot_shape ctx slot ≡ Some (shape.Pointer elem bounds.Hidden)) × (hidden_slot ctx.locals slot ≡ Some hidden) ×
    (is_named_slot ctx slot ≡ false)
IsAnswerTarget ctx elem (Some (target.Nullterm slot)) = ⊥

-- then the frame is good with the answer, where the blocks are granted that the kernel has granted
abbrev pub EachAnswerIsTaken : Type 0
EachAnswerIsTaken =
    (f : CheckedFn) (ctx : Context) (elem : ℕ) (t : Option Target) → HasTypes ctx.table → HasSlots ctx → IsAnswerTarget ctx elem t
    → (blocks : List Block) (st : State) → IsGood ctx blocks st → (r : Answer) → Answers blocks elem r
    → IsGood ctx blocks (record { locals = answer_set st.locals t r; memory = st.memory })

-- a pointer that is given back has light bounds
abbrev pub FreesLightly : Context → Derived → Type 0
FreesLightly ctx d = (h : Handed) → and_then (value_of ctx d) freed_value ≡ Some h → IsLightHanded h

-- an expression with such words as C's are, whose pointer has light bounds where it is handed over or given back
pub record IsLight (ctx : Context) (e : Expr) : Type 0 where
  pub words : IsTrue (has_words e)
  pub hands : (d : Derived) (asked : List Asked) → derive ctx e [] ≡ Some (d, asked) → HandsLightly ctx d
  pub frees : (d : Derived) (asked : List Asked) → derive ctx e [] ≡ Some (d, asked) → FreesLightly ctx d

abbrev pub AreLight : Context → List Expr → Type 0
AreLight ctx [] = Unit {0}
AreLight ctx (e ∷ es) = IsLight ctx e × AreLight ctx es
