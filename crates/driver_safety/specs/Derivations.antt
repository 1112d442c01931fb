-- What the rules' expressions are in a good state: an integer in the range of its type, a pointer that reaches what its bounds say, a place
-- in a granted block.
use Rattle.std.specs.Prelude.{◌≡◌, ◌≢◌, IsTrue, ℕ, ◌+◌, ◌*◌, ◌<◌, ◌≤◌, true, false, List, [], ℤ, pos, Some, slice_get}
use Rattle.std.specs.Prelude.{Ok}
use Rattle.std.specs.List.{Contains}
use Rattle.sd_base.specs.Blocks.{Block, block_end}
use Rattle.checked_tree.specs.declared.expressions.CheckedExpr.{CheckedExpr}
use Rattle.checked_tree.specs.declared.shapes.Member.{Member}
use Rattle.checked_tree.specs.declared.shapes.Scalar.{Scalar}
use Rattle.checked_tree.specs.declared.shapes.Scalar.TheVariants.{U8}
use Rattle.checked_tree.specs.declared.shapes.Shape.TheVariants as shape
use Rattle.checked_tree.specs.declared.shapes.StructShape.{StructShape}
use Rattle.checked_tree.specs.declared.units.CheckedFn.{CheckedFn}
use Rattle.checked_tree.specs.Conditions.{State, peek}
use Rattle.checked_tree.specs.Eval.{eval}
use Rattle.checked_tree.specs.Numbers.{is_of, is_word}
use Rattle.checked_tree.specs.Outcome.{Safe}
use Rattle.deputy_types.specs.declared.element.Element.{Element}
use Rattle.deputy_types.specs.declared.element.Element.TheVariants as element
use Rattle.deputy_types.specs.Fitting.{IsInText, is_used}
use Rattle.deputy_rules.specs.declared.derived.ArrayPlace.{ArrayPlace}
use Rattle.deputy_rules.specs.declared.derived.Derived.{Derived}
use Rattle.deputy_rules.specs.declared.derived.Derived.TheVariants as derived
use Rattle.deputy_rules.specs.declared.derived.Place.{Place}
use Rattle.deputy_rules.specs.declared.derived.Pointed.{Pointed}
use Rattle.deputy_rules.specs.declared.derived.Source.{Source}
use Rattle.deputy_rules.specs.declared.derived.Source.TheVariants as source
use Rattle.deputy_rules.specs.declared.derived.UnionPlace.{UnionPlace}
use Rattle.deputy_rules.specs.declared.derived.Value.{Value}
use Rattle.deputy_rules.specs.declared.derived.Value.TheVariants as value
use Rattle.deputy_rules.specs.declared.derived.Whole.{Whole}
use Rattle.deputy_rules.specs.declared.derived.Written.{Written}
use Rattle.deputy_rules.specs.declared.derived.Written.TheVariants as written
use Rattle.deputy_rules.specs.Context.{Context}
use Rattle.deputy_rules.specs.Sums.{side}
use Rattle.deputy_rules.specs.SumValues.{part_at, PartHasValue, HasValue}
use Rattle.deputy_rules.specs.Values.{container, size_of}
use Rattle.driver_safety.specs.Reaching.{Reaches, IsOpenAt}
use Rattle.driver_safety.specs.TypeFacts.{IsInteger, IsType, key_shape}

-- ---- values
-- an integer, in the range of its type, and the same number in a check
pub record IsWhole (st : State) (w : Whole) (z : ℤ) : Type 0 where
  pub range : IsTrue (is_of w.scalar z)
  pub read : PartHasValue st (side w)
  pub is : part_at st (side w) ≡ z

-- a pointer with its bounds
pub record IsPointer (ctx : Context) (blocks : List Block) (st : State) (p : Pointed) (v : ℤ) : Type 0 where
  pub type_is : IsType ctx.table p.elem
  pub text : p.nullterm ≡ true → p.elem ≡ element.Int U8
  pub word : IsTrue (is_word v)
  pub at : HasValue st p.at v
  pub lo : ℤ
  pub low : HasValue st p.low lo
  pub hi : ℤ
  pub high : HasValue st p.high hi
  pub fits : Reaches blocks ctx.table.elems ctx.table.structs (key_shape ctx.table p.elem) p.nullterm lo hi v
  pub sure : p.sure ≡ true → v ≢ pos 0
  -- a nullterm pointer takes no bounds with it
  pub ends : p.nullterm ≡ true → (lo ≡ v) × (hi ≡ v)

-- ---- places, by where their type is declared
-- an element of this type
pub record IsElementAt (ctx : Context) (blocks : List Block) (key : Element) (a : ℕ) : Type 0 where
  pub block : Block
  pub granted : Contains blocks block
  pub no_text : block.layout.nullterm ≡ false
  pub type_is : IsType ctx.table key
  pub place : IsOpenAt ctx.table.elems ctx.table.structs block (key_shape ctx.table key) a

-- a struct place
pub record IsStructAt (ctx : Context) (blocks : List Block) (s a : ℕ) : Type 0 where
  pub block : Block
  pub granted : Contains blocks block
  pub no_text : block.layout.nullterm ≡ false
  pub place : IsOpenAt ctx.table.elems ctx.table.structs block (shape.Struct s) a

-- a member of a struct place, which is no array: an arm only where its union's tag selects it
pub record IsMemberAt (ctx : Context) (blocks : List Block) (st : State) (form : CheckedExpr) (s m a : ℕ) : Type 0 where
  pub struct_at : ℕ
  pub struct_is : peek st (container form) ≡ Ok (pos struct_at)
  pub lies : IsStructAt ctx blocks s struct_at
  pub structure : StructShape
  pub structure_is : slice_get ctx.table.structs s ≡ Some structure
  pub member : Member
  pub member_is : slice_get structure.members m ≡ Some member
  pub one : member.count ≡ 1
  pub used : is_used st.memory.bytes struct_at structure member.arm ≡ true
  pub at : a ≡ struct_at + member.offset

abbrev pub LiesAt : Context → List Block → State → CheckedExpr → Source → ℕ → Type 0
LiesAt ctx blocks st form (source.Element key) a = IsElementAt ctx blocks key a
LiesAt ctx blocks st form source.Text a = IsInText blocks (pos a)
LiesAt ctx blocks st form (source.Member s m) a = IsMemberAt ctx blocks st form s m a

pub record IsPlace (ctx : Context) (blocks : List Block) (st : State) (p : Place) (z : ℤ) : Type 0 where
  pub address : ℕ
  pub is : z ≡ pos address
  pub at : HasValue st p.at z
  pub lies : LiesAt ctx blocks st p.form p.source address

-- an array in a block: each of its elements is open
pub record IsArray (ctx : Context) (blocks : List Block) (st : State) (a : ArrayPlace) (z : ℤ) : Type 0 where
  pub address : ℕ
  pub is : z ≡ pos address
  pub at : HasValue st a.at z
  pub block : Block
  pub granted : Contains blocks block
  pub no_text : block.layout.nullterm ≡ false
  pub type_is : IsType ctx.table a.elem
  pub from : block.base ≤ address
  pub to : address + a.count * size_of ctx a.elem ≤ block_end block
  pub elements : (i : ℕ) → i < a.count → IsOpenAt ctx.table.elems ctx.table.structs block (key_shape ctx.table a.elem)
      (address + i * size_of ctx a.elem)

-- the struct place in which a union lies
pub record IsUnion (ctx : Context) (blocks : List Block) (st : State) (u : UnionPlace) (z : ℤ) : Type 0 where
  pub address : ℕ
  pub is : z ≡ pos address
  pub at : HasValue st u.at z
  pub lies : IsStructAt ctx blocks u.structure address

-- ---- what was derived
-- what is written as a number has an integer type
abbrev pub HasType : Scalar → Written → Type 0
HasType s (written.Number n plain) = IsInteger s
HasType s (written.Constant z) = Unit {0}
HasType s written.Other = Unit {0}

-- in a state in which the function's checks are tested, its evaluation is not wild, and gives what it is
abbrev pub IsValue : CheckedFn → Context → List Block → State → Value → Type 0
IsValue f ctx blocks st (value.Int w) = HasType w.scalar w.written × Safe (eval [] f st w.form) (IsWhole st w)
IsValue f ctx blocks st (value.Pointer p) = Safe (eval [] f st p.form) (IsPointer ctx blocks st p)
IsValue f ctx blocks st value.Null = Unit {0}

abbrev pub IsDerived : CheckedFn → Context → List Block → State → Derived → Type 0
IsDerived f ctx blocks st (derived.Value v) = IsValue f ctx blocks st v
IsDerived f ctx blocks st (derived.Local slot) = Unit {0}
IsDerived f ctx blocks st (derived.Place p) = Safe (eval [] f st p.form) (IsPlace ctx blocks st p)
IsDerived f ctx blocks st (derived.Array a) = (0 < a.count) × Safe (eval [] f st a.form) (IsArray ctx blocks st a)
IsDerived f ctx blocks st (derived.Union u) = Safe (eval [] f st u.container) (IsUnion ctx blocks st u)
