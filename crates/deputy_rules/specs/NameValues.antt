-- Values of names: what the names in an annotation stand for in a state, so that the bounds that the rules write as sums are those that the
-- annotation gives.
use Rattle.std.specs.Prelude.{◌≡◌, IsTrue, ℕ, ◌+◌, ◌<◌, ◌^◌, List, [], ◌∷◌, All, ℤ, pos, Option, Some, None, Ok, slice_get, slice_index_or}
use Rattle.byte_memory.specs.Tested.{is_inside}
use Rattle.checked_tree.specs.declared.expressions.CheckedExpr.{CheckedExpr}
use Rattle.checked_tree.specs.declared.shapes.Edge.{Edge}
use Rattle.checked_tree.specs.declared.shapes.Member.{Member}
use Rattle.checked_tree.specs.declared.shapes.Scalar.TheVariants.{Void}
use Rattle.checked_tree.specs.declared.shapes.Shape.{Shape}
use Rattle.checked_tree.specs.declared.shapes.Shape.TheVariants as shape
use Rattle.checked_tree.specs.declared.shapes.StructShape.{StructShape}
use Rattle.checked_tree.specs.declared.sums.Part.{Part}
use Rattle.checked_tree.specs.declared.sums.Part.TheVariants.{Constant, Atom}
use Rattle.checked_tree.specs.Conditions.{State, peek}
use Rattle.checked_tree.specs.Numbers.{is_value, scalar_size}
use Rattle.deputy_rules.specs.declared.naming.Naming.{Naming}
use Rattle.deputy_rules.specs.Context.{Context}
use Rattle.deputy_rules.specs.SumValues.{HasValue}
use Rattle.deputy_rules.specs.Values.{loaded_as, name_sum}
use Rattle.deputy_types.specs.Table.{Table}

-- a part that stands once
abbrev pub IsOnce : Part → Type 0
IsOnce (Constant k z) = k ≡ pos 1
IsOnce (Atom k e) = k ≡ pos 1

abbrev pub AreOnce : List Part → Type 0
AreOnce [] = Unit {0}
AreOnce (p ∷ ps) = IsOnce p × AreOnce ps

-- the names of terms have the values of the siblings, and stand once
abbrev pub TermsHave : State → Context → Naming → (ℕ → ℤ) → List (ℤ × ℕ) → Type 0
TermsHave st ctx n sibling [] = Unit {0}
TermsHave st ctx n sibling (t ∷ ts) =
    HasValue st (name_sum ctx n t.1) (sibling t.1) × AreOnce (name_sum ctx n t.1).parts × TermsHave st ctx n sibling ts

-- and so has the name with which an address begins
abbrev pub BaseHas : State → Context → Naming → (ℕ → ℤ) → Option ℕ → Type 0
BaseHas st ctx n sibling None = Unit {0}
BaseHas st ctx n sibling (Some k) = HasValue st (name_sum ctx n k) (sibling k)

-- the names of one side of an annotation
pub record HaveNames (st : State) (ctx : Context) (n : Naming) (sibling : ℕ → ℤ) (e : Edge) : Type 0 where
  pub base : BaseHas st ctx n sibling e.base
  pub terms : TermsHave st ctx n sibling e.terms

-- the value of a slot
abbrev pub local_at : State → ℕ → ℤ
local_at st k = slice_index_or st.locals k (pos 0)

-- what a name can stand for: an integer or a pointer
abbrev pub IsNumber : Shape → Type 0
IsNumber (shape.Int Void) = ⊥
IsNumber (shape.Int s) = Unit {0}
IsNumber (shape.Pointer elem b) = Unit {0}
IsNumber _ = ⊥

-- a member with this number that is an integer or a pointer, and lies inside the memory
pub record IsNamed (st : State) (a : ℕ) (t : StructShape) (k : ℕ) : Type 0 where
  pub member : Member
  pub found : slice_get t.members k ≡ Some member
  pub number : IsNumber member.shape
  pub below : a + member.offset < 2 ^ 32
  pub inside : IsTrue (is_inside st.memory (a + member.offset) (scalar_size (loaded_as member.shape)))

-- the members that one side of an annotation names
abbrev pub IsNamedBase : State → ℕ → StructShape → Option ℕ → Type 0
IsNamedBase st a t None = Unit {0}
IsNamedBase st a t (Some k) = IsNamed st a t k

pub record AreNamed (st : State) (a : ℕ) (t : StructShape) (e : Edge) : Type 0 where
  pub base : IsNamedBase st a t e.base
  pub terms : All (λ x. IsNamed st a t x.1) e.terms

-- a struct place at an address: its expression has this value, its type is this one, and the memory has bytes
pub record IsStructPlace (st : State) (table : Table) (place : CheckedExpr) (a s : ℕ) (t : StructShape) : Type 0 where
  pub address : peek st place ≡ Ok (pos a)
  pub struct_is : slice_get table.structs s ≡ Some t
  pub bytes : All (λ b. b < 256) st.memory.bytes
