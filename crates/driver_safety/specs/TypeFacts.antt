-- What the laws take of the types of a text and of a function's slots. Each is a fact about what the declarations of a text come to.
use Rattle.std.specs.Prelude.{◌≡◌, ◌≢◌, ◌⊎◌, ℕ, ◌+◌, ◌<◌, ◌≤◌, true, false, List, All, ℤ, Option, Some, None, slice_get}
use Rattle.c_tree.specs.Slots.{hidden_slot}
use Rattle.c_tree.specs.declared.types.TypeName.{TypeName}
use Rattle.checked_tree.specs.declared.shapes.Bounds.{Bounds}
use Rattle.checked_tree.specs.declared.shapes.Bounds.TheVariants as bounds
use Rattle.checked_tree.specs.declared.shapes.Edge.{Edge}
use Rattle.checked_tree.specs.declared.shapes.Member.{Member}
use Rattle.checked_tree.specs.declared.shapes.Scalar.{Scalar}
use Rattle.checked_tree.specs.declared.shapes.Scalar.TheVariants.{Void, U8, I8, U16, I16, I32, U32, Pointer}
use Rattle.checked_tree.specs.declared.shapes.Shape.{Shape}
use Rattle.checked_tree.specs.declared.shapes.Shape.TheVariants as shape
use Rattle.checked_tree.specs.declared.shapes.StructShape.{StructShape}
use Rattle.checked_tree.specs.declared.shapes.UnionShape.{UnionShape}
use Rattle.deputy_types.specs.declared.element.Element.{Element}
use Rattle.deputy_types.specs.declared.element.Element.TheVariants as element
use Rattle.checked_tree.specs.declared.units.ImageBlock.{ImageBlock}
use Rattle.deputy_types.specs.declared.table.GlobalPlace.{GlobalPlace}
use Rattle.deputy_types.specs.Extents.{key_extent}
use Rattle.deputy_types.specs.Fitting.{is_open, shape_size}
use Rattle.deputy_types.specs.Table.{Table, element_at, field, arm, global, literal, member_key, is_array, size, has_names}
use Rattle.deputy_types.specs.UnitLayout.{elem_shape}
use Rattle.deputy_rules.specs.Context.{Context, slot_shape}
use Rattle.deputy_rules.specs.NameValues.{IsNumber}
use Rattle.driver_safety.specs.StructPlaces.{AreTidy}

-- an integer type
abbrev pub IsInteger : Scalar → Type 0
IsInteger Void = ⊥
IsInteger (Pointer size) = ⊥
IsInteger U8 = Unit {0}
IsInteger I8 = Unit {0}
IsInteger U16 = Unit {0}
IsInteger I16 = Unit {0}
IsInteger I32 = Unit {0}
IsInteger U32 = Unit {0}

-- the shape of a type
abbrev pub key_shape : Table → Element → Shape
key_shape t key = elem_shape t.types.elements t.extents key

-- the element with this number is `char`
abbrev pub IsText : Table → ℕ → Type 0
IsText t n = (key : Element) → element_at t n ≡ Some key → key ≡ element.Int U8

-- a type: an integer is not `void`, and what is nullterm points to `char`
abbrev pub IsType : Table → Element → Type 0
IsType t (element.Int s) = IsInteger s
IsType t (element.Struct s) = Unit {0}
IsType t (element.Sentinel n) = Unit {0}
IsType t (element.Nullterm n) = IsText t n
IsType t (element.Count n k) = Unit {0}

-- so a pointer that is declared
abbrev pub IsTextPointer : Table → ℕ → Bounds → Type 0
IsTextPointer t elem bounds.Hidden = Unit {0}
IsTextPointer t elem bounds.Nullterm = IsText t elem
IsTextPointer t elem (bounds.Within lo hi) = Unit {0}

-- a pointer that is no local has bounds of its own
abbrev pub IsAnnotated : Table → ℕ → Bounds → Type 0
IsAnnotated t elem bounds.Hidden = ⊥
IsAnnotated t elem bounds.Nullterm = IsText t elem
IsAnnotated t elem (bounds.Within lo hi) = Unit {0}

abbrev pub IsDeclared : Table → Shape → Type 0
IsDeclared t (shape.Int s) = IsInteger s
IsDeclared t (shape.Pointer elem b) = IsAnnotated t elem b
IsDeclared t (shape.Struct s) = Unit {0}
IsDeclared t shape.Address = ⊥

-- ---- names in the annotations of a struct
-- a member that an annotation can name: an integer or a pointer, alone, and no arm
pub record IsSibling (t : StructShape) (k : ℕ) : Type 0 where
  pub member : Member
  pub found : slice_get t.members k ≡ Some member
  pub number : IsNumber member.shape
  pub one : member.count ≡ 1
  pub no_arm : member.arm ≡ None

abbrev pub IsBaseOf : StructShape → Option ℕ → Type 0
IsBaseOf t None = Unit {0}
IsBaseOf t (Some k) = IsSibling t k

-- what is counted is an integer
abbrev pub IsIntegerMember : StructShape → ℕ → Type 0
IsIntegerMember t k = (m : Member) × (slice_get t.members k ≡ Some m) × (s : Scalar) × (m.shape ≡ shape.Int s)

pub record NamesSiblings (t : StructShape) (e : Edge) : Type 0 where
  pub base : IsBaseOf t e.base
  pub terms : All (λ x. IsSibling t x.1) e.terms
  pub integers : All (λ x. IsIntegerMember t x.1) e.terms

abbrev pub BoundsNameSiblings : StructShape → Bounds → Type 0
BoundsNameSiblings t bounds.Hidden = Unit {0}
BoundsNameSiblings t bounds.Nullterm = Unit {0}
BoundsNameSiblings t (bounds.Within lo hi) = NamesSiblings t lo × NamesSiblings t hi

abbrev pub ShapeNamesSiblings : StructShape → Shape → Type 0
ShapeNamesSiblings t (shape.Int s) = Unit {0}
ShapeNamesSiblings t (shape.Pointer elem b) = BoundsNameSiblings t b
ShapeNamesSiblings t (shape.Struct s) = Unit {0}
ShapeNamesSiblings t shape.Address = Unit {0}

-- a pointer's bounds begin at itself or at another one
abbrev pub BoundsNameOthers : ℕ → Bounds → Type 0
BoundsNameOthers k bounds.Hidden = Unit {0}
BoundsNameOthers k bounds.Nullterm = Unit {0}
BoundsNameOthers k (bounds.Within lo hi) = (lo.base ≢ Some k) × (hi.base ≢ Some k)

abbrev pub ShapeNamesOthers : ℕ → Shape → Type 0
ShapeNamesOthers k (shape.Int s) = Unit {0}
ShapeNamesOthers k (shape.Pointer elem b) = BoundsNameOthers k b
ShapeNamesOthers k (shape.Struct s) = Unit {0}
ShapeNamesOthers k shape.Address = Unit {0}

-- ---- a struct
-- a member that is a struct is open: no annotation, no tag and no union speaks of it
abbrev pub IsOpenStruct : StructShape → ℕ → Member → Shape → Type 0
IsOpenStruct t k m (shape.Struct s) = is_open t k m ≡ true
IsOpenStruct t k m (shape.Int s) = Unit {0}
IsOpenStruct t k m (shape.Pointer elem b) = Unit {0}
IsOpenStruct t k m shape.Address = Unit {0}

-- an arm in the union with this number: it is alone, begins with the union, ends within it, and names nothing
pub record IsArmIn (table : Table) (t : StructShape) (u : ℕ) (m : Member) : Type 0 where
  pub union : UnionShape
  pub union_is : slice_get t.unions u ≡ Some union
  pub one : m.count ≡ 1
  pub from : m.offset ≡ union.offset
  pub to : shape_size table.structs m.shape ≤ union.size
  pub nameless : has_names m.shape ≡ false

pub record IsMemberOf (table : Table) (s : ℕ) (t : StructShape) (k : ℕ) (m : Member) : Type 0 where
  pub some : 0 < m.count
  pub declared : IsDeclared table m.shape
  -- alone, or an array, which is open
  pub single : is_array table s k ≡ false → m.count ≡ 1
  pub array : is_array table s k ≡ true → is_open t k m ≡ true
  pub structure : IsOpenStruct t k m m.shape
  pub names : ShapeNamesSiblings t m.shape
  pub own : ShapeNamesOthers k m.shape
  -- an arm of a union that is there, within its bytes, whose annotation names nothing
  pub arm : (u : ℕ) (z : ℤ) → m.arm ≡ Some (u, z) → IsArmIn table t u m
  -- the type of the member, where its annotation is constant
  pub typed : (key : Element) → member_key table s k ≡ Some key → (m.shape ≡ key_shape table key) × IsType table key

-- the tag of a union: an integer, alone, and no arm
pub record IsTag (t : StructShape) (k : ℕ) : Type 0 where
  pub member : Member
  pub found : slice_get t.members k ≡ Some member
  pub scalar : Scalar
  pub shape_is : member.shape ≡ shape.Int scalar
  pub integer : IsInteger scalar
  pub one : member.count ≡ 1
  pub no_arm : member.arm ≡ None

-- the arm that has all bytes of a union
pub record IsFilled (table : Table) (t : StructShape) (u : ℕ) (x : UnionShape) : Type 0 where
  pub number : ℕ
  pub member : Member
  pub found : slice_get t.members number ≡ Some member
  pub constant : ℤ
  pub arm_is : member.arm ≡ Some (u, constant)
  pub size : shape_size table.structs member.shape ≡ x.size

pub record IsStructOf (table : Table) (s : ℕ) (t : StructShape) : Type 0 where
  pub members : (k : ℕ) (m : Member) → slice_get t.members k ≡ Some m → IsMemberOf table s t k m
  pub fields : (name : List ℕ) (k : ℕ) (m : Member) → field table s name ≡ Some k → slice_get t.members k ≡ Some m → m.arm ≡ None
  pub arms : (u : ℕ) (name : List ℕ) (k : ℕ) (m : Member) → arm table s u name ≡ Some k → slice_get t.members k ≡ Some m → (z : ℤ)
      × (m.arm ≡ Some (u, z)) × (m.count ≡ 1)
  pub tags : (u : ℕ) (x : UnionShape) → slice_get t.unions u ≡ Some x → IsTag t x.tag
  -- one arm of a union has all its bytes
  pub filled : (u : ℕ) (x : UnionShape) → slice_get t.unions u ≡ Some x → IsFilled table t u x
  -- a union lies within the struct, and has a tag of its own
  pub unions : (u : ℕ) (x : UnionShape) → slice_get t.unions u ≡ Some x → x.offset + x.size ≤ t.size
  pub own_tag : (u v : ℕ) (x y : UnionShape) → slice_get t.unions u ≡ Some x → slice_get t.unions v ≡ Some y → x.tag ≡ y.tag → x ≡ y
  -- each arm of a union has a constant of its own
  pub distinct : (j k : ℕ) (a b : Member) → slice_get t.members j ≡ Some a → slice_get t.members k ≡ Some b → j ≢ k
      → (u : ℕ) (y z : ℤ) → a.arm ≡ Some (u, y) → b.arm ≡ Some (u, z) → y ≢ z

-- ---- the load image
pub record IsGlobal (b : ImageBlock) : Type 0 where
  pub no_text : b.nullterm ≡ false
  pub some : 0 < b.count

pub record IsString (b : ImageBlock) : Type 0 where
  pub text : b.nullterm ≡ true
  pub some : 0 < b.count

-- ---- a table
pub record HasTypes (t : Table) : Type 0 where
  pub tidy : AreTidy t.structs
  pub structs : (s : ℕ) (x : StructShape) → slice_get t.structs s ≡ Some x → IsStructOf t s x
  -- each element has the shape of its type, and a type has the bytes of its shape
  pub elements : (n : ℕ) (key : Element) → element_at t n ≡ Some key → (slice_get t.elems n ≡ Some (key_shape t key)) × IsType t key
  pub bytes : (key : Element) → shape_size t.structs (key_shape t key) ≡ (key_extent t.extents key).bytes
  pub small : (name : TypeName) (n : ℕ) → size t name ≡ Some n → n ≤ 65536
  pub globals : (name : List ℕ) (g : GlobalPlace) (b : ImageBlock) → global t name ≡ Some g → slice_get t.image g.block ≡ Some b
      → IsGlobal b
  pub strings : (k n : ℕ) (b : ImageBlock) → literal t k ≡ Some n → slice_get t.image n ≡ Some b → IsString b

-- ---- the slots of a function
-- a slot holds an integer, a pointer or a hidden bound
abbrev pub IsSlotShape : Table → Shape → Type 0
IsSlotShape t (shape.Int s) = IsInteger s
IsSlotShape t (shape.Pointer elem b) = IsTextPointer t elem b
IsSlotShape t (shape.Struct s) = ⊥
IsSlotShape t shape.Address = Unit {0}

-- a slot that an annotation can name: an integer or a pointer, and no hidden bound
abbrev pub IsNamedSlot : Context → ℕ → Type 0
IsNamedSlot ctx k = (x : Shape) × (slot_shape ctx k ≡ Some x) × IsNumber x

abbrev pub IsBaseSlot : Context → Option ℕ → Type 0
IsBaseSlot ctx None = Unit {0}
IsBaseSlot ctx (Some k) = IsNamedSlot ctx k

-- what is counted is an integer
abbrev pub IsIntegerSlot : Context → ℕ → Type 0
IsIntegerSlot ctx k = (s : Scalar) × (slot_shape ctx k ≡ Some (shape.Int s))

pub record NamesSlots (ctx : Context) (e : Edge) : Type 0 where
  pub base : IsBaseSlot ctx e.base
  pub terms : All (λ x. IsNamedSlot ctx x.1) e.terms
  pub integers : All (λ x. IsIntegerSlot ctx x.1) e.terms

pub record HasSlots (ctx : Context) : Type 0 where
  pub shapes : (k : ℕ) (x : Shape) → slot_shape ctx k ≡ Some x → IsSlotShape ctx.table x
  pub names : (k elem : ℕ) (lo hi : Edge) → slot_shape ctx k ≡ Some (shape.Pointer elem (bounds.Within lo hi)) → NamesSlots ctx lo
      × NamesSlots ctx hi
  -- a pointer's bounds begin at itself or at another one
  pub own : (k elem : ℕ) (lo hi : Edge) → slot_shape ctx k ≡ Some (shape.Pointer elem (bounds.Within lo hi)) → (lo.base ≢ Some k)
      × (hi.base ≢ Some k)
  -- the hidden slots of an automatic pointer, which no other one has
  pub hidden : (k h : ℕ) → hidden_slot ctx.locals k ≡ Some h → (slot_shape ctx h ≡ Some shape.Address)
      × (slot_shape ctx (h + 1) ≡ Some shape.Address)
  pub apart : (j h k g : ℕ) → hidden_slot ctx.locals j ≡ Some h → hidden_slot ctx.locals k ≡ Some g → j ≢ k → (h + 1 < g) ⊎ (g + 1 < h)
