-- Places: names, what a pointer points to, elements, fields and arms, each with its checks.
use Rattle.std.specs.Prelude.{ℕ, Bool, true, false, not, if◌then◌else◌, List, [], ◌∷◌, ◌++◌, ℤ, pos, Option, Some, None, option_map}
use Rattle.std.specs.Prelude.{slice_get}
use Rattle.sd_base.specs.declared.kinds.CheckKind.TheVariants as kind
use Rattle.c_tree.specs.Slots.{slot_named}
use Rattle.checked_tree.specs.declared.expressions.CheckedExpr.TheVariants as form
use Rattle.checked_tree.specs.declared.shapes.Member.{Member}
use Rattle.checked_tree.specs.declared.shapes.Scalar.{Scalar}
use Rattle.checked_tree.specs.declared.shapes.Scalar.TheVariants as scalar
use Rattle.checked_tree.specs.declared.shapes.Shape.{Shape}
use Rattle.checked_tree.specs.declared.shapes.Shape.TheVariants as shape
use Rattle.checked_tree.specs.declared.shapes.UnionShape.{UnionShape}
use Rattle.checked_tree.specs.declared.sums.Sum.{Sum}
use Rattle.checked_tree.specs.declared.units.ImageBlock.{ImageBlock}
use Rattle.deputy_rules.specs.declared.asked.AskedCond.TheVariants as cond
use Rattle.deputy_rules.specs.declared.derived.Derived.{Derived}
use Rattle.deputy_rules.specs.declared.derived.FoundArm.{FoundArm}
use Rattle.deputy_rules.specs.declared.derived.Derived.TheVariants as derived
use Rattle.deputy_rules.specs.declared.derived.Place.{Place}
use Rattle.deputy_rules.specs.declared.derived.Pointed.{Pointed}
use Rattle.deputy_rules.specs.declared.derived.Source.{Source}
use Rattle.deputy_rules.specs.declared.derived.Source.TheVariants as source
use Rattle.deputy_rules.specs.declared.derived.UnionPlace.{UnionPlace}
use Rattle.deputy_rules.specs.declared.derived.Whole.{Whole}
use Rattle.deputy_types.specs.declared.element.Element.{Element}
use Rattle.deputy_types.specs.declared.element.Element.TheVariants as key
use Rattle.deputy_types.specs.declared.table.GlobalPlace.{GlobalPlace}
use Rattle.deputy_rules.specs.Context.{Context, slot_shape}
use Rattle.deputy_rules.specs.Deriving.{Deriving, ◌>>=◌, pure, none, lift, ask}
use Rattle.deputy_types.specs.Options.{and_then}
use Rattle.deputy_rules.specs.Sums.{constant, with_part, beyond, times, side}
use Rattle.deputy_types.specs.Table.{element_at, field, union_of, arm, global, member, member_shape, union_shape, is_array, member_key}
use Rattle.deputy_rules.specs.Values.{size_of, loaded_as, member_part}

-- a global in this block: its address is a constant
abbrev pub block_place : Bool → ImageBlock → Element → Derived
block_place true b key = derived.Array (record { form = form.Block b.base; at = constant (pos b.base); elem = key; count = b.count })
block_place false b key = derived.Place (record { form = form.Block b.base; at = constant (pos b.base); source = source.Element key })

unfoldable pub global_place : Context → GlobalPlace → Option Derived
global_place ctx g =
    and_then (slice_get ctx.table.image g.block) (λ b. option_map (λ key. block_place g.array b key) (element_at ctx.table b.elem))

-- a parameter or local whose declaration is derived
abbrev pub local_of : Context → ℕ → Option Derived
local_of ctx slot = option_map (λ x. derived.Local slot) (slot_shape ctx slot)

-- a name: a parameter or local, which hides a global; else a global
abbrev pub named_by : Context → List ℕ → Option ℕ → Option Derived
named_by ctx x (Some slot) = local_of ctx slot
named_by ctx x None = and_then (global ctx.table x) (λ g. global_place ctx g)

unfoldable pub named : Context → List ℕ → Option Derived
named ctx x = named_by ctx x (slot_named ctx.locals x)

-- Null, `1 <= v`, unless the pointer is sure
abbrev pub not_null_by : Context → Bool → Sum → Deriving (List ℕ)
not_null_by ctx true at = pure []
not_null_by ctx false at = ask ctx kind.Null (cond.Le (constant (pos 1)) at) >>= λ a. pure (a ∷ [])

unfoldable pub not_null : Context → Pointed → Deriving (List ℕ)
not_null ctx p = not_null_by ctx p.sure p.at

-- `*e`, e not nullterm: the place `v`; Null, and Bound `v + s <= hi`
unfoldable pub through : Context → Pointed → Deriving Derived
through ctx p =
    not_null ctx p >>= λ a. ask ctx kind.Bound (cond.Le (beyond p.at (pos (size_of ctx p.elem))) p.high) >>= λ b.
    pure (derived.Place (record { form = form.Through p.form (a ++ b ∷ []); at = p.at; source = source.Element p.elem }))

-- `*e` and `e[0]`, e nullterm: the place `v`; Null
unfoldable pub through_text : Context → Pointed → Deriving Derived
through_text ctx p = not_null ctx p >>= λ a. pure (derived.Place (record { form = form.Through p.form a; at = p.at; source = source.Text }))

-- `*e`
unfoldable pub followed : Context → Pointed → Deriving Derived
followed ctx p = if p.nullterm then through_text ctx p else through ctx p

-- whether a type is `unsigned`
abbrev pub is_unsigned : Scalar → Bool
is_unsigned scalar.U32 = true
is_unsigned scalar.Void = false
is_unsigned scalar.U8 = false
is_unsigned scalar.I8 = false
is_unsigned scalar.U16 = false
is_unsigned scalar.I16 = false
is_unsigned scalar.I32 = false
is_unsigned (scalar.Pointer n) = false

-- Bound `lo <= v`, where it is wanted
abbrev pub not_below : Context → Bool → Sum → Sum → Deriving (List ℕ)
not_below ctx false low at = pure []
not_below ctx true low at = ask ctx kind.Bound (cond.Le low at) >>= λ a. pure (a ∷ [])

-- Bound `v <= hi`, where it is wanted
abbrev pub not_above : Context → Bool → Sum → Sum → Deriving (List ℕ)
not_above ctx false at high = pure []
not_above ctx true at high = ask ctx kind.Bound (cond.Le at high) >>= λ a. pure (a ∷ [])

-- an address moved by so many elements
abbrev pub moved_sum : Sum → Whole → ℤ → Sum
moved_sum at i size = with_part at (times size (side i))

-- Null, Bound `lo <= v + s*i` where i is `int`, Bound `v + s*i + s <= hi`
abbrev pub index_checks : Context → Pointed → Whole → ℕ → Sum → Deriving (List ℕ)
index_checks ctx p i size at =
    not_null ctx p >>= λ a. not_below ctx (not (is_unsigned i.scalar)) p.low at >>= λ b.
    ask ctx kind.Bound (cond.Le (beyond at (pos size)) p.high) >>= λ c. pure ((a ++ b) ++ c ∷ [])

-- `e[i]`, e not nullterm, i integer: the place `v + s*i`
abbrev pub indexed_at : Context → Pointed → Whole → ℕ → Sum → Deriving Derived
indexed_at ctx p i size at =
    index_checks ctx p i size at >>= λ checks.
    pure (derived.Place (record { form = form.Element p.form i.form size checks; at = at; source = source.Element p.elem }))

unfoldable pub indexed : Context → Pointed → Whole → Deriving Derived
indexed ctx p i = indexed_at ctx p i (size_of ctx p.elem) (moved_sum p.at i (pos (size_of ctx p.elem)))

-- what was found of a place's struct, by where its type is declared
abbrev pub struct_by : Option Shape → Option ℕ
struct_by (Some (shape.Struct s)) = Some s
struct_by _ = None

abbrev pub struct_key : Element → Option ℕ
struct_key (key.Struct s) = Some s
struct_key _ = None

unfoldable pub struct_of : Context → Source → Option ℕ
struct_of ctx (source.Element k) = struct_key k
struct_of ctx source.Text = None
struct_of ctx (source.Member s m) = struct_by (member_shape ctx.table s m)

-- a member that is an array, and one that is none, at their offset
abbrev pub plain_member : Place → ℕ → ℕ → ℕ → Derived
plain_member p s m offset =
    derived.Place (record { form = form.Field p.form offset []; at = beyond p.at (pos offset); source = source.Member s m })

abbrev pub array_member : Place → ℕ → ℕ → Element → Derived
array_member p offset count k =
    derived.Array (record { form = form.Field p.form offset []; at = beyond p.at (pos offset); elem = k; count = count })

abbrev pub member_at : Context → Place → ℕ → ℕ → Member → Option Derived
member_at ctx p s m x =
    if is_array ctx.table s m then option_map (λ k. array_member p x.offset x.count k) (member_key ctx.table s m)
    else Some (plain_member p s m x.offset)

-- `l.f`, a field of the struct place l: the place of l plus the offset
unfoldable pub member_place : Context → Place → ℕ → ℕ → Option Derived
member_place ctx p s m = and_then (member ctx.table s m) (λ x. member_at ctx p s m x)

-- `l.u`, a union of the struct place l
abbrev pub union_place : Place → ℕ → ℕ → Derived
union_place p s u = derived.Union (record { container = p.form; at = p.at; structure = s; part = u })

-- `l.f`, by what f names in the struct with this number
abbrev pub part_by : Context → Place → ℕ → List ℕ → Option ℕ → Option Derived
part_by ctx p s f (Some m) = member_place ctx p s m
part_by ctx p s f None = option_map (λ u. union_place p s u) (union_of ctx.table s f)

unfoldable pub part_of : Context → Place → List ℕ → Option Derived
part_of ctx p f = and_then (struct_of ctx p.source) (λ s. part_by ctx p s f (field ctx.table s f))

-- what is looked up of an arm with its union's tag
abbrev pub found_with : ℕ → Member → Member → ℕ × ℤ → FoundArm
found_with m x tag case =
    record { number = m; offset = x.offset; constant = case.1; tag_offset = tag.offset; tag_scalar = loaded_as tag.shape }

abbrev pub found_in : Context → ℕ → ℕ → Member → UnionShape → Option FoundArm
found_in ctx s m x u = and_then (member ctx.table s u.tag) (λ tag. option_map (λ case. found_with m x tag case) x.arm)

abbrev pub found_member : Context → ℕ → ℕ → ℕ → Option FoundArm
found_member ctx s u m = and_then (member ctx.table s m) (λ x. and_then (union_shape ctx.table s u) (λ shape. found_in ctx s m x shape))

unfoldable pub found_arm : Context → ℕ → ℕ → List ℕ → Option FoundArm
found_arm ctx s u a = and_then (arm ctx.table s u a) (λ m. found_member ctx s u m)

-- `l.u.a`, an arm, as a field; Tag: the tag of l equals the arm's constant
abbrev pub arm_at : Context → UnionPlace → FoundArm → Deriving Derived
arm_at ctx u x =
    ask ctx kind.Tag (cond.Equal (member_part u.container x.tag_scalar x.tag_offset) x.constant) >>= λ a.
    pure (derived.Place (record {
      form = form.Field u.container x.offset (a ∷ []);
      at = beyond u.at (pos x.offset);
      source = source.Member u.structure x.number;
    }))

unfoldable pub arm_place : Context → UnionPlace → List ℕ → Deriving Derived
arm_place ctx u a = lift (found_arm ctx u.structure u.part a) >>= λ x. arm_at ctx u x

-- `l.f`
unfoldable pub dotted : Context → Derived → List ℕ → Deriving Derived
dotted ctx (derived.Place p) f = lift (part_of ctx p f)
dotted ctx (derived.Union u) f = arm_place ctx u f
dotted ctx (derived.Value v) f = none
dotted ctx (derived.Local slot) f = none
dotted ctx (derived.Array a) f = none
