-- What an assignment changes in the types of its siblings (Hoare's axiom of assignment): each pointer whose annotation names the assigned
-- slot or member has to fit its own type with the new value in the name's place. All its checks have the kind Change.
use Rattle.std.specs.Prelude.{ℕ, ◌+◌, ◌==◌, if◌then◌else◌, List, [], ◌∷◌, ◌++◌, map, pos, negsuc, Option, Some, None, find, option_map}
use Rattle.std.specs.Prelude.{slice_get, unwrap_or}
use Rattle.sd_base.specs.declared.kinds.CheckKind.TheVariants as kind
use Rattle.checked_tree.specs.declared.expressions.CheckedExpr.TheVariants as form
use Rattle.checked_tree.specs.declared.shapes.Bounds.{Bounds}
use Rattle.checked_tree.specs.declared.shapes.Member.{Member}
use Rattle.checked_tree.specs.declared.shapes.Scalar.{Scalar}
use Rattle.checked_tree.specs.declared.shapes.Shape.{Shape}
use Rattle.checked_tree.specs.declared.shapes.Shape.TheVariants as shape
use Rattle.checked_tree.specs.declared.shapes.UnionShape.{UnionShape}
use Rattle.checked_tree.specs.declared.sums.Part.{Part}
use Rattle.checked_tree.specs.declared.sums.Part.TheVariants.{Constant}
use Rattle.checked_tree.specs.declared.sums.Sum.{Sum}
use Rattle.deputy_rules.specs.declared.asked.AskedCond.TheVariants.{Kept}
use Rattle.deputy_rules.specs.declared.derived.Place.{Place}
use Rattle.deputy_types.specs.declared.element.Element.{Element}
use Rattle.deputy_rules.specs.declared.naming.Names.{Names}
use Rattle.deputy_rules.specs.declared.naming.Names.TheVariants as names
use Rattle.deputy_rules.specs.declared.naming.Naming.{Naming}
use Rattle.deputy_rules.specs.Coercion.{coerce}
use Rattle.deputy_rules.specs.Context.{Context}
use Rattle.deputy_rules.specs.Deriving.{Deriving, ◌>>=◌, pure, lift, ask}
use Rattle.deputy_rules.specs.Sums.{atom_part, beyond, with_part}
use Rattle.deputy_types.specs.Table.{Table, bounds_name, element_at, members_of}
use Rattle.deputy_rules.specs.Values.{size_of, name_sum, low_sum, high_sum, container}

-- names as they are, and with a new value for one
abbrev pub present : Names → Naming
present names = record { names = names; change = None }

abbrev pub changed : Names → ℕ → Sum → Naming
changed names k new = record { names = names; change = Some (record { name = k; value = new }) }

-- the coercion of a pointer with this value and its present bounds to its own type with the new value
abbrev pub change_at : Context → Naming → Naming → Bounds → Element → Sum → Deriving (List ℕ)
change_at ctx old new b key at =
    coerce ctx kind.Change kind.Change at (low_sum ctx old at b) (high_sum ctx old at b) (low_sum ctx new at b) (high_sum ctx new at b)
    (size_of ctx key)

-- of the sibling with number i, whose name has its present value among the old ones
unfoldable pub pointer_change : Context → Naming → Naming → ℕ → Bounds → Element → Deriving (List ℕ)
pointer_change ctx old new i b key = change_at ctx old new b key (name_sum ctx old i)

-- the checks of the sibling with number i, where its type names the k-th, which has a new value
unfoldable pub sibling_change : Context → Naming → Naming → ℕ → ℕ → Shape → Deriving (List ℕ)
sibling_change ctx old new k i (shape.Int s) = pure []
sibling_change ctx old new k i (shape.Pointer elem b) =
    if bounds_name k b then (lift (element_at ctx.table elem) >>= pointer_change ctx old new i b) else pure []
sibling_change ctx old new k i (shape.Struct n) = pure []
sibling_change ctx old new k i shape.Address = pure []

abbrev pub optional_change : Context → Naming → Naming → ℕ → ℕ → Option Shape → Deriving (List ℕ)
optional_change ctx old new k i None = pure []
optional_change ctx old new k i (Some s) = sibling_change ctx old new k i s

-- the checks of all siblings, in the order of their declarations, from number i on, behind those that were asked for
abbrev pub sibling_changes : Context → Naming → Naming → ℕ → ℕ → List (Option Shape) → List ℕ → Deriving (List ℕ)
sibling_changes ctx old new k i [] ids = pure ids
sibling_changes ctx old new k i (s ∷ ss) ids =
    optional_change ctx old new k i s >>= λ more. sibling_changes ctx old new k (i + 1) ss (ids ++ more)

-- where a slot has a new value
unfoldable pub slot_changes : Context → ℕ → Sum → Deriving (List ℕ)
slot_changes ctx slot new = sibling_changes ctx (present names.OfSlots) (changed names.OfSlots slot new) slot 0 ctx.slots []

-- the shapes of a struct's members
abbrev pub shape_of : Member → Option Shape
shape_of m = Some m.shape

-- names that are read in the struct place in which this place lies
abbrev pub struct_names : Place → ℕ → Names
struct_names p s = names.OfStruct (container p.form) s

-- where a member of a struct place has a new value
unfoldable pub member_changes : Context → Place → ℕ → ℕ → Sum → Deriving (List ℕ)
member_changes ctx p s m new =
    sibling_changes ctx (present (struct_names p s)) (changed (struct_names p s) m new) m 0 (map shape_of (members_of ctx.table s)) []

-- the union of which a member is the tag
abbrev pub unions_of : Table → ℕ → List UnionShape
unions_of t s = unwrap_or (option_map (λ x. x.unions) (slice_get t.structs s)) []

abbrev pub tagged : List UnionShape → ℕ → Option UnionShape
tagged unions m = find (λ (u : UnionShape). u.tag == m) unions

-- the address of a union, from that of its tag
unfoldable pub union_address : Sum → ℕ → ℕ → Sum
union_address at tag part = with_part (beyond at (pos part)) (Constant (negsuc 0) (pos tag))

-- the value of a place, as an atom
abbrev pub loaded : Scalar → Place → Part
loaded scalar p = atom_part (form.Load scalar p.form)

-- the tag at this place keeps its value, or all bytes of its union are 0
unfoldable pub ask_kept : Context → Place → ℕ → Scalar → Part → UnionShape → Deriving (List ℕ)
ask_kept ctx p offset scalar new u =
    ask ctx kind.Change (Kept (loaded scalar p) new (union_address p.at offset u.offset) u.size) >>= λ id. pure (id ∷ [])

-- the same where the member is the tag of a union
abbrev pub optional_kept : Context → Place → ℕ → Scalar → Part → Option UnionShape → Deriving (List ℕ)
optional_kept ctx p offset scalar new None = pure []
optional_kept ctx p offset scalar new (Some u) = ask_kept ctx p offset scalar new u

unfoldable pub tag_change : Context → Place → ℕ → ℕ → ℕ → Scalar → Part → Deriving (List ℕ)
tag_change ctx p s m offset scalar new = optional_kept ctx p offset scalar new (tagged (unions_of ctx.table s) m)
