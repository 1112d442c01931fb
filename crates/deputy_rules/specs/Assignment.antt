-- `l = e`: the checks of e, those of l's place, that a terminator stays, the coercion of e to l's type with the present values of the
-- names, the coercion of each sibling whose type names l, and that a tag's union is clear.
use Rattle.std.specs.Prelude.{ℕ, true, false, [], ◌∷◌, ◌++◌, ℤ, pos, Some}
use Rattle.sd_base.specs.declared.kinds.CheckKind.TheVariants as kind
use Rattle.c_tree.specs.declared.expressions.Expr.{Expr}
use Rattle.c_tree.specs.Slots.{hidden_slot}
use Rattle.checked_tree.specs.declared.shapes.Bounds.{Bounds}
use Rattle.checked_tree.specs.declared.shapes.Bounds.TheVariants as bounds
use Rattle.checked_tree.specs.declared.shapes.Scalar.{Scalar}
use Rattle.checked_tree.specs.declared.shapes.Scalar.TheVariants.{U8}
use Rattle.checked_tree.specs.declared.shapes.Shape.{Shape}
use Rattle.checked_tree.specs.declared.shapes.Shape.TheVariants as shape
use Rattle.checked_tree.specs.declared.statements.CheckedStmt.{CheckedStmt}
use Rattle.checked_tree.specs.declared.statements.CheckedStmt.TheVariants as statement
use Rattle.deputy_rules.specs.declared.asked.AskedCond.TheVariants.{Term}
use Rattle.deputy_rules.specs.declared.derived.Derived.{Derived}
use Rattle.deputy_rules.specs.declared.derived.Derived.TheVariants as derived
use Rattle.deputy_rules.specs.declared.derived.Place.{Place}
use Rattle.deputy_rules.specs.declared.derived.Source.{Source}
use Rattle.deputy_rules.specs.declared.derived.Source.TheVariants as source
use Rattle.deputy_rules.specs.declared.derived.Whole.{Whole}
use Rattle.deputy_types.specs.declared.element.Element.{Element}
use Rattle.deputy_types.specs.declared.element.Element.TheVariants as element
use Rattle.deputy_rules.specs.declared.handed.Handed.{Handed}
use Rattle.deputy_rules.specs.Changes.{present, struct_names, slot_changes, member_changes, tag_change}
use Rattle.deputy_rules.specs.Coercion.{converted_side, handed, coerce_to, coerce_counted}
use Rattle.deputy_rules.specs.Context.{Context, slot_shape}
use Rattle.deputy_rules.specs.Expressions.{derive}
use Rattle.deputy_rules.specs.Deriving.{Deriving, ◌>>=◌, pure, none, lift, ask}
use Rattle.deputy_rules.specs.Sums.{sum_of}
use Rattle.deputy_types.specs.Table.{element_at, member}
use Rattle.deputy_rules.specs.Values.{address, integer_of, is_nullterm, of_slots}

-- to an integer local
unfoldable pub assign_integer : Context → ℕ → Scalar → Whole → Deriving CheckedStmt
assign_integer ctx slot s w =
    slot_changes ctx slot (sum_of (converted_side s w)) >>= λ ids. pure (statement.Assign ctx.line slot s w.form ids)

-- to a pointer local that takes its bounds with it
unfoldable pub assign_automatic : Context → ℕ → Handed → Deriving CheckedStmt
assign_automatic ctx slot h = lift (hidden_slot ctx.locals slot) >>= λ hidden. slot_changes ctx slot h.at >>= λ ids.
    pure (statement.AssignAutomatic ctx.line slot hidden (record { value = h.form; low = h.low; high = h.high }) ids)

-- to a pointer local or parameter with an annotation
unfoldable pub assign_annotated : Context → ℕ → Element → Bounds → Handed → Deriving CheckedStmt
assign_annotated ctx slot key b h = coerce_to ctx of_slots key b h >>= λ ids. slot_changes ctx slot h.at >>= λ more.
    pure (statement.Assign ctx.line slot address h.form (ids ++ more))

-- to a pointer local or parameter
unfoldable pub assign_pointer : Context → ℕ → Element → Bounds → Derived → Deriving CheckedStmt
assign_pointer ctx slot key bounds.Hidden x = lift (handed ctx key false x) >>= assign_automatic ctx slot
assign_pointer ctx slot key bounds.Nullterm x = lift (handed ctx key true x) >>= assign_annotated ctx slot key bounds.Nullterm
assign_pointer ctx slot key (bounds.Within lo hi) x = lift (handed ctx key false x) >>= assign_annotated ctx slot key (bounds.Within lo hi)

-- to a local or parameter of this shape
unfoldable pub assign_local : Context → ℕ → Derived → Shape → Deriving CheckedStmt
assign_local ctx slot x (shape.Int s) = lift (integer_of ctx x) >>= assign_integer ctx slot s
assign_local ctx slot x (shape.Pointer elem b) = lift (element_at ctx.table elem) >>= λ key. assign_pointer ctx slot key b x
assign_local ctx slot x (shape.Struct k) = none
assign_local ctx slot x shape.Address = none

-- to a place that no sibling names: a pointer to so many elements
unfoldable pub store_counted : Context → Place → Derived → ℕ → ℤ → Deriving CheckedStmt
store_counted ctx p x n count =
    lift (element_at ctx.table n) >>= λ key. lift (handed ctx key false x) >>= λ h. coerce_counted ctx key count h >>= λ ids.
    pure (statement.Store ctx.line address p.form h.form ids)

-- a pointer to text
unfoldable pub store_text : Context → Place → Derived → ℕ → Deriving CheckedStmt
store_text ctx p x n =
    lift (element_at ctx.table n) >>= λ key. lift (handed ctx key true x) >>= λ h. pure (statement.Store ctx.line address p.form h.form [])

-- an integer
unfoldable pub store_integer : Context → Place → Derived → Scalar → Deriving CheckedStmt
store_integer ctx p x s = lift (integer_of ctx x) >>= λ w. pure (statement.Store ctx.line s p.form w.form [])

unfoldable pub store_element : Context → Place → Derived → Element → Deriving CheckedStmt
store_element ctx p x (element.Int s) = store_integer ctx p x s
store_element ctx p x (element.Struct k) = none
store_element ctx p x (element.Sentinel n) = store_counted ctx p x n (pos 0)
store_element ctx p x (element.Nullterm n) = store_text ctx p x n
store_element ctx p x (element.Count n count) = store_counted ctx p x n count

-- to a byte through a nullterm pointer: the terminator is not overwritten, unless by another
unfoldable pub store_byte : Context → Place → Whole → Deriving CheckedStmt
store_byte ctx p w =
    ask ctx kind.Term (Term p.at (Some (converted_side U8 w))) >>= λ id. pure (statement.Store ctx.line U8 p.form w.form (id ∷ []))

-- to an integer field or arm, the m-th member, at this offset
unfoldable pub store_number : Context → Place → ℕ → ℕ → ℕ → Scalar → Whole → Deriving CheckedStmt
store_number ctx p s m offset scalar w = member_changes ctx p s m (sum_of (converted_side scalar w)) >>= λ ids.
    tag_change ctx p s m offset scalar (converted_side scalar w) >>= λ more.
    pure (statement.Store ctx.line scalar p.form w.form (ids ++ more))

-- to a pointer field or arm
unfoldable pub store_pointer : Context → Place → ℕ → ℕ → Element → Bounds → Handed → Deriving CheckedStmt
store_pointer ctx p s m key b h = coerce_to ctx (present (struct_names p s)) key b h >>= λ ids. member_changes ctx p s m h.at >>= λ more.
    pure (statement.Store ctx.line address p.form h.form (ids ++ more))

-- to a field or arm of this shape at this offset
unfoldable pub store_member : Context → Place → Derived → ℕ → ℕ → ℕ → Shape → Deriving CheckedStmt
store_member ctx p x s m offset (shape.Int scalar) = lift (integer_of ctx x) >>= store_number ctx p s m offset scalar
store_member ctx p x s m offset (shape.Pointer elem b) =
    lift (element_at ctx.table elem) >>= λ key. lift (handed ctx key (is_nullterm b) x) >>= store_pointer ctx p s m key b
store_member ctx p x s m offset (shape.Struct k) = none
store_member ctx p x s m offset shape.Address = none

-- to a place
abbrev pub store_by : Context → Place → Derived → Source → Deriving CheckedStmt
store_by ctx p x (source.Element key) = store_element ctx p x key
store_by ctx p x source.Text = lift (integer_of ctx x) >>= store_byte ctx p
store_by ctx p x (source.Member s m) = lift (member ctx.table s m) >>= λ y. store_member ctx p x s m y.offset y.shape

unfoldable pub store : Context → Place → Derived → Deriving CheckedStmt
store ctx p x = store_by ctx p x p.source

-- to what was derived
unfoldable pub assign_to : Context → Derived → Derived → Deriving CheckedStmt
assign_to ctx x (derived.Local slot) = lift (slot_shape ctx slot) >>= assign_local ctx slot x
assign_to ctx x (derived.Place p) = store ctx p x
assign_to ctx x (derived.Value v) = none
assign_to ctx x (derived.Array a) = none
assign_to ctx x (derived.Union u) = none

-- `l = e`
unfoldable pub assign : Context → Expr → Expr → Deriving CheckedStmt
assign ctx l e = derive ctx e >>= λ x. derive ctx l >>= λ y. assign_to ctx x y
