-- The declarations of a text, item by item: what each adds, and that all stay within the limits.
use Rattle.std.proofs.Common.{◌≡◌, ℕ, ◌+◌, ◌<◌, nat_le, nat_lt, false, List, [], ◌∷◌, ◌++◌, length, Some, Ok, subst}
use Rattle.std.proofs.lemmas.Bool.{leb-false}
use Rattle.c_tree.specs.declared.items.GlobalItem.{GlobalItem}
use Rattle.c_tree.specs.declared.items.Item.{Item}
use Rattle.c_tree.specs.declared.items.Item.TheVariants as item
use Rattle.c_tree.specs.declared.items.StructItem.{StructItem}
use Rattle.c_tree.specs.declared.limits.LimitKind.TheVariants as limit
use Rattle.deputy_types.specs.declared.global.GlobalShape.{GlobalShape}
use Rattle.deputy_types.specs.declared.refusal.TypeRefusal.TheVariants as refusal
use Rattle.deputy_types.specs.declared.types.Types.{Types}
use Rattle.deputy_types.specs.StructLayout.{or_no_decl, struct_laid}
use Rattle.deputy_types.specs.UnitLayout.{IsDeclared, global_declared, with_global_shape, with_global, with_struct, with_taken, with_body, with_function, strings_behind, with_item, with_items}
use Rattle.deputy_types.proofs.DeclaredFacts.{laid_number, struct_within, global_within, body_within}
use Rattle.deputy_types.proofs.Inversions.{ok_then, ok_declared}
use Rattle.deputy_types.specs.declared.laying.Laid.{Laid}
use Rattle.deputy_types.specs.declared.unit_items.Declared.{Declared}
use Rattle.layout_laws.proofs.Steps.{else_ok}
use Rattle.layout_laws.proofs.StructExtents.{laid_is_extent}

-- what a struct adds
pub record AddsStruct (types : Types) (d : Declared) (s : StructItem) (after : Declared) : Type 0 where
  pub laid : Laid
  pub is : struct_laid types d.extents (length d.extents) s ≡ Ok laid
  pub next : record d { extents = d.extents ++ laid.extent ∷ [] } ≡ after

pub adds_struct : (types : Types) (d : Declared) (s : StructItem) (next : Declared) → with_struct types d s ≡ Ok next → AddsStruct types d s next
unfolding with_struct
adds_struct types d s next h =
    let a = ok_then (struct_laid types d.extents (length d.extents) s) (λ laid. Ok (record d { extents = d.extents ++ laid.extent ∷ [] })) next h in
    record { laid = a.0; is = a.1; next = cc }

-- what a global adds
pub record AddsGlobal (types : Types) (d : Declared) (g : GlobalItem) (after : Declared) : Type 0 where
  pub shape : GlobalShape
  pub is : global_declared types d g ≡ Some shape
  pub few : length d.globals + length d.lines < 1024
  pub next : with_global_shape d g.declaration.name shape ≡ after

pub adds_global : (types : Types) (d : Declared) (g : GlobalItem) (next : Declared) → with_global types d g ≡ Ok next → AddsGlobal types d g next
unfolding with_global
adds_global types d g next h =
    let a = ok_then (or_no_decl g.line (global_declared types d g)) _ next h in
    let b = else_ok (nat_le 1024 (length d.globals + length d.lines)) (Ok (with_global_shape d g.declaration.name a.0)) (refusal.Limit g.line limit.Globals) next a.2 in
    record { shape = a.0; is = ok_declared g.line (global_declared types d g) a.0 a.1; few = leb-false 1024 _ b.test; next = cc }

-- what a function with a body adds
pub record AddsBody (d : Declared) (name : List ℕ) (line strings : ℕ) (after : Declared) : Type 0 where
  pub bodies : d.bodies < 4096
  pub few : nat_lt 1024 (length d.globals + strings) ≡ false
  pub next : with_body d name line strings ≡ after

pub adds_body : (d : Declared) (name : List ℕ) (line strings : ℕ) (next : Declared) → with_function d name line strings ≡ Ok next → AddsBody d name line strings next
unfolding with_function
adds_body d name line strings next h =
    let a = else_ok (nat_le 4096 d.bodies) _ (refusal.Limit line limit.Functions) next h in
    let b = else_ok (nat_lt 1024 (length d.globals + strings)) (Ok (with_body d name line strings)) (refusal.Limit line limit.Globals) next a.rest in
    record { bodies = leb-false 4096 d.bodies a.test; few = b.test; next = cc }

-- ---- all stay within the limits
pub item_within : (types : Types) (ends : List ℕ) (d : Declared) (x : Item) (next : Declared) → IsDeclared d → with_item types ends d x ≡ Ok next → IsDeclared next
unfolding with_item
item_within types ends d (item.Struct s) next h k =
    let a = adds_struct types d s next k in
    subst (λ (o : Declared). IsDeclared o) a.next
    (struct_within d a.laid.extent h (laid_number types d.extents (length d.extents) s a.laid a.is) (laid_is_extent types d.extents (length d.extents) s a.laid h.extents a.is))
item_within types ends d (item.Global g) next h k =
    let a = adds_global types d g next k in
    subst (λ (o : Declared). IsDeclared o) a.next (global_within d g.declaration.name a.shape h a.few)
item_within types ends d (item.Function f) next h k =
    let a = adds_body d f.head.name f.head.line (strings_behind ends d) next k in
    subst (λ (o : Declared). IsDeclared o) a.next (body_within d f.head.name f.head.line (strings_behind ends d) h a.few)
item_within types ends d (item.Prototype p) next h k =
    let same : with_taken d p.name ≡ next = cc in
    subst (λ (o : Declared). IsDeclared o) same (record { extents = h.extents; structs = h.structs; names = h.names; blocks = h.blocks })

pub items_within : (types : Types) (ends : List ℕ) (d : Declared) (items : List Item) (out : Declared) → IsDeclared d → with_items types ends d items ≡ Ok out → IsDeclared out
items_within types ends d [] out h k = let e : d ≡ out = cc in subst (λ (o : Declared). IsDeclared o) e h
items_within types ends d (x ∷ xs) out h k =
    let a = ok_then (with_item types ends d x) (λ next. with_items types ends next xs) out k in
    items_within types ends a.0 xs out (item_within types ends d x a.0 h a.1) a.2
