-- What holds of the declarations so far stays so with each item.
use Rattle.std.proofs.Common.{◌≡◌, ℕ, zero, suc, ◌+◌, ◌<◌, ◌≤◌, Bool, true, false, cond, List, [], ◌∷◌, ◌++◌, length, nat_lt, nat_le, Some, None, Result, Ok, refl, sym, ap, is_ok, true≢false, arith}
use Rattle.std.proofs.lemmas.List.{length-append, length-replicate}
use Rattle.std.proofs.lemmas.Bool.{leb-false, ltb-false}
use Rattle.c_tree.specs.declared.items.StructItem.{StructItem}
use Rattle.deputy_types.specs.declared.extent.Extent.{Extent}
use Rattle.deputy_types.specs.declared.global.GlobalShape.{GlobalShape}
use Rattle.deputy_types.specs.declared.laying.Laid.{Laid}
use Rattle.deputy_types.specs.declared.refusal.TypeRefusal.{TypeRefusal}
use Rattle.deputy_types.specs.declared.types.Types.{Types}
use Rattle.deputy_types.specs.declared.unit_items.Declared.{Declared}
use Rattle.deputy_types.specs.Extents.{AreExtents, IsExtent, struct_extent}
use Rattle.deputy_types.specs.Found.{with_name}
use Rattle.deputy_types.specs.StructLayout.{head_of_struct, is_number, struct_laid, unless}
use Rattle.deputy_types.specs.Types.{struct_number}
use Rattle.deputy_types.specs.UnitLayout.{IsDeclared, with_global_shape, with_body}

-- extents with one more
extent_at : (extents : List Extent) (x : Extent) (s : ℕ) → ((t : ℕ) → IsExtent (struct_extent extents t)) → IsExtent x → IsExtent (struct_extent (extents ++ x ∷ []) s)
extent_at [] x zero each h = h
extent_at [] x (suc s) each h = each 0
extent_at (y ∷ ys) x zero each h = each 0
extent_at (y ∷ ys) x (suc s) each h = extent_at ys x s (λ t. each (suc t)) h

pub extents-push : (extents : List Extent) (x : Extent) → AreExtents extents → IsExtent x → AreExtents (extents ++ x ∷ [])
extents-push extents x all h = record { each = λ s. extent_at extents x s all.each h }

-- a struct that was laid out has a number below the limit
laid_below : (number : ℕ) (known over : Bool) (rest : Result Laid TypeRefusal) (laid : Laid) (limit clash : TypeRefusal)
    → nat_le 256 number ≡ over → unless (cond known (cond over (Some limit) None) (Some clash)) rest ≡ Ok laid → number < 256
laid_below number true false rest laid limit clash e h = leb-false 256 number e
laid_below number true true rest laid limit clash e h = absurd (true≢false (sym (ap is_ok h)))
laid_below number false over rest laid limit clash e h = absurd (true≢false (sym (ap is_ok h)))

pub laid_number : (types : Types) (extents : List Extent) (number : ℕ) (s : StructItem) (laid : Laid) → struct_laid types extents number s ≡ Ok laid → number < 256
unfolding struct_laid head_of_struct
laid_number types extents number s laid h = laid_below number (is_number number (struct_number types.structs s.name)) (nat_le 256 number) _ laid _ _ refl h

-- with a struct
pub struct_within : (d : Declared) (x : Extent) → IsDeclared d → length d.extents < 256 → IsExtent x → IsDeclared (record d { extents = d.extents ++ x ∷ [] })
struct_within d x h few extent = record {
  extents = extents-push d.extents x h.extents extent;
  structs = rw length-append (omega arith);
  names = h.names;
  blocks = h.blocks;
}

-- with a global
named_length : (names : List (List ℕ)) (x : List ℕ) (known room : Bool) → length (cond known names (cond room (names ++ x ∷ []) names)) ≤ length names + 1
named_length names x true room = omega arith
named_length names x false true = rw length-append (omega arith)
named_length names x false false = omega arith

pub with_name_length : (names : List (List ℕ)) (x : List ℕ) → length (with_name names x) ≤ length names + 1
unfolding with_name
with_name_length names x = named_length names x _ _

pub global_within : (d : Declared) (name : List ℕ) (g : GlobalShape) → IsDeclared d → length d.globals + length d.lines < 1024 → IsDeclared (with_global_shape d name g)
unfolding with_global_shape
global_within d name g h few = record {
  extents = h.extents;
  structs = h.structs;
  names = let more = with_name_length d.names name in let fewer = h.names in rw length-append (omega arith);
  blocks = rw length-append (omega arith);
}

-- with a body
pub body_within : (d : Declared) (name : List ℕ) (line strings : ℕ) → IsDeclared d → nat_lt 1024 (length d.globals + strings) ≡ false → IsDeclared (with_body d name line strings)
body_within d name line strings h few =
    let room : length d.globals + strings ≤ 1024 = ltb-false _ _ few in
    let before : length d.globals + length d.lines ≤ 1024 = h.blocks in
    record {
      extents = h.extents;
      structs = h.structs;
      names = h.names;
      blocks = rw (length-append, length-replicate) (omega arith);
    }
