-- There are as many lines of strings, noted at the functions in which they stand, as there are strings; and as many functions with bodies as the text has.
use Rattle.std.proofs.Common.{◌≡◌, ℕ, ◌+◌, ◌-◌, List, [], ◌∷◌, ◌++◌, length, replicate, Option, Some, unwrap_or, slice_get, Ok, refl, sym, ◌∙◌, ap, subst, arith}
use Rattle.std.proofs.lemmas.List.{length-append, length-replicate, length_push}
use Rattle.c_tree.specs.declared.items.Item.{Item}
use Rattle.c_tree.specs.declared.items.Item.TheVariants as item
use Rattle.c_tree.specs.declared.items.Unit.{Unit as TextUnit}
use Rattle.deputy_types.specs.declared.found.Found.{Found}
use Rattle.deputy_types.specs.declared.types.Types.{Types}
use Rattle.deputy_types.specs.Found.{first_found, found_elements, found_whole, found_function, found_item, found_items, with_fields, with_head, struct_names}
use Rattle.deputy_types.specs.UnitLayout.{nothing_declared, with_global_shape, with_body, with_taken, strings_behind, with_item, with_items}
use Rattle.deputy_types.proofs.Inversions.{ok_then}
use Rattle.layout_laws.proofs.Declarations.{adds_struct, adds_global, adds_body}
use Rattle.layout_laws.proofs.FoundGrowth.{FindsFunction, function_found, items_found}
use Rattle.layout_laws.proofs.Lists.{Extends, slice_behind, slice_extended}
use Rattle.deputy_types.specs.declared.unit_items.Declared.{Declared}
use Rattle.layout_laws.proofs.Steps.{types_in, found_in}

-- the strings that stand before the end of a function
ends_there : (f g : Found) (ends : List ℕ) (d : Declared) → FindsFunction f g → Extends g.ends ends → length f.ends ≡ d.bodies → strings_behind ends d ≡ length g.strings
ends_there f g ends d h e same =
    let listed : slice_get (f.ends ++ length g.strings ∷ []) (length f.ends + 0) ≡ Some (length g.strings) =
    slice_behind f.ends (length g.strings ∷ []) 0 (length f.ends) (length g.strings) refl refl in
    let here : slice_get g.ends (length f.ends + 0) ≡ Some (length g.strings) =
    subst (λ (l : List ℕ). slice_get l (length f.ends + 0) ≡ Some (length g.strings)) (sym h.ends) listed in
    let there : slice_get ends (length f.ends + 0) ≡ Some (length g.strings) = slice_extended g.ends ends (length f.ends + 0) (length g.strings) e here in
    let place : length f.ends + 0 ≡ d.bodies = omega arith in
    ap (λ (o : Option ℕ). unwrap_or o 0) (subst (λ (n : ℕ). slice_get ends n ≡ Some (length g.strings)) place there)

-- with a body each string found so far has its line
body_lines : (f g : Found) (ends : List ℕ) (d : Declared) (name : List ℕ) (line : ℕ) → FindsFunction f g → Extends g.ends ends → length f.ends ≡ d.bodies
    → length d.lines ≡ length f.strings → length (with_body d name line (strings_behind ends d)).lines ≡ length g.strings
body_lines f g ends d name line h e same lines =
    let behind : strings_behind ends d ≡ length g.strings = ends_there f g ends d h e same in
    let grown : length g.strings ≡ length f.strings + length h.strings.more =
    ap (λ (l : List (List ℕ)). length l) h.strings.is ∙ length-append f.strings h.strings.more in
    let added : length (d.lines ++ replicate (strings_behind ends d - length d.lines) line) ≡ length d.lines + (strings_behind ends d - length d.lines) =
    length-append d.lines (replicate (strings_behind ends d - length d.lines) line)
    ∙ ap (λ (n : ℕ). length d.lines + n) (length-replicate (strings_behind ends d - length d.lines) line) in
    omega (arith, added, behind, grown, lines)

-- declarations that go with what was found
pub record GoTogether (d : Declared) (f : Found) : Type 0 where
  pub bodies : length f.ends ≡ d.bodies
  pub lines : length d.lines ≡ length f.strings

function_together : (f g : Found) (ends : List ℕ) (d : Declared) (name : List ℕ) (line : ℕ) → FindsFunction f g → Extends g.ends ends → GoTogether d f
    → GoTogether (with_body d name line (strings_behind ends d)) g
function_together f g ends d name line h e t = record {
  bodies = ap (λ (l : List ℕ). length l) h.ends ∙ (length_push f.ends (length g.strings) ∙ ap (λ (n : ℕ). n + 1) t.bodies);
  lines = body_lines f g ends d name line h e t.bodies t.lines;
}

pub all_together : (types : Types) (ends : List ℕ) (structs : List (List ℕ)) (d out : Declared) (items : List Item) (f : Found)
    → with_items types ends d items ≡ Ok out → ends ≡ (found_items structs items f).ends → GoTogether d f → GoTogether out (found_items structs items f)
unfolding with_item with_global_shape found_item
all_together types ends structs d out [] f h e t = let same : d ≡ out = cc in subst (λ (x : Declared). GoTogether x f) same t
all_together types ends structs d out (item.Struct s ∷ xs) f h e t =
    let a = ok_then (with_item types ends d (item.Struct s)) (λ next. with_items types ends next xs) out h in
    let one = adds_struct types d s a.0 a.1 in
    let next : Found = found_elements (with_fields structs f.elements s.fields) f in
    all_together types ends structs a.0 out xs next a.2 e (subst (λ (x : Declared). GoTogether x next) one.next (record { bodies = t.bodies; lines = t.lines }))
all_together types ends structs d out (item.Global g ∷ xs) f h e t =
    let a = ok_then (with_item types ends d (item.Global g)) (λ next. with_items types ends next xs) out h in
    let one = adds_global types d g a.0 a.1 in
    let next : Found = found_whole structs g.declaration.type_name f in
    all_together types ends structs a.0 out xs next a.2 e (subst (λ (x : Declared). GoTogether x next) one.next (record { bodies = t.bodies; lines = t.lines }))
all_together types ends structs d out (item.Function g ∷ xs) f h e t =
    let a = ok_then (with_item types ends d (item.Function g)) (λ next. with_items types ends next xs) out h in
    let one = adds_body d g.head.name g.head.line (strings_behind ends d) a.0 a.1 in
    let next : Found = found_function structs g f in
    let all : Extends next.ends ends = subst (λ (l : List ℕ). Extends next.ends l) (sym e) (items_found structs xs next).ends in
    all_together types ends structs a.0 out xs next a.2 e
    (subst (λ (x : Declared). GoTogether x next) one.next (function_together f next ends d g.head.name g.head.line (function_found structs g f) all t))
all_together types ends structs d out (item.Prototype p ∷ xs) f h e t =
    let next : Found = found_elements (with_head structs f.elements p) f in
    all_together types ends structs (with_taken d p.name) out xs next h e (record { bodies = t.bodies; lines = t.lines })

pub lines_of : (u : TextUnit) (d : Declared) → with_items (types_in u) (found_in u).ends nothing_declared u.items ≡ Ok d → GoTogether d (found_in u)
lines_of u d h = all_together (types_in u) (found_in u).ends (struct_names u.items []) nothing_declared d u.items first_found h refl (record { bodies = refl; lines = refl })
