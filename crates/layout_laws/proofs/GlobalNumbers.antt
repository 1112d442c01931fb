-- The block of a global's name is its place among the globals of its text.
use Rattle.std.proofs.Common.{◌≡◌, inl, inr, ℕ, suc, ◌+◌, ◌-◌, ◌^◌, ◌<◌, ◌≤◌, Bool, true, false, not, ◌||◌, cond, List, [], ◌∷◌, ◌++◌, length, map, Option, Some, None, option_map, slice_get, position, is_some, bytes_eq, if◌then◌else◌, Ok, refl, sym, ◌∙◌, ap, subst, append_assoc, true≢false, arith}
use Rattle.std.specs.List.{list_any}
use Rattle.std.proofs.lemmas.Bool.{or_parts, or_left, or_right, or_cases, false_from_ne_true}
use Rattle.std.proofs.lemmas.List.{append-nil, length-map, length_push}
use Rattle.std.proofs.lemmas.List.Folds.{list_any-append}
use Rattle.std.proofs.lemmas.Option.{slice_get-map}
use Rattle.c_tree.specs.declared.items.GlobalItem.{GlobalItem}
use Rattle.c_tree.specs.declared.items.Item.{Item}
use Rattle.c_tree.specs.declared.items.Item.TheVariants as item
use Rattle.deputy_types.specs.declared.global.GlobalShape.{GlobalShape}
use Rattle.deputy_types.specs.declared.table.GlobalPlace.{GlobalPlace}
use Rattle.deputy_types.specs.declared.types.Types.{Types}
use Rattle.deputy_types.specs.Found.{with_name}
use Rattle.checked_tree.specs.KernelTable.{kernel_named}
use Rattle.deputy_types.specs.Options.{and_then}
use Rattle.deputy_types.specs.Table.{Table, global}
use Rattle.deputy_types.specs.Types.{type_key}
use Rattle.deputy_types.specs.UnitLayout.{IsDeclared, nothing_declared, is_new_global, if_declared, global_of, global_declared, with_global_shape, with_taken, strings_behind, with_item, with_items, table_of}
use Rattle.deputy_types.proofs.Inversions.{some_then, some_map, ok_then}
use Rattle.layout_laws.specs.LoadImage.{global_items}
use Rattle.layout_laws.specs.Lookups.{EachGlobalIsFound}
use Rattle.layout_laws.proofs.Declarations.{adds_struct, adds_global, adds_body, item_within}
use Rattle.layout_laws.proofs.GlobalsDeclared.{IsGlobalOf, globals_added}
use Rattle.layout_laws.proofs.Lists.{zip_at}
use Rattle.deputy_types.specs.declared.unit_items.Declared.{Declared}
use Rattle.deputy_types.proofs.DeclaredFacts.{with_name_length}
use Rattle.layout_laws.proofs.Places.{AreFresh, fresh_at, named_at, element_at, with_name_new}
use Rattle.layout_laws.proofs.Steps.{types_in, found_in, steps}
use Rattle.layout_laws.proofs.StructsDeclared.{nothing_is_declared}

-- ---- names that are taken
-- each of these names is among those
pub record AreAmong (names taken : List (List ℕ)) : Type 0 where
  pub each : (name : List ℕ) → list_any (bytes_eq name) names ≡ true → list_any (bytes_eq name) taken ≡ true

kept_by : (p : List ℕ → Bool) (names : List (List ℕ)) (x : List ℕ) (known room : Bool) → list_any p names ≡ true → list_any p (cond known names (cond room (names ++ x ∷ []) names)) ≡ true
kept_by p names x true room h = h
kept_by p names x false true h = list_any-append p names (x ∷ []) ∙ or_left (list_any p names) (list_any p (x ∷ [])) h
kept_by p names x false false h = h

kept_name : (p : List ℕ → Bool) (names : List (List ℕ)) (x : List ℕ) → list_any p names ≡ true → list_any p (with_name names x) ≡ true
unfolding with_name
kept_name p names x h = kept_by p names x _ _ h

among_more : (names taken : List (List ℕ)) (x : List ℕ) → AreAmong names taken → AreAmong names (with_name taken x)
among_more names taken x h = record { each = λ name e. kept_name (bytes_eq name) taken x (h.each name e) }

among_both : (names taken : List (List ℕ)) (x : List ℕ) → AreAmong names taken → AreAmong (names ++ x ∷ []) (taken ++ x ∷ [])
among_both names taken x h = record {
  each = λ name e.
      elim (or_cases (list_any (bytes_eq name) names) (list_any (bytes_eq name) (x ∷ [])) (sym (list_any-append (bytes_eq name) names (x ∷ [])) ∙ e)) [
        | inl k ↦ list_any-append (bytes_eq name) taken (x ∷ []) ∙ or_left (list_any (bytes_eq name) taken) (list_any (bytes_eq name) (x ∷ [])) (h.each name k)
        | inr k ↦ list_any-append (bytes_eq name) taken (x ∷ []) ∙ or_right (list_any (bytes_eq name) taken) (list_any (bytes_eq name) (x ∷ [])) k
      ];
}

-- ---- a global's name is new
pub if_true : {A : Type 0} (b : Bool) (o : Option A) (a : A) → (if b then o else None) ≡ Some a → b ≡ true
if_true true o a h = refl
if_true false o a h = absurd cc

pub not_true : (b : Bool) → not b ≡ true → b ≡ false
not_true true h = absurd cc
not_true false h = refl

name_is_new : (types : Types) (d : Declared) (g : GlobalItem) (x : GlobalShape) → global_declared types d g ≡ Some x → list_any (bytes_eq g.declaration.name) d.taken ≡ false
unfolding global_declared is_new_global
name_is_new types d g x h =
    let known : Bool = list_any (bytes_eq g.declaration.name) d.taken || is_some (kernel_named g.declaration.name) in
    let new : not known ≡ true = if_true (not known) (and_then (and_then (type_key types g.declaration.type_name) (if_declared (length d.extents))) (global_of types d g)) x h in
    (or_parts (list_any (bytes_eq g.declaration.name) d.taken) (is_some (kernel_named g.declaration.name)) (not_true known new)).0

new_among : (names taken : List (List ℕ)) (name : List ℕ) → AreAmong names taken → list_any (bytes_eq name) taken ≡ false → list_any (bytes_eq name) names ≡ false
new_among names taken name h e = false_from_ne_true (list_any (bytes_eq name) names) (λ k. true≢false (sym (h.each name k) ∙ e))

-- ---- the names of the globals
abbrev names_of : List GlobalItem → List (List ℕ)
names_of globals = map (λ (g : GlobalItem). g.declaration.name) globals

record NamesGlobals (d out : Declared) (globals : List GlobalItem) : Type 0 where
  names : out.names ≡ d.names ++ names_of globals
  fresh : AreFresh d.names (names_of globals)

-- names so far, and room for as many as there are items
record HasRoom (d : Declared) (n : ℕ) : Type 0 where
  among : AreAmong d.names d.taken
  room : length d.taken + n < 2 ^ 32 - 1
  within : IsDeclared d

same_names : (d next out : Declared) (globals : List GlobalItem) → next.names ≡ d.names → NamesGlobals next out globals → NamesGlobals d out globals
same_names d next out globals e n = record {
  names = n.names ∙ ap (λ (l : List (List ℕ)). l ++ names_of globals) e;
  fresh = subst (λ (l : List (List ℕ)). AreFresh l (names_of globals)) e n.fresh;
}

taken_room : (d next : Declared) (name : List ℕ) (n : ℕ) → next.names ≡ d.names → next.taken ≡ with_name d.taken name → IsDeclared next → HasRoom d (suc n) → HasRoom next n
taken_room d next name n e f within r =
    let more : length (with_name d.taken name) ≤ length d.taken + 1 = with_name_length d.taken name in
    let long : length next.taken ≡ length (with_name d.taken name) = ap (λ (l : List (List ℕ)). length l) f in
    let before : length d.taken + suc n < 2 ^ 32 - 1 = r.room in
    record {
      among = subst (λ (l : List (List ℕ)). AreAmong l next.taken) (sym e) (subst (λ (l : List (List ℕ)). AreAmong d.names l) (sym f) (among_more d.names d.taken name r.among));
      room = omega arith;
      within = within;
    }

names_added : (types : Types) (ends : List ℕ) (d out : Declared) (items : List Item) → HasRoom d (length items) → with_items types ends d items ≡ Ok out → NamesGlobals d out (global_items items)
unfolding with_item with_global_shape
names_added types ends d out [] r h =
    let e : d ≡ out = cc in
    record { names = ap (λ (x : Declared). x.names) (sym e) ∙ sym (append-nil d.names); fresh = tt }
names_added types ends d out (item.Struct s ∷ xs) r h =
    let a = ok_then (with_item types ends d (item.Struct s)) (λ next. with_items types ends next xs) out h in
    let one = adds_struct types d s a.0 a.1 in
    let names : a.0.names ≡ d.names = ap (λ (x : Declared). x.names) (sym one.next) in
    let taken : a.0.taken ≡ d.taken = ap (λ (x : Declared). x.taken) (sym one.next) in
    let long : length a.0.taken ≡ length d.taken = ap (λ (l : List (List ℕ)). length l) taken in
    let before : length d.taken + suc (length xs) < 2 ^ 32 - 1 = r.room in
    let next : HasRoom a.0 (length xs) = record {
      among = subst (λ (l : List (List ℕ)). AreAmong l a.0.taken) (sym names) (subst (λ (l : List (List ℕ)). AreAmong d.names l) (sym taken) r.among);
      room = omega arith;
      within = item_within types ends d (item.Struct s) a.0 r.within a.1;
    } in
    same_names d a.0 out (global_items xs) names (names_added types ends a.0 out xs next a.2)
names_added types ends d out (item.Global g ∷ xs) r h =
    let a = ok_then (with_item types ends d (item.Global g)) (λ next. with_items types ends next xs) out h in
    let one = adds_global types d g a.0 a.1 in
    let name : List ℕ = g.declaration.name in
    let new : list_any (bytes_eq name) d.taken ≡ false = name_is_new types d g one.shape one.is in
    let absent : list_any (bytes_eq name) d.names ≡ false = new_among d.names d.taken name r.among new in
    let before : length d.taken + suc (length xs) < 2 ^ 32 - 1 = r.room in
    let few : length d.names ≤ length d.globals = r.within.names in
    let globals : length d.globals + length d.lines ≤ 1024 = r.within.blocks in
    let names : a.0.names ≡ d.names ++ name ∷ [] = ap (λ (x : Declared). x.names) (sym one.next) ∙ with_name_new d.names name absent (omega arith) in
    let taken : a.0.taken ≡ d.taken ++ name ∷ [] = ap (λ (x : Declared). x.taken) (sym one.next) ∙ with_name_new d.taken name new (omega arith) in
    let long : length a.0.taken ≡ length d.taken + 1 = ap (λ (l : List (List ℕ)). length l) taken ∙ length_push d.taken name in
    let next : HasRoom a.0 (length xs) = record {
      among = subst (λ (l : List (List ℕ)). AreAmong l a.0.taken) (sym names) (subst (λ (l : List (List ℕ)). AreAmong (d.names ++ name ∷ []) l) (sym taken) (among_both d.names d.taken name r.among));
      room = omega arith;
      within = item_within types ends d (item.Global g) a.0 r.within a.1;
    } in
    let more = names_added types ends a.0 out xs next a.2 in
    record {
      names = more.names ∙ (ap (λ (l : List (List ℕ)). l ++ names_of (global_items xs)) names ∙ append_assoc d.names (name ∷ []) (names_of (global_items xs)));
      fresh = (absent, subst (λ (l : List (List ℕ)). AreFresh l (names_of (global_items xs))) names more.fresh);
    }
names_added types ends d out (item.Function f ∷ xs) r h =
    let a = ok_then (with_item types ends d (item.Function f)) (λ next. with_items types ends next xs) out h in
    let one = adds_body d f.head.name f.head.line (strings_behind ends d) a.0 a.1 in
    let names : a.0.names ≡ d.names = ap (λ (x : Declared). x.names) (sym one.next) in
    let taken : a.0.taken ≡ with_name d.taken f.head.name = ap (λ (x : Declared). x.taken) (sym one.next) in
    let next = taken_room d a.0 f.head.name (length xs) names taken (item_within types ends d (item.Function f) a.0 r.within a.1) r in
    same_names d a.0 out (global_items xs) names (names_added types ends a.0 out xs next a.2)
names_added types ends d out (item.Prototype p ∷ xs) r h =
    let next = taken_room d (with_taken d p.name) p.name (length xs) refl refl (item_within types ends d (item.Prototype p) (with_taken d p.name) r.within refl) r in
    same_names d (with_taken d p.name) out (global_items xs) refl (names_added types ends (with_taken d p.name) out xs next h)

-- ---- the globals of a table
abbrev place_of : ℕ → Bool → GlobalPlace
place_of k array = record { block = k; array = array }

pub globals_found : EachGlobalIsFound
unfolding table_of global
globals_found u t room h =
    let all = steps u t h in
    let nothing : HasRoom nothing_declared (length u.items) = record { among = record { each = λ name e. absurd (true≢false (sym e)) }; room = omega (arith, room); within = nothing_is_declared } in
    let added = names_added (types_in u) (found_in u).ends nothing_declared all.declared u.items nothing all.first in
    let shapes = globals_added (types_in u) (found_in u).ends nothing_declared all.declared u.items all.first in
    let globals : List GlobalItem = global_items u.items in
    let names : t.globals ≡ names_of globals = ap (λ (x : Table). x.globals) (sym all.is) ∙ added.names in
    let arrays : t.arrays ≡ map (λ (x : GlobalShape). x.array) shapes.new = ap (λ (x : Table). x.arrays) (sym all.is) ∙ ap (λ (l : List GlobalShape). map (λ (x : GlobalShape). x.array) l) shapes.is in
    let many : length t.globals ≡ length globals = ap (λ (l : List (List ℕ)). length l) names ∙ length-map globals (λ (g : GlobalItem). g.declaration.name) in
    let place : (k : ℕ) (g : GlobalItem) → slice_get globals k ≡ Some g → position (bytes_eq g.declaration.name) t.globals ≡ Some k = λ k g at.
    let listed : slice_get (names_of globals) k ≡ Some g.declaration.name =
    slice_get-map (λ (x : GlobalItem). x.declaration.name) globals k ∙ ap (option_map (λ (x : GlobalItem). x.declaration.name)) at in
    let zeroth : length {0} {A = List ℕ} [] + k ≡ k = omega arith in
    ap (λ (l : List (List ℕ)). position (bytes_eq g.declaration.name) l) names
    ∙ (fresh_at [] (names_of globals) k g.declaration.name added.fresh listed ∙ ap (λ (n : ℕ). Some n) zeroth) in
    record {
      names = many;
      found = λ k g at.
          let x = zip_at (IsGlobalOf (types_in u) all.declared.extents) globals shapes.new k g shapes.each at in
          let kind : slice_get t.arrays k ≡ Some (is_some g.declaration.size) =
          ap (λ (l : List Bool). slice_get l k) arrays
          ∙ (slice_get-map (λ (y : GlobalShape). y.array) shapes.new k ∙ (ap (option_map (λ (y : GlobalShape). y.array)) x.at ∙ ap (λ (b : Bool). Some b) x.goes.array)) in
          ap (λ (o : Option ℕ). and_then o (λ n. option_map (place_of n) (slice_get t.arrays n))) (place k g at) ∙ ap (option_map (place_of k)) kind;
      only = λ name p is.
          let n = some_then (position (bytes_eq name) t.globals) (λ n. option_map (place_of n) (slice_get t.arrays n)) p is in
          let b = some_map (slice_get t.arrays n.0) (place_of n.0) p n.2 in
          let here = named_at t.globals name n.0 n.1 in
          let g = element_at globals n.0 (omega (arith, here.below, many)) in
          let there = named_at t.globals g.0.declaration.name n.0 (place n.0 g.0 g.1) in
          let block : n.0 ≡ p.block = ap (λ (q : GlobalPlace). q.block) b.2 in
          record { item = g.0; at = subst (λ (m : ℕ). slice_get globals m ≡ Some g.0) block g.1; named = there.is ∙ sym here.is };
    }
