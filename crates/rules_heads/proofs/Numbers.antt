-- One more function keeps the table of names.
use Rattle.std.proofs.Common.{◌≡◌, ℕ, ◌<◌, ◌^◌, List, [], ◌∷◌, ◌++◌, length, map, sym, ◌∙◌, ap, arith, length-append}
use Rattle.std.proofs.lemmas.List.{length-map, map-append}
use Rattle.c_tree.specs.declared.items.Function.{Function}
use Rattle.c_tree.specs.Bytes.{Text}
use Rattle.deputy_rules.specs.declared.signature.Signature.{Signature}
use Rattle.dep_infer.specs.Found.{FindsFirst, NotesFirst}
use Rattle.dep_infer.proofs.Firsts.{noted_at}
use Rattle.deputy_rules.specs.Heads.{signature_of}
use Rattle.deputy_types.specs.Table.{Table}
use Rattle.rules_heads.specs.Names.{function_names}

abbrev name_of : Signature → List ℕ
name_of f = f.name

pub numbered_next : (functions kept after : List Signature) (old new : List (Text × ℕ)) (s : Signature) (slot : ℕ) → kept ≡ functions → slot ≡ length kept → after ≡ kept ++ s ∷ []
    → FindsFirst old (function_names functions) → NotesFirst old s.name slot new → FindsFirst new (function_names after)
numbered_next functions kept after old new s slot same at ends before noted =
    noted_at (function_names functions) (function_names kept) (function_names after) old new s.name slot (ap function_names same) (at ∙ sym (length-map kept name_of))
    (ap function_names ends ∙ map-append name_of kept (s ∷ [])) before noted

-- the first of these functions are few where all are
pub front_few : (t : Table) (front rest : List Signature) (fs : List Function) → front ++ rest ≡ map (signature_of t) fs → length fs < 2 ^ 32 → length front < 2 ^ 32
front_few t front rest fs same few =
    let parts = length-append front rest in
    let all = length-map fs (signature_of t) in
    let whole : length (front ++ rest) ≡ length (map (signature_of t) fs) = ap length same in
    omega (arith, parts, all, whole, few)
