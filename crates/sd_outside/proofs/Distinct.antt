-- Texts whose names differ: each is found by its own name.
use Rattle.std.proofs.Common.{◌≡◌, ℕ, ◌<◌, Bool, true, false, not, ◌&&◌, cond, List, [], ◌∷◌, length, get_or, map, Some, option_map, find, bytes_eq, refl, ap, sym, ◌∙◌}
use Rattle.std.specs.List.{list_all}
use Rattle.std.specs.Cmp.Lexicographic.{bytes_decides}
use Rattle.std.proofs.lemmas.List.Elements.{All-nil, All-cons}
use Rattle.std.proofs.lemmas.List.Folds.{list_all-map, list_all_at}
use Rattle.sd_outside.specs.Texts.{Text, is_named, left_of, names_differ, TellsEach}

-- both of two tests passed
both : (a b : Bool) → (a && b) ≡ true → (a ≡ true) × (b ≡ true)
both true b e = (refl, e)
both false b e = cc

-- a test of each element passed at one of them
passes : (p : Text → Bool) (texts : List Text) (k : ℕ) (d : Text) → k < length texts → list_all p texts ≡ true → (b : Bool) → p (get_or texts k d) ≡ b → b ≡ true
passes p texts k d h all true e = refl
passes p texts k d h all false e = let none = list_all_at p texts k d h e in cc

not-true : (b : Bool) → not b ≡ true → b ≡ false
not-true true e = cc
not-true false e = refl

pub TellsEach-from_names : (texts : List Text) → names_differ texts ≡ true → TellsEach texts
TellsEach-from_names [] e = All-nil (λ t. left_of [] t.name ≡ Some t.bytes)
TellsEach-from_names (t ∷ ts) e =
    let parts = both (list_all (λ y. not (bytes_eq t.name y)) (map (λ u. u.name) ts)) (names_differ ts) e in
    let others : list_all (λ u. not (bytes_eq t.name u.name)) ts ≡ true = sym (list_all-map (λ y. not (bytes_eq t.name y)) (λ u. u.name) ts) ∙ parts.0 in
    let itself : is_named t.name t ≡ true = (bytes_decides t.name t.name).1 refl in
    All-cons (λ u. left_of (t ∷ ts) u.name ≡ Some u.bytes) t ts
    (ap (λ b. option_map (λ (u : Text). u.bytes) (cond b (Some t) (find (is_named t.name) ts))) itself)
    (λ k d h.
    let other = not-true (bytes_eq t.name (get_or ts k d).name) (passes (λ u. not (bytes_eq t.name u.name)) ts k d h others _ refl) in
    ap (λ b. option_map (λ (u : Text). u.bytes) (cond b (Some t) (find (is_named (get_or ts k d).name) ts))) other ∙ TellsEach-from_names ts parts.1 k d h)
