-- A part is entered where it has statements, and passed by where it has none.
use Rattle.std.proofs.Common.{◌≡◌, inl, ℕ, ◌≤◌, ◌<◌, ◌==◌, Bool, true, false, List, [], ◌∷◌, ◌++◌, length, slice_get, refl, sym, ap, ◌∙◌, subst, arith}
use Rattle.std.proofs.lemmas.Bool.{eqb-true}
use Rattle.checked_tree.specs.declared.statements.CheckedStmt.{CheckedStmt}
use Rattle.driver_machine.specs.declared.position.Place.{Place}
use Rattle.driver_machine.specs.Paths.{part_at, list_at, place_behind, todo_at, IsPath, IsReady, Stands, picked_from}
use Rattle.safe_code.specs.Runnable.{depth}
use Rattle.driver_machine.proofs.PathLaws.{list_at-push, path-push}
use Rattle.driver_machine.proofs.Turns.{entered, passed}
use Rattle.driver_machine.proofs.Depths.{has_room_for}

abbrev part : List CheckedStmt → List Place → ℕ → Bool → List CheckedStmt
part body ps at holds = part_at (slice_get (list_at body ps) at) holds

abbrev place : ℕ → Bool → Place
place at holds = record { at = at; holds = holds }

-- what the code looks at: the list, its part, and whether that is empty
pub record Seen (body : List CheckedStmt) (ps : List Place) (at : ℕ) (holds : Bool) (list found : List CheckedStmt) (none : Bool) : Type 0 where
  pub list_is : list ≡ list_at body ps
  pub found_is : found ≡ part_at (slice_get list at) holds
  pub none_is : none ≡ (length found == 0)

part_is : (body : List CheckedStmt) (ps : List Place) (at : ℕ) (holds : Bool) (list found : List CheckedStmt) (none : Bool) → Seen body ps at holds list found none → found ≡ part body ps at holds
part_is body ps at holds list found none s = s.found_is ∙ ap (λ (l : List CheckedStmt). part_at (slice_get l at) holds) s.list_is

some_found : (xs : List CheckedStmt) → (length xs == 0) ≡ false → 0 < length xs
some_found [] h = absurd cc
some_found (x ∷ xs) h = omega arith

none_found : (xs : List CheckedStmt) → (length xs == 0) ≡ true → xs ≡ []
none_found [] h = refl
none_found (x ∷ xs) h = let zero_long = eqb-true (length (x ∷ xs)) 0 h in absurd (omega (arith, zero_long))

has_statements : (body : List CheckedStmt) (ps : List Place) (at : ℕ) (holds : Bool) (list found : List CheckedStmt) (none : Bool) → Seen body ps at holds list found none → none ≡ false
    → 0 < length (part body ps at holds)
has_statements body ps at holds list found none s e =
    subst (λ (l : List CheckedStmt). 0 < length l) (part_is body ps at holds list found none s) (some_found found (sym s.none_is ∙ e))

pub room : (body : List CheckedStmt) (ps : List Place) (at : ℕ) (holds : Bool) (list found : List CheckedStmt) (none : Bool) → Seen body ps at holds list found none → none ≡ false
    → depth body ≤ 64 → IsPath body ps → length ps < 64
room body ps at holds list found none s e few path = has_room_for body ps at holds few path (has_statements body ps at holds list found none s e)

pub todo_passed : (body : List CheckedStmt) (ps : List Place) (at : ℕ) (holds : Bool) (list found : List CheckedStmt) (none : Bool) (next : ℕ) → Seen body ps at holds list found none → none ≡ true
    → Stands body ps at → next ≡ place_behind (slice_get list at) holds at → todo_at body ps next ≡ picked_from (todo_at body ps at) holds
todo_passed body ps at holds list found none next s e stands n =
    let nothing = sym (part_is body ps at holds list found none s) ∙ none_found found (sym s.none_is ∙ e) in
    ap (λ (k : ℕ). todo_at body ps k) (n ∙ ap (λ (l : List CheckedStmt). place_behind (slice_get l at) holds at) s.list_is) ∙ passed body ps (place at holds) stands nothing

pub todo_entered : (body : List CheckedStmt) (ps pushed : List Place) (at : ℕ) (holds : Bool) → pushed ≡ ps ++ place at holds ∷ [] → Stands body ps at
    → todo_at body pushed 0 ≡ picked_from (todo_at body ps at) holds
todo_entered body ps pushed at holds e stands = ap (λ (l : List Place). todo_at body l 0) e ∙ entered body ps (place at holds) stands

pub ready_entered : (body : List CheckedStmt) (ps pushed : List Place) (at : ℕ) (holds : Bool) (list found : List CheckedStmt) (none : Bool) → Seen body ps at holds list found none → none ≡ false
    → pushed ≡ ps ++ place at holds ∷ [] → IsPath body ps → IsReady body pushed 0
ready_entered body ps pushed at holds list found none s e is path =
    let some = has_statements body ps at holds list found none s e in
    let last = path-push body ps (place at holds) (record { path = path; part = some }) in
    let inside = subst (λ (l : List CheckedStmt). 0 < length l) (sym (list_at-push body ps (place at holds))) some in
    subst (λ (l : List Place). IsReady body l 0) (sym is) (last, inl inside)
