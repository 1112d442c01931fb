-- Paths that end in one more part.
use Rattle.std.proofs.Common.{◌≡◌, ℕ, zero, suc, ◌≤◌, ◌<◌, Bool, List, [], ◌∷◌, ◌++◌, drop, length, slice_get, refl, sym, ap, ◌∙◌, subst, append_assoc, length-append, arith}
use Rattle.std.proofs.lemmas.List.{append-nil, drop_all}
use Rattle.checked_tree.specs.declared.statements.CheckedStmt.{CheckedStmt}
use Rattle.driver_machine.specs.declared.position.Place.{Place}
use Rattle.driver_machine.specs.Paths.{part_at, list_at, place_behind, after_at, todo_at, IsPath}

pub list_at-push : (list : List CheckedStmt) (ps : List Place) (p : Place) → list_at list (ps ++ p ∷ []) ≡ part_at (slice_get (list_at list ps) p.at) p.holds
list_at-push list [] p = refl
list_at-push list (q ∷ ps) p = list_at-push (part_at (slice_get list q.at) q.holds) ps p

pub after_at-push : (list : List CheckedStmt) (ps : List Place) (p : Place)
    → after_at list (ps ++ p ∷ []) ≡ drop (place_behind (slice_get (list_at list ps) p.at) p.holds p.at) (list_at list ps) ++ after_at list ps
after_at-push list [] p = sym (append-nil (drop (place_behind (slice_get list p.at) p.holds p.at) list))
after_at-push list (q ∷ ps) p =
    let part : List CheckedStmt = part_at (slice_get list q.at) q.holds in
    let behind : List CheckedStmt = drop (place_behind (slice_get list q.at) q.holds q.at) list in
    ap (λ (l : List CheckedStmt). l ++ behind) (after_at-push part ps p)
    ∙ append_assoc (drop (place_behind (slice_get (list_at part ps) p.at) p.holds p.at) (list_at part ps)) (after_at part ps) behind

-- the last part of a path
pub record Last (list : List CheckedStmt) (ps : List Place) (p : Place) : Type 0 where
  pub path : IsPath list ps
  pub part : 0 < length (part_at (slice_get (list_at list ps) p.at) p.holds)

pub path-push : (list : List CheckedStmt) (ps : List Place) (p : Place) → Last list ps p → IsPath list (ps ++ p ∷ [])
path-push list [] p l = (l.part, tt)
path-push list (q ∷ ps) p l = (l.path.0, path-push (part_at (slice_get list q.at) q.holds) ps p (record { path = l.path.1; part = l.part }))

pub path-pop : (list : List CheckedStmt) (ps : List Place) (p : Place) → IsPath list (ps ++ p ∷ []) → Last list ps p
path-pop list [] p h = record { path = tt; part = h.0 }
path-pop list (q ∷ ps) p h =
    let r = path-pop (part_at (slice_get list q.at) q.holds) ps p h.1 in
    record { path = (h.0, r.path); part = r.part }

-- what is to do at the end of the last part stands behind it
pub popped : (list : List CheckedStmt) (ps : List Place) (p : Place) (at : ℕ) → length (list_at list (ps ++ p ∷ [])) ≤ at
    → todo_at list ps (place_behind (slice_get (list_at list ps) p.at) p.holds p.at) ≡ todo_at list (ps ++ p ∷ []) at
unfolding todo_at
popped list ps p at h =
    sym (ap (λ (l : List CheckedStmt). l ++ after_at list (ps ++ p ∷ [])) (drop_all at (list_at list (ps ++ p ∷ [])) h) ∙ after_at-push list ps p)

-- a part with statements is that of a statement of the list
pub part_within : (list : List CheckedStmt) (at : ℕ) (holds : Bool) → 0 < length (part_at (slice_get list at) holds) → at < length list
part_within [] at holds h = absurd (omega arith)
part_within (st ∷ list) zero holds h = omega arith
part_within (st ∷ list) (suc at) holds h = let r = part_within list at holds h in omega arith

-- the same of a path by what a pop leaves of it
pub last_of : (list : List CheckedStmt) (before after : List Place) (p : Place) → before ≡ after ++ p ∷ [] → IsPath list before → Last list after p
last_of list before after p e h = path-pop list after p (subst (λ (l : List Place). IsPath list l) e h)

pub shorter : (before after : List Place) (p : Place) → before ≡ after ++ p ∷ [] → length after < length before
shorter before after p e =
    let long = length-append after (p ∷ []) in
    let same : length before ≡ length (after ++ p ∷ []) = ap (λ (l : List Place). length l) e in
    omega (arith, long, same)

pub todo_popped : (body : List CheckedStmt) (before after : List Place) (p : Place) (at next : ℕ) (inner list : List CheckedStmt)
    → before ≡ after ++ p ∷ [] → inner ≡ list_at body before → length inner ≤ at → list ≡ list_at body after
    → next ≡ place_behind (slice_get list p.at) p.holds p.at → todo_at body after next ≡ todo_at body before at
todo_popped body before after p at next inner list e i h l n =
    let long : length (list_at body (after ++ p ∷ [])) ≤ at =
    subst (λ (ps : List Place). length (list_at body ps) ≤ at) e (subst (λ (xs : List CheckedStmt). length xs ≤ at) i h) in
    ap (λ (k : ℕ). todo_at body after k) (n ∙ ap (λ (xs : List CheckedStmt). place_behind (slice_get xs p.at) p.holds p.at) l)
    ∙ (popped body after p at long ∙ ap (λ (ps : List Place). todo_at body ps at) (sym e))
