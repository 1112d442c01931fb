-- What is to do from a place on, by its first statement.
use Rattle.std.proofs.Common.{◌≡◌, ⊎_elim, ℕ, zero, suc, ◌+◌, ◌≤◌, ◌<◌, Bool, true, false, List, [], ◌∷◌, ◌++◌, drop, length, Option, Some, slice_get, if◌then◌else◌, refl, sym, ap, ◌∙◌, subst, arith}
use Rattle.std.proofs.lemmas.List.{append-nil, drop_all}
use Rattle.std.proofs.lemmas.Option.{slice_get_past}
use Rattle.checked_tree.specs.declared.statements.CheckedStmt.{CheckedStmt, out-CheckedStmt}
use Rattle.checked_tree.specs.declared.statements.CheckedStmt.TheOpen as S
use Rattle.checked_tree.specs.Step.{part_of, beyond}
use Rattle.driver_machine.specs.declared.position.Place.{Place}
use Rattle.driver_machine.specs.Paths.{part_at, list_at, repeats, place_behind, after_at, todo_at, IsSettled, picked_from}
use Rattle.driver_machine.proofs.PathLaws.{list_at-push, after_at-push}

-- ---- lists
one_more : (k : ℕ) → suc k ≡ k + 1
one_more k = omega arith

element_at : {X : Type 0} (xs : List X) (k : ℕ) → k < length xs → (x : X) × (slice_get xs k ≡ Some x) × (drop k xs ≡ x ∷ drop (suc k) xs)
element_at [] k l = absurd (omega arith)
element_at (x ∷ xs) zero l = (x, refl, refl)
element_at (x ∷ xs) (suc k) l = element_at xs k (omega arith)

element : {X : Type 0} (xs : List X) (k : ℕ) → k < length xs → (x : X) × (slice_get xs k ≡ Some x) × (drop k xs ≡ x ∷ drop (k + 1) xs)
element {X = X} xs k l = let e = element_at xs k l in (e.0, e.1, subst (λ (n : ℕ). drop k xs ≡ e.0 ∷ drop n xs) (one_more k) e.2)

first_of : {X : Type 0} (xs ys : List X) (k : ℕ) → k < length xs → slice_get (drop k xs ++ ys) 0 ≡ slice_get xs k
first_of [] ys k l = absurd (omega arith)
first_of (x ∷ xs) ys zero l = refl
first_of (x ∷ xs) ys (suc k) l = first_of xs ys k (omega arith)

behind_at : {X : Type 0} (xs ys : List X) (k : ℕ) → k < length xs → drop (suc k) xs ++ ys ≡ drop 1 (drop k xs ++ ys)
behind_at [] ys k l = absurd (omega arith)
behind_at (x ∷ xs) ys zero l = refl
behind_at (x ∷ xs) ys (suc k) l = behind_at xs ys k (omega arith)

behind_first : {X : Type 0} (xs ys : List X) (k : ℕ) → k < length xs → drop (k + 1) xs ++ ys ≡ drop 1 (drop k xs ++ ys)
behind_first xs ys k l = subst (λ (n : ℕ). drop n xs ++ ys ≡ drop 1 (drop k xs ++ ys)) (one_more k) (behind_at xs ys k l)

-- ---- the first statement, and the next place
pub first_stands : (body : List CheckedStmt) (ps : List Place) (at : ℕ) → IsSettled body ps at → slice_get (list_at body ps) at ≡ slice_get (todo_at body ps at) 0
unfolding todo_at
first_stands body ps at = ⊎_elim (λ below. sym (first_of (list_at body ps) (after_at body ps) at below)) done
  where
    done : (ps ≡ []) × (length body ≤ at) → slice_get (list_at body ps) at ≡ slice_get (drop at (list_at body ps) ++ after_at body ps) 0
    done d =
        let nothing : drop at body ++ [] ≡ [] = append-nil (drop at body) ∙ drop_all at body d.1 in
        subst (λ (qs : List Place). slice_get (list_at body qs) at ≡ slice_get (drop at (list_at body qs) ++ after_at body qs) 0) (sym d.0)
        (slice_get_past body at d.1 ∙ sym (ap (λ (l : List CheckedStmt). slice_get l 0) nothing))

pub start_todo : (body : List CheckedStmt) → todo_at body [] 0 ≡ body
unfolding todo_at
start_todo body = append-nil body

pub next_todo : (body : List CheckedStmt) (ps : List Place) (at : ℕ) → at < length (list_at body ps) → todo_at body ps (at + 1) ≡ drop 1 (todo_at body ps at)
unfolding todo_at
next_todo body ps at below = behind_first (list_at body ps) (after_at body ps) at below

-- ---- a part that a test picks
beyond_is : (y : S.CheckedStmt-F CheckedStmt) (holds : Bool) (st : CheckedStmt) (rest : List CheckedStmt) → beyond y holds st rest ≡ (if repeats y holds then st ∷ rest else rest)
beyond_is (S.Empty line) holds st rest = refl
beyond_is (S.Assign line slot scalar value checks) holds st rest = refl
beyond_is (S.AssignAutomatic line slot hidden value checks) holds st rest = refl
beyond_is (S.Store line scalar place value checks) holds st rest = refl
beyond_is (S.Zero line place size) holds st rest = refl
beyond_is (S.Call line target function values checks) holds st rest = refl
beyond_is (S.Kernel line target name values pointer function elem size) holds st rest = refl
beyond_is (S.Return line value checks) holds st rest = refl
beyond_is (S.If line test first second) holds st rest = refl
beyond_is (S.While line test body) true st rest = refl
beyond_is (S.While line test body) false st rest = refl

turned : (list after : List CheckedStmt) (at : ℕ) (holds : Bool) → at < length list
    → part_at (slice_get list at) holds ++ (drop (place_behind (slice_get list at) holds at) list ++ after) ≡ picked_from (drop at list ++ after) holds
turned list after at holds below = by (element list at below)
  where
    by : (st : CheckedStmt) × (slice_get list at ≡ Some st) × (drop at list ≡ st ∷ drop (at + 1) list)
        → part_at (slice_get list at) holds ++ (drop (place_behind (slice_get list at) holds at) list ++ after) ≡ picked_from (drop at list ++ after) holds
    by e =
        let st : CheckedStmt = e.0 in
        let rest : List CheckedStmt = drop (at + 1) list ++ after in
        let behind : (b : Bool) → repeats (out-CheckedStmt st) holds ≡ b → drop (if b then at else at + 1) list ++ after ≡ (if b then st ∷ rest else rest) = λ b is. again st e.2 b in
        subst (λ (o : Option CheckedStmt). part_at o holds ++ (drop (place_behind o holds at) list ++ after) ≡ picked_from (drop at list ++ after) holds) (sym e.1)
        (subst (λ (l : List CheckedStmt). part_of (out-CheckedStmt st) holds ++ (drop (if repeats (out-CheckedStmt st) holds then at else at + 1) list ++ after) ≡ picked_from (l ++ after) holds) (sym e.2)
        (ap (λ (l : List CheckedStmt). part_of (out-CheckedStmt st) holds ++ l)
        (behind (repeats (out-CheckedStmt st) holds) refl ∙ sym (beyond_is (out-CheckedStmt st) holds st rest))))
      where
        again : (st : CheckedStmt) → drop at list ≡ st ∷ drop (at + 1) list → (b : Bool)
            → drop (if b then at else at + 1) list ++ after ≡ (if b then st ∷ (drop (at + 1) list ++ after) else drop (at + 1) list ++ after)
        again st d true = ap (λ (l : List CheckedStmt). l ++ after) d
        again st d false = refl

-- a part with statements is entered at its first one
pub entered : (body : List CheckedStmt) (ps : List Place) (p : Place) → p.at < length (list_at body ps)
    → todo_at body (ps ++ p ∷ []) 0 ≡ picked_from (todo_at body ps p.at) p.holds
unfolding todo_at
entered body ps p below =
    ap (λ (l : List CheckedStmt). l ++ after_at body (ps ++ p ∷ [])) (list_at-push body ps p)
    ∙ (ap (λ (l : List CheckedStmt). part_at (slice_get (list_at body ps) p.at) p.holds ++ l) (after_at-push body ps p) ∙ turned (list_at body ps) (after_at body ps) p.at p.holds below)

-- a part without statements is passed by
pub passed : (body : List CheckedStmt) (ps : List Place) (p : Place) → p.at < length (list_at body ps) → part_at (slice_get (list_at body ps) p.at) p.holds ≡ []
    → todo_at body ps (place_behind (slice_get (list_at body ps) p.at) p.holds p.at) ≡ picked_from (todo_at body ps p.at) p.holds
unfolding todo_at
passed body ps p below none =
    ap (λ (l : List CheckedStmt). l ++ (drop (place_behind (slice_get (list_at body ps) p.at) p.holds p.at) (list_at body ps) ++ after_at body ps)) (sym none)
    ∙ turned (list_at body ps) (after_at body ps) p.at p.holds below
