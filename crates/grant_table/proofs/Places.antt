-- The block at the first place that has a base.
use Rattle.std.proofs.Common.{◌≡◌, ◌≢◌, ℕ, zero, suc, ◌<◌, ◌≤◌, Bool, true, false, ltb, List, [], ◌∷◌, length, get_or, set, Some, None, refl, ap, sym, ◌∙◌, subst, arith}
use Rattle.std.proofs.lemmas.Bool.Decides.{nat_tests}
use Rattle.std.specs.List.{list_any, find}
use Rattle.std.proofs.lemmas.List.{get_or_default}
use Rattle.std.specs.List.Sorted.{IsNonDecreasingBy}
use Rattle.std.proofs.lemmas.List.Folds.{list_any_none}
use Rattle.sd_base.specs.declared.history.BlockState.{BlockState}
use Rattle.grant_table.specs.declared.blocks.BlockRow.{BlockRow}
use Rattle.grant_table.specs.BlockRows.{IsArena, row_has_base, IsFirstPlace, with_state_of, release_of, release_answer}
use Rattle.grant_table.proofs.Arena.{arena_set}

first_tail : {X : Type 0} (p : X → Bool) (x : X) (xs : List X) (i : ℕ) → IsFirstPlace p (x ∷ xs) (suc i) → IsFirstPlace p xs i
first_tail p x xs i h = record {
  within = (let l : suc i < length (x ∷ xs) = h.within in omega arith);
  here = h.here;
  before = λ k d l. h.before (suc k) d (omega arith);
}

none_within : {X : Type 0} (p : X → Bool) (i : ℕ) → IsFirstPlace p [] i → ⊥
none_within p i h = (let l : i < 0 = h.within in omega arith)

pub find_at : {X : Type 0} (p : X → Bool) (xs : List X) (i : ℕ) (d : X) → IsFirstPlace p xs i → find p xs ≡ Some (get_or xs i d)
find_at p [] i d h = absurd (none_within p i h)
find_at p (x ∷ xs) zero d h = (let here : p x ≡ true = h.here d in grind arith)
find_at p (x ∷ xs) (suc i) d h = (let head : p x ≡ false = h.before 0 d (omega arith) in grind (arith, find_at p xs i d (first_tail p x xs i h)))

pub find_none : {X : Type 0} (p : X → Bool) (xs : List X) → list_any p xs ≡ false → find p xs ≡ None
find_none p [] h = refl
find_none p (x ∷ xs) h = grind (arith, find_none p xs)

pub state_none : (base : ℕ) (state : BlockState) (rows : List BlockRow) → list_any (row_has_base base) rows ≡ false → with_state_of base state rows ≡ rows
state_none base state [] h = refl
state_none base state (r ∷ rows) h = grind (arith, state_none base state rows)

pub state_at : (base : ℕ) (state : BlockState) (rows : List BlockRow) (i : ℕ) (d r : BlockRow) → IsFirstPlace (row_has_base base) rows i → r ≡ get_or rows i d →
    set rows i (record { base = r.base; size = r.size; state = state }) ≡ with_state_of base state rows
state_at base state [] i d r h is = absurd (none_within (row_has_base base) i h)
state_at base state (s ∷ rows) zero d r h is =
    let here : row_has_base base s ≡ true = h.here d in
    let same : r ≡ s = is in
    subst (λ q. record { base = q.base; size = q.size; state = state } ∷ rows ≡ with_state_of base state (s ∷ rows)) (sym same) (grind arith)
state_at base state (s ∷ rows) (suc i) d r h is =
    let head : row_has_base base s ≡ false = h.before 0 d (omega arith) in
    grind (arith, state_at base state rows i d r (first_tail (row_has_base base) s rows i h) is)

-- where all blocks have smaller bases
pub none_below : (rows : List BlockRow) (base i : ℕ) → length rows ≤ i → ((k : ℕ) (d : BlockRow) → 0 ≤ k → k < i → ltb (get_or rows k d).base base ≡ true) → list_any (row_has_base base) rows ≡ false
none_below rows base i le below =
    list_any_none (row_has_base base) rows (λ k d l. (let low : ltb (get_or rows k d).base base ≡ true = below k d (omega arith) (omega arith) in grind (arith, nat_tests)))

-- where the first block whose base is not smaller has another one
apart_at : (rows : List BlockRow) (base i : ℕ) (r : BlockRow) (k : ℕ) (d : BlockRow) → IsNonDecreasingBy (λ (b : BlockRow). b.base) rows → i < length rows → r ≡ get_or rows i r → r.base ≢ base →
    ((j : ℕ) (e : BlockRow) → 0 ≤ j → j < i → ltb (get_or rows j e).base base ≡ true) → ((j : ℕ) (e : BlockRow) → i ≤ j → j < length rows → ltb (get_or rows j e).base base ≡ false) →
    k < length rows → row_has_base base (get_or rows k d) ≡ false
apart_at rows base i r k d rises l is other below above m =
    elim (ltb k i) as (λ t. ltb k i ≡ t → row_has_base base (get_or rows k d) ≡ false) [
      | true ↦ λ less.
          let lt : k < i = grind (arith, nat_tests) in
          let low : ltb (get_or rows k d).base base ≡ true = below k d (omega arith) lt in
          grind (arith, nat_tests)
      | false ↦ λ less.
          let le : i ≤ k = grind (arith, nat_tests) in
          let first : ltb (get_or rows i r).base base ≡ false = above i r (omega arith) l in
          let same : r.base ≡ (get_or rows i r).base = ap (λ (b : BlockRow). b.base) is in
          let as_default : (get_or rows i r).base ≡ (get_or rows i d).base = ap (λ (b : BlockRow). b.base) (get_or_default rows i r d l) in
          let up : (get_or rows i d).base ≤ (get_or rows k d).base = rises i k d le m in
          grind (arith, nat_tests)
    ] refl

pub none_at : (rows : List BlockRow) (base i : ℕ) (r : BlockRow) → IsNonDecreasingBy (λ (b : BlockRow). b.base) rows → i < length rows → r ≡ get_or rows i r → r.base ≢ base →
    ((k : ℕ) (d : BlockRow) → 0 ≤ k → k < i → ltb (get_or rows k d).base base ≡ true) → ((k : ℕ) (d : BlockRow) → i ≤ k → k < length rows → ltb (get_or rows k d).base base ≡ false) →
    list_any (row_has_base base) rows ≡ false
none_at rows base i r rises l is other below above = list_any_none (row_has_base base) rows (λ k d m. apart_at rows base i r k d rises l is other below above m)

-- the first block whose base is not smaller, where it is the base
pub first_at : (rows : List BlockRow) (base i : ℕ) (r : BlockRow) → i < length rows → r ≡ get_or rows i r → r.base ≡ base →
    ((k : ℕ) (d : BlockRow) → 0 ≤ k → k < i → ltb (get_or rows k d).base base ≡ true) → IsFirstPlace (row_has_base base) rows i
first_at rows base i r l is same below = record {
  within = l;
  here = λ d. subst (λ q. row_has_base base q ≡ true) (is ∙ get_or_default rows i r d l) (grind (arith, nat_tests));
  before = λ k d m. (let low : ltb (get_or rows k d).base base ≡ true = below k d (omega arith) m in grind (arith, nat_tests));
}

-- the answer to a release, by what the block that was found is used for
pub answer_at : (base : ℕ) (rows self : List BlockRow) (i : ℕ) (r : BlockRow) (state : BlockState) → rows ≡ self → IsFirstPlace (row_has_base base) self i → r ≡ get_or rows i r → r.state ≡ state →
    release_of (Some (record { base = r.base; size = r.size; state = state })) ≡ release_answer base self
answer_at base rows self i r state same h is used =
    let first : IsFirstPlace (row_has_base base) rows i = subst (λ xs. IsFirstPlace (row_has_base base) xs i) (sym same) h in
    let there : find (row_has_base base) self ≡ Some r =
    ap (find (row_has_base base)) (sym same) ∙ find_at (row_has_base base) rows i r first ∙ ap Some (sym is) in
    sym (ap release_of there ∙ ap (λ s. release_of (Some (record { base = r.base; size = r.size; state = s }))) used)

-- the block that was found, used for something else
pub state_set : (base : ℕ) (rows self : List BlockRow) (i : ℕ) (r : BlockRow) (state : BlockState) → rows ≡ self → IsFirstPlace (row_has_base base) self i → r ≡ get_or rows i r →
    set rows i (record { base = r.base; size = r.size; state = state }) ≡ with_state_of base state self
state_set base rows self i r state same h is =
    state_at base state rows i r r (subst (λ xs. IsFirstPlace (row_has_base base) xs i) (sym same) h) is ∙ ap (with_state_of base state) same

pub arena_kept : (base : ℕ) (rows self : List BlockRow) (i : ℕ) (r : BlockRow) (state : BlockState) → rows ≡ self → IsFirstPlace (row_has_base base) self i → r ≡ get_or rows i r → IsArena 16 rows →
    IsArena 16 (set rows i (record { base = r.base; size = r.size; state = state }))
arena_kept base rows self i r state same h is a =
    let within : i < length rows = subst (λ xs. i < length xs) (sym same) h.within in
    arena_set 16 rows i (record { base = r.base; size = r.size; state = state }) r within (ap (λ (b : BlockRow). b.base) is) (ap (λ (b : BlockRow). b.size) is) a
