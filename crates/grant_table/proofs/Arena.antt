-- Blocks that lie one behind the other: their bases rise, they end within the arena, and so they do with one more, one fewer, or one
-- that is used for something else.
use Rattle.std.proofs.Common.{◌≡◌, ℕ, zero, suc, ◌<◌, ◌≤◌, List, [], ◌∷◌, ◌++◌, length, get_or, set, take, refl, sym, subst, arith}
use Rattle.std.specs.List.Sorted.{IsNonDecreasingBy}
use Rattle.sd_base.specs.Blocks.{round_up}
use Rattle.grant_table.specs.declared.blocks.BlockRow.{BlockRow}
use Rattle.grant_table.specs.BlockRows.{row_end, next_base_of, IsArena}

pub round_ge : (n : ℕ) → n ≤ round_up n
round_ge n = omega arith

pub round_le : (n : ℕ) → n ≤ 1048576 → round_up n ≤ 1048576
round_le n h = omega arith

pub arena_low : (first : ℕ) (rows : List BlockRow) (i : ℕ) (d : BlockRow) → IsArena first rows → i < length rows → first ≤ (get_or rows i d).base
arena_low first [] i d a l = absurd (omega arith)
arena_low first (r ∷ rows) zero d a l = a.0
arena_low first (r ∷ rows) (suc i) d a l =
    let rest : row_end r ≤ (get_or rows i d).base = arena_low (row_end r) rows i d a.3 (omega arith) in
    let here : first ≤ r.base = a.0 in
    omega arith

-- the bases rise
pub arena_rises : (first : ℕ) (rows : List BlockRow) → IsArena first rows → IsNonDecreasingBy (λ r. r.base) rows
arena_rises first [] a i j d le l = absurd (omega arith)
arena_rises first (r ∷ rows) a zero zero d le l = omega arith
arena_rises first (r ∷ rows) a zero (suc j) d le l =
    let rest : row_end r ≤ (get_or rows j d).base = arena_low (row_end r) rows j d a.3 (omega arith) in
    omega arith
arena_rises first (r ∷ rows) a (suc i) zero d le l = absurd (omega arith)
arena_rises first (r ∷ rows) a (suc i) (suc j) d le l = arena_rises (row_end r) rows a.3 i j d (omega arith) (omega arith)

-- all end within the arena
pub arena_end : (first : ℕ) (rows : List BlockRow) (i : ℕ) (d : BlockRow) → IsArena first rows → i < length rows → row_end (get_or rows i d) ≤ 1048576
arena_end first [] i d a l = absurd (omega arith)
arena_end first (r ∷ rows) zero d a l = a.2
arena_end first (r ∷ rows) (suc i) d a l = arena_end (row_end r) rows i d a.3 (omega arith)

-- the next base is read off the last block
pub last_next : (first : ℕ) (rows : List BlockRow) (n : ℕ) (d : BlockRow) → suc n ≡ length rows → next_base_of first rows ≡ round_up (row_end (get_or rows n d))
last_next first [] n d h = absurd (omega arith)
last_next first (r ∷ []) zero d h = refl
last_next first (r ∷ s ∷ rows) zero d h = absurd (omega arith)
last_next first (r ∷ rows) (suc n) d h =
    let rest : suc n ≡ length rows = omega arith in
    last_next (round_up (row_end r)) rows n d rest

pub next_le : (first b : ℕ) (rows : List BlockRow) → b ≤ 1048576 → IsArena first rows → next_base_of b rows ≤ 1048576
next_le first b [] le a = le
next_le first b (r ∷ rows) le a = next_le (row_end r) (round_up (row_end r)) rows (round_le (row_end r) a.2) a.3

-- one more block behind the others
pub arena_push : (first b : ℕ) (rows : List BlockRow) (r : BlockRow) → first ≤ b → IsArena first rows → next_base_of b rows ≤ r.base → 0 < r.size → row_end r ≤ 1048576 → IsArena first (rows ++ r ∷ [])
arena_push first b [] r le a base size end = (omega arith, size, end, tt)
arena_push first b (s ∷ rows) r le a base size end = (a.0, a.1, a.2, arena_push (row_end s) (round_up (row_end s)) rows r (round_ge (row_end s)) a.3 base size end)

pub arena_take : (first n : ℕ) (rows : List BlockRow) → IsArena first rows → IsArena first (take n rows)
arena_take first zero [] a = tt
arena_take first (suc n) [] a = tt
arena_take first zero (r ∷ rows) a = tt
arena_take first (suc n) (r ∷ rows) a = (a.0, a.1, a.2, arena_take (row_end r) n rows a.3)

-- a block that is used for something else now
pub arena_set : (first : ℕ) (rows : List BlockRow) (i : ℕ) (r d : BlockRow) → i < length rows → r.base ≡ (get_or rows i d).base → r.size ≡ (get_or rows i d).size → IsArena first rows →
    IsArena first (set rows i r)
arena_set first [] i r d l base size a = absurd (omega arith)
arena_set first (s ∷ rows) zero r d l base size a =
    let low : first ≤ s.base = a.0 in
    let some : 0 < s.size = a.1 in
    let end : row_end s ≤ 1048576 = a.2 in
    let same : row_end s ≡ row_end r = omega arith in
    (omega arith, omega arith, omega arith, subst (λ e. IsArena e rows) same a.3)
arena_set first (s ∷ rows) (suc i) r d l base size a = (a.0, a.1, a.2, arena_set (row_end s) rows i r d (omega arith) base size a.3)

-- the last block ends within the arena
pub last_end : (rows : List BlockRow) (n : ℕ) (r : BlockRow) → suc n ≡ length rows → r ≡ get_or rows n r → IsArena 16 rows → row_end r ≤ 1048576
last_end rows n r h is a =
    let within : n < length rows = omega arith in
    subst (λ (b : BlockRow). row_end b ≤ 1048576) (sym is) (arena_end 16 rows n r a within)
