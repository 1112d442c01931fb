-- The rows of a kernel's tables are those of every history that the kernel stands for.
use Rattle.std.proofs.Common.{◌≡◌, ℕ, zero, suc, ◌+◌, ◌-◌, ◌<◌, ◌≤◌, Bool, List, [], ◌∷◌, ◌++◌, map, pos, Option, refl, ap, ◌∙◌, append_assoc, get_or, slice_get, arith}
use Rattle.std.specs.List.{range_with_len, flat_map}
use Rattle.sd_base.specs.History.{Entry, History, live_of}
use Rattle.sd_base.specs.Blocks.{granted}
use Rattle.grant_table.specs.GrantPart.{rows_of}
use Rattle.claim_table.specs.Ordered.{last_of_each}
use Rattle.share_table.specs.Locks.{lock_at, HoldsLocks}
use Rattle.share_table.specs.Masks.{mask_at, HoldsMasks}
use Rattle.share_table.specs.Holds.{held_by_all, HoldsHolds}
use Rattle.sd_base.specs.declared.actors.Who.{Who}
use Rattle.kernel_tables.specs.declared.kernel.Kernel.{Kernel}
use Rattle.kernel_tables.specs.declared.row.Row.{Row}
use Rattle.kernel_tables.specs.declared.row.Row.TheVariants.{Clock}
use Rattle.kernel_tables.specs.Places.{numbers}
use Rattle.kernel_tables.specs.TableRows.{block_row, line_row, ports_row, device_row, param_row, timer_row, lock_row, lock_rows, mask_row, masks_of_owner, mask_rows, hold_row, hold_rows, work_row, holder_in, masks_in, holds_in, tables_of}
use Rattle.kernel_tables.specs.KernelRows.{kernel_rows}
use Rattle.kernel_tables.specs.Standing.{StandsFor}

-- the rows of numbers, where each number has the same

same_range : (f g : ℕ → List Row) (first n end : ℕ) → first + n ≤ end → ((k : ℕ) → k < end → f k ≡ g k) → flat_map f (range_with_len first n) ≡ flat_map g (range_with_len first n)
same_range f g first zero end l same = refl
same_range f g first (suc n) end l same =
    let here : f first ≡ g first = same first (omega arith) in
    let rest : flat_map f (range_with_len (first + 1) n) ≡ flat_map g (range_with_len (first + 1) n) = same_range f g (first + 1) n end (omega arith) same in
    cc

same_numbers : (f g : ℕ → List Row) (end : ℕ) → ((k : ℕ) → k < end → f k ≡ g k) → flat_map f (numbers 0 end) ≡ flat_map g (numbers 0 end)
unfolding numbers
same_numbers f g end same = same_range f g 0 (end - 0) end (omega arith) same

-- what activities share

locks_same : (locks : List (Option Who)) (live : List Entry) → HoldsLocks locks live → lock_rows (λ lock. lock_at locks (pos lock)) ≡ lock_rows (holder_in live)
locks_same locks live holds = same_numbers (λ lock. lock_row lock (lock_at locks (pos lock))) (λ lock. lock_row lock (holder_in live lock)) 64 (λ lock l. ap (lock_row lock) (holds (pos lock)))

masks_of_same : (masks : List Bool) (live : List Entry) (owner : ℕ) → HoldsMasks masks live → masks_of_owner owner (mask_at masks owner) ≡ masks_of_owner owner (masks_in live owner)
masks_of_same masks live owner holds =
    same_numbers (λ task. mask_row owner task (mask_at masks owner task)) (λ task. mask_row owner task (masks_in live owner task)) 9 (λ task l. ap (mask_row owner task) (holds owner task))

masks_same : (masks : List Bool) (live : List Entry) → HoldsMasks masks live → mask_rows (mask_at masks) ≡ mask_rows (masks_in live)
masks_same masks live holds =
    same_numbers (λ owner. masks_of_owner owner (mask_at masks owner)) (λ owner. masks_of_owner owner (masks_in live owner)) 5 (λ owner l. masks_of_same masks live owner holds)

domain_same : (counts : List ℕ) (live : List Entry) (domain : ℕ) → HoldsHolds counts live → held_by_all counts (pos domain) ≡ holds_in live domain
domain_same counts live domain holds =
    let a = holds 0 (pos domain) in
    let b = holds 1 (pos domain) in
    let c = holds 2 (pos domain) in
    let d = holds 3 (pos domain) in
    let e = holds 4 (pos domain) in
    omega arith

holds_same : (counts : List ℕ) (live : List Entry) → HoldsHolds counts live → hold_rows (λ domain. held_by_all counts (pos domain)) ≡ hold_rows (holds_in live)
holds_same counts live holds =
    same_numbers (λ domain. hold_row domain (held_by_all counts (pos domain))) (λ domain. hold_row domain (holds_in live domain)) 64 (λ domain l. ap (hold_row domain) (domain_same counts live domain holds))

-- all tables

regroup : (a b c d e t l m h w x : List Row) →
    a ++ ((b ++ (c ++ (d ++ e))) ++ (t ++ ((l ++ (m ++ (h ++ w))) ++ x))) ≡ a ++ b ++ c ++ d ++ e ++ t ++ l ++ m ++ h ++ w ++ x
regroup a b c d e t l m h w x = simp append_assoc

same_lists : (a a' b b' c c' d d' e e' t t' l l' m m' h h' w w' x x' : List Row) → a ≡ a' → b ≡ b' → c ≡ c' → d ≡ d' → e ≡ e' → t ≡ t' → l ≡ l' → m ≡ m' → h ≡ h' → w ≡ w' → x ≡ x' →
    a ++ ((b ++ (c ++ (d ++ e))) ++ (t ++ ((l ++ (m ++ (h ++ w))) ++ x))) ≡ a' ++ b' ++ c' ++ d' ++ e' ++ t' ++ l' ++ m' ++ h' ++ w' ++ x'
same_lists a a' b b' c c' d d' e e' t t' l l' m m' h h' w w' x x' p1 p2 p3 p4 p5 p6 p7 p8 p9 p10 p11 =
    let same : a ++ b ++ c ++ d ++ e ++ t ++ l ++ m ++ h ++ w ++ x ≡ a' ++ b' ++ c' ++ d' ++ e' ++ t' ++ l' ++ m' ++ h' ++ w' ++ x' = cc in
    regroup a b c d e t l m h w x ∙ same

pub rows_same : (k : Kernel) (h : History) → StandsFor k h → kernel_rows k ≡ tables_of h
rows_same k h stands =
    let t = stands.tables in
    same_lists _ _ _ _ _ _ _ _ _ _ _ _ _ _ _ _ _ _ _ _ _ _
    (same_numbers (λ owner. map (block_row owner) (get_or k.grants owner [])) (λ owner. map (block_row owner) (rows_of (granted (live_of h) owner))) 5 (λ owner l. ap (map (block_row owner)) (t.grants.rows owner (omega arith))))
    (ap (map line_row) t.claims.lines)
    (ap (map ports_row) t.claims.ports)
    (ap (map device_row) t.claims.devices)
    (ap (λ ps. map param_row (last_of_each ps)) t.claims.params)
    (ap (map timer_row) t.timers)
    (locks_same k.shares.locks (live_of h) t.shares.locks)
    (masks_same k.shares.masks (live_of h) t.shares.masks)
    (holds_same k.shares.holds (live_of h) t.shares.holds)
    (ap (map work_row) t.shares.work)
    (ap (λ now. Clock now ∷ []) stands.clock)

-- what is answered by the rows of the tables is answered by the rows of each history that the kernel stands for
pub reads : (k : Kernel) (place : ℕ) (answer : Option Row) → answer ≡ slice_get (kernel_rows k) place → (h : History) → StandsFor k h → answer ≡ slice_get (tables_of h) place
reads k place answer is h stands = is ∙ ap (λ rows. slice_get rows place) (rows_same k h stands)
