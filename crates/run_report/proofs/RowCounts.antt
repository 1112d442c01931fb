-- The tables of a history have few rows: at most eleven for each live entry, and 174.
-- Here: few_rows_in, all_told
use Rattle.std.proofs.Common.{◌≡◌, ℕ, zero, suc, ◌+◌, ◌-◌, ◌*◌, ◌≤◌, Bool, true, false, cond, eqb, ltb, List, [], ◌∷◌, ◌++◌, length, take, map, reverse, Option, None, Some, refl, ap, subst, ◌∙◌, arith, length-append}
use Rattle.std.specs.List.{filter_map, flat_map, cons_option, list_any}
use Rattle.std.proofs.lemmas.List.{length-map, length-reverse}
use Rattle.std.proofs.lemmas.List.FromFn.{length-range_with_len}
use Rattle.sd_base.specs.declared.actors.Who.{Who}
use Rattle.sd_base.specs.declared.history.Update.{Update}
use Rattle.sd_base.specs.declared.history.Update.TheVariants.{Grant, Free}
use Rattle.sd_base.specs.History.{Entry, History, is_owner, live_of, clock_of}
use Rattle.sd_base.specs.declared.history.BlockState.{BlockState}
use Rattle.sd_base.specs.declared.history.BlockState.TheVariants.{Freed as freed}
use Rattle.sd_base.specs.Blocks.{Block, has_base, with_state, blocks_after, granted}
use Rattle.claim_table.specs.declared.claim.Claim.{Claim}
use Rattle.claim_table.specs.Ordered.{insert_claim, in_order, last_of_each, has_number}
use Rattle.claim_table.specs.ClaimPart.{line_row as line_claim, ports_row as ports_claim, device_row as device_claim, param_row as param_claim}
use Rattle.timer_table.specs.declared.fired.Fired.{Fired}
use Rattle.timer_table.specs.Order.{insert_row, by_owner_and_id, comes_before, timer_row as timer_claim, timers_of}
use Rattle.share_table.specs.Queue.{work_row as work_item}
use Rattle.grant_table.specs.GrantPart.{block_row as block_claim, rows_of}
use Rattle.kernel_tables.specs.declared.row.Row.{Row}
use Rattle.kernel_tables.specs.Places.{numbers}
use Rattle.kernel_tables.specs.TableRows.{block_row, line_row, ports_row, device_row, param_row, timer_row, work_row, lock_row, mask_row, hold_row, block_rows, lock_rows, masks_of_owner, mask_rows, hold_rows, holder_in, masks_in, holds_in, rows_in, tables_of}
use Rattle.run_report.specs.Tables.{told_rows}

-- lists made of lists

taken_or_not : {X : Type 0} (o : Option X) (xs : List X) (n : ℕ) → length xs ≤ n → length (cons_option o xs) ≤ suc n
taken_or_not None xs n h = omega arith
taken_or_not (Some x) xs n h = omega arith

few_taken : {X Y : Type 0} (f : X → Option Y) (xs : List X) → length (filter_map f xs) ≤ length xs
few_taken f [] = omega arith
few_taken f (x ∷ xs) = taken_or_not (f x) (filter_map f xs) (length xs) (few_taken f xs)

few_each : {X Y : Type 0} (f : X → List Y) (n : ℕ) → ((x : X) → length (f x) ≤ n) → (xs : List X) → length (flat_map f xs) ≤ n * length xs
few_each f n h [] = omega arith
few_each f n h (x ∷ xs) = let rest = few_each f n h xs in let here = h x in grind (arith, length-append (f x) (flat_map f xs))

length-numbers : (n : ℕ) → length (numbers 0 n) ≡ n
unfolding numbers
length-numbers n = length-range_with_len 0 (n - 0) ∙ omega arith

-- claims and timers in order

claim_by : {D : Type 0} (b : Bool) (x y : Claim D) (ys : List (Claim D)) → length (insert_claim x ys) ≡ suc (length ys) → length (cond b (x ∷ y ∷ ys) (y ∷ insert_claim x ys)) ≡ suc (suc (length ys))
claim_by true x y ys h = refl
claim_by false x y ys h = ap suc h

length-insert_claim : {D : Type 0} (x : Claim D) (xs : List (Claim D)) → length (insert_claim x xs) ≡ suc (length xs)
length-insert_claim x [] = refl
length-insert_claim x (y ∷ ys) = claim_by (ltb x.number y.number) x y ys (length-insert_claim x ys)

length-in_order : {D : Type 0} (xs : List (Claim D)) → length (in_order xs) ≡ length xs
length-in_order [] = refl
length-in_order (x ∷ xs) = omega (arith, length-insert_claim x (in_order xs), length-in_order xs)

last_by : {D : Type 0} (b : Bool) (x : Claim D) (xs : List (Claim D)) → length (last_of_each xs) ≤ length xs → length (cond b (last_of_each xs) (x ∷ last_of_each xs)) ≤ suc (length xs)
last_by true x xs h = omega arith
last_by false x xs h = omega arith

few_last : {D : Type 0} (xs : List (Claim D)) → length (last_of_each xs) ≤ length xs
few_last [] = omega arith
few_last (x ∷ xs) = last_by (list_any (has_number x.number) xs) x xs (few_last xs)

insert_by : (b : Bool) (x y : Fired) (ys : List Fired) → length (insert_row x ys) ≡ suc (length ys) → length (cond b (y ∷ insert_row x ys) (x ∷ y ∷ ys)) ≡ suc (suc (length ys))
insert_by true x y ys h = ap suc h
insert_by false x y ys h = refl

length-insert_row : (x : Fired) (xs : List Fired) → length (insert_row x xs) ≡ suc (length xs)
length-insert_row x [] = refl
length-insert_row x (y ∷ ys) = insert_by (comes_before x.owner x.id y) x y ys (length-insert_row x ys)

length-by_owner_and_id : (xs : List Fired) → length (by_owner_and_id xs) ≡ length xs
length-by_owner_and_id [] = refl
length-by_owner_and_id (x ∷ xs) = omega (arith, length-insert_row x (by_owner_and_id xs), length-by_owner_and_id xs)

-- blocks

state_by : (b : Bool) (base : ℕ) (state : BlockState) (x : Block) (bs : List Block) → length (with_state base state bs) ≡ length bs → length (cond b (record x { state = state } ∷ bs) (x ∷ with_state base state bs)) ≡ suc (length bs)
state_by true base state x bs h = refl
state_by false base state x bs h = ap suc h

length-with_state : (base : ℕ) (state : BlockState) (bs : List Block) → length (with_state base state bs) ≡ length bs
length-with_state base state [] = refl
length-with_state base state (x ∷ bs) = state_by (has_base base x) base state x bs (length-with_state base state bs)

blocks_by : (u : Update) (bs : List Block) (n : ℕ) → length bs ≤ n → length (blocks_after u bs) ≤ suc n
blocks_by (Grant layout m image) bs n h = omega arith
blocks_by (Free base) bs n h = omega (arith, length-with_state base freed bs)
blocks_by u bs n h = omega arith

granted_by : (b : Bool) (u : Update) (bs : List Block) (n : ℕ) → length bs ≤ n → length (cond b (blocks_after u bs) bs) ≤ suc n
granted_by true u bs n h = blocks_by u bs n h
granted_by false u bs n h = omega arith

few_granted : (live : List Entry) (owner : ℕ) → length (granted live owner) ≤ length live
few_granted [] owner = omega arith
few_granted (e ∷ live) owner = granted_by (is_owner owner e) e.update (granted live owner) (length live) (few_granted live owner)

few_blocks : (live : List Entry) (owner : ℕ) → length (map (block_row owner) (rows_of (granted live owner))) ≤ length live
few_blocks live owner =
    let blocks = granted live owner in
    omega (arith, length-map (rows_of blocks) (block_row owner), length-reverse (map block_claim blocks), length-map blocks block_claim, few_granted live owner)

-- what has a row where it is held

lock_few : (lock : ℕ) (o : Option Who) → length (lock_row lock o) ≤ 1
lock_few lock None = omega arith
lock_few lock (Some who) = omega arith

mask_few : (owner task : ℕ) (b : Bool) → length (mask_row owner task b) ≤ 1
mask_few owner task true = omega arith
mask_few owner task false = omega arith

hold_by : (b : Bool) (r : Row) → length (cond b [] (r ∷ [])) ≤ 1
hold_by true r = omega arith
hold_by false r = omega arith

few_locks : (holder : ℕ → Option Who) → length (lock_rows holder) ≤ 64
few_locks holder = omega (arith, few_each (λ lock. lock_row lock (holder lock)) 1 (λ lock. lock_few lock (holder lock)) (numbers 0 64), length-numbers 64)

few_masks_of : (held : ℕ → Bool) (owner : ℕ) → length (masks_of_owner owner held) ≤ 9
few_masks_of held owner = omega (arith, few_each (λ task. mask_row owner task (held task)) 1 (λ task. mask_few owner task (held task)) (numbers 0 9), length-numbers 9)

few_masks : (held : ℕ → ℕ → Bool) → length (mask_rows held) ≤ 45
few_masks held = omega (arith, few_each (λ owner. masks_of_owner owner (held owner)) 9 (λ owner. few_masks_of (held owner) owner) (numbers 0 5), length-numbers 5)

few_holds : (holds : ℕ → ℕ) → length (hold_rows holds) ≤ 64
few_holds holds = omega (arith, few_each (λ domain. hold_row domain (holds domain)) 1 (λ domain. hold_by (eqb (holds domain) 0) _) (numbers 0 64), length-numbers 64)

-- all rows

block_count : (live : List Entry) → length (block_rows (λ owner. rows_of (granted live owner))) ≤ length live * 5
block_count live =
    subst (λ n. length (block_rows (λ owner. rows_of (granted live owner))) ≤ length live * n) (length-numbers 5)
    (few_each (λ owner. map (block_row owner) (rows_of (granted live owner))) (length live) (few_blocks live) (numbers 0 5))

lengths : (a b c d e t l m h w x : List Row) (n : ℕ) → length a ≤ n * 5 → length b ≤ n → length c ≤ n → length d ≤ n → length e ≤ n → length t ≤ n → length l ≤ 64 → length m ≤ 45 → length h ≤ 64 → length w ≤ n → length x ≤ 1
    → length (a ++ b ++ c ++ d ++ e ++ t ++ l ++ m ++ h ++ w ++ x) ≤ 11 * n + 174
lengths a b c d e t l m h w x n p1 p2 p3 p4 p5 p6 p7 p8 p9 p10 p11 = simp length-append (omega (arith, p1, p2, p3, p4, p5, p6, p7, p8, p9, p10, p11))

ordered : {D : Type 0} (f : Entry → Option (Claim D)) (live : List Entry) → length (in_order (filter_map f live)) ≤ length live
ordered f live = omega (arith, length-in_order (filter_map f live), few_taken f live)

few_rows_in : (live : List Entry) (clock : ℕ) → length (rows_in live clock) ≤ 11 * length live + 174
few_rows_in live clock =
    lengths _ _ _ _ _ _ _ _ _ _ _ (length live) (block_count live)
    (omega (arith, length-map (in_order (filter_map line_claim live)) line_row, ordered line_claim live))
    (omega (arith, length-map (in_order (filter_map ports_claim live)) ports_row, ordered ports_claim live))
    (omega (arith, length-map (in_order (filter_map device_claim live)) device_row, ordered device_claim live))
    (omega (arith, length-map (last_of_each (in_order (filter_map param_claim live))) param_row, few_last (in_order (filter_map param_claim live)), ordered param_claim live))
    (omega (arith, length-map (timers_of live) timer_row, length-by_owner_and_id (filter_map timer_claim live), few_taken timer_claim live))
    (few_locks (holder_in live)) (few_masks (masks_in live)) (few_holds (holds_in live))
    (omega (arith, length-map (reverse (filter_map work_item live)) work_row, length-reverse (filter_map work_item live), few_taken work_item live))
    (omega arith)

take_whole : {X : Type 0} (m : ℕ) (xs : List X) → length xs ≤ m → take m xs ≡ xs
take_whole zero [] h = refl
take_whole zero (x ∷ xs) h = absurd (omega arith)
take_whole (suc m) [] h = refl
take_whole (suc m) (x ∷ xs) h = ap (λ r. x ∷ r) (take_whole m xs (omega arith))

-- so all of them are told
pub all_told : (h : History) → length (live_of h) ≤ 1048576 → told_rows (tables_of h) ≡ tables_of h
unfolding told_rows
all_told h few =
    let rows : length (tables_of h) ≤ 4294967295 = omega (arith, few_rows_in (live_of h) (clock_of h), few) in
    take_whole 4294967295 (tables_of h) rows
