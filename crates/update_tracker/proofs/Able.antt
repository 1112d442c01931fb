-- What is live can be removed: of each kind the condition of the call that removes it.
use Rattle.std.proofs.Common.{◌≡◌, ℕ, ◌<◌, ◌≤◌, Bool, true, false, cond, List, [], ◌∷◌, ◌++◌, ℤ, pos, negsuc, Option, Some, None, get_or, refl, ap, sym, ◌∙◌, arith}
use Rattle.std.proofs.lemmas.Bool.Decides.{nat_tests}
use Rattle.std.specs.Option.{option_map}
use Rattle.std.specs.List.{list_any, find, filter_map}
use Rattle.sd_base.specs.declared.actors.Who.{Who}
use Rattle.sd_base.specs.declared.history.BlockState.TheVariants.{Freed}
use Rattle.sd_base.specs.declared.history.Refusal.TheVariants.{Bad}
use Rattle.sd_base.specs.declared.history.Update.{Update}
use Rattle.sd_base.specs.declared.history.Update.TheVariants.{Work, Lock}
use Rattle.sd_base.specs.Selection.{passes}
use Rattle.sd_base.specs.History.{Entry, entry, line_key, ports_key, device_key, param_key, timer_key, lock_key, hold_key, work_key, mask_key, is_of}
use Rattle.sd_base.specs.Blocks.{Block, has_base, with_state, granted}
use Rattle.sd_base.specs.Allowed.{free_refusal, is_astray}
use Rattle.sd_base.specs.Sound.{IsSound}
use Rattle.sd_base.proofs.Removal.{list_any-reverse, list_any-wider}
use Rattle.sd_base.proofs.Rows.{list_any-filter_map}
use Rattle.sd_base.proofs.Single.{count_by-some}
use Rattle.claim_table.specs.ClaimRows.{ClaimRows}
use Rattle.claim_table.specs.ClaimCalls.{if_held, holds_line, holds_ports, holds_device, holds_param}
use Rattle.claim_table.specs.ClaimPart.{HoldsClaims, refused_as}
use Rattle.claim_table.proofs.Rules.{free_line_rule, drop_ports_rule, del_device_rule, clear_param_rule}
use Rattle.grant_table.specs.declared.blocks.BlockRow.{BlockRow}
use Rattle.grant_table.specs.BlockRows.{ends_with, is_freed_at, is_freed_row, row_has_base}
use Rattle.grant_table.specs.GrantPart.{block_row, rows_of, HoldsGrants}
use Rattle.grant_table.proofs.GrantPartKept.{rows_push, find_rows}
use Rattle.grant_table.proofs.GrantedBlocks.{granted_stack}
use Rattle.share_table.specs.declared.queue.Work.{Work as Queued}
use Rattle.share_table.specs.Locks.{lock_at, HoldsLocks, is_who}
use Rattle.share_table.specs.Masks.{mask_at, HoldsMasks}
use Rattle.share_table.specs.Holds.{holds_at, HoldsHolds}
use Rattle.share_table.specs.Queue.{is_owned, work_row, work_row_of, HoldsWork}
use Rattle.share_table.proofs.Locked.{holds-it}
use Rattle.timer_table.specs.declared.fired.Fired.{Fired}
use Rattle.timer_table.specs.Order.{is_timer}
use Rattle.timer_table.specs.Table.{HoldsTimers}
use Rattle.timer_table.proofs.Live.{timers-any}

-- claims: what the owner could give back it has

held : (b there : Bool) → refused_as (if_held b) ≡ cond there None (Some Bad) → there ≡ true → b ≡ true
held b there same is = grind arith

pub line_held : (t : ClaimRows) (live : List Entry) (owner : ℕ) (line : ℤ) → IsSound live → HoldsClaims t live → list_any (is_of owner (line_key line)) live ≡ true → holds_line t owner line ≡ true
line_held t live owner line s h there = held (holds_line t owner line) (list_any (is_of owner (line_key line)) live) (free_line_rule t live 0 owner line s h) there

pub ports_held : (t : ClaimRows) (live : List Entry) (owner : ℕ) (base n : ℤ) → IsSound live → HoldsClaims t live → list_any (is_of owner (ports_key base n)) live ≡ true → holds_ports t owner base n ≡ true
ports_held t live owner base n s h there = held (holds_ports t owner base n) (list_any (is_of owner (ports_key base n)) live) (drop_ports_rule t live 0 owner base n s h) there

pub device_held : (t : ClaimRows) (live : List Entry) (owner : ℕ) (id : ℤ) → IsSound live → HoldsClaims t live → list_any (is_of owner (device_key id)) live ≡ true → holds_device t owner id ≡ true
device_held t live owner id s h there = held (holds_device t owner id) (list_any (is_of owner (device_key id)) live) (del_device_rule t live 0 owner id s h) there

pub param_held : (t : ClaimRows) (live : List Entry) (owner : ℕ) (key : ℤ) → IsSound live → HoldsClaims t live → list_any (is_of owner (param_key key)) live ≡ true → holds_param t owner key ≡ true
param_held t live owner key s h there = held (holds_param t owner key) (list_any (is_of owner (param_key key)) live) (clear_param_rule t live 0 owner key s h) there

-- timers

pub timer_held : (t : List Fired) (live : List Entry) (owner : ℕ) (id : ℤ) → HoldsTimers t live → list_any (is_of owner (timer_key id)) live ≡ true → list_any (is_timer owner id) t ≡ true
timer_held t live owner id h there = ap (list_any (is_timer owner id)) h ∙ sym (timers-any owner id live) ∙ there

-- locks, masks, holds and work

who_owns : (owner task : ℕ) (o : Option Who) → passes (is_who (record { owner = owner; task = task })) o ≡ true → o ≡ Some (record { owner = owner; task = task })
who_owns owner task None h = cc
who_owns owner task (Some who) h =
    let by : who.owner ≡ owner = grind (arith, nat_tests) in
    let at : who.task ≡ task = grind (arith, nat_tests) in
    ap (λ (n : ℕ). Some (record { owner = n; task = who.task })) by ∙ ap (λ (n : ℕ). Some (record { owner = owner; task = n })) at

lock_astray_of : (owner task k by : ℕ) (u : Update) → is_of owner (lock_key (negsuc k) task) (entry by u) ≡ true → is_astray (entry by u) ≡ true
lock_astray_of owner task k by (Lock (pos n) t) h = grind arith
lock_astray_of owner task k by (Lock (negsuc n) t) h = refl
lock_astray_of owner task k by _ h = cc

no_lock : (live : List Entry) (owner task k : ℕ) → IsSound live → list_any (is_of owner (lock_key (negsuc k) task)) live ≡ false
no_lock live owner task k s = list_any-wider is_astray (is_of owner (lock_key (negsuc k) task)) (λ e h. lock_astray_of owner task k e.owner e.update h) live s.in_range

pub lock_held : (locks : List (Option Who)) (live : List Entry) (owner task : ℕ) (lock : ℤ) → IsSound live → HoldsLocks locks live → list_any (is_of owner (lock_key lock task)) live ≡ true →
    lock_at locks lock ≡ Some (record { owner = owner; task = task })
lock_held locks live owner task (pos k) s h there = who_owns owner task (lock_at locks (pos k)) (sym (holds-it locks owner task k live s h) ∙ there)
lock_held locks live owner task (negsuc k) s h there = cc (no_lock live owner task k s)

pub mask_held : (masks : List Bool) (live : List Entry) (owner task : ℕ) → HoldsMasks masks live → list_any (is_of owner (mask_key task)) live ≡ true → mask_at masks owner task ≡ true
mask_held masks live owner task h there = h owner task ∙ there

pub domain_held : (counts : List ℕ) (live : List Entry) (owner : ℕ) (domain : ℤ) → HoldsHolds counts live → list_any (is_of owner (hold_key domain)) live ≡ true → 0 < holds_at counts owner domain
domain_held counts live owner domain h there = omega (arith, h owner domain, count_by-some (is_of owner (hold_key domain)) live there)

work_same_of : (owner by : ℕ) (u : Update) → is_of owner work_key (entry by u) ≡ passes (is_owned owner) (work_row_of by u)
work_same_of owner by (Work handler arg) = refl
work_same_of owner by _ = refl

pub work_held : (items : List Queued) (live : List Entry) (owner : ℕ) → HoldsWork items live → list_any (is_of owner work_key) live ≡ true → list_any (is_owned owner) items ≡ true
work_held items live owner h there =
    ap (list_any (is_owned owner)) h ∙ list_any-reverse (is_owned owner) (filter_map work_row live)
    ∙ list_any-filter_map work_row (is_of owner work_key) (is_owned owner) (λ e. work_same_of owner e.owner e.update) live ∙ there

-- blocks

ends-push : (base : ℕ) (rows : List BlockRow) (r : BlockRow) → row_has_base base r ≡ true → ends_with base (rows ++ r ∷ []) ≡ true
ends-push base [] r is = is
ends-push base (a ∷ []) r is = is
ends-push base (a ∷ b ∷ rows) r is = ends-push base (b ∷ rows) r is

-- the newest block is the last row
pub block_last : (t : List (List BlockRow)) (live : List Entry) (owner : ℕ) (b : Block) (bs : List Block) → owner ≤ 4 → HoldsGrants t live → granted live owner ≡ b ∷ bs → ends_with b.base (get_or t owner []) ≡ true
block_last t live owner b bs few h is =
    let here : row_has_base b.base (block_row b) ≡ true = grind (arith, nat_tests) in
    ap (ends_with b.base) (h.rows owner few ∙ ap rows_of is ∙ rows_push b bs) ∙ ends-push b.base (rows_of bs) (block_row b) here

freed_now : (base : ℕ) (bs : List Block) → free_refusal (find (has_base base) bs) ≡ None → is_freed_row (option_map block_row (find (has_base base) (with_state base Freed bs))) ≡ true
freed_now base [] h = cc
freed_now base (b ∷ bs) h =
    elim (has_base base b) as (λ t. has_base base b ≡ t → is_freed_row (option_map block_row (find (has_base base) (cond t (record b { state = Freed } ∷ bs) (b ∷ with_state base Freed bs)))) ≡ true) [
      | true ↦ λ is. grind arith
      | false ↦ λ is. grind (arith, freed_now base bs)
    ] refl

-- a block that was just given back is freed
pub block_freed : (t : List (List BlockRow)) (live : List Entry) (owner base : ℕ) (bs : List Block) → owner ≤ 4 → IsSound live → HoldsGrants t live → granted live owner ≡ with_state base Freed bs →
    free_refusal (find (has_base base) bs) ≡ None → is_freed_at base (get_or t owner []) ≡ true
block_freed t live owner base bs few s h is allowed =
    ap (is_freed_at base) (h.rows owner few) ∙ ap is_freed_row (find_rows base (granted live owner) (granted_stack live owner s.blocks))
    ∙ ap (λ l. is_freed_row (option_map block_row (find (has_base base) l))) is ∙ freed_now base bs allowed
