-- Each call serves every lawful history of which the table holds its part.
use Rattle.std.proofs.Common.{◌≡◌, ℕ, ◌-◌, ◌≤◌, Bool, true, false, cond, List, [], ◌∷◌, ◌++◌, length, get_or, set, take, ℤ, pos, negsuc, Option, Some, None, Result, Ok, Err, IfSome, OnOk, refl, ap, sym, ◌∙◌, subst, arith}
use Rattle.std.specs.Option.{option_map}
use Rattle.std.specs.List.{list_any, find}
use Rattle.sd_base.specs.declared.history.BlockState.TheVariants.{Live, Freed as StateFreed}
use Rattle.sd_base.specs.declared.history.Layout.{Layout}
use Rattle.sd_base.specs.declared.history.Update.TheVariants.{Grant, Free}
use Rattle.sd_base.specs.Selection.{without_first}
use Rattle.sd_base.specs.History.{Entry, entry, block_key, free_key, is_of, live_of, clock_of}
use Rattle.sd_base.specs.Blocks.{Block, next_base, count_of, first_state, has_base, granted, has_room, is_image, is_freed}
use Rattle.sd_base.specs.Allowed.{free_refusal, refusal_on}
use Rattle.sd_base.specs.Part.{Serves, Loses}
use Rattle.sd_base.specs.Sound.{IsSound}
use Rattle.sd_base.proofs.SoundLive.{lawful_sound}
use Rattle.grant_table.specs.declared.blocks.BlockRow.{BlockRow}
use Rattle.grant_table.specs.declared.blocks.ReleaseRefusal.{ReleaseRefusal}
use Rattle.grant_table.specs.declared.blocks.ReleaseRefusal.TheVariants.{NotBlock, Freed}
use Rattle.grant_table.specs.BlockRows.{next_base_of, base_for, block_row_of, with_state_of, release_of, release_answer, is_freed_row, is_freed_at}
use Rattle.grant_table.specs.GrantPart.{block_row, rows_of, HoldsGrants, no_room, not_released, OfEachHistory}
use Rattle.grant_table.proofs.GrantedBlocks.{granted_stack, granted_own, granted_others, granted-without_of, granted-without_block, granted-without_free, WasFreed}
use Rattle.grant_table.proofs.GrantPartKept.{rows_push, next_rows, length_rows, find_rows, state_rows, take_rows, set_rows, granted-live_of, is_freed_block, never_freed}

room_rule : (bs : List Block) (layout : Layout) (n : ℤ) → no_room (base_for (rows_of bs) layout.size n) ≡ cond (has_room bs layout n) None (no_room None)
room_rule bs layout (pos n) = grind (arith, next_rows bs, length_rows bs)
room_rule bs layout (negsuc n) = refl

grant_rule : (share : ℕ) (t : List (List BlockRow)) (live : List Entry) (clock owner : ℕ) (layout : Layout) (n : ℤ) (image : Bool) → owner ≤ 4 → HoldsGrants t live →
    no_room (base_for (get_or t owner []) layout.size n) ≡ refusal_on share live clock owner (Grant layout n image)
grant_rule share t live clock owner layout n image few h = ap (λ rows. no_room (base_for rows layout.size n)) (h.rows owner few) ∙ room_rule (granted live owner) layout n

granted_base : (rows : List BlockRow) (size : ℕ) (n : ℤ) (base : ℕ) → Some base ≡ base_for rows size n → base ≡ next_base_of 16 rows
granted_base rows size (pos n) base h = grind arith
granted_base rows size (negsuc n) base h = cc

grant_comes : (t new : List (List BlockRow)) (live : List Entry) (owner : ℕ) (layout : Layout) (n : ℤ) (image : Bool) (base : ℕ) → length t ≡ 5 → owner ≤ 4 → HoldsGrants t live →
    Some base ≡ base_for (get_or t owner []) layout.size n →
    new ≡ set t owner (get_or t owner [] ++ block_row_of base layout.size n (first_state image) ∷ []) → HoldsGrants new (entry owner (Grant layout n image) ∷ live)
grant_comes t new live owner layout n image base five few h at is =
    let here : base ≡ next_base (granted live owner) =
    granted_base (get_or t owner []) layout.size n base at ∙ ap (next_base_of 16) (h.rows owner few) ∙ next_rows (granted live owner) in
    let block : Block = record { base = next_base (granted live owner); layout = layout; count = count_of n; state = first_state image } in
    let rows : get_or t owner [] ++ block_row_of base layout.size n (first_state image) ∷ [] ≡ rows_of (granted (entry owner (Grant layout n image) ∷ live) owner) =
    ap (λ rs. rs ++ block_row_of base layout.size n (first_state image) ∷ []) (h.rows owner few)
    ∙ ap (λ b. rows_of (granted live owner) ++ block_row_of b layout.size n (first_state image) ∷ []) here
    ∙ sym (rows_push block (granted live owner)) ∙ ap rows_of (sym (granted_own owner (Grant layout n image) live)) in
    subst (λ x. HoldsGrants x (entry owner (Grant layout n image) ∷ live)) (sym is)
    (set_rows t live (entry owner (Grant layout n image) ∷ live) owner _ five few h rows (λ other apart. granted_others owner other (Grant layout n image) live apart))

pub grant_serves : (old new : List (List BlockRow)) (owner : ℕ) (layout : Layout) (n : ℤ) (image : Bool) (answer : Option ℕ) → length old ≡ 5 → owner ≤ 4 →
    answer ≡ base_for (get_or old owner []) layout.size n →
    IfSome answer (λ base. new ≡ set old owner (get_or old owner [] ++ block_row_of base layout.size n (first_state image) ∷ [])) →
    Serves HoldsGrants old owner (Grant layout n image) (no_room answer) new
grant_serves old new owner layout n image None five few is after share h lawful proper holds =
    (ap no_room is ∙ grant_rule share old (live_of h) (clock_of h) owner layout n image few holds, λ ok. cc)
grant_serves old new owner layout n image (Some base) five few is after share h lawful proper holds =
    (ap no_room is ∙ grant_rule share old (live_of h) (clock_of h) owner layout n image few holds, λ ok. grant_comes old new (live_of h) owner layout n image base five few holds is after)

pub grant_base : (old : List (List BlockRow)) (owner size : ℕ) (n : ℤ) (answer : Option ℕ) → owner ≤ 4 → answer ≡ base_for (get_or old owner []) size n →
    IfSome answer (λ base. OfEachHistory old (λ h. base ≡ next_base (granted h owner)))
grant_base old owner size n None few is = tt
grant_base old owner size n (Some base) few is = λ share h lawful proper holds.
    granted_base (get_or old owner []) size n base is ∙ ap (next_base_of 16) (holds.rows owner few) ∙ next_rows (granted (live_of h) owner) ∙ ap next_base (granted-live_of h owner)

release_same : (o : Option Block) → not_released (release_of (option_map block_row o)) ≡ free_refusal o
release_same None = refl
release_same (Some b) =
    elim (is_image b.state) as (λ i. not_released (cond i (Err NotBlock) (cond (is_freed b.state) (Err Freed) (Ok tt))) ≡ cond i (not_released (Err NotBlock)) (cond (is_freed b.state) (not_released (Err Freed)) None)) [
      | true ↦ refl
      | false ↦ elim (is_freed b.state) as (λ f. not_released (cond f (Err Freed) (Ok tt)) ≡ cond f (not_released (Err Freed)) None) [ true ↦ refl | false ↦ refl ]
    ]

release_rule : (share : ℕ) (t : List (List BlockRow)) (live : List Entry) (clock owner base : ℕ) → owner ≤ 4 → IsSound live → HoldsGrants t live →
    not_released (release_answer base (get_or t owner [])) ≡ refusal_on share live clock owner (Free base)
release_rule share t live clock owner base few s h =
    ap (λ rows. not_released (release_answer base rows)) (h.rows owner few)
    ∙ ap (λ o. not_released (release_of o)) (find_rows base (granted live owner) (granted_stack live owner s.blocks))
    ∙ release_same (find (has_base base) (granted live owner))

release_goes : (t new : List (List BlockRow)) (live : List Entry) (owner base : ℕ) → length t ≡ 5 → owner ≤ 4 → IsSound live → HoldsGrants t live →
    new ≡ set t owner (with_state_of base StateFreed (get_or t owner [])) → HoldsGrants new (entry owner (Free base) ∷ live)
release_goes t new live owner base five few s h is =
    let rows : with_state_of base StateFreed (get_or t owner []) ≡ rows_of (granted (entry owner (Free base) ∷ live) owner) =
    ap (with_state_of base StateFreed) (h.rows owner few) ∙ sym (state_rows base StateFreed (granted live owner) (granted_stack live owner s.blocks))
    ∙ ap rows_of (sym (granted_own owner (Free base) live)) in
    subst (λ x. HoldsGrants x (entry owner (Free base) ∷ live)) (sym is)
    (set_rows t live (entry owner (Free base) ∷ live) owner _ five few h rows (λ other apart. granted_others owner other (Free base) live apart))

released : (answer : Result (Unit {0}) ReleaseRefusal) (P : Type 0) → OnOk answer P → not_released answer ≡ None → P
released (Ok done) P h ok = h
released (Err NotBlock) P h ok = cc
released (Err Freed) P h ok = cc

pub release_serves : (old new : List (List BlockRow)) (owner base : ℕ) (answer : Result (Unit {0}) ReleaseRefusal) → length old ≡ 5 → owner ≤ 4 → answer ≡ release_answer base (get_or old owner []) →
    OnOk answer (new ≡ set old owner (with_state_of base StateFreed (get_or old owner []))) → Serves HoldsGrants old owner (Free base) (not_released answer) new
release_serves old new owner base answer five few is after share h lawful proper holds =
    let sound : IsSound (live_of h) = lawful_sound share h proper lawful in (
      ap not_released is ∙ release_rule share old (live_of h) (clock_of h) owner base few sound holds,
      λ ok. release_goes old new (live_of h) owner base five few sound holds (released answer (new ≡ set old owner (with_state_of base StateFreed (get_or old owner []))) after ok),
    )

pub block_loses : (old new : List (List BlockRow)) (owner : ℕ) → length old ≡ 5 → owner ≤ 4 → new ≡ set old owner (take (length (get_or old owner []) - 1) (get_or old owner [])) →
    Loses HoldsGrants old owner block_key new
block_loses old new owner five few is live s h =
    let rows : take (length (get_or old owner []) - 1) (get_or old owner []) ≡ rows_of (granted (without_first (is_of owner block_key) live) owner) =
    ap (λ rs. take (length rs - 1) rs) (h.rows owner few) ∙ take_rows (granted live owner) ∙ ap rows_of (sym (granted-without_block owner live s.blocks)) in
    subst (λ x. HoldsGrants x (without_first (is_of owner block_key) live)) (sym is)
    (set_rows old live (without_first (is_of owner block_key) live) owner _ five few h rows (λ other apart. granted-without_of owner other block_key live apart))

freed_row : (o : Option Block) → is_freed_row (option_map block_row o) ≡ is_freed_block o
freed_row None = refl
freed_row (Some b) = refl

-- a row that was given back has a live release
release_there : (t : List (List BlockRow)) (live : List Entry) (owner base : ℕ) → owner ≤ 4 → IsSound live → HoldsGrants t live → is_freed_at base (get_or t owner []) ≡ true →
    list_any (is_of owner (free_key base)) live ≡ true
release_there t live owner base few s h freed =
    let block : is_freed_block (find (has_base base) (granted live owner)) ≡ true =
    sym (freed_row (find (has_base base) (granted live owner))) ∙ ap is_freed_row (sym (find_rows base (granted live owner) (granted_stack live owner s.blocks)))
    ∙ ap (is_freed_at base) (sym (h.rows owner few)) ∙ freed in
    elim (list_any (is_of owner (free_key base)) live) as (λ b. list_any (is_of owner (free_key base)) live ≡ b → b ≡ true) [
      | true ↦ λ there. refl
      | false ↦ λ there. cc (never_freed owner base live there)
    ] refl

pub free_loses : (old new : List (List BlockRow)) (owner base : ℕ) → length old ≡ 5 → owner ≤ 4 → is_freed_at base (get_or old owner []) ≡ true →
    new ≡ set old owner (with_state_of base Live (get_or old owner [])) → Loses HoldsGrants old owner (free_key base) new
free_loses old new owner base five few freed is live s h =
    let was : WasFreed owner base live = granted-without_free owner base live s.blocks (release_there old live owner base few s h freed) in
    let rows : with_state_of base Live (get_or old owner []) ≡ rows_of (granted (without_first (is_of owner (free_key base)) live) owner) =
    ap (with_state_of base Live) (h.rows owner few) ∙ sym (state_rows base Live (granted live owner) (granted_stack live owner s.blocks)) ∙ ap rows_of (sym was.back) in
    subst (λ x. HoldsGrants x (without_first (is_of owner (free_key base)) live)) (sym is)
    (set_rows old live (without_first (is_of owner (free_key base)) live) owner _ five few h rows (λ other apart. granted-without_of owner other (free_key base) live apart))
