-- How the rows of blocks read the blocks that are granted, and how each entry changes them.
use Rattle.std.proofs.Common.{◌≡◌, ◌≢◌, ℕ, ◌-◌, ◌≤◌, Bool, true, false, cond, not, eqb, List, [], ◌∷◌, ◌++◌, map, length, get_or, set, take, Option, Some, None, refl, ap, sym, ◌∙◌, subst, arith, length-append, get_or-set_same, get_or-set_other}
use Rattle.std.proofs.lemmas.Bool.Decides.{nat_tests}
use Rattle.std.proofs.lemmas.List.{length-reverse, length-map}
use Rattle.std.specs.Option.{option_map}
use Rattle.std.specs.List.{list_any, find}
use Rattle.sd_base.specs.declared.history.BlockState.{BlockState}
use Rattle.sd_base.specs.declared.history.BlockState.TheVariants.{Freed}
use Rattle.sd_base.specs.declared.history.Update.{Update}
use Rattle.sd_base.specs.declared.history.Update.TheVariants.{Grant, Free, Line, Ports, Device, Param, Timer, Lock, Hold, Work, Taken, Mask, Clock}
use Rattle.sd_base.specs.Selection.{without_first}
use Rattle.sd_base.specs.History.{Entry, entry, History, OfBlocks, OfFrees, Key, same_resource, free_key, live_key, key_of, is_owner, is_of, after_entry, live_of}
use Rattle.sd_base.specs.Blocks.{Block, round_up, next_base, count_of, first_state, has_base, with_state, blocks_after, granted, is_freed}
use Rattle.sd_base.proofs.Counting.{reverse-cons}
use Rattle.sd_base.proofs.Removal.{list_any-reverse}
use Rattle.sd_base.proofs.Live.{is_of-resource, apart-same}
use Rattle.sd_base.proofs.Granted.{leaves, granted-without_first_other, granted-without_last_other}
use Rattle.grant_table.specs.declared.blocks.BlockRow.{BlockRow}
use Rattle.grant_table.specs.BlockRows.{row_end, next_base_of, row_has_base, with_state_of}
use Rattle.grant_table.specs.GrantPart.{block_row, rows_of, HoldsGrants}
use Rattle.grant_table.proofs.GrantedBlocks.{IsStack, bases_below, with_state-none, but_newest, other_base}

pub rows_push : (b : Block) (bs : List Block) → rows_of (b ∷ bs) ≡ rows_of bs ++ block_row b ∷ []
rows_push b bs = reverse-cons (block_row b) (map block_row bs)

next_base_of-push : (first : ℕ) (rows : List BlockRow) (r : BlockRow) → next_base_of first (rows ++ r ∷ []) ≡ round_up (row_end r)
next_base_of-push first [] r = refl
next_base_of-push first (s ∷ rows) r = next_base_of-push (round_up (row_end s)) rows r

-- the next base is the same by the rows and by the blocks
pub next_rows : (bs : List Block) → next_base_of 16 (rows_of bs) ≡ next_base bs
next_rows [] = refl
next_rows (b ∷ bs) = ap (next_base_of 16) (rows_push b bs) ∙ next_base_of-push 16 (rows_of bs) (block_row b)

pub length_rows : (bs : List Block) → length (rows_of bs) ≡ length bs
length_rows bs = length-reverse (map block_row bs) ∙ length-map bs block_row

any_map : {X Y : Type 0} (f : X → Y) (p : Y → Bool) (xs : List X) → list_any p (map f xs) ≡ list_any (λ x. p (f x)) xs
any_map f p [] = refl
any_map f p (x ∷ xs) = grind (arith, any_map f p xs)

-- a base is there by the rows where it is by the blocks
pub any_rows : (base : ℕ) (bs : List Block) → list_any (row_has_base base) (rows_of bs) ≡ list_any (has_base base) bs
any_rows base bs = list_any-reverse (row_has_base base) (map block_row bs) ∙ any_map block_row (row_has_base base) bs

find-append : {X : Type 0} (p : X → Bool) (xs ys : List X) → find p (xs ++ ys) ≡ cond (list_any p xs) (find p xs) (find p ys)
find-append p [] ys = refl
find-append p (x ∷ xs) ys = grind (arith, find-append p xs ys)

find_nowhere : {X : Type 0} (p : X → Bool) (xs : List X) → list_any p xs ≡ false → find p xs ≡ None
find_nowhere p [] h = refl
find_nowhere p (x ∷ xs) h = grind (arith, find_nowhere p xs)

none_below : (base : ℕ) (b : Block) (bs : List Block) → has_base base b ≡ true → IsStack (b ∷ bs) → list_any (has_base base) bs ≡ false
none_below base b bs is s =
    let same : b.base ≡ base = grind (arith, nat_tests) in
    subst (λ n. list_any (has_base n) bs ≡ false) same (bases_below bs b.base s.0 s.2)

-- the block of a base, by the rows and by the blocks
pub find_rows : (base : ℕ) (bs : List Block) → IsStack bs → find (row_has_base base) (rows_of bs) ≡ option_map block_row (find (has_base base) bs)
find_rows base [] s = refl
find_rows base (b ∷ bs) s =
    let rest : find (row_has_base base) (rows_of bs) ≡ option_map block_row (find (has_base base) bs) = find_rows base bs s.2 in
    let any : list_any (row_has_base base) (rows_of bs) ≡ list_any (has_base base) bs = any_rows base bs in
    ap (find (row_has_base base)) (rows_push b bs) ∙ find-append (row_has_base base) (rows_of bs) (block_row b ∷ [])
    ∙ elim (has_base base b) as (λ t. has_base base b ≡ t → cond (list_any (row_has_base base) (rows_of bs)) (find (row_has_base base) (rows_of bs)) (cond t (Some (block_row b)) None) ≡ option_map block_row (cond t (Some b) (find (has_base base) bs))) [
      | true ↦ λ is. (let none : list_any (has_base base) bs ≡ false = none_below base b bs is s in grind arith)
      | false ↦ λ is.
          elim (list_any (has_base base) bs) as (λ t. list_any (has_base base) bs ≡ t → cond (list_any (row_has_base base) (rows_of bs)) (find (row_has_base base) (rows_of bs)) None ≡ option_map block_row (find (has_base base) bs)) [
            | true ↦ λ there. grind arith
            | false ↦ λ there. (let no : find (has_base base) bs ≡ None = find_nowhere (has_base base) bs there in
                ap (λ t. cond t (find (row_has_base base) (rows_of bs)) None) (any ∙ there) ∙ sym (ap (option_map block_row) no))
          ] refl
    ] refl

state-append : (base : ℕ) (state : BlockState) (xs ys : List BlockRow) →
    with_state_of base state (xs ++ ys) ≡ cond (list_any (row_has_base base) xs) (with_state_of base state xs ++ ys) (xs ++ with_state_of base state ys)
state-append base state [] ys = refl
state-append base state (x ∷ xs) ys = grind (arith, state-append base state xs ys)

-- a block used for something else, by the rows and by the blocks
pub state_rows : (base : ℕ) (state : BlockState) (bs : List Block) → IsStack bs → rows_of (with_state base state bs) ≡ with_state_of base state (rows_of bs)
state_rows base state [] s = refl
state_rows base state (b ∷ bs) s =
    let rest : rows_of (with_state base state bs) ≡ with_state_of base state (rows_of bs) = state_rows base state bs s.2 in
    let any : list_any (row_has_base base) (rows_of bs) ≡ list_any (has_base base) bs = any_rows base bs in
    sym (ap (with_state_of base state) (rows_push b bs) ∙ state-append base state (rows_of bs) (block_row b ∷ []) ∙ sym (
    elim (has_base base b) as (λ t. has_base base b ≡ t → rows_of (cond t (record b { state = state } ∷ bs) (b ∷ with_state base state bs))
    ≡ cond (list_any (row_has_base base) (rows_of bs)) (with_state_of base state (rows_of bs) ++ block_row b ∷ []) (rows_of bs ++ cond t (record (block_row b) { state = state } ∷ []) (block_row b ∷ []))) [
      | true ↦ λ is.
          let none : list_any (has_base base) bs ≡ false = none_below base b bs is s in
          rows_push (record b { state = state }) bs ∙ sym (ap (λ t. cond t (with_state_of base state (rows_of bs) ++ block_row b ∷ []) (rows_of bs ++ record (block_row b) { state = state } ∷ [])) (any ∙ none))
      | false ↦ λ is.
          rows_push b (with_state base state bs) ∙ elim (list_any (has_base base) bs) as (λ t. list_any (has_base base) bs ≡ t → rows_of (with_state base state bs) ++ block_row b ∷ [] ≡ cond (list_any (row_has_base base) (rows_of bs)) (with_state_of base state (rows_of bs) ++ block_row b ∷ []) (rows_of bs ++ block_row b ∷ [])) [
            | true ↦ λ there. ap (λ xs. xs ++ block_row b ∷ []) rest ∙ sym (ap (λ t. cond t (with_state_of base state (rows_of bs) ++ block_row b ∷ []) (rows_of bs ++ block_row b ∷ [])) (any ∙ there))
            | false ↦ λ there. ap (λ xs. rows_of xs ++ block_row b ∷ []) (with_state-none base state bs there) ∙ sym (ap (λ t. cond t (with_state_of base state (rows_of bs) ++ block_row b ∷ []) (rows_of bs ++ block_row b ∷ [])) (any ∙ there))
          ] refl
    ] refl))

take_all : {X : Type 0} (xs ys : List X) → take (length xs) (xs ++ ys) ≡ xs
take_all [] ys = refl
take_all (x ∷ xs) ys = ap (λ zs. x ∷ zs) (take_all xs ys)

-- the rows without the last are those of the blocks without the newest
pub take_rows : (bs : List Block) → take (length (rows_of bs) - 1) (rows_of bs) ≡ rows_of (but_newest bs)
take_rows [] = refl
take_rows (b ∷ bs) =
    let fewer : length (rows_of bs ++ block_row b ∷ []) - 1 ≡ length (rows_of bs) = omega (arith, length-append (rows_of bs) (block_row b ∷ [])) in
    ap (λ rows. take (length rows - 1) rows) (rows_push b bs) ∙ ap (λ n. take n (rows_of bs ++ block_row b ∷ [])) fewer ∙ take_all (rows_of bs) (block_row b ∷ [])

-- one owner's rows are changed, and the others' blocks are as they were
pub set_rows : (t : List (List BlockRow)) (live later : List Entry) (owner : ℕ) (new : List BlockRow) → length t ≡ 5 → owner ≤ 4 → HoldsGrants t live → new ≡ rows_of (granted later owner) →
    ((other : ℕ) → other ≢ owner → granted later other ≡ granted live other) → HoldsGrants (set t owner new) later
set_rows t live later owner new five le h is others = record {
  rows = λ other few.
      elim (eqb other owner) as (λ b. eqb other owner ≡ b → get_or (set t owner new) other [] ≡ rows_of (granted later other)) [
        | true ↦ λ same.
            let eq : owner ≡ other = grind (arith, nat_tests) in
            subst (λ n. get_or (set t owner new) n [] ≡ rows_of (granted later n)) eq (get_or-set_same t owner new [] (omega arith) ∙ is)
        | false ↦ λ same.
            let apart : other ≢ owner = grind (arith, nat_tests) in
            get_or-set_other t owner other new [] apart ∙ h.rows other few ∙ ap rows_of (sym (others other apart))
      ] refl;
}

-- an entry under a key that is neither a block's nor a release's leaves the blocks
leaves_key : (o : ℕ) (k : Key) → same_resource k.resource OfBlocks ≡ false → same_resource k.resource OfFrees ≡ false → (e : Entry) → is_of o k e ≡ true → (bs : List Block) → blocks_after e.update bs ≡ bs
leaves_key o k blocks frees e h bs =
    leaves e.update bs (apart-same (live_key e.update).resource k.resource OfBlocks (is_of-resource o k e h) blocks)
    (apart-same (live_key e.update).resource k.resource OfFrees (is_of-resource o k e h) frees)

either : (b : Bool) (bs : List Block) → cond b bs bs ≡ bs
either true bs = refl
either false bs = refl

-- what is live after an entry grants what the entry before all that was live grants
pub granted-after_entry : (owner by : ℕ) (u : Update) (live : List Entry) → granted (after_entry (entry by u) live) owner ≡ granted (entry by u ∷ live) owner
granted-after_entry owner by (Grant layout n image) live = refl
granted-after_entry owner by (Free base) live = refl
granted-after_entry owner by (Line line handler) live = refl
granted-after_entry owner by (Ports base n) live = refl
granted-after_entry owner by (Device id) live = refl
granted-after_entry owner by (Lock lock task) live = refl
granted-after_entry owner by (Hold domain) live = refl
granted-after_entry owner by (Work handler arg) live = refl
granted-after_entry owner by (Mask task) live = refl
granted-after_entry owner by (Clock now) live = sym (either (eqb by owner) (granted live owner))
granted-after_entry owner by (Param key value) live =
    either (eqb by owner) (granted (without_first (is_of by (key_of (Param key value))) live) owner)
    ∙ granted-without_first_other _ (leaves_key by (key_of (Param key value)) refl refl) live owner ∙ sym (either (eqb by owner) (granted live owner))
granted-after_entry owner by (Timer id due handler arg) live =
    either (eqb by owner) (granted (without_first (is_of by (key_of (Timer id due handler arg))) live) owner)
    ∙ granted-without_first_other _ (leaves_key by (key_of (Timer id due handler arg)) refl refl) live owner ∙ sym (either (eqb by owner) (granted live owner))
granted-after_entry owner by Taken live = granted-without_last_other _ (leaves_key by (key_of Taken) refl refl) live owner ∙ sym (either (eqb by owner) (granted live owner))
granted-after_entry owner by u live = granted-without_first_other _ (leaves_key by (key_of u) refl refl) live owner ∙ sym (either (eqb by owner) (granted live owner))

-- a history and what is live of it grant the same blocks
pub granted-live_of : (h : History) (owner : ℕ) → granted (live_of h) owner ≡ granted h owner
granted-live_of [] owner = refl
granted-live_of (e ∷ h) owner =
    granted-after_entry owner e.owner e.update (live_of h) ∙ ap (λ bs. cond (is_owner owner e) (blocks_after e.update bs) bs) (granted-live_of h owner)

-- an entry that is neither a grant nor a release leaves the table's part
pub others_kept : (t : List (List BlockRow)) (by : ℕ) (u : Update) (live : List Entry) → ((bs : List Block) → blocks_after u bs ≡ bs) → HoldsGrants t live → HoldsGrants t (after_entry (entry by u) live)
others_kept t by u live quiet h = record {
  rows = λ owner few.
      h.rows owner few ∙ ap rows_of (sym (granted-after_entry owner by u live ∙ ap (λ bs. cond (eqb by owner) bs (granted live owner)) (quiet (granted live owner)) ∙ either (eqb by owner) (granted live owner)));
}

-- whether the block of a base was given back
abbrev pub is_freed_block : Option Block → Bool
is_freed_block None = false
is_freed_block (Some b) = is_freed b.state

new_is_not_freed : (image : Bool) → is_freed (first_state image) ≡ false
new_is_not_freed true = refl
new_is_not_freed false = refl

find-with_state : (base other : ℕ) (bs : List Block) → eqb other base ≡ false → find (has_base base) (with_state other Freed bs) ≡ find (has_base base) bs
find-with_state base other [] apart = refl
find-with_state base other (b ∷ bs) apart =
    elim (has_base other b) as (λ t. has_base other b ≡ t → find (has_base base) (cond t (record b { state = Freed } ∷ bs) (b ∷ with_state other Freed bs)) ≡ find (has_base base) (b ∷ bs)) [
      | true ↦ λ is. (let not_base : has_base base b ≡ false = grind (arith, nat_tests) in grind arith)
      | false ↦ λ is. grind (arith, find-with_state base other bs apart)
    ] refl

never_after : (owner base : ℕ) (u : Update) (bs : List Block) → is_of owner (free_key base) (entry owner u) ≡ false → is_freed_block (find (has_base base) bs) ≡ false → is_freed_block (find (has_base base) (blocks_after u bs)) ≡ false
never_after owner base (Grant layout n image) bs not h =
    elim (eqb (next_base bs) base) as (λ t. is_freed_block (cond t (Some (record { base = next_base bs; layout = layout; count = count_of n; state = first_state image })) (find (has_base base) bs)) ≡ false) [
      | true ↦ new_is_not_freed image
      | false ↦ h
    ]
never_after owner base (Free other) bs not h = ap is_freed_block (find-with_state base other bs (other_base owner base other not)) ∙ h
never_after owner base _ bs not h = h

-- where no release of a base is live, its block was not given back
pub never_freed : (owner base : ℕ) (live : List Entry) → list_any (is_of owner (free_key base)) live ≡ false → is_freed_block (find (has_base base) (granted live owner)) ≡ false
never_freed owner base [] h = refl
never_freed owner base (e ∷ live) h =
    let rest : list_any (is_of owner (free_key base)) live ≡ false = grind arith in
    let here : is_of owner (free_key base) e ≡ false = grind arith in
    elim (is_owner owner e) as (λ m. is_owner owner e ≡ m → is_freed_block (find (has_base base) (cond m (blocks_after e.update (granted live owner)) (granted live owner))) ≡ false) [
      | true ↦ λ mine.
          let same : e.owner ≡ owner = grind (arith, nat_tests) in
          never_after owner base e.update (granted live owner) (subst (λ o. is_of owner (free_key base) (entry o e.update) ≡ false) same here) (never_freed owner base live rest)
      | false ↦ λ other. never_freed owner base live rest
    ] refl
