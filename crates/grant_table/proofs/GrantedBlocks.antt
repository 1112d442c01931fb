-- The blocks that live entries grant: they lie one behind the other, what takes one away, and what brings a freed one back.
use Rattle.std.proofs.Common.{◌≡◌, ◌≢◌, ℕ, ◌<◌, ◌≤◌, true, false, cond, not, ◌||◌, eqb, List, [], ◌∷◌, ℤ, pos, negsuc, Some, None, refl, ap, sym, ◌∙◌, subst, arith}
use Rattle.std.proofs.Math.Nat.{mul-pos}
use Rattle.std.proofs.lemmas.Bool.Decides.{nat_tests}
use Rattle.std.specs.List.{list_any, find}
use Rattle.sd_base.specs.declared.history.BlockState.{BlockState}
use Rattle.sd_base.specs.declared.history.BlockState.TheVariants.{Live, Freed, Image}
use Rattle.sd_base.specs.declared.history.Layout.{Layout}
use Rattle.sd_base.specs.declared.history.Refusal.TheVariants.{NotBlock, Freed as RefusedFreed}
use Rattle.sd_base.specs.declared.history.Update.{Update}
use Rattle.sd_base.specs.declared.history.Update.TheVariants.{Grant, Free}
use Rattle.sd_base.specs.Selection.{without_first}
use Rattle.sd_base.specs.History.{Entry, entry, Key, block_key, free_key, is_owner, is_of}
use Rattle.sd_base.specs.Blocks.{Block, block_size, block_end, round_up, next_base, count_of, first_state, has_base, with_state, blocks_after, granted, has_room, is_image, is_freed}
use Rattle.sd_base.specs.Allowed.{free_refusal}
use Rattle.sd_base.specs.Sound.{BlockAllowed, BlocksAllowed}
use Rattle.sd_base.proofs.Live.{is_of-owner}

-- the blocks, the newest first, lie one behind the other, and each has a byte
abbrev pub IsStack : List Block → Type 0
IsStack [] = Unit {0}
IsStack (b ∷ bs) = (next_base bs ≤ b.base) × (0 < block_size b) × IsStack bs

round_ge : (n : ℕ) → n ≤ round_up n
round_ge n = omega arith

-- every base lies before the next
pub bases_below : (bs : List Block) (n : ℕ) → next_base bs ≤ n → IsStack bs → list_any (has_base n) bs ≡ false
bases_below [] n le s = refl
bases_below (b ∷ bs) n le s =
    let end : block_end b ≤ round_up (block_end b) = round_ge (block_end b) in
    let some : 0 < block_size b = s.1 in
    let low : next_base bs ≤ b.base = s.0 in
    let less : b.base < n = omega arith in
    let rest : list_any (has_base n) bs ≡ false = bases_below bs n (omega arith) s.2 in
    grind (arith, nat_tests)

next_base-with_state : (base : ℕ) (state : BlockState) (bs : List Block) → next_base (with_state base state bs) ≡ next_base bs
next_base-with_state base state [] = refl
next_base-with_state base state (b ∷ bs) =
    elim (has_base base b) as (λ t. next_base (cond t (record b { state = state } ∷ bs) (b ∷ with_state base state bs)) ≡ next_base (b ∷ bs)) [ true ↦ refl | false ↦ refl ]

stack-with_state : (base : ℕ) (state : BlockState) (bs : List Block) → IsStack bs → IsStack (with_state base state bs)
stack-with_state base state [] s = tt
stack-with_state base state (b ∷ bs) s =
    elim (has_base base b) as (λ t. IsStack (cond t (record b { state = state } ∷ bs) (b ∷ with_state base state bs))) [
      | true ↦ (s.0, s.1, s.2)
      | false ↦ (
        subst (λ n. n ≤ b.base) (sym (next_base-with_state base state bs)) s.0,
        s.1,
        stack-with_state base state bs s.2,
      )
    ]

some_elements : (bs : List Block) (layout : Layout) (n : ℤ) → has_room bs layout n ≡ true → 0 < count_of n
some_elements bs layout (pos n) h = grind (arith, nat_tests)
some_elements bs layout (negsuc n) h = cc

stack_after : (owner : ℕ) (u : Update) (live : List Entry) → BlockAllowed owner u live → IsStack (granted live owner) → IsStack (blocks_after u (granted live owner))
stack_after owner (Grant layout n image) live a s =
    let bytes : 0 < layout.size = grind (arith, nat_tests, a.0) in
    (omega arith, mul-pos bytes (some_elements (granted live owner) layout n a.1), s)
stack_after owner (Free base) live a s = stack-with_state base Freed (granted live owner) s
stack_after owner _ live a s = s

-- what sound entries grant lies one behind the other
pub granted_stack : (live : List Entry) (owner : ℕ) → BlocksAllowed live → IsStack (granted live owner)
granted_stack [] owner a = tt
granted_stack (e ∷ live) owner a =
    elim (is_owner owner e) as (λ b. is_owner owner e ≡ b → IsStack (cond b (blocks_after e.update (granted live owner)) (granted live owner))) [
      | true ↦ λ is.
          let same : e.owner ≡ owner = grind (arith, nat_tests) in
          stack_after owner e.update live (subst (λ o. BlockAllowed o e.update live) same a.0) (granted_stack live owner a.1)
      | false ↦ λ is. granted_stack live owner a.1
    ] refl

-- the owner's own update, and another owner's
pub granted_own : (owner : ℕ) (u : Update) (live : List Entry) → granted (entry owner u ∷ live) owner ≡ blocks_after u (granted live owner)
granted_own owner u live = grind (arith, nat_tests)

pub granted_others : (owner other : ℕ) (u : Update) (live : List Entry) → other ≢ owner → granted (entry owner u ∷ live) other ≡ granted live other
granted_others owner other u live apart = grind (arith, nat_tests)

-- an owner's entry taken away leaves the others' blocks
pub granted-without_of : (owner other : ℕ) (key : Key) (live : List Entry) → other ≢ owner → granted (without_first (is_of owner key) live) other ≡ granted live other
granted-without_of owner other key [] apart = refl
granted-without_of owner other key (e ∷ live) apart =
    elim (is_of owner key e) as (λ b. is_of owner key e ≡ b → granted (cond b live (e ∷ without_first (is_of owner key) live)) other ≡ granted (e ∷ live) other) [
      | true ↦ λ is. (let same : e.owner ≡ owner = is_of-owner owner key e is in grind (arith, nat_tests))
      | false ↦ λ is. grind (arith, granted-without_of owner other key live apart)
    ] refl

-- the blocks without the newest
abbrev pub but_newest : List Block → List Block
but_newest [] = []
but_newest (b ∷ bs) = bs

pub with_state-none : (base : ℕ) (state : BlockState) (bs : List Block) → list_any (has_base base) bs ≡ false → with_state base state bs ≡ bs
with_state-none base state [] h = refl
with_state-none base state (b ∷ bs) h = grind (arith, with_state-none base state bs)

but_newest-with_state : (base : ℕ) (bs : List Block) (rest : List Block) → IsStack bs → but_newest (with_state base Freed bs) ≡ with_state base Freed (but_newest bs)
but_newest-with_state base [] rest s = refl
but_newest-with_state base (b ∷ bs) rest s =
    elim (has_base base b) as (λ t. has_base base b ≡ t → but_newest (cond t (record b { state = Freed } ∷ bs) (b ∷ with_state base Freed bs)) ≡ with_state base Freed bs) [
      | true ↦ λ is.
          let same : b.base ≡ base = grind (arith, nat_tests) in
          let none : list_any (has_base base) bs ≡ false = subst (λ n. list_any (has_base n) bs ≡ false) same (bases_below bs b.base s.0 s.2) in
          sym (with_state-none base Freed bs none)
      | false ↦ λ is. refl
    ] refl

-- the owner's update, kept where its newest grant is taken away
grant_is_one : (owner : ℕ) → (eqb owner owner) ≡ false → ⊥
grant_is_one owner h = (let same : eqb owner owner ≡ true = grind (arith, nat_tests) in cc)

past_block : (owner : ℕ) (u : Update) (bs : List Block) → is_of owner block_key (entry owner u) ≡ false → IsStack bs → but_newest (blocks_after u bs) ≡ blocks_after u (but_newest bs)
past_block owner (Grant layout n image) bs not s = absurd (grant_is_one owner not)
past_block owner (Free base) bs not s = but_newest-with_state base bs [] s
past_block owner _ bs not s = refl

-- only a grant has the key of blocks
newest_block : (owner : ℕ) (u : Update) (bs : List Block) → is_of owner block_key (entry owner u) ≡ true → bs ≡ but_newest (blocks_after u bs)
newest_block owner (Grant layout n image) bs is = refl
newest_block owner (Free base) bs is = cc
newest_block owner _ bs is = cc

kept_own : (owner : ℕ) (e : Entry) (live : List Entry) → is_owner owner e ≡ true → granted (e ∷ live) owner ≡ blocks_after e.update (granted live owner)
kept_own owner e live mine = grind arith

-- the newest grant taken away takes the newest block away
pub granted-without_block : (owner : ℕ) (live : List Entry) → BlocksAllowed live → granted (without_first (is_of owner block_key) live) owner ≡ but_newest (granted live owner)
granted-without_block owner [] a = refl
granted-without_block owner (e ∷ live) a =
    let rest : granted (without_first (is_of owner block_key) live) owner ≡ but_newest (granted live owner) = granted-without_block owner live a.1 in
    let stack : IsStack (granted live owner) = granted_stack live owner a.1 in
    elim (is_owner owner e) as (λ m. is_owner owner e ≡ m → granted (without_first (is_of owner block_key) (e ∷ live)) owner ≡ but_newest (cond m (blocks_after e.update (granted live owner)) (granted live owner))) [
      | true ↦ λ mine.
          let same : e.owner ≡ owner = grind (arith, nat_tests) in
          elim (is_of owner block_key e) as (λ b. is_of owner block_key e ≡ b → granted (cond b live (e ∷ without_first (is_of owner block_key) live)) owner ≡ but_newest (blocks_after e.update (granted live owner))) [
            | true ↦ λ is. newest_block owner e.update (granted live owner) (subst (λ o. is_of owner block_key (entry o e.update) ≡ true) same is)
            | false ↦ λ is.
                kept_own owner e (without_first (is_of owner block_key) live) mine ∙ ap (blocks_after e.update) rest
                ∙ sym (past_block owner e.update (granted live owner) (subst (λ o. is_of owner block_key (entry o e.update) ≡ false) same is) stack)
          ] refl
      | false ↦ λ other.
          let not_one : is_of owner block_key e ≡ false = grind arith in
          grind arith
    ] refl

-- a block that was freed, and the release of it taken away

-- the block of this base is there, and its release taken away makes it live again
pub record WasFreed (owner base : ℕ) (live : List Entry) : Type 0 where
  pub there : list_any (has_base base) (granted live owner) ≡ true
  pub back : granted (without_first (is_of owner (free_key base)) live) owner ≡ with_state base Live (granted live owner)

any-with_state : (base other : ℕ) (state : BlockState) (bs : List Block) → list_any (has_base base) (with_state other state bs) ≡ list_any (has_base base) bs
any-with_state base other state [] = refl
any-with_state base other state (b ∷ bs) =
    elim (has_base other b) as (λ t. list_any (has_base base) (cond t (record b { state = state } ∷ bs) (b ∷ with_state other state bs)) ≡ list_any (has_base base) (b ∷ bs)) [
      | true ↦ refl
      | false ↦ ap (λ x. eqb b.base base || x) (any-with_state base other state bs)
    ]

-- what was live before a release can be released, and is live again without it
was_live : (state : BlockState) → cond (is_image state) (Some NotBlock) (cond (is_freed state) (Some RefusedFreed) None) ≡ None → state ≡ Live
was_live Image h = cc
was_live Live h = refl
was_live Freed h = cc

first_again : (base : ℕ) (b : Block) (bs : List Block) → has_base base b ≡ true → b.state ≡ Live → b ∷ bs ≡ with_state base Live (with_state base Freed (b ∷ bs))
first_again base b bs is live =
    let freed : with_state base Freed (b ∷ bs) ≡ record b { state = Freed } ∷ bs = grind arith in
    let again : with_state base Live (record b { state = Freed } ∷ bs) ≡ record b { state = Live } ∷ bs = grind arith in
    ap (λ s. record b { state = s } ∷ bs) live ∙ sym again ∙ ap (with_state base Live) (sym freed)

later_again : (base : ℕ) (b : Block) (bs : List Block) → has_base base b ≡ false → b ∷ with_state base Live (with_state base Freed bs) ≡ with_state base Live (with_state base Freed (b ∷ bs))
later_again base b bs is = grind arith

live_again : (base : ℕ) (bs : List Block) → free_refusal (find (has_base base) bs) ≡ None → (list_any (has_base base) bs ≡ true) × (bs ≡ with_state base Live (with_state base Freed bs))
live_again base [] h = cc
live_again base (b ∷ bs) h =
    elim (has_base base b) as (λ t. has_base base b ≡ t → (list_any (has_base base) (b ∷ bs) ≡ true) × (b ∷ bs ≡ with_state base Live (with_state base Freed (b ∷ bs)))) [
      | true ↦ λ is.
          let allowed : free_refusal (Some b) ≡ None = grind arith in
          let live : b.state ≡ Live = was_live b.state allowed in
          (grind arith, first_again base b bs is live)
      | false ↦ λ is.
          let rest : free_refusal (find (has_base base) bs) ≡ None = grind arith in
          let again : (list_any (has_base base) bs ≡ true) × (bs ≡ with_state base Live (with_state base Freed bs)) = live_again base bs rest in
          (grind (arith, again.0), ap (λ xs. b ∷ xs) again.1 ∙ later_again base b bs is)
    ] refl

apart_here : (base other : ℕ) (b : Block) (bs : List Block) → has_base base b ≡ true → has_base other b ≡ false →
    with_state other Freed (record b { state = Live } ∷ bs) ≡ with_state base Live (with_state other Freed (b ∷ bs))
apart_here base other b bs is not_other = grind arith

apart_other : (base : ℕ) (b : Block) (bs : List Block) → has_base base b ≡ false → record b { state = Freed } ∷ with_state base Live bs ≡ with_state base Live (record b { state = Freed } ∷ bs)
apart_other base b bs is = grind arith

apart_neither : (base : ℕ) (b : Block) (bs : List Block) → has_base base b ≡ false → b ∷ with_state base Live bs ≡ with_state base Live (b ∷ bs)
apart_neither base b bs is = grind arith

with_state-apart : (base other : ℕ) (bs : List Block) → eqb other base ≡ false → with_state other Freed (with_state base Live bs) ≡ with_state base Live (with_state other Freed bs)
with_state-apart base other [] apart = refl
with_state-apart base other (b ∷ bs) apart =
    elim (has_base base b) as (λ t. has_base base b ≡ t → with_state other Freed (cond t (record b { state = Live } ∷ bs) (b ∷ with_state base Live bs)) ≡ with_state base Live (with_state other Freed (b ∷ bs))) [
      | true ↦ λ is.
          let not_other : has_base other b ≡ false = grind (arith, nat_tests) in
          apart_here base other b bs is not_other
      | false ↦ λ is.
          elim (has_base other b) as (λ o. has_base other b ≡ o → cond o (record b { state = Freed } ∷ with_state base Live bs) (b ∷ with_state other Freed (with_state base Live bs)) ≡ with_state base Live (cond o (record b { state = Freed } ∷ bs) (b ∷ with_state other Freed bs))) [
            | true ↦ λ here. apart_other base b bs is
            | false ↦ λ here. ap (λ xs. b ∷ xs) (with_state-apart base other bs apart) ∙ apart_neither base b (with_state other Freed bs) is
          ] refl
    ] refl

kept_other : (owner : ℕ) (e : Entry) (live : List Entry) → is_owner owner e ≡ false → granted (e ∷ live) owner ≡ granted live owner
kept_other owner e live other = grind arith

-- a block that is there lies before the next base
older : (base : ℕ) (bs : List Block) → list_any (has_base base) bs ≡ true → IsStack bs → eqb (next_base bs) base ≡ false
older base bs there s =
    elim (eqb (next_base bs) base) as (λ t. eqb (next_base bs) base ≡ t → t ≡ false) [
      | true ↦ λ is.
          let same : next_base bs ≡ base = grind (arith, nat_tests) in
          let none : list_any (has_base base) bs ≡ false = bases_below bs base (omega arith) s in
          cc
      | false ↦ λ is. refl
    ] refl

free_base : (owner base b : ℕ) → is_of owner (free_key base) (entry owner (Free b)) ≡ true → b ≡ base
free_base owner base b h = grind (arith, nat_tests)

pub other_base : (owner base b : ℕ) → is_of owner (free_key base) (entry owner (Free b)) ≡ false → eqb b base ≡ false
other_base owner base b h =
    let mine : eqb owner owner ≡ true = grind (arith, nat_tests) in
    grind arith

-- what one more entry does to a block that was freed
freed_past : (owner base : ℕ) (u : Update) (bs bs_before : List Block) → is_of owner (free_key base) (entry owner u) ≡ false → list_any (has_base base) bs ≡ true → IsStack bs → bs_before ≡ with_state base Live bs →
    (list_any (has_base base) (blocks_after u bs) ≡ true) × (blocks_after u bs_before ≡ with_state base Live (blocks_after u bs))
freed_past owner base (Grant layout n image) bs before not there s back =
    let old : eqb (next_base bs) base ≡ false = older base bs there s in
    let same : next_base before ≡ next_base bs = ap next_base back ∙ next_base-with_state base Live bs in
    let new : Block = record { base = next_base bs; layout = layout; count = count_of n; state = first_state image } in (
      grind (arith, there),
      ap (λ m. record { base = m; layout = layout; count = count_of n; state = first_state image } ∷ before) same ∙ ap (λ xs. new ∷ xs) back ∙ apart_neither base new bs old,
    )
freed_past owner base (Free other) bs before not there s back =
    let apart : eqb other base ≡ false = other_base owner base other not in
    (any-with_state base other Freed bs ∙ there, ap (with_state other Freed) back ∙ with_state-apart base other bs apart)
freed_past owner base _ bs before not there s back = (there, back)

-- the release itself
freed_here : (owner base : ℕ) (u : Update) (live : List Entry) → is_of owner (free_key base) (entry owner u) ≡ true → BlockAllowed owner u live →
    (list_any (has_base base) (blocks_after u (granted live owner)) ≡ true) × (granted live owner ≡ with_state base Live (blocks_after u (granted live owner)))
freed_here owner base (Free b) live is allowed =
    let same : b ≡ base = free_base owner base b is in
    let ok : free_refusal (find (has_base base) (granted live owner)) ≡ None = subst (λ n. free_refusal (find (has_base n) (granted live owner)) ≡ None) same allowed in
    let again : (list_any (has_base base) (granted live owner) ≡ true) × (granted live owner ≡ with_state base Live (with_state base Freed (granted live owner))) = live_again base (granted live owner) ok in
    subst (λ n. (list_any (has_base base) (with_state n Freed (granted live owner)) ≡ true) × (granted live owner ≡ with_state base Live (with_state n Freed (granted live owner)))) (sym same)
    (any-with_state base base Freed (granted live owner) ∙ again.0, again.1)
freed_here owner base _ live is allowed = cc

-- the newest release of a block taken away makes the block live again
pub granted-without_free : (owner base : ℕ) (live : List Entry) → BlocksAllowed live → list_any (is_of owner (free_key base)) live ≡ true → WasFreed owner base live
granted-without_free owner base [] a h = cc
granted-without_free owner base (e ∷ live) a h =
    let stack : IsStack (granted live owner) = granted_stack live owner a.1 in
    elim (is_of owner (free_key base) e) as (λ b. is_of owner (free_key base) e ≡ b → WasFreed owner base (e ∷ live)) [
      | true ↦ λ is.
          let same : e.owner ≡ owner = is_of-owner owner (free_key base) e is in
          let mine : is_owner owner e ≡ true = grind (arith, nat_tests) in
          let own : granted (e ∷ live) owner ≡ blocks_after e.update (granted live owner) = kept_own owner e live mine in
          let gone : without_first (is_of owner (free_key base)) (e ∷ live) ≡ live = grind arith in
          let here : (list_any (has_base base) (blocks_after e.update (granted live owner)) ≡ true) × (granted live owner ≡ with_state base Live (blocks_after e.update (granted live owner))) =
          freed_here owner base e.update live (subst (λ o. is_of owner (free_key base) (entry o e.update) ≡ true) same is) (subst (λ o. BlockAllowed o e.update live) same a.0) in
          record {
            there = ap (list_any (has_base base)) own ∙ here.0;
            back = ap (λ l. granted l owner) gone ∙ here.1 ∙ ap (with_state base Live) (sym own);
          }
      | false ↦ λ is.
          let rest : WasFreed owner base live = granted-without_free owner base live a.1 (grind arith) in
          let kept : without_first (is_of owner (free_key base)) (e ∷ live) ≡ e ∷ without_first (is_of owner (free_key base)) live = grind arith in
          elim (is_owner owner e) as (λ m. is_owner owner e ≡ m → WasFreed owner base (e ∷ live)) [
            | true ↦ λ mine.
                let same : e.owner ≡ owner = grind (arith, nat_tests) in
                let own : granted (e ∷ live) owner ≡ blocks_after e.update (granted live owner) = kept_own owner e live mine in
                let past : (list_any (has_base base) (blocks_after e.update (granted live owner)) ≡ true)
                × (blocks_after e.update (granted (without_first (is_of owner (free_key base)) live) owner) ≡ with_state base Live (blocks_after e.update (granted live owner))) =
                freed_past owner base e.update (granted live owner) (granted (without_first (is_of owner (free_key base)) live) owner)
                (subst (λ o. is_of owner (free_key base) (entry o e.update) ≡ false) same is) rest.there stack rest.back in
                record {
                  there = ap (list_any (has_base base)) own ∙ past.0;
                  back = ap (λ l. granted l owner) kept ∙ kept_own owner e (without_first (is_of owner (free_key base)) live) mine ∙ past.1 ∙ ap (with_state base Live) (sym own);
                }
            | false ↦ λ other.
                let own : granted (e ∷ live) owner ≡ granted live owner = kept_other owner e live other in
                record {
                  there = ap (list_any (has_base base)) own ∙ rest.there;
                  back = ap (λ l. granted l owner) kept ∙ kept_other owner e (without_first (is_of owner (free_key base)) live) other ∙ rest.back ∙ ap (with_state base Live) (sym own);
                }
          ] refl
    ] refl
