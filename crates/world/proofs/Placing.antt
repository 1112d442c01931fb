-- A block of a load image in its place: its bytes one after the other, and what the kernel's tables and the driver's memory stand for then.
-- Here: rest-at, inside_next, one_more, length-copied, inside_new, shortest, block_passed, update_proper, has_few, ends_within, block_told, none_told, image_next
use Rattle.std.proofs.Common.{◌≡◌, ℕ, zero, suc, ◌+◌, ◌*◌, ◌%◌, ◌<◌, ◌≤◌, Bool, true, false, cond, ◌&&◌, ◌||◌, eqb, ltb, min, IsTrue, List, [], ◌∷◌, ◌++◌, length, take, drop, set, map, reverse, get_or, ℤ, pos, Option, Some, None, is_none, Ok, Err, OnOk, refl, sym, ap, subst, ◌∙◌, arith, add-one}
use Rattle.std.proofs.Math.Seq.{drop-cons}
use Rattle.std.proofs.lemmas.List.{length-set, length-reverse, length-map}
use Rattle.std.proofs.lemmas.Bool.Decides.{nat_tests}
use Rattle.std.proofs.lemmas.List.Folds.{Any-from_list_any, list_any-from_Any}
use Rattle.std.specs.Prelude.{nat_le}
use Rattle.std.specs.List.{list_any, Any}
use Rattle.sd_base.specs.declared.history.Layout.{Layout}
use Rattle.sd_base.specs.declared.history.Refusal.{Refusal}
use Rattle.sd_base.specs.declared.history.Refusal.TheVariants.{NoRoom}
use Rattle.sd_base.specs.declared.history.Update.{Update}
use Rattle.sd_base.specs.declared.history.Update.TheVariants.{Grant}
use Rattle.sd_base.specs.History.{History, entry, live_of}
use Rattle.sd_base.specs.Blocks.{Block, next_base, has_room, granted, blocks_after}
use Rattle.sd_base.specs.Allowed.{refusal, is_proper, IsLawful}
use Rattle.sd_base.proofs.Counting.{reverse-cons}
use Rattle.grant_table.proofs.GrantPartKept.{granted-live_of}
use Rattle.byte_memory.specs.Bytes.{overwritten, low_bytes}
use Rattle.byte_memory.specs.declared.tested.GrantedRange.{GrantedRange}
use Rattle.byte_memory.specs.Tested.{Memory, contains, is_inside}
use Rattle.byte_memory.proofs.Grants.{contains_bounds}
use Rattle.byte_memory.proofs.Words.{store_1}
use Rattle.checked_tree.specs.declared.units.ImageBlock.{ImageBlock}
use Rattle.update_tracker.specs.declared.undo.Reply.{Reply}
use Rattle.update_tracker.specs.declared.undo.Reply.TheVariants.{Base}
use Rattle.update_tracker.specs.Answered.{Answer, answered, unless}
use Rattle.update_tracker.specs.Tracking.{TrackedRows, Stands, ServesTracked}
use Rattle.world_core.specs.WorldState.{range_of}
use Rattle.world_core.specs.Loading.{element_size, image_grant}
use Rattle.world.specs.Images.{Filled, TellsDriver, image_layout, copied, placed_in, placed, with_block, with_image}

-- the element at an index begins the rest
pub rest-at : {X : Type 0} (xs : List X) (i : ℕ) (d x : X) → i < length xs → get_or xs i d ≡ x → drop i xs ≡ x ∷ drop (i + 1) xs
rest-at xs i d x h e = rw add-one (drop-cons xs i d h ∙ ap (λ (y : _). y ∷ drop (suc i) xs) e)

-- ---- bytes

-- part of an access that is inside is inside
inside_part_of : (rs : List GrantedRange) (at n k m : ℕ) → at ≤ k → k + m ≤ at + n → IsTrue (list_any (contains at n) rs) → IsTrue (list_any (contains k m) rs)
inside_part_of rs at n k m from to inside =
    let found : Any (λ range. contains at n range ≡ true) rs = Any-from_list_any (contains at n) rs inside in
    let bounds = contains_bounds at n found.1 found.4 in
    let here : contains k m found.1 ≡ true = grind (arith, nat_tests, bounds.0, bounds.1, from, to) in
    list_any-from_Any (contains k m) rs (found.0, found.1, found.2, found.3, here)

-- the next byte of a copy is inside
pub inside_next : (old now : Memory) (at n i place : ℕ) → now.granted ≡ old.granted → place ≡ at + i → i < n → IsTrue (is_inside old at n) → IsTrue (is_inside now place 1)
inside_next old now at n i place same is below inside =
    subst (λ (k : ℕ). IsTrue (is_inside now k 1)) (sym is)
    (subst (λ (rs : List GrantedRange). IsTrue (list_any (contains (at + i) 1) rs)) (sym same)
    (inside_part_of old.granted at n (at + i) 1 (omega arith) (omega (arith, below)) inside))

pub length-copied : (bytes : List ℕ) (at : ℕ) (new : List ℕ) → length (copied bytes at new) ≡ length bytes
length-copied bytes at [] = refl
length-copied bytes at (x ∷ xs) = length-copied (set bytes at x) (at + 1) xs ∙ length-set bytes at x

-- one byte more
pub one_more : (bytes rest more : List ℕ) (at v : ℕ) → at + 1 ≤ length bytes → v < 256 → rest ≡ v ∷ more → copied (overwritten bytes at (low_bytes 1 v)) (at + 1) more ≡ copied bytes at rest
one_more bytes rest more at v within byte is =
    let low : v % 256 ≡ v = grind arith in
    ap (λ (bs : List ℕ). copied bs (at + 1) more) (store_1 bytes at v within ∙ ap (set bytes at) low) ∙ ap (copied bytes at) (sym is)

-- what begins at the base of a range just granted and is no longer than it is inside
here_inside : (base size n : ℕ) → n ≤ size → contains base n (record { base = base; size = size }) ≡ true
here_inside base size n fits = grind (arith, nat_tests, fits)

pub inside_new : (rs : List GrantedRange) (base size n : ℕ) → n ≤ size → IsTrue (list_any (contains base n) (rs ++ record { base = base; size = size } ∷ []))
inside_new [] base size n fits = let h = here_inside base size n fits in grind (arith, nat_tests, h)
inside_new (r ∷ rs) base size n fits = let h = inside_new rs base size n fits in by (contains base n r) h
  where
    by : (b : Bool) → IsTrue (list_any (contains base n) (rs ++ record { base = base; size = size } ∷ [])) → IsTrue (b || list_any (contains base n) (rs ++ record { base = base; size = size } ∷ []))
    by true h = refl
    by false h = h

-- as many bytes as there are, or as there is room for
pub take_all : (n : ℕ) (xs : List ℕ) → length xs ≤ n → take n xs ≡ xs
take_all zero [] h = refl
take_all zero (x ∷ xs) h = absurd (omega arith)
take_all (suc n) [] h = refl
take_all (suc n) (x ∷ xs) h = ap (λ (ys : List ℕ). x ∷ ys) (take_all n xs (omega arith))

pub shortest : (bytes : List ℕ) (size n : ℕ) → n ≡ min (length bytes) size → take n bytes ≡ take size bytes
shortest bytes size n is = by (nat_le size (length bytes)) refl
  where
    by : (b : Bool) → nat_le size (length bytes) ≡ b → take n bytes ≡ take size bytes
    by true e =
        let fits : size ≤ length bytes = grind (arith, nat_tests) in
        let same : n ≡ size = omega (arith, is, fits) in
        ap (λ (k : ℕ). take k bytes) same
    by false e =
        let over : length bytes ≤ size = grind (arith, nat_tests) in
        let same : n ≡ length bytes = omega (arith, is, over) in
        take_all n bytes (omega (arith, same)) ∙ sym (take_all size bytes over)

-- ---- the kernel

-- an update that was accepted is allowed
accepted : (r : Option Refusal) (reply wanted : Reply) → Ok reply ≡ unless r wanted → (r ≡ None) × (reply ≡ wanted)
accepted None reply wanted h = (refl, cc)
accepted (Some x) reply wanted h = cc

refused : (r : Option Refusal) (x : Refusal) (wanted : Reply) → Err x ≡ unless r wanted → r ≡ Some x
refused None x wanted h = cc
refused (Some y) x wanted h = cc

room_by : (room : Bool) → cond room None (Some NoRoom) ≡ None → room ≡ true
room_by true free = refl
room_by false free = cc

-- room says that there are few blocks, and where the new one ends
room_says : (bs : List Block) (layout : Layout) (n : ℕ) → has_room bs layout (pos n) ≡ true → (length bs < 4096) × (next_base bs + layout.size * n ≤ 1048576)
room_says bs layout n room = (grind (arith, nat_tests), grind (arith, nat_tests))

-- what a driver may ask for: elements that have a byte
pub update_proper : (owner size : ℕ) → 0 < owner → owner ≤ 4 → (size ≡ 0 → ⊥) → cond (eqb owner 0) false (ltb owner 5 && ltb 0 size) ≡ true
update_proper owner size some few bytes = grind (arith, nat_tests, bytes)

update_improper : (owner size : ℕ) → size ≡ 0 → cond (eqb owner 0) false (ltb owner 5 && ltb 0 size) ≡ false
update_improper owner size none = grind (arith, nat_tests)

pub both_false : (a b : Bool) → b ≡ false → (a && b) ≡ false
both_false true b e = e
both_false false b e = refl

pub own : (owner : ℕ) → eqb owner owner ≡ true
own owner = grind (arith, nat_tests)

module _ (share owner : ℕ) (b : ImageBlock) (f : Filled) where
  -- a block whose elements have no byte stays out
  pub block_passed : (layout : Layout) → layout ≡ image_layout b → layout.size ≡ 0 → with_block share owner b f ≡ f
  block_passed layout is none =
      let size : element_size b ≡ 0 = sym (ap (λ (l : Layout). l.size) is) ∙ none in
      ap (λ (x : Bool). cond (x && is_none (refusal share f.history owner (image_grant b))) (placed owner b f) f) (update_improper owner (element_size b) size)

  block_refused : (x : Refusal) → refusal share f.history owner (image_grant b) ≡ Some x → with_block share owner b f ≡ f
  block_refused x is =
      ap (λ (c : Bool). cond c (placed owner b f) f) (both_false (is_proper owner (image_grant b)) (is_none (refusal share f.history owner (image_grant b))) (ap is_none is))

  pub block_placed : is_proper owner (image_grant b) ≡ true → refusal share f.history owner (image_grant b) ≡ None → with_block share owner b f ≡ placed owner b f
  block_placed proper is =
      ap (λ (c : Bool). cond (c && is_none (refusal share f.history owner (image_grant b))) (placed owner b f) f) proper
      ∙ ap (λ (r : Option Refusal). cond (is_none r) (placed owner b f) f) is

-- an owner's blocks with one more
pub granted-more : (h : History) (owner : ℕ) (b : ImageBlock) → granted (entry owner (image_grant b) ∷ h) owner ≡ blocks_after (image_grant b) (granted h owner)
granted-more h owner b = ap (λ (x : Bool). cond x (blocks_after (image_grant b) (granted h owner)) (granted h owner)) (own owner)

length_ranges : (h : History) (owner : ℕ) → length (reverse (map range_of (granted h owner))) ≡ length (granted h owner)
length_ranges h owner = length-reverse (map range_of (granted h owner)) ∙ length-map (granted h owner) range_of

-- a block was granted: there was room, at this base
pub record Took (new : TrackedRows) (share owner : ℕ) (b : ImageBlock) (h : History) (base : ℕ) : Type 0 where
  pub room : has_room (granted h owner) (image_layout b) (pos b.count) ≡ true
  pub based : base ≡ next_base (granted h owner)
  pub allowed : refusal share h owner (image_grant b) ≡ None
  pub stands : Stands new (entry owner (image_grant b) ∷ h)

same_base : (m n : ℕ) → Base m ≡ Base n → m ≡ n
same_base m n e = cc e

module _ (old new : TrackedRows) (memory : Memory) (share owner : ℕ) (b : ImageBlock) (f : Filled) (tells : TellsDriver old memory share owner f)
    (layout : Layout) (n : ℤ) (is : layout ≡ image_layout b) (counts : n ≡ pos b.count) where
  served_as : (answer : Answer) → ServesTracked old owner (Grant layout n true) answer new
      → (answer ≡ answered share f.history owner (image_grant b)) × OnOk answer (Stands new (entry owner (image_grant b) ∷ f.history))
  served_as answer serves =
      let same : Grant layout n true ≡ image_grant b = ap (λ (l : Layout). Grant l n true) is ∙ ap (λ (k : ℤ). Grant (image_layout b) k true) counts in
      let here : ServesTracked old owner (image_grant b) answer new = subst (λ (u : Update). ServesTracked old owner u answer new) same serves in
      let both = here f.history (subst (λ (k : ℕ). IsLawful k f.history) (sym tells.holders) tells.lawful) tells.proper tells.tables in
      (both.0 ∙ ap (λ (k : ℕ). answered k f.history owner (image_grant b)) tells.holders, both.1)

  pub took : (base : ℕ) (reply : Reply) → reply ≡ Base base → ServesTracked old owner (Grant layout n true) (Ok reply) new → Took new share owner b f.history base
  took base reply said serves =
      let both = served_as (Ok (Base base)) (subst (λ (x : Reply). ServesTracked old owner (Grant layout n true) (Ok x) new) said serves) in
      let allowed = accepted (refusal share f.history owner (image_grant b)) (Base base) (Base (next_base (granted f.history owner))) both.0 in
      record {
        room = ap (λ (bs : List Block). has_room bs (image_layout b) (pos b.count)) (sym (granted-live_of f.history owner))
            ∙ room_by (has_room (granted (live_of f.history) owner) (image_layout b) (pos b.count)) allowed.0;
        based = same_base base (next_base (granted f.history owner)) allowed.1;
        allowed = allowed.0;
        stands = both.1;
      }

  pub has_few : (base : ℕ) → Took new share owner b f.history base → length memory.granted < 4096
  has_few base took_it =
      let few = (room_says (granted f.history owner) (image_layout b) b.count took_it.room).0 in
      let same : length memory.granted ≡ length (granted f.history owner) = ap (λ (m : Memory). length m.granted) tells.memory ∙ length_ranges f.history owner in
      omega (arith, few, same)

  pub is_long : length memory.bytes ≡ 1048576
  is_long = ap (λ (m : Memory). length m.bytes) tells.memory ∙ tells.sized

  pub ends_within : (base : ℕ) → Took new share owner b f.history base → base + layout.size * b.count ≤ length memory.bytes
  ends_within base took_it =
      let ends = (room_says (granted f.history owner) (image_layout b) b.count took_it.room).1 in
      let same : base + layout.size * b.count ≡ next_base (granted f.history owner) + (image_layout b).size * b.count =
      ap (λ (k : ℕ). k + layout.size * b.count) took_it.based ∙ ap (λ (l : Layout). next_base (granted f.history owner) + l.size * b.count) is in
      omega (arith, ends, is_long, same)

  -- the block is in its place
  module _ (some : 0 < owner) (few : owner ≤ 4) (bytes : layout.size ≡ 0 → ⊥) where
    proper : is_proper owner (image_grant b) ≡ true
    proper = update_proper owner (element_size b) some few (λ z. bytes (ap (λ (l : Layout). l.size) is ∙ z))

    placed_tells : (after : Memory) (base : ℕ) → Took new share owner b f.history base → new.kernel.claims.share ≡ old.kernel.claims.share
        → after ≡ placed_in memory (next_base (granted f.history owner)) (element_size b * b.count) b.bytes → TellsDriver new after share owner (placed owner b f)
    placed_tells after base took_it shared there =
        let range : GrantedRange = record { base = next_base (granted f.history owner); size = element_size b * b.count } in
        let ranges : reverse (map range_of (granted (entry owner (image_grant b) ∷ f.history) owner)) ≡ reverse (map range_of (granted f.history owner)) ++ range ∷ [] =
        ap (λ (bs : List Block). reverse (map range_of bs)) (granted-more f.history owner b) ∙ reverse-cons range (map range_of (granted f.history owner)) in
        record {
          holders = shared ∙ tells.holders;
          lawful = (took_it.allowed, tells.lawful);
          proper = (proper, tells.proper);
          tables = took_it.stands;
          clock = tells.clock;
          memory = there ∙ ap (λ (m : Memory). placed_in m range.base range.size b.bytes) tells.memory
              ∙ ap (λ (rs : List GrantedRange). record { bytes = copied f.bytes range.base (take range.size b.bytes); granted = rs }) (sym ranges);
          sized = length-copied f.bytes range.base (take range.size b.bytes) ∙ tells.sized;
        }

    pub block_told : (base : ℕ) (reply : Reply) (after : Memory) → reply ≡ Base base → ServesTracked old owner (Grant layout n true) (Ok reply) new
        → new.kernel.claims.share ≡ old.kernel.claims.share → after ≡ placed_in memory base (layout.size * b.count) b.bytes
        → TellsDriver new after share owner (with_block share owner b f)
    block_told base reply after said serves shared behind =
        let took_it = took base reply said serves in
        let there : after ≡ placed_in memory (next_base (granted f.history owner)) (element_size b * b.count) b.bytes =
        behind ∙ ap (λ (k : ℕ). placed_in memory k (layout.size * b.count) b.bytes) took_it.based
        ∙ ap (λ (l : Layout). placed_in memory (next_base (granted f.history owner)) (l.size * b.count) b.bytes) is in
        subst (λ (x : Filled). TellsDriver new after share owner x) (sym (block_placed share owner b f proper took_it.allowed))
        (placed_tells after base took_it shared there)

  pub none_told : (x : Refusal) → ServesTracked old owner (Grant layout n true) (Err x) new → new ≡ old → TellsDriver new memory share owner (with_block share owner b f)
  none_told x serves same =
      subst (λ (y : Filled). TellsDriver new memory share owner y)
      (sym (block_refused share owner b f x (refused (refusal share f.history owner (image_grant b)) x (Base (next_base (granted f.history owner))) (served_as (Err x) serves).0)))
      (subst (λ (k : TrackedRows). TellsDriver k memory share owner f) (sym same) tells)

-- one block more
pub image_next : (share owner : ℕ) (bs more : List ImageBlock) (b : ImageBlock) (now start : Filled) (all : List ImageBlock) → bs ≡ b ∷ more
    → with_image share owner bs now ≡ with_image share owner all start → with_image share owner more (with_block share owner b now) ≡ with_image share owner all start
image_next share owner bs more b now start all is same = ap (λ (l : List ImageBlock). with_image share owner l now) (sym is) ∙ same
