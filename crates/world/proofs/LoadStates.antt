-- The load state of a driver, in the host: with nothing of before, each block of its image is accepted and lies where the image says.
-- Here: as-defined, fills-host, loads-host, leads-loads
use Rattle.std.proofs.Common.{◌≡◌, ℕ, suc, ◌+◌, ◌*◌, ◌/◌, ◌<◌, ◌≤◌, Bool, true, false, cond, ◌&&◌, eqb, ltb, List, [], ◌∷◌, length, set, take, All, Some, None, is_none, pos, refl, sym, ap, ◌∙◌, subst, arith, add-one}
use Rattle.std.proofs.Math.Nat.{mul-div_cancel_left}
use Rattle.std.proofs.lemmas.Bool.Decides.{nat_tests}
use Rattle.std.proofs.lemmas.List.Edits.{sets, sets-eq}
use Rattle.std.proofs.lemmas.List.Elements.{All-head, All-tail}
use Rattle.sd_base.specs.declared.history.Refusal.TheVariants.{NoRoom}
use Rattle.sd_base.specs.declared.history.Update.{Update}
use Rattle.sd_base.specs.History.{History, entry}
use Rattle.sd_base.specs.Blocks.{Block, next_base, round_up, has_room, granted, blocks_after}
use Rattle.sd_base.specs.Allowed.{refusal, is_proper}
use Rattle.grant_table.proofs.GrantPartKept.{granted-live_of}
use Rattle.byte_memory.specs.Bytes.{overwritten}
use Rattle.byte_memory.proofs.Words.{length-overwritten}
use Rattle.deputy_types.specs.Extents.{round_up_to}
use Rattle.layout_laws.specs.LoadImage.{AreInTurn}
use Rattle.checked_tree.specs.declared.units.ImageBlock.{ImageBlock}
use Rattle.world_core.specs.Script.{is_accepted, updated}
use Rattle.world_core.specs.Laws.{image_granted}
use Rattle.world_core.specs.Loading.{element_size, image_grant, copied_in}
use Rattle.world.specs.Images.{Filled, image_layout, copied, placed, with_block, with_image}
use Rattle.world.proofs.Placing.{take_all, update_proper, block_placed, granted-more}
use Rattle.world.proofs.ImageFacts.{IsWhole, IsLaid}
use Rattle.world.proofs.Serving.{grown-accepted}

-- ---- bytes

copied-sets : (bytes : List ℕ) (at : ℕ) (new : List ℕ) → copied bytes at new ≡ sets bytes at new
copied-sets bytes at [] = refl
copied-sets bytes at (x ∷ xs) = ap (λ (k : ℕ). copied (set bytes at x) k xs) (add-one at) ∙ copied-sets (set bytes at x) (suc at) xs

copied-over : (bytes : List ℕ) (at : ℕ) (new : List ℕ) → at + length new ≤ length bytes → copied bytes at new ≡ overwritten bytes at new
unfolding overwritten
copied-over bytes at new within = copied-sets bytes at new ∙ sets-eq new bytes at within

-- no bytes change nothing
over-nothing : (bytes : List ℕ) (at : ℕ) (new : List ℕ) → length new ≡ 0 → at ≤ length bytes → overwritten bytes at new ≡ bytes
over-nothing bytes at [] none within = sym (copied-over bytes at [] (omega (arith, within)))
over-nothing bytes at (x ∷ xs) none within = absurd (omega arith)

-- ---- a block

size-each : (b : ImageBlock) → (w : IsWhole b) → element_size b ≡ w.each
size-each b w = ap (λ (n : ℕ). n / b.count) w.size ∙ mul-div_cancel_left w.each w.some

turned : (m n : ℕ) → m * n ≡ n * m
turned m n = grind arith

none-times : (n : ℕ) → 0 * n ≡ 0
none-times n = grind arith

size-whole : (b : ImageBlock) → (w : IsWhole b) → element_size b * b.count ≡ b.size
size-whole b w = ap (λ (n : ℕ). n * b.count) (size-each b w) ∙ turned w.each b.count ∙ sym w.size

-- the next block begins where the image says
twice : (n : ℕ) → round_up (round_up n) ≡ round_up n
twice n = omega arith

rounded : (from base : ℕ) → base ≡ round_up_to 16 from → round_up (base + 0) ≡ base
rounded from base is = ap (λ (n : ℕ). round_up (n + 0)) is ∙ ap round_up (plus-none (round_up_to 16 from)) ∙ twice from ∙ sym is
  where
    plus-none : (n : ℕ) → n + 0 ≡ n
    plus-none n = omega arith

-- there is room for it
room-there : (bs : List Block) (b : ImageBlock) → 0 < b.count → length bs < 4096 → next_base bs + element_size b * b.count ≤ 1048576
    → has_room bs (image_layout b) (pos b.count) ≡ true
room-there bs b some few ends = grind (arith, nat_tests, some, few, ends)

not-refused : (share : ℕ) (h : History) (owner : ℕ) (b : ImageBlock) → has_room (granted h owner) (image_layout b) (pos b.count) ≡ true
    → refusal share h owner (image_grant b) ≡ None
not-refused share h owner b room =
    ap (λ (bs : List Block). cond (has_room bs (image_layout b) (pos b.count)) None (Some NoRoom)) (granted-live_of h owner)
    ∙ ap (λ (x : Bool). cond x None (Some NoRoom)) room

-- elements without a byte are granted to nobody
not-accepted : (share : ℕ) (h : History) (owner : ℕ) (b : ImageBlock) → element_size b ≡ 0 → is_accepted share h owner (image_grant b) ≡ false
not-accepted share h owner b none = by (eqb owner 0) (ltb owner 5) (ltb 0 (element_size b)) (grind (arith, nat_tests, none))
  where
    by : (x y z : Bool) → z ≡ false → (cond x false (y && z) && is_none (refusal share h owner (image_grant b))) ≡ false
    by true y z e = refl
    by false true z e = ap (λ (v : Bool). v && is_none (refusal share h owner (image_grant b))) e
    by false false z e = refl

updated-not : (share : ℕ) (h : History) (owner : ℕ) (u : Update) → is_accepted share h owner u ≡ false → updated share owner u h ≡ h
unfolding updated
updated-not share h owner u e = ap (λ b. elim b as (λ x. History) [ true ↦ entry owner u ∷ h | false ↦ h ]) e

-- ---- an image

module _ (share owner : ℕ) (some : 0 < owner) (few : owner ≤ 4) where
  -- where the image goes on, after the blocks that are granted
  pub record Awaits (f : Filled) (from : ℕ) (image : List ImageBlock) : Type 0 where
    pub turn : AreInTurn from image
    pub whole : All IsWhole image
    pub next : next_base (granted f.history owner) ≡ round_up_to 16 from
    pub room : length (granted f.history owner) + length image ≤ 4096
    pub sized : length f.bytes ≡ 1048576

  -- what the definition makes of one block
  abbrev one-defined : ImageBlock → Filled → Filled
  one-defined b f = record { history = updated share owner (image_grant b) f.history; bytes = overwritten f.bytes b.base b.bytes }

  module _ (f : Filled) (from : ℕ) (b : ImageBlock) (bs : List ImageBlock) (a : Awaits f from (b ∷ bs)) where
    w : IsWhole b
    w = All-head IsWhole b bs a.whole

    fits : b.base + length b.bytes ≤ length f.bytes
    fits = let ends = w.ends in omega (arith, ends, w.bytes, a.sized)

    longer : length (overwritten f.bytes b.base b.bytes) ≡ 1048576
    longer = length-overwritten f.bytes b.bytes b.base fits ∙ a.sized

    here : next_base (granted f.history owner) ≡ b.base
    here = a.next ∙ sym a.turn.0

    -- its elements have no byte: nothing is granted, and nothing copied
    module _ (none : element_size b ≡ 0) where
      empty : b.size ≡ 0
      empty = sym (size-whole b w) ∙ ap (λ (n : ℕ). n * b.count) none ∙ none-times b.count

      same-none : with_block share owner b f ≡ one-defined b f
      same-none =
          let away = not-accepted share f.history owner b none in
          let fit = fits in
          let history : updated share owner (image_grant b) f.history ≡ f.history = updated-not share f.history owner (image_grant b) away in
          let bytes : overwritten f.bytes b.base b.bytes ≡ f.bytes = over-nothing f.bytes b.base b.bytes (w.bytes ∙ empty) (omega (arith, fit)) in
          ap (λ (x : Bool). cond x (placed owner b f) f) away ∙ sym (alike (one-defined b f) f history bytes)
        where
          alike : (x y : Filled) → x.history ≡ y.history → x.bytes ≡ y.bytes → x ≡ y
          alike x y p q = λ i. record { history = p i; bytes = q i }

      next-none : Awaits (one-defined b f) (b.base + b.size) bs
      next-none =
          let away = not-accepted share f.history owner b none in
          let history : updated share owner (image_grant b) f.history ≡ f.history = updated-not share f.history owner (image_grant b) away in
          let room = a.room in
          record {
            turn = a.turn.1;
            whole = All-tail IsWhole b bs a.whole;
            next = ap (λ (x : History). next_base (granted x owner)) history ∙ here ∙ sym (rounded from b.base a.turn.0) ∙ ap (λ (n : ℕ). round_up (b.base + n)) (sym empty);
            room = subst (λ (x : History). length (granted x owner) + length bs ≤ 4096) (sym history) (omega (arith, room));
            sized = longer;
          }

    -- it is granted where it lies, and its bytes are copied there
    module _ (bytes : element_size b ≡ 0 → ⊥) where
      proper : is_proper owner (image_grant b) ≡ true
      proper = update_proper owner (element_size b) some few bytes

      ends-here : next_base (granted f.history owner) + element_size b * b.count ≤ 1048576
      ends-here = let ends = w.ends in omega (arith, here, size-whole b w, ends)

      allowed : refusal share f.history owner (image_grant b) ≡ None
      allowed = let room = a.room in
          not-refused share f.history owner b (room-there (granted f.history owner) b w.some (omega (arith, room)) ends-here)

      grown : updated share owner (image_grant b) f.history ≡ entry owner (image_grant b) ∷ f.history
      grown = grown-accepted share f.history owner (image_grant b)
          (ap (λ (x : Bool). x && is_none (refusal share f.history owner (image_grant b))) proper ∙ ap is_none allowed)

      over : copied f.bytes (next_base (granted f.history owner)) (take (element_size b * b.count) b.bytes) ≡ overwritten f.bytes b.base b.bytes
      over = ap (λ (k : ℕ). copied f.bytes k (take (element_size b * b.count) b.bytes)) here
          ∙ ap (copied f.bytes b.base) (take_all (element_size b * b.count) b.bytes (omega (arith, size-whole b w, w.bytes)))
          ∙ copied-over f.bytes b.base b.bytes fits

      same-some : with_block share owner b f ≡ one-defined b f
      same-some = block_placed share owner b f proper allowed ∙ alike (placed owner b f) (one-defined b f) (sym grown) over
        where
          alike : (x y : Filled) → x.history ≡ y.history → x.bytes ≡ y.bytes → x ≡ y
          alike x y p q = λ i. record { history = p i; bytes = q i }

      blocks-now : granted (updated share owner (image_grant b) f.history) owner ≡ blocks_after (image_grant b) (granted f.history owner)
      blocks-now = ap (λ (x : History). granted x owner) grown ∙ granted-more f.history owner b

      next-some : Awaits (one-defined b f) (b.base + b.size) bs
      next-some =
          let room = a.room in
          let many : length (granted (updated share owner (image_grant b) f.history) owner) ≡ suc (length (granted f.history owner)) = ap length blocks-now in
          record {
            turn = a.turn.1;
            whole = All-tail IsWhole b bs a.whole;
            next = ap next_base blocks-now ∙ ap (λ (n : ℕ). round_up (n + element_size b * b.count)) here ∙ ap (λ (n : ℕ). round_up (b.base + n)) (size-whole b w);
            room = omega (arith, many, room);
            sized = longer;
          }

  as-each : (image : List ImageBlock) (from : ℕ) (f : Filled) → Awaits f from image
      → with_image share owner image f ≡ record { history = image_granted share owner image f.history; bytes = copied_in image f.bytes }
  as-each [] from f a = refl
  as-each (b ∷ bs) from f a = by (eqb (element_size b) 0) refl (as-each bs (b.base + b.size) (one-defined b f))
    where
      by : (x : Bool) → eqb (element_size b) 0 ≡ x
          → (Awaits (one-defined b f) (b.base + b.size) bs → with_image share owner bs (one-defined b f)
          ≡ record { history = image_granted share owner bs (updated share owner (image_grant b) f.history); bytes = copied_in bs (overwritten f.bytes b.base b.bytes) })
          → with_image share owner bs (with_block share owner b f)
          ≡ record { history = image_granted share owner bs (updated share owner (image_grant b) f.history); bytes = copied_in bs (overwritten f.bytes b.base b.bytes) }
      by true e rest = let none : element_size b ≡ 0 = grind (arith, nat_tests) in
          ap (with_image share owner bs) (same-none f from b bs a none) ∙ rest (next-none f from b bs a none)
      by false e rest = let some_bytes : element_size b ≡ 0 → ⊥ = λ z. absurd (grind (arith, nat_tests, z)) in
          ap (with_image share owner bs) (same-some f from b bs a some_bytes) ∙ rest (next-some f from b bs a some_bytes)

  -- with nothing granted before, the image is granted and copied in as the definition says
  pub as-defined : (image : List ImageBlock) (f : Filled) → IsLaid image → granted f.history owner ≡ [] → length f.bytes ≡ 1048576
      → with_image share owner image f ≡ record { history = image_granted share owner image f.history; bytes = copied_in image f.bytes }
  as-defined image f laid none sized = as-each image 16 f (record {
    turn = laid.turn;
    whole = laid.whole;
    next = ap next_base none;
    room = let few = laid.few in omega (arith, few, ap length none);
    sized = sized;
  })
