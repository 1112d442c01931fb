-- Blocks put behind one another into a load image: those of globals, then those of strings.
use Rattle.std.proofs.Common.{◌≡◌, ℕ, ◌+◌, ◌-◌, ◌*◌, ◌/◌, ◌≤◌, nat_lt, List, [], ◌∷◌, ◌++◌, length, All, Ok, refl, sym, ◌∙◌, ap, subst, append_assoc, arith}
use Rattle.std.specs.List.{AllZip}
use Rattle.std.proofs.lemmas.Bool.{ltb-false}
use Rattle.std.proofs.lemmas.List.{append-nil}
use Rattle.std.proofs.lemmas.List.Elements.{All-nil, All-cons, All-head, All-tail, All-append, All-weaker}
use Rattle.c_tree.specs.declared.limits.LimitKind.TheVariants as limit
use Rattle.checked_tree.specs.declared.units.ImageBlock.{ImageBlock}
use Rattle.deputy_types.specs.declared.global.GlobalShape.{GlobalShape}
use Rattle.deputy_types.specs.declared.refusal.TypeRefusal.TheVariants as refusal
use Rattle.deputy_types.specs.Extents.{round_up_to}
use Rattle.deputy_types.specs.UnitLayout.{image_end, next_base, with_block, global_block, with_global_block, with_global_blocks, string_block, with_string_block, with_string_blocks, empty_image, image_of}
use Rattle.deputy_types.proofs.Inversions.{ok_then}
use Rattle.layout_laws.specs.LoadImage.{AreInTurn, AreApart, IsWithinImage}
use Rattle.deputy_types.specs.declared.unit_items.Declared.{Declared}
use Rattle.deputy_types.specs.declared.load_image.Image.{Image}
use Rattle.layout_laws.proofs.Steps.{else_ok}

-- where blocks end that begin from an address on
abbrev pub end_behind : ℕ → List ImageBlock → ℕ
end_behind from [] = from
end_behind from (b ∷ bs) = end_behind (b.base + b.size) bs

-- a block that ends within the image
abbrev pub EndsWithin : ImageBlock → Type 0
EndsWithin b = b.base + b.size ≤ 524288

-- an image with more blocks
pub record Adds (before after : Image) (new : List ImageBlock) : Type 0 where
  pub blocks : after.blocks ≡ before.blocks ++ new
  pub turn : AreInTurn before.end new
  pub end : after.end ≡ end_behind before.end new
  pub within : All EndsWithin new

adds_none : (before after : Image) → before ≡ after → Adds before after []
adds_none before after e =
    subst (λ (x : Image). Adds before x []) e (record { blocks = sym (append-nil before.blocks); turn = tt; end = refl; within = All-nil EndsWithin })

adds_one : (before next after : Image) (b : ImageBlock) (new : List ImageBlock) → with_block before b (b.base + b.size) ≡ next → b.base ≡ next_base before
    → EndsWithin b → Adds next after new → Adds before after (b ∷ new)
adds_one before next after b new e base within a =
    let blocks : next.blocks ≡ before.blocks ++ b ∷ [] = ap (λ (x : Image). x.blocks) (sym e) in
    let end : next.end ≡ b.base + b.size = ap (λ (x : Image). x.end) (sym e) in
    record {
      blocks = a.blocks ∙ (ap (λ (l : List ImageBlock). l ++ new) blocks ∙ append_assoc before.blocks (b ∷ []) new);
      turn = (base, subst (λ (n : ℕ). AreInTurn n new) end a.turn);
      end = a.end ∙ ap (λ (n : ℕ). end_behind n new) end;
      within = All-cons EndsWithin b new within a.within;
    }

-- blocks for things, one by one
pub record Places {X : Type 0} (R : X → ImageBlock → Type 0) (xs : List X) (before after : Image) : Type 0 where
  pub new : List ImageBlock
  pub adds : Adds before after new
  pub each : AllZip R xs new

-- a block that ends by the limit
record IsEnd (base bytes out : ℕ) : Type 0 where
  within : base + bytes ≤ 524288
  is : base + bytes ≡ out

is_end : (line base bytes out : ℕ) → image_end line base bytes ≡ Ok out → IsEnd base bytes out
unfolding image_end
is_end line base bytes out h =
    let a = else_ok (nat_lt 524288 (base + bytes)) (Ok (base + bytes)) (refusal.Limit line limit.Image) out h in
    record { within = ltb-false 524288 (base + bytes) a.test; is = cc }

-- ---- globals
abbrev pub IsGlobalBlock : GlobalShape → ImageBlock → Type 0
IsGlobalBlock g b = b ≡ global_block g b.base

pub globals_placed : (before after : Image) (gs : List GlobalShape) → with_global_blocks before gs ≡ Ok after → Places IsGlobalBlock gs before after
unfolding with_global_block
globals_placed before after [] h = record { new = []; adds = adds_none before after cc; each = tt }
globals_placed before after (g ∷ gs) h =
    let base : ℕ = next_base before in
    let b : ImageBlock = global_block g base in
    let a = ok_then (with_global_block before g) (λ next. with_global_blocks next gs) after h in
    let c = ok_then (image_end g.line base (g.count * g.size)) (λ end. Ok (with_block before b end)) a.0 a.1 in
    let e = is_end g.line base (g.count * g.size) c.0 c.1 in
    let with_end : with_block before b c.0 ≡ a.0 = cc in
    let next : with_block before b (b.base + b.size) ≡ a.0 = ap (λ (n : ℕ). with_block before b n) e.is ∙ with_end in
    let more = globals_placed a.0 after gs a.2 in
    record { new = b ∷ more.new; adds = adds_one before a.0 after b more.new next refl e.within more.adds; each = (refl, more.each) }

-- ---- strings
abbrev pub IsStringBlock : List ℕ → ImageBlock → Type 0
IsStringBlock text b = b ≡ string_block text b.base

pub strings_placed : (before after : Image) (lines : List ℕ) (texts : List (List ℕ)) → length lines ≡ length texts → with_string_blocks before lines texts ≡ Ok after
    → Places IsStringBlock texts before after
unfolding with_string_block
strings_placed before after [] [] same h = record { new = []; adds = adds_none before after cc; each = tt }
strings_placed before after [] (text ∷ texts) same h = absurd (omega arith)
strings_placed before after (line ∷ lines) [] same h = absurd (omega arith)
strings_placed before after (line ∷ lines) (text ∷ texts) same h =
    let base : ℕ = next_base before in
    let b : ImageBlock = string_block text base in
    let a = ok_then (with_string_block before line text) (λ next. with_string_blocks next lines texts) after h in
    let c = ok_then (image_end line base (length text + 1)) (λ end. Ok (with_block before b end)) a.0 a.1 in
    let e = is_end line base (length text + 1) c.0 c.1 in
    let with_end : with_block before b c.0 ≡ a.0 = cc in
    let next : with_block before b (b.base + b.size) ≡ a.0 = ap (λ (n : ℕ). with_block before b n) e.is ∙ with_end in
    let more = strings_placed a.0 after lines texts (omega arith) a.2 in
    record { new = b ∷ more.new; adds = adds_one before a.0 after b more.new next refl e.within more.adds; each = (refl, more.each) }

-- ---- all blocks
turn_joined : (from : ℕ) (xs ys : List ImageBlock) → AreInTurn from xs → AreInTurn (end_behind from xs) ys → AreInTurn from (xs ++ ys)
turn_joined from [] ys h k = k
turn_joined from (x ∷ xs) ys h k = (h.0, turn_joined (x.base + x.size) xs ys h.1 k)

-- the blocks of a load image
pub record HasBlocks (d : Declared) (strings : List (List ℕ)) (image : Image) : Type 0 where
  pub globals : List ImageBlock
  pub texts : List ImageBlock
  pub is : image.blocks ≡ globals ++ texts
  pub turn : AreInTurn 16 image.blocks
  pub ends : All EndsWithin image.blocks
  pub each_global : AllZip IsGlobalBlock d.globals globals
  pub each_text : AllZip IsStringBlock strings texts

pub blocks_of : (d : Declared) (strings : List (List ℕ)) (image : Image) → length d.lines ≡ length strings → image_of d strings ≡ Ok image → HasBlocks d strings image
unfolding image_of
blocks_of d strings image same h =
    let a = ok_then (with_global_blocks empty_image d.globals) (λ x. with_string_blocks x d.lines strings) image h in
    let first = globals_placed empty_image a.0 d.globals a.1 in
    let second = strings_placed a.0 image d.lines strings same a.2 in
    let is : image.blocks ≡ first.new ++ second.new = second.adds.blocks ∙ ap (λ (l : List ImageBlock). l ++ second.new) first.adds.blocks in
    let turn : AreInTurn 16 (first.new ++ second.new) =
    turn_joined 16 first.new second.new first.adds.turn (subst (λ (n : ℕ). AreInTurn n second.new) first.adds.end second.adds.turn) in
    let ends : All EndsWithin (first.new ++ second.new) = All-append EndsWithin first.new second.new first.adds.within second.adds.within in
    record {
      globals = first.new;
      texts = second.new;
      is = is;
      turn = subst (λ (l : List ImageBlock). AreInTurn 16 l) (sym is) turn;
      ends = subst (λ (l : List ImageBlock). All EndsWithin l) (sym is) ends;
      each_global = first.each;
      each_text = second.each;
    }

-- ---- where blocks lie that stand in turn
rounded_above : (n : ℕ) → n ≤ round_up_to 16 n
rounded_above n = omega arith

pub later_above : (from : ℕ) (bs : List ImageBlock) → AreInTurn from bs → All (λ (b : ImageBlock). from ≤ b.base) bs
later_above from [] h = All-nil (λ (b : ImageBlock). from ≤ b.base)
later_above from (b ∷ bs) h =
    let above : from ≤ b.base = let r : from ≤ round_up_to 16 from = rounded_above from in subst (λ (n : ℕ). from ≤ n) (sym h.0) r in
    let rest = later_above (b.base + b.size) bs h.1 in
    All-cons (λ (c : ImageBlock). from ≤ c.base) b bs above
    (All-weaker (λ (c : ImageBlock). b.base + b.size ≤ c.base) (λ (c : ImageBlock). from ≤ c.base) (λ c k. omega arith) bs rest)

pub turn_apart : (from : ℕ) (bs : List ImageBlock) → AreInTurn from bs → AreApart bs
turn_apart from [] h = tt
turn_apart from (b ∷ bs) h = (later_above (b.base + b.size) bs h.1, turn_apart (b.base + b.size) bs h.1)

pub turn_within : (from : ℕ) (bs : List ImageBlock) → 16 ≤ from → AreInTurn from bs → All EndsWithin bs → All IsWithinImage bs
turn_within from [] l h k = All-nil IsWithinImage
turn_within from (b ∷ bs) l h k =
    let above : 16 ≤ b.base = let r : from ≤ round_up_to 16 from = rounded_above from in subst (λ (n : ℕ). 16 ≤ n) (sym h.0) (omega arith) in
    let to : EndsWithin b = All-head EndsWithin b bs k in
    All-cons IsWithinImage b bs (record { aligned = ((from + (16 - 1)) / 16, h.0); from = above; to = to })
    (turn_within (b.base + b.size) bs (omega arith) h.1 (All-tail EndsWithin b bs k))
