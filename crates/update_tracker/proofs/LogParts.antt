-- What each entry does to an owner's part of the log.
use Rattle.std.proofs.Common.{◌≡◌, ℕ, Bool, true, false, cond, ◌||◌, List, [], ◌∷◌, Option, Some, None, refl, ap, sym, ◌∙◌, arith}
use Rattle.std.specs.List.{list_any, count_by}
use Rattle.sd_base.specs.declared.history.Update.{Update}
use Rattle.sd_base.specs.declared.history.Update.TheVariants.{Grant, Free}
use Rattle.sd_base.specs.Selection.{without_first, without_last, passes}
use Rattle.sd_base.specs.History.{Entry, is_owner}
use Rattle.sd_base.specs.Blocks.{Block, blocks_after, granted}
use Rattle.sd_base.proofs.Counting.{count_by-cons}
use Rattle.sd_base.proofs.Removal.{without_last-none}
use Rattle.share_table.proofs.OtherKinds.{count_by-apart}
use Rattle.update_tracker.specs.declared.undo.Note.{Note}
use Rattle.update_tracker.specs.declared.undo.Undo.{Undo}
use Rattle.update_tracker.specs.NetPart.{in_front, is_block_update, is_block_entry, block_item, note_item, if_own, block_items, note_after, notes_of}

-- an update that is neither a grant nor a release leaves the blocks, and is no item among them
pub leaves_blocks : (u : Update) (blocks : List Block) → is_block_update u ≡ false → (blocks_after u blocks ≡ blocks) × (block_item u blocks ≡ None)
leaves_blocks (Grant layout n image) blocks h = cc
leaves_blocks (Free base) blocks h = cc
leaves_blocks _ blocks h = (refl, refl)

-- an entry that is no grant and no release of the owner
pub record IsNoBlock (owner : ℕ) (e : Entry) : Type 0 where
  pub blocks : (live : List Entry) → granted (e ∷ live) owner ≡ granted live owner
  pub item : (blocks : List Block) → if_own owner e (block_item e.update blocks) ≡ None

pub no_block : (owner : ℕ) (e : Entry) → is_block_entry owner e ≡ false → IsNoBlock owner e
no_block owner e h = record {
  blocks = λ live. grind (arith, leaves_blocks e.update (granted live owner));
  item = λ blocks. grind (arith, leaves_blocks e.update blocks);
}

-- Entries that are no grants and no releases of the owner may go: grants and releases stay.

pub count-without_last : {X : Type 0} (p q : X → Bool) → ((x : X) → p x ≡ true → q x ≡ false) → (xs : List X) → count_by q (without_last p xs) ≡ count_by q xs
count-without_last p q none [] = refl
count-without_last p q none (x ∷ xs) =
    grind (arith, none x, count_by-cons q x xs, count_by-cons q x (without_last p xs), count-without_last p q none xs)

pub blocks-without_first : (owner : ℕ) (p : Entry → Bool) → ((e : Entry) → p e ≡ true → is_block_entry owner e ≡ false) → (live : List Entry) →
    (granted (without_first p live) owner ≡ granted live owner) × (block_items owner (without_first p live) ≡ block_items owner live)
blocks-without_first owner p none [] = (refl, refl)
blocks-without_first owner p none (e ∷ live) =
    let rest = blocks-without_first owner p none live in
    elim (p e) as (λ b. p e ≡ b → (granted (cond b live (e ∷ without_first p live)) owner ≡ granted (e ∷ live) owner) × (block_items owner (cond b live (e ∷ without_first p live)) ≡ block_items owner (e ∷ live))) [
      | true ↦ λ is.
          let not_block = no_block owner e (none e is) in (
            sym (not_block.blocks live),
            ap (λ o. in_front o (block_items owner live)) (sym (not_block.item (granted live owner))),
          )
      | false ↦ λ is. (
        ap (λ bs. cond (is_owner owner e) (blocks_after e.update bs) bs) rest.0,
        ap (λ bs. in_front (if_own owner e (block_item e.update bs)) (block_items owner (without_first p live))) rest.0
            ∙ ap (in_front (if_own owner e (block_item e.update (granted live owner)))) rest.1,
      )
    ] refl

pub blocks-without_last : (owner : ℕ) (p : Entry → Bool) → ((e : Entry) → p e ≡ true → is_block_entry owner e ≡ false) → (live : List Entry) →
    (granted (without_last p live) owner ≡ granted live owner) × (block_items owner (without_last p live) ≡ block_items owner live)
blocks-without_last owner p none [] = (refl, refl)
blocks-without_last owner p none (e ∷ live) =
    let rest = blocks-without_last owner p none live in
    elim (list_any p live) as (λ a. (granted (cond a (e ∷ without_last p live) (cond (p e) live (e ∷ live))) owner ≡ granted (e ∷ live) owner) × (block_items owner (cond a (e ∷ without_last p live) (cond (p e) live (e ∷ live))) ≡ block_items owner (e ∷ live))) [
      | true ↦ (
        ap (λ bs. cond (is_owner owner e) (blocks_after e.update bs) bs) rest.0,
        ap (λ bs. in_front (if_own owner e (block_item e.update bs)) (block_items owner (without_last p live))) rest.0
            ∙ ap (in_front (if_own owner e (block_item e.update (granted live owner)))) rest.1,
      )
      | false ↦
          elim (p e) as (λ b. p e ≡ b → (granted (cond b live (e ∷ live)) owner ≡ granted (e ∷ live) owner) × (block_items owner (cond b live (e ∷ live)) ≡ block_items owner (e ∷ live))) [
            | true ↦ λ is.
                let not_block = no_block owner e (none e is) in (
                  sym (not_block.blocks live),
                  ap (λ o. in_front o (block_items owner live)) (sym (not_block.item (granted live owner))),
                )
            | false ↦ λ is. (refl, refl)
          ] refl
    ]

-- what an entry's note is of
abbrev pub row : ℕ → Entry → Option Undo
row owner e = if_own owner e (note_item e.update)

note_front : (owner : ℕ) (live : List Entry) (e : Entry) (o : Option Undo) → row owner e ≡ o → notes_of owner (e ∷ live) ≡ in_front (note_after o (count_by (is_block_entry owner) live)) (notes_of owner live)
note_front owner live e o is = ap (λ r. in_front (note_after r (count_by (is_block_entry owner) live)) (notes_of owner live)) is

notes_front : (owner : ℕ) (e : Entry) (xs ys : List Entry) (ns : List Note) → count_by (is_block_entry owner) xs ≡ count_by (is_block_entry owner) ys → notes_of owner xs ≡ ns →
    notes_of owner (e ∷ xs) ≡ in_front (note_after (row owner e) (count_by (is_block_entry owner) ys)) ns
notes_front owner e xs ys ns same notes =
    ap (λ n. in_front (note_after (row owner e) n) (notes_of owner xs)) same ∙ ap (in_front (note_after (row owner e) (count_by (is_block_entry owner) ys))) notes

-- Entries without notes may go: the notes stay.

pub notes-without_first_other : (owner : ℕ) (p : Entry → Bool) → ((e : Entry) → p e ≡ true → is_block_entry owner e ≡ false) → ((e : Entry) → p e ≡ true → row owner e ≡ None) → (live : List Entry) →
    notes_of owner (without_first p live) ≡ notes_of owner live
notes-without_first_other owner p none no_row [] = refl
notes-without_first_other owner p none no_row (e ∷ live) =
    elim (p e) as (λ b. p e ≡ b → notes_of owner (cond b live (e ∷ without_first p live)) ≡ notes_of owner (e ∷ live)) [
      | true ↦ λ is. sym (note_front owner live e None (no_row e is))
      | false ↦ λ is. notes_front owner e (without_first p live) live (notes_of owner live) (count_by-apart p (is_block_entry owner) none live) (notes-without_first_other owner p none no_row live)
    ] refl

pub notes-without_last_other : (owner : ℕ) (p : Entry → Bool) → ((e : Entry) → p e ≡ true → is_block_entry owner e ≡ false) → ((e : Entry) → p e ≡ true → row owner e ≡ None) → (live : List Entry) →
    notes_of owner (without_last p live) ≡ notes_of owner live
notes-without_last_other owner p none no_row [] = refl
notes-without_last_other owner p none no_row (e ∷ live) =
    elim (list_any p live) as (λ a. notes_of owner (cond a (e ∷ without_last p live) (cond (p e) live (e ∷ live))) ≡ notes_of owner (e ∷ live)) [
      | true ↦ notes_front owner e (without_last p live) live (notes_of owner live) (count-without_last p (is_block_entry owner) none live) (notes-without_last_other owner p none no_row live)
      | false ↦
          elim (p e) as (λ b. p e ≡ b → notes_of owner (cond b live (e ∷ live)) ≡ notes_of owner (e ∷ live)) [
            | true ↦ λ is. sym (note_front owner live e None (no_row e is))
            | false ↦ λ is. refl
          ] refl
    ]

-- A test of entries that asks of their items alone may be asked of the notes.

-- a test of items, asked of a note
abbrev pub on_item : (Undo → Bool) → Note → Bool
on_item r n = r n.item

note_passes : (r : Undo → Bool) (o : Option Undo) (after : ℕ) → passes (on_item r) (note_after o after) ≡ passes r o
note_passes r None after = refl
note_passes r (Some item) after = refl

any_front : {X : Type 0} (q : X → Bool) (o : Option X) (xs : List X) → list_any q (in_front o xs) ≡ (passes q o || list_any q xs)
any_front q None xs = refl
any_front q (Some x) xs = grind arith

first_front : {X : Type 0} (q : X → Bool) (o : Option X) (xs : List X) → without_first q (in_front o xs) ≡ cond (passes q o) xs (in_front o (without_first q xs))
first_front q None xs = refl
first_front q (Some x) xs = refl

last_front : {X : Type 0} (q : X → Bool) (o : Option X) (xs : List X) → list_any q xs ≡ true → without_last q (in_front o xs) ≡ in_front o (without_last q xs)
last_front q None xs h = refl
last_front q (Some x) xs h = grind arith

last_here : {X : Type 0} (q : X → Bool) (o : Option X) (xs : List X) → list_any q xs ≡ false → without_last q (in_front o xs) ≡ cond (passes q o) xs (in_front o xs)
last_here q None xs h = without_last-none q xs h
last_here q (Some x) xs h = grind arith

any-notes : (owner : ℕ) (p : Entry → Bool) (r : Undo → Bool) → ((e : Entry) → p e ≡ passes r (row owner e)) → (live : List Entry) → list_any (on_item r) (notes_of owner live) ≡ list_any p live
any-notes owner p r same [] = refl
any-notes owner p r same (e ∷ live) =
    let here : passes (on_item r) (note_after (row owner e) (count_by (is_block_entry owner) live)) ≡ p e = note_passes r (row owner e) (count_by (is_block_entry owner) live) ∙ sym (same e) in
    any_front (on_item r) (note_after (row owner e) (count_by (is_block_entry owner) live)) (notes_of owner live)
    ∙ grind (arith, any-notes owner p r same live)

pub notes-without_first : (owner : ℕ) (p : Entry → Bool) (r : Undo → Bool) → ((e : Entry) → p e ≡ true → is_block_entry owner e ≡ false) → ((e : Entry) → p e ≡ passes r (row owner e)) → (live : List Entry) →
    notes_of owner (without_first p live) ≡ without_first (on_item r) (notes_of owner live)
notes-without_first owner p r none same [] = refl
notes-without_first owner p r none same (e ∷ live) =
    let after = count_by (is_block_entry owner) live in
    let note = note_after (row owner e) after in
    let goes : without_first (on_item r) (notes_of owner (e ∷ live)) ≡ cond (p e) (notes_of owner live) (in_front note (without_first (on_item r) (notes_of owner live))) =
    first_front (on_item r) note (notes_of owner live)
    ∙ ap (λ b. cond b (notes_of owner live) (in_front note (without_first (on_item r) (notes_of owner live)))) (note_passes r (row owner e) after ∙ sym (same e)) in
    elim (p e) as (λ b. notes_of owner (cond b live (e ∷ without_first p live)) ≡ cond b (notes_of owner live) (in_front note (without_first (on_item r) (notes_of owner live)))) [
      | true ↦ refl
      | false ↦ notes_front owner e (without_first p live) live (without_first (on_item r) (notes_of owner live)) (count_by-apart p (is_block_entry owner) none live) (notes-without_first owner p r none same live)
    ]
    ∙ sym goes

pub notes-without_last : (owner : ℕ) (p : Entry → Bool) (r : Undo → Bool) → ((e : Entry) → p e ≡ true → is_block_entry owner e ≡ false) → ((e : Entry) → p e ≡ passes r (row owner e)) → (live : List Entry) →
    notes_of owner (without_last p live) ≡ without_last (on_item r) (notes_of owner live)
notes-without_last owner p r none same [] = refl
notes-without_last owner p r none same (e ∷ live) =
    let after = count_by (is_block_entry owner) live in
    let note = note_after (row owner e) after in
    let any = any-notes owner p r same live in
    elim (list_any p live) as (λ a. list_any p live ≡ a → notes_of owner (cond a (e ∷ without_last p live) (cond (p e) live (e ∷ live))) ≡ without_last (on_item r) (notes_of owner (e ∷ live))) [
      | true ↦ λ there.
          notes_front owner e (without_last p live) live (without_last (on_item r) (notes_of owner live)) (count-without_last p (is_block_entry owner) none live) (notes-without_last owner p r none same live)
          ∙ sym (last_front (on_item r) note (notes_of owner live) (any ∙ there))
      | false ↦ λ there.
          elim (p e) as (λ b. notes_of owner (cond b live (e ∷ live)) ≡ cond b (notes_of owner live) (in_front note (notes_of owner live))) [ true ↦ refl | false ↦ refl ]
          ∙ ap (λ b. cond b (notes_of owner live) (in_front note (notes_of owner live))) (same e ∙ sym (note_passes r (row owner e) after))
          ∙ sym (last_here (on_item r) note (notes_of owner live) (any ∙ there))
    ] refl
