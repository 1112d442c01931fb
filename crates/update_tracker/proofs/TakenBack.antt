-- What tracked tables stand for once an owner's log is undone: the history without the owner.
use Rattle.std.proofs.Common.{◌≡◌, ℕ, suc, ◌+◌, ◌*◌, ◌<◌, ◌≤◌, true, false, cond, not, eqb, List, [], ◌∷◌, map, length, get_or, set, reverse, Option, Some, None, refl, ap, sym, ◌∙◌, subst, arith, length-set, get_or-set_same, get_or-set_other}
use Rattle.std.proofs.lemmas.Bool.Decides.{nat_tests}
use Rattle.std.proofs.lemmas.List.{get_or_default, length-map}
use Rattle.std.specs.List.{count_by}
use Rattle.sd_base.specs.declared.history.Update.{Update}
use Rattle.sd_base.specs.declared.history.Update.TheVariants.{Grant, Free, Line, Ports, Device, Param, Timer, Lock, Hold, Work, Mask}
use Rattle.sd_base.specs.History.{Entry, History, is_owner, live_of, net_of, Without}
use Rattle.sd_base.specs.Blocks.{Block, granted}
use Rattle.sd_base.specs.Allowed.{IsLawful, IsProper}
use Rattle.sd_base.proofs.Counting.{count_by-cons, count_by-filter}
use Rattle.sd_base.proofs.Granted.{granted-Without}
use Rattle.sd_base.proofs.Live.{live_of-Without}
use Rattle.sd_base.proofs.SoundLive.{lawful_sound}
use Rattle.sd_base.proofs.WithoutOwner.{clock_of-Without, IsProper-Without, IsLawful-Without}
use Rattle.kernel_tables.specs.declared.kernel.Kernel.{Kernel}
use Rattle.kernel_tables.specs.Standing.{HoldsTables}
use Rattle.update_tracker.specs.declared.undo.Undo.{Undo}
use Rattle.update_tracker.specs.Entries.{blocks_in, items_of, AreItemsOf}
use Rattle.update_tracker.specs.NetRows.{NetRows, no_rows}
use Rattle.update_tracker.specs.NetPart.{in_front, if_own, item_of, note_item, block_item, note_after, is_block_entry, block_items, notes_of, ShowsNet, read_back}
use Rattle.update_tracker.specs.Tracking.{TrackedRows, Stands, HasHistory}
use Rattle.update_tracker.specs.Undoing.{IsLive, HasLive, LosesAll, cost_of, cost_of_all, queues, steps_for}
use Rattle.update_tracker.proofs.Bounds.{net_is_short}
use Rattle.update_tracker.proofs.Caps.{all_proper, none_gone}
use Rattle.update_tracker.proofs.ItemsOfEntries.{net_items_are}
use Rattle.update_tracker.proofs.Merged.{reads_back}
use Rattle.update_tracker.proofs.Steps.{OnItem, on_item}

-- What the log of an owner shows, where the owner is left out, and where another is.

left_blocks : (owner : ℕ) (live : List Entry) → block_items owner (Without live owner) ≡ []
left_blocks owner [] = refl
left_blocks owner (e ∷ live) =
    elim (is_owner owner e) as (λ b. is_owner owner e ≡ b → block_items owner (cond (not b) (e ∷ Without live owner) (Without live owner)) ≡ []) [
      | true ↦ λ own. left_blocks owner live
      | false ↦ λ other. ap (λ b. in_front (cond b (block_item e.update (granted (Without live owner) owner)) None) (block_items owner (Without live owner))) other ∙ left_blocks owner live
    ] refl

left_notes : (owner : ℕ) (live : List Entry) → notes_of owner (Without live owner) ≡ []
left_notes owner [] = refl
left_notes owner (e ∷ live) =
    elim (is_owner owner e) as (λ b. is_owner owner e ≡ b → notes_of owner (cond (not b) (e ∷ Without live owner) (Without live owner)) ≡ []) [
      | true ↦ λ own. left_notes owner live
      | false ↦ λ other. ap (λ b. in_front (note_after (cond b (note_item e.update) None) (count_by (is_block_entry owner) (Without live owner))) (notes_of owner (Without live owner))) other ∙ left_notes owner live
    ] refl

others_block : (owner p : ℕ) (e : Entry) → eqb p owner ≡ false → is_block_entry p e ≡ true → not (is_owner owner e) ≡ true
others_block owner p e apart h = grind (arith, nat_tests)

not_others : (owner p : ℕ) (e : Entry) → eqb p owner ≡ false → is_owner owner e ≡ true → is_owner p e ≡ false
not_others owner p e apart own = grind (arith, nat_tests)

other_blocks : (owner p : ℕ) (live : List Entry) → eqb p owner ≡ false → block_items p (Without live owner) ≡ block_items p live
other_blocks owner p [] apart = refl
other_blocks owner p (e ∷ live) apart =
    elim (is_owner owner e) as (λ b. is_owner owner e ≡ b → block_items p (cond (not b) (e ∷ Without live owner) (Without live owner)) ≡ block_items p (e ∷ live)) [
      | true ↦ λ own. other_blocks owner p live apart ∙ ap (λ b. in_front (cond b (block_item e.update (granted live p)) None) (block_items p live)) (sym (not_others owner p e apart own))
      | false ↦ λ other. ap (λ bs. in_front (if_own p e (block_item e.update bs)) (block_items p (Without live owner))) (granted-Without live owner p apart)
          ∙ ap (in_front (if_own p e (block_item e.update (granted live p)))) (other_blocks owner p live apart)
    ] refl

other_notes : (owner p : ℕ) (live : List Entry) → eqb p owner ≡ false → notes_of p (Without live owner) ≡ notes_of p live
other_notes owner p [] apart = refl
other_notes owner p (e ∷ live) apart =
    elim (is_owner owner e) as (λ b. is_owner owner e ≡ b → notes_of p (cond (not b) (e ∷ Without live owner) (Without live owner)) ≡ notes_of p (e ∷ live)) [
      | true ↦ λ own. other_notes owner p live apart ∙ ap (λ b. in_front (note_after (cond b (note_item e.update) None) (count_by (is_block_entry p) live)) (notes_of p live)) (sym (not_others owner p e apart own))
      | false ↦ λ other. ap (λ n. in_front (note_after (if_own p e (note_item e.update)) n) (notes_of p (Without live owner))) (count_by-filter (λ x. not (is_owner owner x)) (is_block_entry p) (λ x k. others_block owner p x apart k) live)
          ∙ ap (in_front (note_after (if_own p e (note_item e.update)) (count_by (is_block_entry p) live))) (other_notes owner p live apart)
    ] refl

shows_none : (owner : ℕ) (rows : NetRows) (live : List Entry) → rows ≡ no_rows → ShowsNet owner rows (Without live owner)
shows_none owner rows live is = subst (λ r. ShowsNet owner r (Without live owner)) (sym is) (record { blocks = ap reverse (sym (left_blocks owner live)); notes = ap reverse (sym (left_notes owner live)) })

shows_others : (owner p : ℕ) (rows : NetRows) (live : List Entry) → eqb p owner ≡ false → ShowsNet p rows live → ShowsNet p rows (Without live owner)
shows_others owner p rows live apart s = record { blocks = s.blocks ∙ ap reverse (sym (other_blocks owner p live apart)); notes = s.notes ∙ ap reverse (sym (other_notes owner p live apart)) }

-- The live entries of a history for which the tables stand.

log_of : (t : TrackedRows) (owner : ℕ) (d : NetRows) → length t.logs ≡ 5 → owner ≤ 4 → get_or t.logs owner d ≡ get_or t.logs owner no_rows
log_of t owner d places few = get_or_default t.logs owner d no_rows (omega arith)

pub live_is : (t : TrackedRows) (owner : ℕ) (d : NetRows) (h : History) → length t.logs ≡ 5 → owner ≤ 4 → IsLawful t.kernel.claims.share h → IsProper h → Stands t h → IsLive t.kernel owner (read_back (get_or t.logs owner d)) (live_of h)
live_is t owner d h places few lawful proper stands = record {
  sound = lawful_sound t.kernel.claims.share h proper lawful;
  proper = all_proper h proper;
  still = none_gone h;
  holds = stands.kernel.tables;
  shown = ap read_back (log_of t owner d places few) ∙ reads_back owner (get_or t.logs owner no_rows) (live_of h) (stands.logs owner few);
}

pub has_live : (t : TrackedRows) (owner : ℕ) (d : NetRows) → owner ≤ 4 → HasHistory t → HasLive t.kernel owner (read_back (get_or t.logs owner d))
has_live t owner d few has = record { live = live_of has.history; is = live_is t owner d has.history has.places few has.lawful has.proper has.stands }

-- the log reads as the net list, entry by entry
pub log_items : (t : TrackedRows) (owner : ℕ) (d : NetRows) (h : History) → length t.logs ≡ 5 → owner ≤ 4 → IsLawful t.kernel.claims.share h → IsProper h → Stands t h → AreItemsOf (read_back (get_or t.logs owner d)) (net_of h owner)
log_items t owner d h places few lawful proper stands =
    subst (λ items. AreItemsOf items (net_of h owner)) (sym (live_is t owner d h places few lawful proper stands).shown) (net_items_are h owner)

length-items_of : (net : List Update) → length (items_of net) ≡ length net
length-items_of [] = refl
length-items_of (u ∷ us) = ap suc (length-items_of us)

as_long : (items : List Undo) (net : List Update) → AreItemsOf items net → length items ≡ length net
as_long items net are = sym (length-map items (λ (item : Undo). Some item)) ∙ ap length are ∙ length-items_of net

pub log_short : (t : TrackedRows) (owner : ℕ) (d : NetRows) → owner ≤ 4 → HasHistory t → length (read_back (get_or t.logs owner d)) ≤ 9065
log_short t owner d few has =
    omega (arith, as_long (read_back (get_or t.logs owner d)) (net_of has.history owner) (log_items t owner d has.history has.places few has.lawful has.proper has.stands), net_is_short t.kernel.claims.share has.history owner has.lawful has.proper)

-- The steps.

item_cost : (u : Update) (blocks : List Block) → OnItem (λ item. cost_of item ≤ 1 + 256 * cond (queues u) 1 0) (item_of u blocks)
item_cost (Grant layout n image) blocks = omega arith
item_cost (Free base) blocks = omega arith
item_cost (Line line handler) blocks = omega arith
item_cost (Ports base n) blocks = omega arith
item_cost (Device id) blocks = omega arith
item_cost (Param key value) blocks = omega arith
item_cost (Timer id due handler arg) blocks = omega arith
item_cost (Lock lock task) blocks = omega arith
item_cost (Hold domain) blocks = omega arith
item_cost (Work handler arg) blocks = omega arith
item_cost (Mask task) blocks = omega arith
item_cost u blocks = tt

heads : (a b : Option Undo) (xs ys : List (Option Undo)) → a ∷ xs ≡ b ∷ ys → (a ≡ b) × (xs ≡ ys)
heads a b xs ys h = (cc, cc)

pub cost_within : (items : List Undo) (net : List Update) → AreItemsOf items net → cost_of_all items ≤ steps_for net
cost_within [] net are = omega arith
cost_within (item ∷ items) [] are = cc
cost_within (item ∷ items) (u ∷ us) are =
    let both = heads (Some item) (item_of u (blocks_in us)) (map (λ (i : Undo). Some i) items) (items_of us) are in
    let one : cost_of item ≤ 1 + 256 * cond (queues u) 1 0 = on_item (λ i. cost_of i ≤ 1 + 256 * cond (queues u) 1 0) (item_of u (blocks_in us)) item (sym both.0) (item_cost u (blocks_in us)) in
    let rest : cost_of_all items ≤ steps_for us = cost_within items us both.1 in
    omega (arith, count_by-cons queues u us)

-- The tables without the owner.

logs_without : (logs : List NetRows) (owner : ℕ) (rows : NetRows) (live : List Entry) → length logs ≡ 5 → owner ≤ 4 → rows ≡ no_rows → ((p : ℕ) → p ≤ 4 → ShowsNet p (get_or logs p no_rows) live) →
    (p : ℕ) → p ≤ 4 → ShowsNet p (get_or (set logs owner rows) p no_rows) (Without live owner)
logs_without logs owner rows live places fits none shows p few =
    elim (eqb p owner) as (λ b. eqb p owner ≡ b → ShowsNet p (get_or (set logs owner rows) p no_rows) (Without live owner)) [
      | true ↦ λ here.
          let same : owner ≡ p = grind (arith, nat_tests) in
          subst (λ n. ShowsNet n (get_or (set logs owner rows) n no_rows) (Without live owner)) same (shows_none owner (get_or (set logs owner rows) owner no_rows) live (get_or-set_same logs owner rows no_rows (omega arith) ∙ none))
      | false ↦ λ there.
          let other : (p ≡ owner → ⊥) = λ e. grind (arith, nat_tests) in
          subst (λ r. ShowsNet p r (Without live owner)) (sym (get_or-set_other logs owner p rows no_rows other)) (shows_others owner p (get_or logs p no_rows) live there (shows p few))
    ] refl

pub stands_without : (t : TrackedRows) (new : Kernel) (owner : ℕ) (rows d : NetRows) (undone : List Undo) (h : History) → length t.logs ≡ 5 → 0 < owner → owner ≤ 4 → rows ≡ no_rows → new.now ≡ t.kernel.now →
    LosesAll t.kernel owner (read_back (get_or t.logs owner d)) new → IsLawful t.kernel.claims.share h → IsProper h → Stands t h → Stands (record { kernel = new; logs = set t.logs owner rows; undone = undone }) (Without h owner)
stands_without t new owner rows d undone h places driver few none clock loses lawful proper stands = record {
  kernel = record {
    tables = subst (HoldsTables new) (sym (live_of-Without h owner)) (loses (live_of h) (live_is t owner d h places few lawful proper stands));
    clock = clock ∙ stands.kernel.clock ∙ sym (clock_of-Without h owner (λ zero. omega arith) proper);
  };
  logs = λ p fits. subst (λ live. ShowsNet p (get_or (set t.logs owner rows) p no_rows) live) (sym (live_of-Without h owner)) (logs_without t.logs owner rows (live_of h) places few none stands.logs p fits);
}

pub history_without : (t : TrackedRows) (new : Kernel) (owner : ℕ) (rows d : NetRows) (undone : List Undo) → 0 < owner → owner ≤ 4 → rows ≡ no_rows → new.now ≡ t.kernel.now → new.claims.share ≡ t.kernel.claims.share →
    LosesAll t.kernel owner (read_back (get_or t.logs owner d)) new → HasHistory t → HasHistory (record { kernel = new; logs = set t.logs owner rows; undone = undone })
history_without t new owner rows d undone driver few none clock same loses has = record {
  history = Without has.history owner;
  lawful = subst (λ share. IsLawful share (Without has.history owner)) (sym same) (IsLawful-Without t.kernel.claims.share has.history owner (λ zero. omega arith) has.proper has.lawful);
  proper = IsProper-Without has.history owner has.proper;
  stands = stands_without t new owner rows d undone has.history has.places driver few none clock loses has.lawful has.proper has.stands;
  places = length-set t.logs owner rows ∙ has.places;
}
