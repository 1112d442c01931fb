-- The masks of a history, at each owner and task.
use Rattle.std.proofs.Common.{◌≡◌, ◌≢◌, ℕ, length, set, replicate, ◌+◌, ◌*◌, ◌<◌, ◌≤◌, Bool, true, false, cond, ◌&&◌, eqb, ltb, List, [], Some, None, refl, ap, sym, ◌∙◌, subst, arith, get_or, get_or-set_same, get_or-set_other}
use Rattle.std.proofs.lemmas.Bool.Decides.{nat_tests}
use Rattle.std.specs.List.{list_any}
use Rattle.sd_base.specs.declared.history.Refusal.TheVariants.{Unheld}
use Rattle.sd_base.specs.declared.history.Update.TheVariants.{Unmask}
use Rattle.sd_base.specs.Selection.{without_first}
use Rattle.sd_base.specs.History.{Entry, OfMasks, Key, same_resource, key_of, mask_key, is_of, after_entry, live_of}
use Rattle.sd_base.specs.Sound.{IsSound}
use Rattle.sd_base.specs.Part.{Serves, Loses}
use Rattle.sd_base.proofs.SoundLive.{lawful_sound}
use Rattle.sd_base.proofs.Single.{count_by-without_first_one}
use Rattle.share_table.specs.Masks.{mask_at, HoldsMasks}
use Rattle.share_table.proofs.Locked.{replicate-at}
use Rattle.share_table.proofs.OtherKinds.{Within, list_any-after, list_any-without, list_any-apart, list_any-none}

within : (owner task : ℕ) → Within OfMasks (is_of owner (mask_key task))
within owner task e h = grind arith

pub masks-after : (masks : List Bool) (e : Entry) (live : List Entry) → same_resource (key_of e.update).resource OfMasks ≡ false → HoldsMasks masks live → HoldsMasks masks (after_entry e live)
masks-after masks e live apart holds owner task = holds owner task ∙ sym (list_any-after OfMasks (is_of owner (mask_key task)) refl (within owner task) e live apart)

pub masks-without : (masks : List Bool) (owner : ℕ) (key : Key) (live : List Entry) → same_resource key.resource OfMasks ≡ false → HoldsMasks masks live →
    HoldsMasks masks (without_first (is_of owner key) live)
masks-without masks owner key live apart holds o task = holds o task ∙ sym (list_any-without OfMasks (is_of o (mask_key task)) (within o task) owner key live apart)

-- one place changed: the others stay
mask_at-same : (masks : List Bool) (owner task : ℕ) (b : Bool) → length masks ≡ 45 → owner ≤ 4 → task ≤ 8 → mask_at (set masks (owner * 9 + task) b) owner task ≡ b
mask_at-same masks owner task b long few tasks =
    let at = get_or-set_same masks (owner * 9 + task) b false (omega arith) in
    grind (arith, nat_tests)

-- two activities have two places
apart_places : (owner task o t : ℕ) → task ≤ 8 → ltb t 9 ≡ true → (eqb owner o && eqb task t) ≡ false → o * 9 + t ≢ owner * 9 + task
apart_places owner task o t tasks fits other =
    let below : t < 9 = grind (arith, nat_tests) in
    elim (eqb owner o) as (λ b. eqb owner o ≡ b → o * 9 + t ≢ owner * 9 + task) [
      | true ↦ λ is. (let same : owner ≡ o = grind (arith, nat_tests) in let differ : task ≢ t = grind (arith, nat_tests) in λ e. absurd (differ (omega arith)))
      | false ↦ λ is. (let differ : owner ≢ o = grind (arith, nat_tests) in λ e. absurd (differ (omega arith)))
    ] refl

mask_at-other : (masks : List Bool) (owner task o t : ℕ) (b : Bool) → task ≤ 8 → (eqb owner o && eqb task t) ≡ false → mask_at (set masks (owner * 9 + task) b) o t ≡ mask_at masks o t
mask_at-other masks owner task o t b tasks other =
    elim (ltb t 9) as (λ fits. ltb t 9 ≡ fits → cond fits (get_or (set masks (owner * 9 + task) b) (o * 9 + t) false) false ≡ cond fits (get_or masks (o * 9 + t) false) false) [
      | false ↦ λ is. refl
      | true ↦ λ is. (let apart : o * 9 + t ≢ owner * 9 + task = apart_places owner task o t tasks is other in get_or-set_other masks (owner * 9 + task) (o * 9 + t) b false apart)
    ] refl

-- two owners' or two tasks' masks are two
apart_masks : (owner task o t : ℕ) → (eqb owner o && eqb task t) ≡ false → (x : Entry) → is_of owner (mask_key task) x ≡ true → is_of o (mask_key t) x ≡ false
apart_masks owner task o t other x h = grind (arith, nat_tests)

-- with the one mask of an activity gone, it has none
gone : (owner task : ℕ) (live : List Entry) → IsSound live → list_any (is_of owner (mask_key task)) (without_first (is_of owner (mask_key task)) live) ≡ false
gone owner task live sound =
    list_any-none (is_of owner (mask_key task)) (is_of owner (mask_key task)) (λ x h. h) (without_first (is_of owner (mask_key task)) live)
    (count_by-without_first_one (is_of owner (mask_key task)) live (sound.singles owner (mask_key task) refl))

pub loses_mask : (masks : List Bool) (owner task : ℕ) → length masks ≡ 45 → owner ≤ 4 → task ≤ 8 → Loses HoldsMasks masks owner (mask_key task) (set masks (owner * 9 + task) false)
loses_mask masks owner task long few tasks live sound holds o t =
    elim (eqb owner o && eqb task t) as (λ b. (eqb owner o && eqb task t) ≡ b → mask_at (set masks (owner * 9 + task) false) o t ≡ list_any (is_of o (mask_key t)) (without_first (is_of owner (mask_key task)) live)) [
      | true ↦ λ is. (
          let same_owner : owner ≡ o = grind (arith, nat_tests) in
          let same_task : task ≡ t = grind (arith, nat_tests) in
          subst (λ n. mask_at (set masks (owner * 9 + task) false) n t ≡ list_any (is_of n (mask_key t)) (without_first (is_of owner (mask_key task)) live)) same_owner
          (subst (λ n. mask_at (set masks (owner * 9 + task) false) owner n ≡ list_any (is_of owner (mask_key n)) (without_first (is_of owner (mask_key task)) live)) same_task
          (mask_at-same masks owner task false long few tasks ∙ sym (gone owner task live sound))))
      | false ↦ λ is.
          mask_at-other masks owner task o t false tasks is ∙ holds o t
          ∙ sym (list_any-apart (is_of owner (mask_key task)) (is_of o (mask_key t)) (apart_masks owner task o t is) live)
    ] refl

pub serves_unmask : (masks : List Bool) (owner task : ℕ) → length masks ≡ 45 → owner ≤ 4 → task ≤ 8 → mask_at masks owner task ≡ true →
    Serves HoldsMasks masks owner (Unmask task) None (set masks (owner * 9 + task) false)
serves_unmask masks owner task long few tasks held share h lawful proper holds = (
  ap (λ b. cond b None (Some Unheld)) (sym held ∙ holds owner task),
  λ ok. loses_mask masks owner task long few tasks (live_of h) (lawful_sound share h proper lawful) holds,
)

-- What dropping an owner leaves.

pub none_masked : HoldsMasks (replicate 45 false) []
none_masked owner task =
    elim (ltb task 9) as (λ b. cond b (get_or (replicate 45 false) (owner * 9 + task) false) false ≡ false) [
      | true ↦ replicate-at 45 (owner * 9 + task) false
      | false ↦ refl
    ]
