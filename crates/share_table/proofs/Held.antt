-- The holds of a history, for each owner and domain.
use Rattle.std.proofs.Common.{◌≡◌, ◌≢◌, ℕ, length, set, replicate, ◌+◌, ◌-◌, ◌*◌, ◌<◌, ◌≤◌, Bool, true, false, cond, ◌&&◌, eqb, ltb, List, [], ◌∷◌, ℤ, pos, negsuc, Some, None, refl, ap, sym, ◌∙◌, subst, arith, get_or, get_or-set_same, get_or-set_other}
use Rattle.std.proofs.lemmas.Bool.Decides.{nat_tests}
use Rattle.std.proofs.lemmas.Int.{ints}
use Rattle.std.specs.Prelude.{count_by}
use Rattle.std.specs.List.{list_any}
use Rattle.std.specs.Ordering.{int_eq}
use Rattle.sd_base.specs.declared.history.Refusal.TheVariants.{Bad, Full}
use Rattle.sd_base.specs.declared.history.Update.TheVariants.{Hold, DropHold}
use Rattle.sd_base.specs.Selection.{without_first, is_below}
use Rattle.sd_base.specs.History.{Entry, OfHolds, Key, same_resource, key_of, hold_key, entry, is_of, after_entry, live_of}
use Rattle.sd_base.specs.Part.{Serves, Loses}
use Rattle.sd_base.proofs.Counting.{count_by-cons}
use Rattle.sd_base.proofs.Single.{count_by-none, count_by-some}
use Rattle.sd_base.proofs.SoundLive.{lawful_sound}
use Rattle.share_table.specs.Holds.{holds_at, HoldsHolds, IsCounts}
use Rattle.share_table.proofs.Locked.{replicate-at}
use Rattle.share_table.proofs.OtherKinds.{Within, count_by-after, count_by-without, count_by-apart, count_by-fewer}

within : (owner : ℕ) (domain : ℤ) → Within OfHolds (is_of owner (hold_key domain))
within owner domain e h = grind arith

pub holds-after : (counts : List ℕ) (e : Entry) (live : List Entry) → same_resource (key_of e.update).resource OfHolds ≡ false → HoldsHolds counts live → HoldsHolds counts (after_entry e live)
holds-after counts e live apart holds owner domain = holds owner domain ∙ sym (count_by-after OfHolds (is_of owner (hold_key domain)) refl (within owner domain) e live apart)

pub holds-without : (counts : List ℕ) (owner : ℕ) (key : Key) (live : List Entry) → same_resource key.resource OfHolds ≡ false → HoldsHolds counts live →
    HoldsHolds counts (without_first (is_of owner key) live)
holds-without counts owner key live apart holds o domain = holds o domain ∙ sym (count_by-without OfHolds (is_of o (hold_key domain)) (within o domain) owner key live apart)

-- the same owner and domain, or another
abbrev is_place : ℕ → ℕ → ℕ → ℤ → Bool
is_place owner place o domain = eqb owner o && int_eq (pos place) domain

contrary : (owner place o k : ℕ) → is_place owner place o (negsuc k) ≡ true → int_eq (pos place) (negsuc k) ≡ false → ⊥
contrary owner place o k h apart = (let no_place : is_place owner place o (negsuc k) ≡ false = grind arith in cc)

same_domain : (owner place o : ℕ) (domain : ℤ) → is_place owner place o domain ≡ true → (owner ≡ o) × (pos place ≡ domain)
same_domain owner place o (pos k) h =
    (grind (arith, nat_tests), (let same : place ≡ k = grind (arith, nat_tests, ints) in ap pos same))
same_domain owner place o (negsuc k) h = (grind (arith, nat_tests), (let apart : int_eq (pos place) (negsuc k) ≡ false = grind (arith, ints) in absurd (contrary owner place o k h apart)))

-- one place changed: there is what was put, and the others stay
at_same : (counts : List ℕ) (owner place n : ℕ) → length counts ≡ 320 → owner ≤ 4 → place < 64 → holds_at (set counts (owner * 64 + place) n) owner (pos place) ≡ n
at_same counts owner place n long few short =
    let at = get_or-set_same counts (owner * 64 + place) n 0 (omega arith) in
    let fits : ltb place 64 ≡ true = grind (arith, nat_tests) in
    ap (λ b. cond b (get_or (set counts (owner * 64 + place) n) (owner * 64 + place) 0) 0) fits ∙ at

apart_places : (owner place o k : ℕ) → place < 64 → k < 64 → (eqb owner o && eqb place k) ≡ false → o * 64 + k ≢ owner * 64 + place
apart_places owner place o k short below other =
    elim (eqb owner o) as (λ b. eqb owner o ≡ b → o * 64 + k ≢ owner * 64 + place) [
      | true ↦ λ is. (let same : owner ≡ o = grind (arith, nat_tests) in let differ : place ≢ k = grind (arith, nat_tests) in λ e. absurd (differ (omega arith)))
      | false ↦ λ is. (let differ : owner ≢ o = grind (arith, nat_tests) in λ e. absurd (differ (omega arith)))
    ] refl

at_other : (counts : List ℕ) (owner place n o : ℕ) (domain : ℤ) → place < 64 → is_place owner place o domain ≡ false →
    holds_at (set counts (owner * 64 + place) n) o domain ≡ holds_at counts o domain
at_other counts owner place n o (negsuc k) short other = refl
at_other counts owner place n o (pos k) short other =
    elim (ltb k 64) as (λ b. ltb k 64 ≡ b → cond b (get_or (set counts (owner * 64 + place) n) (o * 64 + k) 0) 0 ≡ cond b (get_or counts (o * 64 + k) 0) 0) [
      | false ↦ λ is. refl
      | true ↦ λ is. (
          let below : k < 64 = grind (arith, nat_tests) in
          let differ : (eqb owner o && eqb place k) ≡ false = grind (arith, nat_tests, ints) in
          get_or-set_other counts (owner * 64 + place) (o * 64 + k) n 0 (apart_places owner place o k short below differ))
    ] refl

is_of-hold : (owner place o : ℕ) (domain : ℤ) → is_of o (hold_key domain) (entry owner (Hold (pos place))) ≡ is_place owner place o domain
is_of-hold owner place o domain = grind arith

apart_holds : (owner place o : ℕ) (domain : ℤ) → is_place owner place o domain ≡ false → (x : Entry) → is_of owner (hold_key (pos place)) x ≡ true → is_of o (hold_key domain) x ≡ false
apart_holds owner place o domain other x h = grind (arith, nat_tests, ints)

hold-refusal : (counts : List ℕ) (live : List Entry) (owner place : ℕ) → is_below 64 (pos place) ≡ true → HoldsHolds counts live →
    cond (is_below 64 (pos place)) (cond (ltb (count_by (is_of owner (hold_key (pos place))) live) 8) None (Some Full)) (Some Bad)
    ≡ cond (ltb (get_or counts (owner * 64 + place) 0) 8) None (Some Full)
hold-refusal counts live owner place fits holds =
    ap (λ b. cond b (cond (ltb (count_by (is_of owner (hold_key (pos place))) live) 8) None (Some Full)) (Some Bad)) fits
    ∙ ap (λ n. cond (ltb n 8) None (Some Full)) (sym (holds owner (pos place)) ∙ ap (λ b. cond b (get_or counts (owner * 64 + place) 0) 0) fits)

pub hold_full : (counts : List ℕ) (owner place : ℕ) → is_below 64 (pos place) ≡ true → 8 ≤ get_or counts (owner * 64 + place) 0 →
    Serves HoldsHolds counts owner (Hold (pos place)) (Some Full) counts
hold_full counts owner place fits many share h lawful proper holds =
    let test : ltb (get_or counts (owner * 64 + place) 0) 8 ≡ false = grind (arith, nat_tests) in
    (sym (hold-refusal counts (live_of h) owner place fits holds ∙ ap (λ b. cond b None (Some Full)) test), λ ok. cc)

counts_none : (b : Bool) → b ≡ false → cond {A = ℕ} b 1 0 ≡ 0
counts_none b h = ap (λ x. cond {A = ℕ} x 1 0) h

counts_one : (b : Bool) → b ≡ true → cond {A = ℕ} b 1 0 ≡ 1
counts_one b h = ap (λ x. cond {A = ℕ} x 1 0) h

one_more : (counts : List ℕ) (live : List Entry) (owner place : ℕ) → length counts ≡ 320 → owner ≤ 4 → place < 64 → is_below 64 (pos place) ≡ true → HoldsHolds counts live →
    HoldsHolds (set counts (owner * 64 + place) (get_or counts (owner * 64 + place) 0 + 1)) (entry owner (Hold (pos place)) ∷ live)
one_more counts live owner place long few short fits holds o domain =
    let more = count_by-cons (is_of o (hold_key domain)) (entry owner (Hold (pos place))) live in
    let first = is_of-hold owner place o domain in
    let before = holds o domain in
    elim (is_place owner place o domain) as (λ b. is_place owner place o domain ≡ b →
    holds_at (set counts (owner * 64 + place) (get_or counts (owner * 64 + place) 0 + 1)) o domain ≡ count_by (is_of o (hold_key domain)) (entry owner (Hold (pos place)) ∷ live)) [
      | true ↦ λ is. (
          let at = same_domain owner place o domain is in
          let here = at_same counts owner place (get_or counts (owner * 64 + place) 0 + 1) long few short in
          let old : holds_at counts owner (pos place) ≡ get_or counts (owner * 64 + place) 0 = ap (λ b. cond b (get_or counts (owner * 64 + place) 0) 0) fits in
          let counted = counts_one (is_of o (hold_key domain) (entry owner (Hold (pos place)))) (first ∙ is) in
          let moved : holds_at (set counts (owner * 64 + place) (get_or counts (owner * 64 + place) 0 + 1)) o domain ≡ get_or counts (owner * 64 + place) 0 + 1 =
          subst (λ d. holds_at (set counts (owner * 64 + place) (get_or counts (owner * 64 + place) 0 + 1)) o d ≡ get_or counts (owner * 64 + place) 0 + 1) at.1
          (subst (λ n. holds_at (set counts (owner * 64 + place) (get_or counts (owner * 64 + place) 0 + 1)) n (pos place) ≡ get_or counts (owner * 64 + place) 0 + 1) at.0 here) in
          let was : holds_at counts o domain ≡ get_or counts (owner * 64 + place) 0 =
          subst (λ d. holds_at counts o d ≡ get_or counts (owner * 64 + place) 0) at.1 (subst (λ n. holds_at counts n (pos place) ≡ get_or counts (owner * 64 + place) 0) at.0 old) in
          omega arith)
      | false ↦ λ is. (
          let same = at_other counts owner place (get_or counts (owner * 64 + place) 0 + 1) o domain short is in
          let counted = counts_none (is_of o (hold_key domain) (entry owner (Hold (pos place)))) (first ∙ is) in
          omega arith)
    ] refl

pub hold_done : (counts : List ℕ) (owner place : ℕ) → length counts ≡ 320 → owner ≤ 4 → place < 64 → is_below 64 (pos place) ≡ true → get_or counts (owner * 64 + place) 0 < 8 →
    Serves HoldsHolds counts owner (Hold (pos place)) None (set counts (owner * 64 + place) (get_or counts (owner * 64 + place) 0 + 1))
hold_done counts owner place long few short fits room share h lawful proper holds =
    let test : ltb (get_or counts (owner * 64 + place) 0) 8 ≡ true = grind (arith, nat_tests) in (
      sym (hold-refusal counts (live_of h) owner place fits holds ∙ ap (λ b. cond b None (Some Full)) test),
      λ ok. one_more counts (live_of h) owner place long few short fits holds,
    )

-- whether an owner has a hold, by the count
any-counted : (p : Entry → Bool) (live : List Entry) → list_any p live ≡ ltb 0 (count_by p live)
any-counted p live =
    elim (list_any p live) as (λ b. list_any p live ≡ b → b ≡ ltb 0 (count_by p live)) [
      | true ↦ λ is. (let some = count_by-some p live is in grind (arith, nat_tests))
      | false ↦ λ is. (let none = count_by-none p live is in grind (arith, nat_tests))
    ] refl

drop-refusal : (counts : List ℕ) (live : List Entry) (owner : ℕ) (domain : ℤ) → HoldsHolds counts live →
    cond (list_any (is_of owner (hold_key domain)) live) None (Some Bad) ≡ cond (ltb 0 (holds_at counts owner domain)) None (Some Bad)
drop-refusal counts live owner domain holds =
    ap (λ b. cond b None (Some Bad)) (any-counted (is_of owner (hold_key domain)) live ∙ ap (λ n. ltb 0 n) (sym (holds owner domain)))

pub drop_bad : (counts : List ℕ) (owner : ℕ) (domain : ℤ) → holds_at counts owner domain ≡ 0 → Serves HoldsHolds counts owner (DropHold domain) (Some Bad) counts
drop_bad counts owner domain none share h lawful proper holds =
    (sym (drop-refusal counts (live_of h) owner domain holds ∙ ap (λ n. cond (ltb 0 n) None (Some Bad)) none), λ ok. cc)

one_fewer : (counts : List ℕ) (live : List Entry) (owner place : ℕ) → length counts ≡ 320 → owner ≤ 4 → place < 64 → is_below 64 (pos place) ≡ true → 0 < get_or counts (owner * 64 + place) 0 → HoldsHolds counts live →
    holds_at (set counts (owner * 64 + place) (get_or counts (owner * 64 + place) 0 - 1)) owner (pos place) ≡ count_by (is_of owner (hold_key (pos place))) (without_first (is_of owner (hold_key (pos place))) live)
one_fewer counts live owner place long few short fits some holds =
    let here = at_same counts owner place (get_or counts (owner * 64 + place) 0 - 1) long few short in
    let old : holds_at counts owner (pos place) ≡ get_or counts (owner * 64 + place) 0 = ap (λ b. cond b (get_or counts (owner * 64 + place) 0) 0) fits in
    let before = holds owner (pos place) in
    let there : list_any (is_of owner (hold_key (pos place))) live ≡ true = any-counted (is_of owner (hold_key (pos place))) live ∙ (let some_counted : 0 < count_by (is_of owner (hold_key (pos place))) live = omega arith in grind (arith, nat_tests)) in
    let fewer = count_by-fewer (is_of owner (hold_key (pos place))) live there in
    omega arith

pub loses_hold : (counts : List ℕ) (owner place : ℕ) → length counts ≡ 320 → owner ≤ 4 → place < 64 → is_below 64 (pos place) ≡ true → 0 < get_or counts (owner * 64 + place) 0 →
    Loses HoldsHolds counts owner (hold_key (pos place)) (set counts (owner * 64 + place) (get_or counts (owner * 64 + place) 0 - 1))
loses_hold counts owner place long few short fits some live sound holds o domain =
    let before = holds o domain in
    elim (is_place owner place o domain) as (λ b. is_place owner place o domain ≡ b →
    holds_at (set counts (owner * 64 + place) (get_or counts (owner * 64 + place) 0 - 1)) o domain ≡ count_by (is_of o (hold_key domain)) (without_first (is_of owner (hold_key (pos place))) live)) [
      | true ↦ λ is. (
          let at = same_domain owner place o domain is in
          subst (λ d. holds_at (set counts (owner * 64 + place) (get_or counts (owner * 64 + place) 0 - 1)) o d ≡ count_by (is_of o (hold_key d)) (without_first (is_of owner (hold_key (pos place))) live)) at.1
          (subst (λ n. holds_at (set counts (owner * 64 + place) (get_or counts (owner * 64 + place) 0 - 1)) n (pos place) ≡ count_by (is_of n (hold_key (pos place))) (without_first (is_of owner (hold_key (pos place))) live)) at.0
          (one_fewer counts live owner place long few short fits some holds)))
      | false ↦ λ is.
          at_other counts owner place (get_or counts (owner * 64 + place) 0 - 1) o domain short is ∙ before
          ∙ sym (count_by-apart (is_of owner (hold_key (pos place))) (is_of o (hold_key domain)) (apart_holds owner place o domain is) live)
    ] refl

pub drop_done : (counts : List ℕ) (owner place : ℕ) → length counts ≡ 320 → owner ≤ 4 → place < 64 → is_below 64 (pos place) ≡ true → 0 < get_or counts (owner * 64 + place) 0 →
    Serves HoldsHolds counts owner (DropHold (pos place)) None (set counts (owner * 64 + place) (get_or counts (owner * 64 + place) 0 - 1))
drop_done counts owner place long few short fits some share h lawful proper holds =
    let old : holds_at counts owner (pos place) ≡ get_or counts (owner * 64 + place) 0 = ap (λ b. cond b (get_or counts (owner * 64 + place) 0) 0) fits in
    let test : ltb 0 (holds_at counts owner (pos place)) ≡ true = grind (arith, nat_tests) in (
      sym (drop-refusal counts (live_of h) owner (pos place) holds ∙ ap (λ b. cond b None (Some Bad)) test),
      λ ok. loses_hold counts owner place long few short fits some (live_of h) (lawful_sound share h proper lawful) holds,
    )

-- What dropping an owner leaves.

pub none_held : HoldsHolds (replicate 320 0) []
none_held owner (negsuc k) = refl
none_held owner (pos k) =
    elim (ltb k 64) as (λ b. let n : ℕ = cond b (get_or (replicate 320 0) (owner * 64 + k) 0) 0 in n ≡ 0) [
      | true ↦ replicate-at {X = ℕ} 320 (owner * 64 + k) 0
      | false ↦ refl
    ]

pub none_counted : IsCounts (replicate 320 0)
none_counted = record { places = refl; few = λ place. rw (replicate-at {X = ℕ} 320 place 0) (omega arith) }
