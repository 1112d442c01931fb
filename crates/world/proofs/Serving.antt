-- The host after a driver's kernel call.
-- Here: served-host
use Rattle.std.proofs.Common.{◌≡◌, ◌≢◌, ℕ, zero, suc, ◌+◌, ◌-◌, ◌<◌, ◌≤◌, Bool, true, false, cond, ◌&&◌, eqb, List, [], ◌∷◌, ◌++◌, map, reverse, length, slice_set, get_or, append-nil, Option, Some, None, is_none, refl, sym, ap, ◌∙◌, subst, arith}
use Rattle.std.specs.Prelude.{slice_index_or}
use Rattle.std.proofs.lemmas.Bool.Decides.{nat_tests}
use Rattle.sd_base.specs.declared.actors.Fat.{Fat}
use Rattle.sd_base.specs.declared.actors.Who.{Who}
use Rattle.sd_base.specs.declared.history.Update.{Update}
use Rattle.sd_base.specs.History.{History, entry, clock_of}
use Rattle.sd_base.specs.Blocks.{granted, blocks_after}
use Rattle.sd_base.specs.Allowed.{IsLawful, refusal}
use Rattle.byte_memory.specs.declared.tested.GrantedRange.{GrantedRange}
use Rattle.byte_memory.specs.Tested.{Memory}
use Rattle.device_model.specs.Scripted.{Scripted}
use Rattle.checked_tree.specs.declared.kernel.KernelCall.{KernelCall}
use Rattle.update_tracker.specs.Tracking.{Stands}
use Rattle.wrappers.specs.declared.call_out.CallOut.{CallOut}
use Rattle.wrappers.specs.declared.call_out.CallOut.TheVariants.{Reply, Pointer, Said, Blocked, Fail, Wild}
use Rattle.wrappers.specs.InStep.{range_of, ranges_of, spanned, answered_ranges, AcceptsUpdate, IsInStep}
use Rattle.wrappers.specs.Served.{Served, with_update}
use Rattle.wrappers.specs.Serving.{IsServed, ServesCall, TakesAnswer, IsStop}
use Rattle.wrappers.specs.Rows.{served, port_taken, without_answer}
use Rattle.wrappers.proofs.CallsInStep.{each_in_step}
use Rattle.driver_host.specs.declared.host.Host.{Host}
use Rattle.driver_host.specs.Hosting.{IsHost, memory_from, memories_from, cleared}
use Rattle.world_core.specs.WorldState.{memory_of, bytes_of}
use Rattle.world_core.specs.Script.{updated, is_accepted}
use Rattle.world_core.specs.Laws.{IsLawfulWorld}
use Rattle.world_core.proofs.Lawful.{updated-lawful}
use Rattle.world.specs.Serving.{grown, after_call, comes_to, ServesCaller}
use Rattle.world.proofs.Steps.{set-same, memory-is}
use Rattle.world.proofs.Tame.{calls-tame, takes-none, said-takes, points-takes, tame-said}

-- ---- the history

pub grown-accepted : (share : ℕ) (h : History) (owner : ℕ) (u : Update) → is_accepted share h owner u ≡ true → updated share owner u h ≡ entry owner u ∷ h
unfolding updated
grown-accepted share h owner u e = ap (λ b. elim b as (λ x. History) [ true ↦ entry owner u ∷ h | false ↦ h ]) e

-- an update that is accepted is made
pub grown-is : (share : ℕ) (h : History) (owner : ℕ) (u : Option Update) → AcceptsUpdate share h owner u → grown share owner u h ≡ with_update owner u h
grown-is share h owner None accepts = refl
grown-is share h owner (Some u) accepts =
    grown-accepted share h owner u (ap (λ b. b && is_none (refusal share h owner u)) accepts.proper ∙ ap is_none accepts.allowed)

grown-lawful : (share : ℕ) (h : History) (owner : ℕ) (u : Option Update) → IsLawfulWorld share h → IsLawfulWorld share (grown share owner u h)
grown-lawful share h owner None lawful = lawful
grown-lawful share h owner (Some u) lawful = updated-lawful share owner u h lawful

-- what is granted to another owner stays
others-kept : (h : History) (owner : ℕ) (u : Option Update) (o : ℕ) → o ≢ owner → ranges_of (with_update owner u h) o ≡ ranges_of h o
others-kept h owner None o apart = refl
others-kept h owner (Some u) o apart = ap (λ b. reverse (map range_of (cond b (blocks_after u (granted h o)) (granted h o)))) not-its
  where
    not-its : eqb owner o ≡ false
    not-its = by (eqb owner o) refl
      where
        by : (b : Bool) → eqb owner o ≡ b → b ≡ false
        by true e = absurd (apart (let same : owner ≡ o = grind (arith, nat_tests) in sym same))
        by false e = refl

-- ---- the memories

module _ (h h' : History) (rs : List GrantedRange) where
  -- one owner is granted these ranges more
  memories-grown : (memories : List (List ℕ)) (k from : ℕ) → k < length memories → ((o : ℕ) → o ≢ from + k → ranges_of h' o ≡ ranges_of h o)
      → ranges_of h' (from + k) ≡ ranges_of h (from + k) ++ rs
      → slice_set (memories_from from h memories) k (record { bytes = get_or memories k []; granted = ranges_of h (from + k) ++ rs }) ≡ memories_from from h' memories
  memories-grown [] k from within others own = absurd (omega (arith, within))
  memories-grown (b ∷ more) zero from within others own =
      let here : from + 0 ≡ from = omega arith in
      let one : record { bytes = b; granted = ranges_of h (from + 0) ++ rs } ≡ memory_from from h' b =
      ap (λ g. record { bytes = b; granted = g }) (sym own ∙ ap (ranges_of h') here) in
      ap (λ m. m ∷ memories_from (suc from) h more) one ∙ ap (λ ms. memory_from from h' b ∷ ms) (rest more (suc from) (λ o later. others o (λ e. absurd (omega (arith, later, e)))))
    where
      rest : (memories : List (List ℕ)) (from' : ℕ) → ((o : ℕ) → from' ≤ o → ranges_of h' o ≡ ranges_of h o) → memories_from from' h memories ≡ memories_from from' h' memories
      rest [] from' same = refl
      rest (b ∷ more) from' same =
          ap (λ g. record { bytes = b; granted = g } ∷ memories_from (suc from') h more) (sym (same from' (omega arith)))
          ∙ ap (λ ms. memory_from from' h' b ∷ ms) (rest more (suc from') (λ o later. same o (omega (arith, later))))
  memories-grown (b ∷ more) (suc k) from within others own =
      let next : suc from + k ≡ from + suc k = omega arith in
      ap (λ g. memory_from from h b ∷ slice_set (memories_from (suc from) h more) k (record { bytes = get_or more k []; granted = g })) (ap (λ o. ranges_of h o ++ rs) (sym next))
      ∙ ap (λ ms. memory_from from h b ∷ ms) (memories-grown more k (suc from) (omega (arith, within)) (λ o apart. others o (λ e. apart (e ∙ sym next)))
      (ap (ranges_of h') next ∙ own ∙ ap (λ o. ranges_of h o ++ rs) (sym next)))
      ∙ ap (λ g. record { bytes = b; granted = g } ∷ memories_from (suc from) h' more) (sym (others from (λ e. absurd (omega (arith, e)))))

-- ---- the host

module _ (share : ℕ) (h : History) (memories : List (List ℕ)) (devices : Scripted) (old new : Host) (is : IsHost share old h memories devices)
    (owner : ℕ) (some : 1 ≤ owner) (within : owner ≤ length memories) where
  -- the driver's memory, as the host has it
  abbrev pub memory-now : Memory
  memory-now = slice_index_or old.memories.items (owner - 1) cleared

  memory-was : memory-now ≡ memory_of h memories owner
  memory-was = ap (λ ms. slice_index_or ms (owner - 1) cleared) is.bytes ∙ memory-is h memories owner some within

  place-next : (k : ℕ) → 1 ≤ k → suc (k - 1) ≡ k
  place-next k positive = omega (arith, positive)

  -- an update, with which these ranges are granted more
  host-grown : (u : Option Update) (rs : List GrantedRange) (devices' : Scripted) → new.kernel.kernel.claims.share ≡ old.kernel.kernel.claims.share
      → Stands new.kernel (with_update owner u h) → AcceptsUpdate share h owner u → clock_of (with_update owner u h) ≡ clock_of h
      → ranges_of (with_update owner u h) owner ≡ ranges_of h owner ++ rs
      → new.memories.items ≡ slice_set old.memories.items (owner - 1) (record memory-now { granted = memory-now.granted ++ rs })
      → new.devices ≡ devices' → IsHost share new (grown share owner u h) memories devices'
  host-grown u rs devices' shared stands accepts clock ranges mems devs = record {
    holders = shared ∙ is.holders;
    lawful = (grown-lawful share h owner u (record { lawful = is.lawful; proper = is.proper })).lawful;
    proper = (grown-lawful share h owner u (record { lawful = is.lawful; proper = is.proper })).proper;
    tables = subst (Stands new.kernel) (sym (grown-is share h owner u accepts)) stands;
    sizes = is.sizes;
    bytes = mems ∙ ap (λ ms. slice_set ms (owner - 1) (record memory-now { granted = memory-now.granted ++ rs })) is.bytes
        ∙ ap (λ m. slice_set (memories_from 1 h memories) (owner - 1) (record m { granted = m.granted ++ rs })) memory-was
        ∙ at-place ∙ ap (λ x. memories_from 1 x memories) (sym (grown-is share h owner u accepts));
    answers = devs;
    clock = subst (λ x. clock_of x ≤ 2000000000) (sym (grown-is share h owner u accepts)) (subst (λ n. n ≤ 2000000000) (sym clock) is.clock);
  }
    where
      place : (k : ℕ) → owner ≡ suc k → slice_set (memories_from 1 h memories) (owner - 1) (record (memory_of h memories owner) { granted = (memory_of h memories owner).granted ++ rs })
          ≡ memories_from 1 (with_update owner u h) memories
      place k e =
          let here : owner - 1 ≡ k = omega (arith, e) in
          let number : suc k ≡ 1 + k = omega arith in
          ap (λ i. slice_set (memories_from 1 h memories) i (record (memory_of h memories owner) { granted = (memory_of h memories owner).granted ++ rs })) here
          ∙ ap (λ o. slice_set (memories_from 1 h memories) k (record { bytes = bytes_of memories o; granted = ranges_of h o ++ rs })) e
          ∙ ap (λ o. slice_set (memories_from 1 h memories) k (record { bytes = get_or memories k []; granted = ranges_of h o ++ rs })) number
          ∙ memories-grown h (with_update owner u h) rs memories k 1 (omega (arith, within, e))
          (λ o apart. others-kept h owner u o (λ same. apart (same ∙ e ∙ number)))
          (ap (ranges_of (with_update owner u h)) (sym (e ∙ number)) ∙ ranges ∙ ap (λ o. ranges_of h o ++ rs) (e ∙ number))

      at-place : slice_set (memories_from 1 h memories) (owner - 1) (record (memory_of h memories owner) { granted = (memory_of h memories owner).granted ++ rs })
          ≡ memories_from 1 (with_update owner u h) memories
      at-place = place (owner - 1) (sym (place-next owner some))

  -- without one, the memories stay
  mems-same : new.memories.items ≡ old.memories.items → new.memories.items ≡ slice_set old.memories.items (owner - 1) (record memory-now { granted = memory-now.granted ++ [] })
  mems-same same = same ∙ sym (set-same old.memories.items (owner - 1) cleared)
      ∙ ap (λ g. slice_set old.memories.items (owner - 1) (record memory-now { granted = g })) (sym (append-nil memory-now.granted))

  host-same : new.kernel ≡ old.kernel → new.memories.items ≡ old.memories.items → new.devices ≡ old.devices → IsHost share new h memories devices
  host-same kernel mems devs = record {
    holders = ap (λ t. t.kernel.claims.share) kernel ∙ is.holders;
    lawful = is.lawful;
    proper = is.proper;
    tables = subst (λ t. Stands t h) (sym kernel) is.tables;
    sizes = is.sizes;
    bytes = mems ∙ is.bytes;
    answers = devs ∙ is.answers;
    clock = is.clock;
  }

-- ---- the call

-- the memories behind a call that comes to this
abbrev pub mems-after : Host → ℕ → CallOut → List Memory → Type 0
mems-after old place (Pointer p) mems = mems ≡ slice_set old.memories.items place
    (record (slice_index_or old.memories.items place cleared) { granted = (slice_index_or old.memories.items place cleared).granted ++ spanned p })
mems-after old place _ mems = mems ≡ old.memories.items

pub mems-stay : (old : Host) (place : ℕ) (out : CallOut) → ((p : Fat) → out ≡ Pointer p → ⊥) → mems-after old place out old.memories.items
mems-stay old place (Pointer p) other = absurd (other p refl)
mems-stay old place (Reply n) other = refl
mems-stay old place (Said saying) other = refl
mems-stay old place (Blocked k) other = refl
mems-stay old place (Fail kind) other = refl
mems-stay old place Wild other = refl

module _ (old new : Host) (who : Who) (call : KernelCall) (out : CallOut) (driver : 0 < who.owner) (few : who.owner ≤ 4) (task : who.task ≤ 8)
    (serves : ServesCall old.kernel (slice_index_or old.memories.items (who.owner - 1) cleared) old.devices who call out new.kernel)
    (takes : TakesAnswer old.kernel (λ h. port_taken h who call) old.devices new.devices)
    (stops : IsStop out ((new.kernel ≡ old.kernel) × (new.devices ≡ old.devices)))
    (shared : new.kernel.kernel.claims.share ≡ old.kernel.kernel.claims.share)
    (mems : mems-after old (who.owner - 1) out new.memories.items) where
  module _ (share : ℕ) (h : History) (memories : List (List ℕ)) (devices : Scripted) (is : IsHost share old h memories devices) (within : who.owner ≤ length memories) where
    some : 1 ≤ who.owner
    some = omega (arith, driver)

    it : Served
    it = comes_to share h memories devices who call

    lawful-here : IsLawful old.kernel.kernel.claims.share h
    lawful-here = subst (λ n. IsLawful n h) (sym is.holders) is.lawful

    served-is : served old.kernel.kernel.claims.share h (slice_index_or old.memories.items (who.owner - 1) cleared) old.devices who call ≡ comes_to share h memories devices who call
    served-is = ap (λ n. served n h (slice_index_or old.memories.items (who.owner - 1) cleared) old.devices who call) is.holders
        ∙ ap (λ m. served share h m old.devices who call) (memory-was share h memories devices old new is who.owner some within)
        ∙ ap (λ d. served share h (memory_of h memories who.owner) d who call) is.answers

    one : IsServed old.kernel who.owner h (comes_to share h memories devices who call) out new.kernel
    one = subst (λ s. IsServed old.kernel who.owner h s out new.kernel) served-is (serves h lawful-here is.proper is.tables)

    in-step : IsInStep share h who.owner (comes_to share h memories devices who call)
    in-step = each_in_step share h who driver few task (memory_of h memories who.owner) devices call

    devices-after : new.devices ≡ without_answer (port_taken h who call) devices
    devices-after = takes h lawful-here is.proper is.tables ∙ ap (without_answer (port_taken h who call)) is.answers

    ranges-after : (o : CallOut) → out ≡ o → ranges_of (with_update who.owner (comes_to share h memories devices who call).update h) who.owner
        ≡ ranges_of h who.owner ++ answered_ranges o
    ranges-after o e = in-step.ranges ∙ ap (λ x. ranges_of h who.owner ++ answered_ranges x) (sym one.answer ∙ e)

    after : (o : CallOut) → out ≡ o → mems-after old (who.owner - 1) o new.memories.items → IsStop o ((new.kernel ≡ old.kernel) × (new.devices ≡ old.devices))
        → after_call share who (comes_to share h memories devices who call).update (port_taken h who call) o new h memories devices
    after (Reply n) e ms stop = host-grown share h memories devices old new is who.owner some within (comes_to share h memories devices who call).update []
        (without_answer (port_taken h who call) devices) shared one.stands in-step.accepted in-step.clock (ranges-after (Reply n) e)
        (mems-same share h memories devices old new is who.owner some within ms) devices-after
    after (Pointer p) e ms stop =
        let none : port_taken h who call ≡ None = points-takes (port_taken h who call) (comes_to share h memories devices who call).out p
        (takes-none share h (memory_of h memories who.owner) devices who call) (sym one.answer ∙ e) in
        host-grown share h memories devices old new is who.owner some within (comes_to share h memories devices who call).update (spanned p)
        devices shared one.stands in-step.accepted in-step.clock (ranges-after (Pointer p) e)
        ms (devices-after ∙ ap (λ port. without_answer port devices) none)
    after (Said saying) e ms stop =
        let none : port_taken h who call ≡ None = said-takes (port_taken h who call) (comes_to share h memories devices who call).out saying
        (takes-none share h (memory_of h memories who.owner) devices who call) (sym one.answer ∙ e) in
        let quiet : (comes_to share h memories devices who call).update ≡ None = tame-said _ _ saying
        (calls-tame share h (memory_of h memories who.owner) devices who call) (sym one.answer ∙ e) in
        host-grown share h memories devices old new is who.owner some within None [] devices shared
        (subst (λ u. Stands new.kernel (with_update who.owner u h)) quiet one.stands) tt refl (sym (append-nil (ranges_of h who.owner)))
        (mems-same share h memories devices old new is who.owner some within ms) (devices-after ∙ ap (λ port. without_answer port devices) none)
    after (Blocked k) e ms stop = host-same share h memories devices old new is who.owner some within stop.0 ms stop.1
    after (Fail kind) e ms stop = host-same share h memories devices old new is who.owner some within stop.0 ms stop.1
    after Wild e ms stop = host-same share h memories devices old new is who.owner some within stop.0 ms stop.1

  pub served-host : ((share : ℕ) (h : History) (memories : List (List ℕ)) (devices : Scripted) → IsHost share old h memories devices → who.owner ≤ length memories)
      → ServesCaller old who call out new
  served-host place = record {
    answered = λ share h memories devices is. (one share h memories devices is (place share h memories devices is)).answer;
    stands = λ share h memories devices is. after share h memories devices is (place share h memories devices is) out refl mems stops;
  }
