-- A driver's load state in the host and in the world: its image in its place changes its own memory and the history alone.
-- Here: fills-host, known-after, loads-nobody, loads-unknown, loads-known, known-somewhere, leads-loads
use Rattle.std.proofs.Common.{◌≡◌, ◌≢◌, ℕ, zero, suc, ◌+◌, ◌-◌, ◌<◌, ◌≤◌, Bool, true, false, cond, not, ◌&&◌, eqb, ltb, true≢false, List, [], ◌∷◌, map, reverse, length, set, slice_set, get_or, refl, sym, ap, ◌∙◌, subst, arith}
use Rattle.std.specs.Prelude.{slice_index_or}
use Rattle.std.proofs.lemmas.Bool.Decides.{nat_tests}
use Rattle.sd_base.specs.declared.history.Update.{Update}
use Rattle.sd_base.specs.History.{History, Entry, entry, Without}
use Rattle.sd_base.specs.Blocks.{granted, blocks_after}
use Rattle.sd_base.specs.Allowed.{is_of_kernel, is_of_driver, is_proper, IsProper}
use Rattle.sd_base.proofs.Granted.{granted-Without_same}
use Rattle.byte_memory.specs.Tested.{Memory}
use Rattle.device_model.specs.Scripted.{Scripted}
use Rattle.checked_tree.specs.declared.units.CheckedUnit.{CheckedUnit}
use Rattle.checked_tree.specs.declared.units.ImageBlock.{ImageBlock}
use Rattle.safe_code.specs.DerivedUnit.{IsDerivedUnit}
use Rattle.driver_host.specs.declared.host.Host.{Host}
use Rattle.driver_host.specs.Hosting.{IsHost, memory_from, memories_from, cleared, AreArenas, TakesBack}
use Rattle.driver_host.specs.Printing.{IsTold}
use Rattle.driver_host.proofs.Hosting.{empty-length}
use Rattle.world_core.specs.WorldState.{WorldState, Plan, range_of, bytes_of, with_memory, empty_arena, no_unit, of_owner, unit_of}
use Rattle.world_core.specs.Script.{does, updated, by_plan, is_accepted, without_driver}
use Rattle.world_core.specs.Laws.{image_granted}
use Rattle.world_core.specs.Loading.{image_grant, grants_image, begins_init, copied_in, image_memory, init_of, loads}
use Rattle.world_core.proofs.Keeping.{length-with_owner}
use Rattle.world.specs.declared.live.Live.{Live}
use Rattle.world.specs.Asking.{HasMemory}
use Rattle.world.specs.Standing.{unit_at, HasActivities, Here, IsWorld, Leads}
use Rattle.world.specs.Stepped.{IsSomewhere}
use Rattle.world.specs.Orders.{init_in}
use Rattle.world.specs.Images.{Filled, TellsDriver, TellsSome, placed, with_block, with_image, part_of, FillsHost, IsKnown, LoadsHost}
use Rattle.world.proofs.Callers.{arenas-at, memory-count}
use Rattle.world.proofs.ImageFacts.{IsLaid, derived-image}
use Rattle.world.proofs.LoadStates.{as-defined}
use Rattle.world.proofs.Steps.{memory-is, arenas-set}

-- ---- what is granted to the others

apart-test : (a b : ℕ) → b ≢ a → eqb a b ≡ false
apart-test a b apart = by (eqb a b) refl
  where
    by : (x : Bool) → eqb a b ≡ x → x ≡ false
    by true e = absurd (apart (let same : a ≡ b = grind (arith, nat_tests) in sym same))
    by false e = refl

block-others : (share owner : ℕ) (b : ImageBlock) (f : Filled) (o : ℕ) → o ≢ owner → granted (with_block share owner b f).history o ≡ granted f.history o
block-others share owner b f o apart = by (is_accepted share f.history owner (image_grant b)) refl
  where
    entered : granted (entry owner (image_grant b) ∷ f.history) o ≡ granted f.history o
    entered = ap (λ (x : Bool). cond x (blocks_after (image_grant b) (granted f.history o)) (granted f.history o)) (apart-test owner o apart)

    by : (x : Bool) → is_accepted share f.history owner (image_grant b) ≡ x → granted (with_block share owner b f).history o ≡ granted f.history o
    by true e = ap (λ (x : Bool). granted (cond x (placed owner b f) f).history o) e ∙ entered
    by false e = ap (λ (x : Bool). granted (cond x (placed owner b f) f).history o) e

image-others : (share owner : ℕ) (image : List ImageBlock) (f : Filled) (o : ℕ) → o ≢ owner → granted (with_image share owner image f).history o ≡ granted f.history o
image-others share owner [] f o apart = refl
image-others share owner (b ∷ bs) f o apart = image-others share owner bs (with_block share owner b f) o apart ∙ block-others share owner b f o apart

-- ---- the memories

-- with the same blocks a memory is the same
here : (h h' : History) (b : List ℕ) (o : ℕ) → granted h' o ≡ granted h o → memory_from o h b ≡ memory_from o h' b
here h h' b o same = ap (λ bs. record { bytes = b; granted = reverse (map range_of bs) }) (sym same)

module _ (h h' : History) (bytes : List ℕ) where
  later : (memories : List (List ℕ)) (from : ℕ) → ((o : ℕ) → from ≤ o → granted h' o ≡ granted h o) → memories_from from h memories ≡ memories_from from h' memories
  later [] from same = refl
  later (b ∷ more) from same =
      ap (λ (m : Memory). m ∷ memories_from (suc from) h more) (here h h' b from (same from (omega arith)))
      ∙ ap (λ (ms : List Memory). memory_from from h' b ∷ ms) (later more (suc from) (λ o after. same o (omega (arith, after))))

  -- one memory changed, and the blocks of its driver
  memories-filled : (memories : List (List ℕ)) (k from : ℕ) → k < length memories → ((o : ℕ) → o ≢ from + k → granted h' o ≡ granted h o)
      → slice_set (memories_from from h memories) k (memory_from (from + k) h' bytes) ≡ memories_from from h' (set memories k bytes)
  memories-filled [] k from within others = absurd (omega (arith, within))
  memories-filled (b ∷ more) zero from within others =
      ap (λ (o : ℕ). memory_from o h' bytes ∷ memories_from (suc from) h more) (omega arith)
      ∙ ap (λ (ms : List Memory). memory_from from h' bytes ∷ ms) (later more (suc from) (λ o after. others o (λ e. absurd (omega (arith, after, e)))))
  memories-filled (b ∷ more) (suc k) from within others =
      let next : suc from + k ≡ from + suc k = omega arith in
      ap (λ (o : ℕ). memory_from from h b ∷ slice_set (memories_from (suc from) h more) k (memory_from o h' bytes)) (sym next)
      ∙ ap (λ (ms : List Memory). memory_from from h b ∷ ms) (memories-filled more k (suc from) (omega (arith, within)) (λ o apart. others o (λ e. apart (e ∙ sym next))))
      ∙ ap (λ (m : Memory). m ∷ memories_from (suc from) h' (set more k bytes)) (here h h' b from (others from (λ e. absurd (omega (arith, e)))))

-- ---- the host with an image in its place

module _ (old new : Host) (owner : ℕ) (image : List ImageBlock) (some : 0 < owner)
    (places : (share : ℕ) (h : History) (memories : List (List ℕ)) (devices : Scripted) → IsHost share old h memories devices → owner ≤ length memories)
    (told : (share : ℕ) (f : Filled) → TellsDriver old.kernel (slice_index_or old.memories.items (owner - 1) cleared) share owner f
    → TellsDriver new.kernel (slice_index_or new.memories.items (owner - 1) cleared) share owner (with_image share owner image f))
    (others : new.memories.items ≡ slice_set old.memories.items (owner - 1) (slice_index_or new.memories.items (owner - 1) cleared))
    (devs : new.devices ≡ old.devices) where
  module _ (share : ℕ) (h : History) (memories : List (List ℕ)) (devices : Scripted) (is : IsHost share old h memories devices) where
    f : Filled
    f = part_of h memories owner

    -- the driver's part, before and after
    before : owner ≤ length memories → TellsDriver old.kernel (slice_index_or old.memories.items (owner - 1) cleared) share owner (part_of h memories owner)
    before within = record {
      holders = is.holders;
      lawful = is.lawful;
      proper = is.proper;
      tables = is.tables;
      clock = is.clock;
      memory = ap (λ ms. slice_index_or ms (owner - 1) cleared) is.bytes ∙ memory-is h memories owner (omega (arith, some)) within;
      sized = long owner some within;
    }
      where
        long : (o : ℕ) → 0 < o → o ≤ length memories → length (bytes_of memories o) ≡ 1048576
        long zero positive within = absurd (omega (arith, positive))
        long (suc k) positive within = arenas-at memories k (omega (arith, within)) is.sizes

    abbrev after : Filled
    after = with_image share owner image (part_of h memories owner)

    module _ (within : owner ≤ length memories) where
      now : TellsDriver new.kernel (slice_index_or new.memories.items (owner - 1) cleared) share owner after
      now = told share (part_of h memories owner) (before within)

      at-number : (k : ℕ) → owner ≡ suc k → (AreArenas (with_memory owner after.bytes memories)) × (new.memories.items ≡ memories_from 1 after.history (with_memory owner after.bytes memories))
      at-number k e =
          let place : owner - 1 ≡ k = omega (arith, e) in
          let number : owner ≡ 1 + k = omega (arith, e) in
          let inside : k < length memories = omega (arith, within, e) in
          let with : with_memory owner after.bytes memories ≡ set memories k after.bytes = ap (λ o. with_memory o after.bytes memories) e in
          let sized : length after.bytes ≡ length (get_or memories k []) = now.sized ∙ sym (arenas-at memories k inside is.sizes) in (
            subst AreArenas (sym with) (arenas-set memories k after.bytes inside sized is.sizes),
            others ∙ ap (λ m. slice_set old.memories.items (owner - 1) m) now.memory ∙ ap (λ i. slice_set old.memories.items i (memory_from owner after.history after.bytes)) place
                ∙ ap (λ ms. slice_set ms k (memory_from owner after.history after.bytes)) is.bytes
                ∙ ap (λ o. slice_set (memories_from 1 h memories) k (memory_from o after.history after.bytes)) number
                ∙ memories-filled h after.history after.bytes memories k 1 inside (λ o apart. image-others share owner image (part_of h memories owner) o (λ same. apart (same ∙ number)))
                ∙ ap (memories_from 1 after.history) (sym with),
          )

      filled : IsHost share new after.history (with_memory owner after.bytes memories) devices
      filled =
          let here = at-number (owner - 1) (omega (arith, some)) in
          record {
            holders = now.holders;
            lawful = now.lawful;
            proper = now.proper;
            tables = now.tables;
            sizes = here.0;
            bytes = here.1;
            answers = devs ∙ is.answers;
            clock = now.clock;
          }

  pub fills-host : FillsHost old owner image new
  fills-host = record { to = λ share h memories devices is. filled share h memories devices is (places share h memories devices is) }

-- the driver's part of what the host is known to stand for
pub known-part : (host : Host) (owner : ℕ) (known : HasMemory host owner) → TellsSome host.kernel (slice_index_or host.memories.items (owner - 1) cleared) owner
known-part host owner known =
    let some = known.some in
    record {
      share = known.share;
      filled = part_of known.history known.memories owner;
      tells = record {
        holders = known.is.holders;
        lawful = known.is.lawful;
        proper = known.is.proper;
        tables = known.is.tables;
        clock = known.is.clock;
        memory = ap (λ ms. slice_index_or ms (owner - 1) cleared) known.is.bytes ∙ memory-is known.history known.memories owner known.some known.within;
        sized = long owner known.some known.within;
      };
    }
  where
    long : (o : ℕ) → 1 ≤ o → o ≤ length known.memories → length (bytes_of known.memories o) ≡ 1048576
    long zero positive within = absurd (omega (arith, positive))
    long (suc k) positive within = arenas-at known.memories k (omega (arith, within)) known.is.sizes

-- each host that is one of a known count of memories has this one
pub each-place : (host : Host) (owner : ℕ) (known : HasMemory host owner) (share : ℕ) (h : History) (memories : List (List ℕ)) (devices : Scripted)
    → IsHost share host h memories devices → owner ≤ length memories
each-place host owner known share h memories devices is =
    let within = known.within in
    let one = memory-count known.share host known.history known.memories known.devices known.is in
    let other = memory-count share host h memories devices is in
    omega (arith, within, one, other)

-- ---- who has nothing has nothing left out

set-past : {A : Type 0} (xs : List A) (k : ℕ) (x : A) → length xs ≤ k → set xs k x ≡ xs
set-past [] k x past = refl
set-past (y ∷ xs) zero x past = absurd (omega (arith, past))
set-past (y ∷ xs) (suc k) x past = ap (λ ys. y ∷ ys) (set-past xs k x (omega (arith, past)))

get-past : (us : List CheckedUnit) (k : ℕ) → length us ≤ k → get_or us k no_unit ≡ no_unit
get-past [] k past = refl
get-past (u ∷ us) zero past = absurd (omega (arith, past))
get-past (u ∷ us) (suc k) past = get-past us k (omega (arith, past))

set-twice : {A : Type 0} (xs : List A) (k : ℕ) (x y : A) → set (set xs k x) k y ≡ set xs k y
set-twice [] k x y = refl
set-twice (z ∷ xs) zero x y = refl
set-twice (z ∷ xs) (suc k) x y = ap (λ ys. z ∷ ys) (set-twice xs k x y)

set-there : (xs : List (List ℕ)) (k : ℕ) (x : List ℕ) → k < length xs → get_or (set xs k x) k [] ≡ x
set-there [] k x within = absurd (omega (arith, within))
set-there (y ∷ xs) zero x within = refl
set-there (y ∷ xs) (suc k) x within = set-there xs k x (omega (arith, within))

-- the owners of a history are the kernel and four drivers
fifth : (owner o : ℕ) (u : Update) → is_proper o u ≡ true → 4 < owner → eqb o owner ≡ false
fifth owner o u proper far = by (eqb o 0) (ltb o 5) refl refl (eqb o owner) refl
  where
    by : (x y : Bool) → eqb o 0 ≡ x → ltb o 5 ≡ y → (z : Bool) → eqb o owner ≡ z → z ≡ false
    by x y ex ey false e = refl
    by true y ex ey true e = absurd (let zero_is : o ≡ 0 = grind (arith, nat_tests) in let same : o ≡ owner = grind (arith, nat_tests) in omega (arith, zero_is, same, far))
    by false true ex ey true e = absurd (let below : o < 5 = grind (arith, nat_tests) in let same : o ≡ owner = grind (arith, nat_tests) in omega (arith, below, same, far))
    by false false ex ey true e = absurd (no ex ey proper)
      where
        no : eqb o 0 ≡ false → ltb o 5 ≡ false → is_proper o u ≡ true → ⊥
        no ex ey proper = true≢false (sym proper ∙ (ap (λ (a : Bool). cond a (is_of_kernel u) (ltb o 5 && is_of_driver u)) ex ∙ ap (λ (a : Bool). a && is_of_driver u) ey))

without-far : (h : History) (owner : ℕ) → 4 < owner → IsProper h → Without h owner ≡ h
without-far [] owner far proper = refl
without-far (e ∷ h) owner far proper =
    ap (λ (x : Bool). kept e (Without h owner) (not x)) (fifth owner e.owner e.update proper.0 far) ∙ ap (λ (r : History). e ∷ r) (without-far h owner far proper.1)
  where
    kept : Entry → History → Bool → History
    kept e r x = cond x (e ∷ r) r

-- ---- the load state

module _ (units : List CheckedUnit) where
  pub loads-nobody : (host : Host) → LoadsHost units host 0 host
  loads-nobody host = record { to = λ share h memories devices is count. is }

  pub loads-far : (host : Host) (driver : ℕ) → 4 < driver → length units ≤ 4 → LoadsHost units host driver host
  loads-far host zero far few = absurd (omega (arith, far))
  loads-far host (suc k) far few = record {
    to = λ share h memories devices is count.
        let unit : unit_at units (suc k) ≡ no_unit = get-past units k (omega (arith, far, few)) in
        let history : Without h (suc k) ≡ h = without-far h (suc k) far is.proper in
        let bytes : set memories k (image_memory no_unit) ≡ memories = set-past memories k (image_memory no_unit) (omega (arith, far, few, count)) in
        subst (λ (u : CheckedUnit). IsHost share host (image_granted share (suc k) u.image (Without h (suc k))) (set memories k (image_memory u)) devices) (sym unit)
        (subst (λ (x : History). IsHost share host x (set memories k (image_memory no_unit)) devices) (sym history)
        (subst (λ (ms : List (List ℕ)). IsHost share host h ms devices) (sym bytes) is));
  }

  -- there is no such driver
  pub loads-unknown : (old new : Host) (driver : ℕ) → TakesBack old driver new → unit_at units driver ≡ no_unit → LoadsHost units old driver new
  loads-unknown old new driver taken unit = record {
    to = λ share h memories devices is count.
        subst (λ (u : CheckedUnit). IsHost share new (image_granted share driver u.image (without_driver driver h)) (with_memory driver (image_memory u) memories) devices) (sym unit)
        (taken.moves.to share h memories devices is);
  }

  -- its memory is empty, and it has nothing
  module _ (old mid new : Host) (k : ℕ) (few : suc k ≤ 4) (unit : CheckedUnit) (laid : IsLaid unit.image) (within : suc k ≤ length units)
      (taken : TakesBack old (suc k) mid) (fills : FillsHost mid (suc k) unit.image new) where
    loaded : (share : ℕ) (h : History) (memories : List (List ℕ)) (devices : Scripted) → IsHost share old h memories devices → length memories ≡ length units
        → IsHost share new (image_granted share (suc k) unit.image (Without h (suc k))) (set memories k (copied_in unit.image empty_arena)) devices
    loaded share h memories devices is count =
        let empty : bytes_of (set memories k empty_arena) (suc k) ≡ empty_arena = set-there memories k empty_arena (omega (arith, within, count)) in
        let f : Filled = part_of (Without h (suc k)) (set memories k empty_arena) (suc k) in
        let same = as-defined share (suc k) (omega arith) few unit.image (part_of (Without h (suc k)) (set memories k empty_arena) (suc k)) laid
        (granted-Without_same h (suc k)) (ap length empty ∙ empty-length) in
        subst (λ (ms : List (List ℕ)). IsHost share new (image_granted share (suc k) unit.image (Without h (suc k))) ms devices)
        (set-twice memories k empty_arena (copied_in unit.image (bytes_of (set memories k empty_arena) (suc k))) ∙ ap (λ (bs : List ℕ). set memories k (copied_in unit.image bs)) empty)
        (subst (λ (x : Filled). IsHost share new x.history (set (set memories k empty_arena) k x.bytes) devices) same
        (fills.to share (Without h (suc k)) (set memories k empty_arena) devices (taken.moves.to share h memories devices is)))

  pub loads-known : (old mid new : Host) (driver : ℕ) → 0 < driver → driver ≤ 4 → (unit : CheckedUnit) → IsDerivedUnit unit → unit_at units driver ≡ unit → driver ≤ length units
      → TakesBack old driver mid → FillsHost mid driver unit.image new → LoadsHost units old driver new
  loads-known old mid new zero some few unit derived is within taken fills = absurd (omega (arith, some))
  loads-known old mid new (suc k) some few unit derived is within taken fills = record {
    to = λ share h memories devices host count.
        subst (λ (u : CheckedUnit). IsHost share new (image_granted share (suc k) u.image (Without h (suc k))) (set memories k (image_memory u)) devices) (sym is)
        (loaded old mid new k few unit (derived-image unit derived) within taken fills share h memories devices host count);
  }

  -- the host in between
  pub known-after : (old mid : Host) (driver : ℕ) → 0 < driver → driver ≤ 4 → driver ≤ length units → IsKnown units old → TakesBack old driver mid → HasMemory mid driver
  known-after old mid driver some few within known taken =
      let count = known.count in
      let many = length-with_owner known.memories driver empty_arena in
      record {
        share = known.share;
        history = without_driver driver known.history;
        memories = with_memory driver empty_arena known.memories;
        devices = known.devices;
        is = taken.moves.to known.share known.history known.memories known.devices known.is;
        some = omega (arith, some);
        within = omega (arith, within, count, many);
        few = few;
      }

  pub known-somewhere : (live : Live) → IsSomewhere units live → IsKnown units live.ground.host
  known-somewhere live somewhere =
      let s = somewhere.good.state in
      let is = somewhere.good.is in
      record { share = s.plan.share; history = s.history; memories = s.memories; devices = s.devices; is = is.ground.host; count = is.memories; few = is.few }

-- ---- the world

grants-all : (driver : ℕ) (image : List ImageBlock) (s : WorldState) →
    does (grants_image driver image) s ≡ record s { history = image_granted s.plan.share driver image s.history }
grants-all driver [] s = refl
grants-all driver (b ∷ bs) s = grants-all driver bs (record s { history = updated s.plan.share driver (image_grant b) s.history })

-- the world before `init` begins
abbrev loaded_state : List CheckedUnit → ℕ → WorldState → WorldState
loaded_state units driver s = record s {
  history = image_granted s.plan.share driver (of_owner no_unit units driver).image (without_driver driver s.history);
  memories = with_memory driver (image_memory (of_owner no_unit units driver)) s.memories;
}

loads-is : (plan : Plan) (driver task : ℕ) (s : WorldState)
    → does (begins_init plan driver task (init_of (unit_of plan driver))) (loaded_state plan.drivers driver s) ≡ does (loads plan driver task) s
unfolding loads
loads-is plan driver task s = ap (does (begins_init plan driver task (init_of (unit_of plan driver))))
    (sym (grants-all driver (unit_of plan driver).image (record s {
      history = without_driver driver s.history;
      memories = with_memory driver (image_memory (unit_of plan driver)) s.memories;
    })))

pub leads-loads : {units : List CheckedUnit} {a b c : Here} (driver task : ℕ) → LoadsHost units a.live.ground.host driver b.live.ground.host
    → b.live.ground.run ≡ a.live.ground.run → b.live.machine ≡ a.live.machine → b.told ≡ a.told
    → Leads units b c (by_plan (λ plan. begins_init plan driver task (init_in units driver))) → Leads units a c (by_plan (λ plan. loads plan driver task))
leads-loads {units} {a} {b} {c} driver task loads_it run machine told begins = record {
  to = λ first faults s is.
      let between : IsWorld units b first faults (loaded_state units driver s) = record {
        drivers = is.drivers;
        few = is.few;
        memories = length-with_owner s.memories driver (image_memory (unit_at units driver)) ∙ is.memories;
        ground = record {
          run = run ∙ is.ground.run;
          host = loads_it.to s.plan.share s.history s.memories s.devices is.ground.host is.memories;
          told = subst (λ o. IsTold o first faults s.said) (sym told) is.ground.told;
        };
        activities = subst (λ m. HasActivities units m s.tasks) (sym machine) is.activities;
      } in
      subst (IsWorld units c first faults) (loads-is s.plan driver task s)
      (subst (λ (us : List CheckedUnit). IsWorld units c first faults (does (begins_init s.plan driver task (init_of (of_owner no_unit us driver))) (loaded_state us driver s)))
      (sym is.drivers) (begins.to first faults (loaded_state units driver s) between));
}
