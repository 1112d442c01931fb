-- What a kernel call finds at its driver's place.
-- Here: any-default, arenas-at, at-place, places, memory-long, block-fits, memory-there
use Rattle.std.proofs.Common.{◌≡◌, ℕ, zero, suc, ◌-◌, ◌<◌, ◌≤◌, List, [], ◌∷◌, length, map, get_or, refl, sym, ap, ◌∙◌, subst, arith}
use Rattle.std.specs.Prelude.{slice_index_or}
use Rattle.std.proofs.lemmas.List.{length-reverse, length-map}
use Rattle.sd_base.specs.declared.actors.Fat.{Fat}
use Rattle.sd_base.specs.declared.actors.Who.{Who}
use Rattle.sd_base.specs.History.{History}
use Rattle.sd_base.specs.Blocks.{granted}
use Rattle.sd_base.specs.Allowed.{IsLawful}
use Rattle.byte_memory.specs.Tested.{Memory}
use Rattle.device_model.specs.Scripted.{Scripted}
use Rattle.checked_tree.specs.declared.kernel.KernelCall.{KernelCall}
use Rattle.update_tracker.specs.Tracking.{TrackedRows}
use Rattle.wrappers.specs.declared.call_out.CallOut.TheVariants.{Pointer}
use Rattle.wrappers.specs.InStep.{range_of, FitsArena, IsInStep}
use Rattle.wrappers.specs.Serving.{IsServed, ServesCall}
use Rattle.wrappers.specs.Rows.{served}
use Rattle.wrappers.proofs.CallsInStep.{each_in_step}
use Rattle.driver_host.specs.declared.host.Host.{Host}
use Rattle.driver_host.specs.Hosting.{IsHost, cleared, AreArenas}
use Rattle.driver_host.proofs.Hosting.{memories-length}
use Rattle.world_core.specs.WorldState.{memory_of, bytes_of}
use Rattle.world.specs.Asking.{HasMemory}
use Rattle.world.proofs.Steps.{memory-is}

-- what stands at a place that there is does not hang on what would stand at another
pub any-default : {A : Type 0} (xs : List A) (k : ℕ) (x y : A) → k < length xs → get_or xs k x ≡ get_or xs k y
any-default [] k x y within = absurd (omega (arith, within))
any-default (z ∷ xs) zero x y within = refl
any-default (z ∷ xs) (suc k) x y within = any-default xs k x y (omega (arith, within))

pub arenas-at : (memories : List (List ℕ)) (k : ℕ) → k < length memories → AreArenas memories → length (get_or memories k []) ≡ 1048576
arenas-at [] k within all = absurd (omega (arith, within))
arenas-at (b ∷ more) zero within all = all.0
arenas-at (b ∷ more) (suc k) within all = arenas-at more k (omega (arith, within)) all.1

-- the host has as many memories as the world
pub memory-count : (share : ℕ) (host : Host) (h : History) (memories : List (List ℕ)) (devices : Scripted) → IsHost share host h memories devices
    → length host.memories.items ≡ length memories
memory-count share host h memories devices is = ap length is.bytes ∙ memories-length h memories 1

module _ (host : Host) (owner : ℕ) (known : HasMemory host owner) where
  pub places : owner ≤ length host.memories.items
  places = subst (λ n. owner ≤ n) (sym (memory-count known.share host known.history known.memories known.devices known.is)) known.within

  pub place-within : owner - 1 < length host.memories.items
  place-within = let some = known.some in omega (arith, places, some)

  memory-now-is : slice_index_or host.memories.items (owner - 1) cleared ≡ memory_of known.history known.memories owner
  memory-now-is = ap (λ ms. slice_index_or ms (owner - 1) cleared) known.is.bytes ∙ memory-is known.history known.memories owner known.some known.within

  owner-long : (o : ℕ) → 1 ≤ o → o ≤ length known.memories → length (bytes_of known.memories o) ≡ 1048576
  owner-long zero some within = absurd (omega (arith, some))
  owner-long (suc k) some within = arenas-at known.memories k (omega (arith, within)) known.is.sizes

  pub memory-long : length (slice_index_or host.memories.items (owner - 1) cleared).bytes ≡ 1048576
  memory-long = ap (λ m. length m.bytes) memory-now-is ∙ owner-long owner known.some known.within

-- what is read at the place is the driver's memory
pub at-place : (host : Host) (owner place : ℕ) (ms : List Memory) (m : Memory) → HasMemory host owner → place ≡ owner → ms ≡ host.memories.items
    → m ≡ slice_index_or ms (place - 1) m → m ≡ slice_index_or host.memories.items (owner - 1) cleared
at-place host owner place ms m known here same is =
    is ∙ ap (λ xs. slice_index_or xs (place - 1) m) same ∙ ap (λ n. slice_index_or host.memories.items (n - 1) m) here
    ∙ any-default host.memories.items (owner - 1) m cleared (place-within host owner known)

-- a block that is answered fits
module _ (host : Host) (who : Who) (call : KernelCall) (p : Fat) (new : TrackedRows) (known : HasMemory host who.owner) (task : who.task ≤ 8)
    (serves : ServesCall host.kernel (slice_index_or host.memories.items (who.owner - 1) cleared) host.devices who call (Pointer p) new) where
  m : Memory
  m = slice_index_or host.memories.items (who.owner - 1) cleared

  one : IsServed host.kernel who.owner known.history (served host.kernel.kernel.claims.share known.history (slice_index_or host.memories.items (who.owner - 1) cleared) host.devices who call) (Pointer p) new
  one = serves known.history (subst (λ n. IsLawful n known.history) (sym known.is.holders) known.is.lawful) known.is.proper known.is.tables

  in-step : IsInStep host.kernel.kernel.claims.share known.history who.owner
      (served host.kernel.kernel.claims.share known.history (slice_index_or host.memories.items (who.owner - 1) cleared) host.devices who call)
  in-step = let some = known.some in each_in_step host.kernel.kernel.claims.share known.history who (omega (arith, some)) known.few task (slice_index_or host.memories.items (who.owner - 1) cleared) host.devices call

  fits : FitsArena (granted known.history who.owner) (Pointer p)
  fits = subst (FitsArena (granted known.history who.owner)) (sym one.answer) in-step.fits

  granted-count : length (slice_index_or host.memories.items (who.owner - 1) cleared).granted ≡ length (granted known.history who.owner)
  granted-count = ap (λ x. length x.granted) (memory-now-is host who.owner known)
      ∙ length-reverse (map range_of (granted known.history who.owner)) ∙ length-map (granted known.history who.owner) range_of

  pub block-room : p.lo < p.hi → length (slice_index_or host.memories.items (who.owner - 1) cleared).granted < 4096
  block-room some = subst (λ n. n < 4096) (sym granted-count) (fits some).0

  pub block-within : p.lo < p.hi → p.hi ≤ length (slice_index_or host.memories.items (who.owner - 1) cleared).bytes
  block-within some = subst (λ n. p.hi ≤ n) (sym (memory-long host who.owner known)) (fits some).1
