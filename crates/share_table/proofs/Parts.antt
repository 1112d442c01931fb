-- The whole table, from what is proved of each of its four parts: an update of one kind leaves the parts of the others.
use Rattle.std.proofs.Common.{◌≡◌, ℕ, Bool, false, List, ◌∷◌, Option, Some, None, refl}
use Rattle.sd_base.specs.declared.actors.Who.{Who}
use Rattle.sd_base.specs.declared.history.Refusal.{Refusal}
use Rattle.sd_base.specs.declared.history.Update.{Update}
use Rattle.sd_base.specs.declared.history.Update.TheVariants.{Taken}
use Rattle.sd_base.specs.History.{OfLocks, OfMasks, OfHolds, OfWork, Key, same_resource, key_of, entry, live_of}
use Rattle.sd_base.specs.Part.{Serves, Loses}
use Rattle.share_table.specs.declared.queue.Work.{Work}
use Rattle.share_table.specs.Locks.{HoldsLocks}
use Rattle.share_table.specs.Masks.{HoldsMasks}
use Rattle.share_table.specs.Holds.{HoldsHolds}
use Rattle.share_table.specs.Queue.{HoldsWork}
use Rattle.share_table.specs.Rows.{ShareRows}
use Rattle.share_table.specs.Table.{HoldsShares, TakesFront}
use Rattle.share_table.proofs.Locked.{locks-after, locks-without}
use Rattle.share_table.proofs.Masked.{masks-after, masks-without}
use Rattle.share_table.proofs.Held.{holds-after, holds-without}
use Rattle.share_table.proofs.Queued.{work-after, work-without, serves_take}

pub with_locks : (v : ShareRows) (new : List (Option Who)) (owner : ℕ) (u : Update) (answer : Option Refusal) →
    same_resource (key_of u).resource OfMasks ≡ false → same_resource (key_of u).resource OfHolds ≡ false → same_resource (key_of u).resource OfWork ≡ false →
    Serves HoldsLocks v.locks owner u answer new → Serves HoldsShares v owner u answer (record v { locks = new })
with_locks v new owner u answer m d w serves share h lawful proper holds =
    let s = serves share h lawful proper holds.locks in (
      s.0,
      λ ok. record {
        locks = s.1 ok;
        masks = masks-after v.masks (entry owner u) (live_of h) m holds.masks;
        holds = holds-after v.holds (entry owner u) (live_of h) d holds.holds;
        work = work-after v.work (entry owner u) (live_of h) w holds.work;
      },
    )

pub with_masks : (v : ShareRows) (new : List Bool) (owner : ℕ) (u : Update) (answer : Option Refusal) →
    same_resource (key_of u).resource OfLocks ≡ false → same_resource (key_of u).resource OfHolds ≡ false → same_resource (key_of u).resource OfWork ≡ false →
    Serves HoldsMasks v.masks owner u answer new → Serves HoldsShares v owner u answer (record v { masks = new })
with_masks v new owner u answer l d w serves share h lawful proper holds =
    let s = serves share h lawful proper holds.masks in (
      s.0,
      λ ok. record {
        locks = locks-after v.locks (entry owner u) (live_of h) l holds.locks;
        masks = s.1 ok;
        holds = holds-after v.holds (entry owner u) (live_of h) d holds.holds;
        work = work-after v.work (entry owner u) (live_of h) w holds.work;
      },
    )

pub with_holds : (v : ShareRows) (new : List ℕ) (owner : ℕ) (u : Update) (answer : Option Refusal) →
    same_resource (key_of u).resource OfLocks ≡ false → same_resource (key_of u).resource OfMasks ≡ false → same_resource (key_of u).resource OfWork ≡ false →
    Serves HoldsHolds v.holds owner u answer new → Serves HoldsShares v owner u answer (record v { holds = new })
with_holds v new owner u answer l m w serves share h lawful proper holds =
    let s = serves share h lawful proper holds.holds in (
      s.0,
      λ ok. record {
        locks = locks-after v.locks (entry owner u) (live_of h) l holds.locks;
        masks = masks-after v.masks (entry owner u) (live_of h) m holds.masks;
        holds = s.1 ok;
        work = work-after v.work (entry owner u) (live_of h) w holds.work;
      },
    )

pub with_work : (v : ShareRows) (new : List Work) (owner : ℕ) (u : Update) (answer : Option Refusal) →
    same_resource (key_of u).resource OfLocks ≡ false → same_resource (key_of u).resource OfMasks ≡ false → same_resource (key_of u).resource OfHolds ≡ false →
    Serves HoldsWork v.work owner u answer new → Serves HoldsShares v owner u answer (record v { work = new })
with_work v new owner u answer l m d serves share h lawful proper holds =
    let s = serves share h lawful proper holds.work in (
      s.0,
      λ ok. record {
        locks = locks-after v.locks (entry owner u) (live_of h) l holds.locks;
        masks = masks-after v.masks (entry owner u) (live_of h) m holds.masks;
        holds = holds-after v.holds (entry owner u) (live_of h) d holds.holds;
        work = s.1 ok;
      },
    )

pub takes_front : (v : ShareRows) (work : Work) (rest : List Work) → v.work ≡ work ∷ rest → TakesFront v (Some work) (record v { work = rest })
takes_front v work rest is = (is, with_work v rest work.owner Taken None refl refl refl (serves_take v.work rest work is))

pub lose_lock : (v : ShareRows) (new : List (Option Who)) (owner : ℕ) (key : Key) → same_resource key.resource OfMasks ≡ false → same_resource key.resource OfHolds ≡ false →
    same_resource key.resource OfWork ≡ false → Loses HoldsLocks v.locks owner key new → Loses HoldsShares v owner key (record v { locks = new })
lose_lock v new owner key m d w loses live sound holds = record {
  locks = loses live sound holds.locks;
  masks = masks-without v.masks owner key live m holds.masks;
  holds = holds-without v.holds owner key live d holds.holds;
  work = work-without v.work owner key live w holds.work;
}

pub lose_mask : (v : ShareRows) (new : List Bool) (owner : ℕ) (key : Key) → same_resource key.resource OfLocks ≡ false → same_resource key.resource OfHolds ≡ false →
    same_resource key.resource OfWork ≡ false → Loses HoldsMasks v.masks owner key new → Loses HoldsShares v owner key (record v { masks = new })
lose_mask v new owner key l d w loses live sound holds = record {
  locks = locks-without v.locks owner key live l holds.locks;
  masks = loses live sound holds.masks;
  holds = holds-without v.holds owner key live d holds.holds;
  work = work-without v.work owner key live w holds.work;
}

pub lose_hold : (v : ShareRows) (new : List ℕ) (owner : ℕ) (key : Key) → same_resource key.resource OfLocks ≡ false → same_resource key.resource OfMasks ≡ false →
    same_resource key.resource OfWork ≡ false → Loses HoldsHolds v.holds owner key new → Loses HoldsShares v owner key (record v { holds = new })
lose_hold v new owner key l m w loses live sound holds = record {
  locks = locks-without v.locks owner key live l holds.locks;
  masks = masks-without v.masks owner key live m holds.masks;
  holds = loses live sound holds.holds;
  work = work-without v.work owner key live w holds.work;
}

pub lose_work : (v : ShareRows) (new : List Work) (owner : ℕ) (key : Key) → same_resource key.resource OfLocks ≡ false → same_resource key.resource OfMasks ≡ false →
    same_resource key.resource OfHolds ≡ false → Loses HoldsWork v.work owner key new → Loses HoldsShares v owner key (record v { work = new })
lose_work v new owner key l m d loses live sound holds = record {
  locks = locks-without v.locks owner key live l holds.locks;
  masks = masks-without v.masks owner key live m holds.masks;
  holds = holds-without v.holds owner key live d holds.holds;
  work = loses live sound holds.work;
}
