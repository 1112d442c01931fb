-- Who may take the front of the queue.
use Rattle.std.proofs.Common.{◌≡◌, ◌≢◌, ℕ, false, reverse, List, [], ◌∷◌, Option, Some, None, refl, ap, sym, ◌∙◌, arith}
use Rattle.std.proofs.lemmas.Bool.Decides.{nat_tests}
use Rattle.std.proofs.lemmas.List.{reverse-reverse}
use Rattle.std.specs.Prelude.{slice_get}
use Rattle.std.specs.List.{list_any, filter_map}
use Rattle.sd_base.specs.declared.history.Refusal.TheVariants.{Bad}
use Rattle.sd_base.specs.declared.history.Update.{Update}
use Rattle.sd_base.specs.declared.history.Update.TheVariants.{Work as Queues, Taken}
use Rattle.sd_base.specs.Selection.{find_last}
use Rattle.sd_base.specs.History.{Entry, work_key, entry, has_key, live_of}
use Rattle.sd_base.specs.Allowed.{unless_owner}
use Rattle.sd_base.specs.Part.{Serves}
use Rattle.share_table.specs.declared.queue.Work.{Work}
use Rattle.share_table.specs.Queue.{work_row_of, work_row}
use Rattle.share_table.specs.Rows.{ShareRows}
use Rattle.share_table.specs.Table.{HoldsShares}
use Rattle.share_table.proofs.Parts.{takes_front}

-- where no row is, no entry queued anything
row_there_of : (by : ℕ) (u : Update) → work_row_of by u ≡ None → has_key work_key (entry by u) ≡ false
row_there_of by (Queues handler arg) h = cc
row_there_of by _ h = refl

none_queued : (live : List Entry) → filter_map work_row live ≡ [] → (list_any (has_key work_key) live ≡ false) × (find_last (has_key work_key) live ≡ None)
none_queued [] h = (refl, refl)
none_queued (e ∷ live) h =
    elim (work_row e) as (λ o. work_row e ≡ o → (list_any (has_key work_key) (e ∷ live) ≡ false) × (find_last (has_key work_key) (e ∷ live) ≡ None)) [
      | None ↦ λ is. (
          let mine : has_key work_key e ≡ false = row_there_of e.owner e.update is in
          let rest = none_queued live (grind arith) in
          (grind (arith, rest.0), grind (arith, rest.0, rest.1)))
      | Some w ↦ λ is. (let listed : filter_map work_row (e ∷ live) ≡ w ∷ filter_map work_row live = grind arith in cc (sym h ∙ listed))
    ] refl

no_front : (items : List Work) → None ≡ slice_get items 0 → items ≡ []
no_front [] h = refl
no_front (work ∷ items) h = cc

front_is : (items : List Work) (work : Work) → Some work ≡ slice_get items 0 → (rest : List Work) × (items ≡ work ∷ rest)
front_is [] work h = cc
front_is (x ∷ items) work h = (items, grind arith)

is_refused : Some Bad ≡ None → ⊥
is_refused h = cc h

-- nobody takes from an empty queue
pub empty_refuses : (t : ShareRows) (owner : ℕ) → None ≡ slice_get t.work 0 → Serves HoldsShares t owner Taken (Some Bad) t
empty_refuses t owner none share h lawful proper holds =
    let rows = filter_map work_row (live_of h) in
    let back : reverse rows ≡ [] = sym holds.work ∙ no_front t.work none in
    let nothing : rows ≡ [] = sym (reverse-reverse rows) ∙ ap reverse back in
    (sym (ap (unless_owner owner) (none_queued (live_of h) nothing).1), λ ok. absurd (is_refused ok))

front_owner : (o : Option Entry) (a b : ℕ) → a ≢ b → None ≡ unless_owner a o → Some Bad ≡ unless_owner b o
front_owner None a b apart h = cc
front_owner (Some e) a b apart h = grind (arith, nat_tests)

-- nobody takes another's item
pub others_refuses : (t : ShareRows) (owner : ℕ) (work : Work) → Some work ≡ slice_get t.work 0 → work.owner ≢ owner → Serves HoldsShares t owner Taken (Some Bad) t
others_refuses t owner work some apart share h lawful proper holds =
    let front = front_is t.work work some in
    let own = (takes_front t work front.0 front.1).1 share h lawful proper holds in
    (front_owner (find_last (has_key work_key) (live_of h)) work.owner owner apart own.0, λ ok. absurd (is_refused ok))
