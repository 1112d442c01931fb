-- A history goes on: what tracked tables stand for after an accepted update.
use Rattle.std.proofs.Common.{◌≡◌, ℕ, zero, suc, ◌≤◌, true, false, eqb, List, [], ◌∷◌, length, get_or, set, replicate, Option, Some, None, Ok, refl, ap, sym, ◌∙◌, subst, arith, length-set, get_or-set_same, get_or-set_other}
use Rattle.std.proofs.lemmas.Bool.Decides.{nat_tests}
use Rattle.std.proofs.lemmas.List.{get_or_default, length-reverse}
use Rattle.std.specs.Prelude.{OnOk}
use Rattle.sd_base.specs.declared.history.Refusal.{Refusal}
use Rattle.sd_base.specs.declared.history.Update.{Update}
use Rattle.sd_base.specs.declared.history.Update.TheVariants.{Grant}
use Rattle.sd_base.specs.History.{History, entry, live_of, clock_of}
use Rattle.sd_base.specs.Blocks.{next_base, granted}
use Rattle.sd_base.specs.Allowed.{refusal, is_proper, IsLawful, IsProper}
use Rattle.sd_base.proofs.SoundLive.{lawful_sound}
use Rattle.grant_table.proofs.GrantPartKept.{granted-live_of}
use Rattle.kernel_tables.specs.declared.kernel.Kernel.{Kernel}
use Rattle.kernel_tables.specs.Standing.{StandsFor}
use Rattle.update_tracker.specs.declared.undo.Reply.{Reply}
use Rattle.update_tracker.specs.declared.undo.Reply.TheVariants.{Base}
use Rattle.update_tracker.specs.declared.undo.Undo.{Undo}
use Rattle.update_tracker.specs.NetRows.{NetRows, no_rows, noted}
use Rattle.update_tracker.specs.NetPart.{ShowsNet, block_items, notes_of}
use Rattle.update_tracker.specs.Places.{HasRoom}
use Rattle.update_tracker.specs.Answered.{Answer, unless, reply_to, ServesKernel}
use Rattle.update_tracker.specs.Tracking.{TrackedRows, Stands, HasHistory, ServesTracked}
use Rattle.update_tracker.proofs.Bounds.{few_notes, few_block_items}
use Rattle.update_tracker.proofs.NetShown.{RepliesWell, own_shows, others_shows}

-- an owner of a proper update is one of five
pub proper_owner : (owner : ℕ) (u : Update) → is_proper owner u ≡ true → owner ≤ 4
proper_owner owner u h = grind (arith, nat_tests)

-- The beginning.

get_none : (n i : ℕ) → get_or (replicate n no_rows) i no_rows ≡ no_rows
get_none zero i = refl
get_none (suc n) zero = refl
get_none (suc n) (suc i) = get_none n i

shows_nothing : (owner : ℕ) (rows : NetRows) → rows ≡ no_rows → ShowsNet owner rows []
shows_nothing owner rows is = subst (λ r. ShowsNet owner r []) (sym is) (record { blocks = refl; notes = refl })

begins : (kernel : Kernel) (undone : List Undo) → StandsFor kernel [] → Stands (record { kernel = kernel; logs = replicate 5 no_rows; undone = undone }) []
begins kernel undone stands = record {
  kernel = stands;
  logs = λ owner few. shows_nothing owner (get_or (replicate 5 no_rows) owner no_rows) (get_none 5 owner);
}

first_history : (kernel : Kernel) (undone : List Undo) → StandsFor kernel [] → HasHistory (record { kernel = kernel; logs = replicate 5 no_rows; undone = undone })
first_history kernel undone stands = record { history = []; lawful = tt; proper = tt; stands = begins kernel undone stands; places = refl }

-- five logs of nothing
pub five : (a b c d e : NetRows) → a ≡ no_rows → b ≡ no_rows → c ≡ no_rows → d ≡ no_rows → e ≡ no_rows → a ∷ b ∷ c ∷ d ∷ e ∷ [] ≡ replicate 5 no_rows
five a b c d e ha hb hc hd he = rw ha (rw hb (rw hc (rw hd (rw he refl))))

pub begins_with : (kernel : Kernel) (logs : List NetRows) (undone : List Undo) → logs ≡ replicate 5 no_rows → StandsFor kernel [] → Stands (record { kernel = kernel; logs = logs; undone = undone }) []
begins_with kernel logs undone is stands = subst (λ l. Stands (record { kernel = kernel; logs = l; undone = undone }) []) (sym is) (begins kernel undone stands)

pub first_with : (kernel : Kernel) (logs : List NetRows) (undone : List Undo) → logs ≡ replicate 5 no_rows → StandsFor kernel [] → HasHistory (record { kernel = kernel; logs = logs; undone = undone })
first_with kernel logs undone is stands = subst (λ l. HasHistory (record { kernel = kernel; logs = l; undone = undone })) (sym is) (first_history kernel undone stands)

-- One update more.

-- an answer that is a reply comes of no refusal, and is the history's
is_accepted : (r : Option Refusal) (reply wanted : Reply) (answer : Answer) → answer ≡ Ok reply → answer ≡ unless r wanted → (r ≡ None) × (reply ≡ wanted)
is_accepted None reply wanted answer is same = (refl, cc (sym is ∙ same))
is_accepted (Some x) reply wanted answer is same = cc

replies_well : (h : History) (owner : ℕ) (u : Update) (reply : Reply) → reply ≡ reply_to h owner u → RepliesWell u reply (next_base (granted (live_of h) owner))
replies_well h owner (Grant layout n image) reply is =
    let base : reply ≡ Base (next_base (granted h owner)) = is in
    subst (λ r. RepliesWell (Grant layout n image) r (next_base (granted (live_of h) owner))) (sym base) (ap next_base (sym (granted-live_of h owner)))
replies_well h owner _ reply is = tt

-- what is known of a history after which the kernel accepted an update
pub record Accepts (share : ℕ) (kernel : Kernel) (owner : ℕ) (u : Update) (reply : Reply) (h : History) : Type 0 where
  pub allowed : refusal share h owner u ≡ None
  pub replied : reply ≡ reply_to h owner u
  pub stands : StandsFor kernel (entry owner u ∷ h)

pub accepts : (old new : Kernel) (owner : ℕ) (u : Update) (answer : Answer) (reply : Reply) (h : History) → ServesKernel old owner u answer new → answer ≡ Ok reply → IsLawful old.claims.share h → IsProper h → StandsFor old h →
    Accepts old.claims.share new owner u reply h
accepts old new owner u answer reply h serves is lawful proper stands =
    let served = serves h lawful proper stands in
    let ok = is_accepted (refusal old.claims.share h owner u) reply (reply_to h owner u) answer is served.0 in
    record { allowed = ok.0; replied = ok.1; stands = subst (λ a. OnOk a (StandsFor new (entry owner u ∷ h))) is served.1 }

-- the log of the owner, as its part of the longer history
own_log : (share owner : ℕ) (u : Update) (reply : Reply) (rows : NetRows) (kernel : Kernel) (h : History) → IsLawful share h → IsProper h → Accepts share kernel owner u reply h → ShowsNet owner rows (live_of h) →
    ShowsNet owner (noted u reply rows) (live_of (entry owner u ∷ h))
own_log share owner u reply rows kernel h lawful proper ok shows =
    own_shows share owner u reply rows (live_of h) (clock_of h) (lawful_sound share h proper lawful) ok.allowed (replies_well h owner u reply ok.replied) shows

logs_next : (logs : List NetRows) (owner : ℕ) (u : Update) (rows : NetRows) (h : History) → length logs ≡ 5 → owner ≤ 4 → ShowsNet owner rows (live_of (entry owner u ∷ h)) →
    ((p : ℕ) → p ≤ 4 → ShowsNet p (get_or logs p no_rows) (live_of h)) → (p : ℕ) → p ≤ 4 → ShowsNet p (get_or (set logs owner rows) p no_rows) (live_of (entry owner u ∷ h))
logs_next logs owner u rows h places fits mine shows p few =
    elim (eqb owner p) as (λ b. eqb owner p ≡ b → ShowsNet p (get_or (set logs owner rows) p no_rows) (live_of (entry owner u ∷ h))) [
      | true ↦ λ here.
          let same : owner ≡ p = grind (arith, nat_tests) in
          subst (λ n. ShowsNet n (get_or (set logs owner rows) n no_rows) (live_of (entry owner u ∷ h))) same
          (subst (λ r. ShowsNet owner r (live_of (entry owner u ∷ h))) (sym (get_or-set_same logs owner rows no_rows (omega arith))) mine)
      | false ↦ λ there.
          let other : (p ≡ owner → ⊥) = λ e. grind (arith, nat_tests) in
          subst (λ r. ShowsNet p r (live_of (entry owner u ∷ h))) (sym (get_or-set_other logs owner p rows no_rows other))
          (others_shows p (get_or logs p no_rows) (entry owner u) (live_of h) there (shows p few))
    ] refl

pub goes_on : (share : ℕ) (t : TrackedRows) (kernel : Kernel) (owner : ℕ) (u : Update) (reply : Reply) (rows d : NetRows) (h : History) → length t.logs ≡ 5 → owner ≤ 4 → rows ≡ noted u reply (get_or t.logs owner d) →
    IsLawful share h → IsProper h → Stands t h → Accepts share kernel owner u reply h → Stands (record { kernel = kernel; logs = set t.logs owner rows; undone = t.undone }) (entry owner u ∷ h)
goes_on share t kernel owner u reply rows d h places fits is lawful proper stands ok =
    let own : get_or t.logs owner d ≡ get_or t.logs owner no_rows = get_or_default t.logs owner d no_rows (omega arith) in
    let mine : ShowsNet owner rows (live_of (entry owner u ∷ h)) =
    subst (λ r. ShowsNet owner r (live_of (entry owner u ∷ h))) (sym (is ∙ ap (noted u reply) own))
    (own_log share owner u reply (get_or t.logs owner no_rows) kernel h lawful proper ok (stands.logs owner fits)) in
    record { kernel = ok.stands; logs = logs_next t.logs owner u rows h places fits mine stands.logs }

-- there is room for the log of an owner of a lawful history
shown_room : (share owner : ℕ) (rows : NetRows) (h : History) → IsLawful share h → IsProper h → ShowsNet owner rows (live_of h) → HasRoom rows
shown_room share owner rows h lawful proper shows = record {
  blocks = omega (arith, ap length shows.blocks, length-reverse (block_items owner (live_of h)), few_block_items share h owner lawful proper);
  notes = omega (arith, ap length shows.notes, length-reverse (notes_of owner (live_of h)), few_notes share h owner lawful proper);
}

pub has_room : (t : TrackedRows) (new : Kernel) (owner : ℕ) (u : Update) (answer : Answer) (reply : Reply) (d : NetRows) → HasHistory t → is_proper owner u ≡ true → ServesKernel t.kernel owner u answer new → answer ≡ Ok reply →
    HasRoom (noted u reply (get_or t.logs owner d))
has_room t new owner u answer reply d has fit serves is =
    let h = has.history in
    let fits = proper_owner owner u fit in
    let ok = accepts t.kernel new owner u answer reply h serves is has.lawful has.proper has.stands.kernel in
    let places = has.places in
    let own : get_or t.logs owner d ≡ get_or t.logs owner no_rows = get_or_default t.logs owner d no_rows (omega arith) in
    subst (λ r. HasRoom (noted u reply r)) (sym own)
    (shown_room t.kernel.claims.share owner (noted u reply (get_or t.logs owner no_rows)) (entry owner u ∷ h) (ok.allowed, has.lawful) (fit, has.proper)
    (own_log t.kernel.claims.share owner u reply (get_or t.logs owner no_rows) new h has.lawful has.proper ok (has.stands.logs owner fits)))

pub next_history : (t : TrackedRows) (new : Kernel) (owner : ℕ) (u : Update) (answer : Answer) (reply : Reply) (rows d : NetRows) → HasHistory t → is_proper owner u ≡ true → ServesKernel t.kernel owner u answer new → answer ≡ Ok reply →
    new.claims.share ≡ t.kernel.claims.share → rows ≡ noted u reply (get_or t.logs owner d) → HasHistory (record { kernel = new; logs = set t.logs owner rows; undone = t.undone })
next_history t new owner u answer reply rows d has fit serves is same noted_is =
    let h = has.history in
    let ok = accepts t.kernel new owner u answer reply h serves is has.lawful has.proper has.stands.kernel in record {
      history = entry owner u ∷ h;
      lawful = subst (λ share. IsLawful share (entry owner u ∷ h)) (sym same) (ok.allowed, has.lawful);
      proper = (fit, has.proper);
      stands = goes_on t.kernel.claims.share t new owner u reply rows d h has.places (proper_owner owner u fit) noted_is has.lawful has.proper has.stands ok;
      places = length-set t.logs owner rows ∙ has.places;
    }

pub serves_next : (t : TrackedRows) (new : Kernel) (owner : ℕ) (u : Update) (answer : Answer) (reply : Reply) (rows d : NetRows) → HasHistory t → is_proper owner u ≡ true → ServesKernel t.kernel owner u answer new → answer ≡ Ok reply →
    rows ≡ noted u reply (get_or t.logs owner d) → ServesTracked t owner u (Ok reply) (record { kernel = new; logs = set t.logs owner rows; undone = t.undone })
serves_next t new owner u answer reply rows d has fit serves is noted_is h lawful proper stands =
    let ok = accepts t.kernel new owner u answer reply h serves is lawful proper stands.kernel in (
      sym is ∙ (serves h lawful proper stands.kernel).0,
      goes_on t.kernel.claims.share t new owner u reply rows d h has.places (proper_owner owner u fit) noted_is lawful proper stands ok,
    )
