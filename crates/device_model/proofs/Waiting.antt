-- The answers of a port, after one is given or the oldest of a port is taken.
-- Here: values_at-push_same, values_at-push_other, values_at-but_oldest_same, values_at-but_oldest_other
--       waiting-push, waiting-relinked, take_waiting, none_waiting
use Rattle.std.proofs.Common.{◌≡◌, ◌≢◌, ℕ, zero, suc, ◌<◌, Bool, true, false, cond, eqb, List, [], ◌∷◌, ◌++◌, length, drop, Option, None, Some, IsSome, unwrap_or, ℤ, pos, refl, sym, ap, ◌∙◌, subst, arith, slice_index_or, slice_set}
use Rattle.std.proofs.lemmas.Bool.{false≢true, ne_eqb, eq-eqb}
use Rattle.std.proofs.lemmas.Bool.Decides.{nat_tests}
use Rattle.std.specs.List.{cons_option}
use Rattle.std.specs.Option.{option_map}
use Rattle.device_model.specs.declared.links.Given.{Given}
use Rattle.device_model.specs.declared.links.Queue.{Queue}
use Rattle.device_model.specs.Scripted.{Scripted, values_at, but_oldest, answers_of, oldest_or_zero, without_oldest}
use Rattle.device_model.specs.Links.{pair_of, waiting_of, no_answer, port_at, value_at, OldestAt, IsOldest, QueueOf, IsQueue, linked}

-- what an answer in front does to the answers of a port
at_front : (b : Bool) (v : ℤ) (xs ys tail : List ℤ) → xs ≡ ys ++ tail → cond b (v ∷ xs) xs ≡ cond b (v ∷ ys) ys ++ tail
at_front true v xs ys tail e = ap (λ r. v ∷ r) e
at_front false v xs ys tail e = e

pub values_at-push_same : (p : ℕ) (v : ℤ) (ws : List (ℕ × ℤ)) → values_at p (ws ++ (p, v) ∷ []) ≡ values_at p ws ++ v ∷ []
values_at-push_same p v [] = ap (λ b. cond b (v ∷ []) []) (eq-eqb p p refl)
values_at-push_same p v (w ∷ ws) = at_front (eqb w.0 p) w.1 _ _ (v ∷ []) (values_at-push_same p v ws)

same_front : (b : Bool) (v : ℤ) (xs ys : List ℤ) → xs ≡ ys → cond b (v ∷ xs) xs ≡ cond b (v ∷ ys) ys
same_front b v xs ys e = ap (λ r. cond b (v ∷ r) r) e

pub values_at-push_other : (q p : ℕ) (v : ℤ) (ws : List (ℕ × ℤ)) → q ≢ p → values_at q (ws ++ (p, v) ∷ []) ≡ values_at q ws
values_at-push_other q p v [] ne = ap (λ b. cond b (v ∷ []) []) (ne_eqb p q (λ e. ne (sym e)))
values_at-push_other q p v (w ∷ ws) ne = same_front (eqb w.0 q) w.1 _ _ (values_at-push_other q p v ws ne)

oldest_front : (b : Bool) (p : ℕ) (w : ℕ × ℤ) (ws : List (ℕ × ℤ)) → eqb w.0 p ≡ b → values_at p (but_oldest p ws) ≡ drop 1 (values_at p ws)
    → values_at p (cond b ws (w ∷ but_oldest p ws)) ≡ drop 1 (cond b (w.1 ∷ values_at p ws) (values_at p ws))
oldest_front true p w ws t e = refl
oldest_front false p w ws t e = ap (λ b. cond b (w.1 ∷ values_at p (but_oldest p ws)) (values_at p (but_oldest p ws))) t ∙ e

pub values_at-but_oldest_same : (p : ℕ) (ws : List (ℕ × ℤ)) → values_at p (but_oldest p ws) ≡ drop 1 (values_at p ws)
values_at-but_oldest_same p [] = refl
values_at-but_oldest_same p (w ∷ ws) = oldest_front (eqb w.0 p) p w ws refl (values_at-but_oldest_same p ws)

other_front : (b : Bool) (q p : ℕ) (w : ℕ × ℤ) (ws : List (ℕ × ℤ)) → eqb w.0 p ≡ b → q ≢ p → values_at q (but_oldest p ws) ≡ values_at q ws
    → values_at q (cond b ws (w ∷ but_oldest p ws)) ≡ cond (eqb w.0 q) (w.1 ∷ values_at q ws) (values_at q ws)
other_front true q p w ws t ne e =
    let apart : eqb w.0 q ≡ false = grind (arith, nat_tests) in
    sym (ap (λ b. cond b (w.1 ∷ values_at q ws) (values_at q ws)) apart)
other_front false q p w ws t ne e = ap (λ r. cond (eqb w.0 q) (w.1 ∷ r) r) e

pub values_at-but_oldest_other : (q p : ℕ) (ws : List (ℕ × ℤ)) → q ≢ p → values_at q (but_oldest p ws) ≡ values_at q ws
values_at-but_oldest_other q p [] ne = refl
values_at-but_oldest_other q p (w ∷ ws) ne = other_front (eqb w.0 p) q p w ws refl ne (values_at-but_oldest_other q p ws ne)

cons_append : (o : Option (ℕ × ℤ)) (ws tail all : List (ℕ × ℤ)) → all ≡ ws ++ tail → cons_option o all ≡ cons_option o ws ++ tail
cons_append None ws tail all e = e
cons_append (Some w) ws tail all e = ap (λ r. w ∷ r) e

-- one more answer waits
pub waiting-push : (gs : List Given) (g : Given) → waiting_of (gs ++ g ∷ []) ≡ waiting_of gs ++ cons_option (pair_of g) []
waiting-push [] g = refl
waiting-push (h ∷ gs) g = cons_append (pair_of h) (waiting_of gs) (cons_option (pair_of g) []) _ (waiting-push gs g)

-- which answer comes next says nothing of what waits
pub waiting-relinked : (gs : List Given) (k : ℕ) (next : Option ℕ) → waiting_of (slice_set gs k (record (slice_index_or gs k no_answer) { next = next })) ≡ waiting_of gs
waiting-relinked [] k next = refl
waiting-relinked (g ∷ gs) zero next = refl
waiting-relinked (g ∷ gs) (suc k) next = ap (cons_option (pair_of g)) (waiting-relinked gs k next)

-- what is oldest, and what stays
abbrev pub TakesOldest : ℕ → ℤ → List (ℕ × ℤ) → List (ℕ × ℤ) → Type 0
TakesOldest p v ws rest = (oldest_or_zero (values_at p ws) ≡ v) × (but_oldest p ws ≡ rest)

passes : (p : ℕ) (v : ℤ) (w : ℕ × ℤ) (ws rest : List (ℕ × ℤ)) → eqb w.0 p ≡ false → TakesOldest p v ws rest → TakesOldest p v (w ∷ ws) (w ∷ rest)
passes p v w ws rest t h =
    (ap (λ b. oldest_or_zero (cond b (w.1 ∷ values_at p ws) (values_at p ws))) t ∙ h.0, ap (λ b. cond b ws (w ∷ but_oldest p ws)) t ∙ ap (λ r. w ∷ r) h.1)

-- an answer in front that is taken or another port's is no matter
take_later : (p port : ℕ) (value : Option ℤ) (v : ℤ) (ws rest : List (ℕ × ℤ)) → (port ≡ p → value ≡ None) → TakesOldest p v ws rest
    → TakesOldest p v (cons_option (option_map (λ x. (port, x)) value) ws) (cons_option (option_map (λ x. (port, x)) value) rest)
take_later p port None v ws rest taken h = h
take_later p port (Some x) v ws rest taken h = passes p v (port, x) ws rest (ne_eqb port p (λ e. absurd (let none = taken e in cc))) h

here : (p port : ℕ) (value : Option ℤ) (v : ℤ) (ws : List (ℕ × ℤ)) → port ≡ p → value ≡ Some v → TakesOldest p v (cons_option (option_map (λ x. (port, x)) value) ws) ws
here p port None v ws e is = absurd (cc)
here p port (Some x) v ws e is =
    let t = eq-eqb port p e in
    let same : x ≡ v = cc in
    (ap (λ b. oldest_or_zero (cond b (x ∷ values_at p ws) (values_at p ws))) t ∙ same, ap (λ b. cond b ws ((port, x) ∷ but_oldest p ws)) t)

-- The answer at k is the oldest of the port where all before it are taken or of other ports.
pub take_waiting : (gs : List Given) (p k : ℕ) (v : ℤ) → k < length gs → port_at gs k ≡ p → value_at gs k ≡ Some v
    → ((m : ℕ) → m < k → port_at gs m ≡ p → value_at gs m ≡ None)
    → TakesOldest p v (waiting_of gs) (waiting_of (slice_set gs k (record (slice_index_or gs k no_answer) { value = None })))
take_waiting [] p k v within at is taken = absurd (omega arith)
take_waiting (g ∷ gs) p zero v within at is taken = here p g.port g.value v (waiting_of gs) at is
take_waiting (g ∷ gs) p (suc k) v within at is taken =
    take_later p g.port g.value v (waiting_of gs) _ (taken 0 (omega arith)) (take_waiting gs p k v (omega arith) at is (λ m lt. taken (suc m) (omega arith)))

nothing_in_front : (p port : ℕ) (value : Option ℤ) (ws : List (ℕ × ℤ)) → (port ≡ p → value ≡ None) → (values_at p ws ≡ []) × (but_oldest p ws ≡ ws)
    → (values_at p (cons_option (option_map (λ x. (port, x)) value) ws) ≡ []) × (but_oldest p (cons_option (option_map (λ x. (port, x)) value) ws) ≡ cons_option (option_map (λ x. (port, x)) value) ws)
nothing_in_front p port None ws taken h = h
nothing_in_front p port (Some x) ws taken h =
    let t = ne_eqb port p (λ e. absurd (let none = taken e in cc)) in
    (ap (λ b. cond b (x ∷ values_at p ws) (values_at p ws)) t ∙ h.0, ap (λ b. cond b ws ((port, x) ∷ but_oldest p ws)) t ∙ ap (λ r. (port, x) ∷ r) h.1)

-- a port without answers: there is nothing to take
abbrev pub HasNone : ℕ → List (ℕ × ℤ) → Type 0
HasNone p ws = (values_at p ws ≡ []) × (but_oldest p ws ≡ ws)

-- A port all of whose answers are taken has none.
pub none_waiting : (gs : List Given) (p : ℕ) → ((m : ℕ) → m < length gs → port_at gs m ≡ p → value_at gs m ≡ None) → HasNone p (waiting_of gs)
none_waiting [] p taken = (refl, refl)
none_waiting (g ∷ gs) p taken = nothing_in_front p g.port g.value (waiting_of gs) (taken 0 (omega arith)) (none_waiting gs p (λ m lt. taken (suc m) (omega arith)))

-- a new answer waits behind all others, however it is linked
pub waiting-linked : (gs : List Given) (g : Given) (o : Option Queue) (place : ℕ) → waiting_of (linked (gs ++ g ∷ []) o place) ≡ waiting_of gs ++ cons_option (pair_of g) []
waiting-linked gs g None place = waiting-push gs g
waiting-linked gs g (Some queue) place = waiting-relinked (gs ++ g ∷ []) queue.newest (Some place) ∙ waiting-push gs g

-- a port that was never given an answer has none
pub without_queue : (gs : List Given) (p : ℕ) (o : Option Queue) → IsQueue gs p o → o ≡ None → HasNone p (waiting_of gs)
without_queue gs p None none e = none_waiting gs p (λ m lt at. absurd (none m lt at))
without_queue gs p (Some queue) old e = absurd (cc)

-- a port whose queue names no oldest answer has none
pub with_empty_queue : (gs : List Given) (p : ℕ) (o : Option Queue) (queue : Queue) → IsQueue gs p o → o ≡ Some queue → queue.oldest ≡ None → HasNone p (waiting_of gs)
with_empty_queue gs p o queue old e none =
    let of_queue : QueueOf gs p queue = subst (λ q. IsQueue gs p q) e old in
    none_waiting gs p (subst (λ k. IsOldest gs p k) none of_queue.oldest)

-- what a port without answers reads, and what is left
pub reads_zero : (p : ℕ) (waiting : List (ℕ × ℤ)) (now : Scripted) → waiting ≡ now.waiting → HasNone p waiting → pos 0 ≡ oldest_or_zero (answers_of now p)
reads_zero p waiting now e none = ap oldest_or_zero (sym none.0) ∙ ap (λ w. oldest_or_zero (values_at p w)) e

pub none_taken : (p : ℕ) (waiting : List (ℕ × ℤ)) (now : Scripted) → waiting ≡ now.waiting → HasNone p waiting → now ≡ without_oldest p now
none_taken p waiting now e none =
    let seen : List (ℕ × ℤ) → Scripted = λ w. record { waiting = w; room = now.room } in
    ap seen (sym (subst (λ w. but_oldest p w ≡ w) e none.1))

pub none_lost : (p : ℕ) (waiting : List (ℕ × ℤ)) (now : Scripted) → waiting ≡ now.waiting → HasNone p waiting → answers_of now p ≡ drop 1 (answers_of now p)
none_lost p waiting now e none =
    let empty : values_at p now.waiting ≡ [] = subst (λ w. values_at p w ≡ []) e none.0 in
    empty ∙ ap (drop 1) (sym empty)

-- the oldest answer is there, and it is what the port reads
pub value_there : (gs : List Given) (p k : ℕ) → OldestAt gs p k → IsSome (value_at gs k)
value_there gs p k old = old.waits k (omega arith) old.within old.here

pub unwrapped : (o : Option ℤ) → IsSome o → o ≡ Some (unwrap_or o (pos 0))
unwrapped None h = absurd (false≢true h)
unwrapped (Some v) h = refl
