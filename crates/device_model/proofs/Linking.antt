-- The links between the answers of a port hold after an answer is given and after one is taken.
-- Here: push_links, take_links
use Rattle.std.proofs.Common.{◌≡◌, ◌≢◌, ℕ, zero, suc, ◌+◌, ◌<◌, ◌≤◌, cond, eqb, List, [], ◌∷◌, ◌++◌, length, Option, None, Some, IsSome, ℤ, refl, sym, ap, ◌∙◌, subst, ⊎_elim, ◌⊎◌, inl, inr, arith, slice_index_or, slice_set}
use Rattle.std.proofs.lemmas.Bool.{cases_eq, cases_lt, ne_eqb, eq-eqb}
use Rattle.std.proofs.lemmas.List.{length_push, get_or_append_left, get_or_push, length-set}
use Rattle.std.specs.Option.{option_or}
use Rattle.device_model.specs.declared.links.Given.{Given}
use Rattle.device_model.specs.declared.links.Queue.{Queue}
use Rattle.device_model.specs.Links.{no_answer, port_at, value_at, next_at, IsFirstFrom, OldestAt, IsOldest, QueueOf, IsQueue, IsLinked, linked, queue_after}

-- Taking: the ports and the order stay, and the answer at k is gone.
record Taken (gs hs : List Given) (k : ℕ) : Type 0 where
  size : length hs ≡ length gs
  port : (m : ℕ) → port_at hs m ≡ port_at gs m
  next : (m : ℕ) → next_at hs m ≡ next_at gs m
  gone : value_at hs k ≡ None
  value : (m : ℕ) → m ≢ k → value_at hs m ≡ value_at gs m

cons_taken : (g : Given) (gs hs : List Given) (k : ℕ) → Taken gs hs k → Taken (g ∷ gs) (g ∷ hs) (suc k)
cons_taken g gs hs k t = record {
  size = ap suc t.size;
  port = port;
  next = next;
  gone = t.gone;
  value = value;
} where
  port : (m : ℕ) → port_at (g ∷ hs) m ≡ port_at (g ∷ gs) m
  port zero = refl
  port (suc m) = t.port m

  next : (m : ℕ) → next_at (g ∷ hs) m ≡ next_at (g ∷ gs) m
  next zero = refl
  next (suc m) = t.next m

  value : (m : ℕ) → m ≢ suc k → value_at (g ∷ hs) m ≡ value_at (g ∷ gs) m
  value zero ne = refl
  value (suc m) ne = t.value m (λ e. ne (ap suc e))

taken_at : (gs : List Given) (k : ℕ) → k < length gs → Taken gs (slice_set gs k (record (slice_index_or gs k no_answer) { value = None })) k
taken_at [] k within = absurd (omega arith)
taken_at (g ∷ gs) zero within = record {
  size = refl;
  port = port;
  next = next;
  gone = refl;
  value = value;
} where
  port : (m : ℕ) → port_at (record g { value = None } ∷ gs) m ≡ port_at (g ∷ gs) m
  port zero = refl
  port (suc m) = refl

  next : (m : ℕ) → next_at (record g { value = None } ∷ gs) m ≡ next_at (g ∷ gs) m
  next zero = refl
  next (suc m) = refl

  value : (m : ℕ) → m ≢ 0 → value_at (record g { value = None } ∷ gs) m ≡ value_at (g ∷ gs) m
  value zero ne = absurd (ne refl)
  value (suc m) ne = refl
taken_at (g ∷ gs) (suc k) within = cons_taken g gs _ k (taken_at gs k (omega arith))

sides : (m k : ℕ) → m ≢ k → (m < k) ⊎ (k + 1 ≤ m)
sides m k ne = ⊎_elim (λ lt. inl lt) (λ le. inr (omega arith)) (cases_lt m k)

-- the first place of a port is found in either list
first_after_taking : {gs hs : List Given} {k : ℕ} → Taken gs hs k → (r i : ℕ) (o : Option ℕ) → IsFirstFrom gs r i o → IsFirstFrom hs r i o
first_after_taking t r i None first = λ m le lt e. first m le (omega (arith, t.size)) (sym (t.port m) ∙ e)
first_after_taking t r i (Some n) first = record {
  after = first.after;
  within = omega (arith, t.size, first.within);
  here = t.port n ∙ first.here;
  none_between = λ m le lt e. first.none_between m le lt (sym (t.port m) ∙ e);
}

-- the answers of another port are as they were
oldest_of_others : {gs hs : List Given} {k : ℕ} → Taken gs hs k → (r : ℕ) → port_at gs k ≢ r → (o : Option ℕ) → IsOldest gs r o → IsOldest hs r o
oldest_of_others {gs} {hs} {k} t r apart None old =
    λ m lt e. t.value m (λ is. apart (ap (port_at gs) (sym is) ∙ sym (t.port m) ∙ e)) ∙ old m (omega (arith, t.size)) (sym (t.port m) ∙ e)
oldest_of_others {gs} {hs} {k} t r apart (Some n) old = record {
  within = omega (arith, t.size, old.within);
  here = t.port n ∙ old.here;
  taken = λ m lt e. t.value m (λ is. apart (ap (port_at gs) (sym is) ∙ sym (t.port m) ∙ e)) ∙ old.taken m lt (sym (t.port m) ∙ e);
  waits = λ m le lt e. subst (λ v. IsSome v) (sym (t.value m (λ is. apart (ap (port_at gs) (sym is) ∙ sym (t.port m) ∙ e)))) (old.waits m le (omega (arith, t.size)) (sym (t.port m) ∙ e));
}

-- the next answer of the port is its oldest once the one at k is taken
oldest_of_same : {gs hs : List Given} {k : ℕ} → Taken gs hs k → (p : ℕ) → OldestAt gs p k → (o : Option ℕ) → IsFirstFrom gs p (k + 1) o → IsOldest hs p o
oldest_of_same {gs} {hs} {k} t p old None first = λ m lt e. ⊎_elim
    (λ is. ap (value_at hs) is ∙ t.gone)
    (λ ne. t.value m ne ∙ ⊎_elim (λ before. old.taken m before (sym (t.port m) ∙ e)) (λ behind. absurd (first m behind (omega (arith, t.size)) (sym (t.port m) ∙ e))) (sides m k ne))
    (cases_eq m k)
oldest_of_same {gs} {hs} {k} t p old (Some n) first = record {
  within = omega (arith, t.size, first.within);
  here = t.port n ∙ first.here;
  taken = λ m lt e. ⊎_elim
      (λ is. ap (value_at hs) is ∙ t.gone)
      (λ ne. t.value m ne ∙ ⊎_elim (λ before. old.taken m before (sym (t.port m) ∙ e)) (λ behind. absurd (first.none_between m behind lt (sym (t.port m) ∙ e))) (sides m k ne))
      (cases_eq m k);
  waits = λ m le lt e.
      let ne : m ≢ k = omega (arith, first.after) in
      subst (λ v. IsSome v) (sym (t.value m ne)) (old.waits m (omega (arith, first.after)) (omega (arith, t.size)) (sym (t.port m) ∙ e));
}

-- what `insert` says of the queues
abbrev pub Puts : (ℕ → Option Queue) → (ℕ → Option Queue) → ℕ → Queue → Type 0
Puts before after p queue = (r : ℕ) → after r ≡ cond (eqb p r) (Some queue) (before r)

puts_same : (before after : ℕ → Option Queue) (p : ℕ) (queue : Queue) → Puts before after p queue → (r : ℕ) → r ≡ p → after r ≡ Some queue
puts_same before after p queue puts r e = puts r ∙ ap (λ b. cond b (Some queue) (before r)) (eq-eqb p r (sym e))

puts_other : (before after : ℕ → Option Queue) (p : ℕ) (queue : Queue) → Puts before after p queue → (r : ℕ) → r ≢ p → after r ≡ before r
puts_other before after p queue puts r ne = puts r ∙ ap (λ b. cond b (Some queue) (before r)) (ne_eqb p r (λ e. ne (sym e)))

queue_of_others : {gs hs : List Given} {k : ℕ} → Taken gs hs k → (r : ℕ) → port_at gs k ≢ r → (o : Option Queue) → IsQueue gs r o → IsQueue hs r o
queue_of_others t r apart None none = λ m lt e. none m (omega (arith, t.size)) (sym (t.port m) ∙ e)
queue_of_others t r apart (Some queue) old = record {
  within = omega (arith, t.size, old.within);
  here = t.port queue.newest ∙ old.here;
  newest = λ m lt within e. old.newest m lt (omega (arith, t.size)) (sym (t.port m) ∙ e);
  oldest = oldest_of_others t r apart queue.oldest old.oldest;
}

module _ (before after : ℕ → Option Queue) (gs : List Given) (p k : ℕ) (queue : Queue) (links : IsLinked before gs) (had : before p ≡ Some queue) (oldest : queue.oldest ≡ Some k)
    (puts : Puts before after p (record { oldest = next_at gs k; newest = queue.newest })) where
  had_queue : QueueOf gs p queue
  had_queue = subst (λ o. IsQueue gs p o) had (links.queue p)

  had_oldest : OldestAt gs p k
  had_oldest = subst (λ o. IsOldest gs p o) oldest had_queue.oldest

  -- The links hold after the oldest answer of a port is taken.
  pub take_links : IsLinked after (slice_set gs k (record (slice_index_or gs k no_answer) { value = None }))
  take_links =
      let t = taken_at gs k had_oldest.within in
      let hs = slice_set gs k (record (slice_index_or gs k no_answer) { value = None }) in
      record {
        next = λ m lt.
            let same : IsFirstFrom hs (port_at gs m) (m + 1) (next_at gs m) = first_after_taking t (port_at gs m) (m + 1) (next_at gs m) (links.next m (omega (arith, t.size))) in
            subst (λ q. IsFirstFrom hs q (m + 1) (next_at hs m)) (sym (t.port m)) (subst (λ o. IsFirstFrom hs (port_at gs m) (m + 1) o) (sym (t.next m)) same);
        queue = λ r. ⊎_elim
            (λ e. subst (λ o. IsQueue hs r o) (sym (puts_same before after p _ puts r e)) (subst (λ q. QueueOf hs q (record { oldest = next_at gs k; newest = queue.newest })) (sym e) (record {
              within = omega (arith, t.size, had_queue.within);
              here = t.port queue.newest ∙ had_queue.here;
              newest = λ m lt within at. had_queue.newest m lt (omega (arith, t.size)) (sym (t.port m) ∙ at);
              oldest = oldest_of_same t p had_oldest (next_at gs k) (subst (λ q. IsFirstFrom gs q (k + 1) (next_at gs k)) had_oldest.here (links.next k had_oldest.within));
            })))
            (λ ne. subst (λ o. IsQueue hs r o) (sym (puts_other before after p _ puts r ne)) (queue_of_others t r (λ e. ne (sym e ∙ had_oldest.here)) (before r) (links.queue r)))
            (cases_eq r p);
      }

-- Giving: the answers of gs stay, but for what comes after them, and a waiting answer of the port p stands behind them.
record Pushed (gs hs : List Given) (p : ℕ) : Type 0 where
  size : length hs ≡ length gs + 1
  port : (m : ℕ) → m < length gs → port_at hs m ≡ port_at gs m
  value : (m : ℕ) → m < length gs → value_at hs m ≡ value_at gs m
  here : port_at hs (length gs) ≡ p
  waits : IsSome (value_at hs (length gs))
  last : next_at hs (length gs) ≡ None

abbrev pub given : ℕ → ℤ → Given
given p v = record { port = p; value = Some v; next = None }

pushed_at_end : (gs : List Given) (p : ℕ) (v : ℤ) → Pushed gs (gs ++ given p v ∷ []) p
pushed_at_end gs p v =
    let end : slice_index_or (gs ++ given p v ∷ []) (length gs) no_answer ≡ given p v = get_or_push gs (given p v) no_answer (length gs) refl in
    record {
      size = length_push gs (given p v);
      port = λ m lt. ap (λ g. g.port) (get_or_append_left gs (given p v ∷ []) no_answer m lt);
      value = λ m lt. ap (λ g. g.value) (get_or_append_left gs (given p v ∷ []) no_answer m lt);
      here = ap (λ g. g.port) end;
      waits = subst (λ o. IsSome o) (sym (ap (λ g. g.value) end)) refl;
      last = ap (λ g. g.next) end;
    }

next_of_pushed : (gs : List Given) (p : ℕ) (v : ℤ) (m : ℕ) → m < length gs → next_at (gs ++ given p v ∷ []) m ≡ next_at gs m
next_of_pushed gs p v m lt = ap (λ g. g.next) (get_or_append_left gs (given p v ∷ []) no_answer m lt)

-- Relinking: what comes after the one at n is n', and nothing else changes.
record Relinked (gs hs : List Given) (n : ℕ) (o : Option ℕ) : Type 0 where
  size : length hs ≡ length gs
  port : (m : ℕ) → port_at hs m ≡ port_at gs m
  value : (m : ℕ) → value_at hs m ≡ value_at gs m
  next : next_at hs n ≡ o
  others : (m : ℕ) → m ≢ n → next_at hs m ≡ next_at gs m

cons_relinked : (g : Given) (gs hs : List Given) (n : ℕ) (o : Option ℕ) → Relinked gs hs n o → Relinked (g ∷ gs) (g ∷ hs) (suc n) o
cons_relinked g gs hs n o t = record {
  size = ap suc t.size;
  port = port;
  value = value;
  next = t.next;
  others = others;
} where
  port : (m : ℕ) → port_at (g ∷ hs) m ≡ port_at (g ∷ gs) m
  port zero = refl
  port (suc m) = t.port m

  value : (m : ℕ) → value_at (g ∷ hs) m ≡ value_at (g ∷ gs) m
  value zero = refl
  value (suc m) = t.value m

  others : (m : ℕ) → m ≢ suc n → next_at (g ∷ hs) m ≡ next_at (g ∷ gs) m
  others zero ne = refl
  others (suc m) ne = t.others m (λ e. ne (ap suc e))

relinked_at : (gs : List Given) (n : ℕ) (o : Option ℕ) → n < length gs → Relinked gs (slice_set gs n (record (slice_index_or gs n no_answer) { next = o })) n o
relinked_at [] n o within = absurd (omega arith)
relinked_at (g ∷ gs) zero o within = record {
  size = refl;
  port = port;
  value = value;
  next = refl;
  others = others;
} where
  port : (m : ℕ) → port_at (record g { next = o } ∷ gs) m ≡ port_at (g ∷ gs) m
  port zero = refl
  port (suc m) = refl

  value : (m : ℕ) → value_at (record g { next = o } ∷ gs) m ≡ value_at (g ∷ gs) m
  value zero = refl
  value (suc m) = refl

  others : (m : ℕ) → m ≢ 0 → next_at (record g { next = o } ∷ gs) m ≡ next_at (g ∷ gs) m
  others zero ne = absurd (ne refl)
  others (suc m) ne = refl
relinked_at (g ∷ gs) (suc n) o within = cons_relinked g gs _ n o (relinked_at gs n o (omega arith))

pushed_and_relinked : {gs hs is : List Given} {p n : ℕ} {o : Option ℕ} → Pushed gs hs p → Relinked hs is n o → n < length gs → Pushed gs is p
pushed_and_relinked {gs} {hs} {is} {p} {n} {o} a t lt = record {
  size = t.size ∙ a.size;
  port = λ m lt. t.port m ∙ a.port m lt;
  value = λ m lt. t.value m ∙ a.value m lt;
  here = t.port (length gs) ∙ a.here;
  waits = subst (λ v. IsSome v) (sym (t.value (length gs))) a.waits;
  last = t.others (length gs) (λ e. absurd (omega (arith, lt, e))) ∙ a.last;
}

inside_or_last : (m n : ℕ) → m < n + 1 → (m < n) ⊎ (m ≡ n)
inside_or_last m n lt = ⊎_elim (λ below. inl below) (λ le. inr (omega arith)) (cases_lt m n)

-- the first place of a port is found in the longer list too, where the new answer is not that port's or comes later
first_after_giving : {gs hs : List Given} {p : ℕ} → Pushed gs hs p → (r i : ℕ) (o : Option ℕ) → IsFirstFrom gs r i o → (o ≡ None → p ≢ r) → IsFirstFrom hs r i o
first_after_giving {gs} {hs} {p} a r i None first apart = λ m le lt e. ⊎_elim
    (λ below. first m le below (sym (a.port m below) ∙ e))
    (λ is. apart refl (sym a.here ∙ ap (port_at hs) (sym is) ∙ e))
    (inside_or_last m (length gs) (omega (arith, a.size)))
first_after_giving {gs} {hs} {p} a r i (Some n) first apart = record {
  after = first.after;
  within = omega (arith, a.size, first.within);
  here = a.port n first.within ∙ first.here;
  none_between = λ m le lt e. first.none_between m le lt (sym (a.port m (omega (arith, first.within))) ∙ e);
}

oldest_apart : {gs hs : List Given} {p : ℕ} → Pushed gs hs p → (r : ℕ) → p ≢ r → (o : Option ℕ) → IsOldest gs r o → IsOldest hs r o
oldest_apart {gs} {hs} {p} a r apart None old = λ m lt e. ⊎_elim
    (λ below. a.value m below ∙ old m below (sym (a.port m below) ∙ e))
    (λ is. absurd (apart (sym a.here ∙ ap (port_at hs) (sym is) ∙ e)))
    (inside_or_last m (length gs) (omega (arith, a.size)))
oldest_apart {gs} {hs} {p} a r apart (Some k) old = record {
  within = omega (arith, a.size, old.within);
  here = a.port k old.within ∙ old.here;
  taken = λ m lt e. let below : m < length gs = omega (arith, old.within) in a.value m below ∙ old.taken m lt (sym (a.port m below) ∙ e);
  waits = λ m le lt e. ⊎_elim
      (λ below. subst (λ v. IsSome v) (sym (a.value m below)) (old.waits m le below (sym (a.port m below) ∙ e)))
      (λ is. absurd (apart (sym a.here ∙ ap (port_at hs) (sym is) ∙ e)))
      (inside_or_last m (length gs) (omega (arith, a.size)));
}

queue_apart : {gs hs : List Given} {p : ℕ} → Pushed gs hs p → (r : ℕ) → p ≢ r → (o : Option Queue) → IsQueue gs r o → IsQueue hs r o
queue_apart {gs} {hs} {p} a r apart None none = λ m lt e. ⊎_elim
    (λ below. none m below (sym (a.port m below) ∙ e))
    (λ is. apart (sym a.here ∙ ap (port_at hs) (sym is) ∙ e))
    (inside_or_last m (length gs) (omega (arith, a.size)))
queue_apart {gs} {hs} {p} a r apart (Some queue) old = record {
  within = omega (arith, a.size, old.within);
  here = a.port queue.newest old.within ∙ old.here;
  newest = λ m lt within e. ⊎_elim
      (λ below. old.newest m lt below (sym (a.port m below) ∙ e))
      (λ is. apart (sym a.here ∙ ap (port_at hs) (sym is) ∙ e))
      (inside_or_last m (length gs) (omega (arith, a.size)));
  oldest = oldest_apart a r apart queue.oldest old.oldest;
}

-- the new answer is the oldest of its port where no older one waits
oldest_of_port : {gs hs : List Given} {p : ℕ} → Pushed gs hs p → (o : Option ℕ) → IsOldest gs p o → IsOldest hs p (option_or o (Some (length gs)))
oldest_of_port {gs} {hs} {p} a None old = record {
  within = omega (arith, a.size);
  here = a.here;
  taken = λ m lt e. a.value m lt ∙ old m lt (sym (a.port m lt) ∙ e);
  waits = λ m le lt e. let is : m ≡ length gs = omega (arith, a.size) in subst (λ n. IsSome (value_at hs n)) (sym is) a.waits;
}
oldest_of_port {gs} {hs} {p} a (Some k) old = record {
  within = omega (arith, a.size, old.within);
  here = a.port k old.within ∙ old.here;
  taken = λ m lt e. let below : m < length gs = omega (arith, old.within) in a.value m below ∙ old.taken m lt (sym (a.port m below) ∙ e);
  waits = λ m le lt e. ⊎_elim
      (λ below. subst (λ v. IsSome v) (sym (a.value m below)) (old.waits m le below (sym (a.port m below) ∙ e)))
      (λ is. subst (λ n. IsSome (value_at hs n)) (sym is) a.waits)
      (inside_or_last m (length gs) (omega (arith, a.size)));
}

queue_of_port : {gs hs : List Given} {p : ℕ} → Pushed gs hs p → (o : Option Queue) → IsQueue gs p o → QueueOf hs p (queue_after o (length gs))
queue_of_port {gs} {hs} {p} a None none = record {
  within = omega (arith, a.size);
  here = a.here;
  newest = λ m lt within e. absurd (omega (arith, a.size));
  oldest = oldest_of_port a None (λ m lt e. absurd (none m lt e));
}
queue_of_port {gs} {hs} {p} a (Some queue) old = record {
  within = omega (arith, a.size);
  here = a.here;
  newest = λ m lt within e. absurd (omega (arith, a.size));
  oldest = oldest_of_port a queue.oldest old.oldest;
}

-- each answer names the next one of its port
abbrev NamesNext : List Given → ℕ → Type 0
NamesNext gs m = IsFirstFrom gs (port_at gs m) (m + 1) (next_at gs m)

names_next : {gs hs : List Given} {p : ℕ} → Pushed gs hs p → (m : ℕ) (o : Option ℕ) → m < length gs → next_at hs m ≡ o → IsFirstFrom hs (port_at gs m) (m + 1) o → NamesNext hs m
names_next {gs} {hs} a m o lt e first =
    subst (λ q. IsFirstFrom hs q (m + 1) (next_at hs m)) (sym (a.port m lt)) (subst (λ n. IsFirstFrom hs (port_at gs m) (m + 1) n) (sym e) first)

last_names_none : {gs hs : List Given} {p : ℕ} → Pushed gs hs p → (m : ℕ) → m ≡ length gs → NamesNext hs m
last_names_none {gs} {hs} a m is =
    subst (λ n. NamesNext hs n) (sym is) (subst (λ o. IsFirstFrom hs (port_at hs (length gs)) (length gs + 1) o) (sym a.last) (λ k le lt e. absurd (omega (arith, a.size))))

-- where the port had no answer, nothing is to be relinked
next_without_queue : {gs hs : List Given} {p : ℕ} → Pushed gs hs p → ((m : ℕ) → m < length gs → next_at hs m ≡ next_at gs m) → ((m : ℕ) → m < length gs → NamesNext gs m)
    → IsQueue gs p None → (m : ℕ) → m < length hs → NamesNext hs m
next_without_queue {gs} {hs} a same next none m lt = ⊎_elim
    (λ below. names_next a m (next_at gs m) below (same m below) (first_after_giving a (port_at gs m) (m + 1) (next_at gs m) (next m below) (λ _ e. none m below (sym e))))
    (λ is. last_names_none a m is)
    (inside_or_last m (length gs) (omega (arith, a.size)))

-- an answer of the port that names none after it is the newest
names_none : {gs : List Given} {p : ℕ} {queue : Queue} → QueueOf gs p queue → (m : ℕ) (o : Option ℕ) → m ≢ queue.newest → m < length gs → IsFirstFrom gs (port_at gs m) (m + 1) o → o ≡ None → p ≢ port_at gs m
names_none {gs} {p} {queue} old m None ne lt first none e = ⊎_elim
    (λ before. first queue.newest (omega arith) old.within (old.here ∙ e))
    (λ behind. old.newest m (omega arith) lt (sym e))
    (cases_lt m queue.newest)
names_none {gs} {p} {queue} old m (Some k) ne lt first none e = cc

next_with_queue : {gs hs : List Given} {p : ℕ} {queue : Queue} → Pushed gs hs p → QueueOf gs p queue → next_at hs queue.newest ≡ Some (length gs)
    → ((m : ℕ) → m < length gs → m ≢ queue.newest → next_at hs m ≡ next_at gs m) → ((m : ℕ) → m < length gs → NamesNext gs m) → (m : ℕ) → m < length hs → NamesNext hs m
next_with_queue {gs} {hs} {p} {queue} a old relinked same next m lt = ⊎_elim
    (λ below. ⊎_elim
    (λ is. names_next a m (Some (length gs)) below (ap (next_at hs) is ∙ relinked) (record {
      after = omega arith;
      within = omega (arith, a.size);
      here = a.here ∙ sym old.here ∙ ap (port_at gs) (sym is);
      none_between = λ k le before e. old.newest k (omega (arith, is)) before (sym (a.port k before) ∙ e ∙ ap (port_at gs) is ∙ old.here);
    }))
    (λ ne. names_next a m (next_at gs m) below (same m below ne) (first_after_giving a (port_at gs m) (m + 1) (next_at gs m) (next m below) (names_none old m (next_at gs m) ne below (next m below))))
    (cases_eq m queue.newest))
    (λ is. last_names_none a m is)
    (inside_or_last m (length gs) (omega (arith, a.size)))

-- one more answer, behind the newest of its port
pushed_and_linked : (gs : List Given) (p : ℕ) (v : ℤ) (o : Option Queue) → IsQueue gs p o → Pushed gs (linked (gs ++ given p v ∷ []) o (length gs)) p
pushed_and_linked gs p v None none = pushed_at_end gs p v
pushed_and_linked gs p v (Some queue) old =
    let a = pushed_at_end gs p v in
    pushed_and_relinked a (relinked_at (gs ++ given p v ∷ []) queue.newest (Some (length gs)) (omega (arith, a.size, old.within))) old.within

all_name_next : (gs : List Given) (p : ℕ) (v : ℤ) (o : Option Queue) → IsQueue gs p o → ((m : ℕ) → m < length gs → NamesNext gs m)
    → (m : ℕ) → m < length (linked (gs ++ given p v ∷ []) o (length gs)) → NamesNext (linked (gs ++ given p v ∷ []) o (length gs)) m
all_name_next gs p v None none next = next_without_queue (pushed_at_end gs p v) (next_of_pushed gs p v) next none
all_name_next gs p v (Some queue) old next =
    let a = pushed_at_end gs p v in
    let t = relinked_at (gs ++ given p v ∷ []) queue.newest (Some (length gs)) (omega (arith, a.size, old.within)) in
    next_with_queue (pushed_and_linked gs p v (Some queue) old) old t.next (λ m lt ne. t.others m ne ∙ next_of_pushed gs p v m lt) next

-- The links hold after an answer is given to a port.
pub push_links : (before after : ℕ → Option Queue) (gs : List Given) (p : ℕ) (v : ℤ) → IsLinked before gs → Puts before after p (queue_after (before p) (length gs))
    → IsLinked after (linked (gs ++ given p v ∷ []) (before p) (length gs))
push_links before after gs p v links puts =
    let a = pushed_and_linked gs p v (before p) (links.queue p) in
    let hs = linked (gs ++ given p v ∷ []) (before p) (length gs) in
    record {
      next = all_name_next gs p v (before p) (links.queue p) links.next;
      queue = λ r. ⊎_elim
          (λ e. subst (λ o. IsQueue hs r o) (sym (puts_same before after p _ puts r e)) (subst (λ q. QueueOf hs q (queue_after (before p) (length gs))) (sym e) (queue_of_port a (before p) (links.queue p))))
          (λ ne. subst (λ o. IsQueue hs r o) (sym (puts_other before after p _ puts r ne)) (queue_apart a r (λ e. ne (sym e)) (before r) (links.queue r)))
          (cases_eq r p);
    }

pub length-linked : (gs : List Given) (p : ℕ) (v : ℤ) (o : Option Queue) → length (linked (gs ++ given p v ∷ []) o (length gs)) ≡ length gs + 1
length-linked gs p v None = length_push gs (given p v)
length-linked gs p v (Some queue) = length-set (gs ++ given p v ∷ []) queue.newest _ ∙ length_push gs (given p v)
