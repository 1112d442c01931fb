-- What a list of keys shows of what lies under them, and what an edit of the keys does to that.
use Rattle.std.proofs.Common.{◌≡◌, ◌≢◌, ℕ, zero, suc, length, get_or, set, ◌+◌, ◌<◌, ◌≤◌, Bool, true, false, cond, not, eqb, List, [], ◌∷◌, Option, Some, None, refl, ap, sym, ◌∙◌, subst, arith, get_or-set_same, get_or-set_other}
use Rattle.std.proofs.lemmas.Bool.Decides.{nat_tests}
use Rattle.std.proofs.lemmas.List.Edits.{length-remove}
use Rattle.std.proofs.lemmas.List.Sums.{sum_by-remove}
use Rattle.std.proofs.lemmas.Option.{slice_get_past}
use Rattle.std.specs.Prelude.{is_some, count_by, slice_get}
use Rattle.std.specs.List.{insert, remove, list_any, filter_map}
use Rattle.slab.specs.Slab.{Slab, get, Updates, with_value}
use Rattle.sd_base.proofs.Counting.{count_by-cons}
use Rattle.sd_base.proofs.Single.{count_by-some}
use Rattle.timer_table.specs.Keys.{HoldsEach}

-- nothing lies under the key
abbrev is_bare : {T : Type 0} → (ℕ → Option T) → ℕ → Bool
is_bare f key = not (is_some (f key))

-- with something under each key, the places of the keys are those of what lies under them
slice_get-filter_map : {T : Type 0} (f : ℕ → Option T) (keys : List ℕ) (i d : ℕ) → list_any (is_bare f) keys ≡ false → i < length keys →
    slice_get (filter_map f keys) i ≡ f (get_or keys i d)
slice_get-filter_map f [] i d all h = absurd (omega arith)
slice_get-filter_map f (key ∷ keys) zero d all h =
    elim (f key) as (λ o. f key ≡ o → slice_get (filter_map f (key ∷ keys)) zero ≡ f key) [
      | None ↦ λ is. grind arith
      | Some x ↦ λ is. grind arith
    ] refl
slice_get-filter_map f (key ∷ keys) (suc i) d all h =
    let within : i < length keys = omega arith in
    elim (f key) as (λ o. f key ≡ o → slice_get (filter_map f (key ∷ keys)) (suc i) ≡ f (get_or keys i d)) [
      | None ↦ λ is. grind arith
      | Some x ↦ λ is. grind (arith, slice_get-filter_map f keys i d)
    ] refl

length-filter_map : {T : Type 0} (f : ℕ → Option T) (keys : List ℕ) → list_any (is_bare f) keys ≡ false → length (filter_map f keys) ≡ length keys
length-filter_map f [] all = refl
length-filter_map f (key ∷ keys) all =
    elim (f key) as (λ o. f key ≡ o → length (filter_map f (key ∷ keys)) ≡ length (key ∷ keys)) [
      | None ↦ λ is. grind arith
      | Some x ↦ λ is. grind (arith, length-filter_map f keys)
    ] refl

filter_map-insert : {T : Type 0} (f : ℕ → Option T) (keys : List ℕ) (i key : ℕ) (x : T) → list_any (is_bare f) keys ≡ false → i ≤ length keys → f key ≡ Some x →
    filter_map f (insert keys i key) ≡ insert (filter_map f keys) i x
filter_map-insert f [] i key x all h is = grind arith
filter_map-insert f (k ∷ keys) zero key x all h is = grind arith
filter_map-insert f (k ∷ keys) (suc i) key x all h is =
    let within : i ≤ length keys = omega arith in
    elim (f k) as (λ o. f k ≡ o → filter_map f (insert (k ∷ keys) (suc i) key) ≡ insert (filter_map f (k ∷ keys)) (suc i) x) [
      | None ↦ λ none. grind arith
      | Some y ↦ λ some. grind (arith, filter_map-insert f keys i key x)
    ] refl

filter_map-remove : {T : Type 0} (f : ℕ → Option T) (keys : List ℕ) (i : ℕ) → list_any (is_bare f) keys ≡ false → i < length keys →
    filter_map f (remove keys i) ≡ remove (filter_map f keys) i
filter_map-remove f [] i all h = absurd (omega arith)
filter_map-remove f (k ∷ keys) zero all h =
    elim (f k) as (λ o. f k ≡ o → filter_map f (remove (k ∷ keys) zero) ≡ remove (filter_map f (k ∷ keys)) zero) [
      | None ↦ λ none. grind arith
      | Some y ↦ λ some. grind arith
    ] refl
filter_map-remove f (k ∷ keys) (suc i) all h =
    let within : i < length keys = omega arith in
    elim (f k) as (λ o. f k ≡ o → filter_map f (remove (k ∷ keys) (suc i)) ≡ remove (filter_map f (k ∷ keys)) (suc i)) [
      | None ↦ λ none. grind arith
      | Some y ↦ λ some. grind (arith, filter_map-remove f keys i)
    ] refl

-- keys of which none was changed
filter_map-same : {T : Type 0} (f g : ℕ → Option T) (key : ℕ) (keys : List ℕ) → ((k : ℕ) → k ≢ key → f k ≡ g k) → list_any (λ k. eqb k key) keys ≡ false →
    filter_map f keys ≡ filter_map g keys
filter_map-same f g key [] same h = refl
filter_map-same f g key (k ∷ keys) same h =
    let other : k ≢ key = grind (arith, nat_tests) in
    let here : f k ≡ g k = same k other in
    let rest : filter_map f keys ≡ filter_map g keys = filter_map-same f g key keys same (grind arith) in
    grind (arith, here, rest)

bare-same : {T : Type 0} (f g : ℕ → Option T) (key : ℕ) (keys : List ℕ) → ((k : ℕ) → k ≢ key → f k ≡ g k) → list_any (λ k. eqb k key) keys ≡ false →
    list_any (is_bare f) keys ≡ list_any (is_bare g) keys
bare-same f g key [] same h = refl
bare-same f g key (k ∷ keys) same h =
    let other : k ≢ key = grind (arith, nat_tests) in
    let here : f k ≡ g k = same k other in
    let rest : list_any (is_bare f) keys ≡ list_any (is_bare g) keys = bare-same f g key keys same (grind arith) in
    grind (arith, here, rest)

pub set-insert_remove : {X : Type 0} (xs : List X) (i : ℕ) (y : X) → i < length xs → set xs i y ≡ insert (remove xs i) i y
set-insert_remove [] i y h = absurd (omega arith)
set-insert_remove (x ∷ xs) zero y h = grind arith
set-insert_remove (x ∷ xs) (suc i) y h =
    let within : i < length xs = omega arith in
    grind (arith, set-insert_remove xs i y)

insert_remove : {X : Type 0} (xs : List X) (i : ℕ) (d : X) → i < length xs → insert (remove xs i) i (get_or xs i d) ≡ xs
insert_remove [] i d h = absurd (omega arith)
insert_remove (x ∷ xs) zero d h = grind arith
insert_remove (x ∷ xs) (suc i) d h =
    let within : i < length xs = omega arith in
    grind (arith, insert_remove xs i d)

-- a listed key, and one that does not bear anything, as the table lists its keys
bare-not_listed : {T : Type 0} (slots : Slab T) (keys ks : List ℕ) → HoldsEach slots keys → ((k : ℕ) → count_by (λ x. eqb x k) ks ≤ count_by (λ x. eqb x k) keys) →
    list_any (is_bare (get slots)) ks ≡ false
bare-not_listed slots keys [] holds fewer = refl
bare-not_listed slots keys (k ∷ ks) holds fewer =
    let head : count_by (λ x. eqb x k) (k ∷ ks) ≡ cond (eqb k k) 1 0 + count_by (λ x. eqb x k) ks = count_by-cons (λ x. eqb x k) k ks in
    let less = fewer k in
    let one = holds.once k in
    let some : is_bare (get slots) k ≡ false = grind (arith, nat_tests) in
    let rest : list_any (is_bare (get slots)) ks ≡ false =
    bare-not_listed slots keys ks holds (λ j. (let more = count_by-cons (λ x. eqb x j) k ks in let whole = fewer j in omega arith)) in
    grind arith

none_bare : {T : Type 0} (slots : Slab T) (keys : List ℕ) → HoldsEach slots keys → list_any (is_bare (get slots)) keys ≡ false
none_bare slots keys holds = bare-not_listed slots keys keys holds (λ k. omega arith)

not_listed : (key : ℕ) (keys : List ℕ) → count_by (λ k. eqb k key) keys ≡ 0 → list_any (λ k. eqb k key) keys ≡ false
not_listed key keys h =
    elim (list_any (λ k. eqb k key) keys) as (λ b. list_any (λ k. eqb k key) keys ≡ b → b ≡ false) [
      | true ↦ λ is. (let some = count_by-some (λ k. eqb k key) keys is in absurd (omega arith))
      | false ↦ λ is. refl
    ] refl

-- the view of a place
pub row_at : {T : Type 0} (slots : Slab T) (keys : List ℕ) (i d : ℕ) → HoldsEach slots keys → i < length keys →
    slice_get (filter_map (get slots) keys) i ≡ get slots (get_or keys i d)
row_at slots keys i d holds h = slice_get-filter_map (get slots) keys i d (none_bare slots keys holds) h

pub row_past : {T : Type 0} (slots : Slab T) (keys : List ℕ) (i : ℕ) → HoldsEach slots keys → length keys ≤ i → slice_get (filter_map (get slots) keys) i ≡ None
row_past slots keys i holds h =
    let long = length-filter_map (get slots) keys (none_bare slots keys holds) in
    slice_get_past (filter_map (get slots) keys) i (omega arith)

pub rows_length : {T : Type 0} (slots : Slab T) (keys : List ℕ) → HoldsEach slots keys → length (filter_map (get slots) keys) ≡ length keys
rows_length slots keys holds = length-filter_map (get slots) keys (none_bare slots keys holds)

once-none : {T : Type 0} (slots : Slab T) (keys : List ℕ) (key : ℕ) → HoldsEach slots keys → get slots key ≡ None → count_by (λ k. eqb k key) keys ≡ 0
once-none slots keys key holds bare = holds.once key ∙ ap (λ o. cond (is_some o) 1 0) bare

count_by-remove : (p : ℕ → Bool) (keys : List ℕ) (i d : ℕ) → i < length keys → count_by p (remove keys i) + cond (p (get_or keys i d)) 1 0 ≡ count_by p keys
count_by-remove p keys i d h = sum_by-remove (λ k. cond (p k) 1 0) keys i d h

-- a value put under a key that bore none, and the key listed at a place
pub rows_insert : {T : Type 0} (slots new : Slab T) (keys : List ℕ) (i key : ℕ) (x : T) → HoldsEach slots keys → get slots key ≡ None → Updates slots new key (Some x) →
    i ≤ length keys → filter_map (get new) (insert keys i key) ≡ insert (filter_map (get slots) keys) i x
rows_insert slots new keys i key x holds bare up h =
    let none = not_listed key keys (once-none slots keys key holds bare) in
    let same = filter_map-same (get new) (get slots) key keys up.others none in
    let full = bare-same (get new) (get slots) key keys up.others none ∙ none_bare slots keys holds in
    filter_map-insert (get new) keys i key x full h up.changed ∙ ap (λ xs. insert xs i x) same

pub rows_remove : {T : Type 0} (slots new : Slab T) (keys : List ℕ) (i key : ℕ) → HoldsEach slots keys → i < length keys → get_or keys i key ≡ key → Updates slots new key None →
    filter_map (get new) (remove keys i) ≡ remove (filter_map (get slots) keys) i
rows_remove slots new keys i key holds h at up =
    let less = count_by-remove (λ k. eqb k key) keys i key h in
    let before = holds.once key in
    let gone : count_by (λ k. eqb k key) (remove keys i) ≡ 0 = grind (arith, nat_tests) in
    let none = not_listed key (remove keys i) gone in
    filter_map-same (get new) (get slots) key (remove keys i) up.others none ∙ filter_map-remove (get slots) keys i (none_bare slots keys holds) h

-- a listed key bears something
pub listed : {T : Type 0} (slots : Slab T) (keys : List ℕ) (i d : ℕ) → HoldsEach slots keys → i < length keys → is_some (get slots (get_or keys i d)) ≡ true
listed slots keys i d holds h =
    let key = get_or keys i d in
    let less = count_by-remove (λ k. eqb k key) keys i d h in
    let before = holds.once key in
    grind (arith, nat_tests)

-- a slot that bears something is one of the slots
within_slots : {T : Type 0} (slots : List (Option T)) (key : ℕ) → is_some (get_or slots key None) ≡ true → key < length slots
within_slots [] key h = cc
within_slots (x ∷ slots) zero h = omega arith
within_slots (x ∷ slots) (suc key) h = (let rest = within_slots slots key h in omega arith)

replaced : {T : Type 0} (slots : Slab T) (key : ℕ) (x : T) → is_some (get slots key) ≡ true → Updates slots (with_value slots key x) key (Some x)
replaced slots key x h =
    let within = within_slots slots.slots key h in
    record {
      changed = get_or-set_same slots.slots key (Some x) None within;
      others = λ other apart. get_or-set_other slots.slots key other (Some x) None apart;
    }

-- a value put in the stead of the one under a listed key
pub rows_replace : {T : Type 0} (slots : Slab T) (keys : List ℕ) (i key : ℕ) (x : T) → HoldsEach slots keys → i < length keys → get_or keys i key ≡ key →
    filter_map (get (with_value slots key x)) keys ≡ set (filter_map (get slots) keys) i x
rows_replace slots keys i key x holds h at =
    let new = with_value slots key x in
    let some : is_some (get slots key) ≡ true = subst (λ k. is_some (get slots k) ≡ true) at (listed slots keys i key holds h) in
    let up = replaced slots key x some in
    let less = count_by-remove (λ k. eqb k key) keys i key h in
    let before = holds.once key in
    let gone : count_by (λ k. eqb k key) (remove keys i) ≡ 0 = grind (arith, nat_tests) in
    let none = not_listed key (remove keys i) gone in
    let rest = bare-not_listed slots keys (remove keys i) holds (λ k. (let fewer = count_by-remove (λ j. eqb j k) keys i key h in omega arith)) in
    let full = bare-same (get new) (get slots) key (remove keys i) up.others none ∙ rest in
    let whole : insert (remove keys i) i key ≡ keys = subst (λ k. insert (remove keys i) i k ≡ keys) at (insert_remove keys i key h) in
    let long = length-remove keys i h in
    let lengths = length-filter_map (get slots) keys (none_bare slots keys holds) in
    ap (filter_map (get new)) (sym whole)
    ∙ filter_map-insert (get new) (remove keys i) i key x full (omega arith) up.changed
    ∙ ap (λ xs. insert xs i x) (filter_map-same (get new) (get slots) key (remove keys i) up.others none ∙ filter_map-remove (get slots) keys i (none_bare slots keys holds) h)
    ∙ sym (set-insert_remove (filter_map (get slots) keys) i x (omega arith))
