-- The slots that are listed are those that are looked up.
use Rattle.std.proofs.Common.{◌≡◌, ℕ, zero, suc, ◌+◌, Bool, true, false, List, [], ◌∷◌, ◌++◌, map, length, replicate, Option, Some, None, option_map, slice_get, if◌then◌else◌, refl, sym, ap, ◌∙◌, subst, arith}
use Rattle.std.specs.Option.{option_flatten}
use Rattle.std.proofs.lemmas.List.{length-append}
use Rattle.c_tree.specs.declared.items.Function.{Function}
use Rattle.c_tree.specs.declared.items.Local.{Local}
use Rattle.c_tree.specs.declared.items.Param.{Param}
use Rattle.c_tree.specs.Slots.{Slot, parameter, local, low_bound, high_bound, is_automatic, hidden_slots, slots, slot_names, hidden_from, hidden_firsts, locals_of, hidden_slot}
use Rattle.deputy_rules.specs.SlotLaws.{IsSlot, HasHidden, AreSlots}

-- ---- places in lists
in_front : {X : Type 0} (xs ys : List X) (k : ℕ) (x : X) → slice_get xs k ≡ Some x → slice_get (xs ++ ys) k ≡ Some x
in_front [] ys k x h = absurd cc
in_front (y ∷ xs) ys zero x h = h
in_front (y ∷ xs) ys (suc k) x h = in_front xs ys k x h

further : (n k : ℕ) → suc n + k ≡ suc (n + k)
further n k = omega arith

at_behind : {X : Type 0} (xs ys : List X) (k : ℕ) → slice_get (xs ++ ys) (length xs + k) ≡ slice_get ys k
at_behind [] ys k = ap (slice_get ys) (omega arith)
at_behind (x ∷ xs) ys k = ap (slice_get (x ∷ (xs ++ ys))) (further (length xs) k) ∙ at_behind xs ys k

at_mapped : {X Y : Type 0} (f : X → Y) (xs : List X) (k : ℕ) (x : X) → slice_get xs k ≡ Some x → slice_get (map f xs) k ≡ Some (f x)
at_mapped f [] k x h = absurd cc
at_mapped f (y ∷ xs) zero x h = let e : y ≡ x = cc in ap (λ z. Some (f z)) e
at_mapped f (y ∷ xs) (suc k) x h = at_mapped f xs k x h

mapped_length : {X Y : Type 0} (f : X → Y) (xs : List X) → length (map f xs) ≡ length xs
mapped_length f [] = refl
mapped_length f (x ∷ xs) = ap (λ n. suc n) (mapped_length f xs)

abbrev nothing : (X : Type 0) → List X
nothing X = []

none_at : (X : Type 0) (k : ℕ) → slice_get (nothing X) k ≡ None
none_at X zero = refl
none_at X (suc k) = refl

past_end : {X : Type 0} (xs : List X) (k : ℕ) → slice_get xs (length xs + k) ≡ None
past_end {X} [] k = none_at X (0 + k)
past_end (x ∷ xs) k = ap (slice_get (x ∷ xs)) (further (length xs) k) ∙ past_end xs k

no_parameter : {X : Type 0} (ps : List Param) (k : ℕ) (p : Param) (rest : List (Option X)) → slice_get ps k ≡ Some p → option_flatten (slice_get (replicate (length ps) None ++ rest) k) ≡ None
no_parameter [] k p rest h = absurd cc
no_parameter (q ∷ ps) zero p rest h = refl
no_parameter (q ∷ ps) (suc k) p rest h = no_parameter ps k p rest h

replicated : (n : ℕ) (rest : List (Option ℕ)) (k : ℕ) → slice_get (replicate n None ++ rest) (n + k) ≡ slice_get rest k
replicated zero rest k = ap (slice_get rest) (omega arith)
replicated (suc n) rest k = ap (slice_get (None ∷ (replicate n None ++ rest))) (further n k) ∙ replicated n rest k

-- ---- hidden slots
record IsPair (at : ℕ) (ls : List Local) (j : ℕ) (l : Local) : Type 0 where
  place : ℕ
  first : slice_get (hidden_from at ls) j ≡ Some (Some (at + place))
  low : slice_get (hidden_slots ls) place ≡ Some (low_bound l)
  high : slice_get (hidden_slots ls) (place + 1) ≡ Some (high_bound l)

pair_behind : (at : ℕ) (x : Local) (ls : List Local) (j : ℕ) (l : Local) → is_automatic x ≡ true → IsPair (at + 2) ls j l → IsPair at (x ∷ ls) (suc j) l
pair_behind at x ls j l a p = record {
  place = p.place + 2;
  first = ap (λ (b : Bool). slice_get (if b then Some at ∷ hidden_from (at + 2) ls else None ∷ hidden_from at ls) (suc j)) a ∙ p.first ∙ ap (λ (n : ℕ). Some (Some n)) (omega arith);
  low = ap (λ (b : Bool). slice_get (if b then low_bound x ∷ high_bound x ∷ hidden_slots ls else hidden_slots ls) (p.place + 2)) a ∙ (by p.place ∙ p.low);
  high = ap (λ (b : Bool). slice_get (if b then low_bound x ∷ high_bound x ∷ hidden_slots ls else hidden_slots ls) (p.place + 2 + 1)) a ∙ (ap (slice_get (low_bound x ∷ high_bound x ∷ hidden_slots ls)) (omega arith) ∙ (by (p.place + 1) ∙ p.high));
}
  where
    by : (n : ℕ) → slice_get (low_bound x ∷ high_bound x ∷ hidden_slots ls) (n + 2) ≡ slice_get (hidden_slots ls) n
    by n = ap (slice_get (low_bound x ∷ high_bound x ∷ hidden_slots ls)) (two n)
      where
        two : (n : ℕ) → n + 2 ≡ suc (suc n)
        two n = omega arith

pair_plain : (at : ℕ) (x : Local) (ls : List Local) (j : ℕ) (l : Local) → is_automatic x ≡ false → IsPair at ls j l → IsPair at (x ∷ ls) (suc j) l
pair_plain at x ls j l a p = record {
  place = p.place;
  first = ap (λ (b : Bool). slice_get (if b then Some at ∷ hidden_from (at + 2) ls else None ∷ hidden_from at ls) (suc j)) a ∙ p.first;
  low = ap (λ (b : Bool). slice_get (if b then low_bound x ∷ high_bound x ∷ hidden_slots ls else hidden_slots ls) p.place) a ∙ p.low;
  high = ap (λ (b : Bool). slice_get (if b then low_bound x ∷ high_bound x ∷ hidden_slots ls else hidden_slots ls) (p.place + 1)) a ∙ p.high;
}

pair_here : (at : ℕ) (ls : List Local) (l : Local) → is_automatic l ≡ true → IsPair at (l ∷ ls) 0 l
pair_here at ls l a = record {
  place = 0;
  first = ap (λ (b : Bool). slice_get (if b then Some at ∷ hidden_from (at + 2) ls else None ∷ hidden_from at ls) 0) a ∙ ap (λ (n : ℕ). Some (Some n)) (omega arith);
  low = ap (λ (b : Bool). slice_get (if b then low_bound l ∷ high_bound l ∷ hidden_slots ls else hidden_slots ls) 0) a;
  high = ap (λ (b : Bool). slice_get (if b then low_bound l ∷ high_bound l ∷ hidden_slots ls else hidden_slots ls) (0 + 1)) a;
}

pair_at : (at : ℕ) (ls : List Local) (j : ℕ) (l : Local) → slice_get ls j ≡ Some l → is_automatic l ≡ true → IsPair at ls j l
pair_at at [] j l h a = absurd cc
pair_at at (x ∷ ls) zero l h a = let e : l ≡ x = cc in subst (λ (y : Local). IsPair at (y ∷ ls) 0 l) e (pair_here at ls l a)
pair_at at (x ∷ ls) (suc j) l h a = by (is_automatic x) refl (pair_at (at + 2) ls j l h a) (pair_at at ls j l h a)
  where
    by : (b : Bool) → is_automatic x ≡ b → IsPair (at + 2) ls j l → IsPair at ls j l → IsPair at (x ∷ ls) (suc j) l
    by true e p q = pair_behind at x ls j l e p
    by false e p q = pair_plain at x ls j l e q

none_plain : (at : ℕ) (ls : List Local) (j : ℕ) (l : Local) → slice_get ls j ≡ Some l → is_automatic l ≡ false → slice_get (hidden_from at ls) j ≡ Some None
none_plain at [] j l h a = absurd cc
none_plain at (x ∷ ls) zero l h a =
    let same : l ≡ x = cc in
    let e : is_automatic x ≡ false = subst (λ (y : Local). is_automatic y ≡ false) same a in
    ap (λ (b : Bool). slice_get (if b then Some at ∷ hidden_from (at + 2) ls else None ∷ hidden_from at ls) 0) e
none_plain at (x ∷ ls) (suc j) l h a = by (is_automatic x) refl (none_plain (at + 2) ls j l h a) (none_plain at ls j l h a)
  where
    by : (b : Bool) → is_automatic x ≡ b → slice_get (hidden_from (at + 2) ls) j ≡ Some None → slice_get (hidden_from at ls) j ≡ Some None
        → slice_get (if is_automatic x then Some at ∷ hidden_from (at + 2) ls else None ∷ hidden_from at ls) (suc j) ≡ Some None
    by true e p q = ap (λ (b : Bool). slice_get (if b then Some at ∷ hidden_from (at + 2) ls else None ∷ hidden_from at ls) (suc j)) e ∙ p
    by false e p q = ap (λ (b : Bool). slice_get (if b then Some at ∷ hidden_from (at + 2) ls else None ∷ hidden_from at ls) (suc j)) e ∙ q

module _ (f : Function) where
  abbrev ps : List Param
  ps = f.head.params

  abbrev ls : List Local
  ls = f.locals

  abbrev np : ℕ
  np = length ps

  abbrev behind : List Slot
  behind = map local ls ++ hidden_slots ls

  slot_behind : (k : ℕ) (s : Slot) → slice_get behind k ≡ Some s → slice_get (slots f) (np + k) ≡ Some s
  slot_behind k s h = ap (λ (n : ℕ). slice_get (slots f) (n + k)) (sym (mapped_length parameter ps)) ∙ at_behind (map parameter ps) behind k ∙ h

  name_behind : (k : ℕ) → slice_get (slot_names f) (np + k) ≡ slice_get (map (λ (l : Local). l.name) ls) k
  name_behind k =
      ap (λ (n : ℕ). slice_get (slot_names f) (n + k)) (sym (mapped_length (λ (p : Param). p.name) ps)) ∙ at_behind (map (λ (p : Param). p.name) ps) (map (λ (l : Local). l.name) ls) k

  hidden_at : (k : ℕ) → hidden_slot (locals_of f) (np + k) ≡ option_flatten (slice_get (hidden_from (np + length ls) ls) k)
  unfolding hidden_slot
  hidden_at k = ap option_flatten (replicated np (hidden_from (np + length ls) ls) k)

  -- a hidden slot, by its place among them
  hidden_is : (i : ℕ) (s : Slot) → slice_get (hidden_slots ls) i ≡ Some s → IsSlot f (np + length ls + i) s None
  hidden_is i s h = record {
    listed = ap (slice_get (slots f)) (grouped np (length ls) i) ∙ slot_behind (length ls + i) s (ap (λ (n : ℕ). slice_get behind (n + i)) (sym (mapped_length local ls)) ∙ at_behind (map local ls) (hidden_slots ls) i ∙ h);
    named = ap (slice_get (slot_names f)) (grouped np (length ls) i) ∙ name_behind (length ls + i)
        ∙ ap (λ (n : ℕ). slice_get (map (λ (l : Local). l.name) ls) (n + i)) (sym (mapped_length (λ (l : Local). l.name) ls)) ∙ past_end (map (λ (l : Local). l.name) ls) i;
  }
    where
      grouped : (a b c : ℕ) → a + b + c ≡ a + (b + c)
      grouped a b c = omega arith

  pub slots_listed : AreSlots f
  unfolding hidden_slot
  slots_listed = record {
    parameters = λ k p h. (
      record {
        listed = in_front (map parameter ps) behind k (parameter p) (at_mapped parameter ps k p h);
        named = in_front (map (λ (p : Param). p.name) ps) (map (λ (l : Local). l.name) ls) k p.name (at_mapped (λ (p : Param). p.name) ps k p h);
      },
      no_parameter ps k p (hidden_from (np + length ls) ls) h,
    );
    locals = λ j l h. record {
      listed = slot_behind j (local l) (in_front (map local ls) (hidden_slots ls) j (local l) (at_mapped local ls j l h));
      named = name_behind j ∙ at_mapped (λ (l : Local). l.name) ls j l h;
    };
    plain = λ j l h a. hidden_at j ∙ ap option_flatten (none_plain (np + length ls) ls j l h a);
    automatic = λ j l h a.
        let p = pair_at (np + length ls) ls j l h a in
        record {
          first = np + length ls + p.place;
          looked_up = hidden_at j ∙ ap option_flatten p.first;
          low = hidden_is p.place (low_bound l) p.low;
          high = subst (λ (n : ℕ). IsSlot f n (high_bound l) None) (omega arith) (hidden_is (p.place + 1) (high_bound l) p.high);
        };
    all = length-append (map parameter ps) behind ∙ counted (length (map parameter ps)) np (length behind) (length ls + length (hidden_slots ls)) (mapped_length parameter ps)
        (length-append (map local ls) (hidden_slots ls) ∙ ap (λ (n : ℕ). n + length (hidden_slots ls)) (mapped_length local ls));
  }
    where
      counted : (a b c d : ℕ) → a ≡ b → c ≡ d → a + c ≡ b + d
      counted a b c d p q = cc
