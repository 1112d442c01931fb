-- The driver of a text, as it is loaded: each block of the image is granted and holds its bytes, and all else is 0.
use Rattle.std.proofs.Common.{◌≡◌, inl, inr, IsTrue, ℕ, zero, suc, ◌+◌, ◌*◌, ◌<◌, ◌≤◌, nat_lt, Bool, true, false, List, [], ◌∷◌}
use Rattle.std.proofs.Common.{map, length, All, Some, Ok, Contains, slice_get, slice_index_or, refl, sym, ap, ◌∙◌, subst, true≢false, arith}
use Rattle.std.proofs.Common.{length-append}
use Rattle.std.specs.List.{Any}
use Rattle.std.proofs.lemmas.Bool.Decides.{nat_tests}
use Rattle.std.proofs.lemmas.List.{get_or_past, get_or-replicate}
use Rattle.std.proofs.lemmas.List.Elements.{All-nil, All-cons, All-replicate}
use Rattle.std.proofs.lemmas.List.Folds.{Any-from_list_any, list_any-from_Any}
use Rattle.byte_memory.specs.declared.tested.GrantedRange.{GrantedRange}
use Rattle.byte_memory.specs.Bytes.{zeros}
use Rattle.byte_memory.specs.Tested.{contains, is_inside}
use Rattle.byte_memory.proofs.Grants.{contains_bounds}
use Rattle.byte_memory.proofs.Words.{length-zeros}
use Rattle.sd_base.specs.Blocks.{Block, block_end}
use Rattle.c_tree.specs.declared.items.Unit.{Unit as TextUnit}
use Rattle.checked_tree.specs.declared.units.ImageBlock.{ImageBlock}
use Rattle.deputy_types.specs.Fitting.{elem_bytes}
use Rattle.deputy_types.specs.Table.{Table}
use Rattle.deputy_types.specs.UnitLayout.{layout}
use Rattle.layout_laws.specs.LoadImage.{IsWithinImage}
use Rattle.light_checks.proofs.Annotating.{looked_up}
use Rattle.driver_safety.specs.FirstDriver.{block_of, range_of, first_driver, EachTextCanBeLoaded}
use Rattle.driver_safety.specs.LoadLaw.{IsLoadedBlock, IsLoaded}
use Rattle.driver_safety.specs.RunLaw.{Driver, LiesIn, IsOwn}
use Rattle.driver_safety.proofs.memory.CopyingIn.{LiesWithin, LiesOff, copied_long, copied_small, copied_off, copied_holds}
use Rattle.driver_safety.proofs.memory.Loading.{Kind, image, kind, has_kind}

-- ---- lists
some_same : {A : Type 0} (a b : A) → Some a ≡ Some b → a ≡ b
some_same a b h = cc

all_from : {A : Type 0} (P : A → Type 0) (xs : List A) → ((k : ℕ) (x : A) → slice_get xs k ≡ Some x → P x) → All P xs
all_from P [] f = All-nil P
all_from P (x ∷ xs) f = All-cons P x xs (f 0 x refl) (all_from P xs (λ k y e. f (suc k) y e))

-- an element of a list that was made from another
listed : {A B : Type 0} (f : A → B) (xs : List A) (b d : B) (k : ℕ) → k < length (map f xs) → slice_index_or (map f xs) k d ≡ b
    → (j : ℕ) × (x : A) × (slice_get xs j ≡ Some x) × (b ≡ f x)
listed f [] b d k l e = absurd (omega (arith, l))
listed f (x ∷ xs) b d zero l e = (0, x, refl, sym e)
listed f (x ∷ xs) b d (suc k) l e = let r = listed f xs b d k (omega (arith, l)) e in (suc r.0, r.1, r.2, r.3)

contains_at : {A B : Type 0} (f : A → B) (xs : List A) (k : ℕ) (x : A) → slice_get xs k ≡ Some x → Contains (map f xs) (f x)
contains_at f [] k x e = absurd cc
contains_at f (y ∷ xs) zero x e = (0, omega arith, ap f (some_same y x e))
contains_at f (y ∷ xs) (suc k) x e =
    let r = contains_at f xs k x e in
    let less = r.1 in
    (suc r.0, omega (arith, less), r.2)

zero_at : (n k : ℕ) → k < n → slice_index_or (zeros n) k 0 ≡ 0
unfolding zeros
zero_at n k l = get_or-replicate n k 0 0 l

zeros_small : (n : ℕ) → All (λ b. b < 256) (zeros n)
unfolding zeros
zeros_small n = All-replicate (λ b. b < 256) n 0 (omega arith)

module _ (u : TextUnit) (t : Table) (h : layout u ≡ Ok t) (small : All (λ (i : ImageBlock). All (λ b. b < 256) i.bytes) t.image) (n : ℕ)
    (room : 524288 ≤ n) where
  abbrev d : Driver
  d = first_driver t n

  own_bytes : (i : ImageBlock) → Kind u t h i → length i.bytes ≡ i.size
  own_bytes i (inl g) = g.1.bytes
  own_bytes i (inr s) = ap length s.1.bytes ∙ (length-append s.0 (0 ∷ []) ∙ sym s.1.size)

  lies : (k : ℕ) (i : ImageBlock) → slice_get t.image k ≡ Some i → LiesWithin n i
  lies k i at =
      let w = looked_up IsWithinImage t.image k i (image u t h).within at in
      let to = w.to in
      record { long = own_bytes i (kind u t h k i at); to = omega (arith, to, room) }

  within : All (LiesWithin n) t.image
  within = all_from (LiesWithin n) t.image lies

  long : length d.memory.bytes ≡ n
  long = copied_long n t.image (zeros n) (length-zeros n) within

  plain : (i : ImageBlock) → IsLoadedBlock t i (block_of t i)
  plain i = record { base = refl; count = refl; elem = refl; nullterm = refl; size = refl }

  end_is : (k : ℕ) (i : ImageBlock) → slice_get t.image k ≡ Some i → block_end (block_of t i) ≡ i.base + i.size
  end_is k i at =
      ap (λ (m : ℕ). i.base + m)
      (turned (elem_bytes t.elems t.structs i.elem) i.count ∙ sym (has_kind u t h i (kind u t h k i at)).size)
    where
      turned : (a b : ℕ) → a * b ≡ b * a
      turned a b = grind arith

  -- what lies in a block of the image is inside
  inside : (k : ℕ) (i : ImageBlock) (at m : ℕ) → slice_get t.image k ≡ Some i → i.base ≤ at → at + m ≤ i.base + i.size
      → IsTrue (is_inside d.memory at m)
  inside k i at m e from to =
      let r = contains_at range_of t.image k i e in
      list_any-from_Any (contains at m) (map range_of t.image) (r.0, range_of i, r.1, r.2, here)
    where
      here : contains at m (range_of i) ≡ true
      here = grind (arith, nat_tests)

  loaded : IsLoaded t d.blocks d.memory
  loaded = record {
    bytes = copied_small t.image (zeros n) (zeros_small n) small;
    long = omega (arith, long, room);
    each = λ b c.
        let r = listed (block_of t) t.image b b c.0 c.1 c.2 in (r.0, r.1, r.2, subst (IsLoadedBlock t r.1) (sym r.3) (plain r.1));
    granted = λ k i at. (block_of t i, contains_at (block_of t) t.image k i at, plain i);
    inside = λ b c at m from to. by b (listed (block_of t) t.image b b c.0 c.1 c.2) at m from to;
    holds = λ k i at j less. copied_holds n t.image (zeros n) k i j (length-zeros n) within (image u t h).apart at less;
  }
    where
      by : (b : Block) → ((k : ℕ) × (i : ImageBlock) × (slice_get t.image k ≡ Some i) × (b ≡ block_of t i)) → (at m : ℕ) → b.base ≤ at
          → at + m ≤ block_end b → IsTrue (is_inside d.memory at m)
      by b r at m from to =
          inside r.0 r.1 at m r.2 (subst (λ (c : Block). c.base ≤ at) r.3 from)
          (subst (λ (e : ℕ). at + m ≤ e) (end_is r.0 r.1 r.2) (subst (λ (c : Block). at + m ≤ block_end c) r.3 to))

  own : IsOwn d.blocks d.memory
  own = record { only = only; zero = λ k out. by k out (nat_lt k n) refl }
    where
      only : (k : ℕ) → IsTrue (is_inside d.memory k 1) → (b : Block) × Contains d.blocks b × LiesIn b k
      only k granted =
          let found : Any (λ range. contains k 1 range ≡ true) (map range_of t.image)
          = Any-from_list_any (contains k 1) (map range_of t.image) granted in
          let r = listed range_of t.image found.1 found.1 found.0 found.2 found.3 in
          let range = contains_bounds k 1 (range_of r.1) (subst (λ (g : GrantedRange). contains k 1 g ≡ true) r.3 found.4) in
          let end = end_is r.0 r.1 r.2 in
          let to = range.1 in
          (block_of t r.1, contains_at (block_of t) t.image r.0 r.1 r.2, (range.0, omega (arith, end, to)))

      off : (k : ℕ) → is_inside d.memory k 1 ≡ false → (j : ℕ) (i : ImageBlock) → slice_get t.image j ≡ Some i → LiesOff k i
      off k out j i at = apart (nat_lt k i.base) (nat_lt k (i.base + i.size)) refl refl
        where
          apart : (x y : Bool) → nat_lt k i.base ≡ x → nat_lt k (i.base + i.size) ≡ y → LiesOff k i
          apart true y p q = inl (let less : k < i.base = grind (arith, nat_tests) in omega (arith, less))
          apart false false p q = inr (grind (arith, nat_tests))
          apart false true p q =
              let from : i.base ≤ k = grind (arith, nat_tests) in
              let to : k < i.base + i.size = grind (arith, nat_tests) in
              absurd (true≢false (sym (inside j i k 1 at from (omega (arith, to))) ∙ out))

      by : (k : ℕ) → is_inside d.memory k 1 ≡ false → (b : Bool) → nat_lt k n ≡ b → slice_index_or d.memory.bytes k 0 ≡ 0
      by k out true e =
          let less : k < n = grind (arith, nat_tests) in
          copied_off n t.image (zeros n) k (length-zeros n) within less (all_from (LiesOff k) t.image (off k out)) ∙ zero_at n k less
      by k out false e =
          let past : n ≤ k = grind (arith, nat_tests) in
          get_or_past d.memory.bytes k 0 (omega (arith, past, long))

pub each_text_loaded : EachTextCanBeLoaded
each_text_loaded u t h small n room = record {
  loaded = loaded u t h small n room;
  own = own u t h small n room;
  none = refl;
}
