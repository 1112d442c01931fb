-- A memory in which an image was copied holds each of its blocks, and is as it was elsewhere.
use Rattle.std.proofs.Common.{◌≡◌, ◌⊎◌, inl, inr, ℕ, zero, suc, ◌+◌, ◌≤◌, ◌<◌, List, [], ◌∷◌, All, length, drop, Some, slice_get}
use Rattle.std.proofs.Common.{slice_index_or, refl, sym, ap, ◌∙◌, subst, arith, get_or-take, get_or-drop}
use Rattle.std.proofs.lemmas.List.Elements.{All-head, All-tail}
use Rattle.byte_memory.specs.Bytes.{bytes_at, overwritten}
use Rattle.byte_memory.proofs.Addresses.{bytes_at-overwritten}
use Rattle.byte_memory.proofs.Words.{length-overwritten}
use Rattle.checked_tree.specs.declared.units.ImageBlock.{ImageBlock}
use Rattle.layout_laws.specs.LoadImage.{AreApart}
use Rattle.driver_safety.specs.FirstDriver.{copied_in}
use Rattle.driver_safety.proofs.memory.Outside.{other_byte}
use Rattle.driver_safety.proofs.memory.Writes.{written_small}

some_same : (a b : ImageBlock) → Some a ≡ Some b → a ≡ b
some_same a b h = cc

-- a block that has its bytes, and ends within so many
pub record LiesWithin (n : ℕ) (i : ImageBlock) : Type 0 where
  pub long : length i.bytes ≡ i.size
  pub to : i.base + i.size ≤ n

fits : (n : ℕ) (bytes : List ℕ) (i : ImageBlock) → length bytes ≡ n → LiesWithin n i → i.base + length i.bytes ≤ length bytes
fits n bytes i long w = let own = w.long in let to = w.to in omega (arith, long, own, to)

longer : (n : ℕ) (bytes : List ℕ) (i : ImageBlock) → length bytes ≡ n → LiesWithin n i → length (overwritten bytes i.base i.bytes) ≡ n
longer n bytes i long w = length-overwritten bytes i.bytes i.base (fits n bytes i long w) ∙ long

pub copied_long : (n : ℕ) (image : List ImageBlock) (bytes : List ℕ) → length bytes ≡ n → All (LiesWithin n) image
    → length (copied_in image bytes) ≡ n
copied_long n [] bytes long all = long
copied_long n (i ∷ image) bytes long all =
    copied_long n image (overwritten bytes i.base i.bytes) (longer n bytes i long (All-head (LiesWithin n) i image all))
    (All-tail (LiesWithin n) i image all)

pub copied_small : (image : List ImageBlock) (bytes : List ℕ) → All (λ b. b < 256) bytes → All (λ i. All (λ b. b < 256) i.bytes) image
    → All (λ b. b < 256) (copied_in image bytes)
copied_small [] bytes small all = small
copied_small (i ∷ image) bytes small all =
    copied_small image (overwritten bytes i.base i.bytes)
    (written_small bytes i.bytes i.base small (All-head (λ i. All (λ b. b < 256) i.bytes) i image all))
    (All-tail (λ i. All (λ b. b < 256) i.bytes) i image all)

-- a byte outside of a block
abbrev pub LiesOff : ℕ → ImageBlock → Type 0
LiesOff k i = (k + 1 ≤ i.base) ⊎ (i.base + i.size ≤ k)

off_bytes : (k : ℕ) (i : ImageBlock) → length i.bytes ≡ i.size → LiesOff k i → (k + 1 ≤ i.base) ⊎ (i.base + length i.bytes ≤ k)
off_bytes k i long (inl l) = inl l
off_bytes k i long (inr l) = inr (omega (arith, long, l))

pub copied_off : (n : ℕ) (image : List ImageBlock) (bytes : List ℕ) (k : ℕ) → length bytes ≡ n → All (LiesWithin n) image → k < n
    → All (LiesOff k) image → slice_index_or (copied_in image bytes) k 0 ≡ slice_index_or bytes k 0
copied_off n [] bytes k long all less off = refl
copied_off n (i ∷ image) bytes k long all less off =
    let w = All-head (LiesWithin n) i image all in
    copied_off n image (overwritten bytes i.base i.bytes) k (longer n bytes i long w) (All-tail (LiesWithin n) i image all) less
    (All-tail (LiesOff k) i image off)
    ∙ other_byte bytes i.bytes i.base k (fits n bytes i long w) (omega (arith, long, less))
    (off_bytes k i w.long (All-head (LiesOff k) i image off))

-- a byte that is written
written_byte : (bytes new : List ℕ) (a k : ℕ) → a + length new ≤ length bytes → k < length new
    → slice_index_or (overwritten bytes a new) (a + k) 0 ≡ slice_index_or new k 0
unfolding bytes_at
written_byte bytes new a k within less =
    sym (get_or-drop a (overwritten bytes a new) k 0)
    ∙ (sym (get_or-take (length new) (drop a (overwritten bytes a new)) k 0 less)
    ∙ ap (λ (l : List ℕ). slice_index_or l k 0) (bytes_at-overwritten bytes new a (length new) refl within))

-- blocks behind another leave it alone
off_behind : (i : ImageBlock) (image : List ImageBlock) (k : ℕ) → k < i.size → All (λ (c : ImageBlock). i.base + i.size ≤ c.base) image
    → All (LiesOff (i.base + k)) image
off_behind i image k less all j d l = let behind = all j d l in inl (omega (arith, less, behind))

pub copied_holds : (n : ℕ) (image : List ImageBlock) (bytes : List ℕ) (j : ℕ) (i : ImageBlock) (k : ℕ) → length bytes ≡ n
    → All (LiesWithin n) image → AreApart image → slice_get image j ≡ Some i → k < i.size
    → slice_index_or (copied_in image bytes) (i.base + k) 0 ≡ slice_index_or i.bytes k 0
copied_holds n [] bytes j i k long all apart at less = absurd cc
copied_holds n (h ∷ image) bytes (suc j) i k long all apart at less =
    copied_holds n image (overwritten bytes h.base h.bytes) j i k (longer n bytes h long (All-head (LiesWithin n) h image all))
    (All-tail (LiesWithin n) h image all) apart.1 at less
copied_holds n (h ∷ image) bytes zero i k long all apart at less =
    subst (λ (x : ImageBlock). k < x.size → slice_index_or (copied_in (h ∷ image) bytes) (x.base + k) 0 ≡ slice_index_or x.bytes k 0)
    (some_same h i at) first less
  where
    first : k < h.size → slice_index_or (copied_in (h ∷ image) bytes) (h.base + k) 0 ≡ slice_index_or h.bytes k 0
    first less =
        let w = All-head (LiesWithin n) h image all in
        let own = w.long in
        let to = w.to in
        copied_off n image (overwritten bytes h.base h.bytes) (h.base + k) (longer n bytes h long w) (All-tail (LiesWithin n) h image all)
        (omega (arith, less, to)) (off_behind h image k less apart.0)
        ∙ written_byte bytes h.bytes h.base k (fits n bytes h long w) (omega (arith, less, own))
