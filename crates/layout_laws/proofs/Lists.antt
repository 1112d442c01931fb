-- Lists that grow at their end, and two lists that go together element by element.
use Rattle.std.proofs.Common.{◌≡◌, ℕ, zero, suc, ◌+◌, List, [], ◌∷◌, ◌++◌, length, Some, slice_get, refl, sym, ◌∙◌, ap, subst, append_assoc, arith}
use Rattle.std.specs.List.{AllZip}
use Rattle.std.proofs.lemmas.List.{append-nil}

-- ---- a list that grew
pub record Extends {X : Type 0} (xs ys : List X) : Type 0 where
  pub more : List X
  pub is : ys ≡ xs ++ more

pub extends_itself : {X : Type 0} (xs : List X) → Extends xs xs
extends_itself xs = record { more = []; is = sym (append-nil xs) }

pub extends_push : {X : Type 0} (xs ys : List X) (x : X) → ys ≡ xs ++ x ∷ [] → Extends xs ys
extends_push xs ys x e = record { more = x ∷ []; is = e }

pub extends_twice : {X : Type 0} (xs ys zs : List X) → Extends xs ys → Extends ys zs → Extends xs zs
extends_twice {X = X} xs ys zs e f = record {
  more = e.more ++ f.more;
  is = f.is ∙ (ap (λ (l : List X). l ++ f.more) e.is ∙ append_assoc xs e.more f.more);
}

pub slice_front : {X : Type 0} (xs ys : List X) (k : ℕ) (x : X) → slice_get xs k ≡ Some x → slice_get (xs ++ ys) k ≡ Some x
slice_front [] ys k x e = absurd cc
slice_front (z ∷ xs) ys zero x e = e
slice_front (z ∷ xs) ys (suc k) x e = slice_front xs ys k x e

pub slice_behind : {X : Type 0} (xs ys : List X) (k n : ℕ) (x : X) → length xs ≡ n → slice_get ys k ≡ Some x → slice_get (xs ++ ys) (n + k) ≡ Some x
slice_behind [] ys k n x l e = let same : k ≡ n + k = omega arith in subst (λ (m : ℕ). slice_get ys m ≡ Some x) same e
slice_behind (z ∷ xs) ys k zero x l e = absurd (omega arith)
slice_behind (z ∷ xs) ys k (suc n) x l e =
    let next : suc (n + k) ≡ suc n + k = omega arith in
    subst (λ (m : ℕ). slice_get (z ∷ (xs ++ ys)) m ≡ Some x) next (slice_behind xs ys k n x (omega arith) e)

pub slice_extended : {X : Type 0} (xs ys : List X) (k : ℕ) (x : X) → Extends xs ys → slice_get xs k ≡ Some x → slice_get ys k ≡ Some x
slice_extended {X = X} xs ys k x h e = subst (λ (l : List X). slice_get l k ≡ Some x) (sym h.is) (slice_front xs h.more k x e)

-- ---- element by element
pub zip_length : {A B : Type 0} (R : A → B → Type 0) (xs : List A) (ys : List B) → AllZip R xs ys → length xs ≡ length ys
zip_length R [] [] h = refl
zip_length R [] (y ∷ ys) h = absurd h
zip_length R (x ∷ xs) [] h = absurd h
zip_length R (x ∷ xs) (y ∷ ys) h = ap suc (zip_length R xs ys h.1)

-- what goes with an element
pub record GoesWith {A B : Type 0} (R : A → B → Type 0) (x : A) (ys : List B) (k : ℕ) : Type 0 where
  pub other : B
  pub at : slice_get ys k ≡ Some other
  pub goes : R x other

pub zip_at : {A B : Type 0} (R : A → B → Type 0) (xs : List A) (ys : List B) (k : ℕ) (x : A) → AllZip R xs ys → slice_get xs k ≡ Some x → GoesWith R x ys k
zip_at R [] ys k x h e = absurd cc
zip_at R (z ∷ xs) [] k x h e = absurd h
zip_at {A = A} R (z ∷ xs) (y ∷ ys) zero x h e = let same : z ≡ x = cc in record { other = y; at = refl; goes = subst (λ (a : A). R a y) same h.0 }
zip_at R (z ∷ xs) (y ∷ ys) (suc k) x h e = let r = zip_at R xs ys k x h.1 e in record { other = r.other; at = r.at; goes = r.goes }

-- two relations joined
pub zip_joined : {A B C : Type 0} (R : A → B → Type 0) (S : B → C → Type 0) (T : A → C → Type 0) → ((a : A) (b : B) (c : C) → R a b → S b c → T a c)
    → (xs : List A) (ys : List B) (zs : List C) → AllZip R xs ys → AllZip S ys zs → AllZip T xs zs
zip_joined R S T f [] [] [] h k = tt
zip_joined R S T f [] [] (z ∷ zs) h k = absurd k
zip_joined R S T f [] (y ∷ ys) zs h k = absurd h
zip_joined R S T f (x ∷ xs) [] zs h k = absurd h
zip_joined R S T f (x ∷ xs) (y ∷ ys) [] h k = absurd k
zip_joined R S T f (x ∷ xs) (y ∷ ys) (z ∷ zs) h k = (f x y z h.0 k.0, zip_joined R S T f xs ys zs h.1 k.1)
