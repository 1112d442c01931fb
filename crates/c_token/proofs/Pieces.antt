-- Texts cut into pieces: the front of a class and the rest, and cuts at a length.
use Rattle.std.proofs.Common.{◌≡◌, ℕ, ◌+◌, ◌-◌, ◌<◌, ◌≤◌, Bool, true, false, cond, [], ◌∷◌, ◌++◌, length, take, drop, ◌⊎◌, inl, inr, refl, sym, ap, ◌∙◌, arith, length-append, length-drop, append_assoc}
use Rattle.std.specs.List.{list_all}
use Rattle.std.proofs.Math.Seq.{take-append_seam, drop-append_seam, take-length}
use Rattle.c_tree.specs.Bytes.{Text, first_is}
use Rattle.c_token.specs.Scans.{front_of, rest_of, front_length}
use Rattle.c_token.proofs.Choices.{both}

-- a text is its front and its rest
pub front-rest : (p : ℕ → Bool) (t : Text) → t ≡ front_of p t ++ rest_of p t
front-rest p [] = refl
front-rest p (c ∷ t) = elim (p c) as (λ b. c ∷ t ≡ cond b (c ∷ front_of p t) [] ++ cond b (rest_of p t) (c ∷ t)) [ true ↦ ap (λ x. c ∷ x) (front-rest p t) | false ↦ refl ]

pub all-front : (p : ℕ → Bool) (t : Text) → list_all p (front_of p t) ≡ true
all-front p [] = refl
all-front p (c ∷ t) =
    (elim (p c) as (λ b. p c ≡ b → list_all p (cond b (c ∷ front_of p t) []) ≡ true) [ true ↦ λ h. rw h (all-front p t) | false ↦ λ h. refl ]) refl

pub first-rest : (p : ℕ → Bool) (t : Text) → first_is p (rest_of p t) ≡ false
first-rest p [] = refl
first-rest p (c ∷ t) =
    (elim (p c) as (λ b. p c ≡ b → first_is p (cond b (rest_of p t) (c ∷ t)) ≡ false) [ true ↦ λ h. first-rest p t | false ↦ λ h. h ]) refl

-- a part of one class, with a part behind it that does not begin so, is the front
pub rest_of-append : (p : ℕ → Bool) (d s : Text) → list_all p d ≡ true → first_is p s ≡ false → rest_of p (d ++ s) ≡ s
rest_of-append p [] [] h g = refl
rest_of-append p [] (c ∷ s) h g = rw g refl
rest_of-append p (c ∷ d) s h g = let q = both (p c) (list_all p d) h in rw q.0 (rest_of-append p d s q.1 g)

pub front_of-append : (p : ℕ → Bool) (d s : Text) → list_all p d ≡ true → first_is p s ≡ false → front_of p (d ++ s) ≡ d
front_of-append p [] [] h g = refl
front_of-append p [] (c ∷ s) h g = rw g refl
front_of-append p (c ∷ d) s h g = let q = both (p c) (list_all p d) h in rw q.0 (ap (λ x. c ∷ x) (front_of-append p d s q.1 g))

-- how long the front is
pub front_length-front : (p : ℕ → Bool) (n : ℕ) (t : Text) → front_length p n t ≡ n + length (front_of p t)
front_length-front p n [] = omega arith
front_length-front p n (c ∷ t) =
    elim (p c) as (λ b. cond b (front_length p (n + 1) t) n ≡ n + length (cond b (c ∷ front_of p t) [])) [ true ↦ omega (arith, front_length-front p (n + 1) t) | false ↦ omega arith ]

pub length-rest : (p : ℕ → Bool) (t : Text) → length (rest_of p t) ≤ length t
length-rest p [] = omega arith
length-rest p (c ∷ t) = elim (p c) as (λ b. length (cond b (rest_of p t) (c ∷ t)) ≤ length (c ∷ t)) [ true ↦ omega (arith, length-rest p t) | false ↦ omega arith ]

-- behind a piece of the class the rest is shorter, or is all there is
pub rest_or_all : (p : ℕ → Bool) (t : Text) → (length (rest_of p t) < length t) ⊎ ((t ≡ rest_of p t) × (front_of p t ≡ []))
rest_or_all p [] = inr (refl, refl)
rest_or_all p (c ∷ t) =
    elim (p c) as (λ b. (length (cond b (rest_of p t) (c ∷ t)) < length (c ∷ t)) ⊎ ((c ∷ t ≡ cond b (rest_of p t) (c ∷ t)) × (cond b (c ∷ front_of p t) [] ≡ [])))
    [ true ↦ inl (omega (arith, length-rest p t)) | false ↦ inr (refl, refl) ]

-- the front and the rest of a text that begins with a piece of the class
pub front_of-piece : (p : ℕ → Bool) (d s : Text) → list_all p d ≡ true → front_of p (d ++ s) ≡ d ++ front_of p s
front_of-piece p [] s h = refl
front_of-piece p (c ∷ d) s h = let q = both (p c) (list_all p d) h in rw q.0 (ap (λ x. c ∷ x) (front_of-piece p d s q.1))

pub rest_of-piece : (p : ℕ → Bool) (d s : Text) → list_all p d ≡ true → rest_of p (d ++ s) ≡ rest_of p s
rest_of-piece p [] s h = refl
rest_of-piece p (c ∷ d) s h = let q = both (p c) (list_all p d) h in rw q.0 (rest_of-piece p d s q.1)

-- a cut at a piece's length
pub cut_front : (n : ℕ) (b v t : Text) → t ≡ b ++ v → n ≡ length b → take n t ≡ b
cut_front n b v t e l = rw (e, l) (take-append_seam b v)

of_rest : (n : ℕ) (t : Text) → take (length t - n) (drop n t) ≡ drop n t
of_rest n t = let e : length t - n ≡ length (drop n t) = sym (length-drop n t) in rw e (take-length (drop n t))

pub cut_rest : (n : ℕ) (b v t : Text) → t ≡ b ++ v → n ≡ length b → take (length t - n) (drop n t) ≡ v
cut_rest n b v t e l = of_rest n t ∙ rw (e, l) (drop-append_seam b v)

-- a cut behind the byte that stands behind a piece
pub cut_behind : (n c : ℕ) (b v t : Text) → t ≡ b ++ c ∷ v → n ≡ length b → take (length t - (n + 1)) (drop (n + 1) t) ≡ v
cut_behind n c b v t e l =
    cut_rest (n + 1) (b ++ c ∷ []) v t (e ∙ sym (append_assoc b (c ∷ []) v)) (omega (arith, length-append b (c ∷ [])))

-- one text cut twice at one length
pub same_cut : (a b x y : Text) → a ++ x ≡ b ++ y → length a ≡ length b → (a ≡ b) × (x ≡ y)
same_cut [] [] x y e l = (refl, e)
same_cut [] (d ∷ b) x y e l = absurd (omega arith)
same_cut (c ∷ a) [] x y e l = absurd (omega arith)
same_cut (c ∷ a) (d ∷ b) x y e l =
    let h : a ++ x ≡ b ++ y = cc in
    let k : c ≡ d = cc in
    let r = same_cut a b x y h (omega arith) in
    ((let i = r.0 in cc), r.1)
