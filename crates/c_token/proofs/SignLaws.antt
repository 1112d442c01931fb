-- The first sign of the table that fits is the longest.
use Rattle.std.proofs.Common.{◌≡◌, ◌<◌, true, false, eqb, List, [], ◌∷◌, ◌++◌, length, Option, Some, None, ◌⊎◌, inl, inr, ⊎_elim, refl, sym, ap, ◌∙◌, subst, arith, eqb-true, eq-eqb, length-append}
use Rattle.c_tree.specs.declared.signs.Sign.{Sign}
use Rattle.c_tree.specs.declared.signs.Sign.TheVariants as sign
use Rattle.c_tree.specs.Bytes.{Text}
use Rattle.c_tree.specs.Signs.{spelled_sign}
use Rattle.c_token.specs.Order.{sign_order}
use Rattle.c_token.specs.Scans.{stripped, FoundSign, found_sign, found_if, first_sign}
use Rattle.c_token.proofs.Choices.{chosen, option_cases}

-- a text without a piece in front
pub stripped-is : (p t v : Text) → stripped p t ≡ Some v → t ≡ p ++ v
stripped-is [] t v h = cc
stripped-is (a ∷ p) [] v h = cc
stripped-is (a ∷ p) (c ∷ t) v h =
    ⊎_elim (λ (g : (eqb a c ≡ true) × (stripped p t ≡ Some v)). let e = eqb-true a c g.0 in let r = stripped-is p t v g.1 in cc)
    (λ (g : (eqb a c ≡ false) × (◌≡◌ {A = Option Text} None (Some v))). let e = g.1 in cc)
    (chosen (eqb a c) (stripped p t) None (Some v) h)

pub stripped-append : (p v : Text) → stripped p (p ++ v) ≡ Some v
stripped-append [] v = refl
stripped-append (a ∷ p) v = let e = eq-eqb a a refl in rw e (stripped-append p v)

-- of two pieces in front of one text, one that the other does not begin with is longer
longer : (p b u w : Text) → b ++ u ≡ p ++ w → stripped p b ≡ None → length b < length p
longer [] b u w e h = cc
longer (a ∷ p) [] u w e h = omega arith
longer (a ∷ p) (c ∷ b) u w e h =
    let k : a ≡ c = cc in
    let t = eq-eqb a c k in
    let f : b ++ u ≡ p ++ w = cc in
    let g : stripped p b ≡ None = rw t at h in
    omega (arith, longer p b u w f g)

-- a sign is found as the first, or behind it
found_cases : (s : Sign) (o : Option Text) (other : Option FoundSign) (a : FoundSign) → found_if s o other ≡ Some a
    → ((v : Text) × (o ≡ Some v) × (a ≡ found_sign s v)) ⊎ ((o ≡ None) × (other ≡ Some a))
found_cases s None other a h = inr (refl, h)
found_cases s (Some v) other a h = inl (v, refl, (let e : found_sign s v ≡ a = cc in sym e))

pub first_sign-is : (ss : List Sign) (t : Text) (s : Sign) (v : Text) → first_sign ss t ≡ Some (found_sign s v) → t ≡ spelled_sign s ++ v
first_sign-is [] t s v h = cc
first_sign-is (r ∷ ss) t s v h =
    ⊎_elim (λ (g : (w : Text) × (stripped (spelled_sign r) t ≡ Some w) × (found_sign s v ≡ found_sign r w)).
    let e : s ≡ r = sign-same s r v g.0 g.2 in
    let f : v ≡ g.0 = rest-same s r v g.0 g.2 in
    stripped-is (spelled_sign r) t g.0 g.1 ∙ (let k : spelled_sign r ≡ spelled_sign s = ap spelled_sign (sym e) in let l = sym f in cc))
    (λ (g : (stripped (spelled_sign r) t ≡ None) × (first_sign ss t ≡ Some (found_sign s v))). first_sign-is ss t s v g.1)
    (found_cases r (stripped (spelled_sign r) t) (first_sign ss t) (found_sign s v) h)
  where
    sign-same : (a b : Sign) (x y : Text) → found_sign a x ≡ found_sign b y → a ≡ b
    sign-same a b x y q = cc

    rest-same : (a b : Sign) (x y : Text) → found_sign a x ≡ found_sign b y → x ≡ y
    rest-same a b x y q = cc

-- the first that fits is no shorter than a sign that is its own first
pub record Finds (ss : List Sign) (t : Text) (j : Sign) (u : Text) : Type 0 where
  pub sign : Sign
  pub rest : Text
  pub found : first_sign ss t ≡ Some (found_sign sign rest)
  pub longest : (length rest < length u) ⊎ ((u ≡ rest) × (j ≡ sign))

finds_here : (r : Sign) (ss : List Sign) (j : Sign) (u w : Text) → stripped (spelled_sign r) (spelled_sign j) ≡ Some w → found_sign j [] ≡ found_sign r w → Finds (r ∷ ss) (spelled_sign j ++ u) j u
finds_here r ss j u w h e =
    let k : j ≡ r = cc in
    let x : stripped (spelled_sign j) (spelled_sign j ++ u) ≡ Some u = stripped-append (spelled_sign j) u in
    let y : stripped (spelled_sign r) (spelled_sign j ++ u) ≡ Some u = subst (λ s. stripped (spelled_sign s) (spelled_sign j ++ u) ≡ Some u) k x in
    record { sign = r; rest = u; found = rw y refl; longest = inr (refl, k) }

finds_longer : (r : Sign) (ss : List Sign) (j : Sign) (u w : Text) → stripped (spelled_sign r) (spelled_sign j) ≡ None → stripped (spelled_sign r) (spelled_sign j ++ u) ≡ Some w → Finds (r ∷ ss) (spelled_sign j ++ u) j u
finds_longer r ss j u w h e =
    let q = stripped-is (spelled_sign r) (spelled_sign j ++ u) w e in
    let l = longer (spelled_sign r) (spelled_sign j) u w q h in
    let a = length-append (spelled_sign j) u in
    let b = length-append (spelled_sign r) w in
    let c = ap length q in
    record { sign = r; rest = w; found = rw e refl; longest = inl (omega arith) }

finds_later : (r : Sign) (ss : List Sign) (j : Sign) (u : Text) → stripped (spelled_sign r) (spelled_sign j ++ u) ≡ None → Finds ss (spelled_sign j ++ u) j u → Finds (r ∷ ss) (spelled_sign j ++ u) j u
finds_later r ss j u e f = record { sign = f.sign; rest = f.rest; found = rw e f.found; longest = f.longest }

pub first_sign-finds : (ss : List Sign) (j : Sign) (u : Text) → first_sign ss (spelled_sign j) ≡ Some (found_sign j []) → Finds ss (spelled_sign j ++ u) j u
first_sign-finds [] j u h = cc
first_sign-finds (r ∷ ss) j u h =
    ⊎_elim (λ (g : (w : Text) × (stripped (spelled_sign r) (spelled_sign j) ≡ Some w) × (found_sign j [] ≡ found_sign r w)). finds_here r ss j u g.0 g.1 g.2)
    (λ (g : (stripped (spelled_sign r) (spelled_sign j) ≡ None) × (first_sign ss (spelled_sign j) ≡ Some (found_sign j []))).
    ⊎_elim (λ (k : stripped (spelled_sign r) (spelled_sign j ++ u) ≡ None). finds_later r ss j u k (first_sign-finds ss j u g.1))
    (λ (k : (w : Text) × (stripped (spelled_sign r) (spelled_sign j ++ u) ≡ Some w)). finds_longer r ss j u k.0 g.0 k.1)
    (option_cases (stripped (spelled_sign r) (spelled_sign j ++ u))))
    (found_cases r (stripped (spelled_sign r) (spelled_sign j)) (first_sign ss (spelled_sign j)) (found_sign j []) h)

-- in the table each sign is its own first
pub sign_order-own : (j : Sign) → first_sign sign_order (spelled_sign j) ≡ Some (found_sign j [])
unfolding sign_order
sign_order-own sign.BraceOpen = refl
sign_order-own _ = refl
