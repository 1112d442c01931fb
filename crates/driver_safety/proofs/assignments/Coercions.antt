-- The checks of a coercion: what fits its own bounds fits the narrower ones.
use Rattle.std.proofs.Common.{◌≡◌, ◌⊎◌, inl, inr, ℕ, zero, suc, ◌+◌, ◌-◌, ◌*◌, ◌/◌, ◌%◌, ◌≤◌, ◌<◌, nat_lt, nat_le, IsTrue, Bool, true}
use Rattle.std.proofs.Common.{false, List, [], ◌∷◌, ℤ, pos, negsuc, ◌-ℤ◌, int_le, refl, sym}
use Rattle.std.proofs.Common.{ap, ◌∙◌, subst, arith}
use Rattle.std.proofs.lemmas.Int.{ints}
use Rattle.std.proofs.lemmas.Nat.{mul-le}
use Rattle.std.proofs.lemmas.Bool.Decides.{Decides-int_eq}
use Rattle.sd_base.specs.Blocks.{Block}
use Rattle.sd_base.specs.declared.kinds.CheckKind.{CheckKind}
use Rattle.checked_tree.specs.declared.shapes.Shape.{Shape}
use Rattle.checked_tree.specs.declared.shapes.StructShape.{StructShape}
use Rattle.checked_tree.specs.declared.sums.Sum.{Sum}
use Rattle.checked_tree.specs.declared.units.CheckedFn.{CheckedFn}
use Rattle.checked_tree.specs.Conditions.{State, is_multiple}
use Rattle.checked_tree.specs.Eval.{tests, test, check_of}
use Rattle.deputy_rules.specs.declared.asked.AskedCond.TheVariants as cond
use Rattle.deputy_rules.specs.Context.{Context}
use Rattle.deputy_rules.specs.Coercion.{coerce, ask_aligned}
use Rattle.deputy_rules.specs.Deriving.{ask}
use Rattle.deputy_types.specs.Fitting.{Fits, null, in_text, in_bounds, IsOpenPlace, elem_bytes}
use Rattle.deputy_types.specs.StructLaws.{IsMultiple}
use Rattle.deputy_rules.specs.SumValues.{parts_at, HasValue}
use Rattle.driver_safety.proofs.checks.Evaluations.{safe_weaker, Pass, pass_none, pass_one, pass_then}
use Rattle.driver_safety.proofs.expressions.Steps.{le_pos}
use Rattle.driver_safety.proofs.checks.Sounding.{Sound, then_sound, pure_sound, ask_sound, if_sound, weaker}

-- what the five checks of a coercion say of a pointer that is not null
pub record IsNarrower (size : ℕ) (lo hi lo' hi' v : ℤ) : Type 0 where
  pub low : IsTrue (int_le lo lo')
  pub from : IsTrue (int_le lo' v)
  pub to : IsTrue (int_le v hi')
  pub high : IsTrue (int_le hi' hi)
  pub whole : (size ≤ 1) ⊎ IsTrue (is_multiple (v -ℤ lo') size)

-- or it is null
abbrev pub Excused : ℤ → Type 0 → Type 0
Excused v P = (v ≡ pos 0) ⊎ P

module _ (f : CheckedFn) (ctx : Context) (st : State) where
  pub guarded_sound : (kind : CheckKind) (left right guard : Sum) → Sound f st ctx.first (ask ctx kind (cond.Guarded left right guard))
      (λ id. (x y v : ℤ) → HasValue st left x → HasValue st right y → HasValue st guard v → Pass f st (id ∷ [])
      (Excused v (IsTrue (int_le x y))))
  guarded_sound kind left right guard = weaker f st ctx.first _ _ _ (λ id tested x y v h k g.
      pass_one f st id _ (safe_weaker (test f st (check_of f id)) _ _ (tested.tested (h.read, k.read, g.read)) (λ u e p.
      subst (λ (z : ℤ). Excused z (IsTrue (int_le x y))) g.is (subst (λ (z : ℤ). Excused (parts_at st guard.parts) (IsTrue (int_le z y)))
      h.is
      (subst (λ (z : ℤ). Excused (parts_at st guard.parts) (IsTrue (int_le (parts_at st left.parts) z))) k.is p)))))
      (ask_sound f st ctx kind (cond.Guarded left right guard))

  aligned_sound : (kind : CheckKind) (at low : Sum) (size : ℕ) → Sound f st ctx.first (ask_aligned ctx kind at low size)
      (λ ids. (v x : ℤ) → HasValue st at v → HasValue st low x
      → Pass f st ids (Excused v ((size ≤ 1) ⊎ IsTrue (is_multiple (v -ℤ x) size))))
  unfolding ask_aligned
  aligned_sound kind at low size = if_sound f st ctx.first (nat_lt 1 size) _ _ _
      (λ e. then_sound f st ctx.first _ _ _ _ (ask_sound f st ctx kind (cond.Aligned at low size at)) (λ id. pure_sound f st ctx.first
      (id ∷ []) _ (λ tested v x h k.
      pass_one f st id _ (safe_weaker (test f st (check_of f id)) _ _ (tested.tested (h.read, k.read, h.read)) (λ u e p.
      by v (parts_at st at.parts) x (parts_at st low.parts) h.is k.is p)))))
      (λ e. pure_sound f st ctx.first [] _ (λ v x h k. pass_none f st _ (inr (inl (small size e)))))
    where
      small : (size : ℕ) → nat_lt 1 size ≡ false → size ≤ 1
      small size e = grind arith

      by : (v v' x x' : ℤ) → v' ≡ v → x' ≡ x → (v' ≡ pos 0) ⊎ IsTrue (is_multiple (v' -ℤ x') size)
          → Excused v ((size ≤ 1) ⊎ IsTrue (is_multiple (v -ℤ x) size))
      by v v' x x' e g (inl z) = inl (sym e ∙ z)
      by v v' x x' e g (inr m) = inr (inr (subst (λ (a : ℤ). IsTrue (is_multiple (a -ℤ x) size)) e
          (subst (λ (a : ℤ). IsTrue (is_multiple (v' -ℤ a) size)) g m)))

  -- five tests in a row
  all_five : (a b c d : ℕ) (e : List ℕ) (v : ℤ) (A B C D E : Type 0) → Pass f st (a ∷ []) (Excused v A) → Pass f st (b ∷ []) (Excused v B)
      → Pass f st (c ∷ []) (Excused v C)
      → Pass f st (d ∷ []) (Excused v D) → Pass f st e (Excused v E) → Pass f st (a ∷ b ∷ c ∷ d ∷ e) (Excused v (A × B × C × D × E))
  all_five a b c d e v A B C D E p q r s t =
      safe_weaker (tests [] f st (a ∷ b ∷ c ∷ d ∷ e)) _ _
      (pass_then f st (a ∷ []) (b ∷ c ∷ d ∷ e) _ _ p (λ _. pass_then f st (b ∷ []) (c ∷ d ∷ e) _ _ q (λ _. pass_then f st (c ∷ []) (d ∷ e)
      _ _ r (λ _. pass_then f st (d ∷ []) e _ _ s (λ _. t)))))
      (λ u h x. join x.0 x.1.0 x.1.1.0 x.1.1.1.0 x.1.1.1.1)
    where
      join : Excused v A → Excused v B → Excused v C → Excused v D → Excused v E → Excused v (A × B × C × D × E)
      join (inl z) y x w t = inl z
      join (inr a) (inl z) x w t = inl z
      join (inr a) (inr b) (inl z) w t = inl z
      join (inr a) (inr b) (inr c) (inl z) t = inl z
      join (inr a) (inr b) (inr c) (inr d) (inl z) = inl z
      join (inr a) (inr b) (inr c) (inr d) (inr e) = inr (a, b, c, d, e)

  abbrev pub Narrows : Sum → Sum → Sum → Sum → Sum → ℕ → List ℕ → Type 0
  Narrows at low high lower higher size ids = (v lo hi lo' hi' : ℤ) → HasValue st at v → HasValue st low lo → HasValue st high hi
      → HasValue st lower lo' → HasValue st higher hi'
      → Pass f st ids (Excused v (IsNarrower size lo hi lo' hi' v))

  pub coerce_sound : (k align : CheckKind) (at low high lower higher : Sum) (size : ℕ) → Sound f st ctx.first (coerce ctx k align at low
      high lower higher size) (Narrows at low high lower higher size)
  unfolding coerce
  coerce_sound k align at low high lower higher size =
      then_sound f st ctx.first _ _ _ _ (guarded_sound k low lower at) (λ a. then_sound f st ctx.first _ _ _ _ (guarded_sound k lower at
      at) (λ b.
      then_sound f st ctx.first _ _ _ _ (guarded_sound k at higher at) (λ c. then_sound f st ctx.first _ _ _ _ (guarded_sound k higher high
      at) (λ d.
      then_sound f st ctx.first _ _ _ _ (aligned_sound align at lower size) (λ e. pure_sound f st ctx.first _ _ (λ qe qd qc qb qa v lo hi
      lo' hi' hv hl hh hl' hh'.
      safe_weaker (tests [] f st (a ∷ b ∷ c ∷ d ∷ e)) _ _
      (all_five a b c d e v _ _ _ _ _ (qa lo lo' v hl hl' hv) (qb lo' v v hl' hv hv) (qc v hi' v hv hh' hv) (qd hi' hi v hh' hh hv)
      (qe v lo' hv hl'))
      (λ u h x. excuse v lo hi lo' hi' x)))))))
    where
      excuse : (v lo hi lo' hi' : ℤ) → Excused v (IsTrue (int_le lo lo') × IsTrue (int_le lo' v) × IsTrue (int_le v hi')
          × IsTrue (int_le hi' hi) × ((size ≤ 1) ⊎ IsTrue (is_multiple (v -ℤ lo') size)))
          → Excused v (IsNarrower size lo hi lo' hi' v)
      excuse v lo hi lo' hi' (inl z) = inl z
      excuse v lo hi lo' hi' (inr x) = inr (record { low = x.0; from = x.1; to = x.2; high = x.3; whole = x.4 })

-- ---- numbers
pub record IsNatural (z : ℤ) : Type 0 where
  pub number : ℕ
  pub is : z ≡ pos number

from_natural : (a : ℕ) (z : ℤ) → IsTrue (int_le (pos a) z) → IsNatural z
from_natural a (pos n) h = record { number = n; is = refl }
from_natural a (negsuc n) h = absurd cc

pos_same : (m n : ℕ) → pos m ≡ pos n → m ≡ n
pos_same m n h = cc

multiple_of : (m n : ℕ) → 0 < n → IsTrue (is_multiple (pos m) n) → IsMultiple n m
multiple_of m n some h =
    let left : m % n ≡ 0 = pos_same (m % n) 0 ((Decides-int_eq (pos (m % n)) (pos 0)).0 h) in
    (m / n, grind (arith, left))

spread : (a b c : ℕ) → (a + b) * c ≡ a * c + b * c
spread a b c = grind arith

-- the low bounds differ by whole elements
apart : (size from from' at k k' : ℕ) → from ≤ from' → from' ≤ at → at - from ≡ k * size → at - from' ≡ k' * size → (d : ℕ)
    × (from' ≡ from + d * size)
apart size from from' at k k' l m h h' = by (nat_le k' k) refl
  where
    by : (b : Bool) → nat_le k' k ≡ b → (d : ℕ) × (from' ≡ from + d * size)
    by true e =
        let less : k' ≤ k = grind arith in
        let sum : k ≡ (k - k') + k' = omega (arith, less) in
        let split : k * size ≡ (k - k') * size + k' * size = ap (λ (x : ℕ). x * size) sum ∙ spread (k - k') k' size in
        (k - k', omega (arith, split, h, h', l, m))
    by false e =
        let less : k ≤ k' = grind arith in
        let more : k * size ≤ k' * size = mul-le k size k' size less (omega arith) in
        (0, omega (arith, more, h, h', l, m))

pub narrow : (blocks : List Block) (elems : List Shape) (structs : List StructShape) (elem size : ℕ) (lo hi lo' hi' v : ℤ)
    → elem_bytes elems structs elem ≡ size
    → Fits blocks elems structs elem false lo hi v → Excused v (IsNarrower size lo hi lo' hi' v) → Fits blocks elems structs elem false lo'
    hi' v
narrow blocks elems structs elem size lo hi lo' hi' v bytes fits (inl z) = null z
narrow blocks elems structs elem size lo hi lo' hi' v bytes (null e) (inr n) = null e
narrow blocks elems structs elem size lo hi lo' hi' v bytes (in_text e t) (inr n) = absurd cc
narrow blocks elems structs elem size lo hi lo' hi' v bytes (in_bounds e b) (inr n) =
    let low' : IsNatural lo' = from_natural b.from lo' (subst (λ (z : ℤ). IsTrue (int_le z lo')) b.from_is n.low) in
    let high' : IsNatural hi' = from_natural b.at hi' (subst (λ (z : ℤ). IsTrue (int_le z hi')) b.at_is n.to) in
    let a : b.from ≤ low'.number = both lo lo' b.from low'.number b.from_is low'.is n.low in
    let c : low'.number ≤ b.at = both lo' v low'.number b.at low'.is b.at_is n.from in
    let d : b.at ≤ high'.number = both v hi' b.at high'.number b.at_is high'.is n.to in
    let g : high'.number ≤ b.to = both hi' hi high'.number b.to high'.is b.to_is n.high in
    let whole : IsMultiple size (b.at - low'.number) = aligned b.from low'.number b.at b.whole.0 a c
    (subst (λ (k : ℕ). b.at - b.from ≡ b.whole.0 * k) bytes b.whole.1) (whole_of v lo' b.at low'.number b.at_is low'.is c n.whole) in
    let apart' = apart size b.from low'.number b.at b.whole.0 whole.0 a c (subst (λ (k : ℕ). b.at - b.from ≡ b.whole.0 * k) bytes
    b.whole.1) whole.1 in
    in_bounds e (record {
      block = b.block;
      granted = b.granted;
      no_text = b.no_text;
      from = low'.number;
      from_is = low'.is;
      to = high'.number;
      to_is = high'.is;
      at = b.at;
      at_is = b.at_is;
      above = c;
      below = d;
      whole = subst (λ (k : ℕ). IsMultiple k (b.at - low'.number)) (sym bytes) whole;
      from_in = omega (arith, b.from_in, a);
      to_in = omega (arith, b.to_in, g);
      elements = λ i l.
          let size' : ℕ = elem_bytes elems structs elem in
          let first : low'.number ≡ b.from + apart'.0 * size' = subst (λ (k : ℕ). low'.number ≡ b.from + apart'.0 * k) (sym bytes) apart'.1
          in
          let split : (apart'.0 + i) * size' ≡ apart'.0 * size' + i * size' = grind arith in
          let split' : (apart'.0 + i + 1) * size' ≡ apart'.0 * size' + (i + 1) * size' = grind arith in
          let here : b.from + (apart'.0 + i) * size' ≡ low'.number + i * size' = omega (arith, first, split) in
          subst (λ (k : ℕ). IsOpenPlace elems structs b.block elem k) here (b.elements (apart'.0 + i) (omega (arith, first, split', l, g)));
    })
  where
    both : (x y : ℤ) (m n : ℕ) → x ≡ pos m → y ≡ pos n → IsTrue (int_le x y) → m ≤ n
    both x y m n e g l = le_pos m n (subst (λ (z : ℤ). IsTrue (int_le z (pos n))) e (subst (λ (z : ℤ). IsTrue (int_le x z)) g l))

    whole_of : (v lo' : ℤ) (at from' : ℕ) → v ≡ pos at → lo' ≡ pos from' → from' ≤ at → (size ≤ 1) ⊎ IsTrue (is_multiple (v -ℤ lo') size)
        → (size ≤ 1) ⊎ IsTrue (is_multiple (pos (at - from')) size)
    whole_of v lo' at from' e g l (inl s) = inl s
    whole_of v lo' at from' e g l (inr m) = let gap : v -ℤ lo' ≡ pos (at - from') = omega (arith, ints, e, g, l) in inr
        (subst (λ (z : ℤ). IsTrue (is_multiple z size)) gap m)

    small : (size from from' at k : ℕ) → from ≤ from' → from' ≤ at → at - from ≡ k * size → size ≤ 1 → IsMultiple size (at - from')
    small zero from from' at k l m h s = (0, omega (arith, l, m, h))
    small (suc zero) from from' at k l m h s = (at - from', omega arith)
    small (suc (suc n)) from from' at k l m h s = absurd (omega (arith, s))

    large : (size from from' at k : ℕ) → from ≤ from' → from' ≤ at → at - from ≡ k * size → IsTrue (is_multiple (pos (at - from')) size)
        → IsMultiple size (at - from')
    large zero from from' at k l m h p = (0, omega (arith, l, m, h))
    large (suc n) from from' at k l m h p = multiple_of (at - from') (suc n) (omega arith) p

    aligned : (from from' at k : ℕ) → from ≤ from' → from' ≤ at → at - from ≡ k * size → (size ≤ 1) ⊎ IsTrue
        (is_multiple (pos (at - from')) size) → IsMultiple size (at - from')
    aligned from from' at k l m h (inl s) = small size from from' at k l m h s
    aligned from from' at k l m h (inr p) = large size from from' at k l m h p
