-- The checks that were numbered test what was asked: in a state in which all expressions of the condition have values.
use Rattle.std.proofs.Common.{◌≡◌, ℕ, ◌+◌, ◌*◌, ◌^◌, ◌<◌, ◌≤◌, nat_lt, get_or, cond, filter, IsTrue, Bool}
use Rattle.std.proofs.Common.{true, false, not, ◌&&◌, List, [], ◌∷◌, ◌++◌, length, ℤ, pos, ◌+ℤ◌, ◌-ℤ◌, ◌*ℤ◌, neg_ℤ}
use Rattle.std.proofs.Common.{unsigned_abs, Option, Some, None, Ok, slice_get, if◌then◌else◌, refl, sym, ap, ◌∙◌, subst}
use Rattle.std.proofs.Common.{arith}
use Rattle.std.specs.List.{position_or_len}
use Rattle.std.proofs.lemmas.Int.{ints, unsigned_abs-mul}
use Rattle.std.proofs.lemmas.List.Sums.{passes_at_first, prefix_len-le-length}
use Rattle.std.proofs.lemmas.Option.{slice_get-get_or}
use Rattle.std.proofs.lemmas.Nat.{mul-le}
use Rattle.dep_expr.specs.Linear.{LinearForm, Assignment, number_form, term_form, plus, value_of}
use Rattle.dep_expr.specs.Merged.{merged, merged_terms, gathered, with_term as gather, counts}
use Rattle.dep_expr.specs.Weight.{weight}
use Rattle.dep_expr.proofs.Integers.{neg-mul}
use Rattle.dep_expr.proofs.Values.{value_of-plus}
use Rattle.dep_expr.proofs.Merging.{value_of-merged, on_with_term, on_counts}
use Rattle.dep_expr.proofs.Weights.{weight-merged, weight-append, abs-add}
use Rattle.checked_tree.specs.declared.expressions.CheckedExpr.{CheckedExpr}
use Rattle.checked_tree.specs.declared.sums.Part.{Part}
use Rattle.checked_tree.specs.declared.sums.Part.TheVariants.{Constant, Atom}
use Rattle.checked_tree.specs.declared.sums.Sum.{Sum}
use Rattle.checked_tree.specs.Bare.{bare}
use Rattle.checked_tree.specs.Codes.{is_same}
use Rattle.checked_tree.specs.Numbers.{is_value}
use Rattle.checked_tree.specs.Outcome.{Got}
use Rattle.checked_tree.specs.Conditions.{State, peek, atom_value, form_value}
use Rattle.checked_tree.proofs.CodeLaws.{same_forms}
use Rattle.checked_tree.proofs.FormValues.{HaveNumbers, StayLimited, form_value-numbers}
use Rattle.deputy_rules.specs.Numbering.{Forming, unformed, if_light, with_number, with_term, with_atom, number_of, signed, with_part}
use Rattle.deputy_rules.specs.Numbering.{with_parts, difference, whole, single}
use Rattle.deputy_types.specs.Options.{and_then}
use Rattle.deputy_types.proofs.Inversions.{some_then, some_map}
use Rattle.deputy_rules.specs.SumValues.{got_or_zero, part_at, parts_at, PartHasValue, HaveValues}
use Rattle.deputy_rules.proofs.BareValues.{peek_bare}
use Rattle.driver_safety.specs.Passing.{IsFront}
use Rattle.driver_safety.proofs.checks.Sounding.{front_same, front_front, get_front, get_last}

some_same : {A : Type 0} (a b : A) → ◌≡◌ {A = Option A} (Some a) (Some b) → a ≡ b
some_same a b h = cc

-- ---- atoms
pub record HasAtom (st : State) (atoms : List CheckedExpr) (k : ℕ) (e : CheckedExpr) : Type 0 where
  pub atom : CheckedExpr
  pub is : slice_get atoms k ≡ Some atom
  pub same : peek st atom ≡ peek st e

position_most : {X : Type 0} (p : X → Bool) (xs : List X) → position_or_len p xs ≤ length xs
position_most p xs = prefix_len-le-length (λ x. not (p x)) xs

module _ (st : State) where
  same_peek : (a e : CheckedExpr) → IsTrue (is_same e a) → peek st a ≡ peek st e
  same_peek a e h = sym (peek_bare st a) ∙ sym (ap (peek st) ((same_forms e a).0 h)) ∙ peek_bare st e

  found_or_new : (b : Bool) (atoms : List CheckedExpr) (e : CheckedExpr) → nat_lt (position_or_len (is_same e) atoms) (length atoms) ≡ b
      → HasAtom st (if b then atoms else (atoms ++ bare e ∷ [])) (position_or_len (is_same e) atoms) e
  found_or_new true atoms e h =
      let k : ℕ = position_or_len (is_same e) atoms in
      let below : k < length atoms = grind arith in
      record {
        atom = get_or atoms k e;
        is = slice_get-get_or atoms k e below;
        same = same_peek (get_or atoms k e) e
            (passes_at_first (is_same e) atoms e below);
      }
  found_or_new false atoms e h =
      let most = position_most (is_same e) atoms in
      let at : length atoms ≡ position_or_len (is_same e) atoms = grind arith in
      record {
        atom = bare e;
        is = subst (λ (k : ℕ). slice_get (atoms ++ bare e ∷ []) k ≡ Some (bare e)) at (get_last atoms (bare e));
        same
            = peek_bare st e;
      }

  pub has_atom' : (atoms : List CheckedExpr) (e : CheckedExpr) → HasAtom st (with_atom atoms e) (number_of atoms e) e
  unfolding with_atom number_of
  has_atom' atoms e = found_or_new (nat_lt (position_or_len (is_same e) atoms) (length atoms)) atoms e refl

atoms_grow : (atoms : List CheckedExpr) (e : CheckedExpr) → IsFront atoms (with_atom atoms e)
unfolding with_atom number_of
atoms_grow atoms e = by (nat_lt (position_or_len (is_same e) atoms) (length atoms))
  where
    by : (b : Bool) → IsFront atoms (if b then atoms else (atoms ++ bare e ∷ []))
    by true = front_same atoms atoms refl
    by false = (bare e ∷ [], refl)

-- ---- a form that is being added up
module _ (st : State) (all : List CheckedExpr) where
  -- the numbers of all atoms
  abbrev pub numbers : Assignment
  numbers k = got_or_zero (atom_value st (slice_get all k))

  -- terms whose atoms have numbers of 32 bits
  abbrev pub HaveTerms : List (ℤ × ℕ) → Type 0
  HaveTerms [] = Unit {0}
  HaveTerms (t ∷ ts) = (atom_value st (slice_get all t.1) ≡ Ok (numbers t.1)) × (unsigned_abs (numbers t.1) ≤ 2 ^ 32) × HaveTerms ts

  terms_both : (a b : List (ℤ × ℕ)) → HaveTerms a → HaveTerms b → HaveTerms (a ++ b)
  terms_both [] b h k = k
  terms_both (t ∷ a) b h k = (h.0, h.1, terms_both a b h.2 k)

  pub record IsForming (f : Forming) (z : ℤ) : Type 0 where
    pub value : value_of f.form numbers ≡ z
    pub terms : HaveTerms f.form.terms
    pub counted : weight f.form.terms ≤ f.coefficients
    pub sized : unsigned_abs f.form.constant ≤ f.constants
    pub coefficients : f.coefficients < 2 ^ 62
    pub constants : f.constants < 2 ^ 100

  light_some : (f g : Forming) → if_light f ≡ Some g → (f ≡ g) × (f.coefficients < 2 ^ 62) × (f.constants < 2 ^ 100)
  light_some f g h = by (nat_lt f.coefficients (2 ^ 62)) (nat_lt f.constants (2 ^ 100)) refl refl h
    where
      by : (a b : Bool) → nat_lt f.coefficients (2 ^ 62) ≡ a → nat_lt f.constants (2 ^ 100) ≡ b → (if a && b then Some f else None) ≡ Some
          g → (f ≡ g) × (f.coefficients < 2 ^ 62) × (f.constants < 2 ^ 100)
      by true true p q e = (some_same f g e, grind arith, grind arith)
      by true false p q e = absurd cc
      by false b p q e = absurd cc

  value_small : (v : ℤ) → IsTrue (is_value v) → unsigned_abs v ≤ 2 ^ 32
  value_small v h = grind (arith, ints)

  signed_size : (right : Bool) (z : ℤ) → unsigned_abs (signed right z) ≡ unsigned_abs z
  signed_size false z = refl
  signed_size true z = grind (arith, ints)

  signed_times : (right : Bool) (k v : ℤ) → signed right k *ℤ v ≡ signed right (k *ℤ v)
  signed_times false k v = refl
  signed_times true k v = neg-mul k v

  signed_sum : (right : Bool) (x y : ℤ) → signed right (x +ℤ y) ≡ signed right x +ℤ signed right y
  signed_sum false x y = refl
  signed_sum true x y = omega (arith, ints)

  number_forming : (c z : ℤ) (f g : Forming) → with_number c f ≡ Some g → IsForming f z → IsForming g (z +ℤ c)
  unfolding with_number value_of
  number_forming c z f g h is =
      let more : Forming = record {
        form = plus f.form (number_form c);
        coefficients = f.coefficients;
        constants = f.constants +
            unsigned_abs c;
      } in
      let l = light_some more g h in
      let v = value_of-plus f.form (number_form c) numbers in
      let w = weight-append f.form.terms [] in
      let a = abs-add f.form.constant c in
      subst (λ (x : Forming). IsForming x (z +ℤ c)) l.0 (record {
        value = omega (arith, ints, v, is.value);
        terms = terms_both f.form.terms [] is.terms tt;
        counted = omega (arith, w, is.counted);
        sized = omega (arith, a, is.sized);
        coefficients = l.1;
        constants = l.2;
      })

  term_forming : (k z v : ℤ) (n : ℕ) (f g : Forming) → with_term k n f ≡ Some g → atom_value st (slice_get all n) ≡ Ok v
      → IsTrue (is_value v) → IsForming f z → IsForming g (z +ℤ (k *ℤ v))
  unfolding with_term value_of
  term_forming k z v n f g h at word is =
      let more : Forming = record {
        form = plus f.form (term_form (k, n));
        coefficients = f.coefficients + unsigned_abs k;
        constants =
            f.constants;
      } in
      let l = light_some more g h in
      let here : numbers n ≡ v = ap got_or_zero at in
      let times : k *ℤ numbers n ≡ k *ℤ v = ap (λ (x : ℤ). k *ℤ x) here in
      let u = value_of-plus f.form (term_form (k, n)) numbers in
      let w = weight-append f.form.terms ((k, n) ∷ []) in
      let a = abs-add f.form.constant (pos 0) in
      subst (λ (x : Forming). IsForming x (z +ℤ (k *ℤ v))) l.0 (record {
        value = omega (arith, ints, u, is.value, times);
        terms = terms_both f.form.terms ((k, n) ∷ []) is.terms (
          at ∙ ap (λ (x : ℤ). Ok x) (sym here),
          subst (λ (x : ℤ). unsigned_abs x ≤ 2
              ^ 32) (sym here) (value_small v word),
          tt,
        );
        counted = omega (arith, w, is.counted);
        sized = omega (arith, a, is.sized);
        coefficients = l.1;
        constants = l.2;
      })

  pub part_forming : (right : Bool) (p : Part) (f g : Forming) (atoms now : List CheckedExpr) (z : ℤ) → with_part right p f atoms ≡ Some
      (g, now)
      → IsFront atoms now × (IsFront now all → PartHasValue st p → IsForming f z → IsForming g (z +ℤ signed right (part_at st p)))
  unfolding with_part
  part_forming right (Constant k c) f g atoms now z h =
      let r = some_map (with_number (signed right (k *ℤ c)) f) (λ x. (x, atoms)) (g, now) h in (
        front_same atoms now (ap (λ (x : Forming × List CheckedExpr). x.1) r.2),
        λ front has is.
            number_forming (signed right (k *ℤ c)) z f g (r.1 ∙ ap (λ (x : Forming × List CheckedExpr). Some x.0) r.2) is,
      )
  part_forming right (Atom k e) f g atoms now z h =
      let r = some_map (with_term (signed right k) (number_of atoms e) f) (λ x. (x, with_atom atoms e)) (g, now) h in
      let same : with_atom atoms e ≡ now = ap (λ (x : Forming × List CheckedExpr). x.1) r.2 in (
        subst (λ (l : List CheckedExpr). IsFront atoms l) same (atoms_grow atoms e),
        λ front has is.
            let found = has_atom' st atoms e in
            let there : slice_get all (number_of atoms e) ≡ Some found.atom = subst (λ (l : List CheckedExpr). slice_get l
            (number_of atoms e) ≡ Some found.atom) (sym front.1)
            (get_front now front.0 (number_of atoms e) found.atom (subst (λ (l : List CheckedExpr). slice_get l (number_of atoms e) ≡ Some
            found.atom) same found.is)) in
            let number : atom_value st (slice_get all (number_of atoms e)) ≡ Ok has.0 = ap (atom_value st) there ∙ found.same ∙ has.1 in
            let times : signed right k *ℤ has.0 ≡ signed right (k *ℤ got_or_zero (peek st e)) = signed_times right k has.0
            ∙ ap (λ (g : Got). signed right (k *ℤ got_or_zero g)) (sym has.1) in
            subst (λ (x : ℤ). IsForming g (z +ℤ x)) times
            (term_forming (signed right k) z has.0 (number_of atoms e) f g (r.1 ∙ ap (λ (x : Forming × List CheckedExpr). Some x.0) r.2)
            number has.2 is),
      )

  pub parts_forming : (right : Bool) (ps : List Part) (f g : Forming) (atoms now : List CheckedExpr) (z : ℤ) → with_parts right ps f atoms
      ≡ Some (g, now)
      → IsFront atoms now × (IsFront now all → HaveValues st ps → IsForming f z → IsForming g (z +ℤ signed right (parts_at st ps)))
  unfolding parts_at
  parts_forming right [] f g atoms now z h =
      let same = some_same (f, atoms) (g, now) h in
      let none : z +ℤ signed right (pos 0) ≡ z = nothing right z in (
        front_same atoms now (ap (λ (x : Forming × List CheckedExpr). x.1) same),
        λ front has is.
            subst (λ (x : ℤ). IsForming g x) (sym none) (subst (λ (x : Forming). IsForming x z)
            (ap (λ (x : Forming × List CheckedExpr). x.0) same) is),
      )
    where
      nothing : (right : Bool) (z : ℤ) → z +ℤ signed right (pos 0) ≡ z
      nothing false z = omega (arith, ints)
      nothing true z = omega (arith, ints)
  parts_forming right (p ∷ ps) f g atoms now z h =
      let r = some_then (with_part right p f atoms) (λ r. with_parts right ps r.0 r.1) (g, now) h in
      let one = part_forming right p f r.0.0 atoms r.0.1 z r.1 in
      let rest = parts_forming right ps r.0.0 g r.0.1 now (z +ℤ signed right (part_at st p)) r.2 in (
        front_front atoms r.0.1 now one.0 rest.0,
        λ front has is.
            let sum : (z +ℤ signed right (part_at st p)) +ℤ signed right (parts_at st ps) ≡ z +ℤ signed right (part_at st p +ℤ parts_at st
            ps) = omega (arith, ints, signed_sum right (part_at st p) (parts_at st ps)) in
            subst (λ (x : ℤ). IsForming g x) sum (rest.1 front has.1 (one.1 (front_front r.0.1 now all rest.0 front) has.0 is)),
      )

  -- ---- the merged form has the same value, and no sum on the way is too large
  gathered_have : (t : ℤ × ℕ) (us : List (ℤ × ℕ)) → atom_value st (slice_get all t.1) ≡ Ok (numbers t.1) → unsigned_abs (numbers t.1) ≤ 2 ^
      32 → HaveTerms us → HaveTerms (gather t us)
  gathered_have t [] h k rest = (h, k, tt)
  gathered_have t (u ∷ us) h k rest =
      on_with_term HaveTerms t u us (λ e. (rest.0, rest.1, rest.2)) (λ l. (h, k, rest))
      (λ l. (rest.0, rest.1, gathered_have t us h k rest.2))

  all_gathered : (ts : List (ℤ × ℕ)) → HaveTerms ts → HaveTerms (gathered ts)
  all_gathered [] h = tt
  all_gathered (t ∷ ts) h = gathered_have t (gathered ts) h.0 h.1 (all_gathered ts h.2)

  counting_have : (ts : List (ℤ × ℕ)) → HaveTerms ts → HaveTerms (filter counts ts)
  counting_have [] h = tt
  counting_have (t ∷ ts) h = on_counts (λ b. HaveTerms (cond b (t ∷ filter counts ts) (filter counts ts))) t
      (λ n. (h.0, h.1, counting_have ts h.2)) (λ e. counting_have ts h.2)

  merged_have : (ts : List (ℤ × ℕ)) → HaveTerms ts → HaveTerms (merged_terms ts)
  unfolding merged_terms
  merged_have ts h = counting_have (gathered ts) (all_gathered ts h)

  have_numbers : (ts : List (ℤ × ℕ)) → HaveTerms ts → HaveNumbers all st numbers ts
  have_numbers [] h = tt
  have_numbers (t ∷ ts) h = (h.0, have_numbers ts h.2)

  stay_limited : (ts : List (ℤ × ℕ)) (sum : ℤ) → HaveTerms ts → unsigned_abs sum + weight ts * 2 ^ 32 < 2 ^ 126 → StayLimited numbers ts sum
  stay_limited [] sum h l = tt
  stay_limited (t ∷ ts) sum h l =
      let a = abs-add sum (t.0 *ℤ numbers t.1) in
      let m = unsigned_abs-mul t.0 (numbers t.1) in
      let n : unsigned_abs t.0 * unsigned_abs (numbers t.1) ≤ unsigned_abs t.0 * 2 ^ 32 = mul-le (unsigned_abs t.0)
      (unsigned_abs (numbers t.1)) (unsigned_abs t.0) (2 ^ 32) (omega arith) h.1 in
      (omega (arith, a, m, n, l), stay_limited ts (sum +ℤ (t.0 *ℤ numbers t.1)) h.2 (omega (arith, a, m, n, l)))

  pub formed_value : (f : Forming) (z : ℤ) → IsForming f z → form_value all st (merged f.form) ≡ Ok z
  formed_value f z is =
      let w = weight-merged f.form.terms in
      let have = merged_have f.form.terms is.terms in
      form_value-numbers all st numbers (merged f.form) (have_numbers (merged_terms f.form.terms) have)
      (omega (arith, is.sized, is.constants))
      (stay_limited (merged_terms f.form.terms) f.form.constant have (omega (
        arith,
        w,
        is.counted,
        is.coefficients,
        is.sized,
        is.constants,
      )))
      ∙ ap (λ (x : ℤ). Ok x) (value_of-merged f.form numbers ∙ is.value)

  nothing_formed : IsForming unformed (pos 0)
  unfolding value_of
  nothing_formed = record {
    value = refl;
    terms = tt;
    counted = omega arith;
    sized = omega arith;
    coefficients = omega arith;
    constants =
        omega arith;
  }

  abbrev Grows : List CheckedExpr → List CheckedExpr → Type 0 → Type 0
  Grows atoms now P = IsFront atoms now × (IsFront now all → P)

  pub difference_value : (left right : Sum) (atoms : List CheckedExpr) (l : LinearForm) (now : List CheckedExpr) → difference left right
      atoms ≡ Some (l, now)
      → Grows atoms now (HaveValues st left.parts → HaveValues st right.parts → form_value all st l ≡ Ok (parts_at st left.parts -ℤ
      parts_at st right.parts))
  unfolding difference
  difference_value left right atoms l now h =
      let a = some_then (with_parts false left.parts unformed atoms) (λ l. and_then (with_parts true right.parts l.0 l.1)
      (λ r. Some (merged r.0.form, r.1))) (l, now) h in
      let b = some_then (with_parts true right.parts a.0.0 a.0.1) (λ r. Some (merged r.0.form, r.1)) (l, now) a.2 in
      let same = some_same (merged b.0.0.form, b.0.1) (l, now) b.2 in
      let one = parts_forming false left.parts unformed a.0.0 atoms a.0.1 (pos 0) a.1 in
      let two = parts_forming true right.parts a.0.0 b.0.0 a.0.1 b.0.1 (pos 0 +ℤ parts_at st left.parts) b.1 in
      let last : b.0.1 ≡ now = ap (λ (x : LinearForm × List CheckedExpr). x.1) same in (
        subst (λ (x : List CheckedExpr). IsFront atoms x) last (front_front atoms a.0.1 b.0.1 one.0 two.0),
        λ front hl hr.
            let end : IsFront b.0.1 all = subst (λ (x : List CheckedExpr). IsFront x all) (sym last) front in
            let is = two.1 end hr (one.1 (front_front a.0.1 b.0.1 all two.0 end) hl nothing_formed) in
            let sum : (pos 0 +ℤ parts_at st left.parts) +ℤ neg_ℤ (parts_at st right.parts) ≡ parts_at st left.parts -ℤ parts_at st
            right.parts = omega (arith, ints) in
            ap (form_value all st) (sym (ap (λ (x : LinearForm × List CheckedExpr). x.0) same)) ∙ formed_value b.0.0 _ is
            ∙ ap (λ (x : ℤ). Ok x) sum,
      )

  pub whole_value : (s : Sum) (atoms : List CheckedExpr) (l : LinearForm) (now : List CheckedExpr) → whole s atoms ≡ Some (l, now)
      → Grows atoms now (HaveValues st s.parts → form_value all st l ≡ Ok (parts_at st s.parts))
  unfolding whole
  whole_value s atoms l now h =
      let a = some_then (with_parts false s.parts unformed atoms) (λ r. Some (merged r.0.form, r.1)) (l, now) h in
      let same = some_same (merged a.0.0.form, a.0.1) (l, now) a.2 in
      let one = parts_forming false s.parts unformed a.0.0 atoms a.0.1 (pos 0) a.1 in
      let last : a.0.1 ≡ now = ap (λ (x : LinearForm × List CheckedExpr). x.1) same in (
        subst (λ (x : List CheckedExpr). IsFront atoms x) last one.0,
        λ front hl.
            let is = one.1 (subst (λ (x : List CheckedExpr). IsFront x all) (sym last) front) hl nothing_formed in
            let sum : pos 0 +ℤ parts_at st s.parts ≡ parts_at st s.parts = omega (arith, ints) in
            ap (form_value all st) (sym (ap (λ (x : LinearForm × List CheckedExpr). x.0) same)) ∙ formed_value a.0.0 _ is
            ∙ ap (λ (x : ℤ). Ok x) sum,
      )

  pub single_value : (p : Part) (atoms : List CheckedExpr) (l : LinearForm) (now : List CheckedExpr) → single p atoms ≡ Some (l, now)
      → Grows atoms now (PartHasValue st p → form_value all st l ≡ Ok (part_at st p))
  unfolding single
  single_value p atoms l now h =
      let a = some_then (with_part false p unformed atoms) (λ r. Some (merged r.0.form, r.1)) (l, now) h in
      let same = some_same (merged a.0.0.form, a.0.1) (l, now) a.2 in
      let one = part_forming false p unformed a.0.0 atoms a.0.1 (pos 0) a.1 in
      let last : a.0.1 ≡ now = ap (λ (x : LinearForm × List CheckedExpr). x.1) same in (
        subst (λ (x : List CheckedExpr). IsFront atoms x) last one.0,
        λ front hl.
            let is = one.1 (subst (λ (x : List CheckedExpr). IsFront x all) (sym last) front) hl nothing_formed in
            let sum : pos 0 +ℤ part_at st p ≡ part_at st p = omega (arith, ints) in
            ap (form_value all st) (sym (ap (λ (x : LinearForm × List CheckedExpr). x.0) same)) ∙ formed_value a.0.0 _ is
            ∙ ap (λ (x : ℤ). Ok x) sum,
      )
