-- The names of a struct place, as they are and with a new value for one member.
use Rattle.std.proofs.Common.{◌≡◌, ◌≢◌, ℕ, ◌==◌, Bool, true, false, List, [], ◌∷◌, ◌++◌, All, ℤ, pos, ◌+ℤ◌}
use Rattle.std.proofs.Common.{Option, Some, None, slice_get, if◌then◌else◌, refl, sym, ◌∙◌}
use Rattle.std.proofs.Common.{subst, true≢false, arith}
use Rattle.std.proofs.lemmas.Bool.Decides.{Decides-eqb}
use Rattle.std.proofs.lemmas.Int.{ints}
use Rattle.std.proofs.lemmas.List.Elements.{All-nil, All-head, All-tail}
use Rattle.checked_tree.specs.declared.expressions.CheckedExpr.{CheckedExpr}
use Rattle.checked_tree.specs.declared.shapes.Edge.{Edge}
use Rattle.checked_tree.specs.declared.shapes.Member.{Member}
use Rattle.checked_tree.specs.declared.shapes.Scalar.{Scalar}
use Rattle.checked_tree.specs.declared.shapes.Shape.TheVariants as shape
use Rattle.checked_tree.specs.declared.shapes.StructShape.{StructShape}
use Rattle.checked_tree.specs.declared.sums.Part.{Part}
use Rattle.checked_tree.specs.declared.sums.Part.TheVariants.{Constant}
use Rattle.checked_tree.specs.declared.sums.Sum.{Sum}
use Rattle.checked_tree.specs.Conditions.{State}
use Rattle.checked_tree.specs.Edges.{edge_value}
use Rattle.deputy_types.specs.Fitting.{member_value}
use Rattle.deputy_types.specs.Table.{member}
use Rattle.deputy_rules.specs.declared.naming.Names.TheVariants as names
use Rattle.deputy_rules.specs.declared.naming.Naming.{Naming}
use Rattle.deputy_rules.specs.Changes.{changed}
use Rattle.deputy_rules.specs.Context.{Context}
use Rattle.deputy_rules.specs.NameValues.{AreOnce, TermsHave, BaseHas, HaveNames, IsNamed, IsStructPlace}
use Rattle.deputy_rules.specs.Sums.{constant}
use Rattle.deputy_rules.specs.SumValues.{parts_at, HaveValues, HasValue}
use Rattle.deputy_rules.specs.Values.{name_sum, named_sum, member_sum, edge_sum, of_struct}
use Rattle.deputy_rules.proofs.NamesHave.{member_edge}
use Rattle.deputy_rules.proofs.SumsHave.{has_constant, parts_both}
use Rattle.driver_safety.specs.TypeFacts.{IsSibling, IsIntegerMember, IsBaseOf, NamesSiblings}
use Rattle.driver_safety.proofs.assignments.SiblingRules.{TermsAgree, BaseAgrees}

some_same : {A : Type 0} (a b : A) → ◌≡◌ {A = Option A} (Some a) (Some b) → a ≡ b
some_same a b h = cc

have_front : (st : State) (xs ys : List Part) → HaveValues st (xs ++ ys) → HaveValues st xs
have_front st [] ys h = tt
have_front st (x ∷ xs) ys h = (h.0, have_front st xs ys h.1)

module _ (st : State) (ctx : Context) (place : CheckedExpr) (a s : ℕ) (t : StructShape) (is : IsStructPlace st ctx.table place a s t)
    (named : (k : ℕ) → IsSibling t k → IsNamed st a t k) where
  abbrev before : ℕ → ℤ
  before = member_value st.memory.bytes a t

  -- ---- as they are
  pub old_has : (k : ℕ) → IsNamed st a t k → HasValue st (name_sum ctx (of_struct place s) k) (before k)
  unfolding edge_sum edge_value parts_at
  old_has k n =
      let e : Edge = record { base = Some k; terms = []; bytes = pos 0 } in
      let whole = member_edge st ctx place a s t is (constant (pos 0)) (pos 0) e
      (record { base = n; terms = All-nil (λ x. IsNamed st a t x.1) }) (has_constant st (pos 0)) in
      let sum : Sum = name_sum ctx (of_struct place s) k in
      record {
        read = have_front st sum.parts (Constant (pos 1) (pos 0) ∷ []) whole.read;
        is = less (parts_at st sum.parts) (before k) (sym (parts_both st sum.parts (Constant (pos 1) (pos 0) ∷ [])) ∙ whole.is);
      }
    where
      less : (x y : ℤ) → x +ℤ (pos 0 +ℤ pos 0) ≡ y +ℤ pos 0 → x ≡ y
      less x y h = omega (arith, ints, h)

  old_once : (k : ℕ) → AreOnce (name_sum ctx (of_struct place s) k).parts
  unfolding name_sum named_sum
  old_once k = by (member ctx.table s k)
    where
      by : (o : Option Member) → AreOnce (member_sum place o).parts
      by None = tt
      by (Some m) = (refl, tt)

  old_terms : (ts : List (ℤ × ℕ)) → All (λ x. IsSibling t x.1) ts → TermsHave st ctx (of_struct place s) before ts
  old_terms [] all = tt
  old_terms (x ∷ ts) all = (
    old_has x.1 (named x.1 (All-head (λ x. IsSibling t x.1) x ts all)),
    old_once x.1,
    old_terms ts
        (All-tail (λ x. IsSibling t x.1) x ts all),
  )

  old_base : (b : Option ℕ) → IsBaseOf t b → BaseHas st ctx (of_struct place s) before b
  old_base None n = tt
  old_base (Some k) n = old_has k (named k n)

  pub old_names : (e : Edge) → NamesSiblings t e → HaveNames st ctx (of_struct place s) before e
  old_names e n = record { base = old_base e.base n.base; terms = old_terms e.terms n.terms }

  -- ---- with a new value for one
  module _ (k : ℕ) (after : ℕ → ℤ) (new : Sum) (once : (m : Member) (x : Scalar) → slice_get t.members k ≡ Some m → m.shape ≡ shape.Int x
      → AreOnce new.parts)
      (has : IsSibling t k → HasValue st new (after k)) (stays : (j : ℕ) → IsSibling t j → j ≢ k → after j ≡ before j) where
    abbrev changes : Naming
    changes = changed (names.OfStruct place s) k new

    eqb_not : (m n : ℕ) → (m == n) ≡ false → n ≢ m
    eqb_not m n h e = true≢false (sym ((Decides-eqb m n).1 (sym e)) ∙ h)

    new_or : (j : ℕ) → IsSibling t j → (b : Bool) → (k == j) ≡ b → HasValue st (if b then new else named_sum ctx (names.OfStruct place s)
        j) (after j)
    unfolding name_sum
    new_or j n true e = let here = (Decides-eqb k j).0 e in subst (λ (i : ℕ). HasValue st new (after i)) here
        (has (subst (IsSibling t) (sym here) n))
    new_or j n false e = subst (λ (v : ℤ). HasValue st (named_sum ctx (names.OfStruct place s) j) v) (sym (stays j n (eqb_not k j e)))
        (old_has j (named j n))

    new_has : (j : ℕ) → IsSibling t j → HasValue st (name_sum ctx changes j) (after j)
    unfolding name_sum
    new_has j n = new_or j n (k == j) refl

    once_or : (j : ℕ) → IsIntegerMember t j → (b : Bool) → (k == j) ≡ b
        → AreOnce (if b then new else named_sum ctx (names.OfStruct place s) j).parts
    unfolding name_sum
    once_or j n true e = once n.0 n.2 (subst (λ (i : ℕ). slice_get t.members i ≡ Some n.0) (sym ((Decides-eqb k j).0 e)) n.1) n.3
    once_or j n false e = old_once j

    new_once : (j : ℕ) → IsIntegerMember t j → AreOnce (name_sum ctx changes j).parts
    unfolding name_sum
    new_once j n = once_or j n (k == j) refl

    new_terms : (ts : List (ℤ × ℕ)) → All (λ x. IsSibling t x.1) ts → All (λ x. IsIntegerMember t x.1) ts → TermsHave st ctx changes after
        ts
    new_terms [] all whole = tt
    new_terms (x ∷ ts) all whole = (
      new_has x.1 (All-head (λ x. IsSibling t x.1) x ts all),
      new_once x.1 (All-head (λ x. IsIntegerMember t x.1) x ts whole),
      new_terms ts (All-tail (λ x. IsSibling t x.1) x ts all) (All-tail (λ x. IsIntegerMember t x.1) x ts whole),
    )

    new_base : (b : Option ℕ) → IsBaseOf t b → BaseHas st ctx changes after b
    new_base None n = tt
    new_base (Some j) n = new_has j n

    terms_agree : (ts : List (ℤ × ℕ)) → All (λ x. IsSibling t x.1) ts → TermsAgree k before after ts
    terms_agree [] all = tt
    terms_agree (x ∷ ts) all = (
      stays x.1 (All-head (λ x. IsSibling t x.1) x ts all),
      terms_agree ts (All-tail (λ x. IsSibling t x.1) x ts
          all),
    )

    base_agrees : (b : Option ℕ) → IsBaseOf t b → BaseAgrees k before after b
    base_agrees None n = tt
    base_agrees (Some j) n = stays j n

    pub new_names : (e : Edge) → NamesSiblings t e → HaveNames st ctx changes after e
    new_names e n = record { base = new_base e.base n.base; terms = new_terms e.terms n.terms n.integers }

    pub agree_names : (e : Edge) → NamesSiblings t e → BaseAgrees k before after e.base × TermsAgree k before after e.terms
    agree_names e n = (base_agrees e.base n.base, terms_agree e.terms n.terms)
