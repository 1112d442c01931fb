-- An expression that reads no memory has the same value in two states that have the same values in the slots that it reads.
use Rattle.std.proofs.Common.{◌≡◌, ℕ, Bool, true, false, ◌||◌, List, [], ◌∷◌, ◌++◌, ℤ, pos, ◌+ℤ◌, ◌*ℤ◌, Ok, slice_index_or, refl, sym, ap, subst, ◌∙◌}
use Rattle.checked_tree.specs.declared.expressions.CheckedExpr.{CheckedExpr, map-CheckedExpr, roll-CheckedExpr}
use Rattle.checked_tree.specs.declared.expressions.CheckedExpr.TheOpen as E
use Rattle.checked_tree.specs.declared.expressions.CheckedExpr.TheFolds.{fold-CheckedExpr, fold-roll-CheckedExpr, ind-CheckedExpr}
use Rattle.checked_tree.specs.Outcome.{Got, ◌>>=◌}
use Rattle.checked_tree.specs.Numbers.{address, unary, arithmetic, comparison}
use Rattle.checked_tree.specs.Conditions.{State, Testing, moved, parts, logical, eval_level, peek}
use Rattle.checked_tree.specs.Redundant.{reads_level, reads_memory, slots_level, slots_read}

pub or_false : (a b : Bool) → (a || b) ≡ false → (a ≡ false) × (b ≡ false)
or_false true b h = absurd cc
or_false false b h = (refl, h)

both : (f : Got → Got → Got) (a b c d : Got) → a ≡ b → c ≡ d → f a c ≡ f b d
both f a b c d p q = ap (λ x. f x c) p ∙ ap (λ y. f b y) q

module _ (s t : State) where
  -- the two states have the same values in these slots
  abbrev pub SameIn : List ℕ → Type 0
  SameIn [] = Unit {0}
  SameIn (k ∷ ks) = (slice_index_or s.locals k (pos 0) ≡ slice_index_or t.locals k (pos 0)) × SameIn ks

  pub same_left : (a b : List ℕ) → SameIn (a ++ b) → SameIn a
  same_left [] b h = tt
  same_left (k ∷ ks) b h = (h.0, same_left ks b h.1)

  pub same_right : (a b : List ℕ) → SameIn (a ++ b) → SameIn b
  same_right [] b h = h
  same_right (k ∷ ks) b h = same_right ks b h.1

  abbrev untested : Testing
  untested ids = Ok tt

  abbrev reads : CheckedExpr → Bool
  reads e = fold-CheckedExpr Bool reads_level e

  abbrev slots : CheckedExpr → List ℕ
  slots e = fold-CheckedExpr (List ℕ) slots_level e

  abbrev here : CheckedExpr → Got
  here e = fold-CheckedExpr Got (eval_level untested s) e

  abbrev there : CheckedExpr → Got
  there e = fold-CheckedExpr Got (eval_level untested t) e

  abbrev IsSame : CheckedExpr → Type 0
  IsSame e = reads e ≡ false → SameIn (slots e) → here e ≡ there e

  abbrev Both : Type 0
  Both = (e : CheckedExpr) × IsSame e

  abbrev reads_by : E.CheckedExpr-F Both → Bool
  reads_by x = reads_level (map-CheckedExpr Both Bool (λ k. reads k.0) x)

  abbrev slots_by : E.CheckedExpr-F Both → List ℕ
  slots_by x = slots_level (map-CheckedExpr Both (List ℕ) (λ k. slots k.0) x)

  abbrev here_by : E.CheckedExpr-F Both → Got
  here_by x = eval_level untested s (map-CheckedExpr Both Got (λ k. here k.0) x)

  abbrev there_by : E.CheckedExpr-F Both → Got
  there_by x = eval_level untested t (map-CheckedExpr Both Got (λ k. there k.0) x)

  -- two parts
  in_both : (p i : Both) (f : Got → Got → Got) → (reads p.0 || reads i.0) ≡ false → SameIn (slots p.0 ++ slots i.0) → f (here p.0) (here i.0) ≡ f (there p.0) (there i.0)
  in_both p i f r k =
      let q = or_false (reads p.0) (reads i.0) r in
      both f (here p.0) (there p.0) (here i.0) (there i.0) (p.1 q.0 (same_left (slots p.0) (slots i.0) k)) (i.1 q.1 (same_right (slots p.0) (slots i.0) k))

  by_level : (x : E.CheckedExpr-F Both) → reads_by x ≡ false → SameIn (slots_by x) → here_by x ≡ there_by x
  by_level (E.Number value scalar) r k = refl
  by_level E.Null r k = refl
  by_level (E.Local slot) r k = ap (λ (z : ℤ). Ok z) k.0
  by_level (E.Block base) r k = refl
  by_level (E.Through p ids) r k = ap (λ (g : Got). g >>= λ v. Ok v) (p.1 r k)
  by_level (E.Element p i size ids) r k = in_both p i (λ g h. g >>= λ v. h >>= λ n. address (v +ℤ (pos size *ℤ n))) r k
  by_level (E.Field p offset ids) r k = ap (λ (g : Got). g >>= λ a. address (a +ℤ pos offset)) (p.1 r k)
  by_level (E.Load scalar p) r k = absurd cc
  by_level (E.AddressOf p) r k = p.1 r k
  by_level (E.Moved sum p i size ids) r k = in_both p i (λ g h. parts sum g h >>= λ x. address (moved sum size x.0 x.1)) r k
  by_level (E.Unary op scalar a) r k = ap (λ (g : Got). g >>= λ v. Ok (unary op scalar v)) (a.1 r k)
  by_level (E.Binary op scalar a b ids) r k = in_both a b (λ g h. g >>= λ v. h >>= λ w. arithmetic op scalar v w) r k
  by_level (E.Compare op scalar a b) r k = in_both a b (λ g h. g >>= λ v. h >>= λ w. Ok (comparison op scalar v w)) r k
  by_level (E.Logical op a b) r k = in_both a b (λ g h. g >>= λ v. logical op v h) r k

  plain_parts : E.CheckedExpr-F Both → E.CheckedExpr-F CheckedExpr
  plain_parts x = map-CheckedExpr Both CheckedExpr (λ k. k.0) x

  same_reads : (x : E.CheckedExpr-F Both) → reads_level (map-CheckedExpr CheckedExpr Bool reads (plain_parts x)) ≡ reads_by x
  unfolding plain_parts
  same_reads E.Null = refl
  same_reads _ = refl

  same_slots : (x : E.CheckedExpr-F Both) → slots_level (map-CheckedExpr CheckedExpr (List ℕ) slots (plain_parts x)) ≡ slots_by x
  unfolding plain_parts
  same_slots E.Null = refl
  same_slots _ = refl

  same_here : (x : E.CheckedExpr-F Both) → eval_level untested s (map-CheckedExpr CheckedExpr Got here (plain_parts x)) ≡ here_by x
  unfolding plain_parts
  same_here E.Null = refl
  same_here _ = refl

  same_there : (x : E.CheckedExpr-F Both) → eval_level untested t (map-CheckedExpr CheckedExpr Got there (plain_parts x)) ≡ there_by x
  unfolding plain_parts
  same_there E.Null = refl
  same_there _ = refl

  all_same : (e : CheckedExpr) → IsSame e
  unfolding plain_parts
  all_same = ind-CheckedExpr IsSame (λ z x is. subst (λ l. IsSame (roll-CheckedExpr l)) is (one x))
    where
      one : (x : E.CheckedExpr-F Both) → IsSame (roll-CheckedExpr (map-CheckedExpr Both CheckedExpr (λ k. k.0) x))
      one x r k =
          let a = fold-roll-CheckedExpr Bool reads_level (plain_parts x) ∙ same_reads x in
          let b = fold-roll-CheckedExpr (List ℕ) slots_level (plain_parts x) ∙ same_slots x in
          let c = fold-roll-CheckedExpr Got (eval_level untested s) (plain_parts x) ∙ same_here x in
          let d = fold-roll-CheckedExpr Got (eval_level untested t) (plain_parts x) ∙ same_there x in
          c ∙ (by_level x (sym a ∙ r) (subst SameIn b k) ∙ sym d)

  pub peek_same : (e : CheckedExpr) → reads_memory e ≡ false → SameIn (slots_read e) → peek s e ≡ peek t e
  unfolding reads_memory slots_read peek
  peek_same e r k = all_same e r k
