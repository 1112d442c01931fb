-- `term_of`, `signed_of`, `first_of` and `addr_of` give the longest of their phrases.
use Rattle.std.proofs.Common.{◌≡◌, ℕ, ◌<◌, List, length, Option, None, Some, IfSome, Bool, true, false, refl, ap, sym, subst, inl, inr, arith}
use Rattle.c_tree.specs.declared.signs.Sign.TheVariants as sign
use Rattle.c_tree.specs.declared.types.Addr.{Addr}
use Rattle.c_tree.specs.declared.types.Number.{Number}
use Rattle.c_tree.specs.declared.types.SignedTerm.{SignedTerm}
use Rattle.c_tree.specs.declared.types.Term.{Term}
use Rattle.c_tree.specs.declared.types.Term.TheVariants as term
use Rattle.c_tree.specs.declared.words.Suffix.{Suffix}
use Rattle.c_tree.specs.declared.words.Token.{Token}
use Rattle.c_tree.specs.declared.words.Word.TheVariants as word
use Rattle.c_tree.specs.Reading.{Front, front_of, Begins, Best, Within, Covered}
use Rattle.c_tree.specs.Reading.Front.{front}
use Rattle.c_tree.specs.TypeGrammar.{TermAt, number, name, product, SignedAt, plus, minus, FirstTermAt, first, negative_first, AddrAt, pointer, offset}
use Rattle.c_expr.specs.Classes.{At, is_star, is_plus_or_minus, is_in_sums}
use Rattle.c_expr.specs.TypeReading.{product_after, number_after, term_of, term_of_front, with_sign, signed_of, signed_of_front, first_of, first_of_front, addr_after, addr_of, addr_of_front}
use Rattle.c_expr.proofs.Begins.{begins_shrinks}
use Rattle.c_expr.proofs.Classes.{star_in_sums, signs_in_sums}

-- ---- terms
product_sound : (w v r : List Token) (n : ℕ) (s : Suffix) → Begins w (word.Number n s) v → Begins v (word.Sign sign.Star) r → (f : Front) → front_of r ≡ f
    → TermAt w (product_after (record { value = n; suffix = s }) v f).1 (product_after (record { value = n; suffix = s }) v f).0
product_sound w v r n s b c (front (word.Name m) q) h = product b c h
product_sound w v r n s b c _ h = number b

number_sound : (w v : List Token) (n : ℕ) (s : Suffix) → Begins w (word.Number n s) v → (f : Front) → front_of v ≡ f
    → TermAt w (number_after (record { value = n; suffix = s }) v f).1 (number_after (record { value = n; suffix = s }) v f).0
number_sound w v n s b (front (word.Sign sign.Star) r) h = product_sound w v r n s b h (front_of r) refl
number_sound w v n s b _ h = number b

term_sound : (w : List Token) (f : Front) → front_of w ≡ f → IfSome (term_of_front f) (λ a. TermAt w a.1 a.0)
term_sound w (front (word.Number n s) v) h = number_sound w v n s h (front_of v) refl
term_sound w (front (word.Name n) v) h = name h
term_sound w _ h = tt

product_alone : (v r : List Token) (k : Number) → Begins v (word.Sign sign.Star) r → (f : Front) → front_of r ≡ f → Within (At is_star) v (term.Number k) (product_after k v f)
product_alone v r k b (front (word.Name m) q) h = inr (omega (arith, begins_shrinks v b, begins_shrinks r h), rw b refl)
product_alone v r k b _ h = inl (refl, refl)

-- a number alone, unless `*` and a name stand after it
number_alone : (v : List Token) (k : Number) (f : Front) → front_of v ≡ f → Within (At is_star) v (term.Number k) (number_after k v f)
number_alone v k (front (word.Sign sign.Star) r) h = product_alone v r k h (front_of r) refl
number_alone v k _ h = inl (refl, refl)

term_covers : (w v : List Token) (x : Term) → TermAt w v x → Covered (At is_star) v x (term_of w)
term_covers w v x (number b) = rw b (number_alone v _ (front_of v) refl)
term_covers w v x (name b) = rw b (inl (refl, refl))
term_covers w v x (product b c d) = rw (b, c, d) (inl (refl, refl))

pub term_best : (w : List Token) → Best (TermAt w) (At is_star) (term_of w)
term_best w = record { sound = term_sound w (front_of w) refl; covers = term_covers w }

-- ---- terms with a sign
signed_some : (b : Bool) (R : List Token → Term → Type 0) (S : List Token → SignedTerm → Type 0)
    → ((v : List Token) (t : Term) → R v t → S v (record { negative = b; term = t })) → (o : Option (Term × List Token)) → IfSome o (λ a. R a.1 a.0)
    → IfSome (with_sign b o) (λ a. S a.1 a.0)
signed_some b R S h None s = tt
signed_some b R S h (Some a) s = h a.1 a.0 s

signed_covered : (b : Bool) (v : List Token) (t : Term) (o : Option (Term × List Token)) → Covered (At is_star) v t o
    → Covered (At is_star) v (record { negative = b; term = t }) (with_sign b o)
signed_covered b v t None c = c
signed_covered b v t (Some a) (inl e) = let f : Term → SignedTerm = λ x. record { negative = b; term = x } in inl (ap f e.0, e.1)
signed_covered b v t (Some a) (inr p) = inr p

signed_sound : (w : List Token) (f : Front) → front_of w ≡ f → IfSome (signed_of_front f) (λ a. SignedAt w a.1 a.0)
signed_sound w (front (word.Sign sign.Plus) u) h = signed_some false (TermAt u) (SignedAt w) (λ v t d. plus h d) (term_of u) (term_best u).sound
signed_sound w (front (word.Sign sign.Minus) u) h = signed_some true (TermAt u) (SignedAt w) (λ v t d. minus h d) (term_of u) (term_best u).sound
signed_sound w _ h = tt

signed_covers : (w v : List Token) (x : SignedTerm) → SignedAt w v x → Covered (At is_star) v x (signed_of w)
signed_covers w v x (plus {u = u} b d) = rw b (signed_covered false v _ (term_of u) ((term_best u).covers v _ d))
signed_covers w v x (minus {u = u} b d) = rw b (signed_covered true v _ (term_of u) ((term_best u).covers v _ d))

pub signed_best : (w : List Token) → Best (SignedAt w) (At is_star) (signed_of w)
signed_best w = record { sound = signed_sound w (front_of w) refl; covers = signed_covers w }

pub signed_starts : (w v : List Token) (x : SignedTerm) → SignedAt w v x → At is_plus_or_minus w
signed_starts w v x (plus b d) = rw b refl
signed_starts w v x (minus b d) = rw b refl

-- ---- the first term of a sum
first_sound : (w : List Token) (f : Front) → front_of w ≡ f → IfSome (first_of_front w f) (λ a. FirstTermAt w a.1 a.0)
first_sound w (front (word.Sign sign.Minus) u) h = signed_some true (TermAt u) (FirstTermAt w) (λ v t d. negative_first h d) (term_of u) (term_best u).sound
first_sound w _ h = signed_some false (TermAt w) (FirstTermAt w) (λ v t d. first d) (term_of w) (term_best w).sound

-- a term has no sign before it
unsigned_first : (w v : List Token) (t : Term) → TermAt w v t → first_of w ≡ with_sign false (term_of w)
unsigned_first w v t (number b) = subst (λ f. first_of_front w f ≡ with_sign false (term_of w)) (sym b) refl
unsigned_first w v t (name b) = subst (λ f. first_of_front w f ≡ with_sign false (term_of w)) (sym b) refl
unsigned_first w v t (product b c d) = subst (λ f. first_of_front w f ≡ with_sign false (term_of w)) (sym b) refl

first_covers : (w v : List Token) (x : SignedTerm) → FirstTermAt w v x → Covered (At is_star) v x (first_of w)
first_covers w v x (first d) = rw (unsigned_first w v _ d) (signed_covered false v _ (term_of w) ((term_best w).covers v _ d))
first_covers w v x (negative_first {u = u} b d) = rw b (signed_covered true v _ (term_of u) ((term_best u).covers v _ d))

pub first_best : (w : List Token) → Best (FirstTermAt w) (At is_star) (first_of w)
first_best w = record { sound = first_sound w (front_of w) refl; covers = first_covers w }

-- ---- the ends of bounds
term_shrinks : (w v : List Token) (x : Term) → TermAt w v x → length v < length w
term_shrinks w v x (number b) = begins_shrinks w b
term_shrinks w v x (name b) = begins_shrinks w b
term_shrinks w v x (product {u = u} {r = r} b c d) = omega (arith, begins_shrinks w b, begins_shrinks u c, begins_shrinks r d)

pub signed_shrinks : (w v : List Token) (x : SignedTerm) → SignedAt w v x → length v < length w
signed_shrinks w v x (plus {u = u} b d) = omega (arith, begins_shrinks w b, term_shrinks u v _ d)
signed_shrinks w v x (minus {u = u} b d) = omega (arith, begins_shrinks w b, term_shrinks u v _ d)

addr_some : (w v : List Token) (n : List ℕ) → Begins w (word.Name n) v → (o : Option (SignedTerm × List Token)) → IfSome o (λ a. SignedAt v a.1 a.0)
    → AddrAt w (addr_after n v o).1 (addr_after n v o).0
addr_some w v n b None s = pointer b
addr_some w v n b (Some a) s = offset b s

addr_sound : (w : List Token) (f : Front) → front_of w ≡ f → IfSome (addr_of_front f) (λ a. AddrAt w a.1 a.0)
addr_sound w (front (word.Name n) v) h = addr_some w v n h (signed_of v) (signed_best v).sound
addr_sound w _ h = tt

-- a pointer alone, unless a term stands after it
addr_alone : (v : List Token) (n : List ℕ) (o : Option (SignedTerm × List Token)) → IfSome o (λ a. SignedAt v a.1 a.0)
    → Within (At is_in_sums) v (record { pointer = n; offset = None }) (addr_after n v o)
addr_alone v n None s = inl (refl, refl)
addr_alone v n (Some a) s = inr (signed_shrinks v a.1 a.0 s, signs_in_sums v (signed_starts v a.1 a.0 s))

addr_moved : (v r : List Token) (n : List ℕ) (t : SignedTerm) (o : Option (SignedTerm × List Token)) → Covered (At is_star) r t o
    → Within (At is_in_sums) r (record { pointer = n; offset = Some t }) (addr_after n v o)
addr_moved v r n t None c = absurd c
addr_moved v r n t (Some a) (inl e) = let f : SignedTerm → Addr = λ x. record { pointer = n; offset = Some x } in inl (ap f e.0, e.1)
addr_moved v r n t (Some a) (inr p) = inr (p.0, star_in_sums r p.1)

addr_covers : (w v : List Token) (x : Addr) → AddrAt w v x → Covered (At is_in_sums) v x (addr_of w)
addr_covers w v x (pointer b) = rw b (addr_alone v _ (signed_of v) (signed_best v).sound)
addr_covers w v x (offset {u = u} b d) = rw b (addr_moved u v _ _ (signed_of u) ((signed_best u).covers v _ d))

pub addr_best : (w : List Token) → Best (AddrAt w) (At is_in_sums) (addr_of w)
addr_best w = record { sound = addr_sound w (front_of w) refl; covers = addr_covers w }

-- ---- the same of an answer that is said to be theirs
pub signed_is : (w : List Token) (o : Option (SignedTerm × List Token)) → o ≡ signed_of w → Best (SignedAt w) (At is_star) o
signed_is w o e = subst (Best (SignedAt w) (At is_star)) (sym e) (signed_best w)

pub first_is : (w : List Token) (o : Option (SignedTerm × List Token)) → o ≡ first_of w → Best (FirstTermAt w) (At is_star) o
first_is w o e = subst (Best (FirstTermAt w) (At is_star)) (sym e) (first_best w)

pub addr_is : (w : List Token) (o : Option (Addr × List Token)) → o ≡ addr_of w → Best (AddrAt w) (At is_in_sums) o
addr_is w o e = subst (Best (AddrAt w) (At is_in_sums)) (sym e) (addr_best w)
