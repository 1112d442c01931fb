-- Equality of names is equality of their bytes, and a set of names is searched by it.
use Rattle.std.proofs.Common.{◌≡◌, ◌-◌, ◌<◌, ◌^◌, ℕ, List, [], ◌∷◌, ◌++◌, Option, position, false, cond, length, take, replicate, true, bytes_eq, nat_eq, refl, sym, ◌∙◌, ap, subst, Bool}
use Rattle.std.proofs.Math.Seq.{take-append_seam}
use Rattle.std.proofs.lemmas.Bool.{and_parts, and_from, eqb-true, eq-eqb, cond-true, cond-false, lt-ltb}
use Rattle.std.proofs.lemmas.Bool.Decides.{same_from_decides}
use Rattle.std.proofs.lemmas.Slice.Eq.{bytes_eq-Decides}
use Rattle.std.specs.Cmp.Lexicographic.{pointwise, bytes_decides}
use Rattle.std.specs.List.{list_any}
use Rattle.indexmap.specs.IndexSet.{insert_key}
use Rattle.deputy_types.specs.Found.{with_name}
use Rattle.sd_base.specs.contracts.name.NamePartialEq.TheImpl as name

abbrev padded : List ℕ → List ℕ
padded x = x ++ replicate (63 - length x) 0

same_name : (x y : List ℕ) → name.ghosts.eq x y ≡ true → x ≡ y
same_name x y h =
    let both = and_parts (pointwise nat_eq (padded x) (padded y)) (nat_eq (length x) (length y)) h in
    let bytes : padded x ≡ padded y = (bytes_decides (padded x) (padded y)).0 both.0 in
    let long : length x ≡ length y = eqb-true (length x) (length y) both.1 in
    sym (take-append_seam x _) ∙ (ap (take (length x)) bytes ∙ (ap (λ n. take n (padded y)) long ∙ take-append_seam y _))

its_own : (x : List ℕ) → name.ghosts.eq x x ≡ true
its_own x = and_from (pointwise nat_eq (padded x) (padded x)) (nat_eq (length x) (length x)) ((bytes_decides (padded x) (padded x)).1 refl) (eq-eqb (length x) (length x) refl)

pub name_eq : (x y : List ℕ) → name.ghosts.eq x y ≡ bytes_eq x y
name_eq x y = same_from_decides _ _ (same_name x y, λ e. subst (λ z. name.ghosts.eq x z ≡ true) e (its_own x)) (bytes_eq-Decides x y)

-- a search by the set's comparison is a search by bytes
same_test : (x : List ℕ) → name.ghosts.eq x ≡ bytes_eq x
same_test x = λ i y. name_eq x y i

pub number-found : (o : Option ℕ) (x : List ℕ) (keys now : List (List ℕ)) → keys ≡ now → o ≡ position (name.ghosts.eq x) keys → o ≡ position (bytes_eq x) now
number-found o x keys now same found = subst (λ l. o ≡ position (bytes_eq x) l) same (found ∙ ap (λ p. position p keys) (same_test x))

pub has-found : (b : Bool) (x : List ℕ) (keys now : List (List ℕ)) → keys ≡ now → b ≡ list_any (name.ghosts.eq x) keys → b ≡ list_any (bytes_eq x) now
has-found b x keys now same found = subst (λ l. b ≡ list_any (bytes_eq x) l) same (found ∙ ap (λ p. list_any p keys) (same_test x))

-- a name that is there adds nothing
pub with_name-known : (names : List (List ℕ)) (x : List ℕ) → list_any (bytes_eq x) names ≡ true → names ≡ with_name names x
unfolding with_name
with_name-known names x h = sym (cond-true _ names _ h)

-- a name that is not there comes behind the others
pub with_name-new : (keys now new : List (List ℕ)) (x : List ℕ) → keys ≡ now → list_any (bytes_eq x) now ≡ false → length now < 2 ^ 32 - 1
    → new ≡ insert_key name.ghosts.eq keys x → new ≡ with_name now x
unfolding with_name
with_name-new keys now new x same absent room is =
    is ∙ (ap (λ l. insert_key name.ghosts.eq l x) same ∙ (ap (λ p. cond (list_any p now) now (now ++ x ∷ [])) (same_test x)
    ∙ (cond-false _ now _ absent ∙ sym (cond-false _ now _ absent ∙ cond-true _ _ now (lt-ltb (length now) (2 ^ 32 - 1) room)))))
