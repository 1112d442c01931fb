-- Equality of names is equality of their bytes.
use Rattle.std.proofs.Common.{◌≡◌, ◌-◌, ℕ, List, ◌++◌, length, take, replicate, true, bytes_eq, nat_eq, refl, sym, ◌∙◌, ap, subst}
use Rattle.std.proofs.Math.Seq.{take-append_seam}
use Rattle.std.proofs.lemmas.Bool.{and_parts, and_from, eqb-true, eq-eqb}
use Rattle.std.proofs.lemmas.Bool.Decides.{same_from_decides}
use Rattle.std.proofs.lemmas.Slice.Eq.{bytes_eq-Decides}
use Rattle.std.specs.Cmp.Lexicographic.{pointwise, bytes_decides}
use Rattle.sd_base.specs.contracts.name.NamePartialEq.TheImpl as name

abbrev padded : List ℕ → List ℕ
padded x = x ++ replicate (63 - length x) 0

same_name : (x y : List ℕ) → name.ghosts.eq x y ≡ true → x ≡ y
same_name x y h =
    let both = and_parts (pointwise nat_eq (padded x) (padded y)) (nat_eq (length x) (length y)) h in
    let bytes : padded x ≡ padded y = (bytes_decides (padded x) (padded y)).0 both.0 in
    let long : length x ≡ length y = eqb-true (length x) (length y) both.1 in
    sym (take-append_seam x _) ∙ (ap (take (length x)) bytes ∙ (ap (λ n. take n (padded y)) long ∙ take-append_seam y _))

its_own : (x : List ℕ) → name.ghosts.eq x x ≡ true
its_own x = and_from (pointwise nat_eq (padded x) (padded x)) (nat_eq (length x) (length x)) ((bytes_decides (padded x) (padded x)).1 refl) (eq-eqb (length x) (length x) refl)

pub name_eq : (x y : List ℕ) → name.ghosts.eq x y ≡ bytes_eq x y
name_eq x y = same_from_decides _ _ (same_name x y, λ e. subst (λ z. name.ghosts.eq x z ≡ true) e (its_own x)) (bytes_eq-Decides x y)
