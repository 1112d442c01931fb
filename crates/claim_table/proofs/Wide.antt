-- No range of ports has more ports than there are.
use Rattle.std.proofs.Common.{◌≡◌, ℕ, ◌≤◌, Bool, true, false, cond, List, ℤ, pos, negsuc, nat_abs, ◌+ℤ◌, int_lt, Some, None, refl, ap, sym, ◌∙◌, subst, arith}
use Rattle.std.proofs.lemmas.Bool.Decides.{nat_tests}
use Rattle.std.proofs.lemmas.Int.{ints}
use Rattle.std.specs.List.{list_any, filter}
use Rattle.sd_base.specs.Allowed.{is_range}
use Rattle.sd_base.proofs.Removal.{list_any-filter_none}
use Rattle.claim_table.specs.declared.claim.Claim.{Claim}
use Rattle.claim_table.specs.declared.claim.PortRange.{PortRange}
use Rattle.claim_table.specs.Ordered.{insert_claim}
use Rattle.claim_table.specs.ClaimRows.{is_wide, range_of}
use Rattle.claim_table.proofs.InOrder.{list_any-insert}

few : (base n : ℤ) → is_range base n ≡ true → nat_abs n ≤ 65536
few (pos b) (pos n) fits =
    let ends : int_lt (pos b +ℤ pos n) (pos 65537) ≡ true = grind arith in
    grind (arith, nat_tests, ints)
few (pos b) (negsuc n) fits = grind (arith, nat_tests, ints)
few (negsuc b) n fits = cc

one_of : (base n : ℤ) (fits : Bool) (r : PortRange) → is_range base n ≡ fits → Some r ≡ cond fits (Some (record { base = nat_abs base; n = nat_abs n })) None → r.n ≤ 65536
one_of base n true r fits is =
    let same : r ≡ record { base = nat_abs base; n = nat_abs n } = cc in
    subst (λ m. m ≤ 65536) (sym (ap (λ (s : PortRange). s.n) same)) (few base n fits)
one_of base n false r fits is = cc

pub range_is_narrow : (base n : ℤ) (r : PortRange) → Some r ≡ range_of base n → r.n ≤ 65536
range_is_narrow base n r is = one_of base n (is_range base n) r refl is

pub narrow_insert : (x : Claim ℕ) (claims new : List (Claim ℕ)) → x.detail ≤ 65536 → list_any is_wide claims ≡ false → new ≡ insert_claim x claims → list_any is_wide new ≡ false
narrow_insert x claims new fits none is = ap (list_any is_wide) is ∙ list_any-insert is_wide x claims ∙ grind (arith, nat_tests)

pub narrow_filter : (q : Claim ℕ → Bool) (claims new : List (Claim ℕ)) → list_any is_wide claims ≡ false → new ≡ filter q claims → list_any is_wide new ≡ false
narrow_filter q claims new none is = ap (list_any is_wide) is ∙ list_any-filter_none q is_wide claims none
