use Rattle.std.proofs.Common.{◌≡◌, ◌<◌, ◌-◌, ℕ, suc, false, true, length, get_or, drop, Some, sym, ap, ◌∙◌, subst, arith}
use Rattle.std.proofs.lemmas.Bool.Decides.{nat_tests}
use Rattle.std.specs.List.{list_any}
use Rattle.claim_table.specs.Ordered.{has_number}
use Rattle.claim_table.proofs.Found.{find_last_at, find_last_none}
use Rattle.claim_table.proofs.rows.latest.Goals as goal

pub returns-then-claim-number : goal.returns-then-claim-number
returns-then-claim-number g c =
    let x = c.index-claims-end.result in
    let i : ℕ = c.loop-end.end - 1 in
    let within : i < length c.args.claims.now = omega arith in
    let at : x ≡ get_or c.args.claims.now i x = c.index-claims-end.is in
    let next : suc i ≡ c.loop-end.end = omega arith in
    let here : has_number c.args.number (get_or c.args.claims.now i x) ≡ true =
    subst (λ y. has_number c.args.number y ≡ true) at (grind (arith, nat_tests)) in
    let behind : list_any (has_number c.args.number) (drop (suc i) c.args.claims.now) ≡ false =
    subst (λ n. list_any (has_number c.args.number) (drop n c.args.claims.now) ≡ false) (sym next) c.loop-end.invariant.none_behind in
    ap Some at ∙ sym (find_last_at (has_number c.args.number) c.args.claims.now i x within here behind)

pub returns : goal.returns
returns g c =
    let end : c.loop-end.end ≡ 0 = omega arith in
    sym (find_last_none (has_number c.args.number) c.args.claims.now
    (subst (λ n. list_any (has_number c.args.number) (drop n c.args.claims.now) ≡ false) end c.loop-end.invariant.none_behind))
