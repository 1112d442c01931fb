use Rattle.std.proofs.Common.{◌≡◌, ℕ, ◌+◌, ◌-◌, ◌≤◌, Bool, true, not, List, [], ◌∷◌, ◌++◌, length, get_or, sym, ap, subst, rules, arith}
use Rattle.check_elim.specs.Redundancy.{redundant}
use Rattle.check_elim.proofs.Ruling.{kept_more}
use Rattle.check_elim.proofs.removing.kept_by.Goals as goal

pub loop-place-init : goal.loop-place-init
loop-place-init c = (ap length c.in_ok-kept.ensures.items, λ id low high. absurd (omega (arith, low, high)))

pub loop-place-preserved : goal.loop-place-preserved
loop-place-preserved c =
    let pushed : c.push.new.self.items ≡ c.loop-place.kept.items ++ c.is_needed-needed.result ∷ [] = search rules in (
      search rules,
      subst (λ (l : List Bool). (id : ℕ) → 1 ≤ id → id ≤ c.loop-place.place + 1 → get_or l (id - 1) true ≡ not (redundant c.args.f.now id)) (sym pushed)
          (kept_more c.args.f.now c.loop-place.kept.items c.loop-place.place c.is_needed-needed.result c.loop-place.invariant.0 c.is_needed-needed.ensures c.loop-place.invariant.1),
    )

pub returns-clause-value : goal.returns-clause-value
returns-clause-value c = λ id low high. c.loop-place.invariant.1 id low (omega (arith, high, c.loop-place-test.false, ap length c.as_slice-checks.ensures))
