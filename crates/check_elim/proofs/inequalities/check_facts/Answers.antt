use Rattle.std.proofs.Common.{◌≡◌, ℕ, List, [], ◌∷◌, ◌++◌, Some, All, slice_get, sym, ap, ◌∙◌, subst, rules}
use Rattle.std.proofs.lemmas.Option.{slice_get-get_or}
use Rattle.checked_tree.specs.declared.checks.Check.{Check}
use Rattle.check_elim.specs.declared.table.CheckFact.{CheckFact}
use Rattle.check_elim.specs.Tables.{IsSmallCond, HasSmallChecks, IsCheckFact}
use Rattle.check_elim.proofs.FactLists.{found_all, each_more}
use Rattle.check_elim.proofs.inequalities.check_facts.Goals as goal

pub check_fact-requires-clause-small : goal.check_fact-requires-clause-small
unfolding HasSmallChecks
check_fact-requires-clause-small c =
    subst (λ (x : Check). IsSmallCond x.cond) (sym c.check-item.is)
    (subst (λ (l : List Check). All (λ (x : Check). IsSmallCond x.cond) l) (sym c.as_slice-checks.ensures) c.requires.small c.loop-check.check-index c.check-item.result c.loop-check-test.true)

pub check_fact-requires-clause-all : goal.check_fact-requires-clause-all
check_fact-requires-clause-all c = λ i is over.
    c.requires.all i (found_all c.args.f.now c.args.f.now.checks c.loop-check.check-index c.check-item.result i
    (subst (λ (l : List Check). slice_get l c.loop-check.check-index ≡ Some c.check-item.result) c.as_slice-checks.ensures
    (slice_get-get_or c.as_slice-checks.result.now c.loop-check.check-index c.check-item.result c.loop-check-test.true ∙ ap (λ x. Some x) (sym c.check-item.is))) is over)

pub loop-check-preserved : goal.loop-check-preserved
loop-check-preserved c =
    let pushed : c.push.new.self.items ≡ c.loop-check.all.items ++ c.in_ok-fact.fact ∷ [] = search rules in (
      search rules,
      subst (λ (l : List CheckFact). (place : ℕ) (d : Check) (x : CheckFact) → slice_get c.as_slice-checks.result.now place ≡ Some d → slice_get l place ≡ Some x → IsCheckFact c.args.f.now c.args.facts.now d x) (sym pushed)
          (each_more c.args.f.now c.args.facts.now c.as_slice-checks.result.now c.loop-check.all.items c.loop-check.check-index c.check-item.result c.in_ok-fact.fact c.loop-check.invariant.0 c.loop-check-test.true
          (subst (λ (d : Check). IsCheckFact c.args.f.now c.args.facts.now d c.in_ok-fact.fact) c.check-item.is c.in_ok-fact.ensures) c.loop-check.invariant.1),
    )
