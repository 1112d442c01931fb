use Rattle.std.proofs.Common.{◌≡◌, ◌<◌, ◌≤◌, Bool, true, List, length, sym, ap, ◌∙◌, subst, get_or}
use Rattle.checked_tree.specs.declared.expressions.CheckedExpr.{CheckedExpr, out-CheckedExpr}
use Rattle.checked_tree.specs.Redundant.{is_slot, local_slot}
use Rattle.check_elim.proofs.Places.{found, not_found}
use Rattle.check_elim.proofs.over_atoms.atom.Goals as goal

pub returns-then-is_local : goal.returns-then-is_local
returns-then-is_local c =
    let p : CheckedExpr → Bool = λ (e : CheckedExpr). is_slot c.args.slot (local_slot (out-CheckedExpr e)) in
    found p c.args.f.now.atoms c.loop-number.number c.index-atoms-number.result c.loop-number.invariant
    (subst (λ (l : List CheckedExpr). c.loop-number.number < length l) c.as_slice-atoms.ensures c.loop-number-test.true)
    (subst (λ (l : List CheckedExpr). p (get_or l c.loop-number.number c.index-atoms-number.result) ≡ true) c.as_slice-atoms.ensures (ap p (sym c.index-atoms-number.is) ∙ (sym c.is_local.ensures ∙ c.if-is_local.true)))

pub returns : goal.returns
returns c =
    not_found (λ (e : CheckedExpr). is_slot c.args.slot (local_slot (out-CheckedExpr e))) c.args.f.now.atoms c.loop-number.number c.loop-number.invariant
    (subst (λ (l : List CheckedExpr). length l ≤ c.loop-number.number) c.as_slice-atoms.ensures c.loop-number-test.false)
