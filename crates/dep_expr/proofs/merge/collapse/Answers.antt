use Rattle.std.proofs.Common.{◌≡◌, ◌++◌, ◌∙◌, ap, sym, subst, append_assoc, arith, All, List, ℕ, ℤ, pos, get_or, length, ◌<◌, ◌==◌, eqb-true, drop, to_z, of_z, ◌+◌}
use Rattle.std.specs.Int.{w128}
use Rattle.std.proofs.lemmas.Int.{ints}
use Rattle.std.proofs.lemmas.List.{get_or_default}
use Rattle.std.proofs.lemmas.Bool.Decides.{Decides-eqb, not_from_Decides}
use Rattle.dep_expr.specs.Linear.{IsSmallTerm}
use Rattle.dep_expr.specs.Merged.{collapsed_from, counted}
use Rattle.dep_expr.proofs.Collapsing.{collapsed_same, collapsed_other, collapsed_end, collapsed_begin, collapsed-none, small_open, small_last}
use Rattle.dep_expr.proofs.merge.collapse.Goals as goal

pub loop-term-preserved-then-term-atom : goal.loop-term-preserved-then-term-atom
loop-term-preserved-then-term-atom c =
    let terms = c.args.terms.now in
    let i = c.loop-term.term-index in
    let t = get_or terms i (pos 0, 0) in
    record {
      result = collapsed_same terms c.loop-term.form.items (to_z w128 c.loop-term.sum-bits) _ c.loop-term.atom i t c.loop-term-test.true
          (get_or_default terms i (pos 0, 0) t c.loop-term-test.true) c.loop-term.invariant.result c.if-term-atom.true (omega (arith, ints));
      low = omega (arith, ints);
      high = omega (arith, ints);
    }

pub push_counted-requires : goal.push_counted-requires
push_counted-requires c =
    let terms = c.args.terms.now in
    let i = c.loop-term.term-index in
    let t = get_or terms i (pos 0, 0) in
    let sum = to_z w128 c.loop-term.sum-bits in
    let e = collapsed_other terms c.loop-term.form.items sum c.loop-term.atom i t c.loop-term-test.true
    (get_or_default terms i (pos 0, 0) t c.loop-term-test.true) c.loop-term.invariant.result c.if-term-atom.false in
    small_open c.loop-term.form.items (collapsed_from t.0 t.1 (drop (i + 1) terms)) sum c.loop-term.atom (subst (λ (xs : List (ℤ × ℕ)). All IsSmallTerm xs) (sym e) c.requires)

pub loop-term-preserved : goal.loop-term-preserved
loop-term-preserved c =
    let terms = c.args.terms.now in
    let i = c.loop-term.term-index in
    let t = get_or terms i (pos 0, 0) in
    let sum = to_z w128 c.loop-term.sum-bits in
    let rest = drop (i + 1) terms in
    let e = collapsed_other terms c.loop-term.form.items sum c.loop-term.atom i t c.loop-term-test.true
    (get_or_default terms i (pos 0, 0) t c.loop-term-test.true) c.loop-term.invariant.result c.if-term-atom.false in
    let s : to_z w128 (of_z w128 c.from-sum-in-loop-term.result) ≡ t.0 = omega (arith, ints) in
    let pushed = c.in_ok-push_counted.ensures in
    record {
      result =
          ap (λ z. c.push_counted.new.to.items ++ collapsed_from z t.1 rest) s
          ∙ (ap (λ xs. xs ++ collapsed_from t.0 t.1 rest) pushed ∙ (append_assoc c.loop-term.form.items (counted (sum, c.loop-term.atom)) (collapsed_from t.0 t.1 rest) ∙ e));
      low = omega (arith, ints);
      high = omega (arith, ints);
    }

pub push_counted-requires-2 : goal.push_counted-requires-2
push_counted-requires-2 c =
    let sum = to_z w128 c.loop-term.sum-bits in
    small_last c.loop-term.form.items sum c.loop-term.atom
    (subst (λ (xs : List (ℤ × ℕ)). All IsSmallTerm xs)
    (sym (collapsed_end c.args.terms.now c.loop-term.form.items sum c.loop-term.atom c.loop-term.term-index (omega arith) c.loop-term.invariant.result)) c.requires)

pub loop-term-init : goal.loop-term-init
loop-term-init c =
    let terms = c.args.terms.now in
    let some : 0 < length terms = omega (arith, not_from_Decides (length terms == 0) (Decides-eqb (length terms) 0) (sym c.if-is_empty.ensures)) in
    record {
      result = ap (λ xs. xs ++ collapsed_from (pos 0) (get_or terms 0 (pos 0, 0)).1 terms) c.new-form.ensures.items
          ∙ collapsed_begin terms (get_or terms 0 (pos 0, 0)) some (get_or_default terms 0 (pos 0, 0) (get_or terms 0 (pos 0, 0)) some);
      low = omega (arith, ints);
      high = omega (arith, ints);
    }

pub returns-then-is_empty : goal.returns-then-is_empty
returns-then-is_empty c = c.new-form.ensures.items ∙ collapsed-none c.args.terms.now (eqb-true (length c.args.terms.now) 0 (sym c.if-is_empty.ensures))

pub returns : goal.returns
returns c =
    c.in_ok-push_counted-2.ensures
    ∙ collapsed_end c.args.terms.now c.loop-term.form.items (to_z w128 c.loop-term.sum-bits) c.loop-term.atom c.loop-term.term-index (omega arith) c.loop-term.invariant.result
