use Rattle.std.proofs.Common.{◌≡◌, ◌∙◌, ◌+◌, ◌<◌, ap, sym, subst, arith, List, length, get_or, ℕ, ℤ, pos}
use Rattle.dep_expr.specs.Linear.{LinearForm, IsSmall, plus, plus_parts, part_of, number_form}
use Rattle.std.proofs.lemmas.List.{take_all}
use Rattle.dep_expr.proofs.Values.{plus_parts-more, substituted_value}
use Rattle.dep_expr.proofs.linear.Lin.substitute.Goals as goal

pub add_part-requires-clause-before : goal.add_part-requires-clause-before
add_part-requires-clause-before c =
    let items : c.as_slice-term-items.result.now ≡ c.args.self.now.terms = c.as_slice-term-items.ensures ∙ ap (λ (l : LinearForm). l.terms) c.self.view_is in
    subst (λ (l : LinearForm). IsSmall l) (sym c.loop-term.invariant) (c.requires c.loop-term.term-index (omega (arith, ap length items)))

pub add_part-requires-clause-after : goal.add_part-requires-clause-after
add_part-requires-clause-after c =
    let items : c.as_slice-term-items.result.now ≡ c.args.self.now.terms = c.as_slice-term-items.ensures ∙ ap (λ (l : LinearForm). l.terms) c.self.view_is in
    let terms = c.args.self.now.terms in
    let i = c.loop-term.term-index in
    let within : i < length terms = omega (arith, ap length items) in
    subst (λ (xs : List (ℤ × ℕ)). IsSmall (plus c.loop-term.sum (part_of c.args.a c.args.by.now (get_or xs i (pos 0, 0))))) (sym items)
    (subst (λ (l : LinearForm). IsSmall (plus l (part_of c.args.a c.args.by.now (get_or terms i (pos 0, 0))))) (sym c.loop-term.invariant)
    (subst (λ (l : LinearForm). IsSmall l) (plus_parts-more c.args.a c.args.by.now (number_form c.args.self.now.constant) terms i (pos 0, 0) within)
    (c.requires (i + 1) (omega (arith, within)))))

pub loop-term-preserved : goal.loop-term-preserved
loop-term-preserved c =
    let items : c.as_slice-term-items.result.now ≡ c.args.self.now.terms = c.as_slice-term-items.ensures ∙ ap (λ (l : LinearForm). l.terms) c.self.view_is in
    let terms = c.args.self.now.terms in
    let i = c.loop-term.term-index in
    let within : i < length terms = omega (arith, ap length items) in
    c.in_ok-add_part.ensures
    ∙ (ap (λ xs. plus c.loop-term.sum (part_of c.args.a c.args.by.now (get_or xs i (pos 0, 0)))) items
    ∙ (ap (λ l. plus l (part_of c.args.a c.args.by.now (get_or terms i (pos 0, 0)))) c.loop-term.invariant
    ∙ sym (plus_parts-more c.args.a c.args.by.now (number_form c.args.self.now.constant) terms i (pos 0, 0) within)))

pub returns-clause-value : goal.returns-clause-value
returns-clause-value c =
    let items : c.as_slice-term-items.result.now ≡ c.args.self.now.terms = c.as_slice-term-items.ensures ∙ ap (λ (l : LinearForm). l.terms) c.self.view_is in
    substituted_value c.loop-term.sum c.args.self.now c.args.a c.args.by.now
    (c.loop-term.invariant
    ∙ ap (plus_parts c.args.a c.args.by.now (number_form c.args.self.now.constant)) (take_all c.loop-term.term-index c.args.self.now.terms (omega (arith, ap length items))))
