use Rattle.std.proofs.Common.{◌≡◌, length, Some, refl, sym, ap, ◌∙◌, subst, arith}
use Rattle.c_tree.specs.Names.{spelled_keyword}
use Rattle.c_token.specs.Reserved.{slot_of, entry_of}
use Rattle.c_token.proofs.ReservedWords.{entry-spelled, length-spelled, reserved-none, reserved-spelled}
use Rattle.c_token.proofs.names.reserved.Goals as goal

pub returns-then-length-lt-SHORTEST : goal.returns-then-length-lt-SHORTEST
returns-then-length-lt-SHORTEST c =
    reserved-none c.args.name.now (λ k e.
    let b = length-spelled k in
    omega (arith, b.0, b.1, ap length e, c.then-length-lt-SHORTEST.either))

pub returns-in_default : goal.returns-in_default
returns-in_default c =
    reserved-none c.args.name.now (λ k e.
    let s = subst (λ x. entry_of (slot_of x) ≡ Some k) (sym e) (entry-spelled k) in
    let h = c.in_default.ensures in
    let g = c.slot.ensures.slot in cc)

pub returns-then-are_same : goal.returns-then-are_same
returns-then-are_same c =
    let s = reserved-spelled c.in-Some.keyword in
    let h = c.spelling.ensures in
    let g = c.if-are_same.ensures.0 refl in cc

pub returns-else-are_same : goal.returns-else-are_same
returns-else-are_same c =
    reserved-none c.args.name.now (λ k e.
    let h = c.in-Some.ensures in
    let g = c.slot.ensures.slot in
    let s = subst (λ x. entry_of (slot_of x) ≡ Some k) (sym e) (entry-spelled k) in
    let i : c.in-Some.keyword ≡ k = cc in
    let f = c.if-are_same.ensures.1 (c.spelling.ensures ∙ ap spelled_keyword i ∙ sym e) in cc)
