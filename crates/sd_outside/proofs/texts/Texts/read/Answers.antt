-- What the place of the name tells of the texts before the read and after it.
use Rattle.std.proofs.Common.{◌≡◌, ℕ, None, Some, position, refl, ap, sym, ◌∙◌, arith}
use Rattle.sd_outside.specs.Texts.{text_of, is_named}
use Rattle.sd_outside.proofs.Naming.{left_of-none, left_of-at, read_on-at}
use Rattle.sd_outside.proofs.texts.Texts.read.Goals as goal

pub returns-in_err-at-clause-answer : goal.returns-in_err-at-clause-answer
returns-in_err-at-clause-answer c =
    let p : position (λ t. is_named c.args.name.now (text_of t)) c.self.inside.texts.items ≡ None = sym (rw c.deref.ensures.value at c.place_of.ensures) ∙ c.in_err-at.was in
    let none = left_of-none c.args.name.now c.self.inside.texts.items p in
    rw (← c.self.view_is, none) c.from_residual.ensures

pub returns-clause-answer : goal.returns-clause-answer
returns-clause-answer c =
    let p : position (λ t. is_named c.args.name.now (text_of t)) c.self.inside.texts.items ≡ Some c.in_ok-at.at = sym (rw c.deref.ensures.value at c.place_of.ensures) ∙ c.in_ok-at.was in
    let is = left_of-at c.args.name.now c.self.inside.texts.items c.in_ok-at.at c.index_mut-text.result.now p c.index_mut-text.ensures.value in
    rw (← c.self.view_is, is) (ap (λ (n : ℕ). Some n) (omega (arith, c.min.ensures, c.min-n.ensures, c.len.ensures, c.index_mut-text.result.now.1.ok.0)))

pub returns-clause-rest : goal.returns-clause-rest
returns-clause-rest c =
    let p : position (λ t. is_named c.args.name.now (text_of t)) c.self.inside.texts.items ≡ Some c.in_ok-at.at = sym (rw c.deref.ensures.value at c.place_of.ensures) ∙ c.in_ok-at.was in
    rw (← c.self.view_is) (read_on-at c.args.name.now c.min-n.result c.self.inside.texts.items c.in_ok-at.at c.index_mut-text.result.now _ p c.index_mut-text.ensures.value (rw c.move_front.ensures.rest refl))

pub returns-clause-gives : goal.returns-clause-gives
returns-clause-gives c =
    let p : position (λ t. is_named c.args.name.now (text_of t)) c.self.inside.texts.items ≡ Some c.in_ok-at.at = sym (rw c.deref.ensures.value at c.place_of.ensures) ∙ c.in_ok-at.was in
    let is = left_of-at c.args.name.now c.self.inside.texts.items c.in_ok-at.at c.index_mut-text.result.now p c.index_mut-text.ensures.value in
    rw (← c.self.view_is, is) c.move_front.ensures.front
