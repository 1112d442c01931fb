-- The text after the bytes so far is padded, and the line with it is those bytes and the text.
use Rattle.std.proofs.Common.{◌≡◌, arith, length, refl, ap, length-append}
use Rattle.sd_base.proofs.Padding.{padded-written, kept-written, length-kept}
use Rattle.sd_base.proofs.line.Line.put_text.Goals as goal

pub invariant_of-self : goal.invariant_of-self
invariant_of-self c =
    let kept : length c.args.self.now ≡ c.self.inside.len = length-kept 200 _ _ _ c.self.invariant c.self.view_is in
    let copied : length c.copy_from_slice.new.self ≡ length c.args.s.now = ap length c.copy_from_slice.ensures.after in
    padded-written 200 c.self.inside.len _ _ _ _ c.self.invariant (omega arith) (omega arith) (omega arith)

pub returns-clause-line : goal.returns-clause-line
returns-clause-line c = kept-written 200 c.self.inside.len _ _ _ _ _ _ c.self.invariant c.self.view_is c.copy_from_slice.ensures.after refl

pub returns-clause-len : goal.returns-clause-len
returns-clause-len c = rw (kept-written 200 c.self.inside.len _ _ _ _ _ _ c.self.invariant c.self.view_is c.copy_from_slice.ensures.after refl) (length-append _ _)
