use Rattle.std.proofs.Common.{◌≡◌, ◌+◌, [], ◌∷◌, ◌++◌, set, sym, subst, arith}
use Rattle.wrappers.specs.declared.call_out.TextBytes.{TextBytes}
use Rattle.wrappers.specs.Text.{told}
use Rattle.wrappers.proofs.Told.{put_next, put_past}
use Rattle.wrappers.proofs.printing.with_byte.Goals as goal

pub returns-then-at-ge32 : goal.returns-then-at-ge32
returns-then-at-ge32 c = λ front is short. put_past c.args.told front c.args.byte is short (omega (arith, c.from-at.ensures, c.if-at-ge32.true))

pub returns : goal.returns
returns c = λ front is short.
    subst (λ at. ◌≡◌ {A = TextBytes} (record { bytes = set c.args.told.bytes at c.args.byte; len = c.args.told.len + 1; more = c.args.told.more }) (told (front ++ c.args.byte ∷ []))) (sym c.from-at.ensures)
    (put_next c.args.told front c.args.byte is (omega (arith, c.from-at.ensures, c.if-at-ge32.false)))
