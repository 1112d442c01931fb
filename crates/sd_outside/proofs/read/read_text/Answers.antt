-- Each piece goes on where the one before ended, and the end comes with the whole text.
use Rattle.std.proofs.Common.{◌≡◌, ◌+◌, ◌<◌, ℕ, length, take, refl, arith, ◌∙◌, ap, vec_len, length-take-le}
use Rattle.sd_outside.proofs.Counting.{counted-piece, counted-settled}
use Rattle.sd_outside.proofs.Reading.{IsFront-start, IsFront-piece, IsFront-beyond, LeavesOthers-start, LeavesOthers-next}
use Rattle.sd_outside.proofs.read.read_text.Goals as goal

pub loop-taken-init : goal.loop-taken-init
loop-taken-init g c = record {
  short = omega (arith, c.new-text.ensures.len);
  front = rw c.new-text.ensures.items (IsFront-start (g.S.Shelf.left c.args.shelf.now c.args.name.now));
  given = rw c.new-text.ensures.len refl;
  calm = refl;
  others = LeavesOthers-start _ _;
}

pub loop-taken-preserved : goal.loop-taken-preserved
loop-taken-preserved g c =
    let e = c.in-Ok.ensures in
    let kept = c.loop-taken.invariant in
    let added = c.in_ok-extend_from_slice.ensures in
    let piece : length (take c.in-Ok.taken c.read.new.buf) ≡ c.in-Ok.taken = length-take-le c.in-Ok.taken c.read.new.buf e.room in
    let len : vec_len c.extend_from_slice.new.self ≡ vec_len c.loop-taken.text + c.in-Ok.taken = added.len ∙ ap (λ (n : ℕ). vec_len c.loop-taken.text + n) piece in
    record {
      short = omega (arith, c.len.ensures);
      front = rw added.items (IsFront-piece _ _ _ _ _ _ kept.front e.moves e.gives);
      given = rw len (counted-settled (g.S.Shelf.given c.args.shelf.now) _ _ _ _ kept.given e.counts);
      calm = e.cause.kept ∙ kept.calm;
      others = LeavesOthers-next _ _ _ _ kept.others e.others;
    }

pub loop-taken-smaller : goal.loop-taken-smaller
loop-taken-smaller g c =
    let e = c.in-Ok.ensures in
    let piece : length (take c.in-Ok.taken c.read.new.buf) ≡ c.in-Ok.taken = length-take-le c.in-Ok.taken c.read.new.buf e.room in
    let len : vec_len c.extend_from_slice.new.self ≡ vec_len c.loop-taken.text + c.in-Ok.taken = c.in_ok-extend_from_slice.ensures.len ∙ ap (λ (n : ℕ). vec_len c.loop-taken.text + n) piece in
    omega (arith, c.len.ensures)

pub returns-in-Err-clause-later : goal.returns-in-Err-clause-later
returns-in-Err-clause-later g c = rw (← c.loop-taken.invariant.calm) c.in-Err.ensures.cause.later

pub returns-in-Err-clause-read_fault : goal.returns-in-Err-clause-read_fault
returns-in-Err-clause-read_fault g c is = rw (← c.loop-taken.invariant.calm) c.in-Err.ensures.cause.failed

pub returns-in-Err-clause-others : goal.returns-in-Err-clause-others
returns-in-Err-clause-others g c = LeavesOthers-next _ _ _ _ c.loop-taken.invariant.others c.in-Err.ensures.others

pub returns-then-len-taken-gt-FILE_BYTES-clause-too_long : goal.returns-then-len-taken-gt-FILE_BYTES-clause-too_long
returns-then-len-taken-gt-FILE_BYTES-clause-too_long g c is =
    let e = c.in-Ok.ensures in
    let far : 1048576 < length c.loop-taken.text.items + c.in-Ok.taken = omega (arith, c.len.ensures, c.loop-taken.text.ok.0) in
    IsFront-beyond 1048576 _ _ _ _ _ c.loop-taken.invariant.front far e.gives

pub returns-then-len-taken-gt-FILE_BYTES-clause-too_much : goal.returns-then-len-taken-gt-FILE_BYTES-clause-too_much
returns-then-len-taken-gt-FILE_BYTES-clause-too_much g c is =
    let e = c.in-Ok.ensures in
    let far : 1048576 < vec_len c.loop-taken.text + c.in-Ok.taken = omega (arith, c.len.ensures) in
    record { taken = vec_len c.loop-taken.text + c.in-Ok.taken; beyond = far; counts = counted-piece (g.S.Shelf.given c.args.shelf.now) _ _ _ _ c.loop-taken.invariant.given e.counts }

pub returns-then-len-taken-gt-FILE_BYTES-clause-calm : goal.returns-then-len-taken-gt-FILE_BYTES-clause-calm
returns-then-len-taken-gt-FILE_BYTES-clause-calm g c differs = c.in-Ok.ensures.cause.kept ∙ c.loop-taken.invariant.calm

pub returns-then-len-taken-gt-FILE_BYTES-clause-later : goal.returns-then-len-taken-gt-FILE_BYTES-clause-later
returns-then-len-taken-gt-FILE_BYTES-clause-later g c = rw (← c.loop-taken.invariant.calm) c.in-Ok.ensures.cause.later

pub returns-then-len-taken-gt-FILE_BYTES-clause-others : goal.returns-then-len-taken-gt-FILE_BYTES-clause-others
returns-then-len-taken-gt-FILE_BYTES-clause-others g c = LeavesOthers-next _ _ _ _ c.loop-taken.invariant.others c.in-Ok.ensures.others

pub returns-in_err-extend_from_slice-clause-calm : goal.returns-in_err-extend_from_slice-clause-calm
returns-in_err-extend_from_slice-clause-calm g c differs = c.in-Ok.ensures.cause.kept ∙ c.loop-taken.invariant.calm

pub returns-in_err-extend_from_slice-clause-later : goal.returns-in_err-extend_from_slice-clause-later
returns-in_err-extend_from_slice-clause-later g c = rw (← c.loop-taken.invariant.calm) c.in-Ok.ensures.cause.later

pub returns-in_err-extend_from_slice-clause-others : goal.returns-in_err-extend_from_slice-clause-others
returns-in_err-extend_from_slice-clause-others g c = LeavesOthers-next _ _ _ _ c.loop-taken.invariant.others c.in-Ok.ensures.others
