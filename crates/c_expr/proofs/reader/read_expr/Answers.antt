use Rattle.std.proofs.Common.{◌≡◌}
use Rattle.c_expr.proofs.Limited.{short_there}
use Rattle.c_expr.proofs.Places.{place_found, place_longest, place_none}
use Rattle.c_expr.proofs.reader.read_expr.Goals as goal

pub returns-in_default-clause-none : goal.returns-in_default-clause-none
returns-in_default-clause-none c = λ place e. let same : place ≡ c.args.at = cc in
    (same, place_none c.args.words.now c.args.at (rw (c.in_default.is, c.split_at.ensures.back) at c.in_ok-found.ensures.best))

pub returns-clause-found : goal.returns-clause-found
returns-clause-found c = let best = rw (c.in-Some.is, c.split_at.ensures.back) at c.in_ok-found.ensures.best in
    rw c.into_inner.ensures (place_found c.args.words.now c.in-Some.rest.now c.args.at c.in-Some.found c.requires.place best.sound)

pub returns-clause-longest : goal.returns-clause-longest
returns-clause-longest c = rw c.into_inner.ensures
    (place_longest c.args.words.now c.args.at (c.in-Some.found, c.in-Some.rest.now) c.requires.place (rw (c.in-Some.is, c.split_at.ensures.back) at c.in_ok-found.ensures.shorter)
    (rw (c.in-Some.is, c.split_at.ensures.back) at c.in_ok-found.ensures.best))

pub returns-clause-short : goal.returns-clause-short
returns-clause-short c = let best = rw (c.in-Some.is, c.split_at.ensures.back) at c.in_ok-found.ensures.best in
    let there = place_found c.args.words.now c.in-Some.rest.now c.args.at c.in-Some.found c.requires.place best.sound in
    rw c.into_inner.ensures (short_there c.requires.divided.0 c.args.words.now c.args.at _ c.in-Some.found c.requires.divided.1 there)
