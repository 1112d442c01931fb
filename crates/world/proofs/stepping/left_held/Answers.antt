use Rattle.world.proofs.Acting.{left-lock, left-mask, left-none}
use Rattle.world.proofs.stepping.left_held.Goals as goal

pub returns-then-holds_lock : goal.returns-then-holds_lock
returns-then-holds_lock c = record {
  to = λ share h m d is.
      left-lock h c.args.who c.holds_lock.result (c.holds_lock.ensures.to share h m d is) c.if-holds_lock.true;
}

pub returns-then-holds_mask : goal.returns-then-holds_mask
returns-then-holds_mask c = record {
  to = λ share h m d is.
      left-mask h c.args.who c.holds_lock.result c.holds_mask.result (c.holds_lock.ensures.to share h m d is) c.if-holds_lock.false
      (c.holds_mask.ensures.to share h m d is) c.if-holds_mask.true;
}

pub returns : goal.returns
returns c = record {
  to = λ share h m d is.
      left-none h c.args.who c.holds_lock.result c.holds_mask.result (c.holds_lock.ensures.to share h m d is) c.if-holds_lock.false
      (c.holds_mask.ensures.to share h m d is) c.if-holds_mask.false;
}
