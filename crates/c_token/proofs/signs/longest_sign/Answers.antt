use Rattle.c_token.specs.Order.{sign_order}
use Rattle.c_token.proofs.signs.longest_sign.Goals as goal

pub returns : goal.returns
unfolding sign_order
returns c = c.first_sign-found.ensures
