use Rattle.std.proofs.Common.{sym, refl}
use Rattle.c_token.proofs.WordLaws.{sign_found, sign_none, sign_comment}
use Rattle.c_token.proofs.lexemes.sign_at.Goals as goal

pub returns-then-opens_block-clause-none : goal.returns-then-opens_block-clause-none
returns-then-opens_block-clause-none c =
    λ _. sign_comment c.args.text.now c.requires (let e = sym c.if-opens_block.ensures in rw e refl)

pub returns-then-opens_line-clause-none : goal.returns-then-opens_line-clause-none
returns-then-opens_line-clause-none c =
    λ _. sign_comment c.args.text.now c.requires (let e = sym c.if-opens_block.ensures in let f = sym c.if-opens_line.ensures in rw (e, f) refl)

pub returns-in_default-clause-none : goal.returns-in_default-clause-none
returns-in_default-clause-none c = λ _. sign_none c.args.text.now c.requires c.in_default.ensures

pub returns-clause-found : goal.returns-clause-found
returns-clause-found c =
    sign_found c.args.text.now c.in-Some.sign c.in-Some.rest.now c.requires c.if-opens_block.ensures c.if-opens_line.ensures c.in-Some.ensures
