use Rattle.std.proofs.Common.{◌≡◌, ℕ, ◌+◌, ◌*◌, ◌<◌, ltb, true, ap, ◌∙◌, arith}
use Rattle.std.proofs.lemmas.Bool.Decides.{nat_tests}
use Rattle.std.proofs.lemmas.Int.{to_z-of_z}
use mir.Syntax.{w64}
use mir.Val.{SFits}
use Rattle.std.specs.Prelude.{cond, Some, None}
use Rattle.std.specs.Option.{unwrap_or}
use Rattle.sd_base.specs.Numbers.{number_of}
use Rattle.sd_base.specs.declared.actors.Fat.{Fat}
use Rattle.wrappers.proofs.blocks.block.Goals as goal

pub returns : goal.returns
returns c = λ count is few ends.
    let small : ltb count 4294967296 ≡ true = grind (arith, nat_tests) in
    let counted : c.unwrap_or-count.result ≡ count =
    c.unwrap_or-count.ensures ∙ ap (λ o. unwrap_or o 0) (c.element_count.ensures ∙ ap (number_of 4294967296) (to_z-of_z w64 c.args.n c.ranges.n ∙ is))
    ∙ ap (λ b. unwrap_or (cond b (Some count) None) 0) small in
    let product : c.args.size * c.unwrap_or-count.result ≡ c.args.size * count = ap (λ k. c.args.size * k) counted in
    let bytes : c.saturating_mul.result ≡ c.args.size * count = omega (arith, c.saturating_mul.ensures, product, ends) in
    let hi : c.saturating_add.result ≡ c.args.base + c.args.size * count = omega (arith, c.saturating_add.ensures, bytes, ends) in
    ap {B = Fat} (λ h. record { value = c.args.base; lo = c.args.base; hi = h }) hi
