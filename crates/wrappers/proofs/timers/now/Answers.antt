use Rattle.std.proofs.Common.{◌≡◌, ◌<◌, ap, ◌∙◌, refl, arith}
use Rattle.std.proofs.lemmas.Int.{to_z_pos}
use mir.Syntax.{w32}
use Rattle.std.specs.Prelude.{pos}
use Rattle.kernel_tables.specs.declared.kernel.Kernel.{Kernel}
use Rattle.wrappers.specs.declared.call_out.CallOut.TheVariants.{Reply}
use Rattle.wrappers.proofs.timers.now.Goals as goal

pub returns : goal.returns
returns c =
    let same : c.kernel.result.now.now ≡ c.args.kernel.now.kernel.now = ap (λ (k : Kernel). k.now) c.kernel.ensures in
    let small : c.kernel.result.now.now < 2147483648 = omega (arith, same, c.requires) in
    λ h lawful proper stands. record {
      answer = ap (λ z. Reply z) (to_z_pos w32 c.kernel.result.now.now small ∙ ap (λ n. pos n) (same ∙ stands.kernel.clock));
      quiet = refl;
    }
