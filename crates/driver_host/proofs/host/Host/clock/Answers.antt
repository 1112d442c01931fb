use Rattle.std.proofs.Common.{ap, ◌∙◌}
use Rattle.kernel_tables.specs.declared.kernel.Kernel.{Kernel}
use Rattle.driver_host.proofs.host.Host.clock.Goals as goal

pub returns : goal.returns
returns c = record { to = λ share h m d is. ap (λ (k : Kernel). k.now) c.kernel-tables.ensures ∙ is.tables.kernel.clock }
