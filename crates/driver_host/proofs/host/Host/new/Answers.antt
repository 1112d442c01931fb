use Rattle.std.proofs.Common.{ap, ◌∙◌}
use Rattle.kernel_tables.specs.declared.kernel.Kernel.{Kernel}
use Rattle.driver_host.proofs.Hosting.{host-first}
use Rattle.driver_host.proofs.host.Host.new.Goals as goal

pub returns : goal.returns
returns c = host-first c.args.share c.args.drivers _ c.args.answers
    (ap (λ (k : Kernel). k.claims.share) c.in_ok-kernel.ensures.kernel ∙ c.in_ok-tables.ensures.share) c.in_ok-kernel.ensures.stands
    c.in_ok-memories.ensures c.in_ok-devices.ensures
