use Rattle.std.proofs.Common.{sym, subst}
use Rattle.sd_base.specs.History.{live_of}
use Rattle.kernel_tables.specs.declared.kernel.Kernel.{Kernel}
use Rattle.share_table.specs.Table.{HoldsShares}
use Rattle.driver_host.proofs.host.Host.holds_mask.Goals as goal

pub returns : goal.returns
returns c = record {
  to = λ share h m d is. c.holds_mask.ensures.reads share h is.lawful is.proper
      (subst (λ (k : Kernel). HoldsShares k.shares (live_of h)) (sym c.kernel-tables.ensures) is.tables.kernel.tables.shares);
}
