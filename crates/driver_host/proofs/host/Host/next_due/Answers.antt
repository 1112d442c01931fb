use Rattle.std.proofs.Common.{sym, subst}
use Rattle.sd_base.specs.History.{live_of}
use Rattle.kernel_tables.specs.declared.kernel.Kernel.{Kernel}
use Rattle.timer_table.specs.Table.{HoldsTimers}
use Rattle.driver_host.proofs.host.Host.next_due.Goals as goal

pub returns : goal.returns
returns c = record {
  to = λ share h m d is. c.next_due.ensures.reads share h is.lawful is.proper
      (subst (λ (k : Kernel). HoldsTimers k.timers (live_of h)) (sym c.kernel-tables.ensures) is.tables.kernel.tables.timers);
}
