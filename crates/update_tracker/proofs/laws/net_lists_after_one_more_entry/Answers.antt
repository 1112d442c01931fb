-- An owner's live entries go by its own entries alone.
use Rattle.std.proofs.Common.{sym, ap}
use Rattle.sd_base.specs.History.{entry, live_of}
use Rattle.sd_base.proofs.NetLists.{own-after_entry, net_of-other}
use Rattle.update_tracker.specs.NetLists.{updates_of}
use Rattle.update_tracker.proofs.laws.net_lists_after_one_more_entry.Goals as goal

pub returns : goal.returns
returns c = λ h owner update.
    (ap updates_of (own-after_entry (entry owner update) (live_of h)), λ other apart. net_of-other h other owner update (λ e. apart (sym e)))
