use Rattle.std.proofs.Common.{refl, ap, ◌∙◌, ◌-◌}
use Rattle.std.proofs.lemmas.List.{with_items_is}
use Rattle.std.specs.Vec.{with_items}
use Rattle.driver_host.specs.Hosting.{cleared_at}
use Rattle.driver_host.proofs.Hosting.{host-taken}
use Rattle.driver_host.proofs.host.Host.take_back.Goals as goal

pub returns : goal.returns
returns c = host-taken c.args.self.now (record { kernel = c.take_back.new.kernel; memories = with_items c.args.self.now.memories c.clear_at.new.memories; devices = c.args.self.now.devices })
    c.args.owner c.from.result c.requires.driver c.from.ensures c.take_back.ensures.without c.take_back.ensures.undone c.take_back.ensures.share refl
    (with_items_is c.args.self.now.memories c.clear_at.new.memories (c.clear_at.auto.memories ∙ c.as_mut_slice.ensures.len) ∙ c.clear_at.ensures
    ∙ ap (λ ms. cleared_at ms (c.from.result - 1)) c.as_mut_slice.ensures.value)
