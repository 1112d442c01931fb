use Rattle.std.proofs.Common.{◌≡◌, ◌∙◌, subst, bytes_eq, position}
use Rattle.c_tree.specs.Slots.{slot_named}
use Rattle.dep_infer.proofs.table.LocalTable.slot.Goals as goal

pub returns : goal.returns
unfolding slot_named
returns c = subst (λ t. c.copied.result ≡ position (bytes_eq c.args.name.now) t.names) c.self.view_is (c.copied.ensures ∙ (c.get.ensures.value ∙ c.self.invariant.0 _))
