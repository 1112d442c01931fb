use Rattle.std.proofs.Common.{◌≡◌, ◌∙◌, subst, position}
use Rattle.deputy_rules.specs.Heads.{heads_name}
use Rattle.rules_heads.proofs.texts.SeenText.head_place.Goals as goal

pub returns : goal.returns
returns c = subst (λ t. c.copied.result ≡ position (heads_name c.args.name.now) t.items) c.self.view_is (c.copied.ensures ∙ (c.get.ensures.value ∙ c.self.invariant _))
