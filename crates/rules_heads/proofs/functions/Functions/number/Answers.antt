use Rattle.std.proofs.Common.{◌≡◌, ◌∙◌, subst, bytes_eq, position}
use Rattle.deputy_rules.specs.Calls.{function_number}
use Rattle.rules_heads.specs.Names.{function_names}
use Rattle.rules_heads.proofs.functions.Functions.number.Goals as goal

pub returns : goal.returns
unfolding function_number
returns c = subst (λ t. c.copied.result ≡ position (bytes_eq c.args.name.now) (function_names t)) c.self.view_is (c.copied.ensures ∙ (c.get.ensures.value ∙ c.self.invariant _))
