use Rattle.std.proofs.Common.{rules}
use Rattle.rules_heads.proofs.Numbers.{numbered_next}
use Rattle.rules_heads.proofs.functions.Functions.declare.Goals as goal

pub invariant_of-self-2 : goal.invariant_of-self-2
invariant_of-self-2 c =
    let long = c.reserve.ensures.len in
    let l = c.len-number.ensures in
    numbered_next c.self.inside.signatures.items _ _ _ _ _ _ c.reserve.ensures.items (search rules) c.push_reserved.ensures.items c.self.invariant c.in_ok-note_first.ensures.ok
