use Rattle.std.proofs.Common.{◌≡◌, ℕ, Bool, false, List, ap, sym, ◌∙◌, subst, if◌then◌else◌, slice_get}
use Rattle.std.proofs.lemmas.List.{with_items_is}
use Rattle.check_elim.specs.Bits.{has}
use Rattle.check_elim.specs.Sets.{Facts, facts, ways, given_all, gives_in}
use Rattle.check_elim.proofs.Lists.{all_given, unreached_given}
use Rattle.check_elim.proofs.lost.Lost.give.Goals as goal

pub returns-then-self-clause-facts : goal.returns-then-self-clause-facts
unfolding facts
returns-then-self-clause-facts c =
    let old : List ℕ = c.args.self.now.words.items in
    let new : List ℕ = c.clear.new.words in
    let members = subst (λ (l : List ℕ). (j : ℕ) → has new j ≡ (if gives_in c.args.strong.now (slice_get c.args.table.now.facts.items j) then false else has l j)) c.as_mut_slice.ensures.value c.clear.ensures.members in
    ap (ways c.args.self.now.reached) (with_items_is c.args.self.now.words new (c.clear.ensures.length ∙ c.as_mut_slice.ensures.len))
    ∙ subst (λ (r : Bool). ◌≡◌ {A = Facts} (ways r new) (given_all c.args.table.now.facts.items c.args.strong.now (ways r old))) (sym c.if-self.true)
    (all_given c.args.table.now.facts.items c.args.strong.now old new members)

pub returns-else-self-clause-facts : goal.returns-else-self-clause-facts
unfolding facts
returns-else-self-clause-facts c =
    let old : List ℕ = c.args.self.now.words.items in
    subst (λ (r : Bool). ◌≡◌ {A = Facts} (ways r old) (given_all c.args.table.now.facts.items c.args.strong.now (ways r old))) (sym c.if-self.false)
    (unreached_given c.args.table.now.facts.items c.args.strong.now old)
