use Rattle.std.proofs.Common.{◌≡◌, ℕ, false, List, ap, sym, ◌∙◌, subst, if◌then◌else◌, ◌==◌}
use Rattle.std.proofs.lemmas.List.{with_items_is}
use Rattle.check_elim.specs.Bits.{has}
use Rattle.check_elim.specs.Sets.{facts, ways}
use Rattle.check_elim.proofs.Lists.{class_given, no_class}
use Rattle.check_elim.proofs.lost.Lost.check_class.Goals as goal

pub returns-in-Some-clause-facts : goal.returns-in-Some-clause-facts
unfolding facts
returns-in-Some-clause-facts c =
    let old : List ℕ = c.args.self.now.words.items in
    let new : List ℕ = c.remove.new.words in
    let members = subst (λ (l : List ℕ). (j : ℕ) → has new j ≡ (if j == c.in-Some.number then false else has l j)) c.as_mut_slice.ensures.value c.remove.ensures.members in
    ap (ways c.args.self.now.reached) (with_items_is c.args.self.now.words new (c.remove.ensures.length ∙ c.as_mut_slice.ensures.len))
    ∙ class_given c.args.table.now c.args.id c.in-Some.number c.args.self.now.reached old new (sym c.class_in.ensures.value ∙ c.in-Some.is) members

pub returns-in_default-clause-facts : goal.returns-in_default-clause-facts
returns-in_default-clause-facts c = no_class c.args.table.now c.args.id (facts c.args.self.now) (sym c.class_in.ensures.value ∙ c.in_default.is)
