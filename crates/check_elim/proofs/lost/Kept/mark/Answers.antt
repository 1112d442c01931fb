use Rattle.std.proofs.Common.{◌≡◌, ℕ, Option, Bool, List, ap, ◌∙◌, sym, subst, length, false, ◌||◌, ◌-◌, nat_lt, if◌then◌else◌, slice_set, get_or}
use Rattle.std.proofs.lemmas.List.{with_items_is}
use Rattle.check_elim.specs.Sets.{marking, mark_one, mark_own, facts}
use Rattle.check_elim.proofs.Lists.{marked_at, marks}
use Rattle.check_elim.proofs.lost.Kept.mark.Goals as goal

pub returns-in-Some : goal.returns-in-Some
unfolding marking mark_one
returns-in-Some c =
    let new : List Bool = c.mark_at.new.marks in
    let made = subst (λ (l : List Bool). new ≡ (if nat_lt (c.args.id - 1) (length l) then slice_set l (c.args.id - 1) (get_or l (c.args.id - 1) false || c.has_lost-lost_there.result) else l)) c.as_mut_slice.ensures.value c.mark_at.ensures in
    marked_at (c.args.id - 1) c.in-Some.number (facts c.args.lost.now) c.args.self.now.lost.items _ c.has_lost-lost_there.result c.has_lost-lost_there.ensures
    (with_items_is c.args.self.now.lost new (c.mark_at.auto.marks ∙ c.as_mut_slice.ensures.len) ∙ made)
    ∙ ap (λ (o : Option ℕ). mark_own (c.args.id - 1) o (facts c.args.lost.now) (marks c.args.self.now.lost.items)) (sym c.in-Some.is ∙ c.own.ensures.value)

pub returns-in_default : goal.returns-in_default
unfolding marking mark_one
returns-in_default c = ap (λ (o : Option ℕ). mark_own (c.args.id - 1) o (facts c.args.lost.now) (marks c.args.self.now.lost.items)) (sym c.in_default.is ∙ c.own.ensures.value)
