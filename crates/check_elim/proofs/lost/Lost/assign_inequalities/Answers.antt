use Rattle.std.proofs.Common.{◌≡◌, ℕ, List, ap, sym, ◌∙◌, subst, ◌||◌, length, slice_get}
use Rattle.std.specs.Global.{Vec}
use Rattle.std.proofs.lemmas.List.{with_items_is}
use Rattle.std.specs.List.{list_any}
use Rattle.check_elim.specs.Bits.{has}
use Rattle.check_elim.specs.Sets.{AreInequalities, facts, ways, mask_at, IsMask}
use Rattle.check_elim.proofs.Lists.{all_taken}
use Rattle.check_elim.proofs.lost.Lost.assign_inequalities.Goals as goal

pub join_masks-requires : goal.join_masks-requires
unfolding AreInequalities
join_masks-requires c = λ slot.
    subst (λ (n : ℕ). IsMask n (slice_get c.as_slice.result.now slot)) (sym (ap length c.as_mut_slice.ensures.value ∙ c.requires.size))
    (subst (λ (l : List (Vec ℕ)). IsMask c.args.table.now.size (slice_get l slot)) (sym c.as_slice.ensures.value) (c.requires.table.masks slot))

pub returns-clause-facts : goal.returns-clause-facts
unfolding facts
returns-clause-facts c =
    let old : List ℕ = c.args.self.now.words.items in
    let new : List ℕ = c.join_masks.new.words in
    let members = subst (λ (l : List ℕ). (j : ℕ) → has new j ≡ (has l j || list_any (λ slot. has (mask_at c.args.table.now.masks.items slot) j) c.args.slots.now)) c.as_mut_slice.ensures.value
    (subst (λ (m : List (Vec ℕ)). (j : ℕ) → has new j ≡ (has c.as_mut_slice.result.now j || list_any (λ slot. has (mask_at m slot) j) c.args.slots.now)) c.as_slice.ensures.value c.join_masks.ensures.members) in
    ap (ways c.args.self.now.reached) (with_items_is c.args.self.now.words new (c.join_masks.ensures.length ∙ c.as_mut_slice.ensures.len))
    ∙ all_taken c.args.f.now c.args.table.now c.args.slots.now c.args.self.now.reached old new c.requires.table members
