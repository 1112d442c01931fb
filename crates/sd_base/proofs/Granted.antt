-- The blocks that a history grants: what takes no block away, and whose blocks another owner's entries leave as they are.
use Rattle.std.proofs.Common.{◌≡◌, ℕ, Bool, true, false, cond, eqb, List, [], ◌∷◌, refl, arith}
use Rattle.std.proofs.lemmas.Bool.Decides.{nat_tests}
use Rattle.std.specs.List.{list_any}
use Rattle.sd_base.specs.declared.history.Update.{Update}
use Rattle.sd_base.specs.declared.history.Update.TheVariants.{Grant, Free}
use Rattle.sd_base.specs.Selection.{without_first, without_last}
use Rattle.sd_base.specs.History.{Entry, OfBlocks, OfFrees, same_resource, live_key, Without}
use Rattle.sd_base.specs.Blocks.{Block, blocks_after, granted}

-- an update that is neither a grant nor a release leaves the blocks
pub leaves : (u : Update) (bs : List Block) → same_resource (live_key u).resource OfBlocks ≡ false → same_resource (live_key u).resource OfFrees ≡ false → blocks_after u bs ≡ bs
leaves (Grant layout n image) bs h k = cc
leaves (Free base) bs h k = cc
leaves _ bs h k = refl

-- entries that leave the blocks, taken away, leave them
pub granted-without_first_other : (p : Entry → Bool) → ((e : Entry) → p e ≡ true → (bs : List Block) → blocks_after e.update bs ≡ bs) → (live : List Entry) (owner : ℕ) →
    granted (without_first p live) owner ≡ granted live owner
granted-without_first_other p none [] owner = refl
granted-without_first_other p none (e ∷ live) owner =
    elim (p e) as (λ b. p e ≡ b → granted (cond b live (e ∷ without_first p live)) owner ≡ granted (e ∷ live) owner) [
      | true ↦ λ is. grind (arith, none e is (granted live owner))
      | false ↦ λ is. grind (arith, granted-without_first_other p none live owner)
    ] refl

pub granted-without_last_other : (p : Entry → Bool) → ((e : Entry) → p e ≡ true → (bs : List Block) → blocks_after e.update bs ≡ bs) → (live : List Entry) (owner : ℕ) →
    granted (without_last p live) owner ≡ granted live owner
granted-without_last_other p none [] owner = refl
granted-without_last_other p none (e ∷ live) owner =
    elim (p e) as (λ b. p e ≡ b → granted (cond (list_any p live) (e ∷ without_last p live) (cond b live (e ∷ live))) owner ≡ granted (e ∷ live) owner) [
      | true ↦ λ is. grind (arith, none e is (granted live owner), granted-without_last_other p none live owner)
      | false ↦ λ is. grind (arith, granted-without_last_other p none live owner)
    ] refl

-- another owner's entries, left out, take no block of this one away
pub granted-Without : (live : List Entry) (o p : ℕ) → eqb p o ≡ false → granted (Without live o) p ≡ granted live p
granted-Without [] o p apart = refl
granted-Without (e ∷ live) o p apart = grind (arith, nat_tests, granted-Without live o p apart)

-- an owner whose entries are left out has no block
pub granted-Without_same : (live : List Entry) (o : ℕ) → granted (Without live o) o ≡ []
granted-Without_same [] o = refl
granted-Without_same (e ∷ live) o = grind (arith, granted-Without_same live o)
