-- The newest entry of an owner: what its item is, that it can be undone, and what the tables hold once it is.
use Rattle.std.proofs.Common.{◌≡◌, ℕ, true, false, List, [], ◌∷◌, refl, sym, subst, arith}
use Rattle.std.proofs.lemmas.Bool.Decides.{nat_tests}
use Rattle.std.specs.List.{filter, list_any}
use Rattle.sd_base.specs.declared.history.Update.{Update}
use Rattle.sd_base.specs.declared.history.Update.TheVariants.{Grant, Free}
use Rattle.sd_base.specs.Selection.{without_first}
use Rattle.sd_base.specs.History.{Entry, is_owner}
use Rattle.sd_base.specs.Blocks.{granted, blocks_after}
use Rattle.sd_base.specs.Sound.{BlockAllowed, BlocksAllowed}
use Rattle.update_tracker.specs.NetPart.{in_front, item_of, net_items}
use Rattle.update_tracker.proofs.Caps.{is_gone}

-- the live entries without the newest of an owner
abbrev pub older : ℕ → List Entry → List Entry
older owner live = without_first (is_owner owner) live

-- What is seen of the newest entry of an owner: the blocks and the items are those of the older ones with it, it was allowed, and it is no ender.
pub record IsSeen (owner : ℕ) (live : List Entry) (e : Entry) : Type 0 where
  pub blocks : granted live owner ≡ blocks_after e.update (granted (older owner live) owner)
  pub items : net_items owner live ≡ in_front (item_of e.update (granted (older owner live) owner)) (net_items owner (older owner live))
  pub allowed : BlockAllowed owner e.update (older owner live)
  pub live_still : is_gone e ≡ false
  pub its_own : is_owner owner e ≡ true

allowed_moved : (owner : ℕ) (u : Update) (live later : List Entry) → granted live owner ≡ granted later owner → BlockAllowed owner u live → BlockAllowed owner u later
allowed_moved owner (Grant layout n image) live later same a = rw (← same) a
allowed_moved owner (Free base) live later same a = rw (← same) a
allowed_moved owner u live later same a = tt

seen_past : (owner : ℕ) (x : Entry) (live : List Entry) (e : Entry) → is_owner owner x ≡ false → IsSeen owner live e → IsSeen owner (x ∷ live) e
seen_past owner x live e other s =
    let same : older owner (x ∷ live) ≡ x ∷ older owner live = grind arith in
    let kept : granted (x ∷ older owner live) owner ≡ granted (older owner live) owner = grind arith in
    record {
      blocks = subst (λ l. granted (x ∷ live) owner ≡ blocks_after e.update (granted l owner)) (sym same) (grind (arith, s.blocks));
      items = subst (λ l. net_items owner (x ∷ live) ≡ in_front (item_of e.update (granted l owner)) (net_items owner l)) (sym same) (grind (arith, s.items));
      allowed = subst (λ l. BlockAllowed owner e.update l) (sym same) (allowed_moved owner e.update (older owner live) (x ∷ older owner live) (sym kept) s.allowed);
      live_still = s.live_still;
      its_own = s.its_own;
    }

seen_here : (owner : ℕ) (e : Entry) (live : List Entry) → is_owner owner e ≡ true → is_gone e ≡ false → BlockAllowed e.owner e.update live → IsSeen owner (e ∷ live) e
seen_here owner e live own still allowed =
    let same : older owner (e ∷ live) ≡ live = grind arith in
    let mine : e.owner ≡ owner = grind (arith, nat_tests) in
    record {
      blocks = subst (λ l. granted (e ∷ live) owner ≡ blocks_after e.update (granted l owner)) (sym same) (grind arith);
      items = subst (λ l. net_items owner (e ∷ live) ≡ in_front (item_of e.update (granted l owner)) (net_items owner l)) (sym same) (grind arith);
      allowed = subst (λ l. BlockAllowed owner e.update l) (sym same) (subst (λ o. BlockAllowed o e.update live) mine allowed);
      live_still = still;
      its_own = own;
    }

first_kept : (owner : ℕ) (x : Entry) (live : List Entry) (e : Entry) (rest : List Entry) → is_owner owner x ≡ true → filter (is_owner owner) (x ∷ live) ≡ e ∷ rest → x ≡ e
first_kept owner x live e rest own is = grind arith

pub seen : (owner : ℕ) (live : List Entry) (e : Entry) (rest : List Entry) → BlocksAllowed live → list_any is_gone live ≡ false → filter (is_owner owner) live ≡ e ∷ rest → IsSeen owner live e
seen owner [] e rest a none is = cc
seen owner (x ∷ live) e rest a none is =
    let here : is_gone x ≡ false = grind arith in
    elim (is_owner owner x) as (λ b. is_owner owner x ≡ b → IsSeen owner (x ∷ live) e) [
      | true ↦ λ own. subst (λ y. IsSeen owner (x ∷ live) y) (first_kept owner x live e rest own is) (seen_here owner x live own here a.0)
      | false ↦ λ other. seen_past owner x live e other (seen owner live e rest a.1 (grind arith) (grind arith))
    ] refl
