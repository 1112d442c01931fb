-- What the loop over an owner's log keeps.
use Rattle.std.proofs.Common.{◌≡◌, ℕ, ◌+◌, ◌<◌, ◌≤◌, List, [], ◌∷◌, ◌++◌, length, refl, ap, sym, ◌∙◌, subst, arith, length-append, append-nil, append_assoc}
use Rattle.sd_base.specs.History.{Entry}
use Rattle.kernel_tables.specs.declared.kernel.Kernel.{Kernel}
use Rattle.update_tracker.specs.declared.undo.Undo.{Undo}
use Rattle.update_tracker.specs.Undoing.{CanUndo, Undoes, IsLive, HasLive, LosesAll, cost_of, cost_of_all}
use Rattle.update_tracker.proofs.Taking.{older}
use Rattle.update_tracker.proofs.Steps.{can_undo, undone_is, Undoing, undoing_first, undoing_next, undoing_all}

-- From all items some are left, the others are listed in order; the tables hold the parts of live entries with what is left; and the steps were paid.
pub record Kept (first now : Kernel) (owner : ℕ) (all left listed : List Undo) (begun at : ℕ) : Type 0 where
  pub going : (start : List Entry) → IsLive first owner all start → Undoing now owner left start
  pub some : HasLive now owner left
  pub clock : now.now ≡ first.now
  pub share : now.claims.share ≡ first.claims.share
  pub split : listed ++ left ≡ all
  pub room : length all ≤ 9065
  pub paid : at + cost_of_all left ≤ begun + cost_of_all all

pub kept_first : (k : Kernel) (owner : ℕ) (all listed : List Undo) (steps : ℕ) → HasLive k owner all → length all ≤ 9065 → listed ≡ [] → Kept k k owner all all listed steps steps
kept_first k owner all listed steps has room none = record {
  going = λ start is. undoing_first k owner all start is;
  some = has;
  clock = refl;
  share = refl;
  split = ap (λ xs. xs ++ all) none;
  room = room;
  paid = omega arith;
}

pub kept_can : (first now : Kernel) (owner : ℕ) (all left listed : List Undo) (begun at : ℕ) (item : Undo) (rest : List Undo) → owner ≤ 4 → Kept first now owner all left listed begun at → left ≡ item ∷ rest → CanUndo now owner item
kept_can first now owner all left listed begun at item rest few k is = can_undo now owner item rest k.some.live few (subst (λ items. IsLive now owner items k.some.live) is k.some.is)

pub kept_room : (first now : Kernel) (owner : ℕ) (all left listed : List Undo) (begun at : ℕ) (item : Undo) (rest : List Undo) → Kept first now owner all left listed begun at → left ≡ item ∷ rest → length listed < 9065
kept_room first now owner all left listed begun at item rest k is =
    let room = k.room in
    omega (arith, ap length k.split, length-append listed left, ap length is)

pub kept_next : (first now next : Kernel) (owner : ℕ) (all left listed longer : List Undo) (begun at then_at : ℕ) (item : Undo) (rest : List Undo) → Kept first now owner all left listed begun at → left ≡ item ∷ rest →
    Undoes now owner item next → next.now ≡ now.now → next.claims.share ≡ now.claims.share → longer ≡ listed ++ item ∷ [] → then_at ≤ at + cost_of item → Kept first next owner all rest longer begun then_at
kept_next first now next owner all left listed longer begun at then_at item rest k is undoes clock share more cost = record {
  going = λ start began. undoing_next now next owner item rest start (subst (λ items. Undoing now owner items start) is (k.going start began)) undoes;
  some = record { live = older owner k.some.live; is = undone_is now next owner item rest k.some.live (subst (λ items. IsLive now owner items k.some.live) is k.some.is) undoes };
  clock = clock ∙ k.clock;
  share = share ∙ k.share;
  split = ap (λ xs. xs ++ rest) more ∙ append_assoc listed (item ∷ []) rest ∙ ap (λ xs. listed ++ xs) (sym is) ∙ k.split;
  room = k.room;
  paid = (let paid = k.paid in omega (arith, ap cost_of_all is));
}

pub kept_loses : (first now : Kernel) (owner : ℕ) (all left listed : List Undo) (begun at : ℕ) → Kept first now owner all left listed begun at → left ≡ [] → LosesAll first owner all now
kept_loses first now owner all left listed begun at k none live is = undoing_all now owner live (subst (λ items. Undoing now owner items live) none (k.going live is))

pub kept_listed : (first now : Kernel) (owner : ℕ) (all left listed : List Undo) (begun at : ℕ) → Kept first now owner all left listed begun at → left ≡ [] → listed ≡ all
kept_listed first now owner all left listed begun at k none = sym (append-nil listed) ∙ ap (λ xs. listed ++ xs) (sym none) ∙ k.split

pub kept_paid : (first now : Kernel) (owner : ℕ) (all left listed : List Undo) (begun at : ℕ) → Kept first now owner all left listed begun at → at ≤ begun + cost_of_all all
kept_paid first now owner all left listed begun at k = (let paid = k.paid in omega arith)
