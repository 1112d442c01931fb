-- Where no check is noted, nothing changes.
use Rattle.std.proofs.Common.{◌≡◌, ℕ, List, refl, ap, ◌∙◌}
use Rattle.checked_tree.specs.declared.shapes.Shape.{Shape}
use Rattle.checked_tree.specs.declared.statements.CheckedStmt.{CheckedStmt}
use Rattle.check_elim.specs.Direct.{Ops, passings, telling}
use Rattle.check_elim.proofs.Alike.{GoAlike, all_alike}

module _ {A M : Type 0} (ops : Ops A M) (m : M) (calm : (id : ℕ) (w : A) → ops.note id w m ≡ m) (slots : List Shape) where
  -- all that is known goes with all, and the notes stay
  abbrev Any : A → A → Type 0
  Any a b = Unit {0}

  abbrev Stays : M → M → Type 0
  Stays n k = n ≡ m

  stays : GoAlike ops ops Any Stays
  stays = record {
    either = λ a b c d h k. tt;
    after = λ e a b h. tt;
    nowhere = tt;
    sure = tt;
    guard = λ a b c d h k. tt;
    note = λ id a b n k h is. ap (ops.note id a) is ∙ calm id a;
  }

  pub all_still : (ss : List CheckedStmt) (w : A) → telling (passings ops slots ss) w m ≡ m
  all_still ss w = all_alike ops ops Any Stays stays slots ss w w m m tt refl
