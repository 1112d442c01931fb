-- One fact and one check: what is known at a place is how walks come there, and what is noted is how they come to the check.
use Rattle.std.specs.Prelude.{ℕ}
use Rattle.checked_tree.specs.Flow.{Event, Tests}
use Rattle.check_elim.specs.Ways.{Effect, Way, Nowhere, Sure, either, after, reached, here}
use Rattle.check_elim.specs.Direct.{Ops}

abbrev pub one_of : (Event → Effect) → ℕ → Ops Way Way
one_of does id =
    record {
      either = either;
      after = λ e w. after (does e) w;
      nowhere = Nowhere;
      sure = Sure;
      guard = reached;
      note = λ own w m. either m (here id (Tests own) w);
    }
