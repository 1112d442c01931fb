-- A frame that waits in a call goes on behind it with what it knew.
use Rattle.std.proofs.Common.{ℕ, false, true, List, [], ◌∷◌, Contains, refl, arith}
use Rattle.checked_tree.specs.declared.statements.CheckedStmt.{CheckedStmt, out-CheckedStmt}
use Rattle.checked_tree.specs.declared.units.CheckedFn.{CheckedFn}
use Rattle.checked_tree.specs.Conditions.{State}
use Rattle.checked_tree.specs.Step.{target_of, picked}
use Rattle.checked_tree.specs.Flow.{Assigns, Passes, Leaves, Node, node_at, target_slots, ways}
use Rattle.checked_tree.specs.Known.{waiting_at, StayBut}
use Rattle.checked_tree.specs.KnownLaws.{HoldsBehind, KnownBehind}
use Rattle.checked_tree.proofs.Moving.{known_moves}

-- the only way from a node
only : {X : Type 0} (x : X) → Contains (x ∷ []) x
only x = (0, omega arith, refl)

-- the node behind the result, at which the statement ends
abbrev stored_at : CheckedStmt → List CheckedStmt → Node
stored_at st rest = record { flow = Leaves true; holds = picked st true rest; fails = picked st false rest }

result_way : (f : CheckedFn) (st : CheckedStmt) (rest : List CheckedStmt)
    → Contains (ways f (waiting_at f (st ∷ rest))) (Assigns (target_slots (target_of (out-CheckedStmt st))), stored_at st rest)
unfolding ways waiting_at
result_way f st rest = only (Assigns (target_slots (target_of (out-CheckedStmt st))), stored_at st rest)

end_way : (f : CheckedFn) (st : CheckedStmt) (rest : List CheckedStmt) → Contains (ways f (stored_at st rest)) (Passes, node_at f (picked st true rest))
unfolding ways
end_way f st rest = only (Passes, node_at f (picked st true rest))

stays : (t : State) → StayBut [] t t
stays t k h = refl

assigns_nothing : (f : CheckedFn) (slots : List ℕ) (t : State) → HoldsBehind f (Assigns slots) t
assigns_nothing f slots t i h = absurd cc

passes_nothing : (f : CheckedFn) (t : State) → HoldsBehind f Passes t
passes_nothing f t i h = absurd cc

pub known_behind : KnownBehind
known_behind f st rest s t reached known stay =
    let slots = target_slots (target_of (out-CheckedStmt st)) in
    let stored = known_moves f (waiting_at f (st ∷ rest)) (stored_at st rest) (Assigns slots) s t reached known (result_way f st rest) stay (assigns_nothing f slots t) in
    known_moves f (stored_at st rest) (node_at f (picked st true rest)) Passes t t stored.0 stored.1 (end_way f st rest) (stays t) (passes_nothing f t)
