-- What may be missing, and what follows from what is there.
use Rattle.std.specs.Prelude.{Option, Some, None}

-- what f makes of it, where it is there
abbrev pub and_then : {A B : Type 0} → Option A → (A → Option B) → Option B
and_then None f = None
and_then (Some a) f = f a
