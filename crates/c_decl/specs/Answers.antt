-- What is answered of words that begin with no item somewhere.
use Rattle.std.specs.Prelude.{◌≡◌, ◌⊎◌, Result, Err}
use Rattle.c_decl.specs.declared.refusal.UnitRefusal.{UnitRefusal}
use Rattle.c_decl.specs.declared.refusal.UnitRefusal.TheVariants as refusal

-- The answer is this refusal, or memory was wanting.
abbrev pub IsUnlessMemory : {X : Type 0} → Result X UnitRefusal → UnitRefusal → Type 0
IsUnlessMemory r e = (r ≡ Err e) ⊎ (r ≡ Err refusal.Memory)
