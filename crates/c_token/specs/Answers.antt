-- What the refusals of a text say of it.
use Rattle.std.specs.Prelude.{◌≡◌, ◌⊎◌, Result, Err}
use Rattle.c_tree.specs.Bytes.{Text}
use Rattle.c_tree.specs.Division.{HasNoWord, PassesLimit}
use Rattle.c_token.specs.declared.refusal.WordRefusal.{WordRefusal}
use Rattle.c_token.specs.declared.refusal.WordRefusal.TheVariants as refusal

-- A refusal of a text is right: its division comes to a byte at which nothing begins, or to a word that passes a
-- limit, on that line. Want of memory says nothing of the text.
abbrev pub IsRefusal : Text → WordRefusal → Type 0
IsRefusal t (refusal.NotAWord n) = HasNoWord t n
IsRefusal t (refusal.Limit n kind) = PassesLimit t n kind
IsRefusal t refusal.Memory = Unit {0}

-- The answer is this refusal, or memory was wanting.
abbrev pub IsUnlessMemory : {X : Type 0} → Result X WordRefusal → WordRefusal → Type 0
IsUnlessMemory r e = (r ≡ Err e) ⊎ (r ≡ Err refusal.Memory)
