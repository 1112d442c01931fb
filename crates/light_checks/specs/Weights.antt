-- How far what is derived weighs: n is a bound on the words of its expression. An address has a factor of at most 65,536 and a constant of
-- at most 2^48 for each word; a bound of a pointer has those of its address, and beside them those of an annotation.
use Rattle.std.specs.Prelude.{ℕ, ◌+◌, ◌*◌, ◌≤◌, ◌≡◌, ◌^◌, List, [], ◌∷◌, Some, ℤ, unsigned_abs}
use Rattle.checked_tree.specs.declared.sums.Part.{Part}
use Rattle.checked_tree.specs.declared.sums.Part.TheVariants.{Constant, Atom}
use Rattle.checked_tree.specs.declared.sums.Sum.{Sum}
use Rattle.deputy_rules.specs.declared.derived.ArrayPlace.{ArrayPlace}
use Rattle.deputy_rules.specs.declared.derived.Derived.{Derived}
use Rattle.deputy_rules.specs.declared.derived.Derived.TheVariants as derived
use Rattle.deputy_rules.specs.declared.derived.Place.{Place}
use Rattle.deputy_rules.specs.declared.derived.Pointed.{Pointed}
use Rattle.deputy_rules.specs.declared.derived.Source.{Source}
use Rattle.deputy_rules.specs.declared.derived.Source.TheVariants as source
use Rattle.deputy_rules.specs.declared.derived.Value.{Value}
use Rattle.deputy_rules.specs.declared.derived.Value.TheVariants as value
use Rattle.deputy_rules.specs.declared.derived.Whole.{Whole}
use Rattle.deputy_rules.specs.declared.handed.Handed.{Handed}
use Rattle.deputy_types.specs.Keys.{IsKey}
use Rattle.deputy_rules.specs.Sums.{constant_of}
use Rattle.light_checks.specs.Lightness.{factors, constants}

-- the address of a place, or the value of a pointer, of so many words
pub record IsAddress (n : ℕ) (s : Sum) : Type 0 where
  pub factors : factors s.parts ≤ 65536 * n + 65536
  pub constants : constants s.parts ≤ 281474976710656 * n + 281474976710656

-- a bound of a pointer of so many words
pub record IsBound (n : ℕ) (s : Sum) : Type 0 where
  pub factors : factors s.parts ≤ 65536 * n + 2 ^ 59
  pub constants : constants s.parts ≤ 281474976710656 * n + 2 ^ 91

-- an integer in a check: a constant of at most 2^32, or an expression as a whole
abbrev pub IsSmallPart : Part → Type 0
IsSmallPart (Constant k z) = (unsigned_abs k ≤ 1) × (unsigned_abs z ≤ 2 ^ 32)
IsSmallPart (Atom k e) = unsigned_abs k ≤ 1

-- a sum of at most one such part
abbrev pub AreSingle : List Part → Type 0
AreSingle [] = Unit {0}
AreSingle (p ∷ []) = IsSmallPart p
AreSingle (p ∷ q ∷ ps) = ⊥

abbrev pub IsSingle : Sum → Type 0
IsSingle s = AreSingle s.parts

-- an integer expression, whose constant is below 2^32
pub record IsWhole (w : Whole) : Type 0 where
  pub small : (z : ℤ) → constant_of w.written ≡ Some z → unsigned_abs z ≤ 2 ^ 32

-- a pointer expression of so many words
pub record IsPointed (n : ℕ) (p : Pointed) : Type 0 where
  pub at : IsAddress n p.at
  pub low : IsBound n p.low
  pub high : IsBound n p.high
  pub elem : IsKey p.elem

abbrev pub IsValue : ℕ → Value → Type 0
IsValue n (value.Int w) = IsWhole w
IsValue n (value.Pointer p) = IsPointed n p
IsValue n value.Null = Unit {0}

-- where the type of a place is declared
abbrev pub IsSource : Source → Type 0
IsSource (source.Element key) = IsKey key
IsSource source.Text = Unit {0}
IsSource (source.Member s m) = Unit {0}

pub record IsPlace (n : ℕ) (p : Place) : Type 0 where
  pub at : IsAddress n p.at
  pub source : IsSource p.source

pub record IsArray (n : ℕ) (a : ArrayPlace) : Type 0 where
  pub at : IsAddress n a.at
  pub elem : IsKey a.elem
  pub count : a.count ≤ 1048576

-- what an expression of so many words derives
abbrev pub IsDerived : ℕ → Derived → Type 0
IsDerived n (derived.Value v) = IsValue n v
IsDerived n (derived.Local slot) = Unit {0}
IsDerived n (derived.Place p) = IsPlace n p
IsDerived n (derived.Array a) = IsArray n a
IsDerived n (derived.Union u) = IsAddress n u.at

-- a pointer that is handed over
pub record IsHanded (n : ℕ) (h : Handed) : Type 0 where
  pub at : IsAddress n h.at
  pub low : IsBound n h.low
  pub high : IsBound n h.high
