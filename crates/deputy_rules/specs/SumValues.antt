-- Values of sums: a sum over expressions in a state, over whole numbers. Nothing is limited, and each atom has a value of 32 bits.
use Rattle.std.specs.Prelude.{◌≡◌, IsTrue, ℕ, List, [], ◌∷◌, All, ℤ, pos, ◌+ℤ◌, ◌*ℤ◌, Ok, Err}
use Rattle.checked_tree.specs.declared.expressions.CheckedExpr.{CheckedExpr}
use Rattle.checked_tree.specs.declared.sums.Part.{Part}
use Rattle.checked_tree.specs.declared.sums.Part.TheVariants.{Constant, Atom}
use Rattle.checked_tree.specs.declared.sums.Sum.{Sum}
use Rattle.checked_tree.specs.Outcome.{Got}
use Rattle.checked_tree.specs.Numbers.{is_value}
use Rattle.checked_tree.specs.Conditions.{State, peek}

-- the number that was got, and 0 where none was
abbrev pub got_or_zero : Got → ℤ
got_or_zero (Ok z) = z
got_or_zero (Err e) = pos 0

-- the number of a part
abbrev pub part_at : State → Part → ℤ
part_at st (Constant times value) = times *ℤ value
part_at st (Atom times atom) = times *ℤ got_or_zero (peek st atom)

-- the number of parts together
unfoldable pub parts_at : State → List Part → ℤ
parts_at st [] = pos 0
parts_at st (p ∷ ps) = part_at st p +ℤ parts_at st ps

-- a part whose expression has a value
abbrev pub PartHasValue : State → Part → Type 0
PartHasValue st (Constant times value) = Unit {0}
PartHasValue st (Atom times atom) = (v : ℤ) × (peek st atom ≡ Ok v) × IsTrue (is_value v)

-- parts whose expressions have values
abbrev pub HaveValues : State → List Part → Type 0
HaveValues st [] = Unit {0}
HaveValues st (p ∷ ps) = PartHasValue st p × HaveValues st ps

-- a sum that has this value
pub record HasValue (st : State) (s : Sum) (z : ℤ) : Type 0 where
  pub read : HaveValues st s.parts
  pub is : parts_at st s.parts ≡ z
