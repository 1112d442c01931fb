-- Sums over expressions: parts are listed as they are written, and nothing is added up.
use Rattle.std.specs.Prelude.{[], ◌∷◌, ◌++◌, map, ℤ, pos, Option, Some, None}
use Rattle.checked_tree.specs.declared.expressions.CheckedExpr.{CheckedExpr}
use Rattle.checked_tree.specs.declared.sums.Part.{Part}
use Rattle.checked_tree.specs.declared.sums.Part.TheVariants.{Constant, Atom}
use Rattle.checked_tree.specs.declared.sums.Sum.{Sum}
use Rattle.checked_tree.specs.Bare.{bare}
use Rattle.deputy_rules.specs.declared.derived.Whole.{Whole}
use Rattle.deputy_rules.specs.declared.derived.Written.{Written}
use Rattle.deputy_rules.specs.declared.derived.Written.TheVariants as written

-- a number, and an expression, once
abbrev pub constant_part : ℤ → Part
constant_part z = Constant (pos 1) z

abbrev pub atom_part : CheckedExpr → Part
atom_part e = Atom (pos 1) (bare e)

-- the sum of one part
abbrev pub sum_of : Part → Sum
sum_of p = record { parts = p ∷ [] }

-- a number, and an expression, as sums
abbrev pub constant : ℤ → Sum
constant z = sum_of (constant_part z)

abbrev pub atom : CheckedExpr → Sum
atom e = sum_of (atom_part e)

-- the sum of two
abbrev pub plus : Sum → Sum → Sum
plus a b = record { parts = a.parts ++ b.parts }

-- one part more
abbrev pub with_part : Sum → Part → Sum
with_part a p = record { parts = a.parts ++ p ∷ [] }

-- so many bytes beyond
abbrev pub beyond : Sum → ℤ → Sum
beyond a bytes = with_part a (constant_part bytes)

-- a part that stands once, so many times
abbrev pub times : ℤ → Part → Part
times n (Constant k z) = Constant n z
times n (Atom k e) = Atom n e

-- a sum whose parts stand once, so many times
unfoldable pub scaled : ℤ → Sum → Sum
scaled n a = record { parts = map (times n) a.parts }

-- the constant that an integer expression is in a check, if it is one
abbrev pub constant_of : Written → Option ℤ
constant_of (written.Number value plain) = Some (pos value)
constant_of (written.Constant z) = Some z
constant_of written.Other = None

-- an integer expression in a check: a constant, or one atom as a whole
abbrev pub side_by : Option ℤ → CheckedExpr → Part
side_by (Some z) e = constant_part z
side_by None e = atom_part e

unfoldable pub side : Whole → Part
side w = side_by (constant_of w.written) w.form
