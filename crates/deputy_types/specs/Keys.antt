-- The types of elements that a text can write.
use Rattle.std.specs.Prelude.{◌^◌, pos, neg_ℤ, IsTrue}
use Rattle.checked_tree.specs.Numbers.{is_between}
use Rattle.deputy_types.specs.declared.element.Element.{Element}
use Rattle.deputy_types.specs.declared.element.Element.TheVariants as element

-- the type of a pointer to elements counts at most 2^42 of them: the sum of at most 1,000 numbers below 2^32
abbrev pub IsKey : Element → Type 0
IsKey (element.Count n k) = IsTrue (is_between (neg_ℤ (pos (2 ^ 42))) (pos (2 ^ 42)) k)
IsKey _ = Unit {0}
