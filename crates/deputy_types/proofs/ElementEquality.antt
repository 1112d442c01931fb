-- Equality of types of elements, as the set of them compares, is equality of types.
use Rattle.std.proofs.Common.{◌≡◌, ℕ, List, Option, position, refl, subst, ◌∙◌, ap}
use Rattle.checked_tree.specs.declared.shapes.Scalar.{Scalar}
use Rattle.checked_tree.specs.declared.shapes.Scalar.TheVariants as scalar
use Rattle.checked_tree.specs.contracts.shapes.ScalarPartialEq.TheImpl as scalars
use Rattle.deputy_types.specs.contracts.element.ElementPartialEq.TheImpl as elements
use Rattle.deputy_types.specs.declared.element.Element.{Element}
use Rattle.deputy_types.specs.declared.element.Element.TheVariants as element
use Rattle.deputy_types.specs.Types.{same_scalar, same_element}

pub scalar_eq : (a b : Scalar) → scalars.ghosts.eq a b ≡ same_scalar a b
scalar_eq scalar.Void scalar.Void = refl
scalar_eq scalar.U8 scalar.U8 = refl
scalar_eq scalar.I8 scalar.I8 = refl
scalar_eq scalar.U16 scalar.U16 = refl
scalar_eq scalar.I16 scalar.I16 = refl
scalar_eq scalar.I32 scalar.I32 = refl
scalar_eq scalar.U32 scalar.U32 = refl
scalar_eq (scalar.Pointer n) (scalar.Pointer m) = refl
scalar_eq _ _ = refl

pub element_eq : (a b : Element) → elements.ghosts.eq a b ≡ same_element a b
element_eq (element.Int a) (element.Int b) = scalar_eq a b
element_eq (element.Struct a) (element.Struct b) = refl
element_eq (element.Sentinel a) (element.Sentinel b) = refl
element_eq (element.Nullterm a) (element.Nullterm b) = refl
element_eq (element.Count a m) (element.Count b n) = refl
element_eq _ _ = refl

pub number-found : (o : Option ℕ) (x : Element) (keys now : List Element) → keys ≡ now → o ≡ position (elements.ghosts.eq x) keys → o ≡ position (same_element x) now
number-found o x keys now same found = subst (λ l. o ≡ position (same_element x) l) same (found ∙ ap (λ p. position p keys) (λ i y. element_eq x y i))
