-- What a parameter or a result of a shape takes: an integer in the range of its type, or a pointer that fits by these names.
use Rattle.std.specs.Prelude.{◌≡◌, IsTrue, ℕ, true, false, List, [], ◌∷◌, All, ℤ, pos, Option, Some, None, slice_get}
use Rattle.sd_base.specs.Blocks.{Block}
use Rattle.c_tree.specs.declared.expressions.Expr.{Expr}
use Rattle.checked_tree.specs.declared.shapes.Bounds.{Bounds}
use Rattle.checked_tree.specs.declared.shapes.Bounds.TheVariants as bounds
use Rattle.checked_tree.specs.declared.shapes.Edge.{Edge}
use Rattle.checked_tree.specs.declared.shapes.Scalar.{Scalar}
use Rattle.checked_tree.specs.declared.shapes.Shape.{Shape}
use Rattle.checked_tree.specs.declared.shapes.Shape.TheVariants as shape
use Rattle.checked_tree.specs.Edges.{edge_value}
use Rattle.checked_tree.specs.Numbers.{is_of, is_word}
use Rattle.deputy_types.specs.Fitting.{Fits}
use Rattle.deputy_types.specs.Table.{Table}
use Rattle.driver_safety.specs.TypeFacts.{IsDeclared}
use Rattle.driver_safety.specs.WrittenNumbers.{has_words}

-- a pointer with these bounds, by the values of the names
abbrev pub FitsAsNamed : Table → List Block → (ℕ → ℤ) → ℕ → Bounds → ℤ → Type 0
FitsAsNamed t blocks names elem bounds.Hidden v = ⊥
FitsAsNamed t blocks names elem bounds.Nullterm v = Fits blocks t.elems t.structs elem true (pos 0) (pos 0) v
FitsAsNamed t blocks names elem (bounds.Within lo hi) v =
    Fits blocks t.elems t.structs elem false (edge_value names v lo) (edge_value names v hi) v

-- a value of this shape
abbrev pub Takes : Table → List Block → (ℕ → ℤ) → Shape → ℤ → Type 0
Takes t blocks names (shape.Int s) v = IsTrue (is_of s v)
Takes t blocks names (shape.Pointer elem b) v = IsTrue (is_word v) × FitsAsNamed t blocks names elem b v
Takes t blocks names (shape.Struct s) v = ⊥
Takes t blocks names shape.Address v = ⊥

-- each parameter takes its argument, by the names that the arguments stand for
abbrev pub TakesOne : Table → List Block → (ℕ → ℤ) → Option Shape → ℤ → Type 0
TakesOne t blocks names None v = ⊥
TakesOne t blocks names (Some s) v = Takes t blocks names s v

abbrev pub TakeEach : Table → List Block → (ℕ → ℤ) → List (Option Shape) → List ℤ → Type 0
TakeEach t blocks names [] [] = Unit {0}
TakeEach t blocks names [] (v ∷ vs) = ⊥
TakeEach t blocks names (s ∷ ss) [] = ⊥
TakeEach t blocks names (s ∷ ss) (v ∷ vs) = TakesOne t blocks names s v × TakeEach t blocks names ss vs

-- what is taken of parameters: each is declared, and what an annotation counts is an integer parameter
abbrev pub IsIntegerParameter : List (Option Shape) → ℕ → Type 0
IsIntegerParameter ss k = (s : Scalar) × (slice_get ss k ≡ Some (Some (shape.Int s)))

abbrev pub CountsParameters : List (Option Shape) → Edge → Type 0
CountsParameters ss e = All (λ x. IsIntegerParameter ss x.1) e.terms

pub record HasParameters (t : Table) (ss : List (Option Shape)) : Type 0 where
  pub declared : (k : ℕ) (s : Shape) → slice_get ss k ≡ Some (Some s) → IsDeclared t s
  pub counts : (k elem : ℕ) (lo hi : Edge) → slice_get ss k ≡ Some (Some (shape.Pointer elem (bounds.Within lo hi)))
      → CountsParameters ss lo × CountsParameters ss hi

-- expressions with such numbers as C's words can be
abbrev pub HaveWords : List Expr → Type 0
HaveWords es = All (λ e. IsTrue (has_words e)) es
