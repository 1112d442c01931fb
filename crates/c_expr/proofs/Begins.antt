-- How a list of words begins: a phrase takes words away, and two beginnings agree.
use Rattle.std.proofs.Common.{◌≡◌, ◌<◌, List, [], ◌∷◌, length, Bool, IsTrue, subst, arith}
use Rattle.c_tree.specs.declared.words.Token.{Token}
use Rattle.c_tree.specs.declared.words.Word.{Word}
use Rattle.c_tree.specs.Reading.{Begins}
use Rattle.c_expr.specs.Classes.{begins_in, At}

-- the words after the first are fewer
pub begins_shrinks : (w : List Token) {k : Word} {u : List Token} → Begins w k u → length u < length w
begins_shrinks [] b = cc
begins_shrinks (t ∷ w) {u = u} b = let e : w ≡ u = cc in let shorter : length w < length (t ∷ w) = omega arith in subst (λ q. length q < length (t ∷ w)) e shorter

-- words that begin with a word of a class
pub in_class : (class : Word → Bool) (v : List Token) {k : Word} {u : List Token} → Begins v k u → At class v → IsTrue (class k)
in_class class v b g = subst (λ f. IsTrue (begins_in class f)) b g
