-- Which classes of words lie in which, and which are apart.
use Rattle.std.proofs.Common.{List, [], ◌∷◌, Bool, IsTrue, refl}
use Rattle.c_tree.specs.declared.keywords.Keyword.TheVariants as keyword
use Rattle.c_tree.specs.declared.signs.Sign.TheVariants as sign
use Rattle.c_tree.specs.declared.words.Token.{Token}
use Rattle.c_tree.specs.declared.words.Word.{Word}
use Rattle.c_tree.specs.declared.words.Word.TheVariants as word
use Rattle.c_tree.specs.Reading.{Begins}
use Rattle.c_expr.specs.Classes.{At, is_star, is_plus_or_minus, is_in_sums, is_annotation, is_after_unsigned, is_in_types}
use Rattle.c_expr.proofs.Begins.{in_class}

pub at_weaker : (c d : Word → Bool) → ((k : Word) → IsTrue (c k) → IsTrue (d k)) → (v : List Token) → At c v → At d v
at_weaker c d h [] g = cc
at_weaker c d h (t ∷ v) g = h t.word g

pub at_apart : (c d : Word → Bool) → ((k : Word) → IsTrue (c k) → IsTrue (d k) → ⊥) → (v : List Token) → At c v → At d v → ⊥
at_apart c d h [] g i = cc
at_apart c d h (t ∷ v) g i = h t.word g i

star_in : (k : Word) → IsTrue (is_star k) → IsTrue (is_in_sums k)
star_in (word.Sign sign.Star) g = refl
star_in _ g = cc

pub star_in_sums : (v : List Token) → At is_star v → At is_in_sums v
star_in_sums v g = at_weaker is_star is_in_sums star_in v g

plus_in : (k : Word) → IsTrue (is_plus_or_minus k) → IsTrue (is_in_sums k)
plus_in (word.Sign sign.Plus) g = refl
plus_in (word.Sign sign.Minus) g = refl
plus_in _ g = cc

pub signs_in_sums : (v : List Token) → At is_plus_or_minus v → At is_in_sums v
signs_in_sums v g = at_weaker is_plus_or_minus is_in_sums plus_in v g

plus_no_star : (k : Word) → IsTrue (is_plus_or_minus k) → IsTrue (is_star k) → ⊥
plus_no_star (word.Sign sign.Star) g h = cc
plus_no_star _ g h = cc

pub signs_apart : (v : List Token) → At is_plus_or_minus v → At is_star v → ⊥
signs_apart v g h = at_apart is_plus_or_minus is_star plus_no_star v g h

annotation_in : (k : Word) → IsTrue (is_annotation k) → IsTrue (is_in_types k)
annotation_in (word.Keyword keyword.Safe) g = refl
annotation_in (word.Keyword keyword.Sentinel) g = refl
annotation_in (word.Keyword keyword.Nullterm) g = refl
annotation_in (word.Keyword keyword.Count) g = refl
annotation_in (word.Keyword keyword.Bound) g = refl
annotation_in _ g = cc

pub annotations_in_types : (v : List Token) → At is_annotation v → At is_in_types v
annotations_in_types v g = at_weaker is_annotation is_in_types annotation_in v g

further_in : (k : Word) → IsTrue (is_after_unsigned k) → IsTrue (is_in_types k)
further_in (word.Keyword keyword.Char) g = refl
further_in (word.Keyword keyword.Short) g = refl
further_in (word.Keyword keyword.Int) g = refl
further_in (word.Keyword keyword.Long) g = refl
further_in _ g = cc

pub further_in_types : (v : List Token) → At is_after_unsigned v → At is_in_types v
further_in_types v g = at_weaker is_after_unsigned is_in_types further_in v g

star_types : (k : Word) → IsTrue (is_star k) → IsTrue (is_in_types k)
star_types (word.Sign sign.Star) g = refl
star_types _ g = cc

pub stars_in_types : (v : List Token) → At is_star v → At is_in_types v
stars_in_types v g = at_weaker is_star is_in_types star_types v g

star_no_annotation : (k : Word) → IsTrue (is_star k) → IsTrue (is_annotation k) → ⊥
star_no_annotation (word.Sign sign.Star) g h = cc
star_no_annotation _ g h = cc

pub stars_apart : (v : List Token) → At is_star v → At is_annotation v → ⊥
stars_apart v g h = at_apart is_star is_annotation star_no_annotation v g h

star_no_further : (k : Word) → IsTrue (is_star k) → IsTrue (is_after_unsigned k) → ⊥
star_no_further (word.Sign sign.Star) g h = cc
star_no_further _ g h = cc

pub bases_apart : (v : List Token) → At is_star v → At is_after_unsigned v → ⊥
bases_apart v g h = at_apart is_star is_after_unsigned star_no_further v g h

pub sums_close : (v u : List Token) → Begins v (word.Sign sign.ParenClose) u → At is_in_sums v → ⊥
sums_close v u b g = let clash = in_class is_in_sums v b g in cc

pub sums_part : (v u : List Token) → Begins v (word.Sign sign.Comma) u → At is_in_sums v → ⊥
sums_part v u b g = let clash = in_class is_in_sums v b g in cc

pub types_close : (v u : List Token) → Begins v (word.Sign sign.ParenClose) u → At is_in_types v → ⊥
types_close v u b g = let clash = in_class is_in_types v b g in cc
