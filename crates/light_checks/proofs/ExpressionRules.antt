-- Every expression of at most 1,000 words derives what weighs no more than its words, and asks for light checks alone.
use Rattle.std.proofs.Common.{◌≡◌, ℕ, ◌+◌, ◌≤◌, ◌^◌, List, [], ◌∷◌, ◌++◌, length, All, refl, sym, ◌∙◌, subst, arith}
use Rattle.std.proofs.lemmas.List.{length-append}
use Rattle.std.proofs.lemmas.List.Elements.{All-nil, All-cons, All-head, All-tail}
use Rattle.c_tree.specs.declared.expressions.Expr.{Expr, map-Expr, roll-Expr}
use Rattle.c_tree.specs.declared.expressions.Expr.TheOpen as E
use Rattle.c_tree.specs.declared.expressions.Expr.TheFolds.{fold-roll-Expr, ind-Expr}
use Rattle.c_tree.specs.declared.words.Word.{Word}
use Rattle.c_tree.specs.declared.words.Word.TheVariants as word
use Rattle.c_tree.specs.declared.signs.Sign.TheVariants as sign
use Rattle.c_tree.specs.Spelling.{a_sign, a_name, in_parentheses, type_words, binary_sign, unary_sign, expression_words, spelled}
use Rattle.deputy_rules.specs.declared.derived.Derived.{Derived}
use Rattle.deputy_rules.specs.Context.{Context}
use Rattle.deputy_rules.specs.Deriving.{Deriving, bind, lift}
use Rattle.deputy_rules.specs.Expressions.{level, derive, size_of_type, arrow, subscript}
use Rattle.deputy_rules.specs.Operators.{cast, binary}
use Rattle.deputy_rules.specs.Places.{named, dotted}
use Rattle.deputy_rules.specs.Pointers.{string}
use Rattle.light_checks.specs.Weights.{IsDerived}
use Rattle.light_checks.specs.Within.{IsContext}
use Rattle.light_checks.specs.Words.{IsSmallWord, IsReadable}
use Rattle.light_checks.proofs.Ensuring.{Ensures, then_ensures, pure_ensures, lift_ensures, weaker}
use Rattle.light_checks.proofs.OperatorRules.{number_is, character_is, size_of_type_is, unary_is, cast_is, binary_is, arrow_is, subscript_is}
use Rattle.light_checks.proofs.PlaceRules.{named_is, string_is, dotted_is, derived_more}

-- ---- words
all_both : {X : Type 0} (P : X → Type 0) (xs ys : List X) → All P (xs ++ ys) → All P xs × All P ys
all_both P [] ys a = (All-nil P, a)
all_both P (x ∷ xs) ys a = let rest = all_both P xs ys (All-tail P x (xs ++ ys) a) in (All-cons P x xs (All-head P x (xs ++ ys) a) rest.0, rest.1)

-- words that are readable, in two parts
pub both_readable : (a b : List Word) → IsReadable (a ++ b) → IsReadable a × IsReadable b
both_readable a b r =
    let all = all_both IsSmallWord a b r.small in
    let count = length-append a b in
    let few = r.words in
    (record { words = omega arith; small = all.0 }, record { words = omega arith; small = all.1 })

-- ---- expressions by their levels
module _ (ctx : Context) (is : IsContext ctx) where
  abbrev IsGood : Expr → Type 0
  IsGood e = IsReadable (spelled e) → Ensures (derive ctx e) (IsDerived (length (spelled e)))

  abbrev Good : Type 0
  Good = (e : Expr) × IsGood e

  more : (n m : ℕ) (p : Deriving Derived) → n ≤ m → m ≤ 1000 → Ensures p (IsDerived n) → Ensures p (IsDerived m)
  more n m p h k e = weaker p (IsDerived n) (IsDerived m) (λ d l. derived_more ctx is n (omega arith) m d h l) e

  abbrev derives : E.Expr-F Good → Deriving Derived
  derives x = level ctx (map-Expr Good (Deriving Derived) (λ k. derive ctx k.0) x)

  abbrev words : E.Expr-F Good → List Word
  words x = expression_words (map-Expr Good (List Word) (λ k. spelled k.0) x)

  -- one part, and two, with at least one word beside them
  one : (x : Good) (whole : ℕ) (f : Derived → Deriving Derived) → IsReadable (spelled x.0) → length (spelled x.0) + 1 ≤ whole → whole ≤ 1000
      → ((a : Derived) → IsDerived (length (spelled x.0)) a → Ensures (f a) (IsDerived (length (spelled x.0) + 1)))
      → Ensures (bind (derive ctx x.0) (λ a. f a)) (IsDerived whole)
  one x whole f r h k g =
      then_ensures _ _ (IsDerived (length (spelled x.0))) (IsDerived whole) (x.1 r) (λ d l. more (length (spelled x.0) + 1) whole (f d) h k (g d l))

  two : (x y : Good) (whole : ℕ) (f : Derived → Derived → Deriving Derived) → IsReadable (spelled x.0) → IsReadable (spelled y.0)
      → length (spelled x.0) + length (spelled y.0) + 1 ≤ whole → whole ≤ 1000
      → ((n : ℕ) → n + 3 ≤ 2 ^ 30 → (a b : Derived) → IsDerived n a → IsDerived n b → Ensures (f a b) (IsDerived (n + 1)))
      → Ensures (bind (derive ctx x.0) (λ a. bind (derive ctx y.0) (λ b. f a b))) (IsDerived whole)
  two x y whole f r s h few g =
      let n = length (spelled x.0) + length (spelled y.0) in
      then_ensures _ _ (IsDerived n) (IsDerived whole) (more (length (spelled x.0)) n (derive ctx x.0) (omega arith) (omega arith) (x.1 r))
      (λ d k. then_ensures _ _ (IsDerived n) (IsDerived whole) (more (length (spelled y.0)) n (derive ctx y.0) (omega arith) (omega arith) (y.1 s))
      (λ e l. more (n + 1) whole (f d e) h few (g n (omega arith) d e k l)))

  by : (x : E.Expr-F Good) → IsReadable (words x) → Ensures (derives x) (IsDerived (length (words x)))
  by (E.Number n) r = pure_ensures _ _ (number_is n 1 (All-head IsSmallWord (word.Number n.value n.suffix) [] r.small))
  by (E.Character c) r = pure_ensures _ _ (character_is c 1 (All-head IsSmallWord (word.Character c) [] r.small))
  by (E.String s k) r = lift_ensures (string ctx k) _ (λ d found. string_is ctx is k 1 d found)
  by (E.Name x) r = lift_ensures (named ctx x) _ (λ d found. named_is ctx is x 1 d found)
  by (E.Grouped x) r =
      let a = both_readable (a_sign sign.ParenOpen) (spelled x.0 ++ a_sign sign.ParenClose) r in
      let b = both_readable (spelled x.0) (a_sign sign.ParenClose) a.1 in
      let c = length-append (spelled x.0) (a_sign sign.ParenClose) in
      let few = r.words in
      more (length (spelled x.0)) (length (words (E.Grouped x))) (derive ctx x.0) (omega arith) few (x.1 b.0)
  by E.Null r = pure_ensures _ _ tt
  by (E.Unary o x) r =
      let a = both_readable (a_sign (unary_sign o)) (spelled x.0) r in
      let n = length (spelled x.0) in
      let few = r.words in
      then_ensures _ _ (IsDerived n) _ (x.1 a.1) (λ d k. more n (length (words (E.Unary o x))) _ (omega arith) few (unary_is ctx is n (omega arith) o d k))
  by (E.Binary o x y) r =
      let a = both_readable (spelled x.0) (a_sign (binary_sign o) ++ spelled y.0) r in
      let b = both_readable (a_sign (binary_sign o)) (spelled y.0) a.1 in
      let c = length-append (spelled x.0) (a_sign (binary_sign o) ++ spelled y.0) in
      let few = r.words in
      two x y (length (words (E.Binary o x y))) (λ d e. binary ctx o d e) a.0 b.1 (omega arith) few (λ n h d e k l. binary_is ctx is n h o d e k l)
  by (E.Cast t x) r =
      let a = both_readable (in_parentheses (type_words t)) (spelled x.0) r in
      let c = length-append (in_parentheses (type_words t)) (spelled x.0) in
      let few = r.words in
      one x (length (words (E.Cast t x))) (λ d. lift (cast ctx t d)) a.1 (omega arith) few
      (λ d k. lift_ensures (cast ctx t d) _ (λ e found. cast_is ctx is (length (spelled x.0) + 1) (omega arith) t d e found))
  by (E.Sizeof t) r = lift_ensures (size_of_type ctx t) _ (λ d found. size_of_type_is ctx is t _ d found)
  by (E.Field x f) r =
      let a = both_readable (spelled x.0) (a_sign sign.Dot ++ a_name f) r in
      let c = length-append (spelled x.0) (a_sign sign.Dot ++ a_name f) in
      let few = r.words in
      one x (length (words (E.Field x f))) (λ d. dotted ctx d f) a.0 (omega arith) few (λ d k. dotted_is ctx is d f (length (spelled x.0)) k)
  by (E.Arrow x f) r =
      let a = both_readable (spelled x.0) (a_sign sign.Arrow ++ a_name f) r in
      let c = length-append (spelled x.0) (a_sign sign.Arrow ++ a_name f) in
      let few = r.words in
      one x (length (words (E.Arrow x f))) (λ d. arrow ctx d f) a.0 (omega arith) few (λ d k. arrow_is ctx is (length (spelled x.0)) (omega arith) d f k)
  by (E.Index x y) r =
      let a = both_readable (spelled x.0) (a_sign sign.BracketOpen ++ (spelled y.0 ++ a_sign sign.BracketClose)) r in
      let b = both_readable (a_sign sign.BracketOpen) (spelled y.0 ++ a_sign sign.BracketClose) a.1 in
      let d = both_readable (spelled y.0) (a_sign sign.BracketClose) b.1 in
      let c = length-append (spelled x.0) (a_sign sign.BracketOpen ++ (spelled y.0 ++ a_sign sign.BracketClose)) in
      let e = length-append (spelled y.0) (a_sign sign.BracketClose) in
      let few = r.words in
      two x y (length (words (E.Index x y))) (λ d e. subscript ctx d e) a.0 d.0 (omega arith) few (λ n h d e k l. subscript_is ctx is n h d e k l)

  -- a level by its parts
  parts : E.Expr-F Good → E.Expr-F Expr
  parts x = map-Expr Good Expr (λ k. k.0) x

  abbrev other_derives : E.Expr-F Expr → Deriving Derived
  other_derives y = level ctx (map-Expr Expr (Deriving Derived) (derive ctx) y)

  abbrev other_words : E.Expr-F Expr → List Word
  other_words y = expression_words (map-Expr Expr (List Word) spelled y)

  same_derives : (x : E.Expr-F Good) → other_derives (parts x) ≡ derives x
  unfolding parts
  same_derives E.Null = refl
  same_derives _ = refl

  same_words : (x : E.Expr-F Good) → other_words (parts x) ≡ words x
  unfolding parts
  same_words E.Null = refl
  same_words _ = refl

  derive_at : (y : E.Expr-F Expr) → derive ctx (roll-Expr y) ≡ other_derives y
  unfolding derive
  derive_at y = fold-roll-Expr (Deriving Derived) (level ctx) y

  words_at : (y : E.Expr-F Expr) → spelled (roll-Expr y) ≡ other_words y
  words_at y = fold-roll-Expr (List Word) expression_words y

  all_good : (e : Expr) → IsGood e
  unfolding parts
  all_good = ind-Expr IsGood (λ z x e. subst (λ l. IsGood (roll-Expr l)) e (here x))
    where
      here : (x : E.Expr-F Good) → IsGood (roll-Expr (map-Expr Good Expr (λ k. k.0) x))
      here x r =
          let w = words_at (parts x) ∙ same_words x in
          let d = derive_at (parts x) ∙ same_derives x in
          subst (λ p. Ensures p (IsDerived (length (spelled (roll-Expr (parts x)))))) (sym d)
          (subst (λ ks. Ensures (derives x) (IsDerived (length ks))) (sym w) (by x (subst IsReadable w r)))

  -- an expression
  pub derive_is : (e : Expr) → IsReadable (spelled e) → Ensures (derive ctx e) (IsDerived (length (spelled e)))
  derive_is e r = all_good e r
