-- Every expression that the rules derive is sound.
use Rattle.std.proofs.Common.{◌≡◌, ℕ, ◌^◌, ◌<◌, nat_lt, IsTrue, Bool, true, false, ◌&&◌, List, [], Some}
use Rattle.std.proofs.Common.{refl, sym, ◌∙◌, subst, arith}
use Rattle.sd_base.specs.Blocks.{Block}
use Rattle.c_tree.specs.declared.expressions.Expr.{Expr, map-Expr, roll-Expr}
use Rattle.c_tree.specs.declared.expressions.Expr.TheOpen as E
use Rattle.c_tree.specs.declared.expressions.Expr.TheFolds.{fold-roll-Expr, ind-Expr}
use Rattle.c_tree.specs.declared.types.TypeName.{TypeName}
use Rattle.checked_tree.specs.declared.units.CheckedFn.{CheckedFn}
use Rattle.checked_tree.specs.Conditions.{State}
use Rattle.deputy_types.specs.Table.{size}
use Rattle.deputy_types.proofs.Inversions.{some_map}
use Rattle.deputy_rules.specs.declared.derived.Derived.{Derived}
use Rattle.deputy_rules.specs.Context.{Context}
use Rattle.deputy_rules.specs.Deriving.{Deriving}
use Rattle.deputy_rules.specs.Expressions.{level, derive, size_of_type, arrow, subscript}
use Rattle.deputy_rules.specs.Operators.{size_constant, cast}
use Rattle.deputy_rules.specs.Places.{named}
use Rattle.deputy_rules.specs.Pointers.{string}
use Rattle.deputy_rules.specs.Values.{integer_of, pointer_of}
use Rattle.driver_safety.specs.Derivations.{IsDerived}
use Rattle.driver_safety.specs.ExpressionLaw.{EachPlaceIsSound, EachValueIsSound}
use Rattle.driver_safety.specs.Goodness.{IsGood}
use Rattle.driver_safety.specs.Passing.{AreTested}
use Rattle.driver_safety.specs.TypeFacts.{HasTypes, HasSlots}
use Rattle.driver_safety.specs.WrittenNumbers.{words_level, has_words}
use Rattle.driver_safety.proofs.checks.Sounding.{Sound, then_sound, pure_sound, lift_sound, weaker}
use Rattle.driver_safety.proofs.checks.TestedChecks.{numbered_tested}
use Rattle.driver_safety.proofs.expressions.OperatorRules.{number_safe, character_safe, size_safe, integer_sound, pointer_sound}
use Rattle.driver_safety.proofs.expressions.OperatorRules.{unary_sound, binary_sound, cast_sound}
use Rattle.driver_safety.proofs.expressions.PlaceRules.{named_sound, followed_sound, dotted_sound}
use Rattle.driver_safety.proofs.expressions.PointerRules.{string_sound}
use Rattle.driver_safety.proofs.expressions.ReadRules.{value_sound}
use Rattle.driver_safety.proofs.expressions.TextRules.{indexed_by_sound}

both_first : (a b : Bool) → IsTrue (a && b) → IsTrue a
both_first true b h = refl
both_first false b h = absurd cc

both_second : (a b : Bool) → IsTrue (a && b) → IsTrue b
both_second true b h = h
both_second false b h = absurd cc

below : (a b : ℕ) → IsTrue (nat_lt a b) → a < b
below a b h = grind arith

module _ (f : CheckedFn) (ctx : Context) (blocks : List Block) (st : State) (good : IsGood ctx blocks st) (types : HasTypes ctx.table)
    (slots : HasSlots ctx) where
  abbrev Is : Derived → Type 0
  Is d = IsDerived f ctx blocks st d

  -- ---- the forms that are made of others
  size_sound : (t : TypeName) (d : Derived) → size_of_type ctx t ≡ Some d → Is d
  unfolding size_of_type
  size_sound t d h = let r = some_map (size ctx.table t) size_constant d h in subst Is r.2 (size_safe f ctx blocks st r.0
      (types.small t r.0 r.1))

  -- `e->f`, as `(*e).f`
  arrow_sound : (x : Derived) (name : List ℕ) → Sound f st ctx.first (arrow ctx x name) (λ d. Is x → Is d)
  unfolding arrow
  arrow_sound x name =
      then_sound f st ctx.first _ _ (λ p. pointer_of ctx x ≡ Some p) _ (lift_sound f st ctx.first (pointer_of ctx x) _ (λ p h. h)) (λ p.
      then_sound f st ctx.first _ _ _ _ (followed_sound f ctx blocks st good types p) (λ l.
      weaker f st ctx.first _ _ _ (λ d q place h is. q (place (pointer_sound f ctx blocks st good types slots x p h is)))
      (dotted_sound f ctx blocks st good types l name)))

  -- `e[i]`
  subscript_sound : (x y : Derived) → Sound f st ctx.first (subscript ctx x y) (λ d. Is x → Is y → Is d)
  unfolding subscript
  subscript_sound x y =
      then_sound f st ctx.first _ _ (λ p. pointer_of ctx x ≡ Some p) _ (lift_sound f st ctx.first (pointer_of ctx x) _ (λ p h. h)) (λ p.
      then_sound f st ctx.first _ _ (λ i. integer_of ctx y ≡ Some i) _ (lift_sound f st ctx.first (integer_of ctx y) _ (λ i h. h)) (λ i.
      weaker f st ctx.first _ _ _ (λ d q hi hp dx dy. q (pointer_sound f ctx blocks st good types slots x p hp dx)
      (integer_sound f ctx blocks st good types slots y i hi dy))
      (indexed_by_sound f ctx blocks st good types p i)))

  -- ---- all forms
  abbrev IsSound : Expr → Type 0
  IsSound e = IsTrue (has_words e) → Sound f st ctx.first (derive ctx e) Is

  abbrev Derives : Type 0
  Derives = (e : Expr) × IsSound e

  abbrev derives : E.Expr-F Derives → Deriving Derived
  derives x = level ctx (map-Expr Derives (Deriving Derived) (λ k. derive ctx k.0) x)

  abbrev words : E.Expr-F Derives → Bool
  words x = words_level (map-Expr Derives Bool (λ k. has_words k.0) x)

  by : (x : E.Expr-F Derives) → IsTrue (words x) → Sound f st ctx.first (derives x) Is
  by (E.Number n) w = pure_sound f st ctx.first _ Is (number_safe f ctx blocks st n (below n.value (2 ^ 32) w))
  by (E.Character c) w = pure_sound f st ctx.first _ Is (character_safe f ctx blocks st c (below c 256 w))
  by (E.String s k) w = lift_sound f st ctx.first (string ctx k) Is (λ d e. string_sound f ctx blocks st good types k d e)
  by (E.Name x) w = lift_sound f st ctx.first (named ctx x) Is (λ d e. named_sound f ctx blocks st good types x d e)
  by (E.Grouped x) w = x.1 w
  by E.Null w = pure_sound f st ctx.first _ Is tt
  by (E.Unary o x) w = then_sound f st ctx.first _ _ Is Is (x.1 w) (λ a. unary_sound f ctx blocks st good types slots o a)
  by (E.Binary o x y) w =
      then_sound f st ctx.first _ _ Is Is (x.1 (both_first _ _ w)) (λ a. then_sound f st ctx.first _ _ Is _
      (y.1 (both_second (has_words x.0) (has_words y.0) w)) (λ b.
      weaker f st ctx.first _ _ _ (λ d h k l. h l k) (binary_sound f ctx blocks st good types slots o a b)))
  by (E.Cast t x) w = then_sound f st ctx.first _ _ Is Is (x.1 w) (λ a. lift_sound f st ctx.first (cast ctx t a) _
      (λ d e. cast_sound f ctx blocks st good types slots t a d e))
  by (E.Sizeof t) w = lift_sound f st ctx.first (size_of_type ctx t) Is (λ d e. size_sound t d e)
  by (E.Field x n) w = then_sound f st ctx.first _ _ Is Is (x.1 w) (λ a. dotted_sound f ctx blocks st good types a n)
  by (E.Arrow x n) w = then_sound f st ctx.first _ _ Is Is (x.1 w) (λ a. arrow_sound a n)
  by (E.Index x y) w =
      then_sound f st ctx.first _ _ Is Is (x.1 (both_first _ _ w)) (λ a. then_sound f st ctx.first _ _ Is _
      (y.1 (both_second (has_words x.0) (has_words y.0) w)) (λ b.
      weaker f st ctx.first _ _ _ (λ d h k l. h l k) (subscript_sound a b)))

  parts : E.Expr-F Derives → E.Expr-F Expr
  parts x = map-Expr Derives Expr (λ k. k.0) x

  same : (x : E.Expr-F Derives) → level ctx (map-Expr Expr (Deriving Derived) (derive ctx) (parts x)) ≡ derives x
  unfolding parts
  same E.Null = refl
  same _ = refl

  same_words : (x : E.Expr-F Derives) → words_level (map-Expr Expr Bool has_words (parts x)) ≡ words x
  unfolding parts
  same_words E.Null = refl
  same_words _ = refl

  derive_at : (y : E.Expr-F Expr) → derive ctx (roll-Expr y) ≡ level ctx (map-Expr Expr (Deriving Derived) (derive ctx) y)
  unfolding derive
  derive_at y = fold-roll-Expr (Deriving Derived) (level ctx) y

  words_at : (y : E.Expr-F Expr) → has_words (roll-Expr y) ≡ words_level (map-Expr Expr Bool has_words y)
  unfolding has_words
  words_at y = fold-roll-Expr Bool words_level y

  pub derive_sound : (e : Expr) → IsSound e
  unfolding parts
  derive_sound = ind-Expr IsSound (λ z x e. subst (λ l. IsSound (roll-Expr l)) e (here x))
    where
      here : (x : E.Expr-F Derives) → IsSound (roll-Expr (map-Expr Derives Expr (λ k. k.0) x))
      here x w = subst (λ p. Sound f st ctx.first p Is) (sym (derive_at (parts x) ∙ same x))
          (by x (subst IsTrue (words_at (parts x) ∙ same_words x) w))

-- ---- the laws
pub each_place : EachPlaceIsSound
each_place f ctx e d is blocks st good =
    let sound = derive_sound f ctx blocks st good is.types is.slots e is.words in
    let run = sound.run [] d is.asked is.derived in
    let tested = (numbered_tested f st is.asked is.before is.after is.numbers).tested is.stand.atoms is.stand.checks in
    run.1 (subst (λ (n : ℕ). AreTested f st n is.asked) (sym is.first) tested)

pub each_value : EachValueIsSound
each_value f ctx e d v is h blocks st good = value_sound f ctx blocks st good is.types is.slots d v h (each_place f ctx e d is blocks st
    good)
