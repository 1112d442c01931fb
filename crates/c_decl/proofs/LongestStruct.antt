-- The longest field and its parts, one lemma for each way in which a reader ends.
use Rattle.std.proofs.Common.{◌≡◌, ℕ, ◌≤◌, List, length, Option, None, Some, IsTrue, refl, ap, sym, ◌∙◌, subst}
use Rattle.c_tree.specs.declared.items.Arm.{Arm}
use Rattle.c_tree.specs.declared.items.Declaration.{Declaration}
use Rattle.c_tree.specs.declared.items.Field.{Field}
use Rattle.c_tree.specs.declared.items.Field.TheVariants as field
use Rattle.c_tree.specs.declared.keywords.Keyword.TheVariants as keyword
use Rattle.c_tree.specs.declared.signs.Sign.TheVariants as sign
use Rattle.c_tree.specs.declared.words.Token.{Token}
use Rattle.c_tree.specs.declared.words.Word.{Word}
use Rattle.c_tree.specs.declared.words.Word.TheVariants as word
use Rattle.c_tree.specs.ItemGrammar.{DeclarationAt, declaration, ArmAt, FieldAt, plain, union}
use Rattle.c_tree.specs.Reading.{Begins, Best, Never, line_at}
use Rattle.c_expr.specs.Classes.{At, is_base}
use Rattle.c_expr.specs.Looking.{Lacks}
use Rattle.c_expr.proofs.Begins.{in_class}
use Rattle.c_expr.proofs.Classes.{at_weaker}
use Rattle.c_expr.proofs.Firsts.{type_first}
use Rattle.c_decl.specs.Classes.{is_field}
use Rattle.c_decl.specs.Parts.{PlainAt, UnionAt}
use Rattle.c_decl.specs.Sequences.{Then, then, before, ended, Given, given, many}
use Rattle.c_decl.proofs.ItemWalks.{arm_piece, field_walk}
use Rattle.c_decl.proofs.Loops.{passage_shrinks}
use Rattle.c_decl.proofs.Sequences.{then_none, mapped, best_same}

-- ---- what fields begin with, and that they take words away
base_in : (k : Word) → IsTrue (is_base k) → IsTrue (is_field k)
base_in (word.Keyword keyword.Union) g = refl
base_in _ g = g

declaration_first : (w v : List Token) (x : Declaration) → DeclarationAt w v x → At is_base w
declaration_first w v x (declaration {u = u} {t = t} d e f) = type_first w u t d

pub field_first : (w v : List Token) (x : Field) → FieldAt w v x → At is_field w
field_first w v x (plain {u = u} {d = d} p b) = at_weaker is_base is_field base_in w (declaration_first w u d p)
field_first w v x (union b c d e f g h) = rw b refl

pub arm_shrinks : (w v : List Token) (x : Arm) → ArmAt w v x → length v ≤ length w
arm_shrinks w v x d = passage_shrinks (arm_piece d).passage

pub field_shrinks : (w v : List Token) (x : Field) → FieldAt w v x → length v ≤ length w
field_shrinks w v x d = passage_shrinks (field_walk d).passage

-- ---- unions
union_in : (w u v : List Token) (x : Field) → Begins w (word.Keyword keyword.Union) u → UnionAt (line_at w) u v x → FieldAt w v x
union_in w u v x h (before i (then {x = xs} (then (many {x = y} {xs = ys} d e) (ended f g)) (then {u = q} {x = n} (then {u = r} {x = m} k (ended l o)) (given p z)))) =
    subst (FieldAt w v) (ap (λ s. field.Union (line_at w) s m) g ∙ ap (λ s. field.Union (line_at w) xs s) o ∙ z) (union h i d e f k (subst (λ s. Begins r (word.Sign sign.Semicolon) s) p l))

union_out : (w u v : List Token) (x : Field) → Begins w (word.Keyword keyword.Union) u → FieldAt w v x → UnionAt (line_at w) u v x
union_out w u v x h (plain {u = r} {d = d} p b) = let clash = in_class is_base w h (declaration_first w r d p) in cc
union_out w u v x h (union {a = a} {b = b} {n = n} i j d e f g k) =
    let same : a ≡ u = cc in before (subst (λ s. Begins s (word.Sign sign.BraceOpen) b) same j) (then (then (many d e) (ended f refl)) (then (then {x = n} g (ended k refl)) (given refl refl)))

pub field_union : (w u : List Token) (line : ℕ) (o : Option (Field × List Token)) → line ≡ line_at w → Begins w (word.Keyword keyword.Union) u → Best (UnionAt line u) Never o
    → Best (FieldAt w) Never o
field_union w u line o e b best = best_same (λ v x d. union_in w u v x b d) (λ v x d. union_out w u v x b d) (subst (λ n. Best (UnionAt n u) Never o) e best)

-- ---- fields that are no unions
abbrev PlainField : ℕ → List Token → List Token → Field → Type 0
PlainField line = Then PlainAt (λ d. Given (field.Plain line d))

plain_in : (w v : List Token) (x : Field) → PlainField (line_at w) w v x → FieldAt w v x
plain_in w v x (then {u = q} {x = e} (then {u = r} {x = d} p (ended b g)) (given f z)) =
    subst (FieldAt w v) (ap (λ s. field.Plain (line_at w) s) g ∙ z) (plain p (subst (λ s. Begins r (word.Sign sign.Semicolon) s) f b))

plain_out : (w v : List Token) (x : Field) → Lacks w (word.Keyword keyword.Union) → FieldAt w v x → PlainField (line_at w) w v x
plain_out w v x lacks (plain p b) = then (then p (ended b refl)) (given refl refl)
plain_out w v x lacks (union i j d e f g k) = absurd (lacks _ i)

pub field_none : (w : List Token) → Lacks w (word.Keyword keyword.Union) → Best (PlainAt w) Never None → Best (FieldAt w) Never None
field_none w lacks best = best_same (plain_in w) (λ v x d. plain_out w v x lacks d) (then_none best)

pub field_some : (w u : List Token) (line : ℕ) (d : Declaration) → line ≡ line_at w → Lacks w (word.Keyword keyword.Union) → Best (PlainAt w) Never (Some (d, u))
    → Best (FieldAt w) Never (Some (field.Plain line d, u))
field_some w u line d e lacks best = subst (λ n. Best (FieldAt w) Never (Some (field.Plain n d, u))) (sym e)
    (best_same (plain_in w) (λ v x d. plain_out w v x lacks d) (mapped (λ z. field.Plain (line_at w) z) best))
