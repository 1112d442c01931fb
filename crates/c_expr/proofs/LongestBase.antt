-- `base_of` gives the longest base.
use Rattle.std.proofs.Common.{◌≡◌, List, Option, IfSome, refl, sym, subst, inl, inr}
use Rattle.c_tree.specs.declared.keywords.Keyword.TheVariants as keyword
use Rattle.c_tree.specs.declared.types.Base.{Base}
use Rattle.c_tree.specs.declared.types.Base.TheVariants as base
use Rattle.c_tree.specs.declared.words.Token.{Token}
use Rattle.c_tree.specs.declared.words.Word.TheVariants as word
use Rattle.c_tree.specs.Reading.{Front, front_of, Begins, Best, Within, Covered}
use Rattle.c_tree.specs.Reading.Front.{front}
use Rattle.c_tree.specs.TypeGrammar.{BaseAt, char, signed_char, unsigned_char, short, unsigned_short, int, long, unsigned, unsigned_int, unsigned_long, structure}
use Rattle.c_expr.specs.Classes.{At, is_after_unsigned}
use Rattle.c_expr.specs.TypeReading.{base_of, base_of_front, signed_base_after, unsigned_after, struct_after}
use Rattle.c_expr.proofs.Begins.{begins_shrinks}

signed_sound : (w v : List Token) → Begins w (word.Keyword keyword.Signed) v → (f : Front) → front_of v ≡ f → IfSome (signed_base_after f) (λ a. BaseAt w a.1 a.0)
signed_sound w v b (front (word.Keyword keyword.Char) u) h = signed_char b h
signed_sound w v b _ h = tt

unsigned_sound : (w v : List Token) → Begins w (word.Keyword keyword.Unsigned) v → (f : Front) → front_of v ≡ f → BaseAt w (unsigned_after v f).1 (unsigned_after v f).0
unsigned_sound w v b (front (word.Keyword keyword.Char) u) h = unsigned_char b h
unsigned_sound w v b (front (word.Keyword keyword.Short) u) h = unsigned_short b h
unsigned_sound w v b (front (word.Keyword keyword.Int) u) h = unsigned_int b h
unsigned_sound w v b (front (word.Keyword keyword.Long) u) h = unsigned_long b h
unsigned_sound w v b _ h = unsigned b

struct_sound : (w v : List Token) → Begins w (word.Keyword keyword.Struct) v → (f : Front) → front_of v ≡ f → IfSome (struct_after f) (λ a. BaseAt w a.1 a.0)
struct_sound w v b (front (word.Name n) u) h = structure b h
struct_sound w v b _ h = tt

base_sound : (w : List Token) (f : Front) → front_of w ≡ f → IfSome (base_of_front f) (λ a. BaseAt w a.1 a.0)
base_sound w (front (word.Keyword keyword.Char) v) h = char h
base_sound w (front (word.Keyword keyword.Signed) v) h = signed_sound w v h (front_of v) refl
base_sound w (front (word.Keyword keyword.Unsigned) v) h = unsigned_sound w v h (front_of v) refl
base_sound w (front (word.Keyword keyword.Short) v) h = short h
base_sound w (front (word.Keyword keyword.Int) v) h = int h
base_sound w (front (word.Keyword keyword.Long) v) h = long h
base_sound w (front (word.Keyword keyword.Struct) v) h = struct_sound w v h (front_of v) refl
base_sound w _ h = tt

-- `unsigned` alone, unless a further word of a base stands after it
alone : (v : List Token) (f : Front) → front_of v ≡ f → Within (At is_after_unsigned) v base.Unsigned (unsigned_after v f)
alone v (front (word.Keyword keyword.Char) u) h = inr (begins_shrinks v h, rw h refl)
alone v (front (word.Keyword keyword.Short) u) h = inr (begins_shrinks v h, rw h refl)
alone v (front (word.Keyword keyword.Int) u) h = inr (begins_shrinks v h, rw h refl)
alone v (front (word.Keyword keyword.Long) u) h = inr (begins_shrinks v h, rw h refl)
alone v _ h = inl (refl, refl)

base_covers : (w v : List Token) (x : Base) → BaseAt w v x → Covered (At is_after_unsigned) v x (base_of w)
base_covers w v x (char b) = rw b (inl (refl, refl))
base_covers w v x (signed_char b c) = rw (b, c) (inl (refl, refl))
base_covers w v x (unsigned_char b c) = rw (b, c) (inl (refl, refl))
base_covers w v x (short b) = rw b (inl (refl, refl))
base_covers w v x (unsigned_short b c) = rw (b, c) (inl (refl, refl))
base_covers w v x (int b) = rw b (inl (refl, refl))
base_covers w v x (long b) = rw b (inl (refl, refl))
base_covers w v x (unsigned b) = rw b (alone v (front_of v) refl)
base_covers w v x (unsigned_int b c) = rw (b, c) (inl (refl, refl))
base_covers w v x (unsigned_long b c) = rw (b, c) (inl (refl, refl))
base_covers w v x (structure b c) = rw (b, c) (inl (refl, refl))

pub base_best : (w : List Token) → Best (BaseAt w) (At is_after_unsigned) (base_of w)
base_best w = record { sound = base_sound w (front_of w) refl; covers = base_covers w }

pub base_is : (w : List Token) (o : Option (Base × List Token)) → o ≡ base_of w → Best (BaseAt w) (At is_after_unsigned) o
base_is w o e = subst (Best (BaseAt w) (At is_after_unsigned)) (sym e) (base_best w)
