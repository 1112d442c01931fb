-- A phrase is a span of words, and is one whatever stands after it.
use Rattle.std.proofs.Common.{◌≡◌, ℕ, ◌≤◌, List, [], ◌∷◌, ◌++◌, length, refl, ap, sym, ◌∙◌, subst, append_assoc, length-append, arith}
use Rattle.c_tree.specs.declared.expressions.Expr.{Expr}
use Rattle.c_tree.specs.declared.keywords.Keyword.TheVariants as keyword
use Rattle.c_tree.specs.declared.signs.Sign.{Sign}
use Rattle.c_tree.specs.declared.signs.Sign.TheVariants as sign
use Rattle.c_tree.specs.declared.words.Suffix.TheVariants as suffix
use Rattle.c_tree.specs.declared.types.Addr.{Addr}
use Rattle.c_tree.specs.declared.types.Annotation.{Annotation}
use Rattle.c_tree.specs.declared.types.Base.{Base}
use Rattle.c_tree.specs.declared.types.SignedTerm.{SignedTerm}
use Rattle.c_tree.specs.declared.types.Star.{Star}
use Rattle.c_tree.specs.declared.types.Sum.{Sum}
use Rattle.c_tree.specs.declared.types.Term.{Term}
use Rattle.c_tree.specs.declared.types.TypeName.{TypeName}
use Rattle.c_tree.specs.declared.words.Token.{Token}
use Rattle.c_tree.specs.declared.words.Word.{Word}
use Rattle.c_tree.specs.declared.words.Word.TheVariants as word
use Rattle.c_tree.specs.Operators.{UnaryAt, BinaryAt}
use Rattle.c_tree.specs.Reading.{Begins, Each, each_end, each_more, Enclosed, enclosed}
use Rattle.c_tree.specs.Reading.Front.{front}
use Rattle.c_tree.specs.TypeGrammar as types
use Rattle.c_tree.specs.TypeGrammar.{BaseAt, char, signed_char, unsigned_char, short, unsigned_short, int, long, unsigned, unsigned_int, unsigned_long, structure, TermAt, number, name, product, SignedAt, plus, minus, FirstTermAt, first, negative_first, SumAt, sum, AddrAt, pointer, offset, EndsAt, ends, AnnotationAt, safe, sentinel, nullterm, count, bound, StarAt, annotated, TypeNameAt, type_name, InParens}
use Rattle.c_tree.specs.ExpressionGrammar.{SingleAt, NullAt, null, Row, row, last_row, RowMore, row_end, row_more, UnaryExpr, prefixed, cast, size_of, plain, Postfix, postfix, PostfixMore, postfix_end, field, arrow, index, Primary, single, grouped, null_constant, Closed, closed}

-- the phrase P takes its words, whatever stands after them
pub record Span (P : List Token → List Token → Type 0) (w v : List Token) : Type 0 where
  pub words : List Token
  pub parts : w ≡ words ++ v
  pub anywhere : (r : List Token) → P (words ++ r) r

-- what stands after a phrase is no longer than what it stands in
pub span_shrinks : {P : List Token → List Token → Type 0} {w v : List Token} → Span P w v → length v ≤ length w
span_shrinks {v = v} p = omega (arith, ap length p.parts, length-append p.words v)

-- one phrase for another
as_one : {P R : List Token → List Token → Type 0} {w v : List Token} → ((a b : List Token) → P a b → R a b) → Span P w v → Span R w v
as_one f p = record { words = p.words; parts = p.parts; anywhere = λ r. f (p.words ++ r) r (p.anywhere r) }

-- no words
nothing_there : {P : List Token → List Token → Type 0} {w : List Token} → ((a : List Token) → P a a) → Span P w w
nothing_there f = record { words = []; parts = refl; anywhere = f }

-- two phrases, one after the other
both : {P Q R : List Token → List Token → Type 0} {w u v : List Token} → ((a b c : List Token) → P a b → Q b c → R a c) → Span P w u → Span Q u v → Span R w v
both {P} {Q} {R} {v = v} f p q = record {
  words = p.words ++ q.words;
  parts = p.parts ∙ ap (λ z. p.words ++ z) q.parts ∙ sym (append_assoc p.words q.words v);
  anywhere = λ r. subst (λ z. R z r) (sym (append_assoc p.words q.words r)) (f (p.words ++ (q.words ++ r)) (q.words ++ r) r (p.anywhere (q.words ++ r)) (q.anywhere r));
}

-- three
abbrev Then : (List Token → List Token → Type 0) → (List Token → List Token → Type 0) → List Token → List Token → Type 0
Then P Q a c = (b : List Token) × P a b × Q b c

three : {P Q S R : List Token → List Token → Type 0} {w u r v : List Token} → ((a b c d : List Token) → P a b → Q b c → S c d → R a d) → Span P w u → Span Q u r → Span S r v
    → Span R w v
three {P} {Q} {S} {R} f p q s = both {P = P} {Q = Then Q S} {R = R} (λ a b d x y. f a b y.0 d x y.1 y.2) p (both {P = Q} {Q = S} {R = Then Q S} (λ b c d y z. (c, y, z)) q s)

-- ---- one word
begins_span : (w v : List Token) (k : Word) → Begins w k v → Span (λ a b. Begins a k b) w v
begins_span [] v k b = cc
begins_span (t ∷ w) v k b = let is : t.word ≡ k = cc in let same : w ≡ v = cc in record {
  words = t ∷ [];
  parts = ap (λ z. t ∷ z) same;
  anywhere = λ r. ap (λ z. front z r) is;
}

one : {R : List Token → List Token → Type 0} {w v : List Token} {k : Word} → ((a b : List Token) → Begins a k b → R a b) → Begins w k v → Span R w v
one {w = w} {v = v} {k = k} f b = as_one f (begins_span w v k b)

two : {R : List Token → List Token → Type 0} {w u v : List Token} {k j : Word} → ((a b c : List Token) → Begins a k b → Begins b j c → R a c) → Begins w k u → Begins u j v → Span R w v
two {w = w} {u = u} {v = v} {k = k} {j = j} f b c = both f (begins_span w u k b) (begins_span u v j c)

-- ---- type names
pub base_span : {w v : List Token} {x : Base} → BaseAt w v x → Span (λ a b. BaseAt a b x) w v
base_span (char b) = one (λ _ _ p. char p) b
base_span (signed_char b c) = two (λ _ _ _ p q. signed_char p q) b c
base_span (unsigned_char b c) = two (λ _ _ _ p q. unsigned_char p q) b c
base_span (short b) = one (λ _ _ p. short p) b
base_span (unsigned_short b c) = two (λ _ _ _ p q. unsigned_short p q) b c
base_span (int b) = one (λ _ _ p. int p) b
base_span (long b) = one (λ _ _ p. long p) b
base_span (unsigned b) = one (λ _ _ p. unsigned p) b
base_span (unsigned_int b c) = two (λ _ _ _ p q. unsigned_int p q) b c
base_span (unsigned_long b c) = two (λ _ _ _ p q. unsigned_long p q) b c
base_span (structure b c) = two (λ _ _ _ p q. structure p q) b c

word_span : {w v : List Token} {k : Word} → Begins w k v → Span (λ a b. Begins a k b) w v
word_span {w} {v} {k} b = begins_span w v k b

pub term_span : {w v : List Token} {x : Term} → TermAt w v x → Span (λ a b. TermAt a b x) w v
term_span (number b) = one (λ _ _ p. number p) b
term_span (name b) = one (λ _ _ p. name p) b
term_span (product b c d) = three (λ _ _ _ _ p q r. product p q r) (word_span b) (word_span c) (word_span d)

pub signed_span : {w v : List Token} {x : SignedTerm} → SignedAt w v x → Span (λ a b. SignedAt a b x) w v
signed_span (plus b d) = both (λ _ _ _ p q. plus p q) (word_span b) (term_span d)
signed_span (minus b d) = both (λ _ _ _ p q. minus p q) (word_span b) (term_span d)

pub first_span : {w v : List Token} {x : SignedTerm} → FirstTermAt w v x → Span (λ a b. FirstTermAt a b x) w v
first_span (first d) = as_one (λ _ _ p. first p) (term_span d)
first_span (negative_first b d) = both (λ _ _ _ p q. negative_first p q) (word_span b) (term_span d)

module _ {X : Type 0} (R : List Token → List Token → X → Type 0) (spans : (w v : List Token) (x : X) → R w v x → Span (λ a b. R a b x) w v) where
  pub each_span : {w v : List Token} {xs : List X} → Each R w v xs → Span (λ a b. Each R a b xs) w v
  each_span each_end = nothing_there (λ a. each_end)
  each_span (each_more {w = w} {u = u} {x = x} r d) = both (λ _ _ _ p q. each_more p q) (spans w u x r) (each_span d)

  pub enclosed_span : {w v : List Token} {x : X} → Enclosed R w v x → Span (λ a b. Enclosed R a b x) w v
  enclosed_span (enclosed {u = u} {r = r} {x = x} b d c) = three (λ _ _ _ _ p q s. enclosed p q s) (word_span b) (spans u r x d) (word_span c)

pub sum_span : {w v : List Token} {x : Sum} → SumAt w v x → Span (λ a b. SumAt a b x) w v
sum_span (sum d e) = both (λ _ _ _ p q. sum p q) (first_span d) (each_span SignedAt (λ w v x s. signed_span s) e)

pub addr_span : {w v : List Token} {x : Addr} → AddrAt w v x → Span (λ a b. AddrAt a b x) w v
addr_span (pointer b) = one (λ _ _ p. pointer p) b
addr_span (offset b d) = both (λ _ _ _ p q. offset p q) (word_span b) (signed_span d)

pub ends_span : {w v : List Token} {x : Addr × Addr} → EndsAt w v x → Span (λ a b. EndsAt a b x) w v
ends_span (ends d b e) = three (λ _ _ _ _ p q r. ends p q r) (addr_span d) (word_span b) (addr_span e)

pub annotation_span : {w v : List Token} {x : Annotation} → AnnotationAt w v x → Span (λ a b. AnnotationAt a b x) w v
annotation_span (safe b) = one (λ _ _ p. safe p) b
annotation_span (sentinel b) = one (λ _ _ p. sentinel p) b
annotation_span (nullterm b) = one (λ _ _ p. nullterm p) b
annotation_span (count b d) = both (λ _ _ _ p q. count p q) (word_span b) (enclosed_span SumAt (λ w v x s. sum_span s) d)
annotation_span (bound b d) = both (λ _ _ _ p q. bound p q) (word_span b) (enclosed_span {X = Addr × Addr} EndsAt (λ w v x s. ends_span s) d)

pub star_span : {w v : List Token} {x : Star} → StarAt w v x → Span (λ a b. StarAt a b x) w v
star_span (types.plain b) = one (λ _ _ p. types.plain p) b
star_span (annotated b d) = both (λ _ _ _ p q. annotated p q) (word_span b) (annotation_span d)

pub type_span : {w v : List Token} {x : TypeName} → TypeNameAt w v x → Span (λ a b. TypeNameAt a b x) w v
type_span (type_name d e) = both (λ _ _ _ p q. type_name p q) (base_span d) (each_span StarAt (λ w v x s. star_span s) e)

pub parens_span : {w v : List Token} {x : TypeName} → InParens w v x → Span (λ a b. InParens a b x) w v
parens_span d = enclosed_span TypeNameAt (λ w v x s. type_span s) d

-- ---- expressions
unary_operator_span : {w v : List Token} {o : _} → UnaryAt w o v → Span (λ a b. UnaryAt a o b) w v
unary_operator_span d = one (λ _ _ p. record { sign = d.sign; begins = p; means = d.means }) d.begins

binary_operator_span : {w v : List Token} {o : _} → BinaryAt w o v → Span (λ a b. BinaryAt a o b) w v
binary_operator_span d = one (λ _ _ p. record { sign = d.sign; begins = p; means = d.means }) d.begins

pub single_span : {w v : List Token} {x : Expr} → SingleAt w v x → Span (λ a b. SingleAt a b x) w v
single_span d = one (λ _ _ p. record { word = d.word; begins = p; means = d.means }) d.begins

-- the words of a null constant from its closing parenthesis, its star and its `void` on
abbrev FromClose : List Token → List Token → Type 0
FromClose a c = (b : List Token) × Begins a (word.Sign sign.ParenClose) b × Begins b (word.Number 0 suffix.Plain) c

abbrev FromStar : List Token → List Token → Type 0
FromStar a c = (b : List Token) × Begins a (word.Sign sign.Star) b × FromClose b c

abbrev FromVoid : List Token → List Token → Type 0
FromVoid a c = (b : List Token) × Begins a (word.Keyword keyword.Void) b × FromStar b c

pub null_span : {w v : List Token} → NullAt w v → Span NullAt w v
null_span (null {a = a} {b = b} {c = c} {d = d} {v = v} p q r s z) =
    both {Q = FromVoid} {R = NullAt} (λ _ _ _ k f. null k f.1 f.2.1 f.2.2.1 f.2.2.2) (word_span p)
    (both {Q = FromStar} {R = FromVoid} (λ _ y _ k f. (y, k, f)) (word_span q)
    (both {Q = FromClose} {R = FromStar} (λ _ y _ k f. (y, k, f)) (word_span r) (two {R = FromClose} (λ _ y _ k f. (y, k, f)) s z)))

mutual
  pub row_span : {l : ℕ} {w v : List Token} {x : Expr} → Row l w v x → Span (λ a b. Row l a b x) w v
  row_span (row lt d m) = both (λ _ _ _ p q. row lt p q) (row_span d) (more_span m)
  row_span (last_row e d) = as_one (λ _ _ p. last_row e p) (unary_span d)

  pub more_span : {l : ℕ} {w v : List Token} {x y : Expr} → RowMore l x w v y → Span (λ a b. RowMore l x a b y) w v
  more_span row_end = nothing_there (λ a. row_end)
  more_span (row_more b e d m) = three (λ _ _ _ _ p q r. row_more p e q r) (binary_operator_span b) (row_span d) (more_span m)

  pub unary_span : {w v : List Token} {x : Expr} → UnaryExpr w v x → Span (λ a b. UnaryExpr a b x) w v
  unary_span (prefixed b d) = both (λ _ _ _ p q. prefixed p q) (unary_operator_span b) (unary_span d)
  unary_span (cast i d) = both (λ _ _ _ p q. cast p q) (parens_span i) (unary_span d)
  unary_span (size_of b i) = both (λ _ _ _ p q. size_of p q) (word_span b) (parens_span i)
  unary_span (plain d) = as_one (λ _ _ p. plain p) (postfix_span d)

  pub postfix_span : {w v : List Token} {x : Expr} → Postfix w v x → Span (λ a b. Postfix a b x) w v
  postfix_span (postfix d m) = both (λ _ _ _ p q. postfix p q) (primary_span d) (postfixes_span m)

  pub postfixes_span : {w v : List Token} {x y : Expr} → PostfixMore x w v y → Span (λ a b. PostfixMore x a b y) w v
  postfixes_span postfix_end = nothing_there (λ a. postfix_end)
  postfixes_span (field b c m) = three (λ _ _ _ _ p q r. field p q r) (word_span b) (word_span c) (postfixes_span m)
  postfixes_span (arrow b c m) = three (λ _ _ _ _ p q r. arrow p q r) (word_span b) (word_span c) (postfixes_span m)
  postfixes_span (index b d m) = three (λ _ _ _ _ p q r. index p q r) (word_span b) (closed_span d) (postfixes_span m)

  pub primary_span : {w v : List Token} {x : Expr} → Primary w v x → Span (λ a b. Primary a b x) w v
  primary_span (single d) = as_one (λ _ _ p. single p) (single_span d)
  primary_span (grouped b d) = both (λ _ _ _ p q. grouped p q) (word_span b) (closed_span d)
  primary_span (null_constant d) = as_one (λ _ _ p. null_constant p) (null_span d)

  pub closed_span : {s : Sign} {w v : List Token} {x : Expr} → Closed s w v x → Span (λ a b. Closed s a b x) w v
  closed_span (closed d b) = both (λ _ _ _ p q. closed p q) (row_span d) (word_span b)
