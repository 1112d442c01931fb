-- Whole phrases of a text never leave fewer brackets open than stood open before them (`Keeps`): types, expressions, statements,
-- declarations of locals.
use Rattle.std.proofs.Common.{◌≡◌, ℕ, ◌+◌, ◌-◌, ◌≤◌, List, [], ◌∷◌, ◌++◌, fold, flat_map, Bool, true, false, cond, Option, Some, None, refl, ap, sym, ◌∙◌, subst, arith}
use Rattle.std.proofs.lemmas.List.Sums.{fold-append}
use Rattle.c_tree.specs.declared.expressions.Binary.{Binary}
use Rattle.c_tree.specs.declared.expressions.Binary.TheVariants as binary
use Rattle.c_tree.specs.declared.expressions.Expr.{Expr, roll-Expr}
use Rattle.c_tree.specs.declared.expressions.Expr.TheOpen.{Expr-F}
use Rattle.c_tree.specs.declared.expressions.Expr.TheFolds.{map-Expr, fold-roll-Expr, ind-Expr}
use Rattle.c_tree.specs.declared.expressions.Unary.{Unary}
use Rattle.c_tree.specs.declared.expressions.Unary.TheVariants as unary
use Rattle.c_tree.specs.declared.items.Local.{Local}
use Rattle.c_tree.specs.declared.keywords.Keyword.{Keyword}
use Rattle.c_tree.specs.declared.signs.Sign.{Sign}
use Rattle.c_tree.specs.declared.signs.Sign.TheVariants as sign
use Rattle.c_tree.specs.declared.statements.Action.{Action}
use Rattle.c_tree.specs.declared.statements.Action.TheVariants as action
use Rattle.c_tree.specs.declared.types.Addr.{Addr}
use Rattle.c_tree.specs.declared.types.Annotation.{Annotation}
use Rattle.c_tree.specs.declared.types.Annotation.TheVariants as annotation
use Rattle.c_tree.specs.declared.types.Base.{Base}
use Rattle.c_tree.specs.declared.types.Base.TheVariants as base
use Rattle.c_tree.specs.declared.types.Number.{Number}
use Rattle.c_tree.specs.declared.types.SignedTerm.{SignedTerm}
use Rattle.c_tree.specs.declared.types.Star.{Star}
use Rattle.c_tree.specs.declared.types.Term.{Term}
use Rattle.c_tree.specs.declared.types.Term.TheVariants as term
use Rattle.c_tree.specs.declared.types.TypeName.{TypeName}
use Rattle.c_tree.specs.declared.words.Word.{Word}
use Rattle.c_tree.specs.declared.words.Word.TheVariants as word
use Rattle.c_tree.specs.Limits.{is_sign, is_opening, is_closing, nesting_after}
use Rattle.c_tree.specs.Spelling.{a_sign, a_keyword, a_name, a_number, unary_sign, binary_sign, base_words, term_words, signed_words, first_words, terms_words, sum_words, offset_words, addr_words, in_parentheses, annotation_words, noted_words, stars_words, type_words, expression_words, spelled}
use Rattle.c_tree.specs.StatementSpelling.{more_arguments_words, arguments_words, target_words, value_words, action_words}
use Rattle.c_tree.specs.UnitSpelling.{local_words}

-- the brackets open behind these words, where so many were open before
abbrev pub opens : ℕ → List Word → ℕ
opens n ks = fold (λ o k. nesting_after o k) n ks

pub record Keeps (ks : List Word) : Type 0 where
  pub run : (n : ℕ) → n ≤ opens n ks

pub opens_both : (n : ℕ) (a b : List Word) → opens n (a ++ b) ≡ opens (opens n a) b
opens_both n a b = fold-append (λ o k. nesting_after o k) n a b

-- fewer open brackets before give fewer behind
fewer_after : (o c : Bool) (n m : ℕ) → n ≤ m → cond o (n + 1) (cond c (n - 1) n) ≤ cond o (m + 1) (cond c (m - 1) m)
fewer_after true c n m h = omega arith
fewer_after false true n m h = omega arith
fewer_after false false n m h = h

open_mono : (n m : ℕ) (ks : List Word) → n ≤ m → opens n ks ≤ opens m ks
open_mono n m [] h = h
open_mono n m (k ∷ ks) h =
    open_mono (nesting_after n k) (nesting_after m k) ks (fewer_after (is_sign is_opening k) (is_sign is_closing k) n m h)

pub open_append : (a b : List Word) → opens 0 b ≤ opens 0 (a ++ b)
open_append a b = subst (λ n. opens 0 b ≤ n) (sym (opens_both 0 a b)) (open_mono 0 (opens 0 a) b (omega arith))

pub keeps_nil : Keeps []
keeps_nil = record { run = λ n. omega arith }

pub keeps_both : (a b : List Word) → Keeps a → Keeps b → Keeps (a ++ b)
keeps_both a b x y = record {
  run = λ n. let first = x.run n in let second = y.run (opens n a) in
      let both : n ≤ opens (opens n a) b = omega arith in subst (λ m. n ≤ m) (sym (opens_both n a b)) both;
}

not_fewer : (o : Bool) (n : ℕ) → n ≤ cond o (n + 1) n
not_fewer true n = omega arith
not_fewer false n = omega arith

-- one word that closes nothing
pub keeps_word : (k : Word) → is_sign is_closing k ≡ false → Keeps (k ∷ [])
keeps_word k stays = record
    { run = λ n. subst (λ c. n ≤ cond (is_sign is_opening k) (n + 1) (cond c (n - 1) n)) (sym stays) (not_fewer (is_sign is_opening k) n) }

-- words between two brackets
module _ (o c : Sign) (opening : is_opening o ≡ true) (other : is_opening c ≡ false) (closing : is_closing c ≡ true) where
  more : (n : ℕ) → nesting_after n (word.Sign o) ≡ n + 1
  more n = ap (λ b. cond b (n + 1) (cond (is_closing o) (n - 1) n)) opening

  fewer : (n : ℕ) → nesting_after n (word.Sign c) ≡ n - 1
  fewer n = ap (λ b. cond b (n + 1) (cond (is_closing c) (n - 1) n)) other ∙ ap (λ b. cond b (n - 1) n) closing

  pub keeps_between : (ks : List Word) → Keeps ks → Keeps (a_sign o ++ (ks ++ a_sign c))
  keeps_between ks x = record {
    run = λ n. let up = more n in let inside = x.run (n + 1) in let down = fewer (opens (n + 1) ks) in
        let least : n ≤ opens (n + 1) ks - 1 = omega arith in
        let closed : opens (n + 1) (ks ++ a_sign c) ≡ opens (n + 1) ks - 1 = opens_both (n + 1) ks (a_sign c) ∙ down in
        subst (λ m. n ≤ opens m (ks ++ a_sign c)) (sym up) (subst (λ m. n ≤ m) (sym closed) least);
  }

pub keeps_parentheses : (ks : List Word) → Keeps ks → Keeps (in_parentheses ks)
keeps_parentheses ks x = keeps_between sign.ParenOpen sign.ParenClose refl refl refl ks x

-- ---- types
keeps_name : (n : List ℕ) → Keeps (a_name n)
keeps_name n = keeps_word (word.Name n) refl

pub keeps_keyword : (k : Keyword) → Keeps (a_keyword k)
keeps_keyword k = keeps_word (word.Keyword k) refl

keeps_number : (n : Number) → Keeps (a_number n)
keeps_number n = keeps_word (word.Number n.value n.suffix) refl

keeps_sign : (s : Sign) → is_closing s ≡ false → Keeps (a_sign s)
keeps_sign s h = keeps_word (word.Sign s) h

two_keywords : (j k : Keyword) → Keeps (a_keyword j ++ a_keyword k)
two_keywords j k = keeps_both (a_keyword j) (a_keyword k) (keeps_keyword j) (keeps_keyword k)

keeps_base : (b : Base) → Keeps (base_words b)
keeps_base base.Char = keeps_keyword _
keeps_base base.SignedChar = two_keywords _ _
keeps_base base.UnsignedChar = two_keywords _ _
keeps_base base.Short = keeps_keyword _
keeps_base base.UnsignedShort = two_keywords _ _
keeps_base base.Int = keeps_keyword _
keeps_base base.Long = keeps_keyword _
keeps_base base.Unsigned = keeps_keyword _
keeps_base base.UnsignedInt = two_keywords _ _
keeps_base base.UnsignedLong = two_keywords _ _
keeps_base (base.Struct n) = keeps_both (a_keyword _) (a_name n) (keeps_keyword _) (keeps_name n)

keeps_term : (t : Term) → Keeps (term_words t)
keeps_term (term.Number n) = keeps_number n
keeps_term (term.Name n) = keeps_name n
keeps_term (term.Product n m) =
    keeps_both (a_number n) (a_sign sign.Star ++ a_name m) (keeps_number n)
    (keeps_both (a_sign sign.Star) (a_name m) (keeps_sign sign.Star refl) (keeps_name m))

keeps_if : (b : Bool) (x y : List Word) → Keeps x → Keeps y → Keeps (cond b x y)
keeps_if true x y p q = p
keeps_if false x y p q = q

keeps_signed : (t : SignedTerm) → Keeps (signed_words t)
keeps_signed t = keeps_if t.negative _ _
    (keeps_both (a_sign sign.Minus) (term_words t.term) (keeps_sign sign.Minus refl) (keeps_term t.term))
    (keeps_both (a_sign sign.Plus) (term_words t.term) (keeps_sign sign.Plus refl) (keeps_term t.term))

keeps_first : (t : SignedTerm) → Keeps (first_words t)
keeps_first t = keeps_if t.negative _ _
    (keeps_both (a_sign sign.Minus) (term_words t.term) (keeps_sign sign.Minus refl) (keeps_term t.term)) (keeps_term t.term)

keeps_terms : (ts : List SignedTerm) → Keeps (terms_words ts)
keeps_terms [] = keeps_nil
keeps_terms (t ∷ ts) = keeps_both (signed_words t) (terms_words ts) (keeps_signed t) (keeps_terms ts)

keeps_sum : (ts : List SignedTerm) → Keeps (sum_words ts)
keeps_sum [] = keeps_nil
keeps_sum (t ∷ ts) = keeps_both (first_words t) (terms_words ts) (keeps_first t) (keeps_terms ts)

keeps_offset : (t : Option SignedTerm) → Keeps (offset_words t)
keeps_offset None = keeps_nil
keeps_offset (Some t) = keeps_signed t

keeps_addr : (a : Addr) → Keeps (addr_words a)
keeps_addr a = keeps_both (a_name a.pointer) (offset_words a.offset) (keeps_name a.pointer) (keeps_offset a.offset)

keeps_annotation : (a : Annotation) → Keeps (annotation_words a)
keeps_annotation annotation.Safe = keeps_keyword _
keeps_annotation annotation.Sentinel = keeps_keyword _
keeps_annotation annotation.Nullterm = keeps_keyword _
keeps_annotation (annotation.Count n) =
    keeps_both (a_keyword _) (in_parentheses (sum_words n.terms)) (keeps_keyword _)
    (keeps_parentheses (sum_words n.terms) (keeps_sum n.terms))
keeps_annotation (annotation.Bound lo hi) =
    let ends = keeps_both (addr_words lo) (a_sign sign.Comma ++ addr_words hi) (keeps_addr lo)
    (keeps_both (a_sign sign.Comma) (addr_words hi) (keeps_sign sign.Comma refl) (keeps_addr hi)) in
    keeps_both (a_keyword _) (in_parentheses (addr_words lo ++ (a_sign sign.Comma ++ addr_words hi))) (keeps_keyword _)
    (keeps_parentheses _ ends)

keeps_noted : (a : Option Annotation) → Keeps (noted_words a)
keeps_noted None = keeps_nil
keeps_noted (Some a) = keeps_annotation a

keeps_stars : (ss : List Star) → Keeps (stars_words ss)
keeps_stars [] = keeps_nil
keeps_stars (s ∷ ss) =
    keeps_both (a_sign sign.Star ++ noted_words s.annotation) (stars_words ss)
    (keeps_both (a_sign sign.Star) (noted_words s.annotation) (keeps_sign sign.Star refl) (keeps_noted s.annotation)) (keeps_stars ss)

keeps_type : (t : TypeName) → Keeps (type_words t)
keeps_type t = keeps_both (base_words t.base) (stars_words t.stars) (keeps_base t.base) (keeps_stars t.stars)

-- ---- expressions
keeps_unary : (o : Unary) → is_closing (unary_sign o) ≡ false
keeps_unary unary.Minus = refl
keeps_unary unary.Complement = refl
keeps_unary unary.Not = refl
keeps_unary unary.Plus = refl
keeps_unary unary.Dereference = refl
keeps_unary unary.Address = refl

keeps_binary : (o : Binary) → is_closing (binary_sign o) ≡ false
keeps_binary binary.LogicalOr = refl
keeps_binary binary.LogicalAnd = refl
keeps_binary binary.BitOr = refl
keeps_binary binary.BitXor = refl
keeps_binary binary.BitAnd = refl
keeps_binary binary.Equal = refl
keeps_binary binary.NotEqual = refl
keeps_binary binary.Less = refl
keeps_binary binary.Greater = refl
keeps_binary binary.LessEqual = refl
keeps_binary binary.GreaterEqual = refl
keeps_binary binary.ShiftLeft = refl
keeps_binary binary.ShiftRight = refl
keeps_binary binary.Add = refl
keeps_binary binary.Subtract = refl
keeps_binary binary.Multiply = refl
keeps_binary binary.Divide = refl
keeps_binary binary.Remainder = refl

-- the words of a form keep brackets, where those of its parts do
abbrev Kept : Type 0
Kept = (ks : List Word) × Keeps ks

form_keeps : (x : Expr-F Kept) → Keeps (expression_words (map-Expr Kept (List Word) (λ k. k.0) x))
form_keeps (Expr-F.Number n) = keeps_number n
form_keeps (Expr-F.Character c) = keeps_word (word.Character c) refl
form_keeps (Expr-F.String s k) = keeps_word (word.String s k) refl
form_keeps (Expr-F.Name n) = keeps_name n
form_keeps (Expr-F.Grouped x) = keeps_parentheses x.0 x.1
form_keeps Expr-F.Null = record { run = λ n. omega arith }
form_keeps (Expr-F.Unary o x) = keeps_both (a_sign (unary_sign o)) x.0 (keeps_sign (unary_sign o) (keeps_unary o)) x.1
form_keeps (Expr-F.Binary o x y) =
    keeps_both x.0 (a_sign (binary_sign o) ++ y.0) x.1
    (keeps_both (a_sign (binary_sign o)) y.0 (keeps_sign (binary_sign o) (keeps_binary o)) y.1)
form_keeps (Expr-F.Cast t x) = keeps_both (in_parentheses (type_words t)) x.0 (keeps_parentheses (type_words t) (keeps_type t)) x.1
form_keeps (Expr-F.Sizeof t) =
    keeps_both (a_keyword _) (in_parentheses (type_words t)) (keeps_keyword _) (keeps_parentheses (type_words t) (keeps_type t))
form_keeps (Expr-F.Field x n) =
    keeps_both x.0 (a_sign sign.Dot ++ a_name n) x.1 (keeps_both (a_sign sign.Dot) (a_name n) (keeps_sign sign.Dot refl) (keeps_name n))
form_keeps (Expr-F.Arrow x n) =
    keeps_both x.0 (a_sign sign.Arrow ++ a_name n) x.1
    (keeps_both (a_sign sign.Arrow) (a_name n) (keeps_sign sign.Arrow refl) (keeps_name n))
form_keeps (Expr-F.Index x y) =
    keeps_both x.0 (a_sign sign.BracketOpen ++ (y.0 ++ a_sign sign.BracketClose)) x.1
    (keeps_between sign.BracketOpen sign.BracketClose refl refl refl y.0 y.1)

abbrev KeptExpr : Type 0
KeptExpr = (x : Expr) × Keeps (spelled x)

expr_level : (z : Expr-F KeptExpr) → Keeps (spelled (roll-Expr (map-Expr KeptExpr Expr (λ k. k.0) z)))
expr_level z =
    subst Keeps (sym (fold-roll-Expr (List Word) expression_words (map-Expr KeptExpr Expr (λ k. k.0) z))) (same z)
  where
    same : (z : Expr-F KeptExpr) → Keeps (expression_words (map-Expr Expr (List Word) spelled (map-Expr KeptExpr Expr (λ k. k.0) z)))
    same (Expr-F.Number n) = form_keeps (Expr-F.Number n)
    same (Expr-F.Character c) = form_keeps (Expr-F.Character c)
    same (Expr-F.String s k) = form_keeps (Expr-F.String s k)
    same (Expr-F.Name n) = form_keeps (Expr-F.Name n)
    same (Expr-F.Grouped x) = form_keeps (Expr-F.Grouped (spelled x.0, x.1))
    same Expr-F.Null = form_keeps Expr-F.Null
    same (Expr-F.Unary o x) = form_keeps (Expr-F.Unary o (spelled x.0, x.1))
    same (Expr-F.Binary o x y) = form_keeps (Expr-F.Binary o (spelled x.0, x.1) (spelled y.0, y.1))
    same (Expr-F.Cast t x) = form_keeps (Expr-F.Cast t (spelled x.0, x.1))
    same (Expr-F.Sizeof t) = form_keeps (Expr-F.Sizeof t)
    same (Expr-F.Field x n) = form_keeps (Expr-F.Field (spelled x.0, x.1) n)
    same (Expr-F.Arrow x n) = form_keeps (Expr-F.Arrow (spelled x.0, x.1) n)
    same (Expr-F.Index x y) = form_keeps (Expr-F.Index (spelled x.0, x.1) (spelled y.0, y.1))

pub keeps_expr : (x : Expr) → Keeps (spelled x)
keeps_expr = ind-Expr (λ x. Keeps (spelled x)) (λ z x e. subst (λ l. Keeps (spelled (roll-Expr l))) e (expr_level x))

-- ---- simple statements, and declarations of locals
keeps_semicolon : Keeps (a_sign sign.Semicolon)
keeps_semicolon = keeps_sign sign.Semicolon refl

keeps_more_arguments : (xs : List Expr) → Keeps (more_arguments_words xs)
keeps_more_arguments [] = keeps_nil
keeps_more_arguments (x ∷ xs) =
    keeps_both (a_sign sign.Comma) (spelled x ++ more_arguments_words xs) (keeps_sign sign.Comma refl)
    (keeps_both (spelled x) (more_arguments_words xs) (keeps_expr x) (keeps_more_arguments xs))

keeps_arguments : (xs : List Expr) → Keeps (arguments_words xs)
keeps_arguments [] = keeps_nil
keeps_arguments (x ∷ xs) = keeps_both (spelled x) (more_arguments_words xs) (keeps_expr x) (keeps_more_arguments xs)

keeps_target : (t : Option (List ℕ)) → Keeps (target_words t)
keeps_target None = keeps_nil
keeps_target (Some n) = keeps_both (a_name n) (a_sign sign.Assign) (keeps_name n) (keeps_sign sign.Assign refl)

keeps_value : (x : Option Expr) → Keeps (value_words x)
keeps_value None = keeps_nil
keeps_value (Some x) = keeps_expr x

-- a word, something in parentheses, a semicolon
keeps_called : (k ks : List Word) → Keeps k → Keeps ks → Keeps (k ++ (in_parentheses ks ++ a_sign sign.Semicolon))
keeps_called k ks x y =
    keeps_both k (in_parentheses ks ++ a_sign sign.Semicolon) x
    (keeps_both (in_parentheses ks) (a_sign sign.Semicolon) (keeps_parentheses ks y) keeps_semicolon)

pub keeps_action : (a : Action) → Keeps (action_words a)
keeps_action (action.Assign x y) =
    keeps_both (spelled x) (a_sign sign.Assign ++ (spelled y ++ a_sign sign.Semicolon)) (keeps_expr x)
    (keeps_both (a_sign sign.Assign) (spelled y ++ a_sign sign.Semicolon) (keeps_sign sign.Assign refl)
    (keeps_both (spelled y) (a_sign sign.Semicolon) (keeps_expr y) keeps_semicolon))
keeps_action (action.Call t f xs) =
    keeps_both (target_words t) (a_name f ++ (in_parentheses (arguments_words xs) ++ a_sign sign.Semicolon)) (keeps_target t)
    (keeps_called (a_name f) (arguments_words xs) (keeps_name f) (keeps_arguments xs))
keeps_action (action.Kalloc n t x) =
    let inner = keeps_both (type_words t) (a_sign sign.Comma ++ spelled x) (keeps_type t)
    (keeps_both (a_sign sign.Comma) (spelled x) (keeps_sign sign.Comma refl) (keeps_expr x)) in
    keeps_both (target_words (Some n)) _ (keeps_target (Some n))
    (keeps_called (a_keyword _) (type_words t ++ (a_sign sign.Comma ++ spelled x)) (keeps_keyword _) inner)
keeps_action (action.Kfree x) = keeps_called (a_keyword _) (spelled x) (keeps_keyword _) (keeps_expr x)
keeps_action (action.Zero x) = keeps_called (a_keyword _) (spelled x) (keeps_keyword _) (keeps_expr x)
keeps_action (action.Return x) =
    keeps_both (a_keyword _) (value_words x ++ a_sign sign.Semicolon) (keeps_keyword _)
    (keeps_both (value_words x) (a_sign sign.Semicolon) (keeps_value x) keeps_semicolon)
keeps_action action.Empty = keeps_semicolon

keeps_local : (l : Local) → Keeps (local_words l)
keeps_local l = keeps_both (type_words l.type_name) (a_name l.name ++ a_sign sign.Semicolon) (keeps_type l.type_name)
    (keeps_both (a_name l.name) (a_sign sign.Semicolon) (keeps_name l.name) keeps_semicolon)

-- of each of many parts
pub keeps_each : {X : Type 0} (f : X → List Word) → ((x : X) → Keeps (f x)) → (xs : List X) → Keeps (flat_map f xs)
keeps_each f h [] = keeps_nil
keeps_each f h (x ∷ xs) = keeps_both (f x) (flat_map f xs) (h x) (keeps_each f h xs)

pub keeps_locals : (ls : List Local) → Keeps (flat_map local_words ls)
keeps_locals ls = keeps_each local_words keeps_local ls
