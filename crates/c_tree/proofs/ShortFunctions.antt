-- Each statement of a short function is short, the return that is added at its end among them.
use Rattle.std.proofs.Common.{◌≡◌, ℕ, ◌+◌, ◌-◌, ◌≤◌, List, [], ◌∷◌, ◌++◌, length, fold, flat_map, Bool, true, false, cond, Some, None, All, codes, refl, ap, sym, ◌∙◌, subst, arith}
use Rattle.std.proofs.lemmas.List.{length-append}
use Rattle.std.proofs.lemmas.List.Elements.{All-nil, All-cons, All-push}
use Rattle.c_tree.specs.declared.expressions.Expr.{Expr}
use Rattle.c_tree.specs.declared.expressions.Expr.TheOpen.{Expr-F}
use Rattle.c_tree.specs.declared.expressions.Expr.TheFolds.{fold-roll-Expr}
use Rattle.c_tree.specs.declared.expressions.Expr.TheVariants as expr
use Rattle.c_tree.specs.declared.items.Function.{Function}
use Rattle.c_tree.specs.declared.items.Head.{Head}
use Rattle.c_tree.specs.declared.items.ResultBase.{ResultBase}
use Rattle.c_tree.specs.declared.items.ResultBase.TheVariants as result
use Rattle.c_tree.specs.declared.keywords.Keyword.TheVariants as keyword
use Rattle.c_tree.specs.declared.signs.Sign.TheVariants as sign
use Rattle.c_tree.specs.declared.statements.Action.{Action}
use Rattle.c_tree.specs.declared.statements.Action.TheVariants as action
use Rattle.c_tree.specs.declared.statements.Stmt.{Stmt}
use Rattle.c_tree.specs.declared.statements.Stmt.TheVariants as statement
use Rattle.c_tree.specs.declared.types.Number.{Number}
use Rattle.c_tree.specs.declared.types.Star.{Star}
use Rattle.c_tree.specs.declared.words.Suffix.TheVariants as suffix
use Rattle.c_tree.specs.declared.words.Word.{Word}
use Rattle.c_tree.specs.declared.words.Word.TheVariants as word
use Rattle.c_tree.specs.ItemGrammar.{returned, added_return}
use Rattle.c_tree.specs.Limits.{is_sign, is_opening, is_closing, nesting_after}
use Rattle.c_tree.specs.Names.{reserved}
use Rattle.c_tree.specs.Numbers.{octal}
use Rattle.c_tree.specs.Short.{IsWritten}
use Rattle.c_tree.specs.ShortUnit.{IsShort, IsShortFunction}
use Rattle.c_tree.specs.Spelling.{a_sign, a_number, expression_words, spelled}
use Rattle.c_tree.specs.StatementSpelling.{action_words, statement_words, statement_pieces}
use Rattle.c_tree.specs.UnitSpelling.{static_words, head_words, local_words, written_statements}
use Rattle.c_tree.specs.Words.{a_name, a_number as number_word, a_sign as sign_word}
use Rattle.c_tree.proofs.ShortParts.{IsShortStatement, short_as, short_both, short_front, short_back, short_each}
use Rattle.c_tree.proofs.StatementForms.{simple_words, simple_pieces}

-- ---- the words of an added return
return_written : IsWritten (word.Keyword keyword.Return)
unfolding reserved
return_written = (0, codes "return", [], a_name (codes "return") refl refl refl)

zero_written : IsWritten (word.Number 0 suffix.Plain)
zero_written = (
  0,
  codes "0",
  [],
  number_word (codes "0") refl
      (octal refl (record { digits = codes "0"; tail = []; parts = refl; some = omega arith; all = refl; value = refl; suffix = refl }) (omega arith)) refl,
)

semicolon_written : IsWritten (word.Sign sign.Semicolon)
semicolon_written = (0, codes ";", [], sign_word sign.Semicolon refl refl)

-- no more brackets are open than there are words
one_open : (o c : Bool) (n : ℕ) → cond o (n + 1) (cond c (n - 1) n) ≤ n + 1
one_open true c n = omega arith
one_open false true n = omega arith
one_open false false n = omega arith

few_open : (n : ℕ) (ks : List Word) → fold (λ m k. nesting_after m k) n ks ≤ n + length ks
few_open n [] = omega arith
few_open n (k ∷ ks) = let here = one_open (is_sign is_opening k) (is_sign is_closing k) n in let rest = few_open (nesting_after n k) ks in omega arith

few_short : (ks : List Word) → length ks ≤ 64 → All IsWritten ks → IsShort ks (ks ∷ [])
few_short ks h w = record {
  words = omega arith;
  pieces = let few : length ks ≤ 1000 = omega arith in All-cons (λ piece. length piece ≤ 1000) ks [] few (All-nil (λ piece. length piece ≤ 1000));
  nesting = λ before after e. let size : length ks ≡ length (before ++ after) = ap length e in let parts = length-append before after in let deep = few_open 0 before in omega arith;
  written = w;
}

number_spelled : (n : Number) → spelled (expr.Number n) ≡ a_number n
number_spelled n = ap spelled (sym (expr.rolls-Number n)) ∙ fold-roll-Expr (List Word) expression_words (Expr-F.Number n)

simple_is : (n : ℕ) (a : Action) → IsShort (action_words a) (action_words a ∷ []) → IsShortStatement (statement.Simple (record { line = n; action = a }))
simple_is n a s = short_as (sym (simple_words (record { line = n; action = a }))) (sym (simple_pieces (record { line = n; action = a }))) s

nothing_short : (n : ℕ) → IsShortStatement (statement.Simple (record { line = n; action = action.Return None }))
nothing_short n = simple_is n (action.Return None)
    (few_short (word.Keyword keyword.Return ∷ word.Sign sign.Semicolon ∷ []) (omega arith)
    (All-cons IsWritten (word.Keyword keyword.Return) (word.Sign sign.Semicolon ∷ []) return_written (All-cons IsWritten (word.Sign sign.Semicolon) [] semicolon_written (All-nil IsWritten))))

abbrev zero_words : List Word
zero_words = word.Keyword keyword.Return ∷ word.Number 0 suffix.Plain ∷ word.Sign sign.Semicolon ∷ []

zero_short : (n : ℕ) → IsShortStatement (statement.Simple (record { line = n; action = action.Return (Some (expr.Number (record { value = 0; suffix = suffix.Plain }))) }))
zero_short n =
    let z : Expr = expr.Number (record { value = 0; suffix = suffix.Plain }) in
    let same : zero_words ≡ action_words (action.Return (Some z)) = ap (λ ks. word.Keyword keyword.Return ∷ ks ++ a_sign sign.Semicolon) (sym (number_spelled (record { value = 0; suffix = suffix.Plain }))) in
    simple_is n (action.Return (Some z))
    (subst (λ ks. IsShort ks (ks ∷ [])) same
    (few_short zero_words (omega arith)
    (All-cons IsWritten (word.Keyword keyword.Return) (word.Number 0 suffix.Plain ∷ word.Sign sign.Semicolon ∷ []) return_written
    (All-cons IsWritten (word.Number 0 suffix.Plain) (word.Sign sign.Semicolon ∷ []) zero_written (All-cons IsWritten (word.Sign sign.Semicolon) [] semicolon_written (All-nil IsWritten))))))

returned_short : (n : ℕ) (r : ResultBase) (ss : List Star) → IsShortStatement (statement.Simple (record { line = n; action = returned r ss }))
returned_short n result.Void [] = nothing_short n
returned_short n result.Void (s ∷ ss) = zero_short n
returned_short n (result.Base b) ss = zero_short n

pub added_short : (h : Head) (n : ℕ) → IsShortStatement (added_return h n)
added_short h n = returned_short n h.result h.stars

-- ---- the statements of a function
-- all but the return that is added
pub written_of : (ss : List Stmt) (t : Stmt) → written_statements (ss ++ t ∷ []) ≡ ss
written_of [] t = refl
written_of (s ∷ []) t = refl
written_of (s ∷ r ∷ ss) t = ap (λ z. s ∷ z) (written_of (r ∷ ss) t)

written_short : (f : Function) → IsShortFunction f → All IsShortStatement (written_statements f.body)
written_short f s =
    let start = static_words f.head.is_static ++ head_words f.head in
    let ls = flat_map local_words f.locals in
    let ss = flat_map statement_words (written_statements f.body) in
    let lp = flat_map (λ l. local_words l ∷ []) f.locals in
    let sp = flat_map statement_pieces (written_statements f.body) in
    let block = (short_both start (a_sign sign.BraceOpen ++ (ls ++ (ss ++ a_sign sign.BraceClose))) (head_words f.head ∷ []) (lp ++ sp) s.within).1 in
    let inside = (short_front (a_sign sign.BraceOpen) (ls ++ (ss ++ a_sign sign.BraceClose)) (lp ++ sp) block).1 in
    let behind = (short_both ls (ss ++ a_sign sign.BraceClose) lp sp inside).1 in
    short_each statement_words statement_pieces (written_statements f.body) (short_back ss (a_sign sign.BraceClose) sp behind).0

-- each statement of a short function is short
pub statements_short : (f : Function) → IsShortFunction f → All IsShortStatement f.body
statements_short f s =
    let written = s.returns.0 in
    let whole = s.returns.1 in
    let rest = subst (λ z. All IsShortStatement (written_statements z)) whole (written_short f s) in
    let all = All-push IsShortStatement written (added_return f.head f.end) (subst (All IsShortStatement) (written_of written (added_return f.head f.end)) rest) (added_short f.head f.end) in
    subst (All IsShortStatement) (sym whole) all
