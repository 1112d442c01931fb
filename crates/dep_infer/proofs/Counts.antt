-- A short function has few slots: each parameter and each local has a word of its own.
use Rattle.std.proofs.Common.{ℕ, suc, ◌+◌, ◌≤◌, List, [], ◌∷◌, ◌++◌, length, flat_map, arith, length-append}
use Rattle.c_tree.specs.declared.items.Function.{Function}
use Rattle.c_tree.specs.declared.items.Local.{Local}
use Rattle.c_tree.specs.declared.items.Param.{Param}
use Rattle.c_tree.specs.declared.words.Word.{Word}
use Rattle.c_tree.specs.declared.signs.Sign.TheVariants as sign
use Rattle.c_tree.specs.Spelling.{type_words, stars_words, a_name, a_sign}
use Rattle.c_tree.specs.StatementSpelling.{statement_words}
use Rattle.c_tree.specs.UnitSpelling.{result_words, static_words, written_void_words, written_statements, params_words, more_params_words, param_words, local_words, head_words, function_words}
use Rattle.c_tree.specs.ShortUnit.{IsShortFunction}

-- a part of a list is no longer than the list
behind : {X : Type 0} (n : ℕ) (xs ys : List X) → n ≤ length ys → n ≤ length (xs ++ ys)
behind n xs ys h = let e = length-append xs ys in omega (arith, e, h)

before : {X : Type 0} (n : ℕ) (xs ys : List X) → n ≤ length xs → n ≤ length (xs ++ ys)
before n xs ys h = let e = length-append xs ys in omega (arith, e, h)

both : {X : Type 0} (m n : ℕ) (xs ys : List X) → m ≤ length xs → n ≤ length ys → m + n ≤ length (xs ++ ys)
both m n xs ys h k = let e = length-append xs ys in omega (arith, e, h, k)

one_more : {X : Type 0} (n : ℕ) (xs ys : List X) → 1 ≤ length xs → n ≤ length ys → suc n ≤ length (xs ++ ys)
one_more n xs ys h k = let e = length-append xs ys in omega (arith, e, h, k)

param_long : (p : Param) → 1 ≤ length (param_words p)
param_long p = behind 1 (type_words p.type_name) (a_name p.name) (omega arith)

more_params_long : (ps : List Param) → length ps ≤ length (more_params_words ps)
more_params_long [] = omega arith
more_params_long (p ∷ ps) = one_more (length ps) (a_sign sign.Comma ++ param_words p) (more_params_words ps) (behind 1 (a_sign sign.Comma) (param_words p) (param_long p)) (more_params_long ps)

params_long : (ps : List Param) → length ps ≤ length (params_words ps)
params_long [] = omega arith
params_long (p ∷ ps) = one_more (length ps) (param_words p) (more_params_words ps) (param_long p) (more_params_long ps)

locals_long : (ls : List Local) → length ls ≤ length (flat_map local_words ls)
locals_long [] = omega arith
locals_long (l ∷ ls) = one_more (length ls) (local_words l) (flat_map local_words ls) (behind 1 (type_words l.type_name) _ (omega arith)) (locals_long ls)

inside : (n : ℕ) (a b c o w ps e : List Word) → n ≤ length ps → n ≤ length (a ++ (b ++ (c ++ (o ++ ((w ++ ps) ++ e)))))
inside n a b c o w ps e h =
    behind n a (b ++ (c ++ (o ++ ((w ++ ps) ++ e)))) (behind n b (c ++ (o ++ ((w ++ ps) ++ e))) (behind n c (o ++ ((w ++ ps) ++ e)) (behind n o ((w ++ ps) ++ e) (before n (w ++ ps) e (behind n w ps h)))))

head_long : (f : Function) → length f.head.params ≤ length (head_words f.head)
head_long f =
    inside (length f.head.params) (result_words f.head.result) (stars_words f.head.stars) (a_name f.head.name) (a_sign sign.ParenOpen) (written_void_words f.head.written_void) (params_words f.head.params)
    (a_sign sign.ParenClose) (params_long f.head.params)

-- the parts of a function's words
in_parts : (m n : ℕ) (start head brace locals rest : List Word) → m ≤ length head → n ≤ length locals → m + n ≤ length ((start ++ head) ++ (brace ++ (locals ++ rest)))
in_parts m n start head brace locals rest h k =
    both m n (start ++ head) (brace ++ (locals ++ rest)) (behind m start head h) (behind n brace (locals ++ rest) (before n locals rest k))

slots_few : (f : Function) → length f.head.params + length f.locals ≤ length (function_words f)
slots_few f =
    in_parts (length f.head.params) (length f.locals) (static_words f.head.is_static) (head_words f.head) (a_sign sign.BraceOpen) (flat_map local_words f.locals)
    (flat_map statement_words (written_statements f.body) ++ a_sign sign.BraceClose) (head_long f) (locals_long f.locals)

pub short_slots : (f : Function) → IsShortFunction f → length f.head.params + length f.locals ≤ 200000
short_slots f h = let few = slots_few f in let words = h.within.words in omega (arith, few, words)
