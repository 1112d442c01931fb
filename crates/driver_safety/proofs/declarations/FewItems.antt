-- A short text has few items: each has a word at least.
use Rattle.std.proofs.Common.{◌-◌, ◌^◌, ◌<◌, ◌≤◌, List, [], ◌∷◌, ◌++◌, length, flat_map, arith, length-append}
use Rattle.c_tree.specs.declared.items.Item.{Item}
use Rattle.c_tree.specs.declared.items.Item.TheVariants as item
use Rattle.c_tree.specs.declared.items.Unit.{Unit as TextUnit}
use Rattle.c_tree.specs.declared.keywords.Keyword.TheVariants as keyword
use Rattle.c_tree.specs.declared.signs.Sign.TheVariants as sign
use Rattle.c_tree.specs.declared.words.Word.{Word}
use Rattle.c_tree.specs.ShortUnit.{IsShortUnit}
use Rattle.c_tree.specs.Spelling.{a_keyword, a_sign, a_name}
use Rattle.c_tree.specs.StatementSpelling.{statement_words}
use Rattle.c_tree.specs.UnitSpelling.{declaration_words, initial_words, field_words, static_words, head_words, local_words}
use Rattle.c_tree.specs.UnitSpelling.{written_statements, item_words}

in_front : (xs ys : List Word) → 1 ≤ length xs → 1 ≤ length (xs ++ ys)
in_front xs ys some = let both = length-append xs ys in omega (arith, both, some)

behind : (xs ys : List Word) → 1 ≤ length ys → 1 ≤ length (xs ++ ys)
behind xs ys some = let both = length-append xs ys in omega (arith, both, some)

some_word : (i : Item) → 1 ≤ length (item_words i)
some_word (item.Struct s) =
    in_front (a_keyword keyword.Struct) (a_name s.name ++ (a_sign sign.BraceOpen
    ++ (flat_map field_words s.fields ++ (a_sign sign.BraceClose ++ a_sign sign.Semicolon)))) (omega arith)
some_word (item.Global g) =
    behind (static_words g.is_static) (declaration_words g.declaration ++ (initial_words g.value ++ a_sign sign.Semicolon))
    (behind (declaration_words g.declaration) (initial_words g.value ++ a_sign sign.Semicolon)
    (behind (initial_words g.value) (a_sign sign.Semicolon) (omega arith)))
some_word (item.Function f) =
    let body = flat_map local_words f.locals ++ (flat_map statement_words (written_statements f.body) ++ a_sign sign.BraceClose) in
    behind (static_words f.head.is_static ++ head_words f.head) (a_sign sign.BraceOpen ++ body)
    (in_front (a_sign sign.BraceOpen) body (omega arith))
some_word (item.Prototype h) = behind (static_words h.is_static ++ head_words h) (a_sign sign.Semicolon) (omega arith)

a_word_each : (items : List Item) → length items ≤ length (flat_map item_words items)
a_word_each [] = omega arith
a_word_each (i ∷ items) =
    let both = length-append (item_words i) (flat_map item_words items) in
    let first = some_word i in
    let others = a_word_each items in
    omega (arith, both, first, others)

pub few_items : (u : TextUnit) → IsShortUnit u → length u.items < 2 ^ 32 - 1
few_items u short =
    let words = short.within.words in
    let each = a_word_each u.items in
    omega (arith, words, each)
