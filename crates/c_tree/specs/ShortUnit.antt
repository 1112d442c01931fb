-- Short functions and units: those that a driver text within its limits can hold.
use Rattle.std.specs.Prelude.{◌≡◌, ℕ, ◌≤◌, List, [], ◌∷◌, ◌++◌, length, fold, All}
use Rattle.c_tree.specs.declared.items.Function.{Function}
use Rattle.c_tree.specs.declared.items.Item.{Item}
use Rattle.c_tree.specs.declared.items.Item.TheVariants as item
use Rattle.c_tree.specs.declared.items.Unit.{Unit as TextUnit}
use Rattle.c_tree.specs.declared.statements.Stmt.{Stmt}
use Rattle.c_tree.specs.declared.words.Word.{Word}
use Rattle.c_tree.specs.declared.words.Word.TheVariants as word
use Rattle.c_tree.specs.ItemGrammar.{added_return}
use Rattle.c_tree.specs.Limits.{strings_after}
use Rattle.c_tree.specs.Short.{IsWritten, open_behind}
use Rattle.c_tree.specs.UnitSpelling.{function_words, function_pieces, unit_words, unit_pieces}

-- Words and the pieces of them are short where there are at most 200,000 words, each piece has at most 1,000, brackets
-- nest to at most 64, and each word, the numbers, characters and strings among them, can stand in a text.
pub record IsShort (ks : List Word) (parts : List (List Word)) : Type 0 where
  pub words : length ks ≤ 200000
  pub pieces : All (λ piece. length piece ≤ 1000) parts
  pub nesting : (before after : List Word) → ks ≡ before ++ after → open_behind before ≤ 64
  pub written : All IsWritten ks

-- The body of a function ends with the return that the reader adds.
abbrev pub EndsWithReturn : Function → Type 0
EndsWithReturn f = (ss : List Stmt) × (f.body ≡ ss ++ added_return f.head f.end ∷ [])

-- A function is short where its words are, without the added return, with its head, its locals, its simple statements and
-- its conditions, and its body ends with that return. Each whole expression is a part of one of these.
pub record IsShortFunction (f : Function) : Type 0 where
  pub within : IsShort (function_words f) (function_pieces f)
  pub returns : EndsWithReturn f

-- Where an item is a function, its body ends with the return that the reader adds.
abbrev pub ReturnsAtEnd : Item → Type 0
ReturnsAtEnd (item.Function f) = EndsWithReturn f
ReturnsAtEnd _ = Unit {0}

-- The strings of these words.
abbrev pub strings_behind : List Word → ℕ
strings_behind ks = fold (λ n k. strings_after n k) 0 ks

-- Strings are numbered from 0 in the order of the words.
abbrev pub AreNumbered : List Word → Type 0
AreNumbered ks = (before after : List Word) (bytes : List ℕ) (i : ℕ) → ks ≡ before ++ word.String bytes i ∷ after → i ≡ strings_behind before

-- A unit is short where its words are, without the added returns, with its fields that are no unions, its arms, globals,
-- heads, locals, simple statements and conditions; each function's body ends with the added return; and strings are
-- numbered.
pub record IsShortUnit (u : TextUnit) : Type 0 where
  pub within : IsShort (unit_words u) (unit_pieces u)
  pub returns : All ReturnsAtEnd u.items
  pub numbered : AreNumbered (unit_words u)
