-- How a simple statement begins: the words that decide which of its forms it has.
use Rattle.std.specs.Prelude.{ℕ, List}
use Rattle.c_tree.specs.declared.keywords.Keyword.TheVariants as keyword
use Rattle.c_tree.specs.declared.signs.Sign.TheVariants as sign
use Rattle.c_tree.specs.declared.words.Token.{Token}
use Rattle.c_tree.specs.declared.words.Word.TheVariants as word
use Rattle.c_tree.specs.Reading.{Front, front_of}
use Rattle.c_tree.specs.Reading.Front.{front}
use Rattle.c_decl.specs.declared.beginnings.Beginning.{Beginning}
use Rattle.c_decl.specs.declared.beginnings.Beginning.TheVariants as beginning

-- The beginning b where `(` stands next; else the words w are a place.
abbrev pub opened : Beginning → List Token → Front → Beginning × List Token
opened b w (front (word.Sign sign.ParenOpen) u) = (b, u)
opened b w _ = (beginning.Place, w)

-- After the name n and `=`.
abbrev pub targeted : List ℕ → List Token → Front → Beginning × List Token
targeted n w (front (word.Name f) u) = opened (beginning.CallTo n f) w (front_of u)
targeted n w (front (word.Keyword keyword.Kalloc) u) = opened (beginning.Kalloc n) w (front_of u)
targeted n w _ = (beginning.Place, w)

-- After the name n, the first of the words w.
abbrev pub named : List ℕ → List Token → Front → Beginning × List Token
named n w (front (word.Sign sign.ParenOpen) u) = (beginning.Call n, u)
named n w (front (word.Sign sign.Assign) u) = targeted n w (front_of u)
named n w _ = (beginning.Place, w)

-- The beginning of the words w, which begin so.
abbrev pub beginning_front : List Token → Front → Beginning × List Token
beginning_front w (front (word.Sign sign.Semicolon) u) = (beginning.Empty, w)
beginning_front w (front (word.Name n) u) = named n w (front_of u)
beginning_front w (front (word.Keyword keyword.Return) u) = (beginning.Return, u)
beginning_front w (front (word.Keyword keyword.Kfree) u) = opened beginning.Kfree w (front_of u)
beginning_front w (front (word.Keyword keyword.Zero) u) = opened beginning.Zero w (front_of u)
beginning_front w _ = (beginning.Place, w)

-- How the words begin as a simple statement, and the words after that. `;` and a place are not taken away.
abbrev pub beginning_of : List Token → Beginning × List Token
beginning_of w = beginning_front w (front_of w)
