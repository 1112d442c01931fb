-- What a look at the next words says.
use Rattle.std.specs.Prelude.{List}
use Rattle.c_tree.specs.declared.words.Token.{Token}
use Rattle.c_tree.specs.declared.words.Word.{Word}
use Rattle.c_tree.specs.Reading.{Begins}

-- The words w do not begin with the word k.
abbrev pub Lacks : List Token → Word → Type 0
Lacks w k = (u : List Token) → Begins w k u → ⊥
