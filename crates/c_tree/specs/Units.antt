-- Whole texts: the items that words spell, and the first place at which no item begins.
use Rattle.std.specs.Prelude.{◌≡◌, ℕ, List, []}
use Rattle.c_tree.specs.declared.items.Item.{Item}
use Rattle.c_tree.specs.declared.items.Unit.{Unit}
use Rattle.c_tree.specs.declared.words.Token.{Token}
use Rattle.c_tree.specs.Bytes.{Text}
use Rattle.c_tree.specs.Division.{IsDivision}
use Rattle.c_tree.specs.ItemGrammar.{ItemAt}
use Rattle.c_tree.specs.Reading.{Each, line_at}

-- The words, all of them, are the items of this unit, one after the other.
abbrev pub IsUnit : List Token → Unit → Type 0
IsUnit w u = Each ItemAt w [] u.items

-- Behind some items words are left, no item begins with them, and the first of them stands on line n.
pub record HasNoItem (w : List Token) (n : ℕ) : Type 0 where
  pub before : List Item
  pub rest : List Token
  pub reads : Each ItemAt w rest before
  pub some : rest ≡ [] → ⊥
  pub no_item : (v : List Token) (x : Item) → ItemAt rest v x → ⊥
  pub line : line_at rest ≡ n

-- A text is read as this unit: it divides into gaps and words within the limits, and its words are the unit.
pub record Reads (t : Text) (u : Unit) : Type 0 where
  pub words : List Token
  pub divides : IsDivision t words
  pub spells : IsUnit words u
