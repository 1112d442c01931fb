-- Unions that have arms: so are those of each text, whose grammar asks for an arm.
use Rattle.std.specs.Prelude.{◌<◌, List, [], ◌∷◌, length}
use Rattle.c_tree.specs.declared.items.Field.{Field}
use Rattle.c_tree.specs.declared.items.Field.TheVariants as field
use Rattle.c_tree.specs.declared.items.Item.{Item}
use Rattle.c_tree.specs.declared.items.Item.TheVariants as item
use Rattle.c_tree.specs.declared.items.Unit.{Unit as TextUnit}
use Rattle.c_tree.specs.declared.words.Token.{Token}
use Rattle.c_tree.specs.Units.{IsUnit}

abbrev pub HasArms : Field → Type 0
HasArms (field.Plain line d) = Unit {0}
HasArms (field.Union line arms name) = 0 < length arms

abbrev pub HaveArms : List Field → Type 0
HaveArms [] = Unit {0}
HaveArms (x ∷ xs) = HasArms x × HaveArms xs

abbrev pub ItemHasArms : Item → Type 0
ItemHasArms (item.Struct s) = HaveArms s.fields
ItemHasArms (item.Global g) = Unit {0}
ItemHasArms (item.Function f) = Unit {0}
ItemHasArms (item.Prototype h) = Unit {0}

-- each union of these items has an arm
abbrev pub ItemsHaveArms : List Item → Type 0
ItemsHaveArms [] = Unit {0}
ItemsHaveArms (x ∷ xs) = ItemHasArms x × ItemsHaveArms xs

-- so in each unit that words spell
abbrev pub EachReadUnitHasArms : Type 0
EachReadUnitHasArms = (words : List Token) (u : TextUnit) → IsUnit words u → ItemsHaveArms u.items
