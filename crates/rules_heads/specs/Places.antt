-- What a map from names to places keeps: each name with the place of the first item that has a head of this name.
use Rattle.std.specs.Prelude.{◌≡◌, ℕ, List, position}
use Rattle.c_tree.specs.declared.items.Item.{Item}
use Rattle.c_tree.specs.Bytes.{Text}
use Rattle.dep_infer.specs.Found.{found, first_of}
use Rattle.deputy_rules.specs.Heads.{heads_name}

-- each name is found with the first place that it has as a head, and no other is found
abbrev pub FindsHeads : List (Text × ℕ) → List Item → Type 0
FindsHeads entries items = (x : Text) → found entries x ≡ position (heads_name x) items

-- one more item is noted: the place of its head, if it has one, unless the name has a place
abbrev pub NotesHead : List (Text × ℕ) → Item → ℕ → List (Text × ℕ) → Type 0
NotesHead old i place new = (x : Text) → found new x ≡ first_of (found old x) (heads_name x i) place
