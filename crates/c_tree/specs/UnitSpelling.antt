-- The words of items and of whole texts, in order, without the returns that the reader adds, and the pieces of them that
-- the limits speak of.
use Rattle.std.specs.Prelude.{Bool, true, false, List, [], ◌∷◌, ◌++◌, Option, None, Some, flat_map}
use Rattle.c_tree.specs.declared.items.Arm.{Arm}
use Rattle.c_tree.specs.declared.items.Const.{Const}
use Rattle.c_tree.specs.declared.items.Const.TheVariants as const
use Rattle.c_tree.specs.declared.items.Declaration.{Declaration}
use Rattle.c_tree.specs.declared.items.Field.{Field}
use Rattle.c_tree.specs.declared.items.Field.TheVariants as field
use Rattle.c_tree.specs.declared.items.Function.{Function}
use Rattle.c_tree.specs.declared.items.GlobalItem.{GlobalItem}
use Rattle.c_tree.specs.declared.items.Head.{Head}
use Rattle.c_tree.specs.declared.items.Item.{Item}
use Rattle.c_tree.specs.declared.items.Item.TheVariants as item
use Rattle.c_tree.specs.declared.items.Local.{Local}
use Rattle.c_tree.specs.declared.items.Param.{Param}
use Rattle.c_tree.specs.declared.items.ResultBase.{ResultBase}
use Rattle.c_tree.specs.declared.items.ResultBase.TheVariants as result
use Rattle.c_tree.specs.declared.items.StructItem.{StructItem}
use Rattle.c_tree.specs.declared.items.Unit.{Unit}
use Rattle.c_tree.specs.declared.keywords.Keyword.TheVariants as keyword
use Rattle.c_tree.specs.declared.signs.Sign.TheVariants as sign
use Rattle.c_tree.specs.declared.statements.Stmt.{Stmt}
use Rattle.c_tree.specs.declared.types.Number.{Number}
use Rattle.c_tree.specs.declared.words.Word.{Word}
use Rattle.c_tree.specs.declared.words.Word.TheVariants as word
use Rattle.c_tree.specs.Spelling.{a_sign, a_keyword, a_name, a_number, in_parentheses, base_words, stars_words, type_words}
use Rattle.c_tree.specs.StatementSpelling.{statement_words, statement_pieces}

-- The words of a constant.
abbrev pub const_words : Const → List Word
const_words (const.Number n) = a_number n
const_words (const.Negative n) = a_sign sign.Minus ++ a_number n
const_words (const.Character c) = word.Character c ∷ []

-- The number of an array's elements in brackets, where it is an array.
abbrev pub size_words : Option Number → List Word
size_words None = []
size_words (Some n) = a_sign sign.BracketOpen ++ (a_number n ++ a_sign sign.BracketClose)

-- The words of a declaration, without the `;`.
abbrev pub declaration_words : Declaration → List Word
declaration_words d = type_words d.type_name ++ (a_name d.name ++ size_words d.size)

-- The words of an arm.
abbrev pub arm_words : Arm → List Word
arm_words a = type_words a.type_name ++ (a_name a.name ++ (a_keyword keyword.When
    ++ (in_parentheses (a_name a.tag ++ (a_sign sign.Equal ++ const_words a.value)) ++ a_sign sign.Semicolon)))

-- The words of a field.
abbrev pub field_words : Field → List Word
field_words (field.Plain n d) = declaration_words d ++ a_sign sign.Semicolon
field_words (field.Union n arms name) = a_keyword keyword.Union ++ (a_sign sign.BraceOpen ++ (flat_map arm_words arms ++ (a_sign sign.BraceClose ++ (a_name name ++ a_sign sign.Semicolon))))

-- The words of a struct.
abbrev pub struct_words : StructItem → List Word
struct_words s = a_keyword keyword.Struct ++ (a_name s.name ++ (a_sign sign.BraceOpen ++ (flat_map field_words s.fields ++ (a_sign sign.BraceClose ++ a_sign sign.Semicolon))))

-- `static`, where it is written.
abbrev pub static_words : Bool → List Word
static_words true = a_keyword keyword.Static
static_words false = []

-- `=` and a constant, where there is one.
abbrev pub initial_words : Option Const → List Word
initial_words None = []
initial_words (Some c) = a_sign sign.Assign ++ const_words c

-- The words of a global.
abbrev pub global_words : GlobalItem → List Word
global_words g = static_words g.is_static ++ (declaration_words g.declaration ++ (initial_words g.value ++ a_sign sign.Semicolon))

-- The words of what a result begins with.
abbrev pub result_words : ResultBase → List Word
result_words result.Void = a_keyword keyword.Void
result_words (result.Base b) = base_words b

-- The words of a parameter.
abbrev pub param_words : Param → List Word
param_words p = type_words p.type_name ++ a_name p.name

-- The words of parameters, and of those behind a first one, each with the comma before it.
abbrev pub more_params_words : List Param → List Word
more_params_words [] = []
more_params_words (p ∷ ps) = (a_sign sign.Comma ++ param_words p) ++ more_params_words ps

abbrev pub params_words : List Param → List Word
params_words [] = []
params_words (p ∷ ps) = param_words p ++ more_params_words ps

-- `void` in place of parameters, where it is written.
abbrev pub written_void_words : Bool → List Word
written_void_words true = a_keyword keyword.Void
written_void_words false = []

-- The words of a head, without `static`.
abbrev pub head_words : Head → List Word
head_words h = result_words h.result ++ (stars_words h.stars ++ (a_name h.name ++ in_parentheses (written_void_words h.written_void ++ params_words h.params)))

-- The words of a local.
abbrev pub local_words : Local → List Word
local_words l = type_words l.type_name ++ (a_name l.name ++ a_sign sign.Semicolon)

-- The statements of a body that are written in the text: all but the last.
abbrev pub written_statements : List Stmt → List Stmt
written_statements [] = []
written_statements (s ∷ []) = []
written_statements (s ∷ t ∷ ss) = s ∷ written_statements (t ∷ ss)

-- The words of a function.
abbrev pub function_words : Function → List Word
function_words f = (static_words f.head.is_static ++ head_words f.head)
    ++ (a_sign sign.BraceOpen ++ (flat_map local_words f.locals ++ (flat_map statement_words (written_statements f.body) ++ a_sign sign.BraceClose)))

-- The words of an item.
abbrev pub item_words : Item → List Word
item_words (item.Struct s) = struct_words s
item_words (item.Global g) = global_words g
item_words (item.Function f) = function_words f
item_words (item.Prototype h) = (static_words h.is_static ++ head_words h) ++ a_sign sign.Semicolon

-- The words of a whole text.
abbrev pub unit_words : Unit → List Word
unit_words u = flat_map item_words u.items

-- The fields that are no unions, and the arms, of a field, each by its words.
abbrev pub field_pieces : Field → List (List Word)
field_pieces (field.Plain n d) = field_words (field.Plain n d) ∷ []
field_pieces (field.Union n arms name) = flat_map (λ a. arm_words a ∷ []) arms

-- The head, the locals, the simple statements and the conditions of a function, each by its words.
abbrev pub function_pieces : Function → List (List Word)
function_pieces f = head_words f.head ∷ flat_map (λ l. local_words l ∷ []) f.locals ++ flat_map statement_pieces (written_statements f.body)

-- The fields that are no unions, arms, globals, heads, locals, simple statements and conditions of an item, each by its
-- words.
abbrev pub item_pieces : Item → List (List Word)
item_pieces (item.Struct s) = flat_map field_pieces s.fields
item_pieces (item.Global g) = global_words g ∷ []
item_pieces (item.Function f) = function_pieces f
item_pieces (item.Prototype h) = head_words h ∷ []

-- Those of a whole text.
abbrev pub unit_pieces : Unit → List (List Word)
unit_pieces u = flat_map item_pieces u.items
