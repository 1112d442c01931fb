-- What becomes of a driver text, by cases in their order.
use Rattle.std.specs.Prelude.{ℕ, List, Result, Ok, Err}
use Rattle.c_tree.specs.declared.items.Unit.{Unit as TextUnit}
use Rattle.c_tree.specs.declared.limits.LimitKind.{LimitKind}
use Rattle.c_tree.specs.declared.words.Token.{Token}
use Rattle.c_tree.specs.Bytes.{Text}
use Rattle.c_tree.specs.Division.{IsDivision, HasNoWord, PassesLimit}
use Rattle.c_tree.specs.Units.{HasNoItem, Reads}
use Rattle.checked_tree.specs.declared.units.CheckedUnit.{CheckedUnit}
use Rattle.deputy_types.specs.declared.refusal.TypeRefusal.{TypeRefusal}
use Rattle.deputy_rules.specs.Checking.{Fault, NoRule, Limit}
use Rattle.deputy_rules.specs.Functions.{checked}
use Rattle.deputy_types.specs.Table.{Table}
use Rattle.deputy_types.specs.UnitLayout.{layout}
use Rattle.driver_front.specs.declared.refusal.DriverRefusal.{DriverRefusal}
use Rattle.driver_front.specs.declared.refusal.DriverRefusal.TheVariants as refusal
use Rattle.driver_front.specs.Parts.{type_refusal}
use Rattle.safe_code.specs.Drivers.{Driver}

-- an outcome with the unit of its driver in the driver's place
abbrev pub unit_in : Result Driver DriverRefusal → Result CheckedUnit DriverRefusal
unit_in (Ok driver) = Ok driver.unit
unit_in (Err r) = Err r

-- A text is not read: its division comes to a byte on this line at which no word begins, or to a word that passes a limit; or its words, behind some
-- items, go on with no item.
pub data IsUnread (t : Text) : DriverRefusal → Type 0 where
  no_word : {n : ℕ} → HasNoWord t n → IsUnread t (refusal.NotAWord n)
  past_limit : {n : ℕ} {kind : LimitKind} → PassesLimit t n kind → IsUnread t (refusal.Limit n kind)
  no_item : {n : ℕ} {words : List Token} → IsDivision t words → HasNoItem words n → IsUnread t (refusal.NoItem n)

-- the refusal that a fault of the rules is
abbrev pub fault_refusal : Fault → DriverRefusal
fault_refusal (NoRule n) = refusal.NoRule n
fault_refusal (Limit n kind) = refusal.Limit n kind

-- where its declarations are laid out: what the rules derive, or the first head, parameter, local or statement that they do not
abbrev pub by_rules : Result CheckedUnit Fault → Result CheckedUnit DriverRefusal
by_rules (Ok c) = Ok c
by_rules (Err e) = Err (fault_refusal e)

-- the first declaration that is refused, or else the rules decide
abbrev pub by_declarations : TextUnit → Result Table TypeRefusal → Result CheckedUnit DriverRefusal
by_declarations u (Err e) = Err (type_refusal e)
by_declarations u (Ok t) = by_rules (checked t u)

-- what becomes of a text that is read as this unit
unfoldable pub verdict_of : TextUnit → Result CheckedUnit DriverRefusal
verdict_of u = by_declarations u (layout u)

-- What becomes of a text: it is not read, or what is read is accepted as a checked unit or refused.
pub data Verdict (t : Text) : Result CheckedUnit DriverRefusal → Type 0 where
  unread : {r : DriverRefusal} → IsUnread t r → Verdict t (Err r)
  read : {u : TextUnit} → Reads t u → Verdict t (verdict_of u)
