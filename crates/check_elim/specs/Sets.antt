-- A set of lost facts, seen fact by fact; the marks of checks; and what a table of facts says of a function.
use Rattle.std.specs.Prelude.{ℕ, ◌≡◌, ◌==◌, ◌-◌, nat_lt, ◌&&◌, ◌||◌, ◌*◌, ◌<◌, ◌≤◌, Bool, true, false, List, [], length, Option, Some, None, slice_get, slice_index_or, if◌then◌else◌}
use Rattle.std.specs.List.{list_any}
use Rattle.std.specs.Global.{Vec}
use Rattle.dep_expr.specs.declared.inequality.Ineq.{Ineq}
use Rattle.checked_tree.specs.declared.units.CheckedFn.{CheckedFn}
use Rattle.checked_tree.specs.Flow.{Event, Tests}
use Rattle.checked_tree.specs.Redundant.{slots_of, is_over_locals, check_inequality}
use Rattle.check_elim.specs.Bits.{has}
use Rattle.check_elim.specs.declared.lost.Lost.{Lost}
use Rattle.check_elim.specs.declared.lost.Kept.{Kept}
use Rattle.checked_tree.specs.declared.checks.Check.{Check}
use Rattle.check_elim.specs.declared.table.Table.{Table}
use Rattle.check_elim.specs.declared.table.Table.TheVariants as table
use Rattle.check_elim.specs.declared.table.Inequalities.{Inequalities}
use Rattle.check_elim.specs.declared.table.Classes.{Classes}
use Rattle.check_elim.specs.declared.table.CheckFact.{CheckFact}
use Rattle.check_elim.specs.Redundancy.{same_check}
use Rattle.check_elim.specs.Ways.{either, after, reached, Effect, Gives, Takes, Keeps, Way, Nowhere, Sure}
use Rattle.check_elim.specs.Ways as W
use Rattle.check_elim.specs.Facts.{effect_of, implies, is_lost}
use Rattle.check_elim.specs.Direct.{Ops}
use Rattle.check_elim.specs.Order.{IsInOrder}

abbrev pub way_of : Bool → Bool → Way
way_of false lost = Nowhere
way_of true false = Sure
way_of true true = W.Lost

-- how walks come here, fact by fact
abbrev pub ways : Bool → List ℕ → ℕ → Way
ways reached words j = way_of reached (has words j)

-- what is known at a place: of each fact how walks come there
abbrev pub Facts : Type 0
Facts = ℕ → Way

unfoldable pub facts : Lost → Facts
facts l j = ways l.reached l.words.items j

abbrev pub size_of : Lost → ℕ
size_of l = length l.words.items

-- how many words a set of facts has
abbrev pub size_in : Table → ℕ
size_in (table.Inequalities t) = t.size
size_in (table.Classes t) = t.size

-- what an event does to the inequality with a number; nothing past the last
abbrev pub effect_in : CheckedFn → Option Ineq → Event → Effect
effect_in f None e = Keeps
effect_in f (Some i) e = effect_of f i e

-- the class of a check, by its number
abbrev pub class_of : Classes → ℕ → Option ℕ
class_of t id = if id == 0 then None else slice_get t.numbers.items (id - 1)

abbrev pub is_number : ℕ → Option ℕ → Bool
is_number j None = false
is_number j (Some k) = k == j

-- a check meets its own class, and no other event does
abbrev pub meets_class : Classes → ℕ → Event → Bool
meets_class t j (Tests id) = is_number j (class_of t id)
meets_class t j _ = false

-- where this is so, a fact is given; nothing is taken
abbrev pub given : Bool → Effect
given b = if b then Gives else Keeps

-- what an event does to the fact with a number
unfoldable pub does : CheckedFn → Table → ℕ → Event → Effect
does f (table.Inequalities t) j e = effect_in f (slice_get t.facts.items j) e
does f (table.Classes t) j e = given (meets_class t j e)

unfoldable pub either_all : Facts → Facts → Facts
either_all a b j = either (a j) (b j)

unfoldable pub after_list : CheckedFn → List Ineq → Event → Facts → Facts
after_list f list e w j = after (effect_in f (slice_get list j) e) (w j)

unfoldable pub after_class : Classes → Event → Facts → Facts
after_class t e w j = after (given (meets_class t j e)) (w j)

unfoldable pub after_all : CheckedFn → Table → Event → Facts → Facts
after_all f (table.Inequalities t) e w = after_list f t.facts.items e w
after_all f (table.Classes t) e w = after_class t e w

-- after something after which an inequality holds: what it implies is met
abbrev pub gives_in : Ineq → Option Ineq → Bool
gives_in strong None = false
gives_in strong (Some i) = implies strong i

unfoldable pub given_all : List Ineq → Ineq → Facts → Facts
given_all list strong w j = after (given (gives_in strong (slice_get list j))) (w j)

unfoldable pub guard_all : Facts → Facts → Facts
guard_all a b j = reached (a j) (b j)

unfoldable pub none : Facts
none j = Nowhere

unfoldable pub all_sure : Facts
all_sure j = Sure

-- where no fact of a set of so many words is met
unfoldable pub all_lost : ℕ → Facts
all_lost size j = way_of true (nat_lt j (64 * size))

-- on how many checks marks are made, and the marks, by the places of checks
pub record Marking : Type 0 where
  pub size : ℕ
  pub at : ℕ → Bool

unfoldable pub marking : Kept → Marking
marking k = record { size = length k.lost.items; at = λ place. slice_index_or k.lost.items place false }

-- the fact of a check, if it is an inequality over locals
abbrev pub own_at : Option CheckFact → Option ℕ
own_at None = None
own_at (Some c) = c.own

abbrev pub own_in : Inequalities → ℕ → Option ℕ
own_in t id = if id == 0 then None else own_at (slice_get t.checks.items (id - 1))

abbrev pub own_fact : Table → ℕ → Option ℕ
own_fact (table.Inequalities t) id = own_in t id
own_fact (table.Classes t) id = class_of t id

-- one more mark, where a check's fact is lost at it, if marks are made
abbrev pub mark_own : ℕ → Option ℕ → Facts → Marking → Marking
mark_own place None w m = m
mark_own place (Some k) w m = record m { at = λ i. if i == place && nat_lt place m.size then m.at i || is_lost (w k) else m.at i }

unfoldable pub mark_one : Table → ℕ → Facts → Marking → Marking
mark_one t id w m = mark_own (id - 1) (own_fact t id) w m

abbrev pub ops_of : CheckedFn → Table → Ops Facts Marking
ops_of f t = record { either = either_all; after = after_all f t; nowhere = none; sure = all_sure; guard = guard_all; note = mark_one t }

-- the mask of a slot: the facts that an assignment of it takes
abbrev pub mask_words : Option (Vec ℕ) → List ℕ
mask_words None = []
mask_words (Some v) = v.items

abbrev pub mask_at : List (Vec ℕ) → ℕ → List ℕ
mask_at masks slot = mask_words (slice_get masks slot)

-- a fact speaks of a slot
abbrev pub speaks_of : CheckedFn → Option Ineq → ℕ → Bool
speaks_of f None slot = false
speaks_of f (Some i) slot = list_any (λ t. slot == t) (slots_of f i)

abbrev pub IsMask : ℕ → Option (Vec ℕ) → Type 0
IsMask size None = Unit {0}
IsMask size (Some v) = length v.items ≡ size

-- the inequality of a check, as the table has it
abbrev pub inequality_at : Option CheckFact → Option Ineq
inequality_at None = None
inequality_at (Some c) = c.inequality

abbrev pub asked_at : Inequalities → ℕ → Option Ineq
asked_at t id = if id == 0 then None else inequality_at (slice_get t.checks.items (id - 1))

-- the fact of a check is its inequality, where that is over locals; and none where it is none
abbrev pub IsOwn : CheckedFn → List Ineq → Option Ineq → Option ℕ → Type 0
IsOwn f list i (Some j) = (j < length list) × (slice_get list j ≡ i)
IsOwn f list None None = Unit {0}
IsOwn f list (Some i) None = is_over_locals f i ≡ false

-- a table of inequalities says of a function what it is to say
pub record InequalityFacts (f : CheckedFn) (t : Inequalities) : Type 0 where
  pub room : length t.facts.items ≤ 64 * t.size
  pub order : IsInOrder t.facts.items
  pub masks : (slot : ℕ) → IsMask t.size (slice_get t.masks.items slot)
  pub takes : (slot j : ℕ) → has (mask_at t.masks.items slot) j ≡ speaks_of f (slice_get t.facts.items j) slot
  pub asked : (place : ℕ) → inequality_at (slice_get t.checks.items place) ≡ check_inequality (slice_get f.checks place)
  pub own : (place : ℕ) → IsOwn f t.facts.items (check_inequality (slice_get f.checks place)) (own_at (slice_get t.checks.items place))
  pub over : (j : ℕ) (i : Ineq) → slice_get t.facts.items j ≡ Some i → is_over_locals f i ≡ true

unfoldable pub AreInequalities : CheckedFn → Inequalities → Type 0
AreInequalities f t = InequalityFacts f t

-- the classes of equal checks: each check has one, and two have the same where they are of the same kind and condition
pub record ClassFacts (f : CheckedFn) (t : Classes) : Type 0 where
  pub count : length t.numbers.items ≡ length f.checks
  pub fits : (place k : ℕ) → slice_get t.numbers.items place ≡ Some k → k < 64 * t.size
  pub same : (p q k l : ℕ) (c d : Check) → slice_get f.checks p ≡ Some c → slice_get f.checks q ≡ Some d → slice_get t.numbers.items p ≡ Some k → slice_get t.numbers.items q ≡ Some l
      → (k == l) ≡ same_check c d

unfoldable pub AreClasses : CheckedFn → Classes → Type 0
AreClasses f t = ClassFacts f t

-- a table says of a function what it is to say
unfoldable pub IsTable : CheckedFn → Table → Type 0
IsTable f (table.Inequalities t) = AreInequalities f t
IsTable f (table.Classes t) = AreClasses f t
