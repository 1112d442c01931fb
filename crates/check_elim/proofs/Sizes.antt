-- On how many checks marks are made never changes.
use Rattle.std.proofs.Common.{◌≡◌, ℕ, ◌-◌, List, Option, Some, None, refl}
use Rattle.checked_tree.specs.declared.expressions.CheckedExpr.{CheckedExpr}
use Rattle.checked_tree.specs.declared.statements.CheckedStmt.{CheckedStmt}
use Rattle.checked_tree.specs.declared.units.CheckedFn.{CheckedFn}
use Rattle.check_elim.specs.declared.table.Table.{Table}
use Rattle.check_elim.specs.Direct.{passing, passings, telling, noted, act_of, reading, asked_of}
use Rattle.check_elim.specs.Sets.{Facts, Marking, mark_own, mark_one, own_fact, ops_of}
use Rattle.check_elim.proofs.Alike.{GoAlike, stmt_alike, expr_alike, all_alike}

module _ (f : CheckedFn) (t : Table) (size : ℕ) where
  abbrev Any : Facts → Facts → Type 0
  Any a b = Unit {0}

  abbrev Has : Marking → Marking → Type 0
  Has m n = m.size ≡ size

  note_size : (place : ℕ) (o : Option ℕ) (a : Facts) (m : Marking) → m.size ≡ size → (mark_own place o a m).size ≡ size
  note_size place None a m h = h
  note_size place (Some k) a m h = h

  sizes : GoAlike (ops_of f t) (ops_of f t) Any Has
  unfolding mark_one
  sizes = record {
    either = λ a b c d h k. tt;
    after = λ e a b h. tt;
    nowhere = tt;
    sure = tt;
    guard = λ a b c d h k. tt;
    note = λ id a b m n h k. note_size (id - 1) (own_fact t id) a m k;
  }

  statement_has : (st : CheckedStmt) (w : Facts) (m : Marking) → m.size ≡ size → (noted (act_of (passing (ops_of f t) f.slots st)) w m).size ≡ size
  statement_has st w m h = (stmt_alike (ops_of f t) (ops_of f t) Any Has sizes f.slots st).note w w m m tt h

  test_has : (e : CheckedExpr) (w : Facts) (m : Marking) → m.size ≡ size → (asked_of (reading (ops_of f t) f.slots e) w m).size ≡ size
  test_has e w m h = (expr_alike (ops_of f t) (ops_of f t) Any Has sizes f.slots e).asked w w m m tt h

  telling_has : (ss : List CheckedStmt) (w : Facts) (m : Marking) → m.size ≡ size → (telling (passings (ops_of f t) f.slots ss) w m).size ≡ size
  telling_has ss w m h = all_alike (ops_of f t) (ops_of f t) Any Has sizes f.slots ss w w m m tt h

pub telling_size : (f : CheckedFn) (t : Table) (ss : List CheckedStmt) (w : Facts) (m : Marking) → (telling (passings (ops_of f t) f.slots ss) w m).size ≡ m.size
telling_size f t ss w m = telling_has f t m.size ss w m refl

pub statement_size : (f : CheckedFn) (t : Table) (st : CheckedStmt) (w : Facts) (m : Marking) → (noted (act_of (passing (ops_of f t) f.slots st)) w m).size ≡ m.size
statement_size f t st w m = statement_has f t m.size st w m refl

pub test_size : (f : CheckedFn) (t : Table) (e : CheckedExpr) (w : Facts) (m : Marking) → (asked_of (reading (ops_of f t) f.slots e) w m).size ≡ m.size
test_size f t e w m = test_has f t m.size e w m refl
