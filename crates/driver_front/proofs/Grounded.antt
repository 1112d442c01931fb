-- A text is refused on one of the grounds.
use Rattle.std.proofs.Common.{◌≡◌, Result, Ok, Err, refl, subst}
use Rattle.c_tree.specs.declared.items.Unit.{Unit as TextUnit}
use Rattle.c_tree.specs.Bytes.{Text}
use Rattle.c_tree.specs.ShortUnit.{IsShortUnit}
use Rattle.c_tree.specs.Units.{Reads}
use Rattle.c_decl.proofs.ShortUnits.{unit_short}
use Rattle.checked_tree.specs.declared.units.CheckedUnit.{CheckedUnit}
use Rattle.deputy_types.specs.declared.refusal.TypeRefusal.{TypeRefusal}
use Rattle.deputy_rules.specs.Checking.{Fault}
use Rattle.deputy_rules.specs.Functions.{checked}
use Rattle.deputy_types.specs.Table.{Table}
use Rattle.deputy_types.specs.UnitLayout.{layout}
use Rattle.light_checks.proofs.Units.{unit_refused}
use Rattle.driver_front.specs.declared.refusal.DriverRefusal.{DriverRefusal}
use Rattle.driver_front.specs.Grounds.{HasGround, not_read, declaration, rule}
use Rattle.driver_front.specs.Parts.{type_refusal}
use Rattle.driver_front.specs.Verdict.{Verdict, unread, read, verdict_of, by_declarations, by_rules, fault_refusal}

-- an outcome that is a refusal
abbrev refused : DriverRefusal → Result CheckedUnit DriverRefusal
refused r = Err r

same_refusal : (r s : DriverRefusal) → refused r ≡ refused s → r ≡ s
same_refusal r s h = cc

module _ (t : Text) (u : TextUnit) (reads : Reads t u) (r : DriverRefusal) where
  short : IsShortUnit u
  short = unit_short t reads.words u reads.divides reads.spells

  by_rules_grounded : (table : Table) → layout u ≡ Ok table → by_rules (checked table u) ≡ refused r → HasGround t r
  by_rules_grounded table laid h = by (checked table u) refl h
    where
      by : (o : Result CheckedUnit Fault) → checked table u ≡ o → by_rules o ≡ refused r → HasGround t r
      by (Ok c) k h = absurd cc
      by (Err e) k h = subst (λ (x : DriverRefusal). HasGround t x) (same_refusal (fault_refusal e) r h) (rule reads laid (unit_refused u table short laid e k))

  read_grounded : verdict_of u ≡ refused r → HasGround t r
  unfolding verdict_of
  read_grounded h = by (layout u) refl h
    where
      by : (o : Result Table TypeRefusal) → layout u ≡ o → by_declarations u o ≡ refused r → HasGround t r
      by (Err e) laid h = subst (λ (x : DriverRefusal). HasGround t x) (same_refusal (type_refusal e) r h) (declaration reads laid)
      by (Ok table) laid h = by_rules_grounded table laid h

grounded : (t : Text) (o : Result CheckedUnit DriverRefusal) (r : DriverRefusal) → Verdict t o → o ≡ refused r → HasGround t r
grounded t o r (unread {r = s} h) e = subst (λ (x : DriverRefusal). HasGround t x) (same_refusal s r e) (not_read h)
grounded t o r (read {u = u} d) e = read_grounded t u d r e

pub refused_on_grounds : (t : Text) (r : DriverRefusal) → Verdict t (refused r) → HasGround t r
refused_on_grounds t r v = grounded t (refused r) r v refl
