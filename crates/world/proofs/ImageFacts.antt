-- The load image of a unit that the rules derive: its blocks lie in turn, each holds its bytes, and all end within the arena's first half.
-- Here: IsWhole, IsLaid, derived-image
use Rattle.std.proofs.Common.{◌≡◌, inl, inr, ℕ, suc, ◌+◌, ◌*◌, ◌<◌, ◌≤◌, List, [], ◌∷◌, length, All, Some, Result, Ok, Err, slice_get, refl, sym, ap, ◌∙◌, subst, arith, length-append}
use Rattle.std.proofs.lemmas.List.Elements.{All-nil, All-cons}
use Rattle.c_tree.specs.declared.items.Unit.{Unit as TextUnit}
use Rattle.checked_tree.specs.declared.units.CheckedFn.{CheckedFn}
use Rattle.checked_tree.specs.declared.units.CheckedUnit.{CheckedUnit}
use Rattle.checked_tree.specs.declared.units.ImageBlock.{ImageBlock}
use Rattle.deputy_types.specs.Fitting.{elem_bytes}
use Rattle.deputy_types.specs.Table.{Table}
use Rattle.deputy_types.specs.UnitLayout.{layout}
use Rattle.deputy_rules.specs.Checking.{Fault}
use Rattle.deputy_rules.specs.Functions.{checked, checked_with, check_items, text_of}
use Rattle.layout_laws.specs.LoadImage.{AreInTurn, IsWithinImage}
use Rattle.layout_laws.proofs.LimitLaws.{keeps_limits}
use Rattle.light_checks.proofs.Annotating.{looked_up}
use Rattle.safe_code.specs.DerivedUnit.{IsDerivedUnit}
use Rattle.driver_safety.proofs.declarations.StructFacts.{some_count}
use Rattle.driver_safety.proofs.memory.Loading.{Kind, image, kind}

-- a block of some elements of equal size, with all its bytes
pub record IsWhole (b : ImageBlock) : Type 0 where
  pub each : ℕ
  pub some : 0 < b.count
  pub size : b.size ≡ b.count * each
  pub bytes : length b.bytes ≡ b.size
  pub ends : b.base + b.size ≤ 524288

pub record IsLaid (blocks : List ImageBlock) : Type 0 where
  pub turn : AreInTurn 16 blocks
  pub whole : All IsWhole blocks
  pub few : length blocks ≤ 1024

-- ---- of a table

all_from : {A : Type 0} (P : A → Type 0) (xs : List A) → ((k : ℕ) (x : A) → slice_get xs k ≡ Some x → P x) → All P xs
all_from P [] f = All-nil P
all_from P (x ∷ xs) f = All-cons P x xs (f 0 x refl) (all_from P xs (λ k y e. f (suc k) y e))

module _ (u : TextUnit) (t : Table) (h : layout u ≡ Ok t) where
  whole-by : (b : ImageBlock) → Kind u t h b → b.base + b.size ≤ 524288 → IsWhole b
  whole-by b (inl g) ends = record {
    each = elem_bytes t.elems t.structs b.elem;
    some = some_count _ b.count g.1.count;
    size = g.1.size;
    bytes = g.1.bytes;
    ends = ends;
  }
  whole-by b (inr s) ends =
      let count = s.1.count in
      let size = s.1.size in
      let single : b.size ≡ b.count * 1 = omega (arith, count, size) in
      record {
        each = 1;
        some = omega (arith, count);
        size = single;
        bytes = ap length s.1.bytes ∙ (length-append s.0 (0 ∷ []) ∙ sym size);
        ends = ends;
      }

  table-laid : IsLaid t.image
  table-laid = record {
    turn = (image u t h).turn;
    whole = all_from IsWhole t.image (λ k b at. whole-by b (kind u t h k b at) (looked_up IsWithinImage t.image k b (image u t h).within at).to);
    few = (keeps_limits u t h).blocks;
  }

-- ---- of a unit

ok-same : (a b : CheckedUnit) → ◌≡◌ {A = Result CheckedUnit Fault} (Ok a) (Ok b) → a ≡ b
ok-same a b e = cc

image-by : (t : Table) (r : Result (List CheckedFn) Fault) (unit : CheckedUnit) → checked_with t r ≡ Ok unit → unit.image ≡ t.image
image-by t (Ok fs) unit e = sym (ap (λ (x : CheckedUnit). x.image) (ok-same _ unit e))
image-by t (Err x) unit e = absurd cc

image-is : (t : Table) (u : TextUnit) (unit : CheckedUnit) → checked t u ≡ Ok unit → unit.image ≡ t.image
unfolding checked
image-is t u unit e = image-by t (check_items (text_of t u.items) u.items []) unit e

pub derived-image : (unit : CheckedUnit) → IsDerivedUnit unit → IsLaid unit.image
derived-image unit d = subst IsLaid (sym (image-is d.table d.text unit d.derived)) (table-laid d.text d.table d.types)
