-- A name that is not there, read as one with no bytes.
use Rattle.std.proofs.Common.{◌≡◌, ℕ, List, [], drop, Option, None, Some, IfSome, IfNone, option_map, unwrap_or, refl, ap, sym, arith}
use Rattle.std.proofs.lemmas.List.{drop_all}
use Rattle.sd_outside.specs.CalmShelf.{calm_left}
use Rattle.sd_outside.specs.Shelf.{LeavesOthers}
use Rattle.sd_outside.specs.Texts.{Text, left_of, read_on}
use Rattle.sd_outside.proofs.Naming.{left_of-read_on, left_of-read_on_other}

-- the front of nothing is nothing
drop-calm : (n : ℕ) (left : Option (List ℕ)) → unwrap_or (option_map (drop n) left) [] ≡ drop n (unwrap_or left [])
drop-calm n None = sym (drop_all {X = ℕ} n [] (omega arith))
drop-calm n (Some bytes) = refl

-- what a read leaves of its name
pub calm_left-read : (old new : List Text) (name : List ℕ) (answer : Option ℕ) → IfSome answer (λ n. new ≡ read_on old name n) → IfNone answer (new ≡ old)
    → calm_left new name ≡ drop (unwrap_or answer 0) (calm_left old name)
calm_left-read old new name None some none = rw none refl
calm_left-read old new name (Some n) some none = rw (some, left_of-read_on old name n) (drop-calm n (left_of old name))

-- what a read leaves of other names
pub LeavesOthers-calm : (old new : List Text) (name : List ℕ) (answer : Option ℕ) → IfSome answer (λ n. new ≡ read_on old name n) → IfNone answer (new ≡ old)
    → LeavesOthers name (λ other. Some (calm_left old other)) (λ other. Some (calm_left new other))
LeavesOthers-calm old new name answer some none = record { told = refl; others = λ other differs. ap (λ (l : List ℕ). Some l) (by answer some none other differs) }
  where
    by : (answer : Option ℕ) → IfSome answer (λ n. new ≡ read_on old name n) → IfNone answer (new ≡ old) → (other : List ℕ) → (other ≡ name → ⊥) → calm_left new other ≡ calm_left old other
    by None some none other differs = rw none refl
    by (Some n) some none other differs = rw (some, left_of-read_on_other old name other n differs) refl
