-- Each call of a machine keeps that each task belongs to the driver.
use Rattle.std.proofs.Common.{◌≡◌, ◌≢◌, ◌⊎◌, inl, inr, ℕ, ◌==◌, Bool, true, false, List, ℤ, Option, Some, None, Result, Ok, Err, slice_get, refl, sym, ap, ◌∙◌, subst, arith}
use Rattle.std.proofs.lemmas.Bool.Decides.{nat_tests}
use Rattle.checked_tree.specs.declared.units.CheckedUnit.{CheckedUnit}
use Rattle.driver_machine.specs.declared.busy.Busy.{Busy}
use Rattle.driver_machine.specs.declared.task.Task.{Task}
use Rattle.driver_machine.specs.Machines.{BelongsAt, Belongs, Drops, OthersStay, Starts, owner_in}
use Rattle.driver_machine.proofs.MachineLaws.{idle_belongs, other_belongs}
use Rattle.machine_tests.specs.Belonging.{EachBelongs}

same_or_not : (n k : ℕ) → (n ≡ k) ⊎ (n ≢ k)
same_or_not n k = by (n == k) refl
  where
    by : (b : Bool) → (n == k) ≡ b → (n ≡ k) ⊎ (n ≢ k)
    by true e = inl (grind (arith, nat_tests))
    by false e = inr (grind (arith, nat_tests))

-- of a new machine
pub none_belong : (unit : CheckedUnit) (tasks : List Task) → ((task : ℕ) → owner_in tasks task ≡ None) → EachBelongs unit tasks
none_belong unit tasks none task = idle_belongs unit tasks task (none task)

module _ (unit : CheckedUnit) (old new : List Task) (all : EachBelongs unit old) where
  -- where one task changes
  pub one_changed : (task : ℕ) → OthersStay task old new → Belongs unit new task → EachBelongs unit new
  one_changed task others one other = by (same_or_not other task)
    where
      by : (other ≡ task) ⊎ (other ≢ task) → Belongs unit new other
      by (inl same) = subst (Belongs unit new) (sym same) one
      by (inr apart) = other_belongs task old new others other apart unit (all other)

  pub started_all : (owner task function : ℕ) (arguments : List ℤ) (result : Result (Unit {0}) Busy)
      → Starts unit owner task function arguments old result new → OthersStay task old new → EachBelongs unit new
  started_all owner task function arguments (Ok x) h others = one_changed task others h.3
  started_all owner task function arguments (Err busy) h others = subst (EachBelongs unit) (sym h.1) all

  kept_task : (task : ℕ) → slice_get new task ≡ slice_get old task → Belongs unit new task
  unfolding Belongs
  kept_task task e = subst (BelongsAt unit) (sym e) (all task)

  pub dropped_all : (owner : ℕ) → Drops owner old new → EachBelongs unit new
  dropped_all owner h task = by (owner_in old task) refl
    where
      some : (n : ℕ) → owner_in old task ≡ Some n → (n ≡ owner) ⊎ (n ≢ owner) → Belongs unit new task
      some n is (inl same) = idle_belongs unit new task ((h task).0 (is ∙ ap (λ (k : ℕ). Some k) same))
      some n is (inr apart) =
          kept_task task ((h task).1 (λ e. absurd (let both : Some n ≡ Some owner = sym is ∙ e in let same : n ≡ owner = cc in apart same)))

      by : (o : Option ℕ) → owner_in old task ≡ o → Belongs unit new task
      by None is = kept_task task ((h task).1 (λ e. absurd (let both : None ≡ Some owner = sym is ∙ e in cc)))
      by (Some n) is = some n is (same_or_not n owner)
