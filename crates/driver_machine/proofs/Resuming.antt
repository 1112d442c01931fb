-- A frame goes on behind a call, or behind the kernel's answer, by its first statement.
use Rattle.std.proofs.Common.{◌≡◌, ℤ, List, [], ◌∷◌, drop, Option, Some, None, Ok, Err, slice_get, refl, sym, ap, ◌∙◌, subst}
use Rattle.checked_tree.specs.declared.kernel.Answer.{Answer}
use Rattle.checked_tree.specs.declared.shapes.Scalar.{Scalar}
use Rattle.checked_tree.specs.declared.statements.CheckedStmt.{CheckedStmt, out-CheckedStmt}
use Rattle.checked_tree.specs.declared.statements.Target.{Target}
use Rattle.checked_tree.specs.declared.stops.Stop.{Stop}
use Rattle.checked_tree.specs.declared.stops.Stop.TheVariants.{Wild}
use Rattle.checked_tree.specs.Step.{target_of, answer_set, with_returned}
use Rattle.driver_machine.specs.Acts.{state}
use Rattle.driver_machine.specs.Results.{Takes, Resumes, Answers, answered_locals, behind_call, behind_first}

-- no first statement
none_first : (todo : List CheckedStmt) → None ≡ slice_get todo 0 → todo ≡ []
none_first [] h = refl
none_first (st ∷ rest) h = absurd cc

some_first : (todo : List CheckedStmt) (st : CheckedStmt) → Some st ≡ slice_get todo 0 → (rest : List CheckedStmt) × (todo ≡ st ∷ rest)
some_first [] st h = absurd cc
some_first (x ∷ rest) st h = let same : st ≡ x = cc in (rest, ap (λ (y : CheckedStmt). y ∷ rest) (sym same))

pub resumes_none : (scalar : Scalar) (value : Option ℤ) (old : List ℤ) (todo : List CheckedStmt) → None ≡ slice_get todo 0
    → Resumes scalar value old todo (Err Wild) old todo
resumes_none scalar value old todo h =
    ((λ m. ap (λ (l : List CheckedStmt). behind_call scalar (state old m) l value) (none_first todo h)), refl, refl)

pub resumes_stopped : (scalar : Scalar) (value : Option ℤ) (old new : List ℤ) (todo : List CheckedStmt) (st : CheckedStmt) (target : Option Target) (e : Stop)
    → Some st ≡ slice_get todo 0 → target ≡ target_of (out-CheckedStmt st) → Takes scalar target value old (Err e) new
    → Resumes scalar value old todo (Err e) new todo
resumes_stopped scalar value old new todo st target e h is takes =
    let first = some_first todo st h in (
      (λ m. ap (λ (l : List CheckedStmt). behind_call scalar (state old m) l value) first.1
          ∙ subst (λ (t : Option Target). with_returned scalar (state old m) t value ≡ Err e) is (takes.0 m)),
      takes.1,
      refl,
    )

pub resumes_on : (scalar : Scalar) (value : Option ℤ) (old new : List ℤ) (todo todo' : List CheckedStmt) (st : CheckedStmt) (target : Option Target)
    → Some st ≡ slice_get todo 0 → target ≡ target_of (out-CheckedStmt st) → Takes scalar target value old (Ok tt) new → todo' ≡ drop 1 todo
    → Resumes scalar value old todo (Ok tt) new todo'
resumes_on scalar value old new todo todo' st target h is takes go =
    let first = some_first todo st h in (
      (λ m. ap (λ (l : List CheckedStmt). behind_call scalar (state old m) l value) first.1
          ∙ subst (λ (t : Option Target). with_returned scalar (state old m) t value ≡ Ok (state new m)) is (takes m)),
      go ∙ ap (λ (l : List CheckedStmt). drop 1 l) first.1 ∙ ap behind_first (sym first.1),
    )

pub answers_none : (reply : Answer) (old : List ℤ) (todo : List CheckedStmt) → None ≡ slice_get todo 0 → Answers reply old todo old todo
answers_none reply old todo h =
    let none = none_first todo h in
    (ap (λ (l : List CheckedStmt). answered_locals old l reply) (sym none), none ∙ ap behind_first (sym none))

pub answers_on : (reply : Answer) (old new : List ℤ) (todo todo' : List CheckedStmt) (st : CheckedStmt) (target : Option Target)
    → Some st ≡ slice_get todo 0 → target ≡ target_of (out-CheckedStmt st) → new ≡ answer_set old target reply → todo' ≡ drop 1 todo
    → Answers reply old todo new todo'
answers_on reply old new todo todo' st target h is set go =
    let first = some_first todo st h in (
      set ∙ ap (λ (t : Option Target). answer_set old t reply) is ∙ ap (λ (l : List CheckedStmt). answered_locals old l reply) (sym first.1),
      go ∙ ap (λ (l : List CheckedStmt). drop 1 l) first.1 ∙ ap behind_first (sym first.1),
    )
