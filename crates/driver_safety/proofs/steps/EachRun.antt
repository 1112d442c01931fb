-- Each state that a loaded driver comes to is good: whatever happens next keeps what is good of its memory and of all its activities.
use Rattle.std.proofs.Common.{◌≡◌, ◌⊎◌, inl, inr, IsTrue, ℕ, suc, ◌+◌, ◌*◌, ◌<◌, ◌≤◌, Bool, true, false, List, All, take, drop}
use Rattle.std.proofs.Common.{Some, slice_get, slice_index_or, refl, sym, ap, ◌∙◌, subst, true≢false, arith}
use Rattle.std.specs.List.{Contains}
use Rattle.std.proofs.lemmas.List.Elements.{All-nil, All-cons, All-append, All-take, All-drop, All-set}
use Rattle.byte_memory.specs.Tested.{Memory, is_inside}
use Rattle.sd_base.specs.Blocks.{Block, block_end}
use Rattle.c_tree.specs.declared.items.Unit.{Unit as TextUnit}
use Rattle.checked_tree.specs.declared.units.CheckedUnit.{CheckedUnit}
use Rattle.checked_tree.specs.Outcome.{Safe}
use Rattle.checked_tree.specs.Step.{Activity, Went, Wants, step, answered}
use Rattle.deputy_types.specs.Fitting.{AreZero}
use Rattle.deputy_types.specs.Table.{Table}
use Rattle.light_checks.proofs.Annotating.{looked_up}
use Rattle.driver_safety.specs.Activities.{IsActivity, IsNext}
use Rattle.driver_safety.specs.Goodness.{IsMemory}
use Rattle.driver_safety.specs.GrantLaw.{IsGranting}
use Rattle.driver_safety.specs.OutsideLaw.{IsThere, StaysOutside}
use Rattle.driver_safety.specs.RunLaw.{Driver, LiesIn, IsOwn, IsFirst, Moves, goes, ends, asks, grants, begins, Comes, start, onward}
use Rattle.driver_safety.specs.RunLaw.{IsGoodDriver, EachRunIsSafe}
use Rattle.driver_safety.specs.StepLaw.{terms_of, IsAccepted}
use Rattle.driver_safety.proofs.checks.Evaluations.{safe_weaker}
use Rattle.driver_safety.proofs.checks.GivenOutcomes.{given}
use Rattle.driver_safety.proofs.memory.Granting.{each_grant_keeps}
use Rattle.driver_safety.proofs.memory.Loading.{each_load}
use Rattle.driver_safety.proofs.steps.Answers.{each_answer, each_grant}
use Rattle.driver_safety.proofs.steps.Starting.{each_start}
use Rattle.driver_safety.proofs.steps.StayingInside.{each_step_inside}
use Rattle.driver_safety.proofs.steps.UnitSteps.{each_step}

-- ---- what lies outside of all blocks
there : (t : Table) (blocks : List Block) (m : Memory) → IsMemory t blocks m → IsOwn blocks m → IsThere m
there t blocks m good own k inside =
    let b = own.only k inside in
    let is = good.each b.0 b.1 in
    let long = is.there in
    let below = b.2.1 in
    omega (arith, long, below)

-- a step leaves it alone
own_behind : (blocks : List Block) (m after : Memory) → StaysOutside m after → IsOwn blocks m → IsOwn blocks after
own_behind blocks m after stays own = record {
  only = λ k inside. own.only k (same k ∙ inside);
  zero = λ k out. stays.same k (same k ∙ out) ∙ own.zero k (same k ∙ out);
}
  where
    same : (k : ℕ) → is_inside m k 1 ≡ is_inside after k 1
    same k = ap (λ g. is_inside (record { bytes = m.bytes; granted = g }) k 1) (sym stays.granted)

module _ (t : Table) (blocks more : List Block) (m after : Memory) (b : Block) (good : IsMemory t blocks m) (own : IsOwn blocks m)
    (is : IsGranting t blocks more m after b)
    (ranges : (k : ℕ) → IsTrue (is_inside after k 1) → IsTrue (is_inside m k 1) ⊎ LiesIn b k) where
  -- a byte of the new block lay in no other
  was_outside : (k : ℕ) → LiesIn b k → (x : Bool) → is_inside m k 1 ≡ x → x ≡ false
  was_outside k lies false e = refl
  was_outside k lies true e =
      let c = own.only k e in
      let from = lies.0 in
      let to = lies.1 in
      let low = c.2.0 in
      let high = c.2.1 in
      absurd (by c.0 (is.apart c.0 c.1) from to low high)
    where
      by : (c : Block) → (block_end c ≤ b.base) ⊎ (block_end b ≤ c.base) → b.base ≤ k → k < block_end b → c.base ≤ k → k < block_end c → ⊥
      by c (inl l) from to low high = omega (arith, l, from, high)
      by c (inr l) from to low high = omega (arith, l, to, low)

  pub new_zero : AreZero m.bytes b.base (b.layout.size * b.count)
  new_zero k less = own.zero (b.base + k) (was_outside (b.base + k) (omega arith, omega (arith, less)) (is_inside m (b.base + k) 1) refl)

  pub own_granted : IsOwn more after
  own_granted = record {
    only = λ k inside. by k (ranges k inside);
    zero = λ k out. ap (λ (l : List ℕ). slice_index_or l k 0) is.bytes ∙ own.zero k (outside k out (is_inside m k 1) refl);
  }
    where
      by : (k : ℕ) → IsTrue (is_inside m k 1) ⊎ LiesIn b k → (c : Block) × Contains more c × LiesIn c k
      by k (inl inside) = let c = own.only k inside in (c.0, is.all c.0 c.1, c.2)
      by k (inr lies) = (b, is.new, lies)

      outside : (k : ℕ) → is_inside after k 1 ≡ false → (x : Bool) → is_inside m k 1 ≡ x → x ≡ false
      outside k out false e = refl
      outside k out true e = absurd (true≢false (sym (is.kept k 1 e) ∙ out))

module _ (u : TextUnit) (t : Table) (c : CheckedUnit) (is : IsAccepted u t c) where
  abbrev Good : Driver → Type 0
  Good d = IsGoodDriver u t c d

  -- an activity of a good driver takes a step
  steps : (d : Driver) → Good d → (i : ℕ) (frames : Activity) → slice_get d.activities i ≡ Some frames
      → Safe (step c frames d.memory) (IsNext c (terms_of u t) d.blocks)
  steps d good i frames at =
      each_step u t c is d.blocks frames d.memory
      (looked_up (IsActivity c (terms_of u t) d.blocks) d.activities i frames good.activities at) good.memory

  moved : (d e : Driver) → Good d → Moves u t c d e → Good e
  moved d e good (goes i frames next m at h) =
      let n = given (step c frames d.memory) (IsNext c (terms_of u t) d.blocks) (Went next m) (steps d good i frames at) h in
      record {
        memory = n.1;
        own = own_behind d.blocks d.memory m
            (each_step_inside c frames d.memory (Went next m) (there t d.blocks d.memory good.memory good.own) h) good.own;
        activities = All-set (IsActivity c (terms_of u t) d.blocks) d.activities i next n.0 good.activities;
      }
  moved d e good (ends i frames v at h) = record {
    memory = good.memory;
    own = good.own;
    activities = All-append (IsActivity c (terms_of u t) d.blocks) (take i d.activities) (drop (suc i) d.activities)
        (All-take (IsActivity c (terms_of u t) d.blocks) i d.activities good.activities)
        (All-drop (IsActivity c (terms_of u t) d.blocks) (suc i) d.activities good.activities);
  }
  moved d e good (asks i frames waiting call r at h answers) =
      let n = given (step c frames d.memory) (IsNext c (terms_of u t) d.blocks) (Wants waiting call) (steps d good i frames at) h in
      record {
        memory = good.memory;
        own = good.own;
        activities = All-set (IsActivity c (terms_of u t) d.blocks) d.activities i (answered waiting r)
            (each_answer u t c d.blocks d.blocks waiting call d.memory r (λ b x. x) good.memory n.0 n.1 answers) good.activities;
      }
  moved d e good (grants more m b granting ranges) = record {
    memory = each_grant_keeps u t is.laid d.blocks more d.memory m b good.memory granting
        (new_zero t d.blocks more d.memory m b good.memory good.own granting ranges);
    own = own_granted t d.blocks more d.memory m b good.memory good.own granting ranges;
    activities = λ k x less. each_grant u t c d.blocks more (slice_index_or d.activities k x) granting.all (good.activities k x less);
  }
  moved d e good (begins k vs frames h numbers) = record {
    memory = good.memory;
    own = good.own;
    activities = All-cons (IsActivity c (terms_of u t) d.blocks) frames d.activities (each_start u t c is k vs frames h numbers d.blocks)
        good.activities;
  }

  first_good : (d : Driver) → IsFirst t d → Good d
  first_good d first = record {
    memory = each_load u t is.laid d.blocks d.memory first.loaded;
    own = first.own;
    activities = subst (All (IsActivity c (terms_of u t) d.blocks)) (sym first.none) (All-nil (IsActivity c (terms_of u t) d.blocks));
  }

  come : (first d : Driver) → IsFirst t first → Comes u t c first d → Good d
  come first d f start = first_good first f
  come first d f (onward b e comes moves) = moved b d (come first b f comes) moves

pub each_run : EachRunIsSafe
each_run u t c is first d f comes =
    let good = come u t c is first d f comes in
    (good, λ i frames at. safe_weaker (step c frames d.memory) _ _ (steps u t c is d good i frames at) (λ n e x. tt))
