-- A statement writes to what was granted alone, and so does a step.
use Rattle.std.proofs.Common.{◌≡◌, ◌⊎◌, inl, inr, ℕ, ◌+◌, ◌≤◌, ◌<◌, nat_lt, Bool, true, false, List, [], ◌∷◌, length, take, drop, ℤ}
use Rattle.std.proofs.Common.{◌-◌, ◌++◌, Option, Some, None, Ok, Err, slice_get, slice_index_or, if◌then◌else◌}
use Rattle.std.proofs.Common.{refl, sym, ap, ◌∙◌, subst, arith}
use Rattle.std.specs.List.{Any}
use Rattle.std.proofs.Common.{true≢false, append-nil, take-append-drop}
use Rattle.std.proofs.lemmas.Bool.Decides.{nat_tests}
use Rattle.std.proofs.lemmas.List.{get_or_past}
use Rattle.std.proofs.lemmas.List.Folds.{Any-from_list_any, list_any-from_Any}
use Rattle.byte_memory.specs.declared.tested.GrantedRange.{GrantedRange}
use Rattle.byte_memory.specs.Bytes.{low_bytes, overwritten, zeros}
use Rattle.byte_memory.specs.Tested.{Memory, contains, is_inside}
use Rattle.byte_memory.proofs.Addresses.{length-low_bytes}
use Rattle.byte_memory.proofs.Grants.{contains_bounds}
use Rattle.byte_memory.proofs.Words.{length-zeros, length-overwritten}
use Rattle.sd_base.specs.declared.kinds.FailKind.TheVariants as fail
use Rattle.checked_tree.specs.declared.stops.Stop.TheVariants.{Failed, Wild}
use Rattle.checked_tree.specs.declared.statements.CheckedStmt.{CheckedStmt, out-CheckedStmt}
use Rattle.checked_tree.specs.declared.statements.CheckedStmt.TheOpen as S
use Rattle.checked_tree.specs.declared.units.CheckedFn.{CheckedFn}
use Rattle.checked_tree.specs.declared.units.CheckedUnit.{CheckedUnit}
use Rattle.checked_tree.specs.Act.{Turn, On, Into, Calls, Asks, Returns, Acted, act, with_local, with_pointer, remembers, kernel_call}
use Rattle.checked_tree.specs.Conditions.{State}
use Rattle.checked_tree.specs.Eval.{eval, tests}
use Rattle.checked_tree.specs.Memory.{reached, written, store, cleared}
use Rattle.checked_tree.specs.Numbers.{holds, word_of, scalar_size, low_bits}
use Rattle.checked_tree.specs.Operands.{operand, taken, arguments, optional_operand, optional_argument}
use Rattle.checked_tree.specs.Outcome.{Outcome, ◌>>=◌}
use Rattle.checked_tree.specs.Step.{Frame, Activity, Next, Went, Wants, Ended, called, resume, returned, turned, step_of, step_kept, step}
use Rattle.checked_tree.specs.Step.{entered, picked, resumed, line_of, state_of, target_of, with_returned}
use Rattle.driver_safety.specs.OutsideLaw.{IsThere, StaysOutside, memory_behind, EachStepStaysInside}
use Rattle.driver_safety.proofs.checks.GivenOutcomes.{then_ok, ok_same}
use Rattle.driver_safety.proofs.memory.Outside.{other_byte}

pub nothing_changed : (m : Memory) → StaysOutside m m
nothing_changed m = record { granted = refl; long = refl; same = λ k out. refl }

-- ---- a write
-- a part of what is inside is inside
pub part_inside : (m : Memory) (at n k : ℕ) → is_inside m at n ≡ true → at ≤ k → k < at + n → is_inside m k 1 ≡ true
part_inside m at n k inside from to =
    let found : Any (λ range. contains at n range ≡ true) m.granted = Any-from_list_any (contains at n) m.granted inside in
    list_any-from_Any (contains k 1) m.granted (found.0, found.1, found.2, found.3, here found.1 found.4)
  where
    here : (range : GrantedRange) → contains at n range ≡ true → contains k 1 range ≡ true
    here range is =
        let bounds : (range.base ≤ at) × (at + n ≤ range.base + range.size) = contains_bounds at n range is in
        grind (arith, nat_tests)

reached_is : (m : Memory) (at : ℤ) (n a : ℕ) → reached m at n ≡ Ok a → is_inside m a n ≡ true
unfolding reached
reached_is m at n a h =
    let w = then_ok (word_of at) (λ a. if is_inside m a n then Ok a else Err Wild) a h in
    by (is_inside m w.0 n) w.0 refl w.2
  where
    by : (b : Bool) (x : ℕ) → is_inside m x n ≡ b → (if b then Ok x else Err Wild) ≡ Ok a → is_inside m a n ≡ true
    by true x e h = subst (λ (y : ℕ). is_inside m y n ≡ true) (ok_same x a h) e
    by false x e h = absurd cc

end_there : (m : Memory) (a n : ℕ) → IsThere m → is_inside m a n ≡ true → 0 < n → a + n ≤ length m.bytes
end_there m a n there inside some = by (n - 1) (omega (arith, some))
  where
    by : (k : ℕ) → n ≡ k + 1 → a + n ≤ length m.bytes
    by k e = let last = there (a + k) (part_inside m a n (a + k) inside (omega arith) (omega (arith, e))) in omega (arith, e, last)

-- nothing is written
none_written : (bytes : List ℕ) (a : ℕ) → overwritten bytes a [] ≡ bytes
unfolding overwritten
none_written bytes a =
    let same : a ≡ a + 0 = omega arith in
    subst (λ (l : List ℕ). l ++ drop (a + 0) bytes ≡ bytes) (sym (append-nil (take a bytes)))
    (subst (λ (n : ℕ). take a bytes ++ drop n bytes ≡ bytes) same (take-append-drop a bytes))

overwrites : (m : Memory) (a n : ℕ) (new : List ℕ) → length new ≡ n → IsThere m → is_inside m a n ≡ true
    → StaysOutside m (record m { bytes = overwritten m.bytes a new })
overwrites m a n [] long there inside = record {
  granted = refl;
  long = ap length (none_written m.bytes a);
  same = λ k out. ap (λ (l : List ℕ). slice_index_or l k 0) (none_written m.bytes a);
}
overwrites m a n (b ∷ bs) long there inside = record {
  granted = refl;
  long = length-overwritten m.bytes (b ∷ bs) a fits;
  same = λ k out. by k out (nat_lt k (length m.bytes)) refl;
}
  where
    fits : a + length (b ∷ bs) ≤ length m.bytes
    fits = let end = end_there m a n there inside (omega (arith, long)) in omega (arith, long, end)

    apart : (k : ℕ) → is_inside m k 1 ≡ false → (x y : Bool) → nat_lt k a ≡ x → nat_lt k (a + n) ≡ y
        → (k + 1 ≤ a) ⊎ (a + length (b ∷ bs) ≤ k)
    apart k out true y e d = inl (let l : k < a = grind (arith, nat_tests) in omega (arith, l))
    apart k out false false e d = inr (let l : a + n ≤ k = grind (arith, nat_tests) in omega (arith, l, long))
    apart k out false true e d =
        let from : a ≤ k = grind (arith, nat_tests) in
        let to : k < a + n = grind (arith, nat_tests) in
        absurd (true≢false (sym (part_inside m a n k inside from to) ∙ out))

    by : (k : ℕ) → is_inside m k 1 ≡ false → (x : Bool) → nat_lt k (length m.bytes) ≡ x
        → slice_index_or (overwritten m.bytes a (b ∷ bs)) k 0 ≡ slice_index_or m.bytes k 0
    by k out true e =
        let less : k < length m.bytes = grind (arith, nat_tests) in
        other_byte m.bytes (b ∷ bs) a k fits less (apart k out (nat_lt k a) (nat_lt k (a + n)) refl refl)
    by k out false e =
        let past : length m.bytes ≤ k = grind (arith, nat_tests) in
        let same = length-overwritten m.bytes (b ∷ bs) a fits in
        get_or_past (overwritten m.bytes a (b ∷ bs)) k 0 (omega (arith, past, same)) ∙ sym (get_or_past m.bytes k 0 past)

writes : (m after : Memory) (at : ℤ) (n : ℕ) (new : List ℕ) → length new ≡ n → IsThere m → written m at n new ≡ Ok after
    → StaysOutside m after
unfolding written
writes m after at n new long there h =
    let r = then_ok (reached m at n) (λ a. Ok (record m { bytes = overwritten m.bytes a new })) after h in
    subst (StaysOutside m) (ok_same (record m { bytes = overwritten m.bytes r.0 new }) after r.2)
    (overwrites m r.0 n new long there (reached_is m at n r.0 r.1))

-- ---- a statement
abbrev Stays : Memory → Outcome Acted → Type 0
Stays m r = (a : Acted) → r ≡ Ok a → StaysOutside m a.state.memory

stays_then : {A : Type 0} (m : Memory) (r : Outcome A) (g : A → Outcome Acted) → ((x : A) → Stays m (g x)) → Stays m (r >>= g)
stays_then m (Ok x) g k a h = k x a h
stays_then m (Err stop) g k a h = absurd cc

stays_ok : (m : Memory) (x : Acted) → StaysOutside m x.state.memory → Stays m (Ok x)
stays_ok m x good a h = subst (λ (y : Acted). StaysOutside m y.state.memory) (ok_same x a h) good

module _ (f : CheckedFn) (s : State) (there : IsThere s.memory) where
  on : (t : State) (turn : Turn) → t.memory ≡ s.memory → Stays s.memory (Ok (record { state = t; turn = turn }))
  on t turn e = stays_ok s.memory (record { state = t; turn = turn }) (subst (StaysOutside s.memory) (sym e) (nothing_changed s.memory))

  remembering : (at : ℤ) (n : ℕ) (new : List ℕ) → length new ≡ n → Stays s.memory (written s.memory at n new >>= remembers s)
  remembering at n new long a h =
      let r = then_ok (written s.memory at n new) (remembers s) a h in
      stays_ok s.memory (record { state = record s { memory = r.0 }; turn = On }) (writes s.memory r.0 at n new long there r.1) a r.2

  pub act_stays : (x : S.CheckedStmt-F CheckedStmt) → Stays s.memory (act [] f s x)
  unfolding act store cleared
  act_stays (S.Empty line) = on s On refl
  act_stays (S.Assign line slot scalar value checks) =
      stays_then s.memory (eval [] f s value) _ (λ v. stays_then s.memory (tests [] f s checks) _ (λ u.
      stays_then s.memory (taken scalar v) _ (λ w. on (with_local s slot w) On refl)))
  act_stays (S.AssignAutomatic line slot hidden value checks) =
      stays_then s.memory (operand [] f s value) _ (λ p. stays_then s.memory (tests [] f s checks) _ (λ u.
      on (with_pointer s slot hidden p) On refl))
  act_stays (S.Store line scalar place value checks) =
      stays_then s.memory (eval [] f s value) _ (λ v. stays_then s.memory (eval [] f s place) _ (λ a.
      stays_then s.memory (tests [] f s checks) _ (λ u. stays_then s.memory (taken scalar v) _ (λ w.
      remembering a (scalar_size scalar) (low_bytes (scalar_size scalar) (low_bits 32 w))
      (length-low_bytes (scalar_size scalar) (low_bits 32 w))))))
  act_stays (S.Zero line place size) =
      stays_then s.memory (eval [] f s place) _ (λ a. remembering a size (zeros size) (length-zeros size))
  act_stays (S.Call line target function values checks) =
      stays_then s.memory (arguments [] f s values) _ (λ vs. stays_then s.memory (tests [] f s checks) _ (λ u.
      on s (Calls function vs) refl))
  act_stays (S.Kernel line target name values pointer function elem size) =
      stays_then s.memory (arguments [] f s values) _ (λ vs. stays_then s.memory (optional_operand [] f s pointer) _ (λ p.
      on s (Asks (kernel_call name function elem size vs p)) refl))
  act_stays (S.Return line value checks) =
      stays_then s.memory (optional_argument [] f s value) _ (λ v. stays_then s.memory (tests [] f s checks) _ (λ u. on s (Returns v) refl))
  act_stays (S.If line test first second) = stays_then s.memory (eval [] f s test) _ (λ v. on s (Into (holds v)) refl)
  act_stays (S.While line test body) = stays_then s.memory (eval [] f s test) _ (λ v. on s (Into (holds v)) refl)

-- ---- a step
abbrev Leaves : Memory → Outcome Next → Type 0
Leaves m r = (n : Next) → r ≡ Ok n → StaysOutside m (memory_behind m n)

leaves_then : {A : Type 0} (m : Memory) (r : Outcome A) (g : A → Outcome Next) → ((x : A) → r ≡ Ok x → Leaves m (g x)) → Leaves m (r >>= g)
leaves_then m (Ok x) g k n h = k x refl n h
leaves_then m (Err stop) g k n h = absurd cc

leaves_ok : (m : Memory) (x : Next) → StaysOutside m (memory_behind m x) → Leaves m (Ok x)
leaves_ok m x good n h = subst (λ (y : Next). StaysOutside m (memory_behind m y)) (ok_same x n h) good

module _ (unit : CheckedUnit) (f : CheckedFn) (m : Memory) where
  called_leaves : (line number : ℕ) (values : List ℤ) (o : Option CheckedFn) (frames : Activity) (after : Memory) → StaysOutside m after
      → Leaves m (called line number values o frames after)
  called_leaves line number values None frames after good = λ n h. absurd cc
  called_leaves line number values (Some g) frames after good = by (nat_lt (length frames) 64)
    where
      by : (b : Bool) → Leaves m (if b then Ok (Went (entered number values g ∷ frames) after) else Err (Failed line fail.Stack))
      by true = leaves_ok m (Went (entered number values g ∷ frames) after) good
      by false = λ n h. absurd cc

  resume_leaves : (caller : Frame) (todo : List CheckedStmt) (below : Activity) (after : Memory) (r : Option ℤ) → StaysOutside m after
      → Leaves m (resume f.result caller todo below after r)
  resume_leaves caller [] below after r good = λ n h. absurd cc
  resume_leaves caller (s ∷ rest) below after r good =
      leaves_then m (with_returned f.result (state_of caller after) (target_of (out-CheckedStmt s)) r) (resumed caller s rest below after)
      (λ t e. leaves_ok m (Went (record caller { locals = t.locals; todo = rest } ∷ below) after) good)

  returned_leaves : (below : Activity) (after : Memory) (r : Option ℤ) → StaysOutside m after → Leaves m (returned f.result below after r)
  returned_leaves [] after r good = leaves_ok m (Ended r) (nothing_changed m)
  returned_leaves (caller ∷ below) after r good = resume_leaves caller caller.todo below after r good

  turned_leaves : (top : Frame) (s : CheckedStmt) (rest : List CheckedStmt) (below : Activity) (turn : Turn) (t : State)
      → StaysOutside m t.memory → Leaves m (turned unit f top s rest below turn t)
  turned_leaves top s rest below On t good = leaves_ok m (Went (record top { locals = t.locals; todo = rest } ∷ below) t.memory) good
  turned_leaves top s rest below (Into b) t good =
      leaves_ok m (Went (record top { locals = t.locals; todo = picked s b rest } ∷ below) t.memory) good
  turned_leaves top s rest below (Calls number values) t good =
      called_leaves (line_of (out-CheckedStmt s)) number values (slice_get unit.functions number) (top ∷ below) t.memory good
  turned_leaves top s rest below (Asks call) t good = leaves_ok m (Wants (top ∷ below) call) (nothing_changed m)
  turned_leaves top s rest below (Returns r) t good = returned_leaves below t.memory r good

top_leaves : (unit : CheckedUnit) (top : Frame) (below : Activity) (m : Memory) → IsThere m → (o : Option CheckedFn)
    (todo : List CheckedStmt)
    → Leaves m (step_of [] unit top below m o todo)
top_leaves unit top below m there None todo = λ n h. absurd cc
top_leaves unit top below m there (Some f) [] = λ n h. absurd cc
top_leaves unit top below m there (Some f) (s ∷ rest) =
    leaves_then m (act [] f (state_of top m) (out-CheckedStmt s)) (λ w. turned unit f top s rest below w.turn w.state)
    (λ a e. turned_leaves unit f m top s rest below a.turn a.state (act_stays f (state_of top m) there (out-CheckedStmt s) a e))

pub each_step_inside : EachStepStaysInside
unfolding step step_kept
each_step_inside c [] m n there h = absurd cc
each_step_inside c (top ∷ below) m n there h =
    top_leaves c top below m there (slice_get c.functions top.function) top.todo n h
