-- Rounds of loops, one after another.
use Rattle.std.proofs.Common.{◌≡◌, inl, inr, ℕ, zero, suc, ◌+◌, ◌<◌, true, List, [], ◌∷◌, ◌++◌, length, drop, get_or, slice_set, Result, Ok, Err, OnOk, refl, sym, ap, ◌∙◌, subst, arith, drop-cons, add-one}
use Rattle.std.proofs.lemmas.Bool.Decides.{leb_tells}
use Rattle.std.proofs.lemmas.List.{append_assoc, append-nil, length-append}
use Rattle.std.proofs.Math.Seq.{set-append_seam}
use Rattle.std.proofs.Math.ListN.{drop_of_length-le}
use Rattle.checked_tree.specs.declared.expressions.CheckedExpr.{CheckedExpr}
use Rattle.checked_tree.specs.declared.statements.CheckedStmt.{CheckedStmt, out-CheckedStmt, map-CheckedStmt}
use Rattle.checked_tree.specs.declared.statements.CheckedStmt.TheOpen as S
use Rattle.checked_tree.specs.declared.statements.CheckedStmt.TheVariants as V
use Rattle.checked_tree.specs.declared.units.CheckedFn.{CheckedFn}
use Rattle.check_elim.specs.declared.lost.Lost.{Lost}
use Rattle.check_elim.specs.declared.table.Table.{Table}
use Rattle.check_elim.specs.Direct.{Passing, reading, passing, passings, pass_level, backs_of, backs, back}
use Rattle.check_elim.specs.Following.{is_plain}
use Rattle.check_elim.specs.Sets.{Facts, Marking, facts, size_of, ops_of}
use Rattle.check_elim.specs.Rounds.{AreRounds, Grown, Grows, Begins, Stand}
use Rattle.check_elim.proofs.Forms.{at_level, if_form, while_form}

-- ---- what is appended
are_append : (size : ℕ) (xs bs : List Facts) (ls ms : List Lost) → AreRounds size xs ls → AreRounds size bs ms → AreRounds size (xs ++ bs) (ls ++ ms)
are_append size [] bs [] ms g h = h
are_append size [] bs (l ∷ ls) ms g h = absurd g
are_append size (a ∷ xs) bs [] ms g h = absurd g
are_append size (a ∷ xs) bs (l ∷ ls) ms g h = (g.0, g.1, are_append size xs bs ls ms g.2 h)

pub grows_nothing : (size : ℕ) (bs : List Facts) (ls : List Lost) → bs ≡ [] → Grows size bs ls ls
unfolding Grows
grows_nothing size bs ls is = subst (λ b. Grown size b ls ls) (sym is) (record { new = []; joined = sym (append-nil ls); rounds = tt })

pub grows_then : (size : ℕ) (xs bs : List Facts) (x y z : List Lost) → Grows size xs x y → Grows size bs y z → Grows size (xs ++ bs) x z
unfolding Grows
grows_then size xs bs x y z g h =
    record {
      new = g.new ++ h.new;
      joined = h.joined ∙ (ap (λ l. l ++ h.new) g.joined ∙ append_assoc x g.new h.new);
      rounds = are_append size xs bs g.new h.new g.rounds h.rounds;
    }

-- at a call that may be refused
pub nothing_on_ok : {T E : Type 0} (r : Result T E) (size : ℕ) (bs : List Facts) (ls : List Lost) → bs ≡ [] → OnOk r (Grows size bs ls ls)
nothing_on_ok (Ok x) size bs ls is = grows_nothing size bs ls is
nothing_on_ok (Err x) size bs ls is = tt

-- the round of a loop in its place, in front of those in its body
pub grows_loop : (size : ℕ) (b : Facts) (bs : List Facts) (x y z : List Lost) (empty round : Lost) → Grows size bs (x ++ empty ∷ []) y → z ≡ slice_set y (length x) round → size_of round ≡ size → facts round ≡ b
    → Grows size (b ∷ bs) x z
unfolding Grows
grows_loop size b bs x y z empty round g is fits same =
    record {
      new = round ∷ g.new;
      joined = is ∙ (ap (λ l. slice_set l (length x) round) (g.joined ∙ append_assoc x (empty ∷ []) g.new) ∙ set-append_seam x empty g.new round);
      rounds = (fits, same, g.rounds);
    }

pub grown_past : (size : ℕ) (bs : List Facts) (x y : List Lost) (empty : Lost) → Grows size bs (x ++ empty ∷ []) y → length x < length y
unfolding Grows
grown_past size bs x y empty g =
    let total = ap length g.joined ∙ length-append (x ++ empty ∷ []) g.new in
    let first = length-append x (empty ∷ []) in
    omega (arith, total, first)

-- ---- what stands from a place on
begins_left : (size : ℕ) (xs bs : List Facts) (ls : List Lost) → Begins size (xs ++ bs) ls → Begins size xs ls
begins_left size [] bs ls h = tt
begins_left size (a ∷ xs) bs [] h = absurd h
begins_left size (a ∷ xs) bs (l ∷ ls) h = (h.0, h.1, begins_left size xs bs ls h.2)

begins_right : (size : ℕ) (xs bs : List Facts) (ls : List Lost) → Begins size (xs ++ bs) ls → Begins size bs (drop (length xs) ls)
begins_right size [] bs ls h = h
begins_right size (a ∷ xs) bs [] h = absurd h
begins_right size (a ∷ xs) bs (l ∷ ls) h = begins_right size xs bs ls h.2

drop_none : {X : Type 0} (k : ℕ) → ◌≡◌ {A = List X} (drop k []) []
drop_none zero = refl
drop_none (suc k) = refl

drop_twice : {X : Type 0} (n k : ℕ) (l : List X) → drop k (drop n l) ≡ drop (n + k) l
drop_twice zero k l = let e : k ≡ 0 + k = omega arith in ap (λ m. drop m l) e
drop_twice (suc n) k [] = drop_none k ∙ sym (drop_none (suc n + k))
drop_twice (suc n) k (x ∷ l) = let e : suc (n + k) ≡ suc n + k = omega arith in drop_twice n k l ∙ ap (λ m. drop m (x ∷ l)) e

pub stand_left : (size : ℕ) (xs bs : List Facts) (ls : List Lost) (next : ℕ) → Stand size (xs ++ bs) ls next → Stand size xs ls next
unfolding Stand
stand_left size xs bs ls next h = begins_left size xs bs (drop next ls) h

pub stand_right : (size : ℕ) (xs bs : List Facts) (ls : List Lost) (next : ℕ) → Stand size (xs ++ bs) ls next → Stand size bs ls (next + length xs)
unfolding Stand
stand_right size xs bs ls next h = subst (Begins size bs) (drop_twice next (length xs) ls) (begins_right size xs bs (drop next ls) h)

pub stand_within : (size : ℕ) (b : Facts) (bs : List Facts) (ls : List Lost) (next : ℕ) → Stand size (b ∷ bs) ls next → next < length ls
unfolding Stand
stand_within size b bs ls next h = elim (leb_tells (suc next) (length ls)) [
  | inl p ↦ omega (arith, p.1)
  | inr p ↦ absurd (subst (Begins size (b ∷ bs)) (drop_of_length-le ls (omega (arith, p.1))) h)
]

pub stand_first : (size : ℕ) (b : Facts) (bs : List Facts) (ls : List Lost) (next : ℕ) (d : Lost) → Stand size (b ∷ bs) ls next → (size_of (get_or ls next d) ≡ size) × (facts (get_or ls next d) ≡ b)
unfolding Stand
stand_first size b bs ls next d h =
    let k = subst (Begins size (b ∷ bs)) (drop-cons ls next d (stand_within size b bs ls next h)) h in (k.0, k.1)

pub stand_rest : (size : ℕ) (b : Facts) (bs : List Facts) (ls : List Lost) (next : ℕ) → Stand size (b ∷ bs) ls next → Stand size bs ls (next + 1)
stand_rest size b bs ls next h = stand_right size (b ∷ []) bs ls next h

are_begin : (size : ℕ) (bs : List Facts) (ls : List Lost) → AreRounds size bs ls → Begins size bs ls
are_begin size [] ls h = tt
are_begin size (b ∷ bs) [] h = absurd h
are_begin size (b ∷ bs) (l ∷ ls) h = (h.0, h.1, are_begin size bs ls h.2)

pub grown_stand : (size : ℕ) (bs : List Facts) (ls : List Lost) → Grows size bs [] ls → Stand size bs ls 0
unfolding Grows Stand
grown_stand size bs ls g = subst (Begins size bs) (sym g.joined) (are_begin size bs g.new g.rounds)

-- ---- the rounds in a statement
module _ (f : CheckedFn) (t : Table) where
  abbrev pub rounds_in : CheckedStmt → List Facts
  rounds_in st = backs_of (passing (ops_of f t) f.slots st)

  abbrev pub rounds_of : List CheckedStmt → List Facts
  rounds_of ss = backs (passings (ops_of f t) f.slots ss)

  level_whole : (z : S.CheckedStmt-F CheckedStmt) → is_plain z ≡ true → backs_of (pass_level (ops_of f t) f.slots (map-CheckedStmt CheckedStmt (Passing Facts Marking) (passing (ops_of f t) f.slots) z)) ≡ []
  level_whole (S.Empty line) p = refl
  level_whole (S.Assign line slot scalar value checks) p = refl
  level_whole (S.AssignAutomatic line slot hidden value checks) p = refl
  level_whole (S.Store line scalar place value checks) p = refl
  level_whole (S.Zero line place size) p = refl
  level_whole (S.Call line target function values checks) p = refl
  level_whole (S.Kernel line target name values pointer function elem size) p = refl
  level_whole (S.Return line value checks) p = refl
  level_whole (S.If line e a b) p = absurd (let w = p in cc)
  level_whole (S.While line e a) p = absurd (let w = p in cc)

  pub plain_whole : (st : CheckedStmt) → is_plain (out-CheckedStmt st) ≡ true → rounds_in st ≡ []
  plain_whole st p = ap backs_of (at_level (ops_of f t) f.slots st (out-CheckedStmt st) refl) ∙ level_whole (out-CheckedStmt st) p

  pub if_rounds : (line : ℕ) (e : CheckedExpr) (a b : List CheckedStmt) → rounds_in (V.If line e a b) ≡ rounds_of a ++ rounds_of b
  if_rounds line e a b = ap backs_of (if_form (ops_of f t) f.slots line e a b)

  pub while_rounds : (line : ℕ) (e : CheckedExpr) (b : List CheckedStmt)
      → rounds_in (V.While line e b) ≡ back (ops_of f t) (reading (ops_of f t) f.slots e) (passings (ops_of f t) f.slots b) ∷ rounds_of b
  while_rounds line e b = ap backs_of (while_form (ops_of f t) f.slots line e b)

  -- of the statements from a place on: those of the first, and those behind it
  pub next_rounds : (ss : List CheckedStmt) (k : ℕ) (d : CheckedStmt) → k < length ss → rounds_of (drop k ss) ≡ rounds_in (get_or ss k d) ++ rounds_of (drop (k + 1) ss)
  next_rounds ss k d low = ap rounds_of (drop-cons ss k d low ∙ ap (λ n. get_or ss k d ∷ drop n ss) (sym (add-one k)))
