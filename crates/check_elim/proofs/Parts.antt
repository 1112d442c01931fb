-- What an `if`, a loop and a list of statements make of the lost facts and of the marks, from what their parts make.
use Rattle.std.proofs.Common.{◌≡◌, ℕ, ◌+◌, ◌<◌, ◌≤◌, List, [], ◌∷◌, ◌++◌, length, drop, get_or, slice_get, slice_set, Some, sym, ap, ◌∙◌, subst, arith, drop-cons, add-one}
use Rattle.std.proofs.lemmas.List.{length-append}
use Rattle.std.proofs.Math.ListN.{drop_of_length-le}
use Rattle.std.proofs.lemmas.Option.{get_or_from_slice_get}
use Rattle.checked_tree.specs.declared.expressions.CheckedExpr.{CheckedExpr}
use Rattle.checked_tree.specs.declared.statements.CheckedStmt.{CheckedStmt}
use Rattle.checked_tree.specs.declared.statements.CheckedStmt.TheVariants as V
use Rattle.checked_tree.specs.declared.units.CheckedFn.{CheckedFn}
use Rattle.check_elim.specs.declared.lost.Lost.{Lost}
use Rattle.check_elim.specs.declared.table.Table.{Table}
use Rattle.check_elim.specs.Direct.{Reading, reading, passing, passings, act_of, back, behind, noted, through, telling, holds_of, fails_of, asked_of}
use Rattle.check_elim.specs.Sets.{Facts, Marking, facts, size_of, ops_of, either_all, guard_all, all_sure}
use Rattle.check_elim.specs.Rounds.{Grows, Stand}
use Rattle.check_elim.proofs.Forms.{if_form, while_form}
use Rattle.check_elim.proofs.Looping.{rounds_in, rounds_of, if_rounds, while_rounds, next_rounds, grows_then, grows_loop, grown_past, stand_left, stand_right, stand_first, stand_rest, stand_within}

-- the place of a loop's round is one of the list that its body's rounds have grown
pub grown_place : (size : ℕ) (bs : List Facts) (place : ℕ) (x w y : List Lost) (empty : Lost) → place ≡ length x → w ≡ x ++ empty ∷ [] → Grows size bs w y → place < length y
grown_place size bs place x w y empty at pushed g = subst (λ (n : ℕ). n < length y) (sym at) (grown_past size bs x y empty (subst (λ (l : List Lost). Grows size bs l y) pushed g))

module _ (f : CheckedFn) (t : Table) where
  abbrev read : CheckedExpr → Reading Facts Marking
  read e = reading (ops_of f t) f.slots e

  abbrev go : List CheckedStmt → Facts → Facts
  go ss = through (passings (ops_of f t) f.slots ss)

  abbrev tell : List CheckedStmt → Facts → Marking → Marking
  tell ss = telling (passings (ops_of f t) f.slots ss)

  abbrev past : CheckedStmt → Facts → Facts
  past st = behind (act_of (passing (ops_of f t) f.slots st))

  abbrev marked : CheckedStmt → Facts → Marking → Marking
  marked st = noted (act_of (passing (ops_of f t) f.slots st))

  abbrev round_of : CheckedExpr → List CheckedStmt → Facts
  round_of e b = back (ops_of f t) (read e) (passings (ops_of f t) f.slots b)

  -- ---- an `if`
  pub if_facts : (st : CheckedStmt) (line : ℕ) (e : CheckedExpr) (a b : List CheckedStmt) (old tested other first second joined : Facts)
      → st ≡ V.If line e a b → tested ≡ holds_of (read e) old → other ≡ fails_of (read e) old → first ≡ go a tested → second ≡ go b other → joined ≡ either_all first second
      → joined ≡ past st old
  if_facts st line e a b old tested other first second joined is h1 h2 h3 h4 h5 =
      h5
      ∙ (ap (λ x. either_all x second) (h3 ∙ ap (go a) h1)
      ∙ (ap (λ x. either_all (go a (holds_of (read e) old)) x) (h4 ∙ ap (go b) h2)
      ∙ sym (ap (λ p. behind (act_of p) old) (ap (passing (ops_of f t) f.slots) is ∙ if_form (ops_of f t) f.slots line e a b))))

  pub if_marks : (st : CheckedStmt) (line : ℕ) (e : CheckedExpr) (a b : List CheckedStmt) (old tested other : Facts) (m0 m1 m2 m3 : Marking)
      → st ≡ V.If line e a b → tested ≡ holds_of (read e) old → other ≡ fails_of (read e) old → m1 ≡ asked_of (read e) old m0 → m2 ≡ tell a tested m1 → m3 ≡ tell b other m2
      → m3 ≡ marked st old m0
  if_marks st line e a b old tested other m0 m1 m2 m3 is h1 h2 h3 h4 h5 =
      h5
      ∙ (ap (λ x. tell b x m2) h2
      ∙ (ap (tell b (fails_of (read e) old)) (h4 ∙ (ap (λ x. tell a x m1) h1 ∙ ap (tell a (holds_of (read e) old)) h3))
      ∙ sym (ap (λ p. noted (act_of p) old m0) (ap (passing (ops_of f t) f.slots) is ∙ if_form (ops_of f t) f.slots line e a b))))

  pub if_grows : (st : CheckedStmt) (line : ℕ) (e : CheckedExpr) (a b : List CheckedStmt) (size : ℕ) (x y z : List Lost)
      → st ≡ V.If line e a b → Grows size (rounds_of f t a) x y → Grows size (rounds_of f t b) y z → Grows size (rounds_in f t st) x z
  if_grows st line e a b size x y z is g h =
      subst (λ (l : List Facts). Grows size l x z) (sym (ap (rounds_in f t) is ∙ if_rounds f t line e a b)) (grows_then size (rounds_of f t a) (rounds_of f t b) x y z g h)

  -- ---- a loop
  pub round_facts : (e : CheckedExpr) (b : List CheckedStmt) (sure tested round : Facts) → sure ≡ all_sure → tested ≡ holds_of (read e) sure → round ≡ go b tested → round ≡ round_of e b
  round_facts e b sure tested round h1 h2 h3 = h3 ∙ ap (go b) (h2 ∙ ap (holds_of (read e)) h1)

  pub while_facts : (st : CheckedStmt) (line : ℕ) (e : CheckedExpr) (b : List CheckedStmt) (old round entered left : Facts)
      → st ≡ V.While line e b → round ≡ round_of e b → entered ≡ either_all old (guard_all old round) → left ≡ fails_of (read e) entered → left ≡ past st old
  while_facts st line e b old round entered left is h1 h2 h3 =
      h3
      ∙ (ap (fails_of (read e)) (h2 ∙ ap (λ r. either_all old (guard_all old r)) h1)
      ∙ sym (ap (λ p. behind (act_of p) old) (ap (passing (ops_of f t) f.slots) is ∙ while_form (ops_of f t) f.slots line e b)))

  pub while_marks : (st : CheckedStmt) (line : ℕ) (e : CheckedExpr) (b : List CheckedStmt) (old round entered tested : Facts) (m0 m1 m2 : Marking)
      → st ≡ V.While line e b → round ≡ round_of e b → entered ≡ either_all old (guard_all old round) → tested ≡ holds_of (read e) entered → m1 ≡ asked_of (read e) entered m0 → m2 ≡ tell b tested m1
      → m2 ≡ marked st old m0
  while_marks st line e b old round entered tested m0 m1 m2 is h1 h2 h3 h4 h5 =
      let came = h2 ∙ ap (λ r. either_all old (guard_all old r)) h1 in
      h5
      ∙ (ap (λ x. tell b x m1) (h3 ∙ ap (holds_of (read e)) came)
      ∙ (ap (tell b (holds_of (read e) (either_all old (guard_all old (round_of e b))))) (h4 ∙ ap (λ x. asked_of (read e) x m0) came)
      ∙ sym (ap (λ p. noted (act_of p) old m0) (ap (passing (ops_of f t) f.slots) is ∙ while_form (ops_of f t) f.slots line e b))))

  pub while_grows : (st : CheckedStmt) (line : ℕ) (e : CheckedExpr) (b : List CheckedStmt) (size place : ℕ) (x w y z : List Lost) (empty round : Lost)
      → st ≡ V.While line e b → place ≡ length x → w ≡ x ++ empty ∷ [] → Grows size (rounds_of f t b) w y → z ≡ slice_set y place round → size_of round ≡ size → facts round ≡ round_of e b
      → Grows size (rounds_in f t st) x z
  while_grows st line e b size place x w y z empty round is at pushed g set fits same =
      subst (λ (l : List Facts). Grows size l x z) (sym (ap (rounds_in f t) is ∙ while_rounds f t line e b))
      (grows_loop size (round_of e b) (rounds_of f t b) x y z empty round (subst (λ (l : List Lost). Grows size (rounds_of f t b) l y) pushed g) (set ∙ ap (λ n. slice_set y n round) at) fits same)

  -- ---- statements in a row
  next_of : (ss : List CheckedStmt) (k : ℕ) (d : CheckedStmt) → k < length ss → drop k ss ≡ get_or ss k d ∷ drop (k + 1) ss
  next_of ss k d low = drop-cons ss k d low ∙ ap (λ n. get_or ss k d ∷ drop n ss) (sym (add-one k))

  pub next_facts : (ss : List CheckedStmt) (k : ℕ) (st : CheckedStmt) (before behind_it : Facts) → k < length ss → st ≡ get_or ss k st → behind_it ≡ past st before
      → go (drop (k + 1) ss) behind_it ≡ go (drop k ss) before
  next_facts ss k st before behind_it low is h =
      ap (go (drop (k + 1) ss)) (h ∙ ap (λ s. past s before) is) ∙ sym (ap (λ l. go l before) (next_of ss k st low))

  pub next_marks : (ss : List CheckedStmt) (k : ℕ) (st : CheckedStmt) (before behind_it : Facts) (m n : Marking) → k < length ss → st ≡ get_or ss k st → behind_it ≡ past st before → n ≡ marked st before m
      → tell (drop (k + 1) ss) behind_it n ≡ tell (drop k ss) before m
  next_marks ss k st before behind_it m n low is h g =
      ap (λ w. tell (drop (k + 1) ss) w n) (h ∙ ap (λ s. past s before) is)
      ∙ (ap (tell (drop (k + 1) ss) (past (get_or ss k st) before)) (g ∙ ap (λ s. marked s before m) is) ∙ sym (ap (λ l. tell l before m) (next_of ss k st low)))

  pub next_grows : (ss : List CheckedStmt) (k : ℕ) (st : CheckedStmt) (size : ℕ) (x y z : List Lost) → k < length ss → st ≡ get_or ss k st → Grows size (rounds_in f t st) x y
      → Grows size (rounds_of f t (drop (k + 1) ss)) y z → Grows size (rounds_of f t (drop k ss)) x z
  next_grows ss k st size x y z low is g h =
      subst (λ (l : List Facts). Grows size l x z) (sym (next_rounds f t ss k st low))
      (grows_then size (rounds_in f t (get_or ss k st)) (rounds_of f t (drop (k + 1) ss)) x y z (subst (λ (s : CheckedStmt). Grows size (rounds_in f t s) x y) is g) h)

  pub none_left : (ss : List CheckedStmt) (k : ℕ) → length ss ≤ k → rounds_of f t (drop k ss) ≡ []
  none_left ss k high = ap (rounds_of f t) (drop_of_length-le ss high)

  -- ---- the rounds that stand for the loops in them
  pub next_stands : (ss : List CheckedStmt) (k : ℕ) (st : CheckedStmt) (size place : ℕ) (ls : List Lost) → k < length ss → st ≡ get_or ss k st → Stand size (rounds_of f t (drop k ss)) ls place
      → Stand size (rounds_in f t st) ls place
  next_stands ss k st size place ls low is h =
      subst (λ (s : CheckedStmt). Stand size (rounds_in f t s) ls place) (sym is)
      (stand_left size (rounds_in f t (get_or ss k st)) (rounds_of f t (drop (k + 1) ss)) ls place (subst (λ (l : List Facts). Stand size l ls place) (next_rounds f t ss k st low) h))

  pub rest_stands : (ss : List CheckedStmt) (k : ℕ) (st : CheckedStmt) (size place after : ℕ) (ls : List Lost) → k < length ss → st ≡ get_or ss k st → Stand size (rounds_of f t (drop k ss)) ls place
      → after ≡ place + length (rounds_in f t st) → Stand size (rounds_of f t (drop (k + 1) ss)) ls after
  rest_stands ss k st size place after ls low is h at =
      subst (λ (n : ℕ). Stand size (rounds_of f t (drop (k + 1) ss)) ls n) (sym (at ∙ ap (λ s. place + length (rounds_in f t s)) is))
      (stand_right size (rounds_in f t (get_or ss k st)) (rounds_of f t (drop (k + 1) ss)) ls place (subst (λ (l : List Facts). Stand size l ls place) (next_rounds f t ss k st low) h))

  pub rest_length : (ss : List CheckedStmt) (k : ℕ) (st : CheckedStmt) (place after : ℕ) → k < length ss → st ≡ get_or ss k st → after ≡ place + length (rounds_in f t st)
      → after + length (rounds_of f t (drop (k + 1) ss)) ≡ place + length (rounds_of f t (drop k ss))
  rest_length ss k st place after low is at =
      let whole = ap length (next_rounds f t ss k st low) ∙ length-append (rounds_in f t (get_or ss k st)) (rounds_of f t (drop (k + 1) ss)) in
      let one = ap (λ s. length (rounds_in f t s)) is in
      omega (arith, whole, one, at)

  pub if_stands_first : (st : CheckedStmt) (line : ℕ) (e : CheckedExpr) (a b : List CheckedStmt) (size next : ℕ) (ls : List Lost) → st ≡ V.If line e a b → Stand size (rounds_in f t st) ls next
      → Stand size (rounds_of f t a) ls next
  if_stands_first st line e a b size next ls is h =
      stand_left size (rounds_of f t a) (rounds_of f t b) ls next (subst (λ (l : List Facts). Stand size l ls next) (ap (rounds_in f t) is ∙ if_rounds f t line e a b) h)

  pub if_stands_second : (st : CheckedStmt) (line : ℕ) (e : CheckedExpr) (a b : List CheckedStmt) (size next middle : ℕ) (ls : List Lost) → st ≡ V.If line e a b → Stand size (rounds_in f t st) ls next
      → middle ≡ next + length (rounds_of f t a) → Stand size (rounds_of f t b) ls middle
  if_stands_second st line e a b size next middle ls is h at =
      subst (λ (n : ℕ). Stand size (rounds_of f t b) ls n) (sym at)
      (stand_right size (rounds_of f t a) (rounds_of f t b) ls next (subst (λ (l : List Facts). Stand size l ls next) (ap (rounds_in f t) is ∙ if_rounds f t line e a b) h))

  pub if_length : (st : CheckedStmt) (line : ℕ) (e : CheckedExpr) (a b : List CheckedStmt) (next middle end : ℕ) → st ≡ V.If line e a b → middle ≡ next + length (rounds_of f t a)
      → end ≡ middle + length (rounds_of f t b) → end ≡ next + length (rounds_in f t st)
  if_length st line e a b next middle end is h g =
      let whole = ap length (ap (rounds_in f t) is ∙ if_rounds f t line e a b) ∙ length-append (rounds_of f t a) (rounds_of f t b) in
      omega (arith, whole, h, g)

  loop_rounds : (st : CheckedStmt) (line : ℕ) (e : CheckedExpr) (b : List CheckedStmt) → st ≡ V.While line e b → rounds_in f t st ≡ round_of e b ∷ rounds_of f t b
  loop_rounds st line e b is = ap (rounds_in f t) is ∙ while_rounds f t line e b

  pub while_stands_within : (st : CheckedStmt) (line : ℕ) (e : CheckedExpr) (b : List CheckedStmt) (size next : ℕ) (ls : List Lost) → st ≡ V.While line e b → Stand size (rounds_in f t st) ls next → next < length ls
  while_stands_within st line e b size next ls is h =
      stand_within size (round_of e b) (rounds_of f t b) ls next (subst (λ (l : List Facts). Stand size l ls next) (loop_rounds st line e b is) h)

  pub while_stands_size : (st : CheckedStmt) (line : ℕ) (e : CheckedExpr) (b : List CheckedStmt) (size next : ℕ) (ls : List Lost) (r : Lost) → st ≡ V.While line e b → Stand size (rounds_in f t st) ls next
      → slice_get ls next ≡ Some r → size_of r ≡ size
  while_stands_size st line e b size next ls r is h at =
      sym (ap size_of (get_or_from_slice_get ls next r r at))
      ∙ (stand_first size (round_of e b) (rounds_of f t b) ls next r (subst (λ (l : List Facts). Stand size l ls next) (loop_rounds st line e b is) h)).0

  pub while_stands_facts : (st : CheckedStmt) (line : ℕ) (e : CheckedExpr) (b : List CheckedStmt) (size next : ℕ) (ls : List Lost) (r : Lost) → st ≡ V.While line e b → Stand size (rounds_in f t st) ls next
      → slice_get ls next ≡ Some r → facts r ≡ round_of e b
  while_stands_facts st line e b size next ls r is h at =
      sym (ap facts (get_or_from_slice_get ls next r r at))
      ∙ (stand_first size (round_of e b) (rounds_of f t b) ls next r (subst (λ (l : List Facts). Stand size l ls next) (loop_rounds st line e b is) h)).1

  pub while_stands_rest : (st : CheckedStmt) (line : ℕ) (e : CheckedExpr) (b : List CheckedStmt) (size next place : ℕ) (ls : List Lost) → st ≡ V.While line e b → Stand size (rounds_in f t st) ls next
      → place ≡ next + 1 → Stand size (rounds_of f t b) ls place
  while_stands_rest st line e b size next place ls is h at =
      subst (λ (n : ℕ). Stand size (rounds_of f t b) ls n) (sym at)
      (stand_rest size (round_of e b) (rounds_of f t b) ls next (subst (λ (l : List Facts). Stand size l ls next) (loop_rounds st line e b is) h))

  pub while_length : (st : CheckedStmt) (line : ℕ) (e : CheckedExpr) (b : List CheckedStmt) (next place end : ℕ) → st ≡ V.While line e b → place ≡ next + 1 → end ≡ place + length (rounds_of f t b)
      → end ≡ next + length (rounds_in f t st)
  while_length st line e b next place end is at h =
      let whole = ap length (loop_rounds st line e b is) in
      omega (arith, whole, at, h)
