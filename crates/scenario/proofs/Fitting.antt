-- What a line says lies in the ranges of its form.
-- Here: said_fits
use Rattle.std.proofs.Common.{◌≡◌, ℕ, ◌+◌, ◌≤◌, Bool, true, false, cond, ◌&&◌, List, [], ◌∷◌, ◌++◌, length, leb, eqb, not, Option, None, Some, Result, Ok, Err, ℤ, refl, ap, subst, map, zero-add, arith, length-append, codes}
use Rattle.std.specs.Option.{option_map}
use Rattle.std.proofs.lemmas.Bool.{leb-true}
use Rattle.std.proofs.lemmas.Option.{same_Some, cond_some}
use Rattle.scenario.specs.declared.keywords.Keyword.{Keyword}
use Rattle.scenario.specs.declared.keywords.Keyword.TheVariants as keyword
use Rattle.scenario.specs.declared.event.Event.{Event}
use Rattle.scenario.specs.declared.event.Event.TheVariants as e
use Rattle.scenario.specs.declared.refusal.ScenarioRefusal.{ScenarioRefusal}
use Rattle.std.specs.Str.{bytes_eq}
use Rattle.scenario.specs.Numbers.{is_number, value_of, number_within, is_name, driver_of, task_of}
use Rattle.scenario.specs.Keywords.{keyword_of}
use Rattle.scenario.specs.Forms.{Said, nothing, event, answers, ◌>>=◌, only_of, two_of, none_of, are_values, values_in, arguments_in, driver_and_task, only_number, restarts_said, load_said, call_said, kernel_said, answers_said, keyword_said, is_version_two, line_said}
use Rattle.scenario.specs.Scenarios.{version_in, lines_said, worded, version_of, saids_of, answers_given, first_refusal, events_said, unless_refused, scenario_of}
use Rattle.scenario.specs.Fits.{IsDriver, IsTask, most_restarts, IsFit, AllFit, AnswersFollow}

-- what a chain of steps gives, its first step gave something for
record Bound {A B : Type 0} (o : Option A) (f : A → Option B) (y : B) : Type 0 where
  x : A
  was : o ≡ Some x
  then : f x ≡ Some y

bound : {A B : Type 0} (o : Option A) (f : A → Option B) (y : B) → (o >>= f) ≡ Some y → Bound o f y
bound None f y h = absurd (cc)
bound (Some x) f y h = record { x = x; was = refl; then = h }

mapped : {A B : Type 0} (f : A → B) (o : Option A) (y : B) → option_map f o ≡ Some y → (x : A) × (o ≡ Some x) × (f x ≡ y)
mapped f None y h = absurd (cc)
mapped f (Some x) y h = (x, refl, same_Some _ _ h)

both : (a b : Bool) → (a && b) ≡ true → (a ≡ true) × (b ≡ true)
both true b h = (refl, h)
both false b h = absurd (cc)

within : (least most : ℕ) (word : List ℕ) (n : ℕ) → number_within least most word ≡ Some n → (least ≤ n) × (n ≤ most)
within least most word n h =
    let found = cond_some (is_number word && (leb least (value_of word) && leb (value_of word) most)) (value_of word) n h in
    let ranges = both (leb least (value_of word)) (leb (value_of word) most) (both (is_number word) _ found.0).1 in
    subst (λ k. (least ≤ k) × (k ≤ most)) found.1 (leb-true _ _ ranges.0, leb-true _ _ ranges.1)

d_fits : (b : Bool) (drivers : ℕ) (bytes : List ℕ) (d : ℕ) → cond b (number_within 1 drivers bytes) None ≡ Some d → IsDriver drivers d
d_fits true drivers bytes d h = within 1 drivers bytes d h
d_fits false drivers bytes d h = absurd (cc)

driver_fits : (drivers : ℕ) (word : List ℕ) (d : ℕ) → driver_of drivers word ≡ Some d → IsDriver drivers d
driver_fits drivers [] d h = absurd (cc)
driver_fits drivers (b ∷ bytes) d h = d_fits (eqb b 100) drivers bytes d h

task_fits : (word : List ℕ) (t : ℕ) → task_of word ≡ Some t → IsTask t
task_fits word t h = within 1 8 word t h

named_fits : (drivers : ℕ) (words : List (List ℕ)) (named : ℕ × ℕ) → driver_and_task drivers words ≡ Some named → IsDriver drivers named.0 × IsTask named.1
named_fits drivers words named h =
    let two = bound (two_of words) _ named h in
    let driver = bound (driver_of drivers two.x.0) _ named two.then in
    let task = bound (task_of two.x.1) _ named driver.then in
    let pair = same_Some _ _ task.then in
    (subst (IsDriver drivers) (ap (λ p. p.0) pair) (driver_fits drivers two.x.0 driver.x driver.was), subst IsTask (ap (λ p. p.1) pair) (task_fits two.x.1 task.x task.was))

-- no range of answers: a line gives the values themselves
abbrev pub IsNoAnswer : Event → Type 0
IsNoAnswer (e.Answer port first n) = ⊥
IsNoAnswer said = Unit {0}

abbrev pub FitsEvent : ℕ → ℕ → Event → Type 0
FitsEvent version drivers said = IsFit version drivers said × IsNoAnswer said

-- what a line says, its numbers in their ranges
abbrev pub FitsSaid : ℕ → ℕ → Said → Type 0
FitsSaid version drivers nothing = Unit {0}
FitsSaid version drivers (event said) = FitsEvent version drivers said
FitsSaid version drivers (answers port values) = port ≤ 65535

says : (version drivers : ℕ) (said is : Said) → Some is ≡ Some said → FitsSaid version drivers is → FitsSaid version drivers said
says version drivers said is h fits = subst (FitsSaid version drivers) (same_Some _ _ h) fits

number_fits : (most : ℕ) (words : List (List ℕ)) (n : ℕ) → only_number most words ≡ Some n → n ≤ most
number_fits most words n h = let word = bound (only_of words) _ n h in (within 0 most word.x n word.then).1

worded_number : (b : Bool) (word : List ℕ) (n : ℕ) → cond b (number_within 0 100 word) None ≡ Some n → n ≤ 100
worded_number true word n h = (within 0 100 word n h).1
worded_number false word n h = absurd (cc)

restarts_by : (b : Bool) (words : List (List ℕ)) (n : ℕ) → cond b (two_of words >>= λ two. cond (bytes_eq two.0 (codes "restarts")) (number_within 0 100 two.1) None) None ≡ Some n → n ≤ cond b 100 0
restarts_by true words n h = let two = bound (two_of words) _ n h in worded_number (bytes_eq two.x.0 (codes "restarts")) two.x.1 n two.then
restarts_by false words n h = absurd (cc)

restarts_fit : (version : ℕ) (words : List (List ℕ)) (n : ℕ) → restarts_said version words ≡ Some n → n ≤ most_restarts version
restarts_fit version [] n h = subst (λ k. k ≤ most_restarts version) (same_Some _ _ h) (omega arith)
restarts_fit version (word ∷ words) n h = restarts_by (eqb version 2) (word ∷ words) n h

load_fits : (version drivers : ℕ) (words : List (List ℕ)) (said : Event) → load_said version drivers words ≡ Some said → FitsEvent version drivers said
load_fits version drivers [] said h = absurd (cc)
load_fits version drivers (driver ∷ []) said h = absurd (cc)
load_fits version drivers (driver ∷ task ∷ words) said h =
    let d = bound (driver_of drivers driver) _ said h in
    let t = bound (task_of task) _ said d.then in
    let r = bound (restarts_said version words) _ said t.then in
    subst (FitsEvent version drivers) (same_Some _ _ r.then) ((driver_fits drivers driver d.x d.was, task_fits task t.x t.was, restarts_fit version words r.x r.was), tt)

call_fits : (version drivers : ℕ) (words : List (List ℕ)) (said : Event) → call_said drivers words ≡ Some said → FitsEvent version drivers said
call_fits version drivers [] said h = absurd (cc)
call_fits version drivers (driver ∷ []) said h = absurd (cc)
call_fits version drivers (driver ∷ task ∷ []) said h = absurd (cc)
call_fits version drivers (driver ∷ task ∷ name ∷ words) said h =
    let d = bound (driver_of drivers driver) _ said h in
    let t = bound (task_of task) _ said d.then in
    let found = cond_some (is_name name && (are_values words && leb (length words) 8)) (e.Call d.x t.x name (arguments_in words) (length words)) said t.then in
    let few = leb-true _ _ (both (are_values words) _ (both (is_name name) _ found.0).1).1 in
    subst (FitsEvent version drivers) found.1 ((driver_fits drivers driver d.x d.was, task_fits task t.x t.was, few), tt)

answers_fit : (version drivers : ℕ) (words : List (List ℕ)) (said : Said) → answers_said words ≡ Some said → FitsSaid version drivers said
answers_fit version drivers [] said h = absurd (cc)
answers_fit version drivers (port ∷ words) said h =
    let p = bound (number_within 0 65535 port) _ said h in
    let found = cond_some (not (none_of words) && are_values words) (answers p.x (values_in words)) said p.then in
    subst (FitsSaid version drivers) found.1 (within 0 65535 port p.x p.was).1

keyword_fits : (version drivers : ℕ) (k : Keyword) (words : List (List ℕ)) (said : Said) → keyword_said version drivers k words ≡ Some said → FitsSaid version drivers said
keyword_fits version drivers keyword.Load words said h =
    let load = mapped event (load_said version drivers words) said h in subst (FitsSaid version drivers) load.2 (load_fits version drivers words load.0 load.1)
keyword_fits version drivers keyword.Restart words said h =
    let named = bound (driver_and_task drivers words) _ said h in says version drivers said (event (e.Restart named.x.0 named.x.1)) named.then (named_fits drivers words named.x named.was, tt)
keyword_fits version drivers keyword.Unload words said h =
    let word = bound (only_of words) _ said h in
    let driver = bound (driver_of drivers word.x) _ said word.then in
    says version drivers said (event (e.Unload driver.x)) driver.then (driver_fits drivers word.x driver.x driver.was, tt)
keyword_fits version drivers keyword.Call words said h =
    let call = mapped event (call_said drivers words) said h in subst (FitsSaid version drivers) call.2 (call_fits version drivers words call.0 call.1)
keyword_fits version drivers keyword.Run words said h =
    let two = bound (two_of words) _ said h in
    let task = bound (task_of two.x.0) _ said two.then in
    let n = bound (number_within 0 10000000 two.x.1) _ said task.then in
    says version drivers said (event (e.Run task.x n.x)) n.then ((task_fits two.x.0 task.x task.was, (within 0 10000000 two.x.1 n.x n.was).1), tt)
keyword_fits version drivers keyword.Finish words said h =
    let word = bound (only_of words) _ said h in
    let task = bound (task_of word.x) _ said word.then in
    says version drivers said (event (e.Finish task.x)) task.then (task_fits word.x task.x task.was, tt)
keyword_fits version drivers keyword.Irq words said h = let n = bound (only_number 63 words) _ said h in says version drivers said (event (e.Irq n.x)) n.then (number_fits 63 words n.x n.was, tt)
keyword_fits version drivers keyword.Tick words said h = let n = bound (only_number 1000000 words) _ said h in says version drivers said (event (e.Tick n.x)) n.then (number_fits 1000000 words n.x n.was, tt)
keyword_fits version drivers keyword.Work words said h = let n = bound (only_number 256 words) _ said h in says version drivers said (event (e.Work n.x)) n.then (number_fits 256 words n.x n.was, tt)
keyword_fits version drivers keyword.Answer words said h = answers_fit version drivers words said h
keyword_fits version drivers keyword.Kernel words said h = let kernel = bound (kernel_said words) _ said h in says version drivers said (event (e.Kernel kernel.x)) kernel.then (tt, tt)
keyword_fits version drivers keyword.Show words said h = subst (FitsSaid version drivers) (cond_some (none_of words) (event e.Show) said h).1 (tt, tt)

-- What a line says lies in the ranges of its form.
pub said_fits : (version drivers : ℕ) (words : List (List ℕ)) (said : Said) → line_said version drivers words ≡ Some said → FitsSaid version drivers said
said_fits version drivers [] said h = says version drivers said nothing h tt
said_fits version drivers (word ∷ words) said h = let k = bound (keyword_of word) _ said h in keyword_fits version drivers k.x words said k.then

-- a line that has a reading fits, and so does each of many
abbrev FitsWhereRead : ℕ → ℕ → Option Said → Type 0
FitsWhereRead version drivers None = Unit {0}
FitsWhereRead version drivers (Some said) = FitsSaid version drivers said

abbrev EachFits : ℕ → ℕ → List (Option Said) → Type 0
EachFits version drivers [] = Unit {0}
EachFits version drivers (said ∷ saids) = FitsWhereRead version drivers said × EachFits version drivers saids

where_read : (version drivers : ℕ) (o : Option Said) → ((s : Said) → o ≡ Some s → FitsSaid version drivers s) → FitsWhereRead version drivers o
where_read version drivers None fits = tt
where_read version drivers (Some said) fits = fits said refl

each_fits : (version drivers : ℕ) (lines : List (List (List ℕ))) → EachFits version drivers (map (line_said version drivers) lines)
each_fits version drivers [] = tt
each_fits version drivers (words ∷ lines) = (where_read version drivers (line_said version drivers words) (said_fits version drivers words), each_fits version drivers lines)

opened_fits : (b : Bool) (drivers : ℕ) (words : List (List ℕ)) (lines : List (List (List ℕ)))
    → EachFits (cond b 2 1) drivers (cond b (Some nothing ∷ map (line_said 2 drivers) lines) (map (line_said 1 drivers) (words ∷ lines)))
opened_fits true drivers words lines = (tt, each_fits 2 drivers lines)
opened_fits false drivers words lines = each_fits 1 drivers (words ∷ lines)

lines_fit : (drivers : ℕ) (lines : List (List (List ℕ))) → EachFits (version_in lines) drivers (lines_said drivers lines)
lines_fit drivers [] = tt
lines_fit drivers ([] ∷ lines) = (tt, lines_fit drivers lines)
lines_fit drivers ((word ∷ words) ∷ lines) = opened_fits (is_version_two (word ∷ words)) drivers (word ∷ words) lines

all_fit : (version drivers first : ℕ) (saids : List (Option Said)) → EachFits version drivers saids → AllFit version drivers (events_said first saids)
all_fit version drivers first [] fits = tt
all_fit version drivers first (None ∷ saids) fits = all_fit version drivers first saids fits.1
all_fit version drivers first (Some nothing ∷ saids) fits = all_fit version drivers first saids fits.1
all_fit version drivers first (Some (event said) ∷ saids) fits = (fits.0.0, all_fit version drivers first saids fits.1)
all_fit version drivers first (Some (answers port values) ∷ saids) fits = (fits.0, all_fit version drivers (first + length values) saids fits.1)

skips : (first end : ℕ) (said : Event) (events : List Event) → IsNoAnswer said → AnswersFollow first events end → AnswersFollow first (said ∷ events) end
skips first end (e.Answer port from n) events apart h = absurd apart
skips first end said events apart h = h

all_follow : (version drivers first : ℕ) (saids : List (Option Said)) → EachFits version drivers saids → AnswersFollow first (events_said first saids) (first + length (answers_given saids))
all_follow version drivers first [] fits = omega arith
all_follow version drivers first (None ∷ saids) fits = all_follow version drivers first saids fits.1
all_follow version drivers first (Some nothing ∷ saids) fits = all_follow version drivers first saids fits.1
all_follow version drivers first (Some (event said) ∷ saids) fits = skips first _ said _ fits.0.1 (all_follow version drivers first saids fits.1)
all_follow version drivers first (Some (answers port values) ∷ saids) fits =
    let count : (first + length values) + length (answers_given saids) ≡ first + length (values ++ answers_given saids) = omega (arith, length-append values (answers_given saids)) in
    (refl, subst (AnswersFollow (first + length values) (events_said (first + length values) saids)) count (all_follow version drivers (first + length values) saids fits.1))

-- what fits in the version, and follows to its number of values
abbrev pub IsFitPlan : ℕ → ℕ → List Event → ℕ → Type 0
IsFitPlan version drivers events count = AllFit version drivers events × AnswersFollow 0 events count

read_part : Result (List Event × List ℤ) ScenarioRefusal → List Event × List ℤ
read_part (Ok scenario) = scenario
read_part (Err refusal) = ([], [])

unrefused : (version drivers : ℕ) (f : Option ScenarioRefusal) (es events : List Event) (vs values : List ℤ) → ◌≡◌ {A = Result (List Event × List ℤ) ScenarioRefusal} (unless_refused f (es, vs)) (Ok (events, values))
    → IsFitPlan version drivers es (length vs) → IsFitPlan version drivers events (length values)
unfolding read_part
unrefused version drivers None es events vs values h fit =
    let same = ap read_part h in
    subst (λ k. IsFitPlan version drivers events k) (ap (λ p. length p.1) same) (subst (λ s. IsFitPlan version drivers s (length vs)) (ap (λ p. p.0) same) fit)
unrefused version drivers (Some refusal) es events vs values h fit = absurd (cc)

-- The events of a scenario fit in its version, and its ranges of answers follow one another through all its values.
pub scenario_fits : (drivers : ℕ) (text : List ℕ) (events : List Event) (values : List ℤ) → ◌≡◌ {A = Result (List Event × List ℤ) ScenarioRefusal} (scenario_of drivers text) (Ok (events, values))
    → IsFitPlan (version_of text) drivers events (length values)
scenario_fits drivers text events values h =
    let version = version_of text in
    let saids = saids_of drivers text in
    let fits = lines_fit drivers (worded text) in
    let follow : AnswersFollow 0 (events_said 0 saids) (length (answers_given saids)) = subst (AnswersFollow 0 (events_said 0 saids)) (zero-add (length (answers_given saids))) (all_follow version drivers 0 saids fits) in
    unrefused version drivers (first_refusal saids) (events_said 0 saids) events (answers_given saids) values h (all_fit version drivers 0 saids fits, follow)
