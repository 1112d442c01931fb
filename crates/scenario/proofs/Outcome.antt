-- A scenario read line by line is the scenario that its text reads as.
-- Here: behind, refused_or, outcome; outcome_is; behind-nil, behind-behind, behind-end
use Rattle.std.proofs.Common.{◌≡◌, ℕ, zero, suc, ◌+◌, List, [], ◌∷◌, ◌++◌, length, take, map, slice_index_or, Option, None, Some, Result, Ok, Err, ℤ, refl, sym, ap, ◌∙◌, append_assoc, zero-add, add-zero, add-one, arith, length-append}
use Rattle.std.specs.List.{range_with_len}
use Rattle.std.proofs.lemmas.List.{append-nil}
use Rattle.scenario.specs.declared.event.Event.{Event}
use Rattle.scenario.specs.declared.refusal.ScenarioRefusal.{ScenarioRefusal}
use Rattle.scenario.specs.Forms.{Said, nothing, event, answers}
use Rattle.scenario.specs.Scenarios.{given_by, answers_given, line_refusal, refusal_at, first_some, first_refusal, events_said, unless_refused}

abbrev pub Outcome : Type 0
Outcome = Result (List Event × List ℤ) ScenarioRefusal

-- events and answers in front of an outcome
abbrev pub behind : List Event → List ℤ → Outcome → Outcome
behind events values (Ok scenario) = Ok (events ++ scenario.0, values ++ scenario.1)
behind events values (Err refusal) = Err refusal

abbrev pub refused_or : Option ScenarioRefusal → Outcome → Outcome
refused_or None outcome = outcome
refused_or (Some refusal) outcome = Err refusal

-- the outcome of lines behind n lines and so many values
abbrev pub outcome : ℕ → ℕ → List (Option Said) → Outcome
outcome n total [] = Ok ([], [])
outcome n total (said ∷ saids) =
    refused_or (line_refusal said (n + 1) (total + length (given_by said)))
    (behind (events_said total (said ∷ [])) (given_by said) (outcome (n + 1) (total + length (given_by said)) saids))

pub behind-nil : (o : Outcome) → behind [] [] o ≡ o
behind-nil (Ok scenario) = refl
behind-nil (Err refusal) = refl

pub behind-behind : (es fs : List Event) (vs ws : List ℤ) (o : Outcome) → behind es vs (behind fs ws o) ≡ behind (es ++ fs) (vs ++ ws) o
behind-behind es fs vs ws (Ok scenario) =
    let both : List Event → List ℤ → Outcome = λ events values. Ok (events, values) in
    ap (λ events. both events (vs ++ (ws ++ scenario.1))) (sym (append_assoc es fs scenario.0)) ∙ ap (both ((es ++ fs) ++ scenario.0)) (sym (append_assoc vs ws scenario.1))
behind-behind es fs vs ws (Err refusal) = refl

pub behind-end : (es : List Event) (vs : List ℤ) → behind es vs (Ok ([], [])) ≡ Ok (es, vs)
behind-end es vs =
    let both : List Event → List ℤ → Outcome = λ events values. Ok (events, values) in
    ap (λ events. both events (vs ++ [])) (append-nil es) ∙ ap (both es) (append-nil vs)

-- why the line at a place is refused, behind n lines and so many values
refusal_after : ℕ → ℕ → List (Option Said) → ℕ → Option ScenarioRefusal
refusal_after n total saids place = line_refusal (slice_index_or saids place None) (n + (place + 1)) (total + length (answers_given (take (place + 1) saids)))

first_after : ℕ → ℕ → List (Option Said) → Option ScenarioRefusal
first_after n total saids = first_some (map (refusal_after n total saids) (range_with_len 0 (length saids)))

shifted : {X : Type 0} (f : ℕ → X) (a m : ℕ) → map f (range_with_len (a + 1) m) ≡ map (λ i. f (i + 1)) (range_with_len a m)
shifted f a zero = refl
shifted f a (suc m) = ap (λ xs. f (a + 1) ∷ xs) (shifted f (a + 1) m)

refusal_of_later : (n total : ℕ) (said : Option Said) (saids : List (Option Said)) (i : ℕ)
    → refusal_after n total (said ∷ saids) (i + 1) ≡ refusal_after (n + 1) (total + length (given_by said)) saids i
unfolding refusal_after
refusal_of_later n total said saids i =
    let number : n + ((i + 1) + 1) ≡ (n + 1) + (i + 1) = omega arith in
    let front : slice_index_or (said ∷ saids) (i + 1) None ≡ slice_index_or saids i None = rw add-one refl in
    let more : take ((i + 1) + 1) (said ∷ saids) ≡ said ∷ take (i + 1) saids = rw (add-one (i + 1)) refl in
    let given = answers_given (take (i + 1) saids) in
    let count : total + length (given_by said ++ given) ≡ (total + length (given_by said)) + length given = omega (arith, length-append (given_by said) given) in
    ap (λ s. line_refusal s (n + ((i + 1) + 1)) (total + length (answers_given (take ((i + 1) + 1) (said ∷ saids))))) front
    ∙ ap (λ k. line_refusal (slice_index_or saids i None) k (total + length (answers_given (take ((i + 1) + 1) (said ∷ saids))))) number
    ∙ ap (λ ss. line_refusal (slice_index_or saids i None) ((n + 1) + (i + 1)) (total + length (answers_given ss))) more
    ∙ ap (line_refusal (slice_index_or saids i None) ((n + 1) + (i + 1))) count

refusal_of_front : (n total : ℕ) (said : Option Said) (saids : List (Option Said)) → refusal_after n total (said ∷ saids) 0 ≡ line_refusal said (n + 1) (total + length (given_by said))
unfolding refusal_after
refusal_of_front n total said saids = ap (λ values. line_refusal said (n + 1) (total + length values)) (append-nil (given_by said))

or_later : Option ScenarioRefusal → Option ScenarioRefusal → Option ScenarioRefusal
or_later None later = later
or_later (Some refusal) later = Some refusal

first_of_two : (o : Option ScenarioRefusal) (os : List (Option ScenarioRefusal)) → first_some (o ∷ os) ≡ or_later o (first_some os)
unfolding or_later
first_of_two None os = refl
first_of_two (Some refusal) os = refl

first_after_cons : (n total : ℕ) (said : Option Said) (saids : List (Option Said))
    → first_after n total (said ∷ saids) ≡ or_later (line_refusal said (n + 1) (total + length (given_by said))) (first_after (n + 1) (total + length (given_by said)) saids)
unfolding first_after
first_after_cons n total said saids =
    let same : ◌≡◌ {A = ℕ → Option ScenarioRefusal} (λ i. refusal_after n total (said ∷ saids) (i + 1)) (refusal_after (n + 1) (total + length (given_by said)) saids) = λ j i. refusal_of_later n total said saids i j in
    let later : map (refusal_after n total (said ∷ saids)) (range_with_len 1 (length saids)) ≡ map (refusal_after (n + 1) (total + length (given_by said)) saids) (range_with_len 0 (length saids)) =
    shifted (refusal_after n total (said ∷ saids)) 0 (length saids) ∙ ap (λ (f : ℕ → Option ScenarioRefusal). map f (range_with_len 0 (length saids))) same in
    first_of_two (refusal_after n total (said ∷ saids) 0) (map (refusal_after n total (said ∷ saids)) (range_with_len 1 (length saids)))
    ∙ ap (λ os. or_later (refusal_after n total (said ∷ saids) 0) (first_some os)) later
    ∙ ap (λ o. or_later o (first_some (map (refusal_after (n + 1) (total + length (given_by said)) saids) (range_with_len 0 (length saids))))) (refusal_of_front n total said saids)

-- the events of the first line, and those behind it
events_said-cons : (total : ℕ) (said : Option Said) (saids : List (Option Said)) → events_said total (said ∷ saids) ≡ events_said total (said ∷ []) ++ events_said (total + length (given_by said)) saids
events_said-cons total None saids = ap (λ k. events_said k saids) (sym (add-zero total))
events_said-cons total (Some nothing) saids = ap (λ k. events_said k saids) (sym (add-zero total))
events_said-cons total (Some (event e)) saids = ap (λ k. e ∷ events_said k saids) (sym (add-zero total))
events_said-cons total (Some (answers port values)) saids = refl

put_in_front : (r f : Option ScenarioRefusal) (es : List Event) (vs : List ℤ) (fs : List Event) (ws : List ℤ)
    → refused_or r (behind es vs (unless_refused f (fs, ws))) ≡ unless_refused (or_later r f) (es ++ fs, vs ++ ws)
unfolding or_later
put_in_front None None es vs fs ws = refl
put_in_front None (Some refusal) es vs fs ws = refl
put_in_front (Some refusal) f es vs fs ws = refl

outcome_after : (n total : ℕ) (saids : List (Option Said)) → outcome n total saids ≡ unless_refused (first_after n total saids) (events_said total saids, answers_given saids)
unfolding first_after
outcome_after n total [] = refl
outcome_after n total (said ∷ saids) =
    let r = line_refusal said (n + 1) (total + length (given_by said)) in
    let scenario : List Event → List Event × List ℤ = λ events. (events, given_by said ++ answers_given saids) in
    ap (λ o. refused_or r (behind (events_said total (said ∷ [])) (given_by said) o)) (outcome_after (n + 1) (total + length (given_by said)) saids)
    ∙ put_in_front r (first_after (n + 1) (total + length (given_by said)) saids) (events_said total (said ∷ [])) (given_by said) (events_said (total + length (given_by said)) saids) (answers_given saids)
    ∙ ap (λ events. unless_refused (or_later r (first_after (n + 1) (total + length (given_by said)) saids)) (scenario events)) (sym (events_said-cons total said saids))
    ∙ ap (λ f. unless_refused f (events_said total (said ∷ saids), answers_given (said ∷ saids))) (sym (first_after_cons n total said saids))

-- Read line by line from the start, lines are the scenario that they say, or its first refusal.
pub outcome_is : (saids : List (Option Said)) → outcome 0 0 saids ≡ unless_refused (first_refusal saids) (events_said 0 saids, answers_given saids)
unfolding refusal_after first_after
outcome_is saids =
    let same : (i : ℕ) → refusal_after 0 0 saids i ≡ refusal_at saids i = λ i. rw (zero-add (i + 1), zero-add (length (answers_given (take (i + 1) saids)))) refl in
    let equal : ◌≡◌ {A = ℕ → Option ScenarioRefusal} (refusal_after 0 0 saids) (refusal_at saids) = λ j i. same i j in
    outcome_after 0 0 saids
    ∙ ap (λ (f : ℕ → Option ScenarioRefusal). unless_refused (first_some (map f (range_with_len 0 (length saids)))) (events_said 0 saids, answers_given saids)) equal

-- A line that is not refused goes behind what was read.
pub turn : (n : ℕ) (es es' : List Event) (vs vs' : List ℤ) (said : Option Said) (saids all : List (Option Said)) → all ≡ said ∷ saids
    → line_refusal said (n + 1) (length vs + length (given_by said)) ≡ None → es' ≡ es ++ events_said (length vs) (said ∷ []) → vs' ≡ vs ++ given_by said
    → behind es vs (outcome n (length vs) all) ≡ behind es' vs' (outcome (n + 1) (length vs') saids)
turn n es es' vs vs' said saids all is fine events values =
    let more = outcome (n + 1) (length vs + length (given_by said)) saids in
    let count : length vs + length (given_by said) ≡ length vs' = sym (ap length values ∙ length-append vs (given_by said)) in
    ap (λ ss. behind es vs (outcome n (length vs) ss)) is
    ∙ ap (λ r. behind es vs (refused_or r (behind (events_said (length vs) (said ∷ [])) (given_by said) more))) fine
    ∙ behind-behind es (events_said (length vs) (said ∷ [])) vs (given_by said) more
    ∙ ap (λ s. behind s (vs ++ given_by said) more) (sym events)
    ∙ ap (λ w. behind es' w more) (sym values)
    ∙ ap (λ k. behind es' vs' (outcome (n + 1) k saids)) count

-- A line that is refused ends the reading.
pub refused : (n total : ℕ) (es : List Event) (vs : List ℤ) (said : Option Said) (saids all : List (Option Said)) (refusal : ScenarioRefusal) → all ≡ said ∷ saids
    → line_refusal said (n + 1) (total + length (given_by said)) ≡ Some refusal → behind es vs (outcome n total all) ≡ Err refusal
refused n total es vs said saids all refusal is why =
    ap (λ ss. behind es vs (outcome n total ss)) is
    ∙ ap (λ r. behind es vs (refused_or r (behind (events_said total (said ∷ [])) (given_by said) (outcome (n + 1) (total + length (given_by said)) saids)))) why

-- Behind the last line nothing is to come.
pub ended : (n total : ℕ) (es : List Event) (vs : List ℤ) (all : List (Option Said)) → all ≡ [] → behind es vs (outcome n total all) ≡ Ok (es, vs)
ended n total es vs all is = ap (λ ss. behind es vs (outcome n total ss)) is ∙ behind-end es vs
