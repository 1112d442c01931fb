-- What the words of a line say by the rules of the lines is what `line_said` computes.
-- Here: said_by_rules, rules_of_said
use Rattle.std.proofs.Common.{◌≡◌, ℕ, zero, suc, ◌≤◌, Bool, true, false, cond, ◌&&◌, not, List, [], ◌∷◌, length, leb, eqb, Option, None, Some, is_some, unwrap_or, slice_index_or, ℤ, pos, neg_ℤ, refl, sym, ap, ◌∙◌, subst, arith, codes}
use Rattle.std.specs.Map.{lookup}
use Rattle.std.specs.Str.{bytes_eq}
use Rattle.std.specs.List.{list_all, cons_option}
use Rattle.std.specs.Option.{option_map}
use Rattle.std.specs.Char.{is_ascii_digit}
use Rattle.std.proofs.lemmas.Bool.{false≢true, leb-true, le-leb, eqb-true}
use Rattle.std.proofs.lemmas.Bool.Decides.{nat_tests}
use Rattle.std.proofs.lemmas.Slice.Eq.{bytes_eq-Decides}
use Rattle.std.proofs.lemmas.Option.{same_Some, cond_some}
use Rattle.scenario.specs.declared.keywords.Keyword.{Keyword}
use Rattle.scenario.specs.declared.keywords.Keyword.TheVariants as keyword
use Rattle.scenario.specs.declared.keywords.KernelWord.{KernelWord}
use Rattle.scenario.specs.declared.keywords.KernelWord.TheVariants as word
use Rattle.scenario.specs.declared.event.Event.{Event}
use Rattle.scenario.specs.declared.event.Event.TheVariants as e
use Rattle.scenario.specs.declared.event.KernelEvent.{KernelEvent}
use Rattle.scenario.specs.declared.event.KernelEvent.TheVariants as k
use Rattle.scenario.specs.Numbers.{is_number, value_of, number_within, number_to, signed_of, is_name, driver_of, task_of}
use Rattle.scenario.specs.Keywords.{keyword_of, keywords, kernel_word_of, kernel_words}
use Rattle.scenario.specs.Forms.{Said, event, answers, ◌>>=◌, only_of, two_of, none_of, are_values, values_in, argument_at, arguments_in, driver_and_task, only_number, only_value, restarts_said, load_said, call_said, kernel_arguments, kernel_said, answers_said, keyword_said, line_said}
use Rattle.scenario.specs.Rules.{IsNumber, IsValue, plain, minus, AreValues, no_value, one_value, NamesDriver, driver, NamesTask, eight, KernelDoes, Says}
use Rattle.scenario.specs.Rules as rule

-- numbers
holds : (a b c : Bool) (n : ℕ) → a ≡ true → b ≡ true → c ≡ true → cond (a && (b && c)) (Some n) None ≡ Some n
holds true true true n p q r = refl
holds true true false n p q r = absurd (cc)
holds true false c n p q r = absurd (cc)
holds false b c n p q r = absurd (cc)

number_is : {least most : ℕ} {w : List ℕ} {n : ℕ} → IsNumber least most w n → number_within least most w ≡ Some n
number_is {least} {most} {w} {n} h =
    let low : least ≤ value_of w = omega (arith, h.value, h.least_ok) in
    let high : value_of w ≤ most = omega (arith, h.value, h.most_ok) in
    holds (is_number w) (leb least (value_of w)) (leb (value_of w) most) (value_of w) h.digits (le-leb _ _ low) (le-leb _ _ high) ∙ ap (λ m. Some m) h.value

both : (a b : Bool) → (a && b) ≡ true → (a ≡ true) × (b ≡ true)
both true b h = (refl, h)
both false b h = absurd (cc)

number_has : (least most : ℕ) (w : List ℕ) (n : ℕ) → number_within least most w ≡ Some n → IsNumber least most w n
number_has least most w n h =
    let found = cond_some (is_number w && (leb least (value_of w) && leb (value_of w) most)) (value_of w) n h in
    let tests = both (is_number w) _ found.0 in
    let ranges = both (leb least (value_of w)) (leb (value_of w) most) tests.1 in
    record {
      digits = tests.0;
      value = found.1;
      least_ok = subst (λ m. least ≤ m) found.1 (leb-true _ _ ranges.0);
      most_ok = subst (λ m. m ≤ most) found.1 (leb-true _ _ ranges.1);
    }

-- values
no_minus : (b : ℕ) (bytes : List ℕ) → is_number (b ∷ bytes) ≡ true → eqb b 45 ≡ false
no_minus b bytes h = let digit = (both (is_ascii_digit b) (list_all is_ascii_digit bytes) h).0 in grind (arith, nat_tests)

plain_is : (w : List ℕ) (n : ℕ) → IsNumber 0 2147483647 w n → signed_of w ≡ Some (pos n)
plain_is [] n h = absurd (false≢true h.digits)
plain_is (b ∷ bytes) n h =
    ap (λ t. cond t (option_map (λ m. neg_ℤ (pos m)) (number_to 2147483648 bytes)) (option_map pos (number_to 2147483647 (b ∷ bytes)))) (no_minus b bytes h.digits) ∙ ap (option_map pos) (number_is h)

value_is : {w : List ℕ} {v : ℤ} → IsValue w v → signed_of w ≡ Some v
value_is (plain {word = w} {n = n} h) = plain_is w n h
value_is (minus h) = ap (option_map (λ m. neg_ℤ (pos m))) (number_is h)

mapped : {A B : Type 0} (f : A → B) (o : Option A) (y : B) → option_map f o ≡ Some y → (x : A) × (o ≡ Some x) × (f x ≡ y)
mapped f None y h = absurd (cc)
mapped f (Some x) y h = (x, refl, same_Some _ _ h)

value_by : (t : Bool) (b : ℕ) (bytes : List ℕ) (v : ℤ) → eqb b 45 ≡ t
    → cond t (option_map (λ m. neg_ℤ (pos m)) (number_to 2147483648 bytes)) (option_map pos (number_to 2147483647 (b ∷ bytes))) ≡ Some v → IsValue (b ∷ bytes) v
value_by true b bytes v t h =
    let n = mapped (λ m. neg_ℤ (pos m)) (number_to 2147483648 bytes) v h in
    let is : IsValue (45 ∷ bytes) v = subst (λ z. IsValue (45 ∷ bytes) z) n.2 (minus (number_has 0 2147483648 bytes n.0 n.1)) in
    subst (λ c. IsValue (c ∷ bytes) v) (sym (eqb-true b 45 t)) is
value_by false b bytes v t h =
    let n = mapped pos (number_to 2147483647 (b ∷ bytes)) v h in
    subst (λ z. IsValue (b ∷ bytes) z) n.2 (plain (number_has 0 2147483647 (b ∷ bytes) n.0 n.1))

value_has : (w : List ℕ) (v : ℤ) → signed_of w ≡ Some v → IsValue w v
value_has [] v h = absurd (cc)
value_has (b ∷ bytes) v h = value_by (eqb b 45) b bytes v refl h

values_are : {words : List (List ℕ)} {vs : List ℤ} → AreValues words vs → (are_values words ≡ true) × (values_in words ≡ vs)
values_are no_value = (refl, refl)
values_are (one_value {word = w} {v = v} {words = ws} {vs = vs} h rest) =
    let more = values_are rest in
    let here = value_is h in
    (ap (λ o. is_some o && are_values ws) here ∙ more.0, ap (λ o. cons_option o (values_in ws)) here ∙ ap (λ r. v ∷ r) more.1)

values_step : (o : Option ℤ) (w : List ℕ) (ws : List (List ℕ)) → signed_of w ≡ o → (is_some o && are_values ws) ≡ true → (are_values ws ≡ true → AreValues ws (values_in ws)) → AreValues (w ∷ ws) (cons_option o (values_in ws))
values_step None w ws e h rest = absurd (cc)
values_step (Some v) w ws e h rest = one_value (value_has w v e) (rest h)

values_have : (words : List (List ℕ)) → are_values words ≡ true → AreValues words (values_in words)
values_have [] h = no_value
values_have (w ∷ ws) h = values_step (signed_of w) w ws refl h (values_have ws)

argument_is : {words : List (List ℕ)} {vs : List ℤ} → AreValues words vs → (i : ℕ) → argument_at words i ≡ slice_index_or vs i (pos 0)
argument_is no_value i = refl
argument_is (one_value h rest) zero = ap (λ o. unwrap_or o (pos 0)) (value_is h)
argument_is (one_value h rest) (suc i) = argument_is rest i

eight_are : {words : List (List ℕ)} {vs : List ℤ} → AreValues words vs → arguments_in words ≡ eight vs
eight_are d = λ j. argument_is d 0 j ∷ argument_is d 1 j ∷ argument_is d 2 j ∷ argument_is d 3 j ∷ argument_is d 4 j ∷ argument_is d 5 j ∷ argument_is d 6 j ∷ argument_is d 7 j ∷ []

-- drivers
driver_is : {drivers : ℕ} {w : List ℕ} {d : ℕ} → NamesDriver drivers w d → driver_of drivers w ≡ Some d
driver_is (driver h) = number_is h

driver_by : (t : Bool) (drivers b : ℕ) (bytes : List ℕ) (d : ℕ) → eqb b 100 ≡ t → cond t (number_within 1 drivers bytes) None ≡ Some d → NamesDriver drivers (b ∷ bytes) d
driver_by true drivers b bytes d t h = subst (λ c. NamesDriver drivers (c ∷ bytes) d) (sym (eqb-true b 100 t)) (driver (number_has 1 drivers bytes d h))
driver_by false drivers b bytes d t h = absurd (cc)

driver_has : (drivers : ℕ) (w : List ℕ) (d : ℕ) → driver_of drivers w ≡ Some d → NamesDriver drivers w d
driver_has drivers [] d h = absurd (cc)
driver_has drivers (b ∷ bytes) d h = driver_by (eqb b 100) drivers b bytes d refl h

-- exactly one word, exactly two, none
only_has : (words : List (List ℕ)) (w : List ℕ) → only_of words ≡ Some w → words ≡ w ∷ []
only_has [] w h = absurd (cc)
only_has (x ∷ []) w h = ap (λ y. y ∷ []) (same_Some _ _ h)
only_has (x ∷ y ∷ words) w h = absurd (cc)

two_has : (words : List (List ℕ)) (two : List ℕ × List ℕ) → two_of words ≡ Some two → words ≡ two.0 ∷ two.1 ∷ []
two_has [] two h = absurd (cc)
two_has (x ∷ []) two h = absurd (cc)
two_has (x ∷ y ∷ []) two h = ap (λ p. p.0 ∷ p.1 ∷ []) (same_Some _ _ h)
two_has (x ∷ y ∷ z ∷ words) two h = absurd (cc)

none_has : (words : List (List ℕ)) → none_of words ≡ true → words ≡ []
none_has [] h = refl
none_has (x ∷ words) h = absurd (cc)

-- keywords
abbrev spelling : Keyword → List ℕ
spelling keyword.Load = codes "load"
spelling keyword.Restart = codes "restart"
spelling keyword.Unload = codes "unload"
spelling keyword.Call = codes "call"
spelling keyword.Run = codes "run"
spelling keyword.Finish = codes "finish"
spelling keyword.Irq = codes "irq"
spelling keyword.Tick = codes "tick"
spelling keyword.Work = codes "work"
spelling keyword.Answer = codes "answer"
spelling keyword.Kernel = codes "kernel"
spelling keyword.Show = codes "show"

abbrev kernel_spelling : KernelWord → List ℕ
kernel_spelling word.Line = codes "line"
kernel_spelling word.FreeLine = codes "free_line"
kernel_spelling word.Param = codes "param"
kernel_spelling word.ClearParam = codes "clear_param"
kernel_spelling word.Hold = codes "hold"
kernel_spelling word.DropHold = codes "drop_hold"
kernel_spelling word.Lock = codes "lock"
kernel_spelling word.Unlock = codes "unlock"

-- each entry of a table has its own spelling
abbrev Spells : {K : Type 0} → (K → List ℕ) → List (List ℕ × K) → Type 0
Spells spell [] = Unit {0}
Spells spell (entry ∷ table) = (entry.0 ≡ spell entry.1) × Spells spell table

found_step : {K : Type 0} (spell : K → List ℕ) (t : Bool) (w s : List ℕ) (x kw : K) (later : Option K) → bytes_eq w s ≡ t → s ≡ spell x → (later ≡ Some kw → w ≡ spell kw) → cond t (Some x) later ≡ Some kw → w ≡ spell kw
found_step spell true w s x kw later e is rest h = (bytes_eq-Decides w s).0 e ∙ is ∙ ap spell (same_Some _ _ h)
found_step spell false w s x kw later e is rest h = rest h

found : {K : Type 0} (spell : K → List ℕ) (w : List ℕ) (table : List (List ℕ × K)) (kw : K) → Spells spell table → lookup (bytes_eq w) table ≡ Some kw → w ≡ spell kw
found spell w [] kw is h = absurd (cc)
found spell w (entry ∷ table) kw is h = found_step spell (bytes_eq w entry.0) w entry.0 entry.1 kw _ refl is.0 (found spell w table kw is.1) h

spelled : (w : List ℕ) (kw : Keyword) → keyword_of w ≡ Some kw → w ≡ spelling kw
spelled w kw h = found spelling w keywords kw (refl, (refl, (refl, (refl, (refl, (refl, (refl, (refl, (refl, (refl, (refl, (refl, tt)))))))))))) h

kernel_spelled : (w : List ℕ) (kw : KernelWord) → kernel_word_of w ≡ Some kw → w ≡ kernel_spelling kw
kernel_spelled w kw h = found kernel_spelling w kernel_words kw (refl, (refl, (refl, (refl, (refl, (refl, (refl, (refl, tt)))))))) h

-- what a chain of steps gives, its first step gave something for
record Bound {A B : Type 0} (o : Option A) (f : A → Option B) (y : B) : Type 0 where
  x : A
  was : o ≡ Some x
  then : f x ≡ Some y

bound : {A B : Type 0} (o : Option A) (f : A → Option B) (y : B) → (o >>= f) ≡ Some y → Bound o f y
bound None f y h = absurd (cc)
bound (Some x) f y h = record { x = x; was = refl; then = h }

after : {A B : Type 0} (o : Option A) (f : A → Option B) (x : A) → o ≡ Some x → (o >>= f) ≡ f x
after o f x e = ap (λ p. p >>= f) e

-- the kernel's lines
kernel_is : {words : List (List ℕ)} {event : KernelEvent} → KernelDoes words event → kernel_said words ≡ Some event
kernel_is (rule.line h) = ap (option_map k.Line) (value_is h)
kernel_is (rule.free_line h) = ap (option_map k.FreeLine) (value_is h)
kernel_is (rule.param {v = v} {w = w} {i = i} {j = j} h g) =
    after (signed_of v) (λ key. signed_of w >>= λ value. Some (k.Param key value)) i (value_is h) ∙ after (signed_of w) (λ value. Some (k.Param i value)) j (value_is g)
kernel_is (rule.clear_param h) = ap (option_map k.ClearParam) (value_is h)
kernel_is (rule.hold h) = ap (option_map k.Hold) (value_is h)
kernel_is (rule.drop_hold h) = ap (option_map k.DropHold) (value_is h)
kernel_is (rule.lock h) = ap (option_map k.Lock) (value_is h)
kernel_is (rule.unlock h) = ap (option_map k.Unlock) (value_is h)

-- a form of the kernel with one value
one_has : (form : ℤ → KernelEvent) (words : List (List ℕ)) (happens : KernelEvent) → option_map form (only_value words) ≡ Some happens
    → (v : List ℕ) × (i : ℤ) × (words ≡ v ∷ []) × IsValue v i × (form i ≡ happens)
one_has form words happens h =
    let value = mapped form (only_value words) happens h in
    let word = bound (only_of words) signed_of value.0 value.1 in
    (word.x, value.0, only_has words word.x word.was, value_has word.x value.0 word.then, value.2)

kernel_arguments_have : (kw : KernelWord) (words : List (List ℕ)) (happens : KernelEvent) → kernel_arguments kw words ≡ Some happens → KernelDoes (kernel_spelling kw ∷ words) happens
kernel_arguments_have word.Line words happens h = let o = one_has k.Line words happens h in subst (λ ws. KernelDoes (codes "line" ∷ ws) happens) (sym o.2) (subst (KernelDoes (codes "line" ∷ o.0 ∷ [])) o.4 (rule.line o.3))
kernel_arguments_have word.FreeLine words happens h = let o = one_has k.FreeLine words happens h in subst (λ ws. KernelDoes (codes "free_line" ∷ ws) happens) (sym o.2) (subst (KernelDoes (codes "free_line" ∷ o.0 ∷ [])) o.4 (rule.free_line o.3))
kernel_arguments_have word.Param words happens h =
    let two = bound (two_of words) _ happens h in
    let key = bound (signed_of two.x.0) _ happens two.then in
    let value = bound (signed_of two.x.1) _ happens key.then in
    subst (λ ws. KernelDoes (codes "param" ∷ ws) happens) (sym (two_has words two.x two.was))
    (subst (KernelDoes (codes "param" ∷ two.x.0 ∷ two.x.1 ∷ [])) (same_Some _ _ value.then) (rule.param (value_has two.x.0 key.x key.was) (value_has two.x.1 value.x value.was)))
kernel_arguments_have word.ClearParam words happens h = let o = one_has k.ClearParam words happens h in subst (λ ws. KernelDoes (codes "clear_param" ∷ ws) happens) (sym o.2) (subst (KernelDoes (codes "clear_param" ∷ o.0 ∷ [])) o.4 (rule.clear_param o.3))
kernel_arguments_have word.Hold words happens h = let o = one_has k.Hold words happens h in subst (λ ws. KernelDoes (codes "hold" ∷ ws) happens) (sym o.2) (subst (KernelDoes (codes "hold" ∷ o.0 ∷ [])) o.4 (rule.hold o.3))
kernel_arguments_have word.DropHold words happens h = let o = one_has k.DropHold words happens h in subst (λ ws. KernelDoes (codes "drop_hold" ∷ ws) happens) (sym o.2) (subst (KernelDoes (codes "drop_hold" ∷ o.0 ∷ [])) o.4 (rule.drop_hold o.3))
kernel_arguments_have word.Lock words happens h = let o = one_has k.Lock words happens h in subst (λ ws. KernelDoes (codes "lock" ∷ ws) happens) (sym o.2) (subst (KernelDoes (codes "lock" ∷ o.0 ∷ [])) o.4 (rule.lock o.3))
kernel_arguments_have word.Unlock words happens h = let o = one_has k.Unlock words happens h in subst (λ ws. KernelDoes (codes "unlock" ∷ ws) happens) (sym o.2) (subst (KernelDoes (codes "unlock" ∷ o.0 ∷ [])) o.4 (rule.unlock o.3))

kernel_has : (words : List (List ℕ)) (happens : KernelEvent) → kernel_said words ≡ Some happens → KernelDoes words happens
kernel_has [] happens h = absurd (cc)
kernel_has (w ∷ words) happens h =
    let kw = bound (kernel_word_of w) _ happens h in
    subst (λ s. KernelDoes (s ∷ words) happens) (sym (kernel_spelled w kw.x kw.was)) (kernel_arguments_have kw.x words happens kw.then)

-- what the rules say is computed
named_is : {drivers : ℕ} {d t : List ℕ} {i n : ℕ} → NamesDriver drivers d i → NamesTask t n → driver_and_task drivers (d ∷ t ∷ []) ≡ Some (i, n)
named_is {drivers} {d} {t} {i} {n} h g =
    after (driver_of drivers d) (λ x. task_of t >>= λ y. Some (x, y)) i (driver_is h) ∙ after (task_of t) (λ y. Some (i, y)) n (number_is g)

if_so : {A : Type 0} (a b c : Bool) (x : A) → a ≡ true → b ≡ true → c ≡ true → cond (a && (b && c)) (Some x) None ≡ Some x
if_so true true true x p q r = refl
if_so true true false x p q r = absurd (cc)
if_so true false c x p q r = absurd (cc)
if_so false b c x p q r = absurd (cc)

if_both : {A : Type 0} (b : Bool) (x : A) → b ≡ true → cond (true && b) (Some x) None ≡ Some x
if_both true x p = refl
if_both false x p = absurd (cc)

then_said : (o : Option ℕ) (form : ℕ → Event) (n : ℕ) → o ≡ Some n → (o >>= λ x. Some (event (form x))) ≡ Some (event (form n))
then_said o form n e = ap (λ (p : Option ℕ). p >>= λ x. Some (event (form x))) e

pub said_by_rules : {version drivers : ℕ} {words : List (List ℕ)} {said : Said} → Says version drivers words said → line_said version drivers words ≡ Some said
said_by_rules rule.blank = refl
said_by_rules {version} {drivers} (rule.load {d = d} {t = t} {i = i} {n = n} h g) =
    ap (option_map event)
    (after (driver_of drivers d) (λ x. task_of t >>= λ y. Some (e.Load x y 0)) i (driver_is h) ∙ after (task_of t) (λ y. Some (e.Load i y 0)) n (number_is g))
said_by_rules {version} {drivers} (rule.load_restarts {d = d} {t = t} {r = r} {i = i} {n = n} {restarts = restarts} two h g k) =
    let words = codes "restarts" ∷ r ∷ [] in
    let number : restarts_said version words ≡ Some restarts = ap (λ v. cond (eqb v 2) (number_within 0 100 r) None) two ∙ number_is k in
    ap (option_map event)
    (after (driver_of drivers d) (λ x. task_of t >>= λ y. restarts_said version words >>= λ m. Some (e.Load x y m)) i (driver_is h)
    ∙ after (task_of t) (λ y. restarts_said version words >>= λ m. Some (e.Load i y m)) n (number_is g)
    ∙ after (restarts_said version words) (λ m. Some (e.Load i n m)) restarts number)
said_by_rules (rule.restart h g) = ap (λ (p : Option (ℕ × ℕ)). p >>= λ named. Some (event (e.Restart named.0 named.1))) (named_is h g)
said_by_rules (rule.unload {i = i} h) = then_said _ e.Unload i (driver_is h)
said_by_rules {version} {drivers} (rule.call {d = d} {t = t} {name = name} {words = ws} {i = i} {n = n} {vs = vs} h g named values few) =
    let all = values_are values in
    let call : ℕ → ℕ → List ℤ → Event = λ x y args. e.Call x y name args (length ws) in
    ap (option_map event)
    (after (driver_of drivers d) (λ x. task_of t >>= λ y. cond (is_name name && (are_values ws && leb (length ws) 8)) (Some (call x y (arguments_in ws))) None) i (driver_is h)
    ∙ after (task_of t) (λ y. cond (is_name name && (are_values ws && leb (length ws) 8)) (Some (call i y (arguments_in ws))) None) n (number_is g)
    ∙ if_so (is_name name) (are_values ws) (leb (length ws) 8) (call i n (arguments_in ws)) named all.0 (le-leb _ _ few)
    ∙ ap (λ args. Some (call i n args)) (eight_are values))
said_by_rules (rule.run {t = t} {s = s} {n = n} {steps = steps} h g) =
    after (task_of t) (λ task. number_within 0 10000000 s >>= λ m. Some (event (e.Run task m))) n (number_is h) ∙ after (number_within 0 10000000 s) (λ m. Some (event (e.Run n m))) steps (number_is g)
said_by_rules (rule.finish {n = n} h) = then_said _ e.Finish n (number_is h)
said_by_rules (rule.irq {n = n} h) = then_said _ e.Irq n (number_is h)
said_by_rules (rule.tick {n = n} h) = then_said _ e.Tick n (number_is h)
said_by_rules (rule.work {n = n} h) = then_said _ e.Work n (number_is h)
said_by_rules (rule.answer {p = p} {v = v} {words = ws} {n = n} {vs = vs} h values) =
    let all = values_are values in
    after (number_within 0 65535 p) (λ port. cond (true && are_values (v ∷ ws)) (Some (answers port (values_in (v ∷ ws)))) None) n (number_is h)
    ∙ if_both (are_values (v ∷ ws)) (answers n (values_in (v ∷ ws))) all.0 ∙ ap (λ xs. Some (answers n xs)) all.1
said_by_rules (rule.kernel h) = ap (λ (p : Option KernelEvent). p >>= λ kernel. Some (event (e.Kernel kernel))) (kernel_is h)
said_by_rules rule.show = refl

-- what is computed, the rules say
along : (version drivers : ℕ) (words words' : List (List ℕ)) (is said : Said) → words ≡ words' → Some is ≡ Some said → Says version drivers words' is → Says version drivers words said
along version drivers words words' is said e h d = subst (λ ws. Says version drivers ws said) (sym e) (subst (Says version drivers words') (same_Some _ _ h) d)

spelled_more : (s : List ℕ) (words words' : List (List ℕ)) → words ≡ words' → s ∷ words ≡ s ∷ words'
spelled_more s words words' e = ap (λ ws. s ∷ ws) e

named_has : (drivers : ℕ) (words : List (List ℕ)) (named : ℕ × ℕ) → driver_and_task drivers words ≡ Some named
    → (d : List ℕ) × (t : List ℕ) × (words ≡ d ∷ t ∷ []) × NamesDriver drivers d named.0 × NamesTask t named.1
named_has drivers words named h =
    let two = bound (two_of words) _ named h in
    let d = bound (driver_of drivers two.x.0) _ named two.then in
    let t = bound (task_of two.x.1) _ named d.then in
    let pair = same_Some _ _ t.then in
    (two.x.0, two.x.1, two_has words two.x two.was, subst (NamesDriver drivers two.x.0) (ap (λ p. p.0) pair) (driver_has drivers two.x.0 d.x d.was), subst (NamesTask two.x.1) (ap (λ p. p.1) pair) (number_has 1 8 two.x.1 t.x t.was))

number_alone : (most : ℕ) (words : List (List ℕ)) (n : ℕ) → only_number most words ≡ Some n → (w : List ℕ) × (words ≡ w ∷ []) × IsNumber 0 most w n
number_alone most words n h = let w = bound (only_of words) _ n h in (w.x, only_has words w.x w.was, number_has 0 most w.x n w.then)

-- behind dK T of a load
record Restarted (version : ℕ) (words : List (List ℕ)) (n : ℕ) : Type 0 where
  two : version ≡ 2
  number : List ℕ
  is : words ≡ codes "restarts" ∷ number ∷ []
  value : IsNumber 0 100 number n

by_word : (b : Bool) (word number : List ℕ) (n : ℕ) → bytes_eq word (codes "restarts") ≡ b → cond b (number_within 0 100 number) None ≡ Some n → (word ≡ codes "restarts") × IsNumber 0 100 number n
by_word true word number n e h = ((bytes_eq-Decides word (codes "restarts")).0 e, number_has 0 100 number n h)
by_word false word number n e h = absurd (cc)

restarted : (b : Bool) (version : ℕ) (words : List (List ℕ)) (n : ℕ) → eqb version 2 ≡ b
    → cond b (two_of words >>= λ two. cond (bytes_eq two.0 (codes "restarts")) (number_within 0 100 two.1) None) None ≡ Some n → Restarted version words n
restarted true version words n e h =
    let two = bound (two_of words) _ n h in
    let found = by_word (bytes_eq two.x.0 (codes "restarts")) two.x.0 two.x.1 n refl two.then in
    record { two = eqb-true version 2 e; number = two.x.1; is = two_has words two.x two.was ∙ ap (λ w. w ∷ two.x.1 ∷ []) found.0; value = found.1 }
restarted false version words n e h = absurd (cc)

load_by : (version drivers i n : ℕ) (d t : List ℕ) (words : List (List ℕ)) (r : ℕ) → restarts_said version words ≡ Some r → NamesDriver drivers d i → NamesTask t n
    → Says version drivers (codes "load" ∷ d ∷ t ∷ words) (event (e.Load i n r))
load_by version drivers i n d t [] r h named task = subst (λ k. Says version drivers (codes "load" ∷ d ∷ t ∷ []) (event (e.Load i n k))) (same_Some _ _ h) (rule.load named task)
load_by version drivers i n d t (word ∷ words) r h named task =
    let found = restarted (eqb version 2) version (word ∷ words) r refl h in
    subst (λ ws. Says version drivers (codes "load" ∷ d ∷ t ∷ ws) (event (e.Load i n r))) (sym found.is) (rule.load_restarts found.two named task found.value)

load_has : (version drivers : ℕ) (words : List (List ℕ)) (said : Event) → load_said version drivers words ≡ Some said → Says version drivers (codes "load" ∷ words) (event said)
load_has version drivers [] said h = absurd (cc)
load_has version drivers (d ∷ []) said h = absurd (cc)
load_has version drivers (d ∷ t ∷ words) said h =
    let driver = bound (driver_of drivers d) _ said h in
    let task = bound (task_of t) _ said driver.then in
    let restarts = bound (restarts_said version words) _ said task.then in
    let rule = load_by version drivers driver.x task.x d t words restarts.x restarts.was (driver_has drivers d driver.x driver.was) (number_has 1 8 t task.x task.was) in
    subst (λ s. Says version drivers (codes "load" ∷ d ∷ t ∷ words) (event s)) (same_Some _ _ restarts.then) rule

call_has : (version drivers : ℕ) (words : List (List ℕ)) (said : Event) → call_said drivers words ≡ Some said → Says version drivers (codes "call" ∷ words) (event said)
call_has version drivers [] said h = absurd (cc)
call_has version drivers (d ∷ []) said h = absurd (cc)
call_has version drivers (d ∷ t ∷ []) said h = absurd (cc)
call_has version drivers (d ∷ t ∷ name ∷ ws) said h =
    let driver = bound (driver_of drivers d) _ said h in
    let task = bound (task_of t) _ said driver.then in
    let found = cond_some (is_name name && (are_values ws && leb (length ws) 8)) (e.Call driver.x task.x name (arguments_in ws) (length ws)) said task.then in
    let tests = both (is_name name) _ found.0 in
    let more = both (are_values ws) _ tests.1 in
    let values = values_have ws more.0 in
    let rule : Says version drivers (codes "call" ∷ d ∷ t ∷ name ∷ ws) (event (e.Call driver.x task.x name (eight (values_in ws)) (length ws))) =
    rule.call (driver_has drivers d driver.x driver.was) (number_has 1 8 t task.x task.was) tests.0 values (leb-true _ _ more.1) in
    let call : List ℤ → Event = λ args. e.Call driver.x task.x name args (length ws) in
    subst (λ s. Says version drivers (codes "call" ∷ d ∷ t ∷ name ∷ ws) (event s)) (ap call (sym (eight_are values)) ∙ found.1) rule

not_none : (words : List (List ℕ)) → not (none_of words) ≡ true → (v : List ℕ) × (ws : List (List ℕ)) × (words ≡ v ∷ ws)
not_none [] h = absurd (cc)
not_none (v ∷ ws) h = (v, ws, refl)

answer_has : (version drivers : ℕ) (words : List (List ℕ)) (said : Said) → answers_said words ≡ Some said → Says version drivers (codes "answer" ∷ words) said
answer_has version drivers [] said h = absurd (cc)
answer_has version drivers (p ∷ words) said h =
    let port = bound (number_within 0 65535 p) _ said h in
    let found = cond_some (not (none_of words) && are_values words) (answers port.x (values_in words)) said port.then in
    let tests = both (not (none_of words)) _ found.0 in
    let some = not_none words tests.0 in
    let values : AreValues (some.0 ∷ some.1) (values_in words) = subst (λ ws. AreValues ws (values_in words)) some.2 (values_have words tests.1) in
    let rule : Says version drivers (codes "answer" ∷ p ∷ some.0 ∷ some.1) (answers port.x (values_in words)) = rule.answer (number_has 0 65535 p port.x port.was) values in
    subst (Says version drivers (codes "answer" ∷ p ∷ words)) found.1 (subst (λ ws. Says version drivers (codes "answer" ∷ p ∷ ws) (answers port.x (values_in words))) (sym some.2) rule)

keyword_has : (version drivers : ℕ) (kw : Keyword) (words : List (List ℕ)) (said : Said) → keyword_said version drivers kw words ≡ Some said → Says version drivers (spelling kw ∷ words) said
keyword_has version drivers keyword.Load words said h =
    let load = mapped event (load_said version drivers words) said h in subst (Says version drivers (codes "load" ∷ words)) load.2 (load_has version drivers words load.0 load.1)
keyword_has version drivers keyword.Restart words said h =
    let named = bound (driver_and_task drivers words) _ said h in
    let has = named_has drivers words named.x named.was in
    along version drivers _ _ _ said (spelled_more (codes "restart") words _ has.2) named.then (rule.restart has.3 has.4)
keyword_has version drivers keyword.Unload words said h =
    let w = bound (only_of words) _ said h in
    let d = bound (driver_of drivers w.x) _ said w.then in
    along version drivers _ _ _ said (spelled_more (codes "unload") words _ (only_has words w.x w.was)) d.then (rule.unload (driver_has drivers w.x d.x d.was))
keyword_has version drivers keyword.Call words said h =
    let call = mapped event (call_said drivers words) said h in subst (Says version drivers (codes "call" ∷ words)) call.2 (call_has version drivers words call.0 call.1)
keyword_has version drivers keyword.Run words said h =
    let two = bound (two_of words) _ said h in
    let t = bound (task_of two.x.0) _ said two.then in
    let n = bound (number_within 0 10000000 two.x.1) _ said t.then in
    along version drivers _ _ _ said (spelled_more (codes "run") words _ (two_has words two.x two.was)) n.then (rule.run (number_has 1 8 two.x.0 t.x t.was) (number_has 0 10000000 two.x.1 n.x n.was))
keyword_has version drivers keyword.Finish words said h =
    let w = bound (only_of words) _ said h in
    let t = bound (task_of w.x) _ said w.then in
    along version drivers _ _ _ said (spelled_more (codes "finish") words _ (only_has words w.x w.was)) t.then (rule.finish (number_has 1 8 w.x t.x t.was))
keyword_has version drivers keyword.Irq words said h =
    let n = bound (only_number 63 words) _ said h in
    let has = number_alone 63 words n.x n.was in
    along version drivers _ _ _ said (spelled_more (codes "irq") words _ has.1) n.then (rule.irq has.2)
keyword_has version drivers keyword.Tick words said h =
    let n = bound (only_number 1000000 words) _ said h in
    let has = number_alone 1000000 words n.x n.was in
    along version drivers _ _ _ said (spelled_more (codes "tick") words _ has.1) n.then (rule.tick has.2)
keyword_has version drivers keyword.Work words said h =
    let n = bound (only_number 256 words) _ said h in
    let has = number_alone 256 words n.x n.was in
    along version drivers _ _ _ said (spelled_more (codes "work") words _ has.1) n.then (rule.work has.2)
keyword_has version drivers keyword.Answer words said h = answer_has version drivers words said h
keyword_has version drivers keyword.Kernel words said h =
    let kernel = bound (kernel_said words) _ said h in
    along version drivers _ _ _ said refl kernel.then (rule.kernel (kernel_has words kernel.x kernel.was))
keyword_has version drivers keyword.Show words said h =
    let found = cond_some (none_of words) (event e.Show) said h in
    subst (Says version drivers (codes "show" ∷ words)) found.1 (subst (λ ws. Says version drivers (codes "show" ∷ ws) (event e.Show)) (sym (none_has words found.0)) rule.show)

pub rules_of_said : (version drivers : ℕ) (words : List (List ℕ)) (said : Said) → line_said version drivers words ≡ Some said → Says version drivers words said
rules_of_said version drivers [] said h = subst (Says version drivers []) (same_Some _ _ h) rule.blank
rules_of_said version drivers (w ∷ words) said h =
    let kw = bound (keyword_of w) _ said h in
    subst (λ s. Says version drivers (s ∷ words) said) (sym (spelled w kw.x kw.was)) (keyword_has version drivers kw.x words said kw.then)
