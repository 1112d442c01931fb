-- The parts that the getters of a parse's matches give are those that its rows ask by, and what they ask for is what the words do.
-- Here: no_mode_asks, with_parts; flag_of_parse, answer_of_parse, no_answer_of_parse
use Rattle.std.specs.Prelude.{⊤}
use Rattle.std.proofs.Common.{◌≡◌, ◌⊎◌, refl, ap, sym, subst, ◌∙◌, ℕ, zero, suc, Bool, true, false, cond, List, [], ◌∷◌, Option, Some, None, Result, Ok, Err, codes, map, option_map, true≢false, inl, inr}
use Rattle.std.specs.Option.{unwrap_or}
use Rattle.clap.specs.Kinds.{Kinds}
use Rattle.clap.specs.Matches.{first_value, found_of, matched_of, one_text, raw_values}
use Rattle.clap.specs.Walk.{Row, all_of, first_of, one_of, rows_of}
use Rattle.clap.specs.Simple.{matches_of}
use Rattle.clap.specs.Faults.{fault_of}
use Rattle.clap.specs.declared.parser.matches.Found.{Found}
use Rattle.clap.proofs.WalkLemmas.{first_value-rows, one_text-rows, raw_values-rows}
use Rattle.command_words.specs.declared.commands.Command.{Command}
use Rattle.command_words.specs.declared.commands.WordsFault.{WordsFault}
use Rattle.command_words.specs.declared.commands.WordsFault.TheVariants as fault
use Rattle.command_words.specs.Words.{Text, are_known, counts_in, others_in, steps_in}
use Rattle.command_words.specs.Command.{CommandWords, asked, command_of}
use Rattle.command_words.specs.Line.{IsFlag, IsParse, asked_by, command_line, count_of_flag, handed, is_set, to_list, with_files}
use Rattle.command_words.specs.Meaning.{IsAnswer}
use Rattle.command_words.proofs.Walking.{Ends}
use Rattle.command_words.proofs.HandedOn.{parse_ends}

nothing_asked : (s : List Text) (c : ℕ) → asked s c [] ≡ None
nothing_asked s zero = refl
nothing_asked s (suc n) = refl

pub no_mode_asks : (f : Found) → None ≡ first_value f (codes "mode") → asked_by (rows_of f) ≡ None
no_mode_asks f e =
    let none : first_of (codes "mode") (rows_of f) ≡ None = sym (e ∙ first_value-rows f (codes "mode")) in
    let rows = rows_of f in
    let s = to_list (first_of (codes "steps") rows) in
    let c = count_of_flag (is_set (one_of (codes "count") rows)) in
    ap (λ (o : Option Text). asked s c (with_files o (unwrap_or (all_of (codes "files") rows) []))) none ∙ nothing_asked s c

set_is : (flag : Option Text) (b : Bool) → IsFlag flag → (flag ≡ Some (codes "true") → b ≡ true) → (flag ≡ Some (codes "false") → b ≡ false) → is_set flag ≡ b
set_is flag b (inl e) set unset = ap is_set e ∙ sym (set e)
set_is flag b (inr e) set unset = ap is_set e ∙ sym (unset e)

pub with_parts : (f : Found) (m : Text) (s : Option Text) (b : Bool) (fs : Option (List Text)) → Some m ≡ first_value f (codes "mode")
    → s ≡ first_value f (codes "steps") → fs ≡ option_map raw_values (matched_of f (codes "files")) → IsFlag (one_of (codes "count") (rows_of f))
    → (one_text f (codes "count") ≡ Some (codes "true") → b ≡ true) → (one_text f (codes "count") ≡ Some (codes "false") → b ≡ false)
    → (r : Result Command WordsFault) → IsAnswer (asked (to_list s) (count_of_flag b) (m ∷ unwrap_or fs [])) r → IsAnswer (asked_by (rows_of f)) r
with_parts f m s b fs em es ef flag set unset r h =
    let one = one_text-rows f (codes "count") in
    let mode_is : first_of (codes "mode") (rows_of f) ≡ Some m = sym (em ∙ first_value-rows f (codes "mode")) in
    let steps_is : first_of (codes "steps") (rows_of f) ≡ s = sym (es ∙ first_value-rows f (codes "steps")) in
    let files_is : all_of (codes "files") (rows_of f) ≡ fs = sym (ef ∙ raw_values-rows f (codes "files")) in
    let flag_is : is_set (one_of (codes "count") (rows_of f)) ≡ b = set_is (one_of (codes "count") (rows_of f)) b flag (λ e. set (one ∙ e)) (λ e. unset (one ∙ e)) in
    let same : asked_by (rows_of f) ≡ asked (to_list s) (count_of_flag b) (m ∷ unwrap_or fs []) =
    λ i. asked (to_list (steps_is i)) (count_of_flag (flag_is i)) (with_files (mode_is i) (unwrap_or (files_is i) [])) in
    subst (λ (o : Option CommandWords). IsAnswer o r) (sym same) h

-- ---- all words

known_asks : (words : List Text) → are_known false words ≡ true → command_of words ≡ asked (steps_in false words) (counts_in false words) (others_in false words)
known_asks words h = ap (λ (b : Bool). cond b (asked (steps_in false words) (counts_in false words) (others_in false words)) None) h

pub unknown_asks : (words : List Text) → are_known false words ≡ false → command_of words ≡ None
unknown_asks words h = ap (λ (b : Bool). cond b (asked (steps_in false words) (counts_in false words) (others_in false words)) None) h

module _ (words : List Text) (known : are_known false words ≡ true) where
  ends : (ks : Kinds) (rows : List Row) → Ends ks rows (steps_in false words) (counts_in false words) (others_in false words)
      → ks ≡ [] → (asked_by rows ≡ asked (steps_in false words) (counts_in false words) (others_in false words)) × IsFlag (one_of (codes "count") rows)
  ends ks rows h e = subst (λ (k : Kinds). Ends k rows (steps_in false words) (counts_in false words) (others_in false words)) e h

  pub parsed : (f : Found) (line : List Text) → line ≡ handed words → fault_of command_line line ≡ [] → rows_of f ≡ matches_of command_line line
      → (asked_by (rows_of f) ≡ command_of words) × IsFlag (one_of (codes "count") (rows_of f))
  parsed f line same calm rows =
      let fault : fault_of command_line (handed words) ≡ [] = ap (fault_of command_line) (sym same) ∙ calm in
      let found : rows_of f ≡ matches_of command_line (handed words) = rows ∙ ap (matches_of command_line) same in
      let got = ends (fault_of command_line (handed words)) (matches_of command_line (handed words)) (parse_ends words known) fault in
      subst (λ (r : List Row). (asked_by r ≡ command_of words) × IsFlag (one_of (codes "count") r)) (sym found) (got.0 ∙ sym (known_asks words known), got.1)

  pub refused : (line : List Text) → line ≡ handed words → (fault_of command_line line ≡ [] → ⊥) → command_of words ≡ None
  refused line same fails = known_asks words known ∙ go (fault_of command_line (handed words)) refl (parse_ends words known)
    where
      go : (ks : Kinds) → fault_of command_line (handed words) ≡ ks
          → Ends ks (matches_of command_line (handed words)) (steps_in false words) (counts_in false words) (others_in false words)
          → asked (steps_in false words) (counts_in false words) (others_in false words) ≡ None
      go [] e h = absurd (fails (ap (fault_of command_line) same ∙ e))
      go (k ∷ ks) e h = h

  pub fault_answer : (line : List Text) → line ≡ handed words → (e : WordsFault) → IsParse line (Err e) → IsAnswer (command_of words) (Err e)
  fault_answer line same fault.NoCommand h = refused line same h
  fault_answer line same fault.Memory h = tt
