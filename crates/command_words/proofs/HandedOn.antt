-- What `clap` makes of the words that it is handed, options first: with its matches the parts ask for what the words ask for, and where it refuses the words, they are no
-- command.
-- Here: Kind, kind_of_word; others_plain; parse_ends
use Rattle.std.specs.Prelude.{⊤}
use Rattle.std.proofs.Common.{◌≡◌, refl, ap, sym, subst, ◌∙◌, ℕ, zero, suc, cond, Bool, true, false, not, ◌&&◌, ◌||◌, List, [], ◌∷◌, ◌++◌, length, drop, Option, Some, None, codes, true≢false, eqb, ◌==◌}
use Rattle.std.proofs.lemmas.Bool.Decides.{Decides-eqb}
use Rattle.std.specs.List.{AllByRecursion, starts_with}
use Rattle.std.specs.Str.{bytes_eq}
use Rattle.std.proofs.lemmas.Slice.Eq.{bytes_eq-Decides, starts_is}
use Rattle.clap.specs.Lexer.{long_of, short_of}
use Rattle.clap.specs.Simple.{matches_of}
use Rattle.clap.specs.Faults.{fault_of}
use Rattle.command_words.specs.Words.{Text, is_option, is_plain, is_count, is_steps, is_given, is_joined, is_known, are_known, steps_in, counts_in, others_in}
use Rattle.command_words.specs.Line.{command_line, options_in, handed}
use Rattle.command_words.proofs.Walking.{Comes, Ends, come_is, start, HasSteps, IsOver, IsPlainWord, Seen, Stage, after, counts_behind, count_met, joined_met, nothing, others_met, over_count, over_end, over_joined, over_plain, over_steps, seen_of, steps_behind, steps_met, walk_asks, walk_at}

-- ---- one word

both : (a b : Bool) → (a && b) ≡ true → (a ≡ true) × (b ≡ true)
both true b e = (refl, e)
both false b e = absurd (true≢false (sym e))

not_true : (b : Bool) → not b ≡ true → b ≡ false
not_true true e = absurd (true≢false (sym e))
not_true false e = refl

-- the first byte of a plain word is no minus sign, and so is no beginning with one
starts_other : (b : ℕ) → (b == 45) ≡ false → (45 == b) ≡ false
starts_other b e = go (45 == b) refl
  where
    go : (t : Bool) → (45 == b) ≡ t → t ≡ false
    go false t = refl
    go true t =
        let same : 45 ≡ b = (Decides-eqb 45 b).0 t in
        absurd (true≢false (subst (λ (k : ℕ). (k == 45) ≡ false) (sym same) e))

pub plain_word : (w : Text) → is_plain w ≡ true → IsPlainWord w
plain_word [] h = absurd (true≢false (sym h))
plain_word (b ∷ t) h =
    let e : (b == 45) ≡ false = not_true (b == 45) h in
    record { no_dashes = rw e refl; no_long = rw e refl; no_short = rw e refl }

record IsNoOption (w : Text) : Type 0 where
  option : is_option w ≡ false
  count : is_count w ≡ false
  steps : is_steps w ≡ false
  joined : is_joined w ≡ false

no_option : (w : Text) → is_plain w ≡ true → IsNoOption w
no_option [] h = absurd (true≢false (sym h))
no_option (b ∷ t) h =
    let e : (b == 45) ≡ false = not_true (b == 45) h in
    let f : (45 == b) ≡ false = starts_other b e in
    record { option = e; count = rw e refl; steps = rw e refl; joined = rw f refl }

-- the four kinds of words that are known
data Kind (w : Text) : Type 0 where
  a_plain : is_plain w ≡ true → Kind w
  a_count : w ≡ codes "--count" → Kind w
  a_steps : w ≡ codes "--steps" → Kind w
  a_joined : (x : ℕ) (v : Text) → w ≡ codes "--steps=" ++ x ∷ v → Kind w

joined_kind : (w : Text) → is_joined w ≡ true → Kind w
joined_kind w h =
    let parts = both (starts_with eqb w (codes "--steps=")) (is_given (drop 8 w)) h in
    go (drop 8 w) ((starts_is Decides-eqb w (codes "--steps=") (starts_with eqb w (codes "--steps=")) refl).0 parts.0) parts.1
  where
    go : (rest : Text) → w ≡ codes "--steps=" ++ rest → is_given rest ≡ true → Kind w
    go [] is given = absurd (true≢false (sym given))
    go (x ∷ v) is given = a_joined x v is

known_kind : (w : Text) → is_known w ≡ true → Kind w
known_kind w h = go (is_plain w) (is_count w) (is_steps w) refl refl refl h
  where
    go : (p c s : Bool) → is_plain w ≡ p → is_count w ≡ c → is_steps w ≡ s → (p || (c || (s || is_joined w))) ≡ true → Kind w
    go true c s ep ec es h = a_plain ep
    go false true s ep ec es h = a_count ((bytes_eq-Decides w (codes "--count")).0 ec)
    go false false true ep ec es h = a_steps ((bytes_eq-Decides w (codes "--steps")).0 es)
    go false false false ep ec es h = joined_kind w h

-- ---- all words

-- what is no option is plain
pub others_plain : (ws : List Text) → ((waits : Bool) → are_known waits ws ≡ true → AllByRecursion IsPlainWord (others_in waits ws))
others_plain [] waits h = tt
others_plain (w ∷ ws) true h = others_plain ws false (both (is_plain w) (are_known false ws) h).1
others_plain (w ∷ ws) false h = go (known_kind w (both (is_known w) (are_known (is_steps w) ws) h).0) (others_plain ws)
  where
    go : Kind w → ((waits : Bool) → are_known waits ws ≡ true → AllByRecursion IsPlainWord (others_in waits ws))
        → AllByRecursion IsPlainWord (others_in false (w ∷ ws))
    go (a_plain p) rec =
        let no = no_option w p in
        let known = (both (is_known w) (are_known (is_steps w) ws) h).1 in
        rw no.option (plain_word w p, rec false (rw no.steps at known))
    go (a_count e) rec = subst (λ (v : Text). AllByRecursion IsPlainWord (others_in false (v ∷ ws))) (sym e) (rec false (subst (λ (v : Text). are_known false (v ∷ ws) ≡ true) e h))
    go (a_steps e) rec = subst (λ (v : Text). AllByRecursion IsPlainWord (others_in false (v ∷ ws))) (sym e) (rec true (subst (λ (v : Text). are_known false (v ∷ ws) ≡ true) e h))
    go (a_joined x v e) rec = subst (λ (u : Text). AllByRecursion IsPlainWord (others_in false (u ∷ ws))) (sym e) (rec false (subst (λ (v : Text). are_known false (v ∷ ws) ≡ true) e h))

module _ (o : List Text) (plain : AllByRecursion IsPlainWord o) where
  -- from every stage the rest of the words comes to what it asks for, behind what was read
  abbrev Reads : List Text → Type 0
  Reads ws = (s : Stage) → Comes (walk_at s) (options_in false ws ++ o) (steps_behind (seen_of s) (steps_in false ws)) (counts_behind (seen_of s) (counts_in false ws)) o

  -- and a second `--steps` before it is refused
  abbrev Both : List Text → Type 0
  Both ws = are_known false ws ≡ true → Reads ws × IsOver (options_in false ws ++ o)

  abbrev Tail : List Text → Type 0
  Tail [] = ⊤
  Tail (w ∷ ws) = Both ws

  over_others : IsOver o
  over_others = go o plain
    where
      go : (ws : List Text) → AllByRecursion IsPlainWord ws → IsOver ws
      go [] p = over_end
      go (m ∷ ms) p = over_plain m p.0 ms

  plain_next : (w : Text) (ws : List Text) → is_plain w ≡ true → are_known false (w ∷ ws) ≡ true → Both ws → Reads (w ∷ ws) × IsOver (options_in false (w ∷ ws) ++ o)
  plain_next w ws p h next =
      let no = no_option w p in
      let known = (both (is_known w) (are_known (is_steps w) ws) h).1 in
      let got = next (rw no.steps at known) in
      rw (no.option, no.joined, no.count, no.steps) got

  steps_next : (ws : List Text) → are_known true ws ≡ true → Tail ws → Reads (codes "--steps" ∷ ws) × IsOver (options_in false (codes "--steps" ∷ ws) ++ o)
  steps_next [] h next = absurd (true≢false (sym h))
  steps_next (v ∷ ws) h next =
      let parts = both (is_plain v) (are_known false ws) h in
      let got = next parts.1 in (
        λ s. steps_met s v (plain_word v parts.0) (options_in false ws ++ o) (steps_in false ws) (counts_in false ws) o got.1 got.0,
        over_steps (v ∷ (options_in false ws ++ o)),
      )

  count_next : (ws : List Text) → Reads ws → Reads (codes "--count" ∷ ws)
  count_next ws got s = count_met s (options_in false ws ++ o) (steps_in false ws) (counts_in false ws) o got

  joined_next : (x : ℕ) (v : Text) (ws : List Text) → Reads ws → Reads ((codes "--steps=" ++ x ∷ v) ∷ ws)
  joined_next x v ws got s = joined_met s (x ∷ v) (options_in false ws ++ o) (steps_in false ws) (counts_in false ws) o got

  over_next : (x : ℕ) (v : Text) (ws : List Text) → IsOver (options_in false ((codes "--steps=" ++ x ∷ v) ∷ ws) ++ o)
  over_next x v ws = over_joined (x ∷ v) (options_in false ws ++ o)

  one_word : (w : Text) (ws : List Text) → are_known false (w ∷ ws) ≡ true → Kind w → Both ws → Tail ws → Reads (w ∷ ws) × IsOver (options_in false (w ∷ ws) ++ o)
  one_word w ws h (a_plain p) next tail = plain_next w ws p h next
  one_word w ws h (a_count e) next tail =
      let known : are_known false ws ≡ true = subst (λ (v : Text). are_known false (v ∷ ws) ≡ true) e h in
      let got = next known in
      subst (λ (v : Text). Reads (v ∷ ws) × IsOver (options_in false (v ∷ ws) ++ o)) (sym e) (count_next ws got.0, over_count (options_in false ws ++ o))
  one_word w ws h (a_steps e) next tail =
      subst (λ (v : Text). Reads (v ∷ ws) × IsOver (options_in false (v ∷ ws) ++ o)) (sym e)
      (steps_next ws (subst (λ (v : Text). are_known false (v ∷ ws) ≡ true) e h) tail)
  one_word w ws h (a_joined x v e) next tail =
      let known : are_known false ws ≡ true = subst (λ (u : Text). are_known false (u ∷ ws) ≡ true) e h in
      let got = next known in
      subst (λ (u : Text). Reads (u ∷ ws) × IsOver (options_in false (u ∷ ws) ++ o)) (sym e) (joined_next x v ws got.0, over_next x v ws)

  all_words : (ws : List Text) → Both ws × Tail ws
  all_words [] = (λ h. (λ s. others_met s o plain, over_others), tt)
  all_words (w ∷ ws) =
      let rest = all_words ws in
      (λ h. one_word w ws h (known_kind w (both (is_known w) (are_known (is_steps w) ws) h).0) rest.0 rest.1, rest.0)

pub parse_ends : (ws : List Text) → are_known false ws ≡ true
    → Ends (fault_of command_line (handed ws)) (matches_of command_line (handed ws)) (steps_in false ws) (counts_in false ws) (others_in false ws)
parse_ends ws h = come_is start (handed ws) (steps_in false ws) (counts_in false ws) (others_in false ws) (((all_words (others_in false ws) (others_plain ws false h) ws).0 h).0 (after nothing))
