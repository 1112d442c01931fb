-- A text is told byte by byte, and what is told goes with what was read.
use Rattle.std.proofs.Common.{◌≡◌, ℕ, zero, suc, ◌+◌, ◌-◌, ◌<◌, ◌≤◌, Bool, true, false, cond, eqb, ltb, leb, List, [], ◌∷◌, ◌++◌, length, take, set, replicate, Option, Some, None, refl, ap, sym, ◌∙◌, subst, arith, length-append, length-take-le, append_assoc}
use Rattle.std.proofs.lemmas.List.{take-append-le}
use Rattle.std.specs.Option.{option_map}
use Rattle.std.proofs.lemmas.Bool.Decides.{nat_tests}
use Rattle.sd_base.specs.Padded.{padded}
use Rattle.wrappers.specs.declared.call_out.TextBytes.{TextBytes}
use Rattle.wrappers.specs.declared.call_out.CallOut.TheVariants.{Said, Wild}
use Rattle.wrappers.specs.declared.call_out.Saying.TheVariants.{Text}
use Rattle.wrappers.specs.Rows.{says_text}
use Rattle.wrappers.specs.Serving.{IsRead}
use Rattle.byte_memory.specs.Tested.{Memory, is_inside}
use Rattle.wrappers.specs.Text.{told, text_from, behind, byte_at}

take_all : (n : ℕ) (xs : List ℕ) → length xs ≤ n → take n xs ≡ xs
take_all zero [] h = refl
take_all zero (x ∷ xs) h = absurd (omega arith)
take_all (suc n) [] h = refl
take_all (suc n) (x ∷ xs) h = ap (λ ys. x ∷ ys) (take_all n xs (omega arith))

set_behind : (front : List ℕ) (byte k : ℕ) → set (front ++ replicate (suc k) 0) (length front) byte ≡ front ++ byte ∷ replicate k 0
set_behind [] byte k = refl
set_behind (x ∷ front) byte k = ap (λ ys. x ∷ ys) (set_behind front byte k)

-- what is told of a text of at most 32 bytes
pub record IsWhole (front : List ℕ) : Type 0 where
  pub bytes : (told front).bytes ≡ padded 32 front
  pub len : (told front).len ≡ length front
  pub more : (told front).more ≡ false

pub whole : (front : List ℕ) → length front ≤ 32 → IsWhole front
whole front short = record {
  bytes = ap (padded 32) (take_all 32 front short);
  len = ap length (take_all 32 front short);
  more = grind (arith, nat_tests);
}

pub told-put : (front : List ℕ) (byte : ℕ) → length front < 32 →
    ◌≡◌ {A = TextBytes} (told (front ++ byte ∷ [])) (record { bytes = set (told front).bytes (told front).len byte; len = (told front).len + 1; more = (told front).more })
told-put front byte short =
    let before = whole front (omega arith) in
    let long : length (front ++ byte ∷ []) ≡ length front + 1 = length-append front (byte ∷ []) in
    let after = whole (front ++ byte ∷ []) (omega arith) in
    let one : 32 - length front ≡ suc (32 - (length front + 1)) = omega arith in
    let bytes : (told (front ++ byte ∷ [])).bytes ≡ set (told front).bytes (told front).len byte =
    after.bytes ∙ ap (λ n. (front ++ byte ∷ []) ++ replicate (32 - n) 0) long ∙ append_assoc front (byte ∷ []) (replicate (32 - (length front + 1)) 0)
    ∙ sym (set_behind front byte (32 - (length front + 1))) ∙ ap (λ n. set (front ++ replicate n 0) (length front) byte) (sym one)
    ∙ ap (λ xs. set xs (length front) byte) (sym before.bytes) ∙ ap (λ n. set (told front).bytes n byte) (sym before.len) in
    let len : (told (front ++ byte ∷ [])).len ≡ (told front).len + 1 = after.len ∙ long ∙ ap (λ n. n + 1) (sym before.len) in
    let more : (told (front ++ byte ∷ [])).more ≡ (told front).more = after.more ∙ sym before.more in
    rw (← bytes) (rw (← len) (rw (← more) refl))

-- of a text of 32 bytes and one more the 32 are told, and that there are more
pub told-past : (front : List ℕ) (byte : ℕ) → length front ≡ 32 → ◌≡◌ {A = TextBytes} (told (front ++ byte ∷ [])) (record (told front) { more = true })
told-past front byte full =
    let cut : take 32 (front ++ byte ∷ []) ≡ take 32 front = take-append-le 32 front (byte ∷ []) (omega arith) in
    let long : length (front ++ byte ∷ []) ≡ 33 = length-append front (byte ∷ []) ∙ ap (λ n. n + 1) full in
    let more : ltb 32 (length (front ++ byte ∷ [])) ≡ true = ap (ltb 32) long in
    rw cut (rw more refl)

-- The walk through a text: these bytes were read, what is told of them is so, and the text is they and what is read from here on.
pub record Going (memory : Memory) (from i at : ℕ) (now : TextBytes) : Type 0 where
  pub front : List ℕ
  pub shown : now ≡ told front
  pub long : length front ≡ i
  pub rest : text_from memory 33 from ≡ option_map (λ more. front ++ more) (text_from memory (33 - i) at)

none_before : (o : Option (List ℕ)) → o ≡ option_map (λ more. [] ++ more) o
none_before None = refl
none_before (Some text) = refl

pub going_first : (memory : Memory) (from : ℕ) → Going memory from 0 from (told [])
going_first memory from = record { front = []; shown = refl; long = refl; rest = none_before (text_from memory 33 from) }

read_one : (memory : Memory) (n at : ℕ) → text_from memory (suc n) at ≡ cond (is_inside memory at 1) (behind (byte_at memory at) (text_from memory n (at + 1))) None
unfolding text_from
read_one memory n at = refl

read_none : (memory : Memory) (at : ℕ) → text_from memory 0 at ≡ Some []
unfolding text_from
read_none memory at = refl

joined : (front : List ℕ) (byte : ℕ) (o : Option (List ℕ)) → option_map (λ more. front ++ more) (option_map (λ more. byte ∷ more) o) ≡ option_map (λ more. (front ++ byte ∷ []) ++ more) o
joined front byte None = refl
joined front byte (Some text) = ap (λ xs. Some xs) (sym (append_assoc front (byte ∷ []) text))

-- one more byte that is inside
read_inside : (memory : Memory) (from i at : ℕ) (now : TextBytes) (g : Going memory from i at now) → i < 33 → is_inside memory at 1 ≡ true →
    text_from memory 33 from ≡ option_map (λ more. g.front ++ more) (behind (byte_at memory at) (text_from memory (33 - (i + 1)) (at + 1)))
read_inside memory from i at now g short inside =
    let left : 33 - i ≡ suc (33 - (i + 1)) = omega arith in
    g.rest ∙ ap (λ n. option_map (λ more. g.front ++ more) (text_from memory n at)) left
    ∙ ap (option_map (λ more. g.front ++ more)) (read_one memory (33 - (i + 1)) at
    ∙ ap (λ b. cond b (behind (byte_at memory at) (text_from memory (33 - (i + 1)) (at + 1))) None) inside)

pub going_next : (memory : Memory) (from i at byte : ℕ) (now next : TextBytes) → Going memory from i at now → i < 33 → is_inside memory at 1 ≡ true → byte ≡ byte_at memory at → eqb byte 0 ≡ false →
    ((front : List ℕ) → now ≡ told front → length front < 33 → next ≡ told (front ++ byte ∷ [])) → Going memory from (i + 1) (at + 1) next
going_next memory from i at byte now next g short inside is some put =
    let long = g.long in
    record {
      front = g.front ++ byte ∷ [];
      shown = put g.front g.shown (omega arith);
      long = length-append g.front (byte ∷ []) ∙ ap (λ n. n + 1) g.long;
      rest = read_inside memory from i at now g short inside
          ∙ ap (λ b. option_map (λ more. g.front ++ more) (behind b (text_from memory (33 - (i + 1)) (at + 1)))) (sym is)
          ∙ ap (λ b. option_map (λ more. g.front ++ more) (cond b (Some []) (option_map (λ more. byte ∷ more) (text_from memory (33 - (i + 1)) (at + 1))))) some
          ∙ joined g.front byte (text_from memory (33 - (i + 1)) (at + 1));
    }

pub going_outside : (memory : Memory) (from i at : ℕ) (now : TextBytes) → Going memory from i at now → i < 33 → is_inside memory at 1 ≡ false → None ≡ option_map told (text_from memory 33 from)
going_outside memory from i at now g short outside =
    let left : 33 - i ≡ suc (33 - (i + 1)) = omega arith in
    sym (ap (option_map told) (g.rest ∙ ap (λ n. option_map (λ more. g.front ++ more) (text_from memory n at)) left
    ∙ ap (option_map (λ more. g.front ++ more)) (read_one memory (33 - (i + 1)) at
    ∙ ap (λ b. cond b (behind (byte_at memory at) (text_from memory (33 - (i + 1)) (at + 1))) None) outside)))

no_more : (front : List ℕ) (now : TextBytes) → now ≡ told front → Some now ≡ option_map told (option_map (λ more. front ++ more) (Some []))
no_more front now is = ap (λ t. Some t) (is ∙ ap told (sym (append-none front)))
  where
    append-none : (xs : List ℕ) → xs ++ [] ≡ xs
    append-none [] = refl
    append-none (x ∷ xs) = ap (λ ys. x ∷ ys) (append-none xs)

pub going_end : (memory : Memory) (from i at byte : ℕ) (now : TextBytes) → Going memory from i at now → i < 33 → is_inside memory at 1 ≡ true → byte ≡ byte_at memory at → eqb byte 0 ≡ true →
    Some now ≡ option_map told (text_from memory 33 from)
going_end memory from i at byte now g short inside is end =
    no_more g.front now g.shown
    ∙ sym (ap (option_map told) (read_inside memory from i at now g short inside
    ∙ ap (λ b. option_map (λ more. g.front ++ more) (behind b (text_from memory (33 - (i + 1)) (at + 1)))) (sym is)
    ∙ ap (λ b. option_map (λ more. g.front ++ more) (cond b (Some []) (option_map (λ more. byte ∷ more) (text_from memory (33 - (i + 1)) (at + 1))))) end))

pub going_past : (memory : Memory) (from i at : ℕ) (now : TextBytes) → Going memory from i at now → 33 ≤ i → Some now ≡ option_map told (text_from memory 33 from)
going_past memory from i at now g past =
    let left : 33 - i ≡ 0 = omega arith in
    no_more g.front now g.shown
    ∙ sym (ap (option_map told) (g.rest ∙ ap (λ n. option_map (λ more. g.front ++ more) (text_from memory n at)) left ∙ ap (option_map (λ more. g.front ++ more)) (read_none memory at)))

-- One byte more, as the code puts it.

shorter : (front : List ℕ) → length (take 32 front) < 32 → length front < 32
shorter front short =
    elim (leb 32 (length front)) as (λ b. leb 32 (length front) ≡ b → length front < 32) [
      | true ↦ λ is. (let enough : 32 ≤ length front = grind (arith, nat_tests) in absurd (omega (arith, short, length-take-le 32 front enough)))
      | false ↦ λ is. grind (arith, nat_tests)
    ] refl

longer : (front : List ℕ) → 32 ≤ length (take 32 front) → 32 ≤ length front
longer front long =
    elim (leb 32 (length front)) as (λ b. leb 32 (length front) ≡ b → 32 ≤ length front) [
      | true ↦ λ is. grind (arith, nat_tests)
      | false ↦ λ is. (let few : length front ≤ 32 = grind (arith, nat_tests) in omega (arith, long, ap length (take_all 32 front few)))
    ] refl

pub put_next : (now : TextBytes) (front : List ℕ) (byte : ℕ) → now ≡ told front → now.len < 32 →
    ◌≡◌ {A = TextBytes} (record { bytes = set now.bytes now.len byte; len = now.len + 1; more = now.more }) (told (front ++ byte ∷ []))
put_next now front byte is small =
    let short : length front < 32 = shorter front (subst (λ (t : TextBytes). t.len < 32) is small) in
    ap (λ (t : TextBytes). record { bytes = set t.bytes t.len byte; len = t.len + 1; more = t.more }) is ∙ sym (told-put front byte short)

pub put_past : (now : TextBytes) (front : List ℕ) (byte : ℕ) → now ≡ told front → length front < 33 → 32 ≤ now.len →
    ◌≡◌ {A = TextBytes} (record { bytes = now.bytes; len = now.len; more = true }) (told (front ++ byte ∷ []))
put_past now front byte is short large =
    let long : 32 ≤ length front = longer front (subst (λ (t : TextBytes). 32 ≤ t.len) is large) in
    ap (λ (t : TextBytes). record { bytes = t.bytes; len = t.len; more = true }) is ∙ sym (told-past front byte (omega arith))

-- what is told of a text that was read, as a call that prints it
pub prints_none : (o : Option (List ℕ)) → None ≡ option_map told o → IsRead (says_text o) Wild
prints_none None is = record { answer = refl; quiet = refl }
prints_none (Some text) is = cc

pub prints_some : (o : Option (List ℕ)) (t : TextBytes) → Some t ≡ option_map told o → IsRead (says_text o) (Said (Text t))
prints_some None t is = cc
prints_some (Some text) t is =
    let same : t ≡ told text = cc in
    record { answer = ap (λ x. Said (Text x)) same; quiet = refl }
