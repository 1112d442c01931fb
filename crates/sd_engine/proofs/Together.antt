-- The texts of a first file and of the files behind it.
use Rattle.std.proofs.Common.{◌≡◌, ℕ, ◌≤◌, inl, inr, Bool, true, false, not, ◌&&◌, ◌||◌, List, [], ◌∷◌, ◌++◌, length, map, take, drop, get_or, ◌-◌, Option, None, Some, IfSome, Result, Ok, Err, OnOk, refl, sym, ◌∙◌, ap, subst, append_assoc, arith}
use Rattle.std.proofs.Math.Seq.{take-length}
use Rattle.std.specs.Prelude.{bytes_eq}
use Rattle.std.proofs.lemmas.Slice.Eq.{bytes_eq-Decides}
use Rattle.sd_outside.specs.Shelf.{LeavesOthers}
use Rattle.command_words.specs.Command.{all_differ, is_named_in}
use Rattle.sd_engine.specs.Running.{AreTextsBehind}
use Rattle.sd_engine.specs.Serve.{IsText, IsLong, IsFirstLong, AreTexts, most_bytes}

-- what the tests say
neither : (a b : Bool) → (a || b) ≡ false → (a ≡ false) × (b ≡ false)
neither true b h = cc
neither false b h = (refl, h)

both-true : (a b : Bool) → (a && b) ≡ true → (a ≡ true) × (b ≡ true)
both-true true b h = (refl, h)
both-true false b h = cc

not-true : (a : Bool) → not a ≡ true → a ≡ false
not-true true h = cc
not-true false h = refl

apart : (w v : List ℕ) → bytes_eq w v ≡ false → v ≡ w → ⊥
apart w v e same = let is : bytes_eq w v ≡ true = (bytes_eq-Decides w v).1 (sym same) in cc (e, is)

module _ (w : List ℕ) (before after : List ℕ → Option (List ℕ)) (leaves : LeavesOthers w before after) where
  -- the names that another read left as they were
  kept : (v : List ℕ) → bytes_eq w v ≡ false → after v ≡ before v
  kept v e = leaves.others v (apart w v e)

  texts-kept : (names texts : List (List ℕ)) → is_named_in w names ≡ false → AreTexts after names texts → AreTexts before names texts
  texts-kept [] [] e h = tt
  texts-kept [] (t ∷ texts) e h = h
  texts-kept (v ∷ names) [] e h = h
  texts-kept (v ∷ names) (t ∷ texts) e h =
      let p = neither (bytes_eq w v) (is_named_in w names) e in
      (subst (λ (o : Option (List ℕ)). IsText o t) (kept v p.0) h.0, texts-kept names texts p.1 h.1)

  long-kept : (names : List (List ℕ)) → is_named_in w names ≡ false → IsFirstLong after names → IsFirstLong before names
  long-kept [] e h = h
  long-kept (v ∷ names) e (inl h) = inl (subst IsLong (kept v (neither (bytes_eq w v) (is_named_in w names) e).0) h)
  long-kept (v ∷ names) e (inr h) =
      let p = neither (bytes_eq w v) (is_named_in w names) e in
      inr (subst (λ (o : Option (List ℕ)). IfSome o (λ b. length b ≤ most_bytes)) (kept v p.0) h.0, long-kept names p.1 h.1)

-- the first of names that differ is not among the others
first-alone : (w : List ℕ) (names : List (List ℕ)) → all_differ (w ∷ names) ≡ true → is_named_in w names ≡ false
first-alone w names e = not-true (is_named_in w names) (both-true (not (is_named_in w names)) (all_differ names) e).0

-- a text that was read is not too long
not-long : (o : Option (List ℕ)) (t : List ℕ) → IsText o t → IfSome o (λ b. length b ≤ most_bytes)
not-long None t h = tt
not-long (Some b) t h = subst (λ (x : List ℕ). length x ≤ most_bytes) h.is h.short

-- what is left of a list behind its first element
rest-whole : {X : Type 0} (x : X) (xs : List X) → take (length (x ∷ xs) - 1) (drop 1 (x ∷ xs)) ≡ xs
rest-whole x xs = let e : length (x ∷ xs) - 1 ≡ length xs = omega arith in (rw e (take-length xs))

-- what holds of an answer that is there
pub on-ok : {T E : Type 0} {P Q : Type 0} (r : Result T E) → (P → Q) → OnOk r P → OnOk r Q
on-ok (Ok x) f p = f p
on-ok (Err e) f p = tt

module _ {X : Type 0} (f : X → List ℕ) (before after : List ℕ → Option (List ℕ)) (text name : List ℕ) (first : X)
    (name-is : name ≡ f first) (leaves : LeavesOthers name before after)
    (told : IfSome (before name) (λ b. text ≡ b)) (short : length text ≤ most_bytes) where
  -- a first text, and those behind it
  pub texts-first : (xs : List X) (old pushed now : List (List ℕ)) → first ≡ get_or xs 0 first → 1 ≤ length xs
      → all_differ (map f xs) ≡ true → pushed ≡ old ++ text ∷ []
      → AreTextsBehind after (map f (take (length xs - 1) (drop 1 xs))) pushed now → AreTextsBehind before (map f xs) old now
  texts-first [] old pushed now is some e same behind = let no : ⊥ = omega (arith, some) in absurd no
  texts-first (x ∷ xs) old pushed now is some e same behind =
      let known : name ≡ f x = name-is ∙ ap f is in
      let others : LeavesOthers (f x) before after = subst (λ (n : List ℕ). LeavesOthers n before after) known leaves in
      let texts : AreTexts after (map f xs) behind.read = subst (λ (l : List X). AreTexts after (map f l) behind.read) (rest-whole x xs)
      behind.texts in
      record {
        read = text ∷ behind.read;
        behind = behind.behind ∙ ap (λ (l : List (List ℕ)). l ++ behind.read) same ∙ append_assoc old (text ∷ []) behind.read;
        texts = (
          subst (λ (n : List ℕ). IsText (before n) text) known (record { is = told; short = short }),
          texts-kept (f x) before after others (map f xs) behind.read (first-alone (f x) (map f xs) e) texts,
        );
      }

  -- a first text that was read, and one behind it that is too long
  pub long-behind : (xs : List X) → first ≡ get_or xs 0 first → 1 ≤ length xs → all_differ (map f xs) ≡ true
      → IsFirstLong after (map f (take (length xs - 1) (drop 1 xs))) → IsFirstLong before (map f xs)
  long-behind [] is some e long = let no : ⊥ = omega (arith, some) in absurd no
  long-behind (x ∷ xs) is some e long =
      let known : name ≡ f x = name-is ∙ ap f is in
      let others : LeavesOthers (f x) before after = subst (λ (n : List ℕ). LeavesOthers n before after) known leaves in
      let here : IsText (before (f x)) text = subst (λ (n : List ℕ). IsText (before n) text) known (record { is = told; short = short }) in
      inr (
        not-long (before (f x)) text here,
        long-kept (f x) before after others (map f xs) (first-alone (f x) (map f xs) e)
            (subst (λ (l : List X). IsFirstLong after (map f l)) (rest-whole x xs) long),
      )

-- ---- a scenario, and the drivers behind it

module _ (name text : List ℕ) (before after : List ℕ → Option (List ℕ)) (names : List (List ℕ)) (leaves : LeavesOthers name before after)
    (apart : all_differ (name ∷ names) ≡ true) where
  -- the drivers' texts are those that were there before the scenario was read
  pub texts-behind : (texts : List (List ℕ)) → AreTexts after names texts → AreTexts before names texts
  texts-behind texts h = texts-kept name before after leaves names texts (first-alone name names apart) h

  -- one of them is too long, and the scenario is not
  pub long-after : IfSome (before name) (λ b. text ≡ b) → length text ≤ most_bytes → IsFirstLong after names
      → IsFirstLong before (name ∷ names)
  long-after told short h =
      inr (
        not-long (before name) text (record { is = told; short = short }),
        long-kept name before after leaves names
            (first-alone name names apart) h,
      )
