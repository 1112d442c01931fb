-- The texts of a command as they were read.
use Rattle.std.proofs.Common.{◌≡◌, ℕ, List, [], ◌∷◌, ◌++◌, Option, None, Some, IfSome, length, map, suc, ◌≤◌, ap, ◌∙◌, sym, refl, subst}
use Rattle.sd_outside.specs.declared.read.TextFault.{TextFault}
use Rattle.sd_outside.specs.declared.read.TextFault.TheVariants as fault
use Rattle.sd_engine.specs.declared.status.Status.TheVariants as status
use Rattle.sd_engine.specs.Running.{AreShort, AreTextsBehind}
use Rattle.sd_engine.specs.Serve.{AreTexts, IsText, status_of}

-- a text that is what was left
pub text-is : (left : Option (List ℕ)) (text given : List ℕ) → given ≡ text → length given ≤ 1048576
    → IfSome left (λ bytes. text ≡ bytes) → IsText left given
text-is None text given e short is = record { is = tt; short = short }
text-is (Some bytes) text given e short is = record { is = e ∙ is; short = short }

-- a status that says too long is that of a text that is
pub too-long-only : (f : TextFault) → status_of f ≡ status.TooLong → f ≡ fault.TooLong
too-long-only fault.ReadFault e = cc
too-long-only fault.TooLong e = refl
too-long-only fault.Memory e = cc

-- texts behind none are all that there are
pub all-texts : (left : List ℕ → Option (List ℕ)) (names before now : List (List ℕ)) → before ≡ [] → AreTextsBehind left names before now
    → AreTexts left names now
all-texts left names before now none behind =
    let is : behind.read ≡ now = sym (behind.behind ∙ ap (λ (l : List (List ℕ)). l ++ behind.read) none) in
    subst (λ (l : List (List ℕ)). AreTexts left names l) is behind.texts

-- texts that were read are not too long
pub texts-short : (left : List ℕ → Option (List ℕ)) (names texts : List (List ℕ)) → AreTexts left names texts → AreShort texts
texts-short left [] [] h = tt
texts-short left [] (t ∷ texts) h = absurd h
texts-short left (v ∷ names) [] h = absurd h
texts-short left (v ∷ names) (t ∷ texts) h = (h.0.short, texts-short left names texts h.1)

-- there are as many texts as names
pub texts-few : {X : Type 0} (f : X → List ℕ) (left : List ℕ → Option (List ℕ)) (names : List (List ℕ)) (xs : List X)
    → AreTexts left names (map f xs)
    → length xs ≡ length names
texts-few f left [] [] h = refl
texts-few f left [] (x ∷ xs) h = absurd h
texts-few f left (v ∷ names) [] h = absurd h
texts-few f left (v ∷ names) (x ∷ xs) h = ap (λ n. suc n) (texts-few f left names xs h.1)
