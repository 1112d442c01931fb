-- What the answers of the readers say of a text.
use Rattle.std.proofs.Common.{◌≡◌, ℕ, List, ◌⊎◌, inl, inr, Result, Err, sym, subst, ap, refl}
use Rattle.std.specs.Prelude.{◌≢◌}
use Rattle.c_tree.specs.declared.items.Unit.{Unit as TextUnit}
use Rattle.c_tree.specs.declared.words.Token.{Token}
use Rattle.c_tree.specs.Bytes.{Text}
use Rattle.c_tree.specs.Division.{IsDivision}
use Rattle.c_tree.specs.Units.{HasNoItem, Reads}
use Rattle.c_token.specs.declared.refusal.WordRefusal.{WordRefusal}
use Rattle.c_token.specs.declared.refusal.WordRefusal.TheVariants as words
use Rattle.c_token.specs.Answers.{IsRefusal}
use Rattle.c_decl.specs.declared.refusal.UnitRefusal.{UnitRefusal}
use Rattle.c_decl.specs.declared.refusal.UnitRefusal.TheVariants as items
use Rattle.driver_front.specs.declared.refusal.DriverRefusal.{DriverRefusal}
use Rattle.driver_front.specs.declared.refusal.DriverRefusal.TheVariants as refusal
use Rattle.driver_front.specs.Parts.{word_refusal, unit_refusal}
use Rattle.driver_front.specs.Verdict.{IsUnread, no_word, past_limit, no_item, Verdict, unread, read, unit_in, verdict_of}
use Rattle.safe_code.specs.Drivers.{Driver}

-- a refusal of the words
pub unread-words : (t : Text) (r : WordRefusal) → IsRefusal t r → word_refusal r ≢ refusal.Memory → IsUnread t (word_refusal r)
unread-words t (words.NotAWord n) h some = no_word h
unread-words t (words.Limit n kind) h some = past_limit h
unread-words t words.Memory h some = absurd (some refl)

-- a refusal of the items
pub unread-items : (t : Text) (ws : List Token) (r : UnitRefusal) → IsDivision t ws → ((n : ℕ) × HasNoItem ws n × (r ≡ items.NoItem n)) ⊎ (r ≡ items.Memory)
    → unit_refusal r ≢ refusal.Memory → IsUnread t (unit_refusal r)
unread-items t ws r divided (inl h) some = subst (λ (x : UnitRefusal). IsUnread t (unit_refusal x)) (sym h.2) (no_item divided h.1)
unread-items t ws r divided (inr h) some = absurd (some (ap unit_refusal h))

-- the verdict of a text that is read is that of its unit
pub read-verdict : (t : Text) (u : TextUnit) (r : Result Driver DriverRefusal) → Reads t u → (r ≢ Err refusal.Memory → unit_in r ≡ verdict_of u)
    → r ≢ Err refusal.Memory → Verdict t (unit_in r)
read-verdict t u r reads h some = subst (λ (x : Result _ DriverRefusal). Verdict t x) (sym (h some)) (read reads)

-- a refusal as the outcome of a text
abbrev refused : DriverRefusal → Result Driver DriverRefusal
refused r = Err r

-- the verdict of a text that is not read is its refusal
pub unread-verdict : (t : Text) (r : DriverRefusal) → (r ≢ refusal.Memory → IsUnread t r) → refused r ≢ refused refusal.Memory → Verdict t (unit_in (refused r))
unread-verdict t r h some = unread (h (λ same. some (ap refused same)))
