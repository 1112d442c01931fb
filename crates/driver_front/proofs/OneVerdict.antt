-- A text has one verdict.
use Rattle.std.proofs.Common.{◌≡◌, ℕ, List, Result, Err, subst, ap}
use Rattle.c_tree.specs.declared.items.Unit.{Unit as TextUnit}
use Rattle.c_tree.specs.declared.words.Token.{Token}
use Rattle.c_tree.specs.Bytes.{Text}
use Rattle.c_tree.specs.Division.{IsDivision}
use Rattle.c_tree.specs.Units.{Reads, HasNoItem}
use Rattle.c_token.proofs.DivisionLaws.{IsDivision-unique, IsDivision-no_stop, IsDivision-no_limit, HasNoWord-unique, HasNoWord-no_limit, PassesLimit-unique}
use Rattle.checked_tree.specs.declared.units.CheckedUnit.{CheckedUnit}
use Rattle.c_decl.proofs.OneItem.{unit_or_none, one_line, text_only}
use Rattle.driver_front.specs.declared.refusal.DriverRefusal.{DriverRefusal}
use Rattle.driver_front.specs.declared.refusal.DriverRefusal.TheVariants as refusal
use Rattle.driver_front.specs.Verdict.{IsUnread, no_word, past_limit, no_item, Verdict, unread, read, verdict_of}

-- the words of a text go on with no item in one place alone
no_item_once : (t : Text) (n m : ℕ) (words others : List Token) → IsDivision t words → IsDivision t others → HasNoItem words n → HasNoItem others m → n ≡ m
no_item_once t n m words others c d a b = one_line words n m a (subst (λ (w : List Token). HasNoItem w m) (IsDivision-unique d c) b)

-- where they do, they are no unit
no_unit : (t : Text) (n : ℕ) (words : List Token) (u : TextUnit) → IsDivision t words → HasNoItem words n → Reads t u → ⊥
no_unit t n words u c a d = unit_or_none d.words u n d.spells (subst (λ (w : List Token). HasNoItem w n) (IsDivision-unique c d.divides) a)

-- a text is not read in one place alone
unread_once : {t : Text} {r s : DriverRefusal} → IsUnread t r → IsUnread t s → r ≡ s
unread_once (no_word a) (no_word b) = ap (λ (n : ℕ). refusal.NotAWord n) (HasNoWord-unique a b)
unread_once (no_word a) (past_limit b) = absurd (HasNoWord-no_limit a b)
unread_once (no_word a) (no_item d b) = absurd (IsDivision-no_stop d a)
unread_once (past_limit a) (no_word b) = absurd (HasNoWord-no_limit b a)
unread_once (past_limit a) (past_limit b) =
    let same = PassesLimit-unique a b in
    cc (same.0, same.1)
unread_once (past_limit a) (no_item d b) = absurd (IsDivision-no_limit d a)
unread_once (no_item c a) (no_word b) = absurd (IsDivision-no_stop c b)
unread_once (no_item c a) (past_limit b) = absurd (IsDivision-no_limit c b)
unread_once (no_item c a) (no_item d b) = ap (λ (n : ℕ). refusal.NoItem n) (no_item_once _ _ _ _ _ c d a b)

-- a text that is not read is no unit
not_both : {t : Text} {r : DriverRefusal} {u : TextUnit} → IsUnread t r → Reads t u → ⊥
not_both (no_word a) d = IsDivision-no_stop d.divides a
not_both (past_limit a) d = IsDivision-no_limit d.divides a
not_both (no_item c a) d = no_unit _ _ _ _ c a d

pub verdict_once : {t : Text} {a b : Result CheckedUnit DriverRefusal} → Verdict t a → Verdict t b → a ≡ b
verdict_once (unread h) (unread k) = ap (λ (r : DriverRefusal). Err r) (unread_once h k)
verdict_once (unread h) (read d) = absurd (not_both h d)
verdict_once (read d) (unread h) = absurd (not_both h d)
verdict_once (read d) (read e) = ap verdict_of (text_only _ _ _ d e)
