-- From what an answer says to when it comes: of one text, one thing is so.
use Rattle.std.proofs.Common.{◌≡◌, ℕ, List, Result, Ok, Err, Vec, Global, IfOk, IfErr, inl, inr, refl, ap, ◌∙◌}
use Rattle.c_tree.specs.declared.limits.LimitKind.{LimitKind}
use Rattle.c_tree.specs.declared.words.Token.{Token}
use Rattle.c_tree.specs.Bytes.{Text}
use Rattle.c_tree.specs.Division.{IsDivision, HasNoWord, PassesLimit}
use Rattle.c_token.specs.declared.refusal.WordRefusal.{WordRefusal}
use Rattle.c_token.specs.declared.refusal.WordRefusal.TheVariants as refusal
use Rattle.c_token.specs.Answers.{IsRefusal, IsUnlessMemory}
use Rattle.c_token.proofs.DivisionLaws.{IsDivision-unique, IsDivision-no_stop, IsDivision-no_limit, HasNoWord-unique, HasNoWord-no_limit, PassesLimit-unique}

abbrev Answer : Type 0
Answer = Result (Vec Token Global) WordRefusal

pub divides : (r : Answer) (t : Text) (ws : List Token) → IfOk r (λ a. IsDivision t a.items) → IsDivision t ws → IfOk r (λ a. a.items ≡ ws)
divides (Ok a) t ws d e = IsDivision-unique d e
divides (Err f) t ws d e = d

pub divides_or_memory : (r : Answer) (t : Text) (ws : List Token) → IfErr r (λ e. IsRefusal t e) → IsDivision t ws → IfErr r (λ e. e ≡ refusal.Memory)
divides_or_memory (Ok a) t ws d e = d
divides_or_memory (Err (refusal.NotAWord n)) t ws d e = absurd (IsDivision-no_stop e d)
divides_or_memory (Err (refusal.Limit n kind)) t ws d e = absurd (IsDivision-no_limit e d)
divides_or_memory (Err refusal.Memory) t ws d e = refl

pub no_word : (r : Answer) (t : Text) (n : ℕ) → IfOk r (λ a. IsDivision t a.items) → IfErr r (λ e. IsRefusal t e) → HasNoWord t n → IsUnlessMemory r (refusal.NotAWord n)
no_word (Ok a) t n d f e = absurd (IsDivision-no_stop d e)
no_word (Err (refusal.NotAWord m)) t n d f e = inl (ap (λ x. Err (refusal.NotAWord x)) (HasNoWord-unique f e))
no_word (Err (refusal.Limit m kind)) t n d f e = absurd (HasNoWord-no_limit e f)
no_word (Err refusal.Memory) t n d f e = inr refl

pub limit : (r : Answer) (t : Text) (n : ℕ) (kind : LimitKind) → IfOk r (λ a. IsDivision t a.items) → IfErr r (λ e. IsRefusal t e) → PassesLimit t n kind → IsUnlessMemory r (refusal.Limit n kind)
limit (Ok a) t n kind d f e = absurd (IsDivision-no_limit d e)
limit (Err (refusal.NotAWord m)) t n kind d f e = absurd (HasNoWord-no_limit f e)
limit (Err (refusal.Limit m other)) t n kind d f e = let u = PassesLimit-unique f e in inl (ap (λ x. Err (refusal.Limit x other)) u.0 ∙ ap (λ x. Err (refusal.Limit n x)) u.1)
limit (Err refusal.Memory) t n kind d f e = inr refl
