-- What is noted last of all is read first.
use Rattle.std.proofs.Common.{◌≡◌, ℕ, zero, suc, ◌-◌, ◌≤◌, true, false, not, ltb, List, [], ◌∷◌, ◌++◌, length, take, drop, reverse, slice_get, Option, Some, None, refl, ap, sym, ◌∙◌, subst, arith, length-append, append-nil, option_to_list}
use Rattle.std.specs.Prelude.{MatchOption}
use Rattle.std.proofs.lemmas.Bool.Decides.{nat_tests}
use Rattle.std.proofs.lemmas.List.{reverse-append, reverse-reverse, length-reverse}
use Rattle.sd_base.specs.Selection.{passes}
use Rattle.update_tracker.specs.declared.undo.Note.{Note}
use Rattle.update_tracker.specs.declared.undo.Undo.{Undo}
use Rattle.update_tracker.specs.NetPart.{merged, is_newest_note, Pops}

reverse-push : {X : Type 0} (xs : List X) (x : X) → reverse (xs ++ x ∷ []) ≡ x ∷ reverse xs
reverse-push xs x = reverse-append xs (x ∷ [])

last_at : {X : Type 0} (xs : List X) (x : X) (n : ℕ) → n ≡ length xs → slice_get (xs ++ x ∷ []) n ≡ Some x
last_at [] x zero is = refl
last_at [] x (suc n) is = absurd (omega arith)
last_at (y ∷ xs) x zero is = absurd (omega arith)
last_at (y ∷ xs) x (suc n) is = last_at xs x n (omega arith)

last_of : {X : Type 0} (xs : List X) (x : X) → slice_get (xs ++ x ∷ []) (length (xs ++ x ∷ []) - 1) ≡ Some x
last_of xs x = last_at xs x (length (xs ++ x ∷ []) - 1) (omega (arith, length-append xs (x ∷ [])))

-- a note that is newer than all grants and releases
note_newest : (note : Note) (notes : List Note) (blocks : List Undo) → length blocks ≤ note.after → merged blocks (note ∷ notes) ≡ note.item ∷ merged blocks notes
note_newest note notes blocks all =
    let none : length blocks - note.after ≡ 0 = omega arith in
    ap (λ n. take n blocks ++ note.item ∷ merged (drop n blocks) notes) none

-- a grant or a release that is newer than all notes
block_newest : (block : Undo) (blocks : List Undo) (note : Note) (notes : List Note) → note.after ≤ length blocks → merged (block ∷ blocks) (note ∷ notes) ≡ block ∷ merged blocks (note ∷ notes)
block_newest block blocks note notes fewer =
    let one_more : suc (length blocks) - note.after ≡ suc (length blocks - note.after) = omega arith in
    ap (λ n. take n (block ∷ blocks) ++ note.item ∷ merged (drop n (block ∷ blocks)) notes) one_more

pub note_popped : (blocks : List Undo) (notes rest : List Note) (note : Note) → notes ≡ rest ++ note ∷ [] → is_newest_note notes (length blocks) ≡ true →
    Pops (record { blocks = blocks; notes = notes }) (Some note.item) (record { blocks = blocks; notes = rest })
note_popped blocks notes rest note is newest =
    let last : is_newest_note (rest ++ note ∷ []) (length blocks) ≡ true = subst (λ ns. is_newest_note ns (length blocks) ≡ true) is newest in
    let here : not (ltb note.after (length blocks)) ≡ true = ap (passes (λ (n : Note). not (ltb n.after (length blocks)))) (sym (last_of rest note)) ∙ last in
    let all : length (reverse blocks) ≤ note.after = grind (arith, nat_tests, length-reverse blocks) in
    ap (λ ns. merged (reverse blocks) ns) (ap reverse is ∙ reverse-push rest note) ∙ note_newest note (reverse rest) (reverse blocks) all

block_first_of : (block : Undo) (blocks : List Undo) (notes turned : List Note) → notes ≡ reverse turned → is_newest_note notes (suc (length blocks)) ≡ false → merged (block ∷ blocks) turned ≡ block ∷ merged blocks turned
block_first_of block blocks notes [] is newest = refl
block_first_of block blocks notes (note ∷ older) is newest =
    let ends : notes ≡ reverse older ++ note ∷ [] = is ∙ reverse-append (note ∷ []) older in
    let last : is_newest_note (reverse older ++ note ∷ []) (suc (length blocks)) ≡ false = subst (λ ns. is_newest_note ns (suc (length blocks)) ≡ false) ends newest in
    let here : not (ltb note.after (suc (length blocks))) ≡ false = ap (passes (λ (n : Note). not (ltb n.after (suc (length blocks))))) (sym (last_of (reverse older) note)) ∙ last in
    let fewer : note.after ≤ length blocks = grind (arith, nat_tests) in
    block_newest block blocks note older fewer

pub block_popped : (blocks rest : List Undo) (notes : List Note) (block : Undo) → blocks ≡ rest ++ block ∷ [] → is_newest_note notes (length blocks) ≡ false →
    Pops (record { blocks = blocks; notes = notes }) (Some block) (record { blocks = rest; notes = notes })
block_popped blocks rest notes block is newest =
    let turned : reverse blocks ≡ block ∷ reverse rest = ap reverse is ∙ reverse-push rest block in
    let long : length blocks ≡ suc (length (reverse rest)) = ap length is ∙ omega (arith, length-append rest (block ∷ []), length-reverse rest) in
    ap (λ bs. merged bs (reverse notes)) turned ∙ block_first_of block (reverse rest) notes (reverse notes) (sym (reverse-reverse notes)) (subst (λ n. is_newest_note notes n ≡ false) long newest)

no_note : (notes turned : List Note) → notes ≡ reverse turned → is_newest_note notes 0 ≡ false → turned ≡ []
no_note notes [] is newest = refl
no_note notes (note ∷ older) is newest =
    let ends : notes ≡ reverse older ++ note ∷ [] = is ∙ reverse-append (note ∷ []) older in
    let last : is_newest_note (reverse older ++ note ∷ []) 0 ≡ false = subst (λ ns. is_newest_note ns 0 ≡ false) ends newest in
    let here : not (ltb note.after 0) ≡ false = ap (passes (λ (n : Note). not (ltb n.after 0))) (sym (last_of (reverse older) note)) ∙ last in
    absurd (grind (arith, nat_tests))

pub none_popped : (blocks : List Undo) (notes : List Note) → blocks ≡ [] → is_newest_note notes (length blocks) ≡ false → Pops (record { blocks = blocks; notes = notes }) None (record { blocks = []; notes = notes })
none_popped blocks notes is newest =
    let gone : reverse notes ≡ [] = no_note notes (reverse notes) (sym (reverse-reverse notes)) (subst (λ bs. is_newest_note notes (length bs) ≡ false) is newest) in
    let none : notes ≡ [] = sym (reverse-reverse notes) ∙ ap reverse gone in
    (ap (λ bs. merged (reverse bs) (reverse notes)) is ∙ ap (merged []) gone, ap (λ ns. record { blocks = []; notes = ns }) none)

-- what the pop of the blocks leaves, whatever it gave
pub blocks_popped : (old new : List Undo) (notes : List Note) (result : Option Undo) → old ≡ new ++ option_to_list result → (result ≡ None → old ≡ []) → is_newest_note notes (length old) ≡ false →
    Pops (record { blocks = old; notes = notes }) result (record { blocks = new; notes = notes })
blocks_popped old new notes (Some block) is none newest = block_popped old new notes block is newest
blocks_popped old new notes None is none newest =
    let empty : old ≡ [] = none refl in
    subst (λ bs. Pops (record { blocks = old; notes = notes }) None (record { blocks = bs; notes = notes })) (sym empty ∙ is ∙ append-nil new) (none_popped old notes empty newest)

-- a pop that gives nothing is of an empty list
pub empty_of : (xs : List Undo) (n : ℕ) (A : Type 0) (B : Undo → Type 0) (result : Option Undo) → n ≡ length xs → MatchOption result ((n ≡ 0) × A) B → result ≡ None → xs ≡ []
empty_of [] n A B result long cases is = refl
empty_of (x ∷ xs) n A B None long cases is = (let none : n ≡ 0 = cases.0 in absurd (omega arith))
empty_of (x ∷ xs) n A B (Some y) long cases is = cc
