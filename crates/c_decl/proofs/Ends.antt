-- Where the reading of a text ends: at the end of its words, or before words that begin with no item.
use Rattle.std.proofs.Common.{◌≡◌, ℕ, Bool, true, false, nat_eq, List, [], ◌∷◌, ◌++◌, length, Ok, Err, Result, None, ◌⊎◌, refl, ap, sym, ◌∙◌, subst, inl, eqb-true, append-nil}
use Rattle.std.proofs.lemmas.List.{nil_from_length}
use Rattle.c_tree.specs.declared.items.Item.{Item}
use Rattle.c_tree.specs.declared.items.Unit.{Unit as TextUnit}
use Rattle.c_tree.specs.declared.words.Token.{Token}
use Rattle.c_tree.specs.ItemGrammar.{ItemAt}
use Rattle.c_tree.specs.Reading.{Best, Never, Each, each_end, line_at}
use Rattle.c_tree.specs.Units.{IsUnit, HasNoItem}
use Rattle.c_decl.specs.declared.refusal.UnitRefusal.{UnitRefusal}
use Rattle.c_decl.specs.declared.refusal.UnitRefusal.TheVariants as refusal
use Rattle.c_decl.specs.Answers.{IsUnlessMemory}
use Rattle.c_decl.proofs.OneItem.{unit_only, unit_or_none, one_line}

-- what stands behind the items that were read is read with them
abbrev pub Carries : List Token → List Token → List Item → Type 0
Carries w rest items = (v : List Token) (xs : List Item) → Each ItemAt rest v xs → Each ItemAt w v (items ++ xs)

carried : (w rest : List Token) (items : List Item) → Carries w rest items → Each ItemAt w rest items
carried w rest items carries = subst (Each ItemAt w rest) (append-nil items) (carries rest [] each_end)

-- ---- at the end of the words
pub unit_read : (w rest : List Token) (items : List Item) (b : Bool) → b ≡ nat_eq (length rest) 0 → b ≡ true → Carries w rest items → IsUnit w (record { items = items })
unit_read w rest items b e t carries = let end : rest ≡ [] = nil_from_length rest (eqb-true (length rest) 0 (sym e ∙ t)) in
    subst (λ v. Each ItemAt w v items) end (carried w rest items carries)

pub unit_alone : (w : List Token) (u : TextUnit) → IsUnit w u → (x : TextUnit) → IsUnit w x → u ≡ x
unit_alone w u d x e = unit_only w u x d e

pub unit_stops : (w : List Token) (u : TextUnit) → IsUnit w u → (line : ℕ) → HasNoItem w line → IsUnlessMemory {X = TextUnit} (Ok u) (refusal.NoItem line)
unit_stops w u d line stop = absurd (unit_or_none w u line d stop)

-- ---- before words that begin with no item
some_left : (rest : List Token) (b : Bool) → b ≡ nat_eq (length rest) 0 → b ≡ false → rest ≡ [] → ⊥
some_left [] b e f is = cc
some_left (t ∷ rest) b e f is = cc

pub stop_there : (w rest : List Token) (items : List Item) (n : ℕ) (b : Bool) → b ≡ nat_eq (length rest) 0 → b ≡ false → Carries w rest items → n ≡ line_at rest → Best (ItemAt rest) Never None
    → HasNoItem w n
stop_there w rest items n b e f carries line best =
    record { before = items; rest = rest; reads = carried w rest items carries; some = some_left rest b e f; no_item = best.covers; line = sym line }

pub stop_answer : (w : List Token) (n : ℕ) → HasNoItem w n → ((line : ℕ) × HasNoItem w line × (refusal.NoItem n ≡ refusal.NoItem line)) ⊎ (refusal.NoItem n ≡ refusal.Memory)
stop_answer w n stop = inl (n, stop, refl)

pub stop_units : (w : List Token) (n : ℕ) → HasNoItem w n → (u : TextUnit) → IsUnit w u → Unit {0} × (refusal.NoItem n ≡ refusal.Memory)
stop_units w n stop u d = absurd (unit_or_none w u n d stop)

pub stop_lines : (w : List Token) (n : ℕ) → HasNoItem w n → (line : ℕ) → HasNoItem w line → IsUnlessMemory {X = TextUnit} (Err (refusal.NoItem n)) (refusal.NoItem line)
stop_lines w n stop line other = let same : n ≡ line = one_line w n line stop other in let f : ℕ → Result TextUnit UnitRefusal = λ m. Err (refusal.NoItem m) in inl (ap f same)
