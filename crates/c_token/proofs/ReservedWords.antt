-- The table of reserved words has each in its slot.
use Rattle.std.proofs.Common.{◌≡◌, ◌≤◌, true, false, List, [], ◌∷◌, length, Some, None, ⊎_elim, refl, sym, lit≤}
use Rattle.c_tree.specs.declared.keywords.Keyword.{Keyword}
use Rattle.c_tree.specs.declared.keywords.Keyword.TheVariants as keyword
use Rattle.c_tree.specs.Bytes.{Text}
use Rattle.c_tree.specs.Names.{spelled_keyword, same_text, keyword_among, keywords, reserved}
use Rattle.c_token.specs.Reserved.{slot_of, entry_of}
use Rattle.c_token.proofs.Choices.{option_cases, chosen, same_text-true}

pub entry-spelled : (k : Keyword) → entry_of (slot_of (spelled_keyword k)) ≡ Some k
unfolding entry_of slot_of
entry-spelled keyword.Int = refl
entry-spelled _ = refl

pub length-spelled : (k : Keyword) → (2 ≤ length (spelled_keyword k)) × (length (spelled_keyword k) ≤ 8)
length-spelled keyword.Int = (lit≤ tt, lit≤ tt)
length-spelled _ = (lit≤ tt, lit≤ tt)

pub reserved-spelled : (k : Keyword) → reserved (spelled_keyword k) ≡ Some k
unfolding reserved
reserved-spelled keyword.Int = refl
reserved-spelled _ = refl

keyword_among-spelled : (ks : List Keyword) (t : Text) (k : Keyword) → keyword_among ks t ≡ Some k → t ≡ spelled_keyword k
keyword_among-spelled [] t k h = cc
keyword_among-spelled (j ∷ ks) t k h =
    ⊎_elim (λ (g : (same_text (spelled_keyword j) t ≡ true) × (Some j ≡ Some k)).
    let e = same_text-true (spelled_keyword j) t g.0 in let i : j ≡ k = cc (g.1) in cc)
    (λ (g : (same_text (spelled_keyword j) t ≡ false) × (keyword_among ks t ≡ Some k)). keyword_among-spelled ks t k g.1)
    (chosen (same_text (spelled_keyword j) t) (Some j) (keyword_among ks t) (Some k) h)

-- what is reserved is spelled as its word
pub spelled-reserved : (t : Text) (k : Keyword) → reserved t ≡ Some k → t ≡ spelled_keyword k
unfolding reserved
spelled-reserved t k h = keyword_among-spelled keywords t k h

-- what is spelled as no word is not reserved
pub reserved-none : (t : Text) → ((k : Keyword) → t ≡ spelled_keyword k → ⊥) → None ≡ reserved t
reserved-none t none =
    ⊎_elim (λ (g : reserved t ≡ None). sym g)
    (λ (g : (k : Keyword) × (reserved t ≡ Some k)). absurd (none g.0 (spelled-reserved t g.0 g.1)))
    (option_cases (reserved t))
