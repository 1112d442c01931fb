-- What a round of each loop makes of "all met", kept in text order.
use Rattle.std.specs.Prelude.{ℕ, ◌≡◌, List, [], ◌∷◌, ◌++◌, drop}
use Rattle.check_elim.specs.declared.lost.Lost.{Lost}
use Rattle.check_elim.specs.Sets.{Facts, facts, size_of}

-- these sets, of so many words, say one by one what is known there
abbrev pub AreRounds : ℕ → List Facts → List Lost → Type 0
AreRounds size [] [] = Unit {0}
AreRounds size [] (l ∷ ls) = ⊥
AreRounds size (b ∷ bs) [] = ⊥
AreRounds size (b ∷ bs) (l ∷ ls) = (size_of l ≡ size) × (facts l ≡ b) × AreRounds size bs ls

-- a list of sets has grown by these
pub record Grown (size : ℕ) (bs : List Facts) (before after : List Lost) : Type 0 where
  pub new : List Lost
  pub joined : after ≡ before ++ new
  pub rounds : AreRounds size bs new

unfoldable pub Grows : ℕ → List Facts → List Lost → List Lost → Type 0
Grows size bs before after = Grown size bs before after

-- a list of sets begins with these
abbrev pub Begins : ℕ → List Facts → List Lost → Type 0
Begins size [] ls = Unit {0}
Begins size (b ∷ bs) [] = ⊥
Begins size (b ∷ bs) (l ∷ ls) = (size_of l ≡ size) × (facts l ≡ b) × Begins size bs ls

-- these stand from a place on
unfoldable pub Stand : ℕ → List Facts → List Lost → ℕ → Type 0
Stand size bs ls next = Begins size bs (drop next ls)
