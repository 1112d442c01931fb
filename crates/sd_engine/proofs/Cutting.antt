-- A front part of what is told is a front part of what follows.
use Rattle.std.proofs.Common.{◌≡◌, ℕ, List, [], ◌++◌, Option, Result, Ok, Err, OnErr, ap, sym, ◌∙◌}
use Rattle.sd_outside.specs.Sink.{more, IsCut}
use Rattle.sd_outside.proofs.More.{more-more}

-- a front part of what was told is one of what follows
cut-more : (w whole : Option (List ℕ)) (lines : List ℕ) → IsCut w whole → IsCut w (more whole lines)
cut-more w whole lines cut = record {
  rest = cut.rest ++ lines;
  is = ap (λ (o : Option (List ℕ)). more o lines) cut.is ∙ more-more w
      cut.rest lines;
}

cut-at : (w a b : Option (List ℕ)) → IsCut w a → a ≡ b → IsCut w b
cut-at w a b cut is = record { rest = cut.rest; is = sym is ∙ cut.is }

-- a front part of a piece is a front part of the piece and what follows
pub IsCut-more : (w now whole : Option (List ℕ)) (a b : List ℕ) → IsCut now (more w a) → more w (a ++ b) ≡ whole → IsCut now whole
IsCut-more w now whole a b cut is = cut-at now _ _ (cut-more now _ b cut) (more-more w a b ∙ is)

-- of a line behind nothing that was kept
pub cut-line : (w now : Option (List ℕ)) (kept line : List ℕ) → kept ≡ [] → IsCut now (more w kept) → IsCut now (more w line)
cut-line w now kept line none cut = IsCut-more w now _ kept line cut (ap (λ (l : List ℕ). more w (l ++ line)) none)

-- what holds anyway holds after an error
pub on-error : {T E : Type 0} {P : Type 0} (r : Result T E) → P → OnErr r P
on-error (Ok x) p = tt
on-error (Err e) p = p
