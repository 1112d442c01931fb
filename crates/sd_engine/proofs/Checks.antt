-- The lines of texts that are accepted.
use Rattle.std.proofs.Common.{ℕ, ◌+◌, ◌≤◌, List, [], ◌∷◌, length, map, Option, refl, arith}
use Rattle.sd_outside.specs.Sink.{more, IsCut}
use Rattle.run_report.specs.declared.item.Item.TheVariants as item
use Rattle.run_report.specs.Lines.{line_of}
use Rattle.sd_engine.specs.Serve.{accepted_lines}
use Rattle.sd_engine.proofs.Cutting.{IsCut-more}

-- a line that was cut is a front part of the lines
pub cut-accepted : {X : Type 0} (f : X → List ℕ) (w now : Option (List ℕ)) (k : ℕ) (xs : List X) → 1 ≤ length xs
    → IsCut now (more w (line_of (item.Accepted k)))
    → IsCut now (more w (accepted_lines k (map f xs)))
cut-accepted f w now k [] h cut = let no : ⊥ = omega (arith, h) in absurd no
cut-accepted f w now k (x ∷ xs) h cut = IsCut-more w now _ (line_of (item.Accepted k)) (accepted_lines (k + 1) (map f xs)) cut refl
