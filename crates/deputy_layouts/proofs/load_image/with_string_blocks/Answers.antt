use Rattle.std.proofs.Common.{◌≡◌, ℕ, ◌<◌, List, [], ◌∷◌, Ok, length, refl, sym, ◌∙◌, arith}
use Rattle.deputy_types.specs.declared.load_image.Image.{Image}
use Rattle.deputy_types.specs.UnitLayout.{with_string_blocks}
use Rattle.deputy_layouts.proofs.load_image.with_string_blocks.Goals as goal

none_left : (image : Image) (lines : List ℕ) (texts : List (List ℕ)) → length texts < 1 → with_string_blocks image lines texts ≡ Ok image
none_left image [] texts h = refl
none_left image (line ∷ lines) [] h = refl
none_left image (line ∷ lines) (text ∷ texts) h = absurd (omega arith)

pub returns-in-empty-clause-answer : goal.returns-in-empty-clause-answer
returns-in-empty-clause-answer c = sym c.loop-line.invariant.outcome ∙ none_left _ _ _ c.in-empty.len_below
