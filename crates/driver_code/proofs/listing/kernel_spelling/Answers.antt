use Rattle.std.proofs.Common.{◌≤◌, ℕ, List, length, sym, subst}
use Rattle.driver_code.proofs.Spellings.{short_spelling}
use Rattle.driver_code.proofs.listing.kernel_spelling.Goals as goal

pub returns-clause-short : goal.returns-clause-short
returns-clause-short c = subst (λ (l : List ℕ). length l ≤ 20) (sym c.kernel_row.ensures.spelling) (short_spelling c.args.name)
