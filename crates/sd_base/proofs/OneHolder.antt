-- Where one owner may hold a line, the rule of a line is that nobody holds it. Nothing cites this: it says what the shared rule means there.
use Rattle.std.proofs.Common.{◌≡◌, ℕ, Bool, cond, List, ℤ, Some, None, arith}
use Rattle.std.proofs.lemmas.Bool.Decides.{nat_tests}
use Rattle.std.specs.List.{list_any}
use Rattle.sd_base.specs.declared.history.Refusal.TheVariants.{Busy, Bad}
use Rattle.sd_base.specs.declared.history.Update.TheVariants.{Line}
use Rattle.sd_base.specs.Selection.{is_below}
use Rattle.sd_base.specs.History.{Entry, line_key, has_key, is_of}
use Rattle.sd_base.specs.Allowed.{refusal_on}
use Rattle.sd_base.proofs.Removal.{list_any-wider}
use Rattle.sd_base.proofs.Single.{within_line, count_by-some, count_by-none}

one_holder_of_a_line : (live : List Entry) (clock owner : ℕ) (line : ℤ) (handler : ℕ) →
    refusal_on 1 live clock owner (Line line handler) ≡ cond (is_below 64 line) (cond (list_any (has_key (line_key line)) live) (Some Busy) None) (Some Bad)
one_holder_of_a_line live clock owner line handler =
    let p : Entry → Bool = has_key (line_key line) in
    grind (arith, nat_tests, count_by-some p live, count_by-none p live, list_any-wider p (is_of owner (line_key line)) (within_line owner (line_key line)) live)
