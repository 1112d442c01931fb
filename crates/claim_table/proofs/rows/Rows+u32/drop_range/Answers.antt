use Rattle.std.proofs.Common.{rules, ◌≡◌, ◌∙◌, ℕ, sym, ap, subst, filter, arith}
use Rattle.std.proofs.lemmas.Fn.{filter_same}
use Rattle.claim_table.specs.Ordered.{IsOrdered}
use Rattle.claim_table.specs.ClaimRows.{is_not_range_claim}
use Rattle.claim_table.proofs.InOrder.{IsOrdered-filter}
use Rattle.claim_table.proofs.rows.Rows+u32.drop_range.Goals as goal

pub returns : goal.returns
returns c =
    filter_same _ (is_not_range_claim c.args.owner c.args.base c.args.n) _ (λ x b f r. search rules) _ _ c.retain.ensures.filtered
    ∙ ap (filter (is_not_range_claim c.args.owner c.args.base c.args.n)) c.self.view_is

pub invariant_of-self : goal.invariant_of-self
invariant_of-self c =
    let kept : c.retain.new.self.items ≡ filter (is_not_range_claim c.args.owner c.args.base c.args.n) c.self.inside.claims.items =
    filter_same _ (is_not_range_claim c.args.owner c.args.base c.args.n) _ (λ x b f r. search rules) _ _ c.retain.ensures.filtered in (
      omega arith,
      subst (IsOrdered {D = ℕ}) (sym kept) (IsOrdered-filter (is_not_range_claim c.args.owner c.args.base c.args.n) c.self.inside.claims.items c.self.invariant.1),
    )
