use Rattle.std.proofs.Common.{◌≡◌, drop, nat_eq}
use Rattle.std.specs.List.{list_any}
use Rattle.deputy_layouts.proofs.arms.has_tag.Given as goal

abbrev pub invariant-loop-u : goal.invariant-loop-u
invariant-loop-u l = list_any (λ u. nat_eq u.tag l.k) (drop l.u-index l.unions) ≡ list_any (λ u. nat_eq u.tag l.k) l.unions
