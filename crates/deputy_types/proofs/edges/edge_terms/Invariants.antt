use Rattle.std.proofs.Common.{◌≡◌, drop}
use Rattle.deputy_types.specs.Declarations.{edge_terms}
use Rattle.deputy_types.proofs.edges.edge_terms.Given as goal

abbrev pub invariant-loop-term : goal.invariant-loop-term
invariant-loop-term l = edge_terms l.size l.siblings l.edge (drop l.term-index l.terms) ≡ edge_terms l.size l.siblings l.fn.e l.terms
