use Rattle.std.proofs.Common.{◌≡◌, drop}
use Rattle.deputy_types.specs.Found.{found_exprs}
use Rattle.deputy_layouts.proofs.found_forms.add_exprs.Given as goal

abbrev pub invariant-loop-expr : goal.invariant-loop-expr
invariant-loop-expr l = found_exprs l.structs (drop l.expr-index l.exprs) l.found ≡ found_exprs l.fn.structs l.fn.exprs l.fn.found
