use Rattle.std.proofs.Common.{◌≡◌, drop}
use Rattle.deputy_types.specs.Found.{found_stmts}
use Rattle.deputy_layouts.proofs.found_forms.+statement.Given as goal

abbrev pub invariant-add_statements-loop-statement : goal.invariant-add_statements-loop-statement
invariant-add_statements-loop-statement l = found_stmts l.structs (drop l.statement-index l.statements) l.found ≡ found_stmts l.fn.structs l.fn.statements l.fn.found
