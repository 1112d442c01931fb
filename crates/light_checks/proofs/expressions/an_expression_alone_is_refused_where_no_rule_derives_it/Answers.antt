use Rattle.light_checks.proofs.ExpressionAlone.{alone_refused}
use Rattle.light_checks.proofs.expressions.an_expression_alone_is_refused_where_no_rule_derives_it.Goals as goal

pub returns : goal.returns
returns c = λ ctx e before fault is short refused. alone_refused ctx is e before fault short refused
