use Rattle.c_tree.specs.ItemGrammar.{FieldAt}
use Rattle.c_expr.specs.Classes.{At}
use Rattle.c_decl.specs.Classes.{is_field}
use Rattle.c_decl.proofs.LongestStruct.{field_shrinks}
use Rattle.c_decl.proofs.Loops.{many_none, many_some, is_nothing, is_something}
use Rattle.c_decl.proofs.Sequences.{then_none, then_is, before_lacks, before_is, ended_lacks, ended_is, word_apart}
use Rattle.c_decl.proofs.Apart.{field_close}
use Rattle.c_decl.proofs.structs.braced_fields.Goals as goal

pub returns-then-is_empty-clause-best : goal.returns-then-is_empty-clause-best
returns-then-is_empty-clause-best c = then_none
    (many_none FieldAt (At is_field) field_shrinks _ c.in_ok-fields.after_fields.now (rw (is_nothing _ _ c.is_empty.ensures c.if-is_empty.true) at c.in_ok-fields.ensures.best))

pub returns-in_default-clause-best : goal.returns-in_default-clause-best
returns-in_default-clause-best c = then_is (word_apart _ field_close)
    (many_some FieldAt (At is_field) _ c.in_ok-fields.after_fields.now c.in_ok-fields.fields (is_something _ _ c.is_empty.ensures c.if-is_empty.false) c.in_ok-fields.ensures.best)
    (before_lacks c.in_default.ensures.word)

pub returns-in_default-after_sign-clause-best : goal.returns-in_default-after_sign-clause-best
returns-in_default-after_sign-clause-best c = then_is (word_apart _ field_close)
    (many_some FieldAt (At is_field) _ c.in_ok-fields.after_fields.now c.in_ok-fields.fields (is_something _ _ c.is_empty.ensures c.if-is_empty.false) c.in_ok-fields.ensures.best)
    (before_is c.in-Some.ensures.word (ended_lacks c.in_default-after_sign.ensures.word))

pub returns-clause-best : goal.returns-clause-best
returns-clause-best c = then_is (word_apart _ field_close)
    (many_some FieldAt (At is_field) _ c.in_ok-fields.after_fields.now c.in_ok-fields.fields (is_something _ _ c.is_empty.ensures c.if-is_empty.false) c.in_ok-fields.ensures.best)
    (before_is c.in-Some.ensures.word (ended_is c.in-Some-after_sign.ensures.word))
