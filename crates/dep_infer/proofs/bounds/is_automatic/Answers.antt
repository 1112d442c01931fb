use Rattle.std.proofs.Common.{◌∙◌, ap, sym}
use Rattle.std.specs.Option.{option_copied}
use Rattle.dep_infer.proofs.Stars.{no_last, bare_last}
use Rattle.dep_infer.proofs.bounds.is_automatic.Goals as goal

pub returns-in-Some : goal.returns-in-Some
returns-in-Some c = bare_last _ _ c.in-Some.star.now _ c.as_slice.ensures (sym (ap option_copied c.in-Some.is) ∙ c.last.ensures.value) c.is_none.ensures

pub returns-in-None : goal.returns-in-None
returns-in-None c = no_last _ _ c.as_slice.ensures (sym (ap option_copied c.in-None.is) ∙ c.last.ensures.value)
