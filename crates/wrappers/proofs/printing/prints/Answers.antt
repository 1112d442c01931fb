use Rattle.std.proofs.Common.{◌≡◌, true, false, eqb, refl, sym, subst, arith}
use Rattle.std.proofs.lemmas.Bool.Decides.{nat_tests}
use Rattle.std.specs.Prelude.{cond, []}
use Rattle.wrappers.specs.declared.call_out.CallOut.TheVariants.{Said, Wild}
use Rattle.wrappers.specs.declared.call_out.Saying.TheVariants.{Text}
use Rattle.wrappers.specs.Served.{says}
use Rattle.wrappers.specs.Rows.{says_text}
use Rattle.wrappers.specs.Serving.{IsRead}
use Rattle.wrappers.specs.Text.{text_from, told}
use Rattle.wrappers.proofs.Told.{prints_none, prints_some}
use Rattle.wrappers.proofs.printing.prints.Goals as goal

pub returns-then-s-eq0 : goal.returns-then-s-eq0
returns-then-s-eq0 c =
    let none : eqb c.args.s 0 ≡ true = grind (arith, nat_tests, c.if-s-eq0.true) in
    subst (λ b. IsRead (cond b (says (Text (told []))) (says_text (text_from c.args.memory.now 33 c.args.s))) (Said (Text (told [])))) (sym none) (record { answer = refl; quiet = refl })

pub returns-in-None : goal.returns-in-None
returns-in-None c =
    let some : eqb c.args.s 0 ≡ false = grind (arith, nat_tests, c.if-s-eq0.false) in
    subst (λ b. IsRead (cond b (says (Text (told []))) (says_text (text_from c.args.memory.now 33 c.args.s))) Wild) (sym some)
    (prints_none (text_from c.args.memory.now 33 c.args.s) c.in-None.ensures)

pub returns-in-Some : goal.returns-in-Some
returns-in-Some c =
    let some : eqb c.args.s 0 ≡ false = grind (arith, nat_tests, c.if-s-eq0.false) in
    subst (λ b. IsRead (cond b (says (Text (told []))) (says_text (text_from c.args.memory.now 33 c.args.s))) (Said (Text c.in-Some.told))) (sym some)
    (prints_some (text_from c.args.memory.now 33 c.args.s) c.in-Some.told c.in-Some.ensures)
